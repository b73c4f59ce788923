-- What is kept of the rows of a state, rule by rule: the form in which soundness is proved and used.
use Rattle.std.proofs.Common.{◌≡◌, ℕ, ◌+◌, ◌≤◌, true, false, ◌&&◌, List, length}
use Rattle.std.specs.List.{All, AllPairs}
use Rattle.desk_types.specs.declared.limits.TheConstants.{ACCOUNTS_MAX, CAMPAIGNS_MAX, CLICK_WINDOW, LINES_MAX, MOMENT_MAX, NEGATIVES_MAX}
use Rattle.desk_types.specs.declared.rows.Line.{Line}
use Rattle.desk_types.specs.declared.rows.Negative.{Negative}
use Rattle.desk_types.specs.declared.rows.Placement.{Placement}
use Rattle.desk_types.specs.declared.tables.Tables.{Tables}
use Rattle.desk_types.specs.Fields.{is_key}
use Rattle.desk_types.specs.Judged.{is_line_like}
use Rattle.desk_types.specs.Opening.{latest, opened}
use Rattle.desk_types.specs.Rules.{has_account, has_budget, has_campaign, has_line_of, has_lines_of, is_good_batch, is_good_budget, is_good_line, is_good_placement, is_in_window, is_negative_like}
use Rattle.desk_types.specs.Sound.{AreNumbered, StandInOrder, StaysWithinBudgets}
use Rattle.desk_types.specs.State.{State}
use Rattle.desk_types.specs.Tables.{campaigns_of, lines_of, negatives_of}

-- rule 2
pub record HaveGoodFields (T : Tables) : Type 0 where
  pub accounts : All (λ a. is_key a.key ≡ true) T.accounts
  pub budgets : All (λ b. is_good_budget b ≡ true) T.budgets
  pub lines : All (λ l. is_good_line l ≡ true) T.lines
  pub placements : All (λ p. is_good_placement p ≡ true) T.placements
  pub batches : All (λ b. is_good_batch b ≡ true) T.batches

-- rule 4
pub record HaveNames (T : Tables) : Type 0 where
  pub campaigns : All (λ c. has_account T c.account ≡ true) T.campaigns
  pub budgets : All (λ b. has_campaign T b.account b.campaign ≡ true) T.budgets
  pub lines : All (λ l. has_campaign T l.account l.campaign ≡ true) T.lines
  pub negatives : All (λ n. has_campaign T n.account n.campaign ≡ true) T.negatives
  pub placements : All (λ p. (has_campaign T p.account p.campaign && has_line_of T p) ≡ true) T.placements
  pub batches : All (λ b. (has_account T b.account && has_lines_of T b) ≡ true) T.batches

-- rule 5
pub record PatternsDiffer (T : Tables) : Type 0 where
  pub lines : AllPairs (λ (l later : Line). is_line_like later.account later.campaign later.pattern l ≡ false) T.lines
  pub negatives : AllPairs (λ (n later : Negative). is_negative_like later.account later.campaign later.pattern n ≡ false) T.negatives

-- rule 6
pub record FitLimits (T : Tables) : Type 0 where
  pub accounts : length T.accounts ≤ ACCOUNTS_MAX
  pub campaigns : (account : ℕ) → campaigns_of T account ≤ CAMPAIGNS_MAX
  pub lines : (account : ℕ) → lines_of T account ≤ LINES_MAX
  pub negatives : (account : ℕ) → negatives_of T account ≤ NEGATIVES_MAX

-- rule 7
abbrev pub HaveBudgets : Tables → Type 0
HaveBudgets T = All (λ c. has_budget T c ≡ true) T.campaigns

-- rule 8
pub record AreInTurn (rows : List Placement) : Type 0 where
  pub moments : AllPairs (λ (p later : Placement). p.shown ≤ later.shown) rows
  pub deadlines : All (λ p. p.deadline ≡ p.shown + CLICK_WINDOW) rows
  pub windows : All (λ p. is_in_window p p.fate ≡ true) rows

-- all but rule 7; rules 1 and 3 are of the definitions, and rule 9 is of the last moment that the rows tell
pub record IsAlmostKept (S : State) : Type 0 where
  pub moment : S.moment ≤ MOMENT_MAX
  pub past : latest S.tables ≤ S.moment
  pub in_order : StandInOrder S.tables
  pub numbered : AreNumbered S.tables
  pub fields : HaveGoodFields S.tables
  pub named : HaveNames S.tables
  pub apart : PatternsDiffer S.tables
  pub limits : FitLimits S.tables
  pub in_turn : AreInTurn S.tables.placements
  pub paid : StaysWithinBudgets (opened S.settings S.tables)

pub record IsKept (S : State) : Type 0 where
  pub almost : IsAlmostKept S
  pub budgets : HaveBudgets S.tables
