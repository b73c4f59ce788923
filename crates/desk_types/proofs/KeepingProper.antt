-- Changes that keep what is kept of the rows, beside those that are lawful.
use Rattle.std.proofs.Common.{◌≡◌, ℕ, ◌+◌, ◌≤◌, true, false, ◌&&◌, ◌⊎◌, List, [], ◌∷◌}
use Rattle.desk_types.specs.declared.limits.TheConstants.{CLICK_WINDOW, LINES_MAX, NEGATIVES_MAX}
use Rattle.desk_types.specs.declared.rows.Batch.{Batch}
use Rattle.desk_types.specs.declared.rows.BudgetSet.{BudgetSet}
use Rattle.desk_types.specs.declared.rows.Fate.{Fate}
use Rattle.desk_types.specs.declared.rows.Fate.TheVariants.{Open, Settled, Credited}
use Rattle.desk_types.specs.declared.rows.Line.{Line}
use Rattle.desk_types.specs.declared.rows.Negative.{Negative}
use Rattle.desk_types.specs.declared.rows.Placement.{Placement}
use Rattle.desk_types.specs.declared.tables.Change.{Change}
use Rattle.desk_types.specs.declared.tables.Change.TheVariants.{PutAccount, PutCampaign, PutBudget, PutLine, PutNegative, PutPlacement, PutBatch, PutFate}
use Rattle.desk_types.specs.declared.tables.Tables.{Tables}
use Rattle.desk_types.specs.Fields.{is_key}
use Rattle.desk_types.specs.Judged.{is_line_like}
use Rattle.desk_types.specs.Keys.{is_same_key, line_key, negative_key}
use Rattle.desk_types.specs.Rules.{has_account, has_campaign, has_line_of, has_lines_of, is_good_batch, is_good_budget, is_good_line, is_good_placement, is_negative_like}
use Rattle.desk_types.specs.State.{State}
use Rattle.desk_types.specs.Tables.{has_key, lines_of, negatives_of}
use Rattle.desk_types.proofs.EachRow.{Each}
use Rattle.desk_types.proofs.Lawful.{changed}

-- a setting of now in range, of a campaign that is there
pub record IsProperBudget (S : State) (b : BudgetSet) : Type 0 where
  pub good : is_good_budget b ≡ true
  pub named : has_campaign S.tables b.account b.campaign ≡ true
  pub now : b.at ≡ S.moment

-- a line whose pattern is new in its campaign, where the account has room
pub record IsNewLine (T : Tables) (l : Line) : Type 0 where
  pub apart : Each (λ k. is_line_like l.account l.campaign l.pattern k ≡ false) T.lines
  pub room : lines_of T l.account + 1 ≤ LINES_MAX

-- a line with good fields of a campaign that is there, which keeps campaign and pattern of the one whose place it takes
pub record IsProperLine (T : Tables) (l : Line) : Type 0 where
  pub good : is_good_line l ≡ true
  pub named : has_campaign T l.account l.campaign ≡ true
  pub alike : Each (λ k. is_same_key (line_key k) (line_key l) ≡ true → (k.campaign ≡ l.campaign) × (k.pattern ≡ l.pattern)) T.lines
  pub new : (has_key line_key (line_key l) T.lines ≡ true) ⊎ IsNewLine T l

-- the same of negatives
pub record IsNewNegative (T : Tables) (n : Negative) : Type 0 where
  pub apart : Each (λ k. is_negative_like n.account n.campaign n.pattern k ≡ false) T.negatives
  pub room : negatives_of T n.account + 1 ≤ NEGATIVES_MAX

pub record IsProperNegative (T : Tables) (n : Negative) : Type 0 where
  pub named : has_campaign T n.account n.campaign ≡ true
  pub alike : Each (λ k. is_same_key (negative_key k) (negative_key n) ≡ true → (k.campaign ≡ n.campaign) × (k.pattern ≡ n.pattern)) T.negatives
  pub new : (has_key negative_key (negative_key n) T.negatives ≡ true) ⊎ IsNewNegative T n

-- a placement with good fields, of now, of a line of its campaign
pub record IsProperPlacement (S : State) (p : Placement) : Type 0 where
  pub good : is_good_placement p ≡ true
  pub named : (has_campaign S.tables p.account p.campaign && has_line_of S.tables p) ≡ true
  pub now : p.shown ≡ S.moment
  pub deadline : p.deadline ≡ p.shown + CLICK_WINDOW

-- a fate that begins at this moment
abbrev pub IsOfNow : ℕ → Fate → Type 0
IsOfNow moment Open = ⊥
IsOfNow moment (Settled at) = at ≡ moment
IsOfNow moment (Credited settled at) = at ≡ moment

-- a batch with good fields, whose lines are there
pub record IsProperBatch (T : Tables) (b : Batch) : Type 0 where
  pub good : is_good_batch b ≡ true
  pub named : (has_account T b.account && has_lines_of T b) ≡ true

-- what a change is to be
abbrev pub IsProper : State → Change → Type 0
IsProper S (PutAccount a) = is_key a.key ≡ true
IsProper S (PutCampaign c) = has_account S.tables c.account ≡ true
IsProper S (PutBudget b) = IsProperBudget S b
IsProper S (PutLine l) = IsProperLine S.tables l
IsProper S (PutNegative n) = IsProperNegative S.tables n
IsProper S (PutPlacement p) = IsProperPlacement S p
IsProper S (PutFate number fate) = IsOfNow S.moment fate
IsProper S (PutBatch b) = IsProperBatch S.tables b

abbrev pub AreProper : State → List Change → Type 0
AreProper S [] = Unit {0}
AreProper S (c ∷ cs) = IsProper S c × AreProper (changed S c) cs
