-- What holds of the rows at each moment and stays so, call by call: what the laws of the ledger need of sound rows.
use Rattle.std.specs.Prelude.{ℕ, ◌≤◌, IsTrue, length, is_some, All}
use Rattle.desk_types.specs.declared.limits.TheConstants.{ACCOUNTS_MAX, BUDGET_MAX, CAMPAIGNS_MAX, MOMENT_MAX}
use Rattle.desk_types.specs.declared.tables.Tables.{Tables}
use Rattle.auction_types.specs.AdValue.{IsInRange}
use Rattle.desk_types.specs.Eligible.{ad_of}
use Rattle.desk_types.specs.Sound.{AreNumbered, StandInOrder, StaysWithinBudgets}
use Rattle.desk_types.specs.State.{State}
use Rattle.desk_types.specs.Tables.{campaign_of, campaigns_of, line_of}

-- the campaign of each budget setting is there, and the line of each placement
pub record NamesAreThere (T : Tables) : Type 0 where
  pub budgets : All (λ b. IsTrue (is_some (campaign_of T b.account b.campaign))) T.budgets
  pub placements : All (λ p. IsTrue (is_some (line_of T p.account p.line))) T.placements

-- there are at most so many accounts, and campaigns of each, and budgets are within their range
pub record AreWithinLimits (T : Tables) : Type 0 where
  pub accounts : length T.accounts ≤ ACCOUNTS_MAX
  pub campaigns : (account : ℕ) → campaigns_of T account ≤ CAMPAIGNS_MAX
  pub budgets : All (λ b. b.amount ≤ BUDGET_MAX) T.budgets

-- no budget was set, and nothing was shown, later than this moment
pub record IsPast (moment : ℕ) (T : Tables) : Type 0 where
  pub budgets : All (λ b. b.at ≤ moment) T.budgets
  pub placements : All (λ p. p.shown ≤ moment) T.placements

-- what stays of the rows of a sound state, in the form in which the laws use it
pub record IsStable (S : State) : Type 0 where
  pub moment : S.moment ≤ MOMENT_MAX
  pub in_order : StandInOrder S.tables
  pub numbered : AreNumbered S.tables
  pub in_range : All (λ l. IsInRange (ad_of l)) S.tables.lines
  pub within_limits : AreWithinLimits S.tables
  pub past : IsPast S.moment S.tables
  pub named : NamesAreThere S.tables
  pub within_budgets : StaysWithinBudgets S
