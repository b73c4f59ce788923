-- Changes that a book can put: their accounts are there.
use Rattle.std.specs.Prelude.{◌≡◌, ℕ, ◌+◌, ◌⊎◌, IsTrue, is_some, List, [], ◌∷◌, length, All, ⊤}
use Rattle.desk_types.specs.declared.tables.Change.{Change}
use Rattle.desk_types.specs.declared.tables.Change.TheVariants.{PutAccount, PutCampaign, PutBudget, PutLine, PutNegative, PutPlacement, PutBatch, PutFate}
use Rattle.desk_types.specs.declared.tables.Tables.{Tables}
use Rattle.desk_types.specs.Tables.{account_of, campaign_of, line_of, negative_of, campaigns_of, lines_of, negatives_of, put}

-- the account is there
abbrev pub HasAccount : Tables → ℕ → Type 0
HasAccount T account = IsTrue (is_some (account_of T account))

-- a row has a number that is there, or the next one; its account is there
abbrev pub IsAtHome : Tables → Change → Type 0
IsAtHome T (PutAccount a) = HasAccount T a.number ⊎ (a.number ≡ length T.accounts + 1)
IsAtHome T (PutCampaign c) = HasAccount T c.account
    × (IsTrue (is_some (campaign_of T c.account c.number)) ⊎ (c.number ≡ campaigns_of T c.account + 1))
IsAtHome T (PutBudget b) = HasAccount T b.account
IsAtHome T (PutLine l) = HasAccount T l.account
    × (IsTrue (is_some (line_of T l.account l.number)) ⊎ (l.number ≡ lines_of T l.account + 1))
IsAtHome T (PutNegative n) = HasAccount T n.account
    × (IsTrue (is_some (negative_of T n.account n.number)) ⊎ (n.number ≡ negatives_of T n.account + 1))
IsAtHome T (PutPlacement p) = ⊥
IsAtHome T (PutBatch b) = HasAccount T b.account
IsAtHome T (PutFate number fate) = ⊥

-- so is each change, behind those before it
abbrev pub AreAtHome : Tables → List Change → Type 0
AreAtHome T [] = ⊤
AreAtHome T (change ∷ changes) = IsAtHome T change × AreAtHome (put T change) changes

-- the account of the row that a change puts is there, where the row is not one itself
abbrev pub HasOwner : Tables → Change → Type 0
HasOwner T (PutAccount a) = ⊤
HasOwner T (PutCampaign c) = HasAccount T c.account
HasOwner T (PutBudget b) = HasAccount T b.account
HasOwner T (PutLine l) = HasAccount T l.account
HasOwner T (PutNegative n) = HasAccount T n.account
HasOwner T (PutPlacement p) = ⊥
HasOwner T (PutBatch b) = HasAccount T b.account
HasOwner T (PutFate number fate) = ⊥

-- changes that a book can put
pub record CanBePut (T : Tables) (changes : List Change) : Type 0 where
  pub owners : All (HasOwner T) changes
  pub at_home : AreAtHome T changes
