-- The keys of rows, and their order.
use Rattle.std.specs.Prelude.{ℕ, Bool, true, false, nat_eq, nat_lt, ◌==◌, ◌&&◌, ◌||◌, List, [], ◌∷◌}
use Rattle.std.specs.Cmp.Lexicographic.{pointwise}
use Rattle.desk_types.specs.declared.rows.Account.{Account}
use Rattle.desk_types.specs.declared.rows.Batch.{Batch}
use Rattle.desk_types.specs.declared.rows.BudgetSet.{BudgetSet}
use Rattle.desk_types.specs.declared.rows.Campaign.{Campaign}
use Rattle.desk_types.specs.declared.rows.Line.{Line}
use Rattle.desk_types.specs.declared.rows.Negative.{Negative}
use Rattle.desk_types.specs.declared.rows.Placement.{Placement}
use Rattle.desk_types.specs.Day.{day_of}

-- the key of a row: the numbers by which it is found in its table
abbrev pub account_key : Account → List ℕ
account_key a = a.number ∷ []

abbrev pub campaign_key : Campaign → List ℕ
campaign_key c = c.account ∷ c.number ∷ []

abbrev pub budget_key : BudgetSet → List ℕ
budget_key b = b.account ∷ b.campaign ∷ day_of b.at ∷ []

abbrev pub line_key : Line → List ℕ
line_key l = l.account ∷ l.number ∷ []

abbrev pub negative_key : Negative → List ℕ
negative_key n = n.account ∷ n.number ∷ []

abbrev pub placement_key : Placement → List ℕ
placement_key p = p.number ∷ []

abbrev pub batch_key : Batch → List ℕ
batch_key b = b.account ∷ b.number ∷ []

-- whether two keys are equal
abbrev pub is_same_key : List ℕ → List ℕ → Bool
is_same_key key other = pointwise nat_eq key other

-- whether a key is less than another: it is at the first number in which they differ
abbrev pub is_less_key : List ℕ → List ℕ → Bool
is_less_key [] [] = false
is_less_key [] (y ∷ other) = true
is_less_key (x ∷ key) [] = false
is_less_key (x ∷ key) (y ∷ other) = nat_lt x y || (x == y && is_less_key key other)
