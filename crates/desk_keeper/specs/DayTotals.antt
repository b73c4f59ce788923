-- What the placements of each campaign cost on each day, as it is added up.
use Rattle.std.specs.Prelude.{◌≡◌, ℕ, Bool, nat_eq, ◌&&◌, List, filter, sum_by, unwrap_or}
use Rattle.std.specs.HashMap.{get}
use Rattle.desk_types.specs.declared.rows.Placement.{Placement}
use Rattle.desk_types.specs.Rules.{is_charged}
use Rattle.desk_keeper.specs.declared.soundness.charges.Charges.{Charges}

-- whether an account, a campaign of it and a day are equal to others
abbrev pub is_same_day : ℕ × ℕ × ℕ → ℕ × ℕ × ℕ → Bool
is_same_day one other = (nat_eq one.0 other.0 && nat_eq one.1 other.1) && nat_eq one.2 other.2

-- what these placements are charged to a campaign on a day: those that are spent, or escrowed at the moment
abbrev pub charged : ℕ → ℕ → ℕ → ℕ → List Placement → ℕ
charged account campaign day moment rows = sum_by (λ p. p.price) (filter (is_charged account campaign day moment) rows)

-- the total of a campaign on a day
abbrev pub total_of : Charges → ℕ → ℕ → ℕ → ℕ
total_of charges account campaign day = unwrap_or (get is_same_day charges.totals (account, campaign, day)) 0

-- the totals are those of these placements
abbrev pub AreTotals : Charges → List Placement → Type 0
AreTotals charges rows = (account campaign day : ℕ)
    → total_of charges account campaign day ≡ charged account campaign day charges.moment rows
