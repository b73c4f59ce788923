-- Tables of refusals that are joined, and rows of a table.
use Rattle.std.proofs.Common.{◌≡◌, Bool, true, false, Option, None, Some, List, [], ◌∷◌, ◌++◌, refl, sym, subst}
use Rattle.desk_types.specs.declared.refusal.Refusal.{Refusal}
use Rattle.desk_types.specs.Judged.{first, when}
use Rattle.accounts.specs.declared.plan.EditFault.{EditFault}
use Rattle.accounts.specs.declared.plan.EditFault.TheVariants.{Refused, NoMemory}
use Rattle.accounts.specs.Planned.{IsFirst}

-- where no refusal of the one table holds, the first is that of the other
pub first-past : (rows more : List (Option Refusal)) → first rows ≡ None → first (rows ++ more) ≡ first more
first-past [] more h = refl
first-past (None ∷ rows) more h = first-past rows more h
first-past (Some refused ∷ rows) more h = absurd cc

-- what stops at the one table stops at both
pub stopped-among : (rows more : List (Option Refusal)) (stop : EditFault) → IsFirst rows stop → IsFirst (rows ++ more) stop
stopped-among rows more NoMemory h = tt
stopped-among [] more (Refused refused) h = absurd cc
stopped-among (None ∷ rows) more (Refused refused) h = stopped-among rows more (Refused refused) h
stopped-among (Some other ∷ rows) more (Refused refused) h = h

-- what stops at the other stops at both, where no refusal of the one holds
pub stopped-past : (rows more : List (Option Refusal)) (stop : EditFault) → first rows ≡ None → IsFirst more stop → IsFirst (rows ++ more) stop
stopped-past rows more NoMemory h k = tt
stopped-past [] more (Refused refused) h k = k
stopped-past (None ∷ rows) more (Refused refused) h k = stopped-past rows more (Refused refused) h k
stopped-past (Some other ∷ rows) more (Refused refused) h k = absurd cc

-- a row that holds gives its refusal, and one that does not leaves the rest
pub first_holds : (test : Bool) (refused : Refusal) (later : List (Option Refusal)) → test ≡ true → first (when test refused ∷ later) ≡ Some refused
first_holds true refused later h = refl
first_holds false refused later h = absurd cc

pub first_fails : (test : Bool) (refused : Refusal) (later : List (Option Refusal)) → test ≡ false → first (when test refused ∷ later) ≡ first later
first_fails true refused later h = absurd cc
first_fails false refused later h = refl

pub row_stops : (test : Bool) (refused : Refusal) (later : List (Option Refusal)) (stop : EditFault) → test ≡ true → stop ≡ Refused refused → IsFirst (when test refused ∷ later) stop
row_stops test refused later stop holds is = subst (IsFirst (when test refused ∷ later)) (sym is) (first_holds test refused later holds)

pub row_passes : (test : Bool) (refused : Refusal) (later : List (Option Refusal)) (stop : EditFault) → test ≡ false → IsFirst later stop → IsFirst (when test refused ∷ later) stop
row_passes true refused later stop fails h = absurd cc
row_passes false refused later NoMemory fails h = tt
row_passes false refused later (Refused other) fails h = h
