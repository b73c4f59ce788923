use Rattle.std.proofs.Common.{◌≡◌, ◌≤◌, ℕ, Bool, true, false, refl, List, [], ◌∷◌, arith}
use Rattle.desk_io.specs.LinkInMemory.{LinkValue}
use Rattle.desk_doors.specs.DoorInMemory.{is_shut}

-- a door where links waited, and which was not closed, is open
pub open_waits : (links : List LinkValue) (closed : Bool) (n : ℕ) → (closed ≡ true → n ≡ 0) → 1 ≤ n → is_shut links closed ≡ false
open_waits [] true n h p = let e : n ≡ 0 = h refl in Prim.grind arith
open_waits [] false n h p = refl
open_waits (link ∷ links) closed n h p = refl
