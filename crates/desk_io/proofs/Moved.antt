-- What a read of a source in memory moves.
use Rattle.std.proofs.Common.{◌≡◌, ℕ, ◌+◌, List, ◌++◌, take, drop, sym, drop-drop, take-append-drop}

-- the bytes that were copied to the front of the room, and those that are still left, are what was left before
pub moved : (items room : List ℕ) (taken n : ℕ) → take n room ≡ take n (drop taken items) → drop taken items ≡ take n room ++ drop (taken + n) items
moved items room taken n is =
    let rest : drop n (drop taken items) ≡ drop (taken + n) items = drop-drop n taken items in
    rw (is, ← rest) (sym (take-append-drop n (drop taken items)))
