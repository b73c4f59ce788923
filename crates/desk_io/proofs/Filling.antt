-- A read behind the bytes that a window holds.
use Rattle.std.proofs.Common.{◌≡◌, ℕ, ◌+◌, ◌-◌, ◌≤◌, List, [], ◌++◌, length, take, drop, sym, ap, ◌∙◌, append-nil, length-append, length-take-le, take_at, drop-drop, arith}
use Rattle.std.proofs.lemmas.List.{drop_all, drop-append-le}
use Rattle.std.proofs.Math.Seq.{take-append-add}

-- a buffer after the part from `end` on was written: what stood before, then what was written there
written : (items room : List ℕ) (end len : ℕ) → end ≤ length items → len ≡ length items → length room ≡ length items - end → take len (take end items ++ (room ++ drop (length items - end) (drop end items)) ++ drop (length (take end items ++ (room ++ drop (length items - end) (drop end items)))) items) ≡ take end items ++ room
written items room end len inside all fits =
    let past : drop (length items - end) (drop end items) ≡ [] = drop-drop (length items - end) end items ∙ drop_all (end + (length items - end)) items (omega arith) in
    let whole : take end items ++ (room ++ drop (length items - end) (drop end items)) ≡ take end items ++ room = ap (λ (more : List ℕ). take end items ++ (room ++ more)) past ∙ ap (λ (more : List ℕ). take end items ++ more) (append-nil room) in
    let front : length (take end items) ≡ end = length-take-le end items inside in
    rw whole (take_at (take end items ++ room) (drop (length (take end items ++ room)) items) len (length-append (take end items) room ∙ omega arith))

-- the bytes read stand behind those that were held
held_more : (items room : List ℕ) (start end n : ℕ) → start ≤ end → end ≤ length items → drop start (take (end + n) (take end items ++ room)) ≡ drop start (take end items) ++ take n room
held_more items room start end n before inside =
    let front : length (take end items) ≡ end = length-take-le end items inside in
    let taken : take (end + n) (take end items ++ room) ≡ take end items ++ take n room = ap (λ (k : ℕ). take (k + n) (take end items ++ room)) (sym front) ∙ take-append-add (take end items) room n in
    ap (drop start) taken ∙ drop-append-le start (take end items) (take n room) (omega arith)

filled_same : (items room : List ℕ) (start end len n : ℕ) → start ≤ end → end ≤ length items → len ≡ length items → length room ≡ length items - end → drop start (take (end + n) (take len (take end items ++ (room ++ drop (length items - end) (drop end items)) ++ drop (length (take end items ++ (room ++ drop (length items - end) (drop end items)))) items))) ≡ drop start (take end items) ++ take n room
filled_same items room start end len n before inside all fits =
    ap (λ (now : List ℕ). drop start (take (end + n) now)) (written items room end len inside all fits) ∙ held_more items room start end n before inside

-- the same, where the part was lent by another name of the buffer
pub filled : (lent items room : List ℕ) (start end len n : ℕ) → lent ≡ items → start ≤ end → end ≤ len → len ≡ length items → length room ≡ length lent - end → drop start (take (end + n) (take len (take end lent ++ (room ++ drop (length lent - end) (drop end lent)) ++ drop (length (take end lent ++ (room ++ drop (length lent - end) (drop end lent)))) items))) ≡ drop start (take end items) ++ take n room
filled lent items room start end len n is before inside all fits =
    let same : length lent ≡ length items = ap length is in
    rw is (filled_same items room start end len n before (omega arith) all (omega arith))
