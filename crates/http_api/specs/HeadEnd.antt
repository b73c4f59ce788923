-- Where the head of a message ends.
use Rattle.std.specs.Prelude.{ℕ, ◌+◌, ◌-◌, ◌==◌, ◌&&◌, suc, if◌then◌else◌, List, [], ◌∷◌, length, take, bytes_eq, Option, Some, None, option_map}

-- the bytes behind the empty lines in front, which end with CR LF or with LF
unfoldable pub without_blank : List ℕ → List ℕ
without_blank [] = []
without_blank (first ∷ []) = if first == 10 then [] else first ∷ []
without_blank (first ∷ second ∷ more) =
    if first == 10 then without_blank (second ∷ more)
    else (if first == 13 && second == 10 then without_blank more
    else first ∷ second ∷ more)

-- how long the end of a head is that stands in front: a line feed, and an empty line behind it
abbrev pub end_in_front : List ℕ → Option ℕ
end_in_front bytes =
    if bytes_eq (take 2 bytes) (10 ∷ 10 ∷ []) then Some 2
    else (if bytes_eq (take 3 bytes) (10 ∷ 13 ∷ 10 ∷ []) then Some 3
    else None)

-- one more byte in front
abbrev pub unless_there : Option ℕ → Option ℕ → Option ℕ
unless_there (Some n) more = Some n
unless_there None more = option_map suc more

-- how many bytes run through the first end of a head
unfoldable pub length_through_end : List ℕ → Option ℕ
length_through_end [] = None
length_through_end (byte ∷ more) = unless_there (end_in_front (byte ∷ more)) (length_through_end more)

-- how long the head is that stands in front: empty lines before it count, and it runs through its first end
unfoldable pub head_length : List ℕ → Option ℕ
head_length bytes =
    let behind = without_blank bytes in
    option_map (λ n. length bytes - length behind + n) (length_through_end behind)
