-- Two texts round a bar.
use Rattle.std.specs.Prelude.{ℕ, Bool, ◌&&◌, nat_lt, if◌then◌else◌, List, [], ◌∷◌, length, take, drop, codes, bytes_eq, Option, Some, None, option_map}

-- whether a space, a bar and a space begin the text
abbrev pub begins_with_bar : List ℕ → Bool
begins_with_bar text = bytes_eq (take 3 text) (codes " | ")

-- what stands before the first space, bar, space of a text, and what stands behind it
unfoldable pub cut_at_bar : List ℕ → Option (List ℕ × List ℕ)
cut_at_bar [] = None
cut_at_bar (byte ∷ more) =
    if begins_with_bar (byte ∷ more) then Some ([], drop 3 (byte ∷ more))
    else option_map (λ cut. (byte ∷ cut.0, cut.1)) (cut_at_bar more)

-- the two, where neither is empty
abbrev pub both : Option (List ℕ × List ℕ) → Option (List ℕ × List ℕ)
both None = None
both (Some cut) = if nat_lt 0 (length cut.0) && nat_lt 0 (length cut.1) then Some cut else None
