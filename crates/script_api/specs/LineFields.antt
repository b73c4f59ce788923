-- The fields of a text, and the texts that stand behind them.
use Rattle.std.specs.Prelude.{ℕ, ◌==◌, ◌&&◌, nat_lt, if◌then◌else◌, List, [], ◌∷◌, length, filter}
use Rattle.std.specs.List.{slice_split, after_first}

-- the fields of a text, which one or more spaces part
unfoldable pub fields : List ℕ → List (List ℕ)
fields text = filter (λ field. nat_lt 0 (length field)) (slice_split (λ byte. byte == 32) text)

-- the text from its first byte on that is no space
unfoldable pub unspaced : List ℕ → List ℕ
unspaced [] = []
unspaced (byte ∷ more) = if byte == 32 then unspaced more else byte ∷ more

-- the text without the spaces at its end
unfoldable pub unspaced_end : List ℕ → List ℕ
unspaced_end [] = []
unspaced_end (byte ∷ more) = if byte == 32 && length (unspaced_end more) == 0 then [] else byte ∷ unspaced_end more

-- what stands behind the first field of a text and the space that ends it
unfoldable pub behind_first : List ℕ → List ℕ
behind_first text = after_first (λ byte. byte == 32) (unspaced text)

-- what stands behind the third field, and behind the fifth
abbrev pub behind_third : List ℕ → List ℕ
behind_third text = behind_first (behind_first (behind_first text))

abbrev pub behind_fifth : List ℕ → List ℕ
behind_fifth text = behind_first (behind_first (behind_third text))
