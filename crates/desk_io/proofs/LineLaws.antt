-- Lines are cut off one by one, from the front.
use Rattle.std.proofs.Common.{◌≡◌, ℕ, ◌+◌, ◌<◌, ◌≤◌, false, ◌==◌, List, [], ◌∷◌, length, take, drop, refl, sym, ap, ◌∙◌, ⊎_elim, arith}
use Rattle.std.specs.List.{position_or_len, slice_split}
use Rattle.std.proofs.lemmas.Bool.{cases_lt, lt-ltb, le-ltb, ne_eqb, cond-true, cond-false}
use Rattle.std.proofs.lemmas.List.{drop_all}
use Rattle.std.proofs.lemmas.List.Elements.{All-from_get_or}
use Rattle.std.proofs.lemmas.List.Sums.{fails_before_first}
use Rattle.std.proofs.lemmas.List.Splits.{slice_split_none, slice_split_first, length-slice_split}
use Rattle.desk_io.specs.Lines.{Line, is_line_feed, ended_line, last_line, lines_of_stretches, lines, first_line, after_first_line}

-- no bytes have no lines
pub lines-nil : lines [] ≡ []
unfolding lines lines_of_stretches
lines-nil = refl

stretches_more : (bytes : List ℕ) (rest : List (List ℕ)) → 0 < length rest → lines_of_stretches (bytes ∷ rest) ≡ ended_line bytes ∷ lines_of_stretches rest
unfolding lines_of_stretches
stretches_more bytes [] some = absurd (omega arith)
stretches_more bytes (next ∷ more) some = refl

stretches_last : (bytes : List ℕ) → 0 < length bytes → lines_of_stretches (bytes ∷ []) ≡ last_line bytes ∷ []
unfolding lines_of_stretches
stretches_last bytes some = cond-false (length bytes == 0) [] (last_line bytes ∷ []) (ne_eqb (length bytes) 0 (λ none. omega arith))

-- where a line feed stands, the first line ends there
pub first_line-ended : (bytes : List ℕ) → position_or_len is_line_feed bytes < length bytes → first_line bytes ≡ ended_line (take (position_or_len is_line_feed bytes) bytes)
unfolding first_line
first_line-ended bytes found = cond-true _ _ _ (lt-ltb (position_or_len is_line_feed bytes) (length bytes) found)

-- where no line feed stands, the first line is all
pub first_line-last : (bytes : List ℕ) → length bytes ≤ position_or_len is_line_feed bytes → first_line bytes ≡ last_line bytes
unfolding first_line
first_line-last bytes none = cond-false _ _ _ (le-ltb (position_or_len is_line_feed bytes) (length bytes) none)

pub after_first_line-last : (bytes : List ℕ) → length bytes ≤ position_or_len is_line_feed bytes → after_first_line bytes ≡ []
unfolding after_first_line
after_first_line-last bytes none = drop_all (position_or_len is_line_feed bytes + 1) bytes (omega arith)

lines-ended : (bytes : List ℕ) → position_or_len is_line_feed bytes < length bytes → lines bytes ≡ first_line bytes ∷ lines (after_first_line bytes)
unfolding lines after_first_line
lines-ended bytes found =
    let rest = drop (position_or_len is_line_feed bytes + 1) bytes in
    let some : 0 < length (slice_split is_line_feed rest) = omega (arith, length-slice_split is_line_feed rest) in
    ap lines_of_stretches (slice_split_first is_line_feed bytes 0 found)
    ∙ stretches_more _ _ some
    ∙ ap (λ (line : Line). line ∷ lines_of_stretches (slice_split is_line_feed rest)) (sym (first_line-ended bytes found))

lines-one : (bytes : List ℕ) → 0 < length bytes → length bytes ≤ position_or_len is_line_feed bytes → lines bytes ≡ last_line bytes ∷ []
unfolding lines
lines-one bytes some none = ap lines_of_stretches (slice_split_none is_line_feed bytes (All-from_get_or (λ (byte : ℕ). is_line_feed byte ≡ false) bytes 0 (λ k below. fails_before_first is_line_feed bytes k 0 (omega arith)))) ∙ stretches_last bytes some

lines-last : (bytes : List ℕ) → 0 < length bytes → length bytes ≤ position_or_len is_line_feed bytes → lines bytes ≡ first_line bytes ∷ lines (after_first_line bytes)
lines-last bytes some none =
    lines-one bytes some none ∙ sym (rw (first_line-last bytes none, after_first_line-last bytes none, lines-nil) refl)

-- bytes have a first line, and then the lines of what stands behind it
pub lines-cons : (bytes : List ℕ) → 0 < length bytes → lines bytes ≡ first_line bytes ∷ lines (after_first_line bytes)
lines-cons bytes some = ⊎_elim (lines-ended bytes) (lines-last bytes some) (cases_lt (position_or_len is_line_feed bytes) (length bytes))

pub ruleset line_laws = (lines-nil, lines-cons)
