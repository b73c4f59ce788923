-- Bytes cut behind their first line feed.
use Rattle.std.proofs.Common.{◌≡◌, ℕ, ◌+◌, ◌<◌, ◌≤◌, true, false, not, List, [], ◌∷◌, ◌++◌, length, take, drop, refl, sym, ap, ◌∙◌, ⊎_elim, append_assoc, take_at, length-append, arith}
use Rattle.std.specs.List.{position_or_len, before_first, after_first}
use Rattle.std.proofs.lemmas.Bool.{cases_lt, false≢true, eqb-true, eq-eqb, cond-true}
use Rattle.std.proofs.lemmas.List.{drop_all, drop-append-le, get_or-take}
use Rattle.std.proofs.lemmas.List.Folds.{prefix_len-append, length-prefix_len}
use Rattle.std.proofs.lemmas.List.Sums.{passes_at_first, fails_before_first, position_or_len_is, split_at_first}
use Rattle.desk_io.specs.Lines.{is_line_feed, has_line_feed, ended_line, first_line, after_first_line}
use Rattle.desk_io.proofs.LineLaws.{first_line-ended, after_first_line-last}
use Rattle.desk_io.proofs.LineFeeds.{has_feed-none, has_feed-some}

no_feed : (bytes : List ℕ) → has_line_feed bytes ≡ false → length bytes ≤ position_or_len is_line_feed bytes
no_feed bytes none = ⊎_elim (λ found. absurd (false≢true (sym none ∙ has_feed-some bytes found))) (λ at_end. at_end) (cases_lt (position_or_len is_line_feed bytes) (length bytes))

a_feed : (bytes : List ℕ) → has_line_feed bytes ≡ true → position_or_len is_line_feed bytes < length bytes
a_feed bytes some = ⊎_elim (λ found. found) (λ at_end. absurd (false≢true (sym (has_feed-none bytes at_end) ∙ some))) (cases_lt (position_or_len is_line_feed bytes) (length bytes))

-- where there is none, nothing stands behind the first line
pub cut-none : (bytes : List ℕ) → has_line_feed bytes ≡ false → after_first_line bytes ≡ []
cut-none bytes none = after_first_line-last bytes (no_feed bytes none)

-- bytes with a line feed are some
pub some-from_feed : (bytes : List ℕ) → has_line_feed bytes ≡ true → 0 < length bytes
some-from_feed bytes some = omega (arith, a_feed bytes some)

module _ (front : List ℕ) (before : position_or_len is_line_feed front ≡ length front) (more : List ℕ) where
  place : position_or_len is_line_feed (front ++ 10 ∷ more) ≡ length front
  place =
      let behind : position_or_len is_line_feed (front ++ 10 ∷ more) ≡ length front + 0 = prefix_len-append (λ byte. not (is_line_feed byte)) front (10 ∷ more) ∙ cond-true _ _ _ (eq-eqb _ _ before) in
      omega arith

  found : position_or_len is_line_feed (front ++ 10 ∷ more) < length (front ++ 10 ∷ more)
  found = let all : length (front ++ 10 ∷ more) ≡ length front + length (10 ∷ more) = length-append front (10 ∷ more) in omega (arith, place)

  first_line-front : first_line (front ++ 10 ∷ more) ≡ ended_line front
  first_line-front = first_line-ended (front ++ 10 ∷ more) found ∙ ap ended_line (ap (λ n. take n (front ++ 10 ∷ more)) place ∙ take_at front (10 ∷ more) (length front) refl)

  after_first_line-front : after_first_line (front ++ 10 ∷ more) ≡ more
  unfolding after_first_line
  after_first_line-front =
      let size : length (front ++ 10 ∷ []) ≡ length front + 1 = length-append front (10 ∷ []) in
      ap (λ n. drop (n + 1) (front ++ 10 ∷ more)) place
      ∙ ap (drop (length front + 1)) (sym (append_assoc front (10 ∷ []) more))
      ∙ drop-append-le (length front + 1) (front ++ 10 ∷ []) more (omega arith)
      ∙ ap (λ rest. rest ++ more) (drop_all (length front + 1) (front ++ 10 ∷ []) (omega arith))

-- the first line with its line feed, and what stands behind it, whatever that is
pub record IsCut (bytes : List ℕ) : Type 0 where
  pub front : List ℕ
  pub whole : bytes ≡ front ++ 10 ∷ after_first_line bytes
  pub first : (more : List ℕ) → first_line (front ++ 10 ∷ more) ≡ first_line bytes
  pub rest : (more : List ℕ) → after_first_line (front ++ 10 ∷ more) ≡ more
  pub some : (more : List ℕ) → 0 < length (front ++ 10 ∷ more)

before_front : (bytes : List ℕ) → position_or_len is_line_feed bytes < length bytes → position_or_len is_line_feed (before_first is_line_feed bytes) ≡ length (before_first is_line_feed bytes)
before_front bytes found =
    let front = before_first is_line_feed bytes in
    let size : length front ≡ position_or_len is_line_feed bytes = length-prefix_len (λ byte. not (is_line_feed byte)) bytes in
    position_or_len_is is_line_feed front (length front) 0 (omega arith)
    (λ k below. ap is_line_feed (get_or-take (position_or_len is_line_feed bytes) bytes k 0 (omega arith)) ∙ fails_before_first is_line_feed bytes k 0 (omega arith))
    (λ inside. absurd (omega arith))

whole_front : (bytes : List ℕ) → position_or_len is_line_feed bytes < length bytes → bytes ≡ before_first is_line_feed bytes ++ 10 ∷ after_first_line bytes
unfolding after_first_line
whole_front bytes found =
    split_at_first is_line_feed bytes 0 found
    ∙ ap (λ byte. before_first is_line_feed bytes ++ byte ∷ after_first is_line_feed bytes) (eqb-true _ _ (passes_at_first is_line_feed bytes 0 found))

pub cut-some : (bytes : List ℕ) → has_line_feed bytes ≡ true → IsCut bytes
cut-some bytes some =
    let front = before_first is_line_feed bytes in
    let found = a_feed bytes some in
    let before = before_front bytes found in
    record {
      front = front;
      whole = whole_front bytes found;
      first = λ more. first_line-front front before more ∙ sym (first_line-ended bytes found);
      rest = λ more. after_first_line-front front before more;
      some = λ more. omega (arith, length-append front (10 ∷ more));
    }
