-- Where the first line feed stands in a list, in a part of it, and in a longer one.
use Rattle.std.proofs.Common.{◌≡◌, ℕ, ◌+◌, ◌-◌, ◌<◌, ◌≤◌, true, false, not, List, [], ◌++◌, length, drop, get_or, Option, Some, None, IfSome, sym, ap, ◌∙◌, ⊎_elim, length-drop, get_or-drop, append-nil, arith}
use Rattle.std.specs.Prelude.{◌||◌, Bool, is_some}
use Rattle.std.specs.List.{position_or_len}
use Rattle.std.specs.Option.{option_map}
use Rattle.std.proofs.lemmas.Bool.{cases_lt, eq-eqb, ne_eqb, cond-true, cond-false, false_from_ne_true}
use Rattle.std.proofs.lemmas.List.Elements.{All-from_get_or}
use Rattle.std.proofs.lemmas.List.Folds.{prefix_len-append, list_any_none, list_any_at, list_any-append}
use Rattle.std.proofs.lemmas.List.Sums.{prefix_len-le-length, fails_before_first, passes_at_first, position_or_len_is}
use Rattle.memchr.specs.Find.{IsFirstByte, is_byte}
use Rattle.desk_io.specs.Lines.{is_line_feed, has_line_feed}

pub feed-within : (bytes : List ℕ) → position_or_len is_line_feed bytes ≤ length bytes
feed-within bytes = prefix_len-le-length (λ byte. not (is_line_feed byte)) bytes

-- what a search for the byte answers
pub feed_found : (bytes : List ℕ) (place : ℕ) → IsFirstByte (is_byte 10) bytes (Some place) → place ≡ position_or_len is_line_feed bytes
feed_found bytes place found =
    let below = found.0 in
    sym (position_or_len_is is_line_feed bytes place 0 (omega (arith, below.high))
    (λ k before. false_from_ne_true (is_line_feed (get_or bytes k 0)) (λ is. below.before k (omega arith) before is))
    (λ inside. found.1))

pub feed_none : (bytes : List ℕ) → IsFirstByte (is_byte 10) bytes None → length bytes ≡ position_or_len is_line_feed bytes
feed_none bytes none =
    sym (position_or_len_is is_line_feed bytes (length bytes) 0 (omega arith)
    (λ k before. false_from_ne_true (is_line_feed (get_or bytes k 0)) (λ is. none k (omega arith) before is))
    (λ inside. absurd (omega arith)))

-- where no line feed stands among the first bytes, those behind them are searched alone
pub feed_behind : (bytes : List ℕ) (searched : ℕ) → searched ≤ position_or_len is_line_feed bytes → searched + position_or_len is_line_feed (drop searched bytes) ≡ position_or_len is_line_feed bytes
feed_behind bytes searched low =
    let rest = drop searched bytes in
    let behind = position_or_len is_line_feed rest in
    let inside = feed-within bytes in
    let rest_inside = feed-within rest in
    let rest_length : length rest ≡ length bytes - searched = length-drop searched bytes in
    let none_before : (k : ℕ) → k < searched + behind → is_line_feed (get_or bytes k 0) ≡ false = λ k before. ⊎_elim
    (λ early. fails_before_first is_line_feed bytes k 0 (omega arith))
    (λ late.
    let here : searched + (k - searched) ≡ k = omega arith in
    let fails : is_line_feed (get_or rest (k - searched) 0) ≡ false = fails_before_first is_line_feed rest (k - searched) 0 (omega arith) in
    let same : get_or rest (k - searched) 0 ≡ get_or bytes (searched + (k - searched)) 0 = get_or-drop searched bytes (k - searched) 0 in
    sym (ap (λ (j : ℕ). is_line_feed (get_or bytes j 0)) here) ∙ sym (ap is_line_feed same) ∙ fails)
    (cases_lt k searched) in
    let at_end : searched + behind < length bytes → is_line_feed (get_or bytes (searched + behind) 0) ≡ true = λ found.
    sym (ap is_line_feed (get_or-drop searched bytes behind 0)) ∙ passes_at_first is_line_feed rest 0 (omega arith) in
    sym (position_or_len_is is_line_feed bytes (searched + behind) 0 (omega arith) none_before at_end)

-- more bytes do not move the first line feed
pub feed_in_front : (bytes more : List ℕ) → position_or_len is_line_feed bytes < length bytes → position_or_len is_line_feed (bytes ++ more) ≡ position_or_len is_line_feed bytes
feed_in_front bytes more found =
    let other : position_or_len is_line_feed bytes ≡ length bytes → ⊥ = λ same. omega arith in
    prefix_len-append (λ byte. not (is_line_feed byte)) bytes more ∙ cond-false _ _ _ (ne_eqb (position_or_len is_line_feed bytes) (length bytes) other)

-- nor do they bring it forward
pub feed_later : (bytes more : List ℕ) → position_or_len is_line_feed bytes ≤ position_or_len is_line_feed (bytes ++ more)
feed_later bytes more = ⊎_elim
    (λ found. let same = feed_in_front bytes more found in omega arith)
    (λ none.
    let inside = feed-within bytes in
    let all : position_or_len is_line_feed bytes ≡ length bytes = omega arith in
    let later : position_or_len is_line_feed (bytes ++ more) ≡ length bytes + position_or_len is_line_feed more =
    prefix_len-append (λ byte. not (is_line_feed byte)) bytes more ∙ cond-true _ _ _ (eq-eqb (position_or_len is_line_feed bytes) (length bytes) all) in
    omega arith)
    (cases_lt (position_or_len is_line_feed bytes) (length bytes))

-- where the first line feed stands says whether there is one
pub has_feed-none : (bytes : List ℕ) → length bytes ≤ position_or_len is_line_feed bytes → has_line_feed bytes ≡ false
has_feed-none bytes none = list_any_none is_line_feed bytes (All-from_get_or (λ (byte : ℕ). is_line_feed byte ≡ false) bytes 0 (λ k below. fails_before_first is_line_feed bytes k 0 (omega arith)))

pub has_feed-some : (bytes : List ℕ) → position_or_len is_line_feed bytes < length bytes → has_line_feed bytes ≡ true
has_feed-some bytes found = list_any_at is_line_feed bytes (position_or_len is_line_feed bytes) 0 found (passes_at_first is_line_feed bytes 0 found)

-- whether a search for the byte found one
pub has_feed-found : (bytes : List ℕ) (found : Option ℕ) → IsFirstByte (is_byte 10) bytes found → is_some found ≡ has_line_feed bytes
has_feed-found bytes (Some place) is = let at = feed_found bytes place is in sym (has_feed-some bytes (omega (arith, is.0.high)))
has_feed-found bytes None is = sym (has_feed-none bytes (omega (arith, feed_none bytes is)))

-- a line that a line feed among the bytes held ended, and one that the end of the source ended
pub ended_by_feed : (held : List ℕ) (left : Option (List ℕ)) (ended : Bool) → position_or_len is_line_feed held < length held → ended ≡ true → IfSome (option_map (λ bytes. held ++ bytes) left) (λ bytes. ended ≡ has_line_feed bytes)
ended_by_feed held None ended found is = tt
ended_by_feed held (Some bytes) ended found is = is ∙ sym (list_any-append is_line_feed held bytes ∙ ap (λ b. b || has_line_feed bytes) (has_feed-some held found))

pub ended_by_end : (held : List ℕ) (left : Option (List ℕ)) (ended : Bool) → length held ≤ position_or_len is_line_feed held → IfSome left (λ bytes. bytes ≡ []) → ended ≡ false → IfSome (option_map (λ bytes. held ++ bytes) left) (λ bytes. ended ≡ has_line_feed bytes)
ended_by_end held None ended none end is = tt
ended_by_end held (Some bytes) ended none end is = is ∙ sym (ap (λ rest. has_line_feed (held ++ rest)) end ∙ ap has_line_feed (append-nil held) ∙ has_feed-none held none)
