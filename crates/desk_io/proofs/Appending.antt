-- Appending to what a sink tells: nothing, and twice in a row; beginnings of a list.
use Rattle.std.proofs.Common.{◌≡◌, ℕ, ◌+◌, ◌-◌, ◌^◌, ◌<◌, min, List, [], ◌∷◌, ◌++◌, length, Option, Some, None, IfSome, refl, sym, ap, ◌∙◌, append_assoc, append-nil, length-append, arith}
use Rattle.std.specs.Option.{option_map}
use Rattle.desk_io.specs.SinkView.{SinkView}
use Rattle.desk_io.specs.Writing.{Appends, IsProperPrefix}

written_none : (written : Option (List ℕ)) → written ≡ option_map (λ before. before ++ []) written
written_none None = refl
written_none (Some bytes) = ap Some (sym (append-nil bytes))

taken_none : (taken : Option ℕ) → IfSome taken (λ n. n < 2 ^ 64) → taken ≡ option_map (λ before. min (before + 0) (2 ^ 64 - 1)) taken
taken_none None fits = refl
taken_none (Some n) fits = let same : n ≡ min (n + 0) (2 ^ 64 - 1) = omega arith in ap Some same

-- a sink that stays as it is was appended nothing
pub Appends_none : (sink : SinkView) → IfSome sink.taken (λ n. n < 2 ^ 64) → Appends sink sink []
Appends_none sink fits = record { appended = written_none sink.written; counted = taken_none sink.taken fits }

written_more : (written : Option (List ℕ)) (first second : List ℕ) → option_map (λ before. before ++ second) (option_map (λ before. before ++ first) written) ≡ option_map (λ before. before ++ (first ++ second)) written
written_more None first second = refl
written_more (Some bytes) first second = ap Some (append_assoc bytes first second)

taken_more : (taken : Option ℕ) (first second : List ℕ) → option_map (λ before. min (before + length second) (2 ^ 64 - 1)) (option_map (λ before. min (before + length first) (2 ^ 64 - 1)) taken) ≡ option_map (λ before. min (before + length (first ++ second)) (2 ^ 64 - 1)) taken
taken_more None first second = refl
taken_more (Some n) first second =
    let same : min (min (n + length first) (2 ^ 64 - 1) + length second) (2 ^ 64 - 1) ≡ min (n + length (first ++ second)) (2 ^ 64 - 1) = omega (arith, length-append first second) in
    ap Some same

-- what is appended in two goes is appended
pub Appends_more : (o p q : SinkView) (first second : List ℕ) → Appends o p first → Appends p q second → Appends o q (first ++ second)
Appends_more o p q first second one two = record {
  appended = rw (two.appended, one.appended) (written_more o.written first second);
  counted = rw (two.counted, one.counted) (taken_more o.taken first second);
}

-- a beginning, but not all, of a list is one of any longer list
pub IsProperPrefix_longer : (part whole more : List ℕ) → IsProperPrefix part whole → IsProperPrefix part (whole ++ more)
IsProperPrefix_longer part whole more (rest, is, some) = (rest ++ more, ap (λ bytes. bytes ++ more) is ∙ append_assoc part rest more, λ none. some (left_none rest more none))
  where
    left_none : (xs ys : List ℕ) → xs ++ ys ≡ [] → xs ≡ []
    left_none [] ys none = refl
    left_none (x ∷ xs) ys none = absurd (cc)

-- a beginning, but not all, of what comes next goes on from what is there
pub IsProperPrefix_behind : (before part whole : List ℕ) → IsProperPrefix part whole → IsProperPrefix (before ++ part) (before ++ whole)
IsProperPrefix_behind before part whole (rest, is, some) = (rest, ap (λ bytes. before ++ bytes) is ∙ sym (append_assoc before part rest), some)
