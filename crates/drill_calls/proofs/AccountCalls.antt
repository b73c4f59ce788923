-- The calls of accounts, one behind another.
use Rattle.std.proofs.Common.{◌≡◌, ℕ, suc, ◌+◌, ◌-◌, ◌*◌, ◌≤◌, List, [], ◌∷◌, ◌++◌, map, Result, Ok, Err, refl, sym, ap, subst, ◌∙◌, arith}
use Rattle.std.specs.Prelude.{sum_by, OnOk}
use Rattle.std.proofs.lemmas.List.{map-append}
use Rattle.std.proofs.lemmas.List.Sums.{sum_by_push}
use Rattle.desk_types.specs.declared.call.Call.{Call}
use Rattle.desk_types.specs.declared.call.Call.TheVariants.{AddAccount, AddCampaign, SetQuality}
use Rattle.desk_types.specs.Journal.{IsLegal}
use Rattle.drill_calls.specs.Draws.{behind_draws, nth_draw}
use Rattle.drill_calls.specs.DrillTexts.{drill_key}
use Rattle.drill_calls.specs.DrillCalls.{numbers_to, drill_line, line_calls, line_draws, draws_before_line, account_calls, accounts_part}
use Rattle.drill_calls.specs.Making.{Stand, AreCalled, AreCalledInPart, CallsThrough}
use Rattle.drill_calls.proofs.Counting.{numbers-first, accounts-more, accounts-first}
use Rattle.drill_calls.proofs.Drawing.{draw-later, draws-then}
use Rattle.drill_calls.proofs.MakingCalls.{made-none, made-then, part-then, makes-then, part-longer}

pub on-ok : {T E : Type 0} (r : Result T E) (P : Type 0) → P → OnOk r P
on-ok (Ok x) P p = p
on-ok (Err e) P p = tt

module _ (account x : ℕ) where
  first : Call
  first = AddAccount (drill_key account)

  second : ℕ → Call
  second y = AddCampaign account (drill_key account) (500 + nth_draw y 1 2000)

  last : ℕ → Call
  last z = SetQuality account 1 (1 + nth_draw z 1 100)

  whole : account_calls account x ≡ (first ∷ []) ++ ((second x ∷ []) ++ (line_calls account 8 x ++ SetQuality account 1 (1 + nth_draw x 31 100) ∷ []))
  unfolding account_calls first second
  whole = refl

  ended : List Call
  ended = line_calls account 8 x ++ SetQuality account 1 (1 + nth_draw x 31 100) ∷ []

  module _ (a b c d e : Stand) where
    pub first-part : AreCalledInPart a b (AddAccount (drill_key account) ∷ []) → AreCalledInPart a b (account_calls account x)
    unfolding first ended
    first-part h = subst (AreCalledInPart a b) (sym whole) (part-longer a b (first ∷ []) ((second x ∷ []) ++ ended) h)

    module _ (h : AreCalled a b (AddAccount (drill_key account) ∷ [])) (y : ℕ) (same : y ≡ x) where
      pub second-part : AreCalledInPart b c (AddCampaign account (drill_key account) (500 + nth_draw y 1 2000) ∷ []) → AreCalledInPart a c (account_calls account x)
      unfolding first ended second
      second-part k =
          let here : AreCalledInPart b c (second x ∷ []) = subst (λ (w : ℕ). AreCalledInPart b c (second w ∷ [])) same k in
          subst (AreCalledInPart a c) (sym whole)
          (part-then a b c (first ∷ []) ((second x ∷ []) ++ ended) h (part-longer b c (second x ∷ []) ended here))

      module _ (k : AreCalled b c (AddCampaign account (drill_key account) (500 + nth_draw y 1 2000) ∷ [])) where
        both : AreCalled b c (second x ∷ [])
        unfolding second
        both = subst (λ (w : ℕ). AreCalled b c (second w ∷ [])) same k

        pub lines-part : AreCalledInPart c d (line_calls account 8 x) → AreCalledInPart a d (account_calls account x)
        unfolding first ended
        lines-part m =
            subst (AreCalledInPart a d) (sym whole)
            (part-then a b d (first ∷ []) ((second x ∷ []) ++ ended) h
            (part-then b c d (second x ∷ []) ended both
            (part-longer c d (line_calls account 8 x) (SetQuality account 1 (1 + nth_draw x 31 100) ∷ []) m)))

        pub account-made : {E : Type 0} (result : Result (Unit {0}) E) → AreCalled c d (line_calls account 8 x) → (z : ℕ) → z ≡ behind_draws x 30
            → CallsThrough d e (SetQuality account 1 (1 + nth_draw z 1 100) ∷ []) result → CallsThrough a e (account_calls account x) result
        unfolding first ended last
        account-made {E} result m z drawn q =
            let quality : nth_draw z 1 100 ≡ nth_draw x 31 100 = ap (λ (w : ℕ). nth_draw w 1 100) drawn ∙ draw-later x 30 1 100 in
            subst (λ (calls : List Call). CallsThrough a e calls result) (sym whole)
            (makes-then a b e (first ∷ []) ((second x ∷ []) ++ ended) h result
            (makes-then b c e (second x ∷ []) ended both result
            (makes-then c d e (line_calls account 8 x) (SetQuality account 1 (1 + nth_draw x 31 100) ∷ []) m result
            (subst (λ (n : ℕ). CallsThrough d e (SetQuality account 1 (1 + n) ∷ []) result) quality q))))

-- lines
pub sum-none : sum_by line_draws (numbers_to 0) ≡ 0
unfolding numbers_to
sum-none = refl

pub draws-none : (x : ℕ) → x ≡ behind_draws x (sum_by line_draws (numbers_to 0))
unfolding numbers_to behind_draws
draws-none x = refl

pub lines-none : (a : Stand) (account x : ℕ) → IsLegal a.service.opening.settings a.service.seen → AreCalled a a (line_calls account 0 x)
unfolding line_calls numbers_to
lines-none a account x legal = made-none a legal

sum-more : (n : ℕ) → sum_by line_draws (numbers_to (n + 1)) ≡ sum_by line_draws (numbers_to n) + line_draws (n + 1)
unfolding numbers_to
sum-more n =
    let next : n + 1 ≡ suc n = omega arith in
    ap (λ k. sum_by line_draws (numbers_to k)) next ∙ sum_by_push line_draws (numbers_to n) (suc n)
    ∙ ap (λ k. sum_by line_draws (numbers_to n) + line_draws k) (sym next)

pub eight-lines : sum_by line_draws (numbers_to 8) ≡ 29
unfolding numbers_to
eight-lines = refl

line-at : ℕ → ℕ → ℕ → Call
line-at account x line = drill_line account line (behind_draws x (draws_before_line line))

lines-more : (account x n : ℕ) → line_calls account (n + 1) x ≡ line_calls account n x ++ drill_line account (n + 1) (behind_draws x (1 + sum_by line_draws (numbers_to n))) ∷ []
unfolding line_calls numbers_to line-at
lines-more account x n =
    let next : n + 1 ≡ suc n = omega arith in
    let same : n + 1 - 1 ≡ n = omega arith in
    ap (λ k. map (line-at account x) (numbers_to k)) next ∙ map-append (line-at account x) (numbers_to n) (suc n ∷ [])
    ∙ ap (λ k. map (line-at account x) (numbers_to n) ++ line-at account x k ∷ []) (sym next)
    ∙ ap (λ k. map (line-at account x) (numbers_to n) ++ drill_line account (n + 1) (behind_draws x (1 + sum_by line_draws (numbers_to k))) ∷ []) same

lines-first : (account x n : ℕ) → n ≤ 8 → (rest : List Call) × (line_calls account 8 x ≡ line_calls account n x ++ rest)
unfolding line_calls line-at
lines-first account x n low =
    let first = numbers-first n (8 - n) in
    let all : 8 ≡ n + (8 - n) = omega arith in
    (map (line-at account x) first.0, ap (λ k. map (line-at account x) (numbers_to k)) all ∙ ap (map (line-at account x)) first.1 ∙ map-append (line-at account x) (numbers_to n) first.0)

module _ (account x x0 y n : ℕ) (begun : x0 ≡ behind_draws x 1) (drawn : y ≡ behind_draws x0 (sum_by line_draws (numbers_to n))) where
  here : y ≡ behind_draws x (1 + sum_by line_draws (numbers_to n))
  here = draws-then x x0 y 1 (sum_by line_draws (numbers_to n)) begun drawn

  next-line : line_calls account (n + 1) x ≡ line_calls account n x ++ drill_line account (n + 1) y ∷ []
  next-line = lines-more account x n ∙ ap (λ (w : ℕ). line_calls account n x ++ drill_line account (n + 1) w ∷ []) (sym here)

  pub line-made : (a b c : Stand) → AreCalled a b (line_calls account n x) → AreCalled b c (drill_line account (n + 1) y ∷ []) → AreCalled a c (line_calls account (n + 1) x)
  line-made a b c h k = subst (AreCalled a c) (sym next-line) (made-then a b c (line_calls account n x) (drill_line account (n + 1) y ∷ []) h k)

  pub line-part : (a b c : Stand) → n + 1 ≤ 8 → AreCalled a b (line_calls account n x) → AreCalledInPart b c (drill_line account (n + 1) y ∷ []) → AreCalledInPart a c (line_calls account 8 x)
  line-part a b c low h k =
      let first = lines-first account x (n + 1) low in
      subst (AreCalledInPart a c) (sym first.1)
      (part-longer a c (line_calls account (n + 1) x) first.0
      (subst (AreCalledInPart a c) (sym next-line) (part-then a b c (line_calls account n x) (drill_line account (n + 1) y ∷ []) h k)))

pub line-drawn : (x0 y z n : ℕ) → y ≡ behind_draws x0 (sum_by line_draws (numbers_to n)) → z ≡ behind_draws y (line_draws (n + 1)) → z ≡ behind_draws x0 (sum_by line_draws (numbers_to (n + 1)))
line-drawn x0 y z n e f = draws-then x0 y z (sum_by line_draws (numbers_to n)) (line_draws (n + 1)) e f ∙ ap (behind_draws x0) (sym (sum-more n))

pub all-lines-drawn : (x0 y n : ℕ) → n ≡ 8 → y ≡ behind_draws x0 (sum_by line_draws (numbers_to n)) → y ≡ behind_draws x0 29
all-lines-drawn x0 y n is e = e ∙ ap (λ (k : ℕ). behind_draws x0 (sum_by line_draws (numbers_to k))) is ∙ ap (behind_draws x0) eight-lines

-- accounts
pub accounts-none : (a : Stand) (start : ℕ) → IsLegal a.service.opening.settings a.service.seen → AreCalled a a (accounts_part start 0)
unfolding accounts_part numbers_to
accounts-none a start legal = made-none a legal

module _ (a b c : Stand) (start n y : ℕ) (drawn : y ≡ behind_draws start (31 * n)) (h : AreCalled a b (accounts_part start n)) where
  next-account : accounts_part start (n + 1) ≡ accounts_part start n ++ account_calls (n + 1) y
  next-account = accounts-more start n ∙ ap (λ (w : ℕ). accounts_part start n ++ account_calls (n + 1) w) (sym drawn)

  pub account-then : AreCalled b c (account_calls (n + 1) y) → AreCalled a c (accounts_part start (n + 1))
  account-then k = subst (AreCalled a c) (sym next-account) (made-then a b c (accounts_part start n) (account_calls (n + 1) y) h k)

  pub account-part : (all : ℕ) → n + 1 ≤ all → AreCalledInPart b c (account_calls (n + 1) y) → AreCalledInPart a c (accounts_part start all)
  account-part all low k =
      let first = accounts-first start (n + 1) all low in
      subst (AreCalledInPart a c) (sym first.1)
      (part-longer a c (accounts_part start (n + 1)) first.0
      (subst (AreCalledInPart a c) (sym next-account) (part-then a b c (accounts_part start n) (account_calls (n + 1) y) h k)))

pub account-drawn : (start y z n : ℕ) → y ≡ behind_draws start (31 * n) → z ≡ behind_draws y 31 → z ≡ behind_draws start (31 * (n + 1))
account-drawn start y z n e f =
    let sum : 31 * n + 31 ≡ 31 * (n + 1) = omega arith in
    draws-then start y z (31 * n) 31 e f ∙ ap (behind_draws start) sum
