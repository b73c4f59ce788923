-- How many calls a drill has.
use Rattle.std.proofs.Common.{◌≡◌, ℕ, zero, suc, ◌≢◌, ◌⊎◌, ◌+◌, ◌-◌, ◌*◌, ◌/◌, ◌%◌, ◌≤◌, inl, inr, List, [], ◌∷◌, ◌++◌, length, take, Result, refl, sym, ap, ◌∙◌, nat_eq, arith, length-append, append_assoc, append-nil}
use Rattle.std.specs.Prelude.{flat_map, if◌then◌else◌}
use Rattle.std.proofs.lemmas.Bool.{cases_Bool, eq-eqb, eqb-true, eqb-false}
use Rattle.std.proofs.lemmas.List.{length-map, take-append-le}
use Rattle.std.proofs.lemmas.List.Concat.{flat_map-append}
use Rattle.desk_types.specs.declared.call.Call.{Call}
use Rattle.desk_types.specs.declared.call.Call.TheVariants.{Click, SetQuality}
use Rattle.desk_types.specs.declared.entry.Fault.{Fault}
use Rattle.desk_types.specs.declared.reply.Reply.{Reply}
use Rattle.drill_calls.specs.Draws.{behind_draws, nth_draw}
use Rattle.drill_calls.specs.DrillCalls.{numbers_to, line_calls, drill_line, draws_before_line, account_calls, accounts_part, drill_search, search_calls, calls_before_click, greatest_placement, searches_part, at_moments, drill_calls}

-- one piece more
pub pieces-more : {A : Type 0} (f : ℕ → List A) (n : ℕ) → flat_map f (numbers_to (suc n)) ≡ flat_map f (numbers_to n) ++ f (suc n)
unfolding numbers_to
pieces-more f n = flat_map-append f (numbers_to n) (suc n ∷ []) ∙ ap (λ last. flat_map f (numbers_to n) ++ last) (append-nil (f (suc n)))

length-numbers : (n : ℕ) → length (numbers_to n) ≡ n
unfolding numbers_to
length-numbers zero = refl
length-numbers (suc n) = length-append (numbers_to n) (suc n ∷ []) ∙ omega (arith, length-numbers n)

-- the numbers_to up to a greater one go on
pub numbers-first : (n more : ℕ) → (rest : List ℕ) × (numbers_to (n + more) ≡ numbers_to n ++ rest)
unfolding numbers_to
numbers-first n zero = ([], ap numbers_to (let z : n + 0 ≡ n = omega arith in z) ∙ sym (append-nil (numbers_to n)))
numbers-first n (suc more) =
    let before = numbers-first n more in
    let next : n + suc more ≡ suc (n + more) = omega arith in
    (before.0 ++ suc (n + more) ∷ [], ap numbers_to next ∙ ap (λ s. s ++ suc (n + more) ∷ []) before.1 ∙ append_assoc (numbers_to n) before.0 (suc (n + more) ∷ []))

pub length-lines : (account lines x : ℕ) → length (line_calls account lines x) ≡ lines
unfolding line_calls
length-lines account lines x = length-map (numbers_to lines) (λ line. drill_line account line (behind_draws x (draws_before_line line))) ∙ length-numbers lines

pub length-account : (account x : ℕ) → length (account_calls account x) ≡ 11
unfolding account_calls
length-account account x =
    let last = length-append (line_calls account 8 x) (SetQuality account 1 (1 + nth_draw x 31 100) ∷ []) in
    omega (arith, last, length-lines account 8 x)

pub length-accounts : (start accounts : ℕ) → length (accounts_part start accounts) ≡ 11 * accounts
unfolding accounts_part numbers_to
length-accounts start zero = refl
length-accounts start (suc n) =
    let piece : ℕ → List Call = λ account. account_calls account (behind_draws start (31 * (account - 1))) in
    ap length (pieces-more piece n) ∙ length-append (flat_map piece (numbers_to n)) (piece (suc n))
    ∙ (let here = length-account (suc n) (behind_draws start (31 * (suc n - 1))) in
    let before : length (flat_map piece (numbers_to n)) ≡ 11 * n = length-accounts start n in
    omega (arith, here, before))

-- a fifth search has a click behind it, another has none
pub with-click : (search x placement : ℕ) → search % 5 ≡ 0 → search_calls search x placement ≡ drill_search x ∷ Click placement ∷ []
unfolding search_calls
with-click search x placement is = ap (λ b. drill_search x ∷ (if b then Click placement ∷ [] else [])) (eq-eqb (search % 5) 0 is)

pub without-click : (search x placement : ℕ) → search % 5 ≢ 0 → search_calls search x placement ≡ drill_search x ∷ []
unfolding search_calls
without-click search x placement other = elim (cases_Bool (nat_eq (search % 5) 0)) [
  | inl is ↦ absurd (other (eqb-true (search % 5) 0 is))
  | inr not ↦ ap (λ b. drill_search x ∷ (if b then Click placement ∷ [] else [])) not
]

fifth : (search : ℕ) → (search % 5 ≡ 0) ⊎ (search % 5 ≢ 0)
fifth search = elim (cases_Bool (nat_eq (search % 5) 0)) [
  | inl is ↦ inl (eqb-true (search % 5) 0 is)
  | inr not ↦ inr (eqb-false (search % 5) 0 not)
]

length-search : (n x placement : ℕ) → length (search_calls (suc n) x placement) + (n + n / 5) ≡ suc n + suc n / 5
length-search n x placement = elim (fifth (suc n)) [
  | inl is ↦ let e = ap length (with-click (suc n) x placement is) in omega (arith, e)
  | inr other ↦ let e = ap length (without-click (suc n) x placement other) in omega (arith, e)
]

-- the calls of a search
piece : ℕ → ℕ → List (Result Reply Fault) → ℕ → List Call
piece start size results search =
    search_calls search (behind_draws start (31 * size + 2 * (search - 1))) (greatest_placement (take (calls_before_click size search) results))

pub length-searches : (start size n : ℕ) (results : List (Result Reply Fault)) → length (searches_part start size n results) ≡ n + n / 5
unfolding searches_part numbers_to piece
length-searches start size zero results = refl
length-searches start size (suc n) results =
    ap length (pieces-more (piece start size results) n) ∙ length-append (flat_map (piece start size results) (numbers_to n)) (piece start size results (suc n))
    ∙ (let here = length-search n (behind_draws start (31 * size + 2 * (suc n - 1))) (greatest_placement (take (calls_before_click size (suc n)) results)) in
    let before : length (flat_map (piece start size results) (numbers_to n)) ≡ n + n / 5 = length-searches start size n results in
    omega (arith, here, before))

-- further results change no search whose results are there
stable-piece : (start size search : ℕ) (results more : List (Result Reply Fault)) → 11 * size + search + (search / 5 - 1) ≤ length results →
    piece start size (results ++ more) search ≡ piece start size results search
unfolding piece
stable-piece start size search results more low =
    ap (λ front. search_calls search (behind_draws start (31 * size + 2 * (search - 1))) (greatest_placement front)) (take-append-le (calls_before_click size search) results more low)

stable-other : (start size search : ℕ) (results more : List (Result Reply Fault)) → search % 5 ≢ 0 → piece start size (results ++ more) search ≡ piece start size results search
unfolding piece
stable-other start size search results more other =
    without-click search (behind_draws start (31 * size + 2 * (search - 1))) (greatest_placement (take (calls_before_click size search) (results ++ more))) other
    ∙ sym (without-click search (behind_draws start (31 * size + 2 * (search - 1))) (greatest_placement (take (calls_before_click size search) results)) other)

pub stable : (start size n : ℕ) (results more : List (Result Reply Fault)) → 11 * size + n + n / 5 ≤ length results →
    searches_part start size n (results ++ more) ≡ searches_part start size n results
unfolding searches_part numbers_to piece
stable start size zero results more low = refl
stable start size (suc n) results more low =
    let here : piece start size (results ++ more) (suc n) ≡ piece start size results (suc n) = elim (fifth (suc n)) [
      | inl is ↦ stable-piece start size (suc n) results more (omega arith)
      | inr other ↦ stable-other start size (suc n) results more other
    ] in
    let before : flat_map (piece start size (results ++ more)) (numbers_to n) ≡ flat_map (piece start size results) (numbers_to n) = stable start size n results more (omega arith) in
    pieces-more (piece start size (results ++ more)) n
    ∙ ap (λ calls. calls ++ piece start size (results ++ more) (suc n)) before
    ∙ ap (λ last. flat_map (piece start size results) (numbers_to n) ++ last) here
    ∙ sym (pieces-more (piece start size results) n)

-- one account more, and one search more
pub accounts-more : (start n : ℕ) → accounts_part start (n + 1) ≡ accounts_part start n ++ account_calls (n + 1) (behind_draws start (31 * n))
unfolding accounts_part
accounts-more start n =
    let piece : ℕ → List Call = λ account. account_calls account (behind_draws start (31 * (account - 1))) in
    let next : n + 1 ≡ suc n = omega arith in
    let same : suc n - 1 ≡ n = omega arith in
    ap (λ k. flat_map piece (numbers_to k)) next ∙ pieces-more piece n
    ∙ ap (λ last. flat_map piece (numbers_to n) ++ last)
    (ap (λ k. account_calls (suc n) (behind_draws start (31 * k))) same ∙ ap (λ k. account_calls k (behind_draws start (31 * n))) (sym next))

pub searches-more : (start size n : ℕ) (results : List (Result Reply Fault)) →
    searches_part start size (n + 1) results
    ≡ searches_part start size n results ++ search_calls (n + 1) (behind_draws start (31 * size + 2 * n)) (greatest_placement (take (calls_before_click size (n + 1)) results))
unfolding searches_part piece
searches-more start size n results =
    let next : n + 1 ≡ suc n = omega arith in
    let same : suc n - 1 ≡ n = omega arith in
    ap (λ k. flat_map (piece start size results) (numbers_to k)) next ∙ pieces-more (piece start size results) n
    ∙ ap (λ last. flat_map (piece start size results) (numbers_to n) ++ last)
    (ap (λ k. search_calls (suc n) (behind_draws start (31 * size + 2 * k)) (greatest_placement (take (calls_before_click size (suc n)) results))) same
    ∙ ap (λ k. search_calls k (behind_draws start (31 * size + 2 * n)) (greatest_placement (take (calls_before_click size k) results))) (sym next))

-- the first accounts, and the first searches, begin all of them
pub accounts-first : (start n all : ℕ) → n ≤ all → (rest : List Call) × (accounts_part start all ≡ accounts_part start n ++ rest)
unfolding accounts_part
accounts-first start n all low =
    let piece : ℕ → List Call = λ account. account_calls account (behind_draws start (31 * (account - 1))) in
    let first = numbers-first n (all - n) in
    let whole : all ≡ n + (all - n) = omega arith in
    (flat_map piece first.0, ap (λ k. flat_map piece (numbers_to k)) whole ∙ ap (flat_map piece) first.1 ∙ flat_map-append piece (numbers_to n) first.0)

pub searches-first : (start size n all : ℕ) (results : List (Result Reply Fault)) → n ≤ all →
    (rest : List Call) × (searches_part start size all results ≡ searches_part start size n results ++ rest)
unfolding searches_part piece
searches-first start size n all results low =
    let first = numbers-first n (all - n) in
    let whole : all ≡ n + (all - n) = omega arith in (
      flat_map (piece start size results) first.0,
      ap (λ k. flat_map (piece start size results) (numbers_to k)) whole ∙ ap (flat_map (piece start size results)) first.1 ∙ flat_map-append (piece start size results) (numbers_to n) first.0,
    )

pub length-at_moments : (before : ℕ) (calls : List Call) → length (at_moments before calls) ≡ length calls
unfolding at_moments
length-at_moments before [] = refl
length-at_moments before (call ∷ calls) = ap suc (length-at_moments (before + 1) calls)

pub forty-one : (start size : ℕ) (results : List (Result Reply Fault)) → length (drill_calls start size results) ≡ 41 * size
unfolding drill_calls
forty-one start size results =
    length-at_moments 0 (accounts_part start size ++ searches_part start size (25 * size) results)
    ∙ length-append (accounts_part start size) (searches_part start size (25 * size) results)
    ∙ (let accounts = length-accounts start size in let searches = length-searches start size (25 * size) results in omega (arith, accounts, searches))
