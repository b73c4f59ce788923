-- A test that only an account's rows pass reads the same in those rows as in all.
use Rattle.std.proofs.Common.{◌≡◌, Bool, true, false, ◌||◌, cond, inl, inr, List, [], ◌∷◌, find, filter, length, map, Some, refl, sym, ap, ◌∙◌}
use Rattle.std.specs.List.{list_any, count_by}
use Rattle.std.proofs.lemmas.Bool.{cases_Bool, cond-true, cond-false}
use Rattle.std.proofs.lemmas.List.Sums.{length-filter}

-- no row that is not the account's passes the test
pub record IsWithin {A : Type 0} (own test : A → Bool) : Type 0 where
  pub fails : (x : A) → own x ≡ false → test x ≡ false

pub find-within : {A : Type 0} (own test : A → Bool) (xs : List A) → IsWithin own test → find test (filter own xs) ≡ find test xs
find-within own test [] h = refl
find-within own test (x ∷ xs) h =
    elim (cases_Bool (own x)) [
      | inl t ↦ ap (find test) (cond-true (own x) (x ∷ filter own xs) (filter own xs) t) ∙ ap (λ o. cond (test x) (Some x) o) (find-within own test xs h)
      | inr t ↦ ap (find test) (cond-false (own x) (x ∷ filter own xs) (filter own xs) t) ∙ find-within own test xs h ∙ sym (cond-false (test x) (Some x) (find test xs) (h.fails x t))
    ]

pub any-within : {A : Type 0} (own test : A → Bool) (xs : List A) → IsWithin own test → list_any test (filter own xs) ≡ list_any test xs
any-within own test [] h = refl
any-within own test (x ∷ xs) h =
    elim (cases_Bool (own x)) [
      | inl t ↦ ap (list_any test) (cond-true (own x) (x ∷ filter own xs) (filter own xs) t) ∙ ap (λ b. test x || b) (any-within own test xs h)
      | inr t ↦ ap (list_any test) (cond-false (own x) (x ∷ filter own xs) (filter own xs) t) ∙ any-within own test xs h ∙ sym (ap (λ b. b || list_any test xs) (h.fails x t))
    ]

pub filter-within : {A : Type 0} (own test : A → Bool) (xs : List A) → IsWithin own test → filter test (filter own xs) ≡ filter test xs
filter-within own test [] h = refl
filter-within own test (x ∷ xs) h =
    elim (cases_Bool (own x)) [
      | inl t ↦ ap (filter test) (cond-true (own x) (x ∷ filter own xs) (filter own xs) t) ∙ ap (λ l. cond (test x) (x ∷ l) l) (filter-within own test xs h)
      | inr t ↦ ap (filter test) (cond-false (own x) (x ∷ filter own xs) (filter own xs) t) ∙ filter-within own test xs h ∙ sym (cond-false (test x) (x ∷ filter test xs) (filter test xs) (h.fails x t))
    ]

pub itself : {A : Type 0} (own : A → Bool) → IsWithin own own
itself own = record { fails = λ x h. h }

pub count-within : {A : Type 0} (own test : A → Bool) (xs : List A) → IsWithin own test → count_by test (filter own xs) ≡ count_by test xs
count-within own test xs h = sym (length-filter test (filter own xs)) ∙ ap length (filter-within own test xs h) ∙ length-filter test xs

-- functions that agree on rows that pass the test
pub map-within : {A B : Type 0} (own : A → Bool) (f g : A → B) (xs : List A) → ((x : A) → own x ≡ true → f x ≡ g x) → map f (filter own xs) ≡ map g (filter own xs)
map-within own f g [] h = refl
map-within own f g (x ∷ xs) h =
    elim (cases_Bool (own x)) [
      | inl t ↦
          ap (map f) (cond-true (own x) (x ∷ filter own xs) (filter own xs) t) ∙ (λ i. h x t i ∷ map-within own f g xs h i) ∙ sym (ap (map g) (cond-true (own x) (x ∷ filter own xs) (filter own xs) t))
      | inr t ↦ ap (map f) (cond-false (own x) (x ∷ filter own xs) (filter own xs) t) ∙ map-within own f g xs h ∙ sym (ap (map g) (cond-false (own x) (x ∷ filter own xs) (filter own xs) t))
    ]
