-- Rows of which each has a property.
use Rattle.std.proofs.Common.{◌≡◌, Bool, false, ◌||◌, cond, List, [], ◌∷◌, ◌++◌, None, Some, find, refl, ap, ◌∙◌}
use Rattle.std.specs.List.{list_any, All}
use Rattle.std.proofs.lemmas.Bool.{cond-false}
use Rattle.std.proofs.lemmas.List.Elements.{All-nil, All-cons}

-- the property holds of each row
abbrev pub Each : {A : Type 0} → (A → Type 0) → List A → Type 0
Each P [] = Unit {0}
Each P (x ∷ xs) = P x × Each P xs

pub Each-append : {A : Type 0} (P : A → Type 0) (xs ys : List A) → Each P xs → Each P ys → Each P (xs ++ ys)
Each-append P [] ys h k = k
Each-append P (x ∷ xs) ys h k = (h.0, Each-append P xs ys h.1 k)

pub Each-mono : {A : Type 0} (P Q : A → Type 0) (xs : List A) → ((x : A) → P x → Q x) → Each P xs → Each Q xs
Each-mono P Q [] f h = tt
Each-mono P Q (x ∷ xs) f h = (f x h.0, Each-mono P Q xs f h.1)

pub All-from_Each : {A : Type 0} (P : A → Type 0) (xs : List A) → Each P xs → All P xs
All-from_Each P [] h = All-nil P
All-from_Each P (x ∷ xs) h = All-cons P x xs h.0 (All-from_Each P xs h.1)

-- tests that agree on each row find the same, and none where none passes
pub find-agree : {A : Type 0} (p q : A → Bool) (xs : List A) → ((x : A) → p x ≡ q x) → find p xs ≡ find q xs
find-agree p q [] same = refl
find-agree p q (x ∷ xs) same = (λ i. cond (same x i) (Some x) (find-agree p q xs same i))

pub find-none : {A : Type 0} (p : A → Bool) (xs : List A) → Each (λ x. p x ≡ false) xs → find p xs ≡ None
find-none p [] h = refl
find-none p (x ∷ xs) h = cond-false (p x) _ _ h.0 ∙ find-none p xs h.1

-- a last row that fails the tests is neither found nor counts
pub find-last_fails : {A : Type 0} (p : A → Bool) (xs : List A) (y : A) → p y ≡ false → find p (xs ++ y ∷ []) ≡ find p xs
find-last_fails p [] y fails = cond-false (p y) _ _ fails
find-last_fails p (x ∷ xs) y fails = ap (λ o. cond (p x) (Some x) o) (find-last_fails p xs y fails)

pub list_any-last_fails : {A : Type 0} (p : A → Bool) (xs : List A) (y : A) → p y ≡ false → list_any p (xs ++ y ∷ []) ≡ list_any p xs
list_any-last_fails p [] y fails = ap (λ b. b || false) fails
list_any-last_fails p (x ∷ xs) y fails = ap (λ b. p x || b) (list_any-last_fails p xs y fails)
