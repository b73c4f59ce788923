-- What stands at a place of a list.
use Rattle.std.proofs.Common.{◌≡◌, ℕ, zero, suc, ◌<◌, List, [], ◌∷◌, length, map, slice_get, get_or, Some, refl, sym, ap, subst, ◌∙◌, arith}
use Rattle.std.specs.Prelude.{All, Any}
use Rattle.std.specs.List.{AllZip}
use Rattle.std.proofs.lemmas.Option.{none-some, same_Some, slice_get-get_or}

-- an item that stands at a place, and is so
pub record Found {A : Type 0} (xs : List A) (place : ℕ) (P : A → Type 0) : Type 0 where
  pub item : A
  pub here : slice_get xs place ≡ Some item
  pub is : P item

pub within : {A : Type 0} (xs : List A) (place : ℕ) (x : A) → slice_get xs place ≡ Some x → place < length xs
within [] place x here = absurd (none-some x here)
within (y ∷ xs) zero x here = omega arith
within (y ∷ xs) (suc place) x here = omega (arith, within xs place x here)

pub same_maps : {A B C : Type 0} (f : A → C) (g : B → C) (xs : List A) (ys : List B) → map f xs ≡ map g ys
    → (place : ℕ) (x : A) → slice_get xs place ≡ Some x → Found ys place (λ y. f x ≡ g y)
same_maps f g [] ys same place x here = absurd (none-some x here)
same_maps f g (z ∷ xs) [] same place x here = absurd (omega (arith, ap length same))
same_maps f g (z ∷ xs) (y ∷ ys) same zero x here =
    record { item = y; here = refl; is = ap f (sym (same_Some z x here)) ∙ same_Some (f z) (g y) (ap (λ l. slice_get l 0) same) }
same_maps f g (z ∷ xs) (y ∷ ys) same (suc place) x here =
    let rest = same_maps f g xs ys (ap tail same) place x here in
    record { item = rest.item; here = rest.here; is = rest.is }
  where
    tail : {C : Type 0} → List C → List C
    tail [] = []
    tail (x ∷ xs) = xs

pub zipped : {A B : Type 0} (R : A → B → Type 0) (xs : List A) (ys : List B) → AllZip R xs ys
    → (place : ℕ) (y : B) → slice_get ys place ≡ Some y → Found xs place (λ x. R x y)
zipped R [] [] all place y here = absurd (none-some y here)
zipped R [] (z ∷ ys) all place y here = absurd all
zipped R (x ∷ xs) [] all place y here = absurd all
zipped R (x ∷ xs) (z ∷ ys) all zero y here =
    record { item = x; here = refl; is = subst (R x) (same_Some z y here) all.0 }
zipped R (x ∷ xs) (z ∷ ys) all (suc place) y here =
    let rest = zipped R xs ys all.1 place y here in
    record { item = rest.item; here = rest.here; is = rest.is }

pub all_at : {A : Type 0} (P : A → Type 0) (xs : List A) → All P xs → (place : ℕ) (x : A) → slice_get xs place ≡ Some x → P x
all_at P xs all place x here =
    let low = within xs place x here in
    subst P (same_Some (get_or xs place x) x (sym (slice_get-get_or xs place x low) ∙ here)) (all place x low)

pub all_of : {A : Type 0} (P : A → Type 0) (xs : List A) → ((place : ℕ) (x : A) → slice_get xs place ≡ Some x → P x) → All P xs
all_of P xs each = λ k d low. each k (get_or xs k d) (slice_get-get_or xs k d low)

pub any_of : {A : Type 0} (P : A → Type 0) (xs : List A) (place : ℕ) (x : A) → slice_get xs place ≡ Some x → P x → Any P xs
any_of P xs place x here is =
    let low = within xs place x here in
    (place, x, low, same_Some (get_or xs place x) x (sym (slice_get-get_or xs place x low) ∙ here), is)

pub record Somewhere {A : Type 0} (xs : List A) (P : A → Type 0) : Type 0 where
  pub place : ℕ
  pub item : A
  pub here : slice_get xs place ≡ Some item
  pub is : P item

pub any_at : {A : Type 0} (P : A → Type 0) (xs : List A) → Any P xs → Somewhere xs P
any_at P xs any = record {
  place = any.0;
  item = any.1;
  here = slice_get-get_or xs any.0 any.1 any.2 ∙ ap Some any.3;
  is = any.4;
}
