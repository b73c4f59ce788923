-- What holds of the row that is found.
use Rattle.std.proofs.Common.{◌≡◌, Bool, inl, inr, List, [], ◌∷◌, Some, find, sym, ◌∙◌, subst}
use Rattle.std.specs.List.{All}
use Rattle.std.proofs.lemmas.Bool.{cases_Bool, cond-true, cond-false}
use Rattle.std.proofs.lemmas.List.Elements.{All-head, All-tail}
use Rattle.std.proofs.lemmas.Option.{same_Some}

-- what holds of each row holds of the one that is found
pub All-found : {A : Type 0} (P : A → Type 0) (test : A → Bool) (xs : List A) (x : A) → All P xs → find test xs ≡ Some x → P x
All-found P test [] x h is = absurd cc
All-found P test (y ∷ xs) x h is =
    elim (cases_Bool (test y)) [
      | inl t ↦ subst P (same_Some y x (sym (cond-true (test y) _ _ t) ∙ is)) (All-head P y xs h)
      | inr t ↦ All-found P test xs x (All-tail P y xs h) (sym (cond-false (test y) _ _ t) ∙ is)
    ]
