-- The first value of a name in a query.
use Rattle.std.proofs.Common.{◌≡◌, ℕ, ◌+◌, ◌<◌, ◌≤◌, true, false, List, ◌∷◌, length, drop, get_or, Some, None, sym, ap, ◌∙◌, add-one}
use Rattle.std.specs.Prelude.{if◌then◌else◌, bytes_eq}
use Rattle.std.proofs.Math.Seq.{drop-cons}
use Rattle.std.proofs.lemmas.Bool.{cond-true, cond-false}
use Rattle.std.proofs.lemmas.List.{drop_all}
use Rattle.http_api.specs.Asked.{form_text, first_named}

-- the first pair that is left
module _ (name : List ℕ) (pairs : List (List ℕ × List ℕ)) (n : ℕ) (pair : List ℕ × List ℕ) (turn : (n < length pairs) × (pair ≡ get_or pairs n pair))
    (text : List ℕ) (named : text ≡ form_text pair.0) (before : first_named name (drop n pairs) ≡ first_named name pairs) where
  front : drop n pairs ≡ pair ∷ drop (n + 1) pairs
  front = rw add-one (drop-cons pairs n pair turn.0) ∙ ap (λ (one : List ℕ × List ℕ). one ∷ drop (n + 1) pairs) (sym turn.1)

  by_test : first_named name pairs ≡ (if bytes_eq text name then Some (form_text pair.1) else first_named name (drop (n + 1) pairs))
  unfolding first_named
  by_test = sym before ∙ (ap (first_named name) front
      ∙ ap (λ (shown : List ℕ). if bytes_eq shown name then Some (form_text pair.1) else first_named name (drop (n + 1) pairs)) (sym named))

  pub value_here : (shown : List ℕ) → true ≡ bytes_eq text name → shown ≡ form_text pair.1 → Some shown ≡ first_named name pairs
  value_here shown same is = ap Some is ∙ sym (by_test ∙ cond-true (bytes_eq text name) _ _ (sym same))

  pub value_behind : false ≡ bytes_eq text name → first_named name (drop (n + 1) pairs) ≡ first_named name pairs
  value_behind other = sym (by_test ∙ cond-false (bytes_eq text name) _ _ (sym other))

pub no_value : (name : List ℕ) (pairs : List (List ℕ × List ℕ)) (n : ℕ) → length pairs ≤ n → first_named name (drop n pairs) ≡ first_named name pairs → None ≡ first_named name pairs
unfolding first_named
no_value name pairs n all before = ap (first_named name) (sym (drop_all n pairs all)) ∙ before
