-- Another number of fields than a form of an edit has is not in the form.
use Rattle.std.proofs.Common.{◌≡◌, ◌≢◌, ℕ, List, [], ◌∷◌, length, refl}
use Rattle.std.specs.Prelude.{None}
use Rattle.script_api.specs.EditForm.{quality_call, suspend_call, credit_call, budget_call, bid_call, pause_call}

pub quality_else : (fields : List (List ℕ)) → length fields ≢ 3 → quality_call fields ≡ None
quality_else [] h = refl
quality_else (a0 ∷ []) h = refl
quality_else (a0 ∷ a1 ∷ []) h = refl
quality_else (a0 ∷ a1 ∷ a2 ∷ []) h = absurd (h refl)
quality_else (a0 ∷ a1 ∷ a2 ∷ a3 ∷ more) h = refl

pub suspend_else : (fields : List (List ℕ)) → length fields ≢ 2 → suspend_call fields ≡ None
suspend_else [] h = refl
suspend_else (a0 ∷ []) h = refl
suspend_else (a0 ∷ a1 ∷ []) h = absurd (h refl)
suspend_else (a0 ∷ a1 ∷ a2 ∷ more) h = refl

pub credit_else : (fields : List (List ℕ)) → length fields ≢ 1 → credit_call fields ≡ None
credit_else [] h = refl
credit_else (a0 ∷ []) h = absurd (h refl)
credit_else (a0 ∷ a1 ∷ more) h = refl

pub budget_else : (fields : List (List ℕ)) → length fields ≢ 4 → budget_call fields ≡ None
budget_else [] h = refl
budget_else (a0 ∷ []) h = refl
budget_else (a0 ∷ a1 ∷ []) h = refl
budget_else (a0 ∷ a1 ∷ a2 ∷ []) h = refl
budget_else (a0 ∷ a1 ∷ a2 ∷ a3 ∷ []) h = absurd (h refl)
budget_else (a0 ∷ a1 ∷ a2 ∷ a3 ∷ a4 ∷ more) h = refl

pub bid_else : (fields : List (List ℕ)) → length fields ≢ 4 → bid_call fields ≡ None
bid_else [] h = refl
bid_else (a0 ∷ []) h = refl
bid_else (a0 ∷ a1 ∷ []) h = refl
bid_else (a0 ∷ a1 ∷ a2 ∷ []) h = refl
bid_else (a0 ∷ a1 ∷ a2 ∷ a3 ∷ []) h = absurd (h refl)
bid_else (a0 ∷ a1 ∷ a2 ∷ a3 ∷ a4 ∷ more) h = refl

pub pause_else : (fields : List (List ℕ)) → length fields ≢ 5 → pause_call fields ≡ None
pause_else [] h = refl
pause_else (a0 ∷ []) h = refl
pause_else (a0 ∷ a1 ∷ []) h = refl
pause_else (a0 ∷ a1 ∷ a2 ∷ []) h = refl
pause_else (a0 ∷ a1 ∷ a2 ∷ a3 ∷ []) h = refl
pause_else (a0 ∷ a1 ∷ a2 ∷ a3 ∷ a4 ∷ []) h = absurd (h refl)
pause_else (a0 ∷ a1 ∷ a2 ∷ a3 ∷ a4 ∷ a5 ∷ more) h = refl
