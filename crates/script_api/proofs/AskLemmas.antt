-- Another number of fields than a form of a question has is not in the form.
use Rattle.std.proofs.Common.{◌≡◌, ◌≢◌, ℕ, List, [], ◌∷◌, length, refl}
use Rattle.std.specs.Prelude.{None}
use Rattle.script_api.specs.AskForm.{host_call, report_call, shown_call}

pub host_else : (fields : List (List ℕ)) → length fields ≢ 1 → host_call fields ≡ None
host_else [] h = refl
host_else (a0 ∷ []) h = absurd (h refl)
host_else (a0 ∷ a1 ∷ more) h = refl

pub report_else : (fields : List (List ℕ)) → length fields ≢ 3 → report_call fields ≡ None
report_else [] h = refl
report_else (a0 ∷ []) h = refl
report_else (a0 ∷ a1 ∷ []) h = refl
report_else (a0 ∷ a1 ∷ a2 ∷ []) h = absurd (h refl)
report_else (a0 ∷ a1 ∷ a2 ∷ a3 ∷ more) h = refl

pub shown_else : (fields : List (List ℕ)) → length fields ≢ 4 → shown_call fields ≡ None
shown_else [] h = refl
shown_else (a0 ∷ []) h = refl
shown_else (a0 ∷ a1 ∷ []) h = refl
shown_else (a0 ∷ a1 ∷ a2 ∷ []) h = refl
shown_else (a0 ∷ a1 ∷ a2 ∷ a3 ∷ []) h = absurd (h refl)
shown_else (a0 ∷ a1 ∷ a2 ∷ a3 ∷ a4 ∷ more) h = refl
