-- Another number of fields than a form has is not in the form.
use Rattle.std.proofs.Common.{◌≡◌, ◌≢◌, ◌<◌, ℕ, List, [], ◌∷◌, length, refl, arith}
use Rattle.std.specs.Prelude.{None}
use Rattle.script_api.specs.CallForm.{account_call, campaign_call, line_call, negative_call, drop_call, click_call}

pub account_else : (fields : List (List ℕ)) → length fields ≢ 1 → account_call fields ≡ None
account_else [] h = refl
account_else (a0 ∷ []) h = absurd (h refl)
account_else (a0 ∷ a1 ∷ more) h = refl

pub campaign_else : (fields : List (List ℕ)) → length fields ≢ 3 → campaign_call fields ≡ None
campaign_else [] h = refl
campaign_else (a0 ∷ []) h = refl
campaign_else (a0 ∷ a1 ∷ []) h = refl
campaign_else (a0 ∷ a1 ∷ a2 ∷ []) h = absurd (h refl)
campaign_else (a0 ∷ a1 ∷ a2 ∷ a3 ∷ more) h = refl

pub drop_else : (fields : List (List ℕ)) → length fields ≢ 3 → drop_call fields ≡ None
drop_else [] h = refl
drop_else (a0 ∷ []) h = refl
drop_else (a0 ∷ a1 ∷ []) h = refl
drop_else (a0 ∷ a1 ∷ a2 ∷ []) h = absurd (h refl)
drop_else (a0 ∷ a1 ∷ a2 ∷ a3 ∷ more) h = refl

pub click_else : (fields : List (List ℕ)) → length fields ≢ 1 → click_call fields ≡ None
click_else [] h = refl
click_else (a0 ∷ []) h = absurd (h refl)
click_else (a0 ∷ a1 ∷ more) h = refl

pub line_else : (fields : List (List ℕ)) (text : List ℕ) → length fields < 5 → line_call fields text ≡ None
line_else [] text h = refl
line_else (a0 ∷ []) text h = refl
line_else (a0 ∷ a1 ∷ []) text h = refl
line_else (a0 ∷ a1 ∷ a2 ∷ []) text h = refl
line_else (a0 ∷ a1 ∷ a2 ∷ a3 ∷ []) text h = refl
line_else (a0 ∷ a1 ∷ a2 ∷ a3 ∷ a4 ∷ more) text h = absurd (omega (arith, h))

pub negative_else : (fields : List (List ℕ)) (text : List ℕ) → length fields < 3 → negative_call fields text ≡ None
negative_else [] text h = refl
negative_else (a0 ∷ []) text h = refl
negative_else (a0 ∷ a1 ∷ []) text h = refl
negative_else (a0 ∷ a1 ∷ a2 ∷ more) text h = absurd (omega (arith, h))
