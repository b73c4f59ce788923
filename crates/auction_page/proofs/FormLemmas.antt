-- A line with another number of fields spells nothing.
use Rattle.std.proofs.Common.{◌≡◌, ◌≢◌, ℕ, List, [], ◌∷◌, length, refl}
use Rattle.std.specs.Prelude.{None}
use Rattle.auction_page.specs.Form.{heading_of_fields, name_of_parts, ad_of_fields}

pub no_heading : (fields : List (List ℕ)) → length fields ≢ 4 → heading_of_fields fields ≡ None
no_heading [] h = refl
no_heading (a ∷ []) h = refl
no_heading (a ∷ b ∷ []) h = refl
no_heading (a ∷ b ∷ c ∷ []) h = refl
no_heading (a ∷ b ∷ c ∷ d ∷ []) h = absurd (h refl)
no_heading (a ∷ b ∷ c ∷ d ∷ e ∷ more) h = refl

pub no_name : (parts : List (List ℕ)) → length parts ≢ 3 → name_of_parts parts ≡ None
no_name [] h = refl
no_name (a ∷ []) h = refl
no_name (a ∷ b ∷ []) h = refl
no_name (a ∷ b ∷ c ∷ []) h = absurd (h refl)
no_name (a ∷ b ∷ c ∷ d ∷ more) h = refl

pub no_ad : (fields : List (List ℕ)) → length fields ≢ 5 → ad_of_fields fields ≡ None
no_ad [] h = refl
no_ad (a ∷ []) h = refl
no_ad (a ∷ b ∷ []) h = refl
no_ad (a ∷ b ∷ c ∷ []) h = refl
no_ad (a ∷ b ∷ c ∷ d ∷ []) h = refl
no_ad (a ∷ b ∷ c ∷ d ∷ e ∷ []) h = absurd (h refl)
no_ad (a ∷ b ∷ c ∷ d ∷ e ∷ f ∷ more) h = refl
