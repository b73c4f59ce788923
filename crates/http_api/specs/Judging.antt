-- The judgements on a message, in their order.
use Rattle.std.specs.Prelude.{ℕ, Bool, not, ◌==◌, ◌||◌, ◌&&◌, nat_lt, if◌then◌else◌, List, [], ◌∷◌, length, codes, Option, Some, None}
use Rattle.http_api.specs.declared.judgement.Judgement.{Judgement}
use Rattle.http_api.specs.declared.judgement.Judgement.TheVariants.{NotBuilt}
use Rattle.http_api.specs.declared.limits.TheConstants.{FIELDS_MAX, BODY_BYTES_MAX}
use Rattle.http_api.specs.HeadValue.{HeadValue}
use Rattle.http_api.specs.Fields.{values_of, has_field, lengths_of, are_lengths, length_told}

-- the first judgement that holds
unfoldable pub first_made : List (Bool × Judgement) → Option Judgement
first_made [] = None
first_made ((holds, judgement) ∷ more) = if holds then Some judgement else first_made more

-- those on a head that was read that end the session: too many fields, a coding, and a length of the body that is no
-- length, or too great
abbrev pub ending_judgements : HeadValue → List (Bool × Judgement)
ending_judgements head =
    (nat_lt FIELDS_MAX (length head.fields), NotBuilt)
    ∷ (has_field (codes "transfer-encoding") head, NotBuilt)
    ∷ (not (are_lengths (lengths_of head)), NotBuilt)
    ∷ (nat_lt BODY_BYTES_MAX (length_told (lengths_of head)), NotBuilt)
    ∷ []

-- how long the body is, where none of them holds
abbrev pub unless_judged : {A : Type 0} → Option Judgement → A → Option A
unless_judged (Some judgement) value = None
unless_judged None value = Some value

unfoldable pub body_length : HeadValue → Option ℕ
body_length head = unless_judged (first_made (ending_judgements head)) (length_told (lengths_of head))

-- a head of HTTP/1.1 has one Host, and an older one at most one
abbrev pub is_host_right : HeadValue → Bool
is_host_right head =
    let hosts = length (values_of (codes "host") head) in
    hosts == 1 || (hosts == 0 && head.minor == 0)
