-- The verdict on a message: the call that it asks for, or the first judgement that holds.
use Rattle.std.specs.Prelude.{◌≡◌, ℕ, Bool, true, not, ◌==◌, ◌&&◌, slice_index, if◌then◌else◌, List, [], ◌∷◌, ◌++◌, bytes_eq, codes, Option, Some, None}
use Rattle.std.specs.Str.{is_utf8}
use Rattle.http_api.specs.declared.judgement.Judgement.{Judgement}
use Rattle.http_api.specs.declared.judgement.Judgement.TheVariants.{NotBuilt, BadHost, BadEncoding, BadTarget, NoRoute, BadMethod, HostKey}
use Rattle.http_api.specs.declared.resource.Resource.{Resource}
use Rattle.http_api.specs.declared.verdict.Verdict.{Verdict}
use Rattle.http_api.specs.declared.verdict.Verdict.TheVariants.{Fails}
use Rattle.http_api.specs.HeadValue.{HeadValue}
use Rattle.http_api.specs.Fields.{values_of, has_field}
use Rattle.http_api.specs.Judging.{first_made, is_host_right}
use Rattle.http_api.specs.Message.{Message, Faulty, Whole}
use Rattle.http_api.specs.Resources.{path_of, query_of, resource_of, method_of, is_of_host}
use Rattle.http_api.specs.Asked.{IsVerdictFor}

-- the key of a message: that of its first Desk-Key field, and empty where there is none or it is not UTF-8
abbrev pub first_text : List (List ℕ) → List ℕ
first_text [] = []
first_text (value ∷ more) = if is_utf8 value then value else []

abbrev pub key_of : HeadValue → List ℕ
key_of head = first_text (values_of (codes "desk-key") head)

-- the judgements on a head whatever it asks for, and by its method and key on what its target names
abbrev pub head_judgements : HeadValue → List (Bool × Judgement)
head_judgements head =
    (not (is_host_right head), BadHost)
    ∷ (has_field (codes "content-encoding") head, BadEncoding)
    ∷ (not (slice_index head.target 0 == 47), BadTarget)
    ∷ []

abbrev pub claim_judgements : List ℕ → HeadValue → Resource → List (Bool × Judgement)
claim_judgements host_key head resource =
    (not (bytes_eq head.method (method_of resource)), BadMethod (method_of resource))
    ∷ (is_of_host resource && not (bytes_eq (key_of head) host_key), HostKey)
    ∷ []

abbrev pub resource_judgements : List ℕ → HeadValue → Option Resource → List (Bool × Judgement)
resource_judgements host_key head None = (true, NoRoute) ∷ []
resource_judgements host_key head (Some resource) = claim_judgements host_key head resource

-- the verdict by what the target names; where it names nothing, a judgement holds before
abbrev pub IsVerdictBy : Option Resource → HeadValue → List ℕ → Verdict → Type 0
IsVerdictBy None head body verdict = ⊥
IsVerdictBy (Some resource) head body verdict = IsVerdictFor resource (key_of head) (query_of head) body verdict

-- a judgement that is made is the verdict; where none is made, it is one of these
abbrev pub IsMadeOr : Option Judgement → (Verdict → Type 0) → Verdict → Type 0
IsMadeOr (Some judgement) IsOther verdict = verdict ≡ Fails judgement
IsMadeOr None IsOther verdict = IsOther verdict

-- the verdict on a head with its body
abbrev pub IsVerdictOn : List ℕ → HeadValue → List ℕ → Verdict → Type 0
IsVerdictOn host_key head body verdict =
    let resource = resource_of (path_of head) in
    IsMadeOr (first_made (head_judgements head ++ resource_judgements host_key head resource))
    (IsVerdictBy resource head body) verdict

-- the verdict on a message, by the key of the host
abbrev pub IsVerdict : List ℕ → Message → Verdict → Type 0
IsVerdict host_key (Faulty head) verdict = verdict ≡ Fails NotBuilt
IsVerdict host_key (Whole head body) verdict = IsVerdictOn host_key head body verdict
