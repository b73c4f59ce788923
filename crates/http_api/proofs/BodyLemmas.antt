-- What a body of JSON tells.
use Rattle.std.proofs.Common.{◌≡◌, ℕ, Bool, true, false, List, Option, Some, None, refl, sym, ap, ◌∙◌}
use Rattle.std.specs.Prelude.{codes, if◌then◌else◌}
use Rattle.std.specs.Str.{IsUtf8, is_utf8}
use Rattle.std.proofs.lemmas.Str.{IsUtf8-from_is_utf8, is_utf8-from_IsUtf8}
use Rattle.serde_json.specs.Data.{Data}
use Rattle.serde_json.specs.Read.{read}
use Rattle.http_api.specs.Asked.{json_of, member, part_named, part_asked}

-- a body that is read is one of JSON
pub json_some : (bytes : List ℕ) (told : Data) → IsUtf8 bytes → read bytes ≡ Some told → Some told ≡ json_of bytes
json_some bytes told text is = sym (ap (λ (test : Bool). if test then read bytes else None) (is_utf8-from_IsUtf8 bytes text) ∙ is)

by_test : (test : Bool) (bytes : List ℕ) → is_utf8 bytes ≡ test → (IsUtf8 bytes → read bytes ≡ None) → None ≡ (if test then read bytes else None)
by_test true bytes is none = sym (none (IsUtf8-from_is_utf8 bytes is))
by_test false bytes is none = refl

-- and one that is not, is none
pub json_none : (bytes : List ℕ) → (IsUtf8 bytes → read bytes ≡ None) → None ≡ json_of bytes
json_none bytes none = by_test (is_utf8 bytes) bytes refl none

-- a part by its two members
pub part_by : (told campaign line : Option Data) → campaign ≡ member (codes "campaign") told → line ≡ member (codes "line") told → part_named campaign line ≡ part_asked told
part_by told campaign line is also = ap (λ (found : Option Data). part_named found line) is ∙ ap (part_named (member (codes "campaign") told)) also
