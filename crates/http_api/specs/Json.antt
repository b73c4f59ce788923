-- The text of a JSON object.
use Rattle.std.specs.Prelude.{ℕ, ◌==◌, ◌||◌, if◌then◌else◌, List, [], ◌∷◌, ◌++◌, map, flat_map, codes, decimal}
use Rattle.match_types.specs.declared.reading.PatternCause.{PatternCause}
use Rattle.match_types.specs.declared.reading.PatternCause.TheVariants.{TooLong, Minus, Unclosed, NoWords, TooMany}
use Rattle.desk_types.specs.declared.refusal.Detail.{Detail}
use Rattle.desk_types.specs.declared.refusal.Detail.TheVariants as detail
use Rattle.desk_types.specs.Refusal.{field_name}
use Rattle.http_api.specs.declared.json.JsonValue.{JsonValue}
use Rattle.http_api.specs.declared.json.JsonValue.TheVariants.{Number, Quoted, Plain, True, Told}
use Rattle.http_api.specs.declared.json.Member.{Member}

-- a text between quotation marks; those in it and backslashes are escaped by a backslash
abbrev pub escaped_byte : ℕ → List ℕ
escaped_byte byte = if byte == 34 || byte == 92 then 92 ∷ byte ∷ [] else byte ∷ []

unfoldable pub escaped : List ℕ → List ℕ
escaped text = flat_map escaped_byte text

abbrev pub quoted : List ℕ → List ℕ
quoted text = codes "\"" ++ text ++ codes "\""

-- the name of the cause for which a text is no pattern
abbrev pub name_of_cause : PatternCause → List ℕ
name_of_cause TooLong = codes "TooLong"
name_of_cause Minus = codes "Minus"
name_of_cause Unclosed = codes "Unclosed"
name_of_cause NoWords = codes "NoWords"
name_of_cause TooMany = codes "TooMany"

-- the detail of a refusal; a row of an import and the number of its refusal have a space between them
abbrev pub told_detail : Detail → List ℕ
told_detail detail.Nothing = []
told_detail (detail.Field field) = field_name field
told_detail (detail.Cause cause) = name_of_cause cause
told_detail (detail.Number number) = decimal number
told_detail (detail.Row row cause) = decimal row ++ codes " " ++ decimal cause

abbrev pub value_text : JsonValue → List ℕ
value_text (Number number) = decimal number
value_text (Quoted text) = quoted (escaped text.now)
value_text (Plain text) = quoted text.now
value_text True = codes "true"
value_text (Told detail) = quoted (told_detail detail)

-- texts with commas between them
abbrev pub behind_comma : List ℕ → List ℕ
behind_comma text = codes "," ++ text

abbrev pub with_commas : List (List ℕ) → List ℕ
with_commas [] = []
with_commas (text ∷ more) = text ++ flat_map behind_comma more

-- an object of these names and the texts of their values
abbrev pub named : List ℕ × List ℕ → List ℕ
named member = quoted member.0 ++ codes ":" ++ member.1

abbrev pub object : List (List ℕ × List ℕ) → List ℕ
object members = codes "{" ++ with_commas (map named members) ++ codes "}"

abbrev pub member_of : Member → List ℕ × List ℕ
member_of member = (member.name.now, value_text member.value)
