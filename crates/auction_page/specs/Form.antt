-- The forms of an auction's lines.
use Rattle.std.specs.Prelude.{ℕ, Bool, ◌==◌, ◌||◌, ◌-◌, if◌then◌else◌, List, [], ◌∷◌, length, slice_index, Option, Some, None, codes, bytes_eq}
use Rattle.std.specs.List.{slice_split}
use Rattle.auction_types.specs.declared.limits.TheConstants.{BID_MIN, BID_MAX, QUALITY_MIN, QUALITY_MAX, FLOOR_MAX, PLACES_MAX}
use Rattle.auction_page.specs.declared.limits.TheConstants.{NUMBER_MAX, FREE_MAX}
use Rattle.auction_page.specs.HeadingValue.{HeadingValue}
use Rattle.auction_page.specs.declared.form.LineName.{LineName}
use Rattle.auction_page.specs.declared.form.AdLine.{AdLine}
use Rattle.script_api.specs.LineFields.{fields}
use Rattle.desk_io.specs.Number.{number_within}

-- whether a space stands at an end of the line
unfoldable pub has_outer_space : List ℕ → Bool
has_outer_space line = slice_index line 0 == 32 || slice_index line (length line - 1) == 32

-- the heading of three numbers, where each is spelled
abbrev pub heading_from : Option ℕ → Option ℕ → Option ℕ → Option HeadingValue
heading_from (Some reserve) (Some floor) (Some places) =
    Some (record { reserve = reserve; floor = floor; places = places })
heading_from _ _ _ = None

-- the heading that the fields `auction RESERVE FLOOR PLACES` spell
abbrev pub heading_of_fields : List (List ℕ) → Option HeadingValue
heading_of_fields (word ∷ reserve ∷ floor ∷ places ∷ []) =
    if bytes_eq word (codes "auction")
    then heading_from (number_within BID_MIN BID_MAX reserve) (number_within 0 FLOOR_MAX floor)
    (number_within 1 PLACES_MAX places)
    else None
heading_of_fields _ = None

-- the heading that a line spells, if it is one
unfoldable pub heading_in : List ℕ → Option HeadingValue
heading_in line = if has_outer_space line then None else heading_of_fields (fields line)

-- the name of three numbers, where each is spelled
abbrev pub name_from : Option ℕ → Option ℕ → Option ℕ → Option LineName
name_from (Some account) (Some campaign) (Some line) =
    Some (record { account = account; campaign = campaign; line = line })
name_from _ _ _ = None

-- the name whose parts between dots these are: `ACCOUNT.CAMPAIGN.LINE`
abbrev pub name_of_parts : List (List ℕ) → Option LineName
name_of_parts (account ∷ campaign ∷ line ∷ []) =
    name_from (number_within 1 NUMBER_MAX account) (number_within 1 NUMBER_MAX campaign)
    (number_within 1 NUMBER_MAX line)
name_of_parts _ = None

-- the parts of a text between its dots
unfoldable pub parts : List ℕ → List (List ℕ)
parts text = slice_split (λ byte. byte == 46) text

-- the name that a text spells, if it is one
unfoldable pub name_in : List ℕ → Option LineName
name_in text = name_of_parts (parts text)

-- the ad of a name and three numbers, where each is spelled
abbrev pub ad_from : Option LineName → Option ℕ → Option ℕ → Option ℕ → Option AdLine
ad_from (Some name) (Some bid) (Some quality) (Some free) =
    Some (record {
      ad = record { account = name.account; campaign = name.campaign; line = name.line; bid = bid; quality = quality };
      free = free;
    })
ad_from _ _ _ _ = None

-- the ad that the fields `ad ACCOUNT.CAMPAIGN.LINE BID QUALITY FREE` spell
abbrev pub ad_of_fields : List (List ℕ) → Option AdLine
ad_of_fields (word ∷ name ∷ bid ∷ quality ∷ free ∷ []) =
    if bytes_eq word (codes "ad")
    then ad_from (name_in name) (number_within BID_MIN BID_MAX bid) (number_within QUALITY_MIN QUALITY_MAX quality)
    (number_within 0 FREE_MAX free)
    else None
ad_of_fields _ = None

-- the ad that a line spells, if it is one
unfoldable pub ad_in : List ℕ → Option AdLine
ad_in line = if has_outer_space line then None else ad_of_fields (fields line)
