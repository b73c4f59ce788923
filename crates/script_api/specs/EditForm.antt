-- The calls that the fields of a line spell which change a row that is there.
use Rattle.std.specs.Prelude.{ℕ, Bool, true, false, if◌then◌else◌, List, [], ◌∷◌, codes, bytes_eq, Option, Some, None}
use Rattle.desk_types.specs.declared.call.Call.{Call}
use Rattle.desk_types.specs.declared.call.Call.TheVariants.{SetQuality, Suspend, Credit, SetBudget, SetBid, Pause}
use Rattle.desk_types.specs.declared.call.Part.{Part}
use Rattle.desk_types.specs.declared.call.Part.TheVariants.{OfCampaign, OfLine}
use Rattle.desk_io.specs.Number.{number}

-- `on` or `off`, and whether it is on
abbrev pub switch_spelled : List ℕ → Option Bool
switch_spelled field =
    if bytes_eq field (codes "on") then Some true
    else (if bytes_eq field (codes "off") then Some false
    else None)

-- `campaign` or `line`, and the part of an account that has this number
abbrev pub part_named : List ℕ → Option ℕ → Option Part
part_named kind (Some number) =
    if bytes_eq kind (codes "campaign") then Some (OfCampaign number)
    else (if bytes_eq kind (codes "line") then Some (OfLine number)
    else None)
part_named kind None = None

-- `campaign C` or `line L`
abbrev pub part_spelled : List ℕ → List ℕ → Option Part
part_spelled kind numeral = part_named kind (number numeral)

-- `A L NUMBER`
abbrev pub quality_from : Option ℕ → Option ℕ → Option ℕ → Option Call
quality_from (Some account) (Some line) (Some quality) = Some (SetQuality account line quality)
quality_from _ _ _ = None

abbrev pub quality_call : List (List ℕ) → Option Call
quality_call (account ∷ line ∷ quality ∷ []) = quality_from (number account) (number line) (number quality)
quality_call _ = None

-- `A on` or `A off`; on is suspended
abbrev pub suspend_from : Option ℕ → Option Bool → Option Call
suspend_from (Some account) (Some suspended) = Some (Suspend account suspended)
suspend_from _ _ = None

abbrev pub suspend_call : List (List ℕ) → Option Call
suspend_call (account ∷ switch ∷ []) = suspend_from (number account) (switch_spelled switch)
suspend_call _ = None

-- `N`
abbrev pub credit_from : Option ℕ → Option Call
credit_from (Some placement) = Some (Credit placement)
credit_from None = None

abbrev pub credit_call : List (List ℕ) → Option Call
credit_call (placement ∷ []) = credit_from (number placement)
credit_call _ = None

-- `A KEY C NUMBER`
abbrev pub budget_from : List ℕ → Option ℕ → Option ℕ → Option ℕ → Option Call
budget_from key (Some account) (Some campaign) (Some amount) = Some (SetBudget account key campaign amount)
budget_from key _ _ _ = None

abbrev pub budget_call : List (List ℕ) → Option Call
budget_call (account ∷ key ∷ campaign ∷ amount ∷ []) =
    budget_from key (number account) (number campaign) (number amount)
budget_call _ = None

-- `A KEY L NUMBER`
abbrev pub bid_from : List ℕ → Option ℕ → Option ℕ → Option ℕ → Option Call
bid_from key (Some account) (Some line) (Some bid) = Some (SetBid account key line bid)
bid_from key _ _ _ = None

abbrev pub bid_call : List (List ℕ) → Option Call
bid_call (account ∷ key ∷ line ∷ bid ∷ []) = bid_from key (number account) (number line) (number bid)
bid_call _ = None

-- `A KEY campaign C on`, or `line L`, or `off`
abbrev pub pause_from : List ℕ → Option ℕ → Option Part → Option Bool → Option Call
pause_from key (Some account) (Some part) (Some on) = Some (Pause account key part on)
pause_from key _ _ _ = None

abbrev pub pause_call : List (List ℕ) → Option Call
pause_call (account ∷ key ∷ kind ∷ numeral ∷ switch ∷ []) =
    pause_from key (number account) (part_spelled kind numeral) (switch_spelled switch)
pause_call _ = None
