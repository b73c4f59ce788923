-- The calls that the fields of a line spell, by its command.
use Rattle.std.specs.Prelude.{ℕ, nat_lt, if◌then◌else◌, List, [], ◌∷◌, length, codes, bytes_eq, Option, Some, None, option_map}
use Rattle.desk_types.specs.declared.call.Call.{Call}
use Rattle.desk_types.specs.declared.call.Call.TheVariants.{AddAccount, AddCampaign, AddLine, AddNegative, DropNegative, Search, Click}
use Rattle.desk_io.specs.Number.{number}
use Rattle.script_api.specs.LineFields.{fields, unspaced, behind_first, behind_third, behind_fifth}
use Rattle.script_api.specs.Bar.{cut_at_bar, both}
use Rattle.script_api.specs.AskForm.{host_call, report_call, shown_call}
use Rattle.script_api.specs.EditForm.{quality_call, suspend_call, credit_call, budget_call, bid_call, pause_call}
use Rattle.script_api.specs.declared.command.CallWord.{CallWord}
use Rattle.script_api.specs.declared.command.CallWord.TheVariants as word

-- `KEY`
abbrev pub account_call : List (List ℕ) → Option Call
account_call (key ∷ []) = Some (AddAccount key)
account_call _ = None

-- `A KEY NUMBER`
abbrev pub campaign_from : List ℕ → Option ℕ → Option ℕ → Option Call
campaign_from key (Some account) (Some budget) = Some (AddCampaign account key budget)
campaign_from key _ _ = None

abbrev pub campaign_call : List (List ℕ) → Option Call
campaign_call (account ∷ key ∷ budget ∷ []) = campaign_from key (number account) (number budget)
campaign_call _ = None

-- `A KEY C BID LINK PATTERN | HEADLINE`, the text beginning with the pattern
abbrev pub line_from : List ℕ → List ℕ → Option ℕ → Option ℕ → Option ℕ → Option (List ℕ × List ℕ) → Option Call
line_from key link (Some account) (Some campaign) (Some bid) (Some cut) =
    Some (AddLine account key campaign bid cut.0 cut.1 link)
line_from key link _ _ _ _ = None

abbrev pub line_call : List (List ℕ) → List ℕ → Option Call
line_call (account ∷ key ∷ campaign ∷ bid ∷ link ∷ more) text =
    line_from key link (number account) (number campaign) (number bid) (both (cut_at_bar text))
line_call _ text = None

-- `A KEY C PATTERN`, the text being the pattern
abbrev pub negative_from : List ℕ → List ℕ → Option ℕ → Option ℕ → Option Call
negative_from key text (Some account) (Some campaign) =
    if nat_lt 0 (length text) then Some (AddNegative account key campaign text) else None
negative_from key text _ _ = None

abbrev pub negative_call : List (List ℕ) → List ℕ → Option Call
negative_call (account ∷ key ∷ campaign ∷ more) text = negative_from key text (number account) (number campaign)
negative_call _ text = None

-- `A KEY N`
abbrev pub drop_from : List ℕ → Option ℕ → Option ℕ → Option Call
drop_from key (Some account) (Some negative) = Some (DropNegative account key negative)
drop_from key _ _ = None

abbrev pub drop_call : List (List ℕ) → Option Call
drop_call (account ∷ key ∷ negative ∷ []) = drop_from key (number account) (number negative)
drop_call _ = None

-- `N TEXT` or `- TEXT`; the text may be empty
abbrev pub places_spelled : List ℕ → Option (Option ℕ)
places_spelled field = if bytes_eq field (codes "-") then Some None else option_map Some (number field)

abbrev pub search_from : List ℕ → Option (Option ℕ) → Option Call
search_from text (Some places) = Some (Search text places)
search_from text None = None

abbrev pub search_call : List (List ℕ) → List ℕ → Option Call
search_call (places ∷ more) text = search_from text (places_spelled places)
search_call [] text = None

-- `N`
abbrev pub click_from : Option ℕ → Option Call
click_from (Some placement) = Some (Click placement)
click_from None = None

abbrev pub click_call : List (List ℕ) → Option Call
click_call (placement ∷ []) = click_from (number placement)
click_call _ = None

-- the call of a command, by the text behind it
unfoldable pub call_spelled : CallWord → List ℕ → Option Call
call_spelled word.Account rest = account_call (fields rest)
call_spelled word.Quality rest = quality_call (fields rest)
call_spelled word.Suspend rest = suspend_call (fields rest)
call_spelled word.Credit rest = credit_call (fields rest)
call_spelled word.Host rest = host_call (fields rest)
call_spelled word.Campaign rest = campaign_call (fields rest)
call_spelled word.Budget rest = budget_call (fields rest)
call_spelled word.Line rest = line_call (fields rest) (unspaced (behind_fifth rest))
call_spelled word.Bid rest = bid_call (fields rest)
call_spelled word.Pause rest = pause_call (fields rest)
call_spelled word.Negative rest = negative_call (fields rest) (unspaced (behind_third rest))
call_spelled word.Drop rest = drop_call (fields rest)
call_spelled word.Report rest = report_call (fields rest)
call_spelled word.Shown rest = shown_call (fields rest)
call_spelled word.Search rest = search_call (fields rest) (unspaced (behind_first rest))
call_spelled word.Click rest = click_call (fields rest)
