-- The line of an answer.
use Rattle.std.specs.Prelude.{ℕ, List, [], ◌++◌, length, flat_map, codes, decimal, Result, Ok, Err}
use Rattle.match_types.specs.declared.reading.PatternCause.{PatternCause}
use Rattle.match_types.specs.declared.reading.PatternCause.TheVariants.{TooLong, Minus, Unclosed, NoWords, TooMany}
use Rattle.desk_types.specs.declared.entry.Fault.{Fault}
use Rattle.desk_types.specs.declared.entry.Fault.TheVariants.{Keeper, JournalFull, NoMemory}
use Rattle.desk_types.specs.declared.refusal.Refusal.{Refusal}
use Rattle.desk_types.specs.declared.refusal.Detail.{Detail}
use Rattle.desk_types.specs.declared.refusal.Detail.TheVariants as detail
use Rattle.desk_types.specs.declared.reply.Reply.{Reply}
use Rattle.desk_types.specs.declared.reply.Reply.TheVariants.{Made, Done, Credited, HostDay, Imported, Day, ShownRows, Page, Went, Refused}
use Rattle.desk_types.specs.declared.reply.Spot.{Spot}
use Rattle.desk_types.specs.Refusal.{name_of, detail_of, field_name}
use Rattle.script_api.specs.ReportLine.{day_text, host_text, shown_text}

-- the name of the cause for which a text is no pattern
abbrev pub cause_name : PatternCause → List ℕ
cause_name TooLong = codes "TooLong"
cause_name Minus = codes "Minus"
cause_name Unclosed = codes "Unclosed"
cause_name NoWords = codes "NoWords"
cause_name TooMany = codes "TooMany"

-- a row of an import and the number of its refusal, each behind a space
abbrev pub row_text : ℕ → ℕ → List ℕ
row_text row cause = codes " " ++ (decimal row ++ (codes " " ++ decimal cause))

-- a space and the detail of a refusal, where there is one
abbrev pub detail_text : Detail → List ℕ
detail_text detail.Nothing = []
detail_text (detail.Field field) = codes " " ++ field_name field
detail_text (detail.Cause cause) = codes " " ++ cause_name cause
detail_text (detail.Number number) = codes " " ++ decimal number
detail_text (detail.Row row cause) = row_text row cause

-- `refused NAME` and the detail
abbrev pub refusal_text : Refusal → List ℕ
refusal_text refusal = codes "refused " ++ (name_of refusal ++ detail_text (detail_of refusal))

-- the name of the line that a place shows: `A.C.L`
abbrev pub name_text : Spot → List ℕ
name_text spot = decimal spot.account ++ (codes "." ++ (decimal spot.campaign ++ (codes "." ++ decimal spot.line)))

-- a place of a page: ` | PLACE A.C.L PRICE #PLACEMENT`
abbrev pub spot_text : Spot → List ℕ
spot_text spot =
    codes " | " ++ (decimal spot.place ++ (codes " " ++ (name_text spot
    ++ (codes " " ++ (decimal spot.price ++ (codes " #" ++ decimal spot.placement))))))

-- `page COUNT` and each of its places
unfoldable pub page_text : List Spot → List ℕ
page_text spots = codes "page " ++ (decimal (length spots) ++ flat_map spot_text spots)

-- `imported FIRST COUNT`
abbrev pub imported_text : ℕ → ℕ → List ℕ
imported_text first count = codes "imported " ++ (decimal first ++ (codes " " ++ decimal count))

-- the text of a reply
abbrev pub reply_text : Reply → List ℕ
reply_text (Made number) = codes "made " ++ decimal number
reply_text Done = codes "done"
reply_text (Credited price) = codes "credited " ++ decimal price
reply_text (HostDay day) = host_text day
reply_text (Imported first count) = imported_text first count
reply_text (Day report) = day_text report
reply_text (ShownRows rows) = shown_text rows
reply_text (Page spots) = page_text spots
reply_text (Went link) = codes "went " ++ link
reply_text (Refused refusal) = refusal_text refusal

-- the text of a fault
abbrev pub fault_text : Fault → List ℕ
fault_text (Keeper before after) = codes "fault keeper"
fault_text (JournalFull entries bytes) = codes "fault journal"
fault_text NoMemory = codes "fault memory"

abbrev pub answer_text : Result Reply Fault → List ℕ
answer_text (Ok reply) = reply_text reply
answer_text (Err fault) = fault_text fault

-- the line of an answer, with its line feed
abbrev pub answer_line : Result Reply Fault → List ℕ
answer_line answer = answer_text answer ++ codes "\n"
