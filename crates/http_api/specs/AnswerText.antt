-- The text of an answer.
use Rattle.std.specs.Prelude.{ℕ, Bool, if◌then◌else◌, List, [], ◌∷◌, ◌++◌, length, map, codes, decimal, Option, Some, None, unwrap_or, Ok, Err}
use Rattle.desk_io.specs.Counting.{capped}
use Rattle.desk_types.specs.declared.entry.Fault.{Fault}
use Rattle.desk_types.specs.declared.entry.Fault.TheVariants as fault
use Rattle.desk_types.specs.declared.refusal.Refusal.{Refusal}
use Rattle.desk_types.specs.declared.refusal.Refusal.TheVariants.{BadKey, NoAccount, NoCampaign, NoLine, NoNegative, NoPlacement, BadField, BadPattern, LineThere, NegativeThere, BudgetBelowUsed, NotSettled, AccountsFull, CampaignsFull, LinesFull, NegativesFull, PlacementsFull, QueryTooLong, QueryTooMany, BadRow}
use Rattle.desk_types.specs.declared.refusal.Detail.{Detail}
use Rattle.desk_types.specs.declared.refusal.Detail.TheVariants.{Nothing, Number}
use Rattle.desk_types.specs.declared.reply.HostDay.{HostDay}
use Rattle.desk_types.specs.declared.reply.Reply.{Reply}
use Rattle.desk_types.specs.declared.reply.Reply.TheVariants as reply
use Rattle.desk_types.specs.declared.reply.Spot.{Spot}
use Rattle.desk_types.specs.Refusal.{name_of, detail_of, number_of}
use Rattle.ad_reports.specs.DayTable.{day_table}
use Rattle.csv_import.specs.ShownCsv.{shown_csv}
use Rattle.http.specs.StatusCode.{reason_phrase}
use Rattle.http_api.specs.declared.answer.Answer.{Answer}
use Rattle.http_api.specs.declared.answer.Answer.TheVariants.{Judged, Served}
use Rattle.http_api.specs.declared.answer.AnswerForm.{AnswerForm}
use Rattle.http_api.specs.declared.judgement.Judgement.{Judgement}
use Rattle.http_api.specs.declared.judgement.Judgement.TheVariants as judged
use Rattle.http_api.specs.Json.{escaped, object, quoted, told_detail, with_commas}

-- the status of a refusal
abbrev pub refusal_status : Refusal → ℕ
refusal_status BadKey = 403
refusal_status NoAccount = 404
refusal_status NoCampaign = 404
refusal_status NoLine = 404
refusal_status NoNegative = 404
refusal_status NoPlacement = 404
refusal_status (BadField field) = 422
refusal_status (BadPattern cause) = 422
refusal_status (LineThere line) = 409
refusal_status (NegativeThere negative) = 409
refusal_status (BudgetBelowUsed used) = 409
refusal_status NotSettled = 409
refusal_status AccountsFull = 409
refusal_status CampaignsFull = 409
refusal_status LinesFull = 409
refusal_status NegativesFull = 409
refusal_status PlacementsFull = 409
refusal_status (QueryTooLong bytes) = 422
refusal_status (QueryTooMany words) = 422
refusal_status (BadRow row cause) = 422

-- the status of a judgement, its name, and the method that it allows
abbrev pub judgement_status : Judgement → ℕ
judgement_status judged.NotBuilt = 400
judgement_status judged.BadHost = 400
judgement_status judged.BadEncoding = 415
judgement_status judged.BadTarget = 400
judgement_status judged.NoRoute = 404
judgement_status (judged.BadMethod allowed) = 405
judgement_status judged.HostKey = 403
judgement_status judged.BadQuery = 400
judgement_status judged.BadBody = 400
judgement_status (judged.BadCsv row) = 400

abbrev pub judgement_name : Judgement → List ℕ
judgement_name judged.NotBuilt = codes "NotBuilt"
judgement_name judged.BadHost = codes "BadHost"
judgement_name judged.BadEncoding = codes "BadEncoding"
judgement_name judged.BadTarget = codes "BadTarget"
judgement_name judged.NoRoute = codes "NoRoute"
judgement_name (judged.BadMethod allowed) = codes "BadMethod"
judgement_name judged.HostKey = codes "HostKey"
judgement_name judged.BadQuery = codes "BadQuery"
judgement_name judged.BadBody = codes "BadBody"
judgement_name (judged.BadCsv row) = codes "BadCsv"

-- the number of a record that is bad, where it is one that is
abbrev pub judgement_detail : Judgement → Detail
judgement_detail (judged.BadCsv (Some row)) = Number row
judgement_detail (judged.BadCsv None) = Nothing
judgement_detail judged.NotBuilt = Nothing
judgement_detail judged.BadHost = Nothing
judgement_detail judged.BadEncoding = Nothing
judgement_detail judged.BadTarget = Nothing
judgement_detail judged.NoRoute = Nothing
judgement_detail (judged.BadMethod allowed) = Nothing
judgement_detail judged.HostKey = Nothing
judgement_detail judged.BadQuery = Nothing
judgement_detail judged.BadBody = Nothing

abbrev pub allowed_by : Judgement → Option (List ℕ)
allowed_by (judged.BadMethod allowed) = Some allowed
allowed_by judged.NotBuilt = None
allowed_by judged.BadHost = None
allowed_by judged.BadEncoding = None
allowed_by judged.BadTarget = None
allowed_by judged.NoRoute = None
allowed_by judged.HostKey = None
allowed_by judged.BadQuery = None
allowed_by judged.BadBody = None
allowed_by (judged.BadCsv row) = None

-- the status and the name of a fault
abbrev pub fault_status : Fault → ℕ
fault_status (fault.Keeper before after) = 500
fault_status (fault.JournalFull entries bytes) = 507
fault_status fault.NoMemory = 503

abbrev pub fault_name : Fault → List ℕ
fault_name (fault.Keeper before after) = codes "Keeper"
fault_name (fault.JournalFull entries bytes) = codes "JournalFull"
fault_name fault.NoMemory = codes "NoMemory"

-- `{"code":NUMBER,"detail":TEXT,"name":NAME}`
abbrev pub failure_body : ℕ → Detail → List ℕ → List ℕ
failure_body code detail name =
    object ((codes "code", decimal code) ∷ (codes "detail", quoted (told_detail detail)) ∷ (codes "name", quoted name) ∷ [])

abbrev pub import_body : ℕ → ℕ → List ℕ
import_body first count = object ((codes "count", decimal count) ∷ (codes "first", decimal first) ∷ [])

abbrev pub host_day_body : HostDay → List ℕ
host_day_body day = object (
    (codes "accounts", decimal day.accounts)
    ∷ (codes "clicks", decimal day.clicks)
    ∷ (codes "credited", decimal day.credited)
    ∷ (codes "day", decimal day.day)
    ∷ (codes "escrowed", decimal day.escrowed)
    ∷ (codes "shown", decimal day.shown)
    ∷ (codes "spent", decimal day.spent)
    ∷ [])

abbrev pub spot_body : Spot → List ℕ
spot_body spot = object (
    (codes "account", decimal spot.account)
    ∷ (codes "campaign", decimal spot.campaign)
    ∷ (codes "click", decimal spot.placement)
    ∷ (codes "headline", quoted (escaped spot.headline))
    ∷ (codes "line", decimal spot.line)
    ∷ (codes "link", quoted (escaped spot.link))
    ∷ (codes "place", decimal spot.place)
    ∷ (codes "price", decimal spot.price)
    ∷ [])

abbrev pub page_body : List Spot → List ℕ
page_body spots = object ((codes "page", codes "[" ++ with_commas (map spot_body spots) ++ codes "]") ∷ [])

-- what an answer is made of: its status, the type of its content, its body, and where it applies the link that it goes
-- to and the method that it allows
pub record AnswerParts : Type 0 where
  pub status : ℕ
  pub content : Option (List ℕ)
  pub body : List ℕ
  pub location : Option (List ℕ)
  pub allow : Option (List ℕ)

abbrev pub with_content : List ℕ → ℕ → List ℕ → AnswerParts
with_content content status body =
    record { status = status; content = Some content; body = body; location = None; allow = None }

abbrev pub with_json : ℕ → List ℕ → AnswerParts
with_json status body = with_content (codes "application/json") status body

abbrev pub by_judgement_alone : Judgement → AnswerParts
by_judgement_alone judgement =
    record (with_json (judgement_status judgement) (failure_body 0 (judgement_detail judgement) (judgement_name judgement)))
    { allow = allowed_by judgement }

abbrev pub parts_of_reply : Reply → AnswerParts
parts_of_reply (reply.Made number) = with_json 200 (object ((codes "made", decimal number) ∷ []))
parts_of_reply reply.Done = with_json 200 (object ((codes "done", codes "true") ∷ []))
parts_of_reply (reply.Credited price) = with_json 200 (object ((codes "credited", decimal price) ∷ []))
parts_of_reply (reply.HostDay day) = with_json 200 (host_day_body day)
parts_of_reply (reply.Imported first count) = with_json 200 (import_body first count)
parts_of_reply (reply.Day report) = with_content (codes "text/plain; charset=utf-8") 200 (day_table report)
parts_of_reply (reply.ShownRows rows) = with_content (codes "text/csv; charset=utf-8") 200 (shown_csv rows)
parts_of_reply (reply.Page spots) = with_json 200 (page_body spots)
parts_of_reply (reply.Went link) =
    record { status = 302; content = None; body = []; location = Some link; allow = None }
parts_of_reply (reply.Refused refusal) =
    with_json (refusal_status refusal) (failure_body (number_of refusal) (detail_of refusal) (name_of refusal))

unfoldable pub parts_of : Answer → AnswerParts
parts_of (Judged judgement) = by_judgement_alone judgement
parts_of (Served (Ok reply)) = parts_of_reply reply
parts_of (Served (Err fault)) = with_json (fault_status fault) (failure_body 0 Nothing (fault_name fault))

-- a field of the head, where it applies
abbrev pub field_line : List ℕ → Option (List ℕ) → List ℕ
field_line name (Some value) = name ++ codes ": " ++ value ++ codes "\r\n"
field_line name None = []

abbrev pub closing_line : Bool → List ℕ
closing_line closes = if closes then codes "Connection: close\r\n" else []

abbrev pub status_line : ℕ → List ℕ
status_line status =
    codes "HTTP/1.1 " ++ decimal status ++ codes " " ++ unwrap_or (reason_phrase status) [] ++ codes "\r\n"

-- the length of the body is told as 64 bits hold it
unfoldable pub head_text : AnswerParts → Bool → List ℕ
head_text parts closes =
    status_line parts.status
    ++ field_line (codes "Content-Type") parts.content
    ++ field_line (codes "Content-Length") (Some (decimal (capped (length parts.body))))
    ++ field_line (codes "Location") parts.location
    ++ field_line (codes "Allow") parts.allow
    ++ closing_line closes
    ++ codes "\r\n"

-- the text of an answer; the answer to a message with the method HEAD is its head alone
unfoldable pub answer_text : Answer → AnswerForm → List ℕ
answer_text answer form =
    let parts = parts_of answer in
    head_text parts form.closes ++ (if form.bodiless then [] else parts.body)
