-- The lines of reports and statements.
use Rattle.std.specs.Prelude.{ℕ, List, ◌++◌, length, flat_map, codes, decimal}
use Rattle.desk_types.specs.declared.reply.CampaignDay.{CampaignDay}
use Rattle.desk_types.specs.declared.reply.DayReport.{DayReport}
use Rattle.desk_types.specs.declared.reply.HostDay.{HostDay}
use Rattle.desk_types.specs.declared.reply.ShownFate.{ShownFate}
use Rattle.desk_types.specs.declared.reply.ShownFate.TheVariants.{Open, Expired, Settled, Credited}
use Rattle.desk_types.specs.declared.reply.ShownRow.{ShownRow}

-- `host D accounts N shown N clicks N spent N escrowed N credited N`
abbrev pub host_text : HostDay → List ℕ
host_text day =
    codes "host " ++ (decimal day.day ++ (codes " accounts " ++ (decimal day.accounts
    ++ (codes " shown " ++ (decimal day.shown ++ (codes " clicks " ++ (decimal day.clicks
    ++ (codes " spent " ++ (decimal day.spent ++ (codes " escrowed " ++ (decimal day.escrowed
    ++ (codes " credited " ++ decimal day.credited))))))))))))

-- a campaign of a report: ` | C budget N shown N clicks N spent N escrowed N free N credited N`
abbrev pub campaign_text : CampaignDay → List ℕ
campaign_text row =
    codes " | " ++ (decimal row.campaign ++ (codes " budget " ++ (decimal row.budget
    ++ (codes " shown " ++ (decimal row.shown ++ (codes " clicks " ++ (decimal row.clicks
    ++ (codes " spent " ++ (decimal row.spent ++ (codes " escrowed " ++ (decimal row.escrowed
    ++ (codes " free " ++ (decimal row.free ++ (codes " credited " ++ decimal row.credited))))))))))))))

-- `day D` and each of the campaigns
unfoldable pub day_text : DayReport → List ℕ
day_text report = codes "day " ++ (decimal report.day ++ flat_map campaign_text report.rows)

-- what became of a placement
abbrev pub fate_name : ShownFate → List ℕ
fate_name Open = codes "open"
fate_name Expired = codes "expired"
fate_name (Settled at) = codes "settled"
fate_name (Credited settled credited) = codes "credited"

-- a placement of a statement: ` | PLACEMENT C L PLACE PRICE FATE`
abbrev pub shown_row_text : ShownRow → List ℕ
shown_row_text row =
    codes " | " ++ (decimal row.placement ++ (codes " " ++ (decimal row.campaign ++ (codes " " ++ (decimal row.line
    ++ (codes " " ++ (decimal row.place ++ (codes " " ++ (decimal row.price ++ (codes " " ++ fate_name row.fate))))))))))

-- `shown COUNT` and each of the placements
unfoldable pub shown_text : List ShownRow → List ℕ
shown_text rows = codes "shown " ++ (decimal (length rows) ++ flat_map shown_row_text rows)
