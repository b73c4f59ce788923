-- The statement of a day as a file of CSV.
use Rattle.std.specs.Prelude.{ℕ, List, ◌++◌, flat_map, codes, decimal}
use Rattle.desk_types.specs.declared.reply.ShownFate.{ShownFate}
use Rattle.desk_types.specs.declared.reply.ShownFate.TheVariants.{Open, Expired, Settled, Credited}
use Rattle.desk_types.specs.declared.reply.ShownRow.{ShownRow}

-- the name of a fate, and the moment at which a click settled it
abbrev pub fate_text : ShownFate → List ℕ
fate_text Open = codes "open,"
fate_text Expired = codes "expired,"
fate_text (Settled at) = codes "settled," ++ decimal at
fate_text (Credited settled credited) = codes "credited," ++ decimal settled

-- the line of a placement
abbrev pub shown_line : ShownRow → List ℕ
shown_line row =
    decimal row.placement ++ (codes "," ++ (decimal row.campaign ++ (codes "," ++ (decimal row.line ++ (codes ","
    ++ (decimal row.place ++ (codes "," ++ (decimal row.price ++ (codes "," ++ (decimal row.shown ++ (codes ","
    ++ (fate_text row.fate ++ codes "\n"))))))))))))

-- the file: the heading, and a line for each placement
unfoldable pub shown_csv : List ShownRow → List ℕ
shown_csv rows = codes "placement,campaign,line,place,price,shown,fate,moment\n" ++ flat_map shown_line rows
