-- The texts of a line, from what stands in its columns.
use Rattle.std.specs.Prelude.{ℕ, List, [], ◌∷◌, decimal}
use Rattle.desk_types.specs.declared.reply.CampaignDay.{CampaignDay}
use Rattle.ad_reports.specs.declared.cell.Cell.{Cell}
use Rattle.ad_reports.specs.declared.cell.Cell.TheVariants.{Text, Number}
use Rattle.ad_reports.specs.declared.cell.Width.{Width}
use Rattle.ad_reports.specs.declared.cell.Width.TheVariants.{Campaign, Count, Cents}
use Rattle.ad_reports.specs.declared.line.Line.{Line}
use Rattle.ad_reports.specs.DayTable.{aligned, row_texts, table_line}

-- how many places a column has
abbrev pub places : Width → ℕ
places Campaign = 4
places Count = 9
places Cents = 15

-- a number is written in decimal digits
abbrev pub cell_text : Cell → List ℕ
cell_text (Text text) = text.now
cell_text (Number number) = decimal number

-- a column behind a space
abbrev pub column_text : Width × Cell → List ℕ
column_text column = 32 ∷ aligned (places column.0) (cell_text column.1)

-- the texts in the columns of a line
abbrev pub line_texts : Line → List (List ℕ)
line_texts line =
    cell_text line.campaign ∷ cell_text line.budget ∷ cell_text line.shown ∷ cell_text line.clicks
    ∷ cell_text line.spent ∷ cell_text line.escrowed ∷ cell_text line.free ∷ cell_text line.credited ∷ []

-- the line of a campaign
abbrev pub row_line : CampaignDay → List ℕ
row_line row = table_line (row_texts row)
