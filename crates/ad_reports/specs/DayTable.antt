-- The report of a day as a table of text.
use Rattle.std.specs.Prelude.{ℕ, ◌-◌, List, [], ◌∷◌, ◌++◌, length, replicate, flat_map, codes, decimal, sum_by}
use Rattle.desk_types.specs.declared.reply.CampaignDay.{CampaignDay}
use Rattle.desk_types.specs.declared.reply.DayReport.{DayReport}

-- how many places the columns have
abbrev pub widths : List ℕ
widths = 4 ∷ 15 ∷ 9 ∷ 9 ∷ 15 ∷ 15 ∷ 15 ∷ 15 ∷ []

-- a text at the right of its column; one that is longer stands whole
abbrev pub aligned : ℕ → List ℕ → List ℕ
aligned width text = replicate (width - length text) 32 ++ text

abbrev pub in_columns : List ℕ → List (List ℕ) → List (List ℕ)
in_columns (width ∷ more) (text ∷ texts) = aligned width text ∷ in_columns more texts
in_columns [] texts = []
in_columns (width ∷ more) [] = []

-- texts with a space between
abbrev pub with_spaces : List (List ℕ) → List ℕ
with_spaces [] = []
with_spaces (text ∷ more) = text ++ flat_map (λ next. 32 ∷ next) more

-- a line of the table by the texts in its columns
unfoldable pub table_line : List (List ℕ) → List ℕ
table_line texts = with_spaces (in_columns widths texts) ++ codes "\n"

abbrev pub titles : List (List ℕ)
titles =
    codes "camp" ∷ codes "budget" ∷ codes "shown" ∷ codes "clicks" ∷ codes "spent" ∷ codes "escrowed" ∷ codes "free"
    ∷ codes "credited" ∷ []

-- the line of a campaign
abbrev pub row_texts : CampaignDay → List (List ℕ)
row_texts row =
    decimal row.campaign ∷ decimal row.budget ∷ decimal row.shown ∷ decimal row.clicks ∷ decimal row.spent
    ∷ decimal row.escrowed ∷ decimal row.free ∷ decimal row.credited ∷ []

-- the last line: the sums of all campaigns
abbrev pub total_texts : List CampaignDay → List (List ℕ)
total_texts rows =
    codes "all" ∷ decimal (sum_by (λ row. row.budget) rows) ∷ decimal (sum_by (λ row. row.shown) rows)
    ∷ decimal (sum_by (λ row. row.clicks) rows) ∷ decimal (sum_by (λ row. row.spent) rows)
    ∷ decimal (sum_by (λ row. row.escrowed) rows) ∷ decimal (sum_by (λ row. row.free) rows)
    ∷ decimal (sum_by (λ row. row.credited) rows) ∷ []

-- the table: the titles, a line for each campaign, and the sums
unfoldable pub day_table : DayReport → List ℕ
day_table report =
    table_line titles
    ++ (flat_map (λ row. table_line (row_texts row)) report.rows ++ table_line (total_texts report.rows))
