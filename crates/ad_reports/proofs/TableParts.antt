-- A line and the table, from the parts that are put one after another.
use Rattle.std.proofs.Common.{◌≡◌, ℕ, ◌-◌, ◌≤◌, List, [], ◌∷◌, ◌++◌, length, take, sym, ap, ◌∙◌, append_assoc, arith}
use Rattle.std.specs.Prelude.{replicate, flat_map, codes}
use Rattle.std.proofs.lemmas.List.{take-replicate}
use Rattle.desk_types.specs.declared.reply.CampaignDay.{CampaignDay}
use Rattle.desk_types.specs.declared.reply.DayReport.{DayReport}
use Rattle.ad_reports.specs.declared.cell.Width.TheVariants.{Count, Cents}
use Rattle.ad_reports.specs.declared.line.Line.{Line}
use Rattle.ad_reports.specs.DayTable.{aligned, day_table, table_line, titles, total_texts}
use Rattle.ad_reports.specs.TableLine.{cell_text, column_text, line_texts, row_line}

-- spaces and a text are the text at the right of its column
pub aligned_parts : (spaces width : ℕ) (text : List ℕ) → spaces ≡ width - length text → width ≤ 15 → take spaces (replicate 15 32) ++ text ≡ aligned width text
aligned_parts spaces width text is low =
    let few : spaces ≤ 15 = omega arith in
    ap (λ (before : List ℕ). before ++ text) (take-replicate spaces 15 32 few ∙ ap (λ (n : ℕ). replicate n 32) is)

-- the columns behind the first one
abbrev pub more_columns : Line → List ℕ
more_columns line =
    flat_map column_text (
    (Cents, line.budget) ∷ (Count, line.shown) ∷ (Count, line.clicks) ∷ (Cents, line.spent) ∷ (Cents, line.escrowed)
    ∷ (Cents, line.free) ∷ (Cents, line.credited) ∷ []
    )

pub line_parts : (line : Line) → aligned 4 (cell_text line.campaign) ++ (more_columns line ++ codes "\n") ≡ table_line (line_texts line)
unfolding table_line
line_parts line = sym (append_assoc (aligned 4 (cell_text line.campaign)) (more_columns line) (codes "\n"))

pub table_parts : (report : DayReport) (rows : List CampaignDay) (first last : List (List ℕ)) → rows ≡ report.rows → first ≡ titles → last ≡ total_texts rows →
    table_line first ++ (flat_map row_line rows ++ table_line last) ≡ day_table report
unfolding day_table
table_parts report rows first last rows_are first_is last_is =
    ap (λ (texts : List (List ℕ)). table_line texts ++ (flat_map row_line rows ++ table_line last)) first_is
    ∙ ap (λ (texts : List (List ℕ)). table_line titles ++ (flat_map row_line rows ++ table_line texts)) last_is
    ∙ ap (λ (all : List CampaignDay). table_line titles ++ (flat_map row_line all ++ table_line (total_texts all))) rows_are
