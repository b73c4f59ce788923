use Rattle.std.proofs.Common.{◌++◌, refl}
use Rattle.std.specs.Prelude.{flat_map}
use Rattle.desk_io.proofs.Putting.{puts_again, puts_as, puts_broken}
use Rattle.ad_reports.specs.DayTable.{table_line, total_texts}
use Rattle.ad_reports.specs.TableLine.{line_texts, row_line}
use Rattle.ad_reports.proofs.TableParts.{table_parts}
use Rattle.ad_reports.proofs.day.write_day.Goals as goal

pub returns-in_err-put_line-clause-puts : goal.returns-in_err-put_line-clause-puts
returns-in_err-put_line-clause-puts g c =
    let rows = c.args.report.now.rows in
    puts_as (puts_broken (flat_map row_line rows ++ table_line (total_texts rows)) c.in_err-put_line.ensures.puts c.from_residual.ensures.0)
    (table_parts c.args.report.now rows (line_texts c.titles.result) (total_texts rows) refl c.titles.ensures refl)

pub returns-in_err-put_rows-clause-puts : goal.returns-in_err-put_rows-clause-puts
returns-in_err-put_rows-clause-puts g c =
    let rows = c.as_slice-rows.result.now in
    puts_as (puts_again c.in_ok-put_line.ensures.puts (puts_broken (table_line (total_texts rows)) c.in_err-put_rows.ensures.puts c.from_residual-in_err-put_rows.ensures.0))
    (table_parts c.args.report.now rows (line_texts c.titles.result) (total_texts rows) c.as_slice-rows.ensures c.titles.ensures refl)

pub returns-clause-puts : goal.returns-clause-puts
returns-clause-puts g c =
    let rows = c.as_slice-rows.result.now in
    puts_as (puts_again c.in_ok-put_line.ensures.puts (puts_again c.in_ok-put_rows.ensures.puts c.put_line-2.ensures.puts))
    (table_parts c.args.report.now rows (line_texts c.titles.result) (line_texts c.total_line.result) c.as_slice-rows.ensures c.titles.ensures c.total_line.ensures)
