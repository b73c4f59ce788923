use Rattle.std.proofs.Common.{◌++◌}
use Rattle.std.specs.Prelude.{codes}
use Rattle.desk_io.proofs.Putting.{puts_again, puts_as, puts_broken}
use Rattle.ad_reports.proofs.TableParts.{line_parts, more_columns}
use Rattle.ad_reports.proofs.line.put_line.Goals as goal

pub returns-in_err-put_cell-clause-puts : goal.returns-in_err-put_cell-clause-puts
returns-in_err-put_cell-clause-puts g c =
    puts_as (puts_broken (more_columns c.args.line.now ++ codes "\n") c.in_err-put_cell.ensures.puts c.from_residual.ensures.0) (line_parts c.args.line.now)

pub returns-in_err-put_columns-clause-puts : goal.returns-in_err-put_columns-clause-puts
returns-in_err-put_columns-clause-puts g c =
    puts_as (puts_again c.in_ok-put_cell.ensures.puts (puts_broken (codes "\n") c.in_err-put_columns.ensures.puts c.from_residual-in_err-put_columns.ensures.0)) (line_parts c.args.line.now)

pub returns-clause-puts : goal.returns-clause-puts
returns-clause-puts g c =
    puts_as (puts_again c.in_ok-put_cell.ensures.puts (puts_again c.in_ok-put_columns.ensures.puts c.put_str.ensures.puts)) (line_parts c.args.line.now)
