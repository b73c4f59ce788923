use Rattle.std.proofs.Common.{refl}
use Rattle.desk_io.proofs.Putting.{puts_again, puts_as, puts_broken}
use Rattle.ad_reports.specs.DayTable.{aligned}
use Rattle.ad_reports.specs.TableLine.{cell_text, places}
use Rattle.ad_reports.proofs.line.put_column.Goals as goal

pub returns-in_err-put_str-clause-puts : goal.returns-in_err-put_str-clause-puts
returns-in_err-put_str-clause-puts g c =
    puts_as (puts_broken (aligned (places c.args.column.now.0) (cell_text c.args.column.now.1)) c.in_err-put_str.ensures.puts c.from_residual.ensures.0) refl

pub returns-clause-puts : goal.returns-clause-puts
returns-clause-puts g c = puts_as (puts_again c.in_ok-put_str.ensures.puts c.put_cell.ensures.puts) refl
