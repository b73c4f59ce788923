use Rattle.std.proofs.Common.{append-nil}
use Rattle.std.specs.Prelude.{flat_map}
use Rattle.desk_io.proofs.Putting.{puts_again, puts_as, puts_broken}
use Rattle.script_api.specs.ReportLine.{shown_row_text, shown_text}
use Rattle.script_api.proofs.report_line.put_shown.Goals as goal

pub returns-in_err-put_all-clause-puts : goal.returns-in_err-put_all-clause-puts
unfolding shown_text
returns-in_err-put_all-clause-puts g c =
    puts_as (puts_broken (flat_map shown_row_text c.args.rows.now) c.in_err-put_all.ensures.puts c.from_residual.ensures.0) (simp append-nil)

pub returns-clause-puts : goal.returns-clause-puts
unfolding shown_text
returns-clause-puts g c = puts_as (puts_again c.in_ok-put_all.ensures.puts c.put_shown_rows.ensures.puts) (simp append-nil)
