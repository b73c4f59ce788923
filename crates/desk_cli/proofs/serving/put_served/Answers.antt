use Rattle.std.proofs.Common.{◌++◌}
use Rattle.desk_io.proofs.Putting.{puts_again, puts_as, puts_broken}
use Rattle.desk_cli.specs.Saying.{door_text, summary_text}
use Rattle.desk_cli.proofs.serving.put_served.Goals as goal

pub returns-in_err-put_totals-clause-puts : goal.returns-in_err-put_totals-clause-puts
returns-in_err-put_totals-clause-puts g c =
    puts_broken (summary_text c.args.summary ++ door_text c.args.totals.door_failed) c.in_err-put_totals.ensures.puts c.from_residual.ensures.0

pub returns-in_err-put_all-clause-puts : goal.returns-in_err-put_all-clause-puts
returns-in_err-put_all-clause-puts g c =
    puts_again c.in_ok-put_totals.ensures.puts
    (puts_broken (door_text c.args.totals.door_failed) (puts_as c.in_err-put_all.ensures.puts c.summary_pieces.ensures) c.from_residual-in_err-put_all.ensures.0)

pub returns-clause-puts : goal.returns-clause-puts
returns-clause-puts g c =
    puts_again c.in_ok-put_totals.ensures.puts
    (puts_again (puts_as c.in_ok-put_all.ensures.puts c.summary_pieces.ensures) (puts_as c.put_str.ensures.puts c.door_line.ensures))
