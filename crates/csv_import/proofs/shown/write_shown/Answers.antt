use Rattle.std.specs.Prelude.{flat_map}
use Rattle.desk_io.proofs.Putting.{puts_again, puts_broken}
use Rattle.csv_import.specs.ShownCsv.{shown_csv, shown_line}
use Rattle.csv_import.proofs.shown.write_shown.Goals as goal

pub returns-in_err-put_str-clause-puts : goal.returns-in_err-put_str-clause-puts
unfolding shown_csv
returns-in_err-put_str-clause-puts g c =
    puts_broken (flat_map shown_line c.args.rows.now) c.in_err-put_str.ensures.puts c.from_residual.ensures.0

pub returns-clause-puts : goal.returns-clause-puts
unfolding shown_csv
returns-clause-puts g c = puts_again c.in_ok-put_str.ensures.puts c.put_lines.ensures.puts
