use Rattle.std.proofs.Common.{◌++◌, append_assoc}
use Rattle.std.specs.Prelude.{codes}
use Rattle.desk_io.proofs.Putting.{puts_again, puts_as, puts_broken}
use Rattle.csv_import.specs.ShownCsv.{fate_text}
use Rattle.csv_import.proofs.shown.put_line.Goals as goal

pub returns-in_err-put_all-clause-puts : goal.returns-in_err-put_all-clause-puts
returns-in_err-put_all-clause-puts g c =
    puts_as (puts_broken (fate_text c.args.row.now.fate ++ codes "\n") c.in_err-put_all.ensures.puts c.from_residual.ensures.0) (simp append_assoc)

pub returns-clause-puts : goal.returns-clause-puts
returns-clause-puts g c = puts_as (puts_again c.in_ok-put_all.ensures.puts c.put_fate.ensures.puts) (simp append_assoc)
