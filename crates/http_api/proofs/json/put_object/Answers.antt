use Rattle.std.proofs.Common.{◌++◌}
use Rattle.std.specs.Prelude.{codes, map}
use Rattle.desk_io.proofs.Putting.{puts_again, puts_broken}
use Rattle.http_api.specs.Json.{member_of, named, with_commas}
use Rattle.http_api.proofs.json.put_object.Goals as goal

pub returns-in_err-put_str-clause-puts : goal.returns-in_err-put_str-clause-puts
returns-in_err-put_str-clause-puts g c =
    puts_broken (with_commas (map named (map member_of c.args.members.now)) ++ codes "}") c.in_err-put_str.ensures.puts c.from_residual.ensures.0

pub returns-in_err-put_members-clause-puts : goal.returns-in_err-put_members-clause-puts
returns-in_err-put_members-clause-puts g c =
    puts_again c.in_ok-put_str.ensures.puts (puts_broken (codes "}") c.in_err-put_members.ensures.puts c.from_residual-in_err-put_members.ensures.0)

pub returns-clause-puts : goal.returns-clause-puts
returns-clause-puts g c = puts_again c.in_ok-put_str.ensures.puts (puts_again c.in_ok-put_members.ensures.puts c.put_str-2.ensures.puts)
