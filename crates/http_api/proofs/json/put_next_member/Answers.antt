use Rattle.desk_io.proofs.Putting.{puts_again, puts_broken}
use Rattle.http_api.specs.Json.{member_of, named}
use Rattle.http_api.proofs.json.put_next_member.Goals as goal

pub returns-in_err-put_str-clause-puts : goal.returns-in_err-put_str-clause-puts
returns-in_err-put_str-clause-puts g c = puts_broken (named (member_of c.args.member.now)) c.in_err-put_str.ensures.puts c.from_residual.ensures.0

pub returns-clause-puts : goal.returns-clause-puts
returns-clause-puts g c = puts_again c.in_ok-put_str.ensures.puts c.put_member.ensures.puts
