use Rattle.desk_io.proofs.Putting.{puts_again, puts_as, puts_broken}
use Rattle.http_api.specs.Json.{value_text}
use Rattle.http_api.proofs.JsonMembers.{member-named}
use Rattle.http_api.proofs.json.put_member.Goals as goal

pub returns-in_err-put_all-clause-puts : goal.returns-in_err-put_all-clause-puts
returns-in_err-put_all-clause-puts g c =
    let member = c.args.member.now in
    puts_as (puts_broken (value_text member.value) c.in_err-put_all.ensures.puts c.from_residual.ensures.0) (member-named member.name.now (value_text member.value))

pub returns-clause-puts : goal.returns-clause-puts
returns-clause-puts g c =
    let member = c.args.member.now in
    puts_as (puts_again c.in_ok-put_all.ensures.puts c.put_value.ensures.puts) (member-named member.name.now (value_text member.value))
