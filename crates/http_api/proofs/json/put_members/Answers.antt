use Rattle.std.specs.Prelude.{flat_map}
use Rattle.desk_io.proofs.Putting.{puts_again, puts_as, puts_broken}
use Rattle.http_api.proofs.JsonMembers.{members-first, next_member}
use Rattle.http_api.proofs.json.put_members.Goals as goal

pub returns-in_err-put_member-clause-puts : goal.returns-in_err-put_member-clause-puts
returns-in_err-put_member-clause-puts g c =
    puts_as (puts_broken (flat_map next_member c.in-Some.more.now) c.in_err-put_member.ensures.puts c.from_residual.ensures.0)
    (members-first c.args.members.now c.in-Some.more.now c.in-Some.first.now c.in-Some.ensures.cases.0)

pub returns-clause-puts : goal.returns-clause-puts
returns-clause-puts g c =
    puts_as (puts_again c.in_ok-put_member.ensures.puts c.put_more_members.ensures.puts)
    (members-first c.args.members.now c.in-Some.more.now c.in-Some.first.now c.in-Some.ensures.cases.0)
