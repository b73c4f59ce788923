use Rattle.std.proofs.Common.{ap}
use Rattle.desk_io.proofs.Putting.{puts_as}
use Rattle.http_api.specs.Json.{object}
use Rattle.http_api.proofs.JsonMembers.{cons_same, last_same}
use Rattle.http_api.proofs.answer_body.put_host_day.Goals as goal

pub returns-clause-puts : goal.returns-clause-puts
returns-clause-puts g c =
    let members =
    cons_same c.member.ensures (
    cons_same c.member-2.ensures (
    cons_same c.member-3.ensures (
    cons_same c.member-4.ensures (
    cons_same c.member-5.ensures (
    cons_same c.member-6.ensures (
    last_same c.member-7.ensures)))))) in
    let same = ap object members in
    puts_as c.put_object.ensures.puts same
