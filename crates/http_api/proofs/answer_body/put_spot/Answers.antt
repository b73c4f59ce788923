use Rattle.std.proofs.Common.{ap, ◌∙◌}
use Rattle.std.specs.Prelude.{codes}
use Rattle.desk_io.proofs.Putting.{puts_as}
use Rattle.http_api.specs.Json.{object}
use Rattle.http_api.proofs.JsonMembers.{cons_same, last_same, quoted_same}
use Rattle.http_api.proofs.answer_body.put_spot.Goals as goal

pub returns-clause-puts : goal.returns-clause-puts
returns-clause-puts g c =
    let headline = c.member-4.ensures ∙ quoted_same (codes "headline") _ _ c.as_str.ensures in
    let link = c.member-6.ensures ∙ quoted_same (codes "link") _ _ c.as_str-2.ensures.text in
    let members =
    cons_same c.member.ensures (
    cons_same c.member-2.ensures (
    cons_same c.member-3.ensures (
    cons_same headline (
    cons_same c.member-5.ensures (
    cons_same link (
    cons_same c.member-7.ensures (
    last_same c.member-8.ensures))))))) in
    let same = ap object members in
    puts_as c.put_object.ensures.puts same
