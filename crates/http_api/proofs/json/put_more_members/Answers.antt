use Rattle.std.proofs.Common.{◌∙◌, arith}
use Rattle.std.proofs.lemmas.List.{get_or_default}
use Rattle.desk_io.proofs.PuttingEach.{puts_one_more, puts_stopped}
use Rattle.http_api.proofs.JsonMembers.{next_member}
use Rattle.http_api.proofs.json.put_more_members.Goals as goal

pub returns-in_err-put_next_member-clause-puts : goal.returns-in_err-put_next_member-clause-puts
returns-in_err-put_next_member-clause-puts g c =
    puts_stopped next_member c.args.members.now c.loop-member.member-index _ (omega arith) (get_or_default c.args.members.now c.loop-member.member-index _ _ (omega arith))
    c.loop-member.invariant.puts c.in_err-put_next_member.ensures.puts c.from_residual.ensures.0

pub loop-member-preserved : goal.loop-member-preserved
loop-member-preserved g c = record {
  puts = puts_one_more next_member c.args.members.now c.loop-member.member-index _ (omega arith) (get_or_default c.args.members.now c.loop-member.member-index _ _ (omega arith))
      c.loop-member.invariant.puts c.in_ok-put_next_member.ensures.puts;
  source_side = c.in_ok-put_next_member.ensures.source_side ∙ c.loop-member.invariant.source_side;
}
