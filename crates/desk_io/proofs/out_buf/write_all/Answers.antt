use Rattle.std.proofs.Common.{◌∙◌, arith}
use Rattle.desk_io.proofs.Sending.{Sending_more}
use Rattle.desk_io.proofs.out_buf.write_all.Goals as goal

pub loop-rest-preserved : goal.loop-rest-preserved
loop-rest-preserved g c = record {
  sending = rw c.split_at.ensures.back (Sending_more _ _ _ _ _ c.in-Took.count c.loop-rest.invariant.sending c.in-Took.ensures.bytes);
  faults = omega (arith, c.in-Took.ensures.faults);
  source_side = c.in-Took.ensures.source_side ∙ c.loop-rest.invariant.source_side;
}
