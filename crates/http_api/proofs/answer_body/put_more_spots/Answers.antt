use Rattle.std.proofs.Common.{◌∙◌, arith}
use Rattle.desk_io.proofs.PuttingEach.{puts_one_more, puts_stopped}
use Rattle.http_api.proofs.AnswerSpots.{next_spot}
use Rattle.http_api.proofs.answer_body.put_more_spots.Goals as goal

pub returns-in_err-put_next_spot-clause-puts : goal.returns-in_err-put_next_spot-clause-puts
returns-in_err-put_next_spot-clause-puts g c =
    puts_stopped next_spot c.args.spots.now c.loop-spot.spot-index c.spot-item.result (omega arith) c.spot-item.is
    c.loop-spot.invariant.puts c.in_err-put_next_spot.ensures.puts c.from_residual.ensures.0

pub loop-spot-preserved : goal.loop-spot-preserved
loop-spot-preserved g c = record {
  puts = puts_one_more next_spot c.args.spots.now c.loop-spot.spot-index c.spot-item.result (omega arith) c.spot-item.is
      c.loop-spot.invariant.puts c.in_ok-put_next_spot.ensures.puts;
  source_side = c.in_ok-put_next_spot.ensures.source_side ∙ c.loop-spot.invariant.source_side;
}
