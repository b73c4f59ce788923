use Rattle.std.proofs.Common.{◌∙◌, arith}
use Rattle.desk_io.proofs.PuttingEach.{puts_one_more, puts_stopped}
use Rattle.script_api.specs.ReplyLine.{spot_text}
use Rattle.script_api.proofs.reply_line.put_spots.Goals as goal

pub returns-in_err-put_spot-clause-puts : goal.returns-in_err-put_spot-clause-puts
returns-in_err-put_spot-clause-puts g c =
    puts_stopped spot_text c.args.spots.now c.loop-spot.spot-index c.spot-item.result (omega arith) c.spot-item.is
    c.loop-spot.invariant.puts c.in_err-put_spot.ensures.puts c.from_residual.ensures.0

pub loop-spot-preserved : goal.loop-spot-preserved
loop-spot-preserved g c = record {
  puts = puts_one_more spot_text c.args.spots.now c.loop-spot.spot-index c.spot-item.result (omega arith) c.spot-item.is
      c.loop-spot.invariant.puts c.in_ok-put_spot.ensures.puts;
  source_side = c.in_ok-put_spot.ensures.source_side ∙ c.loop-spot.invariant.source_side;
}
