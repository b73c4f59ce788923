use Rattle.std.specs.Prelude.{flat_map}
use Rattle.desk_io.proofs.Putting.{puts_again, puts_as, puts_broken}
use Rattle.http_api.proofs.AnswerSpots.{next_spot, spots-first}
use Rattle.http_api.proofs.answer_body.put_spots.Goals as goal

pub returns-in_err-put_spot-clause-puts : goal.returns-in_err-put_spot-clause-puts
returns-in_err-put_spot-clause-puts g c =
    puts_as (puts_broken (flat_map next_spot c.in-Some.more.now) c.in_err-put_spot.ensures.puts c.from_residual.ensures.0)
    (spots-first c.args.spots.now c.in-Some.more.now c.in-Some.first.now c.in-Some.ensures.cases.0)

pub returns-clause-puts : goal.returns-clause-puts
returns-clause-puts g c =
    puts_as (puts_again c.in_ok-put_spot.ensures.puts c.put_more_spots.ensures.puts)
    (spots-first c.args.spots.now c.in-Some.more.now c.in-Some.first.now c.in-Some.ensures.cases.0)
