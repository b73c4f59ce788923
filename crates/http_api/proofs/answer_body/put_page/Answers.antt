use Rattle.std.proofs.Common.{◌++◌}
use Rattle.std.specs.Prelude.{codes, map}
use Rattle.desk_io.proofs.Putting.{puts_again, puts_as, puts_broken}
use Rattle.http_api.specs.AnswerText.{spot_body}
use Rattle.http_api.specs.Json.{with_commas}
use Rattle.http_api.proofs.AnswerSpots.{page-text}
use Rattle.http_api.proofs.answer_body.put_page.Goals as goal

pub returns-in_err-put_str-clause-puts : goal.returns-in_err-put_str-clause-puts
returns-in_err-put_str-clause-puts g c =
    let spots = with_commas (map spot_body c.args.spots.now) in
    puts_as (puts_broken (spots ++ codes "]}") c.in_err-put_str.ensures.puts c.from_residual.ensures.0) (page-text spots)

pub returns-in_err-put_spots-clause-puts : goal.returns-in_err-put_spots-clause-puts
returns-in_err-put_spots-clause-puts g c =
    puts_as (puts_again c.in_ok-put_str.ensures.puts (puts_broken (codes "]}") c.in_err-put_spots.ensures.puts c.from_residual-in_err-put_spots.ensures.0))
    (page-text (with_commas (map spot_body c.args.spots.now)))

pub returns-clause-puts : goal.returns-clause-puts
returns-clause-puts g c =
    puts_as (puts_again c.in_ok-put_str.ensures.puts (puts_again c.in_ok-put_spots.ensures.puts c.put_str-2.ensures.puts))
    (page-text (with_commas (map spot_body c.args.spots.now)))
