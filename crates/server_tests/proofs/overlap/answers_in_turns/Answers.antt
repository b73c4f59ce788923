use Rattle.std.proofs.Common.{◌≡◌, ap}
use Rattle.desk_hall.specs.Callers.{HallPass}
use Rattle.desk_server.proofs.Places.{all_of}
use Rattle.server_tests.proofs.overlap.answers_in_turns.Goals as goal

pub work_in_turns-requires-clause-lock : goal.work_in_turns-requires-clause-lock
work_in_turns-requires-clause-lock g c =
    all_of (λ (p : HallPass). p.lock ≡ c.in-Ok.hall.id) c.in-Ok.passes.items
    (λ place p here. ap (λ (q : HallPass). q.lock) (c.in-Ok.ensures.passes.each place p here))
