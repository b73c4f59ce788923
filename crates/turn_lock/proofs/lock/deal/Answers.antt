use Rattle.std.proofs.Common.{rules, ◌≡◌, ℕ, subst, ◌∙◌}
use Rattle.turn_lock.specs.Seats.{Rests}
use Rattle.turn_lock.proofs.SeatKeeps.{may_split}
use Rattle.turn_lock.proofs.Dealing.{dealt_more, dealt_all, stays_away, comes, first_pass, last_away, last_pass}
use Rattle.turn_lock.proofs.lock.deal.Goals as goal

pub split_seat-next-requires : goal.split_seat-next-requires
split_seat-next-requires g c = (c.loop-number.invariant.0, search rules, may_split _ _ _ _ _ _ c.loop-number.number _ _ c.loop-number.invariant.1 (search rules))

pub of-requires : goal.of-requires
of-requires g c = stays_away _ _ _ c.loop-number.invariant.1 _ c.split_seat-next.ensures.2

pub of-requires-2 : goal.of-requires-2
of-requires-2 g c =
    let last : c.loop-number.number ≡ c.args.callers = search rules in
    subst (λ (n : ℕ). Rests n c.loop-number.seat.me) last (last_away _ _ _ c.loop-number.invariant.1)

pub loop-number-preserved : goal.loop-number-preserved
loop-number-preserved g c =
    let split = c.split_seat-next.ensures in
    let loop = c.loop-number.invariant in (
      split.3 ∙ loop.0,
      comes _ _ _ loop.1 _ split.4,
      rw c.push_reserved.ensures.items (dealt_more _ _ _ _ loop.2 (first_pass _ _ _ loop.1 _ _ _ _ split.2 c.of.ensures (split.0 ∙ loop.0))),
      search rules,
    )

pub returns : goal.returns
returns g c =
    let loop = c.loop-number.invariant in
    rw c.push_reserved-2.ensures.items (dealt_all _ _ _ _ _ loop.2 (last_pass _ _ _ loop.1 _ _ _ c.of-2.ensures loop.0) (search rules))
