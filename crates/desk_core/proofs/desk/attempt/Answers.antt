use Rattle.std.proofs.Common.{Ok, ap, ◌∙◌}
use Rattle.desk_types.specs.Step.{Reached}
use Rattle.desk_core.proofs.Moments.{sound_now, step_from}
use Rattle.desk_core.proofs.Telling.{asked_at}
use Rattle.desk_core.proofs.desk.attempt.Goals as goal

pub answer-requires-clause-sound : goal.answer-requires-clause-sound
answer-requires-clause-sound g c = sound_now c.args.ledger.now.state c.go_to-earlier.new.self.state c.args.moment c.go_to-earlier.ensures.state c.requires.sound

pub returns-in-Ok-clause-leaves : goal.returns-in-Ok-clause-leaves
returns-in-Ok-clause-leaves g c =
    let S = c.args.ledger.now.state in
    let now = c.go_to-earlier.new.self.state in
    let is = c.go_to-earlier.ensures.state in
    let stepped = step_from S now c.args.moment c.args.call.now is in (
      record {
        state = c.in-Ok.ensures.state ∙ ap (λ (r : Reached). r.state) stepped;
        reply = c.in-Ok.ensures.reply ∙ ap (λ (r : Reached). r.reply) stepped;
        there = c.in-Ok.ensures.there;
      },
      asked_at S now c.args.moment c.args.call.now (g.K.Keeper.keeper c.args.keeper.now) (g.K.Keeper.keeper c.answer.new.keeper) (Ok c.in-Ok.told) is c.in-Ok.ensures.asked,
    )
