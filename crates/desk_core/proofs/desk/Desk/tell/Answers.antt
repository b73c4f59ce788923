use Rattle.std.proofs.Common.{◌≤◌, IfSome, refl, ap, sym, subst, ◌∙◌, arith}
use Rattle.std.specs.List.{All}
use Rattle.desk_types.specs.declared.entry.Entry.{Entry}
use Rattle.desk_types.specs.Journal.{HasRise, IsBefore}
use Rattle.desk_core.specs.DeskValue.{desk_of, state}
use Rattle.desk_core.specs.JournalValue.{with_ended}
use Rattle.desk_core.proofs.Desks.{edition_of_rows, sound_rows}
use Rattle.desk_core.proofs.Telling.{IsTried, note_in_order, note_rise, note_room, told_answers, told_counts, told_stays, told_sure, told_there, told_unasked, tried_reached}
use Rattle.desk_core.proofs.desk.Desk.tell.Goals as goal

pub attempt-told-requires-clause-sound : goal.attempt-told-requires-clause-sound
attempt-told-requires-clause-sound g c =
    sound_rows c.self.inside.ledger.state (desk_of c.self.inside.journal c.self.inside.opening c.self.inside.base (g.K.Keeper.keeper c.self.inside.keeper)) c.self.invariant

pub attempt-told-requires-clause-edition : goal.attempt-told-requires-clause-edition
attempt-told-requires-clause-edition g c =
    let d = desk_of c.self.inside.journal c.self.inside.opening c.self.inside.base (g.K.Keeper.keeper c.self.inside.keeper) in
    omega (arith, edition_of_rows c.self.inside.ledger.state d c.self.invariant, c.fault_of.ensures.few)

pub note-requires-clause-room : goal.note-requires-clause-room
note-requires-clause-room g c =
    subst (λ o. IfSome o (λ outcome. 1 ≤ c.attempt-told.new.journal.spare)) (sym c.outcome_of.ensures) (note_room c.attempt-told.result c.attempt-told.new.journal.spare c.attempt-told.ensures.room)

pub note-requires-clause-rise : goal.note-requires-clause-rise
note-requires-clause-rise g c =
    let d = desk_of c.self.inside.journal c.self.inside.opening c.self.inside.base (g.K.Keeper.keeper c.self.inside.keeper) in
    let rows = c.self.inside.ledger.state in
    let first = c.self.inside.journal in
    let between = c.attempt-told.new.journal in
    let keeper = g.K.Keeper.keeper c.attempt-told.new.keeper in
    let told = c.attempt-told.result in
    let stood = c.attempt-told.new.ledger.state in
    subst (λ o. IfSome o HasRise) (sym c.outcome_of.ensures) (note_rise rows c.args.moment c.args.call d.keeper told stood keeper c.attempt-told.ensures.leaves)

pub note-requires-clause-in_order : goal.note-requires-clause-in_order
note-requires-clause-in_order g c =
    let d = desk_of c.self.inside.journal c.self.inside.opening c.self.inside.base (g.K.Keeper.keeper c.self.inside.keeper) in
    let rows = c.self.inside.ledger.state in
    let first = c.self.inside.journal in
    let between = c.attempt-told.new.journal in
    let keeper = g.K.Keeper.keeper c.attempt-told.new.keeper in
    let told = c.attempt-told.result in
    let stood = c.attempt-told.new.ledger.state in
    subst (λ o. IfSome o (λ outcome. All (λ (e : Entry). IsBefore e.outcome outcome) between.entries)) (sym c.outcome_of.ensures)
    (note_in_order rows c.args.moment c.args.call d told stood keeper between.entries c.attempt-told.ensures.journal.entries c.self.invariant c.attempt-told.ensures.leaves)

pub invariant_of-self : goal.invariant_of-self
invariant_of-self g c =
    let d = desk_of c.self.inside.journal c.self.inside.opening c.self.inside.base (g.K.Keeper.keeper c.self.inside.keeper) in
    let rows = c.self.inside.ledger.state in
    let first = c.self.inside.journal in
    let between = c.attempt-told.new.journal in
    let keeper = g.K.Keeper.keeper c.attempt-told.new.keeper in
    let told = c.attempt-told.result in
    let stood = c.attempt-told.new.ledger.state in
    let tried : IsTried rows d first between c.note.new.self keeper c.args.caller c.args.moment c.args.call told stood = record {
      reached = c.self.invariant;
      room = c.in_default.ensures.full;
      settings = refl;
      log = refl;
      spared = c.attempt-told.ensures.journal;
      noted = c.note.ensures.settings;
      entries = c.note.ensures.entries ∙ ap (with_ended c.args.caller between.entries c.args.moment c.args.call) c.outcome_of.ensures;
      leaves = c.attempt-told.ensures.leaves;
    } in
    tried_reached rows d first between c.note.new.self keeper c.args.caller c.args.moment c.args.call told stood tried

pub returns-clause-answers : goal.returns-clause-answers
returns-clause-answers g c =
    let d = desk_of c.self.inside.journal c.self.inside.opening c.self.inside.base (g.K.Keeper.keeper c.self.inside.keeper) in
    let rows = c.self.inside.ledger.state in
    let first = c.self.inside.journal in
    let between = c.attempt-told.new.journal in
    let keeper = g.K.Keeper.keeper c.attempt-told.new.keeper in
    let told = c.attempt-told.result in
    let stood = c.attempt-told.new.ledger.state in
    let tried : IsTried rows d first between c.note.new.self keeper c.args.caller c.args.moment c.args.call told stood = record {
      reached = c.self.invariant;
      room = c.in_default.ensures.full;
      settings = refl;
      log = refl;
      spared = c.attempt-told.ensures.journal;
      noted = c.note.ensures.settings;
      entries = c.note.ensures.entries ∙ ap (with_ended c.args.caller between.entries c.args.moment c.args.call) c.outcome_of.ensures;
      leaves = c.attempt-told.ensures.leaves;
    } in
    told_answers rows d c.args.self.now first between c.note.new.self keeper c.args.caller c.args.moment c.args.call told stood tried c.self.view_is

pub returns-clause-there : goal.returns-clause-there
returns-clause-there g c =
    let d = desk_of c.self.inside.journal c.self.inside.opening c.self.inside.base (g.K.Keeper.keeper c.self.inside.keeper) in
    let rows = c.self.inside.ledger.state in
    let first = c.self.inside.journal in
    let between = c.attempt-told.new.journal in
    let keeper = g.K.Keeper.keeper c.attempt-told.new.keeper in
    let told = c.attempt-told.result in
    let stood = c.attempt-told.new.ledger.state in
    let tried : IsTried rows d first between c.note.new.self keeper c.args.caller c.args.moment c.args.call told stood = record {
      reached = c.self.invariant;
      room = c.in_default.ensures.full;
      settings = refl;
      log = refl;
      spared = c.attempt-told.ensures.journal;
      noted = c.note.ensures.settings;
      entries = c.note.ensures.entries ∙ ap (with_ended c.args.caller between.entries c.args.moment c.args.call) c.outcome_of.ensures;
      leaves = c.attempt-told.ensures.leaves;
    } in
    told_there rows d first between c.note.new.self keeper c.args.caller c.args.moment c.args.call told stood tried

pub returns-clause-stays : goal.returns-clause-stays
returns-clause-stays g c =
    let d = desk_of c.self.inside.journal c.self.inside.opening c.self.inside.base (g.K.Keeper.keeper c.self.inside.keeper) in
    let rows = c.self.inside.ledger.state in
    let first = c.self.inside.journal in
    let between = c.attempt-told.new.journal in
    let keeper = g.K.Keeper.keeper c.attempt-told.new.keeper in
    let told = c.attempt-told.result in
    let stood = c.attempt-told.new.ledger.state in
    let tried : IsTried rows d first between c.note.new.self keeper c.args.caller c.args.moment c.args.call told stood = record {
      reached = c.self.invariant;
      room = c.in_default.ensures.full;
      settings = refl;
      log = refl;
      spared = c.attempt-told.ensures.journal;
      noted = c.note.ensures.settings;
      entries = c.note.ensures.entries ∙ ap (with_ended c.args.caller between.entries c.args.moment c.args.call) c.outcome_of.ensures;
      leaves = c.attempt-told.ensures.leaves;
    } in
    told_stays rows d c.args.self.now first between c.note.new.self keeper c.args.caller c.args.moment c.args.call told stood tried c.self.view_is

pub returns-clause-unasked : goal.returns-clause-unasked
returns-clause-unasked g c =
    let d = desk_of c.self.inside.journal c.self.inside.opening c.self.inside.base (g.K.Keeper.keeper c.self.inside.keeper) in
    let rows = c.self.inside.ledger.state in
    let first = c.self.inside.journal in
    let between = c.attempt-told.new.journal in
    let keeper = g.K.Keeper.keeper c.attempt-told.new.keeper in
    let told = c.attempt-told.result in
    let stood = c.attempt-told.new.ledger.state in
    told_unasked rows d c.args.self.now c.args.moment c.args.call told stood keeper c.self.view_is c.self.invariant c.attempt-told.ensures.leaves

pub returns-clause-sure : goal.returns-clause-sure
returns-clause-sure g c =
    let d = desk_of c.self.inside.journal c.self.inside.opening c.self.inside.base (g.K.Keeper.keeper c.self.inside.keeper) in
    let rows = c.self.inside.ledger.state in
    let first = c.self.inside.journal in
    let between = c.attempt-told.new.journal in
    let keeper = g.K.Keeper.keeper c.attempt-told.new.keeper in
    let told = c.attempt-told.result in
    let stood = c.attempt-told.new.ledger.state in
    told_sure rows d c.args.self.now c.args.moment c.args.call told stood keeper (state (desk_of c.note.new.self d.opening d.base keeper)).tables c.self.view_is c.attempt-told.ensures.leaves

pub returns-clause-keeper_fault : goal.returns-clause-keeper_fault
returns-clause-keeper_fault g c = λ before after is.
    let d = desk_of c.self.inside.journal c.self.inside.opening c.self.inside.base (g.K.Keeper.keeper c.self.inside.keeper) in
    let rows = c.self.inside.ledger.state in
    let first = c.self.inside.journal in
    let between = c.attempt-told.new.journal in
    let keeper = g.K.Keeper.keeper c.attempt-told.new.keeper in
    let told = c.attempt-told.result in
    let stood = c.attempt-told.new.ledger.state in
    told_counts rows d c.args.self.now c.args.moment c.args.call told stood keeper before after c.self.view_is c.attempt-told.ensures.leaves is
