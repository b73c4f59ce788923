use Rattle.std.proofs.Common.{◌≡◌, List, sym, subst, ap, ◌∙◌}
use Rattle.desk_types.specs.declared.entry.Entry.{Entry}
use Rattle.desk_core.specs.declared.name.DeskName.{DeskName}
use Rattle.desk_core.specs.DeskValue.{Answers, DeskValue, name_of, service_of}
use Rattle.turn_lock.specs.Lists.{GrowsBy, IsPrefix}
use Rattle.turn_lock.specs.LockValues.{LockId, LockValue}
use Rattle.desk_hall.specs.Callers.{entries_by}
use Rattle.desk_hall.proofs.Turns.{IsTurn, grows_ended, turn_aside, turn_legal, turn_own_rows, turn_serves}
use Rattle.desk_hall.proofs.hall.Hall.call.Given.{Over}
use Rattle.desk_hall.proofs.hall.Hall.call.Goals as goal

pub leave-requires-clause-grown : goal.leave-requires-clause-grown
leave-requires-clause-grown g c =
    let d = c.value_mut.result.now in
    let left = c.call-result.new.self.log in
    let found : d.log ≡ c.enter-turn.result.found = ap (λ (v : DeskValue). v.log) c.value_mut.ensures.value ∙ sym c.enter-turn.ensures.found in
    let grown = grows_ended (service_of c.number-caller.result d) c.args.moment c.args.call c.call-result.result left c.call-result.ensures.answers.ends in
    subst (λ n. GrowsBy (λ (e : Entry). e.caller) n c.enter-turn.result.found left) c.number-caller.ensures
    (subst (λ (es : List Entry). GrowsBy (λ (e : Entry). e.caller) c.number-caller.result es left) found grown)

turn_of : (g : Over) (c : goal.After-leave g) → IsTurn c.args.pass c.value_mut.result.now c.args.moment c.args.call c.call-result.result c.call-result.new.self c.leave.result
turn_of g c =
    let p = c.args.pass in
    let d = c.value_mut.result.now in
    let found : d.log ≡ c.enter-turn.result.found = ap (λ (v : DeskValue). v.log) c.value_mut.ensures.value ∙ sym c.enter-turn.ensures.found in
    let numbered : c.number-caller.result ≡ p.number = c.number-caller.ensures ∙ c.enter-turn.ensures.number in
    let lock = ap (λ (l : LockValue DeskName). l.id) c.self.view_is ∙ sym c.requires.lock in
    record {
      named = ap name_of c.value_mut.ensures.value ∙ c.enter-turn.ensures.name ∙ ap (λ (l : LockId DeskName). l.name) lock;
      prefix = subst (λ (es : List Entry). IsPrefix p.seen es) (sym found) c.enter-turn.ensures.seen;
      own = ap (entries_by p.number) found ∙ c.enter-turn.ensures.own;
      stays = c.call-result.ensures.stays;
      answers = subst (λ n. Answers n d c.args.moment c.args.call c.call-result.result c.call-result.new.self) numbered c.call-result.ensures.answers;
      sure = c.call-result.ensures.sure;
      by_own_rows = c.call-result.ensures.own_rows;
      aside = c.call-result.ensures.others_aside;
      lock = c.leave.ensures.lock ∙ c.enter-turn.ensures.lock;
      number = c.leave.ensures.number ∙ c.enter-turn.ensures.number;
      seen = c.leave.ensures.seen;
    }

pub returns-clause-legal : goal.returns-clause-legal
returns-clause-legal g c = turn_legal _ _ _ _ _ _ _ (turn_of g c)

pub returns-clause-serves : goal.returns-clause-serves
returns-clause-serves g c = turn_serves _ _ _ _ _ _ _ (turn_of g c)

pub returns-clause-own_rows : goal.returns-clause-own_rows
returns-clause-own_rows g c = turn_own_rows _ _ _ _ _ _ _ (turn_of g c)

pub returns-clause-others_aside : goal.returns-clause-others_aside
returns-clause-others_aside g c = turn_aside _ _ _ _ _ _ _ (turn_of g c)
