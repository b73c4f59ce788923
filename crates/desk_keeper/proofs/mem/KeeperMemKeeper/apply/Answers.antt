use Rattle.std.proofs.Common.{◌≡◌, Some, option_map, sym, ap, subst, ◌∙◌, arith}
use Rattle.desk_types.specs.Sound.{StandInOrder}
use Rattle.desk_types.specs.Tables.{put_all}
use Rattle.desk_keeper.specs.KeeperView.{KeeperView}
use Rattle.desk_keeper.proofs.Putting.{puts_one_fate, stand_after, stand-put_fate}
use Rattle.desk_keeper.proofs.mem.KeeperMemKeeper.apply.Goals as goal

pub invariant_of-self : goal.invariant_of-self
invariant_of-self c = λ yes. subst StandInOrder (sym c.put_fate.ensures) (stand-put_fate c.self.inside.tables c.in-Some.number c.in-Some.fate (c.self.invariant yes))

pub returns-in-Some : goal.returns-in-Some
returns-in-Some c =
    let same = c.begin.ensures.same in
    let view = c.self.view_is in
    let were : c.args.self.now.held ≡ Some c.self.inside.tables = sym c.begin.ensures.held ∙ sym (ap (λ (v : KeeperView). v.held) view) in
    let are = c.put_fate.ensures ∙ sym (puts_one_fate c.self.inside.tables c.in-Some.number c.in-Some.fate) ∙ ap (put_all c.self.inside.tables) (sym c.in-Some.ensures.one) in
    record {
      applies = record {
        same = record {
          faults = omega (arith, same.faults, ap (λ (v : KeeperView). v.faults) view);
          fates_free = ap (λ (v : KeeperView). v.fates_free) view ∙ same.fates_free;
          sure = ap (λ (v : KeeperView). v.sure) view ∙ same.sure;
        };
        held = ap Some are ∙ sym (ap (option_map (λ T. put_all T c.args.changes.now)) were);
        cause = tt;
        one_fate = λ free number fate is bad. absurd cc;
      };
    }

pub invariant_of-self-2 : goal.invariant_of-self-2
invariant_of-self-2 c = λ yes. stand_after c.self.inside.tables c.put_all.new.tables c.args.changes.now c.put_all.result c.put_all.ensures.put c.put_all.ensures.same (c.self.invariant yes)
