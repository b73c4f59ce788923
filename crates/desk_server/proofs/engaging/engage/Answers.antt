use Rattle.std.proofs.Common.{◌≡◌, ◌∙◌, ◌++◌, [], ◌∷◌, length, vec_len, ap, subst, sym, rules, arith}
use Rattle.desk_hall.specs.Callers.{CallerValue, HallPass, HasSeenLegal}
use Rattle.serve_threads.specs.declared.worker.Worker.{Worker}
use Rattle.serve_threads.specs.declared.worker.WorkerEnd.TheVariants.{Unused}
use Rattle.desk_server.proofs.Joiners.{all_engaged, more_engaged, none_engaged}
use Rattle.std.proofs.lemmas.Bool.{eqb-true}
use Rattle.desk_server.proofs.engaging.engage.Given as Given
use Rattle.desk_server.proofs.engaging.engage.Goals as goal

pub loop-passes-init : goal.loop-passes-init
loop-passes-init g c =
    let passes = c.args.passes.now.ok.0 in
    let none = ap length c.requires.none in (
      rw c.requires.none (none_engaged c.args.hall.now.id c.args.passes.now.items c.args.doors.now.items c.args.clocks.now.items c.requires.of_hall c.requires.legal
          (omega (arith, passes, c.args.doors.now.ok.0, c.requires.doors)) (omega (arith, passes, c.args.clocks.now.ok.0, c.requires.clocks))),
      omega (arith, c.args.workers.now.ok.0, none, c.requires.room),
      search rules,
      search rules,
    )

pub new-caller-requires-clause-lock : goal.new-caller-requires-clause-lock
new-caller-requires-clause-lock g c =
    subst (λ (p : HallPass). p.lock ≡ c.args.hall.now.id) (sym c.remove.ensures.value)
    (c.loop-passes.invariant.0.of_hall 0 c.remove.result (omega (arith, c.loop-passes.passes.ok.0, c.remove.ensures.len)))

pub new-caller-requires-clause-legal : goal.new-caller-requires-clause-legal
new-caller-requires-clause-legal g c =
    subst HasSeenLegal (sym c.remove.ensures.value)
    (c.loop-passes.invariant.0.legal 0 c.remove.result (omega (arith, c.loop-passes.passes.ok.0, c.remove.ensures.len)))

pub remove-requires-in-loop-passes : goal.remove-requires-in-loop-passes
remove-requires-in-loop-passes g c =
    omega (arith, c.loop-passes.passes.ok.0, c.loop-passes.doors.ok.0, c.remove.ensures.len, c.loop-passes.invariant.0.doors_left)

pub remove-requires-in-loop-passes-2 : goal.remove-requires-in-loop-passes-2
remove-requires-in-loop-passes-2 g c =
    omega (arith, c.loop-passes.passes.ok.0, c.loop-passes.clocks.ok.0, c.remove.ensures.len, c.loop-passes.invariant.0.clocks_left)

pub loop-passes-preserved : goal.loop-passes-preserved
loop-passes-preserved g c =
    let inv = c.loop-passes.invariant in
    let made = c.new.ensures ∙ ap (λ (s : CallerValue). record { service = s; door = c.remove-in-loop-passes.result; clock = c.remove-in-loop-passes-2.result; end = Unused; sessions = 0; messages = 0 }) c.new-caller.ensures in
    let workers = c.push_reserved.ensures.items ∙ ap (λ (w : Worker CallerValue _ _). c.loop-passes.workers.items ++ w ∷ []) made in (
      more_engaged c.args.hall.now.id _ _ _ _ _ _ _ _ _ _ _ _ inv.0 (omega (arith, c.loop-passes.passes.ok.0, c.remove.ensures.len))
          c.remove.ensures.value c.remove-in-loop-passes.ensures.value c.remove-in-loop-passes-2.ensures.value
          c.remove.ensures.items c.remove-in-loop-passes.ensures.items c.remove-in-loop-passes-2.ensures.items workers,
      omega (arith, inv.1, c.push_reserved.ensures.len, c.push_reserved.ensures.capacity, c.remove.ensures.len),
      c.remove.ensures.capacity ∙ inv.2,
      c.remove-in-loop-passes.ensures.capacity ∙ inv.3,
    )

-- no pass is left
none_left : (g : Given.Over) (c : goal.After-loop-passes g) → length c.loop-passes.passes.items ≡ 0
none_left g c = omega (arith, c.loop-passes.passes.ok.0, eqb-true (vec_len c.loop-passes.passes) 0 (sym c.is_empty.ensures ∙ c.loop-passes-test.false))

pub returns-clause-callers : goal.returns-clause-callers
returns-clause-callers g c = (all_engaged c.args.hall.now.id _ _ _ _ _ c.loop-passes.invariant.0 (none_left g c)).callers

pub returns-clause-at_doors : goal.returns-clause-at_doors
returns-clause-at_doors g c = (all_engaged c.args.hall.now.id _ _ _ _ _ c.loop-passes.invariant.0 (none_left g c)).at_doors

pub returns-clause-by_clocks : goal.returns-clause-by_clocks
returns-clause-by_clocks g c = (all_engaged c.args.hall.now.id _ _ _ _ _ c.loop-passes.invariant.0 (none_left g c)).by_clocks

pub returns-clause-unused : goal.returns-clause-unused
returns-clause-unused g c = (all_engaged c.args.hall.now.id _ _ _ _ _ c.loop-passes.invariant.0 (none_left g c)).unused

pub returns-clause-no_doors : goal.returns-clause-no_doors
returns-clause-no_doors g c = (all_engaged c.args.hall.now.id _ _ _ _ _ c.loop-passes.invariant.0 (none_left g c)).no_doors
