use Rattle.std.proofs.Common.{◌≡◌, List, [], ◌∷◌, ◌++◌, Some, ap, sym, ◌∙◌}
use Rattle.std.specs.Prelude.{Option}
use Rattle.turn_lock.proofs.SeatKeeps.{opens}
use Rattle.turn_lock.proofs.lock.lay.Goals as goal

pub new-requires : goal.new-requires
new-requires g c =
    let items : c.push.new.self.items ≡ Some c.args.value ∷ [] = c.in_default.ensures.items ∙ ap (λ (xs : List (Option g.row.V.Denot)). xs ++ Some c.args.value ∷ []) c.new-slots.ensures.items in
    rw items (opens _ _ _ _ _ c.args.value c.requires.empty (ap g.V.Grows.name (sym c.requires.value)) c.requires.callers.0 c.requires.callers.1)
