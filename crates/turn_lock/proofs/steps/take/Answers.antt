use Rattle.std.proofs.Common.{ℕ, List, ◌∷◌, Some, ap, sym, ◌∙◌}
use Rattle.std.specs.Prelude.{Option}
use Rattle.atomic_table.specs.Table.{rest}
use Rattle.turn_lock.proofs.steps.take.Goals as goal

pub exchange-requires : goal.exchange-requires
exchange-requires g c =
    let held = c.requires.held in
    (c.requires.words, (Some held.0, held.1 ∙ ap (λ (slots : List (ℕ × Option g.row.V.Denot)). (0, Some held.0) ∷ rest slots) (sym held.1)))
