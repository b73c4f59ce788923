use Rattle.std.proofs.Common.{◌==◌, find, ap, ◌∙◌}
use Rattle.accounts.specs.BookValue.{ShelfValue}
use Rattle.desk_types.specs.declared.rows.Batch.{Batch}
use Rattle.accounts.proofs.Imports.{batch_found}
use Rattle.accounts.proofs.shelf.Shelf.batch.Goals as goal

pub returns : goal.returns
returns c = λ T account h.
    let same = c.deref.ensures.value ∙ ap (λ (s : ShelfValue). s.batches) c.self.view_is in
    c.batch_like.ensures ∙ ap (find (λ (b : Batch). b.number == c.args.number)) same ∙ batch_found T account c.args.number c.args.self.now h
