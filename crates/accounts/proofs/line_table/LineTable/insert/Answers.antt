use Rattle.std.proofs.Common.{map, sym, ap, ◌∙◌}
use Rattle.std.specs.List.{insert}
use Rattle.accounts.specs.BookValue.{line_fingerprint}
use Rattle.accounts.proofs.LineTables.{map_insert}
use Rattle.accounts.proofs.line_table.LineTable.insert.Goals as goal

pub invariant_of-self : goal.invariant_of-self
invariant_of-self c =
    let rows = c.self.inside.rows.items in
    c.in-Ok.ensures.items
    ∙ ap (λ xs. insert xs c.args.place c.fingerprint-fingerprint.result) c.self.invariant
    ∙ ap (insert (map line_fingerprint rows) c.args.place) c.fingerprint-fingerprint.ensures.value
    ∙ sym (map_insert line_fingerprint rows c.args.place c.args.row) ∙ ap (map line_fingerprint) (sym c.in-Ok-insert.ensures.items)
