use Rattle.std.proofs.Common.{map, set, sym, ap, ◌∙◌}
use Rattle.std.proofs.lemmas.List.{map-set}
use Rattle.accounts.specs.BookValue.{line_fingerprint}
use Rattle.accounts.proofs.line_table.LineTable.put.Goals as goal

pub invariant_of-self : goal.invariant_of-self
invariant_of-self c =
    let rows = c.self.inside.rows.items in
    ap (λ xs. set xs c.in-Taken.place c.fingerprint.result) c.self.invariant ∙ ap (set (map line_fingerprint rows) c.in-Taken.place) c.fingerprint.ensures.value
    ∙ sym (map-set line_fingerprint rows c.in-Taken.place c.args.row)
