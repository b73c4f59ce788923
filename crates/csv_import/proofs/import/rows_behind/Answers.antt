use Rattle.std.proofs.Common.{◌≡◌, ◌+◌, false, List, ◌∷◌, drop, map, rules, sym, subst, arith}
use Rattle.std.specs.Result.{is_err}
use Rattle.std.proofs.lemmas.Result.{err_from_is_err_and}
use Rattle.csv.specs.Records.{fields_of}
use Rattle.csv.proofs.ReadFacts.{on-ok}
use Rattle.desk_types.specs.declared.call.ImportRow.{ImportRow}
use Rattle.csv_import.proofs.ImportLemmas.{IsReadTo, left_from, read_all, read_one, read_stopped, within_limit}
use Rattle.csv_import.proofs.import.rows_behind.Goals as goal

pub returns-in_err-row-clause-fault : goal.returns-in_err-row-clause-fault
returns-in_err-row-clause-fault c =
    let at = c.loop-entry in
    let entries = c.args.records.now in
    let entry = c.entry-item.result in
    let left = drop (at.entry-index + 1) entries in
    let next : drop at.entry-index entries ≡ entry ∷ left = left_from entries at.entry-index entry c.loop-entry-test.true c.entry-item.is in
    let p = err_from_is_err_and c.from_residual.result c.from_residual.ensures.1 in
    rw (p.1, p.2) (λ real.
    read_stopped entries at.rows at.place entry left c.in_err-row.field-0.0 (subst (IsReadTo entries at.rows at.place) next at.invariant)
    (c.in_err-row.ensures.fault real (map fields_of left)))

pub loop-entry-preserved : goal.loop-entry-preserved
loop-entry-preserved c =
    let at = c.loop-entry in
    let entries = c.args.records.now in
    let entry = c.entry-item.result in
    let left = drop (at.entry-index + 1) entries in
    let next : drop at.entry-index entries ≡ entry ∷ left = left_from entries at.entry-index entry c.loop-entry-test.true c.entry-item.is in
    let good : is_err c.push.result ≡ false = search rules in
    subst (λ (rows : List ImportRow). IsReadTo entries rows (at.place + 1) left) (sym (on-ok c.push.result good c.push.ensures.ok))
    (read_one entries at.rows at.place entry left c.in_ok-row.row (subst (IsReadTo entries at.rows at.place) next at.invariant)
    (within_limit at.place c.in_ok-row.ensures.row.0) c.in_ok-row.ensures.row.1)

pub returns-clause-rows : goal.returns-clause-rows
returns-clause-rows c =
    let at = c.loop-entry in
    let entries = c.args.records.now in
    read_all entries at.rows at.place at.entry-index (omega arith) at.invariant
