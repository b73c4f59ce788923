use Rattle.std.proofs.Common.{◌≡◌, ◌-◌, length, subst, arith}
use Rattle.std.specs.Prelude.{nat_le, nat_lt}
use Rattle.desk_types.specs.Journal.{is_full}
use Rattle.desk_core.specs.JournalValue.{JournalValue}
use Rattle.desk_core.proofs.Journals.{full_by_bytes, full_by_entries}
use Rattle.desk_core.proofs.journal.Journal.is_full.Goals as goal

pub returns-then-len-journal-clause-full : goal.returns-then-len-journal-clause-full
returns-then-len-journal-clause-full c =
    let s = c.self.inside.settings in
    let es = c.self.inside.entries.items in
    let count : c.len.result ≡ length es = omega arith in
    subst (λ (v : JournalValue). nat_le c.journal.result c.len.result ≡ is_full v.settings v.entries c.args.call.now) c.self.view_is
    (full_by_entries s es c.args.call.now c.journal.result c.len.result c.journal.ensures.journal count c.if-len-journal.true)

pub returns-else-len-journal-clause-full : goal.returns-else-len-journal-clause-full
returns-else-len-journal-clause-full c =
    let s = c.self.inside.settings in
    let es = c.self.inside.entries.items in
    let count : c.len.result ≡ length es = omega arith in
    subst (λ (v : JournalValue). nat_lt (c.journal_bytes.result - c.self.inside.bytes) c.weight.result ≡ is_full v.settings v.entries c.args.call.now) c.self.view_is
    (full_by_bytes s es c.args.call.now c.journal.result c.len.result c.journal_bytes.result c.self.inside.bytes c.weight.result c.journal.ensures.journal count c.if-len-journal.false c.journal_bytes.ensures.journal_bytes
    c.self.invariant.counted c.self.invariant.legal.bytes_fit c.weight.ensures)
