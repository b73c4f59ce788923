use Rattle.std.proofs.Common.{◌≡◌, false, sym, subst, ◌∙◌, arith}
use Rattle.std.specs.List.{All}
use Rattle.desk_types.specs.declared.entry.Entry.{Entry}
use Rattle.desk_types.specs.Journal.{IsBefore, is_full}
use Rattle.desk_core.specs.JournalValue.{JournalValue}
use Rattle.desk_core.proofs.Journals.{entry_more, journal_more, numbered_as, room_for}
use Rattle.desk_core.proofs.journal.Journal.put.Goals as goal

pub last_number-number-requires : goal.last_number-number-requires
last_number-number-requires c = numbered_as c.args.caller _ _ c.as_slice.ensures.value (c.self.invariant.legal.numbered c.args.caller)

pub overflow_add-self : goal.overflow_add-self
overflow_add-self c =
    let s = c.self.inside.settings in
    let es = c.self.inside.entries.items in
    let room : is_full s es c.args.call ≡ false = subst (λ (v : JournalValue). is_full v.settings v.entries c.args.call ≡ false) (sym c.self.view_is) c.requires.fits in
    let fits = room_for s es c.args.call room in
    omega (arith, fits, c.self.invariant.counted, c.weight.ensures, c.journal_bytes.ensures.journal_bytes, c.if-prove.false)

pub invariant_of-self : goal.invariant_of-self
invariant_of-self c =
    let s = c.self.inside.settings in
    let es = c.self.inside.entries.items in
    let room : is_full s es c.args.call ≡ false = subst (λ (v : JournalValue). is_full v.settings v.entries c.args.call ≡ false) (sym c.self.view_is) c.requires.fits in
    let before : All (λ (e : Entry). IsBefore e.outcome c.args.outcome) es =
    subst (λ (v : JournalValue). All (λ (e : Entry). IsBefore e.outcome c.args.outcome) v.entries) (sym c.self.view_is) c.requires.in_order in
    journal_more s es _ _ _ c.args.caller c.args.moment c.args.call c.args.outcome c.self.invariant room c.weight.ensures c.requires.rise before
    (c.in-Ok.ensures.items
    ∙ entry_more es c.as_slice.result.now c.args.caller c.last_number-number.result c.args.moment c.args.call c.args.outcome c.as_slice.ensures.value c.last_number-number.ensures)
