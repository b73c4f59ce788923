use Rattle.std.proofs.Common.{◌≡◌, ◌∙◌, sym, length}
use Rattle.csv.specs.Records.{fields_of}
use Rattle.csv_import.proofs.FieldLemmas.{five_fields, five_texts}
use Rattle.csv_import.proofs.row.texts_of.Goals as goal

pub returns-clause-fields : goal.returns-clause-fields
returns-clause-fields c =
    let five : length (fields_of c.args.entry.now) ≡ 5 = sym c.len.ensures ∙ c.if-len-ne5.false in
    five_fields (fields_of c.args.entry.now) _ _ _ _ _ five c.in_ok-text_at.ensures.text.0 c.in_ok-text_at-2.ensures.text.0 c.in_ok-text_at-3.ensures.text.0
    c.in_ok-text_at-4.ensures.text.0 c.in_ok-text_at-5.ensures.text.0

pub returns-clause-utf8 : goal.returns-clause-utf8
returns-clause-utf8 c =
    five_texts (fields_of c.args.entry.now) _ _ _ _ _ (returns-clause-fields c) c.in_ok-text_at.ensures.text.1 c.in_ok-text_at-2.ensures.text.1
    c.in_ok-text_at-3.ensures.text.1 c.in_ok-text_at-4.ensures.text.1 c.in_ok-text_at-5.ensures.text.1
