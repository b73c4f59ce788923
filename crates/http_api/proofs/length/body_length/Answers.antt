use Rattle.std.proofs.Common.{sym, ◌∙◌, arith}
use Rattle.http_api.proofs.FieldsLengths.{is_coded, more_lengths, no_length, one_length, too_many}
use Rattle.http_api.proofs.length.body_length.Goals as goal
use Rattle.http_api.proofs.length.body_length.Goals.{then-field_count-gt-FIELDS_MAX-via-then-field_count-gt-FIELDS_MAX, then-field_count-gt-FIELDS_MAX-via-else-field_count-gt-FIELDS_MAX+then-has}

pub returns-then-field_count-gt-FIELDS_MAX : goal.returns-then-field_count-gt-FIELDS_MAX
returns-then-field_count-gt-FIELDS_MAX c =
    elim c.then-field_count-gt-FIELDS_MAX.branch [
      | then-field_count-gt-FIELDS_MAX-via-then-field_count-gt-FIELDS_MAX w ↦ too_many c.args.head.now (omega (arith, c.field_count.ensures))
      | then-field_count-gt-FIELDS_MAX-via-else-field_count-gt-FIELDS_MAX+then-has w ↦ is_coded c.args.head.now (sym w.if-has.true ∙ w.has.ensures)
    ]

pub returns-in-Absent : goal.returns-in-Absent
returns-in-Absent c = no_length c.args.head.now (omega (arith, c.field_count.ensures)) c.if-has.ensures c.in-Absent.ensures

pub returns-in-Once : goal.returns-in-Once
returns-in-Once c =
    one_length c.args.head.now (omega (arith, c.field_count.ensures)) c.if-has.ensures c.in-Once.digits.now c.length_in.result c.in-Once.ensures c.length_in.ensures.some c.length_in.ensures.none

pub returns-in-Repeated : goal.returns-in-Repeated
returns-in-Repeated c = more_lengths c.args.head.now (omega (arith, c.field_count.ensures)) c.if-has.ensures c.in-Repeated.field-0.now c.in-Repeated.ensures
