use Rattle.std.proofs.Common.{refl, subst, sym, ap, ◌∙◌, arith, rules}
use Rattle.query_words.specs.Words.{words_of}
use Rattle.match_types.specs.Marks.{begins_with, minus, kind_of, inside, is_closed}
use Rattle.match_types.specs.Pattern.{IsPattern}
use Rattle.match_types.proofs.Causes.{refusal-too_long, refusal-minus, refusal-unclosed, refusal-read, length-inside, IsPattern-trimmed}
use Rattle.match_types.proofs.pattern.Pattern.read.Goals as goal

pub returns-then-text-gt-PATTERN_BYTES-clause-refused :
    goal.returns-then-text-gt-PATTERN_BYTES-clause-refused
returns-then-text-gt-PATTERN_BYTES-clause-refused c = λ _. refusal-too_long c.args.text.now c.if-text-gt-PATTERN_BYTES.true

pub returns-then-begins_with_minus-clause-refused :
    goal.returns-then-begins_with_minus-clause-refused
returns-then-begins_with_minus-clause-refused c = λ _.
    refusal-minus c.args.text.now c.if-text-gt-PATTERN_BYTES.false (ap (begins_with minus) (sym c.trim_spaces-trimmed.ensures) ∙ sym c.if-begins_with_minus.ensures)

pub returns-in_default-clause-refused : goal.returns-in_default-clause-refused
returns-in_default-clause-refused c = λ _.
    refusal-unclosed c.args.text.now c.if-text-gt-PATTERN_BYTES.false (ap (begins_with minus) (sym c.trim_spaces-trimmed.ensures) ∙ sym c.if-begins_with_minus.ensures)
    (ap is_closed (sym c.trim_spaces-trimmed.ensures) ∙ c.in_default.ensures.unclosed.0 refl)

pub words_between-requires : goal.words_between-requires
words_between-requires c =
    let fits = length-inside c.args.text.now _ _ c.trim_spaces-trimmed.ensures c.in-Some.ensures.inside in
    let short = c.if-text-gt-PATTERN_BYTES.false in
    omega arith

pub returns-in_err-words-clause-refused : goal.returns-in_err-words-clause-refused
returns-in_err-words-clause-refused c =
    let read = refusal-read c.args.text.now _ _ c.if-text-gt-PATTERN_BYTES.false c.trim_spaces-trimmed.ensures c.if-begins_with_minus.ensures c.in-Some.ensures.unclosed.1 c.in-Some.ensures.inside in
    let h = c.in_err-words.ensures.refused in
    let h2 = c.from_residual.ensures.1 in rw read (search rules)

pub invariant_of-result : goal.invariant_of-result
invariant_of-result c =
    let read = refusal-read c.args.text.now _ _ c.if-text-gt-PATTERN_BYTES.false c.trim_spaces-trimmed.ensures c.if-begins_with_minus.ensures c.in-Some.ensures.unclosed.1 c.in-Some.ensures.inside in
    let stored = c.in-Ok.ensures in
    record {
      pattern = subst IsPattern (sym (stored ∙ c.trim_spaces-trimmed.ensures)) (IsPattern-trimmed c.args.text.now (read ∙ c.in_ok-words.ensures.accepted));
      kind_is = c.in-Some.ensures.kind ∙ ap kind_of (sym stored);
      words_are = c.in_ok-words.ensures.value ∙ ap words_of (c.in-Some.ensures.inside ∙ ap inside (sym stored));
    }

pub returns-in-Ok-clause-accepted : goal.returns-in-Ok-clause-accepted
returns-in-Ok-clause-accepted c =
    refusal-read c.args.text.now _ _ c.if-text-gt-PATTERN_BYTES.false c.trim_spaces-trimmed.ensures c.if-begins_with_minus.ensures c.in-Some.ensures.unclosed.1 c.in-Some.ensures.inside
    ∙ c.in_ok-words.ensures.accepted
