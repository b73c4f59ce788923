use Rattle.std.proofs.Common.{◌∙◌, Some, ap, sym, arith}
use Rattle.desk_types.specs.declared.refusal.Refusal.TheVariants.{QueryTooLong, QueryTooMany}
use Rattle.desk_core.proofs.Searching.{search_too_long, search_too_many}
use Rattle.desk_core.proofs.search.words_of.Goals as goal

pub returns-in-Err-TooLong-clause-stopped : goal.returns-in-Err-TooLong-clause-stopped
returns-in-Err-TooLong-clause-stopped c = λ S places.
    let cause = rw (c.in-Err-TooLong.field-0-is, c.as_str.ensures) at c.in-Err-TooLong.ensures.refused in
    search_too_long S c.args.text.now places (omega (arith, cause.0, cause.1)) ∙ ap (λ n. Some (QueryTooLong n)) (sym cause.0)

pub returns-in-Err-TooMany-clause-stopped : goal.returns-in-Err-TooMany-clause-stopped
returns-in-Err-TooMany-clause-stopped c = λ S places.
    let cause = rw (c.in-Err-TooMany.field-0-is, c.as_str.ensures) at c.in-Err-TooMany.ensures.refused in
    search_too_many S c.args.text.now places cause.0 (omega (arith, cause.1, cause.2)) ∙ ap (λ n. Some (QueryTooMany n)) (sym cause.1)
