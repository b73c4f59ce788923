use Rattle.std.proofs.Common.{◌∙◌, None, Some, drop, sym, ap, length-drop, arith}
use Rattle.std.proofs.lemmas.List.{take_rest}
use Rattle.http_api.specs.HeadEnd.{length_through_end}
use Rattle.http_api.proofs.HeadEnds.{head_length-parts, through-within}
use Rattle.http_api.proofs.head_end.head_length.Goals as goal

pub returns-in_err-end : goal.returns-in_err-end
returns-in_err-end c =
    let bytes = c.args.bytes.now in
    let blank = c.blank_length-blank in
    let none = head_length-parts bytes blank.result None blank.ensures.within blank.ensures.behind (c.in_err-end.ensures ∙ ap length_through_end (take_rest bytes blank.result)) in
    cc

pub overflow_add-result : goal.overflow_add-result
overflow_add-result c =
    let bytes = c.args.bytes.now in
    let blank = c.blank_length-blank in
    let within = through-within (drop blank.result bytes) c.in_ok-end.end (sym (c.in_ok-end.ensures ∙ ap length_through_end (take_rest bytes blank.result))) in
    omega (arith, length-drop blank.result bytes)

pub returns : goal.returns
returns c =
    let bytes = c.args.bytes.now in
    let blank = c.blank_length-blank in
    head_length-parts bytes blank.result (Some c.in_ok-end.end) blank.ensures.within blank.ensures.behind (c.in_ok-end.ensures ∙ ap length_through_end (take_rest bytes blank.result))
