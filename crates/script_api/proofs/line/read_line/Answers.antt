use Rattle.std.proofs.Common.{◌∙◌, sym, lit<}
use Rattle.script_api.proofs.LineLemmas.{spelled-line}
use Rattle.script_api.proofs.line.read_line.Goals as goal

pub returns : goal.returns
returns c =
    spelled-line c.args.line.now c.in-Ok.text.now c.read_text.result
    c.in-Ok.ensures.cases.0 c.in-Ok.ensures.cases.1
    (sym (c.starts_with.ensures.byte (lit< tt) (lit< tt) (λ w o h. h)) ∙ c.if-starts_with.false)
    (rw c.without_end_spaces.ensures at c.read_text.ensures)
