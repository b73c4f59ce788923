use Rattle.auction_page.proofs.PartLemmas.{parts_none, parts_first, behind_dot}
use Rattle.auction_page.proofs.parts.cut_at_dot.Goals as goal

pub range_from-requires : goal.range_from-requires
range_from-requires c = λ _. behind_dot c.args.text.now c.in_ok-end.end c.utf8.text (rw c.as_bytes.ensures.value at c.in_ok-end.ensures)

pub returns-in_err-end : goal.returns-in_err-end
returns-in_err-end c = rw c.from_residual.ensures (parts_none c.args.text.now (rw c.as_bytes.ensures.value at c.in_err-end.ensures))

pub returns : goal.returns
returns c =
    parts_first c.args.text.now c.range.result.now c.range_from.result.now c.in_ok-end.end
    (rw c.as_bytes.ensures.value at c.in_ok-end.ensures) c.range.ensures.value c.range_from.ensures.value
