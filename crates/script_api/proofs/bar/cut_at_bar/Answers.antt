use Rattle.script_api.proofs.BarLemmas.{cut-none, cut-split}
use Rattle.script_api.proofs.bar.cut_at_bar.Goals as goal

pub returns-in-Some : goal.returns-in-Some
returns-in-Some c = cut-split c.args.text.now c.in-Some.cut.0.now c.in-Some.cut.1.now c.in-Some.ensures.cases

pub returns-in-None : goal.returns-in-None
returns-in-None c = cut-none c.args.text.now c.in-None.ensures.cases
