use Rattle.rank_core.proofs.Offers.{IsTopOf-none}
use Rattle.rank_core.proofs.top.Top.new.Goals as goal

pub returns : goal.returns
returns c = IsTopOf-none c.new.result.items c.new.ensures
