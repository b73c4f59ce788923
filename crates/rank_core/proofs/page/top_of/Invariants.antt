use Rattle.std.proofs.Common.{take}
use Rattle.rank_core.specs.Top.{IsTopOf}
use Rattle.rank_core.proofs.page.top_of.Given as goal

abbrev pub invariant-loop-ad : goal.invariant-loop-ad
invariant-loop-ad l = IsTopOf (take l.ad-index l.ads) l.top
