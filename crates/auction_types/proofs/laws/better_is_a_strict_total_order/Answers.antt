use Rattle.auction_types.proofs.OrderLemmas.{better-irreflexive, better-trans, better-total, better-total_in_range}
use Rattle.auction_types.proofs.laws.better_is_a_strict_total_order.Goals as goal

pub returns-clause-irreflexive : goal.returns-clause-irreflexive
returns-clause-irreflexive c = better-irreflexive

pub returns-clause-transitive : goal.returns-clause-transitive
returns-clause-transitive c = better-trans

pub returns-clause-total : goal.returns-clause-total
returns-clause-total c = better-total

pub returns-clause-total_in_range : goal.returns-clause-total_in_range
returns-clause-total_in_range c = better-total_in_range
