use Rattle.std.proofs.Common.{◌∙◌, ◌==◌, rules, tests}
use Rattle.std.proofs.lemmas.Iterator.{YieldsList-from_slice}
use Rattle.std.proofs.lemmas.Iterator.Search.{position_from_yields_List}
use Rattle.desk_keeper.proofs.Anywhere.{first_or_len}
use Rattle.desk_keeper.proofs.Numbered.{first_of_number}
use Rattle.desk_keeper.proofs.slots.place_of_number.Goals as goal

pub returns-then-rows-place : goal.returns-then-rows-place
returns-then-rows-place c = first_of_number c.args.rows.now c.args.number _ _ (c.requires.in_order c.if-in_order.true) c.if-place-rows.true c.if-rows-place.true

pub returns : goal.returns
returns c =
    c.unwrap_or.ensures ∙ first_or_len (λ p. p.number == c.args.number) c.args.rows.now c.position.result
    (position_from_yields_List (λ p. p.number == c.args.number) _ _ c.position.result c.position.ensures.ran (YieldsList-from_slice c.args.rows.now cc) (λ x b q k. search (rules, tests)))
