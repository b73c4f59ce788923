use Rattle.std.proofs.Common.{arith, refl, subst, Bool, Ok}
use Rattle.std.proofs.lemmas.Result.{err_from_is_err_and}
use Rattle.auction_page.specs.Ending.{Goes}
use Rattle.auction_page.proofs.Turns.{reading-none}
use Rattle.auction_page.proofs.auction.read_lines.Goals as goal

pub loop-init : goal.loop-init
loop-init g c = record {
  reading = reading-none (g.S.Source.source c.args.input.now).left c.args.lines.now c.args.reading.now c.requires.lines c.requires.nothing;
  within = rw c.requires.lines (omega arith);
  faults = omega arith;
  sink_side = refl;
}

pub returns-in_err-take_line-clause-ended : goal.returns-in_err-take_line-clause-ended
returns-in_err-take_line-clause-ended g c =
    let p = err_from_is_err_and c.from_residual.result c.from_residual.ensures.1 in
    rw (p.1, p.2) (c.in_err-take_line.ensures.goes (g.S.Source.source c.args.input.now).left c.loop.invariant.reading)

pub returns-then-not-branch-clause-all : goal.returns-then-not-branch-clause-all
returns-then-not-branch-clause-all g c =
    subst (λ (more : Bool). Goes (g.S.Source.source c.args.input.now).left c.take_line.new.lines (g.S.Source.source c.take_line.new.input).left c.take_line.new.reading (Ok more))
    c.if-not-branch.true (c.in_ok-take_line.ensures.goes (g.S.Source.source c.args.input.now).left c.loop.invariant.reading)
