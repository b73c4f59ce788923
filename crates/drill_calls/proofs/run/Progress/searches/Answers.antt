use Rattle.std.proofs.Common.{◌+◌, ◌*◌, ◌≤◌, ◌∙◌, refl, arith}
use Rattle.std.proofs.lemmas.Result.{err_from_is_err_and}
use Rattle.drill_calls.proofs.Drawing.{draws-zero}
use Rattle.drill_calls.proofs.SearchCalls.{searches-drawn, search-drawn}
use Rattle.drill_calls.proofs.run.Progress.searches.Goals as goal

pub loop-before-init : goal.loop-before-init
loop-before-init g c = record {
  home = refl;
  draws = draws-zero c.args.self.now.draws;
  made = omega (arith, c.requires.made);
  goes = λ course is drawn h. h;
}

pub returns-in_err-search-clause-goes : goal.returns-in_err-search-clause-goes
returns-in_err-search-clause-goes g c = λ course is drawn h.
    let p = err_from_is_err_and c.from_residual.result c.from_residual.ensures.1 in
    let low : c.loop-before.before + 1 ≤ 25 * course.size = omega (arith, is) in
    rw p.1
    (c.in_err-search.ensures.goes course c.loop-before.before refl low
    (search-drawn course.start (31 * course.size) c.loop-before.before c.args.self.now.draws c.loop-before.self.draws drawn c.loop-before.invariant.draws)
    (c.loop-before.invariant.goes course is drawn h))

pub loop-before-preserved : goal.loop-before-preserved
loop-before-preserved g c = record {
  home = c.search.ensures.home ∙ c.loop-before.invariant.home;
  draws = searches-drawn c.args.self.now.draws c.loop-before.self.draws c.search.new.self.draws c.loop-before.before c.loop-before.invariant.draws c.in_ok-search.ensures.draws;
  made = omega (arith, c.loop-before.invariant.made, c.search.ensures.made);
  goes = λ course is drawn h.
      let low : c.loop-before.before + 1 ≤ 25 * course.size = omega (arith, is) in
      c.in_ok-search.ensures.goes course c.loop-before.before refl low
      (search-drawn course.start (31 * course.size) c.loop-before.before c.args.self.now.draws c.loop-before.self.draws drawn c.loop-before.invariant.draws)
      (c.loop-before.invariant.goes course is drawn h);
}
