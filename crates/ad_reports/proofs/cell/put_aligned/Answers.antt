use Rattle.std.proofs.Common.{ℕ, ◌-◌, length, ap, ◌∙◌, arith}
use Rattle.desk_io.proofs.Putting.{puts_again, puts_as, puts_broken}
use Rattle.ad_reports.specs.TableLine.{places}
use Rattle.ad_reports.proofs.TableParts.{aligned_parts}
use Rattle.ad_reports.proofs.cell.put_aligned.Goals as goal

pub returns-in_err-put-clause-puts : goal.returns-in_err-put-clause-puts
returns-in_err-put-clause-puts g c =
    puts_as (puts_broken c.args.text.now c.in_err-put.ensures.puts c.from_residual.ensures.0)
    (aligned_parts c.saturating_sub-spaces.result (places c.args.width) c.args.text.now
    (c.saturating_sub-spaces.ensures ∙ ap (λ (n : ℕ). n - length c.args.text.now) c.places.ensures.places) (omega (arith, c.places.ensures.places, c.places.ensures.within)))

pub returns-clause-puts : goal.returns-clause-puts
returns-clause-puts g c =
    puts_as (puts_again c.in_ok-put.ensures.puts c.put_str.ensures.puts)
    (aligned_parts c.saturating_sub-spaces.result (places c.args.width) c.args.text.now
    (c.saturating_sub-spaces.ensures ∙ ap (λ (n : ℕ). n - length c.args.text.now) c.places.ensures.places) (omega (arith, c.places.ensures.places, c.places.ensures.within)))
