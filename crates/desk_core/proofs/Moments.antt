-- A call at its moment, and back from it.
use Rattle.std.proofs.Common.{◌≡◌, ℕ, ◌<◌, ap, sym, subst}
use Rattle.desk_types.specs.declared.call.Call.{Call}
use Rattle.desk_types.specs.Judged.{judged}
use Rattle.desk_types.specs.Sound.{IsSound}
use Rattle.desk_types.specs.State.{State}
use Rattle.desk_types.specs.Step.{answered, at_moment, step}
use Rattle.desk_types.proofs.Soundness.{sound_later}

-- what is answered at the call's moment is the step
pub step_from : (S now : State) (moment : ℕ) (call : Call) → now ≡ at_moment S moment → answered now call (judged now call) ≡ step S moment call
unfolding step
step_from S now moment call is = ap (λ (T : State). answered T call (judged T call)) is

pub moment_back : (S now left : State) (moment before : ℕ) → now ≡ at_moment S moment → before ≡ S.moment → left ≡ record now { moment = before } → left ≡ S
moment_back S now left moment before is was back = subst (λ (T : State). left ≡ record T { moment = S.moment }) is (subst (λ n. left ≡ record now { moment = n }) was back)

pub sound_now : (S now : State) (moment : ℕ) → now ≡ at_moment S moment → IsSound S → IsSound now
sound_now S now moment is h = subst IsSound (sym is) (sound_later S moment h)

pub edition_now : (S now : State) (moment most : ℕ) → now ≡ at_moment S moment → S.edition < most → now.edition < most
edition_now S now moment most is low = subst (λ (T : State). T.edition < most) (sym is) low
