-- Draws one after another.
use Rattle.std.proofs.Common.{◌≡◌, ◌≢◌, ℕ, zero, suc, ◌+◌, ◌/◌, ◌%◌, false, nat_eq, inl, inr, refl, sym, ap, ◌∙◌, add-zero, add-suc, codes, List}
use Rattle.std.specs.Prelude.{if◌then◌else◌}
use Rattle.std.proofs.lemmas.Bool.{cases_Bool, eqb-true}
use Rattle.desk_types.specs.declared.call.Call.TheVariants.{AddLine}
use Rattle.drill_calls.specs.Draws.{behind_draw, behind_draws, nth_draw}
use Rattle.drill_calls.specs.DrillTexts.{drill_pattern, drill_key, drill_headline, drill_link}
use Rattle.drill_calls.specs.DrillCalls.{pattern_draws, line_pattern, drill_line}

pub behind-more : (x a b : ℕ) → behind_draws (behind_draws x a) b ≡ behind_draws x (a + b)
unfolding behind_draws
behind-more x a zero = ap (behind_draws x) (sym (add-zero a))
behind-more x a (suc b) = ap behind_draw (behind-more x a b) ∙ ap (behind_draws x) (sym (add-suc a b))

-- further draws from y on, where y is behind some draws
pub draws-then : (x y z a b : ℕ) → y ≡ behind_draws x a → z ≡ behind_draws y b → z ≡ behind_draws x (a + b)
draws-then x y z a b e f = f ∙ ap (λ (w : ℕ). behind_draws w b) e ∙ behind-more x a b

pub draw-later : (x a k n : ℕ) → nth_draw (behind_draws x a) k n ≡ nth_draw x (a + k) n
unfolding nth_draw
draw-later x a k n = ap (λ (y : ℕ). y / 65536 % n) (behind-more x a k)

-- a nth_draw from y on, where y is behind some draws
pub draw-then : (x y a n number : ℕ) → y ≡ behind_draws x a → number ≡ nth_draw y 1 n → number ≡ nth_draw x (a + 1) n
draw-then x y a n number e f = f ∙ ap (λ (w : ℕ). nth_draw w 1 n) e ∙ draw-later x a 1 n

-- a further line than the first
not-one : (line : ℕ) → line ≢ 1 → nat_eq line 1 ≡ false
not-one line other = elim (cases_Bool (nat_eq line 1)) [
  | inl is ↦ absurd (other (eqb-true line 1 is))
  | inr not ↦ not
]

pub further-draws : (line : ℕ) → line ≢ 1 → pattern_draws line ≡ 3
further-draws line other = ap (λ b. if b then 0 else 3) (not-one line other)

pub further-pattern : (line x kind first second : ℕ) → line ≢ 1 → kind ≡ nth_draw x 1 3 → first ≡ nth_draw x 2 8 → second ≡ nth_draw x 3 8 → drill_pattern kind first second ≡ line_pattern line x
further-pattern line x kind first second other e f g =
    ap (λ k. drill_pattern k first second) e ∙ ap (λ a. drill_pattern (nth_draw x 1 3) a second) f ∙ ap (λ b. drill_pattern (nth_draw x 1 3) (nth_draw x 2 8) b) g
    ∙ sym (ap (λ b. if b then codes "shoes" else drill_pattern (nth_draw x 1 3) (nth_draw x 2 8) (nth_draw x 3 8)) (not-one line other))

-- the first line takes no nth_draw for its pattern
pub no-draws : (line x : ℕ) → line ≡ 1 → x ≡ behind_draws x (pattern_draws line)
unfolding behind_draws
no-draws line x is = sym (ap (λ (l : ℕ). behind_draws x (pattern_draws l)) is)

pub line-is : (account line x y bid : ℕ) (pattern : List ℕ) → y ≡ behind_draws x 1 → bid ≡ nth_draw x 1 96 → pattern ≡ line_pattern line y
    → AddLine account (drill_key account) 1 (5 + bid) pattern (drill_headline account line) (drill_link account line) ≡ drill_line account line x
unfolding drill_line
line-is account line x y bid pattern e f g =
    ap (λ (b : ℕ). AddLine account (drill_key account) 1 (5 + b) pattern (drill_headline account line) (drill_link account line)) f
    ∙ ap (λ (p : List ℕ). AddLine account (drill_key account) 1 (5 + nth_draw x 1 96) p (drill_headline account line) (drill_link account line))
    (g ∙ ap (line_pattern line) e)

pub draws-zero : (x : ℕ) → x ≡ behind_draws x 0
unfolding behind_draws
draws-zero x = refl
