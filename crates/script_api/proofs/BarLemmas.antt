-- The first space, bar, space of a text.
use Rattle.std.proofs.Common.{◌≡◌, ℕ, zero, suc, ◌<◌, ◌≤◌, List, [], ◌∷◌, ◌++◌, length, take, drop, refl, sym, ◌∙◌, ap, arith, false, inl, inr}
use Rattle.std.specs.Prelude.{codes, Some, None}
use Rattle.std.specs.Str.Pattern.{LacksTextAt, FindsText, SplitsAroundMatch}
use Rattle.std.specs.Bool.{Decides}
use Rattle.std.proofs.lemmas.Bool.{cases_Bool}
use Rattle.std.proofs.lemmas.List.{take-append-drop}
use Rattle.std.proofs.lemmas.Slice.Eq.{bytes_eq-Decides}
use Rattle.script_api.specs.Bar.{begins_with_bar, cut_at_bar}

not_first : (s : List ℕ) → LacksTextAt (codes " | ") s 0 → begins_with_bar s ≡ false
not_first s lacks = elim (cases_Bool (begins_with_bar s)) [
  | inl is ↦
      let tells : Decides (begins_with_bar s) (take 3 s ≡ codes " | ") = bytes_eq-Decides (take 3 s) (codes " | ") in
      let front : take 3 s ≡ codes " | " = tells.0 is in
      absurd (lacks (drop 3 s) (sym (take-append-drop 3 s) ∙ ap (λ t. t ++ drop 3 s) front))
  | inr other ↦ other
]

pub cut-none : (s : List ℕ) → ((i : ℕ) → i ≤ length s → LacksTextAt (codes " | ") s i) → cut_at_bar s ≡ None
unfolding cut_at_bar
cut-none [] lacks = refl
cut-none (byte ∷ more) lacks =
    let no : begins_with_bar (byte ∷ more) ≡ false = not_first (byte ∷ more) (lacks 0 (omega arith)) in
    rw (no, cut-none more (λ i h. lacks (suc i) (omega (arith, h)))) refl

pub cut-some : (s : List ℕ) (i : ℕ) (rest : List ℕ) → ((k : ℕ) → k < i → LacksTextAt (codes " | ") s k) → drop i s ≡ codes " | " ++ rest →
    cut_at_bar s ≡ Some (take i s, rest)
unfolding cut_at_bar
cut-some s zero rest lacks at = ap cut_at_bar at
cut-some [] (suc i) rest lacks at = cc
cut-some (byte ∷ more) (suc i) rest lacks at =
    let no : begins_with_bar (byte ∷ more) ≡ false = not_first (byte ∷ more) (lacks 0 (omega arith)) in
    rw (no, cut-some more i rest (λ k h. lacks (suc k) (omega (arith, h))) at) refl

pub cut-split : (s front back : List ℕ) → SplitsAroundMatch (FindsText (codes " | ")) s front back → cut_at_bar s ≡ Some (front, back)
cut-split s front back h = rw (h.3, h.4) (cut-some s h.0 (drop h.1 s) h.2.0 h.2.1.split)
