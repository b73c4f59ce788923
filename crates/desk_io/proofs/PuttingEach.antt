-- The texts of things are put one after another.
use Rattle.std.proofs.Common.{◌≡◌, ℕ, ◌+◌, ◌<◌, List, ◌++◌, length, take, drop, get_or, Result, Ok, Err, IsErr, sym, ap, subst, ◌∙◌}
use Rattle.std.specs.Prelude.{flat_map}
use Rattle.desk_io.specs.SinkView.{SinkView}
use Rattle.desk_io.specs.Putting.{Puts}
use Rattle.desk_io.proofs.FlatMaps.{flat_map-more, flat_map-parts}
use Rattle.desk_io.proofs.Putting.{puts_again, puts_broken}

module _ {A : Type 0} (text : A → List ℕ) (things : List A) (i : ℕ) (thing : A) (inside : i < length things) (is : thing ≡ get_or things i thing) where
  -- one more was put behind the first ones
  pub puts_one_more : {T U E F : Type 0} {value : T} {o p q : SinkView} {w x y : List ℕ} {result : Result U F} →
      Puts {E = E} o p w x (flat_map text (take i things)) (Ok value) → Puts p q x y (text thing) result → Puts o q w y (flat_map text (take (i + 1) things)) result
  puts_one_more {o = o} {q = q} {w} {y = y} {result = result} before one =
      let texts : flat_map text (take i things) ++ text thing ≡ flat_map text (take (i + 1) things) =
      ap (λ last. flat_map text (take i things) ++ text last) is ∙ sym (flat_map-more text things i thing inside) in
      subst (λ (bytes : List ℕ). Puts o q w y bytes result) texts (puts_again before one)

  -- a write failed behind the first ones
  pub puts_stopped : {T U E F : Type 0} {value : T} {error : E} {o p q : SinkView} {w x y : List ℕ} {result : Result U F} →
      Puts {E = E} o p w x (flat_map text (take i things)) (Ok value) → Puts {T = T} p q x y (text thing) (Err error) → IsErr result → Puts o q w y (flat_map text things) result
  puts_stopped {o = o} {q = q} {w} {y = y} {result = result} before one is_err =
      let rest = flat_map text (drop (i + 1) things) in
      let texts : flat_map text (take i things) ++ (text thing ++ rest) ≡ flat_map text things =
      ap (λ one. flat_map text (take i things) ++ (text one ++ rest)) is ∙ sym (flat_map-parts text things i thing inside) in
      subst (λ (bytes : List ℕ). Puts o q w y bytes result) texts (puts_again before (puts_broken rest one is_err))
