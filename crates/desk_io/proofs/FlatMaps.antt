-- The texts of things one behind another, one more at a time.
use Rattle.std.proofs.Common.{◌≡◌, ℕ, ◌+◌, ◌<◌, List, [], ◌∷◌, ◌++◌, length, take, drop, get_or, sym, ap, ◌∙◌, add-one, append-nil, take-append-drop}
use Rattle.std.specs.Prelude.{flat_map}
use Rattle.std.proofs.Math.Seq.{take-suc, drop-cons}
use Rattle.std.proofs.lemmas.Grind.{flat_map-append}

module _ {A : Type 0} (text : A → List ℕ) (things : List A) (i : ℕ) (d : A) (inside : i < length things) where
  -- the texts of one thing more
  pub flat_map-more : flat_map text (take (i + 1) things) ≡ flat_map text (take i things) ++ text (get_or things i d)
  flat_map-more =
      rw (add-one, take-suc things i d inside, flat_map-append text (take i things) (get_or things i d ∷ []))
      (ap (λ last. flat_map text (take i things) ++ last) (append-nil (text (get_or things i d))))

  -- the texts of the things before one, its own, and those of the things behind it
  pub flat_map-parts : flat_map text things ≡ flat_map text (take i things) ++ (text (get_or things i d) ++ flat_map text (drop (i + 1) things))
  flat_map-parts =
      let rest : drop i things ≡ get_or things i d ∷ drop (i + 1) things = rw add-one (drop-cons things i d inside) in
      ap (flat_map text) (sym (take-append-drop i things)) ∙ flat_map-append text (take i things) (drop i things)
      ∙ ap (λ (behind : List A). flat_map text (take i things) ++ flat_map text behind) rest
