-- The placements of a desk as contracts see them.
use Rattle.std.specs.Prelude.{◌≡◌, ℕ, ◌+◌, ◌≤◌, List, [], ◌∷◌, ◌++◌, length, map, All, ⊤}
use Rattle.std.specs.List.{AllPairs}
use Rattle.desk_types.specs.declared.limits.TheConstants.{CLICK_WINDOW, MOMENT_MAX}
use Rattle.desk_types.specs.declared.rows.Placement.{Placement}
use Rattle.desk_types.specs.Sound.{RunFromOne}

-- the rows, by number, and how many more can be shown without memory
pub record PlacementsValue : Type 0 where
  pub rows : List Placement
  pub spare : ℕ

-- the numbers run from 1, no moment shown is below an earlier one, and each deadline is a click window later
pub record AreShownInTurn (rows : List Placement) : Type 0 where
  pub numbers : RunFromOne (map (λ p. p.number) rows)
  pub moments : AllPairs (λ (p later : Placement). p.shown ≤ later.shown) rows
  pub deadlines : All (λ p. p.deadline ≡ p.shown + CLICK_WINDOW) rows
  pub within : All (λ p. p.shown ≤ MOMENT_MAX) rows

-- a placement can be shown behind these
pub record IsNext (rows : List Placement) (p : Placement) : Type 0 where
  pub number : p.number ≡ length rows + 1
  pub moment : All (λ earlier. earlier.shown ≤ p.shown) rows
  pub deadline : p.deadline ≡ p.shown + CLICK_WINDOW
  pub within : p.shown ≤ MOMENT_MAX

-- placements can be shown behind these, one after another
abbrev pub AreNext : List Placement → List Placement → Type 0
AreNext rows [] = ⊤
AreNext rows (p ∷ list) = IsNext rows p × AreNext (rows ++ p ∷ []) list
