-- The ads of a list, each with the one that comes next.
use Rattle.std.specs.Prelude.{List, [], ◌∷◌}
use Rattle.std.specs.List.{slice_get}
use Rattle.auction_types.specs.AdValue.{AdValue}
use Rattle.rank_core.specs.declared.page.Ranked.{Ranked}

-- each with the one that comes next, if there is one
abbrev pub each_with_next : List AdValue → List Ranked
each_with_next [] = []
each_with_next (x ∷ xs) = record { ad = x; next = slice_get xs 0 } ∷ each_with_next xs
