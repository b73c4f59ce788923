-- The rules of a placement, but for the one on budgets.
use Rattle.std.specs.Prelude.{◌&&◌, List, [], ◌∷◌, length}
use Rattle.desk_types.specs.declared.rows.Placement.{Placement}
use Rattle.desk_types.specs.declared.tables.Tables.{Tables}
use Rattle.desk_types.specs.Keys.{placement_key}
use Rattle.desk_types.specs.Rules.{Rule, has_campaign, has_line_of, is_good_placement, is_in_order, is_in_turn, is_next, rule}

-- the rules of a placement behind those before it, but for the one on budgets
unfoldable pub rules_but_budget : Tables → List Placement → Placement → List Rule
rules_but_budget T before p =
    rule 1 (is_in_order placement_key before p)
    ∷ rule 2 (is_good_placement p)
    ∷ rule 3 (is_next (length before) p.number)
    ∷ rule 4 (has_campaign T p.account p.campaign && has_line_of T p)
    ∷ rule 8 (is_in_turn before p)
    ∷ []
