-- The state that rows stand for where a desk is opened on them.
use Rattle.std.specs.Prelude.{ℕ, max, List, [], ◌∷◌, map}
use Rattle.desk_types.specs.declared.rows.Fate.{Fate}
use Rattle.desk_types.specs.declared.rows.Fate.TheVariants.{Open, Settled, Credited}
use Rattle.desk_types.specs.declared.rows.Placement.{Placement}
use Rattle.desk_types.specs.declared.tables.Tables.{Tables}
use Rattle.desk_types.specs.SettingsValue.{SettingsValue}
use Rattle.desk_types.specs.State.{State}

-- the greatest of these numbers, or 0 where there is none
abbrev pub greatest : List ℕ → ℕ
greatest [] = 0
greatest (n ∷ numbers) = max n (greatest numbers)

-- the last moment that a fate tells, or 0
abbrev pub fate_moment : Fate → ℕ
fate_moment Open = 0
fate_moment (Settled at) = at
fate_moment (Credited settled credited) = max settled credited

-- the last moment that a placement tells
abbrev pub placement_moment : Placement → ℕ
placement_moment p = max p.shown (fate_moment p.fate)

-- the last moment that the rows tell: the greatest of those at which budgets were set, and of those at which placements
-- were shown, settled and credited, or 0
unfoldable pub latest : Tables → ℕ
latest T = max (greatest (map (λ b. b.at) T.budgets)) (greatest (map placement_moment T.placements))

-- the state of these rows: at their last moment, and of the edition 0
abbrev pub opened : SettingsValue → Tables → State
opened settings T = record { settings = settings; moment = latest T; edition = 0; tables = T }
