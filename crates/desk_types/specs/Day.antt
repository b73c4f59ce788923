-- The day of a moment.
use Rattle.std.specs.Prelude.{ℕ, ◌/◌}
use Rattle.desk_types.specs.declared.limits.TheConstants.{DAY_SECONDS}

-- the day of a moment: its seconds divided by those of a day, rounded down
abbrev pub day_of : ℕ → ℕ
day_of moment = moment / DAY_SECONDS
