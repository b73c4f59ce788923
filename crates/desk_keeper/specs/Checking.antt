-- What `check` finds.
use Rattle.std.specs.Prelude.{◌≡◌, Some, ⊤}
use Rattle.desk_types.specs.declared.tables.Tables.{Tables}
use Rattle.desk_types.specs.Rules.{broken}
use Rattle.desk_keeper.specs.declared.soundness.CheckFault.{CheckFault}
use Rattle.desk_keeper.specs.declared.soundness.CheckFault.TheVariants.{Bad, NoMemory}

-- the tables break this rule first; want of memory comes freely
abbrev pub IsBroken : Tables → CheckFault → Type 0
IsBroken T (Bad bad) = broken T ≡ Some bad
IsBroken T NoMemory = ⊤
