-- A desk that serves one caller, as contracts see it.
use Rattle.std.specs.Prelude.{◌≡◌, ℕ, List, All}
use Rattle.desk_types.specs.declared.entry.Entry.{Entry}
use Rattle.desk_core.specs.DeskValue.{DeskValue}

-- the desk, and the number of its caller
pub record SoloValue : Type 0 where
  pub desk : DeskValue
  pub caller : ℕ

-- each entry is the caller's
abbrev pub AreOwn : ℕ → List Entry → Type 0
AreOwn caller entries = All (λ e. e.caller ≡ caller) entries
