-- A reader of lines as contracts see it.
use Rattle.std.specs.Prelude.{ℕ, Bool, List}

-- the greatest size of a line, the bytes read ahead, the text of the last line, and whether a line feed ended it
pub record ReaderValue : Type 0 where
  pub max : ℕ
  pub held : List ℕ
  pub line : List ℕ
  pub is_ended : Bool
