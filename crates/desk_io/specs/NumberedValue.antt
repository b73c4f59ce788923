-- A reader of numbered lines as contracts see it.
use Rattle.std.specs.Prelude.{ℕ, Bool, List}

-- how many lines were read, the bytes read ahead, the text of the last line, and whether a line feed ended it
pub record NumberedValue : Type 0 where
  pub count : ℕ
  pub held : List ℕ
  pub text : List ℕ
  pub is_ended : Bool
