-- A reader of messages as contracts see it.
use Rattle.std.specs.Prelude.{ℕ, List}
use Rattle.http_api.specs.HeadValue.{HeadValue}

-- the bytes read ahead, those of the last message, and the parts of its head and its body
pub record ReaderValue : Type 0 where
  pub held : List ℕ
  pub last : List ℕ
  pub head : HeadValue
  pub body : List ℕ
