-- A window on the bytes of a source as contracts see it.
use Rattle.std.specs.Prelude.{◌≡◌, ℕ, List, ◌++◌, length, take, Option}
use Rattle.desk_io.specs.Reading.{Reads, ReadsWithin}
use Rattle.desk_io.specs.declared.source.Got.{Got}
use Rattle.desk_io.specs.declared.source.Got.TheVariants.{Bytes, End, Failed}

-- the bytes cut last, the bytes read ahead behind them, how many bytes there is room for behind these, and in all
pub record WindowValue : Type 0 where
  pub cut : List ℕ
  pub held : List ℕ
  pub behind : ℕ
  pub size : ℕ

-- how many bytes a read gave
abbrev pub bytes_got : Got → ℕ
bytes_got (Bytes n) = n
bytes_got End = 0
bytes_got Failed = 0

-- the bytes held grew by those that a read gave
pub record Fills (left left_now : Option (List ℕ)) (held held_now : List ℕ) (got : Got) : Type 0 where
  pub room : List ℕ
  pub grew : held_now ≡ held ++ take (bytes_got got) room
  pub within : ReadsWithin got (length room)
  pub reads : Reads left left_now got room
