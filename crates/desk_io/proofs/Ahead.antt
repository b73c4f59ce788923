-- What stands ahead of a reader of lines.
use Rattle.std.proofs.Common.{◌≡◌, ℕ, ◌<◌, List, [], ◌∷◌, ◌++◌, length, Option, Some, None, IfSome, ap, arith}
use Rattle.desk_io.specs.Lines.{Line, first_line}
use Rattle.desk_io.specs.NextLine.{ahead}
use Rattle.desk_io.specs.Reader.{ReaderValue}
use Rattle.desk_io.proofs.LineLaws.{first_line-last}

nil_behind : (held bytes : List ℕ) → held ++ bytes ≡ [] → bytes ≡ []
nil_behind [] bytes none = none
nil_behind (byte ∷ held) bytes none = cc

-- where nothing is ahead, nothing is left
pub none_left : (reader : ReaderValue) (left : Option (List ℕ)) → IfSome (ahead reader left) (λ bytes. bytes ≡ []) → IfSome left (λ bytes. bytes ≡ [])
none_left reader None none = tt
none_left reader (Some bytes) none = nil_behind reader.held bytes none

-- bytes whose first line is long are some
pub some-from_long : (max : ℕ) (bytes : List ℕ) → max < (first_line bytes).size → 0 < length bytes
some-from_long max [] long = absurd (omega (arith, ap (λ (line : Line). line.size) (first_line-last [] (omega arith))))
some-from_long max (byte ∷ bytes) long = omega arith
