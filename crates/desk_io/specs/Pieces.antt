-- The text of pieces.
use Rattle.std.specs.Prelude.{ℕ, List, flat_map, decimal}
use Rattle.desk_io.specs.declared.piece.Piece.{Piece}
use Rattle.desk_io.specs.declared.piece.Piece.TheVariants.{Text, Bytes, Number}

-- a number is written in decimal digits
abbrev pub piece_text : Piece → List ℕ
piece_text (Text text) = text.now
piece_text (Bytes bytes) = bytes.now
piece_text (Number number) = decimal number

-- the texts of some pieces, one behind another
abbrev pub text_of : List Piece → List ℕ
text_of pieces = flat_map piece_text pieces
