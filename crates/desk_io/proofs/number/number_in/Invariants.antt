use Rattle.desk_io.proofs.NumberLemmas.{HasRead}
use Rattle.desk_io.proofs.number.number_in.Given as goal

-- the digits so far are read
abbrev pub invariant-loop-byte : goal.invariant-loop-byte
invariant-loop-byte l = HasRead l.text l.byte-index l.number
