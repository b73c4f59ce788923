use Rattle.std.proofs.Common.{◌≡◌, map, filter}
use Rattle.query_words.specs.Words.{is_nonempty}
use Rattle.query_words.proofs.cut.pieces.Given as goal

abbrev pub invariant-loop-piece : goal.invariant-loop-piece
invariant-loop-piece l = l.found.items ≡ filter is_nonempty (map (λ x. x.now) l.yielded)
