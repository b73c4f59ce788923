-- A pair that keeps its lenders.
use Rattle.std.proofs.Common.{◌≡◌}
use Rattle.desk_io.specs.declared.pair.Pair.{Pair}
use Rattle.desk_io.specs.Pairing.{lenders_of}

module _ {S T : Type 0} (pair pair_now : Pair S T) (same : lenders_of pair_now ≡ lenders_of pair) where
  pub same_source : pair_now.source.ghost_name ≡ pair.source.ghost_name
  same_source = cc

  pub same_sink : pair_now.sink.ghost_name ≡ pair.sink.ghost_name
  same_sink = cc
