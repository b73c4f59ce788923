use Rattle.std.proofs.Common.{◌<◌, ◌+◌, ◌∙◌, length, drop, Ok, arith}
use Rattle.desk_io.specs.Pieces.{piece_text, text_of}
use Rattle.desk_io.proofs.FlatMaps.{flat_map-more, flat_map-parts}
use Rattle.desk_io.proofs.Putting.{puts_again, puts_broken}
use Rattle.desk_io.proofs.out_buf.OutBuf.put_all.Goals as goal

pub returns-in_err-put_piece-clause-puts : goal.returns-in_err-put_piece-clause-puts
returns-in_err-put_piece-clause-puts g c =
    let inside : c.loop-piece.piece-index < length c.args.pieces.now = omega arith in
    let rest = text_of (drop (c.loop-piece.piece-index + 1) c.args.pieces.now) in
    let broken = puts_again {y = c.put_piece.new.self} {result = c.from_residual.result} c.loop-piece.invariant.puts (puts_broken rest c.in_err-put_piece.ensures.puts c.from_residual.ensures.0) in
    rw (← flat_map-parts piece_text c.args.pieces.now c.loop-piece.piece-index) at broken

pub loop-piece-preserved : goal.loop-piece-preserved
loop-piece-preserved g c =
    let inside : c.loop-piece.piece-index < length c.args.pieces.now = omega arith in
    let more = puts_again {result = Ok tt} c.loop-piece.invariant.puts c.in_ok-put_piece.ensures.puts in
    record {
      puts = rw (← flat_map-more piece_text c.args.pieces.now c.loop-piece.piece-index) at more;
      source_side = c.in_ok-put_piece.ensures.source_side ∙ c.loop-piece.invariant.source_side;
    }
