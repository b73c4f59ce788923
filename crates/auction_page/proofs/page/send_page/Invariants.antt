use Rattle.std.proofs.Common.{◌≡◌, Ok}
use Rattle.desk_io.specs.Putting.{Puts}
use Rattle.desk_io.specs.declared.out_buf.WriteFault.{WriteFault}
use Rattle.auction_page.specs.Ending.{auction_value}
use Rattle.auction_page.proofs.OnPage.{written}
use Rattle.auction_page.proofs.page.send_page.Given as goal

-- the lines of the entrants so far are put
abbrev pub invariant-loop-index : goal.invariant-loop-index
invariant-loop-index g l = record {
  puts : Puts {T = Unit {0}} {E = WriteFault} (g.T.Sink.sink l.fn.output) (g.T.Sink.sink l.output) l.fn.out l.out (written (auction_value l.auction) l.index) (Ok tt);
  source_side : g.T.Sink.source_side l.output ≡ g.T.Sink.source_side l.fn.output;
}
