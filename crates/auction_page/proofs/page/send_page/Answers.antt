use Rattle.std.proofs.Common.{◌≡◌, ◌+◌, ◌++◌, ◌∙◌, [], refl, append-nil}
use Rattle.std.specs.Option.{option_copied}
use Rattle.std.specs.Prelude.{IsTrue}
use Rattle.desk_io.proofs.Putting.{puts_again, puts_nothing}
use Rattle.auction_types.specs.Order.{better}
use Rattle.auction_types.specs.Page.{entrants}
use Rattle.auction_page.specs.Ending.{auction_value}
use Rattle.auction_page.specs.PageText.{entrant_line}
use Rattle.auction_page.proofs.OnPage.{written, written-zero, written-next, written-end, written-first, item-on_page, item-meets, copied}
use Rattle.printouts.proofs.Sending.{sends_put, sends_broken}
use Rattle.auction_page.proofs.page.send_page.Goals as goal

pub price-price-requires-clause-meets : goal.price-price-requires-clause-meets
price-price-requires-clause-meets g c =
    rw (c.reserve-reserve.ensures.reserve, c.floor-floor.ensures.floor)
    (item-meets c.args.auction.now.heading c.args.auction.now.ads.items c.args.page.now c.loop-index.index c.index-page-index.result c.requires.meets c.requires.each c.loop-index-test.true c.index-page-index.is)

pub price-price-requires-clause-ahead : goal.price-price-requires-clause-ahead
price-price-requires-clause-ahead g c =
    let on_page = item-on_page (entrants c.args.auction.now.ads.items) c.args.auction.now.heading.places c.loop-index.index c.args.page.now c.index-page-index.result
    c.requires.page c.requires.different_accounts c.loop-index-test.true c.index-page-index.is in
    copied (λ below. IsTrue (better c.index-page-index.result.ad below)) c.as_ref.result c.index-page-index.result.next c.as_ref.ensures.value on_page.ahead

pub loop-index-init : goal.loop-index-init
loop-index-init g c = record {
  puts = rw (written-zero (auction_value c.args.auction.now)) (puts_nothing (g.met.T.Sink.taken_fits c.args.output.now));
  source_side = refl;
}

pub returns-in_err-put_entrant-clause-sends : goal.returns-in_err-put_entrant-clause-sends
returns-in_err-put_entrant-clause-sends g c =
    let auction = auction_value c.args.auction.now in
    let next : written auction c.loop-index.index ++ entrant_line (c.loop-index.index + 1) c.index-page-index.result.ad c.price-price.result ≡ written auction (c.loop-index.index + 1) =
    written-next auction c.args.page.now c.loop-index.index c.price-price.result c.reserve-reserve.result c.floor-floor.result c.index-page-index.result (option_copied c.as_ref.result)
    c.requires.page c.requires.different_accounts c.loop-index-test.true c.index-page-index.is c.reserve-reserve.ensures.reserve c.floor-floor.ensures.floor c.as_ref.ensures.value c.price-price.ensures.among in
    let first = written-first auction (c.loop-index.index + 1) in
    sends_broken (g.T.Sink.sink c.args.output.now) (g.T.Sink.sink c.put_entrant.new.output) c.args.out.now c.put_entrant.new.out _ first.0 _ c.from_residual.result c.requires.empty first.1
    (rw next at (puts_again c.loop-index.invariant.puts c.in_err-put_entrant.ensures.puts)) c.from_residual.ensures.0

pub loop-index-preserved : goal.loop-index-preserved
loop-index-preserved g c =
    let auction = auction_value c.args.auction.now in
    let next : written auction c.loop-index.index ++ entrant_line (c.loop-index.index + 1) c.index-page-index.result.ad c.price-price.result ≡ written auction (c.loop-index.index + 1) =
    written-next auction c.args.page.now c.loop-index.index c.price-price.result c.reserve-reserve.result c.floor-floor.result c.index-page-index.result (option_copied c.as_ref.result)
    c.requires.page c.requires.different_accounts c.loop-index-test.true c.index-page-index.is c.reserve-reserve.ensures.reserve c.floor-floor.ensures.floor c.as_ref.ensures.value c.price-price.ensures.among in
    record {
      puts = rw next at (puts_again c.loop-index.invariant.puts c.in_ok-put_entrant.ensures.puts);
      source_side = rw c.in_ok-put_entrant.ensures.source_side c.loop-index.invariant.source_side;
    }

pub returns-in_err-put_str-clause-sends : goal.returns-in_err-put_str-clause-sends
returns-in_err-put_str-clause-sends g c =
    sends_broken (g.T.Sink.sink c.args.output.now) (g.T.Sink.sink c.put_str.new.sink) c.args.out.now c.put_str.new.self _ [] _ c.from_residual-in_err-put_str.result c.requires.empty
    (append-nil _ ∙ written-end (auction_value c.args.auction.now) c.loop-index.index c.args.page.now c.requires.page c.loop-index-test.false)
    (puts_again c.loop-index.invariant.puts c.in_err-put_str.ensures.puts) c.from_residual-in_err-put_str.ensures.0

pub returns-clause-sends : goal.returns-clause-sends
returns-clause-sends g c =
    sends_put (g.T.Sink.sink c.args.output.now) (g.T.Sink.sink c.put_str.new.sink) (g.T.Sink.sink c.flush.new.sink) c.args.out.now c.put_str.new.self c.flush.new.self
    _ c.flush.result c.requires.empty
    (rw (written-end (auction_value c.args.auction.now) c.loop-index.index c.args.page.now c.requires.page c.loop-index-test.false) at (puts_again c.loop-index.invariant.puts c.in_ok-put_str.ensures.puts))
    c.flush.ensures.flushes
