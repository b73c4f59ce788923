-- The text of an auction's page.
use Rattle.std.specs.Prelude.{ℕ, List, ◌++◌, flat_map, codes, decimal, Result, Ok, Err}
use Rattle.auction_types.specs.AdValue.{AdValue}
use Rattle.auction_types.specs.Page.{entrants, place, page}
use Rattle.auction_types.specs.Price.{price}
use Rattle.desk_io.specs.declared.numbered_lines.LineFault.{LineFault}
use Rattle.printouts.specs.declared.status.TheConstants.{ENDED}
use Rattle.printouts.specs.Printout.{Printout, fault_printout}
use Rattle.auction_page.specs.Reading.{AuctionValue}

-- the line of an entrant: its place, its name and its price in cents
abbrev pub entrant_line : ℕ → AdValue → ℕ → List ℕ
entrant_line place ad cents =
    decimal place ++ (codes " " ++ (decimal ad.account ++ (codes "." ++ (decimal ad.campaign ++ (codes "."
    ++ (decimal ad.line ++ (codes " " ++ (decimal cents ++ codes "\n"))))))))

unfoldable pub entrant_text : AuctionValue → AdValue → List ℕ
entrant_text auction ad =
    let entered = entrants auction.ads in
    entrant_line (place entered ad) ad (price auction.heading.reserve auction.heading.floor entered ad)

-- a line for each entrant on the page, in order of place, and the line `end`
unfoldable pub auction_page_text : AuctionValue → List ℕ
auction_page_text auction =
    flat_map (entrant_text auction) (page (entrants auction.ads) auction.heading.places) ++ codes "end\n"

abbrev pub page_printout : AuctionValue → Printout
page_printout auction = record { text = auction_page_text auction; status = ENDED }

-- what is said of an auction, or of the first fault in its lines
abbrev pub printout_of : Result AuctionValue LineFault → Printout
printout_of (Ok auction) = page_printout auction
printout_of (Err fault) = fault_printout fault
