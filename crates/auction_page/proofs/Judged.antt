-- What an input spells, told or not.
use Rattle.std.proofs.Common.{◌≡◌, ℕ, List, refl}
use Rattle.std.specs.Prelude.{Option, Some, None, IfSome, Result, Err}
use Rattle.desk_io.specs.SourceView.{SourceView}
use Rattle.desk_io.specs.declared.numbered_lines.LineFault.{LineFault}
use Rattle.desk_io.specs.declared.numbered_lines.LineFault.TheVariants.{TooManyLines}
use Rattle.printouts.specs.Printout.{Printout}
use Rattle.auction_page.specs.PageText.{printout_of}
use Rattle.auction_page.specs.Reading.{AuctionValue, auction_in}
use Rattle.auction_page.specs.AuctionCall.{IsJudged}

-- some printout is that of what the bytes spell
pub some_judged : (source : SourceView) → (printout : Printout) × IsJudged source printout
some_judged source = let spelled = some_spelled source.left in (printout_of spelled.0, record { spelled = spelled.0; is = refl; bytes_spell = spelled.1 })
  where
    some_spelled : (left : Option (List ℕ)) → (spelled : Result AuctionValue LineFault) × IfSome left (λ bytes. auction_in bytes ≡ spelled)
    some_spelled None = (Err TooManyLines, tt)
    some_spelled (Some bytes) = (auction_in bytes, refl)
