-- How an auction is served.
use Rattle.std.specs.Prelude.{◌≡◌, ℕ, ◌⊎◌, Option, IfSome, Result}
use Rattle.desk_io.specs.Faults.{Rose}
use Rattle.desk_io.specs.SourceView.{SourceView}
use Rattle.desk_io.specs.declared.numbered_lines.LineFault.{LineFault}
use Rattle.printouts.specs.CallState.{CallState}
use Rattle.printouts.specs.Printout.{Printout, read_fault_printout}
use Rattle.printouts.specs.Saying.{IsWritten}
use Rattle.auction_page.specs.Ending.{IsCutOff}
use Rattle.auction_page.specs.PageText.{printout_of}
use Rattle.auction_page.specs.Reading.{AuctionValue, auction_in}

-- a read failed, before any line with a fault
pub record IsReadFault (source source_now : SourceView) (printout : Printout) : Type 0 where
  pub rose : Rose source.faults source_now.faults
  pub no_fault : IfSome source.left (λ bytes. IsCutOff bytes source_now.left)
  pub is : printout ≡ read_fault_printout

-- the printout is that of what the input's bytes spell, where the input tells them
pub record IsJudged (source : SourceView) (printout : Printout) : Type 0 where
  pub spelled : Result AuctionValue LineFault
  pub is : printout ≡ printout_of spelled
  pub bytes_spell : IfSome source.left (λ bytes. auction_in bytes ≡ spelled)

-- the printout of an auction, by its input
abbrev pub IsAuctionPrintout : SourceView → SourceView → Printout → Type 0
IsAuctionPrintout source source_now printout = IsReadFault source source_now printout ⊎ IsJudged source printout

-- an auction was read and its printout written
pub record IsAuctionServed (before after : CallState) (status : ℕ) : Type 0 where
  pub printout : Printout
  pub judged : IsAuctionPrintout before.source after.source printout
  pub said : IsWritten before.sink after.sink printout status
