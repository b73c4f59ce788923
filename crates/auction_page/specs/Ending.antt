-- How the reading of an auction ends.
use Rattle.std.specs.Prelude.{◌≡◌, ℕ, Bool, true, false, List, Option, Some, IfSome, Result, Ok, Err}
use Rattle.desk_io.specs.Faults.{Rose}
use Rattle.desk_io.specs.NumberedLines.{NumberedText, AreCutOff, ReadSoFar}
use Rattle.desk_io.specs.NumberedValue.{NumberedValue}
use Rattle.desk_io.specs.declared.numbered_lines.LineFault.{LineFault}
use Rattle.auction_page.specs.declared.fault.ReadEnd.{ReadEnd}
use Rattle.auction_page.specs.declared.fault.ReadEnd.TheVariants.{Fault, ReadFault, NoMemory}
use Rattle.auction_page.specs.declared.auction.Auction.{Auction}
use Rattle.auction_page.specs.Reading.{AuctionValue, SoFar, nothing_yet, take_texts, auction_at, auction_in}

abbrev pub auction_value : Auction → AuctionValue
auction_value a = record { heading = a.heading; ads = a.ads.items }

-- a failed read cut the bytes off: what was read of them up to its last line feed has no fault
pub record IsCutOff (bytes : List ℕ) (left : Option (List ℕ)) : Type 0 where
  pub texts : List NumberedText
  pub so_far : SoFar
  pub cut_off : AreCutOff bytes left texts
  pub no_fault : take_texts nothing_yet texts ≡ Ok so_far

-- what is spelled was found, or its fault; or memory was wanted
abbrev pub Gives : {A B : Type 0} → (A → B) → Result B LineFault → Result A ReadEnd → Type 0
Gives value spelled (Ok found) = spelled ≡ Ok (value found)
Gives value spelled (Err (Fault fault)) = spelled ≡ Err fault
Gives value spelled (Err ReadFault) = ⊥
Gives value spelled (Err NoMemory) = Unit {0}

-- it is this fault; or memory was wanted
abbrev pub IsFault : Option LineFault → ReadEnd → Type 0
IsFault found (Fault fault) = found ≡ Some fault
IsFault found ReadFault = ⊥
IsFault found NoMemory = Unit {0}

-- the reading of these bytes ended so: by their first fault, by a failed read, or for want of memory
abbrev pub EndsBy : Option (List ℕ) → Option (List ℕ) → ReadEnd → Type 0
EndsBy whole left (Fault fault) = IfSome whole (λ bytes. auction_in bytes ≡ Err fault)
EndsBy whole left ReadFault = IfSome whole (λ bytes. IsCutOff bytes left)
EndsBy whole left NoMemory = Unit {0}

-- a fault of reading comes only where the count rose
abbrev pub ReadEndCause : ℕ → ℕ → ReadEnd → Type 0
ReadEndCause before now (Fault fault) = Unit {0}
ReadEndCause before now ReadFault = Rose before now
ReadEndCause before now NoMemory = Unit {0}

-- the texts that were read so far of the bytes have no fault, and spell this
pub record IsReading (whole : Option (List ℕ)) (lines : NumberedValue) (left : Option (List ℕ)) (so_far : SoFar)
    : Type 0 where
  pub texts : List NumberedText
  pub read : ReadSoFar whole texts lines left
  pub taken : take_texts nothing_yet texts ≡ Ok so_far

-- the bytes spell what is kept, with their end behind so many lines
abbrev pub IsAllRead : Option (List ℕ) → ℕ → SoFar → Type 0
IsAllRead whole count so_far = IfSome whole (λ bytes. auction_in bytes ≡ auction_at (Ok count) so_far)

-- a turn took a line and goes on, or saw the end behind the last line, or ended the reading
abbrev pub Goes : Option (List ℕ) → NumberedValue → Option (List ℕ) → SoFar → Result Bool ReadEnd → Type 0
Goes whole lines left so_far (Ok true) = IsReading whole lines left so_far
Goes whole lines left so_far (Ok false) = IsAllRead whole lines.count so_far
Goes whole lines left so_far (Err end) = EndsBy whole left end
