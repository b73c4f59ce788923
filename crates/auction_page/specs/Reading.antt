-- What the texts of an auction's lines spell, one after another.
use Rattle.std.specs.Prelude.{ℕ, ◌+◌, Bool, true, false, ◌==◌, ◌&&◌, nat_le, if◌then◌else◌, List, [], ◌∷◌, ◌++◌, length, Option, Some, None, Result, Ok, Err}
use Rattle.std.specs.List.{list_any}
use Rattle.auction_types.specs.AdValue.{AdValue, score}
use Rattle.desk_io.specs.Lines.{lines}
use Rattle.desk_io.specs.NumberedLines.{NumberedText, ToldLines, lines_told}
use Rattle.desk_io.specs.declared.numbered_lines.LineFault.{LineFault}
use Rattle.desk_io.specs.declared.numbered_lines.LineFault.TheVariants.{BadLine, TooManyLines}
use Rattle.auction_page.specs.declared.limits.TheConstants.{ADS_MAX}
use Rattle.auction_page.specs.declared.form.AdLine.{AdLine}
use Rattle.auction_page.specs.declared.form.LineName.{LineName}
use Rattle.auction_page.specs.HeadingValue.{HeadingValue}
use Rattle.auction_page.specs.Form.{heading_in, ad_in}

-- an auction: its heading and its eligible ads
pub record AuctionValue : Type 0 where
  pub heading : HeadingValue
  pub ads : List AdValue

-- what is spelled so far: the heading, the names of all ads, and the ads that are eligible
pub record SoFar : Type 0 where
  pub heading : Option HeadingValue
  pub names : List LineName
  pub eligible : List AdValue

abbrev pub nothing_yet : SoFar
nothing_yet = record { heading = None; names = []; eligible = [] }

-- the name of an ad's line, and whether two are the same
abbrev pub line_name : AdLine → LineName
line_name line = record { account = line.ad.account; campaign = line.ad.campaign; line = line.ad.line }

abbrev pub is_same_name : LineName → LineName → Bool
is_same_name a b = a.account == b.account && (a.campaign == b.campaign && a.line == b.line)

-- whether an ad's bid meets the reserve, the floor and its campaign's free budget
unfoldable pub is_eligible_under : HeadingValue → AdLine → Bool
is_eligible_under heading line =
    nat_le heading.reserve line.ad.bid && (nat_le heading.floor (score line.ad) && nat_le line.ad.bid line.free)

abbrev pub kept_ads : Bool → AdLine → List AdValue
kept_ads true line = line.ad ∷ []
kept_ads false line = []

-- the fault of the numbered line that names an ad, behind these names: it stands among them, or is one too many
unfoldable pub name_fault : List LineName → ℕ → LineName → Option LineFault
name_fault names number name =
    if list_any (is_same_name name) names then Some (BadLine number)
    else (if nat_le ADS_MAX (length names) then Some TooManyLines else None)

abbrev pub with_ad : HeadingValue → SoFar → AdLine → SoFar
with_ad heading so_far line = record {
  heading = so_far.heading;
  names = so_far.names ++ line_name line ∷ [];
  eligible = so_far.eligible ++ kept_ads (is_eligible_under heading line) line;
}

abbrev pub unless_fault : Option LineFault → SoFar → Result SoFar LineFault
unless_fault None so_far = Ok so_far
unless_fault (Some fault) so_far = Err fault

-- what is spelled behind the numbered line of the heading, and behind that of an ad
unfoldable pub take_heading : SoFar → ℕ → Option HeadingValue → Result SoFar LineFault
take_heading so_far number None = Err (BadLine number)
take_heading so_far number (Some heading) =
    Ok (record { heading = Some heading; names = so_far.names; eligible = so_far.eligible })

unfoldable pub take_ad : HeadingValue → SoFar → ℕ → Option AdLine → Result SoFar LineFault
take_ad heading so_far number None = Err (BadLine number)
take_ad heading so_far number (Some line) =
    unless_fault (name_fault so_far.names number (line_name line)) (with_ad heading so_far line)

-- what is spelled behind a text: the first is to spell the heading, each other an ad
abbrev pub take_by : Option HeadingValue → SoFar → NumberedText → Result SoFar LineFault
take_by None so_far next = take_heading so_far next.number (heading_in next.text)
take_by (Some heading) so_far next = take_ad heading so_far next.number (ad_in next.text)

unfoldable pub take_text : SoFar → NumberedText → Result SoFar LineFault
take_text so_far next = take_by so_far.heading so_far next

-- what comes behind what was spelled, where it has no fault
abbrev pub and_then : {A B : Type 0} → (A → Result B LineFault) → Result A LineFault → Result B LineFault
and_then next (Ok spelled) = next spelled
and_then next (Err fault) = Err fault

-- what is spelled behind some texts, up to the first one with a fault
unfoldable pub take_texts : SoFar → List NumberedText → Result SoFar LineFault
take_texts so_far [] = Ok so_far
take_texts so_far (next ∷ rest) = and_then (λ now. take_texts now rest) (take_text so_far next)

-- the auction at the end behind so many lines; an end before the heading is a bad line, and a line past a limit a fault
abbrev pub auction_from : Option HeadingValue → ℕ → List AdValue → Result AuctionValue LineFault
auction_from None count ads = Err (BadLine (count + 1))
auction_from (Some heading) count ads = Ok (record { heading = heading; ads = ads })

abbrev pub auction_at : Result ℕ LineFault → SoFar → Result AuctionValue LineFault
auction_at (Ok count) so_far = auction_from so_far.heading count so_far.eligible
auction_at (Err fault) so_far = Err fault

-- the auction that an input's lines spell, or the first fault
unfoldable pub spelled_by : ToldLines → Result AuctionValue LineFault
spelled_by told = and_then (auction_at told.end) (take_texts nothing_yet told.texts)

unfoldable pub auction_in : List ℕ → Result AuctionValue LineFault
auction_in bytes = spelled_by (lines_told 0 (lines bytes))
