-- The ads that are kept meet the heading.
use Rattle.std.proofs.Common.{◌≡◌, ℕ, zero, suc, get_or, List, [], ◌∷◌, ◌++◌, true, false, Bool, arith, sym, refl, ◌<◌, subst}
use Rattle.std.specs.Prelude.{All, Option, Some, None, Result, Ok, Err, OnOk, OnErr, nat_le}
use Rattle.std.proofs.lemmas.Bool.{and_parts, leb-true}
use Rattle.std.proofs.lemmas.List.Elements.{All-append}
use Rattle.auction_types.specs.AdValue.{AdValue, score}
use Rattle.auction_page.specs.HeadingValue.{HeadingValue}
use Rattle.auction_page.specs.declared.fault.ReadEnd.{ReadEnd}
use Rattle.auction_page.specs.declared.form.AdLine.{AdLine}
use Rattle.auction_page.specs.MeetsHeading.{MeetsHeading, AllMeet}
use Rattle.auction_page.specs.Reading.{kept_ads, is_eligible_under}

none-meet : (heading : HeadingValue) (ads : List AdValue) → ads ≡ [] → All (MeetsHeading heading) ads
none-meet heading [] none = λ k d in_list. absurd (omega arith)
none-meet heading (ad ∷ ads) none = cc

-- before the heading there is no ad
pub first-meet : (spelled : Option HeadingValue) (heading : HeadingValue) (ads : List AdValue) → spelled ≡ None → AllMeet spelled ads → All (MeetsHeading heading) ads
first-meet None heading ads is meet = none-meet heading ads meet
first-meet (Some other) heading ads is meet = cc

eligible-meets : (heading : HeadingValue) (line : AdLine) → is_eligible_under heading line ≡ true → MeetsHeading heading line.ad
unfolding is_eligible_under
eligible-meets heading line h =
    let reserve = and_parts (nat_le heading.reserve line.ad.bid) _ h in
    let floor = and_parts (nat_le heading.floor (score line.ad)) _ reserve.1 in
    (leb-true heading.reserve line.ad.bid reserve.0, leb-true heading.floor (score line.ad) floor.0)

meets-one : (heading : HeadingValue) (ad : AdValue) → MeetsHeading heading ad → (k : ℕ) (d : AdValue) → k < 1 → MeetsHeading heading (get_or (ad ∷ []) k d)
meets-one heading ad meets zero d in_list = meets
meets-one heading ad meets (suc k) d in_list = absurd (omega arith)

kept-meet : (heading : HeadingValue) (line : AdLine) (eligible : Bool) → is_eligible_under heading line ≡ eligible → All (MeetsHeading heading) (kept_ads eligible line)
kept-meet heading line true h = meets-one heading line.ad (eligible-meets heading line h)
kept-meet heading line false h = λ k d in_list. absurd (omega arith)

some-meet : (spelled : Option HeadingValue) (heading : HeadingValue) (ads : List AdValue) (line : AdLine) → spelled ≡ Some heading → AllMeet spelled ads →
    AllMeet spelled (ads ++ kept_ads (is_eligible_under heading line) line)
some-meet None heading ads line is meet = cc
some-meet (Some other) heading ads line is meet =
    let same : heading ≡ other = cc in
    subst (λ (h : HeadingValue). All (MeetsHeading other) (ads ++ kept_ads (is_eligible_under h line) line)) (sym same)
    (All-append (MeetsHeading other) ads (kept_ads (is_eligible_under other line) line) meet (kept-meet other line (is_eligible_under other line) refl))

-- an ad is kept, or, for want of memory, none
pub more-meet : (spelled : Option HeadingValue) (heading : HeadingValue) (ads kept : List AdValue) (line : AdLine) (result : Result (Unit {0}) ReadEnd) →
    spelled ≡ Some heading → AllMeet spelled ads →
    OnOk result (kept ≡ ads ++ kept_ads (is_eligible_under heading line) line) → OnErr result (kept ≡ ads) → AllMeet spelled kept
more-meet spelled heading ads kept line (Ok _) is meet ok err = rw ok (some-meet spelled heading ads line is meet)
more-meet spelled heading ads kept line (Err end) is meet ok err = rw err meet
