-- The page of a sound desk can be priced and placed, and its lines are there.
use Rattle.std.proofs.Common.{◌≡◌, ℕ, zero, suc, ◌+◌, ◌<◌, true, inl, inr, List, [], ◌∷◌, Option, None, Some, is_some, map, length, get_or, refl, sym, ap, ◌∙◌, arith}
use Rattle.std.specs.List.{All, Contains, slice_get}
use Rattle.std.specs.Option.{IfSome}
use Rattle.std.proofs.lemmas.List.{length-map}
use Rattle.std.proofs.lemmas.List.Elements.{All-nil, All-cons, All-map, Contains-get_or}
use Rattle.auction_types.specs.AdValue.{AdValue}
use Rattle.desk_types.specs.Eligible.{entrants_for}
use Rattle.auction_types.specs.Laws.{AreFirstPlaces}
use Rattle.auction_types.specs.Page.{next_below, page}
use Rattle.desk_types.specs.Changes.{all_placed}
use Rattle.desk_types.specs.State.{State}
use Rattle.desk_types.specs.Tables.{line_of}
use Rattle.auction_types.proofs.Accounts.{AreOfDifferentAccounts-from}
use Rattle.desk_types.proofs.SecondPrice.{LinesInRange, apart_entrants, entrant_line, fit_entrant, page_among}
use Rattle.auction_types.proofs.Members.{Has, Has-from_Contains}
use Rattle.auction_types.proofs.Pages.{next_below-law, page-first_places}
use Rattle.rank_core.specs.declared.page.Ranked.{Ranked}
use Rattle.rank_core.specs.Ranked.{ranked}
use Rattle.desk_core.specs.Shown.{AreRankedFrom, CanBePriced, HasLine}
use Rattle.desk_core.proofs.Placing.{ads_of}

-- an entrant with the one next below it
abbrev with_next : List AdValue → AdValue → Ranked
with_next entered a = record { ad = a; next = next_below entered a }

ads_of-with_next : (entered ads : List AdValue) → ads_of (map (with_next entered) ads) ≡ ads
ads_of-with_next entered [] = refl
ads_of-with_next entered (a ∷ ads) = ap (λ rest. a ∷ rest) (ads_of-with_next entered ads)

pub ads_of-ranked : (entered : List AdValue) (n : ℕ) → ads_of (ranked entered n) ≡ page entered n
unfolding ranked
ads_of-ranked entered n = ads_of-with_next entered (page entered n)

pub length-ranked : (entered : List AdValue) (n : ℕ) → length (ranked entered n) ≡ length (page entered n)
length-ranked entered n = sym (length-map (ranked entered n) (λ (r : Ranked). r.ad)) ∙ ap length (ads_of-ranked entered n)

slice_get-with_next : (entered ads : List AdValue) (k : ℕ) (r : Ranked) → k < length (map (with_next entered) ads) → slice_get ads k ≡ Some (get_or (map (with_next entered) ads) k r).ad
slice_get-with_next entered [] k r low = absurd (omega (arith, low))
slice_get-with_next entered (a ∷ ads) zero r low = refl
slice_get-with_next entered (a ∷ ads) (suc k) r low = slice_get-with_next entered ads k r (omega (arith, low))

members : (entered ads : List AdValue) (n : ℕ) → AreFirstPlaces entered n ads → All (Contains entered) ads
members entered ads n h = λ k d low. h.among_entrants (get_or ads k d) (Contains-get_or ads k d low)

pub ranked-from : (S : State) (query : List (List ℕ)) (n : ℕ) → LinesInRange S → AreRankedFrom (entrants_for S query) (ranked (entrants_for S query) n)
unfolding ranked
ranked-from S query n in_range =
    let entered = entrants_for S query in
    let apart = AreOfDifferentAccounts-from entered (apart_entrants S query in_range) in
    let first = page-first_places entered n apart in
    let ads = page entered n in
    record {
      different_accounts = apart;
      entrants = All-map (λ (r : Ranked). Contains entered r.ad) (with_next entered) ads (members entered ads n first);
      nexts = All-map (λ (r : Ranked). next_below entered r.ad ≡ r.next) (with_next entered) ads (λ k d low. refl);
      places = λ k r low. first.places k (get_or (map (with_next entered) ads) k r).ad (slice_get-with_next entered ads k r low);
    }

if_some : (o : Option AdValue) (P Q : AdValue → Type 0) → ((a : AdValue) → P a → Q a) → IfSome o P → IfSome o Q
if_some None P Q f h = tt
if_some (Some a) P Q f h = f a h

pub ranked-priced : (S : State) (query : List (List ℕ)) (n : ℕ) → LinesInRange S → All (CanBePriced S) (ranked (entrants_for S query) n)
unfolding ranked
ranked-priced S query n in_range =
    let entered = entrants_for S query in
    let apart = AreOfDifferentAccounts-from entered (apart_entrants S query in_range) in
    let ads = page entered n in
    let among = members entered ads n (page-first_places entered n apart) in
    All-map (CanBePriced S) (with_next entered) ads (λ k d low.
    let a = get_or ads k d in
    let entrant = among k d low in
    let fit = fit_entrant S query a in_range (Has-from_Contains entered a entrant) in
    record {
      reserve = fit.reserve;
      floor = fit.floor;
      ahead = if_some (next_below entered a) _ _ (λ b h. h.below) (next_below-law entered a apart entrant);
    })

-- the lines of entrants are there
lines_there : (S : State) (entered : List AdValue) (number : ℕ) (ads : List AdValue) → ((a : AdValue) → Has ads a → is_some (line_of S.tables a.account a.line) ≡ true) → All (HasLine S.tables) (all_placed S entered number ads)
lines_there S entered number [] h = All-nil (HasLine S.tables)
lines_there S entered number (a ∷ ads) h =
    All-cons (HasLine S.tables) _ (all_placed S entered (number + 1) ads) (h a (inl refl)) (lines_there S entered (number + 1) ads (λ b k. h b (inr k)))

pub placed-lines : (S : State) (query : List (List ℕ)) (number n : ℕ) → LinesInRange S → All (HasLine S.tables) (all_placed S (entrants_for S query) number (page (entrants_for S query) n))
placed-lines S query number n in_range =
    let apart = apart_entrants S query in_range in
    lines_there S (entrants_for S query) number (page (entrants_for S query) n) (λ a h. entrant_line S query a (page_among (entrants_for S query) n a apart h))
