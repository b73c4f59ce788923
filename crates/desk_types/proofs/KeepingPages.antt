-- The placements of a page are proper.
use Rattle.std.proofs.Common.{◌≡◌, ℕ, zero, suc, ◌+◌, ◌≤◌, ◌-◌, Bool, true, false, ◌==◌, ◌&&◌, ◌||◌, inl, inr, List, [], ◌∷◌, filter, length, map, Option, None, Some, refl, sym, ap, subst, arith}
use Rattle.std.specs.Prelude.{nat_le}
use Rattle.std.specs.List.{list_any}
use Rattle.std.proofs.lemmas.Bool.{cases_Bool, cond-true, cond-false, and_from, eqb-true, eq-eqb, or_right}
use Rattle.std.proofs.lemmas.Bool.Decides.{nat_tests}
use Rattle.query_words.specs.Words.{words_of}
use Rattle.auction_types.specs.declared.limits.TheConstants.{BID_MIN, BID_MAX, PLACES_MAX}
use Rattle.auction_types.specs.AdValue.{AdValue}
use Rattle.auction_types.specs.Page.{at_place, page, place}
use Rattle.auction_types.specs.Price.{is_enough, price}
use Rattle.auction_types.proofs.Entrants.{entrant_of}
use Rattle.auction_types.proofs.Members.{Has, Has-append_cases, Has-filter}
use Rattle.auction_types.proofs.PriceLemmas.{first_passing-ge, price-le-bid}
use Rattle.desk_types.specs.declared.limits.TheConstants.{MOMENT_MAX}
use Rattle.desk_types.specs.declared.rows.Line.{Line}
use Rattle.desk_types.specs.declared.rows.Placement.{Placement}
use Rattle.desk_types.specs.declared.tables.Change.TheVariants.{PutPlacement}
use Rattle.desk_types.specs.declared.tables.Tables.{Tables}
use Rattle.desk_types.specs.Changes.{all_placed, placed, placements_for}
use Rattle.desk_types.specs.Eligible.{ad_of, eligible_ads, entrants_for, is_eligible}
use Rattle.desk_types.specs.Judged.{is_bad_places, is_within, page_of, places_of}
use Rattle.desk_types.specs.Rules.{has_campaign, is_good_placement}
use Rattle.desk_types.specs.SettingsValue.{AreInRange}
use Rattle.desk_types.specs.State.{State}
use Rattle.desk_types.specs.Tables.{put}
use Rattle.desk_types.proofs.Accepting.{from_not}
use Rattle.desk_types.proofs.EachRow.{Each}
use Rattle.desk_types.proofs.InOrder.{Each-from_All}
use Rattle.desk_types.proofs.KeepingProper.{AreProper}
use Rattle.desk_types.proofs.KeepingStable.{stable_of}
use Rattle.desk_types.proofs.Kept.{IsAlmostKept}
use Rattle.desk_types.proofs.Lawful.{changed}
use Rattle.desk_types.proofs.SecondPrice.{apart_entrants, fit_entrant, lines_in_range, page_among}

-- the place of an ad of a page is one of its places
place_up_to : (entered : List AdValue) (n : ℕ) (a : AdValue) → Has (page entered n) a → place entered a ≤ n
unfolding page at_place
place_up_to entered zero a h = absurd (elim h [ ])
place_up_to entered (suc n) a h =
    elim (Has-append_cases (page entered n) (at_place entered (suc n)) a h) [
      | inl k ↦ omega (arith, place_up_to entered n a k)
      | inr k ↦ omega (arith, eqb-true (place entered a) (suc n) (Has-filter (λ b. place entered b == suc n) entered a k).1)
    ]

place_from_one : (entered : List AdValue) (a : AdValue) → 1 ≤ place entered a
unfolding place
place_from_one entered a = omega arith

price_from : (reserve floor : ℕ) (entered : List AdValue) (a : AdValue) → reserve ≤ price reserve floor entered a
unfolding price
price_from reserve floor entered a = first_passing-ge (is_enough reserve floor entered a) reserve (a.bid - reserve)

-- what holds of the campaign of each line holds of that of each ad that competes, and the ad is one of the lines
campaign_of_ad : (S : State) (query : List (List ℕ)) (T : Tables) (ls : List Line) (a : AdValue) → Each (λ (l : Line). has_campaign T l.account l.campaign ≡ true) ls → Has (map ad_of (filter (is_eligible S query) ls)) a
    → has_campaign T a.account a.campaign ≡ true
campaign_of_ad S query T [] a each h = absurd (elim h [ ])
campaign_of_ad S query T (l ∷ ls) a each h =
    elim (cases_Bool (is_eligible S query l)) [
      | inl t ↦
          elim (subst (λ ms. Has (map ad_of ms) a) (cond-true (is_eligible S query l) (l ∷ filter (is_eligible S query) ls) _ t) h) [
            | inl is ↦ subst (λ (b : AdValue). has_campaign T b.account b.campaign ≡ true) is each.0
            | inr k ↦ campaign_of_ad S query T ls a each.1 k
          ]
      | inr t ↦ campaign_of_ad S query T ls a each.1 (subst (λ ms. Has (map ad_of ms) a) (cond-false (is_eligible S query l) _ (filter (is_eligible S query) ls) t) h)
    ]

-- whether a line is that of an ad
abbrev is_line_of : AdValue → Line → Bool
is_line_of a l = l.account == a.account && (l.number == a.line && l.campaign == a.campaign)

own_line : (l : Line) → is_line_of (ad_of l) l ≡ true
own_line l = and_from (l.account == l.account) (l.number == l.number && l.campaign == l.campaign) (eq-eqb l.account l.account refl) (and_from (l.number == l.number) (l.campaign == l.campaign) (eq-eqb l.number l.number refl) (eq-eqb l.campaign l.campaign refl))

line_of_ad : (S : State) (query : List (List ℕ)) (ls : List Line) (a : AdValue) → Has (map ad_of (filter (is_eligible S query) ls)) a → list_any (is_line_of a) ls ≡ true
line_of_ad S query [] a h = absurd (elim h [ ])
line_of_ad S query (l ∷ ls) a h =
    elim (cases_Bool (is_eligible S query l)) [
      | inl t ↦
          elim (subst (λ ms. Has (map ad_of ms) a) (cond-true (is_eligible S query l) (l ∷ filter (is_eligible S query) ls) _ t) h) [
            | inl is ↦ ap (λ b. b || list_any (is_line_of a) ls) (subst (λ (b : AdValue). is_line_of b l ≡ true) is (own_line l))
            | inr k ↦ or_right (is_line_of a l) (list_any (is_line_of a) ls) (line_of_ad S query ls a k)
          ]
      | inr t ↦ or_right (is_line_of a l) (list_any (is_line_of a) ls) (line_of_ad S query ls a (subst (λ ms. Has (map ad_of ms) a) (cond-false (is_eligible S query l) _ (filter (is_eligible S query) ls) t) h))
    ]

-- an ad whose placement is proper
record IsPlaceable (S : State) (T : Tables) (entered : List AdValue) (a : AdValue) : Type 0 where
  place : (1 ≤ place entered a) × (place entered a ≤ PLACES_MAX)
  bid : (BID_MIN ≤ a.bid) × (a.bid ≤ BID_MAX)
  price : (1 ≤ price S.settings.reserve S.settings.floor entered a) × (price S.settings.reserve S.settings.floor entered a ≤ a.bid)
  campaign : has_campaign T a.account a.campaign ≡ true
  line : list_any (is_line_of a) T.lines ≡ true

within_from : (low high n : ℕ) → low ≤ n → n ≤ high → is_within low high n ≡ true
within_from low high n h k = grind (arith, nat_tests, h, k)

good_placed : (S : State) (T : Tables) (entered : List AdValue) (number : ℕ) (a : AdValue) → S.moment ≤ MOMENT_MAX → IsPlaceable S T entered a → is_good_placement (placed S entered number a) ≡ true
good_placed S T entered number a past h =
    let cost = price S.settings.reserve S.settings.floor entered a in
    let shown : (nat_le S.moment MOMENT_MAX && true) ≡ true = grind (arith, nat_tests, past) in
    and_from (is_within 1 PLACES_MAX (place entered a)) _ (within_from 1 PLACES_MAX (place entered a) h.place.0 h.place.1)
    (and_from (is_within BID_MIN BID_MAX a.bid) _ (within_from BID_MIN BID_MAX a.bid h.bid.0 h.bid.1)
    (and_from (is_within 1 a.bid cost) _ (within_from 1 a.bid cost h.price.0 h.price.1) shown))

still_fits : (S R : State) (p : Placement) (entered : List AdValue) (a : AdValue) → IsPlaceable S R.tables entered a → IsPlaceable S (changed R (PutPlacement p)).tables entered a
unfolding put
still_fits S R p entered a h = record { place = h.place; bid = h.bid; price = h.price; campaign = h.campaign; line = h.line }

proper_placed : (S R : State) (entered : List AdValue) (number : ℕ) (ads : List AdValue) → S.moment ≤ MOMENT_MAX → R.moment ≡ S.moment → ((a : AdValue) → Has ads a → IsPlaceable S R.tables entered a)
    → AreProper R (map PutPlacement (all_placed S entered number ads))
unfolding put
proper_placed S R entered number [] past moment fits = tt
proper_placed S R entered number (a ∷ ads) past moment fits =
    let p : Placement = placed S entered number a in
    let fit = fits a (inl refl) in (
      record {
        good = good_placed S R.tables entered number a past fit;
        named = and_from (has_campaign R.tables a.account a.campaign) _ fit.campaign fit.line;
        now = sym moment;
        deadline = refl;
      },
      proper_placed S (changed R (PutPlacement p)) entered (number + 1) ads past moment (λ b k. still_fits S R p entered b (fits b (inr k))),
    )

places_up_to : (S : State) (places : Option ℕ) → AreInRange S.settings → is_bad_places places ≡ false → places_of S places ≤ PLACES_MAX
places_up_to S None settings good = settings.places_in.1
places_up_to S (Some places) settings good =
    let within = from_not (is_within 1 PLACES_MAX places) good in
    grind (arith, nat_tests, within)

pub proper_search : (S : State) (text : List ℕ) (places : Option ℕ) → AreInRange S.settings → IsAlmostKept S → is_bad_places places ≡ false → AreProper S (map PutPlacement (placements_for S text places))
proper_search S text places settings h good =
    let query = words_of text in
    let entered = entrants_for S query in
    let in_range = lines_in_range S (stable_of S h) in
    let apart = apart_entrants S query in_range in
    let reserve = settings.reserve_in.0 in
    proper_placed S S entered (length S.tables.placements + 1) (page_of S text places) h.moment refl
    (λ a k.
    let among = page_among entered (places_of S places) a apart k in
    let fit = fit_entrant S query a in_range among in
    let competes = (entrant_of (eligible_ads S query) a among).0 in
    record {
      place = (place_from_one entered a, omega (arith, place_up_to entered (places_of S places) a k, places_up_to S places settings good));
      bid = fit.in_range.0;
      price = (omega (arith, reserve, price_from S.settings.reserve S.settings.floor entered a), price-le-bid S.settings.reserve S.settings.floor entered a fit.reserve);
      campaign = campaign_of_ad S query S.tables S.tables.lines a (Each-from_All (λ (l : Line). has_campaign S.tables l.account l.campaign ≡ true) S.tables.lines h.named.lines) competes;
      line = line_of_ad S query S.tables.lines a competes;
    })
