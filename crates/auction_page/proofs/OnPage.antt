-- The entrants on the page, one after another.
use Rattle.std.proofs.Common.{Bor, ◌≡◌, ℕ, zero, suc, ◌+◌, ◌≤◌, ◌<◌, List, [], ◌∷◌, ◌++◌, length, take, drop, get_or, refl, sym, ◌∙◌, ap, subst, append-nil, append_assoc, arith}
use Rattle.std.specs.Prelude.{Option, Some, None, IfSome, IsTrue, slice_get, flat_map, codes, Contains, All}
use Rattle.std.specs.Option.{option_map, option_copied}
use Rattle.std.proofs.lemmas.Option.{slice_get-map, slice_get-get_or, get_or_from_slice_get}
use Rattle.std.proofs.lemmas.Grind.{flat_map-append}
use Rattle.std.proofs.lemmas.List.{take_more, length-map, take_all, take-append-drop}
use Rattle.std.proofs.lemmas.List.Elements.{All-contains}
use Rattle.auction_types.specs.AdValue.{AdValue}
use Rattle.auction_types.specs.Laws.{IsNextBelow}
use Rattle.auction_types.specs.Order.{better}
use Rattle.auction_types.specs.Page.{AreOfDifferentAccounts, entrants, page, place, next_below}
use Rattle.auction_types.specs.Price.{price}
use Rattle.auction_types.proofs.Members.{Contains-from_Has}
use Rattle.auction_types.proofs.Pages.{Has-slice_get, page-first_places, next_below-law}
use Rattle.rank_core.specs.Ranked.{IsRankedAmong, ranked}
use Rattle.rank_core.specs.declared.page.Ranked.{Ranked}
use Rattle.auction_page.specs.HeadingValue.{HeadingValue}
use Rattle.auction_page.specs.Reading.{AuctionValue}
use Rattle.auction_page.specs.MeetsHeading.{MeetsHeading}
use Rattle.auction_page.specs.PageText.{entrant_line, entrant_text, auction_page_text}

-- what is known of the entrant that is the k-th on the page, counted from 0
pub record IsOnPage (entered : List AdValue) (n k : ℕ) (r : Ranked) : Type 0 where
  pub there : slice_get (page entered n) k ≡ Some r.ad
  pub entrant : Contains entered r.ad
  pub next : next_below entered r.ad ≡ r.next
  pub ahead : IfSome r.next (λ below. IsTrue (better r.ad below))
  pub place : place entered r.ad ≡ k + 1

below-ahead : (entered : List AdValue) (a : AdValue) (o : Option AdValue) → IfSome o (IsNextBelow entered a) → IfSome o (λ below. IsTrue (better a below))
below-ahead entered a None h = tt
below-ahead entered a (Some b) h = h.below

ranked-place : (entered : List AdValue) (n k : ℕ) (r : Ranked) (a : Option AdValue) → AreOfDifferentAccounts entered →
    slice_get (page entered n) k ≡ a → option_map (λ (x : AdValue). let y : Ranked = record { ad = x; next = next_below entered x } in y) a ≡ Some r → IsOnPage entered n k r
ranked-place entered n k r None apart there is = cc
ranked-place entered n k r (Some a) apart there is =
    let first = page-first_places entered n apart in
    let same : r.ad ≡ a = ap (λ (x : Ranked). x.ad) (let e : r ≡ record { ad = a; next = next_below entered a } = cc in e) in
    let next : r.next ≡ next_below entered a = ap (λ (x : Ranked). x.next) (let e : r ≡ record { ad = a; next = next_below entered a } = cc in e) in
    let contains : Contains entered a = first.among_entrants a (Contains-from_Has (page entered n) a (Has-slice_get (page entered n) k a there)) in
    record {
      there = there ∙ ap Some (sym same);
      entrant = subst (λ (x : AdValue). Contains entered x) (sym same) contains;
      next = ap (next_below entered) same ∙ sym next;
      ahead = subst (λ (o : Option AdValue). IfSome o (λ below. IsTrue (better r.ad below))) (sym next)
          (subst (λ (x : AdValue). IfSome (next_below entered a) (λ below. IsTrue (better x below))) (sym same)
          (below-ahead entered a (next_below entered a) (next_below-law entered a apart contains)));
      place = ap (place entered) same ∙ first.places k a there;
    }

pub ranked-at : (entered : List AdValue) (n k : ℕ) (r : Ranked) → AreOfDifferentAccounts entered → slice_get (ranked entered n) k ≡ Some r → IsOnPage entered n k r
unfolding ranked
ranked-at entered n k r apart there =
    ranked-place entered n k r (slice_get (page entered n) k) apart refl (sym (slice_get-map (λ (x : AdValue). let y : Ranked = record { ad = x; next = next_below entered x } in y) (page entered n) k) ∙ there)

pub length-ranked : (entered : List AdValue) (n : ℕ) → length (ranked entered n) ≡ length (page entered n)
unfolding ranked
length-ranked entered n = length-map (page entered n) (λ (x : AdValue). let y : Ranked = record { ad = x; next = next_below entered x } in y)

-- an entrant is one of the ads, which meet the heading
pub item-meets : (heading : HeadingValue) (ads : List AdValue) (items : List Ranked) (k : ℕ) (r : Ranked) → All (MeetsHeading heading) ads → All (IsRankedAmong ads) items →
    k < length items → r ≡ get_or items k r → MeetsHeading heading r.ad
item-meets heading ads items k r meet among in_list is =
    let ranked_among : IsRankedAmong ads r = subst (IsRankedAmong ads) (sym is) (among k r in_list) in
    All-contains (MeetsHeading heading) ads r.ad meet ranked_among.among_ads

-- the lines of the first k entrants on the page
unfoldable pub written : AuctionValue → ℕ → List ℕ
written auction k = flat_map (entrant_text auction) (take k (page (entrants auction.ads) auction.heading.places))

pub written-zero : (auction : AuctionValue) → written auction 0 ≡ []
unfolding written
written-zero auction = refl

pub written-all : (auction : AuctionValue) (k : ℕ) → length (page (entrants auction.ads) auction.heading.places) ≤ k → written auction k ++ codes "end\n" ≡ auction_page_text auction
unfolding written auction_page_text
written-all auction k all = ap (λ ads. flat_map (entrant_text auction) ads ++ codes "end\n") (take_all k (page (entrants auction.ads) auction.heading.places) all)

in-page : (xs : List AdValue) (k : ℕ) (a : AdValue) → slice_get xs k ≡ Some a → k < length xs
in-page [] k a there = cc
in-page (x ∷ xs) zero a there = omega arith
in-page (x ∷ xs) (suc k) a there = let more : k < length xs = in-page xs k a there in omega arith

get-at : (xs : List AdValue) (k : ℕ) (a d : AdValue) → slice_get xs k ≡ Some a → get_or xs k d ≡ a
get-at xs k a d there = get_or_from_slice_get xs k a d there

pub written-more : (auction : AuctionValue) (k cents : ℕ) (r : Ranked) → IsOnPage (entrants auction.ads) auction.heading.places k r →
    cents ≡ price auction.heading.reserve auction.heading.floor (entrants auction.ads) r.ad →
    written auction k ++ entrant_line (k + 1) r.ad cents ≡ written auction (k + 1)
unfolding written entrant_text
written-more auction k cents r on_page is =
    let entered : List AdValue = entrants auction.ads in
    let ads : List AdValue = page entered auction.heading.places in
    let more : take (k + 1) ads ≡ take k ads ++ r.ad ∷ [] = take_more ads k r.ad (in-page ads k r.ad on_page.there) ∙ ap (λ a. take k ads ++ a ∷ []) (get-at ads k r.ad r.ad on_page.there) in
    sym (ap (flat_map (entrant_text auction)) more ∙ (flat_map-append (entrant_text auction) (take k ads) (r.ad ∷ [])
    ∙ ap (λ rest. flat_map (entrant_text auction) (take k ads) ++ rest) (append-nil (entrant_text auction r.ad) ∙ rw (on_page.place, ← is) refl)))

-- the item that a loop reads is on the page
pub item-on_page : (entered : List AdValue) (n k : ℕ) (items : List Ranked) (r : Ranked) → items ≡ ranked entered n → AreOfDifferentAccounts entered → k < length items → r ≡ get_or items k r →
    IsOnPage entered n k r
item-on_page entered n k items r all apart in_list is =
    let there : slice_get items k ≡ Some r = slice_get-get_or items k r in_list ∙ ap Some (sym is) in
    ranked-at entered n k r apart (rw all at there)

-- what holds of a copy holds behind the reference
pub copied : (P : AdValue → Type 0) (o : Option (Bor AdValue)) (x : Option AdValue) → option_copied o ≡ x → IfSome x P → IfSome o (λ b. P b.now)
copied P None x same h = tt
copied P (Some b) None same h = cc
copied P (Some b) (Some a) same h = let e : a ≡ b.now = cc in subst P e h

-- the line of the next entrant, at the price that is found for it
pub written-next : (auction : AuctionValue) (items : List Ranked) (k cents reserve floor : ℕ) (r : Ranked) (below : Option AdValue) → items ≡ ranked (entrants auction.ads) auction.heading.places →
    AreOfDifferentAccounts (entrants auction.ads) → k < length items → r ≡ get_or items k r → reserve ≡ auction.heading.reserve → floor ≡ auction.heading.floor → below ≡ r.next →
    ((entered : List AdValue) → AreOfDifferentAccounts entered → Contains entered r.ad → next_below entered r.ad ≡ below → cents ≡ price reserve floor entered r.ad) →
    written auction k ++ entrant_line (k + 1) r.ad cents ≡ written auction (k + 1)
written-next auction items k cents reserve floor r below all apart in_list is same_reserve same_floor same_next found =
    let on_page = item-on_page (entrants auction.ads) auction.heading.places k items r all apart in_list is in
    written-more auction k cents r on_page (rw (same_reserve, same_floor) at (found (entrants auction.ads) apart on_page.entrant (on_page.next ∙ sym same_next)))

-- all entrants on the page are written where the items are at their end, and a beginning of the page before that
pub written-end : (auction : AuctionValue) (k : ℕ) (items : List Ranked) → items ≡ ranked (entrants auction.ads) auction.heading.places → length items ≤ k →
    written auction k ++ codes "end\n" ≡ auction_page_text auction
written-end auction k items all ends =
    let long : length items ≡ length (page (entrants auction.ads) auction.heading.places) = ap length all ∙ length-ranked (entrants auction.ads) auction.heading.places in
    written-all auction k (omega arith)

pub written-first : (auction : AuctionValue) (k : ℕ) → (rest : List ℕ) × (written auction k ++ rest ≡ auction_page_text auction)
unfolding written auction_page_text
written-first auction k =
    let ads : List AdValue = page (entrants auction.ads) auction.heading.places in
    let text : AdValue → List ℕ = entrant_text auction in (
      flat_map text (drop k ads) ++ codes "end\n",
      sym (append_assoc (flat_map text (take k ads)) (flat_map text (drop k ads)) (codes "end\n"))
          ∙ ap (λ bytes. bytes ++ codes "end\n") (sym (flat_map-append text (take k ads) (drop k ads)) ∙ ap (flat_map text) (take-append-drop k ads)),
    )
