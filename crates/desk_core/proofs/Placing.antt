-- One more placement of a page.
use Rattle.std.proofs.Common.{◌≡◌, ℕ, ◌+◌, ◌<◌, List, [], ◌∷◌, ◌++◌, length, map, take, get_or, sym, ap, ◌∙◌, arith}
use Rattle.std.proofs.lemmas.List.{take_more, map-append, length-map, length-take-le}
use Rattle.desk_types.specs.declared.rows.Placement.{Placement}
use Rattle.auction_types.specs.AdValue.{AdValue}
use Rattle.desk_types.specs.State.{State}
use Rattle.desk_types.specs.Changes.{all_placed, placed}
use Rattle.rank_core.specs.declared.page.Ranked.{Ranked}

all_placed-push : (S : State) (entered : List AdValue) (n : ℕ) (ads : List AdValue) (a : AdValue) → all_placed S entered n (ads ++ a ∷ []) ≡ all_placed S entered n ads ++ placed S entered (n + length ads) a ∷ []
all_placed-push S entered n [] a = let same : n ≡ n + 0 = omega arith in ap (λ m. placed S entered m a ∷ []) same
all_placed-push S entered n (b ∷ ads) a =
    let same : n + 1 + length ads ≡ n + length (b ∷ ads) = omega arith in
    ap (λ ps. placed S entered n b ∷ ps) (all_placed-push S entered (n + 1) ads a ∙ ap (λ m. all_placed S entered (n + 1) ads ++ placed S entered m a ∷ []) same)

abbrev pub ads_of : List Ranked → List AdValue
ads_of page = map (λ r. r.ad) page

pub placed_more : (S : State) (entered : List AdValue) (n k : ℕ) (page : List Ranked) (r : Ranked) (p : Placement) (ps : List Placement) → k < length page → r ≡ get_or page k r
    → ps ≡ all_placed S entered n (ads_of (take k page)) → p ≡ placed S entered (n + k) r.ad
    → ps ++ p ∷ [] ≡ all_placed S entered n (ads_of (take (k + 1) page))
placed_more S entered n k page r p ps low at before is =
    let ads = ads_of (take k page) in
    let len : length ads ≡ k = length-map (take k page) (λ r. r.ad) ∙ length-take-le k page (omega arith) in
    let more : ads_of (take (k + 1) page) ≡ ads ++ r.ad ∷ []
    = ap ads_of (take_more page k r low ∙ ap (λ q. take k page ++ q ∷ []) (sym at)) ∙ map-append (λ r. r.ad) (take k page) (r ∷ []) in
    (λ i. before i ++ is i ∷ [])
    ∙ ap (λ m. all_placed S entered n ads ++ placed S entered (n + m) r.ad ∷ []) (sym len)
    ∙ sym (all_placed-push S entered n ads r.ad)
    ∙ ap (all_placed S entered n) (sym more)
