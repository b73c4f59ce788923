-- Pages of the best eligible ads, at the least prices that keep their places.
use Rattle.std.proofs.Common.{◌≡◌, ℕ, zero, suc, ◌≤◌, true, not, ◌==◌, ◌&&◌, inl, inr, find, is_some, Some, ap, ◌∙◌, List, [], ◌∷◌, map, filter, take, refl, sym, subst, arith}
use Rattle.std.specs.Prelude.{int_le, pos}
use Rattle.std.specs.List.{All}
use Rattle.std.proofs.lemmas.Bool.{cases_Bool, cond-true, cond-false, and_parts, and_from, both_ways, eq-eqb}
use Rattle.std.proofs.lemmas.Bool.Decides.{nat_tests}
use Rattle.desk_types.specs.declared.rows.Line.{Line}
use Rattle.auction_types.specs.AdValue.{AdValue, IsInRange, score}
use Rattle.desk_types.specs.Day.{day_of}
use Rattle.desk_types.specs.Eligible.{ad_of, can_pay, eligible_ads, entrants_for, has_active_account, has_active_campaign, is_candidate, is_eligible, is_kept_out, is_matched, meets_floor, meets_reserve}
use Rattle.desk_types.specs.Money.{free}
use Rattle.auction_types.specs.Order.{better}
use Rattle.auction_types.specs.Page.{page}
use Rattle.desk_types.specs.State.{State}
use Rattle.auction_types.proofs.Accounts.{AreApart, IsRanking-of, ranking_of, one_of_account}
use Rattle.auction_types.proofs.Entrants.{entrant_of, entrants-apart}
use Rattle.auction_types.proofs.Members.{Has, SameCounts-Has, SameCounts-sym}
use Rattle.auction_types.proofs.OrderLemmas.{better-irreflexive}
use Rattle.auction_types.proofs.Ranking.{IsRanked, page-ranking}
use Rattle.desk_types.specs.Tables.{line_of}
use Rattle.desk_types.proofs.EachRow.{All-from_Each, Each}
use Rattle.desk_types.proofs.InOrder.{Each-from_All}
use Rattle.desk_types.proofs.Stable.{IsStable}

-- what is known of an ad that competes: its bid and quality are in range, it meets reserve and floor, and it can be paid
pub record IsFit (S : State) (a : AdValue) : Type 0 where
  pub in_range : IsInRange a
  pub reserve : S.settings.reserve ≤ a.bid
  pub floor : S.settings.floor ≤ score a
  pub paid : int_le (pos a.bid) (free S a.account a.campaign (day_of S.moment)) ≡ true

fit_line : (S : State) (query : List (List ℕ)) (l : Line) → IsInRange (ad_of l) → is_eligible S query l ≡ true → IsFit S (ad_of l)
unfolding is_candidate
fit_line S query l in_range h =
    let whole = and_parts (is_candidate S query l) (can_pay S l) h in
    let after_account = (and_parts (has_active_account S l) _ whole.0).1 in
    let after_campaign = (and_parts (has_active_campaign S l) _ after_account).1 in
    let after_on = (and_parts l.on _ after_campaign).1 in
    let after_match = (and_parts (is_matched l.pattern query) _ after_on).1 in
    let after_negatives = (and_parts (not (is_kept_out S query l)) _ after_match).1 in
    let at_least = and_parts (meets_reserve S l) (meets_floor S l) after_negatives in
    record {
      in_range = in_range;
      reserve = grind (arith, nat_tests, at_least.0);
      floor = grind (arith, nat_tests, at_least.1);
      paid = whole.1;
    }

fit_among : (S : State) (query : List (List ℕ)) (ls : List Line) (a : AdValue) → Each (λ l. IsInRange (ad_of l)) ls → Has (map ad_of (filter (is_eligible S query) ls)) a → IsFit S a
fit_among S query [] a in_range h = absurd (elim h [ ])
fit_among S query (l ∷ ls) a in_range h =
    elim (cases_Bool (is_eligible S query l)) [
      | inl t ↦
          elim (subst (λ ms. Has (map ad_of ms) a) (cond-true (is_eligible S query l) (l ∷ filter (is_eligible S query) ls) _ t) h) [
            | inl is ↦ subst (IsFit S) is (fit_line S query l in_range.0 t)
            | inr k ↦ fit_among S query ls a in_range.1 k
          ]
      | inr t ↦ fit_among S query ls a in_range.1 (subst (λ ms. Has (map ad_of ms) a) (cond-false (is_eligible S query l) _ (filter (is_eligible S query) ls) t) h)
    ]

-- the lines of a state have bids and qualities in range
abbrev pub LinesInRange : State → Type 0
LinesInRange S = Each (λ l. IsInRange (ad_of l)) S.tables.lines

pub fit_entrant : (S : State) (query : List (List ℕ)) (a : AdValue) → LinesInRange S → Has (entrants_for S query) a → IsFit S a
fit_entrant S query a in_range h = fit_among S query S.tables.lines a in_range (entrant_of (eligible_ads S query) a h).0

pub apart_entrants : (S : State) (query : List (List ℕ)) → LinesInRange S → AreApart (entrants_for S query)
apart_entrants S query in_range = entrants-apart (eligible_ads S query) (λ a h. (fit_among S query S.tables.lines a in_range h).in_range)

-- a ranking of entrants of different accounts has different accounts, and so has its front
apart_ranked : (entered ranked : List AdValue) → AreApart entered → ((a : AdValue) → Has ranked a → Has entered a) → IsRanked ranked → AreApart ranked
apart_ranked entered [] apart among order = tt
apart_ranked entered (a ∷ ranked) apart among order = (
  λ b h same.
      let is : a ≡ b = one_of_account entered a b apart (among a (inl refl)) (among b (inr h)) same in
      both_ways (better a a) (better-irreflexive a) (subst (λ c. better a c ≡ true) (sym is) (order.0 b h)),
  apart_ranked entered ranked apart (λ b h. among b (inr h)) order.1,
)

Has-take : (n : ℕ) (ads : List AdValue) (a : AdValue) → Has (take n ads) a → Has ads a
Has-take zero ads a h = absurd (elim h [ ])
Has-take (suc n) [] a h = absurd (elim h [ ])
Has-take (suc n) (b ∷ ads) a (inl is) = inl is
Has-take (suc n) (b ∷ ads) a (inr h) = inr (Has-take n ads a h)

apart_take : (n : ℕ) (ads : List AdValue) → AreApart ads → AreApart (take n ads)
apart_take zero ads apart = tt
apart_take (suc n) [] apart = tt
apart_take (suc n) (a ∷ ads) apart = (λ b h. apart.0 b (Has-take n ads b h), apart_take n ads apart.1)

-- the page of entrants of different accounts
pub apart_page : (entered : List AdValue) (n : ℕ) → AreApart entered → AreApart (page entered n)
apart_page entered n apart =
    let ranking = IsRanking-of entered apart in
    subst AreApart (sym (page-ranking entered (ranking_of entered) n ranking))
    (apart_take n (ranking_of entered) (apart_ranked entered (ranking_of entered) apart (λ a h. SameCounts-Has (ranking_of entered) entered a (SameCounts-sym _ _ ranking.same) h) ranking.in_order))

pub page_among : (entered : List AdValue) (n : ℕ) (a : AdValue) → AreApart entered → Has (page entered n) a → Has entered a
page_among entered n a apart h =
    let ranking = IsRanking-of entered apart in
    SameCounts-Has (ranking_of entered) entered a (SameCounts-sym _ _ ranking.same)
    (Has-take n (ranking_of entered) a (subst (λ ads. Has ads a) (page-ranking entered (ranking_of entered) n ranking) h))

-- an ad that competes is a line that is there
pub line_there : (S : State) (query : List (List ℕ)) (ls : List Line) (a : AdValue) → Has (map ad_of (filter (is_eligible S query) ls)) a → is_some (find (λ (l : Line). l.account == a.account && l.number == a.line) ls) ≡ true
line_there S query [] a h = absurd (elim h [ ])
line_there S query (l ∷ ls) a h =
    elim (cases_Bool (l.account == a.account && l.number == a.line)) [
      | inl t ↦ ap is_some (cond-true _ (Some l) (find (λ (m : Line). m.account == a.account && m.number == a.line) ls) t)
      | inr t ↦
          ap is_some (cond-false _ (Some l) (find (λ (m : Line). m.account == a.account && m.number == a.line) ls) t)
          ∙ elim (cases_Bool (is_eligible S query l)) [
            | inl u ↦
                elim (subst (λ ms. Has (map ad_of ms) a) (cond-true (is_eligible S query l) (l ∷ filter (is_eligible S query) ls) _ u) h) [
                  | inl is ↦ absurd (both_ways _ t (and_from (l.account == a.account) (l.number == a.line) (eq-eqb l.account a.account (ap (λ (b : AdValue). b.account) is)) (eq-eqb l.number a.line (ap (λ (b : AdValue). b.line) is))))
                  | inr k ↦ line_there S query ls a k
                ]
            | inr u ↦ line_there S query ls a (subst (λ ms. Has (map ad_of ms) a) (cond-false (is_eligible S query l) _ (filter (is_eligible S query) ls) u) h)
          ]
    ]

pub entrant_line : (S : State) (query : List (List ℕ)) (a : AdValue) → Has (entrants_for S query) a → is_some (line_of S.tables a.account a.line) ≡ true
entrant_line S query a h = line_there S query S.tables.lines a (entrant_of (eligible_ads S query) a h).0

pub lines_in_range : (S : State) → IsStable S → LinesInRange S
lines_in_range S h = Each-from_All (λ (l : Line). IsInRange (ad_of l)) S.tables.lines h.in_range

each_eligible : (S : State) (query : List (List ℕ)) (ls : List Line) → Each (λ l. IsInRange (ad_of l)) ls → Each IsInRange (map ad_of (filter (is_eligible S query) ls))
each_eligible S query [] h = tt
each_eligible S query (l ∷ ls) h =
    elim (cases_Bool (is_eligible S query l)) [
      | inl t ↦ subst (λ ms. Each IsInRange (map ad_of ms)) (sym (cond-true (is_eligible S query l) (l ∷ filter (is_eligible S query) ls) (filter (is_eligible S query) ls) t)) (h.0, each_eligible S query ls h.1)
      | inr t ↦ subst (λ ms. Each IsInRange (map ad_of ms)) (sym (cond-false (is_eligible S query l) (l ∷ filter (is_eligible S query) ls) (filter (is_eligible S query) ls) t)) (each_eligible S query ls h.1)
    ]

pub eligible_in_range : (S : State) (query : List (List ℕ)) → LinesInRange S → All IsInRange (eligible_ads S query)
eligible_in_range S query h = All-from_Each IsInRange (eligible_ads S query) (each_eligible S query S.tables.lines h)
