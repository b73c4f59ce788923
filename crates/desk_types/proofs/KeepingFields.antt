-- Fields stay good, rows stay within their limits, and patterns stay different, change by change.
use Rattle.std.proofs.Common.{◌≡◌, ℕ, Bool, true, false, ◌==◌, ◌&&◌, ◌⊎◌, inl, inr, List, [], ◌∷◌, Option, None, Some, refl, subst, sym, ◌∙◌, ◌≤◌}
use Rattle.std.specs.Prelude.{nat_le}
use Rattle.std.specs.List.{AllPairs}
use Rattle.std.proofs.lemmas.Bool.{and_parts, and_from, eqb-true, eq-eqb, both_ways, false_from_ne_true}
use Rattle.match_types.specs.Tests.{is_same_pattern}
use Rattle.match_types.proofs.Deciding.{is_same_pattern-decides}
use Rattle.auction_types.specs.declared.limits.TheConstants.{BID_MIN, BID_MAX, PLACES_MAX}
use Rattle.desk_types.specs.declared.limits.TheConstants.{LINES_MAX, MOMENT_MAX, NEGATIVES_MAX}
use Rattle.desk_types.specs.declared.rows.Account.{Account}
use Rattle.desk_types.specs.declared.rows.Batch.{Batch}
use Rattle.desk_types.specs.declared.rows.BudgetSet.{BudgetSet}
use Rattle.desk_types.specs.declared.rows.Fate.{Fate}
use Rattle.desk_types.specs.declared.rows.Line.{Line}
use Rattle.desk_types.specs.declared.rows.Negative.{Negative}
use Rattle.desk_types.specs.declared.rows.Placement.{Placement}
use Rattle.desk_types.specs.declared.tables.Change.{Change}
use Rattle.desk_types.specs.declared.tables.Change.TheVariants.{PutAccount, PutBudget, PutLine, PutNegative, PutPlacement, PutBatch, PutFate}
use Rattle.desk_types.specs.declared.tables.Tables.{Tables}
use Rattle.desk_types.specs.Fields.{is_key}
use Rattle.desk_types.specs.Judged.{is_line_like, is_within}
use Rattle.desk_types.specs.Keys.{account_key, batch_key, budget_key, is_same_key, line_key, negative_key, placement_key}
use Rattle.desk_types.specs.Rules.{is_good_batch, is_good_budget, is_good_fate, is_good_line, is_good_placement, is_negative_like}
use Rattle.desk_types.specs.State.{State}
use Rattle.desk_types.specs.Tables.{lines_of, negatives_of, placement_of, put, put_fate, put_row}
use Rattle.desk_types.proofs.EachRow.{Each-mono}
use Rattle.desk_types.proofs.KeepingProper.{IsProper, IsProperLine, IsProperNegative}
use Rattle.desk_types.proofs.KeepingRows.{AllPairs-from, Pairs-from, Pairs-put, StandsFor}
use Rattle.desk_types.proofs.Kept.{FitLimits, HaveGoodFields, PatternsDiffer}
use Rattle.desk_types.proofs.Lawful.{All-put, found_all}
use Rattle.desk_types.proofs.Numbering.{groups-within}
use Rattle.desk_types.proofs.Puts.{same_key}
use Rattle.desk_types.proofs.Stable.{AreWithinLimits}

-- a placement with another fate has good fields where that fate is good
refated : (p : Placement) (fate : Fate) → is_good_placement p ≡ true → is_good_fate fate ≡ true → is_good_placement (record p { fate = fate }) ≡ true
refated p fate h good =
    let after_place = and_parts (is_within 1 PLACES_MAX p.place) (is_within BID_MIN BID_MAX p.bid && (is_within 1 p.bid p.price && (nat_le p.shown MOMENT_MAX && is_good_fate p.fate))) h in
    let after_bid = and_parts (is_within BID_MIN BID_MAX p.bid) (is_within 1 p.bid p.price && (nat_le p.shown MOMENT_MAX && is_good_fate p.fate)) after_place.1 in
    let after_price = and_parts (is_within 1 p.bid p.price) (nat_le p.shown MOMENT_MAX && is_good_fate p.fate) after_bid.1 in
    let shown = and_parts (nat_le p.shown MOMENT_MAX) (is_good_fate p.fate) after_price.1 in
    and_from (is_within 1 PLACES_MAX p.place) _ after_place.0 (and_from (is_within BID_MIN BID_MAX p.bid) _ after_bid.0 (and_from (is_within 1 p.bid p.price) _ after_price.0 (and_from (nat_le p.shown MOMENT_MAX) (is_good_fate fate) shown.0 good)))

-- the fate that a placement gets has good moments
abbrev pub IsGoodFate : Fate → Option Placement → Type 0
IsGoodFate fate None = Unit {0}
IsGoodFate fate (Some p) = is_good_fate fate ≡ true

abbrev pub HasGoodFate : State → Change → Type 0
HasGoodFate S (PutFate number fate) = IsGoodFate fate (placement_of S.tables number)
HasGoodFate S change = Unit {0}

fields-fate : (T : Tables) (number : ℕ) (fate : Fate) (found : Option Placement) → placement_of T number ≡ found → IsGoodFate fate found → HaveGoodFields T → HaveGoodFields (put_fate T fate found)
fields-fate T number fate None is good h = h
fields-fate T number fate (Some p) is good h =
    let known = found_all (λ (x : Placement). is_good_placement x ≡ true) (λ (x : Placement). x.number == number) T.placements p h.placements is in
    record {
      accounts = h.accounts;
      budgets = h.budgets;
      lines = h.lines;
      placements = All-put (λ (x : Placement). is_good_placement x ≡ true) placement_key (record p { fate = fate }) T.placements (refated p fate known.0 good) h.placements;
      batches = h.batches;
    }

pub fields-put : (S : State) (change : Change) → HaveGoodFields S.tables → IsProper S change → HasGoodFate S change → HaveGoodFields (put S.tables change)
unfolding put
fields-put S (PutAccount a) h proper fate = record { accounts = All-put (λ (x : Account). is_key x.key ≡ true) account_key a S.tables.accounts proper h.accounts; budgets = h.budgets; lines = h.lines; placements = h.placements; batches = h.batches }
fields-put S (PutBudget b) h proper fate = record { accounts = h.accounts; budgets = All-put (λ (x : BudgetSet). is_good_budget x ≡ true) budget_key b S.tables.budgets proper.good h.budgets; lines = h.lines; placements = h.placements; batches = h.batches }
fields-put S (PutLine l) h proper fate = record { accounts = h.accounts; budgets = h.budgets; lines = All-put (λ (x : Line). is_good_line x ≡ true) line_key l S.tables.lines proper.good h.lines; placements = h.placements; batches = h.batches }
fields-put S (PutPlacement p) h proper fate = record { accounts = h.accounts; budgets = h.budgets; lines = h.lines; placements = All-put (λ (x : Placement). is_good_placement x ≡ true) placement_key p S.tables.placements proper.good h.placements; batches = h.batches }
fields-put S (PutBatch b) h proper fate = record { accounts = h.accounts; budgets = h.budgets; lines = h.lines; placements = h.placements; batches = All-put (λ (x : Batch). is_good_batch x ≡ true) batch_key b S.tables.batches proper.good h.batches }
fields-put S (PutFate number fate) h proper good = fields-fate S.tables number fate (placement_of S.tables number) refl good h
fields-put S change h proper fate = record { accounts = h.accounts; budgets = h.budgets; lines = h.lines; placements = h.placements; batches = h.batches }

-- lines and negatives stay within their limits
room_of : (there : Type 0) (new : Type 0) (room : Type 0) → (new → room) → there ⊎ new → there ⊎ room
room_of there new room f (inl h) = inl h
room_of there new room f (inr h) = inr (f h)

lines-fate : (T : Tables) (fate : Fate) (found : Option Placement) (account : ℕ) → lines_of (put_fate T fate found) account ≡ lines_of T account
lines-fate T fate None account = refl
lines-fate T fate (Some p) account = refl

negatives-fate : (T : Tables) (fate : Fate) (found : Option Placement) (account : ℕ) → negatives_of (put_fate T fate found) account ≡ negatives_of T account
negatives-fate T fate None account = refl
negatives-fate T fate (Some p) account = refl

lines_fit : (S : State) (change : Change) → FitLimits S.tables → IsProper S change → (account : ℕ) → lines_of (put S.tables change) account ≤ LINES_MAX
unfolding put
lines_fit S (PutLine l) h proper =
    groups-within line_key (λ (x : Line). x.account) (λ x. x.number) l S.tables.lines LINES_MAX (λ x. refl) h.lines (room_of _ _ _ (λ new. new.room) proper.new)
lines_fit S (PutFate number fate) h proper = λ account. subst (λ n. n ≤ LINES_MAX) (sym (lines-fate S.tables fate (placement_of S.tables number) account)) (h.lines account)
lines_fit S change h proper = h.lines

negatives_fit : (S : State) (change : Change) → FitLimits S.tables → IsProper S change → (account : ℕ) → negatives_of (put S.tables change) account ≤ NEGATIVES_MAX
unfolding put
negatives_fit S (PutNegative n) h proper =
    groups-within negative_key (λ (x : Negative). x.account) (λ x. x.number) n S.tables.negatives NEGATIVES_MAX (λ x. refl) h.negatives (room_of _ _ _ (λ new. new.room) proper.new)
negatives_fit S (PutFate number fate) h proper = λ account. subst (λ n. n ≤ NEGATIVES_MAX) (sym (negatives-fate S.tables fate (placement_of S.tables number) account)) (h.negatives account)
negatives_fit S change h proper = h.negatives

pub limits-put : (S : State) (change : Change) → FitLimits S.tables → IsProper S change → AreWithinLimits (put S.tables change) → FitLimits (put S.tables change)
limits-put S change h proper within = record { accounts = within.accounts; campaigns = within.campaigns; lines = lines_fit S change h proper; negatives = negatives_fit S change h proper }

-- patterns are the same both ways round
same_pattern_back : (one other : List ℕ) → is_same_pattern one other ≡ true → is_same_pattern other one ≡ true
same_pattern_back one other h =
    let same = (is_same_pattern-decides one other).0 h in
    (is_same_pattern-decides other one).1 (sym same.0, sym same.1)

abbrev is_like : ℕ → ℕ → List ℕ → ℕ → ℕ → List ℕ → Bool
is_like account campaign pattern a c text = a == account && (c == campaign && is_same_pattern text pattern)

like_back : (account campaign : ℕ) (pattern : List ℕ) (a c : ℕ) (text : List ℕ) → is_like account campaign pattern a c text ≡ false → is_like a c text account campaign pattern ≡ false
like_back account campaign pattern a c text h =
    false_from_ne_true (is_like a c text account campaign pattern) (λ t.
    let first = and_parts (account == a) (campaign == c && is_same_pattern pattern text) t in
    let rest = and_parts (campaign == c) (is_same_pattern pattern text) first.1 in
    both_ways _ h
    (and_from (a == account) _ (eq-eqb a account (sym (eqb-true account a first.0)))
    (and_from (c == campaign) _ (eq-eqb c campaign (sym (eqb-true campaign c rest.0))) (same_pattern_back pattern text rest.1))))

two_parts : (a b x y : ℕ) → a ∷ b ∷ [] ≡ x ∷ y ∷ [] → (a ≡ x) × (b ≡ y)
two_parts a b x y e = (cc, cc)

-- no line is like a later one
abbrev pub LinesApart : Line → Line → Type 0
LinesApart l later = is_line_like later.account later.campaign later.pattern l ≡ false

abbrev pub NegativesApart : Negative → Negative → Type 0
NegativesApart n later = is_negative_like later.account later.campaign later.pattern n ≡ false

line_stands : (l k : Line) → k.account ≡ l.account → (k.campaign ≡ l.campaign) × (k.pattern ≡ l.pattern) → StandsFor LinesApart l k
line_stands l k account is x = (
  λ h. (λ i. is_line_like x.account x.campaign x.pattern (record k { account = sym account i; campaign = sym is.0 i; pattern = sym is.1 i })) ∙ h,
  λ h. (λ i. is_line_like (sym account i) (sym is.0 i) (sym is.1 i) x) ∙ h,
)

negative_stands : (n k : Negative) → k.account ≡ n.account → (k.campaign ≡ n.campaign) × (k.pattern ≡ n.pattern) → StandsFor NegativesApart n k
negative_stands n k account is x = (
  λ h. (λ i. is_negative_like x.account x.campaign x.pattern (record k { account = sym account i; campaign = sym is.0 i; pattern = sym is.1 i })) ∙ h,
  λ h. (λ i. is_negative_like (sym account i) (sym is.0 i) (sym is.1 i) x) ∙ h,
)

apart_lines : (T : Tables) (l : Line) → PatternsDiffer T → IsProperLine T l → AllPairs LinesApart (put_row line_key l T.lines)
apart_lines T l h proper =
    let stands =
    Each-mono (λ (k : Line). is_same_key (line_key k) (line_key l) ≡ true → (k.campaign ≡ l.campaign) × (k.pattern ≡ l.pattern)) (λ (k : Line). is_same_key (line_key k) (line_key l) ≡ true → StandsFor LinesApart l k) T.lines
    (λ k alike same. line_stands l k (two_parts k.account k.number l.account l.number (same_key (line_key k) (line_key l) same)).0 (alike same)) proper.alike in
    AllPairs-from LinesApart (put_row line_key l T.lines)
    (Pairs-put LinesApart line_key l T.lines stands
    (room_of _ _ _ (λ new. Each-mono (λ (k : Line). is_line_like l.account l.campaign l.pattern k ≡ false) (λ (k : Line). LinesApart k l × LinesApart l k) T.lines (λ k apart. (apart, like_back l.account l.campaign l.pattern k.account k.campaign k.pattern apart)) new.apart) proper.new)
    (Pairs-from LinesApart T.lines h.lines))

apart_negatives : (T : Tables) (n : Negative) → PatternsDiffer T → IsProperNegative T n → AllPairs NegativesApart (put_row negative_key n T.negatives)
apart_negatives T n h proper =
    let stands =
    Each-mono (λ (k : Negative). is_same_key (negative_key k) (negative_key n) ≡ true → (k.campaign ≡ n.campaign) × (k.pattern ≡ n.pattern)) (λ (k : Negative). is_same_key (negative_key k) (negative_key n) ≡ true → StandsFor NegativesApart n k) T.negatives
    (λ k alike same. negative_stands n k (two_parts k.account k.number n.account n.number (same_key (negative_key k) (negative_key n) same)).0 (alike same)) proper.alike in
    AllPairs-from NegativesApart (put_row negative_key n T.negatives)
    (Pairs-put NegativesApart negative_key n T.negatives stands
    (room_of _ _ _ (λ new. Each-mono (λ (k : Negative). is_negative_like n.account n.campaign n.pattern k ≡ false) (λ (k : Negative). NegativesApart k n × NegativesApart n k) T.negatives (λ k apart. (apart, like_back n.account n.campaign n.pattern k.account k.campaign k.pattern apart)) new.apart) proper.new)
    (Pairs-from NegativesApart T.negatives h.negatives))

apart-fate : (T : Tables) (fate : Fate) (found : Option Placement) → PatternsDiffer T → PatternsDiffer (put_fate T fate found)
apart-fate T fate None h = h
apart-fate T fate (Some p) h = record { lines = h.lines; negatives = h.negatives }

pub apart-put : (S : State) (change : Change) → PatternsDiffer S.tables → IsProper S change → PatternsDiffer (put S.tables change)
unfolding put
apart-put S (PutLine l) h proper = record { lines = apart_lines S.tables l h proper; negatives = h.negatives }
apart-put S (PutNegative n) h proper = record { lines = h.lines; negatives = apart_negatives S.tables n h proper }
apart-put S (PutFate number fate) h proper = apart-fate S.tables fate (placement_of S.tables number) h
apart-put S change h proper = record { lines = h.lines; negatives = h.negatives }
