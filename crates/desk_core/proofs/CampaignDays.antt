-- The counts and sums over the account's placements of a day are those over all placements.
use Rattle.std.proofs.Common.{◌≡◌, ℕ, ◌+◌, ◌-◌, ◌≤◌, Bool, true, false, ◌==◌, ◌&&◌, cond, List, [], ◌∷◌, filter, reverse, refl, sym, ap, subst, ◌∙◌, arith}
use Rattle.std.specs.List.{sum_by}
use Rattle.std.proofs.lemmas.List.{reverse-append}
use Rattle.std.proofs.lemmas.List.Sums.{sum_by-append, sum_by-cons}
use Rattle.desk_types.specs.declared.limits.TheConstants.{BUDGET_MAX}
use Rattle.desk_types.specs.declared.reply.CampaignDay.{CampaignDay}
use Rattle.desk_types.specs.declared.rows.Campaign.{Campaign}
use Rattle.desk_types.specs.declared.rows.Placement.{Placement}
use Rattle.desk_types.specs.Day.{day_of}
use Rattle.desk_types.specs.Money.{budget, escrowed, is_escrowed, is_shown_on, is_spent, spent}
use Rattle.desk_types.specs.Reports.{campaign_day, clicks, credited, is_credited, shown}
use Rattle.desk_types.specs.Sound.{IsSound}
use Rattle.desk_types.specs.State.{State}
use Rattle.desk_types.proofs.Costs.{sum_by-agree, sum_by-filter}
use Rattle.desk_types.proofs.ReportBounds.{campaign_bounded}
use Rattle.desk_types.proofs.Soundness.{stable}
use Rattle.placements.specs.Linked.{is_of_day}
use Rattle.desk_core.specs.declared.sums.Sums.{Sums}
use Rattle.desk_core.specs.Sums.{sums_of}

sum_by-reverse : {A : Type 0} (f : A → ℕ) (xs : List A) → sum_by f (reverse xs) ≡ sum_by f xs
sum_by-reverse f [] = refl
sum_by-reverse f (x ∷ xs) =
    omega (arith, ap (sum_by f) (reverse-append (x ∷ []) xs), sum_by-append f (reverse xs) (x ∷ []), sum_by-cons f x [], sum_by-cons f x xs, sum_by-reverse f xs)

-- a sum to which only some terms add is that over these
sum_own : {A : Type 0} (own : A → Bool) (f : A → ℕ) (xs : List A) → ((x : A) → cond (own x) (f x) 0 ≡ f x) → sum_by f (reverse (filter own xs)) ≡ sum_by f xs
sum_own own f xs only = sum_by-reverse f (filter own xs) ∙ sum_by-filter own f xs ∙ sum_by-agree (λ x. cond (own x) (f x) 0) f xs only

own_part : (account campaign day test : Bool) (n : ℕ) → cond (account && day) (cond ((account && (campaign && day)) && test) n 0) 0 ≡ cond ((account && (campaign && day)) && test) n 0
own_part true true true test n = refl
own_part true false true test n = refl
own_part true true false test n = refl
own_part true false false test n = refl
own_part false campaign day test n = refl

own_count : (account campaign day : Bool) → cond {A = ℕ} (account && day) (cond (account && (campaign && day)) 1 0) 0 ≡ cond (account && (campaign && day)) 1 0
own_count true true true = refl
own_count true false true = refl
own_count true true false = refl
own_count true false false = refl
own_count false campaign day = refl

-- the placements of the campaign on the day, one test more
part : (a c d : ℕ) (test : Placement → Bool) (f : Placement → ℕ) (ps : List Placement)
    → sum_by (λ p. cond (is_shown_on a c d p && test p) (f p) 0) (reverse (filter (is_of_day a d) ps)) ≡ sum_by (λ p. cond (is_shown_on a c d p && test p) (f p) 0) ps
part a c d test f ps =
    sum_own (is_of_day a d) (λ p. cond (is_shown_on a c d p && test p) (f p) 0) ps (λ p. own_part (p.account == a) (p.campaign == c) (day_of p.shown == d) (test p) (f p))

prices : (a c d : ℕ) (test : Placement → Bool) (ps : List Placement)
    → sum_by (λ p. p.price) (filter (λ p. is_shown_on a c d p && test p) (reverse (filter (is_of_day a d) ps))) ≡ sum_by (λ p. p.price) (filter (λ p. is_shown_on a c d p && test p) ps)
prices a c d test ps =
    sum_by-filter (λ p. is_shown_on a c d p && test p) (λ p. p.price) (reverse (filter (is_of_day a d) ps)) ∙ part a c d test (λ p. p.price) ps
    ∙ sym (sum_by-filter (λ p. is_shown_on a c d p && test p) (λ p. p.price) ps)

abbrev sums : ℕ → ℕ → ℕ → ℕ → ℕ → Sums
sums shown clicks spent escrowed credited = record { shown = shown; clicks = clicks; spent = spent; escrowed = escrowed; credited = credited }

-- the counts and sums of a campaign on a day
abbrev pub sums_on : State → ℕ → ℕ → ℕ → Sums
sums_on S a c d = record {
  shown = shown S.tables a c d;
  clicks = clicks S.tables a c d;
  spent = spent S a c d;
  escrowed = escrowed S a c d;
  credited = credited S.tables a c d;
}

pub sums-own : (S : State) (a c d : ℕ) → sums_of a c d S.moment (reverse (filter (is_of_day a d) S.tables.placements)) ≡ sums_on S a c d
unfolding spent escrowed
sums-own S a c d =
    let ps = S.tables.placements in
    let e_shown = sum_own (is_of_day a d) (λ (p : Placement). cond (is_shown_on a c d p) 1 0) ps (λ p. own_count (p.account == a) (p.campaign == c) (day_of p.shown == d)) in
    let e_clicks = part a c d (λ p. is_spent p.fate) (λ p. 1) ps in
    let e_spent = prices a c d (λ p. is_spent p.fate) ps in
    let e_escrowed = prices a c d (λ p. is_escrowed S.moment p) ps in
    let e_credited = prices a c d (λ p. is_credited p.fate) ps in
    (λ i. sums (e_shown i) (e_clicks i) (e_spent i) (e_escrowed i) (e_credited i))

-- what is known of them
pub record AreBounded (amount : ℕ) (s : Sums) : Type 0 where
  pub budget : amount ≤ BUDGET_MAX
  pub used : s.spent + s.escrowed ≤ amount
  pub credited : s.credited ≤ BUDGET_MAX

pub sums_bounded : (S : State) (day : ℕ) (c : Campaign) → IsSound S → AreBounded (budget S c.account c.number day) (sums_on S c.account c.number day)
unfolding campaign_day
sums_bounded S day c h = let b = campaign_bounded S day c (stable S h) in record { budget = b.budget; used = b.used; credited = b.credited }

pub sums_are : (R S : State) (a c d : ℕ) (result : Sums) → result ≡ sums_of a c d R.moment (reverse (filter (is_of_day a d) R.tables.placements)) → R ≡ S → result ≡ sums_on S a c d
sums_are R S a c d result is same = is ∙ sums-own R a c d ∙ ap (λ (U : State). sums_on U a c d) same

pub bounds_are : (S : State) (day : ℕ) (c : Campaign) (amount : ℕ) (result : Sums) → IsSound S → amount ≡ budget S c.account c.number day → result ≡ sums_on S c.account c.number day → AreBounded amount result
bounds_are S day c amount result h has is =
    subst (λ (s : Sums). AreBounded amount s) (sym is) (subst (λ n. AreBounded n (sums_on S c.account c.number day)) (sym has) (sums_bounded S day c h))

abbrev pub row : ℕ → ℕ → Sums → CampaignDay
row campaign amount s = record {
  campaign = campaign;
  budget = amount;
  shown = s.shown;
  clicks = s.clicks;
  spent = s.spent;
  escrowed = s.escrowed;
  free = amount - (s.spent + s.escrowed);
  credited = s.credited;
}

pub day_is : (S : State) (day : ℕ) (c : Campaign) (amount : ℕ) (result : Sums) → amount ≡ budget S c.account c.number day → result ≡ sums_on S c.account c.number day → row c.number amount result ≡ campaign_day S day c
unfolding campaign_day
day_is S day c amount result has is = (λ i. row c.number (has i) (is i))
