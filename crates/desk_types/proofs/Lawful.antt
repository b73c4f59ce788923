-- Changes that keep a state sound.
use Rattle.std.proofs.Common.{◌≡◌, ℕ, ◌+◌, ◌≤◌, ◌<◌, Bool, true, false, ◌==◌, ◌&&◌, ◌||◌, ◌⊎◌, inl, inr, List, [], ◌∷◌, find, length, Option, None, Some, is_some, refl, sym, ap, subst, ◌∙◌, arith}
use Rattle.std.specs.Prelude.{nat_le}
use Rattle.std.specs.List.{All, sum_by}
use Rattle.std.proofs.lemmas.Bool.{cases_Bool, cond-true, cond-false, and_parts, eqb-true, false_from_ne_true}
use Rattle.std.proofs.lemmas.Bool.Decides.{nat_tests}
use Rattle.std.proofs.lemmas.List.Sums.{sum_by-cons}
use Rattle.std.proofs.lemmas.Option.{same_Some}
use Rattle.desk_types.specs.declared.limits.TheConstants.{ACCOUNTS_MAX, BUDGET_MAX, CAMPAIGNS_MAX}
use Rattle.desk_types.specs.declared.rows.Account.{Account}
use Rattle.desk_types.specs.declared.rows.BudgetSet.{BudgetSet}
use Rattle.desk_types.specs.declared.rows.Campaign.{Campaign}
use Rattle.desk_types.specs.declared.rows.Fate.{Fate}
use Rattle.desk_types.specs.declared.rows.Fate.TheVariants.{Open, Settled, Credited}
use Rattle.desk_types.specs.declared.rows.Line.{Line}
use Rattle.desk_types.specs.declared.rows.Placement.{Placement}
use Rattle.desk_types.specs.declared.tables.Change.{Change}
use Rattle.desk_types.specs.declared.tables.Change.TheVariants.{PutAccount, PutCampaign, PutBudget, PutLine, PutNegative, PutPlacement, PutBatch, PutFate}
use Rattle.auction_types.specs.AdValue.{IsInRange}
use Rattle.desk_types.specs.Day.{day_of}
use Rattle.desk_types.specs.Eligible.{ad_of}
use Rattle.desk_types.specs.Keys.{account_key, batch_key, budget_key, campaign_key, is_same_key, line_key, negative_key, placement_key}
use Rattle.desk_types.specs.Money.{budget, escrowed, is_escrowed, is_shown_on, spent, used}
use Rattle.desk_types.specs.Sound.{StaysWithinBudgets}
use Rattle.desk_types.specs.State.{State}
use Rattle.desk_types.specs.Tables.{account_of, campaign_of, campaigns_of, has_key, line_of, placement_of, put, put_row}
use Rattle.desk_types.proofs.Budgets.{budget-put}
use Rattle.desk_types.proofs.Costs.{cost, cost-credited, cost-open, cost-other, cost-settled, free-holds, free-within, used-costs}
use Rattle.desk_types.proofs.EachRow.{All-from_Each, Each}
use Rattle.desk_types.proofs.InOrder.{Each-from_All, Ordered-from}
use Rattle.desk_types.proofs.Numbering.{IsThereOrNext}
use Rattle.desk_types.proofs.Puts.{Each-put, FindsKey, Ordered, key_same, sum-put_new, sum-put_there}
use Rattle.desk_types.proofs.Stable.{IsStable}

-- the state with this change put
abbrev pub changed : State → Change → State
changed S change = record S { tables = put S.tables change }

-- the setting's campaign is there, its amount is in range and covers what is used from its day on, and it is of no later moment
pub record IsCovered (S : State) (b : BudgetSet) : Type 0 where
  pub there : is_some (campaign_of S.tables b.account b.campaign) ≡ true
  pub covers : (day : ℕ) → day_of b.at ≤ day → used S b.account b.campaign day ≤ b.amount
  pub within : b.amount ≤ BUDGET_MAX
  pub past : b.at ≤ S.moment

-- a campaign that is there, or the next one of an account that has room for it
pub record IsGoodCampaign (S : State) (c : Campaign) : Type 0 where
  pub next : IsThereOrNext campaign_key (λ k. k.account) (λ k. k.number) c S.tables.campaigns
  pub room : (has_key campaign_key (campaign_key c) S.tables.campaigns ≡ true) ⊎ (campaigns_of S.tables c.account + 1 ≤ CAMPAIGNS_MAX)

-- an account that keeps the key of the one whose place it takes, or the next one, where there is room for it
pub record IsGoodAccount (S : State) (a : Account) : Type 0 where
  pub next : (has_key account_key (account_key a) S.tables.accounts ≡ true) ⊎ (a.number ≡ length S.tables.accounts + 1)
  pub room : (has_key account_key (account_key a) S.tables.accounts ≡ true) ⊎ (length S.tables.accounts + 1 ≤ ACCOUNTS_MAX)
  pub same_key : (old : Account) → account_of S.tables a.number ≡ Some old → a.key ≡ old.key

-- a line with bid and quality in range, which keeps the link of the one whose place it takes
pub record IsGoodLine (S : State) (l : Line) : Type 0 where
  pub in_range : IsInRange (ad_of l)
  pub next : IsThereOrNext line_key (λ k. k.account) (λ k. k.number) l S.tables.lines
  pub same_link : (old : Line) → line_of S.tables l.account l.number ≡ Some old → l.link ≡ old.link

-- the next placement, open, of a line that is there, at a price that is free, and shown at no later moment
pub record IsPayable (S : State) (p : Placement) : Type 0 where
  pub next : p.number ≡ length S.tables.placements + 1
  pub unclicked : p.fate ≡ Open
  pub line : is_some (line_of S.tables p.account p.line) ≡ true
  pub fits : p.price + used S p.account p.campaign (day_of p.shown) ≤ budget S p.account p.campaign (day_of p.shown)
  pub past : p.shown ≤ S.moment

-- a fate goes from open to settled, while the price is escrowed, and from settled to credited
abbrev pub GoesOnward : ℕ → Placement → Fate → Type 0
GoesOnward moment p Open = ⊥
GoesOnward moment p (Settled at) = is_escrowed moment p ≡ true
GoesOnward moment p (Credited settled at) = p.fate ≡ Settled settled

abbrev pub IsOnward : ℕ → Fate → Option Placement → Type 0
IsOnward moment fate (Some p) = GoesOnward moment p fate
IsOnward moment fate None = Unit {0}

-- what a change is to be
abbrev pub IsLawful : State → Change → Type 0
IsLawful S (PutAccount a) = IsGoodAccount S a
IsLawful S (PutCampaign c) = IsGoodCampaign S c
IsLawful S (PutBudget b) = IsCovered S b
IsLawful S (PutLine l) = IsGoodLine S l
IsLawful S (PutNegative n) = IsThereOrNext negative_key (λ k. k.account) (λ k. k.number) n S.tables.negatives
IsLawful S (PutPlacement p) = IsPayable S p
IsLawful S (PutFate number fate) = IsOnward S.moment fate (placement_of S.tables number)
IsLawful S (PutBatch b) = has_key batch_key (batch_key b) S.tables.batches ≡ false

abbrev pub AreLawful : State → List Change → Type 0
AreLawful S [] = Unit {0}
AreLawful S (c ∷ cs) = IsLawful S c × AreLawful (changed S c) cs

-- what is found by one number, or by two
pub and_true : (b : Bool) → b ≡ (b && true)
and_true true = refl
and_true false = refl

pub finds_one : {A : Type 0} (key : A → List ℕ) (number : A → ℕ) (n : ℕ) → ((x : A) → key x ≡ number x ∷ []) → FindsKey key (n ∷ []) (λ x. number x == n)
finds_one key number n is x = and_true (number x == n) ∙ ap (λ k. is_same_key k (n ∷ [])) (sym (is x))

pub finds_two : {A : Type 0} (key : A → List ℕ) (group number : A → ℕ) (g n : ℕ) → ((x : A) → key x ≡ group x ∷ number x ∷ []) → FindsKey key (g ∷ n ∷ []) (λ x. group x == g && number x == n)
finds_two key group number g n is x = ap (λ b. group x == g && b) (and_true (number x == n)) ∙ ap (λ k. is_same_key k (g ∷ n ∷ [])) (sym (is x))

pub All-put : {A : Type 0} (P : A → Type 0) (key : A → List ℕ) (row : A) (rows : List A) → P row → All P rows → All P (put_row key row rows)
All-put P key row rows is h = All-from_Each P (put_row key row rows) (Each-put P key row rows is (Each-from_All P rows h))

or_right : (a b : Bool) → b ≡ true → (a || b) ≡ true
or_right true b h = refl
or_right false b h = h

-- a row that was found has its key there
pub found_has : {A : Type 0} (key : A → List ℕ) (test : A → Bool) (rows : List A) (x : A) → find test rows ≡ Some x → has_key key (key x) rows ≡ true
found_has key test [] x h = absurd cc
found_has key test (r ∷ rows) x h =
    elim (cases_Bool (test r)) [
      | inl t ↦
          let e : r ≡ x = same_Some r x (sym (cond-true (test r) (Some r) (find test rows) t) ∙ h) in
          ap (λ b. b || has_key key (key x) rows) (key_same (key r) (key x) (ap key e))
      | inr t ↦ or_right (is_same_key (key r) (key x)) (has_key key (key x) rows) (found_has key test rows x (sym (cond-false (test r) (Some r) (find test rows) t) ∙ h))
    ]

-- what is found passes the test
pub found_test : {A : Type 0} (test : A → Bool) (rows : List A) (x : A) → find test rows ≡ Some x → test x ≡ true
found_test test [] x h = absurd cc
found_test test (r ∷ rows) x h =
    elim (cases_Bool (test r)) [
      | inl t ↦ subst (λ y. test y ≡ true) (same_Some r x (sym (cond-true (test r) (Some r) (find test rows) t) ∙ h)) t
      | inr t ↦ found_test test rows x (sym (cond-false (test r) (Some r) (find test rows) t) ∙ h)
    ]

-- what is found is a row, and passes the test
pub found_each : {A : Type 0} (P : A → Type 0) (test : A → Bool) (rows : List A) (x : A) → Each P rows → find test rows ≡ Some x → P x × (test x ≡ true)
found_each P test [] x h is = absurd cc
found_each P test (r ∷ rows) x h is =
    elim (cases_Bool (test r)) [
      | inl t ↦
          let e : r ≡ x = same_Some r x (sym (cond-true (test r) (Some r) (find test rows) t) ∙ is) in
          (subst P e h.0, subst (λ y. test y ≡ true) e t)
      | inr t ↦ found_each P test rows x h.1 (sym (cond-false (test r) (Some r) (find test rows) t) ∙ is)
    ]

pub found_all : {A : Type 0} (P : A → Type 0) (test : A → Bool) (rows : List A) (x : A) → All P rows → find test rows ≡ Some x → P x × (test x ≡ true)
found_all P test rows x h is = found_each P test rows x (Each-from_All P rows h) is

-- money
pub within_used : (S : State) → StaysWithinBudgets S → (a c d : ℕ) → used S a c d ≤ budget S a c d
within_used S h a c d = free-within (budget S a c d) (spent S a c d) (escrowed S a c d) (h a c d)

pub used_within : (S : State) → ((a c d : ℕ) → used S a c d ≤ budget S a c d) → StaysWithinBudgets S
used_within S h a c d = free-holds (budget S a c d) (spent S a c d) (escrowed S a c d) (h a c d)

set_parts : (ba bc bd a c d : ℕ) → (ba == a && (bc == c && nat_le bd d)) ≡ true → (ba ≡ a) × (bc ≡ c) × (bd ≤ d)
set_parts ba bc bd a c d h =
    let first = and_parts (ba == a) (bc == c && nat_le bd d) h in
    let rest = and_parts (bc == c) (nat_le bd d) first.1 in
    (eqb-true ba a first.0, eqb-true bc c rest.0, grind (arith, nat_tests))

pub within-budget : (S T : State) (b : BudgetSet) → IsStable S → IsCovered S b → T.tables.budgets ≡ put_row budget_key b S.tables.budgets → Ordered budget_key T.tables.budgets
    → ((a c d : ℕ) → used T a c d ≡ used S a c d) → StaysWithinBudgets T
within-budget S T b h covered is order same = used_within T (λ a c d.
    elim (budget-put S T b a c d is (Ordered-from budget_key S.tables.budgets h.in_order.budgets) order) [
      | inl e ↦ omega (arith, e, same a c d, within_used S h.within_budgets a c d)
      | inr e ↦
          let parts = set_parts b.account b.campaign (day_of b.at) a c d e.1 in
          let covers : used S a c d ≤ b.amount =
          subst (λ n. used S n c d ≤ b.amount) parts.0 (subst (λ n. used S b.account n d ≤ b.amount) parts.1 (covered.covers d parts.2)) in
          omega (arith, e.0, same a c d, covers)
    ])

-- what is used after a placement is put
pub used-shown : (S T : State) (p : Placement) (a c d : ℕ) → T.moment ≡ S.moment → T.tables.placements ≡ put_row placement_key p S.tables.placements
    → has_key placement_key (placement_key p) S.tables.placements ≡ false → used T a c d ≡ cost a c d S.moment p + used S a c d
used-shown S T p a c d moment is new =
    used-costs T a c d ∙ (λ i. sum_by (cost a c d (moment i)) (is i))
    ∙ sum-put_new placement_key p (cost a c d S.moment) S.tables.placements new ∙ ap (λ n. cost a c d S.moment p + n) (sym (used-costs S a c d))

shown_parts : (pa pc pd a c d : ℕ) → (pa == a && (pc == c && pd == d)) ≡ true → (pa ≡ a) × (pc ≡ c) × (pd ≡ d)
shown_parts pa pc pd a c d h =
    let first = and_parts (pa == a) (pc == c && pd == d) h in
    let rest = and_parts (pc == c) (pd == d) first.1 in
    (eqb-true pa a first.0, eqb-true pc c rest.0, eqb-true pd d rest.1)

pub within-shown : (S T : State) (p : Placement) → IsStable S → IsPayable S p → T.moment ≡ S.moment → T.tables.placements ≡ put_row placement_key p S.tables.placements
    → has_key placement_key (placement_key p) S.tables.placements ≡ false → ((a c d : ℕ) → budget T a c d ≡ budget S a c d) → StaysWithinBudgets T
within-shown S T p h payable moment is new same = used_within T (λ a c d.
    elim (cases_Bool (is_shown_on a c d p)) [
      | inl t ↦
          let parts = shown_parts p.account p.campaign (day_of p.shown) a c d t in
          let fits : p.price + used S a c d ≤ budget S a c d =
          subst (λ n. p.price + used S n c d ≤ budget S n c d) parts.0
          (subst (λ n. p.price + used S p.account n d ≤ budget S p.account n d) parts.1
          (subst (λ n. p.price + used S p.account p.campaign n ≤ budget S p.account p.campaign n) parts.2 payable.fits)) in
          omega (arith, used-shown S T p a c d moment is new, cost-open a c d S.moment p payable.unclicked, fits, same a c d)
      | inr t ↦ omega (arith, used-shown S T p a c d moment is new, cost-other a c d S.moment p t, within_used S h.within_budgets a c d, same a c d)
    ])

-- a placement of a moment up to now is of no later day
day_order : (first second : ℕ) → first ≤ second → day_of first ≤ day_of second
day_order first second h = omega arith

of_no_later_day : (a c day moment : ℕ) (p : Placement) → day_of moment < day → p.shown ≤ moment → is_shown_on a c day p ≡ false
of_no_later_day a c day moment p late past =
    false_from_ne_true (is_shown_on a c day p) (λ t.
    let same = (shown_parts p.account p.campaign (day_of p.shown) a c day t).2 in
    let up_to = day_order p.shown moment past in
    omega (arith, same, up_to, late))

costs_nothing : (a c day moment : ℕ) (ps : List Placement) → day_of moment < day → Each (λ p. p.shown ≤ moment) ps → sum_by (cost a c day moment) ps ≡ 0
costs_nothing a c day moment [] late past = refl
costs_nothing a c day moment (p ∷ ps) late past =
    omega (arith, sum_by-cons (cost a c day moment) p ps, cost-other a c day moment p (of_no_later_day a c day moment p late past.0), costs_nothing a c day moment ps late past.1)

-- nothing is used of a day that is to come
pub unused_later : (S : State) (a c day : ℕ) → IsStable S → day_of S.moment < day → used S a c day ≡ 0
unused_later S a c day h late =
    used-costs S a c day ∙ costs_nothing a c day S.moment S.tables.placements late (Each-from_All (λ (p : Placement). p.shown ≤ S.moment) S.tables.placements h.past.placements)

-- what a placement costs after its fate went onward
cost-onward : (a c d moment : ℕ) (p : Placement) (fate : Fate) → GoesOnward moment p fate → cost a c d moment (record p { fate = fate }) ≡ cost a c d moment p
cost-onward a c d moment p Open h = absurd (elim h [ ])
cost-onward a c d moment p (Settled at) h = cost-settled a c d moment at p h
cost-onward a c d moment p (Credited settled at) h = cost-credited a c d moment settled at p h

pub used-onward : (S T : State) (number : ℕ) (p : Placement) (fate : Fate) (a c d : ℕ) → placement_of S.tables number ≡ Some p → p.number ≡ number → GoesOnward S.moment p fate → T.moment ≡ S.moment
    → T.tables.placements ≡ put_row placement_key (record p { fate = fate }) S.tables.placements → used T a c d ≡ used S a c d
used-onward S T number p fate a c d found same onward moment is =
    let q : Placement = record p { fate = fate } in
    let test = λ (x : Placement). x.number == number in
    let finds : FindsKey placement_key (placement_key q) test =
    subst (λ n. FindsKey placement_key (n ∷ []) test) (sym same) (finds_one placement_key (λ x. x.number) number (λ x. refl)) in
    let moved = sum-put_there placement_key q p (cost a c d S.moment) test S.tables.placements finds found in
    let now : used T a c d ≡ sum_by (cost a c d S.moment) (put_row placement_key q S.tables.placements) = used-costs T a c d ∙ (λ i. sum_by (cost a c d (moment i)) (is i)) in
    omega (arith, now, moved, used-costs S a c d, cost-onward a c d S.moment p fate onward)
