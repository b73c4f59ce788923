-- The changes of an accepted call are lawful.
use Rattle.std.proofs.Common.{◌≡◌, ◌≢◌, ℕ, ◌+◌, ◌≤◌, ◌<◌, Bool, true, false, not, ◌==◌, ◌&&◌, inl, inr, List, [], ◌∷◌, ◌++◌, find, length, map, Option, None, Some, is_none, is_some, option_map, refl, sym, ap, subst, ◌∙◌, arith, length-append}
use Rattle.std.specs.Prelude.{nat_le, nat_lt}
use Rattle.std.specs.List.{count_by}
use Rattle.std.proofs.lemmas.Bool.{cases_Bool, cond-true, cond-false, both_ways, and_parts, and_left, eqb-true, ne_eqb}
use Rattle.std.proofs.lemmas.Bool.Decides.{nat_tests}
use Rattle.std.proofs.lemmas.Option.{same_Some}
use Rattle.query_words.specs.Words.{words_of}
use Rattle.auction_types.specs.declared.limits.TheConstants.{BID_MIN, BID_MAX, QUALITY_MIN, QUALITY_MAX}
use Rattle.desk_types.specs.declared.limits.TheConstants.{ACCOUNTS_MAX, BUDGET_MAX, BUDGET_MIN, CAMPAIGNS_MAX}
use Rattle.desk_types.specs.declared.call.Call.{Call}
use Rattle.desk_types.specs.declared.call.Call.TheVariants.{AddAccount, SetQuality, Suspend, Credit, AddCampaign, SetBudget, AddLine, SetBid, Pause, AddNegative, DropNegative, Import, Search, Click}
use Rattle.desk_types.specs.declared.call.ImportRow.{ImportRow}
use Rattle.desk_types.specs.declared.call.Part.{Part}
use Rattle.desk_types.specs.declared.call.Part.TheVariants.{OfCampaign, OfLine}
use Rattle.desk_types.specs.declared.refusal.Refusal.{Refusal}
use Rattle.desk_types.specs.declared.refusal.Refusal.TheVariants.{BadRow}
use Rattle.desk_types.specs.declared.rows.Account.{Account}
use Rattle.desk_types.specs.declared.rows.Batch.{Batch}
use Rattle.desk_types.specs.declared.rows.BudgetSet.{BudgetSet}
use Rattle.desk_types.specs.declared.rows.Campaign.{Campaign}
use Rattle.desk_types.specs.declared.rows.Fate.{Fate}
use Rattle.desk_types.specs.declared.rows.Fate.TheVariants.{Open, Settled, Credited}
use Rattle.desk_types.specs.declared.rows.Line.{Line}
use Rattle.desk_types.specs.declared.rows.Negative.{Negative}
use Rattle.desk_types.specs.declared.rows.Placement.{Placement}
use Rattle.desk_types.specs.declared.tables.Change.TheVariants.{PutAccount, PutCampaign, PutBudget, PutLine, PutNegative, PutPlacement, PutBatch, PutFate}
use Rattle.auction_types.specs.AdValue.{AdValue, IsBid, IsInRange, IsQuality}
use Rattle.desk_types.specs.Asked.{asked_by, line_made, lines_made}
use Rattle.desk_types.specs.Changes.{all_placed, changes, credit_of, credit_on, drop_of, import_of, live_again, placed, placements_for, put_found, settlement, switch_of}
use Rattle.desk_types.specs.Day.{day_of}
use Rattle.desk_types.specs.Eligible.{ad_of, entrants_for}
use Rattle.desk_types.specs.Judged.{AskedLine, bad_rows, dropped_negative, first, import_rows, is_within, judged, line_rows, page_of, places_of, refusals, used_today, when}
use Rattle.desk_types.specs.Keys.{account_key, batch_key, campaign_key, line_key, negative_key, placement_key}
use Rattle.desk_types.specs.Money.{budget, escrowed, is_escrowed, is_set_by, spent, used}
use Rattle.auction_types.specs.Price.{price}
use Rattle.desk_types.specs.Refusal.{number_of}
use Rattle.desk_types.specs.State.{State}
use Rattle.desk_types.specs.Tables.{account_of, batch_of, campaign_of, campaigns_of, has_key, line_of, negative_of, placement_of, put, put_row}
use Rattle.desk_types.proofs.Budgets.{budget-none}
use Rattle.desk_types.proofs.Costs.{cost, cost-other, free-pays}
use Rattle.desk_types.proofs.EachRow.{Each}
use Rattle.desk_types.proofs.SecondPrice.{apart_entrants, apart_page, entrant_line, fit_entrant, lines_in_range, page_among}
use Rattle.desk_types.proofs.InOrder.{Each-from_All}
use Rattle.desk_types.proofs.Legality.{room_below, room_up_to}
use Rattle.auction_types.proofs.Accounts.{AreApart}
use Rattle.desk_types.proofs.Lawful.{AreLawful, IsGoodLine, IsOnward, IsPayable, changed, finds_one, finds_two, found_all, found_has, found_test, unused_later, used-shown, within_used}
use Rattle.auction_types.proofs.Members.{Has}
use Rattle.desk_types.proofs.Numbering.{group_new, next_last, next_new}
use Rattle.auction_types.proofs.PriceLemmas.{price-le-bid}
use Rattle.desk_types.proofs.Puts.{find-put_same, has-find}
use Rattle.desk_types.proofs.Sound.{sound_put}
use Rattle.desk_types.proofs.Stable.{IsStable}

-- a table of which no refusal holds
pub none_holds : (rows : List (Option Refusal)) → first rows ≡ None → Each (λ o. o ≡ None) rows
none_holds [] h = tt
none_holds (None ∷ rows) h = (refl, none_holds rows h)
none_holds (Some r ∷ rows) h = absurd cc

pub not_when : (b : Bool) (r : Refusal) → when b r ≡ None → b ≡ false
not_when false r h = refl
not_when true r h = absurd cc

pub some_from : {A : Type 0} (o : Option A) → is_none o ≡ false → is_some o ≡ true
some_from None h = absurd cc
some_from (Some x) h = refl

pair_parts : (a b x y : ℕ) → a ∷ b ∷ [] ≡ x ∷ y ∷ [] → (a ≡ x) × (b ≡ y)
pair_parts a b x y e = (cc, cc)

-- the settings of a campaign are those of one that is there
no_setting : (S : State) (account campaign day : ℕ) (bs : List BudgetSet) → is_some (campaign_of S.tables account campaign) ≡ false
    → Each (λ b. is_some (campaign_of S.tables b.account b.campaign) ≡ true) bs → Each (λ b. is_set_by account campaign day b ≡ false) bs
no_setting S account campaign day [] unknown there = tt
no_setting S account campaign day (b ∷ bs) unknown there = (
  elim (cases_Bool (is_set_by account campaign day b)) [
    | inl t ↦
        let first = and_parts (b.account == account) (b.campaign == campaign && nat_le (day_of b.at) day) t in
        let rest = and_parts (b.campaign == campaign) (nat_le (day_of b.at) day) first.1 in
        absurd (both_ways _ unknown (subst (λ n. is_some (campaign_of S.tables n campaign) ≡ true) (eqb-true b.account account first.0)
        (subst (λ n. is_some (campaign_of S.tables b.account n) ≡ true) (eqb-true b.campaign campaign rest.0) there.0)))
    | inr t ↦ t
  ],
  no_setting S account campaign day bs unknown there.1,
)

none_of_false : {A : Type 0} (o : Option A) → is_some o ≡ false → o ≡ None
none_of_false None h = refl
none_of_false (Some x) h = absurd cc

-- the next campaign of an account is new, and has no budget setting
lawful_campaign : (S : State) (account amount : ℕ) → IsStable S → amount ≤ BUDGET_MAX → campaigns_of S.tables account + 1 ≤ CAMPAIGNS_MAX → let number = campaigns_of S.tables account + 1 in
    AreLawful S (PutCampaign (record { account = account; number = number; on = true }) ∷ PutBudget (record { account = account; campaign = number; at = S.moment; amount = amount }) ∷ [])
unfolding put spent escrowed
lawful_campaign S account amount h within room =
    let number = campaigns_of S.tables account + 1 in
    let made : Campaign = record { account = account; number = number; on = true } in
    let test = λ (c : Campaign). c.account == account && c.number == number in
    let finds = finds_two campaign_key (λ (c : Campaign). c.account) (λ c. c.number) account number (λ x. refl) in
    let new = group_new campaign_key (λ (c : Campaign). c.account) (λ c. c.number) made S.tables.campaigns (λ x. refl) h.numbered.campaigns refl in
    let unknown : is_some (campaign_of S.tables account number) ≡ false = sym (has-find campaign_key (account ∷ number ∷ []) test S.tables.campaigns finds) ∙ new in (
      record { next = inr refl; room = inr room },
      (
        record {
          there = ap is_some (find-put_same campaign_key made test S.tables.campaigns finds);
          covers = λ day later.
              let none = budget-none S account number day (no_setting S account number day S.tables.budgets unknown (Each-from_All (λ (b : BudgetSet). is_some (campaign_of S.tables b.account b.campaign) ≡ true) S.tables.budgets h.named.budgets)) in
              omega (arith, none, within_used S h.within_budgets account number day);
          within = within;
          past = omega arith;
        },
        tt,
      ),
    )

-- a setting of today that covers what is used today: nothing is used of a day that is to come
below : (a b : ℕ) → nat_lt a b ≡ true → a < b
below a b h = grind (arith, nat_tests)

lawful_set : (S : State) (account campaign amount : ℕ) → IsStable S → is_some (campaign_of S.tables account campaign) ≡ true → amount ≤ BUDGET_MAX → used_today S account campaign ≤ amount
    → AreLawful S (PutBudget (record { account = account; campaign = campaign; at = S.moment; amount = amount }) ∷ [])
lawful_set S account campaign amount h there within fits =
    let today = day_of S.moment in (
      record {
        there = there;
        covers = λ day later.
            elim (cases_Bool (nat_lt today day)) [
              | inl t ↦ omega (arith, unused_later S account campaign day h (below today day t))
              | inr t ↦
                  let is : today ≡ day = omega (arith, later, room_up_to day today t) in
                  subst (λ d. used S account campaign d ≤ amount) is fits
            ];
        within = within;
        past = omega arith;
      },
      tt,
    )

pub from_not : (b : Bool) → not b ≡ false → b ≡ true
from_not true h = refl
from_not false h = absurd cc

bid_in : (bid : ℕ) → is_within BID_MIN BID_MAX bid ≡ true → IsBid bid
bid_in bid within = grind (arith, nat_tests, within)

amount_in : (amount : ℕ) → is_within BUDGET_MIN BUDGET_MAX amount ≡ true → amount ≤ BUDGET_MAX
amount_in amount within = grind (arith, nat_tests, within)

-- the line that is made has a bid in range, and is the account's next one
pub lawful_line : (S : State) (account : ℕ) (asked : AskedLine) → IsStable S → is_within BID_MIN BID_MAX asked.bid ≡ true → AreLawful S (PutLine (line_made S.tables account asked) ∷ [])
lawful_line S account asked h within =
    let made : Line = line_made S.tables account asked in
    let test = λ (l : Line). l.account == account && l.number == made.number in
    let finds = finds_two line_key (λ (l : Line). l.account) (λ l. l.number) account made.number (λ x. refl) in
    let new = group_new line_key (λ (l : Line). l.account) (λ l. l.number) made S.tables.lines (λ x. refl) h.numbered.lines refl in
    let unknown : is_some (line_of S.tables account made.number) ≡ false = sym (has-find line_key (account ∷ made.number ∷ []) test S.tables.lines finds) ∙ new in (
      record {
        in_range = (bid_in asked.bid within, (omega arith, omega arith));
        next = inr refl;
        same_link = λ old known. absurd (both_ways _ unknown (ap is_some known));
      },
      tt,
    )

quality_in : (quality : ℕ) → is_within QUALITY_MIN QUALITY_MAX quality ≡ true → IsQuality quality
quality_in quality within = grind (arith, nat_tests, within)

-- a line that is there, with another bid, quality or switch
lawful_changed : (S : State) (account number : ℕ) (l new : Line) → line_of S.tables account number ≡ Some l → line_key new ≡ line_key l → IsInRange (ad_of new) → new.link ≡ l.link → IsGoodLine S new
lawful_changed S account number l new is same in_range link =
    let test = λ (k : Line). k.account == account && k.number == number in
    let here = and_parts (l.account == account) (l.number == number) (found_test test S.tables.lines l is) in
    let parts = pair_parts new.account new.number l.account l.number same in
    record {
      in_range = in_range;
      next = inl (subst (λ k. has_key line_key k S.tables.lines ≡ true) (sym same) (found_has line_key test S.tables.lines l is));
      same_link = λ old known.
          let before : line_of S.tables new.account new.number ≡ Some l =
          (λ i. line_of S.tables ((parts.0 ∙ eqb-true l.account account here.0) i) ((parts.1 ∙ eqb-true l.number number here.1) i)) ∙ is in
          link ∙ ap (λ (k : Line). k.link) (same_Some l old (sym before ∙ known));
    }

-- a line that is found is put with a change to it
lawful_line_found : (S : State) (account number : ℕ) (new : Line → Line) (found : Option Line) → line_of S.tables account number ≡ found → IsStable S
    → ((l : Line) → line_key (new l) ≡ line_key l) → ((l : Line) → IsInRange (ad_of l) → IsInRange (ad_of (new l))) → ((l : Line) → (new l).link ≡ l.link)
    → AreLawful S (put_found (λ l. PutLine (new l)) found)
lawful_line_found S account number new None is h same in_range link = tt
lawful_line_found S account number new (Some l) is h same in_range link =
    let known = found_all (λ (k : Line). IsInRange (ad_of k)) (λ (k : Line). k.account == account && k.number == number) S.tables.lines l h.in_range is in
    (lawful_changed S account number l (new l) is (same l) (in_range l known.0) (link l), tt)

-- the next account is new
lawful_account : (S : State) (key : List ℕ) → IsStable S → length S.tables.accounts + 1 ≤ ACCOUNTS_MAX → AreLawful S (PutAccount (record { number = length S.tables.accounts + 1; key = key; suspended = false }) ∷ [])
lawful_account S key h room =
    let a : Account = record { number = length S.tables.accounts + 1; key = key; suspended = false } in
    let new = next_new account_key (λ (x : Account). x.number) a S.tables.accounts (λ x. refl) h.numbered.accounts refl in
    let test = λ (x : Account). x.number == a.number in
    let unknown : is_some (account_of S.tables a.number) ≡ false = sym (has-find account_key (a.number ∷ []) test S.tables.accounts (finds_one account_key (λ (x : Account). x.number) a.number (λ x. refl))) ∙ new in
    (record { next = inr refl; room = inr room; same_key = λ old known. absurd (both_ways _ unknown (ap is_some known)) }, tt)

-- an account that is there keeps its key
lawful_suspended : (S : State) (account : ℕ) (suspended : Bool) (found : Option Account) → account_of S.tables account ≡ found
    → AreLawful S (put_found (λ a. PutAccount (record a { suspended = suspended })) found)
lawful_suspended S account suspended None is = tt
lawful_suspended S account suspended (Some a) is =
    let test = λ (x : Account). x.number == account in
    let here : a.number ≡ account = eqb-true a.number account (found_test test S.tables.accounts a is) in (
      record {
        next = inl (found_has account_key test S.tables.accounts a is);
        room = inl (found_has account_key test S.tables.accounts a is);
        same_key = λ old known. ap (λ (x : Account). x.key) (same_Some a old (sym (ap (account_of S.tables) here ∙ is) ∙ known));
      },
      tt,
    )

lawful_campaign_found : (S : State) (on : Bool) (test : Campaign → Bool) (found : Option Campaign) → find test S.tables.campaigns ≡ found
    → AreLawful S (put_found (λ c. PutCampaign (record c { on = on })) found)
lawful_campaign_found S on test None is = tt
lawful_campaign_found S on test (Some c) is =
    let there = found_has campaign_key test S.tables.campaigns c is in
    (record { next = inl there; room = inl there }, tt)

lawful_switched : (S : State) (account : ℕ) (part : Part) (on : Bool) → IsStable S → AreLawful S (switch_of S.tables account part on)
lawful_switched S account (OfCampaign campaign) on h = lawful_campaign_found S on _ (campaign_of S.tables account campaign) refl
lawful_switched S account (OfLine line) on h = lawful_line_found S account line (λ l. record l { on = on }) (line_of S.tables account line) refl h (λ l. refl) (λ l k. k) (λ l. refl)

pub no_cause : (number : ℕ) (o : Option Refusal) → option_map (λ cause. BadRow number (number_of cause)) o ≡ None → o ≡ None
no_cause number None h = refl
no_cause number (Some cause) h = absurd cc

-- the lines of an import, each behind those before it, and then the batch
lawful_lines : (S : State) (account number : ℕ) (rows : List ImportRow) (b : Batch) → IsStable S → has_key batch_key (batch_key b) S.tables.batches ≡ false → Each (λ o. o ≡ None) (bad_rows S.tables account number rows)
    → AreLawful S (map PutLine (lines_made S.tables account rows) ++ PutBatch b ∷ [])
unfolding put
lawful_lines S account number [] b h new good = (new, tt)
lawful_lines S account number (row ∷ rows) b h new good =
    let asked : AskedLine = asked_by row in
    let made : Line = line_made S.tables account asked in
    let none = none_holds (line_rows S.tables account asked) (no_cause number _ good.0) in
    let fits : AreLawful S (PutLine made ∷ []) = lawful_line S account asked h (from_not (is_within BID_MIN BID_MAX row.bid) (not_when _ _ none.1.0)) in
    (fits.0, lawful_lines (changed S (PutLine made)) account (number + 1) rows b (sound_put S (PutLine made) h fits.0) new good.1)

lawful_import : (S : State) (account number : ℕ) (rows : List ImportRow) (found : Option Batch) → batch_of S.tables account number ≡ found → IsStable S → Each (λ o. o ≡ None) (import_rows S.tables account found rows)
    → AreLawful S (import_of S.tables account number rows found)
lawful_import S account number rows (Some there) is h good = tt
lawful_import S account number rows None is h good =
    let test = λ (b : Batch). b.account == account && b.number == number in
    let new : has_key batch_key (account ∷ number ∷ []) S.tables.batches ≡ false =
    has-find batch_key (account ∷ number ∷ []) test S.tables.batches (finds_two batch_key (λ (b : Batch). b.account) (λ b. b.number) account number (λ x. refl)) ∙ ap is_some is in
    lawful_lines S account 1 rows _ h new good.1

lawful_live : (S : State) (account campaign : ℕ) (new : Negative) (dropped : Option Negative) (test : Negative → Bool) → find test S.tables.negatives ≡ dropped
    → new.number ≡ count_by (λ (n : Negative). n.account == new.account) S.tables.negatives + 1 → AreLawful S (PutNegative (live_again new dropped) ∷ [])
lawful_live S account campaign new None test is next = (inr next, tt)
lawful_live S account campaign new (Some d) test is next = (inl (found_has negative_key test S.tables.negatives d is), tt)

lawful_drop : (S : State) (test : Negative → Bool) (found : Option Negative) → find test S.tables.negatives ≡ found → AreLawful S (drop_of found)
lawful_drop S test None is = tt
lawful_drop S test (Some n) is = (inl (found_has negative_key test S.tables.negatives n is), tt)

-- a placement whose price is escrowed is settled
lawful_click : (S : State) (placement : ℕ) (found : Option Placement) → placement_of S.tables placement ≡ found → IsStable S → AreLawful S (settlement S.moment found)
lawful_click S placement None is h = tt
lawful_click S placement (Some p) is h =
    elim (cases_Bool (is_escrowed S.moment p)) [
      | inl t ↦
          let known = found_all (λ (x : Placement). is_some (line_of S.tables x.account x.line) ≡ true) (λ (x : Placement). x.number == placement) S.tables.placements p h.named.placements is in
          let found : placement_of S.tables p.number ≡ Some p = subst (λ n. placement_of S.tables n ≡ Some p) (sym (eqb-true p.number placement known.1)) is in
          subst (AreLawful S) (sym (cond-true _ (PutFate p.number (Settled S.moment) ∷ []) [] t)) (subst (IsOnward S.moment (Settled S.moment)) (sym found) t, tt)
      | inr t ↦ subst (AreLawful S) (sym (cond-false _ (PutFate p.number (Settled S.moment) ∷ []) [] t)) tt
    ]

-- a placement that was settled is credited
lawful_credit_on : (S : State) (p : Placement) (fate : Fate) → placement_of S.tables p.number ≡ Some p → p.fate ≡ fate → AreLawful S (credit_on S.moment p.number fate)
lawful_credit_on S p Open found is = tt
lawful_credit_on S p (Settled at) found is = (subst (IsOnward S.moment (Credited at S.moment)) (sym found) is, tt)
lawful_credit_on S p (Credited settled credited) found is = tt

lawful_credit : (S : State) (placement : ℕ) (found : Option Placement) → placement_of S.tables placement ≡ found → AreLawful S (credit_of S.moment found)
lawful_credit S placement None is = tt
lawful_credit S placement (Some p) is =
    let number = eqb-true p.number placement (found_test (λ (x : Placement). x.number == placement) S.tables.placements p is) in
    lawful_credit_on S p p.fate (subst (λ n. placement_of S.tables n ≡ Some p) (sym number) is) refl

-- ads that can be paid: their lines are there, and their bids are free
record IsPaid (S R : State) (entered : List AdValue) (a : AdValue) : Type 0 where
  price_below : price S.settings.reserve S.settings.floor entered a ≤ a.bid
  line : is_some (line_of R.tables a.account a.line) ≡ true
  fits : a.bid + used R a.account a.campaign (day_of S.moment) ≤ budget R a.account a.campaign (day_of S.moment)

-- a placement of another account leaves an ad as it is
still_paid : (S R : State) (entered : List AdValue) (number : ℕ) (a b : AdValue) → IsStable R → R.moment ≡ S.moment → number ≡ length R.tables.placements + 1 → a.account ≢ b.account
    → IsPaid S R entered b → IsPaid S (changed R (PutPlacement (placed S entered number a))) entered b
unfolding put budget
still_paid S R entered number a b h moment next other paid =
    let p : Placement = placed S entered number a in
    let T : State = changed R (PutPlacement p) in
    let new = next_new placement_key (λ (x : Placement). x.number) p R.tables.placements (λ x. refl) h.numbered.placements next in
    let day = day_of S.moment in
    let shown : used T b.account b.campaign day ≡ cost b.account b.campaign day R.moment p + used R b.account b.campaign day = used-shown R T p b.account b.campaign day refl refl new in
    let free = cost-other b.account b.campaign day R.moment p (and_left (a.account == b.account) _ (ne_eqb a.account b.account other)) in
    record { price_below = paid.price_below; line = paid.line; fits = omega (arith, shown, free, paid.fits) }

-- the placements of a page, one after another
lawful_placed : (S R : State) (entered : List AdValue) (number : ℕ) (ads : List AdValue) → IsStable R → R.moment ≡ S.moment → number ≡ length R.tables.placements + 1 → AreApart ads
    → ((a : AdValue) → Has ads a → IsPaid S R entered a) → AreLawful R (map PutPlacement (all_placed S entered number ads))
unfolding put
lawful_placed S R entered number [] h moment next apart paid = tt
lawful_placed S R entered number (a ∷ ads) h moment next apart paid =
    let p : Placement = placed S entered number a in
    let pays = paid a (inl refl) in
    let payable : IsPayable R p = record { next = next; unclicked = refl; line = pays.line; fits = omega (arith, pays.price_below, pays.fits); past = omega (arith, moment) } in
    let longer : length (put_row placement_key p R.tables.placements) ≡ length R.tables.placements + 1 =
    ap length (next_last placement_key (λ (x : Placement). x.number) p R.tables.placements (λ x. refl) h.numbered.placements next) ∙ length-append R.tables.placements (p ∷ []) in (
      payable,
      lawful_placed S (changed R (PutPlacement p)) entered (number + 1) ads (sound_put R (PutPlacement p) h payable) moment (omega (arith, next, longer)) apart.1
          (λ b k. still_paid S R entered number a b h moment next (apart.0 b k) (paid b (inr k))),
    )

lawful_search : (S : State) (text : List ℕ) (places : Option ℕ) → IsStable S → AreLawful S (map PutPlacement (placements_for S text places))
lawful_search S text places h =
    let query = words_of text in
    let entered = entrants_for S query in
    let in_range = lines_in_range S h in
    let apart = apart_entrants S query in_range in
    lawful_placed S S entered (length S.tables.placements + 1) (page_of S text places) h refl refl (apart_page entered (places_of S places) apart)
    (λ a k.
    let among = page_among entered (places_of S places) a apart k in
    let fit = fit_entrant S query a in_range among in
    record {
      price_below = price-le-bid S.settings.reserve S.settings.floor entered a fit.reserve;
      line = entrant_line S query a among;
      fits = free-pays a.bid _ _ _ fit.paid;
    })

pub lawful_call : (S : State) (call : Call) → IsStable S → judged S call ≡ None → AreLawful S (changes S call)
unfolding changes refusals
lawful_call S (AddAccount key) h accepts =
    let none = none_holds (refusals S (AddAccount key)) accepts in
    lawful_account S key h (room_below (length S.tables.accounts) ACCOUNTS_MAX (not_when _ _ none.1.0))
lawful_call S (SetQuality account line quality) h accepts =
    let none = none_holds (refusals S (SetQuality account line quality)) accepts in
    let within = quality_in quality (from_not (is_within QUALITY_MIN QUALITY_MAX quality) (not_when _ _ none.1.1.0)) in
    lawful_line_found S account line (λ l. record l { quality = quality }) (line_of S.tables account line) refl h (λ l. refl) (λ l k. (k.0, within)) (λ l. refl)
lawful_call S (Suspend account suspended) h accepts = lawful_suspended S account suspended (account_of S.tables account) refl
lawful_call S (Credit placement) h accepts = lawful_credit S placement (placement_of S.tables placement) refl
lawful_call S (AddCampaign account key budget) h accepts =
    let none = none_holds (refusals S (AddCampaign account key budget)) accepts in
    lawful_campaign S account budget h (amount_in budget (from_not (is_within BUDGET_MIN BUDGET_MAX budget) (not_when _ _ none.1.1.0)))
    (room_below (campaigns_of S.tables account) CAMPAIGNS_MAX (not_when _ _ none.1.1.1.0))
lawful_call S (SetBudget account key campaign amount) h accepts =
    let none = none_holds (refusals S (SetBudget account key campaign amount)) accepts in
    lawful_set S account campaign amount h (some_from (campaign_of S.tables account campaign) (not_when _ _ none.1.1.0))
    (amount_in amount (from_not (is_within BUDGET_MIN BUDGET_MAX amount) (not_when _ _ none.1.1.1.0)))
    (room_up_to (used_today S account campaign) amount (not_when _ _ none.1.1.1.1.0))
lawful_call S (AddLine account key campaign bid pattern headline link) h accepts =
    let asked : AskedLine = record { campaign = campaign; bid = bid; pattern = pattern; headline = headline; link = link } in
    let none = none_holds (refusals S (AddLine account key campaign bid pattern headline link)) accepts in
    lawful_line S account asked h (from_not (is_within BID_MIN BID_MAX bid) (not_when _ _ none.1.1.1.0))
lawful_call S (SetBid account key line bid) h accepts =
    let none = none_holds (refusals S (SetBid account key line bid)) accepts in
    let within = bid_in bid (from_not (is_within BID_MIN BID_MAX bid) (not_when _ _ none.1.1.1.0)) in
    lawful_line_found S account line (λ l. record l { bid = bid }) (line_of S.tables account line) refl h (λ l. refl) (λ l k. (within, k.1)) (λ l. refl)
lawful_call S (Pause account key part on) h accepts = lawful_switched S account part on h
lawful_call S (AddNegative account key campaign pattern) h accepts =
    lawful_live S account campaign _ (dropped_negative S.tables account campaign pattern) _ refl refl
lawful_call S (DropNegative account key negative) h accepts = lawful_drop S _ (negative_of S.tables account negative) refl
lawful_call S (Import account key batch rows) h accepts =
    let none = none_holds (refusals S (Import account key batch rows)) accepts in
    lawful_import S account batch rows (batch_of S.tables account batch) refl h none.1.1.1
lawful_call S (Search text places) h accepts = lawful_search S text places h
lawful_call S (Click placement) h accepts = lawful_click S placement (placement_of S.tables placement) refl h
lawful_call S call h accepts = tt
