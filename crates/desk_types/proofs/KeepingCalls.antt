-- The changes of an accepted call are proper.
use Rattle.std.proofs.Common.{◌≡◌, ℕ, ◌+◌, ◌≤◌, Bool, true, false, not, ◌==◌, ◌&&◌, inl, inr, List, [], ◌∷◌, find, Option, None, Some, is_none, is_some, option_map, refl, ap, arith}
use Rattle.std.specs.Prelude.{nat_le, if◌then◌else◌}
use Rattle.std.proofs.lemmas.Bool.{and_from}
use Rattle.std.proofs.lemmas.Bool.Decides.{nat_tests}
use Rattle.match_types.specs.Pattern.{negative_text}
use Rattle.match_types.specs.Tests.{is_same_pattern}
use Rattle.auction_types.specs.declared.limits.TheConstants.{BID_MIN, BID_MAX, QUALITY_MIN, QUALITY_MAX}
use Rattle.desk_types.specs.declared.limits.TheConstants.{BATCH_MAX, BUDGET_MAX, BUDGET_MIN, MOMENT_MAX, NEGATIVES_MAX}
use Rattle.desk_types.specs.declared.call.Call.{Call}
use Rattle.desk_types.specs.declared.call.Call.TheVariants.{AddAccount, SetQuality, Suspend, Credit, AddCampaign, SetBudget, AddLine, SetBid, Pause, AddNegative, DropNegative, Import, Search, Click}
use Rattle.desk_types.specs.declared.call.Part.{Part}
use Rattle.desk_types.specs.declared.call.Part.TheVariants.{OfCampaign, OfLine}
use Rattle.desk_types.specs.declared.refusal.Refusal.TheVariants.{NegativeThere}
use Rattle.desk_types.specs.declared.rows.Account.{Account}
use Rattle.desk_types.specs.declared.rows.Campaign.{Campaign}
use Rattle.desk_types.specs.declared.rows.Fate.{Fate}
use Rattle.desk_types.specs.declared.rows.Fate.TheVariants.{Open, Settled, Credited}
use Rattle.desk_types.specs.declared.rows.Negative.{Negative}
use Rattle.desk_types.specs.declared.rows.Placement.{Placement}
use Rattle.desk_types.specs.declared.tables.Change.TheVariants.{PutAccount, PutCampaign, PutBudget, PutFate}
use Rattle.desk_types.specs.declared.tables.Tables.{Tables}
use Rattle.desk_types.specs.Asked.{AskedLine}
use Rattle.desk_types.specs.Changes.{changes, credit_of, credit_on, drop_of, live_again, put_found, settlement, switch_of}
use Rattle.desk_types.specs.Fields.{is_key}
use Rattle.desk_types.specs.Judged.{dropped_negative, is_dropped_like, is_live_like, is_within, judged, live_negative, refusals}
use Rattle.desk_types.specs.Keys.{campaign_key, is_same_key, negative_key}
use Rattle.desk_types.specs.Money.{is_escrowed}
use Rattle.desk_types.specs.Rules.{has_account, has_campaign, is_negative_like}
use Rattle.desk_types.specs.SettingsValue.{AreInRange}
use Rattle.desk_types.specs.State.{State}
use Rattle.desk_types.specs.Tables.{account_of, batch_of, campaign_of, campaigns_of, line_of, negative_of, negatives_of, placement_of, put}
use Rattle.desk_types.proofs.Accepting.{from_not, none_holds, not_when, some_from}
use Rattle.desk_types.proofs.EachRow.{Each, Each-mono}
use Rattle.desk_types.proofs.InOrder.{Ordered-from}
use Rattle.desk_types.proofs.KeepingLines.{campaign_there, good_with_bid, good_with_quality, proper_import, proper_line, proper_line_found}
use Rattle.desk_types.proofs.KeepingPages.{proper_search}
use Rattle.desk_types.proofs.KeepingProper.{AreProper, IsProperNegative}
use Rattle.desk_types.proofs.KeepingRows.{none_found, none_same, only}
use Rattle.desk_types.proofs.Kept.{IsAlmostKept}
use Rattle.desk_types.proofs.Lawful.{finds_two, found_all, found_has}
use Rattle.desk_types.proofs.Legality.{room_below}
use Rattle.desk_types.proofs.Numbering.{group_new}
use Rattle.desk_types.proofs.Puts.{find-put_same}

-- an account or a campaign that is found is put with another switch
proper_account_found : (S : State) (suspended : Bool) (test : Account → Bool) (found : Option Account) → find test S.tables.accounts ≡ found → IsAlmostKept S → AreProper S (put_found (λ a. PutAccount (record a { suspended = suspended })) found)
proper_account_found S suspended test None is h = tt
proper_account_found S suspended test (Some a) is h = ((found_all (λ (x : Account). is_key x.key ≡ true) test S.tables.accounts a h.fields.accounts is).0, tt)

proper_campaign_found : (S : State) (on : Bool) (test : Campaign → Bool) (found : Option Campaign) → find test S.tables.campaigns ≡ found → IsAlmostKept S → AreProper S (put_found (λ c. PutCampaign (record c { on = on })) found)
proper_campaign_found S on test None is h = tt
proper_campaign_found S on test (Some c) is h = ((found_all (λ (x : Campaign). has_account S.tables x.account ≡ true) test S.tables.campaigns c h.named.campaigns is).0, tt)

proper_switched : (S : State) (account : ℕ) (part : Part) (on : Bool) → IsAlmostKept S → AreProper S (switch_of S.tables account part on)
proper_switched S account (OfCampaign campaign) on h = proper_campaign_found S on (λ (c : Campaign). c.account == account && c.number == campaign) (campaign_of S.tables account campaign) refl h
proper_switched S account (OfLine line) on h =
    proper_line_found S account line (λ l. record l { on = on }) (line_of S.tables account line) refl h (λ l. refl) (λ l. refl) (λ l. refl) (λ l. refl) (λ l good. good)

-- settings of now
good_amount : (amount moment : ℕ) → is_within BUDGET_MIN BUDGET_MAX amount ≡ true → moment ≤ MOMENT_MAX → (is_within BUDGET_MIN BUDGET_MAX amount && nat_le moment MOMENT_MAX) ≡ true
good_amount amount moment within past = grind (arith, nat_tests, within, past)

proper_set : (S : State) (account campaign amount : ℕ) → IsAlmostKept S → has_campaign S.tables account campaign ≡ true → is_within BUDGET_MIN BUDGET_MAX amount ≡ true
    → AreProper S (PutBudget (record { account = account; campaign = campaign; at = S.moment; amount = amount }) ∷ [])
proper_set S account campaign amount h there within = (record { good = good_amount amount S.moment within h.moment; named = there; now = refl }, tt)

-- a new campaign and its budget
proper_campaign : (S : State) (account amount : ℕ) → IsAlmostKept S → has_account S.tables account ≡ true → is_within BUDGET_MIN BUDGET_MAX amount ≡ true → let number = campaigns_of S.tables account + 1 in
    AreProper S (PutCampaign (record { account = account; number = number; on = true }) ∷ PutBudget (record { account = account; campaign = number; at = S.moment; amount = amount }) ∷ [])
unfolding put
proper_campaign S account amount h there within =
    let number = campaigns_of S.tables account + 1 in
    let made : Campaign = record { account = account; number = number; on = true } in
    let test = λ (c : Campaign). c.account == account && c.number == number in
    let finds = finds_two campaign_key (λ (c : Campaign). c.account) (λ c. c.number) account number (λ x. refl) in (
      there,
      (
        record {
          good = good_amount amount S.moment within h.moment;
          named = and_from (has_account S.tables account) _ there (ap is_some (find-put_same campaign_key made test S.tables.campaigns finds));
          now = refl;
        },
        tt,
      ),
    )

-- a negative that is found is put with another switch
proper_negative_found : (S : State) (live : Bool) (test : Negative → Bool) (n : Negative) → find test S.tables.negatives ≡ Some n → IsAlmostKept S → IsProperNegative S.tables (record n { live = live })
proper_negative_found S live test n is h = record {
  named = (found_all (λ (x : Negative). has_campaign S.tables x.account x.campaign ≡ true) test S.tables.negatives n h.named.negatives is).0;
  alike = Each-mono (λ (k : Negative). is_same_key (negative_key k) (negative_key n) ≡ true → k ≡ n) (λ (k : Negative). is_same_key (negative_key k) (negative_key n) ≡ true → (k.campaign ≡ n.campaign) × (k.pattern ≡ n.pattern)) S.tables.negatives
      (λ k one same. (ap (λ (x : Negative). x.campaign) (one same), ap (λ (x : Negative). x.pattern) (one same)))
      (only negative_key test S.tables.negatives n (Ordered-from negative_key S.tables.negatives h.in_order.negatives) is);
  new = inl (found_has negative_key test S.tables.negatives n is);
}

-- a negative that is neither live nor dropped is not there
neither_like : (owner campaign live pattern : Bool) → (owner && (campaign && (live && pattern))) ≡ false → (owner && (campaign && (not live && pattern))) ≡ false → (owner && (campaign && pattern)) ≡ false
neither_like false campaign live pattern h k = refl
neither_like true false live pattern h k = refl
neither_like true true true pattern h k = h
neither_like true true false pattern h k = k

both_each : {A : Type 0} (P Q R : A → Type 0) (rows : List A) → ((x : A) → P x → Q x → R x) → Each P rows → Each Q rows → Each R rows
both_each P Q R [] f h k = tt
both_each P Q R (r ∷ rows) f h k = (f r h.0 k.0, both_each P Q R rows f h.1 k.1)

no_live : (o : Option Negative) → option_map (λ n. NegativeThere n.number) o ≡ None → o ≡ None
no_live None h = refl
no_live (Some n) h = absurd cc

apart_new : (T : Tables) (account campaign : ℕ) (pattern : List ℕ) → live_negative T account campaign pattern ≡ None → dropped_negative T account campaign pattern ≡ None
    → Each (λ k. is_negative_like account campaign (negative_text pattern) k ≡ false) T.negatives
apart_new T account campaign pattern live dropped =
    let text = negative_text pattern in
    both_each (λ (k : Negative). is_live_like account campaign text k ≡ false) (λ (k : Negative). is_dropped_like account campaign text k ≡ false) (λ (k : Negative). is_negative_like account campaign text k ≡ false) T.negatives
    (λ k first second. neither_like (k.account == account) (k.campaign == campaign) k.live (is_same_pattern k.pattern text) first second)
    (none_found (is_live_like account campaign text) T.negatives live) (none_found (is_dropped_like account campaign text) T.negatives dropped)

proper_live : (S : State) (account campaign : ℕ) (pattern : List ℕ) (dropped : Option Negative) → dropped_negative S.tables account campaign pattern ≡ dropped → IsAlmostKept S → has_campaign S.tables account campaign ≡ true
    → live_negative S.tables account campaign pattern ≡ None → (is_none dropped && nat_le NEGATIVES_MAX (negatives_of S.tables account)) ≡ false
    → IsProperNegative S.tables (live_again (record { account = account; number = negatives_of S.tables account + 1; campaign = campaign; pattern = negative_text pattern; live = true }) dropped)
proper_live S account campaign pattern (Some n) is h there live room = proper_negative_found S true (is_dropped_like account campaign (negative_text pattern)) n is h
proper_live S account campaign pattern None is h there live room =
    let made : Negative = record { account = account; number = negatives_of S.tables account + 1; campaign = campaign; pattern = negative_text pattern; live = true } in
    let new = group_new negative_key (λ (n : Negative). n.account) (λ n. n.number) made S.tables.negatives (λ x. refl) h.numbered.negatives refl in
    record {
      named = there;
      alike = none_same negative_key made (λ (k : Negative). (k.campaign ≡ made.campaign) × (k.pattern ≡ made.pattern)) S.tables.negatives new;
      new = inr (record { apart = apart_new S.tables account campaign pattern live is; room = room_below (negatives_of S.tables account) NEGATIVES_MAX room });
    }

proper_drop : (S : State) (test : Negative → Bool) (found : Option Negative) → find test S.tables.negatives ≡ found → IsAlmostKept S → AreProper S (drop_of found)
proper_drop S test None is h = tt
proper_drop S test (Some n) is h = (proper_negative_found S false test n is h, tt)

-- fates
proper_settled : (S : State) (number : ℕ) (b : Bool) → AreProper S (if b then PutFate number (Settled S.moment) ∷ [] else [])
proper_settled S number true = (refl, tt)
proper_settled S number false = tt

proper_click : (S : State) (found : Option Placement) → AreProper S (settlement S.moment found)
proper_click S None = tt
proper_click S (Some p) = proper_settled S p.number (is_escrowed S.moment p)

proper_credit_on : (S : State) (number : ℕ) (fate : Fate) → AreProper S (credit_on S.moment number fate)
proper_credit_on S number Open = tt
proper_credit_on S number (Settled at) = (refl, tt)
proper_credit_on S number (Credited settled credited) = tt

proper_credit : (S : State) (found : Option Placement) → AreProper S (credit_of S.moment found)
proper_credit S None = tt
proper_credit S (Some p) = proper_credit_on S p.number p.fate

pub proper_call : (S : State) (call : Call) → AreInRange S.settings → IsAlmostKept S → judged S call ≡ None → AreProper S (changes S call)
unfolding changes refusals
proper_call S (AddAccount key) settings h accepts =
    let none = none_holds (refusals S (AddAccount key)) accepts in
    (from_not (is_key key) (not_when _ _ none.0), tt)
proper_call S (SetQuality account line quality) settings h accepts =
    let none = none_holds (refusals S (SetQuality account line quality)) accepts in
    let within = from_not (is_within QUALITY_MIN QUALITY_MAX quality) (not_when _ _ none.1.1.0) in
    proper_line_found S account line (λ l. record l { quality = quality }) (line_of S.tables account line) refl h (λ l. refl) (λ l. refl) (λ l. refl) (λ l. refl) (λ l good. good_with_quality l quality good within)
proper_call S (Suspend account suspended) settings h accepts = proper_account_found S suspended (λ (a : Account). a.number == account) (account_of S.tables account) refl h
proper_call S (Credit placement) settings h accepts = proper_credit S (placement_of S.tables placement)
proper_call S (AddCampaign account key budget) settings h accepts =
    let none = none_holds (refusals S (AddCampaign account key budget)) accepts in
    proper_campaign S account budget h (some_from (account_of S.tables account) (not_when _ _ none.0)) (from_not (is_within BUDGET_MIN BUDGET_MAX budget) (not_when _ _ none.1.1.0))
proper_call S (SetBudget account key campaign amount) settings h accepts =
    let none = none_holds (refusals S (SetBudget account key campaign amount)) accepts in
    proper_set S account campaign amount h
    (campaign_there S.tables account campaign (some_from (account_of S.tables account) (not_when _ _ none.0)) (some_from (campaign_of S.tables account campaign) (not_when _ _ none.1.1.0)))
    (from_not (is_within BUDGET_MIN BUDGET_MAX amount) (not_when _ _ none.1.1.1.0))
proper_call S (AddLine account key campaign bid pattern headline link) settings h accepts =
    let asked : AskedLine = record { campaign = campaign; bid = bid; pattern = pattern; headline = headline; link = link } in
    let none = none_holds (refusals S (AddLine account key campaign bid pattern headline link)) accepts in
    (proper_line S account asked h (some_from (account_of S.tables account) (not_when _ _ none.0)) none.1.1, tt)
proper_call S (SetBid account key line bid) settings h accepts =
    let none = none_holds (refusals S (SetBid account key line bid)) accepts in
    let within = from_not (is_within BID_MIN BID_MAX bid) (not_when _ _ none.1.1.1.0) in
    proper_line_found S account line (λ l. record l { bid = bid }) (line_of S.tables account line) refl h (λ l. refl) (λ l. refl) (λ l. refl) (λ l. refl) (λ l good. good_with_bid l bid good within)
proper_call S (Pause account key part on) settings h accepts = proper_switched S account part on h
proper_call S (AddNegative account key campaign pattern) settings h accepts =
    let none = none_holds (refusals S (AddNegative account key campaign pattern)) accepts in
    let there = campaign_there S.tables account campaign (some_from (account_of S.tables account) (not_when _ _ none.0)) (some_from (campaign_of S.tables account campaign) (not_when _ _ none.1.1.0)) in
    (proper_live S account campaign pattern (dropped_negative S.tables account campaign pattern) refl h there (no_live _ none.1.1.1.1.0) (not_when _ _ none.1.1.1.1.1.0), tt)
proper_call S (DropNegative account key negative) settings h accepts = proper_drop S (λ (n : Negative). n.account == account && n.number == negative) (negative_of S.tables account negative) refl h
proper_call S (Import account key batch rows) settings h accepts =
    let none = none_holds (refusals S (Import account key batch rows)) accepts in
    proper_import S account batch rows (batch_of S.tables account batch) h (some_from (account_of S.tables account) (not_when _ _ none.0)) (from_not (is_within 1 BATCH_MAX batch) (not_when _ _ none.1.1.0)) none.1.1.1
proper_call S (Search text places) settings h accepts =
    let none = none_holds (refusals S (Search text places)) accepts in
    proper_search S text places settings h (not_when _ _ none.1.1.0)
proper_call S (Click placement) settings h accepts = proper_click S (placement_of S.tables placement)
proper_call S call settings h accepts = tt
