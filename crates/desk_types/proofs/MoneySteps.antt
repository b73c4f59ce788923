-- How each call moves the money of a campaign on a day.
use Rattle.std.proofs.Common.{◌≡◌, ℕ, ◌+◌, ◌≤◌, Bool, true, false, ◌==◌, cond, inl, inr, List, [], ◌∷◌, length, map, Option, None, Some, is_none, refl, sym, ap, subst, ◌∙◌, arith}
use Rattle.std.specs.Prelude.{nat_le, nat_lt, pos, ◌≤ℤ◌}
use Rattle.std.specs.List.{All}
use Rattle.std.proofs.lemmas.Bool.{cases_Bool, eqb-true}
use Rattle.std.proofs.lemmas.Bool.Decides.{nat_tests}
use Rattle.std.proofs.lemmas.Int.{ints}
use Rattle.query_words.specs.Words.{words_of}
use Rattle.desk_types.specs.declared.limits.TheConstants.{CLICK_WINDOW}
use Rattle.desk_types.specs.declared.call.Call.{Call}
use Rattle.desk_types.specs.declared.call.Call.TheVariants.{AddAccount, SetQuality, Suspend, Credit, HostReport, AddCampaign, SetBudget, AddLine, SetBid, Pause, AddNegative, DropNegative, Import, Report, Shown, Search, Click}
use Rattle.desk_types.specs.declared.call.ImportRow.{ImportRow}
use Rattle.desk_types.specs.declared.call.Part.{Part}
use Rattle.desk_types.specs.declared.call.Part.TheVariants.{OfCampaign, OfLine}
use Rattle.desk_types.specs.declared.refusal.Refusal.{Refusal}
use Rattle.desk_types.specs.declared.refusal.Refusal.TheVariants.{NoPlacement}
use Rattle.desk_types.specs.declared.reply.Reply.TheVariants as replies
use Rattle.desk_types.specs.declared.reply.Spot.{Spot}
use Rattle.desk_types.specs.declared.rows.Batch.{Batch}
use Rattle.desk_types.specs.declared.rows.BudgetSet.{BudgetSet}
use Rattle.desk_types.specs.declared.rows.Fate.{Fate}
use Rattle.desk_types.specs.declared.rows.Fate.TheVariants.{Open, Settled, Credited}
use Rattle.desk_types.specs.declared.rows.Line.{Line}
use Rattle.desk_types.specs.declared.rows.Negative.{Negative}
use Rattle.desk_types.specs.declared.rows.Placement.{Placement}
use Rattle.desk_types.specs.declared.tables.Change.{Change}
use Rattle.desk_types.specs.declared.tables.Change.TheVariants.{PutAccount, PutCampaign, PutBudget, PutLine, PutPlacement, PutBatch, PutFate}
use Rattle.desk_types.specs.declared.tables.Tables.{Tables}
use Rattle.auction_types.specs.AdValue.{AdValue}
use Rattle.desk_types.specs.Changes.{all_placed, changes, credit_of, drop_of, import_of, placements_for, put_found, reply, settlement, switch_of}
use Rattle.desk_types.specs.Day.{day_of}
use Rattle.desk_types.specs.Eligible.{entrants_for}
use Rattle.desk_types.specs.Judged.{first, judged, page_of, places_of, refusals, when}
use Rattle.desk_types.specs.Keys.{budget_key, placement_key}
use Rattle.desk_types.specs.Money.{budget, escrowed, free, is_escrowed, spent}
use Rattle.desk_types.specs.MoneyMoves.{CampaignAndDay, IsAffordable, IsEscrowed, IsSettled, may_move_money, money, on_day, prices, settling, with_budget}
use Rattle.desk_types.specs.State.{State}
use Rattle.desk_types.specs.Step.{accepted, answered, at_moment, step}
use Rattle.desk_types.specs.Tables.{batch_of, campaign_of, campaigns_of, line_of, negative_of, placement_of, put, put_all, put_fate}
use Rattle.auction_types.proofs.Members.{Has}
use Rattle.auction_types.proofs.PriceLemmas.{price-le-bid}
use Rattle.desk_types.proofs.EachRow.{All-from_Each, Each, Each-append, Each-mono}
use Rattle.desk_types.proofs.Histories.{placements_put}
use Rattle.desk_types.proofs.InOrder.{Each-from_All, Ordered-from, StandInOrder-put}
use Rattle.desk_types.proofs.Lawful.{changed, finds_one, found_test}
use Rattle.desk_types.proofs.MoneyMoves.{IsNew, IsQuiet, all_quiet, credited, day-le, set, settled, shown}
use Rattle.desk_types.proofs.Refusing.{refused-alone}
use Rattle.desk_types.proofs.SecondPrice.{IsFit, apart_entrants, fit_entrant, lines_in_range, page_among}
use Rattle.desk_types.proofs.Sound.{sound_later}
use Rattle.desk_types.proofs.Stable.{IsStable}

-- the edition is no money
money-accepted : (S : State) (call : Call) (on : CampaignAndDay) → money (accepted S call) on ≡ money (record S { tables = put_all S.tables (changes S call) }) on
unfolding accepted budget spent escrowed
money-accepted S call on = refl

-- a placement that is put leaves the budgets as they are
budgets_stay : (T : Tables) (ps : List Placement) → (put_all T (map PutPlacement ps)).budgets ≡ T.budgets
unfolding put put_all
budgets_stay T [] = refl
budgets_stay T (p ∷ ps) = budgets_stay (put T (PutPlacement p)) ps

window_open : (moment : ℕ) → nat_lt moment (moment + CLICK_WINDOW) ≡ true
window_open moment = grind (arith, nat_tests)

placed_new : (S : State) (entered : List AdValue) (number : ℕ) (ads : List AdValue) → Each (IsNew S.moment) (all_placed S entered number ads)
placed_new S entered number [] = tt
placed_new S entered number (a ∷ ads) = (window_open S.moment, placed_new S entered (number + 1) ads)

search_moves : (S : State) (text : List ℕ) (places : Option ℕ) (judgement : Option Refusal) (spots : List Spot) (on : CampaignAndDay) → IsStable S → (answered S (Search text places) judgement).reply ≡ replies.Page spots
    → IsEscrowed (prices on (placements_for S text places)) (money S on) (money (answered S (Search text places) judgement).state on)
unfolding accepted changes reply
search_moves S text places (Some refusal) spots on h is = absurd cc
search_moves S text places None spots on h is =
    let new = placements_for S text places in
    shown S (accepted S (Search text places)) new on refl (budgets_stay S.tables new)
    (placements_put S S.tables (entrants_for S (words_of text)) (length S.tables.placements + 1) (page_of S text places) h.numbered.placements refl)
    (placed_new S (entrants_for S (words_of text)) (length S.tables.placements + 1) (page_of S text places))

pub shown_law : (S : State) (moment : ℕ) (text : List ℕ) (places : Option ℕ) (spots : List Spot) (on : CampaignAndDay) → IsStable S → let S1 = at_moment S moment in let reached = step S moment (Search text places) in
    reached.reply ≡ replies.Page spots → IsEscrowed (prices on (placements_for S1 text places)) (money S1 on) (money reached.state on)
unfolding step
shown_law S moment text places spots on h is =
    let S1 : State = at_moment S moment in search_moves S1 text places (judged S1 (Search text places)) spots on (sound_later S moment h) is

-- the ads of a page can be paid
free_covers : (S : State) (a : AdValue) → IsFit S a → pos a.bid ≤ℤ free S a.account a.campaign (day_of S.moment)
free_covers S a fit = grind (arith, ints, fit.paid)

all_affordable : (S : State) (entered : List AdValue) (number : ℕ) (ads : List AdValue) → ((a : AdValue) → Has ads a → IsFit S a) → Each (IsAffordable S) (all_placed S entered number ads)
all_affordable S entered number [] fit = tt
all_affordable S entered number (a ∷ ads) fit = (
  record { price = price-le-bid S.settings.reserve S.settings.floor entered a (fit a (inl refl)).reserve; free = free_covers S a (fit a (inl refl)) },
  all_affordable S entered (number + 1) ads (λ b k. fit b (inr k)),
)

affordable : (S : State) (text : List ℕ) (places : Option ℕ) → IsStable S → All (IsAffordable S) (placements_for S text places)
affordable S text places h =
    let query = words_of text in
    let entered = entrants_for S query in
    let in_range = lines_in_range S h in
    let apart = apart_entrants S query in_range in
    All-from_Each (IsAffordable S) (placements_for S text places) (all_affordable S entered (length S.tables.placements + 1) (page_of S text places)
    (λ a k. fit_entrant S query a in_range (page_among entered (places_of S places) a apart k)))

pub affordable_law : (S : State) (moment : ℕ) (text : List ℕ) (places : Option ℕ) → IsStable S → let S1 = at_moment S moment in All (IsAffordable S1) (placements_for S1 text places)
affordable_law S moment text places h = affordable (at_moment S moment) text places (sound_later S moment h)

-- a click
settles_none : (S : State) (on : CampaignAndDay) → IsSettled (prices on []) (money S on) (money S on)
settles_none S on = record { budget = refl; spent = omega arith; escrowed = omega arith }

click_puts : (S : State) (n : ℕ) (p : Placement) (on : CampaignAndDay) → placement_of S.tables n ≡ Some p → is_escrowed S.moment p ≡ true
    → IsSettled (prices on (p ∷ [])) (money S on) (money (record S { tables = put_all S.tables (PutFate p.number (Settled S.moment) ∷ []) }) on)
unfolding put put_all
click_puts S n p on found held =
    let here : p.number ≡ n = eqb-true p.number n (found_test (λ (x : Placement). x.number == n) S.tables.placements p found) in
    let known : placement_of S.tables p.number ≡ Some p = subst (λ m. placement_of S.tables m ≡ Some p) (sym here) found in
    let T : State = record S { tables = put_fate S.tables (Settled S.moment) (placement_of S.tables p.number) } in
    let now : T.tables ≡ put_fate S.tables (Settled S.moment) (Some p) = ap (put_fate S.tables (Settled S.moment)) known in
    settled S T p S.moment (λ (x : Placement). x.number == p.number) on refl (ap (λ (U : Tables). U.budgets) now) (ap (λ (U : Tables). U.placements) now)
    (finds_one placement_key (λ (x : Placement). x.number) p.number (λ x. refl)) known held

click_settles : (S : State) (n : ℕ) (found : Option Placement) (on : CampaignAndDay) → placement_of S.tables n ≡ found
    → IsSettled (prices on (settling S.moment found)) (money S on) (money (record S { tables = put_all S.tables (settlement S.moment found) }) on)
unfolding put_all
click_settles S n None on is = settles_none S on
click_settles S n (Some p) on is =
    elim (cases_Bool (is_escrowed S.moment p)) [
      | inl t ↦
          subst (λ b. IsSettled (prices on (cond b (p ∷ []) [])) (money S on) (money (record S { tables = put_all S.tables (cond b (PutFate p.number (Settled S.moment) ∷ []) []) }) on)) (sym t) (click_puts S n p on is t)
      | inr t ↦
          subst (λ b. IsSettled (prices on (cond b (p ∷ []) [])) (money S on) (money (record S { tables = put_all S.tables (cond b (PutFate p.number (Settled S.moment) ∷ []) []) }) on)) (sym t) (settles_none S on)
    ]

click_moves : (S : State) (n : ℕ) (found : Option Placement) (on : CampaignAndDay) → placement_of S.tables n ≡ found
    → IsSettled (prices on (settling S.moment found)) (money S on) (money (answered S (Click n) (first (when (is_none found) NoPlacement ∷ []))).state on)
unfolding changes
click_moves S n None on is = settles_none S on
click_moves S n (Some p) on is =
    subst (IsSettled (prices on (settling S.moment (Some p))) (money S on)) (sym (money-accepted S (Click n) on ∙ ap (λ o. money (record S { tables = put_all S.tables (settlement S.moment o) }) on) is))
    (click_settles S n (Some p) on is)

pub settled_law : (S : State) (moment placement : ℕ) (on : CampaignAndDay) → IsStable S → let S1 = at_moment S moment in
    IsSettled (prices on (settling S1.moment (placement_of S1.tables placement))) (money S1 on) (money (step S moment (Click placement)).state on)
unfolding step refusals
settled_law S moment placement on h = let S1 : State = at_moment S moment in click_moves S1 placement (placement_of S1.tables placement) on refl

-- a budget that is set
days_before : (S : State) → IsStable S → Each (λ (s : BudgetSet). nat_le (day_of s.at) (day_of S.moment) ≡ true) S.tables.budgets
days_before S h =
    Each-mono (λ (s : BudgetSet). s.at ≤ S.moment) (λ (s : BudgetSet). nat_le (day_of s.at) (day_of S.moment) ≡ true) S.tables.budgets (λ s low. day-le s.at S.moment low)
    (Each-from_All (λ (s : BudgetSet). s.at ≤ S.moment) S.tables.budgets h.past.budgets)

put_moves : (S : State) (account campaign amount : ℕ) (on : CampaignAndDay) → IsStable S → let new : BudgetSet = record { account = account; campaign = campaign; at = S.moment; amount = amount } in
    money (changed S (PutBudget new)) on ≡ with_budget (on_day account campaign (day_of S.moment)) amount on (money S on)
unfolding put
put_moves S account campaign amount on h =
    let new : BudgetSet = record { account = account; campaign = campaign; at = S.moment; amount = amount } in
    set S (changed S (PutBudget new)) new on refl refl refl (Ordered-from budget_key S.tables.budgets h.in_order.budgets)
    (Ordered-from budget_key (changed S (PutBudget new)).tables.budgets (StandInOrder-put S.tables (PutBudget new) h.in_order).budgets) (days_before S h)

set_moves : (S : State) (account : ℕ) (key : List ℕ) (campaign amount : ℕ) (judgement : Option Refusal) (on : CampaignAndDay) → IsStable S → (answered S (SetBudget account key campaign amount) judgement).reply ≡ replies.Done
    → money (answered S (SetBudget account key campaign amount) judgement).state on ≡ with_budget (on_day account campaign (day_of S.moment)) amount on (money S on)
unfolding changes put_all
set_moves S account key campaign amount (Some refusal) on h is = absurd cc
set_moves S account key campaign amount None on h is = money-accepted S (SetBudget account key campaign amount) on ∙ put_moves S account campaign amount on h

pub set_law : (S : State) (moment account : ℕ) (key : List ℕ) (campaign amount : ℕ) (on : CampaignAndDay) → IsStable S → let S1 = at_moment S moment in let reached = step S moment (SetBudget account key campaign amount) in
    reached.reply ≡ replies.Done → money reached.state on ≡ with_budget (on_day account campaign (day_of S1.moment)) amount on (money S1 on)
unfolding step
set_law S moment account key campaign amount on h is =
    let S1 : State = at_moment S moment in set_moves S1 account key campaign amount (judged S1 (SetBudget account key campaign amount)) on (sound_later S moment h) is

-- the budget of a campaign that is made
made_is : (m n : ℕ) → replies.Made m ≡ replies.Made n → m ≡ n
made_is m n h = cc

made_moves : (S : State) (account : ℕ) (key : List ℕ) (campaign amount : ℕ) (judgement : Option Refusal) (on : CampaignAndDay) → IsStable S → (answered S (AddCampaign account key amount) judgement).reply ≡ replies.Made campaign
    → money (answered S (AddCampaign account key amount) judgement).state on ≡ with_budget (on_day account campaign (day_of S.moment)) amount on (money S on)
unfolding changes reply put put_all budget spent escrowed
made_moves S account key campaign amount (Some refusal) on h is = absurd cc
made_moves S account key campaign amount None on h is =
    let number = campaigns_of S.tables account + 1 in
    let moved = put_moves S account number amount on h in
    money-accepted S (AddCampaign account key amount) on ∙ moved
    ∙ ap (λ n. with_budget (on_day account n (day_of S.moment)) amount on (money S on)) (made_is number campaign is)

pub made_law : (S : State) (moment account : ℕ) (key : List ℕ) (campaign amount : ℕ) (on : CampaignAndDay) → IsStable S → let S1 = at_moment S moment in let reached = step S moment (AddCampaign account key amount) in
    reached.reply ≡ replies.Made campaign → money reached.state on ≡ with_budget (on_day account campaign (day_of S1.moment)) amount on (money S1 on)
unfolding step
made_law S moment account key campaign amount on h is =
    let S1 : State = at_moment S moment in made_moves S1 account key campaign amount (judged S1 (AddCampaign account key amount)) on (sound_later S moment h) is

-- what else is put moves no money
quiet_found : {A : Type 0} (change : A → Change) (found : Option A) → ((x : A) → IsQuiet (change x)) → Each IsQuiet (put_found change found)
quiet_found change None h = tt
quiet_found change (Some x) h = (h x, tt)

quiet_switch : (T : Tables) (account : ℕ) (part : Part) (on : Bool) → Each IsQuiet (switch_of T account part on)
quiet_switch T account (OfCampaign campaign) on = quiet_found (λ c. PutCampaign (record c { on = on })) (campaign_of T account campaign) (λ c. tt)
quiet_switch T account (OfLine line) on = quiet_found (λ l. PutLine (record l { on = on })) (line_of T account line) (λ l. tt)

quiet_drop : (found : Option Negative) → Each IsQuiet (drop_of found)
quiet_drop None = tt
quiet_drop (Some n) = (tt, tt)

quiet_lines : (ls : List Line) → Each IsQuiet (map PutLine ls)
quiet_lines [] = tt
quiet_lines (l ∷ ls) = (tt, quiet_lines ls)

quiet_import : (T : Tables) (account number : ℕ) (rows : List ImportRow) (found : Option Batch) → Each IsQuiet (import_of T account number rows found)
quiet_import T account number rows (Some there) = tt
quiet_import T account number rows None = Each-append IsQuiet (map PutLine _) (PutBatch _ ∷ []) (quiet_lines _) (tt, tt)

credit_puts : (S : State) (n settled : ℕ) (p : Placement) (on : CampaignAndDay) → placement_of S.tables n ≡ Some p → p.fate ≡ Settled settled
    → money (record S { tables = put_all S.tables (PutFate p.number (Credited settled S.moment) ∷ []) }) on ≡ money S on
unfolding put put_all
credit_puts S n settled p on found was =
    let here : p.number ≡ n = eqb-true p.number n (found_test (λ (x : Placement). x.number == n) S.tables.placements p found) in
    let known : placement_of S.tables p.number ≡ Some p = subst (λ m. placement_of S.tables m ≡ Some p) (sym here) found in
    let T : State = record S { tables = put_fate S.tables (Credited settled S.moment) (placement_of S.tables p.number) } in
    let now : T.tables ≡ put_fate S.tables (Credited settled S.moment) (Some p) = ap (put_fate S.tables (Credited settled S.moment)) known in
    credited S T p settled S.moment (λ (x : Placement). x.number == p.number) on refl (ap (λ (U : Tables). U.budgets) now) (ap (λ (U : Tables). U.placements) now)
    (finds_one placement_key (λ (x : Placement). x.number) p.number (λ x. refl)) known was

credit_by : (S : State) (n : ℕ) (p : Placement) (fate : Fate) (on : CampaignAndDay) → placement_of S.tables n ≡ Some p → p.fate ≡ fate
    → money (record S { tables = put_all S.tables (credit_of S.moment (Some (record p { fate = fate }))) }) on ≡ money S on
unfolding put_all
credit_by S n p Open on is was = refl
credit_by S n p (Settled at) on is was = credit_puts S n at p on is was
credit_by S n p (Credited settled at) on is was = refl

credit_moves : (S : State) (n : ℕ) (found : Option Placement) (on : CampaignAndDay) → placement_of S.tables n ≡ found → money (record S { tables = put_all S.tables (credit_of S.moment found) }) on ≡ money S on
unfolding put_all
credit_moves S n None on is = refl
credit_moves S n (Some p) on is = credit_by S n p p.fate on is refl

moves_none : (S : State) (call : Call) (on : CampaignAndDay) → may_move_money call ≡ false → money (record S { tables = put_all S.tables (changes S call) }) on ≡ money S on
unfolding changes
moves_none S (AddAccount key) on h = all_quiet S _ on (tt, tt)
moves_none S (SetQuality account line quality) on h = all_quiet S _ on (quiet_found (λ l. PutLine (record l { quality = quality })) (line_of S.tables account line) (λ l. tt))
moves_none S (Suspend account suspended) on h = all_quiet S _ on (quiet_found (λ a. PutAccount (record a { suspended = suspended })) _ (λ a. tt))
moves_none S (Credit placement) on h = credit_moves S placement (placement_of S.tables placement) on refl
moves_none S (HostReport day) on h = all_quiet S [] on tt
moves_none S (AddCampaign account key budget) on h = absurd cc
moves_none S (SetBudget account key campaign amount) on h = absurd cc
moves_none S (AddLine account key campaign bid pattern headline link) on h = all_quiet S _ on (tt, tt)
moves_none S (SetBid account key line bid) on h = all_quiet S _ on (quiet_found (λ l. PutLine (record l { bid = bid })) (line_of S.tables account line) (λ l. tt))
moves_none S (Pause account key part switch) on h = all_quiet S _ on (quiet_switch S.tables account part switch)
moves_none S (AddNegative account key campaign pattern) on h = all_quiet S _ on (tt, tt)
moves_none S (DropNegative account key negative) on h = all_quiet S _ on (quiet_drop (negative_of S.tables account negative))
moves_none S (Import account key batch rows) on h = all_quiet S _ on (quiet_import S.tables account batch rows (batch_of S.tables account batch))
moves_none S (Report account key day) on h = all_quiet S [] on tt
moves_none S (Shown account key day from) on h = all_quiet S [] on tt
moves_none S (Search text places) on h = absurd cc
moves_none S (Click placement) on h = absurd cc

other_moves : (S : State) (call : Call) (judgement : Option Refusal) (on : CampaignAndDay) → may_move_money call ≡ false → money (answered S call judgement).state on ≡ money S on
other_moves S call (Some refusal) on h = refl
other_moves S call None on h = money-accepted S call on ∙ moves_none S call on h

pub other_law : (S : State) (moment : ℕ) (call : Call) (on : CampaignAndDay) → may_move_money call ≡ false → money (step S moment call).state on ≡ money (at_moment S moment) on
unfolding step
other_law S moment call on h = let S1 : State = at_moment S moment in other_moves S1 call (judged S1 call) on h

pub refused_law : (S : State) (moment : ℕ) (call : Call) (refusal : Refusal) (on : CampaignAndDay) → (step S moment call).reply ≡ replies.Refused refusal → money (step S moment call).state on ≡ money (at_moment S moment) on
refused_law S moment call refusal on h = ap (λ R. money R on) (refused-alone S moment call refusal h)
