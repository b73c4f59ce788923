-- The changes of an edit that is not refused are of accounts that are there.
use Rattle.std.proofs.Common.{◌≡◌, ℕ, ◌+◌, Bool, true, false, ◌==◌, ◌&&◌, inl, inr, List, [], ◌∷◌, ◌++◌, find, map, Option, None, Some, is_none, is_some, Result, Ok, Err, IfOk, OnOk, refl, sym, ap, subst, ◌∙◌}
use Rattle.std.proofs.lemmas.Bool.{cases_Bool, cond-true, cond-false, and_parts, eq-eqb, eqb-true}
use Rattle.std.proofs.lemmas.Option.{same_Some}
use Rattle.desk_types.specs.declared.call.Call.{Call}
use Rattle.desk_types.specs.declared.call.Call.TheVariants.{AddAccount, SetQuality, Suspend, Credit, HostReport, AddCampaign, SetBudget, AddLine, SetBid, Pause, AddNegative, DropNegative, Import, Report, Shown, Search, Click}
use Rattle.desk_types.specs.declared.call.ImportRow.{ImportRow}
use Rattle.desk_types.specs.declared.call.Part.{Part}
use Rattle.desk_types.specs.declared.call.Part.TheVariants.{OfCampaign, OfLine}
use Rattle.desk_types.specs.declared.refusal.Refusal.TheVariants.{NoAccount}
use Rattle.desk_types.specs.declared.rows.Account.{Account}
use Rattle.desk_types.specs.declared.rows.Batch.{Batch}
use Rattle.desk_types.specs.declared.rows.BudgetSet.{BudgetSet}
use Rattle.desk_types.specs.declared.rows.Campaign.{Campaign}
use Rattle.desk_types.specs.declared.rows.Line.{Line}
use Rattle.desk_types.specs.declared.rows.Negative.{Negative}
use Rattle.desk_types.specs.declared.tables.Change.{Change}
use Rattle.desk_types.specs.declared.tables.Change.TheVariants.{PutAccount, PutCampaign, PutBudget, PutLine, PutNegative, PutPlacement, PutBatch, PutFate}
use Rattle.desk_types.specs.declared.tables.Tables.{Tables}
use Rattle.desk_types.specs.Asked.{asked_by, lines_made, with_line}
use Rattle.desk_types.specs.Changes.{changes, drop_of, import_of, live_again, negative_made, put_found, switch_of}
use Rattle.desk_types.specs.Judged.{dropped_negative, first, is_dropped_like, judged, refusals, when}
use Rattle.desk_types.specs.Tables.{account_of, batch_of, campaign_of, line_of, negative_of, negatives_of, put}
use Rattle.desk_types.proofs.Accepting.{none_holds, not_when}
use Rattle.desk_types.proofs.EachRow.{All-from_Each, Each}
use Rattle.accounts.specs.declared.plan.EditFault.{EditFault}
use Rattle.accounts.specs.declared.plan.Plan.{Plan}
use Rattle.accounts.specs.AtHome.{AreAtHome, CanBePut, HasAccount, HasOwner, IsAtHome}
use Rattle.accounts.specs.Planned.{IsPlanned, budget_rows, reads_no_placement, state_on}

some_if_not : {A : Type 0} (o : Option A) → is_none o ≡ false → is_some o ≡ true
some_if_not None h = absurd cc
some_if_not (Some x) h = refl

-- the account of a call that is not refused is there
known : (T : Tables) (account : ℕ) → when (is_none (account_of T account)) NoAccount ≡ None → HasAccount T account
known T account h = some_if_not (account_of T account) (not_when (is_none (account_of T account)) NoAccount h)

-- a row that was found passes the test, and is found by every test that it passes
passes : {A : Type 0} (test : A → Bool) (rows : List A) (x : A) → find test rows ≡ Some x → test x ≡ true
passes test [] x h = absurd cc
passes test (r ∷ rows) x h =
    elim (cases_Bool (test r)) [
      | inl t ↦ subst (λ y. test y ≡ true) (same_Some r x (sym (cond-true (test r) (Some r) (find test rows) t) ∙ h)) t
      | inr t ↦ passes test rows x (sym (cond-false (test r) (Some r) (find test rows) t) ∙ h)
    ]

both : (b : Bool) → b ≡ false → b ≡ true → ⊥
both true f t = cc
both false f t = cc

found_too : {A : Type 0} (test other : A → Bool) (rows : List A) (x : A) → find test rows ≡ Some x → other x ≡ true → is_some (find other rows) ≡ true
found_too test other [] x h k = absurd cc
found_too test other (r ∷ rows) x h k =
    elim (cases_Bool (other r)) [
      | inl t ↦ ap is_some (cond-true (other r) (Some r) (find other rows) t)
      | inr t ↦
          ap is_some (cond-false (other r) (Some r) (find other rows) t)
          ∙ elim (cases_Bool (test r)) [
            | inl s ↦ absurd (both (other r) t (subst (λ y. other y ≡ true) (sym (same_Some r x (sym (cond-true (test r) (Some r) (find test rows) s) ∙ h))) k))
            | inr s ↦ found_too test other rows x (sym (cond-false (test r) (Some r) (find test rows) s) ∙ h) k
          ]
    ]

-- the numbers of a row find it
finds_itself : (account number : ℕ) → (account == account && number == number) ≡ true
finds_itself account number = (λ i. eq-eqb account account refl i && eq-eqb number number refl i)

home_drop : (T : Tables) (account negative : ℕ) (found : Option Negative) → negative_of T account negative ≡ found → HasAccount T account
    → AreAtHome T (drop_of found)
home_drop T account negative None is there = tt
home_drop T account negative (Some n) is there =
    let test = λ (x : Negative). x.account == account && x.number == negative in
    let same = and_parts (n.account == account) (n.number == negative) (passes test T.negatives n is) in (
      (subst (HasAccount T) (sym (eqb-true n.account account same.0)) there, inl (found_too test (λ x. x.account == n.account && x.number == n.number) T.negatives n is (finds_itself n.account n.number))),
      tt,
    )

-- a row that is found by its numbers, and is put with a change to it
home_line : (T : Tables) (account line : ℕ) (new : Line → Line) (found : Option Line) → line_of T account line ≡ found → ((l : Line) → (new l).account ≡ l.account) → ((l : Line) → (new l).number ≡ l.number)
    → HasAccount T account → AreAtHome T (put_found (λ l. PutLine (new l)) found)
home_line T account line new None is owner number there = tt
home_line T account line new (Some l) is owner number there =
    let test = λ (x : Line). x.account == account && x.number == line in
    let same = and_parts (l.account == account) (l.number == line) (passes test T.lines l is) in
    let here : is_some (line_of T l.account l.number) ≡ true = found_too test (λ x. x.account == l.account && x.number == l.number) T.lines l is (finds_itself l.account l.number) in (
      (
        subst (HasAccount T) (sym (owner l ∙ eqb-true l.account account same.0)) there,
        inl (subst (λ a. is_some (line_of T a (new l).number) ≡ true) (sym (owner l)) (subst (λ n. is_some (line_of T l.account n) ≡ true) (sym (number l)) here)),
      ),
      tt,
    )

home_campaign : (T : Tables) (account campaign : ℕ) (on : Bool) (found : Option Campaign) → campaign_of T account campaign ≡ found → HasAccount T account
    → AreAtHome T (put_found (λ c. PutCampaign (record c { on = on })) found)
home_campaign T account campaign on None is there = tt
home_campaign T account campaign on (Some c) is there =
    let test = λ (x : Campaign). x.account == account && x.number == campaign in
    let same = and_parts (c.account == account) (c.number == campaign) (passes test T.campaigns c is) in (
      (subst (HasAccount T) (sym (eqb-true c.account account same.0)) there, inl (found_too test (λ x. x.account == c.account && x.number == c.number) T.campaigns c is (finds_itself c.account c.number))),
      tt,
    )

home_account : (T : Tables) (account : ℕ) (suspended : Bool) (found : Option Account) → account_of T account ≡ found → AreAtHome T (put_found (λ a. PutAccount (record a { suspended = suspended })) found)
home_account T account suspended None is = tt
home_account T account suspended (Some a) is =
    let test = λ (x : Account). x.number == account in
    (inl (found_too test (λ x. x.number == a.number) T.accounts a is (eq-eqb a.number a.number refl)), tt)

home_part : (T : Tables) (account : ℕ) (part : Part) (on : Bool) → HasAccount T account → AreAtHome T (switch_of T account part on)
home_part T account (OfCampaign campaign) on there = home_campaign T account campaign on (campaign_of T account campaign) refl there
home_part T account (OfLine line) on there = home_line T account line (λ l. record l { on = on }) (line_of T account line) refl (λ l. refl) (λ l. refl) there

-- the lines of an import, and its batch
home_lines : (T : Tables) (account : ℕ) (rows : List ImportRow) (b : Batch) → HasAccount T account → b.account ≡ account → AreAtHome T (map PutLine (lines_made T account rows) ++ PutBatch b ∷ [])
unfolding put
home_lines T account [] b there owner = (subst (HasAccount T) (sym owner) there, tt)
home_lines T account (row ∷ rows) b there owner = ((there, inr refl), home_lines (with_line T account (asked_by row)) account rows b there owner)

home_import : (T : Tables) (account number : ℕ) (rows : List ImportRow) (found : Option Batch) → HasAccount T account → AreAtHome T (import_of T account number rows found)
home_import T account number rows (Some b) there = tt
home_import T account number rows None there = home_lines T account rows _ there refl

home_live : (T : Tables) (account campaign : ℕ) (pattern : List ℕ) (new : Negative) (found : Option Negative) → find (is_dropped_like account campaign pattern) T.negatives ≡ found → HasAccount T account
    → new.account ≡ account → new.number ≡ negatives_of T account + 1 → AreAtHome T (PutNegative (live_again new found) ∷ [])
home_live T account campaign pattern new None is there owner next =
    ((subst (HasAccount T) (sym owner) there, inr (next ∙ ap (λ a. negatives_of T a + 1) (sym owner))), tt)
home_live T account campaign pattern new (Some d) is there owner next =
    let same = and_parts (d.account == account) _ (passes (is_dropped_like account campaign pattern) T.negatives d is) in (
      (subst (HasAccount T) (sym (eqb-true d.account account same.0)) there, inl (found_too (is_dropped_like account campaign pattern) (λ x. x.account == d.account && x.number == d.number) T.negatives d is (finds_itself d.account d.number))),
      tt,
    )

pub at_home : (T : Tables) (moment : ℕ) (call : Call) → reads_no_placement call ≡ true → judged (state_on T moment) call ≡ None → AreAtHome T (changes (state_on T moment) call)
unfolding changes refusals put
at_home T moment (AddAccount key) edit h = (inr refl, tt)
at_home T moment (SetQuality account line quality) edit h =
    home_line T account line (λ l. record l { quality = quality }) (line_of T account line) refl (λ l. refl) (λ l. refl)
    (known T account (none_holds (refusals (state_on T moment) (SetQuality account line quality)) h).0)
at_home T moment (Suspend account suspended) edit h = home_account T account suspended (account_of T account) refl
at_home T moment (AddCampaign account key budget) edit h =
    let there = known T account (none_holds (refusals (state_on T moment) (AddCampaign account key budget)) h).0 in
    ((there, inr refl), (there, tt))
at_home T moment (AddLine account key campaign bid pattern headline link) edit h =
    ((known T account (none_holds (refusals (state_on T moment) (AddLine account key campaign bid pattern headline link)) h).0, inr refl), tt)
at_home T moment (SetBid account key line bid) edit h =
    home_line T account line (λ l. record l { bid = bid }) (line_of T account line) refl (λ l. refl) (λ l. refl)
    (known T account (none_holds (refusals (state_on T moment) (SetBid account key line bid)) h).0)
at_home T moment (Pause account key part on) edit h = home_part T account part on (known T account (none_holds (refusals (state_on T moment) (Pause account key part on)) h).0)
at_home T moment (AddNegative account key campaign pattern) edit h =
    home_live T account campaign _ _ (dropped_negative T account campaign pattern) refl (known T account (none_holds (refusals (state_on T moment) (AddNegative account key campaign pattern)) h).0) refl refl
at_home T moment (DropNegative account key negative) edit h =
    home_drop T account negative (negative_of T account negative) refl (known T account (none_holds (refusals (state_on T moment) (DropNegative account key negative)) h).0)
at_home T moment (Import account key batch rows) edit h =
    home_import T account batch rows (batch_of T account batch) (known T account (none_holds (refusals (state_on T moment) (Import account key batch rows)) h).0)
at_home T moment (Credit placement) edit h = absurd cc
at_home T moment (HostReport day) edit h = absurd cc
at_home T moment (SetBudget account key campaign amount) edit h = absurd cc
at_home T moment (Report account key day) edit h = absurd cc
at_home T moment (Shown account key day from) edit h = absurd cc
at_home T moment (Search text places) edit h = absurd cc
at_home T moment (Click placement) edit h = absurd cc

-- the account of each change is there from the start
owner_home : (T : Tables) (change : Change) → IsAtHome T change → HasOwner T change
owner_home T (PutAccount a) h = tt
owner_home T (PutCampaign c) h = h.0
owner_home T (PutBudget b) h = h
owner_home T (PutLine l) h = h.0
owner_home T (PutNegative n) h = h.0
owner_home T (PutPlacement p) h = absurd (elim h [ ])
owner_home T (PutBatch b) h = h
owner_home T (PutFate number fate) h = absurd (elim h [ ])

owned_drop : (T : Tables) (found : Option Negative) → AreAtHome T (drop_of found) → Each (HasOwner T) (drop_of found)
owned_drop T None h = tt
owned_drop T (Some n) h = (h.0.0, tt)

owned_found : {A : Type 0} (T : Tables) (new : A → Change) (found : Option A) → AreAtHome T (put_found new found) → Each (HasOwner T) (put_found new found)
owned_found T new None h = tt
owned_found T new (Some x) h = (owner_home T (new x) h.0, tt)

owned_part : (T : Tables) (account : ℕ) (part : Part) (on : Bool) → AreAtHome T (switch_of T account part on) → Each (HasOwner T) (switch_of T account part on)
owned_part T account (OfCampaign campaign) on h = owned_found T (λ c. PutCampaign (record c { on = on })) (campaign_of T account campaign) h
owned_part T account (OfLine line) on h = owned_found T (λ l. PutLine (record l { on = on })) (line_of T account line) h

owned_lines : (T U : Tables) (account : ℕ) (rows : List ImportRow) (b : Batch) → HasAccount T account → b.account ≡ account → Each (HasOwner T) (map PutLine (lines_made U account rows) ++ PutBatch b ∷ [])
owned_lines T U account [] b there owner = (subst (HasAccount T) (sym owner) there, tt)
owned_lines T U account (row ∷ rows) b there owner = (there, owned_lines T (with_line U account (asked_by row)) account rows b there owner)

owned_import : (T : Tables) (account number : ℕ) (rows : List ImportRow) (found : Option Batch) → HasAccount T account → Each (HasOwner T) (import_of T account number rows found)
owned_import T account number rows (Some b) there = tt
owned_import T account number rows None there = owned_lines T T account rows _ there refl

owned_call : (T : Tables) (moment : ℕ) (call : Call) → reads_no_placement call ≡ true → judged (state_on T moment) call ≡ None → AreAtHome T (changes (state_on T moment) call) → Each (HasOwner T) (changes (state_on T moment) call)
unfolding changes refusals put
owned_call T moment (AddAccount key) edit j h = (tt, tt)
owned_call T moment (SetQuality account line quality) edit j h = owned_found T (λ l. PutLine (record l { quality = quality })) (line_of T account line) h
owned_call T moment (Suspend account suspended) edit j h = owned_found T (λ a. PutAccount (record a { suspended = suspended })) (account_of T account) h
owned_call T moment (AddCampaign account key budget) edit j h = (h.0.0, (h.1.0, tt))
owned_call T moment (AddLine account key campaign bid pattern headline link) edit j h = (h.0.0, tt)
owned_call T moment (SetBid account key line bid) edit j h = owned_found T (λ l. PutLine (record l { bid = bid })) (line_of T account line) h
owned_call T moment (Pause account key part on) edit j h = owned_part T account part on h
owned_call T moment (AddNegative account key campaign pattern) edit j h = (owner_home T (PutNegative (negative_made T account campaign pattern)) h.0, tt)
owned_call T moment (DropNegative account key negative) edit j h = owned_drop T (negative_of T account negative) h
owned_call T moment (Import account key batch rows) edit j h =
    owned_import T account batch rows (batch_of T account batch) (known T account (none_holds (refusals (state_on T moment) (Import account key batch rows)) j).0)
owned_call T moment (Credit placement) edit j h = absurd cc
owned_call T moment (HostReport day) edit j h = absurd cc
owned_call T moment (SetBudget account key campaign amount) edit j h = absurd cc
owned_call T moment (Report account key day) edit j h = absurd cc
owned_call T moment (Shown account key day from) edit j h = absurd cc
owned_call T moment (Search text places) edit j h = absurd cc
owned_call T moment (Click placement) edit j h = absurd cc

can_be_put : (T : Tables) (moment : ℕ) (call : Call) → reads_no_placement call ≡ true → judged (state_on T moment) call ≡ None → CanBePut T (changes (state_on T moment) call)
can_be_put T moment call edit judgement =
    let home = at_home T moment call edit judgement in
    record { owners = All-from_Each (HasOwner T) (changes (state_on T moment) call) (owned_call T moment call edit judgement home); at_home = home }

pub put_planned : (T : Tables) (moment : ℕ) (call : Call) (planned : Result Plan EditFault) → reads_no_placement call ≡ true → IfOk planned (IsPlanned (state_on T moment) call) → IfOk planned (λ plan. CanBePut T plan.changes)
put_planned T moment call (Ok plan) edit h = subst (CanBePut T) (sym h.changed) (can_be_put T moment call edit h.not_refused)
put_planned T moment call (Err fault) edit h = tt

-- a budget that is set
pub budget_can_be_put : (T : Tables) (used : ℕ) (key : List ℕ) (b : BudgetSet) (planned : Result Plan EditFault) → OnOk planned (first (budget_rows T used b.account key b.campaign b.amount) ≡ None) → IfOk planned (λ plan. plan.changes ≡ PutBudget b ∷ [])
    → IfOk planned (λ plan. CanBePut T plan.changes)
budget_can_be_put T used key b (Ok plan) h is =
    let there = known T b.account (none_holds (budget_rows T used b.account key b.campaign b.amount) h).0 in
    subst (CanBePut T) (sym is) (record { owners = All-from_Each (HasOwner T) (PutBudget b ∷ []) (there, tt); at_home = (there, tt) })
budget_can_be_put T used key b (Err fault) h is = tt
