-- A call that names an account changes no row of another.
use Rattle.std.proofs.Common.{◌≡◌, ◌≢◌, ℕ, Bool, true, false, ◌==◌, ◌&&◌, cond, List, [], ◌∷◌, find, map, Option, None, Some, refl, sym, ap, ◌∙◌, subst, inl, inr}
use Rattle.std.specs.List.{filter}
use Rattle.std.proofs.lemmas.Bool.{cases_Bool, cond-true, cond-false, and_parts, eqb-true, ne_eqb}
use Rattle.std.proofs.lemmas.Option.{same_Some}
use Rattle.desk_types.specs.declared.call.Call.{Call}
use Rattle.desk_types.specs.declared.call.Call.TheVariants.{SetQuality, Suspend, AddCampaign, SetBudget, AddLine, SetBid, Pause, AddNegative, DropNegative, Import, Report, Shown}
use Rattle.desk_types.specs.declared.call.ImportRow.{ImportRow}
use Rattle.desk_types.specs.declared.call.Part.{Part}
use Rattle.desk_types.specs.declared.call.Part.TheVariants.{OfCampaign, OfLine}
use Rattle.desk_types.specs.declared.refusal.Refusal.{Refusal}
use Rattle.desk_types.specs.declared.rows.Account.{Account}
use Rattle.desk_types.specs.declared.rows.Batch.{Batch}
use Rattle.desk_types.specs.declared.rows.BudgetSet.{BudgetSet}
use Rattle.desk_types.specs.declared.rows.Campaign.{Campaign}
use Rattle.desk_types.specs.declared.rows.Line.{Line}
use Rattle.desk_types.specs.declared.rows.Negative.{Negative}
use Rattle.desk_types.specs.declared.tables.Change.{Change}
use Rattle.desk_types.specs.declared.tables.Change.TheVariants.{PutAccount, PutCampaign, PutBudget, PutLine, PutNegative, PutPlacement, PutBatch, PutFate}
use Rattle.desk_types.specs.declared.tables.Tables.{Tables}
use Rattle.desk_types.specs.Asked.{asked_by, lines_made, with_line}
use Rattle.desk_types.specs.Changes.{changes, drop_of, import_of, live_again, put_found, switch_of}
use Rattle.desk_types.specs.Day.{day_of}
use Rattle.desk_types.specs.Judged.{dropped_negative, judged}
use Rattle.desk_types.specs.Keys.{account_key, batch_key, budget_key, campaign_key, is_less_key, is_same_key, line_key, negative_key}
use Rattle.desk_types.specs.Own.{account_named, rows_of}
use Rattle.desk_types.specs.State.{State}
use Rattle.desk_types.specs.Step.{accepted, answered, at_moment, step}
use Rattle.desk_types.specs.Tables.{account_of, batch_of, campaign_of, has_key, inserted, line_of, negative_of, put, put_all, put_row, replaced}
use Rattle.desk_types.proofs.EachRow.{Each, Each-append}
use Rattle.desk_types.proofs.Lawful.{found_test}
use Rattle.desk_types.proofs.Puts.{put_new, put_there, same_key}

-- the change puts a row of this account
abbrev IsOf : ℕ → Change → Type 0
IsOf account (PutAccount a) = a.number ≡ account
IsOf account (PutCampaign c) = c.account ≡ account
IsOf account (PutBudget b) = b.account ≡ account
IsOf account (PutLine l) = l.account ≡ account
IsOf account (PutNegative n) = n.account ≡ account
IsOf account (PutPlacement p) = ⊥
IsOf account (PutBatch b) = b.account ≡ account
IsOf account (PutFate number fate) = ⊥

-- a row that fails the test, and takes the place of one that fails it, is not kept
filter-replaced_other : {A : Type 0} (key : A → List ℕ) (row : A) (test : A → Bool) (rows : List A) → test row ≡ false → ((x : A) → is_same_key (key x) (key row) ≡ true → test x ≡ false)
    → filter test (replaced key row rows) ≡ filter test rows
filter-replaced_other key row test [] fails alike = refl
filter-replaced_other key row test (r ∷ rows) fails alike =
    elim (cases_Bool (is_same_key (key r) (key row))) [
      | inl t ↦
          ap (filter test) (cond-true _ (row ∷ rows) (r ∷ replaced key row rows) t) ∙ cond-false (test row) _ _ fails ∙ sym (cond-false (test r) _ _ (alike r t))
      | inr t ↦
          ap (filter test) (cond-false _ (row ∷ rows) (r ∷ replaced key row rows) t)
          ∙ ap (λ l. cond (test r) (r ∷ l) l) (filter-replaced_other key row test rows fails alike)
    ]

filter-inserted_other : {A : Type 0} (key : A → List ℕ) (row : A) (test : A → Bool) (rows : List A) → test row ≡ false → filter test (inserted key row rows) ≡ filter test rows
filter-inserted_other key row test [] fails = cond-false (test row) _ _ fails
filter-inserted_other key row test (r ∷ rows) fails =
    elim (cases_Bool (is_less_key (key row) (key r))) [
      | inl t ↦ ap (filter test) (cond-true _ (row ∷ r ∷ rows) (r ∷ inserted key row rows) t) ∙ cond-false (test row) _ _ fails
      | inr t ↦
          ap (filter test) (cond-false _ (row ∷ r ∷ rows) (r ∷ inserted key row rows) t)
          ∙ ap (λ l. cond (test r) (r ∷ l) l) (filter-inserted_other key row test rows fails)
    ]

-- a row of one account leaves the rows of another
kept_other : {A : Type 0} (key : A → List ℕ) (group : A → ℕ) (row : A) (rows : List A) (account other : ℕ) → group row ≡ account → account ≢ other
    → ((x : A) → is_same_key (key x) (key row) ≡ true → group x ≡ group row) → filter (λ x. group x == other) (put_row key row rows) ≡ filter (λ x. group x == other) rows
kept_other {A} key group row rows account other of differs alike =
    let test = λ (x : A). group x == other in
    let fails : test row ≡ false = ne_eqb (group row) other (λ e. differs (sym of ∙ e)) in
    elim (cases_Bool (has_key key (key row) rows)) [
      | inl t ↦ ap (filter test) (put_there key row rows t) ∙ filter-replaced_other key row test rows fails (λ x same. ap (λ n. n == other) (alike x same) ∙ fails)
      | inr t ↦ ap (filter test) (put_new key row rows t) ∙ filter-inserted_other key row test rows fails
    ]

first_of : (a b : ℕ) (k l : List ℕ) → a ∷ k ≡ b ∷ l → a ≡ b
first_of a b k l e = cc

leaves_other : (T : Tables) (account other : ℕ) (change : Change) → account ≢ other → IsOf account change → rows_of (put T change) other ≡ rows_of T other
unfolding put
leaves_other T account other (PutAccount a) differs of =
    ap (λ rows. record (rows_of T other) { accounts = rows })
    (kept_other account_key (λ (x : Account). x.number) a T.accounts account other of differs (λ x same. first_of x.number a.number [] [] (same_key _ _ same)))
leaves_other T account other (PutCampaign c) differs of =
    ap (λ rows. record (rows_of T other) { campaigns = rows })
    (kept_other campaign_key (λ (x : Campaign). x.account) c T.campaigns account other of differs (λ x same. first_of x.account c.account (x.number ∷ []) (c.number ∷ []) (same_key _ _ same)))
leaves_other T account other (PutBudget b) differs of =
    ap (λ rows. record (rows_of T other) { budgets = rows })
    (kept_other budget_key (λ (x : BudgetSet). x.account) b T.budgets account other of differs
    (λ x same. first_of x.account b.account (x.campaign ∷ day_of x.at ∷ []) (b.campaign ∷ day_of b.at ∷ []) (same_key _ _ same)))
leaves_other T account other (PutLine l) differs of =
    ap (λ rows. record (rows_of T other) { lines = rows })
    (kept_other line_key (λ (x : Line). x.account) l T.lines account other of differs (λ x same. first_of x.account l.account (x.number ∷ []) (l.number ∷ []) (same_key _ _ same)))
leaves_other T account other (PutNegative n) differs of =
    ap (λ rows. record (rows_of T other) { negatives = rows })
    (kept_other negative_key (λ (x : Negative). x.account) n T.negatives account other of differs (λ x same. first_of x.account n.account (x.number ∷ []) (n.number ∷ []) (same_key _ _ same)))
leaves_other T account other (PutPlacement p) differs of = absurd (elim of [ ])
leaves_other T account other (PutBatch b) differs of =
    ap (λ rows. record (rows_of T other) { batches = rows })
    (kept_other batch_key (λ (x : Batch). x.account) b T.batches account other of differs (λ x same. first_of x.account b.account (x.number ∷ []) (b.number ∷ []) (same_key _ _ same)))
leaves_other T account other (PutFate number fate) differs of = absurd (elim of [ ])

all_leave : (T : Tables) (account other : ℕ) (cs : List Change) → account ≢ other → Each (IsOf account) cs → rows_of (put_all T cs) other ≡ rows_of T other
unfolding put_all
all_leave T account other [] differs h = refl
all_leave T account other (c ∷ cs) differs h = all_leave (put T c) account other cs differs h.1 ∙ leaves_other T account other c differs h.0

-- rows that are found by the account's number
line_is_of : (T : Tables) (account line : ℕ) (new : Line → Line) (found : Option Line) → line_of T account line ≡ found → ((l : Line) → (new l).account ≡ l.account)
    → Each (IsOf account) (put_found (λ l. PutLine (new l)) found)
line_is_of T account line new None is same = tt
line_is_of T account line new (Some l) is same =
    (same l ∙ eqb-true l.account account (and_parts (l.account == account) (l.number == line) (found_test (λ (x : Line). x.account == account && x.number == line) T.lines l is)).0, tt)

campaign_is_of : (T : Tables) (account campaign : ℕ) (on : Bool) (found : Option Campaign) → campaign_of T account campaign ≡ found
    → Each (IsOf account) (put_found (λ c. PutCampaign (record c { on = on })) found)
campaign_is_of T account campaign on None is = tt
campaign_is_of T account campaign on (Some c) is =
    (eqb-true c.account account (and_parts (c.account == account) (c.number == campaign) (found_test (λ (x : Campaign). x.account == account && x.number == campaign) T.campaigns c is)).0, tt)

account_is_of : (T : Tables) (account : ℕ) (suspended : Bool) (found : Option Account) → account_of T account ≡ found
    → Each (IsOf account) (put_found (λ a. PutAccount (record a { suspended = suspended })) found)
account_is_of T account suspended None is = tt
account_is_of T account suspended (Some a) is = (eqb-true a.number account (found_test (λ (x : Account). x.number == account) T.accounts a is), tt)

part_is_of : (T : Tables) (account : ℕ) (part : Part) (on : Bool) → Each (IsOf account) (switch_of T account part on)
part_is_of T account (OfCampaign campaign) on = campaign_is_of T account campaign on (campaign_of T account campaign) refl
part_is_of T account (OfLine line) on = line_is_of T account line (λ l. record l { on = on }) (line_of T account line) refl (λ l. refl)

dropped_is_of : (T : Tables) (account negative : ℕ) (found : Option Negative) → negative_of T account negative ≡ found → Each (IsOf account) (drop_of found)
dropped_is_of T account negative None is = tt
dropped_is_of T account negative (Some n) is =
    (eqb-true n.account account (and_parts (n.account == account) (n.number == negative) (found_test (λ (x : Negative). x.account == account && x.number == negative) T.negatives n is)).0, tt)

lives_again_of : (account : ℕ) (new : Negative) (test : Negative → Bool) (rows : List Negative) (found : Option Negative) → find test rows ≡ found → ((n : Negative) → test n ≡ true → n.account ≡ account)
    → new.account ≡ account → (live_again new found).account ≡ account
lives_again_of account new test rows None is of owner = owner
lives_again_of account new test rows (Some d) is of owner = of d (found_test test rows d is)

lines_are_of : (T : Tables) (account : ℕ) (rows : List ImportRow) → Each (IsOf account) (map PutLine (lines_made T account rows))
lines_are_of T account [] = tt
lines_are_of T account (row ∷ rows) = (refl, lines_are_of (with_line T account (asked_by row)) account rows)

import_is_of : (T : Tables) (account number : ℕ) (rows : List ImportRow) (found : Option Batch) → Each (IsOf account) (import_of T account number rows found)
import_is_of T account number rows (Some there) = tt
import_is_of T account number rows None = Each-append (IsOf account) (map PutLine (lines_made T account rows)) _ (lines_are_of T account rows) (refl, tt)

no_account : (account : ℕ) → None ≡ Some account → ⊥
no_account account h = cc

-- each change of a call is of the account that it names
changes_are_of : (S : State) (call : Call) (account : ℕ) → account_named call ≡ Some account → Each (IsOf account) (changes S call)
unfolding changes
changes_are_of S (SetQuality k line quality) account h =
    let e = same_Some k account h in
    subst (λ a. Each (IsOf a) (changes S (SetQuality k line quality))) e (line_is_of S.tables k line (λ l. record l { quality = quality }) (line_of S.tables k line) refl (λ l. refl))
changes_are_of S (Suspend k suspended) account h =
    subst (λ a. Each (IsOf a) (changes S (Suspend k suspended))) (same_Some k account h) (account_is_of S.tables k suspended (account_of S.tables k) refl)
changes_are_of S (AddCampaign k key budget) account h = (same_Some k account h, (same_Some k account h, tt))
changes_are_of S (SetBudget k key campaign amount) account h = (same_Some k account h, tt)
changes_are_of S (AddLine k key campaign bid pattern headline link) account h = (same_Some k account h, tt)
changes_are_of S (SetBid k key line bid) account h =
    subst (λ a. Each (IsOf a) (changes S (SetBid k key line bid))) (same_Some k account h) (line_is_of S.tables k line (λ l. record l { bid = bid }) (line_of S.tables k line) refl (λ l. refl))
changes_are_of S (Pause k key part on) account h =
    subst (λ a. Each (IsOf a) (changes S (Pause k key part on))) (same_Some k account h) (part_is_of S.tables k part on)
changes_are_of S (AddNegative k key campaign pattern) account h =
    (lives_again_of k _ _ S.tables.negatives (dropped_negative S.tables k campaign pattern) refl (λ n passes. eqb-true n.account k (and_parts (n.account == k) _ passes).0) refl ∙ same_Some k account h, tt)
changes_are_of S (DropNegative k key negative) account h =
    subst (λ a. Each (IsOf a) (changes S (DropNegative k key negative))) (same_Some k account h) (dropped_is_of S.tables k negative (negative_of S.tables k negative) refl)
changes_are_of S (Import k key batch rows) account h =
    subst (λ a. Each (IsOf a) (changes S (Import k key batch rows))) (same_Some k account h) (import_is_of S.tables k batch rows (batch_of S.tables k batch))
changes_are_of S (Report k key day) account h = tt
changes_are_of S (Shown k key day from) account h = tt
changes_are_of S call account h = absurd (no_account account h)

answered_leaves : (S : State) (call : Call) (account other : ℕ) (judgement : Option Refusal) → account_named call ≡ Some account → account ≢ other
    → rows_of (answered S call judgement).state.tables other ≡ rows_of S.tables other
unfolding accepted
answered_leaves S call account other (Some refusal) named differs = refl
answered_leaves S call account other None named differs = all_leave S.tables account other (changes S call) differs (changes_are_of S call account named)

pub step_leaves : (S : State) (moment : ℕ) (call : Call) (account other : ℕ) → account_named call ≡ Some account → account ≢ other
    → rows_of (step S moment call).state.tables other ≡ rows_of S.tables other
unfolding step
step_leaves S moment call account other named differs = answered_leaves (at_moment S moment) call account other (judged (at_moment S moment) call) named differs
