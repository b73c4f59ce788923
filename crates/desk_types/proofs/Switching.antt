-- An account is suspended and released, a campaign or a line is switched off and on: the catalogue is as it was.
use Rattle.std.proofs.Common.{◌≡◌, ℕ, Bool, true, false, ◌==◌, ◌&&◌, inl, inr, List, [], ◌∷◌, ◌++◌, find, Option, None, Some, is_none, is_some, refl, sym, ap, subst, ◌∙◌}
use Rattle.std.proofs.lemmas.Bool.{cases_Bool, cond-true, cond-false, and_parts, eqb-true}
use Rattle.std.proofs.lemmas.Option.{same_Some}
use Rattle.desk_types.specs.declared.call.Call.TheVariants.{Suspend, Pause}
use Rattle.desk_types.specs.declared.call.Part.TheVariants.{OfCampaign, OfLine}
use Rattle.desk_types.specs.declared.refusal.Refusal.{Refusal}
use Rattle.desk_types.specs.declared.refusal.Refusal.TheVariants.{NoAccount, NoCampaign, NoLine}
use Rattle.desk_types.specs.declared.rows.Account.{Account}
use Rattle.desk_types.specs.declared.rows.Campaign.{Campaign}
use Rattle.desk_types.specs.declared.rows.Line.{Line}
use Rattle.desk_types.specs.declared.tables.Change.{Change}
use Rattle.desk_types.specs.declared.tables.Change.TheVariants.{PutAccount, PutCampaign, PutLine}
use Rattle.desk_types.specs.declared.tables.Tables.{Tables}
use Rattle.desk_types.specs.Changes.{changes, put_found}
use Rattle.desk_types.specs.Judged.{first, judged, owner_rows, refusals, when}
use Rattle.desk_types.specs.Keys.{account_key, campaign_key, is_same_key, line_key}
use Rattle.desk_types.specs.State.{State}
use Rattle.desk_types.specs.Step.{accepted, answered, at_moment, step}
use Rattle.desk_types.specs.Tables.{account_of, campaign_of, has_key, line_of, put, put_all, put_row, replaced}
use Rattle.desk_types.proofs.Lawful.{finds_one, finds_two, found_test}
use Rattle.desk_types.proofs.Puts.{FindsKey, find-put_same, has-find, key_same, put_there}

-- a row that is put in place of another, and then that one in place of it
replaced_back : {A : Type 0} (key : A → List ℕ) (row new : A) (test : A → Bool) (rows : List A) → FindsKey key (key row) test → key new ≡ key row → find test rows ≡ Some row
    → replaced key row (replaced key new rows) ≡ rows
replaced_back key row new test [] finds same is = refl
replaced_back key row new test (r ∷ rows) finds same is =
    elim (cases_Bool (is_same_key (key r) (key new))) [
      | inl t ↦
          let passes : test r ≡ true = finds r ∙ ap (is_same_key (key r)) (sym same) ∙ t in
          let e : r ≡ row = same_Some r row (sym (cond-true (test r) (Some r) (find test rows) passes) ∙ is) in
          ap (replaced key row) (cond-true _ (new ∷ rows) (r ∷ replaced key new rows) t)
          ∙ cond-true _ (row ∷ rows) (new ∷ replaced key row rows) (key_same (key new) (key row) same) ∙ ap (λ x. x ∷ rows) (sym e)
      | inr t ↦
          let fails : is_same_key (key r) (key row) ≡ false = ap (is_same_key (key r)) (sym same) ∙ t in
          ap (replaced key row) (cond-false _ (new ∷ rows) (r ∷ replaced key new rows) t)
          ∙ cond-false _ (row ∷ replaced key new rows) (r ∷ replaced key row (replaced key new rows)) fails
          ∙ ap (λ l. r ∷ l) (replaced_back key row new test rows finds same (sym (cond-false (test r) (Some r) (find test rows) (finds r ∙ fails)) ∙ is))
    ]

put_back : {A : Type 0} (key : A → List ℕ) (row new : A) (test : A → Bool) (rows : List A) → FindsKey key (key row) test → key new ≡ key row → find test rows ≡ Some row
    → put_row key row (put_row key new rows) ≡ rows
put_back key row new test rows finds same is =
    let there : has_key key (key new) rows ≡ true = ap (λ k. has_key key k rows) same ∙ has-find key (key row) test rows finds ∙ ap is_some is in
    let one : put_row key new rows ≡ replaced key new rows = put_there key new rows there in
    let again : has_key key (key row) (put_row key new rows) ≡ true =
    has-find key (key row) test (put_row key new rows) finds ∙ ap is_some (find-put_same key new test rows (λ x. finds x ∙ ap (is_same_key (key x)) (sym same))) in
    put_there key row (put_row key new rows) again ∙ ap (replaced key row) one ∙ replaced_back key row new test rows finds same is

-- a change, where no refusal holds
abbrev unless : Option Refusal → Tables → Change → Tables
unless (Some refusal) T change = T
unless None T change = put T change

-- an account that is there is suspended, or released
suspended_rows : (S : State) (moment account : ℕ) (suspended : Bool) (a : Account) → account_of S.tables account ≡ Some a
    → (step S moment (Suspend account suspended)).state.tables ≡ put S.tables (PutAccount (record a { suspended = suspended }))
unfolding step accepted changes refusals put_all
suspended_rows S moment account suspended a found =
    let now = at_moment S moment in
    let judgement : judged now (Suspend account suspended) ≡ None = ap (λ o. first (when (is_none o) NoAccount ∷ [])) found in
    ap (λ j. (answered now (Suspend account suspended) j).state.tables) judgement
    ∙ ap (λ o. put_all S.tables (put_found (λ x. PutAccount (record x { suspended = suspended })) o)) found

pub suspended_back : (S : State) (first second account : ℕ) (suspended : Bool) (a : Account) → account_of S.tables account ≡ Some a
    → (step (step S first (Suspend account suspended)).state second (Suspend account a.suspended)).state.tables ≡ S.tables
unfolding put
suspended_back S first second account suspended a found =
    let S1 : State = (step S first (Suspend account suspended)).state in
    let new : Account = record a { suspended = suspended } in
    let test = λ (x : Account). x.number == account in
    let here : a.number ≡ account = eqb-true a.number account (found_test test S.tables.accounts a found) in
    let finds : FindsKey account_key (account_key a) test = subst (λ n. FindsKey account_key (n ∷ []) test) (sym here) (finds_one account_key (λ (x : Account). x.number) account (λ x. refl)) in
    let once = suspended_rows S first account suspended a found in
    let known : account_of S1.tables account ≡ Some new = ap (λ (T : Tables). account_of T account) once ∙ find-put_same account_key new test S.tables.accounts finds in
    suspended_rows S1 second account a.suspended new known ∙ ap (λ (T : Tables). put T (PutAccount a)) once
    ∙ ap (λ rows. record S.tables { accounts = rows }) (put_back account_key a new test S.tables.accounts finds refl found)

-- a campaign that is there is switched, where the account's owner calls
campaign_rows : (S : State) (moment account campaign : ℕ) (key : List ℕ) (on : Bool) (c : Campaign) (owner : Option Refusal) → campaign_of S.tables account campaign ≡ Some c
    → first (owner_rows S.tables account key ++ None ∷ []) ≡ owner
    → (step S moment (Pause account key (OfCampaign campaign) on)).state.tables ≡ unless owner S.tables (PutCampaign (record c { on = on }))
unfolding step accepted changes refusals put_all
campaign_rows S moment account campaign key on c owner found is =
    let now = at_moment S moment in
    let judgement : judged now (Pause account key (OfCampaign campaign) on) ≡ owner =
    ap (λ o. first (owner_rows S.tables account key ++ when (is_none o) NoCampaign ∷ [])) found ∙ is in
    ap (λ j. (answered now (Pause account key (OfCampaign campaign) on) j).state.tables) judgement
    ∙ (elim owner as (λ j. (answered now (Pause account key (OfCampaign campaign) on) j).state.tables ≡ unless j S.tables (PutCampaign (record c { on = on }))) [
      | Some r ↦ refl
      | None ↦ ap (λ o. put_all S.tables (put_found (λ x. PutCampaign (record x { on = on })) o)) found
    ])

campaign_back_by : (S : State) (one two account campaign : ℕ) (key : List ℕ) (on : Bool) (c : Campaign) (owner : Option Refusal) → campaign_of S.tables account campaign ≡ Some c
    → first (owner_rows S.tables account key ++ None ∷ []) ≡ owner
    → (step (step S one (Pause account key (OfCampaign campaign) on)).state two (Pause account key (OfCampaign campaign) c.on)).state.tables ≡ S.tables
unfolding put
campaign_back_by S one two account campaign key on c (Some r) found is =
    let S1 : State = (step S one (Pause account key (OfCampaign campaign) on)).state in
    let once : S1.tables ≡ S.tables = campaign_rows S one account campaign key on c (Some r) found is in
    campaign_rows S1 two account campaign key c.on c (Some r) (ap (λ (T : Tables). campaign_of T account campaign) once ∙ found)
    (ap (λ (T : Tables). first (owner_rows T account key ++ None ∷ [])) once ∙ is) ∙ once
campaign_back_by S one two account campaign key on c None found is =
    let S1 : State = (step S one (Pause account key (OfCampaign campaign) on)).state in
    let new : Campaign = record c { on = on } in
    let test = λ (x : Campaign). x.account == account && x.number == campaign in
    let here = and_parts (c.account == account) (c.number == campaign) (found_test test S.tables.campaigns c found) in
    let finds : FindsKey campaign_key (campaign_key c) test =
    subst (λ k. FindsKey campaign_key k test) (λ i. sym (eqb-true c.account account here.0) i ∷ sym (eqb-true c.number campaign here.1) i ∷ [])
    (finds_two campaign_key (λ (x : Campaign). x.account) (λ x. x.number) account campaign (λ x. refl)) in
    let once : S1.tables ≡ put S.tables (PutCampaign new) = campaign_rows S one account campaign key on c None found is in
    let known : campaign_of S1.tables account campaign ≡ Some new = ap (λ (T : Tables). campaign_of T account campaign) once ∙ find-put_same campaign_key new test S.tables.campaigns finds in
    campaign_rows S1 two account campaign key c.on new None known (ap (λ (T : Tables). first (owner_rows T account key ++ None ∷ [])) once ∙ is)
    ∙ ap (λ (T : Tables). put T (PutCampaign c)) once
    ∙ ap (λ rows. record S.tables { campaigns = rows }) (put_back campaign_key c new test S.tables.campaigns finds refl found)

pub campaign_back : (S : State) (first second account campaign : ℕ) (key : List ℕ) (on : Bool) (c : Campaign) → campaign_of S.tables account campaign ≡ Some c
    → (step (step S first (Pause account key (OfCampaign campaign) on)).state second (Pause account key (OfCampaign campaign) c.on)).state.tables ≡ S.tables
campaign_back S first second account campaign key on c found = campaign_back_by S first second account campaign key on c _ found refl

-- a line that is there is switched, where the account's owner calls
line_rows_switched : (S : State) (moment account line : ℕ) (key : List ℕ) (on : Bool) (l : Line) (owner : Option Refusal) → line_of S.tables account line ≡ Some l
    → first (owner_rows S.tables account key ++ None ∷ []) ≡ owner
    → (step S moment (Pause account key (OfLine line) on)).state.tables ≡ unless owner S.tables (PutLine (record l { on = on }))
unfolding step accepted changes refusals put_all
line_rows_switched S moment account line key on l owner found is =
    let now = at_moment S moment in
    let judgement : judged now (Pause account key (OfLine line) on) ≡ owner =
    ap (λ o. first (owner_rows S.tables account key ++ when (is_none o) NoLine ∷ [])) found ∙ is in
    ap (λ j. (answered now (Pause account key (OfLine line) on) j).state.tables) judgement
    ∙ (elim owner as (λ j. (answered now (Pause account key (OfLine line) on) j).state.tables ≡ unless j S.tables (PutLine (record l { on = on }))) [
      | Some r ↦ refl
      | None ↦ ap (λ o. put_all S.tables (put_found (λ x. PutLine (record x { on = on })) o)) found
    ])

line_back_by : (S : State) (one two account line : ℕ) (key : List ℕ) (on : Bool) (l : Line) (owner : Option Refusal) → line_of S.tables account line ≡ Some l
    → first (owner_rows S.tables account key ++ None ∷ []) ≡ owner
    → (step (step S one (Pause account key (OfLine line) on)).state two (Pause account key (OfLine line) l.on)).state.tables ≡ S.tables
unfolding put
line_back_by S one two account line key on l (Some r) found is =
    let S1 : State = (step S one (Pause account key (OfLine line) on)).state in
    let once : S1.tables ≡ S.tables = line_rows_switched S one account line key on l (Some r) found is in
    line_rows_switched S1 two account line key l.on l (Some r) (ap (λ (T : Tables). line_of T account line) once ∙ found)
    (ap (λ (T : Tables). first (owner_rows T account key ++ None ∷ [])) once ∙ is) ∙ once
line_back_by S one two account line key on l None found is =
    let S1 : State = (step S one (Pause account key (OfLine line) on)).state in
    let new : Line = record l { on = on } in
    let test = λ (x : Line). x.account == account && x.number == line in
    let here = and_parts (l.account == account) (l.number == line) (found_test test S.tables.lines l found) in
    let finds : FindsKey line_key (line_key l) test =
    subst (λ k. FindsKey line_key k test) (λ i. sym (eqb-true l.account account here.0) i ∷ sym (eqb-true l.number line here.1) i ∷ [])
    (finds_two line_key (λ (x : Line). x.account) (λ x. x.number) account line (λ x. refl)) in
    let once : S1.tables ≡ put S.tables (PutLine new) = line_rows_switched S one account line key on l None found is in
    let known : line_of S1.tables account line ≡ Some new = ap (λ (T : Tables). line_of T account line) once ∙ find-put_same line_key new test S.tables.lines finds in
    line_rows_switched S1 two account line key l.on new None known (ap (λ (T : Tables). first (owner_rows T account key ++ None ∷ [])) once ∙ is)
    ∙ ap (λ (T : Tables). put T (PutLine l)) once
    ∙ ap (λ rows. record S.tables { lines = rows }) (put_back line_key l new test S.tables.lines finds refl found)

pub line_back : (S : State) (first second account line : ℕ) (key : List ℕ) (on : Bool) (l : Line) → line_of S.tables account line ≡ Some l
    → (step (step S first (Pause account key (OfLine line) on)).state second (Pause account key (OfLine line) l.on)).state.tables ≡ S.tables
line_back S first second account line key on l found = line_back_by S first second account line key on l _ found refl
