-- A batch that comes again changes no row and is answered as before.
use Rattle.std.proofs.Common.{◌≡◌, ℕ, Bool, true, false, not, ◌==◌, ◌&&◌, inl, inr, List, [], ◌∷◌, ◌++◌, ◌||◌, find, map, Option, None, Some, is_none, is_some, bytes_eq, refl, sym, ap, subst, ◌∙◌}
use Rattle.std.specs.List.{list_any}
use Rattle.std.proofs.lemmas.Bool.{both_ways, cases_Bool, cond-true, cond-false, eqb-true}
use Rattle.desk_types.specs.declared.limits.TheConstants.{BATCH_MAX}
use Rattle.desk_types.specs.declared.call.Call.TheVariants.{Import}
use Rattle.desk_types.specs.declared.call.ImportRow.{ImportRow}
use Rattle.desk_types.specs.declared.entry.Entry.{Entry}
use Rattle.desk_types.specs.declared.refusal.Refusal.{Refusal}
use Rattle.desk_types.specs.declared.refusal.Refusal.TheVariants.{BadField, BadKey, NoAccount}
use Rattle.desk_types.specs.declared.refusal.Field.TheVariants as field
use Rattle.desk_types.specs.declared.reply.Reply.TheVariants.{Imported}
use Rattle.desk_types.specs.declared.rows.Account.{Account}
use Rattle.desk_types.specs.declared.rows.Batch.{Batch}
use Rattle.desk_types.specs.declared.rows.Fate.{Fate}
use Rattle.desk_types.specs.declared.rows.Line.{Line}
use Rattle.desk_types.specs.declared.rows.Placement.{Placement}
use Rattle.desk_types.specs.declared.tables.Change.{Change}
use Rattle.desk_types.specs.declared.tables.Change.TheVariants.{PutAccount, PutLine, PutBatch, PutFate}
use Rattle.desk_types.specs.declared.tables.Tables.{Tables}
use Rattle.desk_types.specs.Asked.{lines_made}
use Rattle.desk_types.specs.Changes.{batch_made, changes, import_of, raises_edition, reply}
use Rattle.desk_types.specs.Judged.{first, import_rows, is_within, judged, key_fits, owner_rows, refusals, when}
use Rattle.desk_types.specs.Keys.{account_key, batch_key, is_less_key, is_same_key}
use Rattle.desk_types.specs.LedgerLaws.{RepliesAlone}
use Rattle.desk_types.specs.State.{State}
use Rattle.desk_types.specs.Step.{accepted, answered, at_moment, next_edition, step}
use Rattle.desk_types.specs.Run.{run}
use Rattle.desk_types.specs.Tables.{account_of, batch_of, has_key, inserted, placement_of, put, put_all, put_fate, put_row, replaced}
use Rattle.desk_types.proofs.Accepting.{from_not, none_holds, not_when, some_from}
use Rattle.desk_types.proofs.Histories.{sound_step}
use Rattle.desk_types.proofs.Lasting.{Lasts, lasts_run}
use Rattle.desk_types.proofs.Lawful.{IsGoodAccount, IsLawful, finds_one, finds_two, found_test}
use Rattle.desk_types.proofs.Puts.{find-put, find-put_same, has-find, put_new, put_there, same_key, stays_there}
use Rattle.desk_types.proofs.Stable.{IsStable}

-- the batch is there, with these numbers, and the key is the account's
pub record IsKept (T : Tables) (account : ℕ) (key : List ℕ) (batch from count : ℕ) : Type 0 where
  pub known : is_some (account_of T account) ≡ true
  pub fits : key_fits T account key ≡ true
  pub within : is_within 1 BATCH_MAX batch ≡ true
  pub row : Batch
  pub there : batch_of T account batch ≡ Some row
  pub from_is : row.first ≡ from
  pub count_is : row.count ≡ count

not_none : {A : Type 0} (o : Option A) → is_some o ≡ true → is_none o ≡ false
not_none None h = absurd cc
not_none (Some x) h = refl

-- such an import is accepted, and changes nothing
kept_judged : (S : State) (account : ℕ) (key : List ℕ) (batch from count : ℕ) (rows : List ImportRow) → IsKept S.tables account key batch from count → judged S (Import account key batch rows) ≡ None
unfolding refusals
kept_judged S account key batch from count rows h =
    ap (λ o. first (owner_rows S.tables account key ++ when (not (is_within 1 BATCH_MAX batch)) (BadField field.Batch) ∷ import_rows S.tables account o rows)) h.there
    ∙ (λ i. first (when (not_none (account_of S.tables account) h.known i) NoAccount ∷ when (not (h.fits i)) BadKey ∷ when (not (h.within i)) (BadField field.Batch) ∷ []))

there_same : (S : State) (account : ℕ) (key : List ℕ) (batch : ℕ) (rows : List ImportRow) (b : Batch) → batch_of S.tables account batch ≡ Some b → accepted S (Import account key batch rows) ≡ S
unfolding accepted changes raises_edition put_all
there_same S account key batch rows b there =
    ap (λ o. record S { edition = next_edition (is_none o) S.edition; tables = put_all S.tables (import_of S.tables account batch rows o) }) there

there_reply : (S : State) (account : ℕ) (key : List ℕ) (batch : ℕ) (rows : List ImportRow) (b : Batch) → batch_of S.tables account batch ≡ Some b → reply S (Import account key batch rows) ≡ Imported b.first b.count
unfolding reply
there_reply S account key batch rows b there = ap (λ o. let b = batch_made S.tables account batch rows o in Imported b.first b.count) there

pub kept_again : (S : State) (moment account : ℕ) (key : List ℕ) (batch from count : ℕ) (rows : List ImportRow) → IsKept S.tables account key batch from count
    → RepliesAlone S moment (Import account key batch rows) (Imported from count)
unfolding step
kept_again S moment account key batch from count rows h =
    let now = at_moment S moment in
    let call = Import account key batch rows in
    let judgement = kept_judged now account key batch from count rows h in
    let same : (answered now call (judged now call)).state ≡ now =
    ap (λ j. (answered now call j).state) judgement ∙ there_same now account key batch rows h.row h.there in
    record {
      rows = same ∙ (λ i. record S { moment = (sym same i).moment });
      reply = ap (λ j. (answered now call j).reply) judgement ∙ there_reply now account key batch rows h.row h.there ∙ (λ i. Imported (h.from_is i) (h.count_is i));
    }

-- lines and a batch that are put leave the accounts
same_accounts : (T : Tables) (ls : List Line) (b : Batch) → (put_all T (map PutLine ls ++ PutBatch b ∷ [])).accounts ≡ T.accounts
unfolding put put_all
same_accounts T [] b = refl
same_accounts T (l ∷ ls) b = same_accounts (put T (PutLine l)) ls b

one_batch : (T : Tables) (ls : List Line) (b : Batch) → (put_all T (map PutLine ls ++ PutBatch b ∷ [])).batches ≡ put_row batch_key b T.batches
unfolding put put_all
one_batch T [] b = refl
one_batch T (l ∷ ls) b = one_batch (put T (PutLine l)) ls b

imported_parts : (a b c d : ℕ) → Imported a b ≡ Imported c d → (a ≡ c) × (b ≡ d)
imported_parts a b c d e = (cc, cc)

-- after an accepted import the batch is there
kept_after : (S : State) (account : ℕ) (key : List ℕ) (batch from count : ℕ) (rows : List ImportRow) (found : Option Batch) → batch_of S.tables account batch ≡ found
    → judged S (Import account key batch rows) ≡ None → reply S (Import account key batch rows) ≡ Imported from count
    → IsKept (accepted S (Import account key batch rows)).tables account key batch from count
unfolding accepted changes refusals reply
kept_after S account key batch from count rows (Some b) is accepts answers =
    let call = Import account key batch rows in
    let none = none_holds (refusals S call) accepts in
    let same = there_same S account key batch rows b is in
    let parts = imported_parts b.first b.count from count (sym (there_reply S account key batch rows b is) ∙ answers) in
    record {
      known = ap (λ (T : State). is_some (account_of T.tables account)) same ∙ some_from (account_of S.tables account) (not_when _ _ none.0);
      fits = ap (λ (T : State). key_fits T.tables account key) same ∙ from_not (key_fits S.tables account key) (not_when _ _ none.1.0);
      within = from_not (is_within 1 BATCH_MAX batch) (not_when _ _ none.1.1.0);
      row = b;
      there = ap (λ (T : State). batch_of T.tables account batch) same ∙ is;
      from_is = parts.0;
      count_is = parts.1;
    }
kept_after S account key batch from count rows None is accepts answers =
    let call = Import account key batch rows in
    let none = none_holds (refusals S call) accepts in
    let b = batch_made S.tables account batch rows None in
    let lines = lines_made S.tables account rows in
    let put_is : (accepted S call).tables ≡ put_all S.tables (map PutLine lines ++ PutBatch b ∷ []) = ap (λ o. put_all S.tables (import_of S.tables account batch rows o)) is in
    let says : reply S call ≡ Imported b.first b.count = ap (λ o. let b = batch_made S.tables account batch rows o in Imported b.first b.count) is in
    let parts = imported_parts b.first b.count from count (sym says ∙ answers) in
    let test = λ (x : Batch). x.account == account && x.number == batch in
    let accounts_are : (accepted S call).tables.accounts ≡ S.tables.accounts = ap (λ (T : Tables). T.accounts) put_is ∙ same_accounts S.tables lines b in
    record {
      known = ap (λ rows_then. is_some (find (λ (a : Account). a.number == account) rows_then)) accounts_are ∙ some_from (account_of S.tables account) (not_when _ _ none.0);
      fits = ap (list_any (λ (a : Account). a.number == account && bytes_eq a.key key)) accounts_are ∙ from_not (key_fits S.tables account key) (not_when _ _ none.1.0);
      within = from_not (is_within 1 BATCH_MAX batch) (not_when _ _ none.1.1.0);
      row = b;
      there = ap (λ (T : Tables). find test T.batches) put_is ∙ ap (find test) (one_batch S.tables lines b)
          ∙ find-put_same batch_key b test S.tables.batches (finds_two batch_key (λ (x : Batch). x.account) (λ x. x.number) account batch (λ x. refl));
      from_is = parts.0;
      count_is = parts.1;
    }

-- the import was answered: the batch is there from then on
pub kept_answered : (S : State) (account : ℕ) (key : List ℕ) (batch from count : ℕ) (rows : List ImportRow) (judgement : Option Refusal) → judged S (Import account key batch rows) ≡ judgement
    → (answered S (Import account key batch rows) judgement).reply ≡ Imported from count → IsKept (answered S (Import account key batch rows) judgement).state.tables account key batch from count
kept_answered S account key batch from count rows (Some refusal) is answers = absurd cc
kept_answered S account key batch from count rows None is answers = kept_after S account key batch from count rows (batch_of S.tables account batch) refl is answers

kept_first : (S : State) (one account : ℕ) (key : List ℕ) (batch from count : ℕ) (rows : List ImportRow) → (step S one (Import account key batch rows)).reply ≡ Imported from count
    → IsKept (step S one (Import account key batch rows)).state.tables account key batch from count
unfolding step
kept_first S one account key batch from count rows answers =
    kept_answered (at_moment S one) account key batch from count rows (judged (at_moment S one) (Import account key batch rows)) refl answers

pub imported_again : (S : State) (one two account : ℕ) (key : List ℕ) (batch from count : ℕ) (rows others : List ImportRow) → (step S one (Import account key batch rows)).reply ≡ Imported from count
    → RepliesAlone (step S one (Import account key batch rows)).state two (Import account key batch others) (Imported from count)
imported_again S one two account key batch from count rows others answers =
    kept_again (step S one (Import account key batch rows)).state two account key batch from count others (kept_first S one account key batch from count rows answers)

-- whatever entries come between

or_true : (a : Bool) → (a || true) ≡ true
or_true true = refl
or_true false = refl

either_true : (a b : Bool) → (a || b) ≡ true → b ≡ false → a ≡ true
either_true true b h k = refl
either_true false b h k = absurd (both_ways _ k h)

any-inserted : {A : Type 0} (key : A → List ℕ) (row : A) (test : A → Bool) (rows : List A) → list_any test rows ≡ true → list_any test (inserted key row rows) ≡ true
any-inserted key row test [] h = absurd cc
any-inserted key row test (r ∷ rows) h =
    elim (cases_Bool (is_less_key (key row) (key r))) [
      | inl t ↦ ap (list_any test) (cond-true _ (row ∷ r ∷ rows) (r ∷ inserted key row rows) t) ∙ ap (λ b. test row || b) h ∙ or_true (test row)
      | inr t ↦
          ap (list_any test) (cond-false _ (row ∷ r ∷ rows) (r ∷ inserted key row rows) t)
          ∙ elim (cases_Bool (list_any test rows)) [
            | inl k ↦ ap (λ b. test r || b) (any-inserted key row test rows k) ∙ or_true (test r)
            | inr k ↦ ap (λ b. b || list_any test (inserted key row rows)) (either_true (test r) (list_any test rows) h k)
          ]
    ]

-- a row that passes where the one whose place it takes does
any-replaced : {A : Type 0} (key : A → List ℕ) (row : A) (test found : A → Bool) (rows : List A) → ((x : A) → found x ≡ is_same_key (key x) (key row))
    → ((x : A) → find found rows ≡ Some x → test x ≡ true → test row ≡ true) → list_any test rows ≡ true → list_any test (replaced key row rows) ≡ true
any-replaced key row test found [] finds passes h = absurd cc
any-replaced key row test found (r ∷ rows) finds passes h =
    elim (cases_Bool (is_same_key (key r) (key row))) [
      | inl t ↦
          ap (list_any test) (cond-true _ (row ∷ rows) (r ∷ replaced key row rows) t)
          ∙ elim (cases_Bool (list_any test rows)) [
            | inl k ↦ ap (λ b. test row || b) k ∙ or_true (test row)
            | inr k ↦ ap (λ b. b || list_any test rows) (passes r (cond-true (found r) (Some r) (find found rows) (finds r ∙ t)) (either_true (test r) (list_any test rows) h k))
          ]
      | inr t ↦
          ap (list_any test) (cond-false _ (row ∷ rows) (r ∷ replaced key row rows) t)
          ∙ elim (cases_Bool (list_any test rows)) [
            | inl k ↦
                ap (λ b. test r || b) (any-replaced key row test found rows finds (λ x is. passes x (cond-false (found r) (Some r) (find found rows) (finds r ∙ t) ∙ is)) k)
                ∙ or_true (test r)
            | inr k ↦ ap (λ b. b || list_any test (replaced key row rows)) (either_true (test r) (list_any test rows) h k)
          ]
    ]

-- an account that is put keeps the key of its number
still_fits : (S : State) (a : Account) (account : ℕ) (key : List ℕ) → IsGoodAccount S a → key_fits S.tables account key ≡ true → key_fits (put S.tables (PutAccount a)) account key ≡ true
unfolding put
still_fits S a account key good h =
    let test = λ (x : Account). x.number == account && bytes_eq x.key key in
    let found = λ (x : Account). x.number == a.number in
    let finds = finds_one account_key (λ (x : Account). x.number) a.number (λ x. refl) in
    elim (cases_Bool (has_key account_key (account_key a) S.tables.accounts)) [
      | inl t ↦
          ap (list_any test) (put_there account_key a S.tables.accounts t)
          ∙ any-replaced account_key a test found S.tables.accounts finds
          (λ x is passes.
          let number : x.number ≡ a.number = eqb-true x.number a.number (found_test found S.tables.accounts x is) in
          (λ i. sym number i == account && bytes_eq (good.same_key x is i) key) ∙ passes)
          h
      | inr t ↦ ap (list_any test) (put_new account_key a S.tables.accounts t) ∙ any-inserted account_key a test S.tables.accounts h
    ]

-- a batch that is put is another one
still_there : (S : State) (b : Batch) (account batch : ℕ) (row : Batch) → has_key batch_key (batch_key b) S.tables.batches ≡ false → batch_of S.tables account batch ≡ Some row
    → batch_of (put S.tables (PutBatch b)) account batch ≡ Some row
unfolding put
still_there S b account batch row new there =
    let test = λ (x : Batch). x.account == account && x.number == batch in
    let finds = finds_two batch_key (λ (x : Batch). x.account) (λ x. x.number) account batch (λ x. refl) in
    let is : has_key batch_key (account ∷ batch ∷ []) S.tables.batches ≡ true = has-find batch_key (account ∷ batch ∷ []) test S.tables.batches finds ∙ ap is_some there in
    find-put batch_key (account ∷ batch ∷ []) b test S.tables.batches finds
    ∙ elim (cases_Bool (is_same_key (batch_key b) (account ∷ batch ∷ []))) [
      | inl t ↦ absurd (both_ways _ new (subst (λ k. has_key batch_key k S.tables.batches ≡ true) (sym (same_key (batch_key b) (account ∷ batch ∷ []) t)) is))
      | inr t ↦ cond-false _ (Some b) (find test S.tables.batches) t ∙ there
    ]

same_rows : (T U : Tables) (account : ℕ) (key : List ℕ) (batch from count : ℕ) → U.accounts ≡ T.accounts → U.batches ≡ T.batches → IsKept T account key batch from count → IsKept U account key batch from count
same_rows T U account key batch from count accounts batches h = record {
  known = ap (λ rows_then. is_some (find (λ (a : Account). a.number == account) rows_then)) accounts ∙ h.known;
  fits = ap (list_any (λ (a : Account). a.number == account && bytes_eq a.key key)) accounts ∙ h.fits;
  within = h.within;
  row = h.row;
  there = ap (find (λ (b : Batch). b.account == account && b.number == batch)) batches ∙ h.there;
  from_is = h.from_is;
  count_is = h.count_is;
}

kept_fate : (T : Tables) (fate : Fate) (found : Option Placement) (account : ℕ) (key : List ℕ) (batch from count : ℕ) → IsKept T account key batch from count → IsKept (put_fate T fate found) account key batch from count
kept_fate T fate None account key batch from count h = h
kept_fate T fate (Some p) account key batch from count h = same_rows T _ account key batch from count refl refl h

kept_put : (S : State) (change : Change) (account : ℕ) (key : List ℕ) (batch from count : ℕ) → IsLawful S change → IsKept S.tables account key batch from count → IsKept (put S.tables change) account key batch from count
unfolding put
kept_put S (PutAccount a) account key batch from count lawful h = record {
  known = stays_there account_key (account ∷ []) a (λ (x : Account). x.number == account) S.tables.accounts (finds_one account_key (λ (x : Account). x.number) account (λ x. refl)) h.known;
  fits = still_fits S a account key lawful h.fits;
  within = h.within;
  row = h.row;
  there = h.there;
  from_is = h.from_is;
  count_is = h.count_is;
}
kept_put S (PutBatch b) account key batch from count lawful h = record {
  known = h.known;
  fits = h.fits;
  within = h.within;
  row = h.row;
  there = still_there S b account batch h.row lawful h.there;
  from_is = h.from_is;
  count_is = h.count_is;
}
kept_put S (PutFate number fate) account key batch from count lawful h = kept_fate S.tables fate (placement_of S.tables number) account key batch from count h
kept_put S change account key batch from count lawful h = same_rows S.tables _ account key batch from count refl refl h

kept_lasts : (account : ℕ) (key : List ℕ) (batch from count : ℕ) → Lasts (λ S. IsKept S.tables account key batch from count)
kept_lasts account key batch from count = record {
  put = λ S change sound lawful h. kept_put S change account key batch from count lawful h;
  later = λ S moment h. h;
  edition = λ S edition h. h;
}

pub imported_later : (S : State) (between : List Entry) (one two account : ℕ) (key : List ℕ) (batch from count : ℕ) (rows others : List ImportRow) → IsStable S
    → (step S one (Import account key batch rows)).reply ≡ Imported from count
    → RepliesAlone (run (step S one (Import account key batch rows)).state between) two (Import account key batch others) (Imported from count)
imported_later S between one two account key batch from count rows others sound answers =
    let S1 : State = (step S one (Import account key batch rows)).state in
    kept_again (run S1 between) two account key batch from count others
    (lasts_run (λ T. IsKept T.tables account key batch from count) S1 between (kept_lasts account key batch from count)
    (sound_step S one (Import account key batch rows) sound) (kept_first S one account key batch from count rows answers))
