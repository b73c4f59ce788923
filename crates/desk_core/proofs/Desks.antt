-- A desk that was opened, and a desk after a further call.
use Rattle.std.proofs.Common.{◌≡◌, ◌≢◌, ℕ, ◌+◌, ◌≤◌, true, false, IsTrue, IfSome, List, [], ◌∷◌, ◌++◌, append-nil, length, Option, None, Some, option_map, Result, Ok, Err, refl, sym, ap, subst, ◌∙◌, arith}
use Rattle.std.specs.List.{All}
use Rattle.std.proofs.lemmas.List.Elements.{All-nil, All-push}
use Rattle.desk_types.specs.declared.call.Call.{Call}
use Rattle.desk_types.specs.declared.entry.Entry.{Entry}
use Rattle.desk_types.specs.declared.entry.Fault.{Fault}
use Rattle.desk_types.specs.declared.entry.Fault.TheVariants.{Keeper}
use Rattle.desk_types.specs.declared.entry.Outcome.{Outcome}
use Rattle.desk_types.specs.declared.entry.Outcome.TheVariants.{Answered, Faulted}
use Rattle.desk_types.specs.declared.refusal.Refusal.{Refusal}
use Rattle.desk_types.specs.declared.reply.Reply.{Reply}
use Rattle.desk_types.specs.declared.tables.Change.{Change}
use Rattle.desk_types.specs.declared.tables.Tables.{Tables}
use Rattle.desk_types.specs.Journal.{IsLegal, IsRise, entries_of, is_full}
use Rattle.desk_types.specs.Judged.{judged}
use Rattle.desk_types.specs.Opening.{opened}
use Rattle.desk_types.specs.Rules.{AreSound}
use Rattle.desk_types.specs.Run.{run}
use Rattle.desk_types.specs.Serving.{Ends, HasNoFault, IsSureResult, Serves, with_entry, with_seen}
use Rattle.desk_types.specs.SettingsValue.{AreInRange, SettingsValue}
use Rattle.desk_types.specs.Sound.{IsSound}
use Rattle.desk_types.specs.State.{State}
use Rattle.desk_types.specs.Step.{accepted, answered, at_moment, step}
use Rattle.desk_types.specs.Tables.{put_all}
use Rattle.desk_types.proofs.Editions.{run-append}
use Rattle.desk_types.proofs.Legality.{legal_answer, legal_empty, legal_more}
use Rattle.desk_types.proofs.Soundness.{sound_opened, sound_run}
use Rattle.desk_keeper.specs.declared.keeper.KeeperFault.TheVariants as fault
use Rattle.desk_keeper.specs.Keeping.{IsSameKeeper}
use Rattle.desk_keeper.specs.KeeperView.{KeeperView}
use Rattle.desk_core.specs.declared.told.Told.{Told}
use Rattle.desk_core.specs.Asking.{IsAsked, changes_at, changes_where}
use Rattle.desk_core.specs.DeskValue.{Answers, DeskValue, IsCountedWithin, IsReached, IsRunOfLedger, IsSameDesk, desk_of, first_state, service_of, state}
use Rattle.desk_core.specs.JournalValue.{JournalValue}
use Rattle.desk_core.specs.Told.{IsThere, replied}
use Rattle.desk_core.proofs.Entries.{all_before_fault, counted_more}
use Rattle.desk_core.proofs.Reached.{edition_reached}

-- what is loaded is held
pub held_opened : (after before : Option Tables) (T : Tables) → after ≡ before → IfSome before (λ held. T ≡ held) → IfSome after (λ held. held ≡ T)
held_opened after None T same is = subst (λ o. IfSome o (λ held. held ≡ T)) (sym same) tt
held_opened after (Some U) T same is = subst (λ o. IfSome o (λ held. held ≡ T)) (sym same) (sym is)

pub reached_first : (rows : State) (journal : JournalValue) (opening : Tables) (base : ℕ) (keeper : KeeperView) (settings : SettingsValue) → rows ≡ opened settings opening → journal.settings ≡ settings → journal.entries ≡ []
    → AreInRange journal.settings → AreSound opening → base ≤ keeper.faults → IfSome keeper.held (λ held. held ≡ opening) → IsReached rows (desk_of journal opening base keeper)
unfolding run
reached_first rows journal opening base keeper settings are same none range sound low held =
    let start : rows ≡ run (opened journal.settings opening) journal.entries = are ∙ ap (λ s. opened s opening) (sym same) ∙ ap (run (opened journal.settings opening)) (sym none) in
    let tables : opening ≡ (run (opened journal.settings opening) journal.entries).tables = ap (λ es. (run (opened journal.settings opening) es).tables) (sym none) in
    let none_fails : HasNoFault [] = All-nil (λ (e : Entry). e.outcome ≡ Answered) in
    let none_counts : All (λ (e : Entry). IsCountedWithin base keeper.faults e.outcome) [] = All-nil (λ (e : Entry). IsCountedWithin base keeper.faults e.outcome) in
    let ledger : IsRunOfLedger (desk_of journal opening base keeper) = record {
      settings = range;
      sound = sound;
      legal = subst (λ es. IsLegal journal.settings es) (sym none) (legal_empty journal.settings);
      no_fault = λ sure. subst HasNoFault (sym none) none_fails;
      held = subst (λ T. IfSome keeper.held (λ held. held ≡ T)) tables held;
      base = low;
      counted = subst (λ es. All (λ (e : Entry). IsCountedWithin base keeper.faults e.outcome) es) (sym none) none_counts;
    } in
    record { run_of_log = start; of_ledger = ledger }

-- what is told of the rows is told of the run of the journal
pub told_reached : (rows : State) (d : DeskValue) (told : Told) → IsReached rows d → replied (state d).tables told ≡ replied rows.tables told
told_reached rows d told h = ap (λ (S : State). replied S.tables told) (sym h.run_of_log)

pub there_reached : (rows : State) (d : DeskValue) (told : Told) → IsReached rows d → IsThere rows.tables told → IsThere (state d).tables told
there_reached rows d told h there = subst (λ (S : State). IsThere S.tables told) h.run_of_log there

-- what a desk needs of its rows
pub sound_rows : (rows : State) (d : DeskValue) → IsReached rows d → IsSound rows
sound_rows rows d h = subst IsSound (sym h.run_of_log) (sound_run (first_state d) d.log h.of_ledger.settings (sound_opened d.settings d.opening h.of_ledger.sound))

pub edition_of_rows : (rows : State) (d : DeskValue) → IsReached rows d → rows.edition ≤ length d.log
edition_of_rows rows d h = subst (λ (S : State). S.edition ≤ length d.log) (sym h.run_of_log) (omega (arith, edition_reached (first_state d) d.log))

-- the run with a further answer is a step further, and with a fault it is no further
run_answered : (S : State) (caller : ℕ) (entries : List Entry) (moment : ℕ) (call : Call) → run S (with_entry caller entries moment call Answered) ≡ (step (run S entries) moment call).state
unfolding run
run_answered S caller entries moment call = run-append S entries (record { caller = caller; number = entries_of caller entries + 1; moment = moment; call = call; outcome = Answered } ∷ [])

run_faulted : (S : State) (caller : ℕ) (entries : List Entry) (moment : ℕ) (call : Call) (before after : ℕ) → run S (with_entry caller entries moment call (Faulted before after)) ≡ run S entries
unfolding run
run_faulted S caller entries moment call before after =
    run-append S entries (record { caller = caller; number = entries_of caller entries + 1; moment = moment; call = call; outcome = Faulted before after } ∷ [])

-- the tables after a call are those with its changes
tables_answered : (S : State) (call : Call) (judgement : Option Refusal) → (answered S call judgement).state.tables ≡ put_all S.tables (changes_where S call judgement)
unfolding accepted put_all
tables_answered S call (Some refusal) = refl
tables_answered S call None = refl

tables_stepped : (S : State) (moment : ℕ) (call : Call) → (step S moment call).state.tables ≡ put_all S.tables (changes_at S moment call)
unfolding step
tables_stepped S moment call = tables_answered (at_moment S moment) call (judged (at_moment S moment) call)

held_put : (held : Option Tables) (T : Tables) (changes : List Change) → IfSome held (λ h. h ≡ T) → IfSome (option_map (λ U. put_all U changes) held) (λ h. h ≡ put_all T changes)
held_put None T changes is = tt
held_put (Some U) T changes is = ap (λ X. put_all X changes) is

-- what an answered call, and one that met a fault, leave
pub record IsLeft (d : DeskValue) (caller moment : ℕ) (call : Call) (outcome : Outcome) (journal : JournalValue) : Type 0 where
  pub room : is_full d.settings d.log call ≡ false
  pub settings : journal.settings ≡ d.settings
  pub entries : journal.entries ≡ with_entry caller d.log moment call outcome

counted_left : (d : DeskValue) (caller moment : ℕ) (call : Call) (outcome : Outcome) (journal : JournalValue) (count : ℕ) → IsLeft d caller moment call outcome journal → IsRunOfLedger d → d.keeper.faults ≤ count → IsCountedWithin d.base count outcome
    → All (λ (e : Entry). IsCountedWithin d.base count e.outcome) journal.entries
counted_left d caller moment call outcome journal count left h low is =
    let e : Entry = record { caller = caller; number = entries_of caller d.log + 1; moment = moment; call = call; outcome = outcome } in
    let all : All (λ (x : Entry). IsCountedWithin d.base count x.outcome) (d.log ++ e ∷ []) =
    All-push (λ (x : Entry). IsCountedWithin d.base count x.outcome) d.log e (counted_more d.base d.keeper.faults count d.log low h.counted) is in
    subst (λ es. All (λ (x : Entry). IsCountedWithin d.base count x.outcome) es) (sym left.entries) all

pub reached_answered : (rows stood : State) (d : DeskValue) (journal : JournalValue) (keeper : KeeperView) (caller moment : ℕ) (call : Call) (told : Told) → IsReached rows d → IsLeft d caller moment call Answered journal
    → stood ≡ (step rows moment call).state → IsAsked d.keeper (changes_at rows moment call) (Ok told) keeper → IsReached stood (desk_of journal d.opening d.base keeper)
reached_answered rows stood d journal keeper caller moment call told h left stepped asked =
    let e : Entry = record { caller = caller; number = entries_of caller d.log + 1; moment = moment; call = call; outcome = Answered } in
    let L = h.of_ledger in
    let reached : stood ≡ run (opened journal.settings d.opening) journal.entries =
    stepped ∙ ap (λ S. (step S moment call).state) h.run_of_log ∙ sym (run_answered (first_state d) caller d.log moment call)
    ∙ (λ i. run (opened (sym left.settings i) d.opening) (sym left.entries i)) in
    let tables : put_all rows.tables (changes_at rows moment call) ≡ (run (opened journal.settings d.opening) journal.entries).tables =
    sym (tables_stepped rows moment call) ∙ ap (λ (S : State). S.tables) (sym stepped) ∙ ap (λ (S : State). S.tables) reached in
    let held : IfSome d.keeper.held (λ T. T ≡ rows.tables) = subst (λ (S : State). IfSome d.keeper.held (λ T. T ≡ S.tables)) (sym h.run_of_log) L.held in
    let put = subst (λ o. IfSome o (λ T. T ≡ put_all rows.tables (changes_at rows moment call))) (sym asked.put) (held_put d.keeper.held rows.tables (changes_at rows moment call) held) in
    let ledger : IsRunOfLedger (desk_of journal d.opening d.base keeper) = record {
      settings = subst AreInRange (sym left.settings) L.settings;
      sound = L.sound;
      legal = subst (λ s. IsLegal s journal.entries) (sym left.settings) (subst (λ es. IsLegal d.settings es) (sym left.entries) (legal_answer d.settings d.log caller moment call L.legal left.room));
      no_fault = λ sure.
          let all : HasNoFault (d.log ++ e ∷ []) = All-push (λ (x : Entry). x.outcome ≡ Answered) d.log e (L.no_fault (subst (λ b. IsTrue b) asked.same.sure sure)) refl in
          subst HasNoFault (sym left.entries) all;
      held = subst (λ T. IfSome keeper.held (λ U. U ≡ T)) tables put;
      base = omega (arith, L.base, asked.same.faults);
      counted = counted_left d caller moment call Answered journal keeper.faults left L asked.same.faults tt;
    } in
    record { run_of_log = reached; of_ledger = ledger }

-- the keeper failed: the rows are as they were
pub reached_faulted : (rows stood : State) (d : DeskValue) (journal : JournalValue) (keeper : KeeperView) (caller moment : ℕ) (call : Call) (changes : List Change) (before after : ℕ) → IsReached rows d → IsLeft d caller moment call (Faulted before after) journal
    → stood ≡ rows → before ≡ d.keeper.faults → after ≡ keeper.faults → IsAsked {A = Told} d.keeper changes (Err fault.Failed) keeper → IsReached stood (desk_of journal d.opening d.base keeper)
reached_faulted rows stood d journal keeper caller moment call changes before after h left same began ended asked =
    let L = h.of_ledger in
    let reached : stood ≡ run (opened journal.settings d.opening) journal.entries =
    same ∙ h.run_of_log ∙ sym (run_faulted (first_state d) caller d.log moment call before after) ∙ (λ i. run (opened (sym left.settings i) d.opening) (sym left.entries i)) in
    let tables : (state d).tables ≡ (run (opened journal.settings d.opening) journal.entries).tables = ap (λ (S : State). S.tables) (sym h.run_of_log ∙ sym same ∙ reached) in
    let rise : IsRise before after = subst (λ n. IsRise n after) (sym began) (subst (λ n. IsRise d.keeper.faults n) (sym ended) asked.cause.0) in
    let legal = legal_more d.settings d.log caller moment call (Faulted before after) L.legal left.room rise (all_before_fault d.base d.keeper.faults before after d.log began L.counted) in
    let ledger : IsRunOfLedger (desk_of journal d.opening d.base keeper) = record {
      settings = subst AreInRange (sym left.settings) L.settings;
      sound = L.sound;
      legal = subst (λ s. IsLegal s journal.entries) (sym left.settings) (subst (λ es. IsLegal d.settings es) (sym left.entries) legal);
      no_fault = λ sure. let never : true ≡ false = sym (subst (λ b. IsTrue b) asked.same.sure sure) ∙ asked.cause.1 in absurd cc;
      held = subst (λ o. IfSome o (λ U. U ≡ (run (opened journal.settings d.opening) journal.entries).tables)) (sym asked.kept) (subst (λ T. IfSome d.keeper.held (λ U. U ≡ T)) tables L.held);
      base = omega (arith, L.base, asked.same.faults);
      counted = counted_left d caller moment call (Faulted before after) journal keeper.faults left L asked.same.faults (omega (arith, L.base, began), omega (arith, ended));
    } in
    record { run_of_log = reached; of_ledger = ledger }

-- rows and entries are as they were, whatever room there is, and so is what the keeper holds
pub reached_same : (rows stood : State) (d : DeskValue) (journal : JournalValue) (keeper : KeeperView) → IsReached rows d → stood ≡ rows → journal.settings ≡ d.settings → journal.entries ≡ d.log
    → IsSameKeeper d.keeper keeper → keeper.held ≡ d.keeper.held → IsReached stood (desk_of journal d.opening d.base keeper)
reached_same rows stood d journal keeper h are settings entries same kept =
    let L = h.of_ledger in
    let is : state d ≡ run (opened journal.settings d.opening) journal.entries = (λ i. run (opened (sym settings i) d.opening) (sym entries i)) in
    let ledger : IsRunOfLedger (desk_of journal d.opening d.base keeper) = record {
      settings = subst AreInRange (sym settings) L.settings;
      sound = L.sound;
      legal = subst (λ s. IsLegal s journal.entries) (sym settings) (subst (λ es. IsLegal d.settings es) (sym entries) L.legal);
      no_fault = λ sure. subst HasNoFault (sym entries) (L.no_fault (subst (λ b. IsTrue b) same.sure sure));
      held = subst (λ o. IfSome o (λ U. U ≡ (run (opened journal.settings d.opening) journal.entries).tables)) (sym kept) (subst (λ (S : State). IfSome d.keeper.held (λ U. U ≡ S.tables)) is L.held);
      base = omega (arith, L.base, same.faults);
      counted = subst (λ es. All (λ (x : Entry). IsCountedWithin d.base keeper.faults x.outcome) es) (sym entries) (counted_more d.base d.keeper.faults keeper.faults d.log same.faults L.counted);
    } in
    record { run_of_log = are ∙ h.run_of_log ∙ is; of_ledger = ledger }

-- how a call ends: answered, with the keeper's fault, or for want of memory
pub answers_ok : (rows stood : State) (d : DeskValue) (journal : JournalValue) (keeper : KeeperView) (caller moment : ℕ) (call : Call) (told : Told) → IsReached rows d → IsLeft d caller moment call Answered journal
    → stood ≡ (step rows moment call).state → replied stood.tables told ≡ (step rows moment call).reply → IsReached stood (desk_of journal d.opening d.base keeper)
    → Answers caller d moment call (Ok (replied (state (desk_of journal d.opening d.base keeper)).tables told)) (desk_of journal d.opening d.base keeper)
answers_ok rows stood d journal keeper caller moment call told h left stepped reply reached = record {
  ends = (
    left.room,
    told_reached stood (desk_of journal d.opening d.base keeper) told reached ∙ reply ∙ ap (λ (S : State). (step S moment call).reply) h.run_of_log,
    left.entries,
  );
  of_ledger = reached.of_ledger;
}

pub answers_fault : (stood : State) (d : DeskValue) (journal : JournalValue) (keeper : KeeperView) (caller moment : ℕ) (call : Call) (before after : ℕ) → IsLeft d caller moment call (Faulted before after) journal
    → IsRise before after → IsReached stood (desk_of journal d.opening d.base keeper) → Answers caller d moment call (Err (Keeper before after)) (desk_of journal d.opening d.base keeper)
answers_fault stood d journal keeper caller moment call before after left rise reached = record { ends = (left.room, rise, left.entries); of_ledger = reached.of_ledger }

-- a call on a desk is one of a service, to which no entries of others come
pub serves_from : (caller moment : ℕ) (call : Call) (before after : DeskValue) (told result : Result Reply Fault) → Answers caller before moment call told after → (IsTrue before.keeper.sure → IsSureResult told) → IsSameDesk before after → told ≡ result
    → Serves (service_of caller before) moment call result (service_of caller after)
serves_from caller moment call before after told result answered sure same is =
    let more : before.log ++ [] ≡ before.log = append-nil before.log in
    record {
      others = [];
      of_others = All-nil (λ e. e.caller ≢ caller);
      ends = subst (λ es. Ends (with_seen (service_of caller before) es) moment call result after.log) (sym more) (subst (λ r. Ends (service_of caller before) moment call r after.log) is answered.ends);
      legal = subst (λ s. IsLegal s after.log) same.settings answered.of_ledger.legal;
      stays = (λ i. record { me = caller; opening = opened (same.settings i) (same.opening i); seen = after.log; sure = same.keeper.sure i });
      sure_result = λ h. subst IsSureResult is (sure h);
    }
