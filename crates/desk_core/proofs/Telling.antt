-- What a call leaves of a desk, by the desk before it.
use Rattle.std.proofs.Common.{◌≡◌, ◌≢◌, ℕ, ◌≤◌, true, false, IsTrue, IfOk, IfSome, List, [], Some, Result, Ok, Err, refl, sym, ap, subst, ◌∙◌}
use Rattle.std.specs.List.{All}
use Rattle.desk_types.specs.declared.call.Call.{Call}
use Rattle.desk_types.specs.declared.entry.Entry.{Entry}
use Rattle.desk_types.specs.declared.entry.Fault.{Fault}
use Rattle.desk_types.specs.declared.entry.Fault.TheVariants.{Keeper, JournalFull, NoMemory}
use Rattle.desk_types.specs.declared.entry.Outcome.{Outcome}
use Rattle.desk_types.specs.declared.entry.Outcome.TheVariants.{Answered, Faulted}
use Rattle.desk_types.specs.declared.tables.Tables.{Tables}
use Rattle.desk_types.specs.Journal.{HasRise, IsBefore, IsRise, is_full}
use Rattle.desk_types.specs.Serving.{IsSureResult, with_entry}
use Rattle.desk_types.specs.State.{State}
use Rattle.desk_types.specs.Step.{at_moment}
use Rattle.desk_keeper.specs.declared.keeper.KeeperFault.{KeeperFault}
use Rattle.desk_keeper.specs.declared.keeper.KeeperFault.TheVariants as failed
use Rattle.desk_keeper.specs.Keeping.{IsSameKeeper}
use Rattle.desk_keeper.specs.KeeperView.{KeeperView}
use Rattle.desk_core.specs.declared.told.Told.{Told}
use Rattle.desk_core.specs.Asking.{IsAsked, changes_at, changes_of}
use Rattle.desk_core.specs.DeskValue.{Answers, DeskValue, IsReached, IsSameDesk, desk_of, state}
use Rattle.desk_core.specs.JournalValue.{IsWithMoreRoom, JournalValue, with_ended}
use Rattle.desk_core.specs.Leaving.{Leaves, outcome_of}
use Rattle.desk_core.specs.Told.{IsThere, result_told}
use Rattle.desk_core.proofs.Asked.{asked_same}
use Rattle.desk_core.proofs.Desks.{IsLeft, answers_fault, answers_ok, reached_answered, reached_faulted, reached_same, there_reached}
use Rattle.desk_core.proofs.Entries.{all_before_answer, all_before_fault}

-- the keeper was asked for the changes of the call at its moment
pub asked_at : (rows now : State) (moment : ℕ) (call : Call) (before after : KeeperView) (result : Result Told KeeperFault) → now ≡ at_moment rows moment → IsAsked before (changes_of now call) result after → IsAsked before (changes_at rows moment call) result after
asked_at rows now moment call before after result is h = asked_same before after (changes_of now call) (changes_at rows moment call) result (ap (λ (S : State). changes_of S call) is) h

-- the journal has the call's entry
pub left_by : (d : DeskValue) (first between journal : JournalValue) (caller moment : ℕ) (call : Call) (outcome : Outcome) → is_full d.settings d.log call ≡ false → first.settings ≡ d.settings → first.entries ≡ d.log → IsWithMoreRoom first between
    → journal.settings ≡ between.settings → journal.entries ≡ with_entry caller between.entries moment call outcome → IsLeft d caller moment call outcome journal
left_by d first between journal caller moment call outcome room settings entries same is more = record {
  room = room;
  settings = is ∙ same.settings ∙ settings;
  entries = more ∙ ap (λ es. with_entry caller es moment call outcome) (same.entries ∙ entries);
}

pub same_desk : (d old : DeskValue) (journal : JournalValue) (keeper : KeeperView) → d ≡ old → journal.settings ≡ d.settings → IsSameKeeper d.keeper keeper → IsSameDesk old (desk_of journal d.opening d.base keeper)
same_desk d old journal keeper is settings same =
    let stays : IsSameDesk d (desk_of journal d.opening d.base keeper) = record { settings = settings; opening = refl; base = refl; keeper = same } in
    subst (λ (o : DeskValue). IsSameDesk o (desk_of journal d.opening d.base keeper)) is stays

pub unasked_of : (rows : State) (d old : DeskValue) (moment : ℕ) (call : Call) (result : Result Told KeeperFault) (keeper : KeeperView) → d ≡ old → IsReached rows d → IsAsked d.keeper (changes_at rows moment call) result keeper
    → changes_at (state old) moment call ≡ [] → keeper ≡ old.keeper
unasked_of rows d old moment call result keeper is h asked none =
    asked.unasked (ap (λ (S : State). changes_at S moment call) (h.run_of_log ∙ ap state is) ∙ none) ∙ ap (λ (o : DeskValue). o.keeper) is

-- a sure keeper did not fail
pub never_fails : (d old : DeskValue) → d ≡ old → d.keeper.sure ≡ false → IsTrue old.keeper.sure → ⊥
never_fails d old is unsure sure = let never : true ≡ false = sym (subst (λ (o : DeskValue). IsTrue o.keeper.sure) (sym is) sure) ∙ unsure in absurd cc

pub counts_of : (before after first last : ℕ) (d old : DeskValue) (now : ℕ) → d ≡ old → before ≡ d.keeper.faults → after ≡ now → Keeper before after ≡ Keeper first last → (first ≡ old.keeper.faults) × (last ≡ now)
counts_of before after first last d old now is began ended same =
    let one : first ≡ before = cc in
    let two : last ≡ after = cc in
    (one ∙ began ∙ ap (λ (o : DeskValue). o.keeper.faults) is, two ∙ ended)

-- what is known of a desk where a call was attempted: its rows and journal before, and what the attempt left
pub record IsTried (rows : State) (d : DeskValue) (first between journal : JournalValue) (keeper : KeeperView) (caller moment : ℕ) (call : Call) (result : Result Told Fault) (stood : State) : Type 0 where
  pub reached : IsReached rows d
  pub room : is_full d.settings d.log call ≡ false
  pub settings : first.settings ≡ d.settings
  pub log : first.entries ≡ d.log
  pub spared : IsWithMoreRoom first between
  pub noted : journal.settings ≡ between.settings
  pub entries : journal.entries ≡ with_ended caller between.entries moment call (outcome_of result)
  pub leaves : Leaves rows moment call d.keeper result stood keeper

-- the journal has the call's entry
left_tried : (rows : State) (d : DeskValue) (first between journal : JournalValue) (keeper : KeeperView) (caller moment : ℕ) (call : Call) (result : Result Told Fault) (stood : State) (outcome : Outcome)
    → IsTried rows d first between journal keeper caller moment call result stood → outcome_of result ≡ Some outcome → IsLeft d caller moment call outcome journal
left_tried rows d first between journal keeper caller moment call result stood outcome t is =
    left_by d first between journal caller moment call outcome t.room t.settings t.log t.spared t.noted (t.entries ∙ ap (with_ended caller between.entries moment call) is)

pub tried_reached : (rows : State) (d : DeskValue) (first between journal : JournalValue) (keeper : KeeperView) (caller moment : ℕ) (call : Call) (result : Result Told Fault) (stood : State)
    → IsTried rows d first between journal keeper caller moment call result stood → IsReached stood (desk_of journal d.opening d.base keeper)
tried_reached rows d first between journal keeper caller moment call (Ok told) stood t =
    reached_answered rows stood d journal keeper caller moment call told t.reached (left_tried rows d first between journal keeper caller moment call (Ok told) stood Answered t refl) t.leaves.0.state t.leaves.1
tried_reached rows d first between journal keeper caller moment call (Err (Keeper before after)) stood t =
    reached_faulted rows stood d journal keeper caller moment call (changes_at rows moment call) before after t.reached (left_tried rows d first between journal keeper caller moment call (Err (Keeper before after)) stood (Faulted before after) t refl)
    t.leaves.0 t.leaves.1.before t.leaves.1.after t.leaves.2
tried_reached rows d first between journal keeper caller moment call (Err (JournalFull entries bytes)) stood t = absurd t.leaves
tried_reached rows d first between journal keeper caller moment call (Err NoMemory) stood t =
    reached_same rows stood d journal keeper t.reached t.leaves.0 (t.noted ∙ t.spared.settings ∙ t.settings) (t.entries ∙ t.spared.entries ∙ t.log) t.leaves.1.same t.leaves.1.kept

tried_answers : (rows : State) (d : DeskValue) (first between journal : JournalValue) (keeper : KeeperView) (caller moment : ℕ) (call : Call) (result : Result Told Fault) (stood : State)
    → IsTried rows d first between journal keeper caller moment call result stood → Answers caller d moment call (result_told (state (desk_of journal d.opening d.base keeper)).tables result) (desk_of journal d.opening d.base keeper)
tried_answers rows d first between journal keeper caller moment call (Ok told) stood t =
    answers_ok rows stood d journal keeper caller moment call told t.reached (left_tried rows d first between journal keeper caller moment call (Ok told) stood Answered t refl) t.leaves.0.state t.leaves.0.reply
    (tried_reached rows d first between journal keeper caller moment call (Ok told) stood t)
tried_answers rows d first between journal keeper caller moment call (Err (Keeper before after)) stood t =
    let rise : IsRise before after = subst (λ n. IsRise n after) (sym t.leaves.1.before) (subst (λ n. IsRise d.keeper.faults n) (sym t.leaves.1.after) t.leaves.2.cause.0) in
    answers_fault stood d journal keeper caller moment call before after (left_tried rows d first between journal keeper caller moment call (Err (Keeper before after)) stood (Faulted before after) t refl) rise
    (tried_reached rows d first between journal keeper caller moment call (Err (Keeper before after)) stood t)
tried_answers rows d first between journal keeper caller moment call (Err (JournalFull entries bytes)) stood t = absurd t.leaves
tried_answers rows d first between journal keeper caller moment call (Err NoMemory) stood t =
    record { ends = t.entries ∙ t.spared.entries ∙ t.log; of_ledger = (tried_reached rows d first between journal keeper caller moment call (Err NoMemory) stood t).of_ledger }

pub told_answers : (rows : State) (d old : DeskValue) (first between journal : JournalValue) (keeper : KeeperView) (caller moment : ℕ) (call : Call) (result : Result Told Fault) (stood : State)
    → IsTried rows d first between journal keeper caller moment call result stood → d ≡ old → Answers caller old moment call (result_told (state (desk_of journal d.opening d.base keeper)).tables result) (desk_of journal d.opening d.base keeper)
told_answers rows d old first between journal keeper caller moment call result stood t is =
    subst (λ (o : DeskValue). Answers caller o moment call (result_told (state (desk_of journal d.opening d.base keeper)).tables result) (desk_of journal d.opening d.base keeper)) is
    (tried_answers rows d first between journal keeper caller moment call result stood t)

pub told_there : (rows : State) (d : DeskValue) (first between journal : JournalValue) (keeper : KeeperView) (caller moment : ℕ) (call : Call) (result : Result Told Fault) (stood : State)
    → IsTried rows d first between journal keeper caller moment call result stood → IfOk result (IsThere (state (desk_of journal d.opening d.base keeper)).tables)
told_there rows d first between journal keeper caller moment call (Ok told) stood t =
    there_reached stood (desk_of journal d.opening d.base keeper) told (tried_reached rows d first between journal keeper caller moment call (Ok told) stood t) t.leaves.0.there
told_there rows d first between journal keeper caller moment call (Err fault) stood t = tt

same_tried : (rows : State) (moment : ℕ) (call : Call) (before : KeeperView) (result : Result Told Fault) (stood : State) (after : KeeperView) → Leaves rows moment call before result stood after → IsSameKeeper before after
same_tried rows moment call before (Ok told) stood after h = h.1.same
same_tried rows moment call before (Err (Keeper first last)) stood after h = h.2.same
same_tried rows moment call before (Err (JournalFull entries bytes)) stood after h = absurd h
same_tried rows moment call before (Err NoMemory) stood after h = h.1.same

pub told_stays : (rows : State) (d old : DeskValue) (first between journal : JournalValue) (keeper : KeeperView) (caller moment : ℕ) (call : Call) (result : Result Told Fault) (stood : State)
    → IsTried rows d first between journal keeper caller moment call result stood → d ≡ old → IsSameDesk old (desk_of journal d.opening d.base keeper)
told_stays rows d old first between journal keeper caller moment call result stood t is =
    same_desk d old journal keeper is (t.noted ∙ t.spared.settings ∙ t.settings) (same_tried rows moment call d.keeper result stood keeper t.leaves)

pub told_unasked : (rows : State) (d old : DeskValue) (moment : ℕ) (call : Call) (result : Result Told Fault) (stood : State) (keeper : KeeperView) → d ≡ old → IsReached rows d → Leaves rows moment call d.keeper result stood keeper
    → changes_at (state old) moment call ≡ [] → keeper ≡ old.keeper
told_unasked rows d old moment call (Ok told) stood keeper is h leaves none = unasked_of rows d old moment call (Ok told) keeper is h leaves.1 none
told_unasked rows d old moment call (Err (Keeper first last)) stood keeper is h leaves none = unasked_of rows d old moment call (Err failed.Failed) keeper is h leaves.2 none
told_unasked rows d old moment call (Err (JournalFull entries bytes)) stood keeper is h leaves none = absurd leaves
told_unasked rows d old moment call (Err NoMemory) stood keeper is h leaves none = unasked_of rows d old moment call (Err failed.NoMemory) keeper is h leaves.1 none

pub told_sure : (rows : State) (d old : DeskValue) (moment : ℕ) (call : Call) (result : Result Told Fault) (stood : State) (keeper : KeeperView) (T : Tables) → d ≡ old → Leaves rows moment call d.keeper result stood keeper
    → IsTrue old.keeper.sure → IsSureResult (result_told T result)
told_sure rows d old moment call (Ok told) stood keeper T is leaves sure = tt
told_sure rows d old moment call (Err (Keeper first last)) stood keeper T is leaves sure = never_fails d old is leaves.2.cause.1 sure
told_sure rows d old moment call (Err (JournalFull entries bytes)) stood keeper T is leaves sure = tt
told_sure rows d old moment call (Err NoMemory) stood keeper T is leaves sure = tt

pub told_counts : (rows : State) (d old : DeskValue) (moment : ℕ) (call : Call) (result : Result Told Fault) (stood : State) (keeper : KeeperView) (first last : ℕ) → d ≡ old → Leaves rows moment call d.keeper result stood keeper
    → result ≡ Err (Keeper first last) → (first ≡ old.keeper.faults) × (last ≡ keeper.faults)
told_counts rows d old moment call (Ok told) stood keeper first last is leaves same = absurd cc
told_counts rows d old moment call (Err (Keeper before after)) stood keeper first last is leaves same =
    let one : Keeper before after ≡ Keeper first last = cc in
    counts_of before after first last d old keeper.faults is leaves.1.before leaves.1.after one
told_counts rows d old moment call (Err (JournalFull entries bytes)) stood keeper first last is leaves same = absurd cc
told_counts rows d old moment call (Err NoMemory) stood keeper first last is leaves same = absurd cc

-- what is needed to note the call
pub note_room : (result : Result Told Fault) (spare : ℕ) → (result ≢ Err NoMemory → 1 ≤ spare) → IfSome (outcome_of result) (λ outcome. 1 ≤ spare)
note_room (Ok told) spare room = room (λ same. absurd cc)
note_room (Err (Keeper before after)) spare room = room (λ same. absurd cc)
note_room (Err (JournalFull entries bytes)) spare room = tt
note_room (Err NoMemory) spare room = tt

pub note_rise : (rows : State) (moment : ℕ) (call : Call) (before : KeeperView) (result : Result Told Fault) (stood : State) (after : KeeperView) → Leaves rows moment call before result stood after → IfSome (outcome_of result) HasRise
note_rise rows moment call before (Ok told) stood after h = tt
note_rise rows moment call before (Err (Keeper first last)) stood after h = subst (λ n. IsRise n last) (sym h.1.before) (subst (λ n. IsRise before.faults n) (sym h.1.after) h.2.cause.0)
note_rise rows moment call before (Err (JournalFull entries bytes)) stood after h = tt
note_rise rows moment call before (Err NoMemory) stood after h = tt

pub note_in_order : (rows : State) (moment : ℕ) (call : Call) (d : DeskValue) (result : Result Told Fault) (stood : State) (after : KeeperView) (entries : List Entry) → entries ≡ d.log → IsReached rows d → Leaves rows moment call d.keeper result stood after
    → IfSome (outcome_of result) (λ outcome. All (λ e. IsBefore e.outcome outcome) entries)
note_in_order rows moment call d (Ok told) stood after entries is h leaves = all_before_answer entries
note_in_order rows moment call d (Err (Keeper first last)) stood after entries is h leaves =
    subst (λ es. All (λ (e : Entry). IsBefore e.outcome (Faulted first last)) es) (sym is) (all_before_fault d.base d.keeper.faults first last d.log leaves.1.before h.of_ledger.counted)
note_in_order rows moment call d (Err (JournalFull full bytes)) stood after entries is h leaves = tt
note_in_order rows moment call d (Err NoMemory) stood after entries is h leaves = tt
