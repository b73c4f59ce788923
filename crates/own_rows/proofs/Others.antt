-- What leaves an account alone leaves what it has, but for the moment.
use Rattle.std.proofs.Common.{◌≡◌, ◌≢◌, ℕ, ◌+◌, ◌≤◌, max, min, false, inl, inr, List, [], ◌∷◌, ◌++◌, length, map, Option, None, Some, Ok, Err, refl, sym, ap, subst, ◌∙◌, arith}
use Rattle.std.specs.List.{All}
use Rattle.std.proofs.lemmas.Bool.{cases_Bool, cond-true, cond-false}
use Rattle.query_words.specs.Words.{words_of}
use Rattle.desk_types.specs.declared.call.Call.{Call}
use Rattle.desk_types.specs.declared.call.Call.TheVariants.{AddAccount, Credit, HostReport, Search, Click}
use Rattle.desk_types.specs.declared.entry.Entry.{Entry}
use Rattle.desk_types.specs.declared.entry.Fault.{Fault}
use Rattle.desk_types.specs.declared.entry.Outcome.{Outcome}
use Rattle.desk_types.specs.declared.entry.Outcome.TheVariants.{Answered, Faulted}
use Rattle.desk_types.specs.declared.limits.TheConstants.{MOMENT_MAX}
use Rattle.desk_types.specs.declared.refusal.Refusal.{Refusal}
use Rattle.desk_types.specs.declared.reply.Reply.{Reply}
use Rattle.desk_types.specs.declared.reply.Reply.TheVariants.{Made, Page}
use Rattle.desk_types.specs.declared.reply.Spot.{Spot}
use Rattle.desk_types.specs.declared.rows.Fate.{Fate}
use Rattle.desk_types.specs.declared.rows.Fate.TheVariants as fate
use Rattle.desk_types.specs.declared.rows.Placement.{Placement}
use Rattle.desk_types.specs.declared.tables.Change.TheVariants.{PutFate}
use Rattle.desk_types.specs.declared.tables.Tables.{Tables}
use Rattle.desk_types.specs.Changes.{changes, credit_of, credit_on, placements_for, reply, settlement, spot_of}
use Rattle.desk_types.specs.Eligible.{entrants_for}
use Rattle.desk_types.specs.Judged.{judged, page_of}
use Rattle.desk_types.specs.Money.{is_escrowed}
use Rattle.desk_types.specs.Own.{account_named, rows_of}
use Rattle.desk_types.specs.Run.{after, answer, run}
use Rattle.desk_types.specs.State.{State}
use Rattle.desk_types.specs.Step.{accepted, answered, at_moment, step}
use Rattle.desk_types.specs.Tables.{placement_of, put_all}
use Rattle.desk_types.proofs.Editions.{run-append}
use Rattle.desk_types.proofs.Histories.{placements_put, sound_after, sound_run}
use Rattle.desk_types.proofs.InOrder.{Each-from_All}
use Rattle.desk_types.proofs.OwnRows.{step_leaves}
use Rattle.desk_types.proofs.Sound.{sound_later}
use Rattle.desk_types.proofs.Stable.{IsStable}
use Rattle.own_rows.specs.LeftAlone.{AllLeaveAlone, EntryLeavesAlone, IsAsWithoutOthers, IsOwnButForMoment, LeavesAlone}
use Rattle.own_rows.specs.OwnReply.{IsByOwnRows, Own, advertiser_of, own, own_reply, state_of_own}
use Rattle.own_rows.proofs.LeftRows.{account_left, fate_put_left, none_shown, page_left}
use Rattle.own_rows.proofs.Replied.{replied_own}

made_left : (S : State) (key : List ℕ) (k : ℕ) (judgement : Option Refusal) → IsStable S → (answered S (AddAccount key) judgement).reply ≢ Made k
    → rows_of (answered S (AddAccount key) judgement).state.tables k ≡ rows_of S.tables k
unfolding accepted changes reply put_all
made_left S key k (Some refusal) sound other = refl
made_left S key k None sound other =
    account_left S.tables (record { number = length S.tables.accounts + 1; key = key; suspended = false }) k sound.numbered.accounts refl (λ e. other (ap Made e))

searched_left : (S : State) (text : List ℕ) (places : Option ℕ) (k : ℕ) (judgement : Option Refusal) → IsStable S
    → ((spots : List Spot) → (answered S (Search text places) judgement).reply ≡ Page spots → All (λ spot. spot.account ≢ k) spots)
    → rows_of (answered S (Search text places) judgement).state.tables k ≡ rows_of S.tables k
unfolding accepted changes reply
searched_left S text places k (Some refusal) sound other = refl
searched_left S text places k None sound other =
    let new = placements_for S text places in
    page_left S.tables k new
    (placements_put S S.tables (entrants_for S (words_of text)) (length S.tables.placements + 1) (page_of S text places) sound.numbered.placements refl)
    (none_shown S.tables k new (Each-from_All (λ (spot : Spot). spot.account ≢ k) (map (spot_of S.tables) new) (other (map (spot_of S.tables) new) refl)))

-- the change of a fate, or none
settled_left : (T : Tables) (k n moment : ℕ) (found : Option Placement) → placement_of T n ≡ found → ((p : Placement) → placement_of T n ≡ Some p → p.account ≢ k)
    → rows_of (put_all T (settlement moment found)) k ≡ rows_of T k
unfolding put_all
settled_left T k n moment None is other = refl
settled_left T k n moment (Some p) is other =
    elim (cases_Bool (is_escrowed moment p)) [
      | inl t ↦
          ap (λ list. rows_of (put_all T list) k) (cond-true (is_escrowed moment p) (PutFate p.number (fate.Settled moment) ∷ []) [] t)
          ∙ fate_put_left T k n p (fate.Settled moment) is (other p is)
      | inr t ↦ ap (λ list. rows_of (put_all T list) k) (cond-false (is_escrowed moment p) (PutFate p.number (fate.Settled moment) ∷ []) [] t)
    ]

credited_on_left : (T : Tables) (k n moment : ℕ) (p : Placement) (now : Fate) → placement_of T n ≡ Some p → p.account ≢ k → rows_of (put_all T (credit_on moment p.number now)) k ≡ rows_of T k
unfolding put_all
credited_on_left T k n moment p fate.Open is other = refl
credited_on_left T k n moment p (fate.Settled at) is other = fate_put_left T k n p (fate.Credited at moment) is other
credited_on_left T k n moment p (fate.Credited settled credited) is other = refl

credited_left : (T : Tables) (k n moment : ℕ) (found : Option Placement) → placement_of T n ≡ found → ((p : Placement) → placement_of T n ≡ Some p → p.account ≢ k)
    → rows_of (put_all T (credit_of moment found)) k ≡ rows_of T k
unfolding put_all
credited_left T k n moment None is other = refl
credited_left T k n moment (Some p) is other = credited_on_left T k n moment p p.fate is (other p is)

credit_left : (S : State) (placement k : ℕ) (judgement : Option Refusal) → ((p : Placement) → placement_of S.tables placement ≡ Some p → p.account ≢ k)
    → rows_of (answered S (Credit placement) judgement).state.tables k ≡ rows_of S.tables k
unfolding accepted changes
credit_left S placement k (Some refusal) other = refl
credit_left S placement k None other = credited_left S.tables k placement S.moment (placement_of S.tables placement) refl other

click_left : (S : State) (placement k : ℕ) (judgement : Option Refusal) → ((p : Placement) → placement_of S.tables placement ≡ Some p → p.account ≢ k)
    → rows_of (answered S (Click placement) judgement).state.tables k ≡ rows_of S.tables k
unfolding accepted changes
click_left S placement k (Some refusal) other = refl
click_left S placement k None other = settled_left S.tables k placement S.moment (placement_of S.tables placement) refl other

reported_left : (S : State) (day k : ℕ) (judgement : Option Refusal) → rows_of (answered S (HostReport day) judgement).state.tables k ≡ rows_of S.tables k
unfolding accepted changes put_all
reported_left S day k (Some refusal) = refl
reported_left S day k None = refl

-- a call that names no account
unnamed_left : (S : State) (k moment : ℕ) (call : Call) → account_named call ≡ None → IsStable S → LeavesAlone S k moment call → rows_of (step S moment call).state.tables k ≡ rows_of S.tables k
unfolding step
unnamed_left S k moment (AddAccount key) named sound h =
    let now = at_moment S moment in made_left now key k (judged now (AddAccount key)) (sound_later S moment sound) (h.not_made key refl)
unnamed_left S k moment (Credit placement) named sound h =
    let now = at_moment S moment in credit_left now placement k (judged now (Credit placement)) (λ p found. h.no_placement placement p refl found)
unnamed_left S k moment (HostReport day) named sound h =
    let now = at_moment S moment in reported_left now day k (judged now (HostReport day))
unnamed_left S k moment (Search text places) named sound h =
    let now = at_moment S moment in searched_left now text places k (judged now (Search text places)) (sound_later S moment sound) h.not_shown
unnamed_left S k moment (Click placement) named sound h =
    let now = at_moment S moment in click_left now placement k (judged now (Click placement)) (λ p found. h.no_placement placement p refl found)
unnamed_left S k moment call named sound h = absurd cc

left_by : (S : State) (k moment : ℕ) (call : Call) (named : Option ℕ) → account_named call ≡ named → IsStable S → LeavesAlone S k moment call → rows_of (step S moment call).state.tables k ≡ rows_of S.tables k
left_by S k moment call (Some account) named sound h = step_leaves S moment call account k named (λ e. h.not_named (named ∙ ap Some e))
left_by S k moment call None named sound h = unnamed_left S k moment call named sound h

settings_answered : (S : State) (call : Call) (judgement : Option Refusal) → (answered S call judgement).state.settings ≡ S.settings
unfolding accepted
settings_answered S call (Some refusal) = refl
settings_answered S call None = refl

settings_step : (S : State) (moment : ℕ) (call : Call) → (step S moment call).state.settings ≡ S.settings
unfolding step
settings_step S moment call = settings_answered (at_moment S moment) call (judged (at_moment S moment) call)

-- a call that leaves the account alone leaves what it has
pub call_left : (S : State) (k moment : ℕ) (call : Call) → IsStable S → LeavesAlone S k moment call → IsOwnButForMoment (own S k) (own (step S moment call).state k)
call_left S k moment call sound h =
    let T : State = (step S moment call).state in
    λ i. record { settings = settings_step S moment call i; moment = T.moment; rows = left_by S k moment call (account_named call) refl sound h i }

after_left : (S : State) (k : ℕ) (e : Entry) (outcome : Outcome) → IsStable S → EntryLeavesAlone S k e outcome → IsOwnButForMoment (own S k) (own (after S e.moment e.call outcome) k)
after_left S k e Answered sound h = call_left S k e.moment e.call sound h
after_left S k e (Faulted before count) sound h = refl

-- so do entries
pub entries_left : (S : State) (k : ℕ) (entries : List Entry) → IsStable S → AllLeaveAlone S k entries → IsOwnButForMoment (own S k) (own (run S entries) k)
unfolding run AllLeaveAlone
entries_left S k [] sound h = refl
entries_left S k (e ∷ entries) sound h =
    let T : State = after S e.moment e.call e.outcome in
    let last = (run T entries).moment in
    entries_left T k entries (sound_after S e.moment e.call e.outcome sound) h.1
    ∙ ap (λ (O : Own). record O { moment = last }) (after_left S k e e.outcome sound h.0)

-- moments go onward
later_answered : (S : State) (call : Call) (judgement : Option Refusal) → (answered S call judgement).state.moment ≡ S.moment
unfolding accepted
later_answered S call (Some refusal) = refl
later_answered S call None = refl

later_after : (S : State) (moment : ℕ) (call : Call) (outcome : Outcome) → S.moment ≤ (after S moment call outcome).moment
unfolding step
later_after S moment call Answered =
    let now = at_moment S moment in let same = later_answered now call (judged now call) in omega (arith, same)
later_after S moment call (Faulted before count) = omega arith

later_run : (S : State) (entries : List Entry) → S.moment ≤ (run S entries).moment
unfolding run
later_run S [] = omega arith
later_run S (e ∷ entries) =
    let T : State = after S e.moment e.call e.outcome in
    omega (arith, later_after S e.moment e.call e.outcome, later_run T entries)

-- the moment that a call is judged at comes again where the call is made at it
again : (first last moment : ℕ) → first ≤ last → last ≤ MOMENT_MAX → max first (min (max last (min moment MOMENT_MAX)) MOMENT_MAX) ≡ max last (min moment MOMENT_MAX)
again first last moment low high = omega arith

-- what is answered reads the moment that the call is judged at, and not how it came to be
at_same_moment : (O : Own) (call : Call) (last moment : ℕ) → O.moment ≤ last → last ≤ MOMENT_MAX → own_reply (record O { moment = last }) moment call ≡ own_reply O (max last (min moment MOMENT_MAX)) call
unfolding step own_reply
at_same_moment O call last moment low high =
    let answers = λ (m : ℕ). let S = record (state_of_own O) { moment = m } in (answered S call (judged S call)).reply in
    ap answers (sym (again O.moment last moment low high))

pub without : (S : State) (before between : List Entry) (k moment : ℕ) (call : Call) → IsStable S → advertiser_of call ≡ Some k → AllLeaveAlone (run S before) k between
    → answer S (before ++ between) moment call ≡ answer S before (at_moment (run S (before ++ between)) moment).moment call
without S before between k moment call sound by alone =
    let first = run S before in
    let T = run first between in
    let sound_first = sound_run S before sound in
    let sound_last = sound_run first between sound_first in
    ap (λ (U : State). (step U moment call).reply) (run-append S before between)
    ∙ replied_own T k moment call sound_last.in_order by
    ∙ ap (λ (O : Own). own_reply O moment call) (entries_left first k between sound_first alone)
    ∙ at_same_moment (own first k) call T.moment moment (later_run first between) sound_last.moment
    ∙ sym (replied_own first k (max T.moment (min moment MOMENT_MAX)) call sound_first.in_order by)
    ∙ ap (λ (U : State). (step first (at_moment U moment).moment call).reply) (sym (run-append S before between))

-- the reply to a call, where it is the ledger's
pub by_own_rows : (S : State) (moment : ℕ) (call : Call) (reply : Reply) → IsStable S → reply ≡ (step S moment call).reply → IsByOwnRows S moment call (Ok reply)
unfolding IsByOwnRows
by_own_rows S moment call reply sound is = λ account by. is ∙ replied_own S account moment call sound.in_order by

pub as_without_others : (S : State) (entries : List Entry) (moment : ℕ) (call : Call) (reply : Reply) → IsStable S → reply ≡ answer S entries moment call → IsAsWithoutOthers S entries moment call (Ok reply)
unfolding IsAsWithoutOthers
as_without_others S entries moment call reply sound is = λ account before between by split alone. (
  subst (λ (es : List Entry). IsOwnButForMoment (own (run S before) account) (own (run S es) account)) (sym split)
      (subst (λ (U : State). IsOwnButForMoment (own (run S before) account) (own U account)) (sym (run-append S before between)) (entries_left (run S before) account between (sound_run S before sound) alone)),
  is ∙ subst (λ (es : List Entry). answer S es moment call ≡ answer S before (at_moment (run S es) moment).moment call) (sym split) (without S before between account moment call sound by alone),
)

-- a fault is no reply
pub fault_by_own_rows : (S : State) (moment : ℕ) (call : Call) (fault : Fault) → IsByOwnRows S moment call (Err fault)
unfolding IsByOwnRows
fault_by_own_rows S moment call fault = λ account by. tt

pub fault_without_others : (S : State) (entries : List Entry) (moment : ℕ) (call : Call) (fault : Fault) → IsStable S → IsAsWithoutOthers S entries moment call (Err fault)
unfolding IsAsWithoutOthers
fault_without_others S entries moment call fault sound = λ account before between by split alone. (
  subst (λ (es : List Entry). IsOwnButForMoment (own (run S before) account) (own (run S es) account)) (sym split)
      (subst (λ (U : State). IsOwnButForMoment (own (run S before) account) (own U account)) (sym (run-append S before between)) (entries_left (run S before) account between (sound_run S before sound) alone)),
  tt,
)
