-- What a call leaves that was made in a turn.
use Rattle.std.proofs.Common.{◌≡◌, ◌≢◌, ℕ, ◌+◌, ◌-◌, ◌^◌, ◌<◌, ◌==◌, IsTrue, List, [], ◌∷◌, ◌++◌, length, take, inl, inr, Result, Ok, Err, refl, sym, ap, subst, ◌∙◌, arith, append-nil, length-append}
use Rattle.std.proofs.lemmas.List.{append_cancel_left}
use Rattle.std.proofs.lemmas.List.Elements.{All-cons, All-nil, All-push, filter-append}
use Rattle.std.proofs.lemmas.Bool.{cond-false, cond-true}
use Rattle.std.proofs.lemmas.Bool.Decides.{eqb_tells}
use Rattle.std.proofs.Math.Seq.{take-append_seam}
use Rattle.desk_types.specs.declared.call.Call.{Call}
use Rattle.desk_types.specs.declared.entry.Entry.{Entry}
use Rattle.desk_types.specs.declared.entry.Fault.{Fault}
use Rattle.desk_types.specs.declared.entry.Fault.TheVariants.{Keeper, JournalFull, NoMemory}
use Rattle.desk_types.specs.declared.entry.Outcome.{Outcome}
use Rattle.desk_types.specs.declared.entry.Outcome.TheVariants.{Answered, Faulted}
use Rattle.desk_types.specs.declared.reply.Reply.{Reply}
use Rattle.desk_types.specs.Journal.{IsLegal, entries_of}
use Rattle.desk_types.specs.Run.{run}
use Rattle.desk_types.specs.State.{State}
use Rattle.desk_types.specs.Serving.{AreOfOthers, Ends, HasNoFault, IsSureResult, Serves, ServiceView, with_entry, with_seen}
use Rattle.desk_core.specs.declared.name.DeskName.{DeskName}
use Rattle.desk_core.specs.DeskValue.{Answers, DeskValue, IsRunOfLedger, IsSameDesk, first_state, name_of, service_of, state}
use Rattle.own_rows.specs.LeftAlone.{IsAsWithoutOthers}
use Rattle.own_rows.specs.OwnReply.{IsByOwnRows}
use Rattle.turn_lock.specs.Lists.{GrowsBy, IsPrefix}
use Rattle.turn_lock.specs.LockValues.{LockId}
use Rattle.desk_hall.specs.Callers.{HallPass, HasSeenLegal, all_but_last, entries_before, entries_by, opening_of, service_of_pass}

-- a further entry of the caller
grows_one : (caller : ℕ) (entries : List Entry) (moment : ℕ) (call : Call) (outcome : Outcome) (left : List Entry) → left ≡ with_entry caller entries moment call outcome → GrowsBy (λ (e : Entry). e.caller) caller entries left
grows_one caller entries moment call outcome left is =
    let e : Entry = record { caller = caller; number = entries_of caller entries + 1; moment = moment; call = call; outcome = outcome } in
    (e ∷ [], is, All-push (λ (x : Entry). x.caller ≡ caller) [] e (All-nil (λ (x : Entry). x.caller ≡ caller)) refl)

grows_none : (caller : ℕ) (entries left : List Entry) → left ≡ entries → GrowsBy (λ (e : Entry). e.caller) caller entries left
grows_none caller entries left is = ([], is ∙ sym (append-nil entries), All-nil (λ (x : Entry). x.caller ≡ caller))

-- what is left is what was found, or that with one entry of the caller
pub grows_ended : (service : ServiceView) (moment : ℕ) (call : Call) (result : Result Reply Fault) (left : List Entry) → Ends service moment call result left → GrowsBy (λ (e : Entry). e.caller) service.me service.seen left
grows_ended service moment call (Ok reply) left h = grows_one service.me service.seen moment call Answered left h.2
grows_ended service moment call (Err (Keeper before after)) left h = grows_one service.me service.seen moment call (Faulted before after) left h.2
grows_ended service moment call (Err (JournalFull entries bytes)) left h = grows_none service.me service.seen left h.3
grows_ended service moment call (Err NoMemory) left h = grows_none service.me service.seen left h

-- all but the last are those that were there
but_last : (entries left : List Entry) (e : Entry) → left ≡ entries ++ e ∷ [] → all_but_last left ≡ entries
but_last entries left e is =
    let long : length (entries ++ e ∷ []) - 1 ≡ length entries = omega (arith, length-append entries (e ∷ [])) in
    ap all_but_last is ∙ ap (λ n. take n (entries ++ e ∷ [])) long ∙ take-append_seam entries (e ∷ [])

pub before_ended : (service : ServiceView) (moment : ℕ) (call : Call) (result : Result Reply Fault) (left : List Entry) → Ends service moment call result left → entries_before result left ≡ service.seen
before_ended service moment call (Ok reply) left h = but_last service.seen left _ h.2
before_ended service moment call (Err (Keeper before after)) left h = but_last service.seen left _ h.2
before_ended service moment call (Err (JournalFull entries bytes)) left h = h.3
before_ended service moment call (Err NoMemory) left h = h

-- where none is the caller's, all are of others
of_others : (caller : ℕ) (entries : List Entry) → entries_by caller entries ≡ [] → AreOfOthers caller entries
of_others caller [] none = All-nil (λ (e : Entry). e.caller ≢ caller)
of_others caller (e ∷ entries) none =
    elim (eqb_tells e.caller caller) [
      | inl h ↦ absurd (let clash : e ∷ entries_by caller entries ≡ [] = sym (cond-true (e.caller == caller) _ _ h.0) ∙ none in cc)
      | inr h ↦ All-cons (λ (x : Entry). x.caller ≢ caller) e entries h.1 (of_others caller entries (sym (cond-false (e.caller == caller) _ _ h.0) ∙ none))
    ]

-- entries after which the caller has no more than before are of others
pub others_between : (caller : ℕ) (seen between found : List Entry) → found ≡ seen ++ between → entries_by caller found ≡ entries_by caller seen → AreOfOthers caller between
others_between caller seen between found is same =
    let split : entries_by caller seen ++ entries_by caller between ≡ entries_by caller seen ++ [] =
    sym (filter-append (λ (e : Entry). e.caller == caller) seen between) ∙ ap (entries_by caller) (sym is) ∙ same ∙ sym (append-nil (entries_by caller seen)) in
    of_others caller between (append_cancel_left (entries_by caller seen) (entries_by caller between) [] split)

-- the name stays
pub name_stays : (before after : DeskValue) → IsSameDesk before after → name_of after ≡ name_of before
name_stays before after same = (λ i. record { settings = same.settings i; opening = same.opening i; base = same.base i; sure = same.keeper.sure i })

-- a journal has less than 2^63 entries
pub room_of : (d : DeskValue) → IsRunOfLedger d → length d.log < 2 ^ 63
room_of d h = omega (arith, h.legal.entries_fit, h.settings.journal_in.1)

-- a turn: a pass of the desk's name comes in, the call ends on the desk, and a pass of the same caller has seen what is left
pub record IsTurn (p : HallPass) (d : DeskValue) (moment : ℕ) (call : Call) (result : Result Reply Fault) (left : DeskValue) (q : HallPass) : Type 0 where
  pub named : name_of d ≡ p.lock.name
  pub prefix : IsPrefix p.seen d.log
  pub own : entries_by p.number d.log ≡ entries_by p.number p.seen
  pub stays : IsSameDesk d left
  pub answers : Answers p.number d moment call result left
  pub sure : IsTrue d.keeper.sure → IsSureResult result
  pub by_own_rows : IsByOwnRows (state d) moment call result
  pub aside : IsAsWithoutOthers (first_state d) d.log moment call result
  pub lock : q.lock ≡ p.lock
  pub number : q.number ≡ p.number
  pub seen : q.seen ≡ left.log

module _ (p : HallPass) (d : DeskValue) (moment : ℕ) (call : Call) (result : Result Reply Fault) (left : DeskValue) (q : HallPass) (h : IsTurn p d moment call result left q) where
  name_left : name_of left ≡ q.lock.name
  name_left = (name_stays d left h.stays ∙ h.named) ∙ sym (ap (λ (l : LockId DeskName). l.name) h.lock)

  opening_same : first_state d ≡ opening_of p.lock.name
  opening_same = ap opening_of h.named

  found_before : d.log ≡ entries_before result q.seen
  found_before = sym (ap (entries_before result) h.seen ∙ before_ended (service_of p.number d) moment call result left.log h.answers.ends)

  pub turn_legal : HasSeenLegal q
  turn_legal =
      let settings : left.settings ≡ q.lock.name.settings = ap (λ (n : DeskName). n.settings) name_left in
      let sure : left.keeper.sure ≡ q.lock.name.sure = ap (λ (n : DeskName). n.sure) name_left in
      record {
        legal = subst (λ s. IsLegal s q.seen) settings (subst (λ es. IsLegal left.settings es) (sym h.seen) h.answers.of_ledger.legal);
        no_fault = λ is. subst HasNoFault (sym h.seen) (h.answers.of_ledger.no_fault (subst (λ b. IsTrue b) (sym sure) is));
      }

  pub turn_serves : Serves (service_of_pass p) moment call result (service_of_pass q)
  turn_serves =
      let found : service_of p.number d ≡ with_seen (service_of_pass p) (p.seen ++ h.prefix.0) =
      (λ i. record { me = p.number; opening = opening_same i; seen = h.prefix.1 i; sure = (h.named i).sure }) in
      record {
        others = h.prefix.0;
        of_others = others_between p.number p.seen h.prefix.0 d.log h.prefix.1 h.own;
        ends = subst (λ es. Ends (with_seen (service_of_pass p) (p.seen ++ h.prefix.0)) moment call result es) (sym h.seen)
            (subst (λ (s : ServiceView). Ends s moment call result left.log) found h.answers.ends);
        legal = subst (λ (l : LockId DeskName). IsLegal l.name.settings q.seen) h.lock turn_legal.legal;
        stays = (λ i. record { me = h.number i; opening = opening_of (h.lock i).name; seen = q.seen; sure = (h.lock i).name.sure });
        sure_result = λ is. h.sure (subst (λ (n : DeskName). IsTrue n.sure) (sym h.named) is);
      }

  pub turn_own_rows : IsByOwnRows (run (opening_of p.lock.name) (entries_before result q.seen)) moment call result
  turn_own_rows = subst (λ (S : State). IsByOwnRows S moment call result) (λ i. run (opening_same i) (found_before i)) h.by_own_rows

  pub turn_aside : IsAsWithoutOthers (opening_of p.lock.name) (entries_before result q.seen) moment call result
  turn_aside = subst (λ es. IsAsWithoutOthers (opening_of p.lock.name) es moment call result) found_before
      (subst (λ (S : State). IsAsWithoutOthers S d.log moment call result) opening_same h.aside)
