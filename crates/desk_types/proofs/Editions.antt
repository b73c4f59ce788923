-- The edition rises with each change of the catalogue.
use Rattle.std.proofs.Common.{◌≡◌, ℕ, ◌+◌, ◌≤◌, true, false, if◌then◌else◌, inl, inr, Option, None, Some, is_none, List, [], ◌∷◌, ◌++◌, map, refl, sym, ap, ◌∙◌, arith}
use Rattle.std.proofs.lemmas.Bool.{cases_Bool}
use Rattle.desk_types.specs.declared.call.Call.{Call}
use Rattle.desk_types.specs.declared.call.Call.TheVariants.{Credit, HostReport, SetBudget, Import, Report, Shown, Search, Click}
use Rattle.desk_types.specs.declared.call.ImportRow.{ImportRow}
use Rattle.desk_types.specs.declared.entry.Entry.{Entry}
use Rattle.desk_types.specs.declared.entry.Outcome.{Outcome}
use Rattle.desk_types.specs.declared.entry.Outcome.TheVariants.{Answered, Faulted}
use Rattle.desk_types.specs.declared.refusal.Refusal.{Refusal}
use Rattle.desk_types.specs.declared.rows.Batch.{Batch}
use Rattle.desk_types.specs.declared.rows.Fate.{Fate}
use Rattle.desk_types.specs.declared.rows.Fate.TheVariants.{Open, Settled, Credited}
use Rattle.desk_types.specs.declared.rows.Placement.{Placement}
use Rattle.desk_types.specs.declared.tables.Change.{Change}
use Rattle.desk_types.specs.declared.tables.Change.TheVariants.{PutAccount, PutCampaign, PutBudget, PutLine, PutNegative, PutPlacement, PutBatch, PutFate}
use Rattle.desk_types.specs.declared.tables.Tables.{Tables}
use Rattle.desk_types.specs.Changes.{changes, credit_of, credit_on, import_of, placements_for, raises_edition, settlement}
use Rattle.desk_types.specs.Judged.{judged}
use Rattle.desk_types.specs.Money.{is_escrowed}
use Rattle.desk_types.specs.Run.{after, run}
use Rattle.desk_types.specs.State.{State, catalogue}
use Rattle.desk_types.specs.Step.{accepted, answered, at_moment, next_edition, step}
use Rattle.desk_types.specs.Tables.{batch_of, placement_of, put, put_all, put_fate}
use Rattle.desk_types.proofs.EachRow.{Each}
use Rattle.desk_types.proofs.Lawful.{changed}

-- the edition does not fall, and where it stays the catalogue does
pub record Keeps (S T : State) : Type 0 where
  pub rises : S.edition ≤ T.edition
  pub same : T.edition ≡ S.edition → catalogue T ≡ catalogue S

rose : (S T : State) → T.edition ≡ S.edition + 1 → Keeps S T
rose S T e = record { rises = omega arith; same = λ is. absurd (omega (arith, is)) }

stayed : (S T : State) → T.edition ≡ S.edition → catalogue T ≡ catalogue S → Keeps S T
stayed S T e is = record { rises = omega arith; same = λ _. is }

Keeps-trans : (S T U : State) → Keeps S T → Keeps T U → Keeps S U
Keeps-trans S T U h k = record {
  rises = omega (arith, h.rises, k.rises);
  same = λ is. k.same (omega (arith, h.rises, k.rises, is)) ∙ h.same (omega (arith, h.rises, k.rises, is));
}

-- a change of money alone
abbrev IsOfMoney : Change → Type 0
IsOfMoney (PutAccount a) = ⊥
IsOfMoney (PutCampaign c) = ⊥
IsOfMoney (PutBudget b) = Unit {0}
IsOfMoney (PutLine l) = ⊥
IsOfMoney (PutNegative n) = ⊥
IsOfMoney (PutPlacement p) = Unit {0}
IsOfMoney (PutFate number fate) = Unit {0}
IsOfMoney (PutBatch b) = Unit {0}

fate_keeps : (S : State) (fate : Fate) (found : Option Placement) → catalogue (record S { tables = put_fate S.tables fate found }) ≡ catalogue S
fate_keeps S fate None = refl
fate_keeps S fate (Some p) = refl

money_keeps : (S : State) (change : Change) → IsOfMoney change → catalogue (changed S change) ≡ catalogue S
unfolding put
money_keeps S (PutAccount a) h = absurd (elim h [ ])
money_keeps S (PutCampaign c) h = absurd (elim h [ ])
money_keeps S (PutBudget b) h = refl
money_keeps S (PutLine l) h = absurd (elim h [ ])
money_keeps S (PutNegative n) h = absurd (elim h [ ])
money_keeps S (PutPlacement p) h = refl
money_keeps S (PutFate number fate) h = fate_keeps S fate (placement_of S.tables number)
money_keeps S (PutBatch b) h = refl

all_keep : (S : State) (cs : List Change) → Each IsOfMoney cs → catalogue (record S { tables = put_all S.tables cs }) ≡ catalogue S
unfolding put_all
all_keep S [] h = refl
all_keep S (c ∷ cs) h = all_keep (changed S c) cs h.1 ∙ money_keeps S c h.0

money_shown : (ps : List Placement) → Each IsOfMoney (map PutPlacement ps)
money_shown [] = tt
money_shown (p ∷ ps) = (tt, money_shown ps)

money_settled : (moment : ℕ) (found : Option Placement) → Each IsOfMoney (settlement moment found)
money_settled moment None = tt
money_settled moment (Some p) =
    elim (is_escrowed moment p) as (λ b. Each IsOfMoney (if b then PutFate p.number (Settled moment) ∷ [] else [])) [ true ↦ (tt, tt) | false ↦ tt ]

money_credited_on : (moment number : ℕ) (fate : Fate) → Each IsOfMoney (credit_on moment number fate)
money_credited_on moment number Open = tt
money_credited_on moment number (Settled at) = (tt, tt)
money_credited_on moment number (Credited settled credited) = tt

money_credited : (moment : ℕ) (found : Option Placement) → Each IsOfMoney (credit_of moment found)
money_credited moment None = tt
money_credited moment (Some p) = money_credited_on moment p.number p.fate

-- an import of a batch that is there changes nothing
money_imported : (T : Tables) (account number : ℕ) (rows : List ImportRow) (found : Option Batch) → is_none found ≡ false → Each IsOfMoney (import_of T account number rows found)
money_imported T account number rows (Some b) h = tt
money_imported T account number rows None h = absurd cc

-- a call with which the edition stays changes money alone
money_alone : (S : State) (call : Call) → raises_edition S call ≡ false → Each IsOfMoney (changes S call)
unfolding changes raises_edition
money_alone S (Credit placement) h = money_credited S.moment (placement_of S.tables placement)
money_alone S (HostReport day) h = tt
money_alone S (SetBudget account key campaign amount) h = (tt, tt)
money_alone S (Import account key batch rows) h = money_imported S.tables account batch rows (batch_of S.tables account batch) h
money_alone S (Report account key day) h = tt
money_alone S (Shown account key day from) h = tt
money_alone S (Search text places) h = money_shown (placements_for S text places)
money_alone S (Click placement) h = money_settled S.moment (placement_of S.tables placement)
money_alone S call h = absurd cc

Keeps-accepted : (S : State) (call : Call) → Keeps S (accepted S call)
unfolding accepted
Keeps-accepted S call =
    elim (cases_Bool (raises_edition S call)) [
      | inl t ↦ rose S (accepted S call) (ap (λ b. next_edition b S.edition) t)
      | inr t ↦ stayed S (accepted S call) (ap (λ b. next_edition b S.edition) t) (all_keep S (changes S call) (money_alone S call t))
    ]

Keeps-answered : (S : State) (call : Call) (judgement : Option Refusal) → Keeps S (answered S call judgement).state
Keeps-answered S call (Some refusal) = stayed S S refl refl
Keeps-answered S call None = Keeps-accepted S call

Keeps-step : (S : State) (moment : ℕ) (call : Call) → Keeps S (step S moment call).state
unfolding step
Keeps-step S moment call = Keeps-trans S (at_moment S moment) _ (stayed S (at_moment S moment) refl refl) (Keeps-answered (at_moment S moment) call (judged (at_moment S moment) call))

Keeps-after : (S : State) (moment : ℕ) (call : Call) (outcome : Outcome) → Keeps S (after S moment call outcome)
Keeps-after S moment call Answered = Keeps-step S moment call
Keeps-after S moment call (Faulted before count) = stayed S S refl refl

pub Keeps-run : (S : State) (entries : List Entry) → Keeps S (run S entries)
unfolding run
Keeps-run S [] = stayed S S refl refl
Keeps-run S (e ∷ entries) =
    Keeps-trans S (after S e.moment e.call e.outcome) _ (Keeps-after S e.moment e.call e.outcome) (Keeps-run (after S e.moment e.call e.outcome) entries)

pub run-append : (S : State) (first more : List Entry) → run S (first ++ more) ≡ run (run S first) more
unfolding run
run-append S [] more = refl
run-append S (e ∷ first) more = run-append (after S e.moment e.call e.outcome) first more

pub equal_editions : (S : State) (first more : List Entry) → (run S (first ++ more)).edition ≡ (run S first).edition → catalogue (run S (first ++ more)) ≡ catalogue (run S first)
equal_editions S first more is =
    ap catalogue (run-append S first more) ∙ (Keeps-run (run S first) more).same (sym (ap (λ (T : State). T.edition) (run-append S first more)) ∙ is)
