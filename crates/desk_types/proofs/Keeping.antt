-- What is kept of the rows of a state stays kept, call by call and over every history.
use Rattle.std.proofs.Common.{◌≡◌, ℕ, ◌+◌, ◌≤◌, true, ◌&&◌, List, [], ◌∷◌, Option, None, Some, refl, subst, sym, arith}
use Rattle.std.specs.List.{AllPairs}
use Rattle.std.proofs.lemmas.List.Elements.{All-nil}
use Rattle.desk_types.specs.declared.limits.TheConstants.{CLICK_WINDOW}
use Rattle.desk_types.specs.declared.call.Call.{Call}
use Rattle.desk_types.specs.declared.entry.Entry.{Entry}
use Rattle.desk_types.specs.declared.entry.Outcome.{Outcome}
use Rattle.desk_types.specs.declared.entry.Outcome.TheVariants.{Answered, Faulted}
use Rattle.desk_types.specs.declared.refusal.Refusal.{Refusal}
use Rattle.desk_types.specs.declared.rows.Account.{Account}
use Rattle.desk_types.specs.declared.rows.Batch.{Batch}
use Rattle.desk_types.specs.declared.rows.BudgetSet.{BudgetSet}
use Rattle.desk_types.specs.declared.rows.Campaign.{Campaign}
use Rattle.desk_types.specs.declared.rows.Line.{Line}
use Rattle.desk_types.specs.declared.rows.Negative.{Negative}
use Rattle.desk_types.specs.declared.rows.Placement.{Placement}
use Rattle.desk_types.specs.Changes.{changes, raises_edition}
use Rattle.desk_types.specs.Fields.{is_key}
use Rattle.desk_types.specs.Judged.{judged}
use Rattle.desk_types.specs.Money.{budget, escrowed, spent}
use Rattle.desk_types.specs.Opening.{latest}
use Rattle.desk_types.specs.Rules.{has_account, has_budget, has_campaign, has_line_of, has_lines_of, is_good_batch, is_good_budget, is_good_line, is_good_placement, is_in_window}
use Rattle.desk_types.specs.Run.{after, run}
use Rattle.desk_types.specs.SettingsValue.{AreInRange, SettingsValue}
use Rattle.desk_types.specs.State.{State, empty}
use Rattle.desk_types.specs.Step.{accepted, answered, at_moment, next_edition, step}
use Rattle.desk_types.specs.Tables.{no_rows, put_all}
use Rattle.desk_types.proofs.Accepting.{lawful_call}
use Rattle.desk_types.proofs.KeepingBudgets.{funded_call}
use Rattle.desk_types.proofs.KeepingCalls.{proper_call}
use Rattle.desk_types.proofs.KeepingFields.{LinesApart, NegativesApart}
use Rattle.desk_types.proofs.KeepingPuts.{almost_put_all}
use Rattle.desk_types.proofs.KeepingStable.{stable_of}
use Rattle.desk_types.proofs.Kept.{IsAlmostKept, IsKept}
use Rattle.desk_types.proofs.Sound.{sound_empty}

almost_edition : (S : State) (edition : ℕ) → IsAlmostKept S → IsAlmostKept (record S { edition = edition })
almost_edition S edition h = record {
  moment = h.moment;
  past = h.past;
  in_order = h.in_order;
  numbered = h.numbered;
  fields = h.fields;
  named = h.named;
  apart = h.apart;
  limits = h.limits;
  in_turn = h.in_turn;
  paid = h.paid;
}

-- an accepted call keeps the rows as they are to be
pub kept_call : (S : State) (call : Call) → AreInRange S.settings → IsKept S → judged S call ≡ None → IsKept (accepted S call)
unfolding accepted
kept_call S call settings h accepts =
    let lawful = lawful_call S call (stable_of S h.almost) accepts in
    let proper = proper_call S call settings h.almost accepts in
    record {
      almost = almost_edition (record S { tables = put_all S.tables (changes S call) }) (next_edition (raises_edition S call) S.edition) (almost_put_all S (changes S call) h.almost lawful proper);
      budgets = funded_call S call h.budgets;
    }

-- as time passes
pub kept_later : (S : State) (moment : ℕ) → IsKept S → IsKept (at_moment S moment)
kept_later S moment h = record {
  almost = record {
    moment = omega (arith, h.almost.moment);
    past = omega (arith, h.almost.past);
    in_order = h.almost.in_order;
    numbered = h.almost.numbered;
    fields = h.almost.fields;
    named = h.almost.named;
    apart = h.almost.apart;
    limits = h.almost.limits;
    in_turn = h.almost.in_turn;
    paid = h.almost.paid;
  };
  budgets = h.budgets;
}

-- over a step
kept_answered : (S : State) (call : Call) (judgement : Option Refusal) → AreInRange S.settings → IsKept S → judged S call ≡ judgement → IsKept (answered S call judgement).state
kept_answered S call (Some refusal) settings h is = h
kept_answered S call None settings h is = kept_call S call settings h is

pub kept_step : (S : State) (moment : ℕ) (call : Call) → AreInRange S.settings → IsKept S → IsKept (step S moment call).state
unfolding step
kept_step S moment call settings h = kept_answered (at_moment S moment) call (judged (at_moment S moment) call) settings (kept_later S moment h) refl

pub kept_after : (S : State) (moment : ℕ) (call : Call) (outcome : Outcome) → AreInRange S.settings → IsKept S → IsKept (after S moment call outcome)
kept_after S moment call Answered settings h = kept_step S moment call settings h
kept_after S moment call (Faulted before count) settings h = h

-- the settings stay
settings_answered : (S : State) (call : Call) (judgement : Option Refusal) → (answered S call judgement).state.settings ≡ S.settings
unfolding accepted
settings_answered S call (Some refusal) = refl
settings_answered S call None = refl

settings_after : (S : State) (moment : ℕ) (call : Call) (outcome : Outcome) → (after S moment call outcome).settings ≡ S.settings
unfolding step
settings_after S moment call Answered = settings_answered (at_moment S moment) call (judged (at_moment S moment) call)
settings_after S moment call (Faulted before count) = refl

pub kept_run : (S : State) (entries : List Entry) → AreInRange S.settings → IsKept S → IsKept (run S entries)
unfolding run
kept_run S [] settings h = h
kept_run S (e ∷ entries) settings h =
    kept_run (after S e.moment e.call e.outcome) entries (subst AreInRange (sym (settings_after S e.moment e.call e.outcome)) settings) (kept_after S e.moment e.call e.outcome settings h)

-- without rows
none_apart : {A : Type 0} (R : A → A → Type 0) → AllPairs R []
none_apart R i j d low high = absurd (omega (arith, high))

almost_empty : (settings : SettingsValue) → IsAlmostKept (empty settings)
unfolding latest budget spent escrowed
almost_empty settings =
    let sound = sound_empty settings in
    record {
      moment = omega arith;
      past = omega arith;
      in_order = sound.in_order;
      numbered = sound.numbered;
      fields = record {
        accounts = All-nil (λ (a : Account). is_key a.key ≡ true);
        budgets = All-nil (λ (b : BudgetSet). is_good_budget b ≡ true);
        lines = All-nil (λ (l : Line). is_good_line l ≡ true);
        placements = All-nil (λ (p : Placement). is_good_placement p ≡ true);
        batches = All-nil (λ (b : Batch). is_good_batch b ≡ true);
      };
      named = record {
        campaigns = All-nil (λ (c : Campaign). has_account no_rows c.account ≡ true);
        budgets = All-nil (λ (b : BudgetSet). has_campaign no_rows b.account b.campaign ≡ true);
        lines = All-nil (λ (l : Line). has_campaign no_rows l.account l.campaign ≡ true);
        negatives = All-nil (λ (n : Negative). has_campaign no_rows n.account n.campaign ≡ true);
        placements = All-nil (λ (p : Placement). (has_campaign no_rows p.account p.campaign && has_line_of no_rows p) ≡ true);
        batches = All-nil (λ (b : Batch). (has_account no_rows b.account && has_lines_of no_rows b) ≡ true);
      };
      apart = record { lines = none_apart LinesApart; negatives = none_apart NegativesApart };
      limits = record { accounts = omega arith; campaigns = λ _. omega arith; lines = λ _. omega arith; negatives = λ _. omega arith };
      in_turn = record {
        moments = none_apart (λ (p later : Placement). p.shown ≤ later.shown);
        deadlines = All-nil (λ (p : Placement). p.deadline ≡ p.shown + CLICK_WINDOW);
        windows = All-nil (λ (p : Placement). is_in_window p p.fate ≡ true);
      };
      paid = sound.within_budgets;
    }

pub kept_empty : (settings : SettingsValue) → IsKept (empty settings)
kept_empty settings = record { almost = almost_empty settings; budgets = All-nil (λ (c : Campaign). has_budget no_rows c ≡ true) }
