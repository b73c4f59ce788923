-- Properties of states that last whatever entries come.
use Rattle.std.proofs.Common.{◌≡◌, ℕ, List, [], ◌∷◌, Option, None, Some, refl}
use Rattle.desk_types.specs.declared.call.Call.{Call}
use Rattle.desk_types.specs.declared.entry.Entry.{Entry}
use Rattle.desk_types.specs.declared.entry.Outcome.{Outcome}
use Rattle.desk_types.specs.declared.entry.Outcome.TheVariants.{Answered, Faulted}
use Rattle.desk_types.specs.declared.refusal.Refusal.{Refusal}
use Rattle.desk_types.specs.declared.tables.Change.{Change}
use Rattle.desk_types.specs.Changes.{changes, raises_edition}
use Rattle.desk_types.specs.Judged.{judged}
use Rattle.desk_types.specs.Run.{after, run}
use Rattle.desk_types.specs.State.{State}
use Rattle.desk_types.specs.Step.{accepted, answered, at_moment, next_edition, step}
use Rattle.desk_types.specs.Tables.{put_all}
use Rattle.desk_types.proofs.Accepting.{lawful_call}
use Rattle.desk_types.proofs.Histories.{sound_after}
use Rattle.desk_types.proofs.Lawful.{AreLawful, IsLawful, changed}
use Rattle.desk_types.proofs.Sound.{sound_later, sound_put}
use Rattle.desk_types.proofs.Stable.{IsStable}

-- the property stays with each lawful change, as time passes, and whatever the edition
pub record Lasts (P : State → Type 0) : Type 0 where
  pub put : (S : State) (change : Change) → IsStable S → IsLawful S change → P S → P (changed S change)
  pub later : (S : State) (moment : ℕ) → P S → P (at_moment S moment)
  pub edition : (S : State) (edition : ℕ) → P S → P (record S { edition = edition })

lasts_put_all : (P : State → Type 0) (S : State) (cs : List Change) → Lasts P → IsStable S → AreLawful S cs → P S → P (record S { tables = put_all S.tables cs })
unfolding put_all
lasts_put_all P S [] lasts sound lawful h = h
lasts_put_all P S (c ∷ cs) lasts sound lawful h = lasts_put_all P (changed S c) cs lasts (sound_put S c sound lawful.0) lawful.1 (lasts.put S c sound lawful.0 h)

lasts_answered : (P : State → Type 0) (S : State) (call : Call) (judgement : Option Refusal) → Lasts P → IsStable S → judged S call ≡ judgement → P S → P (answered S call judgement).state
unfolding accepted
lasts_answered P S call (Some refusal) lasts sound is h = h
lasts_answered P S call None lasts sound is h =
    lasts.edition (record S { tables = put_all S.tables (changes S call) }) (next_edition (raises_edition S call) S.edition) (lasts_put_all P S (changes S call) lasts sound (lawful_call S call sound is) h)

lasts_after : (P : State → Type 0) (S : State) (moment : ℕ) (call : Call) (outcome : Outcome) → Lasts P → IsStable S → P S → P (after S moment call outcome)
unfolding step
lasts_after P S moment call Answered lasts sound h =
    lasts_answered P (at_moment S moment) call (judged (at_moment S moment) call) lasts (sound_later S moment sound) refl (lasts.later S moment h)
lasts_after P S moment call (Faulted before count) lasts sound h = h

pub lasts_run : (P : State → Type 0) (S : State) (entries : List Entry) → Lasts P → IsStable S → P S → P (run S entries)
unfolding run
lasts_run P S [] lasts sound h = h
lasts_run P S (e ∷ entries) lasts sound h =
    lasts_run P (after S e.moment e.call e.outcome) entries lasts (sound_after S e.moment e.call e.outcome sound) (lasts_after P S e.moment e.call e.outcome lasts sound h)
