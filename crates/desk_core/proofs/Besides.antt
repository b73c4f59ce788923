-- Changes of the catalogue, and the rows of a book, beside placements.
use Rattle.std.proofs.Common.{◌≡◌, ℕ, true, List, [], ◌∷◌, refl, sym, ap, subst, ◌∙◌}
use Rattle.std.specs.List.{list_any}
use Rattle.std.proofs.lemmas.List.Elements.{All-weaker}
use Rattle.accounts.specs.declared.plan.EditFault.{EditFault}
use Rattle.accounts.specs.declared.plan.EditFault.TheVariants as fault
use Rattle.accounts.specs.declared.plan.Plan.{Plan as BookPlan}
use Rattle.accounts.specs.AtHome.{AreAtHome, CanBePut, HasOwner, IsAtHome}
use Rattle.accounts.specs.Planned.{HasUsed, IsStateOf, is_edit, is_of_catalogue}
use Rattle.accounts.specs.Planned.{IsPlanned as IsPlannedInBook, IsStop as IsStopInBook}
use Rattle.accounts.proofs.Changing.{raised_by_change}
use Rattle.desk_types.specs.declared.call.Call.{Call}
use Rattle.desk_types.specs.declared.call.Call.TheVariants.{Click}
use Rattle.desk_types.specs.declared.rows.Placement.{Placement}
use Rattle.desk_types.specs.declared.tables.Change.{Change}
use Rattle.desk_types.specs.declared.tables.Change.TheVariants.{PutAccount, PutCampaign, PutBudget, PutLine, PutNegative, PutPlacement, PutBatch, PutFate}
use Rattle.desk_types.specs.declared.tables.Tables.{Tables}
use Rattle.desk_types.specs.SettingsValue.{SettingsValue}
use Rattle.desk_types.specs.State.{State}
use Rattle.desk_types.specs.Tables.{put, put_all}
use Rattle.desk_core.specs.declared.plan.Changes.TheVariants.{Catalogue}
use Rattle.desk_core.specs.declared.told.Told.{Told}
use Rattle.desk_core.specs.Told.{HasNoLink, IsThere, replied}
use Rattle.desk_types.specs.Changes.{reply}
use Rattle.desk_core.specs.Planned.{IsPlanned, IsStop, stop_of}

-- tables with these placements
abbrev pub with : Tables → List Placement → Tables
with T ps = record T { placements = ps }

home_beside : (T : Tables) (ps : List Placement) (change : Change) → IsAtHome T change → IsAtHome (with T ps) change
home_beside T ps (PutAccount a) h = h
home_beside T ps (PutCampaign c) h = h
home_beside T ps (PutBudget b) h = h
home_beside T ps (PutLine l) h = h
home_beside T ps (PutNegative n) h = h
home_beside T ps (PutPlacement p) h = h
home_beside T ps (PutBatch b) h = h
home_beside T ps (PutFate number fate) h = h

owner_beside : (T : Tables) (ps : List Placement) (change : Change) → HasOwner T change → HasOwner (with T ps) change
owner_beside T ps (PutAccount a) h = h
owner_beside T ps (PutCampaign c) h = h
owner_beside T ps (PutBudget b) h = h
owner_beside T ps (PutLine l) h = h
owner_beside T ps (PutNegative n) h = h
owner_beside T ps (PutPlacement p) h = h
owner_beside T ps (PutBatch b) h = h
owner_beside T ps (PutFate number fate) h = h

put_beside : (T : Tables) (ps : List Placement) (change : Change) → IsAtHome T change → put (with T ps) change ≡ with (put T change) ps
unfolding put
put_beside T ps (PutAccount a) h = refl
put_beside T ps (PutCampaign c) h = refl
put_beside T ps (PutBudget b) h = refl
put_beside T ps (PutLine l) h = refl
put_beside T ps (PutNegative n) h = refl
put_beside T ps (PutPlacement p) h = absurd (elim h [ ])
put_beside T ps (PutBatch b) h = refl
put_beside T ps (PutFate number fate) h = absurd (elim h [ ])

at_home_beside : (T : Tables) (ps : List Placement) (list : List Change) → AreAtHome T list → AreAtHome (with T ps) list
at_home_beside T ps [] h = tt
at_home_beside T ps (change ∷ list) h =
    (home_beside T ps change h.0, subst (λ U. AreAtHome U list) (sym (put_beside T ps change h.0)) (at_home_beside (put T change) ps list h.1))

-- changes that a book can put are put beside any placements
pub put_all_beside : (T : Tables) (ps : List Placement) (list : List Change) → AreAtHome T list → put_all (with T ps) list ≡ with (put_all T list) ps
unfolding put_all
put_all_beside T ps [] h = refl
put_all_beside T ps (change ∷ list) h = ap (λ U. put_all U list) (put_beside T ps change h.0) ∙ put_all_beside (put T change) ps list h.1

pub can_be_put_beside : (T : Tables) (ps : List Placement) (list : List Change) → CanBePut T list → CanBePut (with T ps) list
can_be_put_beside T ps list h = record {
  owners = All-weaker (HasOwner T) (HasOwner (with T ps)) (owner_beside T ps) list h.owners;
  at_home = at_home_beside T ps list h.at_home;
}

-- what can be put beside placements can be put by the book
pub book_can_put : (B T : Tables) (ps : List Placement) (list : List Change) → with B ps ≡ T → CanBePut T list → CanBePut B list
book_can_put B T ps list is h = can_be_put_beside (with B ps) B.placements list (subst (λ U. CanBePut U list) (sym is) h)

-- the state of a book's rows and placements
abbrev pub state_beside : SettingsValue → ℕ → ℕ → Tables → List Placement → State
state_beside settings moment edition B ps = record { settings = settings; moment = moment; edition = edition; tables = with B ps }

-- the rows of a book beside placements are a state that it judges in
is_state : (settings : SettingsValue) (moment edition used : ℕ) (B : Tables) (ps : List Placement) (call : Call) → HasUsed (state_beside settings moment edition B ps) call used
    → IsStateOf B moment used call (state_beside settings moment edition B ps)
is_state settings moment edition used B ps call has = record { rows = refl; at = refl; has_used = has }

-- the book's plan of an edit is the ledger's
pub planned_by_book : (settings : SettingsValue) (moment edition used : ℕ) (B : Tables) (ps : List Placement) (call : Call) (plan : BookPlan) (told : Told) → ((T : Tables) → replied T told ≡ plan.reply) → ((T : Tables) → IsThere T told) → is_edit call ≡ true
    → HasUsed (state_beside settings moment edition B ps) call used → ((S : State) → IsStateOf B moment used call S → IsPlannedInBook S call plan) → CanBePut B plan.changes
    → IsPlanned (state_beside settings moment edition B ps) call (record { changes = Catalogue plan.changes; told = told })
planned_by_book settings moment edition used B ps call plan told says there edit has planned can =
    let S = state_beside settings moment edition B ps in
    let h = planned S (is_state settings moment edition used B ps call has) in
    record {
      not_refused = h.not_refused;
      changed = h.changed;
      raised = ap (list_any is_of_catalogue) h.changed ∙ sym (raised_by_change S call edit h.not_refused);
      can_be_put = can_be_put_beside B ps plan.changes can;
      told = says (put_all S.tables plan.changes) ∙ h.replied;
      there = there (put_all S.tables plan.changes);
    }

-- what stops an edit in the book stops it in the ledger
pub stopped_by_book : (settings : SettingsValue) (moment edition used : ℕ) (B : Tables) (ps : List Placement) (call : Call) (why : EditFault) → HasUsed (state_beside settings moment edition B ps) call used
    → ((S : State) → IsStateOf B moment used call S → IsStopInBook S call why) → IsStop (state_beside settings moment edition B ps) call (stop_of why)
stopped_by_book settings moment edition used B ps call (fault.Refused refusal) has stops = stops (state_beside settings moment edition B ps) (is_state settings moment edition used B ps call has)
stopped_by_book settings moment edition used B ps call fault.NoMemory has stops = tt

-- an edit goes to no link
no_link : (S : State) (call : Call) → is_edit call ≡ true → HasNoLink (reply S call)
unfolding reply
no_link S (Click placement) edit = absurd cc
no_link S _ edit = tt

pub edit_has_no_link : (settings : SettingsValue) (moment edition used : ℕ) (B : Tables) (ps : List Placement) (call : Call) (plan : BookPlan) → is_edit call ≡ true → HasUsed (state_beside settings moment edition B ps) call used
    → ((S : State) → IsStateOf B moment used call S → IsPlannedInBook S call plan) → HasNoLink plan.reply
edit_has_no_link settings moment edition used B ps call plan edit has planned =
    let S = state_beside settings moment edition B ps in
    subst HasNoLink (sym (planned S (is_state settings moment edition used B ps call has)).replied) (no_link S call edit)
