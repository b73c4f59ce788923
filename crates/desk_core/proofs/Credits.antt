-- A credit of a placement, by what became of it.
use Rattle.std.proofs.Common.{◌≡◌, ℕ, true, false, List, [], ◌∷◌, Option, None, Some, is_none, option_map, unwrap_or, ap, sym, ◌∙◌}
use Rattle.desk_types.specs.declared.call.Call.TheVariants.{Credit}
use Rattle.desk_types.specs.declared.refusal.Refusal.{Refusal}
use Rattle.desk_types.specs.declared.refusal.Refusal.TheVariants.{NoPlacement, NotSettled}
use Rattle.desk_types.specs.declared.reply.Reply.TheVariants as reply_is
use Rattle.desk_types.specs.declared.rows.Fate.TheVariants as fate
use Rattle.desk_types.specs.declared.rows.Placement.{Placement}
use Rattle.desk_types.specs.Changes.{changes, credit_of, credit_on, raises_edition, reply}
use Rattle.desk_types.specs.Judged.{first, is_unsettled, judged, refusals, when}
use Rattle.desk_types.specs.Money.{is_open}
use Rattle.desk_types.specs.State.{State}
use Rattle.desk_types.specs.Tables.{placement_of}
use Rattle.desk_core.specs.declared.plan.Changes.{Changes}
use Rattle.desk_core.specs.declared.told.Told.TheVariants.{Credited}
use Rattle.desk_core.specs.Planned.{IsPlanned, listed, needs_no_room}
use Rattle.desk_core.proofs.Settled.{can_be_put, of_money}

-- the table of a credit, of a placement that is found or not
abbrev rows : Option Placement → List (Option Refusal)
rows found = when (is_none found) NoPlacement ∷ when (is_unsettled found) NotSettled ∷ []

pub credit_unknown : (S : State) (n : ℕ) → placement_of S.tables n ≡ None → judged S (Credit n) ≡ Some NoPlacement
unfolding refusals
credit_unknown S n is = ap (λ found. first (rows found)) is

pub credit_open : (S : State) (n : ℕ) (p : Placement) → placement_of S.tables n ≡ Some p → p.fate ≡ fate.Open → judged S (Credit n) ≡ Some NotSettled
unfolding refusals
credit_open S n p is was = ap (λ found. first (rows found)) is ∙ ap (λ f. first (when (is_open f) NotSettled ∷ [])) was

pub credit_planned : (S : State) (n : ℕ) (p : Placement) (made : Changes) → placement_of S.tables n ≡ Some p → is_open p.fate ≡ false → listed made ≡ credit_on S.moment p.number p.fate → needs_no_room made ≡ true
    → IsPlanned S (Credit n) (record { changes = made; told = Credited p.price })
unfolding refusals changes reply raises_edition
credit_planned S n p made is settled h no_room = record {
  not_refused = ap (λ found. first (rows found)) is ∙ ap (λ b. first (when b NotSettled ∷ [])) settled;
  changed = h ∙ ap (credit_of S.moment) (sym is);
  raised = of_money made no_room;
  can_be_put = can_be_put S.tables made no_room;
  told = ap (λ found. reply_is.Credited (unwrap_or (option_map (λ (q : Placement). q.price) found) 0)) (sym is);
  there = tt;
}
