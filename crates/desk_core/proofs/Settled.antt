-- A click changes no line, and the link of its placement's line is told behind what it changes.
use Rattle.std.proofs.Common.{◌≡◌, ℕ, Bool, true, false, ◌==◌, ◌&&◌, cond, List, [], ◌∷◌, Option, None, Some, find, is_none, is_some, option_map, unwrap_or, refl, sym, ap, subst, ◌∙◌}
use Rattle.std.specs.Prelude.{IsTrue}
use Rattle.desk_types.specs.declared.call.Call.TheVariants.{Click}
use Rattle.desk_types.specs.declared.refusal.Refusal.TheVariants.{NoPlacement}
use Rattle.desk_types.specs.declared.reply.Reply.TheVariants.{Went}
use Rattle.desk_types.specs.declared.rows.Fate.{Fate}
use Rattle.desk_types.specs.declared.rows.Fate.TheVariants.{Settled}
use Rattle.desk_types.specs.declared.rows.Line.{Line}
use Rattle.desk_types.specs.declared.rows.Placement.{Placement}
use Rattle.desk_types.specs.declared.tables.Change.TheVariants.{PutFate}
use Rattle.desk_types.specs.declared.tables.Tables.{Tables}
use Rattle.desk_types.specs.Changes.{changes, link_of, raises_edition, reply, settlement}
use Rattle.desk_types.specs.Judged.{first, refusals, when}
use Rattle.desk_types.specs.Money.{is_escrowed}
use Rattle.desk_types.specs.State.{State}
use Rattle.desk_types.specs.Tables.{placement_of, put, put_all, put_fate}
use Rattle.placements.specs.Clicks.{fated}
use Rattle.desk_core.specs.declared.plan.Changes.{Changes}
use Rattle.desk_core.specs.declared.plan.Changes.TheVariants as changed
use Rattle.desk_core.specs.declared.told.Told.TheVariants.{Link}
use Rattle.desk_core.specs.Planned.{CanBePutIn, IsPlanned, changes_catalogue, listed, needs_no_room}
use Rattle.desk_core.specs.Shown.{HasLine}

-- a fate is put as the rows of placements say
pub fate_put : (T : Tables) (fate : Fate) (found : Option Placement) → put_fate T fate found ≡ record T { placements = fated fate found T.placements }
fate_put T fate None = refl
fate_put T fate (Some p) = refl

fate_lines : (T : Tables) (fate : Fate) (found : Option Placement) → (put_fate T fate found).lines ≡ T.lines
fate_lines T fate None = refl
fate_lines T fate (Some p) = refl

settled_lines : (T : Tables) (number moment : ℕ) (escrowed : Bool) → (put_all T (cond escrowed (PutFate number (Settled moment) ∷ []) [])).lines ≡ T.lines
unfolding put_all put
settled_lines T number moment true = fate_lines T (Settled moment) (placement_of T number)
settled_lines T number moment false = refl

pub can_be_put : (T : Tables) (settled : Changes) → needs_no_room settled ≡ true → CanBePutIn T settled
can_be_put T changed.Nothing h = tt
can_be_put T (changed.Fate number fate) h = tt
can_be_put T (changed.Placed list) h = absurd cc
can_be_put T (changed.Catalogue list) h = absurd cc

pub of_money : (settled : Changes) → needs_no_room settled ≡ true → changes_catalogue settled ≡ false
of_money changed.Nothing h = refl
of_money (changed.Fate number fate) h = refl
of_money (changed.Placed list) h = absurd cc
of_money (changed.Catalogue list) h = absurd cc

-- a click on a placement that is there settles it, and goes to the link of its line
pub planned_click : (S : State) (placement : ℕ) (p : Placement) (settled : Changes) → placement_of S.tables placement ≡ Some p → HasLine S.tables p → listed settled ≡ settlement S.moment (Some p) → needs_no_room settled ≡ true
    → IsPlanned S (Click placement) (record { changes = settled; told = Link p.account p.line })
unfolding refusals changes reply raises_edition
planned_click S placement p settled is line h no_room =
    let T = S.tables in
    let kept : (put_all T (listed settled)).lines ≡ T.lines = ap (λ list. (put_all T list).lines) h ∙ settled_lines T p.number S.moment (is_escrowed S.moment p) in
    record {
      not_refused = ap (λ found. first (when (is_none found) NoPlacement ∷ [])) is;
      changed = h ∙ ap (settlement S.moment) (sym is);
      raised = of_money settled no_room;
      can_be_put = can_be_put T settled no_room;
      told =
          ap (λ (lines : List Line). Went (unwrap_or (option_map (λ (l : Line). l.link) (find (λ (l : Line). l.account == p.account && l.number == p.line) lines)) [])) kept
          ∙ ap (λ found. Went (unwrap_or (option_map (λ (q : Placement). link_of T q.account q.line) found) [])) (sym is);
      there = subst (λ (lines : List Line). IsTrue (is_some (find (λ (l : Line). l.account == p.account && l.number == p.line) lines))) (sym kept) line;
    }
