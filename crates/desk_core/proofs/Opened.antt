-- What sound tables give to a desk that is opened on them.
use Rattle.std.proofs.Common.{◌≤◌, arith}
use Rattle.std.proofs.lemmas.List.Elements.{All-weaker}
use Rattle.desk_types.specs.declared.limits.TheConstants.{MOMENT_MAX}
use Rattle.desk_types.specs.declared.rows.Placement.{Placement}
use Rattle.desk_types.specs.declared.tables.Tables.{Tables}
use Rattle.desk_types.specs.Opening.{opened}
use Rattle.desk_types.specs.Rules.{AreSound}
use Rattle.desk_types.specs.SettingsValue.{usual}
use Rattle.desk_types.proofs.Soundness.{kept_in, sound_opened, stable}
use Rattle.placements.specs.PlacementsValue.{AreShownInTurn}

pub shown_in_turn : (T : Tables) → AreSound T → AreShownInTurn T.placements
shown_in_turn T h =
    let S = opened usual T in
    let sound = sound_opened usual T h in
    let kept = (kept_in S sound).almost in
    let held = stable S sound in
    record {
      numbers = kept.numbered.placements;
      moments = kept.in_turn.moments;
      deadlines = kept.in_turn.deadlines;
      within = All-weaker (λ (p : Placement). p.shown ≤ S.moment) (λ (p : Placement). p.shown ≤ MOMENT_MAX) (λ p up_to. omega (arith, up_to, sound.moment)) T.placements held.past.placements;
    }
