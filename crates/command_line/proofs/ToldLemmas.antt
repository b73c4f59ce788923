-- What words tell.
use Rattle.std.proofs.Common.{◌≡◌, ◌∙◌, ℕ, ◌≤◌, Bool, true, false, cond, List, Option, Some, None, Ok, Err, refl, ap, subst, arith}
use Rattle.std.specs.Prelude.{Result, IfOk, codes, option_map}
use Rattle.std.proofs.lemmas.Bool.Decides.{nat_tests}
use Rattle.clap.specs.Walk.{Row, first_of}
use Rattle.desk_io.specs.Number.{number_within}
use Rattle.desk_types.specs.Fields.{is_key}
use Rattle.desk_types.specs.SettingsValue.{AreInRange, SettingsValue, usual}
use Rattle.command_line.specs.declared.command.Command.{Command}
use Rattle.command_line.specs.declared.command.Command.TheVariants.{Auction, Script, Run, Drill, Serve}
use Rattle.command_line.specs.declared.told.Told.{Told}
use Rattle.command_line.specs.declared.told.WordsFault.{WordsFault}
use Rattle.command_line.specs.declared.told.WordsFault.TheVariants.{Refused, NoMemory}
use Rattle.command_line.specs.Options.{are_taken, found_by}
use Rattle.command_line.specs.Reading.{AnswersTold, IsWellTold, command_in, told_by_words, told_with}
use Rattle.command_line.specs.Values.{bare, desk_told, drill_from, drill_told, key_from, keyed_told, number_from, number_or, serve_told, settings_from, settings_told, values_told, with_key, with_server}

-- ---- what the words tell, by the steps of reading them

pub none_named : (words : List (List ℕ)) → command_in words ≡ None → told_by_words words ≡ None
unfolding told_by_words
none_named words none = ap (λ (o : Option Command). told_with o words) none

module _ (words : List (List ℕ)) (command : Command) (named : command_in words ≡ Some command) where
  pub none_taken : are_taken command words ≡ false → told_by_words words ≡ None
  unfolding told_by_words
  none_taken refused =
      ap (λ (o : Option Command). told_with o words) named
      ∙ ap (λ (b : Bool). cond b (values_told command (found_by command words)) None) refused

  pub all_taken : are_taken command words ≡ true → told_by_words words ≡ values_told command (found_by command words)
  unfolding told_by_words
  all_taken taken =
      ap (λ (o : Option Command). told_with o words) named
      ∙ ap (λ (b : Bool). cond b (values_told command (found_by command words)) None) taken

-- an answer, by its cases
pub ok_told : (told : Option Told) (answer : Result Told WordsFault) → AnswersTold told answer → IfOk answer (λ t. told ≡ Some t)
ok_told told (Ok t) is = is
ok_told told (Err fault) is = tt

pub refused_told : (told : Option Told) (answer : Result Told WordsFault) → AnswersTold told answer → answer ≡ Err Refused → told ≡ None
refused_told told (Ok t) is e = absurd (cc)
refused_told told (Err Refused) is e = is
refused_told told (Err NoMemory) is e = absurd (cc)

-- ---- whatever is told is well told

chosen : {X : Type 0} (b : Bool) (x y : X) → cond b (Some x) None ≡ Some y → (b ≡ true) × (x ≡ y)
chosen true x y e = (refl, cc)
chosen false x y e = absurd (cc)

within : (least most n : ℕ) (text : List ℕ) → number_within least most text ≡ Some n → (least ≤ n) × (n ≤ most)
unfolding number_within
within least most n text e = let is = chosen _ _ _ e in grind (arith, nat_tests)

from_within : (least most n : ℕ) (text : Option (List ℕ)) → number_from least most text ≡ Some n → (least ≤ n) × (n ≤ most)
from_within least most n None e = absurd (cc)
from_within least most n (Some text) e = within least most n text e

or_within : (usual_number least most n : ℕ) (text : Option (List ℕ)) → (least ≤ usual_number) → usual_number ≤ most
    → number_or usual_number least most text ≡ Some n → (least ≤ n) × (n ≤ most)
or_within usual_number least most n None low high e = let same : usual_number ≡ n = cc in (omega arith, omega arith)
or_within usual_number least most n (Some text) low high e = within least most n text e

key_is : (text : Option (List ℕ)) (key : List ℕ) → key_from text ≡ Some key → is_key key ≡ true
key_is None key e = absurd (cc)
key_is (Some text) key e = let is = chosen (is_key text) text key e in subst (λ (k : List ℕ). is_key k ≡ true) is.1 is.0

-- settings of numbers in range are in range
from_numbers : (reserve floor places journal journal_bytes placements : Option ℕ) (s : SettingsValue)
    → settings_from reserve floor places journal journal_bytes placements ≡ Some s
    → (reserve ≡ Some s.reserve) × (floor ≡ Some s.floor) × (places ≡ Some s.places) × (journal ≡ Some s.journal)
    × (journal_bytes ≡ Some s.journal_bytes) × (placements ≡ Some s.placements)
from_numbers (Some a) (Some b) (Some c) (Some d) (Some e) (Some f) s is = (cc, cc, cc, cc, cc, cc)
from_numbers None b c d e f s is = absurd (cc)
from_numbers (Some a) None c d e f s is = absurd (cc)
from_numbers (Some a) (Some b) None d e f s is = absurd (cc)
from_numbers (Some a) (Some b) (Some c) None e f s is = absurd (cc)
from_numbers (Some a) (Some b) (Some c) (Some d) None f s is = absurd (cc)
from_numbers (Some a) (Some b) (Some c) (Some d) (Some e) None s is = absurd (cc)

settings_in_range : (found : List Row) (s : SettingsValue) → settings_told found ≡ Some s → AreInRange s
unfolding settings_told
settings_in_range found s e =
    let are = from_numbers _ _ _ _ _ _ s e in
    record {
      reserve_in = or_within _ _ _ _ _ (omega arith) (omega arith) are.0;
      floor_in = (or_within _ _ _ _ _ (omega arith) (omega arith) are.1).1;
      places_in = or_within _ _ _ _ _ (omega arith) (omega arith) are.2;
      journal_in = or_within _ _ _ _ _ (omega arith) (omega arith) are.3;
      journal_bytes_in = or_within _ _ _ _ _ (omega arith) (omega arith) are.4;
      placements_in = or_within _ _ _ _ _ (omega arith) (omega arith) are.5;
    }

same_told : {X : Type 0} (x y : X) → Some x ≡ Some y → x ≡ y
same_told x y e = cc

usual_in_range : AreInRange usual
usual_in_range = record {
  reserve_in = (omega arith, omega arith);
  floor_in = omega arith;
  places_in = (omega arith, omega arith);
  journal_in = (omega arith, omega arith);
  journal_bytes_in = (omega arith, omega arith);
  placements_in = (omega arith, omega arith);
}

-- what opens a desk is a bare command with settings in range
IsOfDesk : Command → Told → Type 0
IsOfDesk command t = (s : SettingsValue) × AreInRange s × (bare command s ≡ t)

desk_well : (command : Command) (found : List Row) (t : Told) → desk_told command found ≡ Some t → IsOfDesk command t
unfolding IsOfDesk
desk_well command found t e = go (settings_told found) (settings_in_range found) e
  where
    go : (o : Option SettingsValue) → ((s : SettingsValue) → o ≡ Some s → AreInRange s) → option_map (bare command) o ≡ Some t
        → (s : SettingsValue) × AreInRange s × (bare command s ≡ t)
    go None ranges e = absurd (cc)
    go (Some s) ranges e = (s, ranges s refl, same_told _ _ e)

-- a keyed command has a key besides
IsKeyed : Command → Told → Type 0
IsKeyed command t = (s : SettingsValue) × AreInRange s
    × ((key : List ℕ) × (is_key key ≡ true) × (record (bare command s) { host_key = Some key } ≡ t))

keyed_well : (command : Command) (found : List Row) (t : Told) → keyed_told command found ≡ Some t → IsKeyed command t
unfolding keyed_told IsKeyed IsOfDesk
keyed_well command found t e =
    go (key_from (first_of (codes "host-key") found)) (desk_told command found) (key_is (first_of (codes "host-key") found))
    (desk_well command found) e
  where
    go : (k : Option (List ℕ)) (o : Option Told) → ((key : List ℕ) → k ≡ Some key → is_key key ≡ true)
        → ((u : Told) → o ≡ Some u → (s : SettingsValue) × AreInRange s × (bare command s ≡ u)) → with_key k o ≡ Some t
        → (s : SettingsValue) × AreInRange s
        × ((key : List ℕ) × (is_key key ≡ true) × (record (bare command s) { host_key = Some key } ≡ t))
    go None o keys desks e = absurd (cc)
    go (Some key) None keys desks e = absurd (cc)
    go (Some key) (Some u) keys desks e =
        let desk = desks u refl in (
          desk.0,
          desk.1,
          (
            key,
            keys key refl,
            ap (λ (v : Told). record v { host_key = Some key }) desk.2 ∙ same_told _ _ e,
          ),
        )

run_well : (found : List Row) (t : Told) → keyed_told Run found ≡ Some t → IsWellTold t
unfolding IsKeyed
run_well found t e =
    let keyed = keyed_well Run found t e in
    subst IsWellTold keyed.2.2 (record {
      settings = keyed.1;
      rest = record { key = keyed.2.1; rest = refl };
    })

-- the numbers of a server
IsServing : Option ℕ → Option ℕ → Option ℕ → Option Told → Told → Type 0
IsServing port workers sessions keyed t =
    (p w s : ℕ) × (u : Told) × (port ≡ Some p) × (workers ≡ Some w) × (sessions ≡ Some s) × (keyed ≡ Some u)
    × (record u { port = p; workers = w; sessions = s } ≡ t)

serving : (port workers sessions : Option ℕ) (keyed : Option Told) (t : Told) → with_server port workers sessions keyed ≡ Some t
    → IsServing port workers sessions keyed t
unfolding IsServing
serving (Some p) (Some w) (Some s) (Some u) t e = (p, w, s, u, refl, refl, refl, refl, same_told _ _ e)
serving None w s u t e = absurd (cc)
serving (Some p) None s u t e = absurd (cc)
serving (Some p) (Some w) None u t e = absurd (cc)
serving (Some p) (Some w) (Some s) None t e = absurd (cc)

serve_well : (found : List Row) (t : Told) → serve_told found ≡ Some t → IsWellTold t
unfolding serve_told IsServing IsKeyed
serve_well found t e =
    let are = serving _ _ _ (keyed_told Serve found) t e in
    let keyed = keyed_well Serve found are.3 are.7 in
    let is : record (bare Serve keyed.0) { host_key = Some keyed.2.0; port = are.0; workers = are.1; sessions = are.2 } ≡ t =
    ap (λ (v : Told). record v { port = are.0; workers = are.1; sessions = are.2 }) keyed.2.2 ∙ are.8 in
    subst IsWellTold is (record {
      settings = keyed.1;
      rest = record {
        key = keyed.2.1;
        port = from_within 1 _ _ _ are.4;
        workers = from_within 1 _ _ _ are.5;
        sessions = or_within _ 1 _ _ _ (omega arith) (omega arith) are.6;
        rest = refl;
      };
    })

drill_numbers : (start size : Option ℕ) (t : Told) → drill_from start size ≡ Some t
    → (a b : ℕ) × (start ≡ Some a) × (size ≡ Some b) × (record (bare Drill usual) { start = a; size = b } ≡ t)
drill_numbers (Some a) (Some b) t e = (a, b, refl, refl, same_told _ _ e)
drill_numbers None b t e = absurd (cc)
drill_numbers (Some a) None t e = absurd (cc)

drill_well : (found : List Row) (t : Told) → drill_told found ≡ Some t → IsWellTold t
unfolding drill_told
drill_well found t e =
    let are = drill_numbers _ _ t e in
    let start = from_within 0 _ _ _ are.2 in
    let size = from_within 0 _ _ _ are.3 in
    subst IsWellTold are.4 (record {
      settings = usual_in_range;
      rest = record { start = omega arith; size = omega arith; rest = refl };
    })

values_well : (command : Command) (found : List Row) (t : Told) → values_told command found ≡ Some t → IsWellTold t
unfolding IsOfDesk
values_well Auction found t e = subst IsWellTold (same_told _ _ e) (record { settings = usual_in_range; rest = refl })
values_well Script found t e =
    let desk = desk_well Script found t e in
    subst IsWellTold desk.2 (record { settings = desk.1; rest = refl })
values_well Run found t e = run_well found t e
values_well Drill found t e = drill_well found t e
values_well Serve found t e = serve_well found t e

with_well : (command : Option Command) (words : List (List ℕ)) (t : Told) → told_with command words ≡ Some t → IsWellTold t
with_well None words t e = absurd (cc)
with_well (Some command) words t e = go (are_taken command words) e
  where
    go : (b : Bool) → cond b (values_told command (found_by command words)) None ≡ Some t → IsWellTold t
    go true e = values_well command _ t e
    go false e = absurd (cc)

-- whatever the words tell is well told
pub well_told : (words : List (List ℕ)) (t : Told) → told_by_words words ≡ Some t → IsWellTold t
unfolding told_by_words
well_told words t e = with_well (command_in words) words t e
