-- What the options that were found tell.
use Rattle.std.specs.Prelude.{ℕ, List, Option, Some, None, codes, option_map, if◌then◌else◌}
use Rattle.clap.specs.Walk.{Row, first_of}
use Rattle.auction_types.specs.declared.limits.TheConstants.{BID_MIN, BID_MAX, FLOOR_MAX, PLACES_MAX}
use Rattle.desk_io.specs.Number.{number_within}
use Rattle.desk_types.specs.declared.limits.TheConstants.{RESERVE_USUAL, PLACES_USUAL, JOURNAL_MAX, JOURNAL_USUAL, JOURNAL_BYTES_MAX, PLACEMENTS_MAX, PLACEMENTS_USUAL}
use Rattle.desk_types.specs.Fields.{is_key}
use Rattle.desk_types.specs.SettingsValue.{SettingsValue, usual}
use Rattle.command_line.specs.declared.limits.TheConstants.{DRILL_SIZE_MAX, DRILL_START_MAX, PORT_MAX, SESSIONS_MAX, SESSIONS_USUAL, WORKERS_MAX}
use Rattle.command_line.specs.declared.command.Command.{Command}
use Rattle.command_line.specs.declared.command.Command.TheVariants.{Auction, Script, Run, Drill, Serve}
use Rattle.command_line.specs.declared.told.Told.{Told}

-- the number that a text spells, if one is given and its number is in the range
abbrev pub number_from : ℕ → ℕ → Option (List ℕ) → Option ℕ
number_from least most None = None
number_from least most (Some text) = number_within least most text

-- the same, with a number that is usual where no text is given
abbrev pub number_or : ℕ → ℕ → ℕ → Option (List ℕ) → Option ℕ
number_or usual_number least most None = Some usual_number
number_or usual_number least most (Some text) = number_within least most text

-- the key that is given, if it is one
abbrev pub key_from : Option (List ℕ) → Option (List ℕ)
key_from None = None
key_from (Some text) = if is_key text then Some text else None

-- settings of these numbers, where each is there
abbrev pub settings_from :
    Option ℕ → Option ℕ → Option ℕ → Option ℕ → Option ℕ → Option ℕ → Option SettingsValue
settings_from (Some reserve) (Some floor) (Some places) (Some journal) (Some journal_bytes) (Some placements) =
    Some (record {
      reserve = reserve;
      floor = floor;
      places = places;
      journal = journal;
      journal_bytes = journal_bytes;
      placements = placements;
    })
settings_from _ _ _ _ _ _ = None

-- the settings that are told: each number in its range, and the usual one where none is given
unfoldable pub settings_told : List Row → Option SettingsValue
settings_told found =
    settings_from
    (number_or RESERVE_USUAL BID_MIN BID_MAX (first_of (codes "reserve") found))
    (number_or 0 0 FLOOR_MAX (first_of (codes "floor") found))
    (number_or PLACES_USUAL 1 PLACES_MAX (first_of (codes "places") found))
    (number_or JOURNAL_USUAL 1 JOURNAL_MAX (first_of (codes "journal") found))
    (number_or JOURNAL_BYTES_MAX 1 JOURNAL_BYTES_MAX (first_of (codes "journal-bytes") found))
    (number_or PLACEMENTS_USUAL 1 PLACEMENTS_MAX (first_of (codes "placements") found))

-- a command that has nothing but these settings
abbrev pub bare : Command → SettingsValue → Told
bare command settings = record {
  command = command;
  settings = settings;
  db = None;
  host_key = None;
  port = 0;
  workers = 0;
  sessions = 0;
  start = 0;
  size = 0;
}

-- what is told by a command that opens a desk
abbrev pub desk_told : Command → List Row → Option Told
desk_told command found = option_map (bare command) (settings_told found)

-- what is told with the host's key besides, where both are there
abbrev pub with_key : Option (List ℕ) → Option Told → Option Told
with_key (Some key) (Some told) = Some (record told { host_key = Some key })
with_key _ _ = None

-- what is told by a command that opens a desk and has the host's key
unfoldable pub keyed_told : Command → List Row → Option Told
keyed_told command found = with_key (key_from (first_of (codes "host-key") found)) (desk_told command found)

-- what is told with the numbers of a server besides, where all are there
abbrev pub with_server : Option ℕ → Option ℕ → Option ℕ → Option Told → Option Told
with_server (Some port) (Some workers) (Some sessions) (Some told) =
    Some (record told { port = port; workers = workers; sessions = sessions })
with_server _ _ _ _ = None

-- what is told by a server
unfoldable pub serve_told : List Row → Option Told
serve_told found =
    with_server
    (number_from 1 PORT_MAX (first_of (codes "port") found))
    (number_from 1 WORKERS_MAX (first_of (codes "workers") found))
    (number_or SESSIONS_USUAL 1 SESSIONS_MAX (first_of (codes "sessions") found))
    (keyed_told Serve found)

-- what is told by a drill of these numbers, where both are there
abbrev pub drill_from : Option ℕ → Option ℕ → Option Told
drill_from (Some start) (Some size) = Some (record (bare Drill usual) { start = start; size = size })
drill_from _ _ = None

-- what is told by a drill
unfoldable pub drill_told : List Row → Option Told
drill_told found =
    drill_from
    (number_from 0 DRILL_START_MAX (first_of (codes "start") found))
    (number_from 0 DRILL_SIZE_MAX (first_of (codes "size") found))

-- what a command tells with what was found of its options
abbrev pub values_told : Command → List Row → Option Told
values_told Auction found = Some (bare Auction usual)
values_told Script found = desk_told Script found
values_told Run found = keyed_told Run found
values_told Drill found = drill_told found
values_told Serve found = serve_told found
