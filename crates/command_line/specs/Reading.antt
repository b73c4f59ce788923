-- What the words of the program tell.
use Rattle.std.specs.Prelude.{◌≡◌, ℕ, ◌≤◌, ◌<◌, ◌^◌, true, List, [], ◌∷◌, Option, Some, None, Result, Ok, Err, IsSomeAnd, if◌then◌else◌}
use Rattle.clap.specs.Walk.{Row, rows_of}
use Rattle.clap.specs.Matches.{found_of}
use Rattle.clap.specs.declared.parser.matches.ArgMatches.{ArgMatches}
use Rattle.desk_types.specs.Fields.{is_key}
use Rattle.desk_types.specs.SettingsValue.{AreInRange, usual}
use Rattle.command_line.specs.declared.command.Command.{Command}
use Rattle.command_line.specs.declared.command.Command.TheVariants.{Auction, Script, Run, Drill, Serve}
use Rattle.command_line.specs.declared.told.Told.{Told}
use Rattle.command_line.specs.declared.told.WordsFault.{WordsFault}
use Rattle.command_line.specs.declared.told.WordsFault.TheVariants.{Refused, NoMemory}
use Rattle.command_line.specs.Options.{command_named, are_taken, found_by}
use Rattle.command_line.specs.Values.{bare, values_told}

-- the command that the first word names
abbrev pub command_in : List (List ℕ) → Option Command
command_in [] = None
command_in (word ∷ more) = command_named word

-- what the words of a command tell, where the command takes them
abbrev pub told_with : Option Command → List (List ℕ) → Option Told
told_with None words = None
told_with (Some command) words =
    if are_taken command words then values_told command (found_by command words) else None

-- what the words tell, if they do
unfoldable pub told_by_words : List (List ℕ) → Option Told
told_by_words words = told_with (command_in words) words

-- an answer is what is told, or a refusal where nothing is
abbrev pub AnswersTold : Option Told → Result Told WordsFault → Type 0
AnswersTold told (Ok answer) = told ≡ Some answer
AnswersTold told (Err Refused) = told ≡ None
AnswersTold told (Err NoMemory) = Unit {0}

-- what was found in a parse, option by option
abbrev pub rows_found : ArgMatches → List Row
rows_found matches = rows_of (found_of matches)

-- a key is there
abbrev pub HasKey : Told → Type 0
HasKey told = IsSomeAnd told.host_key (λ key. is_key key ≡ true)

-- a drill starts below 2^31, has a size of at most 1,000, and tells nothing else
pub record IsToldByDrill (told : Told) : Type 0 where
  pub start : told.start < 2 ^ 31
  pub size : told.size ≤ 1000
  pub rest : told ≡ record (bare Drill usual) { start = told.start; size = told.size }

-- a run has a key and settings, and tells nothing else
pub record IsToldByRun (told : Told) : Type 0 where
  pub key : HasKey told
  pub rest : told ≡ record (bare Run told.settings) { host_key = told.host_key }

-- a server has a key, settings and its numbers in their ranges, and tells nothing else
pub record IsToldByServe (told : Told) : Type 0 where
  pub key : HasKey told
  pub port : (1 ≤ told.port) × (told.port ≤ 65535)
  pub workers : (1 ≤ told.workers) × (told.workers ≤ 8)
  pub sessions : (1 ≤ told.sessions) × (told.sessions ≤ 1000000)
  pub rest : told ≡ record (bare Serve told.settings) {
    host_key = told.host_key;
    port = told.port;
    workers = told.workers;
    sessions = told.sessions;
  }

-- what holds of all that is told by a command
abbrev pub IsToldOf : Command → Told → Type 0
IsToldOf Auction told = told ≡ bare Auction usual
IsToldOf Script told = told ≡ bare Script told.settings
IsToldOf Run told = IsToldByRun told
IsToldOf Drill told = IsToldByDrill told
IsToldOf Serve told = IsToldByServe told

-- the settings are in range, and the rest is as the command has it
pub record IsWellTold (told : Told) : Type 0 where
  pub settings : AreInRange told.settings
  pub rest : IsToldOf told.command told
