-- The commands, and the options of each as `clap` reads them.
use Rattle.std.specs.Prelude.{◌==◌, ℕ, Bool, true, List, [], ◌∷◌, ◌++◌, map, length, find, Option, Some, codes, bytes_eq}
use Rattle.clap.specs.Walk.{Row, Rule}
use Rattle.clap.specs.Simple.{App, matches_of, new_app, new_rule, on_top}
use Rattle.clap.specs.Faults.{fault_of}
use Rattle.command_line.specs.declared.command.Command.{Command}
use Rattle.command_line.specs.declared.command.Command.TheVariants.{Auction, Script, Run, Drill, Serve}

-- the name of a command
abbrev pub command_name : Command → List ℕ
command_name Auction = codes "auction"
command_name Script = codes "script"
command_name Run = codes "run"
command_name Drill = codes "drill"
command_name Serve = codes "serve"

-- the command that a word names
unfoldable pub command_named : List ℕ → Option Command
command_named word = find (λ command. bytes_eq word (command_name command)) (Auction ∷ Script ∷ Run ∷ Drill ∷ Serve ∷ [])

-- an option `--NAME VALUE`
abbrev pub named_option : List ℕ → Rule
named_option name = record (new_rule name) { long = Some name }

-- a value that stands by its place
abbrev pub placed_option : List ℕ → Rule
placed_option name = new_rule name

-- an option that has to be there
abbrev pub required : Rule → Rule
required rule = record rule { required = true }

-- the options of a command that opens a desk
abbrev pub desk_options : List Rule
desk_options =
    map named_option (codes "reserve" ∷ codes "floor" ∷ codes "places"
    ∷ codes "journal" ∷ codes "journal-bytes" ∷ codes "placements" ∷ [])

-- the same with the host's key
abbrev pub host_options : List Rule
host_options = desk_options ++ required (named_option (codes "host-key")) ∷ []

-- what may stand behind the name of a command
abbrev pub options_of : Command → List Rule
options_of Auction = []
options_of Script = desk_options
options_of Run = host_options
options_of Drill = required (placed_option (codes "start")) ∷ required (placed_option (codes "size")) ∷ []
options_of Serve =
    host_options ++ required (named_option (codes "port")) ∷ required (named_option (codes "workers"))
    ∷ named_option (codes "sessions") ∷ []

-- a command of `clap` with more options
abbrev pub with_options : App → List Rule → App
with_options app options = on_top (λ shape. record shape { rules = shape.rules ++ options }) app

-- the command as it is made for `clap`
unfoldable pub clap_command : Command → App
clap_command command = with_options (new_app (command_name command)) (options_of command)

-- whether the words, of which the first names the command, are such that a parse finds no fault with them
unfoldable pub are_taken : Command → List (List ℕ) → Bool
are_taken command words = length (fault_of (clap_command command) words) == 0

-- what a parse of them finds of each option
unfoldable pub found_by : Command → List (List ℕ) → List Row
found_by command words = matches_of (clap_command command) words
