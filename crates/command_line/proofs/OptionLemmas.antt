-- What clap makes of the options of a command.
use Rattle.std.proofs.Common.{◌≡◌, ◌≢◌, ◌∙◌, ◌++◌, ◌∷◌, [], ◌==◌, true, false, List, length, refl, sym, ap, subst, ⊎_elim, append_assoc, append-nil, rules}
use Rattle.clap.specs.Walk.{Rule, Text, rule_of, rows_of}
use Rattle.clap.specs.Simple.{App, HasMatchesOf, app_of, is_simple, matches_of, new_app, with_rule}
use Rattle.clap.specs.Built.{AddsArg}
use Rattle.clap.specs.Faults.{fault_of, is_simple_and_free}
use Rattle.clap.specs.Kinds.{HasKind, Kinds}
use Rattle.clap.specs.Matches.{found_of}
use Rattle.clap.specs.Values.{kind_of}
use Rattle.clap.specs.declared.builder.arg.Arg.{Arg}
use Rattle.clap.specs.declared.builder.command.Command.{Command as Parser}
use Rattle.clap.specs.declared.error.Error.{Error}
use Rattle.clap.specs.declared.error.kind.ErrorKind.TheVariants.{OutOfMemory}
use Rattle.clap.specs.declared.parser.matches.ArgMatches.{ArgMatches}
use Rattle.clap.proofs.OnLiterals.{clap_on_literals}
use Rattle.command_line.specs.declared.command.Command.{Command}
use Rattle.command_line.specs.declared.command.Command.TheVariants.{Auction, Script, Run, Drill, Serve}
use Rattle.command_line.specs.Options.{are_taken, clap_command, found_by, command_name, options_of, with_options}

-- no more options
pub with_options-nil : (app : App) → with_options app [] ≡ app
with_options-nil app = ap (λ (rules : List Rule). record app { top = record app.top { rules = rules } }) (append-nil app.top.rules)

-- an option is added behind others
pub added : (first : App) (before : List Rule) (rule : Rule) (old new : Parser) (arg : Arg)
    → AddsArg old arg new → arg.global ≡ false → rule_of arg ≡ rule → app_of old ≡ with_options first before
    → app_of new ≡ with_options first (before ++ rule ∷ [])
added first before rule old new arg adds is_local is_rule so_far =
    adds.shape is_local ∙ ap (λ (r : Rule). with_rule (app_of old) r) is_rule ∙ ap (λ (a : App). with_rule a rule) so_far
    ∙ ap (λ (rules : List Rule). record first { top = record first.top { rules = rules } }) (append_assoc first.top.rules before (rule ∷ []))

-- each command is one whose parse clap states in full
is_stated : (command : Command) → is_simple_and_free (clap_command command) ≡ true
unfolding clap_on_literals clap_command
is_stated Auction = refl
is_stated Script = refl
is_stated Run = refl
is_stated Drill = refl
is_stated Serve = refl

is_simple_too : (command : Command) → is_simple (clap_command command) ≡ true
unfolding clap_on_literals clap_command
is_simple_too Auction = refl
is_simple_too Script = refl
is_simple_too Run = refl
is_simple_too Drill = refl
is_simple_too Serve = refl

module _ (command : Command) (app : App) (words : List Text) (same : app ≡ clap_command command) where
  stated : is_simple_and_free app ≡ true
  stated = ap is_simple_and_free same ∙ is_stated command

  -- a parse that succeeds takes the words
  pub taken : (is_simple_and_free app ≡ true → fault_of app words ≡ []) → are_taken command words ≡ true
  unfolding are_taken
  taken ok = ap (λ (kinds : Kinds). length kinds == 0) (sym (ap (λ (a : App). fault_of a words) same) ∙ ok stated)

  -- a parse that fails, for another cause than memory, does not
  pub not_taken : (e : Error) → (is_simple_and_free app ≡ true → HasKind (fault_of app words) e) → kind_of e ≢ OutOfMemory → are_taken command words ≡ false
  unfolding are_taken
  not_taken e fails memory =
      subst (λ (kinds : Kinds). (length kinds == 0) ≡ false) (ap (λ (a : App). fault_of a words) same) (go (fault_of app words) (fails stated))
    where
      go : (kinds : Kinds) → HasKind kinds e → (length kinds == 0) ≡ false
      go [] has = ⊎_elim (λ m. absurd (memory m)) (λ none. absurd none) has
      go (k ∷ ks) has = search rules

  -- and what it finds is stated
  pub found : (m : ArgMatches) → HasMatchesOf app words m → rows_of (found_of m) ≡ found_by command words
  unfolding found_by
  found m has = (has (ap is_simple same ∙ is_simple_too command)).0 ∙ ap (λ (a : App). matches_of a words) same

-- a command as it is made
pub made : (command : Command) (first app : App) → first ≡ new_app (command_name command) → app ≡ with_options first (options_of command)
    → app ≡ clap_command command
unfolding clap_command
made command first app is_first is_app = is_app ∙ ap (λ (a : App). with_options a (options_of command)) is_first
