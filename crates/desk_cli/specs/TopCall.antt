-- How a call of the program ends, by what its words tell.
use Rattle.std.specs.Prelude.{◌≡◌, ◌≢◌, ℕ, ◌⊎◌, List, [], Option, None, Some, IfSome}
use Rattle.auction_page.specs.AuctionCall.{IsAuctionServed}
use Rattle.command_line.specs.Reading.{told_by_words}
use Rattle.command_line.specs.declared.command.Command.{Command}
use Rattle.command_line.specs.declared.command.Command.TheVariants.{Auction, Script, Run, Drill, Serve}
use Rattle.command_line.specs.declared.told.Told.{Told}
use Rattle.desk_keeper.specs.KeeperView.{KeeperView}
use Rattle.printouts.specs.declared.status.TheConstants.{ENDED, NO_MEMORY}
use Rattle.printouts.specs.CallState.{CallState}
use Rattle.printouts.specs.Saying.{IsSilent, IsWritten}
use Rattle.desk_cli.specs.DrillCall.{DrillEnds}
use Rattle.desk_cli.specs.RunCall.{RunEnds, run_at}
use Rattle.desk_cli.specs.Saying.{refused_printout}
use Rattle.desk_cli.specs.ScriptCall.{ScriptEnds}
use Rattle.desk_cli.specs.Work.{HasNoDesk, Left, handed}

-- a call before and after it: the keeper handed in, the input and the output, the moments of the clock, where it tells
-- them, and what the call leaves
pub record TopCall : Type 0 where
  pub keeper : KeeperView
  pub before : CallState
  pub after : CallState
  pub moments : Option (List ℕ)
  pub moments_now : Option (List ℕ)
  pub left : Left

-- the clock is not asked, and nothing is read
abbrev pub IsTimeless : TopCall → Type 0
IsTimeless c = c.moments_now ≡ c.moments

abbrev pub IsUnread : TopCall → Type 0
IsUnread c = c.after.source ≡ c.before.source

-- where the call ended well, nothing is left of the input
abbrev pub IsAllRead : TopCall → Type 0
IsAllRead c = c.left.status ≡ ENDED → IfSome c.after.source.left (λ bytes. bytes ≡ [])

-- nothing is done
pub record IsIdle (c : TopCall) : Type 0 where
  pub timeless : IsTimeless c
  pub unread : IsUnread c
  pub unopened : HasNoDesk c.keeper c.left

-- the words are refused: it says so, and does nothing else
pub record IsRefused (c : TopCall) : Type 0 where
  pub idle : IsIdle c
  pub said : IsWritten c.before.sink c.after.sink refused_printout c.left.status

-- memory was wanted for the words
pub record IsForgone (c : TopCall) : Type 0 where
  pub idle : IsIdle c
  pub silent : IsSilent NO_MEMORY c.before.sink c.after.sink c.left.status

-- the printout of the auction is written
pub record IsAuction (c : TopCall) : Type 0 where
  pub run : IsAuctionServed c.before c.after c.left.status
  pub all_read : IsAllRead c
  pub timeless : IsTimeless c
  pub unopened : HasNoDesk c.keeper c.left

-- a desk with the settings told serves the script
pub record IsScript (told : Told) (c : TopCall) : Type 0 where
  pub run : ScriptEnds (handed told.settings c.keeper) c.before c.after c.left
  pub all_read : IsAllRead c
  pub timeless : IsTimeless c

-- a desk with the settings told serves a session, with the host's key that is told
pub record IsRun (told : Told) (c : TopCall) : Type 0 where
  pub key : List ℕ
  pub is_told : told.host_key ≡ Some key
  pub run : RunEnds (handed told.settings c.keeper) (run_at key c.before c.moments) (run_at key c.after c.moments_now) c.left

-- the drill that is told is made on a desk
pub record IsDrill (told : Told) (c : TopCall) : Type 0 where
  pub run : DrillEnds (record { start = told.start; size = told.size }) (handed told.settings c.keeper) c.before c.after c.left
  pub unread : IsUnread c
  pub timeless : IsTimeless c

-- how a command ends; that of several callers is another call's
abbrev pub CommandEnds : Command → Told → TopCall → Type 0
CommandEnds Auction told c = IsAuction c
CommandEnds Script told c = IsScript told c
CommandEnds Run told c = IsRun told c
CommandEnds Drill told c = IsDrill told c
CommandEnds Serve told c = IsRefused c

abbrev pub EndsAs : Option Told → TopCall → Type 0
EndsAs None c = IsRefused c
EndsAs (Some told) c = CommandEnds told.command told c

-- how a call ends, by its words
abbrev pub CallEnds : List (List ℕ) → TopCall → Type 0
CallEnds words c = EndsAs (told_by_words words) c ⊎ IsForgone c

-- the words tell no session
abbrev pub TellNoRun : List (List ℕ) → Type 0
TellNoRun words = IfSome (told_by_words words) (λ told. told.command ≢ Run)
