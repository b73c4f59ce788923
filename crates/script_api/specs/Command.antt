-- The words of the commands.
use Rattle.std.specs.Prelude.{ℕ, if◌then◌else◌, List, codes, bytes_eq, Option, Some, None}
use Rattle.script_api.specs.declared.command.CallWord.{CallWord}
use Rattle.script_api.specs.declared.command.CallWord.TheVariants as word

-- the command of a text
unfoldable pub call_named : List ℕ → Option CallWord
call_named text =
    if bytes_eq text (codes "click") then Some word.Click
    else (if bytes_eq text (codes "search") then Some word.Search
    else (if bytes_eq text (codes "account") then Some word.Account
    else (if bytes_eq text (codes "quality") then Some word.Quality
    else (if bytes_eq text (codes "suspend") then Some word.Suspend
    else (if bytes_eq text (codes "credit") then Some word.Credit
    else (if bytes_eq text (codes "host") then Some word.Host
    else (if bytes_eq text (codes "campaign") then Some word.Campaign
    else (if bytes_eq text (codes "budget") then Some word.Budget
    else (if bytes_eq text (codes "line") then Some word.Line
    else (if bytes_eq text (codes "bid") then Some word.Bid
    else (if bytes_eq text (codes "pause") then Some word.Pause
    else (if bytes_eq text (codes "negative") then Some word.Negative
    else (if bytes_eq text (codes "drop") then Some word.Drop
    else (if bytes_eq text (codes "report") then Some word.Report
    else (if bytes_eq text (codes "shown") then Some word.Shown
    else None)))))))))))))))
