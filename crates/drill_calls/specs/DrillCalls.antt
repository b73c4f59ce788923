-- The calls of a drill.
use Rattle.std.specs.Prelude.{ℕ, zero, suc, ◌+◌, ◌-◌, ◌*◌, ◌/◌, ◌%◌, ◌==◌, if◌then◌else◌}
use Rattle.std.specs.Prelude.{List, [], ◌∷◌, ◌++◌, map, flat_map, take, sum_by, codes, None, Result, Ok}
use Rattle.desk_types.specs.declared.call.Call.{Call}
use Rattle.desk_types.specs.declared.call.Call.TheVariants.{AddAccount, AddCampaign, AddLine, SetQuality, Search, Click}
use Rattle.desk_types.specs.declared.entry.Fault.{Fault}
use Rattle.desk_types.specs.declared.reply.Reply.{Reply}
use Rattle.desk_types.specs.declared.reply.Reply.TheVariants.{Page}
use Rattle.desk_types.specs.Opening.{greatest}
use Rattle.drill_calls.specs.Draws.{behind_draws, nth_draw}
use Rattle.drill_calls.specs.DrillTexts.{drill_key, drill_headline, drill_link, drill_pattern, two_words}

-- the numbers_to from 1 to this one
unfoldable pub numbers_to : ℕ → List ℕ
numbers_to zero = []
numbers_to (suc n) = numbers_to n ++ suc n ∷ []

-- the pattern of a line, its draws from x on: line 1 has `shoes`, a further one a kind and two words that are drawn
abbrev pub line_pattern : ℕ → ℕ → List ℕ
line_pattern line x =
    if line == 1 then codes "shoes" else drill_pattern (nth_draw x 1 3) (nth_draw x 2 8) (nth_draw x 3 8)

-- a line of an account: first its bid is drawn, then its pattern
unfoldable pub drill_line : ℕ → ℕ → ℕ → Call
drill_line account line x =
    AddLine account (drill_key account) 1 (5 + nth_draw x 1 96) (line_pattern line (behind_draws x 1))
    (drill_headline account line) (drill_link account line)

-- how many draws a pattern takes, and how many its line
abbrev pub pattern_draws : ℕ → ℕ
pattern_draws line = if line == 1 then 0 else 3

abbrev pub line_draws : ℕ → ℕ
line_draws line = 1 + pattern_draws line

-- how many draws of an account come before a line: that of its budget, and those of the lines before
abbrev pub draws_before_line : ℕ → ℕ
draws_before_line line = 1 + sum_by line_draws (numbers_to (line - 1))

-- the lines of an account up to this one
unfoldable pub line_calls : ℕ → ℕ → ℕ → List Call
line_calls account lines x = map (λ line. drill_line account line (behind_draws x (draws_before_line line))) (numbers_to lines)

-- an account, its draws from x on: 1 for the budget, 29 for eight lines, and the 31st for the quality of line 1
unfoldable pub account_calls : ℕ → ℕ → List Call
account_calls account x =
    AddAccount (drill_key account) ∷ AddCampaign account (drill_key account) (500 + nth_draw x 1 2000) ∷ []
    ++ line_calls account 8 x
    ++ SetQuality account 1 (1 + nth_draw x 31 100) ∷ []

-- the accounts up to this one, with 31 draws for each
unfoldable pub accounts_part : ℕ → ℕ → List Call
accounts_part start accounts =
    flat_map (λ account. account_calls account (behind_draws start (31 * (account - 1)))) (numbers_to accounts)

-- a search for two words that are drawn, and shoes
unfoldable pub drill_search : ℕ → Call
drill_search x = Search (two_words (nth_draw x 1 8) (nth_draw x 2 8) (codes " shoes")) None

-- a search, and behind each that 5 divides a click
unfoldable pub search_calls : ℕ → ℕ → ℕ → List Call
search_calls search x placement = drill_search x ∷ (if search % 5 == 0 then Click placement ∷ [] else [])

-- the placements of a result, where it is a page, and the greatest placement of some results, 0 where there is none
abbrev pub placements_answered : Result Reply Fault → List ℕ
placements_answered (Ok (Page spots)) = map (λ spot. spot.placement) spots
placements_answered _ = []

unfoldable pub greatest_placement : List (Result Reply Fault) → ℕ
greatest_placement results = greatest (flat_map placements_answered results)

-- how many calls come before the click behind a search that 5 divides: 11 for each account, the searches up to this
-- one, and the clicks before
abbrev pub calls_before_click : ℕ → ℕ → ℕ
calls_before_click size search = 11 * size + search + (search / 5 - 1)

-- the searches up to this one, their draws behind those of all accounts; each click names the greatest placement of the
-- results that stand before it
unfoldable pub searches_part : ℕ → ℕ → ℕ → List (Result Reply Fault) → List Call
searches_part start size searches results =
    flat_map (λ search. search_calls search (behind_draws start (31 * size + 2 * (search - 1)))
    (greatest_placement (take (calls_before_click size search) results))) (numbers_to searches)

-- the calls behind so many others, each at its moment: the k-th call has the moment 60 times k
unfoldable pub at_moments : ℕ → List Call → List (ℕ × Call)
at_moments before [] = []
at_moments before (call ∷ calls) = (60 * (before + 1), call) ∷ at_moments (before + 1) calls

-- the calls of a drill with their moments, where these are the results: the accounts, and 25 searches for each of them
unfoldable pub drill_calls : ℕ → ℕ → List (Result Reply Fault) → List (ℕ × Call)
drill_calls start size results =
    at_moments 0 (accounts_part start size ++ searches_part start size (25 * size) results)
