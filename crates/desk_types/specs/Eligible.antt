-- Which lines compete for a query, clause by clause, and who enters.
use Rattle.std.specs.Prelude.{ℕ, Bool, not, ◌==◌, ◌&&◌, nat_le, pos, int_le, List, map, filter}
use Rattle.std.specs.List.{list_any}
use Rattle.match_types.specs.Marks.{kind_of}
use Rattle.match_types.specs.Pattern.{words_in}
use Rattle.match_types.specs.Tests.{meets}
use Rattle.desk_types.specs.declared.rows.Line.{Line}
use Rattle.auction_types.specs.AdValue.{AdValue, score}
use Rattle.desk_types.specs.Day.{day_of}
use Rattle.desk_types.specs.Money.{free}
use Rattle.auction_types.specs.Page.{entrants}
use Rattle.desk_types.specs.State.{State}

-- a line as an ad
abbrev pub ad_of : Line → AdValue
ad_of l = record { account = l.account; campaign = l.campaign; line = l.number; bid = l.bid; quality = l.quality }

-- whether a pattern matches the words of a query
abbrev pub is_matched : List ℕ → List (List ℕ) → Bool
is_matched pattern query = meets (kind_of pattern) (words_in pattern) query

-- whether its account is there and not suspended
abbrev pub has_active_account : State → Line → Bool
has_active_account S l = list_any (λ a. a.number == l.account && not a.suspended) S.tables.accounts

-- whether its campaign is there and on
abbrev pub has_active_campaign : State → Line → Bool
has_active_campaign S l = list_any (λ c. c.account == l.account && (c.number == l.campaign && c.on)) S.tables.campaigns

-- whether a live negative of its campaign matches the query
abbrev pub is_kept_out : State → List (List ℕ) → Line → Bool
is_kept_out S query l =
    list_any (λ n. n.account == l.account && (n.campaign == l.campaign && (n.live && is_matched n.pattern query)))
    S.tables.negatives

-- whether its bid is at least the reserve
abbrev pub meets_reserve : State → Line → Bool
meets_reserve S l = nat_le S.settings.reserve l.bid

-- whether its score, bid times quality, is at least the floor
abbrev pub meets_floor : State → Line → Bool
meets_floor S l = nat_le S.settings.floor (score (ad_of l))

-- whether what is free today of its campaign's budget is at least its bid
abbrev pub can_pay : State → Line → Bool
can_pay S l = int_le (pos l.bid) (free S l.account l.campaign (day_of S.moment))

-- whether a line competes for the words of a query, its campaign's money aside
unfoldable pub is_candidate : State → List (List ℕ) → Line → Bool
is_candidate S query l =
    has_active_account S l && (has_active_campaign S l && (l.on && (is_matched l.pattern query
    && (not (is_kept_out S query l) && (meets_reserve S l && meets_floor S l)))))

-- whether a line competes for the words of a query: it is a candidate, and its campaign can pay
abbrev pub is_eligible : State → List (List ℕ) → Line → Bool
is_eligible S query l = is_candidate S query l && can_pay S l

-- the lines that compete, as ads
abbrev pub eligible_ads : State → List (List ℕ) → List AdValue
eligible_ads S query = map ad_of (filter (is_eligible S query) S.tables.lines)

-- the entrants of a query: for each account with a line that competes its best such line
abbrev pub entrants_for : State → List (List ℕ) → List AdValue
entrants_for S query = entrants (eligible_ads S query)
