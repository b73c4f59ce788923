-- The order of ads (Edelman, Ostrovsky and Schwarz 2007, in the form with quality scores).
use Rattle.std.specs.Prelude.{Bool, true, nat_lt, ◌==◌, ◌&&◌, ◌||◌, Option, None, Some}
use Rattle.auction_types.specs.AdValue.{AdValue, score}

-- whether a's triple of account, campaign and line is the smaller one
unfoldable pub has_smaller_triple : AdValue → AdValue → Bool
has_smaller_triple a b =
    nat_lt a.account b.account
    || (a.account == b.account && (nat_lt a.campaign b.campaign || (a.campaign == b.campaign && nat_lt a.line b.line)))

-- whether a ranks above b where their scores are equal: by the higher quality, then by the smaller triple
unfoldable pub wins_tie : AdValue → AdValue → Bool
wins_tie a b = nat_lt b.quality a.quality || (a.quality == b.quality && has_smaller_triple a b)

-- whether a ranks above b: by the higher score, then as at a tie
unfoldable pub better : AdValue → AdValue → Bool
better a b = nat_lt (score b) (score a) || (score a == score b && wins_tie a b)

-- whether a is better than the ad below it, if there is one
abbrev pub stays_ahead : AdValue → Option AdValue → Bool
stays_ahead a None = true
stays_ahead a (Some below) = better a below
