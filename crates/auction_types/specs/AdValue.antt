-- An ad as contracts see it, and the ranges of its numbers.
use Rattle.std.specs.Prelude.{ℕ, ◌≤◌, ◌*◌, Bool, ◌==◌, ◌&&◌}
use Rattle.auction_types.specs.declared.limits.TheConstants.{BID_MIN, BID_MAX, QUALITY_MIN, QUALITY_MAX}

-- an ad: the line that it shows, named by account, campaign and line, its bid in cents and its quality
pub record AdValue : Type 0 where
  pub account : ℕ
  pub campaign : ℕ
  pub line : ℕ
  pub bid : ℕ
  pub quality : ℕ

-- a bid, or a reserve, in cents per click
abbrev pub IsBid : ℕ → Type 0
IsBid bid = (BID_MIN ≤ bid) × (bid ≤ BID_MAX)

-- a quality
abbrev pub IsQuality : ℕ → Type 0
IsQuality quality = (QUALITY_MIN ≤ quality) × (quality ≤ QUALITY_MAX)

-- an ad with bid and quality in range
abbrev pub IsInRange : AdValue → Type 0
IsInRange a = IsBid a.bid × IsQuality a.quality

-- the score, by which ads are ranked first
abbrev pub score : AdValue → ℕ
score a = a.bid * a.quality

-- the same ad with another bid
abbrev pub with_bid : AdValue → ℕ → AdValue
with_bid a bid = record a { bid = bid }

-- whether two ads name the same line
abbrev pub is_same_line : AdValue → AdValue → Bool
is_same_line a b = a.account == b.account && (a.campaign == b.campaign && a.line == b.line)

-- whether two ads are equal
abbrev pub is_same_ad : AdValue → AdValue → Bool
is_same_ad a b = is_same_line a b && (a.bid == b.bid && a.quality == b.quality)
