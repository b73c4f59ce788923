-- The least bid that is enough, by one division, and that it is the definition's price.
use Rattle.std.proofs.Common.{◌≡◌, ℕ, ◌+◌, ◌*◌, ◌<◌, ◌≤◌, max, true, false, nat_lt, nat_le, ◌==◌, ◌&&◌, ◌||◌, inl, inr, List, Option, None, Some, refl, sym, ap, ◌∙◌, arith, Bor}
use Rattle.std.specs.Int.{div_ceil}
use Rattle.std.specs.List.{Contains}
use Rattle.std.specs.Option.{IfSome, option_copied}
use Rattle.std.proofs.lemmas.Grind.{div_ceil_times}
use Rattle.std.proofs.lemmas.Bool.{leb-true, le-leb, and_parts, and_from, cases_lt}
use Rattle.std.proofs.Math.Nat.{mul-le-mul_right}
use Rattle.std.proofs.lemmas.Bool.Decides.{nat_tests}
use Rattle.auction_types.specs.AdValue.{AdValue, score, with_bid}
use Rattle.auction_types.specs.Order.{better, wins_tie, has_smaller_triple, stays_ahead}
use Rattle.auction_types.specs.Page.{AreOfDifferentAccounts, next_below}
use Rattle.auction_types.specs.Price.{is_enough, price}
use Rattle.auction_types.proofs.Members.{Has-from_Contains}
use Rattle.auction_types.proofs.Accounts.{AreApart-from}
use Rattle.auction_types.proofs.PriceLemmas.{keeps_place-is, price-is_enough, price-le-bid, price-least}
use Rattle.gsp_price.specs.Enough.{IsEnough}

tie_won : (m n : ℕ) → (nat_lt m n || (n == m && true)) ≡ nat_le m n
tie_won m n = grind (arith, nat_tests)

tie_lost : (m n : ℕ) → (nat_lt m n || (n == m && false)) ≡ nat_le (m + 1) n
tie_lost m n = grind (arith, nat_tests)

pub ahead-tie_won : (a below : AdValue) (bid : ℕ) → wins_tie a below ≡ true → better (with_bid a bid) below ≡ nat_le (score below) (bid * a.quality)
unfolding better wins_tie has_smaller_triple
ahead-tie_won a below bid h =
    ap (λ t. nat_lt (score below) (bid * a.quality) || (bid * a.quality == score below && t)) h ∙ tie_won (score below) (bid * a.quality)

pub ahead-tie_lost : (a below : AdValue) (bid : ℕ) → wins_tie a below ≡ false → better (with_bid a bid) below ≡ nat_le (score below + 1) (bid * a.quality)
unfolding better wins_tie has_smaller_triple
ahead-tie_lost a below bid h =
    ap (λ t. nat_lt (score below) (bid * a.quality) || (bid * a.quality == score below && t)) h ∙ tie_lost (score below) (bid * a.quality)

factor_le : (m q b d : ℕ) → d * q < m + q → m ≤ b * q → d ≤ b
factor_le m q b d above h =
    elim (cases_lt b d) [
      | inl less ↦ absurd (omega (arith, above, h, mul-le-mul_right q less))
      | inr within ↦ within
    ]

both_below : (m n k : ℕ) → m ≤ k → n ≤ k → max m n ≤ k
both_below m n k h l = omega (arith, h, l)

within : {m n k : ℕ} → m ≤ n → n ≤ k → m ≤ k
within h l = omega (arith, h, l)

first_below : (m n : ℕ) → m ≤ max m n
first_below m n = omega arith

second_below : (m n : ℕ) → n ≤ max m n
second_below m n = omega arith

-- the quotient rounded up is the least factor that reaches the number
pub div_ceil-le : (m q b : ℕ) → 0 < q → m ≤ b * q → div_ceil m q ≤ b
div_ceil-le m q b positive h = factor_le m q b (div_ceil m q) (div_ceil_times m q positive).1 h

pub enough_reached : (reserve floor needed result : ℕ) (a : AdValue) (next : Option AdValue) → 0 < a.quality → ((bid : ℕ) → stays_ahead (with_bid a bid) next ≡ nat_le needed (bid * a.quality)) → result ≡ max (div_ceil (max needed floor) a.quality) reserve → IsEnough reserve floor a next result
enough_reached reserve floor needed result a next positive ahead is =
    let reached : max needed floor ≤ div_ceil (max needed floor) a.quality * a.quality = (div_ceil_times (max needed floor) a.quality positive).0 in
    let above : div_ceil (max needed floor) a.quality ≤ result = rw is (first_below _ reserve) in
    let at_least : max needed floor ≤ result * a.quality = within reached (mul-le-mul_right a.quality above) in
    record {
      meets_reserve = rw is (second_below _ reserve);
      meets_floor = omega (arith, at_least);
      ahead = ahead result ∙ le-leb needed (result * a.quality) (omega (arith, at_least));
    }

pub enough_least : (reserve floor needed result bid : ℕ) (a : AdValue) (next : Option AdValue) → 0 < a.quality → ((bid : ℕ) → stays_ahead (with_bid a bid) next ≡ nat_le needed (bid * a.quality)) → result ≡ max (div_ceil (max needed floor) a.quality) reserve → IsEnough reserve floor a next bid → result ≤ bid
enough_least reserve floor needed result bid a next positive ahead is h =
    let reached : needed ≤ bid * a.quality = leb-true needed (bid * a.quality) (sym (ahead bid) ∙ h.ahead) in
    let least = div_ceil-le (max needed floor) a.quality bid positive (both_below needed floor (bid * a.quality) reached h.meets_floor) in
    rw is (both_below (div_ceil (max needed floor) a.quality) reserve bid least h.meets_reserve)

pub enough_at_own_bid : (reserve floor : ℕ) (a : AdValue) (next : Option AdValue) → reserve ≤ a.bid → floor ≤ score a → stays_ahead a next ≡ true → IsEnough reserve floor a next a.bid
enough_at_own_bid reserve floor a next low high ahead = record { meets_reserve = low; meets_floor = high; ahead = ahead }

-- among entrants the least bid that is enough is the price
pub price_among : (reserve floor result : ℕ) (entered : List AdValue) (a : AdValue) (next : Option AdValue) → AreOfDifferentAccounts entered → Contains entered a → next_below entered a ≡ next → reserve ≤ a.bid → floor ≤ score a → result ≤ a.bid → IsEnough reserve floor a next result → ((bid : ℕ) → IsEnough reserve floor a next bid → result ≤ bid) → result ≡ price reserve floor entered a
unfolding is_enough
price_among reserve floor result entered a next apart ha is low high at_most enough least =
    let kept = λ (bid : ℕ) (own : bid ≤ a.bid). keeps_place-is entered a bid (AreApart-from entered apart) (Has-from_Contains entered a ha) own ∙ ap (stays_ahead (with_bid a bid)) is in
    let at_result : is_enough reserve floor entered a result ≡ true
    = and_from _ _ (le-leb reserve result enough.meets_reserve) (and_from _ _ (le-leb floor (result * a.quality) enough.meets_floor) (kept result at_most ∙ enough.ahead)) in
    let first = and_parts _ _ (price-is_enough reserve floor entered a low high) in
    let second = and_parts _ _ first.1 in
    let own = price-le-bid reserve floor entered a low in
    let at_price : IsEnough reserve floor a next (price reserve floor entered a)
    = record { meets_reserve = leb-true _ _ first.0; meets_floor = leb-true _ _ second.0; ahead = sym (kept _ own) ∙ second.1 } in
    omega (arith, least _ at_price, price-least reserve floor entered a result at_most at_result)

pub stays_ahead-own : (a : AdValue) (next : Option (Bor AdValue)) → IfSome next (λ below. better a below.now ≡ true) → stays_ahead a (option_copied next) ≡ true
stays_ahead-own a None h = refl
stays_ahead-own a (Some below) h = h
