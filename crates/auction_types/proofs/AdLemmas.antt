-- When two ads are equal.
use Rattle.std.proofs.Common.{◌≡◌, ℕ, Bool, true, ◌==◌, ◌&&◌, arith}
use Rattle.std.proofs.lemmas.Bool.Decides.{nat_tests}
use Rattle.std.proofs.lemmas.Bool.{eqb-true}
use Rattle.auction_types.specs.AdValue.{AdValue, is_same_ad}

ad_of : ℕ → ℕ → ℕ → ℕ → ℕ → AdValue
ad_of account campaign line bid quality = record { account = account; campaign = campaign; line = line; bid = bid; quality = quality }

same_parts : (a b : AdValue) → a.account ≡ b.account → a.campaign ≡ b.campaign → a.line ≡ b.line → a.bid ≡ b.bid → a.quality ≡ b.quality → ad_of a.account a.campaign a.line a.bid a.quality ≡ ad_of b.account b.campaign b.line b.bid b.quality
same_parts a b account campaign line bid quality = cc

pub same_ad : (a b : AdValue) → a.account ≡ b.account → a.campaign ≡ b.campaign → a.line ≡ b.line → a.bid ≡ b.bid → a.quality ≡ b.quality → a ≡ b
unfolding ad_of
same_ad a b account campaign line bid quality = same_parts a b account campaign line bid quality

five_tests : (a b c d e : Bool) → ((a && (b && c)) && (d && e)) ≡ true → (a ≡ true) × (b ≡ true) × (c ≡ true) × (d ≡ true) × (e ≡ true)
five_tests a b c d e h = grind arith

pub is_same_ad-true : (a b : AdValue) → is_same_ad a b ≡ true → a ≡ b
is_same_ad-true a b h =
    let parts = five_tests (a.account == b.account) (a.campaign == b.campaign) (a.line == b.line) (a.bid == b.bid) (a.quality == b.quality) h in
    same_ad a b (eqb-true _ _ parts.0) (eqb-true _ _ parts.1) (eqb-true _ _ parts.2) (eqb-true _ _ parts.3) (eqb-true _ _ parts.4)

pub is_same_ad-refl : (a : AdValue) → is_same_ad a a ≡ true
is_same_ad-refl a = grind (arith, nat_tests)
