-- Bytes without a carriage return at their end.
use Rattle.std.proofs.Common.{◌≡◌, ◌≢◌, ℕ, zero, suc, Some, None, slice_get, ◌-◌, ◌≤◌, ◌==◌, List, [], ◌∷◌, length, take, slice_index, refl, length-take, arith}
use Rattle.std.proofs.lemmas.Bool.{eq-eqb, ne_eqb, cond-true, cond-false, cond_both}
use Rattle.desk_io.specs.Lines.{without_return}

pub without_return-yes : (bytes : List ℕ) → slice_index bytes (length bytes - 1) ≡ 13 → without_return bytes ≡ take (length bytes - 1) bytes
unfolding without_return
without_return-yes bytes is = cond-true _ _ _ (eq-eqb (slice_index bytes (length bytes - 1)) 13 is)

pub without_return-no : (bytes : List ℕ) → slice_index bytes (length bytes - 1) ≢ 13 → without_return bytes ≡ bytes
unfolding without_return
without_return-no bytes other = cond-false _ _ _ (ne_eqb (slice_index bytes (length bytes - 1)) 13 other)

pub without_return-nil : (bytes : List ℕ) → length bytes ≡ 0 → without_return bytes ≡ bytes
unfolding without_return
without_return-nil [] none = refl
without_return-nil (byte ∷ bytes) none = absurd (omega arith)

-- no byte is added
pub length-without_return : (bytes : List ℕ) → length (without_return bytes) ≤ length bytes
unfolding without_return
length-without_return bytes = cond_both (slice_index bytes (length bytes - 1) == 13) (take (length bytes - 1) bytes) bytes (λ (text : List ℕ). length text ≤ length bytes) (λ _. omega (arith, length-take (length bytes - 1) bytes)) (λ _. omega arith)

-- what the last byte is, as a search of the end gives it
pub got_byte : (bytes : List ℕ) (place byte : ℕ) → Some byte ≡ slice_get bytes place → slice_index bytes place ≡ byte
got_byte [] place byte is = absurd (cc)
got_byte (first ∷ bytes) zero byte is = cc
got_byte (first ∷ bytes) (suc place) byte is = got_byte bytes place byte is

pub got_none : (bytes : List ℕ) (place : ℕ) → None ≡ slice_get bytes place → length bytes ≤ place
got_none [] place is = omega arith
got_none (first ∷ bytes) zero is = absurd (cc)
got_none (first ∷ bytes) (suc place) is = omega (arith, got_none bytes place is)
