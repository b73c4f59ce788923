-- Rows that stand by account and number: those of the last account stand last, and one is found by halving.
use Rattle.std.proofs.Common.{◌≡◌, ℕ, zero, suc, ◌-◌, ◌<◌, ◌≤◌, Bool, true, false, ◌==◌, ◌&&◌, inl, inr, List, [], ◌∷◌, ◌++◌, drop, filter, find, get_or, length, take, None, Some, refl, sym, ap, subst, ◌∙◌, arith}
use Rattle.std.specs.Prelude.{nat_le}
use Rattle.std.specs.List.{count_by}
use Rattle.std.proofs.lemmas.Bool.{cases_Bool, cond-true, cond-false, eqb-true}
use Rattle.std.proofs.lemmas.Bool.Decides.{nat_tests}
use Rattle.std.proofs.lemmas.List.{length-drop, take_all}
use Rattle.desk_types.specs.Keys.{is_less_key}
use Rattle.desk_types.proofs.EachRow.{Each, Each-mono}
use Rattle.desk_types.proofs.InOrder.{Ordered-from}
use Rattle.desk_types.proofs.Numbering.{length_kept}
use Rattle.desk_types.proofs.Places.{IsPlace}
use Rattle.desk_types.proofs.Puts.{Ordered, less-trans}
use Rattle.desk_keeper.specs.OwnRows.{AreOwnRows, own_key}

-- numbers and tests of keys
less_owner : (x y n m : ℕ) → is_less_key (x ∷ n ∷ []) (y ∷ m ∷ []) ≡ true → x ≤ y
less_owner x y n m h = grind (arith, nat_tests)

le_test : (x y : ℕ) → nat_le x y ≡ true → x ≤ y
le_test x y h = grind (arith, nat_tests)

same_test : (x y : ℕ) → x ≤ y → y ≤ x → (x == y) ≡ true
same_test x y h k = grind (arith, nat_tests)

below_test : (x y z : ℕ) → x ≤ y → y ≤ z → (y == z) ≡ false → (x == z) ≡ false
below_test x y z h k t = grind (arith, nat_tests)

at_least : (x y z : ℕ) → x ≤ y → (x == z) ≡ true → z ≤ y
at_least x y z h t = grind (arith, nat_tests)

-- what holds of each row holds of the last one
Each-last : {A : Type 0} (P : A → Type 0) (rest : List A) (last : A) → Each P (rest ++ last ∷ []) → P last
Each-last P [] last h = h.0
Each-last P (r ∷ rest) last h = Each-last P rest last h.1

-- the accounts are up to that of the last row
up_to_last : {A : Type 0} (owner number : A → ℕ) (rest : List A) (last : A) → Ordered (own_key owner number) (rest ++ last ∷ []) → Each (λ r. owner r ≤ owner last) (rest ++ last ∷ [])
up_to_last owner number [] last h = (omega arith, tt)
up_to_last owner number (r ∷ rest) last h = (
  less_owner (owner r) (owner last) (number r) (number last) (Each-last (λ s. is_less_key (own_key owner number r) (own_key owner number s) ≡ true) rest last h.0),
  up_to_last owner number rest last h.1,
)

none_own : {A : Type 0} (owner : A → ℕ) (account : ℕ) (rows : List A) → Each (λ r. (owner r == account) ≡ false) rows → filter (λ r. owner r == account) rows ≡ []
none_own owner account [] h = refl
none_own owner account (r ∷ rows) h = cond-false (owner r == account) _ _ h.0 ∙ none_own owner account rows h.1

all_own : {A : Type 0} (owner : A → ℕ) (account : ℕ) (rows : List A) → Each (λ r. (owner r == account) ≡ true) rows → filter (λ r. owner r == account) rows ≡ rows
all_own owner account [] h = refl
all_own owner account (r ∷ rows) h = cond-true (owner r == account) _ _ h.0 ∙ ap (λ l. r ∷ l) (all_own owner account rows h.1)

Each-both : {A : Type 0} (P Q R : A → Type 0) (rows : List A) → ((x : A) → P x → Q x → R x) → Each P rows → Each Q rows → Each R rows
Each-both P Q R [] f h k = tt
Each-both P Q R (r ∷ rows) f h k = (f r h.0 k.0, Each-both P Q R rows f h.1 k.1)

few_own : {A : Type 0} (test : A → Bool) (rows : List A) → length (filter test rows) ≤ length rows
few_own test [] = omega arith
few_own test (r ∷ rows) =
    elim (cases_Bool (test r)) [
      | inl t ↦ omega (arith, ap length (cond-true (test r) (r ∷ filter test rows) (filter test rows) t), few_own test rows)
      | inr t ↦ omega (arith, ap length (cond-false (test r) (r ∷ filter test rows) (filter test rows) t), few_own test rows)
    ]

drop_at : {A : Type 0} (r : A) (rows : List A) (n k : ℕ) → n ≡ suc k → drop n (r ∷ rows) ≡ drop k rows
drop_at r rows n k is = ap (λ m. drop m (r ∷ rows)) is

none_dropped : {A : Type 0} (rows : List A) (n : ℕ) → n ≡ 0 → drop n rows ≡ rows
none_dropped rows n is = ap (λ m. drop m rows) is

-- where no account is greater, the account's rows stand last
own_last : {A : Type 0} (owner number : A → ℕ) (account : ℕ) (rows : List A) → Ordered (own_key owner number) rows → Each (λ r. owner r ≤ account) rows
    → drop (length rows - length (filter (λ r. owner r == account) rows)) rows ≡ filter (λ r. owner r == account) rows
own_last owner number account [] order low = refl
own_last {A} owner number account (r ∷ rows) order low =
    let own : List A = filter (λ (s : A). owner s == account) rows in
    elim (cases_Bool (owner r == account)) [
      | inl t ↦
          let all : own ≡ rows = all_own owner account rows (Each-both (λ s. is_less_key (own_key owner number r) (own_key owner number s) ≡ true) (λ s. owner s ≤ account) (λ s. (owner s == account) ≡ true) rows
          (λ s less k. same_test (owner s) account k (at_least (owner r) (owner s) account (less_owner (owner r) (owner s) (number r) (number s) less) t)) order.0 low.1) in
          let whole : filter (λ (s : A). owner s == account) (r ∷ rows) ≡ r ∷ rows = cond-true (owner r == account) (r ∷ own) own t ∙ ap (λ l. r ∷ l) all in
          none_dropped (r ∷ rows) _ (omega (arith, ap length whole)) ∙ sym whole
      | inr t ↦
          let less : filter (λ (s : A). owner s == account) (r ∷ rows) ≡ own = cond-false (owner r == account) (r ∷ own) own t in
          drop_at r rows _ (length rows - length own) (omega (arith, ap length less, few_own (λ (s : A). owner s == account) rows)) ∙ own_last owner number account rows order.1 low.1 ∙ sym less
    ]

-- the rows of the last row's account, by its number
pub own_of_last : {A : Type 0} (owner number : A → ℕ) (account : ℕ) (rows rest : List A) (last : A) → AreOwnRows owner number rows → rows ≡ rest ++ last ∷ [] → (owner last == account) ≡ true
    → (number last ≤ length rows) × (drop (length rows - number last) rows ≡ filter (λ r. owner r == account) rows)
own_of_last {A} owner number account rows rest last h is t =
    let own : A → Bool = λ r. owner r == account in
    let same : owner last ≡ account = eqb-true (owner last) account t in
    let order : Ordered (own_key owner number) rows = Ordered-from (own_key owner number) rows h.in_order in
    let low : Each (λ (r : A). owner r ≤ account) rows =
    subst (Each (λ (r : A). owner r ≤ account)) (sym is)
    (Each-mono (λ r. owner r ≤ owner last) (λ r. owner r ≤ account) (rest ++ last ∷ []) (λ r k. omega (arith, k, same)) (up_to_last owner number rest last (subst (Ordered (own_key owner number)) is order))) in
    let count : number last ≡ length (filter own rows) = h.counted last rest is ∙ ap (λ n. count_by (λ (row : A). owner row == n) rows) same ∙ sym (length_kept own rows) in
    (omega (arith, count, few_own own rows), ap (λ n. drop (length rows - n) rows) count ∙ own_last owner number account rows order low)

-- another account has none
pub none_of_last : {A : Type 0} (owner number : A → ℕ) (account : ℕ) (rows rest : List A) (last : A) → AreOwnRows owner number rows → rows ≡ rest ++ last ∷ [] → owner last ≤ account → (owner last == account) ≡ false
    → filter (λ r. owner r == account) rows ≡ []
none_of_last {A} owner number account rows rest last h is low t =
    let order : Ordered (own_key owner number) (rest ++ last ∷ []) = subst (Ordered (own_key owner number)) is (Ordered-from (own_key owner number) rows h.in_order) in
    none_own owner account rows
    (subst (Each (λ (r : A). (owner r == account) ≡ false)) (sym is)
    (Each-mono (λ r. owner r ≤ owner last) (λ r. (owner r == account) ≡ false) (rest ++ last ∷ []) (λ r k. below_test (owner r) (owner last) account k low t) (up_to_last owner number rest last order)))

-- a row that stands before the wanted one, or behind it, is another
before_other : (x n account number : ℕ) → is_less_key (x ∷ n ∷ []) (account ∷ number ∷ []) ≡ true → (x == account && n == number) ≡ false
before_other x n account number h = grind (arith, nat_tests)

behind_other : (x n account number : ℕ) → is_less_key (account ∷ number ∷ []) (x ∷ n ∷ []) ≡ true → (x == account && n == number) ≡ false
behind_other x n account number h = grind (arith, nat_tests)

other_behind : (x n account number : ℕ) → is_less_key (x ∷ n ∷ []) (account ∷ number ∷ []) ≡ false → (x == account && n == number) ≡ false → is_less_key (account ∷ number ∷ []) (x ∷ n ∷ []) ≡ true
other_behind x n account number h k = grind (arith, nat_tests)

none_found : {A : Type 0} (test : A → Bool) (rows : List A) → Each (λ r. test r ≡ false) rows → find test rows ≡ None
none_found test [] h = refl
none_found test (r ∷ rows) h = cond-false (test r) _ _ h.0 ∙ none_found test rows h.1

module _ {A : Type 0} (owner number : A → ℕ) (account wanted : ℕ) where
  abbrev is_wanted : A → Bool
  is_wanted r = owner r == account && number r == wanted

  behind : (rows : List A) (place : ℕ) → IsPlace (own_key owner number) (account ∷ wanted ∷ []) rows (suc place) → (r : A) (more : List A) → rows ≡ r ∷ more → IsPlace (own_key owner number) (account ∷ wanted ∷ []) more place
  behind rows place h r more is = record {
    before = λ k d low. subst (λ (l : List A). is_less_key (own_key owner number (get_or l (suc k) d)) (account ∷ wanted ∷ []) ≡ true) is (h.before (suc k) d (omega (arith, low)));
    from = λ k d low high. subst (λ (l : List A). is_less_key (own_key owner number (get_or l (suc k) d)) (account ∷ wanted ∷ []) ≡ false) is (h.from (suc k) d (omega (arith, low)) (omega (arith, ap length is, high)));
  }

  -- the row at the place is the wanted one
  pub found_at : (rows : List A) (place : ℕ) (row : A) → IsPlace (own_key owner number) (account ∷ wanted ∷ []) rows place → place < length rows → row ≡ get_or rows place row → is_wanted row ≡ true
      → find is_wanted rows ≡ Some row
  found_at [] place row h low is t = absurd (omega (arith, low))
  found_at (r ∷ rows) zero row h low is t = ap (λ (x : A). find is_wanted (x ∷ rows)) (sym is) ∙ cond-true (is_wanted row) _ _ t
  found_at (r ∷ rows) (suc place) row h low is t =
      cond-false (is_wanted r) _ _ (before_other (owner r) (number r) account wanted (h.before 0 row (omega arith)))
      ∙ found_at rows place row (behind (r ∷ rows) place h r rows refl) (omega (arith, low)) is t

  -- the row at the place is another, or there is none
  pub found_nowhere : (rows : List A) (place : ℕ) → Ordered (own_key owner number) rows → IsPlace (own_key owner number) (account ∷ wanted ∷ []) rows place
      → ((d : A) → place < length rows → is_wanted (get_or rows place d) ≡ false) → find is_wanted rows ≡ None
  found_nowhere [] place order h other = refl
  found_nowhere (r ∷ rows) zero order h other =
      let t = other r (omega arith) in
      let less = other_behind (owner r) (number r) account wanted (h.from 0 r (omega arith) (omega arith)) t in
      cond-false (is_wanted r) _ _ t
      ∙ none_found is_wanted rows (Each-mono (λ s. is_less_key (own_key owner number r) (own_key owner number s) ≡ true) (λ s. is_wanted s ≡ false) rows
      (λ s k. behind_other (owner s) (number s) account wanted (less-trans (account ∷ wanted ∷ []) (own_key owner number r) (own_key owner number s) less k)) order.0)
  found_nowhere (r ∷ rows) (suc place) order h other =
      cond-false (is_wanted r) _ _ (before_other (owner r) (number r) account wanted (h.before 0 r (omega arith)))
      ∙ found_nowhere rows place order.1 (behind (r ∷ rows) place h r rows refl) (λ d low. other d (omega (arith, low)))

-- the parts of a slice that these are
pub own_part : {A : Type 0} (rows own : List A) (count number : ℕ) → count ≡ number → (number ≤ length rows) × (drop (length rows - number) rows ≡ own) → take (length rows - (length rows - count)) (drop (length rows - count) rows) ≡ own
own_part rows own count number is h =
    take_all (length rows - (length rows - count)) (drop (length rows - count) rows) (omega (arith, length-drop (length rows - count) rows)) ∙ ap (λ n. drop (length rows - n) rows) is ∙ h.1

pub none_part : {A : Type 0} (rows : List A) → take (length rows - length rows) (drop (length rows) rows) ≡ []
none_part rows = let none : length rows - length rows ≡ 0 = omega arith in ap (λ n. take n (drop (length rows) rows)) none

pub other_account : (x n account number : ℕ) → (x ≡ account → ⊥) → (x == account && n == number) ≡ false
other_account x n account number h = grind (arith, nat_tests)

pub other_number : (x n account number : ℕ) → (n ≡ number → ⊥) → (x == account && n == number) ≡ false
other_number x n account number h = grind (arith, nat_tests)

pub both_same : (x n account number : ℕ) → x ≡ account → n ≡ number → (x == account && n == number) ≡ true
both_same x n account number h k = grind (arith, nat_tests)

pub at_most : (x y : ℕ) → nat_le x y ≡ true → x ≤ y
at_most x y h = grind (arith, nat_tests)
