-- The last of the rows before one.
use Rattle.std.proofs.Common.{◌≡◌, ℕ, ◌+◌, ◌<◌, Bool, true, false, ◌||◌, cond, inl, inr, List, [], ◌∷◌, ◌++◌, length, get_or, take, refl, sym, ap, ◌∙◌, arith}
use Rattle.std.specs.Prelude.{nat_le}
use Rattle.std.specs.List.{list_any}
use Rattle.std.proofs.lemmas.Bool.{cases_Bool}
use Rattle.std.proofs.lemmas.Bool.Decides.{nat_tests}
use Rattle.std.proofs.lemmas.List.{take_more}
use Rattle.desk_types.specs.Keys.{is_less_key}
use Rattle.desk_types.specs.Rules.{is_in_order, last_passes}
use Rattle.desk_keeper.specs.OwnRows.{own_key}

-- the test is that of the last row
pub last_passes-last : {A : Type 0} (test : A → Bool) (rows : List A) (row : A) → last_passes test (rows ++ row ∷ []) ≡ test row
last_passes-last test [] row = refl
last_passes-last test (r ∷ []) row = refl
last_passes-last test (r ∷ next ∷ rows) row = last_passes-last test (next ∷ rows) row

pub last_is : {A : Type 0} (test : A → Bool) (before rest : List A) (row : A) → before ≡ rest ++ row ∷ [] → last_passes test before ≡ test row
last_is test before rest row is = ap (last_passes test) is ∙ last_passes-last test rest row

-- a weaker test
pub last_passes-weaker : {A : Type 0} (test other : A → Bool) (rows : List A) → ((row : A) → test row ≡ true → other row ≡ true) → last_passes test rows ≡ true → last_passes other rows ≡ true
last_passes-weaker test other [] f h = refl
last_passes-weaker test other (r ∷ []) f h = f r h
last_passes-weaker test other (r ∷ next ∷ rows) f h = last_passes-weaker test other (next ∷ rows) f h

owner_up_to : (x n y m : ℕ) → is_less_key (x ∷ n ∷ []) (y ∷ m ∷ []) ≡ true → nat_le x y ≡ true
owner_up_to x n y m h = grind (arith, nat_tests)

-- behind a row that stands in order, no account is greater
pub owners_up_to : {A : Type 0} (owner number : A → ℕ) (before : List A) (row : A) → is_in_order (own_key owner number) before row ≡ true → last_passes (λ r. nat_le (owner r) (owner row)) before ≡ true
owners_up_to owner number before row h =
    last_passes-weaker (λ r. is_less_key (own_key owner number r) (own_key owner number row)) (λ r. nat_le (owner r) (owner row)) before (λ r less. owner_up_to (owner r) (number r) (owner row) (number row) less) h

-- whether one of the rows up to the next passes
any_last : {A : Type 0} (test : A → Bool) (rows : List A) (row : A) → list_any test (rows ++ row ∷ []) ≡ (list_any test rows || test row)
any_last test [] row = elim (cases_Bool (test row)) [ inl t ↦ (λ i. t i || false) ∙ sym t | inr t ↦ (λ i. t i || false) ∙ sym t ]
any_last test (r ∷ rows) row = ap (λ b. test r || b) (any_last test rows row) ∙ regrouped (test r) (list_any test rows) (test row)
  where
    regrouped : (a b c : Bool) → (a || (b || c)) ≡ ((a || b) || c)
    regrouped true b c = refl
    regrouped false b c = refl

pub any_more : {A : Type 0} (test : A → Bool) (rows : List A) (i : ℕ) (d : A) → i < length rows → list_any test (take (i + 1) rows) ≡ (list_any test (take i rows) || test (get_or rows i d))
any_more test rows i d low = ap (list_any test) (take_more rows i d low) ∙ any_last test (take i rows) (get_or rows i d)

pub either_way : (a b : Bool) → cond a true b ≡ (b || a)
either_way true true = refl
either_way true false = refl
either_way false true = refl
either_way false false = refl
