-- The budget of a campaign on a day, found by halving.
use Rattle.std.proofs.Common.{◌≡◌, ℕ, zero, suc, ◌+◌, Bool, true, false, not, ◌==◌, ◌&&◌, ◌||◌, List, [], ◌∷◌, ◌++◌, find, take, drop, Option, None, Some, option_map, unwrap_or, append_assoc, inl, inr, refl, sym, ap, subst, ◌∙◌, arith}
use Rattle.std.specs.Prelude.{nat_le, nat_lt}
use Rattle.std.specs.List.{list_any}
use Rattle.std.proofs.lemmas.Bool.{cases_Bool, cond-true, cond-false}
use Rattle.std.proofs.lemmas.Bool.Decides.{nat_tests}
use Rattle.std.proofs.lemmas.List.{take-append-drop}
use Rattle.desk_types.specs.declared.rows.BudgetSet.{BudgetSet}
use Rattle.desk_types.specs.Day.{day_of}
use Rattle.desk_types.specs.Keys.{budget_key, is_less_key}
use Rattle.desk_types.specs.Money.{budget_in, is_latest, is_set_by}
use Rattle.desk_types.specs.Sound.{AreInOrder}
use Rattle.desk_types.proofs.EachRow.{Each, Each-append, Each-mono, find-none}
use Rattle.desk_types.proofs.InOrder.{Each-from_All, Ordered-from}
use Rattle.desk_types.proofs.Places.{IsPlace}
use Rattle.desk_types.proofs.Puts.{Ordered}

-- the rows before the place have lesser keys, and the others have none
parts : {A : Type 0} (key : A → List ℕ) (wanted : List ℕ) (rows : List A) (place : ℕ) → IsPlace key wanted rows place
    → Each (λ r. is_less_key (key r) wanted ≡ true) (take place rows) × Each (λ r. is_less_key (key r) wanted ≡ false) (drop place rows)
parts key wanted [] zero h = (tt, tt)
parts key wanted [] (suc place) h = (tt, tt)
parts key wanted (r ∷ rows) zero h = (tt, Each-from_All (λ s. is_less_key (key s) wanted ≡ false) (r ∷ rows) (λ k d low. h.from k d (omega arith) low))
parts key wanted (r ∷ rows) (suc place) h =
    let behind : IsPlace key wanted rows place = record {
      before = λ k d low. h.before (suc k) d (omega (arith, low));
      from = λ k d low high. h.from (suc k) d (omega (arith, low)) (omega (arith, high));
    } in
    let rest = parts key wanted rows place behind in
    ((h.before 0 r (omega arith), rest.0), rest.1)

-- the rows before one have lesser keys
lesser : {A : Type 0} (key : A → List ℕ) (front : List A) (row : A) (back : List A) → Ordered key (front ++ row ∷ back) → Each (λ r. is_less_key (key r) (key row) ≡ true) front
lesser key [] row back order = tt
lesser {A} key (r ∷ front) row back order = (there (λ s. is_less_key (key r) (key s) ≡ true) front row back order.0, lesser key front row back order.1)
  where
    there : {A : Type 0} (P : A → Type 0) (front : List A) (row : A) (back : List A) → Each P (front ++ row ∷ back) → P row
    there P [] row back h = h.0
    there P (s ∷ front) row back h = there P front row back h.1

find_first : {A : Type 0} (test : A → Bool) (front : List A) (row : A) (back : List A) → Each (λ r. test r ≡ false) front → test row ≡ true → find test (front ++ row ∷ back) ≡ Some row
find_first test [] row back h t = cond-true (test row) (Some row) (find test back) t
find_first test (r ∷ front) row back h t = cond-false (test r) (Some r) (find test (front ++ row ∷ back)) h.0 ∙ find_first test front row back h.1 t

any_there : {A : Type 0} (test : A → Bool) (front : List A) (row : A) (back : List A) → test row ≡ true → list_any test (front ++ row ∷ back) ≡ true
any_there test [] row back t = ap (λ b. b || list_any test back) t
any_there test (r ∷ front) row back t = or_true (test r) (list_any test (front ++ row ∷ back)) (any_there test front row back t)
  where
    or_true : (b c : Bool) → c ≡ true → (b || c) ≡ true
    or_true true c h = refl
    or_true false c h = h

none_passes : {A : Type 0} (test : A → Bool) (rows : List A) → Each (λ r. test r ≡ false) rows → list_any test rows ≡ false
none_passes test [] h = refl
none_passes test (r ∷ rows) h = ap (λ b. b || list_any test rows) h.0 ∙ none_passes test rows h.1

-- numbers and tests of keys: a setting of a campaign and a day, the wanted ones, and those of the row at hand
not_later : (x y z a c w d : ℕ) → is_less_key (x ∷ y ∷ z ∷ []) (a ∷ c ∷ w ∷ []) ≡ true → ((x == a && (y == c && nat_le z d)) && nat_lt w z) ≡ false
not_later x y z a c w d h = grind (arith, nat_tests)

is_later : (x y z a c w d : ℕ) → is_less_key (x ∷ y ∷ z ∷ []) (a ∷ c ∷ w ∷ []) ≡ true → (x == a && (y == c && nat_le z d)) ≡ true → nat_lt z w ≡ true
is_later x y z a c w d h k = grind (arith, nat_tests)

set_here : (z a c d : ℕ) → is_less_key (a ∷ c ∷ z ∷ []) (a ∷ c ∷ (d + 1) ∷ []) ≡ true → (a == a && (c == c && nat_le z d)) ≡ true
set_here z a c d h = grind (arith, nat_tests)

set_behind : (x y z a c d : ℕ) → is_less_key (x ∷ y ∷ z ∷ []) (a ∷ c ∷ (d + 1) ∷ []) ≡ false → (x == a && (y == c && nat_le z d)) ≡ false
set_behind x y z a c d h = grind (arith, nat_tests)

set_before : (x y z u v w a c d : ℕ) → is_less_key (x ∷ y ∷ z ∷ []) (u ∷ v ∷ w ∷ []) ≡ true → is_less_key (u ∷ v ∷ w ∷ []) (a ∷ c ∷ (d + 1) ∷ []) ≡ true → (u == a && v == c) ≡ false
    → (x == a && (y == c && nat_le z d)) ≡ false
set_before x y z u v w a c d h k t = grind (arith, nat_tests)

set_other : (u v w a c d : ℕ) → (u == a && v == c) ≡ false → (u == a && (v == c && nat_le w d)) ≡ false
set_other u v w a c d t = grind (arith, nat_tests)

not_itself : (w : ℕ) → nat_lt w w ≡ false
not_itself w = grind (arith, nat_tests)

and_false : (x y : Bool) → y ≡ false → (x && y) ≡ false
and_false true y h = h
and_false false y h = refl

and_true : (x y : Bool) → x ≡ true → y ≡ true → (x && y) ≡ true
and_true x y h k = ap (λ b. b && y) h ∙ k

module _ (account campaign day : ℕ) where
  abbrev wanted : List ℕ
  wanted = account ∷ campaign ∷ (day + 1) ∷ []

  abbrev is_set : BudgetSet → Bool
  is_set b = is_set_by account campaign day b

  abbrev is_it : List BudgetSet → BudgetSet → Bool
  is_it rows b = is_set b && is_latest rows account campaign day b

  -- the amount of what is found
  abbrev amount_of : Option BudgetSet → ℕ
  amount_of found = unwrap_or (option_map (λ (b : BudgetSet). b.amount) found) 0

  behind_unset : (rows : List BudgetSet) → Each (λ b. is_less_key (budget_key b) wanted ≡ false) rows → Each (λ b. is_set b ≡ false) rows
  behind_unset rows h = Each-mono (λ b. is_less_key (budget_key b) wanted ≡ false) (λ b. is_set b ≡ false) rows (λ b k. set_behind b.account b.campaign (day_of b.at) account campaign day k) h

  unset_none : (all rows : List BudgetSet) → Each (λ b. is_set b ≡ false) rows → find (is_it all) rows ≡ None
  unset_none all rows h = find-none (is_it all) rows (Each-mono (λ b. is_set b ≡ false) (λ b. is_it all b ≡ false) rows (λ b k. ap (λ t. t && is_latest all account campaign day b) k) h)

  -- the last row that stands up to the day is of the campaign
  found_it : (front : List BudgetSet) (row : BudgetSet) (back : List BudgetSet) → Ordered budget_key (front ++ row ∷ back) → is_less_key (budget_key row) wanted ≡ true
      → Each (λ b. is_less_key (budget_key b) wanted ≡ false) back → row.account ≡ account → row.campaign ≡ campaign → find (is_it (front ++ row ∷ back)) (front ++ row ∷ back) ≡ Some row
  found_it front row back order low high same own =
      let all = front ++ row ∷ back in
      let before = lesser budget_key front row back order in
      let key : is_less_key (account ∷ campaign ∷ day_of row.at ∷ []) wanted ≡ true = subst (λ n. is_less_key (n ∷ campaign ∷ day_of row.at ∷ []) wanted ≡ true) same (subst (λ n. is_less_key (row.account ∷ n ∷ day_of row.at ∷ []) wanted ≡ true) own low) in
      let here : is_set row ≡ true = (λ i. same i == account && (own i == campaign && nat_le (day_of row.at) day)) ∙ set_here (day_of row.at) account campaign day key in
      let less : (b : BudgetSet) → is_less_key (budget_key b) (budget_key row) ≡ true → is_less_key (budget_key b) (account ∷ campaign ∷ day_of row.at ∷ []) ≡ true =
      λ b k. subst (λ n. is_less_key (budget_key b) (n ∷ campaign ∷ day_of row.at ∷ []) ≡ true) same (subst (λ n. is_less_key (budget_key b) (row.account ∷ n ∷ day_of row.at ∷ []) ≡ true) own k) in
      let replaces : BudgetSet → BudgetSet → Bool = λ b other. is_set other && nat_lt (day_of b.at) (day_of other.at) in
      let earlier : Each (λ b. is_it all b ≡ false) front =
      Each-mono (λ b. is_less_key (budget_key b) (budget_key row) ≡ true) (λ b. is_it all b ≡ false) front
      (λ b k. elim (cases_Bool (is_set b)) [
        | inl t ↦
            and_false (is_set b) (is_latest all account campaign day b)
            (ap not (any_there (replaces b) front row back (and_true (is_set row) (nat_lt (day_of b.at) (day_of row.at)) here (is_later b.account b.campaign (day_of b.at) account campaign (day_of row.at) day (less b k) t))))
        | inr t ↦ ap (λ s. s && is_latest all account campaign day b) t
      ]) before in
      let none_later : list_any (replaces row) all ≡ false =
      none_passes (replaces row) all
      (Each-append (λ b. replaces row b ≡ false) front (row ∷ back)
      (Each-mono (λ b. is_less_key (budget_key b) (budget_key row) ≡ true) (λ b. replaces row b ≡ false) front (λ b k. not_later b.account b.campaign (day_of b.at) account campaign (day_of row.at) day (less b k)) before) (
        and_false (is_set row) (nat_lt (day_of row.at) (day_of row.at)) (not_itself (day_of row.at)),
        Each-mono (λ b. is_set b ≡ false) (λ b. replaces row b ≡ false) back (λ b k. ap (λ s. s && nat_lt (day_of row.at) (day_of b.at)) k) (behind_unset back high),
      )) in
      find_first (is_it all) front row back earlier (and_true (is_set row) (is_latest all account campaign day row) here (ap not none_later))

  -- it is not
  found_none : (front : List BudgetSet) (row : BudgetSet) (back : List BudgetSet) → Ordered budget_key (front ++ row ∷ back) → is_less_key (budget_key row) wanted ≡ true
      → Each (λ b. is_less_key (budget_key b) wanted ≡ false) back → (row.account == account && row.campaign == campaign) ≡ false → find (is_it (front ++ row ∷ back)) (front ++ row ∷ back) ≡ None
  found_none front row back order low high other =
      unset_none (front ++ row ∷ back) (front ++ row ∷ back)
      (Each-append (λ b. is_set b ≡ false) front (row ∷ back)
      (Each-mono (λ b. is_less_key (budget_key b) (budget_key row) ≡ true) (λ b. is_set b ≡ false) front
      (λ b k. set_before b.account b.campaign (day_of b.at) row.account row.campaign (day_of row.at) account campaign day k low other) (lesser budget_key front row back order))
      (set_other row.account row.campaign (day_of row.at) account campaign day other, behind_unset back high))

  last_of : {A : Type 0} (P : A → Type 0) (front : List A) (row : A) → Each P (front ++ row ∷ []) → P row
  last_of P [] row h = h.0
  last_of P (r ∷ front) row h = last_of P front row h.1

  whole : (rows front : List BudgetSet) (row : BudgetSet) (place : ℕ) → take place rows ≡ front ++ row ∷ [] → rows ≡ front ++ row ∷ drop place rows
  whole rows front row place is = sym (take-append-drop place rows) ∙ ap (λ l. l ++ drop place rows) is ∙ append_assoc front (row ∷ []) (drop place rows)

  pub budget_there : (rows front : List BudgetSet) (row : BudgetSet) (place : ℕ) → AreInOrder budget_key rows → IsPlace budget_key wanted rows place → take place rows ≡ front ++ row ∷ []
      → row.account ≡ account → row.campaign ≡ campaign → row.amount ≡ budget_in rows account campaign day
  budget_there rows front row place order at is same own =
      let all = whole rows front row place is in
      let halves = parts budget_key wanted rows place at in
      let found = found_it front row (drop place rows) (subst (Ordered budget_key) all (Ordered-from budget_key rows order))
      (last_of (λ b. is_less_key (budget_key b) wanted ≡ true) front row (subst (Each (λ b. is_less_key (budget_key b) wanted ≡ true)) is halves.0)) halves.1 same own in
      sym (ap amount_of (ap (λ l. find (is_it l) l) all ∙ found))

  pub budget_other : (rows front : List BudgetSet) (row : BudgetSet) (place : ℕ) → AreInOrder budget_key rows → IsPlace budget_key wanted rows place → take place rows ≡ front ++ row ∷ []
      → (row.account == account && row.campaign == campaign) ≡ false → 0 ≡ budget_in rows account campaign day
  budget_other rows front row place order at is other =
      let all = whole rows front row place is in
      let halves = parts budget_key wanted rows place at in
      let found = found_none front row (drop place rows) (subst (Ordered budget_key) all (Ordered-from budget_key rows order))
      (last_of (λ b. is_less_key (budget_key b) wanted ≡ true) front row (subst (Each (λ b. is_less_key (budget_key b) wanted ≡ true)) is halves.0)) halves.1 other in
      sym (ap amount_of (ap (λ l. find (is_it l) l) all ∙ found))

  pub budget_nowhere : (rows : List BudgetSet) (place : ℕ) → IsPlace budget_key wanted rows place → take place rows ≡ [] → 0 ≡ budget_in rows account campaign day
  budget_nowhere rows place at is =
      let halves = parts budget_key wanted rows place at in
      let all : rows ≡ drop place rows = sym (take-append-drop place rows) ∙ ap (λ l. l ++ drop place rows) is in
      sym (ap amount_of (ap (find (is_it rows)) all ∙ unset_none rows (drop place rows) (behind_unset (drop place rows) halves.1)))
