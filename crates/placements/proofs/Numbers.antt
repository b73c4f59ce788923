-- Placements whose numbers run from 1: the one of a number, and the rows with another in its place.
use Rattle.std.proofs.Common.{Bor, ◌≡◌, ℕ, zero, suc, ◌+◌, ◌-◌, ◌<◌, ◌≤◌, ◌==◌, ◌||◌, true, false, inl, inr, List, [], ◌∷◌, length, map, get_or, set, is_none, Option, None, Some, MatchOption, refl, sym, ap, ◌∙◌, arith}
use Rattle.std.specs.Prelude.{nat_lt}
use Rattle.std.specs.List.{range_with_len}
use Rattle.std.specs.Option.{option_copied}
use Rattle.std.proofs.lemmas.Bool.{cases_Bool, cond-true, cond-false, eq-eqb, eqb-true, ne_eqb, or_left, or_right}
use Rattle.std.proofs.lemmas.Bool.Decides.{nat_tests}
use Rattle.std.proofs.lemmas.List.{length-map}
use Rattle.std.proofs.lemmas.Option.{same_Some}
use Rattle.desk_types.specs.declared.rows.Fate.{Fate}
use Rattle.desk_types.specs.declared.rows.Placement.{Placement}
use Rattle.desk_types.specs.Keys.{is_same_key, placement_key}
use Rattle.desk_types.specs.Sound.{RunFromOne}
use Rattle.desk_types.specs.Tables.{has_key, replaced}
use Rattle.desk_types.proofs.Puts.{key_same, put_there, same_key}
use Rattle.placements.specs.Clicks.{fated, found}

-- the numbers of the rows run from this one on
abbrev RunsFrom : ℕ → List Placement → Type 0
RunsFrom n rows = map (λ p. p.number) rows ≡ range_with_len n (length rows)

-- the first number of a run, and the others
head_of : (x n : ℕ) (xs : List ℕ) (len : ℕ) → x ∷ xs ≡ range_with_len n (suc len) → (x ≡ n) × (xs ≡ range_with_len (n + 1) len)
head_of x n xs len e = (cc, cc)

none_before : (rows : List Placement) (n wanted : ℕ) → RunsFrom n rows → wanted < n → found wanted rows ≡ None
none_before [] n wanted run low = refl
none_before (r ∷ rows) n wanted run low =
    let e = head_of r.number n (map (λ p. p.number) rows) (length rows) run in
    cond-false _ _ _ (ne_eqb r.number wanted (λ is. omega (arith, e.0, is, low))) ∙ none_before rows (n + 1) wanted e.1 (omega (arith, low))

none_behind : (rows : List Placement) (n wanted : ℕ) → RunsFrom n rows → n + length rows ≤ wanted → found wanted rows ≡ None
none_behind [] n wanted run high = refl
none_behind (r ∷ rows) n wanted run high =
    let e = head_of r.number n (map (λ p. p.number) rows) (length rows) run in
    cond-false _ _ _ (ne_eqb r.number wanted (λ is. omega (arith, e.0, is, high))) ∙ none_behind rows (n + 1) wanted e.1 (omega (arith, high))

found_at : (rows : List Placement) (n i : ℕ) (d : Placement) → RunsFrom n rows → i < length rows → found (n + i) rows ≡ Some (get_or rows i d)
found_at [] n i d run low = absurd (omega (arith, low))
found_at (r ∷ rows) n zero d run low =
    let e = head_of r.number n (map (λ p. p.number) rows) (length rows) run in
    cond-true _ _ _ (eq-eqb r.number (n + 0) (omega (arith, e.0)))
found_at (r ∷ rows) n (suc i) d run low =
    let e = head_of r.number n (map (λ p. p.number) rows) (length rows) run in
    let same : n + suc i ≡ n + 1 + i = omega arith in
    cond-false _ _ _ (ne_eqb r.number (n + suc i) (λ is. omega (arith, e.0, is)))
    ∙ ap (λ m. found m rows) same
    ∙ found_at rows (n + 1) i d e.1 (omega (arith, low))

pub run_of : (rows : List Placement) → RunFromOne (map (λ p. p.number) rows) → map (λ p. p.number) rows ≡ range_with_len 1 (length rows)
run_of rows run = run ∙ ap (range_with_len 1) (length-map rows (λ (p : Placement). p.number))

-- the placement of a number that is there
pub found_there : (rows : List Placement) (number : ℕ) (p : Placement) → RunFromOne (map (λ p. p.number) rows) → 0 < number → number ≤ length rows → p ≡ get_or rows (number - 1) p → found number rows ≡ Some p
found_there rows number p run some within at =
    let same : number ≡ 1 + (number - 1) = omega arith in
    ap (λ m. found m rows) same ∙ found_at rows 1 (number - 1) p (run_of rows run) (omega arith) ∙ ap Some (sym at)

pub none_there : (rows : List Placement) (number : ℕ) → RunFromOne (map (λ p. p.number) rows) → (0 < number → length rows < number) → found number rows ≡ None
none_there rows zero run out = none_before rows 1 zero (run_of rows run) (omega arith)
none_there rows (suc i) run out = let high : length rows < suc i = out (omega arith) in none_behind rows 1 (suc i) (run_of rows run) (omega arith)

-- a reference to the row of a number is to the placement of that number
pub copied : (rows : List Placement) (number : ℕ) (o : Option (Bor Placement)) → RunFromOne (map (λ p. p.number) rows)
    → MatchOption o (0 < number → length rows < number) (λ row. (0 < number) × (number ≤ length rows) × (row.now ≡ get_or rows (number - 1) row.now)) → option_copied o ≡ found number rows
copied rows number (Some row) run h = sym (found_there rows number row.now run h.0 h.1 h.2)
copied rows number None run h = sym (none_there rows number run h)

pub none_copied : (rows : List Placement) (number : ℕ) (o : Option (Bor Placement))
    → MatchOption o (0 < number → length rows < number) (λ row. (0 < number) × (number ≤ length rows) × (row.now ≡ get_or rows (number - 1) row.now)) → is_none o ≡ (number == 0 || nat_lt (length rows) number)
none_copied rows number (Some row) h = let some : 0 < number = h.0 in let within : number ≤ length rows = h.1 in grind (arith, nat_tests)
none_copied rows zero None h = refl
none_copied rows (suc i) None h = let high : length rows < suc i = h (omega arith) in grind (arith, nat_tests)

-- the row that is put by its number stands in its place
one_part : (m n : ℕ) → m ∷ [] ≡ n ∷ [] → m ≡ n
one_part m n e = cc

not_same : (p q : Placement) → (p.number ≡ q.number → ⊥) → is_same_key (placement_key p) (placement_key q) ≡ false
not_same p q apart =
    elim (cases_Bool (is_same_key (placement_key p) (placement_key q))) [
      | inl t ↦ absurd (apart (one_part p.number q.number (same_key (placement_key p) (placement_key q) t)))
      | inr t ↦ t
    ]

is_same : (p q : Placement) → p.number ≡ q.number → is_same_key (placement_key p) (placement_key q) ≡ true
is_same p q e = key_same (placement_key p) (placement_key q) (ap (λ n. n ∷ []) e)

has_at : (rows : List Placement) (n i : ℕ) (q : Placement) → RunsFrom n rows → q.number ≡ n + i → i < length rows → has_key placement_key (placement_key q) rows ≡ true
has_at [] n i q run is low = absurd (omega (arith, low))
has_at (r ∷ rows) n zero q run is low =
    let e = head_of r.number n (map (λ p. p.number) rows) (length rows) run in
    or_left (is_same_key (placement_key r) (placement_key q)) (has_key placement_key (placement_key q) rows) (is_same r q (omega (arith, e.0, is)))
has_at (r ∷ rows) n (suc i) q run is low =
    let e = head_of r.number n (map (λ p. p.number) rows) (length rows) run in
    or_right (is_same_key (placement_key r) (placement_key q)) (has_key placement_key (placement_key q) rows) (has_at rows (n + 1) i q e.1 (omega (arith, is)) (omega (arith, low)))

replaced_at : (rows : List Placement) (n i : ℕ) (q : Placement) → RunsFrom n rows → q.number ≡ n + i → i < length rows → replaced placement_key q rows ≡ set rows i q
replaced_at [] n i q run is low = absurd (omega (arith, low))
replaced_at (r ∷ rows) n zero q run is low =
    let e = head_of r.number n (map (λ p. p.number) rows) (length rows) run in
    cond-true _ (q ∷ rows) (r ∷ replaced placement_key q rows) (is_same r q (omega (arith, e.0, is)))
replaced_at (r ∷ rows) n (suc i) q run is low =
    let e = head_of r.number n (map (λ p. p.number) rows) (length rows) run in
    cond-false _ (q ∷ rows) (r ∷ replaced placement_key q rows) (not_same r q (λ same. omega (arith, e.0, is, same)))
    ∙ ap (λ l. r ∷ l) (replaced_at rows (n + 1) i q e.1 (omega (arith, is)) (omega (arith, low)))

-- the placement that is found has the number
some_none : (p : Placement) → None ≡ Some p → ⊥
some_none p e = cc

pub number_found : (rows : List Placement) (number : ℕ) (p : Placement) → found number rows ≡ Some p → p.number ≡ number
number_found [] number p is = absurd (some_none p is)
number_found (r ∷ rows) number p is =
    elim (cases_Bool (r.number == number)) [
      | inl t ↦ ap (λ (q : Placement). q.number) (same_Some p r (sym is ∙ cond-true _ (Some r) (found number rows) t)) ∙ eqb-true r.number number t
      | inr t ↦ number_found rows number p (sym (cond-false _ (Some r) (found number rows) t) ∙ is)
    ]

-- the rows with a fate of the placement of a number that is there
pub fated_there : (rows : List Placement) (number : ℕ) (p : Placement) (fate : Fate) → RunFromOne (map (λ p. p.number) rows) → 0 < number → number ≤ length rows → p ≡ get_or rows (number - 1) p
    → fated fate (found number rows) rows ≡ set rows (number - 1) (record p { fate = fate })
fated_there rows number p fate run some within at =
    let q : Placement = record p { fate = fate } in
    let is = found_there rows number p run some within at in
    let own : p.number ≡ 1 + (number - 1) = omega (arith, number_found rows number p is, some) in
    let low : number - 1 < length rows = omega arith in
    ap (λ o. fated fate o rows) is
    ∙ put_there placement_key q rows (has_at rows 1 (number - 1) q (run_of rows run) own low)
    ∙ replaced_at rows 1 (number - 1) q (run_of rows run) own low

-- the number at a place
runs_at : (rows : List Placement) (n i : ℕ) (d : Placement) → RunsFrom n rows → i < length rows → (get_or rows i d).number ≡ n + i
runs_at [] n i d run low = absurd (omega (arith, low))
runs_at (r ∷ rows) n zero d run low = omega (arith, (head_of r.number n (map (λ p. p.number) rows) (length rows) run).0)
runs_at (r ∷ rows) n (suc i) d run low = omega (arith, runs_at rows (n + 1) i d (head_of r.number n (map (λ p. p.number) rows) (length rows) run).1 (omega (arith, low)))

pub number_at : (rows : List Placement) (k : ℕ) (d : Placement) → RunFromOne (map (λ p. p.number) rows) → k < length rows → (get_or rows k d).number ≡ k + 1
number_at rows k d run low = omega (arith, runs_at rows 1 k d (run_of rows run) low)
