-- The lines of a batch, whose numbers run on.
use Rattle.std.proofs.Common.{◌≡◌, ℕ, zero, suc, ◌+◌, ◌-◌, ◌<◌, ◌≤◌, Bool, true, false, ◌==◌, ◌&&◌, cond, inl, inr, List, [], ◌∷◌, ◌++◌, filter, find, length, map, is_some, None, Some, refl, sym, ap, subst, ◌∙◌, arith}
use Rattle.std.specs.Prelude.{nat_le}
use Rattle.std.specs.List.{count_by, list_all, range_with_len}
use Rattle.std.proofs.lemmas.Bool.{cases_Bool, cond-true, cond-false, eqb-true}
use Rattle.std.proofs.lemmas.Bool.Decides.{nat_tests}
use Rattle.std.proofs.lemmas.List.{append-nil}
use Rattle.std.proofs.lemmas.List.Elements.{filter-append}
use Rattle.desk_types.specs.declared.rows.Batch.{Batch}
use Rattle.desk_types.specs.declared.rows.Line.{Line}
use Rattle.desk_types.specs.declared.tables.Tables.{Tables}
use Rattle.desk_types.specs.Rules.{first_bad, has_lines_of, line_rules}
use Rattle.desk_types.specs.Sound.{RunFromOne}
use Rattle.desk_types.specs.Tables.{line_of}
use Rattle.desk_types.proofs.Numbering.{length_kept, run_next}
use Rattle.desk_keeper.proofs.FirstBad.{kept_rows}
use Rattle.desk_keeper.proofs.KeptTables.{line_next, numbered_there}

-- the numbers of each account's rows run from 1
abbrev RunByAccount : {A : Type 0} → (A → ℕ) → (A → ℕ) → List A → Type 0
RunByAccount {A} owner number rows = (account : ℕ) → RunFromOne (map number (filter (λ (r : A). owner r == account) rows))

run_more : {A : Type 0} (owner number : A → ℕ) (before : List A) (row : A) → RunByAccount owner number before → (number row == count_by (λ k. owner k == owner row) before + 1) ≡ true → RunByAccount owner number (before ++ row ∷ [])
run_more {A} owner number before row run next account =
    let own : A → Bool = λ r. owner r == account in
    let whole = filter-append own before (row ∷ []) in
    elim (cases_Bool (own row)) [
      | inl t ↦
          let count : number row ≡ length (filter own before) + 1 =
          eqb-true (number row) (count_by (λ k. owner k == owner row) before + 1) next ∙ ap (λ n. count_by (λ (k : A). owner k == n) before + 1) (eqb-true (owner row) account t) ∙ ap (λ n. n + 1) (sym (length_kept own before)) in
          subst (λ (l : List A). RunFromOne (map number l)) (sym (whole ∙ ap (λ (l : List A). filter own before ++ l) (cond-true (own row) (row ∷ []) [] t))) (run_next number row (filter own before) (run account) count)
      | inr t ↦
          subst (λ (l : List A). RunFromOne (map number l)) (sym (whole ∙ ap (λ (l : List A). filter own before ++ l) (cond-false (own row) (row ∷ []) [] t) ∙ append-nil (filter own before))) (run account)
    ]

lines_run : (T : Tables) → first_bad 4 (line_rules T) [] T.lines ≡ None → RunByAccount (λ (l : Line). l.account) (λ l. l.number) T.lines
lines_run T kept =
    kept_rows (RunByAccount (λ (l : Line). l.account) (λ l. l.number)) 4 (line_rules T) (λ before row run h. run_more (λ (l : Line). l.account) (λ l. l.number) before row run (line_next T before row h)) [] T.lines (λ account. refl) kept

find_own : {A : Type 0} (own test : A → Bool) (rows : List A) → find (λ r. own r && test r) rows ≡ find test (filter own rows)
find_own own test [] = refl
find_own {A} own test (r ∷ rows) =
    elim (cases_Bool (own r)) [
      | inl t ↦ ap (λ b. cond (b && test r) (Some r) (find (λ (s : A). own s && test s) rows)) t ∙ ap (λ found. cond (test r) (Some r) found) (find_own own test rows)
          ∙ sym (ap (find test) (cond-true (own r) (r ∷ filter own rows) (filter own rows) t))
      | inr t ↦ ap (λ b. cond (b && test r) (Some r) (find (λ (s : A). own s && test s) rows)) t ∙ find_own own test rows
          ∙ sym (ap (find test) (cond-false (own r) (r ∷ filter own rows) (filter own rows) t))
    ]

abbrev lines_of : Tables → ℕ → List Line
lines_of T account = filter (λ l. l.account == account) T.lines

-- a line is there where its number is up to how many the account has
line_there : (T : Tables) (account n : ℕ) → first_bad 4 (line_rules T) [] T.lines ≡ None → is_some (line_of T account n) ≡ (nat_le 1 n && nat_le n (length (lines_of T account)))
line_there T account n kept =
    ap is_some (find_own (λ (l : Line). l.account == account) (λ l. l.number == n) T.lines) ∙ numbered_there (λ (l : Line). l.number) (lines_of T account) n (lines_run T kept account)

-- all of a run are there where the first and the last are
abbrev is_up_to : ℕ → ℕ → Bool
is_up_to most n = nat_le 1 n && nat_le n most

one_there : (most first : ℕ) → (is_up_to most first && true) ≡ (is_up_to most first && is_up_to most (first + 0))
one_there most first = grind (arith, nat_tests)

more_there : (most first k : ℕ) → (is_up_to most first && (is_up_to most (first + 1) && is_up_to most (first + 1 + k))) ≡ (is_up_to most first && is_up_to most (first + suc k))
more_there most first k = grind (arith, nat_tests)

all_there : (most first k : ℕ) → list_all (is_up_to most) (range_with_len first (suc k)) ≡ (is_up_to most first && is_up_to most (first + k))
all_there most first zero = one_there most first
all_there most first (suc k) = ap (λ b. is_up_to most first && b) (all_there most (first + 1) k) ∙ more_there most first k

all_same : (p q : ℕ → Bool) (numbers : List ℕ) → ((n : ℕ) → p n ≡ q n) → list_all p numbers ≡ list_all q numbers
all_same p q [] h = refl
all_same p q (n ∷ numbers) h = (λ i. h n i && all_same p q numbers h i)

range_there : (p : ℕ → Bool) (most first count : ℕ) → ((n : ℕ) → p n ≡ is_up_to most n) → 1 ≤ count → list_all p (range_with_len first count) ≡ (p first && p (first + (count - 1)))
range_there p most first zero h some = absurd (omega (arith, some))
range_there p most first (suc k) h some =
    let last : first + k ≡ first + (suc k - 1) = omega arith in
    all_same p (is_up_to most) (range_with_len first (suc k)) h ∙ all_there most first k ∙ (λ i. sym (h first) i && sym (h (first + k)) i) ∙ ap (λ n. p first && p n) last

pub batch_lines : (T : Tables) (b : Batch) → first_bad 4 (line_rules T) [] T.lines ≡ None → 1 ≤ b.count → has_lines_of T b ≡ (is_some (line_of T b.account b.first) && is_some (line_of T b.account (b.first + (b.count - 1))))
batch_lines T b kept some =
    range_there (λ n. is_some (line_of T b.account n)) (length (lines_of T b.account)) b.first b.count (λ n. line_there T b.account n kept) some

few_own : {A : Type 0} (test : A → Bool) (rows : List A) → length (filter test rows) ≤ length rows
few_own test [] = omega arith
few_own test (r ∷ rows) =
    elim (cases_Bool (test r)) [
      | inl t ↦ omega (arith, ap length (cond-true (test r) (r ∷ filter test rows) (filter test rows) t), few_own test rows)
      | inr t ↦ omega (arith, ap length (cond-false (test r) (r ∷ filter test rows) (filter test rows) t), few_own test rows)
    ]

above : (most n len : ℕ) → most ≤ len → len < n → is_up_to most n ≡ false
above most n len h k = grind (arith, nat_tests)

neither : (a b : Bool) → b ≡ false → (a && b) ≡ false
neither true b h = h
neither false b h = refl

-- a line of a number above how many lines there are is not there
pub batch_beyond : (T : Tables) (b : Batch) → first_bad 4 (line_rules T) [] T.lines ≡ None → 1 ≤ b.count → length T.lines < b.first + (b.count - 1) → has_lines_of T b ≡ false
batch_beyond T b kept some high =
    let last = b.first + (b.count - 1) in
    batch_lines T b kept some
    ∙ neither (is_some (line_of T b.account b.first)) (is_some (line_of T b.account last))
    (line_there T b.account last kept ∙ above (length (lines_of T b.account)) last (length T.lines) (few_own (λ (l : Line). l.account == b.account) T.lines) high)

pub not_below : (n most : ℕ) → (n < most → ⊥) → most ≤ n
not_below n most h = grind (arith, h)

-- what two searches for its first and its last line find
pub both_decide : (T : Tables) (b : Batch) (lines : List Line) (last : ℕ) (firstly lastly : Bool) → first_bad 4 (line_rules T) [] T.lines ≡ None → 1 ≤ b.count → lines ≡ T.lines → last ≡ b.first + (b.count - 1)
    → firstly ≡ is_some (find (λ l. l.account == b.account && l.number == b.first) lines) → lastly ≡ is_some (find (λ l. l.account == b.account && l.number == last) lines) → (firstly && lastly) ≡ has_lines_of T b
both_decide T b lines last firstly lastly kept some is end f l =
    let one : firstly ≡ is_some (line_of T b.account b.first) = f ∙ ap (λ (rows : List Line). is_some (find (λ x. x.account == b.account && x.number == b.first) rows)) is in
    let other : lastly ≡ is_some (line_of T b.account (b.first + (b.count - 1))) =
    l ∙ ap (λ (rows : List Line). is_some (find (λ x. x.account == b.account && x.number == last) rows)) is ∙ ap (λ n. is_some (line_of T b.account n)) end in
    (λ i. one i && other i) ∙ sym (batch_lines T b kept some)
