-- The first bad row of a table, and what is known of rows none of which is bad.
use Rattle.std.proofs.Common.{◌≡◌, ℕ, ◌+◌, ◌<◌, List, [], ◌∷◌, ◌++◌, length, get_or, take, drop, append_assoc, Option, None, Some, refl, sym, ap, subst, ◌∙◌, arith}
use Rattle.std.proofs.lemmas.List.{append-nil, length-take-le, take_more, take-append-drop, drop_more}
use Rattle.desk_types.specs.declared.tables.BadTables.{BadTables}
use Rattle.desk_types.specs.Rules.{Rule, bad_or, first_bad, first_broken}

none_some : {A : Type 0} (x : A) → Some x ≡ None → ⊥
none_some x h = cc

none_of : (table row : ℕ) (found : Option ℕ) (later : Option BadTables) → bad_or table row found later ≡ None → (found ≡ None) × (later ≡ None)
none_of table row (Some rule) later h = absurd (none_some _ h)
none_of table row None later h = (refl, h)

-- what holds of no rows, and of one more row where it holds of those before it and the row keeps its rules, holds of rows none of which is bad
pub kept_rows : {A : Type 0} (P : List A → Type 0) (table : ℕ) (rules : List A → A → List Rule) → ((before : List A) (row : A) → P before → first_broken (rules before row) ≡ None → P (before ++ row ∷ []))
    → (before rows : List A) → P before → first_bad table rules before rows ≡ None → P (before ++ rows)
unfolding first_bad
kept_rows P table rules step before [] h kept = subst P (sym (append-nil before)) h
kept_rows P table rules step before (row ∷ rows) h kept =
    let parts = none_of table (length before + 1) (first_broken (rules before row)) (first_bad table rules (before ++ row ∷ []) rows) kept in
    subst P (append_assoc before (row ∷ []) rows) (kept_rows P table rules step (before ++ row ∷ []) rows (step before row h parts.0) parts.1)

-- what stands behind rows none of which is bad
pub first_bad-behind : {A : Type 0} (table : ℕ) (rules : List A → A → List Rule) (before rows more : List A) → first_bad table rules before rows ≡ None
    → first_bad table rules before (rows ++ more) ≡ first_bad table rules (before ++ rows) more
unfolding first_bad
first_bad-behind table rules before [] more kept = ap (λ l. first_bad table rules l more) (sym (append-nil before))
first_bad-behind table rules before (row ∷ rows) more kept =
    let parts = none_of table (length before + 1) (first_broken (rules before row)) (first_bad table rules (before ++ row ∷ []) rows) kept in
    ap (λ found. bad_or table (length before + 1) found (first_bad table rules (before ++ row ∷ []) (rows ++ more))) parts.0
    ∙ first_bad-behind table rules (before ++ row ∷ []) rows more parts.1
    ∙ ap (λ l. first_bad table rules l more) (append_assoc before (row ∷ []) rows)

-- no row of the front is bad, and the next one is not
pub kept_more : {A : Type 0} (table : ℕ) (rules : List A → A → List Rule) (rows : List A) (i : ℕ) (row d : A) → i < length rows → row ≡ get_or rows i d → first_bad table rules [] (take i rows) ≡ None
    → first_broken (rules (take i rows) row) ≡ None → first_bad table rules [] (take (i + 1) rows) ≡ None
unfolding first_bad
kept_more {A} table rules rows i row d low is kept next =
    let longer : take (i + 1) rows ≡ take i rows ++ row ∷ [] = take_more rows i d low ∙ ap (λ (r : A). take i rows ++ r ∷ []) (sym is) in
    ap (first_bad table rules []) longer ∙ first_bad-behind table rules [] (take i rows) (row ∷ []) kept
    ∙ ap (λ found. bad_or table (length (take i rows) + 1) found None) next

-- no row of the front is bad, and the next one breaks a rule
pub bad_at : {A : Type 0} (table : ℕ) (rules : List A → A → List Rule) (rows : List A) (i : ℕ) (row d : A) (rule : ℕ) → i < length rows → row ≡ get_or rows i d → first_bad table rules [] (take i rows) ≡ None
    → first_broken (rules (take i rows) row) ≡ Some rule → first_bad table rules [] rows ≡ Some (record { rule = rule; table = table; row = i + 1 })
unfolding first_bad
bad_at {A} table rules rows i row d rule low is kept next =
    let rest : drop i rows ≡ row ∷ drop (i + 1) rows = drop_more rows i d low ∙ ap (λ (r : A). r ∷ drop (i + 1) rows) (sym is) in
    let bad : ℕ → Option BadTables = λ n. Some (record { rule = rule; table = table; row = n }) in
    ap (first_bad table rules []) (sym (take-append-drop i rows)) ∙ first_bad-behind table rules [] (take i rows) (drop i rows) kept
    ∙ ap (first_bad table rules (take i rows)) rest
    ∙ ap (λ found. bad_or table (length (take i rows) + 1) found (first_bad table rules (take i rows ++ row ∷ []) (drop (i + 1) rows))) next
    ∙ ap (λ n. bad (n + 1)) (omega (arith, length-take-le i rows, low))

-- the last row keeps its rules
last_of : {A : Type 0} (table : ℕ) (rules : List A → A → List Rule) (before rest : List A) (last : A) → first_bad table rules before (rest ++ last ∷ []) ≡ None → first_broken (rules (before ++ rest) last) ≡ None
unfolding first_bad
last_of table rules before [] last kept =
    subst (λ l. first_broken (rules l last) ≡ None) (sym (append-nil before)) (none_of table (length before + 1) (first_broken (rules before last)) None kept).0
last_of table rules before (row ∷ rest) last kept =
    let parts = none_of table (length before + 1) (first_broken (rules before row)) (first_bad table rules (before ++ row ∷ []) (rest ++ last ∷ [])) kept in
    subst (λ l. first_broken (rules l last) ≡ None) (append_assoc before (row ∷ []) rest) (last_of table rules (before ++ row ∷ []) rest last parts.1)

pub kept_last : {A : Type 0} (table : ℕ) (rules : List A → A → List Rule) (rest : List A) (last : A) → first_bad table rules [] (rest ++ last ∷ []) ≡ None → first_broken (rules rest last) ≡ None
kept_last table rules rest last kept = last_of table rules [] rest last kept

-- the front with the next row
pub one_more : {A : Type 0} (rows : List A) (i : ℕ) (row : A) → i < length rows → row ≡ get_or rows i row → take (i + 1) rows ≡ take i rows ++ row ∷ []
one_more {A} rows i row low is = take_more rows i row low ∙ ap (λ (r : A). take i rows ++ r ∷ []) (sym is)
