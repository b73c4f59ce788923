-- Lines that an account asks for, one after another, among its rows alone.
use Rattle.std.proofs.Common.{◌≡◌, ℕ, ◌+◌, Bool, true, ◌==◌, cond, inl, inr, List, [], ◌∷◌, filter, refl, sym, ap, subst, ◌∙◌}
use Rattle.std.proofs.lemmas.Bool.{cases_Bool, cond-true, cond-false, eq-eqb, both_ways}
use Rattle.desk_types.specs.declared.rows.Line.{Line}
use Rattle.desk_types.specs.declared.tables.Change.TheVariants.{PutLine}
use Rattle.desk_types.specs.declared.tables.Tables.{Tables}
use Rattle.desk_types.specs.Asked.{AskedLine, line_made, with_line}
use Rattle.desk_types.specs.Keys.{is_less_key, is_same_key, line_key}
use Rattle.desk_types.specs.Own.{rows_of}
use Rattle.desk_types.specs.Tables.{has_key, inserted, put, put_row, replaced}
use Rattle.desk_types.proofs.EachRow.{Each, Each-mono}
use Rattle.desk_types.proofs.Puts.{Ordered, less-trans, put_new, put_there, same_key}
use Rattle.own_rows.proofs.ReadAlone.{lines_own}
use Rattle.own_rows.proofs.Within.{IsWithin, any-within}

-- a row of the account is put in the place of one of the account
filter-replaced : {A : Type 0} (key : A → List ℕ) (row : A) (own : A → Bool) (rows : List A) → own row ≡ true → ((x : A) → is_same_key (key x) (key row) ≡ true → own x ≡ true)
    → filter own (replaced key row rows) ≡ replaced key row (filter own rows)
filter-replaced key row own [] mine alike = refl
filter-replaced key row own (r ∷ rows) mine alike =
    elim (cases_Bool (is_same_key (key r) (key row))) [
      | inl t ↦
          ap (filter own) (cond-true _ (row ∷ rows) (r ∷ replaced key row rows) t) ∙ cond-true (own row) (row ∷ filter own rows) (filter own rows) mine
          ∙ sym (cond-true _ (row ∷ filter own rows) (r ∷ replaced key row (filter own rows)) t)
          ∙ ap (replaced key row) (sym (cond-true (own r) (r ∷ filter own rows) (filter own rows) (alike r t)))
      | inr t ↦
          ap (filter own) (cond-false _ (row ∷ rows) (r ∷ replaced key row rows) t)
          ∙ ap (λ l. cond (own r) (r ∷ l) l) (filter-replaced key row own rows mine alike)
          ∙ (elim (cases_Bool (own r)) [
            | inl s ↦
                cond-true (own r) (r ∷ replaced key row (filter own rows)) (replaced key row (filter own rows)) s
                ∙ sym (cond-false (is_same_key (key r) (key row)) (row ∷ filter own rows) (r ∷ replaced key row (filter own rows)) t)
                ∙ ap (replaced key row) (sym (cond-true (own r) (r ∷ filter own rows) (filter own rows) s))
            | inr s ↦
                cond-false (own r) (r ∷ replaced key row (filter own rows)) (replaced key row (filter own rows)) s
                ∙ ap (replaced key row) (sym (cond-false (own r) (r ∷ filter own rows) (filter own rows) s))
          ])
    ]

-- a row that is less than all is inserted before them
inserted-first : {A : Type 0} (key : A → List ℕ) (row : A) (rows : List A) → Each (λ s. is_less_key (key row) (key s) ≡ true) rows → inserted key row rows ≡ row ∷ rows
inserted-first key row [] h = refl
inserted-first key row (r ∷ rows) h = cond-true _ (row ∷ r ∷ rows) (r ∷ inserted key row rows) h.0

Each-filter : {A : Type 0} (P : A → Type 0) (own : A → Bool) (rows : List A) → Each P rows → Each P (filter own rows)
Each-filter P own [] h = tt
Each-filter P own (r ∷ rows) h =
    elim (cases_Bool (own r)) [
      | inl t ↦ subst (Each P) (sym (cond-true (own r) (r ∷ filter own rows) (filter own rows) t)) (h.0, Each-filter P own rows h.1)
      | inr t ↦ subst (Each P) (sym (cond-false (own r) (r ∷ filter own rows) (filter own rows) t)) (Each-filter P own rows h.1)
    ]

filter-inserted : {A : Type 0} (key : A → List ℕ) (row : A) (own : A → Bool) (rows : List A) → own row ≡ true → Ordered key rows → filter own (inserted key row rows) ≡ inserted key row (filter own rows)
filter-inserted key row own [] mine h = cond-true (own row) (row ∷ []) [] mine
filter-inserted {A} key row own (r ∷ rows) mine h =
    elim (cases_Bool (is_less_key (key row) (key r))) [
      | inl t ↦
          let above : Each (λ (s : A). is_less_key (key row) (key s) ≡ true) (r ∷ rows) =
          (t, Each-mono (λ (s : A). is_less_key (key r) (key s) ≡ true) (λ s. is_less_key (key row) (key s) ≡ true) rows (λ s l. less-trans (key row) (key r) (key s) t l) h.0) in
          ap (filter own) (cond-true _ (row ∷ r ∷ rows) (r ∷ inserted key row rows) t) ∙ cond-true (own row) (row ∷ filter own (r ∷ rows)) (filter own (r ∷ rows)) mine
          ∙ sym (inserted-first key row (filter own (r ∷ rows)) (Each-filter (λ (s : A). is_less_key (key row) (key s) ≡ true) own (r ∷ rows) above))
      | inr t ↦
          ap (filter own) (cond-false _ (row ∷ r ∷ rows) (r ∷ inserted key row rows) t)
          ∙ ap (λ l. cond (own r) (r ∷ l) l) (filter-inserted key row own rows mine h.1)
          ∙ (elim (cases_Bool (own r)) [
            | inl s ↦
                cond-true (own r) (r ∷ inserted key row (filter own rows)) (inserted key row (filter own rows)) s
                ∙ sym (cond-false (is_less_key (key row) (key r)) (row ∷ r ∷ filter own rows) (r ∷ inserted key row (filter own rows)) t)
                ∙ ap (inserted key row) (sym (cond-true (own r) (r ∷ filter own rows) (filter own rows) s))
            | inr s ↦
                cond-false (own r) (r ∷ inserted key row (filter own rows)) (inserted key row (filter own rows)) s
                ∙ ap (inserted key row) (sym (cond-false (own r) (r ∷ filter own rows) (filter own rows) s))
          ])
    ]

-- a row of the account is put among the account's rows as among all
filter-put : {A : Type 0} (key : A → List ℕ) (row : A) (own : A → Bool) (rows : List A) → own row ≡ true → ((x : A) → is_same_key (key x) (key row) ≡ true → own x ≡ true) → Ordered key rows
    → filter own (put_row key row rows) ≡ put_row key row (filter own rows)
filter-put {A} key row own rows mine alike h =
    let within : IsWithin own (λ (x : A). is_same_key (key x) (key row)) =
    record {
      fails = λ x fails.
          elim (cases_Bool (is_same_key (key x) (key row))) [
            | inl t ↦ absurd (both_ways _ fails (alike x t))
            | inr t ↦ t
          ];
    } in
    let kept = any-within own (λ (x : A). is_same_key (key x) (key row)) rows within in
    elim (cases_Bool (has_key key (key row) rows)) [
      | inl t ↦ ap (filter own) (put_there key row rows t) ∙ filter-replaced key row own rows mine alike ∙ sym (put_there key row (filter own rows) (kept ∙ t))
      | inr t ↦ ap (filter own) (put_new key row rows t) ∙ filter-inserted key row own rows mine h ∙ sym (put_new key row (filter own rows) (kept ∙ t))
    ]

first_number : (a b : ℕ) (k l : List ℕ) → a ∷ k ≡ b ∷ l → a ≡ b
first_number a b k l e = cc

made_own : (T : Tables) (k : ℕ) (asked : AskedLine) → line_made (rows_of T k) k asked ≡ line_made T k asked
made_own T k asked = ap (λ n. record (line_made T k asked) { number = n + 1 }) (lines_own T k)

-- the line that is asked for comes among the account's rows as among all
pub with_line_own : (T : Tables) (k : ℕ) (asked : AskedLine) → Ordered line_key T.lines → with_line (rows_of T k) k asked ≡ rows_of (with_line T k asked) k
unfolding put
with_line_own T k asked h =
    let l : Line = line_made T k asked in
    ap (λ (m : Line). put (rows_of T k) (PutLine m)) (made_own T k asked)
    ∙ ap (λ ls. record (rows_of T k) { lines = ls })
    (sym (filter-put line_key l (λ (x : Line). x.account == k) T.lines (eq-eqb k k refl) (λ x same. eq-eqb x.account k (first_number x.account k (x.number ∷ []) (l.number ∷ []) (same_key _ _ same))) h))
