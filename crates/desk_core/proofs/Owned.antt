-- What is looked for among all rows is found among those of the account.
use Rattle.std.proofs.Common.{◌≡◌, ℕ, ◌+◌, Bool, true, false, not, ◌==◌, ◌&&◌, inl, inr, List, [], ◌∷◌, ◌++◌, find, filter, flat_map, map, option_map, unwrap_or, refl, sym, ap, subst, ◌∙◌, append-nil, arith}
use Rattle.std.specs.Prelude.{nat_le, nat_lt}
use Rattle.std.specs.List.{All, list_any, range_with_len}
use Rattle.std.proofs.lemmas.Bool.{cases_Bool, cond-true, cond-false}
use Rattle.std.proofs.lemmas.List.{map-append}
use Rattle.std.proofs.lemmas.List.Concat.{flat_map-append}
use Rattle.std.proofs.lemmas.List.Elements.{All-filter, filter-append}
use Rattle.accounts.proofs.Joined.{any-group, find-group}
use Rattle.desk_types.specs.declared.rows.BudgetSet.{BudgetSet}
use Rattle.desk_types.specs.declared.rows.Line.{Line}
use Rattle.desk_types.specs.declared.rows.Negative.{Negative}
use Rattle.auction_types.specs.AdValue.{AdValue, IsInRange}
use Rattle.desk_types.specs.Day.{day_of}
use Rattle.desk_types.specs.Eligible.{ad_of, is_eligible, is_kept_out, is_matched}
use Rattle.desk_types.specs.Money.{budget, is_latest, is_set_by}
use Rattle.desk_types.specs.State.{State}
use Rattle.desk_types.proofs.Legality.{range-more}

filter_own : {A : Type 0} (own : A → Bool) (xs : List A) → filter own (filter own xs) ≡ filter own xs
filter_own own [] = refl
filter_own own (x ∷ xs) =
    elim (cases_Bool (own x)) [
      | inl t ↦ ap (filter own) (cond-true (own x) (x ∷ filter own xs) (filter own xs) t) ∙ cond-true (own x) (x ∷ filter own (filter own xs)) (filter own (filter own xs)) t
          ∙ ap (λ l. x ∷ l) (filter_own own xs) ∙ sym (cond-true (own x) (x ∷ filter own xs) (filter own xs) t)
      | inr t ↦ ap (filter own) (cond-false (own x) (x ∷ filter own xs) (filter own xs) t) ∙ filter_own own xs ∙ sym (cond-false (own x) (x ∷ filter own xs) (filter own xs) t)
    ]

find_own : {A : Type 0} (own test : A → Bool) (xs : List A) → find (λ x. own x && test x) (filter own xs) ≡ find (λ x. own x && test x) xs
find_own own test xs = find-group own test (filter own xs) ∙ ap (find test) (filter_own own xs) ∙ sym (find-group own test xs)

any_own : {A : Type 0} (own test : A → Bool) (xs : List A) → list_any (λ x. own x && test x) (filter own xs) ≡ list_any (λ x. own x && test x) xs
any_own own test xs = any-group own test (filter own xs) ∙ ap (list_any test) (filter_own own xs) ∙ sym (any-group own test xs)

and_assoc : (a b c : Bool) → ((a && b) && c) ≡ (a && (b && c))
and_assoc true b c = refl
and_assoc false b c = refl

-- a line is kept out by the negatives of its account
pub kept_out_own : (S : State) (query : List (List ℕ)) (l : Line)
    → list_any (λ n. n.campaign == l.campaign && (n.live && is_matched n.pattern query)) (filter (λ n. n.account == l.account) S.tables.negatives) ≡ is_kept_out S query l
kept_out_own S query l =
    sym (any-group (λ (n : Negative). n.account == l.account) (λ n. n.campaign == l.campaign && (n.live && is_matched n.pattern query)) S.tables.negatives)

abbrev of_account : ℕ → BudgetSet → Bool
of_account account b = b.account == account

latest_own : (account campaign day : ℕ) (bs : List BudgetSet) (b : BudgetSet) → is_latest (filter (of_account account) bs) account campaign day b ≡ is_latest bs account campaign day b
latest_own account campaign day bs b =
    let later = λ (other : BudgetSet). nat_lt (day_of b.at) (day_of other.at) in
    let rest = λ (other : BudgetSet). other.campaign == campaign && nat_le (day_of other.at) day in
    let same : (λ (other : BudgetSet). is_set_by account campaign day other && later other) ≡ (λ other. of_account account other && (rest other && later other)) =
    (λ i other. and_assoc (of_account account other) (rest other) (later other) i) in
    ap not (ap (λ t. list_any t (filter (of_account account) bs)) same ∙ any_own (of_account account) (λ other. rest other && later other) bs ∙ ap (λ t. list_any t bs) (sym same))

-- the budget is that of the account's settings
pub budget_own : (S : State) (account campaign day : ℕ) (own : List BudgetSet) → own ≡ filter (λ b. b.account == account) S.tables.budgets
    → unwrap_or (option_map (λ b. b.amount) (find (λ b. is_set_by account campaign day b && is_latest own account campaign day b) own)) 0 ≡ budget S account campaign day
unfolding budget
budget_own S account campaign day own is =
    let bs = S.tables.budgets in
    let rest = λ (b : BudgetSet). b.campaign == campaign && nat_le (day_of b.at) day in
    let latest = is_latest bs account campaign day in
    let same : (λ (b : BudgetSet). is_set_by account campaign day b && latest b) ≡ (λ b. of_account account b && (rest b && latest b)) =
    (λ i b. and_assoc (of_account account b) (rest b) (latest b) i) in
    ap (λ found. unwrap_or (option_map (λ (b : BudgetSet). b.amount) found) 0)
    (ap (λ rows. find (λ b. is_set_by account campaign day b && is_latest rows account campaign day b) rows) is
    ∙ (λ i. find (λ b. is_set_by account campaign day b && latest_own account campaign day bs b i) (filter (of_account account) bs))
    ∙ ap (λ t. find t (filter (of_account account) bs)) same
    ∙ find_own (of_account account) (λ b. rest b && latest b) bs
    ∙ ap (λ t. find t bs) (sym same))

-- the lines of an account are in range where all are
pub in_range_own : (S : State) (account : ℕ) (own : List Line) → own ≡ filter (λ l. l.account == account) S.tables.lines → All (λ l. IsInRange (ad_of l)) S.tables.lines → All (λ l. IsInRange (ad_of l)) own
in_range_own S account own is h =
    subst (All (λ (l : Line). IsInRange (ad_of l))) (sym is) (All-filter (λ (l : Line). l.account == account) (λ l. IsInRange (ad_of l)) S.tables.lines h)

-- the lines of the accounts up to a number, one account after another
abbrev pub lines_up_to : List Line → ℕ → List Line
lines_up_to lines count = flat_map (λ account. filter (λ l. l.account == account) lines) (range_with_len 1 count)

-- the lines that compete, of one account more
pub eligible_more : (S : State) (query : List (List ℕ)) (count : ℕ) (ads more : List AdValue) (own : List Line) → own ≡ filter (λ l. l.account == count + 1) S.tables.lines
    → ads ≡ map ad_of (filter (is_eligible S query) (lines_up_to S.tables.lines count))
    → more ≡ ads ++ map ad_of (filter (is_eligible S query) own)
    → more ≡ map ad_of (filter (is_eligible S query) (lines_up_to S.tables.lines (count + 1)))
eligible_more S query count ads more own owned before is =
    let lines = S.tables.lines in
    let of = λ (n : ℕ). filter (λ (l : Line). l.account == n) lines in
    let next : 1 + count ≡ count + 1 = omega arith in
    let all : lines_up_to lines (count + 1) ≡ lines_up_to lines count ++ own =
    ap (flat_map of) (range-more 1 count) ∙ flat_map-append of (range_with_len 1 count) ((1 + count) ∷ [])
    ∙ ap (λ l. lines_up_to lines count ++ l) (append-nil (of (1 + count)) ∙ ap of next ∙ sym owned) in
    is ∙ ap (λ l. l ++ map ad_of (filter (is_eligible S query) own)) before
    ∙ sym (map-append ad_of (filter (is_eligible S query) (lines_up_to lines count)) (filter (is_eligible S query) own))
    ∙ ap (map ad_of) (sym (filter-append (is_eligible S query) (lines_up_to lines count) own))
    ∙ ap (λ l. map ad_of (filter (is_eligible S query) l)) (sym all)
