-- What is known of tables none of whose rows breaks a rule.
use Rattle.std.proofs.Common.{◌≡◌, ℕ, suc, ◌+◌, Bool, true, false, ◌==◌, ◌&&◌, cond, inl, inr, List, [], ◌∷◌, ◌++◌, find, length, map, is_some, None, Some, refl, sym, ap, subst, ◌∙◌, arith}
use Rattle.std.specs.Prelude.{nat_le, nat_lt}
use Rattle.std.specs.List.{count_by, range_with_len}
use Rattle.std.proofs.lemmas.Bool.{cases_Bool, cond-true, cond-false, eq-eqb, eqb-true}
use Rattle.std.proofs.lemmas.Bool.Decides.{nat_tests}
use Rattle.std.proofs.lemmas.List.{length-map}
use Rattle.std.proofs.lemmas.List.Sums.{sum_by-append, sum_by-cons}
use Rattle.desk_types.specs.declared.rows.Account.{Account}
use Rattle.desk_types.specs.declared.rows.Campaign.{Campaign}
use Rattle.desk_types.specs.declared.rows.Line.{Line}
use Rattle.desk_types.specs.declared.rows.Negative.{Negative}
use Rattle.desk_types.specs.declared.tables.Tables.{Tables}
use Rattle.desk_types.specs.Keys.{campaign_key, line_key, negative_key, is_less_key}
use Rattle.desk_types.specs.Rules.{Rule, account_rules, campaign_rules, line_rules, negative_rules, first_bad, first_broken, is_in_order, last_passes}
use Rattle.desk_types.specs.Sound.{AreInOrder, RunFromOne}
use Rattle.desk_types.proofs.EachRow.{Each-mono}
use Rattle.desk_types.proofs.InOrder.{AreInOrder-from}
use Rattle.desk_types.proofs.Numbering.{run_next}
use Rattle.desk_types.proofs.Puts.{Ordered, less-trans}
use Rattle.desk_keeper.specs.OwnRows.{AreOwnRows, own_key}
use Rattle.desk_keeper.proofs.FirstBad.{kept_last, kept_rows}
use Rattle.desk_keeper.proofs.LastRows.{owners_up_to}

some_none : {A : Type 0} (x : A) → Some x ≡ None → ⊥
some_none x h = cc

-- where no rule is broken, each is kept
abbrev pub AreAllKept : List Rule → Type 0
AreAllKept [] = Unit {0}
AreAllKept (r ∷ rules) = (r.is_kept ≡ true) × AreAllKept rules

pub all_kept : (rules : List Rule) → first_broken rules ≡ None → AreAllKept rules
all_kept [] h = tt
all_kept (r ∷ rules) h =
    elim (cases_Bool r.is_kept) [
      | inl t ↦ (t, all_kept rules (sym (cond-true r.is_kept (first_broken rules) (Some r.number) t) ∙ h))
      | inr t ↦ absurd (some_none r.number (sym (cond-false r.is_kept (first_broken rules) (Some r.number) t) ∙ h))
    ]

-- one more row in order
ordered_more : {A : Type 0} (key : A → List ℕ) (before : List A) (row : A) → Ordered key before → is_in_order key before row ≡ true → Ordered key (before ++ row ∷ [])
ordered_more key [] row h less = (tt, tt)
ordered_more key (r ∷ []) row h less = ((less, tt), (tt, tt))
ordered_more key (r ∷ next ∷ rows) row h less =
    let rest = ordered_more key (next ∷ rows) row h.1 less in
    ((h.0.0, Each-mono (λ s. is_less_key (key next) (key s) ≡ true) (λ s. is_less_key (key r) (key s) ≡ true) (rows ++ row ∷ []) (λ s k. less-trans (key r) (key next) (key s) h.0.0 k) rest.0), rest)

-- where rule 1 is kept
pub in_order_kept : {A : Type 0} (table : ℕ) (rules : List A → A → List Rule) (key : A → List ℕ) → ((before : List A) (row : A) → first_broken (rules before row) ≡ None → is_in_order key before row ≡ true)
    → (rows : List A) → first_bad table rules [] rows ≡ None → AreInOrder key rows
in_order_kept table rules key first rows kept =
    AreInOrder-from key rows (kept_rows (Ordered key) table rules (λ before row h k. ordered_more key before row h (first before row k)) [] rows tt kept)

count_more : {A : Type 0} (test : A → Bool) (rest : List A) (last : A) → test last ≡ true → count_by test (rest ++ last ∷ []) ≡ count_by test rest + 1
count_more {A} test rest last t =
    omega (arith, sum_by-append (λ (x : A). cond (test x) 1 0) rest (last ∷ []), sum_by-cons (λ (x : A). cond (test x) 1 0) last [], cond-true {A = ℕ} (test last) 1 0 t)

-- where rules 1 and 3 are kept
pub own_kept : {A : Type 0} (table : ℕ) (rules : List A → A → List Rule) (owner number : A → ℕ) → ((before : List A) (row : A) → first_broken (rules before row) ≡ None → is_in_order (own_key owner number) before row ≡ true)
    → ((before : List A) (row : A) → first_broken (rules before row) ≡ None → (number row == count_by (λ k. owner k == owner row) before + 1) ≡ true)
    → (rows : List A) → first_bad table rules [] rows ≡ None → AreOwnRows owner number rows
own_kept {A} table rules owner number first next rows kept = record {
  in_order = in_order_kept table rules (own_key owner number) first rows kept;
  counted = λ last rest is.
      let own : A → Bool = λ r. owner r == owner last in
      let here = kept_last table rules rest last (subst (λ l. first_bad table rules [] l ≡ None) is kept) in
      eqb-true (number last) (count_by own rest + 1) (next rest last here) ∙ sym (ap (count_by own) is ∙ count_more own rest last (eq-eqb (owner last) (owner last) refl));
}

-- a number of a run is there
run_head : (x n : ℕ) (xs : List ℕ) (len : ℕ) → x ∷ xs ≡ range_with_len n (suc len) → (x ≡ n) × (xs ≡ range_with_len (n + 1) len)
run_head x n xs len e = (cc, cc)

in_none : (a n : ℕ) → false ≡ (nat_le a n && nat_lt n (a + 0))
in_none a n = grind (arith, nat_tests)

in_first : (x a n len : ℕ) → x ≡ a → (x == n) ≡ true → true ≡ (nat_le a n && nat_lt n (a + suc len))
in_first x a n len h t = grind (arith, nat_tests)

in_rest : (x a n len : ℕ) → x ≡ a → (x == n) ≡ false → (nat_le (a + 1) n && nat_lt n (a + 1 + len)) ≡ (nat_le a n && nat_lt n (a + suc len))
in_rest x a n len h t = grind (arith, nat_tests)

there : {A : Type 0} (number : A → ℕ) (rows : List A) (a n : ℕ) → map number rows ≡ range_with_len a (length rows) → is_some (find (λ r. number r == n) rows) ≡ (nat_le a n && nat_lt n (a + length rows))
there number [] a n run = in_none a n
there {A} number (r ∷ rows) a n run =
    let e = run_head (number r) a (map number rows) (length rows) run in
    elim (cases_Bool (number r == n)) [
      | inl t ↦ ap is_some (cond-true (number r == n) (Some r) (find (λ (s : A). number s == n) rows) t) ∙ in_first (number r) a n (length rows) e.0 t
      | inr t ↦ ap is_some (cond-false (number r == n) (Some r) (find (λ (s : A). number s == n) rows) t) ∙ there number rows (a + 1) n e.1 ∙ in_rest (number r) a n (length rows) e.0 t
    ]

up_to : (n len : ℕ) → (nat_le 1 n && nat_lt n (1 + len)) ≡ (nat_le 1 n && nat_le n len)
up_to n len = grind (arith, nat_tests)

pub numbered_there : {A : Type 0} (number : A → ℕ) (rows : List A) (n : ℕ) → RunFromOne (map number rows) → is_some (find (λ r. number r == n) rows) ≡ (nat_le 1 n && nat_le n (length rows))
numbered_there number rows n run = there number rows 1 n (run ∙ ap (range_with_len 1) (length-map rows number)) ∙ up_to n (length rows)

-- the accounts
account_next : (before : List Account) (row : Account) → first_broken (account_rules before row) ≡ None → row.number ≡ length before + 1
unfolding account_rules
account_next before row h = eqb-true row.number (length before + 1) (all_kept (account_rules before row) h).1.1.0

accounts_numbered : (rows : List Account) → first_bad 1 account_rules [] rows ≡ None → RunFromOne (map (λ a. a.number) rows)
accounts_numbered rows kept =
    kept_rows (λ (l : List Account). RunFromOne (map (λ a. a.number) l)) 1 account_rules (λ before row run h. run_next (λ (a : Account). a.number) row before run (account_next before row h)) [] rows refl kept

pub account_there : (rows : List Account) (n : ℕ) → first_bad 1 account_rules [] rows ≡ None → is_some (find (λ a. a.number == n) rows) ≡ (nat_le 1 n && nat_le n (length rows))
account_there rows n kept = numbered_there (λ (a : Account). a.number) rows n (accounts_numbered rows kept)

-- the campaigns
campaign_first : (T : Tables) (before : List Campaign) (row : Campaign) → first_broken (campaign_rules T before row) ≡ None → is_in_order campaign_key before row ≡ true
unfolding campaign_rules
campaign_first T before row h = (all_kept (campaign_rules T before row) h).0

campaign_next : (T : Tables) (before : List Campaign) (row : Campaign) → first_broken (campaign_rules T before row) ≡ None → (row.number == count_by (λ k. k.account == row.account) before + 1) ≡ true
unfolding campaign_rules
campaign_next T before row h = (all_kept (campaign_rules T before row) h).1.0

pub own_campaigns : (T : Tables) (rows : List Campaign) → first_bad 2 (campaign_rules T) [] rows ≡ None → AreOwnRows (λ c. c.account) (λ c. c.number) rows
own_campaigns T rows kept = own_kept 2 (campaign_rules T) (λ c. c.account) (λ c. c.number) (campaign_first T) (campaign_next T) rows kept

pub campaigns_in_order : (T : Tables) (rows : List Campaign) → first_bad 2 (campaign_rules T) [] rows ≡ None → AreInOrder campaign_key rows
campaigns_in_order T rows kept = in_order_kept 2 (campaign_rules T) campaign_key (campaign_first T) rows kept

-- the lines
line_first : (T : Tables) (before : List Line) (row : Line) → first_broken (line_rules T before row) ≡ None → is_in_order line_key before row ≡ true
unfolding line_rules
line_first T before row h = (all_kept (line_rules T before row) h).0

pub line_next : (T : Tables) (before : List Line) (row : Line) → first_broken (line_rules T before row) ≡ None → (row.number == count_by (λ k. k.account == row.account) before + 1) ≡ true
unfolding line_rules
line_next T before row h = (all_kept (line_rules T before row) h).1.1.0

pub own_lines : (T : Tables) (rows : List Line) → first_bad 4 (line_rules T) [] rows ≡ None → AreOwnRows (λ l. l.account) (λ l. l.number) rows
own_lines T rows kept = own_kept 4 (line_rules T) (λ l. l.account) (λ l. l.number) (line_first T) (line_next T) rows kept

pub line_behind : (T : Tables) (before : List Line) (row : Line) → first_broken (line_rules T before row) ≡ None → last_passes (λ r. nat_le r.account row.account) before ≡ true
line_behind T before row h = owners_up_to (λ (l : Line). l.account) (λ l. l.number) before row (line_first T before row h)

-- the negatives
negative_first : (T : Tables) (before : List Negative) (row : Negative) → first_broken (negative_rules T before row) ≡ None → is_in_order negative_key before row ≡ true
unfolding negative_rules
negative_first T before row h = (all_kept (negative_rules T before row) h).0

negative_next : (T : Tables) (before : List Negative) (row : Negative) → first_broken (negative_rules T before row) ≡ None → (row.number == count_by (λ k. k.account == row.account) before + 1) ≡ true
unfolding negative_rules
negative_next T before row h = (all_kept (negative_rules T before row) h).1.0

pub own_negatives : (T : Tables) (rows : List Negative) → first_bad 5 (negative_rules T) [] rows ≡ None → AreOwnRows (λ n. n.account) (λ n. n.number) rows
own_negatives T rows kept = own_kept 5 (negative_rules T) (λ n. n.account) (λ n. n.number) (negative_first T) (negative_next T) rows kept

pub negative_behind : (T : Tables) (before : List Negative) (row : Negative) → first_broken (negative_rules T before row) ≡ None → last_passes (λ r. nat_le r.account row.account) before ≡ true
negative_behind T before row h = owners_up_to (λ (n : Negative). n.account) (λ n. n.number) before row (negative_first T before row h)
