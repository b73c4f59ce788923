-- What the tables have of an account is what its own rows have.
use Rattle.std.proofs.Common.{Bor, zero, suc, ◌≡◌, ℕ, ◌-◌, ◌≤◌, ◌==◌, ◌&&◌, not, List, length, map, find, get_or, Bool, inl, inr, [], ◌∷◌, ◌++◌, ◌+◌, length-append, is_none, Option, None, Some, MatchOption, refl, sym, ap, ◌∙◌, arith}
use Rattle.std.specs.Option.{option_copied}
use Rattle.std.proofs.lemmas.Bool.{cases_Bool, cond-true, cond-false}
use Rattle.desk_types.specs.declared.rows.Campaign.{Campaign}
use Rattle.desk_types.specs.declared.rows.Line.{Line}
use Rattle.desk_types.specs.declared.rows.Negative.{Negative}
use Rattle.desk_types.specs.declared.tables.Tables.{Tables}
use Rattle.desk_types.specs.Judged.{is_dropped_like, is_line_like, is_live_like}
use Rattle.desk_types.specs.Sound.{RunFromOne}
use Rattle.desk_types.specs.Tables.{campaign_of, campaigns_of, line_of, lines_of, negative_of, negatives_of}
use Rattle.desk_types.proofs.Numbering.{length_kept}
use Rattle.match_types.specs.Tests.{is_same_pattern}
use Rattle.accounts.specs.BookValue.{ShelfValue}
use Rattle.accounts.specs.Shelved.{HasShelf, IsBehind}
use Rattle.accounts.proofs.Joined.{find-group}
use Rattle.accounts.proofs.Numbered.{found_numbered, none_numbered, zero_numbered}

pub campaign_found : (T : Tables) (account n : ℕ) (s : ShelfValue) → HasShelf T account s → find (λ c. c.number == n) s.campaigns ≡ campaign_of T account n
campaign_found T account n s h = ap (find (λ (c : Campaign). c.number == n)) (sym h.campaigns) ∙ sym (find-group (λ (c : Campaign). c.account == account) (λ c. c.number == n) T.campaigns)

pub line_found : (T : Tables) (account n : ℕ) (s : ShelfValue) → HasShelf T account s → find (λ l. l.number == n) s.lines ≡ line_of T account n
line_found T account n s h = ap (find (λ (l : Line). l.number == n)) (sym h.lines) ∙ sym (find-group (λ (l : Line). l.account == account) (λ l. l.number == n) T.lines)

pub negative_found : (T : Tables) (account n : ℕ) (s : ShelfValue) → HasShelf T account s → find (λ k. k.number == n) s.negatives ≡ negative_of T account n
negative_found T account n s h = ap (find (λ (k : Negative). k.number == n)) (sym h.negatives) ∙ sym (find-group (λ (k : Negative). k.account == account) (λ k. k.number == n) T.negatives)

pub live_found : (T : Tables) (account campaign : ℕ) (pattern : List ℕ) (s : ShelfValue) → HasShelf T account s
    → find (λ n. n.campaign == campaign && (n.live && is_same_pattern n.pattern pattern)) s.negatives ≡ find (is_live_like account campaign pattern) T.negatives
live_found T account campaign pattern s h =
    ap (find (λ (n : Negative). n.campaign == campaign && (n.live && is_same_pattern n.pattern pattern))) (sym h.negatives)
    ∙ sym (find-group (λ (n : Negative). n.account == account) (λ n. n.campaign == campaign && (n.live && is_same_pattern n.pattern pattern)) T.negatives)

pub dropped_found : (T : Tables) (account campaign : ℕ) (pattern : List ℕ) (s : ShelfValue) → HasShelf T account s
    → find (λ n. n.campaign == campaign && (not n.live && is_same_pattern n.pattern pattern)) s.negatives ≡ find (is_dropped_like account campaign pattern) T.negatives
dropped_found T account campaign pattern s h =
    ap (find (λ (n : Negative). n.campaign == campaign && (not n.live && is_same_pattern n.pattern pattern))) (sym h.negatives)
    ∙ sym (find-group (λ (n : Negative). n.account == account) (λ n. n.campaign == campaign && (not n.live && is_same_pattern n.pattern pattern)) T.negatives)

pub campaigns_counted : (T : Tables) (account : ℕ) (s : ShelfValue) → HasShelf T account s → length s.campaigns ≡ campaigns_of T account
campaigns_counted T account s h = ap length (sym h.campaigns) ∙ length_kept (λ (c : Campaign). c.account == account) T.campaigns

pub lines_counted : (T : Tables) (account : ℕ) (s : ShelfValue) → HasShelf T account s → length s.lines ≡ lines_of T account
lines_counted T account s h = ap length (sym h.lines) ∙ length_kept (λ (l : Line). l.account == account) T.lines

pub negatives_counted : (T : Tables) (account : ℕ) (s : ShelfValue) → HasShelf T account s → length s.negatives ≡ negatives_of T account
negatives_counted T account s h = ap length (sym h.negatives) ∙ length_kept (λ (n : Negative). n.account == account) T.negatives

-- what is found by a number
pub copied_numbered : {A : Type 0} (number : A → ℕ) (rows : List A) (n : ℕ) (o : Option (Bor A)) → RunFromOne (map number rows)
    → MatchOption o (1 ≤ n → n ≤ length rows → ⊥) (λ row. (1 ≤ n) × (n ≤ length rows) × (row.now ≡ get_or rows (n - 1) row.now)) → option_copied o ≡ find (λ x. number x == n) rows
copied_numbered number rows n (Some row) run h = sym (found_numbered number rows n (n - 1) row.now run (omega (arith, h.0)) (omega (arith, h.0, h.1)) h.2)
copied_numbered number rows zero None run h = sym (zero_numbered number rows run)
copied_numbered number rows (suc k) None run h = sym (none_numbered number rows (suc k) run (λ is. absurd (omega (arith, is))) (λ low. h (omega arith) low))

none_some : {A : Type 0} (x : A) → None ≡ Some x → ⊥
none_some x h = cc

-- the same behind lines that are made
pub campaign_behind : (T : Tables) (account n : ℕ) (s : ShelfValue) (made : List Line) → IsBehind T account s made → find (λ c. c.number == n) s.campaigns ≡ campaign_of T account n
campaign_behind T account n s made h = ap (find (λ (c : Campaign). c.number == n)) (sym h.campaigns) ∙ sym (find-group (λ (c : Campaign). c.account == account) (λ c. c.number == n) T.campaigns)

pub line_behind : (T : Tables) (account campaign : ℕ) (pattern : List ℕ) (s : ShelfValue) (made : List Line) → IsBehind T account s made
    → find (λ l. l.campaign == campaign && is_same_pattern l.pattern pattern) (s.lines ++ made) ≡ find (is_line_like account campaign pattern) T.lines
line_behind T account campaign pattern s made h =
    ap (find (λ (l : Line). l.campaign == campaign && is_same_pattern l.pattern pattern)) (sym h.lines)
    ∙ sym (find-group (λ (l : Line). l.account == account) (λ l. l.campaign == campaign && is_same_pattern l.pattern pattern) T.lines)

pub counted_behind : (T : Tables) (account : ℕ) (s : ShelfValue) (made : List Line) → IsBehind T account s made → length s.lines + length made ≡ lines_of T account
counted_behind T account s made h = sym (length-append s.lines made) ∙ ap length (sym h.lines) ∙ length_kept (λ (l : Line). l.account == account) T.lines

pub found_first : {A : Type 0} (test : A → Bool) (xs ys : List A) (x : A) → find test xs ≡ Some x → find test (xs ++ ys) ≡ Some x
found_first test [] ys x h = absurd cc
found_first test (y ∷ xs) ys x h =
    elim (cases_Bool (test y)) [
      | inl t ↦ cond-true (test y) _ _ t ∙ sym (cond-true (test y) _ _ t) ∙ h
      | inr t ↦ cond-false (test y) _ _ t ∙ found_first test xs ys x (sym (cond-false (test y) _ _ t) ∙ h)
    ]

pub found_last : {A : Type 0} (test : A → Bool) (xs ys : List A) → find test xs ≡ None → find test (xs ++ ys) ≡ find test ys
found_last test [] ys h = refl
found_last test (y ∷ xs) ys h =
    elim (cases_Bool (test y)) [
      | inl t ↦ absurd (none_some y (sym h ∙ cond-true (test y) _ _ t))
      | inr t ↦ cond-false (test y) _ _ t ∙ found_last test xs ys (sym (cond-false (test y) _ _ t) ∙ h)
    ]

pub none_copied : {A : Type 0} (o : Option (Bor A)) → is_none o ≡ is_none (option_copied o)
none_copied None = refl
none_copied (Some x) = refl
