-- Accounts with their rows, numbered one after another, and their tables.
use Rattle.std.proofs.Common.{◌≡◌, ℕ, zero, suc, true, ◌+◌, ◌-◌, ◌<◌, ◌≤◌, ◌==◌, List, [], ◌∷◌, ◌++◌, flat_map, length, map, filter, get_or, set, Option, None, Some, MatchOption, refl, sym, ap, subst, ◌∙◌, arith}
use Rattle.std.specs.List.{range_with_len}
use Rattle.std.proofs.lemmas.Bool.Decides.{nat_tests}
use Rattle.std.proofs.lemmas.List.Concat.{flat_map_single}
use Rattle.std.proofs.lemmas.List.{get_or-map, length-map}
use Rattle.desk_types.specs.declared.rows.Account.{Account}
use Rattle.desk_types.specs.declared.rows.Batch.{Batch}
use Rattle.desk_types.specs.declared.rows.BudgetSet.{BudgetSet}
use Rattle.desk_types.specs.declared.rows.Campaign.{Campaign}
use Rattle.desk_types.specs.declared.rows.Line.{Line}
use Rattle.desk_types.specs.declared.rows.Negative.{Negative}
use Rattle.desk_types.specs.Sound.{AreInOrder, RunFromOne}
use Rattle.desk_types.specs.Keys.{is_less_key, line_key}
use Rattle.desk_types.specs.Tables.{account_of}
use Rattle.desk_types.proofs.InOrder.{AreInOrder-from, Each-from_All, Ordered-from}
use Rattle.accounts.specs.BookValue.{ShelfValue, tables_of}
use Rattle.accounts.specs.Shelved.{AreShelves, HasNoShelf, HasShelf, IsShelf}
use Rattle.accounts.proofs.Joined.{AreOrdered, AreOwned, LedByGroup, group_before, group_behind, group_rows, ordered_joined}
use Rattle.accounts.proofs.Numbered.{found_numbered, none_numbered, zero_numbered}

-- each account has its own rows
pub owned_campaigns : (n : ℕ) (gs : List ShelfValue) → AreShelves n gs → AreOwned (λ s. s.campaigns) (λ c. c.account) n gs
owned_campaigns n [] h = tt
owned_campaigns n (g ∷ gs) h = (Each-from_All (λ (c : Campaign). c.account ≡ n) g.campaigns h.0.own.campaigns, owned_campaigns (n + 1) gs h.1)

pub owned_budgets : (n : ℕ) (gs : List ShelfValue) → AreShelves n gs → AreOwned (λ s. s.budgets) (λ b. b.account) n gs
owned_budgets n [] h = tt
owned_budgets n (g ∷ gs) h = (Each-from_All (λ (b : BudgetSet). b.account ≡ n) g.budgets h.0.own.budgets, owned_budgets (n + 1) gs h.1)

pub owned_lines : (n : ℕ) (gs : List ShelfValue) → AreShelves n gs → AreOwned (λ s. s.lines) (λ l. l.account) n gs
owned_lines n [] h = tt
owned_lines n (g ∷ gs) h = (Each-from_All (λ (l : Line). l.account ≡ n) g.lines h.0.own.lines, owned_lines (n + 1) gs h.1)

pub owned_negatives : (n : ℕ) (gs : List ShelfValue) → AreShelves n gs → AreOwned (λ s. s.negatives) (λ k. k.account) n gs
owned_negatives n [] h = tt
owned_negatives n (g ∷ gs) h = (Each-from_All (λ (k : Negative). k.account ≡ n) g.negatives h.0.own.negatives, owned_negatives (n + 1) gs h.1)

pub owned_batches : (n : ℕ) (gs : List ShelfValue) → AreShelves n gs → AreOwned (λ s. s.batches) (λ b. b.account) n gs
owned_batches n [] h = tt
owned_batches n (g ∷ gs) h = (Each-from_All (λ (b : Batch). b.account ≡ n) g.batches h.0.own.batches, owned_batches (n + 1) gs h.1)

pub owned_accounts : (n : ℕ) (gs : List ShelfValue) → AreShelves n gs → AreOwned (λ s. s.account ∷ []) (λ a. a.number) n gs
owned_accounts n [] h = tt
owned_accounts n (g ∷ gs) h = ((h.0.number, tt), owned_accounts (n + 1) gs h.1)

-- the accounts are numbered one after another
numbers : (n : ℕ) (gs : List ShelfValue) → AreShelves n gs → map (λ a. a.number) (map (λ s. s.account) gs) ≡ range_with_len n (length gs)
numbers n [] h = refl
numbers n (g ∷ gs) h = (λ i. h.0.number i ∷ numbers (n + 1) gs h.1 i)

pub accounts_run : (gs : List ShelfValue) → AreShelves 1 gs → RunFromOne (map (λ a. a.number) (map (λ s. s.account) gs))
accounts_run gs h =
    let accounts = map (λ (s : ShelfValue). s.account) gs in
    numbers 1 gs h ∙ ap (range_with_len 1) (sym (length-map accounts (λ (a : Account). a.number) ∙ length-map gs (λ (s : ShelfValue). s.account)))

-- the account at a place, and one that takes it
pub shelf_at : (n i : ℕ) (gs : List ShelfValue) (d : ShelfValue) → AreShelves n gs → i < length gs → IsShelf (n + i) (get_or gs i d)
shelf_at n i [] d h low = absurd (omega (arith, low))
shelf_at n zero (g ∷ gs) d h low = subst (λ m. IsShelf m g) (omega arith) h.0
shelf_at n (suc i) (g ∷ gs) d h low = subst (λ m. IsShelf m (get_or gs i d)) (omega arith) (shelf_at (n + 1) i gs d h.1 (omega (arith, low)))

pub shelf_set : (n i : ℕ) (gs : List ShelfValue) (g : ShelfValue) → AreShelves n gs → IsShelf (n + i) g → AreShelves n (set gs i g)
shelf_set n i [] g h is = tt
shelf_set n zero (old ∷ gs) g h is = (subst (λ m. IsShelf m g) (omega arith) is, h.1)
shelf_set n (suc i) (old ∷ gs) g h is = (h.0, shelf_set (n + 1) i gs g h.1 (subst (λ m. IsShelf m g) (omega arith) is))

pub shelf_push : (n : ℕ) (gs : List ShelfValue) (g : ShelfValue) → AreShelves n gs → IsShelf (n + length gs) g → AreShelves n (gs ++ g ∷ [])
shelf_push n [] g h is = (subst (λ m. IsShelf m g) (omega arith) is, tt)
shelf_push n (old ∷ gs) g h is = (h.0, shelf_push (n + 1) gs g h.1 (subst (λ m. IsShelf m g) (omega arith) is))

-- keys that begin with the account
lower_pair : (a b m n : ℕ) → a < b → is_less_key (a ∷ m ∷ []) (b ∷ n ∷ []) ≡ true
lower_pair a b m n h = grind (arith, nat_tests)

pub led_lines : LedByGroup line_key (λ l. l.account)
led_lines = record { lower = λ x y h. lower_pair x.account y.account x.number y.number h }

ordered_lines : (n : ℕ) (gs : List ShelfValue) → AreShelves n gs → AreOrdered line_key (λ s. s.lines) gs
ordered_lines n [] h = tt
ordered_lines n (g ∷ gs) h = (Ordered-from line_key g.lines h.0.in_order.lines, ordered_lines (n + 1) gs h.1)

pub lines_in_order : (gs : List ShelfValue) → AreShelves 1 gs → AreInOrder line_key (tables_of gs).lines
lines_in_order gs h = AreInOrder-from line_key (tables_of gs).lines (ordered_joined line_key (λ (g : ShelfValue). g.lines) (λ l. l.account) 1 gs led_lines (owned_lines 1 gs h) (ordered_lines 1 gs h))

-- the rows of an account are those of the tables
rows_at : {A : Type 0} (rows_of : ShelfValue → List A) (group : A → ℕ) (account : ℕ) (gs : List ShelfValue) (s : ShelfValue) → AreOwned rows_of group 1 gs → 1 ≤ account → account ≤ length gs
    → s ≡ get_or gs (account - 1) s → filter (λ x. group x == account) (flat_map rows_of gs) ≡ rows_of s
rows_at rows_of group account gs s own low high at =
    let same : 1 + (account - 1) ≡ account = omega (arith, low) in
    ap (λ m. filter (λ x. group x == m) (flat_map rows_of gs)) (sym same) ∙ group_rows rows_of group 1 (account - 1) gs s own (omega (arith, low, high)) ∙ ap rows_of (sym at)

pub has_shelf : (gs : List ShelfValue) (account : ℕ) (s : ShelfValue) → AreShelves 1 gs → 1 ≤ account → account ≤ length gs → s ≡ get_or gs (account - 1) s → HasShelf (tables_of gs) account s
has_shelf gs account s h low high at =
    let i = account - 1 in
    let inside : i < length gs = omega (arith, low, high) in
    let same : 1 + i ≡ account = omega (arith, low) in
    record {
      is = subst (λ m. IsShelf m s) same (subst (IsShelf (1 + i)) (sym at) (shelf_at 1 i gs s h inside));
      found = found_numbered (λ (a : Account). a.number) (map (λ (g : ShelfValue). g.account) gs) account i s.account (accounts_run gs h) (omega (arith, low)) (omega (arith, inside, length-map gs (λ (g : ShelfValue). g.account)))
          (ap (λ (g : ShelfValue). g.account) at ∙ sym (get_or-map (λ (g : ShelfValue). g.account) gs i s s.account inside));
      only = ap (filter (λ (a : Account). a.number == account)) (sym (flat_map_single (λ (g : ShelfValue). g.account) gs)) ∙ rows_at (λ g. g.account ∷ []) (λ (a : Account). a.number) account gs s (owned_accounts 1 gs h) low high at;
      budgets = rows_at (λ g. g.budgets) (λ (b : BudgetSet). b.account) account gs s (owned_budgets 1 gs h) low high at;
      campaigns = rows_at (λ g. g.campaigns) (λ (c : Campaign). c.account) account gs s (owned_campaigns 1 gs h) low high at;
      lines = rows_at (λ g. g.lines) (λ (l : Line). l.account) account gs s (owned_lines 1 gs h) low high at;
      negatives = rows_at (λ g. g.negatives) (λ (n : Negative). n.account) account gs s (owned_negatives 1 gs h) low high at;
      batches = rows_at (λ g. g.batches) (λ (b : Batch). b.account) account gs s (owned_batches 1 gs h) low high at;
      in_order = lines_in_order gs h;
    }

pub match-mono : {A : Type 0} (o : Option A) (P R : Type 0) (Q S : A → Type 0) → (P → R) → ((x : A) → Q x → S x) → MatchOption o P Q → MatchOption o R S
match-mono None P R Q S f g h = f h
match-mono (Some x) P R Q S f g h = g x h

pub no_shelf : (gs : List ShelfValue) (account : ℕ) → AreShelves 1 gs → (1 ≤ account → account ≤ length gs → ⊥) → account_of (tables_of gs) account ≡ None
no_shelf gs zero h none = zero_numbered (λ (a : Account). a.number) (map (λ (g : ShelfValue). g.account) gs) (accounts_run gs h)
no_shelf gs (suc k) h none =
    none_numbered (λ (a : Account). a.number) (map (λ (g : ShelfValue). g.account) gs) (suc k) (accounts_run gs h) (λ is. absurd (omega (arith, is)))
    (λ low. none (omega arith) (omega (arith, low, length-map gs (λ (g : ShelfValue). g.account))))

-- the tables have no row of an account that is not there
beyond : (k len : ℕ) → (suc k ≤ len → ⊥) → 1 + len ≤ suc k
beyond k len h = grind (arith, h)

outside : {A : Type 0} (rows_of : ShelfValue → List A) (group : A → ℕ) (account : ℕ) (gs : List ShelfValue) → AreOwned rows_of group 1 gs → (1 ≤ account → account ≤ length gs → ⊥)
    → filter (λ x. group x == account) (flat_map rows_of gs) ≡ []
outside rows_of group zero gs own none = group_before rows_of group 1 0 gs own (omega arith)
outside rows_of group (suc k) gs own none = group_behind rows_of group 1 (suc k) gs own (beyond k (length gs) (λ low. none (omega arith) low))

pub has_no_shelf : (gs : List ShelfValue) (account : ℕ) → AreShelves 1 gs → (1 ≤ account → account ≤ length gs → ⊥) → HasNoShelf (tables_of gs) account
has_no_shelf gs account h none = record {
  unknown = no_shelf gs account h none;
  accounts = ap (filter (λ (a : Account). a.number == account)) (sym (flat_map_single (λ (g : ShelfValue). g.account) gs)) ∙ outside (λ g. g.account ∷ []) (λ (a : Account). a.number) account gs (owned_accounts 1 gs h) none;
  campaigns = outside (λ g. g.campaigns) (λ (c : Campaign). c.account) account gs (owned_campaigns 1 gs h) none;
  budgets = outside (λ g. g.budgets) (λ (b : BudgetSet). b.account) account gs (owned_budgets 1 gs h) none;
  lines = outside (λ g. g.lines) (λ (l : Line). l.account) account gs (owned_lines 1 gs h) none;
  negatives = outside (λ g. g.negatives) (λ (n : Negative). n.account) account gs (owned_negatives 1 gs h) none;
}

-- the lines of all accounts, one account after another
joined_by : {A : Type 0} (rows_of : ShelfValue → List A) (rows : ℕ → List A) (n : ℕ) (gs : List ShelfValue) → ((i : ℕ) (d : ShelfValue) → i < length gs → rows (n + i) ≡ rows_of (get_or gs i d))
    → flat_map rows_of gs ≡ flat_map rows (range_with_len n (length gs))
joined_by rows_of rows n [] same = refl
joined_by rows_of rows n (g ∷ gs) same =
    let first : n + 0 ≡ n = omega arith in
    let later : (i : ℕ) (d : ShelfValue) → i < length gs → rows (n + 1 + i) ≡ rows_of (get_or gs i d) =
    λ i d low. let on : n + suc i ≡ n + 1 + i = omega arith in subst (λ m. rows m ≡ rows_of (get_or gs i d)) on (same (suc i) d (omega (arith, low))) in
    (λ k. sym (subst (λ m. rows m ≡ rows_of g) first (same 0 g (omega arith))) k ++ joined_by rows_of rows (n + 1) gs later k)

pub lines_joined : (gs : List ShelfValue) → AreShelves 1 gs → (tables_of gs).lines ≡ flat_map (λ account. filter (λ l. l.account == account) (tables_of gs).lines) (range_with_len 1 (length (tables_of gs).accounts))
lines_joined gs h =
    joined_by (λ g. g.lines) (λ account. filter (λ (l : Line). l.account == account) (tables_of gs).lines) 1 gs (λ i d low. group_rows (λ g. g.lines) (λ (l : Line). l.account) 1 i gs d (owned_lines 1 gs h) low)
    ∙ ap (λ n. flat_map (λ account. filter (λ (l : Line). l.account == account) (tables_of gs).lines) (range_with_len 1 n)) (sym (length-map gs (λ (g : ShelfValue). g.account)))

pub campaigns_joined : (gs : List ShelfValue) → AreShelves 1 gs → (tables_of gs).campaigns ≡ flat_map (λ account. filter (λ c. c.account == account) (tables_of gs).campaigns) (range_with_len 1 (length (tables_of gs).accounts))
campaigns_joined gs h =
    joined_by (λ g. g.campaigns) (λ account. filter (λ (c : Campaign). c.account == account) (tables_of gs).campaigns) 1 gs (λ i d low. group_rows (λ g. g.campaigns) (λ (c : Campaign). c.account) 1 i gs d (owned_campaigns 1 gs h) low)
    ∙ ap (λ n. flat_map (λ account. filter (λ (c : Campaign). c.account == account) (tables_of gs).campaigns) (range_with_len 1 n)) (sym (length-map gs (λ (g : ShelfValue). g.account)))
