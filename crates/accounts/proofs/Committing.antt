-- What a change to the rows of one account is to the whole book.
use Rattle.std.proofs.Common.{◌≡◌, ℕ, zero, suc, ◌+◌, ◌-◌, ◌<◌, ◌≤◌, Bool, true, false, ◌==◌, ◌||◌, inl, inr, List, [], ◌∷◌, ◌++◌, length, map, find, get_or, set, Some, is_some, Result, Ok, Err, OnOk, refl, sym, ap, subst, ◌∙◌, arith}
use Rattle.std.specs.List.{count_by}
use Rattle.std.proofs.lemmas.Bool.{both_ways, cases_Bool, cond-true, cond-false, eq-eqb, eqb-true}
use Rattle.std.proofs.lemmas.Bool.Decides.{nat_tests}
use Rattle.std.proofs.lemmas.List.{get_or-map, get_or-set_same, get_or_default, length-map, map-append, map-set}
use Rattle.std.proofs.lemmas.List.Concat.{flat_map_single}
use Rattle.std.proofs.lemmas.List.Elements.{All-nil}
use Rattle.desk_types.specs.declared.rows.Account.{Account}
use Rattle.desk_types.specs.declared.rows.Batch.{Batch}
use Rattle.desk_types.specs.declared.rows.BudgetSet.{BudgetSet}
use Rattle.desk_types.specs.declared.rows.Campaign.{Campaign}
use Rattle.desk_types.specs.declared.rows.Line.{Line}
use Rattle.desk_types.specs.declared.rows.Negative.{Negative}
use Rattle.desk_types.specs.declared.tables.Change.{Change}
use Rattle.desk_types.specs.declared.tables.Change.TheVariants.{PutAccount, PutCampaign, PutBudget, PutLine, PutNegative, PutPlacement, PutBatch, PutFate}
use Rattle.desk_types.specs.Day.{day_of}
use Rattle.desk_types.specs.Keys.{account_key, batch_key, budget_key, campaign_key, is_less_key, line_key, negative_key}
use Rattle.desk_types.specs.Sound.{AreInOrder, RunFromOne}
use Rattle.desk_types.specs.Tables.{has_key, put, put_row}
use Rattle.desk_types.proofs.EachRow.{All-from_Each, Each, Each-mono}
use Rattle.desk_types.proofs.InOrder.{Each-from_All, Ordered-from, in_order-put}
use Rattle.desk_types.proofs.Lawful.{All-put}
use Rattle.desk_types.proofs.Numbering.{IsThereOrNext as IsThereByKey, RunInGroups, groups-put, length_kept, next_last}
use Rattle.desk_types.proofs.Puts.{Ordered, key_same}
use Rattle.accounts.specs.AtHome.{HasAccount, HasOwner, IsAtHome}
use Rattle.accounts.specs.BookValue.{HasLeft, HasLeftSpare, HasRoomFor, HasSpareFor, Room, ShelfValue, Spare, is_of_account, no_spare, owner_of, spare_of, tables_of}
use Rattle.accounts.specs.Shelved.{AreShelves, AreShelvedInOrder, HasRowsOf, HasShelf, IsNextOn, IsShelf, IsThereOrNext, put_on}
use Rattle.accounts.proofs.Finds.{campaign_found, campaigns_counted, line_found, lines_counted, negative_found, negatives_counted}
use Rattle.accounts.proofs.Joined.{LedByGroup, filter-all, filter-none, grouped_push, kept_grouped, put_grouped}
use Rattle.accounts.proofs.Shelves.{accounts_run, shelf_at, shelf_set, has_shelf, led_lines, no_shelf, owned_accounts, owned_batches, owned_budgets, owned_campaigns, owned_lines, owned_negatives}

-- the rows of an account are a shelf's, whatever the room
pub shelf_rows : (n : ℕ) (s g : ShelfValue) → IsShelf n s → HasRowsOf s g → IsShelf n g
shelf_rows n s g h same = subst (IsShelf n) (sym same) (record { number = h.number; own = record { campaigns = h.own.campaigns; budgets = h.own.budgets; lines = h.own.lines; negatives = h.own.negatives; batches = h.own.batches }; in_order = record { campaigns = h.in_order.campaigns; budgets = h.in_order.budgets; lines = h.in_order.lines; negatives = h.in_order.negatives; batches = h.in_order.batches }; campaigns = h.campaigns; lines = h.lines; negatives = h.negatives })

-- of rows that are all of one group, the numbers run in the group
grouped_run : {A : Type 0} (group number : A → ℕ) (n : ℕ) (rows : List A) → Each (λ x. group x ≡ n) rows → RunFromOne (map number rows) → RunInGroups group number rows
grouped_run group number n rows own run g =
    elim (cases_Bool (n == g)) [
      | inl t ↦ subst RunFromOne (sym (ap (map number) (filter-all (λ x. group x == g) rows (Each-mono (λ x. group x ≡ n) (λ x. (group x == g) ≡ true) rows (λ x e. eq-eqb (group x) g (e ∙ eqb-true n g t)) own)))) run
      | inr t ↦ subst RunFromOne (sym (ap (map number) (filter-none (λ x. group x == g) rows (Each-mono (λ x. group x ≡ n) (λ x. (group x == g) ≡ false) rows (λ x e. ap (λ m. m == g) e ∙ t) own)))) refl
    ]

or_true : (a b : Bool) → b ≡ true → (a || b) ≡ true
or_true true b h = refl
or_true false b h = h

found_in : {A : Type 0} (key : A → List ℕ) (test : A → Bool) (rows : List A) (wanted : List ℕ) → is_some (find test rows) ≡ true → Each (λ x. test x ≡ true → key x ≡ wanted) rows → has_key key wanted rows ≡ true
found_in key test [] wanted h same = absurd cc
found_in key test (r ∷ rows) wanted h same =
    elim (cases_Bool (test r)) [
      | inl t ↦ ap (λ b. b || has_key key wanted rows) (key_same (key r) wanted (same.0 t))
      | inr t ↦ or_true _ (has_key key wanted rows) (found_in key test rows wanted (ap is_some (sym (cond-false (test r) (Some r) (find test rows) t)) ∙ h) same.1)
    ]

-- a number that is there or next is so by its key
by_key : {A : Type 0} (key : A → List ℕ) (group number : A → ℕ) (n : ℕ) (row : A) (rows : List A) → ((x : A) → key x ≡ group x ∷ number x ∷ []) → Each (λ x. group x ≡ n) rows → group row ≡ n
    → IsThereOrNext number (number row) rows → IsThereByKey key group number row rows
by_key key group number n row rows is own owner (inl there) =
    inl (found_in key (λ x. number x == number row) rows (key row) there (Each-mono (λ x. group x ≡ n) (λ x. (number x == number row) ≡ true → key x ≡ key row) rows
    (λ x e t. is x ∙ ap (λ g. g ∷ number x ∷ []) (e ∙ sym owner) ∙ ap (λ m. group row ∷ m ∷ []) (eqb-true (number x) (number row) t) ∙ sym (is row)) own))
by_key key group number n row rows is own owner (inr next) =
    let all : count_by (λ x. group x == group row) rows ≡ length rows =
    sym (length_kept (λ x. group x == group row) rows) ∙ ap length (filter-all (λ x. group x == group row) rows (Each-mono (λ x. group x ≡ n) (λ x. (group x == group row) ≡ true) rows (λ x e. eq-eqb (group x) (group row) (e ∙ sym owner)) own)) in
    inr (omega (arith, next, all))

-- the numbers run on
run_put : {A : Type 0} (key : A → List ℕ) (group number : A → ℕ) (n : ℕ) (row : A) (rows : List A) → ((x : A) → key x ≡ group x ∷ number x ∷ []) → Each (λ x. group x ≡ n) rows → group row ≡ n → Ordered key rows
    → RunFromOne (map number rows) → IsThereOrNext number (number row) rows → RunFromOne (map number (put_row key row rows))
run_put key group number n row rows is own owner order run next =
    let runs = groups-put key group number row rows is order (grouped_run group number n rows own run) (by_key key group number n row rows is own owner next) in
    let put_own = Each-from_All (λ x. group x ≡ n) (put_row key row rows) (All-put (λ x. group x ≡ n) key row rows owner (All-from_Each (λ x. group x ≡ n) rows own)) in
    subst RunFromOne (ap (map number) (filter-all (λ x. group x == n) (put_row key row rows) (Each-mono (λ x. group x ≡ n) (λ x. (group x == n) ≡ true) (put_row key row rows) (λ x e. eq-eqb (group x) n e) put_own))) (runs n)

pub shelf_put : (n : ℕ) (s : ShelfValue) (change : Change) → IsShelf n s → IsNextOn n s change → IsShelf n (put_on s change)
shelf_put n s (PutAccount a) h next = record { number = next; own = record { campaigns = h.own.campaigns; budgets = h.own.budgets; lines = h.own.lines; negatives = h.own.negatives; batches = h.own.batches }; in_order = record { campaigns = h.in_order.campaigns; budgets = h.in_order.budgets; lines = h.in_order.lines; negatives = h.in_order.negatives; batches = h.in_order.batches }; campaigns = h.campaigns; lines = h.lines; negatives = h.negatives }
shelf_put n s (PutCampaign c) h next =
    record {
      number = h.number;
      own = record { campaigns = All-put (λ (x : Campaign). x.account ≡ n) campaign_key c s.campaigns next.0 h.own.campaigns; budgets = h.own.budgets; lines = h.own.lines; negatives = h.own.negatives; batches = h.own.batches };
      in_order = record { campaigns = in_order-put campaign_key c s.campaigns h.in_order.campaigns; budgets = h.in_order.budgets; lines = h.in_order.lines; negatives = h.in_order.negatives; batches = h.in_order.batches };
      campaigns = run_put campaign_key (λ (x : Campaign). x.account) (λ x. x.number) n c s.campaigns (λ x. refl) (Each-from_All (λ (x : Campaign). x.account ≡ n) s.campaigns h.own.campaigns) next.0 (Ordered-from campaign_key s.campaigns h.in_order.campaigns) h.campaigns next.1;
      lines = h.lines;
      negatives = h.negatives;
    }
shelf_put n s (PutBudget b) h next =
    record {
      number = h.number;
      own = record { campaigns = h.own.campaigns; budgets = All-put (λ (x : BudgetSet). x.account ≡ n) budget_key b s.budgets next h.own.budgets; lines = h.own.lines; negatives = h.own.negatives; batches = h.own.batches };
      in_order = record { campaigns = h.in_order.campaigns; budgets = in_order-put budget_key b s.budgets h.in_order.budgets; lines = h.in_order.lines; negatives = h.in_order.negatives; batches = h.in_order.batches };
      campaigns = h.campaigns;
      lines = h.lines;
      negatives = h.negatives;
    }
shelf_put n s (PutLine l) h next =
    record {
      number = h.number;
      own = record { campaigns = h.own.campaigns; budgets = h.own.budgets; lines = All-put (λ (x : Line). x.account ≡ n) line_key l s.lines next.0 h.own.lines; negatives = h.own.negatives; batches = h.own.batches };
      in_order = record { campaigns = h.in_order.campaigns; budgets = h.in_order.budgets; lines = in_order-put line_key l s.lines h.in_order.lines; negatives = h.in_order.negatives; batches = h.in_order.batches };
      campaigns = h.campaigns;
      lines = run_put line_key (λ (x : Line). x.account) (λ x. x.number) n l s.lines (λ x. refl) (Each-from_All (λ (x : Line). x.account ≡ n) s.lines h.own.lines) next.0 (Ordered-from line_key s.lines h.in_order.lines) h.lines next.1;
      negatives = h.negatives;
    }
shelf_put n s (PutNegative k) h next =
    record {
      number = h.number;
      own = record { campaigns = h.own.campaigns; budgets = h.own.budgets; lines = h.own.lines; negatives = All-put (λ (x : Negative). x.account ≡ n) negative_key k s.negatives next.0 h.own.negatives; batches = h.own.batches };
      in_order = record { campaigns = h.in_order.campaigns; budgets = h.in_order.budgets; lines = h.in_order.lines; negatives = in_order-put negative_key k s.negatives h.in_order.negatives; batches = h.in_order.batches };
      campaigns = h.campaigns;
      lines = h.lines;
      negatives = run_put negative_key (λ (x : Negative). x.account) (λ x. x.number) n k s.negatives (λ x. refl) (Each-from_All (λ (x : Negative). x.account ≡ n) s.negatives h.own.negatives) next.0 (Ordered-from negative_key s.negatives h.in_order.negatives) h.negatives next.1;
    }
shelf_put n s (PutBatch b) h next =
    record {
      number = h.number;
      own = record { campaigns = h.own.campaigns; budgets = h.own.budgets; lines = h.own.lines; negatives = h.own.negatives; batches = All-put (λ (x : Batch). x.account ≡ n) batch_key b s.batches next h.own.batches };
      in_order = record { campaigns = h.in_order.campaigns; budgets = h.in_order.budgets; lines = h.in_order.lines; negatives = h.in_order.negatives; batches = in_order-put batch_key b s.batches h.in_order.batches };
      campaigns = h.campaigns;
      lines = h.lines;
      negatives = h.negatives;
    }
shelf_put n s (PutPlacement p) h next = absurd (elim next [ ])
shelf_put n s (PutFate number fate) h next = absurd (elim next [ ])

-- keys that begin with the account
lower_two : (a b m n : ℕ) → a < b → is_less_key (a ∷ m ∷ []) (b ∷ n ∷ []) ≡ true
lower_two a b m n h = grind (arith, nat_tests)

lower_three : (a b m n j k : ℕ) → a < b → is_less_key (a ∷ m ∷ j ∷ []) (b ∷ n ∷ k ∷ []) ≡ true
lower_three a b m n j k h = grind (arith, nat_tests)

lower_one : (a b : ℕ) → a < b → is_less_key (a ∷ []) (b ∷ []) ≡ true
lower_one a b h = grind (arith, nat_tests)

led_accounts : LedByGroup account_key (λ a. a.number)
led_accounts = record { lower = λ x y h. lower_one x.number y.number h }

led_campaigns : LedByGroup campaign_key (λ c. c.account)
led_campaigns = record { lower = λ x y h. lower_two x.account y.account x.number y.number h }

led_budgets : LedByGroup budget_key (λ b. b.account)
led_budgets = record { lower = λ x y h. lower_three x.account y.account x.campaign y.campaign (day_of x.at) (day_of y.at) h }

led_negatives : LedByGroup negative_key (λ n. n.account)
led_negatives = record { lower = λ x y h. lower_two x.account y.account x.number y.number h }

led_batches : LedByGroup batch_key (λ b. b.account)
led_batches = record { lower = λ x y h. lower_two x.account y.account x.number y.number h }

-- the accounts, where one keeps its row
kept_accounts : (i : ℕ) (gs : List ShelfValue) (g d : ShelfValue) → g.account ≡ (get_or gs i d).account → map (λ s. s.account) (set gs i g) ≡ map (λ s. s.account) gs
kept_accounts i gs g d same =
    sym (flat_map_single (λ (s : ShelfValue). s.account) (set gs i g)) ∙ kept_grouped (λ (s : ShelfValue). s.account ∷ []) i gs g d (ap (λ a. a ∷ []) same) ∙ flat_map_single (λ (s : ShelfValue). s.account) gs

put_itself : (a old : Account) → a.number ≡ old.number → a ∷ [] ≡ put_row account_key a (old ∷ [])
unfolding put_row
put_itself a old same =
    let hit = key_same (account_key old) (account_key a) (ap (λ n. n ∷ []) (sym same)) in
    sym (cond-true _ _ _ (ap (λ b. b || false) hit) ∙ cond-true _ _ _ hit)

put_accounts : (i : ℕ) (a : Account) (gs : List ShelfValue) (g d : ShelfValue) → AreShelves 1 gs → i < length gs → a.number ≡ 1 + i → (get_or gs i d).account.number ≡ 1 + i → g.account ≡ a
    → map (λ s. s.account) (set gs i g) ≡ put_row account_key a (map (λ s. s.account) gs)
put_accounts i a gs g d h low is old same =
    sym (flat_map_single (λ (s : ShelfValue). s.account) (set gs i g))
    ∙ sym (put_grouped account_key (λ (s : ShelfValue). s.account ∷ []) (λ x. x.number) 1 i a gs g d led_accounts (owned_accounts 1 gs h) low is (ap (λ x. x ∷ []) same ∙ put_itself a (get_or gs i d).account (is ∙ sym old)))
    ∙ ap (put_row account_key a) (flat_map_single (λ (s : ShelfValue). s.account) gs)

-- the tables with a change to the rows of one account
pub put_tables : (gs : List ShelfValue) (i : ℕ) (g d : ShelfValue) (change : Change) → AreShelves 1 gs → i < length gs → IsShelf (1 + i) (get_or gs i d) → IsNextOn (1 + i) (get_or gs i d) change → HasRowsOf (put_on (get_or gs i d) change) g
    → tables_of (set gs i g) ≡ put (tables_of gs) change
unfolding put
put_tables gs i g d (PutAccount a) h low is next same =
    let p = put_accounts i a gs g d h low next is.number (ap (λ (s : ShelfValue). s.account) same) in
    (λ k. record {
      accounts = p k;
      campaigns = kept_grouped (λ (s : ShelfValue). s.campaigns) i gs g d (ap (λ (s : ShelfValue). s.campaigns) same) k;
      budgets = kept_grouped (λ (s : ShelfValue). s.budgets) i gs g d (ap (λ (s : ShelfValue). s.budgets) same) k;
      lines = kept_grouped (λ (s : ShelfValue). s.lines) i gs g d (ap (λ (s : ShelfValue). s.lines) same) k;
      negatives = kept_grouped (λ (s : ShelfValue). s.negatives) i gs g d (ap (λ (s : ShelfValue). s.negatives) same) k;
      placements = [];
      batches = kept_grouped (λ (s : ShelfValue). s.batches) i gs g d (ap (λ (s : ShelfValue). s.batches) same) k;
    })
put_tables gs i g d (PutCampaign c) h low is next same =
    let p = put_grouped campaign_key (λ (s : ShelfValue). s.campaigns) (λ x. x.account) 1 i c gs g d led_campaigns (owned_campaigns 1 gs h) low next.0 (ap (λ (s : ShelfValue). s.campaigns) same) in
    (λ k. record {
      accounts = kept_accounts i gs g d (ap (λ (s : ShelfValue). s.account) same) k;
      campaigns = sym p k;
      budgets = kept_grouped (λ (s : ShelfValue). s.budgets) i gs g d (ap (λ (s : ShelfValue). s.budgets) same) k;
      lines = kept_grouped (λ (s : ShelfValue). s.lines) i gs g d (ap (λ (s : ShelfValue). s.lines) same) k;
      negatives = kept_grouped (λ (s : ShelfValue). s.negatives) i gs g d (ap (λ (s : ShelfValue). s.negatives) same) k;
      placements = [];
      batches = kept_grouped (λ (s : ShelfValue). s.batches) i gs g d (ap (λ (s : ShelfValue). s.batches) same) k;
    })
put_tables gs i g d (PutBudget b) h low is next same =
    let p = put_grouped budget_key (λ (s : ShelfValue). s.budgets) (λ x. x.account) 1 i b gs g d led_budgets (owned_budgets 1 gs h) low next (ap (λ (s : ShelfValue). s.budgets) same) in
    (λ k. record {
      accounts = kept_accounts i gs g d (ap (λ (s : ShelfValue). s.account) same) k;
      campaigns = kept_grouped (λ (s : ShelfValue). s.campaigns) i gs g d (ap (λ (s : ShelfValue). s.campaigns) same) k;
      budgets = sym p k;
      lines = kept_grouped (λ (s : ShelfValue). s.lines) i gs g d (ap (λ (s : ShelfValue). s.lines) same) k;
      negatives = kept_grouped (λ (s : ShelfValue). s.negatives) i gs g d (ap (λ (s : ShelfValue). s.negatives) same) k;
      placements = [];
      batches = kept_grouped (λ (s : ShelfValue). s.batches) i gs g d (ap (λ (s : ShelfValue). s.batches) same) k;
    })
put_tables gs i g d (PutLine l) h low is next same =
    let p = put_grouped line_key (λ (s : ShelfValue). s.lines) (λ x. x.account) 1 i l gs g d led_lines (owned_lines 1 gs h) low next.0 (ap (λ (s : ShelfValue). s.lines) same) in
    (λ k. record {
      accounts = kept_accounts i gs g d (ap (λ (s : ShelfValue). s.account) same) k;
      campaigns = kept_grouped (λ (s : ShelfValue). s.campaigns) i gs g d (ap (λ (s : ShelfValue). s.campaigns) same) k;
      budgets = kept_grouped (λ (s : ShelfValue). s.budgets) i gs g d (ap (λ (s : ShelfValue). s.budgets) same) k;
      lines = sym p k;
      negatives = kept_grouped (λ (s : ShelfValue). s.negatives) i gs g d (ap (λ (s : ShelfValue). s.negatives) same) k;
      placements = [];
      batches = kept_grouped (λ (s : ShelfValue). s.batches) i gs g d (ap (λ (s : ShelfValue). s.batches) same) k;
    })
put_tables gs i g d (PutNegative n) h low is next same =
    let p = put_grouped negative_key (λ (s : ShelfValue). s.negatives) (λ x. x.account) 1 i n gs g d led_negatives (owned_negatives 1 gs h) low next.0 (ap (λ (s : ShelfValue). s.negatives) same) in
    (λ k. record {
      accounts = kept_accounts i gs g d (ap (λ (s : ShelfValue). s.account) same) k;
      campaigns = kept_grouped (λ (s : ShelfValue). s.campaigns) i gs g d (ap (λ (s : ShelfValue). s.campaigns) same) k;
      budgets = kept_grouped (λ (s : ShelfValue). s.budgets) i gs g d (ap (λ (s : ShelfValue). s.budgets) same) k;
      lines = kept_grouped (λ (s : ShelfValue). s.lines) i gs g d (ap (λ (s : ShelfValue). s.lines) same) k;
      negatives = sym p k;
      placements = [];
      batches = kept_grouped (λ (s : ShelfValue). s.batches) i gs g d (ap (λ (s : ShelfValue). s.batches) same) k;
    })
put_tables gs i g d (PutBatch b) h low is next same =
    let p = put_grouped batch_key (λ (s : ShelfValue). s.batches) (λ x. x.account) 1 i b gs g d led_batches (owned_batches 1 gs h) low next (ap (λ (s : ShelfValue). s.batches) same) in
    (λ k. record {
      accounts = kept_accounts i gs g d (ap (λ (s : ShelfValue). s.account) same) k;
      campaigns = kept_grouped (λ (s : ShelfValue). s.campaigns) i gs g d (ap (λ (s : ShelfValue). s.campaigns) same) k;
      budgets = kept_grouped (λ (s : ShelfValue). s.budgets) i gs g d (ap (λ (s : ShelfValue). s.budgets) same) k;
      lines = kept_grouped (λ (s : ShelfValue). s.lines) i gs g d (ap (λ (s : ShelfValue). s.lines) same) k;
      negatives = kept_grouped (λ (s : ShelfValue). s.negatives) i gs g d (ap (λ (s : ShelfValue). s.negatives) same) k;
      placements = [];
      batches = sym p k;
    })
put_tables gs i g d (PutPlacement p) h low is next same = absurd (elim next [ ])
put_tables gs i g d (PutFate number fate) h low is next same = absurd (elim next [ ])

-- the tables where the rows of one account stay, whatever the room
pub same_tables : (gs : List ShelfValue) (i : ℕ) (g d : ShelfValue) → HasRowsOf (get_or gs i d) g → tables_of (set gs i g) ≡ tables_of gs
same_tables gs i g d same =
    (λ k. record {
      accounts = kept_accounts i gs g d (ap (λ (s : ShelfValue). s.account) same) k;
      campaigns = kept_grouped (λ (s : ShelfValue). s.campaigns) i gs g d (ap (λ (s : ShelfValue). s.campaigns) same) k;
      budgets = kept_grouped (λ (s : ShelfValue). s.budgets) i gs g d (ap (λ (s : ShelfValue). s.budgets) same) k;
      lines = kept_grouped (λ (s : ShelfValue). s.lines) i gs g d (ap (λ (s : ShelfValue). s.lines) same) k;
      negatives = kept_grouped (λ (s : ShelfValue). s.negatives) i gs g d (ap (λ (s : ShelfValue). s.negatives) same) k;
      placements = [];
      batches = kept_grouped (λ (s : ShelfValue). s.batches) i gs g d (ap (λ (s : ShelfValue). s.batches) same) k;
    })

-- the account of a change is there
pub account_within : (gs : List ShelfValue) (account : ℕ) → AreShelves 1 gs → HasAccount (tables_of gs) account → (1 ≤ account) × (account ≤ length gs)
account_within gs account h there =
    let out : (¬ ((1 ≤ account) × (account ≤ length gs))) → ⊥ =
    λ not. both_ways _ (ap is_some (no_shelf gs account h (λ low high. not (low, high)))) there in
    (grind (arith, out), grind (arith, out))

the_shelf : (gs : List ShelfValue) (account : ℕ) (d : ShelfValue) → AreShelves 1 gs → 1 ≤ account → account ≤ length gs → HasShelf (tables_of gs) account (get_or gs (account - 1) d)
the_shelf gs account d h low high = has_shelf gs account (get_or gs (account - 1) d) h low high (get_or_default gs (account - 1) d (get_or gs (account - 1) d) (omega (arith, low, high)))

pub home_on : (gs : List ShelfValue) (d : ShelfValue) (change : Change) → AreShelves 1 gs → IsAtHome (tables_of gs) change → owner_of change ≤ length gs
    → (1 ≤ owner_of change) × IsNextOn (owner_of change) (get_or gs (owner_of change - 1) d) change
home_on gs d (PutAccount a) h (inl there) high = ((account_within gs a.number h there).0, refl)
home_on gs d (PutAccount a) h (inr next) high = absurd (omega (arith, next, high, length-map gs (λ (s : ShelfValue). s.account)))
home_on gs d (PutCampaign c) h home high =
    let low = (account_within gs c.account h home.0).0 in
    let shelf = the_shelf gs c.account d h low high in (
      low,
      (
        refl,
        elim home.1 [
          | inl there ↦ inl (ap is_some (campaign_found (tables_of gs) c.account c.number _ shelf) ∙ there)
          | inr next ↦ inr (omega (arith, next, campaigns_counted (tables_of gs) c.account _ shelf))
        ],
      ),
    )
home_on gs d (PutBudget b) h home high = ((account_within gs b.account h home).0, refl)
home_on gs d (PutLine l) h home high =
    let low = (account_within gs l.account h home.0).0 in
    let shelf = the_shelf gs l.account d h low high in (
      low,
      (
        refl,
        elim home.1 [
          | inl there ↦ inl (ap is_some (line_found (tables_of gs) l.account l.number _ shelf) ∙ there)
          | inr next ↦ inr (omega (arith, next, lines_counted (tables_of gs) l.account _ shelf))
        ],
      ),
    )
home_on gs d (PutNegative n) h home high =
    let low = (account_within gs n.account h home.0).0 in
    let shelf = the_shelf gs n.account d h low high in (
      low,
      (
        refl,
        elim home.1 [
          | inl there ↦ inl (ap is_some (negative_found (tables_of gs) n.account n.number _ shelf) ∙ there)
          | inr next ↦ inr (omega (arith, next, negatives_counted (tables_of gs) n.account _ shelf))
        ],
      ),
    )
home_on gs d (PutPlacement p) h home high = absurd (elim home [ ])
home_on gs d (PutBatch b) h home high = ((account_within gs b.account h home).0, refl)
home_on gs d (PutFate number fate) h home high = absurd (elim home [ ])

-- a change that puts the account behind so many others
abbrev pub IsNextAccount : ℕ → Change → Type 0
IsNextAccount count (PutAccount a) = a.number ≡ count + 1
IsNextAccount count _ = ⊥

-- a change behind all accounts is the next one
pub home_new : (gs : List ShelfValue) (change : Change) → AreShelves 1 gs → IsAtHome (tables_of gs) change → length gs < owner_of change → IsNextAccount (length gs) change
home_new gs (PutAccount a) h (inl there) high = absurd (omega (arith, high, (account_within gs a.number h there).1))
home_new gs (PutAccount a) h (inr next) high = omega (arith, next, length-map gs (λ (s : ShelfValue). s.account))
home_new gs (PutCampaign c) h home high = absurd (omega (arith, high, (account_within gs c.account h home.0).1))
home_new gs (PutBudget b) h home high = absurd (omega (arith, high, (account_within gs b.account h home).1))
home_new gs (PutLine l) h home high = absurd (omega (arith, high, (account_within gs l.account h home.0).1))
home_new gs (PutNegative n) h home high = absurd (omega (arith, high, (account_within gs n.account h home.0).1))
home_new gs (PutPlacement p) h home high = absurd (elim home [ ])
home_new gs (PutBatch b) h home high = absurd (omega (arith, high, (account_within gs b.account h home).1))
home_new gs (PutFate number fate) h home high = absurd (elim home [ ])

pub next_puts_account : (count : ℕ) (change : Change) → IsNextAccount count change → ((a : Account) → change ≡ PutAccount a → ⊥) → ⊥
next_puts_account count (PutAccount a) h not = not a refl
next_puts_account count (PutCampaign c) h not = absurd (elim h [ ])
next_puts_account count (PutBudget b) h not = absurd (elim h [ ])
next_puts_account count (PutLine l) h not = absurd (elim h [ ])
next_puts_account count (PutNegative n) h not = absurd (elim h [ ])
next_puts_account count (PutPlacement p) h not = absurd (elim h [ ])
next_puts_account count (PutBatch b) h not = absurd (elim h [ ])
next_puts_account count (PutFate number fate) h not = absurd (elim h [ ])

pub low_owner : (gs : List ShelfValue) (change : Change) → AreShelves 1 gs → IsAtHome (tables_of gs) change → 1 ≤ owner_of change
low_owner gs (PutAccount a) h (inl there) = (account_within gs a.number h there).0
low_owner gs (PutAccount a) h (inr next) = omega (arith, next)
low_owner gs (PutCampaign c) h home = (account_within gs c.account h home.0).0
low_owner gs (PutBudget b) h home = (account_within gs b.account h home).0
low_owner gs (PutLine l) h home = (account_within gs l.account h home.0).0
low_owner gs (PutNegative n) h home = (account_within gs n.account h home.0).0
low_owner gs (PutPlacement p) h home = absurd (elim home [ ])
low_owner gs (PutBatch b) h home = (account_within gs b.account h home).0
low_owner gs (PutFate number fate) h home = absurd (elim home [ ])

-- a change to the rows of one account, by its place
pub put_at : (gs : List ShelfValue) (change : Change) (g d : ShelfValue) (place : ℕ) → AreShelves 1 gs → IsAtHome (tables_of gs) change → place ≡ owner_of change - 1 → place < length gs
    → HasRowsOf (put_on (get_or gs place d) change) g → AreShelves 1 (set gs place g) × (tables_of (set gs place g) ≡ put (tables_of gs) change)
put_at gs change g d place h home at low same =
    let on = home_on gs d change h home (omega (arith, at, low)) in
    let first : 1 + place ≡ owner_of change = omega (arith, at, on.0) in
    let next : IsNextOn (1 + place) (get_or gs place d) change =
    subst (λ n. IsNextOn n (get_or gs place d) change) (sym first) (subst (λ k. IsNextOn (owner_of change) (get_or gs k d) change) (sym at) on.1) in
    let is = shelf_at 1 place gs d h low in (
      shelf_set 1 place gs g h (shelf_rows (1 + place) (put_on (get_or gs place d) change) g (shelf_put (1 + place) (get_or gs place d) change is next) same),
      put_tables gs place g d change h low is next same,
    )

pub in_order_at : (gs : List ShelfValue) (d : ShelfValue) (place : ℕ) → AreShelves 1 gs → place < length gs → AreShelvedInOrder (get_or gs place d)
in_order_at gs d place h low = (shelf_at 1 place gs d h low).in_order

-- room that is made for one account
pub kept_at : (gs : List ShelfValue) (g d : ShelfValue) (place : ℕ) → AreShelves 1 gs → place < length gs → HasRowsOf (get_or gs place d) g → AreShelves 1 (set gs place g) × (tables_of (set gs place g) ≡ tables_of gs)
kept_at gs g d place h low same = (shelf_set 1 place gs g h (shelf_rows (1 + place) (get_or gs place d) g (shelf_at 1 place gs d h low) same), same_tables gs place g d same)

-- what is left of the room
pub left_alike : (count : ℕ) (spare : Spare) → HasLeftSpare count spare spare
left_alike count spare = record { campaigns = omega arith; budgets = omega arith; lines = omega arith; negatives = omega arith; batches = omega arith }

left_set : (count : ℕ) (xs : List Spare) (y : Spare) (place k : ℕ) → place < length xs → HasLeftSpare count (get_or xs place no_spare) y → HasLeftSpare count (get_or xs k no_spare) (get_or (set xs place y) k no_spare)
left_set count [] y place k low h = absurd (omega (arith, low))
left_set count (x ∷ xs) y zero zero low h = h
left_set count (x ∷ xs) y zero (suc k) low h = left_alike count (get_or xs k no_spare)
left_set count (x ∷ xs) y (suc place) zero low h = left_alike count x
left_set count (x ∷ xs) y (suc place) (suc k) low h = left_set count xs y place k (omega (arith, low)) h

abbrev pub room_of : ℕ → List ShelfValue → Room
room_of accounts gs = record { accounts = accounts; rows = map (λ s. s.spare) gs }

pub left_at : (count accounts : ℕ) (gs : List ShelfValue) (g d : ShelfValue) (place : ℕ) → place < length gs → HasLeftSpare count (get_or gs place d).spare g.spare → HasLeft count (room_of accounts gs) (room_of accounts (set gs place g))
left_at count accounts gs g d place low h = record {
  accounts = omega arith;
  rows = λ account.
      let spares = map (λ (s : ShelfValue). s.spare) gs in
      let was : get_or spares place no_spare ≡ (get_or gs place d).spare = get_or-map (λ (s : ShelfValue). s.spare) gs place d no_spare low in
      subst (λ xs. HasLeftSpare count (get_or spares (account - 1) no_spare) (get_or xs (account - 1) no_spare)) (sym (map-set (λ (s : ShelfValue). s.spare) gs place g))
      (left_set count spares g.spare place (account - 1) (omega (arith, low, length-map gs (λ (s : ShelfValue). s.spare))) (subst (λ x. HasLeftSpare count x g.spare) (sym was) h));
}

-- the room for a change
pub room_account : (room : Room) (count : ℕ) (change : Change) → is_of_account change ≡ true → count ≤ room.accounts → HasRoomFor room count change
room_account room count (PutAccount a) is h = record { accounts = h; rows = tt }
room_account room count (PutCampaign c) is h = absurd cc
room_account room count (PutBudget b) is h = absurd cc
room_account room count (PutLine l) is h = absurd cc
room_account room count (PutNegative n) is h = absurd cc
room_account room count (PutPlacement p) is h = absurd cc
room_account room count (PutBatch b) is h = absurd cc
room_account room count (PutFate number fate) is h = absurd cc

pub room_row : (room : Room) (count : ℕ) (change : Change) → is_of_account change ≡ false → HasSpareFor (spare_of room (owner_of change)) count change → HasRoomFor room count change
room_row room count (PutAccount a) is h = absurd cc
room_row room count (PutCampaign c) is h = record { accounts = tt; rows = h }
room_row room count (PutBudget b) is h = record { accounts = tt; rows = h }
room_row room count (PutLine l) is h = record { accounts = tt; rows = h }
room_row room count (PutNegative n) is h = record { accounts = tt; rows = h }
room_row room count (PutPlacement p) is h = record { accounts = tt; rows = h }
room_row room count (PutBatch b) is h = record { accounts = tt; rows = h }
room_row room count (PutFate number fate) is h = record { accounts = tt; rows = h }

pub owner_within : (gs : List ShelfValue) (change : Change) → AreShelves 1 gs → HasOwner (tables_of gs) change → is_of_account change ≡ false → (1 ≤ owner_of change) × (owner_of change ≤ length gs)
owner_within gs (PutAccount a) h there is = absurd cc
owner_within gs (PutCampaign c) h there is = account_within gs c.account h there
owner_within gs (PutBudget b) h there is = account_within gs b.account h there
owner_within gs (PutLine l) h there is = account_within gs l.account h there
owner_within gs (PutNegative n) h there is = account_within gs n.account h there
owner_within gs (PutPlacement p) h there is = absurd (elim there [ ])
owner_within gs (PutBatch b) h there is = account_within gs b.account h there
owner_within gs (PutFate number fate) h there is = absurd (elim there [ ])

pub made_at : (accounts count : ℕ) (gs : List ShelfValue) (g : ShelfValue) (place : ℕ) (change : Change) → place ≡ owner_of change - 1 → place < length gs → is_of_account change ≡ false → HasSpareFor g.spare count change
    → HasRoomFor (room_of accounts (set gs place g)) count change
made_at accounts count gs g place change at low is h =
    let spares = map (λ (s : ShelfValue). s.spare) gs in
    let now : get_or (map (λ (s : ShelfValue). s.spare) (set gs place g)) place no_spare ≡ g.spare =
    ap (λ xs. get_or xs place no_spare) (map-set (λ (s : ShelfValue). s.spare) gs place g) ∙ get_or-set_same spares place g.spare no_spare (omega (arith, low, length-map gs (λ (s : ShelfValue). s.spare))) in
    room_row (room_of accounts (set gs place g)) count change is
    (subst (λ k. HasSpareFor (get_or (map (λ (s : ShelfValue). s.spare) (set gs place g)) k no_spare) count change) at (subst (λ x. HasSpareFor x count change) (sym now) h))

none_in_order : {A : Type 0} (key : A → List ℕ) → AreInOrder key []
none_in_order {A} key i j d low high = absurd (omega (arith, high))

-- the next account, which has no rows
pub new_shelf : (n : ℕ) (s : ShelfValue) (account : Account) → account.number ≡ n → s.account ≡ account → s.campaigns ≡ [] → s.budgets ≡ [] → s.lines ≡ [] → s.negatives ≡ [] → s.batches ≡ [] → IsShelf n s
new_shelf n s account is a cs bs ls ns ks =
    let same : s ≡ record { account = account; campaigns = []; budgets = []; lines = []; negatives = []; batches = []; spare = s.spare } =
    (λ i. record { account = a i; campaigns = cs i; budgets = bs i; lines = ls i; negatives = ns i; batches = ks i; spare = s.spare }) in
    subst (IsShelf n) (sym same) (record {
      number = is;
      own = record {
        campaigns = All-nil (λ (x : Campaign). x.account ≡ n);
        budgets = All-nil (λ (x : BudgetSet). x.account ≡ n);
        lines = All-nil (λ (x : Line). x.account ≡ n);
        negatives = All-nil (λ (x : Negative). x.account ≡ n);
        batches = All-nil (λ (x : Batch). x.account ≡ n);
      };
      in_order = record { campaigns = none_in_order campaign_key; budgets = none_in_order budget_key; lines = none_in_order line_key; negatives = none_in_order negative_key; batches = none_in_order batch_key };
      campaigns = refl;
      lines = refl;
      negatives = refl;
    })

pub push_tables : (gs : List ShelfValue) (s : ShelfValue) (account : Account) → AreShelves 1 gs → account.number ≡ length gs + 1 → s.account ≡ account → s.campaigns ≡ [] → s.budgets ≡ [] → s.lines ≡ [] → s.negatives ≡ [] → s.batches ≡ []
    → tables_of (gs ++ s ∷ []) ≡ put (tables_of gs) (PutAccount account)
unfolding put
push_tables gs s account h next a cs bs ls ns ks =
    let accounts = map (λ (g : ShelfValue). g.account) gs in
    let p : map (λ (g : ShelfValue). g.account) (gs ++ s ∷ []) ≡ put_row account_key account accounts =
    map-append (λ (g : ShelfValue). g.account) gs (s ∷ []) ∙ ap (λ x. accounts ++ x ∷ []) a
    ∙ sym (next_last account_key (λ (x : Account). x.number) account accounts (λ x. refl) (accounts_run gs h) (omega (arith, next, length-map gs (λ (g : ShelfValue). g.account)))) in
    (λ k. record {
      accounts = p k;
      campaigns = grouped_push (λ (g : ShelfValue). g.campaigns) gs s cs k;
      budgets = grouped_push (λ (g : ShelfValue). g.budgets) gs s bs k;
      lines = grouped_push (λ (g : ShelfValue). g.lines) gs s ls k;
      negatives = grouped_push (λ (g : ShelfValue). g.negatives) gs s ns k;
      placements = [];
      batches = grouped_push (λ (g : ShelfValue). g.batches) gs s ks k;
    })

left_none : (spare : Spare) → HasLeftSpare 1 no_spare spare
left_none spare = record { campaigns = omega arith; budgets = omega arith; lines = omega arith; negatives = omega arith; batches = omega arith }

left_more : (xs : List Spare) (y : Spare) (k : ℕ) → HasLeftSpare 1 (get_or xs k no_spare) (get_or (xs ++ y ∷ []) k no_spare)
left_more [] y zero = left_none y
left_more [] y (suc k) = left_none no_spare
left_more (x ∷ xs) y zero = left_alike 1 x
left_more (x ∷ xs) y (suc k) = left_more xs y k

pub push_left : (before after : ℕ) (gs : List ShelfValue) (s : ShelfValue) → before ≤ after + 1 → HasLeft 1 (room_of before gs) (room_of after (gs ++ s ∷ []))
push_left before after gs s h = record {
  accounts = h;
  rows = λ account. subst (λ xs. HasLeftSpare 1 (get_or (map (λ (g : ShelfValue). g.spare) gs) (account - 1) no_spare) (get_or xs (account - 1) no_spare)) (sym (map-append (λ (g : ShelfValue). g.spare) gs (s ∷ [])))
      (left_more (map (λ (g : ShelfValue). g.spare) gs) s.spare (account - 1));
}

pub on_ok : {A E : Type 0} (r : Result A E) (P Q : Type 0) → (P → Q) → OnOk r P → OnOk r Q
on_ok (Ok x) P Q f h = f h
on_ok (Err e) P Q f h = h
