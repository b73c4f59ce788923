-- Each row of sound tables can be put behind those before it.
use Rattle.std.proofs.Common.{◌≡◌, ℕ, zero, suc, ◌+◌, ◌<◌, Bool, true, false, inr, List, [], ◌∷◌, ◌++◌, length, get_or, take, Option, None, Some, refl, sym, if◌then◌else◌, take-suc, ap, subst, ◌∙◌, append_assoc, append-nil, arith}
use Rattle.std.specs.Option.{option_or}
use Rattle.std.proofs.lemmas.Bool.{and_parts, eqb-true}
use Rattle.std.proofs.lemmas.List.{get_or_default, get_or-take, length-take-le}
use Rattle.desk_types.specs.declared.rows.Account.{Account}
use Rattle.desk_types.specs.declared.rows.Batch.{Batch}
use Rattle.desk_types.specs.declared.rows.BudgetSet.{BudgetSet}
use Rattle.desk_types.specs.declared.rows.Campaign.{Campaign}
use Rattle.desk_types.specs.declared.rows.Line.{Line}
use Rattle.desk_types.specs.declared.rows.Negative.{Negative}
use Rattle.desk_types.specs.declared.tables.BadTables.{BadTables}
use Rattle.desk_types.specs.declared.tables.Change.{Change}
use Rattle.desk_types.specs.declared.tables.Change.TheVariants.{PutAccount, PutBatch, PutBudget, PutCampaign, PutLine, PutNegative}
use Rattle.desk_types.specs.declared.tables.Tables.{Tables}
use Rattle.desk_types.specs.Keys.{account_key, batch_key, budget_key, campaign_key, is_less_key, line_key, negative_key}
use Rattle.desk_types.specs.Rules.{AreSound, Rule, account_rules, bad_or, batch_rules, broken, budget_rules, campaign_rules, first_bad, first_broken, has_account, line_rules, negative_rules, placement_rules}
use Rattle.desk_types.specs.Sound.{AreInOrder}
use Rattle.desk_types.specs.Tables.{no_rows, put, put_row}
use Rattle.desk_types.proofs.EachRow.{Each}
use Rattle.desk_types.proofs.InOrder.{Each-from_All}
use Rattle.desk_types.proofs.Puts.{put_last}
use Rattle.accounts.specs.AtHome.{HasOwner, IsAtHome}
use Rattle.accounts.specs.LoadedTables.{with_accounts, with_budgets, with_campaigns, with_lines, with_negatives}
use Rattle.accounts.proofs.SoundTables.{order_of}

-- a list whose rows stand in order, put one after another
pub put_next : {A : Type 0} (key : A → List ℕ) (rows : List A) (k : ℕ) (d : A) → AreInOrder key rows → k < length rows
    → put_row key (get_or rows k d) (take k rows) ≡ take (k + 1) rows
put_next {A} key rows k d order low =
    let count : length (take k rows) ≡ k = length-take-le k rows (omega (arith, low)) in
    let row = get_or rows k d in
    let below : Each (λ (r : A). is_less_key (key r) (key row) ≡ true) (take k rows) = Each-from_All (λ (r : A). is_less_key (key r) (key row) ≡ true) (take k rows) (λ i e before.
    let low_i : i < k = omega (arith, before, count) in
    subst (λ (r : A). is_less_key (key r) (key row) ≡ true) (sym (get_or-take k rows i e low_i))
    (subst (λ (r : A). is_less_key (key (get_or rows i e)) (key r) ≡ true) (get_or_default rows k e d low) (order i k e low_i low))) in
    let next : k + 1 ≡ suc k = omega arith in
    put_last key row (take k rows) below ∙ sym (ap (λ n. take n rows) next ∙ taken_next rows k d low)
  where
    taken_next : (l : List A) (j : ℕ) (e : A) → j < length l → take (suc j) l ≡ take j l ++ get_or l j e ∷ []
    taken_next l j e h = take-suc l j e h

-- the rule that a row breaks
found_none : (o later : Option BadTables) → option_or o later ≡ None → (o ≡ None) × (later ≡ None)
found_none None later h = (refl, h)
found_none (Some bad) later h = absurd cc

broken_none : (table row : ℕ) (o : Option ℕ) (later : Option BadTables) → bad_or table row o later ≡ None → (o ≡ None) × (later ≡ None)
broken_none table row None later h = (refl, h)
broken_none table row (Some rule) later h = absurd cc

pub row_kept : {A : Type 0} (table : ℕ) (rules : List A → A → List Rule) (before rows : List A) (k : ℕ) (d : A) → first_bad table rules before rows ≡ None → k < length rows
    → first_broken (rules (before ++ take k rows) (get_or rows k d)) ≡ None
unfolding first_bad
row_kept table rules before [] k d h low = absurd (omega (arith, low))
row_kept table rules before (row ∷ rows) zero d h low =
    subst (λ l. first_broken (rules l row) ≡ None) (sym (append-nil before)) (broken_none table (length before + 1) (first_broken (rules before row)) _ h).0
row_kept table rules before (row ∷ rows) (suc k) d h low =
    subst (λ l. first_broken (rules l (get_or rows k d)) ≡ None) (append_assoc before (row ∷ []) (take k rows))
    (row_kept table rules (before ++ row ∷ []) rows k d (broken_none table (length before + 1) (first_broken (rules before row)) _ h).1 (omega (arith, low)))

-- each of a row's rules is kept
abbrev KeepsEach : List Rule → Type 0
KeepsEach [] = Unit {0}
KeepsEach (r ∷ rules) = (r.is_kept ≡ true) × KeepsEach rules

if_kept : (b : Bool) (number : ℕ) (later : Option ℕ) → (if b then later else Some number) ≡ None → (b ≡ true) × (later ≡ None)
if_kept true number later h = (refl, h)
if_kept false number later h = absurd cc

keeps_each : (rules : List Rule) → first_broken rules ≡ None → KeepsEach rules
keeps_each [] h = tt
keeps_each (r ∷ rules) h =
    let kept = if_kept r.is_kept r.number (first_broken rules) h in
    (kept.0, keeps_each rules kept.1)

-- sound tables break no rule
pub tables_kept : (T : Tables) → AreSound T
    → (first_bad 1 account_rules [] T.accounts ≡ None) × (first_bad 2 (campaign_rules T) [] T.campaigns ≡ None) × (first_bad 3 (budget_rules T) [] T.budgets ≡ None)
    × (first_bad 4 (line_rules T) [] T.lines ≡ None) × (first_bad 5 (negative_rules T) [] T.negatives ≡ None) × (first_bad 6 (placement_rules T) [] T.placements ≡ None)
    × (first_bad 7 (batch_rules T) [] T.batches ≡ None)
unfolding broken
tables_kept T h =
    let a = found_none (first_bad 1 account_rules [] T.accounts) _ h in
    let b = found_none (first_bad 2 (campaign_rules T) [] T.campaigns) _ a.1 in
    let c = found_none (first_bad 3 (budget_rules T) [] T.budgets) _ b.1 in
    let d = found_none (first_bad 4 (line_rules T) [] T.lines) _ c.1 in
    let e = found_none (first_bad 5 (negative_rules T) [] T.negatives) _ d.1 in
    let f = found_none (first_bad 6 (placement_rules T) [] T.placements) _ e.1 in
    let g = found_none (first_bad 7 (batch_rules T) [] T.batches) _ f.1 in
    (a.0, b.0, c.0, d.0, e.0, f.0, g.0)

-- a change can be put into tables, and makes these of them
abbrev pub IsNextRow : Tables → Change → Tables → Type 0
IsNextRow B change after = HasOwner B change × IsAtHome B change × (put B change ≡ after)

next_account : (T : Tables) (k : ℕ) (d : Account) → AreSound T → k < length T.accounts
    → IsNextRow (record no_rows { accounts = take k T.accounts }) (PutAccount (get_or T.accounts k d)) (record no_rows { accounts = take (k + 1) T.accounts })
unfolding account_rules put
next_account T k d h low =
    let row = get_or T.accounts k d in
    let kept = keeps_each (account_rules (take k T.accounts) row) (row_kept 1 account_rules [] T.accounts k d (tables_kept T h).0 low) in (
      tt,
      inr (eqb-true row.number (length (take k T.accounts) + 1) kept.1.1.0),
      (λ i. record no_rows { accounts = put_next account_key T.accounts k d (order_of T h).accounts low i }),
    )

next_campaign : (T : Tables) (k : ℕ) (d : Campaign) → AreSound T → k < length T.campaigns
    → IsNextRow (record (with_accounts T) { campaigns = take k T.campaigns }) (PutCampaign (get_or T.campaigns k d)) (record (with_accounts T) { campaigns = take (k + 1) T.campaigns })
unfolding campaign_rules put
next_campaign T k d h low =
    let row = get_or T.campaigns k d in
    let kept = keeps_each (campaign_rules T (take k T.campaigns) row) (row_kept 2 (campaign_rules T) [] T.campaigns k d (tables_kept T h).1 low) in (
      kept.1.1.0,
      (kept.1.1.0, inr (eqb-true row.number _ kept.1.0)),
      (λ i. record (with_accounts T) { campaigns = put_next campaign_key T.campaigns k d (order_of T h).campaigns low i }),
    )

next_budget : (T : Tables) (k : ℕ) (d : BudgetSet) → AreSound T → k < length T.budgets
    → IsNextRow (record (with_campaigns T) { budgets = take k T.budgets }) (PutBudget (get_or T.budgets k d)) (record (with_campaigns T) { budgets = take (k + 1) T.budgets })
unfolding budget_rules put
next_budget T k d h low =
    let row = get_or T.budgets k d in
    let kept = keeps_each (budget_rules T (take k T.budgets) row) (row_kept 3 (budget_rules T) [] T.budgets k d (tables_kept T h).2 low) in
    let there = (and_parts (has_account T row.account) _ kept.1.1.0).0 in (
      there,
      there,
      (λ i. record (with_campaigns T) { budgets = put_next budget_key T.budgets k d (order_of T h).budgets low i }),
    )

next_line : (T : Tables) (k : ℕ) (d : Line) → AreSound T → k < length T.lines
    → IsNextRow (record (with_budgets T) { lines = take k T.lines }) (PutLine (get_or T.lines k d)) (record (with_budgets T) { lines = take (k + 1) T.lines })
unfolding line_rules put
next_line T k d h low =
    let row = get_or T.lines k d in
    let kept = keeps_each (line_rules T (take k T.lines) row) (row_kept 4 (line_rules T) [] T.lines k d (tables_kept T h).3 low) in
    let there = (and_parts (has_account T row.account) _ kept.1.1.1.0).0 in (
      there,
      (there, inr (eqb-true row.number _ kept.1.1.0)),
      (λ i. record (with_budgets T) { lines = put_next line_key T.lines k d (order_of T h).lines low i }),
    )

next_negative : (T : Tables) (k : ℕ) (d : Negative) → AreSound T → k < length T.negatives
    → IsNextRow (record (with_lines T) { negatives = take k T.negatives }) (PutNegative (get_or T.negatives k d)) (record (with_lines T) { negatives = take (k + 1) T.negatives })
unfolding negative_rules put
next_negative T k d h low =
    let row = get_or T.negatives k d in
    let kept = keeps_each (negative_rules T (take k T.negatives) row) (row_kept 5 (negative_rules T) [] T.negatives k d (tables_kept T h).4 low) in
    let there = (and_parts (has_account T row.account) _ kept.1.1.0).0 in (
      there,
      (there, inr (eqb-true row.number _ kept.1.0)),
      (λ i. record (with_lines T) { negatives = put_next negative_key T.negatives k d (order_of T h).negatives low i }),
    )

next_batch : (T : Tables) (k : ℕ) (d : Batch) → AreSound T → k < length T.batches
    → IsNextRow (record (with_negatives T) { batches = take k T.batches }) (PutBatch (get_or T.batches k d)) (record (with_negatives T) { batches = take (k + 1) T.batches })
unfolding batch_rules put
next_batch T k d h low =
    let row = get_or T.batches k d in
    let kept = keeps_each (batch_rules T (take k T.batches) row) (row_kept 7 (batch_rules T) [] T.batches k d (tables_kept T h).6 low) in
    let there = (and_parts (has_account T row.account) _ kept.1.1.0).0 in (
      there,
      there,
      (λ i. record (with_negatives T) { batches = put_next batch_key T.batches k d (order_of T h).batches low i }),
    )

-- the same of rows that are read, and of tables that are so far put
pub account_read : (T B : Tables) (rows : List Account) (k : ℕ) (d : Account) → AreSound T → rows ≡ T.accounts → B ≡ record no_rows { accounts = take k rows } → k < length rows
    → IsNextRow B (PutAccount (get_or rows k d)) (record no_rows { accounts = take (k + 1) rows })
account_read T B rows k d h e is low =
    subst (λ X. IsNextRow X (PutAccount (get_or rows k d)) (record no_rows { accounts = take (k + 1) rows })) (sym is)
    (subst (λ rs. k < length rs → IsNextRow (record no_rows { accounts = take k rs }) (PutAccount (get_or rs k d)) (record no_rows { accounts = take (k + 1) rs })) (sym e) (next_account T k d h) low)

pub campaign_read : (T B : Tables) (rows : List Campaign) (k : ℕ) (d : Campaign) → AreSound T → rows ≡ T.campaigns → B ≡ record (with_accounts T) { campaigns = take k rows } → k < length rows
    → IsNextRow B (PutCampaign (get_or rows k d)) (record (with_accounts T) { campaigns = take (k + 1) rows })
campaign_read T B rows k d h e is low =
    subst (λ X. IsNextRow X (PutCampaign (get_or rows k d)) (record (with_accounts T) { campaigns = take (k + 1) rows })) (sym is)
    (subst (λ rs. k < length rs → IsNextRow (record (with_accounts T) { campaigns = take k rs }) (PutCampaign (get_or rs k d)) (record (with_accounts T) { campaigns = take (k + 1) rs })) (sym e) (next_campaign T k d h) low)

pub budget_read : (T B : Tables) (rows : List BudgetSet) (k : ℕ) (d : BudgetSet) → AreSound T → rows ≡ T.budgets → B ≡ record (with_campaigns T) { budgets = take k rows } → k < length rows
    → IsNextRow B (PutBudget (get_or rows k d)) (record (with_campaigns T) { budgets = take (k + 1) rows })
budget_read T B rows k d h e is low =
    subst (λ X. IsNextRow X (PutBudget (get_or rows k d)) (record (with_campaigns T) { budgets = take (k + 1) rows })) (sym is)
    (subst (λ rs. k < length rs → IsNextRow (record (with_campaigns T) { budgets = take k rs }) (PutBudget (get_or rs k d)) (record (with_campaigns T) { budgets = take (k + 1) rs })) (sym e) (next_budget T k d h) low)

pub line_read : (T B : Tables) (rows : List Line) (k : ℕ) (d : Line) → AreSound T → rows ≡ T.lines → B ≡ record (with_budgets T) { lines = take k rows } → k < length rows
    → IsNextRow B (PutLine (get_or rows k d)) (record (with_budgets T) { lines = take (k + 1) rows })
line_read T B rows k d h e is low =
    subst (λ X. IsNextRow X (PutLine (get_or rows k d)) (record (with_budgets T) { lines = take (k + 1) rows })) (sym is)
    (subst (λ rs. k < length rs → IsNextRow (record (with_budgets T) { lines = take k rs }) (PutLine (get_or rs k d)) (record (with_budgets T) { lines = take (k + 1) rs })) (sym e) (next_line T k d h) low)

pub negative_read : (T B : Tables) (rows : List Negative) (k : ℕ) (d : Negative) → AreSound T → rows ≡ T.negatives → B ≡ record (with_lines T) { negatives = take k rows } → k < length rows
    → IsNextRow B (PutNegative (get_or rows k d)) (record (with_lines T) { negatives = take (k + 1) rows })
negative_read T B rows k d h e is low =
    subst (λ X. IsNextRow X (PutNegative (get_or rows k d)) (record (with_lines T) { negatives = take (k + 1) rows })) (sym is)
    (subst (λ rs. k < length rs → IsNextRow (record (with_lines T) { negatives = take k rs }) (PutNegative (get_or rs k d)) (record (with_lines T) { negatives = take (k + 1) rs })) (sym e) (next_negative T k d h) low)

pub batch_read : (T B : Tables) (rows : List Batch) (k : ℕ) (d : Batch) → AreSound T → rows ≡ T.batches → B ≡ record (with_negatives T) { batches = take k rows } → k < length rows
    → IsNextRow B (PutBatch (get_or rows k d)) (record (with_negatives T) { batches = take (k + 1) rows })
batch_read T B rows k d h e is low =
    subst (λ X. IsNextRow X (PutBatch (get_or rows k d)) (record (with_negatives T) { batches = take (k + 1) rows })) (sym is)
    (subst (λ rs. k < length rs → IsNextRow (record (with_negatives T) { batches = take k rs }) (PutBatch (get_or rs k d)) (record (with_negatives T) { batches = take (k + 1) rs })) (sym e) (next_batch T k d h) low)
