-- The rules of tables: none is broken where each row keeps each rule of its table behind the rows before it.
use Rattle.std.proofs.Common.{◌≡◌, ℕ, ◌+◌, true, inl, inr, List, [], ◌∷◌, ◌++◌, length, Option, None, Some, refl, sym, ap, ◌∙◌}
use Rattle.std.specs.Option.{option_or}
use Rattle.std.proofs.lemmas.Bool.{cases_Bool, cond-true, cond-false}
use Rattle.desk_types.specs.declared.tables.BadTables.{BadTables}
use Rattle.desk_types.specs.declared.tables.Tables.{Tables}
use Rattle.desk_types.specs.Rules.{AreSound, Rule, account_rules, bad_or, batch_rules, broken, budget_rules, campaign_rules, first_bad, first_broken, first_there, line_rules, negative_rules, placement_rules}
use Rattle.desk_types.proofs.Behind.{Behind}

-- each of these rules is kept
abbrev pub AllKept : List Rule → Type 0
AllKept [] = Unit {0}
AllKept (r ∷ rules) = (r.is_kept ≡ true) × AllKept rules

-- each row keeps its rules
abbrev pub KeepRules : {A : Type 0} → (List A → A → List Rule) → List A → Type 0
KeepRules rules rows = Behind (λ before x. AllKept (rules before x)) [] rows

all_kept : (rules : List Rule) → first_broken rules ≡ None → AllKept rules
all_kept [] h = tt
all_kept (r ∷ rules) h =
    elim (cases_Bool r.is_kept) [
      | inl t ↦ (t, all_kept rules (sym (cond-true r.is_kept (first_broken rules) (Some r.number) t) ∙ h))
      | inr t ↦ absurd (some_is_none r.number (sym (cond-false r.is_kept (first_broken rules) (Some r.number) t) ∙ h))
    ]
  where
    some_is_none : (n : ℕ) → Some n ≡ None → ⊥
    some_is_none n h = cc

none_broken : (rules : List Rule) → AllKept rules → first_broken rules ≡ None
none_broken [] h = refl
none_broken (r ∷ rules) h = cond-true r.is_kept (first_broken rules) (Some r.number) h.0 ∙ none_broken rules h.1

bad_parts : (table row : ℕ) (rule : Option ℕ) (later : Option BadTables) → bad_or table row rule later ≡ None → (rule ≡ None) × (later ≡ None)
bad_parts table row None later h = (refl, h)
bad_parts table row (Some rule) later h = absurd cc

none_bad : (table row : ℕ) (rule : Option ℕ) (later : Option BadTables) → rule ≡ None → later ≡ None → bad_or table row rule later ≡ None
none_bad table row None later h k = k
none_bad table row (Some rule) later h k = absurd cc

keep_behind : {A : Type 0} (table : ℕ) (rules : List A → A → List Rule) (before rows : List A) → first_bad table rules before rows ≡ None → Behind (λ b x. AllKept (rules b x)) before rows
unfolding first_bad
keep_behind table rules before [] h = tt
keep_behind table rules before (row ∷ rows) h =
    let parts = bad_parts table (length before + 1) (first_broken (rules before row)) (first_bad table rules (before ++ row ∷ []) rows) h in
    (all_kept (rules before row) parts.0, keep_behind table rules (before ++ row ∷ []) rows parts.1)

none_behind : {A : Type 0} (table : ℕ) (rules : List A → A → List Rule) (before rows : List A) → Behind (λ b x. AllKept (rules b x)) before rows → first_bad table rules before rows ≡ None
unfolding first_bad
none_behind table rules before [] h = refl
none_behind table rules before (row ∷ rows) h =
    none_bad table (length before + 1) (first_broken (rules before row)) (first_bad table rules (before ++ row ∷ []) rows) (none_broken (rules before row) h.0)
    (none_behind table rules (before ++ row ∷ []) rows h.1)

-- the rows of each table keep their rules
pub record RowsKeepRules (T : Tables) : Type 0 where
  pub accounts : KeepRules account_rules T.accounts
  pub campaigns : KeepRules (campaign_rules T) T.campaigns
  pub budgets : KeepRules (budget_rules T) T.budgets
  pub lines : KeepRules (line_rules T) T.lines
  pub negatives : KeepRules (negative_rules T) T.negatives
  pub placements : KeepRules (placement_rules T) T.placements
  pub batches : KeepRules (batch_rules T) T.batches

-- none of these is there
abbrev NoneThere : List (Option BadTables) → Type 0
NoneThere [] = Unit {0}
NoneThere (found ∷ later) = (found ≡ None) × NoneThere later

or_parts : (found later : Option BadTables) → option_or found later ≡ None → (found ≡ None) × (later ≡ None)
or_parts None later h = (refl, h)
or_parts (Some bad) later h = absurd cc

none_there : (found : List (Option BadTables)) → first_there found ≡ None → NoneThere found
none_there [] h = tt
none_there (found ∷ later) h = let parts = or_parts found (first_there later) h in (parts.0, none_there later parts.1)

none_first : (found later : Option BadTables) → found ≡ None → later ≡ None → option_or found later ≡ None
none_first found later h k = ap (λ f. option_or f later) h ∙ k

-- what the tables are tested for
abbrev tests : Tables → List (Option BadTables)
tests T =
    first_bad 1 account_rules [] T.accounts
    ∷ first_bad 2 (campaign_rules T) [] T.campaigns
    ∷ first_bad 3 (budget_rules T) [] T.budgets
    ∷ first_bad 4 (line_rules T) [] T.lines
    ∷ first_bad 5 (negative_rules T) [] T.negatives
    ∷ first_bad 6 (placement_rules T) [] T.placements
    ∷ first_bad 7 (batch_rules T) [] T.batches
    ∷ []

pub rows_keep : (T : Tables) → AreSound T → RowsKeepRules T
unfolding broken
rows_keep T h =
    let none = none_there (tests T) h in
    record {
      accounts = keep_behind 1 account_rules [] T.accounts none.0;
      campaigns = keep_behind 2 (campaign_rules T) [] T.campaigns none.1.0;
      budgets = keep_behind 3 (budget_rules T) [] T.budgets none.1.1.0;
      lines = keep_behind 4 (line_rules T) [] T.lines none.1.1.1.0;
      negatives = keep_behind 5 (negative_rules T) [] T.negatives none.1.1.1.1.0;
      placements = keep_behind 6 (placement_rules T) [] T.placements none.1.1.1.1.1.0;
      batches = keep_behind 7 (batch_rules T) [] T.batches none.1.1.1.1.1.1.0;
    }

pub sound_if_kept : (T : Tables) → RowsKeepRules T → AreSound T
unfolding broken
sound_if_kept T h =
    none_first _ _ (none_behind 1 account_rules [] T.accounts h.accounts)
    (none_first _ _ (none_behind 2 (campaign_rules T) [] T.campaigns h.campaigns)
    (none_first _ _ (none_behind 3 (budget_rules T) [] T.budgets h.budgets)
    (none_first _ _ (none_behind 4 (line_rules T) [] T.lines h.lines)
    (none_first _ _ (none_behind 5 (negative_rules T) [] T.negatives h.negatives)
    (none_first _ _ (none_behind 6 (placement_rules T) [] T.placements h.placements)
    (none_first _ _ (none_behind 7 (batch_rules T) [] T.batches h.batches) refl))))))
