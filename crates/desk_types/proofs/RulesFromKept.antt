-- Tables of which all is kept are sound.
use Rattle.std.proofs.Common.{◌≡◌, ℕ, ◌+◌, ◌≤◌, true, ◌==◌, ◌&&◌, List, [], ◌∷◌, ◌++◌, arith}
use Rattle.std.specs.Prelude.{nat_le}
use Rattle.std.proofs.lemmas.Bool.{and_from, eq-eqb}
use Rattle.std.proofs.lemmas.Bool.Decides.{nat_tests}
use Rattle.desk_types.specs.declared.limits.TheConstants.{ACCOUNTS_MAX, CAMPAIGNS_MAX, CLICK_WINDOW, LINES_MAX, NEGATIVES_MAX}
use Rattle.desk_types.specs.declared.rows.Placement.{Placement}
use Rattle.desk_types.specs.Fields.{is_key}
use Rattle.desk_types.specs.Keys.{account_key, batch_key, budget_key, campaign_key, line_key, negative_key, placement_key}
use Rattle.desk_types.specs.Rules.{AreSound, account_rules, batch_rules, budget_rules, campaign_rules, has_account, has_budget, has_campaign, has_line_of, has_lines_of, is_good_batch, is_good_budget, is_good_line, is_good_placement, is_in_turn, is_in_window, last_passes, line_rules, negative_rules, placement_rules}
use Rattle.desk_types.specs.Sound.{AreInOrder}
use Rattle.desk_types.specs.State.{State}
use Rattle.desk_types.proofs.Behind.{Behind, Behind-both, Behind-from_All, IsBehindLast, climb_behind, differ_behind, fit_behind, groups_behind, room_behind, run_behind}
use Rattle.desk_types.proofs.Kept.{AreInTurn, IsKept}
use Rattle.desk_types.proofs.KeptFromRules.{is_less_row, is_not_later, lines_alike, negatives_alike}
use Rattle.desk_types.proofs.PaidFor.{paid_if_within}
use Rattle.desk_types.proofs.RulesBroken.{KeepRules, RowsKeepRules, sound_if_kept}

-- both hold of each row
abbrev And : {A : Type 0} → (List A → A → Type 0) → (List A → A → Type 0) → List A → A → Type 0
And K L before x = K before x × L before x

both_behind : {A : Type 0} (K L : List A → A → Type 0) (rows : List A) → Behind K [] rows → Behind L [] rows → Behind (And K L) [] rows
both_behind K L rows h k = Behind-both K L (And K L) [] rows (λ b x m n. (m, n)) h k

no_more : {A : Type 0} (before rows : List A) → Behind (λ b x. Unit {0}) before rows
no_more before [] = tt
no_more before (row ∷ rows) = (tt, no_more (before ++ row ∷ []) rows)

in_order : {A : Type 0} (key : A → List ℕ) (rows : List A) → AreInOrder key rows → Behind (IsBehindLast (is_less_row key)) [] rows
in_order key rows h = climb_behind (is_less_row key) rows h

accounts_keep : (S : State) → IsKept S → KeepRules account_rules S.tables.accounts
unfolding account_rules
accounts_keep S h =
    let rows = S.tables.accounts in
    both_behind _ _ rows (in_order account_key rows h.almost.in_order.accounts)
    (both_behind _ _ rows (Behind-from_All (λ a. is_key a.key ≡ true) rows h.almost.fields.accounts)
    (both_behind _ _ rows (run_behind (λ a. a.number) rows h.almost.numbered.accounts)
    (both_behind _ _ rows (fit_behind ACCOUNTS_MAX rows h.almost.limits.accounts) (no_more [] rows))))

campaigns_keep : (S : State) → IsKept S → KeepRules (campaign_rules S.tables) S.tables.campaigns
unfolding campaign_rules
campaigns_keep S h =
    let T = S.tables in
    let rows = T.campaigns in
    both_behind _ _ rows (in_order campaign_key rows h.almost.in_order.campaigns)
    (both_behind _ _ rows (groups_behind (λ c. c.account) (λ c. c.number) rows h.almost.numbered.campaigns)
    (both_behind _ _ rows (Behind-from_All (λ c. has_account T c.account ≡ true) rows h.almost.named.campaigns)
    (both_behind _ _ rows (room_behind (λ c. c.account) CAMPAIGNS_MAX rows h.almost.limits.campaigns)
    (both_behind _ _ rows (Behind-from_All (λ c. has_budget T c ≡ true) rows h.budgets) (no_more [] rows)))))

budgets_keep : (S : State) → IsKept S → KeepRules (budget_rules S.tables) S.tables.budgets
unfolding budget_rules
budgets_keep S h =
    let T = S.tables in
    let rows = T.budgets in
    both_behind _ _ rows (in_order budget_key rows h.almost.in_order.budgets)
    (both_behind _ _ rows (Behind-from_All (λ b. is_good_budget b ≡ true) rows h.almost.fields.budgets)
    (both_behind _ _ rows (Behind-from_All (λ b. has_campaign T b.account b.campaign ≡ true) rows h.almost.named.budgets) (no_more [] rows)))

lines_keep : (S : State) → IsKept S → KeepRules (line_rules S.tables) S.tables.lines
unfolding line_rules
lines_keep S h =
    let T = S.tables in
    let rows = T.lines in
    both_behind _ _ rows (in_order line_key rows h.almost.in_order.lines)
    (both_behind _ _ rows (Behind-from_All (λ l. is_good_line l ≡ true) rows h.almost.fields.lines)
    (both_behind _ _ rows (groups_behind (λ l. l.account) (λ l. l.number) rows h.almost.numbered.lines)
    (both_behind _ _ rows (Behind-from_All (λ l. has_campaign T l.account l.campaign ≡ true) rows h.almost.named.lines)
    (both_behind _ _ rows (differ_behind lines_alike rows h.almost.apart.lines)
    (both_behind _ _ rows (room_behind (λ l. l.account) LINES_MAX rows h.almost.limits.lines) (no_more [] rows))))))

negatives_keep : (S : State) → IsKept S → KeepRules (negative_rules S.tables) S.tables.negatives
unfolding negative_rules
negatives_keep S h =
    let T = S.tables in
    let rows = T.negatives in
    both_behind _ _ rows (in_order negative_key rows h.almost.in_order.negatives)
    (both_behind _ _ rows (groups_behind (λ n. n.account) (λ n. n.number) rows h.almost.numbered.negatives)
    (both_behind _ _ rows (Behind-from_All (λ n. has_campaign T n.account n.campaign ≡ true) rows h.almost.named.negatives)
    (both_behind _ _ rows (differ_behind negatives_alike rows h.almost.apart.negatives)
    (both_behind _ _ rows (room_behind (λ n. n.account) NEGATIVES_MAX rows h.almost.limits.negatives) (no_more [] rows)))))

-- rule 8
not_later : (m n : ℕ) → m ≤ n → nat_le m n ≡ true
not_later m n h = grind (arith, nat_tests)

abbrev IsInWindow : List Placement → Placement → Type 0
IsInWindow before p = (p.deadline == p.shown + CLICK_WINDOW && is_in_window p p.fate) ≡ true

turns_behind : (rows : List Placement) → AreInTurn rows → Behind (λ b p. is_in_turn b p ≡ true) [] rows
turns_behind rows h =
    let moments = climb_behind is_not_later rows (λ i j d low high. not_later _ _ (h.moments i j d low high)) in
    let windows =
    Behind-both (λ b p. p.deadline ≡ p.shown + CLICK_WINDOW) (λ b p. is_in_window p p.fate ≡ true) IsInWindow [] rows
    (λ b p m n. and_from (p.deadline == p.shown + CLICK_WINDOW) (is_in_window p p.fate) (eq-eqb p.deadline (p.shown + CLICK_WINDOW) m) n)
    (Behind-from_All (λ p. p.deadline ≡ p.shown + CLICK_WINDOW) rows h.deadlines) (Behind-from_All (λ p. is_in_window p p.fate ≡ true) rows h.windows) in
    Behind-both (IsBehindLast is_not_later) IsInWindow (λ b p. is_in_turn b p ≡ true) [] rows
    (λ b p m n. and_from (last_passes (λ q. nat_le q.shown p.shown) b) (p.deadline == p.shown + CLICK_WINDOW && is_in_window p p.fate) m n) moments windows

placements_keep : (S : State) → IsKept S → KeepRules (placement_rules S.tables) S.tables.placements
unfolding placement_rules
placements_keep S h =
    let T = S.tables in
    let rows = T.placements in
    both_behind _ _ rows (in_order placement_key rows h.almost.in_order.placements)
    (both_behind _ _ rows (Behind-from_All (λ p. is_good_placement p ≡ true) rows h.almost.fields.placements)
    (both_behind _ _ rows (run_behind (λ p. p.number) rows h.almost.numbered.placements)
    (both_behind _ _ rows (Behind-from_All (λ p. (has_campaign T p.account p.campaign && has_line_of T p) ≡ true) rows h.almost.named.placements)
    (both_behind _ _ rows (turns_behind rows h.almost.in_turn)
    (both_behind _ _ rows (paid_if_within S.settings T h.almost.paid) (no_more [] rows))))))

batches_keep : (S : State) → IsKept S → KeepRules (batch_rules S.tables) S.tables.batches
unfolding batch_rules
batches_keep S h =
    let T = S.tables in
    let rows = T.batches in
    both_behind _ _ rows (in_order batch_key rows h.almost.in_order.batches)
    (both_behind _ _ rows (Behind-from_All (λ b. is_good_batch b ≡ true) rows h.almost.fields.batches)
    (both_behind _ _ rows (Behind-from_All (λ b. (has_account T b.account && has_lines_of T b) ≡ true) rows h.almost.named.batches) (no_more [] rows)))

pub rules_from : (S : State) → IsKept S → AreSound S.tables
rules_from S h =
    let rules : RowsKeepRules S.tables = record {
      accounts = accounts_keep S h;
      campaigns = campaigns_keep S h;
      budgets = budgets_keep S h;
      lines = lines_keep S h;
      negatives = negatives_keep S h;
      placements = placements_keep S h;
      batches = batches_keep S h;
    } in
    sound_if_kept S.tables rules
