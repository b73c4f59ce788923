use Rattle.std.proofs.Common.{rules, ◌≡◌, ◌==◌, ◌&&◌, false, sym, ap, subst, ◌∙◌, ◌∷◌, [], arith}
use Rattle.std.specs.Option.{option_copied}
use Rattle.std.proofs.lemmas.List.{get_or_default}
use Rattle.std.proofs.lemmas.List.Sorted.{IsPartitionPoint-from_clause}
use Rattle.desk_types.specs.Keys.{is_less_key}
use Rattle.desk_types.proofs.InOrder.{Ordered-from}
use Rattle.desk_types.proofs.Places.{parted, place_from}
use Rattle.desk_keeper.specs.OwnRows.{own_key}
use Rattle.desk_keeper.proofs.OwnRows.{both_same, found_at, found_nowhere, other_account, other_number}
use Rattle.desk_keeper.proofs.soundness.own_rows.find_own.Goals as goal
use Rattle.desk_keeper.proofs.soundness.own_rows.find_own.Goals.{else-account-via-then-account+else-number, else-account-via-else-account}

pub returns-in_err-row : goal.returns-in_err-row
returns-in_err-row g c =
    let owner = g.R.OwnRow.owner in
    let key = own_key owner g.R.OwnRow.place in
    let wanted = c.args.account ∷ c.args.number ∷ [] in
    let rows = c.args.rows.now in
    let at = place_from key wanted rows c.partition_point-place.result (IsPartitionPoint-from_clause (λ r. is_less_key (key r) wanted) _ _ c.partition_point-place.ensures.partitioned (parted key wanted rows c.requires.in_order) (λ a r q k. search rules)) in
    let high = c.in_err-row.ensures.lookup.3 in
    ap option_copied c.from_residual.ensures
    ∙ sym (found_nowhere owner g.R.OwnRow.place c.args.account c.args.number rows c.partition_point-place.result (Ordered-from key rows c.requires.in_order) at (λ d low. absurd (omega (arith, low, high))))

pub returns-then-number : goal.returns-then-number
returns-then-number g c =
    let owner = g.R.OwnRow.owner in
    let place = g.R.OwnRow.place in
    let key = own_key owner place in
    let wanted = c.args.account ∷ c.args.number ∷ [] in
    let rows = c.args.rows.now in
    let row = c.in_ok-row.row.now in
    let at = place_from key wanted rows c.partition_point-place.result (IsPartitionPoint-from_clause (λ r. is_less_key (key r) wanted) _ _ c.partition_point-place.ensures.partitioned (parted key wanted rows c.requires.in_order) (λ a r q k. search rules)) in
    let found = c.in_ok-row.ensures.lookup in
    sym (found_at owner place c.args.account c.args.number rows c.partition_point-place.result row at found.3.0 found.1
    (both_same (owner row) (place row) c.args.account c.args.number (sym c.account.ensures ∙ c.if-account.true) (sym c.number.ensures ∙ c.if-number.true)))

pub returns-else-account : goal.returns-else-account
returns-else-account g c =
    let owner = g.R.OwnRow.owner in
    let place = g.R.OwnRow.place in
    let key = own_key owner place in
    let wanted = c.args.account ∷ c.args.number ∷ [] in
    let rows = c.args.rows.now in
    let row = c.in_ok-row.row.now in
    let at = place_from key wanted rows c.partition_point-place.result (IsPartitionPoint-from_clause (λ r. is_less_key (key r) wanted) _ _ c.partition_point-place.ensures.partitioned (parted key wanted rows c.requires.in_order) (λ a r q k. search rules)) in
    let found = c.in_ok-row.ensures.lookup in
    let other : (owner row == c.args.account && place row == c.args.number) ≡ false =
    elim c.else-account.branch [
      | else-account-via-then-account+else-number w ↦ other_number (owner row) (place row) c.args.account c.args.number (λ e. w.if-number.false (w.number.ensures ∙ e))
      | else-account-via-else-account w ↦ other_account (owner row) (place row) c.args.account c.args.number (λ e. w.if-account.false (c.account.ensures ∙ e))
    ] in
    sym (found_nowhere owner place c.args.account c.args.number rows c.partition_point-place.result (Ordered-from key rows c.requires.in_order) at
    (λ d low. subst (λ r. (owner r == c.args.account && place r == c.args.number) ≡ false) (found.1 ∙ get_or_default rows c.partition_point-place.result row d low) other))
