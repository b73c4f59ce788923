use Rattle.std.proofs.Common.{◌≡◌, ℕ, ◌==◌, ◌&&◌, take}
use Rattle.std.specs.HashSet.{contains}
use Rattle.std.specs.List.{list_any}
use Rattle.desk_keeper.specs.OwnRows.{is_same_pair}
use Rattle.desk_keeper.proofs.soundness.campaigns.budgeted.Given as goal

abbrev pub invariant-loop-row : goal.invariant-loop-row
invariant-loop-row l =
    (account campaign : ℕ) → contains is_same_pair l.found (account, campaign) ≡ list_any (λ b. b.account == account && b.campaign == campaign) (take l.row-index l.budgets)
