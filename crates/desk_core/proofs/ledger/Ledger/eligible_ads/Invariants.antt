use Rattle.std.proofs.Common.{◌≡◌, filter, map}
use Rattle.desk_types.specs.Eligible.{ad_of, is_eligible}
use Rattle.desk_core.proofs.Owned.{lines_up_to}
use Rattle.desk_core.proofs.ledger.Ledger.eligible_ads.Given as goal

abbrev pub invariant-loop-before : goal.invariant-loop-before
invariant-loop-before l = l.ads.items ≡ map ad_of (filter (is_eligible l.self.state l.query) (lines_up_to l.self.state.tables.lines l.before))
