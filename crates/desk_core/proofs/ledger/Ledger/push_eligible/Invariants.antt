use Rattle.std.proofs.Common.{◌≡◌, ◌++◌, filter, map, take}
use Rattle.desk_types.specs.Eligible.{ad_of, is_eligible}
use Rattle.desk_core.proofs.ledger.Ledger.push_eligible.Given as goal

abbrev pub invariant-loop-line : goal.invariant-loop-line
invariant-loop-line l = l.ads.items ≡ l.initial.ads.items ++ map ad_of (filter (is_eligible l.self.state l.query) (take l.line-index l.lines))
