use Rattle.std.proofs.Common.{◌≡◌, take}
use Rattle.ad_reports.specs.Totals.{AreOf, totals_of}
use Rattle.ad_reports.proofs.totals.totals_of.Given as goal

-- the sums of the campaigns so far
abbrev pub invariant-loop-row : goal.invariant-loop-row
invariant-loop-row l = record {
  sums : l.totals ≡ totals_of (take l.row-index l.rows);
  few : AreOf l.row-index l.totals;
}
