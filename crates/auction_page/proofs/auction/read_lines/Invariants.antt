use Rattle.std.proofs.Common.{◌≡◌, ◌≤◌, ◌-◌}
use Rattle.desk_io.specs.declared.limits.TheConstants.{INPUT_LINES_MAX}
use Rattle.auction_page.specs.Ending.{IsReading}
use Rattle.auction_page.proofs.auction.read_lines.Given as goal

-- what was read so far has no fault
abbrev pub invariant-loop : goal.invariant-loop
invariant-loop g l = record {
  reading : IsReading (g.S.Source.source l.fn.input).left l.lines (g.S.Source.source l.input).left l.reading;
  within : l.lines.count ≤ INPUT_LINES_MAX;
  faults : (g.S.Source.source l.fn.input).faults ≤ (g.S.Source.source l.input).faults;
  sink_side : g.S.Source.sink_side l.input ≡ g.S.Source.sink_side l.fn.input;
}

abbrev pub decreases-loop : goal.decreases-loop
decreases-loop g l = INPUT_LINES_MAX - l.lines.count
