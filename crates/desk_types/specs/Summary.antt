-- What the summary of a journal counts.
use Rattle.std.specs.Prelude.{ℕ, ◌-◌, ◌^◌, min, Bool, true, false, ◌&&◌, List, length, filter, sum_by, count_by}
use Rattle.desk_types.specs.declared.call.Call.{Call}
use Rattle.desk_types.specs.declared.call.Call.TheVariants.{Search}
use Rattle.desk_types.specs.declared.entry.Entry.{Entry}
use Rattle.desk_types.specs.declared.entry.Outcome.{Outcome}
use Rattle.desk_types.specs.declared.entry.Outcome.TheVariants.{Answered, Faulted}
use Rattle.desk_types.specs.declared.rows.Placement.{Placement}
use Rattle.desk_types.specs.declared.summary.Summary.{Summary}
use Rattle.desk_types.specs.Money.{is_spent}
use Rattle.desk_types.specs.Run.{run}
use Rattle.desk_types.specs.State.{State}

-- whether an entry tells of a keeper's fault
abbrev pub is_faulted : Outcome → Bool
is_faulted Answered = false
is_faulted (Faulted before after) = true

abbrev pub is_answered : Outcome → Bool
is_answered Answered = true
is_answered (Faulted before after) = false

-- whether a call is a search
abbrev pub is_search : Call → Bool
is_search (Search text places) = true
is_search _ = false

-- the prices of those of the placements that a click settled, added up; a greater sum than the greatest `u64` counts as
-- that
abbrev pub cents_of : List Placement → ℕ
cents_of ps = min (sum_by (λ p. p.price) (filter (λ p. is_spent p.fate) ps)) (2 ^ 64 - 1)

-- the summary of a journal that begins from a state
unfoldable pub summary : State → List Entry → Summary
summary S entries = let ps = (run S entries).tables.placements in record {
  entries = length entries;
  faulted = count_by (λ e. is_faulted e.outcome) entries;
  searches = count_by (λ e. is_search e.call && is_answered e.outcome) entries;
  placements = length ps;
  settled = count_by (λ p. is_spent p.fate) ps;
  cents = cents_of ps;
}
