-- Searches in a journal.
use Rattle.std.specs.Prelude.{Bool, ◌&&◌}
use Rattle.desk_types.specs.declared.entry.Entry.{Entry}
use Rattle.desk_types.specs.Summary.{is_answered, is_search}

-- whether an entry is of a search that was answered
unfoldable pub is_answered_search : Entry → Bool
is_answered_search e = is_search e.call && is_answered e.outcome
