-- What a call says beside the answers to its input.
use Rattle.std.specs.Prelude.{ℕ, Bool, List, [], ◌++◌, codes, decimal, if◌then◌else◌}
use Rattle.desk_types.specs.declared.summary.Summary.{Summary}
use Rattle.desk_types.specs.declared.tables.BadTables.{BadTables}
use Rattle.desk_server.specs.declared.served.Totals.{Totals}
use Rattle.printouts.specs.declared.status.TheConstants.{ENDED, WORDS_REFUSED, BAD_TABLES, KEEPER_FAULT, DOOR_FAULT}
use Rattle.printouts.specs.Printout.{Printout}

-- what is said of words that no command has
abbrev pub refused_printout : Printout
refused_printout = record { text = codes "words refused\n"; status = WORDS_REFUSED }

-- the line of tables that break a rule: the rule, the table and the row
abbrev pub bad_tables_text : BadTables → List ℕ
bad_tables_text bad =
    codes "bad tables " ++ (decimal bad.rule ++ (codes " " ++ (decimal bad.table ++ (codes " " ++ (decimal bad.row
    ++ codes "\n")))))

-- what is said of a keeper whose tables break a rule, and of one that failed
abbrev pub bad_tables_printout : BadTables → Printout
bad_tables_printout bad = record { text = bad_tables_text bad; status = BAD_TABLES }

abbrev pub keeper_fault_printout : Printout
keeper_fault_printout = record { text = codes "keeper fault\n"; status = KEEPER_FAULT }

-- the line of a summary: its six numbers behind their names
abbrev pub summary_text : Summary → List ℕ
summary_text s =
    codes "entries " ++ (decimal s.entries ++ (codes " faulted " ++ (decimal s.faulted ++ (codes " searches "
    ++ (decimal s.searches ++ (codes " placements " ++ (decimal s.placements ++ (codes " settled "
    ++ (decimal s.settled ++ (codes " cents " ++ (decimal s.cents ++ codes "\n")))))))))))

abbrev pub summary_printout : Summary → Printout
summary_printout s = record { text = summary_text s; status = ENDED }

-- how many sessions were held and how many messages answered
abbrev pub totals_text : Totals → List ℕ
totals_text totals =
    codes "served " ++ (decimal totals.sessions ++ (codes " sessions " ++ (decimal totals.messages
    ++ codes " messages\n")))

-- the line behind the summary where a door failed, and the status
abbrev pub door_text : Bool → List ℕ
door_text failed = if failed then codes "door fault\n" else []

abbrev pub door_status : Bool → ℕ
door_status failed = if failed then DOOR_FAULT else ENDED

-- what is said of a desk that was served: what was done, the summary of the journal, and whether a door failed
abbrev pub served_printout : Totals → Summary → Printout
served_printout totals s = record {
  text = totals_text totals ++ (summary_text s ++ door_text totals.door_failed);
  status = door_status totals.door_failed;
}
