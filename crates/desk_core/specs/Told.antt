-- The reply that is made of what is told.
use Rattle.std.specs.Prelude.{IsTrue, is_some, Result, Ok, Err, ⊤}
use Rattle.desk_types.specs.declared.entry.Fault.{Fault}
use Rattle.desk_types.specs.declared.reply.Reply.{Reply}
use Rattle.desk_types.specs.declared.reply.Reply.TheVariants as reply
use Rattle.desk_types.specs.declared.tables.Tables.{Tables}
use Rattle.desk_types.specs.Changes.{link_of}
use Rattle.desk_types.specs.Tables.{line_of}
use Rattle.desk_core.specs.declared.told.Told.{Told}
use Rattle.desk_core.specs.declared.told.Told.TheVariants.{Made, Done, Imported, Credited, HostDay, Day, ShownRows, Page, Link, Refused}

-- the reply that is told: a link is told by its line
abbrev pub replied : Tables → Told → Reply
replied T (Made number) = reply.Made number
replied T Done = reply.Done
replied T (Imported first count) = reply.Imported first count
replied T (Credited price) = reply.Credited price
replied T (HostDay numbers) = reply.HostDay numbers
replied T (Day report) = reply.Day report
replied T (ShownRows rows) = reply.ShownRows rows
replied T (Page spots) = reply.Page spots
replied T (Link account line) = reply.Went (link_of T account line)
replied T (Refused refusal) = reply.Refused refusal

-- the result of a call that is told so
abbrev pub result_told : Tables → Result Told Fault → Result Reply Fault
result_told T (Ok told) = Ok (replied T told)
result_told T (Err fault) = Err fault

-- the line of a link that is told is there
abbrev pub IsThere : Tables → Told → Type 0
IsThere T (Link account line) = IsTrue (is_some (line_of T account line))
IsThere T _ = ⊤

-- a reply goes to no link
abbrev pub HasNoLink : Reply → Type 0
HasNoLink (reply.Went link) = ⊥
HasNoLink _ = ⊤
