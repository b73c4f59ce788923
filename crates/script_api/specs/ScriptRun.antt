-- How a script is run: which of its calls are made, with which results, and what is written.
use Rattle.std.specs.Prelude.{◌≡◌, ℕ, List, ◌++◌, flat_map, Option, IfSome, Result}
use Rattle.desk_types.specs.declared.call.Call.{Call}
use Rattle.desk_types.specs.declared.entry.Fault.{Fault}
use Rattle.desk_types.specs.declared.reply.Reply.{Reply}
use Rattle.desk_types.specs.Serving.{ServiceView, AreServed}
use Rattle.desk_io.specs.Faults.{Rose}
use Rattle.desk_io.specs.NumberedLines.{NumberedText, AreCutOff}
use Rattle.desk_io.specs.Putting.{BreaksOff}
use Rattle.desk_io.specs.SinkView.{SinkView}
use Rattle.desk_io.specs.SourceView.{SourceView}
use Rattle.desk_io.specs.Writing.{Appends}
use Rattle.script_api.specs.declared.ending.ScriptEnd.{ScriptEnd}
use Rattle.script_api.specs.declared.ending.ScriptEnd.TheVariants.{Ended, BadLine, LongLine, TooManyLines, ReadFault, WriteFault, NoMemory}
use Rattle.script_api.specs.ReplyLine.{answer_line}
use Rattle.script_api.specs.ScriptValue.{script_of}

-- what ended a script: its bytes, a read that failed, a write that failed, or want of memory
pub data EndKind : Type 0 where
  ByBytes : EndKind
  ByRead : EndKind
  ByWrite : EndKind
  ByMemory : EndKind

abbrev pub kind_of : ScriptEnd → EndKind
kind_of Ended = ByBytes
kind_of (BadLine number) = ByBytes
kind_of (LongLine number) = ByBytes
kind_of TooManyLines = ByBytes
kind_of ReadFault = ByRead
kind_of WriteFault = ByWrite
kind_of NoMemory = ByMemory

-- a service, its input and its output, before or after a script
pub record ScriptState : Type 0 where
  pub service : ServiceView
  pub source : SourceView
  pub sink : SinkView

abbrev pub script_at : ServiceView → SourceView → SinkView → ScriptState
script_at service source sink = record { service = service; source = source; sink = sink }

-- the calls are the first of others, or all of them
abbrev pub AreFirstOf : List (ℕ × Call) → List (ℕ × Call) → Type 0
AreFirstOf calls all = (rest : List (ℕ × Call)) × (all ≡ calls ++ rest)

-- a failed read cut a script off: the lines of what was read up to its last line feed do not end it, and theirs are the
-- calls that were made
pub record IsCutOff (bytes : List ℕ) (left : Option (List ℕ)) (calls : List (ℕ × Call)) : Type 0 where
  pub texts : List NumberedText
  pub read : AreCutOff bytes left texts
  pub spelled : script_of read.part ≡ record { calls = calls; end = Ended }

-- the calls that are made of the script of some bytes: all of them where it ended as the bytes say, and the first of
-- them where a read failed, which are those of what was read, or a write, or where memory was wanted
abbrev pub AreMade : EndKind → List ℕ → Option (List ℕ) → ScriptEnd → List (ℕ × Call) → Type 0
AreMade ByBytes bytes left ending calls = script_of bytes ≡ record { calls = calls; end = ending }
AreMade ByRead bytes left ending calls = AreFirstOf calls (script_of bytes).calls × IsCutOff bytes left calls
AreMade ByWrite bytes left ending calls = AreFirstOf calls (script_of bytes).calls
AreMade ByMemory bytes left ending calls = AreFirstOf calls (script_of bytes).calls

-- the lines are written: all of them, but after a failed write a beginning and not all
abbrev pub AreWritten : EndKind → SinkView → SinkView → List ℕ → Type 0
AreWritten ByBytes sink sink_now lines = Appends sink sink_now lines
AreWritten ByRead sink sink_now lines = Appends sink sink_now lines
AreWritten ByWrite sink sink_now lines = BreaksOff sink sink_now lines
AreWritten ByMemory sink sink_now lines = Appends sink sink_now lines

-- a fault is the end only where its count rose
abbrev pub EndCause : EndKind → SourceView → SourceView → SinkView → SinkView → Type 0
EndCause ByBytes source source_now sink sink_now = Unit {0}
EndCause ByRead source source_now sink sink_now = Rose source.faults source_now.faults
EndCause ByWrite source source_now sink sink_now = Rose sink.faults sink_now.faults
EndCause ByMemory source source_now sink sink_now = Unit {0}

-- a run of the script that a source holds: calls are made and served one after another, and the lines of their results
-- are written
pub record IsRun (before after : ScriptState) (ending : ScriptEnd) : Type 0 where
  pub calls : List (ℕ × Call)
  pub results : List (Result Reply Fault)
  pub served : AreServed before.service calls results after.service
  pub made : IfSome before.source.left (λ bytes. AreMade (kind_of ending) bytes after.source.left ending calls)
  pub lines : AreWritten (kind_of ending) before.sink after.sink (flat_map answer_line results)
