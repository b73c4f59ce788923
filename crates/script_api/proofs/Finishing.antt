-- The start and the end of a script.
use Rattle.std.proofs.Common.{◌≡◌, ◌≢◌, ℕ, ◌<◌, ◌^◌, true, List, [], ◌++◌, Option, Some, None, IfSome, Ok, Err, refl, sym, ap, subst, arith}
use Rattle.std.specs.Prelude.{flat_map}
use Rattle.desk_types.specs.Journal.{IsLegal}
use Rattle.desk_types.specs.Serving.{ServiceView}
use Rattle.desk_types.proofs.ServedInTurn.{AreServed-none}
use Rattle.desk_io.specs.NumberedLines.{unread}
use Rattle.desk_io.specs.NumberedValue.{NumberedValue}
use Rattle.desk_io.specs.Putting.{Puts, Flushes}
use Rattle.desk_io.specs.SinkView.{SinkView}
use Rattle.desk_io.specs.SourceView.{SourceView}
use Rattle.desk_io.specs.Writing.{Appends}
use Rattle.desk_io.specs.declared.out_buf.WriteFault.{WriteFault}
use Rattle.desk_io.proofs.Appending.{Appends_none, Appends_more}
use Rattle.desk_io.proofs.Putting.{puts_nothing, puts_unflushed}
use Rattle.desk_io.proofs.ReadSoFar.{read-none}
use Rattle.script_api.specs.declared.ending.ScriptEnd.{ScriptEnd}
use Rattle.script_api.specs.declared.ending.ScriptEnd.TheVariants.{WriteFault as write_fault, NoMemory}
use Rattle.script_api.specs.ReplyLine.{answer_line}
use Rattle.script_api.specs.ScriptRun.{ScriptState, script_at, EndKind, ByBytes, ByRead, ByWrite, ByMemory, AreFirstOf, AreWritten, EndCause, IsRun, kind_of}
use Rattle.script_api.specs.ScriptTurn.{midway, IsSoFar, IsEnding, IsWholeRun}
use Rattle.script_api.specs.ScriptValue.{script_of}
use Rattle.script_api.proofs.Spelling.{spell-none}
use Rattle.script_api.proofs.Turning.{made-firsts, broken, put-none}

unread-none : (lines : NumberedValue) (left : Option (List ℕ)) → lines.held ≡ [] → unread lines left ≡ left
unread-none lines None none = refl
unread-none lines (Some bytes) none = ap (λ (held : List ℕ). Some (held ++ bytes)) none

-- before the first line
pub so_far-none : (service : ServiceView) (source : SourceView) (sink : SinkView) (lines : NumberedValue) (waiting : List ℕ) → IsLegal service.opening.settings service.seen →
    IfSome sink.taken (λ n. n < 2 ^ 64) → lines ≡ record { count = 0; held = []; text = []; is_ended = true } → waiting ≡ [] →
    IsSoFar (script_at service source sink) (midway (script_at service source sink) lines waiting)
so_far-none service source sink lines waiting legal fits new none = record {
  texts = [];
  read = read-none source.left source.left lines (unread-none lines source.left (ap (λ (l : NumberedValue). l.held) new)) (ap (λ (l : NumberedValue). l.count) new);
  served = record {
    calls = [];
    made = record {
      results = [];
      served = AreServed-none service legal;
      puts = subst (λ (bytes : List ℕ). Puts {T = Unit {0}} {E = WriteFault} sink sink [] bytes [] (Ok tt)) (sym none) (puts_nothing fits);
      read_faults = omega arith;
    };
    spell = spell-none;
  };
}

-- want of memory before the first line
pub run-none : (service : ServiceView) (source : SourceView) (sink : SinkView) → IsLegal service.opening.settings service.seen → IfSome sink.taken (λ n. n < 2 ^ 64) →
    IsRun (script_at service source sink) (script_at service source sink) NoMemory
run-none service source sink legal fits = record {
  calls = [];
  results = [];
  served = AreServed-none service legal;
  made = none source.left;
  lines = Appends_none sink fits;
}
  where
    none : (left : Option (List ℕ)) → IfSome left (λ bytes. AreFirstOf [] (script_of bytes).calls)
    none None = tt
    none (Some bytes) = ((script_of bytes).calls, refl)

all-written : (kind : EndKind) (sink sink' : SinkView) (lines : List ℕ) → kind ≢ ByWrite → Appends sink sink' lines → AreWritten kind sink sink' lines
all-written ByBytes sink sink' lines other appends = appends
all-written ByRead sink sink' lines other appends = appends
all-written ByWrite sink sink' lines other appends = absurd (other refl)
all-written ByMemory sink sink' lines other appends = appends

same-cause : (kind : EndKind) (source source' : SourceView) (sink sink' sink'' : SinkView) → kind ≢ ByWrite → EndCause kind source source' sink sink' → EndCause kind source source' sink sink''
same-cause ByBytes source source' sink sink' sink'' other cause = tt
same-cause ByRead source source' sink sink' sink'' other cause = cause
same-cause ByWrite source source' sink sink' sink'' other cause = absurd (other refl)
same-cause ByMemory source source' sink sink' sink'' other cause = tt

module _ (start : ScriptState) (service : ServiceView) (source : SourceView) (sink sink' : SinkView) (lines : NumberedValue) (waiting waiting' : List ℕ) (ending : ScriptEnd)
    (ends : IsEnding start (midway (script_at service source sink) lines waiting) ending) where
  sent-all : Appends sink sink' waiting → Appends start.sink sink' (flat_map answer_line ends.served.results)
  sent-all rest =
      let put = ends.served.puts.put in
      subst (λ (bytes : List ℕ). Appends start.sink sink' bytes) put.2 (Appends_more start.sink sink sink' put.0 waiting put.1 rest)

  -- what waits was written at the end
  pub ends-flushed : Flushes {T = Unit {0}} {E = WriteFault} sink sink' waiting waiting' (Ok tt) → IsWholeRun start (script_at service source sink') ending
  ends-flushed flushes = record {
    run = record {
      calls = ends.calls;
      results = ends.served.results;
      served = ends.served.served;
      made = ends.made;
      lines = all-written (kind_of ending) start.sink sink' (flat_map answer_line ends.served.results) ends.other (sent-all flushes.sends.sent);
    };
    all_read = ends.all_read;
    cause = same-cause (kind_of ending) start.source source start.sink sink sink' ends.other ends.cause;
    read_faults = ends.served.read_faults;
    write_faults = omega (arith, ends.served.puts.faults, flushes.sends.faults);
  }

  -- a write failed at the end
  pub ends-unflushed : (e : WriteFault) → Flushes {T = Unit {0}} sink sink' waiting waiting' (Err e) → IsWholeRun start (script_at service source sink') write_fault
  ends-unflushed e flushes =
      broken e start (script_at service source sink') ends.calls ends.served.results waiting' ends.served.served
      (put-none start service service source source sink sink' lines lines waiting waiting' ends.calls ends.served (Err e) (puts_unflushed {T = Unit {0}} flushes refl))
      ends.served.read_faults (made-firsts start.source.left source.left ending ends.calls ends.made)
