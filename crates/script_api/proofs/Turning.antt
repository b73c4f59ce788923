-- The turns of a script, one after another.
use Rattle.std.proofs.Common.{◌≡◌, ◌≢◌, ℕ, ◌≤◌, Bool, true, false, inl, inr, List, [], ◌∷◌, ◌++◌, Option, Some, None, IfSome, Result, Ok, Err, refl, sym, ap, subst, ◌∙◌, append-nil, arith}
use Rattle.std.specs.Prelude.{flat_map, if◌then◌else◌}
use Rattle.std.proofs.lemmas.Bool.{cases_Bool}
use Rattle.std.proofs.lemmas.List.Concat.{flat_map-append}
use Rattle.desk_types.specs.declared.call.Call.{Call}
use Rattle.desk_types.specs.declared.entry.Fault.{Fault}
use Rattle.desk_types.specs.declared.reply.Reply.{Reply}
use Rattle.desk_types.specs.Serving.{ServiceView, Serves, AreServed}
use Rattle.desk_types.proofs.ServedInTurn.{AreServed-one, AreServed-append}
use Rattle.desk_io.specs.Faults.{Rose}
use Rattle.desk_io.specs.Lines.{has_line_feed, lines as lines_of}
use Rattle.desk_io.specs.NumberedLines.{is_skipped, NumberedText, ToldLines, texts_of, behind_texts, lines_told, unread, told, IsStep, ReadSoFar, AreCutOff}
use Rattle.desk_io.specs.NumberedValue.{NumberedValue}
use Rattle.desk_io.specs.Putting.{Puts}
use Rattle.desk_io.specs.SinkView.{SinkView}
use Rattle.desk_io.specs.SourceView.{SourceView}
use Rattle.desk_io.specs.declared.numbered_lines.LineFault.{LineFault}
use Rattle.desk_io.specs.declared.numbered_lines.LineFault.TheVariants as fault
use Rattle.desk_io.specs.declared.out_buf.WriteFault.{WriteFault}
use Rattle.desk_io.proofs.Putting.{puts_again}
use Rattle.desk_io.proofs.ReadSoFar.{read-line, read-last, read-through, read-first, read-all, read-cut_off, step-last, texts_of-spoken, texts_of-skipped}
use Rattle.script_api.specs.declared.ending.ScriptEnd.{ScriptEnd}
use Rattle.script_api.specs.declared.ending.ScriptEnd.TheVariants.{Ended, ReadFault, WriteFault as write_fault, NoMemory}
use Rattle.script_api.specs.declared.line.ScriptLine.TheVariants.{Timed}
use Rattle.script_api.specs.ReplyLine.{answer_line}
use Rattle.script_api.specs.Script.{script_line}
use Rattle.script_api.specs.ScriptRun.{ScriptState, script_at, EndKind, ByBytes, ByRead, ByWrite, ByMemory, AreFirstOf, AreMade, EndCause, IsCutOff, kind_of}
use Rattle.script_api.specs.ScriptTurn.{SpellOn, Midway, midway, AreCallsServed, AreTextsServed, IsSoFar, IsAtLine, IsEnding, IsWholeRun, Goes}
use Rattle.script_api.specs.ScriptValue.{ScriptValue, calls_of, form_end, end_of, script_of}
use Rattle.script_api.proofs.Spelling.{spell-text, script-all, script-first, script-ended}

rose_later : (before between now : ℕ) → before ≤ between → Rose between now → Rose before now
rose_later before between now low rose = omega arith

-- all calls are the first of them
first-all : (script : ScriptValue) (calls : List (ℕ × Call)) (ending : ScriptEnd) → script ≡ record { calls = calls; end = ending } → AreFirstOf calls script.calls
first-all script calls ending is = ([], ap (λ (s : ScriptValue). s.calls) is ∙ sym (append-nil calls))

made-first : (kind : EndKind) (bytes : List ℕ) (left : Option (List ℕ)) (ending : ScriptEnd) (calls : List (ℕ × Call)) → AreMade kind bytes left ending calls → AreFirstOf calls (script_of bytes).calls
made-first ByBytes bytes left ending calls made = first-all (script_of bytes) calls ending made
made-first ByRead bytes left ending calls made = made.0
made-first ByWrite bytes left ending calls made = made
made-first ByMemory bytes left ending calls made = made

pub made-firsts : (whole left : Option (List ℕ)) (ending : ScriptEnd) (calls : List (ℕ × Call)) → IfSome whole (λ bytes. AreMade (kind_of ending) bytes left ending calls) → IfSome whole (λ bytes. AreFirstOf calls (script_of bytes).calls)
made-firsts None left ending calls made = tt
made-firsts (Some bytes) left ending calls made = made-first (kind_of ending) bytes left ending calls made

module _ (texts : List NumberedText) (calls : List (ℕ × Call)) (spell : SpellOn texts calls) where
  told-first : (whole : Option (List ℕ)) → IfSome whole (λ bytes. (rest : ToldLines) × (lines_told 0 (lines_of bytes) ≡ behind_texts texts rest)) →
      IfSome whole (λ bytes. AreFirstOf calls (script_of bytes).calls)
  told-first None told = tt
  told-first (Some bytes) (rest, told) = script-first bytes texts calls spell rest told

  told-all : (whole : Option (List ℕ)) (end : Result ℕ LineFault) → IfSome whole (λ bytes. lines_told 0 (lines_of bytes) ≡ record { texts = texts; end = end }) →
      IfSome whole (λ bytes. script_of bytes ≡ record { calls = calls; end = end_of end })
  told-all None end told = tt
  told-all (Some bytes) end told = script-all bytes texts calls spell end told

  told-ended : (whole : Option (List ℕ)) (line : NumberedText) (ending : ScriptEnd) → form_end line.number (script_line line.text) ≡ Some ending →
      IfSome whole (λ bytes. (rest : ToldLines) × (lines_told 0 (lines_of bytes) ≡ behind_texts (texts ++ line ∷ []) rest)) → IfSome whole (λ bytes. script_of bytes ≡ record { calls = calls; end = ending })
  told-ended None line ending ends told = tt
  told-ended (Some bytes) line ending ends (rest, told) = script-ended bytes texts calls spell rest line ending told ends

  cut-off : (whole left : Option (List ℕ)) → IfSome whole (λ bytes. AreCutOff bytes left texts) → IfSome whole (λ bytes. IsCutOff bytes left calls)
  cut-off None left cut = tt
  cut-off (Some bytes) left cut = record { texts = texts; read = cut; spelled = script-all cut.part texts calls spell (Ok cut.count) cut.told }

both : {A : Type 0} (P Q : A → Type 0) (o : Option A) → IfSome o P → IfSome o Q → IfSome o (λ x. P x × Q x)
both P Q None p q = tt
both P Q (Some x) p q = (p, q)

-- a failed write ends the script
pub broken : (e : WriteFault) (start after : ScriptState) (calls : List (ℕ × Call)) (results : List (Result Reply Fault)) (waiting : List ℕ) → AreServed start.service calls results after.service →
    Puts {T = Unit {0}} start.sink after.sink [] waiting (flat_map answer_line results) (Err e) → start.source.faults ≤ after.source.faults →
    IfSome start.source.left (λ bytes. AreFirstOf calls (script_of bytes).calls) → IsWholeRun start after write_fault
broken e start after calls results waiting served puts low first = record {
  run = record { calls = calls; results = results; served = served; made = first; lines = puts.broken };
  all_read = λ is. absurd (cc);
  cause = puts.cause;
  read_faults = low;
  write_faults = puts.faults;
}

module _ (start : ScriptState) (service service' : ServiceView) (source source' : SourceView) (sink sink' : SinkView) (lines lines' : NumberedValue) (waiting waiting' : List ℕ) (calls : List (ℕ × Call))
    (made : AreCallsServed start (midway (script_at service source sink) lines waiting) calls) where
  -- more was read
  calls-read : source.faults ≤ source'.faults → AreCallsServed start (midway (script_at service source' sink) lines' waiting) calls
  calls-read rose = record { results = made.results; served = made.served; puts = made.puts; read_faults = omega (arith, made.read_faults) }

  put-more : {E : Type 0} (result : Result (Unit {0}) E) (bytes : List ℕ) → Puts sink sink' waiting waiting' bytes result → Puts start.sink sink' [] waiting' (flat_map answer_line made.results ++ bytes) result
  put-more result bytes more = puts_again made.puts more

  pub put-none : {E : Type 0} (result : Result (Unit {0}) E) → Puts sink sink' waiting waiting' [] result → Puts start.sink sink' [] waiting' (flat_map answer_line made.results) result
  put-none result more = subst (λ (bytes : List ℕ). Puts start.sink sink' [] waiting' bytes result) (append-nil (flat_map answer_line made.results)) (put-more result [] more)

  -- what waited was written
  calls-flushed : Puts {T = Unit {0}} {E = WriteFault} sink sink' waiting waiting' [] (Ok tt) → AreCallsServed start (midway (script_at service source sink') lines' waiting') calls
  calls-flushed more = record { results = made.results; served = made.served; puts = put-none (Ok tt) more; read_faults = made.read_faults }

  module _ (moment : ℕ) (call : Call) (answer : Result Reply Fault) (serves : Serves service moment call answer service') where
    served-more : AreServed start.service (calls ++ (moment, call) ∷ []) (made.results ++ answer ∷ []) service'
    served-more = AreServed-append start.service service service' calls ((moment, call) ∷ []) made.results (answer ∷ []) made.served (AreServed-one service service' moment call answer serves)

    put-answer : {E : Type 0} (result : Result (Unit {0}) E) → Puts sink sink' waiting waiting' (answer_line answer) result → Puts start.sink sink' [] waiting' (flat_map answer_line (made.results ++ answer ∷ [])) result
    put-answer result more =
        let one : flat_map answer_line (made.results ++ answer ∷ []) ≡ flat_map answer_line made.results ++ answer_line answer = flat_map-append answer_line made.results (answer ∷ []) ∙ ap (λ (bytes : List ℕ). flat_map answer_line made.results ++ bytes) (append-nil (answer_line answer)) in
        subst (λ (bytes : List ℕ). Puts start.sink sink' [] waiting' bytes result) (sym one) (put-more result (answer_line answer) more)

    -- one more call was made and answered
    calls-more : Puts {T = Unit {0}} {E = WriteFault} sink sink' waiting waiting' (answer_line answer) (Ok tt) → AreCallsServed start (midway (script_at service' source sink') lines' waiting') (calls ++ (moment, call) ∷ [])
    calls-more more = record { results = made.results ++ answer ∷ []; served = served-more; puts = put-answer (Ok tt) more; read_faults = made.read_faults }

-- the bytes end the script
ending-told : (start : ScriptState) (now : Midway) (calls : List (ℕ × Call)) (ending : ScriptEnd) → kind_of ending ≡ ByBytes → AreCallsServed start now calls →
    IfSome start.source.left (λ bytes. script_of bytes ≡ record { calls = calls; end = ending }) → (ending ≡ Ended → IfSome now.at.source.left (λ bytes. bytes ≡ [])) → IsEnding start now ending
ending-told start now calls ending by_bytes served told all_read = record {
  calls = calls;
  served = served;
  made = subst (λ (kind : EndKind). IfSome start.source.left (λ bytes. AreMade kind bytes now.at.source.left ending calls)) (sym by_bytes) told;
  other = λ is. absurd (cc);
  all_read = all_read;
  cause = subst (λ (kind : EndKind). EndCause kind start.source now.at.source start.sink now.at.sink) (sym by_bytes) tt;
}

kind-told : (end : Result ℕ LineFault) → kind_of (end_of end) ≡ ByBytes
kind-told (Ok count) = refl
kind-told (Err (fault.BadLine number)) = refl
kind-told (Err (fault.LongLine number)) = refl
kind-told (Err fault.TooManyLines) = refl

pub not-ended : (past : LineFault) → end_of (Err past) ≢ Ended
not-ended (fault.BadLine number) is = cc
not-ended (fault.LongLine number) is = cc
not-ended fault.TooManyLines is = cc

module _ (start : ScriptState) (service : ServiceView) (source source' : SourceView) (sink sink' : SinkView) (lines lines' : NumberedValue) (waiting waiting' : List ℕ)
    (so_far : IsSoFar start (midway (script_at service source sink) lines waiting)) where
  was : AreCallsServed start (midway (script_at service source sink) lines waiting) so_far.served.calls
  was = so_far.served.made

  -- what waits was written before a read
  pub turn-flushed : lines' ≡ lines → Puts {T = Unit {0}} {E = WriteFault} sink sink' waiting waiting' [] (Ok tt) → IsSoFar start (midway (script_at service source sink') lines' waiting')
  turn-flushed same flushed = record {
    texts = so_far.texts;
    read = subst (λ (l : NumberedValue). ReadSoFar start.source.left so_far.texts l source.left) (sym same) so_far.read;
    served = record {
      calls = so_far.served.calls;
      made = calls-flushed start service service source source sink sink' lines lines' waiting waiting' so_far.served.calls was flushed;
      spell = so_far.served.spell;
    };
  }

  pub turn-unflushed : (e : WriteFault) → Puts {T = Unit {0}} sink sink' waiting waiting' [] (Err e) → IsWholeRun start (script_at service source sink') write_fault
  turn-unflushed e flushed =
      broken e start (script_at service source sink') so_far.served.calls was.results waiting' was.served
      (put-none start service service source source sink sink' lines lines waiting waiting' so_far.served.calls was (Err e) flushed) was.read_faults
      (told-first so_far.texts so_far.served.calls so_far.served.spell start.source.left (read-first so_far.texts lines source.left start.source.left so_far.read))

  -- a line was read
  module _ (step : IsStep lines lines' source.left source'.left) (rose : source.faults ≤ source'.faults) where
    pub turn-text : is_skipped lines'.text ≡ false → IsAtLine start (midway (script_at service source' sink) lines' waiting)
    turn-text spoken = record {
      texts = so_far.texts;
      was = lines;
      left = source.left;
      read = so_far.read;
      step = step;
      spoken = spoken;
      served = record {
        calls = so_far.served.calls;
        made = calls-read start service service source source' sink sink' lines lines' waiting waiting' so_far.served.calls was rose;
        spell = so_far.served.spell;
      };
    }

  -- no line is left, or the next one goes past a limit
  pub turn-told : (end : Result ℕ LineFault) → IfSome (told lines source.left) (λ told. told ≡ record { texts = []; end = end }) → source.faults ≤ source'.faults →
      (end_of end ≡ Ended → IfSome source'.left (λ bytes. bytes ≡ [])) → IsEnding start (midway (script_at service source' sink) lines' waiting) (end_of end)
  turn-told end none rose all_read =
      ending-told start (midway (script_at service source' sink) lines' waiting) so_far.served.calls (end_of end) (kind-told end)
      (calls-read start service service source source' sink sink' lines lines' waiting waiting' so_far.served.calls was rose)
      (told-all so_far.texts so_far.served.calls so_far.served.spell start.source.left end (read-all so_far.texts lines source.left start.source.left end so_far.read none)) all_read

  -- a read failed
  pub turn-cut : unread lines' source'.left ≡ unread lines source.left → has_line_feed lines'.held ≡ false → Rose source.faults source'.faults → source.faults ≤ source'.faults →
      IsEnding start (midway (script_at service source' sink) lines' waiting) ReadFault
  turn-cut same no_feed rose low = record {
    calls = so_far.served.calls;
    served = calls-read start service service source source' sink sink' lines lines' waiting waiting' so_far.served.calls was low;
    made = both (λ bytes. AreFirstOf so_far.served.calls (script_of bytes).calls) (λ bytes. IsCutOff bytes source'.left so_far.served.calls) start.source.left
        (told-first so_far.texts so_far.served.calls so_far.served.spell start.source.left (read-first so_far.texts lines source.left start.source.left so_far.read))
        (cut-off so_far.texts so_far.served.calls so_far.served.spell start.source.left source'.left (read-cut_off so_far.texts lines source.left start.source.left lines' source'.left so_far.read same no_feed));
    other = λ is. absurd (cc);
    all_read = λ is. absurd (cc);
    cause = rose_later _ _ _ was.read_faults rose;
  }

-- a line was served, and the script goes on behind its line feed
turn-on : (start : ScriptState) (now : Midway) (texts : List NumberedText) (was : NumberedValue) (left : Option (List ℕ)) → ReadSoFar start.source.left texts was left → IsStep was now.lines left now.at.source.left →
    AreTextsServed start now (texts ++ texts_of now.lines.count now.lines.text) → Goes start now (Ok (if now.lines.is_ended then None else Some Ended))
turn-on start now texts was left read step served = elim (cases_Bool now.lines.is_ended) [
  | inl ended ↦
      subst (λ (b : Bool). Goes start now (Ok (if b then None else Some Ended))) (sym ended) (record {
        texts = texts ++ texts_of now.lines.count now.lines.text;
        read = read-line texts was now.lines left now.at.source.left step start.source.left read ended;
        served = served;
      })
  | inr last ↦
      subst (λ (b : Bool). Goes start now (Ok (if b then None else Some Ended))) (sym last)
      (ending-told start now served.calls Ended refl served.made
      (told-all (texts ++ texts_of now.lines.count now.lines.text) served.calls served.spell start.source.left (Ok now.lines.count) (read-last texts was now.lines left now.at.source.left step start.source.left read last))
      (λ _. step-last was now.lines left now.at.source.left step last))
]

-- a line that is passed over was read
pub turn-skipped : (start : ScriptState) (service : ServiceView) (source source' : SourceView) (sink : SinkView) (lines lines' : NumberedValue) (waiting : List ℕ) →
    IsSoFar start (midway (script_at service source sink) lines waiting) → IsStep lines lines' source.left source'.left → source.faults ≤ source'.faults → is_skipped lines'.text ≡ true →
    Goes start (midway (script_at service source' sink) lines' waiting) (Ok (if lines'.is_ended then None else Some Ended))
turn-skipped start service source source' sink lines lines' waiting so_far step rose skipped =
    let now = midway (script_at service source' sink) lines' waiting in
    let served : AreTextsServed start now so_far.texts = record {
      calls = so_far.served.calls;
      made = calls-read start service service source source' sink sink lines lines' waiting waiting so_far.served.calls so_far.served.made rose;
      spell = so_far.served.spell;
    } in
    let none : so_far.texts ++ texts_of lines'.count lines'.text ≡ so_far.texts = ap (λ (more : List NumberedText). so_far.texts ++ more) (texts_of-skipped lines'.count lines'.text skipped) ∙ append-nil so_far.texts in
    turn-on start now so_far.texts lines source.left so_far.read step (subst (AreTextsServed start now) (sym none) served)

module _ (start : ScriptState) (service service' : ServiceView) (source : SourceView) (sink sink' : SinkView) (lines : NumberedValue) (waiting waiting' : List ℕ)
    (at_line : IsAtLine start (midway (script_at service source sink) lines waiting)) where
  line : NumberedText
  line = record { number = lines.count; text = lines.text }

  made-so_far : AreCallsServed start (midway (script_at service source sink) lines waiting) at_line.served.calls
  made-so_far = at_line.served.made

  -- the text of the line is told behind those before it
  told-through : IfSome start.source.left (λ bytes. (rest : ToldLines) × (lines_told 0 (lines_of bytes) ≡ behind_texts (at_line.texts ++ line ∷ []) rest))
  unfolding line
  told-through =
      subst (λ (more : List NumberedText). IfSome start.source.left (λ bytes. (rest : ToldLines) × (lines_told 0 (lines_of bytes) ≡ behind_texts (at_line.texts ++ more) rest)))
      (texts_of-spoken lines.count lines.text at_line.spoken)
      (read-through at_line.texts at_line.was lines at_line.left source.left at_line.step start.source.left at_line.read)

  -- the text ends the script by its form
  pub text-ends : (ending : ScriptEnd) → form_end lines.count (script_line lines.text) ≡ Some ending → kind_of ending ≡ ByBytes → ending ≢ Ended →
      IsEnding start (midway (script_at service source sink) lines waiting) ending
  unfolding line
  text-ends ending ends by_bytes other =
      ending-told start (midway (script_at service source sink) lines waiting) at_line.served.calls ending by_bytes made-so_far
      (told-ended at_line.texts at_line.served.calls at_line.served.spell start.source.left line ending ends told-through)
      (λ is. absurd (other is))

  told-first-line : (calls : List (ℕ × Call)) → SpellOn (at_line.texts ++ line ∷ []) calls → IfSome start.source.left (λ bytes. AreFirstOf calls (script_of bytes).calls)
  told-first-line calls spell = told-first (at_line.texts ++ line ∷ []) calls spell start.source.left told-through

  -- there is no memory for the call of the text
  pub text-unread : IsEnding start (midway (script_at service source sink) lines waiting) NoMemory
  text-unread = record {
    calls = at_line.served.calls;
    served = made-so_far;
    made = told-first at_line.texts at_line.served.calls at_line.served.spell start.source.left (read-first at_line.texts at_line.was at_line.left start.source.left at_line.read);
    other = λ is. absurd (cc);
    all_read = λ is. absurd (cc);
    cause = tt;
  }

  module _ (moment : ℕ) (call : Call) (is : script_line lines.text ≡ Timed moment call) (answer : Result Reply Fault) (serves : Serves service moment call answer service') where
    spell-now : SpellOn (at_line.texts ++ line ∷ []) (at_line.served.calls ++ (moment, call) ∷ [])
    unfolding line
    spell-now =
        subst (λ (more : List (ℕ × Call)). SpellOn (at_line.texts ++ line ∷ []) (at_line.served.calls ++ more)) (ap calls_of is)
        (spell-text at_line.texts at_line.served.calls line at_line.served.spell (ap (form_end lines.count) is))

    -- the call of the text was made and its answer put
    pub text-answered : Puts {T = Unit {0}} {E = WriteFault} sink sink' waiting waiting' (answer_line answer) (Ok tt) →
        Goes start (midway (script_at service' source sink') lines waiting') (Ok (if lines.is_ended then None else Some Ended))
    unfolding line
    text-answered put =
        let now = midway (script_at service' source sink') lines waiting' in
        let served : AreTextsServed start now (at_line.texts ++ line ∷ []) = record {
          calls = at_line.served.calls ++ (moment, call) ∷ [];
          made = calls-more start service service' source source sink sink' lines lines waiting waiting' at_line.served.calls made-so_far moment call answer serves put;
          spell = spell-now;
        } in
        turn-on start now at_line.texts at_line.was at_line.left at_line.read at_line.step
        (subst (λ (more : List NumberedText). AreTextsServed start now (at_line.texts ++ more)) (sym (texts_of-spoken lines.count lines.text at_line.spoken)) served)

    -- the call of the text was made, and a write failed
    pub text-broken : (e : WriteFault) → Puts {T = Unit {0}} sink sink' waiting waiting' (answer_line answer) (Err e) → IsWholeRun start (script_at service' source sink') write_fault
    text-broken e put =
        broken e start (script_at service' source sink') (at_line.served.calls ++ (moment, call) ∷ []) (made-so_far.results ++ answer ∷ []) waiting'
        (served-more start service service' source source sink sink' lines lines waiting waiting' at_line.served.calls made-so_far moment call answer serves)
        (put-answer start service service' source source sink sink' lines lines waiting waiting' at_line.served.calls made-so_far moment call answer serves (Err e) put)
        made-so_far.read_faults
        (told-first-line (at_line.served.calls ++ (moment, call) ∷ []) spell-now)
