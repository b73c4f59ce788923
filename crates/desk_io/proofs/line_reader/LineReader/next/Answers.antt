use Rattle.std.proofs.Common.{◌≡◌, ◌∙◌, ℕ, List, Option, IfSome, length, length-take, take, ap, sym, subst, append-nil, arith}
use Rattle.std.specs.List.{position_or_len}
use Rattle.desk_io.specs.Lines.{is_line_feed, has_line_feed}
use Rattle.desk_io.specs.Reader.{ReaderValue}
use Rattle.desk_io.specs.NextLine.{ahead, EndsLine, TakesRest}
use Rattle.desk_io.specs.declared.line_reader.LineGot.TheVariants.{Line as GotLine, TooLong}
use Rattle.desk_io.proofs.LineFeeds.{feed-within, has_feed-none, ended_by_feed}
use Rattle.desk_io.proofs.Returns.{length-without_return}
use Rattle.desk_io.proofs.NextLines.{behind, gives_ended, gives_too_long, gives_rest, ends_rest, from_start}
use Rattle.desk_io.proofs.line_reader.LineReader.next.Goals as goal

pub returns-then-size-max-clause-lines : goal.returns-then-size-max-clause-lines
returns-then-size-max-clause-lines g c =
    let now = c.size_of_first-size.new.self in
    let left = (g.S.Source.source c.loop-size.source).left in
    let same = c.size_of_first-size.ensures.same in
    let max_is : now.max ≡ c.args.self.now.max = ap (λ (r : ReaderValue). r.max) same ∙ c.loop-size.invariant.max in
    let ahead_is : ahead now left ≡ ahead c.args.self.now (g.S.Source.source c.args.source.now).left = ap (λ (r : ReaderValue). ahead r left) same ∙ c.loop-size.invariant.ahead in
    let size_is : c.size_of_first-size.result ≡ position_or_len is_line_feed now.held = c.size_of_first-size.ensures.size ∙ sym (ap (λ (r : ReaderValue). position_or_len is_line_feed r.held) same) in
    from_start _ _ _ _ (behind now.held left) TooLong now.line max_is ahead_is (gives_too_long now.max now.held left now.line (omega arith))

pub returns-then-size-held_len-clause-lines : goal.returns-then-size-held_len-clause-lines
returns-then-size-held_len-clause-lines g c =
    let now = c.size_of_first-size.new.self in
    let after = c.take_line.new.self in
    let size = c.size_of_first-size.result in
    let left = (g.S.Source.source c.loop-size.source).left in
    let same = c.size_of_first-size.ensures.same in
    let max_is : now.max ≡ c.args.self.now.max = ap (λ (r : ReaderValue). r.max) same ∙ c.loop-size.invariant.max in
    let ahead_is : ahead now left ≡ ahead c.args.self.now (g.S.Source.source c.args.source.now).left = ap (λ (r : ReaderValue). ahead r left) same ∙ c.loop-size.invariant.ahead in
    let size_is : size ≡ position_or_len is_line_feed now.held = c.size_of_first-size.ensures.size ∙ sym (ap (λ (r : ReaderValue). position_or_len is_line_feed r.held) same) in
    from_start _ _ _ _ (behind after.held left) GotLine after.line max_is ahead_is (gives_ended now.max now.held left after.held after.line size size_is (omega arith) (omega arith) c.take_line.ensures.line c.take_line.ensures.held)

pub returns-then-size-held_len-clause-fits : goal.returns-then-size-held_len-clause-fits
returns-then-size-held_len-clause-fits g c =
    let size = c.size_of_first-size.result in
    let held = c.size_of_first-size.new.self.held in
    let max_is : c.size_of_first-size.new.self.max ≡ c.args.self.now.max = ap (λ (r : ReaderValue). r.max) c.size_of_first-size.ensures.same ∙ c.loop-size.invariant.max in
    omega (arith, ap length c.take_line.ensures.line, length-without_return (take size held), length-take size held)

pub returns-in-End-clause-lines : goal.returns-in-End-clause-lines
returns-in-End-clause-lines g c =
    let now = c.size_of_first-size.new.self in
    let after = c.take_rest.new.self in
    let left = (g.S.Source.source c.loop-size.source).left in
    let left_now = (g.S.Source.source c.fill.new.source).left in
    let same = c.size_of_first-size.ensures.same in
    let max_is : now.max ≡ c.args.self.now.max = ap (λ (r : ReaderValue). r.max) same ∙ c.loop-size.invariant.max in
    let ahead_is : ahead now left ≡ ahead c.args.self.now (g.S.Source.source c.args.source.now).left = ap (λ (r : ReaderValue). ahead r left) same ∙ c.loop-size.invariant.ahead in
    let size_is : c.size_of_first-size.result ≡ position_or_len is_line_feed now.held = c.size_of_first-size.ensures.size ∙ sym (ap (λ (r : ReaderValue). position_or_len is_line_feed r.held) same) in
    let fills = c.in-End.ensures.bytes in
    let unread : c.fill.new.self.held ≡ now.held = fills.grew ∙ append-nil now.held in
    let takes : TakesRest now.held c.take_rest.result = subst (λ (held : List ℕ). TakesRest held c.take_rest.result) unread c.take_rest.ensures.answer in
    from_start _ _ _ _ (behind after.held left_now) c.take_rest.result after.line max_is ahead_is
    (gives_rest now.max now.held left left_now after.held after.line c.take_rest.result takes fills.reads.0 fills.reads.1 (omega arith) (omega (arith, feed-within now.held)) (c.take_rest.ensures.line ∙ unread) c.take_rest.ensures.held)

pub returns-then-size-held_len-clause-ended : goal.returns-then-size-held_len-clause-ended
returns-then-size-held_len-clause-ended g c =
    let now = c.size_of_first-size.new.self in
    let after = c.take_line.new.self in
    let left = (g.S.Source.source c.loop-size.source).left in
    let same = c.size_of_first-size.ensures.same in
    let ahead_is : ahead now left ≡ ahead c.args.self.now (g.S.Source.source c.args.source.now).left = ap (λ (r : ReaderValue). ahead r left) same ∙ c.loop-size.invariant.ahead in
    let size_is : c.size_of_first-size.result ≡ position_or_len is_line_feed now.held = c.size_of_first-size.ensures.size ∙ sym (ap (λ (r : ReaderValue). position_or_len is_line_feed r.held) same) in
    subst (λ (before : Option (List ℕ)). IfSome before (λ bytes. after.is_ended ≡ has_line_feed bytes)) ahead_is (ended_by_feed now.held left after.is_ended (omega arith) c.take_line.ensures.ended)

pub returns-in-End-clause-ended : goal.returns-in-End-clause-ended
returns-in-End-clause-ended g c =
    let now = c.size_of_first-size.new.self in
    let after = c.take_rest.new.self in
    let left = (g.S.Source.source c.loop-size.source).left in
    let same = c.size_of_first-size.ensures.same in
    let ahead_is : ahead now left ≡ ahead c.args.self.now (g.S.Source.source c.args.source.now).left = ap (λ (r : ReaderValue). ahead r left) same ∙ c.loop-size.invariant.ahead in
    let size_is : c.size_of_first-size.result ≡ position_or_len is_line_feed now.held = c.size_of_first-size.ensures.size ∙ sym (ap (λ (r : ReaderValue). position_or_len is_line_feed r.held) same) in
    let fills = c.in-End.ensures.bytes in
    let unread : c.fill.new.self.held ≡ now.held = fills.grew ∙ append-nil now.held in
    let takes : TakesRest now.held c.take_rest.result = subst (λ (held : List ℕ). TakesRest held c.take_rest.result) unread c.take_rest.ensures.answer in
    subst (λ (before : Option (List ℕ)). EndsLine before c.take_rest.result after) ahead_is
    (ends_rest now.held left c.take_rest.result after takes fills.reads.1 (omega (arith, feed-within now.held)) c.take_rest.ensures.ended)

pub returns-in-Failed-clause-ended : goal.returns-in-Failed-clause-ended
returns-in-Failed-clause-ended g c =
    let now = c.size_of_first-size.new.self in
    let same = c.size_of_first-size.ensures.same in
    let size_is : c.size_of_first-size.result ≡ position_or_len is_line_feed now.held = c.size_of_first-size.ensures.size ∙ sym (ap (λ (r : ReaderValue). position_or_len is_line_feed r.held) same) in
    let unread : c.fill.new.self.held ≡ now.held = c.in-Failed.ensures.bytes.grew ∙ append-nil now.held in
    ap has_line_feed unread ∙ has_feed-none now.held (omega arith)
