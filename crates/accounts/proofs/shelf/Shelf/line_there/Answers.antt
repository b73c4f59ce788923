use Rattle.std.proofs.Common.{◌≡◌, Bool, ◌==◌, ◌&&◌, find, Some, None, sym, ap, ◌∙◌}
use Rattle.desk_types.specs.declared.rows.Line.{Line}
use Rattle.match_types.specs.Tests.{is_same_pattern}
use Rattle.accounts.specs.BookValue.{ShelfValue}
use Rattle.accounts.proofs.Finds.{found_first, found_last, line_behind}
use Rattle.accounts.proofs.shelf.Shelf.line_there.Goals as goal

pub returns-in-Some : goal.returns-in-Some
returns-in-Some c = λ T account h.
    let test : Line → Bool = λ l. l.campaign == c.args.campaign && is_same_pattern l.pattern c.args.pattern.now in
    let same = ap (λ (s : ShelfValue). s.lines) c.self.view_is in
    let first : find test c.args.self.now.lines ≡ Some c.in-Some.line.now = ap (find test) (sym same) ∙ sym c.in-Some.ensures in
    sym (found_first test c.args.self.now.lines c.args.made.now.rows c.in-Some.line.now first) ∙ line_behind T account c.args.campaign c.args.pattern.now c.args.self.now c.args.made.now.rows h

pub returns-in-None : goal.returns-in-None
returns-in-None c = λ T account h.
    let test : Line → Bool = λ l. l.campaign == c.args.campaign && is_same_pattern l.pattern c.args.pattern.now in
    let same = ap (λ (s : ShelfValue). s.lines) c.self.view_is in
    let none : find test c.args.self.now.lines ≡ None = ap (find test) (sym same) ∙ sym c.in-None.ensures in
    c.line_like-in-None.ensures ∙ sym (found_last test c.args.self.now.lines c.args.made.now.rows none)
    ∙ line_behind T account c.args.campaign c.args.pattern.now c.args.self.now c.args.made.now.rows h
