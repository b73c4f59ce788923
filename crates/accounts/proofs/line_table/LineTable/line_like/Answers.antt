use Rattle.std.proofs.Common.{◌≡◌, ◌-◌, Bool, ◌==◌, ◌&&◌, List, length, map, find, take, drop, sym, ap, ◌∙◌, arith}
use Rattle.std.specs.List.{position}
use Rattle.std.specs.Option.{option_copied}
use Rattle.std.proofs.lemmas.List.{length-drop, take_all}
use Rattle.desk_types.specs.declared.rows.Line.{Line}
use Rattle.match_types.specs.Tests.{is_same_pattern}
use Rattle.accounts.specs.BookValue.{LinesValue, line_fingerprint}
use Rattle.accounts.proofs.LineTables.{found_from, like_number, none_found}
use Rattle.accounts.proofs.line_table.LineTable.line_like.Goals as goal

pub returns-in_err-first : goal.returns-in_err-first
returns-in_err-first c =
    let test : Line → Bool = λ l. l.campaign == c.args.campaign && is_same_pattern l.pattern c.args.pattern.now in
    let wanted = c.fingerprint.result in
    let at = c.in_err-first.ensures ∙ ap (position (λ n. n == wanted)) (c.deref.ensures.value ∙ c.self.invariant) in
    ap option_copied c.from_residual.ensures
    ∙ sym (none_found test line_fingerprint wanted c.self.inside.rows.items (like_number c.args.campaign wanted c.args.pattern.now c.fingerprint.ensures.same) (sym at))
    ∙ ap (λ (v : LinesValue). find test v.rows) c.self.view_is

pub returns : goal.returns
returns c =
    let test : Line → Bool = λ l. l.campaign == c.args.campaign && is_same_pattern l.pattern c.args.pattern.now in
    let wanted = c.fingerprint.result in
    let first = c.in_ok-first.first in
    let rows : List Line = c.deref-2.result.now in
    let at = c.in_ok-first.ensures ∙ ap (position (λ n. n == wanted)) (c.deref.ensures.value ∙ c.self.invariant ∙ ap (map line_fingerprint) (sym c.deref-2.ensures.value)) in
    let found = found_from test line_fingerprint wanted first rows (like_number c.args.campaign wanted c.args.pattern.now c.fingerprint.ensures.same) (sym at) in
    let whole : take (length rows - first) (drop first rows) ≡ drop first rows = take_all (length rows - first) (drop first rows) (omega (arith, length-drop first rows)) in
    c.line_like.ensures ∙ ap (find test) whole ∙ found.1 ∙ ap (find test) c.deref-2.ensures.value ∙ ap (λ (v : LinesValue). find test v.rows) c.self.view_is
