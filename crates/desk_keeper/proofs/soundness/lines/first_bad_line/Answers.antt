use Rattle.std.proofs.Common.{List, [], refl, sym, ap, subst, ◌∙◌}
use Rattle.match_types.specs.Fingerprint.{fingerprint_from}
use Rattle.desk_types.specs.declared.rows.Line.{Line}
use Rattle.desk_types.specs.Rules.{first_bad, line_rules}
use Rattle.desk_keeper.specs.OwnRows.{AreSeen}
use Rattle.desk_keeper.proofs.FirstBad.{bad_at, kept_more, one_more}
use Rattle.desk_keeper.proofs.KeptTables.{line_behind, own_lines}
use Rattle.desk_keeper.proofs.soundness.lines.first_bad_line.Goals as goal

pub loop-i-init : goal.loop-i-init
unfolding first_bad
loop-i-init c = record { kept = refl; seen = λ account h. c.new-seen.ensures.items }

pub returns-in-Some : goal.returns-in-Some
returns-in-Some c =
    let rules = line_rules c.args.tables.now in
    let rows = c.as_slice-rows.result.now in
    let row = c.index-rows-i.result in
    sym (ap (first_bad 4 rules []) (sym c.as_slice-rows.ensures) ∙ bad_at 4 rules rows c.loop-i.i row row c.in-Some.rule c.loop-i-test.true c.index-rows-i.is c.loop-i.invariant.kept (sym c.broken_rule.ensures ∙ c.in-Some.is))

pub note-requires-clause-rows : goal.note-requires-clause-rows
note-requires-clause-rows c = own_lines c.args.tables.now _ c.loop-i.invariant.kept

pub note-requires-clause-behind : goal.note-requires-clause-behind
note-requires-clause-behind c = line_behind c.args.tables.now _ c.index-rows-i.result (sym c.broken_rule.ensures ∙ c.in_default.is)

pub loop-i-preserved : goal.loop-i-preserved
loop-i-preserved c =
    let rows = c.as_slice-rows.result.now in
    let row = c.index-rows-i.result in
    record {
      kept = kept_more 4 (line_rules c.args.tables.now) rows c.loop-i.i row row c.loop-i-test.true c.index-rows-i.is c.loop-i.invariant.kept (sym c.broken_rule.ensures ∙ c.in_default.is);
      seen = subst (λ (l : List Line). AreSeen (λ r. r.account) (λ r. fingerprint_from r.campaign r.pattern) l c.note.new.seen.items) (sym (one_more rows c.loop-i.i row c.loop-i-test.true c.index-rows-i.is)) c.in_ok-note.ensures;
    }
