use Rattle.std.proofs.Common.{sym, ◌∙◌, ◌==◌}
use Rattle.std.specs.Prelude.{nat_le}
use Rattle.std.proofs.lemmas.Bool.{eq-eqb, ne_eqb}
use Rattle.desk_keeper.proofs.LastRows.{last_is}
use Rattle.desk_keeper.proofs.OwnRows.{at_most, none_of_last, none_part, own_of_last, own_part}
use Rattle.desk_keeper.proofs.soundness.own_rows.own_rows.Goals as goal

pub returns-then-account-clause-own : goal.returns-then-account-clause-own
returns-then-account-clause-own g c =
    let owner = g.R.OwnRow.owner in
    let rows = c.args.rows.now in
    let account = c.args.account in
    let last = c.in-Some.last.now in
    let rest = c.in-Some.field-0-1.now in
    let is = c.in-Some.ensures.cases.0 in
    none_part rows
    ∙ sym (none_of_last owner g.R.OwnRow.place account rows rest last c.requires.rows is
    (at_most (owner last) account (sym (last_is (λ r. nat_le (owner r) account) rows rest last is) ∙ c.requires.behind))
    (ne_eqb (owner last) account (λ e. c.if-account.true (c.account.ensures ∙ e))))

pub returns-clause-own : goal.returns-clause-own
returns-clause-own g c =
    let owner = g.R.OwnRow.owner in
    let rows = c.args.rows.now in
    let last = c.in-Some.last.now in
    own_part rows _ c.number-count.result (g.R.OwnRow.place last) c.number-count.ensures
    (own_of_last owner g.R.OwnRow.place c.args.account rows c.in-Some.field-0-1.now last c.requires.rows c.in-Some.ensures.cases.0 (eq-eqb (owner last) c.args.account (sym c.account.ensures ∙ c.if-account.false)))

pub returns-clause-last : goal.returns-clause-last
returns-clause-last g c =
    let owner = g.R.OwnRow.owner in
    let last = c.in-Some.last.now in
    λ some. last_is (λ r. owner r == c.args.account) c.args.rows.now c.in-Some.field-0-1.now last c.in-Some.ensures.cases.0
    ∙ eq-eqb (owner last) c.args.account (sym c.account.ensures ∙ c.if-account.false)
