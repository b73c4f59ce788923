use Rattle.std.proofs.Common.{◌==◌, ◌&&◌, not, find, ap, ◌∙◌}
use Rattle.accounts.specs.BookValue.{ShelfValue}
use Rattle.desk_types.specs.declared.rows.Negative.{Negative}
use Rattle.match_types.specs.Tests.{is_same_pattern}
use Rattle.accounts.proofs.Finds.{dropped_found}
use Rattle.accounts.proofs.shelf.Shelf.dropped_negative.Goals as goal

pub returns : goal.returns
returns c = λ T account h.
    let same = c.deref.ensures.value ∙ ap (λ (s : ShelfValue). s.negatives) c.self.view_is in
    c.dropped_like.ensures ∙ ap (find (λ (b : Negative). b.campaign == c.args.campaign && (not b.live && is_same_pattern b.pattern c.args.pattern.now))) same ∙ dropped_found T account c.args.campaign c.args.pattern.now c.args.self.now h
