use Rattle.std.proofs.Common.{filter, chars, ap, ◌∙◌, rules, refl}
use Rattle.std.specs.List.{slice_split}
use Rattle.std.specs.Str.Iter.{split_text, split_has_more}
use Rattle.query_words.specs.Words.{is_cutting, is_nonempty}
use Rattle.query_words.proofs.Pieces.{pieces_from_split, filter-encoded}
use Rattle.query_words.proofs.cut.pieces.Goals as goal

pub returns : goal.returns
returns c =
    let split = c.split-piece-items.ensures in
    let start = c.into_iter-piece-iterator.ensures.into_iter_gives in
    let all = pieces_from_split is_cutting _ _ c.args.text.now c.loop-piece.yielded c.utf8.text (ap split_text start ∙ split.text) (ap split_has_more start ∙ split.has_more)
    c.loop-piece.yielded_by _ _ c.in-None.is c.next.ensures.steps (λ a r q k. (search rules, refl)) in
    c.from_vec.ensures ∙ c.loop-piece.invariant ∙ ap (filter is_nonempty) all ∙ filter-encoded (slice_split is_cutting (chars c.args.text.now))
