use Rattle.std.proofs.Common.{◌≡◌, chars, sym, ◌∙◌}
use Rattle.std.proofs.lemmas.Str.{chars_from_encodes}
use Rattle.query_words.specs.Words.{key, words_of}
use Rattle.query_words.proofs.cut.all_words.Goals as goal

pub returns : goal.returns
unfolding words_of
returns c =
    let same : chars c.as_str.result.now ≡ key c.args.text.now =
    sym (chars_from_encodes _ _ c.as_str.utf8 (sym (c.as_str.ensures.value ∙ c.in_ok-folded.ensures))) in
    rw same at c.pieces.ensures
