use Rattle.std.proofs.Common.{◌≡◌, chars, sym, ap, ◌∙◌}
use Rattle.std.proofs.lemmas.Str.{chars_from_encodes}
use Rattle.caseless.specs.Caseless.{default_case_fold}
use Rattle.unicode_normalization.specs.Forms.{nfd}
use Rattle.query_words.proofs.Keys.{key-ascii}
use Rattle.query_words.proofs.cut.folded.Goals as goal

pub returns-then-is_ascii : goal.returns-then-is_ascii
returns-then-is_ascii c = let same = key-ascii c.args.text.now c.if-is_ascii.ensures.cases in rw same c.to_ascii_lowercase.ensures.ok

pub returns : goal.returns
returns c =
    let first : chars c.as_str.result.now ≡ nfd (chars c.args.text.now) =
    sym (chars_from_encodes _ _ c.as_str.utf8 (sym (c.as_str.ensures.value ∙ c.in_ok-decomposed.ensures))) in
    let second : chars c.as_str-2.result.now ≡ default_case_fold (nfd (chars c.args.text.now)) =
    sym (chars_from_encodes _ _ c.as_str-2.utf8 (sym (c.as_str-2.ensures.value ∙ c.in_ok-folded.ensures))) ∙ ap default_case_fold first in
    rw second at c.to_nfd-2.ensures
