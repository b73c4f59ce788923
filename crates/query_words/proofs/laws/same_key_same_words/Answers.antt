use Rattle.std.proofs.Common.{◌≡◌, ℕ, List, map, filter, encode_utf8_all, ap}
use Rattle.std.specs.List.{slice_split}
use Rattle.caseless.specs.Caseless.{default_case_fold}
use Rattle.unicode_normalization.specs.Forms.{nfd}
use Rattle.query_words.specs.Words.{key, is_cutting, is_nonempty, words_of}
use Rattle.query_words.proofs.laws.same_key_same_words.Goals as goal

by_key : (first second : List ℕ) → key first ≡ key second → words_of first ≡ words_of second
unfolding words_of
by_key first second same = ap (λ cs. map encode_utf8_all (filter is_nonempty (slice_split is_cutting cs))) same

pub returns-clause-by_key : goal.returns-clause-by_key
returns-clause-by_key c = by_key c.args.first.now c.args.second.now

pub returns-clause-by_canonical_form : goal.returns-clause-by_canonical_form
returns-clause-by_canonical_form c = λ same. by_key c.args.first.now c.args.second.now (ap (λ cs. nfd (default_case_fold cs)) same)
