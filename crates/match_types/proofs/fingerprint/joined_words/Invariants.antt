use Rattle.std.proofs.Common.{◌≡◌, take}
use Rattle.std.specs.List.{fold}
use Rattle.match_types.specs.Fingerprint.{joined_word}
use Rattle.match_types.proofs.fingerprint.joined_words.Given as goal

abbrev pub invariant-loop-word : goal.invariant-loop-word
invariant-loop-word l = l.longer ≡ fold joined_word l.fingerprint (take l.word-index l.words)
