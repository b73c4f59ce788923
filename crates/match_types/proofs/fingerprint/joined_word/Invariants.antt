use Rattle.std.proofs.Common.{◌≡◌, take}
use Rattle.std.specs.List.{fold}
use Rattle.match_types.specs.Fingerprint.{joined}
use Rattle.match_types.proofs.fingerprint.joined_word.Given as goal

abbrev pub invariant-loop-byte : goal.invariant-loop-byte
invariant-loop-byte l = l.longer ≡ fold joined l.fingerprint (take l.byte-index l.bytes)
