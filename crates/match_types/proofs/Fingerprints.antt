-- The same patterns have the same fingerprint.
use Rattle.std.proofs.Common.{◌≡◌, ℕ, true, List}
use Rattle.std.specs.List.{fold}
use Rattle.match_types.specs.Fingerprint.{fingerprint_from, joined, joined_word, kind_number}
use Rattle.match_types.specs.Tests.{is_same_pattern}
use Rattle.match_types.proofs.Deciding.{is_same_pattern-decides}

pub same_fingerprint : (start : ℕ) (one other : List ℕ) → is_same_pattern one other ≡ true → fingerprint_from start one ≡ fingerprint_from start other
unfolding fingerprint_from
same_fingerprint start one other same =
    let e = (is_same_pattern-decides one other).0 same in
    (λ i. fold joined_word (joined start (kind_number (e.0 i))) (e.1 i))
