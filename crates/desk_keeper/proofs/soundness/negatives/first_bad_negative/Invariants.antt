use Rattle.std.proofs.Common.{◌≡◌, [], take, None}
use Rattle.match_types.specs.Fingerprint.{fingerprint_from}
use Rattle.desk_types.specs.Rules.{first_bad, negative_rules}
use Rattle.desk_keeper.specs.OwnRows.{AreSeen}
use Rattle.desk_keeper.proofs.soundness.negatives.first_bad_negative.Given as goal

abbrev pub invariant-loop-i : goal.invariant-loop-i
invariant-loop-i l =
    record {
      kept : first_bad 5 (negative_rules l.tables) [] (take l.i l.rows) ≡ None;
      seen : AreSeen (λ r. r.account) (λ r. fingerprint_from r.campaign r.pattern) (take l.i l.rows) l.seen.items;
    }
