use Rattle.std.proofs.Common.{◌≡◌, length, drop}
use Rattle.form_urlencoded.specs.Form.{raw_pairs}
use Rattle.http_api.specs.Asked.{first_named}
use Rattle.http_api.proofs.query.query_value.Given as goal

-- no pair so far has the name
abbrev pub invariant-loop-named : goal.invariant-loop-named
invariant-loop-named l = first_named l.name (drop (length l.yielded) (raw_pairs l.query)) ≡ first_named l.name (raw_pairs l.query)
