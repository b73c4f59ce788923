use Rattle.std.proofs.Common.{take}
use Rattle.http_api.specs.HeadFound.{IsFound}
use Rattle.http_api.proofs.FieldsLemmas.{values_among}
use Rattle.http_api.proofs.head.Head.find.Given as goal

-- what is found among the fields so far
abbrev pub invariant-loop-place : goal.invariant-loop-place
invariant-loop-place l = IsFound (values_among l.name (take l.place l.self.fields)) l.found
