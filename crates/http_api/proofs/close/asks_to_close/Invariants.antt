use Rattle.std.proofs.Common.{◌≡◌, false, take}
use Rattle.std.specs.List.{list_any}
use Rattle.http_api.proofs.FieldsLemmas.{is_close}
use Rattle.http_api.proofs.close.asks_to_close.Given as goal

-- no field so far asks to close
abbrev pub invariant-loop-place : goal.invariant-loop-place
invariant-loop-place l = list_any is_close (take l.place l.head.fields) ≡ false
