use Rattle.std.proofs.Common.{arith}
use Rattle.http_api.specs.declared.limits.TheConstants.{HEAD_BYTES_MAX}
use Rattle.http_api.proofs.Growing.{front-is}
use Rattle.http_api.proofs.reader.front.Goals as goal

pub returns : goal.returns
returns c = front-is c.held-held.result.now c.args.window.now.held c.min.result HEAD_BYTES_MAX c.held-held.ensures (omega arith)
