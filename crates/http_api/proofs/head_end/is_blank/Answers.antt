use Rattle.http_api.proofs.HeadEnds.{blank-whole}
use Rattle.http_api.proofs.head_end.is_blank.Goals as goal

pub returns : goal.returns
returns c = blank-whole c.args.bytes.now c.blank_length.result c.blank_length.ensures.within c.blank_length.ensures.behind
