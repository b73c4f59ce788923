use Rattle.std.proofs.Common.{ap, ◌∙◌, lit<}
use Rattle.std.proofs.lemmas.Str.Pattern.{strip_prefix_char}
use Rattle.match_types.proofs.Marked.{stripped-minus}
use Rattle.match_types.proofs.reading.drop_minus.Goals as goal

pub returns : goal.returns
returns c =
    ap (λ rest. rest.now) c.unwrap_or.ensures
    ∙ stripped-minus c.args.text c.strip_prefix.result (strip_prefix_char 45 _ c.strip_prefix.result c.strip_prefix.ensures.cases (lit< tt))
