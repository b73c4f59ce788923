use Rattle.std.proofs.Common.{reverse, ap, ◌∙◌}
use Rattle.match_types.specs.Marks.{without_front_spaces, trimmed}
use Rattle.match_types.proofs.Spaces.{trim_start_is, trim_end_is}
use Rattle.match_types.proofs.reading.trim_spaces.Goals as goal

pub returns : goal.returns
unfolding trimmed
returns c =
    trim_end_is _ _ c.trim_end_matches.ensures.matches
    ∙ ap (λ l. reverse (without_front_spaces (reverse l))) (trim_start_is _ _ c.trim_start_matches.ensures.matches)
