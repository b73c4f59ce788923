use Rattle.script_api.proofs.SpaceLemmas.{unspaced_end-from_trim}
use Rattle.script_api.proofs.fields.without_end_spaces.Goals as goal

pub returns : goal.returns
returns c = unspaced_end-from_trim c.args.text.now c.trim_end_matches.result.now c.trim_end_matches.ensures.matches
