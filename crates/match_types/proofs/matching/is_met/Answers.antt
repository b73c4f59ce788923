use Rattle.match_types.proofs.Phrases.{Exact-from_eq, Broad-from_words}
use Rattle.match_types.proofs.matching.is_met.Goals as goal

pub returns-in-Exact : goal.returns-in-Exact
returns-in-Exact c = Exact-from_eq _ _ _ _ c.in-Exact.is c.eq.ensures

pub returns-in-Broad : goal.returns-in-Broad
returns-in-Broad c = Broad-from_words _ _ _ _ c.in-Broad.is c.has_words.ensures
