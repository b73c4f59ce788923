use Rattle.desk_types.proofs.Soundness.{sound_empty, sound_later, sound_opened, sound_run}
use Rattle.desk_types.proofs.ledger_laws.sound_states_stay_sound.Goals as goal

pub returns : goal.returns
returns c = record { empty = sound_empty; opened = sound_opened; run = sound_run; later = sound_later }
