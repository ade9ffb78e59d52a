use Rattle.gb_meaning.proofs.Drawn.{draws_distribution, draws_full, program_sound, program_full, routine_sound, routine_full}
use Rattle.gb_meaning.proofs.run_laws.samplings.Goals as goal

pub returns : goal.returns
returns c = record { distribution = draws_distribution; full_distribution = draws_full; sound = program_sound; full = program_full; sound_procedure = routine_sound; full_procedure = routine_full }
