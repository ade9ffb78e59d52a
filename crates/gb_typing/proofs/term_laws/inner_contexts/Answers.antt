use Rattle.gb_typing.proofs.Fitting.{fits_reframed, fits_within, fits_program, state_at, state_between, state_within, state_inside}
use Rattle.gb_typing.proofs.term_laws.inner_contexts.Goals as goal

pub returns : goal.returns
returns x = record {
  settings = fits_reframed;
  settings_within = fits_within;
  settings_of_programs = fits_program;
  states = state_at;
  states_of_two = state_between;
  states_within = state_within;
  states_of_programs = state_inside;
}
