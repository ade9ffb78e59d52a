-- What is kept of each command, and what stood before it.
use Rattle.std.specs.Prelude.{List, [], ◌∷◌, take, option_map}
use Rattle.gb_print_names.specs.declared.bound_names.Enumeration.{Enumeration}
use Rattle.gb_state.specs.declared.state.State.{State}
use Rattle.gb_theory.specs.Sessions.{session_of, open_of}
use Rattle.gb_session.specs.History.{Stage}
use Rattle.gb_state.specs.declared.kept.Kept.{Kept}

abbrev pub stage_of : State → List Enumeration → Stage
stage_of s es = record { session = session_of s; enumerations = es }

-- what stood before a command, by what stood behind it: declarations, lemmas and enumerations are added behind others
abbrev pub before : Kept → Stage → Stage
before k s = record {
  session = record { scope = take k.declared s.session.scope; proof = option_map open_of k.proof; lemmas = take k.proved s.session.lemmas };
  enumerations = take k.enumerated s.enumerations;
}

-- what stood before each command, the last one first
abbrev pub stages_before : List Kept → Stage → List Stage
stages_before [] s = []
stages_before (k ∷ ks) s = before k s ∷ stages_before ks (before k s)
