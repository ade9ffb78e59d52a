-- Sessions, as what stood before and after each of their commands.
use Rattle.std.specs.Prelude.{ℕ, zero, suc, Bool, true, false, List, [], ◌∷◌, if◌then◌else◌}
use Rattle.gb_print_names.specs.declared.bound_names.Enumeration.{Enumeration}
use Rattle.gb_theory.specs.Built.{Session, fresh_session}

-- what commands built, and the enumerations that they declared, each with its constants
pub record Stage : Type 0 where
  pub session : Session
  pub enumerations : List Enumeration

-- A session: the name of its file, whether it keeps what stood before each command, what stands now, and what stood before each
-- command that it kept, the last one first.
pub record History : Type 0 where
  pub file : List ℕ
  pub keeps : Bool
  pub present : Stage
  pub earlier : List Stage

-- before the first command
abbrev pub fresh_stage : Stage
fresh_stage = record { session = fresh_session; enumerations = [] }

abbrev pub fresh_history : List ℕ → Bool → History
fresh_history file keeps = record { file = file; keeps = keeps; present = fresh_stage; earlier = [] }

-- a command more
abbrev pub moved_on : History → Stage → History
moved_on h next = record h { present = next; earlier = if h.keeps then h.present ∷ h.earlier else [] }

-- what stood before the last command stands again, where there is one
abbrev pub back_to : List Stage → History → History
back_to [] h = h
back_to (s ∷ before) h = record h { present = s; earlier = before }

abbrev pub has_earlier : List Stage → Bool
has_earlier [] = false
has_earlier (s ∷ before) = true

-- the last n commands are taken off, or all where there are fewer
abbrev pub undone : ℕ → History → History
undone zero h = h
undone (suc n) h = undone n (back_to h.earlier h)
