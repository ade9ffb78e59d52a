-- Settings and states that fit a context fit those of programs, of judgments and of binders.
use Rattle.std.proofs.Common.{Bool, true, false, List, Option, Some, None, ap}
use Rattle.std.proofs.lemmas.Bool.{false≢true}
use Rattle.gb_core.specs.declared.ty.Ty.{Ty}
use Rattle.gb_terms.specs.declared.decl.TypedName.{TypedName}
use Rattle.gb_meaning.specs.Memory.{Memory}
use Rattle.gb_meaning.specs.Setting.{Setting}
use Rattle.gb_meaning.specs.State.{State, Binding, at, between, inside, under}
use Rattle.gb_laws.specs.Context.{FitsBinder}
use Rattle.gb_laws.specs.Typing.{Binder}
use Rattle.gb_typing.specs.Context.{Context, Frame, reframed, within, of_program}
use Rattle.gb_typing.specs.Fits.{IsSettingOf, IsStateOf}

module _ (c : Context) (g : Setting) (w : IsSettingOf c g) where
  pub fits_reframed : (f l k : Frame) → IsSettingOf (reframed c f l k) g
  fits_reframed f l k = record {
    types = record { inhabited = w.types.inhabited; operators = w.types.operators; distributions = w.types.distributions };
    once = w.once;
    procedures = w.procedures;
  }

  pub fits_within : (b : Binder) (f : Frame) → IsSettingOf (within c b f) g
  fits_within b f = record {
    types = record { inhabited = w.types.inhabited; operators = w.types.operators; distributions = w.types.distributions };
    once = w.once;
    procedures = w.procedures;
  }

  pub fits_program : (ls : List TypedName) → IsSettingOf (of_program c ls) g
  fits_program ls = record {
    types = record { inhabited = w.types.inhabited; operators = w.types.operators; distributions = w.types.distributions };
    once = w.once;
    procedures = w.procedures;
  }

module _ (c : Context) (g : Setting) (s : State) (q : IsStateOf c g s) where
  pub state_at : (f l k : Frame) (m : Memory) → IsStateOf (reframed c f l k) g (at s m)
  state_at f l k m = record { logical = q.logical; bound = q.bound }

  pub state_between : (f l k : Frame) (m n : Memory) → IsStateOf (reframed c f l k) g (between s m n)
  state_between f l k m n = record { logical = q.logical; bound = q.bound }

  pub state_within : (b : Binder) (f : Frame) (x : Binding) → FitsBinder g.types b x → IsStateOf (within c b f) g (under s x)
  state_within b f x w = record { logical = q.logical; bound = (w, q.bound) }

abbrev is_some : Option Ty → Bool
is_some None = false
is_some (Some t) = true

-- the state of a program has no variable but those of its memory
pub state_inside : (c : Context) (g : Setting) (ls : List TypedName) (s : State) (m : Memory) → IsStateOf (of_program c ls) g (inside s m)
state_inside c g ls s m = record { logical = λ i u e. absurd (false≢true (ap is_some e)); bound = tt }
