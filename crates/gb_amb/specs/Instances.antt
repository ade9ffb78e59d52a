-- What hypotheses say of terms and memories.
use Rattle.std.specs.Prelude.{◌≡◌, ℕ, List, [], ◌∷◌}
use Rattle.gb_core.specs.declared.ty.Ty.{Ty}
use Rattle.gb_terms.specs.declared.term.Term.{Term}
use Rattle.gb_terms.specs.declared.term.Head.TheVariants.{All, AllMemory}
use Rattle.gb_terms.specs.Make.{node}
use Rattle.gb_walk.specs.declared.change.Change.TheVariants.{OfBound}
use Rattle.gb_walk.specs.Change.{term_changed}
use Rattle.gb_goal.specs.declared.sequent.Sequent.{Sequent}
use Rattle.gb_meaning.specs.Written.{type_of}
use Rattle.gb_typing.specs.Context.{Context}
use Rattle.gb_typing.specs.Typing.{IsTyped, IsForm}
use Rattle.gb_amb.specs.Closed.{IsAmong}
use Rattle.gb_amb.specs.Witness.{at_memory}

-- a term that stands for a value of a type
pub record IsArgument (c : Context) (u : Ty) (a : Term) : Type 0 where
  pub typed : IsTyped c a
  pub type : type_of a ≡ u

-- what a form is told to say something of: the value of a term, or a memory of the context
pub data Argument : Type 0 where
  of_value : Term → Argument
  of_memory : ℕ → Argument

-- what the body of a `forall` says of a term
abbrev pub at_argument : Term → Term → Term
at_argument f a = term_changed f (OfBound 0 a ∷ [])

-- What a form says of values and memories, one after another. Of a memory it says what is typed there: the body may read locals of
-- the memory that is bound which this one hasn't.
abbrev pub Says : Context → Term → List Argument → Term → Type 0
Says c f [] g = f ≡ g
Says c f (of_value a ∷ es) g = (u : Ty) × (b : Term) × (r : Ty) × (f ≡ node (All u) (b ∷ []) r) × IsArgument c u a × Says c (at_argument b a) es g
Says c f (of_memory i ∷ es) g = (b : Term) × (r : Ty) × (f ≡ node AllMemory (b ∷ []) r) × IsForm c (at_memory b i) × Says c (at_memory b i) es g

-- A form that a hypothesis of a goal says of terms and memories.
pub record IsInstance (q : Sequent) (c : Context) (f : Term) : Type 0 where
  pub known : Term
  pub among : IsAmong q.hyps known
  pub form : IsForm c known
  pub arguments : List Argument
  pub says : Says c known arguments f
