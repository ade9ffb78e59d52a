-- What is kept of each command, and what stood before it.
use Rattle.std.specs.Prelude.{◌≡◌, ℕ, true, List, [], ◌∷◌, take, Option, Some, None}
use Rattle.gb_core.specs.declared.refusal.Refused.{Refused}
use Rattle.gb_core.specs.declared.refusal.Refused.TheVariants.{NoMemory, ReadFault, Script}
use Rattle.gb_goal.specs.Scope.{Declarations}
use Rattle.gb_state.specs.declared.state.State.{State}
use Rattle.gb_state.specs.declared.kept.Kept.{Kept}
use Rattle.gb_state.specs.Opened.{is_undeclared}

-- under the name of a proof that was open nothing was declared then
abbrev pub AreUndeclared : List Kept → Declarations → Type 0
AreUndeclared [] ds = Unit {0}
AreUndeclared (k ∷ ks) ds = (is_undeclared (take k.declared ds) k.proof ≡ true) × AreUndeclared ks (take k.declared ds)

-- what stood before a command stands again: the declarations and lemmas that there were, and the proof that was open
pub record IsBefore (k : Kept) (s t : State) : Type 0 where
  pub scope : t.scope ≡ take k.declared s.scope
  pub proof : t.proof ≡ k.proof
  pub lemmas : t.lemmas ≡ take k.proved s.lemmas

-- what stood before the last command stands again, where one is kept, and the others are kept; so many enumerations stood then
abbrev pub GoesBack : List Kept → List Kept → State → State → Option ℕ → Type 0
GoesBack [] left s t r = (left ≡ []) × (t ≡ s) × (r ≡ None)
GoesBack (k ∷ ks) left s t r = (left ≡ ks) × IsBefore k s t × (r ≡ Some k.enumerated)

-- a command that is refused is taken back; where memory ran out, nothing is kept
abbrev pub IsTakenBack : Refused → List Kept → List Kept → State → State → Type 0
IsTakenBack (Script why place) ks left s t = (r : Option ℕ) × GoesBack ks left s t r
IsTakenBack NoMemory ks left s t = left ≡ []
IsTakenBack ReadFault ks left s t = left ≡ []

-- of what is taken back it is asked that nothing was declared under the names of open proofs; where memory ran out, nothing is asked
abbrev pub MayGoBack : Refused → List Kept → Declarations → Type 0
MayGoBack (Script why place) ks ds = AreUndeclared ks ds
MayGoBack NoMemory ks ds = Unit {0}
MayGoBack ReadFault ks ds = Unit {0}
