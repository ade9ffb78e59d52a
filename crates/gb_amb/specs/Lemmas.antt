-- What lemmas say of terms and memories.
use Rattle.std.specs.Prelude.{◌≡◌, ◌⊎◌, ℕ, ◌+◌, List, [], ◌∷◌, map}
use Rattle.gb_core.specs.declared.ty.Ty.{Ty}
use Rattle.gb_core.specs.declared.ty.Ty.TheVariants.{Bool as bool_ty}
use Rattle.gb_terms.specs.declared.decl.TypedName.{TypedName}
use Rattle.gb_terms.specs.declared.op.Read.TheVariants.{Logical}
use Rattle.gb_terms.specs.declared.op.Side.TheVariants as side
use Rattle.gb_terms.specs.declared.term.Term.{Term}
use Rattle.gb_terms.specs.declared.term.Head.TheVariants.{All, AllMemory, Bound}
use Rattle.gb_terms.specs.Make.{node}
use Rattle.gb_walk.specs.declared.change.Change.TheVariants.{ToSide, ToTerm}
use Rattle.gb_walk.specs.Change.{term_changed}
use Rattle.gb_goal.specs.declared.scope.Binder.{Binder}
use Rattle.gb_goal.specs.declared.scope.Binder.TheVariants.{Value, Memory}
use Rattle.gb_goal.specs.declared.sequent.Sequent.{Sequent}
use Rattle.gb_meaning.specs.Declared.{Declarations}
use Rattle.gb_meaning.specs.Holds.{Holds}
use Rattle.gb_laws.specs.Finite.{IsFinite}
use Rattle.gb_typing.specs.Context.{Context}
use Rattle.gb_typing.specs.Typing.{IsForm}
use Rattle.gb_typing.specs.Sequents.{of_sequent}
use Rattle.gb_typing.specs.Scopes.{context_of}
use Rattle.gb_amb.specs.Instances.{Argument, IsInstance, Says}

abbrev pub AreFinite : List Ty → Type 0
AreFinite [] = Unit {0}
AreFinite (u ∷ us) = IsFinite u × AreFinite us

-- A statement about values and memories: it has neither modules nor hypotheses, and its conclusion is typed, for some locals of each
-- of its memories.
pub record IsOfStates (ds : Declarations) (s : Sequent) : Type 0 where
  pub modules : s.modules ≡ []
  pub hyps : s.hyps ≡ []
  pub values : AreFinite (map (λ x. x.ty) s.logical)
  pub frames : List (List TypedName)
  pub conclusion : IsForm (of_sequent (context_of ds) s frames) s.conclusion

-- what is said of a variable of the context, said of all values of its type
abbrev pub for_each_value : ℕ → Ty → Term → Term
for_each_value i u f = node (All u) (term_changed f (ToTerm (Logical i) (node (Bound 0) [] u) ∷ []) ∷ []) bool_ty

-- what is said of a memory of the context, said of each memory
abbrev pub for_each_memory : ℕ → Term → Term
for_each_memory m f = node AllMemory (term_changed f (ToSide (side.Memory m) (side.Bound 0) ∷ []) ∷ []) bool_ty

-- binders of as many values and memories
abbrev pub AreBindersOf : {A B : Type 0} → List Binder → List A → List B → Type 0
AreBindersOf [] [] [] = Unit {0}
AreBindersOf (Value ∷ ks) (v ∷ vs) ms = AreBindersOf ks vs ms
AreBindersOf (Memory ∷ ks) vs (m ∷ ms) = AreBindersOf ks vs ms
AreBindersOf ks vs ms = ⊥

-- what is said of the variables, of these types, and the memories of the context from these numbers on, said of all: with a leading
-- `forall` for each binder
abbrev pub for_binders : List Binder → List Ty → ℕ → ℕ → Term → Term
for_binders (Value ∷ ks) (u ∷ us) i m f = for_each_value i u (for_binders ks us (i + 1) m f)
for_binders (Memory ∷ ks) us i m f = for_each_memory m (for_binders ks us i (m + 1) f)
for_binders ks us i m f = f

-- a statement, with a leading `forall` for each of its binders
abbrev pub generalized : List Binder → Sequent → Term
generalized ks s = for_binders ks (map (λ x. x.ty) s.logical) 0 0 s.conclusion

-- A form that a statement about values and memories, which holds, says at a goal without modules: of one term or memory for each of its
-- binders, and of more for what its conclusion quantifies in front. The statement is a lemma's, or what a lemma says of modules.
pub record IsLemmaInstance (ds : Declarations) (q : Sequent) (c : Context) (f : Term) : Type 0 where
  pub alone : q.modules ≡ []
  pub lemma : Sequent
  pub holds : Holds ds lemma
  pub stated : IsOfStates ds lemma
  pub binders : List Binder
  pub all : AreBindersOf binders (map (λ x. x.ty) lemma.logical) stated.frames
  pub arguments : List Argument
  pub says : Says c (generalized binders lemma) arguments f

-- a form that a hypothesis of a goal, or a lemma, says of terms and memories
abbrev pub IsKnown : Declarations → Sequent → Context → Term → Type 0
IsKnown ds q c f = IsInstance q c f ⊎ IsLemmaInstance ds q c f
