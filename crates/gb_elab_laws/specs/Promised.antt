-- What a lemma on two procedures promises, in the words of its publication.
use Rattle.std.specs.Prelude.{ℕ, List, [], ◌∷◌, map}
use Rattle.gb_core.specs.declared.ty.Ty.TheVariants.{Bool as truths}
use Rattle.gb_core.specs.declared.value.Value.{Value}
use Rattle.gb_terms.specs.declared.decl.TypedName.{TypedName}
use Rattle.gb_terms.specs.declared.module.Bind.{Bind}
use Rattle.gb_terms.specs.declared.module.ProcRef.{ProcRef}
use Rattle.gb_terms.specs.declared.term.Term.{Term}
use Rattle.gb_terms.specs.declared.term.Head.TheVariants.{Equiv, Proc}
use Rattle.gb_terms.specs.Make.{node}
use Rattle.gb_goal.specs.Scope.{Declarations}
use Rattle.gb_goal.specs.declared.sequent.Sequent.{Sequent}
use Rattle.gb_dist.specs.Coupling.{PointwiseCoupling}
use Rattle.gb_meaning.specs.Memory.{Memory}
use Rattle.gb_meaning.specs.Setting.{Setting}
use Rattle.gb_meaning.specs.State.{State, between}
use Rattle.gb_meaning.specs.Judgments.{IsTrueIn, run_of, subject_denominator}
use Rattle.gb_meaning.specs.Declared.{declared}
use Rattle.gb_meaning.specs.Names.{Name}
use Rattle.gb_meaning.specs.Values.{World}
use Rattle.gb_meaning.specs.Settings.{Table, Interpretation, types_of, setting}
use Rattle.gb_meaning.specs.Holds.{AreValues, EachProgram, IsModel, context, interpretation, InEachModel}

-- the declarations have a model
abbrev pub HasModel : Declarations → Type 0
HasModel ds = (w : World) × (size : Name → ℕ) × (table : Table) × IsModel (declared ds) (interpretation w size table)

-- `equiv [f ~ h : P ==> Q]`
abbrev pub equivalence : ProcRef → ProcRef → Term → Term → Term
equivalence f h P Q = node (Equiv (Proc f) (Proc h)) (P ∷ Q ∷ []) truths

-- a form in a context of values, memories and abstract modules
abbrev pub stated : List TypedName → List Name → List Bind → Term → Sequent
stated xs ms bs f = record { logical = xs; memories = ms; modules = bs; hyps = []; conclusion = f }

-- a relation between two memories, as a form says it in a setting and a state
abbrev pub Relates : Setting → State → Term → Memory → Memory → Type 0
Relates g s P m n = IsTrueIn g P (between s m n)

-- From each two memories in P there is a coupling of the outputs of both procedures: pairs of memories in Q, each with a
-- weight, whose marginals are the two output distributions, at each output.
abbrev pub HaveCoupledOutputs : Setting → State → ProcRef → ProcRef → Term → Term → Type 0
HaveCoupledOutputs g s f h P Q = (d : Discrete Memory) (m n : Memory) → Relates g s P m n →
    PointwiseCoupling d d (Relates g s Q)
    (run_of g s (Proc f) m) (subject_denominator g (Proc f)) (run_of g s (Proc h) n) (subject_denominator g (Proc h))

-- for all values of these variables, and all memories
abbrev pub AreCoupled : Declarations → List TypedName → ProcRef → ProcRef → Term → Term → Interpretation → Type 0
AreCoupled ds xs f h P Q i = (vs : List Value) → AreValues (types_of (declared ds) i) (map (λ x. x.ty) xs) vs → (ms : List Memory) →
    HaveCoupledOutputs (setting (declared ds) i) (context vs ms) f h P Q

-- in each model of the declarations, for all programs within these modules
abbrev pub AreCoupledInEachModel : Declarations → List TypedName → List Bind → ProcRef → ProcRef → Term → Term → Type 0
AreCoupledInEachModel ds xs bs f h P Q = InEachModel (declared ds) (λ i. EachProgram (declared ds) bs i (AreCoupled ds xs f h P Q))
