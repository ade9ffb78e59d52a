-- Well-typed goals.
use Rattle.std.specs.Prelude.{◌≡◌, List, [], ◌∷◌, length, map, Some, None}
use Rattle.gb_terms.specs.declared.decl.TypedName.{TypedName}
use Rattle.gb_terms.specs.declared.module.Bind.{Bind}
use Rattle.gb_terms.specs.declared.term.Instr.{Row_of-Instr}
use Rattle.gb_terms.specs.declared.term.Term.{Term, Term', end_of-Head, more_of-Head}
use Rattle.gb_terms.specs.declared.term.Head.TheVariants as head
use Rattle.gb_terms.specs.declared.term.Head.TheVariants.{Body'}
use Rattle.gb_goal.specs.declared.sequent.Hyp.{Hyp}
use Rattle.gb_goal.specs.declared.sequent.Sequent.{Sequent}
use Rattle.gb_laws.specs.Operators.{item}
use Rattle.gb_laws.specs.Typing.{types_of, IsHead}
use Rattle.gb_laws.specs.Programs.{HaveFiniteTypes}
use Rattle.gb_typing.specs.Context.{Context, erased, with_own, with_sides}
use Rattle.gb_typing.specs.Typing.{AreTyped, IsForm}
use Rattle.gb_typing.specs.Programs.{AreStatements, HaveVariableTypes}
use Rattle.gb_typing.specs.Formulas.{IsBinder, with_module, IsFormula}

-- the body of a judgment, over these locals
abbrev pub IsOver : {n : _} → Context → List TypedName → Row_of-Instr n → Type 0
IsOver c ls is = HaveVariableTypes ls × AreStatements c ls is

-- the contexts of what is said of one program, and of two, over these locals
abbrev pub one : Context → List TypedName → Context
one c ls = with_own c (Some ls)

abbrev pub two : Context → List TypedName → List TypedName → Context
two c ls rs = with_sides c (Some ls) (Some rs)

-- A conclusion: a judgment of bodies over some locals, which the conditions may read and a bound may not; or else a formula.
abbrev pub IsConclusion : Context → Term → Type 0
IsConclusion c (Term' a (more_of-Head (head.Hoare (Body' k is)) end_of-Head) n ts t) =
    IsHead (erased c) (head.Hoare (Body' k is)) (types_of ts) t
    × (ls : List TypedName) × IsOver c ls is × AreTyped (one c ls) (one c ls) (one c ls) ts
IsConclusion c (Term' a (more_of-Head (head.Phoare (Body' k is) r) end_of-Head) n ts t) =
    IsHead (erased c) (head.Phoare (Body' k is) r) (types_of ts) t
    × (ls : List TypedName) × IsOver c ls is × AreTyped (one c ls) (one c ls) (with_own c None) ts
IsConclusion c (Term' a (more_of-Head (head.Equiv (Body' k is) (Body' l js)) end_of-Head) n ts t) =
    IsHead (erased c) (head.Equiv (Body' k is) (Body' l js)) (types_of ts) t
    × (ls : List TypedName) × (rs : List TypedName) × IsOver c ls is × IsOver c rs js × AreTyped (two c ls rs) (two c ls rs) (two c ls rs) ts
IsConclusion c f = IsFormula c f

-- the context with abstract modules, one after another
abbrev pub with_modules : Context → List Bind → Context
with_modules c [] = c
with_modules c (b ∷ bs) = with_modules (with_module c b) bs

abbrev pub AreBinders : Context → List Bind → Type 0
AreBinders c [] = Unit {0}
AreBinders c (b ∷ bs) = IsBinder c b × AreBinders (with_module c b) bs

-- the context of a goal: its modules, its logical variables, and its memories, which have these locals
abbrev pub of_sequent : Context → Sequent → List (List TypedName) → Context
of_sequent c q fs = record (with_modules c q.modules) { logical = λ i. item (map (λ x. x.ty) q.logical) i; named = map Some fs }

-- hypotheses are forms: none quantifies over modules
abbrev pub AreHypotheses : Context → List Hyp → Type 0
AreHypotheses c [] = Unit {0}
AreHypotheses c (h ∷ hs) = IsForm c h.form × AreHypotheses c hs

-- A goal over declarations, for some locals of each memory of its context.
pub record IsTypedSequent (c : Context) (q : Sequent) : Type 0 where
  pub modules : AreBinders c q.modules
  pub logical : HaveFiniteTypes q.logical
  pub frames : List (List TypedName)
  pub memories : length frames ≡ length q.memories
  pub hyps : AreHypotheses (of_sequent c q frames) q.hyps
  pub conclusion : IsConclusion (of_sequent c q frames) q.conclusion
