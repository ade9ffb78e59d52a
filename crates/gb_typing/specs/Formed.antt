-- Sequents that name none of the declarations that are added, with abstract modules and quantifiers over modules.
use Rattle.std.specs.Prelude.{◌≡◌, ℕ, true, List, [], ◌∷◌, bytes_eq}
use Rattle.std.specs.List.{list_any}
use Rattle.gb_terms.specs.declared.op.Op.TheVariants as op
use Rattle.gb_terms.specs.declared.term.Term.{Term, Term', Row_of-Term, end_of-Term, more_of-Term, end_of-Head, more_of-Head}
use Rattle.gb_terms.specs.declared.term.Head.TheVariants as head
use Rattle.gb_terms.specs.declared.module.Bind.{Bind}
use Rattle.gb_terms.specs.declared.module.Bound.{Bound}
use Rattle.gb_goal.specs.declared.sequent.Hyp.{Hyp}
use Rattle.gb_goal.specs.declared.sequent.Sequent.{Sequent}
use Rattle.gb_meaning.specs.Names.{Name}
use Rattle.gb_meaning.specs.Values.{World}
use Rattle.gb_meaning.specs.Judgments.{IsSoundForm}
use Rattle.gb_meaning.specs.Declared.{Declarations, Signature, axiom_of}
use Rattle.gb_meaning.specs.Globs.{EachGlob}
use Rattle.gb_meaning.specs.Adversary.{Adversary, type_named}
use Rattle.gb_meaning.specs.Naming.{AnyName, IsFresh, IsTypeIn}
use Rattle.gb_meaning.specs.Settings.{Table, Interpretation, with_program, types_of, setting}
use Rattle.gb_meaning.specs.Within.{IsWithin}
use Rattle.gb_meaning.specs.Truth.{Choice, last_has_module}
use Rattle.gb_meaning.specs.Holds.{EachProgram, HaveVariableTypes, declared_modules, interpretation}
use Rattle.gb_typing.specs.Naming.{chosen_names, IsKept, EachGlobOf, FormNames, OperatorsName}

-- a signature has this name
abbrev pub IsSigned : List Signature → Name → Type 0
IsSigned ss f = list_any (λ s. bytes_eq f s.name) ss ≡ true

abbrev pub AreSigned : List Signature → List Name → Type 0
AreSigned ss [] = Unit {0}
AreSigned ss (f ∷ fs) = IsSigned ss f × AreSigned ss fs

-- each procedure that a bound names has a signature
abbrev pub AreSignedBounds : List Signature → List Bound → Type 0
AreSignedBounds ss [] = Unit {0}
AreSignedBounds ss (b ∷ bs) = AreSigned ss b.procs × AreSignedBounds ss bs

-- each of these names is kept, so that what its module excludes is the same
abbrev pub AreKept : Declarations → List Name → List Name → Type 0
AreKept es hs [] = Unit {0}
AreKept es hs (m ∷ ms) = IsKept es hs m × AreKept es hs ms

-- A binder of declarations, where modules of the names hs are bound: its module type and its restriction name none of
-- those that are added, and its bounds name procedures of its module type.
pub record IsFormedBind (es ds : Declarations) (hs : List Name) (b : Bind) : Type 0 where
  pub type : IsTypeIn (IsFresh es) ds b.ty
  pub minus : AreKept es hs b.minus
  pub bounds : AreSignedBounds (type_named ds b.ty).signatures b.bounds

-- all are such binders; each binds its name
abbrev pub AreFormedBinds : Declarations → Declarations → List Name → List Bind → Type 0
AreFormedBinds es ds hs [] = Unit {0}
AreFormedBinds es ds hs (b ∷ bs) = IsFormedBind es ds (b.name ∷ hs) b × AreFormedBinds es ds (b.name ∷ hs) bs

-- the names that stand for none of the declarations where the programs of an interpretation are chosen
abbrev pub IsKeptIn : Declarations → Interpretation → Name → Type 0
IsKeptIn es i n = IsKept es (chosen_names i.programs) n

-- A form that names none of the declarations, and judges sound subjects alone.
abbrev pub IsSaidApart : Declarations → Declarations → Term → Interpretation → Type 0
IsSaidApart es ds f i = FormNames (IsKeptIn es i) AnyName (setting ds i) f × IsSoundForm (setting ds i) f

-- so does the premise, the first argument
abbrev pub IsFirstApart : {n : _} → Declarations → Declarations → Row_of-Term n → Interpretation → Type 0
IsFirstApart es ds end_of-Term i = Unit {0}
IsFirstApart es ds (more_of-Term t ts) i = IsSaidApart es ds t i

-- A formula that names none of the declarations that are added, in front of it quantifiers over modules: whatever
-- programs within the binders are chosen.
abbrev mutual
  pub IsApartFormula : Declarations → Declarations → Term → Interpretation → Type 0
  IsApartFormula es ds (Term' p (more_of-Head (head.AllModule b) end_of-Head) n ts ty) i =
      IsFormedBind es ds (b.name ∷ chosen_names i.programs) b
      × ((a : Adversary) → IsWithin ds (with_program i b a) b a → IsLastApart es ds ts (with_program i b a))
  IsApartFormula es ds (Term' p (more_of-Head (head.All u) end_of-Head) n ts ty) i =
      Choice (last_has_module ts) (EachGlob (IsKeptIn es i) u × IsLastApart es ds ts i)
      (IsSaidApart es ds (Term' p (more_of-Head (head.All u) end_of-Head) n ts ty) i)
  IsApartFormula es ds (Term' p (more_of-Head head.AllMemory end_of-Head) n ts ty) i =
      Choice (last_has_module ts) (IsLastApart es ds ts i) (IsSaidApart es ds (Term' p (more_of-Head head.AllMemory end_of-Head) n ts ty) i)
  IsApartFormula es ds (Term' p (more_of-Head (head.Builtin op.Implies) end_of-Head) n ts ty) i =
      Choice (last_has_module ts) (IsFirstApart es ds ts i × IsLastApart es ds ts i)
      (IsSaidApart es ds (Term' p (more_of-Head (head.Builtin op.Implies) end_of-Head) n ts ty) i)
  IsApartFormula es ds f i = IsSaidApart es ds f i

  pub IsLastApart : {n : _} → Declarations → Declarations → Row_of-Term n → Interpretation → Type 0
  IsLastApart es ds end_of-Term i = Unit {0}
  IsLastApart es ds (more_of-Term t end_of-Term) i = IsApartFormula es ds t i
  IsLastApart es ds (more_of-Term t (more_of-Term u ts)) i = IsLastApart es ds (more_of-Term u ts) i

-- all hypotheses are such formulas
abbrev pub AreHypsApart : Declarations → Declarations → List Hyp → Interpretation → Type 0
AreHypsApart es ds [] i = Unit {0}
AreHypsApart es ds (h ∷ hs) i = IsApartFormula es ds h.form i × AreHypsApart es ds hs i

-- what the sequent says after its binders is of such formulas, and its types name none of those that are added
abbrev pub SaysApart : Declarations → Declarations → Sequent → Interpretation → Type 0
SaysApart es ds q i = EachGlobOf (IsKeptIn es i) q.logical × AreHypsApart es ds q.hyps i × IsApartFormula es ds q.conclusion i

-- A sequent of such formulas, whose context names none of the declarations that are added.
pub record IsSequentApart (es ds : Declarations) (q : Sequent) (i : Interpretation) : Type 0 where
  pub binders : AreFormedBinds es ds (chosen_names i.programs) q.modules
  pub says : EachProgram ds q.modules i (SaysApart es ds q)

-- each axiom is such a sequent
abbrev pub AreAxiomsApart : Declarations → Declarations → Declarations → Interpretation → Type 0
AreAxiomsApart es all [] i = Unit {0}
AreAxiomsApart es all ((n, axiom_of q) ∷ ds) i = IsSequentApart es all q i × AreAxiomsApart es all ds i
AreAxiomsApart es all (d ∷ ds) i = AreAxiomsApart es all ds i

-- The operators, the open sections and the axioms of a scope name none of the declarations that are added.
pub record IsScopeApart (es ds : Declarations) : Type 0 where
  pub operators : OperatorsName (IsFresh es) AnyName ds
  pub binders : AreFormedBinds es ds [] (declared_modules ds)
  pub axioms : (w : World) (size : Name → ℕ) (table : Table) → HaveVariableTypes (types_of ds (interpretation w size table)) w →
      AreAxiomsApart es ds ds (interpretation w size table)
