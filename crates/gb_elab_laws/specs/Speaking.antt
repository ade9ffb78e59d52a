-- Scopes and goals that speak of the globals of some modules alone, where they take all globals of a module together: as a
-- variable, or in a type `glob A`.
use Rattle.std.specs.Prelude.{◌≡◌, false, List, [], ◌∷◌}
use Rattle.gb_terms.specs.declared.term.Term.{Term, Term', end_of-Head, more_of-Head}
use Rattle.gb_terms.specs.declared.term.Head.{Head}
use Rattle.gb_terms.specs.declared.term.Head.TheVariants as head
use Rattle.gb_terms.specs.declared.term.Head.TheVariants.{Proc as procedure, Body'}
use Rattle.gb_terms.specs.declared.term.Subject.{Subject}
use Rattle.gb_goal.specs.declared.sequent.Hyp.{Hyp}
use Rattle.gb_goal.specs.declared.sequent.Sequent.{Sequent}
use Rattle.gb_goal.specs.Scope as scope
use Rattle.gb_meaning.specs.Names.{Name}
use Rattle.gb_meaning.specs.Declared.{Declaration, declared, module_type, concrete_module, lemma}
use Rattle.gb_meaning.specs.Holds.{EachDeclared}
use Rattle.gb_meaning.specs.Naming.{AnyName}
use Rattle.gb_meaning.specs.Truth.{has_module}
use Rattle.gb_typing.specs.Naming.{EachGlobOf, TermNames}
pub use Rattle.gb_typing.specs.Speaking.{StatementSpeaks, StatementsSpeak, BodySpeaks, ProceduresSpeak, DeclarationSpeaks, ScopeSpeaks}
use Rattle.gb_arguments.specs.Firm.{IsFirm}

-- the body of a judgment, if it speaks of one
abbrev pub SubjectSpeaks : (Name → Type 0) → Subject → Type 0
SubjectSpeaks P (procedure r) = Unit {0}
SubjectSpeaks P (Body' n is) = StatementsSpeak P is

abbrev pub HeadSpeaks : (Name → Type 0) → Head → Type 0
HeadSpeaks P (head.Hoare s) = SubjectSpeaks P s
HeadSpeaks P (head.Phoare s r) = SubjectSpeaks P s
HeadSpeaks P (head.Equiv s u) = SubjectSpeaks P s × SubjectSpeaks P u
HeadSpeaks P _ = Unit {0}

-- the bodies of a judgment
abbrev pub BodiesSpeak : (Name → Type 0) → Term → Type 0
BodiesSpeak P (Term' p (more_of-Head h end_of-Head) n ts ty) = HeadSpeaks P h

abbrev pub HypsSpeak : (Name → Type 0) → List Hyp → Type 0
HypsSpeak P [] = Unit {0}
HypsSpeak P (h ∷ hs) = TermNames P AnyName h.form × HypsSpeak P hs

-- A goal speaks of the globals of modules in P alone.
pub record GoalSpeaks (P : Name → Type 0) (q : Sequent) : Type 0 where
  pub logical : EachGlobOf P q.logical
  pub hyps : HypsSpeak P q.hyps
  pub conclusion : TermNames P AnyName q.conclusion
  pub bodies : BodiesSpeak P q.conclusion

-- A goal that quantifies over no module, neither in its context nor in front of its conclusion.
pub record IsWithoutModules (q : Sequent) : Type 0 where
  pub modules : q.modules ≡ []
  pub conclusion : has_module q.conclusion ≡ false

-- no declaration of the scope is an abstract module, as in those of scripts
abbrev pub IsFirmScope : scope.Declarations → Type 0
IsFirmScope ds = EachDeclared IsFirm (declared ds)

-- a module, with parameters or without, a module type or a lemma
abbrev pub IsModuleOrLemma : Declaration → Type 0
IsModuleOrLemma (concrete_module m) = Unit {0}
IsModuleOrLemma (module_type t) = Unit {0}
IsModuleOrLemma (lemma q) = Unit {0}
IsModuleOrLemma _ = ⊥
