-- Programs that speak of the globals of some modules alone, where they take all globals of a module together: as a variable, or in a
-- type `glob A`.
use Rattle.std.specs.Prelude.{List, [], ◌∷◌}
use Rattle.gb_terms.specs.declared.decl.Proc.{Proc}
use Rattle.gb_terms.specs.declared.term.Head.TheVariants.{Assign, Sample, Call', If', While'}
use Rattle.gb_terms.specs.declared.term.Instr.{Instr, Row_of-Instr, end_of-Instr, more_of-Instr}
use Rattle.gb_meaning.specs.Names.{Name}
use Rattle.gb_meaning.specs.Declared.{Declarations, Declaration, concrete_module}
use Rattle.gb_meaning.specs.Holds.{EachDeclared}
use Rattle.gb_meaning.specs.Naming.{AnyName}
use Rattle.gb_typing.specs.Naming.{TermNames, TermsName}

abbrev mutual
  -- each module whose globals the terms of a statement speak of is in P
  pub StatementSpeaks : (Name → Type 0) → Instr → Type 0
  StatementSpeaks P (Assign xs e) = TermNames P AnyName e
  StatementSpeaks P (Sample x d) = TermNames P AnyName d
  StatementSpeaks P (Call' xs p n es) = TermsName P AnyName es
  StatementSpeaks P (If' e m a n b) = TermNames P AnyName e × StatementsSpeak P a × StatementsSpeak P b
  StatementSpeaks P (While' e v n a) = TermNames P AnyName e × TermNames P AnyName v × StatementsSpeak P a

  pub StatementsSpeak : {n : _} → (Name → Type 0) → Row_of-Instr n → Type 0
  StatementsSpeak P end_of-Instr = Unit {0}
  StatementsSpeak P (more_of-Instr i is) = StatementSpeaks P i × StatementsSpeak P is

-- the same of a list of statements
abbrev pub BodySpeaks : (Name → Type 0) → List Instr → Type 0
BodySpeaks P [] = Unit {0}
BodySpeaks P (i ∷ is) = StatementSpeaks P i × BodySpeaks P is

-- of a procedure
abbrev pub ProcedureSpeaks : (Name → Type 0) → Proc → Type 0
ProcedureSpeaks P p = BodySpeaks P p.body.list × TermNames P AnyName p.value

-- of procedures
abbrev pub ProceduresSpeak : (Name → Type 0) → List Proc → Type 0
ProceduresSpeak P [] = Unit {0}
ProceduresSpeak P (p ∷ ps) = ProcedureSpeaks P p × ProceduresSpeak P ps

-- and of a module
abbrev pub DeclarationSpeaks : (Name → Type 0) → Declaration → Type 0
DeclarationSpeaks P (concrete_module m) = ProceduresSpeak P m.procs
DeclarationSpeaks P _ = Unit {0}

-- The modules of a scope speak of the globals of modules in P alone.
abbrev pub ScopeSpeaks : (Name → Type 0) → Declarations → Type 0
ScopeSpeaks P ds = EachDeclared (DeclarationSpeaks P) ds
