-- When two settings agree on what the names in a term, a program or a form mean.
use Rattle.std.specs.Prelude.{◌≡◌, List, [], ◌∷◌, Option, Some, None}
use Rattle.gb_core.specs.declared.ty.Ty.{Ty}
use Rattle.gb_core.specs.declared.var.Var.{Var}
use Rattle.gb_core.specs.declared.var.Var.TheVariants as var
use Rattle.gb_terms.specs.declared.decl.TypedName.{TypedName}
use Rattle.gb_terms.specs.declared.module.Mexp.{Mexp}
use Rattle.gb_terms.specs.declared.module.Mexp.TheVariants.{Name as named}
use Rattle.gb_terms.specs.declared.module.ProcRef.{ProcRef}
use Rattle.gb_terms.specs.declared.op.Read.TheVariants as read
use Rattle.gb_terms.specs.declared.term.Term.{Term, Term', Row_of-Term, end_of-Term, more_of-Term, end_of-Head, more_of-Head}
use Rattle.gb_terms.specs.declared.term.Head.{Head}
use Rattle.gb_terms.specs.declared.term.Head.TheVariants as head
use Rattle.gb_terms.specs.declared.term.Head.TheVariants.{Proc, Body'}
use Rattle.gb_terms.specs.declared.term.Subject.{Subject}
use Rattle.gb_meaning.specs.Names.{Name}
use Rattle.gb_meaning.specs.Values.{Global, Types, values}
use Rattle.gb_meaning.specs.Operators.{outcome_type, key_type}
use Rattle.gb_meaning.specs.Program.{Program, Routine}
use Rattle.gb_meaning.specs.Program.Program.{done, assign, sample, branch, loop, call, ask}
use Rattle.gb_meaning.specs.Program.Routine.{routine}
use Rattle.gb_meaning.specs.Setting.{Setting}
use Rattle.gb_meaning.specs.Commands.{program_of}
use Rattle.gb_meaning.specs.Naming.{EachCallIn}

-- the type has the same values
abbrev pub SameValues : Types → Types → Ty → Type 0
SameValues t u ty = values t ty ≡ values u ty

-- and so have the outcomes and the keys of the type
abbrev pub SameType : Types → Types → Ty → Type 0
SameType t u ty = SameValues t u ty × SameValues t u (outcome_type ty) × SameValues t u (key_type ty)

-- the types of these names have the same values
abbrev pub SameLocals : Types → Types → List TypedName → Type 0
SameLocals t u [] = Unit {0}
SameLocals t u (x ∷ xs) = SameValues t u x.ty × SameLocals t u xs

-- and those of these globals
abbrev pub SameGlobals : Types → Types → List Global → Type 0
SameGlobals t u [] = Unit {0}
SameGlobals t u (x ∷ xs) = SameValues t u x.ty × SameGlobals t u xs

-- the module expression has the same footprint, of globals whose types have the same values
abbrev pub SameFootprint : Types → Types → Mexp → Type 0
SameFootprint t u m = (t.footprint m ≡ u.footprint m) × SameGlobals t u (t.footprint m)

-- the variable is read alike at a type
abbrev pub SameRead : Types → Types → Var → Ty → Type 0
SameRead t u (var.Glob a) ty = SameFootprint t u (named a)
SameRead t u _ ty = SameValues t u ty

-- the variable stands for the same places
abbrev pub SameWritten : Types → Types → Var → Type 0
SameWritten t u (var.Glob a) = t.footprint (named a) ≡ u.footprint (named a)
SameWritten t u _ = Unit {0}

-- and so do these variables
abbrev pub AreWritten : Types → Types → List Var → Type 0
AreWritten t u [] = Unit {0}
AreWritten t u (x ∷ xs) = SameWritten t u x × AreWritten t u xs

-- the operator has the same function, and the same denominator
abbrev pub SameOperator : Setting → Setting → Name → Type 0
SameOperator g h n = (g.operator n ≡ h.operator n) × (g.denominator n ≡ h.denominator n)

-- what a head names, but procedures
abbrev pub SameLeaf : Setting → Setting → Head → Ty → Type 0
SameLeaf g h (head.Read (read.Program x r)) ty = SameRead g.types h.types x ty
SameLeaf g h (head.Builtin o) ty = SameType g.types h.types ty
SameLeaf g h (head.User n) ty = SameOperator g h n
SameLeaf g h (head.All u) ty = SameValues g.types h.types u
SameLeaf g h (head.Some u) ty = SameValues g.types h.types u
SameLeaf g h (head.Glob m r) ty = SameFootprint g.types h.types m
SameLeaf g h _ ty = Unit {0}

abbrev mutual
  -- what a term names, but procedures
  pub SameTerm : Setting → Setting → Term → Type 0
  SameTerm g h (Term' p (more_of-Head hd end_of-Head) n ts ty) = SameLeaf g h hd ty × SameTerms g h ts

  pub SameTerms : {n : _} → Setting → Setting → Row_of-Term n → Type 0
  SameTerms g h end_of-Term = Unit {0}
  SameTerms g h (more_of-Term t ts) = SameTerm g h t × SameTerms g h ts

-- what a list of terms names
abbrev pub AreSameTerms : Setting → Setting → List Term → Type 0
AreSameTerms g h [] = Unit {0}
AreSameTerms g h (e ∷ es) = SameTerm g h e × AreSameTerms g h es

abbrev mutual
  -- what a program names, through every procedure that it carries
  pub SameProgram : Setting → Setting → Program → Type 0
  SameProgram g h done = Unit {0}
  SameProgram g h (assign xs e c) = AreWritten g.types h.types xs × SameTerm g h e × SameProgram g h c
  SameProgram g h (sample x d c) = SameWritten g.types h.types x × SameTerm g h d × SameProgram g h c
  SameProgram g h (branch e a b c) = SameTerm g h e × SameProgram g h a × SameProgram g h b × SameProgram g h c
  SameProgram g h (loop e v a c) = SameTerm g h e × SameTerm g h v × SameProgram g h a × SameProgram g h c
  SameProgram g h (call xs r es c) = AreWritten g.types h.types xs × SameRoutine g h r × AreSameTerms g h es × SameProgram g h c
  SameProgram g h (ask xs o es c) = SameProgram g h c

  pub SameRoutine : Setting → Setting → Routine → Type 0
  SameRoutine g h (routine ps ls c r) =
      SameLocals g.types h.types ps × SameLocals g.types h.types ls × SameProgram g h c × SameTerm g h r

-- what a procedure names, if it is there
abbrev pub SameIfThere : Setting → Setting → Option Routine → Type 0
SameIfThere g h None = Unit {0}
SameIfThere g h (Some r) = SameRoutine g h r

-- the reference means the same procedure
abbrev pub SameProcedure : Setting → Setting → ProcRef → Type 0
SameProcedure g h p = (g.procedure p ≡ h.procedure p) × SameIfThere g h (g.procedure p)

-- what a judgment speaks of is the same
abbrev pub SameSubject : Setting → Setting → Subject → Type 0
SameSubject g h (Proc p) = SameProcedure g h p
SameSubject g h (Body' n is) = EachCallIn (λ p. g.procedure p ≡ h.procedure p) is × SameProgram g h (program_of g is)

-- the programs of a head
abbrev pub SameJudged : Setting → Setting → Head → Type 0
SameJudged g h (head.Pr p r) = SameProcedure g h p
SameJudged g h (head.Hoare c) = SameSubject g h c
SameJudged g h (head.Phoare c r) = SameSubject g h c
SameJudged g h (head.Equiv c d) = SameSubject g h c × SameSubject g h d
SameJudged g h _ = Unit {0}

abbrev mutual
  -- what a form names
  pub SameForm : Setting → Setting → Term → Type 0
  SameForm g h (Term' p (more_of-Head hd end_of-Head) n ts ty) = SameLeaf g h hd ty × SameJudged g h hd × SameForms g h ts

  pub SameForms : {n : _} → Setting → Setting → Row_of-Term n → Type 0
  SameForms g h end_of-Term = Unit {0}
  SameForms g h (more_of-Term t ts) = SameForm g h t × SameForms g h ts
