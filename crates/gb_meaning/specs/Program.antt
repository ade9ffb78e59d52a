-- Programs: lists of statements, in which a call carries its procedure.
use Rattle.std.specs.Prelude.{List}
use Rattle.gb_core.specs.declared.var.Var.{Var}
use Rattle.gb_terms.specs.declared.term.Term.{Term}
use Rattle.gb_terms.specs.declared.decl.TypedName.{TypedName}
use Rattle.gb_meaning.specs.Names.{Name}

-- an oracle: a module parameter, and the name of a procedure of it
pub record Oracle : Type 0 where
  pub parameter : Name
  pub name : Name

mutual
  -- A statement and what follows it, or nothing: an assignment to variables; a sampling; a branch by its guard; a loop
  -- by its guard and its variant; a call of a procedure that stands in it; a call of an oracle by its name.
  pub data Program : Type 0 where
    done : Program
    assign : List Var → Term → Program → Program
    sample : Var → Term → Program → Program
    branch : Term → Program → Program → Program → Program
    loop : Term → Term → Program → Program → Program
    call : List Var → Routine → List Term → Program → Program
    ask : List Var → Oracle → List Term → Program → Program

  -- a procedure: its parameters, its locals, its body, and the term that it returns
  pub data Routine : Type 0 where
    routine : List TypedName → List TypedName → Program → Term → Routine

-- Each call of an oracle is linked: the program calls procedures that stand in it alone.
abbrev mutual
  pub IsLinked : Program → Type 0
  IsLinked done = Unit {0}
  IsLinked (assign xs e c) = IsLinked c
  IsLinked (sample x d c) = IsLinked c
  IsLinked (branch e a b c) = IsLinked a × IsLinked b × IsLinked c
  IsLinked (loop e v a c) = IsLinked a × IsLinked c
  IsLinked (call xs r es c) = IsLinkedRoutine r × IsLinked c
  IsLinked (ask xs o es c) = ⊥

  pub IsLinkedRoutine : Routine → Type 0
  IsLinkedRoutine (routine ps ls c r) = IsLinked c

-- a program, and another one behind it
abbrev pub followed_by : Program → Program → Program
followed_by done d = d
followed_by (assign xs e c) d = assign xs e (followed_by c d)
followed_by (sample x e c) d = sample x e (followed_by c d)
followed_by (branch e a b c) d = branch e a b (followed_by c d)
followed_by (loop e v a c) d = loop e v a (followed_by c d)
followed_by (call xs r es c) d = call xs r es (followed_by c d)
followed_by (ask xs o es c) d = ask xs o es (followed_by c d)
