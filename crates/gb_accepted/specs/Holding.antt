-- Lemmas that hold.
use Rattle.std.specs.Prelude.{◌≡◌, List, [], ◌∷◌, ◌++◌, map}
use Rattle.std.specs.List.{AllByRecursion}
use Rattle.gb_goal.specs.Scope.{Declarations}
use Rattle.gb_goal.specs.declared.scope.Entry.{Entry}
use Rattle.gb_goal.specs.declared.scope.Entry.TheVariants as entry
use Rattle.gb_goal.specs.declared.sequent.Sequent.{Sequent}
use Rattle.gb_terms.specs.declared.decl.TypedName.{TypedName}
use Rattle.gb_terms.specs.declared.module.Bind.{Bind}
use Rattle.gb_terms.specs.declared.module.ProcRef.{ProcRef}
use Rattle.gb_terms.specs.declared.term.Term.{Term}
use Rattle.gb_meaning.specs.Names.{Name}
use Rattle.gb_meaning.specs.Declared.{declared}
use Rattle.gb_meaning.specs.Holds.{Holds, IsSound}
use Rattle.gb_typing.specs.Sequents.{IsTypedSequent}
use Rattle.gb_typing.specs.Scopes.{context_of, IsTypedScope}
use Rattle.gb_elab_laws.specs.Promised.{HasModel, equivalence, stated, AreCoupledInEachModel}
use Rattle.gb_theory.specs.Built.{Session}

-- A lemma: its name, the declarations before it, and its statement.
pub record Lemma : Type 0 where
  pub name : Name
  pub before : Declarations
  pub statement : Sequent

-- a lemma holds over the declarations before it
abbrev pub LemmaHolds : Lemma → Type 0
LemmaHolds l = Holds (declared l.before) l.statement

-- A lemma that is proved: the declarations before it are typed, and its statement is in them; and it holds.
pub record IsProved (l : Lemma) : Type 0 where
  pub scope : IsTypedScope (declared l.before)
  pub typed : IsTypedSequent (context_of (declared l.before)) l.statement
  pub holds : LemmaHolds l

-- What a lemma promises: the declarations before it have a model, so that it doesn't hold for want of one; and where it is an
-- equivalence of two procedures, there are couplings of their outputs, in each model, for all programs within the modules that it binds
-- and all values of its variables, and from all related memories.
pub record IsPromise (l : Lemma) : Type 0 where
  pub model : HasModel l.before
  pub coupled : (xs : List TypedName) (ms : List Name) (bs : List Bind) (f h : ProcRef) (P Q : Term) →
      l.statement ≡ stated xs ms bs (equivalence f h P Q) → AreCoupledInEachModel l.before xs bs f h P Q

-- what is declared under a name, after other declarations, and further lemmas
abbrev pub with_entry : Declarations → Name → Entry → List Lemma → List Lemma
with_entry before n (entry.Lemma q order) ls = record { name = n; before = before; statement = q } ∷ ls
with_entry before n e ls = ls

-- the lemmas of declarations behind others
abbrev pub lemmas_in : Declarations → Declarations → List Lemma
lemmas_in before [] = []
lemmas_in before (d ∷ ds) = with_entry before d.0 d.1 (lemmas_in (before ++ d ∷ []) ds)

-- the names of lemmas
abbrev pub names_of : List Lemma → List Name
names_of ls = map (λ l. l.name) ls

-- The lemmas that a session names are those of its scope, in their order, and each is proved.
pub record AllHold (s : Session) : Type 0 where
  pub names : names_of (lemmas_in [] s.scope) ≡ s.lemmas
  pub proved : AllByRecursion IsProved (lemmas_in [] s.scope)

-- What is promised of the session that an accepted script comes to: its scope is typed, so that each name is declared once, and
-- sound; its lemmas are proved, and keep their promises.
pub record IsPromised (s : Session) : Type 0 where
  pub typed : IsTypedScope (declared s.scope)
  pub sound : IsSound (declared s.scope)
  pub lemmas : AllHold s
  pub promises : AllByRecursion IsPromise (lemmas_in [] s.scope)
