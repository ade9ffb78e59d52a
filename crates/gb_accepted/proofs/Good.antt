-- Sessions in which what is declared is typed, what is proved holds, and what is open leads to a lemma that holds.
use Rattle.std.proofs.Common.{◌≡◌, ℕ, false, List, [], Option, Some, None, refl}
use Rattle.std.specs.List.{AllByRecursion}
use Rattle.gb_terms.specs.declared.decl.Proc.{Proc}
use Rattle.gb_goal.specs.Binders.{binder_entries}
use Rattle.gb_goal.specs.Scope.{Declarations, procedure_of}
use Rattle.gb_goal.specs.declared.scope.ProcName.{ProcName}
use Rattle.gb_goal.specs.declared.sequent.Sequent.{Sequent}
use Rattle.gb_meaning.specs.Declared.{declared}
use Rattle.gb_meaning.specs.Holds.{Holds, IsSound}
use Rattle.gb_typing.specs.Sequents.{IsTypedSequent}
use Rattle.gb_typing.specs.Scopes.{context_of, is_declared, IsTypedScope}
use Rattle.gb_theory.specs.Built.{Session, OpenProof, fresh_session}
use Rattle.gb_typing.specs.Naming.{NoName}
use Rattle.gb_elab_laws.specs.Speaking.{IsFirmScope, ScopeSpeaks}
use Rattle.gb_elab_laws.specs.Procedures.{IsOfProcedures}
use Rattle.gb_arguments.specs.Unblank.{AreUnblank}
use Rattle.gb_print.specs.Blank.{begins_blank}
use Rattle.gb_state.specs.declared.state.Claim.{Claim}
use Rattle.gb_state.specs.declared.state.Claim.TheVariants as claim
use Rattle.gb_accepted.specs.Holding.{AllHold, Lemma, lemmas_in}
use Rattle.gb_accepted.proofs.Grounds.{IsGoalThatEnds, IsTyped, seen}
use Rattle.gb_accepted.proofs.LoopProofs.{named, IsGoodLoops}

-- The name of an open lemma is free, and its statement, which is about procedures, is typed. Neither its name nor one of the modules that it binds
-- begins with a blank. Its goals may be worked on where these modules are declared, and where they hold there, it does.
pub record IsGoodLemma (ds : Declarations) (n : List ℕ) (q : Sequent) (gs : List Sequent) : Type 0 where
  pub free : is_declared (declared ds) n ≡ false
  pub statement : IsTypedSequent (context_of (declared ds)) q
  pub procedures : IsOfProcedures q
  pub unblank : begins_blank n ≡ false
  pub binders : AreUnblank (binder_entries q.modules)
  pub scope : IsTyped (seen ds q.modules)
  pub goals : AllByRecursion (IsGoalThatEnds (seen ds q.modules)) gs
  pub leads : AllByRecursion (Holds (declared (seen ds q.modules))) gs → Holds (declared ds) q

-- an open proof that the loops of a declared procedure end
pub record IsGoodTermination (ds : Declarations) (f : ProcName) (gs : List Sequent) : Type 0 where
  pub procedure : Proc
  pub there : procedure_of ds (named f) ≡ Some procedure
  pub loops : IsGoodLoops ds procedure gs

abbrev pub IsGoodClaim : Declarations → Claim → List Sequent → Type 0
IsGoodClaim ds (claim.Lemma n q bs) gs = IsGoodLemma ds n q gs
IsGoodClaim ds (claim.Loops f) gs = IsGoodTermination ds f gs

abbrev pub IsGoodIfOpen : Declarations → Option OpenProof → Type 0
IsGoodIfOpen ds None = Unit {0}
IsGoodIfOpen ds (Some p) = IsGoodClaim ds p.claim p.goals

-- a lemma states a goal about procedures
abbrev pub StatesProcedures : Lemma → Type 0
StatesProcedures l = IsOfProcedures l.statement

pub record IsGood (s : Session) : Type 0 where
  pub typed : IsTypedScope (declared s.scope)
  pub firm : IsFirmScope s.scope
  pub sound : IsSound (declared s.scope)
  pub lemmas : AllHold s
  pub speaks : ScopeSpeaks NoName (declared s.scope)
  pub statements : AllByRecursion StatesProcedures (lemmas_in [] s.scope)
  pub unblank : AreUnblank s.scope
  pub proof : IsGoodIfOpen s.scope s.proof

pub fresh_is_good : IsGood fresh_session
fresh_is_good = record { typed = tt; firm = tt; sound = tt; lemmas = record { names = refl; proved = tt }; speaks = tt; statements = tt; unblank = tt; proof = tt }
