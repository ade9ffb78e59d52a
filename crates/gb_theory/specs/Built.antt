-- What the commands of a script build.
use Rattle.std.specs.Prelude.{ℕ, Bool, true, false, if◌then◌else◌, is_some, List, [], ◌∷◌, ◌++◌, Option, Some, None}
use Rattle.gb_terms.specs.declared.decl.Module.{Module}
use Rattle.gb_goal.specs.Binders.{binder_entries, with_declared_modules}
use Rattle.gb_goal.specs.Scope.{Declarations, entry_of, path_of}
use Rattle.gb_goal.specs.declared.scope.Binder.{Binder}
use Rattle.gb_goal.specs.declared.scope.Entry.TheVariants as entry
use Rattle.gb_goal.specs.declared.scope.ProcName.{ProcName}
use Rattle.gb_goal.specs.declared.sequent.Sequent.{Sequent}
use Rattle.gb_state.specs.declared.state.Claim.{Claim}
use Rattle.gb_state.specs.declared.state.Claim.TheVariants as claim
use Rattle.gb_state.specs.Opened.{modules_of}

-- An open proof: what is claimed, a lemma or that the loops of a procedure end, the goals that are left, the first one first, and whether the word `proof` may still follow.
pub record OpenProof : Type 0 where
  pub claim : Claim
  pub goals : List Sequent
  pub fresh : Bool

-- what is declared, the open proof, and the names of the lemmas in the order of their proofs
pub record Session : Type 0 where
  pub scope : Declarations
  pub proof : Option OpenProof
  pub lemmas : List (List ℕ)

-- before the first command
abbrev pub fresh_session : Session
fresh_session = record { scope = []; proof = None; lemmas = [] }

-- more is declared
abbrev pub with_entries : Session → Declarations → Session
with_entries s added = record s { scope = s.scope ++ added }

-- a module more is declared
abbrev pub with_module : Session → Module → Session
with_module s m = record s { scope = s.scope ++ (m.name, entry.Module m) ∷ [] }

-- a proof is open
abbrev pub with_claim : Session → Claim → List Sequent → Session
with_claim s c qs = record s { proof = Some (record { claim = c; goals = qs; fresh = true }) }

-- the proof of a lemma is open, with its statement as the one goal; the modules that it binds are declared while steps run
abbrev pub with_lemma : Session → List ℕ → Sequent → List Binder → Session
with_lemma s name q bs = with_claim s (claim.Lemma name q bs) (with_declared_modules q ∷ [])

-- the declarations that the steps of a proof see
abbrev pub seen_in : Declarations → Claim → Declarations
seen_in ds c = ds ++ binder_entries (modules_of c)

-- the proof goes on with these goals
abbrev pub with_goals : Session → OpenProof → List Sequent → Session
with_goals s p qs = record s { proof = Some (record p { goals = qs; fresh = false }) }

-- that the loops of a procedure are proved is declared under its path, once
abbrev pub with_ended : Declarations → ProcName → Declarations
with_ended ds f = if is_some (entry_of ds (path_of f)) then ds else ds ++ (path_of f, entry.Terminating f) ∷ []

-- what is claimed is declared
abbrev pub scope_with : Declarations → Claim → Declarations
scope_with ds (claim.Lemma name q bs) = ds ++ (name, entry.Lemma q bs) ∷ []
scope_with ds (claim.Loops f) = with_ended ds f

-- a lemma is listed
abbrev pub lemmas_with : List (List ℕ) → Claim → List (List ℕ)
lemmas_with ns (claim.Lemma name q bs) = ns ++ name ∷ []
lemmas_with ns (claim.Loops f) = ns

-- what is claimed is proved
abbrev pub with_proved : Session → Claim → Session
with_proved s c = record { scope = scope_with s.scope c; proof = None; lemmas = lemmas_with s.lemmas c }
