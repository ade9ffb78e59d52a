-- An open proof among the declarations.
use Rattle.std.specs.Prelude.{Bool, true, ◌&&◌, List, [], ◌∷◌, ◌++◌, Option, Some, None, is_none}
use Rattle.gb_terms.specs.declared.module.Bind.{Bind}
use Rattle.gb_goal.specs.declared.scope.Entry.TheVariants as entry
use Rattle.gb_goal.specs.declared.sequent.Sequent.{Sequent}
use Rattle.gb_goal.specs.Scope.{Declarations, entry_of}
use Rattle.gb_state.specs.declared.state.Claim.{Claim}
use Rattle.gb_state.specs.declared.state.Claim.TheVariants as claim
use Rattle.gb_state.specs.declared.state.OpenProof.{OpenProof}

-- nothing is declared under the names of these modules, and each has another one
abbrev pub are_new : Declarations → List Bind → Bool
are_new ds [] = true
are_new ds (b ∷ bs) = is_none (entry_of ds b.name) && are_new (ds ++ (b.name, entry.AbstractModule b) ∷ []) bs

-- nothing is declared under the name of a lemma, and under those of the modules that it binds
abbrev pub is_new : Declarations → Claim → Bool
is_new ds (claim.Lemma name q bs) = is_none (entry_of ds name) && are_new ds q.modules
is_new ds (claim.Loops f) = true

-- .. of the open one
abbrev pub is_undeclared : Declarations → Option OpenProof → Bool
is_undeclared ds None = true
is_undeclared ds (Some proof) = is_new ds proof.claim

-- the modules that are declared while the steps of a proof run: those that its lemma binds
abbrev pub modules_of : Claim → List Bind
modules_of (claim.Lemma name q bs) = q.modules
modules_of (claim.Loops f) = []

-- a goal with the modules that its lemma binds in its context
abbrev pub in_context : Claim → Sequent → Sequent
in_context c q = record q { modules = modules_of c }
