-- The lemmas of accepted scripts.
use Rattle.std.proofs.Common.{ℕ, List, [], ◌∷◌, subst}
use Rattle.std.specs.List.{AllByRecursion}
use Rattle.gb_goal.specs.Answers.Answer.{given}
use Rattle.gb_goal.specs.Scope.{Declarations}
use Rattle.gb_meaning.specs.Declared.{declared}
use Rattle.gb_meaning.specs.Holds.{Holds, IsSound}
use Rattle.gb_typing.specs.Sequents.{IsTypedSequent}
use Rattle.gb_typing.specs.Scopes.{context_of}
use Rattle.gb_typing.specs.Naming.{NoName}
use Rattle.gb_elab_laws.specs.Speaking.{IsFirmScope, ScopeSpeaks}
use Rattle.gb_elab_laws.specs.Members.{CallsAreDeclared}
use Rattle.gb_theory.specs.Built.{Session}
use Rattle.gb_theory.specs.Outcome.{IsOutcome}
use Rattle.gb_accepted.specs.Holding.{Lemma, IsProved, IsPromise, lemmas_in, IsPromised}
use Rattle.gb_accepted.specs.Scopes.{EndedLoopsAreGood, FootprintsAreMeant}
use Rattle.gb_accepted.proofs.Grounds.{Grounds, IsTyped}
use Rattle.gb_accepted.proofs.Runs.{outcome_is_good}

module _ (o : Grounds) where
  -- what is proved keeps its promise
  promised : (l : Lemma) → IsProved l → IsPromise l
  promised l p = record {
    model = o.models.model l.before p.scope;
    coupled = λ xs ms bs f h P Q e.
        o.models.coupled l.before p.scope xs ms bs f h P Q (subst (IsTypedSequent (context_of (declared l.before))) e p.typed) (subst (Holds (declared l.before)) e p.holds);
  }

  each_promised : (ls : List Lemma) → AllByRecursion IsProved ls → AllByRecursion IsPromise ls
  each_promised [] h = tt
  each_promised (l ∷ ls) h = (promised l h.0, each_promised ls h.1)

  -- what is known of the calls in typed scopes, of ended modules and of footprints is known of the scope of an accepted script
  pub scope_calls : ((ds : Declarations) → IsTyped ds → IsFirmScope ds → CallsAreDeclared ds) → (text : List ℕ) (s : Session) → IsOutcome text (given s) → CallsAreDeclared s.scope
  scope_calls law text s outcome = let g = outcome_is_good o text s outcome in law s.scope g.typed g.firm

  pub scope_ended : ((ds : Declarations) → IsTyped ds → IsFirmScope ds → IsSound (declared ds) → ScopeSpeaks NoName (declared ds) → EndedLoopsAreGood ds) →
      (text : List ℕ) (s : Session) → IsOutcome text (given s) → EndedLoopsAreGood s.scope
  scope_ended law text s outcome = let g = outcome_is_good o text s outcome in law s.scope g.typed g.firm g.sound g.speaks

  pub scope_footprints : ((ds : Declarations) → IsTyped ds → IsFirmScope ds → FootprintsAreMeant ds) → (text : List ℕ) (s : Session) → IsOutcome text (given s) → FootprintsAreMeant s.scope
  scope_footprints law text s outcome = let g = outcome_is_good o text s outcome in law s.scope g.typed g.firm

  -- an accepted script keeps what is promised
  pub all_promised : (text : List ℕ) (s : Session) → IsOutcome text (given s) → IsPromised s
  all_promised text s outcome =
      let g = outcome_is_good o text s outcome in
      record { typed = g.typed; sound = g.sound; lemmas = g.lemmas; promises = each_promised (lemmas_in [] s.scope) g.lemmas.proved }
