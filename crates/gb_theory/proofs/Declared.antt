-- A lemma that opens its proof, step by step.
use Rattle.std.proofs.Common.{◌≡◌, ℕ, List, [], ◌∷◌, Option, Some, None, refl, ap, sym, subst, ◌∙◌}
use Rattle.std.specs.Prelude.{Ok, Err}
use Rattle.std.specs.Option.{option_or}
use Rattle.gb_core.specs.declared.place.Place.{Place}
use Rattle.gb_core.specs.declared.refusal.Refused.{Refused}
use Rattle.gb_core.specs.declared.refusal.Refused.TheVariants.{NoMemory, ReadFault, Script}
use Rattle.gb_goal.specs.Scope.{declarations_in}
use Rattle.gb_goal.specs.declared.sequent.Sequent.{Sequent}
use Rattle.gb_script.specs.declared.tree.Node.{Node}
use Rattle.gb_goal.specs.Answers.{Answer, ◌>>=◌, Fails}
use Rattle.gb_goal.specs.Answers.Answer.{given}
use Rattle.gb_elab_mod.specs.Lemmas.{statement_given, binders_in}
use Rattle.gb_theory.specs.Limits.{declaration_limit, goal_limit, each_limit, limited}
use Rattle.gb_theory.specs.Built.{Session, with_lemma}
use Rattle.gb_theory.specs.Commands.{within, outside, opens}
use Rattle.gb_theory.proofs.Answered.{then_given, within_given}

-- a statement is typed, and its proof is opened
abbrev statement_opens : Session → Node → List ℕ → Place → Sequent → Answer Session
statement_opens s t name place q = do
  _ ← within (declaration_limit (declarations_in s.scope)) place
  _ ← within (each_limit (q ∷ [])) place
  given (with_lemma s name q (binders_in t))

abbrev lemma_opens : Session → Node → List ℕ → Place → Answer Session
lemma_opens s t name place = statement_given s.scope t >>= statement_opens s t name place

opens_is : (s : Session) (t : Node) (name : List ℕ) (place : Place) → s.proof ≡ None → opens s t name place ≡ lemma_opens s t name place
opens_is s t name place none = ap (λ o. outside o place >>= λ _. lemma_opens s t name place) none

opens_typed : (s : Session) (t : Node) (name : List ℕ) (place : Place) (q : Sequent) → s.proof ≡ None → statement_given s.scope t ≡ given q
    → opens s t name place ≡ statement_opens s t name place q
opens_typed s t name place q none typed = opens_is s t name place none ∙ then_given (statement_opens s t name place) (statement_given s.scope t) q typed

or_none : (limit : Option ℕ) → option_or limit None ≡ limit
or_none None = refl
or_none (Some n) = refl

opens_given : (s : Session) (t : Node) (name : List ℕ) (place : Place) (q : Sequent) → s.proof ≡ None → statement_given s.scope t ≡ given q
    → Ok tt ≡ limited (declaration_limit (declarations_in s.scope)) place
    → opens s t name place ≡ (within (goal_limit q) place >>= λ _. given (with_lemma s name q (binders_in t)))
opens_given s t name place q none typed room =
    opens_typed s t name place q none typed
    ∙ then_given (λ _. within (each_limit (q ∷ [])) place >>= λ _. given (with_lemma s name q (binders_in t))) (within (declaration_limit (declarations_in s.scope)) place) tt (within_given (declaration_limit (declarations_in s.scope)) place room)
    ∙ ap (λ limit. within limit place >>= λ _. given (with_lemma s name q (binders_in t))) (or_none (goal_limit q))

-- the proof is open, where the statement is typed and no limit is passed
pub opens_done : (s : Session) (t : Node) (name : List ℕ) (place : Place) (q : Sequent) → s.proof ≡ None → statement_given s.scope t ≡ given q
    → Ok tt ≡ limited (declaration_limit (declarations_in s.scope)) place → Ok tt ≡ limited (goal_limit q) place
    → opens s t name place ≡ given (with_lemma s name q (binders_in t))
opens_done s t name place q none typed room small =
    opens_given s t name place q none typed room
    ∙ then_given (λ _. given (with_lemma s name q (binders_in t))) (within (goal_limit q) place) tt (within_given (goal_limit q) place small)

-- what goes on from a limit that is passed
limit_fails : {X : Type 0} (limit : Option ℕ) (place : Place) (e : Refused) (f : Unit {0} → Answer X) → Err e ≡ limited limit place → Fails (within limit place >>= f) e
limit_fails None place e f h = absurd (cc)
limit_fails (Some n) place NoMemory f h = tt
limit_fails (Some n) place ReadFault f h = absurd (cc)
limit_fails (Some n) place (Script why at) f h = cc

-- the statement passes a limit
pub opens_fails : (s : Session) (t : Node) (name : List ℕ) (place : Place) (q : Sequent) (e : Refused) → s.proof ≡ None → statement_given s.scope t ≡ given q
    → Ok tt ≡ limited (declaration_limit (declarations_in s.scope)) place → Err e ≡ limited (goal_limit q) place
    → Fails (opens s t name place) e
opens_fails s t name place q e none typed room large =
    subst (λ a. Fails a e) (sym (opens_given s t name place q none typed room))
    (limit_fails (goal_limit q) place e (λ _. given (with_lemma s name q (binders_in t))) large)
