-- What the steps that use a form make of goals.
use Rattle.std.specs.Prelude.{◌≡◌, Bool, true, false, ◌⊎◌, List, [], ◌∷◌, ◌++◌, map, Option, Some, None}
use Rattle.gb_core.specs.declared.place.Place.{Place}
use Rattle.gb_core.specs.declared.refusal.Why.TheVariants.{Shape}
use Rattle.gb_terms.specs.declared.op.Op.TheVariants.{Implies}
use Rattle.gb_terms.specs.declared.term.Term.{Term, out-Term}
use Rattle.gb_terms.specs.declared.term.Head.{Head}
use Rattle.gb_terms.specs.declared.term.Head.TheVariants.{Builtin}
use Rattle.gb_goal.specs.Answers.{Answer}
use Rattle.gb_goal.specs.Answers.Answer.{given, refused}
use Rattle.gb_goal.specs.declared.sequent.Sequent.{Sequent}
use Rattle.gb_steps.specs.declared.step.UseRule.{UseRule}
use Rattle.gb_steps.specs.declared.step.UseRule.TheVariants.{Apply, Have}
use Rattle.gb_typing.specs.Context.{Context}
use Rattle.gb_typing.specs.Typing.{IsForm}
use Rattle.gb_amb.specs.Parts.{concluding}
use Rattle.gb_amb.specs.Steps.{assuming}
use Rattle.gb_meaning.specs.Declared.{Declarations}
use Rattle.gb_amb.specs.Lemmas.{IsKnown}

abbrev pub is_implication : Head → Bool
is_implication (Builtin Implies) = true
is_implication h = false

abbrev pub implication_at : Head → List Term → Option (Term × Term)
implication_at (Builtin Implies) (a ∷ b ∷ []) = Some (a, b)
implication_at h ts = None

-- the premise of an implication, and what it says under it
abbrev pub implication_of : Term → Option (Term × Term)
implication_of f = implication_at (out-Term f).head (out-Term f).args

-- A form says another one under these premises, and under no fewer.
abbrev pub ArePremises : List Term → Term → Term → Type 0
ArePremises [] f c = f ≡ c
ArePremises (h ∷ hs) f c = (f ≡ c → ⊥) × (g : Term) × (implication_of f ≡ Some (h, g)) × ArePremises hs g c

-- The goals by the premises under which a form says the conclusion of a goal, behind goals that come before them. There is no
-- other answer where it says something else.
abbrev pub IsByPremises : List Sequent → Term → Place → Sequent → Answer (List Sequent) → Type 0
IsByPremises before f place q r =
    ((hs : List Term) × ArePremises hs f q.conclusion × (r ≡ given (before ++ map (concluding q) hs)))
    ⊎ (((hs : List Term) → ArePremises hs f q.conclusion → ⊥) × (r ≡ refused Shape place))

-- what a step at a place answers at a goal
abbrev pub IsAnswer : UseRule → Place → Sequent → Answer (List Sequent) → Type 0
IsAnswer (Apply f) place q r = IsByPremises [] f place q r
IsAnswer (Have x f) place q r = r ≡ given (assuming q x f ∷ [])

-- the form that a step uses
abbrev pub used_by : UseRule → Term
used_by (Apply f) = f
used_by (Have x f) = f

-- the form that a step uses is typed, and is what a hypothesis or a lemma says of terms
pub record IsTypedStep (ds : Declarations) (q : Sequent) (c : Context) (r : UseRule) : Type 0 where
  pub form : IsForm c (used_by r)
  pub known : IsKnown ds q c (used_by r)
