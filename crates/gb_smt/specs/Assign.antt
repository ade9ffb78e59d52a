-- The assignments to the variables of a claim, and its truth under them.
use Rattle.std.specs.Prelude.{◌≡◌, ◌⊎◌, ◌<◌, ℕ, zero, suc, true, false, Bool, if◌then◌else◌, List, [], ◌∷◌, map}
use Rattle.gb_core.specs.declared.ty.Ty.{Ty}
use Rattle.gb_core.specs.declared.ty.Ty.TheVariants.{Tuple}
use Rattle.gb_core.specs.declared.value.Value.{Value}
use Rattle.gb_core.specs.declared.value.Card.{Card}
use Rattle.gb_core.specs.declared.value.Card.TheVariants.{Exact, Above}
use Rattle.gb_core.specs.Numbering.{parts_of}
use Rattle.gb_core.specs.Types.{card_of, value_at}
use Rattle.gb_terms.specs.declared.term.Term.{Term}
use Rattle.gb_goal.specs.Scope.{Declarations}
use Rattle.gb_mods.specs.Exclusions.{exclusions}
use Rattle.gb_eval.specs.declared.env.ReadValue.{ReadValue}
use Rattle.gb_eval.specs.Findings.{Comes, ◌>>=◌}
use Rattle.gb_eval.specs.Findings.Comes.{found, unknown, overflow}
use Rattle.gb_eval.specs.Eval.{Environment, operators_of}
use Rattle.gb_eval.specs.Eval as eval
use Rattle.gb_smt.specs.declared.claims.Claim.{Claim}
use Rattle.gb_smt.specs.declared.assign.Found.{Found}
use Rattle.gb_smt.specs.declared.assign.Found.TheVariants.{True, False, Unknown, Overflow}
use Rattle.gb_closing.specs.Linked.{Vars}
use Rattle.gb_labels.specs.Labels.{Labels, labelled_ty, choices, choice_at}
use Rattle.gb_labels.specs.Labelled.{labelled}

-- a claim with labels in place of the values of modules' globals
abbrev pub labelled_claim : Labels → Claim → Claim
labelled_claim ls c = record {
  hyps = map (labelled ls) c.hyps;
  conclusion = labelled ls c.conclusion;
  variables = map (λ v. record { read = v.read; ty = labelled_ty ls v.ty }) c.variables;
}

-- the type whose values are the assignments
abbrev pub assignments : Claim → Ty
assignments c = Tuple (map (λ v. v.ty) c.variables)

-- the values of the assignment at a place, variable by variable
abbrev pub assignment : Claim → ℕ → List Value
assignment c i = parts_of (value_at (assignments c) i)

-- the variables with their values
abbrev pub with_values : Vars → List Value → List ReadValue
with_values (v ∷ vs) (x ∷ xs) = record { read = v.read; value = x } ∷ with_values vs xs
with_values _ _ = []

-- whether hypotheses, one after another, imply a form
abbrev pub implied : Environment → List Term → Term → Comes Bool
implied env [] t = eval.truth_at env t []
implied env (h ∷ hs) t = eval.truth_at env h [] >>= λ a. if a then implied env hs t else found true

-- the environment of all operators of a script, these values, and what restrictions exclude
abbrev pub environment_of : Declarations → List ReadValue → Environment
environment_of ds reads = record { operators = operators_of ds; reads = reads; exclusions = exclusions ds }

module _ (ds : Declarations) where
  -- the truth of a claim where its variables have these values, if evaluation knows it
  abbrev pub truth_under : Claim → List Value → Comes Bool
  truth_under c values = implied (environment_of ds (with_values c.variables values)) c.hyps c.conclusion

  -- the truth of a claim under the assignment at a place
  abbrev pub truth_at : Claim → ℕ → Comes Bool
  truth_at c i = truth_under c (assignment c i)

  -- the claim is true under every assignment before a place
  abbrev pub TrueBefore : ℕ → Claim → Type 0
  TrueBefore n c = (i : ℕ) → i < n → truth_at c i ≡ found true

  -- there are so many assignments, and the claim is true under each of them
  pub record IsTrueEverywhere (c : Claim) : Type 0 where
    pub count : ℕ
    pub exact : card_of (assignments c) ≡ Exact count
    pub each : TrueBefore count c

  -- The values are the first assignment under which the claim isn't true, and its truth under it is this one.
  pub record IsFirst (c : Claim) (values : List Value) (truth : Comes Bool) : Type 0 where
    pub count : ℕ
    pub exact : card_of (assignments c) ≡ Exact count
    pub place : ℕ
    pub below : place < count
    pub before : TrueBefore place c
    pub values_at : values ≡ assignment c place
    pub there : truth_under c values ≡ truth

  -- Either there are too many assignments, or evaluation doesn't know the truth of the claim under the first one under
  -- which it isn't true.
  abbrev pub IsUnknown : Claim → Type 0
  IsUnknown c = (card_of (assignments c) ≡ Above) ⊎ ((values : List Value) × IsFirst c values unknown)

  -- what is found of a claim, in words of all assignments
  abbrev pub IsOf : Claim → Found → Type 0
  IsOf c True = IsTrueEverywhere c
  IsOf c (False values) = IsFirst c values (found false)
  IsOf c Unknown = IsUnknown c
  IsOf c (Overflow o) = (values : List Value) × IsFirst c values (overflow o)

-- what is found under one assignment
abbrev pub found_under : Comes Bool → List Value → Found
found_under (found true) values = True
found_under (found false) values = False values
found_under unknown values = Unknown
found_under (overflow o) values = Overflow o

-- the first that isn't `True` decides
abbrev pub then_next : Found → Found → Found
then_next True next = next
then_next decided next = decided

module _ (ds : Declarations) where
  -- what is found under the assignments before a place: the first under which the claim isn't true decides
  abbrev pub found_before : ℕ → Claim → Found
  found_before zero c = True
  found_before (suc n) c = then_next (found_before n c) (found_under (truth_at ds c n) (assignment c n))

  abbrev pub found_among : Card → Claim → Found
  found_among (Exact n) c = found_before n c
  found_among Above c = Unknown

  -- what trying the assignments in order finds
  abbrev pub found_of : Claim → Found
  found_of c = found_among (card_of (assignments c)) c

  -- what trying the choices of numbers of labels before a place finds, each with all assignments: the first that isn't true decides
  abbrev pub found_with_before : Labels → ℕ → Claim → Found
  found_with_before most zero c = True
  found_with_before most (suc n) c = then_next (found_with_before most n c) (found_of (labelled_claim (choice_at most n) c))

  -- what trying all choices from one label up to these numbers finds
  abbrev pub found_with : Labels → Claim → Found
  found_with most c = found_with_before most (choices most) c

  -- the claim is true under every assignment, whatever choice of numbers of labels up to these
  abbrev pub IsTrueWith : Labels → Claim → Type 0
  IsTrueWith most c = (i : ℕ) → i < choices most → IsTrueEverywhere ds (labelled_claim (choice_at most i) c)
