-- Leaves, from one of their claims.
use Rattle.std.proofs.Common.{ℕ, zero, suc, Bool, true, false, cond, ◌⊎◌, inl, inr, Option, Some, None, List, [], ◌∷◌, length, filter, not, ap, sym, ◌∙◌, subst, arith}
use Rattle.std.specs.List.{AllByRecursion, Any}
use Rattle.std.proofs.lemmas.Bool.{false≢true}
use Rattle.gb_core.specs.declared.ty.Ty.TheVariants.{Bool as bool_ty}
use Rattle.gb_core.specs.declared.value.Value.TheVariants.{Num}
use Rattle.gb_terms.specs.declared.term.Term.{Term}
use Rattle.gb_terms.specs.declared.term.Head.TheVariants.{Lit}
use Rattle.gb_terms.specs.Make.{truth_literal}
use Rattle.gb_meaning.specs.Setting.{Setting}
use Rattle.gb_meaning.specs.Meanings.{truth}
use Rattle.gb_meaning.specs.State.{State}
use Rattle.gb_meaning.specs.Terms.{Speaks}
use Rattle.gb_meaning.proofs.Nodes.{val_node}
use Rattle.gb_meaning.proofs.Truths.{truth_of}
use Rattle.gb_smt.specs.declared.claims.Claim.{Claim}
use Rattle.gb_smt.specs.declared.leaves.Leaf.{Leaf}
use Rattle.gb_closing.specs.Linked.{Vars}
use Rattle.gb_equality.specs.Variables.{variables}
use Rattle.gb_equality.specs.Components.{is_joined, inside, outside}
use Rattle.gb_smt.specs.Claims.{claim_of, contradiction, contradictions, first_variables, component_and, components, components_of, claims_of}
use Rattle.gb_smt_laws.specs.Reading.{Reading}
use Rattle.gb_smt_laws.specs.Closing.{FitsIfSimple, IsAssumed, IsConcluded, IsImplied}
use Rattle.gb_smt_laws.proofs.Nodes.{literal_fits}

pub any_none : {X : Type 0} (P : X → Type 0) → Any P [] → ⊥
any_none P (k, x, l, e, p) = absurd (omega (arith, l))

pub any_cases : {X : Type 0} (P : X → Type 0) (x : X) (xs : List X) → Any P (x ∷ xs) → P x ⊎ Any P xs
any_cases P x xs (zero, y, l, e, p) = inl (subst P (sym e) p)
any_cases P x xs (suc k, y, l, e, p) = inr (k, y, omega (arith, l), e, p)

pub each_kept : {X : Type 0} (P : X → Type 0) (f : X → Bool) (xs : List X) → AllByRecursion P xs → AllByRecursion P (filter f xs)
each_kept P f [] a = tt
each_kept P f (x ∷ xs) a = step (f x) (each_kept P f xs a.1)
  where
    step : (b : Bool) → AllByRecursion P (filter f xs) → AllByRecursion P (cond b (x ∷ filter f xs) (filter f xs))
    step true r = (a.0, r)
    step false r = r

-- By what is said of hypotheses, of conclusions that are sought and of those that are shown, and of claims.
module _ (P C R : Term → Type 0) (Q : Claim → Type 0) (gives : (hs : List Term) (t : Term) → AllByRecursion P hs → C t → Q (claim_of hs t) → R t)
    (sought : C (truth_literal false)) (refuted : R (truth_literal false) → ⊥) where
  -- hypotheses that can't all hold
  contradicted : (hs : List Term) → Q (contradiction hs) → AllByRecursion P hs → ⊥
  contradicted hs c a = refuted (gives hs (truth_literal false) a sought c)

  none_left : (hs : List Term) → Any Q (contradictions hs) → AllByRecursion P hs → ⊥
  none_left [] c a = any_none Q c
  none_left (h ∷ hs) c a = step (any_cases Q (contradiction (h ∷ hs)) [] c)
    where
      step : Q (contradiction (h ∷ hs)) ⊎ Any Q [] → ⊥
      step (inl x) = contradicted (h ∷ hs) x a
      step (inr x) = any_none Q x

  no_component : (n : ℕ) (hs : List Term) → Any Q (components n hs) → AllByRecursion P hs → ⊥
  no_component zero hs c a = none_left hs c a
  no_component (suc n) hs c a = step (λ vs x. no_component n (outside hs vs) x (each_kept P (λ h. not (is_joined hs vs h)) hs a)) (first_variables hs) c
    where
      apart : (vs : Vars) → (Any Q (components n (outside hs vs)) → ⊥) → Q (contradiction (inside hs vs)) ⊎ Any Q (components n (outside hs vs)) → ⊥
      apart vs f (inl x) = contradicted (inside hs vs) x (each_kept P (is_joined hs vs) hs a)
      apart vs f (inr x) = f x

      step : ((vs : Vars) → Any Q (components n (outside hs vs)) → ⊥) → (o : Option Vars) → Any Q (component_and o hs (components n)) → ⊥
      step f None d = none_left hs d a
      step f (Some vs) d = apart vs (f vs) (any_cases Q (contradiction (inside hs vs)) (components n (outside hs vs)) d)

  -- a leaf follows from one of its claims
  pub claims_give : (l : Leaf) → Any Q (claims_of l) → AllByRecursion P l.hyps → C l.conclusion → R l.conclusion
  claims_give l c a f = step (any_cases Q (claim_of (inside l.hyps (variables l.conclusion)) l.conclusion) (components_of (outside l.hyps (variables l.conclusion))) c)
    where
      step : Q (claim_of (inside l.hyps (variables l.conclusion)) l.conclusion) ⊎ Any Q (components_of (outside l.hyps (variables l.conclusion))) → R l.conclusion
      step (inl x) = gives (inside l.hyps (variables l.conclusion)) l.conclusion (each_kept P (is_joined l.hyps (variables l.conclusion)) l.hyps a) f x
      step (inr x) =
          absurd (no_component (length (outside l.hyps (variables l.conclusion))) (outside l.hyps (variables l.conclusion)) x
          (each_kept P (λ h. not (is_joined l.hyps (variables l.conclusion) h)) l.hyps a))

pub false_fits : (g : Setting) (T : Reading) → FitsIfSimple g T (truth_literal false)
false_fits g T b = literal_fits g T (Num 0) [] bool_ty

pub false_refuted : (g : Setting) (j : Speaks) (s : State) → IsConcluded g j s (truth_literal false) → ⊥
false_refuted g j s r = false≢true (sym (ap truth (val_node g j (Lit (Num 0)) [] bool_ty s) ∙ truth_of false) ∙ r.1)

-- a leaf is true in a state where one of its claims is
pub one_claim_true : (g : Setting) (j : Speaks) (T : Reading) (s : State) (l : Leaf) → Any (λ c. IsImplied g j T s c.hyps c.conclusion) (claims_of l) → IsImplied g j T s l.hyps l.conclusion
one_claim_true g j T s l c =
    claims_give (IsAssumed g j T s) (FitsIfSimple g T) (IsConcluded g j s) (λ c. IsImplied g j T s c.hyps c.conclusion) (λ hs t a f x. x a f) (false_fits g T) (false_refuted g j s) l c
