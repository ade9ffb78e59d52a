-- A claim that is true under every assignment is true in each state in which its variables have values of their types.
use Rattle.std.proofs.Common.{◌≡◌, ℕ, ◌<◌, ◌^◌, nat_lt, Bool, true, false, ◌&&◌, if◌then◌else◌, List, [], ◌∷◌, map, refl, ap, sym, ◌∙◌, subst}
use Rattle.std.specs.List.{list_all}
use Rattle.std.proofs.lemmas.Bool.{false≢true, and_parts, and_from}
use Rattle.gb_core.specs.declared.ty.Ty.{Ty}
use Rattle.gb_core.specs.declared.ty.Ty.TheVariants.{Tuple, rolls-Tuple}
use Rattle.gb_core.specs.declared.ty.Ty.TheOpen as layer
use Rattle.gb_core.specs.declared.ty.Ty.TheFolds.{fold-roll-Ty}
use Rattle.gb_core.specs.declared.value.Value.{Value}
use Rattle.gb_core.specs.declared.value.Value.TheVariants.{Many}
use Rattle.gb_core.specs.declared.value.Card.{Card}
use Rattle.gb_core.specs.declared.value.Card.TheVariants.{Exact, Above}
use Rattle.gb_core.specs.Numbering.{is_many_in, parts_in, parts_of, is_tuple}
use Rattle.gb_core.specs.Types.{numbering, finite_step, is_finite, all_true, size_of, card_of, place_of}
use Rattle.gb_core.proofs.Lawful.{Lawful, out-Many}
use Rattle.gb_core.proofs.Equations.{numbering-Tuple}
use Rattle.gb_terms.specs.declared.term.Term.{Term}
use Rattle.gb_meaning.specs.Setting.{Setting}
use Rattle.gb_meaning.specs.Meanings.{value_in, truth}
use Rattle.gb_meaning.specs.State.{State}
use Rattle.gb_meaning.specs.Terms.{Speaks, val}
use Rattle.gb_meaning.proofs.Types.{values_finite}
use Rattle.gb_meaning.proofs.Numberings.{lawful}
use Rattle.gb_eval.specs.Findings.Comes.{found}
use Rattle.gb_goal.specs.Scope.{Declarations}
use Rattle.gb_eval.specs.Known.{is_known, known_of}
use Rattle.gb_mods.specs.Exclusions.{exclusions}
use Rattle.gb_labels.specs.Memories.{AreKeptApart}
use Rattle.gb_eval.specs.Eval.{operators_of}
use Rattle.gb_eval.specs.Meant.{AreOperators}
use Rattle.gb_smt.specs.declared.claims.Claim.{Claim}
use Rattle.gb_closing.specs.Linked.{Vars}
use Rattle.gb_equality.specs.Variables.{variables_in}
use Rattle.gb_smt.specs.Claims.{claim_of}
use Rattle.gb_closing.specs.Counted.{is_tried}
use Rattle.gb_smt.specs.Width.{assignments_of, width_of, is_known_claim}
use Rattle.gb_smt.specs.Assign.{assignment, environment_of, with_values, truth_under, IsTrueEverywhere}
use Rattle.gb_smt.specs.Meant.{AreTrue, IsRight}
use Rattle.gb_smt_laws.specs.Reading.{Reading, IsReadingOf}
use Rattle.gb_smt_laws.specs.Fits.{Fits}
use Rattle.gb_smt_laws.specs.Closing.{AreAssumed, IsImplied}
use Rattle.gb_smt_laws.proofs.Implied as implied
use Rattle.gb_smt_laws.proofs.Known.{known_simple, AreRead}
use Rattle.gb_smt_laws.proofs.Given.{AreKnown, itself, variables_read, values_of, given, each_given}

finite_tuple : (ts : List Ty) → is_finite (Tuple ts) ≡ all_true (map is_finite ts)
finite_tuple ts = ap is_finite (sym (rolls-Tuple ts)) ∙ fold-roll-Ty Bool finite_step (layer.Tuple ts)

above_exact : (n : ℕ) → Above ≡ Exact n → ⊥
above_exact n e = false≢true (ap is_exact e)
  where
    is_exact : Card → Bool
    is_exact (Exact n) = true
    is_exact Above = false

exact_same : (m n : ℕ) → Exact m ≡ Exact n → m ≡ n
exact_same m n e = ap size e
  where
    size : Card → ℕ
    size (Exact n) = n
    size Above = 0

card_exact : (ty : Ty) (n : ℕ) → card_of ty ≡ Exact n → (is_finite ty ≡ true) × (size_of ty ≡ n)
card_exact ty n e = step (is_finite ty) refl (nat_lt (size_of ty) (2 ^ 63)) e
  where
    step : (b : Bool) → is_finite ty ≡ b → (c : Bool) → (if b && c then Exact (size_of ty) else Above) ≡ Exact n → (is_finite ty ≡ true) × (size_of ty ≡ n)
    step true f true e = (f, exact_same (size_of ty) n e)
    step true f false e = absurd (above_exact n e)
    step false f c e = absurd (above_exact n e)

-- evaluation knows each part of a claim that is tried
pub known_if_tried : (ds : Declarations) (c : Claim) → is_tried (width_of ds c) ≡ true → is_known_claim ds c ≡ true
known_if_tried ds c e = step (is_known_claim ds c) e
  where
    step : (b : Bool) → is_tried (if b then assignments_of ds c else Above) ≡ true → b ≡ true
    step true e = refl
    step false e = absurd (false≢true e)

module _ (ds : Declarations) (g : Setting) (ops : AreOperators g (operators_of ds)) (apart : AreKeptApart (exclusions ds) g.types) (j : Speaks) (right : IsRight g j) (s : State) (W : Reading) (valid : IsReadingOf g W s) where
  have_values : (vs : Vars) → AreRead W vs → all_true (map is_finite (map (λ v. v.ty) vs)) ≡ true → is_tuple (map numbering (map (λ v. v.ty) vs)) (values_of g s vs) ≡ true
  have_values [] a f = refl
  have_values (v ∷ vs) a f =
      let finite = and_parts (is_finite v.ty) (all_true (map is_finite (map (λ v. v.ty) vs))) f in
      let w = valid.1 v.read v.ty a.0 in
      and_from _ _ ((λ i. (sym (values_finite g.types v.ty finite.0) i).has (value_in (w.1 i))) ∙ w.2) (have_values vs a.1 finite.1)

  module _ (hs : List Term) (t : Term) (known : AreKnown (known_of ds) g W hs) (k : is_known (known_of ds) t ≡ true) (w : Fits g W t) (everywhere : IsTrueEverywhere ds (claim_of hs t)) where
    abbrev vs : Vars
    vs = variables_in hs t

    abbrev row : Ty
    row = Tuple (map (λ v. v.ty) vs)

    abbrev tuple : Value
    tuple = Many (values_of g s vs)

    reads : AreRead W vs
    reads = variables_read (known_of ds) g W hs t known k w

    counted : (is_finite row ≡ true) × (size_of row ≡ everywhere.count)
    counted = card_exact row everywhere.count everywhere.exact

    order : Lawful (numbering row)
    order = subst Lawful (values_finite g.types row counted.0) (lawful g.types row)

    is_assignment : (numbering row).has tuple ≡ true
    is_assignment =
        (λ i. (numbering-Tuple (map (λ v. v.ty) vs) i).has tuple)
        ∙ ap (λ z. is_many_in z && is_tuple (map numbering (map (λ v. v.ty) vs)) (parts_in z)) (out-Many (values_of g s vs))
        ∙ have_values vs reads (sym (finite_tuple (map (λ v. v.ty) vs)) ∙ counted.0)

    tried : assignment (claim_of hs t) (place_of row tuple) ≡ values_of g s vs
    tried = ap (λ v. parts_of v) (order.at_place tuple is_assignment) ∙ ap parts_in (out-Many (values_of g s vs))

    true_there : truth_under ds (claim_of hs t) (values_of g s vs) ≡ found true
    true_there =
        ap (truth_under ds (claim_of hs t)) (sym tried)
        ∙ everywhere.each (place_of row tuple) (subst (λ n. place_of row tuple < n) counted.1 (order.below tuple is_assignment))

    pub claim_true : AreTrue g j s hs → truth (val g j t s) ≡ true
    claim_true a =
        implied.conclusion_true g j s (environment_of ds (with_values vs (values_of g s vs))) ops apart hs t
        (each_given g s W valid (known_of ds) vs reads hs known) (given g s W valid (known_of ds) vs reads t W (itself W) valid.0 k w) right true_there a

  all_known : (hs : List Term) → list_all (is_known (known_of ds)) hs ≡ true → AreAssumed g j W s hs → AreKnown (known_of ds) g W hs × AreTrue g j s hs
  all_known [] k a = (tt, tt)
  all_known (h ∷ hs) k a =
      let known = and_parts (is_known (known_of ds) h) (list_all (is_known (known_of ds)) hs) k in
      let one = a.0 (known_simple (known_of ds) h known.0) in
      let rest = all_known hs known.1 a.1 in
      (((known.0, one.0), rest.0), (one.1, rest.1))

  -- a claim that evaluation knows and that is true under every assignment gives its conclusion
  pub known_claim : (hs : List Term) (t : Term) → is_known_claim ds (claim_of hs t) ≡ true → IsTrueEverywhere ds (claim_of hs t) → IsImplied g j W s hs t
  known_claim hs t k everywhere a f =
      let known = and_parts (list_all (is_known (known_of ds)) hs) (is_known (known_of ds) t) k in
      let each = all_known hs known.0 a in
      let simple = known_simple (known_of ds) t known.1 in
      (simple, claim_true hs t each.0 known.1 (f simple) everywhere each.1)
