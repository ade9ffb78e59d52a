-- Forms on the values that a distribution gives, and samplings: typing and meaning.
use Rattle.std.proofs.Common.{◌≡◌, ℕ, ◌*◌, Bool, true, false, nat_lt, pos, ◌*ℤ◌, nat_abs, inl, inr, List, [], ◌∷◌, Option, Some, None, refl, ap, sym, ◌∙◌, subst, arith}
use Rattle.std.proofs.Math.Path.{fun_ext}
use Rattle.std.proofs.Math.IntN.{pos-*ℤ-pos}
use Rattle.std.proofs.lemmas.Bool.{false≢true, ltb-true, lt-ltb}
use Rattle.std.proofs.lemmas.Bool.Decides.{Decides-int_eq}
use Rattle.gb_core.specs.declared.ty.Ty.{Ty, end_of-Ty, more_of-Ty}
use Rattle.gb_core.specs.declared.ty.Ty.TheVariants as ty
use Rattle.gb_core.specs.declared.value.Value.{Value}
use Rattle.gb_core.specs.declared.var.Var.{Var}
use Rattle.gb_terms.specs.declared.decl.TypedName.{TypedName}
use Rattle.gb_terms.specs.declared.op.Op.TheVariants.{Equal, InSupport, Mu1}
use Rattle.gb_terms.specs.declared.op.Side.{Side}
use Rattle.gb_terms.specs.declared.op.Side.TheVariants as side
use Rattle.gb_terms.specs.declared.term.Term.{Term}
use Rattle.gb_terms.specs.declared.term.Head.TheVariants as head
use Rattle.gb_terms.specs.declared.term.Head.TheVariants.{Sample}
use Rattle.gb_walk.specs.declared.change.Change.TheVariants.{ToSide}
use Rattle.gb_dist.specs.WeightedList.{WeightedList, Every, IsPositive, mass, bit, indicator, weight_at, IsInSupport, dmap}
use Rattle.gb_dist.specs.WeightedList as weighted
use Rattle.gb_dist.proofs.Entries.{On_of_Every}
use Rattle.gb_dist.proofs.Indicators.{indicator_self, indicator_cases, support_in}
use Rattle.gb_dist.proofs.Monad.{bind-unit_right}
use Rattle.gb_meaning.specs.Values.{value_eq, has, Types}
use Rattle.gb_meaning.specs.Fractions.{is_same}
use Rattle.gb_meaning.specs.Memory.{Memory, write}
use Rattle.gb_meaning.specs.Setting.{Setting, Meaning}
use Rattle.gb_meaning.specs.Setting.Meaning.{finite, whole, fraction, weights}
use Rattle.gb_meaning.specs.Meanings.{value_in, truth, weights_in, same}
use Rattle.gb_meaning.specs.Operators.{weight_of, outcome_type}
use Rattle.gb_meaning.specs.State.{State, inside, under, memory_of}
use Rattle.gb_meaning.specs.State.Binding.{value as value_bound}
use Rattle.gb_meaning.specs.Terms.{val, denominator, distribution, quiet}
use Rattle.gb_meaning.specs.Trees.{distributions}
use Rattle.gb_meaning.specs.Judgments.{Judge, speaking, den}
use Rattle.gb_meaning.specs.Sound.{IsDistribution}
use Rattle.gb_meaning.specs.Written.{type_of}
use Rattle.gb_meaning.proofs.Nodes.{val_node}
use Rattle.gb_meaning.proofs.Values.{value_eq-true, value_discrete}
use Rattle.gb_meaning.proofs.Truths.{truth_of, true_all}
use Rattle.gb_laws.specs.Plain.{IsPlain}
use Rattle.gb_laws.specs.Written.{IsSide}
use Rattle.gb_laws.proofs.Changing.{denominator_changed}
use Rattle.gb_laws.specs.Programs.{variable_type}
use Rattle.gb_terms.specs.declared.op.Read.TheVariants.{Program}
use Rattle.gb_typing.specs.Puts.{Keeps, IsPutFor}
use Rattle.gb_typing.proofs.Expressions.{same_program}
use Rattle.gb_typing.proofs.Assigned.{variable_in}
use Rattle.gb_typing.proofs.InMemory.{located_typed, located_value}
use Rattle.gb_laws.specs.Finite.{IsFinite}
use Rattle.gb_laws.specs.Meant.{IsOf}
use Rattle.gb_laws.specs.Operators.{IsDistributionType}
use Rattle.gb_laws.specs.Typing.Binder.{value}
use Rattle.gb_laws.proofs.Terms.{typed_meaning}
use Rattle.gb_typing.specs.Context.{Context, Frame, erased, frame_of, reframed, of_program, within}
use Rattle.gb_typing.specs.Typing.{IsIn, IsTyped, IsForm}
use Rattle.gb_typing.specs.Programs.{IsExpression}
use Rattle.gb_typing.specs.Changes.{Made}
use Rattle.gb_typing.specs.Fits.{IsSettingOf}
use Rattle.gb_typing.proofs.Drawing.{sampled}
use Rattle.gb_typing.proofs.Erased.{erased_typed}
use Rattle.gb_typing.proofs.Fitting.{fits_program}
use Rattle.gb_typing.proofs.Made.{made_node}
use Rattle.gb_typing.proofs.Substituted.{finite_no_distribution, quiet_fractional}
use Rattle.gb_typing.specs.Forms.{equal_form, implies_form, located}
use Rattle.gb_typing.specs.Meaning.{run, denominator as run_denominator}
use Rattle.gb_typing.specs.Supports.{nearest, in_support, weight, for_support}
use Rattle.gb_typing.proofs.Forms.{form_made, made_form, implies_typed, implies_use}

-- Typing.
module _ (c : Context) where
  pub equal_values : (u : Ty) (x y : Term) → IsFinite u → Made c u x → Made c u y → IsForm c (equal_form x y)
  equal_values u x y n v w = form_made c (equal_form x y) (made_node c (head.Builtin Equal) (u ∷ u ∷ []) (x ∷ y ∷ []) ty.Bool (finite_no_distribution u n, refl, refl) tt [] (v, w))

  pub equal_reals : (x y : Term) → Made c ty.Real x → Made c ty.Real y → IsForm c (equal_form x y)
  equal_reals x y v w = form_made c (equal_form x y) (made_node c (head.Builtin Equal) (ty.Real ∷ ty.Real ∷ []) (x ∷ y ∷ []) ty.Bool (tt, refl, refl) tt [] (v, w))

  pub weight_made : (u : Ty) (d v : Term) → IsFinite u → Made c (distributions u) d → Made c u v → Made c ty.Real (weight d v)
  weight_made u d v n x y = made_node c (head.Builtin Mu1) (distributions u ∷ u ∷ []) (d ∷ v ∷ []) ty.Real (n, refl, refl) tt [] (x, y)

  pub support_made : (u : Ty) (v d : Term) → IsFinite u → Made c u v → Made c (distributions u) d → IsForm c (in_support v d)
  support_made u v d n x y = form_made c (in_support v d) (made_node c (head.Builtin InSupport) (u ∷ distributions u ∷ []) (v ∷ d ∷ []) ty.Bool (n, refl, refl) tt [] (x, y))

  pub nearest_made : (t : Ty) → IsFinite t → (f l k : Frame) → Made (reframed (within c (value t) None) f l k) t (nearest t)
  nearest_made t n f l k = made_node (reframed (within c (value t) None) f l k) (head.Bound 0) [] [] t (finite_no_distribution t n, refl) tt [] tt

  pub for_support_made : (t : Ty) (d f : Term) → IsFinite t → Made (within c (value t) None) t (nearest t) → Made (within c (value t) None) (distributions t) d →
      IsForm (within c (value t) None) f → IsForm c (for_support t d f)
  for_support_made t d f n y x w =
      form_made c (for_support t d f)
      (made_node c (head.All t) (ty.Bool ∷ []) (implies_form (in_support (nearest t) d) f ∷ []) ty.Bool (n, (refl, (refl, tt))) tt []
      (made_form (within c (value t) None) (implies_form (in_support (nearest t) d) f)
      (implies_typed (within c (value t) None) (in_support (nearest t) d) f (form_made _ (in_support (nearest t) d)
      (made_node (within c (value t) None) (head.Builtin InSupport) (t ∷ distributions t ∷ []) (nearest t ∷ d ∷ []) ty.Bool (n, refl, refl) tt [] (y, x))) w)))

-- Meaning.
weight_is : (l : WeightedList Value) (v : Value) → weighted.weight l (λ w. value_eq w v) ≡ weight_at value_discrete l v
weight_is l v =
    let e : ◌≡◌ {A = Value → ℕ} (λ w. bit (value_eq w v)) (indicator value_discrete v) = fun_ext (λ w. at w (value_eq w v) refl) in
    ap (mass l) e
  where
    at : (w : Value) (b : Bool) → value_eq w v ≡ b → bit b ≡ indicator value_discrete v w
    at w true e = subst (λ z. 1 ≡ indicator value_discrete v z) (sym ((value_eq-true w v).0 e)) (sym (indicator_self value_discrete v))
    at w false e = elim (indicator_cases value_discrete v w) [
      | inl q ↦ sym q
      | inr p ↦ absurd (false≢true (sym e ∙ (value_eq-true w v).1 (sym p)))
    ]

module _ (g : Setting) (j : Judge) (s : State) where
  -- the weight of a term's value
  pub weight_of_is : (v d : Term) (u : Value) (l : WeightedList Value) → val g (speaking g j) v s ≡ finite u → weights_in (val g (speaking g j) d s) ≡ l →
      weight_of (val g (speaking g j) d s) (val g (speaking g j) v s) ≡ weight_at value_discrete l u
  weight_of_is v d u l p q = (λ i. weighted.weight (q i) (λ w. value_eq w (value_in (p i)))) ∙ weight_is l u

  support_is : (v d : Term) (u : Value) (l : WeightedList Value) → val g (speaking g j) v s ≡ finite u → weights_in (val g (speaking g j) d s) ≡ l →
      den g j (in_support v d) s ≡ nat_lt 0 (weight_at value_discrete l u)
  support_is v d u l p q =
      ap truth (val_node g (speaking g j) (head.Builtin InSupport) (v ∷ d ∷ []) ty.Bool s)
      ∙ truth_of (nat_lt 0 (weight_of (val g (speaking g j) d s) (val g (speaking g j) v s)))
      ∙ ap (nat_lt 0) (weight_of_is v d u l p q)

  -- `v \in d` says that the value has some weight
  pub supported : (v d : Term) (u : Value) (l : WeightedList Value) → val g (speaking g j) v s ≡ finite u → weights_in (val g (speaking g j) d s) ≡ l →
      den g j (in_support v d) s ≡ true → IsInSupport value_discrete l u
  supported v d u l p q h = ltb-true 0 (weight_at value_discrete l u) (sym (support_is v d u l p q) ∙ h)

  pub supporting : (v d : Term) (u : Value) (l : WeightedList Value) → val g (speaking g j) v s ≡ finite u → weights_in (val g (speaking g j) d s) ≡ l →
      IsInSupport value_discrete l u → den g j (in_support v d) s ≡ true
  supporting v d u l p q h = support_is v d u l p q ∙ lt-ltb 0 (weight_at value_discrete l u) h

  -- an equation of `mu1 d v` and `mu1 e w` compares the weights by cross products
  pub same_weights : (d v e w : Term) → den g j (equal_form (weight d v) (weight e w)) s ≡ true →
      weight_of (val g (speaking g j) d s) (val g (speaking g j) v s) * denominator g e ≡ weight_of (val g (speaking g j) e s) (val g (speaking g j) w s) * denominator g d
  same_weights d v e w h =
      let m : ℕ = weight_of (val g (speaking g j) d s) (val g (speaking g j) v s) in
      let n : ℕ = weight_of (val g (speaking g j) e s) (val g (speaking g j) w s) in
      let x : val g (speaking g j) (weight d v) s ≡ fraction (pos m, denominator g d) = val_node g (speaking g j) (head.Builtin Mu1) (d ∷ v ∷ []) ty.Real s in
      let y : val g (speaking g j) (weight e w) s ≡ fraction (pos n, denominator g e) = val_node g (speaking g j) (head.Builtin Mu1) (e ∷ w ∷ []) ty.Real s in
      let k : den g j (equal_form (weight d v) (weight e w)) s ≡ is_same (pos m, denominator g d) (pos n, denominator g e) =
      ap truth (val_node g (speaking g j) (head.Builtin Equal) (weight d v ∷ weight e w ∷ []) ty.Bool s)
      ∙ truth_of (same (val g (speaking g j) (weight d v) s) (val g (speaking g j) (weight e w) s)) ∙ (λ i. same (x i) (y i)) in
      let z : pos m *ℤ pos (denominator g e) ≡ pos n *ℤ pos (denominator g d) = (Decides-int_eq _ _).0 (sym k ∙ h) in
      ap nat_abs (sym (pos-*ℤ-pos m (denominator g e)) ∙ z ∙ pos-*ℤ-pos n (denominator g d))

-- what holds of each value in the support
pub for_support_use : (g : Setting) (j : Judge) (s : State) (t : Ty) (d f : Term) (l : WeightedList Value) → den g j (for_support t d f) s ≡ true → (v : Value) → has g.types t v ≡ true →
    weights_in (val g (speaking g j) d (under s (value_bound (finite v)))) ≡ l → IsInSupport value_discrete l v → den g j f (under s (value_bound (finite v))) ≡ true
for_support_use g j s t d f l h v k e i =
    let here : State = under s (value_bound (finite v)) in
    implies_use g j (in_support (nearest t) d) f here ((true_all g j t (implies_form (in_support (nearest t) d) f) s).0 h v k)
    (supporting g j here (nearest t) d v l (val_node g (speaking g j) (head.Bound 0) [] t here) e i)

-- Samplings.

pub distribution_of : (t : Ty) → IsDistributionType t → (t ≡ distributions (outcome_type t)) × IsFinite (outcome_type t)
distribution_of (ty.Distr' tt (more_of-Ty t end_of-Ty)) w = (refl, w)
distribution_of _ w = absurd w

weights_typed : (t : Types) (u : Ty) (m : Meaning) → IsOf t (distributions u) m → Every (λ v. has t u v ≡ true) (weights_in m)
weights_typed t u (weights d) w = w.1
weights_typed t u (finite v) w = tt
weights_typed t u (whole n) w = tt
weights_typed t u (fraction a) w = tt

none_some : {P : Type 0} (u : Ty) → None ≡ Some u → P
none_some u e = absurd (false≢true (ap is_some e))
  where
    is_some : Option Ty → Bool
    is_some None = false
    is_some (Some t) = true

-- A distribution over a type, of a program over these locals, that is drawn from.
module _ (c : Context) (ls : List TypedName) (d : Term) (w : IsExpression c ls d) (u : Ty) (t : type_of d ≡ distributions u) (n : IsDistributionType (type_of d)) (g : Setting) (fits : IsSettingOf c g) where
  pub draws : IsDistribution g d
  draws = sampled c g fits.types ls d w n

  -- its values are of the type
  pub drawn_typed : (s : State) (m : Memory) (v : Value) → IsInSupport value_discrete (distribution g d (inside s m)) v → has g.types u v ≡ true
  drawn_typed s m v i =
      let p : IsSettingOf (of_program c ls) g = fits_program c g fits ls in
      support_in value_discrete (λ v. has g.types u v ≡ true) (distribution g d (inside s m)) v
      (On_of_Every (λ v. has g.types u v ≡ true) (distribution g d (inside s m)) (draws.entries (inside s m))
      (weights_typed g.types u (val g quiet d (inside s m)) (subst (λ t. IsOf g.types t (val g quiet d (inside s m))) t
      (typed_meaning (erased (of_program c ls)) g p.types quiet quiet_fractional d (erased_typed (of_program c ls) d w.typed) (inside s m) (record { logical = λ i u e. none_some u e; bound = tt }))))) i

-- the denominator of a distribution doesn't depend on the memory in which it is read
pub located_denominator : (g : Setting) (r : Side) (d : Term) → denominator g (located r d) ≡ denominator g d
located_denominator g side.Own d = refl
located_denominator g side.Left d = denominator_changed g d (ToSide side.Own side.Left ∷ []) (tt, tt)
located_denominator g side.Right d = denominator_changed g d (ToSide side.Own side.Right ∷ []) (tt, tt)
located_denominator g (side.Memory n) d = denominator_changed g d (ToSide side.Own (side.Memory n) ∷ []) (tt, tt)
located_denominator g (side.Bound n) d = denominator_changed g d (ToSide side.Own (side.Bound n) ∷ []) (tt, tt)

-- a sampling writes what it draws
pub run_sampling : (g : Setting) (s : State) (x : Var) (d : Term) (m : Memory) → run g s (Sample x d ∷ []) m ≡ dmap (write g.types m x) (distribution g d (inside s m))
run_sampling g s x d m = bind-unit_right (dmap (write g.types m x) (distribution g d (inside s m)))

pub sampling_denominator : (g : Setting) (x : Var) (d : Term) → run_denominator g (Sample x d ∷ []) ≡ denominator g d
sampling_denominator g x d = omega arith

-- A distribution of a program, read on a side where a value is bound, and a term in place of what is sampled.
module _ (c : Context) (ls : List TypedName) (F L K : Frame) (t : Ty) where
  abbrev at_value : Context
  at_value = within (reframed c F L K) (value t) None

  pub from_made : (d : Term) → IsExpression c ls d → (u : Ty) → type_of d ≡ distributions u → (r : Side) → IsSide r → frame_of at_value r ≡ Some ls → Made at_value (distributions u) (located r d)
  from_made d w u over r i frame =
      let m = located_typed (within c (value t) None) ls d (record { typed = w.typed; plain = w.plain }) F L K r i frame in
      record { typed = m.typed; written = m.written ∙ over }

  pub target_put : (r : Side) → IsSide r → frame_of at_value r ≡ Some ls → (x : Var) (u : Ty) → variable_type (erased c) ls x ≡ Some u → IsFinite u → (f : Term) → IsPlain f → type_of f ≡ u →
      ((o l k : Frame) → Keeps (Program x r) at_value o l k → IsTyped (reframed at_value o l k) f) → IsPutFor at_value x r f
  target_put r i frame x u e n f plain result typed = record {
    side = i;
    type = subst (IsIn at_value (frame_of at_value r) x) (sym result) (variable_in (within c (value t) None) ls F L K x r u frame e);
    finite = subst IsFinite (sym result) n;
    plain = plain;
    typed = typed;
  }

pub from_weights : (c : Context) (ls : List TypedName) (d : Term) → IsExpression c ls d → (g : Setting) (j : Judge) (s : State) (r : Side) → IsSide r → (v : Value) →
    weights_in (val g (speaking g j) (located r d) (under s (value_bound (finite v)))) ≡ distribution g d (inside s (memory_of s r))
from_weights c ls d w g j s r i v =
    ap weights_in (located_value c ls d w g (speaking g j) here r i ∙ ap (λ m. val g quiet d (inside here m)) (memory_same r i) ∙ same_program c ls g d w here s (memory_of s r) refl)
  where
    here : State
    here = under s (value_bound (finite v))

    memory_same : (r : Side) → IsSide r → memory_of (under s (value_bound (finite v))) r ≡ memory_of s r
    memory_same side.Own i = refl
    memory_same side.Left i = refl
    memory_same side.Right i = refl
    memory_same (side.Memory n) i = absurd i
    memory_same (side.Bound n) i = absurd i
