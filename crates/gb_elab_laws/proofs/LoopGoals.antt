-- The goals of a typed loop are typed, and where they stand, the loop is good.
use Rattle.std.proofs.Common.{◌≡◌, ℕ, ◌<◌, ◌≤◌, ◌-◌, Bool, true, List, [], ◌∷◌, Some, refl, ap, sym, ◌∙◌, subst, nat_lt, ltb-true, arith}
use Rattle.std.proofs.lemmas.Bool.{false≢true}
use Rattle.gb_core.specs.declared.ty.Ty.{Ty}
use Rattle.gb_core.specs.declared.ty.Ty.TheVariants as ty
use Rattle.gb_core.specs.declared.value.Value.{Value, out-Value}
use Rattle.gb_core.specs.declared.value.Value.TheOpen as value_layer
use Rattle.gb_core.specs.declared.value.Value.TheVariants.{Num}
use Rattle.gb_dist.specs.WeightedList.{Every}
use Rattle.gb_dist.proofs.Entries.{Every-weaken}
use Rattle.gb_core.specs.Numbering.{is_below_in, number_in as number_at, number_of}
use Rattle.gb_terms.specs.declared.decl.TypedName.{TypedName}
use Rattle.gb_terms.specs.declared.op.Op.TheVariants as op
use Rattle.gb_terms.specs.declared.op.Read.TheVariants as read
use Rattle.gb_terms.specs.declared.op.Side.TheVariants as side
use Rattle.gb_terms.specs.declared.term.Term.{Term, out-Term, Term', end_of-Head, more_of-Head}
use Rattle.gb_terms.specs.declared.term.Head.TheVariants as head
use Rattle.gb_meaning.specs.Commands.{statements}
use Rattle.gb_meaning.specs.Judgments.{den, speaking}
use Rattle.gb_meaning.specs.Meanings.{truth, value_in}
use Rattle.gb_meaning.specs.Memory.{Memory}
use Rattle.gb_meaning.specs.Operators.{less as is_less}
use Rattle.gb_meaning.specs.Runs.{greatest, is_true, most_turns, out, variant_value}
use Rattle.gb_meaning.specs.Setting.{Setting}
use Rattle.gb_meaning.specs.Setting.Meaning.{finite}
use Rattle.gb_meaning.specs.State.{State, at, closed, inside}
use Rattle.gb_meaning.specs.Terms.{quiet, val}
use Rattle.gb_meaning.specs.Values.{Types, has}
use Rattle.gb_meaning.specs.Written.{type_of, IsModulo}
use Rattle.gb_meaning.proofs.Nodes.{val_node}
use Rattle.gb_meaning.proofs.Truths.{true_equal, truth_of}
use Rattle.gb_laws.proofs.Exact.{trying}
use Rattle.gb_laws.proofs.Fair.{is_fair}
use Rattle.gb_laws.proofs.Trees.{out_is}
use Rattle.gb_laws.specs.Finite.{IsFinite}
use Rattle.gb_laws.specs.Operators.{IsNoDistribution, IsOrdered}
use Rattle.gb_laws.specs.Typing.{IsLiteral}
use Rattle.gb_typing.specs.Changes.{Made}
use Rattle.gb_typing.specs.Context.{Context, with_own}
use Rattle.gb_typing.specs.Fits.{IsSettingOf}
use Rattle.gb_typing.specs.Forms.{and_form, equal_form, implies_form}
use Rattle.gb_typing.specs.Meaning.{run, Stands}
use Rattle.gb_typing.specs.Programs.{HaveVariableTypes}
use Rattle.gb_typing.specs.Rules.{outermost}
use Rattle.gb_typing.specs.Typing.{IsForm}
use Rattle.gb_typing.proofs.Ambient.{one_typed, one_meaning}
use Rattle.gb_typing.proofs.Forms.{and_make, and_typed, form_made, implies_typed, implies_use}
use Rattle.gb_typing.proofs.InMemory.{expression_value, located_typed, located_value, test_typed}
use Rattle.gb_typing.proofs.Literals.{mod_literal}
use Rattle.gb_typing.proofs.Made.{made_node}
use Rattle.gb_prog.proofs.Blind.{blind_each, blind_value}
use Rattle.gb_goal.specs.Goal.Code.{body}
use Rattle.gb_goal.specs.Goal.Goal.{hoare}
use Rattle.gb_typing.specs.Goals.{IsGoalOver}
use Rattle.gb_loops.specs.Loops.{Loop}
use Rattle.gb_forms.specs.Variants.{less}
use Rattle.gb_loops.specs.Variants.{above_zero, fallen, turning, value_before, variant_type, zero_of}
use Rattle.gb_elab_laws.proofs.TypedLoops.{IsTypedLoop}

pub type_is : (t : Term) → (out-Term t).ty ≡ type_of t
type_is (Term' tt (more_of-Head h end_of-Head) n ts ty) = ap (λ z. z.ty) (out_is h n ts ty)

-- Types of numbers modulo a bound.

ordered : (t : Ty) → IsModulo t → IsOrdered t
ordered (ty.Mod n) m = tt
ordered _ m = absurd m

undistributed : (t : Ty) → IsModulo t → IsNoDistribution t
undistributed (ty.Mod n) m = tt
undistributed _ m = absurd m

zero_literal : (t : Ty) → IsModulo t → IsFinite t → IsLiteral t (Num 0)
zero_literal (ty.Mod n) m f = mod_literal n 0 f
zero_literal _ m f = absurd m

number_below : (n : ℕ) (x : value_layer.Value-F Value) → is_below_in n x ≡ true → number_at x ≤ n - 1
number_below n (value_layer.Num k) h = let l = ltb-true k n h in omega (arith, l)
number_below n (value_layer.Many vs) h = absurd (false≢true h)

modulo_below : (ts : Types) (t : Ty) → IsModulo t → (u : Value) → has ts t u ≡ true → number_of u ≤ greatest t
modulo_below ts (ty.Mod n) m u h = number_below n (out-Value u) h
modulo_below ts _ m u h = absurd m

turns_are : (v : Term) → most_turns v ≡ greatest (type_of v)
turns_are (Term' p h n ts ty) = refl

module _ (c : Context) (outer : c ≡ outermost c) (ls : List TypedName) (l : Loop) (w : IsTypedLoop c ls l) (fin : IsFinite (type_of l.variant)) where
  abbrev t : Ty
  t = type_of l.variant

  abbrev d : Context
  d = with_own c (Some ls)

  guard_form : IsForm d l.guard
  guard_form = test_typed c ls l.guard w.guard (Some ls) c.left c.right side.Own tt refl w.test

  variant_made : Made d t l.variant
  variant_made = located_typed c ls l.variant w.variant (Some ls) c.left c.right side.Own tt refl

  less_form : (a b : Term) → Made d t a → Made d t b → IsForm d (less a b)
  less_form a b x y =
      form_made d (less a b) (made_node d (head.Builtin op.Less) (t ∷ t ∷ []) (a ∷ b ∷ []) ty.Bool (ordered t w.modulo, refl, refl) tt [] (x, y))

  zero_made : Made d t (zero_of t)
  zero_made = made_node d (head.Lit (Num 0)) [] [] t (zero_literal t w.modulo fin) tt [] tt

  positive_form : IsForm d (implies_form l.guard (less (zero_of (variant_type l)) l.variant))
  positive_form =
      subst (λ u. IsForm d (implies_form l.guard (less (zero_of u) l.variant))) (sym (type_is l.variant))
      (implies_typed d l.guard (less (zero_of t) l.variant) guard_form (less_form (zero_of t) l.variant zero_made variant_made))

  -- the first goal is a form
  pub above_form : IsForm c (above_zero l)
  above_form = one_typed c outer (Some ls) ls refl (implies_form l.guard (less (zero_of (variant_type l)) l.variant)) positive_form

  module _ (there : c.logical 0 ≡ Some t) where
    value_made : Made d t (value_before t)
    value_made = made_node d (head.Read (read.Logical 0)) [] [] t (fin, there) tt [] tt

    known_form : IsForm d (equal_form l.variant (value_before t))
    known_form =
        form_made d (equal_form l.variant (value_before t))
        (made_node d (head.Builtin op.Equal) (t ∷ t ∷ []) (l.variant ∷ value_before t ∷ []) ty.Bool (undistributed t w.modulo, refl, refl) tt [] (variant_made, value_made))

    turning_form : IsForm d (turning l)
    turning_form =
        subst (λ u. IsForm d (and_form l.guard (equal_form l.variant (value_before u)))) (sym (type_is l.variant))
        (and_typed d l.guard (equal_form l.variant (value_before t)) guard_form known_form)

    fallen_form : IsForm d (fallen l)
    fallen_form = subst (λ u. IsForm d (less l.variant (value_before u))) (sym (type_is l.variant)) (less_form l.variant (value_before t) variant_made value_made)

    -- the second goal is one over the locals
    pub falling_typed : HaveVariableTypes ls → IsGoalOver c ls ls (hoare (body l.body) (turning l) (fallen l))
    falling_typed vs = (record { locals = vs; statements = w.body }, turning_form, fallen_form)

-- What both goals say.
module _ (c : Context) (outer : c ≡ outermost c) (ls : List TypedName) (l : Loop) (w : IsTypedLoop c ls l) (fin : IsFinite (type_of l.variant)) (g : Setting) (fits : IsSettingOf c g) where
  abbrev value : Memory → Value
  value m = value_in (val g quiet l.variant (inside closed m))

  abbrev says : Term → State → Bool
  says f s = den g (trying g) f s

  -- the guard and the variant mean in each memory what they mean in the program
  guard_says : (s : State) (m : Memory) → says l.guard (at s m) ≡ is_true g closed l.guard m
  guard_says s m =
      ap truth (located_value c ls l.guard w.guard g (speaking g (trying g)) (at s m) side.Own tt ∙ blind_value c ls g (at s m) closed l.guard w.guard m)

  variant_means : (s : State) (m : Memory) → val g (speaking g (trying g)) l.variant (at s m) ≡ finite (value m)
  variant_means s m =
      located_value c ls l.variant w.variant g (speaking g (trying g)) (at s m) side.Own tt
      ∙ blind_value c ls g (at s m) closed l.variant w.variant m
      ∙ expression_value c ls l.variant w.variant g fits fin closed m

  less_says : (a b : Term) (u v : Value) (s : State) → val g (speaking g (trying g)) a s ≡ finite u → val g (speaking g (trying g)) b s ≡ finite v → says (less a b) s ≡ nat_lt (number_of u) (number_of v)
  less_says a b u v s x y =
      ap truth (val_node g (speaking g (trying g)) (head.Builtin op.Less) (a ∷ b ∷ []) ty.Bool s)
      ∙ truth_of (is_less (val g (speaking g (trying g)) a s) (val g (speaking g (trying g)) b s)) ∙ (λ i. is_less (x i) (y i))

  -- the value is one of the type
  pub value_has : (m : Memory) → has g.types (type_of l.variant) (value m) ≡ true → variant_value g closed l.variant m ≤ most_turns l.variant
  value_has m h =
      let k = modulo_below g.types (type_of l.variant) w.modulo (value m) h in
      subst (λ n. number_of (value m) ≤ n) (sym (turns_are l.variant)) k

  zero_means : (s : State) → val g (speaking g (trying g)) (zero_of (type_of l.variant)) s ≡ finite (Num 0)
  zero_means s = val_node g (speaking g (trying g)) (head.Lit (Num 0)) [] (type_of l.variant) s

  -- the first goal
  pub stays_above : (s : State) → says (above_zero l) s ≡ true → (m : Memory) → is_true g closed l.guard m ≡ true → 0 < variant_value g closed l.variant m
  unfolding out-Value denote.Hole.Carrier.out
  stays_above s h m e =
      let f = implies_form l.guard (less (zero_of (variant_type l)) l.variant) in
      let k = one_meaning c outer (Some ls) ls refl f (positive_form c outer ls l w fin) g fits (trying g) (is_fair g) s h m in
      let p = implies_use g (trying g) l.guard (less (zero_of (variant_type l)) l.variant) (at s m) k (guard_says s m ∙ e) in
      let q = subst (λ u. says (less (zero_of u) l.variant) (at s m) ≡ true) (type_is l.variant) p in
      ltb-true 0 (number_of (value m)) (sym (less_says (zero_of (type_of l.variant)) l.variant (Num 0) (value m) (at s m) (zero_means (at s m)) (variant_means (at s m) m)) ∙ q)

  -- the second goal, where the logical variable is the value of the variant
  pub falls_from : (s : State) (m : Memory) → s.logical 0 ≡ finite (value m) → Stands g (trying g) s (hoare (body l.body) (turning l) (fallen l)) →
      is_true g closed l.guard m ≡ true → Every (λ n. variant_value g closed l.variant n < variant_value g closed l.variant m) (out g closed (statements g l.body) m)
  falls_from s m known h e =
      let u = type_of l.variant in
      let means : (n : Memory) → val g (speaking g (trying g)) (value_before u) (at s n) ≡ finite (value m) =
      λ n. val_node g (speaking g (trying g)) (head.Read (read.Logical 0)) [] u (at s n) ∙ known in
      let begins : says (and_form l.guard (equal_form l.variant (value_before u))) (at s m) ≡ true =
      and_make g (trying g) l.guard (equal_form l.variant (value_before u)) (at s m) (guard_says s m ∙ e)
      ((true_equal g (trying g) l.variant (value_before u) (value m) (value m) (at s m) (variant_means s m) (means m)).1 refl) in
      let turn = h m (subst (λ z. says (and_form l.guard (equal_form l.variant (value_before z))) (at s m) ≡ true) (sym (type_is l.variant)) begins) in
      subst (Every (λ n. variant_value g closed l.variant n < variant_value g closed l.variant m)) (blind_each c ls g s closed l.body w.body m)
      (Every-weaken {P = λ n. says (fallen l) (at s n) ≡ true} {Q = λ n. variant_value g closed l.variant n < variant_value g closed l.variant m} (run g s l.body m)
      (λ n x.
      let y = subst (λ z. says (less l.variant (value_before z)) (at s n) ≡ true) (type_is l.variant) x in
      ltb-true (number_of (value n)) (number_of (value m)) (sym (less_says l.variant (value_before u) (value n) (value m) (at s n) (variant_means s n) (means n)) ∙ y)) turn)
