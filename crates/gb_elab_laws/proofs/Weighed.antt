-- Distributions of stated weights are typed.
use Rattle.std.proofs.Common.{◌≡◌, ℕ, ◌+◌, ◌^◌, pos, nat_lt, ◌&&◌, true, if◌then◌else◌, List, [], ◌∷◌, ◌++◌, Option, Some, None, refl, ap, sym, ◌∙◌, subst, arith, Bool}
use Rattle.std.specs.Option.{option_map_or}
use Rattle.gb_core.specs.declared.place.Place.{Place}
use Rattle.gb_core.specs.declared.refusal.Why.TheVariants.{Argument, DoubleName, Overflow, Syntax, TypeMismatch}
use Rattle.gb_core.specs.declared.ty.Ty.{Ty}
use Rattle.gb_core.specs.declared.ty.Ty.TheVariants as ty
use Rattle.gb_core.specs.declared.value.Value.TheVariants.{Num}
use Rattle.gb_limits.specs.Numbers.{number_of}
use Rattle.gb_core.specs.SameTypes.{ty_eq}
use Rattle.gb_core.proofs.SameTypes.{ty_eq-Decides}
use Rattle.gb_names.specs.declared.bindings.Binding.{Binding}
use Rattle.gb_terms.specs.declared.term.Pair.{Pair}
use Rattle.gb_terms.specs.declared.term.Term.{Term}
use Rattle.gb_terms.specs.declared.term.Head.TheVariants.{Weights}
use Rattle.gb_script.specs.declared.tree.Node.{Node}
use Rattle.gb_script.specs.Tree.{text_of, parts_of, place_of}
use Rattle.gb_goal.specs.Answers.{◌>>=◌}
use Rattle.gb_goal.specs.Answers.Answer.{given, refused}
use Rattle.gb_goal.specs.declared.scope.Constant.{Constant}
use Rattle.gb_goal.specs.Scope.{constant_named}
use Rattle.gb_meaning.specs.Drawn.{each_weighs, has_weights}
use Rattle.gb_laws.specs.Finite.{IsVariableType}
use Rattle.gb_laws.specs.Typing.{AreLiterals, IsLiteral}
use Rattle.gb_typing.specs.Context.{Context}
use Rattle.gb_typing.proofs.Literals.{bool_literal}
use Rattle.gb_names.specs.declared.names.Known.{Known}
use Rattle.gb_names.specs.declared.names.Known.TheVariants as known
use Rattle.gb_names.specs.Allowed.{distribution_here}
use Rattle.gb_names.specs.Environment.{Name, Environment}
use Rattle.gb_names.specs.Names.{constant_at, covered, known_at, named}
use Rattle.gb_names.specs.Wanted.{wanted}
use Rattle.gb_operators.specs.Kinds.{outcome}
use Rattle.gb_operators.specs.Operators.{part_wanted}
use Rattle.gb_weights.specs.Weights.{added, built_in_constant, constant_of, is_weighed, new_constant, no_constant, outcomes, stated, sum_of, weighed, weighed_all, weight_in, weights}
use Rattle.gb_elab_laws.specs.Fitting.{IsFitting, IsGiven}
use Rattle.gb_elab_laws.proofs.Given.{given_bind, given_is, if_allowed, if_given, if_none, if_refused, not_given}
use Rattle.gb_elab_laws.proofs.Literals.{unit_literal}
use Rattle.gb_elab_laws.proofs.Shapes.{drawn_form, is_drawn, outcome_is, variable_with, with_globs}
use Rattle.gb_elab_laws.proofs.Typed.{Typed, leaf, wanted_given}

-- a constant is a value of its type, which is one of variables
abbrev IsConstant : Constant → Type 0
IsConstant k = IsVariableType k.ty × IsLiteral k.ty (Num k.number)

-- a value of the type, and a weight above 0
abbrev IsWeighed : Ty → Pair → Type 0
IsWeighed t q = IsLiteral t q.value × (nat_lt 0 q.weight ≡ true)

abbrev AreWeighed : Ty → List Pair → Type 0
AreWeighed t [] = Unit {0}
AreWeighed t (q ∷ qs) = IsWeighed t q × AreWeighed t qs

abbrev AreSome : List Pair → Type 0
AreSome [] = ⊥
AreSome (q ∷ qs) = Unit {0}

weighed_behind : (t : Ty) (ps : List Pair) (q : Pair) → AreWeighed t ps → IsWeighed t q → AreWeighed t (ps ++ q ∷ [])
weighed_behind t [] q h k = (k, tt)
weighed_behind t (p ∷ ps) q h k = (h.0, weighed_behind t ps q h.1 k)

some_behind : (ps : List Pair) (q : Pair) → AreSome (ps ++ q ∷ [])
some_behind [] q = tt
some_behind (p ∷ ps) q = tt

literals : (t : Ty) (ps : List Pair) → AreWeighed t ps → AreLiterals t ps
literals t [] h = tt
literals t (p ∷ ps) h = (h.0.0, literals t ps h.1)

each_above : (t : Ty) (ps : List Pair) → AreWeighed t ps → each_weighs ps ≡ true
each_above t [] h = refl
each_above t (p ∷ ps) h = ap (λ b. b && each_weighs ps) h.0.1 ∙ each_above t ps h.1

have_weights : (t : Ty) (ps : List Pair) → AreSome ps → AreWeighed t ps → has_weights ps ≡ true
have_weights t [] s h = absurd s
have_weights t (p ∷ ps) s h = each_above t (p ∷ ps) h

built_in_is : (k : Known) (p : Place) (y : Constant) → built_in_constant k p ≡ given y → IsConstant y
built_in_is known.True p y h = subst IsConstant {x = record { ty = ty.Bool; number = 1 }} (given_is _ y h) (tt, bool_literal 1 (omega arith))
built_in_is known.False p y h = subst IsConstant {x = record { ty = ty.Bool; number = 0 }} (given_is _ y h) (tt, bool_literal 0 (omega arith))
built_in_is known.Unit p y h = subst IsConstant {x = record { ty = ty.Unit; number = 0 }} (given_is _ y h) (tt, unit_literal)
built_in_is _ p y h = absurd (not_given _ _ y h)

weight_above : (ps : List Pair) (x : Name) (p : Place) (m : ℕ) → weight_in ps x p ≡ given m → nat_lt 0 m ≡ true
weight_above ps x p m h =
    let a = if_allowed (nat_lt (number_of x) (2 ^ 127)) (if nat_lt 0 (number_of x) then added (sum_of ps) (number_of x) p else refused Argument p) Syntax p m h in
    let b = if_allowed (nat_lt 0 (number_of x)) (added (sum_of ps) (number_of x) p) Argument p m a.1 in
    let d = if_given (nat_lt (sum_of ps + number_of x) (2 ^ 127)) (number_of x) (Overflow (pos (sum_of ps)) (pos (number_of x))) p m b.1 in
    subst (λ z. nat_lt 0 z ≡ true) d.1 b.0

module _ {globs : Name → Bool} (c : Context) (at : Environment) (vs : List Binding) (fit : IsFitting globs c at vs) where
  constant_is : (x : Name) (p : Place) (k : Constant) → constant_of at vs x p ≡ given k → IsConstant k
  constant_is x p k h = step (constant_at at vs x) refl h
    where
      by_name : (o : Option Known) → option_map_or (λ b. built_in_constant b p) o (no_constant at vs x p) ≡ given k → IsConstant k
      by_name (Some b) e = built_in_is b p k e
      by_name None e = let q = given_bind (named at vs x p) (λ _. refused Argument p) k e in absurd (not_given Argument p k q.2)

      step : (o : Option Constant) → constant_at at vs x ≡ o →
          option_map_or given o (option_map_or (λ b. built_in_constant b p) (known_at at vs x) (no_constant at vs x p)) ≡ given k → IsConstant k
      step (Some y) i e =
          let names = fit.declared in
          subst IsConstant (given_is y k e) (names.constants x y (if_none (covered at vs x) (constant_named at.declared x) y i))
      step None i e = by_name (known_at at vs x) e

  new_is : (t : Ty) (ps : List Pair) (x : Name) (p : Place) (k : Constant) → new_constant at vs t ps x p ≡ given k → (k.ty ≡ t) × IsConstant k
  new_is t ps x p k h =
      let test = λ (y : Constant). if is_weighed y.number ps then refused (DoubleName x) p else given y in
      let y = given_bind (constant_of at vs x p) (λ y. if ty_eq y.ty t then test y else refused TypeMismatch p) k h in
      let a = if_allowed (ty_eq y.0.ty t) (test y.0) TypeMismatch p k y.2 in
      let b = if_refused (is_weighed y.0.number ps) (DoubleName x) p (given y.0) k a.1 in
      subst (λ (z : Constant). (z.ty ≡ t) × IsConstant z) (given_is y.0 k b.1) ((ty_eq-Decides y.0.ty t).0 a.0, constant_is x p y.0 y.1)

  pair_is : (t : Ty) (ps : List Pair) (ns : List Node) (p : Place) (q : Pair) → weighed at vs t ps ns p ≡ given q → IsVariableType t × IsWeighed t q
  pair_is t ps (a ∷ n ∷ []) p q h =
      let end = λ (k : Constant) (m : ℕ). given (record { value = Num k.number; weight = m }) in
      let k = given_bind (new_constant at vs t ps (text_of a) (place_of a)) (λ k. weight_in ps (text_of n) (place_of n) >>= end k) q h in
      let m = given_bind (weight_in ps (text_of n) (place_of n)) (end k.0) q k.2 in
      let y = new_is t ps (text_of a) (place_of a) k.0 k.1 in
      subst (λ (z : Pair). IsVariableType t × IsWeighed t z) (given_is _ q m.2)
      (subst IsVariableType y.0 y.1.0, (subst (λ u. IsLiteral u (Num k.0.number)) y.0 y.1.1, weight_above ps (text_of n) (place_of n) m.0 m.1))
  pair_is t ps _ p q h = absurd (not_given _ _ q h)

  -- weights behind others
  all_weighed : (t : Ty) (ps : List Pair) (xs : List Node) (qs : List Pair) → AreSome ps → AreWeighed t ps → weighed_all at vs t ps xs ≡ given qs → AreSome qs × AreWeighed t qs
  unfolding weighed_all
  all_weighed t ps [] qs s h e = subst (λ z. AreSome z × AreWeighed t z) (given_is ps qs e) (s, h)
  all_weighed t ps (x ∷ xs) qs s h e =
      let q = given_bind (weighed at vs t ps (parts_of x) (place_of x)) (λ q. weighed_all at vs t (ps ++ q ∷ []) xs) qs e in
      all_weighed t (ps ++ q.0 ∷ []) xs qs (some_behind ps q.0) (weighed_behind t ps q.0 h (pair_is t ps (parts_of x) (place_of x) q.0 q.1).1) q.2

  entries_weighed : (v : Option Ty) (xs : List Node) (p : Place) (t : Ty) (qs : List Pair) → outcomes at vs v xs p ≡ given t → weighed_all at vs t [] xs ≡ given qs →
      IsVariableType t × AreSome qs × AreWeighed t qs
  unfolding weighed_all
  entries_weighed v [] p t qs o e = cc
  entries_weighed v (x ∷ xs) p t qs o e =
      let q = given_bind (weighed at vs t [] (parts_of x) (place_of x)) (λ q. weighed_all at vs t (q ∷ []) xs) qs e in
      let one = pair_is t [] (parts_of x) (place_of x) q.0 q.1 in
      let all = all_weighed t (q.0 ∷ []) xs qs tt (one.1, tt) q.2 in
      (one.0, all.0, all.1)

  stated_typed : (t : Ty) (qs : List Pair) → IsVariableType t → AreSome qs → AreWeighed t qs → Typed globs c at.language (ty.Distr t) (stated t qs)
  stated_typed t qs v s h =
      let finite = variable_with globs t v in
      leaf c at.language (Weights qs) (ty.Distr t) (drawn_form globs t finite)
      (is_drawn t (with_globs globs t finite), subst (λ z. AreLiterals z qs) (sym (outcome_is t)) (literals t qs h), have_weights t qs s h)
      tt tt (λ e. tt)

  pub weights_typed : (xs : List Node) (p : Place) (w : Option Ty) (u : Term) → weights xs p at vs w ≡ given u → IsGiven globs c at.language w u
  weights_typed xs p w u h =
      let end = λ (t : Ty). weighed_all at vs t [] xs >>= λ ps. wanted w p (stated t ps) in
      let over = λ (v : Option Ty). outcomes at vs v xs p >>= end in
      let q = given_bind (distribution_here at p) (λ _. part_wanted outcome w p >>= over) u h in
      let v = given_bind (part_wanted outcome w p) over u q.2 in
      let t = given_bind (outcomes at vs v.0 xs p) end u v.2 in
      let ps = given_bind (weighed_all at vs t.0 [] xs) (λ ps. wanted w p (stated t.0 ps)) u t.2 in
      let k = entries_weighed v.0 xs p t.0 ps.0 t.1 ps.1 in
      wanted_given c at.language w p (stated t.0 ps.0) u (ty.Distr t.0, stated_typed t.0 ps.0 k.0 k.1 k.2) ps.2
