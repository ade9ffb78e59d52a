-- Distributions of stated weights are named.
use Rattle.std.proofs.Common.{◌≡◌, ℕ, ◌+◌, ◌^◌, pos, nat_lt, true, if◌then◌else◌, List, [], ◌∷◌, ◌++◌, Option, refl, ap, sym, ◌∙◌, subst}
use Rattle.std.specs.List.{list_all}
use Rattle.std.proofs.lemmas.Bool.{and_parts}
use Rattle.gb_core.specs.declared.place.Place.{Place}
use Rattle.gb_core.specs.declared.refusal.Why.TheVariants.{Argument, DoubleName, Overflow, Syntax, TypeMismatch}
use Rattle.gb_core.specs.declared.ty.Ty.{Ty, out-Ty}
use Rattle.gb_core.specs.declared.ty.Ty.TheVariants as ty
use Rattle.gb_core.specs.declared.value.Value.{out-Value}
use Rattle.gb_core.specs.declared.value.Value.TheVariants.{Num}
use Rattle.gb_limits.specs.Numbers.{number_of}
use Rattle.gb_core.specs.SameTypes.{ty_eq}
use Rattle.gb_core.proofs.SameTypes.{ty_eq-Decides}
use Rattle.gb_terms.specs.declared.term.Pair.{Pair}
use Rattle.gb_terms.specs.declared.term.Term.{Term}
use Rattle.gb_terms.specs.declared.term.Head.TheVariants.{Weights}
use Rattle.gb_script.specs.declared.tree.Node.{Node}
use Rattle.gb_script.specs.Tree.{text_of, parts_of, place_of}
use Rattle.gb_goal.specs.Answers.{◌>>=◌}
use Rattle.gb_goal.specs.Answers.Answer.{given, refused}
use Rattle.gb_goal.specs.Scope.{constant_named}
use Rattle.gb_goal.specs.declared.scope.Constant.{Constant}
use Rattle.gb_names.specs.declared.bindings.Binding.{Binding}
use Rattle.gb_names.specs.declared.names.Known.{Known}
use Rattle.gb_names.specs.declared.names.Known.TheVariants as known
use Rattle.gb_names.specs.Allowed.{distribution_here}
use Rattle.gb_names.specs.Environment.{Name, Environment}
use Rattle.gb_names.specs.Names.{constant_at, covered, known_at, named}
use Rattle.gb_names.specs.Wanted.{wanted}
use Rattle.gb_operators.specs.Kinds.{outcome}
use Rattle.gb_operators.specs.Operators.{part_wanted}
use Rattle.gb_weights.specs.Weights.{added, built_in_constant, constant_of, is_weighed, new_constant, no_constant, outcomes, stated, sum_of, weighed, weighed_all, weight_in, weights}
use Rattle.gb_print_names.specs.declared.bound_names.Enumeration.{Enumeration}
use Rattle.gb_print.specs.Written.{are_weights_here, in_range, is_weight_here, is_word_here}
use Rattle.gb_shown.specs.Named.{IsNamedType, IsNamed}
use Rattle.gb_shown.proofs.SpeltTrees.{node_named}
use Rattle.gb_shown.specs.Scopes.{IsNamedScope}
use Rattle.gb_shown.proofs.Given.{given_bind, given_is, not_given, if_allowed, if_refused, if_none, chosen, both_true}
use Rattle.gb_shown.proofs.Types.{distribution_named}
use Rattle.gb_shown.proofs.FoundInForms.{constant_found}
use Rattle.gb_shown.proofs.Constants.{layout_outcome, out_bool, out_num, out_unit, wanted_named}
use Rattle.gb_print.specs.Written as written

weight_range : (ps : List Pair) (x : Name) (p : Place) (m : ℕ) → weight_in ps x p ≡ given m → in_range m ≡ true
weight_range ps x p m h =
    let a = if_allowed (nat_lt (number_of x) (2 ^ 127)) (if nat_lt 0 (number_of x) then added (sum_of ps) (number_of x) p else refused Argument p) Syntax p m h in
    let b = if_allowed (nat_lt 0 (number_of x)) (added (sum_of ps) (number_of x) p) Argument p m a.1 in
    let d = if_allowed (nat_lt (sum_of ps + number_of x) (2 ^ 127)) (given (number_of x)) (Overflow (pos (sum_of ps)) (pos (number_of x))) p m b.1 in
    subst (λ z. in_range z ≡ true) (given_is (number_of x) m d.1) a.0

module _ (es : List Enumeration) where
  abbrev IsWord : Constant → Type 0
  IsWord k = IsNamedType k.ty × (is_word_here es (out-Ty k.ty) k.number ≡ true)

  built_in_word : (k : Known) (p : Place) (y : Constant) → built_in_constant k p ≡ given y → IsWord y
  built_in_word known.True p y h = subst IsWord {x = record { ty = ty.Bool; number = 1 }} (given_is _ y h) (tt, ap (λ x. is_word_here es x 1) out_bool)
  built_in_word known.False p y h = subst IsWord {x = record { ty = ty.Bool; number = 0 }} (given_is _ y h) (tt, ap (λ x. is_word_here es x 0) out_bool)
  built_in_word known.Unit p y h = subst IsWord {x = record { ty = ty.Unit; number = 0 }} (given_is _ y h) (tt, ap (λ x. is_word_here es x 0) out_unit)
  built_in_word _ p y h = absurd (not_given _ _ y h)

  abbrev AreHere : Ty → List Pair → Type 0
  AreHere t ps = list_all (is_weight_here es t) ps ≡ true

  here_behind : (t : Ty) (ps : List Pair) (q : Pair) → AreHere t ps → is_weight_here es t q ≡ true → AreHere t (ps ++ q ∷ [])
  here_behind t [] q h k = both_true k refl
  here_behind t (p ∷ ps) q h k = let a = and_parts (is_weight_here es t p) (list_all (is_weight_here es t) ps) h in both_true a.0 (here_behind t ps q a.1 k)

  weights_there : (t : Ty) (p : Pair) (ps : List Pair) → AreHere t (p ∷ ps) → IsNamedType t → IsNamed es (stated t (p ∷ ps))
  weights_there t p ps h n =
      node_named es (Weights (p ∷ ps)) [] (ty.Distr t) (subst (λ z. are_weights_here es z (p ∷ ps) ≡ true) (sym (layout_outcome t)) h) (distribution_named t n) tt

  module _ (at : Environment) (scope : IsNamedScope es at.declared) (bs : List Binding) where
    constant_word : (x : Name) (p : Place) (k : Constant) → constant_of at bs x p ≡ given k → IsWord k
    constant_word x p k h =
        chosen IsWord given (constant_at at bs x) _ k
        (λ y i e. subst IsWord (given_is y k e) (constant_found es at.declared scope x y (if_none (covered at bs x) (constant_named at.declared x) y i)))
        (chosen IsWord (λ b. built_in_constant b p) (known_at at bs x) (no_constant at bs x p) k (λ b i e. built_in_word b p k e)
        (λ e. let q = given_bind (named at bs x p) (λ _. refused Argument p) k e in absurd (not_given Argument p k q.2)))
        h

    new_word : (t : Ty) (ps : List Pair) (x : Name) (p : Place) (k : Constant) → new_constant at bs t ps x p ≡ given k → (k.ty ≡ t) × IsWord k
    new_word t ps x p k h =
        let test = λ (y : Constant). if is_weighed y.number ps then refused (DoubleName x) p else given y in
        let y = given_bind (constant_of at bs x p) (λ y. if ty_eq y.ty t then test y else refused TypeMismatch p) k h in
        let a = if_allowed (ty_eq y.0.ty t) (test y.0) TypeMismatch p k y.2 in
        let b = if_refused (is_weighed y.0.number ps) (DoubleName x) p (given y.0) k a.1 in
        subst (λ (z : Constant). (z.ty ≡ t) × IsWord z) (given_is y.0 k b.1) ((ty_eq-Decides y.0.ty t).0 a.0, constant_word x p y.0 y.1)

    pair_here : (t : Ty) (ps : List Pair) (ns : List Node) (p : Place) (q : Pair) → weighed at bs t ps ns p ≡ given q → IsNamedType t × (is_weight_here es t q ≡ true)
    pair_here t ps (a ∷ n ∷ []) p q h =
        let end = λ (k : Constant) (m : ℕ). given (record { value = Num k.number; weight = m }) in
        let k = given_bind (new_constant at bs t ps (text_of a) (place_of a)) (λ k. weight_in ps (text_of n) (place_of n) >>= end k) q h in
        let m = given_bind (weight_in ps (text_of n) (place_of n)) (end k.0) q k.2 in
        let y = new_word t ps (text_of a) (place_of a) k.0 k.1 in
        let word : written.has_word es t (out-Value (Num k.0.number)) ≡ true =
        ap (written.has_word es t) (out_num k.0.number) ∙ subst (λ u. is_word_here es (out-Ty u) k.0.number ≡ true) y.0 y.1.1 in
        subst (λ (z : Pair). IsNamedType t × (is_weight_here es t z ≡ true)) (given_is _ q m.2) (subst IsNamedType y.0 y.1.0, both_true word (weight_range ps (text_of n) (place_of n) m.0 m.1))
    pair_here t ps _ p q h = absurd (not_given _ _ q h)

    -- weights behind others
    all_weighed : (t : Ty) (p : Pair) (ps : List Pair) (xs : List Node) (qs : List Pair) → IsNamedType t → AreHere t (p ∷ ps) → weighed_all at bs t (p ∷ ps) xs ≡ given qs → IsNamed es (stated t qs)
    unfolding weighed_all
    all_weighed t p ps [] qs n h e = subst (λ z. IsNamed es (stated t z)) (given_is (p ∷ ps) qs e) (weights_there t p ps h n)
    all_weighed t p ps (x ∷ xs) qs n h e =
        let q = given_bind (weighed at bs t (p ∷ ps) (parts_of x) (place_of x)) (λ q. weighed_all at bs t ((p ∷ ps) ++ q ∷ []) xs) qs e in
        all_weighed t p (ps ++ q.0 ∷ []) xs qs n (here_behind t (p ∷ ps) q.0 h (pair_here t (p ∷ ps) (parts_of x) (place_of x) q.0 q.1).1) q.2

    entries_weighed : (v : Option Ty) (xs : List Node) (p : Place) (t : Ty) (qs : List Pair) → outcomes at bs v xs p ≡ given t → weighed_all at bs t [] xs ≡ given qs → IsNamed es (stated t qs)
    unfolding weighed_all
    entries_weighed v [] p t qs o e = cc
    entries_weighed v (x ∷ xs) p t qs o e =
        let q = given_bind (weighed at bs t [] (parts_of x) (place_of x)) (λ q. weighed_all at bs t (q ∷ []) xs) qs e in
        let one = pair_here t [] (parts_of x) (place_of x) q.0 q.1 in
        all_weighed t q.0 [] xs qs one.0 (both_true one.1 refl) q.2

    pub weights_named : (xs : List Node) (p : Place) (w : Option Ty) (u : Term) → weights xs p at bs w ≡ given u → IsNamed es u
    weights_named xs p w u h =
        let end = λ (t : Ty). weighed_all at bs t [] xs >>= λ ps. wanted w p (stated t ps) in
        let over = λ (v : Option Ty). outcomes at bs v xs p >>= end in
        let q = given_bind (distribution_here at p) (λ _. part_wanted outcome w p >>= over) u h in
        let v = given_bind (part_wanted outcome w p) over u q.2 in
        let t = given_bind (outcomes at bs v.0 xs p) end u v.2 in
        let ps = given_bind (weighed_all at bs t.0 [] xs) (λ ps. wanted w p (stated t.0 ps)) u t.2 in
        wanted_named es w p (stated t.0 ps.0) u (entries_weighed v.0 xs p t.0 ps.0 t.1 ps.1) ps.2
