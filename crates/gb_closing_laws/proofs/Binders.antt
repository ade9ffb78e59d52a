-- Binders give related results from related arguments.
use Rattle.std.proofs.Common.{◌≡◌, ℕ, zero, suc, ◌<◌, true, Some, List, ◌∷◌, ◌++◌, refl, ap, sym, ◌∙◌, subst, arith}
use Rattle.std.proofs.Math.Nat.{mul-pos}
use Rattle.gb_core.specs.declared.ty.Ty.{Ty}
use Rattle.gb_core.specs.declared.ty.Ty.TheVariants as ty
use Rattle.gb_core.specs.declared.value.Value.{Value}
use Rattle.gb_meaning.specs.Names.{Name}
use Rattle.gb_meaning.specs.Fractions.{Fraction, plus}
use Rattle.gb_meaning.specs.Values.{values, has}
use Rattle.gb_meaning.specs.Memory.{Memory}
use Rattle.gb_meaning.specs.Setting.{Meaning, Setting}
use Rattle.gb_meaning.specs.Setting.Meaning.{finite, fraction}
use Rattle.gb_meaning.specs.Meanings.{of_number, truth, fraction_in}
use Rattle.gb_meaning.specs.State.{State, under}
use Rattle.gb_meaning.specs.State.Binding.{value as bound_value, memory as bound_memory}
use Rattle.gb_meaning.specs.Terms.{at_value, each_value, some_value, sum_below}
use Rattle.gb_meaning.proofs.Bools.{same_truth, each_value_use, each_value_has, some_value_has, some_value_make}
use Rattle.gb_meaning.proofs.Numberings.{lawful}
use Rattle.gb_laws.specs.Finite.{IsInhabited}
use Rattle.gb_laws.specs.Typing.{Binder}
use Rattle.gb_laws.specs.Typing.Binder.{value, index, memory}
use Rattle.gb_laws.proofs.Meanings.{fraction_above}
use Rattle.gb_walk.specs.Clash.{Exclusions}
use Rattle.gb_labels.specs.Reads.{Vars, are_free}
use Rattle.gb_labels.specs.Things.{modules_of}
use Rattle.gb_closing_laws.specs.Pairs.{Pairing}
use Rattle.gb_closing_laws.specs.Related.{ReadTypes, Related, MeaningRelated, ReadsRelated, StateRelated}
use Rattle.gb_closing_laws.specs.Needs.{HasFirsts, HasRoom, AreCountedTypes}
use Rattle.gb_closing_laws.specs.Model.{AreAlike}
use Rattle.gb_closing_laws.proofs.Relations.{related_has, related_flip, flipped}
use Rattle.gb_closing_laws.proofs.Extending.{IsLonger, extend, extend_back}
use Rattle.gb_closing_laws.proofs.LabelMeanings.{meaning_equal, meaning_of, truth_related}
use Rattle.gb_closing_laws.proofs.TypedReads.{HaveTypes}
use Rattle.gb_closing_laws.proofs.Partners.{modules_read, partner, copartner}
use Rattle.gb_closing_laws.proofs.States.{state_inside, state_longer, firsts_longer}
use Rattle.gb_closing_laws.proofs.Sides.{Sides, IsSide}

-- a sum of fractions has a denominator above 0
sum_above : (n : ℕ) (f : ℕ → Fraction) → ((i : ℕ) → i < n → 0 < (f i).1) → 0 < (sum_below n f).1
sum_above zero f h = omega arith
sum_above (suc n) f h = mul-pos (sum_above n f (λ i l. h i (omega (arith, l)))) (h n (omega arith))

sum_same : (n : ℕ) (f g : ℕ → Fraction) → ((i : ℕ) → i < n → f i ≡ g i) → sum_below n f ≡ sum_below n g
sum_same zero f g h = refl
sum_same (suc n) f g h =
    let rest = sum_same n f g (λ i l. h i (omega (arith, l))) in
    let last = h n (omega arith) in
    λ i. plus (rest i) (last i)

module _ {es : Exclusions} (g h : Setting) (alike : AreAlike es g h) (T : ReadTypes) (bs : List Binder) (vss : List Vars) (x : Sides) where
  -- inside of a binder of values

  module _ (a : Ty) (vs : Vars) (side : IsSide g h T (value a ∷ bs) (vs ∷ vss) x) where
    pub at_related : (P : Pairing g.types h.types) (s r : State) → HasFirsts g.types h.types P.pairs x.opened → HasRoom g.types h.types P.pairs x.quantified → StateRelated g h P.pairs T bs vss s r →
        (v w : Value) → Related g.types h.types P.pairs a v w → MeaningRelated g.types h.types P.pairs x.ty (at_value x.left s v) (at_value x.right r w)
    at_related P s r f m q v w k =
        side.0 P (under s (bound_value (finite v))) (under r (bound_value (finite w))) f m (state_inside g h T P.pairs bs vss (value a) vs s r (bound_value (finite v)) (bound_value (finite w)) q k)

    module _ (is_test : x.ty ≡ ty.Bool) where
      pub test_related : (P : Pairing g.types h.types) (s r : State) → HasFirsts g.types h.types P.pairs x.opened → HasRoom g.types h.types P.pairs x.quantified → StateRelated g h P.pairs T bs vss s r →
          (v w : Value) → Related g.types h.types P.pairs a v w → truth (at_value x.left s v) ≡ truth (at_value x.right r w)
      test_related P s r f m q v w k = truth_related g.types h.types alike.sizes P.pairs x.ty is_test (at_value x.left s v) (at_value x.right r w) (at_related P s r f m q v w k)

      -- a quantifier: each value has a related one over longer lists of pairs
      module _ (ms : List Name) (e : modules_of a ≡ Some ms) (P : Pairing g.types h.types) (s r : State) (f : HasFirsts g.types h.types P.pairs x.opened)
          (m : HasRoom g.types h.types P.pairs (ms ++ x.quantified)) (q : StateRelated g h P.pairs T bs vss s r) where
        forth : (v : Value) → has g.types a v ≡ true → (w : Value) × (has h.types a w ≡ true) × (truth (at_value x.left s v) ≡ truth (at_value x.right r w))
        forth v l =
            let n = extend g.types h.types alike.sizes a ms e P x.quantified v l m in
            let back = related_flip g.types h.types alike.sizes n.pairing a v n.value n.related in (
              n.value,
              related_has h.types g.types (sym alike.sizes) (flipped g.types h.types alike.sizes n.pairing) a n.value v back,
              test_related n.pairing s r (firsts_longer g h T P n.pairing n.longer x.opened f) n.room (state_longer g h T P n.pairing n.longer bs vss s r q) v n.value n.related,
            )

        back : (w : Value) → has h.types a w ≡ true → (v : Value) × (has g.types a v ≡ true) × (truth (at_value x.left s v) ≡ truth (at_value x.right r w))
        back w l =
            let n = extend_back g.types h.types alike.sizes a ms e P x.quantified w l m in (
              n.value,
              related_has g.types h.types alike.sizes n.pairing a n.value w n.related,
              test_related n.pairing s r (firsts_longer g h T P n.pairing n.longer x.opened f) n.room (state_longer g h T P n.pairing n.longer bs vss s r q) n.value w n.related,
            )

        pub all_same : each_value (values g.types a) (λ v. truth (at_value x.left s v)) ≡ each_value (values h.types a) (λ w. truth (at_value x.right r w))
        all_same =
            same_truth (each_value (values g.types a) (λ v. truth (at_value x.left s v))) (each_value (values h.types a) (λ w. truth (at_value x.right r w)))
            (λ d. each_value_has (values h.types a) (lawful h.types a) (λ w. truth (at_value x.right r w))
            (λ w l. let n = back w l in sym n.2 ∙ each_value_use (values g.types a) (lawful g.types a) (λ v. truth (at_value x.left s v)) d n.0 n.1))
            (λ d. each_value_has (values g.types a) (lawful g.types a) (λ v. truth (at_value x.left s v))
            (λ v l. let n = forth v l in n.2 ∙ each_value_use (values h.types a) (lawful h.types a) (λ w. truth (at_value x.right r w)) d n.0 n.1))

        pub some_same : some_value (values g.types a) (λ v. truth (at_value x.left s v)) ≡ some_value (values h.types a) (λ w. truth (at_value x.right r w))
        some_same =
            same_truth (some_value (values g.types a) (λ v. truth (at_value x.left s v))) (some_value (values h.types a) (λ w. truth (at_value x.right r w)))
            (λ d. let u = some_value_has (values g.types a) (lawful g.types a) (λ v. truth (at_value x.left s v)) d in
            let n = forth u.0 u.1 in some_value_make (values h.types a) (lawful h.types a) (λ w. truth (at_value x.right r w)) n.0 n.1 (sym n.2 ∙ u.2))
            (λ d. let u = some_value_has (values h.types a) (lawful h.types a) (λ w. truth (at_value x.right r w)) d in
            let n = back u.0 u.1 in some_value_make (values g.types a) (lawful g.types a) (λ v. truth (at_value x.left s v)) n.0 n.1 (n.2 ∙ u.2))

  -- inside of a binder of a memory: each memory has a partner over longer lists of pairs
  module _ (vs : Vars) (inhabited : IsInhabited g.types) (free : are_free es vs ≡ true) (counted : AreCountedTypes vs) (typed : HaveTypes vs) (side : IsSide g h T (memory ∷ bs) (vs ∷ vss) x) (is_test : x.ty ≡ ty.Bool)
      (P : Pairing g.types h.types) (s r : State) (f : HasFirsts g.types h.types P.pairs x.opened) (m : HasRoom g.types h.types P.pairs (modules_read vs ++ x.quantified))
      (q : StateRelated g h P.pairs T bs vss s r) where
    in_memories : (Q : Pairing g.types h.types) → IsLonger g.types h.types P Q → HasRoom g.types h.types Q.pairs x.quantified → (n o : Memory) → ReadsRelated g.types h.types Q.pairs vs n o →
        truth (x.left.meaning (under s (bound_memory n))) ≡ truth (x.right.meaning (under r (bound_memory o)))
    in_memories Q longer room n o k =
        truth_related g.types h.types alike.sizes Q.pairs x.ty is_test (x.left.meaning (under s (bound_memory n))) (x.right.meaning (under r (bound_memory o)))
        (side.0 Q (under s (bound_memory n)) (under r (bound_memory o)) (firsts_longer g h T P Q longer x.opened f) room
        (state_inside g h T Q.pairs bs vss memory vs s r (bound_memory n) (bound_memory o) (state_longer g h T P Q longer bs vss s r q) k))

    pub memory_forth : (n : Memory) → (o : Memory) × (truth (x.left.meaning (under s (bound_memory n))) ≡ truth (x.right.meaning (under r (bound_memory o))))
    memory_forth n =
        let o = partner g.types h.types alike.sizes inhabited alike.inhabited alike.left_once alike.right_once es alike.right_apart vs free counted typed P n x.quantified m in
        (o.memory, in_memories o.pairing o.longer o.room n o.memory o.related)

    pub memory_back : (o : Memory) → (n : Memory) × (truth (x.left.meaning (under s (bound_memory n))) ≡ truth (x.right.meaning (under r (bound_memory o))))
    memory_back o =
        let n = copartner g.types h.types alike.sizes inhabited alike.inhabited alike.left_once alike.right_once es alike.left_apart vs free counted typed P o x.quantified m in
        (n.memory, in_memories n.pairing n.longer n.room n.memory o n.related)

  -- inside of a sum
  module _ (n : ℕ) (vs : Vars) (P : Pairing g.types h.types) (s r : State) (side : IsSide g h T (index n ∷ bs) (vs ∷ vss) x) (f : HasFirsts g.types h.types P.pairs x.opened) (m : HasRoom g.types h.types P.pairs x.quantified)
      (q : StateRelated g h P.pairs T bs vss s r) where
    summand : (i : ℕ) → i < n → MeaningRelated g.types h.types P.pairs x.ty (x.left.meaning (under s (bound_value (of_number i)))) (x.right.meaning (under r (bound_value (of_number i))))
    summand i l =
        side.0 P (under s (bound_value (of_number i))) (under r (bound_value (of_number i))) f m
        (state_inside g h T P.pairs bs vss (index n) vs s r (bound_value (of_number i)) (bound_value (of_number i)) q (i, l, refl, refl))

    pub sum_related : x.ty ≡ ty.Real →
        MeaningRelated g.types h.types P.pairs ty.Real (fraction (sum_below n (λ i. fraction_in (x.left.meaning (under s (bound_value (of_number i)))))))
        (fraction (sum_below n (λ i. fraction_in (x.right.meaning (under r (bound_value (of_number i)))))))
    sum_related e =
        let l : ℕ → Meaning = λ i. x.left.meaning (under s (bound_value (of_number i))) in
        let k : ℕ → Meaning = λ i. x.right.meaning (under r (bound_value (of_number i))) in (
          tt,
          sum_above n (λ i. fraction_in (l i)) (λ i b. fraction_above g.types x.ty (l i) (meaning_of g.types h.types alike.sizes P x.ty (l i) (k i) (summand i b))),
          sum_same n (λ i. fraction_in (l i)) (λ i. fraction_in (k i))
              (λ i b. ap fraction_in (meaning_equal g.types h.types alike.sizes P.pairs ty.Real tt (l i) (k i) (subst (λ z. MeaningRelated g.types h.types P.pairs z (l i) (k i)) e (summand i b)))),
        )
