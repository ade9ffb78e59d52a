-- Related states give a counted term related meanings.
use Rattle.std.proofs.Common.{◌≡◌, ◌↔◌, Bool, true, pos, Some, List, [], ◌∷◌, ◌++◌, map, refl, ap, sym, ◌∙◌, subst}
use Rattle.gb_core.specs.declared.ty.Ty.{Ty}
use Rattle.gb_core.specs.declared.ty.Ty.TheVariants as ty
use Rattle.gb_core.specs.declared.value.Value.{Value}
use Rattle.gb_dist.specs.WeightedList.{weight, bit, dmap}
use Rattle.gb_terms.specs.declared.term.Pair.{Pair}
use Rattle.gb_terms.specs.declared.term.Term.{Term, Term', Row_of-Term, end_of-Term, more_of-Term, end_of-Head, more_of-Head}
use Rattle.gb_terms.specs.declared.term.Head.{Head}
use Rattle.gb_terms.specs.declared.term.Head.TheVariants as head
use Rattle.gb_meaning.specs.Names.{Name}
use Rattle.gb_meaning.specs.Memory.{Memory}
use Rattle.gb_meaning.specs.Setting.{Meaning, Setting}
use Rattle.gb_meaning.specs.Setting.Meaning.{whole, fraction, weights}
use Rattle.gb_meaning.specs.Meanings.{of_truth, value_in, truth, weights_in}
use Rattle.gb_meaning.specs.Distributions.{stated, restricted}
use Rattle.gb_meaning.specs.Operators.{outcome_type, operated}
use Rattle.gb_meaning.specs.State.{State, under}
use Rattle.gb_meaning.specs.State.Binding.{memory as bound_memory}
use Rattle.gb_meaning.specs.Terms.{Speaks, Part, last_of, argument, at_value, at_head, val, parts}
use Rattle.gb_meaning.specs.Trees.{distributions}
use Rattle.gb_meaning.specs.Written.{type_of}
use Rattle.gb_meaning.proofs.Bools.{same_truth}
use Rattle.gb_meaning.proofs.Types.{values_finite}
use Rattle.gb_laws.specs.Finite.{IsFinite}
use Rattle.gb_laws.specs.Operators.{IsDistributionType, IsOperator}
use Rattle.gb_laws.specs.Context.{IsSettingOf}
use Rattle.gb_laws.specs.Typing.{OperatorType, Binder, Context, IsLiteral, AreLiterals, IsHead, inner, IsTyped, AreTyped}
use Rattle.gb_laws.specs.Typing as typing
use Rattle.gb_laws.specs.Typing.Binder.{value, index, memory}
use Rattle.gb_laws.proofs.Drawn.{typed_distribution}
use Rattle.gb_walk.specs.Clash.{Exclusions}
use Rattle.gb_labels.specs.Reads.{Vars, are_free}
use Rattle.gb_labels.specs.Things.{modules_of, reads_inside}
use Rattle.gb_closing_laws.specs.Pairs.{Pairing}
use Rattle.gb_closing_laws.specs.Related.{ReadTypes, Related, WeightsRelated, MeaningRelated, StateRelated}
use Rattle.gb_closing_laws.specs.Needs.{names_in, HasFirsts, HasRoom, quantified_at, quantified, opened_at, opened, AreCountedTypes, IsMadeOf, CountsAt, inside, Counts, AllCount}
use Rattle.gb_closing_laws.specs.Model.{AreAlike, AreApart, SaysOfMemories}
use Rattle.gb_closing_laws.proofs.Globless.{finite_globless}
use Rattle.gb_closing_laws.proofs.Relations.{related_itself}
use Rattle.gb_closing_laws.proofs.LabelMeanings.{meaning_itself, mass_related, dmap_related, restricted_related, weights_related, value_related}
use Rattle.gb_closing_laws.proofs.Room.{room_first, room_last}
use Rattle.gb_closing_laws.proofs.Firsts.{firsts_left, firsts_right}
use Rattle.gb_closing_laws.proofs.Operators.{operated_related, truths, at_type, of_row, lefts}
use Rattle.gb_closing_laws.proofs.TypedReads.{HaveTypes, inside_has}
use Rattle.gb_closing_laws.proofs.Partners.{modules_read}
use Rattle.gb_closing_laws.proofs.States.{bound_related, read_related}
use Rattle.gb_closing_laws.proofs.Denominators.{denominator_same}
use Rattle.gb_closing_laws.proofs.Sides.{Sides, tys, left_parts, right_parts, quantified_in, opened_in, IsSide, AreSides, both, both_types, both_lefts, both_rights, arguments_related, are_of, same_meanings, row_sides, row_types, row_lefts, row_rights, row_quantified, row_opened}
use Rattle.gb_closing_laws.proofs.Binders.{at_related, test_related, all_same, some_same, memory_forth, memory_back, sum_related}
use mathlib.Core.Former.{Count}

-- a quantifier over memories at these arguments says what it says
abbrev Says : Speaks → Term → Head → List Part → Type 0
Says j z head.AllMemory xs = (s : State) → (j.judged z s ≡ true) ↔ ((m : Memory) → truth ((last_of xs).meaning (under s (bound_memory m))) ≡ true)
Says j z head.SomeMemory xs = (s : State) → (j.judged z s ≡ true) ↔ ((m : Memory) × (truth ((last_of xs).meaning (under s (bound_memory m))) ≡ true))
Says j z _ xs = Unit {0}

says : (g : Setting) (j : Speaks) → SaysOfMemories g j → (p : _) (d : Head) (n : _) (ts : _) (a : Ty) → Says j (Term' p (more_of-Head d end_of-Head) n ts a) d (parts g j ts)
says g j w p head.AllMemory n ts a = w.all p n ts a
says g j w p head.SomeMemory n ts a = w.some p n ts a
says g j w p _ n ts a = tt

module _ {es : Exclusions} (c : Context) (g h : Setting) (i : IsSettingOf c g) (alike : AreAlike es g h) (apart : AreApart c) (T : ReadTypes) where
  literal_related : (P : Pairing g.types h.types) (a : Ty) (v : Value) → IsLiteral a v → Related g.types h.types P.pairs a v v
  literal_related P a v k = related_itself g.types h.types alike.sizes P.pairs a (finite_globless a k.0) v (subst (λ z. z.has v ≡ true) (sym (values_finite g.types a k.0)) k.1)

  stated_related : (P : Pairing g.types h.types) (a : Ty) (ps : List Pair) → AreLiterals a ps → WeightsRelated g.types h.types P.pairs a (stated ps) (stated ps)
  stated_related P a [] k = tt
  stated_related P a (p ∷ ps) k = ((literal_related P a p.value k.0, refl), stated_related P a ps k.1)

  module _ (j k : Speaks) (z : Term) (e : Context) (o : e.operator ≡ c.operator) (P : Pairing g.types h.types) (s r : State) (vss : List Vars) (q : StateRelated g h P.pairs T e.bound vss s r) where
    abbrev IsRoom : List Name → Type 0
    IsRoom ms = HasRoom g.types h.types P.pairs ms

    abbrev AreFirst : List Name → Type 0
    AreFirst ms = HasFirsts g.types h.types P.pairs ms

    abbrev Same : Ty → Meaning → Meaning → Type 0
    Same a x y = MeaningRelated g.types h.types P.pairs a x y

    builtin_related : (p : _) (a : Ty) (xs : List Sides) → AreSides g h T e.bound e.bound vss vss xs → IsOperator p (tys xs) a → IsMadeOf p a →
        AreFirst (opened_at (head.Builtin p) a ++ opened_in xs) → IsRoom (quantified_in xs) →
        Same a (operated g.types p a (map (argument s) (left_parts xs))) (operated h.types p a (map (argument r) (right_parts xs)))
    builtin_related p a xs w l m f n =
        subst (λ y. Same a (operated g.types p a y) (operated h.types p a (map (argument r) (right_parts xs)))) (both_lefts g h T s r xs)
        (subst (λ y. Same a (operated g.types p a (lefts (both g h T s r xs))) (operated h.types p a y)) (both_rights g h T s r xs)
        (operated_related g.types h.types alike.sizes i.inhabited P p a (both g h T s r xs)
        (arguments_related g h T P e.bound vss s r q xs w (firsts_right g.types h.types P.pairs (opened_at (head.Builtin p) a) (opened_in xs) f) n)
        (subst (λ y. IsOperator p y a) (sym (both_types g h T s r xs)) l) m (firsts_left g.types h.types P.pairs (opened_at (head.Builtin p) a) (opened_in xs) f)))

    user_related : (v : Name) (a : Ty) (xs : List Sides) → AreSides g h T e.bound e.bound vss vss xs → e.operator v ≡ Some (record { params = tys xs; result = a }) → AreFirst (opened_in xs) → IsRoom (quantified_in xs) →
        Same a (g.operator v (map (λ x. x.meaning s) (left_parts xs))) (h.operator v (map (λ x. x.meaning r) (right_parts xs)))
    user_related v a xs w l f n =
        let t : OperatorType = record { params = tys xs; result = a } in
        let there : c.operator v ≡ Some t = ap (λ y. y v) (sym o) ∙ l in
        let globs = apart v t there in
        let args = arguments_related g h T P e.bound vss s r q xs w f n in
        let same = same_meanings g h T alike P s r xs args globs.0 in
        let ms : List Meaning = map (λ x. x.meaning s) (left_parts xs) in
        subst (λ y. Same a (g.operator v ms) (h.operator v y)) same
        (subst (λ y. Same a (g.operator v ms) (y ms)) (alike.operators v).0
        (meaning_itself g.types h.types alike.sizes P.pairs a globs.1 (g.operator v ms) (i.operators v t there ms (are_of g h T alike P s r xs args))))

    same_truths : (a : Ty) (b d : Bool) → a ≡ ty.Bool → b ≡ d → Same a (of_truth b) (of_truth d)
    same_truths = truths g.types h.types alike.sizes i.inhabited P

    same_at : (a b : Ty) (x y : Meaning) → a ≡ b → Same a x y → Same b x y
    same_at = at_type g.types h.types alike.sizes i.inhabited P

    -- the needs of one argument, and of the second one of two
    alone : (ms : List Name) → IsRoom (ms ++ []) → IsRoom ms
    alone ms n = room_first g.types h.types P.pairs ms [] n

    alone_first : (ms : List Name) → AreFirst (ms ++ []) → AreFirst ms
    alone_first ms f = firsts_left g.types h.types P.pairs ms [] f

    one_room : (x y : Sides) → IsRoom (quantified_in (x ∷ y ∷ [])) → IsRoom x.quantified
    one_room x y n = room_first g.types h.types P.pairs x.quantified (y.quantified ++ []) n

    two_room : (x y : Sides) → IsRoom (quantified_in (x ∷ y ∷ [])) → IsRoom y.quantified
    two_room x y n = alone y.quantified (room_last g.types h.types P.pairs x.quantified (y.quantified ++ []) n)

    one_first : (x y : Sides) → AreFirst (opened_in (x ∷ y ∷ [])) → AreFirst x.opened
    one_first x y f = firsts_left g.types h.types P.pairs x.opened (y.opened ++ []) f

    two_first : (x y : Sides) → AreFirst (opened_in (x ∷ y ∷ [])) → AreFirst y.opened
    two_first x y f = alone_first y.opened (firsts_right g.types h.types P.pairs x.opened (y.opened ++ []) f)

    only_room : (ms ns : List Name) → IsRoom (ms ++ (ns ++ [])) → IsRoom (ms ++ ns)
    only_room ms ns n = subst (λ y. IsRoom (ms ++ y)) (nil_right ns) n
      where
        nil_right : (ns : List Name) → ns ++ [] ≡ ns
        nil_right [] = refl
        nil_right (m ∷ ns) = ap (λ y. m ∷ y) (nil_right ns)

    counted_room : (u : Ty) (ms ns : List Name) → modules_of u ≡ Some ms → IsRoom (names_in (modules_of u) ++ (ns ++ [])) → IsRoom (ms ++ ns)
    counted_room u ms ns l n = subst (λ y. IsRoom (y ++ ns)) (ap names_in l) (only_room (names_in (modules_of u)) ns n)

    -- besides what is read of a memory
    rest_room : (vs : Vars) (ns : List Name) → IsRoom (modules_read vs ++ ns) → IsRoom ns
    rest_room vs ns n = room_last g.types h.types P.pairs (modules_read vs) ns n

    mu_related : (vs : Vars) (x y : Sides) → IsSide g h T e.bound vss x → IsSide g h T (value (outcome_type x.ty) ∷ e.bound) (vs ∷ vss) y → IsDistributionType x.ty → y.ty ≡ ty.Bool →
        AreFirst (opened_in (x ∷ y ∷ [])) → IsRoom (quantified_in (x ∷ y ∷ [])) →
        Same ty.Real (fraction (pos (weight (weights_in (x.left.meaning s)) (λ v. truth (at_value y.left s v))), x.left.denominator))
        (fraction (pos (weight (weights_in (x.right.meaning r)) (λ v. truth (at_value y.right r v))), x.right.denominator))
    mu_related vs x y w l d b f n =
        let u = x.ty in
        let drawn = w.0 P s r (one_first x y f) (one_room x y n) q in
        let m =
        mass_related g.types h.types P.pairs (outcome_type u) (λ v. bit (truth (at_value y.left s v))) (λ v. bit (truth (at_value y.right r v)))
        (λ v v' k'. ap bit (test_related g h alike T e.bound vss y (outcome_type u) vs l b P s r (two_first x y f) (two_room x y n) q v v' k'))
        (weights_in (x.left.meaning s)) (weights_in (x.right.meaning r)) (weights_related g.types h.types P.pairs u (x.left.meaning s) (x.right.meaning r) drawn) in
        let over = w.1 in
        (tt, w.2 d, λ i'. (pos (m i'), over i'))

    map_related : (vs : Vars) (x y : Sides) → IsSide g h T e.bound vss x → IsSide g h T (value (outcome_type x.ty) ∷ e.bound) (vs ∷ vss) y → IsFinite y.ty → AreFirst (opened_in (x ∷ y ∷ [])) → IsRoom (quantified_in (x ∷ y ∷ [])) →
        Same (distributions y.ty) (weights (dmap (λ v. value_in (at_value y.left s v)) (weights_in (x.left.meaning s)))) (weights (dmap (λ v. value_in (at_value y.right r v)) (weights_in (x.right.meaning r))))
    map_related vs x y w l d f n = (
      tt,
      dmap_related g.types h.types P.pairs (outcome_type x.ty) y.ty (λ v. value_in (at_value y.left s v)) (λ v. value_in (at_value y.right r v))
          (λ v v' k'. value_related g.types h.types alike.sizes P y.ty d (at_value y.left s v) (at_value y.right r v')
          (at_related g h alike T e.bound vss y (outcome_type x.ty) vs l P s r (two_first x y f) (two_room x y n) q v v' k'))
          (weights_in (x.left.meaning s)) (weights_in (x.right.meaning r))
          (weights_related g.types h.types P.pairs x.ty (x.left.meaning s) (x.right.meaning r) (w.0 P s r (one_first x y f) (one_room x y n) q)),
    )

    restrict_related : (vs : Vars) (x y : Sides) → IsSide g h T e.bound vss x → IsSide g h T (value (outcome_type x.ty) ∷ e.bound) (vs ∷ vss) y → y.ty ≡ ty.Bool → AreFirst (opened_in (x ∷ y ∷ [])) → IsRoom (quantified_in (x ∷ y ∷ [])) →
        WeightsRelated g.types h.types P.pairs (outcome_type x.ty) (restricted (weights_in (x.left.meaning s)) (λ v. truth (at_value y.left s v))) (restricted (weights_in (x.right.meaning r)) (λ v. truth (at_value y.right r v)))
    restrict_related vs x y w l b f n =
        restricted_related g.types h.types P.pairs (outcome_type x.ty) (λ v. truth (at_value y.left s v)) (λ v. truth (at_value y.right r v))
        (λ v v' k'. test_related g h alike T e.bound vss y (outcome_type x.ty) vs l b P s r (two_first x y f) (two_room x y n) q v v' k')
        (weights_in (x.left.meaning s)) (weights_in (x.right.meaning r))
        (weights_related g.types h.types P.pairs x.ty (x.left.meaning s) (x.right.meaning r) (w.0 P s r (one_first x y f) (one_room x y n) q))

    module _ (vs : Vars) (typed : HaveTypes vs) (free : are_free es vs ≡ true) (counted : AreCountedTypes vs) (x : Sides) (w : IsSide g h T (memory ∷ e.bound) (vs ∷ vss) x) (b : x.ty ≡ ty.Bool)
        (f : AreFirst x.opened) (n : IsRoom (modules_read vs ++ x.quantified)) where
      forth : (m : Memory) → (m' : Memory) × (truth (x.left.meaning (under s (bound_memory m))) ≡ truth (x.right.meaning (under r (bound_memory m'))))
      forth = memory_forth g h alike T e.bound vss x vs i.inhabited free counted typed w b P s r f n q

      back : (m' : Memory) → (m : Memory) × (truth (x.left.meaning (under s (bound_memory m))) ≡ truth (x.right.meaning (under r (bound_memory m'))))
      back = memory_back g h alike T e.bound vss x vs i.inhabited free counted typed w b P s r f n q

      all_memory : Says j z head.AllMemory (x.left ∷ []) → Says k z head.AllMemory (x.right ∷ []) → j.judged z s ≡ k.judged z r
      all_memory u v =
          same_truth (j.judged z s) (k.judged z r)
          (λ d. (v r).1 (λ m'. let m = back m' in sym m.1 ∙ (u s).0 d m.0)) (λ d. (u s).1 (λ m. let m' = forth m in m'.1 ∙ (v r).0 d m'.0))

      some_memory : Says j z head.SomeMemory (x.left ∷ []) → Says k z head.SomeMemory (x.right ∷ []) → j.judged z s ≡ k.judged z r
      some_memory u v =
          same_truth (j.judged z s) (k.judged z r)
          (λ d. let m = (u s).0 d in let m' = forth m.0 in (v r).1 (m'.0, sym m'.1 ∙ m.1)) (λ d. let m' = (v r).0 d in let m = back m'.0 in (u s).1 (m.0, m.1 ∙ m'.1))

    module _ (vs : Vars) (typed : HaveTypes vs) where
      head_related : (d : Head) (a : Ty) (xs : List Sides) → AreSides g h T e.bound (inner e d (tys xs)).bound vss (inside d vs vss) xs → IsHead e d (tys xs) a → CountsAt es T vss d vs a → Says j z d (left_parts xs) →
          Says k z d (right_parts xs) → AreFirst (opened_at d a ++ opened_in xs) → IsRoom (quantified_at d vs ++ quantified_in xs) → Same a (at_head g j z d (left_parts xs) a s) (at_head h k z d (right_parts xs) a r)
      head_related (head.Lit v) a [] w l m u v' f n = literal_related P a v l
      head_related (head.Whole v) a [] w l m u v' f n = same_at ty.Int a (whole v) (whole v) (sym l) (tt, refl)
      head_related (head.Read x) a [] w l m u v' f n = read_related g h T P.pairs e vss s r x a q m l
      head_related (head.Bound x) a [] w l m u v' f n = bound_related g h T P.pairs e.bound vss s.bound r.bound x a q.bound l
      head_related (head.Builtin p) a xs w l m u v' f n = builtin_related p a xs w l m f (rest_room vs (quantified_in xs) n)
      head_related (head.User v) a xs w l m u v' f n = user_related v a xs w l f (rest_room vs (quantified_in xs) n)
      head_related (head.All b) a (x ∷ []) w l m u v' f n =
          same_truths a _ _ l.1.1.0 (all_same g h alike T e.bound vss x b vs w l.1.0 m.0 m.1 P s r (alone_first x.opened f) (counted_room b m.0 x.quantified m.1 n) q)
      head_related (head.Some b) a (x ∷ []) w l m u v' f n =
          same_truths a _ _ l.1.1.0 (some_same g h alike T e.bound vss x b vs w l.1.0 m.0 m.1 P s r (alone_first x.opened f) (counted_room b m.0 x.quantified m.1 n) q)
      head_related head.AllMemory a (x ∷ []) w l m u v' f n =
          same_truths a _ _ l.1.0 (all_memory vs typed m.0 m.1 x w l.0 (alone_first x.opened f) (only_room (modules_read vs) x.quantified n) u v')
      head_related head.SomeMemory a (x ∷ []) w l m u v' f n =
          same_truths a _ _ l.1.0 (some_memory vs typed m.0 m.1 x w l.0 (alone_first x.opened f) (only_room (modules_read vs) x.quantified n) u v')
      head_related head.Mu a (x ∷ y ∷ []) w l m u v' f n =
          same_at ty.Real a (at_head g j z head.Mu (x.left ∷ y.left ∷ []) a s) (at_head h k z head.Mu (x.right ∷ y.right ∷ []) a r) (sym l.2) (mu_related vs x y w.0 w.1 l.0 l.1 f (rest_room vs (quantified_in (x ∷ y ∷ [])) n))
      head_related (head.Sum b) a (x ∷ []) w l m u v' f n =
          same_at ty.Real a (at_head g j z (head.Sum b) (x.left ∷ []) a s) (at_head h k z (head.Sum b) (x.right ∷ []) a r) (sym l.1.1.0)
          (sum_related g h alike T e.bound vss x b vs P s r w (alone_first x.opened f) (alone x.quantified (rest_room vs (quantified_in (x ∷ [])) n)) q l.1.0)
      head_related (head.Weights ps) a [] w l m u v' f n = of_row g.types h.types alike.sizes i.inhabited P a l.0 (stated ps) (stated ps) (stated_related P (outcome_type a) ps l.1)
      head_related head.Map a (x ∷ y ∷ []) w l m u v' f n =
          same_at (distributions y.ty) a (at_head g j z head.Map (x.left ∷ y.left ∷ []) a s) (at_head h k z head.Map (x.right ∷ y.right ∷ []) a r) (sym l.2)
          (map_related vs x y w.0 w.1 l.1 f (rest_room vs (quantified_in (x ∷ y ∷ [])) n))
      head_related head.Restrict a (x ∷ y ∷ []) w l m u v' f n =
          of_row g.types h.types alike.sizes i.inhabited P a l.0 _ _
          (subst (λ b. WeightsRelated g.types h.types P.pairs (outcome_type b) (restricted (weights_in (x.left.meaning s)) (λ v. truth (at_value y.left s v))) (restricted (weights_in (x.right.meaning r)) (λ v. truth (at_value y.right r v)))) l.1
          (restrict_related vs x y w.0 w.1 l.2 f (rest_room vs (quantified_in (x ∷ y ∷ [])) n)))
      head_related (head.AllModule b) a xs w l m u v' f n = absurd m
      head_related (head.Pr p b) a xs w l m u v' f n = absurd m
      head_related (head.Glob b p) a xs w l m u v' f n = absurd m
      head_related (head.Hoare b) a xs w l m u v' f n = absurd m
      head_related (head.Phoare b p) a xs w l m u v' f n = absurd m
      head_related (head.Equiv b p) a xs w l m u v' f n = absurd m
      head_related _ a xs w l m u v' f n = absurd l

  module _ (j k : Speaks) (sj : SaysOfMemories g j) (sk : SaysOfMemories h k) where
    mutual
      pub term_related : (t : Term) (e : Context) (vss : List Vars) → e.operator ≡ c.operator → IsTyped e t → Counts es T vss t → (P : Pairing g.types h.types) (s r : State) →
          HasFirsts g.types h.types P.pairs (opened t) → HasRoom g.types h.types P.pairs (quantified t) → StateRelated g h P.pairs T e.bound vss s r →
          MeaningRelated g.types h.types P.pairs (type_of t) (val g j t s) (val h k t r)
      term_related (Term' p (more_of-Head d end_of-Head) n ts a) e vss o w m P s r f b q =
          let z = Term' p (more_of-Head d end_of-Head) n ts a in
          let xs = row_sides g h j k ts in
          let vs = reads_inside d ts in
          subst (λ y. MeaningRelated g.types h.types P.pairs a (at_head g j z d y a s) (at_head h k z d (parts h k ts) a r)) (row_lefts g h j k ts)
          (subst (λ y. MeaningRelated g.types h.types P.pairs a (at_head g j z d (left_parts xs) a s) (at_head h k z d y a r)) (row_rights g h j k ts)
          (head_related j k z e o P s r vss q vs (inside_has d ts e (inner e d (typing.types_of ts)) w.1) d a xs
          (subst (λ y. AreSides g h T e.bound (inner e d y).bound vss (inside d vs vss) xs) (row_types g h j k ts) (row_related ts e (inner e d (typing.types_of ts)) vss (inside d vs vss) o o w.1 m.1))
          (subst (λ y. IsHead e d y a) (row_types g h j k ts) w.0) m.0
          (subst (Says j z d) (sym (row_lefts g h j k ts)) (says g j sj p d n ts a))
          (subst (Says k z d) (sym (row_rights g h j k ts)) (says h k sk p d n ts a))
          (subst (λ y. HasFirsts g.types h.types P.pairs (opened_at d a ++ y)) (row_opened g h j k ts) f)
          (subst (λ y. HasRoom g.types h.types P.pairs (quantified_at d vs ++ y)) (row_quantified g h j k ts) b)))

      row_related : {n : Count} (ts : Row_of-Term n) (e d : Context) (vss wss : List Vars) → e.operator ≡ c.operator → d.operator ≡ c.operator → AreTyped e d ts → AllCount es T vss wss ts →
          AreSides g h T e.bound d.bound vss wss (row_sides g h j k ts)
      row_related end_of-Term e d vss wss o y w m = tt
      row_related (more_of-Term t end_of-Term) e d vss wss o y w m = (term_related t d wss y w m, denominator_same g h alike T t wss m, λ l. (typed_distribution c g i t d y w l).positive)
      row_related (more_of-Term t (more_of-Term v ts)) e d vss wss o y w m = (
        (term_related t e vss o w.0 m.0, denominator_same g h alike T t vss m.0, λ l. (typed_distribution c g i t e o w.0 l).positive),
        row_related (more_of-Term v ts) e d vss wss o y w.1 m.1,
      )
