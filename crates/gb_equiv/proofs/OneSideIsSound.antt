-- `rnd{1}` and `rnd{2}` are sound.
use Rattle.std.proofs.Common.{◌≡◌, ◌*ℤ◌, ℕ, pos, nat_abs, Bool, true, false, if◌then◌else◌, List, [], ◌∷◌, append-nil, Option, Some, None, refl, ap, sym, ◌∙◌, subst, arith}
use Rattle.std.specs.List.{AllByRecursion}
use Rattle.std.specs.Option.{option_map}
use Rattle.std.proofs.Math.IntN.{pos-*ℤ-pos}
use Rattle.std.proofs.lemmas.Bool.Decides.{Decides-int_eq}
use Rattle.gb_core.specs.declared.refusal.Why.TheVariants.{Shape, SideCondition}
use Rattle.gb_core.specs.declared.ty.Ty.TheVariants as ty
use Rattle.gb_core.specs.declared.value.Value.{Value}
use Rattle.gb_core.specs.declared.value.Value.TheVariants.{Num}
use Rattle.gb_core.specs.declared.var.Var.{Var}
use Rattle.gb_terms.specs.declared.decl.TypedName.{TypedName}
use Rattle.gb_terms.specs.declared.op.Rel.TheVariants.{Equal}
use Rattle.gb_terms.specs.declared.op.Side.{Side}
use Rattle.gb_terms.specs.declared.op.Side.TheVariants as side
use Rattle.gb_terms.specs.declared.term.Term.{Term}
use Rattle.gb_terms.specs.declared.term.Head.TheVariants as head
use Rattle.gb_terms.specs.declared.term.Instr.{Instr}
use Rattle.gb_terms.specs.Make.{truth_literal}
use Rattle.gb_dist.specs.WeightedList.{WeightedList, Every, IsInSupport, bit, total, weight, unit}
use Rattle.gb_dist.specs.Coupling.{Coupling}
use Rattle.gb_dist.proofs.Basic.{coupling_left_alone, coupling_right_alone}
use Rattle.gb_dist.proofs.Entries.{Every-dmap, Every_of_On}
use Rattle.gb_dist.proofs.Indicators.{On_of_support}
use Rattle.gb_dist.proofs.Masses.{mass-dmap, mass-same}
use Rattle.gb_meaning.specs.Commands.{statements}
use Rattle.gb_meaning.specs.Memory.{Memory, write}
use Rattle.gb_meaning.specs.Meanings.{truth, value_in, weights_in}
use Rattle.gb_meaning.specs.Setting.{Setting}
use Rattle.gb_meaning.specs.Setting.Meaning.{finite, fraction}
use Rattle.gb_meaning.specs.Sound.{IsSound}
use Rattle.gb_meaning.specs.State.{State, between, inside, under, memory_of}
use Rattle.gb_meaning.specs.State.Binding.{value as value_bound}
use Rattle.gb_meaning.specs.Trees.{distributions}
use Rattle.gb_meaning.specs.Terms.{quiet, val, distribution, denominator as term_denominator}
use Rattle.gb_meaning.specs.Judgments.{Judge, IsFair, speaking, IsTrueUnder, den}
use Rattle.gb_meaning.proofs.Nodes.{val_node}
use Rattle.gb_meaning.proofs.Runs.{run_positive}
use Rattle.gb_meaning.proofs.Totals.{run_total}
use Rattle.gb_meaning.proofs.Values.{value_discrete}
use Rattle.gb_meaning.proofs.Truths.{truth_of}
use Rattle.gb_laws.specs.Uses.{IsWithin}
use Rattle.gb_laws.specs.Written.{Written, IsSide, with_side}
use Rattle.gb_laws.proofs.Puts.{plain_node}
use Rattle.gb_laws.specs.Typing.Binder.{value}
use Rattle.gb_laws.proofs.Nodes.{type_of_node}
use Rattle.gb_typing.specs.Context.{Context, frame_of, within}
use Rattle.gb_typing.specs.Typing.{IsForm}
use Rattle.gb_typing.specs.Fits.{IsSettingOf, IsStateOf}
use Rattle.gb_typing.specs.Puts.{Readable, reading, IsPutFor}
use Rattle.gb_typing.proofs.Clashes.{left_of_no_clash}
use Rattle.gb_typing.proofs.Fitting.{fits_reframed, state_between}
use Rattle.gb_goal.specs.Answers.Answer.{given}
use Rattle.gb_goal.specs.Goal.{Goal}
use Rattle.gb_goal.specs.Goal.Code.{body, procedure}
use Rattle.gb_goal.specs.Goal.Goal.{hoare, phoare, equiv, ambient}
use Rattle.gb_walk.specs.Clash.{first_clash}
use Rattle.gb_steps.specs.declared.step.Acts.{Acts}
use Rattle.gb_steps.specs.declared.step.Acts.TheVariants as on
use Rattle.gb_typing.specs.Forms.{IsAlone, and_form, located}
use Rattle.gb_typing.specs.Meaning.{run, denominator}
use Rattle.gb_goal.specs.Scope.{Declarations}
use Rattle.gb_mods.specs.Exclusions.{exclusions}
use Rattle.gb_prog.proofs.KeptOff.{kept_off}
use Rattle.gb_goal.specs.declared.sequent.Sequent.{Sequent}
use Rattle.gb_meaning.specs.Declared.{declared}
use Rattle.gb_typing.specs.Rules.{outermost, ImpliesIn, IsSettingOver, IsSoundRuleIn, no_arguments}
use Rattle.gb_typing.specs.Scopes.{context_of, IsTypedScope}
use Rattle.gb_typing.specs.Sequents.{of_sequent, two, IsTypedSequent}
use Rattle.gb_typing.specs.Samplings.{Sampling, last_sampling}
use Rattle.gb_typing.specs.Supports.{nearest}
use Rattle.gb_typing.specs.Goals.{IsGoalOver, IsTypedGoal}
use Rattle.gb_typing.proofs.ClashFree.{one_clear}
use Rattle.gb_typing.proofs.Forms.{and_typed, and_use}
use Rattle.gb_typing.proofs.Given.{refused_given, same_given}
use Rattle.gb_typing.proofs.InMemory.{located_typed, located_value}
use Rattle.gb_typing.proofs.Literals.{bool_literal}
use Rattle.gb_typing.proofs.Made.{made_node}
use Rattle.gb_typing.proofs.Quantified.{inner_typed, inner_meaning}
use Rattle.gb_typing.proofs.Runs.{coupled_in_turn}
use Rattle.gb_typing.proofs.LastSampling.{IsDrawn, drawn, last_one}
use Rattle.gb_typing.proofs.Supported.{nearest_made, for_support_made, for_support_use, draws, drawn_typed, run_sampling, sampling_denominator, located_denominator, from_made, target_put, from_weights}
use Rattle.gb_prog.proofs.Couplings.{run_entries_in}
use Rattle.gb_prog.specs.Compared.{one}
use Rattle.gb_full.specs.Loss.{may_lose}
use Rattle.gb_prog.proofs.Comparing.{number_made, compared_typed, number_is, compared_is}
use Rattle.gb_full.proofs.Full.{full_term}
use Rattle.gb_full.proofs.Operators.{AreFullOperators, scope_full}
use Rattle.gb_equiv.specs.Drawn.{unless_clash}
use Rattle.gb_forms.specs.Surely.{drawing, surely_drawn}
use Rattle.gb_equiv.specs.OneSide.{with_value, each_drawn, before_drawing, by_end, drawn_row}

literal_says : (g : Setting) (j : Judge) (s : State) → den g j (truth_literal true) s ≡ true
literal_says g j s = ap truth (val_node g (speaking g j) (head.Lit (Num 1)) [] ty.Bool s) ∙ truth_of true

-- The goals are typed, and imply the goal in the settings of the declarations.
abbrev AreSoundIn : Declarations → Context → Goal → List Goal → Type 0
AreSoundIn ds c G Gs = AllByRecursion (IsTypedGoal c) Gs × ImpliesIn (declared ds) c Gs G

module _ (ds : Declarations) (scoped : IsTypedScope (declared ds)) (b : Context) (operators : (g : Setting) → IsSettingOf (outermost b) g → IsSettingOver (declared ds) g → AreFullOperators ds g (outermost b)) (ls rs : List TypedName) where
  abbrev c : Context
  c = outermost b

  abbrev goal : Context
  goal = two c ls rs

  -- a sampling that ends the body on a side
  module _ (r : Side) (i : IsSide r) (ks : List TypedName) (frame : frame_of goal r ≡ Some ks) (x : Sampling)
      (frame_there : frame_of (within goal (value x.ty) None) r ≡ Some ks) (is : List Instr) (dx : IsDrawn c ks is x) where
    abbrev inner : Context
    inner = within goal (value x.ty) None

    put : IsPutFor inner x.target r (nearest x.ty)
    put =
        target_put c ks None (Some ls) (Some rs) x.ty r i frame_there x.target x.ty dx.target dx.finite (nearest x.ty) (plain_node (head.Bound 0) [] x.ty tt tt)
        (type_of_node (head.Bound 0) [] x.ty) (λ o l k keeps. let m = nearest_made goal x.ty dx.finite o l k in m.typed)

    abbrev writes : Value → List Written
    writes v = record { variable = x.target; side = r; term = nearest x.ty; value = v } ∷ []

    each_typed : (q : Term) → IsForm goal q → IsForm goal (each_drawn r x q)
    each_typed q w =
        let m = inner_typed b None (Some ls) (Some rs) x.ty q w.typed (writes (Num 0)) (put, tt) in
        for_support_made goal x.ty (located r x.from) (with_value r x q) dx.finite (nearest_made goal x.ty dx.finite None (Some ls) (Some rs))
        (from_made c ks None (Some ls) (Some rs) x.ty x.from dx.from x.ty dx.over r i frame_there) (record { typed = m.typed; truth = m.written ∙ w.truth })

    surely_typed : IsForm goal (surely_drawn r x)
    surely_typed =
        let d = located_typed c ks x.from dx.from None (Some ls) (Some rs) r i frame in
        compared_typed goal Equal (drawing r x) one
        (made_node goal head.Mu (distributions x.ty ∷ ty.Bool ∷ []) (located r x.from ∷ truth_literal true ∷ []) ty.Real (dx.finite, refl, refl) tt []
        (record { typed = d.typed; written = d.written ∙ dx.over }, made_node inner (head.Lit (Num 1)) [] [] ty.Bool (bool_literal 1 (omega arith)) tt [] tt))
        (number_made goal (pos 1))

    before_typed : (q : Term) → IsForm goal q → IsForm goal (before_drawing ds r x q)
    before_typed q w = by_test (may_lose ds x.from)
      where
        by_test : (t : Bool) → IsForm goal (if t then and_form (surely_drawn r x) (each_drawn r x q) else each_drawn r x q)
        by_test true = and_typed goal (surely_drawn r x) (each_drawn r x q) surely_typed (each_typed q w)
        by_test false = each_typed q w

    module _ (g : Setting) (fits : IsSettingOf c g) (over : IsSettingOver (declared ds) g) (j : Judge) (fair : IsFair g j) (s : State) (fit : IsStateOf c g s) (a d : Memory) where
      abbrev start : State
      start = between s a d

      abbrev m : Memory
      m = memory_of start r

      abbrev here : Value → State
      here v = under start (value_bound (finite v))

      abbrev values : WeightedList Value
      values = distribution g x.from (inside s m)

      sampled_sound : IsSound g (statements g (last_one x))
      sampled_sound = (draws c ks x.from dx.from x.ty dx.over dx.distributed g fits, tt)

      module _ (q : Term) (form : IsForm goal q) (P : Readable) (reads : IsWithin (reading P) q) (alone : IsAlone g x.target (P r)) (each : den g j (each_drawn r x q) start ≡ true) where
        of_value : (v : Value) → IsInSupport value_discrete values v → IsTrueUnder g j q (with_side start r (write g.types m x.target v))
        of_value v k =
            let typed = drawn_typed c ks x.from dx.from x.ty dx.over dx.distributed g fits s m v k in
            sym (ap truth (inner_meaning b None (Some ls) (Some rs) x.ty g (fits_reframed c g fits None (Some ls) (Some rs)) start (state_between c g s fit None (Some ls) (Some rs) a d) v typed j fair P q form.typed reads (writes v) (
              record { put = put; spares = λ z t o p n e. left_of_no_clash g x.target z t (alone z p n); value = sym (ap value_in (val_node g quiet (head.Bound 0) [] x.ty (here v))) },
              tt,
            )))
            ∙ for_support_use g j start x.ty (located r x.from) (with_value r x q) values each v typed (from_weights c ks x.from dx.from g j start r i v) k

        each_after : Every (λ n. IsTrueUnder g j q (with_side start r n)) (run g s (last_one x) m)
        each_after =
            let l = draws c ks x.from dx.from x.ty dx.over dx.distributed g fits in
            subst (Every (λ n. IsTrueUnder g j q (with_side start r n))) (sym (run_sampling g s x.target x.from m))
            (Every-dmap {P = IsInSupport value_discrete values} (λ n. IsTrueUnder g j q (with_side start r n)) (write g.types m x.target) values of_value
            (Every_of_On (IsInSupport value_discrete values) values (On_of_support value_discrete (IsInSupport value_discrete values) values (l.entries (inside s m)) (λ v k. k))))

      drawing_is : val g (speaking g j) (drawing r x) start ≡ fraction (pos (total values), term_denominator g x.from)
      drawing_is =
          let values_are : weights_in (val g (speaking g j) (located r x.from) start) ≡ values = ap weights_in (located_value c ks x.from dx.from g (speaking g j) start r i) in
          val_node g (speaking g j) head.Mu (located r x.from ∷ truth_literal true ∷ []) ty.Real start
          ∙ (λ k. fraction (pos (weight (values_are k) (λ v. den g j (truth_literal true) (here v))), located_denominator g r x.from k))
          ∙ ap (λ n. fraction (pos n, term_denominator g x.from)) (mass-same values (λ v. bit (den g j (truth_literal true) (here v))) (λ v. 1) (λ v. ap bit (literal_says g j (here v))))

      -- where it is said that some value is drawn, no weight is lost
      whole : den g j (surely_drawn r x) start ≡ true → total values ≡ term_denominator g x.from
      whole h =
          let n : ℕ = total values in
          let k : ℕ = term_denominator g x.from in
          let e : pos n *ℤ pos 1 ≡ pos 1 *ℤ pos k = (Decides-int_eq _ _).0 (sym (compared_is g j start Equal (drawing r x) one (pos n, k) (pos 1, 1) drawing_is (number_is g j start (pos 1))) ∙ h) in
          omega (arith, ap nat_abs (sym (pos-*ℤ-pos n 1) ∙ e ∙ pos-*ℤ-pos 1 k))

      total_after : total values ≡ term_denominator g x.from → total (run g s (last_one x) m) ≡ denominator g (last_one x)
      total_after e = ap total (run_sampling g s x.target x.from m) ∙ mass-dmap (write g.types m x.target) values (λ n. 1) ∙ e ∙ sym (sampling_denominator g x.target x.from)

      -- a distribution that may lose no weight has the whole weight
      total_one : may_lose ds x.from ≡ false → total (run g s (last_one x) m) ≡ denominator g (last_one x)
      total_one e = run_total g s (statements g (last_one x)) (full_term ds c g fits (operators g fits over) ks x.from dx.from dx.distributed e, tt) m

      -- what stands before the sampling says that no weight is lost, and that the postcondition holds of each value
      both : (q : Term) → den g j (before_drawing ds r x q) start ≡ true → (total (run g s (last_one x) m) ≡ denominator g (last_one x)) × (den g j (each_drawn r x q) start ≡ true)
      both q h = by_test (may_lose ds x.from) refl h
        where
          by_test : (t : Bool) → may_lose ds x.from ≡ t → den g j (if t then and_form (surely_drawn r x) (each_drawn r x q) else each_drawn r x q) start ≡ true →
              (total (run g s (last_one x) m) ≡ denominator g (last_one x)) × (den g j (each_drawn r x q) start ≡ true)
          by_test true e h = let k = and_use g j (surely_drawn r x) (each_drawn r x q) start h in (total_after (whole k.0), k.1)
          by_test false e h = (total_one e, h)

  -- the left body
  module _ (is js : List Instr) (x : Sampling) (dx : IsDrawn c ls is x) where
    left_alone : (g : Setting) → IsSettingOf c g → IsSettingOver (declared ds) g → (j : Judge) → IsFair g j → (s : State) → IsStateOf c g s → (a d : Memory) → (q : Term) → IsForm goal q → first_clash (exclusions ds) side.Left x.target q ≡ None →
        IsTrueUnder g j (before_drawing ds side.Left x q) (between s a d) → Coupling (λ m n. IsTrueUnder g j q (between s m n)) (run g s (last_one x) a) (denominator g (last_one x)) (unit d) 1
    left_alone g fits over j fair s fit a d q w e t =
        let clear = one_clear (exclusions ds) goal q w.typed side.Left tt x.target e in
        let k = both side.Left tt ls refl x refl is dx g fits over j fair s fit a d q t in
        let sound : IsSound g (statements g (last_one x)) = sampled_sound side.Left tt ls refl x refl is dx g fits over j fair s fit a d in
        coupling_left_alone (λ m. IsTrueUnder g j q (between s m d)) (λ m n. IsTrueUnder g j q (between s m n)) (run g s (last_one x) a) (denominator g (last_one x)) d
        (run_positive g (statements g (last_one x)) sound) k.0
        (run_entries_in g s (λ m. IsTrueUnder g j q (between s m d)) (statements g (last_one x)) sound a
        (each_after side.Left tt ls refl x refl is dx g fits over j fair s fit a d q w clear.0 clear.1 (clear.2 g (kept_off ds scoped g over)) k.1)) (λ m p. p)

    left_implied : (p q : Term) → IsForm goal q → first_clash (exclusions ds) side.Left x.target q ≡ None → ImpliesIn (declared ds) c (equiv (body x.before) (body js) p (before_drawing ds side.Left x q) ∷ []) (equiv (body is) (body js) p q)
    left_implied p q w e g fits over j fair s fit h m n z =
        coupled_in_turn g s (λ a d. IsTrueUnder g j q (between s a d)) (λ a d. IsTrueUnder g j (before_drawing ds side.Left x q) (between s a d)) is js x.before (last_one x) js []
        dx.shape (sym (append-nil js)) m n (h.0 m n z) (λ a d t. left_alone g fits over j fair s fit a d q w e t)

  -- the right body
  module _ (is js : List Instr) (y : Sampling) (dy : IsDrawn c rs js y) where
    right_alone : (g : Setting) → IsSettingOf c g → IsSettingOver (declared ds) g → (j : Judge) → IsFair g j → (s : State) → IsStateOf c g s → (a d : Memory) → (q : Term) → IsForm goal q → first_clash (exclusions ds) side.Right y.target q ≡ None →
        IsTrueUnder g j (before_drawing ds side.Right y q) (between s a d) → Coupling (λ m n. IsTrueUnder g j q (between s m n)) (unit a) 1 (run g s (last_one y) d) (denominator g (last_one y))
    right_alone g fits over j fair s fit a d q w e t =
        let clear = one_clear (exclusions ds) goal q w.typed side.Right tt y.target e in
        let k = both side.Right tt rs refl y refl js dy g fits over j fair s fit a d q t in
        let sound : IsSound g (statements g (last_one y)) = sampled_sound side.Right tt rs refl y refl js dy g fits over j fair s fit a d in
        coupling_right_alone (λ n. IsTrueUnder g j q (between s a n)) (λ m n. IsTrueUnder g j q (between s m n)) (run g s (last_one y) d) (denominator g (last_one y)) a
        (run_positive g (statements g (last_one y)) sound) k.0
        (run_entries_in g s (λ n. IsTrueUnder g j q (between s a n)) (statements g (last_one y)) sound d
        (each_after side.Right tt rs refl y refl js dy g fits over j fair s fit a d q w clear.0 clear.1 (clear.2 g (kept_off ds scoped g over)) k.1)) (λ n p. p)

    right_implied : (p q : Term) → IsForm goal q → first_clash (exclusions ds) side.Right y.target q ≡ None → ImpliesIn (declared ds) c (equiv (body is) (body y.before) p (before_drawing ds side.Right y q) ∷ []) (equiv (body is) (body js) p q)
    right_implied p q w e g fits over j fair s fit h m n z =
        coupled_in_turn g s (λ a d. IsTrueUnder g j q (between s a d)) (λ a d. IsTrueUnder g j (before_drawing ds side.Right y q) (between s a d)) is js is [] y.before (last_one y)
        (sym (append-nil is)) dy.shape m n (h.0 m n z) (λ a d t. right_alone g fits over j fair s fit a d q w e t)

  module _ (is js : List Instr) (p q : Term) (w : IsGoalOver c ls rs (equiv (body is) (body js) p q)) (Gs : List Goal) where
    abbrev Sound : Type 0
    Sound = AreSoundIn ds c (equiv (body is) (body js) p q) Gs

    left_sound : (o : Option Sampling) → last_sampling is ≡ o → by_end ds (record { side = side.Left; list = is; pre = p; post = q; goal = λ is p q. equiv (body is) (body js) p q }) o ≡ given Gs → Sound
    left_sound None ex f = refused_given Shape Gs f
    left_sound (Some x) ex f = checked (first_clash (exclusions ds) side.Left x.target q) refl f
      where
        checked : (u : Option Var) → first_clash (exclusions ds) side.Left x.target q ≡ u → unless_clash (option_map (λ z. x.target) u) (equiv (body x.before) (body js) p (before_drawing ds side.Left x q)) ≡ given Gs → Sound
        checked (Some z) e f = refused_given (SideCondition x.target) Gs f
        checked None e f =
            let dx = drawn c ls is x w.1 ex in
            subst (AreSoundIn ds c (equiv (body is) (body js) p q)) (same_given (equiv (body x.before) (body js) p (before_drawing ds side.Left x q) ∷ []) Gs f)
            (((ls, rs, (tt, dx.rest, w.2, w.3, before_typed side.Left tt ls refl x refl is dx q w.4)), tt), left_implied is js x dx p q w.4 e)

    right_sound : (o : Option Sampling) → last_sampling js ≡ o → by_end ds (record { side = side.Right; list = js; pre = p; post = q; goal = λ js p q. equiv (body is) (body js) p q }) o ≡ given Gs → Sound
    right_sound None ey f = refused_given Shape Gs f
    right_sound (Some y) ey f = checked (first_clash (exclusions ds) side.Right y.target q) refl f
      where
        checked : (u : Option Var) → first_clash (exclusions ds) side.Right y.target q ≡ u → unless_clash (option_map (λ z. y.target) u) (equiv (body is) (body y.before) p (before_drawing ds side.Right y q)) ≡ given Gs → Sound
        checked (Some z) e f = refused_given (SideCondition y.target) Gs f
        checked None e f =
            let dy = drawn c rs js y w.2 ey in
            subst (AreSoundIn ds c (equiv (body is) (body js) p q)) (same_given (equiv (body is) (body y.before) p (before_drawing ds side.Right y q) ∷ []) Gs f)
            (((ls, rs, (tt, w.1, dy.rest, w.3, before_typed side.Right tt rs refl y refl js dy q w.4)), tt), right_implied is js y dy p q w.4 e)

module _ (ds : Declarations) (scoped : IsTypedScope (declared ds)) (h : Sequent) (t : IsTypedSequent (context_of (declared ds)) h) where
  abbrev around : Context
  around = of_sequent (context_of (declared ds)) h t.frames

  operators : around ≡ outermost around → (g : Setting) → IsSettingOf (outermost around) g → IsSettingOver (declared ds) g → AreFullOperators ds g (outermost around)
  operators outer g fits over =
      let w : IsSettingOf around g = subst (λ c. IsSettingOf c g) (sym outer) fits in
      subst (AreFullOperators ds g) outer (scope_full ds scoped h t.frames g w.types over)

  pub sound : (a : Acts) → IsSoundRuleIn (declared ds) around (drawn_row ds a) no_arguments
  sound on.Left outer ls rs (equiv (body is) (body js) p q) w k Gs e =
      let G = equiv (body is) (body js) p q in
      subst (λ c. AreSoundIn ds c G Gs) (sym outer) (left_sound ds scoped around (operators outer) ls rs is js p q (subst (λ c. IsGoalOver c ls rs G) outer w) Gs (last_sampling is) refl e)
  sound on.Right outer ls rs (equiv (body is) (body js) p q) w k Gs e =
      let G = equiv (body is) (body js) p q in
      subst (λ c. AreSoundIn ds c G Gs) (sym outer) (right_sound ds scoped around (operators outer) ls rs is js p q (subst (λ c. IsGoalOver c ls rs G) outer w) Gs (last_sampling js) refl e)
  sound on.All outer ls rs G w k Gs e = refused_given Shape Gs e
  sound on.Left outer ls rs (equiv (procedure f) d p q) w k Gs e = refused_given Shape Gs e
  sound on.Left outer ls rs (equiv (body is) (procedure f) p q) w k Gs e = refused_given Shape Gs e
  sound on.Left outer ls rs (hoare d p q) w k Gs e = refused_given Shape Gs e
  sound on.Left outer ls rs (phoare d o p q t) w k Gs e = refused_given Shape Gs e
  sound on.Left outer ls rs (ambient f) w k Gs e = refused_given Shape Gs e
  sound on.Right outer ls rs (equiv (procedure f) d p q) w k Gs e = refused_given Shape Gs e
  sound on.Right outer ls rs (equiv (body is) (procedure f) p q) w k Gs e = refused_given Shape Gs e
  sound on.Right outer ls rs (hoare d p q) w k Gs e = refused_given Shape Gs e
  sound on.Right outer ls rs (phoare d o p q t) w k Gs e = refused_given Shape Gs e
  sound on.Right outer ls rs (ambient f) w k Gs e = refused_given Shape Gs e
