-- `rnd` is sound.
use Rattle.std.proofs.Common.{◌≡◌, ◌*◌, true, List, [], ◌∷◌, Option, Some, None, if◌then◌else◌, Bool, refl, ap, sym, ◌∙◌, subst}
use Rattle.std.specs.Option.{option_map, option_or, option_zip}
use Rattle.std.proofs.lemmas.Option.{same_Some, none-some}
use Rattle.gb_core.specs.declared.refusal.Why.TheVariants.{Shape, SideCondition}
use Rattle.gb_core.specs.declared.ty.Ty.{Ty}
use Rattle.gb_core.specs.declared.value.Value.{Value}
use Rattle.gb_core.specs.declared.value.Value.TheVariants.{Num}
use Rattle.gb_core.specs.declared.var.Var.{Var}
use Rattle.gb_core.specs.SameTypes.{ty_eq}
use Rattle.gb_core.proofs.SameTypes.{ty_eq-Decides}
use Rattle.gb_terms.specs.declared.decl.TypedName.{TypedName}
use Rattle.gb_terms.specs.declared.module.ProcRef.{ProcRef}
use Rattle.gb_terms.specs.declared.op.Side.TheVariants as side
use Rattle.gb_terms.specs.declared.term.Term.{Term}
use Rattle.gb_terms.specs.declared.term.Head.TheVariants as head
use Rattle.gb_terms.specs.declared.term.Instr.{Instr}
use Rattle.gb_dist.specs.WeightedList.{WeightedList, weight_at, IsInSupport}
use Rattle.gb_dist.specs.Coupling.{Coupling}
use Rattle.gb_dist.proofs.Basic.{coupling_dmap}
use Rattle.gb_dist.proofs.Bijection.{coupling_bijection}
use Rattle.gb_meaning.specs.Values.{has}
use Rattle.gb_meaning.specs.Memory.{Memory, write}
use Rattle.gb_meaning.specs.Meanings.{truth, value_in, weights_in}
use Rattle.gb_meaning.specs.Setting.{Setting}
use Rattle.gb_meaning.specs.Setting.Meaning.{finite}
use Rattle.gb_meaning.specs.State.{State, between, inside, under}
use Rattle.gb_meaning.specs.State.Binding.{value as value_bound}
use Rattle.gb_meaning.specs.Trees.{distributions}
use Rattle.gb_meaning.specs.Terms.{quiet, val, denominator, distribution}
use Rattle.gb_meaning.specs.Judgments.{Judge, IsFair, speaking, IsTrueUnder, den}
use Rattle.gb_meaning.proofs.Nodes.{val_node}
use Rattle.gb_meaning.proofs.Values.{value_discrete}
use Rattle.gb_meaning.proofs.Truths.{true_equal}
use Rattle.gb_laws.specs.Uses.{IsWithin}
use Rattle.gb_laws.specs.Written.{Written}
use Rattle.gb_laws.proofs.Puts.{plain_node}
use Rattle.gb_laws.specs.Finite.{IsFinite}
use Rattle.gb_laws.specs.Typing.Binder.{value}
use Rattle.gb_laws.proofs.Nodes.{type_of_node}
use Rattle.gb_typing.specs.Context.{Context, reframed, within}
use Rattle.gb_typing.specs.Sequents.{two}
use Rattle.gb_typing.specs.Typing.{IsTyped, IsForm}
use Rattle.gb_typing.specs.Changes.{Made}
use Rattle.gb_typing.specs.Fits.{IsSettingOf, IsStateOf}
use Rattle.gb_typing.specs.Puts.{Readable, reading, IsPutFor}
use Rattle.gb_typing.proofs.Clashes.{left_of_no_clash}
use Rattle.gb_typing.proofs.Fitting.{fits_reframed, state_between}
use Rattle.gb_goal.specs.Answers.Answer.{given}
use Rattle.gb_goal.specs.Goal.{Goal}
use Rattle.gb_goal.specs.Scope.{Declarations}
use Rattle.gb_meaning.specs.Declared.{declared}
use Rattle.gb_mods.specs.Exclusions.{exclusions}
use Rattle.gb_prog.proofs.KeptOff.{kept_off}
use Rattle.gb_goal.specs.Goal.Code.{body, procedure}
use Rattle.gb_goal.specs.Goal.Goal.{hoare, phoare, equiv, ambient}
use Rattle.gb_walk.specs.Clash.{first_clash}
use Rattle.gb_typing.specs.Forms.{IsAlone, and_form, equal_form}
use Rattle.gb_typing.specs.Meaning.{run, denominator as run_denominator}
use Rattle.gb_typing.specs.Rules.{outermost, ImpliesIn, IsSoundRuleIn}
use Rattle.gb_typing.specs.Scopes.{IsTypedScope}
use Rattle.gb_typing.specs.Samplings.{Sampling, last_sampling}
use Rattle.gb_typing.specs.Supports.{nearest, in_support, weight}
use Rattle.gb_typing.specs.Goals.{IsGoalOver}
use Rattle.gb_typing.proofs.ClashFree.{two_clear}
use Rattle.gb_typing.proofs.Composed.{composed_made, composed_value, image_value, image_typed, any_own}
use Rattle.gb_typing.proofs.Forms.{and_typed, and_use}
use Rattle.gb_typing.proofs.Given.{AreSoundIn, refused_given, same_given}
use Rattle.gb_typing.proofs.Quantified.{inner_typed, inner_meaning}
use Rattle.gb_typing.proofs.Runs.{coupled_in_turn}
use Rattle.gb_typing.proofs.LastSampling.{IsDrawn, drawn, last_one}
use Rattle.gb_typing.proofs.Supported.{equal_values, equal_reals, weight_made, support_made, nearest_made, for_support_made, weight_of_is, supported, same_weights, for_support_use, draws, drawn_typed, located_denominator, run_sampling, sampling_denominator, from_made, target_put, from_weights}
use Rattle.gb_equiv.proofs.DrawnIsSound.{sound as drawn_sound}
use Rattle.gb_forms.specs.declared.coupled.Coupled.{Coupled}
use Rattle.gb_forms.specs.declared.coupled.Maps.{Maps}
use Rattle.gb_equiv.specs.Drawn.{unless_clash}
use Rattle.gb_forms.specs.Coupled.{composed, keeps_weights, couples}
use Rattle.gb_equiv.specs.Rnd.{maps, coupling, with_values, post_before, by_maps, by_ends, rnd_row, IsFunction, AreFunctions, AreBetween, AreTypedFunctions}

module _ (ds : Declarations) (scoped : IsTypedScope (declared ds)) (b : Context) (ls rs : List TypedName) where
  abbrev c : Context
  c = outermost b

  abbrev goal : Context
  goal = two c ls rs

  abbrev inner : Ty → Context
  inner t = within goal (value t) None

  nearest_here : (t : Ty) → IsFinite t → Made (inner t) t (nearest t)
  nearest_here t n = nearest_made goal t n None (Some ls) (Some rs)

  -- functions, and one after another
  module _ (t u : Ty) (f : Term) (w : IsFunction goal t u f) where
    function_made : Made (inner t) u f
    function_made = record { typed = w.typed; written = w.result }

    after_made : (r : Ty) (h : Term) → IsFunction goal u r h → Made (inner t) r (composed h f)
    after_made r h k =
        let m = composed_made b None (Some ls) (Some rs) t u f w.typed w.plain w.result h k.typed k.plain in
        record { typed = m.typed; written = m.written ∙ k.result }

  module _ (is js : List Instr) (x y : Sampling) (dx : IsDrawn c ls is x) (dy : IsDrawn c rs js y) (ms : Maps) (forth_is : IsFunction goal x.ty y.ty ms.forth) (back_is : IsFunction goal y.ty x.ty ms.back) where
    abbrev cp : Coupled
    cp = coupling x y ms

    left_made : (t : Ty) → Made (inner t) (distributions x.ty) cp.left.from
    left_made t = from_made c ls None (Some ls) (Some rs) t x.from dx.from x.ty dx.over side.Left tt refl

    right_made : (t : Ty) → Made (inner t) (distributions y.ty) cp.right.from
    right_made t = from_made c rs None (Some ls) (Some rs) t y.from dy.from y.ty dy.over side.Right tt refl

    abbrev same_images : Term
    same_images = equal_form (nearest y.ty) (composed ms.forth ms.back)

    abbrev weighs_same : Term
    weighs_same = equal_form (weight cp.right.from (nearest y.ty)) (weight cp.left.from ms.back)

    abbrev hits : Term
    hits = in_support ms.forth cp.right.from

    abbrev returns : Term
    returns = equal_form (nearest x.ty) (composed ms.back ms.forth)

    keeps_typed : IsForm goal (keeps_weights cp)
    keeps_typed =
        for_support_made goal y.ty cp.right.from (and_form same_images weighs_same) dy.finite (nearest_here y.ty dy.finite) (right_made y.ty)
        (and_typed (inner y.ty) same_images weighs_same
        (equal_values (inner y.ty) y.ty (nearest y.ty) (composed ms.forth ms.back) dy.finite (nearest_here y.ty dy.finite) (after_made y.ty x.ty ms.back back_is y.ty ms.forth forth_is))
        (equal_reals (inner y.ty) (weight cp.right.from (nearest y.ty)) (weight cp.left.from ms.back)
        (weight_made (inner y.ty) y.ty cp.right.from (nearest y.ty) dy.finite (right_made y.ty) (nearest_here y.ty dy.finite))
        (weight_made (inner y.ty) x.ty cp.left.from ms.back dx.finite (left_made y.ty) (function_made y.ty x.ty ms.back back_is))))

    left_put : IsPutFor (inner x.ty) x.target side.Left (nearest x.ty)
    left_put =
        target_put c ls None (Some ls) (Some rs) x.ty side.Left tt refl x.target x.ty dx.target dx.finite (nearest x.ty) (plain_node (head.Bound 0) [] x.ty tt tt)
        (type_of_node (head.Bound 0) [] x.ty) (λ o l k keeps. let m = nearest_made goal x.ty dx.finite o l k in m.typed)

    right_put : IsPutFor (inner x.ty) y.target side.Right ms.forth
    right_put =
        target_put c rs None (Some ls) (Some rs) x.ty side.Right tt refl y.target y.ty dy.target dy.finite ms.forth forth_is.plain forth_is.result
        (λ o l k keeps. let e = keeps.1 refl in
        subst (λ l. IsTyped (reframed (inner x.ty) o l k) ms.forth) (sym e.0) (subst (λ k. IsTyped (reframed (inner x.ty) o (Some ls) k) ms.forth) (sym e.1)
        (any_own b (Some ls) (Some rs) o x.ty ms.forth forth_is.plain forth_is.typed)))

    abbrev writes : Value → Value → List Written
    writes v w = record { variable = x.target; side = side.Left; term = nearest x.ty; value = v } ∷ record { variable = y.target; side = side.Right; term = ms.forth; value = w } ∷ []

    couples_typed : (q : Term) → IsForm goal q → IsForm goal (couples cp (with_values x y ms q))
    couples_typed q w =
        let m = inner_typed b None (Some ls) (Some rs) x.ty q w.typed (writes (Num 0) (Num 0)) (left_put, (right_put, tt)) in
        for_support_made goal x.ty cp.left.from (and_form (and_form hits returns) (with_values x y ms q)) dx.finite (nearest_here x.ty dx.finite) (left_made x.ty)
        (and_typed (inner x.ty) (and_form hits returns) (with_values x y ms q)
        (and_typed (inner x.ty) hits returns
        (support_made (inner x.ty) y.ty ms.forth cp.right.from dy.finite (function_made x.ty y.ty ms.forth forth_is) (right_made x.ty))
        (equal_values (inner x.ty) x.ty (nearest x.ty) (composed ms.back ms.forth) dx.finite (nearest_here x.ty dx.finite) (after_made x.ty y.ty ms.forth forth_is x.ty ms.back back_is)))
        (record { typed = m.typed; truth = m.written ∙ w.truth }))

    module _ (g : Setting) (fits : IsSettingOf c g) (j : Judge) (fair : IsFair g j) (s : State) (fit : IsStateOf c g s) (a d : Memory) where
      abbrev start : State
      start = between s a d

      abbrev here : Value → State
      here v = under start (value_bound (finite v))

      start_fits : IsStateOf goal g start
      start_fits = state_between c g s fit None (Some ls) (Some rs) a d

      goal_fits : IsSettingOf goal g
      goal_fits = fits_reframed c g fits None (Some ls) (Some rs)

      abbrev on_left : WeightedList Value
      on_left = distribution g x.from (inside s a)

      abbrev on_right : WeightedList Value
      on_right = distribution g y.from (inside s d)

      abbrev image : Term → Value → Value
      image f v = value_in (val g quiet f (here v))

      module _ (t u : Ty) (f : Term) (w : IsFunction goal t u f) (n : IsFinite u) (v : Value) (h : has g.types t v ≡ true) where
        function_value : val g (speaking g j) f (here v) ≡ finite (image f v)
        function_value = image_value b None (Some ls) (Some rs) t u f w.typed w.plain w.result n g goal_fits j start start_fits v h

        function_typed : has g.types u (image f v) ≡ true
        function_typed = image_typed b None (Some ls) (Some rs) t u f w.typed w.plain w.result n g goal_fits j start start_fits v h

        -- the image of an image
        after_value : (k : Term) → IsFunction goal u t k → IsFinite t → val g (speaking g j) (composed k f) (here v) ≡ finite (image k (image f v))
        after_value k q m =
            composed_value b None (Some ls) (Some rs) t u f w.typed w.plain w.result n g goal_fits j start start_fits v h k q.typed q.plain
            ∙ image_value b None (Some ls) (Some rs) u t k q.typed q.plain q.result m g goal_fits j start start_fits (image f v) function_typed

      left_weights : (v : Value) → weights_in (val g (speaking g j) cp.left.from (here v)) ≡ on_left
      left_weights v = from_weights c ls x.from dx.from g j start side.Left tt v

      right_weights : (v : Value) → weights_in (val g (speaking g j) cp.right.from (here v)) ≡ on_right
      right_weights v = from_weights c rs y.from dy.from g j start side.Right tt v

      module _ (kept : den g j (keeps_weights cp) start ≡ true) (w : Value) (inside_right : IsInSupport value_discrete on_right w) where
        right_typed : has g.types y.ty w ≡ true
        right_typed = drawn_typed c rs y.from dy.from y.ty dy.over dy.distributed g fits s d w inside_right

        kept_there : (den g j same_images (here w) ≡ true) × (den g j weighs_same (here w) ≡ true)
        kept_there =
            and_use g j same_images weighs_same (here w)
            (for_support_use g j start y.ty cp.right.from (and_form same_images weighs_same) on_right kept w right_typed (right_weights w) inside_right)

        image_of_source : w ≡ image ms.forth (image ms.back w)
        image_of_source =
            (true_equal g j (nearest y.ty) (composed ms.forth ms.back) w (image ms.forth (image ms.back w)) (here w) (val_node g (speaking g j) (head.Bound 0) [] y.ty (here w))
            (after_value y.ty x.ty ms.back back_is dx.finite w right_typed ms.forth forth_is dy.finite)).0 kept_there.0

        weight_of_source : weight_at value_discrete on_right w * denominator g x.from ≡ weight_at value_discrete on_left (image ms.back w) * denominator g y.from
        weight_of_source =
            (λ i. sym (weight_of_is g j (here w) (nearest y.ty) cp.right.from w on_right (val_node g (speaking g j) (head.Bound 0) [] y.ty (here w)) (right_weights w)) i * sym (located_denominator g side.Left x.from) i)
            ∙ same_weights g j (here w) cp.right.from (nearest y.ty) cp.left.from ms.back kept_there.1
            ∙ (λ i. weight_of_is g j (here w) ms.back cp.left.from (image ms.back w) on_left (function_value y.ty x.ty ms.back back_is dx.finite w right_typed) (left_weights w) i
            * located_denominator g side.Right y.from i)

      module _ (q : Term) (form : IsForm goal q) (P : Readable) (reads : IsWithin (reading P) q) (alone_left : IsAlone g x.target (P side.Left)) (alone_right : IsAlone g y.target (P side.Right))
          (coupled : den g j (couples cp (with_values x y ms q)) start ≡ true) (v : Value) (inside_left : IsInSupport value_discrete on_left v) where
        left_typed : has g.types x.ty v ≡ true
        left_typed = drawn_typed c ls x.from dx.from x.ty dx.over dx.distributed g fits s a v inside_left

        coupled_there : (den g j (and_form hits returns) (here v) ≡ true) × (den g j (with_values x y ms q) (here v) ≡ true)
        coupled_there =
            and_use g j (and_form hits returns) (with_values x y ms q) (here v)
            (for_support_use g j start x.ty cp.left.from (and_form (and_form hits returns) (with_values x y ms q)) on_left coupled v left_typed (left_weights v) inside_left)

        image_there : (den g j hits (here v) ≡ true) × (den g j returns (here v) ≡ true)
        image_there = and_use g j hits returns (here v) coupled_there.0

        image_in_support : IsInSupport value_discrete on_right (image ms.forth v)
        image_in_support =
            supported g j (here v) ms.forth cp.right.from (image ms.forth v) on_right (function_value x.ty y.ty ms.forth forth_is dy.finite v left_typed) (right_weights v) image_there.0

        source_of_image : v ≡ image ms.back (image ms.forth v)
        source_of_image =
            (true_equal g j (nearest x.ty) (composed ms.back ms.forth) v (image ms.back (image ms.forth v)) (here v) (val_node g (speaking g j) (head.Bound 0) [] x.ty (here v))
            (after_value x.ty y.ty ms.forth forth_is dy.finite v left_typed ms.back back_is dx.finite)).0 image_there.1

        post_after : den g j q (between s (write g.types a x.target v) (write g.types d y.target (image ms.forth v))) ≡ true
        post_after =
            sym (ap truth (inner_meaning b None (Some ls) (Some rs) x.ty g goal_fits start start_fits v left_typed j fair P q form.typed reads (writes v (image ms.forth v)) (
              record { put = left_put; spares = λ z t i p n k. left_of_no_clash g x.target z t (alone_left z p n); value = sym (ap value_in (val_node g quiet (head.Bound 0) [] x.ty (here v))) },
              (record { put = right_put; spares = λ z t i p n k. left_of_no_clash g y.target z t (alone_right z p n); value = refl }, tt),
            ))) ∙ coupled_there.1

      samplings_coupled : (q : Term) → IsForm goal q → (P : Readable) → IsWithin (reading P) q → IsAlone g x.target (P side.Left) → IsAlone g y.target (P side.Right) → den g j (post_before x y ms q) start ≡ true →
          Coupling (λ m n. den g j q (between s m n) ≡ true) (run g s (last_one x) a) (run_denominator g (last_one x)) (run g s (last_one y) d) (run_denominator g (last_one y))
      samplings_coupled q form P reads l r h =
          let both = and_use g j (keeps_weights cp) (couples cp (with_values x y ms q)) start h in
          let left = draws c ls x.from dx.from x.ty dx.over dx.distributed g fits in
          subst (λ z. z) (λ i. Coupling (λ m n. den g j q (between s m n) ≡ true) (sym (run_sampling g s x.target x.from a) i) (sym (sampling_denominator g x.target x.from) i)
          (sym (run_sampling g s y.target y.from d) i) (sym (sampling_denominator g y.target y.from) i))
          (coupling_dmap {Q = λ v w. IsInSupport value_discrete on_left v × (w ≡ image ms.forth v)} (λ m n. den g j q (between s m n) ≡ true) (write g.types a x.target) (write g.types d y.target)
          (λ v w p. subst (λ z. den g j q (between s (write g.types a x.target v) (write g.types d y.target z)) ≡ true) (sym p.1) (post_after q form P reads l r both.1 v p.0))
          (coupling_bijection value_discrete value_discrete (image ms.forth) (image ms.back) on_left (denominator g x.from) on_right (denominator g y.from)
          left.positive (left.entries (inside s a)) (image_of_source both.0) (weight_of_source both.0) (image_in_support q form P reads l r both.1) (source_of_image q form P reads l r both.1)))

    -- the goal before the samplings is typed, and implies the goal
    post_typed : (q : Term) → IsForm goal q → IsForm goal (post_before x y ms q)
    post_typed q w = and_typed goal (keeps_weights cp) (couples cp (with_values x y ms q)) keeps_typed (couples_typed q w)

    implied : (p q : Term) → IsForm goal q → first_clash (exclusions ds) side.Left x.target q ≡ None → first_clash (exclusions ds) side.Right y.target q ≡ None → ImpliesIn (declared ds) c (equiv (body x.before) (body y.before) p (post_before x y ms q) ∷ []) (equiv (body is) (body js) p q)
    implied p q w e k g fits over j fair s fit h m n z =
        let clear = two_clear (exclusions ds) goal q w.typed x.target y.target e k in
        let off = kept_off ds scoped g over in
        coupled_in_turn g s (λ a d. IsTrueUnder g j q (between s a d)) (λ a d. IsTrueUnder g j (post_before x y ms q) (between s a d)) is js x.before (last_one x) y.before (last_one y)
        dx.shape dy.shape m n (h.0 m n z) (λ a d t. samplings_coupled g fits j fair s fit a d q w clear.0 clear.1 (clear.2 g off) (clear.3 g off) t)

  -- the functions of a typed step
  typed_maps : (x y : Ty) → IsFinite x → IsFinite y → (fs : List Term) (ms : Maps) → maps fs x y ≡ Some ms → AreFunctions goal x y fs → IsFunction goal x y ms.forth × IsFunction goal y x ms.back
  typed_maps x y n k [] ms e w = same (ty_eq x y) refl e
    where
      same : (b : Bool) → ty_eq x y ≡ b → (if b then Some (record { forth = nearest x; back = nearest y }) else None) ≡ Some ms → IsFunction goal x y ms.forth × IsFunction goal y x ms.back
      same true q e =
          let p = (ty_eq-Decides x y).0 q in
          subst (λ (ms : Maps). IsFunction goal x y ms.forth × IsFunction goal y x ms.back) (same_Some (record { forth = nearest x; back = nearest y }) ms e) (
            (let m = nearest_here x n in record { typed = m.typed; plain = plain_node (head.Bound 0) [] x tt tt; result = m.written ∙ p }),
            (let m = nearest_here y k in record { typed = m.typed; plain = plain_node (head.Bound 0) [] y tt tt; result = m.written ∙ sym p }),
          )
      same _ q e = absurd (none-some ms e)
  typed_maps x y n k (f ∷ []) ms e w =
      subst (λ (ms : Maps). IsFunction goal x y ms.forth × IsFunction goal y x ms.back) (same_Some (record { forth = f; back = f }) ms e)
      (w.1, subst (λ z. z) (λ i. IsFunction goal (w.0 i) (sym w.0 i) f) w.1)
  typed_maps x y n k (f ∷ h ∷ []) ms e w =
      subst (λ (ms : Maps). IsFunction goal x y ms.forth × IsFunction goal y x ms.back) (same_Some (record { forth = f; back = h }) ms e) w
  typed_maps x y n k (f ∷ h ∷ i ∷ fs) ms e w = absurd (none-some ms e)

  module _ (fs : List Term) (is js : List Instr) (p q : Term) (w : IsGoalOver c ls rs (equiv (body is) (body js) p q)) (Gs : List Goal) where
    abbrev Sound : Type 0
    Sound = AreSoundIn (declared ds) c (equiv (body is) (body js) p q) Gs

    with_maps : (x y : Sampling) → last_sampling is ≡ Some x → last_sampling js ≡ Some y → (o : Option Maps) → maps fs x.ty y.ty ≡ o → AreFunctions goal x.ty y.ty fs →
        (u v : Option Var) → first_clash (exclusions ds) side.Left x.target q ≡ u → first_clash (exclusions ds) side.Right y.target q ≡ v → by_maps (exclusions ds) x y p q o ≡ given Gs → Sound
    with_maps x y ex ey None em k u v eu ev r = refused_given Shape Gs r
    with_maps x y ex ey (Some ms) em k u v eu ev r =
        checked u v eu ev (subst (λ o. unless_clash o (equiv (body x.before) (body y.before) p (post_before x y ms q)) ≡ given Gs) (λ i. option_or (option_map (λ z. x.target) (eu i)) (option_map (λ z. y.target) (ev i))) r)
      where
        checked : (u v : Option Var) → first_clash (exclusions ds) side.Left x.target q ≡ u → first_clash (exclusions ds) side.Right y.target q ≡ v →
            unless_clash (option_or (option_map (λ z. x.target) u) (option_map (λ z. y.target) v)) (equiv (body x.before) (body y.before) p (post_before x y ms q)) ≡ given Gs → Sound
        checked (Some z) v eu ev r = refused_given (SideCondition x.target) Gs r
        checked None (Some z) eu ev r = refused_given (SideCondition y.target) Gs r
        checked None None eu ev r =
            let dx = drawn c ls is x w.1 ex in
            let dy = drawn c rs js y w.2 ey in
            let t = typed_maps x.ty y.ty dx.finite dy.finite fs ms em k in
            subst (AreSoundIn (declared ds) c (equiv (body is) (body js) p q)) (same_given _ Gs r) (
              ((ls, rs, (tt, dx.rest, dy.rest, w.3, post_typed is js x y dx dy ms t.0 t.1 q w.4)), tt),
              implied is js x y dx dy ms t.0 t.1 p q w.4 eu ev,
            )

    with_ends : (o u : Option Sampling) → last_sampling is ≡ o → last_sampling js ≡ u → AreBetween goal fs (option_zip o u) → by_ends (exclusions ds) fs p q (option_zip o u) ≡ given Gs → Sound
    with_ends None u ex ey k r = refused_given Shape Gs r
    with_ends (Some x) None ex ey k r = refused_given Shape Gs r
    with_ends (Some x) (Some y) ex ey k r = with_maps x y ex ey (maps fs x.ty y.ty) refl k (first_clash (exclusions ds) side.Left x.target q) (first_clash (exclusions ds) side.Right y.target q) refl refl r

no_procedure : {P : Type 0} (ds : Declarations) (fs : List Term) (a : ProcRef) (p q : Term) (Gs : List Goal) → rnd_row ds fs (hoare (procedure a) p q) ≡ given Gs → P
no_procedure ds [] a p q Gs e = refused_given Shape Gs e
no_procedure ds (f ∷ fs) a p q Gs e = refused_given Shape Gs e

module _ (ds : Declarations) (scoped : IsTypedScope (declared ds)) (c : Context) (fs : List Term) where
  pub sound : IsSoundRuleIn (declared ds) c (rnd_row ds fs) (AreTypedFunctions c fs)
  sound outer ls rs (equiv (body is) (body js) p q) w k Gs e =
      let G = equiv (body is) (body js) p q in
      subst (λ c. AreSoundIn (declared ds) c G Gs) (sym outer)
      (with_ends ds scoped c ls rs fs is js p q (subst (λ c. IsGoalOver c ls rs G) outer w) Gs (last_sampling is) (last_sampling js) refl refl (subst (λ c. AreTypedFunctions c fs ls rs G) outer k) e)
  sound outer ls rs (hoare (body is) p q) w k Gs e = on_one outer ls rs is p q w Gs fs e
    where
      on_one : c ≡ outermost c → (ls rs : List TypedName) (is : List Instr) (p q : Term) → IsGoalOver c ls rs (hoare (body is) p q) → (Gs : List Goal) → (fs : List Term) →
          rnd_row ds fs (hoare (body is) p q) ≡ given Gs → AreSoundIn (declared ds) c (hoare (body is) p q) Gs
      on_one outer ls rs is p q w Gs [] e =
          let G = hoare (body is) p q in
          subst (λ c. AreSoundIn (declared ds) c G Gs) (sym outer) (drawn_sound ds scoped c ls rs is p q (subst (λ c. IsGoalOver c ls rs G) outer w) Gs (last_sampling is) refl e)
      on_one outer ls rs is p q w Gs (f ∷ fs) e = refused_given Shape Gs e
  sound outer ls rs (hoare (procedure a) p q) w k Gs e = no_procedure ds fs a p q Gs e
  sound outer ls rs (phoare a o p q r) w k Gs e = refused_given Shape Gs e
  sound outer ls rs (equiv (procedure a) d p q) w k Gs e = refused_given Shape Gs e
  sound outer ls rs (equiv (body is) (procedure d) p q) w k Gs e = refused_given Shape Gs e
  sound outer ls rs (ambient f) w k Gs e = refused_given Shape Gs e
