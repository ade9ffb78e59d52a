-- `rnd` on one body is sound.
use Rattle.std.proofs.Common.{◌≡◌, true, List, [], ◌∷◌, Option, Some, None, refl, ap, sym, ◌∙◌, subst}
use Rattle.std.specs.Option.{option_map}
use Rattle.gb_core.specs.declared.refusal.Why.TheVariants.{Shape, SideCondition}
use Rattle.gb_core.specs.declared.ty.Ty.{Ty}
use Rattle.gb_core.specs.declared.value.Value.{Value}
use Rattle.gb_core.specs.declared.value.Value.TheVariants.{Num}
use Rattle.gb_core.specs.declared.var.Var.{Var}
use Rattle.gb_terms.specs.declared.decl.TypedName.{TypedName}
use Rattle.gb_terms.specs.declared.op.Side.TheVariants as side
use Rattle.gb_terms.specs.declared.term.Term.{Term}
use Rattle.gb_terms.specs.declared.term.Head.TheVariants as head
use Rattle.gb_terms.specs.declared.term.Instr.{Instr}
use Rattle.gb_dist.specs.WeightedList.{WeightedList, Every, IsInSupport}
use Rattle.gb_dist.proofs.Entries.{Every-bind, Every-dmap, Every_of_On}
use Rattle.gb_dist.proofs.Indicators.{On_of_support}
use Rattle.gb_meaning.specs.Memory.{Memory, write}
use Rattle.gb_meaning.specs.Meanings.{truth, value_in, weights_in}
use Rattle.gb_meaning.specs.Setting.{Setting}
use Rattle.gb_meaning.specs.Setting.Meaning.{finite}
use Rattle.gb_meaning.specs.State.{State, at, inside, under}
use Rattle.gb_meaning.specs.State.Binding.{value as value_bound}
use Rattle.gb_meaning.specs.Trees.{distributions}
use Rattle.gb_meaning.specs.Terms.{quiet, val, distribution}
use Rattle.gb_meaning.specs.Judgments.{Judge, IsFair, speaking, IsTrueUnder, den}
use Rattle.gb_meaning.proofs.Nodes.{val_node}
use Rattle.gb_meaning.proofs.Values.{value_discrete}
use Rattle.gb_laws.specs.Uses.{IsWithin}
use Rattle.gb_laws.specs.Written.{Written}
use Rattle.gb_laws.proofs.Puts.{plain_node}
use Rattle.gb_laws.specs.Typing.Binder.{value}
use Rattle.gb_laws.proofs.Nodes.{type_of_node}
use Rattle.gb_typing.specs.Context.{Context, within}
use Rattle.gb_typing.specs.Sequents.{one}
use Rattle.gb_typing.specs.Typing.{IsForm}
use Rattle.gb_typing.specs.Changes.{Made}
use Rattle.gb_typing.specs.Fits.{IsSettingOf, IsStateOf}
use Rattle.gb_typing.specs.Puts.{Readable, reading, IsPutFor}
use Rattle.gb_typing.proofs.Clashes.{left_of_no_clash}
use Rattle.gb_typing.proofs.Fitting.{fits_reframed, state_at}
use Rattle.gb_goal.specs.Answers.Answer.{given}
use Rattle.gb_goal.specs.Goal.{Goal}
use Rattle.gb_goal.specs.Scope.{Declarations}
use Rattle.gb_meaning.specs.Declared.{declared}
use Rattle.gb_mods.specs.Exclusions.{exclusions}
use Rattle.gb_prog.proofs.KeptOff.{kept_off}
use Rattle.gb_goal.specs.Goal.Code.{body}
use Rattle.gb_goal.specs.Goal.Goal.{hoare}
use Rattle.gb_walk.specs.Clash.{first_clash}
use Rattle.gb_typing.specs.Forms.{IsAlone}
use Rattle.gb_typing.specs.Meaning.{run}
use Rattle.gb_typing.specs.Rules.{outermost, ImpliesIn}
use Rattle.gb_typing.specs.Scopes.{IsTypedScope}
use Rattle.gb_typing.specs.Samplings.{Sampling, last_sampling}
use Rattle.gb_typing.specs.Supports.{nearest}
use Rattle.gb_typing.specs.Goals.{IsGoalOver}
use Rattle.gb_typing.proofs.ClashFree.{one_clear}
use Rattle.gb_typing.proofs.Given.{AreSoundIn, refused_given, same_given}
use Rattle.gb_typing.proofs.Quantified.{inner_typed, inner_meaning}
use Rattle.gb_typing.proofs.Runs.{run_append}
use Rattle.gb_typing.proofs.LastSampling.{IsDrawn, drawn, last_one}
use Rattle.gb_typing.proofs.Supported.{nearest_made, for_support_made, for_support_use, draws, drawn_typed, run_sampling, from_made, target_put, from_weights}
use Rattle.gb_forms.specs.Drawn.{with_value, each_drawn}
use Rattle.gb_equiv.specs.Drawn.{unless_clash, without_sampling, by_end}

module _ (ds : Declarations) (scoped : IsTypedScope (declared ds)) (b : Context) (ls : List TypedName) where
  abbrev c : Context
  c = outermost b

  abbrev goal : Context
  goal = one c ls

  module _ (is : List Instr) (x : Sampling) (dx : IsDrawn c ls is x) where
    abbrev inner : Context
    inner = within goal (value x.ty) None

    put : IsPutFor inner x.target side.Own (nearest x.ty)
    put =
        target_put c ls (Some ls) None None x.ty side.Own tt refl x.target x.ty dx.target dx.finite (nearest x.ty) (plain_node (head.Bound 0) [] x.ty tt tt)
        (type_of_node (head.Bound 0) [] x.ty) (λ o l k keeps. let m = nearest_made goal x.ty dx.finite o l k in m.typed)

    abbrev writes : Value → List Written
    writes v = record { variable = x.target; side = side.Own; term = nearest x.ty; value = v } ∷ []

    post_typed : (q : Term) → IsForm goal q → IsForm goal (each_drawn x q)
    post_typed q w =
        let m = inner_typed b (Some ls) None None x.ty q w.typed (writes (Num 0)) (put, tt) in
        for_support_made goal x.ty x.from (with_value x q) dx.finite (nearest_made goal x.ty dx.finite (Some ls) None None)
        (from_made c ls (Some ls) None None x.ty x.from dx.from x.ty dx.over side.Own tt refl) (record { typed = m.typed; truth = m.written ∙ w.truth })

    module _ (g : Setting) (fits : IsSettingOf c g) (j : Judge) (fair : IsFair g j) (s : State) (fit : IsStateOf c g s) (m : Memory) where
      abbrev here : Value → State
      here v = under (at s m) (value_bound (finite v))

      start_fits : IsStateOf goal g (at s m)
      start_fits = state_at c g s fit (Some ls) None None m

      goal_fits : IsSettingOf goal g
      goal_fits = fits_reframed c g fits (Some ls) None None

      abbrev values : WeightedList Value
      values = distribution g x.from (inside s m)

      module _ (q : Term) (form : IsForm goal q) (P : Readable) (reads : IsWithin (reading P) q) (alone : IsAlone g x.target (P side.Own)) (each : den g j (each_drawn x q) (at s m) ≡ true) where
        of_value : (v : Value) → IsInSupport value_discrete values v → IsTrueUnder g j q (at s (write g.types m x.target v))
        of_value v i =
            let typed = drawn_typed c ls x.from dx.from x.ty dx.over dx.distributed g fits s m v i in
            sym (ap truth (inner_meaning b (Some ls) None None x.ty g goal_fits (at s m) start_fits v typed j fair P q form.typed reads (writes v) (
              record { put = put; spares = λ z t a p n k. left_of_no_clash g x.target z t (alone z p n); value = sym (ap value_in (val_node g quiet (head.Bound 0) [] x.ty (here v))) },
              tt,
            )))
            ∙ for_support_use g j (at s m) x.ty x.from (with_value x q) values each v typed (from_weights c ls x.from dx.from g j (at s m) side.Own tt v) i

        after_sampling : Every (λ n. IsTrueUnder g j q (at s n)) (run g s (last_one x) m)
        after_sampling =
            let d = draws c ls x.from dx.from x.ty dx.over dx.distributed g fits in
            subst (Every (λ n. IsTrueUnder g j q (at s n))) (sym (run_sampling g s x.target x.from m))
            (Every-dmap {P = IsInSupport value_discrete values} (λ n. IsTrueUnder g j q (at s n)) (write g.types m x.target) values of_value
            (Every_of_On (IsInSupport value_discrete values) values (On_of_support value_discrete (IsInSupport value_discrete values) values (d.entries (inside s m)) (λ v i. i))))

    -- the goal before the sampling implies the goal
    implied : (p q : Term) → IsForm goal q → first_clash (exclusions ds) side.Own x.target q ≡ None → ImpliesIn (declared ds) c (without_sampling x p q ∷ []) (hoare (body is) p q)
    implied p q w e g fits over j fair s fit h m z =
        let clear = one_clear (exclusions ds) goal q w.typed side.Own tt x.target e in
        subst (Every (λ n. IsTrueUnder g j q (at s n))) (sym (ap (λ is. run g s is m) dx.shape ∙ run_append g s x.before (last_one x) m))
        (Every-bind (λ a. IsTrueUnder g j (each_drawn x q) (at s a)) (λ n. IsTrueUnder g j q (at s n)) (run g s x.before m) (λ a. run g s (last_one x) a) (h.0 m z)
        (λ a t. after_sampling g fits j fair s fit a q w clear.0 clear.1 (clear.2 g (kept_off ds scoped g over)) t))

  module _ (rs : List TypedName) (is : List Instr) (p q : Term) (w : IsGoalOver c ls rs (hoare (body is) p q)) (Gs : List Goal) where
    abbrev Sound : Type 0
    Sound = AreSoundIn (declared ds) c (hoare (body is) p q) Gs

    with_sampling : (x : Sampling) → last_sampling is ≡ Some x → (u : Option Var) → first_clash (exclusions ds) side.Own x.target q ≡ u →
        unless_clash (option_map (λ z. x.target) u) (without_sampling x p q) ≡ given Gs → Sound
    with_sampling x ex (Some z) e r = refused_given (SideCondition x.target) Gs r
    with_sampling x ex None e r =
        let dx = drawn c ls is x w.0 ex in
        subst (AreSoundIn (declared ds) c (hoare (body is) p q)) (same_given (without_sampling x p q ∷ []) Gs r) (((ls, rs, (dx.rest, w.1, post_typed is x dx q w.2)), tt), implied is x dx p q w.2 e)

    pub sound : (o : Option Sampling) → last_sampling is ≡ o → by_end (exclusions ds) p q o ≡ given Gs → Sound
    sound None ex r = refused_given Shape Gs r
    sound (Some x) ex r = with_sampling x ex (first_clash (exclusions ds) side.Own x.target q) refl r
