-- `rnd` is sound on a judgment with a probability.
use Rattle.std.proofs.Common.{◌≡◌, ◌*◌, ◌<◌, Bool, true, pos, List, [], ◌∷◌, Option, Some, None, refl, ap, sym, ◌∙◌, subst}
use Rattle.std.specs.List.{AllByRecursion}
use Rattle.std.specs.Option.{option_map}
use Rattle.gb_core.specs.declared.refusal.Why.TheVariants.{Shape, NotLossless, SideCondition}
use Rattle.gb_core.specs.declared.ty.Ty.TheVariants as ty
use Rattle.gb_core.specs.declared.value.Value.{Value}
use Rattle.gb_core.specs.declared.value.Value.TheVariants.{Num}
use Rattle.gb_core.specs.declared.var.Var.{Var}
use Rattle.gb_terms.specs.declared.decl.TypedName.{TypedName}
use Rattle.gb_terms.specs.declared.op.Rel.{Rel}
use Rattle.gb_terms.specs.declared.op.Rel.TheVariants.{AtMost, Equal, AtLeast}
use Rattle.gb_terms.specs.declared.op.Side.TheVariants as side
use Rattle.gb_terms.specs.declared.term.Term.{Term}
use Rattle.gb_terms.specs.declared.term.Head.TheVariants as head
use Rattle.gb_terms.specs.declared.term.Instr.{Instr}
use Rattle.gb_dist.specs.WeightedList.{WeightedList, Every, IsInSupport, total, weight, bit, bind}
use Rattle.gb_dist.proofs.Entries.{Every-weaken}
use Rattle.gb_dist.proofs.Indicators.{On_of_support}
use Rattle.gb_dist.proofs.Masses.{mass-dmap, mass-on}
use Rattle.gb_meaning.specs.Commands.{statements}
use Rattle.gb_meaning.specs.Fractions.{Fraction}
use Rattle.gb_meaning.specs.Memory.{Memory, write}
use Rattle.gb_meaning.specs.Meanings.{truth, value_in, weights_in, fraction_in}
use Rattle.gb_meaning.specs.Setting.{Setting}
use Rattle.gb_meaning.specs.Setting.Meaning.{finite, fraction}
use Rattle.gb_meaning.specs.State.{State, at, inside, under}
use Rattle.gb_meaning.specs.State.Binding.{value as value_bound}
use Rattle.gb_meaning.specs.Trees.{distributions}
use Rattle.gb_meaning.specs.Terms.{quiet, val, distribution, denominator as term_denominator}
use Rattle.gb_meaning.specs.Judgments.{Judge, IsFair, speaking, IsTrueUnder, den, chance, compares}
use Rattle.gb_meaning.specs.Written.{type_of}
use Rattle.gb_meaning.proofs.Nodes.{val_node}
use Rattle.gb_meaning.proofs.Runs.{run_positive}
use Rattle.gb_meaning.proofs.Totals.{run_bounded}
use Rattle.gb_meaning.proofs.Values.{value_discrete}
use Rattle.gb_laws.specs.Uses.{IsWithin}
use Rattle.gb_laws.specs.Written.{Written}
use Rattle.gb_laws.proofs.Puts.{plain_node}
use Rattle.gb_laws.specs.Typing.Binder.{value}
use Rattle.gb_laws.proofs.Nodes.{type_of_node}
use Rattle.gb_typing.specs.Context.{Context, with_own, within}
use Rattle.gb_typing.specs.Sequents.{one, of_sequent, IsTypedSequent}
use Rattle.gb_typing.specs.Typing.{IsTyped, IsForm}
use Rattle.gb_typing.specs.Changes.{Made}
use Rattle.gb_typing.specs.Fits.{IsSettingOf, IsStateOf}
use Rattle.gb_typing.specs.Puts.{Readable, reading, IsPutFor}
use Rattle.gb_typing.proofs.Clashes.{left_of_no_clash}
use Rattle.gb_typing.proofs.Drawing.{body_sound}
use Rattle.gb_typing.proofs.Fitting.{fits_reframed, state_at}
use Rattle.gb_typing.proofs.Made.{made_node}
use Rattle.gb_goal.specs.Answers.Answer.{given}
use Rattle.gb_goal.specs.Goal.{Goal}
use Rattle.gb_goal.specs.Scope.{Declarations}
use Rattle.gb_goal.specs.declared.sequent.Sequent.{Sequent}
use Rattle.gb_meaning.specs.Declared.{declared}
use Rattle.gb_goal.specs.Goal.Code.{body, procedure}
use Rattle.gb_goal.specs.Goal.Goal.{hoare, phoare, equiv, ambient}
use Rattle.gb_walk.specs.Clash.{first_clash}
use Rattle.gb_typing.specs.Forms.{IsAlone, IsKeptOff}
use Rattle.gb_mods.specs.Exclusions.{exclusions}
use Rattle.gb_prog.proofs.KeptOff.{kept_off}
use Rattle.gb_typing.specs.Meaning.{run, denominator}
use Rattle.gb_typing.specs.Programs.{IsBody}
use Rattle.gb_typing.specs.Rules.{outermost, IsSettingOver, ImpliesIn, IsSoundRuleIn, no_arguments}
use Rattle.gb_typing.specs.Scopes.{context_of, IsTypedScope}
use Rattle.gb_typing.specs.Samplings.{Sampling, last_sampling}
use Rattle.gb_typing.specs.Supports.{nearest}
use Rattle.gb_typing.specs.Goals.{IsGoalOver, IsTypedGoal}
use Rattle.gb_typing.proofs.ClashFree.{one_clear}
use Rattle.gb_typing.proofs.Given.{refused_given, same_given}
use Rattle.gb_typing.proofs.InMemory.{located_typed, located_value}
use Rattle.gb_typing.proofs.Quantified.{inner_typed, inner_meaning}
use Rattle.gb_typing.proofs.Runs.{run_append, denominator_append}
use Rattle.gb_typing.proofs.LastSampling.{IsDrawn, drawn, last_one}
use Rattle.gb_typing.proofs.Supported.{nearest_made, draws, drawn_typed, run_sampling, sampling_denominator, target_put}
use Rattle.gb_forms.specs.Drawn.{with_value}
use Rattle.gb_prog.specs.Compared.{compared, zero}
use Rattle.gb_full.specs.Loss.{Loss, nowhere, sampled, called, first_loss}
use Rattle.gb_prog.proofs.Bound.{bound_made, bound_is, bound_value}
use Rattle.gb_prog.proofs.Chances.{after_full, after_less}
use Rattle.gb_prog.proofs.Comparing.{number_made, real_made, compared_typed, number_is, compared_is}
use Rattle.gb_full.proofs.Full.{total_full}
use Rattle.gb_full.specs.Lossless.{of_rest}
use Rattle.gb_pr.specs.Rnd.{measured, without_sampling, unless_clash, by_end, rnd_row}

-- bodies that lose no weight, nor what they call, have the whole weight
abbrev LosesNone : Declarations → Context → Type 0
LosesNone ds c = (g : Setting) → IsSettingOf c g → IsSettingOver (declared ds) g → (ls : List TypedName) (is : List Instr) → IsBody c ls is → first_loss ds is ≡ nowhere →
    (s : State) (m : Memory) → total (run g s is m) ≡ denominator g is

abbrev AreSoundIn : Declarations → Context → Goal → List Goal → Type 0
AreSoundIn ds c G Gs = AllByRecursion (IsTypedGoal c) Gs × ImpliesIn (declared ds) c Gs G

module _ (ds : Declarations) (scoped : IsTypedScope (declared ds)) (b : Context) (ls : List TypedName) (weighs : LosesNone ds (outermost b)) where
  abbrev c : Context
  c = outermost b

  abbrev goal : Context
  goal = one c ls

  module _ (is : List Instr) (x : Sampling) (dx : IsDrawn c ls is x) where
    abbrev inner : Context
    inner = within goal (value x.ty) None

    put : IsPutFor inner x.target side.Own (nearest x.ty)
    put =
        target_put c ls (Some ls) None None x.ty side.Own tt refl x.target x.ty dx.target dx.finite (nearest x.ty) (plain_node (head.Bound 0) [] x.ty tt tt)
        (type_of_node (head.Bound 0) [] x.ty) (λ o l k keeps. let m = nearest_made goal x.ty dx.finite o l k in m.typed)

    abbrev writes : Value → List Written
    writes v = record { variable = x.target; side = side.Own; term = nearest x.ty; value = v } ∷ []

    measured_made : (q : Term) → IsForm goal q → Made goal ty.Real (measured x q)
    measured_made q w =
        let m = inner_typed b (Some ls) None None x.ty q w.typed (writes (Num 0)) (put, tt) in
        let d = located_typed c ls x.from dx.from (Some ls) None None side.Own tt refl in
        made_node goal head.Mu (distributions x.ty ∷ ty.Bool ∷ []) (x.from ∷ with_value x q ∷ []) ty.Real (dx.finite, refl, refl) tt []
        (record { typed = d.typed; written = dx.over }, record { typed = m.typed; written = m.written ∙ w.truth })

    module _ (g : Setting) (fits : IsSettingOf c g) (j : Judge) (fair : IsFair g j) (s : State) (fit : IsStateOf c g s) where
      module _ (m : Memory) where
        abbrev here : Value → State
        here v = under (at s m) (value_bound (finite v))

        abbrev values : WeightedList Value
        values = distribution g x.from (inside s m)

        module _ (q : Term) (form : IsForm goal q) (P : Readable) (reads : IsWithin (reading P) q) (alone : IsAlone g x.target (P side.Own)) where
          of_value : (v : Value) → IsInSupport value_discrete values v → den g j (with_value x q) (here v) ≡ den g j q (at s (write g.types m x.target v))
          of_value v i =
              let typed = drawn_typed c ls x.from dx.from x.ty dx.over dx.distributed g fits s m v i in
              ap truth (inner_meaning b (Some ls) None None x.ty g (fits_reframed c g fits (Some ls) None None) (at s m) (state_at c g s fit (Some ls) None None m) v typed j fair P q form.typed reads (writes v) (
                record { put = put; spares = λ z t a p n k. left_of_no_clash g x.target z t (alone z p n); value = sym (ap value_in (val_node g quiet (head.Bound 0) [] x.ty (here v))) },
                tt,
              ))

          weight_is : weight values (λ v. den g j (with_value x q) (here v)) ≡ weight (run g s (last_one x) m) (λ n. den g j q (at s n))
          weight_is =
              let d = draws c ls x.from dx.from x.ty dx.over dx.distributed g fits in
              mass-on {P = IsInSupport value_discrete values} values _ _
              (On_of_support value_discrete (IsInSupport value_discrete values) values (d.entries (inside s m)) (λ v i. i)) (λ v i. ap bit (of_value v i))
              ∙ sym (mass-dmap (write g.types m x.target) values (λ n. bit (den g j q (at s n))))
              ∙ ap (λ l. weight l (λ n. den g j q (at s n))) (sym (run_sampling g s x.target x.from m))

          -- the measure is the chance of the postcondition after the sampling
          measured_is : val g (speaking g j) (measured x q) (at s m) ≡ fraction (chance (run g s (last_one x) m) (denominator g (last_one x)) (λ n. den g j q (at s n)))
          measured_is =
              let values_are : weights_in (val g (speaking g j) x.from (at s m)) ≡ values = ap weights_in (located_value c ls x.from dx.from g (speaking g j) (at s m) side.Own tt) in
              val_node g (speaking g j) head.Mu (x.from ∷ with_value x q ∷ []) ty.Real (at s m)
              ∙ ap (λ l. fraction (pos (weight l (λ v. den g j (with_value x q) (here v))), term_denominator g x.from)) values_are
              ∙ (λ i. fraction (pos (weight_is i), sym (sampling_denominator g x.target x.from) i))

      module _ (r : Rel) (p q t : Term) (w : IsTyped (with_own c None) t) (e : type_of t ≡ ty.Real) (form : IsForm goal q) (clear : first_clash (exclusions ds) side.Own x.target q ≡ None) (off : IsKeptOff (exclusions ds) g)
          (h : (m : Memory) → IsTrueUnder g j p (at s m) → Every (λ n. IsTrueUnder g j (compared r (measured x q) t) (at s n)) (run g s x.before m)) (m : Memory) (z : IsTrueUnder g j p (at s m)) where
        abbrev bound : Fraction
        bound = fraction_in (val g (speaking g j) t s)

        abbrev event : Memory → Bool
        event n = den g j q (at s n)

        each : Every (λ a. compares r (chance (run g s (last_one x) a) (denominator g (last_one x)) event) bound ≡ true) (run g s x.before m)
        each =
            let k = one_clear (exclusions ds) goal q form.typed side.Own tt x.target clear in
            Every-weaken {P = λ n. IsTrueUnder g j (compared r (measured x q) t) (at s n)} (run g s x.before m)
            (λ a y. sym (compared_is g j (at s a) r (measured x q) t _ bound (measured_is a q form k.0 k.1 (k.2 g off)) (bound_is c t w e g fits j fair s fit a)) ∙ y) (h m z)

        before_positive : 0 < denominator g x.before
        before_positive = run_positive g (statements g x.before) (body_sound c g fits ls x.before (let y = dx.rest in y.statements))

        last_positive : 0 < denominator g (last_one x)
        last_positive = let d = draws c ls x.from dx.from x.ty dx.over dx.distributed g fits in subst (λ n. 0 < n) (sym (sampling_denominator g x.target x.from)) d.positive

        whole : compares r (chance (bind (run g s x.before m) (λ a. run g s (last_one x) a)) (denominator g x.before * denominator g (last_one x)) event) bound ≡ true →
            compares r (chance (run g s is m) (denominator g is) event) bound ≡ true
        whole y =
            let runs = sym (ap (λ is. run g s is m) dx.shape ∙ run_append g s x.before (last_one x) m) in
            let denominators = sym (ap (denominator g) dx.shape ∙ denominator_append g x.before (last_one x)) in
            subst (λ z. z) (λ i. compares r (chance (runs i) (denominators i) event) bound ≡ true) y

        after_whole : IsSettingOver (declared ds) g → first_loss ds x.before ≡ nowhere → compares r (chance (run g s is m) (denominator g is) event) bound ≡ true
        after_whole over f =
            whole (after_full (run g s x.before m) (λ a. run g s (last_one x) a) event (denominator g x.before) (denominator g (last_one x)) before_positive last_positive
            (weighs g fits over ls x.before dx.rest f s m) r bound each)

    -- the goal before the sampling implies the goal, where no weight is lost
    implied_full : (r : Rel) (p q t : Term) (w : IsTyped (with_own c None) t) (e : type_of t ≡ ty.Real) → IsForm goal q → first_clash (exclusions ds) side.Own x.target q ≡ None → first_loss ds x.before ≡ nowhere →
        ImpliesIn (declared ds) c (without_sampling x r p q t ∷ []) (phoare (body is) r p q t)
    implied_full r p q t w e form clear f g fits over j fair s fit h m z = after_whole g fits j fair s fit r p q t w e form clear (kept_off ds scoped g over) h.0 m z over f

    -- where some may be, and the bound isn't below 0
    implied_less : (p q t : Term) (w : IsTyped (with_own c None) t) (e : type_of t ≡ ty.Real) → IsForm goal q → first_clash (exclusions ds) side.Own x.target q ≡ None →
        ImpliesIn (declared ds) c (without_sampling x AtMost p q t ∷ ambient (compared AtMost zero t) ∷ []) (phoare (body is) AtMost p q t)
    implied_less p q t w e form clear g fits over j fair s fit h m z =
        whole g fits j fair s fit AtMost p q t w e form clear (kept_off ds scoped g over) h.0 m z
        (after_less (run g s x.before m) (λ a. run g s (last_one x) a) (λ n. den g j q (at s n)) (denominator g x.before) (denominator g (last_one x))
        (before_positive g fits j fair s fit AtMost p q t w e form clear (kept_off ds scoped g over) h.0 m z) (last_positive g fits j fair s fit AtMost p q t w e form clear (kept_off ds scoped g over) h.0 m z)
        (run_bounded g s (statements g x.before) (body_sound c g fits ls x.before (let y = dx.rest in y.statements)) m) (fraction_in (val g (speaking g j) t s))
        (sym (compared_is g j s AtMost zero t (pos 0, 1) _ (number_is g j s (pos 0)) (bound_value c t w e g fits j fair s fit)) ∙ h.1.0)
        (each g fits j fair s fit AtMost p q t w e form clear (kept_off ds scoped g over) h.0 m z))

  module _ (rs : List TypedName) (is : List Instr) (r : Rel) (p q t : Term) (w : IsGoalOver c ls rs (phoare (body is) r p q t)) (Gs : List Goal) where
    before_typed : (x : Sampling) → IsDrawn c ls is x → IsTypedGoal c (without_sampling x r p q t)
    before_typed x dx = (ls, rs, (dx.rest, w.1, compared_typed goal r (measured x q) t (measured_made is x dx q w.2) (bound_made c t w.3 w.4 ls)))

  -- where weight may be lost before the sampling
  less : (rs : List TypedName) (is : List Instr) (p q t : Term) (w : IsGoalOver c ls rs (phoare (body is) AtMost p q t)) (Gs : List Goal) (x : Sampling) → IsDrawn c ls is x → first_clash (exclusions ds) side.Own x.target q ≡ None →
      given (without_sampling x AtMost p q t ∷ ambient (compared AtMost zero t) ∷ []) ≡ given Gs → AreSoundIn ds c (phoare (body is) AtMost p q t) Gs
  less rs is p q t w Gs x dx clear h =
      subst (AreSoundIn ds c (phoare (body is) AtMost p q t)) (same_given (without_sampling x AtMost p q t ∷ ambient (compared AtMost zero t) ∷ []) Gs h) (
        (before_typed rs is AtMost p q t w Gs x dx, ((ls, rs, compared_typed c AtMost zero t (number_made c (pos 0)) (real_made c t w.3 w.4)), tt)),
        implied_less is x dx p q t w.3 w.4 w.2 clear,
      )

  rest : (rs : List TypedName) (is : List Instr) (r : Rel) (p q t : Term) (w : IsGoalOver c ls rs (phoare (body is) r p q t)) (Gs : List Goal) (x : Sampling) → IsDrawn c ls is x → first_clash (exclusions ds) side.Own x.target q ≡ None →
      (l : Loss) → first_loss ds x.before ≡ l → of_rest l r t (without_sampling x r p q t) ≡ given Gs → AreSoundIn ds c (phoare (body is) r p q t) Gs
  rest rs is r p q t w Gs x dx clear nowhere f h =
      subst (AreSoundIn ds c (phoare (body is) r p q t)) (same_given (without_sampling x r p q t ∷ []) Gs h) ((before_typed rs is r p q t w Gs x dx, tt), implied_full is x dx r p q t w.3 w.4 w.2 clear f)
  rest rs is AtMost p q t w Gs x dx clear (sampled v) f h = less rs is p q t w Gs x dx clear h
  rest rs is AtMost p q t w Gs x dx clear called f h = less rs is p q t w Gs x dx clear h
  rest rs is Equal p q t w Gs x dx clear (sampled v) f h = refused_given (NotLossless v) Gs h
  rest rs is Equal p q t w Gs x dx clear called f h = refused_given Shape Gs h
  rest rs is AtLeast p q t w Gs x dx clear (sampled v) f h = refused_given (NotLossless v) Gs h
  rest rs is AtLeast p q t w Gs x dx clear called f h = refused_given Shape Gs h

  with_end : (rs : List TypedName) (is : List Instr) (r : Rel) (p q t : Term) (w : IsGoalOver c ls rs (phoare (body is) r p q t)) (Gs : List Goal) → (o : Option Sampling) → last_sampling is ≡ o →
      by_end ds r p q t o ≡ given Gs → AreSoundIn ds c (phoare (body is) r p q t) Gs
  with_end rs is r p q t w Gs None ex h = refused_given Shape Gs h
  with_end rs is r p q t w Gs (Some x) ex h = checked (first_clash (exclusions ds) side.Own x.target q) refl h
    where
      checked : (u : Option Var) → first_clash (exclusions ds) side.Own x.target q ≡ u → unless_clash (option_map (λ z. x.target) u) (of_rest (first_loss ds x.before) r t (without_sampling x r p q t)) ≡ given Gs →
          AreSoundIn ds c (phoare (body is) r p q t) Gs
      checked (Some z) e h = refused_given (SideCondition x.target) Gs h
      checked None e h = rest rs is r p q t w Gs x (drawn c ls is x w.0 ex) e (first_loss ds x.before) refl h

module _ (ds : Declarations) (scoped : IsTypedScope (declared ds)) (q : Sequent) (t : IsTypedSequent (context_of (declared ds)) q) where
  abbrev over_scope : Context
  over_scope = of_sequent (context_of (declared ds)) q t.frames

  weighs_all : LosesNone ds over_scope
  weighs_all g fits over ls is w e s m = total_full ds scoped q t g fits over ls is w e s m

  pub sound : IsSoundRuleIn (declared ds) over_scope (rnd_row ds) no_arguments
  sound outer ls rs (phoare (body is) r p f b) w k Gs e =
      let G = phoare (body is) r p f b in
      subst (λ c. AreSoundIn ds c G Gs) (sym outer)
      (with_end ds scoped over_scope ls (subst (LosesNone ds) outer weighs_all) rs is r p f b (subst (λ c. IsGoalOver c ls rs G) outer w) Gs (last_sampling is) refl e)
  sound outer ls rs (phoare (procedure a) r p f b) w k Gs e = refused_given Shape Gs e
  sound outer ls rs (hoare a p f) w k Gs e = refused_given Shape Gs e
  sound outer ls rs (equiv a d p f) w k Gs e = refused_given Shape Gs e
  sound outer ls rs (ambient f) w k Gs e = refused_given Shape Gs e
