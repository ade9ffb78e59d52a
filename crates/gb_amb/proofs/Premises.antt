-- What is to be shown of a conclusion, by its leading premise.
use Rattle.std.proofs.Common.{◌≡◌, ◌⊎◌, inl, inr, Bool, true, false, ◌||◌, if◌then◌else◌, List, [], ◌∷◌, Some, None, refl, ap, sym, ◌∙◌, subst}
use Rattle.std.specs.List.{AllByRecursion}
use Rattle.std.proofs.lemmas.Bool.{false≢true}
use Rattle.gb_core.specs.declared.place.Place.{Place}
use Rattle.gb_core.specs.declared.refusal.Why.TheVariants.{Shape}
use Rattle.gb_core.specs.declared.ty.Ty.{Ty}
use Rattle.gb_core.specs.declared.ty.Ty.TheVariants as ty
use Rattle.gb_terms.specs.declared.op.Op.TheVariants as op
use Rattle.gb_terms.specs.declared.op.Side.TheVariants as side
use Rattle.gb_terms.specs.declared.op.Read.TheVariants.{Logical, Program}
use Rattle.gb_terms.specs.declared.term.Term.{Term, out-Term}
use Rattle.gb_terms.specs.declared.term.Head.{Head}
use Rattle.gb_terms.specs.declared.term.Head.TheVariants as head
use Rattle.gb_terms.specs.Make.{node}
use Rattle.gb_goal.specs.Answers.Answer.{given, refused}
use Rattle.gb_steps.specs.declared.step.AmbientRule.{AmbientRule}
use Rattle.gb_steps.specs.declared.step.AmbientRule.TheVariants.{Discard, Unpack, Branch}
use Rattle.gb_meaning.specs.Meanings.{truth}
use Rattle.gb_meaning.specs.Setting.Meaning.{finite}
use Rattle.gb_meaning.specs.Setting.{Setting}
use Rattle.gb_meaning.specs.State.{State, Binding, under}
use Rattle.gb_meaning.specs.State.Binding.{value as value_bound, memory as memory_bound}
use Rattle.gb_meaning.specs.Judgments.{Judge, IsFair, IsSoundForm, den}
use Rattle.gb_meaning.proofs.Nodes.{each_is_node}
use Rattle.gb_laws.proofs.Exact.{trying}
use Rattle.gb_laws.proofs.Fair.{is_fair}
use Rattle.gb_meaning.proofs.Truths.{true_or, true_all, true_some, true_all_memory, true_some_memory}
use Rattle.gb_laws.proofs.Unique.{true_under_each}
use Rattle.gb_laws.specs.Agree.{Agree}
use Rattle.gb_laws.specs.Uses.Use.{read as reads, bound, globals, starts, binds_own, binds_sides}
use Rattle.gb_laws.proofs.Agreeing.{form_agrees}
use Rattle.gb_meaning.specs.Declared.{Declarations}
use Rattle.gb_meaning.specs.Settings.{Interpretation, setting}
use Rattle.gb_meaning.specs.Truth.{has_module, Truth}
use Rattle.gb_meaning.proofs.Fronts.{without_modules}
use Rattle.gb_laws.specs.Typing.Binder.{value, memory}
use Rattle.gb_typing.specs.Context.{Context, Frame, within}
use Rattle.gb_typing.specs.Typing.{IsForm}
use Rattle.gb_typing.specs.Formulas.{IsFormula}
use Rattle.gb_typing.specs.Fits.{IsSettingOf, IsStateOf}
use Rattle.gb_typing.specs.Sequents.{IsConclusion}
use Rattle.gb_typing.proofs.Conclusions.{formula_form}
use Rattle.gb_typing.proofs.Formed.{formed}
use Rattle.gb_typing.proofs.Made.{made_node, parts_typed}
use Rattle.gb_typing.proofs.Sound.{procedures_sound, sound_form}
use Rattle.gb_typing.proofs.Uses.{uses_of, uses_typed}
use Rattle.gb_typing.specs.Forms.{implies_form}
use Rattle.gb_goal.specs.Goal.Goal.{ambient}
use Rattle.gb_typing.proofs.TypedGoals.{goal_conclusion, no_module as front_of}
use Rattle.gb_typing.proofs.Forms.{and_use, form_made, implies_typed, implies_use, made_form}
use Rattle.gb_typing.proofs.Given.{refused_at, same_given}
use Rattle.gb_amb.specs.Parts.{by_premise, unless_module}
use Rattle.gb_amb.specs.Quantified.{quantifies_modules}
use Rattle.gb_amb.proofs.Cases.{implication_formula, implication_made, implication_typed, implication_used}
use Rattle.gb_amb.proofs.Fronts.{none_in_front}
use Rattle.gb_amb.proofs.States.{not_in}
use Rattle.gb_amb.proofs.Wider.{small, behind}

either : (a b : Bool) → (a || b) ≡ true → (a ≡ true) ⊎ (b ≡ true)
either true b e = inl refl
either false b e = inr e

-- a form that stands for a conclusion
form_conclusion : (c : Context) (f : Term) → IsForm c f → IsConclusion c f
form_conclusion c f w = goal_conclusion c [] [] (ambient f) w

-- typed conclusions, and a formula that follows from them in each setting of a context
pub record Follows (ds : Declarations) (c : Context) (f : Term) (fs : List Term) : Type 0 where
  pub typed : AllByRecursion (IsConclusion c) fs
  pub leads : (k : Interpretation) → IsSettingOf c (setting ds k) → (s : State) → IsStateOf c (setting ds k) s → AllByRecursion (λ a. Truth ds a k s) fs → Truth ds f k s

module _ (ds : Declarations) (b : Context) (us : List Ty) (ns : List Frame) (f : Term) (v : IsFormula (small b us ns) f) where
  abbrev c : Context
  c = small b us ns

  -- under a premise
  abbrev Shown : Term → List Term → Type 0
  Shown a fs = Follows ds c (implies_form a f) fs

  dropped : (a : Term) → IsForm c a → IsConclusion c f → Shown a (f ∷ [])
  dropped a w u = record {
    typed = (u, tt);
    leads = λ k fits s fit h. implication_made ds k s a f (sound_form (setting ds k) c (procedures_sound c (setting ds k) fits) a w.typed) (λ p. h.0);
  }

  of_both : (x y : Term) (r : Ty) → IsForm c (node (head.Builtin op.And) (x ∷ y ∷ []) r) → Shown (node (head.Builtin op.And) (x ∷ y ∷ []) r) (implies_form x (implies_form y f) ∷ [])
  of_both x y r w =
      let n = parts_typed c (head.Builtin op.And) (x ∷ y ∷ []) r w.typed in
      let wx : IsForm c x = record { typed = n.3.0; truth = n.0.0 } in
      let wy : IsForm c y = record { typed = n.3.1; truth = n.0.1.0 } in
      record {
        typed = (implication_typed c x wx (implies_form y f) (implication_formula c y wy f v), tt);
        leads = λ k fits s fit h.
            implication_made ds k s (node (head.Builtin op.And) (x ∷ y ∷ []) r) f (sound_form (setting ds k) c (procedures_sound c (setting ds k) fits) (node (head.Builtin op.And) (x ∷ y ∷ []) r) w.typed)
            (λ p.
            let both : (j : Judge) → IsFair (setting ds k) j → (den (setting ds k) j x s ≡ true) × (den (setting ds k) j y s ≡ true) =
            λ j fair. and_use (setting ds k) j x y s (subst (λ r. den (setting ds k) j (node (head.Builtin op.And) (x ∷ y ∷ []) r) s ≡ true) n.0.1.1.0 (p j fair)) in
            implication_used ds k s y f (implication_used ds k s x (implies_form y f) h.0 (λ j fair. (both j fair).0)) (λ j fair. (both j fair).1));
      }

  by_side : (k : Interpretation) (s : State) (x y : Term) → IsSoundForm (setting ds k) x → IsSoundForm (setting ds k) y → Truth ds (implies_form x f) k s → Truth ds (implies_form y f) k s →
      (den (setting ds k) (trying (setting ds k)) x s ≡ true) ⊎ (den (setting ds k) (trying (setting ds k)) y s ≡ true) → Truth ds f k s
  by_side k s x y sx sy hx hy (inl e) = implication_used ds k s x f hx ((true_under_each (setting ds k) (trying (setting ds k)) (is_fair (setting ds k)) x sx s).1 e)
  by_side k s x y sx sy hx hy (inr e) = implication_used ds k s y f hy ((true_under_each (setting ds k) (trying (setting ds k)) (is_fair (setting ds k)) y sy s).1 e)

  of_either : (x y : Term) (r : Ty) → IsForm c (node (head.Builtin op.Or) (x ∷ y ∷ []) r) → Shown (node (head.Builtin op.Or) (x ∷ y ∷ []) r) (implies_form x f ∷ implies_form y f ∷ [])
  of_either x y r w =
      let n = parts_typed c (head.Builtin op.Or) (x ∷ y ∷ []) r w.typed in
      let wx : IsForm c x = record { typed = n.3.0; truth = n.0.0 } in
      let wy : IsForm c y = record { typed = n.3.1; truth = n.0.1.0 } in
      record {
        typed = (implication_typed c x wx f v, (implication_typed c y wy f v, tt));
        leads = λ k fits s fit h.
            let g = setting ds k in
            let sound = procedures_sound c g fits in
            implication_made ds k s (node (head.Builtin op.Or) (x ∷ y ∷ []) r) f (sound_form g c sound (node (head.Builtin op.Or) (x ∷ y ∷ []) r) w.typed)
            (λ p. by_side k s x y (sound_form g c sound x wx.typed) (sound_form g c sound y wy.typed) h.0 h.1.0
            (either (den g (trying g) x s) (den g (trying g) y s)
            (sym (true_or g (trying g) x y s) ∙ subst (λ r. den g (trying g) (node (head.Builtin op.Or) (x ∷ y ∷ []) r) s ≡ true) n.0.1.1.0 (p (trying g) (is_fair g)))));
      }

  -- Behind a quantifier a form of the goal means the same.
  module _ (g : Setting) (fits : IsSettingOf c g) (j : Judge) (fair : IsFair g j) (s : State) (d : Binding) (w : IsForm c f) where
    agree : Agree g (uses_of c) (under s d) s
    agree (reads (Logical i) t) k = refl
    agree (reads (Program x side.Own) t) k = refl
    agree (reads (Program x side.Left) t) k = refl
    agree (reads (Program x side.Right) t) k = refl
    agree (reads (Program x (side.Memory i)) t) k = refl
    agree (reads (Program x (side.Bound i)) t) k = absurd (not_in c x t k)
    agree (bound i) k = absurd (false≢true k)
    agree (globals x r) k = absurd (false≢true k)
    agree (starts side.Own) k = refl
    agree (starts side.Left) k = refl
    agree (starts side.Right) k = refl
    agree (starts (side.Memory i)) k = refl
    agree (starts (side.Bound i)) k = absurd (false≢true k)
    agree binds_own k = tt
    agree binds_sides k = tt

    outside : den g j f (under s d) ≡ true → den g j f s ≡ true
    outside h =
        sym (ap truth (form_agrees g j fair f (formed c f w.typed) (sound_form g c (procedures_sound c g fits) f w.typed) (uses_of c) (under s d) s agree (uses_typed c f w.typed))) ∙ h

  module _ (n : has_module f ≡ false) where
    plain : IsForm c f
    plain = formula_form c f v n

    of_value : (u : Ty) (x : Term) (r : Ty) → IsForm c (node (head.Some u) (x ∷ []) r) → Shown (node (head.Some u) (x ∷ []) r) (node (head.All u) (implies_form x f ∷ []) ty.Bool ∷ [])
    of_value u x r w =
        let p = parts_typed c (head.Some u) (x ∷ []) r w.typed in
        let d : Context = within c (value u) None in
        let wx : IsForm d x = record { typed = p.3; truth = p.0.1.0 } in
        let body : IsForm d (implies_form x f) = implies_typed d x f wx (behind b us ns (value u) None f plain) in
        let shown : IsForm c (node (head.All u) (implies_form x f ∷ []) ty.Bool) =
        form_made c _ (made_node c (head.All u) (ty.Bool ∷ []) (implies_form x f ∷ []) ty.Bool (p.0.0, (refl, (refl, tt))) tt [] (made_form d (implies_form x f) body)) in
        record {
          typed = (form_conclusion c _ shown, tt);
          leads = λ k fits s fit h.
              implication_made ds k s (node (head.Some u) (x ∷ []) r) f (sound_form (setting ds k) c (procedures_sound c (setting ds k) fits) (node (head.Some u) (x ∷ []) r) w.typed)
              (λ q. (without_modules ds f k s n).1 (λ j fair.
              let e = (true_some (setting ds k) j u x s).0 (subst (λ r. den (setting ds k) j (node (head.Some u) (x ∷ []) r) s ≡ true) p.0.1.1.0 (q j fair)) in
              let each = (true_all (setting ds k) j u (implies_form x f) s).0 ((without_modules ds (node (head.All u) (implies_form x f ∷ []) ty.Bool) k s (front_of c (node (head.All u) (implies_form x f ∷ []) ty.Bool) shown.typed)).0 h.0 j fair) in
              outside (setting ds k) fits j fair s (value_bound (finite e.0)) plain (implies_use (setting ds k) j x f (under s (value_bound (finite e.0))) (each e.0 e.1) e.2)));
        }

    of_memory : (x : Term) (r : Ty) → IsForm c (node head.SomeMemory (x ∷ []) r) → Shown (node head.SomeMemory (x ∷ []) r) (node head.AllMemory (implies_form x f ∷ []) ty.Bool ∷ [])
    of_memory x r w =
        let p = parts_typed c head.SomeMemory (x ∷ []) r w.typed in
        let d : Context = within c memory (Some p.2) in
        let wx : IsForm d x = record { typed = p.3; truth = p.0.0 } in
        let body : IsForm d (implies_form x f) = implies_typed d x f wx (behind b us ns memory (Some p.2) f plain) in
        let shown : IsForm c (node head.AllMemory (implies_form x f ∷ []) ty.Bool) =
        form_made c _ (made_node c head.AllMemory (ty.Bool ∷ []) (implies_form x f ∷ []) ty.Bool (refl, (refl, tt)) tt p.2 (made_form d (implies_form x f) body)) in
        record {
          typed = (form_conclusion c _ shown, tt);
          leads = λ k fits s fit h.
              implication_made ds k s (node head.SomeMemory (x ∷ []) r) f (sound_form (setting ds k) c (procedures_sound c (setting ds k) fits) (node head.SomeMemory (x ∷ []) r) w.typed)
              (λ q. (without_modules ds f k s n).1 (λ j fair.
              let e = (true_some_memory (setting ds k) j fair x s).0 (subst (λ r. den (setting ds k) j (node head.SomeMemory (x ∷ []) r) s ≡ true) p.0.1.0 (q j fair)) in
              let each = (true_all_memory (setting ds k) j fair (implies_form x f) s).0 ((without_modules ds (node head.AllMemory (implies_form x f ∷ []) ty.Bool) k s (front_of c (node head.AllMemory (implies_form x f ∷ []) ty.Bool) shown.typed)).0 h.0 j fair) in
              outside (setting ds k) fits j fair s (memory_bound e.0) plain (implies_use (setting ds k) j x f (under s (memory_bound e.0)) (each e.0) e.1)));
        }

  module _ (place : Place) (u : IsConclusion c f) where
    unless : (x g : Term) (fs : List Term) → unless_module place f g ≡ given fs → (has_module f ≡ false → Shown x (g ∷ [])) → Shown x fs
    unless x g fs e h = step (quantifies_modules f) refl e
      where
        step : (t : Bool) → quantifies_modules f ≡ t → (if t then refused Shape place else given (g ∷ [])) ≡ given fs → Shown x fs
        step true q e = refused_at Shape place fs e
        step false q e = subst (Shown x) (same_given (g ∷ []) fs e) (h (none_in_front f q))

    by_shape : (r : AmbientRule) (h : Head) (ts : List Term) (t : Ty) → IsForm c (node h ts t) → (fs : List Term) → by_premise r place h ts f ≡ given fs → Shown (node h ts t) fs
    by_shape Discard h ts t w fs e = subst (Shown (node h ts t)) (same_given (f ∷ []) fs e) (dropped (node h ts t) w u)
    by_shape Unpack (head.Builtin op.And) (x ∷ y ∷ []) t w fs e = subst (Shown (node (head.Builtin op.And) (x ∷ y ∷ []) t)) (same_given _ fs e) (of_both x y t w)
    by_shape Unpack (head.Some z) (x ∷ []) t w fs e = unless (node (head.Some z) (x ∷ []) t) (node (head.All z) (implies_form x f ∷ []) ty.Bool) fs e (λ n. of_value n z x t w)
    by_shape Unpack head.SomeMemory (x ∷ []) t w fs e = unless (node head.SomeMemory (x ∷ []) t) (node head.AllMemory (implies_form x f ∷ []) ty.Bool) fs e (λ n. of_memory n x t w)
    by_shape Branch (head.Builtin op.Or) (x ∷ y ∷ []) t w fs e = subst (Shown (node (head.Builtin op.Or) (x ∷ y ∷ []) t)) (same_given _ fs e) (of_either x y t w)
    by_shape r h ts t w fs e = refused_at Shape place fs e

    pub premise_follows : (r : AmbientRule) (a : Term) → IsForm c a → (fs : List Term) → by_premise r place (out-Term a).head (out-Term a).args f ≡ given fs → Shown a fs
    premise_follows r a w fs e =
        subst (λ x. Shown x fs) (sym (each_is_node a))
        (by_shape r (out-Term a).head (out-Term a).args (out-Term a).ty (subst (IsForm c) (each_is_node a) w) fs e)
