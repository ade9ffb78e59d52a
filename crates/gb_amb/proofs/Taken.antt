-- The parts of a conclusion are typed, and imply it.
use Rattle.std.proofs.Common.{◌≡◌, ◌⊎◌, inl, inr, Bool, true, false, ◌||◌, pos, negsuc, List, [], ◌∷◌, refl, ap, sym, ◌∙◌, subst}
use Rattle.std.specs.List.{AllByRecursion}
use Rattle.std.proofs.lemmas.Bool.{false≢true}
use Rattle.gb_core.specs.declared.place.Place.{Place}
use Rattle.gb_core.specs.declared.refusal.Why.TheVariants.{Shape}
use Rattle.gb_core.specs.declared.ty.Ty.{Ty}
use Rattle.gb_core.specs.declared.ty.Ty.TheVariants as ty
use Rattle.gb_terms.specs.declared.op.Op.TheVariants as op
use Rattle.gb_terms.specs.declared.term.Term.{Term, Term', Row_of-Term, end_of-Term, more_of-Term, end_of-Head, more_of-Head, out-Term}
use Rattle.gb_terms.specs.declared.term.Head.{Head}
use Rattle.gb_terms.specs.declared.term.Head.TheVariants as head
use Rattle.gb_terms.specs.Make.{applied, node}
use Rattle.gb_goal.specs.Answers.Answer.{given, refused}
use Rattle.gb_steps.specs.declared.step.AmbientRule.{AmbientRule}
use Rattle.gb_steps.specs.declared.step.AmbientRule.TheVariants.{Split, Left, Right, Discard}
use Rattle.gb_meaning.specs.Commands.{terms_in}
use Rattle.gb_meaning.specs.Fractions.{Fraction, absolute, opposite}
use Rattle.gb_meaning.specs.Meanings.{fraction_in, truth}
use Rattle.gb_meaning.specs.Operators.{alike, at_most, negated}
use Rattle.gb_meaning.specs.Setting.{Meaning, Setting}
use Rattle.gb_meaning.specs.Setting.Meaning.{fraction}
use Rattle.gb_meaning.specs.Terms.{val}
use Rattle.gb_meaning.specs.State.{State}
use Rattle.gb_meaning.specs.Written.{type_of}
use Rattle.gb_meaning.specs.Judgments.{Judge, den, IsTrueUnder, speaking}
use Rattle.gb_meaning.proofs.Nodes.{each_is_node, val_node}
use Rattle.gb_meaning.proofs.Truths.{true_or, true_iff, truth_of}
use Rattle.gb_laws.proofs.Trees.{out_is}
use Rattle.gb_meaning.specs.Truth.{Choice, has_module, last_has_module}
use Rattle.gb_laws.specs.Typing.{types_of, IsHead}
use Rattle.gb_laws.proofs.Nodes.{type_of_node}
use Rattle.gb_typing.specs.Context.{Context, erased}
use Rattle.gb_typing.specs.Typing.{AreTyped, IsForm, IsTyped}
use Rattle.gb_typing.specs.Fits.{IsSettingOf, IsStateOf}
use Rattle.gb_typing.proofs.Made.{made_node, parts_typed}
use Rattle.gb_typing.specs.Formulas.{IsFirstForm, IsFormula, IsLastFormula}
use Rattle.gb_typing.specs.Sequents.{IsConclusion}
use Rattle.gb_typing.specs.Forms.{implies_form}
use Rattle.gb_typing.proofs.Forms.{form_made, implies_typed, implies_use, and_make}
use Rattle.gb_typing.proofs.Given.{refused_at, same_given}
use Rattle.gb_amb.specs.Parts.{at_most_form, bounded_at, by_premise, by_shape, parts_at, parts_of}
use Rattle.gb_amb.proofs.Cases.{form_formula}
use Rattle.gb_amb.proofs.Itself.{real_value}
use mathlib.Core.Former.{Count}

-- a form, and typed forms that imply it under each judge, in the settings and states of their context
pub record ComesFrom (c : Context) (f : Term) (fs : List Term) : Type 0 where
  pub typed : AllByRecursion (IsForm c) fs
  pub implied : (g : Setting) (j : Judge) (s : State) → IsSettingOf c g → IsStateOf c g s → AllByRecursion (λ a. IsTrueUnder g j a s) fs → IsTrueUnder g j f s

alike_made : (a b : Bool) → (a ≡ true → b ≡ true) → (b ≡ true → a ≡ true) → alike a b ≡ true
alike_made true true f h = refl
alike_made true false f h = f refl
alike_made false true f h = h refl
alike_made false false f h = refl

left_true : (a b : Bool) → a ≡ true → (a || b) ≡ true
left_true true b e = refl
left_true false b e = absurd (false≢true e)

right_true : (a b : Bool) → b ≡ true → (a || b) ≡ true
right_true true b e = refl
right_true false b e = e

-- bounds on reals

abbrev opposite_of : Term → Term
opposite_of x = applied op.Negate (x ∷ []) ty.Real

module _ (c : Context) where
  at_most_typed : (a b : Term) → IsTyped c a → IsTyped c b → type_of a ≡ ty.Real → type_of b ≡ ty.Real → IsForm c (at_most_form a b)
  at_most_typed a b v w x y =
      form_made c (at_most_form a b)
      (made_node c (head.Builtin op.AtMost) (ty.Real ∷ ty.Real ∷ []) (a ∷ b ∷ []) ty.Bool (tt, refl, refl) tt []
      (record { typed = v; written = x }, record { typed = w; written = y }))

  opposite_typed : (a : Term) → IsTyped c a → type_of a ≡ ty.Real → IsTyped c (opposite_of a)
  opposite_typed a v x =
      let m = made_node c (head.Builtin op.Negate) (ty.Real ∷ []) (a ∷ []) ty.Real (tt, refl) tt [] (record { typed = v; written = x }) in
      m.typed

absolute_below : (x : Fraction) (y : Meaning) → at_most (fraction x) y ≡ true → at_most (fraction (opposite x)) y ≡ true → at_most (fraction (absolute x)) y ≡ true
absolute_below (pos n, d) y h k = h
absolute_below (negsuc n, d) y h k = k

module _ (c : Context) (g : Setting) (j : Judge) (s : State) (fits : IsSettingOf c g) (fit : IsStateOf c g s) where
  abbrev M : Term → Meaning
  M t = val g (speaking g j) t s

  compared : (a b : Term) → den g j (at_most_form a b) s ≡ at_most (M a) (M b)
  compared a b = ap truth (val_node g (speaking g j) (head.Builtin op.AtMost) (a ∷ b ∷ []) ty.Bool s) ∙ truth_of (at_most (M a) (M b))

  -- an absolute value is at most what a real and its opposite are at most
  absolute_true : (x b : Term) (u : Ty) → IsTyped c x → type_of x ≡ ty.Real → IsTrueUnder g j (at_most_form x b) s → IsTrueUnder g j (at_most_form (opposite_of x) b) s →
      IsTrueUnder g j (at_most_form (node (head.Builtin op.Abs) (x ∷ []) u) b) s
  absolute_true x b u w is h k =
      let v = real_value c g fits j s fit x w is in
      let direct = subst (λ m. at_most m (M b) ≡ true) v.1 (sym (compared x b) ∙ h) in
      let opposed = subst (λ m. at_most (negated m) (M b) ≡ true) v.1
      (subst (λ m. at_most m (M b) ≡ true) (val_node g (speaking g j) (head.Builtin op.Negate) (x ∷ []) ty.Real s) (sym (compared (opposite_of x) b) ∙ k)) in
      compared (node (head.Builtin op.Abs) (x ∷ []) u) b
      ∙ ap (λ m. at_most m (M b)) (val_node g (speaking g j) (head.Builtin op.Abs) (x ∷ []) u s)
      ∙ ap (λ m. at_most (fraction (absolute (fraction_in m))) (M b)) v.1
      ∙ absolute_below v.0 (M b) direct opposed

module _ (c : Context) (r : AmbientRule) (place : Place) where
  abbrev at_node : Head → List Term → Ty → List Term → Type 0
  at_node h ts t fs = ComesFrom c (node h ts t) fs

  of_and : {n : Count} (ts : Row_of-Term n) (t : Ty) → IsHead (erased c) (head.Builtin op.And) (types_of ts) t → AreTyped c c c ts → (fs : List Term) →
      parts_at Split place (head.Builtin op.And) (terms_in ts) ≡ given fs → at_node (head.Builtin op.And) (terms_in ts) t fs
  of_and (more_of-Term a (more_of-Term b end_of-Term)) t k w fs e =
      subst (at_node (head.Builtin op.And) (a ∷ b ∷ []) t) (same_given (a ∷ b ∷ []) fs e) (record {
        typed = (record { typed = w.0; truth = k.0 }, (record { typed = w.1; truth = k.1.0 }, tt));
        implied = λ g j s fits fit h. subst (λ t. IsTrueUnder g j (node (head.Builtin op.And) (a ∷ b ∷ []) t) s) (sym k.1.1.0) (and_make g j a b s h.0 h.1.0);
      })
  of_and end_of-Term t k w fs e = refused_at Shape place fs e
  of_and (more_of-Term a end_of-Term) t k w fs e = refused_at Shape place fs e
  of_and (more_of-Term a (more_of-Term b (more_of-Term d ts))) t k w fs e = refused_at Shape place fs e

  of_iff : {n : Count} (ts : Row_of-Term n) (t : Ty) → IsHead (erased c) (head.Builtin op.Iff) (types_of ts) t → AreTyped c c c ts → (fs : List Term) →
      parts_at Split place (head.Builtin op.Iff) (terms_in ts) ≡ given fs → at_node (head.Builtin op.Iff) (terms_in ts) t fs
  of_iff (more_of-Term a (more_of-Term b end_of-Term)) t k w fs e =
      let x : IsForm c a = record { typed = w.0; truth = k.0 } in
      let y : IsForm c b = record { typed = w.1; truth = k.1.0 } in
      subst (at_node (head.Builtin op.Iff) (a ∷ b ∷ []) t) (same_given (implies_form a b ∷ implies_form b a ∷ []) fs e) (record {
        typed = (implies_typed c a b x y, (implies_typed c b a y x, tt));
        implied = λ g j s fits fit h. subst (λ t. IsTrueUnder g j (node (head.Builtin op.Iff) (a ∷ b ∷ []) t) s) (sym k.1.1.0)
            (true_iff g j a b s ∙ alike_made (den g j a s) (den g j b s) (implies_use g j a b s h.0) (implies_use g j b a s h.1.0));
      })
  of_iff end_of-Term t k w fs e = refused_at Shape place fs e
  of_iff (more_of-Term a end_of-Term) t k w fs e = refused_at Shape place fs e
  of_iff (more_of-Term a (more_of-Term b (more_of-Term d ts))) t k w fs e = refused_at Shape place fs e

  of_left : {n : Count} (ts : Row_of-Term n) (t : Ty) → IsHead (erased c) (head.Builtin op.Or) (types_of ts) t → AreTyped c c c ts → (fs : List Term) →
      parts_at Left place (head.Builtin op.Or) (terms_in ts) ≡ given fs → at_node (head.Builtin op.Or) (terms_in ts) t fs
  of_left (more_of-Term a (more_of-Term b end_of-Term)) t k w fs e =
      subst (at_node (head.Builtin op.Or) (a ∷ b ∷ []) t) (same_given (a ∷ []) fs e) (record {
        typed = (record { typed = w.0; truth = k.0 }, tt);
        implied = λ g j s fits fit h. subst (λ t. IsTrueUnder g j (node (head.Builtin op.Or) (a ∷ b ∷ []) t) s) (sym k.1.1.0)
            (true_or g j a b s ∙ left_true (den g j a s) (den g j b s) h.0);
      })
  of_left end_of-Term t k w fs e = refused_at Shape place fs e
  of_left (more_of-Term a end_of-Term) t k w fs e = refused_at Shape place fs e
  of_left (more_of-Term a (more_of-Term b (more_of-Term d ts))) t k w fs e = refused_at Shape place fs e

  of_right : {n : Count} (ts : Row_of-Term n) (t : Ty) → IsHead (erased c) (head.Builtin op.Or) (types_of ts) t → AreTyped c c c ts → (fs : List Term) →
      parts_at Right place (head.Builtin op.Or) (terms_in ts) ≡ given fs → at_node (head.Builtin op.Or) (terms_in ts) t fs
  of_right (more_of-Term a (more_of-Term b end_of-Term)) t k w fs e =
      subst (at_node (head.Builtin op.Or) (a ∷ b ∷ []) t) (same_given (b ∷ []) fs e) (record {
        typed = (record { typed = w.1; truth = k.1.0 }, tt);
        implied = λ g j s fits fit h. subst (λ t. IsTrueUnder g j (node (head.Builtin op.Or) (a ∷ b ∷ []) t) s) (sym k.1.1.0)
            (true_or g j a b s ∙ right_true (den g j a s) (den g j b s) h.0);
      })
  of_right end_of-Term t k w fs e = refused_at Shape place fs e
  of_right (more_of-Term a end_of-Term) t k w fs e = refused_at Shape place fs e
  of_right (more_of-Term a (more_of-Term b (more_of-Term d ts))) t k w fs e = refused_at Shape place fs e

  -- a bound on an absolute value
  bounded_by : (a b : Term) (t : Ty) → IsTyped c a → IsTyped c b → type_of a ≡ type_of b → t ≡ ty.Bool → (fs : List Term) → (h : Head) (ts : List Term) (u : Ty) → a ≡ node h ts u →
      bounded_at place h ts b ≡ given fs → at_node (head.Builtin op.AtMost) (a ∷ b ∷ []) t fs
  bounded_by a b t v w same is fs (head.Builtin op.Abs) (x ∷ []) u e k =
      let n = parts_typed c (head.Builtin op.Abs) (x ∷ []) u (subst (IsTyped c) e v) in
      let real = sym same ∙ ap type_of e ∙ type_of_node (head.Builtin op.Abs) (x ∷ []) u ∙ n.0.1.0 in
      subst (at_node (head.Builtin op.AtMost) (a ∷ b ∷ []) t) (same_given _ fs k) (record {
        typed = (at_most_typed c x b n.3 w n.0.0 real, (at_most_typed c (opposite_of x) b (opposite_typed c x n.3 n.0.0) w (type_of_node (head.Builtin op.Negate) (x ∷ []) ty.Real) real, tt));
        implied = λ g j s fits fit h. subst (λ t. IsTrueUnder g j (node (head.Builtin op.AtMost) (a ∷ b ∷ []) t) s) (sym is)
            (subst (λ a. IsTrueUnder g j (at_most_form a b) s) (sym e)
            (absolute_true c g j s fits fit x b u n.3 n.0.0 h.0 h.1.0));
      })
  bounded_by a b t v w same is fs h ts u e k = refused_at Shape place fs k

  of_bound : {n : Count} (ts : Row_of-Term n) (t : Ty) → IsHead (erased c) (head.Builtin op.AtMost) (types_of ts) t → AreTyped c c c ts → (fs : List Term) →
      parts_at Split place (head.Builtin op.AtMost) (terms_in ts) ≡ given fs → at_node (head.Builtin op.AtMost) (terms_in ts) t fs
  of_bound (more_of-Term a (more_of-Term b end_of-Term)) t k w fs e =
      bounded_by a b t w.0 w.1 k.1 k.2 fs (out-Term a).head (out-Term a).args (out-Term a).ty (each_is_node a) e
  of_bound end_of-Term t k w fs e = refused_at Shape place fs e
  of_bound (more_of-Term a end_of-Term) t k w fs e = refused_at Shape place fs e
  of_bound (more_of-Term a (more_of-Term b (more_of-Term d ts))) t k w fs e = refused_at Shape place fs e

-- a conclusion that has parts is a form
pub record IsTaken (c : Context) (f : Term) (fs : List Term) : Type 0 where
  pub form : IsForm c f
  pub from : ComesFrom c f fs

abbrev pub is_implies : Head → Bool
is_implies (head.Builtin op.Implies) = true
is_implies _ = false

-- a conclusion that is a formula under a premise, by which its parts are
pub record IsUnder (c : Context) (place : Place) (r : AmbientRule) (f : Term) (fs : List Term) : Type 0 where
  pub premise : Term
  pub rest : Term
  pub form : IsForm c premise
  pub formula : IsFormula c rest
  pub is : f ≡ implies_form premise rest
  pub args : (out-Term f).args ≡ premise ∷ rest ∷ []
  pub parts : by_premise r place (out-Term premise).head (out-Term premise).args rest ≡ given fs

module _ (place : Place) where
  none : (r : AmbientRule) → by_shape r place (head.Builtin op.Implies) [] ≡ refused Shape place
  none Split = refl
  none Left = refl
  none Right = refl
  none r = refl

  alone : (r : AmbientRule) (a : Term) → by_shape r place (head.Builtin op.Implies) (a ∷ []) ≡ refused Shape place
  alone Split a = refl
  alone Left a = refl
  alone Right a = refl
  alone r a = refl

  pair : (r : AmbientRule) (a b : Term) → by_shape r place (head.Builtin op.Implies) (a ∷ b ∷ []) ≡ by_premise r place (out-Term a).head (out-Term a).args b
  pair Split a b = refl
  pair Left a b = refl
  pair Right a b = refl
  pair r a b = refl

  many : (r : AmbientRule) (a b d : Term) (ts : List Term) → by_shape r place (head.Builtin op.Implies) (a ∷ b ∷ d ∷ ts) ≡ refused Shape place
  many Split a b d ts = refl
  many Left a b d ts = refl
  many Right a b d ts = refl
  many r a b d ts = refl

module _ (c : Context) (place : Place) where
  of_implies : {m : Count} (r : AmbientRule) (ts : Row_of-Term m) (t : Ty) (f : Term) (W : Type 0) →
      (W → IsHead (erased c) (head.Builtin op.Implies) (types_of ts) t × AreTyped c c c ts) → f ≡ node (head.Builtin op.Implies) (terms_in ts) t → (out-Term f).args ≡ terms_in ts →
      Choice (last_has_module ts) (IsHead (erased c) (head.Builtin op.Implies) (types_of ts) t × IsFirstForm c ts × IsLastFormula c ts) W →
      (fs : List Term) → by_shape r place (head.Builtin op.Implies) (terms_in ts) ≡ given fs → IsUnder c place r f fs
  of_implies r (more_of-Term a (more_of-Term b end_of-Term)) t f W k is args w fs e =
      let x = by_choice (has_module b) w in
      record { premise = a; rest = b; form = x.1; formula = x.2; is = is ∙ ap (λ t. node (head.Builtin op.Implies) (a ∷ b ∷ []) t) x.0; args = args; parts = sym (pair place r a b) ∙ e }
    where
      by_choice : (z : Bool) → Choice z (IsHead (erased c) (head.Builtin op.Implies) (type_of a ∷ type_of b ∷ []) t × IsForm c a × IsFormula c b) W → (t ≡ ty.Bool) × IsForm c a × IsFormula c b
      by_choice true v = (v.0.1.1.0, v.1, v.2)
      by_choice false v = let y = k v in (y.0.1.1.0, record { typed = y.1.0; truth = y.0.0 }, form_formula c b (record { typed = y.1.1; truth = y.0.1.0 }))
  of_implies r end_of-Term t f W k is args w fs e = refused_at Shape place fs (sym (none place r) ∙ e)
  of_implies r (more_of-Term a end_of-Term) t f W k is args w fs e = refused_at Shape place fs (sym (alone place r a) ∙ e)
  of_implies r (more_of-Term a (more_of-Term b (more_of-Term d ts))) t f W k is args w fs e = refused_at Shape place fs (sym (many place r a b d (terms_in ts)) ∙ e)

  by_layer : (r : AmbientRule) (h : Head) (n : _) (ts : _) (t : Ty) (fs : List Term) → parts_of r place (Term' tt (more_of-Head h end_of-Head) n ts t) ≡ given fs → by_shape r place h (terms_in ts) ≡ given fs
  by_layer r h n ts t fs e = subst (λ x. by_shape r place x.head x.args ≡ given fs) (out_is h n ts t) e

  node_of : (h : Head) (n : _) (ts : _) (t : Ty) → Term' tt (more_of-Head h end_of-Head) n ts t ≡ node h (terms_in ts) t
  node_of h n ts t = each_is_node (Term' tt (more_of-Head h end_of-Head) n ts t) ∙ ap (λ x. node x.head x.args x.ty) (out_is h n ts t)

  taken : (r : AmbientRule) (h : Head) (n : _) (ts : _) (t : Ty) (fs : List Term) → IsForm c (Term' tt (more_of-Head h end_of-Head) n ts t) → ComesFrom c (node h (terms_in ts) t) fs →
      IsTaken c (Term' tt (more_of-Head h end_of-Head) n ts t) fs ⊎ IsUnder c place r (Term' tt (more_of-Head h end_of-Head) n ts t) fs
  taken r h n ts t fs w k = inl (record { form = w; from = subst (λ f. ComesFrom c f fs) (sym (node_of h n ts t)) k })

  under : (r : AmbientRule) (n : _) (ts : _) (t : Ty) → IsConclusion c (Term' tt (more_of-Head (head.Builtin op.Implies) end_of-Head) n ts t) → (fs : List Term) →
      parts_of r place (Term' tt (more_of-Head (head.Builtin op.Implies) end_of-Head) n ts t) ≡ given fs → IsUnder c place r (Term' tt (more_of-Head (head.Builtin op.Implies) end_of-Head) n ts t) fs
  under r n ts t w fs e =
      of_implies r ts t (Term' tt (more_of-Head (head.Builtin op.Implies) end_of-Head) n ts t) (IsForm c (Term' tt (more_of-Head (head.Builtin op.Implies) end_of-Head) n ts t))
      (λ v. (v.typed.0, v.typed.3)) (node_of (head.Builtin op.Implies) n ts t) (ap (λ x. x.args) (out_is (head.Builtin op.Implies) n ts t)) w fs (by_layer r (head.Builtin op.Implies) n ts t fs e)

  -- a conclusion that is an implication
  pub implies_under : (f : Term) → IsConclusion c f → is_implies (out-Term f).head ≡ true → (fs : List Term) → parts_of Discard place f ≡ given fs → IsUnder c place Discard f fs
  implies_under (Term' tt (more_of-Head (head.Builtin op.Implies) end_of-Head) n ts t) w h fs e = under Discard n ts t w fs e
  implies_under (Term' tt (more_of-Head h end_of-Head) n ts t) w i fs e = absurd (false≢true (sym (ap (λ x. is_implies x.head) (out_is h n ts t)) ∙ i))

  pub parts_taken : (r : AmbientRule) (f : Term) → IsConclusion c f → (fs : List Term) → parts_of r place f ≡ given fs → IsTaken c f fs ⊎ IsUnder c place r f fs
  parts_taken Split (Term' tt (more_of-Head (head.Builtin op.And) end_of-Head) n ts t) w fs e =
      taken Split (head.Builtin op.And) n ts t fs w (of_and c Split place ts t w.typed.0 w.typed.3 fs (by_layer Split (head.Builtin op.And) n ts t fs e))
  parts_taken Split (Term' tt (more_of-Head (head.Builtin op.Iff) end_of-Head) n ts t) w fs e =
      taken Split (head.Builtin op.Iff) n ts t fs w (of_iff c Split place ts t w.typed.0 w.typed.3 fs (by_layer Split (head.Builtin op.Iff) n ts t fs e))
  parts_taken Split (Term' tt (more_of-Head (head.Builtin op.AtMost) end_of-Head) n ts t) w fs e =
      taken Split (head.Builtin op.AtMost) n ts t fs w (of_bound c Split place ts t w.typed.0 w.typed.3 fs (by_layer Split (head.Builtin op.AtMost) n ts t fs e))
  parts_taken Left (Term' tt (more_of-Head (head.Builtin op.Or) end_of-Head) n ts t) w fs e =
      taken Left (head.Builtin op.Or) n ts t fs w (of_left c Left place ts t w.typed.0 w.typed.3 fs (by_layer Left (head.Builtin op.Or) n ts t fs e))
  parts_taken Right (Term' tt (more_of-Head (head.Builtin op.Or) end_of-Head) n ts t) w fs e =
      taken Right (head.Builtin op.Or) n ts t fs w (of_right c Right place ts t w.typed.0 w.typed.3 fs (by_layer Right (head.Builtin op.Or) n ts t fs e))
  parts_taken r (Term' tt (more_of-Head (head.Builtin op.Implies) end_of-Head) n ts t) w fs e =
      inr (under r n ts t w fs e)
  parts_taken r (Term' tt (more_of-Head h end_of-Head) n ts t) w fs e = refused_at Shape place fs (by_layer r h n ts t fs e)
