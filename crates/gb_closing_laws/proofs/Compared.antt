-- What typed comparisons say.
use Rattle.std.proofs.Common.{◌≡◌, Bool, true, false, ◌&&◌, if◌then◌else◌, List, [], ◌∷◌, Some, None, refl, ap, sym, ◌∙◌, subst}
use Rattle.std.proofs.lemmas.Bool.{false≢true, and_parts}
use Rattle.gb_core.specs.declared.ty.Ty.{Ty}
use Rattle.gb_core.specs.declared.ty.Ty.TheVariants as ty
use Rattle.gb_terms.specs.declared.op.Op.{Op}
use Rattle.gb_terms.specs.declared.op.Op.TheVariants as op
use Rattle.gb_terms.specs.declared.term.Term.{Term, out-Term}
use Rattle.gb_terms.specs.declared.term.Head.{Head}
use Rattle.gb_terms.specs.declared.term.Head.TheVariants as head
use Rattle.gb_terms.specs.Make.{node}
use Rattle.gb_meaning.specs.Trees.{term}
use Rattle.gb_meaning.specs.Setting.{Setting, Meaning}
use Rattle.gb_meaning.specs.Meanings.{of_truth, truth, same}
use Rattle.gb_meaning.specs.Operators.{at_most}
use Rattle.gb_meaning.specs.State.{State}
use Rattle.gb_meaning.specs.Terms.{val}
use Rattle.gb_meaning.specs.Judgments.{Judge, speaking, den}
use Rattle.gb_meaning.specs.Written.{type_of}
use Rattle.gb_meaning.proofs.Nodes.{each_is_node, term_is_node, val_node}
use Rattle.gb_meaning.proofs.Truths.{truth_of}
use Rattle.gb_meaning.specs.Truth.{has_module}
use Rattle.gb_laws.specs.Operators.{IsSigned}
use Rattle.gb_typing.specs.Context.{Context}
use Rattle.gb_typing.specs.Typing.{IsTyped, IsForm}
use Rattle.gb_typing.specs.Sequents.{IsConclusion}
use Rattle.gb_typing.specs.Fits.{IsSettingOf, IsStateOf}
use Rattle.gb_linear.specs.declared.apply.Comparison.{Comparison}
use Rattle.gb_linear.specs.Closing.{is_number, between, compared_at, compared}
use Rattle.gb_closing_laws.proofs.Numbers.{Number, Same}
use Rattle.gb_closing_laws.proofs.Order.{IsAtMost, tells}
use Rattle.gb_closing_laws.proofs.Meant.{V, kind_of, type_is}

-- how the sides of a comparison stand to one another
abbrev pub Stands : Bool → Number → Number → Type 0
Stands true a b = Same a b
Stands false a b = IsAtMost a b

signed_of : (u : Ty) → is_number u ≡ true → IsSigned u
signed_of ty.Int e = tt
signed_of ty.Real e = tt
signed_of _ e = absurd (false≢true e)

told : (f : Meaning) (b : Bool) → f ≡ of_truth b → truth f ≡ true → b ≡ true
told f b e h = sym (truth_of b) ∙ (sym (ap truth e) ∙ h)

telling : (f : Meaning) (b : Bool) → f ≡ of_truth b → b ≡ true → truth f ≡ true
telling f b e h = ap truth e ∙ (truth_of b ∙ h)

module _ (c : Context) where
  -- a typed comparison of numbers
  pub record IsTypedComparison (f : Term) (x : Comparison) : Type 0 where
    pub left : IsTyped c x.left
    pub right : IsTyped c x.right
    pub left_signed : IsSigned (type_of x.left)
    pub right_signed : IsSigned (type_of x.right)
    pub front : has_module f ≡ false
    pub used : (g : Setting) (fits : IsSettingOf c g) (i : Judge) (s : State) (fit : IsStateOf c g s) → den g i f s ≡ true →
        Stands x.equal (V c g fits i s fit x.left) (V c g fits i s fit x.right)
    pub made : (g : Setting) (fits : IsSettingOf c g) (i : Judge) (s : State) (fit : IsStateOf c g s) →
        Stands x.equal (V c g fits i s fit x.left) (V c g fits i s fit x.right) → den g i f s ≡ true

  found : (equal : Bool) (a b : Term) (x : Comparison) → between equal a b ≡ Some x →
      (record { equal = equal; left = a; right = b } ≡ x) × IsSigned (type_of a) × IsSigned (type_of b)
  found equal a b x e = step (is_number (out-Term a).ty && is_number (out-Term b).ty) refl e
    where
      step : (q : Bool) → (is_number (out-Term a).ty && is_number (out-Term b).ty) ≡ q → (if q then Some (record { equal = equal; left = a; right = b }) else None) ≡ Some x →
          (record { equal = equal; left = a; right = b } ≡ x) × IsSigned (type_of a) × IsSigned (type_of b)
      step true p k =
          let n = and_parts (is_number (out-Term a).ty) (is_number (out-Term b).ty) p in
          (cc, signed_of (type_of a) (ap is_number (sym (type_is a)) ∙ n.0), signed_of (type_of b) (ap is_number (sym (type_is b)) ∙ n.1))
      step false p k = cc

  at_most_typed : (a b : Term) (u : Ty) (x : Comparison) → between false a b ≡ Some x → IsForm c (term (head.Builtin op.AtMost) (a ∷ b ∷ []) u) →
      IsTypedComparison (node (head.Builtin op.AtMost) (a ∷ b ∷ []) u) x
  at_most_typed a b u x e w =
      let k = found false a b x e in
      let t = w.typed in
      subst (IsTypedComparison (node (head.Builtin op.AtMost) (a ∷ b ∷ []) u)) k.0 (record {
        left = t.3.0;
        right = t.3.1;
        left_signed = k.1;
        right_signed = k.2;
        front = ap has_module (sym (term_is_node (head.Builtin op.AtMost) (a ∷ b ∷ []) u));
        used = λ g fits i s fit h.
            (tells (type_of a) (val g (speaking g i) a s) (val g (speaking g i) b s) (kind_of c g fits i s fit a (type_of a) t.3.0 refl k.1)
            (kind_of c g fits i s fit b (type_of a) t.3.1 (sym t.0.1) k.1)).0
            (told (val g (speaking g i) (node (head.Builtin op.AtMost) (a ∷ b ∷ []) u) s) (at_most (val g (speaking g i) a s) (val g (speaking g i) b s))
            (val_node g (speaking g i) (head.Builtin op.AtMost) (a ∷ b ∷ []) u s) h);
        made = λ g fits i s fit h.
            telling (val g (speaking g i) (node (head.Builtin op.AtMost) (a ∷ b ∷ []) u) s) (at_most (val g (speaking g i) a s) (val g (speaking g i) b s))
            (val_node g (speaking g i) (head.Builtin op.AtMost) (a ∷ b ∷ []) u s)
            ((tells (type_of a) (val g (speaking g i) a s) (val g (speaking g i) b s) (kind_of c g fits i s fit a (type_of a) t.3.0 refl k.1)
            (kind_of c g fits i s fit b (type_of a) t.3.1 (sym t.0.1) k.1)).1 h);
      })

  equal_typed : (a b : Term) (u : Ty) (x : Comparison) → between true a b ≡ Some x → IsForm c (term (head.Builtin op.Equal) (a ∷ b ∷ []) u) →
      IsTypedComparison (node (head.Builtin op.Equal) (a ∷ b ∷ []) u) x
  equal_typed a b u x e w =
      let k = found true a b x e in
      let t = w.typed in
      subst (IsTypedComparison (node (head.Builtin op.Equal) (a ∷ b ∷ []) u)) k.0 (record {
        left = t.3.0;
        right = t.3.1;
        left_signed = k.1;
        right_signed = k.2;
        front = ap has_module (sym (term_is_node (head.Builtin op.Equal) (a ∷ b ∷ []) u));
        used = λ g fits i s fit h.
            (tells (type_of a) (val g (speaking g i) a s) (val g (speaking g i) b s) (kind_of c g fits i s fit a (type_of a) t.3.0 refl k.1)
            (kind_of c g fits i s fit b (type_of a) t.3.1 (sym t.0.1) k.1)).2
            (told (val g (speaking g i) (node (head.Builtin op.Equal) (a ∷ b ∷ []) u) s) (same (val g (speaking g i) a s) (val g (speaking g i) b s))
            (val_node g (speaking g i) (head.Builtin op.Equal) (a ∷ b ∷ []) u s) h);
        made = λ g fits i s fit h.
            telling (val g (speaking g i) (node (head.Builtin op.Equal) (a ∷ b ∷ []) u) s) (same (val g (speaking g i) a s) (val g (speaking g i) b s))
            (val_node g (speaking g i) (head.Builtin op.Equal) (a ∷ b ∷ []) u s)
            ((tells (type_of a) (val g (speaking g i) a s) (val g (speaking g i) b s) (kind_of c g fits i s fit a (type_of a) t.3.0 refl k.1)
            (kind_of c g fits i s fit b (type_of a) t.3.1 (sym t.0.1) k.1)).3 h);
      })

  none_some : {A B : Type 0} (x : A) → None ≡ Some x → B
  none_some x e = cc

  -- a form that is a comparison, or a conclusion, which is a form where it is one
  module _ (P : Term → Type 0)
      (at_most_form : (a b : Term) (u : Ty) → P (term (head.Builtin op.AtMost) (a ∷ b ∷ []) u) → IsForm c (term (head.Builtin op.AtMost) (a ∷ b ∷ []) u))
      (equal_form : (a b : Term) (u : Ty) → P (term (head.Builtin op.Equal) (a ∷ b ∷ []) u) → IsForm c (term (head.Builtin op.Equal) (a ∷ b ∷ []) u)) where
    of_operator : (o : Op) (ts : List Term) (u : Ty) (x : Comparison) → compared_at (head.Builtin o) ts ≡ Some x → P (node (head.Builtin o) ts u) → IsTypedComparison (node (head.Builtin o) ts u) x
    of_operator op.AtMost (a ∷ b ∷ []) u x e w =
        at_most_typed a b u x e (at_most_form a b u (subst P (sym (term_is_node (head.Builtin op.AtMost) (a ∷ b ∷ []) u)) w))
    of_operator op.Equal (a ∷ b ∷ []) u x e w =
        equal_typed a b u x e (equal_form a b u (subst P (sym (term_is_node (head.Builtin op.Equal) (a ∷ b ∷ []) u)) w))
    of_operator _ ts u x e w = none_some x e

    of_head : (h : Head) (ts : List Term) (u : Ty) (x : Comparison) → compared_at h ts ≡ Some x → P (node h ts u) → IsTypedComparison (node h ts u) x
    of_head (head.Builtin o) ts u x e w = of_operator o ts u x e w
    of_head _ ts u x e w = none_some x e

    pub typed_comparison : (f : Term) (x : Comparison) → compared f ≡ Some x → P f → IsTypedComparison f x
    typed_comparison f x e w =
        subst (λ t. IsTypedComparison t x) (sym (each_is_node f))
        (of_head (out-Term f).head (out-Term f).args (out-Term f).ty x e (subst P (each_is_node f) w))

  pub conclusion_comparison : (f : Term) (x : Comparison) → compared f ≡ Some x → IsConclusion c f → IsTypedComparison f x
  conclusion_comparison = typed_comparison (IsConclusion c) (λ a b u w. w) (λ a b u w. w)

  pub form_comparison : (f : Term) (x : Comparison) → compared f ≡ Some x → IsForm c f → IsTypedComparison f x
  form_comparison = typed_comparison (IsForm c) (λ a b u w. w) (λ a b u w. w)
