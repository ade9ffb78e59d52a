-- Where an equation or an equivalence is true, its sides mean the same.
use Rattle.std.proofs.Common.{◌≡◌, true, List, [], ◌∷◌, Option, Some, None, ap, sym, ◌∙◌, subst}
use Rattle.gb_core.specs.declared.ty.Ty.{Ty}
use Rattle.gb_core.specs.declared.ty.Ty.TheVariants as ty
use Rattle.gb_terms.specs.declared.op.Op.TheVariants.{Equal, Iff}
use Rattle.gb_terms.specs.declared.term.Term.{Term, out-Term}
use Rattle.gb_terms.specs.declared.term.Head.{Head}
use Rattle.gb_terms.specs.declared.term.Head.TheVariants as head
use Rattle.gb_terms.specs.Make.{node}
use Rattle.gb_meaning.specs.Meanings.{same, truth}
use Rattle.gb_meaning.specs.Operators.{alike}
use Rattle.gb_meaning.specs.Setting.{Setting}
use Rattle.gb_meaning.specs.State.{State}
use Rattle.gb_meaning.specs.Terms.{val}
use Rattle.gb_meaning.specs.Judgments.{Judge, den, speaking}
use Rattle.gb_meaning.specs.Written.{type_of}
use Rattle.gb_meaning.proofs.Nodes.{each_is_node, val_node}
use Rattle.gb_meaning.proofs.Truths.{truth_of}
use Rattle.gb_laws.specs.Meant.{IsOf}
use Rattle.gb_laws.specs.Operators.{IsNoDistribution}
use Rattle.gb_typing.specs.Context.{Context}
use Rattle.gb_typing.specs.Typing.{IsTyped}
use Rattle.gb_typing.specs.Fits.{IsSettingOf, IsStateOf}
use Rattle.gb_typing.proofs.Made.{parts_typed}
use Rattle.gb_amb.proofs.Itself.{meaning_is_of}
use Rattle.gb_rewrite.specs.Equations.{Pair, equation_at, equation_of, equivalence_at, equivalence_of}
use Rattle.gb_smt_laws.specs.Alike.{Alike}
use Rattle.gb_smt_laws.proofs.Alike.{alike_of}
use Rattle.gb_rewrite.proofs.Values.{equal_alike, same_truths}

-- two terms of one type, and no distributions
pub record AreSides (c : Context) (a b : Term) : Type 0 where
  pub left : IsTyped c a
  pub right : IsTyped c b
  pub type : type_of a ≡ type_of b
  pub single : IsNoDistribution (type_of a)

-- the sides of a form, which mean the same where it is true
pub record IsSaidBy (c : Context) (f a b : Term) : Type 0 where
  pub sides : AreSides c a b
  pub alike : (g : Setting) → IsSettingOf c g → (j : Judge) (s : State) → IsStateOf c g s → den g j f s ≡ true → Alike (val g (speaking g j) a s) (val g (speaking g j) b s)

bool_single : (u : Ty) → u ≡ ty.Bool → IsNoDistribution u
bool_single u e = subst IsNoDistribution (sym e) tt

module _ (c : Context) where
  of_equation : (a b : Term) (r : Ty) → IsTyped c (node (head.Builtin Equal) (a ∷ b ∷ []) r) → IsSaidBy c (node (head.Builtin Equal) (a ∷ b ∷ []) r) a b
  of_equation a b r w =
      let k = parts_typed c (head.Builtin Equal) (a ∷ b ∷ []) r w in
      record {
        sides = record { left = k.3.0; right = k.3.1; type = k.0.1; single = k.0.0 };
        alike = λ g fits j s fit h.
            equal_alike (val g (speaking g j) a s) (val g (speaking g j) b s)
            (sym (ap truth (val_node g (speaking g j) (head.Builtin Equal) (a ∷ b ∷ []) r s) ∙ truth_of (same (val g (speaking g j) a s) (val g (speaking g j) b s))) ∙ h);
      }

  of_equivalence : (a b : Term) (r : Ty) → IsTyped c (node (head.Builtin Iff) (a ∷ b ∷ []) r) → IsSaidBy c (node (head.Builtin Iff) (a ∷ b ∷ []) r) a b
  of_equivalence a b r w =
      let k = parts_typed c (head.Builtin Iff) (a ∷ b ∷ []) r w in
      record {
        sides = record { left = k.3.0; right = k.3.1; type = k.0.0 ∙ sym k.0.1.0; single = bool_single (type_of a) k.0.0 };
        alike = λ g fits j s fit h.
            alike_of (val g (speaking g j) a s) (val g (speaking g j) b s)
            (same_truths g.types (val g (speaking g j) a s) (val g (speaking g j) b s)
            (subst (λ u. IsOf g.types u (val g (speaking g j) a s)) k.0.0 (meaning_is_of c g fits j s fit a k.3.0))
            (subst (λ u. IsOf g.types u (val g (speaking g j) b s)) k.0.1.0 (meaning_is_of c g fits j s fit b k.3.1))
            (sym (ap truth (val_node g (speaking g j) (head.Builtin Iff) (a ∷ b ∷ []) r s) ∙ truth_of (alike (truth (val g (speaking g j) a s)) (truth (val g (speaking g j) b s)))) ∙ h));
      }

  some_pair : (a b x y : Term) → ◌≡◌ {A = Option Pair} (Some (a, b)) (Some (x, y)) → (a ≡ x) × (b ≡ y)
  some_pair a b x y e = (ap first e, ap second e)
    where
      first : Option Pair → Term
      first None = a
      first (Some p) = p.0

      second : Option Pair → Term
      second None = b
      second (Some p) = p.1

  no_pair : {X : Type 0} (a b : Term) → ◌≡◌ {A = Option Pair} None (Some (a, b)) → X
  no_pair a b e = cc

  at_equation : (f : Term) (h : Head) (ts : List Term) (r : Ty) (a b : Term) → f ≡ node h ts r → IsTyped c f → equation_at h ts ≡ Some (a, b) → IsSaidBy c f a b
  at_equation f (head.Builtin Equal) (x ∷ y ∷ []) r a b is w e =
      let k = some_pair x y a b e in
      let one = k.0 in
      let two = k.1 in
      subst (λ z. IsSaidBy c f z b) one (subst (λ z. IsSaidBy c f x z) two (subst (λ z. IsSaidBy c z x y) (sym is) (of_equation x y r (subst (IsTyped c) is w))))
  at_equation f h ts r a b is w e = no_pair a b e

  at_equivalence : (f : Term) (h : Head) (ts : List Term) (r : Ty) (a b : Term) → f ≡ node h ts r → IsTyped c f → equivalence_at h ts ≡ Some (a, b) → IsSaidBy c f a b
  at_equivalence f (head.Builtin Iff) (x ∷ y ∷ []) r a b is w e =
      let k = some_pair x y a b e in
      let one = k.0 in
      let two = k.1 in
      subst (λ z. IsSaidBy c f z b) one (subst (λ z. IsSaidBy c f x z) two (subst (λ z. IsSaidBy c z x y) (sym is) (of_equivalence x y r (subst (IsTyped c) is w))))
  at_equivalence f h ts r a b is w e = at_equation f h ts r a b is w e

  pub said_by_equation : (f a b : Term) → IsTyped c f → equation_of f ≡ Some (a, b) → IsSaidBy c f a b
  said_by_equation f a b w e = at_equation f (out-Term f).head (out-Term f).args (out-Term f).ty a b (each_is_node f) w e

  pub said_by : (f a b : Term) → IsTyped c f → equivalence_of f ≡ Some (a, b) → IsSaidBy c f a b
  said_by f a b w e = at_equivalence f (out-Term f).head (out-Term f).args (out-Term f).ty a b (each_is_node f) w e
