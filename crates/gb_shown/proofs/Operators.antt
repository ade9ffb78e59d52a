-- Typed operators have their operands, and no judgment with a bound stands in front of one.
use Rattle.std.proofs.Common.{◌≡◌, ℕ, pred, true, not, ◌&&◌, List, [], ◌∷◌, map, Option, Some, refl, ap, ap₂, sym, ◌∙◌, subst}
use Rattle.std.proofs.lemmas.Bool.{false≢true}
use Rattle.gb_core.specs.declared.ty.Ty.{Ty}
use Rattle.gb_core.specs.declared.ty.Ty.TheVariants as ty
use Rattle.gb_terms.specs.declared.op.Op.{Op}
use Rattle.gb_terms.specs.declared.op.Op.TheVariants as op
use Rattle.gb_terms.specs.declared.term.Term.{Term, Term', end_of-Head, more_of-Head, out-Term}
use Rattle.gb_terms.specs.declared.term.Head.{Head}
use Rattle.gb_terms.specs.declared.term.Head.TheVariants as head
use Rattle.gb_meaning.specs.Written.{type_of}
use Rattle.gb_laws.proofs.Trees.{out_is}
use Rattle.gb_laws.specs.Operators.{item, parts_in, IsArithmetic, IsSigned, IsOfNumbers, IsMapType, IsDistributionType, IsOperator}
use Rattle.gb_laws.specs.Typing.{Binder, IsHead}
use Rattle.gb_laws.specs.Typing as typed
use Rattle.gb_typing.specs.Formulas.{IsKnown}
use Rattle.gb_print.specs.Written.{is_phoare, is_front, has_operands}
use Rattle.gb_shown.specs.Spelt.{is_spelt_operator}
use Rattle.gb_shown.proofs.Headed.{Headed, headed, AllHeaded, last_term, next_term}

pub out_type : (t : Term) → (out-Term t).ty ≡ type_of t
out_type (Term' tt (more_of-Head h end_of-Head) n ts ty) = ap (λ z. z.ty) (out_is h n ts ty)

-- a judgment with a bound is of type `bool`
by_head : (k : typed.Context) (h : Head) (us : List Ty) (t : Ty) → IsHead k h us t → (t ≡ ty.Bool → ⊥) → not (is_phoare h) ≡ true
by_head k (head.Phoare b r) (p ∷ q ∷ x ∷ []) t w f = absurd (f w.0.1.1.0)
by_head k (head.Phoare b r) [] t w f = absurd w
by_head k (head.Phoare b r) (p ∷ []) t w f = absurd w
by_head k (head.Phoare b r) (p ∷ q ∷ []) t w f = absurd w
by_head k (head.Phoare b r) (p ∷ q ∷ x ∷ y ∷ us) t w f = absurd w
by_head k _ us t w f = refl

module _ {L : ℕ → Option Ty} {m : ℕ} where
  pub front : {bs : List Binder} {a : Term} → Headed L m bs a → (type_of a ≡ ty.Bool → ⊥) → is_front a ≡ true
  front {a = a} (headed g o p w s) f = by_head _ (out-Term a).head (map type_of (out-Term a).args) (out-Term a).ty w (λ e. f (sym (out_type a) ∙ e))

  front_of : {bs cs : List Binder} {a : Term} {ts : List Term} → AllHeaded L m bs cs (a ∷ ts) → (type_of a ≡ ty.Bool → ⊥) → is_front a ≡ true
  front_of (last_term k) f = front k f
  front_of (next_term k ks) f = front k f

  pub operands : {bs cs : List Binder} (o : Op) (ts : List Term) (ty : Ty) → is_spelt_operator o ts ≡ true → IsOperator o (map type_of ts) ty → AllHeaded L m bs cs ts → has_operands o ts ≡ true
  operands op.None [] ty e w s = refl
  operands op.Empty [] ty e w s = refl
  operands op.Coin [] ty e w s = refl
  operands op.Not (a ∷ []) ty e w s = refl
  operands op.Abs (a ∷ []) ty e w s = refl
  operands op.Some (a ∷ []) ty e w s = refl
  operands op.Oget (a ∷ []) ty e w s = refl
  operands op.Dunit (a ∷ []) ty e w s = refl
  operands op.And (a ∷ b ∷ []) ty e w s = refl
  operands op.Or (a ∷ b ∷ []) ty e w s = refl
  operands op.Implies (a ∷ b ∷ []) ty e w s = refl
  operands op.Iff (a ∷ b ∷ []) ty e w s = refl
  operands op.Equal (a ∷ b ∷ []) ty e w s = refl
  operands op.NotEqual (a ∷ b ∷ []) ty e w s = refl
  operands op.Less (a ∷ b ∷ []) ty e w s = refl
  operands op.AtMost (a ∷ b ∷ []) ty e w s = refl
  operands op.Xor (a ∷ b ∷ []) ty e w s = refl
  operands op.InMap (a ∷ b ∷ []) ty e w s = refl
  operands op.InSupport (a ∷ b ∷ []) ty e w s = refl
  operands op.Mu1 (a ∷ b ∷ []) ty e w s = refl
  operands op.If (a ∷ b ∷ d ∷ []) ty e w s = refl
  operands op.Tuple (a ∷ b ∷ ts) ty e w s = refl
  operands op.Tuple [] ty e w s = absurd (false≢true e)
  operands op.Tuple (a ∷ []) ty e w s = absurd (false≢true e)
  operands op.Uniform ts ty e w s = absurd (false≢true e)
  operands op.Plus (a ∷ b ∷ []) ty e w s = front_of s (λ k. subst IsArithmetic (sym w.1.0 ∙ k) w.0)
  operands op.Minus (a ∷ b ∷ []) ty e w s = front_of s (λ k. subst IsArithmetic (sym w.1.0 ∙ k) w.0)
  operands op.Times (a ∷ b ∷ []) ty e w s = front_of s (λ k. subst IsArithmetic (sym w.1.0 ∙ k) w.0)
  operands op.Negate (a ∷ []) ty e w s = front_of s (λ k. subst IsSigned (sym w.1 ∙ k) w.0)
  operands op.Divide (a ∷ b ∷ []) ty e w s = front_of s (λ k. subst IsSigned (sym w.0 ∙ k) tt)
  operands op.ToReal (a ∷ []) ty e w s = front_of s (λ k. subst IsOfNumbers k w.0)
  operands (op.Part i) (a ∷ []) ty e w s = ap₂ (λ x y. x && y) (front_of s (λ k. subst IsKnown (sym (subst (λ u. item (parts_in u) (pred i) ≡ Some ty) k w.1)) tt)) e
  operands op.Get (a ∷ b ∷ []) ty e w s = front_of s (λ k. subst IsMapType k w.0)
  operands op.Set (a ∷ b ∷ d ∷ []) ty e w s = front_of s (λ k. subst IsMapType (sym w.2.0 ∙ k) (w.0, w.1))
  operands op.Product (a ∷ b ∷ []) ty e w s = front_of s (λ k. subst IsDistributionType k w.0)
  operands _ ts ty e w s = absurd w
