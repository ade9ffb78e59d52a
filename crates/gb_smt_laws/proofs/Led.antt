-- Changes of simple terms lead from one state to another, also under a binder.
use Rattle.std.proofs.Common.{◌≡◌, ℕ, zero, suc, true, Option, Some, None, refl, ap, sym, ◌∙◌, subst}
use Rattle.std.specs.Option.{option_map}
use Rattle.gb_core.specs.declared.ty.Ty.{Ty}
use Rattle.gb_terms.specs.declared.op.Side.{Side}
use Rattle.gb_terms.specs.declared.op.Side.TheVariants as side
use Rattle.gb_terms.specs.declared.op.Read.{Read}
use Rattle.gb_terms.specs.declared.op.Read.TheVariants.{Logical, Program}
use Rattle.gb_terms.specs.declared.term.Term.{Term}
use Rattle.gb_walk.specs.Raise.{read_raised, term_raised}
use Rattle.gb_walk.specs.Change.{Changes, under_binder, found_for_read, found_for_bound, read_changed, side_changed}
use Rattle.gb_meaning.specs.Setting.{Meaning, Setting}
use Rattle.gb_meaning.specs.State.{State, Binding, binding, meaning_in, under}
use Rattle.gb_meaning.specs.Terms.{Speaks, read_at, val, denominator}
use Rattle.gb_laws.proofs.Leading.{lifted_zero}
use Rattle.gb_laws.proofs.Lookups.{raised_bound, read_found_under, read_of_binder, bound_found_under, bound_of_binder, side_under, side_of_binder}
use Rattle.gb_laws.proofs.Raising.{denominator_raised}
use Rattle.gb_smt_laws.specs.Simple.{is_simple}
use Rattle.gb_smt_laws.specs.Reading.{Variables, Reading, IsReadAt, inner}
use Rattle.gb_smt_laws.specs.Fits.{Fits}
use Rattle.gb_smt.specs.Meant.{IsRight}
use Rattle.gb_smt_laws.proofs.Raised.{simple_raised, raises_at_once, lifted_read, raised_fits}

-- a property of what is found, or else this
abbrev pub OnFound : Option Term → (Term → Type 0) → Type 0 → Type 0
OnFound (Some t) P X = P t
OnFound None P X = X

-- a term that is put in, if it is simple, fits, is no distribution, and means this
abbrev pub IsPutFor : Setting → Speaks → Reading → State → Meaning → Term → Type 0
IsPutFor g j W s x t = is_simple t ≡ true → Fits g W t × (denominator g t ≡ 1) × (val g j t s ≡ x)

-- Simple terms that read by T mean in q what they mean in s with the changes made, and read by W then.
pub record Leading (g : Setting) (j : Speaks) (cs : Changes) (T W : Reading) (s q : State) : Type 0 where
  pub reads : (r : Read) (ty : Ty) → IsReadAt T r ty → OnFound (found_for_read cs r) (IsPutFor g j W s (read_at g r ty q))
      (IsReadAt W (read_changed cs r) ty × (read_at g (read_changed cs r) ty s ≡ read_at g r ty q))
  pub bound : (i : ℕ) → OnFound (found_for_bound cs i) (IsPutFor g j W s (meaning_in (binding q i))) (meaning_in (binding s i) ≡ meaning_in (binding q i))

changed_raised : (cs : Changes) (r : Read) → read_changed (under_binder cs) (read_raised 0 r) ≡ read_raised 0 (read_changed cs r)
changed_raised cs (Logical i) = refl
changed_raised cs (Program x r) = ap (Program x) (side_under cs r)

-- where quantifiers over memories say what they say
module _ (g : Setting) (j : Speaks) (right : IsRight g j) (cs : Changes) (T W : Reading) (s q : State) (l : Leading g j cs T W s q) (vs : Variables) (b : Binding) where
  abbrev V : Reading
  V = inner vs W

  put_raised : (o : Option Term) (x y : Meaning) (X Y : Type 0) → OnFound o (IsPutFor g j W s x) X → x ≡ y → (X → Y) →
      OnFound (option_map (λ u. term_raised u 0) o) (IsPutFor g j V (under s b) y) Y
  put_raised (Some t) x y X Y p e f = λ simple.
      let once = sym (simple_raised t 0) ∙ simple in
      let h = p once in
      let r = raised_fits g j right t 0 W V (raises_at_once vs W) (under s b) s (lifted_zero s b) once h.0 in
      (r.0, denominator_raised g t 0 ∙ h.1, r.1 ∙ h.2 ∙ e)
  put_raised None x y X Y p e f = f p

  abbrev ReadLeads : Read → Ty → Type 0
  ReadLeads r ty = OnFound (found_for_read (under_binder cs) r) (IsPutFor g j V (under s b) (read_at g r ty (under q b)))
      (IsReadAt V (read_changed (under_binder cs) r) ty × (read_at g (read_changed (under_binder cs) r) ty (under s b) ≡ read_at g r ty (under q b)))

  left : (r : Read) (ty : Ty) → read_at g r ty q ≡ read_at g (read_raised 0 r) ty (under q b)
  left r ty = sym (lifted_read g j 0 (under q b) q (lifted_zero q b) r ty)

  kept : (r : Read) (ty : Ty) → (IsReadAt W (read_changed cs r) ty × (read_at g (read_changed cs r) ty s ≡ read_at g r ty q)) →
      IsReadAt V (read_changed (under_binder cs) (read_raised 0 r)) ty
      × (read_at g (read_changed (under_binder cs) (read_raised 0 r)) ty (under s b) ≡ read_at g (read_raised 0 r) ty (under q b))
  kept r ty x = (
    subst (λ o. IsReadAt V o ty) (sym (changed_raised cs r)) (raises_at_once vs W (read_changed cs r) ty x.0),
    ap (λ o. read_at g o ty (under s b)) (changed_raised cs r) ∙ lifted_read g j 0 (under s b) s (lifted_zero s b) (read_changed cs r) ty ∙ x.1 ∙ left r ty,
  )

  read_raised_leads : (r : Read) (ty : Ty) → IsReadAt T r ty → ReadLeads (read_raised 0 r) ty
  read_raised_leads r ty k =
      subst (λ o. OnFound o (IsPutFor g j V (under s b) (read_at g (read_raised 0 r) ty (under q b)))
      (IsReadAt V (read_changed (under_binder cs) (read_raised 0 r)) ty × (read_at g (read_changed (under_binder cs) (read_raised 0 r)) ty (under s b) ≡ read_at g (read_raised 0 r) ty (under q b))))
      (sym (read_found_under cs r)) (put_raised (found_for_read cs r) _ _ _ _ (l.reads r ty k) (left r ty) (kept r ty))

  read_leads : (r : Read) (ty : Ty) → IsReadAt (inner vs T) r ty → ReadLeads r ty
  read_leads (Logical i) ty k = read_raised_leads (Logical i) ty k
  read_leads (Program x side.Own) ty k = read_raised_leads (Program x side.Own) ty k
  read_leads (Program x side.Left) ty k = read_raised_leads (Program x side.Left) ty k
  read_leads (Program x side.Right) ty k = read_raised_leads (Program x side.Right) ty k
  read_leads (Program x (side.Memory i)) ty k = read_raised_leads (Program x (side.Memory i)) ty k
  read_leads (Program x (side.Bound zero)) ty k =
      subst (λ o. OnFound o (IsPutFor g j V (under s b) (read_at g (Program x (side.Bound 0)) ty (under q b))) (Kept (side_changed (under_binder cs) (side.Bound 0)))) (sym (read_of_binder cs x))
      (subst Kept (sym (side_of_binder cs)) (k, refl))
    where
      Kept : Side → Type 0
      Kept r = IsReadAt V (Program x r) ty × (read_at g (Program x r) ty (under s b) ≡ read_at g (Program x (side.Bound 0)) ty (under q b))
  read_leads (Program x (side.Bound (suc i))) ty k = subst (λ r. ReadLeads (Program x r) ty) (raised_bound i) (read_raised_leads (Program x (side.Bound i)) ty k)

  abbrev BoundLeads : ℕ → Option Term → Type 0
  BoundLeads i o = OnFound o (IsPutFor g j V (under s b) (meaning_in (binding (under q b) i))) (meaning_in (binding (under s b) i) ≡ meaning_in (binding (under q b) i))

  bound_leads : (i : ℕ) → BoundLeads i (found_for_bound (under_binder cs) i)
  bound_leads zero = subst (BoundLeads 0) (sym (bound_of_binder cs)) refl
  bound_leads (suc i) = subst (BoundLeads (suc i)) (sym (bound_found_under cs i)) (put_raised (found_for_bound cs i) _ _ _ _ (l.bound i) refl (λ e. e))

  pub leading_under : Leading g j (under_binder cs) (inner vs T) V (under s b) (under q b)
  leading_under = record { reads = read_leads; bound = bound_leads }
