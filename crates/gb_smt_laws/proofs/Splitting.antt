-- Quantifiers in front become variables and memories of the context.
use Rattle.std.proofs.Common.{◌≡◌, ℕ, zero, suc, ◌⊎◌, inl, inr, Option, Some, None, [], ◌∷◌, ◌++◌, get_or, refl, ap, sym, ◌∙◌, subst}
use Rattle.std.specs.Option.{option_or, option_map}
use Rattle.gb_core.specs.declared.ty.Ty.{Ty}
use Rattle.gb_core.specs.declared.var.Var.{Var}
use Rattle.gb_terms.specs.declared.op.Side.{Side}
use Rattle.gb_terms.specs.declared.op.Side.TheVariants as side
use Rattle.gb_terms.specs.declared.op.Read.{Read}
use Rattle.gb_terms.specs.declared.op.Read.TheVariants.{Logical, Program}
use Rattle.gb_terms.specs.declared.term.Term.{Term}
use Rattle.gb_terms.specs.declared.term.Head.TheVariants as head
use Rattle.gb_walk.specs.Raise.{side_raised, term_raised}
use Rattle.gb_walk.specs.declared.change.Change.TheVariants.{OfBound, ToSide}
use Rattle.gb_walk.specs.Change.{Changes, under_binder, or_later, found_for_read, found_for_bound, side_changed, read_changed}
use Rattle.gb_meaning.specs.Memory.{Memory, read}
use Rattle.gb_meaning.specs.Setting.{Meaning, Setting}
use Rattle.gb_meaning.specs.Setting.Meaning.{finite}
use Rattle.gb_meaning.specs.Meanings.{nothing}
use Rattle.gb_meaning.specs.State.{State, Binding, binding, meaning_in, memory_of, under}
use Rattle.gb_meaning.specs.State.Binding.{value, memory, program}
use Rattle.gb_meaning.specs.Terms.{Speaks, read_at, val, denominator}
use Rattle.gb_meaning.proofs.Nodes.{val_node, denominator_node}
use Rattle.gb_laws.proofs.Leading.{lifted_zero}
use Rattle.gb_laws.proofs.Lookups.{bound_found_under, bound_of_binder, side_under}
use Rattle.gb_laws.proofs.Raising.{lifted_side}
use Rattle.gb_smt_laws.specs.Reading.{Variables, no_variables, Reading, IsReadAt, inner}
use Rattle.gb_smt_laws.specs.Fits.{Fits}
use Rattle.gb_smt_laws.proofs.Nodes.{read_fits}
use Rattle.gb_smt_laws.proofs.Equations.{none_some}
use Rattle.gb_smt_laws.proofs.Led.{OnFound, IsPutFor, Leading}
use Rattle.gb_smt_laws.proofs.Finding.{read_found_behind, bound_found_behind, other_side_behind, no_side_behind, raised_is_other, last_side, raised_or_innermost, behind_raised, none_under, zero_suc, variable, variable_raised}

-- a logical variable that has this meaning
abbrev IsVariableFor : Reading → State → Meaning → Term → Type 0
IsVariableFor W s x t = (k : ℕ) × (u : Ty) × (t ≡ variable k u) × (W.logical k ≡ Some u) × (s.logical k ≡ x)

-- Changes that put logical variables for what is bound, and lead reads to memories of the context; s is outside of all
-- binders.
pub record Opening (cs : Changes) (T W : Reading) (s q : State) : Type 0 where
  pub reads : (r : Read) → found_for_read cs r ≡ None
  pub logical : (i : ℕ) (ty : Ty) → T.logical i ≡ Some ty → (W.logical i ≡ Some ty) × (s.logical i ≡ q.logical i)
  pub sides : (x : Var) (r : Side) (ty : Ty) → T.memory r x ≡ Some ty →
      (W.memory (side_changed cs r) x ≡ Some ty) × (memory_of s (side_changed cs r) ≡ memory_of q r) × (side_raised 0 (side_changed cs r) ≡ side_changed cs r)
  pub bound : (i : ℕ) → OnFound (found_for_bound cs i) (IsVariableFor W s (meaning_in (binding q i))) (nothing ≡ meaning_in (binding q i))
  pub outside : s.bound ≡ []

module _ (g : Setting) (j : Speaks) (cs : Changes) (T W : Reading) (s q : State) (o : Opening cs T W s q) where
  put_variable : (f : Option Term) (x y : Meaning) → y ≡ nothing → OnFound f (IsVariableFor W s x) (nothing ≡ x) → OnFound f (IsPutFor g j W s x) (y ≡ x)
  put_variable (Some t) x y e (k, u, p, w, m) = λ simple. (
    subst (Fits g W) (sym p) (read_fits g W (Logical k) [] u w),
    ap (denominator g) p ∙ denominator_node g (head.Read (Logical k)) [] u,
    ap (λ t. val g j t s) p ∙ val_node g j (head.Read (Logical k)) [] u s ∙ m,
  )
  put_variable None x y e h = e ∙ h

  reads_lead : (r : Read) (ty : Ty) → IsReadAt T r ty → OnFound None (IsPutFor g j W s (read_at g r ty q))
      (IsReadAt W (read_changed cs r) ty × (read_at g (read_changed cs r) ty s ≡ read_at g r ty q))
  reads_lead (Logical i) ty k = o.logical i ty k
  reads_lead (Program x r) ty k = let w = o.sides x r ty k in (w.0, ap (λ m. finite (read g.types m x ty)) w.1)

  nothing_bound : (i : ℕ) → meaning_in (binding s i) ≡ nothing
  nothing_bound i = ap (λ bs. meaning_in (get_or bs i program)) o.outside

  pub opening_leads : Leading g j cs T W s q
  opening_leads = record {
    reads = λ r ty k. subst (λ f. OnFound f (IsPutFor g j W s (read_at g r ty q))
        (IsReadAt W (read_changed cs r) ty × (read_at g (read_changed cs r) ty s ≡ read_at g r ty q)))
        (sym (o.reads r)) (reads_lead r ty k);
    bound = λ i. put_variable (found_for_bound cs i) (meaning_in (binding q i)) (meaning_in (binding s i)) (nothing_bound i) (o.bound i);
  }

module _ (cs : Changes) (T W : Reading) (s q : State) (o : Opening cs T W s q) where
  bound_under : (f : Option Term) (x : Meaning) → OnFound f (IsVariableFor W s x) (nothing ≡ x) → OnFound (option_map (λ u. term_raised u 0) f) (IsVariableFor W s x) (nothing ≡ x)
  bound_under (Some t) x (k, u, p, w, m) = (k, u, ap (λ t. term_raised t 0) p ∙ variable_raised k u, w, m)
  bound_under None x h = h

  or_none : (f : Option Term) → option_or f None ≡ f
  or_none (Some t) = refl
  or_none None = refl

  -- what is said of a side outside of the binder
  abbrev SideOpens : Changes → Reading → Binding → Var → Side → Ty → Type 0
  SideOpens ds V b x r ty = (W.memory (side_changed ds r) x ≡ Some ty) × (memory_of s (side_changed ds r) ≡ memory_of (under q b) r) × (side_raised 0 (side_changed ds r) ≡ side_changed ds r)

  outer_side : (ds : Changes) (V : Reading) (b : Binding) (x : Var) (r : Side) (ty : Ty) → side_changed ds (side_raised 0 r) ≡ side_changed (under_binder cs) (side_raised 0 r) → T.memory r x ≡ Some ty → SideOpens ds V b x (side_raised 0 r) ty
  outer_side ds V b x r ty e k =
      let w = o.sides x r ty k in
      let p : side_changed ds (side_raised 0 r) ≡ side_changed cs r = e ∙ side_under cs r ∙ w.2 in
      (ap (λ r. W.memory r x) p ∙ w.0, ap (memory_of s) p ∙ w.1 ∙ sym (lifted_side 0 (under q b) q (lifted_zero q b) r), ap (side_raised 0) p ∙ w.2 ∙ sym p)

  abbrev to_variable : ℕ → Ty → Changes
  to_variable n u = under_binder cs ++ OfBound 0 (variable n u) ∷ []

  -- a variable more
  module _ (n : ℕ) (u : Ty) (x : Meaning) (typed : W.logical n ≡ Some u) (means : s.logical n ≡ x) where
    variable_reads : (r : Read) → found_for_read (to_variable n u) r ≡ None
    variable_reads r = read_found_behind (under_binder cs) (OfBound 0 (variable n u) ∷ []) r ∙ ap (λ f. option_or f None) (none_under cs o.reads r)

    variable_sides : (y : Var) (r : Side) (ty : Ty) → (inner no_variables T).memory r y ≡ Some ty → SideOpens (to_variable n u) W (value x) y r ty
    variable_sides y r ty k = step (raised_or_innermost r)
      where
        step : ((o : Side) × (side_raised 0 o ≡ r)) ⊎ (r ≡ side.Bound 0) → SideOpens (to_variable n u) W (value x) y r ty
        step (inl (z, e)) =
            subst (λ r. SideOpens (to_variable n u) W (value x) y r ty) e
            (outer_side (to_variable n u) W (value x) y z ty (no_side_behind (under_binder cs) 0 (variable n u) (side_raised 0 z))
            (ap (λ f. f y) (sym (behind_raised no_variables T.memory z)) ∙ ap (λ r. (inner no_variables T).memory r y) e ∙ k))
        step (inr e) = none_some ty (ap (λ r. (inner no_variables T).memory r y) (sym e) ∙ k)

    abbrev BoundOpens : ℕ → Option Term → Type 0
    BoundOpens i f = OnFound f (IsVariableFor W s (meaning_in (binding (under q (value x)) i))) (nothing ≡ meaning_in (binding (under q (value x)) i))

    variable_bound : (i : ℕ) → BoundOpens i (found_for_bound (to_variable n u) i)
    variable_bound zero =
        subst (BoundOpens 0) (sym (bound_found_behind (under_binder cs) (OfBound 0 (variable n u) ∷ []) 0 ∙ ap (λ f. option_or f (Some (variable n u))) (bound_of_binder cs)))
        (n, u, refl, typed, means)
    variable_bound (suc i) =
        subst (BoundOpens (suc i)) (sym (bound_found_behind (under_binder cs) (OfBound 0 (variable n u) ∷ []) (suc i) ∙ ap (λ b. option_or (found_for_bound (under_binder cs) (suc i)) (or_later b (variable n u) None)) (zero_suc i)
        ∙ or_none (found_for_bound (under_binder cs) (suc i)) ∙ bound_found_under cs i))
        (bound_under (found_for_bound cs i) (meaning_in (binding q i)) (o.bound i))

    pub opens_variable : Opening (to_variable n u) (inner no_variables T) W s (under q (value x))
    opens_variable = record { reads = variable_reads; logical = o.logical; sides = variable_sides; bound = variable_bound; outside = o.outside }

  abbrev to_memory : ℕ → Changes
  to_memory m = under_binder cs ++ ToSide (side.Bound 0) (side.Memory m) ∷ []

  -- a memory more
  module _ (m : ℕ) (f : Variables) (c : Memory) (typed : W.memory (side.Memory m) ≡ f) (means : s.named m ≡ c) where
    memory_reads : (r : Read) → found_for_read (to_memory m) r ≡ None
    memory_reads r = read_found_behind (under_binder cs) (ToSide (side.Bound 0) (side.Memory m) ∷ []) r ∙ ap (λ f. option_or f None) (none_under cs o.reads r)

    memory_sides : (y : Var) (r : Side) (ty : Ty) → (inner f T).memory r y ≡ Some ty → SideOpens (to_memory m) W (memory c) y r ty
    memory_sides y r ty k = step (raised_or_innermost r)
      where
        step : ((o : Side) × (side_raised 0 o ≡ r)) ⊎ (r ≡ side.Bound 0) → SideOpens (to_memory m) W (memory c) y r ty
        step (inl (z, e)) =
            subst (λ r. SideOpens (to_memory m) W (memory c) y r ty) e
            (outer_side (to_memory m) W (memory c) y z ty (other_side_behind (under_binder cs) (side.Bound 0) (side.Memory m) (side_raised 0 z) (raised_is_other z))
            (ap (λ f. f y) (sym (behind_raised f T.memory z)) ∙ ap (λ r. (inner f T).memory r y) e ∙ k))
        step (inr e) =
            let p : side_changed (to_memory m) r ≡ side.Memory m = ap (side_changed (to_memory m)) e ∙ last_side cs (side.Memory m) in (
              ap (λ r. W.memory r y) p ∙ ap (λ f. f y) typed ∙ ap (λ r. (inner f T).memory r y) (sym e) ∙ k,
              ap (memory_of s) p ∙ means ∙ ap (memory_of (under q (memory c))) (sym e),
              ap (side_raised 0) p ∙ sym p,
            )

    abbrev BoundOpensTo : ℕ → Option Term → Type 0
    BoundOpensTo i f = OnFound f (IsVariableFor W s (meaning_in (binding (under q (memory c)) i))) (nothing ≡ meaning_in (binding (under q (memory c)) i))

    memory_bound : (i : ℕ) → BoundOpensTo i (found_for_bound (to_memory m) i)
    memory_bound zero =
        subst (BoundOpensTo 0) (sym (bound_found_behind (under_binder cs) (ToSide (side.Bound 0) (side.Memory m) ∷ []) 0 ∙ ap (λ f. option_or f None) (bound_of_binder cs))) refl
    memory_bound (suc i) =
        subst (BoundOpensTo (suc i)) (sym (bound_found_behind (under_binder cs) (ToSide (side.Bound 0) (side.Memory m) ∷ []) (suc i) ∙ or_none (found_for_bound (under_binder cs) (suc i)) ∙ bound_found_under cs i))
        (bound_under (found_for_bound cs i) (meaning_in (binding q i)) (o.bound i))

    pub opens_memory : Opening (to_memory m) (inner f T) W s (under q (memory c))
    opens_memory = record { reads = memory_reads; logical = o.logical; sides = memory_sides; bound = memory_bound; outside = o.outside }
