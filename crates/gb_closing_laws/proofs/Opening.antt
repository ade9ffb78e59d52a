-- Changes that put variables of the context for what is bound, and lead reads to memories of the context.
use Rattle.std.proofs.Common.{◌≡◌, ℕ, zero, suc, ◌==◌, Bool, true, false, if◌then◌else◌, ◌⊎◌, inl, inr, Option, Some, None, [], ◌∷◌, ◌++◌, refl, ap, sym, ◌∙◌, subst}
use Rattle.std.specs.Option.{option_map, option_or}
use Rattle.gb_core.specs.declared.ty.Ty.{Ty}
use Rattle.gb_terms.specs.declared.op.Side.{Side}
use Rattle.gb_terms.specs.declared.op.Side.TheVariants as side
use Rattle.gb_terms.specs.declared.op.Read.{Read}
use Rattle.gb_terms.specs.declared.term.Term.{Term}
use Rattle.gb_walk.specs.Raise.{side_raised, term_raised}
use Rattle.gb_walk.specs.declared.change.Change.TheVariants.{OfBound, ToSide}
use Rattle.gb_walk.specs.Change.{Changes, is_own, is_left_or_right, under_binder, or_later, found_for_read, found_for_bound, side_changed}
use Rattle.gb_laws.proofs.Lookups.{bound_found_under, bound_of_binder, side_under, side_of_binder}
use Rattle.gb_smt_laws.proofs.Finding.{read_found_behind, bound_found_behind, other_side_behind, no_side_behind, raised_is_other, last_side, raised_or_innermost, none_under, variable, variable_raised}
use Rattle.gb_closing_laws.proofs.Twice.{AreFound, AtOnce, own_raised, two_raised, stays_under}

abbrev pub IsVariable : Option Term → Type 0
IsVariable (Some t) = (k : ℕ) × (u : Ty) × (t ≡ variable k u)
IsVariable None = Unit {0}

pub record IsOpening (cs : Changes) : Type 0 where
  pub reads : (r : Read) → found_for_read cs r ≡ None
  pub own : (r : Side) → is_own r ≡ false → is_own (side_changed cs r) ≡ false
  pub two : (r : Side) → is_left_or_right r ≡ false → is_left_or_right (side_changed cs r) ≡ false
  pub bounds : (i : ℕ) → IsVariable (found_for_bound cs i)

pub opening_start : IsOpening []
opening_start = record { reads = λ r. refl; own = λ r e. e; two = λ r e. e; bounds = λ i. tt }

raised_variable : (f : Option Term) → IsVariable f → IsVariable (option_map (λ t. term_raised t 0) f)
raised_variable (Some t) x = (x.0, x.1, ap (λ z. term_raised z 0) x.2 ∙ variable_raised x.0 x.1)
raised_variable None x = tt

-- what is found by the first changes, behind those the second ones
found_behind : (f d e : Option Term) → IsVariable f → e ≡ option_or f d → AreFound f d e
found_behind (Some t) d e x p = (p, x.0, x.1, x.2)
found_behind None d e x p = p

either_variable : (f d : Option Term) → IsVariable f → IsVariable d → IsVariable (option_or f d)
either_variable (Some t) d x y = x
either_variable None d x y = y

module _ (cs : Changes) (o : IsOpening cs) where
  bounds_under : (i : ℕ) → IsVariable (found_for_bound (under_binder cs) i)
  bounds_under zero = subst IsVariable (sym (bound_of_binder cs)) tt
  bounds_under (suc i) = subst IsVariable (sym (bound_found_under cs i)) (raised_variable (found_for_bound cs i) (o.bounds i))

  own_under : (r : Side) → is_own r ≡ false → is_own (side_changed (under_binder cs) r) ≡ false
  own_under = stays_under is_own own_raised refl cs o.own

  two_under : (r : Side) → is_left_or_right r ≡ false → is_left_or_right (side_changed (under_binder cs) r) ≡ false
  two_under = stays_under is_left_or_right two_raised refl cs o.two

  -- a variable more

  module _ (n : ℕ) (u : Ty) where
    abbrev pub to_variable : Changes
    to_variable = OfBound 0 (variable n u) ∷ []

    abbrev pub with_variable : Changes
    with_variable = under_binder cs ++ OfBound 0 (variable n u) ∷ []

    one_variable : (i : ℕ) → IsVariable (found_for_bound (OfBound 0 (variable n u) ∷ []) i)
    one_variable i = step (0 == i)
      where
        step : (b : Bool) → IsVariable (or_later b (variable n u) None)
        step true = (n, u, refl)
        step false = tt

    variable_reads : (r : Read) → found_for_read with_variable r ≡ None
    variable_reads r = read_found_behind (under_binder cs) (OfBound 0 (variable n u) ∷ []) r ∙ ap (λ f. option_or f None) (none_under cs o.reads r)

    pub variable_opens : IsOpening (under_binder cs ++ OfBound 0 (variable n u) ∷ [])
    variable_opens = record {
      reads = variable_reads;
      own = λ r e. ap is_own (no_side_behind (under_binder cs) 0 (variable n u) r) ∙ own_under r e;
      two = λ r e. ap is_left_or_right (no_side_behind (under_binder cs) 0 (variable n u) r) ∙ two_under r e;
      bounds = λ i. subst IsVariable (sym (bound_found_behind (under_binder cs) (OfBound 0 (variable n u) ∷ []) i))
          (either_variable (found_for_bound (under_binder cs) i) (found_for_bound (OfBound 0 (variable n u) ∷ []) i) (bounds_under i) (one_variable i));
    }

    pub variable_at_once : AtOnce (under_binder cs) (OfBound 0 (variable n u) ∷ []) (under_binder cs ++ OfBound 0 (variable n u) ∷ [])
    variable_at_once = record {
      first = none_under cs o.reads;
      second = λ r. refl;
      both = variable_reads;
      sides = λ r. sym (no_side_behind (under_binder cs) 0 (variable n u) r);
      own = own_under;
      two = two_under;
      bounds = λ i. found_behind (found_for_bound (under_binder cs) i) (found_for_bound (OfBound 0 (variable n u) ∷ []) i) _ (bounds_under i) (bound_found_behind (under_binder cs) (OfBound 0 (variable n u) ∷ []) i);
    }

  -- a memory more

  module _ (m : ℕ) where
    abbrev pub to_memory : Changes
    to_memory = ToSide (side.Bound 0) (side.Memory m) ∷ []

    abbrev pub with_memory : Changes
    with_memory = under_binder cs ++ ToSide (side.Bound 0) (side.Memory m) ∷ []

    memory_reads : (r : Read) → found_for_read with_memory r ≡ None
    memory_reads r = read_found_behind (under_binder cs) (ToSide (side.Bound 0) (side.Memory m) ∷ []) r ∙ ap (λ f. option_or f None) (none_under cs o.reads r)

    -- a side of outside, or the memory
    memory_side : (P : Side → Type 0) → P (side.Memory m) → (r : Side) → P (side_changed (under_binder cs) r) → P (side_changed with_memory r)
    memory_side P y r x = step (raised_or_innermost r)
      where
        step : ((z : Side) × (side_raised 0 z ≡ r)) ⊎ (r ≡ side.Bound 0) → P (side_changed with_memory r)
        step (inl (z, q)) =
            subst P (sym (subst (λ r. side_changed with_memory r ≡ side_changed (under_binder cs) r) q (other_side_behind (under_binder cs) (side.Bound 0) (side.Memory m) (side_raised 0 z) (raised_is_other z)))) x
        step (inr q) = subst P (sym (ap (side_changed with_memory) q ∙ last_side cs (side.Memory m))) y

    abbrev Same : Side → Type 0
    Same r = side_changed (ToSide (side.Bound 0) (side.Memory m) ∷ []) (side_changed (under_binder cs) r) ≡ side_changed (under_binder cs ++ ToSide (side.Bound 0) (side.Memory m) ∷ []) r

    memory_sides : (r : Side) → Same r
    memory_sides r = step (raised_or_innermost r)
      where
        step : ((z : Side) × (side_raised 0 z ≡ r)) ⊎ (r ≡ side.Bound 0) → Same r
        step (inl (z, q)) =
            subst Same q
            (ap (side_changed (ToSide (side.Bound 0) (side.Memory m) ∷ [])) (side_under cs z)
            ∙ ap (λ b. if b then side.Memory m else side_raised 0 (side_changed cs z)) (raised_is_other (side_changed cs z))
            ∙ sym (side_under cs z) ∙ sym (other_side_behind (under_binder cs) (side.Bound 0) (side.Memory m) (side_raised 0 z) (raised_is_other z)))
        step (inr q) = subst Same (sym q) (ap (side_changed (ToSide (side.Bound 0) (side.Memory m) ∷ [])) (side_of_binder cs) ∙ sym (last_side cs (side.Memory m)))

    pub memory_opens : IsOpening (under_binder cs ++ ToSide (side.Bound 0) (side.Memory m) ∷ [])
    memory_opens = record {
      reads = memory_reads;
      own = λ r e. memory_side (λ z. is_own z ≡ false) refl r (own_under r e);
      two = λ r e. memory_side (λ z. is_left_or_right z ≡ false) refl r (two_under r e);
      bounds = λ i. subst IsVariable (sym (bound_found_behind (under_binder cs) (ToSide (side.Bound 0) (side.Memory m) ∷ []) i))
          (either_variable (found_for_bound (under_binder cs) i) None (bounds_under i) tt);
    }

    pub memory_at_once : AtOnce (under_binder cs) (ToSide (side.Bound 0) (side.Memory m) ∷ []) (under_binder cs ++ ToSide (side.Bound 0) (side.Memory m) ∷ [])
    memory_at_once = record {
      first = none_under cs o.reads;
      second = λ r. refl;
      both = memory_reads;
      sides = memory_sides;
      own = own_under;
      two = two_under;
      bounds = λ i. found_behind (found_for_bound (under_binder cs) i) None _ (bounds_under i) (bound_found_behind (under_binder cs) (ToSide (side.Bound 0) (side.Memory m) ∷ []) i);
    }
