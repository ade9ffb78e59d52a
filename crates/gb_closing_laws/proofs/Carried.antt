-- Forms behind quantifiers of a conclusion, in the context of its leaves.
use Rattle.std.proofs.Common.{◌≡◌, ℕ, zero, suc, ◌<◌, ◌⊎◌, inl, inr, true, Option, Some, None, List, [], ◌∷◌, ◌++◌, length, get_or, refl, ap, sym, ◌∙◌, subst, arith}
use Rattle.std.specs.Option.{option_map, option_or}
use Rattle.std.proofs.lemmas.List.{length-append, get_or_at, get_or_append_left}
use Rattle.gb_core.specs.declared.ty.Ty.{Ty}
use Rattle.gb_terms.specs.declared.decl.TypedName.{TypedName}
use Rattle.gb_terms.specs.declared.op.Side.{Side}
use Rattle.gb_terms.specs.declared.op.Side.TheVariants as side
use Rattle.gb_terms.specs.declared.op.Read.TheVariants.{Logical}
use Rattle.gb_terms.specs.declared.term.Term.{Term}
use Rattle.gb_terms.specs.declared.term.Head.TheVariants as head
use Rattle.gb_walk.specs.Raise.{side_raised, term_raised}
use Rattle.gb_walk.specs.declared.change.Change.TheVariants.{OfBound, ToSide}
use Rattle.gb_walk.specs.Change.{Changes, under_binder, found_for_bound, side_changed, term_changed}
use Rattle.gb_laws.proofs.Lookups.{raised_bound, bound_found_under, bound_of_binder, side_under, side_of_binder}
use Rattle.gb_laws.proofs.Puts.{plain_node}
use Rattle.gb_laws.specs.Finite.{IsFinite}
use Rattle.gb_laws.specs.Operators.{item}
use Rattle.gb_laws.specs.Typing.{Binder, IsBoundAt}
use Rattle.gb_laws.specs.Typing.Binder.{value, memory}
use Rattle.gb_laws.specs.Typing as typed
use Rattle.gb_typing.specs.Context.{Context, Frame, erased, frame_of}
use Rattle.gb_typing.specs.Typing.{IsPlace, IsForm}
use Rattle.gb_typing.specs.Changes.{binder, Becomes, Made, no_read}
use Rattle.gb_typing.proofs.Made.{made_node}
use Rattle.gb_amb.proofs.Wider.{placed, small, Moves, form_moved, item_more, item_here}
use Rattle.gb_smt_laws.proofs.Finding.{bound_found_behind, no_side_behind, other_side_behind, raised_is_other, last_side, raised_or_innermost, variable, variable_raised}
use Rattle.gb_closing_laws.proofs.Opening.{IsOpening, opening_start, variable_opens, memory_opens}

-- What is bound so is a variable of the goal's context.
pub record IsVariableAt (us : List Ty) (t : Ty) (f : Option Term) : Type 0 where
  pub place : ℕ
  pub found : f ≡ Some (variable place t)
  pub here : item us place ≡ Some t
  pub finite : IsFinite t

module _ (b : Context) (L : ℕ → Option Ty) (ns : List Frame) where
  -- a context behind quantifiers
  abbrev pub from : List Binder → List Frame → Context
  from bs fs = placed b L ns bs fs

  -- The changes lead from there to the context of a goal.
  pub record IsCarried (cs : Changes) (bs : List Binder) (fs : List Frame) (us : List Ty) (ms : List Frame) : Type 0 where
    pub opening : IsOpening cs
    pub logical : (i : ℕ) (t : Ty) → L i ≡ Some t → item us i ≡ Some t
    pub sides : (r : Side) → typed.IsSide (erased (from bs fs)) r → typed.IsSide (erased (small b us ms)) (side_changed cs r) × (frame_of (from bs fs) r ≡ frame_of (small b us ms) (side_changed cs r))
    pub places : (r : Side) → IsPlace r → IsPlace (side_changed cs r)
    pub bounds : (i : ℕ) (t : Ty) → IsBoundAt (binder (from bs fs) i) t → IsVariableAt us t (found_for_bound cs i)

  module _ (cs : Changes) (bs : List Binder) (fs : List Frame) (us : List Ty) (ms : List Frame) (k : IsCarried cs bs fs us ms) where
    variable_put : (t : Ty) (n : ℕ) → IsFinite t → item us n ≡ Some t → (f l z : Frame) → Made (record (small b us ms) { own = f; left = l; right = z }) t (variable n t)
    variable_put t n fin e f l z = made_node (record (small b us ms) { own = f; left = l; right = z }) (head.Read (Logical n)) [] [] t (fin, e) tt [] tt

    put : (i : ℕ) (t : Ty) → IsVariableAt us t (found_for_bound cs i) → Becomes true (small b us ms) t no_read (found_for_bound cs i) (head.Bound i)
    put i t v =
        subst (λ o. Becomes true (small b us ms) t no_read o (head.Bound i)) (sym v.found)
        (plain_node (head.Read (Logical v.place)) [] t tt tt, λ f l z e q. variable_put t v.place v.finite v.here f l z)

    moves : Moves b cs L (λ i. item us i) ns ms bs [] fs []
    moves = record {
      logical = k.logical;
      unfound = k.opening.reads;
      sides = k.sides;
      bounds = λ i t w. put i t (k.bounds i t w);
      places = k.places;
      stays = record { own = k.opening.own; sides = k.opening.two };
    }

    -- a form behind the quantifiers is one of the goal's context, with the changes
    pub form_carried : (f : Term) → IsForm (from bs fs) f → IsForm (small b us ms) (term_changed f cs)
    form_carried f w = form_moved b cs L (λ i. item us i) ns ms bs [] fs [] moves f w

    -- no memory is bound in the goal's context
    still : (r : Side) → typed.IsSide (erased (small b us ms)) r → side_raised 0 r ≡ r
    still side.Own w = refl
    still side.Left w = refl
    still side.Right w = refl
    still (side.Memory i) w = refl
    still (side.Bound i) w = absurd w

    place_raised : (r : Side) → IsPlace r → IsPlace (side_raised 0 r)
    place_raised side.Own w = absurd w
    place_raised side.Left w = absurd w
    place_raised side.Right w = absurd w
    place_raised (side.Memory i) w = tt
    place_raised (side.Bound i) w = tt

    place_under : (d : Binder) (f : Frame) (z : Side) → IsPlace (side_raised 0 z) → IsPlace z
    place_under d f side.Own w = absurd w
    place_under d f side.Left w = absurd w
    place_under d f side.Right w = absurd w
    place_under d f (side.Memory i) w = tt
    place_under d f (side.Bound i) w = tt

    side_out : (d : Binder) (f : Frame) (z : Side) → typed.IsSide (erased (from (d ∷ bs) (f ∷ fs))) (side_raised 0 z) →
        typed.IsSide (erased (from bs fs)) z × (frame_of (from (d ∷ bs) (f ∷ fs)) (side_raised 0 z) ≡ frame_of (from bs fs) z)
    side_out d f side.Own w = (tt, refl)
    side_out d f side.Left w = (tt, refl)
    side_out d f side.Right w = (tt, refl)
    side_out d f (side.Memory i) w = (w, refl)
    side_out d f (side.Bound i) w = (subst (λ r. typed.IsSide (erased (from (d ∷ bs) (f ∷ fs))) r) (raised_bound i) w, ap (frame_of (from (d ∷ bs) (f ∷ fs))) (raised_bound i))

    more_sides : (vs : List Ty) (os : List Frame) → ((i : ℕ) → i < length ms → (i < length os) × (get_or ms i None ≡ get_or os i None)) → (r : Side) → typed.IsSide (erased (small b us ms)) r →
        typed.IsSide (erased (small b vs os)) r × (frame_of (small b us ms) r ≡ frame_of (small b vs os) r)
    more_sides vs os m side.Own w = (tt, refl)
    more_sides vs os m side.Left w = (tt, refl)
    more_sides vs os m side.Right w = (tt, refl)
    more_sides vs os m (side.Memory i) w = m i w
    more_sides vs os m (side.Bound i) w = absurd w

    -- a side of outside leads where it did
    outer_side : (d : Binder) (f : Frame) (vs : List Ty) (os : List Frame) → ((i : ℕ) → i < length ms → (i < length os) × (get_or ms i None ≡ get_or os i None)) → (z : Side) →
        typed.IsSide (erased (from (d ∷ bs) (f ∷ fs))) (side_raised 0 z) →
        typed.IsSide (erased (small b vs os)) (side_changed (under_binder cs) (side_raised 0 z)) × (frame_of (from (d ∷ bs) (f ∷ fs)) (side_raised 0 z) ≡ frame_of (small b vs os) (side_changed (under_binder cs) (side_raised 0 z)))
    outer_side d f vs os m z w =
        let o = side_out d f z w in
        let x = k.sides z o.0 in
        let y = more_sides vs os m (side_changed cs z) x.0 in
        let e : side_changed (under_binder cs) (side_raised 0 z) ≡ side_changed cs z = side_under cs z ∙ still (side_changed cs z) x.0 in
        (subst (λ r. typed.IsSide (erased (small b vs os)) r) (sym e) y.0, o.1 ∙ x.1 ∙ y.1 ∙ ap (frame_of (small b vs os)) (sym e))

    outer_place : (z : Side) → IsPlace (side_raised 0 z) → IsPlace (side_changed (under_binder cs) (side_raised 0 z))
    outer_place z w = subst IsPlace (sym (side_under cs z)) (place_raised (side_changed cs z) (k.places z (place_under memory None z w)))

    -- what is bound outside stays a variable
    outer_bound : (vs : List Ty) → ((i : ℕ) (t : Ty) → item us i ≡ Some t → item vs i ≡ Some t) → (ds : Changes) (i : ℕ) (t : Ty) → IsVariableAt us t (found_for_bound cs i) →
        IsVariableAt vs t (found_for_bound (under_binder cs ++ ds) (suc i))
    outer_bound vs m ds i t v = record {
      place = v.place;
      found = bound_found_behind (under_binder cs) ds (suc i) ∙ ap (λ o. option_or o (found_for_bound ds (suc i))) (bound_found_under cs i ∙ ap (option_map (λ t. term_raised t 0)) v.found ∙ ap Some (variable_raised v.place t));
      here = m v.place t v.here;
      finite = v.finite;
    }

    -- a variable more
    module _ (n : ℕ) (e : n ≡ length us) (u : Ty) (fin : IsFinite u) where
      abbrev with_value : Changes
      with_value = under_binder cs ++ OfBound 0 (variable n u) ∷ []

      value_side : (r : Side) → typed.IsSide (erased (from (value u ∷ bs) (None ∷ fs))) r →
          typed.IsSide (erased (small b (us ++ u ∷ []) ms)) (side_changed with_value r) × (frame_of (from (value u ∷ bs) (None ∷ fs)) r ≡ frame_of (small b (us ++ u ∷ []) ms) (side_changed with_value r))
      value_side r w = step (raised_or_innermost r)
        where
          Leads : Side → Side → Type 0
          Leads r z = typed.IsSide (erased (small b (us ++ u ∷ []) ms)) z × (frame_of (from (value u ∷ bs) (None ∷ fs)) r ≡ frame_of (small b (us ++ u ∷ []) ms) z)

          step : ((z : Side) × (side_raised 0 z ≡ r)) ⊎ (r ≡ side.Bound 0) → Leads r (side_changed with_value r)
          step (inl (z, q)) =
              subst (Leads r) (sym (no_side_behind (under_binder cs) 0 (variable n u) r))
              (subst (λ r. typed.IsSide (erased (from (value u ∷ bs) (None ∷ fs))) r → Leads r (side_changed (under_binder cs) r)) q (outer_side (value u) None (us ++ u ∷ []) ms (λ i l. (l, refl)) z) w)
          step (inr q) = absurd (subst (λ r. typed.IsSide (erased (from (value u ∷ bs) (None ∷ fs))) r) q w)

      value_place : (r : Side) → IsPlace r → IsPlace (side_changed with_value r)
      value_place r w = subst IsPlace (sym (no_side_behind (under_binder cs) 0 (variable n u) r)) (step (raised_or_innermost r))
        where
          step : ((z : Side) × (side_raised 0 z ≡ r)) ⊎ (r ≡ side.Bound 0) → IsPlace (side_changed (under_binder cs) r)
          step (inl (z, q)) = subst (λ r. IsPlace r → IsPlace (side_changed (under_binder cs) r)) q (outer_place z) w
          step (inr q) = subst (λ r. IsPlace (side_changed (under_binder cs) r)) (sym q) (subst IsPlace (sym (side_of_binder cs)) tt)

      value_bound : (i : ℕ) (t : Ty) → IsBoundAt (binder (from (value u ∷ bs) (None ∷ fs)) i) t → IsVariableAt (us ++ u ∷ []) t (found_for_bound with_value i)
      value_bound zero t w = record {
        place = n;
        found = bound_found_behind (under_binder cs) (OfBound 0 (variable n u) ∷ []) 0 ∙ ap (λ o. option_or o (Some (variable n u))) (bound_of_binder cs) ∙ ap (λ t. Some (variable n t)) w.1;
        here = subst (λ t. item (us ++ u ∷ []) n ≡ Some t) w.1 (subst (λ n. item (us ++ u ∷ []) n ≡ Some u) (sym e) (item_here us u));
        finite = subst IsFinite w.1 fin;
      }
      value_bound (suc i) t w = outer_bound (us ++ u ∷ []) (λ i t q. item_more us (u ∷ []) i t q) (OfBound 0 (variable n u) ∷ []) i t (k.bounds i t w)

      pub carried_value : IsCarried (under_binder cs ++ OfBound 0 (variable n u) ∷ []) (value u ∷ bs) (None ∷ fs) (us ++ u ∷ []) ms
      carried_value = record {
        opening = variable_opens cs k.opening n u;
        logical = λ i t q. item_more us (u ∷ []) i t (k.logical i t q);
        sides = value_side;
        places = value_place;
        bounds = value_bound;
      }

    -- a memory more
    module _ (n : ℕ) (e : n ≡ length ms) (ls : List TypedName) where
      abbrev with_bound : Changes
      with_bound = under_binder cs ++ ToSide (side.Bound 0) (side.Memory n) ∷ []

      abbrev os : List Frame
      os = ms ++ Some ls ∷ []

      memory_side : (r : Side) → typed.IsSide (erased (from (memory ∷ bs) (Some ls ∷ fs))) r →
          typed.IsSide (erased (small b us os)) (side_changed with_bound r) × (frame_of (from (memory ∷ bs) (Some ls ∷ fs)) r ≡ frame_of (small b us os) (side_changed with_bound r))
      memory_side r w = step (raised_or_innermost r)
        where
          Leads : Side → Side → Type 0
          Leads r z = typed.IsSide (erased (small b us os)) z × (frame_of (from (memory ∷ bs) (Some ls ∷ fs)) r ≡ frame_of (small b us os) z)

          IsLed : Side → Type 0
          IsLed r = typed.IsSide (erased (from (memory ∷ bs) (Some ls ∷ fs))) r → Leads r (side_changed with_bound r)

          more : (i : ℕ) → i < length ms → (i < length os) × (get_or ms i None ≡ get_or os i None)
          more i l = (omega (arith, l, length-append ms (Some ls ∷ [])), sym (get_or_append_left ms (Some ls ∷ []) None i l))

          outer : (z : Side) → IsLed (side_raised 0 z)
          outer z w =
              subst (Leads (side_raised 0 z)) (sym (other_side_behind (under_binder cs) (side.Bound 0) (side.Memory n) (side_raised 0 z) (raised_is_other z))) (outer_side memory (Some ls) us os more z w)

          last : Leads (side.Bound 0) (side.Memory n)
          last = (subst (λ n. n < length os) (sym e) (omega (arith, length-append ms (Some ls ∷ []))), sym (subst (λ n. get_or os n None ≡ Some ls) (sym e) (get_or_at ms (Some ls) [] None (length ms) refl)))

          step : ((z : Side) × (side_raised 0 z ≡ r)) ⊎ (r ≡ side.Bound 0) → Leads r (side_changed with_bound r)
          step (inl (z, q)) = subst IsLed q (outer z) w
          step (inr q) = subst IsLed (sym q) (λ x. subst (Leads (side.Bound 0)) (sym (last_side cs (side.Memory n))) last) w

      memory_place : (r : Side) → IsPlace r → IsPlace (side_changed with_bound r)
      memory_place r w = step (raised_or_innermost r)
        where
          IsLed : Side → Type 0
          IsLed r = IsPlace r → IsPlace (side_changed with_bound r)

          step : ((z : Side) × (side_raised 0 z ≡ r)) ⊎ (r ≡ side.Bound 0) → IsPlace (side_changed with_bound r)
          step (inl (z, q)) = subst IsLed q (λ x. subst IsPlace (sym (other_side_behind (under_binder cs) (side.Bound 0) (side.Memory n) (side_raised 0 z) (raised_is_other z))) (outer_place z x)) w
          step (inr q) = subst IsLed (sym q) (λ x. subst IsPlace (sym (last_side cs (side.Memory n))) tt) w

      memory_bound : (i : ℕ) (t : Ty) → IsBoundAt (binder (from (memory ∷ bs) (Some ls ∷ fs)) i) t → IsVariableAt us t (found_for_bound with_bound i)
      memory_bound zero t w = absurd w
      memory_bound (suc i) t w = outer_bound us (λ i t q. q) (ToSide (side.Bound 0) (side.Memory n) ∷ []) i t (k.bounds i t w)

      pub carried_memory : IsCarried (under_binder cs ++ ToSide (side.Bound 0) (side.Memory n) ∷ []) (memory ∷ bs) (Some ls ∷ fs) us os
      carried_memory = record {
        opening = memory_opens cs k.opening n;
        logical = k.logical;
        sides = memory_side;
        places = memory_place;
        bounds = memory_bound;
      }

-- the goal's context itself
pub carried_start : (b : Context) (us : List Ty) (ns : List Frame) → IsCarried b (λ i. item us i) ns [] [] [] us ns
carried_start b us ns = record { opening = opening_start; logical = λ i t e. e; sides = λ r w. (w, refl); places = λ r w. w; bounds = λ i t w. absurd w }
