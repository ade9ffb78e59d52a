-- Changed terms are well typed.
use Rattle.std.proofs.Common.{◌≡◌, ℕ, zero, suc, ◌⊎◌, inl, inr, Bool, true, false, List, [], ◌∷◌, map, Option, Some, None, refl, ap, sym, ◌∙◌, subst}
use Rattle.std.proofs.lemmas.Bool.{false≢true}
use Rattle.std.specs.Option.{option_map}
use Rattle.gb_core.specs.declared.ty.Ty.{Ty}
use Rattle.gb_core.specs.declared.var.Var.{Var}
use Rattle.gb_core.specs.declared.var.Var.TheVariants as var
use Rattle.gb_terms.specs.declared.decl.TypedName.{TypedName}
use Rattle.gb_terms.specs.declared.module.ProcRef.{ProcRef}
use Rattle.gb_terms.specs.declared.op.Side.{Side}
use Rattle.gb_terms.specs.declared.op.Side.TheVariants as side
use Rattle.gb_terms.specs.declared.op.Read.{Read}
use Rattle.gb_terms.specs.declared.op.Read.TheVariants.{Logical, Program}
use Rattle.gb_terms.specs.declared.term.Term.{Term, Term', Row_of-Term, end_of-Term, more_of-Term, end_of-Head, more_of-Head}
use Rattle.gb_terms.specs.declared.term.Subject.{Subject}
use Rattle.gb_terms.specs.declared.term.Head.{Head}
use Rattle.gb_terms.specs.declared.term.Head.TheVariants as head
use Rattle.gb_terms.specs.declared.term.Head.TheVariants.{Proc, Body'}
use Rattle.gb_walk.specs.Layers.{seen_by}
use Rattle.gb_walk.specs.Raise.{side_raised, read_raised, term_raised}
use Rattle.gb_walk.specs.Change.Made.{Kept}
use Rattle.gb_walk.specs.Change.{Changes, is_own, is_left_or_right, is_read_through, without, under_binder, seen_by_args, seen_by_last, put_or, found_for_read, found_for_bound, side_changed, read_changed, term_of, term_changed, subject_changed}
use Rattle.gb_meaning.specs.Names.{Name}
use Rattle.gb_meaning.specs.Commands.{terms_in}
use Rattle.gb_meaning.specs.Operators.{outcome_type}
use Rattle.gb_meaning.specs.Written.{type_of}
use Rattle.gb_laws.specs.Plain.{HeadIsPlain, AllPlain}
use Rattle.gb_laws.proofs.Changed.{changed_at, term_changed_is}
use Rattle.gb_laws.proofs.Forms.{procedure_stays}
use Rattle.gb_laws.proofs.Puts.{plain_raised}
use Rattle.gb_laws.proofs.Lookups.{raised_bound, read_found_under, read_of_binder, bound_found_under, bound_of_binder, side_under, side_of_binder, read_found_without, bound_found_without, side_without, read_found_none, side_kept}
use Rattle.gb_laws.specs.Typing.{Binder, types_of, IsBoundAt, IsSide, IsProbability, IsHead}
use Rattle.gb_laws.specs.Typing.Binder.{value, index, memory, program}
use Rattle.gb_typing.specs.Context.{Frame, Context, procedure, erased, frame_of, with_own, with_sides, reframed, within}
use Rattle.gb_typing.specs.Typing.{IsFrame, IsPlace, IsThere, before, after, procedure_in, IsNamed, first, middle, last, IsTyped, AreTyped}
use Rattle.gb_typing.specs.Puts.{Keeps}
use Rattle.gb_typing.specs.Changes.{binder, IsLeaf, IsMemoryIn, Made, no_read, Becomes, Leads, Stays, Enters}
use Rattle.gb_typing.proofs.Made.{EachMade, made_node}
use Rattle.gb_typing.proofs.Rebound.{own_there, own_back, own_frame, own_new_frame, own_new, own_side, own_place, sides_there, sides_back, sides_frame, sides_new_frame, sides_new, sides_side, sides_place}
use Rattle.gb_typing.proofs.Raised.{lifts_zero, Lifts, raised}
use mathlib.Core.Former.{Count}

-- where B is false, no memories are bound in the term
module _ (B : Bool) where
  -- Under a binder.

  through_raised : (p : Side → Bool) → ((r : Side) → p (side_raised 0 r) ≡ p r) → (r : Read) → is_read_through p (read_raised 0 r) ≡ is_read_through p r
  through_raised p e (Logical i) = refl
  through_raised p e (Program x r) = e r

  own_raised : (r : Side) → is_own (side_raised 0 r) ≡ is_own r
  own_raised side.Own = refl
  own_raised side.Left = refl
  own_raised side.Right = refl
  own_raised (side.Memory i) = refl
  own_raised (side.Bound i) = refl

  sides_raised : (r : Side) → is_left_or_right (side_raised 0 r) ≡ is_left_or_right r
  sides_raised side.Own = refl
  sides_raised side.Left = refl
  sides_raised side.Right = refl
  sides_raised (side.Memory i) = refl
  sides_raised (side.Bound i) = refl

  raised_in : (d : Context) (b : Binder) (e : Frame) (ty : Ty) (r s : Read) → is_read_through is_own s ≡ is_read_through is_own r → is_read_through is_left_or_right s ≡ is_read_through is_left_or_right r →
      (o : Option Term) (h k : Head) → (IsLeaf d h ty → IsLeaf (within d b e) k ty) → Becomes B d ty r o h → Becomes B (within d b e) ty s (option_map (λ u. term_raised u 0) o) k
  raised_in d b e ty r s u v (Some t) h k lift m = (
    plain_raised t 0 m.0,
    λ f l o keeps same. let x = m.1 f l o ((λ z. keeps.0 (u ∙ z)), (λ z. keeps.1 (v ∙ z))) same in
        subst (λ z. Made (within (reframed d f l o) b e) z (term_raised t 0)) x.written (raised 0 (reframed d f l o) (within (reframed d f l o) b e) (lifts_zero (reframed d f l o) b e) t m.0 x.typed),
  )
  raised_in d b e ty r s u v None h k lift m = lift m

  read_under : (cs : Changes) (r : Read) → read_changed (under_binder cs) (read_raised 0 r) ≡ read_raised 0 (read_changed cs r)
  read_under cs (Logical i) = refl
  read_under cs (Program x r) = ap (Program x) (side_under cs r)

  module _ (cs : Changes) (c d : Context) (l : Leads B cs c d) (b : Binder) (e : Frame) where
    lead_read : (r : Read) (ty : Ty) → IsLeaf c (head.Read r) ty →
        Becomes B (within d b e) ty (read_raised 0 r) (found_for_read (under_binder cs) (read_raised 0 r)) (head.Read (read_changed (under_binder cs) (read_raised 0 r)))
    lead_read r ty w =
        subst (λ q. Becomes B (within d b e) ty (read_raised 0 r) (found_for_read (under_binder cs) (read_raised 0 r)) (head.Read q)) (sym (read_under cs r))
        (subst (λ o. Becomes B (within d b e) ty (read_raised 0 r) o (head.Read (read_raised 0 (read_changed cs r)))) (sym (read_found_under cs r))
        (raised_in d b e ty r (read_raised 0 r) (through_raised is_own own_raised r) (through_raised is_left_or_right sides_raised r) (found_for_read cs r) (head.Read (read_changed cs r)) (head.Read (read_raised 0 (read_changed cs r)))
        (λ x. let z : Lifts 0 d (within d b e) = lifts_zero d b e in z.reads (read_changed cs r) ty x) (l.reads r ty w)))

    of_binder : (x : Var) (ty : Ty) → IsLeaf (within d b e) (head.Read (Program x (side.Bound 0))) ty →
        Becomes B (within d b e) ty (Program x (side.Bound 0)) (found_for_read (under_binder cs) (Program x (side.Bound 0))) (head.Read (read_changed (under_binder cs) (Program x (side.Bound 0))))
    of_binder x ty w =
        subst (λ o. Becomes B (within d b e) ty (Program x (side.Bound 0)) o (head.Read (Program x (side_changed (under_binder cs) (side.Bound 0))))) (sym (read_of_binder cs x))
        (subst (λ r. IsLeaf (within d b e) (head.Read (Program x r)) ty) (sym (side_of_binder cs)) w)

    outer : (x : Var) (i : ℕ) (ty : Ty) → IsLeaf c (head.Read (Program x (side.Bound i))) ty →
        Becomes B (within d b e) ty (Program x (side.Bound (suc i))) (found_for_read (under_binder cs) (Program x (side.Bound (suc i)))) (head.Read (read_changed (under_binder cs) (Program x (side.Bound (suc i)))))
    outer x i ty w =
        subst (λ r. Becomes B (within d b e) ty (Program x r) (found_for_read (under_binder cs) (Program x r)) (head.Read (read_changed (under_binder cs) (Program x r)))) (raised_bound i)
        (lead_read (Program x (side.Bound i)) ty w)

    reads_under : (r : Read) (ty : Ty) → IsLeaf (within c b e) (head.Read r) ty → Becomes B (within d b e) ty r (found_for_read (under_binder cs) r) (head.Read (read_changed (under_binder cs) r))
    reads_under (Logical i) ty w = lead_read (Logical i) ty w
    reads_under (Program (var.Local x) side.Own) ty w = lead_read (Program (var.Local x) side.Own) ty w
    reads_under (Program (var.Local x) side.Left) ty w = lead_read (Program (var.Local x) side.Left) ty w
    reads_under (Program (var.Local x) side.Right) ty w = lead_read (Program (var.Local x) side.Right) ty w
    reads_under (Program (var.Local x) (side.Memory i)) ty w = lead_read (Program (var.Local x) (side.Memory i)) ty w
    reads_under (Program (var.Local x) (side.Bound zero)) ty w = of_binder (var.Local x) ty w
    reads_under (Program (var.Local x) (side.Bound (suc i))) ty w = outer (var.Local x) i ty w
    reads_under (Program (var.Global m x) side.Own) ty w = lead_read (Program (var.Global m x) side.Own) ty w
    reads_under (Program (var.Global m x) side.Left) ty w = lead_read (Program (var.Global m x) side.Left) ty w
    reads_under (Program (var.Global m x) side.Right) ty w = lead_read (Program (var.Global m x) side.Right) ty w
    reads_under (Program (var.Global m x) (side.Memory i)) ty w = lead_read (Program (var.Global m x) (side.Memory i)) ty w
    reads_under (Program (var.Global m x) (side.Bound zero)) ty w = of_binder (var.Global m x) ty ((w.0.0, w.0.1, l.global m x ty w.0.2), (w.1.0, l.global m x ty w.1.1))
    reads_under (Program (var.Global m x) (side.Bound (suc i))) ty w = outer (var.Global m x) i ty w
    reads_under (Program (var.Glob a) side.Own) ty w = lead_read (Program (var.Glob a) side.Own) ty w
    reads_under (Program (var.Glob a) side.Left) ty w = lead_read (Program (var.Glob a) side.Left) ty w
    reads_under (Program (var.Glob a) side.Right) ty w = lead_read (Program (var.Glob a) side.Right) ty w
    reads_under (Program (var.Glob a) (side.Memory i)) ty w = lead_read (Program (var.Glob a) (side.Memory i)) ty w
    reads_under (Program (var.Glob a) (side.Bound zero)) ty w = of_binder (var.Glob a) ty (w.0, (w.1.0, l.has_globals a w.1.1, w.1.2))
    reads_under (Program (var.Glob a) (side.Bound (suc i))) ty w = outer (var.Glob a) i ty w

    bounds_under : (i : ℕ) (ty : Ty) → IsBoundAt (binder (within c b e) i) ty → Becomes B (within d b e) ty no_read (found_for_bound (under_binder cs) i) (head.Bound i)
    bounds_under zero ty w = subst (λ o. Becomes B (within d b e) ty no_read o (head.Bound 0)) (sym (bound_of_binder cs)) (w, tt)
    bounds_under (suc i) ty w =
        subst (λ o. Becomes B (within d b e) ty no_read o (head.Bound (suc i))) (sym (bound_found_under cs i))
        (raised_in d b e ty no_read no_read refl refl (found_for_bound cs i) (head.Bound i) (head.Bound (suc i)) (λ x. x) (l.bounds i ty w))

    raised_memory : (r : Side) → IsMemoryIn d r → IsMemoryIn (within d b e) (side_raised 0 r)
    raised_memory side.Own w = w
    raised_memory side.Left w = w
    raised_memory side.Right w = w
    raised_memory (side.Memory i) w = w
    raised_memory (side.Bound i) w = subst (IsMemoryIn (within d b e)) (sym (raised_bound i)) w

    lead_side : (r : Side) → IsMemoryIn c r → IsMemoryIn (within d b e) (side_changed (under_binder cs) (side_raised 0 r))
    lead_side r w = subst (IsMemoryIn (within d b e)) (sym (side_under cs r)) (raised_memory (side_changed cs r) (l.sides r w))

    sides_under : (r : Side) → IsMemoryIn (within c b e) r → IsMemoryIn (within d b e) (side_changed (under_binder cs) r)
    sides_under side.Own w = lead_side side.Own w
    sides_under side.Left w = lead_side side.Left w
    sides_under side.Right w = lead_side side.Right w
    sides_under (side.Memory i) w = lead_side (side.Memory i) w
    sides_under (side.Bound zero) w = subst (IsMemoryIn (within d b e)) (sym (side_of_binder cs)) w
    sides_under (side.Bound (suc i)) w = subst (λ r. IsMemoryIn (within d b e) (side_changed (under_binder cs) r)) (raised_bound i) (lead_side (side.Bound i) w)

    raised_place : (r : Side) → IsPlace r → IsPlace (side_raised 0 r)
    raised_place side.Own w = w
    raised_place side.Left w = w
    raised_place side.Right w = w
    raised_place (side.Memory i) w = w
    raised_place (side.Bound i) w = tt

    lead_place : (r : Side) → IsPlace r → IsPlace (side_changed (under_binder cs) (side_raised 0 r))
    lead_place r w = subst IsPlace (sym (side_under cs r)) (raised_place (side_changed cs r) (l.places r w))

    places_under : (r : Side) → IsPlace r → IsPlace (side_changed (under_binder cs) r)
    places_under side.Own w = absurd w
    places_under side.Left w = absurd w
    places_under side.Right w = absurd w
    places_under (side.Memory i) w = lead_place (side.Memory i) w
    places_under (side.Bound zero) w = subst IsPlace (sym (side_of_binder cs)) tt
    places_under (side.Bound (suc i)) w = subst (λ r. IsPlace (side_changed (under_binder cs) r)) (raised_bound i) (lead_place (side.Bound i) tt)

    leads_under : Leads B (under_binder cs) (within c b e) (within d b e)
    leads_under = record {
      reads = reads_under;
      bounds = bounds_under;
      sides = sides_under;
      places = places_under;
      global = l.global;
      operator = l.operator;
      procedure = l.procedure;
      has_globals = l.has_globals;
    }

  stays_under : (cs : Changes) → Stays cs → Stays (under_binder cs)
  stays_under cs y = record { own = under is_own own_raised refl y.own; sides = under is_left_or_right sides_raised refl y.sides }
    where
      under : (p : Side → Bool) → ((r : Side) → p (side_raised 0 r) ≡ p r) → p (side.Bound 0) ≡ false → ((r : Side) → p r ≡ false → p (side_changed cs r) ≡ false) →
          (r : Side) → p r ≡ false → p (side_changed (under_binder cs) r) ≡ false
      under p e z f side.Own h = ap p (side_under cs side.Own) ∙ e (side_changed cs side.Own) ∙ f side.Own h
      under p e z f side.Left h = ap p (side_under cs side.Left) ∙ e (side_changed cs side.Left) ∙ f side.Left h
      under p e z f side.Right h = ap p (side_under cs side.Right) ∙ e (side_changed cs side.Right) ∙ f side.Right h
      under p e z f (side.Memory i) h = ap p (side_under cs (side.Memory i)) ∙ e (side_changed cs (side.Memory i)) ∙ f (side.Memory i) h
      under p e z f (side.Bound zero) h = ap p (side_of_binder cs) ∙ z
      under p e z f (side.Bound (suc i)) h =
          ap (λ r. p (side_changed (under_binder cs) r)) (sym (raised_bound i)) ∙ ap p (side_under cs (side.Bound i)) ∙ e (side_changed cs (side.Bound i))
          ∙ f (side.Bound i) (sym (e (side.Bound i)) ∙ ap p (raised_bound i) ∙ h)

  -- Where memories are bound.

  abbrev AtMost : (Side → Bool) → Changes → Type 0
  AtMost p cs = (r : Side) → p r ≡ false → p (side_changed cs r) ≡ false

  kept_apart : (p q : Side → Bool) (cs : Changes) → AtMost q cs → AtMost q (without p cs)
  kept_apart p q cs f r h = step (p r) refl
    where
      step : (b : Bool) → p r ≡ b → q (side_changed (without p cs) r) ≡ false
      step true e = ap q (side_kept p cs r e) ∙ h
      step false e = ap q (side_without p cs r e) ∙ f r h

  stays_without : (p : Side → Bool) (cs : Changes) → Stays cs → Stays (without p cs)
  stays_without p cs y = record { own = kept_apart p is_own cs y.own; sides = kept_apart p is_left_or_right cs y.sides }

  -- Other locals for the memories of p.
  module _ (p : Side → Bool) (F L H : Context → Frame) where
    abbrev R : Context → Context
    R c = record c { own = F c; left = L c; right = H c }

    pub record Rebinds : Type 0 where
      pub there : (c : Context) (q : Read) (ty : Ty) → is_read_through p q ≡ false → IsNamed c (head.Read q) ty → IsNamed (R c) (head.Read q) ty
      pub back : (c : Context) (q : Read) (ty : Ty) → is_read_through p q ≡ false → IsNamed (R c) (head.Read q) ty → IsNamed c (head.Read q) ty
      pub frame_there : (c : Context) (r : Side) → p r ≡ false → frame_of c r ≡ frame_of (R c) r
      pub frame_new : (c d : Context) (r : Side) → p r ≡ true → frame_of (R c) r ≡ frame_of (R d) r
      pub new : (c d : Context) (x : Var) (r : Side) (ty : Ty) → p r ≡ true → ((m x : Name) (t : Ty) → c.global m x ≡ Some t → d.global m x ≡ Some t) → ((a : Name) → c.has_globals a ≡ true → d.has_globals a ≡ true) →
          IsLeaf (R c) (head.Read (Program x r)) ty → IsLeaf (R d) (head.Read (Program x r)) ty
      pub keeps : (d : Context) (q : Read) (f l k : Frame) → is_read_through p q ≡ false → Keeps q (R d) f l k → Keeps q d f l k
      pub side : (c d : Context) (r : Side) → p r ≡ true → IsSide (erased c) r → IsSide (erased d) r
      pub place : (r : Side) → p r ≡ true → IsPlace r → ⊥

    module _ (z : Rebinds) (cs : Changes) (c d : Context) (l : Leads B cs c d) (y : AtMost p cs) (enters : B ≡ true) where
      reads_new : (x : Var) (r : Side) (ty : Ty) → p r ≡ true → IsLeaf (R c) (head.Read (Program x r)) ty →
          Becomes B (R d) ty (Program x r) (found_for_read (without p cs) (Program x r)) (head.Read (read_changed (without p cs) (Program x r)))
      reads_new x r ty e w =
          subst (λ o. Becomes B (R d) ty (Program x r) o (head.Read (read_changed (without p cs) (Program x r)))) (sym (read_found_none p cs (Program x r) e))
          (subst (λ s. IsLeaf (R d) (head.Read (Program x s)) ty) (sym (side_kept p cs r e)) (z.new c d x r ty e l.global l.has_globals w))

      turned : (q s : Read) (ty : Ty) (o : Option Term) → is_read_through p q ≡ false → is_read_through p s ≡ false → Becomes B d ty q o (head.Read s) → Becomes B (R d) ty q o (head.Read s)
      turned q s ty (Some t) e u m = (m.0, λ f l k keeps same. m.1 f l k (z.keeps d q f l k e keeps) (λ h. absurd (false≢true (sym h ∙ enters))))
      turned q s ty None e u m = (m.0, z.there d s ty u m.1)

      read_kept : (q : Read) → is_read_through p q ≡ false → read_changed (without p cs) q ≡ read_changed cs q
      read_kept (Logical i) e = refl
      read_kept (Program x r) e = ap (Program x) (side_without p cs r e)

      read_apart : (q : Read) → is_read_through p q ≡ false → is_read_through p (read_changed cs q) ≡ false
      read_apart (Logical i) e = refl
      read_apart (Program x r) e = y r e

      reads_old : (q : Read) (ty : Ty) → is_read_through p q ≡ false → IsLeaf (R c) (head.Read q) ty → Becomes B (R d) ty q (found_for_read (without p cs) q) (head.Read (read_changed (without p cs) q))
      reads_old q ty e w =
          subst (λ o. Becomes B (R d) ty q o (head.Read (read_changed (without p cs) q))) (sym (read_found_without p cs q e))
          (subst (λ s. Becomes B (R d) ty q (found_for_read cs q) (head.Read s)) (sym (read_kept q e))
          (turned q (read_changed cs q) ty (found_for_read cs q) e (read_apart q e) (l.reads q ty (w.0, z.back c q ty e w.1))))

      reads_bound : (q : Read) (ty : Ty) → IsLeaf (R c) (head.Read q) ty → Becomes B (R d) ty q (found_for_read (without p cs) q) (head.Read (read_changed (without p cs) q))
      reads_bound (Logical i) ty w = reads_old (Logical i) ty refl w
      reads_bound (Program x r) ty w = step (p r) refl
        where
          step : (b : Bool) → p r ≡ b → Becomes B (R d) ty (Program x r) (found_for_read (without p cs) (Program x r)) (head.Read (read_changed (without p cs) (Program x r)))
          step true e = reads_new x r ty e w
          step false e = reads_old (Program x r) ty e w

      bounds_turned : (i : ℕ) (ty : Ty) (o : Option Term) → Becomes B d ty no_read o (head.Bound i) → Becomes B (R d) ty no_read o (head.Bound i)
      bounds_turned i ty (Some t) m = (m.0, λ f l k keeps same. m.1 f l k (z.keeps d no_read f l k refl keeps) (λ h. absurd (false≢true (sym h ∙ enters))))
      bounds_turned i ty None m = m

      sides_bound : (r : Side) → IsMemoryIn (R c) r → IsMemoryIn (R d) (side_changed (without p cs) r)
      sides_bound r w = step (p r) refl
        where
          step : (b : Bool) → p r ≡ b → IsMemoryIn (R d) (side_changed (without p cs) r)
          step true e = subst (IsMemoryIn (R d)) (sym (side_kept p cs r e)) (z.side c d r e w.0, subst IsFrame (z.frame_new c d r e) w.1)
          step false e =
              let x = l.sides r (w.0, subst IsFrame (sym (z.frame_there c r e)) w.1) in
              subst (IsMemoryIn (R d)) (sym (side_without p cs r e)) (x.0, subst IsFrame (z.frame_there d (side_changed cs r) (y r e)) x.1)

      places_bound : (r : Side) → IsPlace r → IsPlace (side_changed (without p cs) r)
      places_bound r w = step (p r) refl
        where
          step : (b : Bool) → p r ≡ b → IsPlace (side_changed (without p cs) r)
          step true e = absurd (z.place r e w)
          step false e = subst IsPlace (sym (side_without p cs r e)) (l.places r w)

      leads_bound : Leads B (without p cs) (R c) (R d)
      leads_bound = record {
        reads = reads_bound;
        bounds = λ i ty w. subst (λ o. Becomes B (R d) ty no_read o (head.Bound i)) (sym (bound_found_without p cs i)) (bounds_turned i ty (found_for_bound cs i) (l.bounds i ty w));
        sides = sides_bound;
        places = places_bound;
        global = l.global;
        operator = l.operator;
        procedure = l.procedure;
        has_globals = l.has_globals;
      }

  -- the own memory, and both sides

  module _ (f : Frame) where
    rebinds_own : Rebinds is_own (λ c. f) (λ c. c.left) (λ c. c.right)
    rebinds_own = record {
      there = own_there f;
      back = own_back f;
      frame_there = own_frame f;
      frame_new = own_new_frame f;
      new = own_new f;
      keeps = λ d q g l k e h. ((λ x. absurd (false≢true (sym e ∙ x))), h.1);
      side = own_side f;
      place = own_place f;
    }

  module _ (f h : Frame) where
    rebinds_sides : Rebinds is_left_or_right (λ c. c.own) (λ c. f) (λ c. h)
    rebinds_sides = record {
      there = sides_there f h;
      back = sides_back f h;
      frame_there = sides_frame f h;
      frame_new = sides_new_frame f h;
      new = sides_new f h;
      keeps = λ d q g l k e x. (x.0, (λ y. absurd (false≢true (sym e ∙ y))));
      side = sides_side f h;
      place = sides_place f h;
    }

  abbrev HeadEnters : Head → Changes → Type 0
  HeadEnters h cs = HeadIsPlain h ⊎ (Stays cs × (B ≡ true))

  abbrev RowEnters : {n : Count} → Row_of-Term n → Changes → Changes → Type 0
  RowEnters ts y z = AllPlain ts ⊎ (Stays y × Stays z × (B ≡ true))

  stays_first : (h : Head) (cs : Changes) → Stays cs → Stays (seen_by_args h cs)
  stays_first (head.Hoare s) cs y = stays_without is_own cs y
  stays_first (head.Phoare s r) cs y = stays_without is_own cs y
  stays_first (head.Equiv s u) cs y = stays_without is_left_or_right cs y
  stays_first _ cs y = y

  stays_last : (h : Head) (cs : Changes) → Stays cs → Stays (seen_by_last h cs)
  stays_last (head.All t) cs a = stays_under cs a
  stays_last (head.Some t) cs a = stays_under cs a
  stays_last head.AllMemory cs a = stays_under cs a
  stays_last head.SomeMemory cs a = stays_under cs a
  stays_last (head.AllModule b) cs a = stays_under cs a
  stays_last head.Mu cs a = stays_under cs a
  stays_last (head.Sum n) cs a = stays_under cs a
  stays_last head.Map cs a = stays_under cs a
  stays_last head.Restrict cs a = stays_under cs a
  stays_last (head.Pr p r) cs a = stays_without is_own cs a
  stays_last (head.Hoare c) cs a = stays_without is_own cs a
  stays_last (head.Phoare c r) cs a = stays_without is_own cs a
  stays_last (head.Equiv c d) cs a = stays_without is_left_or_right cs a
  stays_last _ cs a = a

  module _ (cs : Changes) (c d : Context) (l : Leads B cs c d) where
    leads_own : (f : Frame) → Stays cs × (B ≡ true) → Leads B (without is_own cs) (with_own c f) (with_own d f)
    leads_own f y = leads_bound is_own (λ c. f) (λ c. c.left) (λ c. c.right) (rebinds_own f) cs c d l (let o : Stays cs = y.0 in o.own) y.1

    leads_sides : (f h : Frame) → Stays cs × (B ≡ true) → Leads B (without is_left_or_right cs) (with_sides c f h) (with_sides d f h)
    leads_sides f h y = leads_bound is_left_or_right (λ c. c.own) (λ c. f) (λ c. h) (rebinds_sides f h) cs c d l (let o : Stays cs = y.0 in o.sides) y.1

    same_procedure : (s : Subject) → procedure_in c s ≡ procedure_in d s
    same_procedure (Proc p) = l.procedure p
    same_procedure (Body' n is) = refl

    leads_first : (h : Head) → HeadEnters h cs → Leads B (seen_by_args h cs) (first c h) (first d h)
    leads_first (head.Hoare s) (inl x) = absurd x
    leads_first (head.Hoare s) (inr y) = subst (λ o. Leads B (without is_own cs) (first c (head.Hoare s)) (with_own d (before o))) (same_procedure s) (leads_own (before (procedure_in c s)) y)
    leads_first (head.Phoare s r) (inl x) = absurd x
    leads_first (head.Phoare s r) (inr y) = subst (λ o. Leads B (without is_own cs) (first c (head.Phoare s r)) (with_own d (before o))) (same_procedure s) (leads_own (before (procedure_in c s)) y)
    leads_first (head.Equiv s u) (inl x) = absurd x
    leads_first (head.Equiv s u) (inr y) =
        subst (λ o. Leads B (without is_left_or_right cs) (first c (head.Equiv s u)) (with_sides d (before (procedure_in d s)) (before o))) (same_procedure u)
        (subst (λ o. Leads B (without is_left_or_right cs) (first c (head.Equiv s u)) (with_sides d (before o) (before (procedure_in c u)))) (same_procedure s)
        (leads_sides (before (procedure_in c s)) (before (procedure_in c u)) y))
    leads_first _ e = l

    leads_middle : (h : Head) → HeadEnters h cs → Leads B (seen_by_args h cs) (middle c h) (middle d h)
    leads_middle (head.Hoare s) (inl x) = absurd x
    leads_middle (head.Hoare s) (inr y) = subst (λ o. Leads B (without is_own cs) (middle c (head.Hoare s)) (with_own d (after o))) (same_procedure s) (leads_own (after (procedure_in c s)) y)
    leads_middle (head.Phoare s r) (inl x) = absurd x
    leads_middle (head.Phoare s r) (inr y) = subst (λ o. Leads B (without is_own cs) (middle c (head.Phoare s r)) (with_own d (after o))) (same_procedure s) (leads_own (after (procedure_in c s)) y)
    leads_middle (head.Equiv s u) (inl x) = absurd x
    leads_middle (head.Equiv s u) (inr y) =
        subst (λ o. Leads B (without is_left_or_right cs) (middle c (head.Equiv s u)) (with_sides d (after (procedure_in d s)) (after o))) (same_procedure u)
        (subst (λ o. Leads B (without is_left_or_right cs) (middle c (head.Equiv s u)) (with_sides d (after o) (after (procedure_in c u)))) (same_procedure s)
        (leads_sides (after (procedure_in c s)) (after (procedure_in c u)) y))
    leads_middle _ e = l

    leads_last : (ls : List TypedName) (h : Head) (us : List Ty) (ty : Ty) → HeadEnters h cs → IsHead (erased c) h us ty → Leads B (seen_by_last h cs) (last c ls h us) (last d ls h us)
    leads_last ls (head.All u) us ty e w = leads_under cs c d l (value u) None
    leads_last ls (head.Some u) us ty e w = leads_under cs c d l (value u) None
    leads_last ls head.AllMemory us ty e w = leads_under cs c d l memory (Some ls)
    leads_last ls head.SomeMemory us ty e w = leads_under cs c d l memory (Some ls)
    leads_last ls (head.AllModule b) us ty e w = leads_under cs c d l program None
    leads_last ls head.Mu [] ty e w = absurd w
    leads_last ls head.Mu (u ∷ us) ty e w = leads_under cs c d l (value (outcome_type u)) None
    leads_last ls (head.Sum q) us ty e w = leads_under cs c d l (index q) None
    leads_last ls head.Map [] ty e w = absurd w
    leads_last ls head.Map (u ∷ us) ty e w = leads_under cs c d l (value (outcome_type u)) None
    leads_last ls head.Restrict [] ty e w = absurd w
    leads_last ls head.Restrict (u ∷ us) ty e w = leads_under cs c d l (value (outcome_type u)) None
    leads_last ls (head.Pr p r) us ty (inl x) w = absurd x
    leads_last ls (head.Pr p r) us ty (inr y) w = subst (λ o. Leads B (without is_own cs) (last c ls (head.Pr p r) us) (with_own d (after o))) (l.procedure p) (leads_own (after (procedure c p)) y)
    leads_last ls (head.Hoare s) us ty (inl x) w = absurd x
    leads_last ls (head.Hoare s) us ty (inr y) w = subst (λ o. Leads B (without is_own cs) (last c ls (head.Hoare s) us) (with_own d (after o))) (same_procedure s) (leads_own (after (procedure_in c s)) y)
    leads_last ls (head.Phoare s r) us ty (inl x) w = absurd x
    leads_last ls (head.Phoare s r) us ty (inr y) w = leads_own None y
    leads_last ls (head.Equiv s u) us ty (inl x) w = absurd x
    leads_last ls (head.Equiv s u) us ty (inr y) w =
        subst (λ o. Leads B (without is_left_or_right cs) (last c ls (head.Equiv s u) us) (with_sides d (after (procedure_in d s)) (after o))) (same_procedure u)
        (subst (λ o. Leads B (without is_left_or_right cs) (last c ls (head.Equiv s u) us) (with_sides d (after o) (after (procedure_in c u)))) (same_procedure s)
        (leads_sides (after (procedure_in c s)) (after (procedure_in c u)) y))
    leads_last ls _ us ty e w = l

    put_made : (r : Read) (o : Option Term) (h : Head) (ts : List (Changes → Term)) (ty : Ty) → Becomes B d ty r o h →
        (IsLeaf d h ty → Made d ty (term_of (put_or None h) cs ts ty)) → Made d ty (term_of (put_or o h) cs ts ty)
    put_made r (Some t) h ts ty m f = m.1 d.own d.left d.right ((λ e. refl), (λ e. (refl, refl))) (λ e. (refl, refl, refl))
    put_made r None h ts ty m f = f m

    subject_stays : (x : Subject) → IsThere (procedure_in c x) → subject_changed x cs ≡ x
    subject_stays (Proc p) k = procedure_stays p cs
    subject_stays (Body' n is) k = absurd k

    parameters : (p : ProcRef) (us : List Ty) (ty : Ty) (r s : Side) → IsSide (erased d) s → IsHead (erased c) (head.Pr p r) us ty → IsHead (erased d) (head.Pr p s) us ty
    parameters p us ty r s k w = (subst (λ o. IsProbability (option_map (λ t. map (λ x. x.ty) t.params) o) us) (l.procedure p) w.0, k, w.2)

    changed_made : {n : Count} (h : Head) (ts : Row_of-Term n) (ty : Ty) → IsHead (erased c) h (types_of ts) ty → IsNamed c h ty → (ls : List TypedName) →
        EachMade (first d h) (middle d h) (last d ls h (types_of ts)) (types_of ts) (seen_by (seen_by_args h cs) (seen_by_last h cs) (map term_changed (terms_in ts))) →
        Made d ty (term_of (changed_at h cs) cs (map term_changed (terms_in ts)) ty)
    changed_made (head.Read r) end_of-Term ty w s ls m =
        put_made r (found_for_read cs r) (head.Read (read_changed cs r)) [] ty (l.reads r ty (w, s)) (λ k. made_node d (head.Read (read_changed cs r)) [] [] ty k.0 k.1 [] tt)
    changed_made (head.Read r) (more_of-Term t ts) ty w s ls m = absurd w
    changed_made (head.Bound i) end_of-Term ty w s ls m =
        put_made no_read (found_for_bound cs i) (head.Bound i) [] ty (l.bounds i ty w) (λ k. made_node d (head.Bound i) [] [] ty k.0 k.1 [] tt)
    changed_made (head.Bound i) (more_of-Term t ts) ty w s ls m = absurd w
    changed_made (head.User n) ts ty w s ls m = made_node d (head.User n) (types_of ts) _ ty (l.operator n _ w) tt ls m
    changed_made (head.AllModule b) ts ty w s ls m = absurd s
    changed_made (head.Glob b r) ts ty w s ls m = absurd s
    changed_made (head.Pr p r) ts ty w s ls m =
        let x = l.sides r (w.1, s.0) in
        made_node d (head.Pr p (side_changed cs r)) (types_of ts) _ ty (parameters p (types_of ts) ty r (side_changed cs r) x.0 w) (x.1, l.places r s.1, subst IsThere (l.procedure p) s.2) ls m
    changed_made (head.Hoare x) ts ty w s ls m =
        subst (λ x. Made d ty (term_of (Kept (head.Hoare x)) cs (map term_changed (terms_in ts)) ty)) (sym (subject_stays x s))
        (made_node d (head.Hoare x) (types_of ts) _ ty w (subst IsThere (same_procedure x) s) ls m)
    changed_made (head.Phoare x r) ts ty w s ls m =
        subst (λ x. Made d ty (term_of (Kept (head.Phoare x r)) cs (map term_changed (terms_in ts)) ty)) (sym (subject_stays x s))
        (made_node d (head.Phoare x r) (types_of ts) _ ty w (subst IsThere (same_procedure x) s) ls m)
    changed_made (head.Equiv x y) ts ty w s ls m =
        let left = subject_stays x s.0 in
        let right = subject_stays y s.1 in
        subst (λ h. Made d ty (term_of (Kept h) cs (map term_changed (terms_in ts)) ty)) (λ i. head.Equiv (sym left i) (sym right i))
        (made_node d (head.Equiv x y) (types_of ts) _ ty w (subst IsThere (same_procedure x) s.0, subst IsThere (same_procedure y) s.1) ls m)
    changed_made h ts ty w s ls m = made_node d h (types_of ts) _ ty w s ls m

  enters_head : {n : Count} (h : Head) (ts : Row_of-Term n) (cs : Changes) → (HeadIsPlain h × AllPlain ts) ⊎ (Stays cs × (B ≡ true)) → HeadEnters h cs
  enters_head h ts cs (inl x) = inl x.0
  enters_head h ts cs (inr a) = inr a

  enters_row : {n : Count} (h : Head) (ts : Row_of-Term n) (cs : Changes) → (HeadIsPlain h × AllPlain ts) ⊎ (Stays cs × (B ≡ true)) → RowEnters ts (seen_by_args h cs) (seen_by_last h cs)
  enters_row h ts cs (inl x) = inl x.1
  enters_row h ts cs (inr a) = inr (stays_first h cs a.0, stays_last h cs a.0, a.1)

  enters_one : (t : Term) (y z : Changes) → RowEnters (more_of-Term t end_of-Term) y z → Enters B t z
  enters_one t y z (inl x) = inl x.0
  enters_one t y z (inr a) = inr (a.1, a.2)

  enters_next : {n : Count} (t : Term) (ts : Row_of-Term n) (y z : Changes) → RowEnters (more_of-Term t ts) y z → Enters B t y
  enters_next t ts y z (inl x) = inl x.0
  enters_next t ts y z (inr a) = inr (a.0, a.2)

  enters_rest : {n : Count} (t : Term) (ts : Row_of-Term n) (y z : Changes) → RowEnters (more_of-Term t ts) y z → RowEnters ts y z
  enters_rest t ts y z (inl x) = inl x.1
  enters_rest t ts y z (inr a) = inr a

  mutual
    -- Changes that lead from a context to another one make a well-typed term well typed there, of the same type.
    pub changed : (t : Term) (cs : Changes) (c d : Context) → Leads B cs c d → Enters B t cs → IsTyped c t → Made d (type_of t) (term_changed t cs)
    changed (Term' p (more_of-Head h end_of-Head) n ts ty) cs c d l e w =
        subst (Made d ty) (sym (term_changed_is h n ts ty cs))
        (changed_made cs c d l h ts ty w.0 w.1 w.2
        (all_changed ts (seen_by_args h cs) (seen_by_last h cs) (first c h) (middle c h) (last c w.2 h (types_of ts)) (first d h) (middle d h) (last d w.2 h (types_of ts))
        (leads_first cs c d l h (enters_head h ts cs e)) (leads_middle cs c d l h (enters_head h ts cs e)) (leads_last cs c d l w.2 h (types_of ts) ty (enters_head h ts cs e) w.0) (enters_row h ts cs e) w.3))

    all_changed : {n : Count} (ts : Row_of-Term n) (y z : Changes) (a b c d e f : Context) → Leads B y a d → Leads B y b e → Leads B z c f → RowEnters ts y z → AreTyped a b c ts →
        EachMade d e f (types_of ts) (seen_by y z (map term_changed (terms_in ts)))
    all_changed end_of-Term y z a b c d e f k l m r w = tt
    all_changed (more_of-Term t end_of-Term) y z a b c d e f k l m r w = changed t z c f m (enters_one t y z r) w
    all_changed (more_of-Term t (more_of-Term u ts)) y z a b c d e f k l m r w =
        (changed t y a d k (enters_next t (more_of-Term u ts) y z r) w.0, all_changed (more_of-Term u ts) y z b b c e e f l l m (enters_rest t (more_of-Term u ts) y z r) w.1)
