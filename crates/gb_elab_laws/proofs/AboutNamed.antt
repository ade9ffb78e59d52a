-- What is said of a memory that is bound is typed about one of the context, where this one has the locals that are read there.
use Rattle.std.proofs.Common.{◌≡◌, ℕ, zero, suc, ◌<◌, if◌then◌else◌, Bool, true, false, not, ◌&&◌, ◌||◌, List, [], ◌∷◌, map, get_or, length, Option, Some, None, refl, sym, ap, ◌∙◌, subst}
use Rattle.std.specs.List.{list_any}
use Rattle.std.specs.Option.{option_map}
use Rattle.std.proofs.lemmas.Bool.{false≢true}
use Rattle.gb_core.specs.declared.ty.Ty.{Ty}
use Rattle.gb_core.specs.declared.var.Var.{Var}
use Rattle.gb_core.specs.declared.var.Var.TheVariants as var
use Rattle.gb_core.proofs.SameTypes.{ty_eq-Decides}
use Rattle.gb_terms.specs.declared.decl.TypedName.{TypedName}
use Rattle.gb_terms.specs.declared.module.ProcRef.{ProcRef}
use Rattle.gb_terms.specs.declared.op.Read.TheVariants.{Logical, Program}
use Rattle.gb_terms.specs.declared.op.Side.{Side}
use Rattle.gb_terms.specs.declared.op.Side.TheVariants as side
use Rattle.gb_terms.specs.declared.term.Term.{Term, Term', Row_of-Term, end_of-Term, more_of-Term, end_of-Head, more_of-Head}
use Rattle.gb_terms.specs.declared.term.Head.{Head}
use Rattle.gb_terms.specs.declared.term.Head.TheVariants as head
use Rattle.gb_terms.specs.declared.term.Head.TheVariants.{Proc, Body'}
use Rattle.gb_terms.specs.Equal.{side_eq}
use Rattle.gb_terms.specs.Make.{node}
use Rattle.gb_terms.proofs.Equality.{side_eq-Decides}
use Rattle.gb_walk.specs.declared.change.Change.TheVariants.{ToSide}
use Rattle.gb_walk.specs.Layers.{is_binder, seen_by}
use Rattle.gb_walk.specs.Change.Made.{Kept}
use Rattle.gb_walk.specs.Change.{Changes, read_changed, side_changed, under_binder, seen_by_args, seen_by_last, term_of, term_changed}
use Rattle.gb_goal.specs.declared.sequent.Sequent.{Sequent}
use Rattle.gb_meaning.specs.Commands.{terms_in}
use Rattle.gb_meaning.specs.Names.{Name}
use Rattle.gb_meaning.specs.Operators.{outcome_type}
use Rattle.gb_meaning.specs.Written.{local_type, type_of}
use Rattle.gb_laws.proofs.Changed.{changed_at, term_changed_is}
use Rattle.gb_laws.proofs.Forms.{procedure_stays}
use Rattle.gb_laws.proofs.Lookups.{raised_bound}
use Rattle.gb_laws.specs.Typing as typed
use Rattle.gb_laws.specs.Typing.{Binder, types_of, IsBoundAt, IsMemory, IsProbability, IsHead}
use Rattle.gb_laws.specs.Typing.Binder.{value, index, memory, program}
use Rattle.gb_typing.specs.Changes.{binder, Made}
use Rattle.gb_typing.specs.Context.{Context, Frame, procedure, erased, frame_of, local_in, with_own, with_sides, within}
use Rattle.gb_typing.specs.Modules.{procedure_type}
use Rattle.gb_typing.specs.Sequents.{of_sequent, IsTypedSequent}
use Rattle.gb_typing.specs.Typing.{IsFrame, IsPlace, IsThere, before, after, IsNamed, first, middle, last, IsTyped, AreTyped, IsForm}
use Rattle.gb_typing.proofs.Every.{leaf_moved, side_of}
use Rattle.gb_typing.proofs.Made.{EachMade, made_node}
use Rattle.gb_typing.proofs.Shapes.{node_out}
use Rattle.gb_amb.proofs.Wider.{small}
use Rattle.gb_amb.specs.Witness.{at_memory}
use Rattle.gb_names.specs.Locals.{goal_read_type, local_if}
use Rattle.gb_elab_mod.specs.OtherLocals.{has_type, is_local, head_reads, reads_other_locals}
use Rattle.gb_elab_mod.proofs.OtherLocals.{reads_out}
use Rattle.gb_elab_laws.proofs.Recalled.{goal_stands}
use mathlib.Core.Former.{Count}

neither : (a b : Bool) → (a || b) ≡ false → (a ≡ false) × (b ≡ false)
neither true b e = absurd (false≢true (sym e))
neither false b e = (refl, e)

not_other : (a b : Bool) → a ≡ true → (a && not b) ≡ false → b ≡ true
not_other true true e f = refl
not_other true false e f = absurd (false≢true (sym f))
not_other false b e f = absurd (false≢true e)

-- a local that a typed goal reads in a memory is one there
pub local_stands : (i : ℕ) (c : Context) (q : Sequent) (t : IsTypedSequent c q) (x : Name) (u : Ty) → is_local false q (side.Memory i) x u ≡ true → local_in (get_or (of_sequent c q t.frames).named i None) x ≡ Some u
local_stands i c q t x u e = by_type (goal_read_type (side.Memory i) x q) refl e
  where
    by_type : (o : Option Ty) → goal_read_type (side.Memory i) x q ≡ o → has_type false (local_if x o) u ≡ true → local_in (get_or (of_sequent c q t.frames).named i None) x ≡ Some u
    by_type None k e = absurd (false≢true e)
    by_type (Some v) k e = (goal_stands i x c q t u (k ∙ ap Some ((ty_eq-Decides v u).0 e))).0

-- The bound memory of this many binders, with the first locals, becomes one of the context, with the second ones.
module _ (with_unread : Bool) (q : Sequent) (i : ℕ) (outer f : Frame) (stands : (x : Name) (u : Ty) → local_in outer x ≡ Some u → is_local with_unread q (side.Memory i) x u ≡ true → local_in f x ≡ Some u) where
  abbrev to_named : ℕ → Changes
  to_named k = ToSide (side.Bound k) (side.Memory i) ∷ []

  abbrev led_side : ℕ → Side → Side
  led_side k r = side_changed (to_named k) r

  abbrev led : ℕ → Head → Head
  led k (head.Read r) = head.Read (read_changed (to_named k) r)
  led k (head.Pr p r) = head.Pr p (led_side k r)
  led k (head.Glob m r) = head.Glob m (led_side k r)
  led k h = h

  abbrev below : ℕ → Head → ℕ
  below k h = if is_binder h then suc k else k

  seen_args : (k : ℕ) (h : Head) → seen_by_args h (to_named k) ≡ to_named k
  seen_args k (head.Hoare s) = refl
  seen_args k (head.Phoare s r) = refl
  seen_args k (head.Equiv s t) = refl
  seen_args k _ = refl

  raised : (k : ℕ) → under_binder (to_named k) ≡ to_named (suc k)
  raised k = ap (λ r. ToSide r (side.Memory i) ∷ []) (raised_bound k)

  seen_last : (k : ℕ) (h : Head) → seen_by_last h (to_named k) ≡ to_named (below k h)
  seen_last k (head.All u) = raised k
  seen_last k (head.Some u) = raised k
  seen_last k head.AllMemory = raised k
  seen_last k head.SomeMemory = raised k
  seen_last k (head.AllModule b) = raised k
  seen_last k head.Mu = raised k
  seen_last k (head.Sum n) = raised k
  seen_last k head.Map = raised k
  seen_last k head.Restrict = raised k
  seen_last k (head.Pr p r) = refl
  seen_last k (head.Hoare s) = refl
  seen_last k (head.Phoare s r) = refl
  seen_last k (head.Equiv s t) = refl
  seen_last k _ = refl

  head_kept : (c : Context) (k : ℕ) (h : Head) (t : Ty) → IsNamed c h t → changed_at h (to_named k) ≡ Kept (led k h)
  head_kept c k (head.Hoare (Proc p)) t n = ap (λ b. Kept (head.Hoare b)) (procedure_stays p (to_named k))
  head_kept c k (head.Hoare (Body' m is)) t n = absurd n
  head_kept c k (head.Phoare (Proc p) r) t n = ap (λ b. Kept (head.Phoare b r)) (procedure_stays p (to_named k))
  head_kept c k (head.Phoare (Body' m is) r) t n = absurd n
  head_kept c k (head.Equiv (Proc p) (Proc o)) t n = λ z. Kept (head.Equiv (procedure_stays p (to_named k) z) (procedure_stays o (to_named k) z))
  head_kept c k (head.Equiv (Body' m is) b) t n = absurd n.0
  head_kept c k (head.Equiv (Proc p) (Body' m is)) t n = absurd n.1
  head_kept c k _ t n = refl

  -- a node about the memory
  abbrev args_of : {n : Count} → ℕ → Head → Row_of-Term n → List Term
  args_of k h ts = seen_by (to_named k) (to_named (below k (led k h))) (map term_changed (terms_in ts))

  node_led : (c : Context) (k : ℕ) (h : Head) (n : _) (ts : _) (ty : Ty) → IsNamed c h ty → term_changed (Term' tt (more_of-Head h end_of-Head) n ts ty) (to_named k) ≡ node (led k h) (args_of k h ts) ty
  node_led c k h n ts ty w =
      term_changed_is h n ts ty (to_named k) ∙ ap (λ m. term_of m (to_named k) (map term_changed (terms_in ts)) ty) (head_kept c k h ty w)
      ∙ (λ z. node (led k h) (seen_by (seen_args k (led k h) z) (seen_last k (led k h) z) (map term_changed (terms_in ts))) ty)

  abbrev Fine : Term → Type 0
  Fine t = reads_other_locals with_unread q (side.Memory i) t ≡ false

  abbrev AllFine : List Term → Type 0
  AllFine ts = list_any (λ b. b) (map (reads_other_locals with_unread q (side.Memory i)) ts) ≡ false

  fine_parts : (h : Head) (ts : List Term) (ty : Ty) → Fine (node h ts ty) → (head_reads with_unread q (side.Memory i) h ty ≡ false) × AllFine ts
  fine_parts h ts ty e =
      neither (head_reads with_unread q (side.Memory i) h ty) (list_any (λ b. b) (map (reads_other_locals with_unread q (side.Memory i)) ts))
      (sym (reads_out with_unread q (side.Memory i) (node h ts ty) ∙ ap (λ x. head_reads with_unread q (side.Memory i) x.head x.ty || list_any (λ b. b) (map (reads_other_locals with_unread q (side.Memory i)) x.args)) (node_out h ts ty)) ∙ e)

  -- d is e without the memory that is bound at this place, the outermost one
  record Behind (k : ℕ) (e d : Context) : Type 0 where
    logical : e.logical ≡ d.logical
    global : e.global ≡ d.global
    operator : e.operator ≡ d.operator
    modules : e.modules ≡ d.modules
    has_globals : e.has_globals ≡ d.has_globals
    own : e.own ≡ d.own
    left : e.left ≡ d.left
    right : e.right ≡ d.right
    named : e.named ≡ d.named
    range : i < length d.named
    there : get_or d.named i None ≡ f
    frame : IsFrame f
    bound : get_or e.frames k None ≡ outer
    bounds : (j : ℕ) (t : Ty) → IsBoundAt (binder e j) t → IsBoundAt (binder d j) t
    memories : (j : ℕ) → (k ≡ j → ⊥) → IsMemory (binder e j) → IsMemory (binder d j) × (get_or e.frames j None ≡ get_or d.frames j None)

  module _ (k : ℕ) (e d : Context) (l : Behind k e d) where
    behind_own : (g h : Frame) → g ≡ h → Behind k (with_own e g) (with_own d h)
    behind_own g h o = record {
      logical = l.logical;
      global = l.global;
      operator = l.operator;
      modules = l.modules;
      has_globals = l.has_globals;
      own = o;
      left = l.left;
      right = l.right;
      named = l.named;
      range = l.range;
      there = l.there;
      frame = l.frame;
      bound = l.bound;
      bounds = l.bounds;
      memories = l.memories;
    }

    behind_sides : (g h o p : Frame) → g ≡ h → o ≡ p → Behind k (with_sides e g o) (with_sides d h p)
    behind_sides g h o p x y = record {
      logical = l.logical;
      global = l.global;
      operator = l.operator;
      modules = l.modules;
      has_globals = l.has_globals;
      own = l.own;
      left = x;
      right = y;
      named = l.named;
      range = l.range;
      there = l.there;
      frame = l.frame;
      bound = l.bound;
      bounds = l.bounds;
      memories = l.memories;
    }

    behind_under : (b : Binder) (g : Frame) → Behind (suc k) (within e b g) (within d b g)
    behind_under b g = record {
      logical = l.logical;
      global = l.global;
      operator = l.operator;
      modules = l.modules;
      has_globals = l.has_globals;
      own = l.own;
      left = l.left;
      right = l.right;
      named = l.named;
      range = l.range;
      there = l.there;
      frame = l.frame;
      bound = l.bound;
      bounds = each_bound;
      memories = each;
    }
      where
        each_bound : (j : ℕ) (t : Ty) → IsBoundAt (binder (within e b g) j) t → IsBoundAt (binder (within d b g) j) t
        each_bound zero t w = w
        each_bound (suc j) t w = l.bounds j t w

        each : (j : ℕ) → (suc k ≡ j → ⊥) → IsMemory (binder (within e b g) j) → IsMemory (binder (within d b g) j) × (get_or (g ∷ e.frames) j None ≡ get_or (g ∷ d.frames) j None)
        each zero n w = (w, refl)
        each (suc j) n w = l.memories j (λ z. n (ap suc z)) w

    same_before : (p : ProcRef) → before (procedure e p) ≡ before (procedure d p)
    same_before p = ap (λ m. before (procedure_type m p)) l.modules

    same_after : (p : ProcRef) → after (procedure e p) ≡ after (procedure d p)
    same_after p = ap (λ m. after (procedure_type m p)) l.modules

    exists_there : (p : ProcRef) → IsThere (procedure e p) → IsThere (procedure d p)
    exists_there p = subst (λ m. IsThere (procedure_type m p)) l.modules

    -- another memory stays
    kept_side : (r : Side) → (side.Bound k ≡ r → ⊥) → typed.IsSide (erased e) r → typed.IsSide (erased d) r × (frame_of e r ≡ frame_of d r)
    kept_side side.Own n w = (tt, l.own)
    kept_side side.Left n w = (tt, l.left)
    kept_side side.Right n w = (tt, l.right)
    kept_side (side.Memory j) n w = (subst (λ fs. j < length fs) l.named w, ap (λ fs. get_or fs j None) l.named)
    kept_side (side.Bound j) n w = l.memories j (λ z. n (ap (λ (m : ℕ). side.Bound m) z)) w

    global_there : (m x : Name) (t : Ty) → e.global m x ≡ Some t → d.global m x ≡ Some t
    global_there m x t w = ap (λ h. h m x) (sym l.global) ∙ w

    globals_there : (a : Name) → e.has_globals a ≡ true → d.has_globals a ≡ true
    globals_there a w = ap (λ h. h a) (sym l.has_globals) ∙ w

    -- what is read in the bound memory is read in the one of the context
    bound_read : (x : Var) (t : Ty) → IsHead (erased e) (head.Read (Program x (side.Bound k))) [] t → IsNamed e (head.Read (Program x (side.Bound k))) t →
        head_reads with_unread q (side.Memory i) (head.Read (Program x (side.Memory i))) t ≡ false → IsHead (erased d) (head.Read (Program x (side.Memory i))) [] t × IsNamed d (head.Read (Program x (side.Memory i))) t
    bound_read (var.Local x) t w n o =
        ((l.range, w.1), subst (λ g. local_in g x ≡ Some t) (sym l.there) (stands x t (sym (ap (λ g. local_in g x) l.bound) ∙ n) (not_other (side_eq (side.Memory i) (side.Memory i)) (is_local with_unread q (side.Memory i) x t) ((side_eq-Decides (side.Memory i) (side.Memory i)).1 refl) o)))
    bound_read (var.Global m x) t w n o = ((l.range, w.1, global_there m x t w.2), (subst IsFrame (sym l.there) l.frame, global_there m x t n.1))
    bound_read (var.Glob a) t w n o = ((l.range, w.1), (subst IsFrame (sym l.there) l.frame, globals_there a n.1, n.2))

    read_there : (x : Var) (r : Side) (t : Ty) → IsHead (erased e) (head.Read (Program x r)) [] t → IsNamed e (head.Read (Program x r)) t → head_reads with_unread q (side.Memory i) (head.Read (Program x (led_side k r))) t ≡ false →
        IsHead (erased d) (head.Read (Program x (led_side k r))) [] t × IsNamed d (head.Read (Program x (led_side k r))) t
    read_there x r t w n o = by_side (side_eq (side.Bound k) r) refl o
      where
        by_side : (b : Bool) → side_eq (side.Bound k) r ≡ b → head_reads with_unread q (side.Memory i) (head.Read (Program x (if b then side.Memory i else r))) t ≡ false →
            IsHead (erased d) (head.Read (Program x (if b then side.Memory i else r))) [] t × IsNamed d (head.Read (Program x (if b then side.Memory i else r))) t
        by_side true s o =
            let same = sym ((side_eq-Decides (side.Bound k) r).0 s) in
            bound_read x t (subst (λ z. IsHead (erased e) (head.Read (Program x z)) [] t) same w) (subst (λ z. IsNamed e (head.Read (Program x z)) t) same n) o
        by_side false s o =
            let y = kept_side r (λ z. false≢true (sym s ∙ (side_eq-Decides (side.Bound k) r).1 z)) (side_of e x r t (w, n)) in
            leaf_moved e d global_there globals_there r r y.0 y.1 x t (w, n)

    start_there : (r : Side) → typed.IsSide (erased e) r → IsFrame (frame_of e r) → IsPlace r → typed.IsSide (erased d) (led_side k r) × IsFrame (frame_of d (led_side k r)) × IsPlace (led_side k r)
    start_there r w n p = by_side (side_eq (side.Bound k) r) refl
      where
        by_side : (b : Bool) → side_eq (side.Bound k) r ≡ b → typed.IsSide (erased d) (if b then side.Memory i else r) × IsFrame (frame_of d (if b then side.Memory i else r)) × IsPlace (if b then side.Memory i else r)
        by_side true s = (l.range, subst IsFrame (sym l.there) l.frame, tt)
        by_side false s = let y = kept_side r (λ z. false≢true (sym s ∙ (side_eq-Decides (side.Bound k) r).1 z)) w in (y.0, subst IsFrame y.1 n, p)

    head_there : (h : Head) (us : List Ty) (t : Ty) → IsHead (erased e) h us t → IsNamed e h t → head_reads with_unread q (side.Memory i) (led k h) t ≡ false → IsHead (erased d) (led k h) us t × IsNamed d (led k h) t
    head_there (head.Read (Logical j)) [] t w n o = ((w.0, ap (λ h. h j) (sym l.logical) ∙ w.1), tt)
    head_there (head.Read (Program x r)) [] t w n o = read_there x r t w n o
    head_there (head.Read r) (u ∷ us) t w n o = absurd w
    head_there (head.Bound j) [] t w n o = (l.bounds j t w, tt)
    head_there (head.Bound j) (u ∷ us) t w n o = absurd w
    head_there (head.User y) us t w n o = (ap (λ h. h y) (sym l.operator) ∙ w, tt)
    head_there (head.Pr p r) us t w n o =
        let y = start_there r w.1 n.0 n.1 in
        ((subst (λ m. IsProbability (option_map (λ u. map (λ x. x.ty) u.params) (procedure_type m p)) us) l.modules w.0, y.0, w.2), (y.1, y.2, exists_there p n.2))
    head_there (head.AllModule b) us t w n o = absurd n
    head_there (head.Glob m r) us t w n o = absurd n
    head_there (head.Hoare (Proc p)) us t w n o = (w, exists_there p n)
    head_there (head.Hoare (Body' m is)) us t w n o = absurd n
    head_there (head.Phoare (Proc p) r) us t w n o = (w, exists_there p n)
    head_there (head.Phoare (Body' m is) r) us t w n o = absurd n
    head_there (head.Equiv (Proc p) (Proc y)) us t w n o = (w, (exists_there p n.0, exists_there y n.1))
    head_there (head.Equiv (Body' m is) y) us t w n o = absurd n.0
    head_there (head.Equiv (Proc p) (Body' m is)) us t w n o = absurd n.1
    head_there h us t w n o = (w, n)

    behind_first : (h : Head) (t : Ty) → IsNamed e h t → Behind k (first e h) (first d (led k h))
    behind_first (head.Hoare (Proc p)) t n = behind_own _ _ (same_before p)
    behind_first (head.Hoare (Body' m is)) t n = absurd n
    behind_first (head.Phoare (Proc p) r) t n = behind_own _ _ (same_before p)
    behind_first (head.Phoare (Body' m is) r) t n = absurd n
    behind_first (head.Equiv (Proc p) (Proc o)) t n = behind_sides _ _ _ _ (same_before p) (same_before o)
    behind_first (head.Equiv (Body' m is) o) t n = absurd n.0
    behind_first (head.Equiv (Proc p) (Body' m is)) t n = absurd n.1
    behind_first _ t n = l

    behind_middle : (h : Head) (t : Ty) → IsNamed e h t → Behind k (middle e h) (middle d (led k h))
    behind_middle (head.Hoare (Proc p)) t n = behind_own _ _ (same_after p)
    behind_middle (head.Hoare (Body' m is)) t n = absurd n
    behind_middle (head.Phoare (Proc p) r) t n = behind_own _ _ (same_after p)
    behind_middle (head.Phoare (Body' m is) r) t n = absurd n
    behind_middle (head.Equiv (Proc p) (Proc o)) t n = behind_sides _ _ _ _ (same_after p) (same_after o)
    behind_middle (head.Equiv (Body' m is) o) t n = absurd n.0
    behind_middle (head.Equiv (Proc p) (Body' m is)) t n = absurd n.1
    behind_middle _ t n = l

    behind_last : (ls : List TypedName) (h : Head) (us : List Ty) (t : Ty) → IsHead (erased e) h us t → IsNamed e h t → Behind (below k (led k h)) (last e ls h us) (last d ls (led k h) us)
    behind_last ls (head.All u) us t w n = behind_under (value u) None
    behind_last ls (head.Some u) us t w n = behind_under (value u) None
    behind_last ls head.AllMemory us t w n = behind_under memory (Some ls)
    behind_last ls head.SomeMemory us t w n = behind_under memory (Some ls)
    behind_last ls (head.AllModule b) us t w n = absurd n
    behind_last ls (head.Sum o) us t w n = behind_under (index o) None
    behind_last ls head.Mu [] t w n = absurd w
    behind_last ls head.Mu (u ∷ us) t w n = behind_under (value (outcome_type u)) None
    behind_last ls head.Map [] t w n = absurd w
    behind_last ls head.Map (u ∷ us) t w n = behind_under (value (outcome_type u)) None
    behind_last ls head.Restrict [] t w n = absurd w
    behind_last ls head.Restrict (u ∷ us) t w n = behind_under (value (outcome_type u)) None
    behind_last ls (head.Pr p r) us t w n = behind_own _ _ (same_after p)
    behind_last ls (head.Hoare (Proc p)) us t w n = behind_own _ _ (same_after p)
    behind_last ls (head.Hoare (Body' m is)) us t w n = absurd n
    behind_last ls (head.Phoare (Proc p) r) us t w n = behind_own None None refl
    behind_last ls (head.Phoare (Body' m is) r) us t w n = absurd n
    behind_last ls (head.Equiv (Proc p) (Proc o)) us t w n = behind_sides _ _ _ _ (same_after p) (same_after o)
    behind_last ls (head.Equiv (Body' m is) o) us t w n = absurd n.0
    behind_last ls (head.Equiv (Proc p) (Body' m is)) us t w n = absurd n.1
    behind_last ls _ us t w n = l

  mutual
    term_led : (k : ℕ) (e d : Context) → Behind k e d → (t : Term) → IsTyped e t → Fine (term_changed t (to_named k)) → Made d (type_of t) (term_changed t (to_named k))
    term_led k e d l (Term' tt (more_of-Head h end_of-Head) n ts ty) w o =
        let is = node_led e k h n ts ty w.1 in
        let parts = fine_parts (led k h) (args_of k h ts) ty (sym (ap (reads_other_locals with_unread q (side.Memory i)) is) ∙ o) in
        let head_is = head_there k e d l h (types_of ts) ty w.0 w.1 parts.0 in
        subst (Made d ty) (sym is)
        (made_node d (led k h) (types_of ts) (args_of k h ts) ty head_is.0 head_is.1 w.2
        (all_led k (below k (led k h)) (first e h) (middle e h) (last e w.2 h (types_of ts)) (first d (led k h)) (middle d (led k h)) (last d w.2 (led k h) (types_of ts))
        (behind_first k e d l h ty w.1) (behind_middle k e d l h ty w.1) (behind_last k e d l w.2 h (types_of ts) ty w.0 w.1) ts w.3 parts.1))

    all_led : {n : Count} (k o : ℕ) (c e g d x y : Context) → Behind k c d → Behind k e x → Behind o g y → (ts : Row_of-Term n) → AreTyped c e g ts →
        AllFine (seen_by (to_named k) (to_named o) (map term_changed (terms_in ts))) → EachMade d x y (types_of ts) (seen_by (to_named k) (to_named o) (map term_changed (terms_in ts)))
    all_led k o c e g d x y l m r end_of-Term w z = tt
    all_led k o c e g d x y l m r (more_of-Term t end_of-Term) w z = term_led o g y r t w (neither _ _ z).0
    all_led k o c e g d x y l m r (more_of-Term t (more_of-Term u ts)) w z =
        let two = neither (reads_other_locals with_unread q (side.Memory i) (term_changed t (to_named k))) _ z in
        (term_led k c d l t w.0 two.0, all_led k o e e g x x y m m r (more_of-Term u ts) w.1 two.1)

-- The body of a quantifier over memories, about a memory of the context.
module _ (b : Context) (us : List Ty) (ns : List Frame) (i : ℕ) (frame : IsFrame (get_or ns i None)) (range : i < length ns) (with_unread : Bool) (q : Sequent)
    (ls : List TypedName)
    (stands : (x : Name) (u : Ty) → local_type ls x ≡ Some u → is_local with_unread q (side.Memory i) x u ≡ true → local_in (get_or ns i None) x ≡ Some u) where
  abbrev c : Context
  c = small b us ns

  behind : Behind with_unread q i (Some ls) (get_or ns i None) stands 0 (within c memory (Some ls)) c
  behind = record {
    logical = refl;
    global = refl;
    operator = refl;
    modules = refl;
    has_globals = refl;
    own = refl;
    left = refl;
    right = refl;
    named = refl;
    range = range;
    there = refl;
    frame = frame;
    bound = refl;
    bounds = each_bound;
    memories = each;
  }
    where
      each_bound : (j : ℕ) (t : Ty) → IsBoundAt (binder (within c memory (Some ls)) j) t → IsBoundAt (binder c j) t
      each_bound zero t w = absurd w
      each_bound (suc j) t w = absurd w

      each : (j : ℕ) → (0 ≡ j → ⊥) → IsMemory (binder (within c memory (Some ls)) j) → IsMemory (binder c j) × (get_or (Some ls ∷ []) j None ≡ get_or [] j None)
      each zero n w = absurd (n refl)
      each (suc j) n w = absurd w

  pub memory_typed : (g : Term) → IsForm (within c memory (Some ls)) g → reads_other_locals with_unread q (side.Memory i) (at_memory g i) ≡ false → IsForm c (at_memory g i)
  memory_typed g w o =
      let m = term_led with_unread q i (Some ls) (get_or ns i None) stands 0 (within c memory (Some ls)) c behind g w.typed o in
      record { typed = m.typed; truth = m.written ∙ w.truth }
