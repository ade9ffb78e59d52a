-- A typed term with typed terms in the places of what is bound is typed.
use Rattle.std.proofs.Common.{◌≡◌, ℕ, zero, suc, true, inr, List, [], ◌∷◌, map, Option, None, Some, refl, sym, ◌∙◌, subst}
use Rattle.std.specs.Option.{option_map}
use Rattle.gb_core.specs.declared.ty.Ty.{Ty}
use Rattle.gb_core.specs.declared.var.Var.{Var}
use Rattle.gb_terms.specs.declared.decl.TypedName.{TypedName}
use Rattle.gb_terms.specs.declared.module.ProcRef.{ProcRef}
use Rattle.gb_terms.specs.declared.op.Side.{Side}
use Rattle.gb_terms.specs.declared.op.Side.TheVariants as side
use Rattle.gb_terms.specs.declared.op.Read.{Read}
use Rattle.gb_terms.specs.declared.op.Read.TheVariants.{Logical, Program}
use Rattle.gb_terms.specs.declared.term.Term.{Term, Term', Row_of-Term, end_of-Term, more_of-Term, end_of-Head, more_of-Head}
use Rattle.gb_terms.specs.declared.term.Head.{Head}
use Rattle.gb_terms.specs.declared.term.Head.TheVariants as head
use Rattle.gb_terms.specs.declared.term.Head.TheVariants.{Proc, Body'}
use Rattle.gb_walk.specs.Layers.{seen_by}
use Rattle.gb_walk.specs.Raise.{term_raised}
use Rattle.gb_walk.specs.Change.{Changes, found_for_bound, read_changed, side_changed, under_binder, put_or, term_of, term_changed}
use Rattle.gb_meaning.specs.Commands.{terms_in}
use Rattle.gb_meaning.specs.Names.{Name}
use Rattle.gb_meaning.specs.Operators.{outcome_type}
use Rattle.gb_meaning.specs.Written.{type_of}
use Rattle.gb_laws.proofs.Changed.{changed_at, term_changed_is}
use Rattle.gb_laws.proofs.Lookups.{bound_found_under, bound_of_binder}
use Rattle.gb_laws.specs.Typing.{OperatorType, Binder, types_of, IsBoundAt, IsProbability, IsSide, IsHead}
use Rattle.gb_laws.specs.Typing.Binder.{value, index, memory, program}
use Rattle.gb_typing.specs.Changes.{binder, IsLeaf, IsMemoryIn, Leads, Made, Stays}
use Rattle.gb_typing.specs.Context.{Frame, Context, procedure, erased, frame_of, reframed, with_own, with_sides, within}
use Rattle.gb_typing.specs.Typing.{IsFrame, IsIn, IsThere, before, after, procedure_in, IsNamed, first, middle, last, IsTyped, AreTyped}
use Rattle.gb_typing.proofs.Changed.{changed}
use Rattle.gb_typing.proofs.Every.{leaf_moved, side_of}
use Rattle.gb_typing.proofs.Made.{EachMade, made_node}
use Rattle.gb_typing.proofs.Uses.{nothing_in}
use Rattle.gb_amb.proofs.Idle.{unchanged}
use Rattle.gb_amb.proofs.Lifted.{lifts_zero, lifted}
use Rattle.gb_amb.proofs.Puts.{EachPut, below, IsOther, under_puts, node_kept}
use mathlib.Core.Former.{Count}

-- without locals of the own memory and of both sides
abbrev pub bare : Context → Context
bare d = reframed d None None None

-- What is typed without these is typed with any.
module _ (d : Context) where
  abbrev c : Context
  c = bare d

  still : (r : Read) (t : Ty) → IsLeaf c (head.Read r) t → IsLeaf d (head.Read (read_changed [] r)) t
  still (Logical i) t w = w
  still (Program x side.Own) t w = absurd (nothing_in c x t w.1)
  still (Program x side.Left) t w = absurd (nothing_in c x t w.1)
  still (Program x side.Right) t w = absurd (nothing_in c x t w.1)
  still (Program x (side.Memory i)) t w = leaf_moved c d (λ m y u e. e) (λ a e. e) (side.Memory i) (side.Memory i) (side_of c x (side.Memory i) t w) refl x t w
  still (Program x (side.Bound i)) t w = leaf_moved c d (λ m y u e. e) (λ a e. e) (side.Bound i) (side.Bound i) (side_of c x (side.Bound i) t w) refl x t w

  sides_still : (r : Side) → IsMemoryIn c r → IsMemoryIn d (side_changed [] r)
  sides_still side.Own w = absurd w.1
  sides_still side.Left w = absurd w.1
  sides_still side.Right w = absurd w.1
  sides_still (side.Memory i) w = w
  sides_still (side.Bound i) w = w

  stays : Leads true [] c d
  stays = record {
    reads = still;
    bounds = λ i t w. (w, tt);
    sides = sides_still;
    places = λ r p. p;
    global = λ m x t e. e;
    operator = λ n o e. e;
    procedure = λ p. refl;
    has_globals = λ a e. e;
  }

  none : Stays []
  none = record { own = λ r e. e; sides = λ r e. e }

  pub anyhow : (u : Term) → IsTyped c u → IsTyped d u
  anyhow u w =
      let m = changed true u [] c d stays (inr (none, refl)) w in
      subst (IsTyped d) (unchanged c u w [] tt) m.typed

-- what is bound becomes a typed term, or stays
abbrev pub Filled : Context → Ty → ℕ → Option Term → Type 0
Filled d t i (Some u) = Made (bare d) t u
Filled d t i None = IsBoundAt (binder d i) t

-- Typed terms are put in the places of what is bound, and what else there is in e is in d.
pub record Fills (cs : Changes) (e d : Context) : Type 0 where
  pub puts : EachPut (λ u. Unit {0}) cs
  pub logical : (i : ℕ) (t : Ty) → e.logical i ≡ Some t → d.logical i ≡ Some t
  pub global : (m x : Name) (t : Ty) → e.global m x ≡ Some t → d.global m x ≡ Some t
  pub operator : (n : Name) (o : OperatorType) → e.operator n ≡ Some o → d.operator n ≡ Some o
  pub procedure : (p : ProcRef) → IsThere (procedure e p) → procedure e p ≡ procedure d p
  pub has_globals : (a : Name) → e.has_globals a ≡ true → d.has_globals a ≡ true
  pub sides : (r : Side) → IsMemoryIn e r → IsSide (erased d) r × (frame_of e r ≡ frame_of d r)
  pub bounds : (i : ℕ) (t : Ty) → IsBoundAt (binder e i) t → Filled d t i (found_for_bound cs i)

framed : (c : Context) (f : Frame) (x : Var) (t : Ty) → IsIn c f x t → IsFrame f
framed c (Some l) x t w = tt
framed c None x t w = absurd (nothing_in c x t w)

module _ (cs : Changes) (e d : Context) (s : Fills cs e d) where
  fills_own : (f : Frame) → Fills cs (with_own e f) (with_own d f)
  fills_own f = record {
    puts = s.puts;
    logical = s.logical;
    global = s.global;
    operator = s.operator;
    procedure = s.procedure;
    has_globals = s.has_globals;
    sides = each;
    bounds = s.bounds;
  }
    where
      each : (r : Side) → IsMemoryIn (with_own e f) r → IsSide (erased (with_own d f)) r × (frame_of (with_own e f) r ≡ frame_of (with_own d f) r)
      each side.Own w = (tt, refl)
      each side.Left w = s.sides side.Left w
      each side.Right w = s.sides side.Right w
      each (side.Memory i) w = s.sides (side.Memory i) w
      each (side.Bound i) w = s.sides (side.Bound i) w

  fills_sides : (f g : Frame) → Fills cs (with_sides e f g) (with_sides d f g)
  fills_sides f g = record {
    puts = s.puts;
    logical = s.logical;
    global = s.global;
    operator = s.operator;
    procedure = s.procedure;
    has_globals = s.has_globals;
    sides = each;
    bounds = s.bounds;
  }
    where
      each : (r : Side) → IsMemoryIn (with_sides e f g) r → IsSide (erased (with_sides d f g)) r × (frame_of (with_sides e f g) r ≡ frame_of (with_sides d f g) r)
      each side.Own w = s.sides side.Own w
      each side.Left w = (tt, refl)
      each side.Right w = (tt, refl)
      each (side.Memory i) w = s.sides (side.Memory i) w
      each (side.Bound i) w = s.sides (side.Bound i) w

  raised_fill : (b : Binder) (f : Frame) (t : Ty) (i : ℕ) (o : Option Term) → Filled d t i o → Filled (within d b f) t (suc i) (option_map (λ u. term_raised u 0) o)
  raised_fill b f t i (Some u) m = let k = lifted 0 (bare d) (within (bare d) b f) (lifts_zero (bare d) b f) u m.typed in record { typed = k.typed; written = k.written ∙ m.written }
  raised_fill b f t i None w = w

  fills_under : (b : Binder) (f : Frame) → Fills (under_binder cs) (within e b f) (within d b f)
  fills_under b f = record {
    puts = under_puts (λ u. Unit {0}) (λ u. Unit {0}) (λ u p. tt) cs s.puts;
    logical = s.logical;
    global = s.global;
    operator = s.operator;
    procedure = s.procedure;
    has_globals = s.has_globals;
    sides = each;
    bounds = each_bound;
  }
    where
      each : (r : Side) → IsMemoryIn (within e b f) r → IsSide (erased (within d b f)) r × (frame_of (within e b f) r ≡ frame_of (within d b f) r)
      each side.Own w = s.sides side.Own w
      each side.Left w = s.sides side.Left w
      each side.Right w = s.sides side.Right w
      each (side.Memory i) w = s.sides (side.Memory i) w
      each (side.Bound zero) w = (w.0, refl)
      each (side.Bound (suc i)) w = s.sides (side.Bound i) w

      each_bound : (i : ℕ) (t : Ty) → IsBoundAt (binder (within e b f) i) t → Filled (within d b f) t i (found_for_bound (under_binder cs) i)
      each_bound zero t w = subst (Filled (within d b f) t zero) (sym (bound_of_binder cs)) w
      each_bound (suc i) t w = subst (Filled (within d b f) t (suc i)) (sym (bound_found_under cs i)) (raised_fill b f t i (found_for_bound cs i) (s.bounds i t w))

  own_before : (p : ProcRef) → IsThere (procedure e p) → Fills cs (with_own e (before (procedure e p))) (with_own d (before (procedure d p)))
  own_before p w = subst (λ o. Fills cs (with_own e (before (procedure e p))) (with_own d (before o))) (s.procedure p w) (fills_own (before (procedure e p)))

  own_after : (p : ProcRef) → IsThere (procedure e p) → Fills cs (with_own e (after (procedure e p))) (with_own d (after (procedure d p)))
  own_after p w = subst (λ o. Fills cs (with_own e (after (procedure e p))) (with_own d (after o))) (s.procedure p w) (fills_own (after (procedure e p)))

  sides_before : (p q : ProcRef) → IsThere (procedure e p) → IsThere (procedure e q) →
      Fills cs (with_sides e (before (procedure e p)) (before (procedure e q))) (with_sides d (before (procedure d p)) (before (procedure d q)))
  sides_before p q v w =
      subst (λ o. Fills cs (with_sides e (before (procedure e p)) (before (procedure e q))) (with_sides d (before (procedure d p)) (before o))) (s.procedure q w)
      (subst (λ o. Fills cs (with_sides e (before (procedure e p)) (before (procedure e q))) (with_sides d (before o) (before (procedure e q)))) (s.procedure p v)
      (fills_sides (before (procedure e p)) (before (procedure e q))))

  sides_after : (p q : ProcRef) → IsThere (procedure e p) → IsThere (procedure e q) →
      Fills cs (with_sides e (after (procedure e p)) (after (procedure e q))) (with_sides d (after (procedure d p)) (after (procedure d q)))
  sides_after p q v w =
      subst (λ o. Fills cs (with_sides e (after (procedure e p)) (after (procedure e q))) (with_sides d (after (procedure d p)) (after o))) (s.procedure q w)
      (subst (λ o. Fills cs (with_sides e (after (procedure e p)) (after (procedure e q))) (with_sides d (after o) (after (procedure e q)))) (s.procedure p v)
      (fills_sides (after (procedure e p)) (after (procedure e q))))

  fills_first : (h : Head) (t : Ty) → IsNamed e h t → Fills cs (first e h) (first d h)
  fills_first (head.Hoare (Proc p)) t w = own_before p w
  fills_first (head.Hoare (Body' n is)) t w = absurd w
  fills_first (head.Phoare (Proc p) r) t w = own_before p w
  fills_first (head.Phoare (Body' n is) r) t w = absurd w
  fills_first (head.Equiv (Proc p) (Proc q)) t w = sides_before p q w.0 w.1
  fills_first (head.Equiv (Body' n is) q) t w = absurd w.0
  fills_first (head.Equiv (Proc p) (Body' n is)) t w = absurd w.1
  fills_first _ t w = s

  fills_middle : (h : Head) (t : Ty) → IsNamed e h t → Fills cs (middle e h) (middle d h)
  fills_middle (head.Hoare (Proc p)) t w = own_after p w
  fills_middle (head.Hoare (Body' n is)) t w = absurd w
  fills_middle (head.Phoare (Proc p) r) t w = own_after p w
  fills_middle (head.Phoare (Body' n is) r) t w = absurd w
  fills_middle (head.Equiv (Proc p) (Proc q)) t w = sides_after p q w.0 w.1
  fills_middle (head.Equiv (Body' n is) q) t w = absurd w.0
  fills_middle (head.Equiv (Proc p) (Body' n is)) t w = absurd w.1
  fills_middle _ t w = s

  fills_last : (ls : List TypedName) (h : Head) (us : List Ty) (t : Ty) → IsHead (erased e) h us t → IsNamed e h t → Fills (below h cs) (last e ls h us) (last d ls h us)
  fills_last ls (head.All u) us t w n = fills_under (value u) None
  fills_last ls (head.Some u) us t w n = fills_under (value u) None
  fills_last ls head.AllMemory us t w n = fills_under memory (Some ls)
  fills_last ls head.SomeMemory us t w n = fills_under memory (Some ls)
  fills_last ls (head.AllModule b) us t w n = absurd n
  fills_last ls (head.Sum q) us t w n = fills_under (index q) None
  fills_last ls head.Mu [] t w n = absurd w
  fills_last ls head.Mu (u ∷ us) t w n = fills_under (value (outcome_type u)) None
  fills_last ls head.Map [] t w n = absurd w
  fills_last ls head.Map (u ∷ us) t w n = fills_under (value (outcome_type u)) None
  fills_last ls head.Restrict [] t w n = absurd w
  fills_last ls head.Restrict (u ∷ us) t w n = fills_under (value (outcome_type u)) None
  fills_last ls (head.Pr p r) us t w n = own_after p n.2
  fills_last ls (head.Hoare (Proc p)) us t w n = own_after p n
  fills_last ls (head.Hoare (Body' m is)) us t w n = absurd n
  fills_last ls (head.Phoare (Proc p) r) us t w n = fills_own None
  fills_last ls (head.Phoare (Body' m is) r) us t w n = absurd n
  fills_last ls (head.Equiv (Proc p) (Proc q)) us t w n = sides_after p q n.0 n.1
  fills_last ls (head.Equiv (Body' m is) q) us t w n = absurd n.0
  fills_last ls (head.Equiv (Proc p) (Body' m is)) us t w n = absurd n.1
  fills_last ls _ us t w n = s

  -- a head is there, if it isn't what is bound
  head_there : (h : Head) (us : List Ty) (t : Ty) → IsHead (erased e) h us t → IsNamed e h t → IsOther h → IsHead (erased d) h us t × IsNamed d h t
  head_there (head.Read (Logical i)) [] t w n o = ((w.0, s.logical i t w.1), tt)
  head_there (head.Read (Program x r)) [] t w n o =
      let k = s.sides r (side_of e x r t (w, n), framed e (frame_of e r) x t n) in
      leaf_moved e d s.global s.has_globals r r k.0 k.1 x t (w, n)
  head_there (head.Read r) (u ∷ us) t w n o = absurd w
  head_there (head.Bound i) us t w n o = absurd o
  head_there (head.User y) us t w n o = (s.operator y _ w, tt)
  head_there (head.Pr p r) us t w n o =
      let k = s.sides r (w.1, n.0) in
      ((subst (λ z. IsProbability (option_map (λ u. map (λ x. x.ty) u.params) z) us) (s.procedure p n.2) w.0, k.0, w.2), (subst IsFrame k.1 n.0, n.1, subst IsThere (s.procedure p n.2) n.2))
  head_there (head.AllModule b) us t w n o = absurd n
  head_there (head.Glob m r) us t w n o = absurd n
  head_there (head.Hoare (Proc p)) us t w n o = (w, subst IsThere (s.procedure p n) n)
  head_there (head.Hoare (Body' m is)) us t w n o = absurd n
  head_there (head.Phoare (Proc p) r) us t w n o = (w, subst IsThere (s.procedure p n) n)
  head_there (head.Phoare (Body' m is) r) us t w n o = absurd n
  head_there (head.Equiv (Proc p) (Proc q)) us t w n o = (w, (subst IsThere (s.procedure p n.0) n.0, subst IsThere (s.procedure q n.1) n.1))
  head_there (head.Equiv (Body' m is) q) us t w n o = absurd n.0
  head_there (head.Equiv (Proc p) (Body' m is)) us t w n o = absurd n.1
  head_there h us t w n o = (w, n)

  -- what is bound
  bound_made : {n : Count} (i : ℕ) (ts : Row_of-Term n) (t : Ty) → IsHead (erased e) (head.Bound i) (types_of ts) t → (ls : List TypedName) → Made d t (term_of (changed_at (head.Bound i) cs) cs (map term_changed (terms_in ts)) t)
  bound_made i end_of-Term t w ls = step (found_for_bound cs i) (s.bounds i t w)
    where
      step : (o : Option Term) → Filled d t i o → Made d t (term_of (put_or o (head.Bound i)) cs [] t)
      step (Some u) k = record { typed = anyhow d u k.typed; written = k.written }
      step None k = made_node d (head.Bound i) [] [] t k tt ls tt
  bound_made i (more_of-Term u ts) t w ls = absurd w

  kept_made : {n : Count} (h : Head) (ts : Row_of-Term n) (t : Ty) → IsHead (erased e) h (types_of ts) t → IsNamed e h t → (ls : List TypedName) →
      EachMade (first d h) (middle d h) (last d ls h (types_of ts)) (types_of ts) (seen_by cs (below h cs) (map term_changed (terms_in ts))) → IsOther h →
      Made d t (term_of (changed_at h cs) cs (map term_changed (terms_in ts)) t)
  kept_made h ts t w n ls m o =
      let k = head_there h (types_of ts) t w n o in
      subst (Made d t) (sym (node_kept (λ u. Unit {0}) cs s.puts e h t n o (map term_changed (terms_in ts))))
      (made_node d h (types_of ts) (seen_by cs (below h cs) (map term_changed (terms_in ts))) t k.0 k.1 ls m)

  node_made : {n : Count} (h : Head) (ts : Row_of-Term n) (t : Ty) → IsHead (erased e) h (types_of ts) t → IsNamed e h t → (ls : List TypedName) →
      EachMade (first d h) (middle d h) (last d ls h (types_of ts)) (types_of ts) (seen_by cs (below h cs) (map term_changed (terms_in ts))) →
      Made d t (term_of (changed_at h cs) cs (map term_changed (terms_in ts)) t)
  node_made (head.Bound i) ts t w n ls m = bound_made i ts t w ls
  node_made h ts t w n ls m = kept_made h ts t w n ls m tt

mutual
  pub filled : (cs : Changes) (e d : Context) → Fills cs e d → (t : Term) → IsTyped e t → Made d (type_of t) (term_changed t cs)
  filled cs e d s (Term' p (more_of-Head h end_of-Head) n ts ty) w =
      subst (Made d ty) (sym (term_changed_is h n ts ty cs))
      (node_made cs e d s h ts ty w.0 w.1 w.2
      (all_filled cs (below h cs) (first e h) (middle e h) (last e w.2 h (types_of ts)) (first d h) (middle d h) (last d w.2 h (types_of ts))
      (fills_first cs e d s h ty w.1) (fills_middle cs e d s h ty w.1) (fills_last cs e d s w.2 h (types_of ts) ty w.0 w.1) ts w.3))

  all_filled : {n : Count} (y z : Changes) (c e g d f h : Context) → Fills y c d → Fills y e f → Fills z g h → (ts : Row_of-Term n) → AreTyped c e g ts →
      EachMade d f h (types_of ts) (seen_by y z (map term_changed (terms_in ts)))
  all_filled y z c e g d f h k l m end_of-Term w = tt
  all_filled y z c e g d f h k l m (more_of-Term t end_of-Term) w = filled z g h m t w
  all_filled y z c e g d f h k l m (more_of-Term t (more_of-Term u ts)) w = (filled y c d k t w.0, all_filled y z e e g f f h l l m (more_of-Term u ts) w.1)
