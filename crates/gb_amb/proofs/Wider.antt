-- Forms in wider contexts: with more variables and memories, or behind a quantifier.
use Rattle.std.proofs.Common.{◌≡◌, ℕ, zero, suc, ◌<◌, Bool, true, false, if◌then◌else◌, inr, List, [], ◌∷◌, ◌++◌, length, get_or, Option, Some, None, refl, ap, sym, ◌∙◌, subst, arith}
use Rattle.std.proofs.lemmas.Bool.{false≢true}
use Rattle.std.proofs.lemmas.List.{length-append, get_or_append_left, get_or_at}
use Rattle.gb_core.specs.declared.ty.Ty.{Ty}
use Rattle.gb_terms.specs.declared.decl.TypedName.{TypedName}
use Rattle.gb_terms.specs.declared.op.Side.{Side}
use Rattle.gb_terms.specs.declared.op.Side.TheVariants as side
use Rattle.gb_terms.specs.declared.op.Read.{Read}
use Rattle.gb_terms.specs.declared.op.Read.TheVariants.{Logical, Program}
use Rattle.gb_terms.specs.declared.term.Term.{Term}
use Rattle.gb_terms.specs.declared.term.Head.TheVariants as head
use Rattle.gb_terms.specs.Equal.{side_eq}
use Rattle.gb_terms.specs.Make.{node}
use Rattle.gb_walk.specs.declared.change.Change.TheVariants.{OfBound, ToSide}
use Rattle.gb_walk.specs.Change.{Changes, is_own, is_left_or_right, found_for_read, found_for_bound, read_changed, side_changed, term_changed}
use Rattle.gb_laws.proofs.Puts.{plain_node}
use Rattle.gb_laws.specs.Finite.{IsFinite}
use Rattle.gb_laws.specs.Operators.{item}
use Rattle.gb_laws.specs.Typing.{Binder, IsBoundAt}
use Rattle.gb_laws.specs.Typing.Binder.{value, memory}
use Rattle.gb_laws.specs.Typing as typed
use Rattle.gb_typing.specs.Context.{Context, Frame, erased, frame_of, within}
use Rattle.gb_typing.specs.Typing.{IsFrame, IsPlace, IsForm}
use Rattle.gb_typing.specs.Changes.{binder, IsLeaf, Becomes, Leads, Made, Stays, no_read}
use Rattle.gb_typing.proofs.Changed.{changed}
use Rattle.gb_typing.proofs.Made.{made_node}
use Rattle.gb_typing.specs.Rules.{outermost}
use Rattle.gb_typing.proofs.Every.{leaf_moved, side_of}
use Rattle.gb_amb.proofs.Idle.{unchanged}

module _ (b : Context) where
  -- what a goal over b has: variables, memories, and what is bound around a form
  abbrev pub placed : (ℕ → Option Ty) → List Frame → List Binder → List Frame → Context
  placed L ns bs fs = record (outermost b) { logical = L; named = ns; bound = bs; frames = fs }

  -- changes that put nothing in place of reads, from one such context to another
  pub record Moves (cs : Changes) (L M : ℕ → Option Ty) (ns ms : List Frame) (bs ds : List Binder) (fs gs : List Frame) : Type 0 where
    pub logical : (i : ℕ) (t : Ty) → L i ≡ Some t → M i ≡ Some t
    pub unfound : (r : Read) → found_for_read cs r ≡ None
    pub sides : (r : Side) → typed.IsSide (erased (placed L ns bs fs)) r →
        typed.IsSide (erased (placed M ms ds gs)) (side_changed cs r) × (frame_of (placed L ns bs fs) r ≡ frame_of (placed M ms ds gs) (side_changed cs r))
    pub bounds : (i : ℕ) (t : Ty) → IsBoundAt (binder (placed L ns bs fs) i) t → Becomes true (placed M ms ds gs) t no_read (found_for_bound cs i) (head.Bound i)
    pub places : (r : Side) → IsPlace r → IsPlace (side_changed cs r)
    pub stays : Stays cs

  module _ (cs : Changes) (L M : ℕ → Option Ty) (ns ms : List Frame) (bs ds : List Binder) (fs gs : List Frame) (m : Moves cs L M ns ms bs ds fs gs) where
    abbrev from : Context
    from = placed L ns bs fs

    abbrev to : Context
    to = placed M ms ds gs

    leaf_becomes : (r : Read) (t : Ty) → IsLeaf from (head.Read r) t → IsLeaf to (head.Read (read_changed cs r)) t
    leaf_becomes (Logical i) t w = ((w.0.0, m.logical i t w.0.1), tt)
    leaf_becomes (Program x r) t w =
        let k = m.sides r (side_of from x r t w) in leaf_moved from to (λ n y u e. e) (λ a e. e) r (side_changed cs r) k.0 k.1 x t w

    read_becomes : (r : Read) (t : Ty) → IsLeaf from (head.Read r) t → Becomes true to t r (found_for_read cs r) (head.Read (read_changed cs r))
    read_becomes r t w = subst (λ o. Becomes true to t r o (head.Read (read_changed cs r))) (sym (m.unfound r)) (leaf_becomes r t w)

    leads : Leads true cs from to
    leads = record {
      reads = read_becomes;
      bounds = m.bounds;
      sides = λ r w. let k = m.sides r w.0 in (k.0, subst IsFrame k.1 w.1);
      places = m.places;
      global = λ n x t e. e;
      operator = λ n o e. e;
      procedure = λ p. refl;
      has_globals = λ a e. e;
    }

    pub form_moved : (f : Term) → IsForm from f → IsForm to (term_changed f cs)
    form_moved f w = let k = changed true f cs from to leads (inr (m.stays, refl)) w.typed in record { typed = k.typed; truth = k.written ∙ w.truth }

-- Lists that grow.

pub item_more : (us vs : List Ty) (i : ℕ) (t : Ty) → item us i ≡ Some t → item (us ++ vs) i ≡ Some t
item_more [] vs i t e = absurd (false≢true (ap is_some e))
  where
    is_some : Option Ty → Bool
    is_some None = false
    is_some (Some t) = true
item_more (u ∷ us) vs zero t e = e
item_more (u ∷ us) vs (suc i) t e = item_more us vs i t e

pub item_past : (us : List Ty) → item us (length us) ≡ None
item_past [] = refl
item_past (u ∷ us) = item_past us

pub item_here : (us : List Ty) (u : Ty) → item (us ++ u ∷ []) (length us) ≡ Some u
item_here [] u = refl
item_here (x ∷ us) u = item_here us u

no_changes : Stays []
no_changes = record { own = λ r e. e; sides = λ r e. e }

-- more variables and memories
pub record More (us vs : List Ty) (ns ms : List Frame) : Type 0 where
  pub variables : (i : ℕ) (t : Ty) → item us i ≡ Some t → item vs i ≡ Some t
  pub memories : (i : ℕ) → i < length ns → (i < length ms) × (get_or ns i None ≡ get_or ms i None)

module _ (us : List Ty) (ns : List Frame) where
  pub more_variable : (u : Ty) → More us (us ++ u ∷ []) ns ns
  more_variable u = record { variables = λ i t e. item_more us (u ∷ []) i t e; memories = λ i w. (w, refl) }

  pub more_memory : (f : Frame) → More us us ns (ns ++ f ∷ [])
  more_memory f = record {
    variables = λ i t e. e;
    memories = λ i w. (omega (arith, w, length-append ns (f ∷ [])), sym (get_or_append_left ns (f ∷ []) None i w));
  }

module _ (b : Context) (us : List Ty) (ns : List Frame) where
  -- the context of a goal
  abbrev pub small : Context
  small = placed b (λ i. item us i) ns [] []

  -- that of another one
  abbrev pub large : List Ty → List Frame → Context
  large vs ms = placed b (λ i. item vs i) ms [] []

  more_sides : (vs : List Ty) (ms : List Frame) → More us vs ns ms → (r : Side) → typed.IsSide (erased small) r → typed.IsSide (erased (large vs ms)) r × (frame_of small r ≡ frame_of (large vs ms) r)
  more_sides vs ms m side.Own w = (tt, refl)
  more_sides vs ms m side.Left w = (tt, refl)
  more_sides vs ms m side.Right w = (tt, refl)
  more_sides vs ms m (side.Memory i) w = m.memories i w
  more_sides vs ms m (side.Bound i) w = absurd w

  moves_more : (vs : List Ty) (ms : List Frame) → More us vs ns ms → Moves b [] (λ i. item us i) (λ i. item vs i) ns ms [] [] [] []
  moves_more vs ms m = record {
    logical = m.variables;
    unfound = λ r. refl;
    sides = more_sides vs ms m;
    bounds = λ i t w. absurd w;
    places = λ r w. w;
    stays = no_changes;
  }

  behind_sides : (d : Binder) (f : Frame) (r : Side) → typed.IsSide (erased small) r → typed.IsSide (erased (within small d f)) r × (frame_of small r ≡ frame_of (within small d f) r)
  behind_sides d f side.Own w = (tt, refl)
  behind_sides d f side.Left w = (tt, refl)
  behind_sides d f side.Right w = (tt, refl)
  behind_sides d f (side.Memory i) w = (w, refl)
  behind_sides d f (side.Bound i) w = absurd w

  moves_behind : (d : Binder) (f : Frame) → Moves b [] (λ i. item us i) (λ i. item us i) ns ns [] (d ∷ []) [] (f ∷ [])
  moves_behind d f = record {
    logical = λ i t e. e;
    unfound = λ r. refl;
    sides = behind_sides d f;
    bounds = λ i t w. absurd w;
    places = λ r w. w;
    stays = no_changes;
  }

  same_form : (c : Context) (f : Term) → IsForm small f → IsForm c (term_changed f []) → IsForm c f
  same_form c f w v = subst (IsForm c) (unchanged small f w.typed [] tt) v

  -- a form of the goal stays typed there
  pub wider : (vs : List Ty) (ms : List Frame) → More us vs ns ms → (f : Term) → IsForm small f → IsForm (large vs ms) f
  wider vs ms m f w = same_form (large vs ms) f w (form_moved b [] _ _ ns ms [] [] [] [] (moves_more vs ms m) f w)

  -- and behind a quantifier
  pub behind : (d : Binder) (k : Frame) (f : Term) → IsForm small f → IsForm (within small d k) f
  behind d k f w = same_form (within small d k) f w (form_moved b [] _ _ ns ns [] (d ∷ []) [] (k ∷ []) (moves_behind d k) f w)

  -- What is bound becomes a variable of the context.
  module _ (u : Ty) (fin : IsFinite u) where
    abbrev pub variable : Term
    variable = node (head.Read (Logical (length us))) [] u

    abbrev pub to_variable : Changes
    to_variable = OfBound 0 variable ∷ []

    pub variable_made : (f l k : Frame) → Made (record (large (us ++ u ∷ []) ns) { own = f; left = l; right = k }) u variable
    variable_made f l k = made_node (record (large (us ++ u ∷ []) ns) { own = f; left = l; right = k }) (head.Read (Logical (length us))) [] [] u (fin, item_here us u) tt [] tt

    variable_bounds : (i : ℕ) (t : Ty) → IsBoundAt (binder (within small (value u) None) i) t → Becomes true (large (us ++ u ∷ []) ns) t no_read (found_for_bound to_variable i) (head.Bound i)
    variable_bounds zero t w = (plain_node (head.Read (Logical (length us))) [] u tt tt, λ f l k z e. subst (λ t. Made (record (large (us ++ u ∷ []) ns) { own = f; left = l; right = k }) t variable) w.1 (variable_made f l k))
    variable_bounds (suc i) t w = absurd w

    variable_sides : (r : Side) → typed.IsSide (erased (within small (value u) None)) r →
        typed.IsSide (erased (large (us ++ u ∷ []) ns)) (side_changed to_variable r) × (frame_of (within small (value u) None) r ≡ frame_of (large (us ++ u ∷ []) ns) (side_changed to_variable r))
    variable_sides side.Own w = (tt, refl)
    variable_sides side.Left w = (tt, refl)
    variable_sides side.Right w = (tt, refl)
    variable_sides (side.Memory i) w = more_sides (us ++ u ∷ []) ns (more_variable us ns u) (side.Memory i) w
    variable_sides (side.Bound zero) w = absurd w
    variable_sides (side.Bound (suc i)) w = absurd w

    moves_variable : Moves b to_variable (λ i. item us i) (λ i. item (us ++ u ∷ []) i) ns ns (value u ∷ []) [] (None ∷ []) []
    moves_variable = record {
      logical = λ i t e. item_more us (u ∷ []) i t e;
      unfound = λ r. refl;
      sides = variable_sides;
      bounds = variable_bounds;
      places = λ r w. w;
      stays = record { own = λ r e. e; sides = λ r e. e };
    }

    pub variable_typed : (f : Term) → IsForm (within small (value u) None) f → IsForm (large (us ++ u ∷ []) ns) (term_changed f to_variable)
    variable_typed f w = form_moved b to_variable _ _ ns ns (value u ∷ []) [] (None ∷ []) [] moves_variable f w

  -- A memory that is bound becomes one of the context.
  module _ (ls : List TypedName) where
    abbrev pub to_memory : Changes
    to_memory = ToSide (side.Bound 0) (side.Memory (length ns)) ∷ []

    memory_sides : (r : Side) → typed.IsSide (erased (within small memory (Some ls))) r →
        typed.IsSide (erased (large us (ns ++ Some ls ∷ []))) (side_changed to_memory r) × (frame_of (within small memory (Some ls)) r ≡ frame_of (large us (ns ++ Some ls ∷ [])) (side_changed to_memory r))
    memory_sides side.Own w = (tt, refl)
    memory_sides side.Left w = (tt, refl)
    memory_sides side.Right w = (tt, refl)
    memory_sides (side.Memory i) w = more_sides us (ns ++ Some ls ∷ []) (more_memory us ns (Some ls)) (side.Memory i) w
    memory_sides (side.Bound zero) w = (omega (arith, length-append ns (Some ls ∷ [])), sym (get_or_at ns (Some ls) [] None (length ns) refl))
    memory_sides (side.Bound (suc i)) w = absurd w

    -- a memory stays, or the bound one becomes that of the context
    memory_led : (P : Side → Type 0) (r : Side) → P r → P (side.Memory (length ns)) → P (side_changed to_memory r)
    memory_led P r x y = by_test (side_eq (side.Bound 0) r)
      where
        by_test : (t : Bool) → P (if t then side.Memory (length ns) else r)
        by_test true = y
        by_test false = x

    moves_memory : Moves b to_memory (λ i. item us i) (λ i. item us i) ns (ns ++ Some ls ∷ []) (memory ∷ []) [] (Some ls ∷ []) []
    moves_memory = record {
      logical = λ i t e. e;
      unfound = λ r. refl;
      sides = memory_sides;
      bounds = memory_bounds;
      places = λ r w. memory_led IsPlace r w tt;
      stays = record { own = λ r e. memory_led (λ s. is_own s ≡ false) r e refl; sides = λ r e. memory_led (λ s. is_left_or_right s ≡ false) r e refl };
    }
      where
        memory_bounds : (i : ℕ) (t : Ty) → IsBoundAt (binder (within small memory (Some ls)) i) t → Becomes true (large us (ns ++ Some ls ∷ [])) t no_read (found_for_bound to_memory i) (head.Bound i)
        memory_bounds zero t w = absurd w
        memory_bounds (suc i) t w = absurd w

    pub memory_typed : (f : Term) → IsForm (within small memory (Some ls)) f → IsForm (large us (ns ++ Some ls ∷ [])) (term_changed f to_memory)
    memory_typed f w = form_moved b to_memory _ _ ns (ns ++ Some ls ∷ []) (memory ∷ []) [] (Some ls ∷ []) [] moves_memory f w
