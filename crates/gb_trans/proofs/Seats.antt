-- What is said of two memories, of the own one and of a memory of the context: typing and meaning.
use Rattle.std.proofs.Common.{◌≡◌, ℕ, zero, suc, ◌<◌, Bool, true, false, inl, List, [], ◌∷◌, ◌++◌, length, get_or, Option, Some, None, refl, ap, sym, ◌∙◌, subst, arith}
use Rattle.std.proofs.lemmas.Bool.{false≢true}
use Rattle.std.proofs.lemmas.List.{length-append, get_or_at}
use Rattle.gb_core.specs.declared.ty.Ty.{Ty}
use Rattle.gb_core.specs.declared.value.Value.{Value}
use Rattle.gb_core.specs.declared.var.Var.{Var}
use Rattle.gb_terms.specs.declared.decl.TypedName.{TypedName}
use Rattle.gb_terms.specs.declared.op.Read.{Read}
use Rattle.gb_terms.specs.declared.op.Read.TheVariants.{Logical, Program}
use Rattle.gb_terms.specs.declared.op.Side.{Side}
use Rattle.gb_terms.specs.declared.op.Side.TheVariants as side
use Rattle.gb_terms.specs.declared.term.Head.TheVariants as head
use Rattle.gb_terms.specs.declared.term.Term.{Term}
use Rattle.gb_walk.specs.declared.change.Change.TheVariants.{ToSide}
use Rattle.gb_walk.specs.Change.{Changes, read_changed, side_changed, term_changed}
use Rattle.gb_meaning.specs.Judgments.{Judge, den, speaking}
use Rattle.gb_meaning.specs.Meanings.{truth}
use Rattle.gb_meaning.specs.Memory.{Memory, read}
use Rattle.gb_meaning.specs.Setting.{Setting}
use Rattle.gb_meaning.specs.Setting.Meaning.{finite}
use Rattle.gb_meaning.specs.State.{State, at, between}
use Rattle.gb_laws.specs.Led.{Led}
use Rattle.gb_laws.specs.Plain.{IsPlain}
use Rattle.gb_laws.specs.Uses.Use.{read as reads, bound, globals, starts, binds_own, binds_sides}
use Rattle.gb_laws.proofs.Changing.{plain_followed}
use Rattle.gb_meaning.specs.Holds.{context}
use Rattle.gb_laws.specs.Typing as typed
use Rattle.gb_typing.specs.Changes.{IsLeaf, IsMemoryIn, Leads}
use Rattle.gb_typing.specs.Context.{Context, Frame, erased, frame_of, with_own, with_sides}
use Rattle.gb_typing.specs.Typing.{IsForm, IsFrame, IsIn, IsPlace}
use Rattle.gb_typing.proofs.Changed.{changed}
use Rattle.gb_typing.proofs.Every.{leaf_moved, side_of}
use Rattle.gb_typing.proofs.Formed.{formed}
use Rattle.gb_typing.proofs.Uses.{is_frame, nothing_in, plain_typed, reads_in, unbinding, uses_of}
use Rattle.gb_amb.proofs.States.{memory_at, memory_before, memory_here, not_in}
use Rattle.gb_amb.proofs.Wider.{large, more_memory, small}
use Rattle.gb_trans.specs.Beside.{beside}

framed : (c : Context) (f : Frame) (x : Var) (t : Ty) → IsIn c f x t → IsFrame f
framed c None x t w = absurd (nothing_in c x t w)
framed c (Some ls) x t w = tt

module _ (b : Context) (us : List Ty) (ns : List Frame) (L R : List TypedName) where
  -- where both memories are sides, and where one of them is the own one and the other one is the last of the context
  abbrev pub sides : Context
  sides = with_sides (small b us ns) (Some L) (Some R)

  abbrev pub seats : List TypedName → List TypedName → Context
  seats T O = with_own (large b us ns us (ns ++ Some O ∷ [])) (Some T)

  abbrev to_seats : Side → Side → Changes
  to_seats s o = ToSide s side.Own ∷ ToSide o (side.Memory (length ns)) ∷ []

  abbrev Stay : Side → Side → List TypedName → List TypedName → Type 0
  Stay s o T O = (r : Side) → IsMemoryIn sides r → typed.IsSide (erased (seats T O)) (side_changed (to_seats s o) r) × (frame_of sides r ≡ frame_of (seats T O) (side_changed (to_seats s o) r))

  last_there : (O : List TypedName) → (length ns < length (ns ++ Some O ∷ [])) × (Some O ≡ get_or (ns ++ Some O ∷ []) (length ns) None)
  last_there O = (omega (arith, length-append ns (Some O ∷ [])), sym (get_or_at ns (Some O) [] None (length ns) refl))

  left_stays : Stay side.Left side.Right L R
  left_stays side.Own w = absurd w.1
  left_stays side.Left w = (tt, refl)
  left_stays side.Right w = last_there R
  left_stays (side.Memory i) w = (more_memory us ns (Some R)).memories i w.0
  left_stays (side.Bound i) w = absurd w.0

  right_stays : Stay side.Right side.Left R L
  right_stays side.Own w = absurd w.1
  right_stays side.Left w = last_there L
  right_stays side.Right w = (tt, refl)
  right_stays (side.Memory i) w = (more_memory us ns (Some L)).memories i w.0
  right_stays (side.Bound i) w = absurd w.0

  left_places : (r : Side) → IsPlace r → IsPlace (side_changed (to_seats side.Left side.Right) r)
  left_places (side.Memory i) w = tt
  left_places (side.Bound i) w = tt
  left_places side.Own w = absurd w
  left_places side.Left w = absurd w
  left_places side.Right w = absurd w

  right_places : (r : Side) → IsPlace r → IsPlace (side_changed (to_seats side.Right side.Left) r)
  right_places (side.Memory i) w = tt
  right_places (side.Bound i) w = tt
  right_places side.Own w = absurd w
  right_places side.Left w = absurd w
  right_places side.Right w = absurd w

  module _ (s o : Side) (T O : List TypedName) (stay : Stay s o T O) (places : (r : Side) → IsPlace r → IsPlace (side_changed (to_seats s o) r)) where
    read_there : (q : Read) (t : Ty) → IsLeaf sides (head.Read q) t → IsLeaf (seats T O) (head.Read (read_changed (to_seats s o) q)) t
    read_there (Logical i) t w = w
    read_there (Program x r) t w =
        let k = stay r (side_of sides x r t w, framed sides (frame_of sides r) x t w.1) in leaf_moved sides (seats T O) (λ m x t e. e) (λ a e. e) r (side_changed (to_seats s o) r) k.0 k.1 x t w

    leads : Leads false (to_seats s o) sides (seats T O)
    leads = record {
      reads = read_there;
      bounds = λ i t w. absurd w;
      sides = λ r w. let k = stay r w in (k.0, subst IsFrame k.1 w.1);
      places = places;
      global = λ m x t e. e;
      operator = λ n o e. e;
      procedure = λ p. refl;
      has_globals = λ a e. e;
    }

    seated : (p : Term) → IsPlain p → IsForm sides p → IsForm (seats T O) (term_changed p (to_seats s o))
    seated p plain w = let k = changed false p (to_seats s o) sides (seats T O) leads (inl plain) w.typed in record { typed = k.typed; truth = k.written ∙ w.truth }

  pub left_typed : (p : Term) → IsPlain p → IsForm sides p → IsForm (seats L R) (beside side.Left (length ns) p)
  left_typed = seated side.Left side.Right L R left_stays left_places

  pub right_typed : (p : Term) → IsPlain p → IsForm sides p → IsForm (seats R L) (beside side.Right (length ns) p)
  right_typed = seated side.Right side.Left R L right_stays right_places

  -- Meaning.
  module _ (g : Setting) (j : Judge) (vs : List Value) (ms : List Memory) (m n : Memory) where
    in_range : (xs : List Frame) (i : ℕ) → is_frame (get_or xs i None) ≡ true → i < length xs
    in_range [] i e = absurd (false≢true e)
    in_range (x ∷ xs) zero e = omega arith
    in_range (x ∷ xs) (suc i) e = let k = in_range xs i e in omega (arith, k)

    frame_read : (f : Frame) (x : Var) (t : Ty) → reads_in sides f x t ≡ true → is_frame f ≡ true
    frame_read (Some ls) x t e = refl
    frame_read None x t e = absurd (not_in sides x t e)

    -- the state in which a memory stands behind those of the context
    abbrev with_last : Memory → State
    with_last z = context vs (memory_at (length ns) z ms)

    named_same : (z : Memory) (i : ℕ) → is_frame (get_or ns i None) ≡ true → (with_last z).named i ≡ (context vs ms).named i
    named_same z i e = memory_before (length ns) z ms i (in_range ns i e)

    led_left : Led g (speaking g j) (to_seats side.Left side.Right) (unbinding (uses_of sides)) (at (with_last n) m) (between (context vs ms) m n)
    led_left (reads (Logical i) t) k = refl
    led_left (reads (Program x side.Own) t) k = absurd (not_in sides x t k)
    led_left (reads (Program x side.Left) t) k = refl
    led_left (reads (Program x side.Right) t) k = ap (λ y. finite (read g.types y x t)) (memory_here (length ns) n ms)
    led_left (reads (Program x (side.Memory i)) t) k = ap (λ y. finite (read g.types y x t)) (named_same n i (frame_read (get_or ns i None) x t k))
    led_left (reads (Program x (side.Bound i)) t) k = absurd (not_in sides x t k)
    led_left (bound i) k = absurd (false≢true k)
    led_left (globals x r) k = absurd (false≢true k)
    led_left (starts side.Own) k = absurd (false≢true k)
    led_left (starts side.Left) k = absurd (false≢true k)
    led_left (starts side.Right) k = absurd (false≢true k)
    led_left (starts (side.Memory i)) k = named_same n i k
    led_left (starts (side.Bound i)) k = absurd (false≢true k)
    led_left binds_own k = absurd (false≢true k)
    led_left binds_sides k = absurd (false≢true k)

    led_right : Led g (speaking g j) (to_seats side.Right side.Left) (unbinding (uses_of sides)) (at (with_last m) n) (between (context vs ms) m n)
    led_right (reads (Logical i) t) k = refl
    led_right (reads (Program x side.Own) t) k = absurd (not_in sides x t k)
    led_right (reads (Program x side.Left) t) k = ap (λ y. finite (read g.types y x t)) (memory_here (length ns) m ms)
    led_right (reads (Program x side.Right) t) k = refl
    led_right (reads (Program x (side.Memory i)) t) k = ap (λ y. finite (read g.types y x t)) (named_same m i (frame_read (get_or ns i None) x t k))
    led_right (reads (Program x (side.Bound i)) t) k = absurd (not_in sides x t k)
    led_right (bound i) k = absurd (false≢true k)
    led_right (globals x r) k = absurd (false≢true k)
    led_right (starts side.Own) k = absurd (false≢true k)
    led_right (starts side.Left) k = absurd (false≢true k)
    led_right (starts side.Right) k = absurd (false≢true k)
    led_right (starts (side.Memory i)) k = named_same m i k
    led_right (starts (side.Bound i)) k = absurd (false≢true k)
    led_right binds_own k = absurd (false≢true k)
    led_right binds_sides k = absurd (false≢true k)

    module _ (p : Term) (plain : IsPlain p) (w : IsForm sides p) where
      pub left_means : den g j (beside side.Left (length ns) p) (at (with_last n) m) ≡ den g j p (between (context vs ms) m n)
      left_means =
          ap truth (plain_followed g (speaking g j) p (formed sides p w.typed) plain (to_seats side.Left side.Right) (unbinding (uses_of sides)) (at (with_last n) m) (between (context vs ms) m n) (tt, (tt, tt)) led_left
          (plain_typed sides p plain w.typed))

      pub right_means : den g j (beside side.Right (length ns) p) (at (with_last m) n) ≡ den g j p (between (context vs ms) m n)
      right_means =
          ap truth (plain_followed g (speaking g j) p (formed sides p w.typed) plain (to_seats side.Right side.Left) (unbinding (uses_of sides)) (at (with_last m) n) (between (context vs ms) m n) (tt, (tt, tt)) led_right
          (plain_typed sides p plain w.typed))
