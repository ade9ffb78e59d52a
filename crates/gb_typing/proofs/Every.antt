-- A form for every memory in place of one: typing and meaning.
use Rattle.std.proofs.Common.{◌≡◌, ℕ, inr, Bool, true, false, if◌then◌else◌, List, [], ◌∷◌, Some, None, refl, ap, sym, ◌∙◌, subst}
use Rattle.std.proofs.lemmas.Bool.{false≢true}
use Rattle.gb_core.specs.declared.ty.Ty.{Ty}
use Rattle.gb_core.specs.declared.ty.Ty.TheVariants as ty
use Rattle.gb_core.specs.declared.var.Var.{Var}
use Rattle.gb_core.specs.declared.var.Var.TheVariants as var
use Rattle.gb_terms.specs.declared.decl.TypedName.{TypedName}
use Rattle.gb_terms.specs.declared.op.Side.{Side}
use Rattle.gb_terms.specs.declared.op.Side.TheVariants as side
use Rattle.gb_terms.specs.declared.op.Read.{Read}
use Rattle.gb_terms.specs.declared.op.Read.TheVariants.{Logical, Program}
use Rattle.gb_terms.specs.declared.term.Term.{Term}
use Rattle.gb_terms.specs.declared.term.Head.TheVariants as head
use Rattle.gb_walk.specs.Change.{is_own, is_left_or_right, found_for_read, read_changed, side_changed, term_changed}
use Rattle.gb_walk.specs.Sides.{reads_side}
use Rattle.gb_terms.specs.Equal.{side_eq}
use Rattle.gb_meaning.specs.Names.{Name}
use Rattle.gb_meaning.specs.Memory.{Memory, read}
use Rattle.gb_meaning.specs.Setting.{Setting}
use Rattle.gb_meaning.specs.Setting.Meaning.{finite}
use Rattle.gb_meaning.specs.Meanings.{truth}
use Rattle.gb_meaning.specs.State.{State, under, memory_of}
use Rattle.gb_meaning.specs.State.Binding.{memory as memory_bound}
use Rattle.gb_meaning.specs.Terms.{Speaks}
use Rattle.gb_meaning.specs.Judgments.{Judge, IsFair, speaking, den}
use Rattle.gb_meaning.proofs.Truths.{true_all_memory}
use Rattle.gb_laws.specs.Uses.Use.{read as reads, bound, globals, starts, binds_own, binds_sides}
use Rattle.gb_laws.specs.Agree.{Agree}
use Rattle.gb_laws.specs.Led.{Led}
use Rattle.gb_laws.specs.Written.{with_side, IsSide}
use Rattle.gb_laws.proofs.Agreeing.{form_agrees}
use Rattle.gb_laws.proofs.Forms.{form_followed}
use Rattle.gb_laws.specs.Typing.Binder.{memory}
use Rattle.gb_laws.specs.Typing as typed
use Rattle.gb_typing.specs.Context.{Context, Frame, erased, frame_of, local_in, within, reframed}
use Rattle.gb_typing.specs.Typing.{IsFrame, IsPlace, IsForm}
use Rattle.gb_typing.specs.Fits.{IsSettingOf}
use Rattle.gb_typing.specs.Changes.{IsLeaf, Becomes, Leads, Stays}
use Rattle.gb_typing.proofs.Fitting.{fits_reframed}
use Rattle.gb_typing.proofs.Formed.{formed}
use Rattle.gb_typing.proofs.Made.{made_node}
use Rattle.gb_typing.proofs.Changed.{changed}
use Rattle.gb_typing.proofs.Sound.{procedures_sound, sound_form}
use Rattle.gb_typing.proofs.Uses.{reads_in, uses_of, uses_typed}
use Rattle.gb_typing.specs.Forms.{to_bound, all_memory, every}
use Rattle.gb_typing.specs.Rules.{outermost}
use Rattle.gb_typing.proofs.Forms.{made_form, form_made}
use Rattle.gb_typing.proofs.Unread.{Frames, with_frames, Keeps, unread_typed}

-- A read of one memory becomes one of another memory with the same locals.
pub leaf_moved : (c d : Context) → ((m x : Name) (t : Ty) → c.global m x ≡ Some t → d.global m x ≡ Some t) → ((a : Name) → c.has_globals a ≡ true → d.has_globals a ≡ true) →
    (r s : Side) → typed.IsSide (erased d) s → frame_of c r ≡ frame_of d s → (x : Var) (t : Ty) → IsLeaf c (head.Read (Program x r)) t → IsLeaf d (head.Read (Program x s)) t
leaf_moved c d g h r s i e (var.Local x) t w = ((i, w.0.1), subst (λ f. local_in f x ≡ Some t) e w.1)
leaf_moved c d g h r s i e (var.Global m x) t w = ((i, w.0.1, g m x t w.0.2), (subst IsFrame e w.1.0, g m x t w.1.1))
leaf_moved c d g h r s i e (var.Glob a) t w = ((i, w.0.1), (subst IsFrame e w.1.0, h a w.1.1, w.1.2))

-- the side of a read
pub side_of : (c : Context) (x : Var) (r : Side) (t : Ty) → IsLeaf c (head.Read (Program x r)) t → typed.IsSide (erased c) r
side_of c (var.Local x) r t w = w.0.0
side_of c (var.Global m x) r t w = w.0.0
side_of c (var.Glob a) r t w = w.0.0

abbrev kept : Bool → Frame → Frame
kept true f = None
kept false f = f

-- without the locals of one memory
abbrev frames_without : Side → Context → Frames
frames_without r c = record { own = kept (side_eq r side.Own) c.own; left = kept (side_eq r side.Left) c.left; right = kept (side_eq r side.Right) c.right }

abbrev pub unframed : Side → Context → Context
unframed r c = with_frames c (frames_without r c)

keeps_others : (r : Side) (c : Context) → Keeps r c (frames_without r c)
keeps_others r c = record { own = λ e. ap (λ b. kept b c.own) e; left = λ e. ap (λ b. kept b c.left) e; right = λ e. ap (λ b. kept b c.right) e }

-- no bound memory
abbrev IsOutside : Side → Type 0
IsOutside (side.Bound n) = ⊥
IsOutside r = Unit {0}

-- a memory stays, or becomes the bound one
led : (r s : Side) (P : Side → Type 0) → P s → P (side.Bound 0) → P (side_changed (to_bound r) s)
led r s P x y = by_test (side_eq r s)
  where
    by_test : (b : Bool) → P (if b then side.Bound 0 else s)
    by_test true = y
    by_test false = x

pub places_led : (r s : Side) → IsPlace s → IsPlace (side_changed (to_bound r) s)
places_led r s w = led r s IsPlace w tt

pub stays_bound : (r : Side) → Stays (to_bound r)
stays_bound r = record { own = λ s e. led r s (λ s. is_own s ≡ false) e refl; sides = λ s e. led r s (λ s. is_left_or_right s ≡ false) e refl }

module _ (b : Context) (F L K : Frame) where
  -- no binder is around
  abbrev d : Context
  d = reframed (outermost b) F L K

  abbrev inside : Side → Context
  inside r = within (unframed r d) memory (frame_of d r)

  side_bound : (r : Side) → IsSide r → (s : Side) → typed.IsSide (erased d) s → typed.IsSide (erased (inside r)) (side_changed (to_bound r) s)
  side_bound side.Own i side.Own w = tt
  side_bound side.Own i side.Left w = tt
  side_bound side.Own i side.Right w = tt
  side_bound side.Own i (side.Memory n) w = w
  side_bound side.Left i side.Own w = tt
  side_bound side.Left i side.Left w = tt
  side_bound side.Left i side.Right w = tt
  side_bound side.Left i (side.Memory n) w = w
  side_bound side.Right i side.Own w = tt
  side_bound side.Right i side.Left w = tt
  side_bound side.Right i side.Right w = tt
  side_bound side.Right i (side.Memory n) w = w
  side_bound r i (side.Bound n) w = absurd w
  side_bound (side.Memory n) i s w = absurd i
  side_bound (side.Bound n) i s w = absurd i

  frame_bound : (r : Side) → IsSide r → (s : Side) → typed.IsSide (erased d) s → frame_of d s ≡ frame_of (inside r) (side_changed (to_bound r) s)
  frame_bound side.Own i side.Own w = refl
  frame_bound side.Own i side.Left w = refl
  frame_bound side.Own i side.Right w = refl
  frame_bound side.Own i (side.Memory n) w = refl
  frame_bound side.Left i side.Own w = refl
  frame_bound side.Left i side.Left w = refl
  frame_bound side.Left i side.Right w = refl
  frame_bound side.Left i (side.Memory n) w = refl
  frame_bound side.Right i side.Own w = refl
  frame_bound side.Right i side.Left w = refl
  frame_bound side.Right i side.Right w = refl
  frame_bound side.Right i (side.Memory n) w = refl
  frame_bound r i (side.Bound n) w = absurd w
  frame_bound (side.Memory n) i s w = absurd i
  frame_bound (side.Bound n) i s w = absurd i

  reads_bound : (r : Side) → IsSide r → (q : Read) (t : Ty) → IsLeaf d (head.Read q) t → Becomes true (inside r) t q (found_for_read (to_bound r) q) (head.Read (read_changed (to_bound r) q))
  reads_bound r i (Logical n) t w = w
  reads_bound r i (Program x s) t w =
      let u = side_of d x s t w in
      leaf_moved d (inside r) (λ m x t e. e) (λ a e. e) s (side_changed (to_bound r) s) (side_bound r i s u) (frame_bound r i s u) x t w

  leads_bound : (r : Side) → IsSide r → Leads true (to_bound r) d (inside r)
  leads_bound r i = record {
    reads = reads_bound r i;
    bounds = λ n t w. absurd w;
    sides = λ s w. (side_bound r i s w.0, subst IsFrame (frame_bound r i s w.0) w.1);
    places = places_led r;
    global = λ m x t e. e;
    operator = λ n o e. e;
    procedure = λ p. refl;
    has_globals = λ a e. e;
  }

  for_all_typed : (r : Side) (ls : List TypedName) → IsSide r → frame_of d r ≡ Some ls → (f : Term) → IsForm d f → IsForm (unframed r d) (all_memory r f)
  for_all_typed r ls i e f w =
      let m = changed true f (to_bound r) d (inside r) (leads_bound r i) (inr (stays_bound r, refl)) w.typed in
      let form : IsForm (within (unframed r d) memory (Some ls)) (term_changed f (to_bound r)) =
      subst (λ l. IsForm (within (unframed r d) memory l) (term_changed f (to_bound r))) e (record { typed = m.typed; truth = m.written ∙ w.truth }) in
      form_made (unframed r d) (all_memory r f)
      (made_node (unframed r d) head.AllMemory (ty.Bool ∷ []) (term_changed f (to_bound r) ∷ []) ty.Bool (refl, (refl, tt)) tt ls (made_form (within (unframed r d) memory (Some ls)) (term_changed f (to_bound r)) form))

  unread_form : (r : Side) (f : Term) → reads_side f r ≡ false → IsForm d f → IsForm (unframed r d) f
  unread_form r f e w = record { typed = unread_typed r f d (frames_without r d) (keeps_others r d) e w.typed; truth = w.truth }

  -- it is well typed where that memory isn't around
  pub every_typed : (r : Side) (ls : List TypedName) → IsSide r → frame_of d r ≡ Some ls → (f : Term) → IsForm d f → IsForm (unframed r d) (every r f)
  every_typed r ls i e f w = by_test (reads_side f r) refl
    where
      by_test : (b : Bool) → reads_side f r ≡ b → IsForm (unframed r d) (if b then all_memory r f else f)
      by_test true h = for_all_typed r ls i e f w
      by_test false h = unread_form r f h w

  not_in : (c : Context) (x : Var) (t : Ty) → reads_in c None x t ≡ true → ⊥
  not_in c (var.Local x) t e = false≢true e
  not_in c (var.Global m x) t e = false≢true e
  not_in c (var.Glob a) t e = false≢true e

  module _ (g : Setting) (s : State) (m : Memory) where
    memory_led : (r : Side) → IsSide r → (q : Side) → IsOutside q → memory_of (under s (memory_bound m)) (side_changed (to_bound r) q) ≡ memory_of (with_side s r m) q
    memory_led side.Own i side.Own w = refl
    memory_led side.Own i side.Left w = refl
    memory_led side.Own i side.Right w = refl
    memory_led side.Own i (side.Memory n) w = refl
    memory_led side.Left i side.Own w = refl
    memory_led side.Left i side.Left w = refl
    memory_led side.Left i side.Right w = refl
    memory_led side.Left i (side.Memory n) w = refl
    memory_led side.Right i side.Own w = refl
    memory_led side.Right i side.Left w = refl
    memory_led side.Right i side.Right w = refl
    memory_led side.Right i (side.Memory n) w = refl
    memory_led r i (side.Bound n) w = absurd w
    memory_led (side.Memory n) i q w = absurd i
    memory_led (side.Bound n) i q w = absurd i

    -- what is used is of no bound memory
    used_read : (x : Var) (q : Side) (t : Ty) → uses_of d (reads (Program x q) t) ≡ true → IsOutside q
    used_read x (side.Bound n) t k = not_in d x t k
    used_read x _ t k = tt

    used_start : (q : Side) → uses_of d (starts q) ≡ true → IsOutside q
    used_start (side.Bound n) k = false≢true k
    used_start _ k = tt

    same_logical : (r : Side) → IsSide r → (n : ℕ) → s.logical n ≡ (with_side s r m).logical n
    same_logical side.Own i n = refl
    same_logical side.Left i n = refl
    same_logical side.Right i n = refl
    same_logical (side.Memory q) i n = absurd i
    same_logical (side.Bound q) i n = absurd i

    led_bound : (j : Speaks) (r : Side) → IsSide r → Led g j (to_bound r) (uses_of d) (under s (memory_bound m)) (with_side s r m)
    led_bound j r i (reads (Logical n) t) k = same_logical r i n
    led_bound j r i (reads (Program x q) t) k = ap (λ y. finite (read g.types y x t)) (memory_led r i q (used_read x q t k))
    led_bound j r i (bound n) k = absurd (false≢true k)
    led_bound j r i (globals x q) k = absurd (false≢true k)
    led_bound j r i (starts q) k = memory_led r i q (used_start q k)
    led_bound j r i binds_own k = ((λ e. refl), tt)
    led_bound j r i binds_sides k = ((λ e. refl), tt)

    -- where a memory isn't around, it may be any
    same_memory : (r : Side) → IsSide r → (x : Var) (q : Side) (t : Ty) → uses_of (unframed r d) (reads (Program x q) t) ≡ true → memory_of s q ≡ memory_of (with_side s r m) q
    same_memory side.Own i x side.Own t k = absurd (not_in (unframed side.Own d) x t k)
    same_memory side.Own i x side.Left t k = refl
    same_memory side.Own i x side.Right t k = refl
    same_memory side.Own i x (side.Memory n) t k = refl
    same_memory side.Left i x side.Own t k = refl
    same_memory side.Left i x side.Left t k = absurd (not_in (unframed side.Left d) x t k)
    same_memory side.Left i x side.Right t k = refl
    same_memory side.Left i x (side.Memory n) t k = refl
    same_memory side.Right i x side.Own t k = refl
    same_memory side.Right i x side.Left t k = refl
    same_memory side.Right i x side.Right t k = absurd (not_in (unframed side.Right d) x t k)
    same_memory side.Right i x (side.Memory n) t k = refl
    same_memory r i x (side.Bound n) t k = absurd (not_in (unframed r d) x t k)
    same_memory (side.Memory n) i x q t k = absurd i
    same_memory (side.Bound n) i x q t k = absurd i

    same_start : (r : Side) → IsSide r → (q : Side) → uses_of (unframed r d) (starts q) ≡ true → memory_of s q ≡ memory_of (with_side s r m) q
    same_start side.Own i (side.Memory n) k = refl
    same_start side.Left i (side.Memory n) k = refl
    same_start side.Right i (side.Memory n) k = refl
    same_start r i side.Own k = absurd (false≢true k)
    same_start r i side.Left k = absurd (false≢true k)
    same_start r i side.Right k = absurd (false≢true k)
    same_start r i (side.Bound n) k = absurd (false≢true k)
    same_start (side.Memory n) i q k = absurd i
    same_start (side.Bound n) i q k = absurd i

    agrees : (r : Side) → IsSide r → Agree g (uses_of (unframed r d)) s (with_side s r m)
    agrees r i (reads (Logical n) t) k = same_logical r i n
    agrees r i (reads (Program x q) t) k = ap (λ y. finite (read g.types y x t)) (same_memory r i x q t k)
    agrees r i (bound n) k = absurd (false≢true k)
    agrees r i (globals x q) k = absurd (false≢true k)
    agrees r i (starts q) k = same_start r i q k
    agrees r i binds_own k = tt
    agrees r i binds_sides k = tt

  module _ (g : Setting) (fits : IsSettingOf d g) (j : Judge) (fair : IsFair g j) (r : Side) (i : IsSide r) (f : Term) (w : IsForm d f) (s : State) where
    for_all_meaning : den g j (all_memory r f) s ≡ true → (m : Memory) → den g j f (with_side s r m) ≡ true
    for_all_meaning h m =
        ap truth (sym (form_followed g j fair f (formed d f w.typed) (sound_form g d (procedures_sound d g fits) f w.typed) (to_bound r) (uses_of d) (under s (memory_bound m)) (with_side s r m) (tt, tt)
        (led_bound g s m (speaking g j) r i) (uses_typed d f w.typed)))
        ∙ (true_all_memory g j fair (term_changed f (to_bound r)) s).0 h m

    unread_meaning : reads_side f r ≡ false → (m : Memory) → den g j f s ≡ den g j f (with_side s r m)
    unread_meaning e m =
        let v : IsForm (unframed r d) f = unread_form r f e w in
        let F : Frames = frames_without r d in
        ap truth (form_agrees g j fair f (formed (unframed r d) f v.typed) (sound_form g (unframed r d) (procedures_sound (unframed r d) g (fits_reframed d g fits F.own F.left F.right)) f v.typed)
        (uses_of (unframed r d)) s (with_side s r m) (agrees g s m r i) (uses_typed (unframed r d) f v.typed))

    -- it is true where the form is true with each memory in that place
    pub every_meaning : den g j (every r f) s ≡ true → (m : Memory) → den g j f (with_side s r m) ≡ true
    every_meaning h m = by_test (reads_side f r) refl h
      where
        by_test : (b : Bool) → reads_side f r ≡ b → den g j (if b then all_memory r f else f) s ≡ true → den g j f (with_side s r m) ≡ true
        by_test true e h = for_all_meaning h m
        by_test false e h = sym (unread_meaning e m) ∙ h
