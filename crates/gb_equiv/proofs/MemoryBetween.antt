-- Relations by way of a memory between: typing and meaning.
use Rattle.std.proofs.Common.{◌≡◌, inr, Bool, true, false, ◌||◌, if◌then◌else◌, List, [], ◌∷◌, None, Some, refl, ap, sym, ◌∙◌, subst}
use Rattle.std.proofs.lemmas.Bool.{false≢true}
use Rattle.gb_core.specs.declared.ty.Ty.{Ty}
use Rattle.gb_core.specs.declared.ty.Ty.TheVariants as ty
use Rattle.gb_core.specs.declared.var.Var.{Var}
use Rattle.gb_core.specs.declared.var.Var.TheVariants as var
use Rattle.gb_terms.specs.declared.decl.TypedName.{TypedName}
use Rattle.gb_terms.specs.declared.op.Side.{Side}
use Rattle.gb_terms.specs.declared.op.Side.TheVariants as side
use Rattle.gb_terms.specs.declared.op.Read.{Read}
use Rattle.gb_terms.specs.declared.op.Read.TheVariants.{Logical, Program}
use Rattle.gb_terms.specs.declared.term.Term.{Term}
use Rattle.gb_terms.specs.declared.term.Head.TheVariants as head
use Rattle.gb_terms.specs.Make.{node}
use Rattle.gb_walk.specs.Change.{Changes, found_for_read, read_changed, side_changed, term_changed}
use Rattle.gb_walk.specs.Sides.{reads_side}
use Rattle.gb_meaning.specs.Memory.{Memory}
use Rattle.gb_meaning.specs.Setting.{Setting}
use Rattle.gb_meaning.specs.Meanings.{truth}
use Rattle.gb_meaning.specs.State.{State, between, under}
use Rattle.gb_meaning.specs.State.Binding.{memory as memory_bound}
use Rattle.gb_meaning.specs.Judgments.{Judge, IsFair, speaking, IsTrueUnder, den}
use Rattle.gb_meaning.proofs.Truths.{true_all_memory, true_some_memory}
use Rattle.gb_laws.specs.Uses.Use.{read as reads, bound, globals, starts, binds_own, binds_sides}
use Rattle.gb_laws.specs.Agree.{Agree}
use Rattle.gb_laws.specs.Led.{Led}
use Rattle.gb_laws.proofs.Agreeing.{form_agrees}
use Rattle.gb_laws.proofs.Forms.{form_followed}
use Rattle.gb_laws.specs.Typing.Binder.{memory}
use Rattle.gb_laws.specs.Typing as typed
use Rattle.gb_typing.specs.Context.{Context, Frame, erased, frame_of, with_sides, within}
use Rattle.gb_typing.specs.Typing.{IsFrame, IsPlace, IsForm}
use Rattle.gb_typing.specs.Fits.{IsSettingOf}
use Rattle.gb_typing.specs.Changes.{IsLeaf, Becomes, Leads, Stays}
use Rattle.gb_typing.specs.Forms.{and_form, implies_form, to_bound}
use Rattle.gb_typing.specs.Rules.{outermost}
use Rattle.gb_typing.proofs.Changed.{changed}
use Rattle.gb_typing.proofs.Every.{leaf_moved, side_of, places_led, stays_bound, every_meaning}
use Rattle.gb_typing.proofs.Fitting.{fits_reframed}
use Rattle.gb_typing.proofs.Formed.{formed}
use Rattle.gb_typing.proofs.Forms.{made_form, form_made, and_typed, and_use, implies_typed, implies_use}
use Rattle.gb_typing.proofs.Made.{made_node}
use Rattle.gb_typing.proofs.Sound.{procedures_sound, sound_form}
use Rattle.gb_typing.proofs.Unread.{unread_typed}
use Rattle.gb_typing.proofs.Uses.{reads_in, uses_of, uses_typed}
use Rattle.gb_amb.proofs.Idle.{unchanged}
use Rattle.gb_forms.specs.Between.{from_left, to_right, reads_between, some_between}
use Rattle.gb_equiv.specs.Transitivity.{every_between}

either_false : (a b : Bool) → (a || b) ≡ false → (a ≡ false) × (b ≡ false)
either_false true b e = absurd (false≢true (sym e))
either_false false b e = (refl, e)

module _ (b : Context) where
  -- relations of memories with these locals, and the same behind the memory between
  abbrev sides : Frame → Frame → Context
  sides L R = with_sides (outermost b) L R

  abbrev behind : Frame → Frame → Frame → Context
  behind L R M = within (sides L R) memory M

  -- changes that lead to memories with the same locals, the one between among them
  record Moves (cs : Changes) (L R F G M : Frame) : Type 0 where
    unfound : (q : Read) → found_for_read cs q ≡ None
    sides_kept : (s : Side) → typed.IsSide (erased (sides L R)) s →
        typed.IsSide (erased (behind F G M)) (side_changed cs s) × (frame_of (sides L R) s ≡ frame_of (behind F G M) (side_changed cs s))
    places : (s : Side) → IsPlace s → IsPlace (side_changed cs s)
    stays : Stays cs

  module _ (cs : Changes) (L R F G M : Frame) (m : Moves cs L R F G M) where
    read_moved : (q : Read) (t : Ty) → IsLeaf (sides L R) (head.Read q) t → IsLeaf (behind F G M) (head.Read (read_changed cs q)) t
    read_moved (Logical n) t w = w
    read_moved (Program x s) t w =
        let k = m.sides_kept s (side_of (sides L R) x s t w) in
        leaf_moved (sides L R) (behind F G M) (λ m x t e. e) (λ a e. e) s (side_changed cs s) k.0 k.1 x t w

    leads : Leads true cs (sides L R) (behind F G M)
    leads = record {
      reads = λ q t w. subst (λ o. Becomes true (behind F G M) t q o (head.Read (read_changed cs q))) (sym (m.unfound q)) (read_moved q t w);
      bounds = λ n t w. absurd w;
      sides = λ s w. let k = m.sides_kept s w.0 in (k.0, subst IsFrame k.1 w.1);
      places = m.places;
      global = λ m x t e. e;
      operator = λ n o e. e;
      procedure = λ p. refl;
      has_globals = λ a e. e;
    }

    moved : (f : Term) → IsForm (sides L R) f → IsForm (behind F G M) (term_changed f cs)
    moved f w = let k = changed true f cs (sides L R) (behind F G M) leads (inr (m.stays, refl)) w.typed in record { typed = k.typed; truth = k.written ∙ w.truth }

  module _ (L R M : Frame) where
    left_moves : Moves (to_bound side.Right) L M L R M
    left_moves = record { unfound = λ q. refl; sides_kept = kept; places = places_led side.Right; stays = stays_bound side.Right }
      where
        kept : (s : Side) → typed.IsSide (erased (sides L M)) s →
            typed.IsSide (erased (behind L R M)) (side_changed (to_bound side.Right) s) × (frame_of (sides L M) s ≡ frame_of (behind L R M) (side_changed (to_bound side.Right) s))
        kept side.Own w = (tt, refl)
        kept side.Left w = (tt, refl)
        kept side.Right w = (tt, refl)
        kept (side.Memory n) w = (w, refl)
        kept (side.Bound n) w = absurd w

    right_moves : Moves (to_bound side.Left) M R L R M
    right_moves = record { unfound = λ q. refl; sides_kept = kept; places = places_led side.Left; stays = stays_bound side.Left }
      where
        kept : (s : Side) → typed.IsSide (erased (sides M R)) s →
            typed.IsSide (erased (behind L R M)) (side_changed (to_bound side.Left) s) × (frame_of (sides M R) s ≡ frame_of (behind L R M) (side_changed (to_bound side.Left) s))
        kept side.Own w = (tt, refl)
        kept side.Left w = (tt, refl)
        kept side.Right w = (tt, refl)
        kept (side.Memory n) w = (w, refl)
        kept (side.Bound n) w = absurd w

    still : Moves [] L R L R M
    still = record { unfound = λ q. refl; sides_kept = kept; places = λ s w. w; stays = record { own = λ r e. e; sides = λ r e. e } }
      where
        kept : (s : Side) → typed.IsSide (erased (sides L R)) s → typed.IsSide (erased (behind L R M)) s × (frame_of (sides L R) s ≡ frame_of (behind L R M) s)
        kept side.Own w = (tt, refl)
        kept side.Left w = (tt, refl)
        kept side.Right w = (tt, refl)
        kept (side.Memory n) w = (w, refl)
        kept (side.Bound n) w = absurd w

    -- each relation behind the memory between
    left_typed : (f : Term) → IsForm (sides L M) f → IsForm (behind L R M) (from_left f)
    left_typed f w = moved (to_bound side.Right) L M L R M left_moves f w

    right_typed : (f : Term) → IsForm (sides M R) f → IsForm (behind L R M) (to_right f)
    right_typed f w = moved (to_bound side.Left) M R L R M right_moves f w

    outer_typed : (f : Term) → IsForm (sides L R) f → IsForm (behind L R M) f
    outer_typed f w = subst (IsForm (behind L R M)) (unchanged (sides L R) f w.typed [] tt) (moved [] L R L R M still f w)

    -- each relation where the memory between isn't read
    left_alone : (f : Term) → IsForm (sides L M) f → reads_side f side.Right ≡ false → IsForm (sides L R) f
    left_alone f w e = record {
      typed = unread_typed side.Right f (sides L M) (record { own = None; left = L; right = R })
          (record { own = λ e. refl; left = λ e. refl; right = λ e. absurd (false≢true (sym e)) }) e w.typed;
      truth = w.truth;
    }

    right_alone : (f : Term) → IsForm (sides M R) f → reads_side f side.Left ≡ false → IsForm (sides L R) f
    right_alone f w e = record {
      typed = unread_typed side.Left f (sides M R) (record { own = None; left = L; right = R })
          (record { own = λ e. refl; left = λ e. absurd (false≢true (sym e)); right = λ e. refl }) e w.typed;
      truth = w.truth;
    }

    module _ (ls : List TypedName) (between_is : M ≡ Some ls) (f h : Term) (v : IsForm (sides L M) f) (w : IsForm (sides M R) h) where
      abbrev joined : Term
      joined = and_form (from_left f) (to_right h)

      pub some_typed : IsForm (sides L R) (some_between f h)
      some_typed = by_test (reads_between f h) refl
        where
          by_test : (t : Bool) → reads_between f h ≡ t → IsForm (sides L R) (if t then node head.SomeMemory (joined ∷ []) ty.Bool else and_form f h)
          by_test true e =
              let inner : IsForm (behind L R (Some ls)) joined = subst (λ M. IsForm (behind L R M) joined) between_is (and_typed (behind L R M) (from_left f) (to_right h) (left_typed f v) (right_typed h w)) in
              form_made (sides L R) (node head.SomeMemory (joined ∷ []) ty.Bool)
              (made_node (sides L R) head.SomeMemory (ty.Bool ∷ []) (joined ∷ []) ty.Bool (refl, (refl, tt)) tt ls (made_form (behind L R (Some ls)) joined inner))
          by_test false e = let k = either_false (reads_side f side.Right) (reads_side h side.Left) e in and_typed (sides L R) f h (left_alone f v k.0) (right_alone h w k.1)

      module _ (q : Term) (x : IsForm (sides L R) q) where
        abbrev leading : Term
        leading = implies_form (from_left f) (implies_form (to_right h) q)

        pub every_typed : IsForm (sides L R) (every_between f h q)
        every_typed = by_test (reads_between f h) refl
          where
            by_test : (t : Bool) → reads_between f h ≡ t → IsForm (sides L R) (if t then node head.AllMemory (leading ∷ []) ty.Bool else implies_form f (implies_form h q))
            by_test true e =
                let inner : IsForm (behind L R (Some ls)) leading =
                subst (λ M. IsForm (behind L R M) leading) between_is
                (implies_typed (behind L R M) (from_left f) (implies_form (to_right h) q) (left_typed f v) (implies_typed (behind L R M) (to_right h) q (right_typed h w) (outer_typed q x))) in
                form_made (sides L R) (node head.AllMemory (leading ∷ []) ty.Bool)
                (made_node (sides L R) head.AllMemory (ty.Bool ∷ []) (leading ∷ []) ty.Bool (refl, (refl, tt)) tt ls (made_form (behind L R (Some ls)) leading inner))
            by_test false e =
                let k = either_false (reads_side f side.Right) (reads_side h side.Left) e in
                implies_typed (sides L R) f (implies_form h q) (left_alone f v k.0) (implies_typed (sides L R) h q (right_alone h w k.1) x)

  -- Meaning.

  not_in : (c : Context) (x : Var) (t : Ty) → reads_in c None x t ≡ true → ⊥
  not_in c (var.Local x) t e = false≢true e
  not_in c (var.Global m x) t e = false≢true e
  not_in c (var.Glob a) t e = false≢true e

  module _ (g : Setting) (fits : IsSettingOf (outermost b) g) (j : Judge) (fair : IsFair g j) (s : State) where
    fits_sides : (F G : Frame) → IsSettingOf (sides F G) g
    fits_sides F G = fits_reframed (outermost b) g fits None F G

    module _ (m n o : Memory) where
      abbrev here : State
      here = under (between s m n) (memory_bound o)

      left_led : (F G : Frame) → Led g (speaking g j) (to_bound side.Right) (uses_of (sides F G)) here (between s m o)
      left_led F G (reads (Logical i) t) k = refl
      left_led F G (reads (Program x side.Own) t) k = refl
      left_led F G (reads (Program x side.Left) t) k = refl
      left_led F G (reads (Program x side.Right) t) k = refl
      left_led F G (reads (Program x (side.Memory i)) t) k = refl
      left_led F G (reads (Program x (side.Bound i)) t) k = absurd (not_in (sides F G) x t k)
      left_led F G (bound i) k = absurd (false≢true k)
      left_led F G (globals x r) k = absurd (false≢true k)
      left_led F G (starts side.Own) k = absurd (false≢true k)
      left_led F G (starts side.Left) k = absurd (false≢true k)
      left_led F G (starts side.Right) k = absurd (false≢true k)
      left_led F G (starts (side.Memory i)) k = refl
      left_led F G (starts (side.Bound i)) k = absurd (false≢true k)
      left_led F G binds_own k = ((λ e. refl), tt)
      left_led F G binds_sides k = ((λ e. refl), tt)

      right_led : (F G : Frame) → Led g (speaking g j) (to_bound side.Left) (uses_of (sides F G)) here (between s o n)
      right_led F G (reads (Logical i) t) k = refl
      right_led F G (reads (Program x side.Own) t) k = refl
      right_led F G (reads (Program x side.Left) t) k = refl
      right_led F G (reads (Program x side.Right) t) k = refl
      right_led F G (reads (Program x (side.Memory i)) t) k = refl
      right_led F G (reads (Program x (side.Bound i)) t) k = absurd (not_in (sides F G) x t k)
      right_led F G (bound i) k = absurd (false≢true k)
      right_led F G (globals x r) k = absurd (false≢true k)
      right_led F G (starts side.Own) k = absurd (false≢true k)
      right_led F G (starts side.Left) k = absurd (false≢true k)
      right_led F G (starts side.Right) k = absurd (false≢true k)
      right_led F G (starts (side.Memory i)) k = refl
      right_led F G (starts (side.Bound i)) k = absurd (false≢true k)
      right_led F G binds_own k = ((λ e. refl), tt)
      right_led F G binds_sides k = ((λ e. refl), tt)

      agree : (F G : Frame) → Agree g (uses_of (sides F G)) here (between s m n)
      agree F G (reads (Logical i) t) k = refl
      agree F G (reads (Program x side.Own) t) k = refl
      agree F G (reads (Program x side.Left) t) k = refl
      agree F G (reads (Program x side.Right) t) k = refl
      agree F G (reads (Program x (side.Memory i)) t) k = refl
      agree F G (reads (Program x (side.Bound i)) t) k = absurd (not_in (sides F G) x t k)
      agree F G (bound i) k = absurd (false≢true k)
      agree F G (globals x r) k = absurd (false≢true k)
      agree F G (starts side.Own) k = absurd (false≢true k)
      agree F G (starts side.Left) k = absurd (false≢true k)
      agree F G (starts side.Right) k = absurd (false≢true k)
      agree F G (starts (side.Memory i)) k = refl
      agree F G (starts (side.Bound i)) k = absurd (false≢true k)
      agree F G binds_own k = tt
      agree F G binds_sides k = tt

      module _ (F G : Frame) (f : Term) (w : IsForm (sides F G) f) where
        left_is : den g j (from_left f) here ≡ den g j f (between s m o)
        left_is =
            ap truth (form_followed g j fair f (formed (sides F G) f w.typed) (sound_form g (sides F G) (procedures_sound (sides F G) g (fits_sides F G)) f w.typed) (to_bound side.Right)
            (uses_of (sides F G)) here (between s m o) (tt, tt) (left_led F G) (uses_typed (sides F G) f w.typed))

        right_is : den g j (to_right f) here ≡ den g j f (between s o n)
        right_is =
            ap truth (form_followed g j fair f (formed (sides F G) f w.typed) (sound_form g (sides F G) (procedures_sound (sides F G) g (fits_sides F G)) f w.typed) (to_bound side.Left)
            (uses_of (sides F G)) here (between s o n) (tt, tt) (right_led F G) (uses_typed (sides F G) f w.typed))

        outer_is : den g j f here ≡ den g j f (between s m n)
        outer_is =
            ap truth (form_agrees g j fair f (formed (sides F G) f w.typed) (sound_form g (sides F G) (procedures_sound (sides F G) g (fits_sides F G)) f w.typed)
            (uses_of (sides F G)) here (between s m n) (agree F G) (uses_typed (sides F G) f w.typed))

    -- where a memory isn't read, it may be any
    module _ (F G : Frame) (f : Term) (w : IsForm (sides F G) f) (m n o : Memory) (h : IsTrueUnder g j f (between s m n)) where
      any_right : reads_side f side.Right ≡ false → IsTrueUnder g j f (between s m o)
      any_right e =
          every_meaning b None F G g (fits_sides F G) j fair side.Right tt f w (between s m n)
          (subst (λ t. den g j (if t then node head.AllMemory (term_changed f (to_bound side.Right) ∷ []) ty.Bool else f) (between s m n) ≡ true) (sym e) h) o

      any_left : reads_side f side.Left ≡ false → IsTrueUnder g j f (between s o n)
      any_left e =
          every_meaning b None F G g (fits_sides F G) j fair side.Left tt f w (between s m n)
          (subst (λ t. den g j (if t then node head.AllMemory (term_changed f (to_bound side.Left) ∷ []) ty.Bool else f) (between s m n) ≡ true) (sym e) h) o

    module _ (L R M : Frame) (f h : Term) (v : IsForm (sides L M) f) (w : IsForm (sides M R) h) (m n : Memory) where
      -- there is a memory between
      pub some_use : IsTrueUnder g j (some_between f h) (between s m n) → (o : Memory) × IsTrueUnder g j f (between s m o) × IsTrueUnder g j h (between s o n)
      some_use x = by_test (reads_between f h) refl x
        where
          by_test : (t : Bool) → reads_between f h ≡ t → IsTrueUnder g j (if t then node head.SomeMemory (and_form (from_left f) (to_right h) ∷ []) ty.Bool else and_form f h) (between s m n) →
              (o : Memory) × IsTrueUnder g j f (between s m o) × IsTrueUnder g j h (between s o n)
          by_test true e x =
              let k = (true_some_memory g j fair (and_form (from_left f) (to_right h)) (between s m n)).0 x in
              let y = and_use g j (from_left f) (to_right h) (here m n k.0) k.1 in
              (k.0, sym (left_is m n k.0 L M f v) ∙ y.0, sym (right_is m n k.0 M R h w) ∙ y.1)
          by_test false e x =
              let k = either_false (reads_side f side.Right) (reads_side h side.Left) e in
              let y = and_use g j f h (between s m n) x in
              (n, y.0, any_left M R h w m n n y.1 k.1)

      -- whatever the memory between is
      module _ (q : Term) (x : IsForm (sides L R) q) where
        pub every_use : IsTrueUnder g j (every_between f h q) (between s m n) → (o : Memory) → IsTrueUnder g j f (between s m o) → IsTrueUnder g j h (between s o n) → IsTrueUnder g j q (between s m n)
        every_use y o p r = by_test (reads_between f h) refl y
          where
            by_test : (t : Bool) → reads_between f h ≡ t →
                IsTrueUnder g j (if t then node head.AllMemory (implies_form (from_left f) (implies_form (to_right h) q) ∷ []) ty.Bool else implies_form f (implies_form h q)) (between s m n) →
                IsTrueUnder g j q (between s m n)
            by_test true e y =
                let z = (true_all_memory g j fair (implies_form (from_left f) (implies_form (to_right h) q)) (between s m n)).0 y o in
                let z = implies_use g j (from_left f) (implies_form (to_right h) q) (here m n o) z (left_is m n o L M f v ∙ p) in
                sym (outer_is m n o L R q x) ∙ implies_use g j (to_right h) q (here m n o) z (right_is m n o M R h w ∙ r)
            by_test false e y =
                let k = either_false (reads_side f side.Right) (reads_side h side.Left) e in
                let z = implies_use g j f (implies_form h q) (between s m n) y (any_right L M f v m o n p k.0) in
                implies_use g j h q (between s m n) z (any_left M R h w o n m r k.1)
