-- What a form says of the last memory of the context, whichever it is, it says with a leading `forall` for it.
use Rattle.std.proofs.Common.{◌≡◌, ℕ, zero, suc, ◌==◌, ◌<◌, Bool, true, false, if◌then◌else◌, List, [], ◌∷◌, ◌++◌, length, get_or, Some, None, refl, ap, sym, ◌∙◌, arith}
use Rattle.std.proofs.lemmas.Bool.{false≢true}
use Rattle.std.proofs.lemmas.Bool.Decides.{Decides-eqb}
use Rattle.std.proofs.lemmas.List.{get_or_at, get_or_append_left, length-append}
use Rattle.gb_core.specs.declared.ty.Ty.{Ty}
use Rattle.gb_core.specs.declared.ty.Ty.TheVariants as ty
use Rattle.gb_core.specs.declared.value.Value.{Value}
use Rattle.gb_core.specs.declared.var.Var.{Var}
use Rattle.gb_terms.specs.declared.decl.TypedName.{TypedName}
use Rattle.gb_terms.specs.declared.op.Read.TheVariants.{Logical, Program}
use Rattle.gb_terms.specs.declared.op.Side.{Side}
use Rattle.gb_terms.specs.declared.op.Side.TheVariants as side
use Rattle.gb_terms.specs.declared.term.Term.{Term}
use Rattle.gb_terms.specs.declared.term.Head.TheVariants as head
use Rattle.gb_terms.specs.Equal.{side_eq}
use Rattle.gb_walk.specs.declared.change.Change.TheVariants.{ToSide}
use Rattle.gb_walk.specs.Change.{Changes, is_own, is_left_or_right, side_changed, term_changed}
use Rattle.gb_meaning.specs.Meanings.{truth}
use Rattle.gb_meaning.specs.Memory.{Memory, read}
use Rattle.gb_meaning.specs.Setting.{Setting}
use Rattle.gb_meaning.specs.Setting.Meaning.{finite}
use Rattle.gb_meaning.specs.State.{State, memory_of, no_memory, under}
use Rattle.gb_meaning.specs.State.Binding.{memory as memory_bound}
use Rattle.gb_meaning.specs.Terms.{Speaks, val}
use Rattle.gb_meaning.specs.Judgments.{Judge, IsFair, speaking, den}
use Rattle.gb_laws.specs.Led.{Led}
use Rattle.gb_laws.specs.Uses.Use.{read as reads, bound, globals, starts, binds_own, binds_sides}
use Rattle.gb_laws.proofs.Forms.{form_followed}
use Rattle.gb_meaning.proofs.Truths.{true_all_memory}
use Rattle.gb_meaning.specs.Holds.{context}
use Rattle.gb_laws.specs.Operators.{item}
use Rattle.gb_laws.specs.Typing as typed
use Rattle.gb_laws.specs.Typing.Binder.{memory}
use Rattle.gb_typing.specs.Context.{Context, Frame, erased, frame_of, within}
use Rattle.gb_typing.specs.Typing.{IsPlace, IsForm}
use Rattle.gb_typing.specs.Fits.{IsSettingOf}
use Rattle.gb_typing.proofs.Formed.{formed}
use Rattle.gb_typing.proofs.Forms.{form_made, made_form}
use Rattle.gb_typing.proofs.Made.{made_node}
use Rattle.gb_typing.proofs.Sound.{procedures_sound, sound_form}
use Rattle.gb_typing.proofs.Uses.{is_frame, reads_in, uses_of, uses_typed}
use Rattle.gb_amb.proofs.States.{memory_at, memory_before, memory_here, not_in}
use Rattle.gb_amb.proofs.Wider.{Moves, form_moved, small}
use Rattle.gb_amb.specs.Lemmas.{for_each_memory}

-- The last memory of a context becomes one that is bound.
module _ (b : Context) (us : List Ty) (ns : List Frame) (ls : List TypedName) where
  abbrev wide : Context
  wide = small b us (ns ++ Some ls ∷ [])

  abbrev behind : Context
  behind = within (small b us ns) memory (Some ls)

  abbrev to_bound : Changes
  to_bound = ToSide (side.Memory (length ns)) (side.Bound 0) ∷ []

  -- the memory of this number is the last one, or one before it
  before_last : (i : ℕ) → (length ns == i) ≡ false → i < length (ns ++ Some ls ∷ []) → i < length ns
  before_last i e w = let n : length ns ≡ i → ⊥ = λ k. false≢true (sym e ∙ (Decides-eqb (length ns) i).1 k) in omega (arith, w, n, length-append ns (Some ls ∷ []))

  bound_sides : (r : Side) → typed.IsSide (erased wide) r → typed.IsSide (erased behind) (side_changed to_bound r) × (frame_of wide r ≡ frame_of behind (side_changed to_bound r))
  bound_sides side.Own w = (tt, refl)
  bound_sides side.Left w = (tt, refl)
  bound_sides side.Right w = (tt, refl)
  bound_sides (side.Memory i) w = by_test (length ns == i) refl
    where
      by_test : (t : Bool) → (length ns == i) ≡ t →
          typed.IsSide (erased behind) (if t then side.Bound 0 else side.Memory i) × (frame_of wide (side.Memory i) ≡ frame_of behind (if t then side.Bound 0 else side.Memory i))
      by_test true e = (tt, get_or_at ns (Some ls) [] None i ((Decides-eqb (length ns) i).0 e))
      by_test false e = let k = before_last i e w in (k, get_or_append_left ns (Some ls ∷ []) None i k)
  bound_sides (side.Bound i) w = absurd w

  -- a memory stays, or the last one becomes the bound one
  bound_led : (P : Side → Type 0) (r : Side) → P r → P (side.Bound 0) → P (side_changed to_bound r)
  bound_led P r x y = by_test (side_eq (side.Memory (length ns)) r)
    where
      by_test : (t : Bool) → P (if t then side.Bound 0 else r)
      by_test true = y
      by_test false = x

  moves_bound : Moves b to_bound (λ i. item us i) (λ i. item us i) (ns ++ Some ls ∷ []) ns [] (memory ∷ []) [] (Some ls ∷ [])
  moves_bound = record {
    logical = λ i t e. e;
    unfound = λ r. refl;
    sides = bound_sides;
    bounds = λ i t w. absurd w;
    places = λ r w. bound_led IsPlace r w tt;
    stays = record { own = λ r e. bound_led (λ s. is_own s ≡ false) r e refl; sides = λ r e. bound_led (λ s. is_left_or_right s ≡ false) r e refl };
  }

  pub memory_typed : (f : Term) → IsForm wide f → IsForm (small b us ns) (for_each_memory (length ns) f)
  memory_typed f w =
      let body = form_moved b to_bound _ _ (ns ++ Some ls ∷ []) ns [] (memory ∷ []) [] (Some ls ∷ []) moves_bound f w in
      form_made (small b us ns) _
      (made_node (small b us ns) head.AllMemory (ty.Bool ∷ []) (term_changed f to_bound ∷ []) ty.Bool (refl, (refl, tt)) tt ls (made_form behind (term_changed f to_bound) body))

  module _ (g : Setting) (fits : IsSettingOf (small b us ns) g) (j : Judge) (fair : IsFair g j) where
    abbrev speaks : Speaks
    speaks = speaking g j

    fits_wide : IsSettingOf wide g
    fits_wide = record { types = record { inhabited = fits.types.inhabited; operators = fits.types.operators; distributions = fits.types.distributions }; once = fits.once; procedures = fits.procedures }

    module _ (vs : List Value) (ms : List Memory) (m : Memory) where
      abbrev below : State
      below = under (context vs ms) (memory_bound m)

      abbrev more : State
      more = context vs (memory_at (length ns) m ms)

      frame_read : (f : Frame) (x : Var) (t : Ty) → reads_in wide f x t ≡ true → is_frame f ≡ true
      frame_read (Some ks) x t e = refl
      frame_read None x t e = absurd (not_in wide x t e)

      in_range : (xs : List Frame) (i : ℕ) → is_frame (get_or xs i None) ≡ true → i < length xs
      in_range [] i e = absurd (false≢true e)
      in_range (x ∷ xs) zero e = omega arith
      in_range (x ∷ xs) (suc i) e = let k = in_range xs i e in omega (arith, k)

      same_memory : (i : ℕ) → is_frame (get_or (ns ++ Some ls ∷ []) i None) ≡ true → memory_of below (side_changed to_bound (side.Memory i)) ≡ more.named i
      same_memory i k = by_test (length ns == i) refl
        where
          by_test : (t : Bool) → (length ns == i) ≡ t → memory_of below (if t then side.Bound 0 else side.Memory i) ≡ more.named i
          by_test true e = sym (ap (λ n. get_or (memory_at (length ns) m ms) n no_memory) (sym ((Decides-eqb (length ns) i).0 e)) ∙ memory_here (length ns) m ms)
          by_test false e = sym (memory_before (length ns) m ms i (before_last i e (in_range (ns ++ Some ls ∷ []) i k)))

      led : Led g speaks to_bound (uses_of wide) below more
      led (reads (Logical i) t) k = refl
      led (reads (Program x side.Own) t) k = refl
      led (reads (Program x side.Left) t) k = refl
      led (reads (Program x side.Right) t) k = refl
      led (reads (Program x (side.Memory i)) t) k = ap (λ y. finite (read g.types y x t)) (same_memory i (frame_read (get_or (ns ++ Some ls ∷ []) i None) x t k))
      led (reads (Program x (side.Bound i)) t) k = absurd (not_in wide x t k)
      led (bound i) k = absurd (false≢true k)
      led (globals x r) k = absurd (false≢true k)
      led (starts side.Own) k = absurd (false≢true k)
      led (starts side.Left) k = absurd (false≢true k)
      led (starts side.Right) k = absurd (false≢true k)
      led (starts (side.Memory i)) k = same_memory i k
      led (starts (side.Bound i)) k = absurd (false≢true k)
      led binds_own k = ((λ h. refl), tt)
      led binds_sides k = ((λ h. refl), tt)

      memory_means : (f : Term) → IsForm wide f → val g speaks (term_changed f to_bound) below ≡ val g speaks f more
      memory_means f w =
          form_followed g j fair f (formed wide f w.typed) (sound_form g wide (procedures_sound wide g fits_wide) f w.typed) to_bound (uses_of wide) below more (tt, tt) led (uses_typed wide f w.typed)

    pub memory_true : (f : Term) → IsForm wide f → (vs : List Value) → ((ms : List Memory) → den g j f (context vs ms) ≡ true) → (ms : List Memory) →
        den g j (for_each_memory (length ns) f) (context vs ms) ≡ true
    memory_true f w vs h ms = (true_all_memory g j fair (term_changed f to_bound) (context vs ms)).1 (λ m. ap truth (memory_means vs ms m f w) ∙ h (memory_at (length ns) m ms))
