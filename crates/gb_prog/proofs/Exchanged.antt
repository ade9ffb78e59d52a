-- A form with its sides exchanged: typing and meaning.
use Rattle.std.proofs.Common.{◌≡◌, inr, true, false, None, refl, ap, sym, ◌∙◌, subst}
use Rattle.std.proofs.lemmas.Bool.{false≢true}
use Rattle.gb_core.specs.declared.ty.Ty.{Ty}
use Rattle.gb_core.specs.declared.var.Var.{Var}
use Rattle.gb_core.specs.declared.var.Var.TheVariants as var
use Rattle.gb_terms.specs.declared.op.Side.{Side}
use Rattle.gb_terms.specs.declared.op.Side.TheVariants as side
use Rattle.gb_terms.specs.declared.op.Read.{Read}
use Rattle.gb_terms.specs.declared.op.Read.TheVariants.{Logical, Program}
use Rattle.gb_terms.specs.declared.term.Term.{Term}
use Rattle.gb_terms.specs.declared.term.Head.TheVariants as head
use Rattle.gb_walk.specs.Change.{is_own, is_left_or_right, found_for_read, read_changed, side_changed}
use Rattle.gb_meaning.specs.Memory.{Memory}
use Rattle.gb_meaning.specs.Setting.{Setting}
use Rattle.gb_meaning.specs.Meanings.{truth}
use Rattle.gb_meaning.specs.State.{State, between}
use Rattle.gb_meaning.specs.Terms.{Speaks}
use Rattle.gb_meaning.specs.Judgments.{Judge, IsFair, speaking, den}
use Rattle.gb_laws.specs.Uses.Use.{read as reads, bound, globals, starts, binds_own, binds_sides}
use Rattle.gb_laws.specs.Led.{Led}
use Rattle.gb_laws.proofs.Forms.{form_followed}
use Rattle.gb_laws.specs.Typing as typed
use Rattle.gb_typing.specs.Context.{Context, Frame, erased, frame_of, reframed, with_sides}
use Rattle.gb_typing.specs.Typing.{IsFrame, IsPlace, IsForm}
use Rattle.gb_typing.specs.Fits.{IsSettingOf}
use Rattle.gb_typing.specs.Changes.{IsLeaf, Becomes, Leads, Stays}
use Rattle.gb_typing.proofs.Fitting.{fits_reframed}
use Rattle.gb_typing.proofs.Formed.{formed}
use Rattle.gb_typing.proofs.Changed.{changed}
use Rattle.gb_typing.proofs.Sound.{procedures_sound, sound_form}
use Rattle.gb_typing.proofs.Uses.{reads_in, uses_of, uses_typed}
use Rattle.gb_typing.specs.Rules.{outermost}
use Rattle.gb_typing.proofs.Every.{leaf_moved, side_of}
use Rattle.gb_prog.specs.Exchanged.{exchanging, exchanged}

stays_exchanging : Stays exchanging
stays_exchanging = record { own = own; sides = sides }
  where
    own : (r : Side) → is_own r ≡ false → is_own (side_changed exchanging r) ≡ false
    own side.Own e = e
    own side.Left e = refl
    own side.Right e = refl
    own (side.Memory i) e = refl
    own (side.Bound i) e = refl

    sides : (r : Side) → is_left_or_right r ≡ false → is_left_or_right (side_changed exchanging r) ≡ false
    sides side.Own e = refl
    sides side.Left e = e
    sides side.Right e = e
    sides (side.Memory i) e = refl
    sides (side.Bound i) e = refl

module _ (b : Context) (K F G : Frame) where
  abbrev d : Context
  d = reframed (outermost b) K F G

  abbrev other : Context
  other = reframed (outermost b) K G F

  side_there : (s : Side) → typed.IsSide (erased d) s → typed.IsSide (erased other) (side_changed exchanging s)
  side_there side.Own w = tt
  side_there side.Left w = tt
  side_there side.Right w = tt
  side_there (side.Memory n) w = w
  side_there (side.Bound n) w = absurd w

  frame_there : (s : Side) → typed.IsSide (erased d) s → frame_of d s ≡ frame_of other (side_changed exchanging s)
  frame_there side.Own w = refl
  frame_there side.Left w = refl
  frame_there side.Right w = refl
  frame_there (side.Memory n) w = refl
  frame_there (side.Bound n) w = absurd w

  reads_there : (q : Read) (t : Ty) → IsLeaf d (head.Read q) t → Becomes true other t q (found_for_read exchanging q) (head.Read (read_changed exchanging q))
  reads_there (Logical n) t w = w
  reads_there (Program x s) t w =
      let u = side_of d x s t w in
      leaf_moved d other (λ m x t e. e) (λ a e. e) s (side_changed exchanging s) (side_there s u) (frame_there s u) x t w

  places_there : (s : Side) → IsPlace s → IsPlace (side_changed exchanging s)
  places_there side.Own w = absurd w
  places_there side.Left w = absurd w
  places_there side.Right w = absurd w
  places_there (side.Memory n) w = tt
  places_there (side.Bound n) w = tt

  leads_there : Leads true exchanging d other
  leads_there = record {
    reads = reads_there;
    bounds = λ n t w. absurd w;
    sides = λ s w. (side_there s w.0, subst IsFrame (frame_there s w.0) w.1);
    places = places_there;
    global = λ m x t e. e;
    operator = λ n o e. e;
    procedure = λ p. refl;
    has_globals = λ a e. e;
  }

  exchanged_there : (f : Term) → IsForm d f → IsForm other (exchanged f)
  exchanged_there f w =
      let m = changed true f exchanging d other leads_there (inr (stays_exchanging, refl)) w.typed in
      record { typed = m.typed; truth = m.written ∙ w.truth }

  not_in : (x : Var) (t : Ty) → reads_in d None x t ≡ true → ⊥
  not_in (var.Local x) t e = false≢true e
  not_in (var.Global m x) t e = false≢true e
  not_in (var.Glob a) t e = false≢true e

  led_there : (g : Setting) (j : Speaks) (s : State) (m n : Memory) → Led g j exchanging (uses_of d) (between s m n) (between s n m)
  led_there g j s m n (reads (Logical i) t) k = refl
  led_there g j s m n (reads (Program x side.Own) t) k = refl
  led_there g j s m n (reads (Program x side.Left) t) k = refl
  led_there g j s m n (reads (Program x side.Right) t) k = refl
  led_there g j s m n (reads (Program x (side.Memory i)) t) k = refl
  led_there g j s m n (reads (Program x (side.Bound i)) t) k = absurd (not_in x t k)
  led_there g j s m n (bound i) k = absurd (false≢true k)
  led_there g j s m n (globals x r) k = absurd (false≢true k)
  led_there g j s m n (starts side.Own) k = absurd (false≢true k)
  led_there g j s m n (starts side.Left) k = absurd (false≢true k)
  led_there g j s m n (starts side.Right) k = absurd (false≢true k)
  led_there g j s m n (starts (side.Memory i)) k = refl
  led_there g j s m n (starts (side.Bound i)) k = absurd (false≢true k)
  led_there g j s m n binds_own k = ((λ e. refl), ((λ e. refl), tt))
  led_there g j s m n binds_sides k = ((λ e. absurd (false≢true (sym e))), ((λ e. absurd (false≢true (sym e))), tt))

  exchanged_means : (g : Setting) → IsSettingOf d g → (j : Judge) → IsFair g j → (f : Term) → IsForm d f → (s : State) (m n : Memory) → den g j (exchanged f) (between s m n) ≡ den g j f (between s n m)
  exchanged_means g fits j fair f w s m n =
      ap truth (form_followed g j fair f (formed d f w.typed) (sound_form g d (procedures_sound d g fits) f w.typed) exchanging (uses_of d) (between s m n) (between s n m) (tt, (tt, tt))
      (led_there g (speaking g j) s m n) (uses_typed d f w.typed))

module _ (c : Context) (outer : c ≡ outermost c) (F G : Frame) (f : Term) (w : IsForm (with_sides c F G) f) where
  here : IsForm (with_sides (outermost c) F G) f
  here = subst (λ c. IsForm (with_sides c F G) f) outer w

  pub exchanged_typed : IsForm (with_sides c G F) (exchanged f)
  exchanged_typed = subst (λ c. IsForm (with_sides c G F) (exchanged f)) (sym outer) (exchanged_there c None F G f here)

  pub exchanged_meaning : (g : Setting) → IsSettingOf c g → (j : Judge) → IsFair g j → (s : State) (m n : Memory) → den g j (exchanged f) (between s m n) ≡ den g j f (between s n m)
  exchanged_meaning g fits j fair s m n =
      exchanged_means c None F G g (fits_reframed (outermost c) g (subst (λ c. IsSettingOf c g) outer fits) None F G) j fair f here s m n
