-- What an event says of the own memory, said of a side: typing and meaning.
use Rattle.std.proofs.Common.{◌≡◌, inl, true, [], ◌∷◌, None, refl, ap, ◌∙◌, subst}
use Rattle.std.proofs.lemmas.Bool.{false≢true}
use Rattle.gb_core.specs.declared.ty.Ty.{Ty}
use Rattle.gb_core.specs.declared.var.Var.{Var}
use Rattle.gb_core.specs.declared.var.Var.TheVariants as var
use Rattle.gb_terms.specs.declared.op.Side.{Side}
use Rattle.gb_terms.specs.declared.op.Side.TheVariants as side
use Rattle.gb_terms.specs.declared.op.Read.{Read}
use Rattle.gb_terms.specs.declared.op.Read.TheVariants.{Logical, Program}
use Rattle.gb_terms.specs.declared.term.Term.{Term}
use Rattle.gb_terms.specs.declared.term.Head.TheVariants as head
use Rattle.gb_walk.specs.declared.change.Change.TheVariants.{ToSide}
use Rattle.gb_walk.specs.Change.{Changes, found_for_read, read_changed, side_changed, term_changed}
use Rattle.gb_meaning.specs.Judgments.{Judge, den, speaking}
use Rattle.gb_meaning.specs.Meanings.{truth}
use Rattle.gb_meaning.specs.Memory.{Memory}
use Rattle.gb_meaning.specs.Setting.{Setting}
use Rattle.gb_meaning.specs.State.{State, at, between, memory_of}
use Rattle.gb_laws.specs.Plain.{IsPlain}
use Rattle.gb_laws.specs.Uses.Use.{read as reads, bound, globals, starts, binds_own, binds_sides}
use Rattle.gb_laws.specs.Led.{Led}
use Rattle.gb_laws.proofs.Changing.{plain_followed}
use Rattle.gb_laws.specs.Typing as typed
use Rattle.gb_typing.specs.Changes.{Becomes, IsLeaf, IsMemoryIn, Leads}
use Rattle.gb_typing.specs.Context.{Context, Frame, erased, frame_of, reframed}
use Rattle.gb_typing.specs.Rules.{outermost}
use Rattle.gb_typing.specs.Typing.{IsFrame, IsPlace, IsForm}
use Rattle.gb_typing.proofs.Changed.{changed}
use Rattle.gb_typing.proofs.Every.{leaf_moved, side_of}
use Rattle.gb_typing.proofs.Formed.{formed}
use Rattle.gb_typing.proofs.Uses.{nothing_in, plain_typed, reads_in, unbinding, uses_of}

module _ (b : Context) (F : Frame) where
  -- the own memory, with these locals
  abbrev source : Context
  source = reframed (outermost b) F None None

  module _ (L K : Frame) (r : Side) (there : typed.IsSide (erased (outermost b)) r) (frame : F ≡ frame_of (reframed (outermost b) None L K) r) where
    abbrev target : Context
    target = reframed (outermost b) None L K

    abbrev on : Changes
    on = ToSide side.Own r ∷ []

    reads_on : (q : Read) (t : Ty) → IsLeaf source (head.Read q) t → Becomes true target t q (found_for_read on q) (head.Read (read_changed on q))
    reads_on (Logical i) t w = w
    reads_on (Program x side.Own) t w = leaf_moved source target (λ m x t e. e) (λ a e. e) side.Own r there frame x t w
    reads_on (Program x side.Left) t w = absurd (nothing_in source x t w.1)
    reads_on (Program x side.Right) t w = absurd (nothing_in source x t w.1)
    reads_on (Program x (side.Memory i)) t w = leaf_moved source target (λ m x t e. e) (λ a e. e) (side.Memory i) (side.Memory i) (side_of source x (side.Memory i) t w) refl x t w
    reads_on (Program x (side.Bound i)) t w = absurd (nothing_in source x t w.1)

    sides_on : (o : Side) → IsMemoryIn source o → IsMemoryIn target (side_changed on o)
    sides_on side.Own w = (there, subst IsFrame frame w.1)
    sides_on side.Left w = absurd w.1
    sides_on side.Right w = absurd w.1
    sides_on (side.Memory i) w = w
    sides_on (side.Bound i) w = absurd w.1

    places_on : (o : Side) → IsPlace o → IsPlace (side_changed on o)
    places_on side.Own w = absurd w
    places_on side.Left w = absurd w
    places_on side.Right w = absurd w
    places_on (side.Memory i) w = tt
    places_on (side.Bound i) w = tt

    leads_on : Leads true on source target
    leads_on = record {
      reads = reads_on;
      bounds = λ i t w. absurd w;
      sides = sides_on;
      places = places_on;
      global = λ m x t e. e;
      operator = λ n o e. e;
      procedure = λ p. refl;
      has_globals = λ a e. e;
    }

    pub form_on : (f : Term) → IsPlain f → IsForm source f → IsForm target (term_changed f on)
    form_on f p w = let k = changed true f on source target leads_on (inl p) w.typed in record { typed = k.typed; truth = k.written ∙ w.truth }

  not_in : (x : Var) (t : Ty) → reads_in source None x t ≡ true → ⊥
  not_in (var.Local x) t e = false≢true e
  not_in (var.Global m x) t e = false≢true e
  not_in (var.Glob a) t e = false≢true e

  module _ (r : Side) (g : Setting) (j : Judge) (s : State) (m n : Memory) where
    abbrev here : State
    here = between s m n

    abbrev own : State
    own = at s (memory_of here r)

    led_on : Led g (speaking g j) (ToSide side.Own r ∷ []) (unbinding (uses_of source)) here own
    led_on (reads (Logical i) t) k = refl
    led_on (reads (Program x side.Own) t) k = refl
    led_on (reads (Program x side.Left) t) k = absurd (not_in x t k)
    led_on (reads (Program x side.Right) t) k = absurd (not_in x t k)
    led_on (reads (Program x (side.Memory i)) t) k = refl
    led_on (reads (Program x (side.Bound i)) t) k = absurd (not_in x t k)
    led_on (bound i) k = absurd (false≢true k)
    led_on (globals x o) k = absurd (false≢true k)
    led_on (starts side.Own) k = absurd (false≢true k)
    led_on (starts side.Left) k = absurd (false≢true k)
    led_on (starts side.Right) k = absurd (false≢true k)
    led_on (starts (side.Memory i)) k = refl
    led_on (starts (side.Bound i)) k = absurd (false≢true k)
    led_on binds_own k = absurd (false≢true k)
    led_on binds_sides k = absurd (false≢true k)

    -- it says there what it says of that memory as the own one
    pub means_on : (f : Term) → IsPlain f → IsForm source f → den g j (term_changed f (ToSide side.Own r ∷ [])) here ≡ den g j f own
    means_on f p w =
        ap truth (plain_followed g (speaking g j) f (formed source f w.typed) p (ToSide side.Own r ∷ []) (unbinding (uses_of source)) here own (tt, tt) led_on (plain_typed source f p w.typed))
