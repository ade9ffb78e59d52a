-- Terms in place of variables where a value is bound: typing and meaning.
use Rattle.std.proofs.Common.{◌≡◌, inr, true, List, [], ◌∷◌, None, refl, ap, ◌∙◌, subst}
use Rattle.std.proofs.lemmas.Bool.{false≢true}
use Rattle.std.specs.List.{AllByRecursion}
use Rattle.gb_core.specs.declared.ty.Ty.{Ty}
use Rattle.gb_core.specs.declared.var.Var.{Var}
use Rattle.gb_core.specs.declared.var.Var.TheVariants as var
use Rattle.gb_core.specs.declared.value.Value.{Value}
use Rattle.gb_terms.specs.declared.op.Side.{Side}
use Rattle.gb_terms.specs.declared.op.Side.TheVariants as side
use Rattle.gb_terms.specs.declared.op.Read.{Read}
use Rattle.gb_terms.specs.declared.op.Read.TheVariants.{Logical, Program}
use Rattle.gb_terms.specs.declared.term.Term.{Term}
use Rattle.gb_terms.specs.declared.term.Head.TheVariants as head
use Rattle.gb_walk.specs.Change.{term_changed}
use Rattle.gb_meaning.specs.Values.{has}
use Rattle.gb_meaning.specs.Memory.{write}
use Rattle.gb_meaning.specs.Setting.{Setting}
use Rattle.gb_meaning.specs.Setting.Meaning.{finite}
use Rattle.gb_meaning.specs.State.{State, Binding, under, memory_of}
use Rattle.gb_meaning.specs.State.Binding.{value as value_bound}
use Rattle.gb_meaning.specs.Terms.{val}
use Rattle.gb_meaning.specs.Judgments.{Judge, IsFair, speaking}
use Rattle.gb_meaning.specs.Written.{type_of}
use Rattle.gb_laws.specs.Agree.{Agree}
use Rattle.gb_laws.specs.Uses.{Uses, IsWithin}
use Rattle.gb_laws.specs.Uses.Use.{read as reads, bound, globals, starts, binds_own, binds_sides}
use Rattle.gb_laws.specs.Written.{with_side, IsSide, Written, written_changes, all_written}
use Rattle.gb_laws.proofs.Agreeing.{form_agrees}
use Rattle.gb_laws.proofs.Forms.{form_followed}
use Rattle.gb_laws.specs.Context.{FitBinders}
use Rattle.gb_laws.specs.Typing.{Binder}
use Rattle.gb_laws.specs.Typing.Binder.{value}
use Rattle.gb_laws.specs.Typing as typed
use Rattle.gb_typing.specs.Context.{Context, Frame, erased, frame_of, reframed, within}
use Rattle.gb_typing.specs.Typing.{IsFrame, IsIn, IsPlace, IsNamed, IsTyped}
use Rattle.gb_typing.specs.Fits.{IsSettingOf, IsStateOf}
use Rattle.gb_typing.specs.Puts.{IsTypedPut, Readable, reading, IsTypedWrite}
use Rattle.gb_typing.specs.Changes.{IsLeaf, Leads, Made}
use Rattle.gb_typing.proofs.Both.{both, within_both}
use Rattle.gb_typing.proofs.Formed.{formed}
use Rattle.gb_typing.proofs.Puts.{leads_written, stays_written}
use Rattle.gb_typing.proofs.Changed.{changed}
use Rattle.gb_typing.proofs.Sound.{procedures_sound, sound_form}
use Rattle.gb_typing.proofs.Substituted.{puts, all_typed_written}
use Rattle.gb_typing.proofs.Uses.{Admits, admits_uses, term_within, nothing_in, reads_in, uses_of, uses_typed}
use Rattle.gb_typing.proofs.Writing.{led_all_written}
use Rattle.gb_typing.specs.Rules.{outermost}
use Rattle.gb_typing.proofs.Every.{leaf_moved, side_of}

-- Several binders around.

module _ (b : Context) (F L K : Frame) (bs : List Binder) (fs : List Frame) where
  -- no binder is around, and these
  abbrev pub outside : Context
  outside = reframed (outermost b) F L K

  abbrev pub inside_all : Context
  inside_all = record outside { bound = bs; frames = fs }

  same_frame : (r : Side) → typed.IsSide (erased outside) r → frame_of outside r ≡ frame_of inside_all r
  same_frame side.Own w = refl
  same_frame side.Left w = refl
  same_frame side.Right w = refl
  same_frame (side.Memory n) w = refl
  same_frame (side.Bound n) w = absurd w

  same_side : (r : Side) → typed.IsSide (erased outside) r → typed.IsSide (erased inside_all) r
  same_side side.Own w = tt
  same_side side.Left w = tt
  same_side side.Right w = tt
  same_side (side.Memory n) w = w
  same_side (side.Bound n) w = absurd w

  leaf_inner : (q : Read) (t : Ty) → IsLeaf outside (head.Read q) t → IsLeaf inside_all (head.Read q) t
  leaf_inner (Logical n) t w = w
  leaf_inner (Program x r) t w =
      let i = side_of outside x r t w in
      leaf_moved outside inside_all (λ m x t e. e) (λ a e. e) r r (same_side r i) (same_frame r i) x t w

  leads_inner : (ws : List Written) → AllByRecursion (IsTypedPut inside_all) ws → Leads true (written_changes ws) outside inside_all
  leads_inner ws h =
      let l : Leads true (written_changes ws) inside_all inside_all = leads_written inside_all ws h in
      record {
        reads = λ q t w. l.reads q t (leaf_inner q t w);
        bounds = λ n t w. absurd w;
        sides = λ r w. l.sides r (same_side r w.0, subst IsFrame (same_frame r w.0) w.1);
        places = l.places;
        global = λ m x t e. e;
        operator = λ n o e. e;
        procedure = λ p. refl;
        has_globals = λ a e. e;
      }

  -- with typed terms in place of variables the form is well typed where the values are bound
  pub typed_inside : (f : Term) → IsTyped outside f → (ws : List Written) → AllByRecursion (IsTypedPut inside_all) ws → Made inside_all (type_of f) (term_changed f (written_changes ws))
  typed_inside f w ws h = changed true f (written_changes ws) outside inside_all (leads_inner ws h) (inr (stays_written ws, refl)) w

  in_inner : (f : Frame) (x : Var) (t : Ty) → IsIn outside f x t → IsIn inside_all f x t
  in_inner f (var.Local x) t w = w
  in_inner f (var.Global m x) t w = w
  in_inner f (var.Glob a) t w = w

  admits : Admits true (uses_of inside_all) inside_all
  admits = admits_uses inside_all

  read_inner : (q : Read) (t : Ty) → IsNamed outside (head.Read q) t → uses_of inside_all (reads q t) ≡ true
  read_inner (Logical n) t w = refl
  read_inner (Program x side.Own) t w = admits.reads (Program x side.Own) t (in_inner (frame_of outside side.Own) x t w)
  read_inner (Program x side.Left) t w = admits.reads (Program x side.Left) t (in_inner (frame_of outside side.Left) x t w)
  read_inner (Program x side.Right) t w = admits.reads (Program x side.Right) t (in_inner (frame_of outside side.Right) x t w)
  read_inner (Program x (side.Memory n)) t w = admits.reads (Program x (side.Memory n)) t (in_inner (frame_of outside (side.Memory n)) x t w)
  read_inner (Program x (side.Bound n)) t w = absurd (nothing_in outside x t w)

  place_inner : (r : Side) → IsFrame (frame_of outside r) → IsPlace r → uses_of inside_all (starts r) ≡ true
  place_inner (side.Memory n) w p = admits.places (side.Memory n) w p
  place_inner (side.Bound n) w p = absurd w
  place_inner side.Own w p = absurd p
  place_inner side.Left w p = absurd p
  place_inner side.Right w p = absurd p

  admits_inner : Admits true (uses_of inside_all) outside
  admits_inner = record { reads = read_inner; bounds = λ n t w. absurd w; places = place_inner; own = admits.own; sides = admits.sides }

  not_in : (x : Var) (t : Ty) → reads_in outside None x t ≡ true → ⊥
  not_in (var.Local x) t e = false≢true e
  not_in (var.Global m x) t e = false≢true e
  not_in (var.Glob a) t e = false≢true e

  module _ (g : Setting) (fits : IsSettingOf outside g) (s : State) (fit : IsStateOf outside g s) (xs : List Binding) (typed : FitBinders g.types bs xs) where
    abbrev pub here_inside : State
    here_inside = record s { bound = xs }

    pub state_inside : IsStateOf inside_all g here_inside
    state_inside = record { logical = fit.logical; bound = typed }

    fits_inside : IsSettingOf inside_all g
    fits_inside = record {
      types = record { inhabited = fits.types.inhabited; operators = fits.types.operators; distributions = fits.types.distributions };
      once = fits.once;
      procedures = fits.procedures;
    }

    -- the writes and the bindings don't see each other
    all_under : (ws : List Written) → AllByRecursion (λ w. IsSide w.side) ws → all_written g here_inside ws ≡ record (all_written g s ws) { bound = xs }
    all_under [] h = refl
    all_under (w ∷ ws) h = ap (λ q. with_side q w.side (write g.types (memory_of q w.side) w.variable w.value)) (all_under ws h.1) ∙ step w.side h.0 (all_written g s ws)
      where
        step : (r : Side) → IsSide r → (q : State) →
            with_side (record q { bound = xs }) r (write g.types (memory_of (record q { bound = xs }) r) w.variable w.value) ≡ record (with_side q r (write g.types (memory_of q r) w.variable w.value)) { bound = xs }
        step side.Own i q = refl
        step side.Left i q = refl
        step side.Right i q = refl
        step (side.Memory n) i q = absurd i
        step (side.Bound n) i q = absurd i

    agree : (q : State) → Agree g (uses_of outside) (record q { bound = xs }) q
    agree q (reads (Logical n) t) k = refl
    agree q (reads (Program x side.Own) t) k = refl
    agree q (reads (Program x side.Left) t) k = refl
    agree q (reads (Program x side.Right) t) k = refl
    agree q (reads (Program x (side.Memory n)) t) k = refl
    agree q (reads (Program x (side.Bound n)) t) k = absurd (not_in x t k)
    agree q (bound n) k = absurd (false≢true k)
    agree q (globals x r) k = absurd (false≢true k)
    agree q (starts side.Own) k = absurd (false≢true k)
    agree q (starts side.Left) k = absurd (false≢true k)
    agree q (starts side.Right) k = absurd (false≢true k)
    agree q (starts (side.Memory n)) k = refl
    agree q (starts (side.Bound n)) k = absurd (false≢true k)
    agree q binds_own k = tt
    agree q binds_sides k = tt

    each_side : (P : Readable) (ws : List Written) → AllByRecursion (IsTypedWrite P inside_all g here_inside) ws → AllByRecursion (λ w. IsSide w.side) ws
    each_side P [] h = tt
    each_side P (w ∷ ws) h = (h.0.put.side, each_side P ws h.1)

    -- it says there what the form says after the writes
    pub meaning_inside : (j : Judge) → IsFair g j → (P : Readable) (f : Term) → IsTyped outside f → IsWithin (reading P) f → (ws : List Written) → AllByRecursion (IsTypedWrite P inside_all g here_inside) ws →
        val g (speaking g j) (term_changed f (written_changes ws)) here_inside ≡ val g (speaking g j) f (all_written g s ws)
    meaning_inside j fair P f w k ws h =
        let good = formed outside f w in
        let sound = sound_form g outside (procedures_sound outside g fits) f w in
        let used : Uses = both (uses_of inside_all) (reading P) in
        form_followed g j fair f good sound (written_changes ws) used here_inside (all_written g here_inside ws)
        (puts inside_all g fits_inside P here_inside ws h)
        (led_all_written g (speaking g j) used here_inside ws (all_typed_written inside_all g fits_inside P (speaking g j) here_inside state_inside ws h))
        (within_both (uses_of inside_all) (reading P) f (term_within true (uses_of inside_all) outside admits_inner f (inr refl) w) k)
        ∙ ap (val g (speaking g j) f) (all_under ws (each_side P ws h))
        ∙ form_agrees g j fair f good sound (uses_of outside) (record (all_written g s ws) { bound = xs }) (all_written g s ws) (agree (all_written g s ws)) (uses_typed outside f w)

-- One binder.

module _ (b : Context) (F L K : Frame) (u : Ty) where
  abbrev pub d : Context
  d = reframed (outermost b) F L K

  abbrev pub inner : Context
  inner = within d (value u) None

  -- with typed terms in place of variables the form is well typed where the value is bound
  pub inner_typed : (f : Term) → IsTyped d f → (ws : List Written) → AllByRecursion (IsTypedPut inner) ws → Made inner (type_of f) (term_changed f (written_changes ws))
  inner_typed = typed_inside b F L K (value u ∷ []) (None ∷ [])

  -- it says there what the form says after the writes
  pub inner_meaning : (g : Setting) → IsSettingOf d g → (s : State) → IsStateOf d g s → (v : Value) → has g.types u v ≡ true → (j : Judge) → IsFair g j → (P : Readable) (f : Term) →
      IsTyped d f → IsWithin (reading P) f → (ws : List Written) → AllByRecursion (IsTypedWrite P inner g (under s (value_bound (finite v)))) ws →
      val g (speaking g j) (term_changed f (written_changes ws)) (under s (value_bound (finite v))) ≡ val g (speaking g j) f (all_written g s ws)
  inner_meaning g fits s fit v typed = meaning_inside b F L K (value u ∷ []) (None ∷ []) g fits s fit (value_bound (finite v) ∷ s.bound) (typed, tt)
