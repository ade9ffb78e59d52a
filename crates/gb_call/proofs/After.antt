-- What is said before a call of what is to hold after it: typing and meaning, in one memory.
use Rattle.std.proofs.Common.{◌≡◌, ◌<◌, ◌⊎◌, ℕ, inl, inr, ◌&&◌, Bool, true, false, if◌then◌else◌, List, [], ◌∷◌, ◌++◌, length, get_or, Some, None, refl, ap, sym, ◌∙◌, subst}
use Rattle.std.proofs.lemmas.Bool.{false≢true, and_parts}
use Rattle.std.proofs.lemmas.List.{map-append}
use Rattle.std.proofs.lemmas.Slice.Eq.{bytes_eq-Decides}
use Rattle.std.specs.Prelude.{bytes_eq}
use Rattle.std.specs.List.{AllByRecursion}
use Rattle.gb_core.specs.declared.ty.Ty.{Ty}
use Rattle.gb_core.specs.declared.value.Value.{Value}
use Rattle.gb_core.specs.declared.value.Value.TheVariants.{Num}
use Rattle.gb_core.specs.declared.var.Var.{Var}
use Rattle.gb_core.specs.declared.var.Var.TheVariants as var
use Rattle.gb_terms.specs.declared.decl.TypedName.{TypedName}
use Rattle.gb_terms.specs.declared.op.Rel.{Rel}
use Rattle.gb_terms.specs.declared.op.Side.TheVariants as side
use Rattle.gb_terms.specs.declared.op.Read.TheVariants.{Logical, Program}
use Rattle.gb_terms.specs.declared.term.Term.{Term}
use Rattle.gb_terms.specs.Equal.{var_eq}
use Rattle.gb_terms.proofs.Equality.{var_eq-Decides}
use Rattle.gb_walk.specs.declared.change.Change.TheVariants.{ToTerm}
use Rattle.gb_walk.specs.Change.{Changes, or_later, term_changed, found_for_read}
use Rattle.gb_walk.specs.Clash.{variables_read}
use Rattle.gb_meaning.specs.Memory.{Memory, read, write, result_name}
use Rattle.gb_meaning.specs.Meanings.{truth}
use Rattle.gb_meaning.specs.Names.{Name}
use Rattle.gb_meaning.specs.Setting.{Setting}
use Rattle.gb_meaning.specs.Setting.Meaning.{finite}
use Rattle.gb_meaning.specs.State.{State, at, memory_of}
use Rattle.gb_meaning.specs.Judgments.{Judge, IsFair, den}
use Rattle.gb_meaning.specs.Written.{local_type}
use Rattle.gb_terms.specs.declared.term.Head.TheVariants as head
use Rattle.gb_laws.specs.Agree.{Agree}
use Rattle.gb_laws.specs.Uses.{Uses, IsWithin}
use Rattle.gb_laws.specs.Uses.Use.{read as reads, bound, globals, starts, binds_own, binds_sides}
use Rattle.gb_laws.specs.Written.{Written, with_side, written_changes, all_written}
use Rattle.gb_laws.proofs.Agreeing.{form_agrees}
use Rattle.gb_laws.specs.Finite.{IsFinite}
use Rattle.gb_laws.specs.Programs.{Take}
use Rattle.gb_laws.specs.Typing.{Binder, IsBoundAt}
use Rattle.gb_laws.specs.Typing.Binder.{value, program as module_binder}
use Rattle.gb_typing.specs.Changes.{Made}
use Rattle.gb_typing.specs.Context.{Context, Frame, erased, reframed}
use Rattle.gb_typing.specs.Fits.{IsSettingOf}
use Rattle.gb_typing.specs.Puts.{IsTypedPut, Readable, reading}
use Rattle.gb_typing.specs.Typing.{IsIn, IsForm}
use Rattle.gb_typing.proofs.Both.{both, within_both}
use Rattle.gb_typing.proofs.Formed.{formed}
use Rattle.gb_typing.proofs.Made.{made_node}
use Rattle.gb_typing.proofs.Scripts.{none_some, same_some}
use Rattle.gb_typing.proofs.Sound.{procedures_sound, sound_form}
use Rattle.gb_typing.proofs.Substituted.{finite_no_distribution}
use Rattle.gb_typing.proofs.Uses.{reads_found, reads_in, uses_of, uses_typed}
use Rattle.gb_typing.specs.Rules.{outermost}
use Rattle.gb_typing.proofs.Narrowed.{own_typed}
use Rattle.gb_typing.proofs.Quantified.{inside_all, typed_inside}
use Rattle.gb_typing.proofs.Spared.{Clear}
use Rattle.gb_prog.specs.AllValues.{Located, in_memory, for_all, to_bound_values, AreLocated}
use Rattle.gb_prog.specs.Writes.{TypedVariable, AreIn, IsOneOf}
use Rattle.gb_prog.proofs.AllValues.{pushed, pushed_here, binder_of, no_frame, bound_term, bound_plain, bound_writes, writes_are, for_all_typed, all_puts}
use Rattle.gb_prog.specs.Assigned.{put_in, taken}
use Rattle.gb_prog.specs.Likely.{as_likely}
use Rattle.gb_prog.proofs.Likely.{as_likely_typed}
use Rattle.gb_prog.proofs.AssignedForms.{changes_are, writes}
use Rattle.gb_call.proofs.LeftSides.{are_for, left_puts}
use Rattle.gb_call.proofs.Replaced.{ArePlaced, Replaces, own_here, own_variables, replaced_typed}

pub all_append : {A : Type 0} (P : A → Type 0) (us vs : List A) → AllByRecursion P us → AllByRecursion P vs → AllByRecursion P (us ++ vs)
all_append P [] vs h k = k
all_append P (u ∷ us) vs h k = (h.0, all_append P us vs h.1 k)

pub written_both : (g : Setting) (s : State) (us vs : List Written) → all_written g s (us ++ vs) ≡ all_written g (all_written g s vs) us
written_both g s [] vs = refl
written_both g s (u ∷ us) vs = ap (λ q. with_side q u.side (write g.types (memory_of q u.side) u.variable u.value)) (written_both g s us vs)

pub one_type : (c : Context) (f : Frame) (x : Var) (t u : Ty) → IsIn c f x t → IsIn c f x u → t ≡ u
one_type c f (var.Local x) t u a b = same_some t u (sym a ∙ b)
one_type c f (var.Global m x) t u a b = same_some t u (sym a.1 ∙ b.1)
one_type c f (var.Glob m) t u a b = a.2 ∙ sym b.2

-- A form says the same in two own memories in which the variables read the same that it may read.
module _ (c : Context) (g : Setting) (fits : IsSettingOf c g) (j : Judge) (fair : IsFair g j) (P : Readable) (s : State) (m n : Memory)
    (same : (y : Var) (t : Ty) → IsIn c c.own y t → P side.Own y ≡ true → read g.types m y t ≡ read g.types n y t) where
  abbrev used : Uses
  used = both (uses_of c) (reading P)

  agree : Agree g used (at s m) (at s n)
  agree (reads (Logical i) t) k = refl
  agree (reads (Program y side.Own) t) k = let z = and_parts (reads_in c c.own y t) (P side.Own y) k in ap finite (same y t (reads_found c c.own y t z.0) z.1)
  agree (reads (Program y side.Left) t) k = refl
  agree (reads (Program y side.Right) t) k = refl
  agree (reads (Program y (side.Memory i)) t) k = refl
  agree (reads (Program y (side.Bound i)) t) k = refl
  agree (bound i) k = refl
  agree (globals x o) k = absurd (false≢true k)
  agree (starts side.Own) k = absurd (false≢true k)
  agree (starts side.Left) k = absurd (false≢true k)
  agree (starts side.Right) k = absurd (false≢true k)
  agree (starts (side.Memory i)) k = refl
  agree (starts (side.Bound i)) k = refl
  agree binds_own k = tt
  agree binds_sides k = tt

  pub same_form : (f : Term) → IsForm c f → IsWithin (reading P) f → den g j f (at s m) ≡ den g j f (at s n)
  same_form f w k =
      ap truth (form_agrees g j fair f (formed c f w.typed) (sound_form g c (procedures_sound c g fits) f w.typed) used (at s m) (at s n) agree
      (within_both (uses_of c) (reading P) f (uses_typed c f w.typed) k))

-- a call may change these globals
module _ (b : Context) (ls : List TypedName) (R : Ty) (W : List TypedVariable) (global : AreIn (outermost b) (Some []) W) where
  abbrev pub result_frame : List TypedName
  result_frame = record { name = result_name; ty = R } ∷ []

  abbrev pub res : TypedVariable
  res = record { variable = var.Local result_name; ty = R }

  -- the context over these locals
  abbrev pub over : List TypedName → Context
  over f = reframed (outermost b) (Some f) None None

  abbrev pub own : List TypedVariable → List Located
  own V = in_memory side.Own V

  pub anywhere : (f : List TypedName) (x : Var) (t : Ty) → IsIn (outermost b) (Some []) x t → IsIn (over f) (Some f) x t
  anywhere f (var.Local x) t w = none_some t w
  anywhere f (var.Global m x) t w = w
  anywhere f (var.Glob a) t w = w

  pub located : (f : List TypedName) (V : List TypedVariable) → AreIn (outermost b) (Some []) V → AreLocated (over f) (own V)
  located f [] h = tt
  located f (w ∷ V) h = ((tt, anywhere f w.variable w.ty h.0.0, h.0.1), located f V h.1)

  finite_types : (V : List TypedVariable) → AreIn (outermost b) (Some []) V → AllByRecursion (λ w. IsFinite w.1.ty) (own V)
  finite_types [] h = tt
  finite_types (w ∷ V) h = (h.0.1, finite_types V h.1)

  own_puts : (V : List TypedVariable) → ArePlaced (to_bound_values (own V))
  own_puts [] = tt
  own_puts (w ∷ V) = (tt, own_puts V)

  -- Inside of these binders and those of the globals.
  module _ (pre : List Binder) (fpre : List Frame) where
    abbrev pub binders : List Binder
    binders = pushed binder_of (own W) pre

    abbrev pub frames : List Frame
    frames = pushed no_frame (own W) fpre

    abbrev pub inside : List TypedName → Context
    inside f = inside_all b (Some f) None None binders frames

    no_value : Located → Value
    no_value w = Num 0

    -- with further terms in place of variables, and the values of the globals
    values_typed : (f : List TypedName) (q : Term) → IsForm (over f) q → (us : List Written) → AllByRecursion (IsTypedPut (inside f)) us →
        IsForm (inside f) (term_changed q (written_changes us ++ to_bound_values (own W)))
    values_typed f q w us h =
        let vs = bound_writes no_value (own W) in
        let m = typed_inside b (Some f) None None binders frames q w.typed (us ++ vs)
        (all_append (IsTypedPut (inside f)) us vs h (all_puts b (Some f) None None binders frames no_value (own W) pre refl (located f W global))) in
        subst (λ cs. IsForm (inside f) (term_changed q cs))
        (map-append (λ (w : Written). ToTerm (Program w.variable w.side) w.term) us vs ∙ ap (λ cs. written_changes us ++ cs) (writes_are no_value (own W)))
        (record { typed = m.typed; truth = m.written ∙ w.truth })

  -- Where the result is bound around them.
  module _ (fin : IsFinite R) where
    abbrev pub bound_around : List Binder
    bound_around = value R ∷ []

    abbrev pub none_around : List Frame
    none_around = None ∷ []

    abbrev pub X : List Binder
    X = binders bound_around none_around

    abbrev pub Y : List Frame
    Y = frames bound_around none_around

    abbrev pub result : Term
    result = bound_term (length (own W)) R

    pub result_there : get_or X (length (own W)) module_binder ≡ value R
    result_there = pushed_here binder_of (side.Own, res) (own W) [] module_binder

    pub after_located : AreLocated (over result_frame) (own (res ∷ W))
    after_located = ((tt, refl, fin), located result_frame W global)

    -- a variable that is one of these, or stands over the locals of the caller
    module _ (x : Var) (t : Ty) where
      abbrev Becomes : Changes → Type 0
      Becomes cs = Replaces b (Some result_frame) None None (Some ls) None None X Y side.Own x t (found_for_read cs (Program x side.Own))

      bound_replaces : (k : ℕ) (u : Ty) → IsFinite u → get_or X k module_binder ≡ value u → u ≡ t → Replaces b (Some result_frame) None None (Some ls) None None X Y side.Own x t (Some (bound_term k u))
      bound_replaces k u h e i = (
        bound_plain k u,
        λ f l q s. subst (λ z. Made (reframed (inside bound_around none_around ls) f l q) z (bound_term k u)) i
            (made_node (reframed (inside bound_around none_around ls) f l q) (head.Bound k) [] [] u (subst (λ z. IsBoundAt z u) (sym e) (finite_no_distribution u h, refl)) tt [] tt),
      )

      replaced_in : (V : List TypedVariable) (bs : List Binder) → X ≡ pushed binder_of (own V) bs → AllByRecursion (λ w. IsFinite w.1.ty) (own V) → AllByRecursion (λ w. w.variable ≡ x → w.ty ≡ t) V →
          IsOneOf x V ⊎ IsIn (inside bound_around none_around ls) (Some ls) x t → Becomes (to_bound_values (own V))
      replaced_in [] bs e h k (inl o) = absurd o
      replaced_in [] bs e h k (inr i) = i
      replaced_in (w ∷ V) bs e h k o = by_test (var_eq w.variable x) refl (λ z. replaced_in V (value w.ty ∷ bs) e h.1 k.1 z) o
        where
          by_test : (c : Bool) → var_eq w.variable x ≡ c → (IsOneOf x V ⊎ IsIn (inside bound_around none_around ls) (Some ls) x t → Becomes (to_bound_values (own V))) →
              IsOneOf x (w ∷ V) ⊎ IsIn (inside bound_around none_around ls) (Some ls) x t →
              Replaces b (Some result_frame) None None (Some ls) None None X Y side.Own x t (or_later (c && true) (bound_term (length (own V)) w.ty) (found_for_read (to_bound_values (own V)) (Program x side.Own)))
          by_test true d go o =
              bound_replaces (length (own V)) w.ty h.0 (ap (λ (l : List Binder). get_or l (length (own V)) module_binder) e ∙ pushed_here binder_of (side.Own, w) (own V) bs module_binder)
              (k.0 ((var_eq-Decides w.variable x).0 d))
          by_test false d go (inr i) = go (inr i)
          by_test false d go (inl (inr o)) = go (inl o)
          by_test false d go (inl (inl o)) = absurd (false≢true (sym d ∙ (var_eq-Decides w.variable x).1 o))

      same_types : IsIn (over result_frame) (Some result_frame) x t → (V : List TypedVariable) → AreLocated (over result_frame) (own V) → AllByRecursion (λ w. w.variable ≡ x → w.ty ≡ t) V
      same_types i [] h = tt
      same_types i (w ∷ V) h =
          ((λ e. one_type (over result_frame) (Some result_frame) x w.ty t (subst (λ y. IsIn (over result_frame) (Some result_frame) y w.ty) e h.0.1) i), same_types i V h.1)

    pub is_result : (x : Name) (t : Ty) → local_type result_frame x ≡ Some t → var.Local result_name ≡ var.Local x
    is_result x t e = by_test (bytes_eq x result_name) refl e
      where
        by_test : (c : Bool) → bytes_eq x result_name ≡ c → (if c then Some R else None) ≡ Some t → var.Local result_name ≡ var.Local x
        by_test true d e = ap var.Local (sym ((bytes_eq-Decides x result_name).0 d))
        by_test false d e = none_some t e

    stands : (x : Var) (t : Ty) → IsIn (over result_frame) (Some result_frame) x t → IsOneOf x (res ∷ W) ⊎ IsIn (inside bound_around none_around ls) (Some ls) x t
    stands (var.Local x) t k = inl (inl (is_result x t k))
    stands (var.Global m x) t k = inr k
    stands (var.Glob a) t k = inr k

    said_typed : (f : Term) → IsForm (over result_frame) f → IsForm (inside bound_around none_around ls) (term_changed f (to_bound_values (own (res ∷ W))))
    said_typed f w =
        replaced_typed b (Some result_frame) None None (Some ls) None None X Y (to_bound_values (own (res ∷ W))) (own_puts (res ∷ W)) (own_here b (Some result_frame) (Some ls) X Y (λ z. tt))
        (own_variables b (Some result_frame) (Some ls) X Y
        (λ r x t. Replaces b (Some result_frame) None None (Some ls) None None X Y r x t (found_for_read (to_bound_values (own (res ∷ W))) (Program x r)))
        (λ x t k. replaced_in x t (res ∷ W) [] refl (fin, finite_types W global) (same_types x t k (res ∷ W) after_located) (stands x t k))) f w

    return_typed : (xs : List Var) → Take (erased (outermost b)) ls xs R → length xs < 9 → (q : Term) → IsForm (over ls) q →
        IsForm (inside bound_around none_around ls) (term_changed q (put_in side.Own xs (taken xs result) ++ to_bound_values (own W)))
    return_typed xs t l q w =
        subst (λ cs. IsForm (inside bound_around none_around ls) (term_changed q (cs ++ to_bound_values (own W)))) (changes_are side.Own (λ e. Num 0) xs (taken xs result))
        (values_typed bound_around none_around ls q w (writes side.Own (λ e. Num 0) xs (taken xs result))
        (left_puts b (Some ls) None None side.Own tt ls refl X Y (length (own W)) R fin result_there (λ e. Num 0) xs (taken xs result) (are_for b (Some ls) None None side.Own tt ls refl X Y (length (own W)) R fin result_there xs t l)))

    -- for all results and all values of the globals
    pub with_result_typed : (r : Rel) (said q : Term) → IsForm (over result_frame) said → IsForm (over ls) q → (xs : List Var) → Take (erased (outermost b)) ls xs R → length xs < 9 →
        IsForm (over ls) (for_all (own (res ∷ W)) (as_likely r (term_changed q (put_in side.Own xs (taken xs result) ++ to_bound_values (own W))) (term_changed said (to_bound_values (own (res ∷ W))))))
    with_result_typed r said q w v xs t l =
        for_all_typed b (Some ls) None None (own (res ∷ W)) [] [] (fin, finite_types W global) _
        (as_likely_typed (inside bound_around none_around ls) r _ _ (return_typed xs t l q v) (said_typed said w))

  -- Where the result doesn't occur.
  abbrev pub is_res : Var → Bool
  is_res y = var_eq (var.Local result_name) y

  moves : (c : Context) (x : Var) (t : Ty) → is_res x ≡ false → IsIn c (Some result_frame) x t → IsIn c (Some ls) x t
  moves c (var.Local x) t n w = by_test (bytes_eq x result_name) refl w
    where
      by_test : (d : Bool) → bytes_eq x result_name ≡ d → (if d then Some R else None) ≡ Some t → local_type ls x ≡ Some t
      by_test true d e = absurd (false≢true (sym n ∙ (var_eq-Decides (var.Local result_name) (var.Local x)).1 (ap var.Local (sym ((bytes_eq-Decides x result_name).0 d)))))
      by_test false d e = none_some t e
  moves c (var.Global m x) t n w = w
  moves c (var.Glob a) t n w = w

  narrowed : (said : Term) → IsForm (over result_frame) said → Clear side.Own tt is_res (variables_read side.Own said) → IsForm (over ls) said
  narrowed said w k = record { typed = own_typed (Some result_frame) (Some ls) is_res moves (λ z. tt) said (outermost b) k w.typed; truth = w.truth }

  pub no_result_typed : (r : Rel) (said q : Term) → IsForm (over result_frame) said → Clear side.Own tt is_res (variables_read side.Own said) → IsForm (over ls) q →
      IsForm (over ls) (for_all (own W) (as_likely r (term_changed q (to_bound_values (own W))) (term_changed said (to_bound_values (own W)))))
  no_result_typed r said q w k v =
      for_all_typed b (Some ls) None None (own W) [] [] (finite_types W global) _
      (as_likely_typed (inside [] [] ls) r _ _ (values_typed [] [] ls q v [] tt) (values_typed [] [] ls said (narrowed said w k) [] tt))
