-- What is said of the results of procedures, said of the terms that they return.
use Rattle.std.proofs.Common.{◌≡◌, inr, Bool, true, false, ◌&&◌, if◌then◌else◌, [], ◌∷◌, Option, Some, None, bytes_eq, refl, ap, sym, ◌∙◌, subst}
use Rattle.std.proofs.lemmas.Bool.{false≢true}
use Rattle.std.proofs.lemmas.Slice.Eq.{bytes_eq-Decides}
use Rattle.gb_core.specs.declared.ty.Ty.{Ty}
use Rattle.gb_core.specs.declared.var.Var.{Var}
use Rattle.gb_core.specs.declared.var.Var.TheVariants as var
use Rattle.gb_terms.specs.declared.decl.Proc.{Proc}
use Rattle.gb_terms.specs.declared.op.Side.{Side}
use Rattle.gb_terms.specs.declared.op.Side.TheVariants as side
use Rattle.gb_terms.specs.declared.op.Read.{Read}
use Rattle.gb_terms.specs.declared.op.Read.TheVariants.{Logical, Program}
use Rattle.gb_terms.specs.declared.term.Term.{Term}
use Rattle.gb_terms.specs.declared.term.Head.{Head}
use Rattle.gb_terms.specs.declared.term.Head.TheVariants as head
use Rattle.gb_terms.specs.Equal.{var_eq}
use Rattle.gb_walk.specs.Change.{Changes, or_later, found_for_read, read_changed, term_changed}
use Rattle.gb_meaning.specs.Memory.{Memory, read_local, result_name}
use Rattle.gb_meaning.specs.Meanings.{value_in, truth}
use Rattle.gb_meaning.specs.Names.{Name, empty}
use Rattle.gb_meaning.specs.Setting.{Meaning, Setting}
use Rattle.gb_meaning.specs.Setting.Meaning.{finite}
use Rattle.gb_meaning.specs.State.{State, at, between, inside, closed, memory_of}
use Rattle.gb_meaning.specs.Terms.{Speaks, quiet, val, read_at}
use Rattle.gb_meaning.specs.Runs.{valued}
use Rattle.gb_meaning.specs.Values.{first, fit, has}
use Rattle.gb_meaning.specs.Judgments.{Judge, IsFair, speaking, den}
use Rattle.gb_meaning.specs.Written.{type_of}
use Rattle.gb_laws.specs.Plain.{IsPlain}
use Rattle.gb_laws.specs.Led.{put, IsPut, Led}
use Rattle.gb_laws.specs.Uses.Use.{read as reads, bound, globals, starts, binds_own, binds_sides}
use Rattle.gb_laws.specs.Written.{IsSide}
use Rattle.gb_laws.proofs.Forms.{form_followed}
use Rattle.gb_meaning.proofs.Maps.{get-set_same}
use Rattle.gb_laws.specs.Finite.{IsFinite}
use Rattle.gb_laws.proofs.Denominators.{denominator_one}
use Rattle.gb_laws.proofs.Sizes.{widened as finite_variable}
use Rattle.gb_typing.specs.Context.{Context, Frame, erased, frame_of, of_program, reframed, with_own, with_sides}
use Rattle.gb_typing.specs.Changes.{IsLeaf, Made, Becomes, IsMemoryIn, Leads}
use Rattle.gb_typing.specs.Fits.{IsSettingOf}
use Rattle.gb_typing.specs.Programs.{IsProcedure, locals_of}
use Rattle.gb_typing.specs.Typing.{IsForm}
use Rattle.gb_typing.proofs.Anywhere.{value_anywhere}
use Rattle.gb_typing.proofs.Changed.{changed}
use Rattle.gb_typing.proofs.Erased.{erased_typed}
use Rattle.gb_typing.proofs.Fitting.{fits_program, fits_reframed, state_inside}
use Rattle.gb_typing.proofs.Formed.{formed}
use Rattle.gb_typing.proofs.Scripts.{none_some, same_some}
use Rattle.gb_typing.proofs.Sound.{procedures_sound, sound_form}
use Rattle.gb_typing.proofs.Substituted.{finite_no_distribution, term_has, term_value}
use Rattle.gb_typing.proofs.Uses.{nothing_in, reads_in, reads_found, uses_of, uses_typed}
use Rattle.gb_typing.specs.Calls.{ended, result_of, returned}
use Rattle.gb_typing.specs.Forms.{located}
use Rattle.gb_typing.specs.Rules.{outermost}
use Rattle.gb_typing.proofs.InMemory.{located_plain, located_typed, located_value}

-- the result is read under its name, at its type
result_named : (t : Ty) (x : Name) (ty : Ty) → (if bytes_eq x result_name then Some t else None) ≡ Some ty → (x ≡ result_name) × (t ≡ ty)
result_named t x ty e = step (bytes_eq x result_name) refl e
  where
    step : (b : Bool) → bytes_eq x result_name ≡ b → (if b then Some t else None) ≡ Some ty → (x ≡ result_name) × (t ≡ ty)
    step true h e = ((bytes_eq-Decides x result_name).0 h, same_some t ty e)
    step false h e = none_some ty e

module _ (c : Context) (p : Proc) (w : IsProcedure c p) where
  -- the term that is returned, in a memory of the procedure's locals
  pub value_typed : (F L K : Frame) (r : Side) → IsSide r → frame_of (reframed c F L K) r ≡ Some (locals_of p) → Made (reframed c F L K) p.result (located r p.value)
  value_typed F L K r i frame = subst (λ u. Made (reframed c F L K) u (located r p.value)) w.returned (located_typed c (locals_of p) p.value w.value F L K r i frame)

  pub value_plain : (r : Side) → IsPlain (located r p.value)
  value_plain r = let x = w.value in located_plain r p.value x.plain

  module _ (g : Setting) (fits : IsSettingOf c g) where
    value_finite : IsFinite (type_of p.value)
    value_finite = subst IsFinite (sym w.returned) (finite_variable g.types (let t = fits.types in t.inhabited) p.result w.result)

    abbrev here : Context
    here = of_program c (locals_of p)

    -- what the outcome holds is the value of the term
    result_value : (m : Memory) → val g quiet p.value (inside closed m) ≡ finite (read_local g.types (ended g p m) result_name p.result)
    result_value m =
        let x = w.value in
        let v = value_in (val g quiet p.value (inside closed m)) in
        term_value here g (fits_program c g fits (locals_of p)) p.value x.typed value_finite (inside closed m) (state_inside c g (locals_of p) closed m)
        ∙ sym (ap finite
        (ap (fit g.types p.result) (get-set_same empty (result_name ∷ []) (valued g closed p.value m))
        ∙ ap (λ b. if b then v else first g.types p.result)
        (subst (λ u. has g.types u v ≡ true) w.returned (term_has here g (fits_program c g fits (locals_of p)) p.value x.typed value_finite (inside closed m) (state_inside c g (locals_of p) closed m)))))

    pub returned_value : (j : Speaks) (s : State) (r : Side) → IsSide r → val g j (located r p.value) s ≡ finite (read_local g.types (ended g p (memory_of s r)) result_name p.result)
    returned_value j s r i = located_value c (locals_of p) p.value w.value g j s r i ∙ value_anywhere c (locals_of p) p.value w.value g s closed (memory_of s r) ∙ result_value (memory_of s r)

    -- it looks at its own memory alone
    same_value : (j : Speaks) (s q : State) (r : Side) → IsSide r → memory_of s r ≡ memory_of q r → val g j (located r p.value) s ≡ val g j (located r p.value) q
    same_value j s q r i e =
        returned_value j s r i ∙ ap (λ m. finite (read_local g.types (ended g p m) result_name p.result)) e ∙ sym (returned_value j q r i)

    pub value_put : (F L K : Frame) (r : Side) → IsSide r → frame_of (reframed c F L K) r ≡ Some (locals_of p) → IsPut g (located r p.value)
    value_put F L K r i frame =
        let m = value_typed F L K r i frame in
        record {
          formed = formed (reframed c F L K) (located r p.value) m.typed;
          plain = value_plain r;
          denominator = denominator_one g (erased (reframed c F L K)) (located r p.value) (erased_typed (reframed c F L K) (located r p.value) m.typed)
              (finite_no_distribution (type_of (located r p.value)) (subst IsFinite (sym m.written) (finite_variable g.types (let t = fits.types in t.inhabited) p.result w.result)));
        }

other_memory : (d : Context) (ty : Ty) (r : Read) (t : Term) (o : Option Term) (h : Head) (b : Bool) → Becomes true d ty r o h → Becomes true d ty r (or_later (b && false) t o) h
other_memory d ty r t o h true m = m
other_memory d ty r t o h false m = m

-- One procedure.
module _ (b : Context) (p : Proc) (w : IsProcedure (outermost b) p) where
  abbrev c : Context
  c = outermost b

  abbrev after_one : Context
  after_one = with_own c (Some (result_of p))

  abbrev in_one : Context
  in_one = with_own c (Some (locals_of p))

  abbrev one_change : Changes
  one_change = returned side.Own p ∷ []

  one_reads : (r : Read) (ty : Ty) → IsLeaf after_one (head.Read r) ty → Becomes true in_one ty r (found_for_read one_change r) (head.Read (read_changed one_change r))
  one_reads (Logical i) ty k = k
  one_reads (Program (var.Local x) side.Own) ty k =
      let z = result_named p.result x ty k.1 in
      subst (λ y. Becomes true in_one ty (Program (var.Local y) side.Own) (found_for_read one_change (Program (var.Local y) side.Own)) (head.Read (read_changed one_change (Program (var.Local y) side.Own)))) (sym z.0)
      (value_plain c p w side.Own, λ f l h keeps same. subst (λ u. Made (reframed in_one f l h) u (located side.Own p.value)) z.1 (value_typed c p w f l h side.Own tt (keeps.0 refl)))
  one_reads (Program (var.Global m x) side.Own) ty k = k
  one_reads (Program (var.Glob a) side.Own) ty k = k
  one_reads (Program x side.Left) ty k = absurd (nothing_in after_one x ty k.1)
  one_reads (Program x side.Right) ty k = absurd (nothing_in after_one x ty k.1)
  one_reads (Program x (side.Memory i)) ty k = other_memory in_one ty (Program x (side.Memory i)) (located side.Own p.value) None (head.Read (Program x (side.Memory i))) (var_eq (var.Local result_name) x) (leaf x k)
    where
      leaf : (x : Var) → IsLeaf after_one (head.Read (Program x (side.Memory i))) ty → IsLeaf in_one (head.Read (Program x (side.Memory i))) ty
      leaf (var.Local y) k = k
      leaf (var.Global m y) k = k
      leaf (var.Glob a) k = k
  one_reads (Program x (side.Bound i)) ty k = absurd (nothing_in after_one x ty k.1)

  one_sides : (r : Side) → IsMemoryIn after_one r → IsMemoryIn in_one r
  one_sides side.Own k = (k.0, tt)
  one_sides side.Left k = absurd k.1
  one_sides side.Right k = absurd k.1
  one_sides (side.Memory i) k = k
  one_sides (side.Bound i) k = k

  one_leads : Leads true one_change after_one in_one
  one_leads = record {
    reads = one_reads;
    bounds = λ i ty k. (k, tt);
    sides = one_sides;
    places = λ r k. k;
    global = λ m x t e. e;
    operator = λ n o e. e;
    procedure = λ q. refl;
    has_globals = λ a e. e;
  }

  one_form : (f : Term) → IsForm after_one f → IsForm in_one (term_changed f one_change)
  one_form f k =
      let m = changed true f one_change after_one in_one one_leads (inr (record { own = λ r e. e; sides = λ r e. e }, refl)) k.typed in
      record { typed = m.typed; truth = m.written ∙ k.truth }

  module _ (g : Setting) (fits : IsSettingOf c g) (j : Judge) (s : State) (m : Memory) where
    abbrev j1 : Speaks
    j1 = speaking g j

    no_result : (b : Bool) (t : Term) (x : Meaning) (q : State) → put g j1 (or_later (b && false) t None) x q ≡ x
    no_result true t x q = refl
    no_result false t x q = refl

    nowhere : (x : Var) (ty : Ty) {A : Type 0} → reads_in after_one None x ty ≡ true → A
    nowhere x ty e = absurd (nothing_in after_one x ty (reads_found after_one None x ty e))

    one_led : Led g j1 one_change (uses_of after_one) (at s m) (at s (ended g p m))
    one_led (reads (Logical i) ty) k = refl
    one_led (reads (Program (var.Local x) side.Own) ty) k =
        let z = result_named p.result x ty (reads_found after_one (Some (result_of p)) (var.Local x) ty k) in
        subst (λ y. put g j1 (found_for_read one_change (Program (var.Local y) side.Own)) (read_at g (read_changed one_change (Program (var.Local y) side.Own)) ty (at s m)) (at s m) ≡ read_at g (Program (var.Local y) side.Own) ty (at s (ended g p m))) (sym z.0)
        (returned_value c p w g fits j1 (at s m) side.Own tt ∙ ap (λ u. finite (read_local g.types (ended g p m) result_name u)) z.1)
    one_led (reads (Program (var.Global q x) side.Own) ty) k = refl
    one_led (reads (Program (var.Glob a) side.Own) ty) k = refl
    one_led (reads (Program x side.Left) ty) k = nowhere x ty k
    one_led (reads (Program x side.Right) ty) k = nowhere x ty k
    one_led (reads (Program x (side.Memory i)) ty) k = no_result (var_eq (var.Local result_name) x) (located side.Own p.value) _ (at s m)
    one_led (reads (Program x (side.Bound i)) ty) k = nowhere x ty k
    one_led (bound i) k = refl
    one_led (globals x r) k = absurd (false≢true k)
    one_led (starts side.Own) k = absurd (false≢true k)
    one_led (starts side.Left) k = absurd (false≢true k)
    one_led (starts side.Right) k = absurd (false≢true k)
    one_led (starts (side.Memory i)) k = refl
    one_led (starts (side.Bound i)) k = refl
    one_led binds_own k = ((λ e. absurd (false≢true (sym e))), tt)
    one_led binds_sides k = ((λ e q a b. same_value c p w g fits j1 (between q a b) q side.Own tt refl), tt)

    one_meaning : IsFair g j → (f : Term) → IsForm after_one f → den g j (term_changed f one_change) (at s m) ≡ den g j f (at s (ended g p m))
    one_meaning fair f k =
        ap truth (form_followed g j fair f (formed after_one f k.typed) (sound_form g after_one (procedures_sound after_one g (fits_reframed c g fits (Some (result_of p)) None None)) f k.typed) one_change
        (uses_of after_one) (at s m) (at s (ended g p m)) (value_put c p w g fits (Some (locals_of p)) None None side.Own tt refl, tt) one_led (uses_typed after_one f k.typed))

-- Two procedures.
module _ (b : Context) (p q : Proc) (w : IsProcedure (outermost b) p) (v : IsProcedure (outermost b) q) where
  abbrev d : Context
  d = outermost b

  abbrev after_two : Context
  after_two = with_sides d (Some (result_of p)) (Some (result_of q))

  abbrev in_two : Context
  in_two = with_sides d (Some (locals_of p)) (Some (locals_of q))

  abbrev two_changes : Changes
  two_changes = returned side.Left p ∷ returned side.Right q ∷ []

  two_reads : (r : Read) (ty : Ty) → IsLeaf after_two (head.Read r) ty → Becomes true in_two ty r (found_for_read two_changes r) (head.Read (read_changed two_changes r))
  two_reads (Logical i) ty k = k
  two_reads (Program (var.Local x) side.Left) ty k =
      let z = result_named p.result x ty k.1 in
      subst (λ y. Becomes true in_two ty (Program (var.Local y) side.Left) (found_for_read two_changes (Program (var.Local y) side.Left)) (head.Read (read_changed two_changes (Program (var.Local y) side.Left)))) (sym z.0)
      (value_plain d p w side.Left, λ f l h keeps same. subst (λ u. Made (reframed in_two f l h) u (located side.Left p.value)) z.1 (value_typed d p w f l h side.Left tt (keeps.1 refl).0))
  two_reads (Program (var.Local x) side.Right) ty k =
      let z = result_named q.result x ty k.1 in
      subst (λ y. Becomes true in_two ty (Program (var.Local y) side.Right) (found_for_read two_changes (Program (var.Local y) side.Right)) (head.Read (read_changed two_changes (Program (var.Local y) side.Right)))) (sym z.0)
      (value_plain d q v side.Right, λ f l h keeps same. subst (λ u. Made (reframed in_two f l h) u (located side.Right q.value)) z.1 (value_typed d q v f l h side.Right tt (keeps.1 refl).1))
  two_reads (Program (var.Global m x) side.Left) ty k = k
  two_reads (Program (var.Glob a) side.Left) ty k = k
  two_reads (Program (var.Global m x) side.Right) ty k = k
  two_reads (Program (var.Glob a) side.Right) ty k = k
  two_reads (Program x side.Own) ty k = absurd (nothing_in after_two x ty k.1)
  two_reads (Program x (side.Memory i)) ty k =
      let z = var_eq (var.Local result_name) x in
      let r = Program x (side.Memory i) in
      other_memory in_two ty r (located side.Left p.value) (or_later (z && false) (located side.Right q.value) None) (head.Read r) z
      (other_memory in_two ty r (located side.Right q.value) None (head.Read r) z (leaf x k))
    where
      leaf : (x : Var) → IsLeaf after_two (head.Read (Program x (side.Memory i))) ty → IsLeaf in_two (head.Read (Program x (side.Memory i))) ty
      leaf (var.Local y) k = k
      leaf (var.Global m y) k = k
      leaf (var.Glob a) k = k
  two_reads (Program x (side.Bound i)) ty k = absurd (nothing_in after_two x ty k.1)

  two_sides : (r : Side) → IsMemoryIn after_two r → IsMemoryIn in_two r
  two_sides side.Own k = absurd k.1
  two_sides side.Left k = (k.0, tt)
  two_sides side.Right k = (k.0, tt)
  two_sides (side.Memory i) k = k
  two_sides (side.Bound i) k = k

  two_lead : Leads true two_changes after_two in_two
  two_lead = record {
    reads = two_reads;
    bounds = λ i ty k. (k, tt);
    sides = two_sides;
    places = λ r k. k;
    global = λ m x t e. e;
    operator = λ n o e. e;
    procedure = λ q. refl;
    has_globals = λ a e. e;
  }

  two_form : (f : Term) → IsForm after_two f → IsForm in_two (term_changed f two_changes)
  two_form f k =
      let m = changed true f two_changes after_two in_two two_lead (inr (record { own = λ r e. e; sides = λ r e. e }, refl)) k.typed in
      record { typed = m.typed; truth = m.written ∙ k.truth }

  module _ (g : Setting) (fits : IsSettingOf d g) (j : Judge) (s : State) (m n : Memory) where
    abbrev j2 : Speaks
    j2 = speaking g j

    no_results : (b : Bool) (t u : Term) (x : Meaning) (r : State) → put g j2 (or_later (b && false) t (or_later (b && false) u None)) x r ≡ x
    no_results true t u x r = refl
    no_results false t u x r = refl

    nowhere_two : (x : Var) (ty : Ty) {A : Type 0} → reads_in after_two None x ty ≡ true → A
    nowhere_two x ty e = absurd (nothing_in after_two x ty (reads_found after_two None x ty e))

    two_led : Led g j2 two_changes (uses_of after_two) (between s m n) (between s (ended g p m) (ended g q n))
    two_led (reads (Logical i) ty) k = refl
    two_led (reads (Program (var.Local x) side.Left) ty) k =
        let z = result_named p.result x ty (reads_found after_two (Some (result_of p)) (var.Local x) ty k) in
        subst (λ y. put g j2 (found_for_read two_changes (Program (var.Local y) side.Left)) (read_at g (read_changed two_changes (Program (var.Local y) side.Left)) ty (between s m n)) (between s m n)
        ≡ read_at g (Program (var.Local y) side.Left) ty (between s (ended g p m) (ended g q n))) (sym z.0)
        (returned_value d p w g fits j2 (between s m n) side.Left tt ∙ ap (λ u. finite (read_local g.types (ended g p m) result_name u)) z.1)
    two_led (reads (Program (var.Local x) side.Right) ty) k =
        let z = result_named q.result x ty (reads_found after_two (Some (result_of q)) (var.Local x) ty k) in
        subst (λ y. put g j2 (found_for_read two_changes (Program (var.Local y) side.Right)) (read_at g (read_changed two_changes (Program (var.Local y) side.Right)) ty (between s m n)) (between s m n)
        ≡ read_at g (Program (var.Local y) side.Right) ty (between s (ended g p m) (ended g q n))) (sym z.0)
        (returned_value d q v g fits j2 (between s m n) side.Right tt ∙ ap (λ u. finite (read_local g.types (ended g q n) result_name u)) z.1)
    two_led (reads (Program (var.Global a x) side.Left) ty) k = refl
    two_led (reads (Program (var.Glob a) side.Left) ty) k = refl
    two_led (reads (Program (var.Global a x) side.Right) ty) k = refl
    two_led (reads (Program (var.Glob a) side.Right) ty) k = refl
    two_led (reads (Program x side.Own) ty) k = nowhere_two x ty k
    two_led (reads (Program x (side.Memory i)) ty) k = no_results (var_eq (var.Local result_name) x) (located side.Left p.value) (located side.Right q.value) _ (between s m n)
    two_led (reads (Program x (side.Bound i)) ty) k = nowhere_two x ty k
    two_led (bound i) k = refl
    two_led (globals x r) k = absurd (false≢true k)
    two_led (starts side.Own) k = absurd (false≢true k)
    two_led (starts side.Left) k = absurd (false≢true k)
    two_led (starts side.Right) k = absurd (false≢true k)
    two_led (starts (side.Memory i)) k = refl
    two_led (starts (side.Bound i)) k = refl
    two_led binds_own k =
        ((λ e r a. same_value d p w g fits j2 (at r a) r side.Left tt refl), ((λ e r a. same_value d q v g fits j2 (at r a) r side.Right tt refl), tt))
    two_led binds_sides k = ((λ e. absurd (false≢true (sym e))), ((λ e. absurd (false≢true (sym e))), tt))

    two_meaning : IsFair g j → (f : Term) → IsForm after_two f → den g j (term_changed f two_changes) (between s m n) ≡ den g j f (between s (ended g p m) (ended g q n))
    two_meaning fair f k =
        ap truth (form_followed g j fair f (formed after_two f k.typed) (sound_form g after_two (procedures_sound after_two g (fits_reframed d g fits None (Some (result_of p)) (Some (result_of q)))) f k.typed) two_changes
        (uses_of after_two) (between s m n) (between s (ended g p m) (ended g q n))
        (value_put d p w g fits None (Some (locals_of p)) (Some (locals_of q)) side.Left tt refl, (value_put d q v g fits None (Some (locals_of p)) (Some (locals_of q)) side.Right tt refl, tt))
        two_led (uses_typed after_two f k.typed))

-- The same in the context of a goal.
module _ (c : Context) (outer : c ≡ outermost c) where
  abbrev OneTyped : Proc → Term → Context → Type 0
  OneTyped p f c = IsProcedure c p → IsForm (with_own c (Some (result_of p))) f → IsForm (with_own c (Some (locals_of p))) (term_changed f (returned side.Own p ∷ []))

  pub one_result_typed : (p : Proc) (f : Term) → OneTyped p f c
  one_result_typed p f = subst (OneTyped p f) (sym outer) (λ w k. one_form c p w f k)

  abbrev OneMeant : Setting → Judge → State → Memory → Proc → Term → Context → Type 0
  OneMeant g j s m p f c = IsSettingOf c g → IsProcedure c p → IsForm (with_own c (Some (result_of p))) f →
      den g j (term_changed f (returned side.Own p ∷ [])) (at s m) ≡ den g j f (at s (ended g p m))

  pub one_result : (g : Setting) (j : Judge) → IsFair g j → (s : State) (m : Memory) (p : Proc) (f : Term) → OneMeant g j s m p f c
  one_result g j fair s m p f = subst (OneMeant g j s m p f) (sym outer) (λ fits w k. one_meaning c p w g fits j s m fair f k)

  abbrev TwoTyped : Proc → Proc → Term → Context → Type 0
  TwoTyped p q f c = IsProcedure c p → IsProcedure c q → IsForm (with_sides c (Some (result_of p)) (Some (result_of q))) f →
      IsForm (with_sides c (Some (locals_of p)) (Some (locals_of q))) (term_changed f (returned side.Left p ∷ returned side.Right q ∷ []))

  pub two_results_typed : (p q : Proc) (f : Term) → TwoTyped p q f c
  two_results_typed p q f = subst (TwoTyped p q f) (sym outer) (λ w v k. two_form c p q w v f k)

  abbrev TwoMeant : Setting → Judge → State → Memory → Memory → Proc → Proc → Term → Context → Type 0
  TwoMeant g j s m n p q f c = IsSettingOf c g → IsProcedure c p → IsProcedure c q → IsForm (with_sides c (Some (result_of p)) (Some (result_of q))) f →
      den g j (term_changed f (returned side.Left p ∷ returned side.Right q ∷ [])) (between s m n) ≡ den g j f (between s (ended g p m) (ended g q n))

  pub two_results : (g : Setting) (j : Judge) → IsFair g j → (s : State) (m n : Memory) (p q : Proc) (f : Term) → TwoMeant g j s m n p q f c
  two_results g j fair s m n p q f = subst (TwoMeant g j s m n p q f) (sym outer) (λ fits w v k. two_meaning c p q w v g fits j s m n fair f k)
