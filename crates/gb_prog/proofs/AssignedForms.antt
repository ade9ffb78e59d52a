-- A form with what is assigned in the places of variables: typing and meaning.
use Rattle.std.proofs.Common.{◌≡◌, ℕ, suc, ◌<◌, Bool, true, false, ◌&&◌, not, List, [], ◌∷◌, ◌++◌, length, map, filter, if◌then◌else◌, Option, Some, None, refl, ap, sym, ◌∙◌, subst}
use Rattle.std.specs.Prelude.{is_some}
use Rattle.std.specs.List.{AllByRecursion}
use Rattle.std.proofs.lemmas.Bool.{false≢true, and_parts}
use Rattle.std.proofs.lemmas.List.{map-append}
use Rattle.gb_core.specs.declared.ty.Ty.{Ty}
use Rattle.gb_core.specs.declared.var.Var.{Var}
use Rattle.gb_core.specs.declared.value.Value.{Value}
use Rattle.gb_core.specs.declared.value.Value.TheVariants.{Num}
use Rattle.gb_core.specs.Numbering.{parts_of}
use Rattle.gb_terms.specs.declared.decl.TypedName.{TypedName}
use Rattle.gb_terms.specs.declared.op.Side.{Side}
use Rattle.gb_terms.specs.declared.op.Side.TheVariants as side
use Rattle.gb_terms.specs.declared.op.Read.TheVariants.{Logical, Program}
use Rattle.gb_terms.specs.declared.term.Term.{Term}
use Rattle.gb_walk.specs.declared.change.Change.TheVariants.{ToTerm}
use Rattle.gb_walk.specs.Change.{term_changed}
use Rattle.gb_walk.specs.Clash.{Exclusions, comes_before, first_clash, least_from}
use Rattle.gb_meaning.specs.Memory.{Memory, assigned, write, write_each}
use Rattle.gb_meaning.specs.Meanings.{truth, value_in}
use Rattle.gb_meaning.specs.Runs.{valued}
use Rattle.gb_meaning.specs.Setting.{Setting}
use Rattle.gb_meaning.specs.State.{State, memory_of}
use Rattle.gb_meaning.specs.Terms.{quiet}
use Rattle.gb_meaning.specs.Judgments.{Judge, IsFair, den}
use Rattle.gb_meaning.specs.Written.{type_of}
use Rattle.gb_laws.specs.Uses.{Use, Uses, IsWithin}
use Rattle.gb_laws.specs.Uses.Use.{read, bound, globals, starts, binds_own, binds_sides}
use Rattle.gb_laws.specs.Written.{with_side, IsSide, Written, written_changes, all_written}
use Rattle.gb_laws.specs.Finite.{IsFinite}
use Rattle.gb_laws.specs.Operators.{parts_in}
use Rattle.gb_laws.specs.Programs.{HaveTypes, Take, variable_type}
use Rattle.gb_typing.specs.Context.{Context, Frame, erased, frame_of, reframed}
use Rattle.gb_typing.specs.Fits.{IsSettingOf, IsStateOf}
use Rattle.gb_typing.specs.Programs.{IsValued}
use Rattle.gb_typing.specs.Puts.{IsTypedPut, IsTypedWrite, Readable, every_variable, reading}
use Rattle.gb_typing.specs.Typing.{IsForm, IsTyped}
use Rattle.gb_typing.proofs.Both.{both, within_both}
use Rattle.gb_typing.proofs.Clashes.{left_of_no_clash}
use Rattle.gb_typing.proofs.Fitting.{fits_reframed}
use Rattle.gb_typing.proofs.Puts.{substituted_typed}
use Rattle.gb_typing.proofs.Substituted.{reads_any, substituted}
use Rattle.gb_typing.specs.Forms.{IsAlone, IsKeptOff, located}
use Rattle.gb_typing.proofs.Assigned.{located_put}
use Rattle.gb_typing.proofs.ClashFree.{one_clear}
use Rattle.gb_typing.proofs.InMemory.{located_value}
use Rattle.gb_prog.specs.Assigned.{assigned_form, clashing, is_clashing, parts, put_in, taken}
use Rattle.gb_prog.proofs.Parts.{AreTaken, parts_taken, parts_values}

-- The memory of a side, in a state in which it is put.

pub put_twice : (s : State) (r : Side) → IsSide r → (m n : Memory) → with_side (with_side s r m) r n ≡ with_side s r n
put_twice s side.Own i m n = refl
put_twice s side.Left i m n = refl
put_twice s side.Right i m n = refl
put_twice s (side.Memory k) i m n = absurd i
put_twice s (side.Bound k) i m n = absurd i

pub put_read : (s : State) (r : Side) → IsSide r → (m : Memory) → memory_of (with_side s r m) r ≡ m
put_read s side.Own i m = refl
put_read s side.Left i m = refl
put_read s side.Right i m = refl
put_read s (side.Memory k) i m = absurd i
put_read s (side.Bound k) i m = absurd i

pub put_itself : (s : State) (r : Side) → with_side s r (memory_of s r) ≡ s
put_itself s side.Own = refl
put_itself s side.Left = refl
put_itself s side.Right = refl
put_itself s (side.Memory k) = refl
put_itself s (side.Bound k) = refl

-- Writes one after another.

pub all_behind : {A : Type 0} (P : A → Type 0) (us : List A) (w : A) → AllByRecursion P us → P w → AllByRecursion P (us ++ w ∷ [])
all_behind P [] w h k = (k, tt)
all_behind P (u ∷ us) w h k = (h.0, all_behind P us w h.1 k)

pub written_behind : (g : Setting) (s : State) (us : List Written) (w : Written) → all_written g s (us ++ w ∷ []) ≡ all_written g (all_written g s (w ∷ [])) us
written_behind g s [] w = refl
written_behind g s (u ∷ us) w = ap (λ q. with_side q u.side (write g.types (memory_of q u.side) u.variable u.value)) (written_behind g s us w)

abbrev pub write_of : Side → Var → Term → Value → Written
write_of r x e v = record { variable = x; side = r; term = located r e; value = v }

-- the writes of an assignment, the last one first
abbrev pub writes : Side → (Term → Value) → List Var → List Term → List Written
writes r v [] es = []
writes r v (x ∷ xs) [] = []
writes r v (x ∷ xs) (e ∷ es) = writes r v xs es ++ write_of r x e (v e) ∷ []

pub changes_are : (r : Side) (v : Term → Value) (xs : List Var) (es : List Term) → written_changes (writes r v xs es) ≡ put_in r xs es
changes_are r v [] es = refl
changes_are r v (x ∷ xs) [] = refl
changes_are r v (x ∷ xs) (e ∷ es) =
    map-append (λ (w : Written). ToTerm (Program w.variable w.side) w.term) (writes r v xs es) (write_of r x e (v e) ∷ [])
    ∙ ap (λ cs. cs ++ ToTerm (Program x r) (located r e) ∷ []) (changes_are r v xs es)

-- No clash.

abbrev pub NoClash : Exclusions → Side → Term → List Var → Type 0
NoClash es r f [] = Unit {0}
NoClash es r f (x ∷ xs) = (first_clash es r x f ≡ None) × NoClash es r f xs

none_found : (es : Exclusions) (r : Side) (f : Term) (xs : List Var) → clashing es r xs f ≡ None → NoClash es r f xs
none_found es r f [] e = tt
none_found es r f (x ∷ xs) e = at (none_found es r f xs) (first_clash es r x f) refl e
  where
    found_some : {P : Type 0} (y : Var) (ys : List Var) → least_from (Some y) ys ≡ None → P
    found_some y [] e = absurd (false≢true (sym (ap is_some e)))
    found_some y (z ∷ ys) e = found_some (if comes_before z y then z else y) ys e

    at : (clashing es r xs f ≡ None → NoClash es r f xs) → (o : Option Var) → first_clash es r x f ≡ o → least_from None (if is_some o then x ∷ filter (is_clashing es r f) xs else filter (is_clashing es r f) xs) ≡ None →
        (first_clash es r x f ≡ None) × NoClash es r f xs
    at rest None k e = (k, rest e)
    at rest (Some y) k e = found_some x (filter (is_clashing es r f) xs) e

abbrev pub EachAlone : Setting → (Var → Bool) → List Var → Type 0
EachAlone g P [] = Unit {0}
EachAlone g P (x ∷ xs) = IsAlone g x P × EachAlone g P xs

pub fewer : (g : Setting) (P Q : Var → Bool) → ((y : Var) → P y ≡ true → Q y ≡ true) → (xs : List Var) → EachAlone g Q xs → EachAlone g P xs
fewer g P Q h [] k = tt
fewer g P Q h (x ∷ xs) k = ((λ y p n. k.0 y (h y p) n), fewer g P Q h xs k.1)

pub in_both : (P Q : Readable) (u : Use) → both (reading P) (reading Q) u ≡ reading (λ s y. P s y && Q s y) u
in_both P Q (read (Logical i) ty) = refl
in_both P Q (read (Program z s) ty) = refl
in_both P Q (bound i) = refl
in_both P Q (globals m s) = refl
in_both P Q (starts s) = refl
in_both P Q binds_own = refl
in_both P Q binds_sides = refl

-- the form reads variables alone among which none clashes with one of these, but itself
pub all_clear : (es : Exclusions) (c : Context) (f : Term) → IsTyped c f → (r : Side) → IsSide r → (xs : List Var) → NoClash es r f xs →
    (P : Readable) × IsWithin (reading P) f × ((g : Setting) → IsKeptOff es g → EachAlone g (P r) xs)
all_clear es c f w r i [] n = (every_variable, reads_any c f w, λ g k. tt)
all_clear es c f w r i (x ∷ xs) n =
    let one = one_clear es c f w r i x n.0 in
    let rest = all_clear es c f w r i xs n.1 in
    let P : Readable = one.0 in
    let Q : Readable = rest.0 in (
      λ s y. P s y && Q s y,
      subst (λ (K : Uses). IsWithin K f) (λ k u. in_both P Q u k) (within_both (reading P) (reading Q) f one.1 rest.1),
      λ g k. (
        (λ y p d. one.2 g k y (and_parts (P r y) (Q r y) p).0 d),
        fewer g (λ y. P r y && Q r y) (Q r) (λ y p. (and_parts (P r y) (Q r y) p).1) xs (rest.2 g k),
      ),
    )

module _ (c : Context) (ls : List TypedName) (F L K : Frame) (r : Side) (i : IsSide r) (frame : frame_of (reframed c F L K) r ≡ Some ls) where
  abbrev d : Context
  d = reframed c F L K

  each_put : (v : Term → Value) (xs : List Var) (es : List Term) → AreTaken c ls xs es → AllByRecursion (IsTypedPut d) (writes r v xs es)
  each_put v [] es w = tt
  each_put v (x ∷ xs) [] w = absurd w
  each_put v (x ∷ xs) (e ∷ es) w =
      all_behind (IsTypedPut d) (writes r v xs es) (write_of r x e (v e)) (each_put v xs es w.1) (located_put c ls F L K r i frame x e w.0.0 w.0.1)

  -- what variables take
  are_taken : (xs : List Var) (e : Term) → IsValued c ls e → Take (erased c) ls xs (type_of e) → length xs < 9 → AreTaken c ls xs (taken xs e)
  are_taken [] e w t l = tt
  are_taken (x ∷ []) e w t l = ((w, t), tt)
  are_taken (x ∷ y ∷ xs) e w t l = parts_taken c ls e x (y ∷ xs) w t l

  -- the form stays well typed
  pub assigned_typed : (xs : List Var) (e : Term) → IsValued c ls e → Take (erased c) ls xs (type_of e) → length xs < 9 → (f : Term) → IsForm d f → IsForm d (assigned_form r xs e f)
  assigned_typed xs e w t l f u =
      let v : Term → Value = λ z. Num 0 in
      let m = substituted_typed d f u.typed (writes r v xs (taken xs e)) (each_put v xs (taken xs e) (are_taken xs e w t l)) in
      subst (λ cs. IsForm d (term_changed f cs)) (changes_are r v xs (taken xs e)) (record { typed = m.typed; truth = m.written ∙ u.truth })

  module _ (g : Setting) (fits : IsSettingOf c g) (j : Judge) (fair : IsFair g j) (s : State) (fit : IsStateOf d g s) where
    abbrev given : Term → Value
    given e = valued g s e (memory_of s r)

    each_write : (P : Readable) (xs : List Var) (es : List Term) → AreTaken c ls xs es → EachAlone g (P r) xs → AllByRecursion (IsTypedWrite P d g s) (writes r given xs es)
    each_write P [] es w a = tt
    each_write P (x ∷ xs) [] w a = absurd w
    each_write P (x ∷ xs) (e ∷ es) w a =
        let z = w.0.0.expression in
        all_behind (IsTypedWrite P d g s) (writes r given xs es) (write_of r x e (given e)) (each_write P xs es w.1 a.1)
        (record {
          put = located_put c ls F L K r i frame x e w.0.0 w.0.1;
          spares = λ y t h p n k. left_of_no_clash g x y t (a.0 y p n);
          value = sym (ap value_in (located_value c ls e z g quiet s r i));
        })

    -- the memory after the writes
    ends : (q : State) (v : Term → Value) (xs : List Var) (es : List Term) → AreTaken c ls xs es → all_written g q (writes r v xs es) ≡ with_side q r (write_each g.types (memory_of q r) xs (map v es))
    ends q v [] es w = sym (put_itself q r)
    ends q v (x ∷ xs) [] w = absurd w
    ends q v (x ∷ xs) (e ∷ es) w =
        let n = write g.types (memory_of q r) x (v e) in
        written_behind g q (writes r v xs es) (write_of r x e (v e))
        ∙ ends (with_side q r n) v xs es w.1
        ∙ put_twice q r i n _
        ∙ ap (λ k. with_side q r (write_each g.types k xs (map v es))) (put_read q r i n)

    taken_values : (xs : List Var) (e : Term) → IsValued c ls e → Take (erased c) ls xs (type_of e) → length xs < 9 →
        write_each g.types (memory_of s r) xs (map given (taken xs e)) ≡ assigned g.types (memory_of s r) xs (given e)
    taken_values [] e w t l = refl
    taken_values (x ∷ []) e w t l = refl
    taken_values (x ∷ y ∷ xs) e w t l = ap (write_each g.types (memory_of s r) (x ∷ y ∷ xs)) (parts_values g s (memory_of s r) c ls fits e x (y ∷ xs) w t l)

    -- it says what the form says after the assignment
    pub assigned_meaning : (es : Exclusions) → IsKeptOff es g → (xs : List Var) (e : Term) → IsValued c ls e → Take (erased c) ls xs (type_of e) → length xs < 9 → (f : Term) → IsForm d f → clashing es r xs f ≡ None →
        den g j (assigned_form r xs e f) s ≡ den g j f (with_side s r (assigned g.types (memory_of s r) xs (valued g s e (memory_of s r))))
    assigned_meaning es off xs e w t l f u n =
        let y = all_clear es d f u.typed r i xs (none_found es r f xs n) in
        let k = are_taken xs e w t l in
        ap (λ cs. den g j (term_changed f cs) s) (sym (changes_are r given xs (taken xs e)))
        ∙ ap truth (substituted d g (fits_reframed c g fits F L K) j fair y.0 f u.typed y.1 s fit (writes r given xs (taken xs e)) (each_write y.0 xs (taken xs e) k (y.2 g off)))
        ∙ ap (den g j f) (ends s given xs (taken xs e) k ∙ ap (with_side s r) (taken_values xs e w t l))
