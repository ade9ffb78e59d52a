-- What typed terms in place of variables do to the meaning of a form.
use Rattle.std.proofs.Common.{◌≡◌, inr, Bool, true, false, ◌&&◌, List, [], ◌∷◌, Option, Some, None, refl, ap, sym, ◌∙◌, subst, arith}
use Rattle.std.specs.List.{AllByRecursion}
use Rattle.std.proofs.lemmas.Bool.{false≢true, and_parts}
use Rattle.gb_core.specs.declared.ty.Ty.{Ty}
use Rattle.gb_core.specs.declared.ty.Ty.TheVariants as ty
use Rattle.gb_core.specs.declared.var.Var.{Var}
use Rattle.gb_core.specs.declared.var.Var.TheVariants as var
use Rattle.gb_terms.specs.declared.op.Side.{Side}
use Rattle.gb_terms.specs.declared.op.Side.TheVariants as side
use Rattle.gb_terms.specs.declared.op.Read.{Read}
use Rattle.gb_terms.specs.declared.op.Read.TheVariants.{Logical, Program}
use Rattle.gb_terms.specs.declared.term.Term.{Term}
use Rattle.gb_terms.specs.declared.term.Head.TheVariants as head
use Rattle.gb_walk.specs.Change.{is_own, is_left_or_right, term_changed}
use Rattle.gb_meaning.specs.Values.{has}
use Rattle.gb_meaning.specs.Memory.{read, write}
use Rattle.gb_meaning.specs.Setting.{Setting}
use Rattle.gb_meaning.specs.Setting.Meaning.{finite}
use Rattle.gb_meaning.specs.Meanings.{value_in}
use Rattle.gb_meaning.specs.State.{State}
use Rattle.gb_meaning.specs.Terms.{Speaks, quiet, val}
use Rattle.gb_meaning.specs.Judgments.{Judge, IsFair, speaking}
use Rattle.gb_meaning.specs.Written.{type_of}
use Rattle.gb_core.proofs.SameTypes.{ty_eq-Decides}
use Rattle.gb_laws.specs.Led.{IsPut, ArePut}
use Rattle.gb_laws.specs.Uses.{Uses, IsWithin}
use Rattle.gb_laws.specs.Uses.Use.{read as read_of}
use Rattle.gb_laws.specs.Written.{IsSide, Written, written_changes, all_written}
use Rattle.gb_laws.proofs.Agreeing.{ignores_own, ignores_sides}
use Rattle.gb_laws.proofs.Forms.{form_followed}
use Rattle.gb_laws.proofs.Quiet.{plain_quiet}
use Rattle.gb_laws.specs.Finite.{IsFinite}
use Rattle.gb_laws.specs.Operators.{IsNoDistribution}
use Rattle.gb_laws.specs.Context.{IsFractional}
use Rattle.gb_laws.proofs.Denominators.{denominator_one}
use Rattle.gb_laws.proofs.Terms.{typed_value, typed_has}
use Rattle.gb_typing.specs.Context.{Frame, Context, erased, frame_of, local_in, with_own, with_sides}
use Rattle.gb_typing.specs.Typing.{IsIn, IsNamed, IsTyped}
use Rattle.gb_typing.specs.Fits.{IsSettingOf, IsStateOf}
use Rattle.gb_typing.specs.Puts.{Readable, every_variable, reading, IsPutFor, IsTypedWrite}
use Rattle.gb_typing.proofs.Both.{both, within_both}
use Rattle.gb_typing.proofs.Erased.{erased_typed}
use Rattle.gb_typing.proofs.Formed.{formed}
use Rattle.gb_typing.proofs.Sound.{procedures_sound, sound_form}
use Rattle.gb_typing.proofs.Uses.{reads_found, term_within, is_type, reads_in, is_place, uses_of, uses_typed, admits_besides_own, admits_besides_sides}
use Rattle.gb_typing.proofs.Globals.{IsWholeAt, read_back}
use Rattle.gb_typing.proofs.Writing.{IsWritten, led_all_written}

pub finite_no_distribution : (t : Ty) → IsFinite t → IsNoDistribution t
finite_no_distribution (ty.Distr' p x) f = absurd f
finite_no_distribution ty.Unit f = tt
finite_no_distribution ty.Bool f = tt
finite_no_distribution (ty.Bits n) f = tt
finite_no_distribution (ty.Mod n) f = tt
finite_no_distribution (ty.Enumeration name n) f = tt
finite_no_distribution (ty.Tuple' n ts) f = tt
finite_no_distribution (ty.Opt' p x) f = tt
finite_no_distribution (ty.Map' p k q x) f = tt
finite_no_distribution (ty.Abstract n) f = tt
finite_no_distribution (ty.Glob n) f = tt
finite_no_distribution ty.Int f = tt
finite_no_distribution ty.Real f = tt

pub quiet_fractional : IsFractional quiet
quiet_fractional p xs m event = omega arith

same_type : (o : Option Ty) (t u : Ty) → o ≡ Some t → is_type o u ≡ true → t ≡ u
same_type o t u e h = (ty_eq-Decides t u).0 (sym (ap (λ o. is_type o u) e) ∙ h)

no_start : (r : Side) → IsSide r → (b : Bool) → (is_place r && b) ≡ false
no_start side.Own i b = refl
no_start side.Left i b = refl
no_start side.Right i b = refl
no_start (side.Memory k) i b = absurd i
no_start (side.Bound k) i b = absurd i

-- all globals of a module are read at their type
whole_type : (c : Context) (x : Var) (f : Frame) (t : Ty) → IsIn c f x t → IsWholeAt x t
whole_type c (var.Glob a) f t w = w.2
whole_type c (var.Global m x) f t w = tt
whole_type c (var.Local x) f t w = tt

-- a typed form of whose reads nothing else is known
pub reads_any : (c : Context) (f : Term) → IsTyped c f → IsWithin (reading every_variable) f
reads_any c f w = term_within true (reading every_variable) c (record { reads = any; bounds = λ i t k. refl; places = λ r k p. refl; own = λ b. refl; sides = λ b. refl }) f (inr refl) w
  where
    any : (r : Read) (t : Ty) → IsNamed c (head.Read r) t → reading every_variable (read_of r t) ≡ true
    any (Logical i) t k = refl
    any (Program x r) t k = refl

module _ (c : Context) (g : Setting) (fits : IsSettingOf c g) where
  -- a typed term has a value of its type in each state that fits
  pub term_value : (t : Term) → IsTyped c t → IsFinite (type_of t) → (s : State) → IsStateOf c g s → val g quiet t s ≡ finite (value_in (val g quiet t s))
  term_value t w n s q = typed_value (erased c) g fits.types quiet quiet_fractional t (erased_typed c t w) n s q

  pub term_has : (t : Term) → IsTyped c t → IsFinite (type_of t) → (s : State) → IsStateOf c g s → has g.types (type_of t) (value_in (val g quiet t s)) ≡ true
  term_has t w n s q = typed_has (erased c) g fits.types quiet quiet_fractional t (erased_typed c t w) n s q

  pub put_typed : (x : Var) (r : Side) (t : Term) → IsPutFor c x r t → IsTyped c t
  put_typed x r t p = p.typed c.own c.left c.right ((λ e. refl), (λ e. (refl, refl)))

  put_own : (x : Var) (r : Side) (t : Term) → IsPutFor c x r t → is_own r ≡ false → IsTyped (with_own c None) t
  put_own x r t p e = p.typed None c.left c.right ((λ h. absurd (false≢true (sym e ∙ h))), (λ h. (refl, refl)))

  put_sides : (x : Var) (r : Side) (t : Term) → IsPutFor c x r t → is_left_or_right r ≡ false → IsTyped (with_sides c None None) t
  put_sides x r t p e = p.typed c.own None None ((λ h. refl), (λ h. absurd (false≢true (sym e ∙ h))))

  pub put_of : (x : Var) (r : Side) (t : Term) → IsPutFor c x r t → IsPut g t
  put_of x r t p = record {
    formed = formed c t (put_typed x r t p);
    plain = p.plain;
    denominator = denominator_one g (erased c) t (erased_typed c t (put_typed x r t p)) (finite_no_distribution (type_of t) p.finite);
  }

  pub puts : (P : Readable) (s : State) (ws : List Written) → AllByRecursion (IsTypedWrite P c g s) ws → ArePut g (written_changes ws)
  puts P s [] h = tt
  puts P s (w ∷ ws) h = (put_of w.variable w.side w.term h.0.put, puts P s ws h.1)

  module _ (P : Readable) (j : Speaks) (s : State) (q : IsStateOf c g s) where
    abbrev used : Uses
    used = both (uses_of c) (reading P)

    -- a variable is read at its type alone
    read_typed : (x : Var) (r : Side) (t : Term) (u : Ty) → IsIn c (frame_of c r) x (type_of t) → reads_in c (frame_of c r) x u ≡ true → type_of t ≡ u
    read_typed (var.Local x) r t u e h = same_type (local_in (frame_of c r) x) (type_of t) u e h
    read_typed (var.Global m x) r t u e h = same_type (c.global m x) (type_of t) u e.1 (and_parts _ _ h).1
    read_typed (var.Glob a) r t u e h = let x = reads_found c (frame_of c r) (var.Glob a) u h in e.2 ∙ sym x.2

    written : (w : Written) → IsTypedWrite P c g s w → IsWritten g j used s w
    written w k = record {
      side = k.put.side;
      means = plain_quiet g j w.term k.put.plain s ∙ term_value w.term (put_typed w.variable w.side w.term k.put) k.put.finite s q ∙ sym (ap finite k.value);
      back = λ u h m. subst (λ u. read g.types (write g.types m w.variable w.value) w.variable u ≡ w.value) (read_typed w.variable w.side w.term u k.put.type (and_parts _ _ h).0)
          (subst (λ v. read g.types (write g.types m w.variable v) w.variable (type_of w.term) ≡ v) (sym k.value)
          (read_back g.types fits.types.inhabited fits.once w.variable (type_of w.term) (whole_type c w.variable (frame_of c w.side) (type_of w.term) k.put.type) m _ (term_has w.term (put_typed w.variable w.side w.term k.put) k.put.finite s q)));
      others = λ y u h x i. let z = and_parts (reads_in c (frame_of c w.side) y u) (P w.side y) h in k.spares y u (reads_found c (frame_of c w.side) y u z.0) z.1 x i;
      globals = λ m. refl;
      starts = ap (λ z. z && true) (no_start w.side k.put.side _);
      own = λ e. ignores_own g j w.term (formed c w.term (put_typed w.variable w.side w.term k.put)) k.put.plain (term_within true _ (with_own c None) (admits_besides_own c) w.term (inr refl) (put_own w.variable w.side w.term k.put e));
      sides = λ e. ignores_sides g j w.term (formed c w.term (put_typed w.variable w.side w.term k.put)) k.put.plain (term_within true _ (with_sides c None None) (admits_besides_sides c) w.term (inr refl) (put_sides w.variable w.side w.term k.put e));
    }

    pub all_typed_written : (ws : List Written) → AllByRecursion (IsTypedWrite P c g s) ws → AllByRecursion (IsWritten g j used s) ws
    all_typed_written [] h = tt
    all_typed_written (w ∷ ws) h = (written w h.0, all_typed_written ws h.1)

  -- A form with typed terms in place of variables means what it means after the writes of their values.
  pub substituted : (j : Judge) → IsFair g j → (P : Readable) (f : Term) → IsTyped c f → IsWithin (reading P) f → (s : State) → IsStateOf c g s → (ws : List Written) →
      AllByRecursion (IsTypedWrite P c g s) ws → val g (speaking g j) (term_changed f (written_changes ws)) s ≡ val g (speaking g j) f (all_written g s ws)
  substituted j fair P f w k s q ws h =
      let used = both (uses_of c) (reading P) in
      form_followed g j fair f (formed c f w) (sound_form g c (procedures_sound c g fits) f w) (written_changes ws) used s (all_written g s ws)
      (puts P s ws h) (led_all_written g (speaking g j) used s ws (all_typed_written P (speaking g j) s q ws h)) (within_both (uses_of c) (reading P) f (uses_typed c f w) k)
