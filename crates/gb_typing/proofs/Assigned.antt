-- A program's term in place of a variable: typing and meaning.
use Rattle.std.proofs.Common.{◌≡◌, Bool, true, false, [], ◌∷◌, List, Option, Some, None, refl, ap, sym, ◌∙◌, subst}
use Rattle.std.proofs.lemmas.Bool.{false≢true}
use Rattle.gb_core.specs.declared.ty.Ty.{Ty}
use Rattle.gb_core.specs.declared.var.Var.{Var}
use Rattle.gb_core.specs.declared.var.Var.TheVariants as var
use Rattle.gb_core.specs.declared.value.Value.TheVariants.{Num}
use Rattle.gb_terms.specs.declared.decl.TypedName.{TypedName}
use Rattle.gb_terms.specs.declared.op.Side.{Side}
use Rattle.gb_terms.specs.declared.op.Side.TheVariants as side
use Rattle.gb_terms.specs.declared.op.Read.TheVariants.{Program}
use Rattle.gb_terms.specs.declared.term.Term.{Term}
use Rattle.gb_meaning.specs.Memory.{write}
use Rattle.gb_meaning.specs.Setting.{Setting}
use Rattle.gb_meaning.specs.Meanings.{value_in, truth}
use Rattle.gb_meaning.specs.State.{State, memory_of}
use Rattle.gb_meaning.specs.Terms.{quiet}
use Rattle.gb_meaning.specs.Runs.{valued}
use Rattle.gb_meaning.specs.Judgments.{Judge, IsFair, den}
use Rattle.gb_meaning.specs.Written.{type_of}
use Rattle.gb_laws.specs.Uses.{IsWithin}
use Rattle.gb_laws.specs.Written.{with_side, IsSide, Written}
use Rattle.gb_laws.specs.Finite.{IsFinite}
use Rattle.gb_laws.specs.Programs.{variable_type}
use Rattle.gb_typing.specs.Context.{Context, Frame, erased, frame_of, local_in, reframed}
use Rattle.gb_typing.specs.Typing.{IsFrame, IsIn, IsForm}
use Rattle.gb_typing.specs.Programs.{IsValued}
use Rattle.gb_typing.specs.Changes.{Made}
use Rattle.gb_typing.specs.Fits.{IsSettingOf, IsStateOf}
use Rattle.gb_typing.specs.Puts.{Keeps, IsPutFor, Readable, reading}
use Rattle.gb_typing.proofs.Clashes.{left_of_no_clash}
use Rattle.gb_typing.proofs.Fitting.{fits_reframed}
use Rattle.gb_typing.proofs.Puts.{substituted_typed}
use Rattle.gb_typing.proofs.Substituted.{substituted}
use Rattle.gb_typing.specs.Forms.{located, replaced, IsAlone}
use Rattle.gb_typing.proofs.InMemory.{located_plain, located_typed, located_value}

none_some : {P : Type 0} (t : Ty) → None ≡ Some t → P
none_some t e = absurd (false≢true (ap is_some e))
  where
    is_some : Option Ty → Bool
    is_some None = false
    is_some (Some t) = true

module _ (c : Context) (ls : List TypedName) (F L K : Frame) where
  abbrev pub around : Context
  around = reframed c F L K

  frame_kept : (x : Var) (r : Side) → IsSide r → (f l k : Frame) → Keeps (Program x r) around f l k → frame_of (reframed c f l k) r ≡ frame_of around r
  frame_kept x side.Own i f l k keeps = keeps.0 refl
  frame_kept x side.Left i f l k keeps = (keeps.1 refl).0
  frame_kept x side.Right i f l k keeps = (keeps.1 refl).1
  frame_kept x (side.Memory n) i f l k keeps = absurd i
  frame_kept x (side.Bound n) i f l k keeps = absurd i

  pub variable_in : (x : Var) (r : Side) (t : Ty) → frame_of around r ≡ Some ls → variable_type (erased c) ls x ≡ Some t → IsIn around (frame_of around r) x t
  variable_in (var.Local x) r t frame e = subst (λ o. local_in o x ≡ Some t) (sym frame) e
  variable_in (var.Global m x) r t frame e = (subst IsFrame (sym frame) tt, e)
  variable_in (var.Glob a) r t frame e = none_some t e

  module _ (r : Side) (i : IsSide r) (frame : frame_of around r ≡ Some ls) (x : Var) (e : Term) (w : IsValued c ls e) (t : variable_type (erased c) ls x ≡ Some (type_of e)) where
    written_type : type_of (located r e) ≡ type_of e
    written_type = let m : Made around (type_of e) (located r e) = located_typed c ls e w.expression F L K r i frame in m.written

    pub located_put : IsPutFor around x r (located r e)
    located_put = record {
      side = i;
      type = subst (IsIn around (frame_of around r) x) (sym written_type) (variable_in x r (type_of e) frame t);
      finite = subst IsFinite (sym written_type) w.finite;
      plain = located_plain r e w.expression.plain;
      typed = λ f l k keeps. let m : Made (reframed c f l k) (type_of e) (located r e) = located_typed c ls e w.expression f l k r i (frame_kept x r i f l k keeps ∙ frame) in m.typed;
    }

    -- the form stays well typed
    pub replaced_typed : (f : Term) → IsForm around f → IsForm around (replaced r x e f)
    replaced_typed f u =
        let ws : List Written = record { variable = x; side = r; term = located r e; value = Num 0 } ∷ [] in
        let m = substituted_typed around f u.typed ws (located_put, tt) in
        record { typed = m.typed; truth = m.written ∙ u.truth }

    -- it says what the form says after the assignment
    pub replaced_meaning : (g : Setting) → IsSettingOf c g → (j : Judge) → IsFair g j → (P : Readable) → IsAlone g x (P r) → (f : Term) → IsForm around f → IsWithin (reading P) f → (s : State) → IsStateOf around g s →
        den g j (replaced r x e f) s ≡ den g j f (with_side s r (write g.types (memory_of s r) x (valued g s e (memory_of s r))))
    replaced_meaning g fits j fair P alone f u k s q =
        let ws : List Written = record { variable = x; side = r; term = located r e; value = valued g s e (memory_of s r) } ∷ [] in
        ap truth (substituted around g (fits_reframed c g fits F L K) j fair P f u.typed k s q ws
        (record { put = located_put; spares = λ y t h p n z. left_of_no_clash g x y t (alone y p n); value = sym (ap value_in (located_value c ls e w.expression g quiet s r i)) }, tt))
