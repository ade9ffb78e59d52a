-- What a memory of a goal reads of the outcome of a call, and after the call has returned.
use Rattle.std.proofs.Common.{◌≡◌, ◌⊎◌, inl, inr, Bool, true, false, if◌then◌else◌, List, [], ◌∷◌, Some, None, refl, ap, sym, ◌∙◌}
use Rattle.std.specs.List.{AllByRecursion}
use Rattle.gb_core.specs.declared.ty.Ty.{Ty}
use Rattle.gb_core.specs.declared.value.Value.{Value}
use Rattle.gb_core.specs.declared.var.Var.{Var}
use Rattle.gb_core.specs.declared.var.Var.TheVariants as var
use Rattle.gb_terms.specs.declared.decl.TypedName.{TypedName}
use Rattle.std.specs.Prelude.{bytes_eq}
use Rattle.std.proofs.lemmas.Slice.Eq.{bytes_eq-Decides}
use Rattle.gb_meaning.specs.Judgments.{Judge, IsFair}
use Rattle.gb_meaning.specs.Memory.{Memory, assigned, read, write, result_name}
use Rattle.gb_meaning.specs.Names.{Name}
use Rattle.gb_meaning.specs.Setting.{Setting}
use Rattle.gb_meaning.specs.State.{State}
use Rattle.gb_meaning.specs.Values.{has}
use Rattle.gb_meaning.specs.Written.{local_type}
use Rattle.gb_laws.proofs.Leaves.{assigned_left}
use Rattle.gb_laws.specs.Finite.{IsFinite}
use Rattle.gb_laws.specs.Programs.{Take}
use Rattle.gb_typing.specs.Context.{Context, Frame, erased, reframed}
use Rattle.gb_typing.specs.Fits.{IsSettingOf, IsStateOf}
use Rattle.gb_typing.specs.Puts.{clash}
use Rattle.gb_typing.specs.Typing.{IsIn}
use Rattle.gb_typing.specs.Forms.{IsAlone}
use Rattle.gb_typing.specs.Rules.{outermost}
use Rattle.gb_typing.proofs.Scripts.{none_some}
use Rattle.gb_prog.specs.Writes.{DifferIn, IsApart, IsOneOf, TypedVariable, overwritten, AreIn}
use Rattle.gb_prog.proofs.Frames.{frame_read, reads_as}
use Rattle.gb_prog.proofs.Writes.{apart_read}
use Rattle.gb_call.proofs.AfterMeans.{IsOneIn, assigned_alike}
use Rattle.gb_call.proofs.Callees.{alone_local}

-- what is read of an outcome besides globals
abbrev pub result_frame : Ty → List TypedName
result_frame R = record { name = result_name; ty = R } ∷ []

abbrev pub result_variable : Ty → TypedVariable
result_variable R = record { variable = var.Local result_name; ty = R }

pub is_result : (R : Ty) (x : Name) (t : Ty) → local_type (result_frame R) x ≡ Some t → var.Local result_name ≡ var.Local x
is_result R x t e = by_test (bytes_eq x result_name) refl e
  where
    by_test : (c : Bool) → bytes_eq x result_name ≡ c → (if c then Some R else None) ≡ Some t → var.Local result_name ≡ var.Local x
    by_test true d e = ap var.Local (sym ((bytes_eq-Decides x result_name).0 d))
    by_test false d e = none_some t e

-- globals stand in each memory
pub anywhere : (b : Context) (F L K : Frame) (f : List TypedName) (x : Var) (t : Ty) → IsIn (outermost b) (Some []) x t → IsIn (reframed (outermost b) F L K) (Some f) x t
anywhere b F L K f (var.Local x) t w = none_some t w
anywhere b F L K f (var.Global m x) t w = w
anywhere b F L K f (var.Glob a) t w = w

all_anywhere : (b : Context) (F L K : Frame) (f : List TypedName) (V : List TypedVariable) → AreIn (outermost b) (Some []) V → AreIn (reframed (outermost b) F L K) (Some f) V
all_anywhere b F L K f [] h = tt
all_anywhere b F L K f (w ∷ V) h = ((anywhere b F L K f w.variable w.ty h.0.0, h.0.1), all_anywhere b F L K f V h.1)

module _ (b : Context) (F L K : Frame) (g : Setting) (fits : IsSettingOf (reframed (outermost b) F L K) g) (m n : Memory) (U : List Var)
    (differs : DifferIn g.types U m (record { globals = n.globals; frame = m.frame })) (W : List TypedVariable) (global : AreIn (outermost b) (Some []) W) where
  abbrev c : Context
  c = reframed (outermost b) F L K

  -- the globals of the outcome, and the frame of the caller
  abbrev base : Memory
  base = record { globals = n.globals; frame = m.frame }

  -- What is said of the outcome reads the result, globals of W, and what is as before.
  module _ (Q : Var → Bool) (read_said : (y : Var) → Q y ≡ true → IsApart g U y ⊎ IsOneOf y W) (alone : AllByRecursion (λ w. IsAlone g w.variable Q) W) where
    start : (y : Var) (t : Ty) → read g.types base y t ≡ read g.types n y t → IsApart g U y ⊎ IsOneOf y W → (read g.types m y t ≡ read g.types n y t) ⊎ IsOneOf y W
    start y t e (inl i) = inl (sym (apart_read g U m base differs y t i) ∙ e)
    start y t e (inr o) = inr o

    further : (R : Ty) (y : Var) (t : Ty) → (read g.types m y t ≡ read g.types n y t) ⊎ IsOneOf y W → (read g.types m y t ≡ read g.types n y t) ⊎ IsOneOf y (result_variable R ∷ W)
    further R y t (inl e) = inl e
    further R y t (inr o) = inr (inr o)

    pub said_without_result : (y : Var) (t : Ty) → IsIn c (Some []) y t → Q y ≡ true → read g.types (overwritten g.types W n m) y t ≡ read g.types n y t
    said_without_result (var.Local x) t i p = none_some t i
    said_without_result (var.Global k x) t i p =
        reads_as c g fits (Some []) Q n (var.Global k x) t i p W alone (all_anywhere b F L K [] W global) m (start (var.Global k x) t refl (read_said (var.Global k x) p))
    said_without_result (var.Glob a) t i p = reads_as c g fits (Some []) Q n (var.Glob a) t i p W alone (all_anywhere b F L K [] W global) m (start (var.Glob a) t refl (read_said (var.Glob a) p))

    pub said_with_result : (R : Ty) → IsFinite R → (y : Var) (t : Ty) → IsIn c (Some (result_frame R)) y t → Q y ≡ true → read g.types (overwritten g.types (result_variable R ∷ W) n m) y t ≡ read g.types n y t
    said_with_result R fin y t i p =
        reads_as c g fits (Some (result_frame R)) Q n y t i p (result_variable R ∷ W) ((λ r p f. alone_local g result_name r f), alone) ((refl, fin), all_anywhere b F L K (result_frame R) W global) m (first y i p)
      where
        first : (y : Var) → IsIn c (Some (result_frame R)) y t → Q y ≡ true → (read g.types m y t ≡ read g.types n y t) ⊎ IsOneOf y (result_variable R ∷ W)
        first (var.Local x) i p = inr (inl (is_result R x t i))
        first (var.Global k x) i p = further R (var.Global k x) t (start (var.Global k x) t refl (read_said (var.Global k x) p))
        first (var.Glob a) i p = further R (var.Glob a) t (start (var.Glob a) t refl (read_said (var.Glob a) p))

  global_same : (x : Var) (t : Ty) → IsIn (outermost b) (Some []) x t → read g.types n x t ≡ read g.types base x t
  global_same (var.Local x) t i = none_some t i
  global_same (var.Global p x) t i = refl
  global_same (var.Glob a) t i = refl

  same_overwritten : (V : List TypedVariable) → AreIn (outermost b) (Some []) V → overwritten g.types V n m ≡ overwritten g.types V base m
  same_overwritten [] h = refl
  same_overwritten (w ∷ V) h = λ i. write g.types (same_overwritten V h.1 i) w.variable (global_same w.variable w.ty h.0.0 i)

  -- What is to hold after the call reads variables of the left side, globals of W, and what is as before.
  module _ (P : Var → Bool) (ls : List TypedName) (alone : AllByRecursion (λ w. IsAlone g w.variable P) W) where
    base_reads : (y : Var) (t : Ty) → IsIn c (Some ls) y t → P y ≡ true → IsApart g U y ⊎ IsOneOf y W → read g.types (overwritten g.types W n m) y t ≡ read g.types base y t
    base_reads y t i p o =
        ap (λ z. read g.types z y t) (same_overwritten W global)
        ∙ sym (frame_read c g fits (Some ls) P base y t i p U W o alone (all_anywhere b F L K ls W global) m differs)

    pub ends_without_result : (xs : List Var) (r : Value) → ((y : Var) → P y ≡ true → IsApart g xs y × (IsApart g U y ⊎ IsOneOf y W)) → (y : Var) (t : Ty) → IsIn c (Some ls) y t → P y ≡ true →
        read g.types (overwritten g.types W n m) y t ≡ read g.types (assigned g.types base xs r) y t
    ends_without_result xs r covers y t i p =
        base_reads y t i p (covers y p).1
        ∙ sym (apart_read g xs base (assigned g.types base xs r) (λ k z. assigned_left g.types k xs r z base) y t (covers y p).0)

    pub ends_with_result : (inner : IsSettingOf (outermost b) g) (j : Judge) → IsFair g j → (s : State) → IsStateOf (outermost b) g s → (R : Ty) (xs : List Var) → Take (erased (outermost b)) ls xs R → (r : Value) → has g.types R r ≡ true →
        AllByRecursion (λ x. IsAlone g x P) xs → ((y : Var) → P y ≡ true → IsOneIn y xs ⊎ (IsApart g U y ⊎ IsOneOf y W)) → (y : Var) (t : Ty) → IsIn c (Some ls) y t → P y ≡ true →
        read g.types (assigned g.types (overwritten g.types W n m) xs r) y t ≡ read g.types (assigned g.types base xs r) y t
    ends_with_result inner j fair s fit R xs take r has_type alone_left covers y t i p =
        assigned_alike b ls R W global g inner j fair s fit m n U differs (λ r. P) alone y t xs r take has_type (free xs alone_left) (overwritten g.types W n m) base (by_place (covers y p))
      where
        free : (zs : List Var) → AllByRecursion (λ x. IsAlone g x P) zs → AllByRecursion (λ x. (x ≡ y → ⊥) → clash g x y ≡ false) zs
        free [] a = tt
        free (z ∷ zs) a = (a.0 y p, free zs a.1)

        by_place : IsOneIn y xs ⊎ (IsApart g U y ⊎ IsOneOf y W) → IsOneIn y xs ⊎ (read g.types (overwritten g.types W n m) y t ≡ read g.types base y t)
        by_place (inl o) = inl o
        by_place (inr o) = inr (base_reads y t i p o)
