-- The frame in which a procedure starts gives its parameters their arguments.
use Rattle.std.proofs.Common.{◌≡◌, ◌≢◌, Bool, true, false, if◌then◌else◌, List, [], ◌∷◌, ◌++◌, map, get_or, Option, Some, None, bytes_eq, refl, ap, sym, ◌∙◌}
use Rattle.std.proofs.lemmas.Bool.{false≢true}
use Rattle.std.proofs.lemmas.Slice.Eq.{bytes_eq-Decides}
use Rattle.gb_core.specs.declared.ty.Ty.{Ty}
use Rattle.gb_core.specs.declared.value.Value.{Value}
use Rattle.gb_terms.specs.declared.decl.Proc.{Proc}
use Rattle.gb_terms.specs.declared.decl.TypedName.{TypedName}
use Rattle.gb_terms.specs.declared.term.Term.{Term}
use Rattle.gb_meaning.specs.Names.{Name, Map, get}
use Rattle.gb_meaning.specs.Values.{Types, first, has, fit}
use Rattle.gb_meaning.specs.Memory.{Memory, read_local, arguments, first_values}
use Rattle.gb_meaning.specs.Setting.{Setting}
use Rattle.gb_meaning.specs.State.{State, at, between}
use Rattle.gb_meaning.specs.Judgments.{Judge, IsFair, den}
use Rattle.gb_meaning.specs.Written.{local_type}
use Rattle.gb_meaning.proofs.Maps.{get-set_same, get-set_other}
use Rattle.gb_typing.specs.Context.{Context, with_own, with_sides}
use Rattle.gb_typing.specs.Fits.{IsSettingOf}
use Rattle.gb_typing.specs.Programs.{locals_of}
use Rattle.gb_typing.specs.Typing.{IsForm}
use Rattle.gb_typing.proofs.Fitting.{fits_reframed}
use Rattle.gb_typing.proofs.Scripts.{none_some, same_some}
use Rattle.gb_typing.specs.Calls.{start}
use Rattle.gb_typing.proofs.Widened.{IsMore, same_frame, widened, IsSameIn, same_in, same_form}

either : {A : Type 0} (b : Bool) (x : A) → (if b then x else x) ≡ x
either true x = refl
either false x = refl

module _ (t : Types) (ty : Ty) where
  fitted : (v : Value) (b : Bool) → has t ty v ≡ b → fit t ty (Some (if b then v else first t ty)) ≡ (if b then v else first t ty)
  fitted v true e = ap (λ b. if b then v else first t ty) e
  fitted v false e = either (has t ty (first t ty)) (first t ty)

  -- what fits a type fits it again
  fit_twice : (o : Option Value) → fit t ty (Some (fit t ty o)) ≡ fit t ty o
  fit_twice None = either (has t ty (first t ty)) (first t ty)
  fit_twice (Some v) = fitted v (has t ty v) refl

other_path : (x y : Name) → bytes_eq x y ≡ false → (x ∷ []) ≢ (y ∷ [])
other_path x y e w = false≢true (sym e ∙ (bytes_eq-Decides x y).1 (ap (λ l. get_or l 0 []) w))

module _ (t : Types) (m : Memory) (f : Map) (x : Name) (ty : Ty) where
  abbrev frame : List TypedName → Map
  frame ps = arguments f ps (map (λ (p : TypedName). read_local t m p.name p.ty) ps)

  first_parameter : (p : TypedName) (ps : List TypedName) (b : Bool) → bytes_eq x p.name ≡ b → (if b then Some p.ty else local_type ps x) ≡ Some ty →
      (local_type ps x ≡ Some ty → fit t ty (get (frame ps) (x ∷ [])) ≡ read_local t m x ty) → fit t ty (get (frame (p ∷ ps)) (x ∷ [])) ≡ read_local t m x ty
  first_parameter p ps true e h rec =
      let n : x ≡ p.name = (bytes_eq-Decides x p.name).0 e in
      let k : ty ≡ p.ty = sym (same_some p.ty ty h) in
      (λ i. fit t (k i) (get (frame (p ∷ ps)) (n i ∷ [])))
      ∙ ap (fit t p.ty) (get-set_same (frame ps) (p.name ∷ []) (read_local t m p.name p.ty))
      ∙ fit_twice t p.ty (get m.frame (p.name ∷ []))
      ∙ sym (λ i. read_local t m (n i) (k i))
  first_parameter p ps false e h rec =
      ap (fit t ty) (get-set_other (frame ps) (p.name ∷ []) (read_local t m p.name p.ty) (x ∷ []) (other_path x p.name e)) ∙ rec h

  parameter_read : (ps : List TypedName) → local_type ps x ≡ Some ty → fit t ty (get (frame ps) (x ∷ [])) ≡ read_local t m x ty
  parameter_read [] h = none_some ty h
  parameter_read (p ∷ ps) h = first_parameter p ps (bytes_eq x p.name) refl h (λ k. parameter_read ps k)

local_front : (ls ms : List TypedName) (x : Name) (ty : Ty) → local_type ls x ≡ Some ty → local_type (ls ++ ms) x ≡ Some ty
local_front [] ms x ty e = none_some ty e
local_front (l ∷ ls) ms x ty e = step (bytes_eq x l.name) (λ e. local_front ls ms x ty e) e
  where
    step : (b : Bool) → (local_type ls x ≡ Some ty → local_type (ls ++ ms) x ≡ Some ty) → (if b then Some l.ty else local_type ls x) ≡ Some ty → (if b then Some l.ty else local_type (ls ++ ms) x) ≡ Some ty
    step true f e = e
    step false f e = f e

-- the parameters are locals
more_locals : (p : Proc) → IsMore (Some p.params) (Some (locals_of p))
more_locals p = record { there = λ w. tt; locals = local_front p.params p.locals }

-- the body starts with the arguments
started : (g : Setting) (p : Proc) (m : Memory) → IsSameIn g (Some p.params) m (start g p m)
started g p m = record { globals = refl; locals = λ x ty e. sym (parameter_read g.types m (first_values g.types p.locals) x ty p.params e) }

module _ (c : Context) where
  -- what is said of the parameters is a form on the locals, and is so of the memory in which the body starts
  pub one_start_typed : (p : Proc) (f : Term) → IsForm (with_own c (Some p.params)) f → IsForm (with_own c (Some (locals_of p))) f
  one_start_typed p f w =
      widened (with_own c (Some p.params)) (record { own = Some (locals_of p); left = c.left; right = c.right }) (record { own = more_locals p; left = same_frame c.left; right = same_frame c.right }) f w

  pub two_starts_typed : (a b : Proc) (f : Term) → IsForm (with_sides c (Some a.params) (Some b.params)) f → IsForm (with_sides c (Some (locals_of a)) (Some (locals_of b))) f
  two_starts_typed a b f w =
      widened (with_sides c (Some a.params) (Some b.params)) (record { own = c.own; left = Some (locals_of a); right = Some (locals_of b) })
      (record { own = same_frame c.own; left = more_locals a; right = more_locals b }) f w

  module _ (g : Setting) (fits : IsSettingOf c g) (j : Judge) (fair : IsFair g j) (s : State) where
    pub one_start : (p : Proc) (f : Term) → IsForm (with_own c (Some p.params)) f → (m : Memory) → den g j f (at s m) ≡ den g j f (at s (start g p m))
    one_start p f w m =
        same_form (with_own c (Some p.params)) g (fits_reframed c g fits (Some p.params) c.left c.right) j fair s m s.left s.right (start g p m) s.left s.right
        (started g p m) (same_in g c.left s.left) (same_in g c.right s.right) f w

    pub two_starts : (a b : Proc) (f : Term) → IsForm (with_sides c (Some a.params) (Some b.params)) f → (m n : Memory) → den g j f (between s m n) ≡ den g j f (between s (start g a m) (start g b n))
    two_starts a b f w m n =
        same_form (with_sides c (Some a.params) (Some b.params)) g (fits_reframed c g fits c.own (Some a.params) (Some b.params)) j fair s s.own m n s.own (start g a m) (start g b n)
        (same_in g c.own s.own) (started g a m) (started g b n) f w
