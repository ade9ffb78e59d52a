-- Equations of two memories are forms.
use Rattle.std.proofs.Common.{◌≡◌, Bool, true, false, if◌then◌else◌, List, [], ◌∷◌, Some, bytes_eq, refl, ap, sym, ◌∙◌, subst}
use Rattle.std.specs.List.{AllByRecursion}
use Rattle.std.proofs.lemmas.Bool.{and_parts}
use Rattle.std.proofs.lemmas.Option.{none-some}
use Rattle.std.proofs.lemmas.Slice.Eq.{bytes_eq-Decides}
use Rattle.gb_core.specs.SameTypes.{ty_eq}
use Rattle.gb_core.proofs.SameTypes.{ty_eq-Decides}
use Rattle.gb_core.specs.declared.ty.Ty.{Ty}
use Rattle.gb_core.specs.declared.ty.Ty.TheVariants as ty
use Rattle.gb_core.specs.declared.var.Var.{Var}
use Rattle.gb_core.specs.declared.var.Var.TheVariants as var
use Rattle.gb_terms.specs.declared.decl.TypedName.{TypedName}
use Rattle.gb_terms.specs.declared.op.Read.TheVariants.{Program}
use Rattle.gb_terms.specs.declared.op.Side.TheVariants as side
use Rattle.gb_terms.specs.declared.term.Head.TheVariants as head
use Rattle.gb_terms.specs.declared.term.Term.{Term}
use Rattle.gb_goal.specs.Interfaces.{same_params as have_same_types}
use Rattle.gb_meaning.specs.Memory.{result_name}
use Rattle.gb_meaning.specs.Names.{Name}
use Rattle.gb_meaning.specs.Written.{local_type, type_of}
use Rattle.gb_laws.specs.Finite.{IsFinite}
use Rattle.gb_laws.specs.Typing.{IsRead}
use Rattle.gb_typing.specs.Changes.{Made}
use Rattle.gb_typing.specs.Context.{Context, Frame, erased, with_sides}
use Rattle.gb_typing.specs.Forms.{and_form, equal_form, located}
use Rattle.gb_typing.specs.Programs.{AreArguments}
use Rattle.gb_typing.specs.Scopes.{HaveOwnNames}
use Rattle.gb_typing.specs.Typing.{IsForm, IsIn}
use Rattle.gb_typing.proofs.Forms.{and_typed}
use Rattle.gb_typing.proofs.InMemory.{located_typed}
use Rattle.gb_typing.proofs.Made.{made_node}
use Rattle.gb_typing.proofs.Supported.{equal_values}
use Rattle.gb_adv.specs.Equations.{and_each, followed_by, led_by, reading, same_arguments, same_owner, same_params, same_result}

-- Where no two parameters have the same name, each name has the type of its parameter.

pub own_types : (ps : List TypedName) → HaveOwnNames ps → AllByRecursion (λ (x : TypedName). local_type ps x.name ≡ Some x.ty) ps
own_types [] h = tt
own_types (p ∷ ps) h = (ap (λ (b : Bool). if b then Some p.ty else local_type ps p.name) ((bytes_eq-Decides p.name p.name).1 refl), behind ps (own_types ps h.1))
  where
    one : (x : TypedName) → local_type ps x.name ≡ Some x.ty → (b : Bool) → bytes_eq x.name p.name ≡ b → (if b then Some p.ty else local_type ps x.name) ≡ Some x.ty
    one x e true i = absurd (none-some x.ty (sym (ap (local_type ps) ((bytes_eq-Decides x.name p.name).0 i) ∙ h.0) ∙ e))
    one x e false i = e

    behind : (qs : List TypedName) → AllByRecursion (λ (x : TypedName). local_type ps x.name ≡ Some x.ty) qs → AllByRecursion (λ (x : TypedName). local_type (p ∷ ps) x.name ≡ Some x.ty) qs
    behind [] k = tt
    behind (x ∷ qs) k = (one x k.0 (bytes_eq x.name p.name) refl, behind qs k.1)

module _ (c : Context) (L R : Frame) where
  abbrev d : Context
  d = with_sides c L R

  left_read : (x : Var) (t : Ty) → IsFinite t → IsIn d L x t → IsRead (erased d) (Program x side.Left) t
  left_read (var.Local x) t n k = (tt, n)
  left_read (var.Global m x) t n k = (tt, n, k.1)
  left_read (var.Glob a) t n k = (tt, k.2)

  right_read : (x : Var) (t : Ty) → IsFinite t → IsIn d R x t → IsRead (erased d) (Program x side.Right) t
  right_read (var.Local x) t n k = (tt, n)
  right_read (var.Global m x) t n k = (tt, n, k.1)
  right_read (var.Glob a) t n k = (tt, k.2)

  -- a variable of each memory, of one type
  pub equation_typed : (x y : Var) (t u : Ty) → IsFinite t → t ≡ u → IsIn d L x t → IsIn d R y u → IsForm d (equal_form (reading side.Left x t) (reading side.Right y u))
  equation_typed x y t u n e k l =
      equal_values d t (reading side.Left x t) (reading side.Right y u) n (made_node d (head.Read (Program x side.Left)) [] [] t (left_read x t n k) k [] tt)
      (subst (λ z. Made d z (reading side.Right y u)) (sym e) (made_node d (head.Read (Program y side.Right)) [] [] u (right_read y u (subst IsFinite e n) l) l [] tt))

  abbrev pub AreForms : List Term → Type 0
  AreForms es = AllByRecursion (IsForm d) es

  pub params_typed : (xs ys : List TypedName) → have_same_types xs ys ≡ true → AllByRecursion (λ (x : TypedName). IsFinite x.ty) xs →
      AllByRecursion (λ (x : TypedName). IsIn d L (var.Local x.name) x.ty) xs → AllByRecursion (λ (y : TypedName). IsIn d R (var.Local y.name) y.ty) ys → AreForms (same_params xs ys)
  params_typed [] ys e n k l = tt
  params_typed (x ∷ xs) [] e n k l = tt
  params_typed (x ∷ xs) (y ∷ ys) e n k l =
      let z = and_parts (ty_eq x.ty y.ty) (have_same_types xs ys) e in
      (equation_typed (var.Local x.name) (var.Local y.name) x.ty y.ty n.0 ((ty_eq-Decides x.ty y.ty).0 z.0) k.0 l.0, params_typed xs ys z.1 n.1 k.1 l.1)

  -- Conjunctions.

  each_typed : (f : Term) → IsForm d f → (es : List Term) → AreForms es → IsForm d (and_each f es)
  each_typed f w [] h = w
  each_typed f w (e ∷ es) h = each_typed (and_form f e) (and_typed d f e w h.0) es h.1

  pub led_typed : (es : List Term) → AreForms es → (f : Term) → IsForm d f → IsForm d (led_by es f)
  led_typed [] h f w = w
  led_typed (e ∷ es) h f w = and_typed d (and_each e es) f (each_typed e h.0 es h.1) w

  pub followed_typed : (f : Term) → IsForm d f → (es : List Term) → AreForms es → IsForm d (followed_by f es)
  followed_typed f w [] h = w
  followed_typed f w (e ∷ es) h = and_typed d f (and_each e es) w (each_typed e h.0 es h.1)

-- all that is a module's own, where it may be read
pub owner_typed : (c : Context) (a : Name) → c.has_globals a ≡ true → (ls rs : List TypedName) → IsForm (with_sides c (Some ls) (Some rs)) (same_owner a)
owner_typed c a h ls rs = equation_typed c (Some ls) (Some rs) (var.Glob a) (var.Glob a) (ty.Glob a) (ty.Glob a) refl refl (tt, h, refl) (tt, h, refl)

-- the results of two procedures
pub result_typed : (c : Context) (t u : Ty) → IsFinite t → t ≡ u → IsForm (with_sides c (Some (record { name = result_name; ty = t } ∷ [])) (Some (record { name = result_name; ty = u } ∷ []))) (same_result t)
result_typed c t u n e =
    equation_typed c (Some (record { name = result_name; ty = t } ∷ [])) (Some (record { name = result_name; ty = u } ∷ [])) (var.Local result_name) (var.Local result_name) t t n refl refl (ap Some (sym e))

-- arguments of two calls for the same parameters
pub arguments_typed : (c : Context) (ls rs : List TypedName) (ps : List TypedName) (es fs : List Term) → AreArguments c ls es ps → AreArguments c rs fs ps → AreForms c (Some ls) (Some rs) (same_arguments es fs)
arguments_typed c ls rs ps [] fs w v = tt
arguments_typed c ls rs ps (e ∷ es) [] w v = tt
arguments_typed c ls rs [] (e ∷ es) (f ∷ fs) w v = absurd w
arguments_typed c ls rs (p ∷ ps) (e ∷ es) (f ∷ fs) w v = (
  (let x = w.0.0 in
      let y = v.0.0 in
      equal_values (with_sides c (Some ls) (Some rs)) (type_of e) (located side.Left e) (located side.Right f) x.finite (located_typed c ls e x.expression c.own (Some ls) (Some rs) side.Left tt refl)
      (subst (λ u. Made (with_sides c (Some ls) (Some rs)) u (located side.Right f)) (v.0.1 ∙ sym w.0.1) (located_typed c rs f y.expression c.own (Some ls) (Some rs) side.Right tt refl))),
  arguments_typed c ls rs ps es fs w.1 v.1,
)
