-- Types of values, and of numbers, that a script spells.
use Rattle.std.proofs.Common.{◌≡◌, ℕ, zero, suc, Bool, true, false, if◌then◌else◌, List, [], ◌∷◌, Option, Some, None, bytes_eq, ⊎_elim, subst}
use Rattle.std.specs.Prelude.{codes, slice_get}
use Rattle.std.proofs.lemmas.Bool.{false≢true}
use Rattle.gb_core.specs.declared.place.Place.{Place}
use Rattle.gb_core.specs.declared.ty.Ty.{Ty}
use Rattle.gb_core.specs.declared.ty.Ty.TheVariants as ty
use Rattle.gb_goal.specs.Answers.Answer.{given}
use Rattle.gb_goal.specs.Scope.{Declarations}
use Rattle.gb_script.specs.declared.head.Head.{Head}
use Rattle.gb_script.specs.declared.head.Head.TheVariants as head
use Rattle.gb_script.specs.declared.tree.Node.{Node}
use Rattle.gb_meaning.specs.Names.{Name}
use Rattle.gb_laws.specs.Finite.{IsVariableType}
use Rattle.gb_laws.specs.Operators.{IsNoDistribution}
use Rattle.gb_typing.specs.Scopes.{IsMeasured, AreMeasured}
use Rattle.gb_names.specs.Types.{number_type, number_typing, type_of, type_or_number}
use Rattle.gb_names.proofs.Nodes as nodes
use Rattle.gb_names.proofs.Nodes.{by_parts}
use Rattle.gb_elab_laws.specs.Fitting.{IsFormType, AreTypes}
use Rattle.gb_elab_laws.proofs.Given.{given_is, map_or_given, none_some, same_some}
use Rattle.gb_elab_laws.proofs.Types.{spelled_typed}
use Rattle.gb_elab_laws.proofs.Shapes.{variable_with}

pub variable_measured : (t : Ty) → IsVariableType t → IsMeasured t
variable_measured ty.Int h = absurd h
variable_measured ty.Real h = absurd h
variable_measured ty.Unit h = h
variable_measured ty.Bool h = h
variable_measured (ty.Bits n) h = h
variable_measured (ty.Mod n) h = h
variable_measured (ty.Enumeration x n) h = h
variable_measured (ty.Tuple' n ts) h = h
variable_measured (ty.Opt' p x) h = h
variable_measured (ty.Map' p k q x) h = h
variable_measured (ty.Abstract x) h = h
variable_measured (ty.Glob x) h = h
variable_measured (ty.Distr' p x) h = h

abbrev IsNumber : Option Ty → Type 0
IsNumber None = Unit {0}
IsNumber (Some t) = IsMeasured t

abbrev rule : Head → List ℕ → List (Node × Option Ty) → Place → Option Ty
rule h x ps p = number_typing h x ps

abbrev Known : Type 0
Known = nodes.Known rule IsNumber

either : (b : Bool) → IsNumber (if b then Some ty.Real else None)
either true = tt
either false = tt

of_parts : (h : Head) (x : List ℕ) (ks : List Known) (p : Place) → IsNumber (number_typing h x (nodes.parts rule IsNumber ks))
unfolding number_typing
of_parts head.PlainType x ks p = either (bytes_eq x (codes "real"))
of_parts head.IntType x [] p = tt
of_parts head.IntType x (k ∷ ks) p = tt
of_parts head.BracketedType x [] p = tt
of_parts head.BracketedType x (k ∷ []) p = k.1
of_parts head.BracketedType x (k ∷ l ∷ ks) p = tt
of_parts _ x ks p = tt

numbers : (t : Node) → IsNumber (number_type t)
unfolding number_type
numbers = by_parts rule IsNumber of_parts

pub measured : (ds : Declarations) → AreTypes ds → (t : Node) (u : Ty) → type_or_number ds t ≡ given u → IsMeasured u
measured ds names t u h =
    ⊎_elim (λ k. subst IsMeasured (given_is k.0 u k.2) (subst IsNumber k.1 (numbers t)))
    (λ k. variable_measured u (spelled_typed ds names t u k.1))
    (map_or_given given (number_type t) (type_of ds t) u h)

-- such a type is one of forms, and none of distributions
pub measured_form : (globs : Name → Bool) (t : Ty) → IsMeasured t → IsNoDistribution t × IsFormType globs t
measured_form globs ty.Int h = (tt, tt)
measured_form globs ty.Real h = (tt, tt)
measured_form globs (ty.Distr' p x) h = absurd h
measured_form globs ty.Unit h = (tt, tt)
measured_form globs ty.Bool h = (tt, tt)
measured_form globs (ty.Bits n) h = (tt, tt)
measured_form globs (ty.Mod n) h = (tt, h)
measured_form globs (ty.Enumeration x n) h = (tt, h)
measured_form globs (ty.Tuple' n ts) h = (tt, variable_with globs (ty.Tuple' n ts) h)
measured_form globs (ty.Opt' p x) h = (tt, variable_with globs (ty.Opt' p x) h)
measured_form globs (ty.Map' p k q x) h = (tt, variable_with globs (ty.Map' p k q x) h)
measured_form globs (ty.Abstract x) h = (tt, tt)
measured_form globs (ty.Glob x) h = absurd (false≢true h)

-- the parameter of an operator at a place
pub parameter_form : (globs : Name → Bool) (us : List Ty) (i : ℕ) (t : Ty) → AreMeasured us → slice_get us i ≡ Some t → IsFormType globs t
parameter_form globs [] i t h e = none_some t e
parameter_form globs (u ∷ us) zero t h e = subst (IsFormType globs) (same_some u t e) (measured_form globs u h.0).1
parameter_form globs (u ∷ us) (suc i) t h e = parameter_form globs us i t h.1 e
