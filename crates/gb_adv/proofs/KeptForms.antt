-- A form that reads no locals of the programs is a form over any locals.
use Rattle.std.proofs.Common.{◌≡◌, Bool, false, List, [], ◌∷◌, Some, refl}
use Rattle.gb_core.specs.declared.ty.Ty.{Ty}
use Rattle.gb_core.specs.declared.var.Var.{Var}
use Rattle.gb_core.specs.declared.var.Var.TheVariants as var
use Rattle.gb_terms.specs.declared.decl.TypedName.{TypedName}
use Rattle.gb_terms.specs.declared.op.Side.{Side}
use Rattle.gb_terms.specs.declared.op.Side.TheVariants as side
use Rattle.gb_terms.specs.declared.term.Term.{Term}
use Rattle.gb_walk.specs.Clash.{variables_read}
use Rattle.gb_laws.specs.Written.{IsSide}
use Rattle.gb_typing.specs.Context.{Context, with_own, with_sides}
use Rattle.gb_typing.specs.Typing.{IsForm, IsIn}
use Rattle.gb_typing.proofs.Narrowed.{own_typed}
use Rattle.gb_typing.proofs.Scripts.{none_some}
use Rattle.gb_typing.proofs.Spared.{Clear}
use Rattle.gb_call_both.proofs.NarrowedSides.{sides_typed}

abbrev none : Var → Bool
none y = false

none_clear : (r : Side) (is : IsSide r) (xs : List Var) → Clear r is none xs
none_clear r is [] = tt
none_clear r is (x ∷ xs) = (refl, none_clear r is xs)

moves : (ls : List TypedName) (c : Context) (x : Var) (t : Ty) → none x ≡ false → IsIn c (Some []) x t → IsIn c (Some ls) x t
moves ls c (var.Local x) t n w = none_some t w
moves ls c (var.Global m x) t n w = w
moves ls c (var.Glob a) t n w = w

pub over_locals : (c : Context) (i : Term) → IsForm (with_own c (Some [])) i → (ls : List TypedName) → IsForm (with_own c (Some ls)) i
over_locals c i w ls = record { typed = own_typed (Some []) (Some ls) none (moves ls) (λ z. tt) i c (none_clear side.Own tt (variables_read side.Own i)) w.typed; truth = w.truth }

pub over_both_locals : (c : Context) (i : Term) → IsForm (with_sides c (Some []) (Some [])) i → (ls rs : List TypedName) → IsForm (with_sides c (Some ls) (Some rs)) i
over_both_locals c i w ls rs = record {
  typed =
      sides_typed (Some []) (Some []) (Some ls) (Some rs) none none (moves ls) (moves rs) (λ z. tt) (λ z. tt) i c (none_clear side.Left tt (variables_read side.Left i))
      (none_clear side.Right tt (variables_read side.Right i)) w.typed;
  truth = w.truth;
}
