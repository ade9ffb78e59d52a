-- The variable of a function.
use Rattle.std.specs.Prelude.{ℕ, nat_le, Bool, false, if◌then◌else◌}
use Rattle.gb_core.specs.declared.refusal.Why.TheVariants.{TypeMismatch, Argument}
use Rattle.gb_core.specs.declared.ty.Ty.{Ty, out-Ty}
use Rattle.gb_core.specs.declared.ty.Ty.TheOpen as layer
use Rattle.gb_core.specs.declared.ty.Ty.TheVariants as ty
use Rattle.gb_core.specs.SameTypes.{ty_eq}
use Rattle.gb_script.specs.declared.tree.Node.{Node}
use Rattle.gb_script.specs.Tree.{place_of}
use Rattle.gb_goal.specs.Answers.{Answer, ◌>>=◌}
use Rattle.gb_goal.specs.Answers.Answer.{given, refused}
use Rattle.gb_goal.specs.Scope.{Declarations}
use Rattle.gb_names.specs.Types.{type_of}
use Rattle.gb_operators.specs.declared.domain.Domain.{Domain}
use Rattle.gb_operators.specs.declared.domain.Domain.TheVariants.{Exactly, Below}

-- the type of a variable to which the text gives none
abbrev pub type_in : Domain → Ty
type_in (Exactly t) = t
type_in (Below n) = ty.Mod n

abbrev pub counts_to_layer : ℕ → layer.Ty-F Ty → Bool
counts_to_layer n (layer.Mod m) = nat_le n m
counts_to_layer n _ = false

-- an `int[m]` that has the numbers below a number
abbrev pub counts_to : ℕ → Ty → Bool
counts_to n t = counts_to_layer n (out-Ty t)

-- the type that the text gives a variable
abbrev pub written_as : Declarations → Domain → Node → Answer Ty
written_as ds (Exactly t) s = do
  u ← type_of ds s
  if ty_eq u t then given u else refused TypeMismatch (place_of s)
written_as ds (Below n) s = do
  u ← type_of ds s
  if counts_to n u then given u else refused Argument (place_of s)
