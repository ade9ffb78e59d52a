-- What a statement writes: a variable, several at once, or an entry of a map.
use Rattle.std.specs.Prelude.{nat_lt, if◌then◌else◌, List, [], ◌∷◌, ◌++◌, map, length}
use Rattle.std.specs.List.{list_any}
use Rattle.gb_core.specs.declared.refusal.Why.TheVariants.{Argument, DoubleName}
use Rattle.gb_core.specs.declared.ty.Ty.{Ty}
use Rattle.gb_core.specs.declared.ty.Ty.TheVariants.{Tuple}
use Rattle.gb_core.specs.declared.var.Var.{Var}
use Rattle.gb_terms.specs.Equal.{var_eq}
use Rattle.gb_script.specs.declared.tree.Node.{Node}
use Rattle.gb_script.specs.Tree.{place_of}
use Rattle.gb_goal.specs.Answers.{Answer, ◌>>=◌}
use Rattle.gb_goal.specs.Answers.Answer.{given, refused}
use Rattle.gb_names.specs.Environment.{Environment}
use Rattle.gb_names.specs.declared.globals.Target.{Target as Held}
use Rattle.gb_names.specs.Names.{Target, target}
pub use Rattle.gb_names.specs.Names.{spelled, spelled_by}

-- A tuple has at most 8 parts.
abbrev pub roomy : List Target → Node → Answer (Unit {0})
roomy vs t = if nat_lt (length vs) 8 then given tt else refused Argument (place_of t)

-- a variable that none of these is
abbrev pub once : List Target → Var → Node → Answer (Unit {0})
once vs x t = if list_any (λ v. var_eq v.0 x) vs then refused (DoubleName (spelled_by t)) (place_of t) else given tt

-- the variable that a path names, which none of these is
abbrev pub next_target : Environment → List Target → Node → Answer Target
next_target at vs t = do
  _ ← roomy vs t
  v ← target at (spelled_by t) (place_of t)
  _ ← once vs v.0 t
  given v

-- the variables that paths name, behind those before them: each stands once
unfoldable pub targets : Environment → List Target → List Node → Answer (List Target)
targets at vs [] = given vs
targets at vs (t ∷ ts) = next_target at vs t >>= λ v. targets at (vs ++ v ∷ []) ts

-- the type of what several variables take together: one takes a value of its own type
abbrev pub type_of_all : List Target → Ty
type_of_all (v ∷ []) = v.1
type_of_all vs = Tuple (map (λ v. v.1) vs)

abbrev pub variables_of : List Target → List Var
variables_of vs = map (λ v. v.0) vs

-- the same of what the code holds
abbrev pub pairs : List Held → List Target
pairs ts = map (λ t. (t.var, t.ty)) ts
