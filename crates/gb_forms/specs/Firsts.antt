-- The first values of types, as terms.
use Rattle.std.specs.Prelude.{List, [], ◌∷◌}
use Rattle.gb_core.specs.declared.ty.Ty.{Ty}
use Rattle.gb_core.specs.declared.ty.Ty.TheVariants as ty
use Rattle.gb_core.specs.declared.value.Value.TheVariants.{Num}
use Rattle.gb_terms.specs.declared.decl.TypedName.{TypedName}
use Rattle.gb_terms.specs.declared.op.Op.TheVariants as op
use Rattle.gb_terms.specs.declared.term.Head.TheVariants.{Lit}
use Rattle.gb_terms.specs.declared.term.Term.{Term}
use Rattle.gb_terms.specs.Make.{applied, node}

-- `oget None` is the first value of each type
abbrev pub none_got : Ty → Term
none_got t = applied op.Oget (applied op.None [] (ty.Opt t) ∷ []) t

-- The first value of a type: a literal, `None`, `empty`, or else `oget None`.
abbrev pub first_of : Ty → Term
first_of ty.Unit = node (Lit (Num 0)) [] ty.Unit
first_of ty.Bool = node (Lit (Num 0)) [] ty.Bool
first_of (ty.Bits n) = node (Lit (Num 0)) [] (ty.Bits n)
first_of (ty.Mod n) = node (Lit (Num 0)) [] (ty.Mod n)
first_of (ty.Enumeration x n) = node (Lit (Num 0)) [] (ty.Enumeration x n)
first_of (ty.Opt' m t) = applied op.None [] (ty.Opt' m t)
first_of (ty.Map' m k n t) = applied op.Empty [] (ty.Map' m k n t)
first_of t = none_got t

-- those of the types of locals
abbrev pub firsts : List TypedName → List Term
firsts [] = []
firsts (l ∷ ls) = first_of l.ty ∷ firsts ls
