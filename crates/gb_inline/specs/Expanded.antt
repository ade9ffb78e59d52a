-- The body of a procedure in place of a call.
use Rattle.std.specs.Prelude.{List, [], ◌∷◌, ◌++◌, Option, Some, None}
use Rattle.std.specs.Option.{option_map}
use Rattle.gb_core.specs.declared.var.Var.{Var}
use Rattle.gb_core.specs.declared.var.Var.TheVariants.{Local}
use Rattle.gb_terms.specs.declared.decl.Proc.{Proc}
use Rattle.gb_terms.specs.declared.term.Head.TheVariants.{Assign}
use Rattle.gb_terms.specs.declared.term.Instr.{Instr}
use Rattle.gb_terms.specs.declared.term.Term.{Term}
use Rattle.gb_walk.specs.Change.{term_changed}
use Rattle.gb_typing.specs.Programs.{locals_of}
use Rattle.gb_forms.specs.Firsts.{firsts}
use Rattle.gb_inline.specs.Fresh.{new_names}
use Rattle.gb_inline.specs.Renamed.{Renamings, each_renamed, reads_renamed}

-- each new local is assigned its term
abbrev pub each_set : Renamings → List Term → List Instr
each_set [] es = []
each_set (r ∷ rs) [] = []
each_set (r ∷ rs) (e ∷ es) = Assign (Local r.new.name ∷ []) e ∷ each_set rs es

-- the left side of the call is assigned its result
abbrev pub result_set : List Var → Term → List Instr
result_set [] e = []
result_set (x ∷ xs) e = Assign (x ∷ xs) e ∷ []

-- The parameters are assigned the arguments, and the locals their first values; the body follows, and the left side is assigned the
-- result.
abbrev pub in_place : Proc → Renamings → List Var → List Term → List Instr
in_place f rs xs es =
    each_set rs (es ++ firsts f.locals) ++ (each_renamed (reads_renamed rs) rs f.body.list ++ result_set xs (term_changed f.value (reads_renamed rs)))

-- the same of a call whose procedure is known, with new names that none of these variables has
abbrev pub expanded : List Var → Option Proc → List Var → List Term → Option (List Instr)
expanded used None xs es = None
expanded used (Some f) xs es = option_map (λ rs. in_place f rs xs es) (new_names used (locals_of f))
