-- What is in lists of variables, and what procedures call.
use Rattle.std.specs.Prelude.{◌≡◌, ◌⊎◌, List, [], ◌∷◌, Some}
use Rattle.gb_core.specs.declared.var.Var.{Var}
use Rattle.gb_terms.specs.declared.decl.Proc.{Proc}
use Rattle.gb_terms.specs.declared.module.ProcRef.{ProcRef}
use Rattle.gb_goal.specs.Scope.{Declarations, procedure_of}
use Rattle.gb_meaning.specs.Naming.{EachCallOf}

-- z is one of these
abbrev pub Has : List Var → Var → Type 0
Has [] z = ⊥
Has (x ∷ xs) z = (x ≡ z) ⊎ Has xs z

-- declared procedures call declared ones: those of modules that lack nothing, by name or with modules for their parameters
abbrev pub CallsAreDeclared : Declarations → Type 0
CallsAreDeclared ds = (r : ProcRef) (p : Proc) → procedure_of ds r ≡ Some p → EachCallOf (λ q. (f : Proc) × (procedure_of ds q ≡ Some f)) p.body.list
