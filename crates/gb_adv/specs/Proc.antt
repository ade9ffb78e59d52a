-- `proc (I)`: procedures of abstract modules, by what their oracles keep.
use Rattle.std.specs.Prelude.{◌&&◌, if◌then◌else◌, List, [], ◌∷◌, ◌++◌, Option, Some, None}
use Rattle.gb_core.specs.declared.refusal.Why.TheVariants.{Shape}
use Rattle.gb_core.specs.declared.var.Var.{Var}
use Rattle.gb_terms.specs.declared.op.Side.TheVariants.{Own}
use Rattle.gb_terms.specs.declared.term.Term.{Term}
use Rattle.gb_walk.specs.Clash.{variables_read}
use Rattle.gb_goal.specs.Answers.{Answer}
use Rattle.gb_goal.specs.Answers.Answer.{given}
use Rattle.gb_goal.specs.Goal.{Goal}
use Rattle.gb_goal.specs.Goal.Code.{procedure}
use Rattle.gb_goal.specs.Goal.Goal.{hoare, equiv}
use Rattle.gb_goal.specs.Rows.{Row, refusing}
use Rattle.gb_goal.specs.Scope.{Declarations}
use Rattle.gb_mods.specs.Exclusions.{exclusions}
use Rattle.gb_typing.specs.Forms.{and_form}
use Rattle.gb_bodies.specs.Conseq.{leads, pair_leads}
use Rattle.gb_call.specs.Call.{unless_clash}
use Rattle.gb_adv.specs.Abstract.{AbstractProcedure, abstract_procedure, same_abstract}
use Rattle.gb_adv.specs.Equations.{followed_by, same_owner, same_params, same_result}
use Rattle.gb_adv.specs.Oracles.{behind, each_keep_both, each_keeps, meeting, meeting_both, writes_of}
use Rattle.gb_adv.specs.OwnNames.{own_names}

-- I holds, the parameters are the same, and so is all that is the module's own
abbrev pub start_alike : AbstractProcedure → AbstractProcedure → Term → Term
start_alike f h i = and_form (followed_by i (same_params f.type.params h.type.params)) (same_owner f.owner)

-- I holds, the results are the same, and so is all that is the module's own
abbrev pub end_alike : AbstractProcedure → Term → Term
end_alike f i = and_form (and_form i (same_result f.type.result)) (same_owner f.owner)

-- the oracles keep I, and the conditions lead to where the procedures may start, and from where they end
abbrev pub both_goals : Declarations → AbstractProcedure → AbstractProcedure → Term → Term → Term → Answer (List Goal)
both_goals ds f h i p q =
    behind (each_keep_both ds i f.oracles h.oracles) (pair_leads p (start_alike f h i) ∷ pair_leads (end_alike f i) q ∷ [])

-- What is kept, and what oracles write, has nothing that clashes with what is the module's own.
abbrev pub by_writes : Declarations → AbstractProcedure → AbstractProcedure → Term → Term → Term → Option (List Var) → Option (List Var) → Answer (List Goal)
by_writes ds f h i p q (Some W) (Some U) = unless_clash (meeting_both (exclusions ds) f.owner i W U) (both_goals ds f h i p q)
by_writes ds f h i p q _ _ = refusing Shape

abbrev pub on_both : Declarations → Term → Term → Term → Option AbstractProcedure → Option AbstractProcedure → Answer (List Goal)
on_both ds i p q (Some f) (Some h) =
    if same_abstract f h && own_names f.type.params then by_writes ds f h i p q (writes_of ds f.oracles) (writes_of ds h.oracles) else refusing Shape
on_both ds i p q _ _ = refusing Shape

abbrev pub one_goals : AbstractProcedure → Term → Term → Term → List Goal
one_goals f i p q = each_keeps i f.oracles ++ leads p i ∷ leads i q ∷ []

abbrev pub on_one : Declarations → Term → Term → Term → Option AbstractProcedure → Answer (List Goal)
on_one ds i p q None = refusing Shape
on_one ds i p q (Some f) = unless_clash (meeting (exclusions ds) f.owner (variables_read Own i)) (given (one_goals f i p q))

-- on two procedures, and on one
abbrev pub proc_row : Declarations → Term → Row
proc_row ds i (equiv (procedure f) (procedure h) p q) = on_both ds i p q (abstract_procedure ds f) (abstract_procedure ds h)
proc_row ds i (hoare (procedure f) p q) = on_one ds i p q (abstract_procedure ds f)
proc_row ds i G = refusing Shape
