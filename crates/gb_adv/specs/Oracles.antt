-- What oracles of procedures of abstract modules are to keep, and what they write.
use Rattle.std.specs.Prelude.{ℕ, ◌&&◌, if◌then◌else◌, List, [], ◌∷◌, ◌++◌, filter, map, Option, Some, None}
use Rattle.std.specs.Option.{option_or}
use Rattle.gb_core.specs.declared.refusal.Why.TheVariants.{Shape}
use Rattle.gb_core.specs.declared.var.Var.{Var}
use Rattle.gb_core.specs.declared.var.Var.TheVariants.{Glob}
use Rattle.gb_terms.specs.declared.decl.TypedName.{TypedName}
use Rattle.gb_terms.specs.declared.module.ProcRef.{ProcRef}
use Rattle.gb_terms.specs.declared.op.Side.TheVariants.{Left, Right}
use Rattle.gb_terms.specs.declared.term.Term.{Term}
use Rattle.gb_walk.specs.Clash.{Exclusions, clashes, least, variables_read}
use Rattle.gb_goal.specs.Answers.{Answer}
use Rattle.gb_goal.specs.Answers.Answer.{given, refused}
use Rattle.gb_goal.specs.Goal.{Goal}
use Rattle.gb_goal.specs.Goal.Code.{procedure}
use Rattle.gb_goal.specs.Goal.Goal.{hoare, equiv}
use Rattle.gb_goal.specs.Interfaces.{ProcedureType, procedure_type}
use Rattle.gb_goal.specs.Rows.{refusing}
use Rattle.gb_goal.specs.Scope.{Declarations}
use Rattle.gb_mods.specs.Called.{all_reached}
use Rattle.gb_mods.specs.Written.{written_if}
use Rattle.gb_typing.specs.Context.{Context}
use Rattle.gb_typing.specs.Forms.{and_form}
use Rattle.gb_typing.specs.Sequents.{one, two}
use Rattle.gb_typing.specs.Typing.{IsForm}
use Rattle.gb_call.specs.Call.{in_front}
use Rattle.gb_adv.specs.Equations.{led_by, same_params, same_result}
use Rattle.gb_adv.specs.OwnNames.{own_names}

-- an oracle keeps I
abbrev pub keeps : Term → ProcRef → Goal
keeps i o = hoare (procedure o) i i

-- an oracle on either side: from equal arguments, where I holds, they give equal results, and I holds
abbrev pub keep_both : Term → ProcRef → ProcedureType → ProcRef → ProcedureType → Goal
keep_both i o t p u = equiv (procedure o) (procedure p) (led_by (same_params t.params u.params) i) (and_form (same_result t.result) i)

-- .. in front of other goals
abbrev pub with_both : Term → ProcRef → Option ProcedureType → ProcRef → Option ProcedureType → Answer (List Goal) → Answer (List Goal)
with_both i o (Some t) p (Some u) a = if own_names t.params && own_names u.params then in_front (keep_both i o t p u) a else refusing Shape
with_both i o _ p _ a = refusing Shape

-- one goal for each oracle, in the order of the signature
abbrev pub each_keeps : Term → List ProcRef → List Goal
each_keeps i os = map (keeps i) os

abbrev pub each_keep_both : Declarations → Term → List ProcRef → List ProcRef → Answer (List Goal)
each_keep_both ds i (o ∷ os) (p ∷ ps) = with_both i o (procedure_type ds None o) p (procedure_type ds None p) (each_keep_both ds i os ps)
each_keep_both ds i _ _ = given []

-- goals behind others
abbrev pub behind : Answer (List Goal) → List Goal → Answer (List Goal)
behind (given Gs) Hs = given (Gs ++ Hs)
behind (refused why place) Hs = refused why place

-- what oracles write, through every procedure that they call
unfoldable pub writes_of : Declarations → List ProcRef → Option (List Var)
writes_of ds os = written_if ds (all_reached ds os)

-- the least of these variables that clashes with all that is a module's own
abbrev pub meeting : Exclusions → List ℕ → List Var → Option Var
meeting xs a ys = least (filter (clashes xs (Glob a)) ys)

-- .. of what I reads on either side, and if there is none, of what oracles write there
abbrev pub meeting_both : Exclusions → List ℕ → Term → List Var → List Var → Option Var
meeting_both xs a i W U = option_or (meeting xs a (variables_read Left i ++ variables_read Right i)) (meeting xs a (W ++ U))

-- a typed step: I reads no locals of the programs
abbrev pub IsTypedKept : Context → Term → List TypedName → List TypedName → Goal → Type 0
IsTypedKept c i ls rs (hoare a p q) = IsForm (one c []) i
IsTypedKept c i ls rs (equiv a b p q) = IsForm (two c [] []) i
IsTypedKept c i ls rs G = Unit {0}
