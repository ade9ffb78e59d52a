-- `while`: loops at the end of bodies, by what each turn keeps.
use Rattle.std.specs.Prelude.{zero, suc, pos, ℤ, Bool, true, false, List, [], ◌∷◌, ◌++◌, filter, Option, Some, None}
use Rattle.gb_core.specs.declared.refusal.Why.TheVariants.{Shape}
use Rattle.gb_core.specs.declared.var.Var.{Var}
use Rattle.gb_terms.specs.declared.decl.TypedName.{TypedName}
use Rattle.gb_terms.specs.declared.op.Rel.{Rel}
use Rattle.gb_terms.specs.declared.op.Rel.TheVariants.{AtMost, Equal, AtLeast}
use Rattle.gb_terms.specs.declared.op.Side.{Side}
use Rattle.gb_terms.specs.declared.op.Side.TheVariants.{Left, Right}
use Rattle.gb_terms.specs.declared.term.Term.{Term}
use Rattle.gb_steps.specs.declared.step.Acts.{Acts}
use Rattle.gb_steps.specs.declared.step.Acts.TheVariants as on
use Rattle.gb_goal.specs.Answers.{Answer, ◌>>=◌}
use Rattle.gb_goal.specs.Answers.Answer.{given}
use Rattle.gb_goal.specs.Goal.{Goal}
use Rattle.gb_goal.specs.Goal.Code.{body}
use Rattle.gb_goal.specs.Goal.Goal.{hoare, phoare, equiv}
use Rattle.gb_goal.specs.Rows.{Row, refusing}
use Rattle.gb_goal.specs.Scope.{Declarations}
use Rattle.gb_typing.specs.Context.{Context}
use Rattle.gb_typing.specs.Forms.{and_form, equal_form, implies_form, located, not_form}
use Rattle.gb_typing.specs.Sequents.{one, two}
use Rattle.gb_typing.specs.Typing.{IsForm}
use Rattle.gb_walk.specs.Clash.{least}
use Rattle.gb_prog.specs.AllValues.{Located, all_values}
use Rattle.gb_prog.specs.Assigned.{clashing, is_clashing}
use Rattle.gb_prog.specs.OneBody.{OneBody, on_one, one_body}
use Rattle.gb_call.specs.Call.{unless_clash}
use Rattle.gb_prog.specs.Compared.{literal}
use Rattle.gb_full.specs.Loss.{first_loss}
use Rattle.gb_full.specs.Lossless.{full}
use Rattle.gb_forms.specs.Loops.{turn_goal, written}
use Rattle.gb_loops.specs.LastLoop.{LastLoop, last_loop}
use Rattle.gb_loops.specs.Read.{read_in}
use Rattle.gb_mods.specs.Exclusions.{exclusions}
use Rattle.gb_walk.specs.Clash.{Exclusions}

-- the invariant and the guard: where a turn begins
abbrev pub turning : Side → Term → LastLoop → Term
turning r v k = and_form v (located r k.guard)

-- where the invariant holds and the guard is false, this is to hold
abbrev pub at_end : Side → Term → LastLoop → Term → Term
at_end r v k q = implies_form (and_form v (not_form (located r k.guard))) q

-- The invariant holds, and for all values of the variables that the loop writes, so does what is to hold at its end.
abbrev pub before_loop : Side → Term → LastLoop → Term → List Var → Term
before_loop r v k q U = and_form v (all_values (read_in r (at_end r v k q) U) (at_end r v k q))

-- each turn keeps the invariant, and what stands before the loop leads to where it may begin
abbrev pub loop_goals : OneBody → Term → LastLoop → List Var → List Goal
loop_goals o v k U = turn_goal o.side v k.body.list (turning o.side v k) ∷ o.goal k.before o.pre (before_loop o.side v k o.post U) ∷ []

-- a turn loses no weight, nor what it calls, where none may be lost
abbrev pub kept_weight : Declarations → Bool → LastLoop → Answer (Unit {0})
kept_weight ds true k = full (first_loss ds k.body.list)
kept_weight ds false k = given tt

abbrev pub by_written : Declarations → Bool → OneBody → Term → LastLoop → Option (List Var) → Answer (List Goal)
by_written ds b o v k None = refusing Shape
by_written ds b o v k (Some U) = unless_clash (clashing (exclusions ds) o.side U (at_end o.side v k o.post)) (kept_weight ds b k >>= λ _. given (loop_goals o v k U))

-- the goals of the loop that a body ends with; whether no weight may be lost is said before
abbrev pub by_loop : Declarations → Bool → OneBody → Term → Option LastLoop → Answer (List Goal)
by_loop ds b o v None = refusing Shape
by_loop ds b o v (Some k) = by_written ds b o v k (written ds k.body.list)

abbrev pub is_one : Option ℤ → Bool
is_one (Some (pos (suc zero))) = true
is_one n = false

-- whether a bound can be met by what is certain alone: `>=`, or `=` with the literal `1%r`
abbrev pub is_certain : Rel → Term → Bool
is_certain AtLeast b = true
is_certain Equal b = is_one (literal b)
is_certain AtMost b = false

abbrev pub where_certain : Bool → Answer (List Goal) → Answer (List Goal)
where_certain true a = a
where_certain false a = refusing Shape

-- on a judgment with a probability the invariant is kept with certainty
abbrev pub one_loop : Declarations → Term → Goal → OneBody → Answer (List Goal)
one_loop ds v (phoare a r p q b) o = where_certain (is_certain r b) (by_loop ds true o v (last_loop o.list))
one_loop ds v G o = by_loop ds false o v (last_loop o.list)

-- Two loops at the ends of two bodies, whose guards stay equal.

-- the invariant holds, and the guards are equal
abbrev pub in_step : Term → LastLoop → LastLoop → Term
in_step v k l = and_form v (equal_form (located Left k.guard) (located Right l.guard))

abbrev pub turning_both : Term → LastLoop → LastLoop → Term
turning_both v k l = and_form (and_form v (located Left k.guard)) (located Right l.guard)

abbrev pub at_both_ends : Term → LastLoop → LastLoop → Term → Term
at_both_ends v k l q = implies_form (and_form (and_form v (not_form (located Left k.guard))) (not_form (located Right l.guard))) q

-- the variables of both memories that the form reads among those that are written
abbrev pub read_both : Term → List Var → List Var → List Located
read_both f T U = read_in Left f T ++ read_in Right f U

abbrev pub before_both : Term → LastLoop → LastLoop → Term → List Var → List Var → Term
before_both v k l q T U = and_form (in_step v k l) (all_values (read_both (at_both_ends v k l q) T U) (at_both_ends v k l q))

abbrev pub both_goals : Term → Term → Term → LastLoop → LastLoop → List Var → List Var → List Goal
both_goals v p q k l T U =
    equiv (body k.body.list) (body l.body.list) (turning_both v k l) (in_step v k l) ∷ equiv (body k.before) (body l.before) p (before_both v k l q T U) ∷ []

-- the least variable that is replaced and with which another one clashes that the form reads in its memory
abbrev pub clashing_both : Exclusions → List Var → List Var → Term → Option Var
clashing_both es T U f = least (filter (is_clashing es Left f) T ++ filter (is_clashing es Right f) U)

abbrev pub both_written : Exclusions → Term → Term → Term → LastLoop → LastLoop → Option (List Var) → Option (List Var) → Answer (List Goal)
both_written es v p q k l (Some T) (Some U) = unless_clash (clashing_both es T U (at_both_ends v k l q)) (given (both_goals v p q k l T U))
both_written es v p q k l _ _ = refusing Shape

abbrev pub by_both : Declarations → Term → Term → Term → Option LastLoop → Option LastLoop → Answer (List Goal)
by_both ds v p q (Some k) (Some l) = both_written (exclusions ds) v p q k l (written ds k.body.list) (written ds l.body.list)
by_both ds v p q _ _ = refusing Shape

abbrev pub both_loops : Declarations → Acts → Term → Row
both_loops ds on.All v (equiv (body is) (body js) p q) = by_both ds v p q (last_loop is) (last_loop js)
both_loops ds a v G = refusing Shape

abbrev pub while_row : Declarations → Acts → Term → Row
while_row ds a v G = on_one (one_loop ds v G) (one_body a G) (both_loops ds a v G)

-- a typed step: the invariant is said of the locals of the bodies
abbrev pub IsTypedInvariant : Context → Term → List TypedName → List TypedName → Goal → Type 0
IsTypedInvariant c v ls rs (hoare (body is) p q) = IsForm (one c ls) v
IsTypedInvariant c v ls rs (phoare (body is) r p q b) = IsForm (one c ls) v
IsTypedInvariant c v ls rs (equiv (body is) (body js) p q) = IsForm (two c ls rs) v
IsTypedInvariant c v ls rs G = Unit {0}
