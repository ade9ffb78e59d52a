-- `swap`: a statement passes others.
use Rattle.std.specs.Prelude.{ℕ, ◌-◌, nat_lt, if◌then◌else◌, List, ◌++◌, length, take, drop, Option, Some, None}
use Rattle.gb_core.specs.declared.refusal.Why.TheVariants.{Argument, Shape, SideCondition}
use Rattle.gb_core.specs.declared.var.Var.{Var}
use Rattle.gb_terms.specs.declared.term.Instr.{Instr}
use Rattle.gb_goal.specs.Answers.{Answer, ◌>>=◌}
use Rattle.gb_goal.specs.Answers.Answer.{given}
use Rattle.gb_goal.specs.Rows.{Row, refusing}
use Rattle.gb_goal.specs.Scope.{Declarations}
use Rattle.gb_steps.specs.declared.step.Acts.{Acts}
use Rattle.gb_prog.specs.OneBody.{OneBody}
use Rattle.gb_forms.specs.declared.effects.Effects.{Effects}
use Rattle.gb_steps.specs.declared.step.Passing.{Passing}
use Rattle.gb_trans.specs.Effects.{crossing, effects_of}
use Rattle.gb_trans.specs.Transformed.{transforming}
use Rattle.gb_mods.specs.Exclusions.{exclusions}
use Rattle.gb_walk.specs.Clash.{Exclusions}

-- what stands before so many statements of a body, so many that follow, and what stands behind them
abbrev pub before : ℕ → List Instr → List Instr
before n is = take n is

abbrev pub first : ℕ → ℕ → List Instr → List Instr
first n f is = take f (drop n is)

abbrev pub second : ℕ → ℕ → ℕ → List Instr → List Instr
second n f s is = take s (drop f (drop n is))

abbrev pub rest : ℕ → ℕ → ℕ → List Instr → List Instr
rest n f s is = drop s (drop f (drop n is))

-- the body in which two parts, of f and s statements behind n others, have exchanged their places
abbrev pub exchanged : ℕ → ℕ → ℕ → List Instr → List Instr
exchanged n f s is = before n is ++ (second n f s is ++ (first n f is ++ rest n f s is))

-- nothing crosses
abbrev pub unless_crossing : Option Var → Answer (Unit {0})
unless_crossing None = given tt
unless_crossing (Some x) = refusing (SideCondition x)

-- neither of two parts touches what the other writes
abbrev pub apart : Exclusions → Option Effects → Option Effects → Answer (Unit {0})
apart es (Some a) (Some b) = unless_crossing (crossing es a b)
apart es _ _ = refusing Shape

-- two parts exchange their places
abbrev pub exchange : Declarations → ℕ → ℕ → ℕ → List Instr → Answer (List Instr)
exchange ds n f s is = do
  _ ← apart (exclusions ds) (effects_of ds (first n f is)) (effects_of ds (second n f s is))
  given (exchanged n f s is)

-- the statement at a place, of which the first is 1, moves so many places to the front or to the back
abbrev pub moved : Declarations → Passing → List Instr → Answer (List Instr)
moved ds w is =
    if w.front
    then (if nat_lt (w.at - 1) w.by then refusing Argument else exchange ds (w.at - 1 - w.by) w.by 1 is)
    else if nat_lt (length is - w.at) w.by then refusing Argument else exchange ds (w.at - 1) 1 w.by is

abbrev pub swapped : Declarations → Passing → List Instr → Answer (List Instr)
swapped ds w is =
    if nat_lt w.at 1 then refusing Argument
    else if nat_lt (length is) w.at then refusing Argument else moved ds w is

abbrev pub swap_row : Declarations → Acts → Passing → Row
swap_row ds a w = transforming (λ (o : OneBody). swapped ds w o.list) a
