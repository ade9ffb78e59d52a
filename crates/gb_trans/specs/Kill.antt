-- `kill`: a statement goes that writes nothing of what is read behind it, and loses no weight.
use Rattle.std.specs.Prelude.{ℕ, List, [], ◌∷◌, ◌++◌, Option, Some, None}
use Rattle.std.specs.List.{filter}
use Rattle.std.specs.Option.{option_map}
use Rattle.gb_core.specs.declared.refusal.Why.TheVariants.{Shape}
use Rattle.gb_core.specs.declared.var.Var.{Var}
use Rattle.gb_terms.specs.declared.module.ProcRef.{ProcRef}
use Rattle.gb_terms.specs.declared.op.Side.{Side}
use Rattle.gb_terms.specs.declared.term.Instr.{Instr}
use Rattle.gb_terms.specs.declared.term.Term.{Term}
use Rattle.gb_walk.specs.Clash.{least, variables_read}
use Rattle.gb_goal.specs.Answers.{Answer, ◌>>=◌}
use Rattle.gb_goal.specs.Answers.Answer.{given}
use Rattle.gb_goal.specs.Rows.{Row, refusing}
use Rattle.gb_goal.specs.Scope.{Declarations}
use Rattle.gb_steps.specs.declared.step.Acts.{Acts}
use Rattle.gb_mods.specs.Called.{all_reached, calls}
use Rattle.gb_mods.specs.Read.{each_read, read_by}
use Rattle.gb_prog.specs.OneBody.{OneBody}
use Rattle.gb_full.specs.Loss.{first_loss}
use Rattle.gb_full.specs.Lossless.{full}
use Rattle.gb_forms.specs.declared.effects.Effects.{Effects}
use Rattle.gb_trans.specs.Effects.{effects_of, meets}
use Rattle.gb_trans.specs.Places.{At, on_place, statement_at}
use Rattle.gb_trans.specs.Swap.{unless_crossing}
use Rattle.gb_trans.specs.Transformed.{transforming}
use Rattle.gb_mods.specs.Exclusions.{exclusions}
use Rattle.gb_walk.specs.Clash.{Exclusions}

-- what statements read that call these procedures, through all of them
abbrev pub reads_by : Declarations → List Instr → List ProcRef → Option (List Var)
reads_by ds is ps = option_map (λ xs. each_read is ++ xs) (read_by ds ps)

abbrev pub reads_if : Declarations → List Instr → Option (List ProcRef) → Option (List Var)
reads_if ds is None = None
reads_if ds is (Some ps) = reads_by ds is ps

-- The variables that statements read, through every procedure that they call. They aren't known where it isn't known what one of
-- these stands for.
unfoldable pub reads_of : Declarations → List Instr → Option (List Var)
reads_of ds is = reads_if ds is (all_reached ds (calls is))

-- the variables that statements read, and a form behind them through a memory
abbrev pub read_behind : Declarations → List Instr → Side → Term → Option (List Var)
read_behind ds is s q = option_map (λ xs. xs ++ variables_read s q) (reads_of ds is)

-- what is written clashes with nothing that is read, else the least variable is named
abbrev pub unread : Exclusions → Option (List Var) → Option Effects → Answer (Unit {0})
unread es None a = refusing Shape
unread es (Some xs) None = refusing Shape
unread es (Some xs) (Some a) = unless_crossing (least (filter (meets es xs) a.written))

-- the statement writes nothing that is read behind it, and loses no weight
abbrev pub may_go : Declarations → OneBody → At → Answer (Unit {0})
may_go ds o k = do
  _ ← unread (exclusions ds) (read_behind ds k.rest o.side o.post) (effects_of ds (k.statement ∷ []))
  full (first_loss ds (k.statement ∷ []))

-- the body without the statement
abbrev pub killed_at : Declarations → OneBody → At → Answer (List Instr)
killed_at ds o k = do
  _ ← may_go ds o k
  given (k.before ++ k.rest)

abbrev pub killed : Declarations → ℕ → OneBody → Answer (List Instr)
killed ds n o = on_place (killed_at ds o) (statement_at n o.list)

abbrev pub kill_row : Declarations → Acts → ℕ → Row
kill_row ds a n = transforming (killed ds n) a
