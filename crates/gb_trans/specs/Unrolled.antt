-- `unroll`: one turn of a loop stands in front of it.
use Rattle.std.specs.Prelude.{ℕ, List, ◌∷◌, ◌++◌}
use Rattle.gb_core.specs.declared.refusal.Why.TheVariants.{Shape}
use Rattle.gb_terms.specs.declared.term.Cmd.{Cmd}
use Rattle.gb_terms.specs.declared.term.Head.{Head}
use Rattle.gb_terms.specs.declared.term.Head.TheOpen as layer
use Rattle.gb_terms.specs.declared.term.Instr.{Instr, out-Instr}
use Rattle.gb_terms.specs.declared.term.Subject.{Subject}
use Rattle.gb_terms.specs.declared.term.Term.{Term}
use Rattle.gb_goal.specs.Answers.{Answer}
use Rattle.gb_goal.specs.Answers.Answer.{given}
use Rattle.gb_goal.specs.Rows.{Row, refusing}
use Rattle.gb_steps.specs.declared.step.Acts.{Acts}
use Rattle.gb_forms.specs.Turns.{turn}
use Rattle.gb_prog.specs.OneBody.{OneBody}
use Rattle.gb_trans.specs.Places.{At, on_place, statement_at}
use Rattle.gb_trans.specs.Transformed.{transforming}

-- the body in which a turn stands in front of the loop
abbrev pub turn_before : layer.Instr-F Head Instr Subject Cmd Term → At → Answer (List Instr)
turn_before (layer.While e v b) k = given (k.before ++ turn e b ∷ k.statement ∷ k.rest)
turn_before _ k = refusing Shape

abbrev pub unrolled : ℕ → List Instr → Answer (List Instr)
unrolled n is = on_place (λ k. turn_before (out-Instr k.statement) k) (statement_at n is)

abbrev pub unroll_row : ℕ → Acts → Row
unroll_row n a = transforming (λ (o : OneBody). unrolled n o.list) a
