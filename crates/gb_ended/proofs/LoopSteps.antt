-- Which statements have loops, step by step.
use Rattle.std.proofs.Common.{◌≡◌, true, ◌||◌, List, refl, ap, ◌∙◌}
use Rattle.gb_terms.specs.declared.term.Cmd.{Cmd, items-the_row-Instr, items_hidden-the_row-Instr-1}
use Rattle.gb_terms.specs.declared.term.Term.{Term}
use Rattle.gb_terms.specs.declared.term.Head.TheBlock as B
use Rattle.gb_terms.specs.declared.term.Head.TheVariants.{If, While}
use Rattle.gb_terms.specs.declared.term.Instr.{Instr, Row_of-Instr, end_of-Instr, more_of-Instr}
use Rattle.gb_ended.specs.Loops.{has_loop, loops, row_loops}
use mathlib.Core.Former.{Count}

loops_row : {n : Count} (r : Row_of-Instr n) → row_loops r ≡ has_loop (items-the_row-Instr _ r)
loops_row end_of-Instr = refl
loops_row (more_of-Instr i r) = ap (λ b. loops i || b) (loops_row r)

loops_list : (is : List Instr) → row_loops (B.hidden-the_row-Instr-1 is) ≡ has_loop is
loops_list is = loops_row (B.hidden-the_row-Instr-1 is) ∙ ap has_loop (items_hidden-the_row-Instr-1 is)

pub loops_if : (e : Term) (a b : Cmd) → loops (If e a b) ≡ (has_loop a.list || has_loop b.list)
loops_if e a b = λ i. loops_list a.list i || loops_list b.list i

pub loops_while : (e v : Term) (a : Cmd) → loops (While e v a) ≡ true
loops_while e v a = refl
