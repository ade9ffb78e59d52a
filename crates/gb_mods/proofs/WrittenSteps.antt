-- Which variables statements and procedures write, step by step.
use Rattle.std.proofs.Common.{◌≡◌, List, ◌++◌, refl, ap, ◌∙◌}
use Rattle.gb_terms.specs.declared.term.Cmd.{Cmd, items-the_row-Instr, items_hidden-the_row-Instr-1}
use Rattle.gb_terms.specs.declared.term.Term.{Term}
use Rattle.gb_terms.specs.declared.term.Head.TheBlock as B
use Rattle.gb_terms.specs.declared.term.Head.TheVariants.{If, While}
use Rattle.gb_terms.specs.declared.term.Instr.{Instr, Row_of-Instr, end_of-Instr, more_of-Instr}
use Rattle.gb_mods.specs.Written.{row_targets, statement_targets, targets}
use mathlib.Core.Former.{Count}

targets_row : {n : Count} (r : Row_of-Instr n) → row_targets r ≡ targets (items-the_row-Instr _ r)
targets_row end_of-Instr = refl
targets_row (more_of-Instr i r) = ap (λ l. statement_targets i ++ l) (targets_row r)

targets_list : (is : List Instr) → row_targets (B.hidden-the_row-Instr-1 is) ≡ targets is
targets_list is = targets_row (B.hidden-the_row-Instr-1 is) ∙ ap targets (items_hidden-the_row-Instr-1 is)

pub targets_if : (e : Term) (a b : Cmd) → statement_targets (If e a b) ≡ targets a.list ++ targets b.list
targets_if e a b = λ i. targets_list a.list i ++ targets_list b.list i

pub targets_while : (e v : Term) (a : Cmd) → statement_targets (While e v a) ≡ targets a.list
targets_while e v a = targets_list a.list
