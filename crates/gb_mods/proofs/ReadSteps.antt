-- Which variables are read, step by step.
use Rattle.std.proofs.Common.{◌≡◌, List, ◌++◌, append_assoc, refl, ap, sym, ◌∙◌}
use Rattle.gb_core.specs.declared.var.Var.{Var}
use Rattle.gb_terms.specs.declared.module.ProcRef.{ProcRef}
use Rattle.gb_terms.specs.declared.term.Cmd.{Cmd, items-the_row-Instr, items_hidden-the_row-Instr-1}
use Rattle.gb_terms.specs.declared.term.Term.{Term}
use Rattle.gb_terms.specs.declared.term.Head.TheBlock as B
use Rattle.gb_terms.specs.declared.term.Head.TheVariants.{Call, If, While}
use Rattle.gb_terms.specs.declared.term.Instr.{Instr, Row_of-Instr, end_of-Instr, more_of-Instr}
use Rattle.gb_meaning.specs.Footprints.{variables}
use Rattle.gb_mods.specs.Read.{each_read, row_read, statement_read}
use Rattle.gb_mods.specs.Touched.{each_variables}
use Rattle.gb_mods.proofs.TouchedSteps.{variables_list}
use mathlib.Core.Former.{Count}

read_row : {n : Count} (r : Row_of-Instr n) → row_read r ≡ each_read (items-the_row-Instr _ r)
read_row end_of-Instr = refl
read_row (more_of-Instr i r) = ap (λ l. statement_read i ++ l) (read_row r)

pub read_list : (is : List Instr) → row_read (B.hidden-the_row-Instr-1 is) ≡ each_read is
read_list is = read_row (B.hidden-the_row-Instr-1 is) ∙ ap each_read (items_hidden-the_row-Instr-1 is)

-- what a statement reads, behind others
pub call_read : (found xs : List Var) (p : ProcRef) (es : List Term) → found ++ each_variables es ≡ found ++ statement_read (Call xs p es)
call_read found xs p es = ap (λ l. found ++ l) (sym (variables_list es))

pub if_read : (found : List Var) (e : Term) (a b : Cmd) → ((found ++ variables e) ++ each_read a.list) ++ each_read b.list ≡ found ++ statement_read (If e a b)
if_read found e a b =
    ap (λ l. l ++ each_read b.list) (append_assoc found (variables e) (each_read a.list))
    ∙ append_assoc found (variables e ++ each_read a.list) (each_read b.list)
    ∙ ap (λ l. found ++ l) (sym (λ i. (variables e ++ read_list a.list i) ++ read_list b.list i))

pub while_read : (found : List Var) (e v : Term) (a : Cmd) → ((found ++ variables e) ++ variables v) ++ each_read a.list ≡ found ++ statement_read (While e v a)
while_read found e v a =
    ap (λ l. l ++ each_read a.list) (append_assoc found (variables e) (variables v))
    ∙ append_assoc found (variables e ++ variables v) (each_read a.list)
    ∙ ap (λ l. found ++ l) (sym (ap (λ l. (variables e ++ variables v) ++ l) (read_list a.list)))
