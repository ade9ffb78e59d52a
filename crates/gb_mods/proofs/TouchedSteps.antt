-- Which variables are read and written, step by step.
use Rattle.std.proofs.Common.{◌≡◌, List, ◌++◌, append-nil, append_assoc, refl, ap, sym, ◌∙◌}
use Rattle.gb_core.specs.declared.var.Var.{Var}
use Rattle.gb_terms.specs.declared.module.ProcRef.{ProcRef}
use Rattle.gb_terms.specs.declared.term.Cmd.{Cmd, items-the_row-Instr, items_hidden-the_row-Instr-1}
use Rattle.gb_terms.specs.declared.term.Term.{Term, Term', Row_of-Term, end_of-Term, more_of-Term, end_of-Head, more_of-Head, out-Term, items-the_row-Term, items_hidden-the_row-Term-0}
use Rattle.gb_terms.specs.declared.term.Head.TheBlock as B
use Rattle.gb_terms.specs.declared.term.Head.TheVariants.{Call, If, While}
use Rattle.gb_terms.specs.declared.term.Instr.{Instr, Row_of-Instr, end_of-Instr, more_of-Instr}
use Rattle.gb_meaning.specs.Footprints.{head_variables, touched_in, variables, variables_in}
use Rattle.gb_walk.proofs.ClashSteps.{out_row}
use Rattle.gb_mods.specs.Touched.{apart, each_touched, each_variables, statement_touched}
use mathlib.Core.Former.{Count}

variables_row : {n : Count} (r : Row_of-Term n) → variables_in r ≡ each_variables (items-the_row-Term _ r)
variables_row end_of-Term = refl
variables_row (more_of-Term t r) = ap (λ l. variables t ++ l) (variables_row r)

-- what an expression reads, by its head and its arguments
variables_out : (t : Term) → variables t ≡ head_variables (out-Term t).head ++ each_variables (out-Term t).args
variables_out (Term' tt (more_of-Head h end_of-Head) n ts ty) =
    ap (λ l. head_variables h ++ l) (variables_row ts) ∙ ap (λ z. head_variables z.head ++ each_variables z.args) (sym (out_row h n ts ty))

-- .. behind others
pub variables_behind : (t : Term) (found : List Var) → (found ++ head_variables (out-Term t).head) ++ each_variables (out-Term t).args ≡ found ++ variables t
variables_behind t found =
    append_assoc found (head_variables (out-Term t).head) (each_variables (out-Term t).args) ∙ ap (λ l. found ++ l) (sym (variables_out t))

pub variables_list : (ts : List Term) → variables_in (B.hidden-the_row-Term-0 ts) ≡ each_variables ts
variables_list ts = variables_row (B.hidden-the_row-Term-0 ts) ∙ ap each_variables (items_hidden-the_row-Term-0 ts)

touched_row : {n : Count} (r : Row_of-Instr n) → touched_in apart r ≡ each_touched (items-the_row-Instr _ r)
touched_row end_of-Instr = refl
touched_row (more_of-Instr i r) = ap (λ l. statement_touched i ++ l) (touched_row r)

touched_list : (is : List Instr) → touched_in apart (B.hidden-the_row-Instr-1 is) ≡ each_touched is
touched_list is = touched_row (B.hidden-the_row-Instr-1 is) ∙ ap each_touched (items_hidden-the_row-Instr-1 is)

-- what a statement reads or writes, behind others
pub call_behind : (found xs : List Var) (p : ProcRef) (es : List Term) → (found ++ xs) ++ each_variables es ≡ found ++ statement_touched (Call xs p es)
call_behind found xs p es = append_assoc found xs (each_variables es) ∙ ap (λ l. found ++ l) (sym (append-nil _ ∙ ap (λ l. xs ++ l) (variables_list es)))

pub if_behind : (found : List Var) (e : Term) (a b : Cmd) → ((found ++ variables e) ++ each_touched a.list) ++ each_touched b.list ≡ found ++ statement_touched (If e a b)
if_behind found e a b =
    ap (λ l. l ++ each_touched b.list) (append_assoc found (variables e) (each_touched a.list))
    ∙ append_assoc found (variables e ++ each_touched a.list) (each_touched b.list)
    ∙ ap (λ l. found ++ l) (sym (λ i. (variables e ++ touched_list a.list i) ++ touched_list b.list i))

pub while_behind : (found : List Var) (e v : Term) (a : Cmd) → ((found ++ variables e) ++ variables v) ++ each_touched a.list ≡ found ++ statement_touched (While e v a)
while_behind found e v a =
    ap (λ l. l ++ each_touched a.list) (append_assoc found (variables e) (variables v))
    ∙ append_assoc found (variables e ++ variables v) (each_touched a.list)
    ∙ ap (λ l. found ++ l) (sym (ap (λ l. (variables e ++ variables v) ++ l) (touched_list a.list)))
