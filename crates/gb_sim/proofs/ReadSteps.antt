-- What is read, step by step.
use Rattle.std.proofs.Common.{◌≡◌, List, ◌++◌, append_assoc, refl, ap, sym, ◌∙◌}
use Rattle.gb_core.specs.declared.var.Var.{Var}
use Rattle.gb_terms.specs.declared.module.ProcRef.{ProcRef}
use Rattle.gb_terms.specs.declared.term.Cmd.{Cmd, items-the_row-Instr, items_hidden-the_row-Instr-1}
use Rattle.gb_terms.specs.declared.term.Term.{Term, Term', Row_of-Term, end_of-Term, more_of-Term, end_of-Head, more_of-Head, out-Term, items-the_row-Term, items_hidden-the_row-Term-0}
use Rattle.gb_terms.specs.declared.term.Head.TheBlock as B
use Rattle.gb_terms.specs.declared.term.Head.TheVariants.{Call, If, While}
use Rattle.gb_terms.specs.declared.term.Instr.{Instr, Row_of-Instr, end_of-Instr, more_of-Instr}
use Rattle.gb_walk.proofs.ClashSteps.{out_row}
use Rattle.gb_labels.specs.Reads.{Vars}
use Rattle.gb_sim.specs.Reads.{body_reads, each_reads, head_reads, list_reads, row_reads, statement_reads, term_reads}
use mathlib.Core.Former.{Count}

reads_row : {n : Count} (r : Row_of-Term n) → row_reads r ≡ each_reads (items-the_row-Term _ r)
reads_row end_of-Term = refl
reads_row (more_of-Term t r) = ap (λ l. term_reads t ++ l) (reads_row r)

-- what an expression reads, by its head and its arguments
reads_out : (t : Term) → term_reads t ≡ head_reads (out-Term t).head (out-Term t).ty ++ each_reads (out-Term t).args
reads_out (Term' tt (more_of-Head h end_of-Head) n ts ty) =
    ap (λ l. head_reads h ty ++ l) (reads_row ts) ∙ ap (λ z. head_reads z.head z.ty ++ each_reads z.args) (sym (out_row h n ts ty))

-- .. behind others
pub reads_behind : (t : Term) (found : Vars) → (found ++ head_reads (out-Term t).head (out-Term t).ty) ++ each_reads (out-Term t).args ≡ found ++ term_reads t
reads_behind t found = append_assoc found (head_reads (out-Term t).head (out-Term t).ty) (each_reads (out-Term t).args) ∙ ap (λ l. found ++ l) (sym (reads_out t))

pub arguments_list : (ts : List Term) → row_reads (B.hidden-the_row-Term-0 ts) ≡ each_reads ts
arguments_list ts = reads_row (B.hidden-the_row-Term-0 ts) ∙ ap each_reads (items_hidden-the_row-Term-0 ts)

body_row : {n : Count} (r : Row_of-Instr n) → body_reads r ≡ list_reads (items-the_row-Instr _ r)
body_row end_of-Instr = refl
body_row (more_of-Instr i r) = ap (λ l. statement_reads i ++ l) (body_row r)

pub body_list : (is : List Instr) → body_reads (B.hidden-the_row-Instr-1 is) ≡ list_reads is
body_list is = body_row (B.hidden-the_row-Instr-1 is) ∙ ap list_reads (items_hidden-the_row-Instr-1 is)

-- what a statement reads, behind others
pub call_behind : (found : Vars) (xs : List Var) (p : ProcRef) (es : List Term) → found ++ each_reads es ≡ found ++ statement_reads (Call xs p es)
call_behind found xs p es = ap (λ l. found ++ l) (sym (arguments_list es))

pub if_behind : (found : Vars) (e : Term) (a b : Cmd) → ((found ++ term_reads e) ++ list_reads a.list) ++ list_reads b.list ≡ found ++ statement_reads (If e a b)
if_behind found e a b =
    append_assoc (found ++ term_reads e) (list_reads a.list) (list_reads b.list) ∙ append_assoc found (term_reads e) (list_reads a.list ++ list_reads b.list)
    ∙ ap (λ l. found ++ l) (sym (λ i. term_reads e ++ (body_list a.list i ++ body_list b.list i)))

pub while_behind : (found : Vars) (e v : Term) (a : Cmd) → ((found ++ term_reads e) ++ term_reads v) ++ list_reads a.list ≡ found ++ statement_reads (While e v a)
while_behind found e v a =
    append_assoc (found ++ term_reads e) (term_reads v) (list_reads a.list) ∙ append_assoc found (term_reads e) (term_reads v ++ list_reads a.list)
    ∙ ap (λ l. found ++ l) (sym (λ i. term_reads e ++ (term_reads v ++ body_list a.list i)))
