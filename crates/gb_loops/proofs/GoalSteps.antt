-- The loops of programs and their goals, step by step.
use Rattle.std.proofs.Common.{◌≡◌, List, [], ◌∷◌, ◌++◌, flat_map, refl, ap, sym, ◌∙◌}
use Rattle.std.proofs.lemmas.List.{append_assoc}
use Rattle.gb_terms.specs.declared.term.Cmd.{Cmd, items-the_row-Instr, items_hidden-the_row-Instr-1}
use Rattle.gb_terms.specs.declared.term.Term.{Term}
use Rattle.gb_terms.specs.declared.term.Head.TheBlock as B
use Rattle.gb_terms.specs.declared.term.Head.TheVariants.{If, While}
use Rattle.gb_terms.specs.declared.term.Instr.{Instr, Row_of-Instr, end_of-Instr, more_of-Instr}
use Rattle.gb_goal.specs.declared.sequent.Sequent.{Sequent}
use Rattle.gb_loops.specs.Loops.{Loop, listed, statement_loops, row_loops, loops}
use Rattle.gb_loops.specs.Variants.{loop_goals}
use mathlib.Core.Former.{Count}

loops_row : {n : Count} (r : Row_of-Instr n) → row_loops r ≡ loops (items-the_row-Instr _ r)
loops_row end_of-Instr = refl
loops_row (more_of-Instr i r) = ap (λ l. statement_loops i ++ l) (loops_row r)

listed_row : {n : Count} (r : Row_of-Instr n) → listed r ≡ items-the_row-Instr _ r
listed_row end_of-Instr = refl
listed_row (more_of-Instr i r) = ap (λ l. i ∷ l) (listed_row r)

loops_list : (is : List Instr) → row_loops (B.hidden-the_row-Instr-1 is) ≡ loops is
loops_list is = loops_row (B.hidden-the_row-Instr-1 is) ∙ ap loops (items_hidden-the_row-Instr-1 is)

list_listed : (is : List Instr) → listed (B.hidden-the_row-Instr-1 is) ≡ is
list_listed is = listed_row (B.hidden-the_row-Instr-1 is) ∙ items_hidden-the_row-Instr-1 is

pub loops_if : (e : Term) (a b : Cmd) → statement_loops (If e a b) ≡ loops a.list ++ loops b.list
loops_if e a b = λ i. loops_list a.list i ++ loops_list b.list i

pub loops_while : (e v : Term) (a : Cmd) → statement_loops (While e v a) ≡ loops a.list ++ record { guard = e; variant = v; body = a.list } ∷ []
loops_while e v a = λ i. loops_list a.list i ++ record { guard = e; variant = v; body = list_listed a.list i } ∷ []

abbrev pub each_goals : List Loop → List Sequent
each_goals ls = flat_map loop_goals ls

goals_append : (ls ks : List Loop) → each_goals (ls ++ ks) ≡ each_goals ls ++ each_goals ks
goals_append [] ks = refl
goals_append (l ∷ ls) ks = ap (λ z. loop_goals l ++ z) (goals_append ls ks) ∙ sym (append_assoc (loop_goals l) (each_goals ls) (each_goals ks))

pub goals_if : (e : Term) (a b : Cmd) → each_goals (statement_loops (If e a b)) ≡ each_goals (loops a.list) ++ each_goals (loops b.list)
goals_if e a b = ap each_goals (loops_if e a b) ∙ goals_append (loops a.list) (loops b.list)

pub goals_while : (e v : Term) (a : Cmd) → each_goals (statement_loops (While e v a))
    ≡ each_goals (loops a.list) ++ loop_goals (record { guard = e; variant = v; body = a.list })
goals_while e v a =
    let l : Loop = record { guard = e; variant = v; body = a.list } in
    ap each_goals (loops_while e v a) ∙ goals_append (loops a.list) (l ∷ [])

pub goals_next : (i : Instr) (is : List Instr) → each_goals (loops (i ∷ is)) ≡ each_goals (statement_loops i) ++ each_goals (loops is)
goals_next i is = goals_append (statement_loops i) (loops is)
