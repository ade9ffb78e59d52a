-- Procedures of modules with arguments: what they call.
use Rattle.std.proofs.Common.{◌≡◌, List, [], ◌∷◌, ◌++◌, map, refl, ap, sym, ◌∙◌}
use Rattle.gb_terms.specs.declared.module.Mexp.{Mexp}
use Rattle.gb_terms.specs.declared.module.ProcRef.{ProcRef}
use Rattle.gb_terms.specs.declared.term.Cmd.{items-the_row-Instr, items_hidden-the_row-Instr-1}
use Rattle.gb_terms.specs.declared.term.Head.TheBlock as B
use Rattle.gb_terms.specs.declared.term.Head.TheVariants.{Assign, Sample, Call', If', While'}
use Rattle.gb_terms.specs.declared.term.Instr.{Instr, Row_of-Instr, end_of-Instr, more_of-Instr}
use Rattle.gb_goal.specs.Instances.{call_with, calls_with, put_in_reference, row_with}
use Rattle.gb_meaning.specs.Names.{Name}
use Rattle.gb_mods.specs.Called.{calls, row_calls, statement_calls}
use mathlib.Core.Former.{Count}

-- Rows and lists of statements.

calls_row : {n : Count} (r : Row_of-Instr n) → row_calls r ≡ calls (items-the_row-Instr _ r)
calls_row end_of-Instr = refl
calls_row (more_of-Instr i r) = ap (λ z. statement_calls i ++ z) (calls_row r)

calls_list : (is : List Instr) → row_calls (B.hidden-the_row-Instr-1 is) ≡ calls is
calls_list is = calls_row (B.hidden-the_row-Instr-1 is) ∙ ap calls (items_hidden-the_row-Instr-1 is)

map_append : (f : ProcRef → ProcRef) (ps qs : List ProcRef) → map f (ps ++ qs) ≡ map f ps ++ map f qs
map_append f [] qs = refl
map_append f (p ∷ ps) qs = ap (λ z. f p ∷ z) (map_append f ps qs)

module _ (s : Name → Mexp) where
  abbrev put : ProcRef → ProcRef
  put = put_in_reference s

  mutual
    statement_put : (i : Instr) → statement_calls (call_with s i) ≡ map put (statement_calls i)
    statement_put (Assign xs e) = refl
    statement_put (Sample x d) = refl
    statement_put (Call' xs p n es) = refl
    statement_put (If' e m a n b) = (λ i. (calls_list (row_with s a) ∙ row_put a) i ++ (calls_list (row_with s b) ∙ row_put b) i) ∙ sym (map_append put (row_calls a) (row_calls b))
    statement_put (While' e v n a) = calls_list (row_with s a) ∙ row_put a

    row_put : {n : Count} (is : Row_of-Instr n) → calls (row_with s is) ≡ map put (row_calls is)
    row_put end_of-Instr = refl
    row_put (more_of-Instr x is) = (λ i. statement_put x i ++ row_put is i) ∙ sym (map_append put (statement_calls x) (row_calls is))

  -- an instance calls what is put for what its procedure calls
  pub calls_put : (is : List Instr) → calls (calls_with s is) ≡ map put (calls is)
  calls_put [] = refl
  calls_put (x ∷ is) = (λ i. statement_put x i ++ calls_put is i) ∙ sym (map_append put (statement_calls x) (calls is))
