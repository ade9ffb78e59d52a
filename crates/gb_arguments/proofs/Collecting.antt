-- Readings that collect look at calls, and follow them.
use Rattle.std.proofs.Common.{◌≡◌, inl, inr, List, [], ◌∷◌, ◌++◌, map, Option, refl, ap, sym, ◌∙◌, subst}
use Rattle.gb_core.specs.declared.var.Var.{Var}
use Rattle.gb_terms.specs.declared.decl.Proc.{Proc}
use Rattle.gb_terms.specs.declared.module.Mexp.{Mexp}
use Rattle.gb_terms.specs.declared.module.ProcRef.{ProcRef}
use Rattle.gb_terms.specs.declared.term.Cmd.{items-the_row-Instr, items_hidden-the_row-Instr-1}
use Rattle.gb_terms.specs.declared.term.Head.TheBlock as B
use Rattle.gb_terms.specs.declared.term.Head.TheVariants.{Assign, Sample, Call', If', While'}
use Rattle.gb_terms.specs.declared.term.Instr.{Instr, Row_of-Instr, end_of-Instr, more_of-Instr}
use Rattle.gb_goal.specs.Instances.{call_with, calls_with, put_in_reference, row_with, with_calls}
use Rattle.gb_meaning.specs.Footprints.{of_callee}
use Rattle.gb_meaning.specs.Names.{Name}
use Rattle.gb_meaning.specs.Naming.{EachCall, EachCallIn, EachCallOf}
use Rattle.gb_typing.specs.Alike.{LooksAtCalls}
use Rattle.gb_typing.specs.Following.{FollowsCalls}
use Rattle.gb_mods.specs.Called.{calls, row_calls, statement_calls}
use Rattle.gb_mods.proofs.Closed.{IsIn}
use Rattle.gb_arguments.specs.Collect.{Each, collect, values}
use mathlib.Core.Former.{Count}

-- Each procedure that is called.

module _ (P : ProcRef → Type 0) where
  each_both : (ps qs : List ProcRef) → Each P ps → Each P qs → Each P (ps ++ qs)
  each_both [] qs h k = k
  each_both (p ∷ ps) qs h k = (h.0, each_both ps qs h.1 k)

  mutual
    each_statement : (i : Instr) → EachCall P i → Each P (statement_calls i)
    each_statement (Assign xs e) h = tt
    each_statement (Sample x d) h = tt
    each_statement (Call' xs p n es) h = (h, tt)
    each_statement (If' e m a n b) h = each_both (row_calls a) (row_calls b) (each_row a h.0) (each_row b h.1)
    each_statement (While' e v n a) h = each_row a h

    each_row : {n : Count} (is : Row_of-Instr n) → EachCallIn P is → Each P (row_calls is)
    each_row end_of-Instr h = tt
    each_row (more_of-Instr i is) h = each_both (statement_calls i) (row_calls is) (each_statement i h.0) (each_row is h.1)

  pub each_called : (is : List Instr) → EachCallOf P is → Each P (calls is)
  each_called [] h = tt
  each_called (i ∷ is) h = each_both (statement_calls i) (calls is) (each_statement i h.0) (each_called is h.1)

  pub each_in : (qs : List ProcRef) → Each P qs → (q : ProcRef) → IsIn qs q → P q
  each_in [] h q i = absurd i
  each_in (p ∷ qs) h q (inl e) = subst P e h.0
  each_in (p ∷ qs) h q (inr i) = each_in qs h.1 q i

values_same : (f g : ProcRef → Option (List Var)) (qs : List ProcRef) → Each (λ r. f r ≡ g r) qs → values f qs ≡ values g qs
values_same f g [] h = refl
values_same f g (q ∷ qs) h = λ i. of_callee (h.0 i) ++ values_same f g qs h.1 i

-- An instance calls what is put for what its procedure calls.

calls_row : {n : Count} (r : Row_of-Instr n) → row_calls r ≡ calls (items-the_row-Instr _ r)
calls_row end_of-Instr = refl
calls_row (more_of-Instr i r) = ap (λ z. statement_calls i ++ z) (calls_row r)

calls_list : (is : List Instr) → row_calls (B.hidden-the_row-Instr-1 is) ≡ calls is
calls_list is = calls_row (B.hidden-the_row-Instr-1 is) ∙ ap calls (items_hidden-the_row-Instr-1 is)

map_append : (f : ProcRef → ProcRef) (ps qs : List ProcRef) → map f (ps ++ qs) ≡ map f ps ++ map f qs
map_append f [] qs = refl
map_append f (p ∷ ps) qs = ap (λ z. f p ∷ z) (map_append f ps qs)

module _ (s : Name → Mexp) where
  abbrev put : ProcRef → ProcRef
  put = put_in_reference s

  mutual
    statement_put : (i : Instr) → statement_calls (call_with s i) ≡ map put (statement_calls i)
    statement_put (Assign xs e) = refl
    statement_put (Sample x d) = refl
    statement_put (Call' xs p n es) = refl
    statement_put (If' e m a n b) = (λ i. (calls_list (row_with s a) ∙ row_put a) i ++ (calls_list (row_with s b) ∙ row_put b) i) ∙ sym (map_append put (row_calls a) (row_calls b))
    statement_put (While' e v n a) = calls_list (row_with s a) ∙ row_put a

    row_put : {n : Count} (is : Row_of-Instr n) → calls (row_with s is) ≡ map put (row_calls is)
    row_put end_of-Instr = refl
    row_put (more_of-Instr x is) = (λ i. statement_put x i ++ row_put is i) ∙ sym (map_append put (statement_calls x) (row_calls is))

  pub calls_put : (is : List Instr) → calls (calls_with s is) ≡ map put (calls is)
  calls_put [] = refl
  calls_put (x ∷ is) = (λ i. statement_put x i ++ calls_put is i) ∙ sym (map_append put (statement_calls x) (calls is))

  values_put : (f : ProcRef → Option (List Var)) (qs : List ProcRef) → values f (map put qs) ≡ values (λ r. f (put r)) qs
  values_put f [] = refl
  values_put f (q ∷ qs) = ap (λ z. of_callee (f (put q)) ++ z) (values_put f qs)

module _ (own : Proc → List Var) where
  pub collect_looks : LooksAtCalls (collect own)
  collect_looks f g p h = ap (λ z. own p ++ z) (values_same f g (calls p.body.list) (each_called (λ r. f r ≡ g r) p.body.list h))

  pub collect_follows : ((s : Name → Mexp) (p : Proc) → own (with_calls s p) ≡ own p) → FollowsCalls (collect own)
  collect_follows still f s p = λ i. still s p i ++ (ap (values f) (calls_put s p.body.list) ∙ values_put s f (calls p.body.list)) i
