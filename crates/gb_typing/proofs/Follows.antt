-- The readings of procedures follow their calls: a procedure with other references in its calls is read as it is where each reference means what the other one does.
use Rattle.std.proofs.Common.{◌≡◌, List, [], ◌∷◌, ◌++◌, Option, refl, ap, sym, ◌∙◌}
use Rattle.gb_core.specs.declared.var.Var.{Var}
use Rattle.gb_terms.specs.declared.module.Mexp.{Mexp}
use Rattle.gb_terms.specs.declared.module.ProcRef.{ProcRef}
use Rattle.gb_terms.specs.declared.term.Cmd.{items-the_row-Instr, items_hidden-the_row-Instr-1}
use Rattle.gb_terms.specs.declared.term.Head.TheBlock as B
use Rattle.gb_terms.specs.declared.term.Head.TheVariants.{Assign, Sample, Call', If', While'}
use Rattle.gb_terms.specs.declared.term.Instr.{Instr, Row_of-Instr, end_of-Instr, more_of-Instr}
use Rattle.gb_terms.specs.declared.term.Term.{Term, Row_of-Term, end_of-Term, more_of-Term, items-the_row-Term, items_hidden-the_row-Term-0}
use Rattle.gb_meaning.specs.Commands.{program_of, called, terms_in, statement, statements}
use Rattle.gb_meaning.specs.Names.{Name}
use Rattle.gb_meaning.specs.Program.{Program, Routine}
use Rattle.gb_meaning.specs.Program.Program.{assign, sample, branch, loop}
use Rattle.gb_meaning.specs.Program.Routine.{routine}
use Rattle.gb_meaning.specs.Setting.{Setting}
use Rattle.gb_meaning.proofs.Bodies.{statement_call, statement_if, statement_while}
use Rattle.gb_meaning.specs.Footprints.{of_callee, variables, variables_in, touched, touched_in, body_touched, globals_among, in_order, var_order, footprint_read}
use Rattle.gb_meaning.specs.Linking.{calling, linked_procedure}
use Rattle.gb_goal.specs.Instances.{put_in_reference, call_with, row_with, calls_with}
use Rattle.gb_typing.specs.Following.{FollowsCalls}
use mathlib.Core.Former.{Count}

-- Programs.

module _ (g : Setting) (f : ProcRef → Option Routine) (s : Name → Mexp) where
  abbrev put : ProcRef → Option Routine
  put r = f (put_in_reference s r)

  mutual
    statement_follows : (i : Instr) (c d : Program) → c ≡ d → statement (calling g f) (call_with s i) c ≡ statement (calling g put) i d
    statement_follows (Assign xs e) c d q = ap (assign xs e) q
    statement_follows (Sample x e) c d q = ap (sample x e) q
    statement_follows (Call' xs r n es) c d q = statement_call (calling g f) xs (put_in_reference s r) (terms_in es) c ∙ ap (called xs (put r) (terms_in es)) q
    statement_follows (If' e m a n b) c d q =
        statement_if (calling g f) e (record { list = row_with s a }) (record { list = row_with s b }) c ∙ (λ i. branch e (row_follows a i) (row_follows b i) (q i))
    statement_follows (While' e v n a) c d q = statement_while (calling g f) e v (record { list = row_with s a }) c ∙ (λ i. loop e v (row_follows a i) (q i))

    row_follows : {n : Count} (is : Row_of-Instr n) → statements (calling g f) (row_with s is) ≡ program_of (calling g put) is
    row_follows end_of-Instr = refl
    row_follows (more_of-Instr (Assign xs e) is) = statement_follows (Assign xs e) _ _ (row_follows is)
    row_follows (more_of-Instr (Sample x d) is) = statement_follows (Sample x d) _ _ (row_follows is)
    row_follows (more_of-Instr (Call' xs r n es) is) = statement_follows (Call' xs r n es) _ _ (row_follows is)
    row_follows (more_of-Instr (If' e m a n b) is) = statement_follows (If' e m a n b) _ _ (row_follows is)
    row_follows (more_of-Instr (While' e v n a) is) = statement_follows (While' e v n a) _ _ (row_follows is)

  body_follows : (is : List Instr) → statements (calling g f) (calls_with s is) ≡ statements (calling g put) is
  body_follows [] = refl
  body_follows (i ∷ is) = statement_follows i (statements (calling g f) (calls_with s is)) (statements (calling g put) is) (body_follows is)

pub linking_follows : (g : Setting) → FollowsCalls (linked_procedure g)
linking_follows g f s p = ap (λ c. routine p.params p.locals c p.value) (body_follows g f s p.body.list)

-- Footprints.

-- the variables that expressions read, one after another
abbrev each_variables : List Term → List Var
each_variables [] = []
each_variables (t ∷ ts) = variables t ++ each_variables ts

variables_row : {n : Count} (r : Row_of-Term n) → variables_in r ≡ each_variables (items-the_row-Term _ r)
variables_row end_of-Term = refl
variables_row (more_of-Term t r) = ap (λ z. variables t ++ z) (variables_row r)

variables_terms : {n : Count} (r : Row_of-Term n) → variables_in r ≡ each_variables (terms_in r)
variables_terms end_of-Term = refl
variables_terms (more_of-Term t r) = ap (λ z. variables t ++ z) (variables_terms r)

variables_again : {n : Count} (r : Row_of-Term n) → variables_in (B.hidden-the_row-Term-0 (terms_in r)) ≡ variables_in r
variables_again r = variables_row (B.hidden-the_row-Term-0 (terms_in r)) ∙ ap each_variables (items_hidden-the_row-Term-0 (terms_in r)) ∙ sym (variables_terms r)

module _ (f : ProcRef → Option (List Var)) (s : Name → Mexp) where
  abbrev put_touched : ProcRef → Option (List Var)
  put_touched r = f (put_in_reference s r)

  touched_row : {n : Count} (r : Row_of-Instr n) → touched_in f r ≡ body_touched f (items-the_row-Instr _ r)
  touched_row end_of-Instr = refl
  touched_row (more_of-Instr i r) = ap (λ z. touched f i ++ z) (touched_row r)

  touched_list : (is : List Instr) → touched_in f (B.hidden-the_row-Instr-1 is) ≡ body_touched f is
  touched_list is = touched_row (B.hidden-the_row-Instr-1 is) ∙ ap (body_touched f) (items_hidden-the_row-Instr-1 is)

  mutual
    touched_follows : (i : Instr) → touched f (call_with s i) ≡ touched put_touched i
    touched_follows (Assign xs e) = refl
    touched_follows (Sample x d) = refl
    touched_follows (Call' xs r n es) = ap (λ z. xs ++ z ++ of_callee (put_touched r)) (variables_again es)
    touched_follows (If' e m a n b) = λ i. variables e ++ (touched_list (row_with s a) ∙ row_touched a) i ++ (touched_list (row_with s b) ∙ row_touched b) i
    touched_follows (While' e v n a) = λ i. variables e ++ variables v ++ (touched_list (row_with s a) ∙ row_touched a) i

    row_touched : {n : Count} (is : Row_of-Instr n) → body_touched f (row_with s is) ≡ touched_in put_touched is
    row_touched end_of-Instr = refl
    row_touched (more_of-Instr x is) = λ i. touched_follows x i ++ row_touched is i

  body_touched_follows : (is : List Instr) → body_touched f (calls_with s is) ≡ body_touched put_touched is
  body_touched_follows [] = refl
  body_touched_follows (x ∷ is) = λ i. touched_follows x i ++ body_touched_follows is i

pub footprint_follows : FollowsCalls footprint_read
footprint_follows f s p = λ i. in_order var_order (globals_among (body_touched_follows f s p.body.list i ++ variables p.value))
