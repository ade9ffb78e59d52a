-- Reading with open parameters looks at calls, and follows them.
use Rattle.std.proofs.Common.{◌≡◌, List, [], ◌∷◌, Option, refl, ap, ◌∙◌}
use Rattle.gb_terms.specs.declared.module.Mexp.{Mexp}
use Rattle.gb_terms.specs.declared.module.ProcRef.{ProcRef}
use Rattle.gb_terms.specs.declared.term.Cmd.{items-the_row-Instr, items_hidden-the_row-Instr-1}
use Rattle.gb_terms.specs.declared.term.Head.TheBlock as B
use Rattle.gb_terms.specs.declared.term.Head.TheVariants.{Assign, Sample, Call', If', While'}
use Rattle.gb_terms.specs.declared.term.Instr.{Instr, Row_of-Instr, end_of-Instr, more_of-Instr}
use Rattle.gb_terms.specs.declared.term.Term.{Term, Row_of-Term, end_of-Term, more_of-Term, items-the_row-Term, items_hidden-the_row-Term-0}
use Rattle.gb_terms.specs.Rows.{terms_in}
use Rattle.gb_goal.specs.Instances.{call_with, calls_with, put_in_reference, row_with}
use Rattle.gb_meaning.specs.Names.{Name}
use Rattle.gb_meaning.specs.Naming.{EachCall, EachCallIn, EachCallOf}
use Rattle.gb_meaning.specs.Program.{Program}
use Rattle.gb_meaning.specs.Program.Program.{assign, sample, branch, loop}
use Rattle.gb_meaning.specs.Program.Routine.{routine}
use Rattle.gb_typing.specs.Alike.{LooksAtCalls}
use Rattle.gb_typing.specs.Following.{FollowsCalls}
use Rattle.gb_arguments.specs.Opened.{Callee, linked, carried, open_procedure, program_over, statement_over, statements_over}
use mathlib.Core.Former.{Count}

module _ (f g : ProcRef → Option Callee) where
  row_same : {n : Count} (is : Row_of-Instr n) → EachCallIn (λ r. f r ≡ g r) is → program_over f is ≡ program_over g is
  row_same end_of-Instr h = refl
  row_same (more_of-Instr (Assign xs e) is) h = ap (assign xs e) (row_same is h.1)
  row_same (more_of-Instr (Sample x d) is) h = ap (sample x d) (row_same is h.1)
  row_same (more_of-Instr (Call' xs p n es) is) h = λ i. carried xs (h.0 i) (terms_in es) (row_same is h.1 i)
  row_same (more_of-Instr (If' e m a n b) is) h = λ i. branch e (row_same a h.0.0 i) (row_same b h.0.1 i) (row_same is h.1 i)
  row_same (more_of-Instr (While' e v n a) is) h = λ i. loop e v (row_same a h.0 i) (row_same is h.1 i)

  statement_same : (i : Instr) (c d : Program) → EachCall (λ r. f r ≡ g r) i → c ≡ d → statement_over f i c ≡ statement_over g i d
  statement_same (Assign xs e) c d h q = ap (assign xs e) q
  statement_same (Sample x e) c d h q = ap (sample x e) q
  statement_same (Call' xs p n es) c d h q = λ i. carried xs (h i) (terms_in es) (q i)
  statement_same (If' e m a n b) c d h q = λ i. branch e (row_same a h.0 i) (row_same b h.1 i) (q i)
  statement_same (While' e v n a) c d h q = λ i. loop e v (row_same a h i) (q i)

  body_same : (is : List Instr) → EachCallOf (λ r. f r ≡ g r) is → statements_over f is ≡ statements_over g is
  body_same [] h = refl
  body_same (i ∷ is) h = statement_same i (statements_over f is) (statements_over g is) h.0 (body_same is h.1)

pub open_looks : LooksAtCalls open_procedure
open_looks f g p h = ap (λ c. linked (routine p.params p.locals c p.value)) (body_same f g p.body.list h)

terms_row : {n : Count} (r : Row_of-Term n) → terms_in r ≡ items-the_row-Term _ r
terms_row end_of-Term = refl
terms_row (more_of-Term t r) = ap (λ z. t ∷ z) (terms_row r)

terms_list : (ts : List Term) → terms_in (B.hidden-the_row-Term-0 ts) ≡ ts
terms_list ts = terms_row (B.hidden-the_row-Term-0 ts) ∙ items_hidden-the_row-Term-0 ts

module _ (f : ProcRef → Option Callee) (s : Name → Mexp) where
  abbrev put : ProcRef → Option Callee
  put r = f (put_in_reference s r)

  over_row : {n : Count} (r : Row_of-Instr n) → program_over f r ≡ statements_over f (items-the_row-Instr _ r)
  over_row end_of-Instr = refl
  over_row (more_of-Instr (Assign xs e) r) = ap (assign xs e) (over_row r)
  over_row (more_of-Instr (Sample x d) r) = ap (sample x d) (over_row r)
  over_row (more_of-Instr (Call' xs p n es) r) = ap (carried xs (f p) (terms_in es)) (over_row r)
  over_row (more_of-Instr (If' e m a n b) r) = ap (branch e (program_over f a) (program_over f b)) (over_row r)
  over_row (more_of-Instr (While' e v n a) r) = ap (loop e v (program_over f a)) (over_row r)

  over_list : (is : List Instr) → program_over f (B.hidden-the_row-Instr-1 is) ≡ statements_over f is
  over_list is = over_row (B.hidden-the_row-Instr-1 is) ∙ ap (statements_over f) (items_hidden-the_row-Instr-1 is)

  mutual
    statement_follows : (i : Instr) (c d : Program) → c ≡ d → statement_over f (call_with s i) c ≡ statement_over put i d
    statement_follows (Assign xs e) c d q = ap (assign xs e) q
    statement_follows (Sample x e) c d q = ap (sample x e) q
    statement_follows (Call' xs r n es) c d q = λ i. carried xs (put r) (terms_list (terms_in es) i) (q i)
    statement_follows (If' e m a n b) c d q = λ i. branch e ((over_list (row_with s a) ∙ row_follows a) i) ((over_list (row_with s b) ∙ row_follows b) i) (q i)
    statement_follows (While' e v n a) c d q = λ i. loop e v ((over_list (row_with s a) ∙ row_follows a) i) (q i)

    row_follows : {n : Count} (is : Row_of-Instr n) → statements_over f (row_with s is) ≡ program_over put is
    row_follows end_of-Instr = refl
    row_follows (more_of-Instr (Assign xs e) is) = statement_follows (Assign xs e) _ _ (row_follows is)
    row_follows (more_of-Instr (Sample x d) is) = statement_follows (Sample x d) _ _ (row_follows is)
    row_follows (more_of-Instr (Call' xs r n es) is) = statement_follows (Call' xs r n es) _ _ (row_follows is)
    row_follows (more_of-Instr (If' e m a n b) is) = statement_follows (If' e m a n b) _ _ (row_follows is)
    row_follows (more_of-Instr (While' e v n a) is) = statement_follows (While' e v n a) _ _ (row_follows is)

  body_follows : (is : List Instr) → statements_over f (calls_with s is) ≡ statements_over put is
  body_follows [] = refl
  body_follows (i ∷ is) = statement_follows i (statements_over f (calls_with s is)) (statements_over put is) (body_follows is)

pub open_follows : FollowsCalls open_procedure
open_follows f s p = ap (λ c. linked (routine p.params p.locals c p.value)) (body_follows f s p.body.list)
