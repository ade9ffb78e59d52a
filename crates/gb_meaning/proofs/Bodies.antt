-- Programs of bodies from their statements.
use Rattle.std.proofs.Common.{◌≡◌, List, [], ◌∷◌, refl, ap, sym, ◌∙◌, subst}
use Rattle.gb_core.specs.declared.var.Var.{Var}
use Rattle.gb_terms.specs.declared.module.ProcRef.{ProcRef}
use Rattle.gb_terms.specs.declared.term.Term.{Term, Row_of-Term, end_of-Term, more_of-Term, items-the_row-Term, items_hidden-the_row-Term-0}
use Rattle.gb_terms.specs.declared.term.Cmd.{Cmd, items-the_row-Instr, items_hidden-the_row-Instr-1}
use Rattle.gb_terms.specs.declared.term.Instr.{Instr, Row_of-Instr, end_of-Instr, more_of-Instr}
use Rattle.gb_terms.specs.declared.term.Head.TheBlock as B
use Rattle.gb_terms.specs.declared.term.Head.TheVariants.{Body, Assign, Sample, Call, If, While, Call', If', While'}
use Rattle.gb_meaning.specs.Memory.{Memory}
use Rattle.gb_meaning.specs.Program.{Program}
use Rattle.gb_meaning.specs.Program.Program.{assign, sample, branch, loop}
use Rattle.gb_meaning.specs.Setting.{Setting}
use Rattle.gb_meaning.specs.State.{State}
use Rattle.gb_meaning.specs.Runs.{run_denominator, out}
use Rattle.gb_meaning.specs.Commands.{terms_in, called, program_of, statement, statements, IsThere, CallsAreThere}
use Rattle.gb_meaning.specs.Sound.{IsSound}
use Rattle.gb_meaning.specs.Judgments.{run_of, subject_denominator, IsSoundSubject}
use mathlib.Core.Former.{Count}

terms_row : {n : Count} (r : Row_of-Term n) → terms_in r ≡ items-the_row-Term _ r
terms_row end_of-Term = refl
terms_row (more_of-Term t r) = ap (λ z. t ∷ z) (terms_row r)

terms_list : (ts : List Term) → terms_in (B.hidden-the_row-Term-0 ts) ≡ ts
terms_list ts = terms_row (B.hidden-the_row-Term-0 ts) ∙ items_hidden-the_row-Term-0 ts

program_row : {n : Count} (g : Setting) (r : Row_of-Instr n) → program_of g r ≡ statements g (items-the_row-Instr _ r)
program_row g end_of-Instr = refl
program_row g (more_of-Instr (Assign xs e) r) = ap (assign xs e) (program_row g r)
program_row g (more_of-Instr (Sample x d) r) = ap (sample x d) (program_row g r)
program_row g (more_of-Instr (Call' xs p n es) r) = ap (called xs (g.procedure p) (terms_in es)) (program_row g r)
program_row g (more_of-Instr (If' e m a n b) r) = ap (branch e (program_of g a) (program_of g b)) (program_row g r)
program_row g (more_of-Instr (While' e v n a) r) = ap (loop e v (program_of g a)) (program_row g r)

program_list : (g : Setting) (is : List Instr) → program_of g (B.hidden-the_row-Instr-1 is) ≡ statements g is
program_list g is = program_row g (B.hidden-the_row-Instr-1 is) ∙ ap (statements g) (items_hidden-the_row-Instr-1 is)

pub statement_call : (g : Setting) (xs : List Var) (p : ProcRef) (es : List Term) (c : Program) → statement g (Call xs p es) c ≡ called xs (g.procedure p) es c
statement_call g xs p es c = ap (λ z. called xs (g.procedure p) z c) (terms_list es)

pub statement_if : (g : Setting) (e : Term) (a b : Cmd) (c : Program) → statement g (If e a b) c ≡ branch e (statements g a.list) (statements g b.list) c
statement_if g e a b c = λ i. branch e (program_list g a.list i) (program_list g b.list i) c

pub statement_while : (g : Setting) (e v : Term) (a : Cmd) (c : Program) → statement g (While e v a) c ≡ loop e v (statements g a.list) c
statement_while g e v a c = λ i. loop e v (program_list g a.list i) c

pub run_of_body : (g : Setting) (s : State) (c : Cmd) (m : Memory) → run_of g s (Body c) m ≡ out g s (statements g c.list) m
run_of_body g s c m = ap (λ z. out g s z m) (program_list g c.list)

pub denominator_of_body : (g : Setting) (c : Cmd) → subject_denominator g (Body c) ≡ run_denominator g (statements g c.list)
denominator_of_body g c = ap (run_denominator g) (program_list g c.list)

-- the procedures that a statement calls are there
abbrev pub There : Setting → Instr → Type 0
There g (Assign xs e) = Unit {0}
There g (Sample x d) = Unit {0}
There g (Call' xs p n es) = IsThere (g.procedure p)
There g (If' e m a n b) = CallsAreThere g a × CallsAreThere g b
There g (While' e v n a) = CallsAreThere g a

abbrev pub EachThere : Setting → List Instr → Type 0
EachThere g [] = Unit {0}
EachThere g (i ∷ is) = There g i × EachThere g is

there_row : {n : Count} (g : Setting) (r : Row_of-Instr n) → EachThere g (items-the_row-Instr _ r) → CallsAreThere g r
there_row g end_of-Instr h = tt
there_row g (more_of-Instr (Assign xs e) r) h = there_row g r h.1
there_row g (more_of-Instr (Sample x d) r) h = there_row g r h.1
there_row g (more_of-Instr (Call' xs p n es) r) h = (h.0, there_row g r h.1)
there_row g (more_of-Instr (If' e m a n b) r) h = (h.0.0, h.0.1, there_row g r h.1)
there_row g (more_of-Instr (While' e v n a) r) h = (h.0, there_row g r h.1)

-- a body of sound statements
pub sound_body : (g : Setting) (c : Cmd) → EachThere g c.list → IsSound g (statements g c.list) → IsSoundSubject g (Body c)
sound_body g c t s = (
  there_row g (B.hidden-the_row-Instr-1 c.list) (subst (EachThere g) (sym (items_hidden-the_row-Instr-1 c.list)) t),
  subst (IsSound g) (sym (program_list g c.list)) s,
)
