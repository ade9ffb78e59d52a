-- Runs of lists of statements.
use Rattle.std.proofs.Common.{◌≡◌, ℕ, ◌*◌, List, [], ◌∷◌, ◌++◌, take, drop, Option, Some, None, refl, ap, sym, subst, ◌∙◌}
use Rattle.std.proofs.lemmas.List.{take-append-drop}
use Rattle.gb_core.specs.declared.var.Var.{Var}
use Rattle.gb_terms.specs.declared.term.Term.{Term}
use Rattle.gb_terms.specs.declared.term.Instr.{Instr}
use Rattle.gb_terms.specs.declared.term.Head.TheVariants.{Assign, Sample, Call', If', While'}
use Rattle.gb_dist.specs.WeightedList.{bind}
use Rattle.gb_dist.specs.Coupling.{Coupling}
use Rattle.gb_dist.proofs.Sequence.{coupling_sequence}
use Rattle.gb_meaning.specs.Memory.{Memory}
use Rattle.gb_meaning.specs.Program.{Program, Routine, followed_by}
use Rattle.gb_meaning.specs.Setting.{Setting}
use Rattle.gb_meaning.specs.State.{State}
use Rattle.gb_meaning.specs.Runs.{out, run_denominator}
use Rattle.gb_meaning.specs.Commands.{called, statement, statements, terms_in}
use Rattle.gb_meaning.proofs.Sequence.{followed_denominator, followed_run}
use Rattle.gb_typing.specs.Meaning.{run, denominator}

called_followed : (xs : List Var) (o : Option Routine) (es : List Term) (a b : Program) → called xs o es (followed_by a b) ≡ followed_by (called xs o es a) b
called_followed xs (Some r) es a b = refl
called_followed xs None es a b = refl

module _ (g : Setting) where
  pub statement_followed : (i : Instr) (a b : Program) → statement g i (followed_by a b) ≡ followed_by (statement g i a) b
  statement_followed (Assign xs e) a b = refl
  statement_followed (Sample x d) a b = refl
  statement_followed (Call' xs p n es) a b = called_followed xs (g.procedure p) (terms_in es) a b
  statement_followed (If' e m c n d) a b = refl
  statement_followed (While' e v n c) a b = refl

  pub statements_followed : (is js : List Instr) → statements g (is ++ js) ≡ followed_by (statements g is) (statements g js)
  statements_followed [] js = refl
  statements_followed (i ∷ is) js = ap (statement g i) (statements_followed is js) ∙ statement_followed i (statements g is) (statements g js)

  pub run_append : (s : State) (is js : List Instr) (m : Memory) → run g s (is ++ js) m ≡ bind (run g s is m) (λ n. run g s js n)
  run_append s is js m = ap (λ c. out g s c m) (statements_followed is js) ∙ followed_run g s (statements g is) (statements g js) m

  pub denominator_append : (is js : List Instr) → denominator g (is ++ js) ≡ denominator g is * denominator g js
  denominator_append is js = ap (run_denominator g) (statements_followed is js) ∙ followed_denominator g (statements g is) (statements g js)

-- A body is its first statements and the rest.
module _ (g : Setting) (s : State) (k : ℕ) (is : List Instr) where
  pub run_cut : (m : Memory) → bind (run g s (take k is) m) (λ n. run g s (drop k is) n) ≡ run g s is m
  run_cut m = sym (run_append g s (take k is) (drop k is) m) ∙ ap (λ is. run g s is m) (take-append-drop k is)

  pub denominator_cut : denominator g (take k is) * denominator g (drop k is) ≡ denominator g is
  denominator_cut = sym (denominator_append g (take k is) (drop k is)) ∙ ap (denominator g) (take-append-drop k is)

-- What is coupled in the middle of two bodies, and from there on, is coupled at their ends.
pub coupled_in_turn : (g : Setting) (s : State) (Q R : Memory → Memory → Type 0) (is js before after front back : List Instr) → is ≡ before ++ after → js ≡ front ++ back → (m n : Memory) →
    Coupling R (run g s before m) (denominator g before) (run g s front n) (denominator g front) →
    ((a d : Memory) → R a d → Coupling Q (run g s after a) (denominator g after) (run g s back d) (denominator g back)) →
    Coupling Q (run g s is m) (denominator g is) (run g s js n) (denominator g js)
coupled_in_turn g s Q R is js before after front back e k m n h f =
    subst (λ z. z) (λ i. Coupling Q
    (sym (ap (λ is. run g s is m) e ∙ run_append g s before after m) i) (sym (ap (denominator g) e ∙ denominator_append g before after) i)
    (sym (ap (λ js. run g s js n) k ∙ run_append g s front back n) i) (sym (ap (denominator g) k ∙ denominator_append g front back) i))
    (coupling_sequence Q (λ a. run g s after a) (denominator g after) (λ d. run g s back d) (denominator g back) R h f)
