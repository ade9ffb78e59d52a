-- Laws of loops, for statements.
use Rattle.std.proofs.Common.{◌≡◌, ◌<◌, Bool, true, false, not, ◌&&◌, List, [], ◌∷◌, ◌++◌, ap, sym, ◌∙◌, subst}
use Rattle.gb_dist.specs.WeightedList.{Every, weight, unit}
use Rattle.gb_dist.specs.Coupling.{Coupling}
use Rattle.gb_dist.proofs.Basic.{coupling_symmetry}
use Rattle.gb_terms.specs.declared.term.Cmd.{Cmd}
use Rattle.gb_terms.specs.declared.term.Head.TheVariants.{While}
use Rattle.gb_terms.specs.declared.term.Instr.{Instr}
use Rattle.gb_terms.specs.declared.term.Term.{Term}
use Rattle.gb_meaning.specs.Commands.{statements}
use Rattle.gb_meaning.specs.Loops.{IsGood}
use Rattle.gb_meaning.specs.Memory.{Memory}
use Rattle.gb_meaning.specs.Program.{followed_by}
use Rattle.gb_meaning.specs.Program.Program.{done, branch}
use Rattle.gb_meaning.specs.Runs.{out, run_denominator, is_true}
use Rattle.gb_meaning.specs.Setting.{Setting}
use Rattle.gb_meaning.specs.Sound.{IsSound}
use Rattle.gb_meaning.specs.State.{State}
use Rattle.gb_meaning.proofs.Bodies.{statement_if, statement_while}
use Rattle.gb_meaning.proofs.Runs.{run_positive}
use Rattle.gb_typing.specs.Meaning.{run, denominator}
use Rattle.gb_typing.proofs.Runs.{statements_followed}
use Rattle.gb_prog.specs.Loops.{unrolled, unrolled_statement, RunAlike}
use Rattle.gb_prog.proofs.Loops.{unrolls_before, loop_invariant, loop_certain, loop_beside, loops_coupled}

module _ (g : Setting) (s : State) (e v : Term) (b : Cmd) (good : IsGood g s e v (statements g b.list)) where
  unrolled_is : (is : List Instr) → statements g (unrolled_statement e v b ∷ is) ≡ unrolled e v (statements g b.list) (statements g is)
  unrolled_is is =
      statement_if g e (record { list = b.list ++ (While e v b ∷ []) }) (record { list = [] }) (statements g is)
      ∙ ap (λ a. branch e a done (statements g is)) (statements_followed g b.list (While e v b ∷ []) ∙ ap (followed_by (statements g b.list)) (statement_while g e v b done))

  pub statement_unrolls : 0 < denominator g b.list → (is : List Instr) → RunAlike g s (statements g (While e v b ∷ is)) (statements g (unrolled_statement e v b ∷ is))
  statement_unrolls h is = subst (λ z. z) (λ i. RunAlike g s (sym (statement_while g e v b (statements g is)) i) (sym (unrolled_is is) i)) (unrolls_before g s e v (statements g b.list) good h (statements g is))

  module _ (sound : IsSound g (statements g b.list)) where
    pub statement_invariant : (I : Memory → Type 0) → ((m : Memory) → I m → is_true g s e m ≡ true → Every I (run g s b.list m)) → (m : Memory) → I m →
        Every (λ n. I n × (is_true g s e n ≡ false)) (run g s (While e v b ∷ []) m)
    statement_invariant I keeps m x = subst (λ c. Every (λ n. I n × (is_true g s e n ≡ false)) (out g s c m)) (sym (statement_while g e v b done))
        (loop_invariant g s e v (statements g b.list) good (run_positive g (statements g b.list) sound) sound I keeps m x)

    pub statement_certain : (I : Memory → Bool) → ((m : Memory) → I m ≡ true → is_true g s e m ≡ true → weight (run g s b.list m) I ≡ denominator g b.list) → (m : Memory) → I m ≡ true →
        weight (run g s (While e v b ∷ []) m) (λ n. I n && not (is_true g s e n)) ≡ denominator g (While e v b ∷ [])
    statement_certain I keeps m x = subst (λ c. weight (out g s c m) (λ n. I n && not (is_true g s e n)) ≡ run_denominator g c) (sym (statement_while g e v b done))
        (loop_certain g s e v (statements g b.list) good (run_positive g (statements g b.list) sound) sound I keeps m x)

    -- the loop beside nothing
    pub statement_left : (R : Memory → Memory → Type 0) (n : Memory) → ((m : Memory) → R m n → is_true g s e m ≡ true → Coupling R (run g s b.list m) (denominator g b.list) (unit n) 1) → (m : Memory) → R m n →
        Coupling (λ x y. R x y × (is_true g s e x ≡ false)) (run g s (While e v b ∷ []) m) (denominator g (While e v b ∷ [])) (unit n) 1
    statement_left R n keeps m r = subst (λ c. Coupling (λ x y. R x y × (is_true g s e x ≡ false)) (out g s c m) (run_denominator g c) (unit n) 1) (sym (statement_while g e v b done))
        (loop_beside g s e v (statements g b.list) good (run_positive g (statements g b.list) sound) sound R n keeps m r)

    pub statement_right : (R : Memory → Memory → Type 0) (m : Memory) → ((n : Memory) → R m n → is_true g s e n ≡ true → Coupling R (unit m) 1 (run g s b.list n) (denominator g b.list)) → (n : Memory) → R m n →
        Coupling (λ x y. R x y × (is_true g s e y ≡ false)) (unit m) 1 (run g s (While e v b ∷ []) n) (denominator g (While e v b ∷ []))
    statement_right R m keeps n r =
        coupling_symmetry {Q = λ y x. R x y × (is_true g s e y ≡ false)} {l1 = run g s (While e v b ∷ []) n} {k1 = denominator g (While e v b ∷ [])} {l2 = unit m} {k2 = 1}
        (statement_left (λ y x. R x y) m (λ n q t. coupling_symmetry {Q = R} {l1 = unit m} {k1 = 1} {l2 = run g s b.list n} {k2 = denominator g b.list} (keeps n q t)) n r)

pub statements_coupled : (g : Setting) (s : State) (e v f w : Term) (a b : Cmd) → IsGood g s e v (statements g a.list) → IsSound g (statements g a.list) →
    IsGood g s f w (statements g b.list) → IsSound g (statements g b.list) → (R : Memory → Memory → Type 0) → ((m n : Memory) → R m n → is_true g s e m ≡ is_true g s f n) →
    ((m n : Memory) → R m n → is_true g s e m ≡ true → Coupling R (run g s a.list m) (denominator g a.list) (run g s b.list n) (denominator g b.list)) → (m n : Memory) → R m n →
    Coupling (λ x y. R x y × (is_true g s e x ≡ false) × (is_true g s f y ≡ false))
    (run g s (While e v a ∷ []) m) (denominator g (While e v a ∷ [])) (run g s (While f w b ∷ []) n) (denominator g (While f w b ∷ []))
statements_coupled g s e v f w a b good1 sound1 good2 sound2 R guards keeps m n r =
    subst (λ z. z) (λ i. Coupling (λ x y. R x y × (is_true g s e x ≡ false) × (is_true g s f y ≡ false))
    (out g s (sym (statement_while g e v a done) i) m) (run_denominator g (sym (statement_while g e v a done) i)) (out g s (sym (statement_while g f w b done) i) n) (run_denominator g (sym (statement_while g f w b done) i)))
    (loops_coupled g s e v (statements g a.list) good1 sound1 f w (statements g b.list) good2 sound2 R guards keeps m n r)
