-- A good loop runs as a turn, where its guard is true, and the loop.
use Rattle.std.proofs.Common.{◌≡◌, ℕ, ◌+◌, ◌*◌, ◌<◌, Bool, true, false, if◌then◌else◌, [], ◌∷◌, ap, sym, ◌∙◌, subst, arith}
use Rattle.gb_dist.specs.WeightedList.{WeightedList, mass, scale, bind, unit}
use Rattle.gb_dist.proofs.Masses.{mass-bind, mass-scale}
use Rattle.gb_dist.proofs.Monad.{bind-unit_right, scale-one}
use Rattle.gb_terms.specs.declared.term.Cmd.{Cmd}
use Rattle.gb_terms.specs.declared.term.Head.TheVariants.{While}
use Rattle.gb_terms.specs.declared.term.Instr.{Instr}
use Rattle.gb_terms.specs.declared.term.Term.{Term}
use Rattle.gb_meaning.specs.Commands.{statements}
use Rattle.gb_meaning.specs.Loops.{IsGood}
use Rattle.gb_meaning.specs.Memory.{Memory}
use Rattle.gb_meaning.specs.Program.{Program, followed_by}
use Rattle.gb_meaning.specs.Program.Program.{done, branch, loop}
use Rattle.gb_meaning.specs.Runs.{out, run_denominator, is_true}
use Rattle.gb_meaning.specs.Setting.{Setting}
use Rattle.gb_meaning.specs.State.{State}
use Rattle.gb_meaning.proofs.Bodies.{statement_if, statement_while}
use Rattle.gb_meaning.proofs.Sequence.{followed_run, followed_denominator}
use Rattle.gb_typing.specs.Meaning.{denominator}
use Rattle.gb_prog.specs.Loops.{unrolled, RunAlike}
use Rattle.gb_prog.proofs.Loops.{unrolls}
use Rattle.gb_forms.specs.Turns.{turn}

module _ (g : Setting) (s : State) (e v : Term) (a : Program) (good : IsGood g s e v a) (positive : 0 < run_denominator g a) where
  abbrev L : Program
  L = loop e v a done

  abbrev k : ℕ
  k = run_denominator g a

  abbrev d : ℕ
  d = run_denominator g L

  pub turned_first : RunAlike g s (branch e a done L) L
  turned_first m f = by_test (is_true g s e m) (unrolls g s e v a good positive m f)
    where
      unrolled_denominator : run_denominator g (unrolled e v a done) ≡ k * d
      unrolled_denominator = omega (arith, followed_denominator g a L)

      by_test : (b : Bool) → mass (out g s L m) f * run_denominator g (unrolled e v a done) ≡
          mass (bind (if b then scale 1 (out g s (followed_by a L) m) else scale (run_denominator g (followed_by a L)) (unit m)) (λ n. unit n)) f * d →
          mass (bind (if b then scale 1 (out g s a m) else scale k (unit m)) (λ n. out g s L n)) f * d ≡ mass (out g s L m) f * (k * 1 * d)
      by_test true h =
          let u : mass (bind (scale 1 (out g s (followed_by a L) m)) (λ n. unit n)) f ≡ mass (bind (out g s a m) (λ n. out g s L n)) f =
          ap (λ l. mass l f) (bind-unit_right (scale 1 (out g s (followed_by a L) m)) ∙ scale-one (out g s (followed_by a L) m) ∙ followed_run g s a L m) in
          let x : mass (bind (scale 1 (out g s a m)) (λ n. out g s L n)) f ≡ mass (bind (out g s a m) (λ n. out g s L n)) f = ap (λ l. mass (bind l (λ n. out g s L n)) f) (scale-one (out g s a m)) in
          omega (arith, h, ap (λ z. mass (out g s L m) f * z) unrolled_denominator, ap (λ z. z * d) u, ap (λ z. z * d) x)
      by_test false h =
          let x : mass (bind (scale k (unit m)) (λ n. out g s L n)) f ≡ k * mass (out g s L m) f =
          mass-bind (scale k (unit m)) (λ n. out g s L n) f ∙ mass-scale k (unit m) (λ n. mass (out g s L n) f)
          ∙ (let u : k * (1 * mass (out g s L m) f + 0) ≡ k * mass (out g s L m) f = omega arith in u) in
          omega (arith, ap (λ z. z * d) x)

-- the same of statements
pub turn_alike : (g : Setting) (s : State) (e v : Term) (b : Cmd) → IsGood g s e v (statements g b.list) → 0 < denominator g b.list →
    RunAlike g s (statements g (turn e b ∷ While e v b ∷ [])) (statements g (While e v b ∷ []))
turn_alike g s e v b good positive =
    let A : Program = statements g b.list in
    let first = statement_if g e b (record { list = [] }) (statements g (While e v b ∷ [])) ∙ ap (λ p. branch e A done p) (statement_while g e v b done) in
    let second = statement_while g e v b done in
    subst (λ z. z) (λ i. RunAlike g s (sym first i) (sym second i)) (turned_first g s e v A good positive)
