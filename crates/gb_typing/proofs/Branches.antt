-- Runs that begin with a branch.
use Rattle.std.proofs.Common.{◌≡◌, ℕ, ◌*◌, ◌<◌, Bool, true, false, if◌then◌else◌, List, ◌∷◌, ◌++◌, refl, ap, sym, ◌∙◌, subst, arith}
use Rattle.gb_terms.specs.declared.term.Term.{Term}
use Rattle.gb_terms.specs.declared.term.Instr.{Instr}
use Rattle.gb_terms.specs.declared.term.Cmd.{Cmd}
use Rattle.gb_terms.specs.declared.term.Head.TheVariants.{If}
use Rattle.gb_dist.specs.WeightedList.{WeightedList, bind, scale}
use Rattle.gb_dist.proofs.Monad.{bind-scale}
use Rattle.gb_meaning.specs.Memory.{Memory}
use Rattle.gb_meaning.specs.Setting.{Setting}
use Rattle.gb_meaning.specs.State.{State}
use Rattle.gb_meaning.specs.Runs.{out, run_denominator, is_true}
use Rattle.gb_meaning.specs.Commands.{statements}
use Rattle.gb_meaning.proofs.Bodies.{statement_if}
use Rattle.gb_typing.specs.Meaning.{run, denominator}
use Rattle.gb_typing.proofs.Runs.{run_append, denominator_append}

module _ (g : Setting) (s : State) (i : Instr) (e : Term) (a b : Cmd) (is_if : i ≡ If e a b) (is : List Instr) where
  -- the run of the chosen side and of what follows, scaled by the other side
  abbrev pub chosen : Bool → Memory → WeightedList Memory
  chosen t m = if t then scale (denominator g b.list) (run g s (a.list ++ is) m) else scale (denominator g a.list) (run g s (b.list ++ is) m)

  side_run : (t : Bool) (m : Memory) → bind (if t then scale (denominator g b.list) (run g s a.list m) else scale (denominator g a.list) (run g s b.list m)) (λ n. run g s is n) ≡ chosen t m
  side_run true m = bind-scale (denominator g b.list) (run g s a.list m) (λ n. run g s is n) ∙ ap (scale (denominator g b.list)) (sym (run_append g s a.list is m))
  side_run false m = bind-scale (denominator g a.list) (run g s b.list m) (λ n. run g s is n) ∙ ap (scale (denominator g a.list)) (sym (run_append g s b.list is m))

  pub run_if : (m : Memory) → run g s (i ∷ is) m ≡ chosen (is_true g s e m) m
  run_if m = ap (λ i. run g s (i ∷ is) m) is_if ∙ ap (λ c. out g s c m) (statement_if g e a b (statements g is)) ∙ side_run (is_true g s e m) m

  whole : denominator g (i ∷ is) ≡ denominator g a.list * denominator g b.list * denominator g is
  whole = ap (λ i. denominator g (i ∷ is)) is_if ∙ ap (run_denominator g) (statement_if g e a b (statements g is))

  pub denominator_yes : denominator g (i ∷ is) ≡ denominator g b.list * denominator g (a.list ++ is)
  denominator_yes = whole ∙ turned (denominator g a.list) (denominator g b.list) (denominator g is) ∙ ap (λ n. denominator g b.list * n) (sym (denominator_append g a.list is))
    where
      turned : (x y z : ℕ) → x * y * z ≡ y * (x * z)
      turned x y z = omega arith

  pub denominator_no : denominator g (i ∷ is) ≡ denominator g a.list * denominator g (b.list ++ is)
  denominator_no = whole ∙ turned (denominator g a.list) (denominator g b.list) (denominator g is) ∙ ap (λ n. denominator g a.list * n) (sym (denominator_append g b.list is))
    where
      turned : (x y z : ℕ) → x * y * z ≡ x * (y * z)
      turned x y z = omega arith

  -- What scales keep is so of the run of a branch if it is so of that of its chosen side.
  pub branch_good : (m : Memory) (Good : WeightedList Memory → ℕ → Type 0) → ((k : ℕ) → 0 < k → (l : WeightedList Memory) (n : ℕ) → Good l n → Good (scale k l) (k * n)) →
      0 < denominator g a.list → 0 < denominator g b.list →
      (is_true g s e m ≡ true → Good (run g s (a.list ++ is) m) (denominator g (a.list ++ is))) → (is_true g s e m ≡ false → Good (run g s (b.list ++ is) m) (denominator g (b.list ++ is))) →
      Good (run g s (i ∷ is) m) (denominator g (i ∷ is))
  branch_good m Good keeps above below f h = subst (λ l. Good l (denominator g (i ∷ is))) (sym (run_if m)) (by_test (is_true g s e m) refl)
    where
      by_test : (t : Bool) → is_true g s e m ≡ t → Good (chosen t m) (denominator g (i ∷ is))
      by_test true t = subst (Good (chosen true m)) (sym denominator_yes) (keeps (denominator g b.list) below (run g s (a.list ++ is) m) (denominator g (a.list ++ is)) (f t))
      by_test false t = subst (Good (chosen false m)) (sym denominator_no) (keeps (denominator g a.list) above (run g s (b.list ++ is) m) (denominator g (b.list ++ is)) (h t))
