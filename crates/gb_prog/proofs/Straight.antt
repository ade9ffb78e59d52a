-- Statements without chance end in one memory.
use Rattle.std.proofs.Common.{◌≡◌, Bool, true, false, if◌then◌else◌, List, [], ◌∷◌, ◌++◌, refl, ap, sym, ◌∙◌}
use Rattle.gb_terms.specs.declared.term.Cmd.{Cmd}
use Rattle.gb_terms.specs.declared.term.Instr.{Instr, Row_of-Instr, end_of-Instr, more_of-Instr}
use Rattle.gb_terms.specs.declared.term.Term.{Term}
use Rattle.gb_terms.specs.declared.term.Head.TheVariants.{Assign, Sample, Call', If, If', While'}
use Rattle.gb_dist.specs.WeightedList.{unit, bind, scale}
use Rattle.gb_dist.proofs.Monad.{bind-unit}
use Rattle.gb_meaning.specs.Memory.{Memory, assigned}
use Rattle.gb_meaning.specs.Program.{Program}
use Rattle.gb_meaning.specs.Program.Program.{done, assign, sample, branch, loop, call, ask}
use Rattle.gb_meaning.specs.Setting.{Setting}
use Rattle.gb_meaning.specs.State.{State}
use Rattle.gb_meaning.specs.Runs.{out, run_denominator, is_true, valued}
use Rattle.gb_meaning.specs.Commands.{program_of, statement, statements}
use Rattle.gb_meaning.proofs.Bodies.{statement_if}
use Rattle.gb_prog.specs.Straight.{IsStraight, RowIsStraight, AreStraight, ended, after}
use mathlib.Core.Former.{Count}

-- a program without chance
abbrev StraightProgram : Program → Type 0
StraightProgram done = Unit {0}
StraightProgram (assign xs e c) = StraightProgram c
StraightProgram (branch e a b c) = StraightProgram a × StraightProgram b × StraightProgram c
StraightProgram _ = ⊥

straight_row : {n : Count} (g : Setting) (r : Row_of-Instr n) → RowIsStraight r → StraightProgram (program_of g r)
straight_row g end_of-Instr h = tt
straight_row g (more_of-Instr (Assign xs e) r) h = straight_row g r h.1
straight_row g (more_of-Instr (Sample x d) r) h = absurd h.0
straight_row g (more_of-Instr (Call' xs p n es) r) h = absurd h.0
straight_row g (more_of-Instr (If' e m a n b) r) h = (straight_row g a h.0.0, straight_row g b h.0.1, straight_row g r h.1)
straight_row g (more_of-Instr (While' e v n a) r) h = absurd h.0

straight_list : (g : Setting) (is : List Instr) → AreStraight is → StraightProgram (statements g is)
straight_list g [] h = tt
straight_list g (Assign xs e ∷ is) h = straight_list g is h.1
straight_list g (Sample x d ∷ is) h = absurd h.0
straight_list g (Call' xs p n es ∷ is) h = absurd h.0
straight_list g (If' e m a n b ∷ is) h = (straight_row g a h.0.0, straight_row g b h.0.1, straight_list g is h.1)
straight_list g (While' e v n a ∷ is) h = absurd h.0

module _ (g : Setting) where
  one_over : (c : Program) → StraightProgram c → run_denominator g c ≡ 1
  one_over done h = refl
  one_over (assign xs e c) h = one_over c h
  one_over (branch e a b c) h = cc (one_over a h.0, one_over b h.1, one_over c h.2)
  one_over (sample x d c) h = absurd h
  one_over (loop e v a c) h = absurd h
  one_over (call xs r es c) h = absurd h
  one_over (ask xs o es c) h = absurd h

  module _ (s : State) where
    abbrev chosen : Term → Program → Program → Memory → Bool → Memory
    chosen e a b m t = if t then ended g s a m else ended g s b m

    side : (e : Term) (a b : Program) (m : Memory) → run_denominator g a ≡ 1 → run_denominator g b ≡ 1 → out g s a m ≡ unit (ended g s a m) → out g s b m ≡ unit (ended g s b m) →
        (t : Bool) → (if t then scale (run_denominator g b) (out g s a m) else scale (run_denominator g a) (out g s b m)) ≡ unit (chosen e a b m t)
    side e a b m i j k l true = λ z. scale (j z) (k z)
    side e a b m i j k l false = λ z. scale (i z) (l z)

    one_end : (c : Program) → StraightProgram c → (m : Memory) → out g s c m ≡ unit (ended g s c m)
    one_end done h m = refl
    one_end (assign xs e c) h m = one_end c h (assigned g.types m xs (valued g s e m))
    one_end (branch e a b c) h m =
        ap (λ l. bind l (λ n. out g s c n)) (side e a b m (one_over a h.0) (one_over b h.1) (one_end a h.0 m) (one_end b h.1 m) (is_true g s e m))
        ∙ bind-unit (chosen e a b m (is_true g s e m)) (λ n. out g s c n) ∙ one_end c h.2 (chosen e a b m (is_true g s e m))
    one_end (sample x d c) h m = absurd h
    one_end (loop e v a c) h m = absurd h
    one_end (call xs r es c) h m = absurd h
    one_end (ask xs o es c) h m = absurd h

    pub straight_run : (is : List Instr) → AreStraight is → (m : Memory) → out g s (statements g is) m ≡ unit (after g s is m)
    straight_run is h m = one_end (statements g is) (straight_list g is h) m

    pub after_branch : (e : Term) (a b : Cmd) (is : List Instr) (m : Memory) →
        after g s (If e a b ∷ is) m ≡ after g s is (if is_true g s e m then after g s a.list m else after g s b.list m)
    after_branch e a b is m = ap (λ c. ended g s c m) (statement_if g e a b (statements g is))

    pub ended_then : (i : Instr) → IsStraight i → (c : Program) (m : Memory) → ended g s (statement g i c) m ≡ ended g s c (ended g s (statement g i done) m)
    ended_then (Assign xs e) h c m = refl
    ended_then (If' e k a n b) h c m = refl
    ended_then (Sample x d) h c m = absurd h
    ended_then (Call' xs p n es) h c m = absurd h
    ended_then (While' e v n a) h c m = absurd h

    pub after_append : (is js : List Instr) → AreStraight is → (m : Memory) → after g s (is ++ js) m ≡ after g s js (after g s is m)
    after_append [] js h m = refl
    after_append (i ∷ is) js h m = ended_then i h.0 (statements g (is ++ js)) m ∙ after_append is js h.1 (ended g s (statement g i done) m)
        ∙ ap (after g s js) (sym (ended_then i h.0 (statements g is) m))

  pub straight_denominator : (is : List Instr) → AreStraight is → run_denominator g (statements g is) ≡ 1
  straight_denominator is h = one_over (statements g is) (straight_list g is h)
