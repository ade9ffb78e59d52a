-- Programs whose runs from related memories end in related ones, one by one.
use Rattle.std.proofs.Common.{◌≡◌, ℕ, ◌-◌, ◌*◌, ◌^◌, List, map, refl, subst}
use Rattle.gb_core.specs.declared.value.Value.{Value}
use Rattle.gb_core.specs.declared.var.Var.{Var}
use Rattle.gb_terms.specs.declared.term.Term.{Term}
use Rattle.gb_dist.specs.WeightedList.{dmap}
use Rattle.gb_meaning.specs.Memory.{Memory, assigned, write}
use Rattle.gb_meaning.specs.Program.{Program, Routine}
use Rattle.gb_meaning.specs.Program.Program.{done, assign, sample, branch, loop, call}
use Rattle.gb_meaning.specs.Runs.{most_turns, turns_at, turns, is_true, run_denominator, routine_denominator, out, outcomes, returned, valued}
use Rattle.gb_meaning.specs.Setting.{Setting}
use Rattle.gb_meaning.specs.State.{State, inside}
use Rattle.gb_meaning.specs.Terms.{denominator, distribution}
use Rattle.gb_laws.proofs.Zips.{Zip, zip-scale, zip-if, zip-bind, zip-dmap, zip-equal, zip-turns}

-- the same denominators, and related ends
pub record Matches (g : Setting) (R : Memory → Memory → Type 0) (s q : State) (a b : Program) : Type 0 where
  pub scales : run_denominator g a ≡ run_denominator g b
  pub ends : (m n : Memory) → R m n → Zip R (out g s a m) (out g q b n)

module _ (g : Setting) (R : Memory → Memory → Type 0) (s q : State) where
  abbrev M : Program → Program → Type 0
  M a b = Matches g R s q a b

  pub match_done : M done done
  match_done = record { scales = refl; ends = λ m n r. (refl, r, tt) }

  pub match_assign : (xs ys : List Var) (e f : Term) (c d : Program) → ((m n : Memory) → R m n → R (assigned g.types m xs (valued g s e m)) (assigned g.types n ys (valued g q f n))) →
      M c d → M (assign xs e c) (assign ys f d)
  match_assign xs ys e f c d h k = record { scales = k.scales; ends = λ m n r. k.ends _ _ (h m n r) }

  pub match_sample : (x y : Var) (e f : Term) (c d : Program) → denominator g e ≡ denominator g f → ((m n : Memory) → R m n → distribution g e (inside s m) ≡ distribution g f (inside q n)) →
      ((m n : Memory) → R m n → (v : Value) → R (write g.types m x v) (write g.types n y v)) → M c d → M (sample x e c) (sample y f d)
  match_sample x y e f c d same drawn h k = record {
    scales = λ i. same i * k.scales i;
    ends = λ m n r.
        zip-bind R R (dmap (write g.types m x) (distribution g e (inside s m))) (dmap (write g.types n y) (distribution g f (inside q n))) (λ o. out g s c o) (λ o. out g q d o)
        (zip-dmap (λ (v w : Value). v ≡ w) R (distribution g e (inside s m)) (distribution g f (inside q n)) (write g.types m x) (write g.types n y)
        (zip-equal _ _ (drawn m n r)) (λ v w p. subst (λ w. R (write g.types m x v) (write g.types n y w)) p (h m n r v)))
        k.ends;
  }

  pub match_branch : (e f : Term) (a b c x y z : Program) → ((m n : Memory) → R m n → is_true g s e m ≡ is_true g q f n) → M a x → M b y → M c z → M (branch e a b c) (branch f x y z)
  match_branch e f a b c x y z guards k l j = record {
    scales = λ i. k.scales i * l.scales i * j.scales i;
    ends = λ m n r.
        zip-bind R R _ _ (λ o. out g s c o) (λ o. out g q z o)
        (zip-if R (is_true g s e m) (is_true g q f n) (guards m n r) _ _ _ _
        (zip-scale R _ _ l.scales _ _ (k.ends m n r)) (zip-scale R _ _ k.scales _ _ (l.ends m n r)))
        j.ends;
  }

  -- the turns of two loops
  pub match_turns : (e f : Term) (a b : Program) → ((m n : Memory) → R m n → is_true g s e m ≡ is_true g q f n) → M a b → (i j : ℕ) → i ≡ j → (m n : Memory) → R m n →
      Zip R (turns (is_true g s e) (λ o. out g s a o) (run_denominator g a) i m) (turns (is_true g q f) (λ o. out g q b o) (run_denominator g b) j n)
  match_turns e f a b guards k i j t m n r =
      subst (λ d. Zip R (turns (is_true g s e) (λ o. out g s a o) (run_denominator g a) i m) (turns (is_true g q f) (λ o. out g q b o) d j n)) k.scales
      (zip-turns R (is_true g s e) (is_true g q f) (λ o. out g s a o) (λ o. out g q b o) (run_denominator g a) guards k.ends i j t m n r)

  pub match_loop : (e f v w : Term) (a b c d : Program) → ((m n : Memory) → R m n → is_true g s e m ≡ is_true g q f n) → most_turns v ≡ most_turns w →
      ((m n : Memory) → R m n → turns_at g s v m ≡ turns_at g q w n) → M a b → M c d → M (loop e v a c) (loop f w b d)
  match_loop e f v w a b c d guards most counts k j = record {
    scales = λ i. k.scales i ^ most i * j.scales i;
    ends = λ m n r.
        zip-bind R R _ _ (λ o. out g s c o) (λ o. out g q d o)
        (zip-scale R _ _ (λ i. k.scales i ^ (most i - counts m n r i)) _ _ (match_turns e f a b guards k (turns_at g s v m) (turns_at g q w n) (counts m n r) m n r))
        j.ends;
  }

  pub match_call : (xs ys : List Var) (o : Routine) (es fs : List Term) (c d : Program) →
      ((m n : Memory) → R m n → map (λ e. valued g s e m) es ≡ map (λ e. valued g q e n) fs) → ((m n : Memory) → R m n → m.globals ≡ n.globals) →
      ((m n : Memory) → R m n → (p : Memory) → R (returned g xs m p) (returned g ys n p)) → M c d → M (call xs o es c) (call ys o fs d)
  match_call xs ys o es fs c d values globals h k = record {
    scales = λ i. routine_denominator g o * k.scales i;
    ends = λ m n r.
        zip-bind R R _ _ (λ p. out g s c p) (λ p. out g q d p)
        (zip-dmap (λ (a b : Memory). a ≡ b) R (outcomes g o (map (λ e. valued g s e m) es) m.globals) (outcomes g o (map (λ e. valued g q e n) fs) n.globals) (returned g xs m) (returned g ys n)
        (zip-equal _ _ (λ i. outcomes g o (values m n r i) (globals m n r i))) (λ a b p. subst (λ b. R (returned g xs m a) (returned g ys n b)) p (h m n r a)))
        k.ends;
  }
