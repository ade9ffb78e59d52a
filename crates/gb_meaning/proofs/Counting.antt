-- A counted run without its tallies is the run of the linked program.
use Rattle.std.proofs.Common.{◌≡◌, ℕ, zero, suc, ◌^◌, Bool, true, false, if◌then◌else◌, List, [], ◌∷◌, map, Option, Some, None, refl, sym, ap, ◌∙◌}
use Rattle.gb_core.specs.declared.value.Value.{Value}
use Rattle.gb_core.specs.declared.var.Var.{Var}
use Rattle.gb_terms.specs.declared.term.Term.{Term}
use Rattle.gb_dist.specs.WeightedList.{WeightedList, unit, bind, dmap, scale, bit}
use Rattle.gb_dist.proofs.Monad.{bind-unit, bind-dmap, dmap-bind, dmap-dmap, dmap-scale}
use Rattle.gb_meaning.specs.Names.{Map}
use Rattle.gb_meaning.specs.Memory.{Memory, outcome}
use Rattle.gb_meaning.specs.Program.{Program, Routine, Oracle}
use Rattle.gb_meaning.specs.Program.Program.{done, assign, sample, branch, loop, call, ask}
use Rattle.gb_meaning.specs.Program.Routine.{routine}
use Rattle.gb_meaning.specs.Setting.{Setting}
use Rattle.gb_meaning.specs.State.{closed}
use Rattle.gb_meaning.specs.Runs.{turns, turns_at, valued, is_true, returned, outcomes, out, run_denominator}
use Rattle.gb_meaning.specs.Linking.{Oracles, link, link_routine, answered}
use Rattle.gb_meaning.specs.Adversary.{oracle_eq}
use Rattle.gb_meaning.specs.Counted.{Tallied, added, further, counted_turns, answers, counted, counted_outcomes}

forget : WeightedList Tallied → WeightedList Memory
forget l = dmap (λ p. p.0) l

forget-further : (run : Memory → WeightedList Tallied) (p : Tallied) → dmap (λ q. q.0) (further run p) ≡ dmap (λ q. q.0) (run p.0)
forget-further run p = dmap-dmap (λ (q : Tallied). q.0) (added p.1) (run p.0)

forget-bind : (l : WeightedList Tallied) (run : Memory → WeightedList Tallied) (r : Memory → WeightedList Memory) →
    ((n : Memory) → dmap (λ q. q.0) (run n) ≡ r n) → dmap (λ q. q.0) (bind l (further run)) ≡ bind (dmap (λ q. q.0) l) r
forget-bind l run r e =
    dmap-bind (λ (q : Tallied). q.0) l (further run)
    ∙ ap (bind l) (λ i p. (forget-further run p ∙ e p.0) i)
    ∙ sym (bind-dmap (λ (q : Tallied). q.0) l r)

forget-scale : (k : ℕ) (l : WeightedList Tallied) (r : WeightedList Memory) → dmap (λ q. q.0) l ≡ r → dmap (λ q. q.0) (scale k l) ≡ scale k r
forget-scale k l r e = dmap-scale (λ (q : Tallied). q.0) k l ∙ ap (scale k) e

forget-choice : (t : Bool) (a b : WeightedList Tallied) (c d : WeightedList Memory) → dmap (λ q. q.0) a ≡ c → dmap (λ q. q.0) b ≡ d →
    dmap (λ q. q.0) (if t then a else b) ≡ if t then c else d
forget-choice true a b c d e f = e
forget-choice false a b c d e f = f

forget-turns : (guard : Memory → Bool) (body : Memory → WeightedList Tallied) (b : Memory → WeightedList Memory) →
    ((n : Memory) → dmap (λ q. q.0) (body n) ≡ b n) → (k n : ℕ) (m : Memory) →
    dmap (λ q. q.0) (counted_turns guard body k n m) ≡ turns guard b k n m
forget-turns guard body b e k zero m = refl
forget-turns guard body b e k (suc n) m =
    forget-choice (guard m) (bind (body m) (further (counted_turns guard body k n))) (((m, 0), k ^ suc n) ∷ []) _ _
    (forget-bind (body m) (counted_turns guard body k n) (turns guard b k n) (forget-turns guard body b e k n)
    ∙ ap (λ l. bind l (turns guard b k n)) (e m))
    refl

same-dmap : {A : Type 0} (l : WeightedList A) → dmap (λ a. a) l ≡ l
same-dmap [] = refl
same-dmap (e ∷ l) = ap (λ r. e ∷ r) (same-dmap l)

-- a memory with a tally that changes beside it
forget-dmap : {A : Type 0} (h : A → Memory) (t : A → ℕ) (l : WeightedList A) →
    dmap (λ (q : Tallied). q.0) (dmap (λ a. (h a, t a)) l) ≡ dmap h l
forget-dmap h t l = dmap-dmap (λ (q : Tallied). q.0) (λ a. (h a, t a)) l

forget-map : (h : Memory → Memory) (l : WeightedList Tallied) (r : WeightedList Memory) → dmap (λ q. q.0) l ≡ r →
    dmap (λ (q : Tallied). q.0) (dmap (λ (p : Tallied). (h p.0, p.1)) l) ≡ dmap h r
forget-map h l r e =
    forget-dmap (λ (p : Tallied). h p.0) (λ (p : Tallied). p.1) l ∙ sym (dmap-dmap h (λ (p : Tallied). p.0) l) ∙ ap (dmap h) e

module _ (g : Setting) (os : Oracles) (o : Oracle) where
  forget-answer : (r : Option Routine) (xs : List Var) (p : Oracle) (es : List Term) (m : Memory) (c d : Program) →
      ((n : Memory) → dmap (λ q. q.0) (counted g os o c n) ≡ out g closed d n) →
      dmap (λ q. q.0) (bind (dmap (λ n. (n, bit (oracle_eq o p))) (answers g r xs (map (λ e. valued g closed e m) es) m)) (further (λ n. counted g os o c n)))
      ≡ out g closed (answered r xs p es d) m
  forget-answer None xs p es m c d e =
      forget-bind (dmap (λ n. (n, bit (oracle_eq o p))) (unit m)) (λ n. counted g os o c n) (λ n. out g closed d n) e
      ∙ bind-unit m (λ n. out g closed d n)
  forget-answer (Some r) xs p es m c d e =
      forget-bind (dmap (λ n. (n, bit (oracle_eq o p))) (answers g (Some r) xs (map (λ e. valued g closed e m) es) m)) (λ n. counted g os o c n) (λ n. out g closed d n) e
      ∙ ap (λ l. bind l (λ n. out g closed d n))
      (forget-dmap (λ n. n) (λ n. bit (oracle_eq o p)) (answers g (Some r) xs (map (λ e. valued g closed e m) es) m) ∙ same-dmap (answers g (Some r) xs (map (λ e. valued g closed e m) es) m))

  mutual
    pub forget-counted : (c : Program) (m : Memory) → dmap (λ q. q.0) (counted g os o c m) ≡ out g closed (link os c) m
    forget-counted done m = refl
    forget-counted (assign xs e c) m = forget-counted c _
    forget-counted (sample x d c) m =
        dmap-bind (λ (q : Tallied). q.0) _ (λ n. counted g os o c n) ∙ ap (bind _) (λ i n. forget-counted c n i)
    forget-counted (branch e a b c) m =
        forget-bind _ (λ n. counted g os o c n) (λ n. out g closed (link os c) n) (forget-counted c)
        ∙ ap (λ l. bind l (λ n. out g closed (link os c) n))
        (forget-choice (is_true g closed e m) _ _ _ _
        (forget-scale (run_denominator g (link os b)) (counted g os o a m) _ (forget-counted a m))
        (forget-scale (run_denominator g (link os a)) (counted g os o b m) _ (forget-counted b m)))
    forget-counted (loop e v a c) m =
        forget-bind _ (λ n. counted g os o c n) (λ n. out g closed (link os c) n) (forget-counted c)
        ∙ ap (λ l. bind l (λ n. out g closed (link os c) n))
        (forget-scale _ _ _
        (forget-turns (is_true g closed e) (λ n. counted g os o a n) (λ n. out g closed (link os a) n) (forget-counted a)
        (run_denominator g (link os a)) (turns_at g closed v m) m))
    forget-counted (call xs r es c) m =
        forget-bind _ (λ n. counted g os o c n) (λ n. out g closed (link os c) n) (forget-counted c)
        ∙ ap (λ l. bind l (λ n. out g closed (link os c) n))
        (forget-map (returned g xs m) _ _ (forget-outcomes r (map (λ e. valued g closed e m) es) m.globals))
    forget-counted (ask xs p es c) m = forget-answer (os p) xs p es m c (link os c) (forget-counted c)

    pub forget-outcomes : (r : Routine) (vs : List Value) (globals : Map) →
        dmap (λ q. q.0) (counted_outcomes g os o r vs globals) ≡ outcomes g (link_routine os r) vs globals
    forget-outcomes (routine ps ls c r) vs globals =
        forget-map (λ n. outcome n.globals (valued g closed r n)) _ _ (forget-counted c _)
