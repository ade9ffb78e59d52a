-- No counted run makes more calls than the text of its program allows.
use Rattle.std.proofs.Common.{ℕ, zero, suc, ◌+◌, ◌*◌, ◌^◌, ◌-◌, ◌≤◌, max, Bool, true, false, if◌then◌else◌, List, [], ◌∷◌, map, arith}
use Rattle.std.proofs.Math.Nat.{le_trans, le-max_left, le-max_right, min-le_right, suc-mul, mul-le-mul_right}
use Rattle.gb_core.specs.declared.value.Value.{Value}
use Rattle.gb_dist.specs.WeightedList.{WeightedList, bind, bit, Every}
use Rattle.gb_dist.proofs.Entries.{Every-scale, Every-bind, Every-dmap, Every-weaken}
use Rattle.gb_meaning.specs.Names.{Map}
use Rattle.gb_meaning.specs.Memory.{Memory, outcome}
use Rattle.gb_meaning.specs.Program.{Program, Routine, Oracle}
use Rattle.gb_meaning.specs.Program.Program.{done, assign, sample, branch, loop, call, ask}
use Rattle.gb_meaning.specs.Program.Routine.{routine}
use Rattle.gb_meaning.specs.Setting.{Setting}
use Rattle.gb_meaning.specs.State.{closed}
use Rattle.gb_meaning.specs.Runs.{most_turns, turns_at, valued, is_true, returned, run_denominator}
use Rattle.gb_meaning.specs.Linking.{Oracles, link}
use Rattle.gb_meaning.specs.Adversary.{oracle_eq}
use Rattle.gb_meaning.specs.Counted.{Tallied, added, further, counted_turns, counted, counted_outcomes}
use Rattle.gb_meaning.specs.Asked.{most_asked, most_asked_by}

-- anything is true of the entries of a list
any : {A : Type 0} (l : WeightedList A) → Every (λ a. Unit {0}) l
any [] = tt
any (e ∷ l) = (tt, any l)

abbrev Bounded : ℕ → WeightedList Tallied → Type 0
Bounded k l = Every (λ p. p.1 ≤ k) l

weaken : (j k : ℕ) (l : WeightedList Tallied) → j ≤ k → Bounded j l → Bounded k l
weaken j k l h b = Every-weaken l (λ p e. le_trans e h) b

bounded-further : (j k : ℕ) (l : WeightedList Tallied) (run : Memory → WeightedList Tallied) → Bounded j l → ((n : Memory) → Bounded k (run n)) →
    Bounded (j + k) (bind l (further run))
bounded-further j k l run b h =
    Every-bind (λ (p : Tallied). p.1 ≤ j) (λ (p : Tallied). p.1 ≤ j + k) l (further run) b
    (λ p e. Every-dmap (λ (q : Tallied). q.1 ≤ j + k) (added p.1) (run p.0) (λ q f. omega arith) (h p.0))

bounded-choice : (t : Bool) (j k : ℕ) (a b : WeightedList Tallied) → Bounded j a → Bounded k b → Bounded (max j k) (if t then a else b)
bounded-choice true j k a b p q = weaken j (max j k) a (le-max_left j k) p
bounded-choice false j k a b p q = weaken k (max j k) b (le-max_right j k) q

one_turn : (t : Bool) (k w : ℕ) (l : WeightedList Tallied) (m : Memory) → Bounded k l → Bounded k (if t then l else ((m, 0), w) ∷ [])
one_turn true k w l m b = b
one_turn false k w l m b = (omega arith, tt)

bounded-turns : (guard : Memory → Bool) (body : Memory → WeightedList Tallied) (b : ℕ) → ((n : Memory) → Bounded b (body n)) →
    (k n : ℕ) (m : Memory) → Bounded (n * b) (counted_turns guard body k n m)
bounded-turns guard body b h k zero m = (omega arith, tt)
bounded-turns guard body b h k (suc n) m =
    one_turn (guard m) (suc n * b) (k ^ suc n) _ m
    (weaken (b + n * b) (suc n * b) _ (rw (suc-mul n b) (omega arith))
    (bounded-further b (n * b) (body m) (counted_turns guard body k n) (h m) (bounded-turns guard body b h k n)))

module _ (g : Setting) (os : Oracles) (o : Oracle) where
  mutual
    pub bounded : (c : Program) (m : Memory) → Every (λ p. p.1 ≤ most_asked o c) (counted g os o c m)
    bounded done m = (omega arith, tt)
    bounded (assign xs e c) m = bounded c _
    bounded (sample x d c) m = Every-bind (λ a. Unit {0}) (λ (p : Tallied). p.1 ≤ most_asked o c) _ (λ n. counted g os o c n) (any _) (λ n u. bounded c n)
    bounded (branch e a b c) m =
        bounded-further (max (most_asked o a) (most_asked o b)) (most_asked o c) _ (λ n. counted g os o c n)
        (bounded-choice (is_true g closed e m) (most_asked o a) (most_asked o b) _ _
        (Every-scale (λ (p : Tallied). p.1 ≤ most_asked o a) (run_denominator g (link os b)) (counted g os o a m) (bounded a m))
        (Every-scale (λ (p : Tallied). p.1 ≤ most_asked o b) (run_denominator g (link os a)) (counted g os o b m) (bounded b m)))
        (bounded c)
    bounded (loop e v a c) m =
        bounded-further (most_turns v * most_asked o a) (most_asked o c) _ (λ n. counted g os o c n)
        (Every-scale (λ (p : Tallied). p.1 ≤ most_turns v * most_asked o a) (run_denominator g (link os a) ^ (most_turns v - turns_at g closed v m)) _
        (weaken (turns_at g closed v m * most_asked o a) (most_turns v * most_asked o a) _
        (mul-le-mul_right (most_asked o a) (min-le_right _ (most_turns v)))
        (bounded-turns (is_true g closed e) (λ n. counted g os o a n) (most_asked o a) (bounded a)
        (run_denominator g (link os a)) (turns_at g closed v m) m)))
        (bounded c)
    bounded (call xs r es c) m =
        bounded-further (most_asked_by o r) (most_asked o c) _ (λ n. counted g os o c n)
        (Every-dmap {P = λ (p : Tallied). p.1 ≤ most_asked_by o r} (λ (p : Tallied). p.1 ≤ most_asked_by o r) (λ p. (returned g xs m p.0, p.1)) _ (λ p e. e)
        (bounded_by r (map (λ e. valued g closed e m) es) m.globals))
        (bounded c)
    bounded (ask xs p es c) m =
        bounded-further (bit (oracle_eq o p)) (most_asked o c) _ (λ n. counted g os o c n)
        (Every-dmap {P = λ (n : Memory). Unit {0}} (λ (q : Tallied). q.1 ≤ bit (oracle_eq o p)) (λ n. (n, bit (oracle_eq o p))) _ (λ n u. omega arith) (any _))
        (bounded c)

    pub bounded_by : (r : Routine) (vs : List Value) (globals : Map) → Every (λ p. p.1 ≤ most_asked_by o r) (counted_outcomes g os o r vs globals)
    bounded_by (routine ps ls c r) vs globals =
        Every-dmap {P = λ (p : Tallied). p.1 ≤ most_asked o c} (λ (p : Tallied). p.1 ≤ most_asked o c) (λ p. (outcome p.0.globals (valued g closed r p.0), p.1)) _ (λ p e. e) (bounded c _)
