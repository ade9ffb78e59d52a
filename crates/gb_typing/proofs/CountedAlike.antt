-- Counted runs are the same in settings that agree on what the linked program names.
use Rattle.std.proofs.Common.{◌≡◌, ℕ, ◌-◌, ◌^◌, Bool, if◌then◌else◌, List, map, Option, Some, None, refl, ap, ◌∙◌}
use Rattle.std.proofs.Math.Path.{fun_ext}
use Rattle.gb_core.specs.declared.value.Value.{Value}
use Rattle.gb_core.specs.declared.var.Var.{Var}
use Rattle.gb_terms.specs.declared.term.Term.{Term}
use Rattle.gb_dist.specs.WeightedList.{WeightedList, bind, dmap, scale, bit}
use Rattle.gb_meaning.specs.Names.{Map}
use Rattle.gb_meaning.specs.Memory.{Memory, assigned, write, arguments, outcome}
use Rattle.gb_meaning.specs.Program.{Program, Routine, Oracle}
use Rattle.gb_meaning.specs.Program.Program.{done, assign, sample, branch, loop, call, ask}
use Rattle.gb_meaning.specs.Program.Routine.{routine}
use Rattle.gb_meaning.specs.Setting.{Setting}
use Rattle.gb_meaning.specs.State.{closed, inside}
use Rattle.gb_meaning.specs.Runs.{most_turns, valued, is_true, new_frame, outcomes}
use Rattle.gb_meaning.specs.Linking.{Oracles, link, link_routine, answered}
use Rattle.gb_meaning.specs.Adversary.{oracle_eq}
use Rattle.gb_meaning.specs.Counted.{Tallied, further, counted_turns, answers, counted, counted_outcomes}
use Rattle.gb_meaning.specs.Bounds.{counted_if_there}
use Rattle.gb_typing.specs.Agreement.{SameProgram, SameRoutine}
use Rattle.gb_typing.proofs.SamePrograms.{write_same, assigned_same, first_same, parameters_same, valued_same, guard_same, turns_same, arguments_same, distribution_same, returned_same, size_same, outcomes_same}

module _ (g h : Setting) (os : Oracles) (o : Oracle) where
  -- an oracle answers alike
  answers-same : (r : Option Routine) (xs : List Var) (p : Oracle) (es : List Term) (c : Program) → SameProgram g h (answered r xs p es c) → (m : Memory) →
      (answers g r xs (map (λ e. valued g closed e m) es) m ≡ answers h r xs (map (λ e. valued h closed e m) es) m) × SameProgram g h c
  answers-same None xs p es c k m = (refl, k)
  answers-same (Some r) xs p es c k m =
      let ends : outcomes g r (map (λ e. valued g closed e m) es) m.globals ≡ outcomes h r (map (λ e. valued h closed e m) es) m.globals =
      outcomes_same g h r k.1 (map (λ e. valued g closed e m) es) m.globals ∙ ap (λ vs. outcomes h r vs m.globals) (arguments_same g h closed es k.2 m) in
      (λ i. dmap (returned_same g h xs k.0 m i) (ends i), k.3)

  mutual
    pub counted_same : (c : Program) → SameProgram g h (link os c) → (m : Memory) → counted g os o c m ≡ counted h os o c m
    counted_same done k m = refl
    counted_same (assign xs e c) k m =
        counted_same c k.2 (assigned g.types m xs (valued g closed e m))
        ∙ ap (counted h os o c)
        (assigned_same g.types h.types xs k.0 m (valued g closed e m) ∙ ap (assigned h.types m xs) (valued_same g h closed e k.1 m))
    counted_same (sample x d c) k m =
        let w : ◌≡◌ {A = Value → Memory} (write g.types m x) (write h.types m x) = fun_ext (write_same g.types h.types x k.0 m) in
        let rest : ◌≡◌ {A = Memory → WeightedList Tallied} (λ n. counted g os o c n) (λ n. counted h os o c n) = fun_ext (counted_same c k.2) in
        λ i. bind (dmap (w i) (distribution_same g h d k.1 (inside closed m) i)) (rest i)
    counted_same (branch e a b c) k m =
        let rest : ◌≡◌ {A = Memory → WeightedList Tallied} (λ n. counted g os o c n) (λ n. counted h os o c n) = fun_ext (counted_same c k.3) in
        λ i. bind (if guard_same g h closed e k.0 m i
        then scale (size_same g h (link os b) k.2 i) (counted_same a k.1 m i)
        else scale (size_same g h (link os a) k.1 i) (counted_same b k.2 m i)) (further (rest i))
    counted_same (loop e v a c) k m =
        let rest : ◌≡◌ {A = Memory → WeightedList Tallied} (λ n. counted g os o c n) (λ n. counted h os o c n) = fun_ext (counted_same c k.3) in
        let body : ◌≡◌ {A = Memory → WeightedList Tallied} (λ n. counted g os o a n) (λ n. counted h os o a n) = fun_ext (counted_same a k.2) in
        let guard : ◌≡◌ {A = Memory → Bool} (is_true g closed e) (is_true h closed e) = fun_ext (guard_same g h closed e k.0) in
        let size : ◌≡◌ {A = ℕ} _ _ = size_same g h (link os a) k.2 in
        λ i. bind (scale (size i ^ (most_turns v - turns_same g h closed v k.1 m i)) (counted_turns (guard i) (body i) (size i) (turns_same g h closed v k.1 m i) m)) (further (rest i))
    counted_same (call xs r es c) k m =
        let rest : ◌≡◌ {A = Memory → WeightedList Tallied} (λ n. counted g os o c n) (λ n. counted h os o c n) = fun_ext (counted_same c k.3) in
        let ends : counted_outcomes g os o r (map (λ e. valued g closed e m) es) m.globals ≡ counted_outcomes h os o r (map (λ e. valued h closed e m) es) m.globals =
        counted_outcomes_same r k.1 (map (λ e. valued g closed e m) es) m.globals ∙ ap (λ vs. counted_outcomes h os o r vs m.globals) (arguments_same g h closed es k.2 m) in
        λ i. bind (dmap (λ p. (returned_same g h xs k.0 m i p.0, p.1)) (ends i)) (further (rest i))
    counted_same (ask xs p es c) k m =
        let both = answers-same (os p) xs p es (link os c) k m in
        let rest : ◌≡◌ {A = Memory → WeightedList Tallied} (λ n. counted g os o c n) (λ n. counted h os o c n) = fun_ext (counted_same c both.1) in
        λ i. bind (dmap (λ n. (n, bit (oracle_eq o p))) (both.0 i)) (further (rest i))

    pub counted_outcomes_same : (r : Routine) → SameRoutine g h (link_routine os r) → (vs : List Value) (globals : Map) →
        counted_outcomes g os o r vs globals ≡ counted_outcomes h os o r vs globals
    counted_outcomes_same (routine ps ls c r) k vs globals =
        let last : ◌≡◌ {A = Tallied → Tallied} (λ p. (outcome p.0.globals (valued g closed r p.0), p.1)) (λ p. (outcome p.0.globals (valued h closed r p.0), p.1)) =
        fun_ext (λ p i. (outcome p.0.globals (valued_same g h closed r k.3 p.0 i), p.1)) in
        let start : ◌≡◌ {A = Memory} (record { globals = globals; frame = new_frame g ps ls vs }) (record { globals = globals; frame = new_frame h ps ls vs }) =
        λ i. record { globals = globals; frame = arguments (first_same g.types h.types ls k.1 i) ps vs } in
        let body : counted g os o c (record { globals = globals; frame = new_frame g ps ls vs }) ≡ counted h os o c (record { globals = globals; frame = new_frame h ps ls vs }) =
        counted_same c k.2 (record { globals = globals; frame = new_frame g ps ls vs }) ∙ ap (counted h os o c) start in
        λ i. dmap (last i) (body i)

  -- the counted run of a procedure whose linked form names the same
  pub run_counted_same : (r : Routine) → SameRoutine g h (link_routine os r) → (m : Memory) →
      counted_if_there g os o (Some r) m ≡ counted_if_there h os o (Some r) m
  run_counted_same (routine ps ls c r) k m =
      counted_outcomes_same (routine ps ls c r) k _ m.globals
      ∙ ap (λ vs. counted_outcomes h os o (routine ps ls c r) vs m.globals) (parameters_same g.types h.types ps k.0 m)
