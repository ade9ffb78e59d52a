-- A well-typed body runs alike in each state.
use Rattle.std.proofs.Common.{◌≡◌, ◌^◌, ◌-◌, min, Bool, if◌then◌else◌, List, [], ◌∷◌, map, Option, Some, None, refl, ap, ◌∙◌}
use Rattle.std.proofs.Math.Path.{fun_ext}
use Rattle.std.specs.List.{AllByRecursion}
use Rattle.gb_core.specs.declared.var.Var.{Var}
use Rattle.gb_dist.specs.WeightedList.{WeightedList, bind, dmap, scale}
use Rattle.gb_terms.specs.declared.decl.TypedName.{TypedName}
use Rattle.gb_terms.specs.declared.term.Term.{Term}
use Rattle.gb_terms.specs.declared.term.Instr.{Instr, Row_of-Instr, end_of-Instr, more_of-Instr}
use Rattle.gb_terms.specs.declared.term.Head.TheVariants.{Assign, Sample, Call', If', While'}
use Rattle.gb_meaning.specs.Commands.{terms_in, called, program_of, statements}
use Rattle.gb_meaning.specs.Memory.{Memory, assigned, write}
use Rattle.gb_meaning.specs.Meanings.{value_in, number_in, truth, weights_in}
use Rattle.gb_meaning.specs.Program.{Program, Routine}
use Rattle.gb_meaning.specs.Program.Program.{done, assign, sample, branch, loop, call, ask}
use Rattle.gb_meaning.specs.Runs.{most_turns, valued, is_true, turns_at, turns, run_denominator, returned, out, outcomes}
use Rattle.gb_meaning.specs.Setting.{Setting}
use Rattle.gb_meaning.specs.State.{State, inside}
use Rattle.gb_meaning.specs.Terms.{quiet, val}
use Rattle.gb_typing.specs.Modules.{ProcedureType}
use Rattle.gb_typing.specs.Context.{Context, procedure}
use Rattle.gb_typing.specs.Programs.{IsExpression, AreArguments, IsCall, AreStatements, EachStatement}
use Rattle.gb_typing.proofs.Anywhere.{value_anywhere}
use mathlib.Core.Former.{Count}

module _ (g : Setting) where
  -- a term of one value, whatever is around of its program
  abbrev IsAlike : Term → Type 0
  IsAlike e = (s q : State) (m : Memory) → val g quiet e (inside s m) ≡ val g quiet e (inside q m)

  -- a program of such terms
  abbrev AreAlike : Program → Type 0
  AreAlike done = Unit {0}
  AreAlike (assign xs e c) = IsAlike e × AreAlike c
  AreAlike (sample x d c) = IsAlike d × AreAlike c
  AreAlike (branch e a b c) = IsAlike e × AreAlike a × AreAlike b × AreAlike c
  AreAlike (loop e v a c) = IsAlike e × IsAlike v × AreAlike a × AreAlike c
  AreAlike (call xs r es c) = AllByRecursion IsAlike es × AreAlike c
  AreAlike (ask xs o es c) = AreAlike c

  module _ (s q : State) where
    arguments_alike : (es : List Term) → AllByRecursion IsAlike es → (m : Memory) → map (λ e. valued g s e m) es ≡ map (λ e. valued g q e m) es
    arguments_alike [] o m = refl
    arguments_alike (e ∷ es) o m = λ i. value_in (o.0 s q m i) ∷ arguments_alike es o.1 m i

    run_alike : (c : Program) → AreAlike c → (m : Memory) → out g s c m ≡ out g q c m
    run_alike done o m = refl
    run_alike (assign xs e c) o m = run_alike c o.1 (assigned g.types m xs (valued g s e m)) ∙ ap (λ x. out g q c (assigned g.types m xs (value_in x))) (o.0 s q m)
    run_alike (sample x d c) o m =
        let rest : ◌≡◌ {A = Memory → WeightedList Memory} (λ n. out g s c n) (λ n. out g q c n) = fun_ext (run_alike c o.1) in
        λ i. bind (dmap (write g.types m x) (weights_in (o.0 s q m i))) (rest i)
    run_alike (branch e a b c) o m =
        let rest : ◌≡◌ {A = Memory → WeightedList Memory} (λ n. out g s c n) (λ n. out g q c n) = fun_ext (run_alike c o.3) in
        λ i. bind (if truth (o.0 s q m i) then scale (run_denominator g b) (run_alike a o.1 m i) else scale (run_denominator g a) (run_alike b o.2 m i)) (rest i)
    run_alike (loop e v a c) o m =
        let rest : ◌≡◌ {A = Memory → WeightedList Memory} (λ n. out g s c n) (λ n. out g q c n) = fun_ext (run_alike c o.3) in
        let body : ◌≡◌ {A = Memory → WeightedList Memory} (λ n. out g s a n) (λ n. out g q a n) = fun_ext (run_alike a o.2) in
        let guard : ◌≡◌ {A = Memory → Bool} (is_true g s e) (is_true g q e) = fun_ext (λ n. ap truth (o.0 s q n)) in
        let most : turns_at g s v m ≡ turns_at g q v m = ap (λ x. min (number_in x) (most_turns v)) (o.1 s q m) in
        λ i. bind (scale (run_denominator g a ^ (most_turns v - most i)) (turns (guard i) (body i) (run_denominator g a) (most i) m)) (rest i)
    run_alike (call xs r es c) o m =
        let rest : ◌≡◌ {A = Memory → WeightedList Memory} (λ n. out g s c n) (λ n. out g q c n) = fun_ext (run_alike c o.1) in
        λ i. bind (dmap (returned g xs m) (outcomes g r (arguments_alike es o.0 m i) m.globals)) (rest i)
    run_alike (ask xs o2 es c) o m = run_alike c o m

  module _ (c : Context) (ls : List TypedName) (h : Setting) where
    alike : (e : Term) → IsExpression c ls e → IsAlike e
    alike e x s q m = value_anywhere c ls e x g s q m

    all_alike : (es : List Term) (ps : List TypedName) → AreArguments c ls es ps → AllByRecursion IsAlike es
    all_alike [] [] w = tt
    all_alike [] (p ∷ ps) w = absurd w
    all_alike (e ∷ es) [] w = absurd w
    all_alike (e ∷ es) (p ∷ ps) w = ((let x = w.0.0 in alike e x.expression), all_alike es ps w.1)

    called_alike : (xs : List Var) (es : List Term) (t : Option ProcedureType) → IsCall c ls xs t es → (r : Option Routine) (q : Program) → AreAlike q → AreAlike (called xs r es q)
    called_alike xs es None w r q k = absurd w
    called_alike xs es (Some t) w None q k = k
    called_alike xs es (Some t) w (Some r) q k = (all_alike es t.params w.0, k)

    row_alike : {n : Count} (is : Row_of-Instr n) → AreStatements c ls is → AreAlike (program_of h is)
    row_alike end_of-Instr w = tt
    row_alike (more_of-Instr (Assign xs e) is) w = ((let x = w.0.0 in alike e x.expression), row_alike is w.1)
    row_alike (more_of-Instr (Sample x d) is) w = (alike d w.0.0, row_alike is w.1)
    row_alike (more_of-Instr (Call' xs p n es) is) w = called_alike xs (terms_in es) (procedure c p) w.0 (h.procedure p) (program_of h is) (row_alike is w.1)
    row_alike (more_of-Instr (If' e m a n b) is) w = (alike e w.0.0.0, row_alike a w.0.1, row_alike b w.0.2, row_alike is w.1)
    row_alike (more_of-Instr (While' e v n a) is) w = (alike e w.0.0.0, alike v w.0.1.0, row_alike a w.0.2, row_alike is w.1)

    each_alike : (is : List Instr) → EachStatement c ls is → AreAlike (statements h is)
    each_alike [] w = tt
    each_alike (Assign xs e ∷ is) w = ((let x = w.0.0 in alike e x.expression), each_alike is w.1)
    each_alike (Sample x d ∷ is) w = (alike d w.0.0, each_alike is w.1)
    each_alike (Call' xs p n es ∷ is) w = called_alike xs (terms_in es) (procedure c p) w.0 (h.procedure p) (statements h is) (each_alike is w.1)
    each_alike (If' e m a n b ∷ is) w = (alike e w.0.0.0, row_alike a w.0.1, row_alike b w.0.2, each_alike is w.1)
    each_alike (While' e v n a ∷ is) w = (alike e w.0.0.0, alike v w.0.1.0, row_alike a w.0.2, each_alike is w.1)

    -- the run of a body is the same in each state
    pub run_anywhere : (is : List Instr) → EachStatement c ls is → (s q : State) (m : Memory) → out g s (statements h is) m ≡ out g q (statements h is) m
    run_anywhere is w s q m = run_alike s q (statements h is) (each_alike is w) m
