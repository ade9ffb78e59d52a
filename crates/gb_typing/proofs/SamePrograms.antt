-- Programs have the same runs in settings that agree on what they name.
use Rattle.std.proofs.Common.{◌≡◌, ◌*◌, ◌^◌, ◌-◌, min, Bool, if◌then◌else◌, List, [], ◌∷◌, map, refl, ap, ◌∙◌}
use Rattle.std.proofs.Math.Path.{fun_ext}
use Rattle.gb_core.specs.declared.value.Value.{Value}
use Rattle.gb_core.specs.declared.var.Var.{Var}
use Rattle.gb_core.specs.declared.var.Var.TheVariants as var
use Rattle.gb_core.specs.Numbering.{parts_of}
use Rattle.gb_terms.specs.declared.decl.TypedName.{TypedName}
use Rattle.gb_terms.specs.declared.term.Term.{Term}
use Rattle.gb_dist.specs.WeightedList.{WeightedList, bind, dmap, scale}
use Rattle.gb_meaning.specs.Names.{Map, set, get}
use Rattle.gb_meaning.specs.Values.{Types}
use Rattle.gb_meaning.specs.Memory.{Memory, assigned, write, write_each, write_globals, first_values, arguments, outcome, result_in, read_local}
use Rattle.gb_meaning.specs.Program.{Program, Routine}
use Rattle.gb_meaning.specs.Program.Program.{done, assign, sample, branch, loop, call, ask}
use Rattle.gb_meaning.specs.Program.Routine.{routine}
use Rattle.gb_meaning.specs.Setting.{Setting}
use Rattle.gb_meaning.specs.Meanings.{value_in, number_in, truth, weights_in}
use Rattle.gb_meaning.specs.State.{State, inside, closed}
use Rattle.gb_meaning.specs.Terms.{distribution}
use Rattle.gb_meaning.specs.Runs.{most_turns, valued, is_true, turns_at, turns, run_denominator, routine_denominator, new_frame, returned, out, outcomes}
use Rattle.gb_typing.specs.Agreement.{SameLocals, SameWritten, AreWritten, SameTerm, AreSameTerms, SameProgram, SameRoutine}
use Rattle.gb_typing.proofs.SameTerms.{fit_same, term_same, denominator_same}

module _ (t u : Types) where
  pub write_same : (x : Var) → SameWritten t u x → (m : Memory) (v : Value) → write t m x v ≡ write u m x v
  write_same (var.Global parent name) e m v = refl
  write_same (var.Local x) e m v = refl
  write_same (var.Glob a) e m v = ap (λ z. write_globals m z (parts_of v)) e

  each-written : (xs : List Var) → AreWritten t u xs → (m : Memory) (vs : List Value) → write_each t m xs vs ≡ write_each u m xs vs
  each-written [] e m vs = refl
  each-written (x ∷ xs) e m [] = refl
  each-written (x ∷ xs) e m (v ∷ vs) =
      ap (λ z. write_each t z xs vs) (write_same x e.0 m v) ∙ each-written xs e.1 (write u m x v) vs

  pub assigned_same : (xs : List Var) → AreWritten t u xs → (m : Memory) (v : Value) → assigned t m xs v ≡ assigned u m xs v
  assigned_same [] e m v = refl
  assigned_same (x ∷ []) e m v = write_same x e.0 m v
  assigned_same (x ∷ y ∷ xs) e m v = each-written (x ∷ y ∷ xs) e m (parts_of v)

  pub first_same : (ls : List TypedName) → SameLocals t u ls → first_values t ls ≡ first_values u ls
  first_same [] e = refl
  first_same (x ∷ ls) e = λ i. set (first_same ls e.1 i) (x.name ∷ []) ((e.0 i).at 0)

  pub parameters_same : (ps : List TypedName) → SameLocals t u ps → (m : Memory) →
      ◌≡◌ {A = List Value} (map (λ (x : TypedName). read_local t m x.name x.ty) ps) (map (λ (x : TypedName). read_local u m x.name x.ty) ps)
  parameters_same [] e m = refl
  parameters_same (x ∷ ps) e m = λ i. fit_same t u x.ty e.0 (get m.frame (x.name ∷ [])) i ∷ parameters_same ps e.1 m i

module _ (g h : Setting) where
  module _ (s : State) where
    pub valued_same : (e : Term) → SameTerm g h e → (m : Memory) → valued g s e m ≡ valued h s e m
    valued_same e k m = ap value_in (term_same g h e k (inside s m))

    pub guard_same : (e : Term) → SameTerm g h e → (m : Memory) → is_true g s e m ≡ is_true h s e m
    guard_same e k m = ap truth (term_same g h e k (inside s m))

    pub turns_same : (v : Term) → SameTerm g h v → (m : Memory) → turns_at g s v m ≡ turns_at h s v m
    turns_same v k m = ap (λ z. min (number_in z) (most_turns v)) (term_same g h v k (inside s m))

    pub arguments_same : (es : List Term) → AreSameTerms g h es → (m : Memory) → map (λ e. valued g s e m) es ≡ map (λ e. valued h s e m) es
    arguments_same [] k m = refl
    arguments_same (e ∷ es) k m = λ i. valued_same e k.0 m i ∷ arguments_same es k.1 m i

  pub distribution_same : (d : Term) → SameTerm g h d → (s : State) → distribution g d s ≡ distribution h d s
  distribution_same d k s = ap weights_in (term_same g h d k s)

  pub returned_same : (xs : List Var) → AreWritten g.types h.types xs → (m : Memory) → ◌≡◌ {A = Memory → Memory} (returned g xs m) (returned h xs m)
  returned_same xs e m = fun_ext (λ n. assigned_same g.types h.types xs e (record { globals = n.globals; frame = m.frame }) (result_in n))

  mutual
    pub size_same : (c : Program) → SameProgram g h c → run_denominator g c ≡ run_denominator h c
    size_same done k = refl
    size_same (assign xs e c) k = size_same c k.2
    size_same (sample x d c) k = λ i. denominator_same g h d k.1 i * size_same c k.2 i
    size_same (branch e a b c) k = λ i. size_same a k.1 i * size_same b k.2 i * size_same c k.3 i
    size_same (loop e v a c) k = λ i. size_same a k.2 i ^ most_turns v * size_same c k.3 i
    size_same (call xs r es c) k = λ i. routine_size_same r k.1 i * size_same c k.3 i
    size_same (ask xs o es c) k = size_same c k

    pub routine_size_same : (r : Routine) → SameRoutine g h r → routine_denominator g r ≡ routine_denominator h r
    routine_size_same (routine ps ls c r) k = size_same c k.2

  mutual
    pub run_same : (s : State) (c : Program) → SameProgram g h c → (m : Memory) → out g s c m ≡ out h s c m
    run_same s done k m = refl
    run_same s (assign xs e c) k m =
        run_same s c k.2 (assigned g.types m xs (valued g s e m))
        ∙ ap (out h s c) (assigned_same g.types h.types xs k.0 m (valued g s e m) ∙ ap (assigned h.types m xs) (valued_same s e k.1 m))
    run_same s (sample x d c) k m =
        let w : ◌≡◌ {A = Value → Memory} (write g.types m x) (write h.types m x) = fun_ext (write_same g.types h.types x k.0 m) in
        let rest : ◌≡◌ {A = Memory → WeightedList Memory} (λ n. out g s c n) (λ n. out h s c n) = fun_ext (run_same s c k.2) in
        λ i. bind (dmap (w i) (distribution_same d k.1 (inside s m) i)) (rest i)
    run_same s (branch e a b c) k m =
        let rest : ◌≡◌ {A = Memory → WeightedList Memory} (λ n. out g s c n) (λ n. out h s c n) = fun_ext (run_same s c k.3) in
        λ i. bind (if guard_same s e k.0 m i then scale (size_same b k.2 i) (run_same s a k.1 m i) else scale (size_same a k.1 i) (run_same s b k.2 m i)) (rest i)
    run_same s (loop e v a c) k m =
        let rest : ◌≡◌ {A = Memory → WeightedList Memory} (λ n. out g s c n) (λ n. out h s c n) = fun_ext (run_same s c k.3) in
        let body : ◌≡◌ {A = Memory → WeightedList Memory} (λ n. out g s a n) (λ n. out h s a n) = fun_ext (run_same s a k.2) in
        let guard : ◌≡◌ {A = Memory → Bool} (is_true g s e) (is_true h s e) = fun_ext (guard_same s e k.0) in
        λ i. bind (scale (size_same a k.2 i ^ (most_turns v - turns_same s v k.1 m i)) (turns (guard i) (body i) (size_same a k.2 i) (turns_same s v k.1 m i) m)) (rest i)
    run_same s (call xs r es c) k m =
        let rest : ◌≡◌ {A = Memory → WeightedList Memory} (λ n. out g s c n) (λ n. out h s c n) = fun_ext (run_same s c k.3) in
        let ends : outcomes g r (map (λ e. valued g s e m) es) m.globals ≡ outcomes h r (map (λ e. valued h s e m) es) m.globals =
        outcomes_same r k.1 (map (λ e. valued g s e m) es) m.globals ∙ ap (λ vs. outcomes h r vs m.globals) (arguments_same s es k.2 m) in
        λ i. bind (dmap (returned_same xs k.0 m i) (ends i)) (rest i)
    run_same s (ask xs o es c) k m = run_same s c k m

    pub outcomes_same : (r : Routine) → SameRoutine g h r → (vs : List Value) (globals : Map) → outcomes g r vs globals ≡ outcomes h r vs globals
    outcomes_same (routine ps ls c r) k vs globals =
        let last : ◌≡◌ {A = Memory → Memory} (λ n. outcome n.globals (valued g closed r n)) (λ n. outcome n.globals (valued h closed r n)) =
        fun_ext (λ n i. outcome n.globals (valued_same closed r k.3 n i)) in
        let start : ◌≡◌ {A = Memory} (record { globals = globals; frame = new_frame g ps ls vs }) (record { globals = globals; frame = new_frame h ps ls vs }) =
        λ i. record { globals = globals; frame = arguments (first_same g.types h.types ls k.1 i) ps vs } in
        let body : out g closed c (record { globals = globals; frame = new_frame g ps ls vs }) ≡ out h closed c (record { globals = globals; frame = new_frame h ps ls vs }) =
        run_same closed c k.2 (record { globals = globals; frame = new_frame g ps ls vs }) ∙ ap (out h closed c) start in
        λ i. dmap (last i) (body i)
