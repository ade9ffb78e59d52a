-- Programs with an operator unfolded are typed, and run as before.
use Rattle.std.proofs.Common.{◌≡◌, ◌-◌, ◌*◌, ◌^◌, min, if◌then◌else◌, List, [], ◌∷◌, map, Option, Some, None, refl, ap, sym, ◌∙◌, subst}
use Rattle.gb_core.specs.declared.var.Var.{Var}
use Rattle.gb_terms.specs.declared.decl.TypedName.{TypedName}
use Rattle.gb_terms.specs.declared.term.Term.{Term, Term', Row_of-Term, end_of-Term, more_of-Term}
use Rattle.gb_terms.specs.declared.term.Instr.{Instr, Row_of-Instr, end_of-Instr, more_of-Instr}
use Rattle.gb_terms.specs.declared.term.Head.TheVariants.{Assign, Sample, Call', If', While'}
use Rattle.gb_dist.specs.WeightedList.{scale, bind, dmap}
use Rattle.gb_meaning.specs.Commands.{terms_in, called, program_of}
use Rattle.gb_meaning.specs.Meanings.{value_in, number_in, truth, weights_in}
use Rattle.gb_meaning.specs.Memory.{Memory, write, assigned}
use Rattle.gb_meaning.specs.Names.{Name}
use Rattle.gb_meaning.specs.Operators.{outcome_type}
use Rattle.gb_meaning.specs.Program.{Program, Routine}
use Rattle.gb_meaning.specs.Runs.{greatest, most_turns, turns, valued, run_denominator, routine_denominator, out, outcomes, returned}
use Rattle.gb_meaning.specs.Setting.{Setting}
use Rattle.gb_meaning.specs.State.{State, inside}
use Rattle.gb_meaning.specs.Terms.{val, quiet, denominator}
use Rattle.gb_meaning.specs.Judgments.{Judge, IsFair, speaking}
use Rattle.gb_meaning.specs.Written.{type_of, IsModulo}
use Rattle.gb_laws.proofs.Quiet.{plain_quiet}
use Rattle.gb_laws.specs.Finite.{IsFinite}
use Rattle.gb_laws.specs.Operators.{IsDistributionType}
use Rattle.gb_laws.specs.Programs.{variable_type, Take}
use Rattle.gb_typing.specs.Context.{Context, procedure, erased, of_program}
use Rattle.gb_typing.specs.Fits.{IsSettingOf}
use Rattle.gb_typing.specs.Modules.{ProcedureType}
use Rattle.gb_typing.specs.Programs.{IsExpression, IsValued, AreArguments, IsCall, IsStatement, AreStatements}
use Rattle.gb_typing.specs.Rules.{outermost}
use Rattle.gb_typing.proofs.Formed.{formed}
use Rattle.gb_typing.proofs.Sound.{procedures_sound, sound_form}
use Rattle.gb_eval.specs.Meant.{IsBody}
use Rattle.gb_rewrite.specs.Unfolded.{unfolded, row_unfolded, statement_unfolded, body_unfolded}
use Rattle.gb_rewrite.proofs.Applied.{plain_stays, unfolded_made}
use Rattle.gb_rewrite.proofs.Means.{Around}
use Rattle.gb_rewrite.proofs.Opens.{opens}
use Rattle.gb_rewrite.proofs.Standing.{IsStanding, carried}
use mathlib.Core.Former.{Count}

module _ (x : Name) (b : Term) (c : Context) (st : IsStanding c x b) (ls : List TypedName) where
  abbrev d : Context
  d = of_program c ls

  -- the body is known in programs
  there : IsStanding (outermost d) x b
  there = carried c (outermost d) (λ n o h. h) x b st

  abbrev M : Term → Term
  M = unfolded x b

  -- Statements stay typed.

  expression : (e : Term) → IsExpression c ls e → IsExpression c ls (M e) × (type_of (M e) ≡ type_of e)
  expression e w =
      let m = unfolded_made d x b there d refl e w.typed in
      (record { typed = m.typed; plain = plain_stays d x b there e w.plain }, m.written)

  valued_stays : (e : Term) → IsValued c ls e → IsValued c ls (M e) × (type_of (M e) ≡ type_of e)
  valued_stays e w =
      let k = expression e w.expression in
      (record { expression = k.0; finite = subst IsFinite (sym k.1) w.finite }, k.1)

  arguments : {n : Count} (es : Row_of-Term n) (ps : List TypedName) → AreArguments c ls (terms_in es) ps → AreArguments c ls (terms_in (row_unfolded x b es)) ps
  arguments end_of-Term [] w = tt
  arguments end_of-Term (p ∷ ps) w = absurd w
  arguments (more_of-Term e es) [] w = absurd w
  arguments (more_of-Term e es) (p ∷ ps) w =
      let k = valued_stays e w.0.0 in
      ((k.0, k.1 ∙ w.0.1), arguments es ps w.1)

  call_stays : {n : Count} (xs : List Var) (o : Option ProcedureType) (es : Row_of-Term n) → IsCall c ls xs o (terms_in es) → IsCall c ls xs o (terms_in (row_unfolded x b es))
  call_stays xs None es w = absurd w
  call_stays xs (Some p) es w = (arguments es p.params w.0, w.1)

  mutual
    statement_stays : (i : Instr) → IsStatement c ls i → IsStatement c ls (statement_unfolded x b i)
    statement_stays (Assign xs e) w = let k = valued_stays e w.0 in (k.0, subst (Take (erased c) ls xs) (sym k.1) w.1)
    statement_stays (Sample y e) w =
        let k = expression e w.0 in
        (k.0, subst IsDistributionType (sym k.1) w.1, subst (λ t. variable_type (erased c) ls y ≡ Some (outcome_type t)) (sym k.1) w.2)
    statement_stays (Call' xs p n es) w = call_stays xs (procedure c p) es w
    statement_stays (If' e m a n k) w = let y = expression e w.0.0 in ((y.0, y.1 ∙ w.0.1), statements_stay a w.1, statements_stay k w.2)
    statement_stays (While' e v n a) w =
        let y = expression e w.0.0 in
        let z = expression v w.1.0 in
        ((y.0, y.1 ∙ w.0.1), (z.0, subst IsModulo (sym z.1) w.1.1), statements_stay a w.2)

    pub statements_stay : {n : Count} (is : Row_of-Instr n) → AreStatements c ls is → AreStatements c ls (body_unfolded x b is)
    statements_stay end_of-Instr w = tt
    statements_stay (more_of-Instr i is) w = (statement_stays i w.0, statements_stay is w.1)

  -- Programs run as before.

  module _ (g : Setting) (fits : IsSettingOf c g) (body : IsBody g x b) (j : Judge) (fair : IsFair g j) where
    anywhere : Around (λ q. Unit {0})
    anywhere = record { binder = λ s y p. tt; memory = λ s m p. tt; memories = λ s m n p. tt }

    alike : (e : Term) → IsExpression c ls e → ((s : State) → val g quiet (M e) s ≡ val g quiet e s) × (denominator g (M e) ≡ denominator g e)
    alike e w =
        let k = opens d x b there g (procedures_sound c g fits) body j fair (λ q. Unit {0}) anywhere d refl e w.typed (formed d e w.typed) (sound_form g d (procedures_sound c g fits) e w.typed) in
        (λ s. sym (plain_quiet g (speaking g j) (M e) (plain_stays d x b there e w.plain) s) ∙ k.0 s tt ∙ plain_quiet g (speaking g j) e w.plain s, k.1)

    turns_of : (v : Term) → most_turns v ≡ greatest (type_of v)
    turns_of (Term' p h n ts ty) = refl

    same_turns : (v : Term) → IsExpression c ls v → most_turns (M v) ≡ most_turns v
    same_turns v w = turns_of (M v) ∙ ap greatest (expression v w).1 ∙ sym (turns_of v)

    called_denominator : (xs : List Var) (o : Option Routine) (es fs : List Term) (p q : Program) → run_denominator g p ≡ run_denominator g q → run_denominator g (called xs o es p) ≡ run_denominator g (called xs o fs q)
    called_denominator xs (Some r) es fs p q e = ap (λ k. routine_denominator g r * k) e
    called_denominator xs None es fs p q e = e

    pub same_denominator : {n : Count} (is : Row_of-Instr n) → AreStatements c ls is → run_denominator g (program_of g (body_unfolded x b is)) ≡ run_denominator g (program_of g is)
    same_denominator end_of-Instr w = refl
    same_denominator (more_of-Instr (Assign xs e) is) w = same_denominator is w.1
    same_denominator (more_of-Instr (Sample y e) is) w = λ i. (alike e w.0.0).1 i * same_denominator is w.1 i
    same_denominator (more_of-Instr (Call' xs p n es) is) w = called_denominator xs (g.procedure p) _ _ _ _ (same_denominator is w.1)
    same_denominator (more_of-Instr (If' e m a n k) is) w = λ i. same_denominator a w.0.1 i * same_denominator k w.0.2 i * same_denominator is w.1 i
    same_denominator (more_of-Instr (While' e v n a) is) w = λ i. same_denominator a w.0.2 i ^ same_turns v w.0.1.0 i * same_denominator is w.1 i

    module _ (s : State) where
      pub same_value : (e : Term) → IsExpression c ls e → (m : Memory) → val g quiet (M e) (inside s m) ≡ val g quiet e (inside s m)
      same_value e w m = (alike e w).0 (inside s m)

      values_of : {n : Count} (es : Row_of-Term n) (ps : List TypedName) → AreArguments c ls (terms_in es) ps → (m : Memory) →
          map (λ e. valued g s e m) (terms_in (row_unfolded x b es)) ≡ map (λ e. valued g s e m) (terms_in es)
      values_of end_of-Term ps w m = refl
      values_of (more_of-Term e es) [] w m = absurd w
      values_of (more_of-Term e es) (p ∷ ps) w m = λ i. value_in (same_value e w.0.0.expression m i) ∷ values_of es ps w.1 m i

      same_values : {n : Count} (xs : List Var) (o : Option ProcedureType) (es : Row_of-Term n) → IsCall c ls xs o (terms_in es) → (m : Memory) →
          map (λ e. valued g s e m) (terms_in (row_unfolded x b es)) ≡ map (λ e. valued g s e m) (terms_in es)
      same_values xs None es w m = absurd w
      same_values xs (Some p) es w m = values_of es p.params w.0 m

      called_run : (xs : List Var) (o : Option Routine) (es fs : List Term) (p q : Program) → ((m : Memory) → map (λ e. valued g s e m) es ≡ map (λ e. valued g s e m) fs) →
          ((m : Memory) → out g s p m ≡ out g s q m) → (m : Memory) → out g s (called xs o es p) m ≡ out g s (called xs o fs q) m
      called_run xs (Some r) es fs p q e f m = λ i. bind (dmap (returned g xs m) (outcomes g r (e m i) m.globals)) (λ n. f n i)
      called_run xs None es fs p q e f m = f m

      pub same_run : {n : Count} (is : Row_of-Instr n) → AreStatements c ls is → (m : Memory) → out g s (program_of g (body_unfolded x b is)) m ≡ out g s (program_of g is) m
      same_run end_of-Instr w m = refl
      same_run (more_of-Instr (Assign xs e) is) w m =
          (λ i. out g s (program_of g (body_unfolded x b is)) (assigned g.types m xs (value_in (same_value e w.0.0.expression m i)))) ∙ same_run is w.1 (assigned g.types m xs (valued g s e m))
      same_run (more_of-Instr (Sample y e) is) w m = λ i. bind (dmap (write g.types m y) (weights_in (same_value e w.0.0 m i))) (λ n. same_run is w.1 n i)
      same_run (more_of-Instr (Call' xs p n es) is) w m =
          called_run xs (g.procedure p) _ _ _ _ (same_values xs (procedure c p) es w.0) (λ n. same_run is w.1 n) m
      same_run (more_of-Instr (If' e k a n r) is) w m =
          λ i. bind (if truth (same_value e w.0.0.0 m i) then scale (same_denominator r w.0.2 i) (same_run a w.0.1 m i) else scale (same_denominator a w.0.1 i) (same_run r w.0.2 m i)) (λ n. same_run is w.1 n i)
      same_run (more_of-Instr (While' e v n a) is) w m =
          let most = same_turns v w.0.1.0 in
          let k = same_denominator a w.0.2 in
          let number = same_value v w.0.1.0 m in
          λ i. bind (scale (k i ^ (most i - min (number_in (number i)) (most i)))
          (turns (λ n. truth (same_value e w.0.0.0 n i)) (λ n. same_run a w.0.2 n i) (k i) (min (number_in (number i)) (most i)) m)) (λ n. same_run is w.1 n i)
