-- Open programs, linked with oracles that keep a property of globals, keep it.
use Rattle.std.proofs.Common.{◌≡◌, ◌-◌, ◌^◌, Bool, true, List, ◌++◌, map, Option, Some, None, refl}
use Rattle.std.proofs.lemmas.Option.{none-some}
use Rattle.gb_core.specs.declared.ty.Ty.{Ty}
use Rattle.gb_core.specs.declared.value.Value.{Value}
use Rattle.gb_core.specs.declared.var.Var.{Var}
use Rattle.gb_core.specs.declared.var.Var.TheVariants as var
use Rattle.gb_dist.specs.WeightedList.{Every}
use Rattle.gb_dist.proofs.Entries.{Every-bind, Every-dmap, Every-scale}
use Rattle.gb_terms.specs.declared.decl.TypedName.{TypedName}
use Rattle.gb_terms.specs.declared.term.Term.{Term}
use Rattle.gb_meaning.specs.Memory.{Memory, assigned, result_in, write}
use Rattle.gb_meaning.specs.Names.{Map, set}
use Rattle.gb_meaning.specs.Program.{Program, Routine, Oracle}
use Rattle.gb_meaning.specs.Program.Program.{done, assign, sample, branch, loop, call, ask}
use Rattle.gb_meaning.specs.Program.Routine.{routine}
use Rattle.gb_meaning.specs.Runs.{is_true, most_turns, out, outcomes, returned, run_denominator, turns, turns_at, valued}
use Rattle.gb_meaning.specs.Setting.{Setting}
use Rattle.gb_meaning.specs.State.{State, closed, inside}
use Rattle.gb_meaning.specs.Terms.{distribution}
use Rattle.gb_meaning.specs.Values.{Global}
use Rattle.gb_meaning.specs.Written.{params_of, result_type, type_of as written_type}
use Rattle.gb_meaning.proofs.Runs.{cases_of}
use Rattle.gb_laws.specs.Programs.{AreValuesOf}
use Rattle.gb_laws.proofs.Leaves.{turns_keep}
use Rattle.gb_meaning.specs.Declared.{Signature}
use Rattle.gb_meaning.specs.Linking.{Oracles, answered, link, link_routine}
use Rattle.gb_meaning.specs.Programs.{IfThere}
use Rattle.gb_meaning.specs.Typing.{Names, type_of, Takes, IsDistributionOver, AreArguments, FitsSignature, IsTyped, IsTypedRoutine}
use Rattle.gb_prog.specs.KeptProperty.{IsApartFrom, Keeps, OraclesKeep}
use Rattle.gb_prog.proofs.Answering.{every_any}
use Rattle.gb_prog.proofs.Expressions.{values_have}
use Rattle.gb_prog.proofs.Places.{at_place, assigned_kept}

module _ (g : Setting) (ss : Oracle → Option Signature) (I : Map → Bool) (os : Oracles) (all : OraclesKeep g ss I os) where
  -- the memory has the property
  abbrev Has : Memory → Type 0
  Has m = I m.globals ≡ true

  module _ (names : Names) (apart : IsApartFrom names.globals I) (s : State) where
    pub written : (x : Var) (u : Ty) → type_of names x ≡ Some u → (v : Value) (m n : Memory) → Has m → Has (write g.types m x v)
    written (var.Global p x) u e v m n h = at_place (λ q z. (v : Value) (G : Map) → I G ≡ true → I (set G q v) ≡ true) names.globals apart p x u e v m.globals h
    written (var.Local x) u e v m n h = h
    written (var.Glob b) u e v m n h = absurd (none-some u e)

    pub taken : (xs : List Var) (u : Ty) → Takes names xs u → (v : Value) (m : Memory) → Has m → Has (assigned g.types m xs v)
    taken xs u w v m h = assigned_kept g.types names (λ m n. Has m) written xs u w v m m h

    -- from memories that have the property, each end has it
    abbrev Run : Program → Type 0
    Run c = (m : Memory) → Has m → Every Has (out g s c m)

    sampled : (x : Var) (d : Term) (c : Program) (o : Option Ty) → type_of names x ≡ o → IsDistributionOver g names o d → Run c → Run (sample x d c)
    sampled x d c None e w k m h = absurd w
    sampled x d c (Some u) e w k m h =
        Every-bind Has Has _ (λ n. out g s c n)
        (Every-dmap {P = λ v. Unit {0}} Has (write g.types m x) (distribution g d (inside s m)) (λ v z. written x u e v m m h) (every_any (distribution g d (inside s m)))) k

    branched : (e : Term) (a b c : Program) → Run a → Run b → Run c → Run (branch e a b c)
    branched e a b c h k l m i =
        Every-bind Has Has _ (λ n. out g s c n)
        (cases_of (Every Has) (is_true g s e m) _ _ (Every-scale Has (run_denominator g b) (out g s a m) (h m i)) (Every-scale Has (run_denominator g a) (out g s b m) (k m i))) l

    looped : (e v : Term) (a c : Program) → Run a → Run c → Run (loop e v a c)
    looped e v a c h k m i =
        Every-bind Has Has _ (λ n. out g s c n)
        (Every-scale Has (run_denominator g a ^ (most_turns v - turns_at g s v m)) (turns (is_true g s e) (λ n. out g s a n) (run_denominator g a) (turns_at g s v m) m)
        (turns_keep Has (is_true g s e) (λ n. out g s a n) (run_denominator g a) h (turns_at g s v m) m i)) k

    called : (xs : List Var) (r : Routine) (es : List Term) (c : Program) (ps : List TypedName) (u : Ty) → AreArguments g names es ps → Takes names xs u →
        ((vs : List Value) → AreValuesOf g.types ps vs → (G : Map) → I G ≡ true → Every Has (outcomes g r vs G)) → Run c → Run (call xs r es c)
    called xs r es c ps u w k ends l m i =
        let vs = map (λ e. valued g s e m) es in
        Every-bind Has Has _ (λ n. out g s c n)
        (Every-dmap {P = Has} Has (returned g xs m) (outcomes g r vs m.globals) (λ a h. taken xs u k (result_in a) (record { globals = a.globals; frame = m.frame }) h)
        (ends vs (values_have g names s m es ps w) m.globals i)) l

    answering : (xs : List Var) (o : Oracle) (es : List Term) (c : Program) (u : Signature) → FitsSignature g names (Some u) xs es → Run c →
        (r : Option Routine) → IfThere (Keeps g I u) r → Run (answered r xs o es c)
    answering xs o es c u w k None h = k
    answering xs o es c u w k (Some r) h = called xs r es c u.params u.result w.0 w.1 h k

    asked : (xs : List Var) (o : Oracle) (es : List Term) (c : Program) (u : Option Signature) → ss o ≡ u → FitsSignature g names u xs es → Run c → Run (answered (os o) xs o es c)
    asked xs o es c None e w k = absurd w
    asked xs o es c (Some u) e w k = answering xs o es c u w k (os o) (all o u e)

  mutual
    pub program_keeps : (names : Names) → IsApartFrom names.globals I → (c : Program) → IsTyped g ss names c → (s : State) → (m : Memory) → Has m → Every Has (out g s (link os c) m)
    program_keeps names apart done w s m h = (h, tt)
    program_keeps names apart (assign xs e c) w s m h =
        program_keeps names apart c w.2 s (assigned g.types m xs (valued g s e m)) (taken names apart s xs (written_type e) w.1 (valued g s e m) m h)
    program_keeps names apart (sample x d c) w s m h = sampled names apart s x d (link os c) (type_of names x) refl w.0 (program_keeps names apart c w.1 s) m h
    program_keeps names apart (branch e a b c) w s m h =
        branched names apart s e (link os a) (link os b) (link os c) (program_keeps names apart a w.1 s) (program_keeps names apart b w.2 s) (program_keeps names apart c w.3 s) m h
    program_keeps names apart (loop e v a c) w s m h = looped names apart s e v (link os a) (link os c) (program_keeps names apart a w.2 s) (program_keeps names apart c w.3 s) m h
    program_keeps names apart (call xs r es c) w s m h =
        called names apart s xs (link_routine os r) es (link os c) (params_of r) (result_type r) w.1 w.2 (λ vs k. routine_keeps names.globals apart r w.0 vs) (program_keeps names apart c w.3 s) m h
    program_keeps names apart (ask xs o es c) w s m h = asked names apart s xs o es (link os c) (ss o) refl w.0 (program_keeps names apart c w.1 s) m h

    pub routine_keeps : (gs : List Global) → IsApartFrom gs I → (r : Routine) → IsTypedRoutine g ss gs r → (vs : List Value) (G : Map) → I G ≡ true → Every Has (outcomes g (link_routine os r) vs G)
    routine_keeps gs apart (routine ps ls c r) w vs G i =
        Every-dmap {P = Has} Has _ (out g closed (link os c) _) (λ n h. h) (program_keeps (record { globals = gs; locals = ps ++ ls }) apart c w.1 closed _ i)
