-- Open programs, linked with procedures for what they leave open.
use Rattle.std.proofs.Common.{◌≡◌, Bool, true, false, List, [], ◌∷◌, Option, Some, None, option_map, if◌then◌else◌, bytes_eq, refl, ap}
use mathlib.Core.Former.{Count}
use Rattle.gb_core.specs.declared.var.Var.{Var}
use Rattle.gb_terms.specs.declared.decl.Module.{Module}
use Rattle.gb_terms.specs.declared.decl.Proc.{Proc}
use Rattle.gb_terms.specs.declared.module.ProcRef.{ProcRef}
use Rattle.gb_terms.specs.declared.term.Instr.{Instr, Row_of-Instr, end_of-Instr, more_of-Instr}
use Rattle.gb_terms.specs.declared.term.Head.TheVariants.{Assign, Sample, Call', If', While'}
use Rattle.gb_terms.specs.declared.term.Term.{Term}
use Rattle.gb_terms.specs.Rows.{terms_in}
use Rattle.gb_meaning.specs.Commands.{called, program_of, statement, statements}
use Rattle.gb_meaning.specs.Names.{Name}
use Rattle.gb_meaning.specs.Program.{Program, Routine, Oracle}
use Rattle.gb_meaning.specs.Program.Program.{done, assign, sample, branch, loop, call, ask}
use Rattle.gb_meaning.specs.Program.Routine.{routine}
use Rattle.gb_meaning.specs.Setting.{Setting}
use Rattle.gb_meaning.specs.Values.{Global}
use Rattle.gb_meaning.specs.Declared.{Declarations, Signature, abstract_type, abbreviation, operator, abstract_operator, module_type, concrete_module, abstract_module, axiom_of, lemma, terminating}
use Rattle.gb_meaning.specs.Linking.{Oracles, answered, calling, link, link_routine, linked_procedure}
use Rattle.gb_meaning.specs.Modules.{Procedures, found}
use Rattle.gb_meaning.specs.Naming.{EachCall, EachCallIn, EachCallOf}
use Rattle.gb_meaning.specs.Typing.{Names, IsTyped, IsTypedRoutine}
use Rattle.gb_typing.specs.Context.{Context}
use Rattle.gb_typing.specs.Programs.{locals_of}
use Rattle.gb_typing.proofs.Calls.{each_call}
use Rattle.gb_arguments.specs.Opened.{Callee, linked, open_to, carried, program_over, statement_over, statements_over, open_procedure, answered_by, relink, relink_routine, each_relinked}
use Rattle.gb_arguments.specs.Programs.{IsLinked, IsLinkedBy}
use Rattle.gb_arguments.specs.Reading.{AreInModule, AreInside, KeepAlike}
use Rattle.gb_arguments.specs.Related.{IsNarrow}

-- any procedure in any context
abbrev pub AnyContext : Context → Proc → Type 0
AnyContext c p = Unit {0}

any_procedures : (c : Context) (m : Module) (ps : List Proc) → AreInModule AnyContext c m ps
any_procedures c m [] = tt
any_procedures c m (p ∷ ps) = ((λ ts. tt), any_procedures c m ps)

pub anywhere : (ds : Declarations) (c : Context) → AreInside AnyContext c ds
anywhere [] c = tt
anywhere ((n, concrete_module m) ∷ ds) c = (any_procedures c m m.procs, anywhere ds _)
anywhere ((n, abstract_module b) ∷ ds) c = anywhere ds _
anywhere ((n, abstract_type) ∷ ds) c = anywhere ds _
anywhere ((n, abbreviation a) ∷ ds) c = anywhere ds _
anywhere ((n, operator o) ∷ ds) c = anywhere ds _
anywhere ((n, abstract_operator o) ∷ ds) c = anywhere ds _
anywhere ((n, module_type t) ∷ ds) c = anywhere ds _
anywhere ((n, axiom_of q) ∷ ds) c = anywhere ds _
anywhere ((n, lemma q) ∷ ds) c = anywhere ds _
anywhere ((n, terminating f) ∷ ds) c = anywhere ds _

module _ (os : Oracles) where
  pub linked_narrow : IsNarrow (IsLinkedBy os)
  linked_narrow s t e x y w = w

  call_linked : (xs : List Var) (x : Option Callee) (y : Option Routine) (es : List Term) (c d : Program) → IsLinked os x y → link os c ≡ d → link os (carried xs x es c) ≡ called xs y es d
  call_linked xs (Some (linked r)) (Some s) es c d w e = λ i. call xs (w i) es (e i)
  call_linked xs (Some (open_to o)) (Some s) es c d w e = λ i. answered (w i) xs o es (e i)
  call_linked xs (Some (linked r)) None es c d w e = absurd w
  call_linked xs (Some (open_to o)) None es c d w e = absurd w
  call_linked xs None y es c d w e = absurd w

  module _ (g : Setting) (f : ProcRef → Option Callee) (h : ProcRef → Option Routine) where
    row_linked : {n : Count} (is : Row_of-Instr n) → EachCallIn (λ r. IsLinked os (f r) (h r)) is → link os (program_over f is) ≡ program_of (calling g h) is
    row_linked end_of-Instr w = refl
    row_linked (more_of-Instr (Assign xs e) is) w = ap (assign xs e) (row_linked is w.1)
    row_linked (more_of-Instr (Sample x d) is) w = ap (sample x d) (row_linked is w.1)
    row_linked (more_of-Instr (Call' xs p n es) is) w = call_linked xs (f p) (h p) (terms_in es) (program_over f is) (program_of (calling g h) is) w.0 (row_linked is w.1)
    row_linked (more_of-Instr (If' e m a n b) is) w = λ i. branch e (row_linked a w.0.0 i) (row_linked b w.0.1 i) (row_linked is w.1 i)
    row_linked (more_of-Instr (While' e v n a) is) w = λ i. loop e v (row_linked a w.0 i) (row_linked is w.1 i)

    statement_linked : (s : Instr) (c d : Program) → EachCall (λ r. IsLinked os (f r) (h r)) s → link os c ≡ d → link os (statement_over f s c) ≡ statement (calling g h) s d
    statement_linked (Assign xs e) c d w k = ap (assign xs e) k
    statement_linked (Sample x u) c d w k = ap (sample x u) k
    statement_linked (Call' xs p n es) c d w k = call_linked xs (f p) (h p) (terms_in es) c d w k
    statement_linked (If' e m a n b) c d w k = λ i. branch e (row_linked a w.0 i) (row_linked b w.1 i) (k i)
    statement_linked (While' e v n a) c d w k = λ i. loop e v (row_linked a w i) (k i)

    -- the open program of statements, linked, is their program
    pub statements_linked : (is : List Instr) → EachCallOf (λ r. IsLinked os (f r) (h r)) is → link os (statements_over f is) ≡ statements (calling g h) is
    statements_linked [] w = refl
    statements_linked (s ∷ is) w = statement_linked s (statements_over f is) (statements (calling g h) is) w.0 (statements_linked is w.1)

  -- Reading with open parameters, linked, is reading.
  pub reading_linked : (g : Setting) → KeepAlike (IsLinkedBy os) AnyContext open_procedure (linked_procedure g)
  reading_linked g c p k w f h calls =
      ap (λ b. routine p.params p.locals b p.value)
      (statements_linked g f h p.body.list
      (each_call c (locals_of p) (λ r. IsLinked os (f r) (h r)) calls p.body.list (let b = w.body in b.statements)))

-- Programs of abstract modules: what answers for their oracles may be open in its turn.

module _ (g : Setting) (ss : Oracle → Option Signature) (os qs : Oracles) (f : Oracle → Option Callee)
    (all : (o : Oracle) (s : Signature) → ss o ≡ Some s → IsLinked os (f o) (qs o)) where
  ask_linked : (x : Option Callee) (y : Option Routine) (xs : List Var) (o : Oracle) (es : List Term) (c d : Program) → IsLinked os x y → link os c ≡ d →
      link os (answered_by x xs o es c) ≡ answered y xs o es d
  ask_linked (Some (linked r)) (Some s) xs o es c d w e = λ i. call xs (w i) es (e i)
  ask_linked (Some (open_to p)) (Some s) xs o es c d w e = λ i. answered (w i) xs p es (e i)
  ask_linked (Some (linked r)) None xs o es c d w e = absurd w
  ask_linked (Some (open_to p)) None xs o es c d w e = absurd w
  ask_linked None y xs o es c d w e = absurd w

  known : (n : Names) (xs : List Var) (o : Oracle) (es : List Term) (s : Option Signature) → ss o ≡ s → IsTyped g (λ p. s) n (ask xs o es done) → IsLinked os (f o) (qs o)
  known n xs o es None e w = absurd w.0
  known n xs o es (Some u) e w = all o u e

  mutual
    program_linked : (n : Names) (c : Program) → IsTyped g ss n c → link os (relink f c) ≡ link qs c
    program_linked n done w = refl
    program_linked n (assign xs e c) w = ap (assign xs e) (program_linked n c w.2)
    program_linked n (sample x d c) w = ap (sample x d) (program_linked n c w.1)
    program_linked n (branch e a b c) w = λ i. branch e (program_linked n a w.1 i) (program_linked n b w.2 i) (program_linked n c w.3 i)
    program_linked n (loop e v a c) w = λ i. loop e v (program_linked n a w.2 i) (program_linked n c w.3 i)
    program_linked n (call xs r es c) w = λ i. call xs (routine_linked n.globals r w.0 i) es (program_linked n c w.3 i)
    program_linked n (ask xs o es c) w =
        ask_linked (f o) (qs o) xs o es (relink f c) (link qs c) (known n xs o es (ss o) refl (w.0, tt)) (program_linked n c w.1)

    -- a typed procedure with open oracles, linked
    pub routine_linked : (gs : List Global) (r : Routine) → IsTypedRoutine g ss gs r → link_routine os (relink_routine f r) ≡ link_routine qs r
    routine_linked gs (routine ps ls c r) w = ap (λ b. routine ps ls b r) (program_linked _ c w.1)

abbrev pub linked_with : (Oracle → Option Callee) → Routine → Callee
linked_with f r = linked (relink_routine f r)

pub found_relinked : (f : Oracle → Option Callee) (ps : Procedures Routine) (n : Name) → found (each_relinked f ps) n ≡ option_map (linked_with f) (found ps n)
found_relinked f [] n = refl
found_relinked f (p ∷ ps) n = step (bytes_eq n p.0) (found_relinked f ps n)
  where
    step : (b : Bool) → found (each_relinked f ps) n ≡ option_map (linked_with f) (found ps n) →
        (if b then Some (linked (relink_routine f p.1)) else found (each_relinked f ps) n) ≡ option_map (linked_with f) (if b then Some p.1 else found ps n)
    step true e = refl
    step false e = e

-- Procedures that are the same for all oracles that a program may call.
module _ (g : Setting) (ss : Oracle → Option Signature) (os qs : Oracles) (all : (o : Oracle) (s : Signature) → ss o ≡ Some s → os o ≡ qs o) where
  same_asked : (n : Names) (xs : List Var) (o : Oracle) (es : List Term) (s : Option Signature) → ss o ≡ s → IsTyped g (λ p. s) n (ask xs o es done) → os o ≡ qs o
  same_asked n xs o es None e w = absurd w.0
  same_asked n xs o es (Some u) e w = all o u e

  mutual
    program_same : (n : Names) (c : Program) → IsTyped g ss n c → link os c ≡ link qs c
    program_same n done w = refl
    program_same n (assign xs e c) w = ap (assign xs e) (program_same n c w.2)
    program_same n (sample x d c) w = ap (sample x d) (program_same n c w.1)
    program_same n (branch e a b c) w = λ i. branch e (program_same n a w.1 i) (program_same n b w.2 i) (program_same n c w.3 i)
    program_same n (loop e v a c) w = λ i. loop e v (program_same n a w.2 i) (program_same n c w.3 i)
    program_same n (call xs r es c) w = λ i. call xs (routine_same n.globals r w.0 i) es (program_same n c w.3 i)
    program_same n (ask xs o es c) w = λ i. answered (same_asked n xs o es (ss o) refl (w.0, tt) i) xs o es (program_same n c w.1 i)

    pub routine_same : (gs : List Global) (r : Routine) → IsTypedRoutine g ss gs r → link_routine os r ≡ link_routine qs r
    routine_same gs (routine ps ls c r) w = ap (λ b. routine ps ls b r) (program_same _ c w.1)
