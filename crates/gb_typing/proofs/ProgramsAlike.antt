-- A program for a module type gives the same for arguments that are alike: it calls procedures of their types alone.
use Rattle.std.proofs.Common.{◌≡◌, Bool, true, false, List, [], ◌∷◌, map, Option, Some, None, option_map, if◌then◌else◌, bytes_eq, refl, ap, sym, ◌∙◌, subst}
use Rattle.std.proofs.lemmas.Option.{none-some}
use Rattle.std.proofs.lemmas.Slice.Eq.{bytes_eq-Decides}
use Rattle.gb_core.specs.declared.var.Var.{Var}
use Rattle.gb_terms.specs.declared.decl.Param.{Param}
use Rattle.gb_terms.specs.declared.term.Term.{Term}
use Rattle.gb_meaning.specs.Names.{Name}
use Rattle.gb_meaning.specs.Program.{Program, Routine, Oracle}
use Rattle.gb_meaning.specs.Program.Program.{done, assign, sample, branch, loop, call, ask}
use Rattle.gb_meaning.specs.Program.Routine.{routine}
use Rattle.gb_meaning.specs.Setting.{Setting}
use Rattle.gb_meaning.specs.Values.{Global, World}
use Rattle.gb_meaning.specs.Adversary.{Adversary, type_named, may_call, oracle_signature, callable, each_linked, with_oracles}
use Rattle.gb_meaning.specs.Declared.{Declarations, ModuleType, Signature, signature_in}
use Rattle.gb_meaning.specs.Linking.{Oracles, link, link_routine, answered, oracle_of}
use Rattle.gb_meaning.specs.Modules.{Procedures, found}
use Rattle.gb_meaning.specs.Programs.{IsProcedureFor, HasProcedures, IsProgramFor}
use Rattle.gb_meaning.specs.Typing.{Names, IsTyped, IsTypedRoutine}
use Rattle.gb_meaning.proofs.EachProgram.{found-each_linked}
use Rattle.gb_typing.specs.Modules.{ProcedureType, signature_types, signatures_of, functor_type, of_functor_type}
use Rattle.gb_typing.proofs.Programs.{found_type}
use Rattle.gb_typing.specs.Alike.{Agree, AreAgreeing, StandAlike, SameParams}
use Rattle.gb_typing.proofs.ReadingsAlike.{given_each}

abbrev typed_as : Signature → ProcedureType
typed_as s = record { params = s.params; result = s.result }

-- oracles that answer the same for all that a program may call
module _ (g : Setting) (ss : Oracle → Option Signature) (os qs : Oracles) (all : (o : Oracle) (s : Signature) → ss o ≡ Some s → os o ≡ qs o) where
  asked : (n : Names) (xs : List Var) (o : Oracle) (es : List Term) (s : Option Signature) → ss o ≡ s → IsTyped g (λ p. s) n (ask xs o es done) → os o ≡ qs o
  asked n xs o es None e w = absurd w.0
  asked n xs o es (Some u) e w = all o u e

  mutual
    linked_same : (n : Names) (c : Program) → IsTyped g ss n c → link os c ≡ link qs c
    linked_same n done w = refl
    linked_same n (assign xs e c) w = λ i. assign xs e (linked_same n c w.2 i)
    linked_same n (sample x d c) w = λ i. sample x d (linked_same n c w.1 i)
    linked_same n (branch e a b c) w = λ i. branch e (linked_same n a w.1 i) (linked_same n b w.2 i) (linked_same n c w.3 i)
    linked_same n (loop e v a c) w = λ i. loop e v (linked_same n a w.2 i) (linked_same n c w.3 i)
    linked_same n (call xs r es c) w = λ i. call xs (routine_same n.globals r w.0 i) es (linked_same n c w.3 i)
    linked_same n (ask xs o es c) w = λ i. answered (asked n xs o es (ss o) refl (w.0, tt) i) xs o es (linked_same n c w.1 i)

    routine_same : (gs : List Global) (r : Routine) → IsTypedRoutine g ss gs r → link_routine os r ≡ link_routine qs r
    routine_same gs (routine ps ls c r) w = λ i. routine ps ls (linked_same _ c w.1 i) r

module _ (ds : Declarations) (types : Name → Option ModuleType) {X : Type 0} where
  -- modules that are alike at the parameters' types answer the same
  pub answers : (ps : List Param) (xs ys : List (Procedures X)) → SameParams ds types ps → AreAgreeing (map (λ p. signature_types (signatures_of (types p.ty))) ps) xs ys →
      (o : Oracle) (s : Signature) → oracle_signature ds ps o ≡ Some s → oracle_of ps xs o ≡ oracle_of ps ys o
  answers [] xs ys k w o s e = absurd (none-some s e)
  answers (p ∷ ps) [] ys k w o s e = absurd w
  answers (p ∷ ps) (x ∷ xs) [] k w o s e = absurd w
  answers (p ∷ ps) (x ∷ xs) (y ∷ ys) k w o s e = step (answers ps xs ys k.1 w.1 o s) (bytes_eq o.parameter p.name) e
    where
      step : (oracle_signature ds ps o ≡ Some s → oracle_of ps xs o ≡ oracle_of ps ys o) → (b : Bool) →
          (if b then signature_in (type_named ds p.ty).signatures o.name else oracle_signature ds ps o) ≡ Some s →
          (if b then found x o.name else oracle_of ps xs o) ≡ (if b then found y o.name else oracle_of ps ys o)
      step later true h =
          w.0 o.name (typed_as s) (found_type (signatures_of (types p.ty)) o.name ∙ ap (option_map typed_as) (ap (λ z. signature_in z o.name) k.0 ∙ h))
      step later false h = later h

module _ (g : Setting) (ds : Declarations) (types : Name → Option ModuleType) where
  module _ (t : ModuleType) (a : Adversary) (os qs : Oracles) (all : (o : Oracle) (s : Signature) → oracle_signature ds t.params o ≡ Some s → os o ≡ qs o) where
    called : (s : Signature) (o : Oracle) (u : Signature) → callable ds t s o ≡ Some u → os o ≡ qs o
    called s o u = step (may_call s.oracles o)
      where
        step : (b : Bool) → (if b then oracle_signature ds t.params o else None) ≡ Some u → os o ≡ qs o
        step true e = all o u e
        step false e = absurd (none-some u e)

    linked_procedures : (s : Signature) (r : Option Routine) → IsProcedureFor g (callable ds t s) a.footprint s r → option_map (link_routine os) r ≡ option_map (link_routine qs) r
    linked_procedures s None w = absurd w
    linked_procedures s (Some r) w = ap Some (routine_same g (callable ds t s) os qs (called s) a.footprint r w.1)

    one : (s : Signature) → IsProcedureFor g (callable ds t s) a.footprint s (found a.procedures s.name) → found (each_linked os a.procedures) s.name ≡ found (each_linked qs a.procedures) s.name
    one s w = found-each_linked os a.procedures s.name ∙ linked_procedures s (found a.procedures s.name) w ∙ sym (found-each_linked qs a.procedures s.name)

    each_same : (us : List Signature) → HasProcedures ds g t a us → Agree (signature_types us) (each_linked os a.procedures) (each_linked qs a.procedures)
    each_same [] w n u e = absurd (none-some u e)
    each_same (s ∷ us) w n u e = step (each_same us w.1 n u) (bytes_eq n s.name) refl e
      where
        step : (found (signature_types us) n ≡ Some u → found (each_linked os a.procedures) n ≡ found (each_linked qs a.procedures) n) → (b : Bool) → bytes_eq n s.name ≡ b →
            (if b then Some (typed_as s) else found (signature_types us) n) ≡ Some u → found (each_linked os a.procedures) n ≡ found (each_linked qs a.procedures) n
        step later true h e = subst (λ z. found (each_linked os a.procedures) z ≡ found (each_linked qs a.procedures) z) (sym ((bytes_eq-Decides n s.name).0 h)) (one s w.0)
        step later false h e = later e

  -- the program, with modules for its parameters
  pub program_alike : (t : ModuleType) → SameParams ds types t.params → (w : World) (a : Adversary) → IsProgramFor ds g w t a →
      StandAlike (of_functor_type (functor_type types (Some t))) (with_oracles t a) (with_oracles t a)
  program_alike t same w a p fs gs k =
      each_same t a (oracle_of t.params (map (λ m. m []) fs)) (oracle_of t.params (map (λ m. m []) gs))
      (answers ds types t.params (map (λ m. m []) fs) (map (λ m. m []) gs) same (given_each (map (λ q. signature_types (signatures_of (types q.ty))) t.params) fs gs k))
      t.signatures p.procedures
