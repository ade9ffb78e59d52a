-- A program for a module type has procedures of the types that the module type asks for.
use Rattle.std.proofs.Common.{◌≡◌, Bool, true, false, List, [], ◌∷◌, map, Option, Some, None, option_map, if◌then◌else◌, bytes_eq, refl, ap, sym, ◌∙◌, subst}
use Rattle.std.proofs.lemmas.Bool.{false≢true}
use Rattle.std.proofs.lemmas.Slice.Eq.{bytes_eq-Decides}
use Rattle.gb_core.specs.declared.ty.Ty.{Ty}
use Rattle.gb_core.specs.declared.var.Var.{Var}
use Rattle.gb_terms.specs.declared.decl.Param.{Param}
use Rattle.gb_terms.specs.declared.term.Term.{Term}
use Rattle.gb_meaning.specs.Meanings.{value_in}
use Rattle.gb_meaning.specs.Names.{Name}
use Rattle.gb_meaning.specs.Program.{Program, Routine, Oracle}
use Rattle.gb_meaning.specs.Program.Program.{done, assign, sample, branch, loop, call, ask}
use Rattle.gb_meaning.specs.Program.Routine.{routine}
use Rattle.gb_meaning.specs.Setting.{Meaning, Setting}
use Rattle.gb_meaning.specs.Setting.Meaning.{finite, whole, fraction, weights}
use Rattle.gb_meaning.specs.Sound.{IsDistribution, IsSound, IsSoundRoutine}
use Rattle.gb_meaning.specs.State.{closed, inside}
use Rattle.gb_meaning.specs.Values.{Global, World, Types, has}
use Rattle.gb_meaning.specs.Runs.{valued}
use Rattle.gb_meaning.specs.Terms.{quiet, val}
use Rattle.gb_meaning.specs.Written.{type_of as written_type, params_of}
use Rattle.gb_meaning.specs.Declared.{Declarations, ModuleType, Signature, signature_in}
use Rattle.gb_meaning.specs.Modules.{Procedures, found}
use Rattle.gb_meaning.specs.Linking.{Oracles, link, link_routine, answered, oracle_of}
use Rattle.gb_meaning.specs.Typing.{Names, type_of, IsValueOf, IsDistributionOver, IsTyped, IsTypedRoutine}
use Rattle.gb_meaning.specs.Adversary.{Adversary, type_named, may_call, oracle_signature, callable, each_linked, with_oracles}
use Rattle.gb_meaning.specs.Programs.{IfThere, IsProcedureFor, HasProcedures, IsProgramFor, AreNamed}
use Rattle.gb_meaning.proofs.EachProgram.{found-each_linked}
use Rattle.gb_typing.specs.Alike.{SameParams}
use Rattle.gb_typing.specs.Modules.{ProcedureType, signature_types, signatures_of, functor_type, of_functor_type}
use Rattle.gb_typing.specs.Fits.{IsOfType}
use Rattle.gb_typing.proofs.Provided.{is_some, or_else, AreGiven, IsApplied}
use Rattle.gb_typing.proofs.ReadModules.{Exact, given_each, value_results}

abbrev typed_as : Signature → ProcedureType
typed_as s = record { params = s.params; result = s.result }

-- the type of a procedure by its signature
pub found_type : (ss : List Signature) (n : Name) → found (signature_types ss) n ≡ option_map typed_as (signature_in ss n)
found_type [] n = refl
found_type (s ∷ ss) n = step (bytes_eq n s.name) (found_type ss n)
  where
    step : (b : Bool) → found (signature_types ss) n ≡ option_map typed_as (signature_in ss n) →
        (if b then Some (typed_as s) else found (signature_types ss) n) ≡ option_map typed_as (if b then Some s else signature_in ss n)
    step true e = refl
    step false e = e

abbrev there : Option Signature → Bool
there None = false
there (Some s) = true

value_has : (t : Types) (u : Ty) (x : Meaning) → IsValueOf t u x → has t u (value_in x) ≡ true
value_has t u (finite v) w = w
value_has t u (whole n) w = absurd w
value_has t u (fraction a) w = absurd w
value_has t u (weights d) w = absurd w

module _ (g : Setting) (ss : Oracle → Option Signature) (os : Oracles) (all : (o : Oracle) (s : Signature) → ss o ≡ Some s → IfThere (IsSoundRoutine g) (os o)) where
  drawn : (n : Names) (t : Option Ty) (d : Term) → IsDistributionOver g n t d → IsDistribution g d
  drawn n None d w = absurd w
  drawn n (Some t) d w = w.1

  answer : (r : Option Routine) (xs : List Var) (o : Oracle) (es : List Term) (c : Program) → IfThere (IsSoundRoutine g) r → IsSound g c → IsSound g (answered r xs o es c)
  answer None xs o es c a w = w
  answer (Some r) xs o es c a w = (a, w)

  asked : (n : Names) (xs : List Var) (o : Oracle) (es : List Term) (c : Program) (s : Option Signature) → ss o ≡ s → IsTyped g (λ p. s) n (ask xs o es done) → IsSound g (link os c) →
      IsSound g (answered (os o) xs o es (link os c))
  asked n xs o es c None e w s = absurd w.0
  asked n xs o es c (Some u) e w s = answer (os o) xs o es (link os c) (all o u e) s

  mutual
    sound : (n : Names) (c : Program) → IsTyped g ss n c → IsSound g (link os c)
    sound n done w = tt
    sound n (assign xs e c) w = sound n c w.2
    sound n (sample x d c) w = (drawn n (type_of n x) d w.0, sound n c w.1)
    sound n (branch e a b c) w = (sound n a w.1, sound n b w.2, sound n c w.3)
    sound n (loop e v a c) w = (sound n a w.2, sound n c w.3)
    sound n (call xs r es c) w = (sound_routine n.globals r w.0, sound n c w.3)
    sound n (ask xs o es c) w = asked n xs o es c (ss o) refl (w.0, tt) (sound n c w.1)

    sound_routine : (gs : List Global) (r : Routine) → IsTypedRoutine g ss gs r → IsSoundRoutine g (link_routine os r)
    sound_routine gs (routine ps ls c r) w = sound _ c w.1

  -- a procedure for a signature, linked with sound ones
  pub procedure_exact : (gs : List Global) (s : Signature) (r : Routine) → IsProcedureFor g ss gs s (Some r) → params_of r ≡ s.params → IsOfType g (typed_as s) (link_routine os r)
  procedure_exact gs s (routine ps ls c v) w e = record {
    params = e;
    result = w.0.1;
    sound = sound_routine gs (routine ps ls c v) w.1;
    results = value_results g ps ls (link os c) v (typed_as s)
        (λ n. subst (λ t. has g.types t (valued g closed v n) ≡ true) w.0.1 (value_has g.types (written_type v) (val g quiet v (inside closed n)) (w.1.2.1 (inside closed n))));
  }

module _ (g : Setting) (ds : Declarations) (types : Name → Option ModuleType) where
  -- the parameters' module types have the signatures that are declared
  answers : (ps : List Param) (gs : List (Procedures Routine)) → SameParams ds types ps → AreGiven g (map (λ p. signature_types (signatures_of (types p.ty))) ps) gs →
      (o : Oracle) (s : Signature) → oracle_signature ds ps o ≡ Some s → IfThere (IsSoundRoutine g) (oracle_of ps gs o)
  answers [] gs k w o s e = absurd (false≢true (ap there e))
  answers (p ∷ ps) [] k w o s e = absurd w
  answers (p ∷ ps) (x ∷ gs) k w o s e = step (answers ps gs k.1 w.1 o s) (bytes_eq o.parameter p.name) e
    where
      step : (oracle_signature ds ps o ≡ Some s → IfThere (IsSoundRoutine g) (oracle_of ps gs o)) → (b : Bool) →
          (if b then signature_in (type_named ds p.ty).signatures o.name else oracle_signature ds ps o) ≡ Some s →
          IfThere (IsSoundRoutine g) (if b then found x o.name else oracle_of ps gs o)
      step later true h =
          let y = w.0 o.name (typed_as s) (found_type (signatures_of (types p.ty)) o.name ∙ ap (option_map typed_as) (ap (λ z. signature_in z o.name) k.0 ∙ h)) in
          subst (IfThere (IsSoundRoutine g)) (sym y.1) (let z = y.2 in z.sound)
      step later false h = later h

  module _ (t : ModuleType) (same : SameParams ds types t.params) (a : Adversary) (os : Oracles)
      (all : (o : Oracle) (s : Signature) → oracle_signature ds t.params o ≡ Some s → IfThere (IsSoundRoutine g) (os o)) where
    called : (s : Signature) (o : Oracle) (u : Signature) → callable ds t s o ≡ Some u → IfThere (IsSoundRoutine g) (os o)
    called s o u = step (may_call s.oracles o)
      where
        step : (b : Bool) → (if b then oracle_signature ds t.params o else None) ≡ Some u → IfThere (IsSoundRoutine g) (os o)
        step true e = all o u e
        step false e = absurd (false≢true (ap there e))

    one : (s : Signature) (r : Option Routine) → found a.procedures s.name ≡ r → IsProcedureFor g (callable ds t s) a.footprint s r → IfThere (λ r. params_of r ≡ s.params) r →
        (x : Routine) × (found (each_linked os a.procedures) s.name ≡ Some x) × IsOfType g (typed_as s) x
    one s None e w k = absurd w
    one s (Some r) e w k =
        (link_routine os r, found-each_linked os a.procedures s.name ∙ ap (option_map (link_routine os)) e, procedure_exact g (callable ds t s) os (called s) a.footprint s r w k)

    pub each_exact : (ss : List Signature) → HasProcedures ds g t a ss → AreNamed a ss → (n : Name) (u : ProcedureType) → found (signature_types ss) n ≡ Some u →
        (x : Routine) × (found (each_linked os a.procedures) n ≡ Some x) × IsOfType g u x
    each_exact [] w k n u e = absurd (false≢true (ap is_some e))
    each_exact (s ∷ ss) w k n u e = step (each_exact ss w.1 k.1 n u) (bytes_eq n s.name) refl e
      where
        step : (found (signature_types ss) n ≡ Some u → (x : Routine) × (found (each_linked os a.procedures) n ≡ Some x) × IsOfType g u x) → (b : Bool) → bytes_eq n s.name ≡ b →
            (if b then Some (typed_as s) else found (signature_types ss) n) ≡ Some u → (x : Routine) × (found (each_linked os a.procedures) n ≡ Some x) × IsOfType g u x
        step later true h e =
            let y = one s (found a.procedures s.name) refl w.0 k.0 in
            (y.0, ap (found (each_linked os a.procedures)) ((bytes_eq-Decides n s.name).0 h) ∙ y.1, subst (λ u. IsOfType g u y.0) (ap (or_else (typed_as s)) e) y.2)
        step later false h e = later e

  -- the program, with modules for its parameters
  pub program_applied : (t : ModuleType) → SameParams ds types t.params → (w : World) (a : Adversary) → IsProgramFor ds g w t a → AreNamed a t.signatures →
      IsApplied g (Exact g) (of_functor_type (functor_type types (Some t))) (with_oracles t a)
  program_applied t same w a p k fs f n u e =
      each_exact t same a (oracle_of t.params (map (λ m. m []) fs))
      (answers t.params (map (λ m. m []) fs) same (given_each g (map (λ q. signature_types (signatures_of (types q.ty))) t.params) fs f))
      t.signatures p.procedures k n u e
