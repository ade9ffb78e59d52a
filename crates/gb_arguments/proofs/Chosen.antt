-- What is chosen for the abstract modules of a typed scope is related to itself, read in two ways.
use Rattle.std.proofs.Common.{◌≡◌, Bool, true, false, List, [], ◌∷◌, ◌++◌, map, Option, Some, None, option_map, if◌then◌else◌, bytes_eq, refl, ap, sym, ◌∙◌, subst}
use Rattle.std.proofs.lemmas.Option.{none-some}
use Rattle.std.proofs.lemmas.Slice.Eq.{bytes_eq-Decides}
use Rattle.gb_terms.specs.declared.decl.Param.{Param}
use Rattle.gb_terms.specs.declared.module.Bind.{Bind}
use Rattle.gb_meaning.specs.Names.{Name}
use Rattle.gb_meaning.specs.Program.{Routine, Oracle}
use Rattle.gb_meaning.specs.Setting.{Setting}
use Rattle.gb_meaning.specs.Values.{World}
use Rattle.gb_meaning.specs.Adversary.{Adversary, or_none, type_named, may_call, oracle_signature, callable, each_linked, with_oracles}
use Rattle.gb_meaning.specs.Declared.{Declarations, ModuleType, Signature, signature_in, abstract_type, abbreviation, operator, abstract_operator, module_type, concrete_module, abstract_module, axiom_of, lemma, terminating}
use Rattle.gb_meaning.specs.Holds.{declared_modules}
use Rattle.gb_meaning.specs.Linking.{Oracles, link_routine, oracle_of}
use Rattle.gb_meaning.specs.Modules.{Procedures, Applied, Reading, found, no_module, with_module, module_read, modules_of}
use Rattle.gb_meaning.specs.Modules as linked
use Rattle.gb_meaning.specs.Programs.{IsProcedureFor, HasProcedures, IsProgramFor}
use Rattle.gb_meaning.specs.Settings.{Chosen, Interpretation, setting}
use Rattle.gb_meaning.proofs.EachProgram.{found-each_linked}
use Rattle.gb_typing.specs.Alike.{SameParams}
use Rattle.gb_typing.specs.Chosen.{chosen_under, IsChosenIf, AreChosen, AreUnchosen, IsChosenOver}
use Rattle.gb_typing.specs.Context.{Context}
use Rattle.gb_typing.specs.Formulas.{IsKnown}
use Rattle.gb_typing.specs.Modules.{ProcedureType, signature_types, signatures_of, functor_type, of_functor_type}
use Rattle.gb_typing.specs.Scopes.{nothing, with_declared, AreTypedAfter, IsTypedScope}
use Rattle.gb_typing.proofs.KeptPrograms.{chosen_kept}
use Rattle.gb_typing.proofs.Programs.{found_type}
use Rattle.gb_typing.proofs.Settings.{chosen_or, chosen_program, next, same_params, with_next_type}
use Rattle.gb_typing.proofs.Settings as settings
use Rattle.gb_arguments.specs.Opened.{Callee, each_relinked, over_oracles, with_open_programs, open_modules, open_procedure}
use Rattle.gb_arguments.specs.Programs.{IsLinked, IsLinkedBy, AreSame}
use Rattle.gb_arguments.specs.Related.{IsNarrow, Agree, AreAgreeing, StandAlike, AreAbstractAlike}
use Rattle.gb_arguments.proofs.Linked.{linked_narrow, linked_with, found_relinked, routine_linked, routine_same}
use Rattle.gb_arguments.proofs.Readings.{given_each}

pub same_narrow : IsNarrow AreSame
same_narrow s t e (Some r) (Some q) w = w
same_narrow s t e (Some r) None w = w
same_narrow s t e None y w = w

pub are_same : (t : ProcedureType) (x y : Option Routine) → AreSame t x y → x ≡ y
are_same t (Some r) (Some s) w = ap Some w
are_same t (Some r) None w = absurd w
are_same t None y w = absurd w

abbrev pub typed_as : Signature → ProcedureType
typed_as s = record { params = s.params; result = s.result }

-- What is chosen under a name, with open oracles.

module _ (ds : Declarations) where
  pub open_chosen : (cs : List Chosen) (ms : linked.Modules Callee) (n : Name) (x : Chosen) → chosen_under cs n ≡ Some x →
      with_open_programs ds cs ms n ≡ over_oracles (type_named ds x.bind.ty) x.program
  open_chosen [] ms n x e = absurd (none-some x e)
  open_chosen (c ∷ cs) ms n x e = step (bytes_eq n c.bind.name) (open_chosen cs ms n x) e
    where
      step : (b : Bool) → (chosen_under cs n ≡ Some x → with_open_programs ds cs ms n ≡ over_oracles (type_named ds x.bind.ty) x.program) → (if b then Some c else chosen_under cs n) ≡ Some x →
          (if b then over_oracles (type_named ds c.bind.ty) c.program else with_open_programs ds cs ms n) ≡ over_oracles (type_named ds x.bind.ty) x.program
      step true later e = ap (λ (y : Chosen). over_oracles (type_named ds y.bind.ty) y.program) (ap (chosen_or c) e)
      step false later e = later e

  open_unchosen : (cs : List Chosen) (ms : linked.Modules Callee) (n : Name) → chosen_under cs n ≡ None → with_open_programs ds cs ms n ≡ ms n
  open_unchosen [] ms n e = refl
  open_unchosen (c ∷ cs) ms n e = step (bytes_eq n c.bind.name) (open_unchosen cs ms n) e
    where
      step : (b : Bool) → (chosen_under cs n ≡ None → with_open_programs ds cs ms n ≡ ms n) → (if b then Some c else chosen_under cs n) ≡ None →
          (if b then over_oracles (type_named ds c.bind.ty) c.program else with_open_programs ds cs ms n) ≡ ms n
      step true later e = absurd (none-some c (sym e))
      step false later e = later e

  -- the open modules are the declared ones over the chosen ones
  pub open_is : (cs : List Chosen) → AreUnchosen cs ds → (n : Name) → open_modules ds cs n ≡ modules_of open_procedure (with_open_programs ds cs (λ k. no_module)) ds n
  open_is cs u n = step (chosen_under cs n) refl
    where
      base : linked.Modules Callee
      base = with_open_programs ds cs (λ k. no_module)

      step : (o : Option Chosen) → chosen_under cs n ≡ o → open_modules ds cs n ≡ modules_of open_procedure base ds n
      step None e = open_unchosen cs (modules_of open_procedure base ds) n e
      step (Some x) e =
          open_chosen cs (modules_of open_procedure base ds) n x e ∙ sym (open_chosen cs (λ k. no_module) n x e)
          ∙ sym (chosen_kept open_procedure cs n x e ds base u)

-- Signatures, and procedures that are related for each.

module _ {X Y : Type 0} (R : ProcedureType → Option X → Option Y → Type 0) where
  -- modules that are related at the parameters' types answer related
  pub answers : (ds : Declarations) (types : Name → Option ModuleType) (ps : List Param) (xs : List (Procedures X)) (ys : List (Procedures Y)) → SameParams ds types ps →
      AreAgreeing R (map (λ p. signature_types (signatures_of (types p.ty))) ps) xs ys →
      (o : Oracle) (s : Signature) → oracle_signature ds ps o ≡ Some s → R (typed_as s) (oracle_of ps xs o) (oracle_of ps ys o)
  answers ds types [] xs ys k w o s e = absurd (none-some s e)
  answers ds types (p ∷ ps) [] ys k w o s e = absurd w
  answers ds types (p ∷ ps) (x ∷ xs) [] k w o s e = absurd w
  answers ds types (p ∷ ps) (x ∷ xs) (y ∷ ys) k w o s e = step (bytes_eq o.parameter p.name) (answers ds types ps xs ys k.1 w.1 o s) e
    where
      step : (b : Bool) → (oracle_signature ds ps o ≡ Some s → R (typed_as s) (oracle_of ps xs o) (oracle_of ps ys o)) →
          (if b then signature_in (type_named ds p.ty).signatures o.name else oracle_signature ds ps o) ≡ Some s →
          R (typed_as s) (if b then found x o.name else oracle_of ps xs o) (if b then found y o.name else oracle_of ps ys o)
      step true later h =
          w.0 o.name (typed_as s) (found_type (signatures_of (types p.ty)) o.name ∙ ap (option_map typed_as) (ap (λ z. signature_in z o.name) k.0 ∙ h))
      step false later h = later h

  pub each_signed : (ds : Declarations) (g : Setting) (t : ModuleType) (a : Adversary) (xs : Procedures X) (ys : Procedures Y) →
      ((s : Signature) → IsProcedureFor g (callable ds t s) a.footprint s (found a.procedures s.name) → R (typed_as s) (found xs s.name) (found ys s.name)) →
      (us : List Signature) → HasProcedures ds g t a us → Agree R (signature_types us) xs ys
  each_signed ds g t a xs ys one [] w n u e = absurd (none-some u e)
  each_signed ds g t a xs ys one (s ∷ us) w n u e = step (each_signed ds g t a xs ys one us w.1 n u) (bytes_eq n s.name) refl e
    where
      is_or : ProcedureType → Option ProcedureType → ProcedureType
      is_or v None = v
      is_or v (Some z) = z

      step : (found (signature_types us) n ≡ Some u → R u (found xs n) (found ys n)) → (b : Bool) → bytes_eq n s.name ≡ b →
          (if b then Some (typed_as s) else found (signature_types us) n) ≡ Some u → R u (found xs n) (found ys n)
      step later true h e =
          subst (λ z. R u (found xs z) (found ys z)) (sym ((bytes_eq-Decides n s.name).0 h))
          (subst (λ z. R z (found xs s.name) (found ys s.name)) (ap (is_or u) e) (one s w.0))
      step later false h e = later e

-- an oracle that a procedure may call has a signature
pub signed_called : (ds : Declarations) (t : ModuleType) (s : Signature) (o : Oracle) (u : Signature) → callable ds t s o ≡ Some u → oracle_signature ds t.params o ≡ Some u
signed_called ds t s o u = step (may_call s.oracles o)
  where
    step : (b : Bool) → (if b then oracle_signature ds t.params o else None) ≡ Some u → oracle_signature ds t.params o ≡ Some u
    step true e = e
    step false e = absurd (none-some u e)

module _ (g : Setting) (ds : Declarations) (types : Name → Option ModuleType) where
  -- The program of an abstract module, where its oracles are open or not.
  pub program_linked : (os : Oracles) (t : ModuleType) → SameParams ds types t.params → (w : World) (a : Adversary) → IsProgramFor ds g w t a →
      StandAlike (IsLinkedBy os) (of_functor_type (functor_type types (Some t))) (over_oracles t a) (with_oracles t a)
  program_linked os t same w a p fs gs k =
      each_signed (IsLinkedBy os) ds g t a (each_relinked f a.procedures) (each_linked qs a.procedures) one t.signatures p.procedures
    where
      f : Oracle → Option Callee
      f = oracle_of t.params (map (λ m. m []) fs)

      qs : Oracles
      qs = oracle_of t.params (map (λ m. m []) gs)

      answered : (s : Signature) (o : Oracle) (u : Signature) → callable ds t s o ≡ Some u → IsLinked os (f o) (qs o)
      answered s o u e =
          answers (IsLinkedBy os) ds types t.params (map (λ m. m []) fs) (map (λ m. m []) gs) same
          (given_each (IsLinkedBy os) (linked_narrow os)
          (map (λ q. signature_types (signatures_of (types q.ty))) t.params) fs gs k) o u (signed_called ds t s o u e)

      both : (s : Signature) (r : Option Routine) → IsProcedureFor g (callable ds t s) a.footprint s r →
          IsLinkedBy os (typed_as s) (option_map (linked_with f) r) (option_map (link_routine qs) r)
      both s None w = absurd w
      both s (Some r) w = routine_linked g (callable ds t s) os qs f (answered s) a.footprint r w.1

      one : (s : Signature) → IsProcedureFor g (callable ds t s) a.footprint s (found a.procedures s.name) →
          IsLinkedBy os (typed_as s) (found (each_relinked f a.procedures) s.name) (found (each_linked qs a.procedures) s.name)
      one s w =
          subst (λ z. IsLinkedBy os (typed_as s) z (found (each_linked qs a.procedures) s.name)) (sym (found_relinked f a.procedures s.name))
          (subst (IsLinkedBy os (typed_as s) (option_map (linked_with f) (found a.procedures s.name))) (sym (found-each_linked qs a.procedures s.name))
          (both s (found a.procedures s.name) w))

  -- .. and with other procedures for its oracles that are the same
  pub program_same : (t : ModuleType) → SameParams ds types t.params → (w : World) (a : Adversary) → IsProgramFor ds g w t a →
      StandAlike AreSame (of_functor_type (functor_type types (Some t))) (with_oracles t a) (with_oracles t a)
  program_same t same w a p fs gs k =
      each_signed AreSame ds g t a (each_linked os a.procedures) (each_linked qs a.procedures) one t.signatures p.procedures
    where
      os : Oracles
      os = oracle_of t.params (map (λ m. m []) fs)

      qs : Oracles
      qs = oracle_of t.params (map (λ m. m []) gs)

      answered : (s : Signature) (o : Oracle) (u : Signature) → callable ds t s o ≡ Some u → os o ≡ qs o
      answered s o u e =
          are_same (typed_as u) (os o) (qs o)
          (answers AreSame ds types t.params (map (λ m. m []) fs) (map (λ m. m []) gs) same
          (given_each AreSame same_narrow (map (λ q. signature_types (signatures_of (types q.ty))) t.params) fs gs k) o u (signed_called ds t s o u e))

      both : (s : Signature) (r : Option Routine) → IsProcedureFor g (callable ds t s) a.footprint s r →
          AreSame (typed_as s) (option_map (link_routine os) r) (option_map (link_routine qs) r)
      both s None w = absurd w
      both s (Some r) w = routine_same g (callable ds t s) os qs (answered s) a.footprint r w.1

      one : (s : Signature) → IsProcedureFor g (callable ds t s) a.footprint s (found a.procedures s.name) →
          AreSame (typed_as s) (found (each_linked os a.procedures) s.name) (found (each_linked qs a.procedures) s.name)
      one s w =
          subst (λ z. AreSame (typed_as s) z (found (each_linked qs a.procedures) s.name)) (sym (found-each_linked os a.procedures s.name))
          (subst (AreSame (typed_as s) (option_map (link_routine os) (found a.procedures s.name))) (sym (found-each_linked qs a.procedures s.name))
          (both s (found a.procedures s.name) w))

-- The abstract modules of a scope, of which the programs are read in two ways.

module _ (all : Declarations) (i : Interpretation) {X Y : Type 0} (R : ProcedureType → Option X → Option Y → Type 0)
    (left : Chosen → ModuleType → Applied X) (right : Chosen → ModuleType → Applied Y)
    (alike : (types : Name → Option ModuleType) (t : ModuleType) → SameParams all types t.params → (x : Chosen) → chosen_under i.programs x.bind.name ≡ Some x →
    IsProgramFor all (setting all i) i.world t x.program → StandAlike R (of_functor_type (functor_type types (Some t))) (left x t) (right x t))
    (bs : linked.Modules X) (at_left : (n : Name) (x : Chosen) → chosen_under i.programs n ≡ Some x → bs n ≡ left x (type_named all x.bind.ty))
    (cs : linked.Modules Y) (at_right : (n : Name) (x : Chosen) → chosen_under i.programs n ≡ Some x → cs n ≡ right x (type_named all x.bind.ty)) where
  abbrev g : Setting
  g = setting all i

  module _ (types : Name → Option ModuleType) (a : settings.Agree all types) (b : Bind) where
    of_type : (t : ModuleType) → types b.ty ≡ Some t → (x : Chosen) → chosen_under i.programs b.name ≡ Some x → IsChosenIf all i.programs g i.world b (Some x) →
        StandAlike R (of_functor_type (functor_type types (types b.ty))) (bs b.name) (cs b.name)
    of_type t e x c w =
        subst (λ o. StandAlike R (of_functor_type (functor_type types o)) (bs b.name) (cs b.name)) (sym e)
        (subst (λ z. StandAlike R (of_functor_type (functor_type types (Some t))) z (cs b.name)) (sym (at_left b.name x c ∙ ap (left x) its))
        (subst (StandAlike R (of_functor_type (functor_type types (Some t))) (left x t)) (sym (at_right b.name x c ∙ ap (right x) its))
        (alike types t (same_params all i types a t.params (a.params b.ty t e)) x (ap (chosen_under i.programs) (ap (λ z. z.name) w.0) ∙ c) (subst (λ z. IsProgramFor all g i.world z x.program) same w.1.program))))
      where
        same : type_named all b.ty ≡ t
        same = ap or_none (a.declared b.ty t e)

        its : type_named all x.bind.ty ≡ t
        its = ap (λ z. type_named all z.ty) w.0 ∙ same

    pub binder_alike : IsKnown (types b.ty) → IsChosenIf all i.programs g i.world b (chosen_under i.programs b.name) →
        StandAlike R (of_functor_type (functor_type types (types b.ty))) (bs b.name) (cs b.name)
    binder_alike k w = step (types b.ty) refl k (chosen_under i.programs b.name) refl w
      where
        step : (o : Option ModuleType) → types b.ty ≡ o → IsKnown o → (p : Option Chosen) → chosen_under i.programs b.name ≡ p → IsChosenIf all i.programs g i.world b p →
            StandAlike R (of_functor_type (functor_type types (types b.ty))) (bs b.name) (cs b.name)
        step None e k p c w = absurd k
        step (Some t) e k None c w = absurd w
        step (Some t) e k (Some x) c w = of_type t e x c w

  programs_alike : (ds before : Declarations) (c : Context) → before ++ ds ≡ all → AreTypedAfter c before ds → settings.Agree all c.modules.types → AreChosen all i (declared_modules ds) →
      AreAbstractAlike R c ds bs cs
  programs_alike [] before c e w a k = tt
  programs_alike ((n, module_type t) ∷ ds) before c e w a k =
      programs_alike ds (before ++ (n, module_type t) ∷ []) (with_declared c n (module_type t)) (next all i before (n, module_type t) ds e) w.2
      (let x = w.1 in with_next_type all i before n t ds e c a w.0 x.params) k
  programs_alike ((n, abstract_module b) ∷ ds) before c e w a k =
      ((let x = w.1.1 in binder_alike c.modules.types a b x.known k.0), programs_alike ds _ _ (next all i before (n, abstract_module b) ds e) w.2 a k.1)
  programs_alike ((n, abstract_type) ∷ ds) before c e w a k = programs_alike ds _ _ (next all i before (n, abstract_type) ds e) w.2 a k
  programs_alike ((n, abbreviation x) ∷ ds) before c e w a k = programs_alike ds _ _ (next all i before (n, abbreviation x) ds e) w.2 a k
  programs_alike ((n, operator o) ∷ ds) before c e w a k = programs_alike ds _ _ (next all i before (n, operator o) ds e) w.2 a k
  programs_alike ((n, abstract_operator o) ∷ ds) before c e w a k = programs_alike ds _ _ (next all i before (n, abstract_operator o) ds e) w.2 a k
  programs_alike ((n, concrete_module m) ∷ ds) before c e w a k = programs_alike ds _ _ (next all i before (n, concrete_module m) ds e) w.2 a k
  programs_alike ((n, axiom_of q) ∷ ds) before c e w a k = programs_alike ds _ _ (next all i before (n, axiom_of q) ds e) w.2 a k
  programs_alike ((n, lemma q) ∷ ds) before c e w a k = programs_alike ds _ _ (next all i before (n, lemma q) ds e) w.2 a k
  programs_alike ((n, terminating f) ∷ ds) before c e w a k = programs_alike ds _ _ (next all i before (n, terminating f) ds e) w.2 a k

  pub chosen_alike : IsTypedScope all → IsChosenOver all i → AreAbstractAlike R nothing all bs cs
  chosen_alike scoped chosen =
      programs_alike all [] nothing refl scoped (record { declared = λ n t e. absurd (none-some t e); params = λ n t e. absurd (none-some t e) }) chosen.chosen
