-- The footprints of the modules of a typed scope are the same over abstract modules that stand for the same, and have no abstract modules but these.
use Rattle.std.proofs.Common.{◌≡◌, inl, inr, Bool, true, false, if◌then◌else◌, List, [], ◌∷◌, ◌++◌, map, Option, Some, None, bytes_eq, refl, ap, sym, ◌∙◌, subst}
use Rattle.std.proofs.lemmas.Option.{none-some}
use Rattle.gb_core.specs.declared.var.Var.{Var}
use Rattle.gb_core.specs.declared.var.Var.TheVariants as var
use Rattle.gb_terms.specs.declared.decl.Module.{Module}
use Rattle.gb_terms.specs.declared.module.Bind.{Bind}
use Rattle.gb_meaning.specs.Names.{Name}
use Rattle.gb_meaning.specs.Program.{Oracle}
use Rattle.gb_meaning.specs.Adversary.{abstract_footprint, oracle_footprints, oracle_signature, oracles_called, or_none, signature_footprints, type_named}
use Rattle.gb_meaning.specs.Declared.{Declarations, ModuleType, module_type_of, Signature, abstract_type, abbreviation, operator, abstract_operator, module_type, concrete_module, abstract_module, axiom_of, lemma, terminating}
use Rattle.gb_meaning.specs.Footprints.{footprint_read, of_all, of_callee}
use Rattle.gb_meaning.specs.Holds.{declared_modules}
use Rattle.gb_meaning.specs.Linking.{oracle_of}
use Rattle.gb_meaning.specs.Modules.{Procedures, closed, found, module_read, modules_of}
use Rattle.gb_meaning.specs.Modules as linked
use Rattle.gb_meaning.specs.Settings.{Interpretation}
use Rattle.gb_typing.specs.Alike.{AreSigned, NameSigned, SameParams}
use Rattle.gb_typing.specs.Context.{Context}
use Rattle.gb_typing.specs.Formulas.{IsKnown}
use Rattle.gb_typing.specs.Modules.{FunctorType, Interface, ProcedureType, functor_type, of_functor_type, signature_types, signatures_of}
use Rattle.gb_typing.specs.Naming.{VariableNames}
use Rattle.gb_typing.specs.Programs.{locals_of}
use Rattle.gb_typing.specs.Scopes.{AreTypedAfter, IsTypedScope, context_of, interface_with, nothing, procedure_types, with_declared}
use Rattle.gb_typing.proofs.Calls.{each_call}
use Rattle.gb_typing.proofs.Known.{env, modules_here, there_here, typed_here}
use Rattle.gb_typing.proofs.ModulesAlike.{footprint-looks}
use Rattle.gb_typing.proofs.Settings.{next, same_params, with_next_type}
use Rattle.gb_typing.proofs.Settings as settings
use Rattle.gb_mods.specs.Called.{calls}
use Rattle.gb_arguments.specs.Reading.{KeepAlike}
use Rattle.gb_arguments.specs.Related.{AreAbstractAlike, AreAlike, IsNarrow, StandAlike}
use Rattle.gb_arguments.proofs.Chosen.{answers}
use Rattle.gb_arguments.proofs.Linked.{AnyContext, anywhere}
use Rattle.gb_arguments.proofs.ProgramVariables.{IsOf, touched_of}
use Rattle.gb_arguments.proofs.Readings.{given_each}
use Rattle.gb_arguments.proofs.Scopes.{scope_alike}
use Rattle.gb_arguments.proofs.Collecting.{each_called, each_in}
use Rattle.gb_arguments.proofs.Cover.{one_oracle}
use Rattle.gb_arguments.proofs.FootprintMembers.{either, has_behind, has_front}
use Rattle.gb_arguments.proofs.Members.{Has}
use Rattle.gb_arguments.proofs.Touches.{touched_splits}
use Rattle.gb_arguments.proofs.Whole.{empties, extra_procedures, in_declared}

pub found_has : (xs : Procedures (List Var)) (n : Name) (z : Var) → Has (of_callee (found xs n)) z → Has (of_all xs) z
found_has [] n z h = absurd h
found_has (x ∷ xs) n z h = step (bytes_eq n x.0) (found_has xs n z) h
  where
    step : (b : Bool) → (Has (of_callee (found xs n)) z → Has (of_all xs) z) → Has (of_callee (if b then Some x.1 else found xs n)) z → Has (x.1 ++ of_all xs) z
    step true go k = has_front x.1 (of_all xs) z k
    step false go k = has_behind x.1 (of_all xs) z (go k)

-- the abstract modules are in P
module _ (P : Name → Type 0) where
  abbrev AreNamed : List Var → Type 0
  AreNamed xs = (z : Var) → Has xs z → VariableNames P z

  -- the same footprint, which has abstract modules in P alone
  abbrev pub Same : ProcedureType → Option (List Var) → Option (List Var) → Type 0
  Same t x y = (x ≡ y) × AreNamed (of_callee x)

  same_narrow : IsNarrow Same
  same_narrow s t e x y w = w

  no_whole : (z : Var) → IsOf (λ m x. Unit {0}) z → VariableNames P z
  no_whole (var.Global m x) k = tt
  no_whole (var.Local x) k = tt
  no_whole (var.Glob a) k = absurd k

  reading_same : KeepAlike Same AnyContext footprint_read footprint_read
  reading_same c p u w f g called = (
    ap Some (footprint-looks f g p (each_call c (locals_of p) (λ r. f r ≡ g r) (λ r t e. (called r t e).0) p.body.list (let b = w.body in b.statements))),
    λ z h.
        either (λ o. no_whole z (touched_of (λ m x. Unit {0}) c (λ m x t e. tt) p w z o).0)
        (λ q. each_in (λ r. AreNamed (of_callee (f r))) (calls p.body.list)
        (each_called (λ r. AreNamed (of_callee (f r))) p.body.list
        (each_call c (locals_of p) (λ r. AreNamed (of_callee (f r))) (λ r t e. (called r t e).1) p.body.list (let b = w.body in b.statements))) q.0 q.1 z q.2)
        (touched_splits f p z h),
  )

  -- Abstract modules.
  module _ (D : Declarations) (t : ModuleType) (a : Name) (here : P a) (os qs : Oracle → Option (List Var))
      (all : (o : Oracle) (s : Signature) → oracle_signature D t.params o ≡ Some s → Same (record { params = s.params; result = s.result }) (os o) (qs o)) where
    one_same : (o : Oracle) → IsKnown (oracle_signature D t.params o) → (os o ≡ qs o) × AreNamed (of_callee (os o))
    one_same o k = step (oracle_signature D t.params o) refl k
      where
        step : (s : Option Signature) → oracle_signature D t.params o ≡ s → IsKnown s → (os o ≡ qs o) × AreNamed (of_callee (os o))
        step None e k = absurd k
        step (Some s) e k = all o s e

    oracles_same : (us : List Oracle) → AreSigned D t.params us → oracle_footprints os us ≡ oracle_footprints qs us
    oracles_same [] w = refl
    oracles_same (o ∷ us) w = λ i. of_callee ((one_same o w.0).0 i) ++ oracles_same us w.1 i

    one_named : (us : List Oracle) → AreSigned D t.params us → (o : Oracle) → Has us o → AreNamed (of_callee (os o))
    one_named [] w o h = absurd h
    one_named (u ∷ us) w o (inl e) = subst (λ x. AreNamed (of_callee (os x))) e (one_same u w.0).1
    one_named (u ∷ us) w o (inr h) = one_named us w.1 o h

    oracles_named : (us : List Oracle) → AreSigned D t.params us → AreNamed (var.Glob a ∷ oracle_footprints os us)
    oracles_named us w z (inl e) = subst (VariableNames P) e here
    oracles_named us w z (inr h) = let o = one_oracle os us z h in one_named us w o.0 o.1 z o.2

    signatures_same : (ss : List Signature) → NameSigned D t ss → (n : Name) (u : ProcedureType) → found (signature_types ss) n ≡ Some u →
        Same u (found (signature_footprints D a t os ss) n) (found (signature_footprints D a t qs ss) n)
    signatures_same [] w n u e = absurd (none-some u e)
    signatures_same (s ∷ ss) w n u e = step (bytes_eq n s.name) (signatures_same ss w.1 n u) e
      where
        step : (b : Bool) → (found (signature_types ss) n ≡ Some u → Same u (found (signature_footprints D a t os ss) n) (found (signature_footprints D a t qs ss) n)) →
            (if b then Some (let v : ProcedureType = record { params = s.params; result = s.result } in v) else found (signature_types ss) n) ≡ Some u →
            Same u (if b then Some (var.Glob a ∷ oracle_footprints os (oracles_called D t s)) else found (signature_footprints D a t os ss) n)
            (if b then Some (var.Glob a ∷ oracle_footprints qs (oracles_called D t s)) else found (signature_footprints D a t qs ss) n)
        step true go e = (ap (λ l. Some (var.Glob a ∷ l)) (oracles_same (oracles_called D t s) w.0), oracles_named (oracles_called D t s) w.0)
        step false go e = go e

  abstract_same : (D : Declarations) (types : Name → Option ModuleType) (t : ModuleType) → SameParams D types t.params → NameSigned D t t.signatures → (a : Name) → P a →
      StandAlike Same (of_functor_type (functor_type types (Some t))) (abstract_footprint D a t) (abstract_footprint D a t)
  abstract_same D types t same w a here fs gs k =
      signatures_same D t a here (oracle_of t.params (map (λ m. m []) fs)) (oracle_of t.params (map (λ m. m []) gs))
      (answers Same D types t.params (map (λ m. m []) fs) (map (λ m. m []) gs) same
      (given_each Same same_narrow (map (λ q. signature_types (signatures_of (types q.ty))) t.params) fs gs k)) t.signatures w

  module _ (D : Declarations) (base1 base2 : linked.Modules (List Var)) where
    -- an abstract module stands for the same, and is in P
    abbrev pub IsBoth : Bind → Type 0
    IsBoth b = (base1 b.name ≡ abstract_footprint D b.name (type_named D b.ty)) × (base2 b.name ≡ abstract_footprint D b.name (type_named D b.ty)) × P b.name

    abbrev pub AreBoth : List Bind → Type 0
    AreBoth [] = Unit {0}
    AreBoth (b ∷ bs) = IsBoth b × AreBoth bs

    module _ (i : Interpretation) (signed : (n : Name) (t : ModuleType) → module_type_of D n ≡ Some t → NameSigned D t t.signatures) where
      binder_same : (types : Name → Option ModuleType) → settings.Agree D types → (b : Bind) → IsKnown (types b.ty) → IsBoth b →
          StandAlike Same (of_functor_type (functor_type types (types b.ty))) (base1 b.name) (base2 b.name)
      binder_same types a b known w = step (types b.ty) refl known
        where
          step : (o : Option ModuleType) → types b.ty ≡ o → IsKnown o → StandAlike Same (of_functor_type (functor_type types o)) (base1 b.name) (base2 b.name)
          step None e k = absurd k
          step (Some t) e k =
              let is : type_named D b.ty ≡ t = ap or_none (a.declared b.ty t e) in
              subst (λ z. StandAlike Same (of_functor_type (functor_type types (Some t))) z (base2 b.name)) (sym (w.0 ∙ ap (abstract_footprint D b.name) is))
              (subst (StandAlike Same (of_functor_type (functor_type types (Some t))) (abstract_footprint D b.name t)) (sym (w.1 ∙ ap (abstract_footprint D b.name) is))
              (abstract_same D types t (same_params D i types a t.params (a.params b.ty t e)) (signed b.ty t (a.declared b.ty t e)) b.name w.2))

      each_same : (rest ds before : Declarations) (c : Context) → before ++ (ds ++ rest) ≡ D → AreTypedAfter c before ds → settings.Agree D c.modules.types → AreBoth (declared_modules ds) →
          AreAbstractAlike Same c ds base1 base2
      each_same rest [] before c e w a k = tt
      each_same rest ((n, abstract_module b) ∷ ds) before c e w a k = (
        (let x = w.1.1 in binder_same c.modules.types a b x.known k.0),
        each_same rest ds (before ++ (n, abstract_module b) ∷ []) (with_declared c n (abstract_module b)) (next D i before (n, abstract_module b) (ds ++ rest) e) w.2 a k.1,
      )
      each_same rest ((n, module_type t) ∷ ds) before c e w a k =
          each_same rest ds (before ++ (n, module_type t) ∷ []) (with_declared c n (module_type t)) (next D i before (n, module_type t) (ds ++ rest) e) w.2
          (let x = w.1 in with_next_type D i before n t (ds ++ rest) e c a w.0 x.params) k
      each_same rest ((n, abstract_type) ∷ ds) before c e w a k =
          each_same rest ds (before ++ (n, abstract_type) ∷ []) (with_declared c n abstract_type) (next D i before (n, abstract_type) (ds ++ rest) e) w.2 a k
      each_same rest ((n, abbreviation x) ∷ ds) before c e w a k =
          each_same rest ds (before ++ (n, abbreviation x) ∷ []) (with_declared c n (abbreviation x)) (next D i before (n, abbreviation x) (ds ++ rest) e) w.2 a k
      each_same rest ((n, operator x) ∷ ds) before c e w a k =
          each_same rest ds (before ++ (n, operator x) ∷ []) (with_declared c n (operator x)) (next D i before (n, operator x) (ds ++ rest) e) w.2 a k
      each_same rest ((n, abstract_operator x) ∷ ds) before c e w a k =
          each_same rest ds (before ++ (n, abstract_operator x) ∷ []) (with_declared c n (abstract_operator x)) (next D i before (n, abstract_operator x) (ds ++ rest) e) w.2 a k
      each_same rest ((n, concrete_module x) ∷ ds) before c e w a k =
          each_same rest ds (before ++ (n, concrete_module x) ∷ []) (with_declared c n (concrete_module x)) (next D i before (n, concrete_module x) (ds ++ rest) e) w.2 a k
      each_same rest ((n, axiom_of x) ∷ ds) before c e w a k =
          each_same rest ds (before ++ (n, axiom_of x) ∷ []) (with_declared c n (axiom_of x)) (next D i before (n, axiom_of x) (ds ++ rest) e) w.2 a k
      each_same rest ((n, lemma x) ∷ ds) before c e w a k =
          each_same rest ds (before ++ (n, lemma x) ∷ []) (with_declared c n (lemma x)) (next D i before (n, lemma x) (ds ++ rest) e) w.2 a k
      each_same rest ((n, terminating x) ∷ ds) before c e w a k =
          each_same rest ds (before ++ (n, terminating x) ∷ []) (with_declared c n (terminating x)) (next D i before (n, terminating x) (ds ++ rest) e) w.2 a k

      no_types : settings.Agree D (nothing.modules).types
      no_types = record { declared = λ n t e. absurd (none-some t e); params = λ n t e. absurd (none-some t e) }

      -- abstract modules that are in P stand for the same in a scope
      pub abstract_alike : (front rest : Declarations) → front ++ rest ≡ D → IsTypedScope front → AreBoth (declared_modules front) → AreAbstractAlike Same nothing front base1 base2
      abstract_alike front rest e w k = each_same rest front [] nothing e w no_types k

  -- modules without procedures are the same
  nothing_same : {A : Type 0} (type_of : A → FunctorType) (ps : List A) → AreAlike Same (map type_of ps) (map (λ p. closed []) ps) (map (λ p. closed []) ps)
  nothing_same type_of [] = tt
  nothing_same type_of (p ∷ ps) = (λ xs ys k n t q. (refl, λ z h. absurd h), nothing_same type_of ps)

  -- What the procedures of a declared module touch, where its parameters are open.
  module _ (before : Declarations) (n : Name) (m : Module) (after : Declarations) (scoped : IsTypedScope (before ++ (n, concrete_module m) ∷ after))
      (base1 base2 : linked.Modules (List Var)) (alike : AreAbstractAlike Same nothing (before ++ (n, concrete_module m) ∷ after) base1 base2) where
    abbrev front : Declarations
    front = before ++ (n, concrete_module m) ∷ after

    abbrev one : linked.Modules (List Var)
    one = modules_of footprint_read base1 front

    abbrev two : linked.Modules (List Var)
    two = modules_of footprint_read base2 front

    abbrev its : Interface
    its = interface_with (context_of before).modules.types m.params (procedure_types m.procs)

    stands : StandAlike Same its (one n) (two n)
    stands =
        scope_alike Same same_narrow AnyContext footprint_read footprint_read reading_same front scoped (anywhere front nothing) base1 base2 alike n its
        (there_here before after n m scoped)

    extra : (base : linked.Modules (List Var)) → modules_of footprint_read base front n (empties m.params) ≡ modules_of footprint_read base front n []
    extra base =
        let is : modules_of footprint_read base front n ≡ module_read footprint_read (env before after n m scoped footprint_read base) m = modules_here before after n m scoped footprint_read base in
        (λ j. is j (empties m.params)) ∙ extra_procedures footprint_read (env before after n m scoped footprint_read base) m [] m.params (λ args. []) refl m.procs ∙ (λ j. sym is j [])

    pub whole_same : (z : Var) → Has (of_all (two n [])) z → Has (of_all (one n [])) z × VariableNames P z
    whole_same z h =
        let is : two n ≡ module_read footprint_read (env before after n m scoped footprint_read base2) m = modules_here before after n m scoped footprint_read base2 in
        let w = typed_here before after n m scoped in
        let x = in_declared [] (env before after n m scoped footprint_read base2) (context_of before) m w.procs z (subst (λ (a : linked.Applied (List Var)). Has (of_all (a [])) z) is h) in
        let k = stands (empties m.params) (empties m.params) (nothing_same (λ p. functor_type (context_of before).modules.types ((context_of before).modules.types p.ty)) m.params) x.0 x.1.0 x.1.1 in
        let e : found (one n []) x.0 ≡ found (two n []) x.0 = ap (λ l. found l x.0) (sym (extra base1)) ∙ k.0 ∙ ap (λ l. found l x.0) (extra base2) in
        let there : Has (of_callee (found (one n []) x.0)) z =
        subst (λ o. Has (of_callee o) z) (sym e) (subst (λ (a : linked.Applied (List Var)). Has (of_callee (found (a []) x.0)) z) (sym is) x.2) in
        (found_has (one n []) x.0 z there, k.1 z (subst (λ l. Has (of_callee (found l x.0)) z) (sym (extra base1)) there))
