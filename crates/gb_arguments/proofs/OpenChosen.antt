-- Programs of abstract modules give the same for arguments that are alike, also where their oracles stay open.
use Rattle.std.proofs.Common.{◌≡◌, List, [], ◌∷◌, ◌++◌, map, Option, Some, None, option_map, refl, ap, sym, ◌∙◌, subst}
use Rattle.std.proofs.lemmas.Option.{none-some}
use Rattle.gb_core.specs.declared.var.Var.{Var}
use Rattle.gb_terms.specs.declared.module.Bind.{Bind}
use Rattle.gb_terms.specs.declared.term.Term.{Term}
use Rattle.gb_meaning.specs.Names.{Name}
use Rattle.gb_meaning.specs.Program.{Program, Routine, Oracle}
use Rattle.gb_meaning.specs.Program.Program.{done, assign, sample, branch, loop, call, ask}
use Rattle.gb_meaning.specs.Program.Routine.{routine}
use Rattle.gb_meaning.specs.Setting.{Setting}
use Rattle.gb_meaning.specs.Values.{Global, World}
use Rattle.gb_meaning.specs.Adversary.{Adversary, callable, or_none, type_named}
use Rattle.gb_meaning.specs.Declared.{Declarations, ModuleType, Signature, abstract_type, abbreviation, operator, abstract_operator, module_type, concrete_module, abstract_module, axiom_of, lemma, terminating}
use Rattle.gb_meaning.specs.Holds.{declared_modules}
use Rattle.gb_meaning.specs.Linking.{oracle_of}
use Rattle.gb_meaning.specs.Modules.{found, no_module}
use Rattle.gb_meaning.specs.Modules as linked_in
use Rattle.gb_meaning.specs.Programs.{IsProcedureFor, IsProgramFor}
use Rattle.gb_meaning.specs.Settings.{Chosen, Interpretation, setting}
use Rattle.gb_meaning.specs.Typing.{IsTyped, IsTypedRoutine, Names}
use Rattle.gb_typing.specs.Alike.{AreAbstractAlike, SameParams, StandAlike}
use Rattle.gb_typing.specs.Chosen.{AreChosen, IsChosenIf, IsChosenOver, chosen_under}
use Rattle.gb_typing.specs.Context.{Context}
use Rattle.gb_typing.specs.Formulas.{IsKnown}
use Rattle.gb_typing.specs.Modules.{functor_type, of_functor_type, signature_types, signatures_of}
use Rattle.gb_typing.specs.Scopes.{AreTypedAfter, IsTypedScope, nothing, with_declared}
use Rattle.gb_typing.proofs.ProgramsAlike.{answers}
use Rattle.gb_typing.proofs.ReadingsAlike.{given_each}
use Rattle.gb_typing.proofs.Settings.{next, same_params, with_next_type}
use Rattle.gb_typing.proofs.Settings as settings
use Rattle.gb_arguments.specs.Opened.{Callee, linked, answered_by, each_relinked, over_oracles, relink, relink_routine, with_open_programs}
use Rattle.gb_arguments.proofs.Chosen.{each_signed, open_chosen, signed_called}
use Rattle.gb_arguments.proofs.Linked.{found_relinked, linked_with}

-- what answers the same for all oracles that a program may call
module _ (g : Setting) (ss : Oracle → Option Signature) (f h : Oracle → Option Callee) (all : (o : Oracle) (s : Signature) → ss o ≡ Some s → f o ≡ h o) where
  asked : (n : Names) (xs : List Var) (o : Oracle) (es : List Term) (s : Option Signature) → ss o ≡ s → IsTyped g (λ p. s) n (ask xs o es done) → f o ≡ h o
  asked n xs o es None e w = absurd w.0
  asked n xs o es (Some u) e w = all o u e

  mutual
    relinked_same : (n : Names) (c : Program) → IsTyped g ss n c → relink f c ≡ relink h c
    relinked_same n done w = refl
    relinked_same n (assign xs e c) w = λ i. assign xs e (relinked_same n c w.2 i)
    relinked_same n (sample x d c) w = λ i. sample x d (relinked_same n c w.1 i)
    relinked_same n (branch e a b c) w = λ i. branch e (relinked_same n a w.1 i) (relinked_same n b w.2 i) (relinked_same n c w.3 i)
    relinked_same n (loop e v a c) w = λ i. loop e v (relinked_same n a w.2 i) (relinked_same n c w.3 i)
    relinked_same n (call xs r es c) w = λ i. call xs (routine_same n.globals r w.0 i) es (relinked_same n c w.3 i)
    relinked_same n (ask xs o es c) w = λ i. answered_by (asked n xs o es (ss o) refl (w.0, tt) i) xs o es (relinked_same n c w.1 i)

    routine_same : (gs : List Global) (r : Routine) → IsTypedRoutine g ss gs r → relink_routine f r ≡ relink_routine h r
    routine_same gs (routine ps ls c r) w = λ i. routine ps ls (relinked_same _ c w.1 i) r

-- the program, with modules for its parameters
module _ (g : Setting) (ds : Declarations) (types : Name → Option ModuleType) (t : ModuleType) (same : SameParams ds types t.params) (w : World) (a : Adversary) (p : IsProgramFor ds g w t a) where
  module _ (f h : Oracle → Option Callee) (all : (s : Signature) (o : Oracle) (u : Signature) → callable ds t s o ≡ Some u → f o ≡ h o) where
    both : (s : Signature) (r : Option Routine) → IsProcedureFor g (callable ds t s) a.footprint s r → option_map (linked_with f) r ≡ option_map (linked_with h) r
    both s None x = absurd x
    both s (Some r) x = ap (λ z. Some (linked z)) (routine_same g (callable ds t s) f h (all s) a.footprint r x.1)

    one : (s : Signature) → IsProcedureFor g (callable ds t s) a.footprint s (found a.procedures s.name) → found (each_relinked f a.procedures) s.name ≡ found (each_relinked h a.procedures) s.name
    one s x = found_relinked f a.procedures s.name ∙ both s (found a.procedures s.name) x ∙ sym (found_relinked h a.procedures s.name)

  program_alike : StandAlike (of_functor_type (functor_type types (Some t))) (over_oracles t a) (over_oracles t a)
  program_alike fs gs k =
      let f : Oracle → Option Callee = oracle_of t.params (map (λ m. m []) fs) in
      let h : Oracle → Option Callee = oracle_of t.params (map (λ m. m []) gs) in
      each_signed (λ u x y. x ≡ y) ds g t a (each_relinked f a.procedures) (each_relinked h a.procedures)
      (one f h
      (λ s o u e. answers ds types t.params (map (λ m. m []) fs) (map (λ m. m []) gs) same (given_each (map (λ q. signature_types (signatures_of (types q.ty))) t.params) fs gs k) o u
      (signed_called ds t s o u e))) t.signatures p.procedures

-- Over declarations.

module _ (all : Declarations) (i : Interpretation) where
  abbrev g : Setting
  g = setting all i

  abbrev pub bottom : linked_in.Modules Callee
  bottom = with_open_programs all i.programs (λ k. no_module)

  module _ (types : Name → Option ModuleType) (a : settings.Agree all types) (b : Bind) where
    of_type : (t : ModuleType) → types b.ty ≡ Some t → (x : Chosen) → chosen_under i.programs b.name ≡ Some x → IsChosenIf all i.programs g i.world b (Some x) →
        StandAlike (of_functor_type (functor_type types (types b.ty))) (bottom b.name) (bottom b.name)
    of_type t e x c w =
        let same : type_named all b.ty ≡ t = ap or_none (a.declared b.ty t e) in
        subst (λ z. StandAlike (of_functor_type (functor_type types (types b.ty))) z z)
        (sym (open_chosen all i.programs (λ k. no_module) b.name x c ∙ ap (λ (z : Bind). over_oracles (type_named all z.ty) x.program) w.0 ∙ ap (λ z. over_oracles z x.program) same))
        (subst (λ o. StandAlike (of_functor_type (functor_type types o)) (over_oracles t x.program) (over_oracles t x.program)) (sym e)
        (program_alike g all types t (same_params all i types a t.params (a.params b.ty t e)) i.world x.program (subst (λ z. IsProgramFor all g i.world z x.program) same w.1.program)))

    binder_alike : IsKnown (types b.ty) → IsChosenIf all i.programs g i.world b (chosen_under i.programs b.name) → StandAlike (of_functor_type (functor_type types (types b.ty))) (bottom b.name) (bottom b.name)
    binder_alike k w = step (types b.ty) refl k (chosen_under i.programs b.name) refl w
      where
        step : (o : Option ModuleType) → types b.ty ≡ o → IsKnown o → (p : Option Chosen) → chosen_under i.programs b.name ≡ p → IsChosenIf all i.programs g i.world b p →
            StandAlike (of_functor_type (functor_type types (types b.ty))) (bottom b.name) (bottom b.name)
        step None e k p c w = absurd k
        step (Some t) e k None c w = absurd w
        step (Some t) e k (Some x) c w = of_type t e x c w

  programs_alike : (ds before : Declarations) (c : Context) → before ++ ds ≡ all → AreTypedAfter c before ds → settings.Agree all c.modules.types → AreChosen all i (declared_modules ds) →
      AreAbstractAlike c ds bottom bottom
  programs_alike [] before c e w a k = tt
  programs_alike ((n, module_type t) ∷ ds) before c e w a k =
      programs_alike ds (before ++ (n, module_type t) ∷ []) (with_declared c n (module_type t)) (next all i before (n, module_type t) ds e) w.2
      (let x = w.1 in with_next_type all i before n t ds e c a w.0 x.params) k
  programs_alike ((n, abstract_module b) ∷ ds) before c e w a k =
      ((let x = w.1.1 in binder_alike c.modules.types a b x.known k.0), programs_alike ds _ _ (next all i before (n, abstract_module b) ds e) w.2 a k.1)
  programs_alike ((n, abstract_type) ∷ ds) before c e w a k = programs_alike ds _ _ (next all i before (n, abstract_type) ds e) w.2 a k
  programs_alike ((n, abbreviation x) ∷ ds) before c e w a k = programs_alike ds _ _ (next all i before (n, abbreviation x) ds e) w.2 a k
  programs_alike ((n, operator o) ∷ ds) before c e w a k = programs_alike ds _ _ (next all i before (n, operator o) ds e) w.2 a k
  programs_alike ((n, abstract_operator o) ∷ ds) before c e w a k = programs_alike ds _ _ (next all i before (n, abstract_operator o) ds e) w.2 a k
  programs_alike ((n, concrete_module m) ∷ ds) before c e w a k = programs_alike ds _ _ (next all i before (n, concrete_module m) ds e) w.2 a k
  programs_alike ((n, axiom_of q) ∷ ds) before c e w a k = programs_alike ds _ _ (next all i before (n, axiom_of q) ds e) w.2 a k
  programs_alike ((n, lemma q) ∷ ds) before c e w a k = programs_alike ds _ _ (next all i before (n, lemma q) ds e) w.2 a k
  programs_alike ((n, terminating f) ∷ ds) before c e w a k = programs_alike ds _ _ (next all i before (n, terminating f) ds e) w.2 a k

  -- abstract modules with open oracles
  pub open_alike : IsTypedScope all → IsChosenOver all i → AreAbstractAlike nothing all bottom bottom
  open_alike scoped chosen =
      programs_alike all [] nothing refl scoped (record { declared = λ n t e. absurd (none-some t e); params = λ n t e. absurd (none-some t e) }) chosen.chosen
