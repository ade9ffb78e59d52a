-- The open program of a module expression, linked with modules for the parameters that it leaves open, is the module with these arguments.
use Rattle.std.proofs.Common.{◌≡◌, true, List, [], ◌∷◌, map, Option, Some, None, option_map, refl, ap, sym, subst}
use Rattle.std.proofs.lemmas.Option.{none-some}
use Rattle.gb_terms.specs.declared.module.Mexp.{Mexp}
use Rattle.gb_meaning.specs.Names.{Name}
use Rattle.gb_meaning.specs.Program.{Routine}
use Rattle.gb_meaning.specs.Setting.{Setting}
use Rattle.gb_meaning.specs.Adversary.{with_oracles}
use Rattle.gb_meaning.specs.Declared.{Declarations, ModuleType}
use Rattle.gb_meaning.specs.Linking.{Oracles, link_routine, linked_procedure, oracle_of}
use Rattle.gb_meaning.specs.Modules.{Procedures, Functor, Applied, argument, closed, found, module_at, modules_of, no_module}
use Rattle.gb_meaning.specs.Modules as linked
use Rattle.gb_meaning.specs.Settings.{Chosen, Interpretation, linked_modules, setting, with_abstract_programs}
use Rattle.gb_meaning.proofs.EachProgram.{found-each_linked}
use Rattle.gb_typing.specs.Alike.{SameParams, applied_at}
use Rattle.gb_typing.specs.Chosen.{IsChosenOver}
use Rattle.gb_typing.specs.Modules.{ProcedureType, fits, functor_type, interface_at, of_functor_type, without_lacks}
use Rattle.gb_typing.specs.Scopes.{nothing, context_of, IsTypedScope}
use Rattle.gb_typing.proofs.KeptPrograms.{linked_is}
use Rattle.gb_typing.proofs.Settings.{agree_at, chosen_program, same_params}
use Rattle.gb_typing.proofs.Settings as settings
use Rattle.gb_arguments.specs.Opened.{Callee, asked_modules, open_modules, open_procedure, open_program, over_oracles, routines_in, with_open_programs}
use Rattle.gb_arguments.specs.Programs.{AreSame, IsLinkedBy}
use Rattle.gb_arguments.specs.Related.{Agree, AreAllAlike, AreAlike, StandAlike}
use Rattle.gb_arguments.proofs.Asked.{as_callee, asked_of, expression_routines, found_routine, params_asked}
use Rattle.gb_arguments.proofs.Chosen.{chosen_alike, open_chosen, open_is, program_linked}
use Rattle.gb_arguments.proofs.Expressions.{closed_argument}
use Rattle.gb_arguments.proofs.Linked.{AnyContext, anywhere, linked_narrow, reading_linked}
use Rattle.gb_arguments.proofs.OwnParams.{own_params}
use Rattle.gb_arguments.proofs.Scopes.{scope_stands}

module _ (ds : Declarations) (scoped : IsTypedScope ds) (i : Interpretation) (chosen : IsChosenOver ds i) (h : Setting) where
  abbrev cs : List Chosen
  cs = i.programs

  abbrev opened : linked.Modules Callee
  opened = open_modules ds cs

  abbrev closed_modules : linked.Modules Routine
  closed_modules = linked_modules ds h cs

  abbrev bottom : linked.Modules Callee
  bottom = with_open_programs ds cs (λ k. no_module)

  abbrev base : linked.Modules Routine
  base = with_abstract_programs ds cs (λ k. no_module)

  -- all modules of the scope, open and linked
  pub all_linked : (os : Oracles) → AreAllAlike (IsLinkedBy os) (context_of ds).modules opened closed_modules
  all_linked os =
      scope_stands (IsLinkedBy os) (linked_narrow os) AnyContext open_procedure (linked_procedure h) (reading_linked os h) ds scoped (anywhere ds nothing) bottom base
      (chosen_alike ds i (IsLinkedBy os) (λ x t. over_oracles t x.program) (λ x t. with_oracles t x.program)
      (λ types t same x e p. program_linked (setting ds i) ds types os t same i.world x.program p)
      bottom (λ n x e. open_chosen ds cs (λ k. no_module) n x e) base (λ n x e. chosen_program ds cs (λ k. no_module) n x e) scoped chosen)
      opened closed_modules (λ k j e. open_is ds cs chosen.unchosen k) (λ k j e. linked_is ds h cs chosen.unchosen k)

  no_types : settings.Agree ds (nothing.modules).types
  no_types = record { declared = λ n t e. absurd (none-some t e); params = λ n t e. absurd (none-some t e) }

  types_agree : settings.Agree ds (context_of ds).modules.types
  types_agree = agree_at ds i ds [] nothing refl scoped no_types

  module _ (m : Mexp) (n : Name) (t : ModuleType) (known : (context_of ds).modules.types n ≡ Some t)
      (fit : fits (interface_at (context_of ds).modules m) (functor_type (context_of ds).modules.types (Some t)) ≡ true) where
    abbrev types : Name → Option ModuleType
    types = (context_of ds).modules.types

    same : SameParams ds types t.params
    same = same_params ds i types types_agree t.params (let a = types_agree in a.params n t known)

    module _ (fs gs : List (Functor Routine)) (w : AreAlike AreSame (map without_lacks (asked_of types t.params)) fs gs) where
      abbrev os : Oracles
      os = oracle_of t.params (map (λ f. f []) fs)

      abbrev its : Procedures Callee
      its = module_at opened m (asked_modules ds t.params)

      asks : AreAlike (IsLinkedBy os) (map without_lacks (asked_of types t.params)) (map closed (asked_modules ds t.params)) gs
      asks = params_asked ds types t.params same (own_params ds scoped n t known) fs gs w

      closed_again : (xs : List (Procedures Callee)) → map (λ f. f []) (map closed xs) ≡ xs
      closed_again [] = refl
      closed_again (x ∷ xs) = ap (λ z. x ∷ z) (closed_again xs)

      -- what the module makes of open parameters, linked, is what it makes of the arguments
      pub its_linked : Agree (IsLinkedBy os) (let u = functor_type types (Some t) in u.procedures) its (applied_at closed_modules m gs)
      its_linked =
          subst (λ z. Agree (IsLinkedBy os) (let u = functor_type types (Some t) in u.procedures) (module_at opened m z) (applied_at closed_modules m gs)) (closed_again (asked_modules ds t.params))
          (closed_argument (IsLinkedBy os) (linked_narrow os) (context_of ds).modules opened closed_modules (all_linked os) m (functor_type types (Some t)) fit
          (map closed (asked_modules ds t.params)) gs asks)

      one : (f : Name) (u : ProcedureType) (a b : Option Routine) → IsLinkedBy os u (as_callee a) b → AreSame u (option_map (link_routine os) a) b
      one f u (Some r) (Some s) e = e
      one f u (Some r) None e = absurd e
      one f u None b e = absurd e

      pub program_agrees : Agree AreSame (let u = functor_type types (Some t) in u.procedures) (with_oracles t (open_program ds i t m) fs) (applied_at closed_modules m gs)
      program_agrees f u e =
          subst (λ z. AreSame u z (found (applied_at closed_modules m gs) f)) (sym (found-each_linked os (routines_in its) f))
          (one f u (found (routines_in its) f) (found (applied_at closed_modules m gs) f)
          (subst (λ z. IsLinkedBy os u z (found (applied_at closed_modules m gs) f)) (found_routine its (expression_routines ds cs m (asked_modules ds t.params)) f)
          (its_linked f u e)))

    -- The open program, as a module that is chosen, is the module.
    pub open_is_linked : StandAlike AreSame (of_functor_type (functor_type types (Some t))) (with_oracles t (open_program ds i t m)) (applied_at closed_modules m)
    open_is_linked fs gs w = program_agrees fs gs w
