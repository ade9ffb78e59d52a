-- The open program of a module expression is typed by the signatures of its module type, within the expression's footprint.
use Rattle.std.proofs.Common.{◌≡◌, Bool, true, false, List, [], ◌∷◌, ◌++◌, map, Option, Some, None, if◌then◌else◌, bytes_eq, refl, ap, subst}
use Rattle.std.proofs.lemmas.Option.{none-some, same_Some}
use Rattle.gb_core.specs.declared.var.Var.{Var}
use Rattle.gb_terms.specs.declared.module.Mexp.{Mexp}
use Rattle.gb_laws.specs.Context as laws
use Rattle.gb_meaning.specs.Adversary.{abstract_footprint, callable, may_call, oracle_signature}
use Rattle.gb_meaning.specs.Declared.{Declarations, ModuleType, Signature}
use Rattle.gb_meaning.specs.Footprints.{footprint, footprint_read, of_all, own_entry}
use Rattle.gb_meaning.specs.Modules.{Procedures, argument, closed, found, module_at, no_module}
use Rattle.gb_meaning.specs.Modules as linked
use Rattle.gb_meaning.specs.Names.{Name}
use Rattle.gb_meaning.specs.Program.{Oracle, Routine}
use Rattle.gb_meaning.specs.Programs.{AreIn, HasProcedures, IfThere, IsProcedureFor}
use Rattle.gb_meaning.specs.Setting.{Setting}
use Rattle.gb_meaning.specs.Settings.{Chosen, Interpretation, declared_globals, footprints, is_chosen, program_footprint, setting, types_of, with_abstract_footprints}
use Rattle.gb_meaning.specs.Values.{Global}
use Rattle.gb_typing.specs.Alike.{SameParams}
use Rattle.gb_typing.specs.Chosen.{FitAt, IsChosenOver, chosen_under}
use Rattle.gb_typing.specs.Context.{Context, erased}
use Rattle.gb_typing.specs.Modules.{ProcedureType, fits, functor_type, interface_at, signature_types}
use Rattle.gb_typing.specs.Naming.{NoName}
use Rattle.gb_typing.specs.Scopes.{nothing, context_of, IsTypedScope}
use Rattle.gb_typing.specs.Speaking.{ScopeSpeaks}
use Rattle.gb_typing.proofs.ClosedSettings.{chosen_footprint, touched_is}
use Rattle.gb_typing.proofs.Settings.{agree_at, same_params}
use Rattle.gb_typing.proofs.Settings as settings
use Rattle.gb_arguments.specs.Opened.{Callee, asked_modules, open_modules, open_procedure, open_program, over_oracles, routines_in, with_open_programs}
use Rattle.gb_arguments.specs.Programs.{AskNamed, RoutineAsks}
use Rattle.gb_arguments.specs.Related.{Agree, AreAllAlike}
use Rattle.gb_arguments.specs.Typed.{AreWithin, IsKnownIn, IsPlainIn, IsTypedBy}
use Rattle.gb_arguments.proofs.Asked.{as_callee, expression_routines, found_routine}
use Rattle.gb_arguments.proofs.Chosen.{chosen_alike, open_chosen, open_is, typed_as}
use Rattle.gb_arguments.proofs.Expressed.{all_expressed}
use Rattle.gb_arguments.proofs.Expressions.{closed_argument}
use Rattle.gb_arguments.proofs.Held.{entries_within, found_within}
use Rattle.gb_arguments.proofs.Inside.{all_inside}
use Rattle.gb_arguments.proofs.Lacking.{expression_filled, footprints_filled, none_for}
use Rattle.gb_arguments.proofs.OwnParams.{AreFound, own_params, own_signatures}
use Rattle.gb_arguments.proofs.Scopes.{scope_stands}
use Rattle.gb_arguments.proofs.Signed.{params_typed, program_typed, signed_own}
use Rattle.gb_arguments.proofs.Typed.{called_typed_by, ordered_within, reading_typed, rest_within, typed_narrow}

-- the footprint of a program is that of its name
footprint_under : (cs : List Chosen) (n : Name) (x : Chosen) → chosen_under cs n ≡ Some x → program_footprint cs n ≡ x.program.footprint
footprint_under [] n x e = absurd (none-some x e)
footprint_under (c ∷ cs) n x e = step (bytes_eq n c.bind.name) (footprint_under cs n x) e
  where
    step : (b : Bool) → (chosen_under cs n ≡ Some x → program_footprint cs n ≡ x.program.footprint) → (if b then Some c else chosen_under cs n) ≡ Some x →
        (if b then c.program.footprint else program_footprint cs n) ≡ x.program.footprint
    step true later e = ap (λ z. z.program.footprint) (same_Some c x e)
    step false later e = later e

first_fit : (g : Setting) (c : Context) (ds : Declarations) → FitAt g c ds → laws.IsSettingOf (erased c) g
first_fit g c [] f = f
first_fit g c (d ∷ ds) f = f.0

module _ (ds : Declarations) (scoped : IsTypedScope ds) (speaks : ScopeSpeaks NoName ds) (i : Interpretation) (chosen : IsChosenOver ds i) (fit : FitAt (setting ds i) nothing ds)
    (known : AreIn i.world (declared_globals ds)) where
  abbrev cs : List Chosen
  cs = i.programs

  abbrev g : Setting
  g = setting ds i

  abbrev pf : Name → List Global
  pf = program_footprint cs

  abbrev opened : linked.Modules Callee
  opened = open_modules ds cs

  abbrev touched_by : linked.Modules (List Var)
  touched_by = footprints ds cs

  no_types : settings.Agree ds (nothing.modules).types
  no_types = record { declared = λ n t e. absurd (none-some t e); params = λ n t e. absurd (none-some t e) }

  types_agree : settings.Agree ds (context_of ds).modules.types
  types_agree = agree_at ds i ds [] nothing refl scoped no_types

  module _ (ss : Oracle → Option Signature) (gs : List Global) where
    abbrev R : ProcedureType → Option Callee → Option (List Var) → Type 0
    R = IsTypedBy g ss i.world pf gs

    -- all modules of the scope
    all_typed : AreAllAlike R (context_of ds).modules opened touched_by
    all_typed =
        scope_stands R (typed_narrow g ss i.world pf gs) (IsPlainIn g i.world) open_procedure footprint_read
        (reading_typed g ss i.world pf gs (IsKnownIn g i.world) (all_expressed g ss i.world pf gs (let s = first_fit g nothing ds fit in s.inhabited))) ds scoped
        (all_inside g i.world ds [] nothing scoped fit speaks known (λ m x u e. absurd (none-some u e)) (λ n o e. absurd (none-some o e)))
        (with_open_programs ds cs (λ k. no_module)) (with_abstract_footprints ds cs (λ k. no_module))
        (chosen_alike ds i R (λ x t. over_oracles t x.program) (λ x t. abstract_footprint ds x.bind.name t)
        (λ types t same x e p. program_typed g ss i.world pf gs ds types t same x.bind.name x.program (footprint_under cs x.bind.name x e) p)
        (with_open_programs ds cs (λ k. no_module)) (λ n x e. open_chosen ds cs (λ k. no_module) n x e)
        (with_abstract_footprints ds cs (λ k. no_module)) (λ n x e. chosen_footprint ds cs (λ k. no_module) n x e) scoped chosen)
        opened touched_by (λ k j e. open_is ds cs chosen.unchosen k) (λ k j e. touched_is ds cs chosen.unchosen k)

  module _ (m : Mexp) (n : Name) (t : ModuleType) (there : (context_of ds).modules.types n ≡ Some t)
      (fitting : fits (interface_at (context_of ds).modules m) (functor_type (context_of ds).modules.types (Some t)) ≡ true) where
    abbrev types : Name → Option ModuleType
    types = (context_of ds).modules.types

    abbrev ss : Oracle → Option Signature
    ss = oracle_signature ds t.params

    abbrev gs : List Global
    gs = (types_of ds i).footprint m

    abbrev its : Procedures Callee
    its = module_at opened m (asked_modules ds t.params)

    abbrev touched : Procedures (List Var)
    touched = module_at touched_by m []

    same : SameParams ds types t.params
    same = same_params ds i types types_agree t.params (let a = types_agree in a.params n t there)

    closed_again : (xs : List (Procedures Callee)) → map (λ f. f []) (map closed xs) ≡ xs
    closed_again [] = refl
    closed_again (x ∷ xs) = ap (λ z. x ∷ z) (closed_again xs)

    -- what the module makes of open parameters
    its_typed : Agree (R ss gs) (signature_types t.signatures) its touched
    its_typed =
        subst (λ z. Agree (R ss gs) (signature_types t.signatures) (module_at opened m z) touched) (closed_again (asked_modules ds t.params))
        (subst (Agree (R ss gs) (signature_types t.signatures) (argument (module_at opened m) (map closed (asked_modules ds t.params)))) (expression_filled touched_by (footprints_filled ds cs) m t.params)
        (closed_argument (R ss gs) (typed_narrow g ss i.world pf gs) (context_of ds).modules opened touched_by (all_typed ss gs) m (functor_type types (Some t)) fitting
        (map closed (asked_modules ds t.params)) (map closed (none_for t.params))
        (params_typed g ss i.world pf gs ds types t.params (signed_own g i.world pf gs ds types t.params (own_params ds scoped n t there)) same)))

    -- all that its procedures touch is within its footprint
    its_within : AreWithin i.world pf gs (of_all touched)
    its_within =
        rest_within g ss i.world pf gs (own_entry (is_chosen cs) m) (of_all touched)
        (ordered_within g ss i.world pf gs (own_entry (is_chosen cs) m ++ of_all touched) (entries_within i.world pf (footprint touched_by (is_chosen cs) m)))

    one_typed : (s : Signature) → found (signature_types t.signatures) s.name ≡ Some (typed_as s) → IfThere (RoutineAsks (λ o. may_call s.oracles o ≡ true)) (found (routines_in its) s.name) →
        IsProcedureFor g (callable ds t s) gs s (found (routines_in its) s.name)
    one_typed s e =
        step (found (routines_in its) s.name) (found touched s.name) refl
        (subst (λ z. R ss gs (typed_as s) z (found touched s.name)) (found_routine its (expression_routines ds cs m (asked_modules ds t.params)) s.name) (its_typed s.name (typed_as s) e))
      where
        step : (r : Option Routine) (y : Option (List Var)) → found touched s.name ≡ y → R ss gs (typed_as s) (as_callee r) y → IfThere (RoutineAsks (λ o. may_call s.oracles o ≡ true)) r →
            IsProcedureFor g (callable ds t s) gs s r
        step (Some r) (Some xs) h k asks =
            let z = k (found_within g ss i.world pf gs touched its_within s.name xs h) in
            ((z.0, z.1), called_typed_by ds t s g gs r z.2 asks)
        step (Some r) None h k asks = absurd k
        step None y h k asks = absurd k

    each_typed : (us : List Signature) → AreFound t.signatures us → AskNamed (open_program ds i t m) us → HasProcedures ds g t (open_program ds i t m) us
    each_typed [] f a = tt
    each_typed (s ∷ us) f a = (one_typed s f.0 a.0, each_typed us f.1 a.1)

    pub open_is_typed : AskNamed (open_program ds i t m) t.signatures → HasProcedures ds g t (open_program ds i t m) t.signatures
    open_is_typed a = each_typed t.signatures (own_signatures ds scoped n t there) a
