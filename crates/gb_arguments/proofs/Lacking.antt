-- What a module expression touches where no modules are given for what it lacks is what it touches with modules without procedures.
use Rattle.std.proofs.Common.{◌≡◌, Bool, true, false, List, [], ◌∷◌, ◌++◌, map, None, if◌then◌else◌, bytes_eq, refl, ap, sym, ◌∙◌}
use Rattle.std.proofs.lemmas.List.{append-nil}
use Rattle.gb_core.specs.declared.var.Var.{Var}
use Rattle.gb_terms.specs.declared.decl.Module.{Module}
use Rattle.gb_terms.specs.declared.decl.Param.{Param}
use Rattle.gb_terms.specs.declared.decl.Proc.{Proc}
use Rattle.gb_terms.specs.declared.module.Mexp.{Mexp}
use Rattle.gb_terms.specs.declared.module.Mexp.TheVariants.{Name as named, Apply'}
use Rattle.gb_meaning.specs.Adversary.{abstract_footprint, signature_footprints, type_named}
use Rattle.gb_meaning.specs.Declared.{Declarations, ModuleType, abstract_type, abbreviation, operator, abstract_operator, module_type, concrete_module, abstract_module, axiom_of, lemma, terminating}
use Rattle.gb_meaning.specs.Footprints.{footprint_read}
use Rattle.gb_meaning.specs.Linking.{oracle_of}
use Rattle.gb_meaning.specs.Modules.{Applied, Functor, Modules, Procedures, Reading, argument, closed, found, module_at, module_read, modules_at, modules_of, no_module, procedure_at, with_module, with_params, with_procedure, with_procedures}
use Rattle.gb_meaning.specs.Names.{Name}
use Rattle.gb_meaning.specs.Program.{Oracle}
use Rattle.gb_meaning.specs.Settings.{Chosen, footprints, with_abstract_footprints}
use Rattle.gb_typing.specs.Alike.{applied_at}

module _ {X : Type 0} where
  -- a module without procedures for each parameter
  abbrev pub none_for : List Param → List (Procedures X)
  none_for ps = map (λ p. []) ps

  -- it makes the same of further modules without procedures as of none
  abbrev pub IsFilled : Applied X → Type 0
  IsFilled a = (fs : List (Functor X)) (qs : List Param) → a (fs ++ map closed (none_for qs)) ≡ a fs

  params_filled : (ms : Modules X) (ps : List Param) (fs : List (Functor X)) (qs : List Param) → with_params ms ps (fs ++ map closed (none_for qs)) ≡ with_params ms ps fs
  params_filled ms [] fs qs = refl
  params_filled ms (p ∷ ps) [] [] = refl
  params_filled ms (p ∷ ps) [] (q ∷ qs) = ap (λ z. with_module z p.name no_module) (params_filled ms ps [] qs)
  params_filled ms (p ∷ ps) (f ∷ fs) qs = ap (λ z. with_module z p.name (argument f)) (params_filled ms ps fs qs)

  module _ (read : Reading X) (ms : Modules X) (m : Module) where
    each_filled : (a : Applied X) → IsFilled a → (ps : List Proc) → IsFilled (with_procedures read ms m a ps)
    each_filled a h [] = h
    each_filled a h (p ∷ ps) =
        each_filled (with_procedure read ms m a p)
        (λ fs qs i. h fs qs i ++ (p.name, read (procedure_at (params_filled (with_module ms m.name a) m.params fs qs i)) p) ∷ []) ps

    module_filled : IsFilled (module_read read ms m)
    module_filled = each_filled no_module (λ fs qs. refl) m.procs

  if_filled : (b : Bool) (a c : Applied X) → IsFilled a → IsFilled c → IsFilled (if b then a else c)
  if_filled true a c h k = h
  if_filled false a c h k = k

  modules_filled : (read : Reading X) (ds : Declarations) (ms : Modules X) → ((n : Name) → IsFilled (ms n)) → (n : Name) → IsFilled (modules_of read ms ds n)
  modules_filled read [] ms h = h
  modules_filled read ((k, concrete_module m) ∷ ds) ms h =
      modules_filled read ds (with_module ms k (module_read read ms m)) (λ n. if_filled (bytes_eq n k) (module_read read ms m) (ms n) (module_filled read ms m) (h n))
  modules_filled read ((k, abstract_type) ∷ ds) ms h = modules_filled read ds ms h
  modules_filled read ((k, abbreviation a) ∷ ds) ms h = modules_filled read ds ms h
  modules_filled read ((k, operator o) ∷ ds) ms h = modules_filled read ds ms h
  modules_filled read ((k, abstract_operator o) ∷ ds) ms h = modules_filled read ds ms h
  modules_filled read ((k, module_type t) ∷ ds) ms h = modules_filled read ds ms h
  modules_filled read ((k, abstract_module b) ∷ ds) ms h = modules_filled read ds ms h
  modules_filled read ((k, axiom_of q) ∷ ds) ms h = modules_filled read ds ms h
  modules_filled read ((k, lemma q) ∷ ds) ms h = modules_filled read ds ms h
  modules_filled read ((k, terminating f) ∷ ds) ms h = modules_filled read ds ms h

  none_given : (ps : List Param) (o : Oracle) → oracle_of {X = X} ps [] o ≡ None
  none_given [] o = refl
  none_given (p ∷ ps) o = refl

  oracles_filled : (ps : List Param) (fs : List (Functor X)) (qs : List Param) (o : Oracle) → oracle_of ps (map (λ m. m []) (fs ++ map closed (none_for qs))) o ≡ oracle_of ps (map (λ m. m []) fs) o
  oracles_filled [] fs qs o = refl
  oracles_filled (p ∷ ps) [] [] o = refl
  oracles_filled (p ∷ ps) [] (q ∷ qs) o = step (bytes_eq o.parameter p.name) (oracles_filled ps [] qs o ∙ none_given ps o)
    where
      step : (b : Bool) → oracle_of ps (map (λ m. m []) (map closed (none_for qs))) o ≡ None →
          (if b then None else oracle_of ps (map (λ m. m []) (map closed (none_for qs))) o) ≡ None
      step true later = refl
      step false later = later
  oracles_filled (p ∷ ps) (f ∷ fs) qs o = ap (λ z. if bytes_eq o.parameter p.name then found (f []) o.name else z) (oracles_filled ps fs qs o)

  -- what stands for a module expression with modules without procedures, and with none
  pub expression_filled : (ms : Modules X) → ((n : Name) → IsFilled (ms n)) → (m : Mexp) (qs : List Param) → applied_at ms m (map closed (none_for qs)) ≡ module_at ms m []
  expression_filled ms h (named n) qs = h n [] qs
  expression_filled ms h (Apply' n k args) qs = h n (modules_at ms args) qs ∙ ap (ms n) (sym (append-nil (modules_at ms args)))

abstract_filled : (ds : Declarations) (a : Name) (t : ModuleType) → IsFilled (abstract_footprint ds a t)
abstract_filled ds a t fs qs = λ i. signature_footprints ds a t (λ o. oracles_filled t.params fs qs o i) t.signatures

chosen_filled : (ds : Declarations) (cs : List Chosen) (ms : Modules (List Var)) → ((n : Name) → IsFilled (ms n)) → (n : Name) → IsFilled (with_abstract_footprints ds cs ms n)
chosen_filled ds [] ms h = h
chosen_filled ds (c ∷ cs) ms h = λ n.
    if_filled (bytes_eq n c.bind.name) (abstract_footprint ds c.bind.name (type_named ds c.bind.ty)) (with_abstract_footprints ds cs ms n)
    (abstract_filled ds c.bind.name (type_named ds c.bind.ty)) (chosen_filled ds cs ms h n)

pub footprints_filled : (ds : Declarations) (cs : List Chosen) → (n : Name) → IsFilled (footprints ds cs n)
footprints_filled ds cs =
    chosen_filled ds cs (modules_of footprint_read (with_abstract_footprints ds cs (λ n. no_module)) ds)
    (modules_filled footprint_read ds (with_abstract_footprints ds cs (λ n. no_module)) (chosen_filled ds cs (λ n. no_module) (λ n fs qs. refl)))
