-- A module that is given open names stands for the module that lacks its parameters.
use Rattle.std.proofs.Common.{◌≡◌, if◌then◌else◌, Bool, true, false, List, [], ◌∷◌, ◌++◌, append-nil, map, None, refl, ap, sym, ◌∙◌}
use Rattle.std.specs.Prelude.{bytes_eq}
use Rattle.std.proofs.Math.Path.{fun_ext}
use mathlib.Core.Former.{Count}
use Rattle.gb_core.specs.declared.var.Var.{Var}
use Rattle.gb_terms.specs.declared.decl.Module.{Module}
use Rattle.gb_terms.specs.declared.decl.Param.{Param}
use Rattle.gb_terms.specs.declared.decl.Proc.{Proc}
use Rattle.gb_terms.specs.declared.module.Mexp.{Mexp, Row_of-Mexp, end_of-Mexp, more_of-Mexp, items-the_row-Mexp, items_hidden-the_row-Mexp-0}
use Rattle.gb_terms.specs.declared.module.Mexp.TheBlock as B
use Rattle.gb_terms.specs.declared.module.Mexp.TheVariants.{Name as named, Apply'}
use Rattle.gb_terms.specs.Rows.{mexps_in}
use Rattle.gb_goal.specs.Instances.{given_more, name_of}
use Rattle.gb_meaning.specs.Adversary.{abstract_footprint, signature_footprints}
use Rattle.gb_meaning.specs.Declared.{Declarations, ModuleType}
use Rattle.gb_meaning.specs.Linking.{oracle_of}
use Rattle.gb_meaning.specs.Modules.{Applied, Functor, Modules, Reading, argument, closed, found, module_at, module_read, modules_at, no_module, procedure_at, with_module, with_params, with_procedure, with_procedures}
use Rattle.gb_meaning.specs.Names.{Name}
use Rattle.gb_meaning.specs.Program.{Oracle}
use Rattle.gb_mods.specs.Meets.{left_open, open_name}
use Rattle.gb_arguments.proofs.AbstractNodes.{applied_is, given as given_modules}

-- a module without procedures, for each parameter
abbrev pub none : Functor (List Var)
none l = []

abbrev pub nones : List Param → List (Functor (List Var))
nones ls = map (λ q. none) ls

params_nones : (ms : Modules (List Var)) (ps : List Param) (fs : List (Functor (List Var))) (ls : List Param) → with_params ms ps (fs ++ nones ls) ≡ with_params ms ps fs
params_nones ms [] fs ls = refl
params_nones ms (p ∷ ps) [] [] = refl
params_nones ms (p ∷ ps) [] (l ∷ ls) = ap (λ k. with_module k p.name no_module) (params_nones ms ps [] ls)
params_nones ms (p ∷ ps) (f ∷ fs) ls = ap (λ k. with_module k p.name (argument f)) (params_nones ms ps fs ls)

module _ (read : Reading (List Var)) (ms : Modules (List Var)) (m : Module) (fs : List (Functor (List Var))) (ls : List Param) where
  procedures_nones : (e : Applied (List Var)) → e (fs ++ nones ls) ≡ e fs → (ps : List Proc) → with_procedures read ms m e ps (fs ++ nones ls) ≡ with_procedures read ms m e ps fs
  procedures_nones e q [] = q
  procedures_nones e q (p ∷ ps) =
      procedures_nones (with_procedure read ms m e p)
      (λ i. q i ++ (p.name, read (procedure_at (params_nones (with_module ms m.name e) m.params fs ls i)) p) ∷ []) ps

  pub read_nones : module_read read ms m (fs ++ nones ls) ≡ module_read read ms m fs
  read_nones = procedures_nones no_module refl m.procs

oracles_none : (ps : List Param) (ls : List Param) (o : Oracle) → oracle_of ps (map (λ (f : Functor (List Var)). f []) (nones ls)) o ≡ None
oracles_none [] ls o = refl
oracles_none (p ∷ ps) [] o = refl
oracles_none (p ∷ ps) (l ∷ ls) o = step (bytes_eq o.parameter p.name) (oracles_none ps ls o)
  where
    step : (b : Bool) → oracle_of ps (map (λ (f : Functor (List Var)). f []) (nones ls)) o ≡ None → (if b then None else oracle_of ps (map (λ (f : Functor (List Var)). f []) (nones ls)) o) ≡ None
    step true k = refl
    step false k = k

no_oracle : (ps : List Param) (o : Oracle) → oracle_of {X = List Var} ps [] o ≡ None
no_oracle [] o = refl
no_oracle (p ∷ ps) o = refl

oracles_nones : (ps : List Param) (fs : List (Functor (List Var))) (ls : List Param) (o : Oracle) →
    oracle_of ps (map (λ (f : Functor (List Var)). f []) (fs ++ nones ls)) o ≡ oracle_of ps (map (λ (f : Functor (List Var)). f []) fs) o
oracles_nones ps [] ls o = oracles_none ps ls o ∙ sym (no_oracle ps o)
oracles_nones [] (f ∷ fs) ls o = refl
oracles_nones (p ∷ ps) (f ∷ fs) ls o = ap (λ z. if bytes_eq o.parameter p.name then found (f []) o.name else z) (oracles_nones ps fs ls o)

pub abstract_nones : (ds : Declarations) (a : Name) (t : ModuleType) (fs : List (Functor (List Var))) (ls : List Param) → abstract_footprint ds a t (fs ++ nones ls) ≡ abstract_footprint ds a t fs
abstract_nones ds a t fs ls = ap (λ os. signature_footprints ds a t os t.signatures) (fun_ext (oracles_nones t.params fs ls))

-- Module expressions.

module _ (ms : Modules (List Var)) where
  row_items : {n : Count} (r : Row_of-Mexp n) → modules_at ms r ≡ map (module_at ms) (items-the_row-Mexp _ r)
  row_items end_of-Mexp = refl
  row_items (more_of-Mexp m r) = ap (λ z. module_at ms m ∷ z) (row_items r)

  row_listed : {n : Count} (r : Row_of-Mexp n) (es : List Mexp) → map (module_at ms) (mexps_in r ++ es) ≡ modules_at ms r ++ map (module_at ms) es
  row_listed end_of-Mexp es = refl
  row_listed (more_of-Mexp m r) es = ap (λ z. module_at ms m ∷ z) (row_listed r es)

  list_items : (es : List Mexp) → modules_at ms (B.hidden-the_row-Mexp-0 es) ≡ map (module_at ms) es
  list_items es = row_items (B.hidden-the_row-Mexp-0 es) ∙ ap (map (module_at ms)) (items_hidden-the_row-Mexp-0 es)

  abbrev pub AreNone : List Param → Type 0
  AreNone [] = Unit {0}
  AreNone (q ∷ qs) = (ms (open_name q.name) ≡ no_module) × AreNone qs

  pub opens_none : (ls : List Param) → AreNone ls → map (module_at ms) (left_open ls) ≡ nones ls
  opens_none [] f = refl
  opens_none (q ∷ ls) f = λ i. (λ l. f.0 i (map closed l)) ∷ opens_none ls f.1 i

  -- .. that are given more
  pub given_more_modules : (e : Mexp) (es : List Mexp) → module_at ms (given_more e es) [] ≡ ms (name_of e) (given_modules ms e ++ map (module_at ms) es)
  given_more_modules e [] = applied_is ms e ∙ ap (ms (name_of e)) (sym (append-nil (given_modules ms e)))
  given_more_modules (named n) (x ∷ es) = ap (ms n) (append-nil _ ∙ list_items (x ∷ es))
  given_more_modules (Apply' n k args) (x ∷ es) =
      ap (ms n) (append-nil _ ∙ list_items (mexps_in args ++ x ∷ es) ∙ row_listed args (x ∷ es) ∙ ap (λ z. z ++ map (module_at ms) (x ∷ es)) (sym (append-nil (modules_at ms args))))
