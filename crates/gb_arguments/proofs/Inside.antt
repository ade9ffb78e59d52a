-- The procedures of a typed scope whose modules take no module's globals together, each in a context inside of its module.
use Rattle.std.proofs.Common.{◌≡◌, Bool, true, false, List, [], ◌∷◌, ◌++◌, Option, Some, if◌then◌else◌, bytes_eq, refl, ap, sym, ◌∙◌, subst}
use Rattle.std.proofs.lemmas.Option.{none-some, same_Some}
use Rattle.std.proofs.lemmas.Slice.Eq.{bytes_eq-Decides}
use Rattle.gb_core.specs.declared.ty.Ty.{Ty}
use Rattle.gb_core.specs.declared.ty.Ty.TheVariants as ty
use Rattle.gb_terms.specs.declared.decl.Module.{Module}
use Rattle.gb_terms.specs.declared.decl.Proc.{Proc}
use Rattle.gb_terms.specs.declared.decl.TypedName.{TypedName}
use Rattle.gb_meaning.specs.Declared.{Declarations, abstract_type, abbreviation, operator, abstract_operator, module_type, concrete_module, abstract_module, axiom_of, lemma, terminating}
use Rattle.gb_meaning.specs.Globs.{IsGlobless}
use Rattle.gb_meaning.specs.Names.{Name}
use Rattle.gb_meaning.specs.Programs.{AreIn}
use Rattle.gb_meaning.specs.Setting.{Setting}
use Rattle.gb_meaning.specs.Settings.{declared_globals, globals_from}
use Rattle.gb_meaning.specs.Typing.{global_type}
use Rattle.gb_meaning.specs.Values.{Global, World}
use Rattle.gb_meaning.specs.Written.{local_type}
use Rattle.gb_meaning.proofs.PlainTypes.{plain_glob}
use Rattle.gb_laws.specs.Context as laws
use Rattle.gb_laws.specs.Finite.{IsFinite, IsVariableType}
use Rattle.gb_laws.specs.Typing.{OperatorType}
use Rattle.gb_typing.specs.Chosen.{FitAt}
use Rattle.gb_typing.specs.Context.{Context, erased}
use Rattle.gb_typing.specs.Naming.{NoName}
use Rattle.gb_typing.specs.Scopes.{AreTypedAfter, IsMeasured, IsResult, operator_type, with_declared, with_globals, with_operator}
use Rattle.gb_typing.specs.Speaking.{ProceduresSpeak, ScopeSpeaks}
use Rattle.gb_typing.proofs.Variables.{variable_plain}
use Rattle.gb_arguments.specs.Reading.{AreInModule, AreInside}
use Rattle.gb_arguments.specs.Typed.{IsPlainIn}
use Rattle.gb_arguments.proofs.Expressed.{GivesGlobless}

variable_globless : (t : Ty) → IsVariableType t → IsGlobless t
variable_globless t v = plain_glob (λ m. ⊥) t (variable_plain t v)

-- what an operator gives is a value of a type of variables, if it is one
result_variable : (t : Ty) → IsResult t → IsFinite t → IsVariableType t
result_variable (ty.Distr' p x) r f = absurd f
result_variable ty.Int r f = absurd f
result_variable ty.Real r f = absurd f
result_variable _ r f = r

measured_variable : (t : Ty) → IsMeasured t → IsFinite t → IsVariableType t
measured_variable ty.Int r f = absurd f
measured_variable ty.Real r f = absurd f
measured_variable _ r f = r

with_result : (c : Context) (n : Name) (o : OperatorType) → GivesGlobless c → (IsFinite o.result → IsGlobless o.result) → GivesGlobless (with_operator c n o)
with_result c n o k r m p = step (bytes_eq m n)
  where
    step : (b : Bool) → (if b then Some o else c.operator m) ≡ Some p → IsFinite p.result → IsGlobless p.result
    step true e = subst (λ z. IsFinite z.result → IsGlobless z.result) (same_Some o p e) r
    step false e = k m p e

module _ (g : Setting) (w : World) where
  abbrev AreGlobals : (Name → Name → Option Ty) → Type 0
  AreGlobals f = (m x : Name) (u : Ty) → f m x ≡ Some u → global_type w m x ≡ Some u

  own_global : (n : Name) (ls : List TypedName) (rest : List Global) → AreIn w (globals_from n ls ++ rest) → (x : Name) (u : Ty) → local_type ls x ≡ Some u → global_type w n x ≡ Some u
  own_global n [] rest a x u e = absurd (none-some u e)
  own_global n (l ∷ ls) rest a x u e = step (bytes_eq x l.name) refl e (own_global n ls rest a.1 x u)
    where
      step : (b : Bool) → bytes_eq x l.name ≡ b → (if b then Some l.ty else local_type ls x) ≡ Some u → (local_type ls x ≡ Some u → global_type w n x ≡ Some u) → global_type w n x ≡ Some u
      step true h e later = ap (global_type w n) ((bytes_eq-Decides x l.name).0 h) ∙ a.0 ∙ e
      step false h e later = later e

  own_rest : (n : Name) (ls : List TypedName) (rest : List Global) → AreIn w (globals_from n ls ++ rest) → AreIn w rest
  own_rest n [] rest a = a
  own_rest n (l ∷ ls) rest a = own_rest n ls rest a.1

  more_globals : (f : Name → Name → Option Ty) → AreGlobals f → (n : Name) (ls : List TypedName) (rest : List Global) → AreIn w (globals_from n ls ++ rest) →
      (k : Name) → k ≡ n → AreGlobals (with_globals f k ls)
  more_globals f a n ls rest i k q m x u e = step (bytes_eq m k) refl e
    where
      step : (b : Bool) → bytes_eq m k ≡ b → (if b then local_type ls x else f m x) ≡ Some u → global_type w m x ≡ Some u
      step true h e = subst (λ z. global_type w z x ≡ Some u) (sym ((bytes_eq-Decides m k).0 h ∙ q)) (own_global n ls rest i x u e)
      step false h e = a m x u e

  module _ (c : Context) (m : Module) (globals : AreGlobals (with_globals c.global m.name m.globals)) (fit : laws.IsSettingOf (erased c) g) (gives : GivesGlobless c) where
    procedures_inside : (ps : List Proc) → ProceduresSpeak NoName ps → AreInModule (IsPlainIn g w) c m ps
    procedures_inside [] s = tt
    procedures_inside (p ∷ ps) s = (
      (λ ts. (
        record {
          globals = globals;
          operators = record { inhabited = fit.inhabited; operators = fit.operators; distributions = fit.distributions };
          results = gives;
        },
        s.0,
      )),
      procedures_inside ps s.1,
    )

  pub all_inside : (ds before : Declarations) (c : Context) → AreTypedAfter c before ds → FitAt g c ds → ScopeSpeaks NoName ds → AreIn w (declared_globals ds) → AreGlobals c.global → GivesGlobless c →
      AreInside (IsPlainIn g w) c ds
  all_inside [] before c k f s i a r = tt
  all_inside ((n, concrete_module m) ∷ ds) before c k f s i a r = (
    procedures_inside c m (more_globals c.global a n m.globals (declared_globals ds) i m.name (let x = k.1 in x.name)) f.0 r m.procs s.0,
    all_inside ds _ (with_declared c n (concrete_module m)) k.2 f.1 s.1 (own_rest n m.globals (declared_globals ds) i)
        (more_globals c.global a n m.globals (declared_globals ds) i n refl) r,
  )
  all_inside ((n, operator o) ∷ ds) before c k f s i a r =
      all_inside ds _ (with_declared c n (operator o)) k.2 f.1 s.1 i a
      (with_result c n (operator_type o) r (λ t. variable_globless (operator_type o).result (result_variable (operator_type o).result (let x = k.1 in x.result) t)))
  all_inside ((n, abstract_operator o) ∷ ds) before c k f s i a r =
      all_inside ds _ (with_declared c n (abstract_operator o)) k.2 f.1 s.1 i a
      (with_result c n (record { params = o.params; result = o.result }) r (λ t. variable_globless o.result (measured_variable o.result k.1.1 t)))
  all_inside ((n, module_type t) ∷ ds) before c k f s i a r = all_inside ds _ (with_declared c n (module_type t)) k.2 f.1 s.1 i a r
  all_inside ((n, abstract_module b) ∷ ds) before c k f s i a r = all_inside ds _ (with_declared c n (abstract_module b)) k.2 f.1 s.1 i a r
  all_inside ((n, abstract_type) ∷ ds) before c k f s i a r = all_inside ds _ _ k.2 f.1 s.1 i a r
  all_inside ((n, abbreviation x) ∷ ds) before c k f s i a r = all_inside ds _ _ k.2 f.1 s.1 i a r
  all_inside ((n, axiom_of q) ∷ ds) before c k f s i a r = all_inside ds _ _ k.2 f.1 s.1 i a r
  all_inside ((n, lemma q) ∷ ds) before c k f s i a r = all_inside ds _ _ k.2 f.1 s.1 i a r
  all_inside ((n, terminating q) ∷ ds) before c k f s i a r = all_inside ds _ _ k.2 f.1 s.1 i a r
