-- Typed scopes have models.
use Rattle.std.proofs.Common.{◌≡◌, ℕ, ◌<◌, false, if◌then◌else◌, List, [], ◌∷◌, ◌++◌, map, Option, Some, None, bytes_eq, refl, sym, ap, ◌∙◌, subst, arith}
use Rattle.std.proofs.lemmas.Bool.{false≢true}
use Rattle.std.proofs.lemmas.List.{append_assoc}
use Rattle.std.specs.Prelude.{pos}
use Rattle.gb_core.specs.declared.ty.Ty.{Ty}
use Rattle.gb_core.specs.declared.ty.Ty.TheVariants as ty
use Rattle.gb_core.specs.declared.value.Value.{Value}
use Rattle.gb_goal.specs.Scope as scope
use Rattle.gb_goal.specs.declared.scope.Entry.TheVariants as entry
use Rattle.gb_meaning.specs.Names.{Name}
use Rattle.gb_meaning.specs.Meanings.{nothing}
use Rattle.gb_meaning.specs.Values.{World, Types, first}
use Rattle.gb_meaning.specs.Setting.{Meaning}
use Rattle.gb_meaning.specs.Setting.Meaning.{finite, whole, fraction}
use Rattle.gb_meaning.specs.Declared.{Declarations, Declaration, AbstractOperator, abstract_operator, declared}
use Rattle.gb_meaning.specs.Programs.{AreOnce}
use Rattle.gb_meaning.specs.Settings.{Table, Interpretation, types_of, declared_globals}
use Rattle.gb_meaning.specs.Holds.{IsResult, GiveResults, AxiomsAreTrue, interpretation, declared_modules, Holds}
use Rattle.gb_laws.specs.Finite.{AreVariables, IsInhabited}
use Rattle.gb_laws.proofs.Sizes.{first_has}
use Rattle.gb_typing.specs.Context.{Context}
use Rattle.gb_typing.specs.Scopes.{IsMeasured, is_declared, AreTypedAfter, IsTypedScope}
use Rattle.gb_typing.specs.Scopes.{nothing as nothing_declared}
use Rattle.gb_typing.proofs.Globals.{or_false}
use Rattle.gb_typing.proofs.Scripts.{itself}
use Rattle.gb_typing.proofs.Variables.{variable_finite}
use Rattle.gb_typing.proofs.Once.{types_inhabited}
use Rattle.gb_elab_laws.specs.Falsehood.{falsehood}
use Rattle.gb_elab_laws.specs.Promised.{HasModel}
use Rattle.gb_elab_laws.specs.Speaking.{IsFirmScope}
use Rattle.gb_elab_laws.proofs.Falsehood.{no_lemma}
use Rattle.gb_elab_laws.proofs.Globals.{globals_once, globals_variables, world_types, in_own_world}
use Rattle.gb_elab_laws.proofs.Staying.{no_section_in}

pub no_section : (ds : scope.Declarations) → IsFirmScope ds → declared_modules (declared ds) ≡ []
no_section ds firm = no_section_in (declared ds) firm

no_axioms : (all : Declarations) (ds : scope.Declarations) (i : Interpretation) → AxiomsAreTrue all (declared ds) i
no_axioms all [] i = tt
no_axioms all ((n, entry.Module m) ∷ ds) i = no_axioms all ds i
no_axioms all ((n, entry.Lemma q order) ∷ ds) i = no_axioms all ds i
no_axioms all ((n, entry.Type t) ∷ ds) i = no_axioms all ds i
no_axioms all ((n, entry.AbstractType) ∷ ds) i = no_axioms all ds i
no_axioms all ((n, entry.ModuleType y) ∷ ds) i = no_axioms all ds i
no_axioms all ((n, entry.AbstractModule y) ∷ ds) i = no_axioms all ds i
no_axioms all ((n, entry.Constant a) ∷ ds) i = no_axioms all ds i
no_axioms all ((n, entry.Operator o) ∷ ds) i = no_axioms all ds i
no_axioms all ((n, entry.AbstractOperator o) ∷ ds) i = no_axioms all ds i
no_axioms all ((n, entry.Terminating a) ∷ ds) i = no_axioms all ds i

-- Operators without a body give first values of their results, or 0.

first_meaning : Types → Ty → Meaning
first_meaning ts ty.Int = whole (pos 0)
first_meaning ts ty.Real = fraction (pos 0, 1)
first_meaning ts t = finite (first ts t)

first_result : (ts : Types) → IsInhabited ts → (t : Ty) → IsMeasured t → IsResult ts t (first_meaning ts t)
unfolding first_meaning
first_result ts i ty.Int w = tt
first_result ts i ty.Real w = omega arith
first_result ts i ty.Unit w = first_has ts i ty.Unit w
first_result ts i ty.Bool w = first_has ts i ty.Bool w
first_result ts i (ty.Bits n) w = first_has ts i (ty.Bits n) w
first_result ts i (ty.Mod n) w = first_has ts i (ty.Mod n) w
first_result ts i (ty.Enumeration name n) w = first_has ts i (ty.Enumeration name n) w
first_result ts i (ty.Tuple' n us) w = first_has ts i (ty.Tuple' n us) (variable_finite (ty.Tuple' n us) w)
first_result ts i (ty.Opt' p x) w = first_has ts i (ty.Opt' p x) (variable_finite (ty.Opt' p x) w)
first_result ts i (ty.Map' p k q x) w = first_has ts i (ty.Map' p k q x) (variable_finite (ty.Map' p k q x) w)
first_result ts i (ty.Abstract name) w = first_has ts i (ty.Abstract name) w
first_result ts i (ty.Glob name) w = absurd (false≢true w)
first_result ts i (ty.Distr' p x) w = absurd w

-- the result of an operator without a body, where the name is one of such an operator
result_of : Option Declaration → Ty
result_of (Some (abstract_operator o)) = o.result
result_of _ = ty.Unit

-- what is declared first under a name
first_declared : Declarations → Name → Option Declaration
first_declared [] n = None
first_declared (d ∷ ds) n = if bytes_eq n d.0 then Some d.1 else first_declared ds n

declared_here : (before : Declarations) (n : Name) (d : Declaration) (after : Declarations) → is_declared before n ≡ false →
    first_declared (before ++ (n, d) ∷ after) n ≡ Some d
unfolding first_declared
declared_here [] n d after e = ap (λ b. if b then Some d else first_declared after n) (itself n)
declared_here (x ∷ before) n d after e =
    let f = or_false (bytes_eq n x.0) (is_declared before n) e in
    ap (λ b. if b then Some x.1 else first_declared (before ++ (n, d) ∷ after) n) f.0 ∙ declared_here before n d after f.1

table : Declarations → Types → Table
table ds ts n = record { result = λ xs. first_meaning ts (result_of (first_declared ds n)); denominator = 1 }

module _ (all : Declarations) (ts : Types) (inhabited : IsInhabited ts) where
  here : (before : Declarations) (n : Name) (o : AbstractOperator) (after : Declarations) → before ++ (n, abstract_operator o) ∷ after ≡ all →
      is_declared before n ≡ false → IsMeasured o.result → (vs : List Value) → IsResult ts o.result ((table all ts n).result (map finite vs))
  unfolding table result_of
  here before n o after e free w vs =
      subst (λ d. IsResult ts o.result (first_meaning ts (result_of d)))
      (sym (ap (λ ds. first_declared ds n) (sym e) ∙ declared_here before n (abstract_operator o) after free)) (first_result ts inhabited o.result w)

  results : (ds : scope.Declarations) (before : Declarations) (c : Context) → AreTypedAfter c before (declared ds) → before ++ declared ds ≡ all →
      GiveResults (declared ds) ts (table all ts)
  results [] before c w e = tt
  results ((n, entry.Module m) ∷ ds) before c w e = results ds _ _ w.2 (append_assoc before _ (declared ds) ∙ e)
  results ((n, entry.Lemma q order) ∷ ds) before c w e = results ds _ _ w.2 (append_assoc before _ (declared ds) ∙ e)
  results ((n, entry.Type t) ∷ ds) before c w e = results ds _ _ w.2 (append_assoc before _ (declared ds) ∙ e)
  results ((n, entry.AbstractType) ∷ ds) before c w e = results ds _ _ w.2 (append_assoc before _ (declared ds) ∙ e)
  results ((n, entry.ModuleType y) ∷ ds) before c w e = results ds _ _ w.2 (append_assoc before _ (declared ds) ∙ e)
  results ((n, entry.AbstractModule y) ∷ ds) before c w e = results ds _ _ w.2 (append_assoc before _ (declared ds) ∙ e)
  results ((n, entry.Constant a) ∷ ds) before c w e = results ds _ _ w.2 (append_assoc before _ (declared ds) ∙ e)
  results ((n, entry.Operator o) ∷ ds) before c w e = results ds _ _ w.2 (append_assoc before _ (declared ds) ∙ e)
  results ((n, entry.AbstractOperator o) ∷ ds) before c w e =
      ((λ vs k. here before n _ (declared ds) e w.0 w.1.1 vs), results ds _ _ w.2 (append_assoc before _ (declared ds) ∙ e))
  results ((n, entry.Terminating a) ∷ ds) before c w e = results ds _ _ w.2 (append_assoc before _ (declared ds) ∙ e)

-- abstract types of one value
size : Name → ℕ
size n = 1

-- the world of the globals that are declared
pub model : (ds : scope.Declarations) → IsTypedScope (declared ds) → HasModel ds
unfolding size
model ds t =
    let w : World = declared_globals (declared ds) in
    let ts : Types = types_of (declared ds) (interpretation w size (λ n. record { result = λ xs. nothing; denominator = 1 })) in
    let i : Interpretation = interpretation w size (table (declared ds) ts) in
    let sizes : (n : Name) → 0 < size n = λ n. (let z : 0 < 1 = omega arith in z) in
    let once : AreOnce w = globals_once ds [] nothing_declared t in
    let variables : AreVariables w = globals_variables ds [] nothing_declared t in
    let inhabited : IsInhabited (types_of (declared ds) i) = types_inhabited (declared ds) i (record { sizes = sizes; once = once; variables = variables }) in (
      w,
      size,
      table (declared ds) ts,
      record {
        sizes = sizes;
        once = once;
        types = world_types (types_of (declared ds) i) inhabited w variables;
        known = in_own_world w once;
        results = results (declared ds) ts inhabited ds [] nothing_declared t refl;
        axioms = no_axioms (declared ds) ds i;
      },
    )

pub no_falsehood : (ds : scope.Declarations) → IsTypedScope (declared ds) → IsFirmScope ds → ¬ (Holds (declared ds) falsehood)
no_falsehood ds t firm = let m = model ds t in no_lemma (declared ds) m.0 m.1 m.2 m.3 (no_section ds firm)
