-- The operators of a typed scope are of types without types of a module's globals.
use Rattle.std.proofs.Common.{◌≡◌, Bool, true, false, if◌then◌else◌, bytes_eq, Some, List, [], ◌∷◌, ◌++◌, subst}
use Rattle.gb_core.specs.declared.ty.Ty.{Ty}
use Rattle.gb_meaning.specs.Names.{Name}
use Rattle.gb_meaning.specs.Declared.{Declarations, Declaration, operator, abstract_operator}
use Rattle.gb_meaning.specs.Globs.{EachGlob}
use Rattle.gb_laws.specs.Typing.{OperatorType}
use Rattle.gb_typing.specs.Context.{Context}
use Rattle.gb_typing.specs.Naming.{EachGlobAmong, NoName}
use Rattle.gb_typing.specs.Scopes.{AreMeasured, AreTypedAfter, AreVariableTypes, IsDeclared, IsTypedScope, context_of, nothing, operator_type, with_declared, with_each, with_operator}
use Rattle.gb_typing.proofs.Interfaces.{none_some, same_some}
use Rattle.gb_arguments.specs.LedScopes.{OperatorsAreFree}
use Rattle.gb_arguments.proofs.Globless.{defined_free, measured_free, variable_free}

all_measured : (ts : List Ty) → AreMeasured ts → EachGlobAmong NoName ts
all_measured [] w = tt
all_measured (t ∷ ts) w = (measured_free t w.0, all_measured ts w.1)

all_variables : (ts : List Ty) → AreVariableTypes ts → EachGlobAmong NoName ts
all_variables [] w = tt
all_variables (t ∷ ts) w = (variable_free t w.0, all_variables ts w.1)

with_free : (c : Context) (k : Name) (o : OperatorType) → OperatorsAreFree c → EachGlobAmong NoName o.params → EachGlob NoName o.result → OperatorsAreFree (with_operator c k o)
with_free c k o a ps r n u e = step (bytes_eq n k) e
  where
    step : (b : Bool) → (if b then Some o else c.operator n) ≡ Some u → EachGlobAmong NoName u.params × EachGlob NoName u.result
    step true e = subst (λ (u : OperatorType). EachGlobAmong NoName u.params × EachGlob NoName u.result) (same_some o u e) (ps, r)
    step false e = a n u e

declared_free : (c : Context) (k : Name) (d : Declaration) → IsDeclared c k d → OperatorsAreFree c → OperatorsAreFree (with_declared c k d)
declared_free c k (operator o) w a =
    with_free c k (operator_type o) a (all_measured o.params w.params) (defined_free c (λ n u e. (a n u e).1) o.params o.body w.params w.typed w.apart)
declared_free c k (abstract_operator o) w a = with_free c k (record { params = o.params; result = o.result }) a (all_variables o.params w.0) (measured_free o.result w.1)
declared_free c k _ w a = a

each_free : (ds before : Declarations) (c : Context) → AreTypedAfter c before ds → OperatorsAreFree c → OperatorsAreFree (with_each c ds)
each_free [] before c w a = a
each_free (d ∷ ds) before c w a = each_free ds (before ++ d ∷ []) (with_declared c d.0 d.1) w.2 (declared_free c d.0 d.1 w.1 a)

pub scope_free : (ds : Declarations) → IsTypedScope ds → OperatorsAreFree (context_of ds)
scope_free ds w = each_free ds [] nothing w (λ n o e. none_some o e)
