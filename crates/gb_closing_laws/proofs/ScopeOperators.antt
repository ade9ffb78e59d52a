-- The operators of a typed scope are of types that speak of no module.
use Rattle.std.proofs.Common.{◌≡◌, Bool, true, false, if◌then◌else◌, bytes_eq, Option, Some, None, List, [], ◌∷◌, ◌++◌, ap, subst}
use Rattle.std.proofs.lemmas.Bool.{false≢true}
use Rattle.gb_core.specs.declared.ty.Ty.{Ty}
use Rattle.gb_meaning.specs.Names.{Name}
use Rattle.gb_meaning.specs.Declared.{Declarations, Declaration, operator, abstract_operator}
use Rattle.gb_meaning.specs.Globs.{EachGlob}
use Rattle.gb_typing.specs.Naming.{NoName, EachGlobAmong}
use Rattle.gb_laws.specs.Typing.{OperatorType}
use Rattle.gb_typing.specs.Context.{Context, erased}
use Rattle.gb_typing.specs.Scopes.{operator_type, IsDeclared, AreMeasured, AreVariableTypes, nothing, with_operator, with_declared, with_each, context_of, AreTypedAfter, IsTypedScope}
use Rattle.gb_closing_laws.specs.Model.{AreApart}
use Rattle.gb_closing_laws.proofs.GloblessResults.{variable_free, measured_free, defined_free}

all_measured : (ts : List Ty) → AreMeasured ts → EachGlobAmong NoName ts
all_measured [] w = tt
all_measured (t ∷ ts) w = (measured_free t w.0, all_measured ts w.1)

all_variables : (ts : List Ty) → AreVariableTypes ts → EachGlobAmong NoName ts
all_variables [] w = tt
all_variables (t ∷ ts) w = (variable_free t w.0, all_variables ts w.1)

abbrev operator_or : OperatorType → Option OperatorType → OperatorType
operator_or o None = o
operator_or o (Some u) = u

with_apart : (c : Context) (k : Name) (o : OperatorType) → AreApart (erased c) → EachGlobAmong NoName o.params → EachGlob NoName o.result → AreApart (erased (with_operator c k o))
with_apart c k o a ps r n u e = step (bytes_eq n k) e
  where
    step : (b : Bool) → (if b then Some o else c.operator n) ≡ Some u → EachGlobAmong NoName u.params × EachGlob NoName u.result
    step true e = subst (λ u. EachGlobAmong NoName u.params × EachGlob NoName u.result) (ap (operator_or o) e) (ps, r)
    step false e = a n u e

declared_apart : (c : Context) (k : Name) (d : Declaration) → IsDeclared c k d → AreApart (erased c) → AreApart (erased (with_declared c k d))
declared_apart c k (operator o) w a = with_apart c k (operator_type o) a (all_measured o.params w.params) (defined_free c (λ n u e. (a n u e).1) o.params o.body w.params w.typed w.apart)
declared_apart c k (abstract_operator o) w a = with_apart c k (record { params = o.params; result = o.result }) a (all_variables o.params w.0) (measured_free o.result w.1)
declared_apart c k _ w a = a

each_apart : (ds before : Declarations) (c : Context) → AreTypedAfter c before ds → AreApart (erased c) → AreApart (erased (with_each c ds))
each_apart [] before c w a = a
each_apart (d ∷ ds) before c w a = each_apart ds (before ++ d ∷ []) (with_declared c d.0 d.1) w.2 (declared_apart c d.0 d.1 w.1 a)

pub scope_apart : (ds : Declarations) → IsTypedScope ds → AreApart (erased (context_of ds))
scope_apart ds w = each_apart ds [] nothing w (λ n o e. absurd (false≢true (ap is_operator e)))
  where
    is_operator : Option OperatorType → Bool
    is_operator None = false
    is_operator (Some o) = true
