-- The context of all declarations has what that of a statement has, with modules put in.
use Rattle.std.proofs.Common.{◌≡◌, List, [], ◌∷◌, ◌++◌, map, refl, sym, ◌∙◌}
use Rattle.gb_core.specs.declared.ty.Ty.{Ty}
use Rattle.gb_terms.specs.declared.decl.Param.{Param}
use Rattle.gb_terms.specs.declared.decl.TypedName.{TypedName}
use Rattle.gb_terms.specs.declared.module.Bind.{Bind}
use Rattle.gb_terms.specs.declared.module.Mexp.{Mexp}
use Rattle.gb_meaning.specs.Declared.{Declarations}
use Rattle.gb_laws.specs.Finite.{IsVariableType}
use Rattle.gb_typing.specs.Context.{Context}
use Rattle.gb_typing.specs.Formulas.{with_module}
use Rattle.gb_typing.specs.Naming.{EachGlobAmong, NoName}
use Rattle.gb_typing.specs.Programs.{HaveVariableTypes}
use Rattle.gb_typing.specs.Scopes.{nothing, AreTypedAfter, IsTypedScope, context_of}
use Rattle.gb_typing.specs.Sequents.{AreBinders, with_modules}
use Rattle.gb_typing.proofs.Declaring.{split}
use Rattle.gb_arguments.specs.Arguments.{AreFit}
use Rattle.gb_arguments.specs.Led.{AreNamedAs, led, led_name}
use Rattle.gb_instances.specs.Put.{name_put, procedure_put}
use Rattle.gb_arguments.proofs.GivenPrograms.{no_globs}
use Rattle.gb_arguments.proofs.LedTypes.{globless_led}
use Rattle.gb_arguments.proofs.PlainContexts.{procedures_plain, scope_plain}
use Rattle.gb_arguments.proofs.PutProcedures.{more, types_put}
use Rattle.gb_instances.specs.Instance.{params_of}
use Rattle.gb_arguments.specs.LedScopes.{IsLedScope, OperatorsAreFree}

-- binders add no globals and no operators
bound_globals : (bs : List Bind) (c : Context) → (with_modules c bs).global ≡ c.global
bound_globals [] c = refl
bound_globals (b ∷ bs) c = bound_globals bs (with_module c b)

bound_operators : (bs : List Bind) (c : Context) → (with_modules c bs).operator ≡ c.operator
bound_operators [] c = refl
bound_operators (b ∷ bs) c = bound_operators bs (with_module c b)

module _ (ps : List Param) (es : List Mexp) where
  variable_led : (t : Ty) → IsVariableType t → led ps es t ≡ t
  variable_led t w = globless_led (name_put ps es) t (no_globs t w)

  names_led : (xs : List TypedName) → HaveVariableTypes xs → map (led_name ps es) xs ≡ xs
  names_led [] w = refl
  names_led (x ∷ xs) w = λ i. record { name = x.name; ty = variable_led x.ty w.0 i } ∷ names_led xs w.1 i

  types_led : (ts : List Ty) → EachGlobAmong NoName ts → map (led ps es) ts ≡ ts
  types_led [] w = refl
  types_led (t ∷ ts) w = λ i. globless_led (name_put ps es) t w.0 i ∷ types_led ts w.1 i

pub led_scope : (before later : Declarations) → IsTypedScope (before ++ later) → OperatorsAreFree (context_of before) → (bs : List Bind) → AreBinders (context_of before) bs → (es : List Mexp) →
    AreFit (context_of (before ++ later)) bs es → AreNamedAs (context_of (before ++ later)) bs es →
    IsLedScope (params_of bs) es (with_modules (context_of before) bs) (context_of (before ++ later))
led_scope before later scoped free bs binders es fit named = record {
  global = λ m x t e.
      let k = (λ i. sym (bound_globals bs (context_of before)) i m x) ∙ e in
      let p = scope_plain before parts.0 in
      ((let g = more before later scoped in g.global m x t k), variable_led (params_of bs) es t (p.globals m x t k));
  operator = λ n o e.
      let k = (λ i. sym (bound_operators bs (context_of before)) i n) ∙ e in
      let w = free n o k in
      ((let g = more before later scoped in g.operator n o k), types_led (params_of bs) es o.params w.0, globless_led (name_put (params_of bs) es) o.result w.1);
  procedure = λ r t e.
      let k = types_put before later scoped bs binders es fit named r t e in
      let w = procedures_plain (before ++ later) scoped (procedure_put (params_of bs) es r) t k in
      (k, names_led (params_of bs) es t.params w.0, variable_led (params_of bs) es t.result w.1);
}
  where
    parts : AreTypedAfter nothing [] before × AreTypedAfter (context_of before) before later
    parts = split before later [] nothing scoped
