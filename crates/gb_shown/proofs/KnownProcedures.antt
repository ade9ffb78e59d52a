-- The procedures of a named scope are named.
use Rattle.std.proofs.Common.{◌≡◌, List}
use Rattle.gb_terms.specs.declared.decl.TypedName.{TypedName}
use Rattle.gb_goal.specs.Scope.{Declarations}
use Rattle.gb_print_names.specs.declared.bound_names.Enumeration.{Enumeration}
use Rattle.gb_print.specs.Written.{is_path}
use Rattle.gb_shown.specs.Named.{IsNamedType, IsNamedVariable}
use Rattle.gb_shown.specs.Rules.{AreNamedProcedures}
use Rattle.gb_shown.specs.Scopes.{IsNamedScope}
use Rattle.gb_shown.proofs.Asked.{asked_named}
use Rattle.gb_shown.proofs.FoundInScopes.{at_named}
use Rattle.gb_shown.proofs.Interfaces.{type_known}
use Rattle.gb_shown.proofs.Later.{all_so}
use Rattle.gb_shown.proofs.Paths.{name_is_path}

pub procedures_named : (es : List Enumeration) (ds : Declarations) → IsNamedScope es ds → AreNamedProcedures es ds
procedures_named es ds k = record {
  declared = λ f w p i. (let n = at_named es ds k f.«module» w.module_is f.name p i in n.procedure);
  asked = asked_named es ds k;
  types = λ f t e. (let n = type_known es ds k f t e in (all_so IsNamedVariable _ (λ (x : TypedName) h. (name_is_path x.name h.0, h.1)) t.params n.params, n.result));
}
