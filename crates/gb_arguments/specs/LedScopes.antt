-- What is known of a statement's context, where modules are put in.
use Rattle.std.specs.Prelude.{◌≡◌, true, false, List, map, Some}
use Rattle.gb_core.specs.declared.ty.Ty.{Ty}
use Rattle.gb_terms.specs.declared.decl.Param.{Param}
use Rattle.gb_terms.specs.declared.module.Mexp.{Mexp}
use Rattle.gb_terms.specs.declared.module.ProcRef.{ProcRef}
use Rattle.gb_goal.specs.Instances.{stands_for}
use Rattle.gb_goal.specs.Scope as scope
use Rattle.gb_goal.specs.declared.sequent.Sequent.{Sequent}
use Rattle.gb_elab.specs.Globs.{is_abstract}
use Rattle.gb_meaning.specs.Declared.{declared}
use Rattle.gb_meaning.specs.Globs.{EachGlob}
use Rattle.gb_meaning.specs.Names.{Name}
use Rattle.gb_laws.specs.Typing.{OperatorType}
use Rattle.gb_typing.specs.Context.{Context, procedure}
use Rattle.gb_typing.specs.Modules.{ProcedureType}
use Rattle.gb_typing.specs.Naming.{EachGlobAmong, IsAmong, NoName}
use Rattle.gb_typing.specs.Scopes.{context_of}
use Rattle.gb_typing.specs.Sequents.{IsTypedSequent, of_sequent}
use Rattle.gb_arguments.specs.Arguments.{names_of}
use Rattle.gb_arguments.specs.Led.{IsTypedAgreement, MayStand, led, led_name}
use Rattle.gb_instances.specs.Put.{name_put, procedure_put}
use Rattle.gb_instances.specs.Instance.{GivenModule, modules_of, params_of, put_in_statement}

-- what one context has, the other has with modules put in, and no type in it speaks of a module's globals
pub record IsLedScope (ps : List Param) (es : List Mexp) (d e : Context) : Type 0 where
  pub global : (m x : Name) (t : Ty) → d.global m x ≡ Some t → (e.global m x ≡ Some t) × (led ps es t ≡ t)
  pub operator : (n : Name) (o : OperatorType) → d.operator n ≡ Some o → (e.operator n ≡ Some o) × (map (led ps es) o.params ≡ o.params) × (led ps es o.result ≡ o.result)
  pub procedure : (r : ProcRef) (t : ProcedureType) → procedure d r ≡ Some t →
      (procedure e (procedure_put ps es r) ≡ Some t) × (map (led_name ps es) t.params ≡ t.params) × (led ps es t.result ≡ t.result)

-- the context of what a statement says of modules
abbrev pub context_put : (before all : scope.Declarations) (q : Sequent) → IsTypedSequent (context_of (declared before)) q → List GivenModule → Context
context_put before all q t ks =
    of_sequent (context_of (declared all)) (put_in_statement all (params_of q.modules) (modules_of ks) q) (map (map (led_name (params_of q.modules) (modules_of ks))) t.frames)

-- the modules may be put in the statement
abbrev pub StatementMayStand : (before all : scope.Declarations) (q : Sequent) → IsTypedSequent (context_of (declared before)) q → List GivenModule → Type 0
StatementMayStand before all q t ks =
    MayStand all (stands_for (params_of q.modules) (modules_of ks)) (context_put before all q t ks)
    (λ a. (context_of (declared all)).has_globals (name_put (params_of q.modules) (modules_of ks) a) ≡ true) q.conclusion

-- no operator of a context has a type of a module's globals
abbrev pub OperatorsAreFree : Context → Type 0
OperatorsAreFree c = (n : Name) (o : OperatorType) → c.operator n ≡ Some o → EachGlobAmong NoName o.params × EachGlob NoName o.result

-- What is left to know for typing what a statement says of modules: equations of all globals of those that aren't abstract by themselves are typed,
-- variable by variable of their footprints.
abbrev pub AgreementsAreTyped : (before all : scope.Declarations) (q : Sequent) → IsTypedSequent (context_of (declared before)) q → List GivenModule → Type 0
AgreementsAreTyped before all q t ks = (a : Name) → IsAmong (names_of q.modules) a → is_abstract all (stands_for (params_of q.modules) (modules_of ks) a) ≡ false →
    IsTypedAgreement all (context_put before all q t ks) (stands_for (params_of q.modules) (modules_of ks) a)
