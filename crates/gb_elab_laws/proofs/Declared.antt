-- Declarations stand in the context of their scope, and what their names are found to stand for does.
use Rattle.std.proofs.Common.{◌≡◌, Bool, true, false, if◌then◌else◌, List, [], ◌∷◌, ◌++◌, Option, Some, None, bytes_eq, refl, ap, sym, ◌∙◌, subst}
use Rattle.gb_core.specs.declared.ty.Ty.{Ty}
use Rattle.gb_core.specs.declared.ty.Ty.TheVariants.{Abstract}
use Rattle.gb_core.specs.declared.value.Value.TheVariants.{Num}
use Rattle.gb_terms.specs.declared.module.Bind.{Bind}
use Rattle.gb_goal.specs.Scope as scope
use Rattle.gb_goal.specs.Scope.{entry_of, as_type, as_constant, as_operator}
use Rattle.gb_goal.specs.declared.scope.Constant.{Constant}
use Rattle.gb_goal.specs.declared.scope.Entry.{Entry}
use Rattle.gb_goal.specs.declared.scope.Entry.TheVariants as entry
use Rattle.gb_goal.specs.declared.scope.OperatorType.{OperatorType as DeclaredOperator}
use Rattle.gb_goal.specs.declared.sequent.Sequent.{Sequent}
use Rattle.gb_terms.specs.declared.decl.TypedName.{TypedName}
use Rattle.gb_terms.specs.declared.term.Term.{out-Term}
use Rattle.gb_meaning.specs.Names.{Name}
use Rattle.gb_meaning.specs.Written.{type_of}
use Rattle.gb_laws.specs.Finite.{IsVariableType}
use Rattle.gb_laws.specs.Typing.{OperatorType, IsLiteral}
use Rattle.gb_meaning.specs.Globs.{EachGlob}
use Rattle.gb_typing.specs.Naming.{NoName}
use Rattle.gb_meaning.specs.Declared.{Declarations, Declaration, declaration_of, declared, abstract_type, abbreviation, operator, abstract_operator, module_type, concrete_module, abstract_module, axiom_of, lemma, terminating}
use Rattle.gb_typing.specs.Context.{Context}
use Rattle.gb_typing.specs.Formulas.{with_module}
use Rattle.gb_typing.specs.Sequents.{of_sequent, with_modules}
use Rattle.gb_typing.specs.Scopes.{operator_type, nothing, with_declared, with_each, context_of, is_declared, AreMeasured, AreVariableTypes, IsDeclared, AreTypedAfter, IsTypedScope}
use Rattle.gb_typing.proofs.Operators.{declared_more, declared_last, other_name}
use Rattle.gb_elab_laws.specs.Fitting.{IsFormType, AreTypes, AreConstants, IsUsable, AreDeclared, of_no_module}
use Rattle.gb_elab_laws.proofs.Given.{none_some, same_some, out_type}
use Rattle.gb_elab_laws.proofs.Measured.{measured_form, variable_measured}
use Rattle.gb_elab_laws.proofs.Globless.{GivesFree, defined_free, measured_free, result_form}

-- the first declaration under a name
abbrev pub declaration_named : Declarations → Name → Option Declaration
declaration_named [] n = None
declaration_named (d ∷ ds) n = if bytes_eq n d.0 then Some d.1 else declaration_named ds n

-- the type of the operator that is declared
abbrev pub operator_in : Declaration → Option OperatorType
operator_in (operator o) = Some (operator_type o)
operator_in (abstract_operator o) = Some (record { params = o.params; result = o.result })
operator_in _ = None

abbrev typed_as : List Ty → Ty → OperatorType
typed_as us t = record { params = us; result = t }

-- an operator of another name
under : (c : Context) (n k : Name) (o : OperatorType) → bytes_eq n k ≡ false → (if bytes_eq n k then Some o else c.operator n) ≡ c.operator n
under c n k o e = ap (λ (b : Bool). if b then Some o else c.operator n) e

-- what is declared later leaves the operators that are declared
later : (ds before : Declarations) (c : Context) (n : Name) → is_declared before n ≡ true → AreTypedAfter c before ds → (with_each c ds).operator n ≡ c.operator n
later [] before c n e w = refl
later ((k, operator o) ∷ ds) before c n e w =
    later ds _ (with_declared c k (operator o)) n (declared_more before (k, operator o) n e) w.2 ∙ under c n k (operator_type o) (other_name before n k e w.0)
later ((k, abstract_operator o) ∷ ds) before c n e w =
    later ds _ (with_declared c k (abstract_operator o)) n (declared_more before (k, abstract_operator o) n e) w.2
    ∙ under c n k (record { params = o.params; result = o.result }) (other_name before n k e w.0)
later ((k, abbreviation a) ∷ ds) before c n e w = later ds _ (with_declared c k (abbreviation a)) n (declared_more before (k, abbreviation a) n e) w.2
later ((k, abstract_type) ∷ ds) before c n e w = later ds _ (with_declared c k abstract_type) n (declared_more before (k, abstract_type) n e) w.2
later ((k, module_type t) ∷ ds) before c n e w = later ds _ (with_declared c k (module_type t)) n (declared_more before (k, module_type t) n e) w.2
later ((k, concrete_module m) ∷ ds) before c n e w = later ds _ (with_declared c k (concrete_module m)) n (declared_more before (k, concrete_module m) n e) w.2
later ((k, abstract_module b) ∷ ds) before c n e w = later ds _ (with_declared c k (abstract_module b)) n (declared_more before (k, abstract_module b) n e) w.2
later ((k, axiom_of q) ∷ ds) before c n e w = later ds _ (with_declared c k (axiom_of q)) n (declared_more before (k, axiom_of q) n e) w.2
later ((k, lemma q) ∷ ds) before c n e w = later ds _ (with_declared c k (lemma q)) n (declared_more before (k, lemma q) n e) w.2
later ((k, terminating f) ∷ ds) before c n e w = later ds _ (with_declared c k (terminating f)) n (declared_more before (k, terminating f) n e) w.2

-- what is declared keeps that operators give nothing of the globals of modules
free_with : (c : Context) (k : Name) (x : Declaration) → GivesFree c → IsDeclared c k x → GivesFree (with_declared c k x)
free_with c k (operator p) g w n o = step (bytes_eq n k)
  where
    step : (b : Bool) → (if b then Some (operator_type p) else c.operator n) ≡ Some o → EachGlob NoName o.result
    step true e = subst (λ (u : OperatorType). EachGlob NoName u.result) (same_some (operator_type p) o e) (defined_free c g p.params p.body w.params w.typed w.apart)
    step false e = g n o e
free_with c k (abstract_operator p) g w n o = step (bytes_eq n k)
  where
    step : (b : Bool) → (if b then Some (record { params = p.params; result = p.result }) else c.operator n) ≡ Some o → EachGlob NoName o.result
    step true e = subst (λ (u : OperatorType). EachGlob NoName u.result) (same_some (record { params = p.params; result = p.result }) o e) (measured_free p.result w.1)
    step false e = g n o e
free_with c k (abbreviation a) g w n o = g n o
free_with c k abstract_type g w n o = g n o
free_with c k (module_type t) g w n o = g n o
free_with c k (concrete_module m) g w n o = g n o
free_with c k (abstract_module b) g w n o = g n o
free_with c k (axiom_of q) g w n o = g n o
free_with c k (lemma q) g w n o = g n o
free_with c k (terminating f) g w n o = g n o

-- A declaration is typed in the context of those before it, and its operator stands in the whole context.
record IsStanding (c : Context) (n : Name) (d : Declaration) : Type 0 where
  before : Context
  under : Name
  typed : IsDeclared before under d
  free : GivesFree before
  operator : (o : OperatorType) → operator_in d ≡ Some o → c.operator n ≡ Some o

standing : (ds before : Declarations) (c : Context) → AreTypedAfter c before ds → GivesFree c → (n : Name) (d : Declaration) → declaration_named ds n ≡ Some d → IsStanding (with_each c ds) n d
standing [] before c w g n d e = none_some d e
standing ((k, x) ∷ ds) before c w g n d e = step (bytes_eq n k) refl (standing ds (before ++ (k, x) ∷ []) (with_declared c k x) w.2 (free_with c k x g w.1) n d) e
  where
    known : bytes_eq n k ≡ true → (y : Declaration) (o : OperatorType) → operator_in y ≡ Some o → (with_declared c k y).operator n ≡ Some o
    known i (operator p) o h = ap (λ (b : Bool). if b then Some (operator_type p) else c.operator n) i ∙ h
    known i (abstract_operator p) o h = ap (λ (b : Bool). if b then Some (record { params = p.params; result = p.result }) else c.operator n) i ∙ h
    known i _ o h = none_some o h

    here : bytes_eq n k ≡ true → IsStanding (with_each (with_declared c k x) ds) n x
    here i = record {
      before = c;
      under = k;
      typed = w.1;
      free = g;
      operator = λ o h. later ds (before ++ (k, x) ∷ []) (with_declared c k x) n (declared_last before (k, x) n i) w.2 ∙ known i x o h;
    }

    step : (b : Bool) → bytes_eq n k ≡ b → (declaration_named ds n ≡ Some d → IsStanding (with_each (with_declared c k x) ds) n d) → (if b then Some x else declaration_named ds n) ≡ Some d →
        IsStanding (with_each (with_declared c k x) ds) n d
    step true i f h = subst (IsStanding (with_each (with_declared c k x) ds) n) (same_some x d h) (here i)
    step false i f h = f h

-- the entry of a name is declared under it
named_as : (ds : scope.Declarations) (n : Name) (e : Entry) → entry_of ds n ≡ Some e → declaration_named (declared ds) n ≡ Some (declaration_of e)
named_as [] n e h = none_some e h
named_as (d ∷ ds) n e h = step (bytes_eq n d.0) (named_as ds n e) h
  where
    step : (b : Bool) → (entry_of ds n ≡ Some e → declaration_named (declared ds) n ≡ Some (declaration_of e)) → (if b then Some d.1 else entry_of ds n) ≡ Some e →
        (if b then Some (declaration_of d.1) else declaration_named (declared ds) n) ≡ Some (declaration_of e)
    step true f k = ap (λ z. Some (declaration_of z)) (same_some d.1 e k)
    step false f k = f k

all_measured : (ts : List Ty) → AreVariableTypes ts → AreMeasured ts
all_measured [] h = tt
all_measured (t ∷ ts) h = (variable_measured t h.0, all_measured ts h.1)

module _ (ds : scope.Declarations) (w : IsTypedScope (declared ds)) where
  stands : (n : Name) (e : Entry) → entry_of ds n ≡ Some e → IsStanding (context_of (declared ds)) n (declaration_of e)
  stands n e h = standing (declared ds) [] nothing w (λ m o k. none_some o k) n (declaration_of e) (named_as ds n e h)

  types_stand : AreTypes ds
  types_stand n t e = step (entry_of ds n) refl e
    where
      step : (o : Option Entry) → entry_of ds n ≡ o → as_type n o ≡ Some t → IsVariableType t
      step (Some (entry.Type u)) i h = subst IsVariableType (same_some u t h) (stands n (entry.Type u) i).typed
      step (Some entry.AbstractType) i h = subst IsVariableType (same_some (Abstract n) t h) tt
      step _ i h = none_some t h

  constants_stand : AreConstants ds
  constants_stand n k e = step (entry_of ds n) refl e
    where
      step : (o : Option Entry) → entry_of ds n ≡ o → as_constant o ≡ Some k → IsVariableType k.ty × IsLiteral k.ty (Num k.number)
      step (Some (entry.Constant c)) i h =
          subst (λ (z : Constant). IsVariableType z.ty × IsLiteral z.ty (Num z.number)) (same_some c k h) (stands n (entry.Constant c) i).typed
      step _ i h = none_some k h

  operators_stand : (n : Name) (o : DeclaredOperator) → scope.operator_named ds n ≡ Some o → IsUsable ((context_of (declared ds)).operator n) o
  operators_stand n o e = step (entry_of ds n) refl e
    where
      step : (x : Option Entry) → entry_of ds n ≡ x → as_operator x ≡ Some o → IsUsable ((context_of (declared ds)).operator n) o
      step (Some (entry.Operator p)) i h =
          let s = stands n (entry.Operator p) i in
          let free = defined_free s.before s.free p.params p.body s.typed.params s.typed.typed s.typed.apart in
          let same : (out-Term p.body).ty ≡ type_of p.body = out_type p.body in
          let made : DeclaredOperator = record { params = p.params; result = (out-Term p.body).ty } in
          subst (IsUsable ((context_of (declared ds)).operator n)) {x = made} (same_some made o h) (record {
            there = s.operator (record { params = p.params; result = type_of p.body }) refl ∙ ap (λ t. Some (typed_as p.params t)) (sym same);
            params = s.typed.params;
            result = subst (IsFormType of_no_module) (sym same) (result_form (type_of p.body) s.typed.result free);
          })
      step (Some (entry.AbstractOperator p)) i h =
          let s = stands n (entry.AbstractOperator p) i in
          subst (IsUsable ((context_of (declared ds)).operator n)) (same_some p o h) (record {
            there = s.operator (record { params = p.params; result = p.result }) refl;
            params = all_measured p.params s.typed.0;
            result = (measured_form of_no_module p.result s.typed.1).1;
          })
      step _ i h = none_some o h

  -- what the names of a typed scope stand for
  pub declared_in : AreDeclared (context_of (declared ds)).operator ds
  declared_in = record { types = types_stand; constants = constants_stand; usable = operators_stand }

  -- abstract modules leave operators
  modules_leave : (c : Context) (bs : List Bind) → (with_modules c bs).operator ≡ c.operator
  modules_leave c [] = refl
  modules_leave c (b ∷ bs) = modules_leave (with_module c b) bs

  pub goal_declared : (q : Sequent) (fs : List (List TypedName)) → AreDeclared (of_sequent (context_of (declared ds)) q fs).operator ds
  goal_declared q fs = subst (λ f. AreDeclared f ds) (sym (modules_leave (context_of (declared ds)) q.modules)) declared_in
