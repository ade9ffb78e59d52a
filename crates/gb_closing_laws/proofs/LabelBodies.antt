-- In a setting with labels the operators of a typed scope mean their bodies.
use Rattle.std.proofs.Common.{◌≡◌, ℕ, Bool, true, false, if◌then◌else◌, bytes_eq, Some, [], ◌∷◌, ◌++◌, ◌∙◌, subst}
use Rattle.gb_terms.specs.declared.term.Term.{Term}
use Rattle.gb_goal.specs.declared.scope.Entry.{Entry}
use Rattle.gb_goal.specs.declared.scope.Entry.TheVariants as entry
use Rattle.gb_goal.specs.Scope as scope
use Rattle.gb_goal.specs.Scope.{entry_of}
use Rattle.gb_meaning.specs.Names.{Name}
use Rattle.gb_meaning.specs.Setting.{Setting}
use Rattle.gb_laws.specs.Plain.{IsPlain}
use Rattle.gb_meaning.specs.Declared.{Declarations, declaration_of, declared}
use Rattle.gb_meaning.specs.Naming.{AnyName}
use Rattle.gb_meaning.specs.Settings.{at_arguments}
use Rattle.gb_typing.specs.Naming.{NoName, TermNames}
use Rattle.gb_typing.specs.Context.{Context}
use Rattle.gb_typing.specs.Scopes.{nothing, with_declared, AreTypedAfter, IsTypedScope}
use Rattle.gb_eval.specs.Script.{body_in, body_named}
use Rattle.gb_eval.specs.Meant.{AreBodies}
use Rattle.gb_closing_laws.specs.Settings.{with_labels}
use Rattle.gb_closing_laws.proofs.Settings.{means_same, weighs_same}
use Rattle.gb_smt_laws.proofs.Equations.{none_some, some_some}

-- the body of an operator speaks of no memory and of no module
abbrev IsAlone : Term → Type 0
IsAlone t = IsPlain t × TermNames NoName AnyName t

here_alone : (before : Declarations) (c : Context) (k : Name) (x : Entry) (ds : Declarations) → AreTypedAfter c before ((k, declaration_of x) ∷ ds) → (t : Term) → body_in (Some x) ≡ Some t → IsAlone t
here_alone before c k (entry.Operator o) ds w t e = subst IsAlone (some_some o.body t e) (w.1.plain, w.1.apart)
here_alone before c k _ ds w t e = none_some t e

bodies_alone : (es : scope.Declarations) (before : Declarations) (c : Context) → AreTypedAfter c before (declared es) → (n : Name) (t : Term) → body_named es n ≡ Some t → IsAlone t
bodies_alone [] before c w n t e = none_some t e
bodies_alone ((k, x) ∷ es) before c w n t e = step (bytes_eq n k) (bodies_alone es (before ++ (k, declaration_of x) ∷ []) (with_declared c k (declaration_of x)) w.2 n t) e
  where
    step : (b : Bool) → (body_named es n ≡ Some t → IsAlone t) → body_in (if b then Some x else entry_of es n) ≡ Some t → IsAlone t
    step true f e = here_alone before c k x (declared es) w t e
    step false f e = f e

pub label_bodies : (es : scope.Declarations) → IsTypedScope (declared es) → (g : Setting) → AreBodies g es → (own : Name) (num : Name → ℕ) → AreBodies (with_labels own num g) es
label_bodies es w g bodies own num n t e =
    let alone = bodies_alone es [] nothing w n t e in
    let body = bodies n t e in
    record {
      plain = alone.0;
      result = λ ms. body.result ms ∙ means_same own num g t alone.1 (at_arguments ms);
      total = body.total ∙ weighs_same own num g t alone.1;
    }
