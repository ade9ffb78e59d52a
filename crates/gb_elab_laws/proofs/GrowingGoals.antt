-- Typed goals stay typed as the scope of a script grows.
use Rattle.std.proofs.Common.{◌≡◌, Bool, true, false, if◌then◌else◌, List, [], ◌∷◌, ◌++◌, Option, Some, None, bytes_eq, refl, sym, subst}
use Rattle.std.proofs.lemmas.Bool.{false≢true}
use Rattle.gb_core.specs.declared.ty.Ty.{Ty}
use Rattle.gb_core.specs.declared.var.Var.{Var}
use Rattle.gb_core.specs.declared.var.Var.TheVariants as var
use Rattle.gb_terms.specs.declared.decl.TypedName.{TypedName}
use Rattle.gb_terms.specs.declared.module.Bind.{Bind}
use Rattle.gb_terms.specs.declared.module.ProcRef.{ProcRef}
use Rattle.gb_terms.specs.declared.op.Op.TheVariants as op
use Rattle.gb_terms.specs.declared.term.Term.{Term, Term', end_of-Head, more_of-Head}
use Rattle.gb_terms.specs.declared.term.Head.TheVariants as head
use Rattle.gb_terms.specs.declared.term.Head.TheVariants.{Body', Assign, Sample, Call', If', While'}
use Rattle.gb_terms.specs.declared.term.Instr.{Instr, Row_of-Instr, end_of-Instr, more_of-Instr}
use Rattle.gb_goal.specs.declared.scope.Entry.TheVariants as entry
use Rattle.gb_goal.specs.declared.sequent.Hyp.{Hyp}
use Rattle.gb_goal.specs.declared.sequent.Sequent.{Sequent}
use Rattle.gb_goal.specs.Scope as scope
use Rattle.gb_meaning.specs.Commands.{terms_in}
use Rattle.gb_meaning.specs.Names.{Name}
use Rattle.gb_meaning.specs.Declared.{Declarations, declaration_of, declared, concrete_module}
use Rattle.gb_meaning.specs.Truth.{Choice, has_module, last_has_module}
use Rattle.gb_meaning.proofs.Lists.{declared-append}
use Rattle.gb_laws.specs.Operators.{parts_in}
use Rattle.gb_laws.specs.Programs.{variable_type, HaveTypes, Take}
use Rattle.gb_typing.specs.Context.{Context, procedure, erased, of_program, no_module, with_own}
use Rattle.gb_typing.specs.Formulas.{IsFormula}
use Rattle.gb_typing.specs.Modules.{ProcedureType}
use Rattle.gb_typing.specs.Programs.{IsExpression, IsValued, AreArguments, IsCall, IsStatement, AreStatements}
use Rattle.gb_typing.specs.Sequents.{one, two, IsOver, AreBinders, with_modules, of_sequent, AreHypotheses, IsConclusion, IsTypedSequent}
use Rattle.gb_typing.specs.Scopes.{nothing, with_declared, with_each, context_of, AreTypedAfter, IsTypedScope}
use Rattle.gb_typing.specs.Typing.{IsForm}
use Rattle.gb_typing.proofs.Conclusions.{formula_form}
use Rattle.gb_typing.proofs.Declaring.{in_later}
use Rattle.gb_typing.proofs.Grown.{Grows}
use Rattle.gb_elab_laws.specs.Speaking.{IsWithoutModules}
use Rattle.gb_elab_laws.proofs.Growing.{over, Grown, typed_grown, all_grown, form_grown}
use Rattle.gb_elab_laws.proofs.Staying.{split}
use mathlib.Core.Former.{Count}

second : (b : Bool) (A B : Type 0) → b ≡ false → B → Choice b A B
second true A B e w = absurd (false≢true (sym e))
second false A B e w = w

-- a form without a quantifier over modules in front is a formula
form_formula : (c : Context) (f : Term) → has_module f ≡ false → IsForm c f → IsFormula c f
form_formula c (Term' p (more_of-Head (head.AllModule b) end_of-Head) n ts ty) e k = absurd (false≢true (sym e))
form_formula c (Term' p (more_of-Head (head.All u) end_of-Head) n ts ty) e k = second (last_has_module ts) _ _ e k
form_formula c (Term' p (more_of-Head head.AllMemory end_of-Head) n ts ty) e k = second (last_has_module ts) _ _ e k
form_formula c (Term' p (more_of-Head (head.Builtin op.Implies) end_of-Head) n ts ty) e k = second (last_has_module ts) _ _ e k
form_formula c f e k = k

module _ (e c : Context) (g : Grown e c) where
  -- programs

  module _ (ls : List TypedName) where
    expression_grown : (x : Term) → IsExpression c ls x → IsExpression (over e c) ls x
    expression_grown x w = record {
      typed = typed_grown (record e { has_globals = no_module }) (of_program c ls) (g.0, g.1, g.2, λ a h. h) x w.typed;
      plain = w.plain;
    }

    valued_grown : (x : Term) → IsValued c ls x → IsValued (over e c) ls x
    valued_grown x w = record { expression = expression_grown x w.expression; finite = w.finite }

    variable_grown : (x : Var) (t : Ty) → variable_type (erased c) ls x ≡ Some t → variable_type (erased (over e c)) ls x ≡ Some t
    variable_grown (var.Local x) t h = h
    variable_grown (var.Global m x) t h = g.0 m x t h
    variable_grown (var.Glob a) t h = h

    types_grown : (xs : List Var) (ts : List Ty) → HaveTypes (erased c) ls xs ts → HaveTypes (erased (over e c)) ls xs ts
    types_grown [] [] w = tt
    types_grown [] (t ∷ ts) w = absurd w
    types_grown (x ∷ xs) [] w = absurd w
    types_grown (x ∷ xs) (t ∷ ts) w = (variable_grown x t w.0, types_grown xs ts w.1)

    take_grown : (xs : List Var) (t : Ty) → Take (erased c) ls xs t → Take (erased (over e c)) ls xs t
    take_grown [] t w = tt
    take_grown (x ∷ []) t w = variable_grown x t w
    take_grown (x ∷ y ∷ xs) t w = types_grown (x ∷ y ∷ xs) (parts_in t) w

    arguments_grown : (es : List Term) (ps : List TypedName) → AreArguments c ls es ps → AreArguments (over e c) ls es ps
    arguments_grown [] [] w = tt
    arguments_grown [] (p ∷ ps) w = absurd w
    arguments_grown (x ∷ es) [] w = absurd w
    arguments_grown (x ∷ es) (p ∷ ps) w = ((valued_grown x w.0.0, w.0.1), arguments_grown es ps w.1)

    call_grown : (xs : List Var) (p : ProcRef) (es : List Term) (o : Option ProcedureType) → procedure c p ≡ o → IsCall c ls xs o es → IsCall (over e c) ls xs (procedure (over e c) p) es
    call_grown xs p es None h w = absurd w
    call_grown xs p es (Some t) h w = subst (λ o. IsCall (over e c) ls xs o es) (sym (g.2 p t h)) (arguments_grown es t.params w.0, take_grown xs t.result w.1)

    mutual
      statement_grown : (i : Instr) → IsStatement c ls i → IsStatement (over e c) ls i
      statement_grown (Assign xs x) w = (valued_grown x w.0, take_grown xs _ w.1)
      statement_grown (Sample x d) w = (expression_grown d w.0, w.1, variable_grown x _ w.2)
      statement_grown (Call' xs p n es) w = call_grown xs p (terms_in es) (procedure c p) refl w
      statement_grown (If' x m a n b) w = ((expression_grown x w.0.0, w.0.1), statements_grown a w.1, statements_grown b w.2)
      statement_grown (While' x v n a) w = ((expression_grown x w.0.0, w.0.1), (expression_grown v w.1.0, w.1.1), statements_grown a w.2)

      statements_grown : {n : Count} (is : Row_of-Instr n) → AreStatements c ls is → AreStatements (over e c) ls is
      statements_grown end_of-Instr w = tt
      statements_grown (more_of-Instr i is) w = (statement_grown i w.0, statements_grown is w.1)

    body_grown : {n : Count} (is : Row_of-Instr n) → IsOver c ls is → IsOver (over e c) ls is
    body_grown is w = (w.0, statements_grown is w.1)

  -- goals

  formula_grown : (f : Term) → has_module f ≡ false → IsFormula c f → IsFormula (over e c) f
  formula_grown f h w = form_formula (over e c) f h (form_grown e c g f (formula_form c f w h))

  hyps_grown : (hs : List Hyp) → AreHypotheses c hs → AreHypotheses (over e c) hs
  hyps_grown [] w = tt
  hyps_grown (x ∷ hs) w = (form_grown e c g x.form w.0, hyps_grown hs w.1)

  conclusion_grown : (f : Term) → has_module f ≡ false → IsConclusion c f → IsConclusion (over e c) f
  conclusion_grown (Term' a (more_of-Head (head.Hoare (Body' k is)) end_of-Head) n ts t) h w =
      (w.0, w.1, body_grown w.1 is w.2, all_grown e (one c w.1) (one c w.1) (one c w.1) g g g ts w.3)
  conclusion_grown (Term' a (more_of-Head (head.Phoare (Body' k is) r) end_of-Head) n ts t) h w =
      (w.0, w.1, body_grown w.1 is w.2, all_grown e (one c w.1) (one c w.1) (with_own c None) g g g ts w.3)
  conclusion_grown (Term' a (more_of-Head (head.Equiv (Body' k is) (Body' l js)) end_of-Head) n ts t) h w =
      (w.0, w.1, w.2, body_grown w.1 is w.3, body_grown w.2 js w.4, all_grown e (two c w.1 w.2) (two c w.1 w.2) (two c w.1 w.2) g g g ts w.5)
  conclusion_grown f h w = formula_grown f h w

-- a goal stays typed where more is known

module _ (c e : Context) (more : Grown e c) (same : e ≡ over e c) (q : Sequent) (t : IsTypedSequent c q) (without : IsWithoutModules q) where
  -- the goal's context, with these modules
  abbrev around : Context → List Bind → Context
  around z bs = record (with_modules z bs) { logical = (of_sequent z q t.frames).logical; named = (of_sequent z q t.frames).named }

  moved : (P : Context → Type 0) → ((z : Context) → Grown e z → P z → P (over e z)) → P (of_sequent c q t.frames) → P (of_sequent e q t.frames)
  moved P f x =
      subst (λ bs. P (around e bs)) (sym without.modules)
      (subst (λ z. P (around z [])) (sym same) (f (around c []) more (subst (λ bs. P (around c bs)) without.modules x)))

  pub goal_grown : IsTypedSequent e q
  goal_grown = record {
    modules = subst (AreBinders e) (sym without.modules) tt;
    logical = t.logical;
    frames = t.frames;
    memories = t.memories;
    hyps = moved (λ z. AreHypotheses z q.hyps) (λ z g w. hyps_grown e z g q.hyps w) t.hyps;
    conclusion = moved (λ z. IsConclusion z q.conclusion) (λ z g w. conclusion_grown e z g q.conclusion without.conclusion w) t.conclusion;
  }

-- Contexts of scripts.

pub each_append : (xs ys : Declarations) (c : Context) → with_each c (xs ++ ys) ≡ with_each (with_each c xs) ys
each_append [] ys c = refl
each_append (x ∷ xs) ys c = each_append xs ys (with_declared c x.0 x.1)

-- declarations leave the rest of a context as it is
each_over : (es : scope.Declarations) (c : Context) → with_each c (declared es) ≡ over (with_each c (declared es)) c
each_over [] c = refl
each_over ((n, entry.Module m) ∷ es) c = each_over es (with_declared c n (concrete_module m))
each_over ((n, entry.Lemma q order) ∷ es) c = each_over es c
each_over ((n, entry.Type t) ∷ es) c = each_over es c
each_over ((n, entry.AbstractType) ∷ es) c = each_over es c
each_over ((n, entry.ModuleType y) ∷ es) c = each_over es (with_declared c n (declaration_of (entry.ModuleType y)))
each_over ((n, entry.AbstractModule y) ∷ es) c = each_over es (with_declared c n (declaration_of (entry.AbstractModule y)))
each_over ((n, entry.Constant a) ∷ es) c = each_over es c
each_over ((n, entry.Operator o) ∷ es) c = each_over es (with_declared c n (declaration_of (entry.Operator o)))
each_over ((n, entry.AbstractOperator o) ∷ es) c = each_over es (with_declared c n (declaration_of (entry.AbstractOperator o)))
each_over ((n, entry.Terminating a) ∷ es) c = each_over es c

-- a module of which all globals may be read together stays one
has_more : (n a : Name) (b : Bool) → b ≡ true → (if bytes_eq a n then true else b) ≡ true
has_more n a b e = step (bytes_eq a n)
  where
    step : (c : Bool) → (if c then true else b) ≡ true
    step true = refl
    step false = e

more_globals : (es : scope.Declarations) (c : Context) (a : Name) → c.has_globals a ≡ true → (with_each c (declared es)).has_globals a ≡ true
more_globals [] c a e = e
more_globals ((n, entry.Module m) ∷ es) c a e = more_globals es (with_declared c n (concrete_module m)) a e
more_globals ((n, entry.Lemma q order) ∷ es) c a e = more_globals es c a e
more_globals ((n, entry.Type t) ∷ es) c a e = more_globals es c a e
more_globals ((n, entry.AbstractType) ∷ es) c a e = more_globals es c a e
more_globals ((n, entry.ModuleType y) ∷ es) c a e = more_globals es (with_declared c n (declaration_of (entry.ModuleType y))) a e
more_globals ((n, entry.AbstractModule b) ∷ es) c a e = more_globals es (with_declared c n (declaration_of (entry.AbstractModule b))) a (has_more b.name a (c.has_globals a) e)
more_globals ((n, entry.Constant k) ∷ es) c a e = more_globals es c a e
more_globals ((n, entry.Operator o) ∷ es) c a e = more_globals es (with_declared c n (declaration_of (entry.Operator o))) a e
more_globals ((n, entry.AbstractOperator o) ∷ es) c a e = more_globals es (with_declared c n (declaration_of (entry.AbstractOperator o))) a e
more_globals ((n, entry.Terminating k) ∷ es) c a e = more_globals es c a e

module _ (ds es : scope.Declarations) (typed : AreTypedAfter nothing [] (declared ds)) (later : AreTypedAfter (context_of (declared ds)) (declared ds) (declared es)) where
  abbrev c : Context
  c = context_of (declared ds)

  abbrev e : Context
  e = with_each c (declared es)

  more_known : Grown e c
  more_known = let g : Grows c e = in_later (declared ds) (declared es) typed later in (g.global, g.operator, g.procedures, more_globals es c)

  goal_typed : (q : Sequent) → IsTypedSequent c q → IsWithoutModules q → IsTypedSequent e q
  goal_typed q t without = goal_grown c e more_known (each_over es c) q t without

pub stays_typed : (ds es : scope.Declarations) → IsTypedScope (declared (ds ++ es)) → (q : Sequent) → IsTypedSequent (context_of (declared ds)) q → IsWithoutModules q →
    IsTypedSequent (context_of (declared (ds ++ es))) q
stays_typed ds es scoped q t without =
    let w = split (declared ds) (declared es) [] nothing (subst IsTypedScope (declared-append ds es) scoped) in
    subst (λ z. IsTypedSequent (context_of z) q) (sym (declared-append ds es))
    (subst (λ z. IsTypedSequent z q) (sym (each_append (declared ds) (declared es) nothing)) (goal_typed ds es w.0 w.1 q t without))
