-- Equations of all globals of a module become typed ones of the variables of its footprint.
use Rattle.std.proofs.Common.{◌≡◌, Bool, true, false, if◌then◌else◌, List, [], ◌∷◌, ◌++◌, is_some, Option, Some, None, option_map, bytes_eq, refl, ap, sym, ◌∙◌, subst, arith}
use Rattle.std.proofs.lemmas.Bool.{false≢true}
use Rattle.gb_core.specs.declared.ty.Ty.{Ty}
use Rattle.gb_core.specs.declared.ty.Ty.TheVariants as ty
use Rattle.gb_core.specs.declared.value.Value.TheVariants.{Num}
use Rattle.gb_core.specs.declared.var.Var.{Var}
use Rattle.gb_core.specs.declared.var.Var.TheVariants.{Global, Local, Glob}
use Rattle.gb_terms.specs.declared.decl.Module.{Module}
use Rattle.gb_terms.specs.declared.decl.TypedName.{TypedName}
use Rattle.gb_terms.specs.declared.module.Bind.{Bind}
use Rattle.gb_terms.specs.declared.module.Mexp.{Mexp}
use Rattle.gb_terms.specs.declared.op.Op.{Op}
use Rattle.gb_terms.specs.declared.op.Op.TheVariants as op
use Rattle.gb_terms.specs.declared.op.Read.TheVariants as read
use Rattle.gb_terms.specs.declared.op.Side.{Side}
use Rattle.gb_terms.specs.declared.term.Head.TheVariants.{Builtin, Lit, Read}
use Rattle.gb_terms.specs.declared.term.Term.{Term}
use Rattle.gb_terms.specs.Make.{applied}
use Rattle.gb_goal.specs.declared.scope.Entry.{Entry}
use Rattle.gb_goal.specs.declared.scope.Entry.TheVariants as entry
use Rattle.gb_goal.specs.Scope as scope
use Rattle.gb_goal.specs.Scope.{abstract_of, as_module, entry_of, module_of}
use Rattle.gb_names.specs.Names.{ModuleVariable, first_named, global_in, global_variable}
use Rattle.gb_elab.specs.Globs.{agreed, agreements, agrees, behind_if, global_named, is_abstract, true_if_none, whole_agrees, whole_value, with_agreement}
use Rattle.gb_meaning.specs.Names.{Name}
use Rattle.gb_meaning.specs.Written.{local_type, type_of}
use Rattle.gb_meaning.specs.Declared.{Declarations, declaration_of, declared}
use Rattle.gb_laws.specs.Finite.{IsVariableType}
use Rattle.gb_laws.specs.Operators.{IsOperator}
use Rattle.gb_typing.specs.Changes.{Made}
use Rattle.gb_typing.specs.Context.{Context}
use Rattle.gb_typing.specs.Scopes.{nothing, with_declared, with_each, context_of, AreTypedAfter, IsTypedScope}
use Rattle.gb_typing.specs.Typing.{IsTyped}
use Rattle.gb_typing.proofs.Declaring.{KnowsDeclared, knows_next, knows_nothing, more_each}
use Rattle.gb_typing.proofs.Interfaces.{itself, none_some, same_name, same_some}
use Rattle.gb_typing.proofs.Literals.{bool_literal}
use Rattle.gb_typing.proofs.Made.{made_node}
use Rattle.gb_typing.proofs.Substituted.{finite_no_distribution}
use Rattle.gb_typing.proofs.Together.{all_together}
use Rattle.gb_typing.proofs.Variables.{variable_finite}
use Rattle.gb_instances.specs.Footprint.{footprint_at}
use Rattle.gb_arguments.specs.Led.{IsAround, IsReadable, IsTypedAgreement}
use Rattle.gb_instances.specs.Put.{agreement_of, agreement_or}
use Rattle.gb_arguments.proofs.PlainContexts.{scope_plain}

-- The globals of declared modules.

-- the first variable of a name has the type of that name
found_local : (ls : List TypedName) (x : Name) (v : TypedName) → first_named ls x ≡ Some v → (bytes_eq v.name x ≡ true) × (local_type ls v.name ≡ Some v.ty)
found_local [] x v e = none_some v e
found_local (l ∷ ls) x v e = step (bytes_eq l.name x) refl e (found_local ls x v)
  where
    type_here : l ≡ v → local_type (l ∷ ls) v.name ≡ Some v.ty
    type_here s = subst (λ (z : TypedName). local_type (l ∷ ls) z.name ≡ Some z.ty) s (ap (λ b. if b then Some l.ty else local_type ls l.name) (itself l.name))

    -- the variable in front has another name
    other : bytes_eq l.name x ≡ false → bytes_eq v.name x ≡ true → (b : Bool) → bytes_eq v.name l.name ≡ b → b ≡ false
    other k i true h = absurd (false≢true (sym k ∙ ap (λ z. bytes_eq z x) (sym (same_name v.name l.name h)) ∙ i))
    other k i false h = refl

    step : (b : Bool) → bytes_eq l.name x ≡ b → (if b then Some l else first_named ls x) ≡ Some v → (first_named ls x ≡ Some v → (bytes_eq v.name x ≡ true) × (local_type ls v.name ≡ Some v.ty)) →
        (bytes_eq v.name x ≡ true) × (local_type (l ∷ ls) v.name ≡ Some v.ty)
    step true k e go = let s = same_some l v e in (ap (λ (z : TypedName). bytes_eq z.name x) (sym s) ∙ k, type_here s)
    step false k e go =
        let f = go e in (f.0, ap (λ b. if b then Some l.ty else local_type ls v.name) (other k f.0 (bytes_eq v.name l.name) refl) ∙ f.1)

global_after : (ds : scope.Declarations) (before : Declarations) (c : Context) → AreTypedAfter c before (declared ds) → KnowsDeclared before c → (n : Name) (m : Module) →
    entry_of ds n ≡ Some (entry.Module m) → (x : Name) (t : Ty) → local_type m.globals x ≡ Some t → (with_each c (declared ds)).global n x ≡ Some t
global_after [] before c w k n m e x t l = none_some (entry.Module m) e
global_after ((h, y) ∷ ds) before c w k n m e x t l =
    step (bytes_eq n h) refl e
    (λ e. global_after ds (before ++ (h, declaration_of y) ∷ []) (with_declared c h (declaration_of y)) w.2 (knows_next c h before k (declaration_of y) w.1) n m e x t l)
  where
    here : bytes_eq n h ≡ true → y ≡ entry.Module m → (with_each (with_declared c h (declaration_of y)) (declared ds)).global n x ≡ Some t
    here q s =
        let g = more_each (declared ds) (before ++ (h, declaration_of y) ∷ []) (with_declared c h (declaration_of y)) w.2 (knows_next c h before k (declaration_of y) w.1) in
        g.global n x t
        (subst (λ z. (with_declared c h (declaration_of z)).global n x ≡ Some t) (sym s) (ap (λ (b : Bool). if b then local_type m.globals x else c.global n x) q ∙ l))

    step : (b : Bool) → bytes_eq n h ≡ b → (if b then Some y else entry_of ds n) ≡ Some (entry.Module m) →
        (entry_of ds n ≡ Some (entry.Module m) → (with_each (with_declared c h (declaration_of y)) (declared ds)).global n x ≡ Some t) →
        (with_each (with_declared c h (declaration_of y)) (declared ds)).global n x ≡ Some t
    step true q e go = here q (same_some y (entry.Module m) e)
    step false q e go = go e

module_entry : (o : Option Entry) (m : Module) → as_module o ≡ Some m → o ≡ Some (entry.Module m)
module_entry (Some (entry.Module r)) m e = ap (λ z. Some (entry.Module z)) (same_some r m e)
module_entry _ m e = none_some m e

module _ (ds : scope.Declarations) (scoped : IsTypedScope (declared ds)) where
  -- a declared global is known at a type of variables
  abbrev IsThere : ModuleVariable → Type 0
  IsThere g = ((context_of (declared ds)).global g.0 g.1.name ≡ Some g.1.ty) × IsVariableType g.1.ty

  mapped_there : (n x : Name) (o : Option Module) → module_of ds n ≡ o → (g : ModuleVariable) → global_in n o x ≡ Some g → IsThere g
  mapped_there n x None e g k = none_some g k
  mapped_there n x (Some m) e g k = step (first_named m.globals x) refl k
    where
      there : (v : TypedName) → first_named m.globals x ≡ Some v → IsThere (n, v)
      there v f =
          let type = global_after ds [] nothing scoped knows_nothing n m (module_entry (entry_of ds n) m e) v.name v.ty (found_local m.globals x v f).1 in
          (type, (let p = scope_plain (declared ds) scoped in p.globals n v.name v.ty type))

      step : (o : Option TypedName) → first_named m.globals x ≡ o → option_map (λ v. (let z : ModuleVariable = (n, v) in z)) o ≡ Some g → IsThere g
      step None f k = none_some g k
      step (Some v) f k = subst IsThere (same_some (n, v) g k) (there v f)

  global_there : (x : Var) (g : ModuleVariable) → global_named ds x ≡ Some g → IsThere g
  global_there (Global n x) g e = mapped_there n x (module_of ds n) refl g e
  global_there (Local x) g e = none_some g e
  global_there (Glob a) g e = none_some g e

  -- Two memories that may be read.
  module _ (a : Context) (globals : a.global ≡ (context_of (declared ds)).global) (whole : a.has_globals ≡ (context_of (declared ds)).has_globals) (c : Context) (around : IsAround a c)
      (s r : Side) (left : IsReadable c s) (right : IsReadable c r) where
    abbrev IsTruth : Term → Type 0
    IsTruth t = Made c ty.Bool t

    abbrev IsTruthIf : Option Term → Type 0
    IsTruthIf None = Unit {0}
    IsTruthIf (Some t) = IsTruth t

    both_made : (o : Op) (t : Ty) (x y : Term) → IsOperator o (t ∷ t ∷ []) ty.Bool → Made c t x → Made c t y → IsTruth (applied o (x ∷ y ∷ []) ty.Bool)
    both_made o t x y w m n = made_node c (Builtin o) (t ∷ t ∷ []) (x ∷ y ∷ []) ty.Bool w tt [] (m, n)

    known_there : (g : ModuleVariable) → IsThere g → c.global g.0 g.1.name ≡ Some g.1.ty
    known_there g k = (λ i. (around.0 ∙ globals) i g.0 g.1.name) ∙ k.0

    global_made : (i : Side) → IsReadable c i → (g : ModuleVariable) → IsThere g → Made c g.1.ty (global_variable i g)
    global_made i w g k =
        made_node c (Read (read.Program (Global g.0 g.1.name) i)) [] [] g.1.ty (w.0, variable_finite g.1.ty k.1, known_there g k) (w.1, known_there g k) [] tt

    agrees_made : (g : ModuleVariable) → IsThere g → IsTruth (agrees s r g)
    agrees_made g k =
        both_made op.Equal g.1.ty (global_variable s g) (global_variable r g) (finite_no_distribution g.1.ty (variable_finite g.1.ty k.1), refl, refl)
        (global_made s left g k) (global_made r right g k)

    together : (n : Name) → is_some (abstract_of ds n) ≡ true → c.has_globals n ≡ true
    together n e = (λ i. (around.1 ∙ whole) i n) ∙ all_together ds scoped n e

    whole_made : (i : Side) → IsReadable c i → (n : Name) → is_some (abstract_of ds n) ≡ true → Made c (ty.Glob n) (whole_value i n)
    whole_made i w n e = made_node c (Read (read.Program (Glob n) i)) [] [] (ty.Glob n) (w.0, refl) (w.1, together n e, refl) [] tt

    whole_agreed : (n : Name) (o : Option Bind) → abstract_of ds n ≡ o → IsTruthIf (option_map (λ b. whole_agrees s r n) o)
    whole_agreed n None e = tt
    whole_agreed n (Some b) e =
        both_made op.Equal (ty.Glob n) (whole_value s n) (whole_value r n) (tt, refl, refl) (whole_made s left n (ap is_some e)) (whole_made r right n (ap is_some e))

    global_agreed : (x : Var) (o : Option ModuleVariable) → global_named ds x ≡ o → IsTruthIf (option_map (agrees s r) o)
    global_agreed x None e = tt
    global_agreed x (Some g) e = agrees_made g (global_there x g e)

    agreed_made : (x : Var) → IsTruthIf (agreed ds s r x)
    agreed_made (Glob n) = whole_agreed n (abstract_of ds n) refl
    agreed_made (Global n x) = global_agreed (Global n x) (global_named ds (Global n x)) refl
    agreed_made (Local x) = tt

    behind_made : (o : Option Term) (e : Term) → IsTruthIf o → IsTruth e → IsTruth (behind_if o e)
    behind_made None e h k = k
    behind_made (Some f) e h k = both_made op.And ty.Bool f e (refl, (refl, (refl, tt))) h k

    with_made : (o q : Option Term) → IsTruthIf o → IsTruthIf q → IsTruthIf (with_agreement o q)
    with_made o None h k = h
    with_made o (Some f) h k = behind_made o f h k

    agreements_made : (o : Option Term) (xs : List Var) → IsTruthIf o → IsTruthIf (agreements ds s r o xs)
    agreements_made o [] h = h
    agreements_made o (x ∷ xs) h = agreements_made (with_agreement o (agreed ds s r x)) xs (with_made o (agreed ds s r x) h (agreed_made x))

    true_made : (o : Option Term) → IsTruthIf o → IsTruth (true_if_none o)
    true_made None h = made_node c (Lit (Num 1)) [] [] ty.Bool (bool_literal 1 (omega arith)) tt [] tt
    true_made (Some f) h = h

  -- the equations of a module of which it is known what it touches, in each context with these globals
  pub agreement_typed : (a : Context) → a.global ≡ (context_of (declared ds)).global → a.has_globals ≡ (context_of (declared ds)).has_globals → (e : Mexp) → is_abstract ds e ≡ false →
      (xs : List Var) → footprint_at ds e ≡ Some xs → IsTypedAgreement ds a e
  agreement_typed a globals whole e k xs h c around s r left right f =
      let m = true_made a globals whole c around s r left right (agreements ds s r None xs) (agreements_made a globals whole c around s r left right None xs tt) in
      subst (λ t. IsTyped c t × (type_of t ≡ ty.Bool)) (sym same) (m.typed, m.written)
    where
      same : agreement_of ds f s r e ≡ true_if_none (agreements ds s r None xs)
      same = ap (λ (b : Bool). if b then f else agreement_or ds f s r (footprint_at ds e)) k ∙ ap (agreement_or ds f s r) h
