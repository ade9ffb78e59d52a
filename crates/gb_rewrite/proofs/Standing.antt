-- The body of an operator of a typed scope is typed wherever the scope is known.
use Rattle.std.proofs.Common.{◌≡◌, ℕ, zero, suc, Bool, true, false, if◌then◌else◌, List, [], ◌∷◌, ◌++◌, get_or, map, Some, None, bytes_eq, refl, ap, ◌∙◌, subst}
use Rattle.gb_core.specs.declared.ty.Ty.{Ty}
use Rattle.gb_terms.specs.declared.module.Bind.{Bind}
use Rattle.gb_terms.specs.declared.op.Side.TheVariants as side
use Rattle.gb_terms.specs.declared.op.Side.{Side}
use Rattle.gb_terms.specs.declared.op.Read.{Read}
use Rattle.gb_terms.specs.declared.op.Read.TheVariants.{Logical, Program}
use Rattle.gb_terms.specs.declared.term.Term.{Term}
use Rattle.gb_terms.specs.declared.term.Head.TheVariants as head
use Rattle.gb_goal.specs.declared.scope.Entry.{Entry}
use Rattle.gb_goal.specs.declared.scope.Entry.TheVariants as entry
use Rattle.gb_goal.specs.declared.sequent.Sequent.{Sequent}
use Rattle.gb_goal.specs.Scope as scope
use Rattle.gb_goal.specs.Scope.{entry_of}
use Rattle.gb_meaning.specs.Names.{Name}
use Rattle.gb_meaning.specs.Written.{type_of}
use Rattle.gb_laws.specs.Plain.{IsPlain}
use Rattle.gb_meaning.specs.Declared.{Declarations, Declaration, declaration_of, declared, operator}
use Rattle.gb_laws.specs.Typing.{OperatorType}
use Rattle.gb_typing.specs.Changes.{IsLeaf}
use Rattle.gb_typing.specs.Context.{Frame, Context, frame_of}
use Rattle.gb_typing.specs.Typing.{IsIn, IsTyped}
use Rattle.gb_typing.specs.Scopes.{AreMeasured, operator_type, of_operator, nothing, with_declared, with_each, context_of, is_declared, IsFree, AreTypedAfter, IsTypedScope}
use Rattle.gb_typing.specs.Sequents.{with_modules, of_sequent}
use Rattle.gb_typing.specs.Formulas.{with_module}
use Rattle.gb_typing.proofs.Operators.{declared_more, declared_last, other_name}
use Rattle.gb_typing.proofs.Uses.{nothing_in}
use Rattle.gb_typing.proofs.Wider.{wider}
use Rattle.gb_eval.specs.Script.{body_in, body_named}
use Rattle.gb_smt_laws.proofs.Bodies.{AreDeclared, all_declared}
use Rattle.gb_smt_laws.proofs.Equations.{none_some, some_some}

-- The operator of a name has this body, which is typed over its parameters.
pub record IsStanding (c : Context) (x : Name) (b : Term) : Type 0 where
  pub params : List Ty
  pub known : c.operator x ≡ Some (record { params = params; result = type_of b })
  pub measured : AreMeasured params
  pub typed : IsTyped (of_operator c params) b
  pub plain : IsPlain b

-- Bodies read nothing.

no_frame : (ps : List Ty) (i : ℕ) → ◌≡◌ {A = Frame} (get_or (map (λ x. None) ps) i None) None
no_frame [] i = refl
no_frame (p ∷ ps) zero = refl
no_frame (p ∷ ps) (suc i) = no_frame ps i

pub no_frames : (c : Context) (ps : List Ty) (r : Side) → frame_of (of_operator c ps) r ≡ None
no_frames c ps side.Own = refl
no_frames c ps side.Left = refl
no_frames c ps side.Right = refl
no_frames c ps (side.Memory i) = refl
no_frames c ps (side.Bound i) = no_frame ps i

pub nothing_read : (c : Context) (ps : List Ty) (r : Read) (t : Ty) → IsLeaf (of_operator c ps) (head.Read r) t → ⊥
nothing_read c ps (Logical i) t w = none_some t w.0.1
nothing_read c ps (Program x r) t w = nothing_in (of_operator c ps) x t (subst (λ f. IsIn (of_operator c ps) f x t) (no_frames c ps r) w.1)

body_carried : (c d : Context) → ((n : Name) (o : OperatorType) → c.operator n ≡ Some o → d.operator n ≡ Some o) → (ps : List Ty) (b : Term) → IsPlain b → IsTyped (of_operator c ps) b → IsTyped (of_operator d ps) b
body_carried c d f ps b plain w =
    wider (of_operator c ps) (of_operator d ps) (record { operator = f; bounds = λ i t v. v; reads = λ r t v. absurd (nothing_read c ps r t v) }) b plain w

-- what is known where all is known that a context knows
pub carried : (c d : Context) → ((n : Name) (o : OperatorType) → c.operator n ≡ Some o → d.operator n ≡ Some o) → (x : Name) (b : Term) → IsStanding c x b → IsStanding d x b
carried c d f x b s = record {
  params = s.params;
  known = f x _ s.known;
  measured = s.measured;
  typed = body_carried c d f s.params b s.plain s.typed;
  plain = s.plain;
}

-- Later declarations leave the operators that are declared.

one_stays : (before : Declarations) (c : Context) (k : Name) (y : Entry) → IsFree before k → (n : Name) → is_declared before n ≡ true → (with_declared c k (declaration_of y)).operator n ≡ c.operator n
one_stays before c k (entry.Operator o) w n e =
    ap (λ (t : Bool). if t then Some (operator_type (record { params = o.params; body = o.body })) else c.operator n) (other_name before n k e w)
one_stays before c k (entry.AbstractOperator o) w n e =
    ap (λ (t : Bool). if t then Some (record { params = o.params; result = o.result }) else c.operator n) (other_name before n k e w)
one_stays before c k _ w n e = refl

all_stay : (es : scope.Declarations) (before : Declarations) (c : Context) → AreTypedAfter c before (declared es) → (n : Name) → is_declared before n ≡ true → (with_each c (declared es)).operator n ≡ c.operator n
all_stay [] before c w n e = refl
all_stay ((k, y) ∷ es) before c w n e =
    all_stay es (before ++ (k, declaration_of y) ∷ []) (with_declared c k (declaration_of y)) w.2 n (declared_more before (k, declaration_of y) n e)
    ∙ one_stays before c k y w.0 n e

-- an operator at its declaration
here : (es : scope.Declarations) (before : Declarations) (c : Context) (k : Name) (y : Entry) → AreTypedAfter c before ((k, declaration_of y) ∷ declared es) → AreDeclared c before →
    (x : Name) (b : Term) → bytes_eq x k ≡ true → body_in (Some y) ≡ Some b → IsStanding (with_each (with_declared c k (declaration_of y)) (declared es)) x b
here es before c k (entry.Operator o) w a x b q e =
    let d : Declaration = operator (record { params = o.params; body = o.body }) in
    let f : Context = with_each (with_declared c k d) (declared es) in
    let stays : (n : Name) (u : OperatorType) → c.operator n ≡ Some u → f.operator n ≡ Some u =
    λ n u h. all_stay ((k, entry.Operator o) ∷ es) before c w n (a n u h) ∙ h in
    subst (IsStanding f x) (some_some o.body b e)
    (record {
      params = o.params;
      known = all_stay es (before ++ (k, d) ∷ []) (with_declared c k d) w.2 x (declared_last before (k, d) x q)
          ∙ ap (λ (t : Bool). if t then Some (operator_type (record { params = o.params; body = o.body })) else c.operator x) q;
      measured = w.1.params;
      typed = body_carried c f stays o.params o.body w.1.plain w.1.typed;
      plain = w.1.plain;
    })
here es before c k _ w a x b q e = none_some b e

standing : (es : scope.Declarations) (before : Declarations) (c : Context) → AreTypedAfter c before (declared es) → AreDeclared c before → (x : Name) (b : Term) → body_named es x ≡ Some b →
    IsStanding (with_each c (declared es)) x b
standing [] before c w a x b e = none_some b e
standing ((k, y) ∷ es) before c w a x b e =
    step (bytes_eq x k) refl (standing es (before ++ (k, declaration_of y) ∷ []) (with_declared c k (declaration_of y)) w.2 (all_declared c before k (declaration_of y) a) x b) e
  where
    step : (t : Bool) → bytes_eq x k ≡ t → (body_named es x ≡ Some b → IsStanding (with_each (with_declared c k (declaration_of y)) (declared es)) x b) →
        body_in (if t then Some y else entry_of es x) ≡ Some b → IsStanding (with_each (with_declared c k (declaration_of y)) (declared es)) x b
    step true q rest h = here es before c k y w a x b q h
    step false q rest h = rest h

-- the modules of a goal leave the operators
pub modules_leave : (bs : List Bind) (c : Context) → (with_modules c bs).operator ≡ c.operator
modules_leave [] c = refl
modules_leave (b ∷ bs) c = modules_leave bs (with_module c b)

-- a body of a typed scope at a goal
pub body_stands : (es : scope.Declarations) → IsTypedScope (declared es) → (q : Sequent) (fs : _) → (x : Name) (b : Term) → body_named es x ≡ Some b → IsStanding (of_sequent (context_of (declared es)) q fs) x b
body_stands es w q fs x b e =
    carried (context_of (declared es)) (of_sequent (context_of (declared es)) q fs) (λ n o h. ap (λ f. f n) (modules_leave q.modules (context_of (declared es))) ∙ h) x b
    (standing es [] nothing w (λ n o h. none_some o h) x b e)
