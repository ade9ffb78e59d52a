-- What is typed has the wanted type.
use Rattle.std.proofs.Common.{◌≡◌, ℕ, ◌==◌, ◌^◌, nat_lt, pos, Bool, true, false, ◌&&◌, if◌then◌else◌, List, [], ◌∷◌, ◌++◌, reverse, length, Option, Some, None, is_none, refl, ap, sym, subst, ◌∙◌}
use Rattle.std.specs.Option.{option_map, option_map_or}
use Rattle.gb_core.specs.declared.place.Place.{Place}
use Rattle.gb_core.specs.declared.refusal.Why.{Why}
use Rattle.gb_core.specs.declared.refusal.Why.TheVariants.{Syntax, TypeMismatch, TypeTooLarge, Argument}
use Rattle.gb_core.specs.declared.ty.Ty.{Ty}
use Rattle.gb_core.specs.declared.ty.Ty.TheVariants as ty
use Rattle.gb_core.specs.declared.ty.Ty.TheVariants.{Bool as bool_ty, Distr}
use Rattle.gb_core.specs.declared.value.Value.TheVariants.{Num}
use Rattle.gb_core.specs.declared.var.Var.{Var}
use Rattle.gb_core.specs.declared.var.Var.TheVariants.{Glob, Global, Local}
use Rattle.gb_limits.specs.Numbers.{number_of}
use Rattle.gb_core.proofs.SameTypes.{ty_eq-Decides}
use Rattle.gb_core.specs.SameTypes.{ty_eq}
use Rattle.gb_names.specs.declared.bindings.Binding.{Binding}
use Rattle.gb_names.specs.Bindings.{value}
use Rattle.gb_names.specs.declared.bindings.Kind.{Kind}
use Rattle.gb_names.specs.declared.bindings.Kind.TheVariants.{Value, Memory}
use Rattle.gb_terms.specs.declared.op.Op.{Op}
use Rattle.gb_terms.specs.declared.op.Op.TheVariants as op
use Rattle.gb_terms.specs.declared.op.Rel.{Rel}
use Rattle.gb_terms.specs.declared.op.Rel.TheVariants as rel
use Rattle.gb_terms.specs.declared.op.Side.{Side}
use Rattle.gb_terms.specs.declared.op.Side.TheVariants as side
use Rattle.gb_terms.specs.declared.term.Term.{Term}
use Rattle.gb_terms.specs.declared.term.Head.{Head as TermHead}
use Rattle.gb_terms.specs.declared.term.Head.TheVariants.{Lit, User, Whole, Builtin, All, Some as Exist, AllMemory, SomeMemory, Equiv, Hoare, Phoare, Pr, Proc as procedure}
use Rattle.gb_terms.specs.declared.term.Head.TheViews.{out-roll-Term}
use Rattle.gb_terms.specs.Make.{node, applied, truth_literal}
use Rattle.gb_script.specs.declared.head.Head.{Head}
use Rattle.gb_script.specs.declared.head.Head.TheVariants as head
use Rattle.gb_script.specs.declared.tree.Node.{Node}
use Rattle.gb_script.specs.Tree.{head_of, text_of, parts_of, place_of}
use Rattle.gb_goal.specs.Answers.{Answer, ◌>>=◌, given_or}
use Rattle.gb_goal.specs.Answers.Answer.{given, refused}
use Rattle.gb_goal.specs.declared.scope.Constant.{Constant}
use Rattle.gb_goal.specs.Scope.{Declarations, abstract_of}
use Rattle.gb_mods.specs.Footprint.{footprint}
use Rattle.gb_goal.specs.declared.scope.OperatorType.{OperatorType}
use Rattle.gb_names.specs.declared.binders.Quantifier.{Quantifier}
use Rattle.gb_names.specs.declared.binders.Quantifier.TheVariants.{Forall, Exists}
use Rattle.gb_names.specs.declared.names.Known.{Known}
use Rattle.gb_names.specs.declared.names.Known.TheVariants as known
use Rattle.gb_names.specs.Allowed.{coin, distribution_here, formula, has_judgments, is_program, judgment, may_have, stands}
use Rattle.gb_names.specs.Binders.{bound_by, over, over_all, quantifier_of}
use Rattle.gb_names.specs.Environment.{Environment, on_side}
use Rattle.gb_names.specs.Judgments.{Named, both_procedures, called, one_procedure, before, after, equivalent}
use Rattle.gb_terms.specs.declared.module.Bind.{Bind}
use Rattle.gb_terms.specs.declared.module.Mexp.{Mexp}
use Rattle.gb_terms.specs.SameModules.{mexp_eq}
use Rattle.gb_names.specs.Names.{ModuleVariable, constant_at, global_variable, known_at, memory_at, operator_at, named, path, sided, unit}
use Rattle.gb_names.specs.Types.{type_of, type_or_number}
use Rattle.gb_names.specs.Wanted.{HasType, fits, truth, type_of_term, wanted}
use Rattle.gb_names.proofs.Nodes.{said, Known as Told, parts, by_parts}
use Rattle.gb_operators.specs.declared.domain.Domain.{Domain}
use Rattle.gb_operators.specs.declared.operators.Operator.{Operator}
use Rattle.gb_operators.specs.declared.rules.Rule.{Rule}
use Rattle.gb_operators.specs.declared.rules.Rule.TheVariants as rule
use Rattle.gb_operators.specs.Constants.{constant, literal, open_constant}
use Rattle.gb_operators.specs.Domain.{type_in, written_as}
use Rattle.gb_operators.specs.Drawn.{uniform}
use Rattle.gb_operators.specs.Kinds.{is_small, outcome}
use Rattle.gb_operators.specs.Literals.{as_whole, bound_of, holds, number, numeral, part_number}
use Rattle.gb_operators.specs.Open.{right_first}
use Rattle.gb_operators.specs.Operators.{operator_of, part_wanted}
use Rattle.gb_operators.specs.Rules.{asked, made, rule_for, rule_of, user_made}
use Rattle.gb_weights.specs.Weights.{outcomes, stated, weighed_all, weights}
use Rattle.gb_elab.specs.declared.contract.Contract.{Contract}
use Rattle.gb_elab.specs.OneProcedure.{after_one, always, around, ends, lossless, one, relation, with_chance}
use Rattle.gb_elab.specs.Probability.{before_call, chance, chance_here}
use Rattle.gb_elab.specs.Equalities.{equalities, equality, equation, equation_of, joined, with_equalities}
use Rattle.gb_elab.specs.Globs.{Seen, agreed, agreement, agreement_on, agreements, agrees, as_value, bare_glob, behind_if, both_whole, same_globals, global_named, owner, true_if_none, two_owners, whole_agrees, whole_alone, whole_equation, whole_read, whole_value, with_agreement}
use Rattle.gb_elab.specs.Forms.{Meaning, Part, Typing, annotated, applied as applied_name, applied_form, application, bare, bounded, bracketed, bracketed_function, by_rule, call, comparing, contract, declared, equivalence, function_typing, hoare, meaning, meant, only, operand, operands, operation, operator_alone, plain_function, probability, projection, quantified, read, simple, summed, typed_function, typing, under, user_call, value_of, with_side}

refused_not : {A : Type 0} (w : Why) (p : Place) (y : A) → refused w p ≡ given y → (C : Type 0) → C
refused_not w p y h C = cc

-- what is given after a step is given by the step and what follows
pub given_bind : {A B : Type 0} (a : Answer A) (k : A → Answer B) (y : B) → (a >>= k) ≡ given y → (x : A) × (a ≡ given x) × (k x ≡ given y)
given_bind (given x) k y h = (x, refl, h)
given_bind {A} {B} (refused w p) k y h = refused_not w p y h _

pub given_is : {A : Type 0} (x y : A) → given x ≡ given y → x ≡ y
given_is x y h = cc

if_given : {A : Type 0} (b : Bool) (x : A) (w : Why) (p : Place) (y : A) → (if b then given x else refused w p) ≡ given y → (b ≡ true) × (x ≡ y)
if_given true x w p y h = (refl, given_is x y h)
if_given false x w p y h = refused_not w p y h _

if_refused : {A : Type 0} (b : Bool) (w : Why) (p : Place) (a : Answer A) (y : A) → (if b then refused w p else a) ≡ given y → a ≡ given y
if_refused true w p a y h = refused_not w p y h _
if_refused false w p a y h = h

if_else_refused : {A : Type 0} (b : Bool) (w : Why) (p : Place) (a : Answer A) (y : A) → (if b then a else refused w p) ≡ given y → a ≡ given y
if_else_refused true w p a y h = h
if_else_refused false w p a y h = refused_not w p y h _

fits_has : (w : Option Ty) (t : Term) → fits w (type_of_term t) ≡ true → HasType w t
fits_has None t h = tt
fits_has (Some ty) t h = (ty_eq-Decides (type_of_term t) ty).0 h

wanted_has : (w : Option Ty) (p : Place) (t u : Term) → wanted w p t ≡ given u → HasType w u
wanted_has w p t u h = let q = if_given (fits w (type_of_term t)) t TypeMismatch p u h in subst (HasType w) q.1 (fits_has w t q.0)

truth_has : (w : Option Ty) (p : Place) (x : Unit {0}) (u : Term) → truth w p ≡ given x → type_of_term u ≡ bool_ty → HasType w u
truth_has None p x u h e = tt
truth_has (Some ty) p x u h e = let q = if_given (fits (Some ty) bool_ty) tt TypeMismatch p x h in e ∙ (ty_eq-Decides bool_ty ty).0 q.0

formula_has : (at : Environment) (w : Option Ty) (p : Place) (x : Unit {0}) (u : Term) → formula at w p ≡ given x → type_of_term u ≡ bool_ty → HasType w u
formula_has at w p x u h e = truth_has w p x u (if_refused (is_program at.language) Argument p (truth w p) x h) e

judgment_has : (at : Environment) (w : Option Ty) (p : Place) (x : Unit {0}) (u : Term) → judgment at w p ≡ given x → type_of_term u ≡ bool_ty → HasType w u
judgment_has at w p x u h e = truth_has w p x u (if_else_refused (has_judgments at.language) Argument p (truth w p) x h) e

node_type : (h : TermHead) (ts : List Term) (ty : Ty) → type_of_term (node h ts ty) ≡ ty
node_type h ts ty = ap (λ z. z.ty) (out-roll-Term (record { head = h; args = ts; ty = ty }))

given_node : (h : TermHead) (ts : List Term) (ty : Ty) (u : Term) → given (node h ts ty) ≡ given u → type_of_term u ≡ ty
given_node h ts ty u e = ap type_of_term (sym (given_is (node h ts ty) u e)) ∙ node_type h ts ty

equality_type : (at : Environment) (bound : List Binding) (x : List ℕ) (p : Place) (u : Term) → equality at bound x p ≡ given u → type_of_term u ≡ bool_ty
unfolding equality
equality_type at bound x p u h =
    let same = λ (l r : Term). if ty_eq (type_of_term r) (type_of_term l) then given (applied op.Equal (l ∷ r ∷ []) bool_ty) else refused TypeMismatch p in
    let l = given_bind (sided at bound x side.Left p) (λ l. sided at bound x side.Right p >>= λ r. same l r) u h in
    let r = given_bind (sided at bound x side.Right p) (λ r. same l.0 r) u l.2 in
    let q = if_given (ty_eq (type_of_term r.0) (type_of_term l.0)) (applied op.Equal (l.0 ∷ r.0 ∷ []) bool_ty) TypeMismatch p u r.2 in
    ap type_of_term (sym q.1) ∙ node_type (Builtin op.Equal) (l.0 ∷ r.0 ∷ []) bool_ty

-- where a form is a truth, if there is one
abbrev IsTruthIf : Option Term → Type 0
IsTruthIf None = Unit {0}
IsTruthIf (Some t) = type_of_term t ≡ bool_ty

behind_type : (o : Option Term) (e : Term) → type_of_term e ≡ bool_ty → type_of_term (behind_if o e) ≡ bool_ty
behind_type None e k = k
behind_type (Some f) e k = node_type (Builtin op.And) (f ∷ e ∷ []) bool_ty

with_type : (o q : Option Term) → IsTruthIf o → IsTruthIf q → IsTruthIf (with_agreement o q)
with_type o None h k = h
with_type o (Some f) h k = behind_type o f k

agrees_type : (s r : Side) (g : Option ModuleVariable) → IsTruthIf (option_map (agrees s r) g)
agrees_type s r None = tt
agrees_type s r (Some g) = node_type (Builtin op.Equal) (global_variable s g ∷ global_variable r g ∷ []) bool_ty

whole_type : (s r : Side) (a : List ℕ) (b : Option Bind) → IsTruthIf (option_map (λ b. whole_agrees s r a) b)
whole_type s r a None = tt
whole_type s r a (Some b) = node_type (Builtin op.Equal) (whole_value s a ∷ whole_value r a ∷ []) bool_ty

agreed_type : (ds : Declarations) (s r : Side) (x : Var) → IsTruthIf (agreed ds s r x)
agreed_type ds s r (Glob a) = whole_type s r a (abstract_of ds a)
agreed_type ds s r (Global n x) = agrees_type s r (global_named ds (Global n x))
agreed_type ds s r (Local x) = tt

agreements_type : (ds : Declarations) (s r : Side) (o : Option Term) (xs : List Var) → IsTruthIf o → IsTruthIf (agreements ds s r o xs)
agreements_type ds s r o [] h = h
agreements_type ds s r o (x ∷ xs) h = agreements_type ds s r (with_agreement o (agreed ds s r x)) xs (with_type o (agreed ds s r x) h (agreed_type ds s r x))

all_type : (o : Option Term) → IsTruthIf o → type_of_term (true_if_none o) ≡ bool_ty
all_type None h = node_type (Lit (Num 1)) [] bool_ty
all_type (Some f) h = h

agreement_on_type : (ds : Declarations) (s r : Side) (p : Place) (o : Option (List Var)) (u : Term) → agreement_on ds s r p o ≡ given u → type_of_term u ≡ bool_ty
agreement_on_type ds s r p None u h = refused_not Syntax p u h _
agreement_on_type ds s r p (Some xs) u h = ap type_of_term (sym (given_is _ u h)) ∙ all_type (agreements ds s r None xs) (agreements_type ds s r None xs tt)

same_globals_type : (at : Environment) (bound : List Binding) (m : Node) (u : Term) → same_globals at bound m ≡ given u → type_of_term u ≡ bool_ty
same_globals_type at bound m u h =
    let n = given_bind (owner at bound m) (λ n. agreement at.declared n side.Left side.Right (place_of m)) u h in
    agreement_on_type at.declared side.Left side.Right (place_of m) (footprint at.declared n.0) u n.2

-- an equation of two modules is none
two_not : (ds : Declarations) (l r : Mexp × Side) (p q : Place) (u : Term) → two_owners ds l r p q ≡ given u → (C : Type 0) → C
two_not ds l r p q u h C =
    let a = given_bind (as_value ds l p) (λ _. as_value ds r q >>= λ _. refused TypeMismatch q) u h in
    let b = given_bind (as_value ds r q) (λ _. refused TypeMismatch q) u a.2 in
    refused_not TypeMismatch q u b.2 C

either_type : (b : Bool) (x y : Answer Term) (u : Term) → (x ≡ given u → type_of_term u ≡ bool_ty) → (y ≡ given u → type_of_term u ≡ bool_ty) → (if b then x else y) ≡ given u → type_of_term u ≡ bool_ty
either_type true x y u f g h = f h
either_type false x y u f g h = g h

whole_equation_has : (at : Environment) (bound : List Binding) (w : Option Ty) (p : Place) (a b : Seen) (u : Term) → whole_equation at bound w p a b ≡ given u → HasType w u
whole_equation_has at bound w p a b u h =
    let end = λ (l r : Mexp × Side). if mexp_eq l.0 r.0 then agreement at.declared l.0 l.1 r.1 p else two_owners at.declared l r a.2 b.2 in
    let q = given_bind (truth w p) (λ _. whole_read at bound a >>= λ l. whole_read at bound b >>= λ r. end l r) u h in
    let l = given_bind (whole_read at bound a) (λ l. whole_read at bound b >>= λ r. end l r) u q.2 in
    let r = given_bind (whole_read at bound b) (λ r. end l.0 r) u l.2 in
    truth_has w p q.0 u q.1
    (either_type (mexp_eq l.0.0 r.0.0) (agreement at.declared l.0.0 l.0.1 r.0.1 p) (two_owners at.declared l.0 r.0 a.2 b.2) u
    (agreement_on_type at.declared l.0.1 r.0.1 p (footprint at.declared l.0.0) u)
    (λ e. two_not at.declared l.0 r.0 a.2 b.2 u e (type_of_term u ≡ bool_ty)) r.2)

equation_type : (at : Environment) (bound : List Binding) (h : Head) (x : List ℕ) (ts : List Node) (p : Place) (u : Term) → equation at bound h x ts p ≡ given u → type_of_term u ≡ bool_ty
equation_type at bound head.Name x ts p u h = equality_type at bound x p u h
equation_type at bound head.Path x ts p u h = equality_type at bound (path ts) p u h
equation_type at bound head.EquatedGlob x (m ∷ []) p u h = same_globals_type at bound m u h
equation_type at bound _ x ts p u h = refused_not Syntax p u h _

with_equalities_type : (at : Environment) (bound : List Binding) (f : Term) (xs : List Node) (u : Term) → type_of_term f ≡ bool_ty → with_equalities at bound f xs ≡ given u → type_of_term u ≡ bool_ty
unfolding with_equalities
with_equalities_type at bound f [] u e h = ap type_of_term (sym (given_is f u h)) ∙ e
with_equalities_type at bound f (x ∷ xs) u e h =
    let q = given_bind (equation_of at bound x) (λ g. with_equalities at bound (applied op.And (f ∷ g ∷ []) bool_ty) xs) u h in
    with_equalities_type at bound (applied op.And (f ∷ q.0 ∷ []) bool_ty) xs u (node_type (Builtin op.And) (f ∷ q.0 ∷ []) bool_ty) q.2

joined_type : (at : Environment) (bound : List Binding) (xs : List Node) (u : Term) → joined at bound xs ≡ given u → type_of_term u ≡ bool_ty
unfolding joined
joined_type at bound [] u h = given_node (Lit (Num 1)) [] bool_ty u h
joined_type at bound (x ∷ xs) u h =
    let q = given_bind (equation_of at bound x) (λ e. with_equalities at bound e xs) u h in
    with_equalities_type at bound q.0 xs u (equation_type at bound (head_of x) (text_of x) (parts_of x) (place_of x) q.0 q.1) q.2

equalities_has : (at : Environment) (bound : List Binding) (xs : List Node) (w : Option Ty) (p : Place) (u : Term) → equalities at bound xs w p ≡ given u → HasType w u
unfolding equalities
equalities_has at bound xs w p u h =
    let k = if_refused (is_none (on_side at side.Left)) Argument p (truth w p >>= λ _. joined at bound xs) u h in
    let q = given_bind (truth w p) (λ _. joined at bound xs) u k in
    truth_has w p q.0 u q.1 (joined_type at bound xs u q.2)

over_type : (q : Quantifier) (k : Kind) (f : Term) → type_of_term (over q k f) ≡ bool_ty
over_type Forall (Value t) f = node_type (All t) (f ∷ []) bool_ty
over_type Exists (Value t) f = node_type (Exist t) (f ∷ []) bool_ty
over_type Forall Memory f = node_type AllMemory (f ∷ []) bool_ty
over_type Exists Memory f = node_type SomeMemory (f ∷ []) bool_ty

over_all_type : (q : Quantifier) (vs : List Binding) (f : Term) → type_of_term f ≡ bool_ty → type_of_term (over_all q vs f) ≡ bool_ty
over_all_type q [] f e = e
over_all_type q (v ∷ vs) f e = over_type q v.kind (over_all q vs f)

quantified_type : (q : Quantifier) (vs : List Binding) (f u : Term) → given (over_all q vs f) ≡ given u → type_of_term f ≡ bool_ty → type_of_term u ≡ bool_ty
quantified_type q vs f u h e = ap type_of_term (sym (given_is (over_all q vs f) u h)) ∙ over_all_type q vs f e

stands_has : (at : Environment) (w : Option Ty) (p : Place) (t : Ty) (x : Unit {0}) (u : Term) → stands at w p t ≡ given x → type_of_term u ≡ t → HasType w u
stands_has at w p t x u h e =
    let q = if_given (fits w t) tt TypeMismatch p x (if_else_refused (may_have at.language t) Argument p (if fits w t then given tt else refused TypeMismatch p) x h) in
    fits_has w u (ap (fits w) e ∙ q.0)

coin_has : (at : Environment) (w : Option Ty) (p : Place) (u : Term) → coin at w p ≡ given u → HasType w u
coin_has at w p u h =
    let c = node (Builtin op.Coin) [] (Distr bool_ty) in
    let q = given_bind (distribution_here at p) (λ _. wanted w p c) u h in wanted_has w p c u q.2

open_has : (o : Op) (f : Ty → Bool) (w : Option Ty) (p : Place) (u : Term) → open_constant o f w p ≡ given u → HasType w u
open_has o f None p u h = tt
open_has o f (Some t) p u h = let q = if_given (f t) (applied o [] t) TypeMismatch p u h in ap type_of_term (sym q.1) ∙ node_type (Builtin o) [] t

constant_has : (k : Known) (w : Option Ty) (p : Place) (u : Term) → constant k w p ≡ given u → HasType w u
constant_has known.True w p u h = wanted_has w p _ u h
constant_has known.False w p u h = wanted_has w p _ u h
constant_has known.Unit w p u h = wanted_has w p _ u h
constant_has known.None w p u h = open_has op.None _ w p u h
constant_has known.Empty w p u h = open_has op.Empty _ w p u h
constant_has _ w p u h = refused_not TypeMismatch p u h (HasType w u)

whole_has : (at : Environment) (n : ℕ) (w : Option Ty) (p : Place) (u : Term) → as_whole at n w p ≡ given u → HasType w u
whole_has at n w p u h =
    let q = given_bind (stands at w p ty.Int) (λ _. given (node (Whole (pos n)) [] ty.Int)) u h in
    stands_has at w p ty.Int q.0 u q.1 (given_node (Whole (pos n)) [] ty.Int u q.2)

held_has : (b : Bool) (at : Environment) (n : ℕ) (t : Ty) (p : Place) (u : Term) → (if b then given (node (Lit (Num n)) [] t) else as_whole at n (Some t) p) ≡ given u → HasType (Some t) u
held_has true at n t p u h = given_node (Lit (Num n)) [] t u h
held_has false at n t p u h = whole_has at n (Some t) p u h

number_has : (at : Environment) (n : ℕ) (w : Option Ty) (p : Place) (u : Term) → number at n w p ≡ given u → HasType w u
number_has at n None p u h = tt
number_has at n (Some t) p u h = held_has (nat_lt n (2 ^ 63) && holds n t) at n t p u h

numeral_has : (at : Environment) (x : List ℕ) (w : Option Ty) (p : Place) (u : Term) → numeral at x w p ≡ given u → HasType w u
numeral_has at x w p u h = number_has at (number_of x) w p u (if_else_refused (nat_lt (number_of x) (2 ^ 127)) Syntax p (number at (number_of x) w p) u h)

uniform_has : (ts : List Node) (p : Place) (at : Environment) (w : Option Ty) (u : Term) → uniform ts p at w ≡ given u → HasType w u
uniform_has (s ∷ []) p at w u h =
    let end = λ (t : Ty). if is_small t then given (node (Builtin op.Uniform) [] (Distr t)) else refused TypeTooLarge p in
    let over = λ (t : Ty). stands at w p (Distr t) >>= λ _. end t in
    let d = given_bind (distribution_here at p) (λ _. part_wanted outcome w p >>= λ _. type_of at.declared s >>= over) u h in
    let v = given_bind (part_wanted outcome w p) (λ _. type_of at.declared s >>= over) u d.2 in
    let t = given_bind (type_of at.declared s) over u v.2 in
    let q = given_bind (stands at w p (Distr t.0)) (λ _. end t.0) u t.2 in
    let r = if_given (is_small t.0) (node (Builtin op.Uniform) [] (Distr t.0)) TypeTooLarge p u q.2 in
    stands_has at w p (Distr t.0) q.0 u q.1 (ap type_of_term (sym r.1) ∙ node_type (Builtin op.Uniform) [] (Distr t.0))
uniform_has _ p at w u h = refused_not Syntax p u h (HasType w u)

weights_has : (xs : List Node) (p : Place) (at : Environment) (bound : List Binding) (w : Option Ty) (u : Term) → weights xs p at bound w ≡ given u → HasType w u
weights_has xs p at bound w u h =
    let end = λ (t : Ty). weighed_all at bound t [] xs >>= λ ps. wanted w p (stated t ps) in
    let over = λ (v : Option Ty). outcomes at bound v xs p >>= end in
    let q = given_bind (distribution_here at p) (λ _. part_wanted outcome w p >>= over) u h in
    let v = given_bind (part_wanted outcome w p) over u q.2 in
    let t = given_bind (outcomes at bound v.0 xs p) end u v.2 in
    let ps = given_bind (weighed_all at bound t.0 [] xs) (λ ps. wanted w p (stated t.0 ps)) u t.2 in
    wanted_has w p (stated t.0 ps.0) u ps.2

-- terms that a typing gives have the wanted type
abbrev pub HasTypes : Typing → Type 0
HasTypes f = (at : Environment) (bound : List Binding) (w : Option Ty) (u : Term) → f at bound w ≡ given u → HasType w u

-- .. and values of functions
abbrev pub HasTypesOf : Meaning → Type 0
HasTypesOf m = HasTypes m.form × ((d : Domain) → HasTypes (m.function d))

-- a part, with what is known of it
abbrev Given : Type 0
Given = Told meaning HasTypesOf

abbrev all : List Given → List Part
all = parts meaning HasTypesOf

operands_has : (r : Rule) (p : Place) (at : Environment) (bound : List Binding) (w : Option Ty) (ts : List Term) (bs : List Part) (u : Term) → operands r p at bound w ts bs ≡ given u → HasType w u
unfolding operands
operands_has r p at bound w ts [] u h = let q = given_bind (made r p ts) (wanted w p) u h in wanted_has w p q.0 u q.2
operands_has r p at bound w ts (a ∷ bs) u h =
    let rest = λ (t : Term). operands r p at bound w (ts ++ t ∷ []) bs in
    let k = given_bind (asked r at w p (place_of a.0) ts) (λ k. operand k a at bound >>= rest) u h in
    let t = given_bind (operand k.0 a at bound) rest u k.2 in
    operands_has r p at bound w (ts ++ t.0 ∷ []) bs u t.2

rule_has : (r : Rule) (bs : List Part) (p : Place) → HasTypes (by_rule r bs p)
rule_has r bs p at bound w u h = operands_has r p at bound w [] bs u h

alone_has : (x : List ℕ) (o : OperatorType) (p : Place) (at : Environment) (w : Option Ty) (u : Term) → operator_alone x o p at w ≡ given u → HasType w u
alone_has x o p at w u h =
    let q = given_bind (stands at w p o.result) (λ _. user_made x o p []) u h in
    let r = if_given (0 == length o.params) (node (User x) [] o.result) TypeMismatch p u q.2 in
    stands_has at w p o.result q.0 u q.1 (ap type_of_term (sym r.1) ∙ node_type (User x) [] o.result)

declared_has : (c : Option Constant) (o : Option OperatorType) (x : List ℕ) (p : Place) → HasTypes (declared c o x p)
declared_has (Some c) o x p at bound w u h = wanted_has w p (literal c) u h
declared_has None (Some o) x p at bound w u h = alone_has x o p at w u h
declared_has None None x p at bound w u h = let q = given_bind (named at bound x p) (wanted w p) u h in wanted_has w p q.0 u q.2

known_has : (o : Option Known) (a : Answer Term) (w : Option Ty) (p : Place) (u : Term) → (a ≡ given u → HasType w u) → option_map_or (λ k. constant k w p) o a ≡ given u → HasType w u
known_has None a w p u f h = f h
known_has (Some k) a w p u f h = constant_has k w p u h

simple_has : (x : List ℕ) (p : Place) → HasTypes (simple x p)
simple_has x p at bound w u h =
    known_has (known_at at bound x) (declared (constant_at at bound x) (operator_at at bound x) x p at bound w) w p u
    (declared_has (constant_at at bound x) (operator_at at bound x) x p at bound w u) h

annotated_has : (ts : List Part) (p : Place) → HasTypes (annotated ts p)
annotated_has (a ∷ s ∷ []) p at bound w u h =
    let q = given_bind (type_or_number at.declared s.0) (λ t. by_rule (rule.Annotated t) (a ∷ []) p at bound w) u h in
    rule_has (rule.Annotated q.0) (a ∷ []) p at bound w u q.2
annotated_has _ p at bound w u h = refused_not Syntax p u h (HasType w u)

projection_has : (ts : List Part) (p : Place) → HasTypes (projection ts p)
projection_has (a ∷ n ∷ []) p at bound w u h = rule_has (rule.Part (part_number (text_of n.0)) (place_of n.0)) (a ∷ []) p at bound w u h
projection_has _ p at bound w u h = refused_not Syntax p u h (HasType w u)

summed_has : (ts : List Part) (p : Place) → HasTypes (summed ts p)
summed_has (q ∷ f ∷ []) p at bound w u h =
    let x = given_bind (stands at w p ty.Real) (λ _. bound_of q.0 >>= λ n. by_rule (rule.Sum n) (f ∷ []) p at bound w) u h in
    let n = given_bind (bound_of q.0) (λ n. by_rule (rule.Sum n) (f ∷ []) p at bound w) u x.2 in
    rule_has (rule.Sum n.0) (f ∷ []) p at bound w u n.2
summed_has _ p at bound w u h = refused_not TypeMismatch p u h (HasType w u)

ruled_has : (o : Option Rule) (ts : List Part) (p : Place) (at : Environment) (bound : List Binding) (w : Option Ty) (u : Term)
    → (given_or o TypeMismatch p >>= λ r. by_rule r ts p at bound w) ≡ given u → HasType w u
ruled_has o ts p at bound w u h = let r = given_bind (given_or o TypeMismatch p) (λ r. by_rule r ts p at bound w) u h in rule_has r.0 ts p at bound w u r.2

call_has : (k : Known) (ts : List Part) (p : Place) → HasTypes (call k ts p)
call_has known.Sum ts p at bound w u h = summed_has ts p at bound w u h
call_has known.True ts p at bound w u h = ruled_has (rule_of known.True (length ts)) ts p at bound w u h
call_has known.False ts p at bound w u h = ruled_has (rule_of known.False (length ts)) ts p at bound w u h
call_has known.Unit ts p at bound w u h = ruled_has (rule_of known.Unit (length ts)) ts p at bound w u h
call_has known.None ts p at bound w u h = ruled_has (rule_of known.None (length ts)) ts p at bound w u h
call_has known.Empty ts p at bound w u h = ruled_has (rule_of known.Empty (length ts)) ts p at bound w u h
call_has known.Some ts p at bound w u h = ruled_has (rule_of known.Some (length ts)) ts p at bound w u h
call_has known.Oget ts p at bound w u h = ruled_has (rule_of known.Oget (length ts)) ts p at bound w u h
call_has known.Dunit ts p at bound w u h = ruled_has (rule_of known.Dunit (length ts)) ts p at bound w u h
call_has known.Dmap ts p at bound w u h = ruled_has (rule_of known.Dmap (length ts)) ts p at bound w u h
call_has known.Drestrict ts p at bound w u h = ruled_has (rule_of known.Drestrict (length ts)) ts p at bound w u h
call_has known.Mu ts p at bound w u h = ruled_has (rule_of known.Mu (length ts)) ts p at bound w u h
call_has known.Mu1 ts p at bound w u h = ruled_has (rule_of known.Mu1 (length ts)) ts p at bound w u h

user_has : (o : Option OperatorType) (x : List ℕ) (ts : List Part) (p : Place) → HasTypes (user_call o x ts p)
user_has (Some o) x ts p at bound w u h =
    let call = if length ts == length o.params then by_rule (rule.User x o) ts p at bound w else refused TypeMismatch p in
    let q = given_bind (stands at w p o.result) (λ _. call) u h in
    rule_has (rule.User x o) ts p at bound w u (if_else_refused (length ts == length o.params) TypeMismatch p (by_rule (rule.User x o) ts p at bound w) u q.2)
user_has None x ts p at bound w u h =
    let q = given_bind (simple x p at bound None) (λ _. refused TypeMismatch p) u h in refused_not TypeMismatch p u q.2 (HasType w u)

at_known : (o : Option Known) (a : Answer Term) (ts : List Part) (p : Place) (at : Environment) (bound : List Binding) (w : Option Ty) (u : Term)
    → (a ≡ given u → HasType w u) → option_map_or (λ k. call k ts p at bound w) o a ≡ given u → HasType w u
at_known None a ts p at bound w u f h = f h
at_known (Some k) a ts p at bound w u f h = call_has k ts p at bound w u h

applied_has : (x : List ℕ) (ts : List Part) (p : Place) → HasTypes (applied_name x ts p)
applied_has x ts p at bound w u h =
    at_known (known_at at bound x) (user_call (operator_at at bound x) x ts p at bound w) ts p at bound w u (user_has (operator_at at bound x) x ts p at bound w u) h

application_has : (h : Head) (x : List ℕ) (ns : List Node) (ts : List Part) (p : Place) → HasTypes (application h x ns ts p)
application_has head.Name x ns ts p at bound w u h = applied_has x ts p at bound w u h
application_has head.Path x ns ts p at bound w u h = applied_has (path ns) ts p at bound w u h
application_has _ x ns ts p at bound w u h = refused_not TypeMismatch p u h (HasType w u)

applied_form_has : (ts : List Part) (p : Place) → HasTypes (applied_form ts p)
applied_form_has (f ∷ ts) p at bound w u h = application_has (head_of f.0) (text_of f.0) (parts_of f.0) ts p at bound w u h
applied_form_has [] p at bound w u h = refused_not Syntax p u h (HasType w u)

either_has : (b : Bool) (x y : Answer Term) (w : Option Ty) (u : Term) → (x ≡ given u → HasType w u) → (y ≡ given u → HasType w u) → (if b then x else y) ≡ given u → HasType w u
either_has true x y w u f g h = f h
either_has false x y w u f g h = g h

operation_has : (o : Option Operator) (ts : List Part) (p : Place) → HasTypes (operation o ts p)
operation_has (Some o) (a ∷ []) p at bound w u h = rule_has (rule_for o false a.0) (a ∷ []) p at bound w u h
operation_has (Some o) (a ∷ b ∷ []) p at bound w u h =
    either_has (right_first a.0 b.0) (by_rule (rule_for o true b.0) (b ∷ a ∷ []) p at bound w) (by_rule (rule_for o false b.0) (a ∷ b ∷ []) p at bound w) w u
    (rule_has (rule_for o true b.0) (b ∷ a ∷ []) p at bound w u) (rule_has (rule_for o false b.0) (a ∷ b ∷ []) p at bound w u) h
operation_has (Some o) [] p at bound w u h = refused_not Syntax p u h (HasType w u)
operation_has (Some o) (a ∷ b ∷ c ∷ ts) p at bound w u h = refused_not Syntax p u h (HasType w u)
operation_has None ts p at bound w u h = refused_not Syntax p u h (HasType w u)

comparing_has : (o : Option (Seen × Seen)) (x : List ℕ) (ts : List Part) (p : Place) → HasTypes (comparing o x ts p)
comparing_has (Some s) x ts p at bound w u h = whole_equation_has at bound w p s.0 s.1 u h
comparing_has None x ts p at bound w u h = operation_has (operator_of head.Compared x) ts p at bound w u h

equivalence_has : (ts : List Part) (p : Place) → HasTypes (equivalence ts p)
equivalence_has (f ∷ g ∷ a ∷ b ∷ []) p at bound w u h =
    let end = λ (both : Named × Named) (pre post : Term). given (equivalent both.0.0 both.1.0 pre post) in
    let on_post = λ (both : Named × Named) (pre : Term). b.1.form (after at both.0.1 both.1.1) bound (Some bool_ty) >>= λ post. end both pre post in
    let on_pre = λ (both : Named × Named). a.1.form (before at both.0.1 both.1.1) bound (Some bool_ty) >>= λ pre. on_post both pre in
    let q = given_bind (judgment at w p) (λ _. both_procedures at bound f.0 g.0 p >>= on_pre) u h in
    let m = given_bind (both_procedures at bound f.0 g.0 p) on_pre u q.2 in
    let pre = given_bind (a.1.form (before at m.0.0.1 m.0.1.1) bound (Some bool_ty)) (λ pre. on_post m.0 pre) u m.2 in
    let post = given_bind (b.1.form (after at m.0.0.1 m.0.1.1) bound (Some bool_ty)) (λ post. end m.0 pre.0 post) u pre.2 in
    judgment_has at w p q.0 u q.1 (given_node (Equiv (procedure m.0.0.0) (procedure m.0.1.0)) (pre.0 ∷ post.0 ∷ []) bool_ty u post.2)
equivalence_has _ p at bound w u h = refused_not Syntax p u h (HasType w u)

chance_type : (c : Contract) (r : Rel) (b u : Term) → given (with_chance c r b) ≡ given u → type_of_term u ≡ bool_ty
chance_type c r b u h = given_node (Phoare (procedure c.procedure) r) (c.pre ∷ c.post ∷ b ∷ []) bool_ty u h

hoare_has : (ts : List Part) (p : Place) → HasTypes (hoare ts p)
hoare_has ts p at bound w u h =
    let q = given_bind (judgment at w p) (λ _. contract ts p at bound >>= λ c. given (always c)) u h in
    let c = given_bind (contract ts p at bound) (λ c. given (always c)) u q.2 in
    judgment_has at w p q.0 u q.1 (given_node (Hoare (procedure c.0.procedure)) (c.0.pre ∷ c.0.post ∷ []) bool_ty u c.2)

bounded_has : (x : List ℕ) (ts : List Part) (p : Place) → HasTypes (bounded x ts p)
bounded_has x (a ∷ r ∷ []) p at bound w u h =
    let end = λ (s : Rel) (c : Contract) (b : Term). given (with_chance c s b) in
    let on_bound = λ (s : Rel) (c : Contract). r.1.form (around at) bound (Some ty.Real) >>= λ b. end s c b in
    let on_contract = λ (s : Rel). a.1.contract at bound >>= λ c. on_bound s c in
    let q = given_bind (judgment at w p) (λ _. relation x p >>= on_contract) u h in
    let s = given_bind (relation x p) on_contract u q.2 in
    let c = given_bind (a.1.contract at bound) (on_bound s.0) u s.2 in
    let b = given_bind (r.1.form (around at) bound (Some ty.Real)) (end s.0 c.0) u c.2 in
    judgment_has at w p q.0 u q.1 (chance_type c.0 s.0 b.0 u b.2)
bounded_has x _ p at bound w u h = refused_not Syntax p u h (HasType w u)

lossless_type : (at : Environment) (bound : List Binding) (ts : List Node) (p : Place) (u : Term) → lossless at bound ts p ≡ given u → type_of_term u ≡ bool_ty
lossless_type at bound (f ∷ []) p u h =
    let m = given_bind (one_procedure at bound f p) (λ m. given (ends m.0)) u h in
    chance_type (record { procedure = m.0.0; pre = truth_literal true; post = truth_literal true }) rel.Equal one u m.2
lossless_type at bound _ p u h = refused_not Syntax p u h _

probability_has : (ts : List Part) (p : Place) → HasTypes (probability ts p)
probability_has (c ∷ m ∷ e ∷ []) p at bound w u h =
    let end = λ (f : Named) (ts : List Term) (i : Side) (b : Term). given (chance f.0 i ts b) in
    let on_event = λ (f : Named) (ts : List Term) (i : Side). e.1.form (after_one at f.1) bound (Some bool_ty) >>= λ b. end f ts i b in
    let on_memory = λ (f : Named) (ts : List Term). memory_at at bound (text_of m.0) (place_of m.0) >>= on_event f ts in
    let on_call = λ (f : Named). c.1.arguments f.1.params (place_of c.0) (before_call at (text_of m.0)) bound >>= on_memory f in
    let q = given_bind (chance_here at w p) (λ _. called at bound (head_of c.0) (parts_of c.0) (place_of c.0) >>= on_call) u h in
    let f = given_bind (called at bound (head_of c.0) (parts_of c.0) (place_of c.0)) on_call u q.2 in
    let ts = given_bind (c.1.arguments f.0.1.params (place_of c.0) (before_call at (text_of m.0)) bound) (on_memory f.0) u f.2 in
    let i = given_bind (memory_at at bound (text_of m.0) (place_of m.0)) (on_event f.0 ts.0) u ts.2 in
    let b = given_bind (e.1.form (after_one at f.0.1) bound (Some bool_ty)) (λ b. end f.0 ts.0 i.0 b) u i.2 in
    let s = if_else_refused (has_judgments at.language) Argument p (stands at w p ty.Real) q.0 q.1 in
    stands_has at w p ty.Real q.0 u s (given_node (Pr f.0.0 i.0) (ts.0 ++ b.0 ∷ []) ty.Real u b.2)
probability_has _ p at bound w u h = refused_not Syntax p u h (HasType w u)

quantified_has : (x : List ℕ) (ks : List Given) (p : Place) → HasTypes (quantified x (all ks) p)
quantified_has x (bs ∷ a ∷ []) p at bound w u h =
    let f = (said meaning a.0).form in
    let k = given_bind (quantifier_of x p) (λ k. formula at w p >>= λ _. bound_by at [] (parts_of bs.0) >>= λ vs. under k vs bound (f at)) u h in
    let q = given_bind (formula at w p) (λ _. bound_by at [] (parts_of bs.0) >>= λ vs. under k.0 vs bound (f at)) u k.2 in
    let vs = given_bind (bound_by at [] (parts_of bs.0)) (λ vs. under k.0 vs bound (f at)) u q.2 in
    let r = given_bind (f at (reverse vs.0 ++ bound) (Some bool_ty)) (λ t. given (over_all k.0 vs.0 t)) u vs.2 in
    formula_has at w p q.0 u q.1 (quantified_type k.0 vs.0 r.0 u r.2 (a.1.0 at (reverse vs.0 ++ bound) (Some bool_ty) r.0 r.1))
quantified_has x _ p at bound w u h = refused_not Syntax p u h (HasType w u)

bracketed_has : (ks : List Given) (p : Place) → HasTypes (bracketed (all ks) p)
bracketed_has (a ∷ []) p at bound w u h = a.1.0 at bound w u h
bracketed_has _ p at bound w u h = refused_not Syntax p u h (HasType w u)

side_has : (ts : List Node) (p : Place) → HasTypes (with_side ts p)
side_has (a ∷ s ∷ []) p at bound w u h =
    let q = given_bind (read at bound (head_of a) (text_of a) (parts_of a) (place_of a) s) (wanted w p) u h in wanted_has w p q.0 u q.2
side_has _ p at bound w u h = refused_not Syntax p u h (HasType w u)

of_parts : (h : Head) (x : List ℕ) (ks : List Given) (p : Place) → HasTypes (typing h x (all ks) p)
unfolding typing
of_parts head.Name x ks p at bound w u h = simple_has x p at bound w u h
of_parts head.Path x ks p at bound w u h = simple_has (path (bare (all ks))) p at bound w u h
of_parts head.Number x ks p at bound w u h = numeral_has at x w p u h
of_parts head.Unit x ks p at bound w u h = wanted_has w p unit u h
of_parts head.Bracketed x ks p at bound w u h = bracketed_has ks p at bound w u h
of_parts head.Sided x ks p at bound w u h = side_has (bare (all ks)) p at bound w u h
of_parts head.Coin x ks p at bound w u h = coin_has at w p u h
of_parts head.Function x ks p at bound w u h = refused_not TypeMismatch p u h (HasType w u)
of_parts head.TypedFunction x ks p at bound w u h = refused_not TypeMismatch p u h (HasType w u)
of_parts head.Typed x ks p at bound w u h = annotated_has (all ks) p at bound w u h
of_parts head.Tuple x ks p at bound w u h = rule_has (rule.Tuple (length (all ks))) (all ks) p at bound w u h
of_parts head.Component x ks p at bound w u h = projection_has (all ks) p at bound w u h
of_parts head.Conditional x ks p at bound w u h = rule_has rule.If (all ks) p at bound w u h
of_parts head.Chosen x ks p at bound w u h = rule_has rule.If (all ks) p at bound w u h
of_parts head.Get x ks p at bound w u h = rule_has rule.Get (all ks) p at bound w u h
of_parts head.Set x ks p at bound w u h = rule_has rule.Set (all ks) p at bound w u h
of_parts head.PowerProduct x ks p at bound w u h = rule_has rule.Product (all ks) p at bound w u h
of_parts head.Uniform x ks p at bound w u h = uniform_has (bare (all ks)) p at w u h
of_parts head.Weights x ks p at bound w u h = weights_has (bare (all ks)) p at bound w u h
of_parts head.Apply x ks p at bound w u h = applied_form_has (all ks) p at bound w u h
of_parts head.Equalities x ks p at bound w u h = equalities_has at bound (bare (all ks)) w p u h
of_parts head.Glob x ks p at bound w u h = let q = given_bind (whole_alone at bound (bare_glob (bare (all ks)) None p) p) (wanted w p) u h in wanted_has w p q.0 u q.2
of_parts head.Compared x ks p at bound w u h = comparing_has (both_whole x (bare (all ks))) x (all ks) p at bound w u h
of_parts head.Quantified x ks p at bound w u h = quantified_has x ks p at bound w u h
of_parts head.Equiv x ks p at bound w u h = equivalence_has (all ks) p at bound w u h
of_parts head.Hoare x ks p at bound w u h = hoare_has (all ks) p at bound w u h
of_parts head.Phoare x ks p at bound w u h = let q = given_bind (judgment at w p) (λ _. refused TypeMismatch p) u h in refused_not TypeMismatch p u q.2 (HasType w u)
of_parts head.Bounded x ks p at bound w u h = bounded_has x (all ks) p at bound w u h
of_parts head.Lossless x ks p at bound w u h =
    let q = given_bind (judgment at w p) (λ _. lossless at bound (bare (all ks)) p) u h in
    judgment_has at w p q.0 u q.1 (lossless_type at bound (bare (all ks)) p u q.2)
of_parts head.Probability x ks p at bound w u h = probability_has (all ks) p at bound w u h
of_parts k x ks p at bound w u h = operation_has (operator_of k x) (all ks) p at bound w u h

value_has : (k : Given) (x : List ℕ) (t : Ty) → HasTypes (value_of x t (k.0, said meaning k.0))
value_has k x t at bound w u h = k.1.0 at (value x t ∷ bound) w u h

in_brackets : (ks : List Given) (p : Place) (d : Domain) → HasTypes (bracketed_function (all ks) p d)
in_brackets (a ∷ []) p d at bound w u h = a.1.1 d at bound w u h
in_brackets _ p d at bound w u h = refused_not TypeMismatch p u h (HasType w u)

plain_has : (ks : List Given) (p : Place) (d : Domain) → HasTypes (plain_function (all ks) p d)
plain_has (xs ∷ a ∷ []) p d at bound w u h =
    let x = given_bind (only (parts_of xs.0) p) (λ x. value_of (text_of x) (type_in d) (a.0, said meaning a.0) at bound w) u h in
    value_has a (text_of x.0) (type_in d) at bound w u x.2
plain_has _ p d at bound w u h = refused_not TypeMismatch p u h (HasType w u)

typed_has : (ks : List Given) (p : Place) (d : Domain) → HasTypes (typed_function (all ks) p d)
typed_has (xs ∷ s ∷ a ∷ []) p d at bound w u h =
    let f : Part = (a.0, said meaning a.0) in
    let x = given_bind (only (parts_of xs.0) p) (λ x. written_as at.declared d s.0 >>= λ t. value_of (text_of x) t f at bound w) u h in
    let t = given_bind (written_as at.declared d s.0) (λ t. value_of (text_of x.0) t f at bound w) u x.2 in
    value_has a (text_of x.0) t.0 at bound w u t.2
typed_has _ p d at bound w u h = refused_not TypeMismatch p u h (HasType w u)

of_functions : (h : Head) (ks : List Given) (p : Place) (d : Domain) → HasTypes (function_typing h (all ks) p d)
unfolding function_typing
of_functions head.Bracketed ks p d at bound w u h = in_brackets ks p d at bound w u h
of_functions head.Function ks p d at bound w u h = plain_has ks p d at bound w u h
of_functions head.TypedFunction ks p d at bound w u h = typed_has ks p d at bound w u h
of_functions _ ks p d at bound w u h = refused_not TypeMismatch p u h (HasType w u)

pub meant_types : (t : Node) → HasTypesOf (meant t)
unfolding meant
meant_types = by_parts meaning HasTypesOf (λ h x ks p. (of_parts h x ks p, of_functions h ks p))

pub elaborated_type : (t : Node) → HasTypes ((meant t).form)
elaborated_type t = (meant_types t).0
