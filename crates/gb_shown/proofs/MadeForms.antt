-- What rules ask of parts that are named, and what they make of them, is named.
use Rattle.std.proofs.Common.{◌≡◌, ℕ, zero, suc, ◌+◌, ◌-◌, ◌==◌, ◌≤◌, length, length-append, Bool, true, false, if◌then◌else◌, List, [], ◌∷◌, ◌++◌, map, Option, Some, None, refl, subst, arith}
use Rattle.std.specs.Prelude.{slice_get}
use Rattle.std.specs.List.{AllByRecursion, list_all}
use Rattle.std.proofs.lemmas.Bool.{and_parts}
use Rattle.gb_core.specs.declared.place.Place.{Place}
use Rattle.gb_core.specs.declared.refusal.Why.TheVariants.{TypeMismatch, TypeTooLarge, Argument}
use Rattle.gb_core.specs.declared.ty.Ty.{Ty}
use Rattle.gb_core.specs.declared.ty.Ty.TheVariants as ty
use Rattle.gb_core.specs.SameTypes.{ty_eq}
use Rattle.gb_terms.specs.declared.op.Op.{Op}
use Rattle.gb_terms.specs.declared.op.Op.TheVariants as op
use Rattle.gb_terms.specs.declared.term.Term.{Term}
use Rattle.gb_terms.specs.declared.term.Head.TheVariants as head
use Rattle.gb_terms.specs.Make.{node, applied}
use Rattle.gb_goal.specs.Answers.{given_or}
use Rattle.gb_goal.specs.Answers.Answer.{given, refused}
use Rattle.gb_goal.specs.declared.scope.OperatorType.{OperatorType}
use Rattle.gb_names.specs.Allowed.{distribution_here, is_distribution, is_program, stands}
use Rattle.gb_names.specs.Environment.{Name, Environment}
use Rattle.gb_names.specs.Wanted.{truth, type_of_term}
use Rattle.gb_operators.specs.declared.domain.Domain.{Domain}
use Rattle.gb_operators.specs.declared.domain.Domain.TheVariants.{Exactly, Below}
use Rattle.gb_operators.specs.declared.drawn.Drawn.{Drawn}
use Rattle.gb_operators.specs.declared.drawn.Drawn.TheVariants.{Measure, Image, Restriction}
use Rattle.gb_operators.specs.declared.operators.Operands.{Operands}
use Rattle.gb_operators.specs.declared.operators.Operands.TheVariants.{Truths, Alike, Ordered, Numbers, Bits}
use Rattle.gb_operators.specs.declared.operators.Infix.{Infix}
use Rattle.gb_operators.specs.declared.operators.Prefix.{Prefix}
use Rattle.gb_operators.specs.declared.operators.Prefix.TheVariants as prefix
use Rattle.gb_operators.specs.declared.rules.Asked.{Asked}
use Rattle.gb_operators.specs.declared.rules.Asked.TheVariants.{Form, Branch, Source, Function}
use Rattle.gb_operators.specs.declared.rules.Rule.{Rule}
use Rattle.gb_operators.specs.declared.rules.Rule.TheVariants as rule
use Rattle.gb_operators.specs.Drawn.{drawn_head, drawn_result, outcome_wanted, source_wanted, value_wanted}
use Rattle.gb_operators.specs.Kinds.{component, components, element, entries, inside_option, is_arithmetic_layer, is_of_bits_layer, is_of_values, is_of_values_layer, is_signed, is_signed_layer, is_small, outcome}
use Rattle.gb_operators.specs.Operators.{first_wanted, operand_wanted, option_wanted, part_wanted, prefix_operator, prefix_result, result_type, shaped, takes}
use Rattle.gb_operators.specs.Rules.{asked, factor_wanted, factors, in_order, made, member, of_type, outcome_of, pair, part_type, parts_wanted, product_type, values}
use Rattle.gb_print_names.specs.declared.bound_names.Enumeration.{Enumeration}
use Rattle.gb_print.specs.Written.{in_range, is_path}
use Rattle.gb_shown.specs.Named.{IsNamedType, IsNamedResult, IsNamedOperator, IsNamed}
use Rattle.gb_shown.proofs.SpeltTrees.{AllNamed, node_named, parts_named}
use Rattle.gb_shown.specs.Scopes.{IsNamedWanted}
use Rattle.gb_shown.proofs.Given.{given_bind, given_is, if_allowed, if_refused, if_some, same_some, some_given, either}
use Rattle.gb_shown.proofs.Types.{as_result, as_type, option_named, distribution_named, tuple_named, outcome_named, inside_named, entries_named, element_named, components_named, got_named}

-- the operators of two sides, with what they are of
abbrev pub Suits : Op → Operands → Type 0
Suits op.And Truths = Unit {0}
Suits op.Or Truths = Unit {0}
Suits op.Implies Truths = Unit {0}
Suits op.Iff Truths = Unit {0}
Suits op.Equal Alike = Unit {0}
Suits op.NotEqual Alike = Unit {0}
Suits op.Less Ordered = Unit {0}
Suits op.AtMost Ordered = Unit {0}
Suits op.Plus Numbers = Unit {0}
Suits op.Minus Numbers = Unit {0}
Suits op.Times Numbers = Unit {0}
Suits op.Xor Bits = Unit {0}
Suits _ _ = ⊥

-- what the variable of a function stands for
abbrev pub IsNamedDomain : Domain → Type 0
IsNamedDomain (Exactly t) = IsNamedType t
IsNamedDomain (Below n) = in_range n ≡ true

-- what a rule says of names and numbers
abbrev pub IsNamedRule : Rule → Type 0
IsNamedRule (rule.Annotated t) = IsNamedResult t
IsNamedRule (rule.Part k r) = in_range k ≡ true
IsNamedRule (rule.Two i) = Suits i.op i.operands
IsNamedRule (rule.User x o) = (is_path x ≡ true) × AllByRecursion IsNamedResult o.params × IsNamedResult o.result
IsNamedRule (rule.Sum n) = in_range n ≡ true
IsNamedRule _ = Unit {0}

abbrev pub IsNamedAsked : Asked → Type 0
IsNamedAsked (Form w) = IsNamedWanted w
IsNamedAsked (Branch w) = IsNamedWanted w
IsNamedAsked (Source w) = IsNamedWanted w
IsNamedAsked (Function d w) = IsNamedDomain d × IsNamedWanted w

-- What is known of the parts that are typed, where so many are to come: a tuple has two at least, and a first side is of a type that
-- the operator takes.
abbrev pub AreReady : Rule → List Term → ℕ → Type 0
AreReady (rule.Tuple m) ts k = 2 ≤ length ts + k
AreReady (rule.Two i) (s ∷ t ∷ ts) k = takes i.operands (type_of_term s) ≡ true
AreReady _ ts k = Unit {0}

pub ready_behind : (r : Rule) (at : Environment) (w : Option Ty) (p q : Place) (ts : List Term) (k : ℕ) (a : Asked) (t : Term) →
    AreReady r ts (suc k) → asked r at w p q ts ≡ given a → AreReady r (ts ++ t ∷ []) k
unfolding asked
ready_behind (rule.Tuple m) at w p q ts k a t h e = let n : length (ts ++ t ∷ []) ≡ length ts + 1 = length-append ts (t ∷ []) in omega (arith, h, n)
ready_behind (rule.Two i) at w p q [] k a t h e = tt
ready_behind (rule.Two i) at w p q (s ∷ []) k a t h e = (if_allowed (takes i.operands (type_of_term s)) (of_type (type_of_term s)) TypeMismatch p a e).0
ready_behind (rule.Two i) at w p q (s ∷ u ∷ ts) k a t h e = h
ready_behind (rule.Annotated _) at w p q ts k a t h e = tt
ready_behind (rule.Part _ _) at w p q ts k a t h e = tt
ready_behind rule.If at w p q ts k a t h e = tt
ready_behind rule.Get at w p q ts k a t h e = tt
ready_behind rule.Set at w p q ts k a t h e = tt
ready_behind (rule.One _) at w p q ts k a t h e = tt
ready_behind (rule.Quotient _ _) at w p q ts k a t h e = tt
ready_behind (rule.Member _) at w p q ts k a t h e = tt
ready_behind (rule.User _ _) at w p q ts k a t h e = tt
ready_behind rule.Product at w p q ts k a t h e = tt
ready_behind (rule.Drawn _) at w p q ts k a t h e = tt
ready_behind rule.Mass at w p q ts k a t h e = tt
ready_behind (rule.Sum _) at w p q ts k a t h e = tt

-- Which types are wanted of parts.

asks : (k : Asked) (x : Asked) → given x ≡ given k → IsNamedAsked x → IsNamedAsked k
asks k x e h = subst IsNamedAsked (given_is x k e) h

part_known : (part : Ty → Option Ty) → ((t : Ty) → IsNamedResult t → (u : Ty) → part t ≡ Some u → IsNamedType u) → (w x : Option Ty) (p : Place) → IsNamedWanted w →
    part_wanted part w p ≡ given x → IsNamedWanted x
part_known part k None x p f e = subst IsNamedWanted (given_is None x e) tt
part_known part k (Some t) x p f e =
    let u = given_bind (given_or (part t) TypeMismatch p) (λ u. given (Some u)) x e in
    subst IsNamedWanted (given_is (Some u.0) x u.2) (as_result u.0 (k t f u.0 (some_given (part t) TypeMismatch p u.0 u.1)))

outcome_known : (w x : Option Ty) (p : Place) → IsNamedWanted w → part_wanted outcome w p ≡ given x → IsNamedWanted x
outcome_known = part_known outcome outcome_named

-- a type of values
pub value_named : (t : Ty) → IsNamedResult t → is_of_values t ≡ true → IsNamedType t
value_named t h e = as_type is_of_values_layer (λ _. refl) t h e

option_known : (w x : Option Ty) (p : Place) → IsNamedWanted w → option_wanted w p ≡ given x → IsNamedWanted x
option_known None x p f e = subst IsNamedWanted (given_is None x e) tt
option_known (Some t) x p f e =
    let k = if_allowed (is_of_values t) (given (Some (ty.Opt t))) TypeMismatch p x e in
    subst IsNamedWanted (given_is (Some (ty.Opt t)) x k.1) (as_result (ty.Opt t) (option_named t (value_named t f k.0)))

operand_known : (o : Prefix) (at : Environment) (w x : Option Ty) (p : Place) → IsNamedWanted w → operand_wanted o at w p ≡ given x → IsNamedWanted x
operand_known prefix.Not at w x p f e = let k = given_bind (truth w p) (λ _. given (Some ty.Bool)) x e in subst IsNamedWanted (given_is (Some ty.Bool) x k.2) tt
operand_known prefix.Negate at w x p f e = let k = if_refused (is_program at.language) Argument p (given w) x e in subst IsNamedWanted (given_is w x k.1) f
operand_known prefix.ToReal at w x p f e = let k = given_bind (stands at w p ty.Real) (λ _. given None) x e in subst IsNamedWanted (given_is None x k.2) tt
operand_known prefix.Absolute at w x p f e = let k = given_bind (stands at w p ty.Real) (λ _. given (Some ty.Real)) x e in subst IsNamedWanted (given_is (Some ty.Real) x k.2) tt
operand_known prefix.Some at w x p f e = part_known inside_option inside_named w x p f e
operand_known prefix.Oget at w x p f e = option_known w x p f e
operand_known prefix.Dunit at w x p f e = let k = given_bind (distribution_here at p) (λ _. part_wanted outcome w p) x e in outcome_known w x p f k.2

first_known : (s : Operands) (w : Option Ty) → IsNamedWanted w → IsNamedWanted (first_wanted s w)
first_known Truths w f = tt
first_known Alike w f = tt
first_known Ordered w f = tt
first_known Numbers w f = f
first_known Bits w f = f

source_known : (k : Drawn) (at : Environment) (w x : Option Ty) (p : Place) → IsNamedWanted w → source_wanted k at w p ≡ given x → IsNamedWanted x
source_known Measure at w x p f e = let k = given_bind (stands at w p ty.Real) (λ _. given None) x e in subst IsNamedWanted (given_is None x k.2) tt
source_known Image at w x p f e =
    let k = given_bind (distribution_here at p) _ x e in
    let v = given_bind (part_wanted outcome w p) (λ _. given None) x k.2 in subst IsNamedWanted (given_is None x v.2) tt
source_known Restriction at w x p f e =
    let k = given_bind (distribution_here at p) _ x e in
    let v = given_bind (part_wanted outcome w p) (λ _. given w) x k.2 in subst IsNamedWanted (given_is w x v.2) f

outcome_if : (w : Option Ty) → IsNamedWanted w → IsNamedWanted (outcome_wanted w)
outcome_if None f = tt
outcome_if (Some t) f = step (outcome t) refl
  where
    step : (o : Option Ty) → outcome t ≡ o → IsNamedWanted o
    step None e = tt
    step (Some u) e = as_result u (outcome_named t f u e)

value_known : (k : Drawn) (w : Option Ty) → IsNamedWanted w → IsNamedWanted (value_wanted k w)
value_known Measure w f = tt
value_known Image w f = outcome_if w f
value_known Restriction w f = tt

pair_known : (us : List Ty) (f : Ty × Ty) → AllByRecursion IsNamedType us → pair us ≡ Some f → IsNamedType f.0 × IsNamedType f.1
pair_known (a ∷ b ∷ []) f h e = subst (λ (z : Ty × Ty). IsNamedType z.0 × IsNamedType z.1) {x = (a, b)} (same_some e) (h.0, h.1.0)
pair_known _ f h e = cc

factor_known : (w x : Option Ty) (b : Bool) (p : Place) → IsNamedWanted w → factor_wanted w b p ≡ given x → IsNamedWanted x
factor_known None x b p f e = subst IsNamedWanted (given_is None x e) tt
factor_known (Some t) x b p f e =
    let k = given_bind (factors t p) (λ (z : Ty × Ty). given (Some (ty.Distr (if b then z.0 else z.1)))) x e in
    let u = given_bind (given_or (outcome t) TypeMismatch p) _ k.0 k.1 in
    let us = given_bind (given_or (components u.0) TypeMismatch p) (λ us. given_or (pair us) TypeMismatch p) k.0 u.2 in
    let v = as_result u.0 (outcome_named t f u.0 (some_given (outcome t) TypeMismatch p u.0 u.1)) in
    let vs = components_named u.0 v us.0 (some_given (components u.0) TypeMismatch p us.0 us.1) in
    let h = pair_known us.0 k.0 vs (some_given (pair us.0) TypeMismatch p k.0 us.2) in
    subst IsNamedWanted (given_is (Some (ty.Distr (if b then k.0.0 else k.0.1))) x k.2) (distribution_named (if b then k.0.0 else k.0.1) (either IsNamedType b k.0.0 k.0.1 h.0 h.1))

all_results : (ts : List Ty) → AllByRecursion IsNamedType ts → AllByRecursion IsNamedResult ts
all_results [] h = tt
all_results (t ∷ ts) h = (as_result t h.0, all_results ts h.1)

parts_known : (w : Option Ty) (n : ℕ) (p : Place) (ws : List Ty) → IsNamedWanted w → parts_wanted w n p ≡ given ws → AllByRecursion IsNamedResult ws
parts_known None n p ws f e = subst (AllByRecursion IsNamedResult) (given_is [] ws e) tt
parts_known (Some t) n p ws f e =
    let ts = given_bind (given_or (components t) TypeMismatch p) (λ ts. if length ts == n then given ts else refused TypeMismatch p) ws e in
    let k = if_allowed (length ts.0 == n) (given ts.0) TypeMismatch p ws ts.2 in
    subst (AllByRecursion IsNamedResult) (given_is ts.0 ws k.1) (all_results ts.0 (components_named t f ts.0 (some_given (components t) TypeMismatch p ts.0 ts.1)))

got_wanted : (us : List Ty) (i : ℕ) → AllByRecursion IsNamedResult us → IsNamedWanted (slice_get us i)
got_wanted [] i h = tt
got_wanted (u ∷ us) zero h = h.0
got_wanted (u ∷ us) (suc i) h = got_wanted us i h.1

module _ (es : List Enumeration) where
  -- the type of a named form
  pub type_named : (t : Term) → IsNamed es t → IsNamedResult (type_of_term t)
  type_named t h = (parts_named es t h).1

  module _ (at : Environment) (w : Option Ty) (p : Place) (f : IsNamedWanted w) where
    -- what is asked of the next part
    abbrev Asks : Rule → List Term → Type 0
    Asks r ts = (q : Place) → AllNamed es ts → (k : Asked) → asked r at w p q ts ≡ given k → IsNamedAsked k

    entry_known : (s : Term) (b : Bool) (k : Asked) → IsNamed es s → (e : Ty × Ty) → given_or (entries (type_of_term s)) TypeMismatch p ≡ given e → of_type (if b then e.0 else e.1) ≡ given k → IsNamedAsked k
    entry_known s b k h e i j =
        let n = entries_named (type_of_term s) (type_named s h) e (some_given (entries (type_of_term s)) TypeMismatch p e i) in
        asks k (Form (Some (if b then e.0 else e.1))) j (either IsNamedResult b e.0 e.1 (as_result e.0 n.0) (as_result e.1 n.1))

    branches : (ts : List Term) → Asks rule.If ts
    unfolding asked
    branches [] q h k e = asks k (Form (Some ty.Bool)) e tt
    branches (r ∷ []) q h k e = asks k (Branch w) e f
    branches (r ∷ s ∷ ts) q h k e = asks k (Branch (Some (type_of_term s))) e (type_named s h.1.0)

    maps : (ts : List Term) → Asks rule.Get ts
    unfolding asked
    maps [] q h k e = asks k (Form None) e tt
    maps (s ∷ ts) q h k e =
        let x = given_bind (given_or (entries (type_of_term s)) TypeMismatch p) (λ (z : Ty × Ty). of_type (if length ts == 0 then z.0 else z.1)) k e in
        entry_known s (length ts == 0) k h.0 x.0 x.1 x.2

    changed_maps : (ts : List Term) → Asks rule.Set ts
    unfolding asked
    changed_maps [] q h k e = asks k (Form w) e f
    changed_maps (s ∷ ts) q h k e =
        let x = given_bind (given_or (entries (type_of_term s)) TypeMismatch p) (λ (z : Ty × Ty). of_type (if length ts == 0 then z.0 else z.1)) k e in
        entry_known s (length ts == 0) k h.0 x.0 x.1 x.2

    sides : (i : Infix) (ts : List Term) → Asks (rule.Two i) ts
    unfolding asked
    sides i [] q h k e =
        let x = given_bind (shaped i.operands w p) (λ _. given (Form (first_wanted i.operands w))) k e in asks k (Form (first_wanted i.operands w)) x.2 (first_known i.operands w f)
    sides i (s ∷ ts) q h k e =
        let x = if_allowed (takes i.operands (type_of_term s)) (of_type (type_of_term s)) TypeMismatch p k e in asks k (Form (Some (type_of_term s))) x.1 (type_named s h.0)

    members : (b : Bool) (ts : List Term) → Asks (rule.Member b) ts
    unfolding asked
    members b [] q h k e = let x = given_bind (truth w p) (λ _. given (Form None)) k e in asks k (Form None) x.2 tt
    members true (s ∷ ts) q h k e =
        let x = given_bind (given_or (element (type_of_term s)) TypeMismatch p) of_type k e in
        asks k (Form (Some x.0)) x.2 (as_result x.0 (element_named (type_of_term s) (type_named s h.0) x.0 (some_given (element (type_of_term s)) TypeMismatch p x.0 x.1)))
    members false (s ∷ ts) q h k e = asks k (Form None) e tt

    outcomes : (s : Term) (t : Ty) → IsNamed es s → outcome_of s p ≡ given t → IsNamedType t
    outcomes s t h e = outcome_named (type_of_term s) (type_named s h) t (some_given (outcome (type_of_term s)) TypeMismatch p t e)

    drawn : (d : Drawn) (ts : List Term) → Asks (rule.Drawn d) ts
    unfolding asked
    drawn d [] q h k e = let x = given_bind (source_wanted d at w p) (λ v. given (Source v)) k e in asks k (Source x.0) x.2 (source_known d at w x.0 p f x.1)
    drawn d (s ∷ ts) q h k e =
        let x = given_bind (outcome_of s p) (λ t. given (Function (Exactly t) (value_wanted d w))) k e in
        asks k (Function (Exactly x.0) (value_wanted d w)) x.2 (outcomes s x.0 h.0 x.1, value_known d w f)

    masses : (ts : List Term) → Asks rule.Mass ts
    unfolding asked
    masses [] q h k e = let x = given_bind (stands at w p ty.Real) (λ _. given (Form None)) k e in asks k (Form None) x.2 tt
    masses (s ∷ ts) q h k e = let x = given_bind (outcome_of s p) of_type k e in asks k (Form (Some x.0)) x.2 (as_result x.0 (outcomes s x.0 h.0 x.1))

    pub asked_named : (r : Rule) → IsNamedRule r → (ts : List Term) → Asks r ts
    unfolding asked
    asked_named (rule.Annotated t) n ts q h k e = let x = given_bind (stands at w p t) (λ _. of_type t) k e in asks k (Form (Some t)) x.2 n
    asked_named (rule.Tuple m) n ts q h k e =
        let ws = given_bind (parts_wanted w m p) _ k e in
        let v = given_bind (values ts p) (λ _. if length ts == 8 then refused Argument q else given (Form (slice_get ws.0 (length ts)))) k ws.2 in
        let s = if_refused (length ts == 8) Argument q (given (Form (slice_get ws.0 (length ts)))) k v.2 in
        asks k (Form (slice_get ws.0 (length ts))) s.1 (got_wanted ws.0 (length ts) (parts_known w m p ws.0 f ws.1))
    asked_named (rule.Part j r) n ts q h k e = asks k (Form None) e tt
    asked_named rule.If n ts q h k e = branches ts q h k e
    asked_named rule.Get n ts q h k e = maps ts q h k e
    asked_named rule.Set n ts q h k e = changed_maps ts q h k e
    asked_named (rule.One o) n ts q h k e = let x = given_bind (operand_wanted o at w p) (λ v. given (Form v)) k e in asks k (Form x.0) x.2 (operand_known o at w x.0 p f x.1)
    asked_named (rule.Two i) n ts q h k e = sides i ts q h k e
    asked_named (rule.Quotient b r) n ts q h k e = let x = given_bind (stands at w p ty.Real) (λ _. of_type ty.Real) k e in asks k (Form (Some ty.Real)) x.2 tt
    asked_named (rule.Member b) n ts q h k e = members b ts q h k e
    asked_named (rule.User x o) n ts q h k e =
        let a = given_bind (given_or (slice_get o.params (length ts)) TypeMismatch p) of_type k e in
        asks k (Form (Some a.0)) a.2 (got_named IsNamedResult o.params (length ts) a.0 n.1 (some_given (slice_get o.params (length ts)) TypeMismatch p a.0 a.1))
    asked_named rule.Product n ts q h k e =
        let d = given_bind (distribution_here at p) _ k e in
        let v = given_bind (factor_wanted w (length ts == 0) p) (λ v. given (Source v)) k d.2 in asks k (Source v.0) v.2 (factor_known w v.0 (length ts == 0) p f v.1)
    asked_named (rule.Drawn d) n ts q h k e = drawn d ts q h k e
    asked_named rule.Mass n ts q h k e = masses ts q h k e
    asked_named (rule.Sum m) n ts q h k e =
        let x = given_bind (stands at w p ty.Real) (λ _. given (Function (Below m) (Some ty.Real))) k e in asks k (Function (Below m) (Some ty.Real)) x.2 (n, tt)

  -- What is made of named parts.

  abbrev Makes : Rule → List Term → Type 0
  Makes r ts = AllNamed es ts → AreReady r ts 0 → (p : Place) (u : Term) → made r p ts ≡ given u → IsNamed es u

  -- a form of an operator
  pub operated : (o : Op) (ts : List Term) (t : Ty) → IsNamedOperator o t → IsNamedResult t → AllNamed es ts → IsNamed es (applied o ts t)
  operated o ts t n r h = node_named es (head.Builtin o) ts t n r h

  is_named : (t u : Term) → IsNamed es t → given t ≡ given u → IsNamed es u
  is_named t u h e = subst (IsNamed es) (given_is t u e) h

  value_types : (ts : List Term) → AllNamed es ts → list_all (λ t. is_of_values (type_of_term t)) ts ≡ true → AllByRecursion IsNamedType (map type_of_term ts)
  value_types [] h e = tt
  value_types (t ∷ ts) h e =
      let k = and_parts (is_of_values (type_of_term t)) (list_all (λ t. is_of_values (type_of_term t)) ts) e in (value_named (type_of_term t) (type_named t h.0) k.0, value_types ts h.1 k.1)

  tuples : (m : ℕ) (ts : List Term) → Makes (rule.Tuple m) ts
  unfolding made
  tuples m [] h two p u e = absurd (omega (arith, two))
  tuples m (s ∷ []) h two p u e = absurd (omega (arith, two))
  tuples m (s ∷ t ∷ ts) h two p u e =
      let us = s ∷ t ∷ ts in
      let k = given_bind (values us p) (λ _. given (applied op.Tuple us (ty.Tuple (map type_of_term us)))) u e in
      let v = if_allowed (list_all (λ z. is_of_values (type_of_term z)) us) (given tt) TypeMismatch p k.0 k.1 in
      let n = tuple_named (type_of_term s) (type_of_term t) (map type_of_term ts) (value_types us h v.0) in
      is_named (applied op.Tuple us (ty.Tuple (map type_of_term us))) u (operated op.Tuple us (ty.Tuple (map type_of_term us)) tt (as_result (ty.Tuple (map type_of_term us)) n) h) k.2

  part_of : (us : List Ty) (k : ℕ) (t : Ty) → AllByRecursion IsNamedType us → component us k ≡ Some t → IsNamedType t
  part_of us k t h e = step (k == 0) e
    where
      step : (b : Bool) → (if b then None else slice_get us (k - 1)) ≡ Some t → IsNamedType t
      step true i = cc
      step false i = got_named IsNamedType us (k - 1) t h i

  projections : (k : ℕ) (r : Place) → in_range k ≡ true → (ts : List Term) → Makes (rule.Part k r) ts
  unfolding made
  projections k r n (s ∷ []) h y p u e =
      let t = given_bind (part_type (type_of_term s) k r p) (λ t. given (applied (op.Part k) (s ∷ []) t)) u e in
      let us = given_bind (given_or (components (type_of_term s)) TypeMismatch p) (λ us. given_or (component us k) Argument r) t.0 t.1 in
      let vs = components_named (type_of_term s) (type_named s h.0) us.0 (some_given (components (type_of_term s)) TypeMismatch p us.0 us.1) in
      let v = part_of us.0 k t.0 vs (some_given (component us.0 k) Argument r t.0 us.2) in
      is_named (applied (op.Part k) (s ∷ []) t.0) u (operated (op.Part k) (s ∷ []) t.0 n (as_result t.0 v) h) t.2
  projections k r n _ h y p u e = cc

  choices : (ts : List Term) → Makes rule.If ts
  unfolding made
  choices (r ∷ s ∷ t ∷ []) h y p u e = is_named (applied op.If (r ∷ s ∷ t ∷ []) (type_of_term s)) u (operated op.If (r ∷ s ∷ t ∷ []) (type_of_term s) tt (type_named s h.1.0) h) e
  choices _ h y p u e = cc

  read_maps : (ts : List Term) → Makes rule.Get ts
  unfolding made
  read_maps (s ∷ t ∷ []) h y p u e =
      let x = given_bind (given_or (entries (type_of_term s)) TypeMismatch p) (λ (z : Ty × Ty). given (applied op.Get (s ∷ t ∷ []) (ty.Opt z.1))) u e in
      let n = entries_named (type_of_term s) (type_named s h.0) x.0 (some_given (entries (type_of_term s)) TypeMismatch p x.0 x.1) in
      is_named (applied op.Get (s ∷ t ∷ []) (ty.Opt x.0.1)) u (operated op.Get (s ∷ t ∷ []) (ty.Opt x.0.1) tt (as_result (ty.Opt x.0.1) (option_named x.0.1 n.1)) h) x.2
  read_maps _ h y p u e = cc

  set_maps : (ts : List Term) → Makes rule.Set ts
  unfolding made
  set_maps (s ∷ t ∷ v ∷ []) h y p u e = is_named (applied op.Set (s ∷ t ∷ v ∷ []) (type_of_term s)) u (operated op.Set (s ∷ t ∷ v ∷ []) (type_of_term s) tt (type_named s h.0) h) e
  set_maps _ h y p u e = cc

  prefix_named : (o : Prefix) (s : Ty) (t : Ty) → IsNamedResult s → prefix_result o s ≡ Some t → IsNamedOperator (prefix_operator o) t × IsNamedResult t
  prefix_named prefix.Not s t h e = (tt, subst IsNamedResult (same_some e) tt)
  prefix_named prefix.Negate s t h e =
      let k = if_some (is_signed s) s t e in let n = subst IsNamedType k.1 (as_type is_signed_layer (λ _. refl) s h k.0) in (n, as_result t n)
  prefix_named prefix.ToReal s t h e = let k = if_some _ ty.Real t e in (tt, subst IsNamedResult k.1 tt)
  prefix_named prefix.Absolute s t h e = (tt, subst IsNamedResult (same_some e) tt)
  prefix_named prefix.Some s t h e =
      let k = if_some (is_of_values s) (ty.Opt s) t e in let n = subst IsNamedType k.1 (option_named s (value_named s h k.0)) in (n, as_result t n)
  prefix_named prefix.Oget s t h e = (tt, as_result t (inside_named s h t e))
  prefix_named prefix.Dunit s t h e = let k = if_some (is_of_values s) (ty.Distr s) t e in (tt, subst IsNamedResult k.1 (distribution_named s (value_named s h k.0)))

  prefixed : (o : Prefix) (ts : List Term) → Makes (rule.One o) ts
  unfolding made
  prefixed o (s ∷ []) h y p u e =
      let t = given_bind (given_or (prefix_result o (type_of_term s)) TypeMismatch p) (λ t. given (applied (prefix_operator o) (s ∷ []) t)) u e in
      let n = prefix_named o (type_of_term s) t.0 (type_named s h.0) (some_given (prefix_result o (type_of_term s)) TypeMismatch p t.0 t.1) in
      is_named (applied (prefix_operator o) (s ∷ []) t.0) u (operated (prefix_operator o) (s ∷ []) t.0 n.0 n.1 h) t.2
  prefixed o _ h y p u e = cc

  two_named : (o : Op) (s : Operands) → Suits o s → (t : Ty) → takes s t ≡ true → IsNamedResult t → IsNamedOperator o (result_type s t) × IsNamedResult (result_type s t)
  two_named op.And Truths n t k h = (tt, tt)
  two_named op.Or Truths n t k h = (tt, tt)
  two_named op.Implies Truths n t k h = (tt, tt)
  two_named op.Iff Truths n t k h = (tt, tt)
  two_named op.Equal Alike n t k h = (tt, tt)
  two_named op.NotEqual Alike n t k h = (tt, tt)
  two_named op.Less Ordered n t k h = (tt, tt)
  two_named op.AtMost Ordered n t k h = (tt, tt)
  two_named op.Plus Numbers n t k h = (as_type is_arithmetic_layer (λ _. refl) t h k, h)
  two_named op.Minus Numbers n t k h = (as_type is_arithmetic_layer (λ _. refl) t h k, h)
  two_named op.Times Numbers n t k h = (as_type is_arithmetic_layer (λ _. refl) t h k, h)
  two_named op.Xor Bits n t k h = (as_type is_of_bits_layer (λ _. refl) t h k, h)
  two_named _ _ n t k h = absurd n

  ordered : (b : Bool) (s t : Term) → IsNamed es s → IsNamed es t → AllNamed es (in_order b s t)
  ordered b s t h k = either (AllNamed es) b (t ∷ s ∷ []) (s ∷ t ∷ []) (k, (h, tt)) (h, (k, tt))

  two_sides : (i : Infix) → Suits i.op i.operands → (ts : List Term) → Makes (rule.Two i) ts
  unfolding made
  two_sides i n (s ∷ t ∷ []) h y p u e =
      let r = result_type i.operands (type_of_term s) in
      let k = two_named i.op i.operands n (type_of_term s) y (type_named s h.0) in
      is_named (applied i.op (in_order i.exchanged s t) r) u (operated i.op (in_order i.exchanged s t) r k.0 k.1 (ordered i.exchanged s t h.0 h.1.0)) e
  two_sides i n _ h y p u e = cc

  quotients : (b : Bool) (r : Option Place) (ts : List Term) → Makes (rule.Quotient b r) ts
  unfolding made
  quotients b (Some r) ts h y p u e = cc
  quotients b None (s ∷ t ∷ []) h y p u e = is_named (applied op.Divide (in_order b s t) ty.Real) u (operated op.Divide (in_order b s t) ty.Real tt tt (ordered b s t h.0 h.1.0)) e
  quotients b None _ h y p u e = cc

  member_named : (s t : Term) → IsNamed es s → IsNamed es t → IsNamed es (member s t)
  member_named s t h k =
      either (λ (o : Op). IsNamed es (applied o (s ∷ t ∷ []) ty.Bool)) (is_distribution (type_of_term t)) op.InSupport op.InMap
      (operated op.InSupport (s ∷ t ∷ []) ty.Bool tt tt (h, (k, tt))) (operated op.InMap (s ∷ t ∷ []) ty.Bool tt tt (h, (k, tt)))

  memberships : (b : Bool) (ts : List Term) → Makes (rule.Member b) ts
  unfolding made
  memberships true (t ∷ s ∷ []) h y p u e = is_named (member s t) u (member_named s t h.1.0 h.0) e
  memberships false (s ∷ t ∷ []) h y p u e =
      let k = given_bind (given_or (element (type_of_term t)) TypeMismatch p) (λ z. if ty_eq z (type_of_term s) then given (member s t) else refused TypeMismatch p) u e in
      let d = if_allowed (ty_eq k.0 (type_of_term s)) (given (member s t)) TypeMismatch p u k.2 in is_named (member s t) u (member_named s t h.0 h.1.0) d.1
  memberships _ _ h y p u e = cc

  pub user_named : (x : Name) (o : OperatorType) → IsNamedRule (rule.User x o) → (ts : List Term) → Makes (rule.User x o) ts
  unfolding made
  user_named x o n ts h y p u e =
      let k = if_allowed (length ts == length o.params) (given (node (head.User x) ts o.result)) TypeMismatch p u e in
      is_named (node (head.User x) ts o.result) u (node_named es (head.User x) ts o.result n.0 n.2 h) k.1

  products : (ts : List Term) → Makes rule.Product ts
  unfolding made
  products (s ∷ t ∷ []) h y p u e =
      let k = given_bind (product_type (type_of_term s) (type_of_term t) p) (λ v. given (applied op.Product (s ∷ t ∷ []) v)) u e in
      let a = given_bind (given_or (outcome (type_of_term s)) TypeMismatch p) _ k.0 k.1 in
      let pairs = λ (z : Ty). ty.Tuple (a.0 ∷ z ∷ []) in
      let b = given_bind (given_or (outcome (type_of_term t)) TypeMismatch p) (λ z. if is_small (pairs z) then given (ty.Distr (pairs z)) else refused TypeTooLarge p) k.0 a.2 in
      let d = if_allowed (is_small (pairs b.0)) (given (ty.Distr (pairs b.0))) TypeTooLarge p k.0 b.2 in
      let m = outcome_named (type_of_term s) (type_named s h.0) a.0 (some_given (outcome (type_of_term s)) TypeMismatch p a.0 a.1) in
      let n = outcome_named (type_of_term t) (type_named t h.1.0) b.0 (some_given (outcome (type_of_term t)) TypeMismatch p b.0 b.1) in
      let r : IsNamedResult k.0 = subst IsNamedResult (given_is (ty.Distr (pairs b.0)) k.0 d.1) (distribution_named (pairs b.0) (tuple_named a.0 b.0 [] (m, (n, tt)))) in
      is_named (applied op.Product (s ∷ t ∷ []) k.0) u (operated op.Product (s ∷ t ∷ []) k.0 tt r h) k.2
  products _ h y p u e = cc

  drawn_type : (d : Drawn) (a b t : Ty) → IsNamedResult a → IsNamedResult b → drawn_result d a b ≡ Some t → IsNamedResult t
  drawn_type Measure a b t h k e = subst IsNamedResult (same_some e) tt
  drawn_type Image a b t h k e = let n = if_some (is_of_values b) (ty.Distr b) t e in subst IsNamedResult n.1 (distribution_named b (value_named b k n.0))
  drawn_type Restriction a b t h k e = subst IsNamedResult (same_some e) h

  drawn_node : (d : Drawn) (ts : List Term) (t : Ty) → IsNamedResult t → AllNamed es ts → IsNamed es (node (drawn_head d) ts t)
  drawn_node Measure ts t n h = node_named es head.Mu ts t tt n h
  drawn_node Image ts t n h = node_named es head.Map ts t tt n h
  drawn_node Restriction ts t n h = node_named es head.Restrict ts t tt n h

  samplings : (d : Drawn) (ts : List Term) → Makes (rule.Drawn d) ts
  unfolding made
  samplings d (s ∷ x ∷ []) h y p u e =
      let t = given_bind (given_or (drawn_result d (type_of_term s) (type_of_term x)) TypeMismatch p) (λ t. given (node (drawn_head d) (s ∷ x ∷ []) t)) u e in
      let n = drawn_type d (type_of_term s) (type_of_term x) t.0 (type_named s h.0) (type_named x h.1.0) (some_given (drawn_result d (type_of_term s) (type_of_term x)) TypeMismatch p t.0 t.1) in
      is_named (node (drawn_head d) (s ∷ x ∷ []) t.0) u (drawn_node d (s ∷ x ∷ []) t.0 n h) t.2
  samplings d _ h y p u e = cc

  weighings : (ts : List Term) → Makes rule.Mass ts
  unfolding made
  weighings (s ∷ t ∷ []) h y p u e = is_named (applied op.Mu1 (s ∷ t ∷ []) ty.Real) u (operated op.Mu1 (s ∷ t ∷ []) ty.Real tt tt h) e
  weighings _ h y p u e = cc

  sums : (n : ℕ) → in_range n ≡ true → (ts : List Term) → Makes (rule.Sum n) ts
  unfolding made
  sums n b (x ∷ []) h y p u e = is_named (node (head.Sum n) (x ∷ []) ty.Real) u (node_named es (head.Sum n) (x ∷ []) ty.Real b tt h) e
  sums n b _ h y p u e = cc

  annotated : (t : Ty) (ts : List Term) → Makes (rule.Annotated t) ts
  unfolding made
  annotated t (s ∷ []) h y p u e = is_named s u h.0 e
  annotated t _ h y p u e = cc

  pub made_named : (r : Rule) → IsNamedRule r → (ts : List Term) → Makes r ts
  made_named (rule.Annotated t) n ts = annotated t ts
  made_named (rule.Tuple m) n ts = tuples m ts
  made_named (rule.Part k r) n ts = projections k r n ts
  made_named rule.If n ts = choices ts
  made_named rule.Get n ts = read_maps ts
  made_named rule.Set n ts = set_maps ts
  made_named (rule.One o) n ts = prefixed o ts
  made_named (rule.Two i) n ts = two_sides i n ts
  made_named (rule.Quotient b r) n ts = quotients b r ts
  made_named (rule.Member b) n ts = memberships b ts
  made_named (rule.User x o) n ts = user_named x o n ts
  made_named rule.Product n ts = products ts
  made_named (rule.Drawn d) n ts = samplings d ts
  made_named rule.Mass n ts = weighings ts
  made_named (rule.Sum m) n ts = sums m n ts
