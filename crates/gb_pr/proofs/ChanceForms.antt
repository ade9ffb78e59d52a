-- Comparisons of probabilities: what their parts are, that these are typed, and what they mean.
use Rattle.std.proofs.Common.{◌≡◌, Bool, true, false, ◌||◌, List, [], ◌∷◌, ◌++◌, map, Option, Some, None, refl, ap, sym, ◌∙◌, subst}
use Rattle.std.proofs.lemmas.Bool.{or_parts}
use Rattle.std.proofs.lemmas.Option.{same_Some, none-some}
use Rattle.std.specs.List.{AllByRecursion, list_any}
use Rattle.std.specs.Option.{option_map}
use Rattle.gb_core.specs.declared.ty.Ty.{Ty}
use Rattle.gb_core.specs.declared.ty.Ty.TheVariants as ty
use Rattle.gb_terms.specs.declared.decl.TypedName.{TypedName}
use Rattle.gb_terms.specs.declared.op.Op.TheVariants as op
use Rattle.gb_terms.specs.declared.op.Rel.{Rel}
use Rattle.gb_terms.specs.declared.op.Rel.TheVariants.{AtMost, Equal, AtLeast}
use Rattle.gb_terms.specs.declared.term.Head.{Head}
use Rattle.gb_terms.specs.declared.term.Head.TheVariants as head
use Rattle.gb_terms.specs.declared.term.Term.{Term, out-Term}
use Rattle.gb_terms.specs.Make.{node}
use Rattle.gb_meaning.specs.Fractions.{Fraction}
use Rattle.gb_meaning.specs.Judgments.{Judge, compares, den, probability, speaking}
use Rattle.gb_meaning.specs.Meanings.{value_in}
use Rattle.gb_meaning.specs.Setting.{Setting}
use Rattle.gb_meaning.specs.Setting.Meaning.{fraction}
use Rattle.gb_meaning.specs.State.{State, at, memory_of}
use Rattle.gb_meaning.specs.Terms.{val}
use Rattle.gb_meaning.specs.Written.{type_of}
use Rattle.gb_meaning.proofs.Nodes.{each_is_node}
use Rattle.gb_laws.specs.Plain.{IsPlain}
use Rattle.gb_laws.specs.Typing.{IsProbability}
use Rattle.gb_laws.proofs.Nodes.{type_of_node}
use Rattle.gb_laws.proofs.Probabilities.{probability_node}
use Rattle.gb_typing.specs.Changes.{IsMemoryIn, Made}
use Rattle.gb_typing.specs.Context.{Context, procedure, with_own}
use Rattle.gb_typing.specs.Modules.{ProcedureType}
use Rattle.gb_typing.specs.Typing.{AllTyped, IsForm, IsPlace, IsThere, IsTyped, after}
use Rattle.gb_typing.proofs.Made.{IsNode, parts_typed}
use Rattle.gb_prog.specs.Compared.{compared}
use Rattle.gb_prog.proofs.Comparing.{compared_is}
use Rattle.gb_steps.specs.Chances.{Chance, Compared, before_last, chance_at, chance_of, chances_by, chances_in, chances_of, compared_at, compared_of, last, speaks, unless}
use Rattle.gb_pr.proofs.PlainTerms.{plain_term}

-- The parts.

last_apart : (t : Term) (ts : List Term) → t ∷ ts ≡ before_last t ts ++ last t ts ∷ []
last_apart t [] = refl
last_apart t (u ∷ ts) = ap (λ us. t ∷ us) (last_apart u ts)

-- the arguments of a probability, and behind them its event
abbrev pub arguments_in : Chance → List Term
arguments_in k = k.arguments ++ k.event ∷ []

-- the arguments of a probability that is seen speak of no program
abbrev IsOf : Head → List Term → Chance → Type 0
IsOf h ts k = (h ≡ head.Pr k.procedure k.memory) × (ts ≡ arguments_in k) × (list_any (speaks false) k.arguments ≡ false)

-- what is given unless a test is true
given_unless : {A : Type 0} (b : Bool) (x y : A) → unless b x ≡ Some y → (b ≡ false) × (x ≡ y)
given_unless true x y e = absurd (none-some y e)
given_unless false x y e = (refl, same_Some x y e)

chance_parts : (h : Head) (ts : List Term) (k : Chance) → chance_at h ts ≡ Some k → IsOf h ts k
chance_parts (head.Pr p r) (t ∷ ts) k e =
    let w = given_unless (list_any (speaks false) (before_last t ts)) (record { procedure = p; arguments = before_last t ts; memory = r; event = last t ts }) k e in
    (ap (λ k. head.Pr k.procedure k.memory) w.1, last_apart t ts ∙ ap arguments_in w.1, ap (λ k. list_any (speaks false) k.arguments) (sym w.1) ∙ w.0)
chance_parts (head.Pr p r) [] k e = absurd (none-some k e)
chance_parts _ ts k e = absurd (none-some k e)

-- the term is the probability
chance_node : (t : Term) (k : Chance) → chance_of t ≡ Some k → t ≡ node (head.Pr k.procedure k.memory) (arguments_in k) (out-Term t).ty
chance_node t k e =
    let w = chance_parts (out-Term t).head (out-Term t).args k e in
    each_is_node t ∙ (λ i. node (w.0 i) (w.1 i) (out-Term t).ty)

abbrev IsComparison : Head → List Term → Rel × Term × Term → Type 0
IsComparison h ts z = node h ts ty.Bool ≡ compared z.0 z.1 z.2

compared_parts : (h : Head) (ts : List Term) (z : Rel × Term × Term) → compared_at h ts ≡ Some z → IsComparison h ts z
compared_parts (head.Builtin op.AtMost) (a ∷ b ∷ []) z e = ap (λ (z : Rel × Term × Term). compared z.0 z.1 z.2) (same_Some (AtMost, a, b) z e)
compared_parts (head.Builtin op.Equal) (a ∷ b ∷ []) z e = ap (λ (z : Rel × Term × Term). compared z.0 z.1 z.2) (same_Some (Equal, a, b) z e)
compared_parts (head.Builtin op.AtMost) [] z e = absurd (none-some z e)
compared_parts (head.Builtin op.AtMost) (a ∷ []) z e = absurd (none-some z e)
compared_parts (head.Builtin op.AtMost) (a ∷ b ∷ x ∷ ts) z e = absurd (none-some z e)
compared_parts (head.Builtin op.Equal) [] z e = absurd (none-some z e)
compared_parts (head.Builtin op.Equal) (a ∷ []) z e = absurd (none-some z e)
compared_parts (head.Builtin op.Equal) (a ∷ b ∷ x ∷ ts) z e = absurd (none-some z e)
compared_parts _ ts z e = absurd (none-some z e)

-- a form that is seen as a comparison is one
pub comparison_is : (f : Term) → type_of f ≡ ty.Bool → (r : Rel) (a b : Term) → compared_of f ≡ Some (r, a, b) → f ≡ compared r a b
comparison_is f w r a b e =
    let o = out-Term f in
    let written : o.ty ≡ ty.Bool = sym (type_of_node o.head o.args o.ty) ∙ ap type_of (sym (each_is_node f)) ∙ w in
    each_is_node f ∙ ap (node o.head o.args) written ∙ compared_parts o.head o.args (r, a, b) e

-- Two probabilities that are compared, whose events speak of no program.
pub record AreCompared (f : Term) (k : Compared) : Type 0 where
  pub left : Term
  pub right : Term
  pub comparison : compared_of f ≡ Some (k.rel, left, right)
  pub left_chance : chance_of left ≡ Some k.left
  pub right_chance : chance_of right ≡ Some k.right
  pub left_event : IsPlain k.left.event
  pub right_event : IsPlain k.right.event

both_seen : (f : Term) (k : Compared) (r : Rel) (a b : Term) → compared_of f ≡ Some (r, a, b) → (x y : Option Chance) → chance_of a ≡ x → chance_of b ≡ y → chances_by r x y ≡ Some k → AreCompared f k
both_seen f k r a b h (Some x) (Some y) p q e =
    let w = given_unless (speaks false x.event || speaks false y.event) (record { rel = r; left = x; right = y }) k e in
    let n = or_parts (speaks false x.event) (speaks false y.event) w.0 in
    subst (AreCompared f) w.1 (record {
      left = a;
      right = b;
      comparison = h;
      left_chance = p;
      right_chance = q;
      left_event = plain_term x.event n.0;
      right_event = plain_term y.event n.1;
    })
both_seen f k r a b h None y p q e = absurd (none-some k e)
both_seen f k r a b h (Some x) None p q e = absurd (none-some k e)

all_seen : (f : Term) (k : Compared) (o : Option (Rel × Term × Term)) → compared_of f ≡ o → chances_in o ≡ Some k → AreCompared f k
all_seen f k (Some (r, a, b)) h e = both_seen f k r a b h (chance_of a) (chance_of b) refl refl e
all_seen f k None h e = absurd (none-some k e)

pub are_compared : (f : Term) (k : Compared) → chances_of f ≡ Some k → AreCompared f k
are_compared f k e = all_seen f k (compared_of f) refl e

-- Typing.

-- one term for each parameter, of its type, which speaks of no program
abbrev pub AreFor : Context → List TypedName → List Term → Type 0
AreFor c [] [] = Unit {0}
AreFor c (x ∷ xs) (e ∷ es) = (Made c x.ty e × IsPlain e) × AreFor c xs es
AreFor c xs es = ⊥

-- A probability from a memory that is there, with an argument for each parameter of its procedure.
pub record IsTypedChance (c : Context) (k : Chance) : Type 0 where
  pub type : ProcedureType
  pub declared : procedure c k.procedure ≡ Some type
  pub memory : IsMemoryIn c k.memory
  pub place : IsPlace k.memory
  pub arguments : AreFor c type.params k.arguments
  pub event : IsForm (with_own c (after (procedure c k.procedure))) k.event

abbrev rest : List Ty → List Ty
rest [] = []
rest (t ∷ ts) = ts

abbrev first_or : Ty → List Ty → Ty
first_or t [] = t
first_or t (u ∷ us) = u

abbrev is_empty : List Ty → Type 0
is_empty [] = Unit {0}
is_empty (t ∷ ts) = ⊥

ends : (us : List Ty) (v : Ty) → [] ≡ us ++ v ∷ [] → ⊥
ends [] v e = subst is_empty e tt
ends (u ∷ us) v e = subst is_empty e tt

ends_here : (es : List Term) (e : Term) → map type_of (es ++ e ∷ []) ≡ [] → ⊥
ends_here [] e h = subst is_empty (sym h) tt
ends_here (a ∷ es) e h = subst is_empty (sym h) tt

all_apart : (c d : Context) (es : List Term) (e : Term) → AllTyped c c d (es ++ e ∷ []) → AllByRecursion (IsTyped c) es × IsTyped d e
all_apart c d [] e w = (tt, w)
all_apart c d (a ∷ []) e w = ((w.0, tt), w.1)
all_apart c d (a ∷ b ∷ es) e w = let k = all_apart c d (b ∷ es) e w.1 in ((w.0, k.0), k.1)

each_for : (c : Context) (es : List Term) (e : Term) (xs : List TypedName) → map type_of (es ++ e ∷ []) ≡ map (λ x. x.ty) xs ++ ty.Bool ∷ [] → AllByRecursion (IsTyped c) es →
    list_any (speaks false) es ≡ false → AreFor c xs es × (type_of e ≡ ty.Bool)
each_for c [] e [] h w n = (tt, ap (first_or ty.Bool) h)
each_for c [] e (x ∷ xs) h w n = absurd (ends (map (λ x. x.ty) xs) ty.Bool (ap rest h))
each_for c (a ∷ es) e [] h w n = absurd (ends_here es e (ap rest h))
each_for c (a ∷ es) e (x ∷ xs) h w n =
    let m = or_parts (speaks false a) (list_any (speaks false) es) n in
    let k = each_for c es e xs (ap rest h) w.1 m.1 in
    (((record { typed = w.0; written = ap (first_or x.ty) h }, plain_term a m.0), k.0), k.1)

module _ (c : Context) (t : Term) (w : IsTyped c t) (k : Chance) (e : chance_of t ≡ Some k) where
  abbrev whole : Term
  whole = node (head.Pr k.procedure k.memory) (arguments_in k) (out-Term t).ty

  abbrev seen : IsOf (out-Term t).head (out-Term t).args k
  seen = chance_parts (out-Term t).head (out-Term t).args k e

  whole_typed : IsTyped c whole
  whole_typed = subst (IsTyped c) (chance_node t k e) w

  abbrev parts : IsNode c (head.Pr k.procedure k.memory) (map type_of (arguments_in k)) (arguments_in k) (out-Term t).ty
  parts = parts_typed c (head.Pr k.procedure k.memory) (arguments_in k) (out-Term t).ty whole_typed

  of_type : (o : Option ProcedureType) → procedure c k.procedure ≡ o → IsTypedChance c k
  of_type None h = absurd (subst IsThere h parts.1.2)
  of_type (Some u) h =
      let apart = all_apart c (with_own c (after (procedure c k.procedure))) k.arguments k.event parts.3 in
      let types : map type_of (arguments_in k) ≡ map (λ x. x.ty) u.params ++ ty.Bool ∷ [] =
      subst (λ o. IsProbability (option_map (λ t. map (λ x. x.ty) t.params) o) (map type_of (arguments_in k))) h parts.0.0 in
      let made = each_for c k.arguments k.event u.params types apart.0 seen.2 in
      record { type = u; declared = h; memory = (parts.0.1, parts.1.0); place = parts.1.1; arguments = made.0; event = record { typed = apart.1; truth = made.1 } }

  pub chance_typed : IsTypedChance c k
  chance_typed = of_type (procedure c k.procedure) refl

  real : (out-Term t).ty ≡ ty.Real
  real = parts.0.2

  pub chance_real : type_of t ≡ ty.Real
  chance_real = ap type_of (chance_node t k e) ∙ type_of_node (head.Pr k.procedure k.memory) (arguments_in k) (out-Term t).ty ∙ real

  -- what it means
  pub chance_value : (g : Setting) (j : Judge) (s : State) →
      val g (speaking g j) t s ≡ fraction (probability g k.procedure (map (λ e. value_in (val g (speaking g j) e s)) k.arguments) (memory_of s k.memory) (λ n. den g j k.event (at s n)))
  chance_value g j s =
      ap (λ t. val g (speaking g j) t s) (chance_node t k e ∙ ap (node (head.Pr k.procedure k.memory) (arguments_in k)) real)
      ∙ probability_node g j k.procedure k.memory k.arguments k.event s

-- The sides of a comparison are typed where it is, and it says of their fractions how they stand.

module _ (c : Context) where
  of_comparison : (r : Rel) (a b : Term) → IsTyped c (compared r a b) → IsTyped c a × IsTyped c b
  of_comparison AtMost a b w = let k = parts_typed c (head.Builtin op.AtMost) (a ∷ b ∷ []) ty.Bool w in (k.3.0, k.3.1)
  of_comparison Equal a b w = let k = parts_typed c (head.Builtin op.Equal) (a ∷ b ∷ []) ty.Bool w in (k.3.0, k.3.1)
  of_comparison AtLeast a b w = let k = parts_typed c (head.Builtin op.AtMost) (b ∷ a ∷ []) ty.Bool w in (k.3.1, k.3.0)

  module _ (f : Term) (w : IsForm c f) (r : Rel) (a b : Term) (e : compared_of f ≡ Some (r, a, b)) where
    pub sides_typed : IsTyped c a × IsTyped c b
    sides_typed = of_comparison r a b (subst (IsTyped c) (comparison_is f w.truth r a b e) w.typed)

    pub comparison_says : (g : Setting) (j : Judge) (s : State) (x y : Fraction) → val g (speaking g j) a s ≡ fraction x → val g (speaking g j) b s ≡ fraction y →
        den g j f s ≡ compares r x y
    comparison_says g j s x y p q = ap (λ f. den g j f s) (comparison_is f w.truth r a b e) ∙ compared_is g j s r a b x y p q
