-- A head means the same where modules stand for names, and where they are put in.
use Rattle.std.proofs.Common.{◌≡◌, ℕ, ◌+◌, ◌-◌, ◌*◌, ◌%◌, if◌then◌else◌, List, [], ◌∷◌, map, Option, Some, None, refl, ap, sym, ◌∙◌, subst}
use Rattle.gb_core.specs.declared.ty.Ty.{Ty}
use Rattle.gb_core.specs.declared.value.Value.{Value}
use Rattle.gb_core.specs.declared.value.Value.TheVariants.{Many}
use Rattle.gb_core.specs.declared.var.Var.{Var}
use Rattle.gb_core.specs.declared.var.Var.TheVariants as var
use Rattle.gb_core.specs.Numbering.{Numbering, parts_of, first_or}
use Rattle.gb_terms.specs.declared.decl.Param.{Param}
use Rattle.gb_terms.specs.declared.module.Mexp.{Mexp}
use Rattle.gb_terms.specs.declared.op.Op.{Op}
use Rattle.gb_terms.specs.declared.op.Op.TheVariants as op
use Rattle.gb_terms.specs.declared.op.Read.TheVariants as read
use Rattle.gb_terms.specs.declared.term.Head.{Head}
use Rattle.gb_terms.specs.declared.term.Head.TheVariants as head
use Rattle.gb_terms.specs.declared.term.Term.{Term}
use Rattle.gb_goal.specs.Instances.{stands_for}
use Rattle.gb_meaning.specs.Globs.{EachGlob}
use Rattle.gb_meaning.specs.Names.{Name, get}
use Rattle.gb_meaning.specs.Memory.{Memory, read as read_var, read_globals}
use Rattle.gb_meaning.specs.Setting.{Meaning, Setting}
use Rattle.gb_meaning.specs.Setting.Meaning.{finite, whole, fraction, weights}
use Rattle.gb_meaning.specs.Meanings.{of_truth, number_in, of_number, value_in, truth}
use Rattle.gb_meaning.specs.Distributions.{uniform}
use Rattle.gb_meaning.specs.Operators.{Argument, binary, denominator_at, difference_at, entry_set, key_type, nullary, operated, outcome_type, product_at, sum_at, ternary, unary}
use Rattle.gb_meaning.specs.State.{State, at, memory_of}
use Rattle.gb_meaning.specs.Terms.{Part, Speaks, argument, at_head, at_value, before_last, denominator_of, each_value, last_of, some_value}
use Rattle.gb_meaning.specs.Values.{fit, values}
use Rattle.gb_typing.specs.Context.{Context}
use Rattle.gb_typing.specs.Typing.{IsNamed}
use Rattle.gb_typing.proofs.Agreeing.{key-named, outcome-named}
use Rattle.gb_typing.proofs.PlainGlobals.{EachPlain, plain-globals}
use Rattle.gb_typing.proofs.SameTerms.{globals_same}
use Rattle.gb_arguments.specs.Arguments.{standing}
use Rattle.gb_instances.specs.Put.{head_put, name_put, procedure_put, type_put, variable_put}
use Rattle.gb_arguments.specs.Said.{IsName, QuantifiedNames}
use Rattle.gb_arguments.proofs.PutTypes.{distribution_put, key_put, modulus_put, named_is, outcome_put, values_put}

module _ (ps : List Param) (es : List Mexp) (g : Setting) (plain : (m : Mexp) → EachPlain (g.types.footprint m)) where
  abbrev f : Name → Mexp
  f = stands_for ps es

  abbrev pub here : Setting
  here = standing f g

  abbrev pub led : Ty → Ty
  led t = type_put (name_put ps es) t

  abbrev pub Spoken : Ty → Type 0
  Spoken t = EachGlob (λ a. IsName (f a)) t

  pub values_led : (t : Ty) → Spoken t → values here.types t ≡ values g.types (led t)
  values_led t e = values_put f g.types t e

  outcomes_led : (t : Ty) → Spoken (outcome_type t) → values here.types (outcome_type t) ≡ values g.types (outcome_type (led t))
  outcomes_led t e = values_led (outcome_type t) e ∙ ap (values g.types) (sym (outcome_put f t))

  keys_led : (t : Ty) → Spoken (key_type t) → values here.types (key_type t) ≡ values g.types (key_type (led t))
  keys_led t e = values_led (key_type t) e ∙ ap (values g.types) (sym (key_put f t))

  fit_led : (t : Ty) → Spoken t → (o : Option Value) → fit here.types t o ≡ fit g.types (led t) o
  fit_led t e None = ap (λ (z : Numbering). z.at 0) (values_led t e)
  fit_led t e (Some v) = ap (λ (z : Numbering). if z.has v then v else z.at 0) (values_led t e)

  -- globals are read alike
  pub globals_led : (m : Memory) (e : Mexp) → read_globals here.types m (g.types.footprint e) ≡ read_globals g.types m (g.types.footprint e)
  globals_led m e = globals_same here.types g.types m (g.types.footprint e) (g.types.footprint e) refl (plain-globals here.types g.types refl (g.types.footprint e) (plain e))

  read_led : (c : Context) (r : _) (m : Memory) (x : Var) (t : Ty) → IsNamed c (head.Read (read.Program x r)) t → Spoken t →
      read_var here.types m x t ≡ read_var g.types m (variable_put (name_put ps es) x) (led t)
  read_led c r m (var.Global parent name) t w e = fit_led t e (get m.globals (parent ∷ name ∷ []))
  read_led c r m (var.Local x) t w e = fit_led t e (get m.frame (x ∷ []))
  read_led c r m (var.Glob a) t w e =
      globals_led m (f a) ∙ ap (λ z. read_globals g.types m (g.types.footprint z)) (named_is (f a) (subst Spoken w.2 e))

  -- built-in operators

  sum_led : (t : Ty) (a b : Meaning) → sum_at t a b ≡ sum_at (led t) a b
  sum_led t (finite v) b = ap (λ k. of_number ((number_in (finite v) + number_in b) % k)) (sym (modulus_put f t))
  sum_led t (weights d) b = ap (λ k. of_number ((number_in (weights d) + number_in b) % k)) (sym (modulus_put f t))
  sum_led t (whole a) (whole b) = refl
  sum_led t (whole a) (finite v) = ap (λ k. of_number ((number_in (whole a) + number_in (finite v)) % k)) (sym (modulus_put f t))
  sum_led t (whole a) (weights d) = ap (λ k. of_number ((number_in (whole a) + number_in (weights d)) % k)) (sym (modulus_put f t))
  sum_led t (whole a) (fraction b) = ap (λ k. of_number ((number_in (whole a) + number_in (fraction b)) % k)) (sym (modulus_put f t))
  sum_led t (fraction a) (fraction b) = refl
  sum_led t (fraction a) (finite v) = ap (λ k. of_number ((number_in (fraction a) + number_in (finite v)) % k)) (sym (modulus_put f t))
  sum_led t (fraction a) (weights d) = ap (λ k. of_number ((number_in (fraction a) + number_in (weights d)) % k)) (sym (modulus_put f t))
  sum_led t (fraction a) (whole b) = ap (λ k. of_number ((number_in (fraction a) + number_in (whole b)) % k)) (sym (modulus_put f t))

  difference_led : (t : Ty) (a b : Meaning) → difference_at t a b ≡ difference_at (led t) a b
  difference_led t (finite v) b = ap (λ k. of_number ((number_in (finite v) + (k - number_in b)) % k)) (sym (modulus_put f t))
  difference_led t (weights d) b = ap (λ k. of_number ((number_in (weights d) + (k - number_in b)) % k)) (sym (modulus_put f t))
  difference_led t (whole a) (whole b) = refl
  difference_led t (whole a) (finite v) = ap (λ k. of_number ((number_in (whole a) + (k - number_in (finite v))) % k)) (sym (modulus_put f t))
  difference_led t (whole a) (weights d) = ap (λ k. of_number ((number_in (whole a) + (k - number_in (weights d))) % k)) (sym (modulus_put f t))
  difference_led t (whole a) (fraction b) = ap (λ k. of_number ((number_in (whole a) + (k - number_in (fraction b))) % k)) (sym (modulus_put f t))
  difference_led t (fraction a) (fraction b) = refl
  difference_led t (fraction a) (finite v) = ap (λ k. of_number ((number_in (fraction a) + (k - number_in (finite v))) % k)) (sym (modulus_put f t))
  difference_led t (fraction a) (weights d) = ap (λ k. of_number ((number_in (fraction a) + (k - number_in (weights d))) % k)) (sym (modulus_put f t))
  difference_led t (fraction a) (whole b) = ap (λ k. of_number ((number_in (fraction a) + (k - number_in (whole b))) % k)) (sym (modulus_put f t))

  product_led : (t : Ty) (a b : Meaning) → product_at t a b ≡ product_at (led t) a b
  product_led t (finite v) b = ap (λ k. of_number ((number_in (finite v) * number_in b) % k)) (sym (modulus_put f t))
  product_led t (weights d) b = ap (λ k. of_number ((number_in (weights d) * number_in b) % k)) (sym (modulus_put f t))
  product_led t (whole a) (whole b) = refl
  product_led t (whole a) (finite v) = ap (λ k. of_number ((number_in (whole a) * number_in (finite v)) % k)) (sym (modulus_put f t))
  product_led t (whole a) (weights d) = ap (λ k. of_number ((number_in (whole a) * number_in (weights d)) % k)) (sym (modulus_put f t))
  product_led t (whole a) (fraction b) = ap (λ k. of_number ((number_in (whole a) * number_in (fraction b)) % k)) (sym (modulus_put f t))
  product_led t (fraction a) (fraction b) = refl
  product_led t (fraction a) (finite v) = ap (λ k. of_number ((number_in (fraction a) * number_in (finite v)) % k)) (sym (modulus_put f t))
  product_led t (fraction a) (weights d) = ap (λ k. of_number ((number_in (fraction a) * number_in (weights d)) % k)) (sym (modulus_put f t))
  product_led t (fraction a) (whole b) = ap (λ k. of_number ((number_in (fraction a) * number_in (whole b)) % k)) (sym (modulus_put f t))

  spoken_outcome : (t : Ty) → Spoken t → Spoken (outcome_type t)
  spoken_outcome t e = outcome-named (λ a. IsName (f a)) t e

  spoken_key : (t : Ty) → Spoken t → Spoken (key_type t)
  spoken_key t e = key-named (λ a. IsName (f a)) t e

  nullary_led : (o : Op) (t : Ty) → Spoken t → nullary here.types o t ≡ nullary g.types o (led t)
  nullary_led op.Uniform t e = ap (λ z. weights (uniform z)) (outcomes_led t (spoken_outcome t e))
  nullary_led _ t e = refl

  unary_led : (o : Op) (t : Ty) (a : Meaning) → Spoken t → unary here.types o t a ≡ unary g.types o (led t) a
  unary_led op.Oget t a e = ap (λ (z : Numbering). finite (first_or (parts_of (value_in a)) (z.at 0))) (values_led t e)
  unary_led _ t a e = refl

  binary_led : (o : Op) (t : Ty) (a b : Argument) → binary here.types o t a b ≡ binary g.types o (led t) a b
  binary_led op.Plus t a b = sum_led t a.meaning b.meaning
  binary_led op.Minus t a b = difference_led t a.meaning b.meaning
  binary_led op.Times t a b = product_led t a.meaning b.meaning
  binary_led _ t a b = refl

  ternary_led : (o : Op) (t : Ty) (a b c : Argument) → Spoken t → ternary here.types o t a b c ≡ ternary g.types o (led t) a b c
  ternary_led op.Set t a b c e =
      ap (λ z. finite (Many (entry_set z (parts_of (value_in a.meaning)) (value_in b.meaning) (value_in c.meaning)))) (keys_led t (spoken_key t e))
  ternary_led _ t a b c e = refl

  operated_led : (o : Op) (t : Ty) (xs : List Argument) → Spoken t → operated here.types o t xs ≡ operated g.types o (led t) xs
  operated_led op.Tuple t xs e = refl
  operated_led o t [] e = nullary_led o t e
  operated_led o t (a ∷ []) e = unary_led o t a.meaning e
  operated_led o t (a ∷ b ∷ []) e = binary_led o t a b
  operated_led o t (a ∷ b ∷ c ∷ []) e = ternary_led o t a b c e
  operated_led o t (a ∷ b ∷ c ∷ d ∷ xs) e = refl

  size_led : (o : Op) (t : Ty) (ks : List ℕ) → Spoken t → denominator_at here.types o t ks ≡ denominator_at g.types o (led t) ks
  size_led op.Uniform t ks e = ap (λ (z : Numbering). z.size) (outcomes_led t (spoken_outcome t e))
  size_led _ t ks e = refl

  -- the denominator of a tree
  pub tree_led : (hd : Head) (ks : List ℕ) (t : Ty) → Spoken t → denominator_of here hd ks t ≡ denominator_of g (head_put ps es hd) ks (led t)
  tree_led (head.Builtin o) ks t e = size_led o t ks e
  tree_led (head.User n) ks t e = ap (λ b. if b then g.denominator n else 1) (sym (distribution_put f t))
  tree_led (head.Read (read.Program x r)) ks t e = refl
  tree_led (head.Read (read.Logical i)) ks t e = refl
  tree_led _ ks t e = refl

  -- what is said of a head is the same
  abbrev pub SaysLed : Speaks → Speaks → Term → Term → Head → State → Type 0
  SaysLed j k u w head.AllMemory s = j.judged u s ≡ k.judged w s
  SaysLed j k u w head.SomeMemory s = j.judged u s ≡ k.judged w s
  SaysLed j k u w (head.Hoare c) s = j.judged u s ≡ k.judged w s
  SaysLed j k u w (head.Phoare c r) s = j.judged u s ≡ k.judged w s
  SaysLed j k u w (head.Equiv c d) s = j.judged u s ≡ k.judged w s
  SaysLed j k u w (head.Pr p r) s = j.probability p ≡ k.probability (procedure_put ps es p)
  SaysLed j k u w _ s = Unit {0}

  pub head_led : (c : Context) (j k : Speaks) (u w : Term) (hd : Head) (xs : List Part) (t : Ty) (s : State) → IsNamed c hd t → Spoken t →
      QuantifiedNames (λ a. IsName (f a)) hd → SaysLed j k u w hd s → at_head here j u hd xs t s ≡ at_head g k w (head_put ps es hd) xs (led t) s
  head_led c j k u w (head.Read (read.Program x r)) xs t s n e q a = ap finite (read_led c r (memory_of s r) x t n e)
  head_led c j k u w (head.Read (read.Logical i)) xs t s n e q a = refl
  head_led c j k u w (head.Builtin o) xs t s n e q a = operated_led o t (map (argument s) xs) e
  head_led c j k u w (head.All v) xs t s n e q a = ap (λ z. of_truth (each_value z (λ v. truth (at_value (last_of xs) s v)))) (values_led v q)
  head_led c j k u w (head.Some v) xs t s n e q a = ap (λ z. of_truth (some_value z (λ v. truth (at_value (last_of xs) s v)))) (values_led v q)
  head_led c j k u w (head.Glob m r) xs t s n e q a = absurd n
  head_led c j k u w (head.Pr p r) xs t s n e q a =
      ap (λ z. fraction (z (map (λ (x : Part). value_in (x.meaning s)) (before_last xs)) (memory_of s r) (λ n. truth ((last_of xs).meaning (at s n))))) a
  head_led c j k u w head.AllMemory xs t s n e q a = ap of_truth a
  head_led c j k u w head.SomeMemory xs t s n e q a = ap of_truth a
  head_led c j k u w (head.Hoare v) xs t s n e q a = ap of_truth a
  head_led c j k u w (head.Phoare v r) xs t s n e q a = ap of_truth a
  head_led c j k u w (head.Equiv v z) xs t s n e q a = ap of_truth a
  head_led c j k u w _ xs t s n e q a = refl
