-- A term means the same in states that are the same, where nothing speaks of programs.
use Rattle.std.proofs.Common.{◌≡◌, ℕ, zero, suc, ◌<◌, Bool, true, ◌&&◌, ◌||◌, if◌then◌else◌, pos, List, [], ◌∷◌, map, Some, refl, sym, ap, ◌∙◌, arith}
use Rattle.gb_core.specs.declared.ty.Ty.{Ty}
use Rattle.gb_core.specs.declared.value.Value.{Value}
use Rattle.gb_dist.specs.WeightedList.{WeightedList, Every, weight, dmap}
use Rattle.gb_terms.specs.declared.op.Read.{Read}
use Rattle.gb_terms.specs.declared.op.Read.TheVariants.{Logical, Program}
use Rattle.gb_terms.specs.declared.op.Side.{Side}
use Rattle.gb_terms.specs.declared.op.Side.TheVariants as side
use Rattle.gb_terms.specs.declared.term.Term.{Term, Term', Row_of-Term, end_of-Term, more_of-Term, end_of-Head, more_of-Head}
use Rattle.gb_terms.specs.declared.term.Head.{Head}
use Rattle.gb_terms.specs.declared.term.Head.TheVariants as head
use Rattle.gb_meaning.specs.Names.{Name}
use Rattle.gb_meaning.specs.Fractions.{Fraction}
use Rattle.gb_meaning.specs.Memory.{read, read_globals}
use Rattle.gb_meaning.specs.Values.{has, values}
use Rattle.gb_meaning.specs.Setting.{Meaning, Setting}
use Rattle.gb_meaning.specs.Setting.Meaning.{finite, fraction, weights}
use Rattle.gb_meaning.specs.Meanings.{of_truth, of_number, value_in, truth, fraction_in, weights_in}
use Rattle.gb_meaning.specs.Distributions.{restricted}
use Rattle.gb_meaning.specs.Operators.{outcome_type}
use Rattle.gb_meaning.specs.State.{State, Binding, meaning_in, memory_of, binding, under}
use Rattle.gb_meaning.specs.State.Binding.{value as bound_value}
use Rattle.gb_meaning.specs.Terms.{quiet, argument, each_below, some_below, sum_below, read_at, at_head, val, parts, denominator}
use Rattle.gb_meaning.specs.Written.{type_of}
use Rattle.gb_meaning.proofs.Numberings.{lawful}
use Rattle.gb_laws.specs.Typing.{OperatorType, Context, Binder, types_of, IsHead, inner, IsTyped, AreTyped}
use Rattle.gb_laws.specs.Typing.Binder.{value, index}
use Rattle.gb_laws.specs.Meant.{IsOf}
use Rattle.gb_laws.specs.Context.{AreOf, FitsBinder, IsSettingOf, IsStateOf}
use Rattle.gb_laws.proofs.Meanings.{number_has, weights_have}
use Rattle.gb_laws.proofs.Terms.{term_in}
use Rattle.gb_typing.proofs.Substituted.{quiet_fractional}
use Rattle.gb_smt_laws.specs.Alike.{Alike, AllAlike}
use Rattle.gb_smt_laws.proofs.Fractions.{Same, same_refl, same_plus, same_made}
use Rattle.gb_smt_laws.proofs.Alike.{alike_itself, alike_of, truth_alike, value_alike, weights_alike, fraction_same}
use Rattle.gb_smt_laws.proofs.Operated.{AreOne, AllOne, operated_alike}
use Rattle.gb_smt_laws.proofs.Congruent.{proper}
use mathlib.Core.Former.{Count}

-- what holds at each place, each value or each entry

pub each_same : (n : ℕ) (f h : ℕ → Bool) → ((i : ℕ) → i < n → f i ≡ h i) → each_below n f ≡ each_below n h
each_same zero f h e = refl
each_same (suc n) f h e = ap (λ b. b && f n) (each_same n f h (λ i l. e i (omega (arith, l)))) ∙ ap (λ b. each_below n h && b) (e n (omega arith))

pub some_same : (n : ℕ) (f h : ℕ → Bool) → ((i : ℕ) → i < n → f i ≡ h i) → some_below n f ≡ some_below n h
some_same zero f h e = refl
some_same (suc n) f h e = ap (λ b. b || f n) (some_same n f h (λ i l. e i (omega (arith, l)))) ∙ ap (λ b. some_below n h || b) (e n (omega arith))

pub sum_same : (n : ℕ) (f h : ℕ → Fraction) → ((i : ℕ) → i < n → Same (f i) (h i)) → Same (sum_below n f) (sum_below n h)
sum_same zero f h e = same_refl (sum_below zero f)
sum_same (suc n) f h e = same_plus (sum_below n f) (f n) (sum_below n h) (h n) (sum_same n f h (λ i l. e i (omega (arith, l)))) (e n (omega arith))

pub weight_same : (P : Value → Type 0) (d : WeightedList Value) (f h : Value → Bool) → Every P d → ((v : Value) → P v → f v ≡ h v) → weight d f ≡ weight d h
weight_same P [] f h k e = refl
weight_same P (x ∷ d) f h k e = let a = e x.0 k.0 in let b = weight_same P d f h k.1 e in cc

pub image_same : (P : Value → Type 0) (d : WeightedList Value) (f h : Value → Value) → Every P d → ((v : Value) → P v → f v ≡ h v) → dmap f d ≡ dmap h d
image_same P [] f h k e = refl
image_same P (x ∷ d) f h k e = let a = e x.0 k.0 in let b = image_same P d f h k.1 e in λ i. (a i, x.1) ∷ b i

pub restricted_same : (P : Value → Type 0) (d : WeightedList Value) (f h : Value → Bool) → Every P d → ((v : Value) → P v → f v ≡ h v) → restricted d f ≡ restricted d h
restricted_same P [] f h k e = refl
restricted_same P (x ∷ d) f h k e =
    ap (λ b. if b then x ∷ restricted d f else restricted d f) (e x.0 k.0) ∙ ap (λ l. if h x.0 then x ∷ l else l) (restricted_same P d f h k.1 e)

-- states that are the same
pub record AreAlike (s q : State) : Type 0 where
  pub logical : (i : ℕ) → Alike (s.logical i) (q.logical i)
  pub memory : (r : Side) → memory_of s r ≡ memory_of q r
  pub bound : (i : ℕ) → Alike (meaning_in (binding s i)) (meaning_in (binding q i))

under_alike : (s q : State) (b : Binding) → AreAlike s q → AreAlike (under s b) (under q b)
under_alike s q b a = record { logical = a.logical; memory = memories; bound = bindings }
  where
    memories : (r : Side) → memory_of (under s b) r ≡ memory_of (under q b) r
    memories side.Own = a.memory side.Own
    memories side.Left = a.memory side.Left
    memories side.Right = a.memory side.Right
    memories (side.Memory i) = a.memory (side.Memory i)
    memories (side.Bound zero) = refl
    memories (side.Bound (suc i)) = a.memory (side.Bound i)

    bindings : (i : ℕ) → Alike (meaning_in (binding (under s b) i)) (meaning_in (binding (under q b) i))
    bindings zero = alike_itself (meaning_in b)
    bindings (suc i) = a.bound i

read_alike : (g : Setting) (r : Read) (t : Ty) (s q : State) → AreAlike s q → Alike (read_at g r t s) (read_at g r t q)
read_alike g (Logical i) t s q a = a.logical i
read_alike g (Program x r) t s q a = ap (λ m. finite (read g.types m x t)) (a.memory r)

module _ (c : Context) (g : Setting) (i : IsSettingOf c g)
    (respects : (n : Name) (o : OperatorType) → c.operator n ≡ Some o → (xs ys : List Meaning) → AreOf g.types o.params xs → AreOf g.types o.params ys → AllAlike xs ys → Alike (g.operator n xs) (g.operator n ys)) where
  abbrev V : Term → State → Meaning
  V t s = val g quiet t s

  meant : (t : Term) (e : Context) → e.operator ≡ c.operator → IsTyped e t → (s : State) → IsStateOf g.types e s → IsOf g.types (type_of t) (V t s)
  meant = term_in c g i quiet quiet_fractional

  inside_fits : (e : Context) (s : State) (b : Binder) (x : Binding) → IsStateOf g.types e s → FitsBinder g.types b x → IsStateOf g.types (record e { bound = b ∷ e.bound }) (under s x)
  inside_fits e s b x u h = record { logical = u.logical; bound = (h, u.bound) }

  -- a term that means the same in states of a context that are the same; and so each argument, the last one in a context of its own
  abbrev Agrees : Context → Term → Type 0
  Agrees e t = (s q : State) → IsStateOf g.types e s → IsStateOf g.types e q → AreAlike s q → Alike (V t s) (V t q)

  abbrev AllAgree : {n : Count} → Context → Context → Row_of-Term n → Type 0
  AllAgree e d end_of-Term = Unit {0}
  AllAgree e d (more_of-Term t end_of-Term) = Agrees d t
  AllAgree e d (more_of-Term t (more_of-Term u ts)) = Agrees e t × AllAgree e d (more_of-Term u ts)

  row_of : {n : Count} (ts : Row_of-Term n) (e : Context) → e.operator ≡ c.operator → AreTyped e e ts → (s : State) → IsStateOf g.types e s → AreOf g.types (types_of ts) (map (λ x. x.meaning s) (parts g quiet ts))
  row_of end_of-Term e o w s u = tt
  row_of (more_of-Term t end_of-Term) e o w s u = (meant t e o w s u, tt)
  row_of (more_of-Term t (more_of-Term v ts)) e o w s u = (meant t e o w.0 s u, row_of (more_of-Term v ts) e o w.1 s u)

  one_argument : (t : Term) (e : Context) → e.operator ≡ c.operator → IsTyped e t → Agrees e t → (s q : State) → IsStateOf g.types e s → IsStateOf g.types e q → AreAlike s q →
      AreOne (argument s (record { meaning = λ s. V t s; denominator = denominator g t })) (argument q (record { meaning = λ s. V t s; denominator = denominator g t }))
  one_argument t e o w f s q u v a = record {
    alike = f s q u v a;
    denominator = refl;
    first = proper g.types (type_of t) (V t s) (meant t e o w s u);
    second = proper g.types (type_of t) (V t q) (meant t e o w q v);
  }

  ones : {n : Count} (ts : Row_of-Term n) (e : Context) → e.operator ≡ c.operator → AreTyped e e ts → AllAgree e e ts → (s q : State) → IsStateOf g.types e s → IsStateOf g.types e q → AreAlike s q →
      AllOne (map (argument s) (parts g quiet ts)) (map (argument q) (parts g quiet ts))
  ones end_of-Term e o w f s q u v a = tt
  ones (more_of-Term t end_of-Term) e o w f s q u v a = (one_argument t e o w f s q u v a, tt)
  ones (more_of-Term t (more_of-Term x ts)) e o w f s q u v a = (one_argument t e o w.0 f.0 s q u v a, ones (more_of-Term x ts) e o w.1 f.1 s q u v a)

  row_alike : {n : Count} (ts : Row_of-Term n) (e : Context) → AllAgree e e ts → (s q : State) → IsStateOf g.types e s → IsStateOf g.types e q → AreAlike s q →
      AllAlike (map (λ x. x.meaning s) (parts g quiet ts)) (map (λ x. x.meaning q) (parts g quiet ts))
  row_alike end_of-Term e f s q u v a = tt
  row_alike (more_of-Term t end_of-Term) e f s q u v a = (f s q u v a, tt)
  row_alike (more_of-Term t (more_of-Term x ts)) e f s q u v a = (f.0 s q u v a, row_alike (more_of-Term x ts) e f.1 s q u v a)

  -- under a binder of a value
  under_one : (y : Term) (e : Context) (b : Binder) → Agrees (record e { bound = b ∷ e.bound }) y → (s q : State) → IsStateOf g.types e s → IsStateOf g.types e q → AreAlike s q →
      (x : Meaning) → FitsBinder g.types b (bound_value x) → Alike (V y (under s (bound_value x))) (V y (under q (bound_value x)))
  under_one y e b f s q u v a x h =
      f (under s (bound_value x)) (under q (bound_value x)) (inside_fits e s b (bound_value x) u h) (inside_fits e q b (bound_value x) v h) (under_alike s q (bound_value x) a)

  head_alike : {n : Count} (z : Term) (h : Head) (ts : Row_of-Term n) (t : Ty) (e : Context) → e.operator ≡ c.operator → IsHead e h (types_of ts) t → AreTyped e (inner e h (types_of ts)) ts →
      AllAgree e (inner e h (types_of ts)) ts → (s q : State) → IsStateOf g.types e s → IsStateOf g.types e q → AreAlike s q → Alike (at_head g quiet z h (parts g quiet ts) t s) (at_head g quiet z h (parts g quiet ts) t q)
  head_alike z (head.Lit x) ts t e o k w f s q u v a = refl
  head_alike z (head.Whole x) ts t e o k w f s q u v a = refl
  head_alike z (head.Read r) ts t e o k w f s q u v a = read_alike g r t s q a
  head_alike z (head.Bound m) ts t e o k w f s q u v a = a.bound m
  head_alike z (head.Builtin p) ts t e o k w f s q u v a = operated_alike g.types t p (map (argument s) (parts g quiet ts)) (map (argument q) (parts g quiet ts)) (ones ts e o w f s q u v a)
  head_alike z (head.User m) ts t e o k w f s q u v a =
      respects m (record { params = types_of ts; result = t }) (ap (λ i. i m) (sym o) ∙ k) (map (λ x. x.meaning s) (parts g quiet ts)) (map (λ x. x.meaning q) (parts g quiet ts))
      (row_of ts e o w s u) (row_of ts e o w q v) (row_alike ts e f s q u v a)
  head_alike z (head.All x) (more_of-Term y end_of-Term) t e o k w f s q u v a =
      ap of_truth (each_same (values g.types x).size (λ m. truth (V y (under s (bound_value (finite ((values g.types x).at m)))))) (λ m. truth (V y (under q (bound_value (finite ((values g.types x).at m))))))
      (λ m l. truth_alike (V y (under s (bound_value (finite ((values g.types x).at m))))) (V y (under q (bound_value (finite ((values g.types x).at m)))))
      (under_one y e (value x) f s q u v a (finite ((values g.types x).at m)) ((lawful g.types x).has_at m l))))
  head_alike z (head.Some x) (more_of-Term y end_of-Term) t e o k w f s q u v a =
      ap of_truth (some_same (values g.types x).size (λ m. truth (V y (under s (bound_value (finite ((values g.types x).at m)))))) (λ m. truth (V y (under q (bound_value (finite ((values g.types x).at m))))))
      (λ m l. truth_alike (V y (under s (bound_value (finite ((values g.types x).at m))))) (V y (under q (bound_value (finite ((values g.types x).at m)))))
      (under_one y e (value x) f s q u v a (finite ((values g.types x).at m)) ((lawful g.types x).has_at m l))))
  head_alike z (head.Sum p) (more_of-Term y end_of-Term) t e o k w f s q u v a =
      same_made (sum_below p (λ m. fraction_in (V y (under s (bound_value (of_number m)))))) (sum_below p (λ m. fraction_in (V y (under q (bound_value (of_number m))))))
      (sum_same p (λ m. fraction_in (V y (under s (bound_value (of_number m))))) (λ m. fraction_in (V y (under q (bound_value (of_number m)))))
      (λ m l. fraction_same (V y (under s (bound_value (of_number m)))) (V y (under q (bound_value (of_number m)))) (under_one y e (index p) f s q u v a (of_number m) (number_has p m l))))
  head_alike z head.Mu (more_of-Term d (more_of-Term y end_of-Term)) t e o k w f s q u v a =
      let same = weights_alike (V d s) (V d q) (f.0 s q u v a) in
      alike_of (at_head g quiet z head.Mu (parts g quiet (more_of-Term d (more_of-Term y end_of-Term))) t s) (at_head g quiet z head.Mu (parts g quiet (more_of-Term d (more_of-Term y end_of-Term))) t q)
      (ap (λ n. fraction (pos n, denominator g d))
      (weight_same (λ r. has g.types (outcome_type (type_of d)) r ≡ true) (weights_in (V d s)) (λ r. truth (V y (under s (bound_value (finite r))))) (λ r. truth (V y (under q (bound_value (finite r)))))
      (weights_have g.types (type_of d) (V d s) (meant d e o w.0 s u))
      (λ r l. truth_alike (V y (under s (bound_value (finite r)))) (V y (under q (bound_value (finite r)))) (under_one y e (value (outcome_type (type_of d))) f.1 s q u v a (finite r) l))
      ∙ ap (λ l. weight l (λ r. truth (V y (under q (bound_value (finite r)))))) same))
  head_alike z head.Map (more_of-Term d (more_of-Term y end_of-Term)) t e o k w f s q u v a =
      let same = weights_alike (V d s) (V d q) (f.0 s q u v a) in
      ap weights
      (image_same (λ r. has g.types (outcome_type (type_of d)) r ≡ true) (weights_in (V d s)) (λ r. value_in (V y (under s (bound_value (finite r))))) (λ r. value_in (V y (under q (bound_value (finite r)))))
      (weights_have g.types (type_of d) (V d s) (meant d e o w.0 s u))
      (λ r l. value_alike (V y (under s (bound_value (finite r)))) (V y (under q (bound_value (finite r)))) (under_one y e (value (outcome_type (type_of d))) f.1 s q u v a (finite r) l))
      ∙ ap (λ l. dmap (λ r. value_in (V y (under q (bound_value (finite r))))) l) same)
  head_alike z head.Restrict (more_of-Term d (more_of-Term y end_of-Term)) t e o k w f s q u v a =
      let same = weights_alike (V d s) (V d q) (f.0 s q u v a) in
      ap weights
      (restricted_same (λ r. has g.types (outcome_type (type_of d)) r ≡ true) (weights_in (V d s)) (λ r. truth (V y (under s (bound_value (finite r))))) (λ r. truth (V y (under q (bound_value (finite r)))))
      (weights_have g.types (type_of d) (V d s) (meant d e o w.0 s u))
      (λ r l. truth_alike (V y (under s (bound_value (finite r)))) (V y (under q (bound_value (finite r)))) (under_one y e (value (outcome_type (type_of d))) f.1 s q u v a (finite r) l))
      ∙ ap (λ l. restricted l (λ r. truth (V y (under q (bound_value (finite r)))))) same)
  head_alike z (head.Weights x) ts t e o k w f s q u v a = refl
  head_alike z (head.Glob m r) ts t e o k w f s q u v a = ap (λ x. finite (read_globals g.types x (g.types.footprint m))) (a.memory r)
  head_alike z (head.Pr p r) ts t e o k w f s q u v a = alike_itself (fraction (pos 0, 1))
  head_alike z head.AllMemory ts t e o k w f s q u v a = refl
  head_alike z head.SomeMemory ts t e o k w f s q u v a = refl
  head_alike z (head.AllModule b) ts t e o k w f s q u v a = refl
  head_alike z (head.Hoare x) ts t e o k w f s q u v a = refl
  head_alike z (head.Phoare x r) ts t e o k w f s q u v a = refl
  head_alike z (head.Equiv x y) ts t e o k w f s q u v a = refl
  head_alike z _ ts t e o k w f s q u v a = absurd k

  mutual
    pub term_alike : (t : Term) (e : Context) → e.operator ≡ c.operator → IsTyped e t → Agrees e t
    term_alike (Term' b (more_of-Head h end_of-Head) n ts t) e o w s q u v a =
        head_alike (Term' b (more_of-Head h end_of-Head) n ts t) h ts t e o w.0 w.1 (row_agree ts e (inner e h (types_of ts)) o o w.1) s q u v a

    row_agree : {n : Count} (ts : Row_of-Term n) (e d : Context) → e.operator ≡ c.operator → d.operator ≡ c.operator → AreTyped e d ts → AllAgree e d ts
    row_agree end_of-Term e d o r w = tt
    row_agree (more_of-Term t end_of-Term) e d o r w = term_alike t d r w
    row_agree (more_of-Term t (more_of-Term x ts)) e d o r w = (term_alike t e o w.0, row_agree (more_of-Term x ts) e d o r w.1)
