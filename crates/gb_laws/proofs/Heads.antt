-- A head means the same from parts that mean the same.
use Rattle.std.proofs.Common.{◌≡◌, Bool, pos, List, [], ◌∷◌, map, refl, ap}
use Rattle.std.proofs.Math.Path.{fun_ext}
use Rattle.gb_core.specs.declared.ty.Ty.{Ty}
use Rattle.gb_core.specs.declared.value.Value.{Value}
use Rattle.gb_terms.specs.declared.module.ProcRef.{ProcRef}
use Rattle.gb_terms.specs.declared.term.Term.{Term}
use Rattle.gb_terms.specs.declared.term.Head.{Head}
use Rattle.gb_terms.specs.declared.term.Subject.{Subject}
use Rattle.gb_terms.specs.declared.term.Head.TheVariants as head
use Rattle.gb_dist.specs.WeightedList.{weight, dmap}
use Rattle.gb_meaning.specs.Values.{values}
use Rattle.gb_meaning.specs.Memory.{Memory}
use Rattle.gb_meaning.specs.Setting.{Meaning, Setting}
use Rattle.gb_meaning.specs.Setting.Meaning.{finite, fraction, weights}
use Rattle.gb_meaning.specs.Meanings.{of_truth, of_number, value_in, truth, fraction_in, weights_in}
use Rattle.gb_meaning.specs.Distributions.{restricted}
use Rattle.gb_meaning.specs.Operators.{Argument, operated}
use Rattle.gb_meaning.specs.State.{State, Binding, under, at, between}
use Rattle.gb_meaning.specs.State.Binding.{value}
use Rattle.gb_meaning.specs.Terms.{Speaks, Part, no_part, last_of, before_last, first_of, argument, at_value, each_value, some_value, sum_below, at_head}
use Rattle.gb_laws.specs.Formed.{AreTwo, HasArguments}

-- the last parts are related by L, the others by R
abbrev pub Moved : (Part → Part → Type 0) → (Part → Part → Type 0) → List Part → List Part → Type 0
Moved R L [] [] = Unit {0}
Moved R L (x ∷ []) (y ∷ []) = L x y
Moved R L (x ∷ v ∷ xs) (y ∷ w ∷ ys) = R x y × Moved R L (v ∷ xs) (w ∷ ys)
Moved R L _ _ = ⊥

module _ (R L : Part → Part → Type 0) where
  pub first_moved : (xs ys : List Part) → AreTwo ys → Moved R L xs ys → R (first_of xs) (first_of ys)
  first_moved [] [] a r = absurd a
  first_moved [] (y ∷ ys) a r = absurd r
  first_moved (x ∷ []) [] a r = absurd r
  first_moved (x ∷ v ∷ xs) [] a r = absurd r
  first_moved (x ∷ []) (y ∷ []) a r = absurd a
  first_moved (x ∷ []) (y ∷ w ∷ ys) a r = absurd r
  first_moved (x ∷ v ∷ xs) (y ∷ []) a r = absurd r
  first_moved (x ∷ v ∷ xs) (y ∷ w ∷ ys) a r = r.0

  pub last_moved : (xs ys : List Part) → Moved R L xs ys → L no_part no_part → L (last_of xs) (last_of ys)
  last_moved [] [] r z = z
  last_moved [] (y ∷ ys) r z = absurd r
  last_moved (x ∷ []) [] r z = absurd r
  last_moved (x ∷ v ∷ xs) [] r z = absurd r
  last_moved (x ∷ []) (y ∷ []) r z = r
  last_moved (x ∷ []) (y ∷ w ∷ ys) r z = absurd r
  last_moved (x ∷ v ∷ xs) (y ∷ []) r z = absurd r
  last_moved (x ∷ v ∷ xs) (y ∷ w ∷ ys) r z = last_moved (v ∷ xs) (w ∷ ys) r.1 z

module _ (s q : State) where
  -- what a part means in s, the other one means in q
  abbrev pub Here : Part → Part → Type 0
  Here x y = (x.meaning s ≡ y.meaning q) × (x.denominator ≡ y.denominator)

  abbrev pub Under : Part → Part → Type 0
  Under x y = (b : Binding) → x.meaning (under s b) ≡ y.meaning (under q b)

  abbrev pub At : Part → Part → Type 0
  At x y = (m : Memory) → x.meaning (at s m) ≡ y.meaning (at q m)

  abbrev pub Between : Part → Part → Type 0
  Between x y = (m n : Memory) → x.meaning (between s m n) ≡ y.meaning (between q m n)

  -- how the arguments of a head are related, and how the last one
  abbrev pub of_arguments : Head → Part → Part → Type 0
  of_arguments (head.Hoare c) = At
  of_arguments (head.Phoare c r) = At
  of_arguments (head.Equiv c d) = Between
  of_arguments _ = Here

  abbrev pub of_last : Head → Part → Part → Type 0
  of_last (head.All t) = Under
  of_last (head.Some t) = Under
  of_last head.AllMemory = Under
  of_last head.SomeMemory = Under
  of_last (head.AllModule b) = Under
  of_last head.Mu = Under
  of_last (head.Sum n) = Under
  of_last head.Map = Under
  of_last head.Restrict = Under
  of_last (head.Pr p r) = At
  of_last (head.Hoare c) = At
  of_last (head.Equiv c d) = Between
  of_last _ = Here

  abbrev pub Related : Head → List Part → List Part → Type 0
  Related h xs ys = Moved (of_arguments h) (of_last h) xs ys

  arguments_moved : (xs ys : List Part) → Moved Here Here xs ys → map (argument s) xs ≡ map (argument q) ys
  arguments_moved [] [] r = refl
  arguments_moved [] (y ∷ ys) r = absurd r
  arguments_moved (x ∷ []) [] r = absurd r
  arguments_moved (x ∷ v ∷ xs) [] r = absurd r
  arguments_moved (x ∷ []) (y ∷ []) r = λ i. (let a : Argument = record { meaning = r.0 i; denominator = r.1 i } in a) ∷ []
  arguments_moved (x ∷ []) (y ∷ w ∷ ys) r = absurd r
  arguments_moved (x ∷ v ∷ xs) (y ∷ []) r = absurd r
  arguments_moved (x ∷ v ∷ xs) (y ∷ w ∷ ys) r =
      let rest = arguments_moved (v ∷ xs) (w ∷ ys) r.1 in
      λ i. (let a : Argument = record { meaning = r.0.0 i; denominator = r.0.1 i } in a) ∷ rest i

  meanings_moved : (xs ys : List Part) → Moved Here Here xs ys → map (λ x. x.meaning s) xs ≡ map (λ x. x.meaning q) ys
  meanings_moved [] [] r = refl
  meanings_moved [] (y ∷ ys) r = absurd r
  meanings_moved (x ∷ []) [] r = absurd r
  meanings_moved (x ∷ v ∷ xs) [] r = absurd r
  meanings_moved (x ∷ []) (y ∷ []) r = ap (λ z. z ∷ []) r.0
  meanings_moved (x ∷ []) (y ∷ w ∷ ys) r = absurd r
  meanings_moved (x ∷ v ∷ xs) (y ∷ []) r = absurd r
  meanings_moved (x ∷ v ∷ xs) (y ∷ w ∷ ys) r =
      let rest = meanings_moved (v ∷ xs) (w ∷ ys) r.1 in
      λ i. r.0.0 i ∷ rest i

  pub values_moved : (L : Part → Part → Type 0) (xs ys : List Part) → Moved Here L xs ys →
      map (λ x. value_in (x.meaning s)) (before_last xs) ≡ map (λ x. value_in (x.meaning q)) (before_last ys)
  values_moved L [] [] r = refl
  values_moved L [] (y ∷ ys) r = absurd r
  values_moved L (x ∷ []) [] r = absurd r
  values_moved L (x ∷ v ∷ xs) [] r = absurd r
  values_moved L (x ∷ []) (y ∷ []) r = refl
  values_moved L (x ∷ []) (y ∷ w ∷ ys) r = absurd r
  values_moved L (x ∷ v ∷ xs) (y ∷ []) r = absurd r
  values_moved L (x ∷ v ∷ xs) (y ∷ w ∷ ys) r =
      let rest = values_moved L (v ∷ xs) (w ∷ ys) r.1 in
      λ i. value_in (r.0.0 i) ∷ rest i

  none_under : Under no_part no_part
  none_under b = refl

  module _ (xs ys : List Part) (r : Moved Here Under xs ys) where
    images : ◌≡◌ {A = Value → Meaning} (λ v. at_value (last_of xs) s v) (λ v. at_value (last_of ys) q v)
    images = fun_ext (λ v. last_moved Here Under xs ys r none_under (value (finite v)))

    tests : ◌≡◌ {A = Value → Bool} (λ v. truth (at_value (last_of xs) s v)) (λ v. truth (at_value (last_of ys) q v))
    tests = fun_ext (λ v. ap truth (last_moved Here Under xs ys r none_under (value (finite v))))

  -- heads that are no leaves, and of which no judge speaks
  abbrev pub IsInner : Head → Type 0
  IsInner (head.Read r) = ⊥
  IsInner (head.Bound i) = ⊥
  IsInner (head.Glob m r) = ⊥
  IsInner (head.Pr p r) = ⊥
  IsInner head.AllMemory = ⊥
  IsInner head.SomeMemory = ⊥
  IsInner (head.Hoare c) = ⊥
  IsInner (head.Phoare c r) = ⊥
  IsInner (head.Equiv c d) = ⊥
  IsInner _ = Unit {0}

  module _ (g : Setting) (j : Speaks) where
    pub inner_same : (u w : Term) (h : Head) (xs ys : List Part) (ty : Ty) → IsInner h → HasArguments h ys → Related h xs ys →
        at_head g j u h xs ty s ≡ at_head g j w h ys ty q
    inner_same u w (head.Lit v) xs ys ty n a r = refl
    inner_same u w (head.Whole v) xs ys ty n a r = refl
    inner_same u w (head.Builtin o) xs ys ty n a r = ap (operated g.types o ty) (arguments_moved xs ys r)
    inner_same u w (head.User o) xs ys ty n a r = ap (g.operator o) (meanings_moved xs ys r)
    inner_same u w (head.All t) xs ys ty n a r = ap (λ f. of_truth (each_value (values g.types t) f)) (tests xs ys r)
    inner_same u w (head.Some t) xs ys ty n a r = ap (λ f. of_truth (some_value (values g.types t) f)) (tests xs ys r)
    inner_same u w (head.AllModule b) xs ys ty n a r = refl
    inner_same u w head.Mu xs ys ty n a r =
        let f = first_moved Here Under xs ys a r in
        let l = tests xs ys r in
        λ i. fraction (pos (weight (weights_in (f.0 i)) (l i)), f.1 i)
    inner_same u w (head.Sum o) xs ys ty n a r =
        ap (λ f. fraction (sum_below o f)) (fun_ext (λ i. ap fraction_in (last_moved Here Under xs ys r none_under (value (of_number i)))))
    inner_same u w (head.Weights ps) xs ys ty n a r = refl
    inner_same u w head.Map xs ys ty n a r =
        let f = first_moved Here Under xs ys a r in
        let l = images xs ys r in
        λ i. weights (dmap (λ v. value_in (l i v)) (weights_in (f.0 i)))
    inner_same u w head.Restrict xs ys ty n a r =
        let f = first_moved Here Under xs ys a r in
        let l = tests xs ys r in
        λ i. weights (restricted (weights_in (f.0 i)) (l i))
    inner_same u w (head.Read p) xs ys ty n a r = absurd n
    inner_same u w (head.Bound i) xs ys ty n a r = absurd n
    inner_same u w (head.Glob m p) xs ys ty n a r = absurd n
    inner_same u w (head.Pr p o) xs ys ty n a r = absurd n
    inner_same u w head.AllMemory xs ys ty n a r = absurd n
    inner_same u w head.SomeMemory xs ys ty n a r = absurd n
    inner_same u w (head.Hoare c) xs ys ty n a r = absurd n
    inner_same u w (head.Phoare c o) xs ys ty n a r = absurd n
    inner_same u w (head.Equiv c d) xs ys ty n a r = absurd n

    -- a probability from the same arguments and memory, of the same event
    pub chance_same : (p : ProcRef) (xs ys : List Part) (m n : Memory) → m ≡ n → Moved Here At xs ys →
        fraction (j.probability p (map (λ x. value_in (x.meaning s)) (before_last xs)) m (λ o. truth ((last_of xs).meaning (at s o)))) ≡
        fraction (j.probability p (map (λ x. value_in (x.meaning q)) (before_last ys)) n (λ o. truth ((last_of ys).meaning (at q o))))
    chance_same p xs ys m n e r =
        let vs = values_moved At xs ys r in
        let event : ◌≡◌ {A = Memory → Bool} (λ o. truth ((last_of xs).meaning (at s o))) (λ o. truth ((last_of ys).meaning (at q o))) =
        fun_ext (λ o. ap truth (last_moved Here At xs ys r (λ k i. no_part.meaning (at s k)) o)) in
        λ i. fraction (j.probability p (vs i) (e i) (event i))

-- the answers are equal, where a judge is asked
abbrev pub Answers : Head → Bool → Bool → Type 0
Answers head.AllMemory a b = a ≡ b
Answers head.SomeMemory a b = a ≡ b
Answers (head.Hoare c) a b = a ≡ b
Answers (head.Phoare c r) a b = a ≡ b
Answers (head.Equiv c d) a b = a ≡ b
Answers _ a b = Unit {0}

-- a head with these programs
abbrev pub with_subjects : (Subject → Subject) → Head → Head
with_subjects f (head.Hoare c) = head.Hoare (f c)
with_subjects f (head.Phoare c r) = head.Phoare (f c) r
with_subjects f (head.Equiv c d) = head.Equiv (f c) (f d)
with_subjects f h = h
