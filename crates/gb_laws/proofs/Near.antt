-- The meaning of a term depends on what it reads alone.
use Rattle.std.proofs.Common.{◌≡◌, ℕ, zero, suc, Bool, pos, List, [], ◌∷◌, map, get_or, refl, ap, ◌∙◌}
use Rattle.std.proofs.Math.Path.{fun_ext}
use Rattle.gb_core.specs.declared.ty.Ty.{Ty}
use Rattle.gb_core.specs.declared.value.Value.{Value}
use Rattle.gb_terms.specs.declared.op.Read.TheVariants.{Logical, Program}
use Rattle.gb_terms.specs.declared.term.Term.{Term, Term', Row_of-Term, end_of-Term, more_of-Term, end_of-Head, more_of-Head}
use Rattle.gb_terms.specs.declared.term.Head.{Head}
use Rattle.gb_terms.specs.declared.term.Head.TheVariants as head
use Rattle.gb_dist.specs.WeightedList.{weight, dmap}
use Rattle.gb_meaning.specs.Values.{values}
use Rattle.gb_meaning.specs.Memory.{Memory}
use Rattle.gb_meaning.specs.Setting.{Meaning, Setting}
use Rattle.gb_meaning.specs.Setting.Meaning.{finite, fraction, weights}
use Rattle.gb_meaning.specs.Meanings.{of_truth, of_number, value_in, truth, fraction_in, weights_in}
use Rattle.gb_meaning.specs.Distributions.{restricted}
use Rattle.gb_meaning.specs.Operators.{Argument, operated}
use Rattle.gb_meaning.specs.State.{State, memory_of, at}
use Rattle.gb_meaning.specs.State.Binding.{value}
use Rattle.gb_meaning.specs.Terms.{Speaks, quiet, Part, no_part, last_of, before_last, first_of, argument, at_value, each_value, some_value, sum_below, at_head, val, parts}
pub use Rattle.gb_laws.specs.Reads.{leaf_cells, term_cells, row_cells}
use Rattle.gb_laws.proofs.Cells.{Cell, Covers, front, rest, Agree, read_agree, read_globals_agree}
use Rattle.gb_laws.proofs.States.{Near, near_under, near_at, near_bound, near_side}
use mathlib.Core.Former.{Count}

module _ (g : Setting) (F : Cell → Type 0) where
  -- a part means the same in states that agree
  abbrev pub NearPart : Part → Type 0
  NearPart x = (s q : State) → Near g.types F s q → x.meaning s ≡ x.meaning q

  abbrev pub AllNear : List Part → Type 0
  AllNear [] = Unit {0}
  AllNear (x ∷ xs) = NearPart x × AllNear xs

  near_none : NearPart no_part
  near_none s q k = refl

  pub near_last : (xs : List Part) → AllNear xs → NearPart (last_of xs)
  near_last [] h = near_none
  near_last (x ∷ []) h = h.0
  near_last (x ∷ y ∷ xs) h = near_last (y ∷ xs) h.1

  pub near_part : (xs : List Part) → AllNear xs → (i : ℕ) → NearPart (get_or xs i no_part)
  near_part [] h i = near_none
  near_part (x ∷ xs) h zero = h.0
  near_part (x ∷ xs) h (suc i) = near_part xs h.1 i

  near_values : (xs : List Part) → AllNear xs → (s q : State) → Near g.types F s q → map (λ x. value_in (x.meaning s)) (before_last xs) ≡ map (λ x. value_in (x.meaning q)) (before_last xs)
  near_values [] h s q k = refl
  near_values (x ∷ []) h s q k = refl
  near_values (x ∷ y ∷ xs) h s q k =
      let one = h.0 s q k in
      let two = near_values (y ∷ xs) h.1 s q k in
      λ i. value_in (one i) ∷ two i

  near_meanings : (xs : List Part) → AllNear xs → (s q : State) → Near g.types F s q → map (λ x. x.meaning s) xs ≡ map (λ x. x.meaning q) xs
  near_meanings [] h s q k = refl
  near_meanings (x ∷ xs) h s q k =
      let one = h.0 s q k in
      let two = near_meanings xs h.1 s q k in
      λ i. one i ∷ two i

  near_arguments : (xs : List Part) → AllNear xs → (s q : State) → Near g.types F s q → map (argument s) xs ≡ map (argument q) xs
  near_arguments [] h s q k = refl
  near_arguments (x ∷ xs) h s q k =
      let one = h.0 s q k in
      let two = near_arguments xs h.1 s q k in
      λ i. (let a : Argument = record { meaning = one i; denominator = x.denominator } in a) ∷ two i

  near_at_value : (x : Part) → NearPart x → (s q : State) → Near g.types F s q → (v : Value) → at_value x s v ≡ at_value x q v
  near_at_value x h s q k v = h _ _ (near_under g.types F s q k (value (finite v)) (value (finite v)) refl)

  near_test : (x : Part) → NearPart x → (s q : State) → Near g.types F s q → ◌≡◌ {A = Value → Bool} (λ v. truth (at_value x s v)) (λ v. truth (at_value x q v))
  near_test x h s q k = fun_ext (λ v. ap truth (near_at_value x h s q k v))

  -- what is said of probabilities at a head respects agreement
  abbrev pub ProbabilityNear : Speaks → Head → Type 0
  ProbabilityNear j (head.Pr p r) = (vs : List Value) (m n : Memory) (e f : Memory → Bool) → Agree g.types F m n →
      ((a b : Memory) → Agree g.types F a b → e a ≡ f b) → j.probability p vs m e ≡ j.probability p vs n f
  ProbabilityNear j _ = Unit {0}

  pub near_head : (j : Speaks) (u : Term) (h : Head) (xs : List Part) (ty : Ty) → Covers F (leaf_cells g h ty) → AllNear xs → ProbabilityNear j h →
      (s q : State) → Near g.types F s q → j.judged u s ≡ j.judged u q → at_head g j u h xs ty s ≡ at_head g j u h xs ty q
  near_head j u (head.Lit v) xs ty c a p s q k e = refl
  near_head j u (head.Whole n) xs ty c a p s q k e = refl
  near_head j u (head.Read (Logical i)) xs ty c a p s q k e = ap (λ f. f i) k.logical
  near_head j u (head.Read (Program x r)) xs ty c a p s q k e = ap finite (read_agree g.types F x ty c (memory_of s r) (memory_of q r) (near_side g.types F s q k r))
  near_head j u (head.Bound i) xs ty c a p s q k e = near_bound g.types F s q k i
  near_head j u (head.Builtin o) xs ty c a p s q k e = ap (operated g.types o ty) (near_arguments xs a s q k)
  near_head j u (head.User n) xs ty c a p s q k e = ap (g.operator n) (near_meanings xs a s q k)
  near_head j u (head.All t) xs ty c a p s q k e = ap (λ f. of_truth (each_value (values g.types t) f)) (near_test (last_of xs) (near_last xs a) s q k)
  near_head j u (head.Some t) xs ty c a p s q k e = ap (λ f. of_truth (some_value (values g.types t) f)) (near_test (last_of xs) (near_last xs a) s q k)
  near_head j u head.AllMemory xs ty c a p s q k e = ap of_truth e
  near_head j u head.SomeMemory xs ty c a p s q k e = ap of_truth e
  near_head j u (head.AllModule b) xs ty c a p s q k e = refl
  near_head j u head.Mu xs ty c a p s q k e =
      ap (λ d. fraction (pos (weight (weights_in d) (λ v. truth (at_value (last_of xs) s v))), (first_of xs).denominator)) (near_part xs a 0 s q k)
      ∙ ap (λ f. fraction (pos (weight (weights_in ((first_of xs).meaning q)) f), (first_of xs).denominator)) (near_test (last_of xs) (near_last xs a) s q k)
  near_head j u (head.Sum n) xs ty c a p s q k e =
      ap (λ f. fraction (sum_below n f)) (fun_ext (λ i. ap fraction_in (near_last xs a _ _ (near_under g.types F s q k (value (of_number i)) (value (of_number i)) refl))))
  near_head j u (head.Weights ps) xs ty c a p s q k e = refl
  near_head j u head.Map xs ty c a p s q k e =
      ap (λ d. weights (dmap (λ v. value_in (at_value (last_of xs) s v)) (weights_in d))) (near_part xs a 0 s q k)
      ∙ ap (λ (f : Value → Meaning). weights (dmap (λ v. value_in (f v)) (weights_in ((first_of xs).meaning q)))) (fun_ext (near_at_value (last_of xs) (near_last xs a) s q k))
  near_head j u head.Restrict xs ty c a p s q k e =
      ap (λ d. weights (restricted (weights_in d) (λ v. truth (at_value (last_of xs) s v)))) (near_part xs a 0 s q k)
      ∙ ap (λ f. weights (restricted (weights_in ((first_of xs).meaning q)) f)) (near_test (last_of xs) (near_last xs a) s q k)
  near_head j u (head.Pr x r) xs ty c a p s q k e =
      ap (λ vs. fraction (j.probability x vs (memory_of s r) (λ n. truth ((last_of xs).meaning (at s n))))) (near_values xs a s q k)
      ∙ ap fraction (p _ (memory_of s r) (memory_of q r) _ _ (near_side g.types F s q k r) (λ m n h. ap truth (near_last xs a _ _ (near_at g.types F s q k m n h))))
  near_head j u (head.Glob m r) xs ty c a p s q k e = ap finite (read_globals_agree g.types F (g.types.footprint m) c (memory_of s r) (memory_of q r) (near_side g.types F s q k r))
  near_head j u (head.Hoare b) xs ty c a p s q k e = ap of_truth e
  near_head j u (head.Phoare b r) xs ty c a p s q k e = ap of_truth e
  near_head j u (head.Equiv b d) xs ty c a p s q k e = ap of_truth e

  quiet_near : (h : Head) → ProbabilityNear quiet h
  quiet_near (head.Pr p r) = λ vs m n e f a i. refl
  quiet_near _ = tt

  mutual
    -- a program's term
    pub near_quiet : (t : Term) → Covers F (term_cells g t) → (s q : State) → Near g.types F s q → val g quiet t s ≡ val g quiet t q
    near_quiet (Term' p (more_of-Head h end_of-Head) n ts ty) c s q k =
        near_head quiet (Term' p (more_of-Head h end_of-Head) n ts ty) h (parts g quiet ts) ty (front F (leaf_cells g h ty) (row_cells g ts) c)
        (near_quiet_parts ts (rest F (leaf_cells g h ty) (row_cells g ts) c)) (quiet_near h) s q k refl

    near_quiet_parts : {n : Count} (ts : Row_of-Term n) → Covers F (row_cells g ts) → AllNear (parts g quiet ts)
    near_quiet_parts end_of-Term c = tt
    near_quiet_parts (more_of-Term t ts) c = (near_quiet t (front F (term_cells g t) (row_cells g ts) c), near_quiet_parts ts (rest F (term_cells g t) (row_cells g ts) c))
