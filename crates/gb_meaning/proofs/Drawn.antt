-- Trees of distributions have weights of at least 1, whose total is at most the denominator, and the denominator itself
-- where nothing restricts.
use Rattle.std.proofs.Common.{◌≡◌, ℕ, zero, suc, ◌*◌, ◌<◌, ◌≤◌, Bool, true, false, ◌&&◌, if◌then◌else◌, nat_lt, List, [], ◌∷◌, map, get_or, refl, ap, sym, ◌∙◌, subst, arith}
use Rattle.std.proofs.Math.Nat.{mul-pos}
use Rattle.std.proofs.lemmas.Bool.{false≢true, ltb-true, and_parts}
use Rattle.gb_core.specs.declared.ty.Ty.{Ty}
use Rattle.gb_core.specs.declared.value.Value.{Value}
use Rattle.gb_core.specs.Numbering.{Numbering}
use Rattle.gb_dist.specs.WeightedList.{WeightedList, total, unit, dmap, scale, IsPositive}
use Rattle.gb_dist.proofs.Masses.{mass-append, mass-scale, mass-dmap, total-bind}
use Rattle.gb_dist.proofs.Entries.{On-append, On-scale, On-bind, On-dmap}
use Rattle.gb_terms.specs.declared.op.Op.{Op}
use Rattle.gb_terms.specs.declared.op.Op.TheVariants as op
use Rattle.gb_terms.specs.declared.term.Pair.{Pair}
use Rattle.gb_terms.specs.declared.term.Term.{Term, Term', Row_of-Term, end_of-Term, more_of-Term, end_of-Head, more_of-Head}
use Rattle.gb_terms.specs.declared.term.Head.{Head}
use Rattle.gb_terms.specs.declared.term.Head.TheVariants as head
use Rattle.gb_meaning.specs.Values.{values}
use Rattle.gb_meaning.specs.Program.{Program, Routine}
use Rattle.gb_meaning.specs.Program.Program.{done, assign, sample, branch, loop, call, ask}
use Rattle.gb_meaning.specs.Program.Routine.{routine}
use Rattle.gb_meaning.specs.Setting.{Meaning, Setting}
use Rattle.gb_meaning.specs.Setting.Meaning.{finite, whole, fraction, weights}
use Rattle.gb_meaning.specs.Meanings.{value_in, truth, weights_in, scaled}
use Rattle.gb_meaning.specs.Distributions.{coin, values_below, uniform, stated, sum_of_weights, product, restricted}
use Rattle.gb_meaning.specs.Operators.{Argument, chosen, outcome_type, is_distribution, operated, denominator_at}
use Rattle.gb_meaning.specs.State.{State}
use Rattle.gb_meaning.specs.Terms.{quiet, Part, first_of, last_of, argument, at_value, at_head, val, parts, denominator, denominators, denominator_of}
use Rattle.gb_meaning.specs.Sound.{IsDistribution, IsFull, IsSound, IsSoundRoutine, Full, FullRoutine}
use Rattle.gb_meaning.specs.Drawn.{Drawing, each_weighs, has_weights, operator_draws, first_draws, head_draws, draws, each_draws, program_draws, routine_draws, OperatorsDraw}
use Rattle.gb_meaning.proofs.Totals.{at_most_bind, at_most_scale}
use mathlib.Core.Former.{Count}

-- weights of at least 1, with a total of at most k, and of k where nothing restricts
pub record Weighs (nothing_lost : Type 0) (l : WeightedList Value) (k : ℕ) : Type 0 where
  pub entries : IsPositive l
  pub bounded : total l ≤ k
  pub full : nothing_lost → total l ≡ k

abbrev Any : {A : Type 0} → A → Type 0
Any a = Unit {0}

exactly : (full : Type 0) (l : WeightedList Value) (k : ℕ) → IsPositive l → total l ≡ k → Weighs full l k
exactly full l k p e = record { entries = p; bounded = omega (arith, e); full = λ f. e }

below_positive : (t : Numbering) (n : ℕ) → IsPositive (values_below t n)
below_positive t zero = tt
below_positive t (suc n) = On-append Any (values_below t n) ((t.at n, 1) ∷ []) (below_positive t n) (omega arith, tt, tt)

below_total : (t : Numbering) (n : ℕ) → total (values_below t n) ≡ n
below_total t zero = refl
below_total t (suc n) = mass-append (values_below t n) ((t.at n, 1) ∷ []) (λ v. 1) ∙ omega (arith, below_total t n)

stated_positive : (ps : List Pair) → each_weighs ps ≡ true → IsPositive (stated ps)
stated_positive [] h = tt
stated_positive (p ∷ ps) h =
    let both = and_parts (nat_lt 0 p.weight) (each_weighs ps) h in
    (ltb-true 0 p.weight both.0, tt, stated_positive ps both.1)

stated_total : (ps : List Pair) → total (stated ps) ≡ sum_of_weights ps
stated_total [] = refl
stated_total (p ∷ ps) = omega (arith, stated_total ps)

product_weighs : (full : Type 0) (d e : WeightedList Value) (j k : ℕ) → Weighs full d j → Weighs full e k → Weighs full (product d e) (j * k)
product_weighs full d e j k a b = record {
  entries = On-bind Any Any d _ a.entries (λ v u. On-dmap {P = Any} Any _ e (λ w u. tt) b.entries);
  bounded = at_most_bind d _ j k a.bounded (λ v. subst (λ z. z ≤ k) (sym (mass-dmap _ e (λ w. 1))) b.bounded);
  full = λ f. total-bind d _ k (λ v. mass-dmap _ e (λ w. 1) ∙ b.full f) ∙ ap (λ z. z * k) (a.full f);
}

dmap_weighs : (full : Type 0) (f : Value → Value) (d : WeightedList Value) (k : ℕ) → Weighs full d k → Weighs full (dmap f d) k
dmap_weighs full f d k a = record {
  entries = On-dmap {P = Any} Any f d (λ v u. tt) a.entries;
  bounded = subst (λ z. z ≤ k) (sym (mass-dmap f d (λ v. 1))) a.bounded;
  full = λ h. mass-dmap f d (λ v. 1) ∙ a.full h;
}

scale_weighs : (full : Type 0) (c : ℕ) (d : WeightedList Value) (k : ℕ) → 0 < c → Weighs full d k → Weighs full (scale c d) (c * k)
scale_weighs full c d k h a = record {
  entries = On-scale Any c d h a.entries;
  bounded = at_most_scale c d k a.bounded;
  full = λ f. mass-scale c d (λ v. 1) ∙ ap (λ z. c * z) (a.full f);
}

restricted_positive : (d : WeightedList Value) (p : Value → Bool) → IsPositive d → IsPositive (restricted d p)
restricted_positive [] p h = tt
restricted_positive (e ∷ d) p h = step (p e.0) (restricted_positive d p h.2)
  where
    step : (b : Bool) → IsPositive (restricted d p) → IsPositive (if b then e ∷ restricted d p else restricted d p)
    step true k = (h.0, tt, k)
    step false k = k

restricted_at_most : (d : WeightedList Value) (p : Value → Bool) → total (restricted d p) ≤ total d
restricted_at_most [] p = omega arith
restricted_at_most (e ∷ d) p = step (p e.0) (restricted_at_most d p)
  where
    step : (b : Bool) → total (restricted d p) ≤ total d → total (if b then e ∷ restricted d p else restricted d p) ≤ total (e ∷ d)
    step true k = omega (arith, k)
    step false k = omega (arith, k)

scaled_weights : (k : ℕ) (x : Meaning) → weights_in (scaled k x) ≡ scale k (weights_in x)
scaled_weights k (finite v) = refl
scaled_weights k (whole n) = refl
scaled_weights k (fraction a) = refl
scaled_weights k (weights d) = refl

module _ (g : Setting) (d : Drawing) (o : OperatorsDraw g d) where
  record DrawnPart (x : Part) : Type 0 where
    positive : 0 < x.denominator
    weighs : (s : State) → Weighs (d.restricts ≡ false) (weights_in (x.meaning s)) x.denominator

  -- whether each part is said to be a distribution, with the part; what is said is so
  abbrev Known : List (Bool × Part) → Type 0
  Known [] = Unit {0}
  Known (p ∷ ps) = (p.0 ≡ true → DrawnPart p.1) × Known ps

  abbrev bs : List (Bool × Part) → List Bool
  bs ps = map (λ p. p.0) ps

  abbrev ks : List (Bool × Part) → List ℕ
  ks ps = map (λ p. p.1.denominator) ps

  abbrev args : State → List (Bool × Part) → List Argument
  args s ps = map (λ p. argument s p.1) ps

  chosen_weighs : (t : Bool) (x y : Part) → DrawnPart x → DrawnPart y → (s : State) → Weighs (d.restricts ≡ false) (weights_in (chosen t (argument s x) (argument s y))) (x.denominator * y.denominator)
  chosen_weighs true x y a b s = subst (λ z. Weighs (d.restricts ≡ false) z (x.denominator * y.denominator)) (sym (scaled_weights y.denominator (x.meaning s)))
      (subst (λ z. Weighs (d.restricts ≡ false) (scale y.denominator (weights_in (x.meaning s))) z) (omega arith) (scale_weighs _ y.denominator (weights_in (x.meaning s)) x.denominator b.positive (a.weighs s)))
  chosen_weighs false x y a b s = subst (λ z. Weighs (d.restricts ≡ false) z (x.denominator * y.denominator)) (sym (scaled_weights x.denominator (y.meaning s)))
      (scale_weighs _ x.denominator (weights_in (y.meaning s)) y.denominator a.positive (b.weighs s))

  operator_weighs : (p : Op) (ty : Ty) (ps : List (Bool × Part)) → Known ps → operator_draws g.types p ty (bs ps) ≡ true →
      (0 < denominator_at g.types p ty (ks ps)) × ((s : State) → Weighs (d.restricts ≡ false) (weights_in (operated g.types p ty (args s ps))) (denominator_at g.types p ty (ks ps)))
  operator_weighs op.Coin ty [] k h = (omega arith, λ s. exactly _ coin 2 (omega arith, tt, (omega arith, tt, tt)) refl)
  operator_weighs op.Uniform ty [] k h = (
    ltb-true 0 (values g.types (outcome_type ty)).size h,
    λ s. exactly _ (uniform (values g.types (outcome_type ty))) (values g.types (outcome_type ty)).size (below_positive (values g.types (outcome_type ty)) (values g.types (outcome_type ty)).size) (below_total (values g.types (outcome_type ty)) (values g.types (outcome_type ty)).size),
  )
  operator_weighs op.Dunit ty (x ∷ []) k h = (omega arith, λ s. exactly _ (unit (value_in (x.1.meaning s))) 1 (omega arith, tt, tt) refl)
  operator_weighs op.Product ty (x ∷ y ∷ []) k h =
      let both = and_parts x.0 y.0 h in
      let l = k.0 both.0 in
      let r = k.1.0 both.1 in
      (mul-pos l.positive r.positive, λ s. product_weighs _ (weights_in (x.1.meaning s)) (weights_in (y.1.meaning s)) x.1.denominator y.1.denominator (l.weighs s) (r.weighs s))
  operator_weighs op.If ty (x ∷ y ∷ z ∷ []) k h =
      let both = and_parts y.0 z.0 h in
      let l = k.1.0 both.0 in
      let r = k.1.1.0 both.1 in
      (mul-pos l.positive r.positive, λ s. chosen_weighs (truth (x.1.meaning s)) y.1 z.1 l r s)
  operator_weighs _ ty ps k h = absurd (false≢true h)

  sum_positive : (ps : List Pair) → has_weights ps ≡ true → 0 < sum_of_weights ps
  sum_positive [] h = absurd (false≢true h)
  sum_positive (p ∷ ps) h = let q = ltb-true 0 p.weight (and_parts (nat_lt 0 p.weight) (each_weighs ps) h).0 in omega (arith, q)

  stated_weighs : (ps : List Pair) → has_weights ps ≡ true → Weighs (d.restricts ≡ false) (stated ps) (sum_of_weights ps)
  stated_weighs [] h = absurd (false≢true h)
  stated_weighs (p ∷ ps) h = exactly _ (stated (p ∷ ps)) _ (stated_positive (p ∷ ps) h) (stated_total (p ∷ ps))

  -- the first of two parts
  first_weighs : (ps : List (Bool × Part)) → Known ps → first_draws (bs ps) ≡ true → DrawnPart (first_of (map (λ p. p.1) ps)) × (get_or (ks ps) 0 1 ≡ (first_of (map (λ p. p.1) ps)).denominator)
  first_weighs [] k h = absurd (false≢true h)
  first_weighs (x ∷ []) k h = absurd (false≢true h)
  first_weighs (x ∷ y ∷ []) k h = (k.0 h, refl)
  first_weighs (x ∷ y ∷ z ∷ ps) k h = absurd (false≢true h)

  head_weighs : (u : Term) (h : Head) (ty : Ty) (ps : List (Bool × Part)) → Known ps → head_draws g d h ty (bs ps) ≡ true →
      (0 < denominator_of g h (ks ps) ty) × ((s : State) → Weighs (d.restricts ≡ false) (weights_in (at_head g quiet u h (map (λ p. p.1) ps) ty s)) (denominator_of g h (ks ps) ty))
  head_weighs u (head.Builtin p) ty ps k h =
      let w = operator_weighs p ty ps k h in
      (w.0, λ s. subst (λ z. Weighs (d.restricts ≡ false) (weights_in (operated g.types p ty z)) (denominator_at g.types p ty (ks ps))) (same_args s ps) (w.1 s))
    where
      same_args : (s : State) (ps : List (Bool × Part)) → map (λ p. argument s p.1) ps ≡ map (argument s) (map (λ p. p.1) ps)
      same_args s [] = refl
      same_args s (p ∷ ps) = ap (λ z. argument s p.1 ∷ z) (same_args s ps)
  head_weighs u (head.User n) ty ps k h =
      let both = and_parts (is_distribution ty) (d.operators n) h in
      let w = o n both.1 in
      subst (λ b. (0 < (if b then g.denominator n else 1)) × ((s : State) → Weighs (d.restricts ≡ false) (weights_in (g.operator n (map (λ x. x.meaning s) (map (λ p. p.1) ps)))) (if b then g.denominator n else 1)))
      (sym both.0)
      (w.positive, λ s. record { entries = w.entries (map (λ x. x.meaning s) (map (λ p. p.1) ps)); bounded = w.bounded (map (λ x. x.meaning s) (map (λ p. p.1) ps)); full = λ f. w.full f (map (λ x. x.meaning s) (map (λ p. p.1) ps)) })
  head_weighs u (head.Weights qs) ty ps k h = (sum_positive qs h, λ s. stated_weighs qs h)
  head_weighs u head.Map ty ps k h =
      let w = first_weighs ps k h in (
        subst (λ z. 0 < z) (sym w.1) w.0.positive,
        λ s. subst (λ z. Weighs (d.restricts ≡ false) (weights_in (at_head g quiet u head.Map (map (λ p. p.1) ps) ty s)) z) (sym w.1)
            (dmap_weighs _ (λ v. value_in (at_value (last_of (map (λ p. p.1) ps)) s v)) (weights_in ((first_of (map (λ p. p.1) ps)).meaning s)) _ (w.0.weighs s)),
      )
  head_weighs u head.Restrict ty ps k h =
      let both = and_parts d.restricts (first_draws (bs ps)) h in
      let w = first_weighs ps k both.1 in (
        subst (λ z. 0 < z) (sym w.1) w.0.positive,
        λ s. subst (λ z. Weighs (d.restricts ≡ false) (weights_in (at_head g quiet u head.Restrict (map (λ p. p.1) ps) ty s)) z) (sym w.1)
            (restricted_weighs both.0 (weights_in ((first_of (map (λ p. p.1) ps)).meaning s)) (λ v. truth (at_value (last_of (map (λ p. p.1) ps)) s v)) _ (w.0.weighs s)),
      )
    where
      restricted_weighs : d.restricts ≡ true → (l : WeightedList Value) (p : Value → Bool) (k : ℕ) → Weighs (d.restricts ≡ false) l k → Weighs (d.restricts ≡ false) (restricted l p) k
      restricted_weighs e l p k w = record {
        entries = restricted_positive l p w.entries;
        bounded = (let a = restricted_at_most l p in let b = w.bounded in omega (arith, a, b));
        full = λ f. absurd (false≢true (sym f ∙ e));
      }
  head_weighs u _ ty ps k h = absurd (false≢true h)

  abbrev drawn : Term → Bool × Part
  drawn t = (draws g d t, record { meaning = λ s. val g quiet t s; denominator = denominator g t })

  abbrev row_drawn : {n : Count} → Row_of-Term n → List (Bool × Part)
  row_drawn end_of-Term = []
  row_drawn (more_of-Term t ts) = drawn t ∷ row_drawn ts

  row_bs : {n : Count} (ts : Row_of-Term n) → bs (row_drawn ts) ≡ each_draws g d ts
  row_bs end_of-Term = refl
  row_bs (more_of-Term t ts) = ap (λ z. draws g d t ∷ z) (row_bs ts)

  row_ks : {n : Count} (ts : Row_of-Term n) → ks (row_drawn ts) ≡ denominators g ts
  row_ks end_of-Term = refl
  row_ks (more_of-Term t ts) = ap (λ z. denominator g t ∷ z) (row_ks ts)

  row_parts : {n : Count} (ts : Row_of-Term n) → map (λ p. p.1) (row_drawn ts) ≡ parts g quiet ts
  row_parts end_of-Term = refl
  row_parts (more_of-Term t ts) = ap (λ z. (drawn t).1 ∷ z) (row_parts ts)

  mutual
    term_weighs : (t : Term) → draws g d t ≡ true → DrawnPart (record { meaning = λ s. val g quiet t s; denominator = denominator g t })
    term_weighs (Term' p (more_of-Head h end_of-Head) n ts ty) e =
        let w = head_weighs (Term' p (more_of-Head h end_of-Head) n ts ty) h ty (row_drawn ts) (row_known ts) (ap (head_draws g d h ty) (row_bs ts) ∙ e) in
        record {
          positive = subst (λ z. 0 < denominator_of g h z ty) (row_ks ts) w.0;
          weighs = λ s. subst (λ z. Weighs (d.restricts ≡ false) (weights_in (at_head g quiet (Term' p (more_of-Head h end_of-Head) n ts ty) h (parts g quiet ts) ty s)) (denominator_of g h z ty)) (row_ks ts)
              (subst (λ z. Weighs (d.restricts ≡ false) (weights_in (at_head g quiet (Term' p (more_of-Head h end_of-Head) n ts ty) h z ty s)) (denominator_of g h (ks (row_drawn ts)) ty)) (row_parts ts) (w.1 s));
        }

    row_known : {n : Count} (ts : Row_of-Term n) → Known (row_drawn ts)
    row_known end_of-Term = tt
    row_known (more_of-Term t ts) = (term_weighs t, row_known ts)

  pub draws_distribution : (t : Term) → draws g d t ≡ true → IsDistribution g t
  draws_distribution t e =
      let w = term_weighs t e in
      record { positive = w.positive; entries = λ s. (w.weighs s).entries; total = λ s. (w.weighs s).bounded }

  pub draws_full : d.restricts ≡ false → (t : Term) → draws g d t ≡ true → IsFull g t
  draws_full f t e = λ s. ((term_weighs t e).weighs s).full f

  mutual
    pub program_sound : (c : Program) → program_draws g d c ≡ true → IsSound g c
    program_sound done h = tt
    program_sound (assign xs e c) h = program_sound c h
    program_sound (sample x e c) h = let b = and_parts (draws g d e) (program_draws g d c) h in (draws_distribution e b.0, program_sound c b.1)
    program_sound (branch e a b c) h =
        let p = and_parts (program_draws g d a) (program_draws g d b && program_draws g d c) h in
        let q = and_parts (program_draws g d b) (program_draws g d c) p.1 in
        (program_sound a p.0, program_sound b q.0, program_sound c q.1)
    program_sound (loop e v a c) h = let p = and_parts (program_draws g d a) (program_draws g d c) h in (program_sound a p.0, program_sound c p.1)
    program_sound (call xs r es c) h = let p = and_parts (routine_draws g d r) (program_draws g d c) h in (routine_sound r p.0, program_sound c p.1)
    program_sound (ask xs q es c) h = program_sound c h

    pub routine_sound : (r : Routine) → routine_draws g d r ≡ true → IsSoundRoutine g r
    routine_sound (routine ps ls c r) h = program_sound c h

  module _ (f : d.restricts ≡ false) where
    mutual
      pub program_full : (c : Program) → program_draws g d c ≡ true → Full g c
      program_full done h = tt
      program_full (assign xs e c) h = program_full c h
      program_full (sample x e c) h = let b = and_parts (draws g d e) (program_draws g d c) h in (draws_full f e b.0, program_full c b.1)
      program_full (branch e a b c) h =
          let p = and_parts (program_draws g d a) (program_draws g d b && program_draws g d c) h in
          let q = and_parts (program_draws g d b) (program_draws g d c) p.1 in
          (program_full a p.0, program_full b q.0, program_full c q.1)
      program_full (loop e v a c) h = let p = and_parts (program_draws g d a) (program_draws g d c) h in (program_full a p.0, program_full c p.1)
      program_full (call xs r es c) h = let p = and_parts (routine_draws g d r) (program_draws g d c) h in (routine_full r p.0, program_full c p.1)
      program_full (ask xs q es c) h = program_full c h

      pub routine_full : (r : Routine) → routine_draws g d r ≡ true → FullRoutine g r
      routine_full (routine ps ls c r) h = program_full c h
