-- Terms from their heads and the lists of their arguments.
use Rattle.std.proofs.Common.{◌≡◌, ◌⊎◌, inl, inr, ℕ, ℤ, Bool, false, ◌&&◌, List, [], ◌∷◌, map, refl, sym, ap, ◌∙◌}
use Rattle.std.specs.List.{list_all}
use Rattle.gb_terms.specs.declared.term.Term.{Term, Term', Row_of-Term, end_of-Term, more_of-Term, end_of-Head, more_of-Head, items-the_row-Term, items_shown-the_row-Term-0}
use Rattle.gb_terms.specs.declared.term.Head.{Head}
use Rattle.gb_terms.specs.declared.term.Pair.{Pair}
use Rattle.gb_terms.specs.declared.term.Head.TheViews.{out-Term, outs-struct-Term}
use Rattle.gb_core.specs.declared.ty.Ty.{Ty}
use Rattle.gb_core.specs.declared.value.Value.{Value}
use Rattle.gb_meaning.specs.Names.{Name}
use Rattle.gb_eval.specs.declared.env.Bound.{Bound}
use Rattle.gb_eval.specs.Findings.{Comes, Operators}
use Rattle.gb_eval.specs.Eval.{Environment, part_of, eval, eval_all, at_head}
use Rattle.gb_core.specs.declared.ty.Ty.TheVariants as ty
use Rattle.gb_core.specs.Types.{card_of, is_finite}
use Rattle.gb_terms.specs.declared.op.Op.{Op}
use Rattle.gb_terms.specs.declared.op.Read.{Read}
use Rattle.gb_terms.specs.declared.op.Op.TheVariants as op
use Rattle.gb_terms.specs.declared.term.Head.TheVariants as head
use Rattle.gb_meaning.specs.Operators.{outcome_type}
use Rattle.gb_meaning.specs.Written.{type_of}
use Rattle.gb_laws.specs.Typing.{types_of}
use Rattle.gb_laws.proofs.Constructors.{distribution_is}
use Rattle.gb_eval.specs.Findings.Comes.{unknown}
use Rattle.gb_eval.specs.Operators.{nullary, uniform_over}
use Rattle.gb_eval.specs.Totals.{total_of, totals_of, head_total, of_first, operator_total, number_of_outcomes}
use Rattle.gb_eval.specs.Known.{is_known, all_known, has_finite_outcomes, is_head_known, are_true}

known_row : (ks : Name → Bool) (n : _) (r : Row_of-Term n) → all_known ks r ≡ map (is_known ks) (items-the_row-Term n r)
known_row ks n end_of-Term = refl
known_row ks n (more_of-Term t r) = ap (λ l. is_known ks t ∷ l) (known_row ks _ r)

types_row : (n : _) (r : Row_of-Term n) → types_of r ≡ map type_of (items-the_row-Term n r)
types_row n end_of-Term = refl
types_row n (more_of-Term t r) = ap (λ l. type_of t ∷ l) (types_row _ r)

all_of : {X : Type 0} (f : X → Bool) (xs : List X) → are_true (map f xs) ≡ list_all f xs
all_of f [] = refl
all_of f (x ∷ xs) = ap (λ b. f x && b) (all_of f xs)

-- the type of a term, as the code reads it
pub type_is : (t : Term) → type_of t ≡ (out-Term t).ty
unfolding Rattle.gb_terms.specs.declared.term.Head.TheBlock.shown-the_row-Head-2 denote.Hole.Carrier.shown
type_is (Term' p (more_of-Head h end_of-Head) n r ty) = sym (ap (λ z. z.ty) (outs-struct-Term p (more_of-Head h end_of-Head) n r ty))

-- whether evaluation knows a term, by its head and its arguments
pub known_out : (ks : Name → Bool) (t : Term) → is_known ks t ≡ (is_head_known ks (out-Term t).head (out-Term t).ty (map type_of (out-Term t).args) && list_all (is_known ks) (out-Term t).args)
unfolding Rattle.gb_terms.specs.declared.term.Head.TheBlock.shown-the_row-Head-2 denote.Hole.Carrier.shown
known_out ks (Term' p (more_of-Head h end_of-Head) n r ty) =
    (λ i. is_head_known ks h ty (types_row _ r i) && are_true (known_row ks _ r i))
    ∙ ap (λ b. is_head_known ks h ty (map type_of (items-the_row-Term _ r)) && b) (all_of (is_known ks) (items-the_row-Term _ r))
    ∙ ap (λ l. is_head_known ks h ty (map type_of l) && list_all (is_known ks) l) (sym (items_shown-the_row-Term-0 n r))
    ∙ sym (ap (λ z. is_head_known ks z.head z.ty (map type_of z.args) && list_all (is_known ks) z.args) (outs-struct-Term p (more_of-Head h end_of-Head) n r ty))

eval_row : (env : Environment) (n : _) (r : Row_of-Term n) → eval_all env r ≡ map (part_of env) (items-the_row-Term n r)
eval_row env n end_of-Term = refl
eval_row env n (more_of-Term t r) = ap (λ l. part_of env t ∷ l) (eval_row env _ r)

-- what a term comes to, by its head and its arguments
pub eval_out : (env : Environment) (t : Term) (bound : List Bound) → eval env t bound ≡ at_head env (out-Term t).head (out-Term t).ty (map (part_of env) (out-Term t).args) bound
unfolding Rattle.gb_terms.specs.declared.term.Head.TheBlock.shown-the_row-Head-2 denote.Hole.Carrier.shown
eval_out env (Term' p (more_of-Head h end_of-Head) n r ty) bound =
    ap (λ l. at_head env h ty l bound) (eval_row env _ r ∙ sym (ap (map (part_of env)) (items_shown-the_row-Term-0 n r)))
    ∙ sym (ap (λ z. at_head env z.head z.ty (map (part_of env) z.args) bound) (outs-struct-Term p (more_of-Head h end_of-Head) n r ty))

module _ (env : Environment) (t : Term) (h : Head) (xs : List Term) (ty : Ty) (bound : List Bound) (p : h ≡ (out-Term t).head) (q : xs ≡ (out-Term t).args) (r : ty ≡ (out-Term t).ty) where
  pub eval_at : (g : Head) → h ≡ g → eval env t bound ≡ at_head env g ty (map (part_of env) xs) bound
  eval_at g e = eval_out env t bound ∙ (λ i. at_head env ((sym p ∙ e) i) (sym r i) (map (part_of env) (sym q i)) bound)

  pub eval_other : ((v : Value) → h ≡ head.Lit v → ⊥) → ((n : ℤ) → h ≡ head.Whole n → ⊥) → ((r : Read) → h ≡ head.Read r → ⊥) → ((i : ℕ) → h ≡ head.Bound i → ⊥) → ((o : Op) → h ≡ head.Builtin o → ⊥) → ((m : Name) → h ≡ head.User m → ⊥) → ((u : Ty) → h ≡ head.All u → ⊥) → ((u : Ty) → h ≡ head.Some u → ⊥) → (h ≡ head.Mu → ⊥) → ((n : ℕ) → h ≡ head.Sum n → ⊥) → (h ≡ head.Restrict → ⊥) → (h ≡ head.Map → ⊥) → ((ps : List Pair) → h ≡ head.Weights ps → ⊥) → (h ≡ head.AllMemory → ⊥) → (h ≡ head.SomeMemory → ⊥) → eval env t bound ≡ unknown
  eval_other l w r b o k a s m n c d u every some = eval_at h refl ∙ none h l w r b o k a s m n c d u every some
    where
      none : (g : Head) → ((v : Value) → g ≡ head.Lit v → ⊥) → ((n : ℤ) → g ≡ head.Whole n → ⊥) → ((r : Read) → g ≡ head.Read r → ⊥) → ((i : ℕ) → g ≡ head.Bound i → ⊥) → ((o : Op) → g ≡ head.Builtin o → ⊥) → ((m : Name) → g ≡ head.User m → ⊥) → ((u : Ty) → g ≡ head.All u → ⊥) → ((u : Ty) → g ≡ head.Some u → ⊥) → (g ≡ head.Mu → ⊥) → ((n : ℕ) → g ≡ head.Sum n → ⊥) → (g ≡ head.Restrict → ⊥) → (g ≡ head.Map → ⊥) → ((ps : List Pair) → g ≡ head.Weights ps → ⊥) → (g ≡ head.AllMemory → ⊥) → (g ≡ head.SomeMemory → ⊥) → at_head env g ty (map (part_of env) xs) bound ≡ unknown
      none (head.Lit v) l w r b o k a s m n c d z every some = absurd (l v refl)
      none (head.Whole y) l w r b o k a s m n c d z every some = absurd (w y refl)
      none (head.Read x) l w r b o k a s m n c d z every some = absurd (r x refl)
      none (head.Bound i) l w r b o k a s m n c d z every some = absurd (b i refl)
      none (head.Builtin x) l w r b o k a s m n c d z every some = absurd (o x refl)
      none (head.User y) l w r b o k a s m n c d z every some = absurd (k y refl)
      none (head.All u) l w r b o k a s m n c d z every some = absurd (a u refl)
      none (head.Some u) l w r b o k a s m n c d z every some = absurd (s u refl)
      none head.Mu l w r b o k a s m n c d z every some = absurd (m refl)
      none (head.Sum y) l w r b o k a s m n c d z every some = absurd (n y refl)
      none head.Restrict l w r b o k a s m n c d z every some = absurd (c refl)
      none head.Map l w r b o k a s m n c d z every some = absurd (d refl)
      none (head.Weights ps) l w r b o k a s m n c d z every some = absurd (z ps refl)
      none head.AllMemory l w r b o k a s m n c d z every some = absurd (every refl)
      none head.SomeMemory l w r b o k a s m n c d z every some = absurd (some refl)
      none _ l w r b o k a s m n c d z every some = refl

total_row : (ops : Operators) (n : _) (r : Row_of-Term n) → totals_of ops r ≡ map (total_of ops) (items-the_row-Term n r)
total_row ops n end_of-Term = refl
total_row ops n (more_of-Term t r) = ap (λ l. total_of ops t ∷ l) (total_row ops _ r)

-- the denominator of a term, by its head and its arguments
pub total_out : (ops : Operators) (t : Term) → total_of ops t ≡ head_total ops (out-Term t).head (out-Term t).ty (map (total_of ops) (out-Term t).args)
unfolding Rattle.gb_terms.specs.declared.term.Head.TheBlock.shown-the_row-Head-2 denote.Hole.Carrier.shown
total_out ops (Term' p (more_of-Head h end_of-Head) n r ty) =
    ap (head_total ops h ty) (total_row ops _ r ∙ sym (ap (map (total_of ops)) (items_shown-the_row-Term-0 n r)))
    ∙ sym (ap (λ z. head_total ops z.head z.ty (map (total_of ops) z.args)) (outs-struct-Term p (more_of-Head h end_of-Head) n r ty))

module _ (ops : Operators) (t : Term) (h : Head) (xs : List Term) (ty : Ty) (p : h ≡ (out-Term t).head) (q : xs ≡ (out-Term t).args) (r : ty ≡ (out-Term t).ty) where
  pub total_at : (g : Head) → h ≡ g → total_of ops t ≡ head_total ops g ty (map (total_of ops) xs)
  total_at g e = total_out ops t ∙ (λ i. head_total ops ((sym p ∙ e) i) (sym r i) (map (total_of ops) (sym q i)))

  pub total_other : ((o : Op) → h ≡ head.Builtin o → ⊥) → ((m : Name) → h ≡ head.User m → ⊥) → (h ≡ head.Restrict → ⊥) → (h ≡ head.Map → ⊥) → ((ps : List Pair) → h ≡ head.Weights ps → ⊥) → total_of ops t ≡ unknown
  total_other b u s m w = total_at h refl ∙ none h b u s m w
    where
      none : (g : Head) → ((o : Op) → g ≡ head.Builtin o → ⊥) → ((m : Name) → g ≡ head.User m → ⊥) → (g ≡ head.Restrict → ⊥) → (g ≡ head.Map → ⊥) → ((ps : List Pair) → g ≡ head.Weights ps → ⊥) → head_total ops g ty (map (total_of ops) xs) ≡ unknown
      none (head.Builtin o) b u s m w = absurd (b o refl)
      none (head.User n) b u s m w = absurd (u n refl)
      none head.Restrict b u s m w = absurd (s refl)
      none head.Map b u s m w = absurd (m refl)
      none (head.Weights ps) b u s m w = absurd (w ps refl)
      none _ b u s m w = refl

  -- that of an image or a part is that of its source
  pub total_first : (h ≡ head.Map) ⊎ (h ≡ head.Restrict) → total_of ops t ≡ of_first (map (total_of ops) xs)
  total_first (inl e) = total_at head.Map e
  total_first (inr e) = total_at head.Restrict e

-- heads that evaluation doesn't know
pub known_other : (ks : Name → Bool) (h : Head) (t : Ty) (us : List Ty) → ((v : Value) → h ≡ head.Lit v → ⊥) → ((n : ℤ) → h ≡ head.Whole n → ⊥) → ((r : Read) → h ≡ head.Read r → ⊥) → ((i : ℕ) → h ≡ head.Bound i → ⊥) → ((o : Op) → h ≡ head.Builtin o → ⊥) → ((m : Name) → h ≡ head.User m → ⊥) → ((u : Ty) → h ≡ head.All u → ⊥) → ((u : Ty) → h ≡ head.Some u → ⊥) → (h ≡ head.Mu → ⊥) → ((n : ℕ) → h ≡ head.Sum n → ⊥) → (h ≡ head.Restrict → ⊥) → (h ≡ head.Map → ⊥) → ((ps : List Pair) → h ≡ head.Weights ps → ⊥) → (h ≡ head.AllMemory → ⊥) → (h ≡ head.SomeMemory → ⊥) → false ≡ is_head_known ks h t us
known_other ks (head.Lit v) t us l w r b o k a s m n c d z every some = absurd (l v refl)
known_other ks (head.Whole y) t us l w r b o k a s m n c d z every some = absurd (w y refl)
known_other ks (head.Read x) t us l w r b o k a s m n c d z every some = absurd (r x refl)
known_other ks (head.Bound i) t us l w r b o k a s m n c d z every some = absurd (b i refl)
known_other ks (head.Builtin x) t us l w r b o k a s m n c d z every some = absurd (o x refl)
known_other ks (head.User y) t us l w r b o k a s m n c d z every some = absurd (k y refl)
known_other ks (head.All u) t us l w r b o k a s m n c d z every some = absurd (a u refl)
known_other ks (head.Some u) t us l w r b o k a s m n c d z every some = absurd (s u refl)
known_other ks head.Mu t us l w r b o k a s m n c d z every some = absurd (m refl)
known_other ks (head.Sum y) t us l w r b o k a s m n c d z every some = absurd (n y refl)
known_other ks head.Restrict t us l w r b o k a s m n c d z every some = absurd (c refl)
known_other ks head.Map t us l w r b o k a s m n c d z every some = absurd (d refl)
known_other ks (head.Weights ps) t us l w r b o k a s m n c d z every some = absurd (z ps refl)
known_other ks head.AllMemory t us l w r b o k a s m n c d z every some = absurd (every refl)
known_other ks head.SomeMemory t us l w r b o k a s m n c d z every some = absurd (some refl)
known_other ks _ t us l w r b o k a s m n c d z every some = refl

-- operators that give no distribution
pub operator_other : (o : Op) (t : Ty) (ks : List (Comes ℕ)) → (o ≡ op.Coin → ⊥) → (o ≡ op.Uniform → ⊥) → (o ≡ op.Dunit → ⊥) → (o ≡ op.Product → ⊥) → (o ≡ op.If → ⊥) → operator_total o t ks ≡ unknown
operator_other op.Coin t ks c u d p i = absurd (c refl)
operator_other op.Uniform t ks c u d p i = absurd (u refl)
operator_other op.Dunit t ks c u d p i = absurd (d refl)
operator_other op.Product t ks c u d p i = absurd (p refl)
operator_other op.If t ks c u d p i = absurd (i refl)
operator_other _ t ks c u d p i = refl

outcome_is : (t : Ty) → outcome_type (ty.Distr t) ≡ t
outcome_is t = ap outcome_type (distribution_is t)

-- whether the outcomes of a distribution are of a finite type
pub finite_outcomes : (u v w : Ty) (b : Bool) → u ≡ ty.Distr v → w ≡ v → b ≡ is_finite w → b ≡ has_finite_outcomes u
finite_outcomes u v w b e f g = g ∙ ap is_finite f ∙ sym (ap has_finite_outcomes (e ∙ distribution_is v))

-- the uniform distribution of a type of distributions
module _ (o : Op) (u v w : Ty) (e : o ≡ op.Uniform) (f : u ≡ ty.Distr v) (g : w ≡ v) where
  over_it : outcome_type u ≡ w
  over_it = ap outcome_type f ∙ outcome_is v ∙ sym g

  pub uniform_total : (ks : List (Comes ℕ)) → operator_total o u ks ≡ number_of_outcomes (card_of w)
  uniform_total ks = ap (λ p. operator_total p u ks) e ∙ ap (λ z. number_of_outcomes (card_of z)) over_it

  pub uniform_nullary : nullary o u ≡ uniform_over (card_of w) w
  uniform_nullary = ap (λ p. nullary p u) e ∙ ap (λ z. uniform_over (card_of z) z) over_it
