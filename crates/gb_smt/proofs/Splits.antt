-- Splitting a term at its head and the list of its arguments.
use Rattle.std.proofs.Common.{◌≡◌, List, [], ◌∷◌, ◌++◌, map, length, get_or, refl, sym, ap, ◌∙◌, arith}
use Rattle.gb_core.specs.declared.ty.Ty.{Ty}
use Rattle.gb_terms.specs.declared.term.Term.{Term, Term', Row_of-Term, end_of-Term, more_of-Term, end_of-Head, more_of-Head, items-the_row-Term, items_shown-the_row-Term-0}
use Rattle.gb_terms.specs.declared.term.Head.{Head}
use Rattle.gb_terms.specs.declared.term.Head.TheVariants as head
use Rattle.gb_terms.specs.declared.term.Head.TheViews.{out-Term, outs-struct-Term}
use Rattle.gb_smt.specs.declared.leaves.Context.{Context}
use Rattle.gb_smt.specs.declared.leaves.Connective.{Connective}
use Rattle.gb_smt.specs.declared.leaves.Connective.TheVariants.{Implication, Conjunction, Other}
use Rattle.gb_smt.specs.Leaves.{connective, with_variable, with_memory, unless_true, assumed, assumed_by, all_assumed, Part, whole, split, split_one, split_two, split_by, parts}

assumed_row : (n : _) (r : Row_of-Term n) → all_assumed r ≡ map assumed (items-the_row-Term n r)
assumed_row n end_of-Term = refl
assumed_row n (more_of-Term t r) = ap (λ l. assumed t ∷ l) (assumed_row _ r)

pub assumed_out : (t : Term) → assumed t ≡ assumed_by (connective (out-Term t).head) (map assumed (out-Term t).args) t
unfolding Rattle.gb_terms.specs.declared.term.Head.TheBlock.shown-the_row-Head-2 denote.Hole.Carrier.shown
assumed_out (Term' p (more_of-Head h end_of-Head) n r ty) =
    ap (λ l. assumed_by (connective h) l (Term' p (more_of-Head h end_of-Head) n r ty)) (assumed_row _ r ∙ sym (ap (map assumed) (items_shown-the_row-Term-0 n r)))
    ∙ sym (ap (λ z. assumed_by (connective z.head) (map assumed z.args) (Term' p (more_of-Head h end_of-Head) n r ty)) (outs-struct-Term p (more_of-Head h end_of-Head) n r ty))

abbrev pub part : Term → Part
part t = record { term = t; leaves = split t }

parts_row : (n : _) (r : Row_of-Term n) → parts r ≡ map part (items-the_row-Term n r)
parts_row n end_of-Term = refl
parts_row n (more_of-Term t r) = ap (λ l. part t ∷ l) (parts_row _ r)

pub split_out : (t : Term) (c : Context) (hyps : List Term) → split t c hyps ≡ split_by (out-Term t).head (map part (out-Term t).args) t c hyps
unfolding Rattle.gb_terms.specs.declared.term.Head.TheBlock.shown-the_row-Head-2 denote.Hole.Carrier.shown
split_out (Term' p (more_of-Head h end_of-Head) n r ty) c hyps =
    ap (λ l. split_by h l (Term' p (more_of-Head h end_of-Head) n r ty) c hyps) (parts_row _ r ∙ sym (ap (map part) (items_shown-the_row-Term-0 n r)))
    ∙ sym (ap (λ z. split_by z.head (map part z.args) (Term' p (more_of-Head h end_of-Head) n r ty) c hyps) (outs-struct-Term p (more_of-Head h end_of-Head) n r ty))

one_of : (xs : List Term) (b : Term) → length xs ≡ 1 → b ≡ get_or xs 0 b → xs ≡ b ∷ []
one_of [] b l e = absurd (omega arith)
one_of (x ∷ []) b l e = ap (λ y. y ∷ []) (sym e)
one_of (x ∷ y ∷ xs) b l e = absurd (omega arith)

two_of : (xs : List Term) (a b : Term) → length xs ≡ 2 → a ≡ get_or xs 0 a → b ≡ get_or xs 1 b → xs ≡ a ∷ b ∷ []
two_of [] a b l d e = absurd (omega arith)
two_of (x ∷ []) a b l d e = absurd (omega arith)
two_of (x ∷ y ∷ []) a b l d e = ap (λ u. u ∷ y ∷ []) (sym d) ∙ ap (λ u. a ∷ u ∷ []) (sym e)
two_of (x ∷ y ∷ z ∷ xs) a b l d e = absurd (omega arith)

-- a form of one argument

module _ (t : Term) (h : Head) (xs : List Term) (b : Term) (c : Context) (hyps : List Term) (p : h ≡ (out-Term t).head) (q : xs ≡ (out-Term t).args) (l : length xs ≡ 1) (e : b ≡ get_or xs 0 b) where
  split_at_one : split t c hyps ≡ split_one h (part b) t c hyps
  split_at_one =
      split_out t c hyps
      ∙ ap (λ x. split_by x (map part (out-Term t).args) t c hyps) (sym p)
      ∙ ap (λ x. split_by h (map part x) t c hyps) (sym q ∙ one_of xs b l e)

  pub split_All : (ty : Ty) (d : Context) → h ≡ head.All ty → d ≡ with_variable c ty → split t c hyps ≡ split b d hyps
  split_All ty d k r = split_at_one ∙ ap (λ x. split_one x (part b) t c hyps) k ∙ ap (λ x. split b x hyps) (sym r)

  pub split_AllMemory : (d : Context) → h ≡ head.AllMemory → d ≡ with_memory c → split t c hyps ≡ split b d hyps
  split_AllMemory d k r = split_at_one ∙ ap (λ x. split_one x (part b) t c hyps) k ∙ ap (λ x. split b x hyps) (sym r)

by_one : (g : Head) (ys : List Term) (t : Term) (c : Context) (hyps : List Term) → length ys ≡ 1 → ((a : Part) → split_one g a t c hyps ≡ whole t c hyps) → split_by g (map part ys) t c hyps ≡ whole t c hyps
by_one g [] t c hyps m f = absurd (omega arith)
by_one g (x ∷ []) t c hyps m f = f (part x)
by_one g (x ∷ y ∷ zs) t c hyps m f = absurd (omega arith)

one_other : (g : Head) (a : Part) (t : Term) (c : Context) (hyps : List Term) → ((ty : Ty) → g ≡ head.All ty → ⊥) → (g ≡ head.AllMemory → ⊥) → split_one g a t c hyps ≡ whole t c hyps
one_other (head.All ty) a t c hyps x y = absurd (x ty refl)
one_other head.AllMemory a t c hyps x y = absurd (y refl)
one_other _ a t c hyps x y = refl

pub split_one_other : (t : Term) (h : Head) (xs : List Term) (c : Context) (hyps : List Term) → h ≡ (out-Term t).head → xs ≡ (out-Term t).args → length xs ≡ 1 → ((ty : Ty) → h ≡ head.All ty → ⊥) → (h ≡ head.AllMemory → ⊥) → split t c hyps ≡ whole t c hyps
split_one_other t h xs c hyps p q l x y =
    split_out t c hyps
    ∙ ap (λ z. split_by z (map part (out-Term t).args) t c hyps) (sym p)
    ∙ ap (λ z. split_by h (map part z) t c hyps) (sym q)
    ∙ by_one h xs t c hyps l (λ a. one_other h a t c hyps x y)

-- a form of two arguments
pub split_at_two : (t : Term) (k : Connective) (xs : List Term) (a b : Term) (c : Context) (hyps : List Term) → k ≡ connective (out-Term t).head → xs ≡ (out-Term t).args → length xs ≡ 2 → a ≡ get_or xs 0 a → b ≡ get_or xs 1 b → split t c hyps ≡ split_two k (part a) (part b) t c hyps
split_at_two t k xs a b c hyps p q l d e =
    split_out t c hyps
    ∙ ap (λ x. split_by (out-Term t).head (map part x) t c hyps) (sym q ∙ two_of xs a b l d e)
    ∙ ap (λ x. split_two x (part a) (part b) t c hyps) (sym p)

-- one that isn't split, whatever its two arguments
pub split_two_other : (t : Term) (xs : List Term) (c : Context) (hyps : List Term) → Other ≡ connective (out-Term t).head → xs ≡ (out-Term t).args → length xs ≡ 2 → split t c hyps ≡ whole t c hyps
split_two_other t xs c hyps p q l = split_out t c hyps ∙ ap (λ x. split_by (out-Term t).head (map part x) t c hyps) (sym q) ∙ by_two xs l
  where
    by_two : (ys : List Term) → length ys ≡ 2 → split_by (out-Term t).head (map part ys) t c hyps ≡ whole t c hyps
    by_two [] m = absurd (omega arith)
    by_two (x ∷ []) m = absurd (omega arith)
    by_two (x ∷ y ∷ []) m = ap (λ k. split_two k (part x) (part y) t c hyps) (sym p)
    by_two (x ∷ y ∷ z ∷ zs) m = absurd (omega arith)

by_other : (h : Head) (xs : List Term) (t : Term) (c : Context) (hyps : List Term) → (length xs ≡ 1 → ⊥) → (length xs ≡ 2 → ⊥) → split_by h (map part xs) t c hyps ≡ whole t c hyps
by_other h [] t c hyps l m = refl
by_other h (x ∷ []) t c hyps l m = absurd (l refl)
by_other h (x ∷ y ∷ []) t c hyps l m = absurd (m refl)
by_other h (x ∷ y ∷ z ∷ xs) t c hyps l m = refl

pub split_other : (t : Term) (xs : List Term) (c : Context) (hyps : List Term) → xs ≡ (out-Term t).args → (length xs ≡ 1 → ⊥) → (length xs ≡ 2 → ⊥) → split t c hyps ≡ whole t c hyps
split_other t xs c hyps q l m =
    split_out t c hyps
    ∙ ap (λ x. split_by (out-Term t).head (map part x) t c hyps) (sym q)
    ∙ by_other (out-Term t).head xs t c hyps l m

-- the hypotheses of a form of two arguments, and of another

pub assumed_at_two : (t : Term) (xs : List Term) (a b : Term) → Conjunction ≡ connective (out-Term t).head → xs ≡ (out-Term t).args → length xs ≡ 2 → a ≡ get_or xs 0 a → b ≡ get_or xs 1 b → assumed t ≡ assumed a ++ assumed b
assumed_at_two t xs a b p q l d e =
    assumed_out t
    ∙ ap (λ x. assumed_by x (map assumed (out-Term t).args) t) (sym p)
    ∙ ap (λ x. assumed_by Conjunction (map assumed x) t) (sym q ∙ two_of xs a b l d e)

no_conjunction : (k : Connective) (xs : List (List Term)) (t : Term) → (k ≡ Conjunction → ⊥) → assumed_by k xs t ≡ unless_true t
no_conjunction Conjunction xs t h = absurd (h refl)
no_conjunction Implication xs t h = refl
no_conjunction Other xs t h = refl

pub assumed_whole : (t : Term) (k : Connective) → k ≡ connective (out-Term t).head → (k ≡ Conjunction → ⊥) → assumed t ≡ unless_true t
assumed_whole t k p h =
    assumed_out t
    ∙ ap (λ x. assumed_by x (map assumed (out-Term t).args) t) (sym p)
    ∙ no_conjunction k (map assumed (out-Term t).args) t h

no_pair : (k : Connective) (xs : List Term) (t : Term) → (length xs ≡ 2 → ⊥) → assumed_by k (map assumed xs) t ≡ unless_true t
no_pair Implication xs t l = refl
no_pair Other xs t l = refl
no_pair Conjunction [] t l = refl
no_pair Conjunction (x ∷ []) t l = refl
no_pair Conjunction (x ∷ y ∷ []) t l = absurd (l refl)
no_pair Conjunction (x ∷ y ∷ z ∷ xs) t l = refl

pub assumed_other : (t : Term) (xs : List Term) → xs ≡ (out-Term t).args → (length xs ≡ 2 → ⊥) → assumed t ≡ unless_true t
assumed_other t xs q l =
    assumed_out t
    ∙ ap (λ x. assumed_by (connective (out-Term t).head) (map assumed x) t) (sym q)
    ∙ no_pair (connective (out-Term t).head) xs t l
