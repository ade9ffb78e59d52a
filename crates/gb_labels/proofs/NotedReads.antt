-- Noting what terms read, one after another.
use Rattle.std.proofs.Common.{◌≡◌, ℕ, ◌+◌, ◌<◌, ◌≤◌, List, [], ◌∷◌, ◌++◌, drop, length, get_or, map, refl, sym, ap, ◌∙◌, min, zero, suc, arith}
use Rattle.std.proofs.lemmas.List.{at_drop_more, drop_all}
use Rattle.gb_terms.specs.declared.term.Term.{Term, Term', Row_of-Term, end_of-Term, more_of-Term, end_of-Head, more_of-Head, items-the_row-Term, items_shown-the_row-Term-0}
use Rattle.gb_terms.specs.declared.term.Head.TheViews.{out-Term, outs-struct-Term}
use Rattle.gb_walk.specs.Layers.{seen_by, where_last}
use Rattle.gb_core.specs.declared.value.Value.{Value}
use Rattle.gb_labels.specs.Held.{with_values}
use Rattle.gb_labels.specs.Reads.{Vars, head_reads, inside, joined, noted, reads_at, each_reads, with_new}

reads_row : (n : _) (r : Row_of-Term n) → each_reads r ≡ map reads_at (items-the_row-Term n r)
reads_row n end_of-Term = refl
reads_row n (more_of-Term t r) = ap (λ l. (λ k. reads_at t k) ∷ l) (reads_row _ r)

-- what a term reads, by its head and its arguments
pub reads_out : (t : Term) (k : ℕ) → reads_at t k ≡ head_reads (out-Term t).head (out-Term t).ty k ++ joined (seen_by k (inside (out-Term t).head k) (map reads_at (out-Term t).args))
unfolding Rattle.gb_terms.specs.declared.term.Head.TheBlock.shown-the_row-Head-2 denote.Hole.Carrier.shown
reads_out (Term' p (more_of-Head h end_of-Head) n r ty) k =
    ap (λ l. head_reads h ty k ++ joined (seen_by k (inside h k) l)) (reads_row _ r ∙ sym (ap (map reads_at) (items_shown-the_row-Term-0 n r)))
    ∙ sym (ap (λ z. head_reads z.head z.ty k ++ joined (seen_by k (inside z.head k) (map reads_at z.args))) (outs-struct-Term p (more_of-Head h end_of-Head) n r ty))

pub noted_append : (seen xs ys : Vars) → noted seen (xs ++ ys) ≡ noted (noted seen xs) ys
noted_append seen [] ys = refl
noted_append seen (x ∷ xs) ys = noted_append (with_new seen x) xs ys

last_mapped : {A B : Type 0} (f : A → B) (xs : List A) (y z : ℕ) → where_last (map f xs) y z ≡ where_last xs y z
last_mapped f [] y z = refl
last_mapped f (x ∷ xs) y z = refl

-- one argument further
pub noted_more : (seen : Vars) (ts : List Term) (i : ℕ) (t : Term) (y z k : ℕ) → i < length ts → t ≡ get_or ts i t → k ≡ where_last (drop (i + 1) ts) y z →
    noted (noted seen (reads_at t k)) (joined (seen_by y z (map reads_at (drop (i + 1) ts)))) ≡ noted seen (joined (seen_by y z (map reads_at (drop i ts))))
noted_more seen ts i t y z k l e f =
    ap (λ n. noted (noted seen (reads_at t n)) rest) (f ∙ sym (last_mapped reads_at (drop (i + 1) ts) y z))
    ∙ sym (noted_append seen (reads_at t (where_last (map reads_at (drop (i + 1) ts)) y z)) rest)
    ∙ sym (at_drop_more (λ us. noted seen (joined (seen_by y z (map reads_at us)))) ts i t l
    ∙ ap (λ u. noted seen (joined (seen_by y z (map reads_at (u ∷ drop (i + 1) ts))))) (sym e))
  where
    rest : Vars
    rest = joined (seen_by y z (map reads_at (drop (i + 1) ts)))

-- the arguments that are left are none
pub noted_all : (seen : Vars) (ts : List Term) (i y z : ℕ) → length ts ≤ i → noted seen (joined (seen_by y z (map reads_at (drop i ts)))) ≡ seen
noted_all seen ts i y z h = ap (λ us. noted seen (joined (seen_by y z (map reads_at us)))) (drop_all i ts h)

no_values : (xs : Vars) → with_values xs [] ≡ []
no_values [] = refl
no_values (x ∷ xs) = refl

-- behind the last variable or the last value there are none with values
pub none_left : (xs : Vars) (vs : List Value) (i : ℕ) → min (length xs) (length vs) ≤ i → with_values (drop i xs) (drop i vs) ≡ []
none_left [] vs zero h = refl
none_left [] vs (suc i) h = refl
none_left (x ∷ xs) [] zero h = refl
none_left (x ∷ xs) [] (suc i) h = no_values (drop i xs)
none_left (x ∷ xs) (v ∷ vs) zero h = absurd (omega (arith, h))
none_left (x ∷ xs) (v ∷ vs) (suc i) h = none_left xs vs i (omega (arith, h))
