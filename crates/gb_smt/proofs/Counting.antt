-- Atoms added one after another, each once.
use Rattle.std.proofs.Common.{◌≡◌, ◌≤◌, true, false, cond, take, pred, ◌≢◌, ℕ, ◌+◌, ◌<◌, ◌⊎◌, inl, inr, List, [], ◌∷◌, ◌++◌, length, get_or, refl, sym, ap, ◌∙◌, subst, append-nil, append_assoc, arith}
use Rattle.std.specs.List.{Contains, flat_map}
use Rattle.std.proofs.lemmas.List.{get_or_default, take_all, take_more}
use Rattle.std.proofs.lemmas.List.Concat.{flat_map-append}
use Rattle.std.proofs.lemmas.List.Elements.{Contains-append_left, Contains-append_right, Contains-append_cases, Contains-push_cases}
use Rattle.std.proofs.lemmas.List.Quantifiers.{all_pairs_push}
use Rattle.gb_terms.specs.declared.term.Term.{Term, Term', Row_of-Term, end_of-Term, more_of-Term, end_of-Head, more_of-Head, items-the_row-Term, items_shown-the_row-Term-0}
use Rattle.gb_terms.specs.declared.term.Head.TheViews.{out-Term, outs-struct-Term}
use Rattle.gb_terms.specs.declared.term.Head.{Head}
use Rattle.gb_smt.specs.declared.atoms.Reach.{Reach}
use Rattle.gb_smt.specs.declared.atoms.Reach.TheVariants as Reaches
use Rattle.gb_smt.specs.Atoms.{is_atom, atom_of, own_atom, reach_of, reached, inner_atoms, term_atoms, row_atoms, front_atoms, AreAdded, IsCount}

-- the atoms of a term, from those of its arguments

atoms_row : (n : _) (r : Row_of-Term n) → row_atoms r ≡ flat_map term_atoms (items-the_row-Term n r)
atoms_row n end_of-Term = refl
atoms_row n (more_of-Term t r) = ap (λ l. term_atoms t ++ l) (atoms_row _ r)

front_row : (n : _) (r : Row_of-Term n) → front_atoms r ≡ flat_map term_atoms (take (pred (length (items-the_row-Term n r))) (items-the_row-Term n r))
front_row n end_of-Term = refl
front_row n (more_of-Term t end_of-Term) = refl
front_row n (more_of-Term t (more_of-Term u r)) = ap (λ l. term_atoms t ++ l) (front_row _ (more_of-Term u r))

inner : (x : Reach) (all front items : _) → all ≡ flat_map term_atoms items → front ≡ flat_map term_atoms (take (pred (length items)) items)
    → inner_atoms x all front ≡ flat_map term_atoms (reached x items)
inner Reaches.Nothing all front items e f = refl
inner Reaches.Front all front items e f = f
inner Reaches.All all front items e f = e

pub atoms_out : (t : Term) → term_atoms t ≡ own_atom t ++ flat_map term_atoms (reached (reach_of (out-Term t).head) (out-Term t).args)
unfolding Rattle.gb_terms.specs.declared.term.Head.TheBlock.shown-the_row-Head-2 denote.Hole.Carrier.shown
atoms_out (Term' p (more_of-Head h end_of-Head) n r ty) =
    ap (λ l. own_atom (Term' p (more_of-Head h end_of-Head) n r ty) ++ l)
    (inner (reach_of h) (row_atoms r) (front_atoms r) (items-the_row-Term _ r) (atoms_row _ r) (front_row _ r) ∙ sym (ap (λ l. flat_map term_atoms (reached (reach_of h) l)) (items_shown-the_row-Term-0 n r)))
    ∙ sym (ap (λ z. own_atom (Term' p (more_of-Head h end_of-Head) n r ty) ++ flat_map term_atoms (reached (reach_of z.head) z.args)) (outs-struct-Term p (more_of-Head h end_of-Head) n r ty))

-- lists added one after another

pub added_none : (first : List Term) → AreAdded first [] first
added_none first = record {
  distinct = λ h. h;
  from = λ t h. subst (λ l. Contains l t) (sym (append-nil first)) h;
  within = λ t h. subst (λ l. Contains l t) (append-nil first) h;
}

from_both : (first others more mid : List Term) (t : Term) → (Contains mid t → Contains (first ++ others) t) → Contains mid t ⊎ Contains more t → Contains (first ++ (others ++ more)) t
from_both first others more mid t f (inl h) = subst (λ l. Contains l t) (append_assoc first others more) (Contains-append_left (first ++ others) more t (f h))
from_both first others more mid t f (inr h) = subst (λ l. Contains l t) (append_assoc first others more) (Contains-append_right (first ++ others) more t h)

within_both : (first others more mid : List Term) (t : Term) → (Contains (first ++ others) t → Contains mid t) → Contains (first ++ others) t ⊎ Contains more t → Contains (mid ++ more) t
within_both first others more mid t f (inl h) = Contains-append_left mid more t (f h)
within_both first others more mid t f (inr h) = Contains-append_right mid more t h

pub added_more : (first others more mid all : List Term) → AreAdded first others mid → AreAdded mid more all → AreAdded first (others ++ more) all
added_more first others more mid all a b = record {
  distinct = λ h. b.distinct (a.distinct h);
  from = λ t h. from_both first others more mid t (a.from t) (Contains-append_cases mid more t (b.from t h));
  within = λ t h. b.within t (within_both first others more mid t (a.within t) (Contains-append_cases (first ++ others) more t (subst (λ l. Contains l t) (sym (append_assoc first others more)) h)));
}

pub added_new : (first : List Term) (t : Term) → (Contains first t → ⊥) → AreAdded first (t ∷ []) (first ++ t ∷ [])
added_new first t h = record {
  distinct = λ d. all_pairs_push (λ a b. a ≢ b) first t d (λ k e l q. h (k, l, get_or_default first k t e l ∙ q));
  from = λ s k. k;
  within = λ s k. k;
}

old : (first : List Term) (t s : Term) → Contains first t → Contains first s ⊎ (t ≡ s) → Contains first s
old first t s h (inl k) = k
old first t s h (inr e) = subst (λ x. Contains first x) e h

pub added_old : (first : List Term) (t : Term) → Contains first t → AreAdded first (t ∷ []) first
added_old first t h = record {
  distinct = λ d. d;
  from = λ s k. Contains-append_left first (t ∷ []) s k;
  within = λ s k. old first t s h (Contains-push_cases first t s k);
}

-- the atom that a term is or negates

pub own_none : (first : List Term) (t : Term) → is_atom t ≡ false → AreAdded first (own_atom t) first
own_none first t h = subst (λ l. AreAdded first l first) (sym (ap (λ b. cond b (atom_of t ∷ []) []) h)) (added_none first)

one_atom : (t a : Term) → is_atom t ≡ true → a ≡ atom_of t → a ∷ [] ≡ own_atom t
one_atom t a h e = ap (λ x. x ∷ []) e ∙ sym (ap (λ b. cond b (atom_of t ∷ []) []) h)

pub own_old : (first : List Term) (t a : Term) → is_atom t ≡ true → a ≡ atom_of t → Contains first a → AreAdded first (own_atom t) first
own_old first t a h e k = subst (λ l. AreAdded first l first) (one_atom t a h e) (added_old first a k)

pub own_new : (first : List Term) (t a : Term) → is_atom t ≡ true → a ≡ atom_of t → (Contains first a → ⊥) → AreAdded first (own_atom t) (first ++ a ∷ [])
own_new first t a h e k = subst (λ l. AreAdded first l (first ++ a ∷ [])) (one_atom t a h e) (added_new first a k)

pub counted : (ts all : List Term) → AreAdded [] ts all → IsCount ts (length all)
counted ts all a = record {
  once = all;
  distinct = a.distinct (λ i j d l k. absurd (omega arith));
  from = a.from;
  within = a.within;
  number = refl;
}

-- the atoms of a term, and of terms one after another

pub added_parts : (first mid all : List Term) (t : Term) (args : List Term) → args ≡ reached (reach_of (out-Term t).head) (out-Term t).args
    → AreAdded first (own_atom t) mid → AreAdded mid (flat_map term_atoms args) all → AreAdded first (term_atoms t) all
added_parts first mid all t args e a c =
    let q : own_atom t ++ flat_map term_atoms args ≡ term_atoms t = ap (λ l. own_atom t ++ flat_map term_atoms l) e ∙ sym (atoms_out t) in
    subst (λ l. AreAdded first l all) q (added_more first (own_atom t) (flat_map term_atoms args) mid all a c)

pub added_next : (first mid all ts : List Term) (i : ℕ) (t : Term) → i < length ts → t ≡ get_or ts i t → AreAdded first (flat_map term_atoms (take i ts)) mid → AreAdded mid (term_atoms t) all → AreAdded first (flat_map term_atoms (take (i + 1) ts)) all
added_next first mid all ts i t l e a c =
    let q : flat_map term_atoms (take i ts) ++ term_atoms t ≡ flat_map term_atoms (take (i + 1) ts) =
    ap (λ x. flat_map term_atoms (take i ts) ++ x) (sym (append-nil (term_atoms t)))
    ∙ sym (flat_map-append term_atoms (take i ts) (t ∷ []))
    ∙ ap (λ x. flat_map term_atoms (take i ts ++ x ∷ [])) e
    ∙ sym (ap (flat_map term_atoms) (take_more ts i t l)) in
    subst (λ l. AreAdded first l all) q (added_more first (flat_map term_atoms (take i ts)) (term_atoms t) mid all a c)

pub added_all : (first all ts : List Term) (i : ℕ) → length ts ≤ i → AreAdded first (flat_map term_atoms (take i ts)) all → AreAdded first (flat_map term_atoms ts) all
added_all first all ts i h a = subst (λ l. AreAdded first (flat_map term_atoms l) all) (take_all i ts h) a

pub counted_leaf : (hyps mid all : List Term) (t : Term) → AreAdded [] (flat_map term_atoms hyps) mid → AreAdded mid (term_atoms t) all → IsCount (flat_map term_atoms hyps ++ term_atoms t) (length all)
counted_leaf hyps mid all t a b = counted (flat_map term_atoms hyps ++ term_atoms t) all (added_more [] (flat_map term_atoms hyps) (term_atoms t) mid all a b)
