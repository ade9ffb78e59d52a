-- A term is among its own parts, and so are its arguments.
use Rattle.std.proofs.Common.{◌≡◌, ◌⊎◌, inl, inr, ℕ, zero, suc, ◌<◌, List, [], ◌∷◌, ◌++◌, length, flat_map, refl, sym, ap, ◌∙◌, subst, arith}
use Rattle.std.specs.List.{Contains}
use Rattle.std.proofs.lemmas.List.Elements.{Contains-append_left, Contains-append_right, Contains-append_cases, Contains-push}
use Rattle.gb_terms.specs.declared.term.Term.{Term, Term', Row_of-Term, end_of-Term, more_of-Term, end_of-Head, more_of-Head}
use Rattle.gb_equality.specs.declared.parts.Reach.{Reach}
use Rattle.gb_equality.specs.declared.parts.Reach.TheVariants as Reaches
use Rattle.gb_equality.specs.Parts.{reach_of, arguments_of, inner_parts, parts_of, row_parts, front_parts, terms_in}
use Rattle.gb_equality.proofs.Rows.{parts_out}

pub none : {X : Type 0} (x : X) → Contains [] x → ⊥
none x h = omega (arith, h.1)

pub only : {X : Type 0} (y x : X) → Contains (y ∷ []) x → y ≡ x
only y x (zero, l, e) = e
only y x (suc k, l, e) = absurd (omega (arith, l))

pub either : {P : Type 0} (ts us : List Term) (u : Term) → (Contains ts u → P) → (Contains us u → P) → Contains ts u ⊎ Contains us u → P
either ts us u f g (inl k) = f k
either ts us u f g (inr k) = g k

pub itself : (t : Term) → Contains (parts_of t) t
itself t = subst (λ l. Contains l t) (sym (parts_out t)) (Contains-push (flat_map parts_of (arguments_of t)) t)

in_listed : (ts : List Term) (a u : Term) → Contains ts a → Contains (parts_of a) u → Contains (flat_map parts_of ts) u
in_listed [] a u k l = absurd (none a k)
in_listed (t ∷ ts) a u (zero, m, e) l = Contains-append_left (parts_of t) (flat_map parts_of ts) u (subst (λ x. Contains (parts_of x) u) (sym e) l)
in_listed (t ∷ ts) a u (suc k, m, e) l = Contains-append_right (parts_of t) (flat_map parts_of ts) u (in_listed ts a u (k, omega (arith, m), e) l)

own_argument : (t a : Term) → Contains (arguments_of t) a → Contains (parts_of t) a
own_argument t a k =
    subst (λ l. Contains l a) (sym (parts_out t)) (Contains-append_left (flat_map parts_of (arguments_of t)) (t ∷ []) a (in_listed (arguments_of t) a a k (itself a)))

inner_argument : (x : Reach) (all front : List Term) (u a : Term) → (Contains all u → Contains all a) → (Contains front u → Contains front a) →
    Contains (inner_parts x all front) u → Contains (inner_parts x all front) a
inner_argument Reaches.Nothing all front u a f g k = absurd (none u k)
inner_argument Reaches.Front all front u a f g k = g k
inner_argument Reaches.All all front u a f g k = f k

mutual
  part_argument : (t u a : Term) → Contains (parts_of t) u → Contains (arguments_of u) a → Contains (parts_of t) a
  part_argument (Term' p (more_of-Head h end_of-Head) n r ty) u a k m =
      either (inner_parts (reach_of h) (row_parts r) (front_parts r)) (Term' p (more_of-Head h end_of-Head) n r ty ∷ []) u
      (λ i. Contains-append_left (inner_parts (reach_of h) (row_parts r) (front_parts r)) (Term' p (more_of-Head h end_of-Head) n r ty ∷ []) a
      (inner_argument (reach_of h) (row_parts r) (front_parts r) u a (λ j. row_argument r u a j m) (λ j. front_argument r u a j m) i))
      (λ i. own_argument (Term' p (more_of-Head h end_of-Head) n r ty) a (subst (λ x. Contains (arguments_of x) a) (sym (only (Term' p (more_of-Head h end_of-Head) n r ty) u i)) m))
      (Contains-append_cases (inner_parts (reach_of h) (row_parts r) (front_parts r)) (Term' p (more_of-Head h end_of-Head) n r ty ∷ []) u k)

  row_argument : {n : _} (r : Row_of-Term n) (u a : Term) → Contains (row_parts r) u → Contains (arguments_of u) a → Contains (row_parts r) a
  row_argument end_of-Term u a k m = absurd (none u k)
  row_argument (more_of-Term t r) u a k m =
      either (parts_of t) (row_parts r) u
      (λ i. Contains-append_left (parts_of t) (row_parts r) a (part_argument t u a i m))
      (λ i. Contains-append_right (parts_of t) (row_parts r) a (row_argument r u a i m))
      (Contains-append_cases (parts_of t) (row_parts r) u k)

  front_argument : {n : _} (r : Row_of-Term n) (u a : Term) → Contains (front_parts r) u → Contains (arguments_of u) a → Contains (front_parts r) a
  front_argument end_of-Term u a k m = absurd (none u k)
  front_argument (more_of-Term t end_of-Term) u a k m = absurd (none u k)
  front_argument (more_of-Term t (more_of-Term v r)) u a k m =
      either (parts_of t) (front_parts (more_of-Term v r)) u
      (λ i. Contains-append_left (parts_of t) (front_parts (more_of-Term v r)) a (part_argument t u a i m))
      (λ i. Contains-append_right (parts_of t) (front_parts (more_of-Term v r)) a (front_argument (more_of-Term v r) u a i m))
      (Contains-append_cases (parts_of t) (front_parts (more_of-Term v r)) u k)

listed_argument : (ts : List Term) (u a : Term) → Contains (flat_map parts_of ts) u → Contains (arguments_of u) a → Contains (flat_map parts_of ts) a
listed_argument [] u a k m = absurd (none u k)
listed_argument (t ∷ ts) u a k m =
    either (parts_of t) (flat_map parts_of ts) u
    (λ i. Contains-append_left (parts_of t) (flat_map parts_of ts) a (part_argument t u a i m))
    (λ i. Contains-append_right (parts_of t) (flat_map parts_of ts) a (listed_argument ts u a i m))
    (Contains-append_cases (parts_of t) (flat_map parts_of ts) u k)

-- the terms of a leaf: with a term there are its arguments, and its hypotheses and its conclusion are among them
pub argument_there : (hyps : List Term) (t u a : Term) → Contains (terms_in hyps t) u → Contains (arguments_of u) a → Contains (terms_in hyps t) a
argument_there hyps t u a k m =
    either (flat_map parts_of hyps) (parts_of t) u
    (λ i. Contains-append_left (flat_map parts_of hyps) (parts_of t) a (listed_argument hyps u a i m))
    (λ i. Contains-append_right (flat_map parts_of hyps) (parts_of t) a (part_argument t u a i m))
    (Contains-append_cases (flat_map parts_of hyps) (parts_of t) u k)

pub hypothesis_there : (hyps : List Term) (t h : Term) → Contains hyps h → Contains (terms_in hyps t) h
hypothesis_there hyps t h k = Contains-append_left (flat_map parts_of hyps) (parts_of t) h (in_listed hyps h h k (itself h))

pub conclusion_there : (hyps : List Term) (t : Term) → Contains (terms_in hyps t) t
conclusion_there hyps t = Contains-append_right (flat_map parts_of hyps) (parts_of t) t (itself t)
