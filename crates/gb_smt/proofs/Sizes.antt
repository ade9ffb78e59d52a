-- The number of assignments to variables that are bound in terms.
use Rattle.std.proofs.Common.{◌≡◌, ℕ, zero, suc, Option, Some, None, ◌+◌, ◌*◌, ◌^◌, ◌<◌, Bool, true, false, ◌&&◌, ◌==◌, if◌then◌else◌, min, List, [], ◌∷◌, ◌++◌, length, get_or, map, take, refl, sym, ap, ◌∙◌, append-nil}
use Rattle.std.specs.List.{flat_map, list_all}
use Rattle.std.proofs.lemmas.Bool.{false≢true, and_parts}
use Rattle.std.proofs.lemmas.List.{take_more}
use Rattle.std.proofs.lemmas.List.Concat.{flat_map-append}
use Rattle.gb_core.specs.declared.ty.Ty.{Ty}
use Rattle.gb_core.specs.declared.ty.Ty.TheVariants.{Mod, rolls-Mod}
use Rattle.gb_core.specs.declared.ty.Ty.TheOpen as t
use Rattle.gb_core.specs.declared.ty.Ty.TheFolds.{fold-roll-Ty}
use Rattle.gb_core.specs.Types.{finite_step, is_finite}
use Rattle.gb_terms.specs.declared.op.Side.TheVariants.{Own, Left, Right, Memory, Bound}
use Rattle.gb_terms.specs.declared.op.Read.TheVariants.{Logical, Program}
use Rattle.gb_terms.specs.declared.term.Term.{Term, Term', Row_of-Term, end_of-Term, more_of-Term, end_of-Head, more_of-Head}
use Rattle.gb_terms.specs.declared.term.Head.{Head}
use Rattle.gb_terms.specs.declared.term.Head.TheVariants as head
use Rattle.gb_terms.specs.declared.term.Head.TheViews.{out-Term}
use Rattle.gb_meaning.specs.Operators.{outcome_type}
use Rattle.gb_meaning.specs.Written.{type_of}
use Rattle.gb_laws.specs.Typing.{types_of}
use Rattle.gb_goal.specs.Scope.{Declarations}
use Rattle.gb_meaning.specs.Names.{Name}
use Rattle.gb_eval.specs.Script.{body_named, made_of}
use Rattle.gb_eval.specs.Known.{is_known, all_known, is_head_known, known_at, known_of, are_true}
use Rattle.gb_equality.proofs.Products.{product, are_finite, product_both, card_by, card_of_types}
use Rattle.gb_equality.specs.Sizes.{Tys, of_memory, read_by_only}
use Rattle.gb_smt.specs.declared.claims.Claim.{Claim}
use Rattle.gb_walk.specs.Layers.{seen_by, where_last}
use Rattle.gb_labels.specs.Reads as reads
use Rattle.gb_smt.specs.Width.{only_reads, bound_at, bound_by, bound_of, bound_types, all_bound, types_in, assignments_of, is_known_claim}
use Rattle.gb_smt.proofs.Layers.{bound_out}
use mathlib.Core.Former.{Count}

module _ (bs : Name → Tys) where
  pub product_bound_more : (ts : List Term) (i : ℕ) (t : Term) (x y z : ℕ) → i < length ts → t ≡ get_or ts i t → x ≡ min (product (flat_map (bound_types bs) (take i ts))) (2 ^ 63) → y ≡ min (product (bound_types bs t)) (2 ^ 63) → z ≡ min (x * y) (2 ^ 63) → z ≡ min (product (flat_map (bound_types bs) (take (i + 1) ts))) (2 ^ 63)
  product_bound_more ts i t x y z l e p q r =
      product_both (flat_map (bound_types bs) (take i ts)) (bound_types bs t) x y z p q r
      ∙ ap (λ us. min (product (flat_map (bound_types bs) (take i ts) ++ us)) (2 ^ 63)) (sym (append-nil (bound_types bs t)))
      ∙ ap (λ us. min (product us) (2 ^ 63)) (sym (flat_map-append (bound_types bs) (take i ts) (t ∷ [])))
      ∙ ap (λ u. min (product (flat_map (bound_types bs) (take i ts ++ u ∷ []))) (2 ^ 63)) e
      ∙ ap (λ us. min (product (flat_map (bound_types bs) us)) (2 ^ 63)) (sym (take_more ts i t l))

  pub product_bound : (t : Term) (h : Head) (args : List Term) (x w y v z : ℕ) → h ≡ (out-Term t).head → args ≡ (out-Term t).args → x ≡ min (product (bound_by bs h (map type_of args))) (2 ^ 63) → w ≡ min (product (of_memory h (read_by_only args))) (2 ^ 63) → y ≡ min (product (flat_map (bound_types bs) args)) (2 ^ 63) →
      v ≡ min (w * y) (2 ^ 63) → z ≡ min (x * v) (2 ^ 63) → z ≡ min (product (bound_types bs t)) (2 ^ 63)
  product_bound t h args x w y v z p q a m b c r =
      product_both (bound_by bs h (map type_of args)) (of_memory h (read_by_only args) ++ flat_map (bound_types bs) args) x v z a
      (product_both (of_memory h (read_by_only args)) (flat_map (bound_types bs) args) w y v m b c) r
      ∙ (λ i. min (product (bound_by bs (p i) (map type_of (q i)) ++ (of_memory (p i) (read_by_only (q i)) ++ flat_map (bound_types bs) (q i)))) (2 ^ 63))
      ∙ ap (λ us. min (product us) (2 ^ 63)) (sym (bound_out bs t))

-- in a term that evaluation knows, the types of bound variables are finite

finite-append : (xs ys : List Ty) → are_finite (xs ++ ys) ≡ (are_finite xs && are_finite ys)
finite-append [] ys = refl
finite-append (x ∷ xs) ys = ap (λ b. is_finite x && b) (finite-append xs ys) ∙ and_assoc (is_finite x) (are_finite xs) (are_finite ys)
  where
    and_assoc : (a b c : Bool) → (a && (b && c)) ≡ ((a && b) && c)
    and_assoc true b c = refl
    and_assoc false b c = refl

finite_both : (xs ys : List Ty) → are_finite xs ≡ true → are_finite ys ≡ true → are_finite (xs ++ ys) ≡ true
finite_both xs ys p q = finite-append xs ys ∙ (λ i. p i && q i)

one_finite : (n : Bool) (ty : Ty) → (n && is_finite ty) ≡ true → are_finite (ty ∷ []) ≡ true
one_finite n ty h = ap (λ b. b && true) (and_parts n (is_finite ty) h).1

finite-Mod : (q : ℕ) → are_finite (Mod q ∷ []) ≡ true
finite-Mod q = ap (λ b. b && true) (ap is_finite (sym (rolls-Mod q)) ∙ fold-roll-Ty Bool finite_step (t.Mod q))

-- the types at which a term that is known reads a memory that is bound are finite

types_together : (xs ys : reads.Vars) → map (λ x. x.ty) (xs ++ ys) ≡ map (λ x. x.ty) xs ++ map (λ x. x.ty) ys
types_together [] ys = refl
types_together (x ∷ xs) ys = ap (λ l. x.ty ∷ l) (types_together xs ys)

abbrev AtFinite : reads.Vars → Type 0
AtFinite xs = are_finite (map (λ x. x.ty) xs) ≡ true

both_at_finite : (xs ys : reads.Vars) → AtFinite xs → AtFinite ys → AtFinite (xs ++ ys)
both_at_finite xs ys p q = ap are_finite (types_together xs ys) ∙ finite_both (map (λ x. x.ty) xs) (map (λ x. x.ty) ys) p q

noted_at_finite : (xs ys : reads.Vars) → AtFinite xs → AtFinite ys → AtFinite (reads.noted xs ys)
noted_at_finite xs [] p q = p
noted_at_finite xs (y ∷ ys) p q =
    let both = and_parts (is_finite y.ty) (are_finite (map (λ x. x.ty) ys)) q in
    noted_at_finite (reads.with_new xs y) ys (new (reads.is_among xs y.var y.ty) both.0) both.1
  where
    new : (b : Bool) → is_finite y.ty ≡ true → AtFinite (if b then xs else xs ++ y ∷ [])
    new true f = p
    new false f = both_at_finite xs (y ∷ []) p (ap (λ b. b && true) f)

module _ (ks : Name → Bool) where
  own_read : (h : Head) (ty : Ty) (k : ℕ) (us : List Ty) → is_head_known ks h ty us ≡ true → AtFinite (reads.head_reads h ty k)
  own_read (head.Read (Program x (Bound i))) ty k us h = one (i == k) (and_parts (length us == 0) (is_finite ty) h).1
    where
      one : (b : Bool) → is_finite ty ≡ true → AtFinite (if b then record { var = x; ty = ty } ∷ [] else [])
      one true f = ap (λ b. b && true) f
      one false f = refl
  own_read (head.Read (Program x Own)) ty k us h = refl
  own_read (head.Read (Program x Left)) ty k us h = refl
  own_read (head.Read (Program x Right)) ty k us h = refl
  own_read (head.Read (Program x (Memory i))) ty k us h = refl
  own_read (head.Read (Logical i)) ty k us h = refl
  own_read _ ty k us h = refl

  mutual
    reads_at_finite : (t : Term) (k : ℕ) → is_known ks t ≡ true → AtFinite (reads.reads_at t k)
    reads_at_finite (Term' p (more_of-Head h end_of-Head) n r ty) k e =
        let q = and_parts (is_head_known ks h ty (types_of r)) (are_true (all_known ks r)) e in
        both_at_finite (reads.head_reads h ty k) (reads.joined (seen_by k (reads.inside h k) (reads.each_reads r))) (own_read h ty k (types_of r) q.0) (row_reads_finite r k (reads.inside h k) q.1)

    row_reads_finite : {n : Count} (r : Row_of-Term n) (y z : ℕ) → are_true (all_known ks r) ≡ true → AtFinite (reads.joined (seen_by y z (reads.each_reads r)))
    row_reads_finite end_of-Term y z e = refl
    row_reads_finite (more_of-Term t r) y z e =
        let q = and_parts (is_known ks t) (are_true (all_known ks r)) e in
        both_at_finite (reads.reads_at t (where_last (reads.each_reads r) y z)) (reads.joined (seen_by y z (reads.each_reads r))) (reads_at_finite t (where_last (reads.each_reads r) y z) q.0) (row_reads_finite r y z q.1)

  only_finite : {n : Count} (r : Row_of-Term n) → are_true (all_known ks r) ≡ true → are_finite (only_reads r) ≡ true
  only_finite end_of-Term e = refl
  only_finite (more_of-Term t end_of-Term) e = noted_at_finite [] (reads.reads_at t 0) refl (reads_at_finite t 0 (and_parts (is_known ks t) true e).0)
  only_finite (more_of-Term t (more_of-Term u r)) e = refl

  memory_finite : {n : Count} (h : Head) (r : Row_of-Term n) → are_true (all_known ks r) ≡ true → are_finite (of_memory h (only_reads r)) ≡ true
  memory_finite head.AllMemory r e = only_finite r e
  memory_finite head.SomeMemory r e = only_finite r e
  memory_finite _ r e = refl

module _ (ks : Name → Bool) (bs : Name → Tys) (fit : (n : Name) → ks n ≡ true → are_finite (bs n) ≡ true) where
  head_finite : (h : Head) (ty : Ty) (us : List Ty) → is_head_known ks h ty us ≡ true → are_finite (bound_by bs h us) ≡ true
  head_finite (head.User n) ty us k = fit n k
  head_finite (head.All u) ty us k = one_finite _ u k
  head_finite (head.Some u) ty us k = one_finite _ u k
  head_finite (head.Sum q) ty us k = finite-Mod q
  head_finite head.Mu ty (d ∷ a ∷ []) k = one_finite _ (outcome_type d) k
  head_finite head.Map ty (d ∷ a ∷ []) k = one_finite _ (outcome_type d) k
  head_finite head.Restrict ty (d ∷ a ∷ []) k = one_finite _ (outcome_type d) k
  head_finite head.Mu ty us k = absurd (false≢true k)
  head_finite head.Restrict ty us k = absurd (false≢true k)
  head_finite head.Map ty us k = absurd (false≢true k)
  head_finite _ ty us k = refl

  mutual
    term_finite : (t : Term) → is_known ks t ≡ true → are_finite (bound_types bs t) ≡ true
    term_finite (Term' p (more_of-Head h end_of-Head) n r ty) k =
        let q = and_parts (is_head_known ks h ty (types_of r)) (are_true (all_known ks r)) k in
        finite_both (bound_by bs h (types_of r)) (of_memory h (only_reads r) ++ all_bound bs r) (head_finite h ty (types_of r) q.0)
        (finite_both (of_memory h (only_reads r)) (all_bound bs r) (memory_finite ks h r q.1) (row_finite r q.1))

    row_finite : {n : Count} (r : Row_of-Term n) → are_true (all_known ks r) ≡ true → are_finite (all_bound bs r) ≡ true
    row_finite end_of-Term k = refl
    row_finite (more_of-Term t r) k =
        let q = and_parts (is_known ks t) (are_true (all_known ks r)) k in
        finite_both (bound_types bs t) (all_bound bs r) (term_finite t q.0) (row_finite r q.1)

  terms_finite : (ts : List Term) → list_all (is_known ks) ts ≡ true → are_finite (flat_map (bound_types bs) ts) ≡ true
  terms_finite [] k = refl
  terms_finite (t ∷ ts) k =
      let q = and_parts (is_known ks t) (list_all (is_known ks) ts) k in
      finite_both (bound_types bs t) (flat_map (bound_types bs) ts) (term_finite t q.0) (terms_finite ts q.1)

opened_finite : (ds : Declarations) (k : ℕ) → ((n : Name) → known_at ds k n ≡ true → are_finite (bound_at ds k n) ≡ true) →
    (o : Option Term) → made_of false (is_known (known_at ds k)) o ≡ true → are_finite (made_of [] (bound_types (bound_at ds k)) o) ≡ true
opened_finite ds k fit None h = absurd (false≢true h)
opened_finite ds k fit (Some t) h = term_finite (known_at ds k) (bound_at ds k) fit t h

names_finite : (ds : Declarations) (k : ℕ) (n : Name) → known_at ds k n ≡ true → are_finite (bound_at ds k n) ≡ true
names_finite ds zero n h = absurd (false≢true h)
names_finite ds (suc k) n h = opened_finite ds k (names_finite ds k) (body_named ds n) h

-- the number of assignments to the variables of a claim that evaluation knows, and to those bound in it
pub card_of_claim : (ds : Declarations) (c : Claim) (hyps : List Term) (b : Bool) (v h u m n : ℕ) → is_known_claim ds c ≡ true → hyps ≡ c.hyps → b ≡ are_finite (map (λ w. w.ty) c.variables) → v ≡ min (product (map (λ w. w.ty) c.variables)) (2 ^ 63) → h ≡ min (product (flat_map (bound_types (bound_of ds)) hyps)) (2 ^ 63) → u ≡ min (product (bound_types (bound_of ds) c.conclusion)) (2 ^ 63) → m ≡ min (h * u) (2 ^ 63) → n ≡ min (v * m) (2 ^ 63) → card_by b n ≡ assignments_of ds c
card_of_claim ds c hyps b v h u m n k e f p q r s z =
    let known = and_parts (list_all (is_known (known_of ds)) c.hyps) (is_known (known_of ds) c.conclusion) k in
    let one = bound_types (bound_of ds) in
    let bound = flat_map one c.hyps ++ one c.conclusion in
    let bound_finite : are_finite bound ≡ true =
    finite_both (flat_map one c.hyps) (one c.conclusion) (terms_finite (known_of ds) (bound_of ds) (names_finite ds (length ds)) c.hyps known.0) (term_finite (known_of ds) (bound_of ds) (names_finite ds (length ds)) c.conclusion known.1) in
    let finite : b ≡ are_finite (types_in ds c) =
    f ∙ sym (and_true (are_finite (map (λ w. w.ty) c.variables))) ∙ sym (ap (λ x. are_finite (map (λ w. w.ty) c.variables) && x) bound_finite) ∙ sym (finite-append (map (λ w. w.ty) c.variables) bound) in
    card_of_types (types_in ds c) b n finite
    (product_both (map (λ w. w.ty) c.variables) bound v m n p (product_both (flat_map one c.hyps) (one c.conclusion) h u m (q ∙ ap (λ l. min (product (flat_map one l)) (2 ^ 63)) e) r s) z)
  where
    and_true : (x : Bool) → (x && true) ≡ x
    and_true true = refl
    and_true false = refl
