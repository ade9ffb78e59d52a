-- Rows of the table.
use Rattle.std.proofs.Common.{◌≡◌, ◌≢◌, ℕ, zero, suc, ◌+◌, ◌<◌, ◌≤◌, ◌⊎◌, inl, inr, List, [], ◌∷◌, ◌++◌, map, take, drop, pred, length, get_or, slice_get, Some, Result, Ok, Err, IfOk, flat_map, refl, sym, ap, ◌∙◌, subst, append-nil, append_assoc, take-append-drop, arith}
use Rattle.std.specs.List.{AllPairs, Contains}
use Rattle.std.proofs.lemmas.Bool.{cases_order}
use Rattle.std.proofs.lemmas.List.{map-append, take_all, take_more, flat_map_more}
use Rattle.std.specs.declared.alloc.AllocError.{AllocError}
use Rattle.gb_core.specs.declared.ty.Ty.{Ty}
use Rattle.gb_terms.specs.declared.term.Term.{Term, Term', Row_of-Term, end_of-Term, more_of-Term, end_of-Head, more_of-Head, roll-Term, items-the_row-Term, items_shown-the_row-Term-0}
use Rattle.gb_terms.specs.declared.term.Head.TheViews.{out-Term, outs-struct-Term, roll-out-Term}
use Rattle.gb_terms.specs.declared.term.Head.{Head}
use Rattle.gb_equality.specs.declared.parts.Reach.{Reach}
use Rattle.gb_equality.specs.declared.parts.Reach.TheVariants as Reaches
use Rattle.gb_equality.specs.declared.table.Node.{Node}
use Rattle.gb_equality.specs.Parts.{reach_of, reached, kept, arguments_of, Operator, operator_of, inner_parts, parts_of, row_parts, front_parts, with_term, noted}
use Rattle.gb_equality.specs.Table.{terms, StandAt, IsTable, IsAdded, IsTableOf}
use Rattle.gb_equality.proofs.Places.{at_place, place_within, place_contains, place_mapped, place_of_image, place_appended, place_last, place_pushed, some_same}
use Rattle.gb_equality.proofs.Once.{noted_append, noted_front, with_old, with_new, one_place, once_more}

-- the terms in a term, from those in its arguments

parts_row : (n : _) (r : Row_of-Term n) → row_parts r ≡ flat_map parts_of (items-the_row-Term n r)
parts_row n end_of-Term = refl
parts_row n (more_of-Term t r) = ap (λ l. parts_of t ++ l) (parts_row _ r)

front_row : (n : _) (r : Row_of-Term n) → front_parts r ≡ flat_map parts_of (take (pred (length (items-the_row-Term n r))) (items-the_row-Term n r))
front_row n end_of-Term = refl
front_row n (more_of-Term t end_of-Term) = refl
front_row n (more_of-Term t (more_of-Term u r)) = ap (λ l. parts_of t ++ l) (front_row _ (more_of-Term u r))

inner : (x : Reach) (all front items : _) → all ≡ flat_map parts_of items → front ≡ flat_map parts_of (take (pred (length items)) items)
    → inner_parts x all front ≡ flat_map parts_of (reached x items)
inner Reaches.Nothing all front items e f = refl
inner Reaches.Front all front items e f = f
inner Reaches.All all front items e f = e

pub parts_out : (t : Term) → parts_of t ≡ flat_map parts_of (arguments_of t) ++ t ∷ []
unfolding Rattle.gb_terms.specs.declared.term.Head.TheBlock.shown-the_row-Head-2 denote.Hole.Carrier.shown
parts_out (Term' p (more_of-Head h end_of-Head) n r ty) =
    ap (λ l. l ++ Term' p (more_of-Head h end_of-Head) n r ty ∷ [])
    (inner (reach_of h) (row_parts r) (front_parts r) (items-the_row-Term _ r) (parts_row _ r) (front_row _ r) ∙ sym (ap (λ l. flat_map parts_of (reached (reach_of h) l)) (items_shown-the_row-Term-0 n r)))
    ∙ sym (ap (λ z. flat_map parts_of (reached (reach_of z.head) z.args) ++ Term' p (more_of-Head h end_of-Head) n r ty ∷ []) (outs-struct-Term p (more_of-Head h end_of-Head) n r ty))

-- a term is its operator at its arguments

split : (x : Reach) (ts : List Term) → reached x ts ++ kept x ts ≡ ts
split Reaches.Nothing ts = refl
split Reaches.Front ts = take-append-drop (pred (length ts)) ts
split Reaches.All ts = append-nil ts

abbrev pub made_of : Operator → List Term → Term
made_of o ts = roll-Term (record { head = o.head; args = ts ++ o.kept; ty = o.ty })

remade : (t : Term) → made_of (operator_of t) (arguments_of t) ≡ t
remade t =
    ap (λ ts. roll-Term (record { head = (out-Term t).head; args = ts; ty = (out-Term t).ty })) (split (reach_of (out-Term t).head) (out-Term t).args)
    ∙ roll-out-Term t

pub one_term : (t u : Term) → operator_of t ≡ operator_of u → arguments_of t ≡ arguments_of u → t ≡ u
one_term t u o a = sym (remade t) ∙ ap (λ x. made_of x (arguments_of t)) o ∙ ap (made_of (operator_of u)) a ∙ remade u

-- places at which terms stand

pub stand_in_more : (ts more us : List Term) (ps : List ℕ) → StandAt ts ps us → StandAt (ts ++ more) ps us
stand_in_more ts more [] [] e = refl
stand_in_more ts more [] (p ∷ ps) e = cc
stand_in_more ts more (u ∷ us) [] e = cc
stand_in_more ts more (u ∷ us) (p ∷ ps) e =
    let a : slice_get ts p ≡ Some u = cc in
    let b : map (slice_get ts) ps ≡ map Some us = cc in
    let c = place_appended ts more p u a in
    let d = stand_in_more ts more us ps b in
    cc

pub stand_noted : (ts more us : List Term) (ps : List ℕ) → StandAt ts ps us → StandAt (noted ts more) ps us
stand_noted ts more us ps h = subst (λ l. StandAt l ps us) (sym (noted_front ts more).1) (stand_in_more ts (noted_front ts more).0 us ps h)

pub place_noted : (ts more : List Term) (p : ℕ) (u : Term) → slice_get ts p ≡ Some u → slice_get (noted ts more) p ≡ Some u
place_noted ts more p u h = subst (λ l. slice_get l p ≡ Some u) (sym (noted_front ts more).1) (place_appended ts (noted_front ts more).0 p u h)

pub stand_push : (ts us : List Term) (ps : List ℕ) (p : ℕ) (u : Term) → StandAt ts ps us → slice_get ts p ≡ Some u → StandAt ts (ps ++ p ∷ []) (us ++ u ∷ [])
stand_push ts us ps p u h e =
    map-append (slice_get ts) ps (p ∷ []) ∙ ap (λ l. l ++ slice_get ts p ∷ []) h ∙ ap (λ x. map Some us ++ x ∷ []) e ∙ sym (map-append Some us (u ∷ []))

pub same_places : (ts : List Term) → AllPairs (λ t u. t ≢ u) ts → (us : List Term) (ps qs : List ℕ) → StandAt ts ps us → StandAt ts qs us → ps ≡ qs
same_places ts o [] [] [] e f = refl
same_places ts o [] [] (q ∷ qs) e f = cc
same_places ts o [] (p ∷ ps) qs e f = cc
same_places ts o (u ∷ us) [] qs e f = cc
same_places ts o (u ∷ us) (p ∷ ps) [] e f = cc
same_places ts o (u ∷ us) (p ∷ ps) (q ∷ qs) e f =
    let a : slice_get ts p ≡ Some u = cc in
    let b : slice_get ts q ≡ Some u = cc in
    let x : map (slice_get ts) ps ≡ map Some us = cc in
    let y : map (slice_get ts) qs ≡ map Some us = cc in
    let c = one_place ts o u p q a b in
    let d = same_places ts o us ps qs x y in
    cc

same_listed : (us vs : List Term) → map Some us ≡ map Some vs → us ≡ vs
same_listed [] [] e = refl
same_listed [] (v ∷ vs) e = cc
same_listed (u ∷ us) [] e = cc
same_listed (u ∷ us) (v ∷ vs) e =
    let a : u ≡ v = cc in
    let b : map Some us ≡ map Some vs = cc in
    let c = same_listed us vs b in
    cc

-- A row of this operator with these places of arguments is that of the term; another one isn't.

module _ (nodes : List Node) (h : IsTable nodes) (t : Term) (args : List ℕ) (stand : StandAt (terms nodes) args (arguments_of t)) (i : ℕ) (n : Node) (at : slice_get nodes i ≡ Some n) where
  pub row_found : n.args ≡ args → operator_of n.term ≡ operator_of t → slice_get (terms nodes) i ≡ Some t
  row_found e o =
      place_mapped (λ m. m.term) nodes i n at
      ∙ ap Some (one_term n.term t o (same_listed (arguments_of n.term) (arguments_of t) (sym (h.arguments i n at) ∙ ap (map (slice_get (terms nodes))) e ∙ stand)))

  pub row_has_args : n.term ≡ t → n.args ≡ args
  row_has_args e =
      same_places (terms nodes) h.once (arguments_of t) n.args args (h.arguments i n at ∙ ap (λ u. map Some (arguments_of u)) e) stand

-- none of the first rows has the term
abbrev pub NoneBefore : List Node → Term → ℕ → Type 0
NoneBefore nodes t i = (k : ℕ) (n : Node) → k < i → slice_get nodes k ≡ Some n → n.term ≢ t

pub none_more : (nodes : List Node) (t : Term) (i : ℕ) (n : Node) → slice_get nodes i ≡ Some n → n.term ≢ t → NoneBefore nodes t i → NoneBefore nodes t (i + 1)
none_more nodes t i n e d h k m l f = by_case (cases_order k i)
  where
    by_case : (k ≡ i) ⊎ ((k < i) ⊎ (i < k)) → m.term ≢ t
    by_case (inl q) = subst (λ x. x.term ≢ t) (some_same n m (sym e ∙ ap (slice_get nodes) (sym q) ∙ f)) d
    by_case (inr (inl q)) = h k m q f
    by_case (inr (inr q)) = absurd (omega (arith, l, q))

pub none_there : (nodes : List Node) (t : Term) → NoneBefore nodes t (length nodes) → Contains (terms nodes) t → ⊥
none_there nodes t h c =
    let k = place_of_image (λ n. n.term) nodes c.0 t (at_place (terms nodes) c.0 t c.1 (sym c.2)) in
    h c.0 k.0 (place_within nodes c.0 k.0 k.1) k.1 k.2

pub none_before_all : (nodes : List Node) (t : Term) (i : ℕ) → length nodes ≤ i → NoneBefore nodes t i → Contains (terms nodes) t → ⊥
none_before_all nodes t i l h c = none_there nodes t (λ k n m e. h k n (omega (arith, m, l)) e) c

-- tables with a row more

row_old_or_new : (nodes : List Node) (new : Node) → IsTable nodes → StandAt (terms nodes) new.args (arguments_of new.term) → (i : ℕ) (n : Node) → (slice_get nodes i ≡ Some n) ⊎ (new ≡ n) →
    StandAt (terms (nodes ++ new ∷ [])) n.args (arguments_of n.term)
row_old_or_new nodes new h s i n (inl e) =
    subst (λ l. StandAt l n.args (arguments_of n.term)) (sym (map-append (λ m. m.term) nodes (new ∷ []))) (stand_in_more (terms nodes) (new.term ∷ []) (arguments_of n.term) n.args (h.arguments i n e))
row_old_or_new nodes new h s i n (inr e) =
    subst (λ m. StandAt (terms (nodes ++ new ∷ [])) m.args (arguments_of m.term)) e
    (subst (λ l. StandAt l new.args (arguments_of new.term)) (sym (map-append (λ m. m.term) nodes (new ∷ []))) (stand_in_more (terms nodes) (new.term ∷ []) (arguments_of new.term) new.args s))

pub row_added : (nodes : List Node) (new : Node) → IsTable nodes → StandAt (terms nodes) new.args (arguments_of new.term) → (Contains (terms nodes) new.term → ⊥) → IsAdded nodes (new.term ∷ []) (nodes ++ new ∷ [])
row_added nodes new h s n = record {
  table = record {
    once = subst (AllPairs (λ t u. t ≢ u)) (sym (map-append (λ m. m.term) nodes (new ∷ []))) (once_more (terms nodes) new.term h.once n);
    arguments = λ i m e. row_old_or_new nodes new h s i m (place_pushed nodes new i m e);
  };
  added = map-append (λ m. m.term) nodes (new ∷ []) ∙ sym (with_new (terms nodes) new.term n);
}

pub row_there : (nodes : List Node) (t : Term) (i : ℕ) → IsTable nodes → slice_get (terms nodes) i ≡ Some t → IsAdded nodes (t ∷ []) nodes
row_there nodes t i h e = record { table = h; added = sym (with_old (terms nodes) t (place_contains (terms nodes) i t e)) }

pub row_place : (nodes : List Node) (new : Node) → slice_get (terms (nodes ++ new ∷ [])) (length nodes) ≡ Some new.term
row_place nodes new = place_mapped (λ m. m.term) (nodes ++ new ∷ []) (length nodes) new (place_last nodes new)

-- more terms, one list after another

pub added_more : (old mid new : List Node) (ts us : List Term) → IsAdded old ts mid → IsAdded mid us new → IsAdded old (ts ++ us) new
added_more old mid new ts us a b = record {
  table = b.table;
  added = b.added ∙ ap (λ l. noted l us) a.added ∙ sym (noted_append (terms old) ts us);
}

pub added_term : (old mid new : List Node) (args : List Term) (t : Term) → args ≡ arguments_of t → IsAdded old (flat_map parts_of args) mid → IsAdded mid (t ∷ []) new → IsAdded old (parts_of t) new
added_term old mid new args t e a b =
    subst (λ l. IsAdded old l new) (ap (λ l. flat_map parts_of l ++ t ∷ []) e ∙ sym (parts_out t)) (added_more old mid new (flat_map parts_of args) (t ∷ []) a b)

-- a row pushed

pub row_pushed : (nodes after : List Node) (t u : Term) (args : List ℕ) → IsTable nodes → StandAt (terms nodes) args (arguments_of t) → (Contains (terms nodes) t → ⊥) → u ≡ t →
    after ≡ nodes ++ record { term = u; args = args } ∷ [] → IsAdded nodes (t ∷ []) after
row_pushed nodes after t u args h s n e p =
    subst (IsAdded nodes (t ∷ [])) (sym (p ∙ ap (λ x. nodes ++ record { term = x; args = args } ∷ []) e)) (row_added nodes (record { term = t; args = args }) h s n)

pub pushed_place : (nodes after : List Node) (t u : Term) (args : List ℕ) (place : ℕ) → place ≡ length nodes → u ≡ t → after ≡ nodes ++ record { term = u; args = args } ∷ [] → slice_get (terms after) place ≡ Some t
pushed_place nodes after t u args place l e p =
    ap (λ ns. slice_get (terms ns) place) (p ∙ ap (λ x. nodes ++ record { term = x; args = args } ∷ []) e) ∙ ap (slice_get (terms (nodes ++ record { term = t; args = args } ∷ []))) l
    ∙ row_place nodes (record { term = t; args = args })

pub added_if_ok : (old mid new : List Node) (args : List Term) (t : Term) (r : Result ℕ AllocError) → args ≡ arguments_of t → IsAdded old (flat_map parts_of args) mid →
    IfOk r (λ place. IsAdded mid (t ∷ []) new) → IfOk r (λ place. IsAdded old (parts_of t) new)
added_if_ok old mid new args t (Ok p) e a b = added_term old mid new args t e a b
added_if_ok old mid new args t (Err x) e a b = tt

-- the first terms of a list, one after another

one_taken : (list : List Term) (at : ℕ) (t : Term) → at < length list → t ≡ get_or list at t → take (at + 1) list ≡ take at list ++ t ∷ []
one_taken list at t l e = take_more list at t l ∙ ap (λ x. take at list ++ x ∷ []) (sym e)

pub added_next : (old mid new : List Node) (list : List Term) (at : ℕ) (t : Term) → at < length list → t ≡ get_or list at t → IsAdded old (flat_map parts_of (take at list)) mid → IsAdded mid (parts_of t) new →
    IsAdded old (flat_map parts_of (take (at + 1) list)) new
added_next old mid new list at t l e a b =
    subst (λ ts. IsAdded old ts new) (flat_map_more parts_of [] (take at list) t ∙ sym (ap (flat_map parts_of) (one_taken list at t l e)))
    (added_more old mid new (flat_map parts_of (take at list)) (parts_of t) a b)

pub stand_next : (mid new : List Node) (list : List Term) (at : ℕ) (t : Term) (ps : List ℕ) (p : ℕ) → at < length list → t ≡ get_or list at t → IsAdded mid (parts_of t) new → StandAt (terms mid) ps (take at list) →
    slice_get (terms new) p ≡ Some t → StandAt (terms new) (ps ++ p ∷ []) (take (at + 1) list)
stand_next mid new list at t ps p l e a s q =
    let more : StandAt (terms new) ps (take at list) = subst (λ ts. StandAt ts ps (take at list)) (sym a.added) (stand_noted (terms mid) (parts_of t) (take at list) ps s) in
    subst (StandAt (terms new) (ps ++ p ∷ [])) (sym (one_taken list at t l e)) (stand_push (terms new) (take at list) ps p t more q)

-- the table of hypotheses and a conclusion
pub table_made : (start mid new : List Node) (hyps : List Term) (t : Term) (ps : List ℕ) (p : ℕ) → start ≡ [] → IsAdded start (flat_map parts_of (take (length hyps) hyps)) mid → StandAt (terms mid) ps (take (length hyps) hyps) →
    IsAdded mid (parts_of t) new → slice_get (terms new) p ≡ Some t → IsTableOf hyps t (record { nodes = new; hyps = ps; conclusion = p })
table_made start mid new hyps t ps p z a s b q =
    let all : take (length hyps) hyps ≡ hyps = take_all (length hyps) hyps (omega arith) in
    record {
      table = b.table;
      listed =
          b.added ∙ ap (λ ts. noted ts (parts_of t)) (a.added ∙ ap (λ ns. noted (terms ns) (flat_map parts_of (take (length hyps) hyps))) z ∙ ap (λ hs. noted [] (flat_map parts_of hs)) all)
          ∙ sym (noted_append [] (flat_map parts_of hyps) (parts_of t));
      hyps_there =
          subst (λ ts. StandAt ts ps hyps) (sym b.added) (stand_noted (terms mid) (parts_of t) hyps ps (subst (StandAt (terms mid) ps) all s));
      conclusion_there = q;
    }
