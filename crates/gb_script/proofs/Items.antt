-- Items in front of which a part is put, and items behind operands, are well-sorted.
use Rattle.std.specs.Prelude.{ℕ, zero, suc, ◌≡◌, Bool, true, false, not, ◌&&◌, ◌||◌, nat_eq, nat_le, if◌then◌else◌, List, [], ◌∷◌, ◌++◌, Some, slice_get}
use Rattle.std.proofs.Common.{refl, ap, sym, ◌∙◌, subst, ◌⊎◌, inl, inr, ⊎_elim}
use Rattle.std.proofs.lemmas.Bool.{eqb-true}
use Rattle.gb_core.specs.declared.place.Place.{Place}
use Rattle.gb_script.proofs.Tests.{both}
use Rattle.gb_script.specs.declared.head.Head.{Head}
use Rattle.gb_script.specs.declared.head.Head.TheVariants as head
use Rattle.gb_script.specs.declared.tree.Node.{Node, out-Node}
use Rattle.gb_script.specs.Head.{looseness, goes_under, holders, joiner, is_joiner, joins}
use Rattle.gb_script.specs.Tree.{node, parts_of, attach, attached, last_changed}
use Rattle.gb_script.specs.Build.{all_attached}
use Rattle.gb_script.specs.Sorts.{Sort, is_nil, holds, Role, whole, item, list, Language, text_fits, ValueSort, one, Is, formed, listed, Parts, own, longer, Fits, end, more, next}
use Rattle.gb_script.specs.Acts.{within, same_sort, all_sorts, is_whole, grows, part_fits, completing, all_complete, reach, ends, holder_ok, holders_ok, joined_ok, joiner_ok, attaches}
use Rattle.gb_script.proofs.Attach.{stays, inside, paired}
use Rattle.gb_script.proofs.Sorts.{not_false, implied, is_false, if_or, or_first, or_second, and_both, below, within_self, wider, nothing, rest_wider, loose, formed_node}

-- No item goes under a node that holds nothing.
not_under : (h : Head) → nat_le (looseness h) 0 ≡ false
not_under head.Apply = refl
not_under head.Product = refl
not_under head.Quotient = refl
not_under head.PowerProduct = refl
not_under head.Sum = refl
not_under head.Difference = refl
not_under head.Xor = refl
not_under head.Compared = refl
not_under head.And = refl
not_under head.Or = refl
not_under head.Implies = refl
not_under head.Iff = refl
not_under head.Chosen = refl
not_under _ = refl

not_under_list : (h g : Head) → g ≡ head.List → goes_under h g ≡ true → ⊥
not_under_list h g e u = not_false (sym (not_under h) ∙ subst (λ (z : Head). goes_under h z ≡ true) e u)

joiner_is : (h : Head) → is_joiner h ≡ true → h ≡ joiner
joiner_is head.Apply e = refl
joiner_is _ e = absurd (not_false e)

list_joins : (g : Head) → g ≡ head.List → is_joiner g ≡ true → ⊥
list_joins g e h = not_false (subst (λ (z : Head). is_joiner z ≡ true) e h)

pub whole_role : (r : Role) → is_whole r ≡ true → r ≡ whole
whole_role whole e = refl
whole_role (item o k) e = absurd (not_false e)
whole_role (list s) e = absurd (not_false e)

pub whole_or_item : {A : Type 0} (r : Role) (o : Sort) (j : ℕ) → r ≡ whole → r ≡ item o j → A
whole_or_item r o j e f = absurd cc

abbrev NonEmpty : List Node → Type 0
NonEmpty [] = ⊥
NonEmpty (x ∷ xs) = Unit {0}

module _ (l : Language) where
  -- An item with its first part.

  completed_by : (v : ValueSort) (s : Sort) (x i : Node) (p : Place) (k : ℕ) (r : Role) → l.role k ≡ r → completing l r v s ≡ true → ((o : Sort) → part_fits l v o ≡ true → Is l o x)
      → text_fits (l.signature (out-Node i).head).text (out-Node i).text ≡ true → Parts l (out-Node i).head k (parts_of i) → Is l s (node (out-Node i).head (out-Node i).text (x ∷ parts_of i) p)
  completed_by v s x i p k whole e h y n d = absurd (not_false h)
  completed_by v s x i p k (list o) e h y n d = absurd (not_false h)
  completed_by v s x i p k (item o w) e h y n d =
      let b = both (part_fits l v o) (holds s w) h in formed_node l (out-Node i).head (out-Node i).text (x ∷ parts_of i) p w b.1 n (longer o w e (y o b.0) d)

  completes_at : (items : Sort) (v : ValueSort) (s : Sort) → all_complete l items v s ≡ true → (k : ℕ) → holds items k ≡ true → completing l (l.role k) v s ≡ true
  completes_at [] v s h k m = absurd (not_false m)
  completes_at (j ∷ items) v s h k m =
      let b = both (completing l (l.role j) v s) (all_complete l items v s) h in
      if_or (completing l (l.role k) v s ≡ true) (nat_eq j k) (holds items k) m (λ e. subst (λ (n : ℕ). completing l (l.role n) v s ≡ true) (eqb-true j k e) b.0) (λ e. completes_at items v s b.1 k e)

  pub completed : (items : Sort) (v : ValueSort) (s : Sort) (x i : Node) (p : Place) → all_complete l items v s ≡ true → ((o : Sort) → part_fits l v o ≡ true → Is l o x) → Is l items i
      → Is l s (node (out-Node i).head (out-Node i).text (x ∷ parts_of i) p)
  completed items v s x i p h y (formed k m e d) = completed_by v s x i p k (l.role k) refl (completes_at items v s h k m) y e d
  completed items v s x i p h y (listed k e o r m n f) = absurd (not_false (subst (λ (z : Role). completing l z v s ≡ true) r (completes_at items v s h k m)))

  -- Further parts behind those of a node.

  added : {f : List Sort} {r : Sort} {xs : List Node} → Fits l f r xs → (ys : List Node) → Fits l [] r ys → Fits l f r (xs ++ ys)
  added end ys d = d
  added (more e es) ys d = more e (added es ys d)
  added (next e es) ys d = next e (added es ys d)

  appended : {h : Head} {k : ℕ} {xs : List Node} → Parts l h k xs → (ys : List Node) → Fits l [] (l.signature h).parts.rest ys → Parts l h k (xs ++ ys)
  appended (own f) ys d = own (added f ys d)
  appended (longer o j r e g) ys d = longer o j r e (appended g ys d)

  whole_by : (items : Sort) (r : Role) (o : Sort) (j : ℕ) → r ≡ item o j → joined_ok l items r ≡ true → (holds items j ≡ false) × (l.role j ≡ whole)
  whole_by items r o j e h =
      let b = both (not (holds items j)) (is_whole (l.role j)) (subst (λ (z : Role). joined_ok l items z ≡ true) e h) in (is_false (holds items j) b.0, whole_role (l.role j) b.1)

  whole_after : (items : Sort) {h : Head} {k : ℕ} {xs : List Node} → Parts l h k xs → joined_ok l items (l.role (l.signature h).kind) ≡ true → (k ≡ (l.signature h).kind) ⊎ (l.role k ≡ whole)
  whole_after items (own f) w = inl refl
  whole_after items {h = h} (longer {k = k} o j r e g) w =
      ⊎_elim (λ q. inr (whole_by items (l.role (l.signature h).kind) o j (ap (λ (n : ℕ). l.role n) (sym q) ∙ r) w).1) (λ q. whole_or_item (l.role k) o j q r) (whole_after items g w)

  item_parts : (items : Sort) {h : Head} {k : ℕ} {ys : List Node} → Parts l h k ys → holds items k ≡ true → joiner_ok l items (l.signature h) ≡ true → Fits l [] (l.signature h).parts.rest ys
  item_parts items {h = h} (own f) m w =
      let g = (l.signature h).parts in
      rest_wider l g.rest (below (all_sorts g.first g.rest) g.rest (both (within (all_sorts g.first g.rest) g.rest) (joined_ok l items (l.role (l.signature h).kind)) w).0) (loose l f)
  item_parts items {h = h} (longer {k = k} o j r e g) m w =
      let s = (l.signature h).parts in
      let b = both (within (all_sorts s.first s.rest) s.rest) (joined_ok l items (l.role (l.signature h).kind)) w in
      ⊎_elim (λ q. absurd (not_false (sym (whole_by items (l.role (l.signature h).kind) o j (ap (λ (n : ℕ). l.role n) (sym q) ∙ r) b.1).0 ∙ m))) (λ q. whole_or_item (l.role k) o j q r) (whole_after items g b.1)

  -- Attaching an item: behind a node, or inside its last part.
  module _ (s items : Sort) (complete : all_complete l items (one s) s ≡ true) (hold_all : holders_ok l holders s ≡ true) (join : joiner_ok l items (l.signature joiner) ≡ true) (i : Node) (it : Is l items i) where
    abbrev changed : List Node → List Node
    changed xs = last_changed i (paired xs)

    changed_behind : (x : Node) (xs : List Node) → NonEmpty xs → changed (x ∷ xs) ≡ x ∷ changed xs
    changed_behind x [] n = absurd n
    changed_behind x (y ∷ ys) n = refl

    no_rest : {A : Type 0} (r : Sort) (x : Node) → is_nil r ≡ true → Is l r x → A
    no_rest [] x h d = absurd (nothing l d)
    no_rest (k ∷ r) x h d = absurd (not_false h)

    further : {h : Head} → h ≡ joiner → Is l items i → is_joiner (out-Node i).head ≡ true → Fits l [] (l.signature h).parts.rest (parts_of i)
    further {h = h} e (formed k m n d) j =
        let q = joiner_is (out-Node i).head j in
        subst (λ (z : Head). Fits l [] (l.signature z).parts.rest (parts_of i)) (q ∙ sym e) (item_parts items d m (subst (λ (z : Head). joiner_ok l items (l.signature z) ≡ true) (sym q) join))
    further e (listed k o h r m n f) j = absurd (list_joins (out-Node i).head h j)

    joined_sorted : {t : Sort} {x : Node} → Is l t x → joins (out-Node i).head (out-Node x).head ≡ true → Is l t (node (out-Node x).head (out-Node x).text (parts_of x ++ parts_of i) (out-Node x).place)
    joined_sorted {x = x} (formed k m e d) j =
        let b = both (is_joiner (out-Node i).head) (is_joiner (out-Node x).head) j in
        formed_node l (out-Node x).head (out-Node x).text (parts_of x ++ parts_of i) (out-Node x).place k m e (appended d (parts_of i) (further (joiner_is (out-Node x).head b.1) it b.0))
    joined_sorted {x = x} (listed k o h r m n f) j = absurd (list_joins (out-Node x).head h (both (is_joiner (out-Node i).head) (is_joiner (out-Node x).head) j).1)

    by_joining : (t : Sort) (x : Node) → Is l t x → same_sort t s ≡ true → (b : Bool) → joins (out-Node i).head (out-Node x).head ≡ b
        → Is l t (if b then node (out-Node x).head (out-Node x).text (parts_of x ++ parts_of i) (out-Node x).place else node (out-Node i).head (out-Node i).text (x ∷ parts_of i) (out-Node x).place)
    by_joining t x d q true e = joined_sorted d e
    by_joining t x d q false e =
        let b = both (within t s) (within s t) q in
        wider l (below s t b.1) (completed items (one s) s x i (out-Node x).place complete (λ o f. wider l (below s o f) (wider l (below t s b.0) d)) it)

    -- by whether the item goes inside
    by_place : (t : Sort) (x : Node) → Is l t x → same_sort t s ≡ true → (goes_under (out-Node i).head (out-Node x).head ≡ true → Is l t (node (out-Node x).head (out-Node x).text (changed (parts_of x)) (out-Node x).place))
        → (b : Bool) → goes_under (out-Node i).head (out-Node x).head ≡ b → Is l t (attach x i)
    by_place t x d q c true e = subst (λ (y : Node). Is l t y) (sym (inside x i e)) (c e)
    by_place t x d q c false e = subst (λ (y : Node). Is l t y) (sym (stays x i e)) (by_joining t x d q (joins (out-Node i).head (out-Node x).head) refl)

    holder_at : (n : ℕ) (hs : List Head) (g : Head) → slice_get hs n ≡ Some g → holders_ok l hs s ≡ true → holder_ok l s (l.signature g) ≡ true
    holder_at n [] g e h = absurd cc
    holder_at zero (j ∷ hs) g e h = let b = both (holder_ok l s (l.signature j)) (holders_ok l hs s) h in let same : j ≡ g = cc in subst (λ (z : Head). holder_ok l s (l.signature z) ≡ true) same b.0
    holder_at (suc n) (j ∷ hs) g e h = holder_at n hs g e (both (holder_ok l s (l.signature j)) (holders_ok l hs s) h).1

    goes_to : (h g : Head) → goes_under h g ≡ true → holder_ok l s (l.signature g) ≡ true
    goes_to h head.Apply e = holder_at 0 holders head.Apply refl hold_all
    goes_to h head.Negative e = holder_at 1 holders head.Negative refl hold_all
    goes_to h head.Product e = holder_at 2 holders head.Product refl hold_all
    goes_to h head.Quotient e = holder_at 3 holders head.Quotient refl hold_all
    goes_to h head.PowerProduct e = holder_at 4 holders head.PowerProduct refl hold_all
    goes_to h head.Sum e = holder_at 5 holders head.Sum refl hold_all
    goes_to h head.Difference e = holder_at 6 holders head.Difference refl hold_all
    goes_to h head.Xor e = holder_at 7 holders head.Xor refl hold_all
    goes_to h head.Compared e = holder_at 8 holders head.Compared refl hold_all
    goes_to h head.Not e = holder_at 9 holders head.Not refl hold_all
    goes_to h head.And e = holder_at 10 holders head.And refl hold_all
    goes_to h head.Or e = holder_at 11 holders head.Or refl hold_all
    goes_to h head.Implies e = holder_at 12 holders head.Implies refl hold_all
    goes_to h head.Iff e = holder_at 13 holders head.Iff refl hold_all
    goes_to h _ e = absurd (not_false (sym (not_under h) ∙ e))

    -- A node of the sort is of a kind that its head reaches.
    reach_here : (k : ℕ) → holds s k ≡ true → (n : ℕ) → reach l n s k ≡ true
    reach_here k m zero = refl
    reach_here k m (suc n) = or_first (holds s k) (grows (λ j. reach l n s j) (l.role k)) m

    reach_more : (k : ℕ) (o : Sort) (j : ℕ) → l.role k ≡ item o j → ((n : ℕ) → reach l n s j ≡ true) → (n : ℕ) → reach l n s k ≡ true
    reach_more k o j r c zero = refl
    reach_more k o j r c (suc n) = or_second (holds s k) (grows (λ m. reach l n s m) (l.role k)) (subst (λ (z : Role). grows (λ m. reach l n s m) z ≡ true) (sym r) (c n))

    reached : {h : Head} {k : ℕ} {xs : List Node} → Parts l h k xs → ((n : ℕ) → reach l n s k ≡ true) → (n : ℕ) → reach l n s (l.signature h).kind ≡ true
    reached (own f) c = c
    reached (longer {k = k} o j r d g) c = reached g (reach_more k o j r c)

    ends_somewhere : {f : List Sort} {r : Sort} {xs : List Node} → Fits l f r xs → ends s f r ≡ true → NonEmpty xs
    ends_somewhere end h = not_false h
    ends_somewhere (more d ds) h = tt
    ends_somewhere (next d ds) h = tt

    abbrev Attached : Sort → Node → Type 0
    Attached t x = same_sort t s ≡ true → Is l t (attach x i)

    rest_more : {r : Sort} {x : Node} {xs : List Node} → Is l r x → Attached r x → Fits l [] r xs → (same_sort r s ≡ true → Fits l [] r (changed xs)) → same_sort r s ≡ true → Fits l [] r (changed (x ∷ xs))
    rest_more d a end c q = more (a q) end
    rest_more d a (more e es) c q = more d (c q)

    last_next : {t : Sort} {f : List Sort} {r : Sort} {x : Node} {xs : List Node} → Is l t x → Attached t x → Fits l f r xs → (ends s f r ≡ true → Fits l f r (changed xs))
        → (f ≡ [] → same_sort r s ≡ true → Fits l f r (changed xs)) → ends s (t ∷ f) r ≡ true → Fits l (t ∷ f) r (changed (x ∷ xs))
    last_next {t = t} d a (end {r = r}) c w h = next (a (both (same_sort t s) (is_nil r || same_sort r s) h).0) end
    last_next {t = t} d a (more {r = r} {x = y} {xs = ys} e es) c w h =
        next d (if_or (Fits l [] r (changed (y ∷ ys))) (is_nil r) (same_sort r s) (both (same_sort t s) (is_nil r || same_sort r s) h).1 (λ z. no_rest r y z e) (λ z. w refl z))
    last_next d a (next e es) c w h = next d (c h)

    mutual
      attach_sorted : {t : Sort} {x : Node} → Is l t x → same_sort t s ≡ true → Is l t (attach x i)
      attach_sorted {t = t} {x = x} (formed k m e d) q =
          let g = l.signature (out-Node x).head in
          by_place t x (formed k m e d) q
          (λ u. formed_node l (out-Node x).head (out-Node x).text (changed (parts_of x)) (out-Node x).place k m e
          (parts_changed d (implied (reach l 3 s g.kind) (ends s g.parts.first g.parts.rest) (goes_to (out-Node i).head (out-Node x).head u)
          (reached d (reach_here k (below t s (both (within t s) (within s t) q).0 k m)) 3))).0)
          (goes_under (out-Node i).head (out-Node x).head) refl
      attach_sorted {t = t} {x = x} (listed k o h r m e f) q = by_place t x (listed k o h r m e f) q (λ u. absurd (not_under_list (out-Node i).head (out-Node x).head h u)) (goes_under (out-Node i).head (out-Node x).head) refl

      parts_changed : {h : Head} {k : ℕ} {xs : List Node} → Parts l h k xs → ends s (l.signature h).parts.first (l.signature h).parts.rest ≡ true → Parts l h k (changed xs) × NonEmpty xs
      parts_changed (own f) e = (own (last_sorted f e), ends_somewhere f e)
      parts_changed {h = h} (longer {x = x} {xs = xs} o j r d g) e =
          let p = parts_changed g e in (subst (λ (ys : List Node). Parts l h j ys) (sym (changed_behind x xs p.1)) (longer o j r d p.0), tt)

      rest_sorted : {f : List Sort} {r : Sort} {xs : List Node} → Fits l f r xs → f ≡ [] → same_sort r s ≡ true → Fits l f r (changed xs)
      rest_sorted end n q = end
      rest_sorted (more d ds) n q = rest_more d (λ z. attach_sorted d z) ds (λ z. rest_sorted ds refl z) q
      rest_sorted (next d ds) n q = absurd cc

      last_sorted : {f : List Sort} {r : Sort} {xs : List Node} → Fits l f r xs → ends s f r ≡ true → Fits l f r (changed xs)
      last_sorted end h = absurd (not_false h)
      last_sorted (more d ds) h = absurd (not_false h)
      last_sorted (next d ds) h = last_next d (λ q. attach_sorted d q) ds (λ z. last_sorted ds z) (λ n z. rest_sorted ds n z) h

    attached_sorted : (x : Node) → Is l s x → Is l s (attach x i)
    attached_sorted x d = attach_sorted d (and_both (within s s) (within s s) (within_self s) (within_self s))

  all_attached_sorted : (s items : Sort) → all_complete l items (one s) s ≡ true → holders_ok l holders s ≡ true → joiner_ok l items (l.signature joiner) ≡ true → {is : List Node} → Fits l [] items is → (x : Node) → Is l s x
      → Is l s (attached x is)
  all_attached_sorted s items c h j end x d = d
  all_attached_sorted s items c h j (more {x = i} e es) x d = all_attached_sorted s items c h j es (attach x i) (attached_sorted s items c h j i e x d)

  pub attaches_sorted : (f : List Sort) (r s : Sort) (xs : List Node) (p : Place) → attaches l f r s ≡ true → Fits l f r xs → Is l s (all_attached p xs)
  attaches_sorted [] r s xs p h d = absurd (not_false h)
  attaches_sorted (a ∷ f) r s [] p h d = elim d [ ]
  attaches_sorted (a ∷ f) r s (x ∷ xs) p h (next d ds) =
      let items = all_sorts f r in
      let b = both (within a s) (all_complete l items (one s) s && (holders_ok l holders s && joiner_ok l items (l.signature joiner))) h in
      let c = both (all_complete l items (one s) s) (holders_ok l holders s && joiner_ok l items (l.signature joiner)) b.1 in
      let j = both (holders_ok l holders s) (joiner_ok l items (l.signature joiner)) c.1 in
      all_attached_sorted s items c.0 j.0 j.1 (loose l ds) x (wider l (below a s b.0) d)
