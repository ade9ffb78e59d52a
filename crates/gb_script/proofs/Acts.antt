-- Actions that pass the test build well-sorted values.
use Rattle.std.specs.Prelude.{ℕ, ◌≡◌, Bool, true, false, not, ◌&&◌, nat_eq, List, [], ◌∷◌}
use Rattle.std.proofs.Common.{refl, ap, ◌∙◌, arith}
use Rattle.gb_core.specs.declared.place.Place.{Place}
use Rattle.gb_script.proofs.Tests.{both}
use Rattle.gb_script.specs.declared.action.Action.{Action}
use Rattle.gb_script.specs.declared.action.Action.TheVariants.{Nothing, Pass, Make, Enclose, Spell, Graft, Flat, Extend, Many, Lead, Attach}
use Rattle.gb_script.specs.declared.head.Head.{Head}
use Rattle.gb_script.specs.declared.text.Text.{Text}
use Rattle.gb_script.specs.declared.tree.Node.{Node, out-Node}
use Rattle.gb_script.specs.declared.value.Value.{Value}
use Rattle.gb_script.specs.declared.value.Value.TheVariants.{Tree, Trees}
use Rattle.gb_script.specs.Tree.{node, parts_of}
use Rattle.gb_script.specs.Text.{name_at, place_at, place_before}
use Rattle.gb_script.specs.Value.{part_of, trees_of, flattened}
use Rattle.gb_script.specs.Build.{made, parts, flat, led, grown, into}
use Rattle.gb_script.specs.Sorts.{Sort, holds, Language, text_fits, ValueSort, one, many, some, Is, formed, listed, own, Fits, more, next, HasSort, HaveSorts}
use Rattle.gb_script.specs.Acts.{within, shape_within, flat_shape, shape_of, sort_within, sorts_within, parts_fit, all_complete, kind_of, makes, grafts, flattens, leads, extends_list, acts}
use Rattle.gb_script.proofs.Sorts.{not_false, is_false, or_first, below, wider, refit, formed_node, listed_node, flat_sorted, value_sorted, part_sorted, parts_sorted, sort_widened}
use Rattle.gb_script.proofs.Items.{completed, attaches_sorted}

holds_self : (k : ℕ) → holds (k ∷ []) k ≡ true
holds_self k = or_first (nat_eq k k) false (let z : nat_eq k k ≡ true = grind arith in z)

module _ (l : Language) where
  texted_by : (b : Bool) (h : Head) (ts : List ValueSort) (u : ValueSort) → makes l b h ts u ≡ true
      → ((l.signature h).text ≡ b) × (parts_fit l ts (l.signature h).parts.first (l.signature h).parts.rest ≡ true) × (sort_within (one (kind_of l h)) u ≡ true)
  texted_by true h ts u e =
      let q = l.signature h in
      let b = both q.text (parts_fit l ts q.parts.first q.parts.rest && sort_within (one (kind_of l h)) u) e in
      let c = both (parts_fit l ts q.parts.first q.parts.rest) (sort_within (one (kind_of l h)) u) b.1 in (b.0, c.0, c.1)
  texted_by false h ts u e =
      let q = l.signature h in
      let b = both (not q.text) (parts_fit l ts q.parts.first q.parts.rest && sort_within (one (kind_of l h)) u) e in
      let c = both (parts_fit l ts q.parts.first q.parts.rest) (sort_within (one (kind_of l h)) u) b.1 in (is_false q.text b.0, c.0, c.1)

  makes_sorted : (b : Bool) (h : Head) (t : List ℕ) (ts : List ValueSort) (vs : List Value) (u : ValueSort) (p : Place) → text_fits b t ≡ true → makes l b h ts u ≡ true → HaveSorts l ts vs
      → HasSort l u (Tree (node h t (parts p vs) p))
  makes_sorted b h t ts vs u p n e d =
      let q = l.signature h in
      let c = texted_by b h ts u e in
      sort_widened l (one (kind_of l h)) u (Tree (node h t (parts p vs) p)) c.2 (formed_node l h t (parts p vs) p q.kind (holds_self q.kind) (ap (λ (z : Bool). text_fits z t) c.0 ∙ n) (own (parts_sorted l p ts vs q.parts.first q.parts.rest c.1 d)))

  grafts_sorted : (h : Head) (f : List Sort) (r : Sort) (u : ValueSort) (xs : List Node) (p : Place) → grafts l h (record { first = f; rest = r }) u ≡ true → Fits l f r xs → HasSort l u (Tree (node h [] xs p))
  grafts_sorted h f r u xs p e d =
      let q = l.signature h in
      let b = both (not q.text) (shape_within f r q.parts.first q.parts.rest && sort_within (one (kind_of l h)) u) e in
      let c = both (shape_within f r q.parts.first q.parts.rest) (sort_within (one (kind_of l h)) u) b.1 in
      sort_widened l (one (kind_of l h)) u (Tree (node h [] xs p)) c.1 (formed_node l h [] xs p q.kind (holds_self q.kind) (ap (λ (z : Bool). text_fits z []) (is_false q.text b.0)) (own (refit l d q.parts.first q.parts.rest c.0)))

  flattens_sorted : (h : Head) (f : List Sort) (r s : Sort) (xs : List Node) (p : Place) → flattens l h f r s ≡ true → Fits l f r xs → Is l s (flat h p xs)
  flattens_sorted h [] r s xs p e d = absurd (not_false e)
  flattens_sorted h (a ∷ f) r s [] p e d = elim d [ ]
  flattens_sorted h (a ∷ f) r s (x ∷ []) p e (next d ds) = wider l (below a s (both (within a s) (grafts l h (record { first = a ∷ f; rest = r }) (one s)) e).0) d
  flattens_sorted h (a ∷ f) r s (x ∷ y ∷ ys) p e d = grafts_sorted h (a ∷ f) r (one s) (x ∷ y ∷ ys) p (both (within a s) (grafts l h (record { first = a ∷ f; rest = r }) (one s)) e).1 d

  leads_sorted : (h : Head) (ts : List ValueSort) (vs : List Value) (u : ValueSort) (p : Place) → leads l h ts u ≡ true → HaveSorts l ts vs → HasSort l u (Trees (led h p vs))
  leads_sorted h [] vs u p e d = absurd (not_false e)
  leads_sorted h (t ∷ ts) [] u p e d = absurd d
  leads_sorted h (t ∷ ts) (v ∷ vs) u p e d =
      let q = l.signature h in
      let g = shape_of t in
      let w : ValueSort = many (record { first = kind_of l h ∷ (flat_shape ts).first; rest = (flat_shape ts).rest }) in
      let b = both (not q.text) (shape_within g.first g.rest q.parts.first q.parts.rest && sort_within w u) e in
      let c = both (shape_within g.first g.rest q.parts.first q.parts.rest) (sort_within w u) b.1 in
      sort_widened l w u (Trees (led h p (v ∷ vs))) c.1
      (next {s = kind_of l h} (formed_node l h [] (trees_of v) p q.kind (holds_self q.kind) (ap (λ (z : Bool). text_fits z []) (is_false q.text b.0)) (own (refit l (value_sorted l t v d.0) q.parts.first q.parts.rest c.0))) (flat_sorted l ts vs d.1))

  -- the place of a node is no matter
  moved : {s : Sort} (y : Node) (p : Place) → Is l s y → Is l s (grown p [] y)
  moved y p (formed k m e d) = formed_node l (out-Node y).head (out-Node y).text (parts_of y) p k m e d
  moved y p (listed k e h r m n f) = listed_node l (out-Node y).head (out-Node y).text (parts_of y) p k e h r m n f

  extends_one : (a : Sort) (u : ValueSort) (p : Place) (v : Value) → sort_within (one a) u ≡ true → HasSort l (one a) v → HasSort l u (into p [] v)
  extends_one a u p (Tree y) h d = sort_widened l (one a) u (Tree (grown p [] y)) h (moved y p d)
  extends_one a u p (Trees xs) h d = absurd d

  longer_node : (t : ValueSort) (b s : Sort) (p : Place) (v : Value) (y : Node) → all_complete l b t s ≡ true → HasSort l t v → Is l b y → Is l s (grown p (v ∷ []) y)
  longer_node t b s p v y h d e = completed l b t s (part_of p v) y p h (λ o f. part_sorted l t v o p f d) e

  extends_two : (t : ValueSort) (b s : Sort) (p : Place) (v w : Value) → all_complete l b t s ≡ true → HasSort l t v → HasSort l (one b) w → HasSort l (one s) (into p (v ∷ []) w)
  extends_two t b s p v (Trees ys) h d e = absurd e
  extends_two t b s p v (Tree y) h d e = longer_node t b s p v y h d e

  longer_first : (t : ValueSort) (f : List Sort) (r : Sort) (g : List Sort) (q : Sort) (p : Place) (v : Value) (y : Node) (ys : List Node) → extends_list l t f r g q ≡ true → HasSort l t v → Fits l f r (y ∷ ys)
      → Fits l g q (grown p (v ∷ []) y ∷ ys)
  longer_first t [] r g q p v y ys h d e = absurd (not_false h)
  longer_first t (b ∷ f) r [] q p v y ys h d (next e es) = let c = both (all_complete l b t q) (shape_within f r [] q) h in more (longer_node t b q p v y c.0 d e) (refit l es [] q c.1)
  longer_first t (b ∷ f) r (s ∷ g) q p v y ys h d (next e es) = let c = both (all_complete l b t s) (shape_within f r g q) h in next (longer_node t b s p v y c.0 d e) (refit l es g q c.1)

  no_first : (t : ValueSort) (f : List Sort) (r : Sort) (g : List Sort) (q : Sort) → extends_list l t f r g q ≡ true → Fits l f r [] → ⊥
  no_first t [] r g q h e = not_false h
  no_first t (b ∷ f) r g q h e = elim e [ ]

  extends_first : (t : ValueSort) (f : List Sort) (r : Sort) (g : List Sort) (q : Sort) (p : Place) (v w : Value) → extends_list l t f r g q ≡ true → HasSort l t v → Fits l f r (trees_of w) → Fits l g q (trees_of (into p (v ∷ []) w))
  extends_first t f r g q p v (Tree y) h d e = longer_first t f r g q p v y [] h d e
  extends_first t f r g q p v (Trees []) h d e = absurd (no_first t f r g q h e)
  extends_first t f r g q p v (Trees (y ∷ ys)) h d e = longer_first t f r g q p v y ys h d e

  passes : (ts us : List ValueSort) (vs : List Value) → sorts_within ts us ≡ true → HaveSorts l ts vs → HaveSorts l us vs
  passes [] [] vs e d = d
  passes [] (u ∷ us) vs e d = absurd (not_false e)
  passes (t ∷ ts) [] vs e d = absurd (not_false e)
  passes (t ∷ ts) (u ∷ us) [] e d = absurd d
  passes (t ∷ ts) (u ∷ us) (v ∷ vs) e d = let b = both (sort_within t u) (sorts_within ts us) e in (sort_widened l t u v b.0 d.0, passes ts us vs b.1 d.1)

  pub made_sorted : (c : Action) (t : Text) (at : ℕ) (ts us : List ValueSort) (vs : List Value) → acts l c ts us ≡ true → HaveSorts l ts vs → HaveSorts l us (made c t at vs)
  made_sorted Nothing t at ts [] vs e d = tt
  made_sorted Nothing t at ts (u ∷ us) vs e d = absurd (not_false e)
  made_sorted Pass t at ts us vs e d = passes ts us vs e d
  made_sorted (Make h) t at ts (u ∷ []) vs e d = (makes_sorted false h [] ts vs u (place_at t at) refl e d, tt)
  made_sorted (Enclose h) t at ts (u ∷ []) vs e d = (makes_sorted false h [] ts vs u (place_before t at) refl e d, tt)
  made_sorted (Spell h) t at ts (u ∷ []) vs e d = (makes_sorted true h (name_at t at) ts vs u (place_at t at) refl e d, tt)
  made_sorted (Graft h) t at ts (u ∷ []) vs e d = (grafts_sorted h (flat_shape ts).first (flat_shape ts).rest u (flattened vs) (place_at t at) e (flat_sorted l ts vs d), tt)
  made_sorted (Flat h) t at ts (one s ∷ []) vs e d = (flattens_sorted h (flat_shape ts).first (flat_shape ts).rest s (flattened vs) (place_at t at) e (flat_sorted l ts vs d), tt)
  made_sorted Extend t at (one a ∷ []) (u ∷ []) (v ∷ []) e d = (extends_one a u (place_at t at) v e d.0, tt)
  made_sorted Extend t at (v ∷ one b ∷ []) (one s ∷ []) (x ∷ w ∷ []) e d = (extends_two v b s (place_at t at) x w e d.0 d.1.0, tt)
  made_sorted Extend t at (v ∷ some f ∷ []) (some g ∷ []) (x ∷ w ∷ []) e d = (extends_first v f.first f.rest g.first g.rest (place_at t at) x w e d.0 d.1.0, tt)
  made_sorted Many t at ts (u ∷ []) vs e d = (sort_widened l (many (flat_shape ts)) u (Trees (flattened vs)) e (flat_sorted l ts vs d), tt)
  made_sorted (Lead h) t at ts (u ∷ []) vs e d = (leads_sorted h ts vs u (place_at t at) e d, tt)
  made_sorted Attach t at ts (one s ∷ []) vs e d = (attaches_sorted l (flat_shape ts).first (flat_shape ts).rest s (flattened vs) (place_at t at) e (flat_sorted l ts vs d), tt)
  made_sorted Extend t at (v ∷ []) us [] e d = absurd d
  made_sorted Extend t at (v ∷ []) us (x ∷ w ∷ xs) e d = absurd d.1
  made_sorted Extend t at (v ∷ w ∷ []) us [] e d = absurd d
  made_sorted Extend t at (v ∷ w ∷ []) us (x ∷ []) e d = absurd d.1
  made_sorted Extend t at (v ∷ w ∷ []) us (x ∷ y ∷ z ∷ xs) e d = absurd d.1.1
  made_sorted _ t at ts us vs e d = absurd (not_false e)
