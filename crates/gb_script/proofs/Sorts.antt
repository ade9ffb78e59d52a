-- Sorts, and what is well-sorted.
use Rattle.std.specs.Prelude.{ℕ, ◌≡◌, Bool, true, false, not, ◌&&◌, ◌||◌, nat_eq, List, [], ◌∷◌, ◌++◌}
use Rattle.std.proofs.Common.{refl, sym, subst, arith, ⊎_elim}
use Rattle.std.proofs.lemmas.Bool.{eqb-true}
use Rattle.gb_core.specs.declared.place.Place.{Place}
use Rattle.gb_script.proofs.Tests.{both, either}
use Rattle.gb_script.specs.declared.head.Head.{Head}
use Rattle.gb_script.specs.declared.head.Head.TheVariants as head
use Rattle.gb_script.specs.declared.tree.Node.{Node, Node-F, out-Node, out-roll-Node}
use Rattle.gb_script.specs.declared.value.Value.{Value}
use Rattle.gb_script.specs.declared.value.Value.TheVariants.{Tree, Trees}
use Rattle.gb_script.specs.Tree.{node}
use Rattle.gb_script.specs.Value.{part_of, trees_of, flattened}
use Rattle.gb_script.specs.Build.{parts}
use Rattle.gb_script.specs.Sorts.{Sort, holds, Shape, Role, whole, item, list, Language, text_fits, ValueSort, one, many, some, Is, formed, listed, Parts, Fits, end, more, next, HasSort, HaveSorts}
use Rattle.gb_script.specs.Acts.{within, all_sorts, shape_within, rest_then, shape_then, sort_then, flat_shape, shape_of, sort_within, sorts_within, implies, list_takes, has_list, part_fits, parts_fit}
use Rattle.gb_script.proofs.Stacks.{append_nil}

pub not_false : false ≡ true → ⊥
not_false e = cc

pub implied : (a b : Bool) → implies a b ≡ true → a ≡ true → b ≡ true
implied true b h e = h
implied false b h e = absurd (not_false e)

pub is_false : (b : Bool) → not b ≡ true → b ≡ false
is_false true e = absurd (not_false e)
is_false false e = refl

pub if_or : (P : Type 0) (a b : Bool) → a || b ≡ true → (a ≡ true → P) → (b ≡ true → P) → P
if_or P a b h f g = ⊎_elim f g (either a b h)

pub or_second : (a b : Bool) → b ≡ true → a || b ≡ true
or_second true b h = refl
or_second false b h = h

pub or_first : (a b : Bool) → a ≡ true → a || b ≡ true
or_first true b h = refl
or_first false b h = absurd (not_false h)

pub and_both : (a b : Bool) → a ≡ true → b ≡ true → a && b ≡ true
and_both true b h e = e
and_both false b h e = absurd (not_false h)

-- every kind of one sort is one of another
abbrev pub Below : Sort → Sort → Type 0
Below s t = (k : ℕ) → holds s k ≡ true → holds t k ≡ true

pub below : (s t : Sort) → within s t ≡ true → Below s t
below [] t w k h = absurd (not_false h)
below (j ∷ s) t w k h =
    let b = both (holds t j) (within s t) w in
    if_or (holds t k ≡ true) (nat_eq j k) (holds s k) h (λ e. subst (λ (n : ℕ). holds t n ≡ true) (eqb-true j k e) b.0) (λ e. below s t b.1 k e)

pub below_left : (s t : Sort) → Below s (s ++ t)
below_left [] t k h = absurd (not_false h)
below_left (j ∷ s) t k h = if_or (nat_eq j k || holds (s ++ t) k ≡ true) (nat_eq j k) (holds s k) h (or_first (nat_eq j k) (holds (s ++ t) k)) (λ e. or_second (nat_eq j k) (holds (s ++ t) k) (below_left s t k e))

pub below_right : (s t : Sort) → Below t (s ++ t)
below_right [] t k h = h
below_right (j ∷ s) t k h = or_second (nat_eq j k) (holds (s ++ t) k) (below_right s t k h)

pub within_more : (s t : Sort) (k : ℕ) → within s t ≡ true → within s (k ∷ t) ≡ true
within_more [] t k h = refl
within_more (j ∷ s) t k h = let b = both (holds t j) (within s t) h in and_both (nat_eq k j || holds t j) (within s (k ∷ t)) (or_second (nat_eq k j) (holds t j) b.0) (within_more s t k b.1)

pub within_self : (s : Sort) → within s s ≡ true
within_self [] = refl
within_self (k ∷ s) = and_both (nat_eq k k || holds s k) (within s (k ∷ s)) (or_first (nat_eq k k) (holds s k) (let z : nat_eq k k ≡ true = grind arith in z)) (within_more s s k (within_self s))

module _ (l : Language) where
  pub wider : {s t : Sort} {x : Node} → Below s t → Is l s x → Is l t x
  wider b (formed k m e p) = formed k (b k m) e p
  wider b (listed k e h r m n f) = listed k e h r (b k m) n f

  pub nothing : {x : Node} → Is l [] x → ⊥
  nothing (formed k m e p) = not_false m
  nothing (listed k e h r m n f) = not_false m

  pub rest_wider : {r : Sort} {xs : List Node} (q : Sort) → Below r q → Fits l [] r xs → Fits l [] q xs
  rest_wider q b end = end
  rest_wider q b (more d ds) = more (wider b d) (rest_wider q b ds)

  pub loose : {f : List Sort} {r : Sort} {xs : List Node} → Fits l f r xs → Fits l [] (all_sorts f r) xs
  loose end = end
  loose (more d ds) = more d ds
  loose (next {s = s} {f = f} {r = r} d ds) = more (wider (below_left s (all_sorts f r)) d) (rest_wider (s ++ all_sorts f r) (below_right s (all_sorts f r)) (loose ds))

  pub refit : {f : List Sort} {r : Sort} {xs : List Node} → Fits l f r xs → (g : List Sort) (q : Sort) → shape_within f r g q ≡ true → Fits l g q xs
  refit end [] q h = end
  refit end (t ∷ g) q h = absurd (not_false h)
  refit (more {r = r} d ds) [] q h = more (wider (below r q h) d) (refit ds [] q h)
  refit (more d ds) (t ∷ g) q h = absurd (not_false h)
  refit (next {s = s} {f = f} {r = r} d ds) [] q h = let b = both (within s q) (shape_within f r [] q) h in more (wider (below s q b.0) d) (refit ds [] q b.1)
  refit (next {s = s} {f = f} {r = r} d ds) (t ∷ g) q h = let b = both (within s t) (shape_within f r g q) h in next (wider (below s t b.0) d) (refit ds g q b.1)

  -- nodes put together
  pub formed_node : {s : Sort} (h : Head) (t : List ℕ) (xs : List Node) (p : Place) (k : ℕ) → holds s k ≡ true → text_fits (l.signature h).text t ≡ true → Parts l h k xs → Is l s (node h t xs p)
  formed_node {s = s} h t xs p k m e d =
      let r : Node-F Node = record { head = h; text = t; parts = xs; place = p } in
      let o : r ≡ out-Node (node h t xs p) = sym (out-roll-Node r) in
      formed k m (subst (λ (z : Node-F Node). text_fits (l.signature z.head).text z.text ≡ true) o e) (subst (λ (z : Node-F Node). Parts l z.head k z.parts) o d)

  pub listed_node : {s : Sort} (h : Head) (t : List ℕ) (xs : List Node) (p : Place) (k : ℕ) (e : Sort) → h ≡ head.List → l.role k ≡ list e → holds s k ≡ true → t ≡ [] → Fits l [] e xs → Is l s (node h t xs p)
  listed_node {s = s} h t xs p k e i r m n f =
      let y : Node-F Node = record { head = h; text = t; parts = xs; place = p } in
      let o : y ≡ out-Node (node h t xs p) = sym (out-roll-Node y) in
      listed k e (subst (λ (z : Node-F Node). z.head ≡ head.List) o i) r m (subst (λ (z : Node-F Node). z.text ≡ []) o n) (subst (λ (z : Node-F Node). Fits l [] e z.parts) o f)

  -- values one after another
  rest_joined : (r : Sort) (g : Shape) (ys : List Node) → Fits l g.first g.rest ys → Fits l (rest_then r g).first (rest_then r g).rest ys
  rest_joined [] g ys d = d
  rest_joined (k ∷ r) g ys d = rest_wider ((k ∷ r) ++ all_sorts g.first g.rest) (below_right (k ∷ r) (all_sorts g.first g.rest)) (loose d)

  rest_cons : (r : Sort) (g : Shape) (x : Node) (ys : List Node) → Is l r x → Fits l (rest_then r g).first (rest_then r g).rest ys → Fits l (rest_then r g).first (rest_then r g).rest (x ∷ ys)
  rest_cons [] g x ys d ds = absurd (nothing d)
  rest_cons (k ∷ r) g x ys d ds = more (wider (below_left (k ∷ r) (all_sorts g.first g.rest)) d) ds

  joined : {f : List Sort} {r : Sort} {xs : List Node} → Fits l f r xs → (g : Shape) (ys : List Node) → Fits l g.first g.rest ys → Fits l (shape_then f r g).first (shape_then f r g).rest (xs ++ ys)
  joined (end {r = r}) g ys z = rest_joined r g ys z
  joined (more {r = r} {x = x} {xs = xs} d ds) g ys z = rest_cons r g x (xs ++ ys) d (joined ds g ys z)
  joined (next d ds) g ys z = next d (joined ds g ys z)

  value_then : (t : ValueSort) (v : Value) (g : Shape) (ys : List Node) → HasSort l t v → Fits l g.first g.rest ys → Fits l (sort_then t g).first (sort_then t g).rest (trees_of v ++ ys)
  value_then (one s) (Tree x) g ys d z = next d z
  value_then (one s) (Trees xs) g ys d z = absurd d
  value_then (many h) (Tree x) g ys d z = absurd d
  value_then (many h) (Trees xs) g ys d z = joined d g ys z
  value_then (some h) v g ys d z = joined d g ys z

  pub value_sorted : (t : ValueSort) (v : Value) → HasSort l t v → Fits l (shape_of t).first (shape_of t).rest (trees_of v)
  value_sorted t v d = subst (λ (xs : List Node). Fits l (shape_of t).first (shape_of t).rest xs) (append_nil (trees_of v)) (value_then t v (record { first = []; rest = [] }) [] d end)

  pub flat_sorted : (ts : List ValueSort) (vs : List Value) → HaveSorts l ts vs → Fits l (flat_shape ts).first (flat_shape ts).rest (flattened vs)
  flat_sorted [] [] d = end
  flat_sorted [] (v ∷ vs) d = absurd d
  flat_sorted (t ∷ ts) [] d = absurd d
  flat_sorted (t ∷ ts) (v ∷ vs) d = value_then t v (flat_shape ts) (flattened vs) d.0 (flat_sorted ts vs d.1)

  -- values as parts
  of_list : (k : ℕ) (t : Sort) (g : Shape) (xs : List Node) (p : Place) (r : Role) → l.role k ≡ r → list_takes r g ≡ true → Fits l g.first g.rest xs → Is l (k ∷ t) (node head.List [] xs p)
  of_list k t g xs p whole e h d = absurd (not_false h)
  of_list k t g xs p (item o j) e h d = absurd (not_false h)
  of_list k t g xs p (list s) e h d = listed_node head.List [] xs p k s refl e (or_first (nat_eq k k) (holds t k) (let z : nat_eq k k ≡ true = grind arith in z)) refl (refit d [] s h)

  list_sorted : (t : Sort) (g : Shape) (xs : List Node) (p : Place) → has_list l t g ≡ true → Fits l g.first g.rest xs → Is l t (node head.List [] xs p)
  list_sorted [] g xs p h d = absurd (not_false h)
  list_sorted (k ∷ t) g xs p h d =
      if_or (Is l (k ∷ t) (node head.List [] xs p)) (list_takes (l.role k) g) (has_list l t g) h (λ e. of_list k t g xs p (l.role k) refl e d)
      (λ e. wider (below_right (k ∷ []) t) (list_sorted t g xs p e d))

  pub part_sorted : (t : ValueSort) (v : Value) (s : Sort) (p : Place) → part_fits l t s ≡ true → HasSort l t v → Is l s (part_of p v)
  part_sorted (one t) (Tree x) s p h d = wider (below t s h) d
  part_sorted (one t) (Trees xs) s p h d = absurd d
  part_sorted (many g) (Tree x) s p h d = absurd d
  part_sorted (many g) (Trees xs) s p h d = list_sorted s g xs p h d
  part_sorted (some g) v s p h d = absurd (not_false h)

  pub parts_sorted : (p : Place) (ts : List ValueSort) (vs : List Value) (f : List Sort) (r : Sort) → parts_fit l ts f r ≡ true → HaveSorts l ts vs → Fits l f r (parts p vs)
  parts_sorted p [] [] [] r h d = end
  parts_sorted p [] [] (s ∷ f) r h d = absurd (not_false h)
  parts_sorted p [] (v ∷ vs) f r h d = absurd d
  parts_sorted p (t ∷ ts) [] f r h d = absurd d
  parts_sorted p (t ∷ ts) (v ∷ vs) [] r h d = let b = both (part_fits l t r) (parts_fit l ts [] r) h in more (part_sorted t v r p b.0 d.0) (parts_sorted p ts vs [] r b.1 d.1)
  parts_sorted p (t ∷ ts) (v ∷ vs) (s ∷ f) r h d = let b = both (part_fits l t s) (parts_fit l ts f r) h in next (part_sorted t v s p b.0 d.0) (parts_sorted p ts vs f r b.1 d.1)

  -- values of sorts, widened
  pub sort_widened : (t u : ValueSort) (v : Value) → sort_within t u ≡ true → HasSort l t v → HasSort l u v
  sort_widened (one s) (one t) (Tree x) e d = wider (below s t e) d
  sort_widened (one s) (some g) (Tree x) e d = refit (next d (end {r = []})) g.first g.rest e
  sort_widened (one s) u (Trees xs) e d = absurd d
  sort_widened (one s) (many g) v e d = absurd (not_false e)
  sort_widened (many f) u (Tree x) e d = absurd d
  sort_widened (many f) (one t) v e d = absurd (not_false e)
  sort_widened (many f) (many g) (Trees xs) e d = refit d g.first g.rest e
  sort_widened (many f) (some g) (Trees xs) e d = refit d g.first g.rest e
  sort_widened (some f) (one t) v e d = absurd (not_false e)
  sort_widened (some f) (many g) v e d = absurd (not_false e)
  sort_widened (some f) (some g) v e d = refit d g.first g.rest e

  pub sorts_widened : (ts us behind : List ValueSort) (vs : List Value) → sorts_within ts us ≡ true → HaveSorts l (ts ++ behind) vs → HaveSorts l (us ++ behind) vs
  sorts_widened [] [] behind vs e d = d
  sorts_widened [] (u ∷ us) behind vs e d = absurd (not_false e)
  sorts_widened (t ∷ ts) [] behind vs e d = absurd (not_false e)
  sorts_widened (t ∷ ts) (u ∷ us) behind [] e d = absurd d
  sorts_widened (t ∷ ts) (u ∷ us) behind (v ∷ vs) e d = let b = both (sort_within t u) (sorts_within ts us) e in (sort_widened t u v b.0 d.0, sorts_widened ts us behind vs b.1 d.1)
