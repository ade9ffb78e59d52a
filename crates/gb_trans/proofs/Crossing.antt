-- Statements that don't touch what the others write run alike in either order.
use Rattle.std.proofs.Common.{◌≡◌, inl, inr, ◌⊎◌, ℕ, ◌*◌, Bool, true, false, cond, not, List, [], ◌∷◌, ◌++◌, Option, Some, None, refl, ap, sym, ◌∙◌, arith}
use Rattle.std.specs.Ordering.{eq_by_cmp}
use Rattle.std.specs.FinMap.Entries.{find, where_key, is_sorted-where_key, find-where_key, find-put}
use Rattle.gb_core.specs.declared.value.Value.{Value}
use Rattle.gb_dist.specs.WeightedList.{WeightedList, mass, bind, dmap, Every}
use Rattle.gb_dist.proofs.Masses.{mass-bind, mass-dmap, mass-every, mass-swap}
use Rattle.gb_terms.specs.declared.term.Instr.{Instr}
use Rattle.gb_meaning.specs.Commands.{statements}
use Rattle.gb_meaning.specs.Memory.{Memory}
use Rattle.gb_meaning.specs.Names.{Path, Map, path_order, path_order_total, get, set}
use Rattle.gb_meaning.specs.Program.{Program}
use Rattle.gb_meaning.specs.Runs.{out}
use Rattle.gb_meaning.specs.Setting.{Setting}
use Rattle.gb_meaning.specs.State.{State}
use Rattle.gb_meaning.specs.Values.{fit}
use Rattle.gb_meaning.proofs.Maps.{path_order-same, map_same}
use Rattle.gb_laws.specs.Cells.{Key, Cell, get_at}
use Rattle.gb_laws.specs.Cells.Key.{global, local}
use Rattle.gb_laws.specs.Pairs.{Zip, SameOrKept}
use Rattle.gb_laws.specs.Writes.{Unwritten}
use Rattle.gb_laws.proofs.Leaves.{run_leaves}
use Rattle.gb_typing.specs.Meaning.{run, denominator}
use Rattle.gb_typing.proofs.Runs.{run_append, denominator_append}
use Rattle.gb_prog.specs.Loops.{RunAlike}
use Rattle.gb_trans.proofs.Within.{ReadsWithin, run_within}

-- A map that holds what one map holds at the paths that pass a test, and what another one holds at the others.

abbrev sets : List (Path × Value) → Map → Map
sets [] m = m
sets (e ∷ es) m = set (sets es m) e.0 e.1

abbrev kept : (Path → Bool) → Map → Map
kept P m = record { entries = where_key path_order P m.entries; sorted = is_sorted-where_key path_order P m.entries m.sorted }

abbrev joined : (Path → Bool) → Map → Map → Map
joined P n p = sets (where_key path_order P n.entries) (kept (λ x. not (P x)) p)

abbrev first_of : Option Value → Option Value → Option Value
first_of None o = o
first_of (Some v) o = Some v

get-sets : (es : List (Path × Value)) (m : Map) (x : Path) → get (sets es m) x ≡ first_of (find path_order x es) (get m x)
get-sets [] m x = refl
get-sets (e ∷ es) m x = find-put path_order path_order_total x e.0 e.1 (sets es m).entries ∙ step (eq_by_cmp path_order x e.0) (get-sets es m x)
  where
    step : (b : Bool) → get (sets es m) x ≡ first_of (find path_order x es) (get m x) →
        cond b (Some e.1) (get (sets es m) x) ≡ first_of (cond b (Some e.1) (find path_order x es)) (get m x)
    step true h = refl
    step false h = h

found_where : (P : Path → Bool) (m : Map) (x : Path) → find path_order x (where_key path_order P m.entries) ≡ cond (P x) (get m x) None
found_where P m x = find-where_key path_order P x (λ y e. ap P (sym (path_order-same x y e))) m.entries

get-joined : (P : Path → Bool) (n p : Map) (x : Path) → get (joined P n p) x ≡ cond (P x) (get n x) (get p x)
get-joined P n p x =
    get-sets (where_key path_order P n.entries) (kept (λ x. not (P x)) p) x
    ∙ ap (λ o. first_of o (get (kept (λ x. not (P x)) p) x)) (found_where P n x)
    ∙ ap (first_of (cond (P x) (get n x) None)) (found_where (λ x. not (P x)) p x)
    ∙ step (P x) (get n x) (get p x)
  where
    step : (b : Bool) (u v : Option Value) → first_of (cond b u None) (cond (not b) v None) ≡ cond b u v
    step true None v = refl
    step true (Some w) v = refl
    step false u v = refl

-- the same of memories, by a test of places
abbrev mixed : (Key → Bool) → Memory → Memory → Memory
mixed W n p = record { globals = joined (λ x. W (global x)) n.globals p.globals; frame = joined (λ x. W (local x)) n.frame p.frame }

get_at-mixed : (W : Key → Bool) (n p : Memory) (k : Key) → get_at (mixed W n p) k ≡ cond (W k) (get_at n k) (get_at p k)
get_at-mixed W n p (global x) = get-joined (λ x. W (global x)) n.globals p.globals x
get_at-mixed W n p (local x) = get-joined (λ x. W (local x)) n.frame p.frame x

-- memories that hold the same are equal
memory_same : (m n : Memory) → ((k : Key) → get_at m k ≡ get_at n k) → m ≡ n
memory_same m n h =
    let a = map_same m.globals n.globals (λ x. h (global x)) in
    let b = map_same m.frame n.frame (λ x. h (local x)) in
    λ i. record { globals = a i; frame = b i }

every_place : (C : Key → Type 0) (R : Memory → Key → Type 0) (l : WeightedList Memory) → ((k : Key) → C k → Every (λ n. R n k) l) → Every (λ n. (k : Key) → C k → R n k) l
every_place C R [] h = tt
every_place C R (e ∷ l) h = ((λ k c. (h k c).0), every_place C R l (λ k c. (h k c).1))

-- entries that are determined by those of another list
zip_mapped : (f : Memory → Memory) (R : Memory → Memory → Type 0) (P : Memory → Type 0) → ((p q : Memory) → R p q → P q → q ≡ f p) → (l r : WeightedList Memory) →
    Zip R l r → Every P r → r ≡ dmap f l
zip_mapped f R P h [] [] z w = refl
zip_mapped f R P h [] (e ∷ r) z w = absurd z
zip_mapped f R P h (d ∷ l) [] z w = absurd z
zip_mapped f R P h (d ∷ l) (e ∷ r) z w =
    let a = h d.0 e.0 z.1 w.0 in
    let b = zip_mapped f R P h l r z.2 w.1 in
    λ i. (a i, sym z.0 i) ∷ b i

-- none of the places that pass a test
abbrev pub Outside : (Key → Bool) → Cell → Type 0
Outside W c = W c.key ≡ false

module _ (g : Setting) (s : State) where
  -- what a program leaves of a memory
  abbrev pub Leaves : Program → Memory → Memory → Type 0
  Leaves a m n = (k : Key) → Unwritten g a k → get_at n k ≡ get_at m k

  pub leaves : (a : Program) (m : Memory) → Every (Leaves a m) (out g s a m)
  leaves a m = every_place (Unwritten g a) (λ n k. get_at n k ≡ get_at m k) (out g s a m) (λ k u. run_leaves g s a k u m)

  -- The run of a program after another one, which writes at these places alone, is its run before it, with what was written.
  module _ (a b : Program) (W : Key → Bool) (written : (k : Key) → W k ≡ false → Unwritten g a k) (unread : ReadsWithin g (Outside W) b)
      (unwritten : (k : Key) → W k ≡ true → Unwritten g b k) where
    later : (m n : Memory) → Leaves a m n → out g s b n ≡ dmap (mixed W n) (out g s b m)
    later m n h = zip_mapped (mixed W n) (SameOrKept m n) (Leaves b n) pair (out g s b m) (out g s b n)
        (run_within g (Outside W) s b unread m n (λ c e. ap (fit g.types c.ty) (sym (h c.key (written c.key e))))) (leaves b n)
      where
        pair : (p q : Memory) → SameOrKept m n p q → Leaves b n q → q ≡ mixed W n p
        pair p q z w = memory_same q (mixed W n p) (λ k. place k (W k) refl ∙ sym (get_at-mixed W n p k))
          where
            place : (k : Key) (t : Bool) → W k ≡ t → get_at q k ≡ cond (W k) (get_at n k) (get_at p k)
            place k true e = w k (unwritten k e) ∙ ap (λ t. cond t (get_at n k) (get_at p k)) (sym e)
            place k false e = either (z k) ∙ ap (λ t. cond t (get_at n k) (get_at p k)) (sym e)
              where
                either : (get_at p k ≡ get_at q k) ⊎ ((get_at p k ≡ get_at m k) × (get_at q k ≡ get_at n k)) → get_at q k ≡ get_at p k
                either (inl x) = sym x
                either (inr x) = x.1 ∙ h k (written k e) ∙ sym x.0

    -- the mass of both runs, the other one first
    mass_of_both : (m : Memory) (f : Memory → ℕ) → mass (bind (out g s a m) (λ n. out g s b n)) f ≡ mass (out g s a m) (λ n. mass (out g s b m) (λ p. f (mixed W n p)))
    mass_of_both m f =
        mass-bind (out g s a m) (λ n. out g s b n) f
        ∙ mass-every {P = Leaves a m} (out g s a m) (λ n. mass (out g s b n) f) (λ n. mass (out g s b m) (λ p. f (mixed W n p))) (leaves a m)
        (λ n h. ap (λ l. mass l f) (later m n h) ∙ mass-dmap (mixed W n) (out g s b m) f)

  module _ (a b : Program) (V W : Key → Bool) (writes_a : (k : Key) → V k ≡ false → Unwritten g a k) (writes_b : (k : Key) → W k ≡ false → Unwritten g b k)
      (unread_a : ReadsWithin g (Outside W) a) (unread_b : ReadsWithin g (Outside V) b)
      (unwritten_a : (k : Key) → W k ≡ true → Unwritten g a k) (unwritten_b : (k : Key) → V k ≡ true → Unwritten g b k) where
    same_mix : (m n p : Memory) → Leaves a m n → Leaves b m p → mixed V n p ≡ mixed W p n
    same_mix m n p h j = memory_same (mixed V n p) (mixed W p n) (λ k. get_at-mixed V n p k ∙ place k (V k) refl (W k) refl ∙ sym (get_at-mixed W p n k))
      where
        place : (k : Key) (t : Bool) → V k ≡ t → (u : Bool) → W k ≡ u → cond t (get_at n k) (get_at p k) ≡ cond u (get_at p k) (get_at n k)
        place k true e true i = h k (unwritten_a k i) ∙ sym (j k (unwritten_b k e))
        place k true e false i = refl
        place k false e true i = refl
        place k false e false i = j k (writes_b k i) ∙ sym (h k (writes_a k e))

    same_mass : (m : Memory) (f : Memory → ℕ) → mass (bind (out g s a m) (λ n. out g s b n)) f ≡ mass (bind (out g s b m) (λ n. out g s a n)) f
    same_mass m f =
        mass_of_both a b V writes_a unread_b unwritten_b m f
        ∙ mass-every {P = Leaves a m} (out g s a m) (λ n. mass (out g s b m) (λ p. f (mixed V n p))) (λ n. mass (out g s b m) (λ p. f (mixed W p n))) (leaves a m)
        (λ n h. mass-every {P = Leaves b m} (out g s b m) (λ p. f (mixed V n p)) (λ p. f (mixed W p n)) (leaves b m) (λ p j. ap f (same_mix m n p h j)))
        ∙ mass-swap (out g s a m) (out g s b m) (λ n p. f (mixed W p n))
        ∙ sym (mass_of_both b a W writes_b unread_a unwritten_a m f)

turned : (j k : ℕ) → j * k ≡ k * j
turned j k = omega arith

-- two lists of statements
module _ (g : Setting) (s : State) (is js : List Instr) (V W : Key → Bool)
    (writes_is : (k : Key) → V k ≡ false → Unwritten g (statements g is) k) (writes_js : (k : Key) → W k ≡ false → Unwritten g (statements g js) k)
    (unread_is : ReadsWithin g (Outside W) (statements g is)) (unread_js : ReadsWithin g (Outside V) (statements g js))
    (unwritten_is : (k : Key) → W k ≡ true → Unwritten g (statements g is) k) (unwritten_js : (k : Key) → V k ≡ true → Unwritten g (statements g js) k) where
  pub crossing : RunAlike g s (statements g (is ++ js)) (statements g (js ++ is))
  crossing m f =
      ap (λ l. mass l f * denominator g (js ++ is)) (run_append g s is js m)
      ∙ ap (λ x. x * denominator g (js ++ is)) (same_mass g s (statements g is) (statements g js) V W writes_is writes_js unread_is unread_js unwritten_is unwritten_js m f)
      ∙ ap (λ l. mass l f * denominator g (js ++ is)) (sym (run_append g s js is m))
      ∙ ap (λ d. mass (run g s (js ++ is) m) f * d) (denominator_append g js is ∙ turned (denominator g js) (denominator g is) ∙ sym (denominator_append g is js))
