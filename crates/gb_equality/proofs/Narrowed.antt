-- What becomes of labels.
use Rattle.std.proofs.Common.{◌≡◌, ◌≢◌, ℕ, zero, suc, ◌+◌, ◌<◌, ◌≤◌, ◌⊎◌, inl, inr, ◌==◌, max, min, Bool, true, false, if◌then◌else◌, List, [], ◌∷◌, map, set, length, get_or, slice_get, Some, sum, refl, sym, ap, ◌∙◌, subst, arith}
use Rattle.std.specs.List.{Contains}
use Rattle.std.proofs.lemmas.Bool.{false≢true, cases_order}
use Rattle.std.proofs.lemmas.Bool.Decides.{Decides-eqb}
use Rattle.std.proofs.lemmas.List.{length-map, get_or_default, get_or-set_same, get_or-set_other, same_lists}
use Rattle.std.proofs.lemmas.List.Sums.{sum_by-cons}
use Rattle.gb_equality.specs.declared.table.Node.{Node}
use Rattle.gb_equality.specs.declared.closing.Progress.{Progress}
use Rattle.gb_equality.specs.declared.closing.Progress.TheVariants.{Clash, Changed, Settled}
use Rattle.gb_equality.specs.Labels.{Labels}
use Rattle.gb_closing.specs.Labels.{label_at}
use Rattle.gb_equality.specs.Table.{terms, put, relabelled, Reads, HasNone, IsLabel, AreJoined, IsSettled, AreNarrowed}
use Rattle.gb_equality.specs.Search.{IsEquated, AreSettled, IsSwept, IsSweptTo}

-- one label in place of another

put_same : (x y l : ℕ) → l ≡ x → put x y l ≡ y
put_same x y l e = ap (λ b. if b then y else l) ((Decides-eqb l x).1 e)

put_other : (x y l : ℕ) → l ≢ x → put x y l ≡ l
put_other x y l n = by_test (l == x) refl
  where
    by_test : (b : Bool) → (l == x) ≡ b → put x y l ≡ l
    by_test true e = absurd (n ((Decides-eqb l x).0 e))
    by_test false e = ap (λ b. if b then y else l) e

pub relabelled_at : (x y : ℕ) (ls : List ℕ) (i : ℕ) → i < length ls → label_at (relabelled x y ls) i ≡ put x y (label_at ls i)
relabelled_at x y [] i h = absurd (omega arith)
relabelled_at x y (l ∷ ls) zero h = refl
relabelled_at x y (l ∷ ls) (suc i) h = relabelled_at x y ls i (omega (arith, h))

pub relabelled_other : (x y : ℕ) (ls : List ℕ) (i : ℕ) → i < length ls → label_at ls i ≢ x → label_at (relabelled x y ls) i ≡ label_at ls i
relabelled_other x y ls i h n = relabelled_at x y ls i h ∙ put_other x y (label_at ls i) n

pub relabelled_same : (x y : ℕ) (ls : List ℕ) (i : ℕ) → i < length ls → label_at ls i ≡ x → label_at (relabelled x y ls) i ≡ y
relabelled_same x y ls i h e = relabelled_at x y ls i h ∙ put_same x y (label_at ls i) e

pub relabelled_rows : (x y : ℕ) (ls : List ℕ) → length (relabelled x y ls) ≡ length ls
relabelled_rows x y ls = length-map ls (put x y)

-- a reading that reads both labels alike reads the labels as before
pub relabelled_read : (read : ℕ → ℕ) (x y : ℕ) → read x ≡ read y → (ls : List ℕ) → map read (relabelled x y ls) ≡ map read ls
relabelled_read read x y e [] = refl
relabelled_read read x y e (l ∷ ls) = by_test (l == x) refl (relabelled_read read x y e ls)
  where
    by_test : (b : Bool) → (l == x) ≡ b → map read (relabelled x y ls) ≡ map read ls → map read (relabelled x y (l ∷ ls)) ≡ map read (l ∷ ls)
    by_test true q f =
        let same : read (put x y l) ≡ read l = ap read (put_same x y l ((Decides-eqb l x).0 q)) ∙ sym e ∙ sym (ap read ((Decides-eqb l x).0 q)) in
        ap (λ z. z ∷ map read (relabelled x y ls)) same ∙ ap (λ zs. read l ∷ zs) f
    by_test false q f =
        let same : read (put x y l) ≡ read l = ap read (ap (λ b. if b then y else l) q) in
        ap (λ z. z ∷ map read (relabelled x y ls)) same ∙ ap (λ zs. read l ∷ zs) f

-- sums of labels

put_le : (x y l : ℕ) → y ≤ x → put x y l ≤ l
put_le x y l h = by_test (l == x) refl
  where
    by_test : (b : Bool) → (l == x) ≡ b → put x y l ≤ l
    by_test true e = omega (arith, put_same x y l ((Decides-eqb l x).0 e), (Decides-eqb l x).0 e, h)
    by_test false e = let same : put x y l ≡ l = ap (λ b. if b then y else l) e in omega (arith, same)

pub sum_relabelled : (x y : ℕ) → y ≤ x → (ls : List ℕ) → sum (relabelled x y ls) ≤ sum ls
sum_relabelled x y h [] = omega arith
sum_relabelled x y h (l ∷ ls) =
    omega (arith, sum_by-cons (λ z. z) (put x y l) (relabelled x y ls), sum_by-cons (λ z. z) l ls, put_le x y l h, sum_relabelled x y h ls)

less_relabelled : (x y : ℕ) → y < x → (ls : List ℕ) (i : ℕ) → i < length ls → label_at ls i ≡ x → sum (relabelled x y ls) < sum ls
less_relabelled x y h [] i l e = absurd (omega (arith, l))
less_relabelled x y h (k ∷ ls) zero l e =
    let a : y ≤ x = omega (arith, h) in
    omega (arith, sum_by-cons (λ z. z) (put x y k) (relabelled x y ls), sum_by-cons (λ z. z) k ls, put_same x y k e, e, h, sum_relabelled x y a ls)
less_relabelled x y h (k ∷ ls) (suc i) l e =
    let a : y ≤ x = omega (arith, h) in
    let r = less_relabelled x y h ls i (omega (arith, l)) e in
    omega (arith, sum_by-cons (λ z. z) (put x y k) (relabelled x y ls), sum_by-cons (λ z. z) k ls, put_le x y k a, r)

pub sum_less : (x y : ℕ) → y < x → (ls : List ℕ) → Contains ls x → sum (relabelled x y ls) < sum ls
sum_less x y h ls c = less_relabelled x y h ls c.0 c.1 (get_or_default ls c.0 0 x c.1 ∙ c.2)

-- labels that become fewer

pub narrowed_itself : (nodes : List Node) (ls : List ℕ) → AreNarrowed nodes ls ls
narrowed_itself nodes ls = record { reads = λ L read r. r; truths = λ i h l. refl; fewer = omega arith; rows = refl }

pub narrowed_more : (nodes : List Node) (old mid new : List ℕ) → AreNarrowed nodes old mid → AreNarrowed nodes mid new → AreNarrowed nodes old new
narrowed_more nodes old mid new a b = record {
  reads = λ L read r. b.reads L read (a.reads L read r);
  truths = λ i h l.
      let e = a.truths i h l in
      b.truths i (omega (arith, a.rows, h)) (omega (arith, e, l)) ∙ e;
  fewer = omega (arith, a.fewer, b.fewer);
  rows = b.rows ∙ a.rows;
}

pub none_before : (nodes : List Node) (old new : List ℕ) → AreNarrowed nodes old new → HasNone nodes new → HasNone nodes old
none_before nodes old new a n L read r = n L read (a.reads L read r)

pub relabelled_reads : (nodes : List Node) (x y : ℕ) (ls : List ℕ) (L : Labels) (read : ℕ → ℕ) → read x ≡ read y → Reads nodes ls L read → Reads nodes (relabelled x y ls) L read
relabelled_reads nodes x y ls L read e r = record {
  labelling = r.labelling;
  falsity = r.falsity;
  truth = r.truth;
  each = relabelled_read read x y e ls ∙ r.each;
}

relabelled_narrows : (nodes : List Node) (x y : ℕ) (ls : List ℕ) → 1 < x → y ≤ x → ((L : Labels) (read : ℕ → ℕ) → Reads nodes ls L read → read x ≡ read y) → AreNarrowed nodes ls (relabelled x y ls)
relabelled_narrows nodes x y ls h l f = record {
  reads = λ L read r. relabelled_reads nodes x y ls L read (f L read r) r;
  truths = λ i k t. relabelled_other x y ls i k (λ e. omega (arith, e, t, h));
  fewer = sum_relabelled x y l ls;
  rows = relabelled_rows x y ls;
}

-- two labels that have to be one are made one

contained : (ls : List ℕ) (l : ℕ) → 1 < l → IsLabel ls l → Contains ls l
contained ls l h (inl x) = absurd (omega (arith, h, x))
contained ls l h (inr x) = x

module _ (nodes : List Node) (old : List ℕ) (x y : ℕ) (j : AreJoined nodes old x y) where
  greater : (from to : ℕ) → 1 < from → to < from → ((from ≡ x) × (to ≡ y)) ⊎ ((from ≡ y) × (to ≡ x)) → AreNarrowed nodes old (relabelled from to old) × (sum (relabelled from to old) < sum old)
  greater from to h l (inl e) = (
    relabelled_narrows nodes from to old h (omega (arith, l)) (λ L read r. ap read e.0 ∙ j.joined L read r ∙ sym (ap read e.1)),
    sum_less from to l old (contained old from h (subst (IsLabel old) (sym e.0) j.first)),
  )
  greater from to h l (inr e) = (
    relabelled_narrows nodes from to old h (omega (arith, l)) (λ L read r. ap read e.0 ∙ sym (j.joined L read r) ∙ sym (ap read e.1)),
    sum_less from to l old (contained old from h (subst (IsLabel old) (sym e.0) j.second)),
  )

  ordered : (x ≡ y) ⊎ (1 < max x y) → (x ≡ y) ⊎ ((x < y) ⊎ (y < x)) → AreNarrowed nodes old (relabelled (max x y) (min x y) old) × (sum (relabelled (max x y) (min x y) old) < sum old)
  ordered (inl e) o = absurd (j.apart e)
  ordered (inr h) (inl e) = absurd (j.apart e)
  ordered (inr h) (inr (inl l)) = greater (max x y) (min x y) h (omega (arith, l)) (inr (omega (arith, l), omega (arith, l)))
  ordered (inr h) (inr (inr l)) = greater (max x y) (min x y) h (omega (arith, l)) (inl (omega (arith, l), omega (arith, l)))

  pub equated : (new : List ℕ) → IsEquated x y old new true → AreNarrowed nodes old new × (sum new < sum old)
  equated new e =
      let r = ordered e.0 (cases_order x y) in
      subst (λ l. AreNarrowed nodes old l × (sum l < sum old)) (sym e.1) r

  two_truths : x < 2 → y < 2 → (x ≡ y) ⊎ ((x < y) ⊎ (y < x)) → HasNone nodes old
  two_truths a b (inl e) = λ L read r. j.apart e
  two_truths a b (inr (inl l)) = λ L read r.
      let p : x ≡ 0 = omega (arith, a, b, l) in
      let q : y ≡ 1 = omega (arith, a, b, l) in
      omega (arith, j.joined L read r, ap read p ∙ r.falsity, ap read q ∙ r.truth)
  two_truths a b (inr (inr l)) = λ L read r.
      let p : x ≡ 1 = omega (arith, a, b, l) in
      let q : y ≡ 0 = omega (arith, a, b, l) in
      omega (arith, j.joined L read r, ap read p ∙ r.truth, ap read q ∙ r.falsity)

  pub clash : (new : List ℕ) → IsEquated x y old new false → HasNone nodes old
  clash new e = two_truths (omega (arith, e.1)) (omega (arith, e.1)) (cases_order x y)

-- what a test of two labels makes of them

pub relabelled_itself : (x : ℕ) (ls : List ℕ) → relabelled x x ls ≡ ls
relabelled_itself x [] = refl
relabelled_itself x (l ∷ ls) = ap (λ z. z ∷ relabelled x x ls) (itself (l == x) refl) ∙ ap (λ zs. l ∷ zs) (relabelled_itself x ls)
  where
    itself : (b : Bool) → (l == x) ≡ b → put x x l ≡ l
    itself true e = ap (λ b. if b then x else l) e ∙ sym ((Decides-eqb l x).0 e)
    itself false e = ap (λ b. if b then x else l) e

pub equated_same : (x y : ℕ) (ls : List ℕ) → x ≡ y → IsEquated x y ls ls true
equated_same x y ls e =
    let p : max x y ≡ x = omega (arith, e) in
    let q : min x y ≡ x = omega (arith, e) in
    (inl e, sym (ap (λ k. relabelled k (min x y) ls) p ∙ ap (λ k. relabelled x k ls) q ∙ relabelled_itself x ls))

pub equated_truths : (x y : ℕ) (old new : List ℕ) → x ≢ y → max x y ≡ 1 → IsEquated x y old new false
equated_truths x y old new n e = (n, omega (arith, e))

pub equated_other : (x y from to : ℕ) (old new : List ℕ) → x ≢ y → from ≡ max x y → to ≡ min x y → from ≢ 1 → new ≡ relabelled from to old → IsEquated x y old new true
equated_other x y from to old new n p q k e =
    (inr (omega (arith, n, p, k)), e ∙ ap (λ z. relabelled z to old) p ∙ ap (λ z. relabelled (max x y) z old) q)

-- labels relabelled one after another
pub record RelabelledTo (x y : ℕ) (old now : List ℕ) (i : ℕ) : Type 0 where
  pub done : (k : ℕ) → k < i → label_at now k ≡ put x y (label_at old k)
  pub rest : (k : ℕ) → i ≤ k → label_at now k ≡ label_at old k

pub relabel_start : (x y : ℕ) (ls : List ℕ) → RelabelledTo x y ls ls 0
relabel_start x y ls = record { done = λ k l. absurd (omega (arith, l)); rest = λ k l. refl }

pub relabel_more : (x y : ℕ) (old now : List ℕ) (i z : ℕ) → i < length now → z ≡ put x y (label_at now i) → RelabelledTo x y old now i → RelabelledTo x y old (set now i z) (i + 1)
relabel_more x y old now i z l e h = record {
  done = λ k m. by_case k m (cases_order k i);
  rest = λ k m. get_or-set_other now i k z 0 (λ q. omega (arith, q, m)) ∙ h.rest k (omega (arith, m));
}
  where
    by_case : (k : ℕ) → k < i + 1 → (k ≡ i) ⊎ ((k < i) ⊎ (i < k)) → label_at (set now i z) k ≡ put x y (label_at old k)
    by_case k m (inl q) =
        ap (label_at (set now i z)) q ∙ get_or-set_same now i z 0 l ∙ e ∙ ap (put x y) (h.rest i (omega arith)) ∙ ap (λ j. put x y (label_at old j)) (sym q)
    by_case k m (inr (inl q)) = get_or-set_other now i k z 0 (λ p. omega (arith, p, q)) ∙ h.done k q
    by_case k m (inr (inr q)) = absurd (omega (arith, m, q))

pub relabel_end : (x y : ℕ) (old now : List ℕ) (i : ℕ) → length now ≡ length old → length now ≤ i → RelabelledTo x y old now i → now ≡ relabelled x y old
relabel_end x y old now i e l h =
    same_lists now (relabelled x y old) (e ∙ sym (relabelled_rows x y old)) (λ k d m.
    get_or_default now k d 0 m ∙ h.done k (omega (arith, m, l)) ∙ sym (relabelled_at x y old k (omega (arith, m, e)))
    ∙ get_or_default (relabelled x y old) k 0 d (omega (arith, m, e, relabelled_rows x y old)))

-- going over the rows

pub swept_start : (nodes : List Node) (ls : List ℕ) → IsSweptTo nodes ls ls 0 Settled
swept_start nodes ls = (refl, λ i l. absurd (omega (arith, l)))

-- a row that implies nothing
pub swept_idle : (nodes : List Node) (old new : List ℕ) (at : ℕ) (p : Progress) → IsSweptTo nodes old new at p → IsSettled nodes new at → IsSweptTo nodes old new (at + 1) p
swept_idle nodes old new at Clash h s = h
swept_idle nodes old new at Changed h s = h
swept_idle nodes old new at Settled h s = (h.0, λ i l. by_case i (cases_order i at) l)
  where
    by_case : (i : ℕ) → (i ≡ at) ⊎ ((i < at) ⊎ (at < i)) → i < at + 1 → IsSettled nodes new i
    by_case i (inl e) l = subst (IsSettled nodes new) (sym e) s
    by_case i (inr (inl k)) l = h.1 i k
    by_case i (inr (inr k)) l = absurd (omega (arith, k, l))

clash_or_narrows : (nodes : List Node) (old new : List ℕ) (at : ℕ) (p : Progress) → IsSweptTo nodes old new at p → HasNone nodes old ⊎ AreNarrowed nodes old new
clash_or_narrows nodes old new at Clash h = inl h
clash_or_narrows nodes old new at Changed h = inr h.0
clash_or_narrows nodes old new at Settled h = inr (subst (AreNarrowed nodes old) (sym h.0) (narrowed_itself nodes old))

-- a row that makes labels one
pub swept_on : (nodes : List Node) (old mid new : List ℕ) (at : ℕ) (p : Progress) → p ≢ Clash → IsSweptTo nodes old mid at p → AreNarrowed nodes mid new × (sum new < sum mid) → IsSweptTo nodes old new (at + 1) Changed
swept_on nodes old mid new at Clash c h n = absurd (c refl)
swept_on nodes old mid new at Changed c h n = (narrowed_more nodes old mid new h.0 n.0, omega (arith, h.1, n.1))
swept_on nodes old mid new at Settled c h n = subst (λ l. AreNarrowed nodes l new × (sum new < sum l)) h.0 n

-- a row that shows that there is no labelling
pub swept_clash : (nodes : List Node) (old mid new : List ℕ) (at : ℕ) (p : Progress) → IsSweptTo nodes old mid at p → HasNone nodes mid → IsSweptTo nodes old new (at + 1) Clash
swept_clash nodes old mid new at p h n = by_case (clash_or_narrows nodes old mid at p h)
  where
    by_case : HasNone nodes old ⊎ AreNarrowed nodes old mid → HasNone nodes old
    by_case (inl k) = k
    by_case (inr k) = none_before nodes old mid k n

pub swept_end : (nodes : List Node) (old new : List ℕ) (at : ℕ) (p : Progress) → length nodes ≤ at → IsSweptTo nodes old new at p → IsSwept nodes old new p
swept_end nodes old new at Clash l h = h
swept_end nodes old new at Changed l h = h
swept_end nodes old new at Settled l h = (h.0, λ i k. h.1 i (omega (arith, k, l)))
