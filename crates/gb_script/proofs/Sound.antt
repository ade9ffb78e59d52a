-- What the test tells of a grammar.
use Rattle.std.specs.Prelude.{if◌then◌else◌, ◌≡◌, ℕ, zero, suc, ◌+◌, ◌<◌, ◌≤◌, [], ◌∷◌, Bool, true, false, not, ◌&&◌, Option, Some, nat_lt, nat_eq, slice_get, bit_or}
use Rattle.std.proofs.Common.{cond, ⊎_elim, refl, ap, sym, ◌∙◌, subst, arith}
use Rattle.std.proofs.lemmas.Bool.{ltb-true, leb-true, eqb-true, eq-eqb, false_from_ne_true}
use Rattle.std.proofs.Math.Nat.{eq-or-lt_of_le}
use Rattle.gb_script.specs.Grammar.{Grammar, Production, has, IsProduction}
use Rattle.gb_script.specs.Check.{Claims, claim_of, implies, within, apart, all_nullable, all_first, lead_weight, all_lower, all_known, follow_ok, sets_ok, row_ok, rows_ok, one_chosen, leads, all_led, productions_ok, pick_of}
use Rattle.gb_script.proofs.Tests.{both, and_both, implied, not_true}
use Rattle.gb_script.proofs.Sets.{within_has, apart_has, has_left, has_right, has_either}

pub record Sound {R : Type 0} (g : Grammar R) (c : Claims) : Type 0 where
  pub known : (n : ℕ) (r : Production R) → IsProduction g n r → all_known c.count (r.body) ≡ true
  pub nulls : (n : ℕ) (r : Production R) → IsProduction g n r → all_nullable c (r.body) ≡ true → (claim_of c n).nullable ≡ true
  pub lighter : (n : ℕ) (r : Production R) → IsProduction g n r → lead_weight c (r.body) < (claim_of c n).weight
  pub firsts : (n : ℕ) (r : Production R) (t : ℕ) → IsProduction g n r → has (all_first c (r.body)) t ≡ true → (has (claim_of c n).first t ≡ true) × (has r.starts t ≡ true)
  pub ends : (n : ℕ) (r : Production R) (t : ℕ) → IsProduction g n r → all_nullable c (r.body) ≡ true → has (claim_of c n).follow t ≡ true → has r.stops t ≡ false → has r.starts t ≡ true
  pub free : (n : ℕ) (r : Production R) (t : ℕ) → IsProduction g n r → has r.starts t ≡ true → has r.stops t ≡ false
  pub last : (n : ℕ) (r : Production R) → IsProduction g n r → has r.stops 0 ≡ false
  pub follows : (n : ℕ) (r : Production R) → IsProduction g n r → follow_ok c n (r.body) ≡ true
  pub picks : (n : ℕ) (r : Production R) (t : ℕ) → IsProduction g n r → has r.starts t ≡ true → pick_of g n t ≡ Some r
  pub grows : (n : ℕ) → n < c.count → (r : Production R) × IsProduction g n r × (r.stops ≡ 0) × (all_lower c (claim_of c n).height (r.body) ≡ true)

module _ {R : Type 0} where
  first_picked : (a : Bool) (s : Production R) (o : Option (Production R)) → a ≡ true → cond a (Some s) o ≡ Some s
  first_picked true s o h = refl
  first_picked false s o h = absurd cc

  not_first : (a : Bool) → (a ≡ true → ⊥) → (s : Production R) (o x : Option (Production R)) → o ≡ x → cond a (Some s) o ≡ x
  not_first true h s o x e = absurd (h refl)
  not_first false h s o x e = e

  -- what is tested of a row in its place
  row_at : (parts : ℕ) (c : Claims) (rows : Grammar R) (i : ℕ) (r : Production R) → rows_ok parts c rows ≡ true → slice_get rows i ≡ Some r → row_ok parts c r.part r ≡ true
  row_at parts c [] i r h e = cc
  row_at parts c (s ∷ rows) zero r h e =
      let q : s ≡ r = cc in
      subst (λ (x : Production R). row_ok parts c x.part x ≡ true) q (both (row_ok parts c s.part s) (rows_ok parts c rows) h).0
  row_at parts c (s ∷ rows) (suc i) r h e = row_at parts c rows i r (both (row_ok parts c s.part s) (rows_ok parts c rows) h).1 e

  -- The rows come after the row `s`, and after rows of its part that are chosen at the kinds `taken`.
  record After (n kinds : ℕ) (s : Production R) (rows : Grammar R) : Type 0 where
    taken : ℕ
    rest : one_chosen s.part taken rows ≡ true
    own : (t : ℕ) → has s.starts t ≡ true → has taken t ≡ true
    order : n ≤ s.part
    kept : (t : ℕ) → n ≡ s.part → has kinds t ≡ true → has taken t ≡ true
    free : (t : ℕ) → n ≡ s.part → has kinds t ≡ true → has s.starts t ≡ true → ⊥

  after_by : (b : Bool) (n kinds : ℕ) (s : Production R) (rows : Grammar R) → nat_eq n s.part ≡ b
      → (if b then apart kinds s.starts && one_chosen n (bit_or kinds s.starts) rows else nat_lt n s.part && one_chosen s.part s.starts rows) ≡ true → After n kinds s rows
  after_by true n kinds s rows e h =
      let a = both (apart kinds s.starts) (one_chosen n (bit_or kinds s.starts) rows) h in
      let same = eqb-true n s.part e in
      record {
        taken = bit_or kinds s.starts;
        rest = subst (λ (k : ℕ). one_chosen k (bit_or kinds s.starts) rows ≡ true) same a.1;
        own = has_right kinds s.starts;
        order = omega arith;
        kept = λ t p. has_left kinds s.starts t;
        free = λ t p. apart_has kinds s.starts t a.0;
      }
  after_by false n kinds s rows e h =
      let a = both (nat_lt n s.part) (one_chosen s.part s.starts rows) h in
      let less = ltb-true n s.part a.0 in
      record { taken = s.starts; rest = a.1; own = λ t k. k; order = omega arith; kept = λ t p k. absurd (omega arith); free = λ t p k l. absurd (omega arith) }

  after : (n kinds : ℕ) (s : Production R) (rows : Grammar R) → one_chosen n kinds (s ∷ rows) ≡ true → After n kinds s rows
  after n kinds s rows h = after_by (nat_eq n s.part) n kinds s rows refl h

  -- A later row is of a later part, or is chosen at other kinds.
  record Later (n kinds t : ℕ) (r : Production R) : Type 0 where
    order : n ≤ r.part
    free : n ≡ r.part → has kinds t ≡ true → has r.starts t ≡ true → ⊥

  later : (n kinds : ℕ) (rows : Grammar R) (t i : ℕ) (r : Production R) → one_chosen n kinds rows ≡ true → slice_get rows i ≡ Some r → Later n kinds t r
  later n kinds [] t i r h e = cc
  later n kinds (s ∷ rows) t zero r h e =
      let q : s ≡ r = cc in
      let a = after n kinds s rows h in
      subst (λ (z : Production R). Later n kinds t z) q (record { order = a.order; free = a.free t })
  later n kinds (s ∷ rows) t (suc i) r h e =
      let a = after n kinds s rows h in
      let b = later s.part a.taken rows t i r a.rest e in
      let o = a.order in
      let l = b.order in
      record { order = omega arith; free = λ (p : n ≡ r.part) k l. b.free (omega arith) (a.kept t (omega arith) k) l }

  one_picked : (m kinds : ℕ) (rows : Grammar R) (n t i : ℕ) (r : Production R) → one_chosen m kinds rows ≡ true → slice_get rows i ≡ Some r → r.part ≡ n → has r.starts t ≡ true → pick_of rows n t ≡ Some r
  one_picked m kinds [] n t i r h e p k = cc
  one_picked m kinds (s ∷ rows) n t zero r h e p k =
      let q : s ≡ r = cc in
      first_picked (nat_eq s.part n && has s.starts t) s (pick_of rows n t) (and_both (nat_eq s.part n) (has s.starts t) (eq-eqb s.part n (ap (λ (z : Production R). z.part) q ∙ p)) (subst (λ (z : Production R). has z.starts t ≡ true) (sym q) k)) ∙ ap (λ (z : Production R). Some z) q
  one_picked m kinds (s ∷ rows) n t (suc i) r h e p k =
      let a = after m kinds s rows h in
      not_first (nat_eq s.part n && has s.starts t)
      (λ (b : nat_eq s.part n && has s.starts t ≡ true).
      let y = both (nat_eq s.part n) (has s.starts t) b in
      (later s.part a.taken rows t i r a.rest e).free (eqb-true s.part n y.0 ∙ sym p) (a.own t y.1) k)
      s (pick_of rows n t) (Some r) (one_picked s.part a.taken rows n t i r a.rest e p k)

record Low {R : Type 0} (c : Claims) (n : ℕ) (rows : Grammar R) : Type 0 where
  row : Production R
  place : ℕ
  row_is : slice_get rows place ≡ Some row
  part_is : row.part ≡ n
  free : row.stops ≡ 0
  low : all_lower c (claim_of c n).height (row.body) ≡ true

module _ {R : Type 0} (c : Claims) where
  low_here : (n : ℕ) (r : Production R) (rows : Grammar R) → leads c n r ≡ true → Low c n (r ∷ rows)
  low_here n r rows h =
      let l = all_lower c (claim_of c n).height (r.body) in
      let y = both (nat_eq r.part n) (nat_eq r.stops 0 && l) h in
      let z = both (nat_eq r.stops 0) l y.1 in
      record { row = r; place = 0; row_is = refl; part_is = eqb-true r.part n y.0; free = eqb-true r.stops 0 z.0; low = z.1 }

  low_later : (n : ℕ) (r : Production R) (rows : Grammar R) → Low c n rows → Low c n (r ∷ rows)
  low_later n r rows m = record { row = m.row; place = suc m.place; row_is = m.row_is; part_is = m.part_is; free = m.free; low = m.low }

  -- the parts from `n` on have rows that lead to texts
  abbrev Led : ℕ → Grammar R → Type 0
  Led n rows = (m : ℕ) → n ≤ m → m < c.count → Low c m rows

  led_more : (b : Bool) (n : ℕ) (r : Production R) (rows : Grammar R) → (b ≡ true → Low c n (r ∷ rows)) → (all_led c (n + 1) rows ≡ true → Led (n + 1) rows) → (all_led c n rows ≡ true → Led n rows)
      → (if b then all_led c (n + 1) rows else all_led c n rows) ≡ true → Led n (r ∷ rows)
  led_more true n r rows here next same h m le lt =
      ⊎_elim (λ (e : n ≡ m). subst (λ (k : ℕ). Low c k (r ∷ rows)) e (here refl)) (λ (l : n < m). low_later m r rows (next h m (omega arith) lt)) (eq-or-lt_of_le le)
  led_more false n r rows here next same h m le lt = low_later m r rows (same h m le lt)

  led : (n : ℕ) (rows : Grammar R) → all_led c n rows ≡ true → Led n rows
  led n [] h m le lt = let most = leb-true c.count n h in absurd (omega arith)
  led n (r ∷ rows) h m le lt = led_more (leads c n r) n r rows (low_here n r rows) (led (n + 1) rows) (led n rows) h m le lt

module _ {R : Type 0} (g : Grammar R) (c : Claims) (ok : productions_ok c g ≡ true) where
  record Parts : Type 0 where
    rows : rows_ok c.count c g ≡ true
    chosen : one_chosen 0 0 g ≡ true
    led : all_led c 0 g ≡ true

  parts : Parts
  parts =
      let a = both (rows_ok c.count c g) (one_chosen 0 0 g && all_led c 0 g) ok in
      let b = both (one_chosen 0 0 g) (all_led c 0 g) a.1 in
      record { rows = a.0; chosen = b.0; led = b.1 }

  row_of : (n : ℕ) (r : Production R) → IsProduction g n r → row_ok c.count c n r ≡ true
  row_of n r w = subst (λ (k : ℕ). row_ok c.count c k r ≡ true) w.part_is (row_at c.count c g w.place r parts.rows w.row_is)

  record RowFacts (n : ℕ) (r : Production R) : Type 0 where
    known : all_known c.count (r.body) ≡ true
    null : implies (all_nullable c (r.body)) (claim_of c n).nullable ≡ true
    light : nat_lt (lead_weight c (r.body)) (claim_of c n).weight ≡ true
    last : not (has r.stops 0) ≡ true
    sets : sets_ok c n r ≡ true

  row_facts : (n : ℕ) (r : Production R) → IsProduction g n r → RowFacts n r
  row_facts n r w =
      let body = r.body in
      let l = nat_lt (lead_weight c body) (claim_of c n).weight in
      let e = not (has r.stops 0) in
      let k = sets_ok c n r in
      let i = implies (all_nullable c body) (claim_of c n).nullable in
      let a = both (all_known c.count body) (i && (l && (e && k))) (row_of n r w) in
      let b = both i (l && (e && k)) a.1 in
      let d = both l (e && k) b.1 in
      let f = both e k d.1 in
      record { known = a.0; null = b.0; light = d.0; last = f.0; sets = f.1 }

  record SetFacts (n : ℕ) (r : Production R) : Type 0 where
    first : within (all_first c (r.body)) (claim_of c n).first ≡ true
    start : within (all_first c (r.body)) r.starts ≡ true
    end : implies (all_nullable c (r.body)) (within (claim_of c n).follow (bit_or r.starts r.stops)) ≡ true
    free : apart r.starts r.stops ≡ true
    follow : follow_ok c n (r.body) ≡ true

  set_facts : (n : ℕ) (r : Production R) → IsProduction g n r → SetFacts n r
  set_facts n r w =
      let x = within (all_first c (r.body)) r.starts in
      let y = implies (all_nullable c (r.body)) (within (claim_of c n).follow (bit_or r.starts r.stops)) in
      let z = apart r.starts r.stops in
      let a = both (within (all_first c (r.body)) (claim_of c n).first) (x && (y && (z && follow_ok c n (r.body)))) (row_facts n r w).sets in
      let b = both x (y && (z && follow_ok c n (r.body))) a.1 in
      let d = both y (z && follow_ok c n (r.body)) b.1 in
      let f = both z (follow_ok c n (r.body)) d.1 in
      record { first = a.0; start = b.0; end = d.0; free = f.0; follow = f.1 }

  ended : (n : ℕ) (r : Production R) (t : ℕ) → IsProduction g n r → all_nullable c (r.body) ≡ true → has (claim_of c n).follow t ≡ true → has r.stops t ≡ false → has r.starts t ≡ true
  ended n r t w h k f =
      let all = implied (all_nullable c (r.body)) (within (claim_of c n).follow (bit_or r.starts r.stops)) (set_facts n r w).end h in
      ⊎_elim (λ (a : has r.starts t ≡ true). a) (λ (a : has r.stops t ≡ true). absurd cc)
      (has_either r.starts r.stops t (within_has (claim_of c n).follow (bit_or r.starts r.stops) t all k))

  pub sound : Sound g c
  sound = record {
    known = λ n r w. (row_facts n r w).known;
    nulls = λ n r w. implied (all_nullable c (r.body)) (claim_of c n).nullable (row_facts n r w).null;
    lighter = λ n r w. ltb-true (lead_weight c (r.body)) (claim_of c n).weight (row_facts n r w).light;
    firsts = λ n r t w h. (within_has (all_first c (r.body)) (claim_of c n).first t (set_facts n r w).first h, within_has (all_first c (r.body)) r.starts t (set_facts n r w).start h);
    ends = ended;
    free = λ n r t w h. false_from_ne_true (has r.stops t) (apart_has r.starts r.stops t (set_facts n r w).free h);
    last = λ n r w. not_true (has r.stops 0) (row_facts n r w).last;
    follows = λ n r w. (set_facts n r w).follow;
    picks = λ n r t w k. one_picked 0 0 g n t w.place r parts.chosen w.row_is w.part_is k;
    grows = λ n lt.
        let m = led c 0 g parts.led n (omega arith) lt in
        (m.row, record { place = m.place; part_is = m.part_is; row_is = m.row_is }, m.free, m.low);
  }
