-- The machine's steps, against what the grammar derives.
use Rattle.std.specs.Prelude.{if◌then◌else◌, ◌≡◌, ℕ, suc, ◌+◌, ◌^◌, ◌<◌, List, [], ◌∷◌, ◌++◌, Bool, true, false, ◌&&◌, Option, Some, None, nat_lt, nat_eq, ◌⊎◌}
use Rattle.std.proofs.Common.{zero-add, ⊎_elim, refl, ap, sym, ◌∙◌, subst, inl, inr, arith}
use Rattle.std.proofs.lemmas.List.{append_assoc}
use Rattle.std.proofs.lemmas.List.Elements.{All-nil, All-push, All-append, All-weaker}
use Rattle.std.proofs.lemmas.Bool.{ltb-true, eqb-true}
use Rattle.std.proofs.lemmas.Option.{same_Some}
use Rattle.gb_script.specs.declared.table.Symbol.{Symbol}
use Rattle.gb_script.specs.declared.table.Symbol.TheVariants.{Token, Part}
use Rattle.gb_script.specs.declared.table.Step.{Step}
use Rattle.gb_script.specs.Grammar.{Grammar, Production, has, IsProduction, Allowed, step, Derives, done, token, choose}
use Rattle.gb_script.specs.Check.{Claims, claim_of, implies, within, symbol_nullable, symbol_first, symbol_weight, lead_weight, all_nullable, all_first, all_known, symbol_follow_ok, follow_ok, pick_of}
use Rattle.gb_script.specs.Stack.{Followed, Good, Expands, Stuck, Reads}
use Rattle.gb_script.proofs.Tests.{both, and_both, implied}
use Rattle.gb_script.proofs.Sets.{has_own, within_has, starts_of, starts_first, starts_later}
use Rattle.gb_script.proofs.Sound.{Sound}

lead_more : (x y : Bool) (w b s m : ℕ) → m ≡ b + (if y then s else 0) → w + (if x then m else 0) ≡ w + (if x then b else 0) + (if x && y then s else 0)
lead_more true true w b s m e = omega arith
lead_more true false w b s m e = omega arith
lead_more false y w b s m e = omega arith

lead_less : (x y : Bool) (b s w : ℕ) → (x ≡ true → y ≡ true) → b < w → b + (if x then s else 0) < w + (if y then s else 0)
lead_less true true b s w h l = omega arith
lead_less true false b s w h l = absurd (let e = h refl in cc)
lead_less false true b s w h l = omega arith
lead_less false false b s w h l = omega arith

pub record Picked {R : Type 0} (rows : Grammar R) (n t : ℕ) (r : Production R) : Type 0 where
  pub is : IsProduction rows n r
  pub starts : has r.starts t ≡ true

module _ {R : Type 0} where
  none_some : {x : Production R} → None ≡ Some x → ⊥
  none_some h = cc

  picked_later : (x r : Production R) (rows : Grammar R) (n t : ℕ) → Picked rows n t r → Picked (x ∷ rows) n t r
  picked_later x r rows n t a = record { is = record { place = suc a.is.place; row_is = a.is.row_is; part_is = a.is.part_is }; starts = a.starts }

  picked_first : (a b : Bool) (x r : Production R) (rows : Grammar R) (n t : ℕ) {o : Option (Production R)} → (a ≡ true → x.part ≡ n) → (b ≡ true → has x.starts t ≡ true) → (if a && b then Some x else o) ≡ Some r → (o ≡ Some r → Picked rows n t r) → Picked (x ∷ rows) n t r
  picked_first true true x r rows n t p k e f =
      let q : x ≡ r = cc in
      record { is = record { place = 0; row_is = e; part_is = subst (λ (y : Production R). y.part ≡ n) q (p refl) }; starts = subst (λ (y : Production R). has y.starts t ≡ true) q (k refl) }
  picked_first true false x r rows n t p k e f = picked_later x r rows n t (f e)
  picked_first false b x r rows n t p k e f = picked_later x r rows n t (f e)

  pub picked_at : (rows : Grammar R) (n t : ℕ) (r : Production R) → pick_of rows n t ≡ Some r → Picked rows n t r
  picked_at [] n t r e = cc
  picked_at (x ∷ rows) n t r e = picked_first (nat_eq x.part n) (has x.starts t) x r rows n t (eqb-true x.part n) (λ h. h) e (picked_at rows n t r)

module _ (c : Claims) where
  first_append : (a b : List Symbol) (t : ℕ) → has (all_first c (a ++ b)) t ≡ true → (has (all_first c a) t ≡ true) ⊎ ((all_nullable c a ≡ true) × (has (all_first c b) t ≡ true))
  first_append [] b t h = inr (refl, h)
  first_append (s ∷ a) b t h =
      let y = symbol_nullable c s in
      let x = symbol_first c s in
      ⊎_elim (λ (f : has x t ≡ true). inl (starts_first y x (all_first c a) t f))
      (λ (p : (y ≡ true) × (has (all_first c (a ++ b)) t ≡ true)).
      ⊎_elim (λ (f : has (all_first c a) t ≡ true). inl (starts_later y x (all_first c a) t p.0 f))
      (λ (q : (all_nullable c a ≡ true) × (has (all_first c b) t ≡ true)). inr (and_both y (all_nullable c a) p.0 q.0, q.1))
      (first_append a b t p.1))
      (starts_of y x (all_first c (a ++ b)) t h)

  null_append : (a b : List Symbol) → all_nullable c (a ++ b) ≡ true → (all_nullable c a ≡ true) × (all_nullable c b ≡ true)
  null_append [] b h = (refl, h)
  null_append (s ∷ a) b h =
      let p = both (symbol_nullable c s) (all_nullable c (a ++ b)) h in
      let q = null_append a b p.1 in
      (and_both (symbol_nullable c s) (all_nullable c a) p.0 q.0, q.1)

  lead_append : (b ss : List Symbol) → lead_weight c (b ++ ss) ≡ lead_weight c b + (if all_nullable c b then lead_weight c ss else 0)
  lead_append [] ss = sym (zero-add (lead_weight c ss))
  lead_append (s ∷ b) ss = lead_more (symbol_nullable c s) (all_nullable c b) (symbol_weight c s) (lead_weight c b) (lead_weight c ss) (lead_weight c (b ++ ss)) (lead_append b ss)

module _ {R : Type 0} (g : Grammar R) where
  pub allowed_end : (r : Production R) (w : List ℕ) → has r.stops 0 ≡ false → Allowed r w → Allowed r (w ++ 0 ∷ [])
  allowed_end r [] h a = h
  allowed_end r (t ∷ w) h a = a

  pub derives_end : {a : List Symbol} {at : ℕ} {u : List ℕ} {p : List (Step R)} → ((n : ℕ) (r : Production R) → IsProduction g n r → has r.stops 0 ≡ false) → Derives g a at u p → Derives g (a ++ Token 0 ∷ []) at (u ++ 0 ∷ []) p
  derives_end h done = token done
  derives_end h (token e) = token (derives_end h e)
  derives_end h (choose {n = n} {ss = ss} {at = at} {w = w} {ps = ps} r i al e) =
      choose r i (allowed_end r w (h n r i) al) (subst (λ (l : List Symbol). Derives g l at (w ++ 0 ∷ []) ps) (append_assoc (r.body) ss (Token 0 ∷ [])) (derives_end h e))

  pub record Opens (n : ℕ) (ss : List Symbol) (at : ℕ) (w : List ℕ) (ps : List (Step R)) : Type 0 where
    pub row : Production R
    pub is : IsProduction g n row
    pub allowed : Allowed row w
    pub rest : List (Step R)
    pub split : ps ≡ step row at ∷ rest
    pub tree : Derives g (row.body ++ ss) at w rest

  pub opens : {n : ℕ} {ss : List Symbol} {at : ℕ} {w : List ℕ} {ps : List (Step R)} → Derives g (Part n ∷ ss) at w ps → Opens n ss at w ps
  opens (choose {ps = ps} r i al e) = record { row = r; is = i; allowed = al; rest = ps; split = refl; tree = e }

  pub record Matches (k : ℕ) (ss : List Symbol) (at : ℕ) (w : List ℕ) (ps : List (Step R)) : Type 0 where
    pub rest : List ℕ
    pub split : w ≡ k ∷ rest
    pub tree : Derives g ss (at + 1) rest ps

  pub matches : {k : ℕ} {ss : List Symbol} {at : ℕ} {w : List ℕ} {ps : List (Step R)} → Derives g (Token k ∷ ss) at w ps → Matches k ss at w ps
  matches (token {w = w} e) = record { rest = w; split = refl; tree = e }

  pub record Ends (w : List ℕ) (ps : List (Step R)) : Type 0 where
    pub nothing : w ≡ []
    pub no_steps : ps ≡ []

  pub ends_of : {at : ℕ} {w : List ℕ} {ps : List (Step R)} → Derives g [] at w ps → Ends w ps
  ends_of done = record { nothing = refl; no_steps = refl }

  module _ (c : Claims) (sound : Sound g c) where
    -- The symbols start with the kind, or are empty before it.
    abbrev Starts : List Symbol → List Symbol → ℕ → List ℕ → Type 0
    Starts b ss t w = (has (all_first c b) t ≡ true) ⊎ ((all_nullable c b ≡ true) × (at : ℕ) × (ps : List (Step R)) × Derives g ss at (t ∷ w) ps)

    open_row : (n : ℕ) (r : Production R) (b ss : List Symbol) (t : ℕ) (w : List ℕ) → IsProduction g n r → Starts (r.body ++ b) ss t w → Starts (Part n ∷ b) ss t w
    open_row n r b ss t w i ih =
        let x = symbol_first c (Part n) in
        let y = symbol_nullable c (Part n) in
        ⊎_elim
        (λ (f : has (all_first c (r.body ++ b)) t ≡ true).
        ⊎_elim (λ (h : has (all_first c (r.body)) t ≡ true). inl (starts_first y x (all_first c b) t (sound.firsts n r t i h).0))
        (λ (h : (all_nullable c (r.body) ≡ true) × (has (all_first c b) t ≡ true)). inl (starts_later y x (all_first c b) t (sound.nulls n r i h.0) h.1))
        (first_append c (r.body) b t f))
        (λ (h : (all_nullable c (r.body ++ b) ≡ true) × (at : ℕ) × (ps : List (Step R)) × Derives g ss at (t ∷ w) ps).
        let p = null_append c (r.body) b h.0 in
        inr (and_both y (all_nullable c b) (sound.nulls n r i p.0) p.1, h.1, h.2, h.3))
        ih

    starts_at : {st : List Symbol} {at : ℕ} {v : List ℕ} {ps : List (Step R)} → Derives g st at v ps → (b ss : List Symbol) (t : ℕ) (w : List ℕ) → st ≡ b ++ ss → v ≡ t ∷ w → Starts b ss t w
    starts_at done b ss t w e f = absurd cc
    starts_at (token {k = k} {ss = s0} {at = at} {w = w0} {ps = ps} d) [] ss t w e f =
        inr (refl, at, ps, subst (λ (l : List Symbol). Derives g l at (t ∷ w) ps) e (subst (λ (x : List ℕ). Derives g (Token k ∷ s0) at x ps) f (token d)))
    starts_at (token {k = k} {ss = s0} {w = w0} {ps = ps} d) (s ∷ b) ss t w e f =
        let q : Token k ≡ s = cc in
        let m : k ≡ t = cc in
        let own : has (2 ^ k) t ≡ true = subst (λ (j : ℕ). has (2 ^ j) t ≡ true) (sym m) (has_own t) in
        inl (starts_first (symbol_nullable c s) (symbol_first c s) (all_first c b) t (subst (λ (x : Symbol). has (symbol_first c x) t ≡ true) q own))
    starts_at (choose {n = n} {ss = s0} {at = at} {w = w0} {ps = ps} r i al d) [] ss t w e f =
        inr (refl, at, step r at ∷ ps, subst (λ (l : List Symbol). Derives g l at (t ∷ w) (step r at ∷ ps)) e (subst (λ (x : List ℕ). Derives g (Part n ∷ s0) at x (step r at ∷ ps)) f (choose r i al d)))
    starts_at (choose {n = n} {ss = s0} {w = w0} {ps = ps} r i al d) (s ∷ b) ss t w e f =
        let q : Part n ≡ s = cc in
        let tail : s0 ≡ b ++ ss = cc in
        let ih = starts_at d (r.body ++ b) ss t w (ap (λ (l : List Symbol). r.body ++ l) tail ∙ sym (append_assoc (r.body) b ss)) f in
        subst (λ (x : Symbol). Starts (x ∷ b) ss t w) q (open_row n r b ss t w i ih)

    good_body : (n : ℕ) (b ss : List Symbol) → all_known c.count b ≡ true → follow_ok c n b ≡ true → Followed g c n ss → Good g c ss → Good g c (b ++ ss)
    good_body n [] ss k f fo h = h
    good_body n (Token x ∷ b) ss k f fo h =
        let p = both (nat_lt 0 x && nat_lt x 128) (all_known c.count b) k in
        let q = both (nat_lt 0 x) (nat_lt x 128) p.0 in
        let pos : 0 < x = ltb-true 0 x q.0 in
        ((λ (e : x ≡ 0). absurd (omega arith)), ltb-true x 128 q.1, good_body n b ss p.1 f fo h)
    good_body n (Part m ∷ b) ss k f fo h =
        let p = both (nat_lt m c.count) (all_known c.count b) k in
        let own = (claim_of c n).follow in
        let its = (claim_of c m).follow in
        let q = both (symbol_follow_ok c n (Part m) b) (follow_ok c n b) f in
        let after = both (within (all_first c b) its) (implies (all_nullable c b) (within own its)) q.0 in
        let rest = good_body n b ss p.1 q.1 fo h in
        let here : Followed g c m (b ++ ss) = (λ t at w ps lt d.
        ⊎_elim (λ (a : has (all_first c b) t ≡ true). within_has (all_first c b) its t after.0 a)
        (λ (a : (all_nullable c b ≡ true) × (at : ℕ) × (qs : List (Step R)) × Derives g ss at (t ∷ w) qs).
        within_has own its t (implied (all_nullable c b) (within own its) after.1 a.0) (fo t a.1 w a.2 lt a.3))
        (starts_at d b ss t w refl refl)) in
        (ltb-true m c.count p.0, here, rest)

    pub good_open : (n : ℕ) (ss : List Symbol) (r : Production R) → IsProduction g n r → Good g c (Part n ∷ ss) → Good g c (r.body ++ ss)
    good_open n ss r i h = good_body n (r.body) ss (sound.known n r i) (sound.follows n r i) h.1 h.2

    -- the only row that can be opened at this kind of token is the one that is picked
    pub opened : (n : ℕ) (ss : List Symbol) (t at : ℕ) (w : List ℕ) (ps : List (Step R)) → t < 128 → Good g c (Part n ∷ ss) → (d : Opens n ss at (t ∷ w) ps) → pick_of g n t ≡ Some d.row
    opened n ss t at w ps lt h d =
        sound.picks n d.row t d.is
        (⊎_elim (λ (a : has (all_first c (d.row.body)) t ≡ true). (sound.firsts n d.row t d.is a).1)
        (λ (a : (all_nullable c (d.row.body) ≡ true) × (at : ℕ) × (qs : List (Step R)) × Derives g ss at (t ∷ w) qs). sound.ends n d.row t d.is a.0 (h.1 t a.1 w a.2 lt a.3) d.allowed)
        (starts_at d.tree (d.row.body) ss t w refl refl))

    pub expands_none : (t at : ℕ) (ss : List Symbol) → Expands g t at ss [] ss
    expands_none t at ss = record { here = All-nil (λ (q : Step R). q.at ≡ at); back = λ w ps d. d; forth = λ w ps d. (ps, refl, d) }

    pub expands_open : (t at : ℕ) (from : List Symbol) (qs : List (Step R)) (n : ℕ) (ss : List Symbol) (r : Production R) → t < 128 → Good g c (Part n ∷ ss) → IsProduction g n r → has r.starts t ≡ true → pick_of g n t ≡ Some r → Expands g t at from qs (Part n ∷ ss) → Expands g t at from (qs ++ step r at ∷ []) (r.body ++ ss)
    expands_open t at from qs n ss r lt h i st p x = record {
      here = All-push (λ (q : Step R). q.at ≡ at) qs (step r at) x.here refl;
      back = λ w ps d. subst (λ (l : List (Step R)). Derives g from at (t ∷ w) l) (sym (append_assoc qs (step r at ∷ []) ps)) (x.back w (step r at ∷ ps) (choose r i (sound.free n r t i st) d));
      forth = λ w ps d.
          let a = x.forth w ps d in
          let o = opens a.2 in
          let same : o.row ≡ r = same_Some o.row r (sym (opened n ss t at w a.0 lt h o) ∙ p) in
          let tree : Derives g (r.body ++ ss) at (t ∷ w) o.rest = subst (λ (y : Production R). Derives g (y.body ++ ss) at (t ∷ w) o.rest) same o.tree in
          (o.rest, a.1 ∙ ap (λ (l : List (Step R)). qs ++ l) (o.split ∙ ap (λ (y : Production R). step y at ∷ o.rest) same) ∙ sym (append_assoc qs (step r at ∷ []) o.rest), tree);
    }

    pub stuck_open : (t at n : ℕ) (ss : List Symbol) → t < 128 → Good g c (Part n ∷ ss) → pick_of g n t ≡ None → Stuck g t at (Part n ∷ ss)
    stuck_open t at n ss lt h p w ps d = let o = opens d in absurd (none_some (sym p ∙ opened n ss t at w ps lt h o))

    pub stuck_match : (t at k : ℕ) (ss : List Symbol) → (k ≡ t → ⊥) → Stuck g t at (Token k ∷ ss)
    stuck_match t at k ss ne w ps d = let m = matches d in ne cc

    pub stuck_empty : (t at : ℕ) → Stuck g t at []
    stuck_empty t at w ps d = let e = ends_of d in absurd cc

    pub stuck_back : (t at : ℕ) (from : List Symbol) (qs : List (Step R)) (to : List Symbol) → Expands g t at from qs to → Stuck g t at to → Stuck g t at from
    stuck_back t at from qs to x s w ps d = let a = x.forth w ps d in s w a.0 a.2

    pub reads_none : (start : List Symbol) → Reads g start 0 [] [] start
    reads_none start = record { early = All-nil (λ (q : Step R). q.at < 0); back = λ w ps d. d; forth = λ w ps d. (ps, refl, d) }

    pub reads_more : (start : List Symbol) (at : ℕ) (before : List ℕ) (qs : List (Step R)) (from : List Symbol) (t : ℕ) (qs' : List (Step R)) (ss : List Symbol) → Reads g start at before qs from → Expands g t at from qs' (Token t ∷ ss) → Reads g start (at + 1) (before ++ t ∷ []) (qs ++ qs') ss
    reads_more start at before qs from t qs' ss r x = record {
      early = All-append (λ (q : Step R). q.at < at + 1) qs qs'
          (All-weaker (λ (q : Step R). q.at < at) (λ (q : Step R). q.at < at + 1) (λ (q : Step R) (h : q.at < at). omega arith) qs r.early)
          (All-weaker (λ (q : Step R). q.at ≡ at) (λ (q : Step R). q.at < at + 1) (λ (q : Step R) (h : q.at ≡ at). omega arith) qs' x.here);
      back = λ w ps d.
          subst (λ (l : List ℕ). Derives g start 0 l ((qs ++ qs') ++ ps)) (sym (append_assoc before (t ∷ []) w))
          (subst (λ (l : List (Step R)). Derives g start 0 (before ++ t ∷ w) l) (sym (append_assoc qs qs' ps)) (r.back (t ∷ w) (qs' ++ ps) (x.back w ps (token d))));
      forth = λ w ps d.
          let d' : Derives g start 0 (before ++ t ∷ w) ps = subst (λ (l : List ℕ). Derives g start 0 l ps) (append_assoc before (t ∷ []) w) d in
          let a = r.forth (t ∷ w) ps d' in
          let b = x.forth w a.0 a.2 in
          let m = matches b.2 in
          let tail : m.rest ≡ w = cc in
          (b.0, a.1 ∙ ap (λ (l : List (Step R)). qs ++ l) b.1 ∙ sym (append_assoc qs qs' b.0), subst (λ (l : List ℕ). Derives g ss (at + 1) l b.0) tail m.tree);
    }

    pub lead_open : (n : ℕ) (ss : List Symbol) (r : Production R) → IsProduction g n r → lead_weight c (r.body ++ ss) < lead_weight c (Part n ∷ ss)
    lead_open n ss r i = rw (lead_append c (r.body) ss) (lead_less (all_nullable c (r.body)) (symbol_nullable c (Part n)) (lead_weight c (r.body)) (lead_weight c ss) (claim_of c n).weight (sound.nulls n r i) (sound.lighter n r i))
