-- From the stack with its end to whole texts.
use Rattle.std.specs.Prelude.{reverse, ◌≡◌, ℕ, suc, ◌+◌, ◌<◌, ◌≤◌, List, [], ◌∷◌, ◌++◌, Bool, true, false, ◌&&◌, nat_lt, length, take, drop}
use Rattle.std.proofs.Common.{refl, ap, sym, ◌∙◌, subst, arith, get_or}
use Rattle.std.proofs.lemmas.List.{append_assoc, append-nil, take_more, take-append-drop, take_all, take-append-le}
use Rattle.std.proofs.lemmas.List.Elements.{All-nil, All-cons, All-weaker, All-take}
use Rattle.std.proofs.lemmas.Bool.{ltb-true}
use Rattle.std.specs.List.{All}
use Rattle.gb_script.specs.declared.table.Symbol.{Symbol}
use Rattle.gb_script.specs.declared.table.Symbol.TheVariants.{Token, Part}
use Rattle.gb_script.specs.declared.table.Step.{Step}
use Rattle.gb_script.specs.Grammar.{Grammar, Production, has, Allowed, step, Derives, done, token, choose}
use Rattle.gb_script.specs.Check.{Claims, claim_of, is_start, all_known}
use Rattle.gb_script.specs.Stack.{Good, Stuck, Reads, Moved, Halted, Advanced}
use Rattle.gb_script.specs.Parsing.{Spells, Begins, IsKind, FirstFault, StepsBefore}
use Rattle.gb_script.proofs.Tests.{both, and_both}
use Rattle.gb_script.proofs.Sound.{Sound}
use Rattle.gb_script.proofs.Steps.{reads_none, ends_of, matches, derives_end, reads_more}
use Rattle.gb_script.proofs.Words.{word_of_stack}

pub known_append : (p : ℕ) (a b : List Symbol) → all_known p a ≡ true → all_known p b ≡ true → all_known p (a ++ b) ≡ true
known_append p [] b h k = k
known_append p (Token x ∷ a) b h k = let q = both (nat_lt 0 x && nat_lt x 128) (all_known p a) h in and_both (nat_lt 0 x && nat_lt x 128) (all_known p (a ++ b)) q.0 (known_append p a b q.1 k)
known_append p (Part n ∷ a) b h k = let q = both (nat_lt n p) (all_known p a) h in and_both (nat_lt n p) (all_known p (a ++ b)) q.0 (known_append p a b q.1 k)

allowed_front : {R : Type 0} (r : Production R) (v front : List ℕ) → v ≡ front ++ 0 ∷ [] → Allowed r v → Allowed r front
allowed_front r v [] e a = tt
allowed_front r [] (t ∷ front) e a = absurd cc
allowed_front r (x ∷ v) (t ∷ front) e a = let q : x ≡ t = cc in subst (λ (y : ℕ). has r.stops y ≡ false) q a

module _ {R : Type 0} (g : Grammar R) (c : Claims) (s : Sound g c) where
  -- what is derived before the end
  pub record Before (ss : List Symbol) (at : ℕ) (v : List ℕ) (ps : List (Step R)) : Type 0 where
    pub front : List ℕ
    pub whole : v ≡ front ++ 0 ∷ []
    pub tree : Derives g ss at front ps

  pub before_end : {st : List Symbol} {at : ℕ} {v : List ℕ} {ps : List (Step R)} → Derives g st at v ps → (ss : List Symbol) → all_known c.count ss ≡ true → st ≡ ss ++ Token 0 ∷ [] → Before ss at v ps
  before_end done [] k e = absurd cc
  before_end done (x ∷ ss) k e = absurd cc
  before_end (token {k = x} {ss = s0} {at = at} {w = w} {ps = ps} d) [] k e =
      let none : s0 ≡ [] = cc in
      let zero_is : x ≡ 0 = cc in
      let en = ends_of g (subst (λ (l : List Symbol). Derives g l (at + 1) w ps) none d) in
      record { front = []; whole = ap (λ (n : ℕ). n ∷ w) zero_is ∙ ap (λ (l : List ℕ). 0 ∷ l) en.nothing; tree = subst (λ (l : List (Step R)). Derives g [] at [] l) (sym en.no_steps) done }
  before_end (token {k = x} {ss = s0} {at = at} {w = w} {ps = ps} d) (y ∷ ss) k e =
      let q : Token x ≡ y = cc in
      let tail : s0 ≡ ss ++ Token 0 ∷ [] = cc in
      let k' : all_known c.count (Token x ∷ ss) ≡ true = subst (λ (z : Symbol). all_known c.count (z ∷ ss) ≡ true) (sym q) k in
      let b = before_end d ss (both (nat_lt 0 x && nat_lt x 128) (all_known c.count ss) k').1 tail in
      record { front = x ∷ b.front; whole = ap (λ (l : List ℕ). x ∷ l) b.whole; tree = subst (λ (z : Symbol). Derives g (z ∷ ss) at (x ∷ b.front) ps) q (token b.tree) }
  before_end (choose {n = n} {ss = s0} r i al d) [] k e = absurd cc
  before_end (choose {n = n} {ss = s0} {at = at} {w = w} {ps = ps} r i al d) (y ∷ ss) k e =
      let q : Part n ≡ y = cc in
      let tail : s0 ≡ ss ++ Token 0 ∷ [] = cc in
      let k' : all_known c.count (Part n ∷ ss) ≡ true = subst (λ (z : Symbol). all_known c.count (z ∷ ss) ≡ true) (sym q) k in
      let b = before_end d (r.body ++ ss) (known_append c.count (r.body) ss (s.known n r i) (both (nat_lt n c.count) (all_known c.count ss) k').1) (ap (λ (l : List Symbol). r.body ++ l) tail ∙ sym (append_assoc (r.body) ss (Token 0 ∷ []))) in
      record { front = b.front; whole = b.whole; tree = subst (λ (z : Symbol). Derives g (z ∷ ss) at b.front (step r at ∷ ps)) q (choose r i (allowed_front r w b.front b.whole al) b.tree) }

same_front : (a b : List ℕ) → a ++ 0 ∷ [] ≡ b ++ 0 ∷ [] → a ≡ b
same_front [] [] e = refl
same_front [] (y ∷ []) e = absurd cc
same_front [] (y ∷ z ∷ b) e = absurd cc
same_front (x ∷ []) [] e = absurd cc
same_front (x ∷ z ∷ a) [] e = absurd cc
same_front (x ∷ a) (y ∷ b) e =
    let q : x ≡ y = cc in
    let t : a ++ 0 ∷ [] ≡ b ++ 0 ∷ [] = cc in
    let u = same_front a b t in cc

-- the end comes after what was read
record Later (pre w v : List ℕ) : Type 0 where
  more : List ℕ
  is : v ≡ pre ++ more

later : (pre w v : List ℕ) → All IsKind pre → pre ++ w ≡ v ++ 0 ∷ [] → Later pre w v
later [] w v h e = record { more = v; is = refl }
later (x ∷ pre) w [] h e = let z : x ≡ 0 = cc in let p = (h 0 0 (omega arith)).0 in absurd (omega arith)
later (x ∷ pre) w (y ∷ v) h e =
    let q : x ≡ y = cc in
    let t : pre ++ w ≡ v ++ 0 ∷ [] = cc in
    let l = later pre w v (λ k d lt. h (suc k) d (omega arith)) t in
    record { more = l.more; is = ap (λ (r : List ℕ). y ∷ r) l.is ∙ ap (λ (n : ℕ). n ∷ (pre ++ l.more)) (sym q) }

module _ {R : Type 0} (g : Grammar R) (c : Claims) (s : Sound g c) (n : ℕ) (ready : is_start c n ≡ true) where
  -- the stack at the start
  abbrev pub start : List Symbol
  start = Part n ∷ Token 0 ∷ []

  pub good_start : Good g c start
  good_start =
      let p = both (nat_lt n c.count) (has (claim_of c n).follow 0) ready in
      (ltb-true n c.count p.0, (λ t at w ps lt d. let m = matches g d in let z : t ≡ 0 = cc in subst (λ (x : ℕ). has (claim_of c n).follow x ≡ true) (sym z) p.1), ((λ e. refl), omega arith, tt))

  known_start : all_known c.count (Part n ∷ []) ≡ true
  known_start = and_both (nat_lt n c.count) true (both (nat_lt n c.count) (has (claim_of c n).follow 0) ready).0 refl

  pub with_end : (kinds : List ℕ) (steps : List (Step R)) → Spells g n kinds steps → Derives g start 0 (kinds ++ 0 ∷ []) steps
  with_end kinds steps d = derives_end g s.last d

  without_end : (kinds : List ℕ) (steps : List (Step R)) → Derives g start 0 (kinds ++ 0 ∷ []) steps → Spells g n kinds steps
  without_end kinds steps d =
      let b = before_end g c s d (Part n ∷ []) known_start refl in
      subst (λ (l : List ℕ). Derives g (Part n ∷ []) 0 l steps) (sym (same_front kinds b.front b.whole)) b.tree

  -- the tokens so far begin a text
  begins : (at : ℕ) (pre : List ℕ) (qs : List (Step R)) (cur : List Symbol) → All IsKind pre → Reads g start at pre qs cur → Good g c cur → Begins g n pre
  begins at pre qs cur h r good =
      let a = word_of_stack g c s cur good at in
      let b = before_end g c s (r.back a.0 a.1 a.2) (Part n ∷ []) known_start refl in
      let l = later pre a.0 b.front h b.whole in
      (l.more, qs ++ a.1, subst (λ (x : List ℕ). Derives g (Part n ∷ []) 0 x (qs ++ a.1)) l.is b.tree)

  pub faulted : (kinds : List ℕ) (qs : List (Step R)) (at : ℕ) (cur : List Symbol) → All IsKind kinds → at < length kinds → Reads g start at (take at kinds) qs cur → Good g c cur → Stuck g (get_or kinds at 0) at cur → FirstFault g n kinds at
  faulted kinds qs at cur h lt r good stuck =
      let k = get_or kinds at 0 in
      let refused = λ (b : Begins g n (take (at + 1) kinds)).
      let more = b.0 in
      let e : (take (at + 1) kinds ++ more) ++ 0 ∷ [] ≡ take at kinds ++ k ∷ (more ++ 0 ∷ []) =
      append_assoc (take (at + 1) kinds) more (0 ∷ []) ∙ ap (λ (l : List ℕ). l ++ (more ++ 0 ∷ [])) (take_more kinds at 0 lt) ∙ append_assoc (take at kinds) (k ∷ []) (more ++ 0 ∷ []) in
      let f = r.forth (k ∷ (more ++ 0 ∷ [])) b.1 (subst (λ (l : List ℕ). Derives g start 0 l b.1) e (with_end (take (at + 1) kinds ++ more) b.1 b.2)) in
      stuck (more ++ 0 ∷ []) f.0 f.2 in
      record {
        within = omega arith;
        begun = begins at (take at kinds) qs cur (All-take IsKind at kinds h) r good;
        refused = λ lt'. refused;
        no_text = λ steps d. refused (drop (at + 1) kinds, steps, subst (λ (l : List ℕ). Derives g (Part n ∷ []) 0 l steps) (sym (take-append-drop (at + 1) kinds)) d);
      }

  pub short : (kinds : List ℕ) (qs : List (Step R)) (cur : List Symbol) → All IsKind kinds → Reads g start (length kinds) kinds qs cur → Good g c cur → Stuck g 0 (length kinds) cur → FirstFault g n kinds (length kinds)
  short kinds qs cur h r good stuck =
      let b = begins (length kinds) kinds qs cur h r good in
      record {
        within = omega arith;
        begun = (b.0, b.1, subst (λ (l : List ℕ). Derives g (Part n ∷ []) 0 (l ++ b.0) b.1) (sym (take_all (length kinds) kinds (omega arith))) b.2);
        refused = λ lt. absurd (omega arith);
        no_text = λ steps d. let f = r.forth (0 ∷ []) steps (with_end kinds steps d) in stuck [] f.0 f.2;
      }

  -- what is left to derive has no steps of earlier positions
  later_steps : {st : List Symbol} {at : ℕ} {v : List ℕ} {ps : List (Step R)} → Derives g st at v ps → All (λ (q : Step R). at ≤ q.at) ps
  later_steps (done {at = at}) = All-nil (λ (q : Step R). at ≤ q.at)
  later_steps (token {at = at} {ps = ps} d) = All-weaker (λ (q : Step R). at + 1 ≤ q.at) (λ (q : Step R). at ≤ q.at) (λ (q : Step R) (h : at + 1 ≤ q.at). omega arith) ps (later_steps d)
  later_steps (choose {at = at} {ps = ps} r i al d) = All-cons (λ (q : Step R). at ≤ q.at) (step r at) ps (omega arith) (later_steps d)

  pub steps_before : (kinds : List ℕ) (qs : List (Step R)) (at : ℕ) (cur : List Symbol) → Reads g start at (take at kinds) qs cur → StepsBefore g n kinds at qs
  steps_before kinds qs at cur r = record {
    early = r.early;
    first = λ more all d.
        let e : (take at kinds ++ more) ++ 0 ∷ [] ≡ take at kinds ++ (more ++ 0 ∷ []) = append_assoc (take at kinds) more (0 ∷ []) in
        let f = r.forth (more ++ 0 ∷ []) all (subst (λ (l : List ℕ). Derives g start 0 l all) e (with_end (take at kinds ++ more) all d)) in
        (f.0, f.1, later_steps f.2);
  }

  pub record Text (kinds : List ℕ) (new : List (Step R)) : Type 0 where
    pub found : Spells g n kinds new
    pub only : (steps : List (Step R)) → Spells g n kinds steps → new ≡ steps

  pub whole : (kinds : List ℕ) (qs new : List (Step R)) (cur to : List Symbol) → Reads g start (length kinds) kinds qs cur → Moved g c 0 (length kinds) cur qs (Token 0 ∷ to) new → Text kinds new
  whole kinds qs new cur to r m =
      let none : to ≡ [] = m.good.0 refl in
      let all = reads_more g c s start (length kinds) kinds qs cur 0 m.steps to r m.expands in
      let d = all.back [] [] (subst (λ (l : List Symbol). Derives g l (length kinds + 1) [] []) (sym none) done) in
      let d' : Derives g start 0 (kinds ++ 0 ∷ []) new = subst (λ (l : List (Step R)). Derives g start 0 (kinds ++ 0 ∷ []) l) (append-nil (qs ++ m.steps) ∙ sym m.grown) (subst (λ (l : List ℕ). Derives g start 0 l ((qs ++ m.steps) ++ [])) (append-nil (kinds ++ 0 ∷ [])) d) in
      record {
        found = without_end kinds new d';
        only = λ steps x.
            let f = all.forth [] steps (subst (λ (l : List ℕ). Derives g start 0 l steps) (sym (append-nil (kinds ++ 0 ∷ []))) (with_end kinds steps x)) in
            let en = ends_of g (subst (λ (l : List Symbol). Derives g l (length kinds + 1) [] f.0) none f.2) in
            m.grown ∙ sym (f.1 ∙ ap (λ (l : List (Step R)). (qs ++ m.steps) ++ l) en.no_steps ∙ append-nil (qs ++ m.steps));
      }

module _ {R : Type 0} (g : Grammar R) (c : Claims) (t at : ℕ) (from : List Symbol) (old : List (Step R)) (to : List Symbol) (new : List (Step R)) where
  pub halted_from : (b : Bool) → b ≡ false → Advanced b g c t at from old to new → Halted g t at from old new
  halted_from true e a = absurd cc
  halted_from false e a = a

  pub moved_from : (b : Bool) → b ≡ true → Advanced b g c t at from old to new → Moved g c t at from old (Token t ∷ to) new
  moved_from true e a = a
  moved_from false e a = absurd cc

-- the steps before a token that the machine stopped at
pub cut_back : {R : Type 0} (g : Grammar R) (t at before : ℕ) (from : List Symbol) (old new : List (Step R)) → before ≡ length old → Halted g t at from old new → take before new ≡ old
cut_back {R} g t at before from old new e h =
    ap (λ (l : List (Step R)). take before l) h.grown
    ∙ (take-append-le before old h.steps (omega arith) ∙ take_all before old (omega arith))

-- what the loop over the kinds keeps
pub record Kept {R : Type 0} (g : Grammar R) (c : Claims) (n at : ℕ) (kinds : List ℕ) (steps : List (Step R)) (cur : List Symbol) : Type 0 where
  pub came : Reads g (Part n ∷ Token 0 ∷ []) at (take at kinds) steps cur
  pub good : Good g c cur

module _ {R : Type 0} (g : Grammar R) (c : Claims) (s : Sound g c) (n : ℕ) where
  pub kept_none : (kinds : List ℕ) (steps : List (Step R)) (none one two : List Symbol) → is_start c n ≡ true → steps ≡ [] → none ≡ [] → one ≡ none ++ Token 0 ∷ [] → two ≡ one ++ Part n ∷ [] → Kept g c n 0 kinds steps (reverse two)
  kept_none kinds steps none one two ready e f h k =
      let begin = Part n ∷ Token 0 ∷ [] in
      let stack : Token 0 ∷ Part n ∷ [] ≡ two = sym (k ∙ ap (λ (l : List Symbol). l ++ Part n ∷ []) (h ∙ ap (λ (l : List Symbol). l ++ Token 0 ∷ []) f)) in
      let came = subst (λ (q : List (Step R)). Reads g begin 0 [] q begin) (sym e) (reads_none g c s begin) in
      record {
        came = subst (λ (l : List Symbol). Reads g begin 0 [] steps (reverse l)) stack came;
        good = subst (λ (l : List Symbol). Good g c (reverse l)) stack (good_start g c s n ready);
      }

  pub kept_more : (kinds : List ℕ) (old new : List (Step R)) (at : ℕ) (from to : List Symbol) → at < length kinds → Kept g c n at kinds old from → Moved g c (get_or kinds at 0) at from old (Token (get_or kinds at 0) ∷ to) new → Kept g c n (at + 1) kinds new to
  kept_more kinds old new at from to lt r m =
      let a = reads_more g c s (Part n ∷ Token 0 ∷ []) at (take at kinds) old from (get_or kinds at 0) m.steps to r.came m.expands in
      record {
        came = subst (λ (l : List ℕ). Reads g (Part n ∷ Token 0 ∷ []) (at + 1) l new to) (sym (take_more kinds at 0 lt)) (subst (λ (l : List (Step R)). Reads g (Part n ∷ Token 0 ∷ []) (at + 1) (take at kinds ++ get_or kinds at 0 ∷ []) l to) (sym m.grown) a);
        good = m.good.2;
      }

  -- what is kept when all kinds are read
  pub all_read : (kinds : List ℕ) (at : ℕ) (steps : List (Step R)) (cur : List Symbol) → length kinds ≡ at → Kept g c n at kinds steps cur → Reads g (Part n ∷ Token 0 ∷ []) (length kinds) kinds steps cur
  all_read kinds at steps cur e k =
      subst (λ (l : List ℕ). Reads g (Part n ∷ Token 0 ∷ []) (length kinds) l steps cur) (take_all (length kinds) kinds (omega arith))
      (subst (λ (m : ℕ). Reads g (Part n ∷ Token 0 ∷ []) m (take m kinds) steps cur) (sym e) k.came)
