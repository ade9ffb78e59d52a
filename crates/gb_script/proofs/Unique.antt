-- A text has at most one derivation, and at most one first fault.
use Rattle.std.specs.Prelude.{◌≡◌, ℕ, suc, ◌+◌, ◌-◌, ◌<◌, ◌≤◌, List, [], ◌∷◌, ◌++◌, true, take, drop, ◌⊎◌}
use Rattle.std.proofs.Common.{refl, ap, sym, ◌∙◌, subst, arith, inl, inr, ⊎_elim}
use Rattle.std.proofs.lemmas.List.{append_assoc}
use Rattle.std.proofs.lemmas.Bool.{cases_order}
use Rattle.std.proofs.lemmas.List.Elements.{All-head, All-tail, All-same}
use Rattle.std.proofs.lemmas.Option.{same_Some}
use Rattle.std.proofs.Math.Seq.{take-add}
use Rattle.std.specs.List.{All}
use Rattle.gb_script.specs.declared.table.Symbol.{Symbol}
use Rattle.gb_script.specs.declared.table.Symbol.TheVariants.{Token, Part}
use Rattle.gb_script.specs.declared.table.Step.{Step}
use Rattle.gb_script.specs.Grammar.{Grammar, Production, step, Derives, done, token, choose}
use Rattle.gb_script.specs.Check.{Claims, is_start}
use Rattle.gb_script.specs.Stack.{Good}
use Rattle.gb_script.specs.Parsing.{Spells, Begins, IsKind, FirstFault, StepsBefore}
use Rattle.gb_script.proofs.Sound.{Sound}
use Rattle.gb_script.proofs.Steps.{Opens, opens, matches, ends_of, opened, good_open}
use Rattle.gb_script.proofs.Whole.{good_start, with_end}

-- kinds of token, the end included
abbrev AllSmall : List ℕ → Type 0
AllSmall [] = Unit {0}
AllSmall (t ∷ w) = (t < 128) × AllSmall w

small_with_end : (kinds : List ℕ) → All IsKind kinds → AllSmall (kinds ++ 0 ∷ [])
small_with_end [] h = (omega arith, tt)
small_with_end (k ∷ kinds) h = ((h 0 0 (omega arith)).1, small_with_end kinds (λ i d lt. h (suc i) d (omega arith)))

module _ {R : Type 0} (g : Grammar R) (c : Claims) (s : Sound g c) where
  -- a word of a stack that ends in the end of the text is not empty
  no_word : {st : List Symbol} {at : ℕ} {v : List ℕ} {ps : List (Step R)} → Derives g st at v ps → (ss : List Symbol) → st ≡ ss ++ Token 0 ∷ [] → v ≡ [] → ⊥
  no_word done [] e f = absurd cc
  no_word done (x ∷ ss) e f = absurd cc
  no_word (token d) ss e f = absurd cc
  no_word (choose p i al d) [] e f = absurd cc
  no_word (choose {ss = s0} p i al d) (y ∷ ss) e f =
      let tail : s0 ≡ ss ++ Token 0 ∷ [] = cc in
      no_word d (p.body ++ ss) (ap (λ (l : List Symbol). p.body ++ l) tail ∙ sym (append_assoc p.body ss (Token 0 ∷ []))) f

  -- the end of the text stands last on the stack, or the stack is empty
  abbrev IsEnded : List Symbol → Type 0
  IsEnded st = (st ≡ []) ⊎ ((ss : List Symbol) × (st ≡ ss ++ Token 0 ∷ []))

  tail_ended : (ss : List Symbol) (x : Symbol) (s0 : List Symbol) → x ∷ s0 ≡ ss ++ Token 0 ∷ [] → IsEnded s0
  tail_ended [] x s0 e = inl cc
  tail_ended (y ∷ ss) x s0 e = inr (ss, cc)

  open_ended : (ss : List Symbol) (n : ℕ) (b s0 : List Symbol) → Part n ∷ s0 ≡ ss ++ Token 0 ∷ [] → IsEnded (b ++ s0)
  open_ended [] n b s0 e = absurd cc
  open_ended (y ∷ ss) n b s0 e =
      let tail : s0 ≡ ss ++ Token 0 ∷ [] = cc in
      inr (b ++ ss, ap (λ (l : List Symbol). b ++ l) tail ∙ sym (append_assoc b ss (Token 0 ∷ [])))

  same_steps : {st : List Symbol} {at : ℕ} {v : List ℕ} {ps : List (Step R)} → Derives g st at v ps → IsEnded st → Good g c st → AllSmall v → (qs : List (Step R)) → Derives g st at v qs → ps ≡ qs
  same_steps done e h small qs d' = sym (ends_of g d').no_steps
  same_steps (token {k = k} {ss = s0} {at = at} {w = w} {ps = ps} d) e h small qs d' =
      let m = matches g d' in
      let tail : m.rest ≡ w = cc in
      ⊎_elim (λ (e : Token k ∷ s0 ≡ []). absurd cc)
      (λ (p : (ss : List Symbol) × (Token k ∷ s0 ≡ ss ++ Token 0 ∷ [])). same_steps d (tail_ended p.0 (Token k) s0 p.1) h.2 small.1 qs (subst (λ (l : List ℕ). Derives g s0 (at + 1) l qs) tail m.tree))
      e
  same_steps (choose {n = n} {ss = s0} {at = at} {w = []} {ps = ps} p i al d) e h small qs d' =
      ⊎_elim (λ (e : Part n ∷ s0 ≡ []). absurd cc)
      (λ (q : (ss : List Symbol) × (Part n ∷ s0 ≡ ss ++ Token 0 ∷ [])). absurd (no_word (choose p i al d) q.0 q.1 refl))
      e
  same_steps (choose {n = n} {ss = s0} {at = at} {w = t ∷ w} {ps = ps} p i al d) e h small qs d' =
      let o = opens g d' in
      let own : Opens g n s0 at (t ∷ w) (step p at ∷ ps) = record { row = p; is = i; allowed = al; rest = ps; split = refl; tree = d } in
      let same : o.row ≡ p = same_Some o.row p (sym (opened g c s n s0 t at w qs small.0 h o) ∙ opened g c s n s0 t at w (step p at ∷ ps) small.0 h own) in
      let tree : Derives g (p.body ++ s0) at (t ∷ w) o.rest = subst (λ (x : Production R). Derives g (x.body ++ s0) at (t ∷ w) o.rest) same o.tree in
      let first : step p at ∷ o.rest ≡ qs = ap (λ (x : Production R). step x at ∷ o.rest) (sym same) ∙ sym o.split in
      ⊎_elim (λ (e : Part n ∷ s0 ≡ []). absurd cc)
      (λ (q : (ss : List Symbol) × (Part n ∷ s0 ≡ ss ++ Token 0 ∷ [])).
      ap (λ (l : List (Step R)). step p at ∷ l) (same_steps d (open_ended q.0 n p.body s0 q.1) (good_open g c s n s0 p i h) small o.rest tree) ∙ first)
      e

  pub unique : (n : ℕ) → is_start c n ≡ true → (kinds : List ℕ) (a b : List (Step R)) → All IsKind kinds → Spells g n kinds a → Spells g n kinds b → a ≡ b
  unique n ready kinds a b h x y =
      same_steps (with_end g c s n ready kinds a x) (inr (Part n ∷ [], refl)) (good_start g c s n ready) (small_with_end kinds h) b (with_end g c s n ready kinds b y)

-- the front of what begins a text begins one
front_begins : {R : Type 0} (g : Grammar R) (n : ℕ) (front more : List ℕ) → Begins g n (front ++ more) → Begins g n front
front_begins g n front more b = (more ++ b.0, b.1, subst (λ (l : List ℕ). Spells g n l b.1) (append_assoc front more b.0) b.2)

earlier_begins : {R : Type 0} (g : Grammar R) (n : ℕ) (kinds : List ℕ) (a b : ℕ) → a ≤ b → Begins g n (take b kinds) → Begins g n (take a kinds)
earlier_begins g n kinds a b h begun =
    let whole : a + (b - a) ≡ b = omega arith in
    let e : take b kinds ≡ take a kinds ++ take (b - a) (drop a kinds) = ap (λ (m : ℕ). take m kinds) (sym whole) ∙ take-add a (b - a) kinds in
    front_begins g n (take a kinds) (take (b - a) (drop a kinds)) (subst (λ (l : List ℕ). Begins g n l) e begun)

-- no fault comes before a first fault
none_before : {R : Type 0} (g : Grammar R) (n : ℕ) (kinds : List ℕ) (a b : ℕ) → FirstFault g n kinds a → FirstFault g n kinds b → a < b → ⊥
none_before g n kinds a b x y h =
    let within = y.within in
    x.refused (omega arith) (earlier_begins g n kinds (a + 1) b (omega arith) y.begun)

pub one_fault : {R : Type 0} (g : Grammar R) (n : ℕ) (kinds : List ℕ) (a b : ℕ) → FirstFault g n kinds a → FirstFault g n kinds b → a ≡ b
one_fault g n kinds a b x y =
    elim (cases_order a b) [
      | inl e ↦ e
      | inr (inl h) ↦ absurd (none_before g n kinds a b x y h)
      | inr (inr h) ↦ absurd (none_before g n kinds b a y x h)
    ]

module _ {R : Type 0} (at : ℕ) where
  abbrev IsEarly : Step R → Type 0
  IsEarly s = s.at < at

  abbrev IsLate : Step R → Type 0
  IsLate s = at ≤ s.at

  -- an early step isn't the first of late ones
  not_late : (y : Step R) (ys late : List (Step R)) → IsEarly y → All IsLate late → late ≡ y ∷ ys → ⊥
  not_late y ys late h l e =
      let k : at ≤ y.at = All-head IsLate y ys (All-same IsLate (y ∷ ys) late (sym e) l) in
      absurd (omega arith)

  same_front : (a b ra rb : List (Step R)) → All IsEarly a → All IsEarly b → All IsLate ra → All IsLate rb → a ++ ra ≡ b ++ rb → a ≡ b
  same_front [] [] ra rb ea eb la lb e = refl
  same_front [] (y ∷ b) ra rb ea eb la lb e = absurd (not_late y (b ++ rb) ra (All-head IsEarly y b eb) la e)
  same_front (x ∷ a) [] ra rb ea eb la lb e = absurd (not_late x (a ++ ra) rb (All-head IsEarly x a ea) lb (sym e))
  same_front (x ∷ a) (y ∷ b) ra rb ea eb la lb e =
      let q : x ≡ y = cc in
      let t : a ++ ra ≡ b ++ rb = cc in
      let u = same_front a b ra rb (All-tail IsEarly x a ea) (All-tail IsEarly y b eb) la lb t in
      cc

pub one_front : {R : Type 0} (g : Grammar R) (n : ℕ) (kinds : List ℕ) (at : ℕ) (a b : List (Step R)) → FirstFault g n kinds at → StepsBefore g n kinds at a → StepsBefore g n kinds at b → a ≡ b
one_front g n kinds at a b f x y =
    let t = f.begun in
    let p = x.first t.0 t.1 t.2 in
    let q = y.first t.0 t.1 t.2 in
    same_front at a b p.0 q.0 x.early y.early p.2 q.2 (sym p.1 ∙ q.1)
