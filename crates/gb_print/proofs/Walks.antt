-- The tokens of a text and the steps that derive it, one after another, and the levels that they lead to.
use Rattle.std.specs.Prelude.{ℕ, ◌≡◌, ◌+◌, ◌<◌, ◌≤◌, ◌&&◌, ◌||◌, Bool, true, false, if◌then◌else◌, nat_le, List, [], ◌∷◌, ◌++◌, length}
use Rattle.std.proofs.Common.{refl, ap, ap₂, sym, ◌∙◌, subst, arith, inl, inr}
use Rattle.std.proofs.lemmas.Bool.{cases_order}
use Rattle.std.proofs.lemmas.Bool.Decides.{nat_tests}
use Rattle.gb_script.specs.declared.table.Step.{Step}
use Rattle.gb_limits.specs.declared.level.Level.{Level}
use Rattle.gb_limits.specs.declared.level.Opening.TheVariants as by
use Rattle.gb_limits.specs.Level.{fresh, bracket_of, bracketed, top_is_long}
use Rattle.gb_limits.specs.Limits.{Walk, begun, stepped, taken, begin_too_many, walked, is_too_many, NoneLong}
use Rattle.gb_limits.proofs.Nesting.{walked-start, walked-more, too_many_at}
use Rattle.gb_script.specs.declared.action.Rule.{Rule}
use Rattle.gb_script.specs.declared.text.Text.{Text}
use Rattle.gb_script.specs.Text.{terminal_at}

-- From a position on, in these levels, the steps are taken up to another position, where the levels are those; no chain is too long.
pub data Walks (t : Text) : ℕ → List (Step Rule) → List Level → ℕ → List Level → Type 0 where
  stay : {p : ℕ} {ls : List Level} → Walks t p [] ls p ls
  pass : {p q : ℕ} {ss : List (Step Rule)} {ls ms : List Level} → Walks t (p + 1) ss (bracketed (bracket_of (terminal_at t p)) ls) q ms → Walks t p ss ls q ms
  take : {p q : ℕ} {s : Step Rule} {ss : List (Step Rule)} {ls ms : List Level} → s.at ≡ p → top_is_long (begun t s ls) ≡ false → Walks t p ss (stepped t s ls) q ms → Walks t p (s ∷ ss) ls q ms

module _ (t : Text) where
  pub walks_more : {p q r : ℕ} {ss us : List (Step Rule)} {ls ms ns : List Level} → Walks t p ss ls q ms → Walks t q us ms r ns → Walks t p (ss ++ us) ls r ns
  walks_more stay w = w
  walks_more (pass v) w = pass (walks_more v w)
  walks_more (take e h v) w = take e h (walks_more v w)

  is_late : (a p i : ℕ) → a ≡ p → i < p → nat_le a i ≡ false
  is_late a p i e h = grind (arith, nat_tests)

  is_here : (a p : ℕ) → a ≡ p → nat_le a p ≡ true
  is_here a p e = grind (arith, nat_tests)

  -- Steps from a position on aren't taken before it.
  untaken : {p q : ℕ} {ss : List (Step Rule)} {ls ms : List Level} → Walks t p ss ls q ms → (i : ℕ) → i < p → (ns : List Level)
      → (taken t i ns ss ≡ record { levels = ns; rest = ss }) × (begin_too_many t i ns ss ≡ false)
  untaken stay i h ns = (refl, refl)
  untaken (pass w) i h ns = untaken w i (omega arith) ns
  untaken {p = p} (take {s = s} {ss = ss} e short w) i h ns = let late = is_late s.at p i e h in (rw late refl, rw late refl)

  not_long : {p q : ℕ} {ss : List (Step Rule)} {ls ms : List Level} → Walks t p ss ls q ms → (steps : List (Step Rule))
      → taken t p (walked t steps p).levels (walked t steps p).rest ≡ taken t p ls ss
      → begin_too_many t p (walked t steps p).levels (walked t steps p).rest ≡ begin_too_many t p ls ss
      → (j : ℕ) → p ≤ j → j < q → is_too_many t steps j ≡ false
  not_long stay steps e f j a b = absurd (omega arith)
  not_long {p = p} (take {s = s} {ss = ss} {ls = ls} at short w) steps e f j a b =
      let here = is_here s.at p at in
      let more : taken t p ls (s ∷ ss) ≡ taken t p (stepped t s ls) ss = ap (λ (c : Bool). if c then taken t p (stepped t s ls) ss else record { levels = ls; rest = s ∷ ss }) here in
      let long : begin_too_many t p ls (s ∷ ss) ≡ begin_too_many t p (stepped t s ls) ss =
      ap₂ (λ (c d : Bool). c && (d || begin_too_many t p (stepped t s ls) ss)) here short in
      not_long w steps (e ∙ more) (f ∙ long) j a b
  not_long {p = p} (pass {ss = ss} {ls = ls} w) steps e f j a b =
      let late = untaken w p (omega arith) ls in
      let before : is_too_many t steps p ≡ false = sym (too_many_at t steps p (walked t steps p).levels (walked t steps p).rest refl refl) ∙ f ∙ late.1 in
      let here : taken t p (walked t steps p).levels (walked t steps p).rest ≡ record { levels = ls; rest = ss } = e ∙ late.0 in
      let next : walked t steps (p + 1) ≡ record { levels = bracketed (bracket_of (terminal_at t p)) ls; rest = ss } =
      walked-more t steps p ∙ ap (λ (v : Walk). record { levels = bracketed (bracket_of (terminal_at t p)) v.levels; rest = v.rest }) here in
      let behind : p < j → is_too_many t steps j ≡ false =
      λ l. not_long w steps (ap (λ (v : Walk). taken t (p + 1) v.levels v.rest) next) (ap (λ (v : Walk). begin_too_many t (p + 1) v.levels v.rest) next) j (omega arith) b in
      elim (cases_order p j) [ inl same ↦ subst (λ i. is_too_many t steps i ≡ false) same before | inr (inl l) ↦ behind l | inr (inr l) ↦ absurd (omega arith) ]

  -- Where a text is walked over from its own level on, no chain is too long.
  pub none_long : (steps : List (Step Rule)) {q : ℕ} {ms : List Level} → length t.lexemes ≤ q → Walks t 0 steps (fresh by.Bracket ∷ []) q ms → NoneLong t steps
  none_long steps l w j h =
      let start = walked-start t steps in
      not_long w steps (ap (λ (v : Walk). taken t 0 v.levels v.rest) start) (ap (λ (v : Walk). begin_too_many t 0 v.levels v.rest) start) j (omega arith) (omega (arith, h, l))
