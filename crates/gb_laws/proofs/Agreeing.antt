-- A term means the same in states that agree on what it uses.
use Rattle.std.proofs.Common.{◌≡◌, Bool, true, false, not, ◌&&◌, [], ◌∷◌, refl, ap, sym, ◌∙◌}
use Rattle.std.proofs.lemmas.Bool.{false≢true}
use Rattle.gb_terms.specs.declared.op.Side.TheVariants as side
use Rattle.gb_terms.specs.declared.op.Read.TheVariants.{Logical, Program}
use Rattle.gb_terms.specs.declared.term.Term.{Term}
use Rattle.gb_walk.specs.declared.change.Change.TheVariants.{ToSide}
use Rattle.gb_walk.specs.Change.{is_own, is_left_or_right}
use Rattle.gb_meaning.specs.Memory.{Memory, read, read_globals}
use Rattle.gb_meaning.specs.Setting.{Setting}
use Rattle.gb_meaning.specs.Setting.Meaning.{finite}
use Rattle.gb_meaning.specs.State.{State, under, at, between}
use Rattle.gb_meaning.specs.State.Binding.{memory}
use Rattle.gb_meaning.specs.Terms.{Speaks, val}
use Rattle.gb_meaning.specs.Judgments.{Judge, IsFair, speaking, IsSoundForm}
use Rattle.gb_laws.specs.Formed.{IsFormed}
use Rattle.gb_laws.specs.Plain.{IsPlain}
use Rattle.gb_laws.specs.Uses.{Uses, IsWithin, besides_own, besides_sides, every_use, unbound}
use Rattle.gb_laws.specs.Uses.Use.{read as reads, bound, globals, starts, binds_own, binds_sides}
use Rattle.gb_laws.specs.Led.{IgnoresOwn, IgnoresSides, Led}
use Rattle.gb_laws.specs.Agree.{Agree}
use Rattle.gb_laws.proofs.Changing.{plain_followed}
use Rattle.gb_laws.proofs.Entering.{at_other, between_other}
use Rattle.gb_laws.proofs.Forms.{form_followed}

agree_self : (g : Setting) (K : Uses) (s : State) → Agree g K s s
agree_self g K s (reads r ty) k = refl
agree_self g K s (bound i) k = refl
agree_self g K s (globals m r) k = refl
agree_self g K s (starts r) k = refl
agree_self g K s binds_own k = tt
agree_self g K s binds_sides k = tt

-- no change leads to each state that agrees
led_nowhere : (g : Setting) (j : Speaks) (K : Uses) (s q : State) → Agree g K s q → Led g j [] K s q
led_nowhere g j K s q a (reads (Logical i) ty) k = a (reads (Logical i) ty) k
led_nowhere g j K s q a (reads (Program x r) ty) k = a (reads (Program x r) ty) k
led_nowhere g j K s q a (bound i) k = a (bound i) k
led_nowhere g j K s q a (globals m r) k = a (globals m r) k
led_nowhere g j K s q a (starts r) k = a (starts r) k
led_nowhere g j K s q a binds_own k = tt
led_nowhere g j K s q a binds_sides k = tt

pub term_agrees : (g : Setting) (j : Speaks) (t : Term) → IsFormed t → IsPlain t → (K : Uses) (s q : State) → Agree g K s q → IsWithin K t → val g j t s ≡ val g j t q
term_agrees g j t f p K s q a w =
    sym (plain_followed g j t f p [] K s s tt (led_nowhere g j K s s (agree_self g K s)) w) ∙ plain_followed g j t f p [] K s q tt (led_nowhere g j K s q a) w

pub form_agrees : (g : Setting) (j : Judge) → IsFair g j → (t : Term) → IsFormed t → IsSoundForm g t → (K : Uses) (s q : State) → Agree g K s q → IsWithin K t →
    val g (speaking g j) t s ≡ val g (speaking g j) t q
form_agrees g j fair t f u K s q a w =
    sym (form_followed g j fair t f u [] K s s tt (led_nowhere g (speaking g j) K s s (agree_self g K s)) w)
    ∙ form_followed g j fair t f u [] K s q tt (led_nowhere g (speaking g j) K s q a) w

not_bound : (a b : Bool) → (not a && b) ≡ true → a ≡ false
not_bound false b e = refl
not_bound true b e = absurd (false≢true e)

pub ignores_own : (g : Setting) (j : Speaks) (t : Term) → IsFormed t → IsPlain t → IsWithin (besides_own every_use) t → IgnoresOwn g j t
ignores_own g j t f p w s m = term_agrees g j t f p (besides_own every_use) (at s m) s agree w
  where
    agree : Agree g (besides_own every_use) (at s m) s
    agree (reads (Logical i) ty) k = refl
    agree (reads (Program x r) ty) k = ap (λ n. finite (read g.types n x ty)) (at_other s m r (not_bound (is_own r) _ k))
    agree (bound i) k = refl
    agree (globals x r) k = ap (λ n. read_globals g.types n (g.types.footprint x)) (at_other s m r (not_bound (is_own r) _ k))
    agree (starts r) k = at_other s m r (not_bound (is_own r) _ k)
    agree binds_own k = tt
    agree binds_sides k = tt

pub ignores_sides : (g : Setting) (j : Speaks) (t : Term) → IsFormed t → IsPlain t → IsWithin (besides_sides every_use) t → IgnoresSides g j t
ignores_sides g j t f p w s m n = term_agrees g j t f p (besides_sides every_use) (between s m n) s agree w
  where
    agree : Agree g (besides_sides every_use) (between s m n) s
    agree (reads (Logical i) ty) k = refl
    agree (reads (Program x r) ty) k = ap (λ o. finite (read g.types o x ty)) (between_other s m n r (not_bound (is_left_or_right r) _ k))
    agree (bound i) k = refl
    agree (globals x r) k = ap (λ o. read_globals g.types o (g.types.footprint x)) (between_other s m n r (not_bound (is_left_or_right r) _ k))
    agree (starts r) k = between_other s m n r (not_bound (is_left_or_right r) _ k)
    agree binds_own k = tt
    agree binds_sides k = tt

-- a side becomes the memory that the innermost binder binds
pub left_to_binder : (g : Setting) (j : Speaks) (s : State) (m : Memory) → Led g j (ToSide side.Left (side.Bound 0) ∷ []) unbound (under s (memory m)) (between s m s.right)
left_to_binder g j s m (reads (Logical i) ty) k = refl
left_to_binder g j s m (reads (Program x side.Own) ty) k = refl
left_to_binder g j s m (reads (Program x side.Left) ty) k = refl
left_to_binder g j s m (reads (Program x side.Right) ty) k = refl
left_to_binder g j s m (reads (Program x (side.Memory i)) ty) k = refl
left_to_binder g j s m (reads (Program x (side.Bound i)) ty) k = absurd (false≢true k)
left_to_binder g j s m (bound i) k = absurd (false≢true k)
left_to_binder g j s m (globals x side.Own) k = refl
left_to_binder g j s m (globals x side.Left) k = refl
left_to_binder g j s m (globals x side.Right) k = refl
left_to_binder g j s m (globals x (side.Memory i)) k = refl
left_to_binder g j s m (globals x (side.Bound i)) k = absurd (false≢true k)
left_to_binder g j s m (starts side.Own) k = refl
left_to_binder g j s m (starts side.Left) k = refl
left_to_binder g j s m (starts side.Right) k = refl
left_to_binder g j s m (starts (side.Memory i)) k = refl
left_to_binder g j s m (starts (side.Bound i)) k = absurd (false≢true k)
left_to_binder g j s m binds_own k = ((λ e. refl), tt)
left_to_binder g j s m binds_sides k = ((λ e. refl), tt)

pub right_to_binder : (g : Setting) (j : Speaks) (s : State) (m : Memory) → Led g j (ToSide side.Right (side.Bound 0) ∷ []) unbound (under s (memory m)) (between s s.left m)
right_to_binder g j s m (reads (Logical i) ty) k = refl
right_to_binder g j s m (reads (Program x side.Own) ty) k = refl
right_to_binder g j s m (reads (Program x side.Left) ty) k = refl
right_to_binder g j s m (reads (Program x side.Right) ty) k = refl
right_to_binder g j s m (reads (Program x (side.Memory i)) ty) k = refl
right_to_binder g j s m (reads (Program x (side.Bound i)) ty) k = absurd (false≢true k)
right_to_binder g j s m (bound i) k = absurd (false≢true k)
right_to_binder g j s m (globals x side.Own) k = refl
right_to_binder g j s m (globals x side.Left) k = refl
right_to_binder g j s m (globals x side.Right) k = refl
right_to_binder g j s m (globals x (side.Memory i)) k = refl
right_to_binder g j s m (globals x (side.Bound i)) k = absurd (false≢true k)
right_to_binder g j s m (starts side.Own) k = refl
right_to_binder g j s m (starts side.Left) k = refl
right_to_binder g j s m (starts side.Right) k = refl
right_to_binder g j s m (starts (side.Memory i)) k = refl
right_to_binder g j s m (starts (side.Bound i)) k = absurd (false≢true k)
right_to_binder g j s m binds_own k = ((λ e. refl), tt)
right_to_binder g j s m binds_sides k = ((λ e. refl), tt)
