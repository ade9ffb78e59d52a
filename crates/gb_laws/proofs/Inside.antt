-- Where changes lead in a body.
use Rattle.std.proofs.Common.{◌≡◌, ℕ, zero, suc, ◌+◌, ◌≤◌, ◌==◌, Bool, true, false, List, [], ◌∷◌, length, get_or, Option, Some, None, refl, ap, sym, ◌∙◌, subst, arith}
use Rattle.std.specs.List.{AllByRecursion}
use Rattle.std.proofs.lemmas.Bool.{false≢true, eqb-true}
use Rattle.gb_terms.specs.declared.op.Side.{Side}
use Rattle.gb_terms.specs.declared.op.Side.TheVariants as side
use Rattle.gb_terms.specs.declared.op.Read.TheVariants.{Logical, Program}
use Rattle.gb_terms.specs.declared.term.Term.{Term}
use Rattle.gb_walk.specs.declared.change.Change.TheVariants.{ToTerm, OfBound, ToSide}
use Rattle.gb_walk.specs.Change.{Changes, is_own, is_left_or_right, without, or_later, found_for_read, found_for_bound, side_changed}
use Rattle.gb_meaning.specs.Memory.{Memory, read, read_globals}
use Rattle.gb_meaning.specs.Setting.{Meaning, Setting}
use Rattle.gb_meaning.specs.Setting.Meaning.{finite}
use Rattle.gb_meaning.specs.Meanings.{nothing}
use Rattle.gb_meaning.specs.State.{State, Binding, binding, meaning_in, memory_of, between, inside}
use Rattle.gb_meaning.specs.State.Binding.{value, program}
use Rattle.gb_meaning.specs.Terms.{Speaks, quiet, val}
use Rattle.gb_laws.specs.Uses.{Uses, in_body}
use Rattle.gb_laws.specs.Uses.Use.{read as reads, bound as bound_use, globals, starts, binds_own, binds_sides}
use Rattle.gb_laws.specs.Led.{IsPut, OnPut, ArePut, put, IgnoresOwn, IgnoresSides, Enters, Led}
use Rattle.gb_laws.proofs.Leading.{OnSome, read_found_each, bound_found_each}
use Rattle.gb_laws.proofs.Lookups.{read_found_without, bound_found_without, read_found_none, side_kept}
use Rattle.gb_laws.proofs.Quiet.{plain_quiet}

abbrev each_side : Side → Bool
each_side r = true

module _ (g : Setting) (j : Speaks) (cs : Changes) (puts : ArePut g cs) (K : Uses) (s q : State) (led : Led g j cs K s q) (own : K binds_own ≡ true) (sides : K binds_sides ≡ true) (m : Memory) where
  -- a term that is put in means in the body what it means outside
  abbrev Still : Term → Type 0
  Still t = val g quiet t (inside s m) ≡ val g j t s

  still : (t : Term) → IsPut g t → IgnoresOwn g j t → IgnoresSides g j t → Still t
  still t p a b = sym (plain_quiet g j t p.plain (inside s m)) ∙ a (between s m m) m ∙ b s m m

  all_still : (ds : Changes) → ArePut g ds → Enters (IgnoresOwn g j) is_own ds → Enters (IgnoresSides g j) is_left_or_right ds → AllByRecursion (OnPut Still) (without each_side ds)
  all_still [] p a b = tt
  all_still (ToTerm (Logical i) t ∷ ds) p a b = (still t p.0 (a.0 refl) (b.0 refl), all_still ds p.1 a.1 b.1)
  all_still (ToTerm (Program x r) t ∷ ds) p a b = all_still ds p.1 a.1 b.1
  all_still (OfBound i t ∷ ds) p a b = (still t p.0 (a.0 refl) (b.0 refl), all_still ds p.1 a.1 b.1)
  all_still (ToSide x y ∷ ds) p a b = all_still ds p.1 a.1 b.1

  kept : AllByRecursion (OnPut Still) (without each_side cs)
  kept = all_still cs puts (led binds_own own) (led binds_sides sides)

  put_still : (o : Option Term) (x : Meaning) → OnSome Still o → put g quiet o x (inside s m) ≡ put g j o x s
  put_still (Some t) x h = h
  put_still None x h = refl

  pub led_inside : Led g quiet (without is_own cs) (in_body K) (inside s m) (inside q m)
  led_inside (reads (Logical i) ty) k =
      ap (λ o. put g quiet o (s.logical i) (inside s m)) (read_found_without is_own cs (Logical i) refl)
      ∙ put_still (found_for_read cs (Logical i)) (s.logical i) (subst (OnSome Still) (read_found_without each_side cs (Logical i) refl) (read_found_each Still (without each_side cs) kept (Logical i)))
      ∙ led (reads (Logical i) ty) k
  led_inside (reads (Program x side.Own) ty) k =
      ap (λ o. put g quiet o (finite (read g.types (memory_of (inside s m) (side_changed (without is_own cs) side.Own)) x ty)) (inside s m)) (read_found_none is_own cs (Program x side.Own) refl)
      ∙ ap (λ r. finite (read g.types (memory_of (inside s m) r) x ty)) (side_kept is_own cs side.Own refl)
  led_inside (reads (Program x side.Left) ty) k = absurd (false≢true k)
  led_inside (reads (Program x side.Right) ty) k = absurd (false≢true k)
  led_inside (reads (Program x (side.Memory i)) ty) k = absurd (false≢true k)
  led_inside (reads (Program x (side.Bound i)) ty) k = absurd (false≢true k)
  led_inside (bound_use i) k =
      ap (λ o. put g quiet o (meaning_in (binding s i)) (inside s m)) (bound_found_without is_own cs i)
      ∙ put_still (found_for_bound cs i) (meaning_in (binding s i)) (subst (OnSome Still) (bound_found_without each_side cs i) (bound_found_each Still (without each_side cs) kept i))
      ∙ led (bound_use i) k
  led_inside (globals x side.Own) k = ap (λ r. read_globals g.types (memory_of (inside s m) r) (g.types.footprint x)) (side_kept is_own cs side.Own refl)
  led_inside (globals x side.Left) k = absurd (false≢true k)
  led_inside (globals x side.Right) k = absurd (false≢true k)
  led_inside (globals x (side.Memory i)) k = absurd (false≢true k)
  led_inside (globals x (side.Bound i)) k = absurd (false≢true k)
  led_inside (starts r) k = absurd (false≢true k)
  led_inside binds_own k = absurd (false≢true k)
  led_inside binds_sides k = absurd (false≢true k)

-- From each state changes of a body's terms lead to some state.

-- the values of a function, in order
abbrev tabulated : ℕ → (ℕ → Meaning) → List Binding
tabulated zero f = []
tabulated (suc n) f = value (f zero) ∷ tabulated n (λ i. f (suc i))

get_tabulated : (n : ℕ) (f : ℕ → Meaning) → ((i : ℕ) → n ≤ i → f i ≡ nothing) → (i : ℕ) → meaning_in (get_or (tabulated n f) i program) ≡ f i
get_tabulated zero f h i = sym (h i (omega arith))
get_tabulated (suc n) f h zero = refl
get_tabulated (suc n) f h (suc i) = get_tabulated n (λ i. f (suc i)) (λ i k. h (suc i) (omega (arith, k))) i

none_bound : (bs : List Binding) (i : ℕ) → length bs ≤ i → get_or bs i program ≡ program
none_bound [] i h = refl
none_bound (b ∷ bs) zero h = absurd (omega (arith, h))
none_bound (b ∷ bs) (suc i) h = none_bound bs i (omega (arith, h))

abbrev most_bound : Changes → ℕ
most_bound [] = 0
most_bound (OfBound i t ∷ cs) = suc i + most_bound cs
most_bound (ToTerm r t ∷ cs) = most_bound cs
most_bound (ToSide x y ∷ cs) = most_bound cs

none_found : (cs : Changes) (i : ℕ) → most_bound cs ≤ i → found_for_bound cs i ≡ None
none_found [] i h = refl
none_found (OfBound k t ∷ cs) i h = step (λ l. none_found cs i l) (k == i) refl
  where
    step : (most_bound cs ≤ i → found_for_bound cs i ≡ None) → (b : Bool) → (k == i) ≡ b → or_later b t (found_for_bound cs i) ≡ None
    step f true e = absurd (let same = eqb-true k i e in omega (arith, h, same))
    step f false e = f (omega (arith, h))
none_found (ToTerm r t ∷ cs) i h = none_found cs i h
none_found (ToSide x y ∷ cs) i h = none_found cs i h

module _ (g : Setting) (cs : Changes) (K : Uses) (s : State) where
  abbrev ds : Changes
  ds = without is_own cs

  bound_in : ℕ → Meaning
  bound_in i = put g quiet (found_for_bound ds i) (meaning_in (binding s i)) s

  most : ℕ
  most = length s.bound + most_bound ds

  beyond : (i : ℕ) → most ≤ i → bound_in i ≡ nothing
  unfolding bound_in most
  beyond i h =
      ap (λ o. put g quiet o (meaning_in (binding s i)) s) (none_found ds i (omega (arith, h))) ∙ ap meaning_in (none_bound s.bound i (omega (arith, h)))

  -- the state to which they lead
  pub target : State
  target = record s { logical = λ i. put g quiet (found_for_read ds (Logical i)) (s.logical i) s; bound = tabulated most bound_in }

  pub led_target : Led g quiet ds (in_body K) s target
  unfolding target bound_in
  led_target (reads (Logical i) ty) k = refl
  led_target (reads (Program x side.Own) ty) k =
      ap (λ o. put g quiet o (finite (read g.types (memory_of s (side_changed ds side.Own)) x ty)) s) (read_found_none is_own cs (Program x side.Own) refl)
      ∙ ap (λ r. finite (read g.types (memory_of s r) x ty)) (side_kept is_own cs side.Own refl)
  led_target (reads (Program x side.Left) ty) k = absurd (false≢true k)
  led_target (reads (Program x side.Right) ty) k = absurd (false≢true k)
  led_target (reads (Program x (side.Memory i)) ty) k = absurd (false≢true k)
  led_target (reads (Program x (side.Bound i)) ty) k = absurd (false≢true k)
  led_target (bound_use i) k = sym (get_tabulated most bound_in beyond i)
  led_target (globals x side.Own) k = ap (λ r. read_globals g.types (memory_of s r) (g.types.footprint x)) (side_kept is_own cs side.Own refl)
  led_target (globals x side.Left) k = absurd (false≢true k)
  led_target (globals x side.Right) k = absurd (false≢true k)
  led_target (globals x (side.Memory i)) k = absurd (false≢true k)
  led_target (globals x (side.Bound i)) k = absurd (false≢true k)
  led_target (starts r) k = absurd (false≢true k)
  led_target binds_own k = absurd (false≢true k)
  led_target binds_sides k = absurd (false≢true k)
