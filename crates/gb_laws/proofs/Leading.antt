-- Changes lead from one state to another under a binder, and where memories are bound.
use Rattle.std.proofs.Common.{◌≡◌, ℕ, zero, suc, ◌==◌, Bool, true, false, not, List, [], ◌∷◌, get_or, Option, Some, None, refl, ap, sym, ◌∙◌, subst}
use Rattle.std.specs.List.{AllByRecursion}
use Rattle.std.specs.Option.{option_map}
use Rattle.gb_core.specs.declared.ty.Ty.{Ty}
use Rattle.gb_terms.specs.declared.op.Side.{Side}
use Rattle.gb_terms.specs.declared.op.Side.TheVariants as side
use Rattle.gb_terms.specs.declared.op.Read.{Read}
use Rattle.gb_terms.specs.declared.op.Read.TheVariants.{Logical, Program}
use Rattle.gb_terms.specs.declared.module.Mexp.{Mexp}
use Rattle.gb_terms.specs.declared.term.Term.{Term}
use Rattle.gb_terms.specs.Equal.{read_eq}
use Rattle.gb_walk.specs.Raise.{side_raised, read_raised, term_raised}
use Rattle.gb_walk.specs.declared.change.Change.{Change}
use Rattle.gb_walk.specs.declared.change.Change.TheVariants.{ToTerm, OfBound, ToSide}
use Rattle.gb_walk.specs.Change.{Changes, change_raised, is_own, is_left_or_right, is_through, without, under_binder, or_later, found_for_read, found_for_bound, side_changed, read_changed}
use Rattle.gb_meaning.specs.Memory.{read, read_globals}
use Rattle.gb_meaning.specs.Setting.{Meaning, Setting}
use Rattle.gb_meaning.specs.Setting.Meaning.{finite}
use Rattle.gb_meaning.specs.State.{State, Binding, binding, meaning_in, memory_in, memory_of, under, at, between}
use Rattle.gb_meaning.specs.State.Binding.{program}
use Rattle.gb_meaning.specs.Terms.{Speaks, read_at}
use Rattle.gb_laws.specs.Lifted.{Lifted}
use Rattle.gb_laws.specs.Uses.{Use, Uses, beneath}
use Rattle.gb_laws.specs.Uses.Use.{read as reads, bound as bound_use, globals, starts, binds_own, binds_sides}
use Rattle.gb_laws.specs.Led.{IsPut, OnPut, ArePut, put, IgnoresOwn, IgnoresSides, Enters, Leads, Led}
use Rattle.gb_laws.proofs.Raising.{plain_steady, lifted_side}
use Rattle.gb_laws.proofs.Puts.{put_raised}
use Rattle.gb_laws.proofs.Lookups.{index_next, raised_bound, read_found_under, read_of_binder, bound_found_under, bound_of_binder, side_under, side_of_binder, each_filter, each_map}

abbrev rest_of : List Binding → List Binding
rest_of [] = []
rest_of (b ∷ bs) = bs

-- the state outside of the innermost binder
abbrev outside : State → State
outside s = record s { bound = rest_of s.bound }

pub lifted_zero : (s : State) (b : Binding) → Lifted 0 (under s b) s
lifted_zero s b = record { logical = refl; named = refl; own = refl; left = refl; right = refl; bound = λ i. ap (binding (under s b)) (index_next i) }

lifted_outside : (s : State) → Lifted 0 s (outside s)
lifted_outside s = record { logical = refl; named = refl; own = refl; left = refl; right = refl; bound = λ i. ap (binding s) (index_next i) ∙ step s.bound i }
  where
    step : (bs : List Binding) (i : ℕ) → get_or bs (suc i) program ≡ get_or (rest_of bs) i program
    step [] i = refl
    step (b ∷ bs) i = refl

abbrev pub OnSome : (Term → Type 0) → Option Term → Type 0
OnSome P (Some t) = P t
OnSome P None = Unit {0}

later_some : (P : Term → Type 0) (b : Bool) (t : Term) (o : Option Term) → P t → OnSome P o → OnSome P (or_later b t o)
later_some P true t o x y = x
later_some P false t o x y = y

pub read_found_each : (P : Term → Type 0) (cs : Changes) → AllByRecursion (OnPut P) cs → (r : Read) → OnSome P (found_for_read cs r)
read_found_each P [] h r = tt
read_found_each P (ToTerm o t ∷ cs) h r = later_some P (read_eq o r) t _ h.0 (read_found_each P cs h.1 r)
read_found_each P (OfBound i t ∷ cs) h r = read_found_each P cs h.1 r
read_found_each P (ToSide a b ∷ cs) h r = read_found_each P cs h.1 r

pub bound_found_each : (P : Term → Type 0) (cs : Changes) → AllByRecursion (OnPut P) cs → (k : ℕ) → OnSome P (found_for_bound cs k)
bound_found_each P [] h k = tt
bound_found_each P (ToTerm o t ∷ cs) h k = bound_found_each P cs h.1 k
bound_found_each P (OfBound i t ∷ cs) h k = later_some P (i == k) t _ h.0 (bound_found_each P cs h.1 k)
bound_found_each P (ToSide a b ∷ cs) h k = bound_found_each P cs h.1 k

pub puts_under : (g : Setting) (cs : Changes) → ArePut g cs → ArePut g (under_binder cs)
puts_under g cs h = each_map (OnPut (IsPut g)) (OnPut (IsPut g)) change_raised step cs h
  where
    step : (c : Change) → OnPut (IsPut g) c → OnPut (IsPut g) (change_raised c)
    step (ToTerm r t) p = put_raised g t p
    step (OfBound i t) p = put_raised g t p
    step (ToSide a b) p = tt

pub puts_without : (g : Setting) (p : Side → Bool) (cs : Changes) → ArePut g cs → ArePut g (without p cs)
puts_without g p cs h = each_filter (OnPut (IsPut g)) (λ c. not (is_through p c)) cs h

own_raised : (r : Side) → is_own (side_raised 0 r) ≡ is_own r
own_raised (side.Bound i) = refl
own_raised _ = refl

sides_raised : (r : Side) → is_left_or_right (side_raised 0 r) ≡ is_left_or_right r
sides_raised (side.Bound i) = refl
sides_raised _ = refl

module _ (g : Setting) (j : Speaks) where
  ignores_own_raised : (t : Term) → IsPut g t → IgnoresOwn g j t → IgnoresOwn g j (term_raised t 0)
  ignores_own_raised t p h s m =
      plain_steady g j t p.formed p.plain 0 (at s m) (at (outside s) m) (lifted_outside (at s m)) ∙ h (outside s) m
      ∙ sym (plain_steady g j t p.formed p.plain 0 s (outside s) (lifted_outside s))

  ignores_sides_raised : (t : Term) → IsPut g t → IgnoresSides g j t → IgnoresSides g j (term_raised t 0)
  ignores_sides_raised t p h s m n =
      plain_steady g j t p.formed p.plain 0 (between s m n) (between (outside s) m n) (lifted_outside (between s m n)) ∙ h (outside s) m n
      ∙ sym (plain_steady g j t p.formed p.plain 0 s (outside s) (lifted_outside s))

  enters_under : (P : Term → Type 0) (p : Side → Bool) → ((r : Side) → p (side_raised 0 r) ≡ p r) → ((t : Term) → IsPut g t → P t → P (term_raised t 0)) →
      (cs : Changes) → ArePut g cs → Enters P p cs → Enters P p (under_binder cs)
  enters_under P p f k [] a h = tt
  enters_under P p f k (ToTerm (Logical i) t ∷ cs) a h = (λ e. k t a.0 (h.0 e), enters_under P p f k cs a.1 h.1)
  enters_under P p f k (ToTerm (Program x r) t ∷ cs) a h = (λ e. k t a.0 (h.0 (sym (f r) ∙ e)), enters_under P p f k cs a.1 h.1)
  enters_under P p f k (OfBound i t ∷ cs) a h = (λ e. k t a.0 (h.0 e), enters_under P p f k cs a.1 h.1)
  enters_under P p f k (ToSide r o ∷ cs) a h = (λ e. f o ∙ h.0 (sym (f r) ∙ e), enters_under P p f k cs a.1 h.1)

  module _ (cs : Changes) (puts : ArePut g cs) (K : Uses) (s q : State) (led : Led g j cs K s q) (b : Binding) where
    put_under : (o : Option Term) (x y : Meaning) → OnSome (IsPut g) o → x ≡ y → put g j (option_map (λ u. term_raised u 0) o) x (under s b) ≡ put g j o y s
    put_under (Some t) x y p e = plain_steady g j t p.formed p.plain 0 (under s b) s (lifted_zero s b)
    put_under None x y p e = e

    memory_under : (r : Side) → memory_of (under s b) (side_changed (under_binder cs) (side_raised 0 r)) ≡ memory_of s (side_changed cs r)
    memory_under r = ap (memory_of (under s b)) (side_under cs r) ∙ lifted_side 0 (under s b) s (lifted_zero s b) (side_changed cs r)

    memory_left : (r : Side) → memory_of (under q b) (side_raised 0 r) ≡ memory_of q r
    memory_left r = lifted_side 0 (under q b) q (lifted_zero q b) r

    memory_bound : memory_of (under s b) (side_changed (under_binder cs) (side.Bound 0)) ≡ memory_in b
    memory_bound = ap (memory_of (under s b)) (side_of_binder cs)

    read_under : (r : Read) (ty : Ty) → read_at g (read_changed (under_binder cs) (read_raised 0 r)) ty (under s b) ≡ read_at g (read_changed cs r) ty s
    read_under (Logical i) ty = refl
    read_under (Program x r) ty = ap (λ m. finite (read g.types m x ty)) (memory_under r)

    read_left : (r : Read) (ty : Ty) → read_at g (read_raised 0 r) ty (under q b) ≡ read_at g r ty q
    read_left (Logical i) ty = refl
    read_left (Program x r) ty = ap (λ m. finite (read g.types m x ty)) (memory_left r)

    leads_read : (r : Read) (ty : Ty) → Leads g j cs s q (reads r ty) → Leads g j (under_binder cs) (under s b) (under q b) (reads (read_raised 0 r) ty)
    leads_read r ty e =
        ap (λ o. put g j o (read_at g (read_changed (under_binder cs) (read_raised 0 r)) ty (under s b)) (under s b)) (read_found_under cs r)
        ∙ put_under (found_for_read cs r) _ _ (read_found_each (IsPut g) cs puts r) (read_under r ty) ∙ e ∙ sym (read_left r ty)

    leads_globals : (x : Mexp) (r : Side) → Leads g j cs s q (globals x r) → Leads g j (under_binder cs) (under s b) (under q b) (globals x (side_raised 0 r))
    leads_globals x r e =
        ap (λ m. read_globals g.types m (g.types.footprint x)) (memory_under r) ∙ e ∙ sym (ap (λ m. read_globals g.types m (g.types.footprint x)) (memory_left r))

    leads_starts : (r : Side) → Leads g j cs s q (starts r) → Leads g j (under_binder cs) (under s b) (under q b) (starts (side_raised 0 r))
    leads_starts r e = memory_under r ∙ e ∙ sym (memory_left r)

    abbrev Below : Use → Type 0
    Below u = Leads g j (under_binder cs) (under s b) (under q b) u

    -- under a binder
    pub led_under : Led g j (under_binder cs) (beneath K) (under s b) (under q b)
    led_under (reads (Logical i) ty) k = leads_read (Logical i) ty (led _ k)
    led_under (reads (Program x side.Own) ty) k = leads_read (Program x side.Own) ty (led _ k)
    led_under (reads (Program x side.Left) ty) k = leads_read (Program x side.Left) ty (led _ k)
    led_under (reads (Program x side.Right) ty) k = leads_read (Program x side.Right) ty (led _ k)
    led_under (reads (Program x (side.Memory i)) ty) k = leads_read (Program x (side.Memory i)) ty (led _ k)
    led_under (reads (Program x (side.Bound zero)) ty) k =
        ap (λ o. put g j o (finite (read g.types (memory_of (under s b) (side_changed (under_binder cs) (side.Bound 0))) x ty)) (under s b)) (read_of_binder cs x)
        ∙ ap (λ m. finite (read g.types m x ty)) memory_bound
    led_under (reads (Program x (side.Bound (suc i))) ty) k =
        subst (λ r. Below (reads (Program x r) ty)) (raised_bound i) (leads_read (Program x (side.Bound i)) ty (led _ k))
    led_under (bound_use zero) k = ap (λ o. put g j o (meaning_in b) (under s b)) (bound_of_binder cs)
    led_under (bound_use (suc i)) k =
        ap (λ o. put g j o (meaning_in (binding s i)) (under s b)) (bound_found_under cs i)
        ∙ put_under (found_for_bound cs i) _ _ (bound_found_each (IsPut g) cs puts i) refl ∙ led (bound_use i) k
    led_under (globals x side.Own) k = leads_globals x side.Own (led _ k)
    led_under (globals x side.Left) k = leads_globals x side.Left (led _ k)
    led_under (globals x side.Right) k = leads_globals x side.Right (led _ k)
    led_under (globals x (side.Memory i)) k = leads_globals x (side.Memory i) (led _ k)
    led_under (globals x (side.Bound zero)) k = ap (λ m. read_globals g.types m (g.types.footprint x)) memory_bound
    led_under (globals x (side.Bound (suc i))) k = subst (λ r. Below (globals x r)) (raised_bound i) (leads_globals x (side.Bound i) (led _ k))
    led_under (starts side.Own) k = leads_starts side.Own (led _ k)
    led_under (starts side.Left) k = leads_starts side.Left (led _ k)
    led_under (starts side.Right) k = leads_starts side.Right (led _ k)
    led_under (starts (side.Memory i)) k = leads_starts (side.Memory i) (led _ k)
    led_under (starts (side.Bound zero)) k = memory_bound
    led_under (starts (side.Bound (suc i))) k = subst (λ r. Below (starts r)) (raised_bound i) (leads_starts (side.Bound i) (led _ k))
    led_under binds_own k = enters_under (IgnoresOwn g j) is_own own_raised ignores_own_raised cs puts (led binds_own k)
    led_under binds_sides k = enters_under (IgnoresSides g j) is_left_or_right sides_raised ignores_sides_raised cs puts (led binds_sides k)
