-- Changes lead from one state to another where a judgment, or a probability, binds memories.
use Rattle.std.proofs.Common.{◌≡◌, ℕ, ◌==◌, Bool, true, false, not, ◌&&◌, ◌||◌, inl, inr, ◌⊎◌, if◌then◌else◌, [], ◌∷◌, get_or, Option, Some, None, refl, ap, sym, ◌∙◌}
use Rattle.std.specs.List.{AllByRecursion}
use Rattle.std.proofs.lemmas.Bool.{false≢true}
use Rattle.gb_terms.specs.declared.op.Side.{Side}
use Rattle.gb_terms.specs.declared.op.Side.TheVariants as side
use Rattle.gb_terms.specs.declared.op.Read.{Read}
use Rattle.gb_terms.specs.declared.op.Read.TheVariants.{Logical, Program}
use Rattle.gb_terms.specs.declared.term.Term.{Term}
use Rattle.gb_terms.specs.Equal.{side_eq, read_eq}
use Rattle.gb_terms.proofs.Equality.{side_eq-Decides, read_eq-Decides}
use Rattle.gb_walk.specs.declared.change.Change.{Change}
use Rattle.gb_walk.specs.declared.change.Change.TheVariants.{ToTerm, OfBound, ToSide}
use Rattle.gb_walk.specs.Change.{Changes, is_own, is_left_or_right, is_read_through, is_through, without, or_later, found_for_read, found_for_bound, side_changed, read_changed}
use Rattle.gb_meaning.specs.Memory.{Memory, read, read_globals}
use Rattle.gb_meaning.specs.Setting.{Meaning, Setting}
use Rattle.gb_meaning.specs.Setting.Meaning.{finite}
use Rattle.gb_meaning.specs.State.{State, binding, meaning_in, memory_of, at, between}
use Rattle.gb_meaning.specs.State.Binding.{program}
use Rattle.gb_meaning.specs.Terms.{Speaks, val, read_at}
use Rattle.gb_laws.specs.Uses.{Uses, entering, no_side, under_own, under_sides, besides_own}
use Rattle.gb_laws.specs.Uses.Use.{read as reads, bound as bound_use, globals, starts, binds_own, binds_sides}
use Rattle.gb_laws.specs.Led.{put, IgnoresOwn, IgnoresSides, Stays, Enters, Leads, Led}
use Rattle.gb_laws.proofs.Leading.{OnSome}
use Rattle.gb_laws.proofs.Lookups.{each_filter, read_found_without, bound_found_without, side_without, read_found_none, side_kept}

-- a use where memories are bound: of one of them, or of what is outside
allowed : (a b c : Bool) → (not a && (b || c)) ≡ true → (a ≡ false) × ((b ≡ true) ⊎ ((b ≡ false) × (c ≡ true)))
allowed true b c e = absurd (false≢true e)
allowed false true c e = (refl, inl refl)
allowed false false c e = (refl, inr (refl, e))

module _ (g : Setting) (j : Speaks) (p z : Side → Bool) (cs : Changes) (K : Uses) (s q v w : State) (led : Led g j cs K s q) where
  -- what is put in means in v what it means in s
  abbrev pub SameTerm : Term → Type 0
  SameTerm t = val g j t v ≡ val g j t s

  abbrev pub SameChange : Change → Type 0
  SameChange (ToTerm r t) = SameTerm t
  SameChange (OfBound i t) = SameTerm t
  SameChange (ToSide a b) = memory_of v b ≡ memory_of s b

  abbrev pub Kept : Change → Type 0
  Kept c = is_through p c ≡ false → is_through z c ≡ false → SameChange c

  later_same : (b : Bool) (t : Term) (o : Option Term) → (b ≡ true → SameTerm t) → OnSome SameTerm o → OnSome SameTerm (or_later b t o)
  later_same true t o x y = x refl
  later_same false t o x y = y

  read_kept : (ds : Changes) → AllByRecursion Kept ds → (r : Read) → is_read_through p r ≡ false → is_read_through z r ≡ false → OnSome SameTerm (found_for_read ds r)
  read_kept [] h r a b = tt
  read_kept (ToTerm o t ∷ ds) h r a b =
      later_same (read_eq o r) t _ (λ e. (let x = (read_eq-Decides o r).0 e in h.0 (ap (is_read_through p) x ∙ a) (ap (is_read_through z) x ∙ b))) (read_kept ds h.1 r a b)
  read_kept (OfBound i t ∷ ds) h r a b = read_kept ds h.1 r a b
  read_kept (ToSide x y ∷ ds) h r a b = read_kept ds h.1 r a b

  bound_kept : (ds : Changes) → AllByRecursion Kept ds → (k : ℕ) → OnSome SameTerm (found_for_bound ds k)
  bound_kept [] h k = tt
  bound_kept (ToTerm o t ∷ ds) h k = bound_kept ds h.1 k
  bound_kept (OfBound i t ∷ ds) h k = later_same (i == k) t _ (λ e. h.0 refl refl) (bound_kept ds h.1 k)
  bound_kept (ToSide x y ∷ ds) h k = bound_kept ds h.1 k

  put_kept : (o : Option Term) (x y : Meaning) → OnSome SameTerm o → x ≡ y → put g j o x v ≡ put g j o y s
  put_kept (Some t) x y h e = h
  put_kept None x y h e = e

  module _ (kept : AllByRecursion Kept cs)
      (inner : (r : Side) → p r ≡ true → z r ≡ false → memory_of v r ≡ memory_of w r)
      (outer : (r : Side) → p r ≡ false → z r ≡ false → memory_of v (side_changed cs r) ≡ memory_of s (side_changed cs r))
      (outer_right : (r : Side) → p r ≡ false → z r ≡ false → memory_of w r ≡ memory_of q r)
      (values : v.logical ≡ s.logical) (right_values : w.logical ≡ q.logical)
      (binders : v.bound ≡ s.bound) (right_binders : w.bound ≡ q.bound) where
    inner_memory : (r : Side) → p r ≡ true → z r ≡ false → memory_of v (side_changed (without p cs) r) ≡ memory_of w r
    inner_memory r a b = ap (memory_of v) (side_kept p cs r a) ∙ inner r a b

    outer_memory : (r : Side) → p r ≡ false → z r ≡ false → memory_of v (side_changed (without p cs) r) ≡ memory_of s (side_changed cs r)
    outer_memory r a b = ap (memory_of v) (side_without p cs r a) ∙ outer r a b

    pub led_entering : Led g j (without p cs) (entering p z K) v w
    led_entering (reads (Logical i) ty) k =
        ap (λ o. put g j o (v.logical i) v) (read_found_without p cs (Logical i) refl)
        ∙ put_kept (found_for_read cs (Logical i)) _ _ (read_kept cs kept (Logical i) refl refl) (ap (λ f. f i) values)
        ∙ led (reads (Logical i) ty) k ∙ sym (ap (λ f. f i) right_values)
    led_entering (reads (Program x r) ty) k = step (allowed (z r) (p r) (K (reads (Program x r) ty)) k)
      where
        step : (z r ≡ false) × ((p r ≡ true) ⊎ ((p r ≡ false) × (K (reads (Program x r) ty) ≡ true))) → Leads g j (without p cs) v w (reads (Program x r) ty)
        step (b, inl a) =
            ap (λ o. put g j o (read_at g (read_changed (without p cs) (Program x r)) ty v) v) (read_found_none p cs (Program x r) a)
            ∙ ap (λ m. finite (read g.types m x ty)) (inner_memory r a b)
        step (b, inr c) =
            ap (λ o. put g j o (read_at g (read_changed (without p cs) (Program x r)) ty v) v) (read_found_without p cs (Program x r) c.0)
            ∙ put_kept (found_for_read cs (Program x r)) _ _ (read_kept cs kept (Program x r) c.0 b) (ap (λ m. finite (read g.types m x ty)) (outer_memory r c.0 b))
            ∙ led (reads (Program x r) ty) c.1 ∙ sym (ap (λ m. finite (read g.types m x ty)) (outer_right r c.0 b))
    led_entering (bound_use i) k =
        ap (λ o. put g j o (meaning_in (binding v i)) v) (bound_found_without p cs i)
        ∙ put_kept (found_for_bound cs i) _ _ (bound_kept cs kept i) (ap (λ l. meaning_in (get_or l i program)) binders)
        ∙ led (bound_use i) k ∙ sym (ap (λ l. meaning_in (get_or l i program)) right_binders)
    led_entering (globals x r) k = step (allowed (z r) (p r) (K (globals x r)) k)
      where
        step : (z r ≡ false) × ((p r ≡ true) ⊎ ((p r ≡ false) × (K (globals x r) ≡ true))) → Leads g j (without p cs) v w (globals x r)
        step (b, inl a) = ap (λ m. read_globals g.types m (g.types.footprint x)) (inner_memory r a b)
        step (b, inr c) =
            ap (λ m. read_globals g.types m (g.types.footprint x)) (outer_memory r c.0 b) ∙ led (globals x r) c.1
            ∙ sym (ap (λ m. read_globals g.types m (g.types.footprint x)) (outer_right r c.0 b))
    led_entering (starts r) k = step (allowed (z r) (p r) (K (starts r)) k)
      where
        step : (z r ≡ false) × ((p r ≡ true) ⊎ ((p r ≡ false) × (K (starts r) ≡ true))) → Leads g j (without p cs) v w (starts r)
        step (b, inl a) = inner_memory r a b
        step (b, inr c) = outer_memory r c.0 b ∙ led (starts r) c.1 ∙ sym (outer_right r c.0 b)
    led_entering binds_own k = each_filter _ (λ c. not (is_through p c)) cs (led binds_own k)
    led_entering binds_sides k = each_filter _ (λ c. not (is_through p c)) cs (led binds_sides k)

each_such : (P Q : Change → Type 0) → ((c : Change) → P c → Q c) → (cs : Changes) → AllByRecursion P cs → AllByRecursion Q cs
each_such P Q f [] h = tt
each_such P Q f (c ∷ cs) h = (f c h.0, each_such P Q f cs h.1)

-- a change that enters leads nowhere inside
side_stays : (P : Term → Type 0) (p : Side → Bool) (cs : Changes) → Enters P p cs → (r : Side) → p r ≡ false → p (side_changed cs r) ≡ false
side_stays P p [] h r e = e
side_stays P p (ToTerm o t ∷ cs) h r e = side_stays P p cs h.1 r e
side_stays P p (OfBound i t ∷ cs) h r e = side_stays P p cs h.1 r e
side_stays P p (ToSide a b ∷ cs) h r e = step (side_eq a r) refl (side_stays P p cs h.1 r e)
  where
    step : (c : Bool) → side_eq a r ≡ c → p (side_changed cs r) ≡ false → p (if c then b else side_changed cs r) ≡ false
    step true k i = h.0 (ap p ((side_eq-Decides a r).0 k) ∙ e)
    step false k i = i

pub at_other : (s : State) (m : Memory) (r : Side) → is_own r ≡ false → memory_of (at s m) r ≡ memory_of s r
at_other s m side.Own e = absurd (false≢true (sym e))
at_other s m side.Left e = refl
at_other s m side.Right e = refl
at_other s m (side.Memory i) e = refl
at_other s m (side.Bound i) e = refl

at_own : (s q : State) (m : Memory) (r : Side) → is_own r ≡ true → memory_of (at s m) r ≡ memory_of (at q m) r
at_own s q m side.Own e = refl
at_own s q m side.Left e = absurd (false≢true e)
at_own s q m side.Right e = absurd (false≢true e)
at_own s q m (side.Memory i) e = absurd (false≢true e)
at_own s q m (side.Bound i) e = absurd (false≢true e)

pub between_other : (s : State) (m n : Memory) (r : Side) → is_left_or_right r ≡ false → memory_of (between s m n) r ≡ memory_of s r
between_other s m n side.Own e = refl
between_other s m n side.Left e = absurd (false≢true (sym e))
between_other s m n side.Right e = absurd (false≢true (sym e))
between_other s m n (side.Memory i) e = refl
between_other s m n (side.Bound i) e = refl

between_sides : (s q : State) (m n : Memory) (r : Side) → is_left_or_right r ≡ true → memory_of (between s m n) r ≡ memory_of (between q m n) r
between_sides s q m n side.Own e = absurd (false≢true e)
between_sides s q m n side.Left e = refl
between_sides s q m n side.Right e = refl
between_sides s q m n (side.Memory i) e = absurd (false≢true e)
between_sides s q m n (side.Bound i) e = absurd (false≢true e)

module _ (g : Setting) (j : Speaks) (cs : Changes) (K : Uses) (s q : State) (led : Led g j cs K s q) where
  -- where the own memory is bound
  pub led_at : K binds_own ≡ true → (m : Memory) → Led g j (without is_own cs) (under_own K) (at s m) (at q m)
  led_at k m = led_entering g j is_own no_side cs K s q (at s m) (at q m) led
      (each_such _ _ keeps cs (led binds_own k)) (λ r a b. at_own s q m r a) (λ r a b. at_other s m (side_changed cs r) (side_stays (IgnoresOwn g j) is_own cs (led binds_own k) r a))
      (λ r a b. at_other q m r a) refl refl refl refl
    where
      keeps : (c : Change) → (is_through is_own c ≡ false → Stays (IgnoresOwn g j) is_own c) → is_through is_own c ≡ false → is_through no_side c ≡ false →
          SameChange g j is_own no_side cs K s q (at s m) (at q m) led c
      keeps (ToTerm r t) h a b = h a s m
      keeps (OfBound i t) h a b = h a s m
      keeps (ToSide x y) h a b = at_other s m y (h a)

  -- where both sides are bound
  pub led_between : K binds_sides ≡ true → (m n : Memory) → Led g j (without is_left_or_right cs) (under_sides K) (between s m n) (between q m n)
  led_between k m n = led_entering g j is_left_or_right no_side cs K s q (between s m n) (between q m n) led
      (each_such _ _ keeps cs (led binds_sides k)) (λ r a b. between_sides s q m n r a)
      (λ r a b. between_other s m n (side_changed cs r) (side_stays (IgnoresSides g j) is_left_or_right cs (led binds_sides k) r a))
      (λ r a b. between_other q m n r a) refl refl refl refl
    where
      keeps : (c : Change) → (is_through is_left_or_right c ≡ false → Stays (IgnoresSides g j) is_left_or_right c) → is_through is_left_or_right c ≡ false →
          is_through no_side c ≡ false → SameChange g j is_left_or_right no_side cs K s q (between s m n) (between q m n) led c
      keeps (ToTerm r t) h a b = h a s m n
      keeps (OfBound i t) h a b = h a s m n
      keeps (ToSide x y) h a b = between_other s m n y (h a)

  -- without the uses of the own memory
  pub led_besides : Led g j (without is_own cs) (besides_own K) s q
  led_besides = led_entering g j is_own is_own cs K s q s q led (each cs) (λ r a b. absurd (false≢true (sym b ∙ a))) (λ r a b. refl) (λ r a b. refl) refl refl refl refl
    where
      same : (c : Change) → SameChange g j is_own is_own cs K s q s q led c
      same (ToTerm r t) = refl
      same (OfBound i t) = refl
      same (ToSide x y) = refl

      each : (ds : Changes) → AllByRecursion (λ c. is_through is_own c ≡ false → is_through is_own c ≡ false → SameChange g j is_own is_own cs K s q s q led c) ds
      each [] = tt
      each (c ∷ ds) = ((λ a b. same c), each ds)
