-- What raised and changed trees use.
use Rattle.std.proofs.Common.{◌≡◌, ℕ, zero, suc, ◌+◌, Bool, true, false, List, [], ◌∷◌, map, Option, Some, None, refl, ap, sym, ◌∙◌, subst}
use Rattle.std.specs.Option.{option_map}
use Rattle.std.proofs.lemmas.Bool.{false≢true}
use Rattle.gb_core.specs.declared.ty.Ty.{Ty}
use Rattle.gb_terms.specs.declared.op.Side.{Side}
use Rattle.gb_terms.specs.declared.op.Side.TheVariants as side
use Rattle.gb_terms.specs.declared.op.Read.{Read}
use Rattle.gb_terms.specs.declared.op.Read.TheVariants.{Logical, Program}
use Rattle.gb_terms.specs.declared.module.Mexp.{Mexp}
use Rattle.gb_terms.specs.declared.term.Term.{Term, Term', Row_of-Term, end_of-Term, more_of-Term, end_of-Head, more_of-Head}
use Rattle.gb_terms.specs.declared.term.Head.{Head}
use Rattle.gb_terms.specs.declared.term.Head.TheVariants as head
use Rattle.gb_terms.specs.Make.{node}
use Rattle.gb_walk.specs.Layers.{seen_by}
use Rattle.gb_walk.specs.Raise.{index_raised, side_raised, read_raised, last_from, term_raised}
use Rattle.gb_walk.specs.Change.{Changes, under_binder, seen_by_args, seen_by_last, put_or, found_for_read, found_for_bound, read_changed, side_changed, term_of, term_changed}
use Rattle.gb_meaning.specs.Trees.{row}
use Rattle.gb_meaning.specs.Setting.{Setting}
use Rattle.gb_meaning.specs.Commands.{terms_in}
use Rattle.gb_meaning.proofs.Nodes.{term_is_node}
use Rattle.gb_laws.specs.Plain.{HeadIsPlain, IsPlain, AllPlain}
use Rattle.gb_laws.specs.Uses.{Use, Uses, beneath, HeadIsWithin, IsWithin, AreWithin}
use Rattle.gb_laws.specs.Uses as uses
use Rattle.gb_laws.specs.Uses.Use.{read as reads, bound as bound_use, globals, starts, binds_own, binds_sides}
use Rattle.gb_laws.specs.Led.{IsPut, ArePut}
use Rattle.gb_laws.specs.Fit.{IsFitting, FitsAt, Fits, BindsNone}
use Rattle.gb_laws.proofs.Trees.{raised_at, term_raised_is}
use Rattle.gb_laws.proofs.Raising.{index_zero, index_suc}
use Rattle.gb_laws.proofs.Changed.{changed_at, term_changed_is}
use Rattle.gb_laws.proofs.Lookups.{index_next, raised_bound, read_found_under, read_of_binder, bound_found_under, bound_of_binder, side_under, side_of_binder}
use Rattle.gb_laws.proofs.Leading.{OnSome, read_found_each, bound_found_each}
use Rattle.gb_laws.proofs.Changing.{arguments_of, puts_by_arguments, puts_by_last}
use mathlib.Core.Former.{Count}

-- the last term uses no more than L, the others no more than K
abbrev pub EachWithin : Uses → Uses → List Term → Type 0
EachWithin K L [] = Unit {0}
EachWithin K L (t ∷ []) = IsWithin L t
EachWithin K L (t ∷ u ∷ ts) = IsWithin K t × EachWithin K L (u ∷ ts)

row_within : (K L : Uses) (ts : List Term) → EachWithin K L ts → AreWithin K L (row ts)
row_within K L [] h = tt
row_within K L (t ∷ []) h = h
row_within K L (t ∷ u ∷ ts) h = (h.0, row_within K L (u ∷ ts) h.1)

pub within_node : (K : Uses) (h : Head) (ts : List Term) (ty : Ty) → HeadIsWithin K h ty → EachWithin (uses.of_arguments K h) (uses.of_last K h) ts → IsWithin K (node h ts ty)
within_node K h ts ty x y = subst (IsWithin K) (term_is_node h ts ty) (x, row_within (uses.of_arguments K h) (uses.of_last K h) ts y)

abbrev use_raised : ℕ → Use → Use
use_raised k (reads r ty) = reads (read_raised k r) ty
use_raised k (bound_use i) = bound_use (index_raised k i)
use_raised k (globals m r) = globals m (side_raised k r)
use_raised k (starts r) = starts (side_raised k r)
use_raised k u = u

-- each use in K is in V where it is raised
abbrev Raises : ℕ → Uses → Uses → Type 0
Raises k K V = (u : Use) → K u ≡ true → V (use_raised k u) ≡ true

raises_zero : (W : Uses) → Raises 0 W (beneath W)
raises_zero W (reads (Logical i) ty) e = e
raises_zero W (reads (Program x side.Own) ty) e = e
raises_zero W (reads (Program x side.Left) ty) e = e
raises_zero W (reads (Program x side.Right) ty) e = e
raises_zero W (reads (Program x (side.Memory i)) ty) e = e
raises_zero W (reads (Program x (side.Bound i)) ty) e = ap (λ r. beneath W (reads (Program x r) ty)) (raised_bound i) ∙ e
raises_zero W (bound_use i) e = ap (λ k. beneath W (bound_use k)) (index_next i) ∙ e
raises_zero W (globals m side.Own) e = e
raises_zero W (globals m side.Left) e = e
raises_zero W (globals m side.Right) e = e
raises_zero W (globals m (side.Memory i)) e = e
raises_zero W (globals m (side.Bound i)) e = ap (λ r. beneath W (globals m r)) (raised_bound i) ∙ e
raises_zero W (starts side.Own) e = e
raises_zero W (starts side.Left) e = e
raises_zero W (starts side.Right) e = e
raises_zero W (starts (side.Memory i)) e = e
raises_zero W (starts (side.Bound i)) e = ap (λ r. beneath W (starts r)) (raised_bound i) ∙ e
raises_zero W binds_own e = e
raises_zero W binds_sides e = e

raises_under : (k : ℕ) (K V : Uses) → Raises k K V → Raises (k + 1) (beneath K) (beneath V)
raises_under k K V h (reads (Logical i) ty) e = h (reads (Logical i) ty) e
raises_under k K V h (reads (Program x side.Own) ty) e = h (reads (Program x side.Own) ty) e
raises_under k K V h (reads (Program x side.Left) ty) e = h (reads (Program x side.Left) ty) e
raises_under k K V h (reads (Program x side.Right) ty) e = h (reads (Program x side.Right) ty) e
raises_under k K V h (reads (Program x (side.Memory i)) ty) e = h (reads (Program x (side.Memory i)) ty) e
raises_under k K V h (reads (Program x (side.Bound zero)) ty) e = ap (λ (i : ℕ). beneath V (reads (Program x (side.Bound i)) ty)) (index_zero k)
raises_under k K V h (reads (Program x (side.Bound (suc i))) ty) e = ap (λ (i : ℕ). beneath V (reads (Program x (side.Bound i)) ty)) (index_suc k i) ∙ h (reads (Program x (side.Bound i)) ty) e
raises_under k K V h (bound_use zero) e = ap (λ (i : ℕ). beneath V (bound_use i)) (index_zero k)
raises_under k K V h (bound_use (suc i)) e = ap (λ (i : ℕ). beneath V (bound_use i)) (index_suc k i) ∙ h (bound_use i) e
raises_under k K V h (globals m side.Own) e = h (globals m side.Own) e
raises_under k K V h (globals m side.Left) e = h (globals m side.Left) e
raises_under k K V h (globals m side.Right) e = h (globals m side.Right) e
raises_under k K V h (globals m (side.Memory i)) e = h (globals m (side.Memory i)) e
raises_under k K V h (globals m (side.Bound zero)) e = ap (λ (i : ℕ). beneath V (globals m (side.Bound i))) (index_zero k)
raises_under k K V h (globals m (side.Bound (suc i))) e = ap (λ (i : ℕ). beneath V (globals m (side.Bound i))) (index_suc k i) ∙ h (globals m (side.Bound i)) e
raises_under k K V h (starts side.Own) e = h (starts side.Own) e
raises_under k K V h (starts side.Left) e = h (starts side.Left) e
raises_under k K V h (starts side.Right) e = h (starts side.Right) e
raises_under k K V h (starts (side.Memory i)) e = h (starts (side.Memory i)) e
raises_under k K V h (starts (side.Bound zero)) e = ap (λ (i : ℕ). beneath V (starts (side.Bound i))) (index_zero k)
raises_under k K V h (starts (side.Bound (suc i))) e = ap (λ (i : ℕ). beneath V (starts (side.Bound i))) (index_suc k i) ∙ h (starts (side.Bound i)) e
raises_under k K V h binds_own e = h binds_own e
raises_under k K V h binds_sides e = h binds_sides e

raised_within : (k : ℕ) (K V : Uses) → Raises k K V → (h : Head) (ty : Ty) → HeadIsPlain h → HeadIsWithin K h ty → HeadIsWithin V (raised_at h k) ty
raised_within k K V r (head.Read o) ty p w = r (reads o ty) w
raised_within k K V r (head.Bound i) ty p w = r (bound_use i) w
raised_within k K V r (head.Glob m o) ty p w = r (globals m o) w
raised_within k K V r (head.Pr m o) ty p w = absurd p
raised_within k K V r (head.Hoare c) ty p w = absurd p
raised_within k K V r (head.Phoare c o) ty p w = absurd p
raised_within k K V r (head.Equiv c d) ty p w = absurd p
raised_within k K V r _ ty p w = tt

raises_arguments : (k : ℕ) (K V : Uses) → Raises k K V → (h : Head) → HeadIsPlain h → Raises k (uses.of_arguments K h) (uses.of_arguments V (raised_at h k))
raises_arguments k K V r (head.Hoare c) p = absurd p
raises_arguments k K V r (head.Phoare c o) p = absurd p
raises_arguments k K V r (head.Equiv c d) p = absurd p
raises_arguments k K V r _ p = r

raises_last : (k : ℕ) (K V : Uses) → Raises k K V → (h : Head) → HeadIsPlain h → Raises (last_from (raised_at h k) k) (uses.of_last K h) (uses.of_last V (raised_at h k))
raises_last k K V r (head.All t) p = raises_under k K V r
raises_last k K V r (head.Some t) p = raises_under k K V r
raises_last k K V r head.AllMemory p = absurd p
raises_last k K V r head.SomeMemory p = absurd p
raises_last k K V r (head.AllModule b) p = raises_under k K V r
raises_last k K V r head.Mu p = raises_under k K V r
raises_last k K V r (head.Sum n) p = raises_under k K V r
raises_last k K V r head.Map p = raises_under k K V r
raises_last k K V r head.Restrict p = raises_under k K V r
raises_last k K V r (head.Pr m o) p = absurd p
raises_last k K V r (head.Hoare c) p = absurd p
raises_last k K V r (head.Phoare c o) p = absurd p
raises_last k K V r (head.Equiv c d) p = absurd p
raises_last k K V r _ p = r

mutual
  within_raised : (t : Term) → IsPlain t → (k : ℕ) (K V : Uses) → Raises k K V → IsWithin K t → IsWithin V (term_raised t k)
  within_raised (Term' p (more_of-Head h end_of-Head) n ts ty) x k K V r w =
      subst (IsWithin V) (sym (term_raised_is h n ts ty k)) (within_node V (raised_at h k) _ ty (raised_within k K V r h ty x.0 w.0)
      (all_within_raised ts x.1 k (last_from (raised_at h k) k) _ _ _ _ (raises_arguments k K V r h x.0) (raises_last k K V r h x.0) w.1))

  all_within_raised : {n : Count} (ts : Row_of-Term n) → AllPlain ts → (k l : ℕ) (K V L W : Uses) → Raises k K V → Raises l L W → AreWithin K L ts →
      EachWithin V W (seen_by k l (map term_raised (terms_in ts)))
  all_within_raised end_of-Term x k l K V L W a b w = tt
  all_within_raised (more_of-Term t end_of-Term) x k l K V L W a b w = within_raised t x.0 l L W b w
  all_within_raised (more_of-Term t (more_of-Term u ts)) x k l K V L W a b w = (within_raised t x.0 k K V a w.0, all_within_raised (more_of-Term u ts) x.1 k l K V L W a b w.1)

-- a term under one binder more
pub put_beneath : (W : Uses) (t : Term) → IsPlain t → IsWithin W t → IsWithin (beneath W) (term_raised t 0)
put_beneath W t p w = within_raised t p 0 W (beneath W) (raises_zero W) w

fitting_under : (W : Uses) (o : Option Term) (X Y : Type 0) → OnSome IsPlain o → (X → Y) → IsFitting W o X → IsFitting (beneath W) (option_map (λ u. term_raised u 0) o) Y
fitting_under W (Some t) X Y p f h = put_beneath W t p h
fitting_under W None X Y p f h = f h

some_plain : (g : Setting) (o : Option Term) → OnSome (IsPut g) o → OnSome IsPlain o
some_plain g (Some t) p = p.plain
some_plain g None p = tt

module _ (g : Setting) (cs : Changes) (a : ArePut g cs) (K W : Uses) (fits : Fits cs K W) where
  side_fits : (F : Side → Use) (r : Side) → beneath W (F (side_raised 0 (side_changed cs r))) ≡ true → beneath W (F (side_changed (under_binder cs) (side_raised 0 r))) ≡ true
  side_fits F r e = ap (λ o. beneath W (F o)) (side_under cs r) ∙ e

  read_kept_under : (r : Read) (ty : Ty) → W (reads (read_changed cs r) ty) ≡ true → beneath W (reads (read_changed (under_binder cs) (read_raised 0 r)) ty) ≡ true
  read_kept_under (Logical i) ty e = e
  read_kept_under (Program x r) ty e = side_fits (λ o. reads (Program x o) ty) r (raises_zero W (reads (Program x (side_changed cs r)) ty) e)

  fits_read : (r : Read) (ty : Ty) → FitsAt cs W (reads r ty) → FitsAt (under_binder cs) (beneath W) (reads (read_raised 0 r) ty)
  fits_read r ty h =
      subst (λ o. IsFitting (beneath W) o (beneath W (reads (read_changed (under_binder cs) (read_raised 0 r)) ty) ≡ true)) (sym (read_found_under cs r))
      (fitting_under W (found_for_read cs r) _ _ (some_plain g (found_for_read cs r) (read_found_each (IsPut g) cs a r)) (read_kept_under r ty) h)

  fits_globals : (m : Mexp) (r : Side) → FitsAt cs W (globals m r) → FitsAt (under_binder cs) (beneath W) (globals m (side_raised 0 r))
  fits_globals m r h = side_fits (λ o. globals m o) r (raises_zero W (globals m (side_changed cs r)) h)

  fits_starts : (r : Side) → FitsAt cs W (starts r) → FitsAt (under_binder cs) (beneath W) (starts (side_raised 0 r))
  fits_starts r h = side_fits (λ o. starts o) r (raises_zero W (starts (side_changed cs r)) h)

  fits_under : Fits (under_binder cs) (beneath K) (beneath W)
  fits_under (reads (Logical i) ty) e = fits_read (Logical i) ty (fits _ e)
  fits_under (reads (Program x side.Own) ty) e = fits_read (Program x side.Own) ty (fits _ e)
  fits_under (reads (Program x side.Left) ty) e = fits_read (Program x side.Left) ty (fits _ e)
  fits_under (reads (Program x side.Right) ty) e = fits_read (Program x side.Right) ty (fits _ e)
  fits_under (reads (Program x (side.Memory i)) ty) e = fits_read (Program x (side.Memory i)) ty (fits _ e)
  fits_under (reads (Program x (side.Bound zero)) ty) e =
      subst (λ o. IsFitting (beneath W) o (beneath W (reads (Program x (side_changed (under_binder cs) (side.Bound 0))) ty) ≡ true)) (sym (read_of_binder cs x))
      (ap (λ r. beneath W (reads (Program x r) ty)) (side_of_binder cs))
  fits_under (reads (Program x (side.Bound (suc i))) ty) e =
      subst (λ r. FitsAt (under_binder cs) (beneath W) (reads (Program x r) ty)) (raised_bound i) (fits_read (Program x (side.Bound i)) ty (fits _ e))
  fits_under (bound_use zero) e = subst (λ o. IsFitting (beneath W) o (beneath W (bound_use 0) ≡ true)) (sym (bound_of_binder cs)) refl
  fits_under (bound_use (suc i)) e =
      subst (λ o. IsFitting (beneath W) o (W (bound_use i) ≡ true)) (sym (bound_found_under cs i))
      (fitting_under W (found_for_bound cs i) _ _ (some_plain g (found_for_bound cs i) (bound_found_each (IsPut g) cs a i)) (λ x. x) (fits (bound_use i) e))
  fits_under (globals m side.Own) e = fits_globals m side.Own (fits _ e)
  fits_under (globals m side.Left) e = fits_globals m side.Left (fits _ e)
  fits_under (globals m side.Right) e = fits_globals m side.Right (fits _ e)
  fits_under (globals m (side.Memory i)) e = fits_globals m (side.Memory i) (fits _ e)
  fits_under (globals m (side.Bound zero)) e = ap (λ r. beneath W (globals m r)) (side_of_binder cs)
  fits_under (globals m (side.Bound (suc i))) e = subst (λ r. FitsAt (under_binder cs) (beneath W) (globals m r)) (raised_bound i) (fits_globals m (side.Bound i) (fits _ e))
  fits_under (starts side.Own) e = fits_starts side.Own (fits _ e)
  fits_under (starts side.Left) e = fits_starts side.Left (fits _ e)
  fits_under (starts side.Right) e = fits_starts side.Right (fits _ e)
  fits_under (starts (side.Memory i)) e = fits_starts (side.Memory i) (fits _ e)
  fits_under (starts (side.Bound zero)) e = ap (λ r. beneath W (starts r)) (side_of_binder cs)
  fits_under (starts (side.Bound (suc i))) e = subst (λ r. FitsAt (under_binder cs) (beneath W) (starts r)) (raised_bound i) (fits_starts (side.Bound i) (fits _ e))
  fits_under binds_own e = tt
  fits_under binds_sides e = tt

none : {P : Type 0} {b : Bool} → b ≡ false → b ≡ true → P
none e h = absurd (false≢true (sym e ∙ h))

module _ (g : Setting) where
  fits_last : (h : Head) (cs : Changes) (K W : Uses) (ty : Ty) → ArePut g cs → Fits cs K W → BindsNone K → HeadIsWithin K h ty → Fits (seen_by_last h cs) (uses.of_last K h) (uses.of_last W h)
  fits_last (head.All t) cs K W ty a f b w = fits_under g cs a K W f
  fits_last (head.Some t) cs K W ty a f b w = fits_under g cs a K W f
  fits_last head.AllMemory cs K W ty a f b w = fits_under g cs a K W f
  fits_last head.SomeMemory cs K W ty a f b w = fits_under g cs a K W f
  fits_last (head.AllModule m) cs K W ty a f b w = fits_under g cs a K W f
  fits_last head.Mu cs K W ty a f b w = fits_under g cs a K W f
  fits_last (head.Sum n) cs K W ty a f b w = fits_under g cs a K W f
  fits_last head.Map cs K W ty a f b w = fits_under g cs a K W f
  fits_last head.Restrict cs K W ty a f b w = fits_under g cs a K W f
  fits_last (head.Pr p r) cs K W ty a f b w = none b.0 w.1
  fits_last (head.Hoare c) cs K W ty a f b w = none b.0 w.0
  fits_last (head.Phoare c r) cs K W ty a f b w = none b.0 w.0
  fits_last (head.Equiv c d) cs K W ty a f b w = none b.1 w.0
  fits_last _ cs K W ty a f b w = f

  fits_arguments : (h : Head) (cs : Changes) (K W : Uses) (ty : Ty) → Fits cs K W → BindsNone K → HeadIsWithin K h ty → Fits (seen_by_args h cs) (uses.of_arguments K h) (uses.of_arguments W h)
  fits_arguments (head.Hoare c) cs K W ty f b w = none b.0 w.0
  fits_arguments (head.Phoare c r) cs K W ty f b w = none b.0 w.0
  fits_arguments (head.Equiv c d) cs K W ty f b w = none b.1 w.0
  fits_arguments _ cs K W ty f b w = f

  binds_last : (h : Head) (K : Uses) → BindsNone K → BindsNone (uses.of_last K h)
  binds_last (head.All t) K b = b
  binds_last (head.Some t) K b = b
  binds_last head.AllMemory K b = b
  binds_last head.SomeMemory K b = b
  binds_last (head.AllModule m) K b = b
  binds_last head.Mu K b = b
  binds_last (head.Sum n) K b = b
  binds_last head.Map K b = b
  binds_last head.Restrict K b = b
  binds_last (head.Pr p r) K b = b
  binds_last (head.Hoare c) K b = b
  binds_last (head.Phoare c r) K b = b
  binds_last (head.Equiv c d) K b = b
  binds_last _ K b = b

  binds_arguments : (h : Head) (K : Uses) → BindsNone K → BindsNone (uses.of_arguments K h)
  binds_arguments (head.Hoare c) K b = b
  binds_arguments (head.Phoare c r) K b = b
  binds_arguments (head.Equiv c d) K b = b
  binds_arguments _ K b = b

  fitting_made : (W : Uses) (o : Option Term) (h : Head) (cs : Changes) (ts : List (Changes → Term)) (ty : Ty) (X : Type 0) → IsFitting W o X →
      (X → IsWithin W (term_of (put_or None h) cs ts ty)) → IsWithin W (term_of (put_or o h) cs ts ty)
  fitting_made W (Some t) h cs ts ty X f e = f
  fitting_made W None h cs ts ty X f e = e f

  within_made : {n : Count} (h : Head) (cs : Changes) (K W : Uses) (ts : Row_of-Term n) (ty : Ty) → Fits cs K W → BindsNone K → HeadIsWithin K h ty →
      EachWithin (uses.of_arguments W h) (uses.of_last W h) (arguments_of h cs ts) → IsWithin W (term_of (changed_at h cs) cs (map term_changed (terms_in ts)) ty)
  within_made (head.Read r) cs K W ts ty f b w e =
      fitting_made W (found_for_read cs r) _ cs _ ty _ (f (reads r ty) w) (λ x. within_node W (head.Read (read_changed cs r)) (arguments_of (head.Read r) cs ts) ty x e)
  within_made (head.Bound i) cs K W ts ty f b w e =
      fitting_made W (found_for_bound cs i) _ cs _ ty _ (f (bound_use i) w) (λ x. within_node W (head.Bound i) (arguments_of (head.Bound i) cs ts) ty x e)
  within_made (head.Glob m r) cs K W ts ty f b w e = within_node W (head.Glob m (side_changed cs r)) (arguments_of (head.Glob m r) cs ts) ty (f (globals m r) w) e
  within_made (head.Pr p r) cs K W ts ty f b w e = none b.0 w.1
  within_made (head.Hoare c) cs K W ts ty f b w e = none b.0 w.0
  within_made (head.Phoare c r) cs K W ts ty f b w e = none b.0 w.0
  within_made (head.Equiv c d) cs K W ts ty f b w e = none b.1 w.0
  within_made h cs K W ts ty f b w e = within_node W h (arguments_of h cs ts) ty tt e

  mutual
    pub within_changed : (t : Term) (cs : Changes) (K W : Uses) → ArePut g cs → Fits cs K W → BindsNone K → IsWithin K t → IsWithin W (term_changed t cs)
    within_changed (Term' p (more_of-Head h end_of-Head) n ts ty) cs K W a f b w =
        subst (IsWithin W) (sym (term_changed_is h n ts ty cs)) (within_made h cs K W ts ty f b w.0
        (all_within_changed ts (seen_by_args h cs) (seen_by_last h cs) (uses.of_arguments K h) (uses.of_last K h) (uses.of_arguments W h) (uses.of_last W h)
        (puts_by_arguments g h cs a) (puts_by_last g h cs a) (fits_arguments h cs K W ty f b w.0) (fits_last h cs K W ty a f b w.0) (binds_arguments h K b) (binds_last h K b) w.1))

    all_within_changed : {n : Count} (ts : Row_of-Term n) (y z : Changes) (K L W V : Uses) → ArePut g y → ArePut g z → Fits y K W → Fits z L V → BindsNone K → BindsNone L →
        AreWithin K L ts → EachWithin W V (seen_by y z (map term_changed (terms_in ts)))
    all_within_changed end_of-Term y z K L W V a c f h b d w = tt
    all_within_changed (more_of-Term t end_of-Term) y z K L W V a c f h b d w = within_changed t z L V c h d w
    all_within_changed (more_of-Term t (more_of-Term u ts)) y z K L W V a c f h b d w =
        (within_changed t y K W a f b w.0, all_within_changed (more_of-Term u ts) y z K L W V a c f h b d w.1)
