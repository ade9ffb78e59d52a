-- Changes made one after another are changes made at once.
use Rattle.std.proofs.Common.{◌≡◌, ℕ, zero, suc, Bool, true, false, ◌⊎◌, inl, inr, List, [], ◌∷◌, map, Option, Some, None, refl, ap, sym, ◌∙◌, subst}
use Rattle.std.specs.Option.{option_map}
use Rattle.gb_core.specs.declared.ty.Ty.{Ty}
use Rattle.gb_terms.specs.declared.op.Side.{Side}
use Rattle.gb_terms.specs.declared.op.Side.TheVariants as side
use Rattle.gb_terms.specs.declared.op.Read.{Read}
use Rattle.gb_terms.specs.declared.op.Read.TheVariants.{Logical, Program}
use Rattle.gb_terms.specs.declared.term.Term.{Term, Term', Row_of-Term, end_of-Term, more_of-Term, end_of-Head, more_of-Head}
use Rattle.gb_terms.specs.declared.term.Head.{Head}
use Rattle.gb_terms.specs.declared.term.Head.TheVariants as head
use Rattle.gb_terms.specs.declared.term.Head.TheVariants.{Proc, Body'}
use Rattle.gb_terms.specs.Make.{node}
use Rattle.gb_walk.specs.Layers.{seen_by}
use Rattle.gb_walk.specs.Raise.{side_raised, term_raised}
use Rattle.gb_walk.specs.Change.{Changes, is_own, is_left_or_right, is_read_through, without, under_binder, args_changed, put_or, found_for_read, found_for_bound, side_changed, read_changed, term_of, term_changed}
use Rattle.gb_walk.specs.Change.Made.{Kept}
use Rattle.gb_meaning.specs.Commands.{terms_in}
use Rattle.gb_meaning.specs.Trees.{places, row}
use Rattle.gb_meaning.proofs.Nodes.{term_is_node}
use Rattle.gb_laws.proofs.Changed.{changed_at, term_changed_is}
use Rattle.gb_laws.proofs.Forms.{procedure_stays}
use Rattle.gb_laws.proofs.Lookups.{bound_found_under, bound_of_binder, side_under, side_of_binder, read_found_without, read_found_none, bound_found_without, side_without, side_kept}
use Rattle.gb_laws.specs.Typing.{types_of, IsHead}
use Rattle.gb_typing.specs.Context.{Context, erased}
use Rattle.gb_typing.specs.Typing.{IsNamed, IsTyped, AreTyped}
use Rattle.gb_smt_laws.proofs.Finding.{raised_or_innermost, none_under, variable, variable_raised}
use mathlib.Core.Former.{Count}

-- a node, by its head and its arguments

terms_of_row : (ts : List Term) → terms_in (row ts) ≡ ts
terms_of_row [] = refl
terms_of_row (t ∷ ts) = ap (λ xs. t ∷ xs) (terms_of_row ts)

pub node_changed : (h : Head) (ts : List Term) (ty : Ty) (cs : Changes) → term_changed (node h ts ty) cs ≡ term_of (changed_at h cs) cs (map term_changed ts) ty
node_changed h ts ty cs =
    ap (λ t. term_changed t cs) (sym (term_is_node h ts ty)) ∙ term_changed_is h (places ts) (row ts) ty cs ∙ ap (λ xs. term_of (changed_at h cs) cs (map term_changed xs) ty) (terms_of_row ts)

-- what is found for a bound variable by the first changes, by the second ones and by those at once: a variable is final
abbrev pub AreFound : Option Term → Option Term → Option Term → Type 0
AreFound (Some t) d e = (e ≡ Some t) × (k : ℕ) × (u : Ty) × (t ≡ variable k u)
AreFound None d e = e ≡ d

-- The second changes behind the first are those at once. None puts a term in place of a read.
pub record AtOnce (cs ds es : Changes) : Type 0 where
  pub first : (r : Read) → found_for_read cs r ≡ None
  pub second : (r : Read) → found_for_read ds r ≡ None
  pub both : (r : Read) → found_for_read es r ≡ None
  pub sides : (r : Side) → side_changed ds (side_changed cs r) ≡ side_changed es r
  pub own : (r : Side) → is_own r ≡ false → is_own (side_changed cs r) ≡ false
  pub two : (r : Side) → is_left_or_right r ≡ false → is_left_or_right (side_changed cs r) ≡ false
  pub bounds : (i : ℕ) → AreFound (found_for_bound cs i) (found_for_bound ds i) (found_for_bound es i)

-- under a binder

pub own_raised : (r : Side) → is_own (side_raised 0 r) ≡ is_own r
own_raised side.Own = refl
own_raised side.Left = refl
own_raised side.Right = refl
own_raised (side.Memory i) = refl
own_raised (side.Bound i) = refl

pub two_raised : (r : Side) → is_left_or_right (side_raised 0 r) ≡ is_left_or_right r
two_raised side.Own = refl
two_raised side.Left = refl
two_raised side.Right = refl
two_raised (side.Memory i) = refl
two_raised (side.Bound i) = refl

-- sides that aren't bound here stay so under a binder
pub stays_under : (p : Side → Bool) → ((r : Side) → p (side_raised 0 r) ≡ p r) → p (side.Bound 0) ≡ false → (cs : Changes) → ((r : Side) → p r ≡ false → p (side_changed cs r) ≡ false) →
    (r : Side) → p r ≡ false → p (side_changed (under_binder cs) r) ≡ false
stays_under p raised inner cs f r e = step (raised_or_innermost r)
  where
    step : ((o : Side) × (side_raised 0 o ≡ r)) ⊎ (r ≡ side.Bound 0) → p (side_changed (under_binder cs) r) ≡ false
    step (inl (o, q)) =
        subst (λ r. p (side_changed (under_binder cs) r) ≡ false) q
        (ap p (side_under cs o) ∙ raised (side_changed cs o) ∙ f o (sym (raised o) ∙ ap p q ∙ e))
    step (inr q) = ap (λ r. p (side_changed (under_binder cs) r)) q ∙ ap p (side_of_binder cs) ∙ inner

abbrev raise : Term → Term
raise t = term_raised t 0

found_raised : (f d e : Option Term) → AreFound f d e → AreFound (option_map raise f) (option_map raise d) (option_map raise e)
found_raised (Some t) d e x = (ap (option_map raise) x.0, x.1, x.2, ap raise x.3 ∙ variable_raised x.1 x.2)
found_raised None d e x = ap (option_map raise) x

module _ (cs ds es : Changes) (a : AtOnce cs ds es) where
  under_sides : (r : Side) → side_changed (under_binder ds) (side_changed (under_binder cs) r) ≡ side_changed (under_binder es) r
  under_sides r = step (raised_or_innermost r)
    where
      step : ((o : Side) × (side_raised 0 o ≡ r)) ⊎ (r ≡ side.Bound 0) → side_changed (under_binder ds) (side_changed (under_binder cs) r) ≡ side_changed (under_binder es) r
      step (inl (o, q)) =
          subst (λ r. side_changed (under_binder ds) (side_changed (under_binder cs) r) ≡ side_changed (under_binder es) r) q
          (ap (side_changed (under_binder ds)) (side_under cs o) ∙ side_under ds (side_changed cs o) ∙ ap (side_raised 0) (a.sides o) ∙ sym (side_under es o))
      step (inr q) =
          subst (λ r. side_changed (under_binder ds) (side_changed (under_binder cs) r) ≡ side_changed (under_binder es) r) (sym q)
          (ap (side_changed (under_binder ds)) (side_of_binder cs) ∙ side_of_binder ds ∙ sym (side_of_binder es))

  under_bounds : (i : ℕ) → AreFound (found_for_bound (under_binder cs) i) (found_for_bound (under_binder ds) i) (found_for_bound (under_binder es) i)
  under_bounds zero =
      subst (λ f. AreFound f (found_for_bound (under_binder ds) 0) (found_for_bound (under_binder es) 0)) (sym (bound_of_binder cs)) (bound_of_binder es ∙ sym (bound_of_binder ds))
  under_bounds (suc i) =
      subst (λ f. AreFound f (found_for_bound (under_binder ds) (suc i)) (found_for_bound (under_binder es) (suc i))) (sym (bound_found_under cs i))
      (subst (λ d. AreFound (option_map raise (found_for_bound cs i)) d (found_for_bound (under_binder es) (suc i))) (sym (bound_found_under ds i))
      (subst (AreFound (option_map raise (found_for_bound cs i)) (option_map raise (found_for_bound ds i))) (sym (bound_found_under es i))
      (found_raised (found_for_bound cs i) (found_for_bound ds i) (found_for_bound es i) (a.bounds i))))

  pub at_once_under : AtOnce (under_binder cs) (under_binder ds) (under_binder es)
  at_once_under = record {
    first = none_under cs a.first;
    second = none_under ds a.second;
    both = none_under es a.both;
    sides = under_sides;
    own = stays_under is_own own_raised refl cs a.own;
    two = stays_under is_left_or_right two_raised refl cs a.two;
    bounds = under_bounds;
  }

  -- where memories are bound
  module _ (p : Side → Bool) (stays : (r : Side) → p r ≡ false → p (side_changed cs r) ≡ false) where
    none_without : (xs : Changes) → ((r : Read) → found_for_read xs r ≡ None) → (r : Read) → found_for_read (without p xs) r ≡ None
    none_without xs f r = step (is_read_through p r) refl
      where
        step : (b : Bool) → is_read_through p r ≡ b → found_for_read (without p xs) r ≡ None
        step true e = read_found_none p xs r e
        step false e = read_found_without p xs r e ∙ f r

    sides_without : (r : Side) → side_changed (without p ds) (side_changed (without p cs) r) ≡ side_changed (without p es) r
    sides_without r = step (p r) refl
      where
        step : (b : Bool) → p r ≡ b → side_changed (without p ds) (side_changed (without p cs) r) ≡ side_changed (without p es) r
        step true e = ap (side_changed (without p ds)) (side_kept p cs r e) ∙ side_kept p ds r e ∙ sym (side_kept p es r e)
        step false e = ap (side_changed (without p ds)) (side_without p cs r e) ∙ side_without p ds (side_changed cs r) (stays r e) ∙ a.sides r ∙ sym (side_without p es r e)

    stays_without : (o : Side → Bool) → ((r : Side) → o r ≡ false → o (side_changed cs r) ≡ false) → (r : Side) → o r ≡ false → o (side_changed (without p cs) r) ≡ false
    stays_without o f r n = step (p r) refl
      where
        step : (b : Bool) → p r ≡ b → o (side_changed (without p cs) r) ≡ false
        step true e = ap o (side_kept p cs r e) ∙ n
        step false e = ap o (side_without p cs r e) ∙ f r n

    bounds_without : (i : ℕ) → AreFound (found_for_bound (without p cs) i) (found_for_bound (without p ds) i) (found_for_bound (without p es) i)
    bounds_without i =
        subst (λ f. AreFound f (found_for_bound (without p ds) i) (found_for_bound (without p es) i)) (sym (bound_found_without p cs i))
        (subst (λ d. AreFound (found_for_bound cs i) d (found_for_bound (without p es) i)) (sym (bound_found_without p ds i))
        (subst (AreFound (found_for_bound cs i) (found_for_bound ds i)) (sym (bound_found_without p es i)) (a.bounds i)))

    pub at_once_without : AtOnce (without p cs) (without p ds) (without p es)
    at_once_without = record {
      first = none_without cs a.first;
      second = none_without ds a.second;
      both = none_without es a.both;
      sides = sides_without;
      own = stays_without is_own a.own;
      two = stays_without is_left_or_right a.two;
      bounds = bounds_without;
    }

-- Terms.

-- a node whose head is kept
module _ (h k l : Head) (n : _) (ts : Row_of-Term n) (ty : Ty) (cs ds es : Changes) where
  abbrev parts : List (Changes → Term)
  parts = map term_changed (terms_in ts)

  abbrev Twice : Type 0
  Twice = term_changed (term_of (changed_at h cs) cs parts ty) ds ≡ term_of (changed_at h es) es parts ty

  kept_twice : changed_at h cs ≡ Kept k → changed_at k ds ≡ Kept l → changed_at h es ≡ Kept l →
      args_changed l ds (map term_changed (args_changed k cs parts)) ≡ args_changed l es parts → Twice
  kept_twice p q r rest =
      ap (λ m. term_changed (term_of m cs parts ty) ds) p ∙ node_changed k (args_changed k cs parts) ty ds
      ∙ ap (λ m. term_of m ds (map term_changed (args_changed k cs parts)) ty) q ∙ ap (λ xs. node l xs ty) rest ∙ sym (ap (λ m. term_of m es parts ty) r)

-- a bound variable
module _ (i : ℕ) (n : _) (ts : Row_of-Term n) (ty : Ty) (cs ds es : Changes) (a : AtOnce cs ds es) where
  abbrev all : List (Changes → Term)
  all = map term_changed (terms_in ts)

  variable_stays : (k : ℕ) (u : Ty) → term_changed (variable k u) ds ≡ variable k u
  variable_stays k u = node_changed (head.Read (Logical k)) [] u ds ∙ ap (λ f. term_of (put_or f (head.Read (Logical k))) ds [] u) (a.second (Logical k))

  bound_twice : (f d e : Option Term) → found_for_bound cs i ≡ f → found_for_bound ds i ≡ d → found_for_bound es i ≡ e → AreFound f d e →
      args_changed (head.Bound i) ds (map term_changed (args_changed (head.Bound i) cs all)) ≡ args_changed (head.Bound i) es all →
      term_changed (term_of (changed_at (head.Bound i) cs) cs all ty) ds ≡ term_of (changed_at (head.Bound i) es) es all ty
  bound_twice (Some t) d e p q r x rest =
      ap (λ f. term_changed (term_of (put_or f (head.Bound i)) cs all ty) ds) p ∙ ap (λ z. term_changed z ds) x.3 ∙ variable_stays x.1 x.2 ∙ sym x.3
      ∙ sym (ap (λ f. term_of (put_or f (head.Bound i)) es all ty) (r ∙ x.0))
  bound_twice None (Some u) e p q r x rest =
      ap (λ f. term_changed (term_of (put_or f (head.Bound i)) cs all ty) ds) p ∙ node_changed (head.Bound i) (args_changed (head.Bound i) cs all) ty ds
      ∙ ap (λ f. term_of (put_or f (head.Bound i)) ds (map term_changed (args_changed (head.Bound i) cs all)) ty) q ∙ sym (ap (λ f. term_of (put_or f (head.Bound i)) es all ty) (r ∙ x))
  bound_twice None None e p q r x rest =
      kept_twice (head.Bound i) (head.Bound i) (head.Bound i) n ts ty cs ds es (ap (λ f. put_or f (head.Bound i)) p) (ap (λ f. put_or f (head.Bound i)) q) (ap (λ f. put_or f (head.Bound i)) (r ∙ x)) rest

-- what is known of the arguments
abbrev Rest : {n : _} → Row_of-Term n → Type 0
Rest ts = (y y1 y2 z z1 z2 : Changes) → AtOnce y y1 y2 → AtOnce z z1 z2 → seen_by y1 z1 (map term_changed (seen_by y z (map term_changed (terms_in ts)))) ≡ seen_by y2 z2 (map term_changed (terms_in ts))

reads_twice : (cs ds es : Changes) → AtOnce cs ds es → (r : Read) → read_changed es r ≡ read_changed ds (read_changed cs r)
reads_twice cs ds es a (Logical i) = refl
reads_twice cs ds es a (Program x r) = ap (Program x) (sym (a.sides r))

at_head : (c : Context) (h : Head) {n : _} (ts : Row_of-Term n) (ty : Ty) → IsHead (erased c) h (types_of ts) ty → IsNamed c h ty → Rest ts → (cs ds es : Changes) → AtOnce cs ds es →
    term_changed (term_of (changed_at h cs) cs (map term_changed (terms_in ts)) ty) ds ≡ term_of (changed_at h es) es (map term_changed (terms_in ts)) ty
at_head c (head.Read r) ts ty w s rest cs ds es a =
    kept_twice (head.Read r) (head.Read (read_changed cs r)) (head.Read (read_changed ds (read_changed cs r))) _ ts ty cs ds es
    (ap (λ f. put_or f (head.Read (read_changed cs r))) (a.first r)) (ap (λ f. put_or f (head.Read (read_changed ds (read_changed cs r)))) (a.second (read_changed cs r)))
    (ap (λ f. put_or f (head.Read (read_changed es r))) (a.both r) ∙ ap (λ x. Kept (head.Read x)) (reads_twice cs ds es a r)) (rest cs ds es cs ds es a a)
at_head c (head.Bound i) ts ty w s rest cs ds es a =
    bound_twice i _ ts ty cs ds es a (found_for_bound cs i) (found_for_bound ds i) (found_for_bound es i) refl refl refl (a.bounds i) (rest cs ds es cs ds es a a)
at_head c (head.Glob m r) ts ty w s rest cs ds es a =
    kept_twice (head.Glob m r) (head.Glob m (side_changed cs r)) (head.Glob m (side_changed ds (side_changed cs r))) _ ts ty cs ds es refl refl (ap (λ x. Kept (head.Glob m x)) (sym (a.sides r))) (rest cs ds es cs ds es a a)
at_head c (head.Pr p r) ts ty w s rest cs ds es a =
    kept_twice (head.Pr p r) (head.Pr p (side_changed cs r)) (head.Pr p (side_changed ds (side_changed cs r))) _ ts ty cs ds es refl refl (ap (λ x. Kept (head.Pr p x)) (sym (a.sides r)))
    (rest cs ds es (without is_own cs) (without is_own ds) (without is_own es) a (at_once_without cs ds es a is_own a.own))
at_head c (head.Hoare (Proc p)) ts ty w s rest cs ds es a =
    let b = at_once_without cs ds es a is_own a.own in
    kept_twice (head.Hoare (Proc p)) (head.Hoare (Proc p)) (head.Hoare (Proc p)) _ ts ty cs ds es
    (ap (λ x. Kept (head.Hoare x)) (procedure_stays p cs)) (ap (λ x. Kept (head.Hoare x)) (procedure_stays p ds)) (ap (λ x. Kept (head.Hoare x)) (procedure_stays p es))
    (rest (without is_own cs) (without is_own ds) (without is_own es) (without is_own cs) (without is_own ds) (without is_own es) b b)
at_head c (head.Hoare (Body' m is)) ts ty w s rest cs ds es a = absurd s
at_head c (head.Phoare (Proc p) r) ts ty w s rest cs ds es a =
    let b = at_once_without cs ds es a is_own a.own in
    kept_twice (head.Phoare (Proc p) r) (head.Phoare (Proc p) r) (head.Phoare (Proc p) r) _ ts ty cs ds es
    (ap (λ x. Kept (head.Phoare x r)) (procedure_stays p cs)) (ap (λ x. Kept (head.Phoare x r)) (procedure_stays p ds)) (ap (λ x. Kept (head.Phoare x r)) (procedure_stays p es))
    (rest (without is_own cs) (without is_own ds) (without is_own es) (without is_own cs) (without is_own ds) (without is_own es) b b)
at_head c (head.Phoare (Body' m is) r) ts ty w s rest cs ds es a = absurd s
at_head c (head.Equiv (Proc p) (Proc q)) ts ty w s rest cs ds es a =
    let b = at_once_without cs ds es a is_left_or_right a.two in
    kept_twice (head.Equiv (Proc p) (Proc q)) (head.Equiv (Proc p) (Proc q)) (head.Equiv (Proc p) (Proc q)) _ ts ty cs ds es
    (λ i. Kept (head.Equiv (procedure_stays p cs i) (procedure_stays q cs i))) (λ i. Kept (head.Equiv (procedure_stays p ds i) (procedure_stays q ds i))) (λ i. Kept (head.Equiv (procedure_stays p es i) (procedure_stays q es i)))
    (rest (without is_left_or_right cs) (without is_left_or_right ds) (without is_left_or_right es) (without is_left_or_right cs) (without is_left_or_right ds) (without is_left_or_right es) b b)
at_head c (head.Equiv (Body' m is) x) ts ty w s rest cs ds es a = absurd s.0
at_head c (head.Equiv (Proc p) (Body' m is)) ts ty w s rest cs ds es a = absurd s.1
at_head c (head.All u) ts ty w s rest cs ds es a =
    kept_twice (head.All u) (head.All u) (head.All u) _ ts ty cs ds es refl refl refl (rest cs ds es (under_binder cs) (under_binder ds) (under_binder es) a (at_once_under cs ds es a))
at_head c (head.Some u) ts ty w s rest cs ds es a =
    kept_twice (head.Some u) (head.Some u) (head.Some u) _ ts ty cs ds es refl refl refl (rest cs ds es (under_binder cs) (under_binder ds) (under_binder es) a (at_once_under cs ds es a))
at_head c head.AllMemory ts ty w s rest cs ds es a =
    kept_twice head.AllMemory head.AllMemory head.AllMemory _ ts ty cs ds es refl refl refl (rest cs ds es (under_binder cs) (under_binder ds) (under_binder es) a (at_once_under cs ds es a))
at_head c head.SomeMemory ts ty w s rest cs ds es a =
    kept_twice head.SomeMemory head.SomeMemory head.SomeMemory _ ts ty cs ds es refl refl refl (rest cs ds es (under_binder cs) (under_binder ds) (under_binder es) a (at_once_under cs ds es a))
at_head c (head.AllModule b) ts ty w s rest cs ds es a =
    kept_twice (head.AllModule b) (head.AllModule b) (head.AllModule b) _ ts ty cs ds es refl refl refl (rest cs ds es (under_binder cs) (under_binder ds) (under_binder es) a (at_once_under cs ds es a))
at_head c (head.Sum q) ts ty w s rest cs ds es a =
    kept_twice (head.Sum q) (head.Sum q) (head.Sum q) _ ts ty cs ds es refl refl refl (rest cs ds es (under_binder cs) (under_binder ds) (under_binder es) a (at_once_under cs ds es a))
at_head c head.Mu ts ty w s rest cs ds es a =
    kept_twice head.Mu head.Mu head.Mu _ ts ty cs ds es refl refl refl (rest cs ds es (under_binder cs) (under_binder ds) (under_binder es) a (at_once_under cs ds es a))
at_head c head.Map ts ty w s rest cs ds es a =
    kept_twice head.Map head.Map head.Map _ ts ty cs ds es refl refl refl (rest cs ds es (under_binder cs) (under_binder ds) (under_binder es) a (at_once_under cs ds es a))
at_head c head.Restrict ts ty w s rest cs ds es a =
    kept_twice head.Restrict head.Restrict head.Restrict _ ts ty cs ds es refl refl refl (rest cs ds es (under_binder cs) (under_binder ds) (under_binder es) a (at_once_under cs ds es a))
at_head c h ts ty w s rest cs ds es a = kept_twice h h h _ ts ty cs ds es refl refl refl (rest cs ds es cs ds es a a)

mutual
  pub twice : (c : Context) (t : Term) → IsTyped c t → (cs ds es : Changes) → AtOnce cs ds es → term_changed (term_changed t cs) ds ≡ term_changed t es
  twice c (Term' tt (more_of-Head h end_of-Head) n ts ty) w cs ds es a =
      ap (λ x. term_changed x ds) (term_changed_is h n ts ty cs) ∙ at_head c h ts ty w.0 w.1 (λ y y1 y2 z z1 z2 p q. all_twice _ _ _ ts w.3 y y1 y2 z z1 z2 p q) cs ds es a ∙ sym (term_changed_is h n ts ty es)

  all_twice : {n : Count} (a b d : Context) (ts : Row_of-Term n) → AreTyped a b d ts → (y y1 y2 z z1 z2 : Changes) → AtOnce y y1 y2 → AtOnce z z1 z2 →
      seen_by y1 z1 (map term_changed (seen_by y z (map term_changed (terms_in ts)))) ≡ seen_by y2 z2 (map term_changed (terms_in ts))
  all_twice a b d end_of-Term w y y1 y2 z z1 z2 p q = refl
  all_twice a b d (more_of-Term t end_of-Term) w y y1 y2 z z1 z2 p q = ap (λ x. x ∷ []) (twice d t w z z1 z2 q)
  all_twice a b d (more_of-Term t (more_of-Term u end_of-Term)) w y y1 y2 z z1 z2 p q =
      let one = twice a t w.0 y y1 y2 p in let rest = all_twice b b d (more_of-Term u end_of-Term) w.1 y y1 y2 z z1 z2 p q in λ i. one i ∷ rest i
  all_twice a b d (more_of-Term t (more_of-Term u (more_of-Term v ts))) w y y1 y2 z z1 z2 p q =
      let one = twice a t w.0 y y1 y2 p in let rest = all_twice b b d (more_of-Term u (more_of-Term v ts)) w.1 y y1 y2 z z1 z2 p q in λ i. one i ∷ rest i
