-- The meaning of a changed tree.
use Rattle.std.proofs.Common.{◌≡◌, ℕ, List, [], ◌∷◌, map, Option, Some, None, refl, ap, ◌∙◌}
use Rattle.gb_core.specs.declared.ty.Ty.{Ty}
use Rattle.gb_terms.specs.declared.term.Term.{Term, Term', Row_of-Term, end_of-Term, more_of-Term, end_of-Head, more_of-Head}
use Rattle.gb_terms.specs.declared.term.Head.{Head}
use Rattle.gb_terms.specs.declared.term.Head.TheVariants as head
use Rattle.gb_terms.specs.Make.{node}
use Rattle.gb_walk.specs.Layers.{where_last, seen_by}
use Rattle.gb_walk.specs.Change.{Changes, is_own, is_left_or_right, without, under_binder, seen_by_args, seen_by_last, put_or, found_for_read, found_for_bound, read_changed, side_changed, term_of, term_changed, subject_changed}
use Rattle.gb_meaning.specs.Setting.{Meaning, Setting}
use Rattle.gb_meaning.specs.Setting.Meaning.{finite}
use Rattle.gb_meaning.specs.Meanings.{of_truth}
use Rattle.gb_meaning.specs.State.{State, binding, meaning_in, under, at, between}
use Rattle.gb_meaning.specs.Terms.{Speaks, Part, at_head, read_at, val, parts, part_of, denominator, denominators, denominator_of}
use Rattle.gb_meaning.specs.Commands.{terms_in}
use Rattle.gb_meaning.proofs.Nodes.{val_node, denominator_node}
use Rattle.gb_laws.specs.Formed.{HasArguments, IsFormed, AllFormed}
use Rattle.gb_laws.specs.Plain.{IsPlain, AllPlain}
use Rattle.gb_laws.specs.Uses.{Uses, beneath, under_own, under_sides, besides_own, HeadIsWithin, IsWithin, AreWithin}
use Rattle.gb_laws.specs.Uses as uses
use Rattle.gb_laws.specs.Uses.Use.{read as reads, bound as bound_use, globals, starts}
use Rattle.gb_laws.specs.Led.{IsPut, ArePut, put, Led}
use Rattle.gb_laws.proofs.Heads.{Moved, Under, of_arguments, of_last, Related, inner_same, chance_same, Answers, with_subjects}
use Rattle.gb_laws.proofs.Raising.{has_parts, plain_answers}
use Rattle.gb_laws.proofs.Changed.{changed_at, term_changed_is}
use Rattle.gb_laws.proofs.Leading.{OnSome, read_found_each, bound_found_each, puts_under, puts_without, led_under}
use Rattle.gb_laws.proofs.Entering.{led_at, led_between, led_besides}
use mathlib.Core.Former.{Count}

-- a head that is kept, its programs changed
abbrev pub kept_at : Head → Changes → Head
kept_at h cs = with_subjects (λ c. subject_changed c cs) h

-- the arguments of a head, changed
abbrev pub arguments_of : {n : Count} → Head → Changes → Row_of-Term n → List Term
arguments_of h cs ts = seen_by (seen_by_args h cs) (seen_by_last h cs) (map term_changed (terms_in ts))

module _ (g : Setting) where
  pub puts_by_arguments : (h : Head) (cs : Changes) → ArePut g cs → ArePut g (seen_by_args h cs)
  puts_by_arguments (head.Hoare c) cs a = puts_without g is_own cs a
  puts_by_arguments (head.Phoare c r) cs a = puts_without g is_own cs a
  puts_by_arguments (head.Equiv c d) cs a = puts_without g is_left_or_right cs a
  puts_by_arguments _ cs a = a

  pub puts_by_last : (h : Head) (cs : Changes) → ArePut g cs → ArePut g (seen_by_last h cs)
  puts_by_last (head.All t) cs a = puts_under g cs a
  puts_by_last (head.Some t) cs a = puts_under g cs a
  puts_by_last head.AllMemory cs a = puts_under g cs a
  puts_by_last head.SomeMemory cs a = puts_under g cs a
  puts_by_last (head.AllModule b) cs a = puts_under g cs a
  puts_by_last head.Mu cs a = puts_under g cs a
  puts_by_last (head.Sum n) cs a = puts_under g cs a
  puts_by_last head.Map cs a = puts_under g cs a
  puts_by_last head.Restrict cs a = puts_under g cs a
  puts_by_last (head.Pr p r) cs a = puts_without g is_own cs a
  puts_by_last (head.Hoare c) cs a = puts_without g is_own cs a
  puts_by_last (head.Phoare c r) cs a = puts_without g is_own cs a
  puts_by_last (head.Equiv c d) cs a = puts_without g is_left_or_right cs a
  puts_by_last _ cs a = a

  puts_where : {B : Type 0} (fs : List B) (y z : Changes) → ArePut g y → ArePut g z → ArePut g (where_last fs y z)
  puts_where [] y z a b = b
  puts_where (f ∷ fs) y z a b = a

  made_denominator : (o : Option Term) (h : Head) (cs : Changes) (ts : List (Changes → Term)) (ty : Ty) → OnSome (IsPut g) o →
      ((ks : List ℕ) → denominator_of g h ks ty ≡ 1) → denominator g (term_of (put_or o h) cs ts ty) ≡ 1
  made_denominator (Some t) h cs ts ty p e = p.denominator
  made_denominator None h cs ts ty p e = denominator_node g h (seen_by (seen_by_args h cs) (seen_by_last h cs) ts) ty ∙ e _

  denominator_made : {n : Count} (h : Head) (cs : Changes) (ts : Row_of-Term n) (ty : Ty) → ArePut g cs →
      map (denominator g) (arguments_of h cs ts) ≡ denominators g ts → denominator g (term_of (changed_at h cs) cs (map term_changed (terms_in ts)) ty) ≡ denominator_of g h (denominators g ts) ty
  denominator_made (head.Read r) cs ts ty a e = made_denominator (found_for_read cs r) _ cs _ ty (read_found_each (IsPut g) cs a r) (λ ks i. 1)
  denominator_made (head.Bound i) cs ts ty a e = made_denominator (found_for_bound cs i) _ cs _ ty (bound_found_each (IsPut g) cs a i) (λ ks i. 1)
  denominator_made (head.Glob m r) cs ts ty a e = denominator_node g (head.Glob m (side_changed cs r)) (arguments_of (head.Glob m r) cs ts) ty
  denominator_made (head.Pr p r) cs ts ty a e = denominator_node g (head.Pr p (side_changed cs r)) (arguments_of (head.Pr p r) cs ts) ty
  denominator_made (head.Hoare c) cs ts ty a e = denominator_node g (head.Hoare (subject_changed c cs)) (arguments_of (head.Hoare c) cs ts) ty
  denominator_made (head.Phoare c r) cs ts ty a e = denominator_node g (head.Phoare (subject_changed c cs) r) (arguments_of (head.Phoare c r) cs ts) ty
  denominator_made (head.Equiv c d) cs ts ty a e =
      denominator_node g (head.Equiv (subject_changed c cs) (subject_changed d cs)) (arguments_of (head.Equiv c d) cs ts) ty
  denominator_made h cs ts ty a e = denominator_node g h (arguments_of h cs ts) ty ∙ ap (λ ks. denominator_of g h ks ty) e

  mutual
    pub denominator_changed : (t : Term) (cs : Changes) → ArePut g cs → denominator g (term_changed t cs) ≡ denominator g t
    denominator_changed (Term' p (more_of-Head h end_of-Head) n ts ty) cs a =
        ap (denominator g) (term_changed_is h n ts ty cs)
        ∙ denominator_made h cs ts ty a (denominators_changed ts (seen_by_args h cs) (seen_by_last h cs) (puts_by_arguments h cs a) (puts_by_last h cs a))

    denominators_changed : {n : Count} (ts : Row_of-Term n) (y z : Changes) → ArePut g y → ArePut g z →
        map (denominator g) (seen_by y z (map term_changed (terms_in ts))) ≡ denominators g ts
    denominators_changed end_of-Term y z a b = refl
    denominators_changed (more_of-Term t ts) y z a b =
        let one = denominator_changed t (where_last (map term_changed (terms_in ts)) y z) (puts_where (map term_changed (terms_in ts)) y z a b) in
        let rest = denominators_changed ts y z a b in
        λ i. one i ∷ rest i

  module _ (j : Speaks) where
    -- the changed term means what the term means where the changes lead
    abbrev pub Followed : Term → Type 0
    Followed t = (cs : Changes) (K : Uses) (s q : State) → ArePut g cs → Led g j cs K s q → IsWithin K t → val g j (term_changed t cs) s ≡ val g j t q

    abbrev pub AllFollowed : {n : Count} → Row_of-Term n → Type 0
    AllFollowed end_of-Term = Unit {0}
    AllFollowed (more_of-Term t ts) = Followed t × AllFollowed ts

    moved : {n : Count} (R L : Part → Part → Type 0) (y z : Changes) (K W : Uses) →
        ((t : Term) → Followed t → IsWithin K t → R (part_of g j (term_changed t y)) (part_of g j t)) →
        ((t : Term) → Followed t → IsWithin W t → L (part_of g j (term_changed t z)) (part_of g j t)) → (ts : Row_of-Term n) → AllFollowed ts → AreWithin K W ts →
        Moved R L (map (part_of g j) (seen_by y z (map term_changed (terms_in ts)))) (parts g j ts)
    moved R L y z K W f h end_of-Term a i = tt
    moved R L y z K W f h (more_of-Term t end_of-Term) a i = h t a.0 i
    moved R L y z K W f h (more_of-Term t (more_of-Term u ts)) a i = (f t a.0 i.0, moved R L y z K W f h (more_of-Term u ts) a.1 i.1)

    made_val : (o : Option Term) (h : Head) (cs : Changes) (ts : List (Changes → Term)) (ty : Ty) (s : State) (x : Meaning) →
        ((u : Term) (xs : List Part) → at_head g j u h xs ty s ≡ x) → val g j (term_of (put_or o h) cs ts ty) s ≡ put g j o x s
    made_val (Some t) h cs ts ty s x e = refl
    made_val None h cs ts ty s x e = val_node g j h (seen_by (seen_by_args h cs) (seen_by_last h cs) ts) ty s ∙ e _ _

    module _ (cs : Changes) (K : Uses) (s q : State) (a : ArePut g cs) (led : Led g j cs K s q) where
      follow_argument : (h : Head) (ty : Ty) → HeadIsWithin K h ty → (t : Term) → Followed t → IsWithin (uses.of_arguments K h) t →
          of_arguments s q h (part_of g j (term_changed t (seen_by_args h cs))) (part_of g j t)
      follow_argument (head.Hoare c) ty w t e i = λ m. e (without is_own cs) (under_own K) (at s m) (at q m) (puts_without g is_own cs a) (led_at g j cs K s q led w.0 m) i
      follow_argument (head.Phoare c r) ty w t e i = λ m. e (without is_own cs) (under_own K) (at s m) (at q m) (puts_without g is_own cs a) (led_at g j cs K s q led w.0 m) i
      follow_argument (head.Equiv c d) ty w t e i =
          λ m n. e (without is_left_or_right cs) (under_sides K) (between s m n) (between q m n) (puts_without g is_left_or_right cs a) (led_between g j cs K s q led w.0 m n) i
      follow_argument _ ty w t e i = (e cs K s q a led i, denominator_changed t cs a)

      below : (t : Term) → Followed t → IsWithin (beneath K) t → Under s q (part_of g j (term_changed t (under_binder cs))) (part_of g j t)
      below t e i = λ b. e (under_binder cs) (beneath K) (under s b) (under q b) (puts_under g cs a) (led_under g j cs a K s q led b) i

      follow_last : (h : Head) (ty : Ty) → HeadIsWithin K h ty → (t : Term) → Followed t → IsWithin (uses.of_last K h) t →
          of_last s q h (part_of g j (term_changed t (seen_by_last h cs))) (part_of g j t)
      follow_last (head.All u) ty w t e i = below t e i
      follow_last (head.Some u) ty w t e i = below t e i
      follow_last head.AllMemory ty w t e i = below t e i
      follow_last head.SomeMemory ty w t e i = below t e i
      follow_last (head.AllModule b) ty w t e i = below t e i
      follow_last head.Mu ty w t e i = below t e i
      follow_last (head.Sum n) ty w t e i = below t e i
      follow_last head.Map ty w t e i = below t e i
      follow_last head.Restrict ty w t e i = below t e i
      follow_last (head.Pr p r) ty w t e i = λ m. e (without is_own cs) (under_own K) (at s m) (at q m) (puts_without g is_own cs a) (led_at g j cs K s q led w.1 m) i
      follow_last (head.Hoare c) ty w t e i = λ m. e (without is_own cs) (under_own K) (at s m) (at q m) (puts_without g is_own cs a) (led_at g j cs K s q led w.0 m) i
      follow_last (head.Phoare c r) ty w t e i =
          (e (without is_own cs) (besides_own K) s q (puts_without g is_own cs a) (led_besides g j cs K s q led) i, denominator_changed t (without is_own cs) (puts_without g is_own cs a))
      follow_last (head.Equiv c d) ty w t e i =
          λ m n. e (without is_left_or_right cs) (under_sides K) (between s m n) (between q m n) (puts_without g is_left_or_right cs a) (led_between g j cs K s q led w.0 m n) i
      follow_last _ ty w t e i = (e cs K s q a led i, denominator_changed t cs a)

      pub followed_parts : {n : Count} (h : Head) (ty : Ty) → HeadIsWithin K h ty → (ts : Row_of-Term n) → AllFollowed ts → AreWithin (uses.of_arguments K h) (uses.of_last K h) ts →
          Related s q h (map (part_of g j) (arguments_of h cs ts)) (parts g j ts)
      followed_parts h ty w ts f i =
          moved (of_arguments s q h) (of_last s q h) (seen_by_args h cs) (seen_by_last h cs) (uses.of_arguments K h) (uses.of_last K h) (follow_argument h ty w) (follow_last h ty w) ts f i

      pub changed_head : {n : Count} (u : Term) (h : Head) (ts : Row_of-Term n) (ty : Ty) → HeadIsWithin K h ty → HasArguments h (parts g j ts) →
          Related s q h (map (part_of g j) (arguments_of h cs ts)) (parts g j ts) → Answers h (j.judged (node (kept_at h cs) (arguments_of h cs ts) ty) s) (j.judged u q) →
          val g j (term_of (changed_at h cs) cs (map term_changed (terms_in ts)) ty) s ≡ at_head g j u h (parts g j ts) ty q
      changed_head u (head.Read r) ts ty w b r2 e =
          made_val (found_for_read cs r) (head.Read (read_changed cs r)) cs (map term_changed (terms_in ts)) ty s (read_at g (read_changed cs r) ty s) (λ v xs. refl) ∙ led (reads r ty) w
      changed_head u (head.Bound i) ts ty w b r2 e =
          made_val (found_for_bound cs i) (head.Bound i) cs (map term_changed (terms_in ts)) ty s (meaning_in (binding s i)) (λ v xs. refl) ∙ led (bound_use i) w
      changed_head u (head.Glob m r) ts ty w b r2 e = val_node g j (head.Glob m (side_changed cs r)) (arguments_of (head.Glob m r) cs ts) ty s ∙ ap finite (led (globals m r) w)
      changed_head u (head.Pr p r) ts ty w b r2 e =
          val_node g j (head.Pr p (side_changed cs r)) (arguments_of (head.Pr p r) cs ts) ty s ∙ chance_same s q g j p _ _ _ _ (led (starts r) w.0) r2
      changed_head u head.AllMemory ts ty w b r2 e = val_node g j head.AllMemory (arguments_of head.AllMemory cs ts) ty s ∙ ap of_truth e
      changed_head u head.SomeMemory ts ty w b r2 e = val_node g j head.SomeMemory (arguments_of head.SomeMemory cs ts) ty s ∙ ap of_truth e
      changed_head u (head.Hoare c) ts ty w b r2 e = val_node g j (head.Hoare (subject_changed c cs)) (arguments_of (head.Hoare c) cs ts) ty s ∙ ap of_truth e
      changed_head u (head.Phoare c r) ts ty w b r2 e = val_node g j (head.Phoare (subject_changed c cs) r) (arguments_of (head.Phoare c r) cs ts) ty s ∙ ap of_truth e
      changed_head u (head.Equiv c d) ts ty w b r2 e =
          val_node g j (head.Equiv (subject_changed c cs) (subject_changed d cs)) (arguments_of (head.Equiv c d) cs ts) ty s ∙ ap of_truth e
      changed_head u h ts ty w b r2 e = val_node g j h (arguments_of h cs ts) ty s ∙ inner_same s q g j (node h (arguments_of h cs ts) ty) u h _ (parts g j ts) ty tt b r2

    mutual
      pub plain_followed : (t : Term) → IsFormed t → IsPlain t → Followed t
      plain_followed (Term' p (more_of-Head h end_of-Head) n ts ty) f pl cs K s q a led i =
          ap (λ t. val g j t s) (term_changed_is h n ts ty cs)
          ∙ changed_head cs K s q a led (Term' p (more_of-Head h end_of-Head) n ts ty) h ts ty i.0 (has_parts g j h ts f.0)
          (followed_parts cs K s q a led h ty i.0 ts (all_plain_followed ts f.2 pl.1) i.1) (plain_answers g j h pl.0 _ _)

      all_plain_followed : {n : Count} (ts : Row_of-Term n) → AllFormed ts → AllPlain ts → AllFollowed ts
      all_plain_followed end_of-Term f p = tt
      all_plain_followed (more_of-Term t ts) f p = (plain_followed t f.0 p.0, all_plain_followed ts f.1 p.1)
