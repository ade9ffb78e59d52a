-- Changed trees are formed, and sound, as the trees are.
use Rattle.std.proofs.Common.{List, map, Option, Some, None, sym, subst}
use Rattle.std.specs.List.{AllByRecursion}
use Rattle.gb_core.specs.declared.ty.Ty.{Ty}
use Rattle.gb_terms.specs.declared.term.Term.{Term, Term', Row_of-Term, end_of-Term, more_of-Term, end_of-Head, more_of-Head}
use Rattle.gb_terms.specs.declared.term.Subject.{Subject}
use Rattle.gb_terms.specs.declared.term.Instr.{Row_of-Instr, end_of-Instr, more_of-Instr}
use Rattle.gb_terms.specs.declared.term.Head.{Head}
use Rattle.gb_terms.specs.declared.term.Head.TheVariants as head
use Rattle.gb_terms.specs.declared.term.Head.TheVariants.{Assign, Sample, Call', If', While', Proc, Body'}
use Rattle.gb_walk.specs.Layers.{seen_by}
use Rattle.gb_walk.specs.Change.{Changes, is_own, without, seen_by_args, seen_by_last, put_or, found_for_read, found_for_bound, read_changed, side_changed, term_of, term_changed, subject_changed}
use Rattle.gb_meaning.specs.Setting.{Setting}
use Rattle.gb_meaning.specs.Commands.{terms_in}
use Rattle.gb_meaning.specs.Judgments.{is_sound_at, IsSoundForm, AllSound}
use Rattle.gb_meaning.proofs.Nodes.{EachSound, sound_node}
use Rattle.gb_laws.specs.Formed.{AreTwo, AreThree, HasArguments, HeadIsFormed, SubjectIsFormed, IsFormed, AllFormed, AreFormed}
use Rattle.gb_laws.specs.Plain.{HeadIsPlain, IsPlain, AllPlain}
use Rattle.gb_laws.specs.Uses.{Uses, in_body, SubjectIsWithin, BodyIsWithin, HeadIsWithin, IsWithin, AreWithin}
use Rattle.gb_laws.specs.Uses as uses
use Rattle.gb_laws.specs.Led.{IsPut, ArePut}
use Rattle.gb_laws.proofs.Puts.{formed_node}
use Rattle.gb_laws.proofs.Changed.{changed_at, term_changed_is}
use Rattle.gb_laws.proofs.Leading.{OnSome, read_found_each, bound_found_each, puts_without}
use Rattle.gb_laws.proofs.Changing.{arguments_of, kept_at, puts_by_arguments, puts_by_last}
use Rattle.gb_laws.proofs.Forms.{procedure_stays, subject_sound}
use Rattle.gb_laws.proofs.Bodies.{terms_changed, body_changed, body_changed_is}
use mathlib.Core.Former.{Count}

two_changed : {n : Count} (ts : Row_of-Term n) (y z : Changes) → AreTwo (terms_in ts) → AreTwo (seen_by y z (map term_changed (terms_in ts)))
two_changed end_of-Term y z a = absurd a
two_changed (more_of-Term t end_of-Term) y z a = absurd a
two_changed (more_of-Term t (more_of-Term u end_of-Term)) y z a = tt
two_changed (more_of-Term t (more_of-Term u (more_of-Term v ts))) y z a = absurd a

three_changed : {n : Count} (ts : Row_of-Term n) (y z : Changes) → AreThree (terms_in ts) → AreThree (seen_by y z (map term_changed (terms_in ts)))
three_changed end_of-Term y z a = absurd a
three_changed (more_of-Term t end_of-Term) y z a = absurd a
three_changed (more_of-Term t (more_of-Term u end_of-Term)) y z a = absurd a
three_changed (more_of-Term t (more_of-Term u (more_of-Term v end_of-Term))) y z a = tt
three_changed (more_of-Term t (more_of-Term u (more_of-Term v (more_of-Term w ts)))) y z a = absurd a

arguments_changed : {n : Count} (h : Head) (cs : Changes) (ts : Row_of-Term n) → HasArguments h (terms_in ts) → HasArguments (kept_at h cs) (arguments_of h cs ts)
arguments_changed head.Mu cs ts a = two_changed ts _ _ a
arguments_changed head.Map cs ts a = two_changed ts _ _ a
arguments_changed head.Restrict cs ts a = two_changed ts _ _ a
arguments_changed (head.Hoare c) cs ts a = tt
arguments_changed (head.Phoare c r) cs ts a = three_changed ts _ _ a
arguments_changed (head.Equiv c d) cs ts a = tt
arguments_changed _ cs ts a = tt

mutual
  plain_sound : (g : Setting) (t : Term) → IsPlain t → IsSoundForm g t
  plain_sound g (Term' p (more_of-Head h end_of-Head) n ts ty) x = (plain_head_sound g h x.0, all_plain_sound g ts x.1)

  plain_head_sound : (g : Setting) (h : Head) → HeadIsPlain h → is_sound_at g h
  plain_head_sound g (head.Pr p r) x = absurd x
  plain_head_sound g (head.Hoare c) x = absurd x
  plain_head_sound g (head.Phoare c r) x = absurd x
  plain_head_sound g (head.Equiv c d) x = absurd x
  plain_head_sound g _ x = tt

  all_plain_sound : {n : Count} (g : Setting) (ts : Row_of-Term n) → AllPlain ts → AllSound g ts
  all_plain_sound g end_of-Term x = tt
  all_plain_sound g (more_of-Term t ts) x = (plain_sound g t x.0, all_plain_sound g ts x.1)

head_changed_sound : (g : Setting) (K : Uses) (cs : Changes) → ArePut g cs → (h : Head) (ty : Ty) → HeadIsWithin K h ty → is_sound_at g h → is_sound_at g (kept_at h cs)
head_changed_sound g K cs a (head.Pr p r) ty w u = u
head_changed_sound g K cs a (head.Hoare c) ty w u = subject_sound g K cs a c w.1 u
head_changed_sound g K cs a (head.Phoare c r) ty w u = subject_sound g K cs a c w.1 u
head_changed_sound g K cs a (head.Equiv c d) ty w u = (subject_sound g K cs a c w.1 u.0, subject_sound g K cs a d w.2 u.1)
head_changed_sound g K cs a _ ty w u = tt

plain_head_formed : (h : Head) (cs : Changes) → HeadIsPlain h → HeadIsFormed (kept_at h cs)
plain_head_formed (head.Hoare c) cs x = absurd x
plain_head_formed (head.Phoare c r) cs x = absurd x
plain_head_formed (head.Equiv c d) cs x = absurd x
plain_head_formed _ cs x = tt

module _ (g : Setting) where
  -- what is put in has a property of nodes, and so has what is kept
  made_such : (P : Term → Type 0) (o : Option Term) (h : Head) (cs : Changes) (ts : List (Changes → Term)) (ty : Ty) → OnSome P o →
      P (term_of (put_or None h) cs ts ty) → P (term_of (put_or o h) cs ts ty)
  made_such P (Some t) h cs ts ty p e = p
  made_such P None h cs ts ty p e = e

  put_such : (P : Term → Type 0) → ((t : Term) → IsPut g t → P t) → (o : Option Term) → OnSome (IsPut g) o → OnSome P o
  put_such P f (Some t) p = f t p
  put_such P f None p = tt

  formed_made : {n : Count} (h : Head) (cs : Changes) (ts : Row_of-Term n) (ty : Ty) → ArePut g cs → HeadIsFormed (kept_at h cs) → HasArguments h (terms_in ts) →
      AllByRecursion IsFormed (arguments_of h cs ts) → IsFormed (term_of (changed_at h cs) cs (map term_changed (terms_in ts)) ty)
  formed_made (head.Read r) cs ts ty a w i e =
      made_such IsFormed (found_for_read cs r) _ cs _ ty (put_such IsFormed (λ t p. p.formed) (found_for_read cs r) (read_found_each (IsPut g) cs a r))
      (formed_node (head.Read (read_changed cs r)) (arguments_of (head.Read r) cs ts) ty tt tt e)
  formed_made (head.Bound k) cs ts ty a w i e =
      made_such IsFormed (found_for_bound cs k) _ cs _ ty (put_such IsFormed (λ t p. p.formed) (found_for_bound cs k) (bound_found_each (IsPut g) cs a k))
      (formed_node (head.Bound k) (arguments_of (head.Bound k) cs ts) ty tt tt e)
  formed_made (head.Glob m r) cs ts ty a w i e = formed_node (head.Glob m (side_changed cs r)) (arguments_of (head.Glob m r) cs ts) ty tt tt e
  formed_made (head.Pr p r) cs ts ty a w i e = formed_node (head.Pr p (side_changed cs r)) (arguments_of (head.Pr p r) cs ts) ty tt tt e
  formed_made (head.Hoare c) cs ts ty a w i e = formed_node (kept_at (head.Hoare c) cs) (arguments_of (head.Hoare c) cs ts) ty tt w e
  formed_made (head.Phoare c r) cs ts ty a w i e =
      formed_node (kept_at (head.Phoare c r) cs) (arguments_of (head.Phoare c r) cs ts) ty (arguments_changed (head.Phoare c r) cs ts i) w e
  formed_made (head.Equiv c d) cs ts ty a w i e = formed_node (kept_at (head.Equiv c d) cs) (arguments_of (head.Equiv c d) cs ts) ty tt w e
  formed_made h cs ts ty a w i e = formed_node h (arguments_of h cs ts) ty (arguments_changed h cs ts i) w e

  mutual
    plain_formed : (t : Term) (cs : Changes) → ArePut g cs → IsFormed t → IsPlain t → IsFormed (term_changed t cs)
    plain_formed (Term' p (more_of-Head h end_of-Head) n ts ty) cs a f x =
        subst IsFormed (sym (term_changed_is h n ts ty cs)) (formed_made h cs ts ty a (plain_head_formed h cs x.0) f.0
        (plain_all_formed ts (seen_by_args h cs) (seen_by_last h cs) (puts_by_arguments g h cs a) (puts_by_last g h cs a) f.2 x.1))

    plain_all_formed : {n : Count} (ts : Row_of-Term n) (y z : Changes) → ArePut g y → ArePut g z → AllFormed ts → AllPlain ts → AllByRecursion IsFormed (seen_by y z (map term_changed (terms_in ts)))
    plain_all_formed end_of-Term y z a b f x = tt
    plain_all_formed (more_of-Term t end_of-Term) y z a b f x = (plain_formed t z b f.0 x.0, tt)
    plain_all_formed (more_of-Term t (more_of-Term u ts)) y z a b f x = (plain_formed t y a f.0 x.0, plain_all_formed (more_of-Term u ts) y z a b f.1 x.1)

  -- a body with changes made is formed

  terms_formed : {n : Count} (cs : Changes) (ts : Row_of-Term n) → ArePut g cs → AllFormed ts → AllPlain ts → AllFormed (terms_changed cs ts)
  terms_formed cs end_of-Term a f x = tt
  terms_formed cs (more_of-Term t ts) a f x = (plain_formed t cs a f.0 x.0, terms_formed cs ts a f.1 x.1)

  body_formed : {n : Count} (K : Uses) (cs : Changes) (is : Row_of-Instr n) → ArePut g cs → BodyIsWithin K is → AreFormed (body_changed cs is)
  body_formed K cs end_of-Instr a w = tt
  body_formed K cs (more_of-Instr (Assign xs e) is) a w = (plain_formed e cs a w.0.0 w.0.1, body_formed K cs is a w.1)
  body_formed K cs (more_of-Instr (Sample x d) is) a w = (plain_formed d cs a w.0.0 w.0.1, body_formed K cs is a w.1)
  body_formed K cs (more_of-Instr (Call' xs p n es) is) a w = (terms_formed cs es a w.0.0 w.0.1, body_formed K cs is a w.1)
  body_formed K cs (more_of-Instr (If' e m b n c) is) a w = (plain_formed e cs a w.0.0 w.0.1, body_formed K cs b a w.1, body_formed K cs c a w.2, body_formed K cs is a w.3)
  body_formed K cs (more_of-Instr (While' e v n b) is) a w =
      (plain_formed e cs a w.0.0 w.0.1, plain_formed v cs a w.1.0 w.1.1, body_formed K cs b a w.3, body_formed K cs is a w.4)

  subject_formed : (K : Uses) (cs : Changes) → ArePut g cs → (c : Subject) → SubjectIsWithin K c → SubjectIsFormed (subject_changed c cs)
  subject_formed K cs a (Proc p) w = subst SubjectIsFormed (sym (procedure_stays p cs)) tt
  subject_formed K cs a (Body' n is) w = subst SubjectIsFormed (sym (body_changed_is n is cs)) (body_formed (in_body K) (without is_own cs) is (puts_without g is_own cs a) w.2)

  head_changed_formed : (K : Uses) (cs : Changes) → ArePut g cs → (h : Head) (ty : Ty) → HeadIsWithin K h ty → HeadIsFormed (kept_at h cs)
  head_changed_formed K cs a (head.Hoare c) ty w = subject_formed K cs a c w.1
  head_changed_formed K cs a (head.Phoare c r) ty w = subject_formed K cs a c w.1
  head_changed_formed K cs a (head.Equiv c d) ty w = (subject_formed K cs a c w.1, subject_formed K cs a d w.2)
  head_changed_formed K cs a _ ty w = tt

  mutual
    pub formed_changed : (t : Term) (cs : Changes) (K : Uses) → ArePut g cs → IsFormed t → IsWithin K t → IsFormed (term_changed t cs)
    formed_changed (Term' p (more_of-Head h end_of-Head) n ts ty) cs K a f w =
        subst IsFormed (sym (term_changed_is h n ts ty cs)) (formed_made h cs ts ty a (head_changed_formed K cs a h ty w.0) f.0
        (formed_all ts (seen_by_args h cs) (seen_by_last h cs) (uses.of_arguments K h) (uses.of_last K h) (puts_by_arguments g h cs a) (puts_by_last g h cs a) f.2 w.1))

    formed_all : {n : Count} (ts : Row_of-Term n) (y z : Changes) (K W : Uses) → ArePut g y → ArePut g z → AllFormed ts → AreWithin K W ts →
        AllByRecursion IsFormed (seen_by y z (map term_changed (terms_in ts)))
    formed_all end_of-Term y z K W a b f w = tt
    formed_all (more_of-Term t end_of-Term) y z K W a b f w = (formed_changed t z W b f.0 w, tt)
    formed_all (more_of-Term t (more_of-Term u ts)) y z K W a b f w = (formed_changed t y K a f.0 w.0, formed_all (more_of-Term u ts) y z K W a b f.1 w.1)

  sound_made : {n : Count} (h : Head) (cs : Changes) (K : Uses) (ts : Row_of-Term n) (ty : Ty) → ArePut g cs → HeadIsWithin K h ty → is_sound_at g h →
      EachSound g (arguments_of h cs ts) → IsSoundForm g (term_of (changed_at h cs) cs (map term_changed (terms_in ts)) ty)
  sound_made (head.Read r) cs K ts ty a w u e =
      made_such (IsSoundForm g) (found_for_read cs r) _ cs _ ty (put_such (IsSoundForm g) (λ t p. plain_sound g t p.plain) (found_for_read cs r) (read_found_each (IsPut g) cs a r))
      (sound_node g (head.Read (read_changed cs r)) (arguments_of (head.Read r) cs ts) ty tt e)
  sound_made (head.Bound k) cs K ts ty a w u e =
      made_such (IsSoundForm g) (found_for_bound cs k) _ cs _ ty (put_such (IsSoundForm g) (λ t p. plain_sound g t p.plain) (found_for_bound cs k) (bound_found_each (IsPut g) cs a k))
      (sound_node g (head.Bound k) (arguments_of (head.Bound k) cs ts) ty tt e)
  sound_made (head.Glob m r) cs K ts ty a w u e = sound_node g (head.Glob m (side_changed cs r)) (arguments_of (head.Glob m r) cs ts) ty tt e
  sound_made (head.Pr p r) cs K ts ty a w u e = sound_node g (head.Pr p (side_changed cs r)) (arguments_of (head.Pr p r) cs ts) ty u e
  sound_made (head.Hoare c) cs K ts ty a w u e = sound_node g (kept_at (head.Hoare c) cs) (arguments_of (head.Hoare c) cs ts) ty (head_changed_sound g K cs a (head.Hoare c) ty w u) e
  sound_made (head.Phoare c r) cs K ts ty a w u e = sound_node g (kept_at (head.Phoare c r) cs) (arguments_of (head.Phoare c r) cs ts) ty (head_changed_sound g K cs a (head.Phoare c r) ty w u) e
  sound_made (head.Equiv c d) cs K ts ty a w u e = sound_node g (kept_at (head.Equiv c d) cs) (arguments_of (head.Equiv c d) cs ts) ty (head_changed_sound g K cs a (head.Equiv c d) ty w u) e
  sound_made h cs K ts ty a w u e = sound_node g h (arguments_of h cs ts) ty (head_changed_sound g K cs a h ty w u) e

  mutual
    pub sound_changed : (t : Term) (cs : Changes) (K : Uses) → ArePut g cs → IsSoundForm g t → IsWithin K t → IsSoundForm g (term_changed t cs)
    sound_changed (Term' p (more_of-Head h end_of-Head) n ts ty) cs K a f w =
        subst (IsSoundForm g) (sym (term_changed_is h n ts ty cs)) (sound_made h cs K ts ty a w.0 f.0
        (sound_all ts (seen_by_args h cs) (seen_by_last h cs) (uses.of_arguments K h) (uses.of_last K h) (puts_by_arguments g h cs a) (puts_by_last g h cs a) f.1 w.1))

    sound_all : {n : Count} (ts : Row_of-Term n) (y z : Changes) (K W : Uses) → ArePut g y → ArePut g z → AllSound g ts → AreWithin K W ts →
        EachSound g (seen_by y z (map term_changed (terms_in ts)))
    sound_all end_of-Term y z K W a b f w = tt
    sound_all (more_of-Term t end_of-Term) y z K W a b f w = (sound_changed t z W b f.0 w, tt)
    sound_all (more_of-Term t (more_of-Term u ts)) y z K W a b f w = (sound_changed t y K a f.0 w.0, sound_all (more_of-Term u ts) y z K W a b f.1 w.1)
