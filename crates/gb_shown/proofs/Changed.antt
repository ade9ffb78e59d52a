-- Changed forms: names are names where they are in the form and in what is put in.
use Rattle.std.proofs.Common.{not, List, map, Option, Some, None, sym, subst}
use Rattle.std.specs.List.{AllByRecursion}
use Rattle.gb_core.specs.declared.ty.Ty.{Ty}
use Rattle.gb_terms.specs.declared.op.Read.TheVariants.{Logical, Program}
use Rattle.gb_terms.specs.declared.op.Side.{Side}
use Rattle.gb_terms.specs.declared.term.Term.{Term, Term', Row_of-Term, end_of-Term, more_of-Term, end_of-Head, more_of-Head}
use Rattle.gb_terms.specs.declared.term.Subject.{Subject}
use Rattle.gb_terms.specs.declared.term.Head.{Head}
use Rattle.gb_terms.specs.declared.term.Head.TheVariants as head
use Rattle.gb_terms.specs.declared.term.Head.TheVariants.{Proc, Body'}
use Rattle.gb_walk.specs.declared.change.Change.{Change}
use Rattle.gb_walk.specs.declared.change.Change.TheVariants.{ToTerm, OfBound, ToSide}
use Rattle.gb_walk.specs.Layers.{seen_by}
use Rattle.gb_walk.specs.Change.{Changes, change_raised, is_own, is_left_or_right, is_through, without, under_binder, seen_by_args, seen_by_last, put_or, found_for_read, found_for_bound, read_changed, side_changed, term_of, term_changed, subject_changed}
use Rattle.gb_meaning.specs.Commands.{terms_in}
use Rattle.gb_laws.specs.Led.{OnPut}
use Rattle.gb_laws.proofs.Changed.{changed_at, term_changed_is}
use Rattle.gb_laws.proofs.Changing.{kept_at, arguments_of}
use Rattle.gb_laws.proofs.Forms.{procedure_stays}
use Rattle.gb_laws.proofs.Leading.{OnSome, read_found_each, bound_found_each}
use Rattle.gb_laws.proofs.Lookups.{each_filter, each_map}
use Rattle.gb_print_names.specs.declared.bound_names.Enumeration.{Enumeration}
use Rattle.gb_shown.specs.Named.{IsNamedResult, IsNamedSubject, IsNamedHead, IsNamed, AreNamed}
use Rattle.gb_shown.proofs.SpeltTrees.{AllNamed, node_named, raised_named}
use mathlib.Core.Former.{Count}

subject_kept : (c : Subject) (cs : Changes) → IsNamedSubject c → IsNamedSubject (subject_changed c cs)
subject_kept (Proc p) cs h = subst IsNamedSubject (sym (procedure_stays p cs)) h
subject_kept (Body' n is) cs h = absurd h

module _ (es : List Enumeration) where
  -- in what is put in names are names
  abbrev pub PutNamed : Changes → Type 0
  PutNamed cs = AllByRecursion (OnPut (IsNamed es)) cs

  under_named : (cs : Changes) → PutNamed cs → PutNamed (under_binder cs)
  under_named cs h = each_map (OnPut (IsNamed es)) (OnPut (IsNamed es)) change_raised step cs h
    where
      step : (c : Change) → OnPut (IsNamed es) c → OnPut (IsNamed es) (change_raised c)
      step (ToTerm r t) p = raised_named es t _ p
      step (OfBound i t) p = raised_named es t _ p
      step (ToSide a b) p = tt

  without_named : (p : Side → _) (cs : Changes) → PutNamed cs → PutNamed (without p cs)
  without_named p cs h = each_filter (OnPut (IsNamed es)) (λ c. not (is_through p c)) cs h

  by_arguments : (h : Head) (cs : Changes) → PutNamed cs → PutNamed (seen_by_args h cs)
  by_arguments (head.Hoare c) cs a = without_named is_own cs a
  by_arguments (head.Phoare c r) cs a = without_named is_own cs a
  by_arguments (head.Equiv c d) cs a = without_named is_left_or_right cs a
  by_arguments _ cs a = a

  by_last : (h : Head) (cs : Changes) → PutNamed cs → PutNamed (seen_by_last h cs)
  by_last (head.All t) cs a = under_named cs a
  by_last (head.Some t) cs a = under_named cs a
  by_last head.AllMemory cs a = under_named cs a
  by_last head.SomeMemory cs a = under_named cs a
  by_last (head.AllModule b) cs a = under_named cs a
  by_last head.Mu cs a = under_named cs a
  by_last (head.Sum n) cs a = under_named cs a
  by_last head.Map cs a = under_named cs a
  by_last head.Restrict cs a = under_named cs a
  by_last (head.Pr p r) cs a = without_named is_own cs a
  by_last (head.Hoare c) cs a = without_named is_own cs a
  by_last (head.Phoare c r) cs a = without_named is_own cs a
  by_last (head.Equiv c d) cs a = without_named is_left_or_right cs a
  by_last _ cs a = a

  made_named : (o : Option Term) (h : Head) (cs : Changes) (ts : List (Changes → Term)) (ty : Ty) → OnSome (IsNamed es) o → IsNamed es (term_of (put_or None h) cs ts ty) → IsNamed es (term_of (put_or o h) cs ts ty)
  made_named (Some t) h cs ts ty p e = p
  made_named None h cs ts ty p e = e

  named_made : {n : Count} (h : Head) (cs : Changes) (ts : Row_of-Term n) (ty : Ty) → PutNamed cs → IsNamedHead es h ty → IsNamedResult ty → AllNamed es (arguments_of h cs ts) →
      IsNamed es (term_of (changed_at h cs) cs (map term_changed (terms_in ts)) ty)
  named_made (head.Read (Logical i)) cs ts ty a x y e =
      made_named (found_for_read cs (Logical i)) _ cs _ ty (read_found_each (IsNamed es) cs a (Logical i)) (node_named es (head.Read (read_changed cs (Logical i))) (arguments_of (head.Read (Logical i)) cs ts) ty tt y e)
  named_made (head.Read (Program v r)) cs ts ty a x y e =
      made_named (found_for_read cs (Program v r)) _ cs _ ty (read_found_each (IsNamed es) cs a (Program v r)) (node_named es (head.Read (read_changed cs (Program v r))) (arguments_of (head.Read (Program v r)) cs ts) ty x y e)
  named_made (head.Bound k) cs ts ty a x y e =
      made_named (found_for_bound cs k) _ cs _ ty (bound_found_each (IsNamed es) cs a k) (node_named es (head.Bound k) (arguments_of (head.Bound k) cs ts) ty x y e)
  named_made (head.Glob m r) cs ts ty a x y e = node_named es (head.Glob m (side_changed cs r)) (arguments_of (head.Glob m r) cs ts) ty x y e
  named_made (head.Pr p r) cs ts ty a x y e = node_named es (head.Pr p (side_changed cs r)) (arguments_of (head.Pr p r) cs ts) ty x y e
  named_made (head.Hoare c) cs ts ty a x y e = node_named es (kept_at (head.Hoare c) cs) (arguments_of (head.Hoare c) cs ts) ty (subject_kept c cs x) y e
  named_made (head.Phoare c r) cs ts ty a x y e = node_named es (kept_at (head.Phoare c r) cs) (arguments_of (head.Phoare c r) cs ts) ty (subject_kept c cs x) y e
  named_made (head.Equiv c d) cs ts ty a x y e = node_named es (kept_at (head.Equiv c d) cs) (arguments_of (head.Equiv c d) cs ts) ty (subject_kept c cs x.0, subject_kept d cs x.1) y e
  named_made h cs ts ty a x y e = node_named es h (arguments_of h cs ts) ty x y e

  mutual
    pub changed_named : (t : Term) (cs : Changes) → PutNamed cs → IsNamed es t → IsNamed es (term_changed t cs)
    changed_named (Term' p (more_of-Head h end_of-Head) n ts ty) cs a x =
        subst (IsNamed es) (sym (term_changed_is h n ts ty cs)) (named_made h cs ts ty a x.0 x.1 (all_changed_named ts (seen_by_args h cs) (seen_by_last h cs) (by_arguments h cs a) (by_last h cs a) x.2))

    all_changed_named : {n : Count} (ts : Row_of-Term n) (y z : Changes) → PutNamed y → PutNamed z → AreNamed es ts → AllNamed es (seen_by y z (map term_changed (terms_in ts)))
    all_changed_named end_of-Term y z a b x = tt
    all_changed_named (more_of-Term t end_of-Term) y z a b x = (changed_named t z b x.0, tt)
    all_changed_named (more_of-Term t (more_of-Term u ts)) y z a b x = (changed_named t y a x.0, all_changed_named (more_of-Term u ts) y z a b x.1)
