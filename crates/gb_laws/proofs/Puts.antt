-- Terms that are put in stay such terms under a binder.
use Rattle.std.proofs.Common.{◌≡◌, ℕ, List, [], ◌∷◌, map, refl, ap, sym, ◌∙◌, subst}
use Rattle.std.specs.List.{AllByRecursion}
use Rattle.gb_core.specs.declared.ty.Ty.{Ty}
use Rattle.gb_terms.specs.declared.term.Term.{Term, Term', Row_of-Term, end_of-Term, more_of-Term, end_of-Head, more_of-Head}
use Rattle.gb_terms.specs.declared.term.Head.{Head}
use Rattle.gb_terms.specs.declared.term.Head.TheVariants as head
use Rattle.gb_terms.specs.Make.{node}
use Rattle.gb_walk.specs.Layers.{where_last, seen_by}
use Rattle.gb_walk.specs.Raise.{last_from, term_raised}
use Rattle.gb_meaning.specs.Trees.{row}
use Rattle.gb_meaning.specs.Setting.{Setting}
use Rattle.gb_meaning.specs.Commands.{terms_in}
use Rattle.gb_meaning.proofs.Nodes.{term_is_node}
use Rattle.gb_laws.specs.Formed.{AreTwo, HasArguments, HeadIsFormed, IsFormed, AllFormed}
use Rattle.gb_laws.specs.Plain.{HeadIsPlain, IsPlain, AllPlain}
use Rattle.gb_laws.specs.Led.{IsPut}
use Rattle.gb_laws.proofs.Trees.{raised_at, term_raised_is}
use Rattle.gb_laws.proofs.Raising.{denominator_raised}
use mathlib.Core.Former.{Count}

plain_row : (ts : List Term) → AllByRecursion IsPlain ts → AllPlain (row ts)
plain_row [] h = tt
plain_row (t ∷ ts) h = (h.0, plain_row ts h.1)

pub plain_node : (h : Head) (ts : List Term) (ty : Ty) → HeadIsPlain h → AllByRecursion IsPlain ts → IsPlain (node h ts ty)
plain_node h ts ty x y = subst IsPlain (term_is_node h ts ty) (x, plain_row ts y)

plain_head : (h : Head) (k : ℕ) → HeadIsPlain h → HeadIsPlain (raised_at h k)
plain_head head.AllMemory k x = x
plain_head head.SomeMemory k x = x
plain_head (head.Pr p r) k x = absurd x
plain_head (head.Hoare c) k x = absurd x
plain_head (head.Phoare c r) k x = absurd x
plain_head (head.Equiv c d) k x = absurd x
plain_head _ k x = tt

mutual
  pub plain_raised : (t : Term) (k : ℕ) → IsPlain t → IsPlain (term_raised t k)
  plain_raised (Term' p (more_of-Head h end_of-Head) n ts ty) k x =
      subst IsPlain (sym (term_raised_is h n ts ty k)) (plain_node (raised_at h k) _ ty (plain_head h k x.0) (plain_all ts k (last_from (raised_at h k) k) x.1))

  plain_all : {n : Count} (ts : Row_of-Term n) (k l : ℕ) → AllPlain ts → AllByRecursion IsPlain (seen_by k l (map term_raised (terms_in ts)))
  plain_all end_of-Term k l x = tt
  plain_all (more_of-Term t ts) k l x = (plain_raised t (where_last (map term_raised (terms_in ts)) k l) x.0, plain_all ts k l x.1)

formed_row : (ts : List Term) → AllByRecursion IsFormed ts → AllFormed (row ts)
formed_row [] h = tt
formed_row (t ∷ ts) h = (h.0, formed_row ts h.1)

terms_of_row : (ts : List Term) → terms_in (row ts) ≡ ts
terms_of_row [] = refl
terms_of_row (t ∷ ts) = ap (λ z. t ∷ z) (terms_of_row ts)

pub formed_node : (h : Head) (ts : List Term) (ty : Ty) → HasArguments h ts → HeadIsFormed h → AllByRecursion IsFormed ts → IsFormed (node h ts ty)
formed_node h ts ty x y z = subst IsFormed (term_is_node h ts ty) (subst (HasArguments h) (sym (terms_of_row ts)) x, y, formed_row ts z)

two_raised : {n : Count} (ts : Row_of-Term n) (k l : ℕ) → AreTwo (terms_in ts) → AreTwo (seen_by k l (map term_raised (terms_in ts)))
two_raised end_of-Term k l a = absurd a
two_raised (more_of-Term t end_of-Term) k l a = absurd a
two_raised (more_of-Term t (more_of-Term u end_of-Term)) k l a = tt
two_raised (more_of-Term t (more_of-Term u (more_of-Term v ts))) k l a = absurd a

arguments_raised : {n : Count} (h : Head) (ts : Row_of-Term n) (k l : ℕ) → HeadIsPlain h → HasArguments h (terms_in ts) →
    HasArguments (raised_at h k) (seen_by k l (map term_raised (terms_in ts)))
arguments_raised head.Mu ts k l x a = two_raised ts k l a
arguments_raised head.Map ts k l x a = two_raised ts k l a
arguments_raised head.Restrict ts k l x a = two_raised ts k l a
arguments_raised (head.Hoare c) ts k l x a = absurd x
arguments_raised (head.Phoare c r) ts k l x a = absurd x
arguments_raised (head.Equiv c d) ts k l x a = absurd x
arguments_raised _ ts k l x a = tt

head_raised_formed : (h : Head) (k : ℕ) → HeadIsPlain h → HeadIsFormed (raised_at h k)
head_raised_formed (head.Hoare c) k x = absurd x
head_raised_formed (head.Phoare c r) k x = absurd x
head_raised_formed (head.Equiv c d) k x = absurd x
head_raised_formed _ k x = tt

mutual
  pub formed_raised : (t : Term) (k : ℕ) → IsPlain t → IsFormed t → IsFormed (term_raised t k)
  formed_raised (Term' p (more_of-Head h end_of-Head) n ts ty) k x f =
      subst IsFormed (sym (term_raised_is h n ts ty k)) (formed_node (raised_at h k) _ ty
      (arguments_raised h ts k (last_from (raised_at h k) k) x.0 f.0) (head_raised_formed h k x.0) (formed_all ts k (last_from (raised_at h k) k) x.1 f.2))

  formed_all : {n : Count} (ts : Row_of-Term n) (k l : ℕ) → AllPlain ts → AllFormed ts → AllByRecursion IsFormed (seen_by k l (map term_raised (terms_in ts)))
  formed_all end_of-Term k l x f = tt
  formed_all (more_of-Term t ts) k l x f = (formed_raised t (where_last (map term_raised (terms_in ts)) k l) x.0 f.0, formed_all ts k l x.1 f.1)

pub put_raised : (g : Setting) (t : Term) → IsPut g t → IsPut g (term_raised t 0)
put_raised g t p = record {
  formed = formed_raised t 0 p.plain p.formed;
  plain = plain_raised t 0 p.plain;
  denominator = denominator_raised g t 0 ∙ p.denominator;
}
