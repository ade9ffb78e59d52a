-- Plain terms under one binder more are well typed.
use Rattle.std.proofs.Common.{◌≡◌, ℕ, zero, suc, ◌+◌, List, [], ◌∷◌, map, None, Some, refl, sym, subst}
use Rattle.gb_core.specs.declared.ty.Ty.{Ty}
use Rattle.gb_core.specs.declared.var.Var.TheVariants as var
use Rattle.gb_terms.specs.declared.decl.TypedName.{TypedName}
use Rattle.gb_terms.specs.declared.op.Side.TheVariants as side
use Rattle.gb_terms.specs.declared.op.Read.{Read}
use Rattle.gb_terms.specs.declared.op.Read.TheVariants.{Logical, Program}
use Rattle.gb_terms.specs.declared.term.Term.{Term, Term', Row_of-Term, end_of-Term, more_of-Term, end_of-Head, more_of-Head}
use Rattle.gb_terms.specs.declared.term.Head.{Head}
use Rattle.gb_terms.specs.declared.term.Head.TheVariants as head
use Rattle.gb_terms.specs.Make.{node}
use Rattle.gb_walk.specs.Layers.{seen_by}
use Rattle.gb_walk.specs.Raise.{index_raised, read_raised, last_from, term_raised}
use Rattle.gb_meaning.specs.Names.{Name}
use Rattle.gb_meaning.specs.Commands.{terms_in}
use Rattle.gb_meaning.specs.Operators.{outcome_type}
use Rattle.gb_meaning.specs.Written.{type_of}
use Rattle.gb_laws.specs.Plain.{HeadIsPlain, IsPlain, AllPlain}
use Rattle.gb_laws.proofs.Trees.{raised_at, term_raised_is}
use Rattle.gb_laws.proofs.Raising.{index_zero, index_suc}
use Rattle.gb_laws.proofs.Lookups.{index_next}
use Rattle.gb_laws.specs.Typing.{OperatorType, Binder, types_of, IsBoundAt, IsMemory, IsHead}
use Rattle.gb_laws.specs.Typing.Binder.{value, index, program}
use Rattle.gb_typing.specs.Context.{Frame, Context, erased, within}
use Rattle.gb_typing.specs.Typing.{IsNamed, first, middle, last, IsTyped, AreTyped}
use Rattle.gb_typing.specs.Changes.{binder, IsLeaf, Made}
use Rattle.gb_typing.proofs.Made.{EachMade, made_node}
use mathlib.Core.Former.{Count}

-- d is c with one binder more at place k, as far as plain terms go
pub record Lifts (k : ℕ) (c d : Context) : Type 0 where
  pub operator : (n : Name) (o : OperatorType) → c.operator n ≡ Some o → d.operator n ≡ Some o
  pub bounds : (i : ℕ) (ty : Ty) → IsBoundAt (binder c i) ty → IsBoundAt (binder d (index_raised k i)) ty
  pub reads : (r : Read) (ty : Ty) → IsLeaf c (head.Read r) ty → IsLeaf d (head.Read (read_raised k r)) ty

module _ (c : Context) (b : Binder) (f : Frame) where
  reads_zero : (r : Read) (ty : Ty) → IsLeaf c (head.Read r) ty → IsLeaf (within c b f) (head.Read (read_raised 0 r)) ty
  reads_zero (Logical i) ty w = w
  reads_zero (Program (var.Local x) side.Own) ty w = w
  reads_zero (Program (var.Local x) side.Left) ty w = w
  reads_zero (Program (var.Local x) side.Right) ty w = w
  reads_zero (Program (var.Local x) (side.Memory i)) ty w = w
  reads_zero (Program (var.Local x) (side.Bound i)) ty w = subst (λ j. IsLeaf (within c b f) (head.Read (Program (var.Local x) (side.Bound j))) ty) (sym (index_next i)) w
  reads_zero (Program (var.Global m x) side.Own) ty w = w
  reads_zero (Program (var.Global m x) side.Left) ty w = w
  reads_zero (Program (var.Global m x) side.Right) ty w = w
  reads_zero (Program (var.Global m x) (side.Memory i)) ty w = w
  reads_zero (Program (var.Global m x) (side.Bound i)) ty w = subst (λ j. IsLeaf (within c b f) (head.Read (Program (var.Global m x) (side.Bound j))) ty) (sym (index_next i)) w
  reads_zero (Program (var.Glob a) side.Own) ty w = w
  reads_zero (Program (var.Glob a) side.Left) ty w = w
  reads_zero (Program (var.Glob a) side.Right) ty w = w
  reads_zero (Program (var.Glob a) (side.Memory i)) ty w = w
  reads_zero (Program (var.Glob a) (side.Bound i)) ty w = subst (λ j. IsLeaf (within c b f) (head.Read (Program (var.Glob a) (side.Bound j))) ty) (sym (index_next i)) w

  pub lifts_zero : Lifts 0 c (within c b f)
  lifts_zero = record {
    operator = λ n o e. e;
    bounds = λ i ty w. subst (λ j. IsBoundAt (binder (within c b f) j) ty) (sym (index_next i)) w;
    reads = reads_zero;
  }

module _ (k : ℕ) (c d : Context) (l : Lifts k c d) (b : Binder) (f : Frame) (no : IsMemory b → ⊥) where
  bounds_under : (i : ℕ) (ty : Ty) → IsBoundAt (binder (within c b f) i) ty → IsBoundAt (binder (within d b f) (index_raised (k + 1) i)) ty
  bounds_under zero ty w = subst (λ j. IsBoundAt (binder (within d b f) j) ty) (sym (index_zero k)) w
  bounds_under (suc i) ty w = subst (λ j. IsBoundAt (binder (within d b f) j) ty) (sym (index_suc k i)) (l.bounds i ty w)

  reads_under : (r : Read) (ty : Ty) → IsLeaf (within c b f) (head.Read r) ty → IsLeaf (within d b f) (head.Read (read_raised (k + 1) r)) ty
  reads_under (Logical i) ty w = l.reads (Logical i) ty w
  reads_under (Program (var.Local x) side.Own) ty w = l.reads (Program (var.Local x) side.Own) ty w
  reads_under (Program (var.Local x) side.Left) ty w = l.reads (Program (var.Local x) side.Left) ty w
  reads_under (Program (var.Local x) side.Right) ty w = l.reads (Program (var.Local x) side.Right) ty w
  reads_under (Program (var.Local x) (side.Memory i)) ty w = l.reads (Program (var.Local x) (side.Memory i)) ty w
  reads_under (Program (var.Local x) (side.Bound zero)) ty w = absurd (no w.0.0)
  reads_under (Program (var.Local x) (side.Bound (suc i))) ty w =
      subst (λ j. IsLeaf (within d b f) (head.Read (Program (var.Local x) (side.Bound j))) ty) (sym (index_suc k i)) (l.reads (Program (var.Local x) (side.Bound i)) ty w)
  reads_under (Program (var.Global m x) side.Own) ty w = l.reads (Program (var.Global m x) side.Own) ty w
  reads_under (Program (var.Global m x) side.Left) ty w = l.reads (Program (var.Global m x) side.Left) ty w
  reads_under (Program (var.Global m x) side.Right) ty w = l.reads (Program (var.Global m x) side.Right) ty w
  reads_under (Program (var.Global m x) (side.Memory i)) ty w = l.reads (Program (var.Global m x) (side.Memory i)) ty w
  reads_under (Program (var.Global m x) (side.Bound zero)) ty w = absurd (no w.0.0)
  reads_under (Program (var.Global m x) (side.Bound (suc i))) ty w =
      subst (λ j. IsLeaf (within d b f) (head.Read (Program (var.Global m x) (side.Bound j))) ty) (sym (index_suc k i)) (l.reads (Program (var.Global m x) (side.Bound i)) ty w)
  reads_under (Program (var.Glob a) side.Own) ty w = l.reads (Program (var.Glob a) side.Own) ty w
  reads_under (Program (var.Glob a) side.Left) ty w = l.reads (Program (var.Glob a) side.Left) ty w
  reads_under (Program (var.Glob a) side.Right) ty w = l.reads (Program (var.Glob a) side.Right) ty w
  reads_under (Program (var.Glob a) (side.Memory i)) ty w = l.reads (Program (var.Glob a) (side.Memory i)) ty w
  reads_under (Program (var.Glob a) (side.Bound zero)) ty w = absurd (no w.0.0)
  reads_under (Program (var.Glob a) (side.Bound (suc i))) ty w =
      subst (λ j. IsLeaf (within d b f) (head.Read (Program (var.Glob a) (side.Bound j))) ty) (sym (index_suc k i)) (l.reads (Program (var.Glob a) (side.Bound i)) ty w)

  lifts_under : Lifts (k + 1) (within c b f) (within d b f)
  lifts_under = record { operator = l.operator; bounds = bounds_under; reads = reads_under }

module _ (k : ℕ) (c d : Context) (l : Lifts k c d) where
  lifts_first : (h : Head) → HeadIsPlain h → Lifts k (first c h) (first d h)
  lifts_first (head.Hoare s) x = absurd x
  lifts_first (head.Phoare s r) x = absurd x
  lifts_first (head.Equiv s u) x = absurd x
  lifts_first _ x = l

  lifts_middle : (h : Head) → HeadIsPlain h → Lifts k (middle c h) (middle d h)
  lifts_middle (head.Hoare s) x = absurd x
  lifts_middle (head.Phoare s r) x = absurd x
  lifts_middle (head.Equiv s u) x = absurd x
  lifts_middle _ x = l

  lifts_last : (ls : List TypedName) (h : Head) (us : List Ty) (ty : Ty) → HeadIsPlain h → IsHead (erased c) h us ty → Lifts (last_from h k) (last c ls h us) (last d ls h us)
  lifts_last ls (head.All u) us ty x w = lifts_under k c d l (value u) None (λ n. n)
  lifts_last ls (head.Some u) us ty x w = lifts_under k c d l (value u) None (λ n. n)
  lifts_last ls head.AllMemory us ty x w = absurd x
  lifts_last ls head.SomeMemory us ty x w = absurd x
  lifts_last ls (head.AllModule b) us ty x w = lifts_under k c d l program None (λ n. n)
  lifts_last ls head.Mu [] ty x w = absurd w
  lifts_last ls head.Mu (u ∷ us) ty x w = lifts_under k c d l (value (outcome_type u)) None (λ n. n)
  lifts_last ls (head.Sum q) us ty x w = lifts_under k c d l (index q) None (λ n. n)
  lifts_last ls head.Map [] ty x w = absurd w
  lifts_last ls head.Map (u ∷ us) ty x w = lifts_under k c d l (value (outcome_type u)) None (λ n. n)
  lifts_last ls head.Restrict [] ty x w = absurd w
  lifts_last ls head.Restrict (u ∷ us) ty x w = lifts_under k c d l (value (outcome_type u)) None (λ n. n)
  lifts_last ls (head.Pr p r) us ty x w = absurd x
  lifts_last ls (head.Hoare s) us ty x w = absurd x
  lifts_last ls (head.Phoare s r) us ty x w = absurd x
  lifts_last ls (head.Equiv s u) us ty x w = absurd x
  lifts_last ls _ us ty x w = l

  -- the node of a raised head, from what its arguments have become
  raised_made : (h : Head) (us : List Ty) (ts : List Term) (ty : Ty) → HeadIsPlain h → IsHead (erased c) h us ty → IsNamed c h ty → (ls : List TypedName) →
      EachMade (first d h) (middle d h) (last d ls h us) us ts → Made d ty (node (raised_at h k) ts ty)
  raised_made (head.Read r) [] ts ty x w s ls m = let v = l.reads r ty (w, s) in made_node d (head.Read (read_raised k r)) [] ts ty v.0 v.1 ls m
  raised_made (head.Read r) (u ∷ us) ts ty x w s ls m = absurd w
  raised_made (head.Bound i) [] ts ty x w s ls m = made_node d (head.Bound (index_raised k i)) [] ts ty (l.bounds i ty w) tt ls m
  raised_made (head.Bound i) (u ∷ us) ts ty x w s ls m = absurd w
  raised_made (head.User n) us ts ty x w s ls m = made_node d (head.User n) us ts ty (l.operator n _ w) tt ls m
  raised_made (head.AllModule b) us ts ty x w s ls m = absurd s
  raised_made (head.Glob b r) us ts ty x w s ls m = absurd s
  raised_made (head.Pr p r) us ts ty x w s ls m = absurd x
  raised_made (head.Hoare b) us ts ty x w s ls m = absurd x
  raised_made (head.Phoare b r) us ts ty x w s ls m = absurd x
  raised_made (head.Equiv a b) us ts ty x w s ls m = absurd x
  raised_made head.AllMemory us ts ty x w s ls m = absurd x
  raised_made head.SomeMemory us ts ty x w s ls m = absurd x
  raised_made h us ts ty x w s ls m = made_node d h us ts ty w s ls m

same_last : (k : ℕ) (h : Head) → HeadIsPlain h → last_from (raised_at h k) k ≡ last_from h k
same_last k (head.Pr p r) x = absurd x
same_last k (head.Hoare b) x = absurd x
same_last k (head.Phoare b r) x = absurd x
same_last k (head.Equiv a b) x = absurd x
same_last k _ x = refl

mutual
  pub raised : (k : ℕ) (c d : Context) → Lifts k c d → (t : Term) → IsPlain t → IsTyped c t → Made d (type_of t) (term_raised t k)
  raised k c d l (Term' p (more_of-Head h end_of-Head) n ts ty) x w =
      subst (Made d ty) (sym (term_raised_is h n ts ty k))
      (raised_made k c d l h (types_of ts) _ ty x.0 w.0 w.1 w.2
      (subst (λ z. EachMade (first d h) (middle d h) (last d w.2 h (types_of ts)) (types_of ts) (seen_by k z (map term_raised (terms_in ts)))) (sym (same_last k h x.0))
      (all_raised k (last_from h k) (first c h) (middle c h) (last c w.2 h (types_of ts)) (first d h) (middle d h) (last d w.2 h (types_of ts))
      (lifts_first k c d l h x.0) (lifts_middle k c d l h x.0) (lifts_last k c d l w.2 h (types_of ts) ty x.0 w.0) ts x.1 w.3)))

  all_raised : {n : Count} (k o : ℕ) (c e g d f h : Context) → Lifts k c d → Lifts k e f → Lifts o g h → (ts : Row_of-Term n) → AllPlain ts → AreTyped c e g ts →
      EachMade d f h (types_of ts) (seen_by k o (map term_raised (terms_in ts)))
  all_raised k o c e g d f h l m r end_of-Term x w = tt
  all_raised k o c e g d f h l m r (more_of-Term t end_of-Term) x w = raised o g h r t x.0 w
  all_raised k o c e g d f h l m r (more_of-Term t (more_of-Term u ts)) x w = (raised k c d l t x.0 w.0, all_raised k o e e g f f h m m r (more_of-Term u ts) x.1 w.1)
