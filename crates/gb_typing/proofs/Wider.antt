-- Plain terms in wider contexts.
use Rattle.std.proofs.Common.{◌≡◌, ℕ, zero, suc, List, [], ◌∷◌, Some, None}
use Rattle.gb_core.specs.declared.ty.Ty.{Ty}
use Rattle.gb_core.specs.declared.var.Var.TheVariants as var
use Rattle.gb_terms.specs.declared.decl.TypedName.{TypedName}
use Rattle.gb_terms.specs.declared.op.Side.TheVariants as side
use Rattle.gb_terms.specs.declared.op.Read.{Read}
use Rattle.gb_terms.specs.declared.op.Read.TheVariants.{Logical, Program}
use Rattle.gb_terms.specs.declared.term.Term.{Term, Term', Row_of-Term, end_of-Term, more_of-Term, end_of-Head, more_of-Head}
use Rattle.gb_terms.specs.declared.term.Head.{Head}
use Rattle.gb_terms.specs.declared.term.Head.TheVariants as head
use Rattle.gb_meaning.specs.Names.{Name}
use Rattle.gb_meaning.specs.Operators.{outcome_type}
use Rattle.gb_laws.specs.Plain.{HeadIsPlain, IsPlain, AllPlain}
use Rattle.gb_laws.specs.Typing.{OperatorType, Binder, types_of, IsBoundAt, IsMemory, IsHead}
use Rattle.gb_laws.specs.Typing.Binder.{value, index, program}
use Rattle.gb_typing.specs.Context.{Frame, Context, erased, within}
use Rattle.gb_typing.specs.Typing.{IsNamed, first, middle, last, IsTyped, AreTyped}
use Rattle.gb_typing.specs.Changes.{binder, IsLeaf}
use mathlib.Core.Former.{Count}

-- what plain terms name in c is there in d
pub record Wider (c d : Context) : Type 0 where
  pub operator : (n : Name) (o : OperatorType) → c.operator n ≡ Some o → d.operator n ≡ Some o
  pub bounds : (i : ℕ) (ty : Ty) → IsBoundAt (binder c i) ty → IsBoundAt (binder d i) ty
  pub reads : (r : Read) (ty : Ty) → IsLeaf c (head.Read r) ty → IsLeaf d (head.Read r) ty

module _ (c d : Context) (l : Wider c d) (b : Binder) (f : Frame) (no : IsMemory b → ⊥) where
  bounds_under : (i : ℕ) (ty : Ty) → IsBoundAt (binder (within c b f) i) ty → IsBoundAt (binder (within d b f) i) ty
  bounds_under zero ty w = w
  bounds_under (suc i) ty w = l.bounds i ty w

  reads_under : (r : Read) (ty : Ty) → IsLeaf (within c b f) (head.Read r) ty → IsLeaf (within d b f) (head.Read r) ty
  reads_under (Logical i) ty w = l.reads (Logical i) ty w
  reads_under (Program (var.Local x) side.Own) ty w = l.reads (Program (var.Local x) side.Own) ty w
  reads_under (Program (var.Local x) side.Left) ty w = l.reads (Program (var.Local x) side.Left) ty w
  reads_under (Program (var.Local x) side.Right) ty w = l.reads (Program (var.Local x) side.Right) ty w
  reads_under (Program (var.Local x) (side.Memory i)) ty w = l.reads (Program (var.Local x) (side.Memory i)) ty w
  reads_under (Program (var.Local x) (side.Bound zero)) ty w = absurd (no w.0.0)
  reads_under (Program (var.Local x) (side.Bound (suc i))) ty w = l.reads (Program (var.Local x) (side.Bound i)) ty w
  reads_under (Program (var.Global m x) side.Own) ty w = l.reads (Program (var.Global m x) side.Own) ty w
  reads_under (Program (var.Global m x) side.Left) ty w = l.reads (Program (var.Global m x) side.Left) ty w
  reads_under (Program (var.Global m x) side.Right) ty w = l.reads (Program (var.Global m x) side.Right) ty w
  reads_under (Program (var.Global m x) (side.Memory i)) ty w = l.reads (Program (var.Global m x) (side.Memory i)) ty w
  reads_under (Program (var.Global m x) (side.Bound zero)) ty w = absurd (no w.0.0)
  reads_under (Program (var.Global m x) (side.Bound (suc i))) ty w = l.reads (Program (var.Global m x) (side.Bound i)) ty w
  reads_under (Program (var.Glob a) side.Own) ty w = l.reads (Program (var.Glob a) side.Own) ty w
  reads_under (Program (var.Glob a) side.Left) ty w = l.reads (Program (var.Glob a) side.Left) ty w
  reads_under (Program (var.Glob a) side.Right) ty w = l.reads (Program (var.Glob a) side.Right) ty w
  reads_under (Program (var.Glob a) (side.Memory i)) ty w = l.reads (Program (var.Glob a) (side.Memory i)) ty w
  reads_under (Program (var.Glob a) (side.Bound zero)) ty w = absurd (no w.0.0)
  reads_under (Program (var.Glob a) (side.Bound (suc i))) ty w = l.reads (Program (var.Glob a) (side.Bound i)) ty w

  wider_under : Wider (within c b f) (within d b f)
  wider_under = record { operator = l.operator; bounds = bounds_under; reads = reads_under }

module _ (c d : Context) (l : Wider c d) where
  wider_first : (h : Head) → HeadIsPlain h → Wider (first c h) (first d h)
  wider_first (head.Hoare s) x = absurd x
  wider_first (head.Phoare s r) x = absurd x
  wider_first (head.Equiv s u) x = absurd x
  wider_first _ x = l

  wider_middle : (h : Head) → HeadIsPlain h → Wider (middle c h) (middle d h)
  wider_middle (head.Hoare s) x = absurd x
  wider_middle (head.Phoare s r) x = absurd x
  wider_middle (head.Equiv s u) x = absurd x
  wider_middle _ x = l

  wider_last : (ls : List TypedName) (h : Head) (us : List Ty) (ty : Ty) → HeadIsPlain h → IsHead (erased c) h us ty → Wider (last c ls h us) (last d ls h us)
  wider_last ls (head.All u) us ty x w = wider_under c d l (value u) None (λ n. n)
  wider_last ls (head.Some u) us ty x w = wider_under c d l (value u) None (λ n. n)
  wider_last ls head.AllMemory us ty x w = absurd x
  wider_last ls head.SomeMemory us ty x w = absurd x
  wider_last ls (head.AllModule b) us ty x w = wider_under c d l program None (λ n. n)
  wider_last ls head.Mu [] ty x w = absurd w
  wider_last ls head.Mu (u ∷ us) ty x w = wider_under c d l (value (outcome_type u)) None (λ n. n)
  wider_last ls (head.Sum q) us ty x w = wider_under c d l (index q) None (λ n. n)
  wider_last ls head.Map [] ty x w = absurd w
  wider_last ls head.Map (u ∷ us) ty x w = wider_under c d l (value (outcome_type u)) None (λ n. n)
  wider_last ls head.Restrict [] ty x w = absurd w
  wider_last ls head.Restrict (u ∷ us) ty x w = wider_under c d l (value (outcome_type u)) None (λ n. n)
  wider_last ls (head.Pr p r) us ty x w = absurd x
  wider_last ls (head.Hoare s) us ty x w = absurd x
  wider_last ls (head.Phoare s r) us ty x w = absurd x
  wider_last ls (head.Equiv s u) us ty x w = absurd x
  wider_last ls _ us ty x w = l

  wider_head : (h : Head) (us : List Ty) (ty : Ty) → HeadIsPlain h → IsHead (erased c) h us ty → IsNamed c h ty → IsHead (erased d) h us ty × IsNamed d h ty
  wider_head (head.Read r) [] ty x w s = l.reads r ty (w, s)
  wider_head (head.Read r) (u ∷ us) ty x w s = absurd w
  wider_head (head.Bound i) [] ty x w s = (l.bounds i ty w, tt)
  wider_head (head.Bound i) (u ∷ us) ty x w s = absurd w
  wider_head (head.User n) us ty x w s = (l.operator n _ w, tt)
  wider_head (head.AllModule b) us ty x w s = absurd s
  wider_head (head.Glob b r) us ty x w s = absurd s
  wider_head (head.Pr p r) us ty x w s = absurd x
  wider_head (head.Hoare b) us ty x w s = absurd x
  wider_head (head.Phoare b r) us ty x w s = absurd x
  wider_head (head.Equiv a b) us ty x w s = absurd x
  wider_head head.AllMemory us ty x w s = absurd x
  wider_head head.SomeMemory us ty x w s = absurd x
  wider_head h us ty x w s = (w, s)

mutual
  pub wider : (c d : Context) → Wider c d → (t : Term) → IsPlain t → IsTyped c t → IsTyped d t
  wider c d l (Term' p (more_of-Head h end_of-Head) n ts ty) x w =
      let k = wider_head c d l h (types_of ts) ty x.0 w.0 w.1 in (
        k.0,
        k.1,
        w.2,
        all_wider (first c h) (middle c h) (last c w.2 h (types_of ts)) (first d h) (middle d h) (last d w.2 h (types_of ts))
            (wider_first c d l h x.0) (wider_middle c d l h x.0) (wider_last c d l w.2 h (types_of ts) ty x.0 w.0) ts x.1 w.3,
      )

  all_wider : {n : Count} (c e g d f h : Context) → Wider c d → Wider e f → Wider g h → (ts : Row_of-Term n) → AllPlain ts → AreTyped c e g ts → AreTyped d f h ts
  all_wider c e g d f h l m r end_of-Term x w = tt
  all_wider c e g d f h l m r (more_of-Term t end_of-Term) x w = wider g h r t x.0 w
  all_wider c e g d f h l m r (more_of-Term t (more_of-Term u ts)) x w = (wider c d l t x.0 w.0, all_wider e e g f f h m m r (more_of-Term u ts) x.1 w.1)
