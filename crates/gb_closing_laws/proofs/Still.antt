-- A term that is typed outside of all binders is what it is under a binder more.
use Rattle.std.proofs.Common.{◌≡◌, ℕ, zero, suc, ◌+◌, List, [], ◌∷◌, map, refl, ap, sym, ◌∙◌}
use Rattle.gb_core.specs.declared.ty.Ty.{Ty}
use Rattle.gb_core.specs.declared.var.Var.TheVariants as var
use Rattle.gb_terms.specs.declared.decl.TypedName.{TypedName}
use Rattle.gb_terms.specs.declared.module.ProcRef.{ProcRef}
use Rattle.gb_terms.specs.declared.op.Side.{Side}
use Rattle.gb_terms.specs.declared.op.Side.TheVariants as side
use Rattle.gb_terms.specs.declared.op.Read.TheVariants.{Logical, Program}
use Rattle.gb_terms.specs.declared.term.Term.{Term, Term', Row_of-Term, end_of-Term, more_of-Term, end_of-Head, more_of-Head}
use Rattle.gb_terms.specs.declared.term.Head.{Head}
use Rattle.gb_terms.specs.declared.term.Head.TheOpen as layer
use Rattle.gb_terms.specs.declared.term.Head.TheFolds.{fold-roll-Subject}
use Rattle.gb_terms.specs.declared.term.Head.TheVariants as head
use Rattle.gb_terms.specs.declared.term.Head.TheVariants.{Proc, Body'}
use Rattle.gb_terms.specs.declared.term.Instr.{Instr}
use Rattle.gb_terms.specs.declared.term.Subject.{Subject}
use Rattle.gb_terms.specs.declared.term.Cmd.{Cmd}
use Rattle.gb_terms.specs.Make.{node}
use Rattle.gb_walk.specs.Layers.{seen_by}
use Rattle.gb_walk.specs.Raise.{at_head, at_instr, at_subject, at_cmd, at_term, index_raised, side_raised, last_from, subject_raised, term_raised}
use Rattle.gb_meaning.specs.Commands.{terms_in}
use Rattle.gb_meaning.proofs.Nodes.{each_is_node}
use Rattle.gb_laws.proofs.Trees.{out_is, raised_at, term_raised_is}
use Rattle.gb_laws.proofs.Raising.{index_zero, index_suc}
use Rattle.gb_laws.specs.Typing.{Binder, types_of, IsBoundAt, IsMemory, IsSide, IsHead}
use Rattle.gb_typing.specs.Context.{Frame, Context, erased, within}
use Rattle.gb_typing.specs.Typing.{IsNamed, first, middle, last, IsTyped, AreTyped}
use Rattle.gb_typing.specs.Changes.{binder}
use Rattle.gb_typing.specs.Rules.{outermost}
use mathlib.Core.Former.{Count}

-- all that is bound in the context stands below place k
pub record IsBelow (k : ℕ) (c : Context) : Type 0 where
  pub bounds : (i : ℕ) (ty : Ty) → IsBoundAt (binder c i) ty → index_raised k i ≡ i
  pub memories : (i : ℕ) → IsMemory (binder c i) → index_raised k i ≡ i

below_outermost : (c : Context) → IsBelow 0 (outermost c)
below_outermost c = record { bounds = λ i ty w. absurd w; memories = λ i w. absurd w }

module _ (k : ℕ) (c : Context) (w : IsBelow k c) where
  below_under : (b : Binder) (f : Frame) → IsBelow (k + 1) (within c b f)
  below_under b f = record { bounds = bounds; memories = memories }
    where
      bounds : (i : ℕ) (ty : Ty) → IsBoundAt (binder (within c b f) i) ty → index_raised (k + 1) i ≡ i
      bounds zero ty x = index_zero k
      bounds (suc i) ty x = index_suc k i ∙ ap suc (w.bounds i ty x)

      memories : (i : ℕ) → IsMemory (binder (within c b f) i) → index_raised (k + 1) i ≡ i
      memories zero x = index_zero k
      memories (suc i) x = index_suc k i ∙ ap suc (w.memories i x)

  below_first : (h : Head) → IsBelow k (first c h)
  below_first (head.Hoare s) = record { bounds = w.bounds; memories = w.memories }
  below_first (head.Phoare s r) = record { bounds = w.bounds; memories = w.memories }
  below_first (head.Equiv s u) = record { bounds = w.bounds; memories = w.memories }
  below_first _ = w

  below_middle : (h : Head) → IsBelow k (middle c h)
  below_middle (head.Hoare s) = record { bounds = w.bounds; memories = w.memories }
  below_middle (head.Phoare s r) = record { bounds = w.bounds; memories = w.memories }
  below_middle (head.Equiv s u) = record { bounds = w.bounds; memories = w.memories }
  below_middle _ = w

  below_last : (ls : List TypedName) (h : Head) (us : List Ty) (ty : Ty) → IsHead (erased c) h us ty → IsBelow (last_from h k) (last c ls h us)
  below_last ls (head.All u) us ty x = below_under _ _
  below_last ls (head.Some u) us ty x = below_under _ _
  below_last ls head.AllMemory us ty x = below_under _ _
  below_last ls head.SomeMemory us ty x = below_under _ _
  below_last ls (head.AllModule b) us ty x = below_under _ _
  below_last ls (head.Sum q) us ty x = below_under _ _
  below_last ls head.Mu [] ty x = absurd x
  below_last ls head.Mu (u ∷ us) ty x = below_under _ _
  below_last ls head.Map [] ty x = absurd x
  below_last ls head.Map (u ∷ us) ty x = below_under _ _
  below_last ls head.Restrict [] ty x = absurd x
  below_last ls head.Restrict (u ∷ us) ty x = below_under _ _
  below_last ls (head.Pr p r) us ty x = record { bounds = w.bounds; memories = w.memories }
  below_last ls (head.Hoare s) us ty x = record { bounds = w.bounds; memories = w.memories }
  below_last ls (head.Phoare s r) us ty x = record { bounds = w.bounds; memories = w.memories }
  below_last ls (head.Equiv s u) us ty x = record { bounds = w.bounds; memories = w.memories }
  below_last ls _ us ty x = w

  side_still : (r : Side) → IsSide (erased c) r → side_raised k r ≡ r
  side_still (side.Bound i) x = ap (λ (j : ℕ). side.Bound j) (w.memories i x)
  side_still _ x = refl

procedure_still : (p : ProcRef) (k : ℕ) → subject_raised (Proc p) k ≡ Proc p
unfolding Rattle.gb_terms.specs.declared.term.Head.TheViews.roll-Subject denote.Hole.Carrier.roll
procedure_still p k =
    ap (λ f. f k) (fold-roll-Subject (ℕ → Head) (ℕ → Instr) (ℕ → Subject) (ℕ → Cmd) (ℕ → Term) at_head at_instr at_subject at_cmd at_term (layer.Proc p))

head_still : (k : ℕ) (c : Context) → IsBelow k c → (h : Head) (us : List Ty) (ty : Ty) → IsHead (erased c) h us ty → IsNamed c h ty → raised_at h k ≡ h
head_still k c w (head.Read (Logical i)) us ty x s = refl
head_still k c w (head.Read (Program (var.Global m y) r)) [] ty x s = ap (λ o. head.Read (Program (var.Global m y) o)) (side_still k c w r x.0)
head_still k c w (head.Read (Program (var.Local y) r)) [] ty x s = ap (λ o. head.Read (Program (var.Local y) o)) (side_still k c w r x.0)
head_still k c w (head.Read (Program (var.Glob a) r)) [] ty x s = ap (λ o. head.Read (Program (var.Glob a) o)) (side_still k c w r x.0)
head_still k c w (head.Read (Program y r)) (u ∷ us) ty x s = absurd x
head_still k c w (head.Bound i) [] ty x s = ap (λ (j : ℕ). head.Bound j) (w.bounds i ty x)
head_still k c w (head.Bound i) (u ∷ us) ty x s = absurd x
head_still k c w (head.Glob m r) us ty x s = absurd s
head_still k c w (head.Pr p r) us ty x s = ap (λ o. head.Pr p o) (side_still k c w r x.1)
head_still k c w (head.Hoare (Proc p)) us ty x s = ap head.Hoare (procedure_still p k)
head_still k c w (head.Hoare (Body' n is)) us ty x s = absurd s
head_still k c w (head.Phoare (Proc p) r) us ty x s = ap (λ b. head.Phoare b r) (procedure_still p k)
head_still k c w (head.Phoare (Body' n is) r) us ty x s = absurd s
head_still k c w (head.Equiv (Proc p) (Proc q)) us ty x s = λ i. head.Equiv (procedure_still p k i) (procedure_still q k i)
head_still k c w (head.Equiv (Body' n is) b) us ty x s = absurd s.0
head_still k c w (head.Equiv (Proc p) (Body' n is)) us ty x s = absurd s.1
head_still k c w _ us ty x s = refl

mutual
  raised_still : (k : ℕ) (c : Context) → IsBelow k c → (t : Term) → IsTyped c t → term_raised t k ≡ t
  raised_still k c b (Term' tt (more_of-Head h end_of-Head) n ts ty) w =
      term_raised_is h n ts ty k
      ∙ ap (λ o. node o (seen_by k (last_from o k) (map term_raised (terms_in ts))) ty) (head_still k c b h (types_of ts) ty w.0 w.1)
      ∙ ap (λ z. node h z ty)
      (all_still k (last_from h k) (first c h) (middle c h) (last c w.2 h (types_of ts)) (below_first k c b h) (below_middle k c b h) (below_last k c b w.2 h (types_of ts) ty w.0) ts w.3)
      ∙ sym (each_is_node (Term' tt (more_of-Head h end_of-Head) n ts ty) ∙ ap (λ x. node x.head x.args x.ty) (out_is h n ts ty))

  all_still : {n : Count} (k l : ℕ) (a b d : Context) → IsBelow k a → IsBelow k b → IsBelow l d → (ts : Row_of-Term n) → AreTyped a b d ts → seen_by k l (map term_raised (terms_in ts)) ≡ terms_in ts
  all_still k l a b d x y z end_of-Term w = refl
  all_still k l a b d x y z (more_of-Term t end_of-Term) w = ap (λ o. o ∷ []) (raised_still l d z t w)
  all_still k l a b d x y z (more_of-Term t (more_of-Term u ts)) w =
      let one = raised_still k a x t w.0 in
      let rest = all_still k l b b d y y z (more_of-Term u ts) w.1 in
      λ i. one i ∷ rest i

-- outside of all binders
pub term_still : (c : Context) (t : Term) → IsTyped (outermost c) t → term_raised t 0 ≡ t
term_still c t w = raised_still 0 (outermost c) (below_outermost c) t w
