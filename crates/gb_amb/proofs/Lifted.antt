-- Typed forms under one binder more are typed.
use Rattle.std.proofs.Common.{◌≡◌, ℕ, zero, suc, ◌+◌, ◌<◌, List, [], ◌∷◌, get_or, length, map, None, Some, refl, ap, sym, ◌∙◌, subst}
use Rattle.std.specs.Option.{option_map}
use Rattle.gb_core.specs.declared.ty.Ty.{Ty}
use Rattle.gb_core.specs.declared.var.Var.{Var}
use Rattle.gb_core.specs.declared.var.Var.TheVariants as var
use Rattle.gb_terms.specs.declared.decl.TypedName.{TypedName}
use Rattle.gb_terms.specs.declared.module.ProcRef.{ProcRef}
use Rattle.gb_terms.specs.declared.op.Side.{Side}
use Rattle.gb_terms.specs.declared.op.Side.TheVariants as side
use Rattle.gb_terms.specs.declared.op.Read.TheVariants.{Logical, Program}
use Rattle.gb_terms.specs.declared.term.Term.{Term, Term', Row_of-Term, end_of-Term, more_of-Term, end_of-Head, more_of-Head}
use Rattle.gb_terms.specs.declared.term.Cmd.{Cmd}
use Rattle.gb_terms.specs.declared.term.Instr.{Instr}
use Rattle.gb_terms.specs.declared.term.Subject.{Subject}
use Rattle.gb_terms.specs.declared.term.Head.{Head}
use Rattle.gb_terms.specs.declared.term.Head.TheFolds.{fold-roll-Subject}
use Rattle.gb_terms.specs.declared.term.Head.TheOpen as layer
use Rattle.gb_terms.specs.declared.term.Head.TheVariants as head
use Rattle.gb_terms.specs.declared.term.Head.TheVariants.{Proc, Body'}
use Rattle.gb_terms.specs.Make.{node}
use Rattle.gb_walk.specs.Layers.{seen_by}
use Rattle.gb_walk.specs.Raise.{index_raised, side_raised, head_at, last_from, at_head, at_instr, at_subject, at_cmd, at_term, term_raised, subject_raised}
use Rattle.gb_meaning.specs.Commands.{terms_in}
use Rattle.gb_meaning.specs.Operators.{outcome_type}
use Rattle.gb_meaning.specs.Written.{type_of}
use Rattle.gb_laws.proofs.Trees.{raised_at, term_raised_is}
use Rattle.gb_laws.proofs.Raising.{index_zero, index_suc}
use Rattle.gb_laws.proofs.Lookups.{index_next}
use Rattle.gb_laws.specs.Typing.{Binder, types_of, IsSide, IsMemory, IsBoundAt, IsProbability, IsHead}
use Rattle.gb_laws.specs.Typing.Binder.{value, index, memory, program}
use Rattle.gb_typing.specs.Context.{Frame, Context, procedure, erased, frame_of, with_own, with_sides, within}
use Rattle.gb_typing.specs.Modules.{procedure_type}
use Rattle.gb_typing.specs.Typing.{IsFrame, IsIn, IsPlace, IsThere, IsNamed, before, after, first, middle, last, IsTyped, AreTyped}
use Rattle.gb_typing.specs.Changes.{Made}
use Rattle.gb_typing.proofs.Made.{EachMade, made_node}
use mathlib.Core.Former.{Count}

-- judgments that stand in forms are on procedures, in which nothing is bound outside

pub subject_stays : (p : ProcRef) (k : ℕ) → subject_raised (Proc p) k ≡ Proc p
unfolding Rattle.gb_terms.specs.declared.term.Head.TheViews.roll-Subject denote.Hole.Carrier.roll
subject_stays p k =
    ap (λ f. f k) (fold-roll-Subject (ℕ → Head) (ℕ → Instr) (ℕ → Subject) (ℕ → Cmd) (ℕ → Term) at_head at_instr at_subject at_cmd at_term (layer.Proc p))

pub head_stays : (c : Context) (h : Head) (ty : Ty) (k : ℕ) → IsNamed c h ty → raised_at h k ≡ head_at k h
head_stays c (head.Hoare (Proc p)) ty k w = ap head.Hoare (subject_stays p k)
head_stays c (head.Hoare (Body' n is)) ty k w = absurd w
head_stays c (head.Phoare (Proc p) r) ty k w = ap (λ s. head.Phoare s r) (subject_stays p k)
head_stays c (head.Phoare (Body' n is) r) ty k w = absurd w
head_stays c (head.Equiv (Proc p) (Proc q)) ty k w = λ i. head.Equiv (subject_stays p k i) (subject_stays q k i)
head_stays c (head.Equiv (Body' n is) s) ty k w = absurd w.0
head_stays c (head.Equiv (Proc p) (Body' n is)) ty k w = absurd w.1
head_stays c _ ty k w = refl

-- d is c with one binder more at place k
pub record Lifts (k : ℕ) (c d : Context) : Type 0 where
  pub logical : c.logical ≡ d.logical
  pub global : c.global ≡ d.global
  pub operator : c.operator ≡ d.operator
  pub modules : c.modules ≡ d.modules
  pub has_globals : c.has_globals ≡ d.has_globals
  pub own : c.own ≡ d.own
  pub left : c.left ≡ d.left
  pub right : c.right ≡ d.right
  pub named : c.named ≡ d.named
  pub bounds : (i : ℕ) → get_or d.bound (index_raised k i) program ≡ get_or c.bound i program
  pub frames : (i : ℕ) → get_or d.frames (index_raised k i) None ≡ get_or c.frames i None

pub lifts_zero : (c : Context) (b : Binder) (f : Frame) → Lifts 0 c (within c b f)
lifts_zero c b f = record {
  logical = refl;
  global = refl;
  operator = refl;
  modules = refl;
  has_globals = refl;
  own = refl;
  left = refl;
  right = refl;
  named = refl;
  bounds = λ i. ap (λ n. get_or (b ∷ c.bound) n program) (index_next i);
  frames = λ i. ap (λ n. get_or (f ∷ c.frames) n None) (index_next i);
}

module _ (k : ℕ) (c d : Context) (l : Lifts k c d) where
  lifts_own : (f e : Frame) → f ≡ e → Lifts k (with_own c f) (with_own d e)
  lifts_own f e q = record { logical = l.logical; global = l.global; operator = l.operator; modules = l.modules; has_globals = l.has_globals; own = q; left = l.left; right = l.right; named = l.named; bounds = l.bounds; frames = l.frames }

  lifts_sides : (f e g h : Frame) → f ≡ e → g ≡ h → Lifts k (with_sides c f g) (with_sides d e h)
  lifts_sides f e g h q r = record { logical = l.logical; global = l.global; operator = l.operator; modules = l.modules; has_globals = l.has_globals; own = l.own; left = q; right = r; named = l.named; bounds = l.bounds; frames = l.frames }

  lifts_under : (b : Binder) (f : Frame) → Lifts (k + 1) (within c b f) (within d b f)
  lifts_under b f = record { logical = l.logical; global = l.global; operator = l.operator; modules = l.modules; has_globals = l.has_globals; own = l.own; left = l.left; right = l.right; named = l.named; bounds = bounds_under; frames = frames_under }
    where
      bounds_under : (i : ℕ) → get_or (b ∷ d.bound) (index_raised (k + 1) i) program ≡ get_or (b ∷ c.bound) i program
      bounds_under zero = ap (λ n. get_or (b ∷ d.bound) n program) (index_zero k)
      bounds_under (suc i) = ap (λ n. get_or (b ∷ d.bound) n program) (index_suc k i) ∙ l.bounds i

      frames_under : (i : ℕ) → get_or (f ∷ d.frames) (index_raised (k + 1) i) None ≡ get_or (f ∷ c.frames) i None
      frames_under zero = ap (λ n. get_or (f ∷ d.frames) n None) (index_zero k)
      frames_under (suc i) = ap (λ n. get_or (f ∷ d.frames) n None) (index_suc k i) ∙ l.frames i

  -- heads

  same_before : (p : ProcRef) → before (procedure c p) ≡ before (procedure d p)
  same_before p = ap (λ m. before (procedure_type m p)) l.modules

  same_after : (p : ProcRef) → after (procedure c p) ≡ after (procedure d p)
  same_after p = ap (λ m. after (procedure_type m p)) l.modules

  there : (p : ProcRef) → IsThere (procedure c p) → IsThere (procedure d p)
  there p = subst (λ m. IsThere (procedure_type m p)) l.modules

  frame_raised : (r : Side) → frame_of d (side_raised k r) ≡ frame_of c r
  frame_raised side.Own = sym l.own
  frame_raised side.Left = sym l.left
  frame_raised side.Right = sym l.right
  frame_raised (side.Memory i) = ap (λ fs. get_or fs i None) (sym l.named)
  frame_raised (side.Bound i) = l.frames i

  side_there : (r : Side) → IsSide (erased c) r → IsSide (erased d) (side_raised k r)
  side_there side.Own w = tt
  side_there side.Left w = tt
  side_there side.Right w = tt
  side_there (side.Memory i) w = subst (λ fs. i < length fs) l.named w
  side_there (side.Bound i) w = subst IsMemory (sym (l.bounds i)) w

  place_there : (r : Side) → IsPlace r → IsPlace (side_raised k r)
  place_there (side.Memory i) w = tt
  place_there (side.Bound i) w = tt
  place_there side.Own w = absurd w
  place_there side.Left w = absurd w
  place_there side.Right w = absurd w

  in_there : (f : Frame) (x : Var) (t : Ty) → IsIn c f x t → IsIn d f x t
  in_there f (var.Glob a) t w = (w.0, ap (λ h. h a) (sym l.has_globals) ∙ w.1, w.2)
  in_there f (var.Global m x) t w = (w.0, ap (λ h. h m x) (sym l.global) ∙ w.1)
  in_there f (var.Local x) t w = w

  in_raised : (r : Side) (x : Var) (t : Ty) → IsIn c (frame_of c r) x t → IsIn d (frame_of d (side_raised k r)) x t
  in_raised r x t w = subst (λ f. IsIn d f x t) (sym (frame_raised r)) (in_there (frame_of c r) x t w)

  head_raised : (h : Head) (us : List Ty) (t : Ty) → IsHead (erased c) h us t → IsNamed c h t → IsHead (erased d) (head_at k h) us t × IsNamed d (head_at k h) t
  head_raised (head.Read (Logical i)) [] t w s = ((w.0, ap (λ h. h i) (sym l.logical) ∙ w.1), tt)
  head_raised (head.Read (Logical i)) (u ∷ us) t w s = absurd w
  head_raised (head.Read (Program (var.Global m x) r)) [] t w s = ((side_there r w.0, w.1, ap (λ h. h m x) (sym l.global) ∙ w.2), in_raised r (var.Global m x) t s)
  head_raised (head.Read (Program (var.Local x) r)) [] t w s = ((side_there r w.0, w.1), in_raised r (var.Local x) t s)
  head_raised (head.Read (Program (var.Glob a) r)) [] t w s = ((side_there r w.0, w.1), in_raised r (var.Glob a) t s)
  head_raised (head.Read (Program x r)) (u ∷ us) t w s = absurd w
  head_raised (head.Bound i) [] t w s = (subst (λ b. IsBoundAt b t) (sym (l.bounds i)) w, tt)
  head_raised (head.Bound i) (u ∷ us) t w s = absurd w
  head_raised (head.User n) us t w s = (ap (λ h. h n) (sym l.operator) ∙ w, tt)
  head_raised (head.Pr p r) us t w s = (
    (subst (λ m. IsProbability (option_map (λ u. map (λ x. x.ty) u.params) (procedure_type m p)) us) l.modules w.0, side_there r w.1, w.2),
    (subst IsFrame (sym (frame_raised r)) s.0, place_there r s.1, there p s.2),
  )
  head_raised (head.AllModule b) us t w s = absurd s
  head_raised (head.Glob m r) us t w s = absurd s
  head_raised (head.Hoare (Proc p)) us t w s = (w, there p s)
  head_raised (head.Hoare (Body' n is)) us t w s = absurd s
  head_raised (head.Phoare (Proc p) r) us t w s = (w, there p s)
  head_raised (head.Phoare (Body' n is) r) us t w s = absurd s
  head_raised (head.Equiv (Proc p) (Proc q)) us t w s = (w, (there p s.0, there q s.1))
  head_raised (head.Equiv (Body' n is) q) us t w s = absurd s.0
  head_raised (head.Equiv (Proc p) (Body' n is)) us t w s = absurd s.1
  head_raised h us t w s = (w, s)

  lifts_first : (h : Head) (t : Ty) → IsNamed c h t → Lifts k (first c h) (first d (head_at k h))
  lifts_first (head.Hoare (Proc p)) t s = lifts_own _ _ (same_before p)
  lifts_first (head.Hoare (Body' n is)) t s = absurd s
  lifts_first (head.Phoare (Proc p) r) t s = lifts_own _ _ (same_before p)
  lifts_first (head.Phoare (Body' n is) r) t s = absurd s
  lifts_first (head.Equiv (Proc p) (Proc q)) t s = lifts_sides _ _ _ _ (same_before p) (same_before q)
  lifts_first (head.Equiv (Body' n is) q) t s = absurd s.0
  lifts_first (head.Equiv (Proc p) (Body' n is)) t s = absurd s.1
  lifts_first _ t s = l

  lifts_middle : (h : Head) (t : Ty) → IsNamed c h t → Lifts k (middle c h) (middle d (head_at k h))
  lifts_middle (head.Hoare (Proc p)) t s = lifts_own _ _ (same_after p)
  lifts_middle (head.Hoare (Body' n is)) t s = absurd s
  lifts_middle (head.Phoare (Proc p) r) t s = lifts_own _ _ (same_after p)
  lifts_middle (head.Phoare (Body' n is) r) t s = absurd s
  lifts_middle (head.Equiv (Proc p) (Proc q)) t s = lifts_sides _ _ _ _ (same_after p) (same_after q)
  lifts_middle (head.Equiv (Body' n is) q) t s = absurd s.0
  lifts_middle (head.Equiv (Proc p) (Body' n is)) t s = absurd s.1
  lifts_middle _ t s = l

  lifts_last : (ls : List TypedName) (h : Head) (us : List Ty) (t : Ty) → IsHead (erased c) h us t → IsNamed c h t → Lifts (last_from (head_at k h) k) (last c ls h us) (last d ls (head_at k h) us)
  lifts_last ls (head.All u) us t w s = lifts_under (value u) None
  lifts_last ls (head.Some u) us t w s = lifts_under (value u) None
  lifts_last ls head.AllMemory us t w s = lifts_under memory (Some ls)
  lifts_last ls head.SomeMemory us t w s = lifts_under memory (Some ls)
  lifts_last ls (head.AllModule b) us t w s = absurd s
  lifts_last ls (head.Sum q) us t w s = lifts_under (index q) None
  lifts_last ls head.Mu [] t w s = absurd w
  lifts_last ls head.Mu (u ∷ us) t w s = lifts_under (value (outcome_type u)) None
  lifts_last ls head.Map [] t w s = absurd w
  lifts_last ls head.Map (u ∷ us) t w s = lifts_under (value (outcome_type u)) None
  lifts_last ls head.Restrict [] t w s = absurd w
  lifts_last ls head.Restrict (u ∷ us) t w s = lifts_under (value (outcome_type u)) None
  lifts_last ls (head.Pr p r) us t w s = lifts_own _ _ (same_after p)
  lifts_last ls (head.Hoare (Proc p)) us t w s = lifts_own _ _ (same_after p)
  lifts_last ls (head.Hoare (Body' n is)) us t w s = absurd s
  lifts_last ls (head.Phoare (Proc p) r) us t w s = lifts_own None None refl
  lifts_last ls (head.Phoare (Body' n is) r) us t w s = absurd s
  lifts_last ls (head.Equiv (Proc p) (Proc q)) us t w s = lifts_sides _ _ _ _ (same_after p) (same_after q)
  lifts_last ls (head.Equiv (Body' n is) q) us t w s = absurd s.0
  lifts_last ls (head.Equiv (Proc p) (Body' n is)) us t w s = absurd s.1
  lifts_last ls _ us t w s = l

mutual
  pub lifted : (k : ℕ) (c d : Context) → Lifts k c d → (t : Term) → IsTyped c t → Made d (type_of t) (term_raised t k)
  lifted k c d l (Term' p (more_of-Head h end_of-Head) n ts ty) w =
      let r = head_raised k c d l h (types_of ts) ty w.0 w.1 in
      subst (Made d ty) (sym (term_raised_is h n ts ty k))
      (subst (λ z. Made d ty (node z (seen_by k (last_from z k) (map term_raised (terms_in ts))) ty)) (sym (head_stays c h ty k w.1))
      (made_node d (head_at k h) (types_of ts) (seen_by k (last_from (head_at k h) k) (map term_raised (terms_in ts))) ty r.0 r.1 w.2
      (all_lifted k (last_from (head_at k h) k) (first c h) (middle c h) (last c w.2 h (types_of ts)) (first d (head_at k h)) (middle d (head_at k h)) (last d w.2 (head_at k h) (types_of ts))
      (lifts_first k c d l h ty w.1) (lifts_middle k c d l h ty w.1) (lifts_last k c d l w.2 h (types_of ts) ty w.0 w.1) ts w.3)))

  all_lifted : {n : Count} (k o : ℕ) (c e g d f h : Context) → Lifts k c d → Lifts k e f → Lifts o g h → (ts : Row_of-Term n) → AreTyped c e g ts →
      EachMade d f h (types_of ts) (seen_by k o (map term_raised (terms_in ts)))
  all_lifted k o c e g d f h l m r end_of-Term w = tt
  all_lifted k o c e g d f h l m r (more_of-Term t end_of-Term) w = lifted o g h r t w
  all_lifted k o c e g d f h l m r (more_of-Term t (more_of-Term u ts)) w = (lifted k c d l t w.0, all_lifted k o e e g f f h m m r (more_of-Term u ts) w.1)
