-- A typed term with typed terms in the places of what is bound means what it means where the meanings of these terms are bound.
use Rattle.std.proofs.Common.{◌≡◌, ℕ, zero, suc, Bool, true, false, if◌then◌else◌, List, [], ◌∷◌, map, Option, None, Some, refl, ap, sym, ◌∙◌, subst}
use Rattle.std.proofs.lemmas.Bool.{false≢true}
use Rattle.std.specs.Option.{option_map}
use Rattle.gb_core.specs.declared.ty.Ty.{Ty}
use Rattle.gb_terms.specs.declared.decl.TypedName.{TypedName}
use Rattle.gb_terms.specs.declared.op.Side.{Side}
use Rattle.gb_terms.specs.declared.op.Side.TheVariants as side
use Rattle.gb_terms.specs.declared.op.Read.TheVariants.{Logical, Program}
use Rattle.gb_terms.specs.declared.term.Term.{Term, Term', Row_of-Term, end_of-Term, more_of-Term, end_of-Head, more_of-Head}
use Rattle.gb_terms.specs.declared.term.Head.{Head}
use Rattle.gb_terms.specs.declared.term.Head.TheVariants as head
use Rattle.gb_terms.specs.declared.term.Head.TheVariants.{Proc, Body'}
use Rattle.gb_terms.specs.Make.{node}
use Rattle.gb_walk.specs.Layers.{is_binder, seen_by}
use Rattle.gb_walk.specs.Raise.{term_raised}
use Rattle.gb_walk.specs.Change.{Changes, found_for_bound, read_changed, side_changed, subject_changed, under_binder, seen_by_args, seen_by_last, put_or, term_of, term_changed}
use Rattle.gb_meaning.specs.Commands.{terms_in}
use Rattle.gb_meaning.specs.Meanings.{of_truth}
use Rattle.gb_meaning.specs.Memory.{Memory, read}
use Rattle.gb_meaning.specs.Operators.{outcome_type}
use Rattle.gb_meaning.specs.Setting.{Meaning, Setting}
use Rattle.gb_meaning.specs.Setting.Meaning.{finite}
use Rattle.gb_meaning.specs.State.{State, Binding, binding, meaning_in, memory_of, under, at, between}
use Rattle.gb_meaning.specs.Terms.{Speaks, Part, at_head, val, parts, part_of, denominator, denominators, denominator_of}
use Rattle.gb_meaning.specs.Judgments.{Judge, IsFair, speaking, is_sound_at, IsSoundForm, AllSound}
use Rattle.gb_meaning.proofs.Nodes.{val_node, denominator_node}
use Rattle.gb_laws.specs.Agree.{Agree}
use Rattle.gb_laws.specs.Formed.{HasArguments, IsFormed, AllFormed}
use Rattle.gb_laws.specs.Led.{put}
use Rattle.gb_laws.specs.Uses.Use.{read as reads, bound, globals, starts, binds_own, binds_sides}
use Rattle.gb_laws.proofs.Agreeing.{form_agrees}
use Rattle.gb_laws.proofs.Changed.{changed_at, term_changed_is}
use Rattle.gb_laws.proofs.Heads.{Moved, of_arguments, of_last, Related, inner_same, chance_same, Answers, with_subjects}
use Rattle.gb_laws.proofs.Judged.{SameSubjects, answers_same}
use Rattle.gb_laws.proofs.Leading.{OnSome, lifted_zero}
use Rattle.gb_laws.proofs.Lookups.{bound_found_under, bound_of_binder}
use Rattle.gb_laws.proofs.Raising.{has_parts, denominator_raised}
use Rattle.gb_laws.specs.Typing.{Binder, types_of, IsBoundAt, IsHead}
use Rattle.gb_laws.specs.Typing.Binder.{value, index, memory, program}
use Rattle.gb_typing.specs.Changes.{binder}
use Rattle.gb_typing.specs.Context.{Frame, Context, procedure, erased, frame_of, with_own, with_sides, within}
use Rattle.gb_typing.specs.Typing.{IsFrame, IsIn, before, after, procedure_in, IsNamed, first, middle, last, IsTyped, AreTyped}
use Rattle.gb_typing.proofs.Formed.{formed}
use Rattle.gb_typing.proofs.Sound.{Procedures, sound_form}
use Rattle.gb_typing.proofs.Uses.{nothing_in, uses_of, uses_typed}
use Rattle.gb_amb.proofs.Filled.{bare}
use Rattle.gb_amb.proofs.Lifted.{lifts_zero, lifted}
use Rattle.gb_amb.proofs.Puts.{EachPut, below, IsOther, under_puts, weaker, found, read_kept, seen_args, seen_last, node_kept}
use Rattle.gb_amb.proofs.States.{not_in}
use Rattle.gb_amb.proofs.Steady.{form_steady}
use mathlib.Core.Former.{Count}

module _ (g : Setting) where
  -- Denominators.

  abbrev IsWhole : Term → Type 0
  IsWhole u = denominator g u ≡ 1

  below_puts : (cs : Changes) → EachPut IsWhole cs → (h : Head) → EachPut IsWhole (below h cs)
  below_puts cs w h = step (is_binder h)
    where
      step : (b : Bool) → EachPut IsWhole (if b then under_binder cs else cs)
      step true = under_puts IsWhole IsWhole (λ u e. denominator_raised g u 0 ∙ e) cs w
      step false = w

  put_denominator : (o : Option Term) (h : Head) (cs : Changes) (fs : List (Changes → Term)) (ty : Ty) → OnSome IsWhole o → ((ks : List ℕ) → denominator_of g h ks ty ≡ 1) →
      denominator g (term_of (put_or o h) cs fs ty) ≡ 1
  put_denominator (Some t) h cs fs ty p e = p
  put_denominator None h cs fs ty p e = denominator_node g h (seen_by (seen_by_args h cs) (seen_by_last h cs) fs) ty ∙ e _

  node_denominator : {n : Count} (h : Head) (cs : Changes) (ts : Row_of-Term n) (ty : Ty) → EachPut IsWhole cs →
      map (denominator g) (seen_by (seen_by_args h cs) (seen_by_last h cs) (map term_changed (terms_in ts))) ≡ denominators g ts →
      denominator g (term_of (changed_at h cs) cs (map term_changed (terms_in ts)) ty) ≡ denominator_of g h (denominators g ts) ty
  node_denominator (head.Read r) cs ts ty w e =
      ap (λ m. denominator g (term_of m cs (map term_changed (terms_in ts)) ty)) (read_kept IsWhole cs w r)
      ∙ denominator_node g (head.Read r) (seen_by cs cs (map term_changed (terms_in ts))) ty
  node_denominator (head.Bound i) cs ts ty w e = put_denominator (found_for_bound cs i) (head.Bound i) cs (map term_changed (terms_in ts)) ty (found IsWhole cs w i) (λ ks k. 1)
  node_denominator (head.Glob m r) cs ts ty w e = denominator_node g (head.Glob m (side_changed cs r)) _ ty
  node_denominator (head.Pr p r) cs ts ty w e = denominator_node g (head.Pr p (side_changed cs r)) _ ty
  node_denominator (head.Hoare c) cs ts ty w e = denominator_node g (head.Hoare (subject_changed c cs)) _ ty
  node_denominator (head.Phoare c r) cs ts ty w e = denominator_node g (head.Phoare (subject_changed c cs) r) _ ty
  node_denominator (head.Equiv c d) cs ts ty w e = denominator_node g (head.Equiv (subject_changed c cs) (subject_changed d cs)) _ ty
  node_denominator h cs ts ty w e = denominator_node g h _ ty ∙ ap (λ ks. denominator_of g h ks ty) e

  mutual
    pub filled_denominator : (t : Term) (cs : Changes) → EachPut IsWhole cs → denominator g (term_changed t cs) ≡ denominator g t
    filled_denominator (Term' p (more_of-Head h end_of-Head) n ts ty) cs w =
        ap (denominator g) (term_changed_is h n ts ty cs)
        ∙ node_denominator h cs ts ty w
        (filled_denominators ts (seen_by_args h cs) (seen_by_last h cs) (subst (EachPut IsWhole) (sym (seen_args IsWhole cs w h)) w)
        (subst (EachPut IsWhole) (sym (seen_last IsWhole cs w h)) (below_puts cs w h)))

    filled_denominators : {n : Count} (ts : Row_of-Term n) (y z : Changes) → EachPut IsWhole y → EachPut IsWhole z → map (denominator g) (seen_by y z (map term_changed (terms_in ts))) ≡ denominators g ts
    filled_denominators end_of-Term y z v w = refl
    filled_denominators (more_of-Term t end_of-Term) y z v w = ap (λ k. k ∷ []) (filled_denominator t z w)
    filled_denominators (more_of-Term t (more_of-Term u ts)) y z v w =
        let one = filled_denominator t y v in
        let rest = filled_denominators (more_of-Term u ts) y z v w in
        λ i. one i ∷ rest i

  -- what is put in: a typed term that is no distribution
  pub record IsFit (d : Context) (u : Term) : Type 0 where
    pub typed : IsTyped (bare d) u
    pub denominator : denominator g u ≡ 1

  abbrev pub AreFit : Context → Changes → Type 0
  AreFit d cs = EachPut (IsFit d) cs

  are_whole : (d : Context) (cs : Changes) → AreFit d cs → EachPut IsWhole cs
  are_whole d cs w = weaker (IsFit d) IsWhole (λ u x. x.denominator) cs w

  fit_under : (d : Context) (b : Binder) (f : Frame) (cs : Changes) → AreFit d cs → AreFit (within d b f) (under_binder cs)
  fit_under d b f cs w =
      under_puts (IsFit d) (IsFit (within d b f))
      (λ u x. record { typed = (lifted 0 (bare d) (within (bare d) b f) (lifts_zero (bare d) b f) u x.typed).typed; denominator = denominator_raised g u 0 ∙ x.denominator }) cs w

  module _ (j : Judge) (fair : IsFair g j) where
    abbrev speaks : Speaks
    speaks = speaking g j

    abbrev V : Term → State → Meaning
    V t s = val g speaks t s

    -- What is put in reads none of the memories that judgments bind.
    module _ (d : Context) (procedures : Procedures g d) (u : Term) (w : IsTyped (bare d) u) where
      agrees : (s q : State) → Agree g (uses_of (bare d)) s q → V u s ≡ V u q
      agrees s q a = form_agrees g j fair u (formed (bare d) u w) (sound_form g (bare d) procedures u w) (uses_of (bare d)) s q a (uses_typed (bare d) u w)

      pub ignores_own : (q : State) (m : Memory) → V u (at q m) ≡ V u q
      ignores_own q m = agrees (at q m) q agree
        where
          agree : Agree g (uses_of (bare d)) (at q m) q
          agree (reads (Logical i) t) k = refl
          agree (reads (Program x side.Own) t) k = absurd (not_in (bare d) x t k)
          agree (reads (Program x side.Left) t) k = refl
          agree (reads (Program x side.Right) t) k = refl
          agree (reads (Program x (side.Memory i)) t) k = refl
          agree (reads (Program x (side.Bound i)) t) k = refl
          agree (bound i) k = refl
          agree (globals x r) k = absurd (false≢true k)
          agree (starts side.Own) k = absurd (false≢true k)
          agree (starts side.Left) k = refl
          agree (starts side.Right) k = refl
          agree (starts (side.Memory i)) k = refl
          agree (starts (side.Bound i)) k = refl
          agree binds_own k = tt
          agree binds_sides k = tt

      pub ignores_sides : (q : State) (m n : Memory) → V u (between q m n) ≡ V u q
      ignores_sides q m n = agrees (between q m n) q agree
        where
          agree : Agree g (uses_of (bare d)) (between q m n) q
          agree (reads (Logical i) t) k = refl
          agree (reads (Program x side.Own) t) k = refl
          agree (reads (Program x side.Left) t) k = absurd (not_in (bare d) x t k)
          agree (reads (Program x side.Right) t) k = absurd (not_in (bare d) x t k)
          agree (reads (Program x (side.Memory i)) t) k = refl
          agree (reads (Program x (side.Bound i)) t) k = refl
          agree (bound i) k = refl
          agree (globals x r) k = absurd (false≢true k)
          agree (starts side.Own) k = refl
          agree (starts side.Left) k = absurd (false≢true k)
          agree (starts side.Right) k = absurd (false≢true k)
          agree (starts (side.Memory i)) k = refl
          agree (starts (side.Bound i)) k = refl
          agree binds_own k = tt
          agree binds_sides k = tt

      pub steady : (q : State) (b : Binding) → V (term_raised u 0) (under q b) ≡ V u q
      steady q b = form_steady g j fair (bare d) u w (formed (bare d) u w) (sound_form g (bare d) procedures u w) 0 (under q b) q (lifted_zero q b)

    -- What is there in a context is the same in both states, and what is bound becomes what it means in the second one.
    pub record Meets (e : Context) (cs : Changes) (q r : State) : Type 0 where
      pub logical : (i : ℕ) (t : Ty) → e.logical i ≡ Some t → q.logical i ≡ r.logical i
      pub memories : (s : Side) → IsFrame (frame_of e s) → memory_of q s ≡ memory_of r s
      pub bounds : (i : ℕ) (t : Ty) → IsBoundAt (binder e i) t → put g speaks (found_for_bound cs i) (meaning_in (binding q i)) q ≡ meaning_in (binding r i)

    module _ (e d : Context) (procedures : Procedures g d) (cs : Changes) (fit : AreFit d cs) (q r : State) (s : Meets e cs q r) where
      put_at : (o : Option Term) (x : Meaning) (m : Memory) → OnSome (IsFit d) o → put g speaks o x (at q m) ≡ put g speaks o x q
      put_at (Some u) x m w = ignores_own d procedures u w.typed q m
      put_at None x m w = refl

      put_between : (o : Option Term) (x : Meaning) (m n : Memory) → OnSome (IsFit d) o → put g speaks o x (between q m n) ≡ put g speaks o x q
      put_between (Some u) x m n w = ignores_sides d procedures u w.typed q m n
      put_between None x m n w = refl

      put_under : (o : Option Term) (x : Meaning) (b : Binding) → OnSome (IsFit d) o → put g speaks (option_map (λ u. term_raised u 0) o) x (under q b) ≡ put g speaks o x q
      put_under (Some u) x b w = steady d procedures u w.typed q b
      put_under None x b w = refl

      meets_at : (f : Frame) (m : Memory) → Meets (with_own e f) cs (at q m) (at r m)
      meets_at f m = record { logical = s.logical; memories = each; bounds = λ i t k. put_at (found_for_bound cs i) _ m (found (IsFit d) cs fit i) ∙ s.bounds i t k }
        where
          each : (x : Side) → IsFrame (frame_of (with_own e f) x) → memory_of (at q m) x ≡ memory_of (at r m) x
          each side.Own k = refl
          each side.Left k = s.memories side.Left k
          each side.Right k = s.memories side.Right k
          each (side.Memory i) k = s.memories (side.Memory i) k
          each (side.Bound i) k = s.memories (side.Bound i) k

      meets_between : (f h : Frame) (m n : Memory) → Meets (with_sides e f h) cs (between q m n) (between r m n)
      meets_between f h m n = record { logical = s.logical; memories = each; bounds = λ i t k. put_between (found_for_bound cs i) _ m n (found (IsFit d) cs fit i) ∙ s.bounds i t k }
        where
          each : (x : Side) → IsFrame (frame_of (with_sides e f h) x) → memory_of (between q m n) x ≡ memory_of (between r m n) x
          each side.Own k = s.memories side.Own k
          each side.Left k = refl
          each side.Right k = refl
          each (side.Memory i) k = s.memories (side.Memory i) k
          each (side.Bound i) k = s.memories (side.Bound i) k

      meets_nowhere : Meets (with_own e None) cs q r
      meets_nowhere = record { logical = s.logical; memories = each; bounds = s.bounds }
        where
          each : (x : Side) → IsFrame (frame_of (with_own e None) x) → memory_of q x ≡ memory_of r x
          each side.Own k = absurd k
          each side.Left k = s.memories side.Left k
          each side.Right k = s.memories side.Right k
          each (side.Memory i) k = s.memories (side.Memory i) k
          each (side.Bound i) k = s.memories (side.Bound i) k

      meets_under : (x : Binder) (f : Frame) (b : Binding) → Meets (within e x f) (under_binder cs) (under q b) (under r b)
      meets_under x f b = record { logical = s.logical; memories = each; bounds = each_bound }
        where
          each : (y : Side) → IsFrame (frame_of (within e x f) y) → memory_of (under q b) y ≡ memory_of (under r b) y
          each side.Own k = s.memories side.Own k
          each side.Left k = s.memories side.Left k
          each side.Right k = s.memories side.Right k
          each (side.Memory i) k = s.memories (side.Memory i) k
          each (side.Bound zero) k = refl
          each (side.Bound (suc i)) k = s.memories (side.Bound i) k

          each_bound : (i : ℕ) (t : Ty) → IsBoundAt (binder (within e x f) i) t →
              put g speaks (found_for_bound (under_binder cs) i) (meaning_in (binding (under q b) i)) (under q b) ≡ meaning_in (binding (under r b) i)
          each_bound zero t k = ap (λ o. put g speaks o (meaning_in b) (under q b)) (bound_of_binder cs)
          each_bound (suc i) t k =
              ap (λ o. put g speaks o (meaning_in (binding q i)) (under q b)) (bound_found_under cs i)
              ∙ put_under (found_for_bound cs i) _ b (found (IsFit d) cs fit i) ∙ s.bounds i t k

    -- a term means so wherever it is typed
    abbrev Means : Term → Type 0
    Means t = (e d : Context) → Procedures g d → (cs : Changes) → AreFit d cs → (q r : State) → Meets e cs q r → IsTyped e t → V (term_changed t cs) q ≡ V t r

    abbrev AllMean : {n : Count} → Row_of-Term n → Type 0
    AllMean end_of-Term = Unit {0}
    AllMean (more_of-Term t ts) = Means t × AllMean ts

    rows : {n : Count} (R L : Part → Part → Type 0) (a b l : Context) (y z : Changes) →
        ((t : Term) → Means t → IsTyped a t → R (part_of g speaks (term_changed t y)) (part_of g speaks t)) →
        ((t : Term) → Means t → IsTyped b t → R (part_of g speaks (term_changed t y)) (part_of g speaks t)) →
        ((t : Term) → Means t → IsTyped l t → L (part_of g speaks (term_changed t z)) (part_of g speaks t)) → (ts : Row_of-Term n) → AllMean ts → AreTyped a b l ts →
        Moved R L (map (part_of g speaks) (seen_by y z (map term_changed (terms_in ts)))) (parts g speaks ts)
    rows R L a b l y z f h k end_of-Term m w = tt
    rows R L a b l y z f h k (more_of-Term t end_of-Term) m w = k t m.0 w
    rows R L a b l y z f h k (more_of-Term t (more_of-Term u ts)) m w = (f t m.0 w.0, rows R L b b l y z h h k (more_of-Term u ts) m.1 w.1)

    module _ (e d : Context) (procedures : Procedures g d) (cs : Changes) (fit : AreFit d cs) (q r : State) (s : Meets e cs q r) where
      over : (t : Term) → denominator g (term_changed t cs) ≡ denominator g t
      over t = filled_denominator t cs (are_whole d cs fit)

      before_event : (h : Head) (t : Term) → Means t → IsTyped (first e h) t → of_arguments q r h (part_of g speaks (term_changed t cs)) (part_of g speaks t)
      before_event (head.Hoare c) t k w = λ m. k (first e (head.Hoare c)) d procedures cs fit (at q m) (at r m) (meets_at e d procedures cs fit q r s _ m) w
      before_event (head.Phoare c x) t k w = λ m. k (first e (head.Phoare c x)) d procedures cs fit (at q m) (at r m) (meets_at e d procedures cs fit q r s _ m) w
      before_event (head.Equiv c b) t k w = λ m n. k (first e (head.Equiv c b)) d procedures cs fit (between q m n) (between r m n) (meets_between e d procedures cs fit q r s _ _ m n) w
      before_event _ t k w = (k e d procedures cs fit q r s w, over t)

      after_event : (h : Head) (t : Term) → Means t → IsTyped (middle e h) t → of_arguments q r h (part_of g speaks (term_changed t cs)) (part_of g speaks t)
      after_event (head.Hoare c) t k w = λ m. k (middle e (head.Hoare c)) d procedures cs fit (at q m) (at r m) (meets_at e d procedures cs fit q r s _ m) w
      after_event (head.Phoare c x) t k w = λ m. k (middle e (head.Phoare c x)) d procedures cs fit (at q m) (at r m) (meets_at e d procedures cs fit q r s _ m) w
      after_event (head.Equiv c b) t k w = λ m n. k (middle e (head.Equiv c b)) d procedures cs fit (between q m n) (between r m n) (meets_between e d procedures cs fit q r s _ _ m n) w
      after_event _ t k w = (k e d procedures cs fit q r s w, over t)

      inner : (x : Binder) (f : Frame) (t : Term) → Means t → IsTyped (within e x f) t → (b : Binding) → V (term_changed t (under_binder cs)) (under q b) ≡ V t (under r b)
      inner x f t k w b = k (within e x f) (within d x f) procedures (under_binder cs) (fit_under d x f cs fit) (under q b) (under r b) (meets_under e d procedures cs fit q r s x f b) w

      final : (ls : List TypedName) (h : Head) (us : List Ty) (ty : Ty) → IsHead (erased e) h us ty → IsNamed e h ty → (t : Term) → Means t → IsTyped (last e ls h us) t →
          of_last q r h (part_of g speaks (term_changed t (below h cs))) (part_of g speaks t)
      final ls (head.All u) us ty i n t k w = inner (value u) None t k w
      final ls (head.Some u) us ty i n t k w = inner (value u) None t k w
      final ls head.AllMemory us ty i n t k w = inner memory (Some ls) t k w
      final ls head.SomeMemory us ty i n t k w = inner memory (Some ls) t k w
      final ls (head.AllModule b) us ty i n t k w = absurd n
      final ls (head.Sum x) us ty i n t k w = inner (index x) None t k w
      final ls head.Mu [] ty i n t k w = absurd i
      final ls head.Mu (u ∷ us) ty i n t k w = inner (value (outcome_type u)) None t k w
      final ls head.Map [] ty i n t k w = absurd i
      final ls head.Map (u ∷ us) ty i n t k w = inner (value (outcome_type u)) None t k w
      final ls head.Restrict [] ty i n t k w = absurd i
      final ls head.Restrict (u ∷ us) ty i n t k w = inner (value (outcome_type u)) None t k w
      final ls (head.Pr p x) us ty i n t k w = λ m. k (with_own e (after (procedure e p))) d procedures cs fit (at q m) (at r m) (meets_at e d procedures cs fit q r s _ m) w
      final ls (head.Hoare c) us ty i n t k w = λ m. k (with_own e (after (procedure_in e c))) d procedures cs fit (at q m) (at r m) (meets_at e d procedures cs fit q r s _ m) w
      final ls (head.Phoare c x) us ty i n t k w = (k (with_own e None) d procedures cs fit q r (meets_nowhere e d procedures cs fit q r s) w, over t)
      final ls (head.Equiv c b) us ty i n t k w =
          λ m o. k (with_sides e (after (procedure_in e c)) (after (procedure_in e b))) d procedures cs fit (between q m o) (between r m o) (meets_between e d procedures cs fit q r s _ _ m o) w
      final ls _ us ty i n t k w = (k e d procedures cs fit q r s w, over t)

      -- judgments in forms are of procedures, which see nothing of the state
      subjects : (h : Head) (ty : Ty) → IsNamed e h ty → is_sound_at g h → SameSubjects g (λ c. c) q r h
      subjects (head.Hoare (Proc p)) ty n v = record { runs = λ m. refl; denominators = refl; sound = v }
      subjects (head.Hoare (Body' m is)) ty n v = absurd n
      subjects (head.Phoare (Proc p) x) ty n v = record { runs = λ m. refl; denominators = refl; sound = v }
      subjects (head.Phoare (Body' m is) x) ty n v = absurd n
      subjects (head.Equiv (Proc p) (Proc o)) ty n v = (record { runs = λ m. refl; denominators = refl; sound = v.0 }, record { runs = λ m. refl; denominators = refl; sound = v.1 })
      subjects (head.Equiv (Body' m is) b) ty n v = absurd n.0
      subjects (head.Equiv (Proc p) (Body' m is)) ty n v = absurd n.1
      subjects _ ty n v = tt

      there : (f : Frame) (x : _) (t : Ty) → IsIn e f x t → IsFrame f
      there (Some l) x t w = tt
      there None x t w = absurd (nothing_in e x t w)

      head_means : {n : Count} (u : Term) (h : Head) (xs : List Term) (ts : Row_of-Term n) (ty : Ty) → IsHead (erased e) h (types_of ts) ty → IsNamed e h ty → IsOther h → HasArguments h (parts g speaks ts) →
          Related q r h (map (part_of g speaks) xs) (parts g speaks ts) → Answers h (j (node (with_subjects (λ c. c) h) xs ty) q) (j u r) →
          at_head g speaks (node h xs ty) h (map (part_of g speaks) xs) ty q ≡ at_head g speaks u h (parts g speaks ts) ty r
      head_means u (head.Read (Logical i)) xs end_of-Term ty w n o a f k = s.logical i ty w.1
      head_means u (head.Read (Program x y)) xs end_of-Term ty w n o a f k = ap (λ m. finite (read g.types m x ty)) (s.memories y (there (frame_of e y) x ty n))
      head_means u (head.Read y) xs (more_of-Term t ts) ty w n o a f k = absurd w
      head_means u (head.Bound i) xs ts ty w n o a f k = absurd o
      head_means u (head.Glob m y) xs ts ty w n o a f k = absurd n
      head_means u (head.AllModule b) xs ts ty w n o a f k = absurd n
      head_means u (head.Pr p y) xs ts ty w n o a f k = chance_same q r g speaks p _ _ _ _ (s.memories y n.0) f
      head_means u head.AllMemory xs ts ty w n o a f k = ap of_truth k
      head_means u head.SomeMemory xs ts ty w n o a f k = ap of_truth k
      head_means u (head.Hoare c) xs ts ty w n o a f k = ap of_truth k
      head_means u (head.Phoare c y) xs ts ty w n o a f k = ap of_truth k
      head_means u (head.Equiv c b) xs ts ty w n o a f k = ap of_truth k
      head_means u h xs ts ty w n o a f k = inner_same q r g speaks (node h xs ty) u h _ (parts g speaks ts) ty tt a f

      kept_means : (h : Head) (n : _) (ts : _) (ty : Ty) → IsTyped e (Term' tt (more_of-Head h end_of-Head) n ts ty) → HasArguments h (terms_in ts) → is_sound_at g h → AllMean ts → IsOther h →
          V (term_changed (Term' tt (more_of-Head h end_of-Head) n ts ty) cs) q ≡ V (Term' tt (more_of-Head h end_of-Head) n ts ty) r
      kept_means h n ts ty w a v m o =
          let xs = seen_by cs (below h cs) (map term_changed (terms_in ts)) in
          let has = has_parts g speaks h ts a in
          let related = rows (of_arguments q r h) (of_last q r h) (first e h) (middle e h) (last e w.2 h (types_of ts)) cs (below h cs) (before_event h) (after_event h) (final w.2 h (types_of ts) ty w.0 w.1) ts m w.3 in
          ap (λ t. V t q) (term_changed_is h n ts ty cs ∙ node_kept (IsFit d) cs fit e h ty w.1 o (map term_changed (terms_in ts)))
          ∙ val_node g speaks h xs ty q
          ∙ head_means (Term' tt (more_of-Head h end_of-Head) n ts ty) h xs ts ty w.0 w.1 o has related
          (answers_same g j fair (λ c. c) q r h xs n ts ty v (subjects h ty w.1 v) has related)

      bound_val : (i : ℕ) (fs : List (Changes → Term)) (ty : Ty) (o : Option Term) → V (term_of (put_or o (head.Bound i)) cs fs ty) q ≡ put g speaks o (meaning_in (binding q i)) q
      bound_val i fs ty (Some u) = refl
      bound_val i fs ty None = val_node g speaks (head.Bound i) (seen_by cs cs fs) ty q

      bound_means : {n : Count} (i : ℕ) (ts : Row_of-Term n) (ty : Ty) → IsHead (erased e) (head.Bound i) (types_of ts) ty →
          V (term_of (changed_at (head.Bound i) cs) cs (map term_changed (terms_in ts)) ty) q ≡ meaning_in (binding r i)
      bound_means i end_of-Term ty w = bound_val i [] ty (found_for_bound cs i) ∙ s.bounds i ty w
      bound_means i (more_of-Term t ts) ty w = absurd w

      node_means : (h : Head) (n : _) (ts : _) (ty : Ty) → IsTyped e (Term' tt (more_of-Head h end_of-Head) n ts ty) → HasArguments h (terms_in ts) → is_sound_at g h → AllMean ts →
          V (term_changed (Term' tt (more_of-Head h end_of-Head) n ts ty) cs) q ≡ V (Term' tt (more_of-Head h end_of-Head) n ts ty) r
      node_means (head.Bound i) n ts ty w a v m = ap (λ t. V t q) (term_changed_is (head.Bound i) n ts ty cs) ∙ bound_means i ts ty w.0
      node_means h n ts ty w a v m = kept_means h n ts ty w a v m tt

    mutual
      pub means_filled : (t : Term) → IsFormed t → IsSoundForm g t → Means t
      means_filled (Term' tt (more_of-Head h end_of-Head) n ts ty) f v e d procedures cs fit q r s w = node_means e d procedures cs fit q r s h n ts ty w f.0 v.0 (all_mean ts f.2 v.1)

      all_mean : {n : Count} (ts : Row_of-Term n) → AllFormed ts → AllSound g ts → AllMean ts
      all_mean end_of-Term f v = tt
      all_mean (more_of-Term t ts) f v = (means_filled t f.0 v.0, all_mean ts f.1 v.1)
