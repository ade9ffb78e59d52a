-- A conclusion is true where all its leaves hold.
use Rattle.std.proofs.Common.{◌≡◌, ℕ, ◌+◌, Bool, true, false, not, ◌&&◌, ◌||◌, ◌⊎◌, inl, inr, List, [], ◌∷◌, ◌++◌, map, refl, ap, sym, ◌∙◌, subst}
use Rattle.std.specs.List.{AllByRecursion}
use Rattle.std.proofs.lemmas.Bool.{false≢true, and_from}
use Rattle.gb_core.specs.declared.ty.Ty.{Ty}
use Rattle.gb_core.specs.declared.value.Value.{Value}
use Rattle.gb_terms.specs.declared.op.Op.TheVariants as op
use Rattle.gb_terms.specs.declared.term.Term.{Term, Term', Row_of-Term, end_of-Term, more_of-Term, end_of-Head, more_of-Head}
use Rattle.gb_terms.specs.declared.term.Head.{Head}
use Rattle.gb_terms.specs.declared.term.Head.TheVariants as head
use Rattle.gb_terms.specs.declared.op.Side.TheVariants as side
use Rattle.gb_walk.specs.declared.change.Change.TheVariants.{OfBound, ToSide}
use Rattle.gb_walk.specs.Change.{Changes, under_binder, term_changed}
use Rattle.gb_meaning.specs.Values.{values, has}
use Rattle.gb_meaning.specs.Memory.{Memory}
use Rattle.gb_meaning.specs.Setting.{Setting}
use Rattle.gb_meaning.specs.Setting.Meaning.{finite}
use Rattle.gb_meaning.specs.Meanings.{of_truth, truth}
use Rattle.gb_meaning.specs.State.{State, under}
use Rattle.gb_meaning.specs.State.Binding.{value, memory}
use Rattle.gb_meaning.specs.Operators.{operated}
use Rattle.gb_meaning.specs.Terms.{Speaks, argument, at_value, last_of, val, parts, each_value}
use Rattle.gb_meaning.specs.Judgments.{Judge, speaking, IsFair}
use Rattle.gb_meaning.proofs.Numberings.{lawful}
use Rattle.gb_meaning.proofs.Bools.{each_value_has}
use Rattle.gb_meaning.proofs.Truths.{truth_of}
use Rattle.gb_smt.specs.declared.leaves.Leaf.{Leaf}
use Rattle.gb_smt.specs.Leaves as leaves
use Rattle.gb_smt.specs.Leaves.{with_variable, with_memory, assumed, whole, split}
use Rattle.gb_smt_laws.specs.Simple.{is_simple}
use Rattle.gb_smt_laws.specs.Reading.{Variables, Reading, no_variables, inner, AreHeld, IsReadingOf}
use Rattle.gb_smt_laws.specs.Fits.{Fits, AllFit, OnlyFits}
use Rattle.gb_smt_laws.specs.Closing.{IsAssumed, LeafHolds}
use Rattle.gb_smt_laws.proofs.Followed.{simple_before, followed}
use Rattle.gb_smt_laws.proofs.Used.{each_together}
use Rattle.gb_smt_laws.proofs.Finding.{variable}
use Rattle.gb_smt_laws.proofs.Splitting.{opening_leads}
use Rattle.gb_smt.specs.Meant.{IsRight}
use Rattle.gb_smt_laws.proofs.Right.{fair_is_right}
use Rattle.gb_smt_laws.proofs.Premises.{premise}
use mathlib.Core.Former.{Count}
use Rattle.gb_smt_laws.proofs.Later.{Opens, StayAssumed, opens_to_variable, opens_to_memory, stay_with_variable, stay_with_memory, later_itself, valid_with_variable, valid_with_memory, reading_with, reading_at, state_with, state_at}

pub each_left : {X : Type 0} (P : X → Type 0) (xs ys : List X) → AllByRecursion P (xs ++ ys) → AllByRecursion P xs × AllByRecursion P ys
each_left P [] ys a = (tt, a)
each_left P (x ∷ xs) ys a = let r = each_left P xs ys a.1 in ((a.0, r.0), r.1)

-- the context of a part of the conclusion: where its changes lead, and what is assumed there
pub record IsContext (g : Setting) (j : Speaks) (n m : ℕ) (cs : Changes) (T W : Reading) (s q : State) (hs : List Term) : Type 0 where
  pub opens : Opens n m cs T W s q
  pub outside : s.bound ≡ []
  pub valid : IsReadingOf g W s
  pub assumed : StayAssumed g j n m W s hs

module _ (g : Setting) (j : Speaks) (n m : ℕ) (cs : Changes) (T W : Reading) (s q : State) (hs : List Term) (k : IsContext g j n m cs T W s q hs) where
  pub context_with_variable : (u : Ty) (v : Value) → has g.types u v ≡ true →
      IsContext g j (n + 1) m (under_binder cs ++ OfBound 0 (variable n u) ∷ []) (inner no_variables T) (reading_with n u W) (state_with n (finite v) s) (under q (value (finite v))) hs
  context_with_variable u v h = record {
    opens = opens_to_variable n m cs T W s q k.opens u (finite v);
    outside = k.outside;
    valid = valid_with_variable g W s k.valid n u v h;
    assumed = stay_with_variable g j n m W s hs k.assumed u (finite v);
  }

  pub context_with_memory : (f : Variables) → AreHeld g f → (d : Memory) →
      IsContext g j n (m + 1) (under_binder cs ++ ToSide (side.Bound 0) (side.Memory m) ∷ []) (inner f T) (reading_at m f W) (state_at m d s) (under q (memory d)) hs
  context_with_memory f h d = record {
    opens = opens_to_memory n m cs T W s q k.opens f d;
    outside = k.outside;
    valid = valid_with_memory g W s k.valid m f d h;
    assumed = stay_with_memory g j n m W s hs k.assumed f d;
  }

-- where quantifiers over memories say what they say
module _ (g : Setting) (j : Speaks) (right : IsRight g j) (n m : ℕ) (cs : Changes) (T W : Reading) (s q : State) (hs : List Term) (k : IsContext g j n m cs T W s q hs) where
  pub context_with_premise : (t : Term) → Fits g T t → truth (val g j t q) ≡ true → IsContext g j n m cs T W s q (hs ++ assumed (term_changed t cs))
  context_with_premise t w e = record {
    opens = k.opens;
    outside = k.outside;
    valid = k.valid;
    assumed = λ V z l. each_together (IsAssumed g j V z) hs (assumed (term_changed t cs)) (k.assumed V z l) (premise g j right cs T V z q (k.opens V z l) t w e);
  }

  -- a conclusion that isn't split is simple and true
  pub leaf_true : (t : Term) → Fits g T t → LeafHolds g j (record { hyps = hs; conclusion = term_changed t cs }) → (is_simple t ≡ true) × (truth (val g j t q) ≡ true)
  leaf_true t w a =
      let here = later_itself n m W s k.outside in
      let led = opening_leads g j cs T W s q (k.opens W s here) in
      let r = a W s k.valid (k.assumed W s here) (λ b. (followed g j right t cs T W s q led w (simple_before t cs b) b).0) in
      let before = simple_before t cs r.0 in
      (before, sym (ap truth (followed g j right t cs T W s q led w before r.0).1) ∙ r.1)

abbrev pub splits : Head → Bool
splits (head.All u) = true
splits head.AllMemory = true
splits (head.Builtin op.Implies) = true
splits (head.Builtin op.And) = true
splits _ = false

pub unsplit : (h : Head) (xs : List leaves.Part) (t : Term) (c : _) (hs : List Term) → splits h ≡ false → leaves.split_by h xs t c hs ≡ whole t c hs
unsplit h [] t c hs e = refl
unsplit (head.All u) (x ∷ []) t c hs e = absurd (false≢true (sym e))
unsplit head.AllMemory (x ∷ []) t c hs e = absurd (false≢true (sym e))
unsplit h (x ∷ []) t c hs e = refl
unsplit (head.Builtin op.Implies) (x ∷ y ∷ []) t c hs e = absurd (false≢true (sym e))
unsplit (head.Builtin op.And) (x ∷ y ∷ []) t c hs e = absurd (false≢true (sym e))
unsplit h (x ∷ y ∷ []) t c hs e = refl
unsplit h (x ∷ y ∷ z ∷ xs) t c hs e = refl

implied : (a b : Bool) → (a ≡ true → b ≡ true) → truth (of_truth (not a || b)) ≡ true
implied true b f = truth_of b ∙ f refl
implied false b f = truth_of true

module _ (g : Setting) (i : Judge) (fair : IsFair g i) where
  abbrev j : Speaks
  j = speaking g i

  right : IsRight g j
  right = fair_is_right g i fair

  abbrev Hold : List Leaf → Type 0
  Hold ls = AllByRecursion (LeafHolds g j) ls

  mutual
    pub split_true : (t : Term) (c : _) (hs : List Term) → Hold (split t c hs) → (T W : Reading) (s q : State) → Fits g T t → IsContext g j c.logical c.memories c.changes T W s q hs → truth (val g j t q) ≡ true
    split_true (Term' p (more_of-Head (head.All u) end_of-Head) n ts ty) c hs a T W s q w k = finish (split_all ts u t c hs a T W s q w k)
      where
        t : Term
        t = Term' p (more_of-Head (head.All u) end_of-Head) n ts ty

        finish : ((v : Value) → has g.types u v ≡ true → truth (at_value (last_of (parts g j ts)) q v) ≡ true) ⊎ Hold (whole t c hs) → truth (val g j t q) ≡ true
        finish (inl f) =
            truth_of (each_value (values g.types u) (λ v. truth (at_value (last_of (parts g j ts)) q v)))
            ∙ each_value_has (values g.types u) (lawful g.types u) (λ v. truth (at_value (last_of (parts g j ts)) q v)) f
        finish (inr b) = (leaf_true g j right c.logical c.memories c.changes T W s q hs k t w b.0).1
    split_true (Term' p (more_of-Head head.AllMemory end_of-Head) n ts ty) c hs a T W s q w k = finish (split_memory ts t c hs a T W s q w.0 w.1 w.2 k)
      where
        t : Term
        t = Term' p (more_of-Head head.AllMemory end_of-Head) n ts ty

        finish : ((d : Memory) → truth ((last_of (parts g j ts)).meaning (under q (memory d))) ≡ true) ⊎ Hold (whole t c hs) → truth (val g j t q) ≡ true
        finish (inl f) = truth_of (i t q) ∙ (fair t q tt).1 f
        finish (inr b) = (leaf_true g j right c.logical c.memories c.changes T W s q hs k t w b.0).1
    split_true (Term' p (more_of-Head (head.Builtin op.Implies) end_of-Head) n ts ty) c hs a T W s q w k = finish (split_implies ts ty t c hs a T W s q w.1 k)
      where
        t : Term
        t = Term' p (more_of-Head (head.Builtin op.Implies) end_of-Head) n ts ty

        finish : (truth (operated g.types op.Implies ty (map (argument q) (parts g j ts))) ≡ true) ⊎ Hold (whole t c hs) → truth (val g j t q) ≡ true
        finish (inl e) = e
        finish (inr b) = (leaf_true g j right c.logical c.memories c.changes T W s q hs k t w b.0).1
    split_true (Term' p (more_of-Head (head.Builtin op.And) end_of-Head) n ts ty) c hs a T W s q w k = finish (split_and ts ty t c hs a T W s q w.1 k)
      where
        t : Term
        t = Term' p (more_of-Head (head.Builtin op.And) end_of-Head) n ts ty

        finish : (truth (operated g.types op.And ty (map (argument q) (parts g j ts))) ≡ true) ⊎ Hold (whole t c hs) → truth (val g j t q) ≡ true
        finish (inl e) = e
        finish (inr b) = (leaf_true g j right c.logical c.memories c.changes T W s q hs k t w b.0).1
    split_true (Term' p (more_of-Head h end_of-Head) n ts ty) c hs a T W s q w k =
        let t : Term = Term' p (more_of-Head h end_of-Head) n ts ty in
        (leaf_true g j right c.logical c.memories c.changes T W s q hs k t w (subst Hold (unsplit h (leaves.parts ts) t c hs refl) a).0).1

    split_all : {n : Count} (ts : Row_of-Term n) (u : Ty) (t : Term) (c : _) (hs : List Term) → Hold (leaves.split_by (head.All u) (leaves.parts ts) t c hs) → (T W : Reading) (s q : State) →
        OnlyFits g (inner no_variables T) ts → IsContext g j c.logical c.memories c.changes T W s q hs →
        ((v : Value) → has g.types u v ≡ true → truth (at_value (last_of (parts g j ts)) q v) ≡ true) ⊎ Hold (whole t c hs)
    split_all end_of-Term u t c hs a T W s q w k = inr a
    split_all (more_of-Term x end_of-Term) u t c hs a T W s q w k =
        inl (λ v h. split_true x (with_variable c u) hs a (inner no_variables T) (reading_with c.logical u W) (state_with c.logical (finite v) s) (under q (value (finite v))) w
        (context_with_variable g j c.logical c.memories c.changes T W s q hs k u v h))
    split_all (more_of-Term x (more_of-Term y end_of-Term)) u t c hs a T W s q w k = inr a
    split_all (more_of-Term x (more_of-Term y (more_of-Term z ts))) u t c hs a T W s q w k = inr a

    split_memory : {n : Count} (ts : Row_of-Term n) (t : Term) (c : _) (hs : List Term) → Hold (leaves.split_by head.AllMemory (leaves.parts ts) t c hs) → (T W : Reading) (s q : State) →
        (f : Variables) → AreHeld g f → OnlyFits g (inner f T) ts → IsContext g j c.logical c.memories c.changes T W s q hs →
        ((d : Memory) → truth ((last_of (parts g j ts)).meaning (under q (memory d))) ≡ true) ⊎ Hold (whole t c hs)
    split_memory end_of-Term t c hs a T W s q f h w k = inr a
    split_memory (more_of-Term x end_of-Term) t c hs a T W s q f h w k =
        inl (λ d. split_true x (with_memory c) hs a (inner f T) (reading_at c.memories f W) (state_at c.memories d s) (under q (memory d)) w
        (context_with_memory g j c.logical c.memories c.changes T W s q hs k f h d))
    split_memory (more_of-Term x (more_of-Term y end_of-Term)) t c hs a T W s q f h w k = inr a
    split_memory (more_of-Term x (more_of-Term y (more_of-Term z ts))) t c hs a T W s q f h w k = inr a

    split_implies : {n : Count} (ts : Row_of-Term n) (ty : Ty) (t : Term) (c : _) (hs : List Term) → Hold (leaves.split_by (head.Builtin op.Implies) (leaves.parts ts) t c hs) → (T W : Reading) (s q : State) →
        AllFit g T ts → IsContext g j c.logical c.memories c.changes T W s q hs →
        (truth (operated g.types op.Implies ty (map (argument q) (parts g j ts))) ≡ true) ⊎ Hold (whole t c hs)
    split_implies end_of-Term ty t c hs a T W s q w k = inr a
    split_implies (more_of-Term x end_of-Term) ty t c hs a T W s q w k = inr a
    split_implies (more_of-Term x (more_of-Term y end_of-Term)) ty t c hs a T W s q w k =
        inl (implied (truth (val g j x q)) (truth (val g j y q))
        (λ e. split_true y c (hs ++ assumed (term_changed x c.changes)) a T W s q w.1.0 (context_with_premise g j right c.logical c.memories c.changes T W s q hs k x w.0 e)))
    split_implies (more_of-Term x (more_of-Term y (more_of-Term z ts))) ty t c hs a T W s q w k = inr a

    split_and : {n : Count} (ts : Row_of-Term n) (ty : Ty) (t : Term) (c : _) (hs : List Term) → Hold (leaves.split_by (head.Builtin op.And) (leaves.parts ts) t c hs) → (T W : Reading) (s q : State) →
        AllFit g T ts → IsContext g j c.logical c.memories c.changes T W s q hs →
        (truth (operated g.types op.And ty (map (argument q) (parts g j ts))) ≡ true) ⊎ Hold (whole t c hs)
    split_and end_of-Term ty t c hs a T W s q w k = inr a
    split_and (more_of-Term x end_of-Term) ty t c hs a T W s q w k = inr a
    split_and (more_of-Term x (more_of-Term y end_of-Term)) ty t c hs a T W s q w k =
        let both = each_left (LeafHolds g j) (split x c hs) (split y c hs) a in
        inl (truth_of (truth (val g j x q) && truth (val g j y q))
        ∙ and_from (truth (val g j x q)) (truth (val g j y q)) (split_true x c hs both.0 T W s q w.0 k) (split_true y c hs both.1 T W s q w.1.0 k))
    split_and (more_of-Term x (more_of-Term y (more_of-Term z ts))) ty t c hs a T W s q w k = inr a
