-- The meaning of a tree under one binder more.
use Rattle.std.proofs.Common.{◌≡◌, ℕ, zero, suc, ◌+◌, nat_le, if◌then◌else◌, Bool, true, false, List, ◌∷◌, map, refl, ap, ◌∙◌, arith}
use Rattle.std.proofs.Math.Dec.{leb-suc-zero, leb-suc-suc}
use Rattle.gb_core.specs.declared.ty.Ty.{Ty}
use Rattle.gb_terms.specs.declared.op.Side.{Side}
use Rattle.gb_terms.specs.declared.op.Side.TheVariants as side
use Rattle.gb_terms.specs.declared.op.Read.TheVariants.{Logical, Program}
use Rattle.gb_terms.specs.declared.term.Term.{Term, Term', Row_of-Term, end_of-Term, more_of-Term, end_of-Head, more_of-Head}
use Rattle.gb_terms.specs.declared.term.Head.{Head}
use Rattle.gb_terms.specs.declared.term.Head.TheVariants as head
use Rattle.gb_terms.specs.Make.{node}
use Rattle.gb_walk.specs.Layers.{where_last, seen_by}
use Rattle.gb_walk.specs.Raise.{index_raised, side_raised, last_from, term_raised}
use Rattle.gb_meaning.specs.Memory.{Memory, read, read_globals}
use Rattle.gb_meaning.specs.Setting.{Setting}
use Rattle.gb_meaning.specs.Setting.Meaning.{finite}
use Rattle.gb_meaning.specs.Meanings.{of_truth}
use Rattle.gb_meaning.specs.State.{State, Binding, binding, meaning_in, memory_in, memory_of, under, at, between}
use Rattle.gb_meaning.specs.Terms.{Speaks, Part, at_head, val, parts, part_of, denominator, denominators, denominator_of}
use Rattle.gb_meaning.specs.Commands.{terms_in}
use Rattle.gb_meaning.proofs.Nodes.{val_node, denominator_node}
use Rattle.gb_laws.specs.Formed.{AreTwo, AreThree, HasArguments, IsFormed, AllFormed}
use Rattle.gb_laws.specs.Plain.{HeadIsPlain, IsPlain, AllPlain}
use Rattle.gb_laws.specs.Lifted.{Lifted}
use Rattle.gb_laws.proofs.Trees.{raised_at, term_raised_is}
use Rattle.gb_laws.proofs.Heads.{Moved, Under, of_arguments, of_last, Related, inner_same, chance_same, Answers}
use mathlib.Core.Former.{Count}

next : (k : ℕ) → k + 1 ≡ suc k
next k = omega arith

pub index_zero : (k : ℕ) → index_raised (k + 1) 0 ≡ 0
index_zero k = ap (λ z. if nat_le z 0 then 0 + 1 else 0) (next k) ∙ ap (λ b. if b then 0 + 1 else 0) (leb-suc-zero k)

pub index_suc : (k i : ℕ) → index_raised (k + 1) (suc i) ≡ suc (index_raised k i)
index_suc k i = ap (λ z. if nat_le z (suc i) then suc i + 1 else suc i) (next k) ∙ ap (λ b. if b then suc i + 1 else suc i) (leb-suc-suc k i) ∙ step (nat_le k i)
  where
    step : (b : Bool) → (if b then suc i + 1 else suc i) ≡ suc (if b then i + 1 else i)
    step true = omega arith
    step false = refl

pub lifted_under : (k : ℕ) (s q : State) → Lifted k s q → (b : Binding) → Lifted (k + 1) (under s b) (under q b)
lifted_under k s q l b = record { logical = l.logical; named = l.named; own = l.own; left = l.left; right = l.right; bound = each }
  where
    each : (i : ℕ) → binding (under s b) (index_raised (k + 1) i) ≡ binding (under q b) i
    each zero = ap (binding (under s b)) (index_zero k)
    each (suc i) = ap (binding (under s b)) (index_suc k i) ∙ l.bound i

pub lifted_at : (k : ℕ) (s q : State) → Lifted k s q → (m : Memory) → Lifted k (at s m) (at q m)
lifted_at k s q l m = record { logical = l.logical; named = l.named; own = refl; left = l.left; right = l.right; bound = l.bound }

pub lifted_between : (k : ℕ) (s q : State) → Lifted k s q → (m n : Memory) → Lifted k (between s m n) (between q m n)
lifted_between k s q l m n = record { logical = l.logical; named = l.named; own = l.own; left = refl; right = refl; bound = l.bound }

pub lifted_side : (k : ℕ) (s q : State) → Lifted k s q → (r : Side) → memory_of s (side_raised k r) ≡ memory_of q r
lifted_side k s q l side.Own = l.own
lifted_side k s q l side.Left = l.left
lifted_side k s q l side.Right = l.right
lifted_side k s q l (side.Memory i) = ap (λ f. f i) l.named
lifted_side k s q l (side.Bound i) = ap memory_in (l.bound i)

two_parts : {n : Count} (g : Setting) (j : Speaks) (ts : Row_of-Term n) → AreTwo (terms_in ts) → AreTwo (parts g j ts)
two_parts g j end_of-Term a = absurd a
two_parts g j (more_of-Term t end_of-Term) a = absurd a
two_parts g j (more_of-Term t (more_of-Term u end_of-Term)) a = tt
two_parts g j (more_of-Term t (more_of-Term u (more_of-Term v ts))) a = absurd a

three_parts : {n : Count} (g : Setting) (j : Speaks) (ts : Row_of-Term n) → AreThree (terms_in ts) → AreThree (parts g j ts)
three_parts g j end_of-Term a = absurd a
three_parts g j (more_of-Term t end_of-Term) a = absurd a
three_parts g j (more_of-Term t (more_of-Term u end_of-Term)) a = absurd a
three_parts g j (more_of-Term t (more_of-Term u (more_of-Term v end_of-Term))) a = tt
three_parts g j (more_of-Term t (more_of-Term u (more_of-Term v (more_of-Term w ts)))) a = absurd a

pub has_parts : {n : Count} (g : Setting) (j : Speaks) (h : Head) (ts : Row_of-Term n) → HasArguments h (terms_in ts) → HasArguments h (parts g j ts)
has_parts g j head.Mu ts a = two_parts g j ts a
has_parts g j head.Map ts a = two_parts g j ts a
has_parts g j head.Restrict ts a = two_parts g j ts a
has_parts g j (head.Phoare c r) ts a = three_parts g j ts a
has_parts g j _ ts a = tt

module _ (g : Setting) where
  denominator_raised_at : (h : Head) (k : ℕ) (ks : List ℕ) (ty : Ty) → denominator_of g (raised_at h k) ks ty ≡ denominator_of g h ks ty
  denominator_raised_at (head.Hoare c) k ks ty = refl
  denominator_raised_at _ k ks ty = refl

  mutual
    pub denominator_raised : (t : Term) (k : ℕ) → denominator g (term_raised t k) ≡ denominator g t
    denominator_raised (Term' p (more_of-Head h end_of-Head) n ts ty) k =
        ap (denominator g) (term_raised_is h n ts ty k)
        ∙ denominator_node g (raised_at h k) (seen_by k (last_from (raised_at h k) k) (map term_raised (terms_in ts))) ty
        ∙ ap (λ ks. denominator_of g (raised_at h k) ks ty) (denominators_raised ts k (last_from (raised_at h k) k))
        ∙ denominator_raised_at h k (denominators g ts) ty

    denominators_raised : {n : Count} (ts : Row_of-Term n) (k l : ℕ) → map (denominator g) (seen_by k l (map term_raised (terms_in ts))) ≡ denominators g ts
    denominators_raised end_of-Term k l = refl
    denominators_raised (more_of-Term t ts) k l =
        let one = denominator_raised t (where_last (map term_raised (terms_in ts)) k l) in
        let rest = denominators_raised ts k l in
        λ i. one i ∷ rest i

  module _ (j : Speaks) where
    -- raising leaves the meaning of a term
    abbrev pub Steady : Term → Type 0
    Steady t = (k : ℕ) (s q : State) → Lifted k s q → val g j (term_raised t k) s ≡ val g j t q

    abbrev pub AllSteady : {n : Count} → Row_of-Term n → Type 0
    AllSteady end_of-Term = Unit {0}
    AllSteady (more_of-Term t ts) = Steady t × AllSteady ts

    moved : {n : Count} (R L : Part → Part → Type 0) (k l : ℕ) → ((t : Term) → Steady t → R (part_of g j (term_raised t k)) (part_of g j t)) →
        ((t : Term) → Steady t → L (part_of g j (term_raised t l)) (part_of g j t)) → (ts : Row_of-Term n) → AllSteady ts →
        Moved R L (map (part_of g j) (seen_by k l (map term_raised (terms_in ts)))) (parts g j ts)
    moved R L k l f h end_of-Term a = tt
    moved R L k l f h (more_of-Term t end_of-Term) a = h t a.0
    moved R L k l f h (more_of-Term t (more_of-Term u ts)) a = (f t a.0, moved R L k l f h (more_of-Term u ts) a.1)

    module _ (k : ℕ) (s q : State) (l : Lifted k s q) where
      steady_argument : (h : Head) (t : Term) → Steady t → of_arguments s q h (part_of g j (term_raised t k)) (part_of g j t)
      steady_argument (head.Hoare c) t e = λ m. e k (at s m) (at q m) (lifted_at k s q l m)
      steady_argument (head.Phoare c r) t e = λ m. e k (at s m) (at q m) (lifted_at k s q l m)
      steady_argument (head.Equiv c d) t e = λ m n. e k (between s m n) (between q m n) (lifted_between k s q l m n)
      steady_argument _ t e = (e k s q l, denominator_raised t k)

      beneath : (t : Term) → Steady t → Under s q (part_of g j (term_raised t (k + 1))) (part_of g j t)
      beneath t e = λ b. e (k + 1) (under s b) (under q b) (lifted_under k s q l b)

      steady_last : (h : Head) (t : Term) → Steady t → of_last s q h (part_of g j (term_raised t (last_from (raised_at h k) k))) (part_of g j t)
      steady_last (head.All u) t e = beneath t e
      steady_last (head.Some u) t e = beneath t e
      steady_last head.AllMemory t e = beneath t e
      steady_last head.SomeMemory t e = beneath t e
      steady_last (head.AllModule b) t e = beneath t e
      steady_last head.Mu t e = beneath t e
      steady_last (head.Sum n) t e = beneath t e
      steady_last head.Map t e = beneath t e
      steady_last head.Restrict t e = beneath t e
      steady_last (head.Pr p r) t e = λ m. e k (at s m) (at q m) (lifted_at k s q l m)
      steady_last (head.Hoare c) t e = λ m. e k (at s m) (at q m) (lifted_at k s q l m)
      steady_last (head.Equiv c d) t e = λ m n. e k (between s m n) (between q m n) (lifted_between k s q l m n)
      steady_last _ t e = (e k s q l, denominator_raised t k)

      pub raised_head : (u w : Term) (h : Head) (xs ys : List Part) (ty : Ty) → HasArguments h ys → Related s q h xs ys → Answers h (j.judged u s) (j.judged w q) →
          at_head g j u (raised_at h k) xs ty s ≡ at_head g j w h ys ty q
      raised_head u w (head.Read (Logical i)) xs ys ty a r e = ap (λ f. f i) l.logical
      raised_head u w (head.Read (Program x o)) xs ys ty a r e = ap (λ m. finite (read g.types m x ty)) (lifted_side k s q l o)
      raised_head u w (head.Bound i) xs ys ty a r e = ap meaning_in (l.bound i)
      raised_head u w (head.Glob x o) xs ys ty a r e = ap (λ m. finite (read_globals g.types m (g.types.footprint x))) (lifted_side k s q l o)
      raised_head u w (head.Pr p o) xs ys ty a r e = chance_same s q g j p xs ys _ _ (lifted_side k s q l o) r
      raised_head u w head.AllMemory xs ys ty a r e = ap of_truth e
      raised_head u w head.SomeMemory xs ys ty a r e = ap of_truth e
      raised_head u w (head.Hoare c) xs ys ty a r e = ap of_truth e
      raised_head u w (head.Phoare c o) xs ys ty a r e = ap of_truth e
      raised_head u w (head.Equiv c d) xs ys ty a r e = ap of_truth e
      raised_head u w h xs ys ty a r e = inner_same s q g j u w h xs ys ty tt a r

      pub steady_node : {n : Count} (h : Head) (ts : Row_of-Term n) → AllSteady ts →
          Related s q h (map (part_of g j) (seen_by k (last_from (raised_at h k) k) (map term_raised (terms_in ts)))) (parts g j ts)
      steady_node h ts a = moved (of_arguments s q h) (of_last s q h) k (last_from (raised_at h k) k) (steady_argument h) (steady_last h) ts a

    pub plain_answers : (h : Head) → HeadIsPlain h → (a b : Bool) → Answers h a b
    plain_answers head.AllMemory p a b = absurd p
    plain_answers head.SomeMemory p a b = absurd p
    plain_answers (head.Hoare c) p a b = absurd p
    plain_answers (head.Phoare c r) p a b = absurd p
    plain_answers (head.Equiv c d) p a b = absurd p
    plain_answers _ p a b = tt

    mutual
      pub plain_steady : (t : Term) → IsFormed t → IsPlain t → Steady t
      plain_steady (Term' p (more_of-Head h end_of-Head) n ts ty) f pl k s q l =
          let args = seen_by k (last_from (raised_at h k) k) (map term_raised (terms_in ts)) in
          ap (λ t. val g j t s) (term_raised_is h n ts ty k)
          ∙ val_node g j (raised_at h k) args ty s
          ∙ raised_head k s q l (node (raised_at h k) args ty) (Term' p (more_of-Head h end_of-Head) n ts ty) h (map (part_of g j) args) (parts g j ts) ty
          (has_parts g j h ts f.0) (steady_node k s q l h ts (all_plain_steady ts f.2 pl.1)) (plain_answers h pl.0 _ _)

      all_plain_steady : {n : Count} (ts : Row_of-Term n) → AllFormed ts → AllPlain ts → AllSteady ts
      all_plain_steady end_of-Term f p = tt
      all_plain_steady (more_of-Term t ts) f p = (plain_steady t f.0 p.0, all_plain_steady ts f.1 p.1)
