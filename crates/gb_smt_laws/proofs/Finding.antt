-- What changes find behind others, and under a binder.
use Rattle.std.proofs.Common.{◌≡◌, ℕ, zero, suc, ◌==◌, Bool, true, false, if◌then◌else◌, ◌⊎◌, inl, inr, Option, None, [], ◌∷◌, ◌++◌, refl, ap, sym, ◌∙◌, subst, arith}
use Rattle.std.specs.Option.{option_or, option_map}
use Rattle.std.proofs.Math.Dec.{eqb-suc-zero}
use Rattle.std.proofs.lemmas.Bool.Decides.{Decides-eqb}
use Rattle.gb_core.specs.declared.ty.Ty.{Ty}
use Rattle.gb_terms.specs.declared.op.Side.{Side}
use Rattle.gb_terms.specs.declared.op.Side.TheVariants as side
use Rattle.gb_terms.specs.declared.op.Read.{Read}
use Rattle.gb_terms.specs.declared.op.Read.TheVariants.{Logical, Program}
use Rattle.gb_terms.specs.declared.term.Term.{Term}
use Rattle.gb_terms.specs.declared.term.Head.TheVariants as head
use Rattle.gb_terms.specs.Equal.{side_eq, read_eq}
use Rattle.gb_terms.specs.Make.{node}
use Rattle.gb_walk.specs.Raise.{side_raised, term_raised}
use Rattle.gb_walk.specs.declared.change.Change.TheVariants.{ToTerm, OfBound, ToSide}
use Rattle.gb_walk.specs.Change.{Changes, under_binder, or_later, found_for_read, found_for_bound, side_changed}
use Rattle.gb_meaning.specs.Trees.{places, row}
use Rattle.gb_meaning.proofs.Nodes.{term_is_node}
use Rattle.gb_laws.proofs.Trees.{term_raised_is}
use Rattle.gb_laws.proofs.Lookups.{index_next, raised_bound, read_found_under, read_of_binder}
use Rattle.gb_smt_laws.specs.Reading.{Variables, behind}

later_or : (b : Bool) (t : Term) (o p : Option Term) → or_later b t (option_or o p) ≡ option_or (or_later b t o) p
later_or true t o p = refl
later_or false t o p = refl

pub read_found_behind : (cs ds : Changes) (r : Read) → found_for_read (cs ++ ds) r ≡ option_or (found_for_read cs r) (found_for_read ds r)
read_found_behind [] ds r = refl
read_found_behind (ToTerm o t ∷ cs) ds r = ap (or_later (read_eq o r) t) (read_found_behind cs ds r) ∙ later_or (read_eq o r) t _ _
read_found_behind (OfBound i t ∷ cs) ds r = read_found_behind cs ds r
read_found_behind (ToSide a b ∷ cs) ds r = read_found_behind cs ds r

pub bound_found_behind : (cs ds : Changes) (k : ℕ) → found_for_bound (cs ++ ds) k ≡ option_or (found_for_bound cs k) (found_for_bound ds k)
bound_found_behind [] ds k = refl
bound_found_behind (ToTerm o t ∷ cs) ds k = bound_found_behind cs ds k
bound_found_behind (OfBound i t ∷ cs) ds k = ap (or_later (i == k) t) (bound_found_behind cs ds k) ∙ later_or (i == k) t _ _
bound_found_behind (ToSide a b ∷ cs) ds k = bound_found_behind cs ds k

-- a change of another side
pub other_side_behind : (cs : Changes) (a b r : Side) → side_eq a r ≡ false → side_changed (cs ++ ToSide a b ∷ []) r ≡ side_changed cs r
other_side_behind [] a b r e = ap (λ z. if z then b else r) e
other_side_behind (ToTerm o t ∷ cs) a b r e = other_side_behind cs a b r e
other_side_behind (OfBound i t ∷ cs) a b r e = other_side_behind cs a b r e
other_side_behind (ToSide c d ∷ cs) a b r e = ap (λ z. if side_eq c r then d else z) (other_side_behind cs a b r e)

pub no_side_behind : (cs : Changes) (i : ℕ) (t : Term) (r : Side) → side_changed (cs ++ OfBound i t ∷ []) r ≡ side_changed cs r
no_side_behind [] i t r = refl
no_side_behind (ToTerm o u ∷ cs) i t r = no_side_behind cs i t r
no_side_behind (OfBound k u ∷ cs) i t r = no_side_behind cs i t r
no_side_behind (ToSide c d ∷ cs) i t r = ap (λ z. if side_eq c r then d else z) (no_side_behind cs i t r)

pub zero_suc : (i : ℕ) → (0 == suc i) ≡ false
zero_suc i = step (0 == suc i) refl
  where
    step : (b : Bool) → (0 == suc i) ≡ b → b ≡ false
    step false e = refl
    step true e = let k = (Decides-eqb 0 (suc i)).0 e in absurd (omega (arith, k))

pub raised_is_other : (r : Side) → side_eq (side.Bound 0) (side_raised 0 r) ≡ false
raised_is_other (side.Bound i) = ap (λ k. 0 == k) (index_next i) ∙ zero_suc i
raised_is_other _ = refl

raised_is_no_zero : (r : Side) → side_eq (side_raised 0 r) (side.Bound 0) ≡ false
raised_is_no_zero (side.Bound i) = ap (λ k. k == 0) (index_next i) ∙ eqb-suc-zero i
raised_is_no_zero _ = refl

-- the memory that the innermost binder binds
pub last_side : (cs : Changes) (b : Side) → side_changed (under_binder cs ++ ToSide (side.Bound 0) b ∷ []) (side.Bound 0) ≡ b
last_side [] b = refl
last_side (ToTerm o t ∷ cs) b = last_side cs b
last_side (OfBound i t ∷ cs) b = last_side cs b
last_side (ToSide c d ∷ cs) b = (λ i. if raised_is_no_zero c i then side_raised 0 d else last_side cs b i)

-- a side is that of the innermost binder, or one of outside
pub raised_or_innermost : (r : Side) → ((o : Side) × (side_raised 0 o ≡ r)) ⊎ (r ≡ side.Bound 0)
raised_or_innermost side.Own = inl (side.Own, refl)
raised_or_innermost side.Left = inl (side.Left, refl)
raised_or_innermost side.Right = inl (side.Right, refl)
raised_or_innermost (side.Memory i) = inl (side.Memory i, refl)
raised_or_innermost (side.Bound zero) = inr refl
raised_or_innermost (side.Bound (suc i)) = inl (side.Bound i, raised_bound i)

pub behind_raised : (f : Variables) (m : Side → Variables) (o : Side) → behind f m (side_raised 0 o) ≡ m o
behind_raised f m side.Own = refl
behind_raised f m side.Left = refl
behind_raised f m side.Right = refl
behind_raised f m (side.Memory i) = refl
behind_raised f m (side.Bound i) = ap (behind f m) (raised_bound i)

-- changes of no reads stay so
pub none_under : (cs : Changes) → ((r : Read) → found_for_read cs r ≡ None) → (r : Read) → found_for_read (under_binder cs) r ≡ None
none_under cs f (Logical i) = read_found_under cs (Logical i) ∙ ap (option_map (λ u. term_raised u 0)) (f (Logical i))
none_under cs f (Program x r) = step (raised_or_innermost r)
  where
    step : ((o : Side) × (side_raised 0 o ≡ r)) ⊎ (r ≡ side.Bound 0) → found_for_read (under_binder cs) (Program x r) ≡ None
    step (inl (o, e)) =
        subst (λ r. found_for_read (under_binder cs) (Program x r) ≡ None) e
        (read_found_under cs (Program x o) ∙ ap (option_map (λ u. term_raised u 0)) (f (Program x o)))
    step (inr e) = subst (λ r. found_for_read (under_binder cs) (Program x r) ≡ None) (sym e) (read_of_binder cs x)

-- a logical variable
abbrev pub variable : ℕ → Ty → Term
variable k u = node (head.Read (Logical k)) [] u

pub variable_raised : (k : ℕ) (u : Ty) → term_raised (variable k u) 0 ≡ variable k u
variable_raised k u =
    ap (λ t. term_raised t 0) (sym (term_is_node (head.Read (Logical k)) [] u))
    ∙ term_raised_is (head.Read (Logical k)) (places []) (row []) u 0
