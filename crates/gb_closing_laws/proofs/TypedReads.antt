-- What a well-typed term reads of a memory that a binder binds has types of what is read.
use Rattle.std.proofs.Common.{◌≡◌, ℕ, Bool, true, false, if◌then◌else◌, List, [], ◌∷◌, ◌++◌}
use Rattle.gb_core.specs.declared.ty.Ty.{Ty}
use Rattle.gb_core.specs.declared.ty.Ty.TheVariants as ty
use Rattle.gb_core.specs.declared.var.Var.{Var}
use Rattle.gb_core.specs.declared.var.Var.TheVariants as var
use Rattle.gb_terms.specs.declared.op.Side.{Side}
use Rattle.gb_terms.specs.declared.op.Read.TheVariants.{Program}
use Rattle.gb_terms.specs.declared.term.Term.{Term, Term', Row_of-Term, end_of-Term, more_of-Term, end_of-Head, more_of-Head}
use Rattle.gb_terms.specs.declared.term.Head.{Head}
use Rattle.gb_terms.specs.declared.term.Head.TheVariants as head
use Rattle.gb_walk.specs.Layers.{seen_by}
use Rattle.gb_laws.specs.Finite.{IsFinite}
use Rattle.gb_laws.specs.Typing.{Context, types_of, IsRead, IsHead, inner, IsTyped, AreTyped}
use Rattle.gb_labels.specs.declared.reads.TypedVar.{TypedVar}
use Rattle.gb_labels.specs.Reads.{Vars, is_bound_at, head_reads, inside, joined, reads_at, each_reads, is_among, with_new, noted, reads_of}
use Rattle.gb_labels.specs.Things.{reads_inside}
use mathlib.Core.Former.{Count}

-- a type of what is read
abbrev pub IsTypeOf : Var → Ty → Type 0
IsTypeOf (var.Glob a) t = t ≡ ty.Glob a
IsTypeOf x t = IsFinite t

abbrev pub HaveTypes : Vars → Type 0
HaveTypes [] = Unit {0}
HaveTypes (x ∷ xs) = IsTypeOf x.var x.ty × HaveTypes xs

both_have : (xs ys : Vars) → HaveTypes xs → HaveTypes ys → HaveTypes (xs ++ ys)
both_have [] ys k l = l
both_have (x ∷ xs) ys k l = (k.0, both_have xs ys k.1 l)

read_has : (c : Context) (x : Var) (r : Side) (a : Ty) → IsRead c (Program x r) a → IsTypeOf x a
read_has c (var.Global m y) r a w = w.1
read_has c (var.Local y) r a w = w.1
read_has c (var.Glob m) r a w = w.1

head_has : (c : Context) (d : Head) (us : List Ty) (a : Ty) (k : ℕ) → IsHead c d us a → HaveTypes (head_reads d a k)
head_has c (head.Read (Program x r)) [] a k w = step (is_bound_at r k)
  where
    step : (b : Bool) → HaveTypes (if b then record { var = x; ty = a } ∷ [] else [])
    step true = (read_has c x r a w, tt)
    step false = tt
head_has c (head.Read (Program x r)) (u ∷ us) a k w = absurd w
head_has c _ us a k w = tt

mutual
  term_has : (t : Term) (c : Context) (k : ℕ) → IsTyped c t → HaveTypes (reads_at t k)
  term_has (Term' b (more_of-Head d end_of-Head) n ts a) c k w =
      both_have (head_reads d a k) (joined (seen_by k (inside d k) (each_reads ts))) (head_has c d (types_of ts) a k w.0) (row_has ts c (inner c d (types_of ts)) k (inside d k) w.1)

  row_has : {n : Count} (ts : Row_of-Term n) (c d : Context) (k l : ℕ) → AreTyped c d ts → HaveTypes (joined (seen_by k l (each_reads ts)))
  row_has end_of-Term c d k l w = tt
  row_has (more_of-Term t end_of-Term) c d k l w = both_have (reads_at t l) [] (term_has t d l w) tt
  row_has (more_of-Term t (more_of-Term u ts)) c d k l w =
      both_have (reads_at t k) (joined (seen_by k l (each_reads (more_of-Term u ts)))) (term_has t c k w.0) (row_has (more_of-Term u ts) c d k l w.1)

new_has : (xs : Vars) (y : TypedVar) → HaveTypes xs → IsTypeOf y.var y.ty → HaveTypes (with_new xs y)
new_has xs y k l = step (is_among xs y.var y.ty)
  where
    step : (b : Bool) → HaveTypes (if b then xs else xs ++ y ∷ [])
    step true = k
    step false = both_have xs (y ∷ []) k (l, tt)

noted_has : (xs ys : Vars) → HaveTypes xs → HaveTypes ys → HaveTypes (noted xs ys)
noted_has xs [] k l = k
noted_has xs (y ∷ ys) k l = noted_has (with_new xs y) ys (new_has xs y k l.0) l.1

body_has : (t : Term) (c : Context) → IsTyped c t → HaveTypes (reads_of t)
body_has t c w = noted_has [] (reads_at t 0) tt (term_has t c 0 w)

-- what is read of the memory that a head binds
pub inside_has : {n : Count} (d : Head) (ts : Row_of-Term n) (c e : Context) → AreTyped c e ts → HaveTypes (reads_inside d ts)
inside_has head.AllMemory (more_of-Term t end_of-Term) c e w = body_has t e w
inside_has head.SomeMemory (more_of-Term t end_of-Term) c e w = body_has t e w
inside_has _ ts c e w = tt
