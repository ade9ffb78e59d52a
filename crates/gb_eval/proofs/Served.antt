-- What evaluation asks for: the values of reads, and that quantifiers over memories read what memories give.
use Rattle.std.proofs.Common.{ℕ, ◌==◌, Bool, true, false, if◌then◌else◌, List, [], ◌∷◌, ◌++◌}
use Rattle.gb_core.specs.declared.ty.Ty.{Ty}
use Rattle.gb_terms.specs.declared.op.Side.TheVariants as side
use Rattle.gb_terms.specs.declared.op.Read.TheVariants.{Logical, Program}
use Rattle.gb_terms.specs.declared.term.Term.{Term, Term', Row_of-Term, end_of-Term, more_of-Term, end_of-Head, more_of-Head}
use Rattle.gb_terms.specs.declared.term.Head.{Head}
use Rattle.gb_terms.specs.declared.term.Head.TheVariants as head
use Rattle.gb_walk.specs.Layers.{seen_by, where_last}
use Rattle.gb_meaning.specs.Values.{Types}
use Rattle.gb_meaning.specs.Setting.{Setting}
use Rattle.gb_meaning.specs.State.{State}
use Rattle.gb_labels.specs.declared.reads.TypedVar.{TypedVar}
use Rattle.gb_labels.specs.Reads.{Vars, each_reads, head_reads, inside, is_among, joined, noted, reads_at, reads_of, with_new}
use Rattle.gb_labels.specs.Memories.{AreReadable, IsReadable}
use Rattle.gb_eval.specs.declared.env.ReadValue.{ReadValue}
use Rattle.gb_eval.specs.Eval.{Environment, Part, eval_all}
use Rattle.gb_eval.specs.Meant.{AllGiven, AreGiven, is_given, is_given_at}
use mathlib.Core.Former.{Count}

-- what a term reads of a memory is of types all values of which memories give, where each of its reads is

module _ (t : Types) where
  both_readable : (xs ys : Vars) → AreReadable t xs → AreReadable t ys → AreReadable t (xs ++ ys)
  both_readable [] ys a b = b
  both_readable (x ∷ xs) ys a b = (a.0, both_readable xs ys a.1 b)

  new_readable : (seen : Vars) (x : TypedVar) → AreReadable t seen → IsReadable t x.var x.ty → AreReadable t (with_new seen x)
  new_readable seen x a b = step (is_among seen x.var x.ty)
    where
      step : (c : Bool) → AreReadable t (if c then seen else seen ++ x ∷ [])
      step true = a
      step false = both_readable seen (x ∷ []) a (b, tt)

  noted_readable : (seen xs : Vars) → AreReadable t seen → AreReadable t xs → AreReadable t (noted seen xs)
  noted_readable seen [] a b = a
  noted_readable seen (x ∷ xs) a b = noted_readable (with_new seen x) xs (new_readable seen x a b.0) b.1

module _ (g : Setting) (s : State) (reads : List ReadValue) where
  head_readable : (h : Head) (ty : Ty) (k : ℕ) → is_given_at g s reads h ty → AreReadable g.types (head_reads h ty k)
  head_readable (head.Read (Program x (side.Bound i))) ty k a = step (i == k)
    where
      step : (c : Bool) → AreReadable g.types (if c then record { var = x; ty = ty } ∷ [] else [])
      step true = (a, tt)
      step false = tt
  head_readable (head.Read (Program x side.Own)) ty k a = tt
  head_readable (head.Read (Program x side.Left)) ty k a = tt
  head_readable (head.Read (Program x side.Right)) ty k a = tt
  head_readable (head.Read (Program x (side.Memory i))) ty k a = tt
  head_readable (head.Read (Logical i)) ty k a = tt
  head_readable _ ty k a = tt

  mutual
    term_readable : (t : Term) (k : ℕ) → AreGiven g s reads t → AreReadable g.types (reads_at t k)
    term_readable (Term' p (more_of-Head h end_of-Head) n ts ty) k a =
        both_readable g.types (head_reads h ty k) (joined (seen_by k (inside h k) (each_reads ts))) (head_readable h ty k a.0) (row_readable ts k (inside h k) a.1)

    row_readable : {n : Count} (r : Row_of-Term n) (y z : ℕ) → AllGiven g s reads r → AreReadable g.types (joined (seen_by y z (each_reads r)))
    row_readable end_of-Term y z a = tt
    row_readable (more_of-Term t r) y z a =
        let k = where_last (each_reads r) y z in
        both_readable g.types (reads_at t k) (joined (seen_by y z (each_reads r))) (term_readable t k a.0) (row_readable r y z a.1)

  readable : (t : Term) → AreGiven g s reads t → AreReadable g.types (reads_of t)
  readable t a = noted_readable g.types [] (reads_at t 0) tt (term_readable t 0 a)

module _ (g : Setting) (s : State) (env : Environment) where
  -- what a head asks for
  abbrev pub Serves : Head → List Part → Ty → Type 0
  Serves (head.Read (Program x (side.Bound i))) xs ty = Unit {0}
  Serves (head.Read r) xs ty = is_given g s env.reads r ty
  Serves head.AllMemory (x ∷ []) ty = AreReadable g.types x.reads
  Serves head.SomeMemory (x ∷ []) ty = AreReadable g.types x.reads
  Serves _ xs ty = Unit {0}

  abbrev mutual
    pub IsServed : Term → Type 0
    IsServed (Term' p (more_of-Head h end_of-Head) n ts ty) = Serves h (eval_all env ts) ty × AllServed ts

    pub AllServed : {n : Count} → Row_of-Term n → Type 0
    AllServed end_of-Term = Unit {0}
    AllServed (more_of-Term t ts) = IsServed t × AllServed ts

  at_given : {n : Count} (h : Head) (ts : Row_of-Term n) (ty : Ty) → is_given_at g s env.reads h ty → AllGiven g s env.reads ts → Serves h (eval_all env ts) ty
  at_given (head.Read (Program x (side.Bound i))) ts ty a b = tt
  at_given (head.Read (Program x side.Own)) ts ty a b = a
  at_given (head.Read (Program x side.Left)) ts ty a b = a
  at_given (head.Read (Program x side.Right)) ts ty a b = a
  at_given (head.Read (Program x (side.Memory i))) ts ty a b = a
  at_given (head.Read (Logical i)) ts ty a b = a
  at_given head.AllMemory end_of-Term ty a b = tt
  at_given head.AllMemory (more_of-Term t end_of-Term) ty a b = readable g s env.reads t b.0
  at_given head.AllMemory (more_of-Term t (more_of-Term u ts)) ty a b = tt
  at_given head.SomeMemory end_of-Term ty a b = tt
  at_given head.SomeMemory (more_of-Term t end_of-Term) ty a b = readable g s env.reads t b.0
  at_given head.SomeMemory (more_of-Term t (more_of-Term u ts)) ty a b = tt
  at_given _ ts ty a b = tt

  mutual
    -- a term whose reads are given is given all that it asks for
    pub served_given : (t : Term) → AreGiven g s env.reads t → IsServed t
    served_given (Term' p (more_of-Head h end_of-Head) n ts ty) a = (at_given h ts ty a.0 a.1, all_served ts a.1)

    all_served : {n : Count} (r : Row_of-Term n) → AllGiven g s env.reads r → AllServed r
    all_served end_of-Term a = tt
    all_served (more_of-Term t r) a = (served_given t a.0, all_served r a.1)
