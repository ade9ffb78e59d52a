-- The first probability in a term.
use Rattle.std.specs.Prelude.{Bool, true, false, List, [], ◌∷◌, Option, Some, None}
use Rattle.gb_terms.specs.declared.module.ProcRef.{ProcRef}
use Rattle.gb_terms.specs.declared.op.Op.TheVariants.{Divide}
use Rattle.gb_terms.specs.declared.term.Term.{Term, Term', Row_of-Term, end_of-Term, more_of-Term, end_of-Head, more_of-Head}
use Rattle.gb_terms.specs.declared.term.Head.{Head}
use Rattle.gb_terms.specs.declared.term.Head.TheVariants.{Builtin, Pr}

-- a quotient: behind its first argument stands a divisor
abbrev pub is_quotient : Head → Bool
is_quotient (Builtin Divide) = true
is_quotient h = false

-- one thing, or another one where it is none
abbrev pub or_else : {A : Type 0} → Option A → Option A → Option A
or_else None y = y
or_else (Some x) y = Some x

-- the procedure whose probability a term of this head is
abbrev pub procedure_at : Head → Option ProcRef
procedure_at (Pr p r) = Some p
procedure_at h = None

abbrev mutual
  -- The procedure of the first probability in a term, in the order of the text: one around others comes before them. Divisors aren't gone
  -- through, nor are the programs of judgments, which stand in heads.
  pub first_procedure : Term → Option ProcRef
  first_procedure (Term' p (more_of-Head h end_of-Head) n ts ty) = or_else (procedure_at h) (first_among (is_quotient h) ts)

  -- it is told whether the first one is divided by others
  pub first_among : {n : _} → Bool → Row_of-Term n → Option ProcRef
  first_among d end_of-Term = None
  first_among true (more_of-Term t ts) = first_procedure t
  first_among false (more_of-Term t ts) = or_else (first_procedure t) (first_among false ts)

-- The same of lists.

abbrev pub first_of : List Term → Option ProcRef
first_of [] = None
first_of (t ∷ ts) = first_procedure t

abbrev pub first_in : List Term → Option ProcRef
first_in [] = None
first_in (t ∷ ts) = or_else (first_procedure t) (first_in ts)

abbrev pub first_in_list : Bool → List Term → Option ProcRef
first_in_list true ts = first_of ts
first_in_list false ts = first_in ts
