-- The loops of typed programs.
use Rattle.std.proofs.Common.{◌≡◌, List, [], ◌∷◌}
use Rattle.std.specs.List.{AllByRecursion}
use Rattle.gb_core.specs.declared.ty.Ty.TheVariants as ty
use Rattle.gb_terms.specs.declared.decl.TypedName.{TypedName}
use Rattle.gb_terms.specs.declared.term.Head.TheVariants.{Assign, Sample, Call', If', While'}
use Rattle.gb_terms.specs.declared.term.Instr.{Instr, Row_of-Instr, end_of-Instr, more_of-Instr}
use Rattle.gb_meaning.specs.Written.{type_of, IsModulo}
use Rattle.gb_typing.specs.Context.{Context}
use Rattle.gb_typing.specs.Programs.{AreStatements, EachStatement, IsExpression, IsStatement}
use Rattle.gb_loops.specs.Loops.{Loop, listed, statement_loops, row_loops, loops}
use Rattle.gb_elab_laws.proofs.Lists.{together}
use mathlib.Core.Former.{Count}

pub record IsTypedLoop (c : Context) (ls : List TypedName) (l : Loop) : Type 0 where
  pub guard : IsExpression c ls l.guard
  pub test : type_of l.guard ≡ ty.Bool
  pub variant : IsExpression c ls l.variant
  pub modulo : IsModulo (type_of l.variant)
  pub body : EachStatement c ls l.body

module _ (c : Context) (ls : List TypedName) where
  listed_typed : {n : Count} (r : Row_of-Instr n) → AreStatements c ls r → EachStatement c ls (listed r)
  listed_typed end_of-Instr h = tt
  listed_typed (more_of-Instr i is) h = (h.0, listed_typed is h.1)

  mutual
    statement_typed : (i : Instr) → IsStatement c ls i → AllByRecursion (IsTypedLoop c ls) (statement_loops i)
    statement_typed (Assign xs e) h = tt
    statement_typed (Sample x d) h = tt
    statement_typed (Call' xs p n es) h = tt
    statement_typed (If' e m a n b) h = together (IsTypedLoop c ls) (row_loops a) (row_loops b) (row_typed a h.1) (row_typed b h.2)
    statement_typed (While' e v n a) h =
        let l : Loop = record { guard = e; variant = v; body = listed a } in
        together (IsTypedLoop c ls) (row_loops a) (l ∷ []) (row_typed a h.2)
        (record { guard = h.0.0; test = h.0.1; variant = h.1.0; modulo = h.1.1; body = listed_typed a h.2 }, tt)

    row_typed : {n : Count} (r : Row_of-Instr n) → AreStatements c ls r → AllByRecursion (IsTypedLoop c ls) (row_loops r)
    row_typed end_of-Instr h = tt
    row_typed (more_of-Instr i is) h = together (IsTypedLoop c ls) (statement_loops i) (row_loops is) (statement_typed i h.0) (row_typed is h.1)

  pub loops_typed : (is : List Instr) → EachStatement c ls is → AllByRecursion (IsTypedLoop c ls) (loops is)
  loops_typed [] h = tt
  loops_typed (i ∷ is) h = together (IsTypedLoop c ls) (statement_loops i) (loops is) (statement_typed i h.0) (loops_typed is h.1)
