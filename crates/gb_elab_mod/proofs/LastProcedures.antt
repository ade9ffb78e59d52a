-- The procedure that the last statement of a body calls.
use Rattle.std.proofs.Common.{◌≡◌, List, [], ◌∷◌, ◌++◌, length, None, refl, ap, sym, ◌∙◌, arith}
use Rattle.gb_terms.specs.declared.term.Instr.{Instr}
use Rattle.gb_elab_mod.specs.OnPrograms.{procedure_called, last_procedure}

last_of : (before : List Instr) (i : Instr) → last_procedure (before ++ (i ∷ [])) ≡ procedure_called i
last_of [] i = refl
last_of (j ∷ []) i = refl
last_of (j ∷ k ∷ is) i = last_of (k ∷ is) i

pub last_statement : (is before : List Instr) (i : Instr) → is ≡ before ++ (i ∷ []) → procedure_called i ≡ last_procedure is
last_statement is before i e = sym (ap last_procedure e ∙ last_of before i)

pub no_statement : (is : List Instr) → length is ≡ 0 → last_procedure is ≡ None
no_statement [] e = refl
no_statement (i ∷ is) e = absurd (omega arith)
