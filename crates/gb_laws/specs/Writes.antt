-- What programs write.
use Rattle.std.specs.Prelude.{◌≢◌, List, [], ◌∷◌, map}
use Rattle.gb_core.specs.declared.var.Var.{Var}
use Rattle.gb_core.specs.declared.var.Var.TheVariants as var
use Rattle.gb_terms.specs.declared.module.Mexp.TheVariants.{Name as named}
use Rattle.gb_meaning.specs.Values.{Global, Types}
use Rattle.gb_meaning.specs.Program.{Program, Routine}
use Rattle.gb_meaning.specs.Program.Program.{done, assign, sample, branch, loop, call, ask}
use Rattle.gb_meaning.specs.Program.Routine.{routine}
use Rattle.gb_meaning.specs.Setting.{Setting}
use Rattle.gb_laws.specs.Cells.{Key}
use Rattle.gb_laws.specs.Cells.Key.{global, local}

abbrev pub key_of_global : Global → Key
key_of_global x = global (x.parent ∷ x.name ∷ [])

-- the places that a variable names
abbrev pub keys_of : Types → Var → List Key
keys_of t (var.Global p n) = global (p ∷ n ∷ []) ∷ []
keys_of t (var.Local x) = local (x ∷ []) ∷ []
keys_of t (var.Glob a) = map key_of_global (t.footprint (named a))

-- the place is none of these
abbrev pub IsNone : Key → List Key → Type 0
IsNone k [] = Unit {0}
IsNone k (q ∷ qs) = (k ≢ q) × IsNone k qs

-- no variable of a left side names the place
abbrev pub Spares : Types → List Var → Key → Type 0
Spares t [] k = Unit {0}
Spares t (x ∷ xs) k = IsNone k (keys_of t x) × Spares t xs k

-- of another frame, globals alone
abbrev pub IfGlobal : Key → Type 0 → Type 0
IfGlobal (global p) P = P
IfGlobal (local p) P = Unit {0}

-- a program that does not write at the place
abbrev mutual
  pub Unwritten : Setting → Program → Key → Type 0
  Unwritten g done k = Unit {0}
  Unwritten g (assign xs e c) k = Spares g.types xs k × Unwritten g c k
  Unwritten g (sample x d c) k = IsNone k (keys_of g.types x) × Unwritten g c k
  Unwritten g (branch e a b c) k = Unwritten g a k × Unwritten g b k × Unwritten g c k
  Unwritten g (loop e v a c) k = Unwritten g a k × Unwritten g c k
  Unwritten g (call xs r es c) k = Spares g.types xs k × IfGlobal k (UnwrittenBy g r k) × Unwritten g c k
  Unwritten g (ask xs o es c) k = Unwritten g c k

  pub UnwrittenBy : Setting → Routine → Key → Type 0
  UnwrittenBy g (routine ps ls c r) k = Unwritten g c k
