-- Leaves that hold.
use Rattle.std.specs.Prelude.{◌≡◌, true, List}
use Rattle.std.specs.List.{AllByRecursion}
use Rattle.gb_terms.specs.declared.term.Term.{Term}
use Rattle.gb_meaning.specs.Setting.{Setting}
use Rattle.gb_meaning.specs.Meanings.{truth}
use Rattle.gb_meaning.specs.State.{State}
use Rattle.gb_meaning.specs.Terms.{Speaks, val}
use Rattle.gb_smt.specs.declared.leaves.Leaf.{Leaf}
use Rattle.gb_smt_laws.specs.Simple.{is_simple}
use Rattle.gb_smt_laws.specs.Reading.{Reading, IsReadingOf}
use Rattle.gb_smt_laws.specs.Fits.{Fits}

-- a form that fits, if it is simple
abbrev pub FitsIfSimple : Setting → Reading → Term → Type 0
FitsIfSimple g T h = is_simple h ≡ true → Fits g T h

-- a hypothesis that fits and is true, if it is simple
abbrev pub IsAssumed : Setting → Speaks → Reading → State → Term → Type 0
IsAssumed g j T s h = is_simple h ≡ true → Fits g T h × (truth (val g j h s) ≡ true)

abbrev pub AreAssumed : Setting → Speaks → Reading → State → List Term → Type 0
AreAssumed g j T s hs = AllByRecursion (IsAssumed g j T s) hs

-- a conclusion that is simple and true
abbrev pub IsConcluded : Setting → Speaks → State → Term → Type 0
IsConcluded g j s t = (is_simple t ≡ true) × (truth (val g j t s) ≡ true)

-- True hypotheses give a true conclusion in a state. Only simple hypotheses count: evaluation knows no other ones.
abbrev pub IsImplied : Setting → Speaks → Reading → State → List Term → Term → Type 0
IsImplied g j T s hyps t = AreAssumed g j T s hyps → FitsIfSimple g T t → IsConcluded g j s t

-- so they do in each state where each variable has a value of the type at which it is read
abbrev pub LeafHolds : Setting → Speaks → Leaf → Type 0
LeafHolds g j l = (T : Reading) (s : State) → IsReadingOf g T s → IsImplied g j T s l.hyps l.conclusion
