-- Claims in a state.
use Rattle.std.specs.Prelude.{◌≡◌, true, List, [], ◌∷◌}
use Rattle.gb_core.specs.declared.value.Value.{Value}
use Rattle.gb_terms.specs.declared.term.Term.{Term}
use Rattle.gb_meaning.specs.Setting.{Setting}
use Rattle.gb_meaning.specs.Meanings.{truth}
use Rattle.gb_meaning.specs.State.{State}
use Rattle.gb_meaning.specs.Terms.{Speaks, val}
use Rattle.gb_eval.specs.declared.env.ReadValue.{ReadValue}
use Rattle.gb_eval.specs.Meant.{AreGiven, AreJudged}
use Rattle.gb_smt.specs.declared.claims.Claim.{Claim}
use Rattle.gb_smt.specs.Assign.{with_values}

-- each of the forms is true in the state
abbrev pub AreTrue : Setting → Speaks → State → List Term → Type 0
AreTrue g j s [] = Unit {0}
AreTrue g j s (t ∷ ts) = (truth (val g j t s) ≡ true) × AreTrue g j s ts

-- the reads of each of the forms mean what is given for them
abbrev pub EachGiven : Setting → State → List ReadValue → List Term → Type 0
EachGiven g s reads [] = Unit {0}
EachGiven g s reads (t ∷ ts) = AreGiven g s reads t × EachGiven g s reads ts

-- in each of the forms quantifiers over memories say what they say
abbrev pub EachJudged : Setting → Speaks → List Term → Type 0
EachJudged g j [] = Unit {0}
EachJudged g j (t ∷ ts) = AreJudged g j t × EachJudged g j ts

-- and so they do in each form
abbrev pub IsRight : Setting → Speaks → Type 0
IsRight g j = (t : Term) → AreJudged g j t

abbrev pub IsJudgedClaim : Setting → Speaks → Claim → Type 0
IsJudgedClaim g j c = EachJudged g j c.hyps × AreJudged g j c.conclusion

-- the variables of a claim have these values in the state
abbrev pub HasValues : Setting → State → Claim → List Value → Type 0
HasValues g s c values =
    EachGiven g s (with_values c.variables values) c.hyps × AreGiven g s (with_values c.variables values) c.conclusion
