-- Hypotheses and a conclusion in a state.
use Rattle.std.specs.Prelude.{◌≡◌, true, List}
use Rattle.std.specs.List.{AllByRecursion}
use Rattle.gb_terms.specs.declared.term.Term.{Term}
use Rattle.gb_meaning.specs.Setting.{Setting}
use Rattle.gb_meaning.specs.Meanings.{truth}
use Rattle.gb_meaning.specs.State.{State}
use Rattle.gb_meaning.specs.Terms.{Speaks, val}
use Rattle.gb_typing.specs.Context.{Context}
use Rattle.gb_typing.specs.Typing.{IsForm}

abbrev pub AreForms : Context → List Term → Type 0
AreForms c ts = AllByRecursion (IsForm c) ts

-- true hypotheses give a true conclusion
abbrev pub Follows : Setting → Speaks → State → List Term → Term → Type 0
Follows g j s hyps t = AllByRecursion (λ h. truth (val g j h s) ≡ true) hyps → truth (val g j t s) ≡ true
