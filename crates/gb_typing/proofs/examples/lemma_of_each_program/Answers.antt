use Rattle.std.proofs.Common.{◌≡◌, ℕ, List, refl, [], ◌∷◌, get_or, ap, sym, ◌∙◌, arith}
use Rattle.std.proofs.lemmas.Fmt.{decimal_digit}
use Rattle.gb_meaning.specs.HoldingExamples.{any_oracle}
use Rattle.gb_typing.proofs.Literals.{bool_literal}
use Rattle.gb_typing.proofs.examples.lemma_of_each_program.Goals as goal

other_name : (n : List ℕ) → n ≡ 65 ∷ [] → n ≡ 48 ∷ [] → ⊥
other_name n e f = absurd (omega (arith, ap (λ (m : List ℕ). get_or m 0 0) (sym e ∙ f)))

pub returns : goal.returns
returns x = record {
  formula = record {
    modules = tt;
    logical = tt;
    frames = [];
    memories = refl;
    hyps = tt;
    conclusion = (
      (refl, (refl, tt)),
      record { free = refl; known = tt; minus = tt; bounds = tt },
      sym (decimal_digit 0 (omega arith)),
      record {
        typed = ((refl, (refl, (refl, tt))), tt, [], ((bool_literal 1 (omega arith), tt, [], tt), (bool_literal 1 (omega arith), tt, [], tt)));
        truth = refl;
      },
    );
  };
  no_form = λ w. w.typed.1;
  no_name_of_a_script = λ w. other_name any_oracle.name refl (w.2 ∙ decimal_digit 0 (omega arith));
}
