-- Literals of types whose values are numbers.
use Rattle.std.proofs.Common.{ℕ, ◌^◌, ◌<◌, Bool, List, ap, sym, ◌∙◌, arith}
use Rattle.gb_core.specs.declared.ty.Ty.TheVariants as ty
use Rattle.gb_core.specs.declared.ty.Ty.TheOpen as layer
use Rattle.gb_core.specs.declared.ty.Ty.TheFolds.{fold-roll-Ty}
use Rattle.gb_core.specs.declared.value.Value.TheVariants.{Num}
use Rattle.gb_core.specs.Numbering.{Numbering}
use Rattle.gb_core.specs.Types.{finite_step, is_finite, numbering_step, numbering}
use Rattle.gb_laws.specs.Typing.{IsLiteral}
use Rattle.gb_laws.proofs.Meanings.{number_has}

pub unit_literal : IsLiteral ty.Unit (Num 0)
unit_literal = (
  ap is_finite (sym ty.rolls-Unit) ∙ fold-roll-Ty Bool finite_step layer.Unit,
  ap (λ (k : Numbering). k.has (Num 0)) (ap numbering (sym ty.rolls-Unit) ∙ fold-roll-Ty Numbering numbering_step layer.Unit) ∙ number_has 1 0 (omega arith),
)

pub bits_literal : (n i : ℕ) → i < 2 ^ n → IsLiteral (ty.Bits n) (Num i)
bits_literal n i h = (
  ap is_finite (sym (ty.rolls-Bits n)) ∙ fold-roll-Ty Bool finite_step (layer.Bits n),
  ap (λ (k : Numbering). k.has (Num i)) (ap numbering (sym (ty.rolls-Bits n)) ∙ fold-roll-Ty Numbering numbering_step (layer.Bits n)) ∙ number_has (2 ^ n) i h,
)

pub enumeration_literal : (x : List ℕ) (n i : ℕ) → i < n → IsLiteral (ty.Enumeration x n) (Num i)
enumeration_literal x n i h = (
  ap is_finite (sym (ty.rolls-Enumeration x n)) ∙ fold-roll-Ty Bool finite_step (layer.Enumeration x n),
  ap (λ (k : Numbering). k.has (Num i)) (ap numbering (sym (ty.rolls-Enumeration x n)) ∙ fold-roll-Ty Numbering numbering_step (layer.Enumeration x n)) ∙ number_has n i h,
)
