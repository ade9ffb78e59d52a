-- Literals of `bool` and of `int[n]`.
use Rattle.std.proofs.Common.{ℕ, ◌<◌, Bool, ap, sym, ◌∙◌}
use Rattle.gb_core.specs.declared.ty.Ty.TheVariants as ty
use Rattle.gb_core.specs.declared.ty.Ty.TheOpen as layer
use Rattle.gb_core.specs.declared.ty.Ty.TheFolds.{fold-roll-Ty}
use Rattle.gb_core.specs.declared.value.Value.TheVariants.{Num}
use Rattle.gb_core.specs.Numbering.{Numbering}
use Rattle.gb_core.specs.Types.{finite_step, is_finite, numbering_step, numbering}
use Rattle.gb_laws.specs.Typing.{IsLiteral}
use Rattle.gb_laws.proofs.Meanings.{number_has}

pub bool_literal : (i : ℕ) → i < 2 → IsLiteral ty.Bool (Num i)
bool_literal i h = (
  ap is_finite (sym ty.rolls-Bool) ∙ fold-roll-Ty Bool finite_step layer.Bool,
  ap (λ (k : Numbering). k.has (Num i)) (ap numbering (sym ty.rolls-Bool) ∙ fold-roll-Ty Numbering numbering_step layer.Bool) ∙ number_has 2 i h,
)

pub mod_literal : (n i : ℕ) → i < n → IsLiteral (ty.Mod n) (Num i)
mod_literal n i h = (
  ap is_finite (sym (ty.rolls-Mod n)) ∙ fold-roll-Ty Bool finite_step (layer.Mod n),
  ap (λ (k : Numbering). k.has (Num i)) (ap numbering (sym (ty.rolls-Mod n)) ∙ fold-roll-Ty Numbering numbering_step (layer.Mod n)) ∙ number_has n i h,
)
