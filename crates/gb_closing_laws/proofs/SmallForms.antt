-- What holds of small forms and their types.
use Rattle.std.proofs.Common.{◌≡◌, Bool, true, refl, ap, sym, ◌∙◌}
use Rattle.gb_core.specs.declared.ty.Ty.TheVariants as ty
use Rattle.gb_core.specs.declared.ty.Ty.TheVariants.{rolls-Glob, rolls-Opt}
use Rattle.gb_core.specs.declared.ty.Ty.TheOpen as layer
use Rattle.gb_core.specs.declared.ty.Ty.TheFolds.{fold-roll-Ty}
use Rattle.gb_meaning.specs.Trees.{options}
use Rattle.gb_laws.proofs.Constructors.{option_is}
use Rattle.gb_labels.specs.Things.{holds_glob, holds_layer, is_same}
use Rattle.gb_labels.proofs.Same.{same_is}
use Rattle.gb_closing_laws.specs.Examples.{a, b, value_of_x}

pub globals_hold : holds_glob (ty.Glob a) ≡ true
globals_hold = ap holds_glob (sym (rolls-Glob a)) ∙ fold-roll-Ty Bool holds_layer (layer.Glob a)

pub others_hold : holds_glob (ty.Glob b) ≡ true
others_hold = ap holds_glob (sym (rolls-Glob b)) ∙ fold-roll-Ty Bool holds_layer (layer.Glob b)

pub options_hold : holds_glob (options (ty.Glob a)) ≡ true
options_hold = ap holds_glob (sym (option_is (ty.Glob a)) ∙ sym (rolls-Opt (ty.Glob a))) ∙ fold-roll-Ty Bool holds_layer (layer.Opt (ty.Glob a)) ∙ globals_hold

pub one_term : is_same value_of_x value_of_x ≡ true
one_term = sym (same_is value_of_x value_of_x true ((λ e. refl), (λ e. refl)))
