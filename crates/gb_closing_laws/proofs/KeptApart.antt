-- Where what restrictions exclude is kept off, variables that don't clash are kept apart.
use Rattle.std.proofs.Common.{◌≡◌, Bool, true, false, not, ◌||◌, refl, ap, sym, ◌∙◌, subst}
use Rattle.std.proofs.lemmas.Bool.{false≢true}
use Rattle.std.proofs.lemmas.Slice.Eq.{bytes_eq-Decides}
use Rattle.gb_core.specs.declared.var.Var.{Var}
use Rattle.gb_core.specs.declared.var.Var.TheVariants as var
use Rattle.gb_terms.specs.Equal.{var_eq}
use Rattle.gb_terms.proofs.Equality.{var_eq-Decides}
use Rattle.gb_walk.specs.Clash.{Exclusions, clashes, excludes}
use Rattle.gb_meaning.specs.Setting.{Setting}
use Rattle.gb_typing.specs.Forms.{IsKeptOff}
use Rattle.gb_typing.specs.Puts.{share}
use Rattle.gb_typing.proofs.Clashes.{left_of_no_clash}
use Rattle.gb_typing.proofs.ClashFree.{no_share}
use Rattle.gb_labels.specs.Memories.{AreKeptApart}

module _ (es : Exclusions) where
  -- a variable clashes with itself
  with_itself : (x : Var) → clashes es x x ≡ true
  with_itself (var.Glob a) = ap (λ b. b || not (excludes es a (var.Glob a) || excludes es a (var.Glob a))) ((bytes_eq-Decides a a).1 refl)
  with_itself (var.Global m x) = (var_eq-Decides (var.Global m x) (var.Global m x)).1 refl
  with_itself (var.Local x) = (var_eq-Decides (var.Local x) (var.Local x)).1 refl

  another : (x y : Var) → clashes es x y ≡ false → var_eq x y ≡ false
  another x y e = step (var_eq x y) refl
    where
      step : (b : Bool) → var_eq x y ≡ b → b ≡ false
      step true q = absurd (false≢true (sym (subst (λ z. clashes es x z ≡ false) (sym ((var_eq-Decides x y).0 q)) e) ∙ with_itself x))
      step false q = refl

  pub kept_apart : (g : Setting) → IsKeptOff es g → AreKeptApart es g.types
  kept_apart g off x y e b m v = left_of_no_clash g x y b (ap (λ c. c || share g x y) (another x y e) ∙ no_share g es off x y e) m v
