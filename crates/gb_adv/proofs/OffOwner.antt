-- What doesn't clash with all that is a module's own shares nothing with it, where restrictions are kept.
use Rattle.std.proofs.Common.{◌≡◌, Bool, true, false, not, ◌&&◌, ◌||◌, refl, ap, sym, ◌∙◌}
use Rattle.std.proofs.lemmas.Bool.{false≢true}
use Rattle.std.proofs.lemmas.Slice.Eq.{bytes_eq-Decides}
use Rattle.gb_core.specs.declared.var.Var.{Var}
use Rattle.gb_core.specs.declared.var.Var.TheVariants as var
use Rattle.gb_terms.specs.Equal.{var_eq}
use Rattle.gb_walk.specs.Clash.{Exclusions, clashes, excludes}
use Rattle.gb_meaning.specs.Names.{Name}
use Rattle.gb_meaning.specs.Setting.{Setting}
use Rattle.gb_typing.specs.Forms.{IsKeptOff}
use Rattle.gb_typing.specs.Puts.{clash}
use Rattle.gb_typing.proofs.ClashFree.{alone}

module _ (es : Exclusions) (a : Name) where
  clashes_itself : clashes es (var.Glob a) (var.Glob a) ≡ true
  clashes_itself = ap (λ b. b || not (excludes es a (var.Glob a) || excludes es a (var.Glob a))) ((bytes_eq-Decides a a).1 refl)

  not_beside : (b c : Bool) → c ≡ false → not (not b && c) ≡ true
  not_beside true c e = refl
  not_beside false c e = ap not e

  pub no_clash : (g : Setting) → IsKeptOff es g → (y : Var) → clashes es (var.Glob a) y ≡ false → clash g (var.Glob a) y ≡ false
  no_clash g off y e =
      alone g es off (var.Glob a) y (not_beside (var_eq (var.Glob a) y) (clashes es (var.Glob a) y) e)
      (λ i. false≢true (sym e ∙ ap (clashes es (var.Glob a)) (sym i) ∙ clashes_itself))
