-- Equal types and values have equal parts.
use Rattle.std.proofs.Common.{◌≡◌, ℕ, List, sym, ap, ◌∙◌}
use Rattle.gb_core.specs.declared.ty.Ty.{Ty, out-Ty}
use Rattle.gb_core.specs.declared.ty.Ty.TheOpen as layer
use Rattle.gb_core.specs.declared.ty.Ty.TheVariants as ty
use Rattle.gb_core.specs.declared.ty.Ty.TheViews.{outs-Tuple, outs-Opt, outs-Map, outs-Distr}
use Rattle.gb_core.specs.declared.value.Value.{Value, out-Value}
use Rattle.gb_core.specs.declared.value.Value.TheOpen as value_layer
use Rattle.gb_core.specs.declared.value.Value.TheVariants as value
use Rattle.gb_core.specs.declared.value.Value.TheViews.{outs-Many}

pub abstract_part : (x y : List ℕ) → ty.Abstract x ≡ ty.Abstract y → x ≡ y
abstract_part x y e = cc

pub glob_part : (x y : List ℕ) → ty.Glob x ≡ ty.Glob y → x ≡ y
glob_part x y e = cc

pub enumeration_parts : (x y : List ℕ) (m n : ℕ) → ty.Enumeration x m ≡ ty.Enumeration y n → (x ≡ y) × (m ≡ n)
enumeration_parts x y m n e = (cc, cc)

pub tuple_part : (xs ys : List Ty) → ty.Tuple xs ≡ ty.Tuple ys → xs ≡ ys
tuple_part xs ys e =
    let k : layer.Tuple xs ≡ layer.Tuple ys = sym (outs-Tuple xs) ∙ ap out-Ty e ∙ outs-Tuple ys in cc

pub opt_part : (x y : Ty) → ty.Opt x ≡ ty.Opt y → x ≡ y
opt_part x y e = let k : layer.Opt x ≡ layer.Opt y = sym (outs-Opt x) ∙ ap out-Ty e ∙ outs-Opt y in cc

pub map_parts : (x y u v : Ty) → ty.Map x u ≡ ty.Map y v → (x ≡ y) × (u ≡ v)
map_parts x y u v e =
    let k : layer.Map x u ≡ layer.Map y v = sym (outs-Map x u) ∙ ap out-Ty e ∙ outs-Map y v in (cc, cc)

pub distr_part : (x y : Ty) → ty.Distr x ≡ ty.Distr y → x ≡ y
distr_part x y e = let k : layer.Distr x ≡ layer.Distr y = sym (outs-Distr x) ∙ ap out-Ty e ∙ outs-Distr y in cc

pub many_part : (xs ys : List Value) → value.Many xs ≡ value.Many ys → xs ≡ ys
many_part xs ys e =
    let k : value_layer.Many xs ≡ value_layer.Many ys = sym (outs-Many xs) ∙ ap out-Value e ∙ outs-Many ys in cc
