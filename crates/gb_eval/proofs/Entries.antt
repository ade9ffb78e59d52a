-- Maps with a value for a key.
use Rattle.std.proofs.Common.{◌≡◌, Bool, true, false, ◌&&◌, if◌then◌else◌, List, ap, ◌∙◌}
use Rattle.gb_core.specs.declared.ty.Ty.{Ty}
use Rattle.gb_core.specs.declared.ty.Ty.TheVariants as ty
use Rattle.gb_core.specs.declared.value.Value.{Value}
use Rattle.gb_core.specs.declared.value.Value.TheVariants.{Many}
use Rattle.gb_core.specs.Types.{numbering}
use Rattle.gb_labels.specs.Keys.{are_keys, is_key}
use Rattle.gb_meaning.specs.Operators.{entry_set}
use Rattle.gb_laws.proofs.Constructors.{map_is}
use Rattle.gb_eval.specs.Findings.{Comes, Finding}
use Rattle.gb_eval.specs.Findings.Finding.{value}
use Rattle.gb_eval.specs.Findings.Comes.{found, unknown}
use Rattle.gb_eval.specs.Operators.{with_entry}

abbrev set_or_unknown : Ty → List Value → Value → Value → Bool → Comes Finding
set_or_unknown u ps k v b = if b then found (value (Many (entry_set (numbering u) ps k v))) else unknown

-- entries of a type of maps with keys of this type

module _ (t u w : Ty) (e : t ≡ ty.Map u w) (ps : List Value) (k v : Value) where
  of_map : with_entry t ps k v ≡ set_or_unknown u ps k v (is_key u k && are_keys u ps)
  of_map = ap (λ z. with_entry z ps k v) (e ∙ map_is u w)

  pub set_entry : is_key u k ≡ true → are_keys u ps ≡ true → with_entry t ps k v ≡ found (value (Many (entry_set (numbering u) ps k v)))
  set_entry h a = of_map ∙ (λ i. set_or_unknown u ps k v (h i && a i))

  pub no_entry : (is_key u k && are_keys u ps) ≡ false → with_entry t ps k v ≡ unknown
  no_entry h = of_map ∙ ap (set_or_unknown u ps k v) h
