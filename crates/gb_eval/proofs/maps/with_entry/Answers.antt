use Rattle.std.proofs.Common.{◌&&◌, sym, ap, ◌∙◌}
use Rattle.gb_core.specs.declared.value.Value.TheVariants.{Many}
use Rattle.gb_core.specs.Types.{numbering}
use Rattle.gb_labels.specs.Keys.{are_keys, is_key}
use Rattle.gb_meaning.specs.Operators.{entry_set}
use Rattle.gb_eval.specs.Findings.Finding.{value}
use Rattle.gb_eval.specs.Findings.Comes.{found}
use Rattle.gb_eval.proofs.Entries.{set_entry, no_entry}
use Rattle.gb_eval.proofs.maps.with_entry.Goals as goal
use Rattle.gb_eval.proofs.maps.with_entry.Goals.{then-not-is_key-via-then-not-is_key, then-not-is_key-via-else-not-is_key+then-not-are_keys}

pub returns-then-not-is_key : goal.returns-then-not-is_key
returns-then-not-is_key c =
    elim c.then-not-is_key.branch [
      | then-not-is_key-via-then-not-is_key w ↦
          no_entry c.args.ty.now c.in-Map.keys c.in-Map.field-1 c.in-Map.is c.args.entries.now c.args.key c.args.v
          (ap (λ b. b && are_keys c.in-Map.keys c.args.entries.now) (sym (c.is_key.ensures ∙ ap (λ u. is_key u c.args.key) c.get-keys.ensures) ∙ w.if-not-is_key.true))
      | then-not-is_key-via-else-not-is_key+then-not-are_keys w ↦
          no_entry c.args.ty.now c.in-Map.keys c.in-Map.field-1 c.in-Map.is c.args.entries.now c.args.key c.args.v
          (λ i.
          (sym (c.is_key.ensures ∙ ap (λ u. is_key u c.args.key) c.get-keys.ensures) ∙ w.if-not-is_key.false) i
          && (sym (w.are_keys.ensures ∙ ap (λ u. are_keys u c.args.entries.now) c.get-keys.ensures) ∙ w.if-not-are_keys.true) i)
    ]

pub returns : goal.returns
returns c =
    set_entry c.args.ty.now c.in-Map.keys c.in-Map.field-1 c.in-Map.is c.args.entries.now c.args.key c.args.v
    (sym (c.is_key.ensures ∙ ap (λ u. is_key u c.args.key) c.get-keys.ensures) ∙ c.if-not-is_key.false)
    (sym (c.are_keys.ensures ∙ ap (λ u. are_keys u c.args.entries.now) c.get-keys.ensures) ∙ c.if-not-are_keys.false)
    ∙ ap (λ u. found (value (Many (entry_set (numbering u) c.args.entries.now c.args.key c.args.v)))) (sym c.get-keys.ensures)
    ∙ ap (λ es. found (value (Many es))) (sym c.in_ok-entries.ensures)
    ∙ ap (λ w. found (value w)) (sym c.in_ok-value.ensures)
