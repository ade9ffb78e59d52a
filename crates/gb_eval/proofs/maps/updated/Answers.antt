use Rattle.std.proofs.Common.{sym, ap, ◌∙◌}
use Rattle.gb_core.specs.Numbering.{parts_of}
use Rattle.gb_eval.specs.Findings.{◌>>=◌, shown, value_in}
use Rattle.gb_eval.specs.Operators.{with_entry}
use Rattle.gb_eval.proofs.Stops.{gives_as, leads_on}
use Rattle.gb_eval.proofs.maps.updated.Goals as goal

pub returns : goal.returns
returns c =
    gives_as shown _ _ c.with_entry.result
    (leads_on (value_in (shown c.args.map)) (λ m. value_in (shown c.args.key) >>= λ k. value_in (shown c.args.v) >>= λ v. with_entry c.args.ty.now (parts_of m) k v) c.in_ok-map.map c.in_ok-map.ensures
    ∙ leads_on (value_in (shown c.args.key)) (λ k. value_in (shown c.args.v) >>= λ v. with_entry c.args.ty.now (parts_of c.in_ok-map.map) k v) c.in_ok-key.key c.in_ok-key.ensures
    ∙ leads_on (value_in (shown c.args.v)) (λ v. with_entry c.args.ty.now (parts_of c.in_ok-map.map) c.in_ok-key.key v) c.in_ok-v.v c.in_ok-v.ensures
    ∙ ap (λ es. with_entry c.args.ty.now es c.in_ok-key.key c.in_ok-v.v) (sym c.parts.ensures))
    c.with_entry.ensures
