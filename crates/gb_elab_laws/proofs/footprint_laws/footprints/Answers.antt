use Rattle.gb_elab_laws.proofs.Models.{no_section}
use Rattle.gb_elab_laws.proofs.SameFootprint.{computed_meant, meant_computed}
use Rattle.gb_elab_laws.proofs.footprint_laws.footprints.Goals as goal

pub returns : goal.returns
returns c = λ ds scoped firm m i there full xs e x.
    let none = no_section ds firm in (computed_meant ds scoped none m i there full xs e x, meant_computed ds scoped none m i there full xs e x)
