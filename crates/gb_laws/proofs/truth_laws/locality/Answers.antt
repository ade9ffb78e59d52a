use Rattle.gb_laws.specs.Cells.{In}
use Rattle.gb_laws.specs.FormReads.{form_cells}
use Rattle.gb_laws.proofs.Unique.{val_near}
use Rattle.gb_laws.proofs.truth_laws.locality.Goals as goal

pub returns : goal.returns
returns c = λ g j fair f sound s q n. val_near g j fair (λ c. In c (form_cells g f)) f sound (λ c i. i) s q n
