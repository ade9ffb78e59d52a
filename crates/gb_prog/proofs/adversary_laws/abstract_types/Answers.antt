use Rattle.gb_prog.proofs.Signatures.{type_same, type_variables}
use Rattle.gb_prog.proofs.adversary_laws.abstract_types.Goals as goal

pub returns : goal.returns
returns x = record {
  variables = λ ds scoped p a os meant t known. type_variables ds p a os meant t known scoped;
  same = λ ds p q a os us meant other same t u known e. type_same ds p a os meant t known q us other same u e;
}
