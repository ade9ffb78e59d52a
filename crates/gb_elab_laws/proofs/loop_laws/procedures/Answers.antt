use Rattle.std.proofs.Common.{◌≡◌, true, Some, sym, subst}
use Rattle.gb_meaning.specs.Commands.{statements}
use Rattle.gb_meaning.specs.Program.Routine.{routine}
use Rattle.gb_typing.proofs.LinkedProcedures.{linked_there}
use Rattle.gb_elab_laws.proofs.Closed.{procedure_ends}
use Rattle.gb_elab_laws.proofs.loop_laws.procedures.Goals as goal

pub returns : goal.returns
returns x = λ ds scoped g over test ended p e.
    procedure_ends g (λ q. test q ≡ true) ds
    (λ q a k. subst (λ h. h.procedure q ≡ Some (routine a.params a.locals (statements h a.body.list) a.value)) (sym over.meant) (linked_there ds scoped over.interpretation over.chosen q a k)) ended p e
