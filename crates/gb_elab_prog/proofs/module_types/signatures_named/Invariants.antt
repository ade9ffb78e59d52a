use Rattle.std.proofs.Common.{◌≡◌, drop}
use Rattle.gb_elab_prog.specs.ModuleTypes.{signatures_named}
use Rattle.gb_elab_prog.proofs.module_types.signatures_named.Given as goal

abbrev pub invariant-loop-q : goal.invariant-loop-q
invariant-loop-q l = signatures_named l.scope (drop l.q-index l.params) l.name ≡ signatures_named l.scope l.params l.name
