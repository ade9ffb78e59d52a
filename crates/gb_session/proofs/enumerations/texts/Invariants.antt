use Rattle.std.proofs.Common.{◌≡◌, map, take}
use Rattle.gb_script.specs.Tree.{text_of}
use Rattle.gb_session.proofs.enumerations.texts.Given as goal

abbrev pub invariant-loop-node : goal.invariant-loop-node
invariant-loop-node l = l.names ≡ map text_of (take l.node-index l.nodes)
