use Rattle.std.proofs.Common.{◌≡◌, drop, string_bytes}
use Rattle.gb_names.specs.Names.{dotted}
use Rattle.gb_names.proofs.names.dotted.Given as goal

abbrev pub invariant-loop-word : goal.invariant-loop-word
invariant-loop-word l = dotted (string_bytes l.text) (drop l.word-index l.more) ≡ dotted l.first l.more
