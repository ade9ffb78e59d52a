use Rattle.std.proofs.Common.{◌≡◌, drop, string_bytes}
use Rattle.gb_names.specs.Judgments.{procedure_path}
use Rattle.gb_names.proofs.judgment.procedure_path.Given as goal

abbrev pub invariant-loop-word : goal.invariant-loop-word
invariant-loop-word l = procedure_path (string_bytes l.module) l.procedure (drop l.word-index l.more) ≡ procedure_path l.first l.fn.second l.more
