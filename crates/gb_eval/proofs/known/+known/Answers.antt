use Rattle.std.proofs.Common.{map, sym, ◌∙◌, arith}
use Rattle.gb_eval.proofs.Fuel.{opens}
use Rattle.gb_meaning.specs.Written.{type_of}
use Rattle.gb_eval.specs.Known.{known_in}
use Rattle.gb_eval.proofs.Layers.{known_other}
use Rattle.gb_eval.proofs.Opened.{open_known, closed_known}
use Rattle.gb_eval.proofs.known.+known.Goals as goal

pub is_operator_known-returns-in-Some : goal.is_operator_known-returns-in-Some
is_operator_known-returns-in-Some t c =
    c.is_known.ensures ∙ sym (open_known c.args.script.now c.args.name.now c.inside.result c.in-Some.body.now c.in-Some.ensures c.inside.ensures.scope c.inside.ensures.depth)

pub is_operator_known-returns-in-None : goal.is_operator_known-returns-in-None
is_operator_known-returns-in-None t c = closed_known c.args.script.now c.args.name.now c.in-None.ensures

pub is_operator_known-is_known-requires : goal.is_operator_known-is_known-requires
is_operator_known-is_known-requires t c =
    ((let f = opens c.args.script.now c.inside.result c.args.name.now c.in-Some.body.now c.in-Some.ensures c.inside.ensures.scope c.inside.ensures.depth in omega arith), tt)

pub is_head_known-returns-in_default : goal.is_head_known-returns-in_default
is_head_known-returns-in_default t c =
    known_other (known_in c.args.script.now) c.args.head.now c.args.ty.now (map type_of c.args.args.now) c.in_default.not-Lit c.in_default.not-Whole c.in_default.not-Read c.in_default.not-Bound c.in_default.not-Builtin c.in_default.not-User c.in_default.not-All c.in_default.not-Some c.in_default.not-Mu c.in_default.not-Sum c.in_default.not-Restrict c.in_default.not-Map c.in_default.not-Weights c.in_default.not-AllMemory c.in_default.not-SomeMemory
