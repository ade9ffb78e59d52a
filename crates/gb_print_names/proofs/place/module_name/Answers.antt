use Rattle.std.proofs.Common.{rules, sym}
use Rattle.gb_print_names.specs.Names.{module_name}
use Rattle.gb_print_names.proofs.Lists.{from_here}
use Rattle.gb_print_names.proofs.place.module_name.Goals as goal

pub returns-then-eq : goal.returns-then-eq
returns-then-eq c =
    let e = from_here (λ ks. module_name ks c.args.name.now) c.args.bound.now c.loop-i.i c.in-Some.known.now (sym c.in-Some.ensures) in
    search (rules, e, c.loop-i.invariant)

pub loop-i-preserved : goal.loop-i-preserved
loop-i-preserved c =
    let e = from_here (λ ks. module_name ks c.args.name.now) c.args.bound.now c.loop-i.i c.in-Some.known.now (sym c.in-Some.ensures) in
    search (rules, e, c.loop-i.invariant)
