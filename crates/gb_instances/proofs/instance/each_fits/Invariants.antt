use Rattle.std.proofs.Common.{◌≡◌, drop, map}
use Rattle.gb_instances.specs.Instance.{each_fits, given_seen}
use Rattle.gb_instances.proofs.instance.each_fits.Given as goal

abbrev pub invariant-loop-bind : goal.invariant-loop-bind
invariant-loop-bind l =
    each_fits l.scope l.params l.modules l.statement l.place (drop l.bind-index l.binds) (map given_seen l.left)
    ≡ each_fits l.scope l.params l.modules l.statement l.place l.binds (map given_seen l.list)
