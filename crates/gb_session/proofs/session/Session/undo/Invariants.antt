use Rattle.std.proofs.Common.{◌≡◌, ◌+◌, ◌-◌, ◌≤◌, length}
use Rattle.gb_session.specs.History.{undone}
use Rattle.gb_session.proofs.session.Session.undo.Given as goal

-- so many are taken off, and the others of those that are to be taken off are left
abbrev pub invariant-loop-count : goal.invariant-loop-count
invariant-loop-count l = record {
  within : l.count ≤ l.n;
  left : undone (l.n - l.count) l.self ≡ undone l.n l.fn.self;
  length : length l.fn.self.earlier ≡ l.count + length l.self.earlier;
}

abbrev pub decreases-loop-count : goal.decreases-loop-count
decreases-loop-count l = l.n - l.count
