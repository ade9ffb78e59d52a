use Rattle.std.proofs.Common.{◌≡◌, ◌++◌, map, drop}
use Rattle.gb_elab_prog.specs.Modules.{member_names}
use Rattle.gb_elab_prog.proofs.members.member_names.Given as goal

abbrev pub invariant-loop-x : goal.invariant-loop-x
invariant-loop-x l = l.names ++ map (λ v. v.name) (drop l.x-index l.«module».globals) ≡ map (λ v. v.name) l.«module».globals

abbrev pub invariant-loop-p : goal.invariant-loop-p
invariant-loop-p l = l.names ++ map (λ p. p.name) (drop l.p-index l.«module».procs) ≡ member_names l.«module»
