use Rattle.std.proofs.Common.{◌≡◌, ◌≤◌, ◌-◌, take, vec_len}
use Rattle.std.specs.Prelude.{[], IfSome, unwrap_or}
use Rattle.gb_outside.specs.HeldBytes.{bytes_of}
use Rattle.gb_outside.specs.declared.whole.TheConstants.{LENGTH_LIMIT}
use Rattle.gb_outside.proofs.whole.read_whole.Given as goal

-- the bytes so far are the first ones that are held
abbrev pub invariant-loop-piece : goal.invariant-loop-piece
invariant-loop-piece g l =
    (vec_len l.bytes ≤ LENGTH_LIMIT)
    × (g.F.Files.faults l.fn.files ≤ g.F.Files.faults l.files)
    × (g.F.Files.held l.files ≡ g.F.Files.held l.fn.files)
    × IfSome (g.F.Files.held l.fn.files) (λ held. l.bytes.items ≡ take (vec_len l.bytes) (unwrap_or (bytes_of l.name held) []))

abbrev pub decreases-loop-piece : goal.decreases-loop-piece
decreases-loop-piece g l = LENGTH_LIMIT - vec_len l.bytes
