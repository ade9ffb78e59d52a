-- Readings that follow calls.
use Rattle.std.specs.Prelude.{◌≡◌, Option}
use Rattle.gb_terms.specs.declared.decl.Proc.{Proc}
use Rattle.gb_terms.specs.declared.module.Mexp.{Mexp}
use Rattle.gb_terms.specs.declared.module.ProcRef.{ProcRef}
use Rattle.gb_meaning.specs.Names.{Name}
use Rattle.gb_meaning.specs.Modules.{Reading}
use Rattle.gb_goal.specs.Instances.{put_in_reference, with_calls}

-- a reading looks at what the procedures that are called mean, not at how they are named
abbrev pub FollowsCalls : {X : Type 0} → Reading X → Type 0
FollowsCalls {X} read = (f : ProcRef → Option X) (s : Name → Mexp) (p : Proc) → read f (with_calls s p) ≡ read (λ r. f (put_in_reference s r)) p
