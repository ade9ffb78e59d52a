-- What a term uses of the state in which it is read.
use Rattle.std.specs.Prelude.{◌≡◌, ℕ, zero, suc, Bool, true, false, not, ◌&&◌, ◌||◌}
use Rattle.gb_core.specs.declared.ty.Ty.{Ty}
use Rattle.gb_terms.specs.declared.op.Side.{Side}
use Rattle.gb_terms.specs.declared.op.Side.TheVariants.{Bound as of_binder}
use Rattle.gb_terms.specs.declared.op.Read.{Read}
use Rattle.gb_terms.specs.declared.op.Read.TheVariants.{Logical, Program}
use Rattle.gb_terms.specs.declared.module.Mexp.{Mexp}
use Rattle.gb_terms.specs.declared.term.Term.{Term, Term', Row_of-Term, end_of-Term, more_of-Term, end_of-Head, more_of-Head}
use Rattle.gb_terms.specs.declared.term.Head.{Head}
use Rattle.gb_terms.specs.declared.term.Head.TheVariants as head
use Rattle.gb_terms.specs.declared.term.Head.TheVariants.{Assign, Sample, Call', If', While', Proc, Body'}
use Rattle.gb_terms.specs.declared.term.Subject.{Subject}
use Rattle.gb_terms.specs.declared.term.Instr.{Row_of-Instr, end_of-Instr, more_of-Instr}
use Rattle.gb_walk.specs.Change.{is_own, is_left_or_right}
use Rattle.gb_laws.specs.Formed.{IsFormed, AllFormed}
use Rattle.gb_laws.specs.Plain.{IsPlain, AllPlain}

-- a read at a type; a bound variable; the globals of a module in a memory; a memory in which a probability starts; that a
-- probability or a judgment on one program binds its memory; that a judgment on two programs binds both memories
pub data Use : Type 0 where
  read : Read → Ty → Use
  bound : ℕ → Use
  globals : Mexp → Side → Use
  starts : Side → Use
  binds_own : Use
  binds_sides : Use

-- a set of uses
abbrev pub Uses : Type 0
Uses = Use → Bool

abbrev pub lowered : (Side → Bool) → Side → Bool
lowered f (of_binder zero) = true
lowered f (of_binder (suc i)) = f (of_binder i)
lowered f r = f r

-- the uses within one binder more: its own variable, or memory, may be used there
abbrev pub beneath : Uses → Uses
beneath K (read (Logical i) ty) = K (read (Logical i) ty)
beneath K (read (Program x r) ty) = lowered (λ o. K (read (Program x o) ty)) r
beneath K (bound zero) = true
beneath K (bound (suc i)) = K (bound i)
beneath K (globals m r) = lowered (λ o. K (globals m o)) r
beneath K (starts r) = lowered (λ o. K (starts o)) r
beneath K u = K u

-- the uses where these memories are bound: what is read through them may be used, what is read through those may not
abbrev pub entering : (Side → Bool) → (Side → Bool) → Uses → Uses
entering p z K (read (Program x r) ty) = not (z r) && (p r || K (read (Program x r) ty))
entering p z K (globals m r) = not (z r) && (p r || K (globals m r))
entering p z K (starts r) = not (z r) && (p r || K (starts r))
entering p z K u = K u

abbrev pub no_side : Side → Bool
no_side r = false

abbrev pub under_own : Uses → Uses
under_own K = entering is_own no_side K

abbrev pub under_sides : Uses → Uses
under_sides K = entering is_left_or_right no_side K

-- the uses without those of the own memory
abbrev pub besides_own : Uses → Uses
besides_own K = entering is_own is_own K

abbrev pub every_use : Uses
every_use u = true

abbrev pub is_of_no_binder : Side → Bool
is_of_no_binder (of_binder i) = false
is_of_no_binder r = true

-- the uses of a tree outside of all binders
abbrev pub unbound : Uses
unbound (read (Logical i) ty) = true
unbound (read (Program x r) ty) = is_of_no_binder r
unbound (bound i) = false
unbound (globals m r) = is_of_no_binder r
unbound (starts r) = is_of_no_binder r
unbound u = true

-- the uses without those of both sides
abbrev pub besides_sides : Uses → Uses
besides_sides K = entering is_left_or_right is_left_or_right K

-- what the arguments of a head may use
abbrev pub of_arguments : Uses → Head → Uses
of_arguments K (head.Hoare c) = under_own K
of_arguments K (head.Phoare c r) = under_own K
of_arguments K (head.Equiv c d) = under_sides K
of_arguments K h = K

-- what the last one may use: a bound of a probability is read outside
abbrev pub of_last : Uses → Head → Uses
of_last K (head.All t) = beneath K
of_last K (head.Some t) = beneath K
of_last K head.AllMemory = beneath K
of_last K head.SomeMemory = beneath K
of_last K (head.AllModule b) = beneath K
of_last K head.Mu = beneath K
of_last K (head.Sum n) = beneath K
of_last K head.Map = beneath K
of_last K head.Restrict = beneath K
of_last K (head.Pr p r) = under_own K
of_last K (head.Hoare c) = under_own K
of_last K (head.Phoare c r) = besides_own K
of_last K (head.Equiv c d) = under_sides K
of_last K h = K

-- the uses of a term of a body: of memories the one alone in which the body runs, and variables that are logical or bound
abbrev pub in_body : Uses → Uses
in_body K (read (Logical i) ty) = K (read (Logical i) ty)
in_body K (read (Program x r) ty) = is_own r
in_body K (bound i) = K (bound i)
in_body K (globals m r) = is_own r
in_body K u = false

abbrev pub HeadIsKept : Head → Type 0
HeadIsKept (head.Read (Logical i)) = ⊥
HeadIsKept (head.Bound i) = ⊥
HeadIsKept h = Unit {0}

-- the term is no logical or bound variable itself, so no term takes the place of the whole of it
abbrev pub IsKept : Term → Type 0
IsKept (Term' p (more_of-Head h end_of-Head) n ts ty) = HeadIsKept h

abbrev mutual
  -- a term that uses no more than this
  pub IsWithin : Uses → Term → Type 0
  IsWithin K (Term' p (more_of-Head h end_of-Head) n ts ty) = HeadIsWithin K h ty × AreWithin (of_arguments K h) (of_last K h) ts

  -- the last term may use L, the others K
  pub AreWithin : {n : _} → Uses → Uses → Row_of-Term n → Type 0
  AreWithin K L end_of-Term = Unit {0}
  AreWithin K L (more_of-Term t end_of-Term) = IsWithin L t
  AreWithin K L (more_of-Term t (more_of-Term u ts)) = IsWithin K t × AreWithin K L (more_of-Term u ts)

  -- what a head uses itself
  pub HeadIsWithin : Uses → Head → Ty → Type 0
  HeadIsWithin K (head.Read r) ty = K (read r ty) ≡ true
  HeadIsWithin K (head.Bound i) ty = K (bound i) ≡ true
  HeadIsWithin K (head.Glob m r) ty = K (globals m r) ≡ true
  HeadIsWithin K (head.Pr p r) ty = (K (starts r) ≡ true) × (K binds_own ≡ true)
  HeadIsWithin K (head.Hoare c) ty = (K binds_own ≡ true) × SubjectIsWithin K c
  HeadIsWithin K (head.Phoare c r) ty = (K binds_own ≡ true) × SubjectIsWithin K c
  HeadIsWithin K (head.Equiv c d) ty = (K binds_sides ≡ true) × SubjectIsWithin K c × SubjectIsWithin K d
  HeadIsWithin K h ty = Unit {0}

  -- a procedure uses nothing of the state; a body binds the memory in which it runs, as the own one and as both sides
  pub SubjectIsWithin : Uses → Subject → Type 0
  SubjectIsWithin K (Proc p) = Unit {0}
  SubjectIsWithin K (Body' n is) = (K binds_own ≡ true) × (K binds_sides ≡ true) × BodyIsWithin (in_body K) is

  -- a body whose terms are formed and plain, and use no more than this
  pub BodyIsWithin : {n : _} → Uses → Row_of-Instr n → Type 0
  BodyIsWithin K end_of-Instr = Unit {0}
  BodyIsWithin K (more_of-Instr (Assign xs e) is) = (IsFormed e × IsPlain e × IsWithin K e) × BodyIsWithin K is
  BodyIsWithin K (more_of-Instr (Sample x d) is) = (IsFormed d × IsPlain d × IsWithin K d) × BodyIsWithin K is
  BodyIsWithin K (more_of-Instr (Call' xs p n es) is) = (AllFormed es × AllPlain es × AreWithin K K es) × BodyIsWithin K is
  BodyIsWithin K (more_of-Instr (If' e m a n b) is) =
      (IsFormed e × IsPlain e × IsWithin K e) × BodyIsWithin K a × BodyIsWithin K b × BodyIsWithin K is
  BodyIsWithin K (more_of-Instr (While' e v n a) is) =
      (IsFormed e × IsPlain e × IsWithin K e) × (IsFormed v × IsPlain v × IsWithin K v) × IsKept v × BodyIsWithin K a × BodyIsWithin K is

-- a term of a body
abbrev pub IsOfBody : Uses → Term → Type 0
IsOfBody K e = IsFormed e × IsPlain e × IsWithin K e
