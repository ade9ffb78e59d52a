-- Changes that lead from a context to another one.
use Rattle.std.specs.Prelude.{◌≡◌, ◌⊎◌, ℕ, Bool, true, false, [], Option, Some, None}
use Rattle.gb_core.specs.declared.ty.Ty.{Ty}
use Rattle.gb_terms.specs.declared.module.ProcRef.{ProcRef}
use Rattle.gb_terms.specs.declared.op.Side.{Side}
use Rattle.gb_terms.specs.declared.op.Read.{Read}
use Rattle.gb_terms.specs.declared.op.Read.TheVariants.{Logical}
use Rattle.gb_terms.specs.declared.term.Term.{Term}
use Rattle.gb_terms.specs.declared.term.Head.{Head}
use Rattle.gb_terms.specs.declared.term.Head.TheVariants as head
use Rattle.gb_walk.specs.Change.{Changes, is_own, is_left_or_right, found_for_read, found_for_bound, side_changed, read_changed}
use Rattle.gb_meaning.specs.Names.{Name}
use Rattle.gb_meaning.specs.Written.{type_of}
use Rattle.gb_laws.specs.Plain.{IsPlain}
use Rattle.gb_laws.specs.Typing.{OperatorType, Binder, IsBoundAt, IsSide, IsHead}
use Rattle.gb_laws.specs.Typing as typed
use Rattle.gb_typing.specs.Context.{Frame, Context, procedure, erased, frame_of, reframed}
use Rattle.gb_typing.specs.Typing.{IsFrame, IsPlace, IsNamed, IsTyped}
use Rattle.gb_typing.specs.Puts.{Keeps}

-- what the binder that has so many binders inside of it binds
abbrev pub binder : Context → ℕ → Binder
binder c i = typed.binder (erased c) i

-- a head without arguments that has this type
abbrev pub IsLeaf : Context → Head → Ty → Type 0
IsLeaf c h ty = IsHead (erased c) h [] ty × IsNamed c h ty

-- there is such a memory, with locals
abbrev pub IsMemoryIn : Context → Side → Type 0
IsMemoryIn c r = IsSide (erased c) r × IsFrame (frame_of c r)

-- a well-typed term that is written with a type
pub record Made (c : Context) (ty : Ty) (t : Term) : Type 0 where
  pub typed : IsTyped c t
  pub written : type_of t ≡ ty

-- what is of no memory
abbrev pub no_read : Read
no_read = Logical 0

-- It is told whether memories may be bound in a term.
module _ (binds : Bool) where
  -- What is put in has the type of what it replaces, and is plain; it has the type also where other memories are bound than that
  -- of the read, if any may be. What is kept may stand there.
  abbrev pub Becomes : Context → Ty → Read → Option Term → Head → Type 0
  Becomes d ty r (Some t) h =
      IsPlain t × ((f l k : Frame) → Keeps r d f l k → (binds ≡ false → (f ≡ d.own) × (l ≡ d.left) × (k ≡ d.right)) → Made (reframed d f l k) ty t)
  Becomes d ty r None h = IsLeaf d h ty

  -- The changes lead from a context to another one: what is typed in c becomes typed in d.
  pub record Leads (cs : Changes) (c d : Context) : Type 0 where
    pub reads : (r : Read) (ty : Ty) → IsLeaf c (head.Read r) ty → Becomes d ty r (found_for_read cs r) (head.Read (read_changed cs r))
    pub bounds : (i : ℕ) (ty : Ty) → IsBoundAt (binder c i) ty → Becomes d ty no_read (found_for_bound cs i) (head.Bound i)
    pub sides : (r : Side) → IsMemoryIn c r → IsMemoryIn d (side_changed cs r)
    pub places : (r : Side) → IsPlace r → IsPlace (side_changed cs r)
    pub global : (m x : Name) (t : Ty) → c.global m x ≡ Some t → d.global m x ≡ Some t
    pub operator : (n : Name) (o : OperatorType) → c.operator n ≡ Some o → d.operator n ≡ Some o
    pub procedure : (p : ProcRef) → procedure c p ≡ procedure d p
    pub has_globals : (a : Name) → c.has_globals a ≡ true → d.has_globals a ≡ true

-- no read of another memory is led to one that judgments and probabilities bind
pub record Stays (cs : Changes) : Type 0 where
  pub own : (r : Side) → is_own r ≡ false → is_own (side_changed cs r) ≡ false
  pub sides : (r : Side) → is_left_or_right r ≡ false → is_left_or_right (side_changed cs r) ≡ false

-- the term is plain, or memories may be bound in it, and no read is led to one of them
abbrev pub Enters : Bool → Term → Changes → Type 0
Enters binds t cs = IsPlain t ⊎ (Stays cs × (binds ≡ true))
