-- Names that are names, and numbers in range: what a typed form needs besides, so that its printed text can be read. Types say which
-- operands a head has, and that what is bound and the variables and memories of a context are there.
use Rattle.std.specs.Prelude.{◌≡◌, ℕ, ℤ, Bool, true, false, List, [], ◌∷◌}
use Rattle.std.specs.List.{list_all}
use Rattle.gb_core.specs.declared.ty.Ty.{Ty}
use Rattle.gb_core.specs.declared.value.Value.{Value, out-Value}
use Rattle.gb_core.specs.declared.var.Var.{Var}
use Rattle.gb_terms.specs.declared.module.Bind.{Bind}
use Rattle.gb_terms.specs.declared.module.Mexp.{Mexp}
use Rattle.gb_terms.specs.declared.module.ProcRef.{ProcRef}
use Rattle.gb_terms.specs.declared.op.Op.{Op}
use Rattle.gb_terms.specs.declared.op.Op.TheVariants as op
use Rattle.gb_terms.specs.declared.op.Read.{Read}
use Rattle.gb_terms.specs.declared.op.Read.TheVariants.{Logical, Program}
use Rattle.gb_terms.specs.declared.op.Rel.{Rel}
use Rattle.gb_terms.specs.declared.op.Side.{Side}
use Rattle.gb_terms.specs.declared.op.Side.TheVariants as side
use Rattle.gb_terms.specs.declared.term.Pair.{Pair}
use Rattle.gb_terms.specs.declared.term.Term.{Term, out-Term}
use Rattle.gb_terms.specs.declared.term.Head.{Head}
use Rattle.gb_terms.specs.declared.term.Head.TheVariants as head
use Rattle.gb_terms.specs.declared.term.Head.TheVariants.{Proc, Body, Assign, Sample, Call, If, While}
use Rattle.gb_terms.specs.declared.term.Instr.{Instr}
use Rattle.gb_terms.specs.declared.term.Cmd.{Cmd}
use Rattle.gb_goal.specs.declared.sequent.Hyp.{Hyp}
use Rattle.gb_goal.specs.declared.sequent.Sequent.{Sequent}
use Rattle.gb_print_names.specs.BoundNames.{Name, Place}
use Rattle.gb_print_names.specs.Occurring.{inside}
use Rattle.gb_print_names.specs.Open.{type_of, is_open, is_int, type_read}
use Rattle.gb_print.specs.Layout.{outcome, type_needed}
use Rattle.gb_print.specs.Written.{is_name_text, is_path, in_range, is_whole_here, IsWrittenType, IsWrittenIfAny, IsWrittenLiteral, are_weights_here, is_variable_here, is_target_here, are_targets_here, is_bind_here, IsWrittenModule, IsWrittenProcedure, below}
use Rattle.gb_print.specs.Goals.{AreWrittenVariables, AreWrittenMemories, AreWrittenBinds}

-- a tuple has two parts at least, and the number of a part is in range
abbrev pub is_spelt_operator : Op → List Term → Bool
is_spelt_operator op.Tuple (a ∷ b ∷ ts) = true
is_spelt_operator op.Tuple ts = false
is_spelt_operator (op.Part k) ts = in_range k
is_spelt_operator op.Uniform ts = false
is_spelt_operator _ ts = true

abbrev pub is_spelt_read : Place → Read → Bool
is_spelt_read at (Logical i) = true
is_spelt_read at (Program x s) = is_variable_here at.bound x

-- a memory that has a name
abbrev pub is_named_side : Side → Bool
is_named_side (side.Memory i) = true
is_named_side (side.Bound i) = true
is_named_side _ = false

-- A head in a form: the names and numbers that stand in it, and its type where that is printed.
pub data IsSpeltHead (stage : ℕ) (at : Place) : Head → List Term → Ty → Type 0 where
  literal : {v : Value} {ts : List Term} {ty : Ty} → IsWrittenLiteral at.enumerations ty v (out-Value v) → IsSpeltHead stage at (head.Lit v) ts ty
  weights : {ps : List Pair} {ts : List Term} {ty : Ty} → are_weights_here at.enumerations (outcome ty) ps ≡ true → IsSpeltHead stage at (head.Weights ps) ts ty
  whole_number : {n : ℤ} {ts : List Term} {ty : Ty} → is_whole_here n ≡ true → IsSpeltHead stage at (head.Whole n) ts ty
  variable : {r : Read} {ts : List Term} {ty : Ty} → is_spelt_read at r ≡ true → IsSpeltHead stage at (head.Read r) ts ty
  bound : {i : ℕ} {ts : List Term} {ty : Ty} → IsSpeltHead stage at (head.Bound i) ts ty
  operator : {o : Op} {ts : List Term} {ty : Ty} → is_spelt_operator o ts ≡ true → IsSpeltHead stage at (head.Builtin o) ts ty
  uniform : {ts : List Term} {ty : Ty} → IsWrittenType 0 at.bound (outcome ty) → IsSpeltHead stage at (head.Builtin op.Uniform) ts ty
  user : {x : Name} {ts : List Term} {ty : Ty} → is_path x ≡ true → IsSpeltHead stage at (head.User x) ts ty
  all_values : {u : Ty} {ts : List Term} {ty : Ty} → IsWrittenType stage at.bound u → IsSpeltHead stage at (head.All u) ts ty
  some_value : {u : Ty} {ts : List Term} {ty : Ty} → IsWrittenType stage at.bound u → IsSpeltHead stage at (head.Some u) ts ty
  all_memories : {ts : List Term} {ty : Ty} → IsSpeltHead stage at head.AllMemory ts ty
  some_memory : {ts : List Term} {ty : Ty} → IsSpeltHead stage at head.SomeMemory ts ty
  all_modules : {b : Bind} {ts : List Term} {ty : Ty} → is_bind_here at.bound b ≡ true → IsSpeltHead stage at (head.AllModule b) ts ty
  measure : {ts : List Term} {ty : Ty} → IsSpeltHead stage at head.Mu ts ty
  image : {ts : List Term} {ty : Ty} → IsSpeltHead stage at head.Map ts ty
  restriction : {ts : List Term} {ty : Ty} → IsSpeltHead stage at head.Restrict ts ty
  sum : {q : ℕ} {f : Term} {ts : List Term} {ty : Ty} → in_range q ≡ true → IsWrittenIfAny stage at.bound (type_needed q (type_read f 0)) → IsSpeltHead stage at (head.Sum q) (f ∷ ts) ty
  module_values : {m : Mexp} {s : Side} {ts : List Term} {ty : Ty} → IsWrittenModule at.bound m → IsSpeltHead stage at (head.Glob m s) ts ty
  probability : {p : ProcRef} {s : Side} {ts : List Term} {ty : Ty} → IsWrittenProcedure at.bound p → is_named_side s ≡ true → IsSpeltHead stage at (head.Pr p s) ts ty
  one_procedure : {p : ProcRef} {ts : List Term} {ty : Ty} → IsWrittenProcedure at.bound p → IsSpeltHead stage at (head.Hoare (Proc p)) ts ty
  with_bound : {p : ProcRef} {r : Rel} {ts : List Term} {ty : Ty} → IsWrittenProcedure at.bound p → IsSpeltHead stage at (head.Phoare (Proc p) r) ts ty
  two_procedures : {p q : ProcRef} {ts : List Term} {ty : Ty} → IsWrittenProcedure at.bound p → IsWrittenProcedure at.bound q → IsSpeltHead stage at (head.Equiv (Proc p) (Proc q)) ts ty

mutual
  -- a form at a place: its head, its type where it may be printed, and its arguments
  pub data IsSpelt (stage : ℕ) : Place → Term → Type 0 where
    spelt : {around : Place} {t : Term}
        → IsSpeltHead stage (inside (out-Term t).head (out-Term t).args around) (out-Term t).head (out-Term t).args (out-Term t).ty
        → (is_open t ≡ true → is_int (type_of t) ≡ false → IsWrittenType stage around.bound (type_of t))
        → AreSpelt stage (inside (out-Term t).head (out-Term t).args around) (out-Term t).head (out-Term t).args → IsSpelt stage around t

  pub data AreSpelt (stage : ℕ) : Place → Head → List Term → Type 0 where
    none : {at : Place} {h : Head} → AreSpelt stage at h []
    last : {at : Place} {h : Head} {t : Term} → IsSpelt stage (below h at) t → AreSpelt stage at h (t ∷ [])
    more : {at : Place} {h : Head} {t u : Term} {ts : List Term} → IsSpelt stage at t → AreSpelt stage at h (u ∷ ts) → AreSpelt stage at h (t ∷ u ∷ ts)

-- arguments of a call
pub data EachSpelt (stage : ℕ) (at : Place) : List Term → Type 0 where
  no_form : EachSpelt stage at []
  more_form : {t : Term} {ts : List Term} → IsSpelt stage at t → EachSpelt stage at ts → EachSpelt stage at (t ∷ ts)

mutual
  -- a statement: something is written in front of an arrow
  pub data IsSpeltInstr (stage : ℕ) (at : Place) : Instr → Type 0 where
    assign : {xs : List Var} {e : Term} → are_targets_here at.bound xs ≡ true → IsSpelt stage at e → IsSpeltInstr stage at (Assign xs e)
    sample : {x : Var} {d : Term} → is_target_here at.bound x ≡ true → IsSpelt stage at d → IsSpeltInstr stage at (Sample x d)
    call : {xs : List Var} {p : ProcRef} {ts : List Term} → list_all (is_target_here at.bound) xs ≡ true → IsWrittenProcedure at.bound p → EachSpelt stage at ts → IsSpeltInstr stage at (Call xs p ts)
    branch : {e : Term} {a b : Cmd} → IsSpelt stage at e → AreSpeltInstrs stage at a.list → AreSpeltInstrs stage at b.list → IsSpeltInstr stage at (If e a b)
    repeat : {e v : Term} {a : Cmd} → IsSpelt stage at e → IsSpelt stage at v → AreSpeltInstrs stage at a.list → IsSpeltInstr stage at (While e v a)

  pub data AreSpeltInstrs (stage : ℕ) (at : Place) : List Instr → Type 0 where
    no_instr : AreSpeltInstrs stage at []
    more_instr : {i : Instr} {is : List Instr} → IsSpeltInstr stage at i → AreSpeltInstrs stage at is → AreSpeltInstrs stage at (i ∷ is)

-- the programs of a judgment of bodies
pub data AreSpeltBodies (at : Place) : Head → Type 0 where
  one_body : {c : Cmd} → AreSpeltInstrs 1 at c.list → AreSpeltBodies at (head.Hoare (Body c))
  bounded_body : {c : Cmd} {r : Rel} → AreSpeltInstrs 1 at c.list → AreSpeltBodies at (head.Phoare (Body c) r)
  two_bodies : {c d : Cmd} → AreSpeltInstrs 1 at c.list → AreSpeltInstrs 1 at d.list → AreSpeltBodies at (head.Equiv (Body c) (Body d))

-- a conclusion: a form, or a judgment of bodies
pub data IsSpeltConclusion (around : Place) (t : Term) : Type 0 where
  form : IsSpelt 1 around t → IsSpeltConclusion around t
  judgment : AreSpeltBodies (inside (out-Term t).head (out-Term t).args around) (out-Term t).head
      → (is_open t ≡ true → is_int (type_of t) ≡ false → IsWrittenType 1 around.bound (type_of t))
      → AreSpelt 1 (inside (out-Term t).head (out-Term t).args around) (out-Term t).head (out-Term t).args → IsSpeltConclusion around t

pub data AreSpeltHyps (at : Place) : List Hyp → Type 0 where
  no_hyps : AreSpeltHyps at []
  one_hyp : {h : Hyp} {hs : List Hyp} → is_name_text h.name ≡ true → IsSpelt 1 at h.form → AreSpeltHyps at hs → AreSpeltHyps at (h ∷ hs)

-- A goal in which names are names, and numbers are in range.
pub record IsSpeltGoal (at : Place) (s : Sequent) : Type 0 where
  pub variables : AreWrittenVariables at s.logical
  pub memories : AreWrittenMemories s.memories
  pub modules : AreWrittenBinds at s.modules
  pub hyps : AreSpeltHyps at s.hyps
  pub conclusion : IsSpeltConclusion at s.conclusion
