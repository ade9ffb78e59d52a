-- Terms and goals in which names are names of the language and numbers are in range, wherever in a text they stand.
use Rattle.std.specs.Prelude.{◌≡◌, true, List, []}
use Rattle.std.specs.List.{AllByRecursion, list_all}
use Rattle.gb_core.specs.declared.ty.Ty.{Ty, Row_of-Ty, end_of-Ty, more_of-Ty}
use Rattle.gb_core.specs.declared.ty.Ty.TheVariants as ty
use Rattle.gb_core.specs.declared.value.Value.{out-Value}
use Rattle.gb_terms.specs.declared.decl.TypedName.{TypedName}
use Rattle.gb_terms.specs.declared.module.Bind.{Bind}
use Rattle.gb_terms.specs.declared.op.Op.{Op}
use Rattle.gb_terms.specs.declared.op.Op.TheVariants as op
use Rattle.gb_terms.specs.declared.op.Read.TheVariants.{Program}
use Rattle.gb_terms.specs.declared.term.Term.{Term, Term', Row_of-Term, end_of-Term, more_of-Term, end_of-Head, more_of-Head}
use Rattle.gb_terms.specs.declared.term.Head.{Head}
use Rattle.gb_terms.specs.declared.term.Head.TheVariants as head
use Rattle.gb_terms.specs.declared.term.Head.TheVariants.{Proc, Body', Assign, Sample, Call', If', While'}
use Rattle.gb_terms.specs.declared.term.Subject.{Subject}
use Rattle.gb_terms.specs.declared.term.Instr.{Instr, Row_of-Instr, end_of-Instr, more_of-Instr}
use Rattle.gb_goal.specs.Goal.{Code, Goal, goal_of}
use Rattle.gb_goal.specs.Goal.Code.{body, procedure}
use Rattle.gb_goal.specs.Goal.Goal.{hoare, phoare, equiv, ambient}
use Rattle.gb_goal.specs.declared.sequent.Hyp.{Hyp}
use Rattle.gb_goal.specs.declared.sequent.Sequent.{Sequent}
use Rattle.gb_print_names.specs.declared.bound_names.Enumeration.{Enumeration}
use Rattle.gb_print.specs.Layout.{outcome}
use Rattle.gb_print.specs.Written.{is_name_text, is_path, in_range, is_whole_here, IsWrittenType, IsWrittenLiteral, are_weights_here, is_variable_here, is_target_here, are_targets_here, IsWrittenModule, IsWrittenProcedure}

-- two types at least
abbrev pub HasTwo : {n : _} → Row_of-Ty n → Type 0
HasTwo (more_of-Ty t (more_of-Ty u ts)) = Unit {0}
HasTwo _ = ⊥

abbrev mutual
  -- a type of values or numbers whose names are names, whose bounds are in range, and whose tuples have two parts at least
  pub IsNamedType : Ty → Type 0
  IsNamedType ty.Unit = Unit {0}
  IsNamedType ty.Bool = Unit {0}
  IsNamedType ty.Int = Unit {0}
  IsNamedType ty.Real = Unit {0}
  IsNamedType (ty.Bits n) = in_range n ≡ true
  IsNamedType (ty.Mod n) = in_range n ≡ true
  IsNamedType (ty.Enumeration x n) = is_path x ≡ true
  IsNamedType (ty.Abstract x) = is_path x ≡ true
  IsNamedType (ty.Glob x) = is_path x ≡ true
  IsNamedType (ty.Tuple' n ts) = HasTwo ts × AreNamedTypes ts
  IsNamedType (ty.Opt' p x) = AreNamedTypes x
  IsNamedType (ty.Map' p k q x) = AreNamedTypes k × AreNamedTypes x
  IsNamedType (ty.Distr' p x) = ⊥

  pub AreNamedTypes : {n : _} → Row_of-Ty n → Type 0
  AreNamedTypes end_of-Ty = Unit {0}
  AreNamedTypes (more_of-Ty t ts) = IsNamedType t × AreNamedTypes ts

-- the type of a form: that of distributions over such a type too
abbrev pub IsNamedResult : Ty → Type 0
IsNamedResult (ty.Distr' p x) = AreNamedTypes x
IsNamedResult t = IsNamedType t

-- what a judgment in a form speaks of: a procedure
abbrev pub IsNamedSubject : Subject → Type 0
IsNamedSubject (Proc p) = IsWrittenProcedure [] p
IsNamedSubject (Body' n is) = ⊥

-- an operator, at a type that is printed of some: of numbers, of options and of maps
abbrev pub IsNamedOperator : Op → Ty → Type 0
IsNamedOperator (op.Part k) t = in_range k ≡ true
IsNamedOperator op.Uniform t = IsWrittenType 0 [] (outcome t)
IsNamedOperator op.None t = IsNamedType t
IsNamedOperator op.Some t = IsNamedType t
IsNamedOperator op.Empty t = IsNamedType t
IsNamedOperator op.Negate t = IsNamedType t
IsNamedOperator op.Plus t = IsNamedType t
IsNamedOperator op.Minus t = IsNamedType t
IsNamedOperator op.Times t = IsNamedType t
IsNamedOperator op.Xor t = IsNamedType t
IsNamedOperator _ t = Unit {0}

-- What a head of a form of this type names, and its numbers. No form of a script binds a module yet.
abbrev pub IsNamedHead : List Enumeration → Head → Ty → Type 0
IsNamedHead es (head.Lit v) t = IsNamedType t × IsWrittenLiteral es t v (out-Value v)
IsNamedHead es (head.Weights ps) t = are_weights_here es (outcome t) ps ≡ true
IsNamedHead es (head.Whole n) t = IsNamedType t × (is_whole_here n ≡ true)
IsNamedHead es (head.Read (Program x r)) t = (is_variable_here [] x ≡ true) × IsNamedType t
IsNamedHead es (head.Bound i) t = IsNamedType t
IsNamedHead es (head.Builtin o) t = IsNamedOperator o t
IsNamedHead es (head.User x) t = is_path x ≡ true
IsNamedHead es (head.All u) t = IsNamedType u
IsNamedHead es (head.Some u) t = IsNamedType u
IsNamedHead es (head.AllModule b) t = ⊥
IsNamedHead es (head.Sum q) t = in_range q ≡ true
IsNamedHead es (head.Glob m r) t = IsWrittenModule [] m
IsNamedHead es (head.Pr p r) t = IsWrittenProcedure [] p
IsNamedHead es (head.Hoare c) t = IsNamedSubject c
IsNamedHead es (head.Phoare c r) t = IsNamedSubject c
IsNamedHead es (head.Equiv c d) t = IsNamedSubject c × IsNamedSubject d
IsNamedHead es _ t = Unit {0}

abbrev mutual
  -- a form: each head in it, and each type
  pub IsNamed : List Enumeration → Term → Type 0
  IsNamed es (Term' p (more_of-Head h end_of-Head) n ts t) = IsNamedHead es h t × IsNamedResult t × AreNamed es ts

  pub AreNamed : {n : _} → List Enumeration → Row_of-Term n → Type 0
  AreNamed es end_of-Term = Unit {0}
  AreNamed es (more_of-Term t ts) = IsNamed es t × AreNamed es ts

abbrev mutual
  -- a statement: its variables too, and its procedure
  pub IsNamedInstr : List Enumeration → Instr → Type 0
  IsNamedInstr es (Assign xs e) = (are_targets_here [] xs ≡ true) × IsNamed es e
  IsNamedInstr es (Sample x d) = (is_target_here [] x ≡ true) × IsNamed es d
  IsNamedInstr es (Call' xs p n ts) = (list_all (is_target_here []) xs ≡ true) × IsWrittenProcedure [] p × AreNamed es ts
  IsNamedInstr es (If' e m a n b) = IsNamed es e × AreNamedInstrs es a × AreNamedInstrs es b
  IsNamedInstr es (While' e v n a) = IsNamed es e × IsNamed es v × AreNamedInstrs es a

  pub AreNamedInstrs : {n : _} → List Enumeration → Row_of-Instr n → Type 0
  AreNamedInstrs es end_of-Instr = Unit {0}
  AreNamedInstrs es (more_of-Instr i is) = IsNamedInstr es i × AreNamedInstrs es is

-- Goals.

abbrev pub IsNamedCode : List Enumeration → Code → Type 0
IsNamedCode es (body is) = AllByRecursion (IsNamedInstr es) is
IsNamedCode es (procedure p) = IsWrittenProcedure [] p

abbrev pub IsNamedGoal : List Enumeration → Goal → Type 0
IsNamedGoal es (hoare a p q) = IsNamedCode es a × IsNamed es p × IsNamed es q
IsNamedGoal es (phoare a r p q b) = IsNamedCode es a × IsNamed es p × IsNamed es q × IsNamed es b
IsNamedGoal es (equiv a b p q) = IsNamedCode es a × IsNamedCode es b × IsNamed es p × IsNamed es q
IsNamedGoal es (ambient f) = IsNamed es f

abbrev pub IsNamedVariable : TypedName → Type 0
IsNamedVariable v = (is_name_text v.name ≡ true) × IsNamedType v.ty

abbrev pub IsNamedHyp : List Enumeration → Hyp → Type 0
IsNamedHyp es h = (is_name_text h.name ≡ true) × IsNamed es h.form

-- An abstract module without bounds, whose module type and whose excluded modules have names that are names too.
pub record IsNamedBind (b : Bind) : Type 0 where
  pub name : is_name_text b.name ≡ true
  pub ty : is_path b.ty ≡ true
  pub minus : AllByRecursion (λ m. is_path m ≡ true) b.minus
  pub bounds : b.bounds ≡ []

-- A goal whose names are names, those of the modules that its context binds too, and whose numbers are in range.
pub record IsNamedSequent (es : List Enumeration) (q : Sequent) : Type 0 where
  pub variables : AllByRecursion IsNamedVariable q.logical
  pub memories : AllByRecursion (λ m. is_name_text m ≡ true) q.memories
  pub modules : AllByRecursion IsNamedBind q.modules
  pub hyps : AllByRecursion (IsNamedHyp es) q.hyps
  pub conclusion : IsNamedGoal es (goal_of q.conclusion)
