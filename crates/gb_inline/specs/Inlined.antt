-- `inline`: bodies in place of calls.
use Rattle.std.specs.Prelude.{ℕ, zero, suc, ◌^◌, Bool, true, if◌then◌else◌, List, [], ◌∷◌, ◌++◌, Option, Some, None}
use Rattle.std.specs.Option.{option_map}
use Rattle.gb_core.specs.declared.refusal.Why.TheVariants.{Shape}
use Rattle.gb_core.specs.declared.var.Var.{Var}
use Rattle.gb_terms.specs.declared.decl.Proc.{Proc}
use Rattle.gb_terms.specs.declared.module.ProcRef.{ProcRef}
use Rattle.gb_terms.specs.declared.op.Side.{Side}
use Rattle.gb_terms.specs.declared.op.Side.TheVariants as side
use Rattle.gb_terms.specs.declared.term.Cmd.{items-the_row-Instr}
use Rattle.gb_terms.specs.declared.term.Head.TheVariants.{Call', If, If', While, While'}
use Rattle.gb_terms.specs.declared.term.Instr.{Instr, Row_of-Instr, end_of-Instr, more_of-Instr}
use Rattle.gb_terms.specs.declared.term.Term.{Term}
use Rattle.gb_walk.specs.Clash.{variables_read}
use Rattle.gb_meaning.specs.Commands.{terms_in}
use Rattle.gb_goal.specs.Answers.{Answer}
use Rattle.gb_goal.specs.Answers.Answer.{given}
use Rattle.gb_goal.specs.Goal.{Goal}
use Rattle.gb_goal.specs.Goal.Code.{body}
use Rattle.gb_goal.specs.Goal.Goal.{equiv}
use Rattle.gb_goal.specs.Rows.{Row, refusing}
use Rattle.gb_goal.specs.Scope.{Declarations, procedure_of}
use Rattle.gb_ended.specs.Loops.{unproved_of}
use Rattle.gb_goal.specs.declared.scope.ProcName.{ProcName}
use Rattle.gb_mods.specs.Called.{same_procedure}
use Rattle.gb_mods.specs.Touched.{each_touched}
use Rattle.gb_steps.specs.declared.step.Acts.{Acts}
use Rattle.gb_steps.specs.declared.step.Acts.TheVariants as on
use Rattle.gb_steps.specs.declared.step.Calls.{Calls}
use Rattle.gb_steps.specs.declared.step.Calls.TheVariants.{Of, All}
use Rattle.gb_prog.specs.OneBody.{on_one, one_body}
use Rattle.gb_trans.specs.Transformed.{with_body}
use Rattle.gb_inline.specs.Expanded.{expanded}

-- a call is one of those that are asked for
abbrev pub is_asked : Calls → ProcRef → Bool
is_asked (Of p) q = same_procedure p q
is_asked All q = true

-- a procedure, unless it has loops that aren't proved: inside of a proof that loops end a body may call such a one
abbrev pub unless_unproved : Option ProcName → Option Proc → Option Proc
unless_unproved None f = f
unless_unproved (Some u) f = None

-- the declared procedure of a call that is asked for
abbrev pub asked : Declarations → Calls → ProcRef → Option Proc
asked ds w p = if is_asked w p then unless_unproved (unproved_of ds p) (procedure_of ds p) else None

-- what becomes of the call of a procedure, with its left side and its arguments: other statements, or nothing
abbrev pub Expansion : Type 0
Expansion = List Var → ProcRef → List Term → Option (List Instr)

-- the first of a branch's sides in which something becomes of a call
abbrev pub side_inlined : Term → List Instr → List Instr → Option (List Instr) → Option (List Instr) → Option (List Instr)
side_inlined e a b (Some c) o = Some (If e (record { list = c }) (record { list = b }) ∷ [])
side_inlined e a b None (Some c) = Some (If e (record { list = a }) (record { list = c }) ∷ [])
side_inlined e a b None None = None

-- statements, the first of which becomes others, or else a later one
abbrev pub next_inlined : Instr → List Instr → Option (List Instr) → Option (List Instr) → Option (List Instr)
next_inlined i is (Some js) o = Some (js ++ is)
next_inlined i is None o = option_map (λ js. i ∷ js) o

abbrev mutual
  -- The statements that a statement becomes where the first call in it, in the order of the text, that becomes something does. None
  -- where there is no such call.
  pub statement_inlined : Expansion → Instr → Option (List Instr)
  statement_inlined x (Call' xs p n es) = x xs p (terms_in es)
  statement_inlined x (If' e m a n b) = side_inlined e (items-the_row-Instr _ a) (items-the_row-Instr _ b) (row_inlined x a) (row_inlined x b)
  statement_inlined x (While' e v n a) = option_map (λ js. While e v (record { list = js }) ∷ []) (row_inlined x a)
  statement_inlined x _ = None

  pub row_inlined : {n : _} → Expansion → Row_of-Instr n → Option (List Instr)
  row_inlined x end_of-Instr = None
  row_inlined x (more_of-Instr i is) = next_inlined i (items-the_row-Instr _ is) (statement_inlined x i) (row_inlined x is)

-- the same of lists
abbrev pub each_inlined : Expansion → List Instr → Option (List Instr)
each_inlined x [] = None
each_inlined x (i ∷ is) = next_inlined i is (statement_inlined x i) (each_inlined x is)

-- the variables of a memory in which a body runs that it or its conditions read or write
abbrev pub used : Side → Term → Term → List Instr → List Var
used r p q is = each_touched is ++ (variables_read r p ++ variables_read r q)

-- a body with the first call inlined that is asked for, in the memory of its conditions
abbrev pub once : Declarations → Calls → Side → Term → Term → List Instr → Option (List Instr)
once ds w r p q is = each_inlined (λ xs f es. expanded (used r p q is) (asked ds w f) xs es) is

abbrev pub going_on : (List Instr → List Instr) → List Instr → Option (List Instr) → List Instr
going_on next is None = is
going_on next is (Some js) = next js

-- a body of which this is done again and again, at most so often
unfoldable pub repeated : ℕ → (List Instr → Option (List Instr)) → List Instr → List Instr
repeated zero f is = is
repeated (suc n) f is = going_on (repeated n f) is (f is)

-- the body without such calls (memory has room for fewer than 2^32)
abbrev pub without_calls : (List Instr → Option (List Instr)) → List Instr → List Instr
without_calls f is = repeated (2 ^ 32) f is

-- There is such a call, and each is inlined.
abbrev pub inlined : Declarations → Calls → Side → Term → Term → List Instr → Option (List Instr)
inlined ds w r p q is = option_map (λ js. without_calls (once ds w r p q) js) (once ds w r p q is)

abbrev pub or_none : Option (List Instr) → Answer (List Instr)
or_none None = refusing Shape
or_none (Some is) = given is

abbrev pub or_given : Option (List Instr) → List Instr → List Instr
or_given None is = is
or_given (Some js) is = js

-- two bodies of which one at least has such a call
abbrev pub both_inlined : Term → Term → List Instr → List Instr → Option (List Instr) → Option (List Instr) → Answer (List Goal)
both_inlined p q is js None None = refusing Shape
both_inlined p q is js a b = given (equiv (body (or_given a is)) (body (or_given b js)) p q ∷ [])

abbrev pub inline_both : Declarations → Calls → Acts → Row
inline_both ds w on.All (equiv (body is) (body js) p q) = both_inlined p q is js (inlined ds w side.Left p q is) (inlined ds w side.Right p q js)
inline_both ds w a G = refusing Shape

-- one body, or two
abbrev pub inline_row : Declarations → Calls → Acts → Row
inline_row ds w a G = on_one (with_body (λ o. or_none (inlined ds w o.side o.pre o.post o.list))) (one_body a G) (inline_both ds w a G)
