-- What shows that a loop ends: its variant is above 0 where the guard is true, and each turn makes it less.
use Rattle.std.specs.Prelude.{List, [], ◌∷◌, length, flat_map, codes}
use Rattle.gb_core.specs.declared.ty.Ty.{Ty}
use Rattle.gb_core.specs.declared.value.Value.TheVariants.{Num}
use Rattle.gb_terms.specs.declared.decl.TypedName.{TypedName}
use Rattle.gb_terms.specs.declared.op.Read.TheVariants.{Logical}
use Rattle.gb_terms.specs.declared.op.Side.TheVariants.{Own}
use Rattle.gb_terms.specs.declared.term.Head.TheVariants.{Lit, Read}
use Rattle.gb_terms.specs.declared.term.Instr.{Instr}
use Rattle.gb_terms.specs.declared.term.Term.{Term, out-Term}
use Rattle.gb_terms.specs.Make.{node}
use Rattle.gb_goal.specs.Goal.{form_of}
use Rattle.gb_goal.specs.Goal.Code.{body}
use Rattle.gb_goal.specs.Goal.Goal.{hoare}
use Rattle.gb_goal.specs.declared.sequent.Sequent.{Sequent}
use Rattle.gb_names.specs.Environment.{Name}
use Rattle.gb_print_names.specs.BoundNames.{is_among, primed}
use Rattle.gb_print_names.specs.Occurring.{judgment_locals}
use Rattle.gb_forms.specs.Variants.{less}
use Rattle.gb_typing.specs.Forms.{and_form, equal_form, every, implies_form}
use Rattle.gb_loops.specs.Loops.{Loop, loops}
use Rattle.gb_loops.specs.declared.variants.Loop.{Loop as Seen}

-- the type of a loop's variant
abbrev pub variant_type : Loop → Ty
variant_type l = (out-Term l.variant).ty

abbrev pub zero_of : Ty → Term
zero_of t = node (Lit (Num 0)) [] t

-- in each memory, where the guard is true the variant is above 0
abbrev pub above_zero : Loop → Term
above_zero l = every Own (implies_form l.guard (less (zero_of (variant_type l)) l.variant))

-- the one logical variable of the context: what the variant is before a turn
abbrev pub value_before : Ty → Term
value_before t = node (Read (Logical 0)) [] t

-- where a turn begins
abbrev pub turning : Loop → Term
turning l = and_form l.guard (equal_form l.variant (value_before (variant_type l)))

-- what a turn comes to
abbrev pub fallen : Loop → Term
fallen l = less l.variant (value_before (variant_type l))

-- a name, with primes behind it while it is one of these
abbrev pub unlike : List Name → Name → Name
unlike ns x = primed (length ns) (is_among ns) x

-- the name of the logical variable of a judgment, the locals of which have others
abbrev pub value_name : Term → Name
value_name f = unlike (judgment_locals (out-Term f).head (out-Term f).args []) (codes "k")

-- a goal over no logical variable, and over one
abbrev pub over_none : Term → Sequent
over_none f = record { logical = []; memories = []; modules = []; hyps = []; conclusion = f }

abbrev pub over_one : TypedName → Term → Sequent
over_one x f = record { logical = x ∷ []; memories = []; modules = []; hyps = []; conclusion = f }

-- each turn makes the variant less
abbrev pub falling : Loop → Term
falling l = form_of (hoare (body l.body) (turning l) (fallen l))

abbrev pub falling_goal : Loop → Sequent
falling_goal l = over_one (record { name = value_name (falling l); ty = variant_type l }) (falling l)

abbrev pub loop_goals : Loop → List Sequent
loop_goals l = over_none (above_zero l) ∷ falling_goal l ∷ []

-- a loop, as the code has it
abbrev pub loop_seen : Seen → Loop
loop_seen l = record { guard = l.guard.now; variant = l.variant.now; body = l.body.now.list }

-- the goals of all loops of a program, inner loops first
abbrev pub goals_of : List Instr → List Sequent
goals_of is = flat_map loop_goals (loops is)
