-- `rnd` on a judgment with a probability: a sampling at the end of the body.
use Rattle.std.specs.Prelude.{List, [], ◌∷◌, Option, Some, None}
use Rattle.gb_core.specs.declared.refusal.Why.TheVariants.{Shape, SideCondition}
use Rattle.gb_core.specs.declared.ty.Ty.TheVariants.{Real as real_ty}
use Rattle.gb_core.specs.declared.var.Var.{Var}
use Rattle.gb_terms.specs.declared.op.Rel.{Rel}
use Rattle.gb_terms.specs.declared.op.Side.TheVariants.{Own}
use Rattle.gb_terms.specs.declared.term.Term.{Term}
use Rattle.gb_terms.specs.declared.term.Head.TheVariants.{Mu}
use Rattle.gb_terms.specs.Make.{node}
use Rattle.gb_goal.specs.Answers.{Answer}
use Rattle.gb_goal.specs.Goal.{Goal}
use Rattle.gb_goal.specs.Goal.Code.{body}
use Rattle.gb_goal.specs.Goal.Goal.{hoare, phoare}
use Rattle.gb_goal.specs.Rows.{Row, refusing}
use Rattle.gb_goal.specs.Scope.{Declarations}
use Rattle.gb_typing.specs.Samplings.{Sampling, last_sampling}
use Rattle.gb_prog.specs.Compared.{compared}
use Rattle.gb_full.specs.Loss.{first_loss}
use Rattle.gb_full.specs.Lossless.{of_rest}
use Rattle.gb_forms.specs.Drawn.{with_value}
use Rattle.gb_equiv.specs.Drawn.{clashing}
use Rattle.gb_mods.specs.Exclusions.{exclusions}

-- how likely the postcondition is of a sampled value: `mu d (fun v => Q)`
abbrev pub measured : Sampling → Term → Term
measured x q = node Mu (x.from ∷ with_value x q ∷ []) real_ty

-- the probability that is left stands so to the bound wherever the rest of the body ends
abbrev pub without_sampling : Sampling → Rel → Term → Term → Term → Goal
without_sampling x r p q b = hoare (body x.before) p (compared r (measured x q) b)

abbrev pub unless_clash : Option Var → Answer (List Goal) → Answer (List Goal)
unless_clash (Some z) a = refusing (SideCondition z)
unless_clash None a = a

-- the goals without the sampling that ends the body
abbrev pub by_end : Declarations → Rel → Term → Term → Term → Option Sampling → Answer (List Goal)
by_end ds r p q b None = refusing Shape
by_end ds r p q b (Some x) = unless_clash (clashing (exclusions ds) Own x.target q) (of_rest (first_loss ds x.before) r b (without_sampling x r p q b))

abbrev pub rnd_row : Declarations → Row
rnd_row ds (phoare (body is) r p q b) = by_end ds r p q b (last_sampling is)
rnd_row ds G = refusing Shape
