-- `rnd{1}`, `rnd{2}`: a sampling at the end of one body of an equivalence.
use Rattle.std.specs.Prelude.{if◌then◌else◌, List, [], ◌∷◌, Option, Some, None}
use Rattle.gb_core.specs.declared.refusal.Why.TheVariants.{Shape}
use Rattle.gb_terms.specs.declared.op.Side.{Side}
use Rattle.gb_terms.specs.declared.op.Read.TheVariants.{Program}
use Rattle.gb_terms.specs.declared.term.Term.{Term}
use Rattle.gb_walk.specs.declared.change.Change.TheVariants.{ToTerm}
use Rattle.gb_walk.specs.Change.{term_changed}
use Rattle.gb_steps.specs.declared.step.Acts.{Acts}
use Rattle.gb_steps.specs.declared.step.Acts.TheVariants as on
use Rattle.gb_goal.specs.Answers.{Answer}
use Rattle.gb_goal.specs.Goal.{Goal}
use Rattle.gb_goal.specs.Rows.{Row, refusing}
use Rattle.gb_goal.specs.Scope.{Declarations}
use Rattle.gb_typing.specs.Forms.{and_form, located}
use Rattle.gb_typing.specs.Samplings.{Sampling, last_sampling}
use Rattle.gb_typing.specs.Supports.{nearest, for_support}
use Rattle.gb_forms.specs.Surely.{surely_drawn}
use Rattle.gb_full.specs.Loss.{may_lose}
use Rattle.gb_prog.specs.OneBody.{OneBody, one_body, on_one}
use Rattle.gb_equiv.specs.Drawn.{clashing, unless_clash}
use Rattle.gb_mods.specs.Exclusions.{exclusions}

-- the postcondition of a value that is sampled on this side
abbrev pub with_value : Side → Sampling → Term → Term
with_value r x q = term_changed q (ToTerm (Program x.target r) (nearest x.ty) ∷ [])

-- The postcondition holds of each value that may be drawn: `forall v, v \in d => Q`.
abbrev pub each_drawn : Side → Sampling → Term → Term
each_drawn r x q = for_support x.ty (located r x.from) (with_value r x q)

-- what is to hold before the sampling; that some value is drawn is asked first where the distribution may lose weight
abbrev pub before_drawing : Declarations → Side → Sampling → Term → Term
before_drawing ds r x q = if may_lose ds x.from then and_form (surely_drawn r x) (each_drawn r x q) else each_drawn r x q

-- the goal without the sampling that ends the body on which the rule acts
abbrev pub by_end : Declarations → OneBody → Option Sampling → Answer (List Goal)
by_end ds o (Some x) = unless_clash (clashing (exclusions ds) o.side x.target o.post) (o.goal x.before o.pre (before_drawing ds o.side x o.post))
by_end ds o None = refusing Shape

-- `rnd` on one of two bodies
abbrev pub drawn_row : Declarations → Acts → Row
drawn_row ds on.All G = refusing Shape
drawn_row ds a G = on_one (λ o. by_end ds o (last_sampling o.list)) (one_body a G) (refusing Shape)
