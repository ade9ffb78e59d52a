-- The parts of a conclusion that are to be shown: those of the conclusion itself, and those by its leading premise.
use Rattle.std.specs.Prelude.{List, [], ◌∷◌, map, if◌then◌else◌}
use Rattle.gb_core.specs.declared.place.Place.{Place}
use Rattle.gb_core.specs.declared.refusal.Why.TheVariants.{Shape}
use Rattle.gb_core.specs.declared.ty.Ty.TheVariants.{Bool as bool_ty, Real as real_ty}
use Rattle.gb_terms.specs.declared.op.Op.TheVariants.{Abs, And, AtMost, Iff, Implies, Negate, Or}
use Rattle.gb_terms.specs.declared.term.Term.{Term, out-Term}
use Rattle.gb_terms.specs.declared.term.Head.{Head}
use Rattle.gb_terms.specs.declared.term.Head.TheVariants.{Builtin, All, Some, AllMemory, SomeMemory}
use Rattle.gb_terms.specs.Make.{applied, node}
use Rattle.gb_goal.specs.Answers.{Answer}
use Rattle.gb_goal.specs.Answers.Answer.{given, refused}
use Rattle.gb_goal.specs.declared.sequent.Sequent.{Sequent}
use Rattle.gb_steps.specs.declared.step.AmbientRule.{AmbientRule}
use Rattle.gb_steps.specs.declared.step.AmbientRule.TheVariants.{Split, Left, Right, Discard, Unpack, Branch}
use Rattle.gb_typing.specs.Forms.{implies_form}
use Rattle.gb_amb.specs.Quantified.{quantifies_modules}

-- a form with c behind a quantifier; with a quantifier over modules in c this isn't built
abbrev pub unless_module : Place → Term → Term → Answer (List Term)
unless_module place c f = if quantifies_modules c then refused Shape place else given (f ∷ [])

-- What is to be shown of a conclusion c under a premise with this head and these arguments: c without the premise; under both sides
-- of a conjunction, one after the other; for each thing that is said to exist; or under each side of a disjunction. Nothing is
-- bound around the goal, so c is the same behind a quantifier.
abbrev pub by_premise : AmbientRule → Place → Head → List Term → Term → Answer (List Term)
by_premise Discard place h ts c = given (c ∷ [])
by_premise Unpack place (Builtin And) (a ∷ b ∷ []) c = given (implies_form a (implies_form b c) ∷ [])
by_premise Unpack place (Some u) (a ∷ []) c = unless_module place c (node (All u) (implies_form a c ∷ []) bool_ty)
by_premise Unpack place SomeMemory (a ∷ []) c = unless_module place c (node AllMemory (implies_form a c ∷ []) bool_ty)
by_premise Branch place (Builtin Or) (a ∷ b ∷ []) c = given (implies_form a c ∷ implies_form b c ∷ [])
by_premise r place h ts c = refused Shape place

abbrev pub at_most_form : Term → Term → Term
at_most_form a b = applied AtMost (a ∷ b ∷ []) bool_ty

-- That a term with this head and these arguments is at most a bound: an absolute value is where the real is, and its opposite.
abbrev pub bounded_at : Place → Head → List Term → Term → Answer (List Term)
bounded_at place (Builtin Abs) (r ∷ []) b = given (at_most_form r b ∷ at_most_form (applied Negate (r ∷ []) real_ty) b ∷ [])
bounded_at place h ts b = refused Shape place

-- the parts of a conclusion with this head and these arguments: those of a conjunction, of an equivalence or of a bound on an absolute
-- value, or one side of a disjunction
abbrev pub parts_at : AmbientRule → Place → Head → List Term → Answer (List Term)
parts_at Split place (Builtin And) (a ∷ b ∷ []) = given (a ∷ b ∷ [])
parts_at Split place (Builtin Iff) (a ∷ b ∷ []) = given (implies_form a b ∷ implies_form b a ∷ [])
parts_at Split place (Builtin AtMost) (a ∷ b ∷ []) = bounded_at place (out-Term a).head (out-Term a).args b
parts_at Left place (Builtin Or) (a ∷ b ∷ []) = given (a ∷ [])
parts_at Right place (Builtin Or) (a ∷ b ∷ []) = given (b ∷ [])
parts_at r place h ts = refused Shape place

-- an implication by its premise, and other conclusions by themselves
abbrev pub by_shape : AmbientRule → Place → Head → List Term → Answer (List Term)
by_shape r place (Builtin Implies) (a ∷ c ∷ []) = by_premise r place (out-Term a).head (out-Term a).args c
by_shape r place h ts = parts_at r place h ts

abbrev pub parts_of : AmbientRule → Place → Term → Answer (List Term)
parts_of r place f = by_shape r place (out-Term f).head (out-Term f).args

-- the goal with another conclusion
abbrev pub concluding : Sequent → Term → Sequent
concluding q f = record q { conclusion = f }

abbrev pub each_concluding : Sequent → Answer (List Term) → Answer (List Sequent)
each_concluding q (given fs) = given (map (concluding q) fs)
each_concluding q (refused why place) = refused why place

-- the goals with the parts of the conclusion in its place
abbrev pub by_parts : AmbientRule → Place → Sequent → Answer (List Sequent)
by_parts r place q = each_concluding q (parts_of r place q.conclusion)
