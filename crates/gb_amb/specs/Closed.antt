-- Conclusions of which nothing is to be shown, once what stands in front is taken into the context and conjunctions are split.
use Rattle.std.specs.Prelude.{◌≡◌, ◌⊎◌, ℕ, zero, suc, true, false, List, [], ◌∷◌}
use Rattle.gb_terms.specs.declared.op.Op.TheVariants.{And, Equal, Iff, Implies}
use Rattle.gb_terms.specs.declared.term.Term.{Term, out-Term}
use Rattle.gb_terms.specs.declared.term.Head.{Head}
use Rattle.gb_terms.specs.declared.term.Head.TheVariants.{Builtin, All, AllMemory}
use Rattle.gb_terms.specs.Make.{truth_literal}
use Rattle.gb_terms.specs.Nodes.{term_nodes}
use Rattle.gb_goal.specs.declared.sequent.Hyp.{Hyp}
use Rattle.gb_goal.specs.declared.sequent.Sequent.{Sequent}
use Rattle.gb_meaning.specs.Truth.{Choice}
use Rattle.gb_amb.specs.Quantified.{goal_quantifies_modules}
use Rattle.gb_amb.specs.Introduced.{with_premise, with_variable, with_memory}
use Rattle.gb_amb.specs.Parts.{concluding}

-- a form is that of a hypothesis
abbrev pub IsAmong : List Hyp → Term → Type 0
IsAmong [] f = ⊥
IsAmong (h ∷ hs) f = (h.form ≡ f) ⊎ IsAmong hs f

-- an equation or an equivalence of a term with itself
abbrev pub IsOneTwice : Head → List Term → Type 0
IsOneTwice (Builtin Equal) (a ∷ b ∷ []) = a ≡ b
IsOneTwice (Builtin Iff) (a ∷ b ∷ []) = a ≡ b
IsOneTwice h ts = ⊥

-- the conclusion is `true`, or a hypothesis is `false`, or the conclusion is a hypothesis, or says that a term is itself
abbrev pub IsEvident : Sequent → Type 0
IsEvident q =
    (q.conclusion ≡ truth_literal true)
    ⊎ (IsAmong q.hyps (truth_literal false) ⊎ (IsAmong q.hyps q.conclusion ⊎ IsOneTwice (out-Term q.conclusion).head (out-Term q.conclusion).args))

-- A goal with a conclusion of this head and these arguments, where it is known which goals are closed. A leading `forall` and a leading
-- premise are taken into the context, by no name, and both sides of a conjunction are closed. A quantifier over modules isn't built, so
-- beside one a `forall` stays.
abbrev pub IsClosedAt : (Sequent → Type 0) → Sequent → Head → List Term → Type 0
IsClosedAt C q (All u) (f ∷ []) = Choice (goal_quantifies_modules q) (IsEvident q) (C (with_variable q [] u f))
IsClosedAt C q AllMemory (f ∷ []) = Choice (goal_quantifies_modules q) (IsEvident q) (C (with_memory q [] f))
IsClosedAt C q (Builtin Implies) (a ∷ f ∷ []) = C (with_premise q [] a f)
IsClosedAt C q (Builtin And) (a ∷ b ∷ []) = C (concluding q a) × C (concluding q b)
IsClosedAt C q h ts = IsEvident q

-- the same, where so many layers of the conclusion are taken apart at most
abbrev pub IsClosedWithin : ℕ → Sequent → Type 0
IsClosedWithin zero q = IsEvident q
IsClosedWithin (suc n) q = IsClosedAt (IsClosedWithin n) q (out-Term q.conclusion).head (out-Term q.conclusion).args

-- no conclusion has more layers than nodes
abbrev pub IsClosed : Sequent → Type 0
IsClosed q = IsClosedWithin (term_nodes q.conclusion) q
