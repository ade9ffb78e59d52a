-- The probability of an event, as a chance in the run that a judgment of the procedure speaks of.
use Rattle.std.proofs.Common.{◌≡◌, List, [], ◌∷◌, ◌++◌, Some, ap, sym, ◌∙◌, subst}
use Rattle.gb_terms.specs.declared.decl.Proc.{Proc}
use Rattle.gb_terms.specs.declared.decl.TypedName.{TypedName}
use Rattle.gb_terms.specs.declared.term.Term.{Term}
use Rattle.gb_meaning.specs.Commands.{statements}
use Rattle.gb_meaning.specs.Judgments.{Judge, chance, den, from_frame, outcome_denominator, outcomes_of, speaking}
use Rattle.gb_meaning.specs.Memory.{Memory}
use Rattle.gb_meaning.specs.Program.{Routine}
use Rattle.gb_meaning.specs.Program.Routine.{routine}
use Rattle.gb_meaning.specs.Setting.{Setting}
use Rattle.gb_meaning.specs.Setting.Meaning.{fraction}
use Rattle.gb_meaning.specs.State.{State, at, memory_of}
use Rattle.gb_meaning.specs.Terms.{val}
use Rattle.gb_meaning.specs.Declared.{declared}
use Rattle.gb_goal.specs.declared.sequent.Sequent.{Sequent}
use Rattle.gb_goal.specs.Goal.Code.{procedure}
use Rattle.gb_goal.specs.Scope.{Declarations, procedure_of}
use Rattle.gb_typing.specs.Context.{Context}
use Rattle.gb_typing.specs.Fits.{IsSettingOf, IsStateOf}
use Rattle.gb_typing.specs.Meaning.{denominator_of, run_of}
use Rattle.gb_typing.specs.Programs.{HaveVariableTypes, type_of_procedure}
use Rattle.gb_typing.specs.Rules.{IsSettingOver}
use Rattle.gb_typing.specs.Scopes.{context_of, IsTypedScope}
use Rattle.gb_typing.specs.Sequents.{of_sequent, IsTypedSequent}
use Rattle.gb_typing.specs.Typing.{IsTyped}
use Rattle.gb_typing.proofs.LinkedProcedures.{linked_there}
use Rattle.gb_typing.proofs.Located.{IsTypedThere, typed_there}
use Rattle.gb_typing.proofs.Scripts.{same_some}
use Rattle.gb_typing.proofs.Variables.{variable_finite}
use Rattle.gb_prog.proofs.Calls.{called_outcomes}
use Rattle.gb_steps.specs.Chances.{Chance, chance_of}
use Rattle.gb_pr.proofs.ChanceForms.{AreFor, IsTypedChance, chance_value}
use Rattle.gb_pr.proofs.Starts.{IsStart, start_of, start_values}
use Rattle.gb_pr.proofs.Starting.{AreGiven, given_values}

-- parameters have types of values
are_given : (c : Context) (xs ls : List TypedName) → HaveVariableTypes (xs ++ ls) → (es : List Term) → AreFor c xs es → AreGiven c xs es
are_given c [] ls h [] w = tt
are_given c [] ls h (e ∷ es) w = absurd w
are_given c (x ∷ xs) ls h [] w = absurd w
are_given c (x ∷ xs) ls h (e ∷ es) w =
    let m = w.0.0 in
    (record { typed = m.typed; plain = w.0.1; type = m.written; finite = variable_finite x.ty h.0 }, are_given c xs ls h.1 es w.1)

module _ (ds : Declarations) (scoped : IsTypedScope (declared ds)) (q : Sequent) (t : IsTypedSequent (context_of (declared ds)) q) where
  abbrev c : Context
  c = of_sequent (context_of (declared ds)) q t.frames

  -- the procedure
  pub there : (k : Chance) (p : Proc) → procedure_of ds k.procedure ≡ Some p → IsTypedThere c k.procedure p
  there k p e = typed_there ds scoped q t.modules t.frames k.procedure p e

  module _ (k : Chance) (w : IsTypedChance c k) (p : Proc) (e : procedure_of ds k.procedure ≡ Some p) where
    abbrev found : IsTypedThere c k.procedure p
    found = there k p e

    pub starts : IsStart c p.params k
    starts =
        let body = (found.typed).body in
        let type : w.type ≡ type_of_procedure p = same_some w.type (type_of_procedure p) (sym w.declared ∙ found.type) in
        record { memory = w.memory; place = w.place; arguments = are_given c p.params p.locals body.locals k.arguments (subst (λ u. AreFor c u.params k.arguments) type w.arguments) }

    module _ (g : Setting) (fits : IsSettingOf c g) (over : IsSettingOver (declared ds) g) (j : Judge) (s : State) (fit : IsStateOf c g s) where
      abbrev whole : Routine
      whole = routine p.params p.locals (statements g p.body.list) p.value

      linked : g.procedure k.procedure ≡ Some whole
      linked =
          subst (λ h. h.procedure k.procedure ≡ Some (routine p.params p.locals (statements h p.body.list) p.value)) (sym over.meant)
          (linked_there ds scoped over.interpretation over.chosen k.procedure p e)

      abbrev start : Memory
      start = start_of g j s p.params k

      outcomes_are : outcomes_of g (g.procedure k.procedure) (start_values g j s k) (memory_of s k.memory) ≡ run_of g s (procedure k.procedure) start
      outcomes_are =
          ap (λ o. outcomes_of g o (start_values g j s k) (memory_of s k.memory)) linked
          ∙ sym (called_outcomes g whole (start_values g j s k) (given_values c g fits (speaking g j) s fit p.params k.arguments starts.arguments) (memory_of s k.memory).globals)
          ∙ ap (λ o. from_frame g o start) (sym linked)

      -- the term is the chance of the event where the procedure starts from the arguments
      pub probability_is : (f : Term) → IsTyped c f → chance_of f ≡ Some k →
          val g (speaking g j) f s ≡ fraction (chance (run_of g s (procedure k.procedure) start) (denominator_of g (procedure k.procedure)) (λ n. den g j k.event (at s n)))
      probability_is f v h =
          chance_value c f v k h g j s
          ∙ ap (λ l. fraction (chance l (outcome_denominator g (g.procedure k.procedure)) (λ n. den g j k.event (at s n)))) outcomes_are
