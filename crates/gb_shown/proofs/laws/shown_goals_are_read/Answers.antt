use Rattle.gb_accepted.proofs.Grounds.{Grounds}
use Rattle.gb_shown.proofs.Assembled.{names_given}
use Rattle.gb_shown.proofs.Histories.{shown_are_read}
use Rattle.gb_shown.proofs.ReadCommands.{tree_read}
use Rattle.gb_shown.proofs.laws.shown_goals_are_read.Goals as goal

pub returns : goal.returns
returns c =
    let o : Grounds = record {
      typing = record {
        entries_added = c.entries.ensures.added;
        others = c.entries.ensures.others;
        entries_firm = c.entries.ensures.firm;
        entries_speak = c.entries.ensures.speaks;
        module_speaks = c.modules.ensures.speaks;
        procedures = c.statements.ensures.procedures;
        module_added = c.modules.ensures.added;
        statement = c.statements.ensures.typed;
        statement_scope = c.statements.ensures.scope;
        statement_goal = c.statements.ensures.goal;
        free = c.statements.ensures.free;
        lemma_added = c.lemmas.ensures;
        body_rule = c.typed_rules.ensures.bodies;
        conclusion = c.typed_forms.ensures.conclusions;
        used = c.typed_forms.ensures.uses;
        hints = c.typed_forms.ensures.hints;
        events = c.typed_forms.ensures.events;
        rule = c.typed_rules.ensures.relational;
        call_rule = c.typed_rules.ensures.calls;
        abstract_rule = c.typed_rules.ensures.adversaries;
        probabilities_typed = c.typed_rules.ensures.probabilities;
      };
      names = record {
        texts = c.texts_begin_with_no_blank.ensures;
        entries = c.names.ensures.entries;
        modules = c.names.ensures.modules;
        lemmas = c.names.ensures.lemmas;
        statements = c.names.ensures.statements;
      };
      rules = record {
        goal = c.typing.ensures.goal;
        front = c.fronts.ensures;
        outer = c.contexts.ensures;
        lifted = c.sequents.ensures;
        on_bodies = c.rules.ensures;
        bodies_refuse = c.other_forms.ensures;
        equiv_refuses = c.other_goals.ensures;
        relational = c.relational_rules.ensures;
        chances = c.chance_rules.ensures;
        chances_refuse = c.no_judgments.ensures;
        probabilities = c.probability_rules.ensures;
        calls = c.call_rules.ensures;
        calls_refuse = c.other_conclusions.ensures;
        abstract_calls = c.abstract_rules.ensures;
        abstract_refuse = c.refused_forms.ensures;
        transformations_refuse = c.untransformed_forms.ensures;
        known_calls = c.known_calls.ensures;
        same_statements = c.same_statements.ensures.sound;
        on_conclusions = c.steps.ensures;
        on_uses = c.sound_uses.ensures;
        on_equals = c.sound_rewriting.ensures;
        smt = c.sound_smt.ensures;
        instances = c.instances_hold.ensures;
        linear = c.linear_is_sound.ensures;
      };
      loops = record {
        rows = c.rows.ensures;
        lifted = c.sequents-2.ensures;
        bodies = c.bodies.ensures;
        entered = c.entered.ensures;
        relational = c.relational.ensures;
        chances = c.chances.ensures;
        calls = c.calls.ensures;
        abstract_calls = c.abstract_calls.ensures;
        known_calls = c.known_calls-2.ensures;
        same_statements = c.same_statements.ensures.ends;
        conclusions = c.conclusions.ensures.steps;
        uses = c.conclusions.ensures.uses;
        equals = c.equals.ensures;
        forms = c.forms.ensures;
        while = c.while_is_sound.ensures;
        transformations = c.transforming_rules.ensures;
        beside = c.decided_beside.ensures;
        proved = c.proved_loops.ensures;
        with_proved = c.with_proved_loops.ensures;
      };
      models = record {
        model = c.typed_scopes_have_models.ensures.model;
        coupled = c.equivalences_give_couplings.ensures.coupled;
        stay = c.goals_stay.ensures.scripts;
        stay_typed = c.goals_stay_typed.ensures;
        stay_seen = c.goals_stay.ensures.binders;
        instances = c.instances.ensures;
        without_declared = c.declared_modules.ensures;
        parts = c.parts_of_scopes.ensures;
      };
    } in
    let read = tree_read c.words_are_tokens.ensures.trees c.trees_are_sorted.ensures.texts in
    shown_are_read o (names_given read c.steps-2.ensures c.termination.ensures c.named_goals_are_read.ensures)
