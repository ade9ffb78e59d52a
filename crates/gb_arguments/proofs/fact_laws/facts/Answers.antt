use Rattle.gb_typing.specs.Scopes.{context_of}
use Rattle.gb_typing.specs.Sequents.{of_sequent}
use Rattle.gb_arguments.proofs.Facts.{holds_there, judged_form}
use Rattle.gb_arguments.proofs.fact_laws.facts.Goals as goal

pub returns : goal.returns
returns c = λ before later scoped firm speaks q t alone front bodies logical conclusion holds es fit typed given r none plain says.
    holds_there before later scoped firm speaks q t es fit logical conclusion typed given holds alone front
    (judged_form (of_sequent (context_of before) q t.frames) q.conclusion t.conclusion bodies front) r none plain says
