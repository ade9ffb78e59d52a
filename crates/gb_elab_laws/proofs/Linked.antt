-- What a reference is linked to runs where it is called.
use Rattle.std.proofs.Common.{◌≡◌, Option, Some, None, refl, sym, subst}
use Rattle.std.specs.Option.{option_map}
use Rattle.gb_core.specs.declared.refusal.Why.TheVariants.{Shape}
use Rattle.gb_terms.specs.declared.decl.Proc.{Proc}
use Rattle.gb_terms.specs.declared.module.ProcRef.{ProcRef}
use Rattle.gb_goal.specs.Answers.{given_or, nowhere}
use Rattle.gb_goal.specs.Answers.Answer.{given}
use Rattle.gb_goal.specs.Scope as scope
use Rattle.gb_goal.specs.Scope.{procedure_of}
use Rattle.gb_meaning.specs.Commands.{statements}
use Rattle.gb_meaning.specs.Program.Routine.{routine}
use Rattle.gb_meaning.specs.Setting.{Setting}
use Rattle.gb_meaning.specs.Declared.{declared}
use Rattle.gb_typing.specs.Rules.{IsSettingOver}
use Rattle.gb_typing.specs.Scopes.{IsTypedScope}
use Rattle.gb_typing.proofs.Given.{refused_given, same_given}
use Rattle.gb_typing.proofs.LinkedProcedures.{linked_there}
use Rattle.gb_mods.specs.Link.{link, linked}
use Rattle.gb_mods.specs.declared.procedures.Linked.{Linked}

module _ (ds : scope.Declarations) (scoped : IsTypedScope (declared ds)) (g : Setting) (over : IsSettingOver (declared ds) g) where
  meant : (p : ProcRef) (a : Proc) → procedure_of ds p ≡ Some a → g.procedure p ≡ Some (routine a.params a.locals (statements g a.body.list) a.value)
  meant p a e =
      subst (λ h. h.procedure p ≡ Some (routine a.params a.locals (statements h a.body.list) a.value)) (sym over.meant)
      (linked_there ds scoped over.interpretation over.chosen p a e)

  pub linked_runs : (p : ProcRef) (l : Linked) → link ds p ≡ given l → g.procedure p ≡ Some (routine l.params l.locals (statements g l.body.list) l.result)
  linked_runs p l e = by_found (procedure_of ds p) refl e
    where
      by_found : (o : Option Proc) → procedure_of ds p ≡ o → given_or (option_map linked o) Shape nowhere ≡ given l →
          g.procedure p ≡ Some (routine l.params l.locals (statements g l.body.list) l.result)
      by_found None d f = refused_given Shape l f
      by_found (Some a) d f = subst (λ z. g.procedure p ≡ Some (routine z.params z.locals (statements g z.body.list) z.result)) (same_given (linked a) l f) (meant p a d)
