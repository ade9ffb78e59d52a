-- In a setting of a typed scope each concrete procedure is its body, in which each call means what it names there.
use Rattle.std.proofs.Common.{◌≡◌, Some, sym, ◌∙◌, subst}
use Rattle.std.proofs.Math.Path.{fun_ext}
use Rattle.gb_terms.specs.declared.decl.Proc.{Proc}
use Rattle.gb_terms.specs.declared.module.Mexp.{Mexp}
use Rattle.gb_terms.specs.declared.module.Mexp.TheVariants.{Name as named, Apply'}
use Rattle.gb_terms.specs.declared.module.ProcRef.{ProcRef}
use Rattle.gb_terms.specs.Rows.{mexps_in}
use Rattle.gb_goal.specs.Interfaces.{type_of_procedure}
use Rattle.gb_goal.specs.Scope as scope
use Rattle.gb_goal.specs.Scope.{module_of, proc_in, proc_at, procedure_of}
use Rattle.gb_meaning.specs.Commands.{statements}
use Rattle.gb_meaning.specs.Names.{Name}
use Rattle.gb_meaning.specs.Program.{Routine}
use Rattle.gb_meaning.specs.Program.Routine.{routine}
use Rattle.gb_meaning.specs.Setting.{Setting}
use Rattle.gb_meaning.specs.Declared.{declared}
use Rattle.gb_meaning.specs.Linking.{linked_procedure}
use Rattle.gb_meaning.specs.Modules.{procedure_at}
use Rattle.gb_meaning.specs.Modules as linked
use Rattle.gb_meaning.specs.Settings.{Interpretation, types_of, bare as bare_setting, with_operators, setting}
use Rattle.gb_meaning.proofs.Lists.{declared-module}
use Rattle.gb_typing.specs.Chosen.{IsChosenOver}
use Rattle.gb_typing.specs.Context.{procedure}
use Rattle.gb_typing.specs.Scopes.{context_of, IsTypedScope}
use Rattle.gb_typing.proofs.ChosenInstances.{instance_runs}
use Rattle.gb_typing.proofs.ClosedSettings.{chosen_alike, setting_closed}
use Rattle.gb_typing.proofs.KeptPrograms.{chosen, linked_is}
use Rattle.gb_typing.proofs.Located.{typed_in_scope}
use Rattle.gb_typing.proofs.ModulesAlike.{linking-looks}
use Rattle.gb_typing.proofs.Standing.{of_instance}
use Rattle.gb_typing.proofs.WholeReads.{read_whole}

module _ (ds : scope.Declarations) (scoped : IsTypedScope (declared ds)) (i : Interpretation) (over : IsChosenOver (declared ds) i) where
  abbrev g : Setting
  g = setting (declared ds) i

  abbrev h : Setting
  h = with_operators i.table (bare_setting (types_of (declared ds) i) i.table) (declared ds)

  linked_at : (n f : Name) (p : Proc) → proc_in (module_of ds n) f ≡ Some p →
      g.procedure (record { «module» = named n; name = f }) ≡ Some (routine p.params p.locals (statements g p.body.list) p.value)
  linked_at n f p e =
      subst (λ (ms : linked.Modules Routine). procedure_at ms (record { «module» = named n; name = f }) ≡ Some (linked_procedure h (procedure_at ms) p))
      (sym (fun_ext (linked_is (declared ds) h i.programs over.unchosen)))
      (read_whole (linked_procedure h) (linking-looks h) (chosen (declared ds) h i.programs over.unchosen) ds scoped (chosen_alike (declared ds) i scoped over) n f p e)

  linked_in : (m : Mexp) (f : Name) (p : Proc) → proc_at ds m f ≡ Some p → procedure (context_of (declared ds)) (record { «module» = m; name = f }) ≡ Some (type_of_procedure p) →
      g.procedure (record { «module» = m; name = f }) ≡ Some (routine p.params p.locals (statements g p.body.list) p.value)
  linked_in (named n) f p e t = linked_at n f p e
  linked_in (Apply' n k args) f p e t =
      let x = of_instance ds n f (mexps_in args) p e in
      subst (λ (z : Proc). g.procedure (record { «module» = Apply' n k args; name = f }) ≡ Some (routine z.params z.locals (statements g z.body.list) z.value)) x.is
      (instance_runs (declared ds) scoped i over.unchosen (context_of (declared ds)) (λ k j e. e) (setting_closed (declared ds) i scoped over)
      (record { «module» = Apply' n k args; name = f }) (type_of_procedure p) t x.found (declared-module ds n ∙ x.there) x.own x.procedure)

  -- a concrete procedure is its body
  pub linked_there : (r : ProcRef) (p : Proc) → procedure_of ds r ≡ Some p → g.procedure r ≡ Some (routine p.params p.locals (statements g p.body.list) p.value)
  linked_there r p e = let t = typed_in_scope ds scoped r p e in linked_in r.«module» r.name p e t.type
