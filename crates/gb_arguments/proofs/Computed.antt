-- The footprint that is computed of a declared module has the globals that the module touches.
use Rattle.std.proofs.Common.{◌≡◌, Bool, true, false, if◌then◌else◌, List, [], ◌∷◌, Option, Some, None, option_map, bytes_eq, refl, ap, sym, ◌∙◌}
use Rattle.std.proofs.lemmas.Option.{none-some}
use Rattle.gb_core.specs.declared.var.Var.TheVariants.{Glob}
use Rattle.gb_terms.specs.declared.decl.Param.{Param}
use Rattle.gb_terms.specs.declared.module.Mexp.TheVariants.{Name as named}
use Rattle.gb_goal.specs.declared.scope.Entry.TheVariants as entry
use Rattle.gb_goal.specs.Interfaces.{of_entry, of_module}
use Rattle.gb_goal.specs.Scope as scope
use Rattle.gb_goal.specs.Scope.{entry_of}
use Rattle.gb_meaning.specs.Names.{Name}
use Rattle.gb_meaning.specs.Declared.{Declarations, declared}
use Rattle.gb_meaning.specs.Holds.{declared_modules}
use Rattle.gb_meaning.specs.Programs.{AreIn, AreOnce}
use Rattle.gb_meaning.specs.Settings.{Interpretation, declared_globals}
use Rattle.gb_typing.specs.Chosen.{IsChosenOver, chosen_under}
use Rattle.gb_typing.specs.Context.{Context}
use Rattle.gb_typing.specs.Formulas.{with_module}
use Rattle.gb_typing.specs.Modules.{functor_type, of_functor_type}
use Rattle.gb_typing.specs.Scopes.{AreTypedAfter, IsTypedScope, context_of}
use Rattle.gb_typing.specs.Sequents.{AreBinders}
use Rattle.gb_typing.proofs.Agreed.{resolved}
use Rattle.gb_typing.proofs.DeclaredProcedures.{names_are}
use Rattle.gb_mods.specs.Meets.{open_name}
use Rattle.gb_instances.specs.Footprint.{footprint_if}
use Rattle.gb_arguments.specs.Said.{AllOther, AreApart, AreFree, IsComplete}
use Rattle.gb_arguments.proofs.Choices.{AreOthers}
use Rattle.gb_arguments.proofs.PutModules.{complete_footprint, complete_meant}
use Rattle.gb_arguments.specs.Collect.{open_binder, open_binders}
use Rattle.gb_arguments.specs.Covers.{AreOpenFree, IsComputed, IsUnspelt}
use Rattle.gb_arguments.proofs.OpenFit.{open_binders_are}
use Rattle.gb_arguments.proofs.OpenScope.{AreFree as AreUnknown, are_free}

-- Names of parameters that are left open.

others : (c : Context) (q : Param) (ps : List Param) → AreUnknown (with_module c (open_binder q)) ps → AllOther q ps
others c q [] f = tt
others c q (p ∷ ps) f = (step (bytes_eq (open_name p.name) (open_name q.name)) f.0, others c q ps f.1)
  where
    step : (b : Bool) → (if b then Some (of_functor_type (functor_type c.modules.types (c.modules.types (let z = open_binder q in z.ty)))) else c.modules.interfaces (open_name p.name)) ≡ None → b ≡ false
    step true e = absurd (none-some _ (sym e))
    step false e = refl

pub are_apart : (c : Context) (qs : List Param) → AreBinders c (open_binders qs) → AreApart qs
are_apart c [] w = tt
are_apart c (q ∷ qs) w = (others c q qs (are_free (with_module c (open_binder q)) qs w.1), are_apart (with_module c (open_binder q)) qs w.1)

pub unspelt : (ds : scope.Declarations) → IsTypedScope (declared ds) → AreOpenFree ds → IsUnspelt ds
unspelt ds scoped free x = names_are ds scoped (open_name x) ∙ ap (λ o. option_map (resolved (context_of (declared ds)).modules.types) (of_entry ds o)) (free x)

free_parts : {A : Type 0} (b : Bool) (x : A) (o : Option A) → (if b then Some x else o) ≡ None → (b ≡ false) × (o ≡ None)
free_parts true x o e = absurd (none-some x (sym e))
free_parts false x o e = (refl, e)

-- no binder of a scope has a name under which nothing is declared
pub other_binders : (ds : scope.Declarations) (before : Declarations) (c : Context) → AreTypedAfter c before (declared ds) → (n : Name) → entry_of ds n ≡ None → AreOthers (declared_modules (declared ds)) n
other_binders [] before c w n e = tt
other_binders ((h, entry.AbstractModule b) ∷ ds) before c w n e =
    let k = free_parts (bytes_eq n h) (entry.AbstractModule b) (entry_of ds n) e in (ap (bytes_eq n) w.1.0 ∙ k.0, other_binders ds _ _ w.2 n k.1)
other_binders ((h, entry.Module m) ∷ ds) before c w n e = other_binders ds _ _ w.2 n (free_parts (bytes_eq n h) (entry.Module m) (entry_of ds n) e).1
other_binders ((h, entry.Lemma s bs) ∷ ds) before c w n e = other_binders ds _ _ w.2 n (free_parts (bytes_eq n h) (entry.Lemma s bs) (entry_of ds n) e).1
other_binders ((h, entry.Type t) ∷ ds) before c w n e = other_binders ds _ _ w.2 n (free_parts (bytes_eq n h) (entry.Type t) (entry_of ds n) e).1
other_binders ((h, entry.AbstractType) ∷ ds) before c w n e = other_binders ds _ _ w.2 n (free_parts (bytes_eq n h) entry.AbstractType (entry_of ds n) e).1
other_binders ((h, entry.Constant x) ∷ ds) before c w n e = other_binders ds _ _ w.2 n (free_parts (bytes_eq n h) (entry.Constant x) (entry_of ds n) e).1
other_binders ((h, entry.Operator o) ∷ ds) before c w n e = other_binders ds _ _ w.2 n (free_parts (bytes_eq n h) (entry.Operator o) (entry_of ds n) e).1
other_binders ((h, entry.ModuleType t) ∷ ds) before c w n e = other_binders ds _ _ w.2 n (free_parts (bytes_eq n h) (entry.ModuleType t) (entry_of ds n) e).1
other_binders ((h, entry.AbstractOperator o) ∷ ds) before c w n e = other_binders ds _ _ w.2 n (free_parts (bytes_eq n h) (entry.AbstractOperator o) (entry_of ds n) e).1
other_binders ((h, entry.Terminating p) ∷ ds) before c w n e = other_binders ds _ _ w.2 n (free_parts (bytes_eq n h) (entry.Terminating p) (entry_of ds n) e).1

module _ (ds : scope.Declarations) (scoped : IsTypedScope (declared ds)) (free : AreOpenFree ds) (i : Interpretation) (over : IsChosenOver (declared ds) i) (once : AreOnce i.world)
    (known : AreIn i.world (declared_globals (declared ds))) (unchosen : (x : Name) → chosen_under i.programs (open_name x) ≡ None) where
  all_free : (ps : List Param) → AreFree ds i.programs ps
  all_free [] = tt
  all_free (p ∷ ps) = ((free p.name, unchosen p.name), all_free ps)

  pub are_computed : IsComputed ds i
  are_computed n m e ys f =
      let w : IsComplete ds i.programs (named n) = record {
        interface = of_module m;
        there = ap (of_entry ds) e;
        free = all_free m.params;
        apart = are_apart (context_of (declared ds)) m.params (open_binders_are ds scoped (unspelt ds scoped free) (named n) (of_module m) (ap (of_entry ds) e));
        footprint = ys;
        found = ap (footprint_if ds (named n)) (ap (of_entry ds) e) ∙ f;
      } in (
        complete_footprint ds i scoped over once known (named n) w,
        λ a h. (complete_meant ds i scoped over once known (named n) w (Glob a) h).2,
      )
