-- What a procedure of a module touches in the meaning, where its parameters are open, is in the footprint that is computed of the module.
use Rattle.std.proofs.Common.{◌≡◌, ◌⊎◌, inl, inr, Bool, true, false, if◌then◌else◌, bytes_eq, List, [], ◌∷◌, ◌++◌, map, Option, Some, None, refl, ap, sym, ◌∙◌, subst}
use Rattle.std.proofs.Math.Path.{fun_ext}
use Rattle.std.proofs.lemmas.Option.{none-some, same_Some}
use Rattle.std.proofs.lemmas.Slice.Eq.{bytes_eq-Decides}
use Rattle.gb_core.specs.declared.var.Var.{Var}
use Rattle.gb_core.specs.declared.var.Var.TheVariants.{Glob}
use Rattle.gb_terms.specs.declared.decl.Module.{Module}
use Rattle.gb_terms.specs.declared.decl.Param.{Param}
use Rattle.gb_terms.specs.declared.decl.Proc.{Proc}
use Rattle.gb_terms.specs.declared.module.Bind.{Bind}
use Rattle.gb_terms.specs.declared.module.Mexp.{Mexp}
use Rattle.gb_terms.specs.declared.module.ProcRef.{ProcRef}
use Rattle.gb_terms.specs.declared.term.Term.{Term}
use Rattle.gb_goal.specs.declared.scope.Entry.TheVariants as entry
use Rattle.gb_goal.specs.Instances.{arguments_of, given_more, instance, name_of, stands_for}
use Rattle.gb_goal.specs.Interfaces.{Interface, ProcedureType, interface_at}
use Rattle.gb_goal.specs.Scope as scope
use Rattle.gb_goal.specs.Scope.{entry_of, proc_of}
use Rattle.gb_meaning.specs.Names.{Name}
use Rattle.gb_meaning.specs.Declared.{Declarations, ModuleType, declared}
use Rattle.gb_meaning.specs.Footprints.{body_touched, footprint_read, of_callee, variables}
use Rattle.gb_meaning.specs.Modules.{Procedures, found, module_at, modules_of, no_module}
use Rattle.gb_meaning.specs.Modules as linked
use Rattle.gb_meaning.specs.Settings.{Interpretation, footprints, with_abstract_footprints}
use Rattle.gb_typing.specs.Alike.{NameSigned}
use Rattle.gb_typing.specs.Chosen.{IsChosenOver}
use Rattle.gb_typing.specs.Scopes.{context_of, IsTypedScope}
use Rattle.gb_typing.specs.Sequents.{AreBinders}
use Rattle.gb_typing.proofs.ClosedSettings.{touched_is}
use Rattle.gb_typing.proofs.Follows.{footprint_follows}
use Rattle.gb_typing.proofs.ModulesAlike.{footprint-looks}
use Rattle.gb_mods.specs.Called.{calls}
use Rattle.gb_mods.specs.Footprint.{reference}
use Rattle.gb_mods.specs.Meets.{left_open}
use Rattle.gb_mods.specs.Order.{joined}
use Rattle.gb_mods.specs.Reach.{all_from}
use Rattle.gb_mods.specs.Touched.{apart, each_touched, touched_in}
use Rattle.gb_mods.proofs.Closed.{IsIn}
use Rattle.gb_arguments.specs.Collect.{open_binders}
use Rattle.gb_instances.specs.Footprint.{all_touched, footprint, own, procedures_of, touched_at, touched_by, touched_if, with_reached}
use Rattle.gb_arguments.specs.OpenGoals.{AreOpenFit}
use Rattle.gb_arguments.proofs.Bridge.{opened_typed, opened_value}
use Rattle.gb_arguments.proofs.Cover.{covered}
use Rattle.gb_arguments.proofs.FootprintBodies.{split_body}
use Rattle.gb_arguments.proofs.FootprintMembers.{either, has_behind, has_either, has_front, in_ordered, joined_has, kept, ordered_has, was_there}
use Rattle.gb_arguments.proofs.Members.{Has}
use Rattle.gb_arguments.proofs.Closed.{all_closed}

-- What a procedure touches it touches itself, or in a call.
pub touched_splits : (h : ProcRef → Option (List Var)) (p : Proc) (z : Var) → Has (footprint_read h p) z →
    Has (touched_in p) z ⊎ ((q : ProcRef) × IsIn (calls p.body.list) q × Has (of_callee (h q)) z)
touched_splits h p z has =
    let k = was_there (body_touched h p.body.list ++ variables p.value) z (in_ordered _ z has) in
    either
    (λ b. either (λ o. inl (kept (each_touched p.body.list ++ variables p.value) z k.0 (has_front (each_touched p.body.list) (variables p.value) z o))) (λ t. inr t)
    (split_body h z p.body.list b))
    (λ v. inl (kept (each_touched p.body.list ++ variables p.value) z k.0 (has_behind (each_touched p.body.list) (variables p.value) z v)))
    (has_either (body_touched h p.body.list) (variables p.value) z k.1)

-- an instance touches itself what its procedure does
instance_touches : (ps : List Param) (es : List Mexp) (p : Proc) (z : Var) → Has (touched_in (instance ps es p)) z → Has (touched_in p) z
instance_touches ps es p z h =
    in_ordered (touched_in p) z (subst (λ xs. Has xs z) (footprint_follows apart (stands_for ps es) p) (ordered_has (touched_in (instance ps es p)) z h))

abbrev nothing : Param → Procedures (List Var)
nothing q = []

module _ (ds : scope.Declarations) (scoped : IsTypedScope (declared ds)) (f0 : Term)
    (signed : (n : Name) (t : ModuleType) → (context_of (declared ds)).modules.types n ≡ Some t → NameSigned (declared ds) t t.signatures)
    (i : Interpretation) (chosen : IsChosenOver (declared ds) i)
    (m : Mexp) (k : Interface) (seen : interface_at ds None m ≡ Some k) (w : AreBinders (context_of (declared ds)) (open_binders k.lacks)) (fit : AreOpenFit ds scoped k.lacks f0 w k) where
  abbrev D : Declarations
  D = declared ds

  abbrev read : linked.Modules (List Var)
  read = modules_of footprint_read (with_abstract_footprints D i.programs (λ n. no_module)) D

  at_reached : (rs : List ProcRef) (r : ProcRef) → IsIn rs r → (z : Var) → Has (touched_at ds r) z → Has (all_touched ds rs) z
  at_reached [] r h z t = absurd h
  at_reached (x ∷ rs) r (inl e) z t = has_front (touched_at ds x) (all_touched ds rs) z (subst (λ y. Has (touched_at ds y) z) (sym e) t)
  at_reached (x ∷ rs) r (inr h) z t = has_behind (touched_at ds x) (all_touched ds rs) z (at_reached rs r h z t)

  in_references : (xs : Procedures ProcedureType) (f : Name) (u : ProcedureType) → found xs f ≡ Some u → IsIn (map (λ x. reference (given_more m (left_open k.lacks)) x.0) xs) (reference (given_more m (left_open k.lacks)) f)
  in_references [] f u e = absurd (none-some u e)
  in_references (x ∷ xs) f u e = step (bytes_eq f x.0) refl e (in_references xs f u)
    where
      step : (b : Bool) → bytes_eq f x.0 ≡ b → (if b then Some x.1 else found xs f) ≡ Some u →
          (found xs f ≡ Some u → IsIn (map (λ x. reference (given_more m (left_open k.lacks)) x.0) xs) (reference (given_more m (left_open k.lacks)) f)) →
          IsIn (map (λ x. reference (given_more m (left_open k.lacks)) x.0) (x ∷ xs)) (reference (given_more m (left_open k.lacks)) f)
      step true q e go = inl (ap (reference (given_more m (left_open k.lacks))) (sym ((bytes_eq-Decides f x.0).0 q)))
      step false q e go = inr (go e)

  module _ (rs : List ProcRef) (reached : all_from ds None (procedures_of (m, k)) ≡ Some rs) where
    own_touched : (r : ProcRef) (c : Module) (p : Proc) → IsIn rs r → entry_of ds (name_of r.«module») ≡ Some (entry.Module c) → proc_of c.procs r.name ≡ Some p → (z : Var) →
        Has (touched_in (instance c.params (arguments_of r.«module») p)) z → Has (all_touched ds rs) z
    own_touched r c p h e q z t =
        at_reached rs r h z
        (subst (λ xs. Has xs z) (sym (ap (λ x. touched_by (name_of r.«module») x r.name) e ∙ ap touched_if q)) (instance_touches c.params (arguments_of r.«module») p z t))

    abstract_touched : (r : ProcRef) (b : Bind) → IsIn rs r → entry_of ds (name_of r.«module») ≡ Some (entry.AbstractModule b) → Has (all_touched ds rs) (Glob (name_of r.«module»))
    abstract_touched r b h e =
        at_reached rs r h (Glob (name_of r.«module»)) (subst (λ xs. Has xs (Glob (name_of r.«module»))) (sym (ap (λ x. touched_by (name_of r.«module») x r.name) e)) (inl refl))

    reached_touch : (f : Name) (u : ProcedureType) → found k.procedures f ≡ Some u → (z : Var) → Has (of_callee (found (module_at read m (map nothing k.lacks)) f)) z → Has (all_touched ds rs) z
    reached_touch f u h z has =
        let closed = all_closed ds (procedures_of (m, k)) rs reached in
        covered ds scoped k.lacks f0 w signed i chosen footprint_read footprint-looks footprint_follows touched_in touched_splits nothing
        (λ r. IsIn rs r) (λ r q a b. closed.closed r a q b) (λ z. Has (all_touched ds rs) z) own_touched abstract_touched (λ r q a t b c z d. absurd d)
        (reference (given_more m (left_open k.lacks)) f) (opened_typed ds scoped k.lacks f0 w m k seen fit f u h)
        (closed.there (reference (given_more m (left_open k.lacks)) f) (in_references k.procedures f u h)) z
        (subst (λ x. Has (of_callee x) z) (opened_value ds scoped k.lacks f0 w nothing read m k seen f) has)

  -- each procedure of the module touches what is in its footprint alone
  pub procedures_touch : (ys : List Var) → footprint ds (m, k) ≡ Some ys → (f : Name) (u : ProcedureType) → found k.procedures f ≡ Some u → (z : Var) →
      Has (of_callee (found (module_at (footprints D i.programs) m (map nothing k.lacks)) f)) z → Has ys z
  unfolding footprint
  procedures_touch ys e f u h z has = by_reached (all_from ds None (procedures_of (m, k))) refl e
    where
      by_reached : (o : Option (List ProcRef)) → all_from ds None (procedures_of (m, k)) ≡ o → with_reached ds m o ≡ Some ys → Has ys z
      by_reached None q e = absurd (none-some ys e)
      by_reached (Some rs) q e =
          subst (λ xs. Has xs z) (same_Some (joined (own ds m ++ all_touched ds rs) []) ys e)
          (joined_has (own ds m ++ all_touched ds rs) z
          (has_behind (own ds m) (all_touched ds rs) z
          (reached_touch rs q f u h z
          (subst (λ x. Has (of_callee (found (module_at x m (map nothing k.lacks)) f)) z) (fun_ext (touched_is D i.programs chosen.unchosen)) has))))
