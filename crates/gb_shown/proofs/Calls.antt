-- Calls of procedures of a named scope, of the module around, or of its parameters.
use Rattle.std.proofs.Common.{◌≡◌, ◌-◌, true, List, [], ◌∷◌, drop, length, Some, refl, subst}
use Rattle.std.specs.List.{AllByRecursion, list_all}
use Rattle.gb_core.specs.declared.place.Place.{Place}
use Rattle.gb_terms.specs.declared.decl.TypedName.{TypedName}
use Rattle.gb_terms.specs.declared.term.Instr.{Instr}
use Rattle.gb_terms.specs.declared.term.Term.{Term}
use Rattle.gb_goal.specs.Answers.Answer.{given}
use Rattle.gb_script.specs.declared.head.Head.{Head}
use Rattle.gb_script.specs.declared.tree.Node.{Node}
use Rattle.gb_names.specs.Environment.{Environment}
use Rattle.gb_names.specs.Judgments.{Named, procedure_called}
use Rattle.gb_names.specs.Names.{Target}
use Rattle.gb_elab.specs.Forms.{elaborated}
use Rattle.gb_elab_stmt.specs.Calls.{enough, takes, arguments, call_of, in_last, call}
use Rattle.gb_elab_stmt.specs.Targets.{variables_of}
use Rattle.gb_elab_laws.proofs.Given.{given_bind, given_is, not_given}
use Rattle.gb_print_names.specs.declared.bound_names.Enumeration.{Enumeration}
use Rattle.gb_print.specs.Written.{is_target_here}
use Rattle.gb_shown.specs.Named.{IsNamedInstr, IsNamedVariable, IsNamedType}
use Rattle.gb_shown.proofs.SpeltForms.{as_result}
use Rattle.gb_shown.proofs.SpeltStatements.{named_call}
use Rattle.gb_shown.proofs.SpeltTrees.{AllNamed}
use Rattle.gb_shown.specs.Laws.{IsNamedReference}
use Rattle.gb_shown.specs.Scopes.{IsNamedSetting}
use Rattle.gb_shown.proofs.Judged.{procedure_called_is}
use Rattle.gb_shown.proofs.Later.{hold_both}
use Rattle.gb_shown.proofs.OfForms.{OfForms}
use Rattle.gb_shown.proofs.Trees.{AreRead, drop_read, parts_read}

-- variables that are written
abbrev pub AreTargets : List Target → Type 0
AreTargets vs = AllByRecursion (λ (v : Target). (is_target_here [] v.0 ≡ true) × IsNamedType v.1) vs

pub all_here : (vs : List Target) → AreTargets vs → list_all (is_target_here []) (variables_of vs) ≡ true
all_here [] k = refl
all_here (v ∷ vs) k = hold_both (is_target_here [] v.0) (list_all (is_target_here []) (variables_of vs)) k.0.0 (all_here vs k.1)

module _ (forms : OfForms) (es : List Enumeration) where
  arguments_named : (at : Environment) → IsNamedSetting es at → (qs : List TypedName) → AllByRecursion IsNamedVariable qs → (ts : List Node) → AreRead ts → (us : List Term) → arguments at qs ts ≡ given us → AllNamed es us
  unfolding arguments
  arguments_named at s qs k [] r us e = subst (AllNamed es) (given_is [] us e) tt
  arguments_named at s [] k (t ∷ ts) r us e = absurd (not_given _ _ us e)
  arguments_named at s (q ∷ qs) k (t ∷ ts) r us e =
      let a = given_bind (elaborated t at [] (Some q.ty)) _ us e in
      let b = given_bind (arguments at qs ts) _ us a.2 in
      subst (AllNamed es) (given_is (a.0 ∷ b.0) us b.2) (forms.form es at s [] tt (Some q.ty) (as_result q.ty k.0.1) t r.0 a.0 a.1, arguments_named at s qs k.1 ts r.1 b.0 b.1)

  call_of_named : (at : Environment) → IsNamedSetting es at → (vs : List Target) → AreTargets vs → (f : Named) → IsNamedReference f → (ts : List Node) → AreRead ts → (p : Place) (i : Instr) → call_of at vs f ts p ≡ given i → IsNamedInstr es i
  unfolding call_of
  call_of_named at s vs w f n ts r p i e =
      let a = given_bind (enough f.1.params ts p) _ i e in
      let b = given_bind (takes vs f.1.result p) _ i a.2 in
      let c = given_bind (arguments at f.1.params ts) _ i b.2 in
      let typed = n.typed in
      subst (IsNamedInstr es) (given_is _ i c.2) (named_call es (variables_of vs) f.0 c.0 (all_here vs w) n.written (arguments_named at s f.1.params typed.params ts r c.0 c.1))

  last_read : (ts : List Node) → AreRead ts → AreRead (in_last ts)
  last_read [] r = tt
  last_read (t ∷ []) r = parts_read t r.0
  last_read (t ∷ u ∷ ts) r = tt

  pub call_named : (at : Environment) → IsNamedSetting es at → (vs : List Target) → AreTargets vs → (h : Head) (x : Node) (ps : List Node) → AreRead ps → (p : Place) (i : Instr) → call at vs h x ps p ≡ given i → IsNamedInstr es i
  call_named at s vs w h x ps r p i e =
      let f = given_bind (procedure_called at [] h x ps p) _ i e in
      call_of_named at s vs w f.0 (procedure_called_is es at s [] h x ps p f.0 f.1) (in_last (drop (length ps - 1) ps)) (last_read (drop (length ps - 1) ps) (drop_read (length ps - 1) ps r)) p i f.2
