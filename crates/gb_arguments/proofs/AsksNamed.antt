-- An open program asks those oracles alone that the signatures of its module type name, where this is found of the procedures that it reaches.
use Rattle.std.proofs.Common.{◌≡◌, inl, inr, Bool, true, false, if◌then◌else◌, ℕ, List, [], ◌∷◌, map, Option, Some, None, bytes_eq, refl, ap, sym, ◌∙◌, subst}
use Rattle.std.proofs.lemmas.Bool.{false≢true, and_from, and_parts}
use Rattle.std.proofs.lemmas.Option.{none-some}
use Rattle.std.proofs.lemmas.Slice.Eq.{bytes_eq-Decides}
use mathlib.Core.Former.{Count}
use Rattle.gb_core.specs.declared.place.Place.{Place}
use Rattle.gb_core.specs.declared.refusal.Why.TheVariants as why
use Rattle.gb_core.specs.declared.ty.Ty.TheVariants as ty
use Rattle.gb_core.specs.declared.var.Var.{Var}
use Rattle.gb_core.specs.declared.var.Var.TheVariants.{Global, Glob, Local}
use Rattle.gb_terms.specs.declared.decl.Param.{Param}
use Rattle.gb_terms.specs.declared.module.Mexp.{Mexp, Row_of-Mexp, end_of-Mexp, more_of-Mexp}
use Rattle.gb_terms.specs.declared.module.Mexp.TheVariants.{Name as module_name, Apply'}
use Rattle.gb_terms.specs.declared.module.ProcRef.{ProcRef}
use Rattle.gb_terms.specs.declared.term.Head.TheVariants as head
use Rattle.gb_terms.specs.declared.term.Term.{Term}
use Rattle.gb_terms.specs.Make.{node}
use Rattle.gb_goal.specs.Answers.Answer.{given as accepted, refused}
use Rattle.gb_goal.specs.declared.module_type.Oracle.{Oracle as OracleName}
use Rattle.gb_goal.specs.Instances.{given_more, name_of}
use Rattle.gb_goal.specs.Interfaces.{Interface, ProcedureType, interface_at as known_at, interface_of, params_in}
use Rattle.gb_goal.specs.Scope as scope
use Rattle.gb_goal.specs.Scope.{module_type_of, path_of}
use Rattle.gb_meaning.specs.Names.{Name}
use Rattle.gb_meaning.specs.Program.{Oracle, Routine}
use Rattle.gb_meaning.specs.Adversary.{abstract_footprint, as_asked, may_call, oracle_eq}
use Rattle.gb_meaning.specs.Declared.{Declarations, MayCall, ModuleType, Signature, declared, every, those}
use Rattle.gb_meaning.specs.Footprints.{of_callee}
use Rattle.gb_meaning.specs.Modules.{Functor, Procedures, argument, closed, found, module_at, modules_of, no_module}
use Rattle.gb_meaning.specs.Modules as linked
use Rattle.gb_meaning.specs.Programs.{IfThere}
use Rattle.gb_meaning.specs.Settings.{Chosen, Interpretation, setting, with_abstract_footprints}
use Rattle.gb_typing.specs.Alike.{SameParams}
use Rattle.gb_typing.specs.Chosen.{IsChosenOver}
use Rattle.gb_typing.specs.Context.{Context}
use Rattle.gb_typing.specs.Modules.{functor_type, given, has_type, interface_at, interfaces_at, lacking, left_over, of_functor_type, procedure_of, signature_types, signatures_of, without_lacks}
use Rattle.gb_typing.specs.Scopes.{nothing, context_of, IsTypedScope}
use Rattle.gb_typing.specs.Sequents.{AreBinders}
use Rattle.gb_typing.proofs.ClosedSettings.{chosen_footprint}
use Rattle.gb_typing.proofs.Located.{known_in_scope}
use Rattle.gb_typing.proofs.OpenAlike.{open_is as applied_is}
use Rattle.gb_typing.proofs.ParameterTypes.{ArePlainParams}
use Rattle.gb_typing.proofs.Settings.{agree_at, same_params}
use Rattle.gb_typing.proofs.Settings as settings
use Rattle.gb_mods.specs.Called.{calls}
use Rattle.gb_mods.specs.Footprint.{reference}
use Rattle.gb_mods.specs.Meets.{all_named, ask_named, calls_named, each_calls_named, first_unmet, is_named, is_oracle, left_open, named_if, open_name, open_parameter, type_of_signature}
use Rattle.gb_mods.specs.Meets as meets
use Rattle.gb_mods.specs.Reach.{all_from, called_from}
use Rattle.gb_mods.proofs.Closed.{IsIn}
use Rattle.gb_arguments.specs.Opened.{Callee, asked_modules, open_modules, open_procedure, open_program, over_oracles, routines_in, with_open_programs}
use Rattle.gb_arguments.specs.Programs.{AskNamed, RoutineAsks}
use Rattle.gb_arguments.specs.Related.{Agree, AreAllAlike}
use Rattle.gb_arguments.proofs.Asked.{as_callee, expression_routines, found_routine}
use Rattle.gb_arguments.proofs.Chosen.{chosen_alike, open_chosen, open_is, typed_as}
use Rattle.gb_arguments.proofs.Expressions.{closed_argument}
use Rattle.gb_arguments.proofs.Linked.{AnyContext, anywhere}
use Rattle.gb_arguments.proofs.OwnParams.{AreFound, own_signatures}
use Rattle.gb_arguments.proofs.Scopes.{scope_stands}
use Rattle.gb_arguments.specs.Collect.{collect, open_binders, values}
use Rattle.gb_arguments.specs.Covers.{AreTypesSigned, IsUnspelt}
use Rattle.gb_arguments.specs.OpenGoals.{AreOpenFit, seen as seen_of}
use Rattle.gb_arguments.proofs.Applying.{IsApplied, IsNone, called_applied, known_applied, opened_applied}
use Rattle.gb_arguments.proofs.Asking.{Collected, IsCollected, asked_as, collected_narrow, collected_of, none_own, only_collected, params_collected, program_collected, reading_collected, routine_asks_more}
use Rattle.gb_arguments.proofs.Bridge.{opened_typed, opened_value}
use Rattle.gb_arguments.proofs.Collecting.{collect_follows, collect_looks}
use Rattle.gb_arguments.proofs.Cover.{covered}
use Rattle.gb_arguments.proofs.FootprintMembers.{either, has_either}
use Rattle.gb_arguments.proofs.Members.{Has, any_is, one_is}
use Rattle.gb_arguments.proofs.OpenScope.{IsTyped}
use Rattle.gb_arguments.proofs.Parts.{AreMet, both_given, refused_not}
use Rattle.gb_arguments.proofs.Closed.{all_closed}
use Rattle.gb_arguments.proofs.TypeOpen.{meets_fits, open_type, plain_params, type_binders, type_fit, type_known}

any_form : Term
any_form = node head.Restrict [] ty.Bool

-- What procedures have together, one of them has.
in_values : (h : ProcRef → Option (List Var)) (qs : List ProcRef) (z : Var) → Has (values h qs) z → (q : ProcRef) × IsIn qs q × Has (of_callee (h q)) z
in_values h [] z k = absurd k
in_values h (q ∷ qs) z k =
    either (λ a. (q, inl refl, a)) (λ b. let x = in_values h qs z b in (x.0, inr x.1, x.2)) (has_either (of_callee (h q)) (values h qs) z k)

-- Of each of the procedures it is found whether it may be called.
each_named : (qs : List Param) (os : List OracleName) (rs : List ProcRef) (p : Place) → all_named qs os rs p ≡ accepted tt → (r : ProcRef) → IsIn rs r →
    ask_named os (open_parameter qs r.«module») r.name p ≡ accepted tt
each_named qs os [] p e r h = absurd h
each_named qs os (x ∷ rs) p e r (inl q) =
    subst (λ (z : ProcRef). ask_named os (open_parameter qs z.«module») z.name p ≡ accepted tt) q (both_given (ask_named os (open_parameter qs x.«module») x.name p) (all_named qs os rs p) e).0
each_named qs os (x ∷ rs) p e r (inr h) = each_named qs os rs p (both_given (ask_named os (open_parameter qs x.«module») x.name p) (all_named qs os rs p) e).1 r h

abbrev tail : List ℕ → List ℕ
tail [] = []
tail (x ∷ xs) = xs

its_parameter : (qs : List Param) (q : Param) → Has qs q → open_parameter qs (module_name (open_name q.name)) ≡ Some q.name
its_parameter [] q h = absurd h
its_parameter (x ∷ qs) q h = step (bytes_eq (open_name q.name) (open_name x.name)) refl h (its_parameter qs q)
  where
    step : (b : Bool) → bytes_eq (open_name q.name) (open_name x.name) ≡ b → Has (x ∷ qs) q → (Has qs q → open_parameter qs (module_name (open_name q.name)) ≡ Some q.name) →
        (if b then Some x.name else open_parameter qs (module_name (open_name q.name))) ≡ Some q.name
    step true e h go = ap Some (sym (ap tail ((bytes_eq-Decides (open_name q.name) (open_name x.name)).0 e)))
    step false e (inl s) go = absurd (false≢true (sym e ∙ (bytes_eq-Decides (open_name q.name) (open_name x.name)).1 (ap (λ (z : Param). open_name z.name) (sym s))))
    step false e (inr h) go = go h

-- an oracle that is named may be called
named_called : (os : List OracleName) (x f : Name) → is_named os x f ≡ true → may_call (those os) (record { parameter = x; name = f }) ≡ true
named_called os x f e =
    let y = one_is (is_oracle x f) os e in
    let k = and_parts (bytes_eq (let o = y.0 in o.parameter) x) (bytes_eq (let o = y.0 in o.name) f) y.2 in
    any_is (λ o. oracle_eq (record { parameter = x; name = f }) (as_asked o)) os y.0 y.1
    (and_from (bytes_eq x (let o = y.0 in o.parameter)) (bytes_eq f (let o = y.0 in o.name))
    ((bytes_eq-Decides x (let o = y.0 in o.parameter)).1 (sym ((bytes_eq-Decides (let o = y.0 in o.parameter) x).0 k.0)))
    ((bytes_eq-Decides f (let o = y.0 in o.name)).1 (sym ((bytes_eq-Decides (let o = y.0 in o.name) f).0 k.1))))

if_named : (os : List OracleName) (x f : Name) (p : Place) → ask_named os (Some x) f p ≡ accepted tt → is_named os x f ≡ true
if_named os x f p e = step (is_named os x f) refl e
  where
    step : (b : Bool) → is_named os x f ≡ b → ask_named os (Some x) f p ≡ accepted tt → is_named os x f ≡ true
    step true h e = h
    step false h e =
        refused_not (why.Oracle (path_of (record { «module» = x; name = f }))) p tt
        (sym (ap (λ (b : Bool). if b then accepted tt else refused (why.Oracle (path_of (record { «module» = x; name = f }))) p) h) ∙ e)

plain_at : (types : Name → Option ModuleType) (ps : List Param) → ArePlainParams types ps → (q : Param) → Has ps q → params_in (types q.ty) ≡ []
plain_at types [] w q h = absurd h
plain_at types (p ∷ ps) w q (inl e) = subst (λ (z : Param). params_in (types z.ty) ≡ []) e w.0
plain_at types (p ∷ ps) w q (inr h) = plain_at types ps w.1 q h

closed_again : (xs : List (Procedures Callee)) → map (λ f. f []) (map closed xs) ≡ xs
closed_again [] = refl
closed_again (x ∷ xs) = ap (λ z. x ∷ z) (closed_again xs)

some_type : (o : Option ProcedureType) (u : ProcedureType) → has_type o u ≡ true → (t : ProcedureType) × (o ≡ Some t)
some_type None u e = absurd (false≢true e)
some_type (Some t) u e = (t, refl)

module _ (ds : scope.Declarations) (scoped : IsTypedScope (declared ds)) (unspelt : IsUnspelt ds) (signed : AreTypesSigned ds) (i : Interpretation) (chosen : IsChosenOver (declared ds) i)
    (m : Mexp) (k : Interface) (seen : known_at ds None m ≡ Some k) (n : Name) (t : ModuleType) (there : module_type_of ds n ≡ Some t) (p : Place) (met : AreMet ds (m, k) t p) where
  abbrev D : Declarations
  D = declared ds

  abbrev cs : List Chosen
  cs = i.programs

  abbrev c : Context
  c = context_of D

  abbrev T : Name → Option ModuleType
  T = c.modules.types

  abbrev opened : linked.Modules Callee
  opened = open_modules D cs

  abbrev base : linked.Modules (List Var)
  base = with_abstract_footprints D cs (λ k. no_module)

  abbrev collecting : linked.Modules (List Var)
  collecting = modules_of (collect none_own) base D

  abbrev v : Param → Procedures (List Var)
  v = collected_of D

  abbrev its : Procedures Callee
  its = module_at opened m (asked_modules D t.params)

  abbrev has : Procedures (List Var)
  has = module_at collecting m (map v t.params)

  -- What the open program asks is collected.

  no_types : settings.Agree D (nothing.modules).types
  no_types = record { declared = λ n t e. absurd (none-some t e); params = λ n t e. absurd (none-some t e) }

  types_agree : settings.Agree D T
  types_agree = agree_at D i D [] nothing refl scoped no_types

  known : T n ≡ Some t
  known = type_known ds scoped n t there

  same : SameParams D T t.params
  same = same_params D i T types_agree t.params (let a = types_agree in a.params n t known)

  all_collected : AreAllAlike IsCollected c.modules opened collecting
  all_collected =
      scope_stands IsCollected collected_narrow AnyContext open_procedure (collect none_own) reading_collected D scoped (anywhere D nothing) (with_open_programs D cs (λ k. no_module)) base
      (chosen_alike D i IsCollected (λ x t. over_oracles t x.program) (λ x t. abstract_footprint D x.bind.name t)
      (λ types t same x e p. program_collected (setting D i) D types t same x.bind.name i.world x.program p)
      (with_open_programs D cs (λ k. no_module)) (λ n x e. open_chosen D cs (λ k. no_module) n x e) base (λ n x e. chosen_footprint D cs (λ k. no_module) n x e) scoped chosen)
      opened collecting (λ k j e. open_is D cs chosen.unchosen k) (λ k j e. refl)

  its_collected : Agree IsCollected (signature_types t.signatures) its has
  its_collected =
      subst (λ z. Agree IsCollected (signature_types t.signatures) (module_at opened m z) has) (closed_again (asked_modules D t.params))
      (subst (λ (z : Functor (List Var)). Agree IsCollected (signature_types t.signatures) (argument (module_at opened m) (map closed (asked_modules D t.params))) (z (map v t.params))) (sym (applied_is collecting m))
      (closed_argument IsCollected collected_narrow c.modules opened collecting all_collected m (functor_type T (Some t)) (meets_fits ds scoped n t there m k seen met.lacks met.signed)
      (map closed (asked_modules D t.params)) (map closed (map v t.params)) (params_collected D T t.params same)))

  -- What is collected is named.

  w : AreBinders c (open_binders t.params)
  w = type_binders ds scoped n t there unspelt

  fit : AreOpenFit ds scoped t.params any_form w k
  fit = type_fit ds scoped n t there unspelt any_form k met.lacks

  abbrev its_seen : Context
  its_seen = seen_of ds scoped t.params any_form w

  -- not the name of a module that is left open
  abbrev IsOther : Name → Type 0
  IsOther a = (x : Name) → a ≡ open_name x → ⊥

  others : (a : Name) (j : Interface) → interface_of ds None a ≡ Some j → IsOther a
  others a j e x q = absurd (none-some _ (sym (ap c.modules.interfaces q ∙ unspelt x) ∙ known_in_scope ds scoped a j e))

  -- a typed procedure of a module that is left open is one of its name alone
  module _ (q : Param) (h : Has t.params q) (f : Name) (u : ProcedureType) where
    not_applied : {j : Count} (a : Name) (args : Row_of-Mexp j) → a ≡ open_name q.name → IsNone IsOther a args → procedure_of (given (its_seen.modules.interfaces a) (interfaces_at its_seen.modules args)) f ≡ Some u → ⊥
    not_applied a end_of-Mexp e o y = o q.name e
    not_applied a (more_of-Mexp b r) e o y =
        none-some u
        (sym (ap (λ ps. procedure_of (lacking (of_functor_type (functor_type T (T q.ty))) (left_over (map without_lacks (map (λ (z : Param). signature_types (signatures_of (T z.ty))) ps)) (interfaces_at its_seen.modules (more_of-Mexp b r)))) f)
        (plain_at T t.params (plain_params ds scoped n t there) q h))
        ∙ sym (ap (λ o. procedure_of (given o (interfaces_at its_seen.modules (more_of-Mexp b r))) f) (ap its_seen.modules.interfaces e ∙ open_type ds scoped n t there unspelt any_form q h)) ∙ y)

    by_name : (e : Mexp) → name_of e ≡ open_name q.name → IsApplied IsOther e → procedure_of (interface_at its_seen.modules e) f ≡ Some u → e ≡ module_name (open_name q.name)
    by_name (module_name a) e o y = ap module_name e
    by_name (Apply' a j args) e o y = absurd (not_applied a args e o.0 y)

  module _ (os : List OracleName) (f : Name) (u : ProcedureType) (e : found k.procedures f ≡ Some u) (rs : List ProcRef)
      (reached : all_from ds None (meets.with_open m t.params f ∷ []) ≡ Some rs) (all : all_named t.params os rs p ≡ accepted tt) where
    abbrev P : Var → Type 0
    P (Global x y) = may_call (those os) (record { parameter = x; name = y }) ≡ true
    P (Local x) = Unit {0}
    P (Glob a) = Unit {0}

    abbrev Q : ProcRef → Type 0
    Q r = IsIn rs r × IsApplied IsOther r.«module»

    goes_on : (r q : ProcRef) → Q r → IsIn (called_from ds None r) q → Q q
    goes_on r q a h =
        let z = all_closed ds (meets.with_open m t.params f ∷ []) rs reached in
        (z.closed r a.0 q h, called_applied IsOther ds r q a.1 h)

    open_called : (r : ProcRef) (q : Param) → Q r → IsTyped ds scoped t.params any_form w r → Has t.params q → name_of r.«module» ≡ open_name q.name →
        may_call (those os) (record { parameter = q.name; name = r.name }) ≡ true
    open_called r q a y h s =
        named_called os q.name r.name
        (if_named os q.name r.name p
        (subst (λ o. ask_named os o r.name p ≡ accepted tt) (ap (open_parameter t.params) (by_name q h r.name y.0 r.«module» s a.1 y.1) ∙ its_parameter t.params q h)
        (each_named t.params os rs p all r a.0)))

    reaches_named : (z : Var) → Has (of_callee (found has f)) z → P z
    reaches_named z h =
        let x = all_closed ds (meets.with_open m t.params f ∷ []) rs reached in
        covered ds scoped t.params any_form w signed i chosen (collect none_own) (collect_looks none_own) (collect_follows none_own (λ s p. refl)) none_own
        (λ h p z k. inr (in_values h (calls p.body.list) z k)) v Q goes_on P (λ r c d a b e z h. absurd h) (λ r b a e. tt)
        (λ r q a y h s z k. subst P (only_collected q.name _ r.name z k) (open_called r q a y h s))
        (reference (given_more m (left_open t.params)) f) (opened_typed ds scoped t.params any_form w m k seen fit f u e)
        (x.there (reference (given_more m (left_open t.params)) f) (inl refl), opened_applied IsOther m t.params (known_applied IsOther ds others m k seen)) z
        (subst (λ y. Has (of_callee y) z) (opened_value ds scoped t.params any_form w v collecting m k seen f) h)

  collected_named : (f : Name) (u : ProcedureType) → found k.procedures f ≡ Some u → (os : MayCall) → calls_named ds None m t.params f os p ≡ accepted tt → (o : Oracle) →
      Has (of_callee (found has f)) (asked_as o) → may_call os o ≡ true
  collected_named f u e every a o h = refl
  collected_named f u e (those os) a o h = step (all_from ds None (meets.with_open m t.params f ∷ [])) refl a
    where
      step : (x : Option (List ProcRef)) → all_from ds None (meets.with_open m t.params f ∷ []) ≡ x → named_if t.params os x p ≡ accepted tt → may_call (those os) o ≡ true
      step None q a = refused_not _ p tt a
      step (Some rs) q a = reaches_named os f u e rs q a (asked_as o) h

  asks_one : (s : Signature) → found (signature_types t.signatures) s.name ≡ Some (typed_as s) → has_type (found k.procedures s.name) (type_of_signature s) ≡ true →
      calls_named ds None m t.params s.name s.oracles p ≡ accepted tt → IfThere (RoutineAsks (λ o. may_call s.oracles o ≡ true)) (found (routines_in its) s.name)
  asks_one s e h a =
      step (found (routines_in its) s.name) (found has s.name) refl
      (subst (λ z. Collected z (found has s.name)) (found_routine its (expression_routines D cs m (asked_modules D t.params)) s.name) (its_collected s.name (typed_as s) e))
    where
      step : (r : Option Routine) (y : Option (List Var)) → found has s.name ≡ y → Collected (as_callee r) y → IfThere (RoutineAsks (λ o. may_call s.oracles o ≡ true)) r
      step None y q x = tt
      step (Some r) None q x = absurd x
      step (Some r) (Some xs) q x =
          let u = some_type (found k.procedures s.name) (type_of_signature s) h in
          routine_asks_more (λ o. Has xs (asked_as o)) (λ o. may_call s.oracles o ≡ true)
          (λ o j. collected_named s.name u.0 u.1 s.oracles a o (subst (λ z. Has (of_callee z) (asked_as o)) (sym q) j)) r x

  each_asks : (ss : List Signature) → AreFound t.signatures ss → first_unmet k.procedures ss ≡ None → each_calls_named ds None m t.params ss p ≡ accepted tt → AskNamed (open_program D i t m) ss
  each_asks [] w u a = tt
  each_asks (s ∷ ss) w u a =
      let b = both_given (calls_named ds None m t.params s.name s.oracles p) (each_calls_named ds None m t.params ss p) a in
      step (has_type (found k.procedures s.name) (type_of_signature s)) refl u (λ h. asks_one s w.0 h b.0) (λ u. each_asks ss w.1 u b.1)
    where
      step : (x : Bool) → has_type (found k.procedures s.name) (type_of_signature s) ≡ x → (if x then first_unmet k.procedures ss else Some s.name) ≡ None →
          (has_type (found k.procedures s.name) (type_of_signature s) ≡ true → IfThere (RoutineAsks (λ o. may_call s.oracles o ≡ true)) (found (routines_in its) s.name)) →
          (first_unmet k.procedures ss ≡ None → AskNamed (open_program D i t m) ss) → AskNamed (open_program D i t m) (s ∷ ss)
      step true h u one go = (one h, go u)
      step false h u one go = absurd (none-some s.name (sym u))

  pub program_asks : AskNamed (open_program D i t m) t.signatures
  program_asks = each_asks t.signatures (own_signatures D scoped n t known) met.signed met.asks
