-- The procedures of an open program have the parameters that they are declared with.
use Rattle.std.proofs.Common.{◌≡◌, Bool, true, false, if◌then◌else◌, List, [], ◌∷◌, ◌++◌, map, Option, Some, None, bytes_eq, refl, ap, sym, ◌∙◌, subst}
use Rattle.std.specs.Option.{option_map}
use Rattle.std.proofs.lemmas.Bool.{false≢true, and_parts}
use Rattle.std.proofs.lemmas.Option.{none-some, same_Some}
use Rattle.std.proofs.lemmas.Slice.Eq.{bytes_eq-Decides}
use Rattle.gb_core.specs.declared.place.Place.{Place}
use Rattle.gb_core.specs.declared.var.Var.{Var}
use Rattle.gb_core.specs.SameTypes.{ty_eq}
use Rattle.gb_core.proofs.SameTypes.{ty_eq-Decides}
use Rattle.gb_terms.specs.declared.decl.Module.{Module}
use Rattle.gb_terms.specs.declared.decl.Param.{Param}
use Rattle.gb_terms.specs.declared.decl.Proc.{Proc}
use Rattle.gb_terms.specs.declared.decl.TypedName.{TypedName}
use Rattle.gb_terms.specs.declared.module.Bind.{Bind}
use Rattle.gb_terms.specs.declared.module.Mexp.{Mexp}
use Rattle.gb_terms.specs.declared.module.Mexp.TheVariants.{Name as name_only, Apply'}
use Rattle.gb_goal.specs.Answers.{not_built}
use Rattle.gb_goal.specs.Answers.Answer.{given}
use Rattle.gb_goal.specs.declared.scope.Entry.{Entry}
use Rattle.gb_goal.specs.declared.scope.Entry.TheVariants as entry
use Rattle.gb_goal.specs.Interfaces.{Interface, given as given_interfaces, has_type, interface_at, interface_of, interfaces_at, lacking, left_over, of_entry, of_module, of_type, procedure_types, same_params, signatures_of, signature_types, type_of_procedure}
use Rattle.gb_goal.specs.Scope as scope
use Rattle.gb_goal.specs.Scope.{as_module, entry_of, module_of, proc_of}
use Rattle.gb_meaning.specs.Names.{Name}
use Rattle.gb_meaning.specs.Program.{Oracle, Routine}
use Rattle.gb_meaning.specs.Program.Routine.{routine}
use Rattle.gb_meaning.specs.Written.{params_of}
use Rattle.gb_meaning.specs.Adversary.{Adversary, or_none, type_named}
use Rattle.gb_meaning.specs.Declared.{Declarations, ModuleType, Signature, concrete_module, declared}
use Rattle.gb_meaning.specs.Linking.{oracle_of}
use Rattle.gb_meaning.specs.Modules.{Functor, Procedures, found, module_at, module_read, modules_at, modules_of, no_module, closed}
use Rattle.gb_meaning.specs.Modules as linked_in
use Rattle.gb_meaning.specs.Naming.{IsFreshAmong}
use Rattle.gb_meaning.specs.Programs.{AreNamed, IfThere}
use Rattle.gb_meaning.specs.Settings.{Chosen, Interpretation, setting}
use Rattle.gb_meaning.proofs.Procedures.{in_module}
use Rattle.gb_typing.specs.Chosen.{IsChosenIf, IsChosenOver, chosen_under}
use Rattle.gb_typing.specs.Modules.{ProcedureType}
use Rattle.gb_typing.specs.Scopes.{context_of, IsTypedScope}
use Rattle.gb_typing.proofs.AbstractModules.{abstract_in_scope}
use Rattle.gb_typing.proofs.DeclaredTypes.{declared_type}
use Rattle.gb_typing.proofs.Known.{env, modules_here, typed_here}
use Rattle.gb_typing.proofs.Standing.{Among, among, module_place, stands}
use Rattle.gb_prog.proofs.There.{chosen_for}
use Rattle.gb_mods.specs.Meets.{first_unmet, type_of_signature}
use Rattle.gb_arguments.specs.Opened.{Callee, linked, open_to, asked_modules, open_modules, open_procedure, open_program, routines_in, with_open_programs}
use Rattle.gb_arguments.proofs.Asked.{as_callee, expression_routines, found_routine}
use Rattle.gb_arguments.proofs.Chosen.{open_chosen, open_is}
use Rattle.gb_arguments.proofs.Linked.{found_relinked, linked_with}
use Rattle.gb_instances.specs.Fits.{fits, has_names, named_as, same_names}
use Rattle.gb_arguments.proofs.Parts.{all_found, all_met, refused_not}

-- Lists of variables of the same types and names.

same_list : (xs ys : List TypedName) → same_params xs ys ≡ true → same_names xs ys ≡ true → xs ≡ ys
same_list [] [] e h = refl
same_list [] (y ∷ ys) e h = absurd (false≢true e)
same_list (x ∷ xs) [] e h = absurd (false≢true e)
same_list (x ∷ xs) (y ∷ ys) e h =
    let k = and_parts (ty_eq x.ty y.ty) (same_params xs ys) e in
    let l = and_parts (bytes_eq x.name y.name) (same_names xs ys) h in
    λ i. record { name = (bytes_eq-Decides x.name y.name).0 l.0 i; ty = (ty_eq-Decides x.ty y.ty).0 k.0 i } ∷ same_list xs ys k.1 l.1 i

-- A procedure of a type, and of the names of a signature, has the parameters of the signature.
record HasParams (o : Option ProcedureType) (s : Signature) : Type 0 where
  type : ProcedureType
  there : o ≡ Some type
  params : type.params ≡ s.params

has_params : (o : Option ProcedureType) (s : Signature) → has_type o (type_of_signature s) ≡ true → has_names o s ≡ true → HasParams o s
has_params None s e h = absurd (false≢true e)
has_params (Some t) s e h =
    record { type = t; there = refl; params = same_list t.params s.params (and_parts (same_params t.params s.params) (ty_eq t.result s.result) e).0 h }

-- procedures of parameters of these names and types
module _ (ps : Procedures ProcedureType) (a : Adversary) (one : (f : Name) (t : ProcedureType) → found ps f ≡ Some t → IfThere (λ r. params_of r ≡ t.params) (found a.procedures f)) where
  of_found : (f : Name) (t : ProcedureType) (s : Signature) → t.params ≡ s.params → (o : Option Routine) → IfThere (λ r. params_of r ≡ t.params) o → IfThere (λ r. params_of r ≡ s.params) o
  of_found f t s e None w = tt
  of_found f t s e (Some r) w = w ∙ e

  are_named : (ss : List Signature) (p : Place) → first_unmet ps ss ≡ None → named_as ps ss p ≡ given tt → AreNamed a ss
  are_named [] p e h = tt
  are_named (s ∷ ss) p e h = step (has_type (found ps s.name) (type_of_signature s)) refl e (has_names (found ps s.name) s) refl h (are_named ss p)
    where
      step : (b : Bool) → has_type (found ps s.name) (type_of_signature s) ≡ b → (if b then first_unmet ps ss else Some s.name) ≡ None → (c : Bool) → has_names (found ps s.name) s ≡ c →
          (if c then named_as ps ss p else not_built p) ≡ given tt → (first_unmet ps ss ≡ None → named_as ps ss p ≡ given tt → AreNamed a ss) → AreNamed a (s ∷ ss)
      step false q e c r h go = absurd (none-some s.name (sym e))
      step true q e false r h go = refused_not _ p tt h
      step true q e true r h go =
          let k = has_params (found ps s.name) s q r in
          (of_found s.name k.type s k.params (found a.procedures s.name) (one s.name k.type k.there), go e h)

types_found : (ps : List Proc) (n : Name) → found (procedure_types ps) n ≡ option_map type_of_procedure (proc_of ps n)
types_found [] n = refl
types_found (p ∷ ps) n = step (bytes_eq n p.name) (types_found ps n)
  where
    step : (b : Bool) → found (procedure_types ps) n ≡ option_map type_of_procedure (proc_of ps n) →
        (if b then Some (type_of_procedure p) else found (procedure_types ps) n) ≡ option_map type_of_procedure (if b then Some p else proc_of ps n)
    step true h = refl
    step false h = h

-- What a name stands for, with open parameters.

module _ (ds : scope.Declarations) (scoped : IsTypedScope (declared ds)) (i : Interpretation) (chosen : IsChosenOver (declared ds) i) where
  abbrev all : Declarations
  all = declared ds

  abbrev opened : linked_in.Modules Callee
  opened = open_modules all i.programs

  abbrev bottom : linked_in.Modules Callee
  bottom = with_open_programs all i.programs (λ n. no_module)

  abbrev Has : List TypedName → Option Callee → Type 0
  Has ps None = Unit {0}
  Has ps (Some (linked r)) = params_of r ≡ ps
  Has ps (Some (open_to o)) = Unit {0}

  abbrev StandsAs : Name → Interface → Type 0
  StandsAs n k = (fs : List (Functor Callee)) (f : Name) (t : ProcedureType) → found k.procedures f ≡ Some t → Has t.params (found (opened n fs) f)

  -- a declared module
  of_declared : (n : Name) (m : Module) → module_of ds n ≡ Some m → StandsAs n (of_module m)
  of_declared n m e fs f t h = by_proc (proc_of m.procs f) refl (sym (types_found m.procs f) ∙ h)
    where
      by_proc : (o : Option Proc) → proc_of m.procs f ≡ o → option_map type_of_procedure o ≡ Some t → Has t.params (found (opened n fs) f)
      by_proc None q k = absurd (none-some t k)
      by_proc (Some p) q k =
          let l = stands ds n m e in
          let before = declared l.front in
          let after = declared l.after in
          let place : all ≡ before ++ (n, concrete_module m) ∷ after = module_place ds n m l in
          let whole : IsTypedScope (before ++ (n, concrete_module m) ∷ after) = subst IsTypedScope place scoped in
          let here = typed_here before after n m whole in
          let a : Among (context_of before) m [] m.procs f p = among (context_of before) m m.procs [] here.procs f p q in
          let es = env before after n m whole open_procedure bottom in
          subst (Has t.params)
          (sym (ap (λ z. found (z fs) f) (open_is all i.programs chosen.unchosen n ∙ ap (λ z. modules_of open_procedure bottom z n) place ∙ modules_here before after n m whole open_procedure bottom)
          ∙ ap (found (module_read open_procedure es m fs)) a.name
          ∙ in_module open_procedure es m a.front a.after p a.place (subst (IsFreshAmong a.front) a.name a.fresh) fs))
          (ap (λ (z : ProcedureType). z.params) (same_Some (type_of_procedure p) t k))

  -- the program of an abstract module
  found_named : (a : Adversary) (ss : List Signature) → AreNamed a ss → (f : Name) (t : ProcedureType) → found (signature_types ss) f ≡ Some t → IfThere (λ r. params_of r ≡ t.params) (found a.procedures f)
  found_named a [] w f t e = absurd (none-some t e)
  found_named a (s ∷ ss) w f t e = step (bytes_eq f s.name) refl (found_named a ss w.1 f t) e
    where
      step : (b : Bool) → bytes_eq f s.name ≡ b → (found (signature_types ss) f ≡ Some t → IfThere (λ r. params_of r ≡ t.params) (found a.procedures f)) →
          (if b then Some (record { params = s.params; result = s.result }) else found (signature_types ss) f) ≡ Some t → IfThere (λ r. params_of r ≡ t.params) (found a.procedures f)
      step true q go e =
          subst (λ z. IfThere (λ r. params_of r ≡ t.params) (found a.procedures z)) (sym ((bytes_eq-Decides f s.name).0 q))
          (subst (λ (z : ProcedureType). IfThere (λ r. params_of r ≡ z.params) (found a.procedures s.name)) (same_Some _ t e) w.0)
      step false q go e = go e

  relinked_has : (ps : List TypedName) (g : Oracle → Option Callee) (o : Option Routine) → IfThere (λ r. params_of r ≡ ps) o → Has ps (option_map (linked_with g) o)
  relinked_has ps g None w = tt
  relinked_has ps g (Some (routine qs ls c r)) w = w

  of_abstract : (n : Name) (b : Bind) → entry_of ds n ≡ Some (entry.AbstractModule b) → (t : ModuleType) → scope.module_type_of ds b.ty ≡ Some t → StandsAs n (of_type t)
  of_abstract n b e t k fs f u h = by_choice (chosen_under i.programs b.name) refl (chosen_for all i ds chosen.chosen n b e)
    where
      name : b.name ≡ n
      name = let y = abstract_in_scope ds scoped n b e in y.name

      same : type_named all b.ty ≡ t
      same = ap or_none (declared_type ds b.ty ∙ k)

      by_choice : (o : Option Chosen) → chosen_under i.programs b.name ≡ o → IsChosenIf all i.programs (setting all i) i.world b o → Has u.params (found (opened n fs) f)
      by_choice None q w = absurd w
      by_choice (Some x) q w =
          let g = oracle_of (type_named all x.bind.ty).params (map (λ m. m []) fs) in
          subst (Has u.params)
          (sym (ap (λ z. found (z fs) f) (open_chosen all i.programs _ n x (subst (λ z. chosen_under i.programs z ≡ Some x) name q)) ∙ found_relinked g x.program.procedures f))
          (relinked_has u.params g (found x.program.procedures f) (found_named x.program t.signatures (subst (λ (z : ModuleType). AreNamed x.program z.signatures) same w.1.named) f u h))

  of_name : (n : Name) (k : Interface) → interface_of ds None n ≡ Some k → StandsAs n k
  of_name n k e = by_found (entry_of ds n) refl e
    where
      by_type : (b : Bind) → entry_of ds n ≡ Some (entry.AbstractModule b) → (o : Option ModuleType) → scope.module_type_of ds b.ty ≡ o → option_map of_type o ≡ Some k → StandsAs n k
      by_type b h None q e = absurd (none-some k e)
      by_type b h (Some t) q e = subst (StandsAs n) (same_Some (of_type t) k e) (of_abstract n b h t q)

      by_entry : (x : Entry) → entry_of ds n ≡ Some x → of_entry ds (Some x) ≡ Some k → StandsAs n k
      by_entry (entry.Module m) h e = subst (StandsAs n) (same_Some (of_module m) k e) (of_declared n m (ap as_module h))
      by_entry (entry.AbstractModule b) h e = by_type b h (scope.module_type_of ds b.ty) refl e
      by_entry _ h e = absurd (none-some k e)

      by_found : (o : Option Entry) → entry_of ds n ≡ o → of_entry ds o ≡ Some k → StandsAs n k
      by_found None h e = absurd (none-some k e)
      by_found (Some x) h e = by_entry x h e

  -- a module expression has the procedures of the module that it applies
  with_lacks : (j k : Interface) (o : Option (List Param)) → lacking j o ≡ Some k → j.procedures ≡ k.procedures
  with_lacks j k None e = absurd (none-some k e)
  with_lacks j k (Some ps) e = ap (λ (z : Interface). z.procedures) (same_Some (record j { lacks = ps }) k e)

  of_module_at : (m : Mexp) (k : Interface) → interface_at ds None m ≡ Some k → (xs : List (Procedures Callee)) (f : Name) (t : ProcedureType) → found k.procedures f ≡ Some t →
      Has t.params (found (module_at opened m xs) f)
  of_module_at (name_only n) k e xs f t h = of_name n k e (map closed xs) f t h
  of_module_at (Apply' n c args) k e xs f t h = by_own (interface_of ds None n) refl e
    where
      by_own : (o : Option Interface) → interface_of ds None n ≡ o → given_interfaces ds o (interfaces_at ds None args) ≡ Some k → Has t.params (found (opened n (modules_at opened args ++ map closed xs)) f)
      by_own None q e = absurd (none-some k e)
      by_own (Some j) q e =
          of_name n j q (modules_at opened args ++ map closed xs) f t
          (ap (λ z. found z f) (with_lacks j k (left_over ds j.lacks (interfaces_at ds None args)) e) ∙ h)

  module _ (m : Mexp) (k : Interface) (seen : interface_at ds None m ≡ Some k) (t : ModuleType) where
    in_program : (ps : List TypedName) (o : Option Routine) → Has ps (as_callee o) → IfThere (λ r. params_of r ≡ ps) o
    in_program ps None w = tt
    in_program ps (Some r) w = w

    its_params : (f : Name) (u : ProcedureType) → found k.procedures f ≡ Some u → IfThere (λ r. params_of r ≡ u.params) (let a = open_program all i t m in found a.procedures f)
    its_params f u h =
        let its = module_at opened m (asked_modules all t.params) in
        in_program u.params (found (routines_in its) f)
        (subst (Has u.params) (found_routine its (expression_routines all i.programs m (asked_modules all t.params)) f) (of_module_at m k seen (asked_modules all t.params) f u h))

    pub program_named : (b : Bind) (vs : Option (List Var)) (p : Place) → fits ds (m, k) b vs p ≡ given tt → scope.module_type_of ds b.ty ≡ Some t → AreNamed (open_program all i t m) t.signatures
    program_named b vs p e h =
        let f = all_found ds (m, k) b vs p e in
        let w = all_met ds (m, k) b.ty t p h f.meets in
        are_named k.procedures (open_program all i t m) its_params t.signatures p w.signed (subst (λ o. named_as k.procedures (signatures_of o) p ≡ given tt) h f.named)
