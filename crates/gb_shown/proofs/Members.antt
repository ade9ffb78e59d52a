-- Procedures and modules.
use Rattle.std.proofs.Common.{◌≡◌, List, [], ◌∷◌, ◌++◌, Option, Some, subst}
use Rattle.std.specs.List.{AllByRecursion}
use Rattle.gb_core.specs.declared.place.Place.{Place}
use Rattle.gb_core.specs.declared.refusal.Why.TheVariants.{TypeMismatch}
use Rattle.gb_core.specs.declared.ty.Ty.{Ty}
use Rattle.gb_core.specs.declared.ty.Ty.TheVariants as ty
use Rattle.gb_terms.specs.declared.decl.Module.{Module}
use Rattle.gb_terms.specs.declared.decl.Proc.{Proc}
use Rattle.gb_terms.specs.declared.decl.TypedName.{TypedName}
use Rattle.gb_terms.specs.declared.term.Term.{Term}
use Rattle.gb_goal.specs.Answers.Answer.{given}
use Rattle.gb_goal.specs.Scope.{Declarations}
use Rattle.gb_goal.specs.declared.sequent.Sequent.{Sequent}
use Rattle.gb_script.specs.declared.head.Head.{Head}
use Rattle.gb_script.specs.declared.head.Head.TheVariants as head
use Rattle.gb_script.specs.declared.tree.Node.{Node}
use Rattle.gb_script.specs.Tree.{head_of, text_of, parts_of, place_of}
use Rattle.gb_names.specs.Binders.{of_type}
use Rattle.gb_names.specs.Environment.{Environment, program}
use Rattle.gb_names.specs.Names.{unit}
use Rattle.gb_names.specs.Types.{type_of}
use Rattle.gb_elab_stmt.specs.Statements.{all_stated, with_statings}
use Rattle.gb_elab_prog.specs.Bound.{parameter_name}
use Rattle.gb_elab_prog.specs.Contexts.{nothing_around, taken}
use Rattle.gb_elab_prog.specs.Fresh.{free}
use Rattle.gb_elab_prog.specs.ModuleTypes.{module_type_at, param}
use Rattle.gb_elab_prog.specs.Modules.{member_names, with_globals, with_procedure, with_member, with_members, all_short, empty_module, typed_parameter, with_parameter, with_parameters, with_body, plain, ascribed, module_by, module_given}
use Rattle.gb_elab_prog.specs.Stated.{Stated, meets_stated, stated}
use Rattle.gb_elab_prog.specs.declared.stated.Where.{Where}
use Rattle.gb_elab_prog.specs.declared.stated.Where.TheVariants.{Front, Behind}
use Rattle.gb_elab_prog.specs.Procedures.{untaken, result_type, lacks_value, value, undeclared, formal, formals, declared, variables, locals, with_result, result_of, procedure_by}
use Rattle.gb_elab_laws.proofs.Given.{given_bind, given_is, if_refused, not_given}
use Rattle.gb_print_names.specs.declared.bound_names.Enumeration.{Enumeration}
use Rattle.gb_shown.specs.Named.{IsNamed, IsNamedType, IsNamedVariable, IsNamedSequent}
use Rattle.gb_shown.specs.Rules.{IsNamedLocal}
use Rattle.gb_shown.proofs.SpeltForms.{as_result}
use Rattle.gb_shown.proofs.Sequents.{all_append}
use Rattle.gb_shown.specs.Scopes.{IsNamedMember, IsNamedModule, IsNamedParam, IsNamedScope, IsNamedSetting}
use Rattle.gb_shown.specs.Words.{HasItsNames, IsName, IsReadTree}
use Rattle.gb_shown.proofs.Later.{all_so}
use Rattle.gb_shown.proofs.OfForms.{OfForms, IsTypeWritten}
use Rattle.gb_shown.proofs.Settings.{nothing_named, program_named, unit_named}
use Rattle.gb_shown.proofs.Statements.{body_named}
use Rattle.gb_shown.proofs.Trees.{AreRead, names_of, parts_read}

module _ (forms : OfForms) (es : List Enumeration) (ds : Declarations) (k : IsNamedScope es ds) where
  -- variables of a procedure
  abbrev AreLocals : List TypedName → Type 0
  AreLocals vs = AllByRecursion (IsNamedLocal es) vs

  local_named : (x : Node) → IsName x → (u : Ty) → IsTypeWritten es u → IsNamedLocal es (record { name = text_of x; ty = u })
  local_named x h u w = ((h, w.named), w.first)

  formal_named : (vs : List TypedName) → AreLocals vs → (h : Head) (ps : List Node) → HasItsNames h ps → AreRead ps → (p : Place) (ws : List TypedName) → formal ds vs h ps p ≡ given ws → AreLocals ws
  formal_named vs l head.Formal (x ∷ t ∷ []) n r p ws e =
      let a = given_bind (undeclared vs x) _ ws e in
      let b = given_bind (type_of ds t) _ ws a.2 in
      subst AreLocals (given_is _ ws b.2) (all_append (IsNamedLocal es) vs _ l (local_named x n b.0 (forms.type es ds k t r.1.0 b.0 b.1), tt))
  formal_named vs l head.Formal [] n r p ws e = absurd (not_given _ _ ws e)
  formal_named vs l head.Formal (x ∷ []) n r p ws e = absurd (not_given _ _ ws e)
  formal_named vs l head.Formal (x ∷ t ∷ u ∷ ps) n r p ws e = absurd (not_given _ _ ws e)
  formal_named vs l _ ps n r p ws e = absurd (not_given _ _ ws e)

  pub formals_named : (vs : List TypedName) → AreLocals vs → (fs : List Node) → AreRead fs → (ws : List TypedName) → formals ds vs fs ≡ given ws → AreLocals ws
  formals_named vs l [] r ws e = subst AreLocals (given_is vs ws e) l
  formals_named vs l (f ∷ fs) r ws e =
      let a = given_bind (formal ds vs (head_of f) (parts_of f) (place_of f)) _ ws e in
      formals_named a.0 (formal_named vs l (head_of f) (parts_of f) (names_of f r.0) (parts_read f r.0) (place_of f) a.0 a.1) fs r.1 ws a.2

  declared_named : (ps vs : List TypedName) → AreLocals vs → (xs : List Node) → AllByRecursion IsName xs → (u : Ty) → IsTypeWritten es u → (ws : List TypedName) → declared ps vs xs u ≡ given ws → AreLocals ws
  declared_named ps vs l [] n u w ws e = subst AreLocals (given_is vs ws e) l
  declared_named ps vs l (x ∷ xs) n u w ws e =
      let a = given_bind (undeclared ps x) _ ws e in
      let b = given_bind (undeclared vs x) _ ws a.2 in
      declared_named ps (vs ++ record { name = text_of x; ty = u } ∷ []) (all_append (IsNamedLocal es) vs _ l (local_named x n.0 u w, tt)) xs n.1 u w ws b.2

  variables_named : (ps vs : List TypedName) → AreLocals vs → (h : Head) (ns : List Node) → HasItsNames h ns → AreRead ns → (p : Place) (ws : List TypedName) → variables ds ps vs h ns p ≡ given ws → AreLocals ws
  variables_named ps vs l head.Variables (xs ∷ t ∷ []) n r p ws e =
      let a = given_bind (type_of ds t) _ ws e in declared_named ps vs l (parts_of xs) n a.0 (forms.type es ds k t r.1.0 a.0 a.1) ws a.2
  variables_named ps vs l head.Variables [] n r p ws e = absurd (not_given _ _ ws e)
  variables_named ps vs l head.Variables (x ∷ []) n r p ws e = absurd (not_given _ _ ws e)
  variables_named ps vs l head.Variables (x ∷ t ∷ u ∷ ns) n r p ws e = absurd (not_given _ _ ws e)
  variables_named ps vs l _ ns n r p ws e = absurd (not_given _ _ ws e)

  locals_named : (ps vs : List TypedName) → AreLocals vs → (bs : List Node) → AreRead bs → (ws : List TypedName) → locals ds ps vs bs ≡ given ws → AreLocals ws
  locals_named ps vs l [] r ws e = subst AreLocals (given_is vs ws e) l
  locals_named ps vs l (b ∷ bs) r ws e =
      let a = given_bind (variables ds ps vs (head_of b) (parts_of b) (place_of b)) _ ws e in
      locals_named ps a.0 (variables_named ps vs l (head_of b) (parts_of b) (names_of b r.0) (parts_read b r.0) (place_of b) a.0 a.1) bs r.1 ws a.2

  value_named : (at : Environment) → IsNamedSetting es at → (vs : List Node) → AreRead vs → (u : Ty) → IsNamedType u → (f : Term) → value at vs u ≡ given f → IsNamed es f
  value_named at s [] r u w f e = subst (IsNamed es) (given_is unit f e) (unit_named es)
  value_named at s (v ∷ vs) r u w f e = forms.form es at s [] tt (Some u) (as_result u w) v r.0 f e

  pub result_named : (rs : List Node) → AreRead rs → (u : Ty) → result_type ds rs ≡ given u → IsNamedType u
  result_named [] r u e = subst IsNamedType (given_is ty.Unit u e) tt
  result_named (t ∷ ts) r u e = let w = forms.type es ds k t r.0 u e in w.named

  procedure_given : (q : Sequent) → IsNamedSequent es q → (m : Module) → IsNamedModule es m → (x : Node) → IsName x → (ps : List TypedName) → AreLocals ps → (ls ss vs : List Node) → AreRead ls → AreRead ss → AreRead vs →
      (u : Ty) → IsNamedType u → (f : Proc) → with_result ds q m x ps ls ss vs u ≡ given f → IsNamedMember es f
  unfolding with_result
  procedure_given q c m h x n ps l ls ss vs r1 r2 r3 u w f e =
      let a = given_bind (locals ds ps [] ls) _ f e in
      let all = all_append (IsNamedLocal es) ps a.0 l (locals_named ps [] tt ls r1 a.0 a.1) in
      let at = program ds m q (ps ++ a.0) in
      let s = program_named es ds k m h q c (ps ++ a.0) (all_so (IsNamedLocal es) IsNamedVariable (λ v y. y.0) (ps ++ a.0) all) in
      let b = given_bind (all_stated (with_statings ss) at) _ f a.2 in
      let d = given_bind (value at vs u) _ f b.2 in
      subst (IsNamedMember es) (given_is _ f d.2) (record { name = n; procedure = record { locals = all; result = w; body = body_named forms es ss r2 at s b.0 b.1; value = value_named at s vs r3 u w d.0 d.1 } })

  procedure_named : (q : Sequent) → IsNamedSequent es q → (m : Module) → IsNamedModule es m → (h : Head) (ns : List Node) → HasItsNames h ns → AreRead ns → (p : Place) (f : Proc) → procedure_by ds q m h ns p ≡ given f → IsNamedMember es f
  procedure_named q c m i head.Procedure (x ∷ fs ∷ rs ∷ ls ∷ ss ∷ vs ∷ []) n r p f e =
      let a = given_bind (untaken m x) _ f e in
      let b = given_bind (formals ds [] (parts_of fs)) _ f a.2 in
      let d = given_bind (result_of ds x (parts_of rs) (parts_of vs)) _ f b.2 in
      let u = given_bind (result_type ds (parts_of rs)) _ d.0 d.1 in
      let w = if_refused (lacks_value (parts_of vs) u.0) TypeMismatch (place_of x) (given u.0) d.0 u.2 in
      let t = subst IsNamedType (given_is u.0 d.0 w.1) (result_named (parts_of rs) (parts_read rs r.1.1.0) u.0 u.1) in
      procedure_given q c m i x n b.0 (formals_named [] tt (parts_of fs) (parts_read fs r.1.0) b.0 b.1) (parts_of ls) (parts_of ss) (parts_of vs) (parts_read ls r.1.1.1.0) (parts_read ss r.1.1.1.1.0)
      (parts_read vs r.1.1.1.1.1.0) d.0 t f d.2
  procedure_named q c m i head.Procedure [] n r p f e = absurd (not_given _ _ f e)
  procedure_named q c m i head.Procedure (x ∷ []) n r p f e = absurd (not_given _ _ f e)
  procedure_named q c m i head.Procedure (x ∷ a ∷ []) n r p f e = absurd (not_given _ _ f e)
  procedure_named q c m i head.Procedure (x ∷ a ∷ b ∷ []) n r p f e = absurd (not_given _ _ f e)
  procedure_named q c m i head.Procedure (x ∷ a ∷ b ∷ d ∷ []) n r p f e = absurd (not_given _ _ f e)
  procedure_named q c m i head.Procedure (x ∷ a ∷ b ∷ d ∷ g ∷ []) n r p f e = absurd (not_given _ _ f e)
  procedure_named q c m i head.Procedure (x ∷ a ∷ b ∷ d ∷ g ∷ h ∷ j ∷ ns) n r p f e = absurd (not_given _ _ f e)
  procedure_named q c m i _ ns n r p f e = absurd (not_given _ _ f e)

  -- Modules.

  pub of_type_named : (xs : List Node) → AllByRecursion IsName xs → (u : Ty) → IsNamedType u → AllByRecursion IsNamedVariable (of_type xs u)
  of_type_named [] n u w = tt
  of_type_named (x ∷ xs) n u w = ((n.0, w), of_type_named xs n.1 u w)

  globals_named : (m : Module) → IsNamedModule es m → (xs : List Node) → AllByRecursion IsName xs → (t : Node) → IsReadTree t → (n : Module) → with_globals ds m xs t ≡ given n → IsNamedModule es n
  globals_named m i xs n t r o e =
      let a = given_bind (taken (member_names m) xs) _ o e in
      let b = given_bind (type_of ds t) _ o a.2 in
      let w = forms.type es ds k t r b.0 b.1 in
      subst (IsNamedModule es) (given_is _ o b.2)
      (record { name = i.name; params = i.params; globals = all_append IsNamedVariable m.globals _ i.globals (of_type_named xs n b.0 w.named); procs = i.procs })

  procedure_added : (q : Sequent) → IsNamedSequent es q → (m : Module) → IsNamedModule es m → (h : Head) (ns : List Node) → HasItsNames h ns → AreRead ns → (p : Place) (o : Module) → with_procedure ds q m h ns p ≡ given o → IsNamedModule es o
  procedure_added q c m i h ns n r p o e =
      let a = given_bind (procedure_by ds q m h ns p) _ o e in
      subst (IsNamedModule es) (given_is _ o a.2)
      (record { name = i.name; params = i.params; globals = i.globals; procs = all_append (IsNamedMember es) m.procs _ i.procs (procedure_named q c m i h ns n r p a.0 a.1, tt) })

  member_named : (q : Sequent) → IsNamedSequent es q → (m : Module) → IsNamedModule es m → (h : Head) (ns : List Node) → HasItsNames h ns → AreRead ns → (p : Place) (o : Module) → with_member ds q m h ns p ≡ given o → IsNamedModule es o
  member_named q c m i head.Globals (xs ∷ t ∷ []) n r p o e = globals_named m i (parts_of xs) n t r.1.0 o e
  member_named q c m i head.Globals [] n r p o e = procedure_added q c m i head.Globals [] n r p o e
  member_named q c m i head.Globals (xs ∷ []) n r p o e = procedure_added q c m i head.Globals (xs ∷ []) n r p o e
  member_named q c m i head.Globals (xs ∷ t ∷ u ∷ ns) n r p o e = procedure_added q c m i head.Globals (xs ∷ t ∷ u ∷ ns) n r p o e
  member_named q c m i h ns n r p o e = procedure_added q c m i h ns n r p o e

  members_named : (q : Sequent) → IsNamedSequent es q → (m : Module) → IsNamedModule es m → (ts : List Node) → AreRead ts → (o : Module) → with_members ds q m ts ≡ given o → IsNamedModule es o
  unfolding with_members
  members_named q c m i [] r o e = subst (IsNamedModule es) (given_is m o e) i
  members_named q c m i (t ∷ ts) r o e =
      let a = given_bind (with_member ds q m (head_of t) (parts_of t) (place_of t)) _ o e in
      members_named q c a.0 (member_named q c m i (head_of t) (parts_of t) (names_of t r.0) (parts_read t r.0) (place_of t) a.0 a.1) ts r.1 o a.2

  empty_named : (x : Node) → IsName x → IsNamedModule es (empty_module (text_of x))
  empty_named x n = record { name = n; params = tt; globals = tt; procs = tt }

  typed_parameter_named : (m : Module) → IsNamedModule es m → (x : Node) → IsName x → (t : Node) (o : Module) → typed_parameter ds m x t ≡ given o → IsNamedModule es o
  typed_parameter_named m i x n t o e =
      let a = given_bind (parameter_name ds (Some m.name) m.params x) _ o e in
      let b = given_bind (module_type_at ds t) _ o a.2 in
      subst (IsNamedModule es) (given_is _ o b.2)
      (record { name = i.name; params = all_append IsNamedParam m.params (param x t ∷ []) i.params (n, tt); globals = i.globals; procs = i.procs })

  parameter_named : (m : Module) → IsNamedModule es m → (h : Head) (ns : List Node) → HasItsNames h ns → (p : Place) (o : Module) → with_parameter ds m h ns p ≡ given o → IsNamedModule es o
  parameter_named m i head.ModuleParameter (x ∷ t ∷ []) n p o e = typed_parameter_named m i x n t o e
  parameter_named m i head.ModuleParameter [] n p o e = absurd (not_given _ _ o e)
  parameter_named m i head.ModuleParameter (x ∷ []) n p o e = absurd (not_given _ _ o e)
  parameter_named m i head.ModuleParameter (x ∷ t ∷ u ∷ ns) n p o e = absurd (not_given _ _ o e)
  parameter_named m i _ ns n p o e = absurd (not_given _ _ o e)

  parameters_named : (m : Module) → IsNamedModule es m → (ts : List Node) → AreRead ts → (o : Module) → with_parameters ds m ts ≡ given o → IsNamedModule es o
  parameters_named m i [] r o e = subst (IsNamedModule es) (given_is m o e) i
  parameters_named m i (t ∷ ts) r o e =
      let a = given_bind (with_parameter ds m (head_of t) (parts_of t) (place_of t)) _ o e in
      parameters_named a.0 (parameter_named m i (head_of t) (parts_of t) (names_of t r.0) (place_of t) a.0 a.1) ts r.1 o a.2

  with_body_named : (m : Module) → IsNamedModule es m → (w : Where) (s : Option Stated) (ts : List Node) → AreRead ts → (o : Module) → with_body ds m w s ts ≡ given o → IsNamedModule es o
  unfolding with_body
  with_body_named m i w s ts r o e =
      let a = given_bind (with_members ds nothing_around m ts) _ o e in
      let b = given_bind (meets_stated ds w a.0 s) _ o a.2 in
      let c = given_bind (all_short ts) _ o b.2 in
      subst (IsNamedModule es) (given_is a.0 o c.2) (members_named nothing_around (nothing_named es) m i ts r a.0 a.1)

  plain_named : (x : Node) → IsName x → (qs : List Node) → AreRead qs → (ms ts : List Node) → AreRead ts → (o : Module) → plain ds x qs ms ts ≡ given o → IsNamedModule es o
  unfolding plain
  plain_named x n qs r ms ts s o e =
      let a = given_bind (free ds x) _ o e in
      let b = given_bind (with_parameters ds (empty_module (text_of x)) qs) _ o a.2 in
      let c = given_bind (stated ds ms) _ o b.2 in
      with_body_named b.0 (parameters_named (empty_module (text_of x)) (empty_named x n) qs r b.0 b.1) Behind c.0 ts s o c.2

  ascribed_named : (x : Node) → IsName x → (t : Node) (qs : List Node) → AreRead qs → (ts : List Node) → AreRead ts → (o : Module) → ascribed ds x t qs ts ≡ given o → IsNamedModule es o
  unfolding ascribed
  ascribed_named x n t qs r ts s o e =
      let a = given_bind (free ds x) _ o e in
      let b = given_bind (stated ds (t ∷ [])) _ o a.2 in
      let c = given_bind (with_parameters ds (empty_module (text_of x)) qs) _ o b.2 in
      with_body_named c.0 (parameters_named (empty_module (text_of x)) (empty_named x n) qs r c.0 c.1) Front b.0 ts s o c.2

  module_by_named : (h : Head) (ns : List Node) → HasItsNames h ns → AreRead ns → (p : Place) (o : Module) → module_by ds h ns p ≡ given o → IsNamedModule es o
  module_by_named head.Module (x ∷ qs ∷ m ∷ ts ∷ []) n r p o e = plain_named x n (parts_of qs) (parts_read qs r.1.0) (parts_of m) (parts_of ts) (parts_read ts r.1.1.1.0) o e
  module_by_named head.Module [] n r p o e = absurd (not_given _ _ o e)
  module_by_named head.Module (x ∷ []) n r p o e = absurd (not_given _ _ o e)
  module_by_named head.Module (x ∷ q ∷ []) n r p o e = absurd (not_given _ _ o e)
  module_by_named head.Module (x ∷ q ∷ m ∷ []) n r p o e = absurd (not_given _ _ o e)
  module_by_named head.Module (x ∷ q ∷ m ∷ t ∷ u ∷ ns) n r p o e = absurd (not_given _ _ o e)
  module_by_named head.AscribedModule (x ∷ t ∷ qs ∷ ts ∷ []) n r p o e = ascribed_named x n t (parts_of qs) (parts_read qs r.1.1.0) (parts_of ts) (parts_read ts r.1.1.1.0) o e
  module_by_named head.AscribedModule [] n r p o e = absurd (not_given _ _ o e)
  module_by_named head.AscribedModule (x ∷ []) n r p o e = absurd (not_given _ _ o e)
  module_by_named head.AscribedModule (x ∷ t ∷ []) n r p o e = absurd (not_given _ _ o e)
  module_by_named head.AscribedModule (x ∷ t ∷ q ∷ []) n r p o e = absurd (not_given _ _ o e)
  module_by_named head.AscribedModule (x ∷ t ∷ q ∷ u ∷ v ∷ ns) n r p o e = absurd (not_given _ _ o e)
  module_by_named _ ns n r p o e = absurd (not_given _ _ o e)

  -- a module
  pub module_named : (t : Node) → IsReadTree t → (m : Module) → module_given ds t ≡ given m → IsNamedModule es m
  module_named t r m e = module_by_named (head_of t) (parts_of t) (names_of t r) (parts_read t r) (place_of t) m e
