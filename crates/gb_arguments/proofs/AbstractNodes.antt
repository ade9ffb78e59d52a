-- What procedures of abstract modules touch: all that is the module's own, and what the oracles touch that their signatures name.
use Rattle.std.proofs.Common.{◌≡◌, inl, inr, suc, if◌then◌else◌, Bool, true, false, List, [], ◌∷◌, ◌++◌, map, length, Option, Some, None, option_map, refl, ap, sym, ◌∙◌, subst, arith}
use Rattle.std.specs.Prelude.{bytes_eq}
use Rattle.std.proofs.lemmas.Bool.{false≢true, and_parts}
use Rattle.std.proofs.Math.Path.{fun_ext}
use mathlib.Core.Former.{Count}
use Rattle.gb_core.specs.declared.var.Var.{Var}
use Rattle.gb_core.specs.declared.var.Var.TheVariants as var
use Rattle.gb_terms.specs.declared.decl.Param.{Param}
use Rattle.gb_terms.specs.declared.module.Bind.{Bind}
use Rattle.gb_terms.specs.declared.module.Mexp.{Mexp, Row_of-Mexp, end_of-Mexp, more_of-Mexp}
use Rattle.gb_terms.specs.declared.module.Mexp.TheVariants.{Name as named, Apply'}
use Rattle.gb_terms.specs.declared.module.ProcRef.{ProcRef}
use Rattle.gb_terms.specs.Rows.{mexps_in}
use Rattle.gb_goal.specs.declared.module_type.Oracle.{Oracle as OracleName}
use Rattle.gb_goal.specs.declared.scope.Entry.TheVariants as entry
use Rattle.gb_goal.specs.Instances.{arguments_of, name_of, stands_for}
use Rattle.gb_goal.specs.Interfaces.{found, has_type, of_entry, of_type, params_in, provides, signature_types, signatures_of}
use Rattle.gb_goal.specs.Scope as scope
use Rattle.gb_goal.specs.Scope.{entry_of}
use Rattle.gb_meaning.specs.Names.{Name}
use Rattle.gb_meaning.specs.Program.{Oracle}
use Rattle.gb_meaning.specs.Adversary.{abstract_footprint, as_asked, or_none, oracle_footprints, oracle_signature, oracles_called, signature_footprints, type_named}
use Rattle.gb_meaning.specs.Adversary as meant
use Rattle.gb_meaning.specs.Declared.{MayCall, ModuleType, Signature, every, those, declared, signature_in}
use Rattle.gb_meaning.specs.Footprints.{footprint_read, of_callee}
use Rattle.gb_meaning.specs.Linking.{oracle_of}
use Rattle.gb_meaning.specs.Modules.{Functor, Modules, Reading, module_at, modules_at, no_module, procedure_at}
use Rattle.gb_meaning.specs.Settings.{Chosen, Interpretation, setting}
use Rattle.gb_typing.specs.Alike.{AreSigned, LooksAtCalls, NameSigned}
use Rattle.gb_typing.specs.Chosen.{IsChosenIf, IsChosenOver, chosen_under}
use Rattle.gb_typing.specs.Context.{Context, procedure}
use Rattle.gb_typing.specs.Suits.{lacked, suits}
use Rattle.gb_typing.proofs.Agreed.{resolved}
use Rattle.gb_typing.proofs.Inside.{applied_procedure, applied_suits}
use Rattle.gb_typing.proofs.Located.{known_in_scope}
use Rattle.gb_typing.specs.Following.{FollowsCalls}
use Rattle.gb_typing.specs.Formulas.{IsKnown}
use Rattle.gb_typing.specs.Modules as typed
use Rattle.gb_typing.specs.Modules.{ProcedureType}
use Rattle.gb_typing.specs.Scopes.{AreParams, IsTypedScope, context_of, with_param}
use Rattle.gb_typing.proofs.AbstractModules.{abstract_in_scope}
use Rattle.gb_typing.proofs.ClosedSettings.{chosen_footprint}
use Rattle.gb_typing.proofs.DeclaredTypes.{declared_type, scope_types}
use Rattle.gb_typing.proofs.Follows.{footprint_follows}
use Rattle.gb_typing.proofs.Interfaces.{itself, none_some, same_name}
use Rattle.gb_typing.proofs.KeptPrograms.{chosen_kept}
use Rattle.gb_typing.proofs.ModulesAlike.{footprint-looks}
use Rattle.gb_typing.proofs.ParameterTypes.{type_in_scope}
use Rattle.gb_mods.specs.Asked.{all_oracles, asked_by, asked_for, asked_of, oracles_if, oracles_in, oracles_named, signature_of}
use Rattle.gb_mods.specs.Reach.{called_declared, called_from}
use Rattle.gb_mods.proofs.Closed.{IsIn}
use Rattle.gb_prog.proofs.There.{HasSignature, chosen_for}
use Rattle.gb_prog.proofs.Oracles.{as_named, signatures_same}
use Rattle.gb_instances.specs.Footprint.{touched_at, touched_by}
use Rattle.gb_arguments.specs.Members.{Has}
use Rattle.gb_arguments.proofs.Depths.{below, depth_follows, depth_looks, depth_read, together}
use Rattle.gb_arguments.proofs.FootprintMembers.{either, has_behind, has_either, has_front, IsGlobal}
use Rattle.gb_arguments.proofs.Nodes.{IsSeen, Node, base, depths, final, footprints_all, rank, reaches}

-- Signatures.

pub turned : (f n : Name) → bytes_eq f n ≡ false → bytes_eq n f ≡ false
turned f n e = step (bytes_eq n f) refl
  where
    step : (b : Bool) → bytes_eq n f ≡ b → b ≡ false
    step true k = absurd (false≢true (sym e ∙ ap (λ x. bytes_eq x n) (sym (same_name n f k)) ∙ itself n))
    step false k = refl

module _ (ds : scope.Declarations) (a : Name) (t : ModuleType) (f : Name) (u : ProcedureType) where
  pub record Signing (ss : List Signature) : Type 0 where
    pub one : Signature
    pub named_so : signature_of ss f ≡ Some one
    pub signed : NameSigned (declared ds) t ss → AreSigned (declared ds) t.params (oracles_called (declared ds) t one)
    pub there : (os : Oracle → Option (List Var)) → found (signature_footprints (declared ds) a t os ss) f ≡ Some (var.Glob a ∷ oracle_footprints os (oracles_called (declared ds) t one))

  signing : (ss : List Signature) → found (signature_types ss) f ≡ Some u → Signing ss
  signing [] e = none_some u e
  signing (s ∷ ss) e = step (bytes_eq f s.name) refl e (signing ss)
    where
      step : (b : Bool) → bytes_eq f s.name ≡ b → (if b then Some (let v : ProcedureType = record { params = s.params; result = s.result } in v) else found (signature_types ss) f) ≡ Some u →
          (found (signature_types ss) f ≡ Some u → Signing ss) → Signing (s ∷ ss)
      step true k e go = record {
        one = s;
        named_so = ap (λ b. if b then Some s else signature_of ss f) (ap (λ x. bytes_eq s.name x) (same_name f s.name k) ∙ itself s.name);
        signed = λ w. w.0;
        there = λ os. ap (λ b. if b then Some (var.Glob a ∷ oracle_footprints os (oracles_called (declared ds) t s)) else found (signature_footprints (declared ds) a t os ss) f) k;
      }
      step false k e go =
          let g = go e in
          record {
            one = g.one;
            named_so = ap (λ b. if b then Some s else signature_of ss f) (turned f s.name k) ∙ g.named_so;
            signed = λ w. g.signed w.1;
            there = λ os. ap (λ b. if b then Some (var.Glob a ∷ oracle_footprints os (oracles_called (declared ds) t s)) else found (signature_footprints (declared ds) a t os ss) f) k ∙ g.there os;
          }

-- The oracles that a signature names.

map_append : (xs ys : List OracleName) → map as_asked (xs ++ ys) ≡ map as_asked xs ++ map as_asked ys
map_append [] ys = refl
map_append (x ∷ xs) ys = ap (λ z. as_asked x ∷ z) (map_append xs ys)

oracles_one : (x : Name) (ss : List Signature) → meant.oracles_in x ss ≡ map as_asked (oracles_in x ss)
oracles_one x [] = refl
oracles_one x (s ∷ ss) = ap (λ z. (let o : Oracle = record { parameter = x; name = s.name } in o) ∷ z) (oracles_one x ss)

module _ (ds : scope.Declarations) where
  oracles_all : (ps : List Param) → meant.oracles_among (declared ds) ps ≡ map as_asked (all_oracles ds ps)
  oracles_all [] = refl
  oracles_all (p ∷ ps) =
      (λ i. (ap (meant.oracles_in p.name) (signatures_same ds p.ty) ∙ oracles_one p.name (signatures_of (scope.module_type_of ds p.ty))) i ++ oracles_all ps i)
      ∙ sym (map_append (oracles_in p.name (signatures_of (scope.module_type_of ds p.ty))) (all_oracles ds ps))

  oracles_are : (ps : List Param) (m : MayCall) → meant.oracles_named (declared ds) ps m ≡ map as_asked (oracles_named ds ps m)
  oracles_are ps every = oracles_all ps
  oracles_are ps (those os) = refl

-- What answers for them.

has_some : (o : Option ProcedureType) (t : ProcedureType) → has_type o t ≡ true → (u : ProcedureType) × (o ≡ Some u)
has_some None t e = absurd (false≢true e)
has_some (Some u) t e = (u, refl)

module _ (f : Name) (s : Signature) where
  provided : (ps : List (Name × ProcedureType)) (ss : List Signature) → provides ps (signature_types ss) ≡ true → signature_in ss f ≡ Some s → (u : ProcedureType) × (found ps f ≡ Some u)
  provided ps [] h e = none_some s e
  provided ps (v ∷ vs) h e = step (bytes_eq f v.name) refl e (provided ps vs)
    where
      type_of : ProcedureType
      type_of = record { params = v.params; result = v.result }

      step : (b : Bool) → bytes_eq f v.name ≡ b → (if b then Some v else signature_in vs f) ≡ Some s →
          (provides ps (signature_types vs) ≡ true → signature_in vs f ≡ Some s → (u : ProcedureType) × (found ps f ≡ Some u)) → (u : ProcedureType) × (found ps f ≡ Some u)
      step true q e go =
          let k = and_parts (has_type (found ps v.name) (record { params = v.params; result = v.result })) (provides ps (signature_types vs)) h in
          let w = has_some (found ps v.name) (record { params = v.params; result = v.result }) k.0 in
          (w.0, ap (found ps) (same_name f v.name q) ∙ w.1)
      step false q e go =
          let k = and_parts (has_type (found ps v.name) (record { params = v.params; result = v.result })) (provides ps (signature_types vs)) h in go k.1 e

  served_none : (ls : List typed.FunctorType) → typed.serve [] ls ≡ true → ls ≡ []
  served_none [] h = refl
  served_none (l ∷ ls) h = absurd (false≢true h)

  fitting_has : (i : Option typed.Interface) (t : typed.FunctorType) (ss : List Signature) → t.lacks ≡ [] → t.procedures ≡ signature_types ss → typed.fits i t ≡ true → signature_in ss f ≡ Some s →
      (u : ProcedureType) × (typed.procedure_of i f ≡ Some u)
  fitting_has None t ss z q h e = absurd (false≢true h)
  fitting_has (Some i) t ss z q h e =
      let k = and_parts (typed.serve t.lacks i.lacks) (provides i.procedures t.procedures) h in
      let w = provided i.procedures ss (ap (provides i.procedures) (sym q) ∙ k.1) e in
      (w.0, ap (λ ls. typed.of_complete ls i.procedures f) (served_none i.lacks (ap (λ z. typed.serve z i.lacks) (sym z) ∙ k.0)) ∙ w.1)

-- The parameters of a module type have module types without parameters.

abbrev AreFlat : scope.Declarations → List Param → Type 0
AreFlat ds [] = Unit {0}
AreFlat ds (p ∷ ps) = (params_in (scope.module_type_of ds p.ty) ≡ []) × AreFlat ds ps

are_flat : (ds : scope.Declarations) (ms : typed.Modules) → ((n : Name) (t : ModuleType) → ms.types n ≡ Some t → scope.module_type_of ds n ≡ Some t) → (ps : List Param) → AreParams ms ps → AreFlat ds ps
are_flat ds ms k [] w = tt
are_flat ds ms k (p ∷ ps) w = (step (ms.types p.ty) refl w.0.0 w.0.1, are_flat ds (with_param ms p) k ps w.1)
  where
    step : (o : Option ModuleType) → ms.types p.ty ≡ o → IsKnown o → params_in o ≡ [] → params_in (scope.module_type_of ds p.ty) ≡ []
    step None e k z = absurd k
    step (Some t) e x z = ap params_in (k p.ty t e) ∙ z

-- .. by modules that are given for all parameters

abbrev pub given : Modules (List Var) → Mexp → List (Functor (List Var))
given ms (named n) = []
given ms (Apply' n k args) = modules_at ms args ++ []

pub applied_is : (ms : Modules (List Var)) (m : Mexp) → module_at ms m [] ≡ ms (name_of m) (given ms m)
applied_is ms (named n) = refl
applied_is ms (Apply' n k args) = refl

abbrev answers : Modules (List Var) → List Param → Mexp → Oracle → Option (List Var)
answers ms ps m = oracle_of ps (map (λ f. f []) (given ms m))

module _ (ds : scope.Declarations) (seen : Context) (types : (n : Name) → seen.modules.types n ≡ scope.module_type_of ds n) (ms : Modules (List Var)) (o : Oracle) (s : Signature) where
  -- what answers is what the reference means, which has a type
  abbrev IsAnswered : Option (List Var) → ProcRef → Type 0
  IsAnswered r x = (r ≡ procedure_at ms x) × ((t : ProcedureType) × (procedure seen x ≡ Some t))

  abbrev asks : Param → typed.FunctorType
  asks p = typed.functor_type seen.modules.types (seen.modules.types p.ty)

  abbrev AreAnswering : {n : Count} → List Param → Row_of-Mexp n → Type 0
  AreAnswering ps args = AreFlat ds ps → suits seen.modules (lacked seen.modules.types ps) (mexps_in args) ≡ true → oracle_signature (declared ds) ps o ≡ Some s →
      IsAnswered (oracle_of ps (map (λ f. f []) (modules_at ms args ++ [])) o) (asked_of ps (mexps_in args) (as_named o))

  row_answered : {n : Count} (ps : List Param) (args : Row_of-Mexp n) → AreFlat ds ps → suits seen.modules (lacked seen.modules.types ps) (mexps_in args) ≡ true → oracle_signature (declared ds) ps o ≡ Some s →
      IsAnswered (oracle_of ps (map (λ f. f []) (modules_at ms args ++ [])) o) (asked_of ps (mexps_in args) (as_named o))
  row_answered [] args z l e = none_some s e
  row_answered (p ∷ ps) end_of-Mexp z l e = absurd (false≢true l)
  row_answered (p ∷ ps) (more_of-Mexp m args) z l e =
      let k = and_parts (typed.fits (typed.interface_at seen.modules m) (asks p)) (suits seen.modules (lacked seen.modules.types ps) (mexps_in args)) l in
      by_name k.0 k.1 (bytes_eq o.parameter p.name) refl e (row_answered ps args)
    where
      lacks_none : (t : Option ModuleType) → params_in t ≡ [] → (types : Name → Option ModuleType) → (let f : typed.FunctorType = typed.functor_type types t in f.lacks) ≡ []
      lacks_none t e types = ap (map (λ (p : Param). signature_types (signatures_of (types p.ty)))) e

      by_name : typed.fits (typed.interface_at seen.modules m) (asks p) ≡ true → suits seen.modules (lacked seen.modules.types ps) (mexps_in args) ≡ true → (b : Bool) → bytes_eq o.parameter p.name ≡ b →
          (if b then signature_in (type_named (declared ds) p.ty).signatures o.name else oracle_signature (declared ds) ps o) ≡ Some s → AreAnswering ps args →
          IsAnswered (if b then found (module_at ms m []) o.name else oracle_of ps (map (λ f. f []) (modules_at ms args ++ [])) o)
          (record { «module» = if b then m else stands_for ps (mexps_in args) o.parameter; name = o.name })
      by_name h l true q e go = (
        refl,
        fitting_has o.name s (typed.interface_at seen.modules m) (asks p) (signatures_of (scope.module_type_of ds p.ty))
            (lacks_none (seen.modules.types p.ty) (ap params_in (types p.ty) ∙ z.0) seen.modules.types) (ap (λ t. signature_types (signatures_of t)) (types p.ty)) h
            (ap (λ ss. signature_in ss o.name) (sym (signatures_same ds p.ty)) ∙ e),
      )
      by_name h l false q e go = go z.1 l e

  filled_answers : (ps : List Param) (m : Mexp) → AreFlat ds ps → suits seen.modules (lacked seen.modules.types ps) (arguments_of m) ≡ true → oracle_signature (declared ds) ps o ≡ Some s →
      IsAnswered (answers ms ps m o) (asked_of ps (arguments_of m) (as_named o))
  filled_answers [] (named n) z l e = none_some s e
  filled_answers (p ∷ ps) (named n) z l e = absurd (false≢true l)
  filled_answers ps (Apply' n k args) z l e = row_answered ps args z l e

module _ (ds : scope.Declarations) (seen : Context) (types : (n : Name) → seen.modules.types n ≡ scope.module_type_of ds n) (ms : Modules (List Var)) (ps : List Param) (m : Mexp)
    (flat : AreFlat ds ps) (full : suits seen.modules (lacked seen.modules.types ps) (arguments_of m) ≡ true) where
  one_answered : (o : OracleName) → IsKnown (oracle_signature (declared ds) ps (as_asked o)) → (answers ms ps m (as_asked o) ≡ procedure_at ms (asked_of ps (arguments_of m) o)) × ((t : ProcedureType) × (procedure seen (asked_of ps (arguments_of m) o) ≡ Some t))
  one_answered o k = step (oracle_signature (declared ds) ps (as_asked o)) refl k
    where
      step : (x : Option Signature) → oracle_signature (declared ds) ps (as_asked o) ≡ x → IsKnown x →
          (answers ms ps m (as_asked o) ≡ procedure_at ms (asked_of ps (arguments_of m) o)) × ((t : ProcedureType) × (procedure seen (asked_of ps (arguments_of m) o) ≡ Some t))
      step None e k = absurd k
      step (Some s) e k = filled_answers ds seen types ms (as_asked o) s ps m flat full e

  all_together : (os : List OracleName) → AreSigned (declared ds) ps (map as_asked os) → oracle_footprints (answers ms ps m) (map as_asked os) ≡ together (procedure_at ms) (asked_for ps (arguments_of m) os)
  all_together [] w = refl
  all_together (o ∷ os) w = λ i. of_callee ((one_answered o w.0).0 i) ++ all_together os w.1 i

  all_typed : (os : List OracleName) → AreSigned (declared ds) ps (map as_asked os) → (q : ProcRef) → IsIn (asked_for ps (arguments_of m) os) q → (t : ProcedureType) × (procedure seen q ≡ Some t)
  all_typed [] w q h = absurd h
  all_typed (o ∷ os) w q (inl e) = subst (λ x. (t : ProcedureType) × (procedure seen x ≡ Some t)) e (one_answered o w.0).1
  all_typed (o ∷ os) w q (inr h) = all_typed os w.1 q h

-- Lists.

in_together : (F : ProcRef → Option (List Var)) (qs : List ProcRef) (z : Var) → Has (together F qs) z → (q : ProcRef) × IsIn qs q × Has (of_callee (F q)) z
in_together F [] z h = absurd h
in_together F (q ∷ qs) z h =
    either (λ k. (q, inl refl, k)) (λ k. let o = in_together F qs z k in (o.0, inr o.1, o.2)) (has_either (of_callee (F q)) (together F qs) z h)

together_has : (F : ProcRef → Option (List Var)) (qs : List ProcRef) (q : ProcRef) → IsIn qs q → (z : Var) → Has (of_callee (F q)) z → Has (together F qs) z
together_has F [] q i z h = absurd i
together_has F (x ∷ qs) q (inl e) z h = has_front (of_callee (F x)) (together F qs) z (subst (λ y. Has (of_callee (F y)) z) (sym e) h)
together_has F (x ∷ qs) q (inr i) z h = has_behind (of_callee (F x)) (together F qs) z (together_has F qs q i z h)

module _ (ds : scope.Declarations) (i : Interpretation) (scoped : IsTypedScope (declared ds)) (over : IsChosenOver (declared ds) i)
    (signed : (n : Name) (t : ModuleType) → scope.module_type_of ds n ≡ Some t → NameSigned (declared ds) t t.signatures)
    (seen : Context) (sees : IsSeen ds i scoped over seen) (r : ProcRef) (t : ProcedureType) (there : procedure seen r ≡ Some t) (b : Bind) (at : entry_of ds (name_of r.«module») ≡ Some (entry.AbstractModule b)) where
  abbrev n : Name
  n = name_of r.«module»

  -- the module type
  type_there : (T : ModuleType) × (scope.module_type_of ds b.ty ≡ Some T)
  type_there = step (scope.module_type_of ds b.ty) refl
    where
      step : (o : Option ModuleType) → scope.module_type_of ds b.ty ≡ o → (T : ModuleType) × (scope.module_type_of ds b.ty ≡ Some T)
      step None e =
          let w = abstract_in_scope ds scoped n b at in
          absurd (later_known (let z = w.before in z.modules.types b.ty) (context_of (declared ds)).modules.types (let k = w.keeps in k.types b.ty) w.known (scope_types ds scoped b.ty ∙ e))
        where
          later_known : (o : Option ModuleType) (types : Name → Option ModuleType) → ((t : ModuleType) → o ≡ Some t → types b.ty ≡ Some t) → IsKnown o → types b.ty ≡ None → ⊥
          later_known None types k w e = w
          later_known (Some t) types k w e = none_some t (sym e ∙ k t refl)
      step (Some T) e = (T, e)

  abbrev T : ModuleType
  T = type_there.0

  abbrev whole : typed.Interface
  whole = resolved (context_of (declared ds)).modules.types (of_type T)

  known_whole : seen.modules.interfaces n ≡ Some whole
  known_whole = let z = sees.keeps in z.interfaces n whole (known_in_scope ds scoped n (of_type T) (ap (of_entry ds) at ∙ ap (option_map of_type) type_there.1))

  suited : suits seen.modules whole.lacks (arguments_of r.«module») ≡ true
  suited = applied_suits seen.modules r.«module» whole known_whole r.name t there

  abbrev s : HasSignature r.name t ds b
  s = record { asks = T; asked_so = type_there.1; there = sym (applied_procedure seen.modules r.«module» whole known_whole r.name suited) ∙ there }

  abbrev args : List Mexp
  args = arguments_of r.«module»

  full : suits seen.modules (lacked seen.modules.types T.params) args ≡ true
  full = ap (λ (f : Name → Option ModuleType). suits seen.modules (lacked f T.params) args) (fun_ext (λ m. sees.types m ∙ sym (scope_types ds scoped m))) ∙ suited

  flat : AreFlat ds T.params
  flat =
      let w = type_in_scope ds scoped b.ty T s.asked_so in
      are_flat ds (let x = w.before in x.modules) (λ m u e. sym (scope_types ds scoped m) ∙ (let k = w.keeps in k.types m u e)) T.params (let x = w.typed in x.params)

  abbrev Under : Type 0
  Under = (x : Chosen) × (chosen_under i.programs n ≡ Some x) × (x.bind ≡ b)

  bound : b.name ≡ n
  bound = let y = abstract_in_scope ds scoped n b at in y.name

  chosen_here : Under
  chosen_here = step (chosen_under i.programs b.name) refl (chosen_for (declared ds) i ds over.chosen n b at)
    where
      step : (o : Option Chosen) → chosen_under i.programs b.name ≡ o → IsChosenIf (declared ds) i.programs (setting (declared ds) i) i.world b o → Under
      step None e k = absurd k
      step (Some x) e k = (x, ap (chosen_under i.programs) (sym bound) ∙ e, k.0)

  signature : Signing ds n T r.name t T.signatures
  signature = signing ds n T r.name t T.signatures s.there

  abbrev names : List OracleName
  names = oracles_named ds T.params (let y = signature.one in y.oracles)

  are_signed : AreSigned (declared ds) T.params (map as_asked names)
  are_signed = subst (AreSigned (declared ds) T.params) (oracles_are ds T.params (let y = signature.one in y.oracles)) (signature.signed (signed b.ty T s.asked_so))

  abbrev qs : List ProcRef
  qs = asked_for T.params args names

  calls_are : called_from ds None r ≡ qs
  calls_are =
      ap (λ o. called_declared ds o args r.name) at ∙ ap (λ o. asked_by ds o args r.name) s.asked_so
      ∙ ap (λ o. asked_for T.params args (oracles_if ds T.params o)) signature.named_so

  touched_are : touched_at ds r ≡ var.Glob n ∷ []
  touched_are = ap (λ o. touched_by n o r.name) at

  module _ (read : Reading (List Var)) (looks : LooksAtCalls read) (follows : FollowsCalls read) where
    abbrev ms : Modules (List Var)
    ms = final ds i scoped over read looks follows

    module_is : ms n ≡ abstract_footprint (declared ds) n T
    module_is =
        let x = chosen_here in
        chosen_kept read i.programs n x.0 x.1 (declared ds) (base ds i scoped over) over.unchosen
        ∙ chosen_footprint (declared ds) i.programs (λ k. no_module) n x.0 x.1
        ∙ ap (λ (z : Bind). abstract_footprint (declared ds) z.name (type_named (declared ds) z.ty)) x.2
        ∙ ap (λ z. abstract_footprint (declared ds) z (type_named (declared ds) b.ty)) bound
        ∙ ap (abstract_footprint (declared ds) n) (ap or_none (declared_type ds b.ty ∙ s.asked_so))

    value_is : procedure_at ms r ≡ Some (var.Glob n ∷ together (procedure_at ms) qs)
    value_is =
        ap (λ xs. found xs r.name) (applied_is ms r.«module») ∙ (λ j. found (module_is j (given ms r.«module»)) r.name)
        ∙ signature.there (answers ms T.params r.«module»)
        ∙ ap (λ z. Some (var.Glob n ∷ z))
        (ap (oracle_footprints (answers ms T.params r.«module»)) (oracles_are ds T.params (let y = signature.one in y.oracles))
        ∙ all_together ds seen sees.types ms T.params r.«module» flat full names are_signed)

  abbrev F : ProcRef → Option (List Var)
  F = procedure_at (footprints_all ds i scoped over)

  abbrev D : ProcRef → Option (List Var)
  D = procedure_at (depths ds i scoped over)

  reaches_is : reaches ds i scoped over r ≡ var.Glob n ∷ together F qs
  reaches_is = ap of_callee (value_is footprint_read footprint-looks footprint_follows)

  rank_is : rank ds i scoped over r ≡ suc (length (together D qs))
  rank_is = ap (λ o. length (of_callee o)) (value_is depth_read depth_looks depth_follows)

  in_calls : (x : ProcRef) → IsIn (called_from ds None r) x → IsIn qs x
  in_calls x h = subst (λ qs. IsIn qs x) calls_are h

  its_own : (z : Var) → Has (touched_at ds r) z → var.Glob n ≡ z
  its_own z h = either (λ e. e) (λ k. absurd k) (subst (λ xs. Has xs z) touched_are h)

  pub abstract_node : Node ds i scoped over seen sees r
  abstract_node = record {
    split = λ z h.
        either (λ e. inl (subst (λ xs. Has xs z) (sym touched_are) (inl e)))
        (λ k. let o = in_together F qs z k in inr (o.0, subst (λ ps. IsIn ps o.0) (sym calls_are) o.1, o.2)) (subst (λ xs. Has xs z) reaches_is h);
    global = λ z h. subst IsGlobal (its_own z h) tt;
    own = λ z h. subst (λ xs. Has xs z) (sym reaches_is) (inl (its_own z h));
    through = λ x h z g k. subst (λ xs. Has xs z) (sym reaches_is) (inr (together_has F qs x (in_calls x h) z k));
    typed = λ x h. all_typed ds seen sees.types (footprints_all ds i scoped over) T.params r.«module» flat full names are_signed x (in_calls x h);
    falls = λ x h. let k = below D qs x (in_calls x h) in let e = rank_is in omega (arith, k, e);
  }
