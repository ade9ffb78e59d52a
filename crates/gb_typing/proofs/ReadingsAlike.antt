-- A typed module, read over modules that are alike, gives the same for alike arguments.
use Rattle.std.proofs.Common.{◌≡◌, Bool, true, false, ◌||◌, List, [], ◌∷◌, ◌++◌, map, Option, Some, None, if◌then◌else◌, bytes_eq, refl, ap, sym, ◌∙◌, subst}
use Rattle.std.specs.List.{list_any}
use Rattle.std.proofs.lemmas.Option.{none-some}
use Rattle.std.proofs.lemmas.Slice.Eq.{bytes_eq-Decides}
use Rattle.gb_terms.specs.declared.decl.Module.{Module}
use Rattle.gb_terms.specs.declared.decl.Param.{Param}
use Rattle.gb_terms.specs.declared.decl.Proc.{Proc}
use Rattle.gb_meaning.specs.Names.{Name}
use Rattle.gb_meaning.specs.Modules.{Procedures, Functor, Applied, Reading, found, no_module, with_module, argument, with_params, procedure_at, with_procedure, with_procedures, module_read}
use Rattle.gb_meaning.specs.Modules as linked
use Rattle.gb_meaning.proofs.Procedures.{in_parts, stays, known}
use Rattle.gb_typing.specs.Modules.{ProcedureType, FunctorType, Interface, Modules, functor_type, of_functor_type, without_lacks, with_interface}
use Rattle.gb_typing.specs.Context.{Context}
use Rattle.gb_typing.specs.Programs.{IsProcedure, locals_of, type_of_procedure}
use Rattle.gb_typing.specs.Scopes.{interface_with, procedure_types, in_module, AreProcedures}
use Rattle.gb_typing.specs.Scopes as scopes
use Rattle.gb_typing.specs.Alike.{LooksAtCalls, AreAgreeing, IsAlike, AreAlike, StandAlike, AreAllAlike}
use Rattle.gb_typing.proofs.ExpressionsAlike.{procedure_alike}
use Rattle.gb_typing.proofs.Calls.{each_call}

abbrev pub interface_or : Interface → Option Interface → Interface
interface_or i None = i
interface_or i (Some j) = j

pub listed : (ps : List Proc) (n : Name) (t : ProcedureType) → found (procedure_types ps) n ≡ Some t → list_any (λ p. bytes_eq n p.name) ps ≡ true
listed [] n t e = absurd (none-some t e)
listed (p ∷ ps) n t e = step (listed ps n t) (bytes_eq n p.name) e
  where
    step : (found (procedure_types ps) n ≡ Some t → list_any (λ p. bytes_eq n p.name) ps ≡ true) → (b : Bool) →
        (if b then Some (type_of_procedure p) else found (procedure_types ps) n) ≡ Some t → (b || list_any (λ p. bytes_eq n p.name) ps) ≡ true
    step later true e = refl
    step later false e = later e

pub front_typed : (c : Context) (m : Module) (ts : Procedures ProcedureType) (ps qs : List Proc) → AreProcedures c m ts (ps ++ qs) → AreProcedures c m ts ps
front_typed c m ts [] qs w = tt
front_typed c m ts (p ∷ ps) qs w = (w.0, w.1, front_typed c m (ts ++ (p.name, type_of_procedure p) ∷ []) ps qs w.2)

module _ {X : Type 0} where
  -- a further module of an interface
  pub with_alike : (ms : Modules) (ks ls : linked.Modules X) → AreAllAlike ms ks ls → (n : Name) (i : Interface) (a b : Applied X) → StandAlike i a b →
      AreAllAlike (with_interface ms n (Some i)) (with_module ks n a) (with_module ls n b)
  with_alike ms ks ls s n i a b w k j = step (bytes_eq k n)
    where
      step : (z : Bool) → (if z then Some i else ms.interfaces k) ≡ Some j → StandAlike j (if z then a else ks k) (if z then b else ls k)
      step true e = subst (λ j. StandAlike j a b) (ap (interface_or i) e) w
      step false e = s k j e

  -- a name gains an interface at which what stands there is alike
  pub named_alike : (ms : Modules) (ks ls : linked.Modules X) → AreAllAlike ms ks ls → (n : Name) (i : Interface) → StandAlike i (ks n) (ls n) → AreAllAlike (with_interface ms n (Some i)) ks ls
  named_alike ms ks ls s n i w k j = step (bytes_eq k n) refl
    where
      step : (b : Bool) → bytes_eq k n ≡ b → (if b then Some i else ms.interfaces k) ≡ Some j → StandAlike j (ks k) (ls k)
      step true e h = subst (λ j. StandAlike j (ks k) (ls k)) (ap (interface_or i) h) (subst (λ z. StandAlike i (ks z) (ls z)) (sym ((bytes_eq-Decides k n).0 e)) w)
      step false e h = s k j h

  pub given_each : (ts : List (Procedures ProcedureType)) (fs gs : List (Functor X)) → AreAlike (map without_lacks ts) fs gs → AreAgreeing ts (map (λ a. a []) fs) (map (λ a. a []) gs)
  given_each [] [] [] w = tt
  given_each [] [] (g ∷ gs) w = absurd w
  given_each [] (f ∷ fs) gs w = absurd w
  given_each (t ∷ ts) [] gs w = absurd w
  given_each (t ∷ ts) (f ∷ fs) [] w = absurd w
  given_each (t ∷ ts) (f ∷ fs) (g ∷ gs) w = (w.0 [] [] tt, given_each ts fs gs w.1)

  argument_alike : (t : FunctorType) (f g : Functor X) → IsAlike t f g → StandAlike (of_functor_type t) (argument f) (argument g)
  argument_alike t f g w fs gs h = w (map (λ a. a []) fs) (map (λ a. a []) gs) (given_each t.lacks fs gs h)

  params_alike : (ms : Modules) (ks ls : linked.Modules X) → AreAllAlike ms ks ls → (ps : List Param) (fs gs : List (Functor X)) →
      AreAlike (map (λ p. functor_type ms.types (ms.types p.ty)) ps) fs gs → AreAllAlike (scopes.with_params ms ps) (with_params ks ps fs) (with_params ls ps gs)
  params_alike ms ks ls s [] [] [] w = s
  params_alike ms ks ls s [] [] (g ∷ gs) w = absurd w
  params_alike ms ks ls s [] (f ∷ fs) gs w = absurd w
  params_alike ms ks ls s (p ∷ ps) [] gs w = absurd w
  params_alike ms ks ls s (p ∷ ps) (f ∷ fs) [] w = absurd w
  params_alike ms ks ls s (p ∷ ps) (f ∷ fs) (g ∷ gs) w =
      with_alike (scopes.with_params ms ps) (with_params ks ps fs) (with_params ls ps gs) (params_alike ms ks ls s ps fs gs w.1) p.name
      (of_functor_type (functor_type ms.types (ms.types p.ty))) (argument f) (argument g) (argument_alike (functor_type ms.types (ms.types p.ty)) f g w.0)

  module _ (read : Reading X) (looks : LooksAtCalls read) (c : Context) (m : Module) (ks ls : linked.Modules X) (stand : AreAllAlike c.modules ks ls) where
    abbrev lacks : List FunctorType
    lacks = map (λ p. functor_type c.modules.types (c.modules.types p.ty)) m.params

    abbrev Earlier : Applied X → Applied X → Type 0
    Earlier a b = (fs gs : List (Functor X)) → AreAlike lacks fs gs → a fs ≡ b gs

    one_alike : (ts : Procedures ProcedureType) (a b : Applied X) → Earlier a b → (p : Proc) → IsProcedure (in_module c m ts) p → (fs gs : List (Functor X)) → AreAlike lacks fs gs →
        read (procedure_at (with_params (with_module ks m.name a) m.params fs)) p ≡ read (procedure_at (with_params (with_module ls m.name b) m.params gs)) p
    one_alike ts a b e p w fs gs k =
        looks (procedure_at us) (procedure_at vs) p
        (each_call (in_module c m ts) (locals_of p) (λ r. procedure_at us r ≡ procedure_at vs r) (procedure_alike (in_module c m ts).modules us vs all) p.body.list (let x = w.body in x.statements))
      where
        us : linked.Modules X
        us = with_params (with_module ks m.name a) m.params fs

        vs : linked.Modules X
        vs = with_params (with_module ls m.name b) m.params gs

        all : AreAllAlike (in_module c m ts).modules us vs
        all =
            params_alike (with_interface c.modules m.name (Some (interface_with c.modules.types m.params ts))) (with_module ks m.name a) (with_module ls m.name b)
            (with_alike c.modules ks ls stand m.name (interface_with c.modules.types m.params ts) a b (λ xs ys z n t h. ap (λ (z : Procedures X). found z n) (e xs ys z))) m.params fs gs k

    each_alike : (ts : Procedures ProcedureType) (a b : Applied X) → Earlier a b → (ps : List Proc) → AreProcedures c m ts ps → Earlier (with_procedures read ks m a ps) (with_procedures read ls m b ps)
    each_alike ts a b e [] w = e
    each_alike ts a b e (p ∷ ps) w =
        each_alike (ts ++ (p.name, type_of_procedure p) ∷ []) (with_procedure read ks m a p) (with_procedure read ls m b p)
        (λ fs gs k i. e fs gs k i ++ (p.name, one_alike ts a b e p w.1 fs gs k i) ∷ []) ps w.2

    -- the module gives the same
    pub module_alike : AreProcedures c m [] m.procs → (fs gs : List (Functor X)) → AreAlike lacks fs gs → module_read read ks m fs ≡ module_read read ls m gs
    module_alike w fs gs k = each_alike [] no_module no_module (λ fs gs k. refl) m.procs w fs gs k

    pub module_stands : AreProcedures c m [] m.procs → StandAlike (interface_with c.modules.types m.params (procedure_types m.procs)) (module_read read ks m) (module_read read ls m)
    module_stands w fs gs k n t e = ap (λ (z : Procedures X). found z n) (module_alike w fs gs k)

    -- with some of its procedures it is alike what it is with all of them
    pub own_alike : AreProcedures c m [] m.procs → (ps qs : List Proc) → m.procs ≡ ps ++ qs →
        StandAlike (interface_with c.modules.types m.params (procedure_types ps)) (with_procedures read ks m no_module ps) (module_read read ls m)
    own_alike w ps qs e fs gs k n t h =
        let typed : AreProcedures c m [] ps = front_typed c m [] ps qs (subst (AreProcedures c m []) e w) in
        let y = known read ls m no_module ps gs n refl (listed ps n t h) in
        ap (λ (z : Procedures X). found z n) (each_alike [] no_module no_module (λ fs gs k. refl) ps typed fs gs k)
        ∙ y.1
        ∙ sym
        (ap (λ z. found (with_procedures read ls m no_module z gs) n) e
        ∙ ap (λ (z : Applied X). found (z gs) n) (in_parts read ls m no_module ps qs)
        ∙ stays read ls m (with_procedures read ls m no_module ps) qs gs n y.0 y.1)
