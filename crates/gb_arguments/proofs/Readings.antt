-- A typed module, read in two ways that keep a relation over modules that are related, gives related procedures for related arguments.
use Rattle.std.proofs.Common.{◌≡◌, Bool, true, false, List, [], ◌∷◌, ◌++◌, map, Option, Some, None, if◌then◌else◌, bytes_eq, refl, ap, sym, ◌∙◌, subst}
use Rattle.std.proofs.lemmas.List.{append_assoc}
use Rattle.std.proofs.lemmas.Option.{none-some, same_Some}
use Rattle.std.proofs.lemmas.Slice.Eq.{bytes_eq-Decides}
use Rattle.gb_terms.specs.declared.decl.Module.{Module}
use Rattle.gb_terms.specs.declared.decl.Param.{Param}
use Rattle.gb_terms.specs.declared.decl.Proc.{Proc}
use Rattle.gb_meaning.specs.Names.{Name}
use Rattle.gb_meaning.specs.Modules.{Procedures, Functor, Applied, Reading, found, no_module, with_module, argument, with_params, procedure_at, with_procedure, with_procedures, module_read}
use Rattle.gb_meaning.specs.Modules as linked
use Rattle.gb_typing.specs.Context.{Context}
use Rattle.gb_typing.specs.Modules.{ProcedureType, FunctorType, Interface, Modules, functor_type, of_functor_type, without_lacks, with_interface}
use Rattle.gb_typing.specs.Programs.{IsProcedure, type_of_procedure}
use Rattle.gb_typing.specs.Scopes.{interface_with, procedure_types, in_module, AreProcedures}
use Rattle.gb_typing.specs.Scopes as scopes
use Rattle.gb_arguments.specs.Reading.{AreInModule, KeepAlike}
use Rattle.gb_arguments.specs.Related.{IsNarrow, Agree, AreAgreeing, IsAlike, AreAlike, StandAlike, AreAllAlike}
use Rattle.gb_arguments.proofs.Expressions.{procedure_alike}

abbrev interface_or : Interface → Option Interface → Interface
interface_or i None = i
interface_or i (Some j) = j

module _ {X Y : Type 0} (R : ProcedureType → Option X → Option Y → Type 0) (narrow : IsNarrow R) where
  -- a further module of an interface
  pub with_alike : (ms : Modules) (ks : linked.Modules X) (ls : linked.Modules Y) → AreAllAlike R ms ks ls → (n : Name) (i : Interface) (a : Applied X) (b : Applied Y) →
      StandAlike R i a b → AreAllAlike R (with_interface ms n (Some i)) (with_module ks n a) (with_module ls n b)
  with_alike ms ks ls s n i a b w k j = step (bytes_eq k n)
    where
      step : (z : Bool) → (if z then Some i else ms.interfaces k) ≡ Some j → StandAlike R j (if z then a else ks k) (if z then b else ls k)
      step true e = subst (λ j. StandAlike R j a b) (ap (interface_or i) e) w
      step false e = s k j e

  -- a name gains an interface at which what stands there is related
  pub named_alike : (ms : Modules) (ks : linked.Modules X) (ls : linked.Modules Y) → AreAllAlike R ms ks ls → (n : Name) (i : Interface) → StandAlike R i (ks n) (ls n) →
      AreAllAlike R (with_interface ms n (Some i)) ks ls
  named_alike ms ks ls s n i w k j = step (bytes_eq k n) refl
    where
      step : (b : Bool) → bytes_eq k n ≡ b → (if b then Some i else ms.interfaces k) ≡ Some j → StandAlike R j (ks k) (ls k)
      step true e h = subst (λ j. StandAlike R j (ks k) (ls k)) (ap (interface_or i) h) (subst (λ z. StandAlike R i (ks z) (ls z)) (sym ((bytes_eq-Decides k n).0 e)) w)
      step false e h = s k j h

  pub given_each : (ts : List (Procedures ProcedureType)) (fs : List (Functor X)) (gs : List (Functor Y)) → AreAlike R (map without_lacks ts) fs gs →
      AreAgreeing R ts (map (λ a. a []) fs) (map (λ a. a []) gs)
  given_each [] [] [] w = tt
  given_each [] [] (g ∷ gs) w = absurd w
  given_each [] (f ∷ fs) gs w = absurd w
  given_each (t ∷ ts) [] gs w = absurd w
  given_each (t ∷ ts) (f ∷ fs) [] w = absurd w
  given_each (t ∷ ts) (f ∷ fs) (g ∷ gs) w = (w.0 [] [] tt, given_each ts fs gs w.1)

  argument_alike : (t : FunctorType) (f : Functor X) (g : Functor Y) → IsAlike R t f g → StandAlike R (of_functor_type t) (argument f) (argument g)
  argument_alike t f g w fs gs h = w (map (λ a. a []) fs) (map (λ a. a []) gs) (given_each t.lacks fs gs h)

  params_alike : (ms : Modules) (ks : linked.Modules X) (ls : linked.Modules Y) → AreAllAlike R ms ks ls → (ps : List Param) (fs : List (Functor X)) (gs : List (Functor Y)) →
      AreAlike R (map (λ p. functor_type ms.types (ms.types p.ty)) ps) fs gs → AreAllAlike R (scopes.with_params ms ps) (with_params ks ps fs) (with_params ls ps gs)
  params_alike ms ks ls s [] [] [] w = s
  params_alike ms ks ls s [] [] (g ∷ gs) w = absurd w
  params_alike ms ks ls s [] (f ∷ fs) gs w = absurd w
  params_alike ms ks ls s (p ∷ ps) [] gs w = absurd w
  params_alike ms ks ls s (p ∷ ps) (f ∷ fs) [] w = absurd w
  params_alike ms ks ls s (p ∷ ps) (f ∷ fs) (g ∷ gs) w =
      with_alike (scopes.with_params ms ps) (with_params ks ps fs) (with_params ls ps gs) (params_alike ms ks ls s ps fs gs w.1) p.name
      (of_functor_type (functor_type ms.types (ms.types p.ty))) (argument f) (argument g) (argument_alike (functor_type ms.types (ms.types p.ty)) f g w.0)

  -- Procedures of these names and types in order, which are related.
  abbrev pub AreListed : Procedures ProcedureType → Procedures X → Procedures Y → Type 0
  AreListed [] [] [] = Unit {0}
  AreListed (t ∷ ts) (x ∷ xs) (y ∷ ys) = (t.0 ≡ x.0) × (t.0 ≡ y.0) × R t.1 (Some x.1) (Some y.1) × AreListed ts xs ys
  AreListed _ _ _ = ⊥

  listed_agree : (ts : Procedures ProcedureType) (xs : Procedures X) (ys : Procedures Y) → AreListed ts xs ys → Agree R ts xs ys
  listed_agree [] [] [] w n t e = absurd (none-some t e)
  listed_agree [] [] (y ∷ ys) w n t e = absurd w
  listed_agree [] (x ∷ xs) ys w n t e = absurd w
  listed_agree (t ∷ ts) [] ys w n u e = absurd w
  listed_agree (t ∷ ts) (x ∷ xs) [] w n u e = absurd w
  listed_agree (t ∷ ts) (x ∷ xs) (y ∷ ys) w n u e =
      subst (λ z. R u (if bytes_eq n z then Some x.1 else found xs n) (if bytes_eq n y.0 then Some y.1 else found ys n)) w.0
      (subst (λ z. R u (if bytes_eq n t.0 then Some x.1 else found xs n) (if bytes_eq n z then Some y.1 else found ys n)) w.1
      (step (bytes_eq n t.0) (listed_agree ts xs ys w.3 n u) e))
    where
      step : (b : Bool) → (found ts n ≡ Some u → R u (found xs n) (found ys n)) → (if b then Some t.1 else found ts n) ≡ Some u →
          R u (if b then Some x.1 else found xs n) (if b then Some y.1 else found ys n)
      step true rest e = subst (λ z. R z (Some x.1) (Some y.1)) (same_Some t.1 u e) w.2
      step false rest e = rest e

  listed_more : (ts : Procedures ProcedureType) (xs : Procedures X) (ys : Procedures Y) → AreListed ts xs ys → (n : Name) (t : ProcedureType) (x : X) (y : Y) → R t (Some x) (Some y) →
      AreListed (ts ++ (n, t) ∷ []) (xs ++ (n, x) ∷ []) (ys ++ (n, y) ∷ [])
  listed_more [] [] [] w n t x y r = (refl, refl, r, tt)
  listed_more [] [] (b ∷ ys) w n t x y r = absurd w
  listed_more [] (a ∷ xs) ys w n t x y r = absurd w
  listed_more (s ∷ ts) [] ys w n t x y r = absurd w
  listed_more (s ∷ ts) (a ∷ xs) [] w n t x y r = absurd w
  listed_more (s ∷ ts) (a ∷ xs) (b ∷ ys) w n t x y r = (w.0, w.1, w.2, listed_more ts xs ys w.3 n t x y r)

  module _ (K : Context → Proc → Type 0) (read : Reading X) (look : Reading Y) (keep : KeepAlike R K read look)
      (c : Context) (m : Module) (ks : linked.Modules X) (ls : linked.Modules Y) (stand : AreAllAlike R c.modules ks ls) where
    abbrev lacks : List FunctorType
    lacks = map (λ p. functor_type c.modules.types (c.modules.types p.ty)) m.params

    abbrev Earlier : Procedures ProcedureType → Applied X → Applied Y → Type 0
    Earlier ts a b = (fs : List (Functor X)) (gs : List (Functor Y)) → AreAlike R lacks fs gs → AreListed ts (a fs) (b gs)

    one_alike : (ts : Procedures ProcedureType) (a : Applied X) (b : Applied Y) → Earlier ts a b → (p : Proc) → K (in_module c m ts) p → IsProcedure (in_module c m ts) p →
        (fs : List (Functor X)) (gs : List (Functor Y)) → AreAlike R lacks fs gs →
        R (type_of_procedure p) (Some (read (procedure_at (with_params (with_module ks m.name a) m.params fs)) p))
        (Some (look (procedure_at (with_params (with_module ls m.name b) m.params gs)) p))
    one_alike ts a b e p kind w fs gs k =
        keep (in_module c m ts) p kind w (procedure_at us) (procedure_at vs) (procedure_alike R narrow (in_module c m ts).modules us vs all)
      where
        us : linked.Modules X
        us = with_params (with_module ks m.name a) m.params fs

        vs : linked.Modules Y
        vs = with_params (with_module ls m.name b) m.params gs

        all : AreAllAlike R (in_module c m ts).modules us vs
        all =
            params_alike (with_interface c.modules m.name (Some (interface_with c.modules.types m.params ts))) (with_module ks m.name a) (with_module ls m.name b)
            (with_alike c.modules ks ls stand m.name (interface_with c.modules.types m.params ts) a b (λ xs ys z. listed_agree ts (a xs) (b ys) (e xs ys z))) m.params fs gs k

    each_alike : (ts : Procedures ProcedureType) (a : Applied X) (b : Applied Y) → Earlier ts a b → (ps : List Proc) → AreInModule K c m ps → AreProcedures c m ts ps →
        (us : Procedures ProcedureType) → ts ++ procedure_types ps ≡ us → Earlier us (with_procedures read ks m a ps) (with_procedures look ls m b ps)
    each_alike ts a b e [] inside w us h = subst (λ z. Earlier z a b) (sym (append_none ts) ∙ h) e
      where
        append_none : (xs : Procedures ProcedureType) → xs ++ [] ≡ xs
        append_none [] = refl
        append_none (x ∷ xs) = ap (λ z. x ∷ z) (append_none xs)
    each_alike ts a b e (p ∷ ps) inside w us h =
        each_alike (ts ++ (p.name, type_of_procedure p) ∷ []) (with_procedure read ks m a p) (with_procedure look ls m b p)
        (λ fs gs k. listed_more ts (a fs) (b gs) (e fs gs k) p.name (type_of_procedure p) _ _ (one_alike ts a b e p (inside.0 ts) w.1 fs gs k)) ps inside.1 w.2
        us (append_assoc ts ((p.name, type_of_procedure p) ∷ []) (procedure_types ps) ∙ h)

    -- the module gives related procedures
    pub module_stands : AreInModule K c m m.procs → AreProcedures c m [] m.procs → StandAlike R (interface_with c.modules.types m.params (procedure_types m.procs)) (module_read read ks m) (module_read look ls m)
    module_stands inside w fs gs k =
        listed_agree (procedure_types m.procs) (module_read read ks m fs) (module_read look ls m gs)
        (each_alike [] no_module no_module (λ fs gs k. tt) m.procs inside w (procedure_types m.procs) refl fs gs k)
