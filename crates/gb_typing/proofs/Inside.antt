-- Modules that suit a module's parameters stand for them, and so its procedures are typed with them.
use Rattle.std.proofs.Common.{◌≡◌, Bool, true, false, ◌&&◌, List, [], ◌∷◌, map, Option, Some, None, if◌then◌else◌, bytes_eq, refl, ap, sym, ◌∙◌, subst}
use Rattle.std.proofs.lemmas.Bool.{false≢true, and_parts, and_from}
use Rattle.gb_core.specs.declared.ty.Ty.{Ty}
use Rattle.gb_terms.specs.declared.decl.Module.{Module}
use Rattle.gb_terms.specs.declared.decl.Param.{Param}
use Rattle.gb_terms.specs.declared.decl.Proc.{Proc}
use Rattle.gb_terms.specs.declared.module.Mexp.{Mexp}
use Rattle.gb_terms.specs.declared.module.ProcRef.{ProcRef}
use Rattle.gb_meaning.specs.Names.{Name}
use Rattle.gb_meaning.specs.Written.{local_type}
use Rattle.gb_meaning.specs.Modules.{Procedures, found}
use Rattle.gb_typing.specs.Context.{Context, procedure}
use Rattle.gb_typing.specs.Modules.{ProcedureType, FunctorType, Interface, Modules, functor_type, of_functor_type, has_type, fits, left_over, lacking, given, interface_at, procedure_of, with_interface}
use Rattle.gb_typing.specs.Programs.{IsProcedure}
use Rattle.gb_typing.specs.Scopes.{with_params, interface_with, with_globals, in_module}
use Rattle.gb_typing.proofs.Grown.{grown_procedure}
use Rattle.gb_typing.proofs.Scripts.{none_some, same_name}
use Rattle.gb_goal.specs.Instances.{name_of, arguments_of, stands_for, put_in, put_in_reference, instance}
use Rattle.gb_typing.specs.Suits.{suits, lacked, Knows}
use Rattle.gb_typing.proofs.Served.{ServesIf, ExtendsIf, serving, extending, extends_itself, fits_serves, procedure_serves, procedure_extends}
use Rattle.gb_typing.proofs.PutIn.{applied_is, put_in_serves, extends_at}
use Rattle.gb_typing.proofs.Becoming.{became_procedure}

-- The arguments for the parameters, and what is known outside for all other names.
module _ (b c : Modules) (h : (n : Name) → ServesIf (b.interfaces n) (c.interfaces n)) where
  arguments_serve : (ps : List Param) (es : List Mexp) → suits c (lacked b.types ps) es ≡ true → (n : Name) →
      ServesIf ((with_params b ps).interfaces n) (interface_at c (stands_for ps es n))
  arguments_serve [] [] e n = h n
  arguments_serve [] (x ∷ es) e n = absurd (false≢true e)
  arguments_serve (p ∷ ps) [] e n = absurd (false≢true e)
  arguments_serve (p ∷ ps) (x ∷ es) e n =
      let t : FunctorType = functor_type b.types (b.types p.ty) in
      let k = and_parts (fits (interface_at c x) t) (suits c (lacked b.types ps) es) e in
      step (fits_serves (interface_at c x) t k.0) (arguments_serve ps es k.1 n) (bytes_eq n p.name)
    where
      step : ServesIf (Some (of_functor_type (functor_type b.types (b.types p.ty)))) (interface_at c x) → ServesIf ((with_params b ps).interfaces n) (interface_at c (stands_for ps es n)) → (s : Bool) →
          ServesIf (if s then Some (of_functor_type (functor_type b.types (b.types p.ty))) else (with_params b ps).interfaces n) (interface_at c (if s then x else stands_for ps es n))
      step one rest true = one
      step one rest false = rest

module _ (a c : Context) (m : Module) (earlier : Procedures ProcedureType) (w : Knows a m earlier c) where
  abbrev inside : Modules
  inside = with_interface a.modules m.name (Some (interface_with a.modules.types m.params earlier))

  outside_extends : (n : Name) → ExtendsIf (inside.interfaces n) (c.modules.interfaces n)
  outside_extends n = step (bytes_eq n m.name) refl
    where
      own : ExtendsIf (Some (interface_with a.modules.types m.params earlier)) (c.modules.interfaces m.name)
      own = subst (ExtendsIf (Some (interface_with a.modules.types m.params earlier))) (sym w.whole) (extending (lacked a.modules.types m.params) earlier w.procedures w.among)

      other : (o : Option Interface) → a.modules.interfaces n ≡ o → ExtendsIf o (c.modules.interfaces n)
      other None e = tt
      other (Some i) e = subst (ExtendsIf (Some i)) (sym (w.interfaces n i e)) (extends_itself i)

      step : (s : Bool) → bytes_eq n m.name ≡ s → ExtendsIf (if s then Some (interface_with a.modules.types m.params earlier) else a.modules.interfaces n) (c.modules.interfaces n)
      step true e = subst (λ x. ExtendsIf (Some (interface_with a.modules.types m.params earlier)) (c.modules.interfaces x)) (sym (same_name n m.name e)) own
      step false e = other (a.modules.interfaces n) refl

  outside_serves : (n : Name) → ServesIf (inside.interfaces n) (c.modules.interfaces n)
  outside_serves n = serving (inside.interfaces n) (c.modules.interfaces n) (outside_extends n)

  outside_globals : (n x : Name) (t : Ty) → with_globals a.global m.name m.globals n x ≡ Some t → c.global n x ≡ Some t
  outside_globals n x t = step (bytes_eq n m.name) refl
    where
      step : (s : Bool) → bytes_eq n m.name ≡ s → (if s then local_type m.globals x else a.global n x) ≡ Some t → c.global n x ≡ Some t
      step true h e = ap (λ z. c.global z x) (same_name n m.name h) ∙ w.own x t e
      step false h e = w.globals n x t e

  module _ (es : List Mexp) (fit : suits c.modules (lacked a.modules.types m.params) es ≡ true) where
    -- a reference in which the modules are put has the types that it had
    pub same_reference : (r : ProcRef) (t : ProcedureType) → procedure (in_module a m earlier) r ≡ Some t → has_type (procedure c (put_in_reference (stands_for m.params es) r)) t ≡ true
    same_reference r t e =
        procedure_serves (interface_at (with_params inside m.params) r.module) (interface_at c.modules (put_in (stands_for m.params es) r.module))
        (put_in_serves (with_params inside m.params) c.modules (stands_for m.params es) (arguments_serve inside c.modules outside_serves m.params es fit) r.module)
        r.name t e

    pub typed_instance : (p : Proc) → IsProcedure (in_module a m earlier) p → IsProcedure c (instance m.params es p)
    typed_instance p x =
        became_procedure (in_module a m earlier) c (stands_for m.params es) (record { global = outside_globals; operator = w.operators; procedures = same_reference }) p x

  -- a procedure of a module without parameters is typed outside as it is
  pub typed_plain : m.params ≡ [] → (p : Proc) → IsProcedure (in_module a m earlier) p → IsProcedure c p
  typed_plain none p x = grown_procedure (in_module a m earlier) c (record { global = outside_globals; operator = w.operators; procedures = same }) p x
    where
      same : (r : ProcRef) (t : ProcedureType) → procedure (in_module a m earlier) r ≡ Some t → procedure c r ≡ Some t
      same r t e =
          procedure_extends (interface_at inside r.module) (interface_at c.modules r.module) (extends_at inside c.modules outside_extends r.module) r.name t
          (subst (λ ps. procedure_of (interface_at (with_params inside ps) r.module) r.name ≡ Some t) none e)

-- An application lacks nothing where its arguments suit what its module lacks, and only there.
module _ (c : Modules) where
  all_given : (ts : List FunctorType) (es : List Mexp) → suits c ts es ≡ true → left_over ts (map (interface_at c) es) ≡ Some []
  all_given [] [] e = refl
  all_given [] (x ∷ es) e = absurd (false≢true e)
  all_given (t ∷ ts) [] e = absurd (false≢true e)
  all_given (t ∷ ts) (x ∷ es) e =
      let k = and_parts (fits (interface_at c x) t) (suits c ts es) e in
      ap (λ s. if s then left_over ts (map (interface_at c) es) else None) k.0 ∙ all_given ts es k.1

  given_all : (i : Interface) (ts : List FunctorType) (es : List Mexp) (f : Name) (t : ProcedureType) →
      procedure_of (lacking i (left_over ts (map (interface_at c) es))) f ≡ Some t → suits c ts es ≡ true
  given_all i [] [] f t e = refl
  given_all i [] (x ∷ es) f t e = none_some t e
  given_all i (s ∷ ts) [] f t e = none_some t e
  given_all i (s ∷ ts) (x ∷ es) f t e = step (given_all i ts es f t) (fits (interface_at c x) s) refl e
    where
      step : (procedure_of (lacking i (left_over ts (map (interface_at c) es))) f ≡ Some t → suits c ts es ≡ true) → (b : Bool) → fits (interface_at c x) s ≡ b → procedure_of (lacking i (if b then left_over ts (map (interface_at c) es) else None)) f ≡ Some t →
          (fits (interface_at c x) s && suits c ts es) ≡ true
      step rest true h e = and_from (fits (interface_at c x) s) (suits c ts es) h (rest e)
      step rest false h e = none_some t e

  module _ (m : Mexp) (i : Interface) (e : c.interfaces (name_of m) ≡ Some i) (f : Name) where
    given_there : interface_at c m ≡ lacking i (left_over i.lacks (map (interface_at c) (arguments_of m)))
    given_there = applied_is c m ∙ ap (λ o. given o (map (interface_at c) (arguments_of m))) e

    pub applied_procedure : suits c i.lacks (arguments_of m) ≡ true → procedure_of (interface_at c m) f ≡ found i.procedures f
    applied_procedure h = ap (λ o. procedure_of o f) (given_there ∙ ap (lacking i) (all_given i.lacks (arguments_of m) h))

    pub applied_suits : (t : ProcedureType) → procedure_of (interface_at c m) f ≡ Some t → suits c i.lacks (arguments_of m) ≡ true
    applied_suits t h = given_all i i.lacks (arguments_of m) f t (sym (ap (λ o. procedure_of o f) given_there) ∙ h)
