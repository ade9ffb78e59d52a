-- Procedures have the same types where modules are put in for those that are bound.
use Rattle.std.proofs.Common.{◌≡◌, Bool, true, false, List, [], ◌∷◌, ◌++◌, map, Option, Some, None, if◌then◌else◌, bytes_eq, refl, ap, sym, ◌∙◌, subst}
use Rattle.std.proofs.lemmas.Option.{none-some}
use Rattle.std.proofs.lemmas.Slice.Eq.{bytes_eq-Decides}
use mathlib.Core.Former.{Count}
use Rattle.gb_core.specs.declared.value.Value.TheVariants.{Num}
use Rattle.gb_terms.specs.declared.decl.Param.{Param}
use Rattle.gb_terms.specs.declared.module.Bind.{Bind}
use Rattle.gb_terms.specs.declared.module.Mexp.{Mexp, Row_of-Mexp, end_of-Mexp, more_of-Mexp}
use Rattle.gb_terms.specs.declared.module.Mexp.TheVariants.{Name as named, Apply'}
use Rattle.gb_terms.specs.declared.module.ProcRef.{ProcRef}
use Rattle.gb_goal.specs.Instances.{put_in, put_in_all, put_in_reference}
use Rattle.gb_meaning.specs.Names.{Name}
use Rattle.gb_meaning.specs.Declared.{Declarations, ModuleType}
use Rattle.gb_meaning.specs.Setting.Meaning.{finite}
use Rattle.gb_meaning.specs.Settings.{Interpretation, interpreted}
use Rattle.gb_typing.specs.Context.{Context, procedure}
use Rattle.gb_typing.specs.Formulas.{IsKnown, with_module}
use Rattle.gb_typing.specs.Modules.{Interface, Modules, ProcedureType, fits, functor_type, given, interface_at, interfaces_at, of_functor_type, procedure_of, signature_types, signatures_of}
use Rattle.gb_typing.specs.Scopes.{nothing, AreTypedAfter, IsTypedScope, context_of}
use Rattle.gb_typing.specs.Sequents.{AreBinders, with_modules}
use Rattle.gb_typing.proofs.Declaring.{KnowsDeclared, KnowsMore, each_append, knows_each, knows_nothing, more_each, split}
use Rattle.gb_typing.proofs.Interfaces.{IsGrown}
use Rattle.gb_typing.proofs.PutIn.{given_more_is, put_in_serves}
use Rattle.gb_typing.proofs.Served.{AllServe, Extends, ExtendsIf, ServesIf, extending, fits_serves, given_extends, procedure_extends, serving}
use Rattle.gb_typing.proofs.Settings.{AreKnown, agree_at}
use Rattle.gb_typing.proofs.Settings as settings
use Rattle.gb_arguments.specs.Arguments.{AreFit, given_for}
use Rattle.gb_arguments.specs.Led.{AreNamedAs, HasNamed}

-- Where what is put for each name has the procedures of the name at least, so has what is put in a module expression.
module _ (d c : Modules) (f : Name → Mexp) (h : (n : Name) → ExtendsIf (d.interfaces n) (interface_at c (f n))) where
  served : (n : Name) → ServesIf (d.interfaces n) (interface_at c (f n))
  served n = serving (d.interfaces n) (interface_at c (f n)) (h n)

  all_serve : {n : Count} (args : Row_of-Mexp n) → AllServe (interfaces_at d args) (map (interface_at c) (put_in_all f args))
  all_serve end_of-Mexp = tt
  all_serve (more_of-Mexp m r) = (put_in_serves d c f served m, all_serve r)

  put_in_extends : (m : Mexp) → ExtendsIf (interface_at d m) (interface_at c (put_in f m))
  put_in_extends (named n) = h n
  put_in_extends (Apply' n k args) =
      subst (ExtendsIf (given (d.interfaces n) (interfaces_at d args))) (sym (given_more_is c (f n) (put_in_all f args)))
      (given_extends (d.interfaces n) (interface_at c (f n)) (h n) (interfaces_at d args) (map (interface_at c) (put_in_all f args)) (all_serve args))

  pub procedure_stays : (r : ProcRef) (t : ProcedureType) → procedure_of (interface_at d r.«module») r.name ≡ Some t → procedure_of (interface_at c (put_in f r.«module»)) r.name ≡ Some t
  procedure_stays r t e = procedure_extends (interface_at d r.«module») (interface_at c (put_in f r.«module»)) (put_in_extends r.«module») r.name t e

extends_of : (i j : Interface) → IsGrown i j → Extends i j
extends_of i j g =
    subst (λ ts. Extends i (record { lacks = ts; procedures = j.procedures })) (sym g.lacks) (extending i.lacks i.procedures j.procedures (λ n t e. g.procedures n t e))

-- what fits a module type, and has its procedures by their names
of_type : (o : Option Interface) (i : Interface) → ServesIf (Some i) o → HasNamed o i.procedures → ExtendsIf (Some i) o
of_type None i s h = absurd h
of_type (Some j) i s h = record { serves = s; same = h }

module _ (before later : Declarations) (scoped : IsTypedScope (before ++ later)) where
  abbrev all : Declarations
  all = before ++ later

  abbrev first : Context
  first = context_of before

  abbrev ms : Modules
  ms = (context_of all).modules

  parts : AreTypedAfter nothing [] before × AreTypedAfter first before later
  parts = split before later [] nothing scoped

  knows : KnowsDeclared before first
  knows = knows_each before [] nothing parts.0 knows_nothing

  pub more : KnowsMore first (context_of all)
  more = subst (KnowsMore first) (sym (each_append before later nothing)) (more_each later before first parts.1 knows)

  abbrev types : Name → Option ModuleType
  types = first.modules.types

  -- module types mean the same among all
  type_there : (n : Name) → IsKnown (types n) → types n ≡ ms.types n
  type_there n k = step (types n) refl k
    where
      step : (o : Option ModuleType) → types n ≡ o → IsKnown o → types n ≡ ms.types n
      step None e k = absurd k
      step (Some t) e k = e ∙ sym (let m = more.modules in m.types n t e)

  no_types : settings.Agree before (nothing.modules).types
  no_types = record { declared = λ n t e. absurd (none-some t e); params = λ n t e. absurd (none-some t e) }

  -- any interpretation
  any : Interpretation
  any = interpreted [] (λ n. 0) (λ n. record { result = λ xs. finite (Num 0); denominator = 0 }) []

  types_agree : settings.Agree before types
  types_agree = agree_at before any before [] nothing refl parts.0 no_types

  signatures_same : (ps : List Param) → AreKnown types ps → map (λ p. signature_types (signatures_of (types p.ty))) ps ≡ map (λ p. signature_types (signatures_of (ms.types p.ty))) ps
  signatures_same [] k = refl
  signatures_same (p ∷ ps) k = λ z. signature_types (signatures_of (type_there p.ty k.0 z)) ∷ signatures_same ps k.1 z

  -- a module type that is known
  functor_there : (n : Name) → IsKnown (types n) → functor_type types (types n) ≡ functor_type ms.types (ms.types n)
  functor_there n k = step (types n) refl k
    where
      step : (o : Option ModuleType) → types n ≡ o → IsKnown o → functor_type types (types n) ≡ functor_type ms.types (ms.types n)
      step None e k = absurd k
      step (Some t) e k =
          ap (functor_type types) e
          ∙ ap (λ z. record { lacks = z; procedures = signature_types t.signatures }) (signatures_same t.params (let a = types_agree in a.params n t e))
          ∙ ap (functor_type ms.types) (sym (let m = more.modules in m.types n t e))

  abbrev given_under : Bind → Mexp → (Name → Mexp) → Name → Mexp
  given_under b e f n = if bytes_eq n b.name then e else f n

  abbrev given_after : List Bind → List Mexp → (Name → Mexp) → Name → Mexp
  given_after [] es f = f
  given_after (b ∷ bs) [] f = f
  given_after (b ∷ bs) (e ∷ es) f = given_after bs es (given_under b e f)

  abbrev Extending : Context → (Name → Mexp) → Type 0
  Extending c f = (n : Name) → ExtendsIf (c.modules.interfaces n) (interface_at ms (f n))

  first_extends : Extending first named
  first_extends n = step (first.modules.interfaces n) refl
    where
      step : (o : Option Interface) → first.modules.interfaces n ≡ o → ExtendsIf o (ms.interfaces n)
      step None e = tt
      step (Some i) e = let j = (let m = more.modules in m.interfaces n i e) in subst (ExtendsIf (Some i)) (sym j.1) (extends_of i j.0 j.2)

  one_extends : (b : Bind) (e : Mexp) (c : Context) → c.modules.types ≡ types → IsKnown (types b.ty) → fits (interface_at ms e) (functor_type ms.types (ms.types b.ty)) ≡ true →
      HasNamed (interface_at ms e) (signature_types (signatures_of (ms.types b.ty))) → (f : Name → Mexp) → Extending c f → Extending (with_module c b) (given_under b e f)
  one_extends b e c same k w h f x n = step (bytes_eq n b.name)
    where
      its : ExtendsIf (Some (of_functor_type (functor_type ms.types (ms.types b.ty)))) (interface_at ms e)
      its = of_type (interface_at ms e) (of_functor_type (functor_type ms.types (ms.types b.ty))) (fits_serves (interface_at ms e) (functor_type ms.types (ms.types b.ty)) w) h

      here : ExtendsIf (Some (of_functor_type (functor_type c.modules.types (c.modules.types b.ty)))) (interface_at ms e)
      here = subst (λ t. ExtendsIf (Some (of_functor_type t)) (interface_at ms e)) (sym (ap (λ z. functor_type z (z b.ty)) same ∙ functor_there b.ty k)) its

      step : (z : Bool) → ExtendsIf (if z then Some (of_functor_type (functor_type c.modules.types (c.modules.types b.ty))) else c.modules.interfaces n) (interface_at ms (if z then e else f n))
      step true = here
      step false = x n

  all_extend : (bs : List Bind) (es : List Mexp) (c : Context) → c.modules.types ≡ types → AreBinders c bs → AreFit (context_of all) bs es → AreNamedAs (context_of all) bs es →
      (f : Name → Mexp) → Extending c f → Extending (with_modules c bs) (given_after bs es f)
  all_extend [] [] c same w fit h f x = x
  all_extend [] (e ∷ es) c same w fit h f x = absurd fit
  all_extend (b ∷ bs) [] c same w fit h f x = absurd fit
  all_extend (b ∷ bs) (e ∷ es) c same w fit h f x =
      all_extend bs es (with_module c b) same w.1 fit.1 h.1 (given_under b e f)
      (one_extends b e c same (subst (λ y. IsKnown (y b.ty)) same (let z = w.0 in z.known)) fit.0 h.0 f x)

  -- What stands for a name: what is given for the first binder of the name, as no other one has it.

  abbrev stands_or : List Bind → List Mexp → Mexp → Name → Mexp
  stands_or [] es x n = x
  stands_or (b ∷ bs) [] x n = x
  stands_or (b ∷ bs) (e ∷ es) x n = if bytes_eq n b.name then e else stands_or bs es x n

  stands_is : (bs : List Bind) (es : List Mexp) (n : Name) → given_for bs es n ≡ stands_or bs es (named n) n
  stands_is [] es n = refl
  stands_is (b ∷ bs) [] n = refl
  stands_is (b ∷ bs) (e ∷ es) n = ap (λ z. if bytes_eq n b.name then e else z) (stands_is bs es n)

  unbound : (bs : List Bind) (es : List Mexp) (c : Context) → AreBinders c bs → (n : Name) (j : Interface) → c.modules.interfaces n ≡ Some j → (x : Mexp) → stands_or bs es x n ≡ x
  unbound [] es c w n j e x = refl
  unbound (b ∷ bs) [] c w n j e x = refl
  unbound (b ∷ bs) (u ∷ es) c w n j e x = step (bytes_eq n b.name) refl (unbound bs es (with_module c b) w.1 n)
    where
      step : (z : Bool) → bytes_eq n b.name ≡ z → ((k : Interface) → (with_module c b).modules.interfaces n ≡ Some k → (y : Mexp) → stands_or bs es y n ≡ y) →
          (if z then u else stands_or bs es x n) ≡ x
      step true h rest = absurd (none-some j (sym (let y = w.0 in y.free) ∙ ap c.modules.interfaces (sym ((bytes_eq-Decides n b.name).0 h)) ∙ e))
      step false h rest = rest j (ap (λ (z : Bool). if z then Some (of_functor_type (functor_type c.modules.types (c.modules.types b.ty))) else c.modules.interfaces n) h ∙ e) x

  given_is : (bs : List Bind) (es : List Mexp) (c : Context) → AreBinders c bs → (f : Name → Mexp) (n : Name) → given_after bs es f n ≡ stands_or bs es (f n) n
  given_is [] es c w f n = refl
  given_is (b ∷ bs) [] c w f n = refl
  given_is (b ∷ bs) (e ∷ es) c w f n = given_is bs es (with_module c b) w.1 (given_under b e f) n ∙ step (bytes_eq n b.name) refl
    where
      step : (z : Bool) → bytes_eq n b.name ≡ z → stands_or bs es (if z then e else f n) n ≡ (if z then e else stands_or bs es (f n) n)
      step true h =
          unbound bs es (with_module c b) w.1 n (of_functor_type (functor_type c.modules.types (c.modules.types b.ty)))
          (ap (λ (z : Bool). if z then Some (of_functor_type (functor_type c.modules.types (c.modules.types b.ty))) else c.modules.interfaces n) h) e
      step false h = refl

  pub types_put : (bs : List Bind) → AreBinders first bs → (es : List Mexp) → AreFit (context_of all) bs es → AreNamedAs (context_of all) bs es →
      (r : ProcRef) (t : ProcedureType) → procedure (with_modules first bs) r ≡ Some t → procedure (context_of all) (put_in_reference (given_for bs es) r) ≡ Some t
  types_put bs w es fit h r t e =
      procedure_stays (with_modules first bs).modules ms (given_for bs es)
      (λ n. subst (λ m. ExtendsIf ((with_modules first bs).modules.interfaces n) (interface_at ms m)) (given_is bs es first w named n ∙ sym (stands_is bs es n))
      (all_extend bs es first refl w fit h named first_extends n)) r t e
