-- Module expressions are alike where the modules that they name are, whatever stands for the names in one of them.
use Rattle.std.proofs.Common.{◌≡◌, Bool, true, false, List, [], ◌∷◌, ◌++◌, map, Option, Some, None, if◌then◌else◌, refl, ap, sym, ◌∙◌, subst}
use Rattle.std.proofs.lemmas.List.{append_assoc}
use Rattle.gb_terms.specs.declared.module.Mexp.{Mexp, Row_of-Mexp, end_of-Mexp, more_of-Mexp, items-the_row-Mexp, items_hidden-the_row-Mexp-0}
use Rattle.gb_terms.specs.declared.module.Mexp.TheBlock as B
use Rattle.gb_terms.specs.declared.module.Mexp.TheVariants.{Name as named, Apply, Apply'}
use Rattle.gb_terms.specs.declared.module.ProcRef.{ProcRef}
use Rattle.gb_meaning.specs.Names.{Name}
use Rattle.gb_meaning.specs.Modules.{Procedures, Functor, Applied, Modules, found, closed, module_at, modules_at, procedure_at}
use Rattle.gb_typing.specs.Modules.{ProcedureType, FunctorType, Interface, fits, left_over, lacking, given, interface_at, interfaces_at, of_complete, procedure_of, procedure_type}
use Rattle.gb_typing.specs.Modules as typed
use Rattle.gb_typing.proofs.ExpressionsAlike.{AppliedIf, applied_fitting}
use Rattle.gb_typing.proofs.Scripts.{none_some, same_some}
use Rattle.gb_terms.specs.Rows.{mexps_in}
use Rattle.gb_goal.specs.Instances.{arguments_of, given_more, put_in, put_in_all, put_in_reference}
use Rattle.gb_typing.specs.Alike.{Agree, IsAlike, AreAlike, StandAlike, applied_at}
use mathlib.Core.Former.{Count}

-- The arguments of a module that is applied to a list are this list.

mexps_row : {n : Count} (r : Row_of-Mexp n) → mexps_in r ≡ items-the_row-Mexp _ r
mexps_row end_of-Mexp = refl
mexps_row (more_of-Mexp m r) = ap (λ z. m ∷ z) (mexps_row r)

pub arguments_listed : (n : Name) (es : List Mexp) → arguments_of (Apply n es) ≡ es
arguments_listed n es = mexps_row (B.hidden-the_row-Mexp-0 es) ∙ items_hidden-the_row-Mexp-0 es

module _ {X : Type 0} where
  -- Module expressions that are given modules in place of all that they lack.

  module _ (ks : Modules X) where
    pub open_is : (m : Mexp) → module_at ks m ≡ (λ rs. applied_at ks m (map closed rs))
    open_is (named n) = refl
    open_is (Apply' n k args) = refl

    modules_row : {n : Count} (r : Row_of-Mexp n) → modules_at ks r ≡ map (module_at ks) (items-the_row-Mexp _ r)
    modules_row end_of-Mexp = refl
    modules_row (more_of-Mexp m r) = ap (λ z. module_at ks m ∷ z) (modules_row r)

    modules_list : (es : List Mexp) → modules_at ks (B.hidden-the_row-Mexp-0 es) ≡ map (module_at ks) es
    modules_list es = modules_row (B.hidden-the_row-Mexp-0 es) ∙ ap (map (module_at ks)) (items_hidden-the_row-Mexp-0 es)

    pub modules_in : {n : Count} (r : Row_of-Mexp n) → modules_at ks r ≡ map (module_at ks) (mexps_in r)
    modules_in end_of-Mexp = refl
    modules_in (more_of-Mexp m r) = ap (λ z. module_at ks m ∷ z) (modules_in r)

    joined : {n : Count} (r : Row_of-Mexp n) (us : List Mexp) → map (module_at ks) (mexps_in r ++ us) ≡ modules_at ks r ++ map (module_at ks) us
    joined end_of-Mexp us = refl
    joined (more_of-Mexp m r) us = ap (λ z. module_at ks m ∷ z) (joined r us)

    given_more_at : (m : Mexp) (us : List Mexp) (gs : List (Functor X)) → applied_at ks (given_more m us) gs ≡ applied_at ks m (map (module_at ks) us ++ gs)
    given_more_at (named n) [] gs = refl
    given_more_at (Apply' n k args) [] gs = refl
    given_more_at (named n) (u ∷ us) gs = ap (λ z. ks n (z ++ gs)) (modules_list (u ∷ us))
    given_more_at (Apply' n k args) (u ∷ us) gs =
        ap (λ z. ks n (z ++ gs)) (modules_list (mexps_in args ++ u ∷ us) ∙ joined args (u ∷ us)) ∙ ap (ks n) (append_assoc (modules_at ks args) (map (module_at ks) (u ∷ us)) gs)

    mutual
      pub put_named : (m : Mexp) (gs : List (Functor X)) → applied_at ks (put_in named m) gs ≡ applied_at ks m gs
      put_named (named n) gs = refl
      put_named (Apply' n k args) gs = given_more_at (named n) (put_in_all named args) gs ∙ ap (λ z. ks n (z ++ gs)) (put_all_named args)

      put_all_named : {n : Count} (r : Row_of-Mexp n) → map (module_at ks) (put_in_all named r) ≡ modules_at ks r
      put_all_named end_of-Mexp = refl
      put_all_named (more_of-Mexp m r) =
          λ i. (open_is (put_in named m) ∙ (λ j rs. put_named m (map closed rs) j) ∙ sym (open_is m)) i ∷ put_all_named r i

  -- What modules of these interfaces are where the names are those of ks, and where what stands for them is an expression over ls.
  module _ (ms : typed.Modules) (ks ls : Modules X) (f : Name → Mexp) (all : (n : Name) (i : Interface) → ms.interfaces n ≡ Some i → StandAlike i (ks n) (applied_at ls (f n))) where
    named_stand : (n : Name) (o : Option Interface) → ms.interfaces n ≡ o → AppliedIf o (ks n) (applied_at ls (f n))
    named_stand n None e = tt
    named_stand n (Some i) e = all n i e

    abbrev Left : {n : Count} → Row_of-Mexp n → Type 0
    Left args = (ts us : List FunctorType) → left_over ts (interfaces_at ms args) ≡ Some us → (fs gs : List (Functor X)) → AreAlike us fs gs →
        AreAlike ts (modules_at ks args ++ fs) (map (module_at ls) (put_in_all f args) ++ gs)

    given_stand : {k : Count} (n : Name) (args : Row_of-Mexp k) (o : Option Interface) → ms.interfaces n ≡ o → Left args →
        AppliedIf (given o (interfaces_at ms args)) (λ fs. ks n (modules_at ks args ++ fs)) (applied_at ls (given_more (f n) (put_in_all f args)))
    given_stand n args None e left = tt
    given_stand n args (Some i) e left = step (left_over i.lacks (interfaces_at ms args)) refl
      where
        step : (o : Option (List FunctorType)) → left_over i.lacks (interfaces_at ms args) ≡ o →
            AppliedIf (lacking i o) (λ fs. ks n (modules_at ks args ++ fs)) (applied_at ls (given_more (f n) (put_in_all f args)))
        step None h = tt
        step (Some us) h = λ fs gs w. subst (λ z. Agree i.procedures (ks n (modules_at ks args ++ fs)) z) (sym (given_more_at ls (f n) (put_in_all f args) gs))
            (all n i e (modules_at ks args ++ fs) (map (module_at ls) (put_in_all f args) ++ gs) (left i.lacks us h fs gs w))

    alike : (m : Mexp) (t : FunctorType) → fits (interface_at ms m) t ≡ true → AppliedIf (interface_at ms m) (applied_at ks m) (applied_at ls (put_in f m)) →
        IsAlike t (module_at ks m) (module_at ls (put_in f m))
    alike m t e w =
        subst (λ z. IsAlike t z (module_at ls (put_in f m))) (sym (open_is ks m))
        (subst (λ z. IsAlike t (λ rs. applied_at ks m (map closed rs)) z) (sym (open_is ls (put_in f m)))
        (applied_fitting (interface_at ms m) t (applied_at ks m) (applied_at ls (put_in f m)) e w))

    left_none : (ts us : List FunctorType) (fs gs : List (Functor X)) → Some ts ≡ Some us → AreAlike us fs gs → AreAlike ts fs gs
    left_none ts us fs gs e w = subst (λ z. AreAlike z fs gs) (sym (same_some ts us e)) w

    left_more : {n : Count} (m : Mexp) (r : Row_of-Mexp n) → AppliedIf (interface_at ms m) (applied_at ks m) (applied_at ls (put_in f m)) → Left r → Left (more_of-Mexp m r)
    left_more m r w rest [] us e fs gs h = none_some us e
    left_more m r w rest (t ∷ ts) us e fs gs h = step (fits (interface_at ms m) t) refl e
      where
        step : (b : Bool) → fits (interface_at ms m) t ≡ b → (if b then left_over ts (interfaces_at ms r) else None) ≡ Some us →
            AreAlike (t ∷ ts) (modules_at ks (more_of-Mexp m r) ++ fs) (map (module_at ls) (put_in_all f (more_of-Mexp m r)) ++ gs)
        step true k e = (alike m t k w, rest ts us e fs gs h)
        step false k e = none_some us e

    mutual
      pub open_alike : (m : Mexp) → AppliedIf (interface_at ms m) (applied_at ks m) (applied_at ls (put_in f m))
      open_alike (named n) = named_stand n (ms.interfaces n) refl
      open_alike (Apply' n k args) = given_stand n args (ms.interfaces n) refl (all_left args)

      all_left : {n : Count} (args : Row_of-Mexp n) → Left args
      all_left end_of-Mexp = λ ts us e fs gs h. left_none ts us fs gs e h
      all_left (more_of-Mexp m r) = left_more m r (open_alike m) (all_left r)

    whole : (a b : Applied X) (ts : List FunctorType) (ps : Procedures ProcedureType) (n : Name) (t : ProcedureType) → of_complete ts ps n ≡ Some t →
        StandAlike (record { lacks = ts; procedures = ps }) a b → found (a []) n ≡ found (b []) n
    whole a b [] ps n t e w = w [] [] tt n t e
    whole a b (k ∷ ks) ps n t e w = none_some t e

    whole_if : (a b : Applied X) (o : Option Interface) (n : Name) (t : ProcedureType) → procedure_of o n ≡ Some t → AppliedIf o a b → found (a []) n ≡ found (b []) n
    whole_if a b None n t e w = none_some t e
    whole_if a b (Some i) n t e w = whole a b i.lacks i.procedures n t e w

    -- each procedure that has a type is the same
    pub procedure_alike : (r : ProcRef) (t : ProcedureType) → procedure_type ms r ≡ Some t → procedure_at ks r ≡ procedure_at ls (put_in_reference f r)
    procedure_alike r t e =
        ap (λ (z : Functor X). found (z []) r.name) (open_is ks r.«module»)
        ∙ whole_if (applied_at ks r.«module») (applied_at ls (put_in f r.«module»)) (interface_at ms r.«module») r.name t e (open_alike r.«module»)
        ∙ sym (ap (λ (z : Functor X). found (z []) r.name) (open_is ls (put_in f r.«module»)))
