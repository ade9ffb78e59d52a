-- Module expressions in which modules are put for names are related to the expressions, where what is put for each name is related to what
-- the name stands for.
use Rattle.std.proofs.Common.{◌≡◌, Bool, true, false, List, [], ◌∷◌, ◌++◌, map, Option, Some, None, if◌then◌else◌, refl, ap, sym, ◌∙◌, subst}
use Rattle.std.proofs.lemmas.List.{append_assoc}
use Rattle.std.proofs.lemmas.Option.{none-some, same_Some}
use mathlib.Core.Former.{Count}
use Rattle.gb_terms.specs.declared.module.Mexp.{Mexp, Row_of-Mexp, end_of-Mexp, more_of-Mexp, items-the_row-Mexp, items_hidden-the_row-Mexp-0}
use Rattle.gb_terms.specs.declared.module.Mexp.TheBlock as B
use Rattle.gb_terms.specs.declared.module.Mexp.TheVariants.{Name as named, Apply'}
use Rattle.gb_terms.specs.declared.module.ProcRef.{ProcRef}
use Rattle.gb_terms.specs.Rows.{mexps_in}
use Rattle.gb_goal.specs.Instances.{given_more, put_in, put_in_all, put_in_reference}
use Rattle.gb_meaning.specs.Names.{Name}
use Rattle.gb_meaning.specs.Modules.{Procedures, Functor, Applied, Modules, found, closed, module_at, modules_at, procedure_at}
use Rattle.gb_typing.specs.Alike.{applied_at}
use Rattle.gb_typing.specs.Modules.{ProcedureType, FunctorType, Interface, fits, left_over, lacking, given, interface_at, interfaces_at, of_complete, procedure_of, procedure_type}
use Rattle.gb_typing.specs.Modules as typed
use Rattle.gb_typing.proofs.OpenAlike.{open_is}
use Rattle.gb_arguments.specs.Related.{IsNarrow, Agree, IsAlike, AreAlike, StandAlike}
use Rattle.gb_arguments.proofs.Expressions.{AppliedIf, applied_fitting}

module _ {Y : Type 0} (ks : Modules Y) where
  modules_row : {n : Count} (r : Row_of-Mexp n) → modules_at ks r ≡ map (module_at ks) (items-the_row-Mexp _ r)
  modules_row end_of-Mexp = refl
  modules_row (more_of-Mexp m r) = ap (λ z. module_at ks m ∷ z) (modules_row r)

  modules_list : (es : List Mexp) → modules_at ks (B.hidden-the_row-Mexp-0 es) ≡ map (module_at ks) es
  modules_list es = modules_row (B.hidden-the_row-Mexp-0 es) ∙ ap (map (module_at ks)) (items_hidden-the_row-Mexp-0 es)

  joined : {n : Count} (r : Row_of-Mexp n) (us : List Mexp) → map (module_at ks) (mexps_in r ++ us) ≡ modules_at ks r ++ map (module_at ks) us
  joined end_of-Mexp us = refl
  joined (more_of-Mexp m r) us = ap (λ z. module_at ks m ∷ z) (joined r us)

  -- a module expression that is given more
  pub given_more_at : (m : Mexp) (us : List Mexp) (gs : List (Functor Y)) → applied_at ks (given_more m us) gs ≡ applied_at ks m (map (module_at ks) us ++ gs)
  given_more_at (named n) [] gs = refl
  given_more_at (Apply' n k args) [] gs = refl
  given_more_at (named n) (u ∷ us) gs = ap (λ z. ks n (z ++ gs)) (modules_list (u ∷ us))
  given_more_at (Apply' n k args) (u ∷ us) gs =
      ap (λ z. ks n (z ++ gs)) (modules_list (mexps_in args ++ u ∷ us) ∙ joined args (u ∷ us)) ∙ ap (ks n) (append_assoc (modules_at ks args) (map (module_at ks) (u ∷ us)) gs)

module _ {X Y : Type 0} (R : ProcedureType → Option X → Option Y → Type 0) (narrow : IsNarrow R)
    (ms : typed.Modules) (ks : Modules X) (ls : Modules Y) (f : Name → Mexp) (all : (n : Name) (i : Interface) → ms.interfaces n ≡ Some i → StandAlike R i (ks n) (applied_at ls (f n))) where
  named_stand : (n : Name) (o : Option Interface) → ms.interfaces n ≡ o → AppliedIf R narrow o (ks n) (applied_at ls (f n))
  named_stand n None e = tt
  named_stand n (Some i) e = all n i e

  abbrev Left : {n : Count} → Row_of-Mexp n → Type 0
  Left args = (ts us : List FunctorType) → left_over ts (interfaces_at ms args) ≡ Some us → (fs : List (Functor X)) (gs : List (Functor Y)) → AreAlike R us fs gs →
      AreAlike R ts (modules_at ks args ++ fs) (map (module_at ls) (put_in_all f args) ++ gs)

  given_stand : {k : Count} (n : Name) (args : Row_of-Mexp k) (o : Option Interface) → ms.interfaces n ≡ o → Left args →
      AppliedIf R narrow (given o (interfaces_at ms args)) (λ fs. ks n (modules_at ks args ++ fs)) (applied_at ls (given_more (f n) (put_in_all f args)))
  given_stand n args None e left = tt
  given_stand n args (Some i) e left = step (left_over i.lacks (interfaces_at ms args)) refl
    where
      step : (o : Option (List FunctorType)) → left_over i.lacks (interfaces_at ms args) ≡ o →
          AppliedIf R narrow (lacking i o) (λ fs. ks n (modules_at ks args ++ fs)) (applied_at ls (given_more (f n) (put_in_all f args)))
      step None h = tt
      step (Some us) h = λ fs gs w. subst (λ z. Agree R i.procedures (ks n (modules_at ks args ++ fs)) z) (sym (given_more_at ls (f n) (put_in_all f args) gs))
          (all n i e (modules_at ks args ++ fs) (map (module_at ls) (put_in_all f args) ++ gs) (left i.lacks us h fs gs w))

  alike : (m : Mexp) (t : FunctorType) → fits (interface_at ms m) t ≡ true → AppliedIf R narrow (interface_at ms m) (applied_at ks m) (applied_at ls (put_in f m)) →
      IsAlike R t (module_at ks m) (module_at ls (put_in f m))
  alike m t e w =
      subst (λ z. IsAlike R t z (module_at ls (put_in f m))) (sym (open_is ks m))
      (subst (λ z. IsAlike R t (λ rs. applied_at ks m (map closed rs)) z) (sym (open_is ls (put_in f m)))
      (applied_fitting R narrow (interface_at ms m) t (applied_at ks m) (applied_at ls (put_in f m)) e w))

  left_more : {n : Count} (m : Mexp) (r : Row_of-Mexp n) → AppliedIf R narrow (interface_at ms m) (applied_at ks m) (applied_at ls (put_in f m)) → Left r → Left (more_of-Mexp m r)
  left_more m r w rest [] us e fs gs h = absurd (none-some us e)
  left_more m r w rest (t ∷ ts) us e fs gs h = step (fits (interface_at ms m) t) refl e
    where
      step : (b : Bool) → fits (interface_at ms m) t ≡ b → (if b then left_over ts (interfaces_at ms r) else None) ≡ Some us →
          AreAlike R (t ∷ ts) (modules_at ks (more_of-Mexp m r) ++ fs) (map (module_at ls) (put_in_all f (more_of-Mexp m r)) ++ gs)
      step true k e = (alike m t k w, rest ts us e fs gs h)
      step false k e = absurd (none-some us e)

  mutual
    pub open_alike : (m : Mexp) → AppliedIf R narrow (interface_at ms m) (applied_at ks m) (applied_at ls (put_in f m))
    open_alike (named n) = named_stand n (ms.interfaces n) refl
    open_alike (Apply' n k args) = given_stand n args (ms.interfaces n) refl (all_left args)

    all_left : {n : Count} (args : Row_of-Mexp n) → Left args
    all_left end_of-Mexp = λ ts us e fs gs h. subst (λ z. AreAlike R z fs gs) (sym (same_Some ts us e)) h
    all_left (more_of-Mexp m r) = left_more m r (open_alike m) (all_left r)

  whole : (a : Applied X) (b : Applied Y) (ts : List FunctorType) (ps : Procedures ProcedureType) (n : Name) (t : ProcedureType) → of_complete ts ps n ≡ Some t →
      StandAlike R (record { lacks = ts; procedures = ps }) a b → R t (found (a []) n) (found (b []) n)
  whole a b [] ps n t e w = w [] [] tt n t e
  whole a b (k ∷ ks) ps n t e w = absurd (none-some t e)

  whole_if : (a : Applied X) (b : Applied Y) (o : Option Interface) (n : Name) (t : ProcedureType) → procedure_of o n ≡ Some t → AppliedIf R narrow o a b →
      R t (found (a []) n) (found (b []) n)
  whole_if a b None n t e w = absurd (none-some t e)
  whole_if a b (Some i) n t e w = whole a b i.lacks i.procedures n t e w

  -- each procedure that has a type is related to the one of the modules that are put
  pub procedure_put : (r : ProcRef) (t : ProcedureType) → procedure_type ms r ≡ Some t → R t (procedure_at ks r) (procedure_at ls (put_in_reference f r))
  procedure_put r t e =
      subst (λ (z : Functor X). R t (found (z []) r.name) (procedure_at ls (put_in_reference f r))) (sym (open_is ks r.«module»))
      (subst (λ (z : Functor Y). R t (found (applied_at ks r.«module» []) r.name) (found (z []) r.name)) (sym (open_is ls (put_in f r.«module»)))
      (whole_if (applied_at ks r.«module») (applied_at ls (put_in f r.«module»)) (interface_at ms r.«module») r.name t e (open_alike r.«module»)))
