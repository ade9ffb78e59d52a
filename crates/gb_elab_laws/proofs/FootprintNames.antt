-- The names in module expressions in which modules are put for names.
use Rattle.std.proofs.Common.{◌≡◌, Bool, true, false, if◌then◌else◌, List, [], ◌∷◌, ◌++◌, Some, None, bytes_eq, refl, sym, subst}
use Rattle.std.proofs.lemmas.Bool.{and_parts, false≢true}
use Rattle.gb_terms.specs.declared.decl.Param.{Param}
use Rattle.gb_terms.specs.declared.module.Mexp.{Mexp, Row_of-Mexp, end_of-Mexp, more_of-Mexp, items-the_row-Mexp, items_hidden-the_row-Mexp-0}
use Rattle.gb_terms.specs.declared.module.Mexp.TheBlock as B
use Rattle.gb_terms.specs.declared.module.Mexp.TheVariants.{Name as named, Apply'}
use Rattle.gb_terms.specs.Rows.{mexps_in}
use Rattle.gb_goal.specs.Instances.{arguments_of, given_more, name_of, put_in, put_in_all, stands_for}
use Rattle.gb_goal.specs.Interfaces.{fits, interface_at, suits}
use Rattle.gb_goal.specs.Scope.{Declarations, module_type_of}
use Rattle.gb_meaning.specs.Names.{Name}
use Rattle.gb_meaning.specs.Naming.{EachName, EachNameIn}
use Rattle.gb_typing.specs.Formulas.{IsKnown}
use Rattle.gb_typing.specs.Modules.{Modules, functor_type, of_functor_type}
use Rattle.gb_typing.specs.Scopes.{with_params}
use mathlib.Core.Former.{Count}

module _ (P : Name → Type 0) where
  -- each name in each of these module expressions
  abbrev pub EachIn : List Mexp → Type 0
  EachIn [] = Unit {0}
  EachIn (m ∷ ms) = EachName P m × EachIn ms

  both_in : (ms ns : List Mexp) → EachIn ms → EachIn ns → EachIn (ms ++ ns)
  both_in [] ns h k = k
  both_in (m ∷ ms) ns h k = (h.0, both_in ms ns h.1 k)

  in_row : {n : Count} (r : Row_of-Mexp n) → EachIn (items-the_row-Mexp _ r) → EachNameIn P r
  in_row end_of-Mexp h = tt
  in_row (more_of-Mexp m r) h = (h.0, in_row r h.1)

  in_hidden : (ms : List Mexp) → EachIn ms → EachNameIn P (B.hidden-the_row-Mexp-0 ms)
  in_hidden ms h = in_row (B.hidden-the_row-Mexp-0 ms) (subst EachIn (sym (items_hidden-the_row-Mexp-0 ms)) h)

  in_list : {n : Count} (r : Row_of-Mexp n) → EachNameIn P r → EachIn (mexps_in r)
  in_list end_of-Mexp h = tt
  in_list (more_of-Mexp m r) h = (h.0, in_list r h.1)

  -- the name of the module that is applied
  pub of_name : (m : Mexp) → EachName P m → P (name_of m)
  of_name (named n) h = h
  of_name (Apply' n k args) h = h.0

  -- .. and those of its arguments
  pub of_arguments : (m : Mexp) → EachName P m → EachIn (arguments_of m)
  of_arguments (named n) h = tt
  of_arguments (Apply' n k args) h = in_list args h.1

  given_names : (m : Mexp) (es : List Mexp) → EachName P m → EachIn es → EachName P (given_more m es)
  given_names m [] h k = h
  given_names m (e ∷ es) h k = (of_name m h, in_hidden (arguments_of m ++ e ∷ es) (both_in (arguments_of m) (e ∷ es) (of_arguments m h) k))

  module _ (f : Name → Mexp) where
    mutual
      -- where modules are put for names, there are the names of these modules
      pub put_names : (m : Mexp) → EachName (λ n. EachName P (f n)) m → EachName P (put_in f m)
      put_names (named n) h = h
      put_names (Apply' n k args) h = given_names (f n) (put_in_all f args) h.0 (put_all args h.1)

      put_all : {n : Count} (r : Row_of-Mexp n) → EachNameIn (λ n. EachName P (f n)) r → EachIn (put_in_all f r)
      put_all end_of-Mexp h = tt
      put_all (more_of-Mexp m r) h = (put_names m h.0, put_all r h.1)

-- What is so of each name where another thing is.
module _ (P Q : Name → Type 0) (step : (n : Name) → P n → Q n) where
  mutual
    pub each_map : (m : Mexp) → EachName P m → EachName Q m
    each_map (named n) h = step n h
    each_map (Apply' n j args) h = (step n h.0, each_map_in args h.1)

    pub each_map_in : {n : Count} (r : Row_of-Mexp n) → EachNameIn P r → EachNameIn Q r
    each_map_in end_of-Mexp h = tt
    each_map_in (more_of-Mexp m r) h = (each_map m h.0, each_map_in r h.1)

-- .. where two other things are
module _ (P Q R : Name → Type 0) (step : (n : Name) → P n → Q n → R n) where
  mutual
    pub each_by : (m : Mexp) → EachName P m → EachName Q m → EachName R m
    each_by (named n) h k = step n h k
    each_by (Apply' n j args) h k = (step n h.0 k.0, each_in_by args h.1 k.1)

    each_in_by : {n : Count} (r : Row_of-Mexp n) → EachNameIn P r → EachNameIn Q r → EachNameIn R r
    each_in_by end_of-Mexp h k = tt
    each_in_by (more_of-Mexp m r) h k = (each_by m h.0 k.0, each_in_by r h.1 k.1)

-- the name is that of none of these parameters
abbrev pub IsOfNone : List Param → Name → Type 0
IsOfNone [] n = Unit {0}
IsOfNone (p ∷ ps) n = (bytes_eq n p.name ≡ false) × IsOfNone ps n

-- Where modules with names in P are given for parameters, a name that is known with these stands for a module with names in P, if it is in
-- P where it is no parameter's.
module _ (ds : Declarations) (ms : Modules) (P : Name → Type 0) where
  pub stand_names : (ps : List Param) (es : List Mexp) → suits ds ps es ≡ true → EachIn P es → (n : Name) → IsKnown ((with_params ms ps).interfaces n) →
      (IsOfNone ps n → IsKnown (ms.interfaces n) → P n) → EachName P (stands_for ps es n)
  stand_names [] es w h n k other = other tt k
  stand_names (p ∷ ps) [] w h n k other = absurd (false≢true w)
  stand_names (p ∷ ps) (e ∷ es) w h n k other =
      let x = and_parts (fits ds (interface_at ds None e) (module_type_of ds p.ty)) (suits ds ps es) w in
      step (bytes_eq n p.name) refl k (λ k other. stand_names ps es x.1 h.1 n k other)
    where
      step : (b : Bool) → bytes_eq n p.name ≡ b → IsKnown (if b then Some (of_functor_type (functor_type ms.types (ms.types p.ty))) else (with_params ms ps).interfaces n) →
          (IsKnown ((with_params ms ps).interfaces n) → (IsOfNone ps n → IsKnown (ms.interfaces n) → P n) → EachName P (stands_for ps es n)) → EachName P (if b then e else stands_for ps es n)
      step true q k go = h.0
      step false q k go = go k (λ f z. other (q, f) z)
