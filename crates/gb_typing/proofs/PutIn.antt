-- Module expressions in which modules are put for names.
use Rattle.std.proofs.Common.{◌≡◌, List, [], ◌∷◌, ◌++◌, map, refl, ap, sym, ◌∙◌, subst}
use Rattle.gb_terms.specs.declared.module.Mexp.{Mexp, Row_of-Mexp, end_of-Mexp, more_of-Mexp, items-the_row-Mexp, items_hidden-the_row-Mexp-0}
use Rattle.gb_terms.specs.declared.module.Mexp.TheBlock as B
use Rattle.gb_terms.specs.declared.module.Mexp.TheVariants.{Name as named, Apply, Apply'}
use Rattle.gb_meaning.specs.Names.{Name}
use Rattle.gb_typing.specs.Modules.{Modules, given, interface_at, interfaces_at}
use Rattle.gb_terms.specs.Rows.{mexps_in}
use Rattle.gb_goal.specs.Instances.{name_of, arguments_of, given_more, put_in, put_in_all}
use Rattle.gb_typing.proofs.Served.{ServesIf, AllServe, given_serves, given_none, given_twice, ExtendsIf, serving, given_extends}
use mathlib.Core.Former.{Count}

mexps_row : {n : Count} (r : Row_of-Mexp n) → mexps_in r ≡ items-the_row-Mexp _ r
mexps_row end_of-Mexp = refl
mexps_row (more_of-Mexp m r) = ap (λ z. m ∷ z) (mexps_row r)

-- the arguments of an application to a list of modules
pub arguments_are : (n : Name) (es : List Mexp) → arguments_of (Apply n es) ≡ es
arguments_are n es = mexps_row (B.hidden-the_row-Mexp-0 es) ∙ items_hidden-the_row-Mexp-0 es

module _ (ms : Modules) where
  row_interfaces : {n : Count} (r : Row_of-Mexp n) → interfaces_at ms r ≡ map (interface_at ms) (items-the_row-Mexp _ r)
  row_interfaces end_of-Mexp = refl
  row_interfaces (more_of-Mexp m r) = ap (λ z. interface_at ms m ∷ z) (row_interfaces r)

  list_interfaces : (es : List Mexp) → interfaces_at ms (B.hidden-the_row-Mexp-0 es) ≡ map (interface_at ms) es
  list_interfaces es = row_interfaces (B.hidden-the_row-Mexp-0 es) ∙ ap (map (interface_at ms)) (items_hidden-the_row-Mexp-0 es)

  row_modules : {n : Count} (r : Row_of-Mexp n) → interfaces_at ms r ≡ map (interface_at ms) (mexps_in r)
  row_modules end_of-Mexp = refl
  row_modules (more_of-Mexp m r) = ap (λ z. interface_at ms m ∷ z) (row_modules r)

  -- a module expression is the module that it names, given its arguments
  pub applied_is : (m : Mexp) → interface_at ms m ≡ given (ms.interfaces (name_of m)) (map (interface_at ms) (arguments_of m))
  applied_is (named n) = given_none (ms.interfaces n)
  applied_is (Apply' n k args) = ap (given (ms.interfaces n)) (row_modules args)

  behind_row : {n : Count} (r : Row_of-Mexp n) (es : List Mexp) → map (interface_at ms) (mexps_in r ++ es) ≡ interfaces_at ms r ++ map (interface_at ms) es
  behind_row end_of-Mexp es = refl
  behind_row (more_of-Mexp m r) es = ap (λ z. interface_at ms m ∷ z) (behind_row r es)

  -- a module expression that is given more is the module that is given more
  pub given_more_is : (m : Mexp) (es : List Mexp) → interface_at ms (given_more m es) ≡ given (interface_at ms m) (map (interface_at ms) es)
  given_more_is m [] = given_none (interface_at ms m)
  given_more_is (named n) (e ∷ es) = ap (given (ms.interfaces n)) (list_interfaces (e ∷ es))
  given_more_is (Apply' n k args) (e ∷ es) =
      ap (given (ms.interfaces n)) (list_interfaces (mexps_in args ++ e ∷ es) ∙ behind_row args (e ∷ es))
      ∙ given_twice (ms.interfaces n) (interfaces_at ms args) (map (interface_at ms) (e ∷ es))

-- Where what is put for each name may stand for the module of the name, what is put in a module expression may stand for it.
module _ (d c : Modules) (f : Name → Mexp) (h : (n : Name) → ServesIf (d.interfaces n) (interface_at c (f n))) where
  mutual
    pub put_in_serves : (m : Mexp) → ServesIf (interface_at d m) (interface_at c (put_in f m))
    put_in_serves (named n) = h n
    put_in_serves (Apply' n k args) =
        subst (ServesIf (given (d.interfaces n) (interfaces_at d args))) (sym (given_more_is c (f n) (put_in_all f args)))
        (given_serves (d.interfaces n) (interface_at c (f n)) (h n) (interfaces_at d args) (map (interface_at c) (put_in_all f args)) (all_serve args))

    all_serve : {n : Count} (args : Row_of-Mexp n) → AllServe (interfaces_at d args) (map (interface_at c) (put_in_all f args))
    all_serve end_of-Mexp = tt
    all_serve (more_of-Mexp m r) = (put_in_serves m, all_serve r)

-- Where each name stands for a module that has the same procedures at least, each module expression does.
module _ (d c : Modules) (h : (n : Name) → ExtendsIf (d.interfaces n) (c.interfaces n)) where
  mutual
    pub extends_at : (m : Mexp) → ExtendsIf (interface_at d m) (interface_at c m)
    extends_at (named n) = h n
    extends_at (Apply' n k args) = given_extends (d.interfaces n) (c.interfaces n) (h n) (interfaces_at d args) (interfaces_at c args) (all_extend args)

    all_extend : {n : Count} (args : Row_of-Mexp n) → AllServe (interfaces_at d args) (interfaces_at c args)
    all_extend end_of-Mexp = tt
    all_extend (more_of-Mexp m r) = (serving (interface_at d m) (interface_at c m) (extends_at m), all_extend r)
