-- Modules that are put in for those that a statement binds: names are names where they are in a form and in the modules.
use Rattle.std.proofs.Common.{◌≡◌, ℕ, true, ◌&&◌, List, [], ◌∷◌, map, Option, Some, None, refl, ap, sym, ◌∙◌, subst}
use Rattle.std.proofs.lemmas.Bool.{false≢true}
use Rattle.std.specs.List.{AllByRecursion, list_all}
use Rattle.gb_core.specs.declared.ty.Ty.{Ty, Row_of-Ty, end_of-Ty, more_of-Ty, out-Ty, roll-Ty, items-the_row-Ty}
use Rattle.gb_core.specs.declared.ty.Ty.TheVariants as ty
use Rattle.gb_core.specs.declared.ty.Ty.TheOpen as layer
use Rattle.gb_core.specs.declared.ty.Ty.TheViews.{out-roll-Ty}
use Rattle.gb_core.specs.declared.ty.Ty.TheFolds.{fold-roll-Ty}
use Rattle.gb_core.specs.declared.value.Value.{Value, out-Value}
use Rattle.gb_core.specs.declared.value.Value.TheOpen as value_layer
use Rattle.gb_core.specs.declared.var.Var.{Var}
use Rattle.gb_core.specs.declared.var.Var.TheVariants.{Global, Local, Glob}
use Rattle.gb_terms.specs.declared.decl.Param.{Param}
use Rattle.gb_terms.specs.declared.decl.TypedName.{TypedName}
use Rattle.gb_terms.specs.declared.module.Mexp.{Mexp}
use Rattle.gb_terms.specs.declared.module.ProcRef.{ProcRef}
use Rattle.gb_terms.specs.declared.op.Op.{Op}
use Rattle.gb_terms.specs.declared.op.Op.TheVariants as op
use Rattle.gb_terms.specs.declared.op.Read.TheVariants.{Logical, Program}
use Rattle.gb_terms.specs.declared.op.Side.{Side}
use Rattle.gb_terms.specs.declared.term.Pair.{Pair}
use Rattle.gb_terms.specs.declared.term.Term.{Term, Term', Row_of-Term, end_of-Term, more_of-Term, end_of-Head, more_of-Head}
use Rattle.gb_terms.specs.declared.term.Head.{Head}
use Rattle.gb_terms.specs.declared.term.Head.TheVariants as head
use Rattle.gb_terms.specs.declared.term.Head.TheVariants.{Proc, Body'}
use Rattle.gb_terms.specs.declared.term.Subject.{Subject}
use Rattle.gb_terms.specs.Rows.{terms_in}
use Rattle.gb_goal.specs.Instances.{stands_for}
use Rattle.gb_goal.specs.Scope.{Declarations}
use Rattle.gb_elab.specs.Globs.{agreements, is_abstract}
use Rattle.gb_instances.specs.Footprint.{footprint_at}
use Rattle.gb_instances.specs.Put.{Equation, agreement_or, all_put, equated, equation_put, head_put, layer_put, name_put, node_put, procedure_put, put, subject_put, type_put, variable_put}
use Rattle.gb_instances.proofs.TypeParts.{distr_put, glob_put, leaf_put, map_put, opt_put, tuple_put}
use Rattle.gb_print_names.specs.declared.bound_names.Enumeration.{Enumeration}
use Rattle.gb_print_names.specs.BoundNames.{Name}
use Rattle.gb_print.specs.Layout.{outcome, outcome_layer}
use Rattle.gb_print.specs.Written.{is_path, is_numeral_here, is_word_here, is_weight_here, are_weights_here, has_word, in_range, is_variable_here, IsWrittenLiteral, IsWrittenProcedure, IsWrittenType, AreWrittenTypes}
use Rattle.gb_print.specs.Written as w
use Rattle.gb_shown.specs.Named.{HasTwo, IsNamedType, AreNamedTypes, IsNamedResult, IsNamedOperator, IsNamedSubject, IsNamedHead, IsNamed, AreNamed, IsNamedVariable}
use Rattle.gb_shown.specs.Scopes.{IsNamedScope}
use Rattle.gb_shown.proofs.Equations.{all_agree, agreements_named}
use Rattle.gb_shown.proofs.Given.{either}
use Rattle.gb_shown.proofs.Instances.{EachWritten, arguments_written, reference_written, stands_written}
use Rattle.gb_shown.proofs.SpeltTrees.{AllNamed, node_named}
use Rattle.gb_shown.proofs.Types.{as_result, distribution_named, map_named, option_named, tuple_named, whole}
use mathlib.Core.Former.{Count}

module _ (f : Name → Name) where
  -- a type with modules put in, by its layer
  abbrev layer_led : layer.Ty-F Ty → layer.Ty-F Ty
  layer_led (layer.Glob a) = layer.Glob (f a)
  layer_led (layer.Tuple ts) = layer.Tuple (map (type_put f) ts)
  layer_led (layer.Opt t) = layer.Opt (type_put f t)
  layer_led (layer.Map k t) = layer.Map (type_put f k) (type_put f t)
  layer_led (layer.Distr t) = layer.Distr (type_put f t)
  layer_led l = l

  rolled : (l : layer.Ty-F Ty) → type_put f (roll-Ty l) ≡ roll-Ty (layer_led l)
  rolled layer.Unit = fold-roll-Ty Ty (layer_put f) layer.Unit ∙ sym ty.rolls-Unit
  rolled layer.Bool = fold-roll-Ty Ty (layer_put f) layer.Bool ∙ sym ty.rolls-Bool
  rolled layer.Int = fold-roll-Ty Ty (layer_put f) layer.Int ∙ sym ty.rolls-Int
  rolled layer.Real = fold-roll-Ty Ty (layer_put f) layer.Real ∙ sym ty.rolls-Real
  rolled (layer.Bits n) = fold-roll-Ty Ty (layer_put f) (layer.Bits n) ∙ sym (ty.rolls-Bits n)
  rolled (layer.Mod n) = fold-roll-Ty Ty (layer_put f) (layer.Mod n) ∙ sym (ty.rolls-Mod n)
  rolled (layer.Enumeration x n) = fold-roll-Ty Ty (layer_put f) (layer.Enumeration x n) ∙ sym (ty.rolls-Enumeration x n)
  rolled (layer.Abstract x) = fold-roll-Ty Ty (layer_put f) (layer.Abstract x) ∙ sym (ty.rolls-Abstract x)
  rolled (layer.Glob m) = fold-roll-Ty Ty (layer_put f) (layer.Glob m) ∙ sym (ty.rolls-Glob (f m))
  rolled (layer.Tuple ts) = fold-roll-Ty Ty (layer_put f) (layer.Tuple ts) ∙ sym (ty.rolls-Tuple (map (type_put f) ts))
  rolled (layer.Opt t) = fold-roll-Ty Ty (layer_put f) (layer.Opt t) ∙ sym (ty.rolls-Opt (type_put f t))
  rolled (layer.Map k t) = fold-roll-Ty Ty (layer_put f) (layer.Map k t) ∙ sym (ty.rolls-Map (type_put f k) (type_put f t))
  rolled (layer.Distr t) = fold-roll-Ty Ty (layer_put f) (layer.Distr t) ∙ sym (ty.rolls-Distr (type_put f t))

  put_is : (t : Ty) (l : layer.Ty-F Ty) → out-Ty t ≡ l → type_put f t ≡ roll-Ty (layer_led l)
  put_is t l e = ap (type_put f) (whole t ∙ ap roll-Ty e) ∙ rolled l

  out_put : (t : Ty) → out-Ty (type_put f t) ≡ layer_led (out-Ty t)
  out_put t = ap out-Ty (put_is t (out-Ty t) refl) ∙ out-roll-Ty (layer_led (out-Ty t))

  -- what a type is of, or what its distributions are over
  outcome_put : (t : Ty) → outcome (type_put f t) ≡ type_put f (outcome t)
  outcome_put t = ap (λ l. outcome_layer l (type_put f t)) (out_put t) ∙ by_layer (out-Ty t)
    where
      by_layer : (l : layer.Ty-F Ty) → outcome_layer (layer_led l) (type_put f t) ≡ type_put f (outcome_layer l t)
      by_layer (layer.Distr u) = refl
      by_layer _ = refl

  -- In a type of forms no globals of a module stand, and it stays.
  made_same : (t : Ty) (l : layer.Ty-F Ty) → out-Ty t ≡ l → layer_led l ≡ l → type_put f t ≡ t
  made_same t l e same = put_is t l e ∙ ap roll-Ty same ∙ sym (whole t ∙ ap roll-Ty e)

  mutual
    type_stays : (t : Ty) → IsWrittenType 0 [] t → type_put f t ≡ t
    type_stays t (w.unit e) = made_same t layer.Unit e refl
    type_stays t (w.bool e) = made_same t layer.Bool e refl
    type_stays t (w.whole e) = made_same t layer.Int e refl
    type_stays t (w.real e) = made_same t layer.Real e refl
    type_stays t (w.bits {n = n} e r) = made_same t (layer.Bits n) e refl
    type_stays t (w.numbers {n = n} e r) = made_same t (layer.Mod n) e refl
    type_stays t (w.enumeration {x = x} {n = n} e r) = made_same t (layer.Enumeration x n) e refl
    type_stays t (w.abstract {x = x} e r) = made_same t (layer.Abstract x) e refl
    type_stays t (w.product {u = u} {v = v} {ts = ts} e r) = made_same t (layer.Tuple (u ∷ v ∷ ts)) e (ap layer.Tuple (types_stay (u ∷ v ∷ ts) r))
    type_stays t (w.option {u = u} e r) = made_same t (layer.Opt u) e (ap layer.Opt (type_stays u r))
    type_stays t (w.maps {u = u} {v = v} e r s) = made_same t (layer.Map u v) e (ap (λ k. layer.Map k (type_put f v)) (type_stays u r) ∙ ap (layer.Map u) (type_stays v s))
    type_stays t (w.globals e n p) = absurd (false≢true n)

    types_stay : (ts : List Ty) → AreWrittenTypes 0 [] ts → map (type_put f) ts ≡ ts
    types_stay [] w.none = refl
    types_stay (t ∷ ts) (w.more h hs) = ap (λ u. u ∷ map (type_put f) ts) (type_stays t h) ∙ ap (λ us. t ∷ us) (types_stay ts hs)

  -- Values and weights of a type.

  numeral_put : (es : List Enumeration) (t : Ty) (n : ℕ) → is_numeral_here es (out-Ty (type_put f t)) n ≡ is_numeral_here es (out-Ty t) n
  numeral_put es t n = ap (λ l. is_numeral_here es l n) (out_put t) ∙ by_layer (out-Ty t)
    where
      by_layer : (l : layer.Ty-F Ty) → is_numeral_here es (layer_led l) n ≡ is_numeral_here es l n
      by_layer layer.Unit = refl
      by_layer layer.Bool = refl
      by_layer (layer.Enumeration x k) = refl
      by_layer _ = refl

  word_put : (es : List Enumeration) (t : Ty) (n : ℕ) → is_word_here es (out-Ty (type_put f t)) n ≡ is_word_here es (out-Ty t) n
  word_put es t n = ap (λ l. is_word_here es l n) (out_put t) ∙ by_layer (out-Ty t)
    where
      by_layer : (l : layer.Ty-F Ty) → is_word_here es (layer_led l) n ≡ is_word_here es l n
      by_layer layer.Unit = refl
      by_layer layer.Bool = refl
      by_layer (layer.Enumeration x k) = refl
      by_layer _ = refl

  literal_put : (es : List Enumeration) (t : Ty) (v : Value) (l : value_layer.Value-F Value) → IsWrittenLiteral es t v l → IsWrittenLiteral es (type_put f t) v l
  literal_put es t v (value_layer.Num n) h = numeral_put es t n ∙ h
  literal_put es t v (value_layer.Many vs) h = h

  has_word_put : (es : List Enumeration) (t : Ty) (l : value_layer.Value-F Value) → has_word es (type_put f t) l ≡ has_word es t l
  has_word_put es t (value_layer.Num n) = word_put es t n
  has_word_put es t (value_layer.Many vs) = refl

  each_weight_put : (es : List Enumeration) (t : Ty) (ps : List Pair) → list_all (is_weight_here es (type_put f t)) ps ≡ list_all (is_weight_here es t) ps
  each_weight_put es t [] = refl
  each_weight_put es t (p ∷ ps) =
      ap (λ b. b && in_range p.weight && list_all (is_weight_here es (type_put f t)) ps) (has_word_put es t (out-Value p.value)) ∙ ap (λ b. is_weight_here es t p && b) (each_weight_put es t ps)

  weights_put : (es : List Enumeration) (t : Ty) (ps : List Pair) → are_weights_here es (outcome (type_put f t)) ps ≡ are_weights_here es (outcome t) ps
  weights_put es t ps = ap (λ u. are_weights_here es u ps) (outcome_put t) ∙ by_list ps
    where
      by_list : (ps : List Pair) → are_weights_here es (type_put f (outcome t)) ps ≡ are_weights_here es (outcome t) ps
      by_list [] = refl
      by_list (p ∷ ps) = each_weight_put es (outcome t) (p ∷ ps)

  module _ (good : (x : Name) → is_path x ≡ true → is_path (f x) ≡ true) where
    tuple_put_named : {n : Count} (r : Row_of-Ty n) → HasTwo r → AllByRecursion IsNamedType (map (type_put f) (items-the_row-Ty _ r)) → IsNamedType (ty.Tuple (map (type_put f) (items-the_row-Ty _ r)))
    tuple_put_named (more_of-Ty t (more_of-Ty u r)) two h = tuple_named (type_put f t) (type_put f u) (map (type_put f) (items-the_row-Ty _ r)) h
    tuple_put_named (more_of-Ty t end_of-Ty) two h = absurd two
    tuple_put_named end_of-Ty two h = absurd two

    mutual
      pub type_put_named : (t : Ty) → IsNamedType t → IsNamedType (type_put f t)
      type_put_named ty.Unit h = subst IsNamedType (sym (leaf_put f ty.Unit refl)) h
      type_put_named ty.Bool h = subst IsNamedType (sym (leaf_put f ty.Bool refl)) h
      type_put_named ty.Int h = subst IsNamedType (sym (leaf_put f ty.Int refl)) h
      type_put_named ty.Real h = subst IsNamedType (sym (leaf_put f ty.Real refl)) h
      type_put_named (ty.Bits n) h = subst IsNamedType (sym (leaf_put f (ty.Bits n) refl)) h
      type_put_named (ty.Mod n) h = subst IsNamedType (sym (leaf_put f (ty.Mod n) refl)) h
      type_put_named (ty.Enumeration x n) h = subst IsNamedType (sym (leaf_put f (ty.Enumeration x n) refl)) h
      type_put_named (ty.Abstract x) h = subst IsNamedType (sym (leaf_put f (ty.Abstract x) refl)) h
      type_put_named (ty.Glob m) h = subst IsNamedType (sym (glob_put f m)) (good m h)
      type_put_named (ty.Tuple' n r) h = subst IsNamedType (sym (tuple_put f n r)) (tuple_put_named r h.0 (types_put_named r h.1))
      type_put_named (ty.Opt' p (more_of-Ty x end_of-Ty)) h = subst IsNamedType (sym (opt_put f p x)) (option_named (type_put f x) (type_put_named x h.0))
      type_put_named (ty.Map' p (more_of-Ty k end_of-Ty) q (more_of-Ty x end_of-Ty)) h =
          subst IsNamedType (sym (map_put f p q k x)) (map_named (type_put f k) (type_put f x) (type_put_named k h.0.0) (type_put_named x h.1.0))
      type_put_named (ty.Distr' p x) h = absurd h

      types_put_named : {n : Count} (r : Row_of-Ty n) → AreNamedTypes r → AllByRecursion IsNamedType (map (type_put f) (items-the_row-Ty _ r))
      types_put_named end_of-Ty h = tt
      types_put_named (more_of-Ty t r) h = (type_put_named t h.0, types_put_named r h.1)

    of_values : (t : Ty) → IsNamedType t → IsNamedResult (type_put f t)
    of_values t h = as_result (type_put f t) (type_put_named t h)

    result_put_named : (t : Ty) → IsNamedResult t → IsNamedResult (type_put f t)
    result_put_named (ty.Distr' p (more_of-Ty x end_of-Ty)) h = subst IsNamedResult (sym (distr_put f p x)) (distribution_named (type_put f x) (type_put_named x h.0))
    result_put_named ty.Unit h = of_values ty.Unit h
    result_put_named ty.Bool h = of_values ty.Bool h
    result_put_named ty.Int h = of_values ty.Int h
    result_put_named ty.Real h = of_values ty.Real h
    result_put_named (ty.Bits n) h = of_values (ty.Bits n) h
    result_put_named (ty.Mod n) h = of_values (ty.Mod n) h
    result_put_named (ty.Enumeration x n) h = of_values (ty.Enumeration x n) h
    result_put_named (ty.Abstract x) h = of_values (ty.Abstract x) h
    result_put_named (ty.Glob m) h = of_values (ty.Glob m) h
    result_put_named (ty.Tuple' n r) h = of_values (ty.Tuple' n r) h
    result_put_named (ty.Opt' p x) h = of_values (ty.Opt' p x) h
    result_put_named (ty.Map' p k q x) h = of_values (ty.Map' p k q x) h

    variable_put_named : (x : Var) → is_variable_here [] x ≡ true → is_variable_here [] (variable_put f x) ≡ true
    variable_put_named (Glob a) h = good a h
    variable_put_named (Global m x) h = h
    variable_put_named (Local x) h = h

    operator_put_named : (o : Op) (t : Ty) → IsNamedOperator o t → IsNamedOperator o (type_put f t)
    operator_put_named (op.Part k) t h = h
    operator_put_named op.Uniform t h = subst (IsWrittenType 0 []) (sym (outcome_put t ∙ type_stays (outcome t) h)) h
    operator_put_named op.None t h = type_put_named t h
    operator_put_named op.Some t h = type_put_named t h
    operator_put_named op.Empty t h = type_put_named t h
    operator_put_named op.Negate t h = type_put_named t h
    operator_put_named op.Plus t h = type_put_named t h
    operator_put_named op.Minus t h = type_put_named t h
    operator_put_named op.Times t h = type_put_named t h
    operator_put_named op.Xor t h = type_put_named t h
    operator_put_named _ t h = tt

-- Modules that can be written, for parameters.
module _ (ps : List Param) (ms : List Mexp) (written : EachWritten ms) where
  -- the module that stands for one with a name has one
  name_put_path : (x : Name) → is_path x ≡ true → is_path (name_put ps ms x) ≡ true
  name_put_path x h = (arguments_written (stands_for ps ms x) (stands_written ps ms written x h)).0

  procedure_put_written : (r : ProcRef) → IsWrittenProcedure [] r → IsWrittenProcedure [] (procedure_put ps ms r)
  procedure_put_written r h = reference_written (stands_for ps ms) (stands_written ps ms written) r h

  subject_put_named : (c : Subject) → IsNamedSubject c → IsNamedSubject (subject_put ps ms c)
  subject_put_named (Proc r) h = procedure_put_written r h
  subject_put_named (Body' n is) h = absurd h

  abbrev put_type : Ty → Ty
  put_type = type_put (name_put ps ms)

  abbrev of_type : (t : Ty) → IsNamedType t → IsNamedType (put_type t)
  of_type t h = type_put_named (name_put ps ms) name_put_path t h

  -- a variable of the context
  pub logical_put_named : (x : TypedName) → IsNamedVariable x → IsNamedType (put_type x.ty)
  logical_put_named x h = of_type x.ty h.1

  module _ (es : List Enumeration) where
    head_put_named : (h : Head) (t : Ty) → IsNamedHead es h t → IsNamedHead es (head_put ps ms h) (put_type t)
    head_put_named (head.Lit v) t k = (of_type t k.0, literal_put (name_put ps ms) es t v (out-Value v) k.1)
    head_put_named (head.Weights qs) t k = weights_put (name_put ps ms) es t qs ∙ k
    head_put_named (head.Whole n) t k = (of_type t k.0, k.1)
    head_put_named (head.Read (Logical i)) t k = tt
    head_put_named (head.Read (Program x s)) t k = (variable_put_named (name_put ps ms) name_put_path x k.0, of_type t k.1)
    head_put_named (head.Bound i) t k = of_type t k
    head_put_named (head.Builtin o) t k = operator_put_named (name_put ps ms) name_put_path o t k
    head_put_named (head.User x) t k = k
    head_put_named (head.All u) t k = of_type u k
    head_put_named (head.Some u) t k = of_type u k
    head_put_named (head.AllModule b) t k = absurd k
    head_put_named (head.Sum q) t k = k
    head_put_named (head.Glob m s) t k = k
    head_put_named (head.Pr r s) t k = procedure_put_written r k
    head_put_named (head.Hoare c) t k = subject_put_named c k
    head_put_named (head.Phoare c r) t k = subject_put_named c k
    head_put_named (head.Equiv c d) t k = (subject_put_named c k.0, subject_put_named d k.1)
    head_put_named _ t k = tt

    module _ (ds : Declarations) (scope : IsNamedScope es ds) where
      agreement_put_named : (f : Term) → IsNamed es f → (s r : Side) (o : Option (List Var)) → IsNamed es (agreement_or ds f s r o)
      agreement_put_named f h s r None = h
      agreement_put_named f h s r (Some xs) = all_agree es (agreements ds s r None xs) (agreements_named es ds scope s r None xs tt)

      -- an equation of all globals of a module
      equation_put_named : (f : Term) → IsNamed es f → (o : Option Equation) → IsNamed es (equation_put ds ps ms f o)
      equation_put_named f h None = h
      equation_put_named f h (Some e) =
          let m = stands_for ps ms e.0 in
          let o = footprint_at ds m in
          either (IsNamed es) (is_abstract ds m) f (agreement_or ds f e.1 e.2 o) h (agreement_put_named f h e.1 e.2 o)

      mutual
        -- a form
        pub put_named : (t : Term) → IsNamed es t → IsNamed es (put ds ps ms t)
        put_named (Term' p (more_of-Head h end_of-Head) n ts ty) k =
            equation_put_named (node_put ps ms h (all_put ds ps ms ts) ty)
            (node_named es (head_put ps ms h) (all_put ds ps ms ts) (put_type ty) (head_put_named h ty k.0) (result_put_named (name_put ps ms) name_put_path ty k.1) (all_put_named ts k.2))
            (equated h (terms_in ts))

        all_put_named : {n : Count} (ts : Row_of-Term n) → AreNamed es ts → AllNamed es (all_put ds ps ms ts)
        all_put_named end_of-Term k = tt
        all_put_named (more_of-Term t ts) k = (put_named t k.0, all_put_named ts k.1)
