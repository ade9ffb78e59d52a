-- The parts of a term of a program: typing and values.
use Rattle.std.proofs.Common.{◌≡◌, ℕ, zero, suc, pred, ◌+◌, ◌<◌, ◌≤◌, true, false, ◌&&◌, List, [], ◌∷◌, ◌++◌, length, map, get_or, take, take_all, Some, refl, ap, sym, ◌∙◌, subst, arith, add-one, length-append}
use Rattle.std.proofs.lemmas.List.{append_assoc}
use Rattle.std.proofs.lemmas.Bool.{false≢true, and_parts}
use Rattle.sqlite_items.specs.formers.items.Items.{the_former}
use Rattle.gb_core.specs.declared.ty.Ty as X
use Rattle.gb_core.specs.declared.ty.Ty.{Ty, Row_of-Ty, end_of-Ty, more_of-Ty, out-Ty, items-the_row-Ty, items_shown-the_row-Ty-0}
use Rattle.gb_core.specs.declared.ty.Ty.TheVariants as ty
use Rattle.gb_core.specs.declared.ty.Ty.TheOpen as layer
use Rattle.gb_core.specs.declared.var.Var.{Var}
use Rattle.gb_core.specs.declared.value.Value.{Value}
use Rattle.gb_core.specs.declared.value.Value.TheVariants.{Num, Many}
use Rattle.gb_core.specs.Numbering.{Numbering, numbers, parts_in as value_parts_in, parts_of, is_tuple}
use Rattle.gb_core.proofs.Lawful.{out-Many}
use Rattle.gb_terms.specs.declared.decl.TypedName.{TypedName}
use Rattle.gb_terms.specs.declared.module.Mexp.TheVariants.{Name as named}
use Rattle.gb_terms.specs.declared.op.Op.TheVariants as op
use Rattle.gb_terms.specs.declared.term.Term.{Term, out-Term}
use Rattle.gb_terms.specs.declared.term.Head.{Head}
use Rattle.gb_terms.specs.declared.term.Head.TheVariants as head
use Rattle.gb_terms.specs.Make.{node}
use Rattle.gb_meaning.specs.Meanings.{value_in}
use Rattle.gb_meaning.specs.Memory.{Memory}
use Rattle.gb_meaning.specs.Operators.{Argument}
use Rattle.gb_meaning.specs.Runs.{valued}
use Rattle.gb_meaning.specs.Setting.{Setting}
use Rattle.gb_meaning.specs.State.{State, inside}
use Rattle.gb_meaning.specs.Terms.{argument, part_of, quiet, val}
use Rattle.gb_meaning.specs.Trees.{row as row_of_terms}
use Rattle.gb_meaning.specs.Values.{all_values_by, footprint_values, has}
use Rattle.gb_meaning.specs.Written.{type_of}
use Rattle.gb_meaning.proofs.Nodes.{each_is_node, term_is_node, val_node}
use Rattle.gb_laws.specs.Plain.{IsPlain, AllPlain}
use Rattle.gb_laws.specs.Finite.{IsFinite, AreFiniteWith}
use Rattle.gb_laws.specs.Operators.{AreFinite, item, items, parts_in, row, tuples}
use Rattle.gb_laws.specs.Programs.{HaveTypes, variable_type}
use Rattle.gb_laws.proofs.Meanings.{parts_have}
use Rattle.gb_laws.proofs.Nodes.{type_of_node}
use Rattle.gb_typing.specs.Changes.{Made}
use Rattle.gb_typing.specs.Context.{Context, erased, of_program}
use Rattle.gb_typing.specs.Fits.{IsSettingOf}
use Rattle.gb_typing.specs.Programs.{IsExpression, IsValued}
use Rattle.gb_typing.specs.Typing.{AllTyped, IsTyped}
use Rattle.gb_typing.proofs.Fitting.{fits_program, state_inside}
use Rattle.gb_typing.proofs.Made.{made_node, parts_typed}
use Rattle.gb_typing.proofs.Substituted.{term_has}
use Rattle.gb_prog.specs.Assigned.{part, parts_from, part_types, part_types_layer, parts_at, parts}
use mathlib.Core.Former.{Count, arity, this}

-- The types of the parts of a tuple.

row_is : {n : Count} (r : Row_of-Ty n) → items-the_row-Ty _ r ≡ items r
row_is end_of-Ty = refl
row_is (more_of-Ty t r) = ap (λ z. t ∷ z) (row_is r)

out_tuple : (n : List (Unit {0})) (r : Row_of-Ty (arity (the_former (this {0})) n)) → out-Ty (ty.Tuple' n r) ≡ layer.Tuple (items r)
unfolding X.out-Ty denote.Hole.Carrier.out
out_tuple n r = ap layer.Tuple (items_shown-the_row-Ty-0 n r ∙ row_is r)

items_of : (ts : List Ty) → items (row ts) ≡ ts
items_of [] = refl
items_of (t ∷ ts) = ap (λ z. t ∷ z) (items_of ts)

module _ (c : Context) (ls : List TypedName) where
  abbrev here : Context
  here = of_program c ls

  -- values that variables take: of their types
  abbrev pub AreTaken : List Var → List Term → Type 0
  AreTaken [] es = Unit {0}
  AreTaken (x ∷ xs) [] = ⊥
  AreTaken (x ∷ xs) (e ∷ es) = (IsValued c ls e × (variable_type (erased c) ls x ≡ Some (type_of e))) × AreTaken xs es

  pub same_length : (xs : List Var) (ts : List Ty) → HaveTypes (erased c) ls xs ts → length ts ≡ length xs
  same_length [] [] h = refl
  same_length [] (t ∷ ts) h = absurd h
  same_length (x ∷ xs) [] h = absurd h
  same_length (x ∷ xs) (t ∷ ts) h = ap suc (same_length xs ts h.1)

  pub part_types_are : (t : Ty) (x : Var) (xs : List Var) → HaveTypes (erased c) ls (x ∷ xs) (parts_in t) → length (x ∷ xs) < 9 → part_types t ≡ parts_in t
  part_types_are (ty.Tuple' n r) x xs h l =
      let e : length (items r) ≡ length (x ∷ xs) = same_length (x ∷ xs) (items r) h in
      ap part_types_layer (out_tuple n r) ∙ take_all 8 (items r) (subst (λ k. k ≤ 8) (sym e) (omega (arith, l)))
  part_types_are _ x xs h l = absurd h

  -- Parts by number.

  module _ (e : Term) (w : IsValued c ls e) where
    item_at : (us vs : List Ty) (t : Ty) → item (us ++ t ∷ vs) (length us) ≡ Some t
    item_at [] vs t = refl
    item_at (u ∷ us) vs t = item_at us vs t

    part_made : (us vs : List Ty) (t : Ty) → parts_in (type_of e) ≡ us ++ t ∷ vs → IsFinite t → IsValued c ls (part e (length us + 1) t) × (type_of (part e (length us + 1) t) ≡ t)
    part_made us vs t p f =
        let x = w.expression in
        let n : pred (length us + 1) ≡ length us = ap pred (add-one (length us)) in
        let z : 0 < length us + 1 = omega arith in
        let i : item (parts_in (type_of e)) (pred (length us + 1)) ≡ Some t = (λ k. item (p k) (n k)) ∙ item_at us vs t in
        let m = made_node here (head.Builtin (op.Part (length us + 1))) (type_of e ∷ []) (e ∷ []) t (z, i, f) tt [] (record { typed = x.typed; written = refl }) in (
          record {
            expression = record { typed = m.typed; plain = subst IsPlain (term_is_node (head.Builtin (op.Part (length us + 1))) (e ∷ []) t) (tt, (x.plain, tt)) };
            finite = subst IsFinite (sym m.written) f;
          },
          m.written,
        )

    abbrev EachFinite : List Ty → Type 0
    EachFinite [] = Unit {0}
    EachFinite (t ∷ ts) = IsFinite t × EachFinite ts

    one_more : {A : Type 0} (us : List A) (t : A) → length us + 1 ≡ length (us ++ t ∷ [])
    one_more us t = sym (length-append us (t ∷ []))

    numbered : (us ts : List Ty) (xs : List Var) → parts_in (type_of e) ≡ us ++ ts → EachFinite ts → HaveTypes (erased c) ls xs ts → AreTaken xs (parts_from e (length us + 1) ts)
    numbered us [] [] p f h = tt
    numbered us (t ∷ ts) [] p f h = tt
    numbered us [] (x ∷ xs) p f h = absurd h
    numbered us (t ∷ ts) (x ∷ xs) p f h =
        let m = part_made us ts t p f.0 in
        ((m.0, h.0 ∙ ap Some (sym m.1)), subst (λ k. AreTaken xs (parts_from e (k + 1) ts)) (sym (one_more us t)) (numbered (us ++ t ∷ []) ts xs (p ∙ sym (append_assoc us (t ∷ []) ts)) f.1 h.1))

    each_finite : {n : Count} (r : Row_of-Ty n) → AreFiniteWith true r → EachFinite (items r)
    each_finite end_of-Ty f = tt
    each_finite (more_of-Ty t r) f = (f.0, each_finite r f.1)

    parts_finite : (t : Ty) → IsFinite t → EachFinite (parts_in t)
    parts_finite (ty.Tuple' n r) f = each_finite r f
    parts_finite _ f = tt

    by_number : (x : Var) (xs : List Var) → HaveTypes (erased c) ls (x ∷ xs) (parts_in (type_of e)) → length (x ∷ xs) < 9 → AreTaken (x ∷ xs) (parts_from e 1 (part_types (type_of e)))
    by_number x xs h l =
        subst (λ ts. AreTaken (x ∷ xs) (parts_from e 1 ts)) (sym (part_types_are (type_of e) x xs h l))
        (numbered [] (parts_in (type_of e)) (x ∷ xs) refl (parts_finite (type_of e) w.finite) h)

  -- Parts that are written out.

  abbrev EachValued : List Term → Type 0
  EachValued [] = Unit {0}
  EachValued (e ∷ es) = IsValued c ls e × EachValued es

  each_valued : (es : List Term) → AllTyped here here here es → AllPlain (row_of_terms es) → AreFinite (map type_of es) → EachValued es
  each_valued [] w p f = tt
  each_valued (e ∷ []) w p f = (record { expression = record { typed = w; plain = p.0 }; finite = f.0 }, tt)
  each_valued (e ∷ d ∷ es) w p f = (record { expression = record { typed = w.0; plain = p.0 }; finite = f.0 }, each_valued (d ∷ es) w.1 p.1 f.1)

  written_out : (es : List Term) (xs : List Var) → EachValued es → HaveTypes (erased c) ls xs (map type_of es) → AreTaken xs es
  written_out [] [] v h = tt
  written_out (e ∷ es) [] v h = tt
  written_out [] (x ∷ xs) v h = absurd h
  written_out (e ∷ es) (x ∷ xs) v h = ((v.0, h.0), written_out es xs v.1 h.1)

  tuple_taken : (es : List Term) (t : Ty) (xs : List Var) → IsValued c ls (node (head.Builtin op.Tuple) es t) → HaveTypes (erased c) ls xs (parts_in t) → AreTaken xs es
  tuple_taken es t xs w h =
      let x = w.expression in
      let k = parts_typed here (head.Builtin op.Tuple) es t x.typed in
      let p : IsPlain (node (head.Builtin op.Tuple) es t) = x.plain in
      let q = subst IsPlain (sym (term_is_node (head.Builtin op.Tuple) es t)) p in
      let ts : parts_in t ≡ map type_of es = ap parts_in k.0.1 ∙ items_of (map type_of es) in
      written_out es xs (each_valued es k.3 q.1 k.0.0) (subst (HaveTypes (erased c) ls xs) ts h)

  -- what several variables take
  taken_at : (h : Head) (es : List Term) (t : Ty) (x : Var) (xs : List Var) → IsValued c ls (node h es t) → HaveTypes (erased c) ls (x ∷ xs) (parts_in t) → length (x ∷ xs) < 9 →
      AreTaken (x ∷ xs) (parts_at h es t (node h es t))
  taken_at h es t x xs w k l = at h w (by_other h w)
    where
      by_other : (h : Head) → IsValued c ls (node h es t) → AreTaken (x ∷ xs) (parts_from (node h es t) 1 (part_types t))
      by_other h w =
          subst (λ u. AreTaken (x ∷ xs) (parts_from (node h es t) 1 (part_types u))) (type_of_node h es t)
          (by_number (node h es t) w x xs (subst (λ u. HaveTypes (erased c) ls (x ∷ xs) (parts_in u)) (sym (type_of_node h es t)) k) l)

      at : (h : Head) → IsValued c ls (node h es t) → AreTaken (x ∷ xs) (parts_from (node h es t) 1 (part_types t)) → AreTaken (x ∷ xs) (parts_at h es t (node h es t))
      at (head.Builtin op.Tuple) w z = tuple_taken es t (x ∷ xs) w k
      at _ w z = z

  pub parts_taken : (e : Term) (x : Var) (xs : List Var) → IsValued c ls e → HaveTypes (erased c) ls (x ∷ xs) (parts_in (type_of e)) → length (x ∷ xs) < 9 → AreTaken (x ∷ xs) (parts e)
  parts_taken e x xs w k l =
      let l0 = out-Term e in
      let n : e ≡ node l0.head l0.args l0.ty = each_is_node e in
      subst (λ u. AreTaken (x ∷ xs) (parts_at l0.head l0.args l0.ty u)) (sym n)
      (taken_at l0.head l0.args l0.ty x xs (subst (IsValued c ls) n w) (subst (λ u. HaveTypes (erased c) ls (x ∷ xs) (parts_in u)) (ap type_of n ∙ type_of_node l0.head l0.args l0.ty) k) l)

-- Values of parts.

module _ (g : Setting) (s : State) (m : Memory) where
  abbrev value : Term → Value
  value e = valued g s e m

  tuple_value : (es : List Term) (t : Ty) → parts_of (value (node (head.Builtin op.Tuple) es t)) ≡ map value es
  tuple_value es t =
      ap (λ x. parts_of (value_in x)) (val_node g quiet (head.Builtin op.Tuple) es t (inside s m)) ∙ ap value_parts_in (out-Many _) ∙ each es
    where
      each : (es : List Term) → map (λ (x : Argument). value_in x.meaning) (map (argument (inside s m)) (map (part_of g quiet) es)) ≡ map value es
      each [] = refl
      each (e ∷ es) = ap (λ vs. value e ∷ vs) (each es)

  part_value : (e : Term) (i : ℕ) (t : Ty) → value (part e i t) ≡ get_or (parts_of (value e)) (pred i) (Num 0)
  part_value e i t = ap value_in (val_node g quiet (head.Builtin (op.Part i)) (e ∷ []) t (inside s m))

  numbered_values : (e : Term) (us vs : List Value) (ts : List Ty) → parts_of (value e) ≡ us ++ vs → length vs ≡ length ts → map value (parts_from e (length us + 1) ts) ≡ vs
  numbered_values e us [] [] p l = refl
  numbered_values e us [] (t ∷ ts) p l = cc
  numbered_values e us (v ∷ vs) [] p l = cc
  numbered_values e us (v ∷ vs) (t ∷ ts) p l =
      let n : pred (length us + 1) ≡ length us = ap pred (add-one (length us)) in
      let here : value (part e (length us + 1) t) ≡ v = part_value e (length us + 1) t ∙ (λ k. get_or (p k) (n k) (Num 0)) ∙ value_at us vs v in
      let rest = subst (λ k. map value (parts_from e (k + 1) ts) ≡ vs) (sym (more us v)) (numbered_values e (us ++ v ∷ []) vs ts (p ∙ sym (append_assoc us (v ∷ []) vs)) (ap pred l)) in
      λ k. here k ∷ rest k
    where
      value_at : (us vs : List Value) (v : Value) → get_or (us ++ v ∷ vs) (length us) (Num 0) ≡ v
      value_at [] vs v = refl
      value_at (u ∷ us) vs v = value_at us vs v

      more : (us : List Value) (v : Value) → length us + 1 ≡ length (us ++ v ∷ [])
      more us v = sym (length-append us (v ∷ []))

  -- how many parts a tuple has
  abbrev rows : {n : Count} → Row_of-Ty n → List Numbering
  rows r = all_values_by (λ n. numbers (g.types.size n)) (λ n. footprint_values g.types.size (g.types.footprint (named n))) r

  tuple_length : {n : Count} (r : Row_of-Ty n) (vs : List Value) → is_tuple (rows r) vs ≡ true → length vs ≡ length (items r)
  tuple_length end_of-Ty [] h = refl
  tuple_length end_of-Ty (v ∷ vs) h = absurd (false≢true h)
  tuple_length (more_of-Ty u r) [] h = absurd (false≢true h)
  tuple_length (more_of-Ty u r) (v ∷ vs) h = ap suc (tuple_length r vs (and_parts (has g.types u v) (is_tuple (rows r) vs) h).1)

  pub as_many : (c : Context) (ls : List TypedName) (t : Ty) (x : Var) (xs : List Var) (v : Value) → HaveTypes (erased c) ls (x ∷ xs) (parts_in t) → has g.types t v ≡ true →
      length (parts_of v) ≡ length (parts_in t)
  as_many c ls (ty.Tuple' n r) x xs v k h = tuple_length r (parts_of v) (parts_have (is_tuple (rows r)) v h)
  as_many c ls _ x xs v k h = absurd k

  module _ (c : Context) (ls : List TypedName) (fits : IsSettingOf c g) where
    by_number_values : (e : Term) (x : Var) (xs : List Var) → IsValued c ls e → HaveTypes (erased c) ls (x ∷ xs) (parts_in (type_of e)) → length (x ∷ xs) < 9 →
        map value (parts_from e 1 (part_types (type_of e))) ≡ parts_of (value e)
    by_number_values e x xs w k l =
        let z = w.expression in
        let has_type : has g.types (type_of e) (value e) ≡ true = term_has (of_program c ls) g (fits_program c g fits ls) e z.typed w.finite (inside s m) (state_inside c g ls s m) in
        ap (λ ts. map value (parts_from e 1 ts)) (part_types_are c ls (type_of e) x xs k l)
        ∙ numbered_values e [] (parts_of (value e)) (parts_in (type_of e)) refl (as_many c ls (type_of e) x xs (value e) k has_type)

    values_at : (h : Head) (es : List Term) (t : Ty) → map value (parts_from (node h es t) 1 (part_types t)) ≡ parts_of (value (node h es t)) →
        map value (parts_at h es t (node h es t)) ≡ parts_of (value (node h es t))
    values_at (head.Builtin op.Tuple) es t z = sym (tuple_value es t)
    values_at _ es t z = z

    -- the values of the parts of a term are the parts of its value
    pub parts_values : (e : Term) (x : Var) (xs : List Var) → IsValued c ls e → HaveTypes (erased c) ls (x ∷ xs) (parts_in (type_of e)) → length (x ∷ xs) < 9 →
        map value (parts e) ≡ parts_of (value e)
    parts_values e x xs w k l =
        let l0 = out-Term e in
        let n : e ≡ node l0.head l0.args l0.ty = each_is_node e in
        subst (λ u. map value (parts_at l0.head l0.args l0.ty u) ≡ parts_of (value u)) (sym n)
        (values_at l0.head l0.args l0.ty (subst (λ u. map value (parts_from u 1 (part_types l0.ty)) ≡ parts_of (value u)) n
        (subst (λ t. map value (parts_from e 1 (part_types t)) ≡ parts_of (value e)) (ap type_of n ∙ type_of_node l0.head l0.args l0.ty) (by_number_values e x xs w k l))))
