-- A bound result in the places of a left side: typing and values.
use Rattle.std.proofs.Common.{◌≡◌, ℕ, pred, ◌+◌, ◌<◌, true, List, [], ◌∷◌, ◌++◌, length, map, get_or, Some, None, refl, ap, sym, ◌∙◌, subst, arith, add-one, length-append}
use Rattle.std.specs.List.{AllByRecursion}
use Rattle.std.proofs.lemmas.List.{append_assoc}
use Rattle.gb_core.specs.declared.ty.Ty.{Ty, Row_of-Ty, end_of-Ty, more_of-Ty}
use Rattle.gb_core.specs.declared.ty.Ty.TheVariants as ty
use Rattle.gb_core.specs.declared.var.Var.{Var}
use Rattle.gb_core.specs.declared.var.Var.TheVariants as var
use Rattle.gb_core.specs.declared.value.Value.{Value}
use Rattle.gb_core.specs.declared.value.Value.TheVariants.{Num}
use Rattle.gb_core.specs.Numbering.{parts_of}
use Rattle.gb_terms.specs.declared.decl.TypedName.{TypedName}
use Rattle.gb_terms.specs.declared.op.Op.TheVariants as op
use Rattle.gb_terms.specs.declared.op.Side.{Side}
use Rattle.gb_terms.specs.declared.op.Side.TheVariants as side
use Rattle.gb_terms.specs.declared.term.Term.{Term}
use Rattle.gb_terms.specs.declared.term.Head.{Head}
use Rattle.gb_terms.specs.declared.term.Head.TheVariants as head
use Rattle.gb_terms.specs.declared.term.Head.TheViews.{out-roll-Term}
use Rattle.gb_terms.specs.Make.{node}
use Rattle.gb_walk.specs.declared.change.Change.TheVariants.{ToSide}
use Rattle.gb_walk.specs.Change.{Changes, term_changed, term_of}
use Rattle.gb_meaning.specs.Commands.{terms_in}
use Rattle.gb_meaning.specs.Trees.{places, row}
use Rattle.gb_meaning.specs.Meanings.{value_in}
use Rattle.gb_meaning.specs.Memory.{Memory, assigned, write, write_each}
use Rattle.gb_meaning.specs.Setting.{Setting}
use Rattle.gb_meaning.specs.State.{State, memory_of}
use Rattle.gb_meaning.specs.Terms.{quiet, val}
use Rattle.gb_meaning.specs.Values.{has}
use Rattle.gb_meaning.specs.Written.{type_of}
use Rattle.gb_meaning.proofs.Nodes.{term_is_node, val_node}
use Rattle.gb_laws.specs.Plain.{IsPlain}
use Rattle.gb_laws.specs.Written.{IsSide, with_side, all_written}
use Rattle.gb_laws.proofs.Changed.{changed_at, term_changed_is}
use Rattle.gb_laws.specs.Finite.{IsFinite, AreFiniteWith}
use Rattle.gb_laws.specs.Operators.{item, items, parts_in}
use Rattle.gb_laws.specs.Programs.{HaveTypes, Take, variable_type}
use Rattle.gb_laws.specs.Typing.{Binder, IsBoundAt}
use Rattle.gb_laws.specs.Typing.Binder.{value, program as module_binder}
use Rattle.gb_typing.specs.Changes.{Made}
use Rattle.gb_typing.specs.Context.{Context, Frame, erased, frame_of, reframed}
use Rattle.gb_typing.specs.Puts.{IsPutFor, IsTypedPut, IsTypedWrite, Readable}
use Rattle.gb_typing.specs.Typing.{IsIn}
use Rattle.gb_typing.proofs.Clashes.{left_of_no_clash}
use Rattle.gb_typing.proofs.Made.{made_node}
use Rattle.gb_typing.proofs.Substituted.{finite_no_distribution}
use Rattle.gb_typing.specs.Forms.{IsAlone, located}
use Rattle.gb_typing.specs.Rules.{outermost}
use Rattle.gb_typing.proofs.Assigned.{variable_in}
use Rattle.gb_typing.proofs.Quantified.{inside_all}
use Rattle.gb_prog.proofs.AllValues.{bound_term, bound_plain}
use Rattle.gb_prog.specs.Assigned.{part, part_types, parts, parts_at, parts_from, taken}
use Rattle.gb_prog.proofs.AssignedForms.{all_behind, put_itself, put_read, put_twice, written_behind, write_of, writes}
use Rattle.gb_prog.proofs.Parts.{part_types_are, as_many}
use mathlib.Core.Former.{Count}

-- The parts of a bound value are its parts by number.
parts_bound : (n : ℕ) (R : Ty) → parts (bound_term n R) ≡ parts_from (bound_term n R) 1 (part_types R)
parts_bound n R = ap (λ l. parts_at l.head l.args l.ty (bound_term n R)) (out-roll-Term (record { head = head.Bound n; args = []; ty = R }))

-- A bound value, and a part of one, reads no memory.

node_changed : (h : Head) (ts : List Term) (t : Ty) (cs : Changes) → term_changed (node h ts t) cs ≡ term_of (changed_at h cs) cs (map term_changed ts) t
node_changed h ts t cs =
    ap (λ u. term_changed u cs) (sym (term_is_node h ts t)) ∙ term_changed_is h (places ts) (row ts) t cs ∙ ap (λ us. term_of (changed_at h cs) cs (map term_changed us) t) (of_row ts)
  where
    of_row : (ts : List Term) → terms_in (row ts) ≡ ts
    of_row [] = refl
    of_row (u ∷ us) = ap (λ l. u ∷ l) (of_row us)

pub located_bound : (r : Side) (n : ℕ) (R : Ty) → located r (bound_term n R) ≡ bound_term n R
located_bound side.Own n R = refl
located_bound side.Left n R = node_changed (head.Bound n) [] R (ToSide side.Own side.Left ∷ [])
located_bound side.Right n R = node_changed (head.Bound n) [] R (ToSide side.Own side.Right ∷ [])
located_bound (side.Memory k) n R = node_changed (head.Bound n) [] R (ToSide side.Own (side.Memory k) ∷ [])
located_bound (side.Bound k) n R = node_changed (head.Bound n) [] R (ToSide side.Own (side.Bound k) ∷ [])

located_part : (r : Side) (i : ℕ) (e : Term) (t : Ty) → located r e ≡ e → located r (part e i t) ≡ part e i t
located_part side.Own i e t h = refl
located_part side.Left i e t h = node_changed (head.Builtin (op.Part i)) (e ∷ []) t (ToSide side.Own side.Left ∷ []) ∙ ap (λ z. part z i t) h
located_part side.Right i e t h = node_changed (head.Builtin (op.Part i)) (e ∷ []) t (ToSide side.Own side.Right ∷ []) ∙ ap (λ z. part z i t) h
located_part (side.Memory k) i e t h = node_changed (head.Builtin (op.Part i)) (e ∷ []) t (ToSide side.Own (side.Memory k) ∷ []) ∙ ap (λ z. part z i t) h
located_part (side.Bound k) i e t h = node_changed (head.Builtin (op.Part i)) (e ∷ []) t (ToSide side.Own (side.Bound k) ∷ []) ∙ ap (λ z. part z i t) h

-- a bound value of this type, inside of binders
module _ (b : Context) (F L K : Frame) (r : Side) (is : IsSide r) (ls : List TypedName) (frame : frame_of (reframed (outermost b) F L K) r ≡ Some ls) (X : List Binder) (fs : List Frame) (n : ℕ) (R : Ty) (fin : IsFinite R)
    (there : get_or X n module_binder ≡ value R) where
  abbrev around : Context
  around = reframed (outermost b) F L K

  abbrev inside : Context
  inside = inside_all b F L K X fs

  abbrev result : Term
  result = bound_term n R

  result_made : (f l q : Frame) → Made (reframed inside f l q) R result
  result_made f l q = made_node (reframed inside f l q) (head.Bound n) [] [] R (subst (λ z. IsBoundAt z R) (sym there) (finite_no_distribution R fin, refl)) tt [] tt

  -- a term of this type, well typed wherever these binders are
  pub record IsValueOf (u : Ty) (e : Term) : Type 0 where
    finite_type : IsFinite u
    plain_term : IsPlain e
    stays : located r e ≡ e
    made : (f l q : Frame) → Made (reframed inside f l q) u e

  type_is : (u : Ty) (e : Term) → IsValueOf u e → type_of e ≡ u
  type_is u e v = let m = v.made None None None in m.written

  in_here : (x : Var) (u : Ty) → variable_type (erased (outermost b)) ls x ≡ Some u → IsIn inside (frame_of inside r) x u
  in_here x u e = subst (λ f. IsIn inside f x u) (same_frame r is) (moved x (frame_of around r) (variable_in (outermost b) ls F L K x r u frame e))
    where
      same_frame : (o : Side) → IsSide o → frame_of around o ≡ frame_of inside o
      same_frame side.Own i = refl
      same_frame side.Left i = refl
      same_frame side.Right i = refl
      same_frame (side.Memory k) i = absurd i
      same_frame (side.Bound k) i = absurd i

      moved : (x : Var) (f : Frame) → IsIn around f x u → IsIn inside f x u
      moved (var.Local y) f w = w
      moved (var.Global m y) f w = w
      moved (var.Glob a) f w = w

  put_of : (x : Var) (u : Ty) (e : Term) → IsValueOf u e → variable_type (erased (outermost b)) ls x ≡ Some u → IsPutFor inside x r (located r e)
  put_of x u e v t =
      subst (IsPutFor inside x r) (sym v.stays)
      (record {
        side = is;
        type = subst (IsIn inside (frame_of inside r) x) (sym (type_is u e v)) (in_here x u t);
        finite = subst IsFinite (sym (type_is u e v)) v.finite_type;
        plain = v.plain_term;
        typed = λ f l q keeps. let m = v.made f l q in m.typed;
      })

  -- terms of the types of variables
  abbrev pub AreFor : List Var → List Term → Type 0
  AreFor [] es = Unit {0}
  AreFor (x ∷ xs) [] = ⊥
  AreFor (x ∷ xs) (e ∷ es) = ((u : Ty) × IsValueOf u e × (variable_type (erased (outermost b)) ls x ≡ Some u)) × AreFor xs es

  item_at : (us vs : List Ty) (t : Ty) → item (us ++ t ∷ vs) (length us) ≡ Some t
  item_at [] vs t = refl
  item_at (u ∷ us) vs t = item_at us vs t

  part_value_of : (us vs : List Ty) (t : Ty) → parts_in R ≡ us ++ t ∷ vs → IsFinite t → IsValueOf t (part result (length us + 1) t)
  part_value_of us vs t p f =
      let q : pred (length us + 1) ≡ length us = ap pred (add-one (length us)) in
      let z : 0 < length us + 1 = omega arith in
      let i : item (parts_in R) (pred (length us + 1)) ≡ Some t = (λ k. item (p k) (q k)) ∙ item_at us vs t in
      record {
        finite_type = f;
        plain_term = subst IsPlain (term_is_node (head.Builtin (op.Part (length us + 1))) (result ∷ []) t) (tt, (bound_plain _ R, tt));
        stays = located_part r (length us + 1) (bound_term n R) t (located_bound r n R);
        made = λ k l h. made_node (reframed inside k l h) (head.Builtin (op.Part (length us + 1))) (R ∷ []) (result ∷ []) t (z, i, f) tt [] (result_made k l h);
      }

  abbrev EachFinite : List Ty → Type 0
  EachFinite [] = Unit {0}
  EachFinite (t ∷ ts) = IsFinite t × EachFinite ts

  each_finite : {k : Count} (r : Row_of-Ty k) → AreFiniteWith true r → EachFinite (items r)
  each_finite end_of-Ty f = tt
  each_finite (more_of-Ty t r) f = (f.0, each_finite r f.1)

  parts_finite : (t : Ty) → IsFinite t → EachFinite (parts_in t)
  parts_finite (ty.Tuple' k r) f = each_finite r f
  parts_finite _ f = tt

  numbered : (us ts : List Ty) (xs : List Var) → parts_in R ≡ us ++ ts → EachFinite ts → HaveTypes (erased (outermost b)) ls xs ts → AreFor xs (parts_from result (length us + 1) ts)
  numbered us [] [] p f h = tt
  numbered us (t ∷ ts) [] p f h = tt
  numbered us [] (x ∷ xs) p f h = absurd h
  numbered us (t ∷ ts) (x ∷ xs) p f h = (
    (t, part_value_of us ts t p f.0, h.0),
    subst (λ k. AreFor xs (parts_from result (k + 1) ts)) (sym (one_more us t)) (numbered (us ++ t ∷ []) ts xs (p ∙ sym (append_assoc us (t ∷ []) ts)) f.1 h.1),
  )
    where
      one_more : (us : List Ty) (t : Ty) → length us + 1 ≡ length (us ++ t ∷ [])
      one_more us t = sym (length-append us (t ∷ []))

  -- what the left side takes is of its types
  pub are_for : (xs : List Var) → Take (erased (outermost b)) ls xs R → length xs < 9 → AreFor xs (taken xs result)
  are_for [] t l = tt
  are_for (x ∷ []) t l = ((R, record { finite_type = fin; plain_term = bound_plain n R; stays = located_bound r n R; made = result_made }, t), tt)
  are_for (x ∷ y ∷ xs) t l =
      subst (AreFor (x ∷ y ∷ xs)) (sym (parts_bound n R))
      (subst (λ ts. AreFor (x ∷ y ∷ xs) (parts_from result 1 ts)) (sym (part_types_are (outermost b) ls R x (y ∷ xs) t l))
      (numbered [] (parts_in R) (x ∷ y ∷ xs) refl (parts_finite R fin) t))

  pub left_puts : (v : Term → Value) (xs : List Var) (es : List Term) → AreFor xs es → AllByRecursion (IsTypedPut inside) (writes r v xs es)
  left_puts v [] es w = tt
  left_puts v (x ∷ xs) [] w = absurd w
  left_puts v (x ∷ xs) (e ∷ es) w = all_behind (IsTypedPut inside) (writes r v xs es) (write_of r x e (v e)) (left_puts v xs es w.1) (put_of x w.0.0 e w.0.1 w.0.2)

  module _ (g : Setting) (s : State) where
    -- the value of a term where the values are bound
    abbrev pub value_here : Term → Value
    value_here e = value_in (val g quiet e s)

    pub left_writes : (P : Readable) (xs : List Var) (es : List Term) → AreFor xs es → AllByRecursion (λ x. IsAlone g x (P r)) xs → AllByRecursion (IsTypedWrite P inside g s) (writes r value_here xs es)
    left_writes P [] es w a = tt
    left_writes P (x ∷ xs) [] w a = absurd w
    left_writes P (x ∷ xs) (e ∷ es) w a =
        all_behind (IsTypedWrite P inside g s) (writes r value_here xs es) (write_of r x e (value_here e)) (left_writes P xs es w.1 a.1)
        (record { put = put_of x w.0.0 e w.0.1 w.0.2; spares = λ y t h p n k. left_of_no_clash g x y t (a.0 y p n); value = let z = w.0.1 in ap value_here (sym z.stays) })

    -- the memory after these writes
    pub left_ends : (q : State) (v : Term → Value) (xs : List Var) (es : List Term) → AreFor xs es → all_written g q (writes r v xs es) ≡ with_side q r (write_each g.types (memory_of q r) xs (map v es))
    left_ends q v [] es w = sym (put_itself q r)
    left_ends q v (x ∷ xs) [] w = absurd w
    left_ends q v (x ∷ xs) (e ∷ es) w =
        let m : Memory = write g.types (memory_of q r) x (v e) in
        written_behind g q (writes r v xs es) (write_of r x e (v e)) ∙ left_ends (with_side q r m) v xs es w.1
        ∙ ap (λ z. with_side (with_side q r m) r (write_each g.types z xs (map v es))) (put_read q r is m) ∙ put_twice q r is m (write_each g.types m xs (map v es))

    part_value : (i : ℕ) (t : Ty) → value_here (part result i t) ≡ get_or (parts_of (value_here result)) (pred i) (Num 0)
    part_value i t = ap value_in (val_node g quiet (head.Builtin (op.Part i)) (result ∷ []) t s)

    numbered_values : (us vs : List Value) (ts : List Ty) → parts_of (value_here result) ≡ us ++ vs → length vs ≡ length ts → map value_here (parts_from result (length us + 1) ts) ≡ vs
    numbered_values us [] [] p l = refl
    numbered_values us [] (t ∷ ts) p l = cc
    numbered_values us (v ∷ vs) [] p l = cc
    numbered_values us (v ∷ vs) (t ∷ ts) p l =
        let n : pred (length us + 1) ≡ length us = ap pred (add-one (length us)) in
        let here : value_here (part result (length us + 1) t) ≡ v = part_value (length us + 1) t ∙ (λ k. get_or (p k) (n k) (Num 0)) ∙ value_at us vs v in
        let rest = subst (λ k. map value_here (parts_from result (k + 1) ts) ≡ vs) (sym (more us v)) (numbered_values (us ++ v ∷ []) vs ts (p ∙ sym (append_assoc us (v ∷ []) vs)) (ap pred l)) in
        λ k. here k ∷ rest k
      where
        value_at : (us vs : List Value) (v : Value) → get_or (us ++ v ∷ vs) (length us) (Num 0) ≡ v
        value_at [] vs v = refl
        value_at (u ∷ us) vs v = value_at us vs v

        more : (us : List Value) (v : Value) → length us + 1 ≡ length (us ++ v ∷ [])
        more us v = sym (length-append us (v ∷ []))

    -- the left side takes the bound value
    pub left_values : (xs : List Var) (v : Value) → value_here result ≡ v → has g.types R v ≡ true → Take (erased (outermost b)) ls xs R → length xs < 9 → (m : Memory) →
        write_each g.types m xs (map value_here (taken xs result)) ≡ assigned g.types m xs v
    left_values [] v e h t l m = refl
    left_values (x ∷ []) v e h t l m = ap (λ u. write_each g.types m (x ∷ []) (u ∷ [])) e
    left_values (x ∷ y ∷ xs) v e h t l m =
        let k : has g.types R (value_here result) ≡ true = subst (λ u. has g.types R u ≡ true) (sym e) h in
        ap (λ es. write_each g.types m (x ∷ y ∷ xs) (map value_here es)) (parts_bound n R ∙ ap (parts_from result 1) (part_types_are (outermost b) ls R x (y ∷ xs) t l))
        ∙ ap (write_each g.types m (x ∷ y ∷ xs)) (numbered_values [] (parts_of (value_here result)) (parts_in R) refl (as_many g s m (outermost b) ls R x (y ∷ xs) (value_here result) t k) ∙ ap parts_of e)
