-- A term means the same as another one of its operator, where their arguments do.
use Rattle.std.proofs.Common.{◌≡◌, List, [], ◌∷◌, ◌++◌, map, take, drop, pred, length, Some, refl, sym, ap, ◌∙◌, subst, append-nil, take-append-drop}
use Rattle.gb_core.specs.declared.ty.Ty.{Ty}
use Rattle.gb_terms.specs.declared.op.Op.{Op}
use Rattle.gb_terms.specs.declared.op.Side.{Side}
use Rattle.gb_terms.specs.declared.module.ProcRef.{ProcRef}
use Rattle.gb_terms.specs.declared.decl.TypedName.{TypedName}
use Rattle.gb_terms.specs.declared.term.Term.{Term, out-Term}
use Rattle.gb_terms.specs.declared.term.Head.{Head}
use Rattle.gb_terms.specs.declared.term.Head.TheVariants as head
use Rattle.gb_terms.specs.Make.{node}
use Rattle.gb_meaning.specs.Setting.{Meaning, Setting}
use Rattle.gb_meaning.specs.Setting.Meaning.{finite, whole, fraction, weights}
use Rattle.gb_meaning.specs.Meanings.{value_in, truth}
use Rattle.gb_meaning.specs.Operators.{denominator_at}
use Rattle.gb_meaning.specs.State.{State, memory_of, at}
use Rattle.gb_meaning.specs.Terms.{Speaks, part_of, argument, last_of, before_last, at_head, val, denominator, denominator_of}
use Rattle.gb_meaning.specs.Values.{Types}
use Rattle.gb_meaning.specs.Written.{type_of}
use Rattle.gb_meaning.proofs.Nodes.{each_is_node, val_node, denominator_node}
use Rattle.gb_laws.specs.Typing.{OperatorType, IsHead}
use Rattle.gb_laws.specs.Meant.{IsOf}
use Rattle.gb_laws.specs.Context.{AreOf}
use Rattle.gb_typing.specs.Context.{Context, erased}
use Rattle.gb_typing.specs.Typing.{IsTyped, AllTyped, first, middle, last}
use Rattle.gb_typing.proofs.Made.{parts_typed}
use Rattle.gb_equality.specs.declared.parts.Reach.{Reach}
use Rattle.gb_equality.specs.declared.parts.Reach.TheVariants as Reaches
use Rattle.gb_equality.specs.Parts.{reach_of, reached, kept, arguments_of, operator_of}
use Rattle.gb_smt_laws.specs.Alike.{Alike, AllAlike, RespectAlike}
use Rattle.gb_smt_laws.proofs.Alike.{IsProper, alike_itself, alike_of, value_alike}
use Rattle.gb_smt_laws.proofs.Operated.{AllOne, operated_alike}

some_same : {X : Type 0} (a b : X) → Some a ≡ Some b → a ≡ b
some_same a b e = cc

-- a meaning of a type is proper
pub proper : (g : Types) (u : Ty) (x : Meaning) → IsOf g u x → IsProper x
proper g u (fraction a) h = h.1
proper g u (finite v) h = tt
proper g u (whole n) h = tt
proper g u (weights d) h = tt

module _ (g : Setting) (j : Speaks) (s : State) where
  -- two terms mean the same, and have one denominator
  pub record AreSame (t u : Term) : Type 0 where
    pub alike : Alike (val g j t s) (val g j u s)
    pub denominator : denominator g t ≡ denominator g u

  abbrev pub AllSame : List Term → List Term → Type 0
  AllSame [] [] = Unit {0}
  AllSame (t ∷ ts) (u ∷ us) = AreSame t u × AllSame ts us
  AllSame _ _ = ⊥

  pub same_itself : (t u : Term) → t ≡ u → AreSame t u
  same_itself t u e = subst (AreSame t) e (record { alike = alike_itself (val g j t s); denominator = refl })

  -- each of the terms has a proper meaning
  abbrev AllProper : List Term → Type 0
  AllProper [] = Unit {0}
  AllProper (t ∷ ts) = IsProper (val g j t s) × AllProper ts

  ones : (ts us : List Term) → AllProper ts → AllProper us → AllSame ts us → AllOne (map (argument s) (map (part_of g j) ts)) (map (argument s) (map (part_of g j) us))
  ones [] [] p q h = tt
  ones [] (u ∷ us) p q h = absurd h
  ones (t ∷ ts) [] p q h = absurd h
  ones (t ∷ ts) (u ∷ us) p q h =
      (record { alike = h.0.alike; denominator = h.0.denominator; first = p.0; second = q.0 }, ones ts us p.1 q.1 h.1)

  meanings : (ts us : List Term) → AllSame ts us → AllAlike (map (λ x. x.meaning s) (map (part_of g j) ts)) (map (λ x. x.meaning s) (map (part_of g j) us))
  meanings [] [] h = tt
  meanings [] (u ∷ us) h = absurd h
  meanings (t ∷ ts) [] h = absurd h
  meanings (t ∷ ts) (u ∷ us) h = (h.0.alike, meanings ts us h.1)

  one_denominators : (ts us : List Term) → AllSame ts us → map (denominator g) ts ≡ map (denominator g) us
  one_denominators [] [] h = refl
  one_denominators [] (u ∷ us) h = absurd h
  one_denominators (t ∷ ts) [] h = absurd h
  one_denominators (t ∷ ts) (u ∷ us) h = let a = h.0.denominator in let b = one_denominators ts us h.1 in cc

  values_same : (ts us : List Term) → AllSame ts us → map (λ x. value_in (x.meaning s)) (map (part_of g j) ts) ≡ map (λ x. value_in (x.meaning s)) (map (part_of g j) us)
  values_same [] [] h = refl
  values_same [] (u ∷ us) h = absurd h
  values_same (t ∷ ts) [] h = absurd h
  values_same (t ∷ ts) (u ∷ us) h =
      let a = value_alike (val g j t s) (val g j u s) h.0.alike in let b = values_same ts us h.1 in cc

  no_more : (us : List Term) → AllSame [] us → us ≡ []
  no_more [] h = refl
  no_more (u ∷ us) h = absurd h

  -- a probability's arguments, and its event

  front_before : (ts : List Term) → before_last (map (part_of g j) ts) ≡ map (part_of g j) (take (pred (length ts)) ts)
  front_before [] = refl
  front_before (t ∷ []) = refl
  front_before (t ∷ u ∷ ts) = ap (λ xs. part_of g j t ∷ xs) (front_before (u ∷ ts))

  event_kept : (ts : List Term) → last_of (map (part_of g j) ts) ≡ last_of (map (part_of g j) (drop (pred (length ts)) ts))
  event_kept [] = refl
  event_kept (t ∷ []) = refl
  event_kept (t ∷ u ∷ ts) = event_kept (u ∷ ts)

  module _ (c : Context) (respects : RespectAlike c g) (meant : (t : Term) → IsTyped c t → IsOf g.types (type_of t) (val g j t s)) where
    all_typed : (ts : List Term) → AllTyped c c c ts → AllProper ts
    all_typed [] w = tt
    all_typed (t ∷ []) w = (proper g.types (type_of t) (val g j t s) (meant t w), tt)
    all_typed (t ∷ u ∷ ts) w = (proper g.types (type_of t) (val g j t s) (meant t w.0), all_typed (u ∷ ts) w.1)

    all_of : (ts : List Term) → AllTyped c c c ts → AreOf g.types (map type_of ts) (map (λ x. x.meaning s) (map (part_of g j) ts))
    all_of [] w = tt
    all_of (t ∷ []) w = (meant t w, tt)
    all_of (t ∷ u ∷ ts) w = (meant t w.0, all_of (u ∷ ts) w.1)

    -- what is alike for one head
    abbrev Agree : Head → List Term → List Term → Ty → Type 0
    Agree h ts us ty = Alike (val g j (node h ts ty) s) (val g j (node h us ty) s) × (denominator g (node h ts ty) ≡ denominator g (node h us ty))

    by_heads : (h : Head) (ts us : List Term) (ty : Ty) → Alike (at_head g j (node h ts ty) h (map (part_of g j) ts) ty s) (at_head g j (node h us ty) h (map (part_of g j) us) ty s) →
        denominator_of g h (map (denominator g) ts) ty ≡ denominator_of g h (map (denominator g) us) ty → Agree h ts us ty
    by_heads h ts us ty a d = (
      subst (λ x. Alike x (val g j (node h us ty) s)) (sym (val_node g j h ts ty s)) (subst (Alike (at_head g j (node h ts ty) h (map (part_of g j) ts) ty s)) (sym (val_node g j h us ty s)) a),
      denominator_node g h ts ty ∙ d ∙ sym (denominator_node g h us ty),
    )

    same_node : (h : Head) (ts us : List Term) (ty : Ty) → ts ≡ us → Agree h ts us ty
    same_node h ts us ty e = subst (λ l. Agree h ts l ty) e (alike_itself (val g j (node h ts ty) s), refl)

    builtin : (o : Op) (ts us : List Term) (ty : Ty) → AllTyped c c c ts → AllTyped c c c us → AllSame ts us → Agree (head.Builtin o) ts us ty
    builtin o ts us ty v w h =
        by_heads (head.Builtin o) ts us ty
        (operated_alike g.types ty o (map (argument s) (map (part_of g j) ts)) (map (argument s) (map (part_of g j) us)) (ones ts us (all_typed ts v) (all_typed us w) h))
        (ap (denominator_at g.types o ty) (one_denominators ts us h))

    module _ (o : OperatorType) where
      user : (n : _) (ts us : List Term) (ty : Ty) → c.operator n ≡ Some o → o.params ≡ map type_of ts → o.params ≡ map type_of us → AllTyped c c c ts → AllTyped c c c us → AllSame ts us → Agree (head.User n) ts us ty
      user n ts us ty e p q v w h =
          by_heads (head.User n) ts us ty
          (respects n o e (map (λ x. x.meaning s) (map (part_of g j) ts)) (map (λ x. x.meaning s) (map (part_of g j) us))
          (subst (λ ps. AreOf g.types ps (map (λ x. x.meaning s) (map (part_of g j) ts))) (sym p) (all_of ts v))
          (subst (λ ps. AreOf g.types ps (map (λ x. x.meaning s) (map (part_of g j) us))) (sym q) (all_of us w))
          (meanings ts us h))
          refl

    chance : (p : ProcRef) (r : Side) (ts us : List Term) (ty : Ty) → AllSame (take (pred (length ts)) ts) (take (pred (length us)) us) → drop (pred (length ts)) ts ≡ drop (pred (length us)) us → Agree (head.Pr p r) ts us ty
    chance p r ts us ty h k =
        let front : map (λ x. value_in (x.meaning s)) (before_last (map (part_of g j) ts)) ≡ map (λ x. value_in (x.meaning s)) (before_last (map (part_of g j) us)) =
        ap (map (λ x. value_in (x.meaning s))) (front_before ts) ∙ values_same (take (pred (length ts)) ts) (take (pred (length us)) us) h ∙ sym (ap (map (λ x. value_in (x.meaning s))) (front_before us)) in
        let event : last_of (map (part_of g j) ts) ≡ last_of (map (part_of g j) us) = event_kept ts ∙ ap (λ l. last_of (map (part_of g j) l)) k ∙ sym (event_kept us) in
        by_heads (head.Pr p r) ts us ty
        (alike_of (at_head g j (node (head.Pr p r) ts ty) (head.Pr p r) (map (part_of g j) ts) ty s) (at_head g j (node (head.Pr p r) us ty) (head.Pr p r) (map (part_of g j) us) ty s)
        (ap (λ vs. fraction (j.probability p vs (memory_of s r) (λ n. truth ((last_of (map (part_of g j) ts)).meaning (at s n))))) front
        ∙ ap (λ x. fraction (j.probability p (map (λ x. value_in (x.meaning s)) (before_last (map (part_of g j) us))) (memory_of s r) (λ n. truth (x.meaning (at s n))))) event))
        refl

    -- a constant: all its arguments belong to its operator
    constant : (h : Head) (ts us : List Term) (ty : Ty) → (x : Reach) → reached x ts ≡ [] → kept x ts ≡ kept x us → AllSame (reached x ts) (reached x us) → Agree h ts us ty
    constant h ts us ty x e k m =
        let f : reached x us ≡ [] = no_more (reached x us) (subst (λ l. AllSame l (reached x us)) e m) in
        same_node h ts us ty (sym (whole_list x ts) ∙ ap (λ l. l ++ kept x ts) (e ∙ sym f) ∙ ap (λ l. reached x us ++ l) k ∙ whole_list x us)
      where
        whole_list : (x : Reach) (ts : List Term) → reached x ts ++ kept x ts ≡ ts
        whole_list Reaches.Nothing ts = refl
        whole_list Reaches.Front ts = take-append-drop (pred (length ts)) ts
        whole_list Reaches.All ts = append-nil ts

    abbrev IsNode : Head → List Term → Ty → Type 0
    IsNode h ts u = IsHead (erased c) h (map type_of ts) u × (ls : List TypedName) × AllTyped (first c h) (middle c h) (last c ls h (map type_of ts)) ts

    abbrev Kept : Head → List Term → List Term → Type 0
    Kept h ts us = (kept (reach_of h) ts ≡ kept (reach_of h) us) × AllSame (reached (reach_of h) ts) (reached (reach_of h) us)

    by_head : (h : Head) (ts us : List Term) (ty : Ty) → IsNode h ts ty → IsNode h us ty → Kept h ts us → Agree h ts us ty
    by_head (head.Builtin o) ts us ty v w k = builtin o ts us ty v.2 w.2 k.1
    by_head (head.User n) ts us ty v w k =
        let e = some_same (record { params = map type_of ts; result = ty }) (record { params = map type_of us; result = ty }) (sym v.0 ∙ w.0) in
        user (record { params = map type_of ts; result = ty }) n ts us ty v.0 refl (ap (λ o. o.params) e) v.2 w.2 k.1
    by_head (head.Pr p r) ts us ty v w k = chance p r ts us ty k.1 k.0
    by_head (head.Lit x) [] us ty v w k = constant (head.Lit x) [] us ty Reaches.All refl k.0 k.1
    by_head (head.Whole x) [] us ty v w k = constant (head.Whole x) [] us ty Reaches.All refl k.0 k.1
    by_head (head.Read x) [] us ty v w k = constant (head.Read x) [] us ty Reaches.All refl k.0 k.1
    by_head (head.Bound x) [] us ty v w k = constant (head.Bound x) [] us ty Reaches.All refl k.0 k.1
    by_head (head.Weights x) [] us ty v w k = constant (head.Weights x) [] us ty Reaches.All refl k.0 k.1
    by_head (head.Glob m r) [] us ty v w k = constant (head.Glob m r) [] us ty Reaches.All refl k.0 k.1
    by_head (head.Lit x) (t ∷ ts) us ty v w k = absurd v.0
    by_head (head.Whole x) (t ∷ ts) us ty v w k = absurd v.0
    by_head (head.Read x) (t ∷ ts) us ty v w k = absurd v.0
    by_head (head.Bound x) (t ∷ ts) us ty v w k = absurd v.0
    by_head (head.Weights x) (t ∷ ts) us ty v w k = absurd v.0
    by_head (head.Glob m r) (t ∷ ts) us ty v w k = absurd v.0
    by_head (head.All u) ts us ty v w k = constant (head.All u) ts us ty Reaches.Nothing refl k.0 k.1
    by_head (head.Some u) ts us ty v w k = constant (head.Some u) ts us ty Reaches.Nothing refl k.0 k.1
    by_head head.AllMemory ts us ty v w k = constant head.AllMemory ts us ty Reaches.Nothing refl k.0 k.1
    by_head head.SomeMemory ts us ty v w k = constant head.SomeMemory ts us ty Reaches.Nothing refl k.0 k.1
    by_head (head.AllModule b) ts us ty v w k = constant (head.AllModule b) ts us ty Reaches.Nothing refl k.0 k.1
    by_head head.Mu ts us ty v w k = constant head.Mu ts us ty Reaches.Nothing refl k.0 k.1
    by_head (head.Sum q) ts us ty v w k = constant (head.Sum q) ts us ty Reaches.Nothing refl k.0 k.1
    by_head head.Map ts us ty v w k = constant head.Map ts us ty Reaches.Nothing refl k.0 k.1
    by_head head.Restrict ts us ty v w k = constant head.Restrict ts us ty Reaches.Nothing refl k.0 k.1
    by_head (head.Hoare x) ts us ty v w k = constant (head.Hoare x) ts us ty Reaches.Nothing refl k.0 k.1
    by_head (head.Phoare x r) ts us ty v w k = constant (head.Phoare x r) ts us ty Reaches.Nothing refl k.0 k.1
    by_head (head.Equiv x y) ts us ty v w k = constant (head.Equiv x y) ts us ty Reaches.Nothing refl k.0 k.1

    node_of : (t : Term) → IsTyped c t → IsNode (out-Term t).head (out-Term t).args (out-Term t).ty
    node_of t w =
        let x = parts_typed c (out-Term t).head (out-Term t).args (out-Term t).ty (subst (IsTyped c) (each_is_node t) w) in
        (x.0, x.2, x.3)

    -- with another term of the same operator
    placed : (t : Term) (h : Head) (us : List Term) (ty : Ty) → IsTyped c t → (out-Term t).head ≡ h → (out-Term t).ty ≡ ty → IsNode h us ty →
        (kept (reach_of (out-Term t).head) (out-Term t).args ≡ kept (reach_of h) us) → AllSame (arguments_of t) (reached (reach_of h) us) → AreSame t (node h us ty)
    placed t h us ty w e f n k m =
        let a = subst (λ z. IsNode z (out-Term t).args (out-Term t).ty) e (node_of t w) in
        let b = subst (λ z. IsNode h (out-Term t).args z) f a in
        let kept_same = sym (ap (λ z. kept (reach_of z) (out-Term t).args) e) ∙ k in
        let args_same = subst (λ z. AllSame (reached (reach_of z) (out-Term t).args) (reached (reach_of h) us)) e m in
        let r = by_head h (out-Term t).args us ty b n (kept_same, args_same) in
        let is : t ≡ node h (out-Term t).args ty = each_is_node t ∙ ap (λ z. node z (out-Term t).args (out-Term t).ty) e ∙ ap (node h (out-Term t).args) f in
        record {
          alike = subst (λ z. Alike (val g j z s) (val g j (node h us ty) s)) (sym is) r.0;
          denominator = ap (denominator g) is ∙ r.1;
        }

    pub congruent : (t u : Term) → IsTyped c t → IsTyped c u → operator_of t ≡ operator_of u → AllSame (arguments_of t) (arguments_of u) → AreSame t u
    congruent t u v w o m =
        subst (AreSame t) (sym (each_is_node u))
        (placed t (out-Term u).head (out-Term u).args (out-Term u).ty v (ap (λ x. x.head) o) (ap (λ x. x.ty) o) (node_of u w) (ap (λ x. x.kept) o) m)
