-- A leaf that is valid by equality holds.
use Rattle.std.proofs.Common.{◌≡◌, ℕ, zero, suc, ◌<◌, ◌==◌, Bool, true, false, not, ◌&&◌, if◌then◌else◌, List, [], ◌∷◌, map, Some, refl, sym, ap, ◌∙◌, subst, arith}
use Rattle.std.specs.List.{AllByRecursion, Contains}
use Rattle.std.proofs.lemmas.Bool.{false≢true, and_parts}
use Rattle.std.proofs.lemmas.Bool.Decides.{Decides-eqb, Decides-int_eq}
use Rattle.std.proofs.lemmas.List.Elements.{All-from_recursion}
use Rattle.gb_core.specs.declared.ty.Ty.{Ty}
use Rattle.gb_core.specs.declared.ty.Ty.TheVariants as ty
use Rattle.gb_core.specs.declared.value.Value.{Value}
use Rattle.gb_core.specs.declared.value.Value.TheVariants.{Num}
use Rattle.gb_terms.specs.Make as make
use Rattle.gb_terms.specs.Make.{node}
use Rattle.gb_terms.specs.declared.op.Op.{Op}
use Rattle.gb_terms.specs.declared.op.Op.TheVariants as op
use Rattle.gb_terms.specs.declared.term.Term.{Term, out-Term}
use Rattle.gb_terms.specs.declared.term.Head.{Head}
use Rattle.gb_terms.specs.declared.term.Head.TheVariants as head
use Rattle.gb_meaning.specs.Setting.{Meaning, Setting}
use Rattle.gb_meaning.specs.Setting.Meaning.{finite, whole, fraction, weights}
use Rattle.gb_meaning.specs.Meanings.{of_truth, truth, same}
use Rattle.gb_meaning.specs.Operators.{Argument, alike, operated}
use Rattle.gb_meaning.specs.Values.{Types, has}
use Rattle.gb_core.specs.Numbering.{number_of}
use Rattle.gb_core.proofs.Lawful.{Lawful-numbers}
use Rattle.gb_meaning.proofs.Values.{value_eq-true}
use Rattle.gb_meaning.specs.State.{State}
use Rattle.gb_meaning.specs.Terms.{Speaks, part_of, at_head, val, denominator}
use Rattle.gb_meaning.specs.Written.{type_of}
use Rattle.gb_meaning.proofs.Nodes.{each_is_node, val_node}
use Rattle.gb_laws.specs.Meant.{IsOf, IsOfDistributions}
use Rattle.gb_laws.specs.Operators.{IsNoDistribution, IsOperator}
use Rattle.gb_laws.specs.Typing.{IsHead}
use Rattle.gb_typing.specs.Context.{Context, erased}
use Rattle.gb_typing.specs.Typing.{IsTyped, IsForm}
use Rattle.gb_typing.proofs.Made.{parts_typed}
use Rattle.gb_equality.specs.declared.connectives.Connective.{Connective}
use Rattle.gb_equality.specs.declared.connectives.Connective.TheVariants.{And, Or, Implies, Iff, Unlike, Other}
use Rattle.gb_equality.specs.Parts.{reach_of, reached, arguments_of, terms_in}
use Rattle.gb_equality.specs.Connectives as tables
use Rattle.gb_equality.specs.Connectives.{is_bool, is_form, is_one, with_one, with_two, connective_at, is_true, by_table, label_by}
use Rattle.gb_equality.specs.Labels.{IsLabelling, EqualityValid}
use Rattle.gb_smt_laws.specs.Alike.{Alike, RespectAlike}
use Rattle.gb_smt_laws.specs.Valid.{AreForms, Follows}
use Rattle.gb_smt_laws.proofs.Alike.{IsProper, alike_itself}
use Rattle.gb_smt_laws.proofs.Congruent.{proper, AreSame, AllSame, congruent}
use Rattle.gb_equality.proofs.Among.{argument_there}
use Rattle.gb_smt_laws.proofs.Parts.{all_typed}
use Rattle.gb_smt_laws.proofs.Labelling.{truth_is, truth_of, type_is, bool_is, different_apart, labels, form_label, same_of_labels, labels_of_same}

some_same : {X : Type 0} (a b : X) → Some a ≡ Some b → a ≡ b
some_same a b e = cc

true_bit : (b : Bool) → is_true (make.bit b) ≡ b
true_bit true = refl
true_bit false = refl

bit_below : (b : Bool) → make.bit b < 2
bit_below true = omega arith
bit_below false = omega arith

-- tests of truths

alike_table : (p q : Bool) → alike p q ≡ (if p then q else not q)
alike_table true q = refl
alike_table false q = refl

equal_table : (p q : Bool) → same (of_truth p) (of_truth q) ≡ (if p then q else not q)
equal_table true true = refl
equal_table true false = refl
equal_table false true = refl
equal_table false false = refl

unequal_table : (p q : Bool) → not (if p then q else not q) ≡ (if p then not q else q)
unequal_table true q = refl
unequal_table false true = refl
unequal_table false false = refl

-- the test of sameness

same_tells : (x y : Meaning) → same x y ≡ true → Alike x y
same_tells (finite v) (finite w) h = ap finite ((value_eq-true v w).0 h)
same_tells (whole m) (whole n) h = ap whole ((Decides-int_eq m n).0 h)
same_tells (fraction a) (fraction b) h = h
same_tells (finite v) (whole n) h = absurd (false≢true h)
same_tells (finite v) (fraction b) h = absurd (false≢true h)
same_tells (finite v) (weights e) h = absurd (false≢true h)
same_tells (whole m) (finite w) h = absurd (false≢true h)
same_tells (whole m) (fraction b) h = absurd (false≢true h)
same_tells (whole m) (weights e) h = absurd (false≢true h)
same_tells (fraction a) (finite w) h = absurd (false≢true h)
same_tells (fraction a) (whole n) h = absurd (false≢true h)
same_tells (fraction a) (weights e) h = absurd (false≢true h)
same_tells (weights d) y h = absurd (false≢true h)

same_itself : (x : Meaning) (g : Types) (u : Ty) → IsNoDistribution u → IsOf g u x → same x x ≡ true
same_itself (finite v) g u n h = (value_eq-true v v).1 refl
same_itself (whole m) g u n h = (Decides-int_eq m m).1 refl
same_itself (fraction a) g u n h = alike_itself (fraction a)
same_itself (weights d) g u n h = absurd (no_weights u n h.0)
  where
    no_weights : (u : Ty) → IsNoDistribution u → IsOfDistributions u → ⊥
    no_weights (ty.Distr' p x) n k = n
    no_weights _ n k = k

same_told : (x y : Meaning) (g : Types) (u : Ty) → IsNoDistribution u → IsOf g u x → Alike x y → same x y ≡ true
same_told (fraction a) (fraction b) g u n h e = e
same_told (finite v) y g u n h e = ap (same (finite v)) (sym e) ∙ same_itself (finite v) g u n h
same_told (whole m) y g u n h e = ap (same (whole m)) (sym e) ∙ same_itself (whole m) g u n h
same_told (weights d) y g u n h e = ap (same (weights d)) (sym e) ∙ same_itself (weights d) g u n h
same_told (fraction a) (finite w) g u n h e = cc
same_told (fraction a) (whole m) g u n h e = cc
same_told (fraction a) (weights d) g u n h e = cc

bools_same : (x y : Bool) → (x ≡ true → y ≡ true) → (y ≡ true → x ≡ true) → x ≡ y
bools_same true y f g = sym (f refl)
bools_same false true f g = g refl
bools_same false false f g = refl

module _ (c : Context) (g : Setting) (j : Speaks) (s : State) (respects : RespectAlike c g)
    (meant : (t : Term) → IsTyped c t → IsOf g.types (type_of t) (val g j t s))
    (one : (t : Term) → IsTyped c t → IsNoDistribution (type_of t) → denominator g t ≡ 1)
    (hyps : List Term) (t : Term) (v : AreForms c hyps) (w : IsForm c t) where
  abbrev us : List Term
  us = terms_in hyps t

  abbrev L : Term → ℕ
  L = labels g j s us

  typed : (u : Term) → Contains us u → IsTyped c u
  typed = all_typed c hyps t v w

  abbrev M : Term → Meaning
  M u = val g j u s

  each_proper : (u : Term) → Contains us u → IsProper (M u)
  each_proper u k = proper g.types (type_of u) (M u) (meant u (typed u k))

  form_type : (u : Term) → is_form u ≡ true → type_of u ≡ ty.Bool
  form_type u e = sym (type_is u) ∙ bool_is (out-Term u).ty e

  form_truth : (u : Term) → Contains us u → is_form u ≡ true → M u ≡ of_truth (truth (M u))
  form_truth u k e = truth_is g.types (M u) (subst (λ z. IsOf g.types z (M u)) (form_type u e) (meant u (typed u k)))

  bools : (u : Term) → Contains us u → is_form u ≡ true → (M u ≡ of_truth (truth (M u))) × (denominator g u ≡ 1)
  bools u k e = (form_truth u k e, one u (typed u k) (subst IsNoDistribution (sym (form_type u e)) tt))

  same_from : (a b : Term) → Contains us a → Contains us b → L a ≡ L b → AreSame g j s a b
  same_from = same_of_labels g j s us each_proper bools

  all_same : (xs ys : List Term) → ((a : Term) → Contains xs a → Contains us a) → ((b : Term) → Contains ys b → Contains us b) → map L xs ≡ map L ys → AllSame g j s xs ys
  all_same [] [] f h e = tt
  all_same [] (b ∷ ys) f h e = cc
  all_same (a ∷ xs) [] f h e = cc
  all_same (a ∷ xs) (b ∷ ys) f h e =
      let p : L a ≡ L b = cc in
      let q : map L xs ≡ map L ys = cc in (
        same_from a b (f a (0, omega arith, refl)) (h b (0, omega arith, refl)) p,
        all_same xs ys (λ x k. f x (suc k.0, omega (arith, k.1), k.2)) (λ x k. h x (suc k.0, omega (arith, k.1), k.2)) q,
      )

  -- the label of a form is its truth
  form_is : (u : Term) → is_form u ≡ true → L u ≡ make.bit (truth (M u))
  form_is u e = form_label g j s us u e

  labelled_truth : (u : Term) → is_form u ≡ true → is_true (L u) ≡ truth (M u)
  labelled_truth u e = ap is_true (form_is u e) ∙ true_bit (truth (M u))

  -- tables

  module _ (u : Term) (k : Contains us u) (form : is_form u ≡ true) where
    -- a form that means this truth has its label
    stated : (b : Bool) (l : ℕ) → M u ≡ of_truth b → Some (make.bit b) ≡ Some l → L u ≡ l
    stated b l m e = form_is u form ∙ ap (λ x. make.bit (truth x)) m ∙ ap make.bit (truth_of b) ∙ some_same (make.bit b) l e

    literal : (x : Value) (l : ℕ) → M u ≡ finite x → Some (make.bit (is_one x)) ≡ Some l → L u ≡ l
    literal x l m e =
        let h : has g.types ty.Bool x ≡ true = subst (λ z. IsOf g.types ty.Bool z) m (subst (λ z. IsOf g.types z (M u)) (form_type u form) (meant u (typed u k))) in
        let n = (Lawful-numbers 2).at_place x h in
        stated (is_one x) l (m ∙ ap finite (sym n) ∙ by_number (number_of x) ((Lawful-numbers 2).below x h) ∙ ap (λ z. of_truth (is_one z)) n) e
      where
        by_number : (n : ℕ) → n < 2 → finite (Num n) ≡ of_truth (is_one (Num n))
        by_number zero l = refl
        by_number (suc zero) l = refl
        by_number (suc (suc n)) l = absurd (omega (arith, l))

    abbrev part : Term → Argument
    part a = record { meaning = M a; denominator = denominator g a }

    meaning : (h : Head) (ts : List Term) → (out-Term u).head ≡ h → (out-Term u).args ≡ ts → M u ≡ at_head g j (node h ts (out-Term u).ty) h (map (part_of g j) ts) (out-Term u).ty s
    meaning h ts p q =
        ap (λ z. val g j z s) (each_is_node u ∙ ap (λ z. node z (out-Term u).args (out-Term u).ty) p ∙ ap (λ z. node h z (out-Term u).ty) q) ∙ val_node g j h ts (out-Term u).ty s

    there : (o : Op) (ts : List Term) → (out-Term u).head ≡ head.Builtin o → (out-Term u).args ≡ ts → (a : Term) → Contains ts a → Contains us a
    there o ts p q a m =
        argument_there hyps t u a k (subst (λ z. Contains (reached (reach_of z) (out-Term u).args) a) (sym p) (subst (λ z. Contains z a) (sym q) m))

    forms_equal : (a b : Term) → Contains us a → Contains us b → is_form a ≡ true → is_form b ≡ true → same (M a) (M b) ≡ (if truth (M a) then truth (M b) else not (truth (M b)))
    forms_equal a b ka kb p q =
        ap (λ x. same x (M b)) (form_truth a ka p) ∙ ap (same (of_truth (truth (M a)))) (form_truth b kb q) ∙ equal_table (truth (M a)) (truth (M b))

    -- at one argument
    one_form : (a : Term) (o : Op) (b : Bool) → is_form a ≡ b → M u ≡ operated g.types o (out-Term u).ty (part a ∷ []) → (l : ℕ) → by_table (with_one o b) (L a) 0 ≡ Some l → L u ≡ l
    one_form a op.Not true f m l e = stated (not (truth (M a))) l m (ap (λ p. Some (make.bit (not p))) (sym (labelled_truth a f)) ∙ e)
    one_form a op.Not false f m l e = cc
    one_form a _ b f m l e = cc

    -- at two forms
    module _ (a b : Term) (p : is_form a ≡ true) (q : is_form b ≡ true) where
      tabled : (con : Connective) (l : ℕ) → M u ≡ of_truth (tables.truth con (truth (M a)) (truth (M b))) → Some (make.bit (tables.truth con (is_true (L a)) (is_true (L b)))) ≡ Some l → L u ≡ l
      tabled con l m e =
          stated (tables.truth con (truth (M a)) (truth (M b))) l m
          (ap (λ x. Some (make.bit (tables.truth con x (truth (M b))))) (sym (labelled_truth a p)) ∙ ap (λ x. Some (make.bit (tables.truth con (is_true (L a)) x))) (sym (labelled_truth b q)) ∙ e)

    -- an equation of terms that are no forms
    module _ (a b : Term) (ka : Contains us a) (kb : Contains us b) (n : IsNoDistribution (type_of a)) (e : type_of a ≡ type_of b) where
      form_same : is_form a ≡ is_form b
      form_same = ap is_bool (type_is a ∙ e ∙ sym (type_is b))

      equation : same (M a) (M b) ≡ (L a == L b)
      equation =
          bools_same (same (M a) (M b)) (L a == L b)
          (λ h. (Decides-eqb (L a) (L b)).1 (labels_of_same g j s us each_proper bools a b ka kb form_same
          (record { alike = same_tells (M a) (M b) h; denominator = one a (typed a ka) n ∙ sym (one b (typed b kb) (subst IsNoDistribution e n)) })))
          (λ h. same_told (M a) (M b) g.types (type_of a) n (meant a (typed a ka)) (same_from a b ka kb ((Decides-eqb (L a) (L b)).0 h)).alike)

    two_forms : (a b : Term) (o : Op) (x : Bool) → (is_form a && is_form b) ≡ x → Contains us a → Contains us b → IsOperator o (type_of a ∷ type_of b ∷ []) (out-Term u).ty →
        M u ≡ operated g.types o (out-Term u).ty (part a ∷ part b ∷ []) → (l : ℕ) → by_table (with_two o x) (L a) (L b) ≡ Some l → L u ≡ l
    two_forms a b op.And true f ka kb t m l e = let r = and_parts (is_form a) (is_form b) f in tabled a b r.0 r.1 And l m e
    two_forms a b op.Or true f ka kb t m l e = let r = and_parts (is_form a) (is_form b) f in tabled a b r.0 r.1 Or l m e
    two_forms a b op.Implies true f ka kb t m l e = let r = and_parts (is_form a) (is_form b) f in tabled a b r.0 r.1 Implies l m e
    two_forms a b op.Iff true f ka kb t m l e =
        let r = and_parts (is_form a) (is_form b) f in
        tabled a b r.0 r.1 Iff l (m ∙ ap of_truth (alike_table (truth (M a)) (truth (M b)))) e
    two_forms a b op.Equal true f ka kb t m l e =
        let r = and_parts (is_form a) (is_form b) f in
        tabled a b r.0 r.1 Iff l (m ∙ ap of_truth (forms_equal a b ka kb r.0 r.1)) e
    two_forms a b op.NotEqual true f ka kb t m l e =
        let r = and_parts (is_form a) (is_form b) f in
        tabled a b r.0 r.1 Unlike l (m ∙ ap (λ x. of_truth (not x)) (forms_equal a b ka kb r.0 r.1) ∙ ap of_truth (unequal_table (truth (M a)) (truth (M b)))) e
    two_forms a b op.Equal false f ka kb t m l e = stated (L a == L b) l (m ∙ ap of_truth (equation a b ka kb t.0 t.1)) e
    two_forms a b op.NotEqual false f ka kb t m l e = stated (not (L a == L b)) l (m ∙ ap (λ x. of_truth (not x)) (equation a b ka kb t.0 t.1)) e
    two_forms a b _ x f ka kb t m l e = cc

    by_head : (h : Head) (ts : List Term) → (out-Term u).head ≡ h → (out-Term u).args ≡ ts → IsHead (erased c) h (map type_of ts) (out-Term u).ty →
        (l : ℕ) → label_by (connective_at h ts) (map L (reached (reach_of h) ts)) ≡ Some l → L u ≡ l
    by_head (head.Lit x) [] p q t l e = literal x l (meaning (head.Lit x) [] p q) e
    by_head (head.Builtin o) (a ∷ []) p q t l e = one_form a o (is_form a) refl (meaning (head.Builtin o) (a ∷ []) p q) l e
    by_head (head.Builtin o) (a ∷ b ∷ []) p q t l e =
        two_forms a b o (is_form a && is_form b) refl (there o (a ∷ b ∷ []) p q a (0, omega arith, refl)) (there o (a ∷ b ∷ []) p q b (1, omega arith, refl)) t (meaning (head.Builtin o) (a ∷ b ∷ []) p q) l e
    by_head _ ts p q t l e = cc

  head_of : (u : Term) → IsTyped c u → IsHead (erased c) (out-Term u).head (map type_of (out-Term u).args) (out-Term u).ty
  head_of u x = (parts_typed c (out-Term u).head (out-Term u).args (out-Term u).ty (subst (IsTyped c) (each_is_node u) x)).0

  if_form : (u : Term) → Contains us u → (b : Bool) → is_form u ≡ b → (l : ℕ) → label_by (if b then connective_at (out-Term u).head (out-Term u).args else Other) (map L (arguments_of u)) ≡ Some l → L u ≡ l
  if_form u k true f l e = by_head u k f (out-Term u).head (out-Term u).args refl refl (head_of u (typed u k)) l e
  if_form u k false f l e = cc

  labelling : IsLabelling L us
  labelling = record {
    congruent = λ x y k l o e.
        labels_of_same g j s us each_proper bools x y k l (ap (λ z. is_bool z.ty) o)
        (congruent g j s c respects meant x y (typed x k) (typed y l) o
        (all_same (arguments_of x) (arguments_of y) (λ a m. argument_there hyps t x a k m) (λ b m. argument_there hyps t y b l m) e));
    literals = λ x y k l d e. different_apart g j s x y d (same_from x y k l e);
    truths = λ x k f. omega (arith, form_is x f, bit_below (truth (M x)));
    tables = λ x k l e. if_form x k (is_form x) refl l e;
  }

  is_form_of : (u : Term) → IsForm c u → is_form u ≡ true
  is_form_of u f = ap is_bool (type_is u ∙ f.truth)

  true_label : (u : Term) → IsForm c u → truth (M u) ≡ true → L u ≡ 1
  true_label u f e = form_is u (is_form_of u f) ∙ ap make.bit e

  all_true : (hs : List Term) → AreForms c hs → AllByRecursion (λ h. truth (M h) ≡ true) hs → AllByRecursion (λ h. L h ≡ 1) hs
  all_true [] f e = tt
  all_true (h ∷ hs) f e = (true_label h f.0 e.0, all_true hs f.1 e.1)

  -- true hypotheses give a true conclusion
  pub holds : EqualityValid hyps t → Follows g j s hyps t
  holds valid e = by_truth (truth (M t)) refl
    where
      by_truth : (b : Bool) → truth (M t) ≡ b → truth (M t) ≡ true
      by_truth true q = q
      by_truth false q =
          absurd (valid L (record {
            labelling = labelling;
            assumed = All-from_recursion (λ h. L h ≡ 1) hyps (all_true hyps v e);
            concluded = form_is t (is_form_of t w) ∙ ap make.bit q;
          }))
