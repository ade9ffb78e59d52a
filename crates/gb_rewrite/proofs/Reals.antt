-- A term with another one in place of one that means the same, wherever it stands, means the same.
use Rattle.std.proofs.Common.{◌≡◌, Bool, true, false, if◌then◌else◌, List, refl, sym, ◌∙◌, subst}
use Rattle.gb_terms.specs.declared.term.Term.{Term, Term', Row_of-Term, end_of-Term, more_of-Term, end_of-Head, more_of-Head}
use Rattle.gb_terms.specs.Make.{node}
use Rattle.gb_meaning.specs.Commands.{terms_in}
use Rattle.gb_meaning.specs.Setting.{Setting}
use Rattle.gb_meaning.specs.State.{State}
use Rattle.gb_meaning.specs.Terms.{val}
use Rattle.gb_meaning.specs.Judgments.{Judge, IsFair, speaking, IsSoundForm, AllSound}
use Rattle.gb_laws.specs.Operators.{IsNoDistribution}
use Rattle.gb_laws.specs.Typing.{types_of}
use Rattle.gb_typing.specs.Context.{Context}
use Rattle.gb_typing.specs.Changes.{Made}
use Rattle.gb_typing.specs.Typing.{first, middle, last, IsTyped, AreTyped}
use Rattle.gb_typing.specs.Fits.{IsSettingOf}
use Rattle.gb_typing.specs.Rules.{outermost}
use Rattle.gb_typing.proofs.Made.{made_node}
use Rattle.gb_smt_laws.specs.Alike.{Alike, RespectAlike}
use Rattle.gb_smt_laws.proofs.Alike.{alike_turned}
use Rattle.gb_steps.specs.First.{is_quotient}
use Rattle.gb_prog.specs.Same.{is_same}
use Rattle.gb_rewrite.specs.Rewritten.{rewritten, parts_rewritten}
use Rattle.gb_rewrite.proofs.AtNode.{node_deep}
use Rattle.gb_rewrite.proofs.Deep.{AreDeep, AllDeep, itself}
use Rattle.gb_rewrite.proofs.Inside.{typed_inside}
use Rattle.gb_rewrite.proofs.Kept.{IsInside, inside_first, inside_middle, inside_last, parts_made}
use Rattle.gb_rewrite.proofs.Placed.{everywhere, one}
use Rattle.gb_rewrite.proofs.Same.{are_one}
use Rattle.gb_rewrite.proofs.Sides.{AreSides}
use mathlib.Core.Former.{Count}

module _ (o : Context) (a b : Term) (sides : AreSides (outermost o) a b) (g : Setting) (fits : IsSettingOf (outermost o) g) (j : Judge) (fair : IsFair g j) (respects : RespectAlike (outermost o) g)
    (s : State) (same : Alike (val g (speaking g j) a s) (val g (speaking g j) b s)) where
  abbrev Deep : Context → Term → Term → Type 0
  Deep d x t = AreDeep o g j s d x t

  abbrev All : Context → Context → Context → List Term → List Term → Type 0
  All c m l xs ts = AllDeep o g j s c m l xs ts

  -- one side means inside of binders what it means outside
  put : (d : Context) → IsInside o d → (t : Term) → IsTyped d t → t ≡ a → Deep d b t
  put d i t w e =
      subst (Deep d b) (sym e)
      (record {
        new = typed_inside d b (subst (λ x. IsTyped x b) (sym i) sides.right);
        old = subst (IsTyped d) e w;
        written = sym sides.type;
        alike = λ q k.
            subst (λ x. Alike x (val g (speaking g j) a q)) (sym (everywhere o g fits s j fair b sides.right q k.like))
            (subst (Alike (val g (speaking g j) b s)) (sym (everywhere o g fits s j fair a sides.left q k.like)) (alike_turned (val g (speaking g j) a s) (val g (speaking g j) b s) same));
        denominator = one o g fits s j fair b sides.right (subst IsNoDistribution sides.type sides.single) ∙ sym (one o g fits s j fair a sides.left sides.single);
      })

  either : (d : Context) → IsInside o d → (t : Term) → IsTyped d t → (z : Bool) → is_same t a ≡ z → (x : Term) → Deep d x t → Deep d (if z then b else x) t
  either d i t w true e x k = put d i t w (are_one t a e)
  either d i t w false e x k = k

  themselves : {n : Count} (c m l : Context) (ts : Row_of-Term n) → AreTyped c m l ts → All c m l (terms_in ts) (terms_in ts)
  themselves c m l end_of-Term w = tt
  themselves c m l (more_of-Term t end_of-Term) w = itself o g j s l t w
  themselves c m l (more_of-Term t (more_of-Term u ts)) w = (itself o g j s c t w.0, themselves m m l (more_of-Term u ts) w.1)

  mutual
    pub deep : (d : Context) → IsInside o d → (t : Term) → IsTyped d t → IsSoundForm g t → Deep d (rewritten a b t) t
    deep d i (Term' tt (more_of-Head h end_of-Head) n ts u) w v =
        let c = first d h in
        let m = middle d h in
        let l = last d w.2 h (types_of ts) in
        let xs = parts_rewritten a b (is_quotient h) ts in
        let parts = all_deep c m l (inside_first o d h i) (inside_middle o d h i) (inside_last o d w.2 h (types_of ts) i) (is_quotient h) ts w.3 v.1 in
        let made : Made d u (node h xs u) =
        made_node d h (types_of ts) xs u w.0 w.1 w.2
        (parts_made o a b sides.right sides.type c m l (inside_first o d h i) (inside_middle o d h i) (inside_last o d w.2 h (types_of ts) i) (is_quotient h) ts w.3) in
        either d i (Term' tt (more_of-Head h end_of-Head) n ts u) w (is_same (Term' tt (more_of-Head h end_of-Head) n ts u) a) refl (node h xs u)
        (node_deep o g j fair respects s d h n ts u w v.0 xs made parts)

    pub all_deep : {n : Count} (c m l : Context) → IsInside o c → IsInside o m → IsInside o l → (q : Bool) (ts : Row_of-Term n) → AreTyped c m l ts → AllSound g ts → All c m l (parts_rewritten a b q ts) (terms_in ts)
    all_deep c m l i k r q end_of-Term w v = tt
    all_deep c m l i k r true (more_of-Term t end_of-Term) w v = deep l r t w v.0
    all_deep c m l i k r false (more_of-Term t end_of-Term) w v = deep l r t w v.0
    all_deep c m l i k r true (more_of-Term t (more_of-Term u ts)) w v = (deep c i t w.0 v.0, themselves m m l (more_of-Term u ts) w.1)
    all_deep c m l i k r false (more_of-Term t (more_of-Term u ts)) w v = (deep c i t w.0 v.0, all_deep m m l k k r false (more_of-Term u ts) w.1 v.1)
