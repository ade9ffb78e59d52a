-- A node with other arguments that mean the same means the same.
use Rattle.std.proofs.Common.{◌≡◌, List, ◌∷◌, map, refl, ap, sym, ◌∙◌, subst}
use Rattle.gb_core.specs.declared.ty.Ty.{Ty}
use Rattle.gb_terms.specs.declared.term.Term.{Term, Term', Row_of-Term, end_of-Term, more_of-Term, end_of-Head, more_of-Head}
use Rattle.gb_terms.specs.declared.term.Head.{Head}
use Rattle.gb_terms.specs.Make.{node}
use Rattle.gb_meaning.specs.Commands.{terms_in}
use Rattle.gb_meaning.specs.Setting.{Setting}
use Rattle.gb_meaning.specs.State.{State}
use Rattle.gb_meaning.specs.Terms.{at_head, val, part_of, denominator_of}
use Rattle.gb_meaning.specs.Judgments.{Judge, IsFair, speaking, is_sound_at}
use Rattle.gb_meaning.specs.Written.{type_of}
use Rattle.gb_meaning.proofs.Nodes.{each_is_node, val_node, denominator_node}
use Rattle.gb_laws.proofs.Trees.{out_is}
use Rattle.gb_laws.specs.Typing.{types_of, IsHead}
use Rattle.gb_laws.proofs.Nodes.{type_of_node}
use Rattle.gb_typing.specs.Context.{Context, erased}
use Rattle.gb_typing.specs.Changes.{Made}
use Rattle.gb_typing.specs.Typing.{first, middle, last, IsTyped}
use Rattle.gb_typing.specs.Rules.{outermost}
use Rattle.gb_smt_laws.specs.Alike.{Alike, RespectAlike}
use Rattle.gb_rewrite.proofs.Deep.{AreDeep, AllDeep, all_over, head_alike}
use mathlib.Core.Former.{Count}

types_in : {n : Count} (ts : Row_of-Term n) → types_of ts ≡ map type_of (terms_in ts)
types_in end_of-Term = refl
types_in (more_of-Term t ts) = ap (λ us. type_of t ∷ us) (types_in ts)

pub node_is : (h : Head) (n : _) (ts : _) (u : Ty) → node h (terms_in ts) u ≡ Term' tt (more_of-Head h end_of-Head) n ts u
node_is h n ts u = sym (each_is_node (Term' tt (more_of-Head h end_of-Head) n ts u) ∙ ap (λ x. node x.head x.args x.ty) (out_is h n ts u))

module _ (o : Context) (g : Setting) (j : Judge) (fair : IsFair g j) (respects : RespectAlike (outermost o) g) (s : State) where
  pub node_deep : (d : Context) (h : Head) (n : _) (ts : _) (u : Ty) → (w : IsTyped d (Term' tt (more_of-Head h end_of-Head) n ts u)) → is_sound_at g h → (xs : List Term) → Made d u (node h xs u) →
      AllDeep o g j s (first d h) (middle d h) (last d w.2 h (types_of ts)) xs (terms_in ts) → AreDeep o g j s d (node h xs u) (Term' tt (more_of-Head h end_of-Head) n ts u)
  node_deep d h n ts u w v xs made parts =
      let c = first d h in
      let m = middle d h in
      subst (AreDeep o g j s d (node h xs u)) (node_is h n ts u)
      (record {
        new = made.typed;
        old = subst (IsTyped d) (sym (node_is h n ts u)) w;
        written = made.written ∙ sym (type_of_node h (terms_in ts) u);
        alike = λ q k.
            let parts_deep = subst (λ us. IsHead (erased d) h us u × AllDeep o g j s c m (last d w.2 h us) xs (terms_in ts)) (types_in ts) (w.0, parts) in
            subst (λ x. Alike x (val g (speaking g j) (node h (terms_in ts) u) q)) (sym (val_node g (speaking g j) h xs u q))
            (subst (Alike (at_head g (speaking g j) (node h xs u) h (map (part_of g (speaking g j)) xs) u q)) (sym (val_node g (speaking g j) h (terms_in ts) u q))
            (head_alike o g j s fair d q k respects h w.2 xs (terms_in ts) u parts_deep.0 w.1 v parts_deep.1));
        denominator = denominator_node g h xs u ∙ ap (λ ks. denominator_of g h ks u) (all_over o g j s c m (last d w.2 h (types_of ts)) xs (terms_in ts) parts) ∙ sym (denominator_node g h (terms_in ts) u);
      })
