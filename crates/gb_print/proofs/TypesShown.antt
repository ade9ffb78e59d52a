-- What is printed of a type reads as its tree.
use Rattle.std.specs.Prelude.{ℕ, ◌≡◌, Bool, true, false, if◌then◌else◌, nat_le, List, [], ◌∷◌, ◌++◌, map, codes}
use Rattle.std.specs.Fmt.{decimal}
use Rattle.std.proofs.Common.{refl, ap, sym, ◌∙◌, subst}
use Rattle.gb_core.specs.declared.ty.Ty.{Ty, out-Ty, roll-Ty, roll-out-Ty}
use Rattle.gb_core.specs.declared.ty.Ty.TheOpen as layer
use Rattle.gb_core.specs.declared.ty.Ty.TheFolds.{fold-roll-Ty, map-Ty}
use Rattle.gb_script.specs.declared.head.Head.TheVariants as head
use Rattle.gb_script.specs.declared.tree.Node.{Node}
use Rattle.gb_goal.specs.Answers.{nowhere}
use Rattle.gb_script.specs.Tree.{node}
use Rattle.gb_print_names.specs.declared.bound_names.Known.{Known}
use Rattle.gb_print_names.specs.Text.{Text, Writing, ◌▸◌, each, word}
use Rattle.gb_print_names.specs.Names.{module_name}
use Rattle.gb_print_names.specs.Types as print
use Rattle.gb_print.specs.Types as tree
use Rattle.gb_print.specs.Written.{IsWrittenType, AreWrittenTypes, unit, bool, whole, real, bits, numbers, enumeration, abstract, product, option, maps, globals, none, more}
use Rattle.gb_print.proofs.Levels.{Before}
use Rattle.gb_print.proofs.TypeWords.{IsType, IsTypeOperand, TypePart, factors, factor_trees, type_of_operand, unit_type, bool_type, real_type, int_type, mod_type, bits_type, path_type, glob_type, type_in_round, map_type, option_type, product_type}
use Rattle.gb_print.proofs.Pieces.{ends_bar, Writes, literal, both_written, empty_written, ends_behind, ends_literal, path_ends, path_some, number_ends, number_some}

pub record ShowsTypeOperand (stage globs : ℕ) (w : Writing) (x : Node) : Type 0 where
  pub text : Before
  pub writes : Writes w text
  pub ends : (before : Text) → ends_bar (w before) ≡ false
  pub operand : IsTypeOperand stage globs text x

pub record ShowsType (stage globs : ℕ) (bound : List Known) (t : print.Part) (x : tree.Part) : Type 0 where
  pub product : Bool
  pub text_product : t.0 ≡ product
  pub tree_product : x.0 ≡ product
  pub text : Before
  pub writes : Writes (t.1 bound) text
  pub ends : (before : Text) → ends_bar (t.1 bound before) ≡ false
  pub type : IsType stage globs text (x.1 bound)
  pub operand : product ≡ false → IsTypeOperand stage globs text (x.1 bound)

text_layer : (t : Ty) (l : layer.Ty-F Ty) → out-Ty t ≡ l → print.type_part t ≡ (print.is_product (map-Ty Ty print.Part print.type_part l), print.at_type (map-Ty Ty print.Part print.type_part l))
text_layer t l e = ap print.type_part (sym (roll-out-Ty t) ∙ ap roll-Ty e) ∙ fold-roll-Ty print.Part (λ k. (print.is_product k, print.at_type k)) l

tree_layer : (t : Ty) (l : layer.Ty-F Ty) → out-Ty t ≡ l → tree.type_part t ≡ (print.is_product (map-Ty Ty tree.Part tree.type_part l), tree.at_type (map-Ty Ty tree.Part tree.type_part l))
tree_layer t l e = ap tree.type_part (sym (roll-out-Ty t) ∙ ap roll-Ty e) ∙ fold-roll-Ty tree.Part (λ k. (print.is_product k, tree.at_type k)) l

operand_by : {stage globs : ℕ} {bound : List Known} {t : print.Part} {x : tree.Part} (s : ShowsType stage globs bound t x) (b : Bool) → s.product ≡ b
    → ShowsTypeOperand stage globs (print.operand t bound) (tree.operand x bound)
operand_by {stage} {globs} {bound} {t} {x} s true e =
    let text : t.0 ≡ true = s.text_product ∙ e in
    let node_is : x.0 ≡ true = s.tree_product ∙ e in
    subst (λ (c : Bool). ShowsTypeOperand stage globs (print.in_brackets_if c (t.1 bound)) (tree.operand x bound)) (sym text)
    (subst (λ (c : Bool). ShowsTypeOperand stage globs (print.in_brackets_if true (t.1 bound)) (if c then node head.BracketedType [] (x.1 bound ∷ []) nowhere else x.1 bound)) (sym node_is)
    (record {
      text = λ mid. 40 ∷ s.text (41 ∷ mid);
      writes = both_written (both_written (literal (codes "(")) s.writes) (literal (codes ")"));
      ends = λ before. ends_literal (codes ")") refl refl (t.1 bound (before ++ codes "("));
      operand = type_in_round s.type;
    }))
operand_by {stage} {globs} {bound} {t} {x} s false e =
    let text : t.0 ≡ false = s.text_product ∙ e in
    let node_is : x.0 ≡ false = s.tree_product ∙ e in
    subst (λ (c : Bool). ShowsTypeOperand stage globs (print.in_brackets_if c (t.1 bound)) (tree.operand x bound)) (sym text)
    (subst (λ (c : Bool). ShowsTypeOperand stage globs (print.in_brackets_if false (t.1 bound)) (if c then node head.BracketedType [] (x.1 bound ∷ []) nowhere else x.1 bound)) (sym node_is)
    (record { text = s.text; writes = s.writes; ends = s.ends; operand = s.operand e }))

pub operand_shown : {stage globs : ℕ} {bound : List Known} {t : print.Part} {x : tree.Part} → ShowsType stage globs bound t x → ShowsTypeOperand stage globs (print.operand t bound) (tree.operand x bound)
operand_shown s = operand_by s s.product refl

-- the parts of a product but the first
record ShowsFactors (stage globs : ℕ) (bound : List Known) (ts : List print.Part) (xs : List tree.Part) : Type 0 where
  parts : List (TypePart stage globs)
  writes : Writes (each (λ t. word (codes " * ") ▸ print.operand t bound) ts) (factors parts)
  trees : factor_trees parts ≡ map (λ x. tree.operand x bound) xs
  ends : (before : Text) → ends_bar before ≡ false → ends_bar (each (λ t. word (codes " * ") ▸ print.operand t bound) ts before) ≡ false

abbrev part_of : {stage globs : ℕ} {w : Writing} {x : Node} → ShowsTypeOperand stage globs w x → TypePart stage globs
part_of {x = x} o = record { text = o.text; tree = x; operand = o.operand }

module _ (stage globs : ℕ) (goal : nat_le 1 globs ≡ true → nat_le 1 stage ≡ true) (bound : List Known) where
  by_layer : (t : Ty) (l : layer.Ty-F Ty) → out-Ty t ≡ l
      → ShowsType stage globs bound (print.is_product (map-Ty Ty print.Part print.type_part l), print.at_type (map-Ty Ty print.Part print.type_part l))
      (print.is_product (map-Ty Ty tree.Part tree.type_part l), tree.at_type (map-Ty Ty tree.Part tree.type_part l))
      → ShowsType stage globs bound (print.type_part t) (tree.type_part t)
  by_layer t l e s =
      subst (λ p. ShowsType stage globs bound p (tree.type_part t)) (sym (text_layer t l e))
      (subst (λ x. ShowsType stage globs bound (print.is_product (map-Ty Ty print.Part print.type_part l), print.at_type (map-Ty Ty print.Part print.type_part l)) x) (sym (tree_layer t l e)) s)

  one : {shown : print.Shown} {node_of : tree.Shown} (text : Before) → Writes (shown bound) text → ((before : Text) → ends_bar (shown bound before) ≡ false) → IsTypeOperand stage globs text (node_of bound)
      → ShowsType stage globs bound (false, shown) (false, node_of)
  one text w e o = record { product = false; text_product = refl; tree_product = refl; text = text; writes = w; ends = e; type = type_of_operand o; operand = λ h. o }

  mutual
    pub type_shown : {t : Ty} → IsWrittenType globs bound t → ShowsType stage globs bound (print.type_part t) (tree.type_part t)
    type_shown {t = t} (unit e) = by_layer t layer.Unit e (one (λ mid. codes "unit" ++ mid) (literal (codes "unit")) (ends_literal (codes "unit") refl refl) unit_type)
    type_shown {t = t} (bool e) = by_layer t layer.Bool e (one (λ mid. codes "bool" ++ mid) (literal (codes "bool")) (ends_literal (codes "bool") refl refl) bool_type)
    type_shown {t = t} (whole e) = by_layer t layer.Int e (one (λ mid. codes "int" ++ mid) (literal (codes "int")) (ends_literal (codes "int") refl refl) int_type)
    type_shown {t = t} (real e) = by_layer t layer.Real e (one (λ mid. codes "real" ++ mid) (literal (codes "real")) (ends_literal (codes "real") refl refl) real_type)
    type_shown {t = t} (bits {n = n} e r) =
        by_layer t (layer.Bits n) e (one (λ mid. codes "bits " ++ (decimal n ++ mid)) (both_written (literal (codes "bits ")) (literal (decimal n)))
        (λ before. ends_behind (before ++ codes "bits ") (decimal n) (number_some n r) ∙ number_ends n r) (bits_type n r))
    type_shown {t = t} (numbers {n = n} e r) =
        by_layer t (layer.Mod n) e (one (λ mid. codes "int[" ++ (decimal n ++ (93 ∷ mid))) (both_written (both_written (literal (codes "int[")) (literal (decimal n))) (literal (codes "]")))
        (λ before. ends_literal (codes "]") refl refl ((before ++ codes "int[") ++ decimal n)) (mod_type n r))
    type_shown {t = t} (enumeration {x = x} {n = n} e h) =
        by_layer t (layer.Enumeration x n) e (one (λ mid. x ++ mid) (literal x) (λ before. ends_behind before x (path_some x h) ∙ path_ends x h) (path_type x h))
    type_shown {t = t} (abstract {x = x} e h) =
        by_layer t (layer.Abstract x) e (one (λ mid. x ++ mid) (literal x) (λ before. ends_behind before x (path_some x h) ∙ path_ends x h) (path_type x h))
    type_shown {t = t} (globals {m = m} e g h) =
        let x = module_name bound m in
        by_layer t (layer.Glob m) e (one (λ mid. codes "glob " ++ (x ++ mid)) (both_written (literal (codes "glob ")) (literal x))
        (λ before. ends_behind (before ++ codes "glob ") x (path_some x h) ∙ path_ends x h) (glob_type x (goal g) g h))
    type_shown {t = t} (option {u = u} e d) =
        let o = operand_shown (type_shown d) in
        by_layer t (layer.Opt u) e (one (λ mid. o.text (codes " option" ++ mid)) (both_written o.writes (literal (codes " option")))
        (λ before. ends_literal (codes " option") refl refl (print.operand (print.type_part u) bound before)) (option_type o.operand))
    type_shown {t = t} (maps {u = u} {v = v} e c d) =
        let k = type_shown c in
        let w = type_shown d in
        by_layer t (layer.Map u v) e (one (λ mid. 40 ∷ k.text (codes ", " ++ w.text (codes ") fmap" ++ mid)))
        (both_written (both_written (both_written (both_written (literal (codes "(")) k.writes) (literal (codes ", "))) w.writes) (literal (codes ") fmap")))
        (λ before. ends_literal (codes ") fmap") refl refl ((print.type_part v).1 bound ((print.type_part u).1 bound (before ++ codes "(") ++ codes ", "))) (map_type k.type w.type))
    type_shown {t = t} (product {u = u} {v = v} {ts = ts} e (more c (more d ds))) =
        let a = operand_shown (type_shown c) in
        let b = operand_shown (type_shown d) in
        let fs = types_shown ds in
        by_layer t (layer.Tuple (u ∷ v ∷ ts)) e (record {
          product = true;
          text_product = refl;
          tree_product = refl;
          text = λ mid. a.text (codes " * " ++ b.text (factors fs.parts mid));
          writes = both_written a.writes (both_written (both_written (literal (codes " * ")) b.writes) fs.writes);
          ends = λ before. fs.ends (print.operand (print.type_part v) bound (print.operand (print.type_part u) bound before ++ codes " * ")) (b.ends (print.operand (print.type_part u) bound before ++ codes " * "));
          type = subst (λ xs. IsType stage globs (λ mid. a.text (codes " * " ++ b.text (factors fs.parts mid))) (node head.ProductType [] (tree.operand (tree.type_part u) bound ∷ tree.operand (tree.type_part v) bound ∷ xs) nowhere)) fs.trees
              (product_type (part_of a) (part_of b) fs.parts);
          operand = λ h. absurd cc;
        })

    types_shown : {ts : List Ty} → AreWrittenTypes globs bound ts → ShowsFactors stage globs bound (map print.type_part ts) (map tree.type_part ts)
    types_shown none = record { parts = []; writes = empty_written; trees = refl; ends = λ before h. h }
    types_shown (more {t = t} c ds) =
        let o = operand_shown (type_shown c) in
        let fs = types_shown ds in
        record {
          parts = part_of o ∷ fs.parts;
          writes = both_written (both_written (literal (codes " * ")) o.writes) fs.writes;
          trees = ap (λ xs. tree.operand (tree.type_part t) bound ∷ xs) fs.trees;
          ends = λ before h. fs.ends (print.operand (print.type_part t) bound (before ++ codes " * ")) (o.ends (before ++ codes " * "));
        }
