-- What is printed of module expressions reads as their trees.
use Rattle.std.specs.Prelude.{ℕ, ◌≡◌, true, List, [], ◌∷◌, map, codes}
use Rattle.std.proofs.Common.{refl, ap, ap₂, sym, ◌∙◌}
use Rattle.gb_terms.specs.declared.module.Mexp.{Mexp, out-Mexp, roll-Mexp, roll-out-Mexp}
use Rattle.gb_terms.specs.declared.module.Mexp.TheOpen as layer
use Rattle.gb_terms.specs.declared.module.Mexp.TheFolds.{fold-roll-Mexp}
use Rattle.gb_script.specs.declared.head.Head.TheVariants as head
use Rattle.gb_print_names.specs.declared.bound_names.Known.{Known}
use Rattle.gb_print_names.specs.Text.{Text, ◌▸◌, each, word, separated}
use Rattle.gb_print_names.specs.BoundNames.{Name}
use Rattle.gb_print_names.specs.Names.{module_name}
use Rattle.gb_print_names.specs.Modules as print
use Rattle.gb_print.specs.Nodes as nodes
use Rattle.gb_print.specs.Types as tree
use Rattle.gb_print.specs.Written.{is_path, IsWrittenModule, AreWrittenModules, name, apply, no_module, more_module}
use Rattle.gb_print.proofs.Atoms.{more_forms, form_trees}
use Rattle.gb_print.proofs.ModuleWords.{ModulePart, form_parts, module_trees, named_module, applied_module, bracket_called}
use Rattle.gb_print.proofs.Pieces.{Writes, literal, both_written, empty_written}
use Rattle.gb_print.proofs.Shown.{writes_same}

-- A module, by its layer.

text_by : (m : Mexp) (l : layer.Mexp-F Mexp) → out-Mexp m ≡ l → print.module_text m ≡ print.module_text (roll-Mexp l)
text_by m l e = ap print.module_text (sym (roll-out-Mexp m) ∙ ap roll-Mexp e)

tree_by : (m : Mexp) (l : layer.Mexp-F Mexp) → out-Mexp m ≡ l → tree.module_tree m ≡ tree.module_tree (roll-Mexp l)
tree_by m l e = ap tree.module_tree (sym (roll-out-Mexp m) ∙ ap roll-Mexp e)

called_by : (m : Mexp) (l : layer.Mexp-F Mexp) → out-Mexp m ≡ l → tree.called_module m ≡ tree.called_module (roll-Mexp l)
called_by m l e = ap tree.called_module (sym (roll-out-Mexp m) ∙ ap roll-Mexp e)

module _ (bound : List Known) (m : Mexp) (x : Name) where
  pub name_text : out-Mexp m ≡ layer.Name x → (before : Text) → print.module_text m bound before ≡ word (module_name bound x) before
  name_text e before = ap (λ f. f bound before) (text_by m (layer.Name x) e ∙ fold-roll-Mexp print.Shown print.at_module (layer.Name x))

  name_tree : out-Mexp m ≡ layer.Name x → tree.module_tree m bound ≡ tree.module_of bound x []
  name_tree e = ap (λ f. f bound) (tree_by m (layer.Name x) e ∙ fold-roll-Mexp tree.Shown tree.at_module (layer.Name x))

  name_called : out-Mexp m ≡ layer.Name x → tree.called_module m bound ≡ nodes.path (module_name bound x)
  name_called e = ap (λ f. f bound) (called_by m (layer.Name x) e ∙ fold-roll-Mexp tree.Shown tree.at_called_module (layer.Name x))

  pub apply_text : (ms : List Mexp) → out-Mexp m ≡ layer.Apply x ms → (before : Text)
      → print.module_text m bound before ≡ (word (module_name bound x) ▸ word (codes "(") ▸ separated (codes ", ") (λ n. n bound) (map print.module_text ms) ▸ word (codes ")")) before
  apply_text ms e before = ap (λ f. f bound before) (text_by m (layer.Apply x ms) e ∙ fold-roll-Mexp print.Shown print.at_module (layer.Apply x ms))

  apply_tree : (ms : List Mexp) → out-Mexp m ≡ layer.Apply x ms → tree.module_tree m bound ≡ tree.module_of bound x (map (λ n. n bound) (map tree.module_tree ms))
  apply_tree ms e = ap (λ f. f bound) (tree_by m (layer.Apply x ms) e ∙ fold-roll-Mexp tree.Shown tree.at_module (layer.Apply x ms))

  apply_called : (ms : List Mexp) → out-Mexp m ≡ layer.Apply x ms
      → tree.called_module m bound ≡ nodes.tree head.Apply (nodes.path (module_name bound x) ∷ tree.functor_arguments (map (λ n. n bound) (map tree.called_module ms)) ∷ [])
  apply_called ms e = ap (λ f. f bound) (called_by m (layer.Apply x ms) e ∙ fold-roll-Mexp tree.Shown tree.at_called_module (layer.Apply x ms))

-- trees of several, one by one
pub trees_are : (bound : List Known) (ms : List Mexp) → map (λ m. tree.module_tree m bound) ms ≡ map (λ n. n bound) (map tree.module_tree ms)
trees_are bound [] = refl
trees_are bound (m ∷ ms) = ap (λ l. tree.module_tree m bound ∷ l) (trees_are bound ms)

pub called_are : (bound : List Known) (ms : List Mexp) → map (λ m. tree.called_module m bound) ms ≡ map (λ n. n bound) (map tree.called_module ms)
called_are bound [] = refl
called_are bound (m ∷ ms) = ap (λ l. tree.called_module m bound ∷ l) (called_are bound ms)

-- What is printed of a module.

pub record ShowsExpression (stage : ℕ) (bound : List Known) (m : Mexp) : Type 0 where
  pub part : ModulePart stage
  pub writes : Writes (print.module_text m bound) part.text
  pub tree_is : tree.module_tree m bound ≡ part.tree
  pub called_is : tree.called_module m bound ≡ part.called

-- modules, each behind a comma
pub record ShowsExpressions (stage : ℕ) (bound : List Known) (ms : List Mexp) : Type 0 where
  pub parts : List (ModulePart stage)
  pub writes : Writes (each (λ n. word (codes ", ") ▸ n bound) (map print.module_text ms)) (more_forms (form_parts parts))
  pub trees : map (λ n. n bound) (map tree.module_tree ms) ≡ module_trees parts
  pub called : map (λ n. n bound) (map tree.called_module ms) ≡ form_trees (form_parts parts)

module _ (stage : ℕ) (bound : List Known) where
  pub applied_shown : (m n : Mexp) (x : Name) (ms : List Mexp) (h : is_path (module_name bound x) ≡ true) → out-Mexp m ≡ layer.Apply x (n ∷ ms) → ShowsExpression stage bound n → ShowsExpressions stage bound ms → ShowsExpression stage bound m
  applied_shown m n x ms h e a b =
      record {
        part = applied_module (module_name bound x) h a.part b.parts;
        writes = writes_same (apply_text bound m x (n ∷ ms) e)
            (both_written (both_written (both_written (literal (module_name bound x)) (literal (codes "("))) (both_written a.writes b.writes)) (literal (codes ")")));
        tree_is = apply_tree bound m x (n ∷ ms) e ∙ ap₂ (λ y ys. tree.module_of bound x (y ∷ ys)) a.tree_is b.trees;
        called_is = apply_called bound m x (n ∷ ms) e
            ∙ ap₂ (λ y ys. nodes.tree head.Apply (nodes.path (module_name bound x) ∷ tree.functor_arguments (y ∷ ys) ∷ [])) a.called_is b.called
            ∙ bracket_called (module_name bound x) h a.part b.parts;
      }

  mutual
    pub expression_shown : {m : Mexp} → IsWrittenModule bound m → ShowsExpression stage bound m
    expression_shown {m = m} (name {x = x} e h) = record {
      part = named_module (module_name bound x) h;
      writes = writes_same (name_text bound m x e) (literal (module_name bound x));
      tree_is = name_tree bound m x e;
      called_is = name_called bound m x e;
    }
    expression_shown {m = m} (apply {n = n} {x = x} {ms = ms} e h (more_module d ds)) = applied_shown m n x ms h e (expression_shown d) (expressions_shown ds)

    pub expressions_shown : {ms : List Mexp} → AreWrittenModules bound ms → ShowsExpressions stage bound ms
    expressions_shown no_module = record { parts = []; writes = empty_written; trees = refl; called = refl }
    expressions_shown (more_module d ds) =
        let a = expression_shown d in
        let b = expressions_shown ds in
        record {
          parts = a.part ∷ b.parts;
          writes = both_written (both_written (literal (codes ", ")) a.writes) b.writes;
          trees = ap₂ (λ y ys. y ∷ ys) a.tree_is b.trees;
          called = ap₂ (λ y ys. y ∷ ys) a.called_is b.called;
        }
