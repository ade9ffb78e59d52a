-- Trees of a script as readers make them: where a name stands, it is one, and tuples have two parts.
use Rattle.std.specs.Prelude.{◌≡◌, true, List, ◌∷◌}
use Rattle.std.specs.List.{AllByRecursion}
use Rattle.gb_script.specs.declared.head.Head.{Head}
use Rattle.gb_script.specs.declared.head.Head.TheVariants as head
use Rattle.gb_script.specs.declared.tree.Node.{Node}
use Rattle.gb_script.specs.Tree.{head_of, parts_of, text_of}
use Rattle.gb_script.specs.Each.{Each}
use Rattle.gb_print.specs.Written.{is_name_text}
use Rattle.gb_shown.specs.Trees.{IsFull}

abbrev pub IsName : Node → Type 0
IsName x = is_name_text (text_of x) ≡ true

-- what a node of this head and these parts names is named by a name
abbrev pub HasItsNames : Head → List Node → Type 0
HasItsNames head.Values (x ∷ xs ∷ ts) = IsName x × AllByRecursion IsName (parts_of xs)
HasItsNames head.Memory (x ∷ ps) = IsName x
HasItsNames head.ModuleBind (x ∷ ps) = IsName x
HasItsNames head.Module (x ∷ ps) = IsName x
HasItsNames head.AscribedModule (x ∷ ps) = IsName x
HasItsNames head.Globals (xs ∷ ts) = AllByRecursion IsName (parts_of xs)
HasItsNames head.Procedure (x ∷ ps) = IsName x
HasItsNames head.Formal (x ∷ ts) = IsName x
HasItsNames head.Variables (xs ∷ ts) = AllByRecursion IsName (parts_of xs)
HasItsNames head.TypeDeclaration (x ∷ ps) = IsName x
HasItsNames head.Enumeration xs = AllByRecursion IsName xs
HasItsNames head.OperatorDeclaration (x ∷ ps) = IsName x
HasItsNames head.ModuleType (x ∷ ps) = IsName x
HasItsNames head.ModuleParameter (x ∷ ts) = IsName x
HasItsNames head.Signature (x ∷ ps) = IsName x
HasItsNames head.Lemma (x ∷ ps) = IsName x
HasItsNames head.HaveForm (x ∷ ps) = IsName x
HasItsNames head.HaveLemma (x ∷ ps) = IsName x
HasItsNames _ ps = Unit {0}

-- a node of a tree that is read
pub record IsReadNode (x : Node) : Type 0 where
  pub name : head_of x ≡ head.Name → IsName x
  pub names : HasItsNames (head_of x) (parts_of x)
  pub full : IsFull x

-- a tree that is read
abbrev pub IsReadTree : Node → Type 0
IsReadTree x = Each IsReadNode x
