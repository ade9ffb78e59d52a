-- What a module expression is, by its parts.
use Rattle.std.proofs.Common.{◌≡◌, true, if◌then◌else◌, ◌≤◌, List, [], ◌∷◌, map, length, get_or, drop, refl, ap, sym, ◌∙◌, arith}
use Rattle.gb_core.specs.declared.place.Place.{Place}
use Rattle.gb_core.specs.declared.refusal.Why.TheVariants.{Argument}
use Rattle.gb_script.specs.declared.head.Head.{Head}
use Rattle.gb_script.specs.declared.head.Head.TheVariants as head
use Rattle.gb_script.specs.declared.tree.Node.{Node}
use Rattle.gb_script.specs.Tree.{head_of, text_of, parts_of, place_of}
use Rattle.gb_goal.specs.Answers.Answer.{refused}
use Rattle.gb_names.specs.declared.bindings.Binding.{Binding}
use Rattle.gb_names.specs.Environment.{Environment, Name}
use Rattle.gb_names.specs.Modules.{Part, Read, applied, bracketed, expression, module_at, names, read, read_by, wholes, with_modules, with_readings}
use Rattle.gb_names.specs.Names.{path, spelled_by}
use Rattle.gb_names.proofs.Nodes.{said_is}

read_is : (t : Node) → read t ≡ read_by (head_of t) (text_of t) (with_readings (parts_of t)) (place_of t)
unfolding read
read_is t = said_is read_by t

pub wholes_read : (ts : List Node) → wholes (with_readings ts) ≡ with_modules ts
wholes_read [] = refl
wholes_read (t ∷ ts) = ap (λ us. (t, module_at t) ∷ us) (wholes_read ts)

-- the nodes themselves
pub words_read : (ts : List Node) → map (λ (t : Part). t.0) (with_readings ts) ≡ ts
words_read [] = refl
words_read (t ∷ ts) = ap (λ us. t ∷ us) (words_read ts)

-- the parts of a node as module expressions
pub parts_read : (t : Node) → (read t).parts ≡ with_modules (parts_of t)
parts_read t = ap (λ (z : Read). z.parts) (read_is t) ∙ wholes_read (parts_of t)

pub module_is : (t : Node) → module_at t ≡ expression (head_of t) (text_of t) (with_readings (parts_of t)) (place_of t)
module_is t = ap (λ (z : Read). z.whole) (read_is t)

module _ (x : Name) (p : Place) (at : Environment) (bound : List Binding) where
  -- a module expression names its first part, and the others are its arguments
  pub expression_is : (ts : List Node) (m : Node) → 1 ≤ length ts → m ≡ get_or ts 0 m
      → expression head.ModuleExpression x (with_readings ts) p at bound ≡ applied (spelled_by m) (place_of m) (with_modules (drop 1 ts)) at bound
  unfolding expression
  expression_is [] m h e = absurd (omega (arith, h))
  expression_is (n ∷ ts) m h e =
      ap (λ us. applied (spelled_by n) (place_of n) us at bound) (wholes_read ts) ∙ ap (λ z. applied (spelled_by z) (place_of z) (with_modules ts) at bound) (sym e)

  -- a form of a name with an argument
  pub application_is : (m b : Node) → names (head_of m) ≡ true
      → expression head.Apply x (with_readings (m ∷ b ∷ [])) p at bound ≡ bracketed (spelled_by m) (head_of b) (with_modules (parts_of b)) p at bound
  unfolding expression
  application_is m b h =
      ap (λ z. if z then bracketed (spelled_by m) (head_of b) (read b).parts p at bound else refused Argument p) h
      ∙ ap (λ ts. bracketed (spelled_by m) (head_of b) ts p at bound) (parts_read b)

  pub name_is : (ts : List Node) → expression head.Name x (with_readings ts) p at bound ≡ applied x p [] at bound
  unfolding expression
  name_is ts = refl

  pub path_is : (ts : List Node) → expression head.Path x (with_readings ts) p at bound ≡ applied (path ts) p [] at bound
  unfolding expression
  path_is ts = ap (λ ws. applied (path ws) p [] at bound) (words_read ts)

  -- other forms are no modules
  pub no_module : (h : Head) (ts : List Part) → (h ≡ head.Name → ⊥) → (h ≡ head.Path → ⊥) → (h ≡ head.ModuleExpression → ⊥) → (h ≡ head.Apply → ⊥) → expression h x ts p at bound ≡ refused Argument p
  unfolding expression
  no_module head.Name ts a b c d = absurd (a refl)
  no_module head.Path ts a b c d = absurd (b refl)
  no_module head.ModuleExpression ts a b c d = absurd (c refl)
  no_module head.Apply ts a b c d = absurd (d refl)
  no_module _ ts a b c d = refl
