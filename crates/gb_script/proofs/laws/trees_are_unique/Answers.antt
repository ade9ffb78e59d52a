use Rattle.std.specs.Prelude.{◌≡◌, List, [], ◌∷◌}
use Rattle.std.proofs.Common.{ap, ◌∙◌}
use Rattle.gb_script.specs.declared.table.Step.{Step}
use Rattle.gb_script.specs.Grammar.{grammar_of}
use Rattle.gb_script.proofs.Rows.{sound_table}
use Rattle.gb_script.proofs.Unique.{unique}
use Rattle.gb_script.specs.declared.action.Rule.{Rule}
use Rattle.gb_script.specs.declared.text.Text.{Text}
use Rattle.gb_script.specs.declared.tree.Node.{Node}
use Rattle.gb_script.specs.declared.value.Value.TheVariants.{Tree}
use Rattle.gb_script.specs.Build.{built}
use Rattle.gb_script.proofs.Sorted.{same_tree}
use Rattle.gb_script.proofs.laws.trees_are_unique.Goals as goal

same : (t : Text) (a b : List (Step Rule)) (x y : Node) → a ≡ b → built t a ≡ Tree x ∷ [] → built t b ≡ Tree y ∷ [] → x ≡ y
same t a b x y e p q = same_tree (built t a) x y p (ap (λ (l : List (Step Rule)). built t l) e ∙ q)

pub returns : goal.returns
returns g c = λ t kinds x y h p q.
    same t p.0 q.0 x y
    (unique (grammar_of c.args._stage c.args._rows.now c.args._symbols.now) g.claims
    (sound_table c.args._stage c.args._rows.now c.args._symbols.now g.claims c.args._places.now c.requires.0) c.args._start c.requires.1 kinds p.0 q.0 h p.1 q.1)
    p.2 q.2
