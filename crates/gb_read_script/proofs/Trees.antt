-- Trees of lines, from the first line on.
use Rattle.std.specs.Prelude.{◌≡◌, ℕ, ◌+◌, ◌<◌, List, [], ◌∷◌, ◌++◌, length, take}
use Rattle.std.specs.List.{AllZip}
use Rattle.std.proofs.Common.{ap, get_or, sym, subst, ◌∙◌}
use Rattle.std.proofs.lemmas.List.{take_more}
use Rattle.gb_script.specs.declared.tree.Node.{Node}
use Rattle.gb_read_script.specs.declared.goal_lines.ReadLine.{ReadLine}
use Rattle.gb_read_script.specs.Goal.{IsTreeOf}

behind : (ls : List ReadLine) (xs : List Node) (l : ReadLine) (x : Node) → AllZip IsTreeOf ls xs → IsTreeOf l x → AllZip IsTreeOf (ls ++ l ∷ []) (xs ++ x ∷ [])
behind [] [] l x h t = (t, tt)
behind [] (y ∷ ys) l x h t = absurd h
behind (m ∷ ms) [] l x h t = absurd h
behind (m ∷ ms) (y ∷ ys) l x h t = (h.0, behind ms ys l x h.1 t)

-- a line more
pub one_more : (lines : List ReadLine) (i : ℕ) (l : ReadLine) (xs : List Node) (x : Node) → i < length lines → l ≡ get_or lines i l
    → AllZip IsTreeOf (take i lines) xs → IsTreeOf l x → AllZip IsTreeOf (take (i + 1) lines) (xs ++ x ∷ [])
one_more lines i l xs x lt same h t =
    subst (λ (ls : List ReadLine). AllZip IsTreeOf ls (xs ++ x ∷ [])) (ap (λ (m : ReadLine). take i lines ++ m ∷ []) same ∙ sym (take_more lines i l lt)) (behind (take i lines) xs l x h t)
