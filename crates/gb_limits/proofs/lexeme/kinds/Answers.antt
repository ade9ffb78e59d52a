use Rattle.std.proofs.Common.{◌≡◌, ℕ, ◌+◌, ◌<◌, List, [], ◌∷◌, ◌++◌, length, get_or, sym, subst, ap, ◌∙◌, map, take}
use Rattle.std.proofs.lemmas.List.{map_more, take_all}
use Rattle.std.specs.List.{All}
use Rattle.gb_script.specs.Parsing.{IsKind}
use Rattle.gb_script.specs.declared.text.Lexeme.{Lexeme}
use Rattle.gb_limits.specs.Kinds.{kind_of}
use Rattle.gb_limits.proofs.AllKinds.{all_kinds}
use Rattle.gb_limits.proofs.lexeme.kinds.Goals as goal

-- one more kind
kinds_more : (all : List Lexeme) (at : ℕ) (l : Lexeme) (kind : ℕ) (kinds more : List ℕ) → at < length all → l ≡ get_or all at l → kind ≡ kind_of l.terminal
    → kinds ≡ map (λ (x : Lexeme). kind_of x.terminal) (take at all) → more ≡ kinds ++ kind ∷ [] → more ≡ map (λ (x : Lexeme). kind_of x.terminal) (take (at + 1) all)
kinds_more all at l kind kinds more within here its so_far e =
    e
    ∙ (ap (λ (ks : List ℕ). ks ++ kind ∷ []) so_far
    ∙ (ap (λ (k : ℕ). map (λ (x : Lexeme). kind_of x.terminal) (take at all) ++ k ∷ []) (its ∙ ap (λ (x : Lexeme). kind_of x.terminal) here)
    ∙ sym (map_more (λ (x : Lexeme). kind_of x.terminal) all at l within)))

pub loop-lexeme-init : goal.loop-lexeme-init
loop-lexeme-init c = c.new-kinds.ensures.items

pub loop-lexeme-preserved : goal.loop-lexeme-preserved
loop-lexeme-preserved c =
    kinds_more c.as_slice-lexeme-items.result.now c.loop-lexeme.lexeme-index c.lexeme-item.result c.kind.result c.loop-lexeme.kinds.items c.push.new.self.items
    c.loop-lexeme-test.true c.lexeme-item.is c.kind.ensures c.loop-lexeme.invariant c.in_ok-push.ensures.items

pub returns-clause-kinds : goal.returns-clause-kinds
returns-clause-kinds c =
    c.loop-lexeme.invariant
    ∙ ap (map (λ (l : Lexeme). kind_of l.terminal)) (take_all c.loop-lexeme.lexeme-index c.as_slice-lexeme-items.result.now c.loop-lexeme-test.false ∙ c.as_slice-lexeme-items.ensures)

pub returns-clause-all : goal.returns-clause-all
returns-clause-all c =
    subst (All IsKind) (sym c.loop-lexeme.invariant) (all_kinds (take c.loop-lexeme.lexeme-index c.as_slice-lexeme-items.result.now))
