-- The loops of statements themselves, apart from those of the procedures that they call.
use Rattle.std.proofs.Common.{◌↔◌, List, [], ◌∷◌, ◌++◌, sym, subst}
use Rattle.gb_terms.specs.declared.term.Cmd.{Cmd}
use Rattle.gb_terms.specs.declared.term.Head.TheVariants.{If, While}
use Rattle.gb_terms.specs.declared.term.Instr.{Instr}
use Rattle.gb_terms.specs.declared.term.Term.{Term}
use Rattle.gb_meaning.specs.Commands.{statements}
use Rattle.gb_meaning.specs.Loops.{IsGood}
use Rattle.gb_meaning.specs.Program.{Program, followed_by}
use Rattle.gb_meaning.specs.Program.Program.{done, assign, sample, branch, loop, call, ask}
use Rattle.gb_meaning.specs.Setting.{Setting}
use Rattle.gb_meaning.specs.State.{closed}
use Rattle.gb_meaning.proofs.Bodies.{statement_if, statement_while}
use Rattle.gb_typing.proofs.Runs.{statements_followed}
use Rattle.gb_meaning.specs.Holds.{LoopsAreGood}

module _ (g : Setting) where
  abbrev pub Good : List Instr → Type 0
  Good is = LoopsAreGood g (statements g is)

  followed_parts : (c d : Program) → LoopsAreGood g (followed_by c d) → LoopsAreGood g c × LoopsAreGood g d
  followed_parts done d h = (tt, h)
  followed_parts (assign xs e c) d h = followed_parts c d h
  followed_parts (sample x e c) d h = followed_parts c d h
  followed_parts (branch e a b c) d h = let k = followed_parts c d h.2 in ((h.0, h.1, k.0), k.1)
  followed_parts (loop e v a c) d h = let k = followed_parts c d h.2 in ((h.0, h.1, k.0), k.1)
  followed_parts (call xs r es c) d h = followed_parts c d h
  followed_parts (ask xs o es c) d h = followed_parts c d h

  followed_made : (c d : Program) → LoopsAreGood g c → LoopsAreGood g d → LoopsAreGood g (followed_by c d)
  followed_made done d h k = k
  followed_made (assign xs e c) d h k = followed_made c d h k
  followed_made (sample x e c) d h k = followed_made c d h k
  followed_made (branch e a b c) d h k = (h.0, h.1, followed_made c d h.2 k)
  followed_made (loop e v a c) d h k = (h.0, h.1, followed_made c d h.2 k)
  followed_made (call xs r es c) d h k = followed_made c d h k
  followed_made (ask xs o es c) d h k = followed_made c d h k

  -- the loops of statements one after another
  pub good_append : (is js : List Instr) → Good (is ++ js) ↔ (Good is × Good js)
  good_append is js = (
    λ h. followed_parts (statements g is) (statements g js) (subst (LoopsAreGood g) (statements_followed g is js) h),
    λ h. subst (LoopsAreGood g) (sym (statements_followed g is js)) (followed_made (statements g is) (statements g js) h.0 h.1),
  )

  -- of a branch and what follows it
  pub good_if : (e : Term) (a b : Cmd) (is : List Instr) → Good (If e a b ∷ is) ↔ (Good a.list × Good b.list × Good is)
  good_if e a b is = ((λ h. subst (LoopsAreGood g) (statement_if g e a b (statements g is)) h), (λ h. subst (LoopsAreGood g) (sym (statement_if g e a b (statements g is))) h))

  -- of a loop and what follows it
  pub good_while : (e v : Term) (b : Cmd) (is : List Instr) → Good (While e v b ∷ is) ↔ (IsGood g closed e v (statements g b.list) × Good b.list × Good is)
  good_while e v b is = ((λ h. subst (LoopsAreGood g) (statement_while g e v b (statements g is)) h), (λ h. subst (LoopsAreGood g) (sym (statement_while g e v b (statements g is))) h))
