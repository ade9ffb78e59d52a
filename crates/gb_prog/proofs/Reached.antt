-- The loops that statements reach, and good loops of typed statements in each state.
use Rattle.std.proofs.Common.{◌≡◌, ◌^◌, false, ◌↔◌, List, [], ◌∷◌, ◌++◌, ap, sym, ◌∙◌, subst}
use Rattle.gb_dist.specs.WeightedList.{Every, SameDistribution}
use Rattle.gb_terms.specs.declared.decl.TypedName.{TypedName}
use Rattle.gb_terms.specs.declared.term.Cmd.{Cmd}
use Rattle.gb_terms.specs.declared.term.Head.TheVariants.{If, While}
use Rattle.gb_terms.specs.declared.term.Instr.{Instr}
use Rattle.gb_terms.specs.declared.term.Term.{Term}
use Rattle.gb_meaning.specs.Commands.{statements}
use Rattle.gb_meaning.specs.Loops.{GoodFrom, IsGood}
use Rattle.gb_meaning.specs.Meanings.{truth}
use Rattle.gb_meaning.specs.Memory.{Memory}
use Rattle.gb_meaning.specs.Program.{Program, followed_by}
use Rattle.gb_meaning.specs.Program.Program.{done, assign, sample, branch, loop, call, ask}
use Rattle.gb_meaning.specs.Runs.{out, run_denominator, turns}
use Rattle.gb_meaning.specs.Setting.{Setting}
use Rattle.gb_meaning.specs.State.{State, closed}
use Rattle.gb_meaning.proofs.Bodies.{statement_if, statement_while}
use Rattle.gb_typing.specs.Context.{Context}
use Rattle.gb_typing.specs.Programs.{IsExpression, EachStatement}
use Rattle.gb_typing.proofs.Runs.{statements_followed}
use Rattle.gb_prog.specs.Loops.{EachLoopIsGood}
use Rattle.gb_prog.proofs.Blind.{blind_value, blind_each}

module _ (g : Setting) where
  followed_parts : (c d : Program) → EachLoopIsGood g (followed_by c d) → EachLoopIsGood g c × EachLoopIsGood g d
  followed_parts done d h = (tt, h)
  followed_parts (assign xs e c) d h = followed_parts c d h
  followed_parts (sample x e c) d h = followed_parts c d h
  followed_parts (branch e a b c) d h = let k = followed_parts c d h.2 in ((h.0, h.1, k.0), k.1)
  followed_parts (loop e v a c) d h = let k = followed_parts c d h.2 in ((h.0, h.1, k.0), k.1)
  followed_parts (call xs r es c) d h = let k = followed_parts c d h.1 in ((h.0, k.0), k.1)
  followed_parts (ask xs o es c) d h = followed_parts c d h

  followed_made : (c d : Program) → EachLoopIsGood g c → EachLoopIsGood g d → EachLoopIsGood g (followed_by c d)
  followed_made done d h k = k
  followed_made (assign xs e c) d h k = followed_made c d h k
  followed_made (sample x e c) d h k = followed_made c d h k
  followed_made (branch e a b c) d h k = (h.0, h.1, followed_made c d h.2 k)
  followed_made (loop e v a c) d h k = (h.0, h.1, followed_made c d h.2 k)
  followed_made (call xs r es c) d h k = (h.0, followed_made c d h.1 k)
  followed_made (ask xs o es c) d h k = followed_made c d h k

  pub loops_append : (is js : List Instr) → EachLoopIsGood g (statements g (is ++ js)) ↔ (EachLoopIsGood g (statements g is) × EachLoopIsGood g (statements g js))
  loops_append is js = (
    λ h. followed_parts (statements g is) (statements g js) (subst (EachLoopIsGood g) (statements_followed g is js) h),
    λ h. subst (EachLoopIsGood g) (sym (statements_followed g is js)) (followed_made (statements g is) (statements g js) h.0 h.1),
  )

  pub loops_if : (e : Term) (a b : Cmd) (is : List Instr) →
      EachLoopIsGood g (statements g (If e a b ∷ is)) ↔ (EachLoopIsGood g (statements g a.list) × EachLoopIsGood g (statements g b.list) × EachLoopIsGood g (statements g is))
  loops_if e a b is = ((λ h. subst (EachLoopIsGood g) (statement_if g e a b (statements g is)) h), (λ h. subst (EachLoopIsGood g) (sym (statement_if g e a b (statements g is))) h))

  pub loops_while : (e v : Term) (b : Cmd) (is : List Instr) →
      EachLoopIsGood g (statements g (While e v b ∷ is)) ↔ (IsGood g closed e v (statements g b.list) × EachLoopIsGood g (statements g b.list) × EachLoopIsGood g (statements g is))
  loops_while e v b is = ((λ h. subst (EachLoopIsGood g) (statement_while g e v b (statements g is)) h), (λ h. subst (EachLoopIsGood g) (sym (statement_while g e v b (statements g is))) h))

  -- a typed loop is good in each state where it is good in one
  module _ (c : Context) (ls : List TypedName) (e v : Term) (b : Cmd) (x : IsExpression c ls e) (y : EachStatement c ls b.list) (z : EachStatement c ls (While e v b ∷ [])) where
    loop_same : (s q : State) (m : Memory) → out g s (loop e v (statements g b.list) done) m ≡ out g q (loop e v (statements g b.list) done) m
    loop_same s q m = ap (λ p. out g s p m) (sym (statement_while g e v b done)) ∙ blind_each c ls g s q (While e v b ∷ []) z m ∙ ap (λ p. out g q p m) (statement_while g e v b done)

    pub good_anywhere : (s q : State) → IsGood g s e v (statements g b.list) → IsGood g q e v (statements g b.list)
    good_anywhere s q h m =
        let f : GoodFrom g s e v (statements g b.list) m = h m in
        let t = blind_value c ls g s q e x in
        let u = blind_each c ls g s q b.list y in
        let k = run_denominator g (statements g b.list) in
        record {
          turns = f.turns;
          ended = subst (λ z. z) (λ i. Every (λ n. truth (t n i) ≡ false) (turns (λ n. truth (t n i)) (λ n. u n i) k f.turns m)) f.ended;
          same = subst (λ z. z) (λ i. SameDistribution (loop_same s q m i) (run_denominator g (loop e v (statements g b.list) done)) (turns (λ n. truth (t n i)) (λ n. u n i) k f.turns m) (k ^ f.turns)) f.same;
        }
