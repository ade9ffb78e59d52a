-- Before and after `unroll` a body runs alike where its loops end.
use Rattle.std.proofs.Common.{◌≡◌, ℕ, ◌*◌, Bool, true, false, List, [], ◌∷◌, ◌++◌, refl, ap, sym, ◌∙◌, subst}
use Rattle.gb_core.specs.declared.refusal.Why.TheVariants.{Shape}
use Rattle.gb_dist.specs.WeightedList.{Every, WeightedList, bit, weight}
use Rattle.gb_dist.proofs.Distributions.{same_symmetric, same_transitive}
use Rattle.gb_terms.specs.declared.decl.TypedName.{TypedName}
use Rattle.gb_terms.specs.declared.term.Cmd.{Cmd}
use Rattle.gb_terms.specs.declared.term.Head.TheOpen as layer
use Rattle.gb_terms.specs.declared.term.Head.TheVariants.{If, While}
use Rattle.gb_terms.specs.declared.term.Head.TheViews.{roll-Instr, out-roll-Instr}
use Rattle.gb_terms.specs.declared.term.Instr.{Instr, out-Instr}
use Rattle.gb_terms.specs.declared.term.Term.{Term}
use Rattle.gb_meaning.specs.Commands.{statements}
use Rattle.gb_meaning.specs.Memory.{Memory}
use Rattle.gb_meaning.specs.Runs.{is_true}
use Rattle.gb_meaning.specs.Setting.{Setting}
use Rattle.gb_meaning.specs.State.{State}
use Rattle.gb_meaning.proofs.Runs.{run_positive}
use Rattle.gb_goal.specs.Answers.Answer.{given}
use Rattle.gb_meaning.specs.Holds.{LoopsAreGood}
use Rattle.gb_typing.specs.Context.{Context}
use Rattle.gb_typing.specs.Fits.{IsSettingOf}
use Rattle.gb_typing.specs.Meaning.{denominator, run}
use Rattle.gb_typing.specs.Programs.{EachStatement, IsBody}
use Rattle.gb_typing.proofs.Drawing.{body_sound}
use Rattle.gb_typing.proofs.Given.{refused_given, same_given}
use Rattle.gb_typing.proofs.Lists.{typed_append}
use Rattle.gb_prog.proofs.Own.{Good, good_append, good_if, good_while}
use Rattle.gb_trans.specs.Places.{At, statement_at}
use Rattle.gb_trans.proofs.Placed.{place_given, placed, whole}
use Rattle.gb_trans.specs.Decided.{decision}
use Rattle.gb_forms.specs.Turns.{turn}
use Rattle.gb_trans.specs.Unrolled.{turn_before, unrolled}
use Rattle.gb_trans.proofs.DecidedIsSound.{behind_alike}
use Rattle.gb_trans.proofs.Deciding.{RunAlikeFrom, decided_by}
use Rattle.gb_trans.proofs.Shapes.{Layer, split_typed, typed_while, while_shape}

out_branch : (e : Term) (a b : Cmd) → out-Instr (If e a b) ≡ layer.If e a b
unfolding roll-Instr denote.Hole.Carrier.roll
out_branch e a b = out-roll-Instr (layer.If e a b)

out_loop : (e v : Term) (b : Cmd) → out-Instr (While e v b) ≡ layer.While e v b
unfolding roll-Instr denote.Hole.Carrier.roll
out_loop e v b = out-roll-Instr (layer.While e v b)

each : {A : Type 0} (P : A → Type 0) (l : WeightedList A) → ((a : A) → P a) → Every P l
each P [] h = tt
each P (x ∷ l) h = (h x.0, each P l h)

module _ (c : Context) (g : Setting) (fits : IsSettingOf c g) (ls : List TypedName) (xs zs : List Instr) (e v : Term) (b : Cmd) where
  abbrev W : Instr
  W = While e v b

  abbrev T : Instr
  T = turn e b

  module _ (w : EachStatement c ls (xs ++ W ∷ zs)) (good : Good g (xs ++ W ∷ zs)) (s : State) where
    -- a turn and the loop, from one memory
    turned : (n : Memory) → RunAlikeFrom g s n (statements g (T ∷ W ∷ [])) (statements g (W ∷ []))
    turned n = by_guard (is_true g s e n) refl
      where
        x : EachStatement c ls xs × EachStatement c ls (W ∷ zs)
        x = split_typed c ls xs (W ∷ zs) w

        good_loop : Good g (W ∷ [])
        good_loop = ((good_append g (W ∷ []) zs).0 ((good_append g xs (W ∷ zs)).0 good).1).0

        good_turn : Good g (T ∷ [])
        good_turn = (good_if g e b (record { list = [] }) []).1 (((good_while g e v b []).0 good_loop).1, tt, tt)

        by_guard : (t : Bool) → is_true g s e n ≡ t → RunAlikeFrom g s n (statements g (T ∷ W ∷ [])) (statements g (W ∷ []))
        by_guard true h =
            let y = typed_while c ls e v b x.1.0 in
            let one = (decided_by c T true (record { guard = e; left = b.list }) (ap (decision true T) (out_branch e b (record { list = [] })))).alike ls y.once g fits good_turn s n h in
            let two = (decided_by c W true (record { guard = e; left = b.list ++ W ∷ [] }) (ap (decision true W) (out_loop e v b))).alike ls x.1.0 g fits good_loop s n h in
            let more = b.list ++ W ∷ [] in
            same_transitive (run g s (T ∷ W ∷ []) n) (denominator g (T ∷ W ∷ [])) (run g s more n) (denominator g more) (run g s (W ∷ []) n) (denominator g (W ∷ []))
            (run_positive g (statements g more) (body_sound c g fits ls more (typed_append c ls b.list (W ∷ []) y.each (x.1.0, tt))))
            (behind_alike g s [] (T ∷ []) b.list (W ∷ []) n (one, tt))
            (same_symmetric (run g s (W ∷ []) n) (denominator g (W ∷ [])) (run g s more n) (denominator g more) two)
        by_guard false h =
            let y = typed_while c ls e v b x.1.0 in
            let one = (decided_by c T false (record { guard = e; left = [] }) (ap (decision false T) (out_branch e b (record { list = [] })))).alike ls y.once g fits good_turn s n h in
            behind_alike g s [] (T ∷ []) [] (W ∷ []) n (one, tt)

    alike : (m : Memory) → RunAlikeFrom g s m (statements g (xs ++ T ∷ W ∷ zs)) (statements g (xs ++ W ∷ zs))
    alike m = behind_alike g s xs (T ∷ W ∷ []) (W ∷ []) zs m (each (λ n. RunAlikeFrom g s n (statements g (T ∷ W ∷ [])) (statements g (W ∷ []))) (run g s xs m) turned)

pub same_events : (c : Context) (g : Setting) → IsSettingOf c g → (n : ℕ) (is js : List Instr) → unrolled n is ≡ given js → (ls : List TypedName) → IsBody c ls is → LoopsAreGood g (statements g is) →
    (s : State) (m : Memory) (event : Memory → Bool) → weight (run g s js m) event * denominator g is ≡ weight (run g s is m) event * denominator g js
same_events c g fits n is js made ls w good s m event =
    let z = place_given (λ k. turn_before (out-Instr k.statement) k) (statement_at n is) js made in
    of_statement z.0 (placed n is z.0 z.1) (out-Instr (let k = z.0 in k.statement)) refl z.2
  where
    of_loop : (xs zs : List Instr) (e v : Term) (b : Cmd) → xs ++ While e v b ∷ zs ≡ is → xs ++ turn e b ∷ While e v b ∷ zs ≡ js →
        weight (run g s js m) event * denominator g is ≡ weight (run g s is m) event * denominator g js
    of_loop xs zs e v b was becomes =
        subst (λ z. z) (λ i. weight (run g s (becomes i) m) event * denominator g (was i) ≡ weight (run g s (was i) m) event * denominator g (becomes i))
        (alike c g fits ls xs zs e v b (subst (EachStatement c ls) (sym was) w.statements) (subst (Good g) (sym was) good) s m (λ n. bit (event n)))

    of_statement : (k : At) → whole k ≡ is → (l : Layer) → out-Instr k.statement ≡ l → turn_before l k ≡ given js →
        weight (run g s js m) event * denominator g is ≡ weight (run g s is m) event * denominator g js
    of_statement k p (layer.While e v b) d h =
        of_loop k.before k.rest e v b
        (ap (λ i. k.before ++ i ∷ k.rest) (sym (while_shape k.statement e v b d)) ∙ p)
        (ap (λ i. k.before ++ turn e b ∷ i ∷ k.rest) (sym (while_shape k.statement e v b d)) ∙ same_given _ js h)
    of_statement k p (layer.If e a b) d h = refused_given Shape js h
    of_statement k p (layer.Assign xs e) d h = refused_given Shape js h
    of_statement k p (layer.Sample x e) d h = refused_given Shape js h
    of_statement k p (layer.Call xs o es) d h = refused_given Shape js h
