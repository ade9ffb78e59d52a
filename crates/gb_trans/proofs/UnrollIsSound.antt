-- `unroll` is sound where loops end.
use Rattle.std.proofs.Common.{◌≡◌, ℕ, List, [], ◌∷◌, ◌++◌, refl, ap, sym, ◌∙◌, subst}
use Rattle.gb_core.specs.declared.refusal.Why.TheVariants.{Shape}
use Rattle.gb_terms.specs.declared.decl.TypedName.{TypedName}
use Rattle.gb_terms.specs.declared.term.Cmd.{Cmd}
use Rattle.gb_terms.specs.declared.term.Head.TheOpen as layer
use Rattle.gb_terms.specs.declared.term.Head.TheVariants.{While}
use Rattle.gb_terms.specs.declared.term.Instr.{Instr, out-Instr}
use Rattle.gb_terms.specs.declared.term.Term.{Term}
use Rattle.gb_meaning.specs.Commands.{statements}
use Rattle.gb_meaning.specs.Setting.{Setting}
use Rattle.gb_meaning.specs.State.{State, closed}
use Rattle.gb_meaning.proofs.Runs.{run_positive}
use Rattle.gb_meaning.specs.Declared.{Declarations}
use Rattle.gb_goal.specs.Answers.Answer.{given}
use Rattle.gb_steps.specs.declared.step.Acts.{Acts}
use Rattle.gb_typing.specs.Context.{Context}
use Rattle.gb_typing.specs.Fits.{IsSettingOf}
use Rattle.gb_typing.specs.Programs.{EachStatement}
use Rattle.gb_typing.specs.Rules.{no_arguments}
use Rattle.gb_typing.proofs.Drawing.{body_sound}
use Rattle.gb_typing.proofs.Given.{refused_given, same_given}
use Rattle.gb_typing.proofs.Lists.{typed_append}
use Rattle.gb_prog.specs.Ends.{IsSoundLoopRule}
use Rattle.gb_prog.specs.Loops.{RunAlike}
use Rattle.gb_prog.proofs.Couplings.{alike_between}
use Rattle.gb_prog.proofs.Own.{Good, good_append, good_if, good_while}
use Rattle.gb_prog.proofs.Reached.{good_anywhere}
use Rattle.gb_prog.specs.OneBody.{OneBody}
use Rattle.gb_trans.specs.Places.{At, statement_at}
use Rattle.gb_trans.proofs.Alike.{Ending, IsAlike, loops_ending}
use Rattle.gb_trans.proofs.Placed.{place_given, placed, whole}
use Rattle.gb_forms.specs.Turns.{turn}
use Rattle.gb_trans.specs.Unrolled.{turn_before, unroll_row, unrolled}
use Rattle.gb_trans.proofs.Shapes.{Layer, split_typed, typed_while, while_shape}
use Rattle.gb_trans.proofs.Turns.{turn_alike}

-- A body with a loop, and the same with a turn in front of it.
record IsUnrolled (is js : List Instr) : Type 0 where
  before : List Instr
  guard : Term
  variant : Term
  repeated : Cmd
  rest : List Instr
  was : before ++ While guard variant repeated ∷ rest ≡ is
  becomes : before ++ turn guard repeated ∷ While guard variant repeated ∷ rest ≡ js

at_statement : (k : At) (is js : List Instr) → whole k ≡ is → (l : Layer) → out-Instr k.statement ≡ l → turn_before l k ≡ given js → IsUnrolled is js
at_statement k is js p (layer.While e v b) d h = record {
  before = k.before;
  guard = e;
  variant = v;
  repeated = b;
  rest = k.rest;
  was = ap (λ i. k.before ++ i ∷ k.rest) (sym (while_shape k.statement e v b d)) ∙ p;
  becomes = ap (λ i. k.before ++ turn e b ∷ i ∷ k.rest) (sym (while_shape k.statement e v b d)) ∙ same_given _ js h;
}
at_statement k is js p (layer.If e a b) d h = refused_given Shape js h
at_statement k is js p (layer.Assign xs e) d h = refused_given Shape js h
at_statement k is js p (layer.Sample x e) d h = refused_given Shape js h
at_statement k is js p (layer.Call xs o es) d h = refused_given Shape js h

unrolled_given : (n : ℕ) (is js : List Instr) → unrolled n is ≡ given js → IsUnrolled is js
unrolled_given n is js e =
    let z = place_given (λ k. turn_before (out-Instr k.statement) k) (statement_at n is) js e in
    at_statement z.0 is js (placed n is z.0 z.1) (out-Instr (let k = z.0 in k.statement)) refl z.2

module _ (ds : Declarations) (c : Context) where
  module _ (is js : List Instr) (u : IsUnrolled is js) where
    abbrev W : Instr
    W = While u.guard u.variant u.repeated

    abbrev T : Instr
    T = turn u.guard u.repeated

    typed : (ls : List TypedName) → EachStatement c ls is → EachStatement c ls js
    typed ls w =
        let x = split_typed c ls u.before (W ∷ u.rest) (subst (EachStatement c ls) (sym u.was) w) in
        let y = typed_while c ls u.guard u.variant u.repeated x.1.0 in
        subst (EachStatement c ls) u.becomes (typed_append c ls u.before (T ∷ W ∷ u.rest) x.0 (y.once, x.1))

    ends : (g : Setting) → Good g is → Good g js
    ends g h =
        let x = (good_append g u.before (W ∷ u.rest)).0 (subst (Good g) (sym u.was) h) in
        let y = (good_while g u.guard u.variant u.repeated u.rest).0 x.1 in
        subst (Good g) u.becomes ((good_append g u.before (T ∷ W ∷ u.rest)).1 (x.0, (good_if g u.guard u.repeated (record { list = [] }) (W ∷ u.rest)).1 (y.1, tt, x.1)))

    alike : (ls : List TypedName) → EachStatement c ls is → (g : Setting) → IsSettingOf c g → Good g is → (s : State) → RunAlike g s (statements g js) (statements g is)
    alike ls w g fits h s =
        let x = split_typed c ls u.before (W ∷ u.rest) (subst (EachStatement c ls) (sym u.was) w) in
        let y = typed_while c ls u.guard u.variant u.repeated x.1.0 in
        let z = (good_while g u.guard u.variant u.repeated u.rest).0 ((good_append g u.before (W ∷ u.rest)).0 (subst (Good g) (sym u.was) h)).1 in
        let b = u.repeated in
        let good = good_anywhere g c ls u.guard u.variant b y.guard y.each (x.1.0, tt) closed s z.0 in
        let positive = run_positive g (statements g b.list) (body_sound c g fits ls b.list y.each) in
        subst (λ z. z) (λ i. RunAlike g s (statements g (u.becomes i)) (statements g (u.was i)))
        (alike_between g s u.before (T ∷ W ∷ []) (W ∷ []) u.rest (turn_alike g s u.guard u.variant b good positive))

  unrolled_alike : (n : ℕ) → IsAlike ds c Ending (λ (o : OneBody). unrolled n o.list)
  unrolled_alike n = record {
    typed = λ o js e ls w. record { locals = w.locals; statements = typed o.list js (unrolled_given n o.list js e) ls w.statements };
    alike = λ o js e ls w g fits over h s. alike o.list js (unrolled_given n o.list js e) ls w.statements g fits h s;
    ends = λ o js e g h. ends o.list js (unrolled_given n o.list js e) g h;
  }

  pub unroll_sound : (n : ℕ) (a : Acts) → IsSoundLoopRule ds c (unroll_row n a) no_arguments
  unroll_sound n a = loops_ending ds c (λ (o : OneBody). unrolled n o.list) (unrolled_alike n) a
