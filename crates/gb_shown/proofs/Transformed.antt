-- Rules that put other statements into one body keep names: `swap`, `kill`, `rcondt`, `rcondf` and `unroll`.
use Rattle.std.proofs.Common.{◌≡◌, ◌-◌, ℕ, nat_lt, Bool, true, false, if◌then◌else◌, List, [], ◌∷◌, ◌++◌, length, take, drop, Option, Some, None, refl, subst}
use Rattle.std.proofs.lemmas.Option.{same_Some, none-some}
use Rattle.gb_core.specs.declared.refusal.Why.TheVariants.{Argument, Shape}
use Rattle.gb_terms.specs.declared.term.Cmd.{Cmd}
use Rattle.gb_terms.specs.declared.term.Head.{Head}
use Rattle.gb_terms.specs.declared.term.Head.TheOpen as layer
use Rattle.gb_terms.specs.declared.term.Instr.{Instr, out-Instr}
use Rattle.gb_terms.specs.declared.term.Subject.{Subject}
use Rattle.gb_terms.specs.declared.term.Term.{Term}
use Rattle.gb_steps.specs.declared.step.Acts.{Acts}
use Rattle.gb_steps.specs.declared.step.Acts.TheVariants as on
use Rattle.gb_steps.specs.declared.step.Passing.{Passing}
use Rattle.gb_goal.specs.Answers.{Answer}
use Rattle.gb_goal.specs.Answers.Answer.{given}
use Rattle.gb_goal.specs.Goal.{Goal}
use Rattle.gb_goal.specs.Rows.{refusing}
use Rattle.gb_goal.specs.Scope.{Declarations}
use Rattle.gb_mods.specs.Exclusions.{exclusions}
use Rattle.gb_typing.proofs.Given.{refused_given, same_given}
use Rattle.gb_typing.proofs.Lists.{if_shape}
use Rattle.gb_prog.specs.OneBody.{OneBody}
use Rattle.gb_trans.specs.Effects.{effects_of}
use Rattle.gb_trans.specs.Places.{At, cut_at, statement_at, on_place}
use Rattle.gb_trans.specs.Swap.{before, first, second, rest, exchanged, apart, exchange, moved, swapped, swap_row}
use Rattle.gb_trans.specs.Transformed.{with_body, transforming}
use Rattle.gb_forms.specs.Decided.{deciding}
use Rattle.gb_trans.specs.Decided.{Decision, decision, decision_goals, decided, decided_row}
use Rattle.gb_forms.specs.Turns.{turn}
use Rattle.gb_trans.specs.Unrolled.{turn_before, unrolled, unroll_row}
use Rattle.gb_trans.specs.Kill.{may_go, killed_at, killed, kill_row}
use Rattle.gb_print_names.specs.declared.bound_names.Enumeration.{Enumeration}
use Rattle.gb_shown.specs.Named.{IsNamed, IsNamedInstr}
use Rattle.gb_shown.specs.Rules.{KeepsNames}
use Rattle.gb_shown.proofs.SpeltForms.{not_named}
use Rattle.gb_shown.proofs.Programs.{AllOf, Around, by_one, given_bind}
use Rattle.gb_shown.proofs.SpeltStatements.{EachNamed, while_shape, if_named, named_if, while_named, append_named, take_named, drop_named}

module _ (es : List Enumeration) where
  -- Another body in place of a body.

  pub body_keeps : (f : OneBody → Answer (List Instr)) → ((o : OneBody) → EachNamed es o.list → (js : List Instr) → f o ≡ given js → EachNamed es js) → (Gs : List Goal) (o : OneBody) → with_body f o ≡ given Gs → Around es o → AllOf es Gs
  body_keeps f k Gs o e a =
      let z = given_bind (f o) (λ is. given (o.goal is o.pre o.post ∷ [])) Gs e in
      subst (AllOf es) (same_given (o.goal z.0 o.pre o.post ∷ []) Gs z.2) (a.goal z.0 o.pre o.post (k o a.list z.0 z.1) a.pre a.post, tt)

  transforming_keeps : (f : OneBody → Answer (List Instr)) → ((o : OneBody) → EachNamed es o.list → (js : List Instr) → f o ≡ given js → EachNamed es js) → (a : Acts) → KeepsNames es (transforming f a)
  transforming_keeps f k a G h Gs e = by_one es (with_body f) (refusing Shape) G Gs (body_keeps f k Gs) (λ e. refused_given Shape Gs e) a e h

  -- A statement at a place.

  pub record NamedAt (k : At) : Type 0 where
    pub before : EachNamed es k.before
    pub statement : IsNamedInstr es k.statement
    pub rest : EachNamed es k.rest

  cut_named : (is js : List Instr) → EachNamed es is → EachNamed es js → (k : At) → cut_at is js ≡ Some k → NamedAt k
  cut_named is [] v w k e = absurd (none-some k e)
  cut_named is (j ∷ js) v w k e = subst NamedAt (same_Some (record { before = is; statement = j; rest = js }) k e) (record { before = v; statement = w.0; rest = w.1 })

  pub at_named : (n : ℕ) (is : List Instr) → EachNamed es is → (k : At) → statement_at n is ≡ Some k → NamedAt k
  at_named n is w k e = step (nat_lt n 1) (nat_lt (length is) n) e
    where
      step : (x y : Bool) → (if x then None else if y then None else cut_at (take (n - 1) is) (drop (n - 1) is)) ≡ Some k → NamedAt k
      step true y e = absurd (none-some k e)
      step false true e = absurd (none-some k e)
      step false false e = cut_named (take (n - 1) is) (drop (n - 1) is) (take_named es (n - 1) is w) (drop_named es (n - 1) is w) k e

  -- what is made of the statement at a place
  pub place_keeps : {A : Type 0} (P : A → Type 0) (f : At → Answer A) (x : A) → ((k : At) → NamedAt k → f k ≡ given x → P x) → (o : Option At) → ((k : At) → o ≡ Some k → NamedAt k) → on_place f o ≡ given x → P x
  place_keeps P f x g None n e = refused_given Argument x e
  place_keeps P f x g (Some k) n e = g k (n k refl) e

  -- A statement passes others.

  exchanged_named : (n f s : ℕ) (is : List Instr) → EachNamed es is → EachNamed es (exchanged n f s is)
  exchanged_named n f s is w =
      let behind = drop_named es n is w in
      let last = drop_named es f (drop n is) behind in
      append_named es (before n is) _ (take_named es n is w)
      (append_named es (second n f s is) _ (take_named es s (drop f (drop n is)) last) (append_named es (first n f is) (rest n f s is) (take_named es f (drop n is) behind) (drop_named es s (drop f (drop n is)) last)))

  exchange_keeps : (ds : Declarations) (n f s : ℕ) (is : List Instr) → EachNamed es is → (js : List Instr) → exchange ds n f s is ≡ given js → EachNamed es js
  exchange_keeps ds n f s is w js e =
      let z = given_bind (apart (exclusions ds) (effects_of ds (first n f is)) (effects_of ds (second n f s is))) (λ _. given (exchanged n f s is)) js e in
      subst (EachNamed es) (same_given (exchanged n f s is) js z.2) (exchanged_named n f s is w)

  unless : (b : Bool) (a : Answer (List Instr)) (js : List Instr) → (if b then refusing Argument else a) ≡ given js → a ≡ given js
  unless true a js e = refused_given Argument js e
  unless false a js e = e

  moved_keeps : (ds : Declarations) (p : Passing) (is : List Instr) → EachNamed es is → (js : List Instr) → moved ds p is ≡ given js → EachNamed es js
  moved_keeps ds p is w js e = step p.front e
    where
      step : (b : Bool) → (if b then (if nat_lt (p.at - 1) p.by then refusing Argument else exchange ds (p.at - 1 - p.by) p.by 1 is) else if nat_lt (length is - p.at) p.by then refusing Argument else exchange ds (p.at - 1) 1 p.by is) ≡ given js →
          EachNamed es js
      step true e = exchange_keeps ds (p.at - 1 - p.by) p.by 1 is w js (unless (nat_lt (p.at - 1) p.by) _ js e)
      step false e = exchange_keeps ds (p.at - 1) 1 p.by is w js (unless (nat_lt (length is - p.at) p.by) _ js e)

  swapped_keeps : (ds : Declarations) (p : Passing) (is : List Instr) → EachNamed es is → (js : List Instr) → swapped ds p is ≡ given js → EachNamed es js
  swapped_keeps ds p is w js e = moved_keeps ds p is w js (unless (nat_lt (length is) p.at) _ js (unless (nat_lt p.at 1) _ js e))

  pub swap_keeps : (ds : Declarations) (a : Acts) (p : Passing) → KeepsNames es (swap_row ds a p)
  swap_keeps ds a p = transforming_keeps (λ (o : OneBody). swapped ds p o.list) (λ o w js e. swapped_keeps ds p o.list w js e) a

  -- A statement goes.

  killed_keeps : (ds : Declarations) (n : ℕ) (o : OneBody) → EachNamed es o.list → (js : List Instr) → killed ds n o ≡ given js → EachNamed es js
  killed_keeps ds n o w js e = place_keeps (EachNamed es) (killed_at ds o) js gone (statement_at n o.list) (λ k i. at_named n o.list w k i) e
    where
      gone : (k : At) → NamedAt k → killed_at ds o k ≡ given js → EachNamed es js
      gone k m e =
          let z = given_bind (may_go ds o k) (λ _. given (k.before ++ k.rest)) js e in
          subst (EachNamed es) (same_given (k.before ++ k.rest) js z.2) (append_named es k.before k.rest m.before m.rest)

  pub kill_keeps : (ds : Declarations) (a : Acts) (n : ℕ) → KeepsNames es (kill_row ds a n)
  kill_keeps ds a n = transforming_keeps (killed ds n) (λ o w js e. killed_keeps ds n o w js e) a

  -- A turn of a loop stands in front of it.

  turn_keeps : (k : At) → NamedAt k → (l : layer.Instr-F Head Instr Subject Cmd Term) → out-Instr k.statement ≡ l → (js : List Instr) → turn_before l k ≡ given js → EachNamed es js
  turn_keeps k m (layer.While e v b) s js h =
      let parts = while_named es k.statement e v b (while_shape k.statement e v b s) m.statement in
      subst (EachNamed es) (same_given (k.before ++ turn e b ∷ k.statement ∷ k.rest) js h)
      (append_named es k.before (turn e b ∷ k.statement ∷ k.rest) m.before (named_if es e b (record { list = [] }) parts.0 parts.2 tt, (m.statement, m.rest)))
  turn_keeps k m (layer.Assign xs e) s js h = refused_given Shape js h
  turn_keeps k m (layer.Sample x d) s js h = refused_given Shape js h
  turn_keeps k m (layer.Call xs p ts) s js h = refused_given Shape js h
  turn_keeps k m (layer.If e a b) s js h = refused_given Shape js h

  pub unroll_keeps : (n : ℕ) (a : Acts) → KeepsNames es (unroll_row n a)
  unroll_keeps n a =
      transforming_keeps (λ (o : OneBody). unrolled n o.list)
      (λ o w js e. place_keeps (EachNamed es) (λ k. turn_before (out-Instr k.statement) k) js (λ k m h. turn_keeps k m (out-Instr k.statement) refl js h) (statement_at n o.list) (λ k i. at_named n o.list w k i) e) a

  -- A guard that is always true, or always false.

  pub record NamedDecision (d : Decision) : Type 0 where
    pub guard : IsNamed es d.guard
    pub left : EachNamed es d.left

  side_named : (t : Bool) (a b : List Instr) → EachNamed es a → EachNamed es b → EachNamed es (if t then a else b)
  side_named true a b v w = v
  side_named false a b v w = w

  pub decision_named : (t : Bool) (i : Instr) → IsNamedInstr es i → (l : layer.Instr-F Head Instr Subject Cmd Term) → out-Instr i ≡ l → (d : Decision) → decision t i l ≡ Some d → NamedDecision d
  decision_named t i n (layer.If e a b) s d h =
      let parts = if_named es i e a b (if_shape i e a b s) n in
      subst NamedDecision (same_Some (record { guard = e; left = if t then a.list else b.list }) d h) (record { guard = parts.0; left = side_named t a.list b.list parts.1 parts.2 })
  decision_named t i n (layer.While e v a) s d h =
      let parts = while_named es i e v a (while_shape i e v a s) n in
      subst NamedDecision (same_Some (record { guard = e; left = if t then a.list ++ i ∷ [] else [] }) d h)
      (record { guard = parts.0; left = side_named t (a.list ++ i ∷ []) [] (append_named es a.list (i ∷ []) parts.2 (n, tt)) tt })
  decision_named t i n (layer.Assign xs e) s d h = absurd (none-some d h)
  decision_named t i n (layer.Sample x e) s d h = absurd (none-some d h)
  decision_named t i n (layer.Call xs p ts) s d h = absurd (none-some d h)

  pub deciding_named : (t : Bool) (e : Term) → IsNamed es e → IsNamed es (deciding t e)
  deciding_named true e x = x
  deciding_named false e x = not_named es e x

  -- the body with what is left of a statement
  pub left_named : (k : At) (d : Decision) → NamedAt k → NamedDecision d → EachNamed es (k.before ++ (d.left ++ k.rest))
  left_named k d m x = append_named es k.before (d.left ++ k.rest) m.before (append_named es d.left k.rest x.left m.rest)

  decision_keeps : (t : Bool) (o : OneBody) (k : At) (Gs : List Goal) → Around es o → NamedAt k → (r : Option Decision) → ((d : Decision) → r ≡ Some d → NamedDecision d) → decision_goals t o k r ≡ given Gs → AllOf es Gs
  decision_keeps t o k Gs a m None f e = refused_given Shape Gs e
  decision_keeps t o k Gs a m (Some d) f e =
      let x = f d refl in
      subst (AllOf es) (same_given _ Gs e) ((m.before, a.pre, deciding_named t d.guard x.guard), (a.goal (k.before ++ (d.left ++ k.rest)) o.pre o.post (left_named k d m x) a.pre a.post, tt))

  decided_keep : (n : ℕ) (t : Bool) (Gs : List Goal) (o : OneBody) → decided n t o ≡ given Gs → Around es o → AllOf es Gs
  decided_keep n t Gs o e a =
      place_keeps (AllOf es) (λ k. decision_goals t o k (decision t k.statement (out-Instr k.statement))) Gs
      (λ k m h. decision_keeps t o k Gs a m (decision t k.statement (out-Instr k.statement)) (λ d i. decision_named t k.statement m.statement (out-Instr k.statement) refl d i) h) (statement_at n o.list) (λ k i. at_named n o.list a.list k i) e

  pub guard_keeps : (n : ℕ) (t : Bool) (a : Acts) → KeepsNames es (decided_row n t a)
  guard_keeps n t on.All G h Gs e = by_one es (decided n t) (refusing Shape) G Gs (decided_keep n t Gs) (λ e. refused_given Shape Gs e) on.All e h
  guard_keeps n t on.Left G h Gs e = refused_given Shape Gs e
  guard_keeps n t on.Right G h Gs e = refused_given Shape Gs e
