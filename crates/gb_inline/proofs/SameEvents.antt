-- What runs after calls are inlined gives events the same probability that read what the postcondition reads.
use Rattle.std.proofs.Common.{◌≡◌, ◌*◌, ◌^◌, ℕ, zero, suc, Bool, false, List, [], ◌∷◌, map, Option, Some, None, refl, ap, sym, ◌∙◌, subst}
use Rattle.std.proofs.lemmas.Option.{none-some, same_Some}
use Rattle.std.specs.List.{AllByRecursion}
use Rattle.std.specs.Option.{option_map}
use Rattle.gb_core.specs.declared.var.Var.{Var}
use Rattle.gb_core.specs.declared.var.Var.TheVariants as var
use Rattle.gb_dist.specs.WeightedList.{weight}
use Rattle.gb_terms.specs.declared.decl.TypedName.{TypedName}
use Rattle.gb_terms.specs.declared.module.Mexp.TheVariants.{Name as named}
use Rattle.gb_terms.specs.declared.op.Side.{Side}
use Rattle.gb_terms.specs.declared.term.Instr.{Instr}
use Rattle.gb_terms.specs.declared.term.Term.{Term}
use Rattle.gb_walk.specs.Clash.{variables_read}
use Rattle.gb_goal.specs.Scope.{Declarations}
use Rattle.gb_goal.specs.declared.sequent.Sequent.{Sequent}
use Rattle.gb_meaning.specs.Declared.{declared}
use Rattle.gb_laws.proofs.Zips.{zip_weight}
use Rattle.gb_laws.specs.Cells.{get_at}
use Rattle.gb_laws.specs.Writes.{key_of_global, keys_of}
use Rattle.gb_meaning.specs.Memory.{Memory}
use Rattle.gb_meaning.specs.Names.{get}
use Rattle.gb_meaning.specs.Setting.{Setting}
use Rattle.gb_meaning.specs.State.{State, closed}
use Rattle.gb_meaning.specs.Values.{Global}
use Rattle.gb_steps.specs.declared.step.Calls.{Calls}
use Rattle.gb_typing.specs.Meaning.{denominator, run}
use Rattle.gb_typing.specs.Context.{Context}
use Rattle.gb_typing.specs.Programs.{IsBody}
use Rattle.gb_typing.specs.Rules.{IsSettingOver}
use Rattle.gb_typing.specs.Scopes.{context_of, IsTypedScope}
use Rattle.gb_typing.specs.Sequents.{of_sequent, IsTypedSequent}
use Rattle.gb_trans.specs.Events.{HoldTheSame, ReadsAlone}
use Rattle.gb_inline.specs.Fresh.{is_taken}
use Rattle.gb_inline.specs.Inlined.{going_on, inlined, once, repeated, used, without_calls}
use Rattle.gb_inline.proofs.InlineIsSound as sound
use Rattle.gb_inline.proofs.Off.{AreUsed, Off, is_unused, not_false}

-- memories that differ in locals alone that aren't in use hold the same where variables in use are
module _ (g : Setting) (U : List Var) (m n : Memory) (o : Off U m n) where
  globals_same : (xs : List Global) → AllByRecursion (λ k. get_at m k ≡ get_at n k) (map key_of_global xs)
  globals_same [] = tt
  globals_same (x ∷ xs) = (ap (λ z. get z (x.parent ∷ x.name ∷ [])) (let k = o.globals in k), globals_same xs)

  one_same : (x : Var) → is_unused U x ≡ false → AllByRecursion (λ k. get_at m k ≡ get_at n k) (keys_of g.types x)
  one_same (var.Local x) e = (o.locals x (not_false (is_taken U x) e), tt)
  one_same (var.Global a x) e = (ap (λ z. get z (a ∷ x ∷ [])) (let k = o.globals in k), tt)
  one_same (var.Glob a) e = globals_same (g.types.footprint (named a))

  all_same : (xs : List Var) → AreUsed U xs → HoldTheSame g.types xs m n
  all_same [] u = tt
  all_same (x ∷ xs) u = (one_same x u.0, all_same xs u.1)

module _ (ds : Declarations) (scoped : IsTypedScope (declared ds)) (q : Sequent) (t : IsTypedSequent (context_of (declared ds)) q) (g : Setting) (over_ds : IsSettingOver (declared ds) g)
    (w : Calls) (r : Side) (pre post : Term) where
  abbrev c : Context
  c = of_sequent (context_of (declared ds)) q t.frames

  -- a typed body, which runs as another one does, as far as the postcondition reads
  record IsSame (is js : List Instr) : Type 0 where
    locals : List TypedName
    body : IsBody c locals js
    scales : denominator g is ≡ denominator g js
    weights : (s : State) (m : Memory) (event : Memory → Bool) → ReadsAlone g.types (variables_read r post) event → weight (run g s is m) event ≡ weight (run g s js m) event

  same_itself : (fs : List TypedName) (is : List Instr) → IsBody c fs is → IsSame is is
  same_itself fs is b = record { locals = fs; body = b; scales = refl; weights = λ s m event alone. refl }

  same_then : (is js ks : List Instr) → IsSame is js → IsSame js ks → IsSame is ks
  same_then is js ks a b = record {
    locals = b.locals;
    body = b.body;
    scales = a.scales ∙ b.scales;
    weights = λ s m event alone. a.weights s m event alone ∙ b.weights s m event alone;
  }

  step : (is js : List Instr) → once ds w r pre post is ≡ Some js → (fs : List TypedName) → IsBody c fs is → IsSame is js
  step is js e fs b = record {
    locals = sound.hs ds scoped q t w r pre post is js e fs b;
    body = sound.over_body ds scoped q t w r pre post is js e fs b;
    scales = (sound.matched ds scoped q t w r pre post is js e fs b g over_ds closed).scales;
    weights = λ s m event alone.
        zip_weight (Off (used r pre post is)) (run g s is m) (run g s js m) event event (sound.zipped ds scoped q t w r pre post is js e fs b g over_ds s m)
        (λ x y o. alone x y (all_same g (used r pre post is) x y o (variables_read r post) (let u = sound.all ds scoped q t w r pre post is js e fs b in u.2)));
  }

  again : (n : ℕ) (is : List Instr) (fs : List TypedName) → IsBody c fs is → IsSame is (repeated n (once ds w r pre post) is)
  unfolding repeated
  again zero is fs b = same_itself fs is b
  again (suc n) is fs b = by_step (once ds w r pre post is) refl (again n)
    where
      by_step : (o : Option (List Instr)) → once ds w r pre post is ≡ o → ((js : List Instr) (hs : List TypedName) → IsBody c hs js → IsSame js (repeated n (once ds w r pre post) js)) →
          IsSame is (going_on (repeated n (once ds w r pre post)) is o)
      by_step None e go = same_itself fs is b
      by_step (Some js) e go = let k = step is js e fs b in same_then is js (repeated n (once ds w r pre post) js) k (go js k.locals k.body)

  inlined_same : (is ks : List Instr) → inlined ds w r pre post is ≡ Some ks → (fs : List TypedName) → IsBody c fs is → IsSame is ks
  inlined_same is ks e fs b = by_step (once ds w r pre post is) refl e
    where
      by_step : (o : Option (List Instr)) → once ds w r pre post is ≡ o → option_map (λ js. without_calls (once ds w r pre post) js) o ≡ Some ks → IsSame is ks
      by_step None k e = absurd (none-some ks e)
      by_step (Some js) k e =
          let z = step is js k fs b in
          subst (IsSame is) (same_Some _ ks e) (same_then is js (without_calls (once ds w r pre post) js) z (again (2 ^ 32) js z.locals z.body))

  pub same_events : (is ks : List Instr) → inlined ds w r pre post is ≡ Some ks → (fs : List TypedName) → IsBody c fs is → (s : State) (m : Memory) (event : Memory → Bool) → ReadsAlone g.types (variables_read r post) event →
      weight (run g s ks m) event * denominator g is ≡ weight (run g s is m) event * denominator g ks
  same_events is ks e fs b s m event alone = let k = inlined_same is ks e fs b in λ i. sym (k.weights s m event alone) i * k.scales i
