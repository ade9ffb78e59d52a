-- The memories that names stand for.
use Rattle.std.proofs.Common.{◌≡◌, ℕ, ◌<◌, nat_lt, Bool, true, false, if◌then◌else◌, List, length, is_some, Option, Some, None, refl, subst}
use Rattle.std.specs.Option.{option_map_or}
use Rattle.std.proofs.lemmas.Bool.{ltb-true}
use Rattle.gb_core.specs.declared.place.Place.{Place}
use Rattle.gb_core.specs.declared.refusal.Why.TheVariants.{Argument}
use Rattle.gb_terms.specs.declared.op.Side.{Side}
use Rattle.gb_terms.specs.declared.op.Side.TheVariants as side
use Rattle.gb_goal.specs.Answers.{◌>>=◌}
use Rattle.gb_goal.specs.Answers.Answer.{given, refused}
use Rattle.gb_names.specs.declared.bindings.Binding.{Binding}
use Rattle.gb_names.specs.declared.bindings.Kind.{Kind}
use Rattle.gb_names.specs.declared.bindings.Kind.TheVariants.{Value, Memory}
use Rattle.gb_names.specs.declared.setting.Language.{Language}
use Rattle.gb_names.specs.declared.setting.Language.TheVariants.{Formula, Function, Program, Sampled, Operator}
use Rattle.gb_names.specs.Allowed.{has_judgments}
use Rattle.gb_names.specs.Bindings.{binders_inside, innermost}
use Rattle.gb_names.specs.Environment.{Name, Environment}
use Rattle.gb_names.specs.Names.{bound_memory, context_memory, has_memories, known_at, memory, memory_at, named, names_before, no_memory}
use Rattle.gb_names.specs.Wanted.{counted}
use Rattle.gb_laws.specs.Typing.{binder, IsMemory, IsSide}
use Rattle.gb_typing.specs.Context.{Context, erased, frame_of}
use Rattle.gb_typing.specs.Typing.{IsFrame, IsPlace}
use Rattle.gb_elab_laws.specs.Fitting.{reads_globals, IsBoundTo, IsFitting}
use Rattle.gb_elab_laws.proofs.Found.{found_bound}
use Rattle.gb_elab_laws.proofs.Given.{counted_is, given_bind, given_is, if_refused, not_given}

-- where named memories may be read, so may globals
pub remembered_globals : (l : Language) → has_memories l ≡ true → reads_globals l ≡ true
remembered_globals Formula h = refl
remembered_globals Function h = refl
remembered_globals Program h = refl
remembered_globals Sampled h = refl
remembered_globals Operator h = cc

-- where judgments may stand, named memories may be read
pub remembering : (l : Language) → has_judgments l ≡ true → has_memories l ≡ true
remembering Formula h = refl
remembering Function h = refl
remembering Program h = cc
remembering Sampled h = cc
remembering Operator h = cc

-- a named memory, which is there with its locals
pub record IsNamedMemory (c : Context) (s : Side) : Type 0 where
  pub side : IsSide (erased c) s
  pub frame : IsFrame (frame_of c s)
  pub place : IsPlace s

module _ {globs : Name → Bool} (c : Context) (at : Environment) (vs : List Binding) (fit : IsFitting globs c at vs) (may : has_memories at.language ≡ true) where
  counted_memory : (n : ℕ) → n < length at.sequent.memories → (s : Side) → memory n ≡ given s → IsNamedMemory c s
  counted_memory n h s e =
      let i = given_bind (counted n) (λ i. given (side.Memory i)) s e in
      let k = fit.memories may i.0 (subst (λ z. z < length at.sequent.memories) (counted_is n i.0 i.1) h) in
      subst (IsNamedMemory c) (given_is (side.Memory i.0) s i.2) (record { side = k.0; frame = k.1; place = tt })

  no_memory_is : (x : Name) (p : Place) (s : Side) → no_memory at vs x p ≡ given s → ⊥
  no_memory_is x p s e =
      let k = if_refused (is_some (known_at at vs x)) Argument p (named at vs x p >>= λ _. refused Argument p) s e in
      let q = given_bind (named at vs x p) (λ _. refused Argument p) s k.1 in not_given Argument p s q.2

  context_memory_is : (x : Name) (p : Place) (s : Side) → context_memory at vs x p ≡ given s → IsNamedMemory c s
  context_memory_is x p s e = let n = names_before at.sequent.memories x in step n (nat_lt n (length at.sequent.memories)) refl e
    where
      step : (n : ℕ) (b : Bool) → nat_lt n (length at.sequent.memories) ≡ b → (if b then memory n else no_memory at vs x p) ≡ given s → IsNamedMemory c s
      step n true i h = counted_memory n (ltb-true n (length at.sequent.memories) i) s h
      step n false i h = absurd (no_memory_is x p s h)

  bound_memory_is : (n : ℕ) (p : Place) (k : Kind) (s : Side) → IsBoundTo globs (binder (erased c) n) k → bound_memory n p k ≡ given s → IsNamedMemory c s
  bound_memory_is n p (Value t) s b e = cc
  bound_memory_is n p Memory s b e =
      let i = given_bind (counted n) (λ i. given (side.Bound i)) s e in
      let m = subst (λ z. IsMemory (binder (erased c) z)) (counted_is n i.0 i.1) b in
      subst (IsNamedMemory c) (given_is (side.Bound i.0) s i.2) (record { side = m; frame = fit.frames may i.0 m; place = tt })

  -- the memory of a name
  pub memory_is : (x : Name) (p : Place) (s : Side) → memory_at at vs x p ≡ given s → IsNamedMemory c s
  memory_is x p s e = step (innermost vs x) refl e
    where
      step : (o : Option Binding) → innermost vs x ≡ o → option_map_or (λ b. bound_memory (binders_inside vs x) p b.kind) o (context_memory at vs x p) ≡ given s → IsNamedMemory c s
      step (Some v) i h = bound_memory_is (binders_inside vs x) p v.kind s (found_bound globs vs x v i c.bound fit.bound) h
      step None i h = context_memory_is x p s h
