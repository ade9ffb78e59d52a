-- Probabilities are typed.
use Rattle.std.proofs.Common.{◌≡◌, Bool, true, List, [], ◌∷◌, ◌++◌, map, Some, refl, sym, ◌∙◌, subst}
use Rattle.std.proofs.lemmas.Bool.{false≢true}
use Rattle.gb_core.specs.declared.ty.Ty.TheVariants as ty
use Rattle.gb_terms.specs.declared.decl.TypedName.{TypedName}
use Rattle.gb_terms.specs.declared.module.ProcRef.{ProcRef}
use Rattle.gb_terms.specs.declared.op.Side.{Side}
use Rattle.gb_terms.specs.declared.term.Term.{Term}
use Rattle.gb_terms.specs.declared.term.Head.TheVariants.{Pr}
use Rattle.gb_goal.specs.Interfaces.{ProcedureType, procedure_type}
use Rattle.gb_typing.specs.Changes.{Made}
use Rattle.gb_typing.specs.Context.{Context, procedure, with_own}
use Rattle.std.specs.Option.{option_map}
use Rattle.gb_typing.specs.Typing.{IsThere, after}
use Rattle.gb_typing.proofs.Made.{EachMade, made_node}
use Rattle.gb_laws.specs.Typing.{IsProbability}
use Rattle.gb_meaning.specs.Trees.{row}
use Rattle.gb_meaning.specs.Naming.{AnyName}
use Rattle.gb_typing.specs.Naming.{TermNames, TermsName}
use Rattle.gb_names.specs.declared.setting.Language.TheVariants.{Formula}
use Rattle.gb_names.specs.Allowed.{has_judgments}
use Rattle.gb_names.specs.Environment.{Name, Environment}
use Rattle.gb_names.specs.declared.bindings.Binding.{Binding}
use Rattle.gb_elab.specs.Probability.{before_call, chance}
use Rattle.gb_elab_laws.specs.Fitting.{Allows, IsTypeOf, IsFitting, IsGiven}
use Rattle.gb_elab_laws.proofs.Judged.{judging, known_there}
use Rattle.gb_elab_laws.proofs.Remembered.{IsNamedMemory, remembering}
use Rattle.gb_elab_laws.proofs.Typed.{Typed, apart_node}

-- arguments of the types of these parameters
abbrev pub AreArguments : (Name → Bool) → Context → List TypedName → List Term → Type 0
AreArguments globs c [] [] = Unit {0}
AreArguments globs c (v ∷ vs) (t ∷ ts) = (Made c v.ty t × TermNames (Allows globs) AnyName t) × AreArguments globs c vs ts
AreArguments globs c _ _ = ⊥

-- arguments, and an event
with_event : (globs : Name → Bool) (c d : Context) (vs : List TypedName) (ts : List Term) (e : Term) → AreArguments globs c vs ts → Made d ty.Bool e →
    EachMade c c d (map (λ (v : TypedName). v.ty) vs ++ ty.Bool ∷ []) (ts ++ e ∷ [])
with_event globs c d [] [] e h k = k
with_event globs c d [] (t ∷ ts) e h k = absurd h
with_event globs c d (v ∷ vs) [] e h k = absurd h
with_event globs c d (v ∷ []) (t ∷ []) e h k = (h.0.0, k)
with_event globs c d (v ∷ []) (t ∷ u ∷ ts) e h k = absurd h.1
with_event globs c d (v ∷ w ∷ vs) (t ∷ []) e h k = absurd h.1
with_event globs c d (v ∷ w ∷ vs) (t ∷ u ∷ ts) e h k = (h.0.0, with_event globs c d (w ∷ vs) (u ∷ ts) e h.1 k)

event_apart : (globs : Name → Bool) (c : Context) (vs : List TypedName) (ts : List Term) (e : Term) → AreArguments globs c vs ts → TermNames (Allows globs) AnyName e → TermsName (Allows globs) AnyName (row (ts ++ e ∷ []))
event_apart globs c [] [] e h k = (k, tt)
event_apart globs c [] (t ∷ ts) e h k = absurd h
event_apart globs c (v ∷ vs) [] e h k = absurd h
event_apart globs c (v ∷ vs) (t ∷ ts) e h k = (h.0.1, event_apart globs c vs ts e h.1 k)

module _ {globs : Name → Bool} (c : Context) (at : Environment) (vs : List Binding) (fit : IsFitting globs c at vs) (judges : has_judgments at.language ≡ true) where
  -- arguments of a call from the memory of a name, beside other forms
  pub call_fits : (x : Name) → IsFitting globs c (before_call at x) vs
  call_fits x = record {
    logical = fit.logical;
    values = fit.values;
    bound = fit.bound;
    variables = tt;
    declared = fit.declared;
    around = tt;
    globals = λ e. fit.globals (judging at.language judges);
    outside = λ e. refl;
    procedures = λ e. fit.procedures judges;
    memories = λ e. fit.memories (remembering at.language judges);
    locals = λ e. fit.locals (remembering at.language judges);
    frames = λ e. fit.frames (remembering at.language judges);
    sides = λ e. refl;
    together = λ e. fit.together (remembering at.language judges);
    stand = λ e. fit.stand (remembering at.language judges);
  }

  module _ (f : ProcRef) (a : ProcedureType) (e : procedure_type at.declared at.inside f ≡ Some a) where
    known : IsTypeOf (procedure c f) a
    known = known_there c at vs fit judges f a e

    pub chance_typed : (s : Side) → IsNamedMemory c s → (ts : List Term) → AreArguments globs c a.params ts → (b : Term) → IsGiven globs (with_own c (after (procedure c f))) Formula (Some ty.Bool) b →
        Typed globs c at.language ty.Real (chance f s ts b)
    chance_typed s m ts h b g = record {
      made =
          made_node c (Pr f s) (map (λ (v : TypedName). v.ty) a.params ++ ty.Bool ∷ []) (ts ++ b ∷ []) ty.Real
          (subst (λ (o : _). IsProbability (option_map (λ t. map (λ (x : TypedName). x.ty) t.params) o) (map (λ (v : TypedName). v.ty) a.params ++ ty.Bool ∷ [])) (sym known.there) refl, m.side, refl)
          (m.frame, m.place, subst IsThere (sym known.there) tt) []
          (with_event globs c (with_own c (after (procedure c f))) a.params ts b h (record { typed = g.typed; written = g.wanted }));
      type = tt;
      apart = apart_node globs (Pr f s) (ts ++ b ∷ []) ty.Real tt (event_apart globs c a.params ts b h g.apart);
      plain = λ k. absurd (false≢true (sym k ∙ judges));
    }
