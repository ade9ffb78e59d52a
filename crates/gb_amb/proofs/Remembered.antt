-- A memory of the context in place of one that is bound, and an `exists` over memories by one of them.
use Rattle.std.proofs.Common.{◌≡◌, ℕ, zero, suc, true, List, [], ◌∷◌, Some, refl, ap, sym, ◌∙◌, subst}
use Rattle.std.proofs.lemmas.Bool.{false≢true}
use Rattle.gb_core.specs.declared.ty.Ty.{Ty}
use Rattle.gb_terms.specs.declared.decl.TypedName.{TypedName}
use Rattle.gb_terms.specs.declared.op.Read.TheVariants.{Logical, Program}
use Rattle.gb_terms.specs.declared.op.Side.TheVariants as side
use Rattle.gb_terms.specs.declared.term.Term.{Term}
use Rattle.gb_terms.specs.declared.term.Head.TheVariants as head
use Rattle.gb_terms.specs.Make.{node}
use Rattle.gb_walk.specs.Change.{Changes}
use Rattle.gb_walk.specs.declared.change.Change.TheVariants.{ToSide}
use Rattle.gb_meaning.specs.Meanings.{truth}
use Rattle.gb_meaning.specs.Memory.{Memory}
use Rattle.gb_meaning.specs.Setting.{Setting}
use Rattle.gb_meaning.specs.State.{State, memory_of, under}
use Rattle.gb_meaning.specs.State.Binding.{memory as memory_bound}
use Rattle.gb_meaning.specs.Terms.{Speaks, val}
use Rattle.gb_meaning.specs.Judgments.{Judge, IsFair, speaking, den}
use Rattle.gb_meaning.specs.Written.{type_of}
use Rattle.gb_laws.specs.Led.{Led}
use Rattle.gb_laws.specs.Uses.Use.{read as reads, bound, globals, starts, binds_own, binds_sides}
use Rattle.gb_laws.proofs.Forms.{form_followed}
use Rattle.gb_meaning.proofs.Truths.{true_some_memory}
use Rattle.gb_meaning.specs.Declared.{Declarations}
use Rattle.gb_meaning.specs.Settings.{setting}
use Rattle.gb_meaning.proofs.Fronts.{without_modules}
use Rattle.gb_goal.specs.Goal.Goal.{ambient}
use Rattle.gb_laws.specs.Typing.Binder.{memory}
use Rattle.gb_typing.specs.Context.{Context, Frame, within}
use Rattle.gb_typing.specs.Typing.{IsForm}
use Rattle.gb_typing.specs.Fits.{IsSettingOf}
use Rattle.gb_typing.proofs.Formed.{formed}
use Rattle.gb_typing.proofs.Made.{parts_typed}
use Rattle.gb_typing.proofs.Sound.{procedures_sound, sound_form}
use Rattle.gb_typing.proofs.TypedGoals.{goal_conclusion, no_module as front_of}
use Rattle.gb_typing.proofs.Uses.{uses_of, uses_typed}
use Rattle.gb_typing.proofs.Fitting.{fits_within}
use Rattle.gb_amb.specs.Witness.{at_memory}
use Rattle.gb_amb.proofs.Premises.{Follows}
use Rattle.gb_amb.proofs.States.{not_in}
use Rattle.gb_amb.proofs.Wider.{small}

module _ (b : Context) (us : List Ty) (ns : List Frame) (g : Setting) (fits : IsSettingOf (small b us ns) g) (j : Judge) (fair : IsFair g j) (s : State) (i : ℕ) where
  abbrev speaks : Speaks
  speaks = speaking g j

  abbrev c : Context
  c = small b us ns

  abbrev to_named : Changes
  to_named = ToSide (side.Bound 0) (side.Memory i) ∷ []

  abbrev given : State
  given = under s (memory_bound (s.named i))

  module _ (ls : List TypedName) where
    abbrev behind : Context
    behind = within c memory (Some ls)

    led : Led g speaks to_named (uses_of behind) s given
    led (reads (Logical k) t) e = refl
    led (reads (Program x side.Own) t) e = refl
    led (reads (Program x side.Left) t) e = refl
    led (reads (Program x side.Right) t) e = refl
    led (reads (Program x (side.Memory k)) t) e = refl
    led (reads (Program x (side.Bound zero)) t) e = refl
    led (reads (Program x (side.Bound (suc k))) t) e = absurd (not_in behind x t e)
    led (bound zero) e = absurd (false≢true e)
    led (bound (suc k)) e = absurd (false≢true e)
    led (globals x r) e = absurd (false≢true e)
    led (starts side.Own) e = absurd (false≢true e)
    led (starts side.Left) e = absurd (false≢true e)
    led (starts side.Right) e = absurd (false≢true e)
    led (starts (side.Memory k)) e = refl
    led (starts (side.Bound zero)) e = refl
    led (starts (side.Bound (suc k))) e = absurd (false≢true e)
    led binds_own e = ((λ h. refl), tt)
    led binds_sides e = ((λ h. refl), tt)

    -- the memory that is bound is the one of the context
    pub named_means : (f : Term) → IsForm behind f → val g speaks (at_memory f i) s ≡ val g speaks f given
    named_means f w =
        let fit = fits_within c g fits memory (Some ls) in
        form_followed g j fair f (formed behind f w.typed) (sound_form g behind (procedures_sound behind g fit) f w.typed) to_named (uses_of behind) s given (tt, tt) led (uses_typed behind f w.typed)

-- The `exists` follows.
module _ (b : Context) (us : List Ty) (ns : List Frame) (i : ℕ) (ds : Declarations) (f : Term) (r : Ty) (whole : IsForm (small b us ns) (node head.SomeMemory (f ∷ []) r))
    (said : IsForm (small b us ns) (at_memory f i)) where
  pub memory_follows : Follows ds (small b us ns) (node head.SomeMemory (f ∷ []) r) (at_memory f i ∷ [])
  memory_follows =
      let c = small b us ns in
      let p = parts_typed c head.SomeMemory (f ∷ []) r whole.typed in
      let body : IsForm (within c memory (Some p.2)) f = record { typed = p.3; truth = p.0.0 } in
      record {
        typed = (goal_conclusion c [] [] (ambient (at_memory f i)) said, tt);
        leads = λ k fits s fit h.
            let g = setting ds k in
            (without_modules ds (node head.SomeMemory (f ∷ []) r) k s (front_of c (node head.SomeMemory (f ∷ []) r) whole.typed)).1
            (λ j fair.
            subst (λ r. den g j (node head.SomeMemory (f ∷ []) r) s ≡ true) (sym p.0.1.0)
            ((true_some_memory g j fair f s).1 (
              s.named i,
              sym (ap truth (named_means b us ns g fits j fair s i p.2 f body))
                  ∙ (without_modules ds (at_memory f i) k s (front_of c (at_memory f i) said.typed)).0 h.0 j fair,
            )));
      }
