-- The property of globals of one memory that a form says, which reads no locals of it.
use Rattle.std.proofs.Common.{◌≡◌, Bool, true, false, not, ◌&&◌, List, [], ◌∷◌, map, Some, None, refl, ap, ◌∙◌, subst}
use Rattle.std.proofs.lemmas.Bool.{false≢true}
use Rattle.std.proofs.lemmas.Option.{none-some}
use Rattle.gb_core.specs.declared.ty.Ty.{Ty}
use Rattle.gb_core.specs.declared.value.Value.{Value}
use Rattle.gb_core.specs.declared.var.Var.{Var}
use Rattle.gb_core.specs.declared.var.Var.TheVariants as var
use Rattle.gb_terms.specs.declared.module.Mexp.TheVariants.{Name as named}
use Rattle.gb_terms.specs.declared.op.Side.TheVariants as side
use Rattle.gb_terms.specs.declared.term.Term.{Term}
use Rattle.gb_terms.proofs.Equality.{side_eq-Decides}
use Rattle.gb_walk.specs.Clash.{Exclusions, clashes, variables_read}
use Rattle.gb_meaning.specs.Judgments.{Judge, IsFair, den}
use Rattle.gb_meaning.specs.Memory.{Memory, read}
use Rattle.gb_meaning.specs.Names.{Name, Map, empty, set}
use Rattle.gb_meaning.specs.Setting.{Setting}
use Rattle.gb_meaning.specs.State.{State, at}
use Rattle.gb_meaning.specs.Values.{Global}
use Rattle.gb_meaning.proofs.Maps.{get-set_other}
use Rattle.gb_laws.specs.Cells.{Key}
use Rattle.gb_laws.specs.Cells.Key.{global, local}
use Rattle.gb_laws.specs.Writes.{IsNone, key_of_global}
use Rattle.gb_typing.specs.Context.{Context, reframed}
use Rattle.gb_typing.specs.Fits.{IsSettingOf}
use Rattle.gb_typing.specs.Forms.{IsKeptOff}
use Rattle.gb_typing.specs.Puts.{Readable, clash, every_variable}
use Rattle.gb_typing.specs.Rules.{outermost}
use Rattle.gb_typing.specs.Typing.{IsForm, IsIn}
use Rattle.gb_typing.proofs.Fitting.{fits_reframed}
use Rattle.gb_typing.proofs.Spared.{Clear, spared_variables, spared_within}
use Rattle.gb_typing.proofs.Substituted.{reads_any}
use Rattle.gb_prog.specs.Writes.{DifferIn}
use Rattle.gb_prog.proofs.Writes.{apart_read}
use Rattle.gb_call.proofs.After.{same_form}
use Rattle.gb_prog.specs.KeptProperty.{IsApartFrom}
use Rattle.gb_adv.proofs.OffOwner.{no_clash}

not_true : (b : Bool) → not b ≡ true → b ≡ false
not_true true e = absurd (false≢true e)
not_true false e = refl

module _ (b : Context) (g : Setting) (fits : IsSettingOf (outermost b) g) (j : Judge) (fair : IsFair g j) (v : State) (i : Term) (w : IsForm (reframed (outermost b) (Some []) None None) i) where
  abbrev c : Context
  c = reframed (outermost b) (Some []) None None

  fits_there : IsSettingOf c g
  fits_there = fits_reframed (outermost b) g fits (Some []) None None

  -- a memory without a frame
  abbrev bare : Map → Memory
  bare G = record { globals = G; frame = empty }

  abbrev pub property : Map → Bool
  property G = den g j i (at v (bare G))

  frameless : (m : Memory) (y : Var) (t : Ty) → IsIn c (Some []) y t → read g.types m y t ≡ read g.types (bare m.globals) y t
  frameless m (var.Local x) t k = absurd (none-some t k)
  frameless m (var.Global p x) t k = refl
  frameless m (var.Glob a) t k = refl

  -- the form says so of all memories with these globals
  pub property_is : (m : Memory) → den g j i (at v m) ≡ property m.globals
  property_is m = same_form c g fits_there j fair every_variable v m (bare m.globals) (λ y t k e. frameless m y t k) i w (reads_any c i w.typed)

  -- Where the form reads nothing that clashes with all that is a module's own, no write of it changes the property.
  module _ (es : Exclusions) (off : IsKeptOff es g) (a : Name) (clear : Clear side.Own tt (clashes es (var.Glob a)) (variables_read side.Own i)) where
    abbrev P : Readable
    P = spared_variables side.Own tt (clashes es (var.Glob a))

    apart : (y : Var) → P side.Own y ≡ true → clash g (var.Glob a) y ≡ false
    apart y e = no_clash es a g off y (not_true (clashes es (var.Glob a) y) (subst (λ b. not (b && clashes es (var.Glob a) y) ≡ true) ((side_eq-Decides side.Own side.Own).1 refl) e))

    property_after : (m o : Memory) → DifferIn g.types (var.Glob a ∷ []) m o → den g j i (at v o) ≡ den g j i (at v m)
    property_after m o d =
        same_form c g fits_there j fair P v o m (λ y t k h. apart_read g (var.Glob a ∷ []) m o d y t (apart y h, tt)) i w (spared_within side.Own tt (clashes es (var.Glob a)) c i w.typed clear)

    pub property_apart : IsApartFrom (g.types.footprint (named a)) property
    property_apart = each (g.types.footprint (named a)) (λ k n. n)
      where
        each : (xs : List Global) → ((k : Key) → IsNone k (map key_of_global (g.types.footprint (named a))) → IsNone k (map key_of_global xs)) → IsApartFrom xs property
        each [] h = tt
        each (x ∷ xs) h = ((λ u G r. property_after (bare G) (bare (set G (x.parent ∷ x.name ∷ []) u)) (differs u G) ∙ r), each xs (λ k n. (h k n).1))
          where
            differs : (u : Value) (G : Map) → DifferIn g.types (var.Glob a ∷ []) (bare G) (bare (set G (x.parent ∷ x.name ∷ []) u))
            differs u G (global q) s = get-set_other G (x.parent ∷ x.name ∷ []) u q (λ e. (h (global q) s.0).0 (ap global e))
            differs u G (local q) s = refl
