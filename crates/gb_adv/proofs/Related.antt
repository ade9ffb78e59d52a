-- The relation of globals of two memories that a form says, which reads no locals of them.
use Rattle.std.proofs.Common.{◌≡◌, Bool, true, false, not, ◌&&◌, List, [], ◌∷◌, map, Some, None, refl, ap, ◌∙◌, subst}
use Rattle.std.proofs.lemmas.Bool.{and_parts, false≢true}
use Rattle.std.proofs.lemmas.Option.{none-some}
use Rattle.gb_core.specs.declared.ty.Ty.{Ty}
use Rattle.gb_core.specs.declared.value.Value.{Value}
use Rattle.gb_core.specs.declared.var.Var.{Var}
use Rattle.gb_core.specs.declared.var.Var.TheVariants as var
use Rattle.gb_terms.specs.declared.module.Mexp.TheVariants.{Name as named}
use Rattle.gb_terms.specs.declared.op.Side.TheVariants as side
use Rattle.gb_terms.specs.declared.term.Term.{Term}
use Rattle.gb_terms.proofs.Equality.{side_eq-Decides}
use Rattle.gb_walk.specs.Clash.{variables_read}
use Rattle.gb_meaning.specs.Judgments.{Judge, IsFair, den}
use Rattle.gb_meaning.specs.Memory.{Memory, read}
use Rattle.gb_meaning.specs.Names.{Name, Map, empty, set}
use Rattle.gb_meaning.specs.Setting.{Setting}
use Rattle.gb_meaning.specs.State.{State, between}
use Rattle.gb_meaning.specs.Values.{Global}
use Rattle.gb_meaning.proofs.Maps.{get-set_other}
use Rattle.gb_laws.specs.Cells.{Key}
use Rattle.gb_laws.specs.Cells.Key.{global, local}
use Rattle.gb_laws.specs.Uses.{Uses, IsWithin}
use Rattle.gb_laws.specs.Writes.{IsNone, key_of_global}
use Rattle.gb_typing.specs.Context.{Context, reframed}
use Rattle.gb_typing.specs.Fits.{IsSettingOf}
use Rattle.gb_typing.specs.Puts.{Readable, clash, every_variable, reading}
use Rattle.gb_typing.specs.Rules.{outermost}
use Rattle.gb_typing.specs.Typing.{IsForm, IsIn}
use Rattle.gb_typing.proofs.Both.{within_both}
use Rattle.gb_typing.proofs.Spared.{Clear, spared_variables, spared_within}
use Rattle.gb_typing.proofs.Substituted.{reads_any}
use Rattle.gb_prog.specs.Writes.{DifferIn}
use Rattle.gb_prog.proofs.Writes.{apart_read}
use Rattle.gb_prog.proofs.AssignedForms.{in_both}
use Rattle.gb_call_both.proofs.Sided.{same_form}
use Rattle.gb_prog.specs.Coupled.{IsKept}

module _ (b : Context) (g : Setting) (fits : IsSettingOf (outermost b) g) (j : Judge) (fair : IsFair g j) (v : State) (i : Term) (w : IsForm (reframed (outermost b) None (Some []) (Some [])) i) where
  abbrev c : Context
  c = reframed (outermost b) None (Some []) (Some [])

  -- a memory without a frame
  abbrev pub bare : Map → Memory
  bare G = record { globals = G; frame = empty }

  abbrev pub related : Map → Map → Bool
  related G H = den g j i (between v (bare G) (bare H))

  frameless : (m : Memory) (y : Var) (t : Ty) → IsIn c (Some []) y t → read g.types m y t ≡ read g.types (bare m.globals) y t
  frameless m (var.Local x) t k = absurd (none-some t k)
  frameless m (var.Global p x) t k = refl
  frameless m (var.Glob a) t k = refl

  -- the form says so of all memories with these globals
  pub related_is : (m n : Memory) → den g j i (between v m n) ≡ related m.globals n.globals
  related_is m n =
      same_form b (Some []) (Some []) g fits j fair every_variable v m n (bare m.globals) (bare n.globals)
      (λ y t k e. frameless m y t k) (λ y t k e. frameless n y t k) i w (reads_any c i w.typed)

  not_true : (b : Bool) → not b ≡ true → b ≡ false
  not_true true e = absurd (false≢true e)
  not_true false e = refl

  -- Where the form reads nothing that clashes with all that is a module's own, no write of it changes the relation.
  module _ (a : Name) (test : Var → Bool) (apart : (y : Var) → test y ≡ false → clash g (var.Glob a) y ≡ false)
      (left : Clear side.Left tt test (variables_read side.Left i)) (right : Clear side.Right tt test (variables_read side.Right i)) where
    abbrev P : Readable
    P s y = spared_variables side.Left tt test s y && spared_variables side.Right tt test s y

    within : IsWithin (reading P) i
    within =
        subst (λ (K : Uses). IsWithin K i) (λ k u. in_both (spared_variables side.Left tt test) (spared_variables side.Right tt test) u k)
        (within_both (reading (spared_variables side.Left tt test)) (reading (spared_variables side.Right tt test)) i
        (spared_within side.Left tt test c i w.typed left) (spared_within side.Right tt test c i w.typed right))

    left_apart : (y : Var) → P side.Left y ≡ true → clash g (var.Glob a) y ≡ false
    left_apart y e =
        apart y (not_true (test y) (subst (λ b. not (b && test y) ≡ true) ((side_eq-Decides side.Left side.Left).1 refl)
        (and_parts (spared_variables side.Left tt test side.Left y) (spared_variables side.Right tt test side.Left y) e).0))

    right_apart : (y : Var) → P side.Right y ≡ true → clash g (var.Glob a) y ≡ false
    right_apart y e =
        apart y (not_true (test y) (subst (λ b. not (b && test y) ≡ true) ((side_eq-Decides side.Right side.Right).1 refl)
        (and_parts (spared_variables side.Left tt test side.Right y) (spared_variables side.Right tt test side.Right y) e).1))

    pub related_after : (m n o p : Memory) → DifferIn g.types (var.Glob a ∷ []) m o → DifferIn g.types (var.Glob a ∷ []) n p → den g j i (between v o p) ≡ den g j i (between v m n)
    related_after m n o p d e =
        same_form b (Some []) (Some []) g fits j fair P v o p m n
        (λ y t k h. apart_read g (var.Glob a ∷ []) m o d y t (left_apart y h, tt)) (λ y t k h. apart_read g (var.Glob a ∷ []) n p e y t (right_apart y h, tt)) i w within

    pub related_kept : IsKept (g.types.footprint (named a)) related
    related_kept = each (g.types.footprint (named a)) (λ k n. n)
      where
        each : (xs : List Global) → ((k : Key) → IsNone k (map key_of_global (g.types.footprint (named a))) → IsNone k (map key_of_global xs)) → IsKept xs related
        each [] h = tt
        each (x ∷ xs) h = (
          (λ u G H r. related_after (bare G) (bare H) (bare (set G (x.parent ∷ x.name ∷ []) u)) (bare (set H (x.parent ∷ x.name ∷ []) u)) (differs u G) (differs u H) ∙ r),
          each xs (λ k n. (h k n).1),
        )
          where
            differs : (u : Value) (G : Map) → DifferIn g.types (var.Glob a ∷ []) (bare G) (bare (set G (x.parent ∷ x.name ∷ []) u))
            differs u G (global q) s = get-set_other G (x.parent ∷ x.name ∷ []) u q (λ e. (h (global q) s.0).0 (ap global e))
            differs u G (local q) s = refl
