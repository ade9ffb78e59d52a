-- What oracles of a procedure of an abstract module write: nothing that is the module's own. And what the procedure writes.
use Rattle.std.proofs.Common.{◌≡◌, Bool, true, false, List, [], ◌∷◌, ◌++◌, Option, Some, None, filter, refl, ap, sym, ◌∙◌, subst}
use Rattle.std.proofs.lemmas.Bool.{false≢true}
use Rattle.std.proofs.lemmas.Option.{none-some}
use Rattle.std.specs.List.{AllByRecursion, list_any}
use Rattle.std.specs.Option.{option_or}
use Rattle.gb_core.specs.declared.var.Var.{Var}
use Rattle.gb_core.specs.declared.var.Var.TheVariants as var
use Rattle.gb_terms.specs.declared.module.Mexp.TheVariants.{Name as named}
use Rattle.gb_terms.specs.declared.module.ProcRef.{ProcRef}
use Rattle.gb_terms.specs.declared.op.Side.TheVariants as side
use Rattle.gb_terms.specs.declared.term.Term.{Term}
use Rattle.gb_walk.specs.Clash.{Exclusions, clashes, variables_read}
use Rattle.gb_goal.specs.Scope.{Declarations}
use Rattle.gb_meaning.specs.Names.{Name, Path}
use Rattle.gb_meaning.specs.Program.{Routine}
use Rattle.gb_meaning.specs.Setting.{Setting}
use Rattle.gb_meaning.specs.Sound.{IsSoundRoutine}
use Rattle.gb_meaning.specs.Values.{Global}
use Rattle.gb_laws.specs.Cells.{Key}
use Rattle.gb_laws.specs.Cells.Key.{global, local}
use Rattle.gb_laws.specs.Writes.{IfGlobal, IsNone, Spares, UnwrittenBy, key_of_global, keys_of}
use Rattle.gb_meaning.specs.Declared.{declared}
use Rattle.gb_meaning.specs.Footprints.{stands_for}
use Rattle.gb_typing.specs.Forms.{IsKeptOff}
use Rattle.gb_typing.specs.Puts.{share}
use Rattle.gb_typing.specs.Rules.{IsSettingOver}
use Rattle.gb_typing.specs.Scopes.{IsTypedScope}
use Rattle.gb_typing.proofs.ClashFree.{no_share}
use Rattle.gb_typing.proofs.Globals.{none_of, or_false, same_global}
use Rattle.gb_mods.specs.Exclusions.{exclusions}
use Rattle.gb_mods.specs.Meant.{meant_by}
use Rattle.gb_mods.specs.declared.meant.Meant.TheVariants.{Any}
use Rattle.gb_mods.proofs.Closed.{IsIn}
use Rattle.gb_prog.specs.AnyOf.{IfOneOf, IsAnyOf}
use Rattle.gb_prog.specs.Means.{Means}
use Rattle.gb_prog.proofs.Carried.{each_carried_by}
use Rattle.gb_prog.proofs.KeptOff.{kept_off}
use Rattle.gb_prog.proofs.Meanings.{means_there}
use Rattle.gb_prog.proofs.Writing.{writes_of_any}
use Rattle.gb_call.proofs.Conditions.{AllFalse, nothing_filtered, nothing_least}
use Rattle.gb_call.proofs.Unwritten.{reached_left}
use Rattle.gb_prog.specs.Coupled.{Leaves}
use Rattle.gb_adv.specs.Oracles.{meeting, meeting_both, writes_of}

-- Where none is found to clash, none clashes.

pub none_meets : (es : Exclusions) (a : Name) (ys : List Var) → meeting es a ys ≡ None → AllFalse (clashes es (var.Glob a)) ys
none_meets es a ys e =
    (nothing_filtered (clashes es (var.Glob a)) ys [] (ap (λ (l : List Var). l ++ []) (nothing_least (filter (clashes es (var.Glob a)) ys) e))).0

pub apart_of : (P : Var → Bool) (xs ys : List Var) → AllFalse P (xs ++ ys) → AllFalse P xs × AllFalse P ys
apart_of P [] ys h = (tt, h)
apart_of P (x ∷ xs) ys h = let z = apart_of P xs ys h.1 in ((h.0, z.0), z.1)

-- On two sides: what is read of a form, and what is written.
pub record MeetNone (es : Exclusions) (a : Name) (i : Term) (W U : List Var) : Type 0 where
  pub left_read : AllFalse (clashes es (var.Glob a)) (variables_read side.Left i)
  pub right_read : AllFalse (clashes es (var.Glob a)) (variables_read side.Right i)
  pub left_written : AllFalse (clashes es (var.Glob a)) W
  pub right_written : AllFalse (clashes es (var.Glob a)) U

pub both_meet_none : (es : Exclusions) (a : Name) (i : Term) (W U : List Var) → meeting_both es a i W U ≡ None → MeetNone es a i W U
both_meet_none es a i W U e = by_read (meeting es a (variables_read side.Left i ++ variables_read side.Right i)) refl e
  where
    by_read : (o : Option Var) → meeting es a (variables_read side.Left i ++ variables_read side.Right i) ≡ o → option_or o (meeting es a (W ++ U)) ≡ None → MeetNone es a i W U
    by_read (Some y) d e = absurd (none-some y (sym e))
    by_read None d e =
        let x = apart_of (clashes es (var.Glob a)) (variables_read side.Left i) (variables_read side.Right i) (none_meets es a _ d) in
        let y = apart_of (clashes es (var.Glob a)) W U (none_meets es a (W ++ U) e) in
        record { left_read = x.0; right_read = x.1; left_written = y.0; right_written = y.1 }

-- What shares nothing with all that is a module's own names no place of it.

abbrev is_local : Key → Bool
is_local (local y) = true
is_local (global y) = false

module _ (g : Setting) where
  one_spared : (x : Global) (w : Var) → stands_for (λ m. g.types.footprint (named m)) x w ≡ false → IsNone (key_of_global x) (keys_of g.types w)
  one_spared x (var.Local y) e = ((λ z. false≢true (ap is_local z)), tt)
  one_spared x (var.Global m y) e = ((λ z. false≢true (sym e ∙ same_global (record { parent = m; name = y; ty = x.ty }) x (sym z))), tt)
  one_spared x (var.Glob b) e = none_of x (g.types.footprint (named b)) e

  all_spared : (w : Var) (xs : List Global) → list_any (λ x. stands_for (λ m. g.types.footprint (named m)) x w) xs ≡ false → AllByRecursion (λ x. IsNone (key_of_global x) (keys_of g.types w)) xs
  all_spared w [] e = tt
  all_spared w (x ∷ xs) e =
      let k = or_false (stands_for (λ m. g.types.footprint (named m)) x w) (list_any (λ x. stands_for (λ m. g.types.footprint (named m)) x w) xs) e in
      (one_spared x w k.0, all_spared w xs k.1)

  module _ (a : Name) where
    abbrev gs : List Global
    gs = g.types.footprint (named a)

    no_write : (xs : List Global) → AllByRecursion (λ x. Spares g.types [] (key_of_global x)) xs
    no_write [] = tt
    no_write (x ∷ xs) = (tt, no_write xs)

    further_spared : (w : Var) (W : List Var) (xs : List Global) → AllByRecursion (λ x. IsNone (key_of_global x) (keys_of g.types w)) xs → AllByRecursion (λ x. Spares g.types W (key_of_global x)) xs →
        AllByRecursion (λ x. Spares g.types (w ∷ W) (key_of_global x)) xs
    further_spared w W [] h k = tt
    further_spared w W (x ∷ xs) h k = ((h.0, k.0), further_spared w W xs h.1 k.1)

    own_spared : (W : List Var) → AllByRecursion (λ w. share g (var.Glob a) w ≡ false) W → AllByRecursion (λ x. Spares g.types W (key_of_global x)) gs
    own_spared [] h = no_write gs
    own_spared (w ∷ W) h = further_spared w W gs (all_spared w gs h.0) (own_spared W h.1)

    share_none : (es : Exclusions) → IsKeptOff es g → (W : List Var) → AllFalse (clashes es (var.Glob a)) W → AllByRecursion (λ w. share g (var.Glob a) w ≡ false) W
    share_none es off [] h = tt
    share_none es off (w ∷ W) h = (no_share g es off (var.Glob a) w h.0, share_none es off W h.1)

module _ (ds : Declarations) (scoped : IsTypedScope (declared ds)) (g : Setting) (over : IsSettingOver (declared ds) g) (os : List ProcRef) (W : List Var) (known : writes_of ds os ≡ Some W) where
  -- an oracle writes none but these
  pub oracle_left : (q : ProcRef) → IsIn os q → (r : Routine) → g.procedure q ≡ Some r → (x : Path) → Spares g.types W (global x) → UnwrittenBy g r (global x)
  unfolding writes_of
  oracle_left q i r e x s = reached_left g x ds (means_there ds scoped g over) os W known s q i r e

  -- so it leaves what is the module's own, where none of these clashes with that
  pub oracle_leaves : (a : Name) → AllFalse (clashes (exclusions ds) (var.Glob a)) W → (q : ProcRef) → IsIn os q → (r : Routine) → g.procedure q ≡ Some r → IsSoundRoutine g r →
      Leaves g (g.types.footprint (named a)) r
  oracle_leaves a none q i r e sound =
      (sound, each (g.types.footprint (named a)) (own_spared g a W (share_none g a (exclusions ds) (kept_off ds scoped g over) W none)))
    where
      each : (xs : List Global) → AllByRecursion (λ x. Spares g.types W (key_of_global x)) xs → AllByRecursion (λ x. UnwrittenBy g r (key_of_global x)) xs
      each [] h = tt
      each (x ∷ xs) h = (oracle_left q i r e (x.parent ∷ x.name ∷ []) h.0, each xs h.1)

  -- the procedure writes none but these and what is the module's own
  pub any_left : (a : Name) (p : ProcRef) → meant_by ds p ≡ Any a os → (r : Routine) → g.procedure p ≡ Some r → (x : Path) → Spares g.types (var.Glob a ∷ W) (global x) → UnwrittenBy g r (global x)
  any_left a p meant r e x s =
      writes_of_any g a os p any os (λ q i. i) (global x) s.0 r e
      (each_carried_by (IfOneOf g os (λ z. IfGlobal (global x) (UnwrittenBy g z (global x)))) (λ z c q i f. oracle_left q i z f x s.1) r)
    where
      any : IsAnyOf g a os p
      any = subst (Means g p) meant (means_there ds scoped g over p)
