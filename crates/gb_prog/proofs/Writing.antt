-- A procedure that is linked writes no global but those that it may touch, and what its oracles write.
use Rattle.std.proofs.Common.{◌≡◌, ◌≢◌, Bool, true, false, ◌&&◌, if◌then◌else◌, List, [], ◌∷◌, map, Option, Some, None, option_map, bytes_eq, refl, ap, sym, ◌∙◌, subst}
use Rattle.std.proofs.lemmas.Bool.{false≢true, and_parts}
use Rattle.std.proofs.lemmas.Option.{none-some, same_Some}
use Rattle.std.proofs.lemmas.Slice.Eq.{bytes_eq-Decides}
use Rattle.gb_core.specs.declared.ty.Ty.{Ty}
use Rattle.gb_core.specs.declared.ty.Ty.TheVariants as ty
use Rattle.gb_core.specs.declared.var.Var.{Var}
use Rattle.gb_core.specs.declared.var.Var.TheVariants as var
use Rattle.gb_terms.specs.declared.module.Mexp.TheVariants.{Name as named}
use Rattle.gb_terms.specs.declared.module.ProcRef.{ProcRef}
use Rattle.gb_terms.specs.declared.term.Term.{Term}
use Rattle.gb_meaning.specs.Names.{Name, Path}
use Rattle.gb_meaning.specs.Program.{Program, Routine, Oracle}
use Rattle.gb_meaning.specs.Program.Program.{done, assign, sample, branch, loop, call, ask}
use Rattle.gb_meaning.specs.Program.Routine.{routine}
use Rattle.gb_meaning.specs.Setting.{Setting}
use Rattle.gb_meaning.specs.Values.{Global}
use Rattle.gb_laws.specs.Cells.{Key}
use Rattle.gb_laws.specs.Cells.Key.{global, local}
use Rattle.gb_laws.specs.Writes.{IfGlobal, IsNone, Spares, Unwritten, UnwrittenBy, key_of_global, keys_of}
use Rattle.gb_meaning.specs.Declared.{Signature}
use Rattle.gb_meaning.specs.Linking.{Oracles, answered, link, link_routine}
use Rattle.gb_meaning.specs.Typing.{FitsSignature, IsDistributionOver, IsTyped, IsTypedRoutine, Names, Takes, global_type, type_of, types_of, with_type}
use Rattle.gb_mods.proofs.Closed.{IsIn}
use Rattle.gb_prog.specs.AnyOf.{IfOneOf, IsAnyOf, IsOneOf}
use Rattle.gb_prog.specs.Carried.{EachCarried, EachCarriedBy}

abbrev is_local : Key → Bool
is_local (local x) = true
is_local (global x) = false

module _ (g : Setting) (x : Path) where
  abbrev k : Key
  k = global x

  -- it is the place of none of these globals
  abbrev IsOutside : List Global → Type 0
  IsOutside gs = IsNone k (map key_of_global gs)

  other_global : (gs : List Global) → IsOutside gs → (m y : Name) (t : Ty) → global_type gs m y ≡ Some t → k ≢ global (m ∷ y ∷ [])
  other_global [] h m y t e = absurd (none-some t e)
  other_global (z ∷ gs) h m y t e = step (bytes_eq m z.parent && bytes_eq y z.name) refl e (other_global gs h.1 m y t)
    where
      step : (b : Bool) → (bytes_eq m z.parent && bytes_eq y z.name) ≡ b → (if b then Some z.ty else global_type gs m y) ≡ Some t →
          (global_type gs m y ≡ Some t → k ≢ global (m ∷ y ∷ [])) → k ≢ global (m ∷ y ∷ [])
      step true q e go =
          let p = and_parts (bytes_eq m z.parent) (bytes_eq y z.name) q in
          λ f. h.0 (f ∙ (λ i. global ((bytes_eq-Decides m z.parent).0 p.0 i ∷ (bytes_eq-Decides y z.name).0 p.1 i ∷ [])))
      step false q e go = go e

  module _ (n : Names) (out : IsOutside n.globals) where
    variable_spared : (y : Var) (t : Ty) → type_of n y ≡ Some t → IsNone k (keys_of g.types y)
    variable_spared (var.Global m y) t e = (other_global n.globals out m y t e, tt)
    variable_spared (var.Local y) t e = ((λ f. false≢true (ap is_local f)), tt)
    variable_spared (var.Glob a) t e = absurd (none-some t e)

    drawn_spared : (y : Var) (d : Term) (o : Option Ty) → type_of n y ≡ o → IsDistributionOver g n o d → IsNone k (keys_of g.types y)
    drawn_spared y d None e w = absurd w
    drawn_spared y d (Some t) e w = variable_spared y t e

    each_spared : (ys : List Var) (ts : List Ty) → types_of n ys ≡ Some ts → Spares g.types ys k
    each_spared [] ts e = tt
    each_spared (y ∷ ys) ts e = step (λ us q. each_spared ys us q) (type_of n y) refl (types_of n ys) refl e
      where
        step : ((us : List Ty) → types_of n ys ≡ Some us → Spares g.types ys k) → (o : Option Ty) → type_of n y ≡ o → (r : Option (List Ty)) → types_of n ys ≡ r →
            with_type o r ≡ Some ts → Spares g.types (y ∷ ys) k
        step rest None p r q e = absurd (none-some ts e)
        step rest (Some t) p None q e = absurd (none-some ts e)
        step rest (Some t) p (Some us) q e = (variable_spared y t p, rest us q)

    taken_spared : (ys : List Var) (t : Ty) → Takes n ys t → Spares g.types ys k
    taken_spared [] t w = tt
    taken_spared (y ∷ []) t w = (variable_spared y t w, tt)
    taken_spared (y ∷ z ∷ ys) t w = step (types_of n (y ∷ z ∷ ys)) refl w
      where
        step : (o : Option (List Ty)) → types_of n (y ∷ z ∷ ys) ≡ o → option_map ty.Tuple o ≡ Some t → Spares g.types (y ∷ z ∷ ys) k
        step None q e = absurd (none-some t e)
        step (Some us) q e = each_spared (y ∷ z ∷ ys) us q

  module _ (ss : Oracle → Option Signature) (os : Oracles) (S : List ProcRef) (answers : (o : Oracle) (s : Signature) → ss o ≡ Some s → (r : Routine) → os o ≡ Some r → IsOneOf g S r) where
    -- where one of the references means it, it leaves the place
    abbrev Leaves : Routine → Type 0
    Leaves = IfOneOf g S (λ r. UnwrittenBy g r k)

    asked_left : (n : Names) → IsOutside n.globals → (ys : List Var) (o : Oracle) (es : List Term) (c : Program) (s : Option Signature) → ss o ≡ s → FitsSignature g n s ys es →
        (r : Option Routine) → os o ≡ r → EachCarried Leaves (answered r ys o es c) → (EachCarried Leaves c → Unwritten g c k) → Unwritten g (answered r ys o es c) k
    asked_left n out ys o es c None e w r q h go = absurd w
    asked_left n out ys o es c (Some s) e w None q h go = go h
    asked_left n out ys o es c (Some s) e w (Some r) q h go =
        let z = answers o s e r q in (taken_spared n out ys s.result w.1, h.0 z.0 z.1 z.2, go h.2)

    mutual
      linked_left : (n : Names) → IsOutside n.globals → (c : Program) → IsTyped g ss n c → EachCarried Leaves (link os c) → Unwritten g (link os c) k
      linked_left n out done w h = tt
      linked_left n out (assign ys e c) w h = (taken_spared n out ys _ w.1, linked_left n out c w.2 h)
      linked_left n out (sample y d c) w h = (drawn_spared n out y d (type_of n y) refl w.0, linked_left n out c w.1 h)
      linked_left n out (branch e a b c) w h = (linked_left n out a w.1 h.0, linked_left n out b w.2 h.1, linked_left n out c w.3 h.2)
      linked_left n out (loop e v a c) w h = (linked_left n out a w.2 h.0, linked_left n out c w.3 h.1)
      linked_left n out (call ys r es c) w h = (taken_spared n out ys _ w.2, routine_left n.globals out r w.0 h.1, linked_left n out c w.3 h.2)
      linked_left n out (ask ys o es c) w h = asked_left n out ys o es (link os c) (ss o) refl w.0 (os o) refl h (λ z. linked_left n out c w.1 z)

      pub routine_left : (gs : List Global) → IsOutside gs → (r : Routine) → IsTypedRoutine g ss gs r → EachCarriedBy Leaves (link_routine os r) → UnwrittenBy g (link_routine os r) k
      routine_left gs out (routine ps ls c v) w h = linked_left (record { globals = gs; locals = _ }) out c w.1 h

-- what means a procedure of an abstract module leaves each place that is none of the module's, where its oracles leave it
pub writes_of_any : (g : Setting) (a : Name) (qs : List ProcRef) (p : ProcRef) → IsAnyOf g a qs p → (S : List ProcRef) → ((q : ProcRef) → IsIn qs q → IsIn S q) →
    (k : Key) → IsNone k (keys_of g.types (var.Glob a)) → (r : Routine) → g.procedure p ≡ Some r → EachCarriedBy (IfOneOf g S (λ s. IfGlobal k (UnwrittenBy g s k))) r →
    IfGlobal k (UnwrittenBy g r k)
writes_of_any g a qs p w S among (local x) out r e h = tt
writes_of_any g a qs p w S among (global x) out r e h =
    let same = same_Some (link_routine w.oracles w.own) r (sym w.there ∙ e) in
    subst (λ s. UnwrittenBy g s (global x)) same
    (routine_left g x w.callable w.oracles S (λ o s k u f. (let z = w.answers o s k u f in (z.0, among z.0 z.1, z.2))) (g.types.footprint (named a)) out w.own w.typed
    (subst (EachCarriedBy (IfOneOf g S (λ s. UnwrittenBy g s (global x)))) (sym same) h))
