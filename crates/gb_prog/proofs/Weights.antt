-- A procedure that loses no weight loses none with oracles that lose none.
use Rattle.std.proofs.Common.{◌≡◌, Option, Some, None, List, refl, sym, ◌∙◌, subst}
use Rattle.std.proofs.lemmas.Option.{same_Some}
use Rattle.gb_core.specs.declared.var.Var.{Var}
use Rattle.gb_terms.specs.declared.module.Mexp.TheVariants.{Name as named}
use Rattle.gb_terms.specs.declared.module.ProcRef.{ProcRef}
use Rattle.gb_terms.specs.declared.term.Term.{Term}
use Rattle.gb_meaning.specs.Names.{Name}
use Rattle.gb_meaning.specs.Program.{Program, Routine, Oracle}
use Rattle.gb_meaning.specs.Program.Program.{done, assign, sample, branch, loop, call, ask}
use Rattle.gb_meaning.specs.Program.Routine.{routine}
use Rattle.gb_meaning.specs.Setting.{Setting}
use Rattle.gb_meaning.specs.Sound.{Full, FullRoutine}
use Rattle.gb_meaning.specs.Values.{Global}
use Rattle.gb_meaning.specs.Declared.{Signature}
use Rattle.gb_meaning.specs.Linking.{Oracles, answered, link, link_routine}
use Rattle.gb_meaning.specs.Typing.{FitsSignature, IsTyped, IsTypedRoutine, Names}
use Rattle.gb_mods.proofs.Closed.{IsIn}
use Rattle.gb_prog.specs.AnyOf.{IsAnyOf}

module _ (g : Setting) (ss : Oracle → Option Signature) (os : Oracles) (full : (o : Oracle) (s : Signature) → ss o ≡ Some s → (r : Routine) → os o ≡ Some r → FullRoutine g r) where
  asked_full : (n : Names) (xs : List Var) (o : Oracle) (es : List Term) (c : Program) (s : Option Signature) → ss o ≡ s → FitsSignature g n s xs es →
      (r : Option Routine) → os o ≡ r → Full g c → Full g (answered r xs o es c)
  asked_full n xs o es c None e w r q h = absurd w
  asked_full n xs o es c (Some s) e w None q h = h
  asked_full n xs o es c (Some s) e w (Some r) q h = (full o s e r q, h)

  mutual
    linked_full : (n : Names) (c : Program) → IsTyped g ss n c → Full g c → Full g (link os c)
    linked_full n done w h = tt
    linked_full n (assign xs e c) w h = linked_full n c w.2 h
    linked_full n (sample x d c) w h = (h.0, linked_full n c w.1 h.1)
    linked_full n (branch e a b c) w h = (linked_full n a w.1 h.0, linked_full n b w.2 h.1, linked_full n c w.3 h.2)
    linked_full n (loop e v a c) w h = (linked_full n a w.2 h.0, linked_full n c w.3 h.1)
    linked_full n (call xs r es c) w h = (routine_full n.globals r w.0 h.0, linked_full n c w.3 h.1)
    linked_full n (ask xs o es c) w h = asked_full n xs o es (link os c) (ss o) refl w.0 (os o) refl (linked_full n c w.1 h)

    pub routine_full : (gs : List Global) (r : Routine) → IsTypedRoutine g ss gs r → FullRoutine g r → FullRoutine g (link_routine os r)
    routine_full gs (routine ps ls c v) w h = linked_full _ c w.1 h

-- what means a procedure of an abstract module loses no weight where its oracles lose none
pub full_of_any : (g : Setting) (a : Name) (qs : List ProcRef) (p : ProcRef) → IsAnyOf g a qs p → ((q : ProcRef) → IsIn qs q → (s : Routine) → g.procedure q ≡ Some s → FullRoutine g s) →
    (r : Routine) → g.procedure p ≡ Some r → FullRoutine g r
full_of_any g a qs p w h r e =
    subst (FullRoutine g) (same_Some (link_routine w.oracles w.own) r (sym w.there ∙ e))
    (routine_full g w.callable w.oracles (λ o s k u f. (let z = w.answers o s k u f in h z.0 z.1 u z.2)) (g.types.footprint (named a)) w.own w.typed w.full)
