-- A refusal is the verdict.
use Rattle.std.proofs.Common.{◌≡◌, List, ℕ, Option, Some, Err, refl, sym, subst}
use Rattle.std.proofs.lemmas.Option.{some_pair_parts}
use Rattle.gb_core.specs.Refusal.{script_of}
use Rattle.gb_core.specs.declared.place.Place.{Place}
use Rattle.gb_core.specs.declared.refusal.Refused.{Refused as Refusal}
use Rattle.gb_core.specs.declared.refusal.Refused.TheVariants.{NoMemory, ReadFault, Script}
use Rattle.gb_core.specs.declared.refusal.Why.{Why}
use Rattle.gb_state.specs.Verdicts.{IsVerdictAt}
use Rattle.gb_state.specs.declared.verdict.Verdict.TheVariants.{Refused}
use Rattle.gb_state.proofs.verdict.verdict_of.Goals as goal

told : {P : Type 0} (proof : Option P) (lemmas : List (List ℕ)) (r : Refusal) (w : Why) (p : Place) → Some (w, p) ≡ script_of r → IsVerdictAt proof lemmas (Err r) (Refused w p)
told proof lemmas NoMemory w p e = absurd cc
told proof lemmas ReadFault w p e = absurd cc
told proof lemmas (Script v q) w p e = let h = some_pair_parts w v p q e in rw (h.0, h.1) refl

pub returns-in-Some : goal.returns-in-Some
returns-in-Some c =
    let s = c.args.state.now in
    subst (λ z. IsVerdictAt s.proof s.lemmas z (Refused c.in-Some.why c.in-Some.place)) (sym c.in-Err.is) (told s.proof s.lemmas c.in-Err.refused c.in-Some.why c.in-Some.place c.in-Some.ensures)
