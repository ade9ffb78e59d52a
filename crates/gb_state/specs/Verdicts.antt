-- The verdict by how a script ends.
use Rattle.std.specs.Prelude.{◌≡◌, ℕ, List, Option, Some, None, Result, Ok, Err}
use Rattle.gb_core.specs.declared.place.Place.{Place}
use Rattle.gb_core.specs.declared.refusal.Refused.{Refused as Refusal}
use Rattle.gb_core.specs.declared.refusal.Refused.TheVariants as refusal
use Rattle.gb_core.specs.declared.refusal.Why.TheVariants.{Unclosed}
use Rattle.gb_state.specs.declared.verdict.Verdict.{Verdict}
use Rattle.gb_state.specs.declared.verdict.Verdict.TheVariants.{Accepted, Refused}

-- the verdict where the last command was run: Accepted with the lemmas, or Refused at the end where a proof is open
abbrev pub verdict_at : {P : Type 0} → Option P → List (List ℕ) → Place → Verdict
verdict_at None lemmas end = Accepted lemmas
verdict_at (Some p) lemmas end = Refused Unclosed end

-- The verdict on a script that ends at this place, or with this refusal. Want of memory has no verdict.
abbrev pub IsVerdictAt : {P : Type 0} → Option P → List (List ℕ) → Result Place Refusal → Verdict → Type 0
IsVerdictAt proof lemmas (Ok end) v = v ≡ verdict_at proof lemmas end
IsVerdictAt proof lemmas (Err (refusal.Script why place)) v = v ≡ Refused why place
IsVerdictAt proof lemmas (Err refusal.NoMemory) v = ⊥
IsVerdictAt proof lemmas (Err refusal.ReadFault) v = ⊥
