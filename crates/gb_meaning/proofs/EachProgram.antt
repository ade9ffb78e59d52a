-- A lemma on every program of a module type.
use Rattle.std.proofs.Common.{◌≡◌, Bool, true, false, List, [], ◌∷◌, Option, Some, None, option_map, if◌then◌else◌, bytes_eq, refl, sym, subst}
use Rattle.std.proofs.lemmas.Bool.{false≢true}
use Rattle.gb_core.specs.declared.value.Value.{out-Value}
use Rattle.gb_dist.specs.WeightedList.{WeightedList, Every}
use Rattle.gb_meaning.specs.Names.{Name}
use Rattle.gb_meaning.specs.Values.{Global}
use Rattle.gb_meaning.specs.Program.{Routine, Oracle}
use Rattle.gb_meaning.specs.Setting.{Setting}
use Rattle.gb_meaning.specs.Meanings.{of_truth, truth}
use Rattle.gb_meaning.specs.Sound.{IsSoundRoutine}
use Rattle.gb_meaning.specs.Judgments.{IsSoundIfThere}
use Rattle.gb_meaning.specs.Declared.{Signature}
use Rattle.gb_meaning.specs.Modules.{Procedures, found}
use Rattle.gb_meaning.specs.Linking.{Oracles, link_routine, oracle_of}
use Rattle.gb_meaning.specs.Adversary.{callable, each_linked}
use Rattle.gb_meaning.specs.Programs.{IfThere, IsProcedureFor}
use Rattle.gb_meaning.specs.Settings.{with_program, setting}
use Rattle.gb_meaning.specs.Holds.{Holds, interpretation}
use Rattle.gb_meaning.specs.HoldingExamples.{oracle_type, oracle_signature, any_oracle, oracle_and_adversary, nothing_said}
use Rattle.gb_meaning.proofs.Sounds.{typed_sound_routine}

found-if : (os : Oracles) (p : Name × Routine) (ps : Procedures Routine) (n : Name) (t : Bool) →
    found (each_linked os ps) n ≡ option_map (link_routine os) (found ps n) →
    (if t then Some (link_routine os p.1) else found (each_linked os ps) n) ≡ option_map (link_routine os) (if t then Some p.1 else found ps n)
found-if os p ps n true e = refl
found-if os p ps n false e = e

-- a procedure of a program, linked
pub found-each_linked : (os : Oracles) (ps : Procedures Routine) (n : Name) →
    found (each_linked os ps) n ≡ option_map (link_routine os) (found ps n)
found-each_linked os [] n = refl
found-each_linked os (p ∷ ps) n = found-if os p ps n (bytes_eq n p.0) (found-each_linked os ps n)

sound_if_there : (g : Setting) (ss : Oracle → Option Signature) (gs : List Global) (s : Signature) (os : Oracles) →
    ((o : Oracle) → IfThere (IsSoundRoutine g) (os o)) → (r : Option Routine) → IsProcedureFor g ss gs s r →
    IsSoundIfThere g (option_map (link_routine os) r)
sound_if_there g ss gs s os all None h = absurd h
sound_if_there g ss gs s os all (Some r) h = typed_sound_routine g ss os all gs r h.1

always : {A : Type 0} (P : A → Type 0) → ((a : A) → P a) → (l : WeightedList A) → Every P l
always P h [] = tt
always P h (e ∷ l) = (h e.0, always P h l)

told : (b : Bool) → b ≡ true → truth (of_truth b) ≡ true
unfolding out-Value denote.Hole.Carrier.out
told true h = refl
told false h = absurd (false≢true h)

pub nothing_said_holds : Holds oracle_and_adversary nothing_said
unfolding out-Value denote.Hole.Carrier.out
nothing_said_holds w size table model vs typed ms hyps a within j fair =
    let g : Setting = setting oracle_and_adversary (with_program (interpretation w size table) any_oracle a) in
    told (j _ _) ((fair _ _
    (subst (IsSoundIfThere g) (sym (found-each_linked (oracle_of [] []) a.procedures (111 ∷ [])))
    (sound_if_there g (callable oracle_and_adversary oracle_type oracle_signature) a.footprint oracle_signature (oracle_of [] []) (λ o. tt) (found a.procedures (111 ∷ [])) within.program.procedures.0))).1
    (λ m h. always _ (λ n. refl) _))
