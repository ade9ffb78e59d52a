-- References to the procedures of a module, by what is known of it.
use Rattle.std.proofs.Common.{◌≡◌, List, [], ◌∷◌, refl, ap}
use Rattle.gb_terms.specs.declared.decl.Proc.{Proc}
use Rattle.gb_terms.specs.declared.module.Mexp.{Mexp}
use Rattle.gb_goal.specs.declared.module_type.Signature.{Signature}
use Rattle.gb_goal.specs.Interfaces.{procedure_types, signature_types}
use Rattle.gb_mods.specs.Footprint.{reference, references, signed}
use Rattle.gb_instances.specs.Footprint.{references_to}

pub references_are : (e : Mexp) (fs : List Proc) → references e fs ≡ references_to e (procedure_types fs)
references_are e [] = refl
references_are e (f ∷ fs) = ap (λ rs. reference e f.name ∷ rs) (references_are e fs)

pub signed_are : (e : Mexp) (ss : List Signature) → signed e ss ≡ references_to e (signature_types ss)
signed_are e [] = refl
signed_are e (s ∷ ss) = ap (λ rs. reference e s.name ∷ rs) (signed_are e ss)
