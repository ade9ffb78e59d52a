-- What a reference that is found to be a procedure of an abstract module stands for.
use Rattle.std.proofs.Common.{◌≡◌, true, List, Option, Some, None, bytes_eq, refl, subst}
use Rattle.std.proofs.lemmas.Bool.{and_parts}
use Rattle.std.proofs.lemmas.Option.{none-some, same_Some}
use Rattle.std.proofs.lemmas.Slice.Eq.{bytes_eq-Decides}
use Rattle.std.specs.Option.{option_map}
use Rattle.gb_terms.specs.declared.module.ProcRef.{ProcRef}
use Rattle.gb_terms.specs.declared.term.Instr.{Instr}
use Rattle.gb_goal.specs.Interfaces.{ProcedureType, procedure_type}
use Rattle.gb_goal.specs.Scope.{Declarations}
use Rattle.gb_mods.specs.Meant.{meant_by}
use Rattle.gb_mods.specs.declared.meant.Meant.{Meant}
use Rattle.gb_mods.specs.declared.meant.Meant.TheVariants.{Any, Declared, Unknown}
use Rattle.gb_call.specs.LastCall.{LastCall, last_call}
use Rattle.gb_adv.specs.Abstract.{AbstractCall, AbstractProcedure, abstract_call, abstract_procedure, any_one, calling, same_abstract}

-- its type is known, and so are the module and the oracles
pub record IsFound (ds : Declarations) (f : ProcRef) (h : AbstractProcedure) : Type 0 where
  pub name : h.name ≡ f.name
  pub known : procedure_type ds None f ≡ Some h.type
  pub meant : meant_by ds f ≡ Any h.owner h.oracles

pub procedure_found : (ds : Declarations) (f : ProcRef) (h : AbstractProcedure) → abstract_procedure ds f ≡ Some h → IsFound ds f h
procedure_found ds f h e = step (procedure_type ds None f) refl (meant_by ds f) refl e
  where
    step : (o : Option ProcedureType) → procedure_type ds None f ≡ o → (m : Meant) → meant_by ds f ≡ m → any_one f o m ≡ Some h → IsFound ds f h
    step None d m n e = absurd (none-some h e)
    step (Some t) d Unknown n e = absurd (none-some h e)
    step (Some t) d (Declared p) n e = absurd (none-some h e)
    step (Some t) d (Any a qs) n e =
        subst (IsFound ds f) (same_Some (record { owner = a; name = f.name; type = t; oracles = qs }) h e) (record { name = refl; known = d; meant = n })

-- a body ends with a call of such a procedure
pub record IsFoundCall (ds : Declarations) (is : List Instr) (k : AbstractCall) : Type 0 where
  pub last : last_call is ≡ Some k.call
  pub procedure : IsFound ds (let l = k.call in l.procedure) k.called

pub call_found : (ds : Declarations) (is : List Instr) (k : AbstractCall) → abstract_call ds (last_call is) ≡ Some k → IsFoundCall ds is k
call_found ds is k e = by_last (last_call is) refl e
  where
    by_procedure : (l : LastCall) → last_call is ≡ Some l → (o : Option AbstractProcedure) → abstract_procedure ds l.procedure ≡ o → option_map (calling l) o ≡ Some k → IsFoundCall ds is k
    by_procedure l d None n e = absurd (none-some k e)
    by_procedure l d (Some h) n e = subst (IsFoundCall ds is) (same_Some (calling l h) k e) (record { last = d; procedure = procedure_found ds l.procedure h n })

    by_last : (o : Option LastCall) → last_call is ≡ o → abstract_call ds o ≡ Some k → IsFoundCall ds is k
    by_last None d e = absurd (none-some k e)
    by_last (Some l) d e = by_procedure l d (abstract_procedure ds l.procedure) refl e

-- both are the same procedure of the same module
pub record AreOne (f h : AbstractProcedure) : Type 0 where
  pub owner : f.owner ≡ h.owner
  pub name : f.name ≡ h.name

pub are_one : (f h : AbstractProcedure) → same_abstract f h ≡ true → AreOne f h
are_one f h e =
    let k = and_parts (bytes_eq f.owner h.owner) (bytes_eq f.name h.name) e in
    record { owner = (bytes_eq-Decides f.owner h.owner).0 k.0; name = (bytes_eq-Decides f.name h.name).0 k.1 }
