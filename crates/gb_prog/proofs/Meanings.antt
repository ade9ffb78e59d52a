-- In a setting over a typed scope references mean what they stand for by declarations.
use Rattle.std.proofs.Common.{◌≡◌, Bool, true, false, List, Option, Some, None, refl, ap, sym, subst}
use Rattle.std.proofs.lemmas.Bool.{false≢true}
use Rattle.gb_terms.specs.declared.decl.Proc.{Proc}
use Rattle.gb_terms.specs.declared.module.Bind.{Bind}
use Rattle.gb_terms.specs.declared.module.ProcRef.{ProcRef}
use Rattle.gb_goal.specs.Instances.{name_of}
use Rattle.gb_goal.specs.Interfaces.{ProcedureType, procedure_type}
use Rattle.gb_goal.specs.Scope.{Declarations, abstract_of, procedure_of}
use Rattle.gb_meaning.specs.Names.{Name}
use Rattle.gb_meaning.specs.Setting.{Setting}
use Rattle.gb_meaning.specs.Declared.{declared}
use Rattle.gb_meaning.specs.Settings.{Interpretation, setting}
use Rattle.gb_typing.specs.Chosen.{IsChosenOver}
use Rattle.gb_typing.specs.Rules.{IsSettingOver}
use Rattle.gb_typing.specs.Scopes.{IsTypedScope}
use Rattle.gb_typing.proofs.LinkedProcedures.{linked_there}
use Rattle.gb_mods.specs.Meant.{any_of, meant_by, or_any}
use Rattle.gb_mods.specs.declared.meant.Meant.{Meant}
use Rattle.gb_mods.specs.declared.meant.Meant.TheVariants.{Unknown, Declared, Any}
use Rattle.gb_prog.specs.BothAnyOf.{AreBothAnyOf}
use Rattle.gb_prog.specs.Means.{IfDeclared, Means}
use Rattle.gb_prog.proofs.There.{any_there, both_there}

abbrev is_declared : Meant → Bool
is_declared (Declared f) = true
is_declared _ = false

abbrev procedure_in : Proc → Meant → Proc
procedure_in d (Declared f) = f
procedure_in d _ = d

module _ (ds : Declarations) (p : ProcRef) where
  -- what stands for a declared procedure is one
  pub declared_there : (f : Proc) → meant_by ds p ≡ Declared f → procedure_of ds p ≡ Some f
  declared_there f e = by_procedure (procedure_of ds p) e
    where
      by_type : (o : Option Bind) (t : Option ProcedureType) → any_of ds p o t ≡ Declared f → None ≡ Some f
      by_type None t e = absurd (false≢true (ap is_declared e))
      by_type (Some b) None e = absurd (false≢true (ap is_declared e))
      by_type (Some b) (Some t) e = absurd (false≢true (ap is_declared e))

      by_procedure : (o : Option Proc) → or_any ds p o ≡ Declared f → o ≡ Some f
      by_procedure (Some d) e = ap (λ (m : Meant). Some (procedure_in d m)) e
      by_procedure None e = by_type (abstract_of ds (name_of p.«module»)) (procedure_type ds None p) e

  pub if_declared : (P : Proc → Type 0) → ((f : Proc) → procedure_of ds p ≡ Some f → P f) → IfDeclared P (meant_by ds p)
  if_declared P h = step (meant_by ds p) refl
    where
      step : (m : Meant) → meant_by ds p ≡ m → IfDeclared P m
      step Unknown e = tt
      step (Declared f) e = h f (declared_there f e)
      step (Any a qs) e = tt

module _ (ds : Declarations) (scoped : IsTypedScope (declared ds)) where
  means_chosen : (i : Interpretation) → IsChosenOver (declared ds) i → (p : ProcRef) → Means (setting (declared ds) i) p (meant_by ds p)
  means_chosen i over p = step (meant_by ds p) refl
    where
      step : (m : Meant) → meant_by ds p ≡ m → Means (setting (declared ds) i) p m
      step Unknown e = tt
      step (Declared f) e = linked_there ds scoped i over p f (declared_there ds p f e)
      step (Any a qs) e = any_there ds scoped i over p a qs e

  pub means_there : (g : Setting) → IsSettingOver (declared ds) g → (p : ProcRef) → Means g p (meant_by ds p)
  means_there g over p = subst (λ h. Means h p (meant_by ds p)) (sym over.meant) (means_chosen over.interpretation over.chosen p)

  -- references to one procedure of an abstract module mean one procedure
  pub both_mean : (g : Setting) → IsSettingOver (declared ds) g → (p q : ProcRef) (a : Name) (os ps : List ProcRef) → meant_by ds p ≡ Any a os → meant_by ds q ≡ Any a ps → p.name ≡ q.name →
      AreBothAnyOf ds g a os ps p q
  both_mean g over p q a os ps e f same =
      subst (λ h. AreBothAnyOf ds h a os ps p q) (sym over.meant) (both_there ds scoped over.interpretation over.chosen p a os q ps e f same)
