-- A module that meets a module type fits it.
use Rattle.std.proofs.Common.{◌≡◌, ℕ, Bool, true, false, ◌&&◌, if◌then◌else◌, List, [], ◌∷◌, Option, Some, None, refl, ap, sym, ◌∙◌}
use Rattle.std.proofs.lemmas.Bool.{and_from}
use Rattle.std.proofs.lemmas.Option.{none-some}
use Rattle.gb_core.specs.declared.place.Place.{Place}
use Rattle.gb_terms.specs.declared.decl.Module.{Module}
use Rattle.gb_goal.specs.Answers.{Answer, ◌>>=◌}
use Rattle.gb_goal.specs.Answers.Answer.{given, refused}
use Rattle.gb_goal.specs.declared.module_type.ModuleType.{ModuleType}
use Rattle.gb_goal.specs.declared.module_type.Signature.{Signature}
use Rattle.gb_goal.specs.Scope.{Declarations, module_type_of}
use Rattle.gb_goal.specs.Interfaces.{ProcedureType, Procedures, fits, found, has_type, provides, signature_types, takes}
use Rattle.gb_mods.specs.Meets.{Known, each_calls_named, first_of, first_unmet, meets, meets_if, type_of_signature, unless_unmet, unmet}

-- a module that meets each signature has the procedures
none_unmet : (ps : Procedures ProcedureType) (ss : List Signature) → first_unmet ps ss ≡ None → provides ps (signature_types ss) ≡ true
none_unmet ps [] e = refl
none_unmet ps (s ∷ ss) e = step (has_type (found ps s.name) (type_of_signature s)) refl e (none_unmet ps ss)
  where
    step : (b : Bool) → has_type (found ps s.name) (type_of_signature s) ≡ b → (if b then first_unmet ps ss else Some s.name) ≡ None →
        (first_unmet ps ss ≡ None → provides ps (signature_types ss) ≡ true) → provides ps (signature_types (s ∷ ss)) ≡ true
    step true h f k = and_from _ _ h (k f)
    step false h f k = absurd (none-some s.name (sym f))

after : {B : Type 0} (a : Answer (Unit {0})) (k : Unit {0} → Answer B) (y : B) → (a >>= k) ≡ given y → a ≡ given tt
after (given tt) k y h = refl
after (refused w p) k y h = cc

unmet_none : (o : Option (List ℕ)) (p : Place) → unless_unmet o p ≡ given tt → o ≡ None
unmet_none None p e = refl
unmet_none (Some n) p e = cc

module _ (ds : Declarations) where
  fits_if : (k : Known) (n : List ℕ) (t : ModuleType) → unmet ds k.1 n t ≡ None → fits ds (Some k.1) (Some t) ≡ true
  fits_if k n t e = step (takes ds k.1.lacks t.params) refl e
    where
      step : (b : Bool) → takes ds k.1.lacks t.params ≡ b → (if b then first_unmet k.1.procedures t.signatures else Some (first_of n t.signatures)) ≡ None → fits ds (Some k.1) (Some t) ≡ true
      step true h f = and_from _ _ h (none_unmet k.1.procedures t.signatures f)
      step false h f = absurd (none-some (first_of n t.signatures) (sym f))

  pub meets_fits : (a : Option Module) (k : Known) (n : List ℕ) (t : ModuleType) (p : Place) → meets ds a k n t p ≡ given tt → fits ds (Some k.1) (Some t) ≡ true
  meets_fits a k n t p e =
      fits_if k n t (unmet_none (unmet ds k.1 n t) p (after (unless_unmet (unmet ds k.1 n t) p) (λ _. each_calls_named ds a k.0 t.params t.signatures p) tt e))

  -- the same of a module type by its name
  pub meeting_fits : (a : Option Module) (k : Known) (n : List ℕ) (p : Place) → meets_if ds a k n (module_type_of ds n) p ≡ given tt → fits ds (Some k.1) (module_type_of ds n) ≡ true
  meeting_fits a k n p e = step (module_type_of ds n) e
    where
      step : (o : Option ModuleType) → meets_if ds a k n o p ≡ given tt → fits ds (Some k.1) o ≡ true
      step None f = cc
      step (Some t) f = meets_fits a k n t p f
