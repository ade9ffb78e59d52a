-- Things for open parameters, one for each in order.
use Rattle.std.proofs.Common.{◌≡◌, inl, inr, Bool, true, if◌then◌else◌, List, [], ◌∷◌, map, refl, ap, ◌∙◌, bytes_eq}
use Rattle.std.proofs.lemmas.Bool.{false≢true, and_parts}
use Rattle.std.proofs.lemmas.Slice.Eq.{bytes_eq-Decides}
use Rattle.gb_terms.specs.declared.decl.Param.{Param}
use Rattle.gb_goal.specs.Interfaces.{serves, takes}
use Rattle.gb_goal.specs.Scope as scope
use Rattle.gb_goal.specs.Scope.{module_type_of}
use Rattle.gb_meaning.specs.Declared.{Declarations}
use Rattle.gb_meaning.specs.Modules.{Procedures}
use Rattle.gb_mods.specs.Meets.{open_name}
use Rattle.gb_arguments.specs.Opened.{asked_modules}
use Rattle.gb_arguments.proofs.Bridge.{HaveNames}
use Rattle.gb_arguments.proofs.Members.{Has}

module _ {X : Type 0} where
  -- the one for the parameter of this name
  abbrev pub one_for : List Param → List (Procedures X) → Param → Procedures X
  one_for [] xs q = []
  one_for (p ∷ ps) [] q = []
  one_for (p ∷ ps) (x ∷ xs) q = if bytes_eq (open_name q.name) (open_name p.name) then x else one_for ps xs q

  -- as many as there are parameters
  abbrev pub AreMany : List Param → List (Procedures X) → Type 0
  AreMany [] [] = Unit {0}
  AreMany (p ∷ ps) (x ∷ xs) = AreMany ps xs
  AreMany _ _ = ⊥

  same_each : (f g : Param → Procedures X) (qs : List Param) → ((q : Param) → Has qs q → f q ≡ g q) → map f qs ≡ map g qs
  same_each f g [] h = refl
  same_each f g (q ∷ qs) h = λ i. h q (inl refl) i ∷ same_each f g qs (λ p k. h p (inr k)) i

  pub all_given : (ps : List Param) (xs : List (Procedures X)) → HaveNames ps → AreMany ps xs → map (one_for ps xs) ps ≡ xs
  all_given [] [] w k = refl
  all_given [] (x ∷ xs) w k = absurd k
  all_given (p ∷ ps) [] w k = absurd k
  all_given (p ∷ ps) (x ∷ xs) w k = λ i.
      (if (bytes_eq-Decides (open_name p.name) (open_name p.name)).1 refl i then x else one_for ps xs p)
      ∷ (same_each (one_for (p ∷ ps) (x ∷ xs)) (one_for ps xs) ps (λ q h. ap (λ (b : Bool). if b then x else one_for ps xs q) (w.0 q h)) ∙ all_given ps xs w.1 k) i

-- a module type has as many parameters as a module lacks that meets it
pub taken_many : (ds : scope.Declarations) (all : Declarations) (ps qs : List Param) → takes ds ps qs ≡ true → AreMany ps (asked_modules all qs)
taken_many ds all [] [] e = tt
taken_many ds all [] (q ∷ qs) e = absurd (false≢true e)
taken_many ds all (p ∷ ps) [] e = absurd (false≢true e)
taken_many ds all (p ∷ ps) (q ∷ qs) e = taken_many ds all ps qs (and_parts (serves (module_type_of ds q.ty) (module_type_of ds p.ty)) (takes ds ps qs) e).1
