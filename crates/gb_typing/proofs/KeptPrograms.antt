-- Chosen programs beside declared modules.
use Rattle.std.proofs.Common.{◌≡◌, Bool, true, false, if◌then◌else◌, List, [], ◌∷◌, Option, Some, None, bytes_eq, refl, ap, sym, ◌∙◌}
use Rattle.gb_meaning.specs.Names.{Name}
use Rattle.gb_meaning.specs.Program.{Routine}
use Rattle.gb_meaning.specs.Setting.{Setting}
use Rattle.gb_meaning.specs.Declared.{Declarations, abstract_type, abbreviation, operator, abstract_operator, module_type, concrete_module, abstract_module, axiom_of, lemma, terminating}
use Rattle.gb_meaning.specs.Linking.{linked_procedure}
use Rattle.gb_meaning.specs.Modules.{Reading, no_module, with_module, module_read, modules_of}
use Rattle.gb_meaning.specs.Modules as linked
use Rattle.gb_meaning.specs.Settings.{Chosen, with_abstract_programs, linked_modules}
use Rattle.gb_typing.specs.Chosen.{chosen_under, AreUnchosen}
use Rattle.gb_typing.proofs.Interfaces.{none_some, same_name}
use Rattle.gb_typing.proofs.Settings.{chosen_program, unchosen_module}

-- a module with a chosen program stays, where none is chosen under the name of a declared one
module _ {X : Type 0} (read : Reading X) (cs : List Chosen) (n : Name) (x : Chosen) (e : chosen_under cs n ≡ Some x) where
  pub chosen_kept : (ds : Declarations) (ms : linked.Modules X) → AreUnchosen cs ds → modules_of read ms ds n ≡ ms n
  chosen_kept [] ms u = refl
  chosen_kept ((k, concrete_module m) ∷ ds) ms u = chosen_kept ds (with_module ms k (module_read read ms m)) u.1 ∙ step (bytes_eq n k) refl
    where
      step : (b : Bool) → bytes_eq n k ≡ b → (if b then module_read read ms m else ms n) ≡ ms n
      step true h = none_some x (sym (ap (chosen_under cs) (same_name n k h) ∙ u.0) ∙ e)
      step false h = refl
  chosen_kept ((k, abstract_type) ∷ ds) ms u = chosen_kept ds ms u
  chosen_kept ((k, abbreviation a) ∷ ds) ms u = chosen_kept ds ms u
  chosen_kept ((k, operator o) ∷ ds) ms u = chosen_kept ds ms u
  chosen_kept ((k, abstract_operator o) ∷ ds) ms u = chosen_kept ds ms u
  chosen_kept ((k, module_type t) ∷ ds) ms u = chosen_kept ds ms u
  chosen_kept ((k, abstract_module b) ∷ ds) ms u = chosen_kept ds ms u
  chosen_kept ((k, axiom_of q) ∷ ds) ms u = chosen_kept ds ms u
  chosen_kept ((k, lemma q) ∷ ds) ms u = chosen_kept ds ms u
  chosen_kept ((k, terminating f) ∷ ds) ms u = chosen_kept ds ms u

module _ (ds : Declarations) (h : Setting) (cs : List Chosen) (u : AreUnchosen cs ds) where
  abbrev pub chosen : linked.Modules Routine
  chosen = with_abstract_programs ds cs (λ k. no_module)

  -- the linked modules are the declared ones over the chosen ones
  pub linked_is : (n : Name) → linked_modules ds h cs n ≡ modules_of (linked_procedure h) chosen ds n
  linked_is n = step (chosen_under cs n) refl
    where
      step : (o : Option Chosen) → chosen_under cs n ≡ o → linked_modules ds h cs n ≡ modules_of (linked_procedure h) chosen ds n
      step None e = unchosen_module ds cs (modules_of (linked_procedure h) chosen ds) n e
      step (Some x) e =
          chosen_program ds cs (modules_of (linked_procedure h) chosen ds) n x e ∙ sym (chosen_program ds cs (λ k. no_module) n x e)
          ∙ sym (chosen_kept (linked_procedure h) cs n x e ds chosen u)
