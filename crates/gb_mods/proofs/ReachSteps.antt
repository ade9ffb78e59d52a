-- What procedures call inside of a module, by its next parameter.
use Rattle.std.proofs.Common.{◌≡◌, ◌↔◌, IsTrue, ℕ, zero, suc, ◌+◌, ◌<◌, Bool, true, false, if◌then◌else◌, List, [], ◌∷◌, length, get_or, drop, Some, bytes_eq, refl, ap, sym, ◌∙◌, arith}
use Rattle.std.proofs.lemmas.Bool.Decides.{same_from_decides}
use Rattle.std.proofs.lemmas.List.{at_drop_more}
use Rattle.std.proofs.lemmas.Slice.Eq.{bytes_eq-Decides}
use Rattle.gb_terms.specs.declared.decl.Module.{Module}
use Rattle.gb_terms.specs.declared.decl.Param.{Param}
use Rattle.gb_terms.specs.declared.module.Mexp.{Mexp}
use Rattle.gb_terms.specs.declared.module.ProcRef.{ProcRef}
use Rattle.gb_goal.specs.Scope.{Declarations, entry_of, module_type_of}
use Rattle.gb_mods.specs.Asked.{asked_by}
use Rattle.gb_mods.specs.Reach.{called_declared, called_inside, calls_of}

-- a test that is true exactly at equal names, by what it says
name_test : (b : Bool) (m n : List ℕ) → IsTrue b ↔ (m ≡ n) → bytes_eq m n ≡ b
name_test b m n h = sym (same_from_decides b (bytes_eq m n) h (bytes_eq-Decides m n))

none_left : (ps : List Param) (i : ℕ) → (i < length ps → ⊥) → drop i ps ≡ []
none_left [] zero h = refl
none_left [] (suc i) h = refl
none_left (p ∷ ps) zero h = absurd (h (omega arith))
none_left (p ∷ ps) (suc i) h = none_left ps i (λ k. h (omega (arith, k)))

-- by the next parameter
pub inside_next : (ds : Declarations) (m : Module) (ps : List Param) (i : ℕ) (p : Param) (n : List ℕ) (es : List Mexp) (f : List ℕ) → i < length ps → p ≡ get_or ps i p →
    (b c : Bool) → IsTrue b ↔ (n ≡ p.name) → b ≡ c →
    (if c then asked_by ds (module_type_of ds p.ty) es f else called_inside ds m (drop (i + 1) ps) n es f) ≡ called_inside ds m (drop i ps) n es f
inside_next ds m ps i p n es f h e b c t d =
    sym (at_drop_more (λ z. called_inside ds m z n es f) ps i p h ∙ ap (λ z. called_inside ds m (z ∷ drop (i + 1) ps) n es f) (sym e)
    ∙ ap (λ (a : Bool). if a then asked_by ds (module_type_of ds p.ty) es f else called_inside ds m (drop (i + 1) ps) n es f) (name_test b n p.name t ∙ d))

-- .. behind all of them
pub inside_end : (ds : Declarations) (m : Module) (ps : List Param) (i : ℕ) (n : List ℕ) (es : List Mexp) (f : List ℕ) → (i < length ps → ⊥) → (b c : Bool) → IsTrue b ↔ (n ≡ m.name) → b ≡ c →
    (if c then calls_of (Some m) es f else called_declared ds (entry_of ds n) es f) ≡ called_inside ds m (drop i ps) n es f
inside_end ds m ps i n es f h b c t d =
    sym (ap (λ z. called_inside ds m z n es f) (none_left ps i h)
    ∙ ap (λ (a : Bool). if a then calls_of (Some m) es f else called_declared ds (entry_of ds n) es f) (name_test b n m.name t ∙ d))
