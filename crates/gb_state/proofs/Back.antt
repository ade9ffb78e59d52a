-- What stood before a command stands again.
use Rattle.std.proofs.Common.{◌≡◌, true, List, [], ◌∷◌, take, Some, None, refl, sym, subst}
use Rattle.gb_goal.specs.Scope.{Declarations}
use Rattle.gb_state.specs.declared.kept.Kept.{Kept}
use Rattle.gb_state.specs.declared.state.State.{State}
use Rattle.gb_state.specs.Opened.{is_undeclared}
use Rattle.gb_state.specs.Kept.{AreUndeclared, IsBefore, GoesBack}

pub none_kept : (ks left : List Kept) (s : State) → ks ≡ [] → left ≡ [] → GoesBack ks left s s None
none_kept ks left s none empty = subst (λ x. GoesBack x left s s None) (sym none) (empty, refl, refl)

pub last_kept : (ks left : List Kept) (k : Kept) (s t : State) → ks ≡ k ∷ left → t.scope ≡ take k.declared s.scope → t.proof ≡ k.proof → t.lemmas ≡ take k.proved s.lemmas
    → GoesBack ks left s t (Some k.enumerated)
last_kept ks left k s t is scope proof lemmas =
    subst (λ x. GoesBack x left s t (Some k.enumerated)) (sym is) (refl, record { scope = scope; proof = proof; lemmas = lemmas }, refl)

pub undeclared_then : (ks left : List Kept) (k : Kept) (ds : Declarations) → ks ≡ k ∷ left → AreUndeclared ks ds → is_undeclared (take k.declared ds) k.proof ≡ true
undeclared_then ks left k ds is h = let both = subst (λ x. AreUndeclared x ds) is h in both.0

pub undeclared_before : (ks left : List Kept) (k : Kept) (ds es : Declarations) → ks ≡ k ∷ left → es ≡ take k.declared ds → AreUndeclared ks ds → AreUndeclared left es
undeclared_before ks left k ds es is front h = let both = subst (λ x. AreUndeclared x ds) is h in subst (AreUndeclared left) (sym front) both.1
