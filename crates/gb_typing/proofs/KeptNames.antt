-- Names that are kept where modules are added: nothing that is added has them, or a module that is chosen hides it.
use Rattle.std.proofs.Common.{◌≡◌, ◌⊎◌, inl, inr, Bool, true, false, ◌||◌, if◌then◌else◌, List, [], ◌∷◌, ◌++◌, bytes_eq, refl, sym, ◌∙◌, subst}
use Rattle.std.specs.List.{list_any}
use Rattle.std.proofs.lemmas.Bool.{false≢true}
use Rattle.std.proofs.lemmas.Slice.Eq.{bytes_eq-Decides}
use mathlib.Core.Former.{Count}
use Rattle.gb_core.specs.declared.var.Var.{Var}
use Rattle.gb_core.specs.declared.var.Var.TheVariants as var
use Rattle.gb_terms.specs.declared.module.Mexp.{Mexp, Row_of-Mexp, end_of-Mexp, more_of-Mexp}
use Rattle.gb_terms.specs.declared.module.Mexp.TheVariants.{Name as named, Apply'}
use Rattle.gb_meaning.specs.Names.{Name}
use Rattle.gb_meaning.specs.Declared.{Declarations}
use Rattle.gb_meaning.specs.Settings.{Chosen}
use Rattle.gb_meaning.specs.Naming.{EachName, EachNameIn, IsFresh}
use Rattle.gb_typing.specs.Naming.{chosen_names, IsAmong, IsKept, VariablesName}

-- what the two choices share decides
pub unless : {A : Type 0} (b : Bool) (x y z : A) → (b ≡ false → y ≡ z) → ◌≡◌ {A = A} (if b then x else y) (if b then x else z)
unless true x y z f = refl
unless false x y z f = f refl

pub off : (b : Bool) → (b ≡ true → ⊥) → b ≡ false
off true h = absurd (h refl)
off false h = refl

pub differ : (n m : Name) → bytes_eq n m ≡ false → bytes_eq m n ≡ false
differ n m e = off (bytes_eq m n) (λ t. false≢true (sym e ∙ (bytes_eq-Decides n m).1 (sym ((bytes_eq-Decides m n).0 t))))

pub either : (b c : Bool) → (b || c) ≡ true → (b ≡ true) ⊎ (c ≡ true)
either true c e = inl refl
either false c e = inr e

first : (b c : Bool) → b ≡ true → (b || c) ≡ true
first true c e = refl
first false c e = absurd (false≢true e)

second : (b c : Bool) → c ≡ true → (b || c) ≡ true
second true c e = refl
second false c e = e

other : (b c : Bool) → (b || c) ≡ true → b ≡ false → c ≡ true
other true c e f = absurd (false≢true (sym f))
other false c e f = e

pub among-behind : (h : Name) (hs : List Name) (n : Name) → IsAmong (h ∷ hs) n → bytes_eq n h ≡ false → IsAmong hs n
among-behind h hs n x e = other (bytes_eq n h) (list_any (bytes_eq n) hs) x e

pub kept-behind : (es : Declarations) (h : Name) (hs : List Name) (n : Name) → IsKept es (h ∷ hs) n → bytes_eq n h ≡ false → IsKept es hs n
kept-behind es h hs n (inl f) e = inl f
kept-behind es h hs n (inr x) e = inr (among-behind h hs n x e)

kept-more : (es : Declarations) (h : Name) (hs : List Name) (n : Name) → IsKept es hs n → IsKept es (h ∷ hs) n
kept-more es h hs n (inl f) = inl f
kept-more es h hs n (inr x) = inr (second (bytes_eq n h) (list_any (bytes_eq n) hs) x)

-- each of the names is one that no declaration has
abbrev pub EachFresh : Declarations → List Name → Type 0
EachFresh es [] = Unit {0}
EachFresh es (h ∷ hs) = IsFresh es h × EachFresh es hs

pub by-either : {A B C : Type 0} → A ⊎ B → (A → C) → (B → C) → C
by-either (inl a) f g = f a
by-either (inr b) f g = g b

among-fresh : (es : Declarations) (hs : List Name) → EachFresh es hs → (n : Name) → IsAmong hs n → IsFresh es n
among-fresh es [] e n x = absurd (false≢true x)
among-fresh es (h ∷ hs) e n x =
    by-either (either (bytes_eq n h) (list_any (bytes_eq n) hs) x) (λ t. subst (IsFresh es) (sym ((bytes_eq-Decides n h).0 t)) e.0)
    (among-fresh es hs e.1 n)

-- where names that were chosen before are no declaration's, those that are chosen after hide
pub kept-front : (es : Declarations) (rest : List Chosen) → EachFresh es (chosen_names rest) → (js : List Chosen) (n : Name) →
    IsKept es (chosen_names (js ++ rest)) n → IsKept es (chosen_names js) n
kept-front es rest free js n (inl f) = inl f
kept-front es rest free [] n (inr x) = inl (among-fresh es (chosen_names rest) free n x)
kept-front es rest free (j ∷ js) n (inr x) =
    by-either (either (bytes_eq n j.bind.name) (list_any (bytes_eq n) (chosen_names (js ++ rest))) x)
    (λ t. inr (first (bytes_eq n j.bind.name) (list_any (bytes_eq n) (chosen_names js)) t))
    (λ t. kept-more es j.bind.name (chosen_names js) n (kept-front es rest free js n (inr t)))

-- names of module expressions and of variables

module _ (P Q : Name → Type 0) (f : (n : Name) → P n → Q n) where
  mutual
    pub each-name : (m : Mexp) → EachName P m → EachName Q m
    each-name (named m) h = f m h
    each-name (Apply' m n args) h = (f m h.0, each-name-in args h.1)

    each-name-in : {n : Count} (r : Row_of-Mexp n) → EachNameIn P r → EachNameIn Q r
    each-name-in end_of-Mexp h = tt
    each-name-in (more_of-Mexp m r) h = (each-name m h.0, each-name-in r h.1)

  pub variables-map : (xs : List Var) → VariablesName P xs → VariablesName Q xs
  variables-map [] h = tt
  variables-map (var.Local x ∷ xs) h = (tt, variables-map xs h.1)
  variables-map (var.Global m x ∷ xs) h = (tt, variables-map xs h.1)
  variables-map (var.Glob a ∷ xs) h = (f a h.0, variables-map xs h.1)
