-- What holds goes on to hold when declarations are added one after another.
use Rattle.std.proofs.Common.{ℕ, [], ◌∷◌, ◌++◌, sym, subst}
use Rattle.std.proofs.lemmas.List.{append_assoc, append-nil}
use Rattle.gb_goal.specs.declared.scope.ProcName.{ProcName}
use Rattle.gb_goal.specs.declared.sequent.Sequent.{Sequent}
use Rattle.gb_meaning.specs.Names.{Name}
use Rattle.gb_meaning.specs.Values.{World}
use Rattle.gb_meaning.specs.Declared.{Declarations, Declaration, abstract_type, abbreviation, operator, abstract_operator, module_type, concrete_module, abstract_module, axiom_of, lemma, terminating}
use Rattle.gb_meaning.specs.Settings.{Table}
use Rattle.gb_meaning.specs.Holds.{KeepModules, AreSilent, Holds, IsTerminating, IsSoundAfter, AreSoundAfter, IsSound}
use Rattle.gb_meaning.proofs.Statements.{silent-keeps}
use Rattle.gb_meaning.proofs.Kept.{Before, before-silent, still_holds}
use Rattle.gb_meaning.proofs.KeptLoops.{still_proved}
use Rattle.gb_typing.specs.Naming.{NoName, IsOther, OperatorsName}
use Rattle.gb_typing.specs.Added.{IsOperator, IsNewOperator, AreLoopsApart, IsSequentApartIn, IsAdded, AreAdded, AreAddedTo, AreAddedToLoops}
use Rattle.gb_typing.proofs.AddedOperators.{before-defined, before-abstract}
use Rattle.gb_typing.proofs.SequentsAlike.{holds-along}
use Rattle.gb_typing.proofs.ModulesAdded.{goes-with}
use Rattle.gb_typing.proofs.SectionsAdded.{goes-beyond}
use Rattle.gb_typing.proofs.LoopsAdded.{loops-along}

names-split : (P Q : Name → Type 0) (ds es : Declarations) → OperatorsName P Q (ds ++ es) → OperatorsName P Q ds × OperatorsName P Q es
names-split P Q [] es h = (tt, h)
names-split P Q (d ∷ ds) es h = let r = names-split P Q ds es h.1 in ((h.0, r.0), r.1)

operator-keeps : (n : Name) (d : Declaration) → IsOperator d → KeepModules ((n, d) ∷ [])
operator-keeps n (operator o) k = (tt, tt)
operator-keeps n (abstract_operator o) k = (tt, tt)
operator-keeps n _ k = absurd k

-- the model before an operator, for each model with it
before-new : (ds : Declarations) (n : Name) (d : Declaration) → IsOperator d → IsNewOperator ds n d → (w : World) (size : Name → ℕ) (u : Table) →
    Before ds (ds ++ (n, d) ∷ []) w size u
before-new ds n (operator o) k h w size u =
    let r = names-split NoName (IsOther n) ds ((n, operator o) ∷ []) h.1 in before-defined ds n h.0 r.0 w size u o r.1.0
before-new ds n (abstract_operator o) k h w size u =
    let r = names-split NoName (IsOther n) ds ((n, abstract_operator o) ∷ []) h.1 in before-abstract ds n h.0 r.0 w size u o
before-new ds n abstract_type k h w size u = absurd k
before-new ds n (abbreviation stood) k h w size u = absurd k
before-new ds n (module_type t) k h w size u = absurd k
before-new ds n (concrete_module m) k h w size u = absurd k
before-new ds n (abstract_module b) k h w size u = absurd k
before-new ds n (axiom_of q) k h w size u = absurd k
before-new ds n (lemma q) k h w size u = absurd k
before-new ds n (terminating f) k h w size u = absurd k

module _ (ds : Declarations) (n : Name) (d : Declaration) (k : IsOperator d) (h : IsNewOperator ds n d) where
  pub holds-new : (q : Sequent) → Holds ds q → Holds (ds ++ (n, d) ∷ []) q
  holds-new q x = still_holds ((n, d) ∷ []) (operator-keeps n d k) ds (before-new ds n d k h) q x

  pub loops-new : (m f : Name) → IsTerminating ds m f → IsTerminating (ds ++ (n, d) ∷ []) m f
  loops-new m f x = still_proved ((n, d) ∷ []) (operator-keeps n d k) ds (before-new ds n d k h) m f x

silent : (ds ls : Declarations) → AreSilent ls → (q : Sequent) → Holds ds q → Holds (ds ++ ls) q
silent ds ls s q x = still_holds ls (silent-keeps ls s) ds (before-silent ls s ds) q x

one-added : (ds : Declarations) (n : Name) (d : Declaration) (q : Sequent) → IsAdded (IsSequentApartIn q) ds n d → Holds ds q → Holds (ds ++ (n, d) ∷ []) q
one-added ds n abstract_type q a x = silent ds ((n, abstract_type) ∷ []) (tt, tt) q x
one-added ds n (abbreviation stood) q a x = silent ds ((n, abbreviation stood) ∷ []) (tt, tt) q x
one-added ds n (operator o) q a x = holds-new ds n (operator o) tt a q x
one-added ds n (abstract_operator o) q a x = holds-new ds n (abstract_operator o) tt a q x
one-added ds n (module_type t) q a x = holds-along ((n, module_type t) ∷ []) ds (goes-with ds ((n, module_type t) ∷ []) (tt, tt) a.0) q a.1 x
one-added ds n (concrete_module m) q a x = holds-along ((n, concrete_module m) ∷ []) ds (goes-with ds ((n, concrete_module m) ∷ []) (tt, tt) a.0) q a.1 x
one-added ds n (abstract_module b) q a x = holds-along ((n, abstract_module b) ∷ []) ds (goes-beyond ds n b a.0 a.1) q a.2 x
one-added ds n (axiom_of p) q a x = silent ds ((n, axiom_of p) ∷ []) (tt, tt) q x
one-added ds n (lemma p) q a x = silent ds ((n, lemma p) ∷ []) (tt, tt) q x
one-added ds n (terminating f) q a x = silent ds ((n, terminating f) ∷ []) (tt, tt) q x

silent-loops : (ds ls : Declarations) → AreSilent ls → (m f : Name) → IsTerminating ds m f → IsTerminating (ds ++ ls) m f
silent-loops ds ls s m f x = still_proved ls (silent-keeps ls s) ds (before-silent ls s ds) m f x

one-beside : (ds : Declarations) (n : Name) (d : Declaration) (m f : Name) → IsAdded (AreLoopsApart m f) ds n d → IsTerminating ds m f →
    IsTerminating (ds ++ (n, d) ∷ []) m f
one-beside ds n abstract_type m f a x = silent-loops ds ((n, abstract_type) ∷ []) (tt, tt) m f x
one-beside ds n (abbreviation stood) m f a x = silent-loops ds ((n, abbreviation stood) ∷ []) (tt, tt) m f x
one-beside ds n (operator o) m f a x = loops-new ds n (operator o) tt a m f x
one-beside ds n (abstract_operator o) m f a x = loops-new ds n (abstract_operator o) tt a m f x
one-beside ds n (module_type t) m f a x = loops-along ((n, module_type t) ∷ []) ds (goes-with ds ((n, module_type t) ∷ []) (tt, tt) a.0) m f a.1 x
one-beside ds n (concrete_module c) m f a x = loops-along ((n, concrete_module c) ∷ []) ds (goes-with ds ((n, concrete_module c) ∷ []) (tt, tt) a.0) m f a.1 x
one-beside ds n (abstract_module b) m f a x = loops-along ((n, abstract_module b) ∷ []) ds (goes-beyond ds n b a.0 a.1) m f a.2 x
one-beside ds n (axiom_of p) m f a x = silent-loops ds ((n, axiom_of p) ∷ []) (tt, tt) m f x
one-beside ds n (lemma p) m f a x = silent-loops ds ((n, lemma p) ∷ []) (tt, tt) m f x
one-beside ds n (terminating g) m f a x = silent-loops ds ((n, terminating g) ∷ []) (tt, tt) m f x

-- what each added declaration keeps, all keep
module _ (C : Declarations → Declarations → Type 0) (P : Declarations → Type 0)
    (step : (ds : Declarations) (n : Name) (d : Declaration) → IsAdded C ds n d → P ds → P (ds ++ (n, d) ∷ [])) where
  each-added : (ds es : Declarations) → AreAdded C ds es → P ds → P (ds ++ es)
  each-added ds [] a x = subst P (sym (append-nil ds)) x
  each-added ds (d ∷ es) a x = subst P (append_assoc ds (d ∷ []) es) (each-added (ds ++ d ∷ []) es a.1 (step ds d.0 d.1 a.0 x))

pub all-added : (ds es : Declarations) (q : Sequent) → AreAddedTo ds es q → Holds ds q → Holds (ds ++ es) q
all-added ds es q a x = each-added (IsSequentApartIn q) (λ z. Holds z q) (λ cs n d. one-added cs n d q) ds es a x

pub loops-added : (ds es : Declarations) (m f : Name) → AreAddedToLoops ds es m f → IsTerminating ds m f → IsTerminating (ds ++ es) m f
loops-added ds es m f a x = each-added (AreLoopsApart m f) (λ z. IsTerminating z m f) (λ cs n d. one-beside cs n d m f) ds es a x

module _ (n : Name) (d : Declaration) (es : Declarations) where
  -- what a sound scope promises of a declaration in its midst
  promised : (before ds : Declarations) → AreSoundAfter before (ds ++ (n, d) ∷ es) → IsSoundAfter (before ++ ds) n d
  promised before [] s = subst (λ z. IsSoundAfter z n d) (sym (append-nil before)) s.0
  promised before (e ∷ ds) s = subst (λ z. IsSoundAfter z n d) (append_assoc before (e ∷ []) ds) (promised (before ++ e ∷ []) ds s.1)

pub lemma-stays : (ds es : Declarations) (n : Name) (q : Sequent) → IsSound (ds ++ (n, lemma q) ∷ es) → AreAddedTo ds ((n, lemma q) ∷ es) q →
    Holds (ds ++ (n, lemma q) ∷ es) q
lemma-stays ds es n q s a = all-added ds ((n, lemma q) ∷ es) q a (promised n (lemma q) es [] ds s)

pub loops-stay : (ds es : Declarations) (n : Name) (p : ProcName) → IsSound (ds ++ (n, terminating p) ∷ es) → AreAddedToLoops ds ((n, terminating p) ∷ es) p.module p.name →
    IsTerminating (ds ++ (n, terminating p) ∷ es) p.module p.name
loops-stay ds es n p s a = loops-added ds ((n, terminating p) ∷ es) p.module p.name a (promised n (terminating p) es [] ds s)
