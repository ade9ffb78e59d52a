-- The lemmas of a scope that grows.
use Rattle.std.proofs.Common.{◌≡◌, false, List, [], ◌∷◌, ◌++◌, refl, ap, sym, ◌∙◌, subst}
use Rattle.std.proofs.lemmas.List.{append-nil, append_assoc, map-append}
use Rattle.std.specs.List.{AllByRecursion}
use Rattle.gb_goal.specs.Scope.{Declarations, is_claim, ClaimNothing}
use Rattle.gb_goal.specs.declared.scope.Binder.{Binder}
use Rattle.gb_goal.specs.declared.scope.Entry.{Entry}
use Rattle.gb_goal.specs.declared.scope.Entry.TheVariants as entry
use Rattle.gb_goal.specs.declared.sequent.Sequent.{Sequent}
use Rattle.gb_meaning.specs.Names.{Name}
use Rattle.gb_meaning.specs.Declared.{declared}
use Rattle.gb_meaning.specs.Holds.{Holds}
use Rattle.gb_typing.specs.Sequents.{IsTypedSequent}
use Rattle.gb_typing.specs.Scopes.{context_of, IsTypedScope}
use Rattle.gb_elab_laws.specs.Speaking.{IsFirmScope}
use Rattle.gb_arguments.specs.Unblank.{AreUnblank}
use Rattle.gb_smt_laws.proofs.Used.{each_together}
use Rattle.gb_accepted.specs.Holding.{Lemma, IsProved, with_entry, lemmas_in, names_of}

with_more : (before : Declarations) (n : Name) (e : Entry) (ls ks : List Lemma) → with_entry before n e (ls ++ ks) ≡ with_entry before n e ls ++ ks
with_more before n (entry.Module m) ls ks = refl
with_more before n (entry.Lemma q order) ls ks = refl
with_more before n (entry.Type t) ls ks = refl
with_more before n entry.AbstractType ls ks = refl
with_more before n (entry.ModuleType y) ls ks = refl
with_more before n (entry.AbstractModule y) ls ks = refl
with_more before n (entry.Constant c) ls ks = refl
with_more before n (entry.Operator o) ls ks = refl
with_more before n (entry.AbstractOperator o) ls ks = refl
with_more before n (entry.Terminating p) ls ks = refl

pub lemmas_append : (before ds es : Declarations) → lemmas_in before (ds ++ es) ≡ lemmas_in before ds ++ lemmas_in (before ++ ds) es
lemmas_append before [] es = ap (λ b. lemmas_in b es) (sym (append-nil before))
lemmas_append before (d ∷ ds) es =
    ap (with_entry before d.0 d.1) (lemmas_append (before ++ d ∷ []) ds es ∙ ap (λ b. lemmas_in (before ++ d ∷ []) ds ++ lemmas_in b es) (append_assoc before (d ∷ []) ds))
    ∙ with_more before d.0 d.1 (lemmas_in (before ++ d ∷ []) ds) (lemmas_in (before ++ d ∷ ds) es)

-- what claims nothing adds none
no_lemma : (before : Declarations) (n : Name) (e : Entry) (ls : List Lemma) → is_claim e ≡ false → with_entry before n e ls ≡ ls
no_lemma before n (entry.Module m) ls h = refl
no_lemma before n (entry.Lemma q order) ls h = absurd (cc)
no_lemma before n (entry.Type t) ls h = refl
no_lemma before n entry.AbstractType ls h = refl
no_lemma before n (entry.ModuleType y) ls h = refl
no_lemma before n (entry.AbstractModule y) ls h = refl
no_lemma before n (entry.Constant c) ls h = refl
no_lemma before n (entry.Operator o) ls h = refl
no_lemma before n (entry.AbstractOperator o) ls h = refl
no_lemma before n (entry.Terminating p) ls h = absurd (cc)

none_in : (before added : Declarations) → ClaimNothing added → lemmas_in before added ≡ []
none_in before [] h = refl
none_in before (d ∷ added) h = no_lemma before d.0 d.1 _ h.0 ∙ none_in (before ++ d ∷ []) added h.1

-- behind declarations without abstract modules stand others
pub firm_together : (ds es : Declarations) → IsFirmScope ds → IsFirmScope es → IsFirmScope (ds ++ es)
firm_together [] es h k = k
firm_together (d ∷ ds) es h k = (h.0, firm_together ds es h.1 k)

-- .. and the first ones have none
pub firm_front : (ds es : Declarations) → IsFirmScope (ds ++ es) → IsFirmScope ds
firm_front [] es h = tt
firm_front (d ∷ ds) es h = (h.0, firm_front ds es h.1)

-- names that begin with no blank, behind others
pub unblank_together : (ds es : Declarations) → AreUnblank ds → AreUnblank es → AreUnblank (ds ++ es)
unblank_together [] es u v = v
unblank_together (d ∷ ds) es u v = (u.0, unblank_together ds es u.1 v)

module _ (ds added : Declarations) (others : ClaimNothing added) where
  same_lemmas : lemmas_in [] (ds ++ added) ≡ lemmas_in [] ds
  same_lemmas = lemmas_append [] ds added ∙ ap (λ ls. lemmas_in [] ds ++ ls) (none_in ds added others) ∙ append-nil (lemmas_in [] ds)

  pub names_stay : names_of (lemmas_in [] (ds ++ added)) ≡ names_of (lemmas_in [] ds)
  names_stay = ap names_of same_lemmas

  pub each_later : (P : Lemma → Type 0) → AllByRecursion P (lemmas_in [] ds) → AllByRecursion P (lemmas_in [] (ds ++ added))
  each_later P h = subst (AllByRecursion P) (sym same_lemmas) h

  pub proved_later : AllByRecursion IsProved (lemmas_in [] ds) → AllByRecursion IsProved (lemmas_in [] (ds ++ added))
  proved_later h = each_later IsProved h

-- a lemma is added behind the others
module _ (ds : Declarations) (n : Name) (q : Sequent) (bs : List Binder) where
  abbrev pub last : Lemma
  last = record { name = n; before = ds; statement = q }

  one_more : lemmas_in [] (ds ++ (n, entry.Lemma q bs) ∷ []) ≡ lemmas_in [] ds ++ last ∷ []
  one_more = lemmas_append [] ds ((n, entry.Lemma q bs) ∷ [])

  pub name_added : names_of (lemmas_in [] (ds ++ (n, entry.Lemma q bs) ∷ [])) ≡ names_of (lemmas_in [] ds) ++ n ∷ []
  name_added = ap names_of one_more ∙ map-append (λ (l : Lemma). l.name) (lemmas_in [] ds) (last ∷ [])

  pub each_with : (P : Lemma → Type 0) → AllByRecursion P (lemmas_in [] ds) → P last → AllByRecursion P (lemmas_in [] (ds ++ (n, entry.Lemma q bs) ∷ []))
  each_with P h k = subst (AllByRecursion P) (sym one_more) (each_together P (lemmas_in [] ds) (last ∷ []) h (k, tt))

  pub proved_with : AllByRecursion IsProved (lemmas_in [] ds) → IsTypedScope (declared ds) → IsTypedSequent (context_of (declared ds)) q → Holds (declared ds) q → AllByRecursion IsProved (lemmas_in [] (ds ++ (n, entry.Lemma q bs) ∷ []))
  proved_with h s t k =
      let new : IsProved last = record { scope = s; typed = t; holds = k } in each_with IsProved h new
