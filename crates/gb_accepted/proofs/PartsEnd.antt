-- Parts of forms, and forms with terms in the places of others, have no bodies where the forms and the terms have none.
use Rattle.std.proofs.Common.{ℕ, ◌==◌, Bool, true, false, List, [], ◌∷◌, map, Option, Some, None, sym, subst}
use Rattle.gb_core.specs.declared.ty.Ty.{Ty}
use Rattle.gb_terms.specs.declared.op.Op.TheVariants.{Implies}
use Rattle.gb_terms.specs.declared.op.Read.{Read}
use Rattle.gb_terms.specs.declared.term.Head.{Head}
use Rattle.gb_terms.specs.declared.term.Head.TheVariants as head
use Rattle.gb_terms.specs.declared.term.Head.TheVariants.{Proc, Body'}
use Rattle.gb_terms.specs.declared.term.Subject.{Subject}
use Rattle.gb_terms.specs.declared.term.Term.{Term, Term', Row_of-Term, end_of-Term, more_of-Term, end_of-Head, more_of-Head, out-Term}
use Rattle.gb_terms.specs.Equal.{read_eq}
use Rattle.gb_walk.specs.declared.change.Change.TheVariants as change
use Rattle.gb_walk.specs.Change.{Changes, found_for_bound, found_for_read, args_changed, or_later, put_or, subject_changed, term_changed, term_of}
use Rattle.gb_meaning.specs.Commands.{terms_in}
use Rattle.gb_laws.proofs.Changed.{changed_at, term_changed_is}
use Rattle.gb_laws.proofs.Forms.{procedure_stays}
use Rattle.gb_laws.proofs.Trees.{out_is}
use Rattle.gb_meaning.specs.Truth.{last_has_module, Choice}
use Rattle.gb_typing.specs.Context.{Context}
use Rattle.gb_typing.specs.Formulas.{IsFormula, IsLastFormula}
use Rattle.gb_typing.specs.Typing.{AreTyped}
use Rattle.gb_accepted.proofs.HeadsEnd.{IsBare, IsBareHead, NamesProcedure, formula_bare, node_bare, typed_bare}
use mathlib.Core.Former.{Count}

-- The last part of a formula.

abbrev pub LastIsBare : List Term → Type 0
LastIsBare [] = Unit {0}
LastIsBare (t ∷ []) = IsBare t
LastIsBare (t ∷ u ∷ ts) = LastIsBare (u ∷ ts)

typed_last : {n : Count} (a b d : Context) (ts : Row_of-Term n) → AreTyped a b d ts → LastIsBare (terms_in ts)
typed_last a b d end_of-Term w = tt
typed_last a b d (more_of-Term t end_of-Term) w = typed_bare d t w
typed_last a b d (more_of-Term t (more_of-Term u ts)) w = typed_last b b d (more_of-Term u ts) w.1

formula_last : {n : Count} (c : Context) (ts : Row_of-Term n) → IsLastFormula c ts → LastIsBare (terms_in ts)
formula_last c end_of-Term w = absurd w
formula_last c (more_of-Term t end_of-Term) w = formula_bare c t w
formula_last c (more_of-Term t (more_of-Term u ts)) w = formula_last c (more_of-Term u ts) w

by_choice : (b : Bool) (A B : Type 0) (X : Type 0) → Choice b A B → (A → X) → (B → X) → X
by_choice true A B X w f h = f w
by_choice false A B X w f h = h w

pub last_bare : (c : Context) (f : Term) → IsFormula c f → LastIsBare (out-Term f).args
last_bare c (Term' tt (more_of-Head (head.All u) end_of-Head) n ts t) w =
    subst (λ x. LastIsBare x.args) (sym (out_is (head.All u) n ts t)) (by_choice (last_has_module ts) _ _ (LastIsBare (terms_in ts)) w (λ k. formula_last _ ts k.1) (λ k. typed_last _ _ _ ts k.typed.3))
last_bare c (Term' tt (more_of-Head head.AllMemory end_of-Head) n ts t) w =
    subst (λ x. LastIsBare x.args) (sym (out_is head.AllMemory n ts t)) (by_choice (last_has_module ts) _ _ (LastIsBare (terms_in ts)) w (λ k. formula_last _ ts k.2) (λ k. typed_last _ _ _ ts k.typed.3))
last_bare c (Term' tt (more_of-Head (head.Builtin Implies) end_of-Head) n ts t) w =
    subst (λ x. LastIsBare x.args) (sym (out_is (head.Builtin Implies) n ts t)) (by_choice (last_has_module ts) _ _ (LastIsBare (terms_in ts)) w (λ k. formula_last _ ts k.2) (λ k. typed_last _ _ _ ts k.typed.3))
last_bare c (Term' tt (more_of-Head (head.AllModule b) end_of-Head) n ts t) w = subst (λ x. LastIsBare x.args) (sym (out_is (head.AllModule b) n ts t)) (formula_last _ ts w.3)
last_bare c (Term' tt (more_of-Head h end_of-Head) n ts t) w = subst (λ x. LastIsBare x.args) (sym (out_is h n ts t)) (typed_last _ _ _ ts w.typed.3)

-- Terms in the places of others.

abbrev pub PutsBare : Changes → Type 0
PutsBare [] = Unit {0}
PutsBare (change.ToTerm r t ∷ cs) = IsBare t × PutsBare cs
PutsBare (change.OfBound i t ∷ cs) = IsBare t × PutsBare cs
PutsBare (change.ToSide s u ∷ cs) = PutsBare cs

abbrev IsBareIf : Option Term → Type 0
IsBareIf (Some t) = IsBare t
IsBareIf None = Unit {0}

later_bare : (b : Bool) (t : Term) (o : Option Term) → IsBare t → IsBareIf o → IsBareIf (or_later b t o)
later_bare true t o w k = w
later_bare false t o w k = k

read_bare : (cs : Changes) (q : Read) → PutsBare cs → IsBareIf (found_for_read cs q)
read_bare [] q w = tt
read_bare (change.ToTerm r t ∷ cs) q w = later_bare (read_eq r q) t (found_for_read cs q) w.0 (read_bare cs q w.1)
read_bare (change.OfBound i t ∷ cs) q w = read_bare cs q w.1
read_bare (change.ToSide s u ∷ cs) q w = read_bare cs q w

bound_bare : (cs : Changes) (j : ℕ) → PutsBare cs → IsBareIf (found_for_bound cs j)
bound_bare [] j w = tt
bound_bare (change.ToTerm r t ∷ cs) j w = bound_bare cs j w.1
bound_bare (change.OfBound i t ∷ cs) j w = later_bare (i == j) t (found_for_bound cs j) w.0 (bound_bare cs j w.1)
bound_bare (change.ToSide s u ∷ cs) j w = bound_bare cs j w

put_bare : (o : Option Term) (h : Head) (cs : Changes) (us : List (Changes → Term)) (t : Ty) → IsBareIf o → IsBareHead h → IsBare (term_of (put_or o h) cs us t)
put_bare (Some u) h cs us t w k = w
put_bare None h cs us t w k = node_bare h (args_changed h cs us) t k

subject_bare : (s : Subject) (cs : Changes) → NamesProcedure s → NamesProcedure (subject_changed s cs)
subject_bare (Proc p) cs w = subst NamesProcedure (sym (procedure_stays p cs)) tt
subject_bare (Body' k is) cs w = absurd w

made_bare : (h : Head) (cs : Changes) (us : List (Changes → Term)) (t : Ty) → PutsBare cs → IsBareHead h → IsBare (term_of (changed_at h cs) cs us t)
made_bare (head.Read r) cs us t w k = put_bare (found_for_read cs r) _ cs us t (read_bare cs r w) tt
made_bare (head.Bound i) cs us t w k = put_bare (found_for_bound cs i) (head.Bound i) cs us t (bound_bare cs i w) tt
made_bare (head.Hoare s) cs us t w k = node_bare (head.Hoare (subject_changed s cs)) (args_changed (head.Hoare (subject_changed s cs)) cs us) t (subject_bare s cs k)
made_bare (head.Phoare s r) cs us t w k = node_bare (head.Phoare (subject_changed s cs) r) (args_changed (head.Phoare (subject_changed s cs) r) cs us) t (subject_bare s cs k)
made_bare (head.Equiv s u) cs us t w k = node_bare (head.Equiv (subject_changed s cs) (subject_changed u cs)) (args_changed (head.Equiv (subject_changed s cs) (subject_changed u cs)) cs us) t (subject_bare s cs k.0, subject_bare u cs k.1)
made_bare (head.Glob m r) cs us t w k = node_bare _ _ t tt
made_bare (head.Pr p r) cs us t w k = node_bare _ _ t tt
made_bare h cs us t w k = node_bare h (args_changed h cs us) t k

pub changed_bare : (f : Term) (cs : Changes) → IsBare f → PutsBare cs → IsBare (term_changed f cs)
changed_bare (Term' tt (more_of-Head h end_of-Head) n ts t) cs w k =
    subst IsBare (sym (term_changed_is h n ts t cs)) (made_bare h cs (map term_changed (terms_in ts)) t k (subst (λ x. IsBareHead x.head) (out_is h n ts t) w))
