-- What terms read of the memories that are bound around them.
use Rattle.std.proofs.Common.{◌≡◌, ℕ, zero, suc, ◌+◌, Bool, true, false, ◌&&◌, ◌||◌, if◌then◌else◌, List, [], ◌∷◌, ◌++◌, get_or, refl, subst, add-one}
use Rattle.std.proofs.lemmas.Bool.{and_from, false≢true}
use Rattle.gb_core.specs.declared.ty.Ty.{Ty}
use Rattle.gb_core.specs.declared.var.Var.{Var}
use Rattle.gb_core.specs.SameTypes.{ty_eq}
use Rattle.gb_core.proofs.SameTypes.{ty_eq-Decides}
use Rattle.gb_terms.specs.declared.term.Term.{Term, Row_of-Term, end_of-Term, more_of-Term}
use Rattle.gb_terms.specs.declared.term.Head.{Head}
use Rattle.gb_terms.specs.declared.term.Head.TheVariants as head
use Rattle.gb_terms.specs.Equal.{var_eq}
use Rattle.gb_terms.proofs.Equality.{var_eq-Decides}
use Rattle.gb_meaning.specs.Operators.{outcome_type}
use Rattle.gb_laws.specs.Typing.{Binder, Context, IsHead, IsMemory, binder, inner, types_of}
use Rattle.gb_laws.specs.Typing.Binder.{value, index, memory, program}
use Rattle.gb_labels.specs.declared.reads.TypedVar.{TypedVar}
use Rattle.gb_labels.specs.Reads.{Vars, inside, is_among, noted, reads_at, reads_of, with_new}
use Rattle.gb_labels.specs.Things.{reads_inside}
use Rattle.gb_closing_laws.specs.Needs.{inside as inside_of}
use mathlib.Core.Former.{Count}

-- each of these variables is among those
abbrev pub AllAmong : Vars → Vars → Type 0
AllAmong [] ys = Unit {0}
AllAmong (x ∷ xs) ys = (is_among ys x.var x.ty ≡ true) × AllAmong xs ys

pub among_left : (xs ys zs : Vars) → AllAmong (xs ++ ys) zs → AllAmong xs zs
among_left [] ys zs k = tt
among_left (x ∷ xs) ys zs k = (k.0, among_left xs ys zs k.1)

pub among_right : (xs ys zs : Vars) → AllAmong (xs ++ ys) zs → AllAmong ys zs
among_right [] ys zs k = k
among_right (x ∷ xs) ys zs k = among_right xs ys zs k.1

-- Variables that are noted are among those noted.

or_left : (a b : Bool) → a ≡ true → (a || b) ≡ true
or_left true b e = refl
or_left false b e = absurd (false≢true e)

or_right : (a b : Bool) → b ≡ true → (a || b) ≡ true
or_right true b e = refl
or_right false b e = e

among_more : (xs ys : Vars) (v : Var) (a : Ty) → is_among xs v a ≡ true → is_among (xs ++ ys) v a ≡ true
among_more [] ys v a e = absurd (false≢true e)
among_more (x ∷ xs) ys v a e = step (var_eq x.var v && ty_eq x.ty a) (among_more xs ys v a) e
  where
    step : (b : Bool) → (is_among xs v a ≡ true → is_among (xs ++ ys) v a ≡ true) → (b || is_among xs v a) ≡ true → (b || is_among (xs ++ ys) v a) ≡ true
    step true k e = refl
    step false k e = k e

among_last : (xs : Vars) (x : TypedVar) → is_among (xs ++ x ∷ []) x.var x.ty ≡ true
among_last [] x =
    or_left (var_eq x.var x.var && ty_eq x.ty x.ty) false
    (and_from (var_eq x.var x.var) (ty_eq x.ty x.ty) ((var_eq-Decides x.var x.var).1 refl) ((ty_eq-Decides x.ty x.ty).1 refl))
among_last (y ∷ ys) x = or_right (var_eq y.var x.var && ty_eq y.ty x.ty) (is_among (ys ++ x ∷ []) x.var x.ty) (among_last ys x)

among_new : (seen : Vars) (x : TypedVar) (v : Var) (a : Ty) → is_among seen v a ≡ true → is_among (with_new seen x) v a ≡ true
among_new seen x v a e = step (is_among seen x.var x.ty)
  where
    step : (b : Bool) → is_among (if b then seen else seen ++ x ∷ []) v a ≡ true
    step true = e
    step false = among_more seen (x ∷ []) v a e

new_among : (seen : Vars) (x : TypedVar) → is_among (with_new seen x) x.var x.ty ≡ true
new_among seen x = step (is_among seen x.var x.ty) refl
  where
    step : (b : Bool) → is_among seen x.var x.ty ≡ b → is_among (if b then seen else seen ++ x ∷ []) x.var x.ty ≡ true
    step true e = e
    step false e = among_last seen x

still_among : (seen xs : Vars) (v : Var) (a : Ty) → is_among seen v a ≡ true → is_among (noted seen xs) v a ≡ true
still_among seen [] v a e = e
still_among seen (x ∷ xs) v a e = still_among (with_new seen x) xs v a (among_new seen x v a e)

noted_among : (seen xs : Vars) → AllAmong xs (noted seen xs)
noted_among seen [] = tt
noted_among seen (x ∷ xs) = (still_among (with_new seen x) xs x.var x.ty (new_among seen x), noted_among (with_new seen x) xs)

-- what a term reads of the memory that is bound next to it
pub reads_among : (t : Term) → AllAmong (reads_at t 0) (reads_of t)
reads_among t = noted_among [] (reads_at t 0)

-- what is read of each bound memory is among the variables of its binder
abbrev pub AreSeen : Context → List Vars → (ℕ → Vars) → Type 0
AreSeen c vss f = (k : ℕ) → IsMemory (binder c k) → AllAmong (f k) (get_or vss k [])

-- outside of all binders there is none
pub none_seen : (c : Context) → c.bound ≡ [] → (f : ℕ → Vars) → AreSeen c [] f
none_seen c e f k m = absurd (subst (λ bs. IsMemory (get_or bs k program)) e m)

-- heads that bind memories
abbrev pub BindsMemory : Head → Type 0
BindsMemory head.AllMemory = Unit {0}
BindsMemory head.SomeMemory = Unit {0}
BindsMemory _ = ⊥

-- what the last argument reads of the memory that its head binds
abbrev pub LastAmong : {n : Count} → Vars → Row_of-Term n → Type 0
LastAmong vs end_of-Term = Unit {0}
LastAmong vs (more_of-Term t end_of-Term) = AllAmong (reads_at t 0) vs
LastAmong vs (more_of-Term t (more_of-Term u ts)) = LastAmong vs (more_of-Term u ts)

pub own_among : {n : Count} (c : Context) (d : Head) (ts : Row_of-Term n) (a : Ty) → IsHead c d (types_of ts) a → BindsMemory d → LastAmong (reads_inside d ts) ts
own_among c head.AllMemory end_of-Term a w b = tt
own_among c head.AllMemory (more_of-Term t end_of-Term) a w b = reads_among t
own_among c head.AllMemory (more_of-Term t (more_of-Term u ts)) a w b = absurd w
own_among c head.SomeMemory end_of-Term a w b = tt
own_among c head.SomeMemory (more_of-Term t end_of-Term) a w b = reads_among t
own_among c head.SomeMemory (more_of-Term t (more_of-Term u ts)) a w b = absurd w
own_among c _ ts a w b = absurd b

-- behind one binder more
behind : (c : Context) (b : Binder) (vs : Vars) (vss : List Vars) (t : Term) → (IsMemory b → AllAmong (reads_at t 0) vs) →
    ((k : ℕ) → IsMemory (binder c k) → AllAmong (reads_at t (k + 1)) (get_or vss k [])) → AreSeen (record c { bound = b ∷ c.bound }) (vs ∷ vss) (reads_at t)
behind c b vs vss t own s zero m = own m
behind c b vs vss t own s (suc k) m = subst (λ j. AllAmong (reads_at t j) (get_or vss k [])) (add-one k) (s k m)

-- in the last argument of a head
pub seen_under : (c : Context) (d : Head) (us : List Ty) (a : Ty) → IsHead c d us a → (vs : Vars) (vss : List Vars) (t : Term) → (BindsMemory d → AllAmong (reads_at t 0) vs) →
    ((k : ℕ) → IsMemory (binder c k) → AllAmong (reads_at t (inside d k)) (get_or vss k [])) → AreSeen (inner c d us) (inside_of d vs vss) (reads_at t)
seen_under c (head.All u) us a w vs vss t own s = behind c (value u) vs vss t (λ m. absurd m) s
seen_under c (head.Some u) us a w vs vss t own s = behind c (value u) vs vss t (λ m. absurd m) s
seen_under c head.AllMemory us a w vs vss t own s = behind c memory vs vss t (λ m. own tt) s
seen_under c head.SomeMemory us a w vs vss t own s = behind c memory vs vss t (λ m. own tt) s
seen_under c (head.AllModule b) us a w vs vss t own s = behind c program vs vss t (λ m. absurd m) s
seen_under c (head.Sum q) us a w vs vss t own s = behind c (index q) vs vss t (λ m. absurd m) s
seen_under c head.Mu [] a w vs vss t own s = absurd w
seen_under c head.Mu (u ∷ us) a w vs vss t own s = behind c (value (outcome_type u)) vs vss t (λ m. absurd m) s
seen_under c head.Map [] a w vs vss t own s = absurd w
seen_under c head.Map (u ∷ us) a w vs vss t own s = behind c (value (outcome_type u)) vs vss t (λ m. absurd m) s
seen_under c head.Restrict [] a w vs vss t own s = absurd w
seen_under c head.Restrict (u ∷ us) a w vs vss t own s = behind c (value (outcome_type u)) vs vss t (λ m. absurd m) s
seen_under c _ us a w vs vss t own s = s
