-- Changes that put terms in the places of what is bound, and change nothing else.
use Rattle.std.proofs.Common.{◌≡◌, ℕ, ◌==◌, Bool, true, false, if◌then◌else◌, List, [], ◌∷◌, Option, None, refl, ap, ◌∙◌}
use Rattle.std.specs.List.{AllByRecursion}
use Rattle.gb_core.specs.declared.ty.Ty.{Ty}
use Rattle.gb_terms.specs.declared.op.Side.{Side}
use Rattle.gb_terms.specs.declared.op.Read.{Read}
use Rattle.gb_terms.specs.declared.op.Read.TheVariants.{Logical, Program}
use Rattle.gb_terms.specs.declared.term.Term.{Term}
use Rattle.gb_terms.specs.declared.term.Head.{Head}
use Rattle.gb_terms.specs.declared.term.Head.TheVariants as head
use Rattle.gb_terms.specs.declared.term.Head.TheVariants.{Proc, Body'}
use Rattle.gb_terms.specs.Make.{node}
use Rattle.gb_walk.specs.declared.change.Change.{Change}
use Rattle.gb_walk.specs.declared.change.Change.TheVariants.{ToTerm, OfBound, ToSide}
use Rattle.gb_walk.specs.Layers.{is_binder, seen_by}
use Rattle.gb_walk.specs.Raise.{term_raised}
use Rattle.gb_walk.specs.Change.Made.{Kept}
use Rattle.gb_walk.specs.Change.{Changes, change_raised, is_own, is_left_or_right, without, under_binder, seen_by_args, seen_by_last, or_later, put_or, found_for_read, found_for_bound, side_changed, read_changed, term_of}
use Rattle.gb_laws.proofs.Changed.{changed_at}
use Rattle.gb_laws.proofs.Forms.{procedure_stays}
use Rattle.gb_laws.proofs.Leading.{OnSome}
use Rattle.gb_laws.proofs.Lookups.{each_map}
use Rattle.gb_typing.specs.Context.{Context}
use Rattle.gb_typing.specs.Typing.{IsNamed}

-- a term of which P holds is put in the place of what is bound
abbrev pub Puts : (Term → Type 0) → Change → Type 0
Puts P (OfBound i t) = P t
Puts P (ToTerm r t) = ⊥
Puts P (ToSide s u) = ⊥

abbrev pub EachPut : (Term → Type 0) → Changes → Type 0
EachPut P cs = AllByRecursion (Puts P) cs

-- the changes that the last argument of a head sees
abbrev pub below : Head → Changes → Changes
below h cs = if is_binder h then under_binder cs else cs

-- all heads but what is bound
abbrev pub IsOther : Head → Type 0
IsOther (head.Bound i) = ⊥
IsOther _ = Unit {0}

pub under_puts : (P Q : Term → Type 0) → ((t : Term) → P t → Q (term_raised t 0)) → (cs : Changes) → EachPut P cs → EachPut Q (under_binder cs)
under_puts P Q f cs w = each_map (Puts P) (Puts Q) change_raised step cs w
  where
    step : (c : Change) → Puts P c → Puts Q (change_raised c)
    step (OfBound i t) p = f t p
    step (ToTerm r t) p = absurd p
    step (ToSide s u) p = absurd p

pub weaker : (P Q : Term → Type 0) → ((t : Term) → P t → Q t) → (cs : Changes) → EachPut P cs → EachPut Q cs
weaker P Q f [] w = tt
weaker P Q f (OfBound i t ∷ cs) w = (f t w.0, weaker P Q f cs w.1)
weaker P Q f (ToTerm r t ∷ cs) w = absurd w.0
weaker P Q f (ToSide s u ∷ cs) w = absurd w.0

module _ (P : Term → Type 0) where
  none_read : (cs : Changes) → EachPut P cs → (r : Read) → found_for_read cs r ≡ None
  none_read [] w r = refl
  none_read (OfBound i t ∷ cs) w r = none_read cs w.1 r
  none_read (ToTerm o t ∷ cs) w r = absurd w.0
  none_read (ToSide s u ∷ cs) w r = absurd w.0

  side_stays : (cs : Changes) → EachPut P cs → (r : Side) → side_changed cs r ≡ r
  side_stays [] w r = refl
  side_stays (OfBound i t ∷ cs) w r = side_stays cs w.1 r
  side_stays (ToTerm o t ∷ cs) w r = absurd w.0
  side_stays (ToSide s u ∷ cs) w r = absurd w.0

  read_stays : (cs : Changes) → EachPut P cs → (r : Read) → read_changed cs r ≡ r
  read_stays cs w (Logical i) = refl
  read_stays cs w (Program x s) = ap (Program x) (side_stays cs w s)

  all_stay : (p : Side → Bool) (cs : Changes) → EachPut P cs → without p cs ≡ cs
  all_stay p [] w = refl
  all_stay p (OfBound i t ∷ cs) w = ap (λ ds. OfBound i t ∷ ds) (all_stay p cs w.1)
  all_stay p (ToTerm o t ∷ cs) w = absurd w.0
  all_stay p (ToSide s u ∷ cs) w = absurd w.0

  later : (b : Bool) (t : Term) (o : Option Term) → P t → OnSome P o → OnSome P (or_later b t o)
  later true t o x y = x
  later false t o x y = y

  pub found : (cs : Changes) → EachPut P cs → (i : ℕ) → OnSome P (found_for_bound cs i)
  found [] w i = tt
  found (OfBound k t ∷ cs) w i = later (k == i) t (found_for_bound cs i) w.0 (found cs w.1 i)
  found (ToTerm o t ∷ cs) w i = absurd w.0
  found (ToSide s u ∷ cs) w i = absurd w.0

  module _ (cs : Changes) (w : EachPut P cs) where
    pub read_kept : (r : Read) → put_or (found_for_read cs r) (head.Read (read_changed cs r)) ≡ Kept (head.Read r)
    read_kept r = λ i. put_or (none_read cs w r i) (head.Read (read_stays cs w r i))

    head_stays : (c : Context) (h : Head) (ty : Ty) → IsNamed c h ty → IsOther h → changed_at h cs ≡ Kept h
    head_stays c (head.Read r) ty s o = read_kept r
    head_stays c (head.Bound i) ty s o = absurd o
    head_stays c (head.Glob m r) ty s o = ap (λ z. Kept (head.Glob m z)) (side_stays cs w r)
    head_stays c (head.Pr p r) ty s o = ap (λ z. Kept (head.Pr p z)) (side_stays cs w r)
    head_stays c (head.Hoare (Proc p)) ty s o = ap (λ b. Kept (head.Hoare b)) (procedure_stays p cs)
    head_stays c (head.Hoare (Body' n is)) ty s o = absurd s
    head_stays c (head.Phoare (Proc p) r) ty s o = ap (λ b. Kept (head.Phoare b r)) (procedure_stays p cs)
    head_stays c (head.Phoare (Body' n is) r) ty s o = absurd s
    head_stays c (head.Equiv (Proc p) (Proc q)) ty s o = λ i. Kept (head.Equiv (procedure_stays p cs i) (procedure_stays q cs i))
    head_stays c (head.Equiv (Body' n is) b) ty s o = absurd s.0
    head_stays c (head.Equiv (Proc p) (Body' n is)) ty s o = absurd s.1
    head_stays c _ ty s o = refl

    pub seen_args : (h : Head) → seen_by_args h cs ≡ cs
    seen_args (head.Hoare s) = all_stay is_own cs w
    seen_args (head.Phoare s r) = all_stay is_own cs w
    seen_args (head.Equiv s t) = all_stay is_left_or_right cs w
    seen_args _ = refl

    pub seen_last : (h : Head) → seen_by_last h cs ≡ below h cs
    seen_last (head.Pr p r) = all_stay is_own cs w
    seen_last (head.Hoare s) = all_stay is_own cs w
    seen_last (head.Phoare s r) = all_stay is_own cs w
    seen_last (head.Equiv s t) = all_stay is_left_or_right cs w
    seen_last _ = refl

    -- a node stays, with its arguments changed
    pub node_kept : (c : Context) (h : Head) (ty : Ty) → IsNamed c h ty → IsOther h → (fs : List (Changes → Term)) → term_of (changed_at h cs) cs fs ty ≡ node h (seen_by cs (below h cs) fs) ty
    node_kept c h ty s o fs = ap (λ m. term_of m cs fs ty) (head_stays c h ty s o) ∙ (λ i. node h (seen_by (seen_args h i) (seen_last h i) fs) ty)
