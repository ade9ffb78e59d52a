-- A closed plain term with terms of a goal in the places of what it binds: it is typed, and means what it means where these variables
-- have the values of the terms.
use Rattle.std.proofs.Common.{◌≡◌, ℕ, zero, suc, true, List, [], ◌∷◌, map, Option, None, Some, refl, ap, sym, ◌∙◌, subst}
use Rattle.std.specs.List.{AllByRecursion}
use Rattle.std.specs.Option.{option_map}
use Rattle.gb_core.specs.declared.ty.Ty.{Ty}
use Rattle.gb_terms.specs.declared.decl.TypedName.{TypedName}
use Rattle.gb_terms.specs.declared.op.Read.{Read}
use Rattle.gb_terms.specs.declared.op.Read.TheVariants.{Logical, Program}
use Rattle.gb_terms.specs.declared.term.Term.{Term, Term', Row_of-Term, end_of-Term, more_of-Term, end_of-Head, more_of-Head}
use Rattle.gb_terms.specs.declared.term.Head.{Head}
use Rattle.gb_terms.specs.declared.term.Head.TheVariants as head
use Rattle.gb_terms.specs.Make.{node}
use Rattle.gb_walk.specs.declared.change.Change.{Change}
use Rattle.gb_walk.specs.declared.change.Change.TheVariants.{ToTerm, OfBound, ToSide}
use Rattle.gb_walk.specs.Layers.{seen_by}
use Rattle.gb_walk.specs.Raise.{term_raised}
use Rattle.gb_walk.specs.Change.{Changes, put_or, found_for_read, found_for_bound, read_changed, side_changed, change_raised, under_binder, seen_by_args, seen_by_last, term_of, term_changed}
use Rattle.gb_meaning.specs.Commands.{terms_in}
use Rattle.gb_meaning.specs.Setting.{Meaning, Setting}
use Rattle.gb_meaning.specs.State.{State, Binding, binding, meaning_in, under}
use Rattle.gb_meaning.specs.Terms.{val, parts, part_of, denominator, denominators, denominator_of}
use Rattle.gb_meaning.specs.Judgments.{Judge, IsFair, speaking}
use Rattle.gb_meaning.specs.Written.{type_of}
use Rattle.gb_meaning.proofs.Nodes.{val_node, denominator_node}
use Rattle.gb_laws.specs.Formed.{IsFormed, AllFormed}
use Rattle.gb_laws.specs.Led.{OnPut, put}
use Rattle.gb_laws.specs.Plain.{HeadIsPlain, IsPlain, AllPlain}
use Rattle.gb_laws.specs.Uses.{Uses, beneath, of_arguments, of_last}
use Rattle.gb_laws.specs.Uses.Use.{bound}
use Rattle.gb_laws.proofs.Changed.{changed_at, term_changed_is}
use Rattle.gb_laws.proofs.Heads.{Moved, Here, Under, inner_same}
use Rattle.gb_laws.proofs.Leading.{OnSome, read_found_each, bound_found_each, lifted_zero}
use Rattle.gb_laws.proofs.Lookups.{bound_found_under, bound_of_binder, each_map}
use Rattle.gb_laws.proofs.Raising.{has_parts, denominator_raised}
use Rattle.gb_laws.specs.Typing.{OperatorType, Binder, types_of, IsBoundAt, IsHead}
use Rattle.gb_laws.specs.Typing.Binder.{value, index, program}
use Rattle.gb_meaning.specs.Operators.{outcome_type}
use Rattle.gb_typing.specs.Changes.{binder, Made}
use Rattle.gb_typing.specs.Context.{Context, erased, within}
use Rattle.gb_typing.specs.Typing.{IsIn, IsNamed, first, middle, last, IsTyped, AreTyped}
use Rattle.gb_typing.proofs.Formed.{formed}
use Rattle.gb_typing.proofs.Made.{EachMade, made_node}
use Rattle.gb_typing.proofs.Sound.{Procedures, sound_form}
use Rattle.gb_typing.proofs.Uses.{nothing_in}
use Rattle.gb_rewrite.proofs.Closed.{IsClosed, closed_first, closed_middle, closed_last, head_within}
use Rattle.gb_amb.proofs.Lifted.{lifts_zero, lifted}
use Rattle.gb_amb.proofs.Steady.{form_steady}
use mathlib.Core.Former.{Count}

-- nothing is read where nothing is there to read
nothing_is_read : (L : Uses) (e : Context) → IsClosed L e → (r : Read) (us : List Ty) (t : Ty) → IsHead (erased e) (head.Read r) us t → IsNamed e (head.Read r) t → ⊥
nothing_is_read L e a (Logical i) [] t w s = a.logical i t w.1
nothing_is_read L e a (Program x r) [] t w s = nothing_in e x t (subst (λ f. IsIn e f x t) (a.frames r) s)
nothing_is_read L e a r (u ∷ us) t w s = absurd w

-- Types.

-- what a variable becomes
abbrev pub Filled : Context → Ty → ℕ → Option Term → Type 0
Filled d t i (Some u) = Made d t u
Filled d t i None = IsBoundAt (binder d i) t

pub record Fills (cs : Changes) (e d : Context) : Type 0 where
  pub operator : (n : _) (o : OperatorType) → e.operator n ≡ Some o → d.operator n ≡ Some o
  pub bounds : (i : ℕ) (t : Ty) → IsBoundAt (binder e i) t → Filled d t i (found_for_bound cs i)

module _ (cs : Changes) (e d : Context) (f : Fills cs e d) where
  raised_fill : (b : Binder) (t : Ty) (i : ℕ) (o : Option Term) → Filled d t i o → Filled (within d b None) t (suc i) (option_map (λ u. term_raised u 0) o)
  raised_fill b t i (Some u) m = let k = lifted 0 d (within d b None) (lifts_zero d b None) u m.typed in record { typed = k.typed; written = k.written ∙ m.written }
  raised_fill b t i None w = w

  fills_under : (b : Binder) → Fills (under_binder cs) (within e b None) (within d b None)
  fills_under b = record { operator = f.operator; bounds = each }
    where
      each : (i : ℕ) (t : Ty) → IsBoundAt (binder (within e b None) i) t → Filled (within d b None) t i (found_for_bound (under_binder cs) i)
      each zero t w = subst (Filled (within d b None) t zero) (sym (bound_of_binder cs)) w
      each (suc i) t w = subst (Filled (within d b None) t (suc i)) (sym (bound_found_under cs i)) (raised_fill b t i (found_for_bound cs i) (f.bounds i t w))

  fills_first : (h : Head) → HeadIsPlain h → Fills (seen_by_args h cs) (first e h) (first d h)
  fills_first (head.Hoare s) x = absurd x
  fills_first (head.Phoare s r) x = absurd x
  fills_first (head.Equiv s u) x = absurd x
  fills_first _ x = f

  fills_middle : (h : Head) → HeadIsPlain h → Fills (seen_by_args h cs) (middle e h) (middle d h)
  fills_middle (head.Hoare s) x = absurd x
  fills_middle (head.Phoare s r) x = absurd x
  fills_middle (head.Equiv s u) x = absurd x
  fills_middle _ x = f

  fills_last : (ls : List TypedName) (h : Head) (us : List Ty) (t : Ty) → HeadIsPlain h → IsHead (erased e) h us t → Fills (seen_by_last h cs) (last e ls h us) (last d ls h us)
  fills_last ls (head.All u) us t x w = fills_under (value u)
  fills_last ls (head.Some u) us t x w = fills_under (value u)
  fills_last ls head.AllMemory us t x w = absurd x
  fills_last ls head.SomeMemory us t x w = absurd x
  fills_last ls (head.AllModule b) us t x w = fills_under program
  fills_last ls (head.Sum q) us t x w = fills_under (index q)
  fills_last ls head.Mu [] t x w = absurd w
  fills_last ls head.Mu (u ∷ us) t x w = fills_under (value (outcome_type u))
  fills_last ls head.Map [] t x w = absurd w
  fills_last ls head.Map (u ∷ us) t x w = fills_under (value (outcome_type u))
  fills_last ls head.Restrict [] t x w = absurd w
  fills_last ls head.Restrict (u ∷ us) t x w = fills_under (value (outcome_type u))
  fills_last ls (head.Pr p r) us t x w = absurd x
  fills_last ls (head.Hoare s) us t x w = absurd x
  fills_last ls (head.Phoare s r) us t x w = absurd x
  fills_last ls (head.Equiv s u) us t x w = absurd x
  fills_last ls _ us t x w = f

  -- the node of a head, from what its arguments have become
  filled_node : (L : Uses) → IsClosed L e → (h : Head) (us : List Ty) (fs : List (Changes → Term)) (t : Ty) → HeadIsPlain h → IsHead (erased e) h us t → IsNamed e h t → (ls : List TypedName) →
      EachMade (first d h) (middle d h) (last d ls h us) us (seen_by (seen_by_args h cs) (seen_by_last h cs) fs) → Made d t (term_of (changed_at h cs) cs fs t)
  filled_node L a (head.Read r) us fs t x w s ls m = absurd (nothing_is_read L e a r us t w s)
  filled_node L a (head.Bound i) [] fs t x w s ls m = step (found_for_bound cs i) (f.bounds i t w)
    where
      step : (o : Option Term) → Filled d t i o → Made d t (term_of (put_or o (head.Bound i)) cs fs t)
      step (Some u) k = k
      step None k = made_node d (head.Bound i) [] (seen_by cs cs fs) t k tt ls m
  filled_node L a (head.Bound i) (u ∷ us) fs t x w s ls m = absurd w
  filled_node L a (head.User n) us fs t x w s ls m = made_node d (head.User n) us (seen_by cs cs fs) t (f.operator n _ w) tt ls m
  filled_node L a (head.AllModule b) us fs t x w s ls m = absurd s
  filled_node L a (head.Glob b r) us fs t x w s ls m = absurd s
  filled_node L a (head.Pr p r) us fs t x w s ls m = absurd x
  filled_node L a (head.Hoare b) us fs t x w s ls m = absurd x
  filled_node L a (head.Phoare b r) us fs t x w s ls m = absurd x
  filled_node L a (head.Equiv y b) us fs t x w s ls m = absurd x
  filled_node L a head.AllMemory us fs t x w s ls m = absurd x
  filled_node L a head.SomeMemory us fs t x w s ls m = absurd x
  filled_node L a h us fs t x w s ls m = made_node d h us (seen_by (seen_by_args h cs) (seen_by_last h cs) fs) t w s ls m

mutual
  pub filled : (L : Uses) (cs : Changes) (e d : Context) → IsClosed L e → Fills cs e d → (t : Term) → IsPlain t → IsTyped e t → Made d (type_of t) (term_changed t cs)
  filled L cs e d a f (Term' p (more_of-Head h end_of-Head) n ts ty) x w =
      subst (Made d ty) (sym (term_changed_is h n ts ty cs))
      (filled_node cs e d f L a h (types_of ts) (map term_changed (terms_in ts)) ty x.0 w.0 w.1 w.2
      (all_filled (of_arguments L h) (of_last L h) (seen_by_args h cs) (seen_by_last h cs) (first e h) (middle e h) (last e w.2 h (types_of ts)) (first d h) (middle d h) (last d w.2 h (types_of ts))
      (closed_first L e a h x.0) (closed_middle L e a h x.0) (closed_last L e a w.2 h (types_of ts) ty x.0 w.0)
      (fills_first cs e d f h x.0) (fills_middle cs e d f h x.0) (fills_last cs e d f w.2 h (types_of ts) ty x.0 w.0) ts x.1 w.3))

  all_filled : {n : Count} (L M : Uses) (y z : Changes) (c e g d f h : Context) → IsClosed L c → IsClosed L e → IsClosed M g → Fills y c d → Fills y e f → Fills z g h → (ts : Row_of-Term n) → AllPlain ts →
      AreTyped c e g ts → EachMade d f h (types_of ts) (seen_by y z (map term_changed (terms_in ts)))
  all_filled L M y z c e g d f h a b k l m r end_of-Term x w = tt
  all_filled L M y z c e g d f h a b k l m r (more_of-Term t end_of-Term) x w = filled M z g h k r t x.0 w
  all_filled L M y z c e g d f h a b k l m r (more_of-Term t (more_of-Term u ts)) x w =
      (filled L y c d a l t x.0 w.0, all_filled L M y z e e g f f h b b k m m r (more_of-Term u ts) x.1 w.1)

-- Meanings.

module _ (g : Setting) where
  -- what may be put in: typed terms that are no distributions
  pub record Fit (d : Context) (u : Term) : Type 0 where
    pub typed : IsTyped d u
    pub denominator : denominator g u ≡ 1

  abbrev pub AreFit : Context → Changes → Type 0
  AreFit d cs = AllByRecursion (OnPut (Fit d)) cs

  fit_raised : (d : Context) (b : Binder) (u : Term) → Fit d u → Fit (within d b None) (term_raised u 0)
  fit_raised d b u w = record { typed = (lifted 0 d (within d b None) (lifts_zero d b None) u w.typed).typed; denominator = denominator_raised g u 0 ∙ w.denominator }

  fit_under : (d : Context) (b : Binder) (cs : Changes) → AreFit d cs → AreFit (within d b None) (under_binder cs)
  fit_under d b cs h = each_map (OnPut (Fit d)) (OnPut (Fit (within d b None))) change_raised step cs h
    where
      step : (c : Change) → OnPut (Fit d) c → OnPut (Fit (within d b None)) (change_raised c)
      step (ToTerm r t) p = fit_raised d b t p
      step (OfBound i t) p = fit_raised d b t p
      step (ToSide x y) p = tt

  -- denominators

  made_denominator : (d : Context) (o : Option Term) (h : Head) (cs : Changes) (fs : List (Changes → Term)) (ty : Ty) → OnSome (Fit d) o →
      ((ks : List ℕ) → denominator_of g h ks ty ≡ 1) → denominator g (term_of (put_or o h) cs fs ty) ≡ 1
  made_denominator d (Some t) h cs fs ty p e = p.denominator
  made_denominator d None h cs fs ty p e = denominator_node g h (seen_by (seen_by_args h cs) (seen_by_last h cs) fs) ty ∙ e _

  filled_denominator_at : {n : Count} (d : Context) (h : Head) (cs : Changes) (ts : Row_of-Term n) (ty : Ty) → HeadIsPlain h → AreFit d cs →
      map (denominator g) (seen_by (seen_by_args h cs) (seen_by_last h cs) (map term_changed (terms_in ts))) ≡ denominators g ts →
      denominator g (term_of (changed_at h cs) cs (map term_changed (terms_in ts)) ty) ≡ denominator_of g h (denominators g ts) ty
  filled_denominator_at d (head.Read r) cs ts ty x a e = made_denominator d (found_for_read cs r) (head.Read (read_changed cs r)) cs _ ty (read_found_each (Fit d) cs a r) (λ ks i. 1)
  filled_denominator_at d (head.Bound i) cs ts ty x a e = made_denominator d (found_for_bound cs i) (head.Bound i) cs _ ty (bound_found_each (Fit d) cs a i) (λ ks i. 1)
  filled_denominator_at d (head.Glob m r) cs ts ty x a e = denominator_node g (head.Glob m (side_changed cs r)) (seen_by cs cs (map term_changed (terms_in ts))) ty
  filled_denominator_at d (head.Pr p r) cs ts ty x a e = absurd x
  filled_denominator_at d (head.Hoare c) cs ts ty x a e = absurd x
  filled_denominator_at d (head.Phoare c r) cs ts ty x a e = absurd x
  filled_denominator_at d (head.Equiv c b) cs ts ty x a e = absurd x
  filled_denominator_at d h cs ts ty x a e =
      denominator_node g h (seen_by (seen_by_args h cs) (seen_by_last h cs) (map term_changed (terms_in ts))) ty ∙ ap (λ ks. denominator_of g h ks ty) e

  abbrev Fine : Changes → Type 0
  Fine cs = (d : Context) × AreFit d cs

  fine_last : (h : Head) (cs : Changes) → HeadIsPlain h → Fine cs → Fine (seen_by_last h cs)
  fine_last (head.All u) cs x a = (within a.0 program None, fit_under a.0 program cs a.1)
  fine_last (head.Some u) cs x a = (within a.0 program None, fit_under a.0 program cs a.1)
  fine_last (head.AllModule u) cs x a = (within a.0 program None, fit_under a.0 program cs a.1)
  fine_last (head.Sum u) cs x a = (within a.0 program None, fit_under a.0 program cs a.1)
  fine_last head.Mu cs x a = (within a.0 program None, fit_under a.0 program cs a.1)
  fine_last head.Map cs x a = (within a.0 program None, fit_under a.0 program cs a.1)
  fine_last head.Restrict cs x a = (within a.0 program None, fit_under a.0 program cs a.1)
  fine_last head.AllMemory cs x a = absurd x
  fine_last head.SomeMemory cs x a = absurd x
  fine_last (head.Pr p r) cs x a = absurd x
  fine_last (head.Hoare c) cs x a = absurd x
  fine_last (head.Phoare c r) cs x a = absurd x
  fine_last (head.Equiv c b) cs x a = absurd x
  fine_last h cs x a = a

  fine_args : (h : Head) (cs : Changes) → HeadIsPlain h → Fine cs → Fine (seen_by_args h cs)
  fine_args (head.Hoare c) cs x a = absurd x
  fine_args (head.Phoare c r) cs x a = absurd x
  fine_args (head.Equiv c b) cs x a = absurd x
  fine_args h cs x a = a

  mutual
    pub filled_denominator : (t : Term) (cs : Changes) → IsPlain t → Fine cs → denominator g (term_changed t cs) ≡ denominator g t
    filled_denominator (Term' p (more_of-Head h end_of-Head) n ts ty) cs x a =
        ap (denominator g) (term_changed_is h n ts ty cs)
        ∙ filled_denominator_at a.0 h cs ts ty x.0 a.1 (filled_denominators ts (seen_by_args h cs) (seen_by_last h cs) x.1 (fine_args h cs x.0 a) (fine_last h cs x.0 a))

    filled_denominators : {n : Count} (ts : Row_of-Term n) (y z : Changes) → AllPlain ts → Fine y → Fine z → map (denominator g) (seen_by y z (map term_changed (terms_in ts))) ≡ denominators g ts
    filled_denominators end_of-Term y z x a b = refl
    filled_denominators (more_of-Term t end_of-Term) y z x a b = ap (λ k. k ∷ []) (filled_denominator t z x.0 b)
    filled_denominators (more_of-Term t (more_of-Term u ts)) y z x a b =
        let one = filled_denominator t y x.0 a in
        let rest = filled_denominators (more_of-Term u ts) y z x.1 a b in
        λ i. one i ∷ rest i

  module _ (j : Judge) (fair : IsFair g j) where
    abbrev V : Term → State → Meaning
    V t s = val g (speaking g j) t s

    -- what a variable becomes means in q what the variable means in r
    abbrev pub Meets : Changes → Uses → State → State → Type 0
    Meets cs L q r = (i : ℕ) → L (bound i) ≡ true → put g (speaking g j) (found_for_bound cs i) (meaning_in (binding q i)) q ≡ meaning_in (binding r i)

    module _ (L : Uses) (d : Context) (procedures : Procedures g d) (cs : Changes) (fit : AreFit d cs) (q r : State) (m : Meets cs L q r) (b : Binding) where
      put_under : (o : Option Term) (x : Meaning) → OnSome (Fit d) o → put g (speaking g j) (option_map (λ u. term_raised u 0) o) x (under q b) ≡ put g (speaking g j) o x q
      put_under (Some u) x w = form_steady g j fair d u w.typed (formed d u w.typed) (sound_form g d procedures u w.typed) 0 (under q b) q (lifted_zero q b)
      put_under None x w = refl

      meets_under : Meets (under_binder cs) (beneath L) (under q b) (under r b)
      meets_under zero k = ap (λ o. put g (speaking g j) o (meaning_in b) (under q b)) (bound_of_binder cs)
      meets_under (suc i) k =
          ap (λ o. put g (speaking g j) o (meaning_in (binding q i)) (under q b)) (bound_found_under cs i)
          ∙ put_under (found_for_bound cs i) _ (bound_found_each (Fit d) cs fit i) ∙ m i k

    bound_val : (cs : Changes) (i : ℕ) (fs : List (Changes → Term)) (ty : Ty) (q : State) (o : Option Term) → V (term_of (put_or o (head.Bound i)) cs fs ty) q ≡ put g (speaking g j) o (meaning_in (binding q i)) q
    bound_val cs i fs ty q (Some u) = refl
    bound_val cs i fs ty q None = val_node g (speaking g j) (head.Bound i) (seen_by cs cs fs) ty q

    mutual
      pub means_filled : (L : Uses) (e d : Context) → IsClosed L e → Procedures g d → (cs : Changes) → AreFit d cs → (q r : State) → Meets cs L q r → (t : Term) → IsPlain t → IsFormed t → IsTyped e t →
          V (term_changed t cs) q ≡ V t r
      means_filled L e d a k cs fit q r m (Term' p (more_of-Head (head.Read y) end_of-Head) n ts ty) x f w = absurd (nothing_is_read L e a y (types_of ts) ty w.0 w.1)
      means_filled L e d a k cs fit q r m (Term' p (more_of-Head (head.Bound i) end_of-Head) n ts ty) x f w =
          ap (λ t. V t q) (term_changed_is (head.Bound i) n ts ty cs) ∙ bound_val cs i (map term_changed (terms_in ts)) ty q (found_for_bound cs i)
          ∙ m i (head_within L e a (head.Bound i) (types_of ts) ty tt w.0 w.1)
      means_filled L e d a k cs fit q r m (Term' p (more_of-Head (head.Glob y o) end_of-Head) n ts ty) x f w = absurd w.1
      means_filled L e d a k cs fit q r m (Term' p (more_of-Head (head.AllModule y) end_of-Head) n ts ty) x f w = absurd w.1
      means_filled L e d a k cs fit q r m (Term' p (more_of-Head (head.Pr y o) end_of-Head) n ts ty) x f w = absurd x.0
      means_filled L e d a k cs fit q r m (Term' p (more_of-Head head.AllMemory end_of-Head) n ts ty) x f w = absurd x.0
      means_filled L e d a k cs fit q r m (Term' p (more_of-Head head.SomeMemory end_of-Head) n ts ty) x f w = absurd x.0
      means_filled L e d a k cs fit q r m (Term' p (more_of-Head (head.Hoare y) end_of-Head) n ts ty) x f w = absurd x.0
      means_filled L e d a k cs fit q r m (Term' p (more_of-Head (head.Phoare y o) end_of-Head) n ts ty) x f w = absurd x.0
      means_filled L e d a k cs fit q r m (Term' p (more_of-Head (head.Equiv y o) end_of-Head) n ts ty) x f w = absurd x.0
      means_filled L e d a k cs fit q r m (Term' p (more_of-Head (head.All u) end_of-Head) n ts ty) x f w =
          let h = head.All u in
          let args = seen_by cs (under_binder cs) (map term_changed (terms_in ts)) in
          ap (λ t. V t q) (term_changed_is h n ts ty cs) ∙ val_node g (speaking g j) h args ty q
          ∙ inner_same q r g (speaking g j) (node h args ty) (Term' p (more_of-Head h end_of-Head) n ts ty) h (map (part_of g (speaking g j)) args) (parts g (speaking g j) ts) ty tt (has_parts g (speaking g j) h ts f.0)
          (under_means L e e (last e w.2 h (types_of ts)) d a a (closed_last L e a w.2 h (types_of ts) ty x.0 w.0) k cs fit q r m ts x.1 f.2 w.3)
      means_filled L e d a k cs fit q r m (Term' p (more_of-Head (head.Some u) end_of-Head) n ts ty) x f w =
          let h = head.Some u in
          let args = seen_by cs (under_binder cs) (map term_changed (terms_in ts)) in
          ap (λ t. V t q) (term_changed_is h n ts ty cs) ∙ val_node g (speaking g j) h args ty q
          ∙ inner_same q r g (speaking g j) (node h args ty) (Term' p (more_of-Head h end_of-Head) n ts ty) h (map (part_of g (speaking g j)) args) (parts g (speaking g j) ts) ty tt (has_parts g (speaking g j) h ts f.0)
          (under_means L e e (last e w.2 h (types_of ts)) d a a (closed_last L e a w.2 h (types_of ts) ty x.0 w.0) k cs fit q r m ts x.1 f.2 w.3)
      means_filled L e d a k cs fit q r m (Term' p (more_of-Head (head.Sum u) end_of-Head) n ts ty) x f w =
          let h = head.Sum u in
          let args = seen_by cs (under_binder cs) (map term_changed (terms_in ts)) in
          ap (λ t. V t q) (term_changed_is h n ts ty cs) ∙ val_node g (speaking g j) h args ty q
          ∙ inner_same q r g (speaking g j) (node h args ty) (Term' p (more_of-Head h end_of-Head) n ts ty) h (map (part_of g (speaking g j)) args) (parts g (speaking g j) ts) ty tt (has_parts g (speaking g j) h ts f.0)
          (under_means L e e (last e w.2 h (types_of ts)) d a a (closed_last L e a w.2 h (types_of ts) ty x.0 w.0) k cs fit q r m ts x.1 f.2 w.3)
      means_filled L e d a k cs fit q r m (Term' p (more_of-Head head.Mu end_of-Head) n ts ty) x f w =
          let args = seen_by cs (under_binder cs) (map term_changed (terms_in ts)) in
          ap (λ t. V t q) (term_changed_is head.Mu n ts ty cs) ∙ val_node g (speaking g j) head.Mu args ty q
          ∙ inner_same q r g (speaking g j) (node head.Mu args ty) (Term' p (more_of-Head head.Mu end_of-Head) n ts ty) head.Mu (map (part_of g (speaking g j)) args) (parts g (speaking g j) ts) ty tt (has_parts g (speaking g j) head.Mu ts f.0)
          (under_means L e e (last e w.2 head.Mu (types_of ts)) d a a (closed_last L e a w.2 head.Mu (types_of ts) ty x.0 w.0) k cs fit q r m ts x.1 f.2 w.3)
      means_filled L e d a k cs fit q r m (Term' p (more_of-Head head.Map end_of-Head) n ts ty) x f w =
          let args = seen_by cs (under_binder cs) (map term_changed (terms_in ts)) in
          ap (λ t. V t q) (term_changed_is head.Map n ts ty cs) ∙ val_node g (speaking g j) head.Map args ty q
          ∙ inner_same q r g (speaking g j) (node head.Map args ty) (Term' p (more_of-Head head.Map end_of-Head) n ts ty) head.Map (map (part_of g (speaking g j)) args) (parts g (speaking g j) ts) ty tt (has_parts g (speaking g j) head.Map ts f.0)
          (under_means L e e (last e w.2 head.Map (types_of ts)) d a a (closed_last L e a w.2 head.Map (types_of ts) ty x.0 w.0) k cs fit q r m ts x.1 f.2 w.3)
      means_filled L e d a k cs fit q r m (Term' p (more_of-Head head.Restrict end_of-Head) n ts ty) x f w =
          let args = seen_by cs (under_binder cs) (map term_changed (terms_in ts)) in
          ap (λ t. V t q) (term_changed_is head.Restrict n ts ty cs) ∙ val_node g (speaking g j) head.Restrict args ty q
          ∙ inner_same q r g (speaking g j) (node head.Restrict args ty) (Term' p (more_of-Head head.Restrict end_of-Head) n ts ty) head.Restrict (map (part_of g (speaking g j)) args) (parts g (speaking g j) ts) ty tt (has_parts g (speaking g j) head.Restrict ts f.0)
          (under_means L e e (last e w.2 head.Restrict (types_of ts)) d a a (closed_last L e a w.2 head.Restrict (types_of ts) ty x.0 w.0) k cs fit q r m ts x.1 f.2 w.3)
      means_filled L e d a k cs fit q r m (Term' p (more_of-Head h end_of-Head) n ts ty) x f w =
          let args = seen_by cs cs (map term_changed (terms_in ts)) in
          ap (λ t. V t q) (term_changed_is h n ts ty cs) ∙ val_node g (speaking g j) h args ty q
          ∙ inner_same q r g (speaking g j) (node h args ty) (Term' p (more_of-Head h end_of-Head) n ts ty) h (map (part_of g (speaking g j)) args) (parts g (speaking g j) ts) ty tt (has_parts g (speaking g j) h ts f.0)
          (here_means L e e e d a a a k cs fit q r m ts x.1 f.2 w.3)

      under_means : {n : Count} (L : Uses) (c e l d : Context) → IsClosed L c → IsClosed L e → IsClosed (beneath L) l → Procedures g d → (cs : Changes) → AreFit d cs → (q r : State) → Meets cs L q r →
          (ts : Row_of-Term n) → AllPlain ts → AllFormed ts → AreTyped c e l ts → Moved (Here q r) (Under q r) (map (part_of g (speaking g j)) (seen_by cs (under_binder cs) (map term_changed (terms_in ts)))) (parts g (speaking g j) ts)
      under_means L c e l d a b z k cs fit q r m end_of-Term x f w = tt
      under_means L c e l d a b z k cs fit q r m (more_of-Term t end_of-Term) x f w =
          λ y. means_filled (beneath L) l (within d program None) z k (under_binder cs) (fit_under d program cs fit) (under q y) (under r y) (meets_under L d k cs fit q r m y) t x.0 f.0 w
      under_means L c e l d a b z k cs fit q r m (more_of-Term t (more_of-Term u ts)) x f w =
          ((means_filled L c d a k cs fit q r m t x.0 f.0 w.0, filled_denominator t cs x.0 (d, fit)), under_means L e e l d b b z k cs fit q r m (more_of-Term u ts) x.1 f.1 w.1)

      here_means : {n : Count} (L : Uses) (c e l d : Context) → IsClosed L c → IsClosed L e → IsClosed L l → Procedures g d → (cs : Changes) → AreFit d cs → (q r : State) → Meets cs L q r →
          (ts : Row_of-Term n) → AllPlain ts → AllFormed ts → AreTyped c e l ts → Moved (Here q r) (Here q r) (map (part_of g (speaking g j)) (seen_by cs cs (map term_changed (terms_in ts)))) (parts g (speaking g j) ts)
      here_means L c e l d a b z k cs fit q r m end_of-Term x f w = tt
      here_means L c e l d a b z k cs fit q r m (more_of-Term t end_of-Term) x f w = (means_filled L l d z k cs fit q r m t x.0 f.0 w, filled_denominator t cs x.0 (d, fit))
      here_means L c e l d a b z k cs fit q r m (more_of-Term t (more_of-Term u ts)) x f w =
          ((means_filled L c d a k cs fit q r m t x.0 f.0 w.0, filled_denominator t cs x.0 (d, fit)), here_means L e e l d b b z k cs fit q r m (more_of-Term u ts) x.1 f.1 w.1)
