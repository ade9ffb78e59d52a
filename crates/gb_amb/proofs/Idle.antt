-- Changes of logical variables that aren't in the context leave a typed term as it is.
use Rattle.std.proofs.Common.{◌≡◌, ℕ, ◌==◌, Bool, true, false, List, [], ◌∷◌, map, Option, Some, None, refl, ap, sym, ◌∙◌}
use Rattle.std.proofs.lemmas.Bool.{false≢true}
use Rattle.std.proofs.lemmas.Bool.Decides.{Decides-eqb}
use Rattle.gb_core.specs.declared.ty.Ty.{Ty}
use Rattle.gb_core.specs.declared.var.Var.{Var}
use Rattle.gb_terms.specs.declared.decl.TypedName.{TypedName}
use Rattle.gb_terms.specs.declared.op.Side.{Side}
use Rattle.gb_terms.specs.declared.op.Read.TheVariants.{Logical, Program}
use Rattle.gb_terms.specs.declared.term.Term.{Term, Term', Row_of-Term, end_of-Term, more_of-Term, end_of-Head, more_of-Head}
use Rattle.gb_terms.specs.declared.term.Head.{Head}
use Rattle.gb_terms.specs.declared.term.Head.TheVariants as head
use Rattle.gb_terms.specs.declared.term.Head.TheVariants.{Proc, Body'}
use Rattle.gb_terms.specs.Make.{node}
use Rattle.gb_walk.specs.Layers.{seen_by}
use Rattle.gb_walk.specs.declared.change.Change.TheVariants.{ToTerm, OfBound, ToSide}
use Rattle.gb_walk.specs.Change.{Changes, without, under_binder, seen_by_args, seen_by_last, or_later, put_or, found_for_read, found_for_bound, side_changed, term_of, term_changed}
use Rattle.gb_walk.specs.Change.Made.{Kept}
use Rattle.gb_meaning.specs.Commands.{terms_in}
use Rattle.gb_meaning.proofs.Nodes.{each_is_node}
use Rattle.gb_laws.proofs.Trees.{out_is}
use Rattle.gb_laws.proofs.Changed.{changed_at, term_changed_is}
use Rattle.gb_laws.proofs.Forms.{procedure_stays}
use Rattle.gb_laws.specs.Typing.{types_of, IsHead}
use Rattle.gb_typing.specs.Context.{Context, erased}
use Rattle.gb_typing.specs.Typing.{IsNamed, first, middle, last, IsTyped, AreTyped}
use mathlib.Core.Former.{Count}

-- changes of variables that have no type
abbrev pub AreIdle : (ℕ → Option Ty) → Changes → Type 0
AreIdle types [] = Unit {0}
AreIdle types (ToTerm (Logical i) t ∷ cs) = (types i ≡ None) × AreIdle types cs
AreIdle types _ = ⊥

module _ (types : ℕ → Option Ty) where
  idle_under : (cs : Changes) → AreIdle types cs → AreIdle types (under_binder cs)
  idle_under [] w = tt
  idle_under (ToTerm (Logical i) t ∷ cs) w = (w.0, idle_under cs w.1)
  idle_under (ToTerm (Program x s) t ∷ cs) w = absurd w
  idle_under (OfBound i t ∷ cs) w = absurd w
  idle_under (ToSide a b ∷ cs) w = absurd w

  idle_without : (p : Side → Bool) (cs : Changes) → AreIdle types cs → AreIdle types (without p cs)
  idle_without p [] w = tt
  idle_without p (ToTerm (Logical i) t ∷ cs) w = (w.0, idle_without p cs w.1)
  idle_without p (ToTerm (Program x s) t ∷ cs) w = absurd w
  idle_without p (OfBound i t ∷ cs) w = absurd w
  idle_without p (ToSide a b ∷ cs) w = absurd w

  abbrev is_some : Option Ty → Bool
  is_some None = false
  is_some (Some t) = true

  variable_stays : (cs : Changes) → AreIdle types cs → (i : ℕ) (t : Ty) → types i ≡ Some t → found_for_read cs (Logical i) ≡ None
  variable_stays [] w i t e = refl
  variable_stays (ToTerm (Logical k) x ∷ cs) w i t e = step (k == i) refl (variable_stays cs w.1 i t e)
    where
      step : (b : Bool) → (k == i) ≡ b → found_for_read cs (Logical i) ≡ None → or_later b x (found_for_read cs (Logical i)) ≡ None
      step false h later = later
      step true h later = absurd (false≢true (ap is_some (sym w.0 ∙ ap types ((Decides-eqb k i).0 h) ∙ e)))
  variable_stays (ToTerm (Program x s) u ∷ cs) w i t e = absurd w
  variable_stays (OfBound k u ∷ cs) w i t e = absurd w
  variable_stays (ToSide a b ∷ cs) w i t e = absurd w

  read_stays : (cs : Changes) → AreIdle types cs → (x : Var) (s : Side) → found_for_read cs (Program x s) ≡ None
  read_stays [] w x s = refl
  read_stays (ToTerm (Logical k) u ∷ cs) w x s = read_stays cs w.1 x s
  read_stays (ToTerm (Program y r) u ∷ cs) w x s = absurd w
  read_stays (OfBound k u ∷ cs) w x s = absurd w
  read_stays (ToSide a b ∷ cs) w x s = absurd w

  bound_stays : (cs : Changes) → AreIdle types cs → (i : ℕ) → found_for_bound cs i ≡ None
  bound_stays [] w i = refl
  bound_stays (ToTerm (Logical k) u ∷ cs) w i = bound_stays cs w.1 i
  bound_stays (ToTerm (Program y r) u ∷ cs) w i = absurd w
  bound_stays (OfBound k u ∷ cs) w i = absurd w
  bound_stays (ToSide a b ∷ cs) w i = absurd w

  side_stays : (cs : Changes) → AreIdle types cs → (s : Side) → side_changed cs s ≡ s
  side_stays [] w s = refl
  side_stays (ToTerm (Logical k) u ∷ cs) w s = side_stays cs w.1 s
  side_stays (ToTerm (Program y r) u ∷ cs) w s = absurd w
  side_stays (OfBound k u ∷ cs) w s = absurd w
  side_stays (ToSide a b ∷ cs) w s = absurd w

module _ (c : Context) (cs : Changes) (w : AreIdle c.logical cs) where
  idle_first : (h : Head) → AreIdle (first c h).logical (seen_by_args h cs)
  idle_first (head.Hoare s) = idle_without c.logical _ cs w
  idle_first (head.Phoare s r) = idle_without c.logical _ cs w
  idle_first (head.Equiv s u) = idle_without c.logical _ cs w
  idle_first _ = w

  idle_middle : (h : Head) → AreIdle (middle c h).logical (seen_by_args h cs)
  idle_middle (head.Hoare s) = idle_without c.logical _ cs w
  idle_middle (head.Phoare s r) = idle_without c.logical _ cs w
  idle_middle (head.Equiv s u) = idle_without c.logical _ cs w
  idle_middle _ = w

  idle_last : (ls : List TypedName) (h : Head) (us : List Ty) → AreIdle (last c ls h us).logical (seen_by_last h cs)
  idle_last ls (head.All u) us = idle_under c.logical cs w
  idle_last ls (head.Some u) us = idle_under c.logical cs w
  idle_last ls head.AllMemory us = idle_under c.logical cs w
  idle_last ls head.SomeMemory us = idle_under c.logical cs w
  idle_last ls (head.AllModule b) us = idle_under c.logical cs w
  idle_last ls (head.Sum q) us = idle_under c.logical cs w
  idle_last ls head.Mu [] = idle_under c.logical cs w
  idle_last ls head.Mu (u ∷ us) = idle_under c.logical cs w
  idle_last ls head.Map [] = idle_under c.logical cs w
  idle_last ls head.Map (u ∷ us) = idle_under c.logical cs w
  idle_last ls head.Restrict [] = idle_under c.logical cs w
  idle_last ls head.Restrict (u ∷ us) = idle_under c.logical cs w
  idle_last ls (head.Pr p r) us = idle_without c.logical _ cs w
  idle_last ls (head.Hoare s) us = idle_without c.logical _ cs w
  idle_last ls (head.Phoare s r) us = idle_without c.logical _ cs w
  idle_last ls (head.Equiv s u) us = idle_without c.logical _ cs w
  idle_last ls _ us = w

  head_stays : (h : Head) (us : List Ty) (ty : Ty) → IsHead (erased c) h us ty → IsNamed c h ty → changed_at h cs ≡ Kept h
  head_stays (head.Read (Logical i)) [] ty k s = ap (λ o. put_or o (head.Read (Logical i))) (variable_stays c.logical cs w i ty k.1)
  head_stays (head.Read (Logical i)) (u ∷ us) ty k s = absurd k
  head_stays (head.Read (Program x r)) us ty k s = λ i. put_or (read_stays c.logical cs w x r i) (head.Read (Program x (side_stays c.logical cs w r i)))
  head_stays (head.Bound i) us ty k s = ap (λ o. put_or o (head.Bound i)) (bound_stays c.logical cs w i)
  head_stays (head.Glob m r) us ty k s = ap (λ s. Kept (head.Glob m s)) (side_stays c.logical cs w r)
  head_stays (head.Pr p r) us ty k s = ap (λ s. Kept (head.Pr p s)) (side_stays c.logical cs w r)
  head_stays (head.Hoare (Proc p)) us ty k s = ap (λ b. Kept (head.Hoare b)) (procedure_stays p cs)
  head_stays (head.Hoare (Body' n is)) us ty k s = absurd s
  head_stays (head.Phoare (Proc p) r) us ty k s = ap (λ b. Kept (head.Phoare b r)) (procedure_stays p cs)
  head_stays (head.Phoare (Body' n is) r) us ty k s = absurd s
  head_stays (head.Equiv (Proc p) (Proc q)) us ty k s = λ i. Kept (head.Equiv (procedure_stays p cs i) (procedure_stays q cs i))
  head_stays (head.Equiv (Body' n is) b) us ty k s = absurd s.0
  head_stays (head.Equiv (Proc p) (Body' n is)) us ty k s = absurd s.1
  head_stays _ us ty k s = refl

mutual
  pub unchanged : (c : Context) (t : Term) → IsTyped c t → (cs : Changes) → AreIdle c.logical cs → term_changed t cs ≡ t
  unchanged c (Term' tt (more_of-Head h end_of-Head) n ts ty) w cs i =
      term_changed_is h n ts ty cs
      ∙ ap (λ m. term_of m cs (map term_changed (terms_in ts)) ty) (head_stays c cs i h (types_of ts) ty w.0 w.1)
      ∙ ap (λ z. node h z ty)
      (all_unchanged (first c h) (middle c h) (last c w.2 h (types_of ts)) ts w.3 (seen_by_args h cs) (seen_by_last h cs)
      (idle_first c cs i h) (idle_middle c cs i h) (idle_last c cs i w.2 h (types_of ts)))
      ∙ sym (each_is_node (Term' tt (more_of-Head h end_of-Head) n ts ty) ∙ ap (λ x. node x.head x.args x.ty) (out_is h n ts ty))

  all_unchanged : {n : Count} (a b d : Context) (ts : Row_of-Term n) → AreTyped a b d ts → (y z : Changes) → AreIdle a.logical y → AreIdle b.logical y → AreIdle d.logical z →
      seen_by y z (map term_changed (terms_in ts)) ≡ terms_in ts
  all_unchanged a b d end_of-Term w y z p q r = refl
  all_unchanged a b d (more_of-Term t end_of-Term) w y z p q r = ap (λ x. x ∷ []) (unchanged d t w z r)
  all_unchanged a b d (more_of-Term t (more_of-Term u ts)) w y z p q r =
      let one = unchanged a t w.0 y p in let rest = all_unchanged b b d (more_of-Term u ts) w.1 y z q q r in λ i. one i ∷ rest i
