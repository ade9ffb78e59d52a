-- A goal which says that a memory exists is typed too where a memory of its context has the locals of that one, and so is what is said
-- to exist, said of this memory.
use Rattle.std.proofs.Common.{◌≡◌, ◌⊎◌, inl, inr, ℕ, zero, suc, ◌<◌, if◌then◌else◌, true, List, [], ◌∷◌, ◌++◌, map, get_or, length, Option, Some, None, refl, sym, ap, ◌∙◌, subst, arith}
use Rattle.std.specs.Option.{option_map_or}
use Rattle.std.proofs.lemmas.List.{length-map}
use Rattle.gb_core.specs.declared.ty.Ty.{Ty}
use Rattle.gb_terms.specs.declared.decl.TypedName.{TypedName}
use Rattle.gb_terms.specs.declared.op.Side.TheVariants as side
use Rattle.gb_terms.specs.declared.term.Term.{Term}
use Rattle.gb_terms.specs.declared.term.Head.TheVariants as head
use Rattle.gb_terms.specs.Make.{node}
use Rattle.gb_goal.specs.Goal.Goal.{ambient}
use Rattle.gb_goal.specs.declared.sequent.Hyp.{Hyp}
use Rattle.gb_goal.specs.declared.sequent.Sequent.{Sequent}
use Rattle.gb_meaning.specs.Names.{Name}
use Rattle.gb_meaning.specs.Written.{local_type}
use Rattle.gb_laws.specs.Typing.Binder.{memory}
use Rattle.gb_typing.specs.Context.{Context, Frame, local_in, within}
use Rattle.gb_typing.specs.Typing.{IsFrame, IsForm}
use Rattle.gb_typing.specs.Sequents.{AreHypotheses, of_sequent, IsTypedSequent}
use Rattle.gb_typing.proofs.Shapes.{node_out}
use Rattle.gb_typing.proofs.TypedGoals.{goal_conclusion}
use Rattle.gb_names.specs.Locals.{first_some, goal_read_type, hyps_read_type, read_type, reads_local}
use Rattle.gb_names.proofs.ReadTypes.{read_type_out}
use Rattle.gb_core.proofs.SameTypes.{ty_eq-Decides}
use Rattle.gb_names.specs.Locals.{local_if}
use Rattle.gb_elab_mod.specs.OtherLocals.{has_type, is_local}
use Rattle.gb_elab_laws.proofs.Recalled.{goal_stands}
use Rattle.gb_elab_laws.proofs.Widened.{Stays, Grown, form_grows, unread, read_same, added}

abbrev pub put_at : {A : Type 0} → ℕ → A → List A → List A
put_at n x [] = []
put_at zero x (y ∷ ys) = x ∷ ys
put_at (suc n) x (y ∷ ys) = y ∷ put_at n x ys

pub put_length : {A : Type 0} (n : ℕ) (x : A) (ys : List A) → length ys ≡ length (put_at n x ys)
put_length n x [] = refl
put_length zero x (y ∷ ys) = refl
put_length (suc n) x (y ∷ ys) = ap suc (put_length n x ys)

abbrev framed : List (List TypedName) → List Frame
framed fs = map Some fs

framed_length : (fs gs : List (List TypedName)) → length fs ≡ length gs → length (framed fs) ≡ length (framed gs)
framed_length [] [] e = refl
framed_length [] (g ∷ gs) e = absurd (omega (arith, e))
framed_length (f ∷ fs) [] e = absurd (omega (arith, e))
framed_length (f ∷ fs) (g ∷ gs) e = ap suc (framed_length fs gs (omega (arith, e)))

put_here : (n : ℕ) (x : List TypedName) (ys : List (List TypedName)) → n < length ys → get_or (framed (put_at n x ys)) n None ≡ Some x
put_here n x [] w = absurd (omega (arith, w))
put_here zero x (y ∷ ys) w = refl
put_here (suc n) x (y ∷ ys) w = put_here n x ys (omega (arith, w))

put_others : (n j : ℕ) (x : List TypedName) (ys : List (List TypedName)) → (n ≡ j → ⊥) → get_or (framed ys) j None ≡ get_or (framed (put_at n x ys)) j None
put_others n j x [] e = refl
put_others zero zero x (y ∷ ys) e = absurd (e refl)
put_others zero (suc j) x (y ∷ ys) e = refl
put_others (suc n) zero x (y ∷ ys) e = refl
put_others (suc n) (suc j) x (y ∷ ys) e = put_others n j x ys (λ z. e (ap suc z))

here_is : (n : ℕ) (ys : List (List TypedName)) → n < length ys → get_or (framed ys) n None ≡ Some (get_or ys n [])
here_is n [] w = absurd (omega (arith, w))
here_is zero (y ∷ ys) w = refl
here_is (suc n) (y ∷ ys) w = here_is n ys (omega (arith, w))

pub nothing_first : (o p : Option Ty) → option_map_or (λ t. Some t) o p ≡ None → (o ≡ None) × (p ≡ None)
nothing_first None p e = (refl, e)
nothing_first (Some t) p e = cc

module _ (base : Context) (q : Sequent) (t : IsTypedSequent base q) (i : ℕ) (range : i < length t.frames) (ls : List TypedName) (b : Term) (r : Ty)
    (is : q.conclusion ≡ node head.SomeMemory (b ∷ []) r) (whole : IsForm (of_sequent base q t.frames) q.conclusion) (body : IsForm (within (of_sequent base q t.frames) memory (Some ls)) b) where
  abbrev here : Context
  here = of_sequent base q t.frames

  abbrev fs : List TypedName
  fs = get_or t.frames i []

  abbrev now : List TypedName
  now = unread i q ls ++ fs

  abbrev wider : List (List TypedName)
  wider = put_at i now t.frames

  abbrev Stay : Term → Type 0
  Stay h = Stays i (Some fs) (Some now) (λ k. tt) h

  grown : Grown i (Some fs) (Some now) (λ k. tt) (framed t.frames) (framed wider)
  grown = record {
    as_many = framed_length t.frames wider (put_length i now t.frames);
    before = here_is i t.frames range;
    now = put_here i now t.frames range;
    others = λ j e. put_others i j now t.frames e;
  }

  -- what the goal reads there stays, and it reads nothing else
  either : (x : Name) → (goal_read_type (side.Memory i) x q ≡ None) ⊎ (local_type fs x ≡ local_type now x)
  either x = step (goal_read_type (side.Memory i) x q) refl
    where
      step : (o : Option Ty) → goal_read_type (side.Memory i) x q ≡ o → (goal_read_type (side.Memory i) x q ≡ None) ⊎ (local_type fs x ≡ local_type now x)
      step None e = inl e
      step (Some u) e = inr (sym (read_same i q fs ls x u e))

  of_goal : (h : Term) → ((x : Name) → goal_read_type (side.Memory i) x q ≡ None → read_type (side.Memory i) x h ≡ None) → Stay h
  of_goal h f x = step (either x)
    where
      step : (goal_read_type (side.Memory i) x q ≡ None) ⊎ (local_type fs x ≡ local_type now x) → (read_type (side.Memory i) x h ≡ None) ⊎ (local_type fs x ≡ local_type now x)
      step (inl e) = inl (f x e)
      step (inr e) = inr e

  conclusion_unread : (x : Name) → goal_read_type (side.Memory i) x q ≡ None → read_type (side.Memory i) x q.conclusion ≡ None
  conclusion_unread x e = (nothing_first (hyps_read_type (side.Memory i) x q.hyps) (read_type (side.Memory i) x q.conclusion) e).1

  body_unread : (x : Name) → goal_read_type (side.Memory i) x q ≡ None → read_type (side.Memory i) x b ≡ None
  body_unread x e =
      (nothing_first (read_type (side.Memory i) x b) None
      (sym (ap (read_type (side.Memory i) x) is ∙ read_type_out (side.Memory i) x (node head.SomeMemory (b ∷ []) r)
      ∙ ap (λ z. if reads_local (side.Memory i) x z.head then Some z.ty else first_some (map (read_type (side.Memory i) x) z.args)) (node_out head.SomeMemory (b ∷ []) r)) ∙ conclusion_unread x e)).0

  pub hyps_grow : (hs : List Hyp) → AreHypotheses here hs → ((x : Name) → goal_read_type (side.Memory i) x q ≡ None → hyps_read_type (side.Memory i) x hs ≡ None) → AreHypotheses (of_sequent base q wider) hs
  hyps_grow [] w f = tt
  hyps_grow (h ∷ hs) w f = (
    form_grows i (Some fs) (Some now) (λ k. tt) here (framed wider) grown h.form w.0
        (of_goal h.form (λ x e. (nothing_first (read_type (side.Memory i) x h.form) (hyps_read_type (side.Memory i) x hs) (f x e)).0)),
    hyps_grow hs w.1 (λ x e. (nothing_first (read_type (side.Memory i) x h.form) (hyps_read_type (side.Memory i) x hs) (f x e)).1),
  )

  pub conclusion_grows : IsForm (of_sequent base q wider) q.conclusion
  conclusion_grows = form_grows i (Some fs) (Some now) (λ k. tt) here (framed wider) grown q.conclusion whole (of_goal q.conclusion conclusion_unread)

  abbrev pub wider_typed : IsTypedSequent base q
  wider_typed = record {
    modules = t.modules;
    logical = t.logical;
    frames = wider;
    memories = sym (put_length i now t.frames) ∙ t.memories;
    hyps = hyps_grow q.hyps t.hyps (λ x e. (nothing_first (hyps_read_type (side.Memory i) x q.hyps) (read_type (side.Memory i) x q.conclusion) e).0);
    conclusion = goal_conclusion (of_sequent base q wider) [] [] (ambient q.conclusion) conclusion_grows;
  }

  pub body_grows : IsForm (within (of_sequent base q wider) memory (Some ls)) b
  body_grows = form_grows i (Some fs) (Some now) (λ k. tt) (within here memory (Some ls)) (framed wider) grown b body (of_goal b body_unread)

  -- a local of the memory that is said to exist is one there
  pub further_stands : (x : Name) (u : Ty) → local_type ls x ≡ Some u → is_local true q (side.Memory i) x u ≡ true → local_in (get_or (framed wider) i None) x ≡ Some u
  further_stands x u k e = ap (λ g. local_in g x) (put_here i now t.frames range) ∙ by_type (goal_read_type (side.Memory i) x q) refl e
    where
      by_type : (o : Option Ty) → goal_read_type (side.Memory i) x q ≡ o → has_type true (local_if x o) u ≡ true → local_type now x ≡ Some u
      by_type None m e = added i q fs ls x u m k
      by_type (Some v) m e =
          let same = m ∙ ap Some ((ty_eq-Decides v u).0 e) in
          read_same i q fs ls x u same ∙ sym (ap (λ g. local_in g x) (here_is i t.frames range)) ∙ (goal_stands i x base q t u same).0

  pub there : IsFrame (get_or (framed wider) i None)
  there = subst IsFrame (sym (put_here i now t.frames range)) tt

  pub within_range : i < length (framed wider)
  within_range = subst (λ n. i < n) (put_length i now t.frames ∙ sym (length-map wider (λ l. Some l))) range
