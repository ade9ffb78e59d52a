-- A typed goal is typed too where a memory of its context has further locals, which the goal doesn't read there.
use Rattle.std.proofs.Common.{◌≡◌, ◌⊎◌, inl, inr, ℕ, ◌==◌, ◌<◌, if◌then◌else◌, ◌&&◌, Bool, true, false, List, [], ◌∷◌, ◌++◌, map, get_or, length, Option, Some, None, refl, sym, ap, ◌∙◌, subst}
use Rattle.std.proofs.lemmas.Bool.{false≢true}
use Rattle.std.proofs.lemmas.Bool.Decides.{Decides-eqb}
use Rattle.std.proofs.lemmas.Slice.Eq.{bytes_eq-Decides}
use Rattle.std.specs.Prelude.{bytes_eq}
use Rattle.gb_core.specs.declared.ty.Ty.{Ty}
use Rattle.gb_core.specs.declared.var.Var.{Var}
use Rattle.gb_core.specs.declared.var.Var.TheVariants as var
use Rattle.gb_terms.specs.declared.decl.TypedName.{TypedName}
use Rattle.gb_terms.specs.declared.op.Read.TheVariants.{Logical, Program}
use Rattle.gb_terms.specs.declared.op.Side.{Side}
use Rattle.gb_terms.specs.declared.op.Side.TheVariants as side
use Rattle.gb_terms.specs.declared.term.Term.{Term, Term', Row_of-Term, end_of-Term, more_of-Term, end_of-Head, more_of-Head}
use Rattle.gb_terms.specs.declared.term.Head.{Head}
use Rattle.gb_terms.specs.declared.term.Head.TheVariants as head
use Rattle.gb_terms.proofs.Equality.{side_eq-Decides}
use Rattle.gb_goal.specs.declared.sequent.Sequent.{Sequent}
use Rattle.gb_meaning.specs.Commands.{terms_in}
use Rattle.gb_meaning.specs.Names.{Name}
use Rattle.gb_meaning.specs.Written.{local_type}
use Rattle.gb_laws.specs.Typing as typed
use Rattle.gb_laws.specs.Typing.{types_of, IsHead}
use Rattle.gb_typing.specs.Context.{Context, Frame, erased, frame_of, local_in}
use Rattle.gb_typing.specs.Typing.{IsFrame, IsNamed, first, middle, last, IsTyped, AreTyped, IsForm}
use Rattle.gb_names.specs.Locals.{first_some, goal_read_type, read_type, reads_local}
use Rattle.gb_elab_laws.proofs.Recalled.{first_named, found_is, last_named, middle_named}
use mathlib.Core.Former.{Count}

-- other locals of the named memories
abbrev pub with_named : Context → List Frame → Context
with_named c ns = record c { named = ns }

no_some : {A : Type 0} {x : A} → Some x ≡ None → ⊥
no_some e = cc

neither : (o : Option Ty) (os : List (Option Ty)) → first_some (o ∷ os) ≡ None → (o ≡ None) × (first_some os ≡ None)
neither None os e = (refl, e)
neither (Some t) os e = absurd (no_some e)

-- The memory at a place gets other locals. A local that is read there has the same type as before.
module _ (i : ℕ) (f g : Frame) (grows : IsFrame f → IsFrame g) where
  abbrev IsSame : Name → Type 0
  IsSame x = local_in f x ≡ local_in g x

  -- a local isn't read, or is the same
  abbrev pub Stays : Term → Type 0
  Stays t = (x : Name) → (read_type (side.Memory i) x t ≡ None) ⊎ IsSame x

  abbrev AllStay : List Term → Type 0
  AllStay ts = (x : Name) → (first_some (map (read_type (side.Memory i) x) ts) ≡ None) ⊎ IsSame x

  first_stays : (t : Term) (ts : List Term) → AllStay (t ∷ ts) → Stays t
  first_stays t ts s x = step (s x)
    where
      step : (first_some (map (read_type (side.Memory i) x) (t ∷ ts)) ≡ None) ⊎ IsSame x → (read_type (side.Memory i) x t ≡ None) ⊎ IsSame x
      step (inl e) = inl (neither (read_type (side.Memory i) x t) (map (read_type (side.Memory i) x) ts) e).0
      step (inr e) = inr e

  others_stay : (t : Term) (ts : List Term) → AllStay (t ∷ ts) → AllStay ts
  others_stay t ts s x = step (s x)
    where
      step : (first_some (map (read_type (side.Memory i) x) (t ∷ ts)) ≡ None) ⊎ IsSame x → (first_some (map (read_type (side.Memory i) x) ts) ≡ None) ⊎ IsSame x
      step (inl e) = inl (neither (read_type (side.Memory i) x t) (map (read_type (side.Memory i) x) ts) e).1
      step (inr e) = inr e

  -- by the head of a term, and its arguments
  module _ (h : Head) (n : _) (ts : _) (ty : Ty) (s : Stays (Term' tt (more_of-Head h end_of-Head) n ts ty)) where
    by_parts : (x : Name) → ((if reads_local (side.Memory i) x h then Some ty else first_some (map (read_type (side.Memory i) x) (terms_in ts))) ≡ None) ⊎ IsSame x
    by_parts x = step (s x)
      where
        step : (read_type (side.Memory i) x (Term' tt (more_of-Head h end_of-Head) n ts ty) ≡ None) ⊎ IsSame x →
            ((if reads_local (side.Memory i) x h then Some ty else first_some (map (read_type (side.Memory i) x) (terms_in ts))) ≡ None) ⊎ IsSame x
        step (inl e) = inl (sym (found_is i x h n ts ty) ∙ e)
        step (inr e) = inr e

    head_stays : (x : Name) → reads_local (side.Memory i) x h ≡ true → IsSame x
    head_stays x e = step (reads_local (side.Memory i) x h) e (by_parts x)
      where
        step : (b : Bool) → b ≡ true → ((if b then Some ty else first_some (map (read_type (side.Memory i) x) (terms_in ts))) ≡ None) ⊎ IsSame x → IsSame x
        step true e (inl k) = absurd (no_some k)
        step true e (inr k) = k
        step false e k = absurd (false≢true e)

    args_stay : AllStay (terms_in ts)
    args_stay x = step (reads_local (side.Memory i) x h) (by_parts x)
      where
        step : (b : Bool) → ((if b then Some ty else first_some (map (read_type (side.Memory i) x) (terms_in ts))) ≡ None) ⊎ IsSame x → (first_some (map (read_type (side.Memory i) x) (terms_in ts)) ≡ None) ⊎ IsSame x
        step true (inl k) = absurd (no_some k)
        step false (inl k) = inl k
        step b (inr k) = inr k

  is_read : (x : Name) → reads_local (side.Memory i) x (head.Read (Program (var.Local x) (side.Memory i))) ≡ true
  is_read x = λ z. ((side_eq-Decides (side.Memory i) (side.Memory i)).1 refl z) && ((bytes_eq-Decides x x).1 refl z)

  -- the locals of the other memories stay
  pub record Grown (ms ns : List Frame) : Type 0 where
    pub as_many : length ms ≡ length ns
    pub before : get_or ms i None ≡ f
    pub now : get_or ns i None ≡ g
    pub others : (j : ℕ) → (i ≡ j → ⊥) → get_or ms j None ≡ get_or ns j None

  module _ (c : Context) (ns : List Frame) (w : Grown c.named ns) where
    frame_there : (j : ℕ) → IsFrame (get_or c.named j None) → IsFrame (get_or ns j None)
    frame_there j k = step (i == j) refl
      where
        step : (b : Bool) → (i == j) ≡ b → IsFrame (get_or ns j None)
        step true e =
            let same = (Decides-eqb i j).0 e in
            subst (λ z. IsFrame (get_or ns z None)) same (subst IsFrame (sym w.now) (grows (subst IsFrame w.before (subst (λ z. IsFrame (get_or c.named z None)) (sym same) k))))
        step false e = subst IsFrame (w.others j (λ z. false≢true (sym e ∙ (Decides-eqb i j).1 z))) k

    side_frame : (r : Side) → IsFrame (frame_of c r) → IsFrame (frame_of (with_named c ns) r)
    side_frame side.Own k = k
    side_frame side.Left k = k
    side_frame side.Right k = k
    side_frame (side.Memory j) k = frame_there j k
    side_frame (side.Bound j) k = k

    side_there : (r : Side) → typed.IsSide (erased c) r → typed.IsSide (erased (with_named c ns)) r
    side_there side.Own k = k
    side_there side.Left k = k
    side_there side.Right k = k
    side_there (side.Memory j) k = subst (λ m. j < m) w.as_many k
    side_there (side.Bound j) k = k

    local_there : (x : Name) (j : ℕ) (t : Ty) → (reads_local (side.Memory i) x (head.Read (Program (var.Local x) (side.Memory j))) ≡ true → IsSame x) → local_in (get_or c.named j None) x ≡ Some t → local_in (get_or ns j None) x ≡ Some t
    local_there x j t s k = step (i == j) refl
      where
        step : (b : Bool) → (i == j) ≡ b → local_in (get_or ns j None) x ≡ Some t
        step true e =
            let same = (Decides-eqb i j).0 e in
            let read = subst (λ z. reads_local (side.Memory i) x (head.Read (Program (var.Local x) (side.Memory z))) ≡ true) same (is_read x) in
            subst (λ z. local_in (get_or ns z None) x ≡ Some t) same
            (ap (λ z. local_in z x) w.now ∙ sym (s read) ∙ sym (ap (λ z. local_in z x) w.before) ∙ subst (λ z. local_in (get_or c.named z None) x ≡ Some t) (sym same) k)
        step false e = sym (ap (λ z. local_in z x) (w.others j (λ z. false≢true (sym e ∙ (Decides-eqb i j).1 z)))) ∙ k

    read_there : (x : Var) (r : Side) (t : Ty) → ((y : Name) → reads_local (side.Memory i) y (head.Read (Program x r)) ≡ true → IsSame y) → IsNamed c (head.Read (Program x r)) t → IsNamed (with_named c ns) (head.Read (Program x r)) t
    read_there (var.Local x) (side.Memory j) t s k = local_there x j t (s x) k
    read_there (var.Local x) side.Own t s k = k
    read_there (var.Local x) side.Left t s k = k
    read_there (var.Local x) side.Right t s k = k
    read_there (var.Local x) (side.Bound j) t s k = k
    read_there (var.Global m x) r t s k = (side_frame r k.0, k.1)
    read_there (var.Glob a) r t s k = (side_frame r k.0, k.1, k.2)

    head_named : (h : Head) (t : Ty) → ((y : Name) → reads_local (side.Memory i) y h ≡ true → IsSame y) → IsNamed c h t → IsNamed (with_named c ns) h t
    head_named (head.Read (Program x r)) t s k = read_there x r t s k
    head_named (head.Read (Logical j)) t s k = tt
    head_named (head.Pr p r) t s k = (side_frame r k.0, k.1, k.2)
    head_named _ t s k = k

    head_typed : (h : Head) (us : List Ty) (t : Ty) → IsHead (erased c) h us t → IsNamed c h t → IsHead (erased (with_named c ns)) h us t
    head_typed (head.Read (Logical j)) [] t k n = k
    head_typed (head.Read (Program (var.Global m x) r)) [] t k n = (side_there r k.0, k.1, k.2)
    head_typed (head.Read (Program (var.Local x) r)) [] t k n = (side_there r k.0, k.1)
    head_typed (head.Read (Program (var.Glob a) r)) [] t k n = (side_there r k.0, k.1)
    head_typed (head.Read r) (u ∷ us) t k n = absurd k
    head_typed (head.Pr p r) us t k n = (k.0, side_there r k.1, k.2)
    head_typed (head.Glob m r) us t k n = absurd n
    head_typed h us t k n = k

    first_same : (h : Head) → with_named (first c h) ns ≡ first (with_named c ns) h
    first_same (head.Hoare j) = refl
    first_same (head.Phoare j r) = refl
    first_same (head.Equiv j l) = refl
    first_same _ = refl

    middle_same : (h : Head) → with_named (middle c h) ns ≡ middle (with_named c ns) h
    middle_same (head.Hoare j) = refl
    middle_same (head.Phoare j r) = refl
    middle_same (head.Equiv j l) = refl
    middle_same _ = refl

    last_same : (ls : List TypedName) (h : Head) (us : List Ty) → with_named (last c ls h us) ns ≡ last (with_named c ns) ls h us
    last_same ls (head.All u) us = refl
    last_same ls (head.Some u) us = refl
    last_same ls head.AllMemory us = refl
    last_same ls head.SomeMemory us = refl
    last_same ls (head.AllModule b) us = refl
    last_same ls (head.Sum u) us = refl
    last_same ls head.Mu [] = refl
    last_same ls head.Mu (u ∷ us) = refl
    last_same ls head.Map [] = refl
    last_same ls head.Map (u ∷ us) = refl
    last_same ls head.Restrict [] = refl
    last_same ls head.Restrict (u ∷ us) = refl
    last_same ls (head.Pr p m) us = refl
    last_same ls (head.Hoare j) us = refl
    last_same ls (head.Phoare j r) us = refl
    last_same ls (head.Equiv j l) us = refl
    last_same ls _ us = refl

  mutual
    term_grows : (c : Context) (ns : List Frame) → Grown c.named ns → (t : Term) → IsTyped c t → Stays t → IsTyped (with_named c ns) t
    term_grows c ns w (Term' tt (more_of-Head h end_of-Head) n ts ty) k s =
        let l = last c k.2 h (types_of ts) in
        let parts =
        rows_grow (first c h) (middle c h) l ns (subst (λ ms. Grown ms ns) (sym (first_named c h)) w) (subst (λ ms. Grown ms ns) (sym (middle_named c h)) w)
        (subst (λ ms. Grown ms ns) (sym (last_named c k.2 h (types_of ts))) w) ts k.3 (args_stay h n ts ty s) in (
          head_typed c ns w h (types_of ts) ty k.0 k.1,
          head_named c ns w h ty (head_stays h n ts ty s) k.1,
          k.2,
          subst (λ a. AreTyped a (middle (with_named c ns) h) (last (with_named c ns) k.2 h (types_of ts)) ts) (first_same c ns w h)
              (subst (λ b. AreTyped (with_named (first c h) ns) b (last (with_named c ns) k.2 h (types_of ts)) ts) (middle_same c ns w h)
              (subst (λ d. AreTyped (with_named (first c h) ns) (with_named (middle c h) ns) d ts) (last_same c ns w k.2 h (types_of ts)) parts)),
        )

    rows_grow : {n : Count} (a b d : Context) (ns : List Frame) → Grown a.named ns → Grown b.named ns → Grown d.named ns → (ts : Row_of-Term n) → AreTyped a b d ts → AllStay (terms_in ts) →
        AreTyped (with_named a ns) (with_named b ns) (with_named d ns) ts
    rows_grow a b d ns u v w end_of-Term k s = tt
    rows_grow a b d ns u v w (more_of-Term t end_of-Term) k s = term_grows d ns w t k (first_stays t [] s)
    rows_grow a b d ns u v w (more_of-Term t (more_of-Term x ts)) k s =
        (term_grows a ns u t k.0 (first_stays t (terms_in (more_of-Term x ts)) s), rows_grow b b d ns v v w (more_of-Term x ts) k.1 (others_stay t (terms_in (more_of-Term x ts)) s))

  pub form_grows : (c : Context) (ns : List Frame) → Grown c.named ns → (h : Term) → IsForm c h → Stays h → IsForm (with_named c ns) h
  form_grows c ns w h k s = record { typed = term_grows c ns w h k.typed s; truth = k.truth }

-- The locals of a memory, and further ones which the goal doesn't read there.
module _ (i : ℕ) (q : Sequent) where
  abbrev found : Name → Option Ty
  found x = goal_read_type (side.Memory i) x q

  abbrev unless_read : Option Ty → TypedName → List TypedName → List TypedName
  unless_read None v vs = v ∷ vs
  unless_read (Some t) v vs = vs

  abbrev pub unread : List TypedName → List TypedName
  unread [] = []
  unread (v ∷ vs) = unless_read (found v.name) v (unread vs)

  -- a local that the goal reads is the same
  pub read_same : (fs ls : List TypedName) (x : Name) (u : Ty) → found x ≡ Some u → local_type (unread ls ++ fs) x ≡ local_type fs x
  read_same fs [] x u e = refl
  read_same fs (v ∷ vs) x u e = step (found v.name) refl (read_same fs vs x u e)
    where
      by_name : (b : Bool) → bytes_eq x v.name ≡ b → found v.name ≡ None → local_type (unread vs ++ fs) x ≡ local_type fs x → (if b then Some v.ty else local_type (unread vs ++ fs) x) ≡ local_type fs x
      by_name true k n rest = absurd (no_some (sym e ∙ ap found ((bytes_eq-Decides x v.name).0 k) ∙ n))
      by_name false k n rest = rest

      step : (o : Option Ty) → found v.name ≡ o → local_type (unread vs ++ fs) x ≡ local_type fs x → local_type (unless_read o v (unread vs) ++ fs) x ≡ local_type fs x
      step None n rest = by_name (bytes_eq x v.name) refl n rest
      step (Some t) n rest = rest

  -- another one has its type among the further ones
  pub added : (fs ls : List TypedName) (x : Name) (u : Ty) → found x ≡ None → local_type ls x ≡ Some u → local_type (unread ls ++ fs) x ≡ Some u
  added fs [] x u e k = cc
  added fs (v ∷ vs) x u e k = step (found v.name) refl (bytes_eq x v.name) refl (added fs vs x u e) k
    where
      step : (o : Option Ty) → found v.name ≡ o → (b : Bool) → bytes_eq x v.name ≡ b → (local_type vs x ≡ Some u → local_type (unread vs ++ fs) x ≡ Some u) → (if b then Some v.ty else local_type vs x) ≡ Some u →
          local_type (unless_read o v (unread vs) ++ fs) x ≡ Some u
      step None n true w rest k = (λ z. if w z then Some v.ty else local_type (unread vs ++ fs) x) ∙ k
      step None n false w rest k = (λ z. if w z then Some v.ty else local_type (unread vs ++ fs) x) ∙ rest k
      step (Some t) n true w rest k = absurd (no_some (sym (ap found ((bytes_eq-Decides x v.name).0 w) ∙ n) ∙ e))
      step (Some t) n false w rest k = rest k
