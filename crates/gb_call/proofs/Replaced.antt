-- Terms in place of variables of the own memory and of both sides, in a form that is said of some memories and then of other ones, inside of
-- binders: typing and meaning.
use Rattle.std.proofs.Common.{◌≡◌, ◌&&◌, Bool, true, false, ℕ, List, [], ◌∷◌, ◌++◌, inr, Option, Some, None, refl, ap, sym, ◌∙◌, subst}
use Rattle.std.proofs.lemmas.Bool.{false≢true}
use Rattle.std.specs.List.{AllByRecursion}
use Rattle.gb_core.specs.declared.ty.Ty.{Ty}
use Rattle.gb_core.specs.declared.var.Var.{Var}
use Rattle.gb_core.specs.declared.var.Var.TheVariants as var
use Rattle.gb_terms.specs.declared.op.Side.{Side}
use Rattle.gb_terms.specs.declared.op.Side.TheVariants as side
use Rattle.gb_terms.specs.declared.op.Read.{Read}
use Rattle.gb_terms.specs.declared.op.Read.TheVariants.{Logical, Program}
use Rattle.gb_terms.specs.declared.term.Term.{Term}
use Rattle.gb_terms.specs.declared.term.Head.TheVariants as head
use Rattle.gb_terms.specs.Equal.{var_eq}
use Rattle.gb_walk.specs.declared.change.Change.{Change}
use Rattle.gb_walk.specs.declared.change.Change.TheVariants.{ToTerm, OfBound, ToSide}
use Rattle.gb_walk.specs.Change.{Changes, or_later, found_for_read, side_changed, read_changed, term_changed, is_own, is_left_or_right}
use Rattle.gb_meaning.specs.Memory.{read}
use Rattle.gb_meaning.specs.Meanings.{truth}
use Rattle.gb_meaning.specs.Setting.{Setting}
use Rattle.gb_meaning.specs.Setting.Meaning.{finite}
use Rattle.gb_meaning.specs.State.{State, memory_of}
use Rattle.gb_meaning.specs.Terms.{Speaks, read_at}
use Rattle.gb_meaning.specs.Judgments.{Judge, IsFair, speaking, den}
use Rattle.gb_laws.specs.Led.{put, ArePut, IgnoresOwn, IgnoresSides, Enters, Led}
use Rattle.gb_laws.specs.Uses.Use.{read as reads, bound, globals, starts, binds_own, binds_sides}
use Rattle.gb_laws.specs.Plain.{IsPlain}
use Rattle.gb_laws.specs.Written.{IsSide}
use Rattle.gb_laws.proofs.Forms.{form_followed}
use Rattle.gb_laws.specs.Typing.{Binder}
use Rattle.gb_typing.specs.Context.{Context, Frame, frame_of, reframed}
use Rattle.gb_typing.specs.Changes.{IsLeaf, Made, Becomes, IsMemoryIn, Leads}
use Rattle.gb_typing.specs.Fits.{IsSettingOf}
use Rattle.gb_typing.specs.Puts.{Keeps}
use Rattle.gb_typing.specs.Typing.{IsFrame, IsPlace, IsIn, IsForm}
use Rattle.gb_typing.proofs.Changed.{changed}
use Rattle.gb_typing.proofs.Fitting.{fits_reframed}
use Rattle.gb_typing.proofs.Formed.{formed}
use Rattle.gb_typing.proofs.Sound.{procedures_sound, sound_form}
use Rattle.gb_typing.proofs.Uses.{nothing_in, reads_in, reads_found, uses_of, uses_typed}
use Rattle.gb_typing.specs.Rules.{outermost}

-- a term in place of a variable of one of these memories
abbrev pub IsPlaced : Change → Type 0
IsPlaced (ToTerm (Program x side.Own) t) = Unit {0}
IsPlaced (ToTerm (Program x side.Left) t) = Unit {0}
IsPlaced (ToTerm (Program x side.Right) t) = Unit {0}
IsPlaced _ = ⊥

abbrev pub ArePlaced : Changes → Type 0
ArePlaced cs = AllByRecursion IsPlaced cs

pub both_placed : (cs ds : Changes) → ArePlaced cs → ArePlaced ds → ArePlaced (cs ++ ds)
both_placed [] ds h k = k
both_placed (c ∷ cs) ds h k = (h.0, both_placed cs ds h.1 k)

pub skipped : (b : Bool) (t : Term) (o : Option Term) → or_later (b && false) t o ≡ o
skipped true t o = refl
skipped false t o = refl

side_kept : (cs : Changes) → ArePlaced cs → (s : Side) → side_changed cs s ≡ s
side_kept [] h s = refl
side_kept (ToTerm r t ∷ cs) h s = side_kept cs h.1 s
side_kept (OfBound i t ∷ cs) h s = absurd h.0
side_kept (ToSide a b ∷ cs) h s = absurd h.0

logical_kept : (cs : Changes) → ArePlaced cs → (i : ℕ) → found_for_read cs (Logical i) ≡ None
logical_kept [] h i = refl
logical_kept (ToTerm (Program x r) t ∷ cs) h i = logical_kept cs h.1 i
logical_kept (ToTerm (Logical k) t ∷ cs) h i = absurd h.0
logical_kept (OfBound j t ∷ cs) h i = absurd h.0
logical_kept (ToSide a b ∷ cs) h i = absurd h.0

memory_kept : (cs : Changes) → ArePlaced cs → (x : Var) (i : ℕ) → found_for_read cs (Program x (side.Memory i)) ≡ None
memory_kept [] h x i = refl
memory_kept (ToTerm (Program y side.Own) t ∷ cs) h x i = skipped (var_eq y x) t (found_for_read cs (Program x (side.Memory i))) ∙ memory_kept cs h.1 x i
memory_kept (ToTerm (Program y side.Left) t ∷ cs) h x i = skipped (var_eq y x) t (found_for_read cs (Program x (side.Memory i))) ∙ memory_kept cs h.1 x i
memory_kept (ToTerm (Program y side.Right) t ∷ cs) h x i = skipped (var_eq y x) t (found_for_read cs (Program x (side.Memory i))) ∙ memory_kept cs h.1 x i
memory_kept (ToTerm (Program y (side.Memory k)) t ∷ cs) h x i = absurd h.0
memory_kept (ToTerm (Program y (side.Bound k)) t ∷ cs) h x i = absurd h.0
memory_kept (ToTerm (Logical k) t ∷ cs) h x i = absurd h.0
memory_kept (OfBound j t ∷ cs) h x i = absurd h.0
memory_kept (ToSide a b ∷ cs) h x i = absurd h.0

-- What takes the place of a variable doesn't look at the memories that are bound where that variable's memory isn't.
abbrev pub IsFree : Setting → Speaks → Change → Type 0
IsFree g j (ToTerm (Program x side.Own) t) = IgnoresSides g j t
IsFree g j (ToTerm (Program x side.Left) t) = IgnoresOwn g j t
IsFree g j (ToTerm (Program x side.Right) t) = IgnoresOwn g j t
IsFree g j _ = Unit {0}

-- nothing is captured where memories are bound
enters_own : (g : Setting) (j : Speaks) (cs : Changes) → ArePlaced cs → AllByRecursion (IsFree g j) cs → Enters (IgnoresOwn g j) is_own cs
enters_own g j [] h k = tt
enters_own g j (ToTerm (Program x side.Own) t ∷ cs) h k = ((λ e. absurd (false≢true (sym e))), enters_own g j cs h.1 k.1)
enters_own g j (ToTerm (Program x side.Left) t ∷ cs) h k = ((λ e. k.0), enters_own g j cs h.1 k.1)
enters_own g j (ToTerm (Program x side.Right) t ∷ cs) h k = ((λ e. k.0), enters_own g j cs h.1 k.1)
enters_own g j (ToTerm (Program x (side.Memory n)) t ∷ cs) h k = absurd h.0
enters_own g j (ToTerm (Program x (side.Bound n)) t ∷ cs) h k = absurd h.0
enters_own g j (ToTerm (Logical n) t ∷ cs) h k = absurd h.0
enters_own g j (OfBound i t ∷ cs) h k = absurd h.0
enters_own g j (ToSide a d ∷ cs) h k = absurd h.0

enters_sides : (g : Setting) (j : Speaks) (cs : Changes) → ArePlaced cs → AllByRecursion (IsFree g j) cs → Enters (IgnoresSides g j) is_left_or_right cs
enters_sides g j [] h k = tt
enters_sides g j (ToTerm (Program x side.Own) t ∷ cs) h k = ((λ e. k.0), enters_sides g j cs h.1 k.1)
enters_sides g j (ToTerm (Program x side.Left) t ∷ cs) h k = ((λ e. absurd (false≢true (sym e))), enters_sides g j cs h.1 k.1)
enters_sides g j (ToTerm (Program x side.Right) t ∷ cs) h k = ((λ e. absurd (false≢true (sym e))), enters_sides g j cs h.1 k.1)
enters_sides g j (ToTerm (Program x (side.Memory n)) t ∷ cs) h k = absurd h.0
enters_sides g j (ToTerm (Program x (side.Bound n)) t ∷ cs) h k = absurd h.0
enters_sides g j (ToTerm (Logical n) t ∷ cs) h k = absurd h.0
enters_sides g j (OfBound i t ∷ cs) h k = absurd h.0
enters_sides g j (ToSide a d ∷ cs) h k = absurd h.0

-- From memories with these locals, where no binder is around, to some with those inside of these binders.
module _ (b : Context) (C D E F G H : Frame) (bs : List Binder) (fs : List Frame) where
  abbrev pub source : Context
  source = reframed (outermost b) C D E

  abbrev pub target : Context
  target = record (reframed (outermost b) F G H) { bound = bs; frames = fs }

  -- A plain term of the variable's type, well typed wherever its memory is the new one; or the variable is there.
  abbrev pub Replaces : Side → Var → Ty → Option Term → Type 0
  Replaces r x t (Some e) = IsPlain e × ((f l k : Frame) → Keeps (Program x r) target f l k → Made (reframed target f l k) t e)
  Replaces r x t None = IsIn target (frame_of target r) x t

  module _ (cs : Changes) (placed : ArePlaced cs) (here : (r : Side) → IsSide r → IsFrame (frame_of source r) → IsFrame (frame_of target r))
      (typed : (r : Side) → IsSide r → (x : Var) (t : Ty) → IsIn source (frame_of source r) x t → Replaces r x t (found_for_read cs (Program x r))) where
    stays : (r : Side) → IsSide r → (x : Var) (t : Ty) → IsLeaf source (head.Read (Program x r)) t → IsIn target (frame_of target r) x t → IsLeaf target (head.Read (Program x r)) t
    stays side.Own i (var.Local x) t w k = ((tt, w.0.1), k)
    stays side.Own i (var.Global m x) t w k = ((tt, w.0.1, w.0.2), k)
    stays side.Own i (var.Glob a) t w k = ((tt, w.0.1), k)
    stays side.Left i (var.Local x) t w k = ((tt, w.0.1), k)
    stays side.Left i (var.Global m x) t w k = ((tt, w.0.1, w.0.2), k)
    stays side.Left i (var.Glob a) t w k = ((tt, w.0.1), k)
    stays side.Right i (var.Local x) t w k = ((tt, w.0.1), k)
    stays side.Right i (var.Global m x) t w k = ((tt, w.0.1, w.0.2), k)
    stays side.Right i (var.Glob a) t w k = ((tt, w.0.1), k)
    stays (side.Memory n) i x t w k = absurd i
    stays (side.Bound n) i x t w k = absurd i

    placed_read : (r : Side) → IsSide r → (x : Var) (t : Ty) → IsLeaf source (head.Read (Program x r)) t → (o : Option Term) → Replaces r x t o → Becomes true target t (Program x r) o (head.Read (Program x r))
    placed_read r i x t w None k = stays r i x t w k
    placed_read r i x t w (Some e) k = (k.0, λ f l h keeps same. k.1 f l h keeps)

    named_read : (x : Var) (i : ℕ) (t : Ty) → IsLeaf source (head.Read (Program x (side.Memory i))) t → IsLeaf target (head.Read (Program x (side.Memory i))) t
    named_read (var.Local x) i t w = w
    named_read (var.Global m x) i t w = w
    named_read (var.Glob a) i t w = w

    at_side : (r : Side) → IsSide r → (x : Var) (t : Ty) → IsIn source (frame_of source r) x t → IsLeaf source (head.Read (Program x r)) t →
        Becomes true target t (Program x r) (found_for_read cs (Program x r)) (head.Read (read_changed cs (Program x r)))
    at_side r i x t k w =
        subst (λ s. Becomes true target t (Program x r) (found_for_read cs (Program x r)) (head.Read (Program x s))) (sym (side_kept cs placed r))
        (placed_read r i x t w (found_for_read cs (Program x r)) (typed r i x t k))

    of_read : (r : Read) (t : Ty) → IsLeaf source (head.Read r) t → Becomes true target t r (found_for_read cs r) (head.Read (read_changed cs r))
    of_read (Logical i) t w = subst (λ o. Becomes true target t (Logical i) o (head.Read (Logical i))) (sym (logical_kept cs placed i)) w
    of_read (Program x side.Own) t w = at_side side.Own tt x t w.1 w
    of_read (Program x side.Left) t w = at_side side.Left tt x t w.1 w
    of_read (Program x side.Right) t w = at_side side.Right tt x t w.1 w
    of_read (Program x (side.Memory i)) t w =
        subst (λ s. Becomes true target t (Program x (side.Memory i)) (found_for_read cs (Program x (side.Memory i))) (head.Read (Program x s))) (sym (side_kept cs placed (side.Memory i)))
        (subst (λ o. Becomes true target t (Program x (side.Memory i)) o (head.Read (Program x (side.Memory i)))) (sym (memory_kept cs placed x i)) (named_read x i t w))
    of_read (Program x (side.Bound i)) t w = absurd (nothing_in source x t w.1)

    of_side : (r : Side) → IsMemoryIn source r → IsMemoryIn target r
    of_side side.Own k = (tt, here side.Own tt k.1)
    of_side side.Left k = (tt, here side.Left tt k.1)
    of_side side.Right k = (tt, here side.Right tt k.1)
    of_side (side.Memory i) k = k
    of_side (side.Bound i) k = absurd k.0

    leads : Leads true cs source target
    leads = record {
      reads = of_read;
      bounds = λ i t k. absurd k;
      sides = λ r k. subst (IsMemoryIn target) (sym (side_kept cs placed r)) (of_side r k);
      places = λ r k. subst IsPlace (sym (side_kept cs placed r)) k;
      global = λ m x t e. e;
      operator = λ n o e. e;
      procedure = λ q. refl;
      has_globals = λ a e. e;
    }

    -- what is said of the first memories is said of the second ones
    pub replaced_typed : (f : Term) → IsForm source f → IsForm target (term_changed f cs)
    replaced_typed f w =
        let m =
        changed true f cs source target leads
        (inr (record { own = λ r e. subst (λ s. is_own s ≡ false) (sym (side_kept cs placed r)) e; sides = λ r e. subst (λ s. is_left_or_right s ≡ false) (sym (side_kept cs placed r)) e }, refl)) w.typed in
        record { typed = m.typed; truth = m.written ∙ w.truth }

  no_bound : (x : Var) (t : Ty) {A : Type 0} → reads_in source None x t ≡ true → A
  no_bound x t e = absurd (nothing_in source x t (reads_found source None x t e))

  -- Where no binder is around, each variable that may be read has in the second memories the value of what takes its place in the first ones.
  module _ (cs : Changes) (placed : ArePlaced cs) (g : Setting) (j : Judge) (s q : State) (named : (i : ℕ) → s.named i ≡ q.named i) (logical : (i : ℕ) → s.logical i ≡ q.logical i)
      (same : (r : Side) → IsSide r → (x : Var) (t : Ty) → IsIn source (frame_of source r) x t →
      put g (speaking g j) (found_for_read cs (Program x r)) (finite (read g.types (memory_of s r) x t)) s ≡ finite (read g.types (memory_of q r) x t)) (free : AllByRecursion (IsFree g (speaking g j)) cs) where
    abbrev j1 : Speaks
    j1 = speaking g j

    placed_led : (r : Side) → IsSide r → (x : Var) (t : Ty) → reads_in source (frame_of source r) x t ≡ true →
        put g j1 (found_for_read cs (Program x r)) (read_at g (Program x (side_changed cs r)) t s) s ≡ finite (read g.types (memory_of q r) x t)
    placed_led r i x t k =
        ap (λ o. put g j1 (found_for_read cs (Program x r)) (read_at g (Program x o) t s) s) (side_kept cs placed r) ∙ same r i x t (reads_found source (frame_of source r) x t k)

    led : Led g j1 cs (uses_of source) s q
    led (reads (Logical i) t) k = ap (λ o. put g j1 o (s.logical i) s) (logical_kept cs placed i) ∙ logical i
    led (reads (Program x side.Own) t) k = placed_led side.Own tt x t k
    led (reads (Program x side.Left) t) k = placed_led side.Left tt x t k
    led (reads (Program x side.Right) t) k = placed_led side.Right tt x t k
    led (reads (Program x (side.Memory i)) t) k =
        (λ z. put g j1 (memory_kept cs placed x i z) (read_at g (Program x (side_kept cs placed (side.Memory i) z)) t s) s) ∙ ap (λ m. finite (read g.types m x t)) (named i)
    led (reads (Program x (side.Bound i)) t) k = no_bound x t k
    led (bound i) k = absurd (false≢true k)
    led (globals x r) k = absurd (false≢true k)
    led (starts side.Own) k = absurd (false≢true k)
    led (starts side.Left) k = absurd (false≢true k)
    led (starts side.Right) k = absurd (false≢true k)
    led (starts (side.Memory i)) k = ap (memory_of s) (side_kept cs placed (side.Memory i)) ∙ named i
    led (starts (side.Bound i)) k = absurd (false≢true k)
    led binds_own k = enters_own g j1 cs placed free
    led binds_sides k = enters_sides g j1 cs placed free

    -- it says of the first memories what the form says of the second ones
    pub replaced_meaning : IsSettingOf (outermost b) g → IsFair g j → ArePut g cs → (f : Term) → IsForm source f → den g j (term_changed f cs) s ≡ den g j f q
    replaced_meaning fits fair puts f w =
        ap truth (form_followed g j fair f (formed source f w.typed) (sound_form g source (procedures_sound source g (fits_reframed (outermost b) g fits C D E)) f w.typed) cs
        (uses_of source) s q puts led (uses_typed source f w.typed))

-- Of one memory, the own one.
module _ (b : Context) (C F : Frame) (bs : List Binder) (fs : List Frame) where
  pub own_here : (IsFrame C → IsFrame F) → (r : Side) → IsSide r → IsFrame (frame_of (source b C None None F None None bs fs) r) → IsFrame (frame_of (target b C None None F None None bs fs) r)
  own_here h side.Own i k = h k
  own_here h side.Left i k = absurd k
  own_here h side.Right i k = absurd k
  own_here h (side.Memory n) i k = absurd i
  own_here h (side.Bound n) i k = absurd i

  -- what holds of its variables holds of all
  pub own_variables : (P : Side → Var → Ty → Type 0) → ((x : Var) (t : Ty) → IsIn (source b C None None F None None bs fs) C x t → P side.Own x t) →
      (r : Side) → IsSide r → (x : Var) (t : Ty) → IsIn (source b C None None F None None bs fs) (frame_of (source b C None None F None None bs fs) r) x t → P r x t
  own_variables P h side.Own i x t k = h x t k
  own_variables P h side.Left i x t k = absurd (nothing_in (source b C None None F None None bs fs) x t k)
  own_variables P h side.Right i x t k = absurd (nothing_in (source b C None None F None None bs fs) x t k)
  own_variables P h (side.Memory n) i x t k = absurd i
  own_variables P h (side.Bound n) i x t k = absurd i

-- Of both sides.
module _ (b : Context) (D E G H : Frame) (bs : List Binder) (fs : List Frame) where
  pub sides_here : (IsFrame D → IsFrame G) → (IsFrame E → IsFrame H) → (r : Side) → IsSide r → IsFrame (frame_of (source b None D E None G H bs fs) r) → IsFrame (frame_of (target b None D E None G H bs fs) r)
  sides_here h j side.Own i k = absurd k
  sides_here h j side.Left i k = h k
  sides_here h j side.Right i k = j k
  sides_here h j (side.Memory n) i k = absurd i
  sides_here h j (side.Bound n) i k = absurd i

  pub sides_variables : (P : Side → Var → Ty → Type 0) → ((x : Var) (t : Ty) → IsIn (source b None D E None G H bs fs) D x t → P side.Left x t) → ((x : Var) (t : Ty) → IsIn (source b None D E None G H bs fs) E x t → P side.Right x t) →
      (r : Side) → IsSide r → (x : Var) (t : Ty) → IsIn (source b None D E None G H bs fs) (frame_of (source b None D E None G H bs fs) r) x t → P r x t
  sides_variables P h j side.Own i x t k = absurd (nothing_in (source b None D E None G H bs fs) x t k)
  sides_variables P h j side.Left i x t k = h x t k
  sides_variables P h j side.Right i x t k = j x t k
  sides_variables P h j (side.Memory n) i x t k = absurd i
  sides_variables P h j (side.Bound n) i x t k = absurd i
