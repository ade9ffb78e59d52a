-- What is said before procedures, of the arguments and the memories from which they start: typing and meaning.
use Rattle.std.proofs.Common.{◌≡◌, true, false, List, [], ◌++◌, map, inr, Some, None, refl, ap, sym, ◌∙◌, subst}
use Rattle.std.proofs.lemmas.Bool.{false≢true}
use Rattle.std.proofs.lemmas.List.{append_assoc}
use Rattle.gb_core.specs.declared.ty.Ty.{Ty}
use Rattle.gb_core.specs.declared.value.Value.{Value}
use Rattle.gb_core.specs.declared.var.Var.{Var}
use Rattle.gb_core.specs.declared.var.Var.TheVariants as var
use Rattle.gb_terms.specs.declared.decl.TypedName.{TypedName}
use Rattle.gb_terms.specs.declared.op.Read.TheVariants.{Program}
use Rattle.gb_terms.specs.declared.op.Side.{Side}
use Rattle.gb_terms.specs.declared.op.Side.TheVariants as side
use Rattle.gb_terms.specs.declared.op.Side.TheVariants.{Own, Left, Right}
use Rattle.gb_terms.specs.declared.term.Term.{Term}
use Rattle.gb_terms.specs.declared.term.Head.TheVariants as head
use Rattle.gb_terms.specs.Equal.{side_eq}
use Rattle.gb_walk.specs.Change.{Changes, is_own, is_left_or_right, found_for_read, side_changed, term_changed}
use Rattle.gb_meaning.specs.Meanings.{value_in}
use Rattle.gb_meaning.specs.Memory.{Memory, arguments, read}
use Rattle.gb_meaning.specs.Names.{empty}
use Rattle.gb_meaning.specs.Setting.{Setting}
use Rattle.gb_meaning.specs.Setting.Meaning.{finite}
use Rattle.gb_meaning.specs.State.{State, at, between, memory_of}
use Rattle.gb_meaning.specs.Terms.{Speaks, val, read_at}
use Rattle.gb_meaning.specs.Judgments.{Judge, IsFair, speaking, den}
use Rattle.gb_laws.specs.Led.{put, IgnoresOwn, IgnoresSides}
use Rattle.gb_laws.specs.Plain.{IsPlain}
use Rattle.gb_laws.specs.Written.{IsSide}
use Rattle.gb_laws.proofs.Agreeing.{ignores_own, ignores_sides}
use Rattle.gb_typing.specs.Context.{Context, Frame, frame_of, with_own, with_sides}
use Rattle.gb_typing.specs.Changes.{IsLeaf, IsMemoryIn}
use Rattle.gb_typing.specs.Fits.{IsSettingOf, IsStateOf}
use Rattle.gb_typing.specs.Rules.{outermost}
use Rattle.gb_typing.specs.Typing.{IsFrame, IsIn, IsPlace, IsTyped, IsForm}
use Rattle.gb_typing.proofs.Formed.{formed}
use Rattle.gb_typing.proofs.Uses.{nothing_in, term_within, admits_besides_own, admits_besides_sides}
use Rattle.gb_steps.specs.Chances.{Chance}
use Rattle.gb_pr.specs.Started.{started, given_for}
use Rattle.gb_pr.proofs.Led.{source, Replaces, Begins, begun_typed, begun_means}
use Rattle.gb_pr.proofs.Starting.{AreGiven, starting, IsArgument, logical_found, other_found, global_found, globals_found, side_here, side_other, enters, are_put, found_argument, values}

-- a procedure with these parameters starts from the memory and the arguments of a probability
pub record IsStart (c : Context) (xs : List TypedName) (k : Chance) : Type 0 where
  pub memory : IsMemoryIn c k.memory
  pub place : IsPlace k.memory
  pub arguments : AreGiven c xs k.arguments

abbrev pub start_values : Setting → Judge → State → Chance → List Value
start_values g j s k = map (λ e. value_in (val g (speaking g j) e s)) k.arguments

-- the memory from which it starts
abbrev pub start_of : Setting → Judge → State → List TypedName → Chance → Memory
start_of g j s xs k = record { globals = (memory_of s k.memory).globals; frame = arguments empty xs (start_values g j s k) }

own_place : (m : Side) → IsPlace m → is_own m ≡ false
own_place (side.Memory i) p = refl
own_place (side.Bound i) p = refl
own_place side.Own p = absurd p
own_place side.Left p = absurd p
own_place side.Right p = absurd p

sides_place : (m : Side) → IsPlace m → is_left_or_right m ≡ false
sides_place (side.Memory i) p = refl
sides_place (side.Bound i) p = refl
sides_place side.Own p = absurd p
sides_place side.Left p = absurd p
sides_place side.Right p = absurd p

apart_place : (r : Side) → IsSide r → (m : Side) → IsPlace m → side_eq r m ≡ false
apart_place side.Own i (side.Memory n) p = refl
apart_place side.Own i (side.Bound n) p = refl
apart_place side.Left i (side.Memory n) p = refl
apart_place side.Left i (side.Bound n) p = refl
apart_place side.Right i (side.Memory n) p = refl
apart_place side.Right i (side.Bound n) p = refl
apart_place r i side.Own p = absurd p
apart_place r i side.Left p = absurd p
apart_place r i side.Right p = absurd p
apart_place (side.Memory k) i (side.Memory n) p = absurd i
apart_place (side.Memory k) i (side.Bound n) p = absurd i
apart_place (side.Bound k) i (side.Memory n) p = absurd i
apart_place (side.Bound k) i (side.Bound n) p = absurd i

module _ (b : Context) where
  abbrev c : Context
  c = outermost b

  ignoring_own : (g : Setting) (j : Speaks) (e : Term) → IsTyped c e → IsPlain e → IgnoresOwn g j e
  ignoring_own g j e w p = ignores_own g j e (formed c e w) p (term_within true _ (with_own c None) (admits_besides_own c) e (inr refl) w)

  ignoring_sides : (g : Setting) (j : Speaks) (e : Term) → IsTyped c e → IsPlain e → IgnoresSides g j e
  ignoring_sides g j e w p = ignores_sides g j e (formed c e w) p (term_within true _ (with_sides c None None) (admits_besides_sides c) e (inr refl) w)

  -- One memory becomes one of the context, with arguments in the places of parameters.
  module _ (F L K : Frame) (cs : Changes) (r : Side) (xs : List TypedName) (es : List Term) (m : Side) (rest : Changes) (ours : frame_of (source b F L K) r ≡ Some xs)
      (here : side_eq r r ≡ true) (memory : IsMemoryIn c m) (w : AreGiven c xs es)
      (found : (x : Var) → found_for_read cs (Program x r) ≡ found_for_read (starting r xs es m rest) (Program x r)) (led : side_changed cs r ≡ m)
      (none : (x : Var) → found_for_read rest (Program x r) ≡ None) where
    replaced : (x : Var) (t : Ty) → IsLeaf (source b F L K) (head.Read (Program x r)) t → Replaces b F L K cs r x t (found_for_read cs (Program x r))
    replaced (var.Local y) t k =
        let a : IsArgument c r m rest here xs es y t = found_argument c r m rest here xs es w y t (subst (λ f. IsIn (source b F L K) f (var.Local y) t) ours k.1) in
        subst (Replaces b F L K cs r (var.Local y) t) (sym (found (var.Local y) ∙ a.found)) (a.plain, a.typed, a.type)
    replaced (var.Global p z) t k =
        subst (Replaces b F L K cs r (var.Global p z) t) (sym (found (var.Global p z) ∙ global_found r m rest r xs es p z ∙ none (var.Global p z)))
        (subst (λ s. IsLeaf c (head.Read (Program (var.Global p z) s)) t) (sym led) ((memory.0, k.0.1, k.0.2), (memory.1, k.1.1)))
    replaced (var.Glob a) t k =
        subst (Replaces b F L K cs r (var.Glob a) t) (sym (found (var.Glob a) ∙ globals_found r m rest r xs es a ∙ none (var.Glob a)))
        (subst (λ s. IsLeaf c (head.Read (Program (var.Glob a) s)) t) (sym led) ((memory.0, k.0.1), (memory.1, k.1.1, k.1.2)))

    module _ (g : Setting) (fits : IsSettingOf c g) (j : Speaks) (s : State) (fit : IsStateOf c g s) where
      abbrev begun : Memory
      begun = record { globals = (memory_of s m).globals; frame = arguments empty xs (values c g j s es) }

      same : (x : Var) (t : Ty) → IsIn (source b F L K) (frame_of (source b F L K) r) x t →
          put g j (found_for_read cs (Program x r)) (read_at g (Program x (side_changed cs r)) t s) s ≡ finite (read g.types begun x t)
      same (var.Local y) t k =
          let a : IsArgument c r m rest here xs es y t = found_argument c r m rest here xs es w y t (subst (λ f. IsIn (source b F L K) f (var.Local y) t) ours k) in
          ap (λ o. put g j o (read_at g (Program (var.Local y) (side_changed cs r)) t s) s) (found (var.Local y) ∙ a.found) ∙ a.value g fits j s fit empty
      same (var.Global p z) t k =
          (λ i. put g j ((found (var.Global p z) ∙ global_found r m rest r xs es p z ∙ none (var.Global p z)) i) (read_at g (Program (var.Global p z) (led i)) t s) s)
      same (var.Glob a) t k =
          (λ i. put g j ((found (var.Glob a) ∙ globals_found r m rest r xs es a ∙ none (var.Glob a)) i) (read_at g (Program (var.Glob a) (led i)) t s) s)

  -- Of one procedure.
  module _ (xs : List TypedName) (es : List Term) (m : Side) (memory : IsMemoryIn c m) (place : IsPlace m) (w : AreGiven c xs es) where
    abbrev one_changes : Changes
    one_changes = starting Own xs es m []

    one_reads : (r : Side) → IsSide r → (x : Var) (t : Ty) → IsLeaf (source b (Some xs) None None) (head.Read (Program x r)) t → Replaces b (Some xs) None None one_changes r x t (found_for_read one_changes (Program x r))
    one_reads side.Own i x t k = replaced (Some xs) None None one_changes Own xs es m [] refl refl memory w (λ y. refl) (side_here Own m [] refl xs es) (λ y. refl) x t k
    one_reads side.Left i x t k = absurd (nothing_in (source b (Some xs) None None) x t k.1)
    one_reads side.Right i x t k = absurd (nothing_in (source b (Some xs) None None) x t k.1)
    one_reads (side.Memory n) i x t k = absurd i
    one_reads (side.Bound n) i x t k = absurd i

    one_sides : (r : Side) → IsSide r → IsFrame (frame_of (source b (Some xs) None None) r) → IsMemoryIn c (side_changed one_changes r)
    one_sides side.Own i k = subst (IsMemoryIn c) (sym (side_here Own m [] refl xs es)) memory
    one_sides side.Left i k = absurd k
    one_sides side.Right i k = absurd k
    one_sides (side.Memory n) i k = absurd i
    one_sides (side.Bound n) i k = absurd i

    one_own : (r : Side) → is_own r ≡ false → is_own (side_changed one_changes r) ≡ false
    one_own side.Own e = absurd (false≢true (sym e))
    one_own side.Left e = ap is_own (side_other Own m [] Left refl xs es)
    one_own side.Right e = ap is_own (side_other Own m [] Right refl xs es)
    one_own (side.Memory n) e = ap is_own (side_other Own m [] (side.Memory n) refl xs es)
    one_own (side.Bound n) e = ap is_own (side_other Own m [] (side.Bound n) refl xs es)

    one_both : (r : Side) → is_left_or_right r ≡ false → is_left_or_right (side_changed one_changes r) ≡ false
    one_both side.Own e = ap is_left_or_right (side_here Own m [] refl xs es) ∙ sides_place m place
    one_both side.Left e = absurd (false≢true (sym e))
    one_both side.Right e = absurd (false≢true (sym e))
    one_both (side.Memory n) e = ap is_left_or_right (side_other Own m [] (side.Memory n) refl xs es)
    one_both (side.Bound n) e = ap is_left_or_right (side_other Own m [] (side.Bound n) refl xs es)

    one_begins : Begins b (Some xs) None None one_changes
    one_begins = record {
      logical = λ i. logical_found Own m [] xs es i;
      places = λ x r p. other_found Own m [] r (apart_place Own tt r p) xs es x;
      kept = λ r p. side_other Own m [] r (apart_place Own tt r p) xs es;
      reads = one_reads;
      sides = one_sides;
      stays = record { own = one_own; sides = one_both };
    }

    one_form : (f : Term) → IsForm (with_own c (Some xs)) f → IsForm c (term_changed f one_changes)
    one_form f i = begun_typed b (Some xs) None None one_changes one_begins f i

    module _ (g : Setting) (fits : IsSettingOf c g) (j : Judge) (fair : IsFair g j) (s : State) (fit : IsStateOf c g s) where
      abbrev one_start : Memory
      one_start = record { globals = (memory_of s m).globals; frame = arguments empty xs (values c g (speaking g j) s es) }

      one_same : (r : Side) → IsSide r → (x : Var) (t : Ty) → IsIn (source b (Some xs) None None) (frame_of (source b (Some xs) None None) r) x t →
          put g (speaking g j) (found_for_read one_changes (Program x r)) (read_at g (Program x (side_changed one_changes r)) t s) s ≡ finite (read g.types (memory_of (at s one_start) r) x t)
      one_same side.Own i x t k =
          same (Some xs) None None one_changes Own xs es m [] refl refl memory w (λ y. refl) (side_here Own m [] refl xs es) (λ y. refl) g fits (speaking g j) s fit x t k
      one_same side.Left i x t k = absurd (nothing_in (source b (Some xs) None None) x t k)
      one_same side.Right i x t k = absurd (nothing_in (source b (Some xs) None None) x t k)
      one_same (side.Memory n) i x t k = absurd i
      one_same (side.Bound n) i x t k = absurd i

      one_says : (f : Term) → IsForm (with_own c (Some xs)) f → den g j (term_changed f one_changes) s ≡ den g j f (at s one_start)
      one_says f i =
          begun_means b (Some xs) None None one_changes one_begins g j s (at s one_start) (λ n. refl) (λ n. refl) one_same
          (enters Own m [] (IgnoresOwn g (speaking g j)) is_own (own_place m place) c (ignoring_own g (speaking g j)) tt xs es w)
          (enters Own m [] (IgnoresSides g (speaking g j)) is_left_or_right (sides_place m place) c (ignoring_sides g (speaking g j)) tt xs es w)
          fits fair (are_put Own m [] g c tt xs es w) f i

  -- Of two procedures.
  module _ (xs ys : List TypedName) (es fs : List Term) (m n : Side) (memory : IsMemoryIn c m) (other : IsMemoryIn c n) (place : IsPlace m) (there : IsPlace n)
      (v : AreGiven c xs es) (w : AreGiven c ys fs) where
    abbrev right : Changes
    right = starting Right ys fs n []

    abbrev two_changes : Changes
    two_changes = starting Left xs es m right

    abbrev two : Context
    two = source b None (Some xs) (Some ys)

    two_reads : (r : Side) → IsSide r → (x : Var) (t : Ty) → IsLeaf two (head.Read (Program x r)) t → Replaces b None (Some xs) (Some ys) two_changes r x t (found_for_read two_changes (Program x r))
    two_reads side.Own i x t k = absurd (nothing_in two x t k.1)
    two_reads side.Left i x t k =
        replaced None (Some xs) (Some ys) two_changes Left xs es m right refl refl memory v (λ y. refl) (side_here Left m right refl xs es) (λ y. other_found Right n [] Left refl ys fs y) x t k
    two_reads side.Right i x t k =
        replaced None (Some xs) (Some ys) two_changes Right ys fs n [] refl refl other w (other_found Left m right Right refl xs es)
        (side_other Left m right Right refl xs es ∙ side_here Right n [] refl ys fs) (λ y. refl) x t k
    two_reads (side.Memory z) i x t k = absurd i
    two_reads (side.Bound z) i x t k = absurd i

    two_sides : (r : Side) → IsSide r → IsFrame (frame_of two r) → IsMemoryIn c (side_changed two_changes r)
    two_sides side.Own i k = absurd k
    two_sides side.Left i k = subst (IsMemoryIn c) (sym (side_here Left m right refl xs es)) memory
    two_sides side.Right i k = subst (IsMemoryIn c) (sym (side_other Left m right Right refl xs es ∙ side_here Right n [] refl ys fs)) other
    two_sides (side.Memory z) i k = absurd i
    two_sides (side.Bound z) i k = absurd i

    neither : (r : Side) → side_eq Left r ≡ false → side_eq Right r ≡ false → side_changed two_changes r ≡ r
    neither r e h = side_other Left m right r e xs es ∙ side_other Right n [] r h ys fs

    two_own : (r : Side) → is_own r ≡ false → is_own (side_changed two_changes r) ≡ false
    two_own side.Own e = absurd (false≢true (sym e))
    two_own side.Left e = ap is_own (side_here Left m right refl xs es) ∙ own_place m place
    two_own side.Right e = ap is_own (side_other Left m right Right refl xs es ∙ side_here Right n [] refl ys fs) ∙ own_place n there
    two_own (side.Memory z) e = ap is_own (neither (side.Memory z) refl refl)
    two_own (side.Bound z) e = ap is_own (neither (side.Bound z) refl refl)

    two_both : (r : Side) → is_left_or_right r ≡ false → is_left_or_right (side_changed two_changes r) ≡ false
    two_both side.Own e = ap is_left_or_right (neither Own refl refl)
    two_both side.Left e = absurd (false≢true (sym e))
    two_both side.Right e = absurd (false≢true (sym e))
    two_both (side.Memory z) e = ap is_left_or_right (neither (side.Memory z) refl refl)
    two_both (side.Bound z) e = ap is_left_or_right (neither (side.Bound z) refl refl)

    two_begins : Begins b None (Some xs) (Some ys) two_changes
    two_begins = record {
      logical = λ i. logical_found Left m right xs es i ∙ logical_found Right n [] ys fs i;
      places = λ x r p. other_found Left m right r (apart_place Left tt r p) xs es x ∙ other_found Right n [] r (apart_place Right tt r p) ys fs x;
      kept = λ r p. neither r (apart_place Left tt r p) (apart_place Right tt r p);
      reads = two_reads;
      sides = two_sides;
      stays = record { own = two_own; sides = two_both };
    }

    two_form : (f : Term) → IsForm (with_sides c (Some xs) (Some ys)) f → IsForm c (term_changed f two_changes)
    two_form f i = begun_typed b None (Some xs) (Some ys) two_changes two_begins f i

    module _ (g : Setting) (fits : IsSettingOf c g) (j : Judge) (fair : IsFair g j) (s : State) (fit : IsStateOf c g s) where
      abbrev left_start : Memory
      left_start = record { globals = (memory_of s m).globals; frame = arguments empty xs (values c g (speaking g j) s es) }

      abbrev right_start : Memory
      right_start = record { globals = (memory_of s n).globals; frame = arguments empty ys (values c g (speaking g j) s fs) }

      two_same : (r : Side) → IsSide r → (x : Var) (t : Ty) → IsIn two (frame_of two r) x t →
          put g (speaking g j) (found_for_read two_changes (Program x r)) (read_at g (Program x (side_changed two_changes r)) t s) s ≡ finite (read g.types (memory_of (between s left_start right_start) r) x t)
      two_same side.Own i x t k = absurd (nothing_in two x t k)
      two_same side.Left i x t k =
          same None (Some xs) (Some ys) two_changes Left xs es m right refl refl memory v (λ y. refl) (side_here Left m right refl xs es) (λ y. other_found Right n [] Left refl ys fs y)
          g fits (speaking g j) s fit x t k
      two_same side.Right i x t k =
          same None (Some xs) (Some ys) two_changes Right ys fs n [] refl refl other w (other_found Left m right Right refl xs es)
          (side_other Left m right Right refl xs es ∙ side_here Right n [] refl ys fs) (λ y. refl) g fits (speaking g j) s fit x t k
      two_same (side.Memory z) i x t k = absurd i
      two_same (side.Bound z) i x t k = absurd i

      two_says : (f : Term) → IsForm (with_sides c (Some xs) (Some ys)) f → den g j (term_changed f two_changes) s ≡ den g j f (between s left_start right_start)
      two_says f i =
          begun_means b None (Some xs) (Some ys) two_changes two_begins g j s (between s left_start right_start) (λ z. refl) (λ z. refl) two_same
          (enters Left m right (IgnoresOwn g (speaking g j)) is_own (own_place m place) c (ignoring_own g (speaking g j))
          (enters Right n [] (IgnoresOwn g (speaking g j)) is_own (own_place n there) c (ignoring_own g (speaking g j)) tt ys fs w) xs es v)
          (enters Left m right (IgnoresSides g (speaking g j)) is_left_or_right (sides_place m place) c (ignoring_sides g (speaking g j))
          (enters Right n [] (IgnoresSides g (speaking g j)) is_left_or_right (sides_place n there) c (ignoring_sides g (speaking g j)) tt ys fs w) xs es v)
          fits fair (are_put Left m right g c (are_put Right n [] g c tt ys fs w) xs es v) f i

-- both changes, one after the other
together : (xs ys : List TypedName) (k l : Chance) → started Left xs k ++ started Right ys l ≡ starting Left xs k.arguments k.memory (starting Right ys l.arguments l.memory [])
together xs ys k l = append_assoc (given_for Left xs k.arguments) _ (started Right ys l)

-- The same in the context of a goal.
module _ (c : Context) (outer : c ≡ outermost c) where
  pub one_typed : (xs : List TypedName) (k : Chance) → IsStart c xs k → (f : Term) → IsForm (with_own c (Some xs)) f → IsForm c (term_changed f (started Own xs k))
  one_typed xs k w f =
      subst (λ d. IsStart d xs k → IsForm (with_own d (Some xs)) f → IsForm d (term_changed f (started Own xs k))) (sym outer)
      (λ w. one_form c xs k.arguments k.memory w.memory w.place w.arguments f) w

  pub two_typed : (xs ys : List TypedName) (k l : Chance) → IsStart c xs k → IsStart c ys l → (f : Term) → IsForm (with_sides c (Some xs) (Some ys)) f →
      IsForm c (term_changed f (started Left xs k ++ started Right ys l))
  two_typed xs ys k l v w f =
      subst (λ d. IsStart d xs k → IsStart d ys l → IsForm (with_sides d (Some xs) (Some ys)) f → IsForm d (term_changed f (started Left xs k ++ started Right ys l))) (sym outer)
      (λ v w i. subst (λ cs. IsForm (outermost c) (term_changed f cs)) (sym (together xs ys k l))
      (two_form c xs ys k.arguments l.arguments k.memory l.memory v.memory w.memory v.place w.place v.arguments w.arguments f i)) v w

  module _ (g : Setting) (fits : IsSettingOf c g) (j : Judge) (fair : IsFair g j) (s : State) (fit : IsStateOf c g s) where
    pub one_means : (xs : List TypedName) (k : Chance) → IsStart c xs k → (f : Term) → IsForm (with_own c (Some xs)) f →
        den g j (term_changed f (started Own xs k)) s ≡ den g j f (at s (start_of g j s xs k))
    one_means xs k w f =
        subst (λ d. IsSettingOf d g → IsStateOf d g s → IsStart d xs k → IsForm (with_own d (Some xs)) f → den g j (term_changed f (started Own xs k)) s ≡ den g j f (at s (start_of g j s xs k))) (sym outer)
        (λ fits fit w. one_says c xs k.arguments k.memory w.memory w.place w.arguments g fits j fair s fit f) fits fit w

    pub two_means : (xs ys : List TypedName) (k l : Chance) → IsStart c xs k → IsStart c ys l → (f : Term) → IsForm (with_sides c (Some xs) (Some ys)) f →
        den g j (term_changed f (started Left xs k ++ started Right ys l)) s ≡ den g j f (between s (start_of g j s xs k) (start_of g j s ys l))
    two_means xs ys k l v w f =
        subst (λ d. IsSettingOf d g → IsStateOf d g s → IsStart d xs k → IsStart d ys l → IsForm (with_sides d (Some xs) (Some ys)) f →
        den g j (term_changed f (started Left xs k ++ started Right ys l)) s ≡ den g j f (between s (start_of g j s xs k) (start_of g j s ys l))) (sym outer)
        (λ fits fit v w i. ap (λ cs. den g j (term_changed f cs) s) (together xs ys k l)
        ∙ two_says c xs ys k.arguments l.arguments k.memory l.memory v.memory w.memory v.place w.place v.arguments w.arguments g fits j fair s fit f i) fits fit v w
