-- A form of memories that are not around, of which the changes put terms in the places of reads and lead the rest to memories of the
-- context: typing and meaning.
use Rattle.std.proofs.Common.{◌≡◌, ℕ, true, inr, Option, Some, None, refl, ap, sym, ◌∙◌, subst}
use Rattle.std.proofs.lemmas.Bool.{false≢true}
use Rattle.gb_core.specs.declared.ty.Ty.{Ty}
use Rattle.gb_core.specs.declared.var.Var.{Var}
use Rattle.gb_core.specs.declared.var.Var.TheVariants as var
use Rattle.gb_terms.specs.declared.op.Read.{Read}
use Rattle.gb_terms.specs.declared.op.Read.TheVariants.{Logical, Program}
use Rattle.gb_terms.specs.declared.op.Side.{Side}
use Rattle.gb_terms.specs.declared.op.Side.TheVariants as side
use Rattle.gb_terms.specs.declared.term.Term.{Term}
use Rattle.gb_terms.specs.declared.term.Head.TheVariants as head
use Rattle.gb_walk.specs.Change.{Changes, is_own, is_left_or_right, found_for_read, side_changed, read_changed, term_changed}
use Rattle.gb_meaning.specs.Meanings.{truth}
use Rattle.gb_meaning.specs.Memory.{read}
use Rattle.gb_meaning.specs.Setting.{Setting}
use Rattle.gb_meaning.specs.Setting.Meaning.{finite}
use Rattle.gb_meaning.specs.State.{State, memory_of}
use Rattle.gb_meaning.specs.Terms.{Speaks, read_at}
use Rattle.gb_meaning.specs.Judgments.{Judge, IsFair, speaking, den}
use Rattle.gb_meaning.specs.Written.{type_of}
use Rattle.gb_laws.specs.Led.{put, ArePut, IgnoresOwn, IgnoresSides, Enters, Led}
use Rattle.gb_laws.specs.Plain.{IsPlain}
use Rattle.gb_laws.specs.Uses.Use.{read as reads, bound, globals, starts, binds_own, binds_sides}
use Rattle.gb_laws.specs.Written.{IsSide}
use Rattle.gb_laws.proofs.Forms.{form_followed}
use Rattle.gb_typing.specs.Changes.{IsLeaf, IsMemoryIn, Becomes, Leads, Stays}
use Rattle.gb_typing.specs.Context.{Context, Frame, frame_of, reframed}
use Rattle.gb_typing.specs.Fits.{IsSettingOf}
use Rattle.gb_typing.specs.Rules.{outermost}
use Rattle.gb_typing.specs.Typing.{IsFrame, IsIn, IsPlace, IsTyped, IsForm}
use Rattle.gb_typing.proofs.Changed.{changed}
use Rattle.gb_typing.proofs.Fitting.{fits_reframed}
use Rattle.gb_typing.proofs.Formed.{formed}
use Rattle.gb_typing.proofs.Sound.{procedures_sound, sound_form}
use Rattle.gb_typing.proofs.Uses.{nothing_in, reads_in, reads_found, uses_of, uses_typed}
use Rattle.gb_typing.proofs.Wider.{wider}

module _ (b : Context) where
  abbrev pub target : Context
  target = outermost b

  -- what is plain and typed in the context of a goal is typed where other memories are around
  leaf_there : (F L K : Frame) (q : Read) (t : Ty) → IsLeaf target (head.Read q) t → IsLeaf (reframed target F L K) (head.Read q) t
  leaf_there F L K (Logical n) t k = k
  leaf_there F L K (Program z side.Own) t k = absurd (nothing_in target z t k.1)
  leaf_there F L K (Program z side.Left) t k = absurd (nothing_in target z t k.1)
  leaf_there F L K (Program z side.Right) t k = absurd (nothing_in target z t k.1)
  leaf_there F L K (Program (var.Local z) (side.Memory n)) t k = k
  leaf_there F L K (Program (var.Global m z) (side.Memory n)) t k = k
  leaf_there F L K (Program (var.Glob a) (side.Memory n)) t k = k
  leaf_there F L K (Program z (side.Bound n)) t k = absurd (nothing_in target z t k.1)

  pub plain_anywhere : (e : Term) → IsPlain e → IsTyped target e → (F L K : Frame) → IsTyped (reframed target F L K) e
  plain_anywhere e p w F L K = wider target (reframed target F L K) (record { operator = λ n o k. k; bounds = λ i t k. k; reads = leaf_there F L K }) e p w

  module _ (F L K : Frame) where
    abbrev pub source : Context
    source = reframed (outermost b) F L K

    -- a plain term of the variable's type, or the variable is there where the memory is led
    abbrev pub Replaces : Changes → Side → Var → Ty → Option Term → Type 0
    Replaces cs r x t (Some e) = IsPlain e × IsTyped target e × (type_of e ≡ t)
    Replaces cs r x t None = IsLeaf target (head.Read (Program x (side_changed cs r))) t

    pub record Begins (cs : Changes) : Type 0 where
      pub logical : (i : ℕ) → found_for_read cs (Logical i) ≡ None
      pub places : (x : Var) (r : Side) → IsPlace r → found_for_read cs (Program x r) ≡ None
      pub kept : (r : Side) → IsPlace r → side_changed cs r ≡ r
      pub reads : (r : Side) → IsSide r → (x : Var) (t : Ty) → IsLeaf source (head.Read (Program x r)) t → Replaces cs r x t (found_for_read cs (Program x r))
      pub sides : (r : Side) → IsSide r → IsFrame (frame_of source r) → IsMemoryIn target (side_changed cs r)
      pub stays : Stays cs

    module _ (cs : Changes) (h : Begins cs) where
      becomes : (x : Var) (r : Side) (t : Ty) (o : Option Term) → Replaces cs r x t o → Becomes true target t (Program x r) o (head.Read (Program x (side_changed cs r)))
      becomes x r t (Some e) k = (k.0, λ f l m keeps same. record { typed = plain_anywhere e k.0 k.1 f l m; written = k.2 })
      becomes x r t None k = k

      stays_there : (x : Var) (i : ℕ) (t : Ty) → IsLeaf source (head.Read (Program x (side.Memory i))) t → IsLeaf target (head.Read (Program x (side.Memory i))) t
      stays_there (var.Local x) i t w = w
      stays_there (var.Global m x) i t w = w
      stays_there (var.Glob a) i t w = w

      of_read : (r : Read) (t : Ty) → IsLeaf source (head.Read r) t → Becomes true target t r (found_for_read cs r) (head.Read (read_changed cs r))
      of_read (Logical i) t w = subst (λ o. Becomes true target t (Logical i) o (head.Read (Logical i))) (sym (h.logical i)) w
      of_read (Program x side.Own) t w = becomes x side.Own t (found_for_read cs (Program x side.Own)) (h.reads side.Own tt x t w)
      of_read (Program x side.Left) t w = becomes x side.Left t (found_for_read cs (Program x side.Left)) (h.reads side.Left tt x t w)
      of_read (Program x side.Right) t w = becomes x side.Right t (found_for_read cs (Program x side.Right)) (h.reads side.Right tt x t w)
      of_read (Program x (side.Memory i)) t w =
          subst (λ s. Becomes true target t (Program x (side.Memory i)) (found_for_read cs (Program x (side.Memory i))) (head.Read (Program x s))) (sym (h.kept (side.Memory i) tt))
          (subst (λ o. Becomes true target t (Program x (side.Memory i)) o (head.Read (Program x (side.Memory i)))) (sym (h.places x (side.Memory i) tt)) (stays_there x i t w))
      of_read (Program x (side.Bound i)) t w = absurd (nothing_in source x t w.1)

      of_side : (r : Side) → IsMemoryIn source r → IsMemoryIn target (side_changed cs r)
      of_side side.Own k = h.sides side.Own tt k.1
      of_side side.Left k = h.sides side.Left tt k.1
      of_side side.Right k = h.sides side.Right tt k.1
      of_side (side.Memory i) k = subst (IsMemoryIn target) (sym (h.kept (side.Memory i) tt)) k
      of_side (side.Bound i) k = absurd k.0

      leads : Leads true cs source target
      leads = record {
        reads = of_read;
        bounds = λ i t k. absurd k;
        sides = of_side;
        places = λ r k. subst IsPlace (sym (h.kept r k)) k;
        global = λ m x t e. e;
        operator = λ n o e. e;
        procedure = λ q. refl;
        has_globals = λ a e. e;
      }

      pub begun_typed : (f : Term) → IsForm source f → IsForm target (term_changed f cs)
      begun_typed f w = let m = changed true f cs source target leads (inr (h.stays, refl)) w.typed in record { typed = m.typed; truth = m.written ∙ w.truth }

      -- Each variable that may be read has in the new memories the value of what takes its place.
      module _ (g : Setting) (j : Judge) (s q : State) (named : (i : ℕ) → s.named i ≡ q.named i) (logical : (i : ℕ) → s.logical i ≡ q.logical i)
          (same : (r : Side) → IsSide r → (x : Var) (t : Ty) → IsIn source (frame_of source r) x t →
          put g (speaking g j) (found_for_read cs (Program x r)) (read_at g (Program x (side_changed cs r)) t s) s ≡ finite (read g.types (memory_of q r) x t))
          (own : Enters (IgnoresOwn g (speaking g j)) is_own cs) (sides : Enters (IgnoresSides g (speaking g j)) is_left_or_right cs) where
        abbrev speaks : Speaks
        speaks = speaking g j

        no_bound : (x : Var) (t : Ty) {A : Type 0} → reads_in source None x t ≡ true → A
        no_bound x t e = absurd (nothing_in source x t (reads_found source None x t e))

        at_side : (r : Side) → IsSide r → (x : Var) (t : Ty) → reads_in source (frame_of source r) x t ≡ true →
            put g speaks (found_for_read cs (Program x r)) (read_at g (Program x (side_changed cs r)) t s) s ≡ finite (read g.types (memory_of q r) x t)
        at_side r i x t k = same r i x t (reads_found source (frame_of source r) x t k)

        led : Led g speaks cs (uses_of source) s q
        led (reads (Logical i) t) k = ap (λ o. put g speaks o (s.logical i) s) (h.logical i) ∙ logical i
        led (reads (Program x side.Own) t) k = at_side side.Own tt x t k
        led (reads (Program x side.Left) t) k = at_side side.Left tt x t k
        led (reads (Program x side.Right) t) k = at_side side.Right tt x t k
        led (reads (Program x (side.Memory i)) t) k =
            (λ z. put g speaks (h.places x (side.Memory i) tt z) (read_at g (Program x (h.kept (side.Memory i) tt z)) t s) s) ∙ ap (λ m. finite (read g.types m x t)) (named i)
        led (reads (Program x (side.Bound i)) t) k = no_bound x t k
        led (bound i) k = absurd (false≢true k)
        led (globals x r) k = absurd (false≢true k)
        led (starts side.Own) k = absurd (false≢true k)
        led (starts side.Left) k = absurd (false≢true k)
        led (starts side.Right) k = absurd (false≢true k)
        led (starts (side.Memory i)) k = ap (memory_of s) (h.kept (side.Memory i) tt) ∙ named i
        led (starts (side.Bound i)) k = absurd (false≢true k)
        led binds_own k = own
        led binds_sides k = sides

        pub begun_means : IsSettingOf (outermost b) g → IsFair g j → ArePut g cs → (f : Term) → IsForm source f → den g j (term_changed f cs) s ≡ den g j f q
        begun_means fits fair puts f w =
            ap truth (form_followed g j fair f (formed source f w.typed) (sound_form g source (procedures_sound source g (fits_reframed (outermost b) g fits F L K)) f w.typed) cs
            (uses_of source) s q puts led (uses_typed source f w.typed))
