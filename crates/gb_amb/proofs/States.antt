-- What forms mean in states with more variables and memories.
use Rattle.std.proofs.Common.{◌≡◌, ℕ, zero, suc, ◌==◌, ◌<◌, Bool, true, false, if◌then◌else◌, List, [], ◌∷◌, ◌++◌, length, get_or, Some, None, refl, ap, sym, ◌∙◌, subst, arith}
use Rattle.std.proofs.Math.Dec.{eqb-suc-suc}
use Rattle.std.proofs.lemmas.Bool.{false≢true}
use Rattle.std.proofs.lemmas.Bool.Decides.{Decides-eqb}
use Rattle.std.proofs.lemmas.List.{get_or_at}
use Rattle.gb_core.specs.declared.ty.Ty.{Ty}
use Rattle.gb_core.specs.declared.value.Value.{Value}
use Rattle.gb_core.specs.declared.value.Value.TheVariants.{Num}
use Rattle.gb_core.specs.declared.var.Var.{Var}
use Rattle.gb_core.specs.declared.var.Var.TheVariants as var
use Rattle.gb_terms.specs.declared.decl.TypedName.{TypedName}
use Rattle.gb_terms.specs.declared.op.Side.{Side}
use Rattle.gb_terms.specs.declared.op.Side.TheVariants as side
use Rattle.gb_terms.specs.declared.op.Read.TheVariants.{Logical, Program}
use Rattle.gb_terms.specs.declared.term.Term.{Term}
use Rattle.gb_terms.specs.declared.term.Head.TheVariants as head
use Rattle.gb_terms.specs.Make.{node}
use Rattle.gb_walk.specs.declared.change.Change.TheVariants.{ToTerm, OfBound}
use Rattle.gb_walk.specs.Change.{Changes, or_later, term_changed}
use Rattle.gb_meaning.specs.Memory.{Memory, read}
use Rattle.gb_meaning.specs.Setting.{Setting}
use Rattle.gb_meaning.specs.Setting.Meaning.{finite}
use Rattle.gb_meaning.specs.State.{State, no_memory, under, memory_of}
use Rattle.gb_meaning.specs.State.Binding.{value as value_bound, memory as memory_bound}
use Rattle.gb_meaning.specs.Terms.{Speaks, val}
use Rattle.gb_meaning.specs.Judgments.{Judge, IsFair, speaking}
use Rattle.gb_meaning.proofs.Nodes.{term_is_node, val_node, denominator_node}
use Rattle.gb_laws.specs.Formed.{IsFormed}
use Rattle.gb_laws.specs.Led.{IsPut, put, Led}
use Rattle.gb_laws.specs.Agree.{Agree}
use Rattle.gb_laws.specs.Uses.Use.{read as reads, bound, globals, starts, binds_own, binds_sides}
use Rattle.gb_laws.proofs.Agreeing.{form_agrees}
use Rattle.gb_laws.proofs.Forms.{form_followed}
use Rattle.gb_laws.proofs.Puts.{plain_node}
use Rattle.gb_meaning.specs.Holds.{context}
use Rattle.gb_laws.specs.Typing.Binder.{value, memory}
use Rattle.gb_typing.specs.Context.{Context, Frame, within}
use Rattle.gb_typing.specs.Typing.{IsTyped, IsForm}
use Rattle.gb_typing.specs.Fits.{IsSettingOf}
use Rattle.gb_typing.proofs.Fitting.{fits_within}
use Rattle.gb_typing.proofs.Formed.{formed}
use Rattle.gb_typing.proofs.Sound.{procedures_sound, sound_form}
use Rattle.gb_typing.proofs.Uses.{is_frame, reads_in, uses_of, uses_typed}
use Rattle.gb_amb.proofs.Idle.{unchanged}
use Rattle.gb_amb.proofs.Wider.{small, item_past, to_memory}

-- The values and the memories of a longer context.

differ : (a b : ℕ) → (a ≡ b → ⊥) → (a == b) ≡ false
differ a b n = step (a == b) refl
  where
    step : (t : Bool) → (a == b) ≡ t → t ≡ false
    step true e = absurd (n ((Decides-eqb a b).0 e))
    step false e = refl

pub value_after : (vs : List Value) (v : Value) (i : ℕ) → get_or (vs ++ v ∷ []) i (Num 0) ≡ (if length vs == i then v else get_or vs i (Num 0))
value_after [] v zero = refl
value_after [] v (suc i) = sym (ap (λ t. if t then v else Num 0) (differ 0 (suc i) (λ e. omega (arith, e))))
value_after (x ∷ vs) v zero = sym (ap (λ t. if t then v else x) (differ (length (x ∷ vs)) 0 (λ e. omega (arith, e))))
value_after (x ∷ vs) v (suc i) = value_after vs v i ∙ sym (ap (λ t. if t then v else get_or vs i (Num 0)) (eqb-suc-suc (length vs) i))

-- memories with this one at a place
abbrev pub memory_at : ℕ → Memory → List Memory → List Memory
memory_at zero m ms = m ∷ []
memory_at (suc n) m [] = no_memory ∷ memory_at n m []
memory_at (suc n) m (x ∷ ms) = x ∷ memory_at n m ms

pub memory_here : (n : ℕ) (m : Memory) (ms : List Memory) → get_or (memory_at n m ms) n no_memory ≡ m
memory_here zero m ms = refl
memory_here (suc n) m [] = memory_here n m []
memory_here (suc n) m (x ∷ ms) = memory_here n m ms

pub memory_before : (n : ℕ) (m : Memory) (ms : List Memory) (i : ℕ) → i < n → get_or (memory_at n m ms) i no_memory ≡ get_or ms i no_memory
memory_before zero m ms i w = absurd (omega (arith, w))
memory_before (suc n) m [] zero w = refl
memory_before (suc n) m [] (suc i) w = memory_before n m [] i (omega (arith, w))
memory_before (suc n) m (x ∷ ms) zero w = refl
memory_before (suc n) m (x ∷ ms) (suc i) w = memory_before n m ms i (omega (arith, w))

-- a term that names no memory
module _ (g : Setting) (v : Value) (u : Ty) where
  abbrev literal : Term
  literal = node (head.Lit v) [] u

  literal_put : IsPut g literal
  literal_put = record {
    formed = subst IsFormed (term_is_node (head.Lit v) [] u) (tt, tt, tt);
    plain = plain_node (head.Lit v) [] u tt tt;
    denominator = denominator_node g (head.Lit v) [] u;
  }

-- A form doesn't read a variable that isn't in its context.
module _ (c : Context) (g : Setting) (fits : IsSettingOf c g) (j : Judge) (fair : IsFair g j) (n : ℕ) (none : c.logical n ≡ None) (u : Ty) (v : Value) (s : State) where
  abbrev pub with_value : State
  with_value = record s { logical = λ i. if n == i then finite v else s.logical i }

  abbrev idle : Changes
  idle = ToTerm (Logical n) (literal g v u) ∷ []

  same_side : (r : Side) → memory_of s r ≡ memory_of with_value r
  same_side side.Own = refl
  same_side side.Left = refl
  same_side side.Right = refl
  same_side (side.Memory i) = refl
  same_side (side.Bound i) = refl

  of_literal : (q : State) → val g (speaking g j) (literal g v u) q ≡ finite v
  of_literal q = val_node g (speaking g j) (head.Lit v) [] u q

  led_idle : Led g (speaking g j) idle (uses_of c) s with_value
  led_idle (reads (Logical i) t) k = step (n == i)
    where
      step : (b : Bool) → put g (speaking g j) (or_later b (literal g v u) None) (s.logical i) s ≡ (if b then finite v else s.logical i)
      step true = of_literal s
      step false = refl
  led_idle (reads (Program x r) t) k = ap (λ y. finite (read g.types y x t)) (same_side r)
  led_idle (bound i) k = refl
  led_idle (globals x r) k = absurd (false≢true k)
  led_idle (starts r) k = same_side r
  led_idle binds_own k = ((λ e q m. of_literal _ ∙ sym (of_literal q)), tt)
  led_idle binds_sides k = ((λ e q m o. of_literal _ ∙ sym (of_literal q)), tt)

  pub unread : (f : Term) → IsTyped c f → val g (speaking g j) f s ≡ val g (speaking g j) f with_value
  unread f w =
      ap (λ z. val g (speaking g j) z s) (sym (unchanged c f w idle (none, tt)))
      ∙ form_followed g j fair f (formed c f w) (sound_form g c (procedures_sound c g fits) f w) idle (uses_of c) s with_value (literal_put g v u, tt) led_idle (uses_typed c f w)

pub not_in : (c : Context) (x : Var) (t : Ty) → reads_in c None x t ≡ true → ⊥
not_in c (var.Local x) t e = false≢true e
not_in c (var.Global m x) t e = false≢true e
not_in c (var.Glob a) t e = false≢true e

module _ (b : Context) (us : List Ty) (ns : List Frame) (g : Setting) (fits : IsSettingOf (small b us ns) g) (j : Judge) (fair : IsFair g j) where
  abbrev speaks : Speaks
  speaks = speaking g j

  -- a variable more
  module _ (u : Ty) (vs : List Value) (same : length vs ≡ length us) (v : Value) (ms : List Memory) where
    same_state : record (context vs ms) { logical = λ i. if length us == i then finite v else finite (get_or vs i (Num 0)) } ≡ context (vs ++ v ∷ []) ms
    same_state = ap (λ L. record (context vs ms) { logical = L }) (λ k i. each i k)
      where
        choice : (c : Bool) (x y : Value) → (if c then finite x else finite y) ≡ finite (if c then x else y)
        choice true x y = refl
        choice false x y = refl

        each : (i : ℕ) → (if length us == i then finite v else finite (get_or vs i (Num 0))) ≡ finite (get_or (vs ++ v ∷ []) i (Num 0))
        each i = choice (length us == i) v (get_or vs i (Num 0)) ∙ ap finite (ap (λ n. if n == i then v else get_or vs i (Num 0)) (sym same) ∙ sym (value_after vs v i))

    -- a form of the goal means the same
    pub variable_agrees : (f : Term) → IsForm (small b us ns) f → val g speaks f (context vs ms) ≡ val g speaks f (context (vs ++ v ∷ []) ms)
    variable_agrees f w = unread (small b us ns) g fits j fair (length us) (item_past us) u v (context vs ms) f w.typed ∙ ap (val g speaks f) same_state

    abbrev inner : Context
    inner = within (small b us ns) (value u) None

    abbrev after : State
    after = context (vs ++ v ∷ []) ms

    abbrev below : State → State
    below s = under s (value_bound (finite v))

    of_variable : (s : State) → val g speaks (node (head.Read (Logical (length us))) [] u) s ≡ s.logical (length us)
    of_variable s = val_node g speaks (head.Read (Logical (length us))) [] u s

    value_here : after.logical (length us) ≡ finite v
    value_here = ap finite (get_or_at vs v [] (Num 0) (length us) same)

    led_variable : Led g speaks (OfBound 0 (node (head.Read (Logical (length us))) [] u) ∷ []) (uses_of inner) after (below after)
    led_variable (reads (Logical i) t) k = refl
    led_variable (reads (Program x side.Own) t) k = refl
    led_variable (reads (Program x side.Left) t) k = refl
    led_variable (reads (Program x side.Right) t) k = refl
    led_variable (reads (Program x (side.Memory i)) t) k = refl
    led_variable (reads (Program x (side.Bound zero)) t) k = absurd (not_in inner x t k)
    led_variable (reads (Program x (side.Bound (suc i))) t) k = absurd (not_in inner x t k)
    led_variable (bound zero) k = of_variable after ∙ value_here
    led_variable (bound (suc i)) k = absurd (false≢true k)
    led_variable (globals x r) k = absurd (false≢true k)
    led_variable (starts side.Own) k = absurd (false≢true k)
    led_variable (starts side.Left) k = absurd (false≢true k)
    led_variable (starts side.Right) k = absurd (false≢true k)
    led_variable (starts (side.Memory i)) k = refl
    led_variable (starts (side.Bound zero)) k = absurd (false≢true k)
    led_variable (starts (side.Bound (suc i))) k = absurd (false≢true k)
    led_variable binds_own k = ((λ e q m. of_variable _ ∙ sym (of_variable q)), tt)
    led_variable binds_sides k = ((λ e q m o. of_variable _ ∙ sym (of_variable q)), tt)

    variable_put : IsPut g (node (head.Read (Logical (length us))) [] u)
    variable_put = record {
      formed = subst IsFormed (term_is_node (head.Read (Logical (length us))) [] u) (tt, tt, tt);
      plain = plain_node (head.Read (Logical (length us))) [] u tt tt;
      denominator = denominator_node g (head.Read (Logical (length us))) [] u;
    }

    -- what is bound is the variable
    pub variable_means : (f : Term) → IsForm inner f → val g speaks (term_changed f (OfBound 0 (node (head.Read (Logical (length us))) [] u) ∷ [])) after ≡ val g speaks f (below (context vs ms))
    variable_means f w =
        let fit = fits_within (small b us ns) g fits (value u) None in
        form_followed g j fair f (formed inner f w.typed) (sound_form g inner (procedures_sound inner g fit) f w.typed) _ (uses_of inner) after (below after) (variable_put, tt) led_variable (uses_typed inner f w.typed)
        ∙ sym (unread inner g fit j fair (length us) (item_past us) u v (below (context vs ms)) f w.typed ∙ ap (λ s. val g speaks f (below s)) same_state)

  -- a memory more
  module _ (vs : List Value) (ms : List Memory) (m : Memory) where
    abbrev more : State
    more = context vs (memory_at (length ns) m ms)

    in_range : (i : ℕ) → is_frame (get_or ns i None) ≡ true → i < length ns
    in_range i e = go ns i e
      where
        go : (xs : List Frame) (i : ℕ) → is_frame (get_or xs i None) ≡ true → i < length xs
        go [] i e = absurd (false≢true e)
        go (x ∷ xs) zero e = omega arith
        go (x ∷ xs) (suc i) e = let k = go xs i e in omega (arith, k)

    frame_read : (c : Context) (f : Frame) (x : Var) (t : Ty) → reads_in c f x t ≡ true → is_frame f ≡ true
    frame_read c (Some ls) x t e = refl
    frame_read c None x t e = absurd (not_in c x t e)

    named_same : (i : ℕ) → is_frame (get_or ns i None) ≡ true → (context vs ms).named i ≡ more.named i
    named_same i e = sym (memory_before (length ns) m ms i (in_range i e))

    agree : Agree g (uses_of (small b us ns)) (context vs ms) more
    agree (reads (Logical i) t) k = refl
    agree (reads (Program x side.Own) t) k = refl
    agree (reads (Program x side.Left) t) k = refl
    agree (reads (Program x side.Right) t) k = refl
    agree (reads (Program x (side.Memory i)) t) k = ap (λ y. finite (read g.types y x t)) (named_same i (frame_read (small b us ns) (get_or ns i None) x t k))
    agree (reads (Program x (side.Bound i)) t) k = refl
    agree (bound i) k = refl
    agree (globals x r) k = absurd (false≢true k)
    agree (starts side.Own) k = refl
    agree (starts side.Left) k = refl
    agree (starts side.Right) k = refl
    agree (starts (side.Memory i)) k = named_same i k
    agree (starts (side.Bound i)) k = refl
    agree binds_own k = tt
    agree binds_sides k = tt

    pub memory_agrees : (f : Term) → IsForm (small b us ns) f → val g speaks f (context vs ms) ≡ val g speaks f more
    memory_agrees f w =
        form_agrees g j fair f (formed (small b us ns) f w.typed) (sound_form g (small b us ns) (procedures_sound (small b us ns) g fits) f w.typed) (uses_of (small b us ns)) (context vs ms) more agree
        (uses_typed (small b us ns) f w.typed)

    module _ (ls : List TypedName) where
      abbrev behind : Context
      behind = within (small b us ns) memory (Some ls)

      abbrev below_memory : State
      below_memory = under (context vs ms) (memory_bound m)

      led_memory : Led g speaks (to_memory b us ns ls) (uses_of behind) more below_memory
      led_memory (reads (Logical i) t) k = refl
      led_memory (reads (Program x side.Own) t) k = refl
      led_memory (reads (Program x side.Left) t) k = refl
      led_memory (reads (Program x side.Right) t) k = refl
      led_memory (reads (Program x (side.Memory i)) t) k = ap (λ y. finite (read g.types y x t)) (sym (named_same i (frame_read behind (get_or ns i None) x t k)))
      led_memory (reads (Program x (side.Bound zero)) t) k = ap (λ y. finite (read g.types y x t)) (memory_here (length ns) m ms)
      led_memory (reads (Program x (side.Bound (suc i))) t) k = absurd (not_in behind x t k)
      led_memory (bound zero) k = absurd (false≢true k)
      led_memory (bound (suc i)) k = absurd (false≢true k)
      led_memory (globals x r) k = absurd (false≢true k)
      led_memory (starts side.Own) k = absurd (false≢true k)
      led_memory (starts side.Left) k = absurd (false≢true k)
      led_memory (starts side.Right) k = absurd (false≢true k)
      led_memory (starts (side.Memory i)) k = sym (named_same i k)
      led_memory (starts (side.Bound zero)) k = memory_here (length ns) m ms
      led_memory (starts (side.Bound (suc i))) k = absurd (false≢true k)
      led_memory binds_own k = ((λ e. refl), tt)
      led_memory binds_sides k = ((λ e. refl), tt)

      -- the memory that is bound is the one of the context
      pub memory_means : (f : Term) → IsForm behind f → val g speaks (term_changed f (to_memory b us ns ls)) more ≡ val g speaks f below_memory
      memory_means f w =
          let fit = fits_within (small b us ns) g fits memory (Some ls) in
          form_followed g j fair f (formed behind f w.typed) (sound_form g behind (procedures_sound behind g fit) f w.typed) (to_memory b us ns ls) (uses_of behind) more below_memory (tt, tt) led_memory (uses_typed behind f w.typed)
