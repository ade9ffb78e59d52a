-- Expressions of programs in goals: on a side, and what they mean there.
use Rattle.std.proofs.Common.{◌≡◌, ℕ, inl, Bool, true, false, List, [], ◌∷◌, Option, Some, None, refl, ap, sym, ◌∙◌, subst}
use Rattle.std.proofs.lemmas.Bool.{false≢true}
use Rattle.gb_core.specs.declared.ty.Ty.{Ty}
use Rattle.gb_core.specs.declared.var.Var.{Var}
use Rattle.gb_core.specs.declared.var.Var.TheVariants as var
use Rattle.gb_terms.specs.declared.decl.TypedName.{TypedName}
use Rattle.gb_terms.specs.declared.op.Side.{Side}
use Rattle.gb_terms.specs.declared.op.Side.TheVariants as side
use Rattle.gb_terms.specs.declared.op.Read.{Read}
use Rattle.gb_terms.specs.declared.op.Read.TheVariants.{Logical, Program}
use Rattle.gb_terms.specs.declared.term.Term.{Term}
use Rattle.gb_terms.specs.declared.term.Head.TheVariants as head
use Rattle.gb_walk.specs.declared.change.Change.TheVariants.{ToSide}
use Rattle.gb_walk.specs.Change.{Changes, found_for_read, read_changed, side_changed, term_changed}
use Rattle.gb_meaning.specs.Memory.{Memory}
use Rattle.gb_meaning.specs.Setting.{Setting}
use Rattle.gb_meaning.specs.State.{State, at, inside, memory_of}
use Rattle.gb_meaning.specs.Terms.{Speaks, quiet, val}
use Rattle.gb_meaning.specs.Written.{type_of}
use Rattle.gb_laws.specs.Uses.{Uses}
use Rattle.gb_laws.specs.Uses.Use.{read as reads, bound, globals, starts, binds_own, binds_sides}
use Rattle.gb_laws.specs.Agree.{Agree}
use Rattle.gb_laws.specs.Led.{Led}
use Rattle.gb_laws.proofs.Agreeing.{term_agrees}
use Rattle.gb_laws.proofs.Changing.{plain_followed}
use Rattle.gb_laws.proofs.Quiet.{plain_quiet}
use Rattle.gb_laws.specs.Typing.{IsSide}
use Rattle.gb_typing.specs.Context.{Frame, Context, erased, frame_of, local_in, reframed, of_program}
use Rattle.gb_typing.specs.Typing.{IsFrame, IsPlace, IsTyped}
use Rattle.gb_typing.specs.Programs.{IsExpression}
use Rattle.gb_typing.proofs.Formed.{formed}
use Rattle.gb_typing.specs.Changes.{IsLeaf, Made, Becomes, IsMemoryIn, Leads}
use Rattle.gb_typing.proofs.Changed.{changed}
use Rattle.gb_typing.proofs.Uses.{nothing_in, reads_in, uses_of, unbinding, plain_typed}
use Rattle.gb_typing.proofs.Wider.{wider}

abbrev pub on : Side → Changes
on r = ToSide side.Own r ∷ []

module _ (c : Context) (ls : List TypedName) where
  abbrev inner : Context
  inner = of_program c ls

  no_variable : (i : ℕ) (t : Ty) → IsLeaf inner (head.Read (Logical i)) t → ⊥
  no_variable i t w = false≢true (ap is_some w.0.1)
    where
      is_some : Option Ty → Bool
      is_some None = false
      is_some (Some t) = true

  -- the own memory of a program, as a memory of a goal
  module _ (f l k : Frame) (r : Side) (frame : frame_of (reframed c f l k) r ≡ Some ls) (there : IsSide (erased c) r) where
    abbrev outer : Context
    outer = reframed c f l k

    leaf_on : (x : Var) (ty : Ty) → IsLeaf inner (head.Read (Program x side.Own)) ty → IsLeaf outer (head.Read (Program x r)) ty
    leaf_on (var.Local x) ty w = ((there, w.0.1), subst (λ o. local_in o x ≡ Some ty) (sym frame) w.1)
    leaf_on (var.Global m x) ty w = ((there, w.0.1, w.0.2), (subst IsFrame (sym frame) tt, w.1.1))
    leaf_on (var.Glob a) ty w = absurd (false≢true w.1.1)

    reads_on : (q : Read) (ty : Ty) → IsLeaf inner (head.Read q) ty → Becomes true outer ty q (found_for_read (on r) q) (head.Read (read_changed (on r) q))
    reads_on (Logical i) ty w = absurd (no_variable i ty w)
    reads_on (Program x side.Own) ty w = leaf_on x ty w
    reads_on (Program x side.Left) ty w = absurd (nothing_in inner x ty w.1)
    reads_on (Program x side.Right) ty w = absurd (nothing_in inner x ty w.1)
    reads_on (Program x (side.Memory i)) ty w = absurd (nothing_in inner x ty w.1)
    reads_on (Program x (side.Bound i)) ty w = absurd (nothing_in inner x ty w.1)

    sides_on : (o : Side) → IsMemoryIn inner o → IsMemoryIn outer (side_changed (on r) o)
    sides_on side.Own w = (there, subst IsFrame (sym frame) tt)
    sides_on side.Left w = absurd w.1
    sides_on side.Right w = absurd w.1
    sides_on (side.Memory i) w = absurd w.1
    sides_on (side.Bound i) w = absurd w.1

    places_on : (o : Side) → IsPlace o → IsPlace (side_changed (on r) o)
    places_on side.Own w = absurd w
    places_on side.Left w = absurd w
    places_on side.Right w = absurd w
    places_on (side.Memory i) w = tt
    places_on (side.Bound i) w = tt

    leads_on : Leads true (on r) inner outer
    leads_on = record {
      reads = reads_on;
      bounds = λ i ty w. absurd w;
      sides = sides_on;
      places = places_on;
      global = λ m x t e. e;
      operator = λ n o e. e;
      procedure = λ p. refl;
      has_globals = λ a e. absurd (false≢true e);
    }

    -- an expression, read in a memory of a goal
    pub expression_on : (e : Term) → IsExpression c ls e → Made outer (type_of e) (term_changed e (on r))
    expression_on e x = changed true e (on r) inner outer leads_on (inl x.plain) x.typed

  module _ (l k : Frame) where
    reads_wider : (q : Read) (ty : Ty) → IsLeaf inner (head.Read q) ty → IsLeaf (reframed c (Some ls) l k) (head.Read q) ty
    reads_wider (Logical i) ty w = absurd (no_variable i ty w)
    reads_wider (Program (var.Local x) side.Own) ty w = w
    reads_wider (Program (var.Global m x) side.Own) ty w = w
    reads_wider (Program (var.Glob a) side.Own) ty w = absurd (false≢true w.1.1)
    reads_wider (Program x side.Left) ty w = absurd (nothing_in inner x ty w.1)
    reads_wider (Program x side.Right) ty w = absurd (nothing_in inner x ty w.1)
    reads_wider (Program x (side.Memory i)) ty w = absurd (nothing_in inner x ty w.1)
    reads_wider (Program x (side.Bound i)) ty w = absurd (nothing_in inner x ty w.1)

    -- an expression in a goal on one program
    pub expression_own : (e : Term) → IsExpression c ls e → IsTyped (reframed c (Some ls) l k) e
    expression_own e x = wider inner (reframed c (Some ls) l k) (record { operator = λ n o h. h; bounds = λ i ty w. absurd w; reads = reads_wider }) e x.plain x.typed

  pub not_in : (x : Var) (ty : Ty) → reads_in inner None x ty ≡ true → ⊥
  not_in (var.Local x) ty e = false≢true e
  not_in (var.Global m x) ty e = false≢true e
  not_in (var.Glob a) ty e = false≢true e

  abbrev pub K : Uses
  K = unbinding (uses_of inner)

  module _ (g : Setting) (j : Speaks) where
    agree_own : (s : State) (m : Memory) → Agree g K (at s m) (inside s m)
    agree_own s m (reads (Logical i) ty) k = refl
    agree_own s m (reads (Program x side.Own) ty) k = refl
    agree_own s m (reads (Program x side.Left) ty) k = absurd (not_in x ty k)
    agree_own s m (reads (Program x side.Right) ty) k = absurd (not_in x ty k)
    agree_own s m (reads (Program x (side.Memory i)) ty) k = refl
    agree_own s m (reads (Program x (side.Bound i)) ty) k = refl
    agree_own s m (bound i) k = refl
    agree_own s m (globals x side.Own) k = refl
    agree_own s m (globals x side.Left) k = absurd (false≢true k)
    agree_own s m (globals x side.Right) k = absurd (false≢true k)
    agree_own s m (globals x (side.Memory i)) k = refl
    agree_own s m (globals x (side.Bound i)) k = refl
    agree_own s m (starts side.Own) k = refl
    agree_own s m (starts side.Left) k = absurd (false≢true k)
    agree_own s m (starts side.Right) k = absurd (false≢true k)
    agree_own s m (starts (side.Memory i)) k = refl
    agree_own s m (starts (side.Bound i)) k = refl
    agree_own s m binds_own k = tt
    agree_own s m binds_sides k = tt

    -- an expression means in a goal on one program what it means in the program
    pub own_value : (e : Term) → IsExpression c ls e → (s : State) (m : Memory) → val g j e (at s m) ≡ val g quiet e (inside s m)
    own_value e x s m = term_agrees g j e (formed inner e x.typed) x.plain K (at s m) (inside s m) (agree_own s m) (plain_typed inner e x.plain x.typed) ∙ plain_quiet g j e x.plain (inside s m)

    agree_inside : (s q : State) (m : Memory) → s.logical ≡ q.logical → Agree g K (inside s m) (inside q m)
    agree_inside s q m e (reads (Logical i) ty) k = ap (λ f. f i) e
    agree_inside s q m e (reads (Program x side.Own) ty) k = refl
    agree_inside s q m e (reads (Program x side.Left) ty) k = refl
    agree_inside s q m e (reads (Program x side.Right) ty) k = refl
    agree_inside s q m e (reads (Program x (side.Memory i)) ty) k = absurd (not_in x ty k)
    agree_inside s q m e (reads (Program x (side.Bound i)) ty) k = absurd (not_in x ty k)
    agree_inside s q m e (bound i) k = absurd (false≢true k)
    agree_inside s q m e (globals x side.Own) k = refl
    agree_inside s q m e (globals x side.Left) k = refl
    agree_inside s q m e (globals x side.Right) k = refl
    agree_inside s q m e (globals x (side.Memory i)) k = absurd (false≢true k)
    agree_inside s q m e (globals x (side.Bound i)) k = absurd (false≢true k)
    agree_inside s q m e (starts side.Own) k = absurd (false≢true k)
    agree_inside s q m e (starts side.Left) k = absurd (false≢true k)
    agree_inside s q m e (starts side.Right) k = absurd (false≢true k)
    agree_inside s q m e (starts (side.Memory i)) k = absurd (false≢true k)
    agree_inside s q m e (starts (side.Bound i)) k = absurd (false≢true k)
    agree_inside s q m e binds_own k = tt
    agree_inside s q m e binds_sides k = tt

    led_on : (s : State) (r : Side) → Led g j (on r) K s (inside s (memory_of s r))
    led_on s r (reads (Logical i) ty) k = refl
    led_on s r (reads (Program x side.Own) ty) k = refl
    led_on s r (reads (Program x side.Left) ty) k = absurd (not_in x ty k)
    led_on s r (reads (Program x side.Right) ty) k = absurd (not_in x ty k)
    led_on s r (reads (Program x (side.Memory i)) ty) k = absurd (not_in x ty k)
    led_on s r (reads (Program x (side.Bound i)) ty) k = absurd (not_in x ty k)
    led_on s r (bound i) k = refl
    led_on s r (globals x side.Own) k = refl
    led_on s r (globals x side.Left) k = absurd (false≢true k)
    led_on s r (globals x side.Right) k = absurd (false≢true k)
    led_on s r (globals x (side.Memory i)) k = absurd (false≢true k)
    led_on s r (globals x (side.Bound i)) k = absurd (false≢true k)
    led_on s r (starts side.Own) k = absurd (false≢true k)
    led_on s r (starts side.Left) k = absurd (false≢true k)
    led_on s r (starts side.Right) k = absurd (false≢true k)
    led_on s r (starts (side.Memory i)) k = absurd (false≢true k)
    led_on s r (starts (side.Bound i)) k = absurd (false≢true k)
    led_on s r binds_own k = absurd (false≢true k)
    led_on s r binds_sides k = absurd (false≢true k)

    -- and on a side what it means in the program that runs there
    pub side_value : (e : Term) → IsExpression c ls e → (s : State) (r : Side) → val g j (term_changed e (on r)) s ≡ val g quiet e (inside s (memory_of s r))
    side_value e x s r =
        plain_followed g j e (formed inner e x.typed) x.plain (on r) K s (inside s (memory_of s r)) (tt, tt) (led_on s r) (plain_typed inner e x.plain x.typed)
        ∙ plain_quiet g j e x.plain (inside s (memory_of s r))

  -- an expression looks at its own memory alone
  pub same_program : (g : Setting) (e : Term) → IsExpression c ls e → (s q : State) (m : Memory) → s.logical ≡ q.logical → val g quiet e (inside s m) ≡ val g quiet e (inside q m)
  same_program g e x s q m h = term_agrees g quiet e (formed inner e x.typed) x.plain K (inside s m) (inside q m) (agree_inside g quiet s q m h) (plain_typed inner e x.plain x.typed)
