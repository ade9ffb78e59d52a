-- Expressions under new names: typing and meaning.
use Rattle.std.proofs.Common.{◌≡◌, ℕ, inl, false, List, [], ◌∷◌, ◌++◌, map, Some, None, refl, ap, sym, ◌∙◌, subst}
use Rattle.std.proofs.lemmas.Bool.{false≢true}
use Rattle.gb_core.specs.declared.ty.Ty.{Ty}
use Rattle.gb_core.specs.declared.var.Var.TheVariants as var
use Rattle.gb_terms.specs.declared.decl.TypedName.{TypedName}
use Rattle.gb_terms.specs.declared.op.Side.{Side}
use Rattle.gb_terms.specs.declared.op.Side.TheVariants as side
use Rattle.gb_terms.specs.declared.op.Read.{Read}
use Rattle.gb_terms.specs.declared.op.Read.TheVariants.{Logical, Program}
use Rattle.gb_terms.specs.declared.term.Term.{Term, Term'}
use Rattle.gb_terms.specs.declared.term.Head.TheVariants as head
use Rattle.gb_walk.specs.Change.{Changes, found_for_read, found_for_bound, read_changed, side_changed, term_changed}
use Rattle.gb_meaning.specs.Meanings.{value_in}
use Rattle.gb_meaning.specs.Memory.{Memory, read, read_local}
use Rattle.gb_meaning.specs.Names.{Name}
use Rattle.gb_meaning.specs.Runs.{greatest, most_turns, valued}
use Rattle.gb_meaning.specs.Setting.{Setting}
use Rattle.gb_meaning.specs.Setting.Meaning.{finite}
use Rattle.gb_meaning.specs.State.{State, inside, binding, meaning_in}
use Rattle.gb_meaning.specs.Terms.{denominator, quiet, read_at, val}
use Rattle.gb_meaning.specs.Written.{local_type, type_of}
use Rattle.gb_meaning.proofs.Nodes.{denominator_node, val_node}
use Rattle.gb_laws.specs.Led.{ArePut, IsPut, Led, put}
use Rattle.gb_laws.specs.Uses.Use.{read as reads, bound, globals, starts, binds_own, binds_sides}
use Rattle.gb_laws.proofs.Changing.{denominator_changed, plain_followed}
use Rattle.gb_laws.proofs.Puts.{formed_node, plain_node}
use Rattle.gb_typing.specs.Changes.{Becomes, IsLeaf, IsMemoryIn, Leads, Made}
use Rattle.gb_typing.specs.Context.{Context, Frame, of_program, reframed}
use Rattle.gb_typing.specs.Programs.{AreArguments, IsExpression}
use Rattle.gb_typing.specs.Typing.{IsPlace}
use Rattle.gb_typing.proofs.Anywhere.{value_anywhere}
use Rattle.gb_typing.proofs.Changed.{changed}
use Rattle.gb_typing.proofs.Expressions.{K, not_in}
use Rattle.gb_typing.proofs.Formed.{formed}
use Rattle.gb_typing.proofs.Made.{made_node}
use Rattle.gb_typing.proofs.Plain.{ArePlain, plain_changed}
use Rattle.gb_typing.proofs.Scripts.{none_some}
use Rattle.gb_typing.proofs.Uses.{nothing_in, plain_typed, reads_found}
use Rattle.gb_inline.specs.Renamed.{Renamings, name_renamed, reads_renamed}
use Rattle.gb_inline.proofs.Names.{AreApart, AreFor, own_read, read_found, renamed_type}

pub most_is : (v : Term) → most_turns v ≡ greatest (type_of v)
most_is (Term' p h n ts ty) = refl

-- Only reads of locals change, and the terms that take their places are reads of the own memory.

logical_kept : (rs : Renamings) (i : ℕ) → found_for_read (reads_renamed rs) (Logical i) ≡ None
logical_kept [] i = refl
logical_kept (r ∷ rs) i = logical_kept rs i

global_kept : (rs : Renamings) (m x : Name) (s : Side) → found_for_read (reads_renamed rs) (Program (var.Global m x) s) ≡ None
global_kept [] m x s = refl
global_kept (r ∷ rs) m x s = global_kept rs m x s

bound_kept : (rs : Renamings) (i : ℕ) → found_for_bound (reads_renamed rs) i ≡ None
bound_kept [] i = refl
bound_kept (r ∷ rs) i = bound_kept rs i

side_kept : (rs : Renamings) (s : Side) → side_changed (reads_renamed rs) s ≡ s
side_kept [] s = refl
side_kept (r ∷ rs) s = side_kept rs s

put_read : (g : Setting) (x : Name) (t : Ty) → IsPut g (own_read x t)
put_read g x t = record {
  formed = formed_node (head.Read (Program (var.Local x) side.Own)) [] t tt tt tt;
  plain = plain_node (head.Read (Program (var.Local x) side.Own)) [] t tt tt;
  denominator = denominator_node g (head.Read (Program (var.Local x) side.Own)) [] t;
}

pub all_put : (g : Setting) (rs : Renamings) → ArePut g (reads_renamed rs)
all_put g [] = tt
all_put g (r ∷ rs) = (put_read g r.new.name r.new.ty, all_put g rs)

all_plain : (rs : Renamings) → ArePlain (reads_renamed rs)
all_plain [] = tt
all_plain (r ∷ rs) = (plain_node (head.Read (Program (var.Local r.new.name) side.Own)) [] r.new.ty tt tt, all_plain rs)

-- one memory holds under the new names of these locals what the other one holds under their own
pub record Like (g : Setting) (ls : List TypedName) (rs : Renamings) (m n : Memory) : Type 0 where
  pub globals : m.globals ≡ n.globals
  pub locals : (x : Name) (t : Ty) → local_type ls x ≡ Some t → read_local g.types m x t ≡ read_local g.types n (name_renamed rs x) t

module _ (c : Context) (ls : List TypedName) (rs : Renamings) (are : AreFor rs ls) where
  abbrev cs : Changes
  cs = reads_renamed rs

  abbrev inner : Context
  inner = of_program c ls

  -- Meaning.
  module _ (g : Setting) where
    led : (q : State) (m n : Memory) → Like g ls rs m n → Led g quiet cs (K c ls) (inside q n) (inside q m)
    led q m n h (reads (Logical i) ty) k = ap (λ o. put g quiet o (q.logical i) (inside q n)) (logical_kept rs i)
    led q m n h (reads (Program (var.Local x) side.Own) ty) k =
        let w : local_type ls x ≡ Some ty = reads_found inner (Some ls) (var.Local x) ty k in
        ap (λ o. put g quiet o (read_at g (read_changed cs (Program (var.Local x) side.Own)) ty (inside q n)) (inside q n)) (read_found x ty rs ls are w)
        ∙ val_node g quiet (head.Read (Program (var.Local (name_renamed rs x)) side.Own)) [] ty (inside q n)
        ∙ ap finite (sym (h.locals x ty w))
    led q m n h (reads (Program (var.Global a x) side.Own) ty) k =
        ap (λ o. put g quiet o (read_at g (read_changed cs (Program (var.Global a x) side.Own)) ty (inside q n)) (inside q n)) (global_kept rs a x side.Own)
        ∙ ap (λ s. read_at g (Program (var.Global a x) s) ty (inside q n)) (side_kept rs side.Own)
        ∙ ap (λ z. finite (read g.types (record { globals = z; frame = n.frame }) (var.Global a x) ty)) (sym h.globals)
    led q m n h (reads (Program (var.Glob a) side.Own) ty) k = let w = reads_found inner (Some ls) (var.Glob a) ty k in absurd (false≢true w.1)
    led q m n h (reads (Program x side.Left) ty) k = absurd (not_in c ls x ty k)
    led q m n h (reads (Program x side.Right) ty) k = absurd (not_in c ls x ty k)
    led q m n h (reads (Program x (side.Memory i)) ty) k = absurd (not_in c ls x ty k)
    led q m n h (reads (Program x (side.Bound i)) ty) k = absurd (not_in c ls x ty k)
    led q m n h (bound i) k = ap (λ o. put g quiet o (meaning_in (binding (inside q n) i)) (inside q n)) (bound_kept rs i)
    led q m n h (globals x r) k = absurd (false≢true k)
    led q m n h (starts side.Own) k = absurd (false≢true k)
    led q m n h (starts side.Left) k = absurd (false≢true k)
    led q m n h (starts side.Right) k = absurd (false≢true k)
    led q m n h (starts (side.Memory i)) k = absurd (false≢true k)
    led q m n h (starts (side.Bound i)) k = absurd (false≢true k)
    led q m n h binds_own k = absurd (false≢true k)
    led q m n h binds_sides k = absurd (false≢true k)

    pub renamed_meaning : (e : Term) → IsExpression c ls e → (s q : State) (m n : Memory) → Like g ls rs m n → val g quiet e (inside s m) ≡ val g quiet (term_changed e cs) (inside q n)
    renamed_meaning e x s q m n h =
        value_anywhere c ls e x g s q m
        ∙ sym (plain_followed g quiet e (formed inner e x.typed) x.plain cs (K c ls) (inside q n) (inside q m) (all_put g rs) (led q m n h) (plain_typed inner e x.plain x.typed))

    pub renamed_denominator : (e : Term) → denominator g (term_changed e cs) ≡ denominator g e
    renamed_denominator e = denominator_changed g e cs (all_put g rs)

    pub renamed_value : (e : Term) → IsExpression c ls e → (s q : State) (m n : Memory) → Like g ls rs m n → valued g s e m ≡ valued g q (term_changed e cs) n
    renamed_value e x s q m n h = ap value_in (renamed_meaning e x s q m n h)

    pub renamed_values : (es : List Term) (ps : List TypedName) → AreArguments c ls es ps → (s q : State) (m n : Memory) → Like g ls rs m n →
        map (λ e. valued g s e m) es ≡ map (λ e. valued g q e n) (map (λ e. term_changed e cs) es)
    renamed_values [] ps w s q m n h = refl
    renamed_values (e ∷ es) [] w s q m n h = absurd w
    renamed_values (e ∷ es) (p ∷ ps) w s q m n h =
        let one = renamed_value e (let y = w.0.0 in y.expression) s q m n h in
        let two = renamed_values es ps w.1 s q m n h in
        λ i. one i ∷ two i

  -- Typing, where these locals stand behind the new ones.
  module _ (fs : List TypedName) (apart : AreApart rs) where
    abbrev pub news : List TypedName
    news = map (λ r. r.new) rs ++ fs

    abbrev outer : Context
    outer = of_program c news

    read_made : (x : Name) (ty : Ty) → IsLeaf inner (head.Read (Program (var.Local x) side.Own)) ty → (f l k : Frame) → f ≡ outer.own → Made (reframed outer f l k) ty (own_read (name_renamed rs x) ty)
    read_made x ty w f l k e =
        subst (λ f. Made (reframed outer f l k) ty (own_read (name_renamed rs x) ty)) (sym e)
        (made_node (reframed outer outer.own l k) (head.Read (Program (var.Local (name_renamed rs x)) side.Own)) [] [] ty (tt, w.0.1) (renamed_type x ty rs ls fs are apart w.1) [] tt)

    reads_lead : (r : Read) (ty : Ty) → IsLeaf inner (head.Read r) ty → Becomes false outer ty r (found_for_read cs r) (head.Read (read_changed cs r))
    reads_lead (Logical i) ty w = none_some ty w.0.1
    reads_lead (Program (var.Local x) side.Own) ty w =
        subst (λ o. Becomes false outer ty (Program (var.Local x) side.Own) o (head.Read (read_changed cs (Program (var.Local x) side.Own)))) (sym (read_found x ty rs ls are w.1))
        (plain_node (head.Read (Program (var.Local (name_renamed rs x)) side.Own)) [] ty tt tt, λ f l k keeps same. read_made x ty w f l k (same refl).0)
    reads_lead (Program (var.Global m x) side.Own) ty w =
        subst (λ o. Becomes false outer ty (Program (var.Global m x) side.Own) o (head.Read (read_changed cs (Program (var.Global m x) side.Own)))) (sym (global_kept rs m x side.Own))
        (subst (λ s. IsLeaf outer (head.Read (Program (var.Global m x) s)) ty) (sym (side_kept rs side.Own)) ((tt, w.0.1, w.0.2), (tt, w.1.1)))
    reads_lead (Program (var.Glob a) side.Own) ty w = absurd (false≢true w.1.1)
    reads_lead (Program x side.Left) ty w = absurd (nothing_in inner x ty w.1)
    reads_lead (Program x side.Right) ty w = absurd (nothing_in inner x ty w.1)
    reads_lead (Program x (side.Memory i)) ty w = absurd (nothing_in inner x ty w.1)
    reads_lead (Program x (side.Bound i)) ty w = absurd (nothing_in inner x ty w.1)

    sides_lead : (r : Side) → IsMemoryIn inner r → IsMemoryIn outer (side_changed cs r)
    sides_lead side.Own w = subst (IsMemoryIn outer) (sym (side_kept rs side.Own)) (tt, tt)
    sides_lead side.Left w = absurd w.1
    sides_lead side.Right w = absurd w.1
    sides_lead (side.Memory i) w = absurd w.1
    sides_lead (side.Bound i) w = absurd w.1

    leads : Leads false cs inner outer
    leads = record {
      reads = reads_lead;
      bounds = λ i ty w. absurd w;
      sides = sides_lead;
      places = λ r w. subst IsPlace (sym (side_kept rs r)) w;
      global = λ m x t e. e;
      operator = λ n o e. e;
      procedure = λ p. refl;
      has_globals = λ a e. absurd (false≢true e);
    }

    made : (e : Term) → IsExpression c ls e → Made outer (type_of e) (term_changed e cs)
    made e x = changed false e cs inner outer leads (inl x.plain) x.typed

    pub renamed_expression : (e : Term) → IsExpression c ls e → IsExpression c news (term_changed e cs)
    renamed_expression e x = record { typed = (made e x).typed; plain = plain_changed e cs (all_plain rs) x.plain }

    pub renamed_of_type : (e : Term) → IsExpression c ls e → type_of (term_changed e cs) ≡ type_of e
    renamed_of_type e x = (made e x).written
