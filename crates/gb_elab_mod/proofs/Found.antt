-- The locals that are found in a term, part by part.
use Rattle.std.proofs.Common.{◌≡◌, ℕ, ◌+◌, ◌<◌, if◌then◌else◌, List, [], ◌∷◌, ◌++◌, flat_map, length, get_or, drop, Some, None, refl, sym, ap, ◌∙◌}
use Rattle.std.proofs.lemmas.List.{at_drop_more}
use Rattle.std.proofs.lemmas.List.Folds.{flat_map-map}
use Rattle.gb_core.specs.declared.ty.Ty.{Ty}
use Rattle.gb_core.specs.declared.var.Var.{Var}
use Rattle.gb_terms.specs.declared.decl.TypedName.{TypedName}
use Rattle.gb_terms.specs.declared.module.ProcRef.{ProcRef}
use Rattle.gb_terms.specs.declared.op.Read.{Read}
use Rattle.gb_terms.specs.declared.op.Rel.{Rel}
use Rattle.gb_terms.specs.declared.op.Side.{Side}
use Rattle.gb_terms.specs.declared.op.Side.TheVariants as side
use Rattle.gb_terms.specs.declared.op.Read.TheVariants.{Logical, Program}
use Rattle.gb_terms.specs.declared.term.Term.{Term, out-Term, Row_of-Term, end_of-Term, more_of-Term, items-the_row-Term, items_hidden-the_row-Term-0}
use Rattle.gb_terms.specs.declared.term.Head.{Head}
use Rattle.gb_terms.specs.declared.term.Subject.{Subject}
use Rattle.gb_terms.specs.declared.term.Instr.{Instr, Row_of-Instr, end_of-Instr, more_of-Instr}
use Rattle.gb_terms.specs.declared.term.Cmd.{Cmd, items-the_row-Instr, items_hidden-the_row-Instr-1}
use Rattle.gb_terms.specs.declared.term.Head.TheBlock as B
use Rattle.gb_terms.specs.declared.term.Head.TheVariants.{Call, If, While}
use Rattle.gb_terms.specs.declared.term.Head.TheOpen as layer
use Rattle.gb_terms.specs.declared.term.Head.TheVariants as head
use Rattle.gb_terms.specs.declared.term.Head.TheViews.{the_lemmas, out-Head, roll-Head, roll-out-Head}
use Rattle.gb_terms.specs.declared.term.Head.TheFolds.{map-Head, fold-Head, fold_out-Term, fold_out-Head}
use Rattle.gb_terms.specs.Equal.{side_eq}
use Rattle.gb_goal.specs.Interfaces.{procedure_type}
use Rattle.gb_goal.specs.Scope.{Declarations}
use Rattle.gb_elab_mod.specs.Occurring.{Closed, Locals, added, at_head, at_term, local, or_args, read_locals, returned, row_locals, row_read, statement_locals, with_all}
use mathlib.Core.Former.{Count}

pub with_append : (vs xs ys : List TypedName) → with_all vs (xs ++ ys) ≡ with_all (with_all vs xs) ys
with_append vs [] ys = refl
with_append vs (x ∷ xs) ys = with_append (added vs x) xs ys

-- the locals of one part more of a list
pub with_more : {X : Type 0} (f : X → List TypedName) (vs : List TypedName) (xs : List X) (i : ℕ) (x : X) → i < length xs → x ≡ get_or xs i x →
    with_all vs (flat_map f (drop i xs)) ≡ with_all (with_all vs (f x)) (flat_map f (drop (i + 1) xs))
with_more f vs xs i x h e =
    at_drop_more (λ ys. with_all vs (flat_map f ys)) xs i x h
    ∙ ap (λ y. with_all vs (flat_map f (y ∷ drop (i + 1) xs))) (sym e)
    ∙ with_append vs (f x) (flat_map f (drop (i + 1) xs))

-- what a head reads through a side, by its constructors
abbrev pub head_locals : Head → Closed
head_locals (head.Read (Program x through)) s t = Some (if side_eq through s then local x t else [])
head_locals (head.Pr p m) s t = Some []
head_locals (head.Hoare j) s t = Some []
head_locals (head.Phoare j r) s t = Some []
head_locals (head.Equiv j k) s t = Some []
head_locals _ s t = None

-- a head that is no read, and that has no memories of its own
pub others : (h : Head) (s : Side) (t : Ty) → ((r : Read) → h ≡ head.Read r → ⊥) → ((p : ProcRef) (m : Side) → h ≡ head.Pr p m → ⊥) → ((j : Subject) → h ≡ head.Hoare j → ⊥) →
    ((j : Subject) (r : Rel) → h ≡ head.Phoare j r → ⊥) → ((j k : Subject) → h ≡ head.Equiv j k → ⊥) → head_locals h s t ≡ None
others (head.Read r) s t a b c d e = absurd (a r refl)
others (head.Pr p m) s t a b c d e = absurd (b p m refl)
others (head.Hoare j) s t a b c d e = absurd (c j refl)
others (head.Phoare j r) s t a b c d e = absurd (d j r refl)
others (head.Equiv j k) s t a b c d e = absurd (e j k refl)
others _ s t a b c d e = refl

abbrev folded_head : Head → Closed
folded_head = fold-Head Closed (Unit {0}) (Unit {0}) (Unit {0}) Locals at_head (λ i. tt) (λ j. tt) (λ c. tt) at_term

layer_locals : (x : layer.Head-F Head Instr Subject Cmd Term) (s : Side) (t : Ty) →
    at_head (map-Head _ _ _ _ _ Closed (Unit {0}) (Unit {0}) (Unit {0}) Locals folded_head (λ i. tt) (λ j. tt) (λ c. tt) read_locals x) s t ≡ head_locals (roll-Head x) s t
layer_locals (layer.Read (Program y r)) s t = simp the_lemmas refl
layer_locals (layer.Read (Logical i)) s t = simp the_lemmas refl
layer_locals _ s t = simp the_lemmas refl

folded_is : (h : Head) (s : Side) (t : Ty) → folded_head h s t ≡ head_locals h s t
folded_is h s t =
    ap (λ f. f s t) (fold_out-Head Closed (Unit {0}) (Unit {0}) (Unit {0}) Locals at_head (λ i. tt) (λ j. tt) (λ c. tt) at_term h)
    ∙ layer_locals (out-Head h) s t
    ∙ ap (λ z. head_locals z s t) (roll-out-Head h)

-- the locals of a term, by its head and its arguments
pub read_locals_out : (t : Term) (s : Side) →
    read_locals t s ≡ or_args (head_locals (out-Term t).head s (out-Term t).ty) (flat_map (λ u. read_locals u s) (out-Term t).args)
read_locals_out t s =
    ap (λ f. f s) (fold_out-Term Closed (Unit {0}) (Unit {0}) (Unit {0}) Locals at_head (λ i. tt) (λ j. tt) (λ c. tt) at_term t)
    ∙ ap (or_args (folded_head (out-Term t).head s (out-Term t).ty)) (flat_map-map (λ (a : Locals). a s) read_locals (out-Term t).args)
    ∙ ap (λ o. or_args o (flat_map (λ u. read_locals u s) (out-Term t).args)) (folded_is (out-Term t).head s (out-Term t).ty)

pub with_three : (vs xs ys zs : List TypedName) → with_all vs (xs ++ (ys ++ zs)) ≡ with_all (with_all (with_all vs xs) ys) zs
with_three vs xs ys zs = with_append vs xs (ys ++ zs) ∙ with_append (with_all vs xs) ys zs

-- the locals of a statement, by the lists of its terms and of the statements in it

row_terms : {n : Count} (r : Row_of-Term n) → row_read r ≡ flat_map (λ t. read_locals t side.Own) (items-the_row-Term _ r)
row_terms end_of-Term = refl
row_terms (more_of-Term t r) = ap (λ xs. read_locals t side.Own ++ xs) (row_terms r)

module _ (ds : Declarations) where
  row_body : {n : Count} (r : Row_of-Instr n) → row_locals ds r ≡ flat_map (statement_locals ds) (items-the_row-Instr _ r)
  row_body end_of-Instr = refl
  row_body (more_of-Instr i r) = ap (λ xs. statement_locals ds i ++ xs) (row_body r)

  body_locals : (is : List Instr) → row_locals ds (B.hidden-the_row-Instr-1 is) ≡ flat_map (statement_locals ds) is
  body_locals is = row_body (B.hidden-the_row-Instr-1 is) ∙ ap (flat_map (statement_locals ds)) (items_hidden-the_row-Instr-1 is)

  pub call_locals : (xs : List Var) (p : ProcRef) (es : List Term) → statement_locals ds (Call xs p es) ≡ returned xs (procedure_type ds None p) ++ flat_map (λ t. read_locals t side.Own) es
  call_locals xs p es =
      ap (λ ys. returned xs (procedure_type ds None p) ++ ys) (row_terms (B.hidden-the_row-Term-0 es) ∙ ap (flat_map (λ t. read_locals t side.Own)) (items_hidden-the_row-Term-0 es))

  pub if_locals : (e : Term) (a b : Cmd) →
      statement_locals ds (If e a b) ≡ read_locals e side.Own ++ (flat_map (statement_locals ds) a.list ++ flat_map (statement_locals ds) b.list)
  if_locals e a b = λ i. read_locals e side.Own ++ (body_locals a.list i ++ body_locals b.list i)

  pub while_locals : (e v : Term) (a : Cmd) → statement_locals ds (While e v a) ≡ read_locals e side.Own ++ (read_locals v side.Own ++ flat_map (statement_locals ds) a.list)
  while_locals e v a = λ i. read_locals e side.Own ++ (read_locals v side.Own ++ body_locals a.list i)
