-- The things of a term, and a term with labels, by its parts.
use Rattle.std.proofs.Common.{◌≡◌, ◌==◌, Bool, true, ◌&&◌, length, List, [], ◌∷◌, ◌++◌, map, refl, sym, ap, ◌∙◌, arith}
use Rattle.std.specs.List.{flat_map, list_all}
use Rattle.std.proofs.lemmas.Bool.{eqb-true}
use Rattle.gb_terms.specs.declared.term.Term.{Term, Term', Row_of-Term, end_of-Term, more_of-Term, end_of-Head, more_of-Head, items-the_row-Term, items_shown-the_row-Term-0}
use Rattle.gb_terms.specs.declared.term.Head.{Head}
use Rattle.gb_terms.specs.declared.term.Head.TheVariants as head
use Rattle.gb_terms.specs.declared.term.Head.TheViews.{out-Term, outs-struct-Term, roll-out-Term}
use Rattle.gb_terms.specs.Make.{node}
use Rattle.gb_meaning.specs.Written.{type_of}
use Rattle.gb_laws.specs.Typing.{types_of}
use Rattle.gb_walk.specs.Clash.{Exclusions}
use Rattle.gb_labels.specs.Reads.{Vars, are_free, reads_of}
use Rattle.gb_labels.specs.Labels.{Labels, labelled_ty}
use Rattle.gb_labels.specs.Things.{all_read_freely, all_things_at, bound_by, of_types, reads_freely, reads_inside, reads_under, thing_of, things_at}
use Rattle.gb_labels.specs.Labelled.{labelled_head, labelled, all_labelled}
use Rattle.gb_labels.proofs.Parts.{unlabelled_ty}

types_row : (n : _) (r : Row_of-Term n) → types_of r ≡ map type_of (items-the_row-Term n r)
types_row n end_of-Term = refl
types_row n (more_of-Term t r) = ap (λ l. type_of t ∷ l) (types_row _ r)

things_row : (n : _) (r : Row_of-Term n) → all_things_at r ≡ flat_map things_at (items-the_row-Term n r)
things_row n end_of-Term = refl
things_row n (more_of-Term t r) = ap (λ l. things_at t ++ l) (things_row _ r)

pub things_out : (t : Term) →
    things_at t ≡ thing_of (out-Term t).head t (out-Term t).ty ++ (of_types (bound_by (out-Term t).head (map type_of (out-Term t).args) (reads_under t)) ++ flat_map things_at (out-Term t).args)
unfolding Rattle.gb_terms.specs.declared.term.Head.TheBlock.shown-the_row-Head-2 denote.Hole.Carrier.shown
things_out (Term' p (more_of-Head h end_of-Head) n r ty) =
    let t : Term = Term' p (more_of-Head h end_of-Head) n r ty in
    let vs : Vars = reads_inside h r in
    (λ i. thing_of h t ty ++ (of_types (bound_by h (types_row _ r i) vs) ++ things_row _ r i))
    ∙ ap (λ l. thing_of h t ty ++ (of_types (bound_by h (map type_of l) vs) ++ flat_map things_at l)) (sym (items_shown-the_row-Term-0 n r))
    ∙ sym (ap (λ z. thing_of z.head t z.ty ++ (of_types (bound_by z.head (map type_of z.args) vs) ++ flat_map things_at z.args)) (outs-struct-Term p (more_of-Head h end_of-Head) n r ty))

-- What a term reads of the memory that its head binds.

abbrev pub reads_in : Head → List Term → Vars
reads_in head.AllMemory (t ∷ []) = reads_of t
reads_in head.SomeMemory (t ∷ []) = reads_of t
reads_in _ _ = []

reads_row : (h : Head) (n : _) (r : Row_of-Term n) → reads_inside h r ≡ reads_in h (items-the_row-Term n r)
reads_row head.AllMemory n end_of-Term = refl
reads_row head.AllMemory n (more_of-Term t end_of-Term) = refl
reads_row head.AllMemory n (more_of-Term t (more_of-Term u r)) = refl
reads_row head.SomeMemory n end_of-Term = refl
reads_row head.SomeMemory n (more_of-Term t end_of-Term) = refl
reads_row head.SomeMemory n (more_of-Term t (more_of-Term u r)) = refl
reads_row _ n r = refl

pub reads_out : (t : Term) → reads_under t ≡ reads_in (out-Term t).head (out-Term t).args
unfolding Rattle.gb_terms.specs.declared.term.Head.TheBlock.shown-the_row-Head-2 denote.Hole.Carrier.shown
reads_out (Term' p (more_of-Head h end_of-Head) n r ty) =
    reads_row h _ r
    ∙ ap (reads_in h) (sym (items_shown-the_row-Term-0 n r))
    ∙ sym (ap (λ z. reads_in z.head z.args) (outs-struct-Term p (more_of-Head h end_of-Head) n r ty))

freely_row : (es : Exclusions) (n : _) (r : Row_of-Term n) → all_read_freely es r ≡ list_all (reads_freely es) (items-the_row-Term n r)
freely_row es n end_of-Term = refl
freely_row es n (more_of-Term t r) = ap (λ b. reads_freely es t && b) (freely_row es _ r)

pub freely_out : (es : Exclusions) (t : Term) → reads_freely es t ≡ (are_free es (reads_under t) && list_all (reads_freely es) (out-Term t).args)
unfolding Rattle.gb_terms.specs.declared.term.Head.TheBlock.shown-the_row-Head-2 denote.Hole.Carrier.shown
freely_out es (Term' p (more_of-Head h end_of-Head) n r ty) =
    let free : Bool = are_free es (reads_inside h r) in
    ap (λ b. free && b) (freely_row es _ r)
    ∙ ap (λ l. free && list_all (reads_freely es) l) (sym (items_shown-the_row-Term-0 n r))
    ∙ sym (ap (λ z. free && list_all (reads_freely es) z.args) (outs-struct-Term p (more_of-Head h end_of-Head) n r ty))

module _ (ls : Labels) where
  labelled_row : (n : _) (r : Row_of-Term n) → items-the_row-Term n (all_labelled ls r) ≡ map (labelled ls) (items-the_row-Term n r)
  labelled_row n end_of-Term = refl
  labelled_row n (more_of-Term t r) = ap (λ l. labelled ls t ∷ l) (labelled_row _ r)

  pub labelled_out : (t : Term) → labelled ls t ≡ node (labelled_head ls (out-Term t).head) (map (labelled ls) (out-Term t).args) (labelled_ty ls (out-Term t).ty)
  unfolding Rattle.gb_terms.specs.declared.term.Head.TheBlock.shown-the_row-Head-2 denote.Hole.Carrier.shown
  labelled_out (Term' p (more_of-Head h end_of-Head) n r ty) =
      let made : Term = Term' p (more_of-Head (labelled_head ls h) end_of-Head) n (all_labelled ls r) (labelled_ty ls ty) in
      sym (roll-out-Term made)
      ∙ ap (λ z. node z.head z.args z.ty) (outs-struct-Term p (more_of-Head (labelled_head ls h) end_of-Head) n (all_labelled ls r) (labelled_ty ls ty))
      ∙ ap (λ l. node (labelled_head ls h) l (labelled_ty ls ty)) (items_shown-the_row-Term-0 n (all_labelled ls r) ∙ labelled_row _ r ∙ ap (map (labelled ls)) (sym (items_shown-the_row-Term-0 n r)))
      ∙ sym (ap (λ z. node (labelled_head ls z.head) (map (labelled ls) z.args) (labelled_ty ls z.ty)) (outs-struct-Term p (more_of-Head h end_of-Head) n r ty))

-- Without numbers of labels nothing changes.

head_unlabelled : (h : Head) → labelled_head [] h ≡ h
head_unlabelled (head.All u) = ap head.All (unlabelled_ty u)
head_unlabelled (head.Some u) = ap head.Some (unlabelled_ty u)
head_unlabelled _ = refl

mutual
  pub unlabelled : (t : Term) → labelled [] t ≡ t
  unlabelled (Term' p (more_of-Head h end_of-Head) n r ty) = λ i. Term' p (more_of-Head (head_unlabelled h i) end_of-Head) n (rows_unlabelled r i) (unlabelled_ty ty i)

  rows_unlabelled : {n : _} (r : Row_of-Term n) → all_labelled [] r ≡ r
  rows_unlabelled end_of-Term = refl
  rows_unlabelled (more_of-Term t r) = λ i. more_of-Term (unlabelled t i) (rows_unlabelled r i)

pub unlabelled_by : (ls : Labels) (t : Term) → (length ls == 0) ≡ true → t ≡ labelled ls t
unlabelled_by [] t e = sym (unlabelled t)
unlabelled_by (l ∷ ls) t e = let n = eqb-true (length (l ∷ ls)) 0 e in absurd (omega (arith, n))

pub unlabelled_all : (ts : List Term) → map (labelled []) ts ≡ ts
unlabelled_all [] = refl
unlabelled_all (t ∷ ts) = λ i. unlabelled t i ∷ unlabelled_all ts i
