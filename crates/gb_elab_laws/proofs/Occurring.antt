-- The locals that a well-typed term reads are locals of the memories around it.
use Rattle.std.proofs.Common.{◌≡◌, Bool, true, false, if◌then◌else◌, List, [], ◌∷◌, ◌++◌, map, flat_map, Option, Some, None, refl, ap, sym, ◌∙◌, subst}
use Rattle.gb_core.specs.declared.ty.Ty.{Ty}
use Rattle.gb_core.specs.declared.var.Var.{Var}
use Rattle.gb_core.specs.declared.var.Var.TheVariants as var
use Rattle.gb_terms.specs.declared.decl.TypedName.{TypedName}
use Rattle.gb_terms.specs.declared.op.Side.{Side}
use Rattle.gb_terms.specs.declared.op.Side.TheVariants as side
use Rattle.gb_terms.specs.declared.op.Read.TheVariants.{Logical, Program}
use Rattle.gb_terms.specs.declared.term.Term.{Term, Term', Row_of-Term, end_of-Term, more_of-Term, end_of-Head, more_of-Head}
use Rattle.gb_terms.specs.declared.term.Head.{Head}
use Rattle.gb_terms.specs.declared.term.Subject.{Subject}
use Rattle.gb_terms.specs.declared.term.Instr.{Instr}
use Rattle.gb_terms.specs.declared.term.Cmd.{Cmd}
use Rattle.gb_terms.specs.declared.term.Head.TheOpen as layer
use Rattle.gb_terms.specs.declared.term.Head.TheVariants as head
use Rattle.gb_terms.specs.declared.term.Head.TheViews.{the_lemmas, out-Head, roll-Head, roll-out-Head}
use Rattle.gb_terms.specs.declared.term.Head.TheFolds.{map-Head, fold-Head, fold_out-Term, fold_out-Head}
use Rattle.gb_terms.specs.Equal.{side_eq}
use Rattle.gb_meaning.specs.Commands.{terms_in}
use Rattle.gb_laws.proofs.Trees.{out_is}
use Rattle.gb_elab_mod.specs.Occurring.{Closed, Locals, local, at_head, at_term, or_args, read_locals}
use Rattle.std.specs.List.{list_any}
use Rattle.std.proofs.Common.{bytes_eq}
use Rattle.sqlite_items.specs.formers.items.Items.{the_former}
use Rattle.gb_elab_mod.specs.Occurring.{added, with_all}
use Rattle.gb_meaning.specs.Operators.{outcome_type}
use Rattle.gb_laws.specs.Typing.{Binder, types_of}
use Rattle.gb_laws.specs.Typing.Binder.{value, index, memory, program}
use Rattle.gb_typing.specs.Context.{Frame, Context, frame_of, local_in, within}
use Rattle.gb_typing.specs.Typing.{IsIn, IsNamed, first, middle, last, IsTyped, AreTyped}
use Rattle.gb_elab_laws.specs.Reading.{IsOuter, StandIn}
use Rattle.gb_elab_laws.proofs.Given.{none_some, same_some}
use mathlib.Core.Former.{Count, arity, this}

-- what a head reads through a side, by its constructors
abbrev pub head_locals : Head → Closed
head_locals (head.Read (Program x through)) s t = Some (if side_eq through s then local x t else [])
head_locals (head.Pr p m) s t = Some []
head_locals (head.Hoare j) s t = Some []
head_locals (head.Phoare j r) s t = Some []
head_locals (head.Equiv j k) s t = Some []
head_locals _ s t = None

abbrev folded_head : Head → Closed
folded_head = fold-Head Closed (Unit {0}) (Unit {0}) (Unit {0}) Locals at_head (λ i. tt) (λ j. tt) (λ c. tt) at_term

abbrev HeadLayer : Type 0
HeadLayer = layer.Head-F Head Instr Subject Cmd Term

layer_locals : (x : HeadLayer) (s : Side) (t : Ty) →
    at_head (map-Head _ _ _ _ _ Closed (Unit {0}) (Unit {0}) (Unit {0}) Locals folded_head (λ i. tt) (λ j. tt) (λ c. tt) read_locals x) s t ≡ head_locals (roll-Head x) s t
layer_locals (layer.Read (Program y r)) s t = simp the_lemmas refl
layer_locals (layer.Read (Logical i)) s t = simp the_lemmas refl
layer_locals _ s t = simp the_lemmas refl

folded_is : (h : Head) (s : Side) (t : Ty) → folded_head h s t ≡ head_locals h s t
folded_is h s t =
    ap (λ f. f s t) (fold_out-Head Closed (Unit {0}) (Unit {0}) (Unit {0}) Locals at_head (λ i. tt) (λ j. tt) (λ c. tt) at_term h)
    ∙ layer_locals (out-Head h) s t
    ∙ ap (λ z. head_locals z s t) (roll-out-Head h)

pub read_is : (h : Head) (n : List (Unit {0})) (ts : Row_of-Term (arity (the_former (this {0})) n)) (ty : Ty) (s : Side) →
    read_locals (Term' tt (more_of-Head h end_of-Head) n ts ty) s ≡ or_args (head_locals h s ty) (flat_map (λ (a : Locals). a s) (map read_locals (terms_in ts)))
read_is h n ts ty s =
    ap (λ f. f s) (fold_out-Term Closed (Unit {0}) (Unit {0}) (Unit {0}) Locals at_head (λ i. tt) (λ j. tt) (λ c. tt) at_term (Term' tt (more_of-Head h end_of-Head) n ts ty))
    ∙ ap (λ z. or_args (folded_head z.head s z.ty) (flat_map (λ (a : Locals). a s) (map read_locals z.args))) (out_is h n ts ty)
    ∙ ap (λ o. or_args o (flat_map (λ (a : Locals). a s) (map read_locals (terms_in ts)))) (folded_is h s ty)

pub stand_both : (f : Frame) (xs ys : List TypedName) → StandIn f xs → StandIn f ys → StandIn f (xs ++ ys)
stand_both f [] ys h k = k
stand_both f (x ∷ xs) ys h k = (h.0, stand_both f xs ys h.1 k)

pub local_stands : (c : Context) (f : Frame) (x : Var) (t : Ty) → IsIn c f x t → StandIn f (local x t)
local_stands c f (var.Local x) t h = (h, tt)
local_stands c f (var.Global m x) t h = tt
local_stands c f (var.Glob a) t h = tt

read_stands : (c : Context) (x : Var) (t : Ty) (r s : Side) → IsOuter s → IsIn c (frame_of c r) x t → StandIn (frame_of c s) (if side_eq r s then local x t else [])
read_stands c x t r (side.Memory i) o h = absurd o
read_stands c x t r (side.Bound i) o h = absurd o
read_stands c x t side.Own side.Own o h = local_stands c c.own x t h
read_stands c x t side.Left side.Left o h = local_stands c c.left x t h
read_stands c x t side.Right side.Right o h = local_stands c c.right x t h
read_stands c x t _ _ o h = tt

head_stands : (c : Context) (h : Head) (t : Ty) (s : Side) → IsOuter s → IsNamed c h t → (xs : List TypedName) → head_locals h s t ≡ Some xs → StandIn (frame_of c s) xs
head_stands c (head.Read (Program x r)) t s o k xs e = subst (StandIn (frame_of c s)) (same_some _ xs e) (read_stands c x t r s o k)
head_stands c (head.Pr p m) t s o k xs e = subst (StandIn (frame_of c s)) (same_some [] xs e) tt
head_stands c (head.Hoare j) t s o k xs e = subst (StandIn (frame_of c s)) (same_some [] xs e) tt
head_stands c (head.Phoare j r) t s o k xs e = subst (StandIn (frame_of c s)) (same_some [] xs e) tt
head_stands c (head.Equiv i j) t s o k xs e = subst (StandIn (frame_of c s)) (same_some [] xs e) tt
head_stands c _ t s o k xs e = none_some xs e

-- Where the arguments of a head are looked at, their outer memories are those of the term.

first_frame : (c : Context) (h : Head) (t : Ty) (s : Side) → head_locals h s t ≡ None → frame_of (first c h) s ≡ frame_of c s
first_frame c (head.Hoare j) t s e = none_some [] (sym e)
first_frame c (head.Phoare j r) t s e = none_some [] (sym e)
first_frame c (head.Equiv i j) t s e = none_some [] (sym e)
first_frame c _ t s e = refl

middle_frame : (c : Context) (h : Head) (t : Ty) (s : Side) → head_locals h s t ≡ None → frame_of (middle c h) s ≡ frame_of c s
middle_frame c (head.Hoare j) t s e = none_some [] (sym e)
middle_frame c (head.Phoare j r) t s e = none_some [] (sym e)
middle_frame c (head.Equiv i j) t s e = none_some [] (sym e)
middle_frame c _ t s e = refl

within_frame : (c : Context) (b : Binder) (f : Frame) (s : Side) → IsOuter s → frame_of (within c b f) s ≡ frame_of c s
within_frame c b f side.Own o = refl
within_frame c b f side.Left o = refl
within_frame c b f side.Right o = refl
within_frame c b f (side.Memory i) o = absurd o
within_frame c b f (side.Bound i) o = absurd o

last_frame : (c : Context) (ls : List TypedName) (h : Head) (us : List Ty) (t : Ty) (s : Side) → IsOuter s → head_locals h s t ≡ None → frame_of (last c ls h us) s ≡ frame_of c s
last_frame c ls (head.All u) us t s o e = within_frame c (value u) None s o
last_frame c ls (head.Some u) us t s o e = within_frame c (value u) None s o
last_frame c ls head.AllMemory us t s o e = within_frame c memory (Some ls) s o
last_frame c ls head.SomeMemory us t s o e = within_frame c memory (Some ls) s o
last_frame c ls (head.AllModule b) us t s o e = within_frame c program None s o
last_frame c ls (head.Sum q) us t s o e = within_frame c (index q) None s o
last_frame c ls head.Mu [] t s o e = refl
last_frame c ls head.Mu (u ∷ us) t s o e = within_frame c (value (outcome_type u)) None s o
last_frame c ls head.Map [] t s o e = refl
last_frame c ls head.Map (u ∷ us) t s o e = within_frame c (value (outcome_type u)) None s o
last_frame c ls head.Restrict [] t s o e = refl
last_frame c ls head.Restrict (u ∷ us) t s o e = within_frame c (value (outcome_type u)) None s o
last_frame c ls (head.Pr p m) us t s o e = none_some [] (sym e)
last_frame c ls (head.Hoare j) us t s o e = none_some [] (sym e)
last_frame c ls (head.Phoare j r) us t s o e = none_some [] (sym e)
last_frame c ls (head.Equiv i j) us t s o e = none_some [] (sym e)
last_frame c ls _ us t s o e = refl

chosen : (c : Context) (h : Head) (t : Ty) (s : Side) → IsOuter s → IsNamed c h t → (ys : List TypedName) → (head_locals h s t ≡ None → StandIn (frame_of c s) ys) →
    (o : Option (List TypedName)) → head_locals h s t ≡ o → StandIn (frame_of c s) (or_args o ys)
chosen c h t s o k ys f (Some xs) e = head_stands c h t s o k xs e
chosen c h t s o k ys f None e = f e

mutual
  -- what a well-typed term reads through an outer memory is a local of it
  pub reads_stand : (c : Context) (t : Term) → IsTyped c t → (s : Side) → IsOuter s → StandIn (frame_of c s) (read_locals t s)
  reads_stand c (Term' tt (more_of-Head h end_of-Head) n ts ty) k s o =
      subst (StandIn (frame_of c s)) (sym (read_is h n ts ty s))
      (chosen c h ty s o k.1 (flat_map (λ (a : Locals). a s) (map read_locals (terms_in ts)))
      (λ e. rows_stand (first c h) (middle c h) (last c k.2 h (types_of ts)) (frame_of c s) ts k.3 s o (first_frame c h ty s e) (middle_frame c h ty s e) (last_frame c k.2 h (types_of ts) ty s o e))
      (head_locals h s ty) refl)

  rows_stand : {n : Count} (a b d : Context) (f : Frame) (ts : Row_of-Term n) → AreTyped a b d ts → (s : Side) → IsOuter s →
      frame_of a s ≡ f → frame_of b s ≡ f → frame_of d s ≡ f → StandIn f (flat_map (λ (l : Locals). l s) (map read_locals (terms_in ts)))
  rows_stand a b d f end_of-Term k s o x y z = tt
  rows_stand a b d f (more_of-Term t end_of-Term) k s o x y z = stand_both f (read_locals t s) [] (subst (λ g. StandIn g (read_locals t s)) z (reads_stand d t k s o)) tt
  rows_stand a b d f (more_of-Term t (more_of-Term u ts)) k s o x y z =
      stand_both f (read_locals t s) (flat_map (λ (l : Locals). l s) (map read_locals (terms_in (more_of-Term u ts))))
      (subst (λ g. StandIn g (read_locals t s)) x (reads_stand a t k.0 s o)) (rows_stand b b d f (more_of-Term u ts) k.1 s o y y z)

added_stand : (f : Frame) (vs : List TypedName) (x : TypedName) → StandIn f vs → local_in f x.name ≡ Some x.ty → StandIn f (added vs x)
added_stand f vs x h k = step (list_any (λ (v : TypedName). bytes_eq v.name x.name) vs)
  where
    step : (b : Bool) → StandIn f (if b then vs else vs ++ x ∷ [])
    step true = h
    step false = stand_both f vs (x ∷ []) h (k, tt)

pub all_stand : (f : Frame) (vs xs : List TypedName) → StandIn f vs → StandIn f xs → StandIn f (with_all vs xs)
all_stand f vs [] h k = h
all_stand f vs (x ∷ xs) h k = all_stand f (added vs x) xs (added_stand f vs x h k.0) k.1
