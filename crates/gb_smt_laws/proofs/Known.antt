-- What evaluation knows is simple.
use Rattle.std.proofs.Common.{◌≡◌, suc, Bool, true, false, ◌&&◌, ◌==◌, Option, Some, None, List, [], ◌∷◌, ◌++◌, length, refl, ap, ◌∙◌, arith}
use Rattle.std.specs.List.{list_all, flat_map, AllByRecursion}
use Rattle.std.proofs.lemmas.Bool.{false≢true, and_parts, and_from}
use Rattle.std.proofs.lemmas.Bool.Decides.{Decides-eqb}
use Rattle.gb_core.specs.declared.ty.Ty.{Ty}
use Rattle.gb_core.specs.Types.{is_finite}
use Rattle.gb_terms.specs.declared.op.Side.TheVariants as side
use Rattle.gb_terms.specs.declared.op.Read.{Read}
use Rattle.gb_terms.specs.declared.op.Read.TheVariants.{Logical, Program}
use Rattle.gb_terms.specs.declared.term.Term.{Term, Term', Row_of-Term, end_of-Term, more_of-Term, end_of-Head, more_of-Head}
use Rattle.gb_terms.specs.declared.term.Head.{Head}
use Rattle.gb_terms.specs.declared.term.Head.TheVariants as head
use Rattle.gb_terms.specs.declared.term.Head.TheOpen as layer
use Rattle.gb_terms.specs.declared.term.Head.TheViews.{the_lemmas, out-Head, roll-Head, roll-out-Head}
use Rattle.gb_terms.specs.declared.term.Head.TheFolds.{map-Head, fold-Instr, fold-Subject, fold-Cmd, fold_out-Head}
use Rattle.gb_meaning.specs.Commands.{terms_in}
use Rattle.sqlite_items.specs.formers.items.Items.{the_former}
use Rattle.gb_laws.proofs.Trees.{out_is, HeadLayer}
use Rattle.gb_laws.specs.Typing.{types_of}
use Rattle.gb_meaning.specs.Names.{Name}
use Rattle.gb_eval.specs.Known.{is_known, all_known, is_head_known, are_of_outcomes, are_true}
use Rattle.gb_closing.specs.Linked.{Vars}
use Rattle.gb_equality.specs.Variables.{at_head, at_instr, at_subject, at_cmd, at_term, of_read, term_variables, head_read, variable_of}
use Rattle.gb_equality.proofs.Layers.{variables_out}
use Rattle.gb_smt_laws.specs.Simple.{is_simple, all_simple, only, both}
use Rattle.gb_smt_laws.specs.Reading.{Variables, Reading, IsReadAt, inner}
use mathlib.Core.Former.{Count, arity, this}

pub two_is_one : (n : _) (A : Type 0) → (suc (suc n) == 1) ≡ true → A
two_is_one n A h = let e = (Decides-eqb (suc (suc n)) 1).0 h in absurd (omega (arith, e))

pub none_is_one : (A : Type 0) → (0 == 1) ≡ true → A
none_is_one A h = let e = (Decides-eqb 0 1).0 h in absurd (omega (arith, e))

pub some_is_none : (n : _) (A : Type 0) → (suc n == 0) ≡ true → A
some_is_none n A h = let e = (Decides-eqb (suc n) 0).0 h in absurd (omega (arith, e))

-- a quantifier that is known has one argument
pub one_argument : {n : Count} (ts : Row_of-Term n) (u : Ty) → ((length (types_of ts) == 1) && is_finite u) ≡ true → (length (types_of ts) == 1) ≡ true
one_argument ts u k = (and_parts (length (types_of ts) == 1) (is_finite u) k).0

-- by whether evaluation knows the operators of the script
module _ (ks : Name → Bool) where
  -- a node that is known: its head is, and each argument
  pub known_parts : {n : Count} (h : Head) (ty : Ty) (ts : Row_of-Term n) → (is_head_known ks h ty (types_of ts) && are_true (all_known ks ts)) ≡ true →
      (is_head_known ks h ty (types_of ts) ≡ true) × (are_true (all_known ks ts) ≡ true)
  known_parts h ty ts k = and_parts (is_head_known ks h ty (types_of ts)) (are_true (all_known ks ts)) k

  mutual
    pub known_simple : (t : Term) → is_known ks t ≡ true → is_simple t ≡ true
    known_simple (Term' p (more_of-Head (head.Lit v) end_of-Head) n ts ty) k = refl
    known_simple (Term' p (more_of-Head (head.Whole v) end_of-Head) n ts ty) k = refl
    known_simple (Term' p (more_of-Head (head.Read r) end_of-Head) n ts ty) k = refl
    known_simple (Term' p (more_of-Head (head.Bound i) end_of-Head) n ts ty) k = refl
    known_simple (Term' p (more_of-Head (head.Builtin o) end_of-Head) n ts ty) k = row_simple ts (known_parts (head.Builtin o) ty ts k).1
    known_simple (Term' p (more_of-Head (head.User v) end_of-Head) n ts ty) k = row_simple ts (known_parts (head.User v) ty ts k).1
    known_simple (Term' p (more_of-Head (head.All u) end_of-Head) n ts ty) k =
        let both = known_parts (head.All u) ty ts k in
        only_simple ts (one_argument ts u both.0) both.1
    known_simple (Term' p (more_of-Head (head.Some u) end_of-Head) n ts ty) k =
        let both = known_parts (head.Some u) ty ts k in
        only_simple ts (one_argument ts u both.0) both.1
    known_simple (Term' p (more_of-Head (head.Sum q) end_of-Head) n ts ty) k =
        let both = known_parts (head.Sum q) ty ts k in
        only_simple ts both.0 both.1
    known_simple (Term' p (more_of-Head head.AllMemory end_of-Head) n ts ty) k =
        let both = known_parts head.AllMemory ty ts k in
        only_simple ts both.0 both.1
    known_simple (Term' p (more_of-Head head.SomeMemory end_of-Head) n ts ty) k =
        let both = known_parts head.SomeMemory ty ts k in
        only_simple ts both.0 both.1
    known_simple (Term' p (more_of-Head head.Mu end_of-Head) n ts ty) k =
        let both = known_parts head.Mu ty ts k in
        both_simple ts both.0 both.1
    known_simple (Term' p (more_of-Head (head.Weights ps) end_of-Head) n ts ty) k = row_simple ts (known_parts (head.Weights ps) ty ts k).1
    known_simple (Term' p (more_of-Head head.Map end_of-Head) n ts ty) k =
        let both = known_parts head.Map ty ts k in
        both_simple ts both.0 both.1
    known_simple (Term' p (more_of-Head head.Restrict end_of-Head) n ts ty) k =
        let both = known_parts head.Restrict ty ts k in
        both_simple ts both.0 both.1
    known_simple (Term' p (more_of-Head h end_of-Head) n ts ty) k = absurd (false≢true k)

    row_simple : {n : Count} (ts : Row_of-Term n) → are_true (all_known ks ts) ≡ true → list_all (λ b. b) (all_simple ts) ≡ true
    row_simple end_of-Term l = refl
    row_simple (more_of-Term t ts) l =
        let both = and_parts (is_known ks t) (are_true (all_known ks ts)) l in
        and_from (is_simple t) (list_all (λ b. b) (all_simple ts)) (known_simple t both.0) (row_simple ts both.1)

    only_simple : {n : Count} (ts : Row_of-Term n) → (length (types_of ts) == 1) ≡ true → are_true (all_known ks ts) ≡ true → only (all_simple ts) ≡ true
    only_simple end_of-Term e l = none_is_one _ e
    only_simple (more_of-Term t end_of-Term) e l = known_simple t (and_parts (is_known ks t) true l).0
    only_simple (more_of-Term t (more_of-Term v ts)) e l = two_is_one (length (types_of ts)) _ e

    both_simple : {n : Count} (ts : Row_of-Term n) → are_of_outcomes (types_of ts) ≡ true → are_true (all_known ks ts) ≡ true → both (all_simple ts) ≡ true
    both_simple end_of-Term e l = absurd (false≢true e)
    both_simple (more_of-Term t end_of-Term) e l = absurd (false≢true e)
    both_simple (more_of-Term t (more_of-Term v end_of-Term)) e l =
        let first = and_parts (is_known ks t) (is_known ks v && true) l in
        and_from (is_simple t) (is_simple v) (known_simple t first.0) (known_simple v (and_parts (is_known ks v) true first.1).0)
    both_simple (more_of-Term t (more_of-Term v (more_of-Term w ts))) e l = absurd (false≢true e)

-- the variables of a term, by its constructors

abbrev pub read_of : Head → Option Read
read_of (head.Read r) = variable_of r
read_of _ = None

read_layer : (x : HeadLayer) →
    at_head (map-Head _ _ _ _ _ (Option Read) (Unit {0}) (Unit {0}) (Unit {0}) Vars head_read (fold-Instr (Option Read) (Unit {0}) (Unit {0}) (Unit {0}) Vars at_head at_instr at_subject at_cmd at_term) (fold-Subject (Option Read) (Unit {0}) (Unit {0}) (Unit {0}) Vars at_head at_instr at_subject at_cmd at_term) (fold-Cmd (Option Read) (Unit {0}) (Unit {0}) (Unit {0}) Vars at_head at_instr at_subject at_cmd at_term) term_variables x) ≡ read_of (roll-Head x)
read_layer (layer.Read r) = simp the_lemmas refl
read_layer _ = simp the_lemmas refl

pub head_read_is : (h : Head) → head_read h ≡ read_of h
head_read_is h =
    fold_out-Head (Option Read) (Unit {0}) (Unit {0}) (Unit {0}) Vars at_head at_instr at_subject at_cmd at_term h
    ∙ read_layer (out-Head h)
    ∙ ap read_of (roll-out-Head h)

pub variables_are : (h : Head) (n : List (Unit {0})) (ts : Row_of-Term (arity (the_former (this {0})) n)) (ty : Ty) →
    term_variables (Term' tt (more_of-Head h end_of-Head) n ts ty) ≡ of_read (read_of h) ty (flat_map term_variables (terms_in ts))
variables_are h n ts ty =
    variables_out (Term' tt (more_of-Head h end_of-Head) n ts ty)
    ∙ ap (λ z. of_read (head_read z.head) z.ty (flat_map term_variables z.args)) (out_is h n ts ty)
    ∙ ap (λ o. of_read o ty (flat_map term_variables (terms_in ts))) (head_read_is h)

-- each is read at its type
abbrev pub AreRead : Reading → Vars → Type 0
AreRead W vs = AllByRecursion (λ v. IsReadAt W v.read v.ty) vs

pub read_together : (W : Reading) (vs ws : Vars) → AreRead W vs → AreRead W ws → AreRead W (vs ++ ws)
read_together W [] ws a b = b
read_together W (v ∷ vs) ws a b = (a.0, read_together W vs ws a.1 b)

-- a read of no memory that a binder binds
abbrev pub is_free_read : Read → Bool
is_free_read (Program x (side.Bound i)) = false
is_free_read r = true

-- what V reads of memories that no binder binds W reads too
abbrev pub Sees : Reading → Reading → Type 0
Sees V W = (r : Read) (ty : Ty) → is_free_read r ≡ true → IsReadAt V r ty → IsReadAt W r ty

pub sees_beneath : (f : Variables) (V W : Reading) → Sees V W → Sees (inner f V) W
sees_beneath f V W s (Logical i) ty k e = s (Logical i) ty k e
sees_beneath f V W s (Program x side.Own) ty k e = s (Program x side.Own) ty k e
sees_beneath f V W s (Program x side.Left) ty k e = s (Program x side.Left) ty k e
sees_beneath f V W s (Program x side.Right) ty k e = s (Program x side.Right) ty k e
sees_beneath f V W s (Program x (side.Memory i)) ty k e = s (Program x (side.Memory i)) ty k e
sees_beneath f V W s (Program x (side.Bound i)) ty k e = absurd (false≢true k)
