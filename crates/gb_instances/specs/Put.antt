-- Modules in place of those that a statement binds, all at once, in its forms.
use Rattle.std.specs.Prelude.{ℕ, Bool, true, false, ◌&&◌, ◌||◌, not, if◌then◌else◌, List, [], ◌∷◌, Option, Some, None, bytes_eq}
use Rattle.std.specs.List.{list_any}
use Rattle.gb_core.specs.declared.ty.Ty.{Ty, fold-Ty}
use Rattle.gb_core.specs.declared.ty.Ty.TheOpen as layer
use Rattle.gb_core.specs.declared.ty.Ty.TheVariants as ty
use Rattle.gb_core.specs.declared.var.Var.{Var}
use Rattle.gb_core.specs.declared.var.Var.TheVariants.{Glob}
use Rattle.gb_terms.specs.declared.decl.Param.{Param}
use Rattle.gb_terms.specs.declared.module.Mexp.{Mexp}
use Rattle.gb_terms.specs.declared.module.ProcRef.{ProcRef}
use Rattle.gb_terms.specs.declared.op.Op.TheVariants as op
use Rattle.gb_terms.specs.declared.op.Read.TheVariants.{Program}
use Rattle.gb_terms.specs.declared.op.Side.{Side}
use Rattle.gb_terms.specs.declared.term.Head.{Head}
use Rattle.gb_terms.specs.declared.term.Head.TheVariants as head
use Rattle.gb_terms.specs.declared.term.Head.TheVariants.{Proc}
use Rattle.gb_terms.specs.declared.term.Subject.{Subject}
use Rattle.gb_terms.specs.declared.term.Term.{Term, Term', Row_of-Term, end_of-Term, more_of-Term, end_of-Head, more_of-Head, out-Term}
use Rattle.gb_terms.specs.Make.{node}
use Rattle.gb_terms.specs.Rows.{terms_in}
use Rattle.gb_goal.specs.Instances.{name_of, put_in_reference, stands_for}
use Rattle.gb_goal.specs.Scope.{Declarations}
use Rattle.gb_elab.specs.Globs.{agreements, is_abstract, true_if_none}
use Rattle.gb_instances.specs.declared.put.Equation.{Equation as Held}
use Rattle.gb_instances.specs.Footprint.{footprint_at}

-- The module of which all globals are read, and in which memory.
abbrev pub whole_in : Head → Option (List ℕ × Side)
whole_in (head.Read (Program (Glob a) s)) = Some (a, s)
whole_in h = None

abbrev pub whole_read : Term → Option (List ℕ × Side)
whole_read t = whole_in (out-Term t).head

-- an equation of all globals of a module in two memories: the module, and the memories
abbrev pub Equation : Type 0
Equation = List ℕ × Side × Side

-- the same of what the code holds
abbrev pub equation_seen : Held → Equation
equation_seen e = (e.module.now, e.left, e.right)

abbrev pub of_one : Option (List ℕ × Side) → Option (List ℕ × Side) → Option Equation
of_one (Some a) (Some b) = if bytes_eq a.0 b.0 then Some (a.0, a.1, b.1) else None
of_one a b = None

-- the equation that a term is, by its head and its arguments
abbrev pub equated : Head → List Term → Option Equation
equated (head.Builtin op.Equal) (t ∷ u ∷ []) = of_one (whole_read t) (whole_read u)
equated h ts = None

abbrev pub is_of : List ℕ → Option Equation → Bool
is_of a None = false
is_of a (Some e) = bytes_eq a e.0

-- Types that speak of the globals of a module of this name.

abbrev pub layer_speaks : List ℕ → layer.Ty-F Bool → Bool
layer_speaks a (layer.Glob b) = bytes_eq a b
layer_speaks a (layer.Tuple ts) = list_any (λ b. b) ts
layer_speaks a (layer.Opt t) = t
layer_speaks a (layer.Map k t) = k || t
layer_speaks a (layer.Distr t) = t
layer_speaks a _ = false

abbrev pub type_speaks : List ℕ → Ty → Bool
type_speaks a = fold-Ty Bool (layer_speaks a)

abbrev pub head_speaks : List ℕ → Head → Bool
head_speaks a (head.All t) = type_speaks a t
head_speaks a (head.Some t) = type_speaks a t
head_speaks a h = false

abbrev mutual
  -- whether a type in a form speaks of the globals of the module of this name, elsewhere than in an equation of them in two memories
  pub stands_alone : List ℕ → Term → Bool
  stands_alone a (Term' p (more_of-Head h end_of-Head) n ts t) =
      not (is_of a (equated h (terms_in ts))) && (type_speaks a t || head_speaks a h || any_stands_alone a ts)

  pub any_stands_alone : {n : _} → List ℕ → Row_of-Term n → Bool
  any_stands_alone a end_of-Term = false
  any_stands_alone a (more_of-Term t ts) = stands_alone a t || any_stands_alone a ts

-- Types, in which the globals of another module stand for those of a module.

abbrev pub layer_put : (List ℕ → List ℕ) → layer.Ty-F Ty → Ty
layer_put f (layer.Glob a) = ty.Glob (f a)
layer_put f layer.Unit = ty.Unit
layer_put f layer.Bool = ty.Bool
layer_put f (layer.Bits n) = ty.Bits n
layer_put f (layer.Mod n) = ty.Mod n
layer_put f (layer.Enumeration x n) = ty.Enumeration x n
layer_put f (layer.Tuple ts) = ty.Tuple ts
layer_put f (layer.Opt t) = ty.Opt t
layer_put f (layer.Map k t) = ty.Map k t
layer_put f (layer.Abstract x) = ty.Abstract x
layer_put f (layer.Distr t) = ty.Distr t
layer_put f layer.Int = ty.Int
layer_put f layer.Real = ty.Real

abbrev pub type_put : (List ℕ → List ℕ) → Ty → Ty
type_put f = fold-Ty Ty (layer_put f)

abbrev pub variable_put : (List ℕ → List ℕ) → Var → Var
variable_put f (Glob a) = Glob (f a)
variable_put f x = x

-- Modules that are put in for parameters of these names.
module _ (ps : List Param) (es : List Mexp) where
  -- the name of the module that stands for one of this name
  abbrev pub name_put : List ℕ → List ℕ
  name_put a = name_of (stands_for ps es a)

  abbrev pub procedure_put : ProcRef → ProcRef
  procedure_put r = put_in_reference (stands_for ps es) r

  abbrev pub subject_put : Subject → Subject
  subject_put (Proc r) = Proc (procedure_put r)
  subject_put s = s

  abbrev pub head_put : Head → Head
  head_put (head.Read (Program x s)) = head.Read (Program (variable_put name_put x) s)
  head_put (head.All t) = head.All (type_put name_put t)
  head_put (head.Some t) = head.Some (type_put name_put t)
  head_put (head.Pr r s) = head.Pr (procedure_put r) s
  head_put (head.Hoare c) = head.Hoare (subject_put c)
  head_put (head.Phoare c r) = head.Phoare (subject_put c) r
  head_put (head.Equiv c d) = head.Equiv (subject_put c) (subject_put d)
  head_put h = h

  abbrev pub node_put : Head → List Term → Ty → Term
  node_put h ts t = node (head_put h) ts (type_put name_put t)

-- An equation of all globals of a module in two memories, f, becomes one of each variable of the footprint, if it is known.
abbrev pub agreement_or : Declarations → Term → Side → Side → Option (List Var) → Term
agreement_or ds f s r None = f
agreement_or ds f s r (Some xs) = true_if_none (agreements ds s r None xs)

-- .. and stays one of values, where they are those of an abstract module by itself
abbrev pub agreement_of : Declarations → Term → Side → Side → Mexp → Term
agreement_of ds f s r e = if is_abstract ds e then f else agreement_or ds f s r (footprint_at ds e)

-- Among these declarations.
module _ (ds : Declarations) (ps : List Param) (es : List Mexp) where
  abbrev pub equation_put : Term → Option Equation → Term
  equation_put f None = f
  equation_put f (Some e) = agreement_of ds f e.1 e.2 (stands_for ps es e.0)

  abbrev mutual
    -- The form of the modules that are put in. Bodies stay as they are: statements of lemmas have none.
    pub put : Term → Term
    put (Term' p (more_of-Head h end_of-Head) n ts t) = equation_put (node_put ps es h (all_put ts) t) (equated h (terms_in ts))

    pub all_put : {n : _} → Row_of-Term n → List Term
    all_put end_of-Term = []
    all_put (more_of-Term t ts) = put t ∷ all_put ts
