-- Comparisons of probabilities of events, as steps see them.
use Rattle.std.specs.Prelude.{Bool, true, false, ◌||◌, List, [], ◌∷◌, Option, Some, None}
use Rattle.std.specs.List.{list_any}
use Rattle.gb_terms.specs.declared.module.ProcRef.{ProcRef}
use Rattle.gb_terms.specs.declared.op.Op.TheVariants as op
use Rattle.gb_terms.specs.declared.op.Read.TheVariants.{Program}
use Rattle.gb_terms.specs.declared.op.Rel.{Rel}
use Rattle.gb_terms.specs.declared.op.Rel.TheVariants.{AtMost, Equal, AtLeast}
use Rattle.gb_terms.specs.declared.op.Side.{Side}
use Rattle.gb_terms.specs.declared.term.Term.{Term, out-Term}
use Rattle.gb_terms.specs.declared.term.Head.{Head}
use Rattle.gb_terms.specs.declared.term.Head.TheVariants as head
use Rattle.gb_terms.specs.declared.term.Head.TheOpen as layer
use Rattle.gb_terms.specs.declared.term.Head.TheFolds.{fold-Term, fold-Head}

-- Whether a term speaks of programs, or of every memory; it is told whether what it reads in a memory counts too.
abbrev pub at_head : Bool → layer.Head-F Bool (Unit {0}) (Unit {0}) (Unit {0}) Bool → Bool
at_head reads (layer.Read (Program x r)) = reads
at_head reads (layer.Glob m r) = reads
at_head reads layer.AllMemory = true
at_head reads layer.SomeMemory = true
at_head reads (layer.Pr p r) = true
at_head reads (layer.Hoare s) = true
at_head reads (layer.Phoare s r) = true
at_head reads (layer.Equiv s t) = true
at_head reads h = false

abbrev pub at_term : layer.Term-F Bool (Unit {0}) (Unit {0}) (Unit {0}) Bool → Bool
at_term t = t.head || list_any (λ b. b) t.args

abbrev pub speaks : Bool → Term → Bool
speaks reads = fold-Term Bool (Unit {0}) (Unit {0}) (Unit {0}) Bool (at_head reads) (λ i. tt) (λ s. tt) (λ c. tt) at_term

abbrev pub head_speaks : Bool → Head → Bool
head_speaks reads = fold-Head Bool (Unit {0}) (Unit {0}) (Unit {0}) Bool (at_head reads) (λ i. tt) (λ s. tt) (λ c. tt) at_term

-- the probability of an event after a procedure, from these arguments and a memory
pub record Chance : Type 0 where
  pub procedure : ProcRef
  pub arguments : List Term
  pub memory : Side
  pub event : Term

abbrev pub last : Term → List Term → Term
last t [] = t
last t (u ∷ ts) = last u ts

abbrev pub before_last : Term → List Term → List Term
before_last t [] = []
before_last t (u ∷ ts) = t ∷ before_last u ts

abbrev pub unless : {A : Type 0} → Bool → A → Option A
unless true x = None
unless false x = Some x

abbrev pub chance_at : Head → List Term → Option Chance
chance_at (head.Pr p r) (t ∷ ts) =
    unless (list_any (speaks false) (before_last t ts)) (record { procedure = p; arguments = before_last t ts; memory = r; event = last t ts })
chance_at h ts = None

-- the probability that a term is; its arguments speak of no program and of no memory but those that they read
abbrev pub chance_of : Term → Option Chance
chance_of t = chance_at (out-Term t).head (out-Term t).args

-- `a <= b` or `a = b`
abbrev pub compared_at : Head → List Term → Option (Rel × Term × Term)
compared_at (head.Builtin op.AtMost) (a ∷ b ∷ []) = Some (AtMost, a, b)
compared_at (head.Builtin op.Equal) (a ∷ b ∷ []) = Some (Equal, a, b)
compared_at h ts = None

abbrev pub compared_of : Term → Option (Rel × Term × Term)
compared_of f = compared_at (out-Term f).head (out-Term f).args

-- how a probability stands to a bound
pub record Bounded : Type 0 where
  pub chance : Chance
  pub rel : Rel
  pub bound : Term

-- a bound reads logical variables alone, and no probability stands in it
abbrev pub bounded_if : Chance → Rel → Term → Option Bounded
bounded_if k r b = unless (speaks true b) (record { chance = k; rel = r; bound = b })

-- of a comparison, by the probability that stands on its left, or where there is none, on its right: `r <= Pr[..]` is `Pr[..] >= r`
abbrev pub bounded_by : Rel → Option Chance → Option Chance → Term → Term → Option Bounded
bounded_by r (Some k) o a b = bounded_if k r b
bounded_by AtMost None (Some k) a b = bounded_if k AtLeast a
bounded_by r None o a b = None

abbrev pub bounded_in : Option (Rel × Term × Term) → Option Bounded
bounded_in None = None
bounded_in (Some (r, a, b)) = bounded_by r (chance_of a) (chance_of b) a b

-- a form that compares a probability with a bound
abbrev pub bounded_of : Term → Option Bounded
bounded_of f = bounded_in (compared_of f)

-- how two probabilities stand to one another
pub record Compared : Type 0 where
  pub rel : Rel
  pub left : Chance
  pub right : Chance

abbrev pub chances_by : Rel → Option Chance → Option Chance → Option Compared
chances_by r (Some k) (Some l) = unless (speaks false k.event || speaks false l.event) (record { rel = r; left = k; right = l })
chances_by r k l = None

abbrev pub chances_in : Option (Rel × Term × Term) → Option Compared
chances_in None = None
chances_in (Some (r, a, b)) = chances_by r (chance_of a) (chance_of b)

-- A form that compares two probabilities. Their events speak of no program: the memories of its sides would hide those of the events.
abbrev pub chances_of : Term → Option Compared
chances_of f = chances_in (compared_of f)
