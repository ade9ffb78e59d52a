-- Samplings at the end of bodies.
use Rattle.std.specs.Prelude.{List, [], ◌∷◌, Option, Some, None}
use Rattle.std.specs.Option.{option_map}
use Rattle.gb_core.specs.declared.ty.Ty.{Ty, out-Ty}
use Rattle.gb_core.specs.declared.ty.Ty.TheOpen as layer
use Rattle.gb_core.specs.declared.var.Var.{Var}
use Rattle.gb_terms.specs.declared.term.Term.{Term, out-Term}
use Rattle.gb_terms.specs.declared.term.Head.TheVariants.{Sample}
use Rattle.gb_terms.specs.declared.term.Instr.{Instr}
use Rattle.gb_typing.specs.declared.samplings.Last.{Last}

-- a sampling at the end of a body: what stands before it, its target, its distribution and the type of the values
pub record Sampling : Type 0 where
  pub before : List Instr
  pub target : Var
  pub from : Term
  pub ty : Ty

-- the same, of references
abbrev pub sampling_of : Last → Sampling
sampling_of l = record { before = l.before.now; target = l.target.now; from = l.from.now; ty = l.ty.now }

abbrev pub of_type : List Instr → Var → Term → layer.Ty-F Ty → Option Sampling
of_type is x d (layer.Distr t) = Some (record { before = is; target = x; from = d; ty = t })
of_type is x d _ = None

-- the sampling that a statement behind others is
abbrev pub of_statement : List Instr → Instr → Option Sampling
of_statement is (Sample x d) = of_type is x d (out-Ty (out-Term d).ty)
of_statement is _ = None

abbrev pub behind : Instr → Sampling → Sampling
behind i x = record x { before = i ∷ x.before }

-- the sampling that a body ends with
abbrev pub last_sampling : List Instr → Option Sampling
last_sampling [] = None
last_sampling (i ∷ []) = of_statement [] i
last_sampling (i ∷ j ∷ is) = option_map (behind i) (last_sampling (j ∷ is))
