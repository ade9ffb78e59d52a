-- What `smt` asks of the forms in a goal.
use Rattle.std.specs.Prelude.{◌≡◌, ℕ, false, nat_lt, if◌then◌else◌, Some, None, List, [], ◌∷◌, map, length, get_or}
use Rattle.std.specs.List.{AllByRecursion}
use Rattle.gb_terms.specs.declared.op.Side.{Side}
use Rattle.gb_terms.specs.declared.op.Side.TheVariants.{Memory}
use Rattle.gb_terms.specs.declared.term.Term.{Term}
use Rattle.gb_goal.specs.declared.sequent.Hyp.{Hyp}
use Rattle.gb_goal.specs.declared.sequent.Sequent.{Sequent}
use Rattle.gb_meaning.specs.Setting.{Setting}
use Rattle.gb_goal.specs.Scope.{Declarations}
use Rattle.gb_eval.specs.Meant.{AreBodies}
use Rattle.gb_smt.specs.Leaves.{speaks_of_programs}
use Rattle.gb_smt_laws.specs.Reading.{Variables, no_variables, Reading, AreHeld}
use Rattle.gb_smt_laws.specs.Fits.{Fits}

-- the variables of the memories of a context
abbrev pub named_variables : ℕ → (ℕ → Variables) → Side → Variables
named_variables n f (Memory i) = if nat_lt i n then f i else no_variables
named_variables n f r = no_variables

-- the types at which the forms of a sequent read, by those of the variables of its memories
abbrev pub reading_of : Sequent → (ℕ → Variables) → Reading
reading_of q f = record {
  logical = λ i. get_or (map (λ x. Some x.ty) q.logical) i None;
  memory = named_variables (length q.memories) f;
}

-- each hypothesis that speaks of no program fits; the others aren't used
abbrev pub UsedFit : Setting → Reading → List Hyp → Type 0
UsedFit g T [] = Unit {0}
UsedFit g T (h ∷ hs) = (speaks_of_programs h.form ≡ false → Fits g T h.form) × UsedFit g T hs

-- The operators of the script mean their bodies, the memories of the context have variables with values of their types, and the
-- forms of a sequent and those that are known besides read each at its type.
pub record SmtIsReady (ds : Declarations) (g : Setting) (known : List Term) (q : Sequent) : Type 0 where
  pub operators : AreBodies g ds
  pub variables : ℕ → Variables
  pub held : (i : ℕ) → AreHeld g (variables i)
  pub hyps : UsedFit g (reading_of q variables) q.hyps
  pub known_forms : AllByRecursion (Fits g (reading_of q variables)) known
  pub conclusion : Fits g (reading_of q variables) q.conclusion
