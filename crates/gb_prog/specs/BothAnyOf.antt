-- One procedure of an abstract module, by two references that give the module modules of their own.
use Rattle.std.specs.Prelude.{◌≡◌, ◌⊎◌, true, List, ◌∷◌, Option, Some, None}
use Rattle.gb_terms.specs.declared.module.Mexp.TheVariants.{Name as named}
use Rattle.gb_terms.specs.declared.module.ProcRef.{ProcRef}
use Rattle.gb_goal.specs.Interfaces.{ProcedureType, has_type, procedure_type}
use Rattle.gb_goal.specs.Scope.{Declarations}
use Rattle.gb_meaning.specs.Names.{Name}
use Rattle.gb_meaning.specs.Program.{Routine, Oracle}
use Rattle.gb_meaning.specs.Setting.{Setting}
use Rattle.gb_meaning.specs.Declared.{Signature}
use Rattle.gb_meaning.specs.Linking.{Oracles, link_routine}
use Rattle.gb_meaning.specs.Typing.{IsTypedRoutine}

-- both stand at the same place of two lists
abbrev pub IsPairIn : List ProcRef → List ProcRef → ProcRef → ProcRef → Type 0
IsPairIn (o ∷ os) (p ∷ ps) x y = ((o ≡ x) × (p ≡ y)) ⊎ IsPairIn os ps x y
IsPairIn _ _ x y = ⊥

-- each pair at the same place of two lists is in P
abbrev pub EachPair : (ProcRef → ProcRef → Type 0) → List ProcRef → List ProcRef → Type 0
EachPair P (o ∷ os) (p ∷ ps) = P o p × EachPair P os ps
EachPair P _ _ = Unit {0}

abbrev pub type_of : Signature → ProcedureType
type_of s = record { params = s.params; result = s.result }

-- a procedure of this type, where it is known, has the types of the signature
abbrev pub Serves : Signature → Option ProcedureType → Type 0
Serves s None = Unit {0}
Serves s (Some t) = has_type (Some t) (type_of s) ≡ true

-- What answers for an oracle on two sides is what the references of a pair mean, which have the types of its signature where these are known.
pub record AreAnswers (ds : Declarations) (g : Setting) (os ps : List ProcRef) (s : Signature) (l r : Option Routine) : Type 0 where
  pub first : ProcRef
  pub second : ProcRef
  pub paired : IsPairIn os ps first second
  pub left_meant : l ≡ g.procedure first
  pub right_meant : r ≡ g.procedure second
  pub left_serves : Serves s (procedure_type ds None first)
  pub right_serves : Serves s (procedure_type ds None second)

-- What p and q mean in the setting is one procedure of a program for the module a, linked with the oracles of each: it is well typed and
-- touches no global but those of a, and for each oracle that it may call the references of a pair answer.
pub record AreBothAnyOf (ds : Declarations) (g : Setting) (a : Name) (os ps : List ProcRef) (p q : ProcRef) : Type 0 where
  pub callable : Oracle → Option Signature
  pub left : Oracles
  pub right : Oracles
  pub own : Routine
  pub left_there : g.procedure p ≡ Some (link_routine left own)
  pub right_there : g.procedure q ≡ Some (link_routine right own)
  pub typed : IsTypedRoutine g callable (g.types.footprint (named a)) own
  pub answers : (o : Oracle) (s : Signature) → callable o ≡ Some s → AreAnswers ds g os ps s (left o) (right o)
