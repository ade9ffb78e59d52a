-- Which names a module expression and a body have in them.
use Rattle.std.specs.Prelude.{◌≡◌, ◌⊎◌, true, false, List, [], ◌∷◌, bytes_eq}
use Rattle.std.specs.List.{list_any}
use Rattle.gb_terms.specs.declared.decl.Param.{Param}
use Rattle.gb_terms.specs.declared.decl.Proc.{Proc}
use Rattle.gb_terms.specs.declared.module.Mexp.{Mexp, Row_of-Mexp, end_of-Mexp, more_of-Mexp}
use Rattle.gb_terms.specs.declared.module.Mexp.TheVariants.{Name as named, Apply'}
use Rattle.gb_terms.specs.declared.module.ProcRef.{ProcRef}
use Rattle.gb_terms.specs.declared.term.Instr.{Instr, Row_of-Instr, end_of-Instr, more_of-Instr}
use Rattle.gb_terms.specs.declared.term.Head.TheVariants.{Assign, Sample, Call', If', While'}
use Rattle.gb_meaning.specs.Names.{Name}
use Rattle.gb_meaning.specs.Declared.{Declarations}
use Rattle.gb_meaning.specs.Adversary.{type_named}
use Rattle.gb_meaning.specs.Settings.{Chosen}

abbrev mutual
  -- each module name in the expression is in P
  pub EachName : (Name → Type 0) → Mexp → Type 0
  EachName P (named m) = P m
  EachName P (Apply' m n args) = P m × EachNameIn P args

  pub EachNameIn : {n : _} → (Name → Type 0) → Row_of-Mexp n → Type 0
  EachNameIn P end_of-Mexp = Unit {0}
  EachNameIn P (more_of-Mexp m r) = EachName P m × EachNameIn P r

abbrev mutual
  -- each procedure that the statement calls is in P
  pub EachCall : (ProcRef → Type 0) → Instr → Type 0
  EachCall P (Assign xs e) = Unit {0}
  EachCall P (Sample x d) = Unit {0}
  EachCall P (Call' xs p n es) = P p
  EachCall P (If' e m a n b) = EachCallIn P a × EachCallIn P b
  EachCall P (While' e v n a) = EachCallIn P a

  pub EachCallIn : {n : _} → (ProcRef → Type 0) → Row_of-Instr n → Type 0
  EachCallIn P end_of-Instr = Unit {0}
  EachCallIn P (more_of-Instr i r) = EachCall P i × EachCallIn P r

-- each procedure that a list of statements calls is in P
abbrev pub EachCallOf : (ProcRef → Type 0) → List Instr → Type 0
EachCallOf P [] = Unit {0}
EachCallOf P (i ∷ is) = EachCall P i × EachCallOf P is

-- no declaration has this name
abbrev pub IsFresh : Declarations → Name → Type 0
IsFresh [] n = Unit {0}
IsFresh (d ∷ ds) n = (bytes_eq n d.0 ≡ false) × IsFresh ds n

-- no procedure has this name
abbrev pub IsFreshAmong : List Proc → Name → Type 0
IsFreshAmong [] n = Unit {0}
IsFreshAmong (p ∷ ps) n = (bytes_eq n p.name ≡ false) × IsFreshAmong ps n

-- no abstract module has this name
abbrev pub IsUnchosen : List Chosen → Name → Type 0
IsUnchosen [] n = Unit {0}
IsUnchosen (c ∷ cs) n = (bytes_eq n c.bind.name ≡ false) × IsUnchosen cs n

-- A name that stands behind the module n neither as a declaration nor as an abstract module, and isn't n.
pub record IsBefore (after : Declarations) (cs : List Chosen) (n k : Name) : Type 0 where
  pub other : bytes_eq k n ≡ false
  pub fresh : IsFresh after k
  pub unchosen : IsUnchosen cs k

-- a reference to a procedure of modules before n, or to an earlier procedure of n itself
abbrev pub IsEarlier : Declarations → List Chosen → Name → List Proc → ProcRef → Type 0
IsEarlier after cs n ps r =
    EachName (IsBefore after cs n) r.«module» ⊎ ((r.«module» ≡ named n) × (list_any (λ p. bytes_eq r.name p.name) ps ≡ true))

-- any name
abbrev pub AnyName : Name → Type 0
AnyName n = Unit {0}

-- the module type of each parameter is in P
abbrev pub EachParam : (Name → Type 0) → List Param → Type 0
EachParam P [] = Unit {0}
EachParam P (p ∷ ps) = P p.ty × EachParam P ps

-- the module type is in P, and those of its parameters
abbrev pub IsTypeIn : (Name → Type 0) → Declarations → Name → Type 0
IsTypeIn P ds n = P n × EachParam P (type_named ds n).params
