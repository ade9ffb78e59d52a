-- Proved loops stay good when modules are added, for scopes with abstract modules and modules with parameters.
use Rattle.std.proofs.Common.{◌≡◌, ℕ, List, [], ◌∷◌, ◌++◌, Option, Some, None, sym, subst}
use Rattle.gb_terms.specs.declared.decl.Module.{Module}
use Rattle.gb_terms.specs.declared.decl.Param.{Param}
use Rattle.gb_terms.specs.declared.decl.Proc.{Proc}
use Rattle.gb_terms.specs.declared.term.Instr.{Instr}
use Rattle.gb_goal.specs.Scope.{proc_of}
use Rattle.gb_meaning.specs.Names.{Name}
use Rattle.gb_meaning.specs.Values.{World}
use Rattle.gb_meaning.specs.Setting.{Setting}
use Rattle.gb_meaning.specs.Commands.{statements}
use Rattle.gb_meaning.specs.Declared.{Declarations, ModuleType, module_named}
use Rattle.gb_meaning.specs.Naming.{AnyName, EachName, EachCallOf, IsFresh, IsTypeIn}
use Rattle.gb_meaning.specs.Adversary.{Adversary, type_named}
use Rattle.gb_meaning.specs.Programs.{IsProgramFor}
use Rattle.gb_meaning.specs.Settings.{Chosen, Table, Interpretation, interpreted, setting}
use Rattle.gb_meaning.specs.Holds.{param_bind, EachArgument, LoopsAreGood, ProcedureIsGood, ProcedureOfIsGood, IsTerminating}
use Rattle.gb_meaning.proofs.Later.{same_body}
use Rattle.gb_meaning.proofs.SameScope.{program-to}
use Rattle.gb_typing.specs.Naming.{chosen_names, IsKept, AgreeOn, BodyNames}
use Rattle.gb_typing.specs.Added.{IsBodyApart, AreParamsApart, IsProcedureApart, AreLoopsApart}
use Rattle.gb_typing.proofs.Agreeing.{call-agrees, program_agrees}
use Rattle.gb_typing.proofs.Aligned.{AreApartPrograms, Aligned, GoesOn}
use Rattle.gb_typing.proofs.TypedAlike.{turned-basis}
use Rattle.gb_typing.proofs.WithinAlike.{plain-in, program-alike}
use Rattle.gb_typing.proofs.TruthAlike.{type-later, basis}
use Rattle.gb_typing.proofs.SameLoops.{loops_same}

module _ (P Q : Name → Type 0) (g h : Setting) (a : AgreeOn P Q g h) where
  body-calls : (is : List Instr) → EachCallOf (λ r. EachName P r.«module») is → EachCallOf (λ r. g.procedure r ≡ h.procedure r) is
  body-calls [] e = tt
  body-calls (i ∷ is) e = (call-agrees P Q g h a i e.0, body-calls is e.1)

  body-good : (is : List Instr) → BodyNames P Q g is → LoopsAreGood g (statements g is) → LoopsAreGood h (statements h is)
  body-good is e x =
      subst (LoopsAreGood h) (same_body g h is (body-calls is e.0)) (loops_same g h (statements g is) (program_agrees P Q g h a (statements g is) e.1) x)

module _ (es ds later : Declarations) (w : World) (size : Name → ℕ) (table : Table) (rest more : List Chosen) (a : Aligned es ds later w size table rest more) where
  abbrev at-first : List Chosen → Interpretation
  at-first js = interpreted w size table (js ++ rest)

  abbrev at-last : List Chosen → Interpretation
  at-last js = interpreted w size table (js ++ more)

  argument-earlier : (p : Param) → IsTypeIn (IsFresh es) ds p.ty → (js : List Chosen) → AreApartPrograms es ds js → (v : Adversary) →
      IsProgramFor later (setting later (at-last js)) w (type_named later p.ty) v → IsProgramFor ds (setting ds (at-first js)) w (type_named ds p.ty) v
  argument-earlier p i js k v x =
      let t : ModuleType = type_named later p.ty in
      subst (λ y. IsProgramFor ds (setting ds (at-first js)) w y v) (sym (a.types p.ty i.0))
      (program-to (IsFresh es) later ds (λ n y. sym (a.types n y)) t (type-later es ds later w size table rest more a p.ty i).1 (setting ds (at-first js)) w v
      (program-alike (setting later (at-last js)) (setting ds (at-first js))
      (turned-basis (setting ds (at-first js)) (setting later (at-last js)) (basis es ds later w size table rest more a js k)) w a.plain later t v x))

  arguments-later : (ps : List Param) → AreParamsApart es ds ps → (js : List Chosen) → AreApartPrograms es ds js → (P Q R : Interpretation → Type 0) →
      ((ks : List Chosen) → AreApartPrograms es ds ks → R (at-first ks) → P (at-first ks) → Q (at-last ks)) →
      EachArgument ds ps (at-first js) R → EachArgument ds ps (at-first js) P → EachArgument later ps (at-last js) Q
  arguments-later [] i js k P Q R f x z = f js k x z
  arguments-later (p ∷ ps) i js k P Q R f x z = λ v y.
      let ks : List Chosen = record { bind = param_bind p; program = v } ∷ js in
      let plain : AreApartPrograms es ds ks = ((plain-in w a.plain v.footprint y.known, i.0), k) in
      let before = argument-earlier p i.0 ks plain v y in
      arguments-later ps i.1 ks plain P Q R f (x v before) (z v before)

  good-later : (o : Option Proc) (js : List Chosen) → AreApartPrograms es ds js → IsBodyApart es ds o (at-first js) →
      ProcedureIsGood (setting ds (at-first js)) o → ProcedureIsGood (setting later (at-last js)) o
  good-later None js k x z = tt
  good-later (Some p) js k x z =
      body-good (IsKept es (chosen_names (js ++ rest))) AnyName (setting ds (at-first js)) (setting later (at-last js)) (a.settings js k) p.body.list x z

module _ (es ds : Declarations) (g : GoesOn es ds) where
  of-module : (m : Option Module) (f : Name) → IsProcedureApart es ds m f → ProcedureOfIsGood ds m f → ProcedureOfIsGood (ds ++ es) m f
  of-module None f e x = tt
  of-module (Some m) f e x =
      g _ _ _
      (λ w size table rest more a y z. arguments-later es ds (ds ++ es) w size table rest more a m.params e.0 [] tt _ _ _
      (good-later es ds (ds ++ es) w size table rest more a (proc_of m.procs f)) y z) e.1 x

pub loops-along : (es ds : Declarations) → GoesOn es ds → (n f : Name) → AreLoopsApart n f es ds → IsTerminating ds n f → IsTerminating (ds ++ es) n f
loops-along es ds g n f e x =
    subst (λ m. ProcedureOfIsGood (ds ++ es) m f) (sym e.0) (of-module es ds g (module_named ds n) f e.1 x)
