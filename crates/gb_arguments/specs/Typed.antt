-- Open programs that are typed within a footprint.
use Rattle.std.specs.Prelude.{◌≡◌, true, List, [], ◌∷◌, map, Option, Some, None}
use Rattle.std.specs.List.{list_any}
use Rattle.gb_core.specs.declared.ty.Ty.{Ty}
use Rattle.gb_core.specs.declared.ty.Ty.TheVariants as ty
use Rattle.gb_core.specs.declared.var.Var.{Var}
use Rattle.gb_core.specs.declared.var.Var.TheVariants as var
use Rattle.gb_terms.specs.declared.decl.Proc.{Proc}
use Rattle.gb_terms.specs.declared.decl.TypedName.{TypedName}
use Rattle.gb_terms.specs.declared.term.Term.{Term}
use Rattle.gb_terms.specs.declared.term.Head.TheVariants.{Sample}
use Rattle.gb_meaning.specs.Names.{Name}
use Rattle.gb_meaning.specs.Program.{Oracle}
use Rattle.gb_meaning.specs.Setting.{Setting}
use Rattle.gb_meaning.specs.Values.{Global, World}
use Rattle.gb_meaning.specs.Written.{IsModulo, params_of, result_type, type_of}
use Rattle.gb_laws.specs.Context as typed
use Rattle.gb_laws.specs.Finite.{IsFinite}
use Rattle.gb_laws.specs.Programs.{Take}
use Rattle.gb_laws.specs.Typing.{OperatorType}
use Rattle.gb_meaning.specs.Declared.{Signature}
use Rattle.gb_meaning.specs.Footprints.{is_global, variables}
use Rattle.gb_meaning.specs.Globs.{IsGlobless}
use Rattle.gb_meaning.specs.Naming.{AnyName}
use Rattle.gb_meaning.specs.Typing.{AreLocals, IsDistributionOver, IsTypedRoutine, IsTypedTerm, Names, Takes, global_type}
use Rattle.gb_meaning.specs.Typing as holds
use Rattle.gb_typing.specs.Context.{Context, erased}
use Rattle.gb_typing.specs.Modules.{ProcedureType}
use Rattle.gb_typing.specs.Naming.{NoName, TermNames}
use Rattle.gb_typing.specs.Programs.{HaveVariableTypes, IsExpression, IsStatement, IsValued}
use Rattle.gb_typing.specs.Speaking.{ProcedureSpeaks}
use Rattle.gb_arguments.specs.Opened.{Callee, linked, open_to}

module _ (w : World) (pf : Name → List Global) (gs : List Global) where
  -- what a variable stands for in the world is among these globals: a global, or all of an abstract module
  abbrev pub IsWithin : Var → Type 0
  IsWithin (var.Global m x) = (u : Ty) → global_type w m x ≡ Some u → global_type gs m x ≡ Some u
  IsWithin (var.Local x) = Unit {0}
  IsWithin (var.Glob a) = (x : Global) → list_any (is_global x) (pf a) ≡ true → (u : Ty) → global_type w x.parent x.name ≡ Some u → global_type gs x.parent x.name ≡ Some u

  abbrev pub AreWithin : List Var → Type 0
  AreWithin [] = Unit {0}
  AreWithin (x ∷ xs) = IsWithin x × AreWithin xs

-- the types of names
abbrev pub types_in : List TypedName → List Ty
types_in xs = map (λ x. x.ty) xs

-- what an open procedure may name: these globals, and its locals
abbrev pub names : List Global → List TypedName → Names
names gs ls = record { globals = gs; locals = ls }

-- What is called is typed within the globals, where its footprint is; an oracle has a signature.
module _ (g : Setting) (ss : Oracle → Option Signature) (w : World) (pf : Name → List Global) (gs : List Global) where
  abbrev pub IsTypedBy : ProcedureType → Option Callee → Option (List Var) → Type 0
  IsTypedBy t (Some (linked r)) (Some xs) =
      AreWithin w pf gs xs → (types_in (params_of r) ≡ types_in t.params) × (result_type r ≡ t.result) × IsTypedRoutine g ss gs r
  IsTypedBy t (Some (open_to o)) y = (s : Signature) × (ss o ≡ Some s) × (types_in s.params ≡ types_in t.params) × (s.result ≡ t.result)
  IsTypedBy t _ _ = ⊥

  -- What expressions are, in contexts of a kind: typed where what they read is within the globals, and they take no module's globals together.
  pub record AreExpressed (K : Context → Type 0) : Type 0 where
    pub locals : (ls : List TypedName) → HaveVariableTypes ls → AreLocals g.types ls
    pub value : (c : Context) → K c → (ls : List TypedName) (e : Term) → IsValued c ls e → TermNames NoName AnyName e → AreWithin w pf gs (variables e) → IsTypedTerm g (names gs ls) e
    pub test : (c : Context) → K c → (ls : List TypedName) (e : Term) → IsExpression c ls e → type_of e ≡ ty.Bool → TermNames NoName AnyName e → AreWithin w pf gs (variables e) →
        holds.IsTest g (names gs ls) e
    pub variant : (c : Context) → K c → (ls : List TypedName) (v : Term) → IsExpression c ls v → IsModulo (type_of v) → TermNames NoName AnyName v → AreWithin w pf gs (variables v) →
        holds.IsVariant g (names gs ls) v
    pub draw : (c : Context) → K c → (ls : List TypedName) (x : Var) (d : Term) → IsStatement c ls (Sample x d) → TermNames NoName AnyName d → IsWithin w pf gs x → AreWithin w pf gs (variables d) →
        IsDistributionOver g (names gs ls) (holds.type_of (names gs ls) x) d
    pub takes : (c : Context) → K c → (ls : List TypedName) (xs : List Var) (t : Ty) → Take (erased c) ls xs t → AreWithin w pf gs xs → Takes (names gs ls) xs t

-- what answers for an oracle of a signature is a typed procedure of its types, or an oracle of a signature of these types
abbrev pub AnswersTyped : Setting → (Oracle → Option Signature) → List Global → Signature → Option Callee → Type 0
AnswersTyped g ss gs u (Some (linked r)) = (types_in (params_of r) ≡ types_in u.params) × (result_type r ≡ u.result) × IsTypedRoutine g ss gs r
AnswersTyped g ss gs u (Some (open_to o)) = (s : Signature) × (ss o ≡ Some s) × (types_in s.params ≡ types_in u.params) × (s.result ≡ u.result)
AnswersTyped g ss gs u None = ⊥

-- The globals of a context are those of the world, and its operators those of the setting; no operator has a value that is all globals of a module.
pub record IsKnownIn (g : Setting) (w : World) (c : Context) : Type 0 where
  pub globals : (m x : Name) (u : Ty) → c.global m x ≡ Some u → global_type w m x ≡ Some u
  pub operators : typed.IsSettingOf (erased c) g
  pub results : (n : Name) (o : OperatorType) → c.operator n ≡ Some o → IsFinite o.result → IsGlobless o.result

-- a procedure that takes no module's globals together, in such a context
abbrev pub IsPlainIn : Setting → World → Context → Proc → Type 0
IsPlainIn g w c p = IsKnownIn g w c × ProcedureSpeaks NoName p
