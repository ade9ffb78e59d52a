-- Contexts in which modules are put in, and forms that stay typed in them.
use Rattle.std.specs.Prelude.{◌≡◌, ◌⊎◌, ℕ, true, List, [], ◌∷◌, map, Option, Some, None}
use Rattle.gb_core.specs.declared.ty.Ty.{Ty}
use Rattle.gb_core.specs.declared.ty.Ty.TheVariants as ty
use Rattle.gb_core.specs.declared.var.Var.TheVariants.{Glob}
use Rattle.gb_terms.specs.declared.decl.Param.{Param}
use Rattle.gb_terms.specs.declared.decl.TypedName.{TypedName}
use Rattle.gb_terms.specs.declared.module.Bind.{Bind}
use Rattle.gb_terms.specs.declared.module.Mexp.{Mexp}
use Rattle.gb_terms.specs.declared.module.ProcRef.{ProcRef}
use Rattle.gb_terms.specs.declared.op.Read.TheVariants.{Program}
use Rattle.gb_terms.specs.declared.op.Side.{Side}
use Rattle.gb_terms.specs.declared.term.Head.{Head}
use Rattle.gb_terms.specs.declared.term.Head.TheVariants as head
use Rattle.gb_terms.specs.declared.term.Term.{Term, Term', Row_of-Term, end_of-Term, more_of-Term, end_of-Head, more_of-Head}
use Rattle.gb_terms.specs.Rows.{terms_in}
use Rattle.gb_goal.specs.Scope as scope
use Rattle.gb_meaning.specs.Names.{Name}
use Rattle.gb_meaning.specs.Written.{type_of}
use Rattle.gb_laws.specs.Typing.{Binder, OperatorType, IsSide}
use Rattle.gb_laws.specs.Typing.Binder.{value, index, memory, program}
use Rattle.gb_typing.specs.Context.{Context, Frame, erased, frame_of, procedure}
use Rattle.gb_meaning.specs.Modules.{Procedures, found}
use Rattle.gb_typing.specs.Modules.{Interface, ProcedureType, interface_at, signature_types, signatures_of}
use Rattle.gb_typing.specs.Typing.{IsFrame, IsTyped}
use Rattle.gb_instances.specs.Put.{Equation, agreement_of, equated, name_put, procedure_put, type_put}

module _ (ps : List Param) (es : List Mexp) where
  abbrev pub led : Ty → Ty
  led t = type_put (name_put ps es) t

  abbrev pub led_name : TypedName → TypedName
  led_name x = record x { ty = led x.ty }

  abbrev pub led_frame : Frame → Frame
  led_frame None = None
  led_frame (Some ls) = Some (map led_name ls)

  abbrev pub led_binder : Binder → Binder
  led_binder (value t) = value (led t)
  led_binder (index q) = index q
  led_binder memory = memory
  led_binder program = program

  -- What a context has, the other one has where modules are put in: those of W may be read as a whole there.
  pub record IsLed (W : Name → Type 0) (d e : Context) : Type 0 where
    pub logical : (i : ℕ) (t : Ty) → d.logical i ≡ Some t → e.logical i ≡ Some (led t)
    pub global : (m x : Name) (t : Ty) → d.global m x ≡ Some t → (e.global m x ≡ Some t) × (led t ≡ t)
    pub operator : (n : Name) (o : OperatorType) → d.operator n ≡ Some o → (e.operator n ≡ Some o) × (map led o.params ≡ o.params) × (led o.result ≡ o.result)
    pub procedure : (r : ProcRef) (t : ProcedureType) → procedure d r ≡ Some t →
        (procedure e (procedure_put ps es r) ≡ Some t) × (map led_name t.params ≡ t.params) × (led t.result ≡ t.result)
    pub whole : (a : Name) → W a → e.has_globals (name_put ps es a) ≡ true
    pub own : e.own ≡ led_frame d.own
    pub left : e.left ≡ led_frame d.left
    pub right : e.right ≡ led_frame d.right
    pub named : e.named ≡ map led_frame d.named
    pub bound : e.bound ≡ map led_binder d.bound
    pub frames : e.frames ≡ map led_frame d.frames

-- a memory that may be read
abbrev pub IsReadable : Context → Side → Type 0
IsReadable c s = IsSide (erased c) s × IsFrame (frame_of c s)

-- Contexts with the globals of one, in which modules may be read as a whole that may be there.
abbrev pub IsAround : Context → Context → Type 0
IsAround a c = (c.global ≡ a.global) × (c.has_globals ≡ a.has_globals)

-- equations of all globals of the module stay
abbrev pub Stays : scope.Declarations → Mexp → Type 0
Stays ds e = (s r : Side) (f : Term) → agreement_of ds f s r e ≡ f

-- .. or are typed
abbrev pub IsTypedAgreement : scope.Declarations → Context → Mexp → Type 0
IsTypedAgreement ds a e = (c : Context) → IsAround a c → (s r : Side) → IsReadable c s → IsReadable c r → (f : Term) → IsTyped c (agreement_of ds f s r e) × (type_of (agreement_of ds f s r e) ≡ ty.Bool)

-- all globals of a module that a head reads may be read
abbrev pub HeadMayStand : (Name → Type 0) → Head → Type 0
HeadMayStand W (head.Read (Program (Glob a) s)) = W a
HeadMayStand W _ = Unit {0}

module _ (ds : scope.Declarations) (f : Name → Mexp) (a : Context) (W : Name → Type 0) where
  abbrev pub EquationMayStand : Type 0 → Option Equation → Type 0
  EquationMayStand X None = X
  EquationMayStand X (Some e) = (Stays ds (f e.0) × X) ⊎ IsTypedAgreement ds a (f e.0)

  abbrev mutual
    -- Modules may be put in the form: it reads all globals of those in W alone, but for equations that become typed ones.
    pub MayStand : Term → Type 0
    MayStand (Term' p (more_of-Head h end_of-Head) n ts t) = EquationMayStand (HeadMayStand W h × AllMayStand ts) (equated h (terms_in ts))

    pub AllMayStand : {n : _} → Row_of-Term n → Type 0
    AllMayStand end_of-Term = Unit {0}
    AllMayStand (more_of-Term t ts) = MayStand t × AllMayStand ts

-- Procedures of an interface have exactly the types that a module type asks for, with the names of parameters.
abbrev pub HasNamed : Option Interface → Procedures ProcedureType → Type 0
HasNamed None ts = ⊥
HasNamed (Some i) ts = (n : Name) (t : ProcedureType) → found ts n ≡ Some t → found i.procedures n ≡ Some t

-- .. and so have those of modules that are given for binders
abbrev pub AreNamedAs : Context → List Bind → List Mexp → Type 0
AreNamedAs c [] [] = Unit {0}
AreNamedAs c (b ∷ bs) (e ∷ es) = HasNamed (interface_at c.modules e) (signature_types (signatures_of (c.modules.types b.ty))) × AreNamedAs c bs es
AreNamedAs c _ _ = ⊥
