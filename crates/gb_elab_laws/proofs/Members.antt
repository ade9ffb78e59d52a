-- What the typing of modules gives is typed.
use Rattle.std.proofs.Common.{◌≡◌, Bool, true, false, ◌||◌, if◌then◌else◌, List, [], ◌∷◌, ◌++◌, map, Option, Some, None, is_some, bytes_eq, refl, ap, sym, ◌∙◌, subst}
use Rattle.std.specs.List.{list_any}
use Rattle.std.proofs.lemmas.List.{append-nil, append_assoc}
use Rattle.std.proofs.lemmas.Slice.Eq.{bytes_eq-Decides}
use Rattle.gb_core.specs.declared.place.Place.{Place}
use Rattle.gb_core.specs.declared.refusal.Why.TheVariants.{DoubleName}
use Rattle.gb_core.specs.declared.ty.Ty.{Ty}
use Rattle.gb_terms.specs.declared.decl.Module.{Module}
use Rattle.gb_terms.specs.declared.decl.Proc.{Proc}
use Rattle.gb_terms.specs.declared.decl.TypedName.{TypedName}
use Rattle.gb_goal.specs.Answers.Answer.{given}
use Rattle.gb_goal.specs.Scope.{Declarations, as_module, entry_of, module_of}
use Rattle.gb_script.specs.declared.head.Head.{Head}
use Rattle.gb_script.specs.declared.head.Head.TheVariants as head
use Rattle.gb_script.specs.declared.tree.Node.{Node}
use Rattle.gb_script.specs.Tree.{head_of, text_of, parts_of, place_of}
use Rattle.gb_meaning.specs.Names.{Name}
use Rattle.gb_meaning.specs.Written.{local_type}
use Rattle.gb_laws.specs.Finite.{IsVariableType}
use Rattle.gb_names.specs.Binders.{of_type}
use Rattle.gb_names.specs.Types as spelled_as
use Rattle.gb_elab_prog.specs.Contexts.{nothing_around, taken, untaken}
use Rattle.gb_elab_prog.specs.Fresh.{free}
use Rattle.gb_elab_prog.specs.Modules.{empty_module, member_names, module_given, with_globals, with_member, with_members, with_procedure}
use Rattle.gb_elab_prog.specs.Procedures.{procedure_by}
use Rattle.gb_meaning.specs.Declared.{declared as declarations}
use Rattle.gb_meaning.specs.Modules.{Procedures}
use Rattle.gb_typing.specs.Context.{Context}
use Rattle.gb_typing.specs.Modules.{ProcedureType, Interface}
use Rattle.gb_typing.specs.Programs.{HaveVariableTypes, type_of_procedure}
use Rattle.gb_typing.specs.Scopes.{procedure_types, interface_with, in_module, context_of, is_declared, AreProcedures, AreTaken, HaveOwnNames, IsModule, IsTypedScope}
use Rattle.gb_typing.specs.Modules.{with_interface}
use Rattle.gb_typing.proofs.Globals.{name_test, or_false}
use Rattle.gb_typing.specs.Naming.{NoName}
use Rattle.gb_elab_laws.specs.Fitting.{of_no_module}
use Rattle.gb_elab_laws.specs.Speaking.{ProceduresSpeak}
use Rattle.gb_elab_laws.proofs.Given.{given_bind, given_is, if_absent, if_refused, none_of, none_some}
use Rattle.gb_elab_laws.proofs.Declared.{declared_in}
use Rattle.gb_elab_laws.proofs.Fits.{declared_globals}
use Rattle.gb_elab_laws.proofs.Found.{found}
use Rattle.gb_elab_laws.proofs.InnerModules.{inside_typed}
use Rattle.gb_elab_laws.proofs.KnownProcedures.{procedures_variable}
use Rattle.gb_elab_laws.proofs.Made.{module_made}
use Rattle.gb_elab_laws.proofs.Taken.{empty_bare, parameters_bare, parameters_taken}
use Rattle.gb_elab_laws.proofs.Programs.{have_both, procedure_typed}
use Rattle.gb_elab_laws.proofs.Around.{IsAround}
use Rattle.gb_elab_laws.proofs.Quantified.{variables_with}
use Rattle.gb_elab_laws.proofs.Shapes.{without_globs}
use Rattle.gb_elab_laws.proofs.Spoken.{procedures_behind}
use Rattle.gb_elab_laws.proofs.Types.{spelled_typed}

-- Globals under names of their own.

-- what is found in front stays
front_local : (ls ms : List TypedName) (x : Name) (t : Ty) → local_type ls x ≡ Some t → local_type (ls ++ ms) x ≡ Some t
front_local [] ms x t e = none_some t e
front_local (l ∷ ls) ms x t e = step (bytes_eq x l.name) (front_local ls ms x t) e
  where
    step : (b : Bool) → (local_type ls x ≡ Some t → local_type (ls ++ ms) x ≡ Some t) → (if b then Some l.ty else local_type ls x) ≡ Some t →
        (if b then Some l.ty else local_type (ls ++ ms) x) ≡ Some t
    step true f e = e
    step false f e = f e

-- a variable of another name behind others
other_last : (ls : List TypedName) (l : TypedName) (x : Name) → local_type ls x ≡ None → bytes_eq x l.name ≡ false → local_type (ls ++ l ∷ []) x ≡ None
other_last [] l x e f = ap (λ (b : Bool). if b then Some l.ty else None) f
other_last (k ∷ ls) l x e f =
    let o = if_absent (bytes_eq x k.name) k.ty (local_type ls x) e in
    ap (λ (b : Bool). if b then Some k.ty else local_type (ls ++ l ∷ []) x) o.0 ∙ other_last ls l x o.1 f

own_last : (ls : List TypedName) (l : TypedName) → HaveOwnNames ls → local_type ls l.name ≡ None → HaveOwnNames (ls ++ l ∷ [])
own_last [] l h e = (refl, tt)
own_last (k ∷ ls) l h e =
    let o = if_absent (bytes_eq l.name k.name) k.ty (local_type ls l.name) e in
    (other_last ls l k.name h.0 (name_test k.name l.name ∙ o.0), own_last ls l h.1 o.1)

-- names that are none of these aren't those of variables
abbrev Covers : List Name → List TypedName → Type 0
Covers ns ls = (y : Name) → list_any (bytes_eq y) ns ≡ false → local_type ls y ≡ None

neither : (ns : List Name) (n y : Name) → list_any (bytes_eq y) (ns ++ n ∷ []) ≡ false → (list_any (bytes_eq y) ns ≡ false) × (bytes_eq y n ≡ false)
neither [] n y e = (refl, (or_false (bytes_eq y n) false e).0)
neither (m ∷ ns) n y e =
    let o = or_false (bytes_eq y m) (list_any (bytes_eq y) (ns ++ n ∷ [])) e in
    let r = neither ns n y o.1 in
    ((λ i. o.0 i || r.0 i), r.1)

covers_last : (ns : List Name) (ls : List TypedName) (l : TypedName) → Covers ns ls → Covers (ns ++ l.name ∷ []) (ls ++ l ∷ [])
covers_last ns ls l h y e = let r = neither ns l.name y e in other_last ls l y (h y r.0) r.1

covers_front : (ls : List TypedName) (ns : List Name) → Covers (map (λ (v : TypedName). v.name) ls ++ ns) ls
covers_front [] ns y e = refl
covers_front (l ∷ ls) ns y e =
    let o = or_false (bytes_eq y l.name) (list_any (bytes_eq y) (map (λ (v : TypedName). v.name) ls ++ ns)) e in
    ap (λ (b : Bool). if b then Some l.ty else local_type ls y) o.0 ∙ covers_front ls ns y o.1

-- names that none has before, behind others
lines_own : (ns ms : List Name) (ls : List TypedName) (xs : List Node) (t : Ty) → Covers ns ls → HaveOwnNames ls → taken ns xs ≡ given ms → HaveOwnNames (ls ++ of_type xs t)
lines_own ns ms ls [] t c h e = subst HaveOwnNames (sym (append-nil ls)) h
lines_own ns ms ls (x ∷ xs) t c h e =
    let o = given_bind (untaken ns x) _ ms e in
    let f = if_refused (list_any (bytes_eq (text_of x)) ns) (DoubleName (text_of x)) (place_of x) (given tt) o.0 o.1 in
    let l : TypedName = record { name = text_of x; ty = t } in
    subst HaveOwnNames (append_assoc ls (l ∷ []) (of_type xs t))
    (lines_own (ns ++ text_of x ∷ []) ms (ls ++ l ∷ []) xs t (covers_last ns ls l c) (own_last ls l h (c (text_of x) f.0)) o.2)

lines_variable : (xs : List Node) (t : Ty) → IsVariableType t → HaveVariableTypes (of_type xs t)
lines_variable [] t h = tt
lines_variable (x ∷ xs) t h = (h, lines_variable xs t h)

-- Procedures behind others.
procedures_both : (c : Context) (m : Module) (earlier : Procedures ProcedureType) (ps qs : List Proc) → AreProcedures c m earlier ps →
    AreProcedures c m (earlier ++ procedure_types ps) qs → AreProcedures c m earlier (ps ++ qs)
procedures_both c m earlier [] qs h k = subst (λ z. AreProcedures c m z qs) (append-nil earlier) k
procedures_both c m earlier (p ∷ ps) qs h k =
    let next = subst (λ z. AreProcedures c m z qs) (sym (append_assoc earlier ((p.name, type_of_procedure p) ∷ []) (procedure_types ps))) k in
    (h.0, h.1, procedures_both c m (earlier ++ (p.name, type_of_procedure p) ∷ []) ps qs h.2 next)

-- A module that is typed so far.

-- its members are the first ones of another
pub record IsFront (k m : Module) : Type 0 where
  pub name : k.name ≡ m.name
  pub params : k.params ≡ m.params
  more : List TypedName
  globals : k.globals ++ more ≡ m.globals
  pub added : List Proc
  pub procs : k.procs ++ added ≡ m.procs

whole_front : (m : Module) → IsFront m m
whole_front m = record { name = refl; params = refl; more = []; globals = append-nil m.globals; added = []; procs = append-nil m.procs }

pub front_of : (k n m : Module) → IsFront k n → IsFront n m → IsFront k m
front_of k n m f g = record {
  name = f.name ∙ g.name;
  params = f.params ∙ g.params;
  more = f.more ++ g.more;
  globals = sym (append_assoc k.globals f.more g.more) ∙ ap (λ z. z ++ g.more) f.globals ∙ g.globals;
  added = f.added ++ g.added;
  procs = sym (append_assoc k.procs f.added g.added) ∙ ap (λ z. z ++ g.added) f.procs ∙ g.procs;
}

module _ (ds : Declarations) where
  lines_front : (k n : Module) (xs : List Node) (t : Node) → with_globals ds k xs t ≡ given n → IsFront k n
  lines_front k n xs t e =
      let o = given_bind (taken (member_names k) xs) _ n e in
      let u = given_bind (spelled_as.type_of ds t) (λ u. given (record k { globals = k.globals ++ of_type xs u })) n o.2 in
      subst (IsFront k) (given_is _ n u.2) (record { name = refl; params = refl; more = of_type xs u.0; globals = refl; added = []; procs = append-nil k.procs })

  procedure_front : (k n : Module) (h : Head) (ps : List Node) (p : Place) → with_procedure ds nothing_around k h ps p ≡ given n → IsFront k n
  procedure_front k n h ps p e =
      let q = given_bind (procedure_by ds nothing_around k h ps p) (λ q. given (record k { procs = k.procs ++ q ∷ [] })) n e in
      subst (IsFront k) (given_is _ n q.2) (record { name = refl; params = refl; more = []; globals = append-nil k.globals; added = q.0 ∷ []; procs = refl })

  pub member_front : (k n : Module) (h : Head) (ps : List Node) (p : Place) → with_member ds nothing_around k h ps p ≡ given n → IsFront k n
  member_front k n head.Globals (xs ∷ t ∷ []) p e = lines_front k n (parts_of xs) t e
  member_front k n h ps p e = procedure_front k n h ps p e

  pub members_front : (k m : Module) (ts : List Node) → with_members ds nothing_around k ts ≡ given m → IsFront k m
  unfolding with_members
  members_front k m [] e = subst (IsFront k) (given_is k m e) (whole_front k)
  members_front k m (t ∷ ts) e =
      let n = given_bind (with_member ds nothing_around k (head_of t) (parts_of t) (place_of t)) (λ n. with_members ds nothing_around n ts) m e in
      front_of k n.0 m (member_front k n.0 (head_of t) (parts_of t) (place_of t) n.1) (members_front n.0 m ts n.2)

-- its globals and procedures are typed in the context that the whole module makes
record IsPart (c : Context) (m k : Module) : Type 0 where
  types : HaveVariableTypes k.globals
  names : HaveOwnNames k.globals
  procs : AreProcedures c m [] k.procs
  speaks : ProceduresSpeak NoName k.procs

no_part : (c : Context) (m k : Module) → k.globals ≡ [] → k.procs ≡ [] → IsPart c m k
no_part c m k g p = record {
  types = subst HaveVariableTypes (sym g) tt;
  names = subst HaveOwnNames (sym g) tt;
  procs = subst (AreProcedures c m []) (sym p) tt;
  speaks = subst (ProceduresSpeak NoName) (sym p) tt;
}

made : (c : Context) (m : Module) → AreTaken (with_interface c.modules m.name (Some (interface_with c.modules.types m.params []))) m.params → IsPart c m m → IsModule c m.name m
made c m taken part = record {
  name = refl;
  params = taken;
  globals = part.types;
  names = part.names;
  procs = part.procs;
}

module _ (ds : Declarations) (scoped : IsTypedScope (declarations ds)) (m : Module) (new : entry_of ds m.name ≡ None) where
  abbrev c : Context
  c = context_of (declarations ds)

  -- the module isn't declared yet
  apart : (n : Name) (k : Module) → module_of ds n ≡ Some k → bytes_eq n m.name ≡ false
  apart n k e = step (bytes_eq n m.name) refl
    where
      step : (b : Bool) → bytes_eq n m.name ≡ b → b ≡ false
      step true i = none_some k (sym (ap as_module (ap (entry_of ds) ((bytes_eq-Decides n m.name).0 i) ∙ new)) ∙ e)
      step false i = refl

  -- what stands around the next member
  around : (k : Module) → IsFront k m → IsPart c m k → IsAround ds (in_module c m (procedure_types k.procs)) k
  around k f part = record {
    names = declared_in ds scoped;
    others = λ n r e x v g.
        let s = declared_globals ds scoped n r e x v g in (ap (λ (b : Bool). if b then local_type m.globals v.name else c.global n v.name) (apart n r e) ∙ s.0, s.1);
    own = λ x v g.
        let s = found k.globals x v g in
        let there : local_type m.globals v.name ≡ Some v.ty =
        ap (λ ls. local_type ls v.name) (sym f.globals) ∙ front_local k.globals f.more v.name v.ty (ap (local_type k.globals) s.name ∙ s.frame) in (
          ap (λ (b : Bool). if b then local_type m.globals v.name else c.global k.name v.name) ((bytes_eq-Decides k.name m.name).1 f.name) ∙ there,
          without_globs v.ty (s.finite_with of_no_module (variables_with of_no_module k.globals part.types)),
        );
    procedures = inside_typed ds scoped m k f.name f.params (procedures_variable c m [] k.procs part.procs);
  }

  lines_part : (k n : Module) (xs : List Node) (t : Node) → with_globals ds k xs t ≡ given n → IsPart c m k → IsPart c m n
  lines_part k n xs t e part =
      let o = given_bind (taken (member_names k) xs) _ n e in
      let u = given_bind (spelled_as.type_of ds t) (λ u. given (record k { globals = k.globals ++ of_type xs u })) n o.2 in
      let names = declared_in ds scoped in
      subst (IsPart c m) (given_is _ n u.2) (record {
        types = have_both k.globals (of_type xs u.0) part.types (lines_variable xs u.0 (spelled_typed ds names.types t u.0 u.1));
        names = lines_own (member_names k) o.0 k.globals xs u.0 (covers_front k.globals (map (λ (p : Proc). p.name) k.procs)) part.names o.1;
        procs = part.procs;
        speaks = part.speaks;
      })

  procedure_part : (k n : Module) (h : Head) (ps : List Node) (p : Place) → with_procedure ds nothing_around k h ps p ≡ given n → IsFront k m → IsPart c m k → IsPart c m n
  procedure_part k n h ps p e f part =
      let q = given_bind (procedure_by ds nothing_around k h ps p) (λ q. given (record k { procs = k.procs ++ q ∷ [] })) n e in
      let b = procedure_typed ds (in_module c m (procedure_types k.procs)) k (around k f part) h ps p q.0 q.1 in
      subst (IsPart c m) (given_is _ n q.2)
      (record {
        types = part.types;
        names = part.names;
        procs = procedures_both c m [] k.procs (q.0 ∷ []) part.procs (b.0, b.1, tt);
        speaks = procedures_behind NoName k.procs (q.0 ∷ []) part.speaks (b.2, tt);
      })

  member_part : (k n : Module) (h : Head) (ps : List Node) (p : Place) → with_member ds nothing_around k h ps p ≡ given n → IsFront k m → IsPart c m k → IsPart c m n
  member_part k n head.Globals (xs ∷ t ∷ []) p e f part = lines_part k n (parts_of xs) t e part
  member_part k n h ps p e f part = procedure_part k n h ps p e f part

  members_part : (k : Module) (ts : List Node) → with_members ds nothing_around k ts ≡ given m → IsPart c m k → IsPart c m m
  unfolding with_members
  members_part k [] e part = subst (IsPart c m) (given_is k m e) part
  members_part k (t ∷ ts) e part =
      let n = given_bind (with_member ds nothing_around k (head_of t) (parts_of t) (place_of t)) (λ n. with_members ds nothing_around n ts) m e in
      let f = front_of k n.0 m (member_front ds k n.0 (head_of t) (parts_of t) (place_of t) n.1) (members_front ds n.0 m ts n.2) in
      members_part n.0 ts n.2 (member_part k n.0 (head_of t) (parts_of t) (place_of t) n.1 f part)

-- Modules under free names.

pub unnamed : (ds : Declarations) (x : Node) (y : Unit {0}) → free ds x ≡ given y → entry_of ds (text_of x) ≡ None
unnamed ds x y h = none_of _ (if_refused (is_some (entry_of ds (text_of x))) (DoubleName (text_of x)) (place_of x) (given tt) y h).0

-- a name that a script hasn't declared is free
undeclared_is : (ds : Declarations) (n : Name) → is_some (entry_of ds n) ≡ false → is_declared (declarations ds) n ≡ false
undeclared_is [] n e = refl
undeclared_is (d ∷ ds) n e = step (bytes_eq n d.0) (undeclared_is ds n) e
  where
    step : (b : Bool) → (is_some (entry_of ds n) ≡ false → is_declared (declarations ds) n ≡ false) → is_some (if b then Some d.1 else entry_of ds n) ≡ false →
        (b || is_declared (declarations ds) n) ≡ false
    step true f e = cc
    step false f e = f e

pub free_is : (ds : Declarations) (x : Node) (y : Unit {0}) → free ds x ≡ given y → is_declared (declarations ds) (text_of x) ≡ false
free_is ds x y h = undeclared_is ds (text_of x) (if_refused (is_some (entry_of ds (text_of x))) (DoubleName (text_of x)) (place_of x) (given tt) y h).0

-- a module under a free name, which speaks of no module's globals together
abbrev IsNew : Declarations → Module → Type 0
IsNew ds m = (IsTypedScope (declarations ds) → IsModule (context_of (declarations ds)) m.name m × ProceduresSpeak NoName m.procs) × (is_declared (declarations ds) m.name ≡ false)

module_new : (ds : Declarations) (t : Node) (m : Module) → module_given ds t ≡ given m → IsNew ds m
module_new ds t m h =
    let from = module_made ds t m h in
    let x = from.name in
    let k = from.front in
    let bare = parameters_bare ds (text_of x) (empty_module (text_of x)) k from.params (empty_bare (text_of x)) from.taken in
    let front = members_front ds k m from.members from.made in
    let name : text_of x ≡ m.name = sym bare.name ∙ front.name in (
      λ w.
          let part =
          members_part ds w m (subst (λ n. entry_of ds n ≡ None) name (unnamed ds x tt from.free)) k from.members from.made
          (no_part (context_of (declarations ds)) m k bare.globals bare.procs) in
          let c = context_of (declarations ds) in
          let inner : Option Interface = Some (interface_with c.modules.types m.params []) in
          let taken = parameters_taken ds w (text_of x) inner (empty_module (text_of x)) k from.params refl tt from.taken in (
            made c m (subst (AreTaken (with_interface c.modules m.name inner)) front.params (subst (λ n. AreTaken (with_interface c.modules n inner) k.params) name taken)) part,
            part.speaks,
          ),
      subst (λ n. is_declared (declarations ds) n ≡ false) name (free_is ds x tt from.free),
    )

pub module_typed : (ds : Declarations) → IsTypedScope (declarations ds) → (t : Node) (m : Module) → module_given ds t ≡ given m → IsModule (context_of (declarations ds)) m.name m
module_typed ds w t m h = ((module_new ds t m h).0 w).0

pub module_speaks : (ds : Declarations) → IsTypedScope (declarations ds) → (t : Node) (m : Module) → module_given ds t ≡ given m → ProceduresSpeak NoName m.procs
module_speaks ds w t m h = ((module_new ds t m h).0 w).1

pub module_free : (ds : Declarations) (t : Node) (m : Module) → module_given ds t ≡ given m → is_declared (declarations ds) m.name ≡ false
module_free ds t m h = (module_new ds t m h).1
