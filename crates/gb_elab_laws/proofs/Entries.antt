-- What commands `type`, `op` and `module type` declare is typed.
use Rattle.std.specs.Prelude.{pred}
use Rattle.std.proofs.Common.{◌≡◌, ℕ, ◌+◌, ◌<◌, ◌≤◌, Bool, true, false, ◌||◌, suc, if◌then◌else◌, List, [], ◌∷◌, ◌++◌, length, map, take, drop, Some, None, bytes_eq, refl, sym, subst, arith}
use Rattle.gb_core.specs.declared.place.Place.{Place}
use Rattle.gb_core.specs.declared.ty.Ty.{Ty}
use Rattle.gb_goal.specs.Answers.Answer.{given}
use Rattle.gb_goal.specs.Scope as scope
use Rattle.gb_goal.specs.Scope.{is_claim, entry_of, AreNew, ClaimNothing}
use Rattle.gb_goal.specs.declared.scope.Entry.{Entry}
use Rattle.gb_goal.specs.declared.scope.Entry.TheVariants as entry
use Rattle.gb_script.specs.declared.head.Head.{Head}
use Rattle.gb_script.specs.declared.head.Head.TheVariants as head
use Rattle.gb_script.specs.declared.tree.Node.{Node}
use Rattle.gb_script.specs.Tree.{head_of, text_of, parts_of, place_of}
use Rattle.gb_meaning.specs.Names.{Name}
use Rattle.gb_meaning.specs.Declared.{for_type, for_value, declared}
use Rattle.gb_meaning.proofs.Lists.{declared-append}
use Rattle.gb_typing.specs.Context.{Context}
use Rattle.gb_typing.specs.Scopes.{nothing, context_of, is_declared, IsAbbreviation, AreTypedAfter, IsTypedScope}
use Rattle.gb_names.specs.Types.{all_given, type_of, type_or_number}
use Rattle.gb_elab_prog.specs.Types.{constants, enumeration, enumeration_type, new, only, type_entries, without}
use Rattle.gb_elab_prog.specs.Fresh.{free}
use Rattle.gb_elab_prog.specs.Contexts.{nothing_bound}
use Rattle.gb_elab_prog.specs.Operators.{all_parameters, body, defined, operator_entry, undefined, written}
use Rattle.gb_elab_prog.specs.ModuleTypes.{module_type_entries}
use Rattle.gb_elab_prog.specs.Entries.{entries_by, entries_given}
use Rattle.gb_elab_prog.proofs.New.{given_bind, given_is, entries_new}
use Rattle.gb_elab_laws.proofs.Given.{not_given}
use Rattle.gb_elab_laws.proofs.Bodies.{IsOperatorIn, operator_typed}
use Rattle.gb_elab_laws.proofs.Members.{free_is}
use Rattle.gb_elab_laws.proofs.Literals.{enumeration_literal}
use Rattle.gb_elab_laws.proofs.ModuleTypes.{module_type_is}
use Rattle.gb_elab_laws.proofs.Scopes.{typed_after}
use Rattle.gb_elab_laws.proofs.Types.{spelled_typed}
use Rattle.gb_elab_laws.proofs.Declared.{declared_in}
use Rattle.gb_typing.specs.Naming.{NoName}
use Rattle.gb_elab_laws.specs.Speaking.{IsFirmScope, ScopeSpeaks}
use Rattle.gb_elab_laws.specs.Fitting.{AreTypes}

-- an abstract type, a name of a type of values, or a constant
abbrev pub IsGood : Entry → Type 0
IsGood entry.AbstractType = Unit {0}
IsGood (entry.Type t) = IsAbbreviation (for_type t)
IsGood (entry.Constant c) = IsAbbreviation (for_value c)
IsGood _ = ⊥

abbrev pub AreGood : scope.Declarations → Type 0
AreGood [] = Unit {0}
AreGood (d ∷ ds) = IsGood d.1 × AreGood ds

-- no module is among them
good_speaks : (ds : scope.Declarations) → AreGood ds → ScopeSpeaks NoName (declared ds)
good_speaks [] g = tt
good_speaks ((k, entry.AbstractType) ∷ ds) g = (tt, good_speaks ds g.1)
good_speaks ((k, entry.Type t) ∷ ds) g = (tt, good_speaks ds g.1)
good_speaks ((k, entry.Constant a) ∷ ds) g = (tt, good_speaks ds g.1)
good_speaks ((k, entry.Module m) ∷ ds) g = absurd g.0
good_speaks ((k, entry.ModuleType y) ∷ ds) g = absurd g.0
good_speaks ((k, entry.AbstractModule y) ∷ ds) g = absurd g.0
good_speaks ((k, entry.Lemma q order) ∷ ds) g = absurd g.0
good_speaks ((k, entry.Operator o) ∷ ds) g = absurd g.0
good_speaks ((k, entry.AbstractOperator o) ∷ ds) g = absurd g.0
good_speaks ((k, entry.Terminating p) ∷ ds) g = absurd g.0

good_firm : (ds : scope.Declarations) → AreGood ds → IsFirmScope ds
good_firm [] g = tt
good_firm ((k, entry.AbstractType) ∷ ds) g = (tt, good_firm ds g.1)
good_firm ((k, entry.Type t) ∷ ds) g = (tt, good_firm ds g.1)
good_firm ((k, entry.Constant a) ∷ ds) g = (tt, good_firm ds g.1)
good_firm ((k, entry.Module m) ∷ ds) g = absurd g.0
good_firm ((k, entry.ModuleType y) ∷ ds) g = absurd g.0
good_firm ((k, entry.AbstractModule y) ∷ ds) g = absurd g.0
good_firm ((k, entry.Lemma q order) ∷ ds) g = absurd g.0
good_firm ((k, entry.Operator o) ∷ ds) g = absurd g.0
good_firm ((k, entry.AbstractOperator o) ∷ ds) g = absurd g.0
good_firm ((k, entry.Terminating p) ∷ ds) g = absurd g.0

good_behind : (ds : scope.Declarations) (n : Name) (e : Entry) → AreGood ds → IsGood e → AreGood (ds ++ (n, e) ∷ [])
good_behind [] n e h k = (k, tt)
good_behind (d ∷ ds) n e h k = (h.0, good_behind ds n e h.1 k)

-- constants of an enumeration with room for them
constants_good : (ds : scope.Declarations) (x : Node) (size i : ℕ) (added all : scope.Declarations) (xs : List Node) → 0 < size → i + length xs ≤ size → AreGood added →
    constants ds (enumeration_type x size) i added xs ≡ given all → AreGood all
constants_good ds x size i added all [] some room h e = subst AreGood (given_is added all e) h
constants_good ds x size i added all (y ∷ ys) some room h e =
    let a = given_bind (new ds added y) _ all e in
    constants_good ds x size (suc i) _ all ys some (omega (arith, room)) (good_behind added (text_of y) _ h (some, enumeration_literal (text_of x) size i (omega (arith, room)))) a.2

-- where nothing stands behind what is declared
without_is : (xs : List Node) (added all : scope.Declarations) → without xs added ≡ given all → added ≡ all
without_is [] added all e = given_is added all e
without_is (x ∷ xs) added all e = absurd (not_given _ _ all e)

enumeration_good : (ds : scope.Declarations) (x : Node) (cs more : List Node) (all : scope.Declarations) → 0 < length cs → enumeration ds x cs more ≡ given all → AreGood all
enumeration_good ds x cs more all some e =
    let t : Ty = enumeration_type x (length cs) in
    let a = given_bind (constants ds t 0 (only x (entry.Type t)) cs) (without more) all e in
    subst AreGood (without_is more a.0 all a.2) (constants_good ds x (length cs) 0 (only x (entry.Type t)) a.0 cs some (omega arith) (some, tt) a.1)

types_good : (ds : scope.Declarations) → AreTypes ds → (x : Node) (h : Head) (ps : List Node) (p : Place) (all : scope.Declarations) → type_entries ds x h ps p ≡ given all → AreGood all
types_good ds names x head.AbstractType ps p all e = subst AreGood (given_is (only x entry.AbstractType) all e) (tt, tt)
types_good ds names x head.TypeAlias (t ∷ []) p all e =
    let a = given_bind (type_of ds t) _ all e in subst AreGood (given_is (only x (entry.Type a.0)) all a.2) (spelled_typed ds names t a.0 a.1, tt)
types_good ds names x head.Enumeration (c ∷ cs) p all e = enumeration_good ds x (take 256 (c ∷ cs)) (drop 256 (c ∷ cs)) all (omega arith) e
types_good ds names x _ ps p all e = absurd (not_given _ _ all e)

-- what no declaration has is declared by none
undeclared : (ds : scope.Declarations) (n : Name) → entry_of ds n ≡ None → is_declared (declared ds) n ≡ false
undeclared [] n e = refl
undeclared (d ∷ ds) n e = step (bytes_eq n d.0) (undeclared ds n) e
  where
    step : (b : Bool) → (entry_of ds n ≡ None → is_declared (declared ds) n ≡ false) → (if b then Some d.1 else entry_of ds n) ≡ None → (b || is_declared (declared ds) n) ≡ false
    step true f e = cc
    step false f e = f e

-- good entries of new names are typed, in each context
good_typed : (ds added : scope.Declarations) (c : Context) → AreNew ds added → AreGood added → AreTypedAfter c (declared ds) (declared added)
good_typed ds [] c n g = tt
good_typed ds ((k, entry.AbstractType) ∷ added) c n g = (
  undeclared ds k n.0,
  tt,
  subst (λ z. AreTypedAfter c z (declared added)) (declared-append ds ((k, entry.AbstractType) ∷ [])) (good_typed (ds ++ (k, entry.AbstractType) ∷ []) added c n.1 g.1),
)
good_typed ds ((k, entry.Type t) ∷ added) c n g = (
  undeclared ds k n.0,
  g.0,
  subst (λ z. AreTypedAfter c z (declared added)) (declared-append ds ((k, entry.Type t) ∷ [])) (good_typed (ds ++ (k, entry.Type t) ∷ []) added c n.1 g.1),
)
good_typed ds ((k, entry.Constant a) ∷ added) c n g = (
  undeclared ds k n.0,
  g.0,
  subst (λ z. AreTypedAfter c z (declared added)) (declared-append ds ((k, entry.Constant a) ∷ [])) (good_typed (ds ++ (k, entry.Constant a) ∷ []) added c n.1 g.1),
)
good_typed ds ((k, entry.Module m) ∷ added) c n g = absurd g.0
good_typed ds ((k, entry.ModuleType y) ∷ added) c n g = absurd g.0
good_typed ds ((k, entry.AbstractModule y) ∷ added) c n g = absurd g.0
good_typed ds ((k, entry.Lemma q order) ∷ added) c n g = absurd g.0
good_typed ds ((k, entry.Operator o) ∷ added) c n g = absurd g.0
good_typed ds ((k, entry.AbstractOperator o) ∷ added) c n g = absurd g.0
good_typed ds ((k, entry.Terminating p) ∷ added) c n g = absurd g.0

-- the entries claim nothing
other_behind : (ds : scope.Declarations) (n : Name) (e : Entry) → ClaimNothing ds → is_claim e ≡ false → ClaimNothing (ds ++ (n, e) ∷ [])
other_behind [] n e h k = (k, tt)
other_behind (d ∷ ds) n e h k = (h.0, other_behind ds n e h.1 k)

constants_others : (ds : scope.Declarations) (t : Ty) (i : ℕ) (added all : scope.Declarations) (xs : List Node) → ClaimNothing added → constants ds t i added xs ≡ given all → ClaimNothing all
constants_others ds t i added all [] h e = subst ClaimNothing (given_is added all e) h
constants_others ds t i added all (y ∷ ys) h e =
    let a = given_bind (new ds added y) _ all e in constants_others ds t (suc i) _ all ys (other_behind added (text_of y) _ h refl) a.2

enumeration_others : (ds : scope.Declarations) (x : Node) (cs more : List Node) (all : scope.Declarations) → enumeration ds x cs more ≡ given all → ClaimNothing all
enumeration_others ds x cs more all e =
    let t : Ty = enumeration_type x (length cs) in
    let a = given_bind (constants ds t 0 (only x (entry.Type t)) cs) (without more) all e in
    subst ClaimNothing (without_is more a.0 all a.2) (constants_others ds t 0 (only x (entry.Type t)) a.0 cs (refl, tt) a.1)

types_others : (ds : scope.Declarations) (x : Node) (h : Head) (ps : List Node) (p : Place) (all : scope.Declarations) → type_entries ds x h ps p ≡ given all → ClaimNothing all
types_others ds x head.AbstractType ps p all e = subst ClaimNothing (given_is (only x entry.AbstractType) all e) (refl, tt)
types_others ds x head.TypeAlias (t ∷ []) p all e =
    let a = given_bind (type_of ds t) _ all e in subst ClaimNothing (given_is (only x (entry.Type a.0)) all a.2) (refl, tt)
types_others ds x head.Enumeration (c ∷ cs) p all e = enumeration_others ds x (take 256 (c ∷ cs)) (drop 256 (c ∷ cs)) all e
types_others ds x _ ps p all e = absurd (not_given _ _ all e)

module_type_others : (ds : scope.Declarations) (x : Node) (ps ts : List Node) (all : scope.Declarations) → module_type_entries ds x ps ts ≡ given all → ClaimNothing all
module_type_others ds x ps ts all e = let t = module_type_is ds x ps ts all e in subst ClaimNothing t.is (refl, tt)

-- an operator of a new name is typed
operator_added : (ds : scope.Declarations) (x : Node) (e : Entry) → is_declared (declared ds) (text_of x) ≡ false → IsOperatorIn (context_of (declared ds)) e →
    AreTypedAfter (context_of (declared ds)) (declared ds) (declared (only x e))
operator_added ds x (entry.Operator o) f w = (f, w, tt)
operator_added ds x (entry.AbstractOperator o) f w = (f, w, tt)
operator_added ds x (entry.Module m) f w = absurd w
operator_added ds x (entry.Lemma q order) f w = absurd w
operator_added ds x (entry.Type t) f w = absurd w
operator_added ds x entry.AbstractType f w = absurd w
operator_added ds x (entry.ModuleType y) f w = absurd w
operator_added ds x (entry.AbstractModule y) f w = absurd w
operator_added ds x (entry.Constant a) f w = absurd w
operator_added ds x (entry.Terminating a) f w = absurd w

operator_speaks : (c : Context) (x : Node) (e : Entry) → IsOperatorIn c e → ScopeSpeaks NoName (declared (only x e))
operator_speaks c x (entry.Operator o) w = (tt, tt)
operator_speaks c x (entry.AbstractOperator o) w = (tt, tt)
operator_speaks c x (entry.Module m) w = absurd w
operator_speaks c x (entry.Lemma q order) w = absurd w
operator_speaks c x (entry.Type t) w = absurd w
operator_speaks c x entry.AbstractType w = absurd w
operator_speaks c x (entry.ModuleType y) w = absurd w
operator_speaks c x (entry.AbstractModule y) w = absurd w
operator_speaks c x (entry.Constant a) w = absurd w
operator_speaks c x (entry.Terminating a) w = absurd w

operator_firm : (c : Context) (x : Node) (e : Entry) → IsOperatorIn c e → IsFirmScope (only x e)
operator_firm c x (entry.Operator o) w = (tt, tt)
operator_firm c x (entry.AbstractOperator o) w = (tt, tt)
operator_firm c x (entry.Module m) w = absurd w
operator_firm c x (entry.Lemma q order) w = absurd w
operator_firm c x (entry.Type t) w = absurd w
operator_firm c x entry.AbstractType w = absurd w
operator_firm c x (entry.ModuleType y) w = absurd w
operator_firm c x (entry.AbstractModule y) w = absurd w
operator_firm c x (entry.Constant a) w = absurd w
operator_firm c x (entry.Terminating a) w = absurd w

-- what stands for an operator claims nothing
defined_other : (ds : scope.Declarations) (gs r : List Node) (t : Node) (e : Entry) → defined ds gs r t ≡ given e → is_claim e ≡ false
unfolding defined
defined_other ds gs r t e h =
    let b = given_bind (all_parameters ds nothing_bound gs) _ e h in
    let w = given_bind (written ds r) _ e b.2 in
    let f = given_bind (body ds b.0.values w.0 t) _ e w.2 in
    subst (λ z. is_claim z ≡ false) (given_is _ e f.2) refl

undefined_other : (ds : scope.Declarations) (ts rs : List Node) (p : Place) (e : Entry) → undefined ds ts rs p ≡ given e → is_claim e ≡ false
undefined_other ds ts (r ∷ []) p e h =
    let a = given_bind (all_given (map (type_of ds) ts)) _ e h in
    let b = given_bind (type_or_number ds r) _ e a.2 in
    subst (λ z. is_claim z ≡ false) (given_is _ e b.2) refl
undefined_other ds ts [] p e h = absurd (not_given _ _ e h)
undefined_other ds ts (r ∷ s ∷ rs) p e h = absurd (not_given _ _ e h)

operator_other : (ds : scope.Declarations) (h : Head) (ps : List Node) (p : Place) (e : Entry) → operator_entry ds h ps p ≡ given e → is_claim e ≡ false
operator_other ds head.DefinedOperator (gs ∷ r ∷ t ∷ []) p e k = defined_other ds (parts_of gs) (parts_of r) t e k
operator_other ds head.Constant (t ∷ []) p e k = defined_other ds [] [] t e k
operator_other ds head.TypedConstant (r ∷ t ∷ []) p e k = defined_other ds [] (r ∷ []) t e k
operator_other ds head.AbstractOperator ts p e k = undefined_other ds (take (pred (length ts)) ts) (drop (pred (length ts)) ts) p e k
operator_other ds _ ps p e k = absurd (not_given _ _ e k)

-- what a command declares is typed behind what is declared
abbrev AreAdded : scope.Declarations → scope.Declarations → Type 0
AreAdded ds added = AreTypedAfter (context_of (declared ds)) (declared ds) (declared added)

by_head : (ds : scope.Declarations) → IsTypedScope (declared ds) → (h : Head) (ps : List Node) (p : Place) (all : scope.Declarations) → entries_by ds h ps p ≡ given all → AreNew ds all → AreAdded ds all
by_head ds s head.TypeDeclaration (x ∷ d ∷ []) p all e n =
    let a = given_bind (free ds x) _ all e in
    let names = declared_in ds s in
    good_typed ds all (context_of (declared ds)) n (types_good ds names.types x (head_of d) (parts_of d) (place_of d) all a.2)
by_head ds s head.OperatorDeclaration (x ∷ d ∷ []) p all e n =
    let a = given_bind (free ds x) _ all e in
    let b = given_bind (operator_entry ds (head_of d) (parts_of d) (place_of d)) _ all a.2 in
    subst (AreAdded ds) (given_is (only x b.0) all b.2)
    (operator_added ds x b.0 (free_is ds x a.0 a.1) (operator_typed ds (context_of (declared ds)) (declared_in ds s) (head_of d) (parts_of d) (place_of d) b.0 b.1))
by_head ds s head.ModuleType (x ∷ ps ∷ ts ∷ []) p all e n =
    let t = module_type_is ds x (parts_of ps) (parts_of ts) all e in subst (AreAdded ds) t.is (t.free, t.typed s, tt)
by_head ds s _ ps p all e n = absurd (not_given _ _ all e)

pub entries_typed : (ds : scope.Declarations) → IsTypedScope (declared ds) → (t : Node) (all : scope.Declarations) → entries_given ds t ≡ given all → IsTypedScope (declared (ds ++ all))
entries_typed ds s t all e =
    subst IsTypedScope (sym (declared-append ds all))
    (typed_after nothing [] (declared ds) (declared all) s (by_head ds s (head_of t) (parts_of t) (place_of t) all e (entries_new ds t all e)))

-- it speaks of no module's globals together
speaks_by_head : (ds : scope.Declarations) → IsTypedScope (declared ds) → (h : Head) (ps : List Node) (p : Place) (all : scope.Declarations) → entries_by ds h ps p ≡ given all → ScopeSpeaks NoName (declared all)
speaks_by_head ds s head.TypeDeclaration (x ∷ d ∷ []) p all e =
    let a = given_bind (free ds x) _ all e in
    let names = declared_in ds s in
    good_speaks all (types_good ds names.types x (head_of d) (parts_of d) (place_of d) all a.2)
speaks_by_head ds s head.OperatorDeclaration (x ∷ d ∷ []) p all e =
    let a = given_bind (free ds x) _ all e in
    let b = given_bind (operator_entry ds (head_of d) (parts_of d) (place_of d)) _ all a.2 in
    subst (λ z. ScopeSpeaks NoName (declared z)) (given_is (only x b.0) all b.2)
    (operator_speaks (context_of (declared ds)) x b.0 (operator_typed ds (context_of (declared ds)) (declared_in ds s) (head_of d) (parts_of d) (place_of d) b.0 b.1))
speaks_by_head ds s head.ModuleType (x ∷ ps ∷ ts ∷ []) p all e =
    let t = module_type_is ds x (parts_of ps) (parts_of ts) all e in subst (λ z. ScopeSpeaks NoName (declared z)) t.is (tt, tt)
speaks_by_head ds s _ ps p all e = absurd (not_given _ _ all e)

pub entries_speak : (ds : scope.Declarations) → IsTypedScope (declared ds) → (t : Node) (all : scope.Declarations) → entries_given ds t ≡ given all → ScopeSpeaks NoName (declared all)
entries_speak ds s t all e = speaks_by_head ds s (head_of t) (parts_of t) (place_of t) all e

-- and no abstract module is among it
firm_by_head : (ds : scope.Declarations) → IsTypedScope (declared ds) → (h : Head) (ps : List Node) (p : Place) (all : scope.Declarations) → entries_by ds h ps p ≡ given all → IsFirmScope all
firm_by_head ds s head.TypeDeclaration (x ∷ d ∷ []) p all e =
    let a = given_bind (free ds x) _ all e in
    let names = declared_in ds s in
    good_firm all (types_good ds names.types x (head_of d) (parts_of d) (place_of d) all a.2)
firm_by_head ds s head.OperatorDeclaration (x ∷ d ∷ []) p all e =
    let a = given_bind (free ds x) _ all e in
    let b = given_bind (operator_entry ds (head_of d) (parts_of d) (place_of d)) _ all a.2 in
    subst IsFirmScope (given_is (only x b.0) all b.2)
    (operator_firm (context_of (declared ds)) x b.0 (operator_typed ds (context_of (declared ds)) (declared_in ds s) (head_of d) (parts_of d) (place_of d) b.0 b.1))
firm_by_head ds s head.ModuleType (x ∷ ps ∷ ts ∷ []) p all e =
    let t = module_type_is ds x (parts_of ps) (parts_of ts) all e in subst IsFirmScope t.is (tt, tt)
firm_by_head ds s _ ps p all e = absurd (not_given _ _ all e)

pub entries_firm : (ds : scope.Declarations) → IsTypedScope (declared ds) → (t : Node) (all : scope.Declarations) → entries_given ds t ≡ given all → IsFirmScope all
entries_firm ds s t all e = firm_by_head ds s (head_of t) (parts_of t) (place_of t) all e

-- and no lemma
others_by_head : (ds : scope.Declarations) (h : Head) (ps : List Node) (p : Place) (all : scope.Declarations) → entries_by ds h ps p ≡ given all → ClaimNothing all
others_by_head ds head.TypeDeclaration (x ∷ d ∷ []) p all e =
    let a = given_bind (free ds x) _ all e in types_others ds x (head_of d) (parts_of d) (place_of d) all a.2
others_by_head ds head.OperatorDeclaration (x ∷ d ∷ []) p all e =
    let a = given_bind (free ds x) _ all e in
    let b = given_bind (operator_entry ds (head_of d) (parts_of d) (place_of d)) _ all a.2 in
    subst ClaimNothing (given_is (only x b.0) all b.2) (operator_other ds (head_of d) (parts_of d) (place_of d) b.0 b.1, tt)
others_by_head ds head.ModuleType (x ∷ ps ∷ ts ∷ []) p all e = module_type_others ds x (parts_of ps) (parts_of ts) all e
others_by_head ds _ ps p all e = absurd (not_given _ _ all e)

pub entries_others : (ds : scope.Declarations) (t : Node) (all : scope.Declarations) → entries_given ds t ≡ given all → ClaimNothing all
entries_others ds t all e = others_by_head ds (head_of t) (parts_of t) (place_of t) all e
